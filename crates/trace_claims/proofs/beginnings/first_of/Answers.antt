-- The whole, or the first beginning.
use Rattle.std.proofs.Common.{sym, subst, ap, length, ◌≤◌, ℕ, ◌≡◌, ◌∙◌}
use Rattle.trace_claims.specs.Judging.{FindsFirst, most_of}
use Rattle.trace_claims.proofs.Judgement.{first-whole, first-found, most-within}
use Rattle.trace_claims.proofs.beginnings.first_of.Goals as goal

pub returns-then-keeps_whole : goal.returns-then-keeps_whole
returns-then-keeps_whole c m origin all = first-whole m origin c.args.trace.now c.args.limit c.keeps_whole.result (c.keeps_whole.ensures m origin all (ap length c.as_slice-entries.ensures.value)) c.if-keeps_whole.true

pub returns : goal.returns
returns c m origin all =
    let count : length c.as_slice-entries.result.now ≡ length c.args.trace.now.entries.items = ap length c.as_slice-entries.ensures.value in
    let most = c.most_of.ensures ∙ ap (λ (z : ℕ). most_of c.args.limit z) count in
    first-found m origin c.args.trace.now c.args.limit c.keeps_whole.result (c.keeps_whole.ensures m origin all count) c.if-keeps_whole.false c.first_up_to.result
    (subst (λ (z : ℕ). FindsFirst m origin c.args.trace.now z c.first_up_to.result) most
    (c.first_up_to.ensures m origin all (subst (λ (z : ℕ). z ≤ length c.args.trace.now.entries.items) (sym most) (most-within c.args.limit (length c.args.trace.now.entries.items)))))
