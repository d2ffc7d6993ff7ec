-- One more.
use Rattle.std.proofs.Common.{List, ◌≡◌, ◌++◌, ◌∷◌, [], length, Some, slice_get, refl, ◌∙◌, ap, arith}
use Rattle.std.proofs.lemmas.Grind.{common_steps}
use Rattle.std.proofs.lemmas.Option.{slice_get_read}
use Rattle.trace_claims.specs.declared.operations.Lead.{Lead}
use Rattle.trace_claims.proofs.Digesting.{take-name, take-whole}
use Rattle.trace_claims.proofs.paths.copied.Goals as goal

pub loop-at-init : goal.loop-at-init
loop-at-init c = record { within = omega arith; same = c.new-all.ensures.items }

pub loop-at-preserved : goal.loop-at-preserved
loop-at-preserved c =
    let at : slice_get c.args.list.now c.loop-at.at ≡ Some c.index-list-at.result = slice_get_read c.args.list.now (length c.args.list.now) c.loop-at.at c.index-list-at.result refl c.loop-at-test.true c.index-list-at.is in
    record {
      within = grind (arith, common_steps);
      same = c.in_ok-add_lead.ensures ∙ (ap (λ (l : List Lead). l ++ c.index-list-at.result ∷ []) c.loop-at.invariant.same ∙ take-name c.args.list.now c.loop-at.at c.index-list-at.result at);
    }

pub returns : goal.returns
returns c = c.loop-at.invariant.same ∙ take-whole c.args.list.now c.loop-at.at (let is : c.loop-at.at ≡ length c.args.list.now = omega (arith, c.loop-at.invariant.within, c.loop-at-test.false) in is)
