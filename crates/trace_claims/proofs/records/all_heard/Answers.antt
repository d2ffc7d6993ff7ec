-- One place more.
use Rattle.std.proofs.Common.{arith, sym, subst, ℕ, List, ◌≡◌, ◌+◌, length}
use Rattle.std.proofs.lemmas.Grind.{common_steps}
use Rattle.trace_claims.specs.declared.records.Heard.{Heard}
use Rattle.trace_claims.specs.Hearing.{HasHeard}
use Rattle.trace_claims.proofs.Hearers.{heard-none, heard-more}
use Rattle.trace_claims.proofs.records.all_heard.Goals as goal

pub loop-place-init : goal.loop-place-init
loop-place-init c = record { within = omega arith; has = subst (λ (l : List Heard). HasHeard c.args.entries.now 0 l) (sym c.new-all.ensures.items) (heard-none c.args.entries.now) }

pub loop-place-preserved : goal.loop-place-preserved
loop-place-preserved c = record {
  within = grind (arith, common_steps);
  has = subst (λ (l : List Heard). HasHeard c.args.entries.now (c.loop-place.place + 1) l) (sym c.in_ok-add_heard.ensures)
      (heard-more c.args.entries.now c.loop-place.place c.loop-place.all.items c.in_ok-heard.heard c.in_ok-heard.ensures c.loop-place.invariant.has);
}

pub returns : goal.returns
returns c = subst (λ (k : ℕ). HasHeard c.args.entries.now k c.loop-place.all.items) (let is : c.loop-place.place ≡ length c.args.entries.now = omega (arith, c.loop-place.invariant.within, c.loop-place-test.false) in is) c.loop-place.invariant.has
