-- One place more.
use Rattle.std.proofs.Common.{arith, sym, subst, ℕ, List, ◌≡◌, ◌+◌, length}
use Rattle.std.proofs.lemmas.Grind.{common_steps}
use Rattle.trace_claims.specs.Coming.{HasCame}
use Rattle.trace_claims.proofs.Hearers.{came-none, came-more}
use Rattle.trace_claims.proofs.coming.all_came.Goals as goal

pub loop-place-init : goal.loop-place-init
loop-place-init c = record { within = omega arith; has = subst (λ (l : List ℕ). HasCame c.args.entries.now 0 l) (sym c.new-all.ensures.items) (came-none c.args.entries.now) }

pub loop-place-preserved : goal.loop-place-preserved
loop-place-preserved c = record {
  within = grind (arith, common_steps);
  has = subst (λ (l : List ℕ). HasCame c.args.entries.now (c.loop-place.place + 1) l) (sym c.in_ok-add_place.ensures)
      (came-more c.args.entries.now c.loop-place.place c.loop-place.all.items c.came_at.result c.came_at.ensures c.loop-place.invariant.has);
}

pub returns : goal.returns
returns c = subst (λ (k : ℕ). HasCame c.args.entries.now k c.loop-place.all.items) (let is : c.loop-place.place ≡ length c.args.entries.now = omega (arith, c.loop-place.invariant.within, c.loop-place-test.false) in is) c.loop-place.invariant.has
