-- One place more.
use Rattle.std.proofs.Common.{ℕ, List, ◌≡◌, length, sym, ◌∙◌, subst, arith}
use Rattle.std.proofs.lemmas.Grind.{common_steps}
use Rattle.trace_claims.specs.Mounting.{NoMount, IsMounted}
use Rattle.trace_claims.proofs.Rooting.{nothing-yet, nothing-here, first-here, first-nowhere}
use Rattle.trace_claims.proofs.paths.first_mount.Goals as goal

pub loop-at-init : goal.loop-at-init
loop-at-init c = record { within = omega arith; none = nothing-yet c.args.entries.now }

pub returns-in-Some : goal.returns-in-Some
returns-in-Some c = first-here c.args.entries.now c.loop-at.at c.in-Some.path (rw c.in-Some.is at c.in_ok-path.ensures) c.loop-at.invariant.none

pub loop-at-preserved : goal.loop-at-preserved
loop-at-preserved c = record {
  within = grind (arith, common_steps);
  none = nothing-here c.args.entries.now c.loop-at.at (rw c.in-None.is at c.in_ok-path.ensures) c.loop-at.invariant.none;
}

pub returns : goal.returns
returns c = subst (λ (p : List ℕ). IsMounted c.args.entries.now p) (sym (c.of.ensures ∙ c.new.ensures.items)) (first-nowhere c.args.entries.now (subst (λ (k : ℕ). NoMount c.args.entries.now k) (let is : c.loop-at.at ≡ length c.args.entries.now = omega (arith, c.loop-at.invariant.within, c.loop-at-test.false) in is) c.loop-at.invariant.none))
