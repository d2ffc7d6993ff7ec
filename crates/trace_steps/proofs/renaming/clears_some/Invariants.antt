-- So far no place passes.
use Rattle.std.proofs.Common.{length, ◌-◌, ◌≡◌, ◌≤◌, false}
use Rattle.trace_rules.specs.Decided.{any_below}
use Rattle.trace_steps.specs.MoveTests.{clears_at}
use Rattle.trace_steps.proofs.renaming.clears_some.Given as goal

abbrev pub invariant-loop-place : goal.invariant-loop-place
invariant-loop-place l = record {
  within : l.place ≤ length l.old;
  none : any_below (λ k. clears_at l.name l.old l.new k) l.place ≡ false;
}

abbrev pub decreases-loop-place : goal.decreases-loop-place
decreases-loop-place l = length l.old - l.place
