-- So far no place passes.
use Rattle.std.proofs.Common.{length, ◌-◌, ◌≡◌, ◌≤◌, false}
use Rattle.trace_rules.specs.Decided.{any_below}
use Rattle.trace_steps.specs.MoveTests.{replaces_at}
use Rattle.trace_steps.proofs.renaming.replaces.Given as goal

abbrev pub invariant-loop-place : goal.invariant-loop-place
invariant-loop-place l = record {
  within : l.place ≤ length l.new;
  none : any_below (λ k. replaces_at l.name l.handle l.old l.new k) l.place ≡ false;
}

abbrev pub decreases-loop-place : goal.decreases-loop-place
decreases-loop-place l = length l.new - l.place
