-- So far no place passes.
use Rattle.std.proofs.Common.{length, ◌-◌, ◌≡◌, ◌≤◌, false}
use Rattle.trace_rules.specs.Decided.{any_below}
use Rattle.trace_steps.specs.MoveTests.{renames_at}
use Rattle.trace_steps.proofs.renaming.renames_among.Given as goal

abbrev pub invariant-loop-place : goal.invariant-loop-place
invariant-loop-place l = record {
  within : l.place ≤ length l.source;
  none : any_below (λ k. renames_at l.trace l.entry l.from_dir l.from l.to_dir l.to l.target l.source k) l.place ≡ false;
}

abbrev pub decreases-loop-place : goal.decreases-loop-place
decreases-loop-place l = length l.source - l.place
