-- So far each object is spared.
use Rattle.std.proofs.Common.{length, ◌-◌, ◌≡◌, ◌≤◌, true}
use Rattle.trace_data.specs.Histories.{objects_after}
use Rattle.trace_rules.specs.Decided.{all_below}
use Rattle.trace_rules.specs.Keeping.{keeps_verf}
use Rattle.trace_steps.specs.MomentTests.{is_one, spares_at}
use Rattle.trace_steps.proofs.moments.only.Given as goal

abbrev pub invariant-loop-place : goal.invariant-loop-place
invariant-loop-place l = record {
  within : l.place ≤ length (objects_after l.trace.updates.items l.entry);
  verf : keeps_verf l.trace.start.verf l.trace.updates.items l.entry ≡ true;
  all : all_below (λ k. spares_at (is_one l.a l.b l.c) l.trace l.entry k) l.place ≡ true;
}

abbrev pub decreases-loop-place : goal.decreases-loop-place
decreases-loop-place l = length (objects_after l.trace.updates.items l.entry) - l.place
