-- So far each entry is lawful.
use Rattle.std.proofs.Common.{ℕ, length, ◌-◌, ◌<◌, ◌≤◌}
use Rattle.trace_lawful.specs.Judged.{AreSound, IsLawfulAt}
use Rattle.trace_lawful.proofs.lawful.first_unlawful.Given as goal

abbrev pub invariant-loop-entry : goal.invariant-loop-entry
invariant-loop-entry l = record {
  within : l.entry ≤ length l.trace.entries.items;
  sound : AreSound l.trace.start.objects.items;
  each : (m : ℕ) → m < l.entry → IsLawfulAt l.trace m;
}

abbrev pub decreases-loop-entry : goal.decreases-loop-entry
decreases-loop-entry l = length l.trace.entries.items - l.entry
