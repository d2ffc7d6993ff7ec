-- No entry so far has the name.
use Rattle.std.proofs.Common.{◌≡◌, drop}
use Rattle.trace_steps.specs.ListTests.{lacks}
use Rattle.trace_steps.proofs.lists.lacks.Given as goal

abbrev pub invariant-loop-entry : goal.invariant-loop-entry
invariant-loop-entry l = lacks l.name l.entries ≡ lacks l.name (drop l.entry-index l.entries)
