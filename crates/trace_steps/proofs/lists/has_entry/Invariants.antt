-- No entry so far has the name for the object.
use Rattle.std.proofs.Common.{◌≡◌, drop}
use Rattle.trace_steps.specs.ListTests.{has_entry}
use Rattle.trace_steps.proofs.lists.has_entry.Given as goal

abbrev pub invariant-loop-entry : goal.invariant-loop-entry
invariant-loop-entry l = has_entry l.name l.handle l.entries ≡ has_entry l.name l.handle (drop l.entry-index l.entries)
