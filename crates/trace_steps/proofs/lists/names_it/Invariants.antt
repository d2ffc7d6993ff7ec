-- No entry so far is a name for the object.
use Rattle.std.proofs.Common.{◌≡◌, drop}
use Rattle.trace_steps.specs.ListTests.{names_it}
use Rattle.trace_steps.proofs.lists.names_it.Given as goal

abbrev pub invariant-loop-entry : goal.invariant-loop-entry
invariant-loop-entry l = names_it l.handle l.entries ≡ names_it l.handle (drop l.entry-index l.entries)
