-- No entry so far is that one.
use Rattle.std.proofs.Common.{◌≡◌, drop}
use Rattle.trace_steps.specs.ListTests.{has_this}
use Rattle.trace_steps.proofs.lists.has_this.Given as goal

abbrev pub invariant-loop-entry : goal.invariant-loop-entry
invariant-loop-entry l = has_this l.wanted l.entries ≡ has_this l.wanted (drop l.entry-index l.entries)
