-- No entry so far has the name with the cookie.
use Rattle.std.proofs.Common.{◌≡◌, drop}
use Rattle.trace_steps.specs.ListTests.{has_row}
use Rattle.trace_steps.proofs.pages.has_row.Given as goal

abbrev pub invariant-loop-entry : goal.invariant-loop-entry
invariant-loop-entry l = has_row l.name l.cookie l.entries ≡ has_row l.name l.cookie (drop l.entry-index l.entries)
