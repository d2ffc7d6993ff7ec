-- Each name so far is `.` or `..`.
use Rattle.std.proofs.Common.{◌≡◌, drop}
use Rattle.trace_steps.specs.ListTests.{is_bare}
use Rattle.trace_steps.proofs.lists.is_bare.Given as goal

abbrev pub invariant-loop-entry : goal.invariant-loop-entry
invariant-loop-entry l = is_bare l.entries ≡ is_bare (drop l.entry-index l.entries)
