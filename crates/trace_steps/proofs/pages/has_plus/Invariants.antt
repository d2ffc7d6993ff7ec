-- No entry so far is what the row shows.
use Rattle.std.proofs.Common.{◌≡◌, drop}
use Rattle.trace_steps.specs.PageTests.{has_plus}
use Rattle.trace_steps.proofs.pages.has_plus.Given as goal

abbrev pub invariant-loop-listed : goal.invariant-loop-listed
invariant-loop-listed l = has_plus l.trace l.entry l.row l.entries ≡ has_plus l.trace l.entry l.row (drop l.listed-index l.entries)
