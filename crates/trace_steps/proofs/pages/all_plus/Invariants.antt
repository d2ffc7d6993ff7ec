-- Each row so far is of an entry.
use Rattle.std.proofs.Common.{◌≡◌, drop}
use Rattle.trace_steps.specs.PageTests.{all_plus}
use Rattle.trace_steps.proofs.pages.all_plus.Given as goal

abbrev pub invariant-loop-row : goal.invariant-loop-row
invariant-loop-row l = all_plus l.trace l.entry l.entries l.rows ≡ all_plus l.trace l.entry l.entries (drop l.row-index l.rows)
