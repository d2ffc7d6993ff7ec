-- Each row so far is of an entry.
use Rattle.std.proofs.Common.{◌≡◌, drop}
use Rattle.trace_steps.specs.PageTests.{all_rows}
use Rattle.trace_steps.proofs.pages.all_rows.Given as goal

abbrev pub invariant-loop-row : goal.invariant-loop-row
invariant-loop-row l = all_rows l.entries l.rows ≡ all_rows l.entries (drop l.row-index l.rows)
