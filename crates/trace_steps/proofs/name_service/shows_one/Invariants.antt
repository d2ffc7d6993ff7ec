-- No entry so far is the one that is shown.
use Rattle.std.proofs.Common.{◌≡◌, drop}
use Rattle.trace_steps.specs.NameTests.{shows_one}
use Rattle.trace_steps.proofs.name_service.shows_one.Given as goal

abbrev pub invariant-loop-row : goal.invariant-loop-row
invariant-loop-row l = shows_one l.trace l.entry l.name l.found l.attr l.rows ≡ shows_one l.trace l.entry l.name l.found l.attr (drop l.row-index l.rows)
