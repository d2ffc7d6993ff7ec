-- No entry so far is of such a file.
use Rattle.std.proofs.Common.{◌≡◌, drop}
use Rattle.trace_steps.specs.NameTests.{meets_one}
use Rattle.trace_steps.proofs.name_service.meets_one.Given as goal

abbrev pub invariant-loop-row : goal.invariant-loop-row
invariant-loop-row l = meets_one l.trace l.entry l.dir l.name l.size l.rows ≡ meets_one l.trace l.entry l.dir l.name l.size (drop l.row-index l.rows)
