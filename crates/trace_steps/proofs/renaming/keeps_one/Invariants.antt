-- No entry so far passes.
use Rattle.std.proofs.Common.{◌≡◌, drop}
use Rattle.trace_steps.specs.MoveTests.{keeps_one}
use Rattle.trace_steps.proofs.renaming.keeps_one.Given as goal

abbrev pub invariant-loop-row : goal.invariant-loop-row
invariant-loop-row l = keeps_one l.trace l.entry l.from_dir l.from l.to_dir l.to l.rows ≡ keeps_one l.trace l.entry l.from_dir l.from l.to_dir l.to (drop l.row-index l.rows)
