-- Each object so far lost the name.
use Rattle.std.proofs.Common.{◌≡◌, drop}
use Rattle.trace_steps.specs.MoveTests.{replaced}
use Rattle.trace_steps.proofs.renaming.replaced.Given as goal

abbrev pub invariant-loop-row : goal.invariant-loop-row
invariant-loop-row l = replaced l.trace l.entry l.to l.handle l.target ≡ replaced l.trace l.entry l.to l.handle (drop l.row-index l.target)
