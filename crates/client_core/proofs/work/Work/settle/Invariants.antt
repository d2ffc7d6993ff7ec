use Rattle.client_core.specs.Steps.{Moves}
use Rattle.client_core.specs.View.{IsSound}
use Rattle.client_core.proofs.Settling.{steps_left}
use Rattle.client_core.proofs.work.Work.settle.Given as goal

abbrev pub invariant-settling : goal.invariant-settling
invariant-settling l = Moves l.fn.self l.self × IsSound l.self

abbrev pub decreases-settling : goal.decreases-settling
decreases-settling l = steps_left l.self
