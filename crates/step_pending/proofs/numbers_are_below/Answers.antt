use Rattle.step_pending.proofs.Below.{rest-below, fly-below}
use Rattle.step_pending.proofs.numbers_are_below.Goals as goal

pub returns-clause-rest : goal.returns-clause-rest
returns-clause-rest c = rest-below

pub returns-clause-fly : goal.returns-clause-fly
returns-clause-fly c = fly-below
