use Rattle.pair_runs.proofs.Openings.{opens-memory, opens-lost, opens-refused}
use Rattle.pair_runs.proofs.client.unopened.Goals as goal

pub returns-in-Memory-clause-opened : goal.returns-in-Memory-clause-opened
returns-in-Memory-clause-opened c = λ first script h so. opens-memory first script c.args.fault h c.in-Memory.is so

pub returns-in-Lost-clause-opened : goal.returns-in-Lost-clause-opened
returns-in-Lost-clause-opened c = λ first script h so. opens-lost first script _ c.args.fault h c.in-Lost.is so

pub returns-in-Refused-clause-opened : goal.returns-in-Refused-clause-opened
returns-in-Refused-clause-opened c = λ first script h so. opens-refused first script _ c.args.fault h c.in-Refused.is so
