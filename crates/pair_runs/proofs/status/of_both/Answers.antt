use Rattle.pair_runs.proofs.BothStatuses.{both-status}
use Rattle.pair_runs.proofs.status.of_both.Goals as goal

pub returns-clause-range : goal.returns-clause-range
returns-clause-range c = both-status c.max.result c.args.a c.args.b c.max.ensures c.requires.first c.requires.second
