use Rattle.world_link.proofs.PairBegins.{begins_honest_pair, begins_letters}
use Rattle.world_link.proofs.pair_schedule.parse_pair.Goals as goal

pub returns-clause-honest : goal.returns-clause-honest
returns-clause-honest c = begins_honest_pair c.args.text.now c.begin_pair.result c.begin_pair.ensures

pub returns-clause-letters : goal.returns-clause-letters
returns-clause-letters c = begins_letters c.args.text.now c.begin_pair.result c.begin_pair.ensures
