use Rattle.world_link.proofs.WorldBegins.{begins_honest}
use Rattle.world_link.proofs.schedule.parse_schedule.Goals as goal

pub returns-clause-honest : goal.returns-clause-honest
returns-clause-honest c = begins_honest c.args.text.now c.begin_world.result c.begin_world.ensures
