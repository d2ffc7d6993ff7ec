use Rattle.std.proofs.Common.{rules, ◌∙◌}
use Rattle.world_link.proofs.LastNames.{last_is}
use Rattle.world_link.proofs.server.Server.last_in.Goals as goal

pub returns-in-Some : goal.returns-in-Some
returns-in-Some c = c.in_dir.ensures ∙ last_is c.args.self.now.export c.args.path.now c.in-Some.front.now c.in-Some.name.now (search rules)
