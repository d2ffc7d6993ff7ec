use Rattle.anew_link.proofs.Splits.{untold}
use Rattle.anew_link.proofs.anew.AnewLink.tells.Goals as goal

pub returns : goal.returns
returns g c = untold c.tells.result c.args.self.now.own (g.L.Link.told c.args.self.now.link.now) c.tells.ensures
