use Rattle.std.proofs.Common.{◌∙◌, arith}
use Rattle.world_link.proofs.WorldTellsCalls.{dials_adds}
use Rattle.world_link.proofs.WorldKeepsContract.{dials_honest}
use Rattle.world_link.specs.View.{seen}
use Rattle.world_link.proofs.world.WorldLink.dial.Goals as goal

pub returns-clause-told : goal.returns-clause-told
returns-clause-told c = dials_adds (seen c.args.self.now) (seen c.dial_port.new.self) c.args.port c.dial_port.result c.dial_port.ensures.exact

pub returns-clause-honest : goal.returns-clause-honest
returns-clause-honest c = dials_honest (seen c.args.self.now) (seen c.dial_port.new.self) c.args.port c.dial_port.result c.dial_port.ensures.exact

pub returns-clause-stays : goal.returns-clause-stays
returns-clause-stays c = λ first s. (dials_adds (seen c.args.self.now) (seen c.dial_port.new.self) c.args.port c.dial_port.result c.dial_port.ensures.exact).earlier 0 (omega arith) ∙ s
