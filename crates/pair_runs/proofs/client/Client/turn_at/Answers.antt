use Rattle.std.proofs.Common.{refl}
use Rattle.pair_runs.proofs.Turning.{fewer-so, goes-so, less-so, over-so, ready-so, same-so}
use Rattle.pair_runs.proofs.client.Client.turn_at.Goals as goal

pub returns-in-Ok-clause-ready : goal.returns-in-Ok-clause-ready
returns-in-Ok-clause-ready g c =
    ready-so c.args.self.now c.advance.new.self c.settle.new.self c.in-Ok.done c.settle.result c.advance.ensures.same c.settle.ensures.left c.settle.ensures.moved c.requires c.in-Ok.ensures.stands

pub returns-in-Ok-clause-same : goal.returns-in-Ok-clause-same
returns-in-Ok-clause-same g c = same-so c.args.self.now c.advance.new.self c.settle.new.self c.in-Ok.done c.settle.result c.advance.ensures.same c.settle.ensures.left c.settle.ensures.moved

pub returns-in-Ok-clause-over : goal.returns-in-Ok-clause-over
returns-in-Ok-clause-over g c = over-so c.args.self.now c.advance.new.self c.settle.new.self c.in-Ok.done c.settle.result c.advance.ensures.same c.settle.ensures.left c.settle.ensures.moved

pub returns-in-Ok-clause-less : goal.returns-in-Ok-clause-less
returns-in-Ok-clause-less g c =
    less-so c.args.self.now c.advance.new.self c.settle.new.self c.in-Ok.done c.settle.result c.advance.ensures.same c.settle.ensures.left c.settle.ensures.moved c.in-Ok.ensures.less

pub returns-in-Ok-clause-fewer : goal.returns-in-Ok-clause-fewer
returns-in-Ok-clause-fewer g c =
    fewer-so c.args.self.now c.advance.new.self c.settle.new.self c.in-Ok.done c.settle.result c.advance.ensures.same c.settle.ensures.left c.settle.ensures.moved c.in-Ok.ensures.less

pub returns-in-Ok-clause-goes : goal.returns-in-Ok-clause-goes
returns-in-Ok-clause-goes g c =
    goes-so c.args.self.now c.advance.new.self c.settle.new.self c.in-Ok.done c.settle.result c.advance.ensures.same c.settle.ensures.left c.settle.ensures.moved _ _ _ _ _ _ _ c.in-Ok.ensures.goes
