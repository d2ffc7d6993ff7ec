use Rattle.std.proofs.Common.{refl}
use Rattle.op_machines.proofs.RestsStill.{arrived-rests, walking-rests}
use Rattle.op_machines.proofs.resting.path_rests.Goals as goal

pub returns-then-path : goal.returns-then-path
returns-then-path c = arrived-rests c.args.path.now c.args.shelf.now _ c.if-path.true c.opener_rests.ensures

pub returns : goal.returns
returns c = walking-rests c.args.path.now c.args.shelf.now _ c.if-path.false refl
