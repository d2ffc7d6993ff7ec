use Rattle.std.proofs.Common.{refl}
use Rattle.op_machines.proofs.RestsStill.{open-file, put-file}
use Rattle.op_machines.proofs.resting.opener_rests.Goals as goal

pub returns-in-Open : goal.returns-in-Open
returns-in-Open c = rw c.in-Open.is (open-file _ c.args.shelf.now _ refl)

pub returns-in-Put : goal.returns-in-Put
returns-in-Put c = rw c.in-Put.is (put-file _ c.args.shelf.now _ c.rests.ensures)
