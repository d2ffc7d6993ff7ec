use Rattle.op_machines.specs.Begun.{machine_of}
use Rattle.op_machines.proofs.Places.{machine-fits, fits-as}
use Rattle.op_machines.proofs.machine.Machine.new.Goals as goal

pub returns-clause-fits : goal.returns-clause-fits
returns-clause-fits c =
    let made = machine_of c.args.mounted.now c.args.lane c.args.op.now in
    fits-as c.machine_of.result made c.machine_of.ensures (machine-fits c.args.mounted.now c.args.lane c.args.op.now c.requires)
