use Rattle.op_machines.proofs.RestsStill.{file-rests, path-rests, name-rests}
use Rattle.op_machines.proofs.machine.Machine.rests.Goals as goal

pub returns-in-File : goal.returns-in-File
returns-in-File c = rw c.in-File.is (file-rests _ c.args.shelf.now _ c.file_rests.ensures)

pub returns-in-Path : goal.returns-in-Path
returns-in-Path c = rw c.in-Path.is (path-rests _ c.args.shelf.now _ c.path_rests.ensures)

pub returns-in-Name : goal.returns-in-Name
returns-in-Name c = rw c.in-Name.is (name-rests _ c.args.shelf.now _ c.name_rests.ensures)
