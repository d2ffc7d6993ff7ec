use Rattle.op_machines.proofs.RestsStill.{read-file, write-file, sync-file, close-file, truncate-file, put-file}
use Rattle.op_machines.proofs.resting.file_rests.Goals as goal

pub returns-in-Read : goal.returns-in-Read
returns-in-Read c = rw c.in-Read.is (read-file _ c.args.shelf.now _ c.rests.ensures)

pub returns-in-Write : goal.returns-in-Write
returns-in-Write c = rw c.in-Write.is (write-file _ c.args.shelf.now _ c.rests-in-Write.ensures)

pub returns-in-Sync : goal.returns-in-Sync
returns-in-Sync c = rw c.in-Sync.is (sync-file _ c.args.shelf.now _ c.rests-in-Sync.ensures)

pub returns-in-Close : goal.returns-in-Close
returns-in-Close c = rw c.in-Close.is (close-file _ c.args.shelf.now _ c.rests-in-Close.ensures)

pub returns-in-Truncate : goal.returns-in-Truncate
returns-in-Truncate c = rw c.in-Truncate.is (truncate-file _ c.args.shelf.now _ c.truncate_rests.ensures)

pub returns-in-Put : goal.returns-in-Put
returns-in-Put c = rw c.in-Put.is (put-file _ c.args.shelf.now _ c.rests-in-Put.ensures)
