use Rattle.nfs_file_calls.proofs.WrittenCalls.{null_call_written}
use Rattle.nfs_file_calls.proofs.read_back.spells_call.Goals as goal

pub returns-in-Null : goal.returns-in-Null
returns-in-Null c = rw c.in-Null.is null_call_written
