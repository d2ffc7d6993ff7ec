use Rattle.xdr_codec.proofs.WholeLaws.{finds_owned}
use Rattle.nfs_dir_calls.proofs.Calls.{dir_call_codec}
use Rattle.nfs_dir_calls.proofs.HasSpelling.{read_call_has}
use Rattle.nfs_dir_calls.proofs.call.read_dir_call.Goals as goal

pub returns-clause-spelled : goal.returns-clause-spelled
returns-clause-spelled c = finds_owned _ _ (dir_call_codec _) (rw c.new.ensures at c.holds_bytes.ensures) c.call_of.ensures

pub returns-clause-writable : goal.returns-clause-writable
returns-clause-writable c = read_call_has c.args.proc c.args.args.now _ (finds_owned _ _ (dir_call_codec c.args.proc) (rw c.new.ensures at c.holds_bytes.ensures) c.call_of.ensures)
