use Rattle.std.proofs.Common.{subst}
use Rattle.xdr_codec.specs.Bytes.{IsBytes}
use Rattle.xdr_codec.proofs.WholeLaws.{finds_owned}
use Rattle.nfs_file_calls.proofs.CallLaws.{file_call_codec, read_call_has}
use Rattle.nfs_file_calls.proofs.call.read_file_call.Goals as goal

pub returns-clause-spelled : goal.returns-clause-spelled
returns-clause-spelled c = finds_owned _ _ (file_call_codec _) (subst IsBytes c.new-reader.ensures c.holds_bytes.ensures) c.file_call.ensures

pub returns-clause-writable : goal.returns-clause-writable
returns-clause-writable c = read_call_has c.args.proc c.args.args.now _ (finds_owned _ _ (file_call_codec c.args.proc) (subst IsBytes c.new-reader.ensures c.holds_bytes.ensures) c.file_call.ensures)
