use Rattle.std.proofs.Common.{subst}
use Rattle.xdr_codec.specs.Bytes.{IsBytes}
use Rattle.xdr_codec.proofs.WholeLaws.{finds_owned}
use Rattle.mount_calls.proofs.Laws.{mount_call_codec, read_call_has}
use Rattle.mount_calls.proofs.call.read_mount_call.Goals as goal

pub returns-clause-spelled : goal.returns-clause-spelled
returns-clause-spelled c = finds_owned _ _ (mount_call_codec _) (subst IsBytes c.new.ensures c.holds_bytes.ensures) c.call_of.ensures

pub returns-clause-writable : goal.returns-clause-writable
returns-clause-writable c = read_call_has c.args.proc c.args.args.now _ (finds_owned _ _ (mount_call_codec c.args.proc) (subst IsBytes c.new.ensures c.holds_bytes.ensures) c.call_of.ensures)
