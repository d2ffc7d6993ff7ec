use Rattle.std.proofs.Common.{subst}
use Rattle.xdr_codec.specs.Bytes.{IsBytes}
use Rattle.xdr_codec.proofs.WholeLaws.{finds_owned}
use Rattle.mount_calls.proofs.Laws.{mount_reply_codec, read_reply_has}
use Rattle.mount_calls.proofs.reply.read_mount_reply.Goals as goal

pub returns-clause-spelled : goal.returns-clause-spelled
returns-clause-spelled c = finds_owned _ _ (mount_reply_codec _) (subst IsBytes c.new.ensures c.holds_bytes.ensures) c.reply_of.ensures

pub returns-clause-writable : goal.returns-clause-writable
returns-clause-writable c = read_reply_has c.args.proc c.args.results.now _ (finds_owned _ _ (mount_reply_codec c.args.proc) (subst IsBytes c.new.ensures c.holds_bytes.ensures) c.reply_of.ensures)
