use Rattle.std.proofs.Common.{subst}
use Rattle.xdr_codec.specs.Bytes.{IsBytes}
use Rattle.xdr_codec.proofs.WholeLaws.{finds_whole}
use Rattle.nfs_file_calls.specs.Replies.{kept_of}
use Rattle.nfs_file_calls.proofs.ReplyLaws.{file_reply_codec, read_reply_has}
use Rattle.nfs_file_calls.proofs.reply.read_file_reply.Goals as goal

pub returns-clause-spelled : goal.returns-clause-spelled
returns-clause-spelled c = finds_whole kept_of _ _ (file_reply_codec _) (subst IsBytes c.new-reader.ensures c.holds_bytes.ensures) c.file_reply.ensures

pub returns-clause-writable : goal.returns-clause-writable
returns-clause-writable c = read_reply_has c.args.proc c.args.results.now _ (finds_whole kept_of _ _ (file_reply_codec c.args.proc) (subst IsBytes c.new-reader.ensures c.holds_bytes.ensures) c.file_reply.ensures)
