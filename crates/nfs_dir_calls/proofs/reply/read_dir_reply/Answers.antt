use Rattle.xdr_codec.proofs.WholeLaws.{finds_whole}
use Rattle.nfs_dir_calls.specs.Kept.{kept_of}
use Rattle.nfs_dir_calls.proofs.HasSpelling.{read_reply_has}
use Rattle.nfs_dir_calls.proofs.Replies.{dir_reply_codec}
use Rattle.nfs_dir_calls.proofs.reply.read_dir_reply.Goals as goal

pub returns-clause-spelled : goal.returns-clause-spelled
returns-clause-spelled c = finds_whole kept_of _ _ (dir_reply_codec _) (rw c.new.ensures at c.holds_bytes.ensures) c.reply_of.ensures

pub returns-clause-writable : goal.returns-clause-writable
returns-clause-writable c = read_reply_has c.args.proc c.args.results.now _ (finds_whole kept_of _ _ (dir_reply_codec c.args.proc) (rw c.new.ensures at c.holds_bytes.ensures) c.reply_of.ensures)
