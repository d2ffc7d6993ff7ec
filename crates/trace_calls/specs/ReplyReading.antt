-- What reading a record as the reply to a call gives (RFC 5531, section 9, and RFC 1813).
use Rattle.std.specs.Prelude.{ℕ, List, Option, Some, None, Result, Ok, Err, ◌==◌, if◌then◌else◌, option_and_then}
use Rattle.xdr_codec.specs.declared.reader.XdrFault.{XdrFault}
use Rattle.rpc_message.specs.declared.reply.ReplyFault.{ReplyFault}
use Rattle.rpc_message.specs.Reply.{RpcReply, Accepted, Refused, Denied, reply_at}
use Rattle.mount_calls.specs.Calls.{mount_proc}
use Rattle.mount_calls.specs.declared.reply.MountReply.{MountReply}
use Rattle.mount_calls.specs.Replies.{mount_reply_at}
use Rattle.nfs_dir_calls.specs.Calls.{dir_proc}
use Rattle.nfs_dir_calls.specs.declared.keeping.DirKept.{DirKept}
use Rattle.nfs_dir_calls.specs.Replies.{dir_reply_at}
use Rattle.nfs_file_calls.specs.Calls.{file_proc}
use Rattle.nfs_file_calls.specs.declared.owned.FileKept.{FileKept}
use Rattle.nfs_file_calls.specs.Replies.{file_reply_at}
use Rattle.world_model.specs.declared.message.Call.{Call}
use Rattle.world_model.specs.declared.message.Call.TheVariants as calls
use Rattle.world_model.specs.declared.message.Reply.{Reply}
use Rattle.world_model.specs.declared.message.Reply.TheVariants as replies

-- the results of an accepted reply under the xid
abbrev pub results_in : ℕ → Result RpcReply ReplyFault → Option (List ℕ)
results_in xid (Ok (Accepted under results)) = if under == xid then Some results else None
results_in xid (Ok (Refused under stat low high)) = None
results_in xid (Ok (Denied under stat first second)) = None
results_in xid (Err fault) = None

abbrev pub file_read : Result FileKept XdrFault → Option Reply
file_read (Ok reply) = Some (replies.File reply)
file_read (Err fault) = None

abbrev pub dir_read : Result DirKept XdrFault → Option Reply
dir_read (Ok reply) = Some (replies.Dir reply)
dir_read (Err fault) = None

abbrev pub mount_read : Result MountReply XdrFault → Option Reply
mount_read (Ok reply) = Some (replies.Mount reply)
mount_read (Err fault) = None

-- the reply to the call that results spell, if they spell one
abbrev pub result_at : Call → List ℕ → Option Reply
result_at (calls.File call) results = file_read (file_reply_at (file_proc call) results)
result_at (calls.Dir call) results = dir_read (dir_reply_at (dir_proc call) results)
result_at (calls.Mount call) results = mount_read (mount_reply_at (mount_proc call) results)

-- the reply to the call that a record is under the xid, if it is one
abbrev pub reply_by : ℕ → Call → List ℕ → Option Reply
reply_by xid call rec = option_and_then (result_at call) (results_in xid (reply_at rec))
