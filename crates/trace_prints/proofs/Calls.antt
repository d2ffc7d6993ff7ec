-- A record that spells a call asks for it, and one that spells a reply is that reply to the call.
use Rattle.std.proofs.Common.{◌≡◌, ℕ, List, Bool, true, false, ◌==◌, Some, None, refl, ap, ◌∙◌}
use Rattle.std.specs.Prelude.{if◌then◌else◌, option_and_then}
use Rattle.std.proofs.lemmas.Bool.{eqb-false}
use Rattle.mount_calls.specs.Calls.{mount_proc}
use Rattle.mount_calls.proofs.Laws.{mount_call_codec, mount_reply_codec}
use Rattle.nfs_dir_calls.specs.declared.call.DirCall.{DirCall}
use Rattle.nfs_dir_calls.specs.declared.call.DirCall.TheVariants as dirs
use Rattle.nfs_dir_calls.specs.Calls.{dir_proc, is_dir_proc}
use Rattle.nfs_dir_calls.proofs.Calls.{dir_call_codec}
use Rattle.nfs_dir_calls.proofs.Replies.{dir_reply_codec}
use Rattle.nfs_file_calls.specs.declared.call.FileCall.{FileCall}
use Rattle.nfs_file_calls.specs.declared.call.FileCall.TheVariants as files
use Rattle.nfs_file_calls.specs.Calls.{file_proc}
use Rattle.nfs_file_calls.proofs.CallLaws.{file_call_codec}
use Rattle.nfs_file_calls.proofs.ReplyLaws.{file_reply_codec}
use Rattle.rpc_message.specs.Reply.{Accepted}
use Rattle.rpc_message.proofs.CallLaws.{call_again}
use Rattle.rpc_message.proofs.ReplyLaws.{reply_again}
use Rattle.export_serve.specs.declared.request.Asked.TheVariants as askings
use Rattle.export_serve.specs.Asking.{arguments_at, asked_at, dir_read, file_read, head_asks, mount_read, read_asks}
use Rattle.export_serve.proofs.AskedLaws.{served_procedure, served_program}
use Rattle.trace_calls.specs.ReplyReading.{reply_by, result_at, results_in}
use Rattle.trace_calls.specs.ReplyReading.{dir_read as dir_reply_read, file_read as file_reply_read, mount_read as mount_reply_read}
use Rattle.world_model.specs.declared.message.Call.{Call}
use Rattle.world_model.specs.declared.message.Call.TheVariants as calls
use Rattle.world_model.specs.declared.message.Reply.{Reply}
use Rattle.world_model.specs.declared.message.Reply.TheVariants as replies
use Rattle.world_model.specs.Messages.{SpellsArguments, SpellsCall, SpellsReply, SpellsResults, head_of, proc_of, program_of}

-- ---- calls

no-dir : (call : FileCall) → is_dir_proc (file_proc call) ≡ false
no-dir files.Null = refl
no-dir (files.GetAttr file) = refl
no-dir (files.SetAttr file set guard) = refl
no-dir (files.Access file bits) = refl
no-dir (files.Read file offset count) = refl
no-dir (files.Write file offset how bytes) = refl
no-dir (files.FsStat file) = refl
no-dir (files.FsInfo file) = refl
no-dir (files.PathConf file) = refl
no-dir (files.Commit file offset count) = refl

a-dir : (call : DirCall) → is_dir_proc (dir_proc call) ≡ true
a-dir (dirs.Lookup dir name) = refl
a-dir (dirs.ReadLink file) = refl
a-dir (dirs.Create dir name making) = refl
a-dir (dirs.MkDir dir name set) = refl
a-dir (dirs.SymLink dir name set target) = refl
a-dir (dirs.MkNod dir name node) = refl
a-dir (dirs.Remove dir name) = refl
a-dir (dirs.RmDir dir name) = refl
a-dir (dirs.Rename from_dir old to_dir to) = refl
a-dir (dirs.Link file dir name) = refl
a-dir (dirs.ReadDir dir cookie verf count) = refl
a-dir (dirs.ReadDirPlus dir cookie verf dircount maxcount) = refl

arguments-are : (call : Call) (args : List ℕ) → SpellsArguments call args → arguments_at (program_of call) (proc_of call) args ≡ Some call
arguments-are (calls.File call) args s = rw (no-dir call) (ap file_read ((file_call_codec (file_proc call)).again call args (record { names = refl; is = s })))
arguments-are (calls.Dir call) args s = rw (a-dir call) (ap dir_read ((dir_call_codec (dir_proc call)).again call args (record { of = refl; is = s })))
arguments-are (calls.Mount call) args s = ap mount_read ((mount_call_codec (mount_proc call)).again call args (record { names = refl; is = s }))

asks-head : (xid : ℕ) (call : Call) (args : List ℕ) → SpellsArguments call args → head_asks (head_of xid call) args ≡ askings.Serve xid call
asks-head xid call args s = rw (served_program call, served_procedure call, arguments-are call args s) refl

pub asks-for : (xid : ℕ) (call : Call) (bytes : List ℕ) → SpellsCall xid call bytes → asked_at bytes ≡ askings.Serve xid call
asks-for xid call bytes s = ap (read_asks bytes) (call_again (head_of xid call) s.args bytes s.head) ∙ asks-head xid call s.args s.is

-- ---- replies

same : (n : ℕ) → (n == n) ≡ true
same n = by (n == n) (eqb-false n n)
  where
    by : (t : Bool) → (t ≡ false → n ≡ n → ⊥) → t ≡ true
    by true f = refl
    by false f = absurd (f refl refl)

results-are : (call : Call) (reply : Reply) (results : List ℕ) → SpellsResults call reply results → result_at call results ≡ Some reply
results-are (calls.File call) (replies.File reply) results s = ap file_reply_read ((file_reply_codec (file_proc call)).again reply results s)
results-are (calls.Dir call) (replies.Dir reply) results s = ap dir_reply_read ((dir_reply_codec (dir_proc call)).again reply results s)
results-are (calls.Mount call) (replies.Mount reply) results s = ap mount_reply_read ((mount_reply_codec (mount_proc call)).again reply results s)
results-are (calls.File call) (replies.Dir reply) results s = absurd s
results-are (calls.File call) (replies.Mount reply) results s = absurd s
results-are (calls.Dir call) (replies.File reply) results s = absurd s
results-are (calls.Dir call) (replies.Mount reply) results s = absurd s
results-are (calls.Mount call) (replies.File reply) results s = absurd s
results-are (calls.Mount call) (replies.Dir reply) results s = absurd s

pub answers-it : (xid : ℕ) (call : Call) (reply : Reply) (bytes : List ℕ) → SpellsReply xid call reply bytes → reply_by xid call bytes ≡ Some reply
answers-it xid call reply bytes s =
    ap (λ r. option_and_then (result_at call) (results_in xid r)) (reply_again (Accepted xid s.results) bytes s.accepted)
    ∙ ap (λ (t : Bool). option_and_then (result_at call) (if t then Some s.results else None)) (same xid)
    ∙ results-are call reply s.results s.is
