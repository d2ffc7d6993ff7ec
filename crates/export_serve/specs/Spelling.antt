-- The records of replies (RFC 5531, section 9, and RFC 1813).
use Rattle.std.specs.Prelude.{◌≡◌, ℕ, List, ◌++◌}
use Rattle.mount_calls.specs.Calls.{mount_proc}
use Rattle.mount_calls.specs.Replies.{reply_proc as mount_reply_proc, SpellsMountResults, mount_reply_bytes}
use Rattle.nfs_dir_calls.specs.declared.keeping.DirKept.{DirKept}
use Rattle.nfs_dir_calls.specs.declared.keeping.DirKept.TheVariants as kept
use Rattle.nfs_dir_calls.specs.Calls.{dir_proc}
use Rattle.nfs_dir_calls.specs.Replies.{reply_proc as dir_reply_proc, SpellsReply as SpellsDirResults, dir_reply_bytes}
use Rattle.nfs_file_calls.specs.Calls.{file_proc}
use Rattle.nfs_file_calls.specs.Replies.{reply_proc as file_reply_proc, SpellsFileResults, file_reply_bytes}
use Rattle.rpc_message.specs.Reply.{accepted_bytes}
use Rattle.world_model.specs.declared.message.Call.{Call}
use Rattle.world_model.specs.declared.message.Call.TheVariants as calls
use Rattle.world_model.specs.declared.message.Reply.{Reply}
use Rattle.world_model.specs.declared.message.Reply.TheVariants as replies

-- a reply that holds no listing
abbrev pub IsPlain : DirKept → Type 0
IsPlain (kept.ReadDir attr verf page eof) = ⊥
IsPlain (kept.ReadDirPlus attr verf page eof) = ⊥
IsPlain reply = Unit {0}

-- results that spell a reply
abbrev pub SpellsResultsOf : Reply → List ℕ → Type 0
SpellsResultsOf (replies.File reply) = SpellsFileResults reply
SpellsResultsOf (replies.Dir reply) = SpellsDirResults reply
SpellsResultsOf (replies.Mount reply) = SpellsMountResults reply

-- their written spelling
abbrev pub results_bytes : Reply → List ℕ
results_bytes (replies.File reply) = file_reply_bytes reply
results_bytes (replies.Dir reply) = dir_reply_bytes reply
results_bytes (replies.Mount reply) = mount_reply_bytes reply

-- the record of a reply under an xid: the head of an accepted reply, and the results
abbrev pub reply_bytes : ℕ → Reply → List ℕ
reply_bytes xid reply = accepted_bytes xid ++ results_bytes reply

-- a reply of the procedure that a call asks for
abbrev pub RepliesTo : Call → Reply → Type 0
RepliesTo (calls.File call) (replies.File reply) = file_reply_proc reply ≡ file_proc call
RepliesTo (calls.Dir call) (replies.Dir reply) = dir_reply_proc reply ≡ dir_proc call
RepliesTo (calls.Mount call) (replies.Mount reply) = mount_reply_proc reply ≡ mount_proc call
RepliesTo call reply = ⊥
