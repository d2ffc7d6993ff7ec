-- Calls and replies that bytes can spell.
use Rattle.std.specs.Prelude.{◌≤◌, length, IfSome}
use Rattle.mount_calls.specs.Calls.{HasSpellingCall as HasSpellingMountCall}
use Rattle.mount_calls.specs.Replies.{HasSpellingReply as HasSpellingMountReply}
use Rattle.nfs_dir_calls.specs.declared.call.DirCall.{DirCall}
use Rattle.nfs_dir_calls.specs.declared.call.DirCall.TheVariants as dirs
use Rattle.nfs_dir_calls.specs.Calls.{HasSpellingDirCall}
use Rattle.nfs_dir_calls.specs.Replies.{HasSpellingDirReply}
use Rattle.nfs_file_calls.specs.Calls.{HasSpellingCall as HasSpellingFileCall}
use Rattle.nfs_file_calls.specs.Replies.{HasSpellingReply as HasSpellingFileReply}
use Rattle.world_model.specs.declared.message.Call.{Call}
use Rattle.world_model.specs.declared.message.Call.TheVariants as calls
use Rattle.world_model.specs.declared.message.Reply.{Reply}
use Rattle.world_model.specs.declared.message.Reply.TheVariants as replies
use Rattle.export_fs.specs.View.{View}
use Rattle.export_fs.specs.Parts.{object, text_in}

-- a call that bytes can spell
abbrev pub HasSpellingCall : Call → Type 0
HasSpellingCall (calls.File call) = HasSpellingFileCall call
HasSpellingCall (calls.Dir call) = HasSpellingDirCall call
HasSpellingCall (calls.Mount call) = HasSpellingMountCall call

-- a reply that bytes can spell
abbrev pub HasSpellingReply : Reply → Type 0
HasSpellingReply (replies.File reply) = HasSpellingFileReply reply
HasSpellingReply (replies.Dir reply) = HasSpellingDirReply reply
HasSpellingReply (replies.Mount reply) = HasSpellingMountReply reply

-- the text of a new link has at most 1,024 bytes
abbrev pub TargetFits : DirCall → Type 0
TargetFits (dirs.SymLink dir name set target) = length target ≤ 1024
TargetFits call = Unit {0}

-- the text that a READLINK answers is one that can be spelled: at most 1,024 bytes
abbrev pub TextFits : View → Call → Type 0
TextFits view (calls.Dir (dirs.ReadLink file)) = IfSome (text_in (object view.nodes file)) (λ text. length text ≤ 1024)
TextFits view call = Unit {0}
