-- A call is answered by a reply of its own procedure (RFC 1813, section 3).
use Rattle.std.proofs.Common.{ℕ, List, [], ◌∷◌, min, take, Option, Some, None, refl, ◌==◌}
use Rattle.std.specs.Str.{bytes_eq}
use Rattle.std.proofs.lemmas.Bool.{cond_both}
use Rattle.nfs_types.specs.declared.attr.Attr.{Attr}
use Rattle.mount_calls.specs.declared.call.MountCall.{MountCall}
use Rattle.mount_calls.specs.declared.call.MountCall.TheVariants as mounts
use Rattle.mount_calls.specs.declared.reply.MountReply.{MountReply}
use Rattle.mount_calls.specs.declared.reply.MountReply.TheVariants as mounted
use Rattle.nfs_file_calls.specs.declared.call.FileCall.{FileCall}
use Rattle.nfs_file_calls.specs.declared.call.FileCall.TheVariants as files
use Rattle.nfs_file_calls.specs.declared.owned.FileKept.{FileKept}
use Rattle.nfs_dir_calls.specs.declared.call.DirCall.{DirCall}
use Rattle.nfs_dir_calls.specs.declared.call.DirCall.TheVariants as dirs
use Rattle.nfs_dir_calls.specs.declared.keeping.DirKept.{DirKept}
use Rattle.world_model.specs.declared.message.Call.{Call}
use Rattle.world_model.specs.declared.message.Call.TheVariants as calls
use Rattle.world_model.specs.declared.message.Reply.{Reply}
use Rattle.world_model.specs.declared.message.Reply.TheVariants as replies
use Rattle.export_fs.specs.declared.node.Node.{Node}
use Rattle.export_fs.specs.View.{View}
use Rattle.export_fs.specs.Parts.{handle_of, object, attr, text_in}
use Rattle.export_fs.specs.Names.{named}
use Rattle.export_fs.specs.Refusals.{file_refusal, dir_refusal}
use Rattle.export_fs.specs.After.{after_file, after_dir}
use Rattle.export_fs.specs.Answer.{get_attr_answer, lookup_answer, read_link_answer, mount_answer, export_name, file_answer, dir_answer}
use Rattle.export_fs.specs.Answer.{file_refused as refused_file, dir_refused as refused_dir}
use Rattle.export_fs.specs.Executed.{executed, file_executed}
use Rattle.export_serve.specs.Spelling.{RepliesTo}
use Rattle.world_link.specs.declared.manner.Manner.{Manner}
use Rattle.world_link.specs.Handling.{answered, handled}
use Rattle.export_fs.specs.Partial.{partly_written, partly_executed}
use Rattle.world_link.specs.declared.directive.PartialWrite.{PartialWrite}
use Rattle.world_link.specs.Refused.{refused_by, refused_with, status_for}

abbrev FileTo : FileCall → FileKept → Type 0
FileTo call reply = RepliesTo (calls.File call) (replies.File reply)

abbrev DirTo : DirCall → DirKept → Type 0
DirTo call reply = RepliesTo (calls.Dir call) (replies.Dir reply)

attr_to : (file : List ℕ) (a : Option Attr) → FileTo (files.GetAttr file) (get_attr_answer a)
attr_to file None = refl
attr_to file (Some a) = refl

file_done : (v w : View) (call : FileCall) → FileTo call (file_answer v w call)
file_done v w files.Null = refl
file_done v w (files.GetAttr file) = attr_to file (attr w.nodes file)
file_done v w (files.SetAttr file set guard) = refl
file_done v w (files.Access file bits) = refl
file_done v w (files.Read file offset count) = refl
file_done v w (files.Write file offset how bytes) = refl
file_done v w (files.FsStat file) = refl
file_done v w (files.FsInfo file) = refl
file_done v w (files.PathConf file) = refl
file_done v w (files.Commit file offset count) = refl

file_not : (nodes : List Node) (n : ℕ) (call : FileCall) → FileTo call (refused_file nodes n call)
file_not nodes n files.Null = refl
file_not nodes n (files.GetAttr file) = refl
file_not nodes n (files.SetAttr file set guard) = refl
file_not nodes n (files.Access file bits) = refl
file_not nodes n (files.Read file offset count) = refl
file_not nodes n (files.Write file offset how bytes) = refl
file_not nodes n (files.FsStat file) = refl
file_not nodes n (files.FsInfo file) = refl
file_not nodes n (files.PathConf file) = refl
file_not nodes n (files.Commit file offset count) = refl

lookup_to : (nodes : List Node) (dir name : List ℕ) (place : Option ℕ) → DirTo (dirs.Lookup dir name) (lookup_answer nodes dir place)
lookup_to nodes dir name None = refl
lookup_to nodes dir name (Some place) = refl

link_to : (nodes : List Node) (file : List ℕ) (text : Option (List ℕ)) → DirTo (dirs.ReadLink file) (read_link_answer nodes file text)
link_to nodes file None = refl
link_to nodes file (Some text) = refl

dir_not : (nodes : List Node) (n : ℕ) (call : DirCall) → DirTo call (refused_dir nodes n call)
dir_not nodes n (dirs.Lookup dir name) = refl
dir_not nodes n (dirs.ReadLink file) = refl
dir_not nodes n (dirs.Create dir name making) = refl
dir_not nodes n (dirs.MkDir dir name set) = refl
dir_not nodes n (dirs.SymLink dir name set target) = refl
dir_not nodes n (dirs.MkNod dir name node) = refl
dir_not nodes n (dirs.Remove dir name) = refl
dir_not nodes n (dirs.RmDir dir name) = refl
dir_not nodes n (dirs.Rename dir name to_dir to) = refl
dir_not nodes n (dirs.Link file dir name) = refl
dir_not nodes n (dirs.ReadDir dir cookie verf count) = refl
dir_not nodes n (dirs.ReadDirPlus dir cookie verf dircount maxcount) = refl

dir_done : (v w : View) (call : DirCall) → DirTo call (dir_answer v w call)
dir_done v w (dirs.Lookup dir name) = lookup_to w.nodes dir name (named w.nodes dir name)
dir_done v w (dirs.ReadLink file) = link_to w.nodes file (text_in (object w.nodes file))
dir_done v w (dirs.Create dir name making) = refl
dir_done v w (dirs.MkDir dir name set) = refl
dir_done v w (dirs.SymLink dir name set target) = refl
dir_done v w (dirs.MkNod dir name node) = refl
dir_done v w (dirs.Remove dir name) = refl
dir_done v w (dirs.RmDir dir name) = refl
dir_done v w (dirs.Rename dir name to_dir to) = refl
dir_done v w (dirs.Link file dir name) = refl
dir_done v w (dirs.ReadDir dir cookie verf count) = refl
dir_done v w (dirs.ReadDirPlus dir cookie verf dircount maxcount) = refl

mount_to : (call : MountCall) → RepliesTo (calls.Mount call) (replies.Mount (mount_answer call))
mount_to mounts.Null = refl
mount_to (mounts.Mnt path) = cond_both (bytes_eq path export_name) (mounted.MntOk (handle_of 0) (0 ∷ 1 ∷ [])) (mounted.MntFail 2) (λ (z : MountReply). RepliesTo (calls.Mount (mounts.Mnt path)) (replies.Mount z)) (λ e. refl) (λ e. refl)
mount_to (mounts.Umnt path) = refl
mount_to mounts.Export = refl

executed_replies : (v : View) (call : Call) → RepliesTo call (executed v call).1
executed_replies v (calls.File call) =
    cond_both (file_refusal v call == 0) (after_file v call, file_answer v (after_file v call) call) (v, refused_file v.nodes (file_refusal v call) call) (λ (z : View × FileKept). FileTo call z.1) (λ e. file_done v (after_file v call) call) (λ e. file_not v.nodes (file_refusal v call) call)
executed_replies v (calls.Dir call) =
    cond_both (dir_refusal v call == 0) (after_dir v call, dir_answer v (after_dir v call) call) (v, refused_dir v.nodes (dir_refusal v call) call) (λ (z : View × DirKept). DirTo call z.1) (λ e. dir_done v (after_dir v call) call) (λ e. dir_not v.nodes (dir_refusal v call) call)
executed_replies v (calls.Mount call) = mount_to call

abbrev Replies : Option Reply → Option ℕ → View → Call → Type 0
Replies given limit v call = RepliesTo call (answered given limit v call).1

at_most : (most : ℕ) (v : View) (call : FileCall) → Replies None (Some most) v (calls.File call)
at_most most v files.Null = executed_replies v (calls.File files.Null)
at_most most v (files.GetAttr file) = executed_replies v (calls.File (files.GetAttr file))
at_most most v (files.SetAttr file set guard) = executed_replies v (calls.File (files.SetAttr file set guard))
at_most most v (files.Access file bits) = executed_replies v (calls.File (files.Access file bits))
at_most most v (files.Read file offset count) = executed_replies v (calls.File (files.Read file offset (min count most)))
at_most most v (files.Write file offset how bytes) = executed_replies v (calls.File (files.Write file offset how (take most bytes)))
at_most most v (files.FsStat file) = executed_replies v (calls.File (files.FsStat file))
at_most most v (files.FsInfo file) = executed_replies v (calls.File (files.FsInfo file))
at_most most v (files.PathConf file) = executed_replies v (calls.File (files.PathConf file))
at_most most v (files.Commit file offset count) = executed_replies v (calls.File (files.Commit file offset count))

short_replies : (limit : Option ℕ) (v : View) (call : Call) → Replies None limit v call
short_replies None v call = executed_replies v call
short_replies (Some most) v (calls.File call) = at_most most v call
short_replies (Some most) v (calls.Dir call) = executed_replies v (calls.Dir call)
short_replies (Some most) v (calls.Mount call) = executed_replies v (calls.Mount call)

file_given : (n : ℕ) (limit : Option ℕ) (v : View) (call : FileCall) → Replies (refused_with n (calls.File call)) limit v (calls.File call)
file_given n limit v files.Null = short_replies limit v (calls.File files.Null)
file_given n limit v (files.GetAttr file) = refl
file_given n limit v (files.SetAttr file set guard) = refl
file_given n limit v (files.Access file bits) = refl
file_given n limit v (files.Read file offset count) = refl
file_given n limit v (files.Write file offset how bytes) = refl
file_given n limit v (files.FsStat file) = refl
file_given n limit v (files.FsInfo file) = refl
file_given n limit v (files.PathConf file) = refl
file_given n limit v (files.Commit file offset count) = refl

dir_given : (n : ℕ) (limit : Option ℕ) (v : View) (call : DirCall) → Replies (refused_with n (calls.Dir call)) limit v (calls.Dir call)
dir_given n limit v (dirs.Lookup dir name) = refl
dir_given n limit v (dirs.ReadLink file) = refl
dir_given n limit v (dirs.Create dir name making) = refl
dir_given n limit v (dirs.MkDir dir name set) = refl
dir_given n limit v (dirs.SymLink dir name set target) = refl
dir_given n limit v (dirs.MkNod dir name node) = refl
dir_given n limit v (dirs.Remove dir name) = refl
dir_given n limit v (dirs.RmDir dir name) = refl
dir_given n limit v (dirs.Rename dir name to_dir to) = refl
dir_given n limit v (dirs.Link file dir name) = refl
dir_given n limit v (dirs.ReadDir dir cookie verf count) = refl
dir_given n limit v (dirs.ReadDirPlus dir cookie verf dircount maxcount) = refl

mount_given : (n : ℕ) (limit : Option ℕ) (v : View) (call : MountCall) → Replies (refused_with n (calls.Mount call)) limit v (calls.Mount call)
mount_given n limit v mounts.Null = short_replies limit v (calls.Mount mounts.Null)
mount_given n limit v (mounts.Mnt path) = refl
mount_given n limit v (mounts.Umnt path) = short_replies limit v (calls.Mount (mounts.Umnt path))
mount_given n limit v mounts.Export = short_replies limit v (calls.Mount mounts.Export)

with_given : (n : ℕ) (limit : Option ℕ) (v : View) (call : Call) → Replies (refused_with n call) limit v call
with_given n limit v (calls.File call) = file_given n limit v call
with_given n limit v (calls.Dir call) = dir_given n limit v call
with_given n limit v (calls.Mount call) = mount_given n limit v call

by_given : (given limit : Option ℕ) (v : View) (call : Call) → Replies (refused_by given call) limit v call
by_given None limit v call = short_replies limit v call
by_given (Some n) limit v call = cond_both (n == 0) None (refused_with n call) (λ (o : Option Reply). Replies o limit v call) (λ e. short_replies limit v call) (λ e. with_given n limit v call)

partly_replies : (v : View) (call : Call) (count number : ℕ) → RepliesTo call (partly_executed v call count number).1
partly_replies v (calls.File files.Null) count number = executed_replies v (calls.File files.Null)
partly_replies v (calls.File (files.GetAttr file)) count number = executed_replies v (calls.File (files.GetAttr file))
partly_replies v (calls.File (files.SetAttr file set guard)) count number = executed_replies v (calls.File (files.SetAttr file set guard))
partly_replies v (calls.File (files.Access file bits)) count number = executed_replies v (calls.File (files.Access file bits))
partly_replies v (calls.File (files.Read file offset most)) count number = executed_replies v (calls.File (files.Read file offset most))
partly_replies v (calls.File (files.Write file offset how bytes)) count number =
    cond_both (file_refusal v (files.Write file offset how bytes) == 0) (partly_written v file offset (take count bytes) number) (file_executed v (files.Write file offset how bytes))
    (λ (z : View × FileKept). FileTo (files.Write file offset how bytes) z.1) (λ e. refl) (λ e. executed_replies v (calls.File (files.Write file offset how bytes)))
partly_replies v (calls.File (files.FsStat file)) count number = executed_replies v (calls.File (files.FsStat file))
partly_replies v (calls.File (files.FsInfo file)) count number = executed_replies v (calls.File (files.FsInfo file))
partly_replies v (calls.File (files.PathConf file)) count number = executed_replies v (calls.File (files.PathConf file))
partly_replies v (calls.File (files.Commit file offset most)) count number = executed_replies v (calls.File (files.Commit file offset most))
partly_replies v (calls.Dir call) count number = executed_replies v (calls.Dir call)
partly_replies v (calls.Mount call) count number = executed_replies v (calls.Mount call)

pub handled_replies : (part : Option PartialWrite) (manner : Manner) (v : View) (call : Call) → RepliesTo call (handled part manner v call).1
handled_replies None manner v call = by_given (status_for manner.mount manner.answer call) manner.limit v call
handled_replies (Some part) manner v call = partly_replies v call part.bytes part.status
