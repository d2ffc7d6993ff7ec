-- The reply to a call can be spelled (RFC 1813, section 3.3): a refusal has a status other than 0, and data are within
-- their bounds.
use Rattle.std.proofs.Common.{arith, ◌≡◌, ◌<◌, ◌≤◌, ℕ, zero, suc, Bool, true, false, cond, ◌==◌, List, [], ◌∷◌, length, min, drop, Option, Some, None, IfSome, Result, Ok, Err, IfOk, refl, subst, sym}
use Rattle.std.specs.Str.{bytes_eq}
use Rattle.std.proofs.lemmas.List.{length-take}
use Rattle.std.proofs.lemmas.List.Elements.{All-cons, All-nil}
use Rattle.mount_calls.specs.declared.call.MountCall.{MountCall}
use Rattle.mount_calls.specs.declared.call.MountCall.TheVariants as mounts
use Rattle.mount_calls.specs.declared.reply.MountReply.{MountReply}
use Rattle.mount_calls.specs.declared.reply.MountReply.TheVariants as mounted
use Rattle.mount_calls.specs.Exports.{IsRow}
use Rattle.mount_calls.specs.Replies.{HasSpellingReply as HasSpellingMount}
use Rattle.nfs_dir_calls.specs.declared.call.DirCall.{DirCall}
use Rattle.nfs_dir_calls.specs.declared.call.DirCall.TheVariants as dirs
use Rattle.nfs_dir_calls.specs.declared.keeping.DirKept.{DirKept}
use Rattle.nfs_dir_calls.specs.Replies.{HasSpellingDirReply}
use Rattle.nfs_file_calls.specs.declared.call.FileCall.{FileCall}
use Rattle.nfs_file_calls.specs.declared.call.FileCall.TheVariants as files
use Rattle.nfs_file_calls.specs.declared.owned.FileKept.{FileKept}
use Rattle.nfs_file_calls.specs.Replies.{HasSpellingReply as HasSpellingFile}
use Rattle.world_model.specs.declared.message.Call.{Call}
use Rattle.world_model.specs.declared.message.Call.TheVariants as calls
use Rattle.world_model.specs.declared.message.Reply.{Reply}
use Rattle.xdr_codec.specs.declared.blob.Memory.{Memory}
use Rattle.world_model.specs.Bytes.{part}
use Rattle.export_fs.specs.declared.node.Node.{Node}
use Rattle.export_fs.specs.View.{View}
use Rattle.export_fs.specs.Parts.{object, bytes_in, text_in, attr, handle_of}
use Rattle.export_fs.specs.Names.{named}
use Rattle.export_fs.specs.Refusals.{file_refusal, dir_refusal}
use Rattle.export_fs.specs.After.{after_file, after_dir}
use Rattle.export_fs.specs.Answer.{file_answer, file_refused, get_attr_answer, dir_answer, dir_refused, lookup_answer, read_link_answer, mount_answer, export_name}
use Rattle.export_fs.specs.Executed.{executed}
use Rattle.export_fs.specs.Spelling.{HasSpellingReply, TextFits}

-- ---- a number that isn't 0

above : (n : ℕ) → (n == 0) ≡ false → 0 < n
above zero e = absurd cc
above (suc n) e = omega arith

-- ---- calls on files

refused_file : (nodes : List Node) (n : ℕ) (call : FileCall) → 0 < n → HasSpellingFile (file_refused nodes n call)
refused_file nodes n files.Null k = tt
refused_file nodes n (files.GetAttr file) k = k
refused_file nodes n (files.SetAttr file set guard) k = k
refused_file nodes n (files.Access file bits) k = k
refused_file nodes n (files.Read file offset count) k = k
refused_file nodes n (files.Write file offset how bytes) k = k
refused_file nodes n (files.FsStat file) k = k
refused_file nodes n (files.FsInfo file) k = k
refused_file nodes n (files.PathConf file) k = k
refused_file nodes n (files.Commit file offset count) k = k

got_attr : (a : Option _) → HasSpellingFile (get_attr_answer a)
got_attr None = omega arith
got_attr (Some a) = tt

read_fits : (offset count : ℕ) (bytes : List ℕ) → length (part offset (min count 65536) bytes) ≤ 65536
read_fits offset count bytes = let e = length-take (min count 65536) (drop offset bytes) in omega (arith, e)

answered_file : (old new : View) (call : FileCall) → HasSpellingFile (file_answer old new call)
answered_file old new files.Null = tt
answered_file old new (files.GetAttr file) = got_attr (attr new.nodes file)
answered_file old new (files.SetAttr file set guard) = tt
answered_file old new (files.Access file bits) = tt
answered_file old new (files.Read file offset count) = read_fits offset count (bytes_in (object new.nodes file))
answered_file old new (files.Write file offset how bytes) = tt
answered_file old new (files.FsStat file) = tt
answered_file old new (files.FsInfo file) = tt
answered_file old new (files.PathConf file) = tt
answered_file old new (files.Commit file offset count) = tt

-- ---- calls on directories and names

refused_dir : (nodes : List Node) (n : ℕ) (call : DirCall) → 0 < n → HasSpellingDirReply (dir_refused nodes n call)
refused_dir nodes n (dirs.Lookup dir name) k = k
refused_dir nodes n (dirs.ReadLink file) k = k
refused_dir nodes n (dirs.Create dir name making) k = k
refused_dir nodes n (dirs.MkDir dir name set) k = k
refused_dir nodes n (dirs.SymLink dir name set target) k = k
refused_dir nodes n (dirs.MkNod dir name node) k = k
refused_dir nodes n (dirs.Remove dir name) k = k
refused_dir nodes n (dirs.RmDir dir name) k = k
refused_dir nodes n (dirs.Rename dir name to_dir to) k = k
refused_dir nodes n (dirs.Link file dir name) k = k
refused_dir nodes n (dirs.ReadDir dir cookie verf count) k = k
refused_dir nodes n (dirs.ReadDirPlus dir cookie verf dircount maxcount) k = k

looked_up : (nodes : List Node) (dir : List ℕ) (place : Option ℕ) → HasSpellingDirReply (lookup_answer nodes dir place)
looked_up nodes dir None = omega arith
looked_up nodes dir (Some place) = tt

link_read : (nodes : List Node) (file : List ℕ) (text : Option (List ℕ)) → IfSome text (λ t. length t ≤ 1024) → HasSpellingDirReply (read_link_answer nodes file text)
link_read nodes file None k = omega arith
link_read nodes file (Some text) k = k

answered_dir : (view : View) (call : DirCall) → TextFits view (calls.Dir call) → HasSpellingDirReply (dir_answer view (after_dir view call) call)
answered_dir view (dirs.Lookup dir name) k = looked_up view.nodes dir (named view.nodes dir name)
answered_dir view (dirs.ReadLink file) k = link_read view.nodes file (text_in (object view.nodes file)) k
answered_dir view (dirs.Create dir name making) k = tt
answered_dir view (dirs.MkDir dir name set) k = tt
answered_dir view (dirs.SymLink dir name set target) k = tt
answered_dir view (dirs.MkNod dir name node) k = omega arith
answered_dir view (dirs.Remove dir name) k = tt
answered_dir view (dirs.RmDir dir name) k = tt
answered_dir view (dirs.Rename dir name to_dir to) k = tt
answered_dir view (dirs.Link file dir name) k = tt
answered_dir view (dirs.ReadDir dir cookie verf count) k = omega arith
answered_dir view (dirs.ReadDirPlus dir cookie verf dircount maxcount) k = tt

-- ---- calls of MOUNT

mnt_spelled : (path : List ℕ) (b : Bool) → HasSpellingMount (cond {A = MountReply} b (mounted.MntOk (handle_of 0) (0 ∷ 1 ∷ [])) (mounted.MntFail 2))
mnt_spelled path true = omega arith
mnt_spelled path false = omega arith

answered_mount : (call : MountCall) → HasSpellingMount (mount_answer call)
answered_mount mounts.Null = tt
answered_mount (mounts.Mnt path) = mnt_spelled path (bytes_eq path export_name)
answered_mount (mounts.Umnt path) = tt
answered_mount mounts.Export = All-cons IsRow _ [] (record { path = omega arith; groups = All-nil (λ (name : List ℕ). length name ≤ 255) }) (All-nil IsRow)

-- ---- all

pub reply_spelled : (view : View) (call : Call) → TextFits view call → HasSpellingReply (executed view call).1
reply_spelled view (calls.File call) k =
    elim (file_refusal view call == 0) as (λ b. (file_refusal view call == 0) ≡ b → HasSpellingFile (cond {A = View × FileKept} b (after_file view call, file_answer view (after_file view call) call) (view, file_refused view.nodes (file_refusal view call) call)).1) [
      | true ↦ λ e. answered_file view (after_file view call) call
      | false ↦ λ e. refused_file view.nodes (file_refusal view call) call (above (file_refusal view call) e)
    ] refl
reply_spelled view (calls.Dir call) k =
    elim (dir_refusal view call == 0) as (λ b. (dir_refusal view call == 0) ≡ b → HasSpellingDirReply (cond {A = View × DirKept} b (after_dir view call, dir_answer view (after_dir view call) call) (view, dir_refused view.nodes (dir_refusal view call) call)).1) [
      | true ↦ λ e. answered_dir view call k
      | false ↦ λ e. refused_dir view.nodes (dir_refusal view call) call (above (dir_refusal view call) e)
    ] refl
reply_spelled view (calls.Mount call) k = answered_mount call

pub replies_spelled : (view new : View) (call : Call) (result : Result Reply Memory) → TextFits view call → IfOk result (λ reply. (new ≡ (executed view call).0) × (reply ≡ (executed view call).1)) → IfOk result HasSpellingReply
replies_spelled view new call (Ok reply) k e = subst (λ (r : Reply). HasSpellingReply r) (sym e.1) (reply_spelled view call k)
replies_spelled view new call (Err fault) k e = tt
