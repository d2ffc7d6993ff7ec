-- What the export makes of a call is what a server may make of it, and at each moment it is a server (RFC 1813, sections
-- 3.3 and 5.2).
use Rattle.std.proofs.Common.{◌≡◌, ◌≤◌, ℕ, zero, suc, List, [], ◌∷◌, map, length, Some, refl, sym, ap, subst, arith, ◌==◌, slice_get, All}
use Rattle.std.specs.Str.{bytes_eq}
use Rattle.std.proofs.lemmas.Bool.{cond_both, eqb-true, eqb-false}
use Rattle.mount_calls.specs.declared.call.MountCall.{MountCall}
use Rattle.mount_calls.specs.declared.call.MountCall.TheVariants as mounts
use Rattle.mount_calls.specs.declared.reply.MountReply.{MountReply}
use Rattle.mount_calls.specs.declared.reply.MountReply.TheVariants as mounted
use Rattle.nfs_file_calls.specs.declared.call.FileCall.{FileCall}
use Rattle.nfs_file_calls.specs.declared.owned.FileKept.{FileKept}
use Rattle.nfs_dir_calls.specs.declared.call.DirCall.{DirCall}
use Rattle.nfs_dir_calls.specs.declared.call.DirCall.TheVariants as dirs
use Rattle.nfs_dir_calls.specs.declared.keeping.DirKept.{DirKept}
use Rattle.world_model.specs.declared.message.Call.{Call}
use Rattle.world_model.specs.declared.message.Call.TheVariants as calls
use Rattle.world_model.specs.declared.message.Reply.TheVariants as replies
use Rattle.world_model.specs.Server.{Listed, IsServer, file, directory, other}
use Rattle.world_model.specs.Server.{IsSound as IsSoundObject}
use Rattle.world_model.specs.Service.{Serves, refused, done, DoesDir}
use Rattle.export_fs.specs.declared.node.Holds.{Holds}
use Rattle.export_fs.specs.declared.node.Holds.TheVariants.{File, Directory, Link}
use Rattle.export_fs.specs.declared.node.Node.{Node}
use Rattle.export_fs.specs.Held.{Row}
use Rattle.export_fs.specs.View.{View}
use Rattle.export_fs.specs.Parts.{handle_of, kind_of, size_of}
use Rattle.export_fs.specs.Refusals.{file_refusal, dir_refusal}
use Rattle.export_fs.specs.After.{after_file, after_dir}
use Rattle.export_fs.specs.Answer.{file_answer, file_refused, dir_answer, dir_refused, mount_answer, export_name}
use Rattle.export_fs.specs.Executed.{executed, file_executed, dir_executed}
use Rattle.export_fs.specs.Seen.{server_of, object_of, entry_of, held_of}
use Rattle.export_fs.specs.Sound.{Sound, IsHeld}
use Rattle.export_fs.specs.Spelled.{IsFileSpelled, IsDirSpelled, IsSpelled}
use Rattle.export_fs.proofs.RefusalTable.{dir_passes}
use Rattle.export_fs.proofs.RefusalsShowTruth.{refuses_file, refuses_dir}
use Rattle.export_fs.proofs.ServerOfExport.{seen_by_place, same_server}
use Rattle.export_fs.proofs.ServesFileCalls.{does_file}
use Rattle.export_fs.proofs.ServesLookups.{looks_up, reads_link, reads_dir}
use Rattle.export_fs.proofs.ServesCreates.{makes_dir, makes_link, creates, links}
use Rattle.export_fs.proofs.ServesRemoves.{removes_name, removes_dir}
use Rattle.export_fs.proofs.ServesRename.{renames_call}

-- ---- each moment is a server

all_cookies : (rows : List Row) → ((at : ℕ) (row : Row) → slice_get rows at ≡ Some row → 1 ≤ row.cookie) → All (λ (e : Listed). 1 ≤ e.cookie) (map entry_of rows)
all_cookies [] f k d l = absurd (omega arith)
all_cookies (r ∷ rows) f zero d l = f 0 r refl
all_cookies (r ∷ rows) f (suc k) d l = all_cookies rows (λ at row e. f (suc at) row e) k d (omega arith)

sound_object : (count place : ℕ) (node : Node) (holds : Holds) → node.holds ≡ holds → IsHeld count place holds → IsSoundObject (object_of place node)
sound_object count place node (File content) e h = file content.bytes content.stable (ap held_of e) (ap kind_of e) (ap size_of e) h
sound_object count place node (Directory listing) e h = directory (map entry_of listing.rows) (ap held_of e) (ap kind_of e) (all_cookies listing.rows (λ at row q. (h.entries at row q).cookie))
sound_object count place node (Link text) e h =
    let five : kind_of node.holds ≡ 5 = ap kind_of e in
    other text (ap held_of e) (λ q. omega (arith, five, q)) (λ q. omega (arith, five, q))

pub servers : (v : View) → Sound v → IsServer (server_of v)
servers v s h o e =
    let p = seen_by_place v h o e in
    subst IsSoundObject (sym p.object) (sound_object (length v.nodes) p.place p.node p.node.holds refl (s.held p.place p.node p.there))

-- ---- each call is served

serves_file : (v : View) (call : FileCall) → IsFileSpelled call → Serves (server_of v) (calls.File call) (replies.File (file_executed v call).1) (server_of (file_executed v call).0)
serves_file v call s =
    cond_both (file_refusal v call == 0) (after_file v call, file_answer v (after_file v call) call) (v, file_refused v.nodes (file_refusal v call) call) (λ (z : View × FileKept). Serves (server_of v) (calls.File call) (replies.File z.1) (server_of z.0))
    (λ e. done (does_file v call s (eqb-true (file_refusal v call) 0 e)))
    (λ e. refused (refuses_file v call (file_refusal v call) s refl (eqb-false (file_refusal v call) 0 e)) (same_server v))

does_dir : (v : View) (call : DirCall) → Sound v → IsDirSpelled call → dir_refusal v call ≡ 0 → DoesDir (server_of v) call (dir_answer v (after_dir v call) call) (server_of (after_dir v call))
does_dir v (dirs.Lookup dir name) s b e = looks_up v s dir name b e
does_dir v (dirs.ReadLink link) s b e = reads_link v link b e
does_dir v (dirs.Create dir name making) s b e = creates v s dir name making b e
does_dir v (dirs.MkDir dir name set) s b e = makes_dir v s dir name set b e
does_dir v (dirs.SymLink dir name set target) s b e = makes_link v s dir name set target b e
does_dir v (dirs.MkNod dir name node) s b e = let p = dir_passes v (dirs.MkNod dir name node) e in let q = p.unsupported in absurd (cc)
does_dir v (dirs.Remove dir name) s b e = removes_name v s dir name b e
does_dir v (dirs.RmDir dir name) s b e = removes_dir v s dir name b e
does_dir v (dirs.Rename dir name to_dir to) s b e = renames_call v s dir name to_dir to b e
does_dir v (dirs.Link link dir name) s b e = links v s link dir name b e
does_dir v (dirs.ReadDir dir cookie verf count) s b e = let p = dir_passes v (dirs.ReadDir dir cookie verf count) e in let q = p.unsupported in absurd (cc)
does_dir v (dirs.ReadDirPlus dir cookie verf dircount maxcount) s b e = reads_dir v s dir cookie verf dircount maxcount b e

serves_dir : (v : View) (call : DirCall) → Sound v → IsDirSpelled call → Serves (server_of v) (calls.Dir call) (replies.Dir (dir_executed v call).1) (server_of (dir_executed v call).0)
serves_dir v call s b =
    cond_both (dir_refusal v call == 0) (after_dir v call, dir_answer v (after_dir v call) call) (v, dir_refused v.nodes (dir_refusal v call) call) (λ (z : View × DirKept). Serves (server_of v) (calls.Dir call) (replies.Dir z.1) (server_of z.0))
    (λ e. done (does_dir v call s b (eqb-true (dir_refusal v call) 0 e)))
    (λ e. refused (refuses_dir v call (dir_refusal v call) b (eqb-false (dir_refusal v call) 0 e)) (same_server v))

serves_mount : (v : View) (call : MountCall) → Serves (server_of v) (calls.Mount call) (replies.Mount (mount_answer call)) (server_of v)
serves_mount v mounts.Null = done (same_server v)
serves_mount v (mounts.Mnt path) =
    cond_both (bytes_eq path export_name) (mounted.MntOk (handle_of 0) (0 ∷ 1 ∷ [])) (mounted.MntFail 2) (λ (z : MountReply). Serves (server_of v) (calls.Mount (mounts.Mnt path)) (replies.Mount z) (server_of v))
    (λ e. done (same_server v))
    (λ e. refused (λ q. omega (arith, q)) (same_server v))
serves_mount v (mounts.Umnt path) = done (same_server v)
serves_mount v mounts.Export = done (same_server v)

pub serves : (v : View) (call : Call) → Sound v → IsSpelled call → Serves (server_of v) call (executed v call).1 (server_of (executed v call).0)
serves v (calls.File call) s b = serves_file v call b
serves v (calls.Dir call) s b = serves_dir v call s b
serves v (calls.Mount call) s b = serves_mount v call
