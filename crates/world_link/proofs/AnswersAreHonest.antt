-- What the server answers in the turn of a transmission is what an honest server may do, also where a status is given
-- or a READ or WRITE handles less than was asked (RFC 1813, sections 3.3.6 and 3.3.7).
use Rattle.std.proofs.Common.{◌≡◌, ◌≤◌, ◌<◌, ℕ, Bool, true, min, List, length, take, Option, Some, None, refl, subst, ◌==◌, arith, inl, inr, ⊎_elim, length-take}
use Rattle.std.specs.Prelude.{⊤}
use Rattle.std.proofs.lemmas.List.{take-take}
use Rattle.std.proofs.lemmas.Bool.{cond_both, eqb-true, eqb-false}
use Rattle.xdr_codec.specs.Bytes.{IsBytes}
use Rattle.nfs_types.specs.declared.wcc.Wcc.{Wcc}
use Rattle.nfs_types.specs.declared.verf.Verf.{Verf}
use Rattle.nfs_types.specs.declared.attr.Attr.{Attr}
use Rattle.mount_calls.specs.declared.call.MountCall.{MountCall}
use Rattle.mount_calls.specs.declared.call.MountCall.TheVariants as mounts
use Rattle.nfs_file_calls.specs.declared.call.FileCall.{FileCall}
use Rattle.nfs_file_calls.specs.declared.call.FileCall.TheVariants as files
use Rattle.nfs_file_calls.specs.declared.owned.FileKept.{FileKept}
use Rattle.nfs_dir_calls.specs.declared.call.DirCall.{DirCall}
use Rattle.nfs_dir_calls.specs.declared.call.DirCall.TheVariants as dirs
use Rattle.world_model.specs.declared.message.Call.{Call}
use Rattle.world_model.specs.declared.message.Call.TheVariants as calls
use Rattle.world_model.specs.declared.message.Reply.{Reply}
use Rattle.world_model.specs.declared.message.Reply.TheVariants as replies
use Rattle.world_model.specs.Bytes.{put_at}
use Rattle.world_model.specs.FileService.{Puts, ReadsBytes, Writes, steady_after}
use Rattle.world_model.specs.Server.{Server}
use Rattle.world_model.specs.Service.{Serves, refused, done}
use Rattle.export_fs.specs.View.{View}
use Rattle.export_fs.specs.Refusals.{file_refusal}
use Rattle.export_fs.specs.After.{after_file}
use Rattle.export_fs.specs.Answer.{file_answer}
use Rattle.export_fs.specs.Answer.{file_refused as refused_file}
use Rattle.export_fs.specs.Executed.{file_executed}
use Rattle.export_fs.specs.Partial.{IsWrite}
use Rattle.export_fs.specs.Seen.{server_of}
use Rattle.export_fs.specs.Sound.{Sound}
use Rattle.export_fs.specs.Spelled.{IsFileSpelled, IsSpelled, HandlesAreBytes}
use Rattle.export_fs.proofs.RefusalsShowTruth.{refuses_file}
use Rattle.export_fs.proofs.ServerOfExport.{same_server}
use Rattle.export_fs.proofs.ExecuteServes.{serves}
use Rattle.export_fs.proofs.PartialWrites.{partly_serves, partly_sound}
use Rattle.export_fs.proofs.SoundAfterCall.{stays_sound}
use Rattle.export_fs.proofs.ServesFileCalls.{does_file}
use Rattle.world_link.specs.declared.manner.Manner.{Manner}
use Rattle.world_link.specs.declared.directive.PartialWrite.{PartialWrite}
use Rattle.world_link.specs.Handling.{answered, handled}
use Rattle.world_link.specs.Honest.{IsBound}
use Rattle.world_link.specs.Refused.{refused_by, refused_with, status_for}

-- ---- with less than was asked

reads_whole : (s t : Server) (file : List ℕ) (offset count most : ℕ) (attr : Option Attr) (counted : ℕ) (eof : Bool) (bytes : List ℕ) → 1 ≤ most → ReadsBytes s t file offset (min count most) attr counted eof bytes → ReadsBytes s t file offset count attr counted eof bytes
reads_whole s t file offset count most attr counted eof bytes m r = record {
  now = r.now;
  stable = r.stable;
  puts = r.puts;
  shows = r.shows;
  is = r.is;
  long = r.long;
  most = omega (arith, r.most);
  end_ = r.end_;
  some = λ z. ⊎_elim (λ (none : min count most ≡ 0). inl (omega (arith, none, m))) (λ (e : eof ≡ true). inr e) (r.some z);
}

writes_whole : (s t : Server) (file : List ℕ) (offset how most : ℕ) (bytes : List ℕ) (wcc : Wcc) (counted committed : ℕ) (verf : Verf) → 1 ≤ most → Writes s t file offset how (take most bytes) wcc counted committed verf → Writes s t file offset how bytes wcc counted committed verf
writes_whole s t file offset how most bytes wcc counted committed verf m w =
    let long : length (take most bytes) ≡ min most (length bytes) = length-take most bytes in
    record {
      now = w.now;
      stable = w.stable;
      puts = subst (λ (z : List ℕ). Puts s t file w.now w.stable (put_at offset z w.now) (steady_after committed offset z w.stable)) (take-take counted most bytes (omega (arith, w.most, long))) w.puts;
      shows = w.shows;
      most = omega (arith, w.most, long);
      some = λ l. w.some (omega (arith, l, long, m));
      firm = w.firm;
      known = w.known;
      verifier = w.verifier;
    }

-- ---- the call is executed

abbrev ServesFile : View → FileCall → View × FileKept → Type 0
ServesFile v call z = Serves (server_of v) (calls.File call) (replies.File z.1) (server_of z.0)

short_read : (v : View) (file : List ℕ) (offset count most : ℕ) → 1 ≤ most → IsBytes file → ServesFile v (files.Read file offset count) (file_executed v (files.Read file offset (min count most)))
short_read v file offset count most m b =
    cond_both (file_refusal v (files.Read file offset (min count most)) == 0) (after_file v (files.Read file offset (min count most)), file_answer v (after_file v (files.Read file offset (min count most))) (files.Read file offset (min count most)))
    (v, refused_file v.nodes (file_refusal v (files.Read file offset (min count most))) (files.Read file offset (min count most))) (ServesFile v (files.Read file offset count))
    (λ e. done (reads_whole _ _ file offset count most _ _ _ _ m (does_file v (files.Read file offset (min count most)) b (eqb-true (file_refusal v (files.Read file offset (min count most))) 0 e))))
    (λ e. refused (refuses_file v (files.Read file offset (min count most)) (file_refusal v (files.Read file offset (min count most))) b refl (eqb-false (file_refusal v (files.Read file offset (min count most))) 0 e)) (same_server v))

short_write : (v : View) (file : List ℕ) (offset how most : ℕ) (bytes : List ℕ) → 1 ≤ most → IsBytes file × (how ≤ 2) → ServesFile v (files.Write file offset how bytes) (file_executed v (files.Write file offset how (take most bytes)))
short_write v file offset how most bytes m b =
    cond_both (file_refusal v (files.Write file offset how (take most bytes)) == 0) (after_file v (files.Write file offset how (take most bytes)), file_answer v (after_file v (files.Write file offset how (take most bytes))) (files.Write file offset how (take most bytes)))
    (v, refused_file v.nodes (file_refusal v (files.Write file offset how (take most bytes))) (files.Write file offset how (take most bytes))) (ServesFile v (files.Write file offset how bytes))
    (λ e. done (writes_whole _ _ file offset how most bytes _ _ _ _ m (does_file v (files.Write file offset how (take most bytes)) b (eqb-true (file_refusal v (files.Write file offset how (take most bytes))) 0 e))))
    (λ e. refused (refuses_file v (files.Write file offset how (take most bytes)) (file_refusal v (files.Write file offset how (take most bytes))) b refl (eqb-false (file_refusal v (files.Write file offset how (take most bytes))) 0 e)) (same_server v))

abbrev Answers : Option Reply → Option ℕ → View → Call → Type 0
Answers given limit view call = Serves (server_of view) call (answered given limit view call).1 (server_of (answered given limit view call).0) × Sound (answered given limit view call).0

executes : (v : View) (call : Call) → Sound v → IsSpelled call → HandlesAreBytes call → Answers None None v call
executes v call s b h = (serves v call s b, stays_sound v call s h)

at_most : (most : ℕ) (v : View) (call : FileCall) → 1 ≤ most → Sound v → IsFileSpelled call → Answers None (Some most) v (calls.File call)
at_most most v files.Null m s b = executes v (calls.File files.Null) s b tt
at_most most v (files.GetAttr file) m s b = executes v (calls.File (files.GetAttr file)) s b b
at_most most v (files.SetAttr file set guard) m s b = executes v (calls.File (files.SetAttr file set guard)) s b b
at_most most v (files.Access file bits) m s b = executes v (calls.File (files.Access file bits)) s b b
at_most most v (files.Read file offset count) m s b = (short_read v file offset count most m b, stays_sound v (calls.File (files.Read file offset (min count most))) s b)
at_most most v (files.Write file offset how bytes) m s b = (short_write v file offset how most bytes m b, stays_sound v (calls.File (files.Write file offset how (take most bytes))) s b.0)
at_most most v (files.FsStat file) m s b = executes v (calls.File (files.FsStat file)) s b b
at_most most v (files.FsInfo file) m s b = executes v (calls.File (files.FsInfo file)) s b b
at_most most v (files.PathConf file) m s b = executes v (calls.File (files.PathConf file)) s b b
at_most most v (files.Commit file offset count) m s b = executes v (calls.File (files.Commit file offset count)) s b b

file_handles : (call : FileCall) → IsFileSpelled call → HandlesAreBytes (calls.File call)
file_handles files.Null b = tt
file_handles (files.GetAttr file) b = b
file_handles (files.SetAttr file set guard) b = b
file_handles (files.Access file bits) b = b
file_handles (files.Read file offset count) b = b
file_handles (files.Write file offset how bytes) b = b.0
file_handles (files.FsStat file) b = b
file_handles (files.FsInfo file) b = b
file_handles (files.PathConf file) b = b
file_handles (files.Commit file offset count) b = b

pub handles : (call : Call) → IsSpelled call → HandlesAreBytes call
handles (calls.File call) b = file_handles call b
handles (calls.Dir call) b = b
handles (calls.Mount call) b = b

executed_with : (limit : Option ℕ) (v : View) (call : Call) → IsBound limit → Sound v → IsSpelled call → Answers None limit v call
executed_with None v call m s b = executes v call s b (handles call b)
executed_with (Some most) v (calls.File call) m s b = at_most most v call m s b
executed_with (Some most) v (calls.Dir call) m s b = executes v (calls.Dir call) s b b
executed_with (Some most) v (calls.Mount call) m s b = executes v (calls.Mount call) s b b

-- ---- a status is given

file_given : (n : ℕ) (limit : Option ℕ) (v : View) (call : FileCall) → (n ≡ 0 → ⊥) → IsBound limit → Sound v → IsFileSpelled call → Answers (refused_with n (calls.File call)) limit v (calls.File call)
file_given n limit v files.Null z m s b = executed_with limit v (calls.File files.Null) m s b
file_given n limit v (files.GetAttr file) z m s b = (refused z (same_server v), s)
file_given n limit v (files.SetAttr file set guard) z m s b = (refused (record { nonzero = z; shows = record { before = tt; after = tt } }) (same_server v), s)
file_given n limit v (files.Access file bits) z m s b = (refused (record { nonzero = z; shows = tt }) (same_server v), s)
file_given n limit v (files.Read file offset count) z m s b = (refused (record { nonzero = z; shows = tt }) (same_server v), s)
file_given n limit v (files.Write file offset how bytes) z m s b = (refused (record { nonzero = z; shows = record { before = tt; after = tt } }) (same_server v), s)
file_given n limit v (files.FsStat file) z m s b = (refused (record { nonzero = z; shows = tt }) (same_server v), s)
file_given n limit v (files.FsInfo file) z m s b = (refused (record { nonzero = z; shows = tt }) (same_server v), s)
file_given n limit v (files.PathConf file) z m s b = (refused (record { nonzero = z; shows = tt }) (same_server v), s)
file_given n limit v (files.Commit file offset count) z m s b = (refused (record { nonzero = z; shows = record { before = tt; after = tt } }) (same_server v), s)

dir_given : (n : ℕ) (limit : Option ℕ) (v : View) (call : DirCall) → (n ≡ 0 → ⊥) → Sound v → Answers (refused_with n (calls.Dir call)) limit v (calls.Dir call)
dir_given n limit v (dirs.Lookup dir name) z s = (refused (record { nonzero = z; shows = tt }) (same_server v), s)
dir_given n limit v (dirs.ReadLink file) z s = (refused (record { nonzero = z; shows = tt }) (same_server v), s)
dir_given n limit v (dirs.Create dir name making) z s = (refused (record { nonzero = z; shows = record { before = tt; after = tt } }) (same_server v), s)
dir_given n limit v (dirs.MkDir dir name set) z s = (refused (record { nonzero = z; shows = record { before = tt; after = tt } }) (same_server v), s)
dir_given n limit v (dirs.SymLink dir name set target) z s = (refused (record { nonzero = z; shows = record { before = tt; after = tt } }) (same_server v), s)
dir_given n limit v (dirs.MkNod dir name node) z s = (refused (record { nonzero = z; shows = record { before = tt; after = tt } }) (same_server v), s)
dir_given n limit v (dirs.Remove dir name) z s = (refused (record { nonzero = z; shows = record { before = tt; after = tt } }) (same_server v), s)
dir_given n limit v (dirs.RmDir dir name) z s = (refused (record { nonzero = z; shows = record { before = tt; after = tt } }) (same_server v), s)
dir_given n limit v (dirs.Rename dir name to_dir to) z s = (refused (record { nonzero = z; shows = record { before = tt; after = tt } }, record { before = tt; after = tt }) (same_server v), s)
dir_given n limit v (dirs.Link file dir name) z s = (refused (record { nonzero = z; shows = record { before = tt; after = tt } }, tt) (same_server v), s)
dir_given n limit v (dirs.ReadDir dir cookie verf count) z s = (refused (record { nonzero = z; shows = tt }) (same_server v), s)
dir_given n limit v (dirs.ReadDirPlus dir cookie verf dircount maxcount) z s = (refused (record { nonzero = z; shows = tt }) (same_server v), s)

mount_given : (n : ℕ) (limit : Option ℕ) (v : View) (call : MountCall) → (n ≡ 0 → ⊥) → IsBound limit → Sound v → Answers (refused_with n (calls.Mount call)) limit v (calls.Mount call)
mount_given n limit v mounts.Null z m s = executed_with limit v (calls.Mount mounts.Null) m s tt
mount_given n limit v (mounts.Mnt path) z m s = (refused z (same_server v), s)
mount_given n limit v (mounts.Umnt path) z m s = executed_with limit v (calls.Mount (mounts.Umnt path)) m s tt
mount_given n limit v mounts.Export z m s = executed_with limit v (calls.Mount mounts.Export) m s tt

with_given : (n : ℕ) (limit : Option ℕ) (v : View) (call : Call) → (n ≡ 0 → ⊥) → IsBound limit → Sound v → IsSpelled call → Answers (refused_with n call) limit v call
with_given n limit v (calls.File call) z m s b = file_given n limit v call z m s b
with_given n limit v (calls.Dir call) z m s b = dir_given n limit v call z s
with_given n limit v (calls.Mount call) z m s b = mount_given n limit v call z m s

by_given : (given : Option ℕ) (limit : Option ℕ) (v : View) (call : Call) → IsBound limit → Sound v → IsSpelled call → Answers (refused_by given call) limit v call
by_given None limit v call m s b = executed_with limit v call m s b
by_given (Some n) limit v call m s b =
    cond_both (n == 0) None (refused_with n call) (λ (o : Option Reply). Answers o limit v call) (λ e. executed_with limit v call m s b) (λ e. with_given n limit v call (eqb-false n 0 e) m s b)

-- ---- a WRITE breaks off

-- what breaks off is a WRITE, and fails
abbrev pub MayBreak : Option PartialWrite → Call → Type 0
MayBreak None call = ⊤
MayBreak (Some part) call = IsWrite call × (0 < part.status)

abbrev Handles : Option PartialWrite → Manner → View → Call → Type 0
Handles part manner v call = Serves (server_of v) call (handled part manner v call).1 (server_of (handled part manner v call).0) × Sound (handled part manner v call).0

by_part : (part : Option PartialWrite) (manner : Manner) (v : View) (call : Call) → MayBreak part call → IsBound manner.limit → Sound v → IsSpelled call → Handles part manner v call
by_part None manner v call w m s b = by_given (status_for manner.mount manner.answer call) manner.limit v call m s b
by_part (Some part) manner v call w m s b = (partly_serves v call part.bytes part.status w.0 w.1 s b, partly_sound v call part.bytes part.status w.0 s (handles call b))

pub handled_serves : (part : Option PartialWrite) (manner : Manner) (v : View) (call : Call) → MayBreak part call → IsBound manner.limit → Sound v → IsSpelled call
    → Serves (server_of v) call (handled part manner v call).1 (server_of (handled part manner v call).0)
handled_serves part manner v call w m s b = (by_part part manner v call w m s b).0

pub handled_sound : (part : Option PartialWrite) (manner : Manner) (v : View) (call : Call) → MayBreak part call → IsBound manner.limit → Sound v → IsSpelled call → Sound (handled part manner v call).0
handled_sound part manner v call w m s b = (by_part part manner v call w m s b).1
