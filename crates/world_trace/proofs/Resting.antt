-- Calls that change nothing.
use Rattle.std.proofs.Common.{◌≡◌, ◌==◌, Bool, true, false, ℕ, refl, sym, take, if◌then◌else◌}
use Rattle.nfs_file_calls.specs.declared.call.FileCall.{FileCall}
use Rattle.nfs_file_calls.specs.declared.call.FileCall.TheVariants as files
use Rattle.nfs_file_calls.specs.declared.owned.FileKept.{FileKept}
use Rattle.nfs_dir_calls.specs.declared.call.DirCall.{DirCall}
use Rattle.nfs_dir_calls.specs.declared.call.DirCall.TheVariants as dirs
use Rattle.world_model.specs.declared.message.Call.{Call}
use Rattle.world_model.specs.declared.message.Call.TheVariants as calls
use Rattle.world_model.specs.declared.message.Reply.{Reply}
use Rattle.world_model.specs.declared.message.Reply.TheVariants as replies
use Rattle.export_fs.specs.View.{View}
use Rattle.export_fs.specs.Refusals.{file_refusal, dir_refusal}
use Rattle.export_fs.specs.Executed.{file_executed, dir_executed, executed}
use Rattle.export_fs.specs.Partial.{file_partly_executed, partly_executed, partly_written}
use Rattle.world_link.specs.Replay.{cut, cut_file, is_granted, stepped_by}
use Rattle.world_trace.specs.Stepped.{may_change, may_change_file, may_change_dir}

same-either : {R : Type 0} → (b : Bool) (view : View) (x y : R) → (if◌then◌else◌ {A = View × R} b (view, x) (view, y)).0 ≡ view
same-either true view x y = refl
same-either false view x y = refl

file-rests : (view : View) (call : FileCall) → may_change_file call ≡ false → (file_executed view call).0 ≡ view
file-rests view files.Null e = refl
file-rests view (files.GetAttr file) e = same-either (file_refusal view (files.GetAttr file) == 0) view _ _
file-rests view (files.SetAttr file set guard) e = absurd (cc)
file-rests view (files.Access file bits) e = same-either (file_refusal view (files.Access file bits) == 0) view _ _
file-rests view (files.Read file offset count) e = same-either (file_refusal view (files.Read file offset count) == 0) view _ _
file-rests view (files.Write file offset how bytes) e = absurd (cc)
file-rests view (files.FsStat file) e = same-either (file_refusal view (files.FsStat file) == 0) view _ _
file-rests view (files.FsInfo file) e = same-either (file_refusal view (files.FsInfo file) == 0) view _ _
file-rests view (files.PathConf file) e = same-either (file_refusal view (files.PathConf file) == 0) view _ _
file-rests view (files.Commit file offset count) e = absurd (cc)

dir-rests : (view : View) (call : DirCall) → may_change_dir call ≡ false → (dir_executed view call).0 ≡ view
dir-rests view (dirs.Lookup dir name) e = same-either (dir_refusal view (dirs.Lookup dir name) == 0) view _ _
dir-rests view (dirs.ReadLink file) e = same-either (dir_refusal view (dirs.ReadLink file) == 0) view _ _
dir-rests view (dirs.ReadDir dir cookie verf count) e = same-either (dir_refusal view (dirs.ReadDir dir cookie verf count) == 0) view _ _
dir-rests view (dirs.ReadDirPlus dir cookie verf dircount maxcount) e = same-either (dir_refusal view (dirs.ReadDirPlus dir cookie verf dircount maxcount) == 0) view _ _
dir-rests view (dirs.Create dir name making) e = absurd (cc)
dir-rests view (dirs.MkDir dir name set) e = absurd (cc)
dir-rests view (dirs.SymLink dir name set target) e = absurd (cc)
dir-rests view (dirs.MkNod dir name node) e = absurd (cc)
dir-rests view (dirs.Remove dir name) e = absurd (cc)
dir-rests view (dirs.RmDir dir name) e = absurd (cc)
dir-rests view (dirs.Rename dir name to_dir to) e = absurd (cc)
dir-rests view (dirs.Link file dir name) e = absurd (cc)

-- a call that may change nothing isn't cut
file-uncut : (call : FileCall) (reply : FileKept) → may_change_file call ≡ false → cut_file call reply ≡ call
file-uncut files.Null reply e = refl
file-uncut (files.GetAttr file) reply e = refl
file-uncut (files.SetAttr file set guard) reply e = refl
file-uncut (files.Access file bits) reply e = refl
file-uncut (files.Read file offset count) reply e = refl
file-uncut (files.Write file offset how bytes) reply e = absurd (cc)
file-uncut (files.FsStat file) reply e = refl
file-uncut (files.FsInfo file) reply e = refl
file-uncut (files.PathConf file) reply e = refl
file-uncut (files.Commit file offset count) reply e = refl

cut-rests : (view : View) (call : Call) (reply : Reply) → may_change call ≡ false → (executed view (cut call reply)).0 ≡ view
cut-rests view (calls.File call) (replies.File reply) e = rw (file-uncut call reply e) (file-rests view call e)
cut-rests view (calls.File call) (replies.Dir reply) e = file-rests view call e
cut-rests view (calls.File call) (replies.Mount reply) e = file-rests view call e
cut-rests view (calls.Dir call) reply e = dir-rests view call e
cut-rests view (calls.Mount call) reply e = refl

-- a call that may change nothing leaves the export
pub idle : (view : View) (call : Call) (reply : Reply) → may_change call ≡ false → view ≡ stepped_by view call reply
idle view call reply rests = sym (either (is_granted reply))
  where
    either : (b : Bool) → (if b then (executed view (cut call reply)).0 else view) ≡ view
    either true = cut-rests view call reply rests
    either false = refl

-- a call that isn't granted leaves it
pub refused : (view : View) (call : Call) (reply : Reply) → is_granted reply ≡ false → view ≡ stepped_by view call reply
refused view call reply no-grant = rw no-grant refl

-- a call that is granted
pub granted : (view : View) (call : Call) (reply : Reply) → is_granted reply ≡ true → (executed view (cut call reply)).0 ≡ stepped_by view call reply
granted view call reply grant = rw grant refl

-- ---- WRITEs that break off

-- the status with which a call breaks off doesn't matter
pick : {A B : Type 0} → (b : Bool) (x y z : A × B) → x.0 ≡ y.0 → (if◌then◌else◌ {A = A × B} b x z).0 ≡ (if◌then◌else◌ {A = A × B} b y z).0
pick true x y z e = e
pick false x y z e = refl

file-part-same : (view : View) (call : FileCall) (count one other : ℕ) → (file_partly_executed view call count one).0 ≡ (file_partly_executed view call count other).0
file-part-same view files.Null count one other = refl
file-part-same view (files.GetAttr file) count one other = refl
file-part-same view (files.SetAttr file set guard) count one other = refl
file-part-same view (files.Access file bits) count one other = refl
file-part-same view (files.Read file offset n) count one other = refl
file-part-same view (files.Write file offset how bytes) count one other =
    pick (file_refusal view (files.Write file offset how bytes) == 0) (partly_written view file offset (take count bytes) one) (partly_written view file offset (take count bytes) other)
    (file_executed view (files.Write file offset how bytes)) refl
file-part-same view (files.FsStat file) count one other = refl
file-part-same view (files.FsInfo file) count one other = refl
file-part-same view (files.PathConf file) count one other = refl
file-part-same view (files.Commit file offset n) count one other = refl

pub part-same : (view : View) (call : Call) (count one other : ℕ) → (partly_executed view call count one).0 ≡ (partly_executed view call count other).0
part-same view (calls.File call) count one other = file-part-same view call count one other
part-same view (calls.Dir call) count one other = refl
part-same view (calls.Mount call) count one other = refl
