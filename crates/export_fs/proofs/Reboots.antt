-- No call counts as a restart, so none changes the write verifier.
use Rattle.std.proofs.Common.{◌≡◌, ℕ, List, Option, Some, None, refl, ◌==◌}
use Rattle.std.proofs.lemmas.Bool.{cond_both}
use Rattle.nfs_types.specs.declared.set_attr.SetAttr.{SetAttr}
use Rattle.nfs_file_calls.specs.declared.call.FileCall.{FileCall}
use Rattle.nfs_file_calls.specs.declared.call.FileCall.TheVariants as files
use Rattle.nfs_file_calls.specs.declared.owned.FileKept.{FileKept}
use Rattle.nfs_dir_calls.specs.declared.call.DirCall.{DirCall}
use Rattle.nfs_dir_calls.specs.declared.call.DirCall.TheVariants as dirs
use Rattle.nfs_dir_calls.specs.declared.create.Making.{Making}
use Rattle.nfs_dir_calls.specs.declared.create.Making.TheVariants as makings
use Rattle.nfs_dir_calls.specs.declared.keeping.DirKept.{DirKept}
use Rattle.world_model.specs.declared.message.Call.{Call}
use Rattle.world_model.specs.declared.message.Call.TheVariants as calls
use Rattle.export_fs.specs.View.{View}
use Rattle.export_fs.specs.Parts.{place_of}
use Rattle.export_fs.specs.Names.{named}
use Rattle.export_fs.specs.Refusals.{file_refusal, dir_refusal, sets_nothing, same_place}
use Rattle.export_fs.specs.After.{after_file, after_dir, after_set_attr, after_create, after_unchecked, after_moving, after_rename_of, after_linking}
use Rattle.export_fs.specs.Answer.{file_answer, file_refused, dir_answer, dir_refused}
use Rattle.export_fs.specs.Executed.{executed}

-- it restarted as often
abbrev SameReboots : View → View → Type 0
SameReboots v w = w.reboots ≡ v.reboots

file_reboots : (v : View) (call : FileCall) → SameReboots v (after_file v call)
file_reboots v files.Null = refl
file_reboots v (files.GetAttr file) = refl
file_reboots v (files.SetAttr file set guard) = refl
file_reboots v (files.Access file bits) = refl
file_reboots v (files.Read file offset count) = refl
file_reboots v (files.Write file offset how bytes) = refl
file_reboots v (files.FsStat file) = refl
file_reboots v (files.FsInfo file) = refl
file_reboots v (files.PathConf file) = refl
file_reboots v (files.Commit file offset count) = refl

unchecked_reboots : (v : View) (dir name : List ℕ) (set : SetAttr) (o : Option ℕ) → SameReboots v (after_unchecked v dir name set o)
unchecked_reboots v dir name set None = refl
unchecked_reboots v dir name set (Some place) = cond_both (sets_nothing set) v (after_set_attr v (Some place) set) (SameReboots v) (λ e. refl) (λ e. refl)

create_reboots : (v : View) (dir name : List ℕ) (making : Making) → SameReboots v (after_create v dir name making)
create_reboots v dir name (makings.Unchecked set) = unchecked_reboots v dir name set (named v.nodes dir name)
create_reboots v dir name (makings.Guarded set) = refl
create_reboots v dir name (makings.Exclusive verf) = refl

rename_reboots : (v : View) (dir name to_dir to : List ℕ) (target moved : Option ℕ) → SameReboots v (after_rename_of v dir name to_dir to target moved)
rename_reboots v dir name to_dir to target None = refl
rename_reboots v dir name to_dir to target (Some place) = cond_both (same_place (Some place) target) v (after_moving v dir name to_dir to target place) (SameReboots v) (λ e. refl) (λ e. refl)

link_reboots : (v : View) (dir name : List ℕ) (o : Option ℕ) → SameReboots v (after_linking v dir name o)
link_reboots v dir name None = refl
link_reboots v dir name (Some place) = refl

dir_reboots : (v : View) (call : DirCall) → SameReboots v (after_dir v call)
dir_reboots v (dirs.Lookup dir name) = refl
dir_reboots v (dirs.ReadLink file) = refl
dir_reboots v (dirs.Create dir name making) = create_reboots v dir name making
dir_reboots v (dirs.MkDir dir name set) = refl
dir_reboots v (dirs.SymLink dir name set target) = refl
dir_reboots v (dirs.MkNod dir name node) = refl
dir_reboots v (dirs.Remove dir name) = refl
dir_reboots v (dirs.RmDir dir name) = refl
dir_reboots v (dirs.Rename dir name to_dir to) = rename_reboots v dir name to_dir to (named v.nodes to_dir to) (named v.nodes dir name)
dir_reboots v (dirs.Link file dir name) = link_reboots v dir name (place_of file)
dir_reboots v (dirs.ReadDir dir cookie verf count) = refl
dir_reboots v (dirs.ReadDirPlus dir cookie verf dircount maxcount) = refl

pub same_reboots : (v : View) (call : Call) → (executed v call).0.reboots ≡ v.reboots
same_reboots v (calls.File call) =
    cond_both (file_refusal v call == 0) (after_file v call, file_answer v (after_file v call) call) (v, file_refused v.nodes (file_refusal v call) call) (λ (z : View × FileKept). SameReboots v z.0) (λ e. file_reboots v call) (λ e. refl)
same_reboots v (calls.Dir call) =
    cond_both (dir_refusal v call == 0) (after_dir v call, dir_answer v (after_dir v call) call) (v, dir_refused v.nodes (dir_refusal v call) call) (λ (z : View × DirKept). SameReboots v z.0) (λ e. dir_reboots v call) (λ e. refl)
same_reboots v (calls.Mount call) = refl
