-- What a call changes has the next number of the counter as its ctime.
use Rattle.std.proofs.Common.{◌≡◌, ◌≤◌, ◌+◌, ℕ, List, Option, Some, None, arith, ◌==◌}
use Rattle.std.proofs.lemmas.Bool.{cond_both}
use Rattle.nfs_types.specs.declared.set_attr.SetAttr.{SetAttr}
use Rattle.nfs_file_calls.specs.declared.call.FileCall.{FileCall}
use Rattle.nfs_file_calls.specs.declared.call.FileCall.TheVariants as files
use Rattle.nfs_file_calls.specs.declared.owned.FileKept.{FileKept}
use Rattle.nfs_dir_calls.specs.declared.call.DirCall.{DirCall}
use Rattle.nfs_dir_calls.specs.declared.call.DirCall.TheVariants as dirs
use Rattle.nfs_dir_calls.specs.declared.create.Making.{Making}
use Rattle.nfs_dir_calls.specs.declared.create.Making.TheVariants as makings
use Rattle.nfs_dir_calls.specs.declared.keeping.DirKept.{DirKept}
use Rattle.world_model.specs.declared.message.Call.{Call}
use Rattle.world_model.specs.declared.message.Call.TheVariants as calls
use Rattle.world_model.specs.Server.{Object}
use Rattle.world_model.specs.Fresh.{Differs}
use Rattle.export_fs.specs.View.{View}
use Rattle.export_fs.specs.Parts.{place_of}
use Rattle.export_fs.specs.Names.{named}
use Rattle.export_fs.specs.Refusals.{file_refusal, dir_refusal, sets_nothing, same_place}
use Rattle.export_fs.specs.After.{next, after_set_attr, after_file, after_unchecked, after_create, after_moving, after_rename_of, after_linking, after_dir}
use Rattle.export_fs.specs.Answer.{file_answer, file_refused, dir_answer, dir_refused}
use Rattle.export_fs.specs.Executed.{executed}
use Rattle.export_fs.specs.Seen.{server_of}
use Rattle.export_fs.specs.Stamped.{Stamped}
use Rattle.export_fs.proofs.EachCallProceeds.{stamped_executed}
use Rattle.export_fs.proofs.Fresh.{fresh_executed, stamp_within}

-- at most one number is taken
abbrev TakesOne : View → View → Type 0
TakesOne v w = w.counter ≤ v.counter + 1

file_number : (v : View) (call : FileCall) → TakesOne v (after_file v call)
file_number v files.Null = omega arith
file_number v (files.GetAttr file) = omega arith
file_number v (files.SetAttr file set guard) = omega arith
file_number v (files.Access file bits) = omega arith
file_number v (files.Read file offset count) = omega arith
file_number v (files.Write file offset how bytes) = omega arith
file_number v (files.FsStat file) = omega arith
file_number v (files.FsInfo file) = omega arith
file_number v (files.PathConf file) = omega arith
file_number v (files.Commit file offset count) = omega arith

unchecked_number : (v : View) (dir name : List ℕ) (set : SetAttr) (there : Option ℕ) → TakesOne v (after_unchecked v dir name set there)
unchecked_number v dir name set None = omega arith
unchecked_number v dir name set (Some place) = cond_both (sets_nothing set) v (after_set_attr v (Some place) set) (TakesOne v) (λ e. omega arith) (λ e. omega arith)

create_number : (v : View) (dir name : List ℕ) (making : Making) → TakesOne v (after_create v dir name making)
create_number v dir name (makings.Unchecked set) = unchecked_number v dir name set (named v.nodes dir name)
create_number v dir name (makings.Guarded set) = omega arith
create_number v dir name (makings.Exclusive verf) = omega arith

rename_number : (v : View) (dir name to_dir to : List ℕ) (target place : Option ℕ) → TakesOne v (after_rename_of v dir name to_dir to target place)
rename_number v dir name to_dir to target None = omega arith
rename_number v dir name to_dir to target (Some place) = cond_both (same_place (Some place) target) v (after_moving v dir name to_dir to target place) (TakesOne v) (λ e. omega arith) (λ e. omega arith)

linking_number : (v : View) (dir name : List ℕ) (place : Option ℕ) → TakesOne v (after_linking v dir name place)
linking_number v dir name None = omega arith
linking_number v dir name (Some place) = omega arith

dir_number : (v : View) (call : DirCall) → TakesOne v (after_dir v call)
dir_number v (dirs.Lookup dir name) = omega arith
dir_number v (dirs.ReadLink link) = omega arith
dir_number v (dirs.Create dir name making) = create_number v dir name making
dir_number v (dirs.MkDir dir name set) = omega arith
dir_number v (dirs.SymLink dir name set target) = omega arith
dir_number v (dirs.MkNod dir name node) = omega arith
dir_number v (dirs.Remove dir name) = omega arith
dir_number v (dirs.RmDir dir name) = omega arith
dir_number v (dirs.Rename dir name to_dir to) = rename_number v dir name to_dir to (named v.nodes to_dir to) (named v.nodes dir name)
dir_number v (dirs.Link link dir name) = linking_number v dir name (place_of link)
dir_number v (dirs.ReadDir dir cookie verf count) = omega arith
dir_number v (dirs.ReadDirPlus dir cookie verf dircount maxcount) = omega arith

pub executed_number : (v : View) (call : Call) → (executed v call).0.counter ≤ v.counter + 1
executed_number v (calls.File call) =
    cond_both (file_refusal v call == 0) (after_file v call, file_answer v (after_file v call) call) (v, file_refused v.nodes (file_refusal v call) call) (λ (z : View × FileKept). TakesOne v z.0) (λ e. file_number v call) (λ e. omega arith)
executed_number v (calls.Dir call) =
    cond_both (dir_refusal v call == 0) (after_dir v call, dir_answer v (after_dir v call) call) (v, dir_refused v.nodes (dir_refusal v call) call) (λ (z : View × DirKept). TakesOne v z.0) (λ e. dir_number v call) (λ e. omega arith)
executed_number v (calls.Mount call) = omega arith

pub fresh_number : (v : View) (call : Call) → Stamped v → (f : List ℕ) (old new : Object) → (server_of v).object f ≡ Some old → (server_of (executed v call).0).object f ≡ Some new → Differs old new → new.attr.ctime.seconds ≡ next v
fresh_number v call s f old new a b d =
    omega (arith, fresh_executed v call f old new a b d, stamp_within (executed v call).0 (stamped_executed v call s) f new b, executed_number v call)
