-- A directory is removed (RFC 1813, section 3.3.13).
use Rattle.std.specs.Prelude.{ℕ, List, Result, Ok, Err}
use Rattle.nfs_dir_calls.specs.declared.call.DirCall.TheVariants as dirs
use Rattle.nfs_dir_calls.specs.declared.keeping.DirKept.TheVariants as kept
use Rattle.world_model.specs.declared.answer.Fault.{Fault}
use Rattle.world_model.specs.declared.answer.Fault.TheVariants.{Bad}
use Rattle.world_model.specs.declared.message.Call.{Call}
use Rattle.world_model.specs.declared.message.Call.TheVariants as calls
use Rattle.world_model.specs.declared.message.Reply.{Reply}
use Rattle.world_model.specs.declared.message.Reply.TheVariants.{Dir}
use Rattle.name_ops.specs.declared.told.Told.{Told}
use Rattle.name_ops.specs.Changing.{done, failed, refused_by}

abbrev pub remove_dir_call : List ℕ → List ℕ → Call
remove_dir_call name dir = calls.Dir (dirs.RmDir dir name)

-- what the reply tells
abbrev pub removed_told : Result Reply Fault → Told
removed_told (Ok (Dir (kept.RmDir wcc))) = done wcc
removed_told (Ok (Dir (kept.RmDirFail status wcc))) = failed status wcc
removed_told (Ok reply) = refused_by (Bad 2)
removed_told (Err fault) = refused_by fault
