-- A directory is made (RFC 1813, section 3.3.9).
use Rattle.std.specs.Prelude.{ℕ, List, Result, Ok, Err}
use Rattle.nfs_dir_calls.specs.declared.call.DirCall.TheVariants as dirs
use Rattle.nfs_dir_calls.specs.declared.keeping.DirKept.TheVariants as kept
use Rattle.world_model.specs.declared.answer.Fault.{Fault}
use Rattle.world_model.specs.declared.answer.Fault.TheVariants.{Bad}
use Rattle.world_model.specs.declared.message.Call.{Call}
use Rattle.world_model.specs.declared.message.Call.TheVariants as calls
use Rattle.world_model.specs.declared.message.Reply.{Reply}
use Rattle.world_model.specs.declared.message.Reply.TheVariants.{Dir}
use Rattle.name_ops.specs.declared.told.Told.{Told}
use Rattle.name_ops.specs.Changing.{mode_set, made, failed, refused_by}

-- its mode is 0755
abbrev pub make_dir_call : List ℕ → List ℕ → Call
make_dir_call name dir = calls.Dir (dirs.MkDir dir name (mode_set 493))

-- what the reply tells
abbrev pub made_told : Result Reply Fault → Told
made_told (Ok (Dir (kept.MkDir found attr wcc))) = made found attr wcc
made_told (Ok (Dir (kept.MkDirFail status wcc))) = failed status wcc
made_told (Ok reply) = refused_by (Bad 2)
made_told (Err fault) = refused_by fault
