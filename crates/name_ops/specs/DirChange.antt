-- A directory is made or removed.
use Rattle.std.specs.Prelude.{ℕ, List, Result}
use Rattle.world_model.specs.declared.answer.Fault.{Fault}
use Rattle.world_model.specs.declared.message.Call.{Call}
use Rattle.world_model.specs.declared.message.Reply.{Reply}
use Rattle.name_ops.specs.declared.dir_change.DirDeed.{DirDeed}
use Rattle.name_ops.specs.declared.dir_change.DirDeed.TheVariants.{Make, Remove}
use Rattle.name_ops.specs.declared.told.Told.{Told}
use Rattle.name_ops.specs.MakeDir.{make_dir_call, made_told}
use Rattle.name_ops.specs.RemoveDir.{remove_dir_call, removed_told}

-- the one call, in the directory that the path leads to
abbrev pub deed_call : DirDeed → List ℕ → List ℕ → Call
deed_call Make name dir = make_dir_call name dir
deed_call Remove name dir = remove_dir_call name dir

-- what the reply tells
abbrev pub deed_told : DirDeed → Result Reply Fault → Told
deed_told Make came = made_told came
deed_told Remove came = removed_told came
