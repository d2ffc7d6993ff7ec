-- How many of its calls an operation may still ask for in vain: if such a call can't be made, the operation takes a refusal in its
-- place, and either has its answer or has fewer left.
use Rattle.std.specs.Prelude.{ℕ, ◌+◌, Option, Some, None}
use Rattle.world_model.specs.declared.answer.Fault.{Fault}
use Rattle.file_ops.specs.declared.sync_file.Syncing.{Syncing}
use Rattle.file_ops.specs.declared.sync_file.Syncing.TheVariants as syncing
use Rattle.file_ops.specs.declared.close_file.Closing.{Closing}
use Rattle.file_ops.specs.declared.close_file.Closing.TheVariants as closing
use Rattle.file_ops.specs.declared.write_file.Writing.{Writing}
use Rattle.file_ops.specs.declared.write_file.Writing.TheVariants as writing
use Rattle.file_ops.specs.declared.put_file.Putting.{Putting}
use Rattle.file_ops.specs.declared.put_file.Putting.TheVariants as putting

-- a save that was refused asks for nothing more
abbrev pub save_left : Option Fault → ℕ
save_left None = 1
save_left (Some fault) = 0

abbrev pub sync_left : Syncing → ℕ
sync_left syncing.Idle = 0
sync_left (syncing.Saves saving) = save_left saving.refusal

abbrev pub write_left : Writing → ℕ
write_left writing.Idle = 0
write_left (writing.Room file saving) = save_left saving.refusal

-- a close may have a REMOVE to ask for after its save
abbrev pub close_left : Closing → ℕ
close_left closing.Idle = 0
close_left (closing.Queued saving) = 2
close_left (closing.Saves saving) = 1 + save_left saving.refusal
close_left (closing.ToRemove removal) = 1
close_left (closing.Removing removal) = 0

abbrev pub put_left : Putting → Writing → ℕ
put_left putting.Idle write = 0
put_left putting.Opens write = 1
put_left (putting.Adds file) write = write_left write
put_left (putting.Saves saving) write = save_left saving.refusal
