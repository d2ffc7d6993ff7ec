-- A WRITE that breaks off: the first of its bytes are in the file, and it is answered with a status other than 0 (RFC
-- 1813, sections 2.6 and 3.3.7).
use Rattle.std.specs.Prelude.{ℕ, List, [], ◌∷◌, take, ◌==◌, if◌then◌else◌, ⊤}
use Rattle.nfs_file_calls.specs.declared.call.FileCall.{FileCall}
use Rattle.nfs_file_calls.specs.declared.call.FileCall.TheVariants as files
use Rattle.nfs_file_calls.specs.declared.owned.FileKept.{FileKept}
use Rattle.nfs_file_calls.specs.declared.owned.FileKept.TheVariants as kept
use Rattle.world_model.specs.declared.message.Call.{Call}
use Rattle.world_model.specs.declared.message.Call.TheVariants as calls
use Rattle.world_model.specs.declared.message.Reply.{Reply}
use Rattle.world_model.specs.declared.message.Reply.TheVariants as replies
use Rattle.export_fs.specs.View.{View}
use Rattle.export_fs.specs.Parts.{wcc}
use Rattle.export_fs.specs.Refusals.{file_refusal}
use Rattle.export_fs.specs.After.{after_write}
use Rattle.export_fs.specs.Answer.{status}
use Rattle.export_fs.specs.Executed.{file_executed, executed}

-- a WRITE
abbrev pub IsWrite : Call → Type 0
IsWrite (calls.File (files.Write file offset how bytes)) = ⊤
IsWrite call = ⊥

-- the bytes are in the file as it is now, and a restart loses them; no bytes are no change
abbrev pub after_part : View → List ℕ → ℕ → List ℕ → View
after_part view file offset [] = view
after_part view file offset (b ∷ bytes) = after_write view file offset 0 (b ∷ bytes)

abbrev pub part_answer : View → View → List ℕ → ℕ → FileKept
part_answer old new file number = kept.WriteFail (status number) (wcc old.nodes new.nodes file)

-- the first bytes of the WRITE, at most so many, before it fails with that status
abbrev pub partly_written : View → List ℕ → ℕ → List ℕ → ℕ → View × FileKept
partly_written view file offset bytes number = (after_part view file offset bytes, part_answer view (after_part view file offset bytes) file number)

-- A WRITE that would be refused is refused, and a call of another kind is executed whole.
abbrev pub file_partly_executed : View → FileCall → ℕ → ℕ → View × FileKept
file_partly_executed view (files.Write file offset how bytes) count number =
    if file_refusal view (files.Write file offset how bytes) == 0 then partly_written view file offset (take count bytes) number
    else file_executed view (files.Write file offset how bytes)
file_partly_executed view call count number = file_executed view call

abbrev pub partly_executed : View → Call → ℕ → ℕ → View × Reply
partly_executed view (calls.File call) count number =
    ((file_partly_executed view call count number).0, replies.File (file_partly_executed view call count number).1)
partly_executed view call count number = executed view call
