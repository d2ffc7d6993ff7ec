-- Operations on files that wait so that a step that no reply made possible does nothing.
use Rattle.std.specs.Prelude.{◌≡◌, ℕ, Bool, true, false}
use Rattle.std.specs.Bool.{OnTrue}
use Rattle.page_cache.specs.Pages.{Pages}
use Rattle.write_back.specs.Files.{Pending}
use Rattle.client_shelf.specs.declared.shelf.Shelf.{Shelf}
use Rattle.client_shelf.specs.declared.turn.Turn.{Turn}
use Rattle.client_shelf.specs.declared.step.Step.TheVariants as nexts
use Rattle.client_shelf.specs.LaneFiles.{is_first}
use Rattle.file_ops.specs.declared.close_file.CloseFile.{CloseFile}
use Rattle.file_ops.specs.declared.put_file.PutFile.{PutFile}
use Rattle.file_ops.specs.declared.read_file.ReadFile.{ReadFile}
use Rattle.file_ops.specs.declared.saving.Saving.{Saving}
use Rattle.file_ops.specs.declared.saving.SavingStep.TheVariants.{Wait}
use Rattle.file_ops.specs.declared.sync_file.SyncFile.{SyncFile}
use Rattle.file_ops.specs.declared.write_file.Writing.{Writing}
use Rattle.file_ops.specs.Closes as closes
use Rattle.file_ops.specs.PutFile as puts
use Rattle.file_ops.specs.ReadFile as reads
use Rattle.file_ops.specs.Saves as saves
use Rattle.file_ops.specs.Syncs as syncs
use Rattle.file_ops.specs.WriteFile as writes

-- a save that goes on waits, and changes nothing
abbrev pub SaveRests : Saving → Pending → Type 0
SaveRests s back = (wsize xid : ℕ) (room : Bool) → saves.Goes wsize xid room false s back Wait s back

-- the same of a lane's save once its turn has come
abbrev pub TurnRests : ℕ → Saving → Shelf → Type 0
TurnRests lane s shelf = OnTrue (is_first lane shelf.order) (SaveRests s shelf.back)

-- the same of a sync, of a write that makes room, of a close, of a put and of a read
abbrev pub SyncRests : SyncFile → Shelf → Type 0
SyncRests m shelf = (wsize : ℕ) (turn : Turn) → syncs.Resumes m.state wsize m turn shelf nexts.Wait m.state shelf

abbrev pub WriteRests : Writing → ℕ → Shelf → Type 0
WriteRests state lane shelf = (wsize : ℕ) (turn : Turn) → writes.ResumesIn state wsize lane turn shelf nexts.Wait state shelf

abbrev pub CloseRests : CloseFile → Shelf → Type 0
CloseRests m shelf = (wsize : ℕ) (turn : Turn) → closes.Resumes m.state wsize m turn shelf nexts.Wait m.state shelf

abbrev pub PutRests : PutFile → Shelf → Type 0
PutRests m shelf = (wsize : ℕ) (turn : Turn) → puts.Resumes m.state wsize m turn shelf nexts.Wait m shelf

abbrev pub ReadRests : ReadFile → Type 0
ReadRests m = (room : Bool) (pages : Pages) (back : Pending) → reads.ResumesIn m.reading room m pages back nexts.Wait m pages
