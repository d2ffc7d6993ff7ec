-- What is said of pending bytes, and of those that an operation may add, says whatever follows of each byte.
use Rattle.core_answers.proofs.Prelude.{ℕ, Bool, true, false, List, [], ◌∷◌, Call, Opens, Pending, of_file, Sent, FilePending, Segments, Step, Closing, Putting, Syncing, Writing, FileMachine, Machine, Opener, file_of}
use Rattle.client_shelf.specs.declared.step.Step.TheVariants as nexts
use Rattle.file_ops.specs.declared.close_file.Closing.TheVariants as closing
use Rattle.file_ops.specs.declared.put_file.Putting.TheVariants as putting
use Rattle.file_ops.specs.declared.sync_file.Syncing.TheVariants as syncing
use Rattle.file_ops.specs.declared.write_file.Writing.TheVariants as writing
use Rattle.file_ops.specs.WriteFile as writes
use Rattle.op_machines.specs.declared.file_machine.FileMachine.TheVariants as files
use Rattle.op_machines.specs.declared.machine.Machine.TheVariants as machines
use Rattle.op_machines.specs.declared.opener.Opener.TheVariants as openers
use Rattle.core_answers.proofs.writes.AllBacks.{OnWay, OtherBy, AsksOther, PathSaves, Saves, PathBrings, Brings, StartsWith}
use Rattle.core_answers.proofs.writes.Backs.{RoomIs, PutIs, FileBrings, FileStartsWith, SyncSaves, CloseSaves, WriteSaves, PutSaves, FileSaves}
use Rattle.core_answers.proofs.writes.Given.{OfSegments, OfPieces, OfFile, OfBack}

-- ---- pending bytes

module _ (G H : ℕ → ℕ → ℕ → Type 0) (f : (place byte number : ℕ) → G place byte number → H place byte number) where
  segments-map : (es : Segments) → OfSegments G es → OfSegments H es
  segments-map [] g = tt
  segments-map (e ∷ es) g = (λ place c. f place _ e.1.number (g.0 place c), segments-map es g.1)

  pieces-map : (pieces : List Sent) → OfPieces G pieces → OfPieces H pieces
  pieces-map [] g = tt
  pieces-map (piece ∷ pieces) g = (λ place part c is. f place _ part.number (g.0 place part c is), pieces-map pieces g.1)

  pub file-map : (of : FilePending) → OfFile G of → OfFile H of
  file-map of g = record { segments = segments-map of.segments g.segments; pieces = pieces-map of.pieces g.pieces }

pub back-map : (G H : List ℕ → ℕ → ℕ → ℕ → Type 0) → ((file : List ℕ) (place byte number : ℕ) → G file place byte number → H file place byte number) → (back : Pending)
    → OfBack G back → OfBack H back
back-map G H f back g = record { file = λ file. file-map (G file) (H file) (f file) (of_file file back) (g.file file) }

-- ---- bytes that may be added

room-map : (B C : List ℕ → Type 0) → ((file : List ℕ) → B file → C file) → (state : Writing) → RoomIs B state → RoomIs C state
room-map B C f writing.Idle r = tt
room-map B C f (writing.Room file saving) r = f file r

put-map : (B C : List ℕ → Type 0) → ((file : List ℕ) → B file → C file) → (state : Putting) (write : Writing) → PutIs B state write → PutIs C state write
put-map B C f putting.Idle write r = tt
put-map B C f putting.Opens write r = λ file. f file (r file)
put-map B C f (putting.Adds file) write r = room-map B C f write r
put-map B C f (putting.Saves saving) write r = tt

module _ (A D : List ℕ → ℕ → List ℕ → Type 0) (f : (file : List ℕ) (offset : ℕ) (bytes : List ℕ) → A file offset bytes → D file offset bytes) where
  file-brings-map : (m : FileMachine) → FileBrings A m → FileBrings D m
  file-brings-map (files.Open m) b = tt
  file-brings-map (files.Read m) b = tt
  file-brings-map (files.Write m) b = room-map (λ g. A g m.offset (writes.made_bytes m.text)) (λ g. D g m.offset (writes.made_bytes m.text))
      (λ g. f g m.offset (writes.made_bytes m.text)) m.state b
  file-brings-map (files.Sync m) b = tt
  file-brings-map (files.Close m) b = tt
  file-brings-map (files.Truncate m) b = tt
  file-brings-map (files.Put m) b = put-map (λ g. A g m.write.offset (writes.made_bytes m.write.text)) (λ g. D g m.write.offset (writes.made_bytes m.write.text))
      (λ g. f g m.write.offset (writes.made_bytes m.write.text)) m.state m.write.state b

  path-brings-map : (arrived : Bool) (o : Opener) → PathBrings A arrived o → PathBrings D arrived o
  path-brings-map true o b = file-brings-map (file_of o) b
  path-brings-map false (openers.Open m) b = tt
  path-brings-map false (openers.Put m) b = λ g. f g m.write.offset (writes.made_bytes m.write.text) (b g)

  pub brings-map : (m : Machine) → Brings A m → Brings D m
  brings-map (machines.File m) b = file-brings-map m b
  brings-map (machines.Path m) b = path-brings-map m.arrived m.opener b
  brings-map (machines.Name m) b = tt

-- ---- where nothing is asked of them

any-way : (arrived : Bool) (call : Call) → OnWay (λ c. Unit {0}) arrived call
any-way true call = tt
any-way false call = tt

any-other : (m : Machine) (call : Call) → OtherBy (λ c. Unit {0}) m call
any-other (machines.File m) call = tt
any-other (machines.Path m) call = any-way m.arrived call
any-other (machines.Name m) call = tt

pub any-asks : (next : Step) (new : Machine) → AsksOther (λ c. Unit {0}) next new
any-asks (nexts.Send call) new = any-other new call
any-asks nexts.Wait new = tt
any-asks (nexts.Done answer) new = tt

any-sync : (state : Syncing) → SyncSaves (λ s. Unit {0}) state
any-sync syncing.Idle = tt
any-sync (syncing.Saves saving) = tt

any-close : (state : Closing) → CloseSaves (λ s. Unit {0}) state
any-close closing.Idle = tt
any-close (closing.Queued saving) = tt
any-close (closing.Saves saving) = tt
any-close (closing.ToRemove removal) = tt
any-close (closing.Removing removal) = tt

any-write : (state : Writing) → WriteSaves (λ s. Unit {0}) state
any-write writing.Idle = tt
any-write (writing.Room file saving) = tt

any-put : (state : Putting) (write : Writing) → PutSaves (λ s. Unit {0}) state write
any-put putting.Idle write = tt
any-put putting.Opens write = tt
any-put (putting.Adds file) write = any-write write
any-put (putting.Saves saving) write = tt

any-file : (m : FileMachine) → FileSaves (λ s. Unit {0}) m
any-file (files.Open m) = tt
any-file (files.Read m) = tt
any-file (files.Write m) = any-write m.state
any-file (files.Sync m) = any-sync m.state
any-file (files.Close m) = any-close m.state
any-file (files.Truncate m) = tt
any-file (files.Put m) = any-put m.state m.write.state

any-path : (arrived : Bool) (o : Opener) → PathSaves (λ s. Unit {0}) arrived o
any-path true o = any-file (file_of o)
any-path false o = tt

pub any-saves : (m : Machine) → Saves (λ s. Unit {0}) m
any-saves (machines.File m) = any-file m
any-saves (machines.Path m) = any-path m.arrived m.opener
any-saves (machines.Name m) = tt

any-room : (state : Writing) → RoomIs (λ f. Unit {0}) state
any-room writing.Idle = tt
any-room (writing.Room file saving) = tt

any-putting : (state : Putting) (write : Writing) → PutIs (λ f. Unit {0}) state write
any-putting putting.Idle write = tt
any-putting putting.Opens write = λ file. tt
any-putting (putting.Adds file) write = any-room write
any-putting (putting.Saves saving) write = tt

any-file-brings : (m : FileMachine) → FileBrings (λ f o b. Unit {0}) m
any-file-brings (files.Open m) = tt
any-file-brings (files.Read m) = tt
any-file-brings (files.Write m) = any-room m.state
any-file-brings (files.Sync m) = tt
any-file-brings (files.Close m) = tt
any-file-brings (files.Truncate m) = tt
any-file-brings (files.Put m) = any-putting m.state m.write.state

any-path-brings : (arrived : Bool) (o : Opener) → PathBrings (λ f o b. Unit {0}) arrived o
any-path-brings true o = any-file-brings (file_of o)
any-path-brings false (openers.Open m) = tt
any-path-brings false (openers.Put m) = λ file. tt

pub any-brings : (m : Machine) → Brings (λ f o b. Unit {0}) m
any-brings (machines.File m) = any-file-brings m
any-brings (machines.Path m) = any-path-brings m.arrived m.opener
any-brings (machines.Name m) = tt

any-file-starts : (m : FileMachine) (slots : Opens) → FileStartsWith (λ f o b. Unit {0}) m slots
any-file-starts (files.Open m) slots = tt
any-file-starts (files.Read m) slots = tt
any-file-starts (files.Write m) slots = λ file found. tt
any-file-starts (files.Sync m) slots = tt
any-file-starts (files.Close m) slots = tt
any-file-starts (files.Truncate m) slots = tt
any-file-starts (files.Put m) slots = λ file. tt

pub any-starts : (m : Machine) (slots : Opens) → StartsWith (λ f o b. Unit {0}) m slots
any-starts (machines.File m) slots = any-file-starts m slots
any-starts (machines.Path m) slots = any-path-brings m.arrived m.opener
any-starts (machines.Name m) slots = tt
