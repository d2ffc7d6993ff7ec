-- A name of a file is removed (RFC 1813, section 3.3.12). A server forgets a file with its last name. So one that this client has open
-- gets a `.nfs` name instead, and is removed at its last close. (This is the client's own rule; RFC 1813, section 1.5.)
use Rattle.std.specs.Prelude.{◌≡◌, ◌⊎◌, ◌==◌, ℕ, ◌+◌, Bool, true, false, if◌then◌else◌, List, Option, Some, None, Result, Ok, Err, MatchBool}
use Rattle.std.specs.FinMap as map
use Rattle.nfs_dir_calls.specs.declared.call.DirCall.TheVariants as dirs
use Rattle.nfs_dir_calls.specs.declared.keeping.DirKept.TheVariants as kept
use Rattle.open_files.specs.Slots.{Opens, HoldsAny, IsOpen}
use Rattle.std.specs.Ordering.{nat_cmp}
use Rattle.std.specs.Cmp.Lexicographic.{slice_cmp}
use Rattle.silly_rename.specs.Plans.{plan_of}
use Rattle.silly_rename.specs.declared.removal.Plan.{Plan}
use Rattle.silly_rename.specs.declared.removal.Plan.TheVariants as plans
use Rattle.world_model.specs.declared.answer.Fault.{Fault}
use Rattle.world_model.specs.declared.answer.Fault.TheVariants as faults
use Rattle.world_model.specs.declared.answer.Answer.TheVariants as answers
use Rattle.world_model.specs.declared.answer.Value.TheVariants.{Nothing}
use Rattle.world_model.specs.declared.message.Call.{Call}
use Rattle.world_model.specs.declared.message.Call.TheVariants as calls
use Rattle.world_model.specs.declared.message.Reply.{Reply}
use Rattle.world_model.specs.declared.message.Reply.TheVariants.{Dir}
use Rattle.client_shelf.specs.declared.turn.Turn.{Turn}
use Rattle.client_shelf.specs.declared.shelf.Shelf.{Shelf}
use Rattle.client_shelf.specs.declared.step.Step.{Step}
use Rattle.client_shelf.specs.declared.step.Step.TheVariants as nexts
use Rattle.name_ops.specs.declared.told.Told.{Told}
use Rattle.name_ops.specs.declared.walk.WalkStep.{WalkStep}
use Rattle.name_ops.specs.declared.walk.WalkStep.TheVariants as walks
use Rattle.name_ops.specs.declared.remove_file.Deed.{Deed}
use Rattle.name_ops.specs.declared.remove_file.Deed.TheVariants.{Look, Seek, Move, Remove}
use Rattle.name_ops.specs.declared.remove_file.RemoveFile.{RemoveFile}
use Rattle.client_shelf.specs.Busy.{goes_again}
use Rattle.name_ops.specs.Changing.{done, failed, refused_by, told_busy, Changes}
use Rattle.name_ops.specs.Looking.{look_up, found_by, look_again, Hears}
use Rattle.name_ops.specs.Moving.{move_call, moved_told, moved_shelf, RenewsMoved}
use Rattle.name_ops.specs.Walking as walking

-- ---- calls

abbrev pub call_of : RemoveFile → Deed → Call
call_of m Look = look_up m.walk.spot.dir m.name
call_of m (Seek file to) = look_up m.walk.spot.dir to
call_of m (Move file to) = move_call m.walk.spot.dir m.name m.walk.spot.dir to
call_of m Remove = calls.Dir (dirs.Remove m.walk.spot.dir m.name)

-- It is asked for as soon as there is room.
abbrev pub asked_next : RemoveFile → Deed → Bool → Step
asked_next m deed room = if room then nexts.Send (call_of m deed) else nexts.Wait

abbrev pub asked_after : RemoveFile → Deed → Bool → RemoveFile
asked_after m deed room = record m { deed = Some deed; asked = room }

-- nothing happens
pub record Waits (m : RemoveFile) (old : Shelf) (next : Step) (new : RemoveFile) (after : Shelf) : Type 0 where
  pub next_is : next ≡ nexts.Wait
  pub machine_is : new ≡ m
  pub shelf_is : after ≡ old

-- the operation is refused, and all else stays
pub record Fails (fault : Fault) (m : RemoveFile) (old : Shelf) (next : Step) (new : RemoveFile) (after : Shelf) : Type 0 where
  pub next_is : next ≡ nexts.Done (answers.Refused fault)
  pub machine_is : new ≡ m
  pub shelf_is : after ≡ old

-- a call is asked for
pub record Asks (deed : Deed) (room : Bool) (m : RemoveFile) (old : Shelf) (next : Step) (new : RemoveFile) (after : Shelf) : Type 0 where
  pub next_is : next ≡ asked_next m deed room
  pub machine_is : new ≡ asked_after m deed room
  pub shelf_is : after ≡ old

-- it is made again if the server is busy
pub record Again (deed : Deed) (m : RemoveFile) (old : Shelf) (next : Step) (new : RemoveFile) (after : Shelf) : Type 0 where
  pub next_is : next ≡ nexts.Send (call_of m deed)
  pub machine_is : new ≡ m
  pub shelf_is : after ≡ old

-- ---- to the directory

-- If this client has any file open, it looks up the name.
abbrev pub first_deed : Bool → Deed
first_deed any = if any then Look else Remove

pub record Begins (room : Bool) (m : RemoveFile) (opens : Opens) (next : Step) (new : RemoveFile) : Type 0 where
  pub any : Bool
  pub told : MatchBool any (HoldsAny opens) (¬ HoldsAny opens)
  pub next_is : next ≡ asked_next m (first_deed any) room
  pub machine_is : new ≡ asked_after m (first_deed any) room

-- It does as its walk does, until that has come to its end.
abbrev pub Follows : WalkStep → Bool → RemoveFile → Opens → Step → RemoveFile → Type 0
Follows (walks.Send call) room m opens next new = (next ≡ nexts.Send call) × (new ≡ m)
Follows walks.Wait room m opens next new = (next ≡ nexts.Wait) × (new ≡ m)
Follows (walks.At dir) room m opens next new = Begins room m opens next new
Follows (walks.Refused fault) room m opens next new = (next ≡ nexts.Done (answers.Refused fault)) × (new ≡ m)

pub record WalksOn (m : RemoveFile) (turn : Turn) (old : Shelf) (next : Step) (new : RemoveFile) (after : Shelf) : Type 0 where
  pub follows : Follows (walking.go_next m.walk turn old) turn.room (record m { walk = walking.go_after m.walk turn old }) old.opens next new
  pub shelf_is : after ≡ walking.go_shelf m.walk turn old

-- a step that no reply made possible
abbrev pub Goes : Option Deed → RemoveFile → Turn → Shelf → Step → RemoveFile → Shelf → Type 0
Goes (Some deed) m turn old next new after = Asks deed turn.room m old next new after
Goes None m turn old next new after = WalksOn m turn old next new after

abbrev pub Resumes : Bool → RemoveFile → Turn → Shelf → Step → RemoveFile → Shelf → Type 0
Resumes true m turn old next new after = Waits m old next new after
Resumes false m turn old next new after = Goes m.deed m turn old next new after

-- ---- the file

-- 0 follows the last number
abbrev pub next_number : ℕ → ℕ
next_number number = if number == 4294967295 then 0 else number + 1

-- A file that isn't open is removed. For one that is, the next `.nfs` name is looked up, and its number is used up.
abbrev pub deed_of : List ℕ → Plan → Deed
deed_of file plans.Direct = Remove
deed_of file (plans.Rename to) = Seek file to

abbrev pub counter_of : Plan → ℕ → ℕ
counter_of plans.Direct counter = counter
counter_of (plans.Rename to) counter = next_number counter

pub record Plans (is_open : Bool) (file : List ℕ) (m : RemoveFile) (room : Bool) (old : Shelf) (next : Step) (new : RemoveFile) (after : Shelf) : Type 0 where
  pub next_is : next ≡ asked_next m (deed_of file (plan_of is_open old.counter)) room
  pub machine_is : new ≡ asked_after m (deed_of file (plan_of is_open old.counter)) room
  pub shelf_is : after ≡ record old { counter = counter_of (plan_of is_open old.counter) old.counter }

pub record Finds (file : List ℕ) (m : RemoveFile) (room : Bool) (old : Shelf) (next : Step) (new : RemoveFile) (after : Shelf) : Type 0 where
  pub is_open : Bool
  pub told : MatchBool is_open (IsOpen old.opens file) (¬ IsOpen old.opens file)
  pub plans : Plans is_open file m room old next new after

-- after the LOOKUP of the name
abbrev pub LookLeads : Result (List ℕ) Fault → RemoveFile → Bool → Shelf → Step → RemoveFile → Shelf → Type 0
LookLeads (Ok file) m room old next new after = Finds file m room old next new after
LookLeads (Err fault) m room old next new after = Fails fault m old next new after

abbrev pub FollowsLook : Bool → Result (List ℕ) Fault → RemoveFile → Bool → Shelf → Step → RemoveFile → Shelf → Type 0
FollowsLook true told m room old next new after = Again Look m old next new after
FollowsLook false told m room old next new after = LookLeads told m room old next new after

pub record TakesLook (m : RemoveFile) (sent turn : Turn) (came : Result Reply Fault) (old : Shelf) (next : Step) (new : RemoveFile)
    (after : Shelf) : Type 0 where
  pub heard : Shelf
  pub hears : Hears m.walk.spot.dir m.name sent turn came old heard
  pub follows : FollowsLook (look_again sent turn came old) (found_by came) m turn.room heard next new after

-- ---- a `.nfs` name

-- whether nothing has that name (RFC 1813, section 2.6, NFS3ERR_NOENT)
abbrev pub is_missing : Fault → Bool
is_missing (faults.Nfs status) = status == 2
is_missing fault = false

-- A name that nothing has is taken.
abbrev pub missed_next : Bool → Fault → List ℕ → List ℕ → RemoveFile → Bool → Step
missed_next missing fault file to m room = if missing then asked_next m (Move file to) room else nexts.Done (answers.Refused fault)

abbrev pub missed_after : Bool → List ℕ → List ℕ → RemoveFile → Bool → RemoveFile
missed_after missing file to m room = if missing then asked_after m (Move file to) room else m

pub record Misses (fault : Fault) (file to : List ℕ) (m : RemoveFile) (room : Bool) (old : Shelf) (next : Step) (new : RemoveFile)
    (after : Shelf) : Type 0 where
  pub next_is : next ≡ missed_next (is_missing fault) fault file to m room
  pub machine_is : new ≡ missed_after (is_missing fault) file to m room
  pub shelf_is : after ≡ old

-- After one that something has the next one is looked up.
abbrev pub SeekLeads : Result (List ℕ) Fault → List ℕ → List ℕ → RemoveFile → Bool → Shelf → Step → RemoveFile → Shelf → Type 0
SeekLeads (Ok found) file to m room old next new after = Plans true file m room old next new after
SeekLeads (Err fault) file to m room old next new after = Misses fault file to m room old next new after

abbrev pub FollowsSeek : Bool → Result (List ℕ) Fault → List ℕ → List ℕ → RemoveFile → Bool → Shelf → Step → RemoveFile → Shelf → Type 0
FollowsSeek true told file to m room old next new after = Again (Seek file to) m old next new after
FollowsSeek false told file to m room old next new after = SeekLeads told file to m room old next new after

pub record TakesSeek (file to : List ℕ) (m : RemoveFile) (sent turn : Turn) (came : Result Reply Fault) (old : Shelf) (next : Step) (new : RemoveFile)
    (after : Shelf) : Type 0 where
  pub heard : Shelf
  pub hears : Hears m.walk.spot.dir to sent turn came old heard
  pub follows : FollowsSeek (look_again sent turn came old) (found_by came) file to m turn.room heard next new after

-- ---- the RENAME

-- the places of files that are to be removed at their last close
abbrev pub Places : Type 0
Places = map.FinMap (slice_cmp nat_cmp) (List ℕ × List ℕ)

-- What was renamed is to be removed at the file's last close; there may be no memory to keep this.
abbrev pub Keeps : List ℕ → List ℕ → List ℕ → Places → Step → Places → Type 0
Keeps file dir to old next new =
    ((next ≡ nexts.Done (answers.Done Nothing)) × (new ≡ map.insert old file (dir, to))) ⊎ ((next ≡ nexts.Done (answers.Refused faults.Memory)) × (new ≡ old))

abbrev pub MoveLeads : Option Fault → List ℕ → List ℕ → RemoveFile → Places → Step → Places → Type 0
MoveLeads None file to m old next new = Keeps file m.walk.spot.dir to old next new
MoveLeads (Some fault) file to m old next new = (next ≡ nexts.Done (answers.Refused fault)) × (new ≡ old)

abbrev pub EndsMove : Bool → Option Fault → List ℕ → List ℕ → RemoveFile → Places → Step → Places → Type 0
EndsMove true refusal file to m old next new = (next ≡ nexts.Send (call_of m (Move file to))) × (new ≡ old)
EndsMove false refusal file to m old next new = MoveLeads refusal file to m old next new

abbrev pub move_again : Turn → Turn → Result Reply Fault → Shelf → Bool
move_again sent turn came shelf = goes_again (told_busy (moved_told came).refusal) sent turn shelf.repeats

pub record TakesMove (file to : List ℕ) (m : RemoveFile) (sent turn : Turn) (came : Result Reply Fault) (old : Shelf) (next : Step)
    (after : Shelf) : Type 0 where
  pub attrs : RenewsMoved (moved_told came).unmade m.walk.spot.dir m.walk.spot.dir (moved_told came) sent.now old.attrs after.attrs
  pub ends : EndsMove (move_again sent turn came old) (moved_told came).refusal file to m old.silly next after.silly
  pub others : after ≡ record (moved_shelf m.walk.spot.dir m.walk.spot.dir (moved_told came) sent turn after.attrs old) { silly = after.silly }

-- ---- the REMOVE

-- what the reply tells
abbrev pub removed_told : Result Reply Fault → Told
removed_told (Ok (Dir (kept.Remove wcc))) = done wcc
removed_told (Ok (Dir (kept.RemoveFail status wcc))) = failed status wcc
removed_told (Ok reply) = refused_by (faults.Bad 2)
removed_told (Err fault) = refused_by fault

-- ---- the step at what came of a call

abbrev pub TakesDeed : Deed → RemoveFile → Turn → Turn → Result Reply Fault → Shelf → Step → RemoveFile → Shelf → Type 0
TakesDeed Look m sent turn came old next new after = TakesLook m sent turn came old next new after
TakesDeed (Seek file to) m sent turn came old next new after = TakesSeek file to m sent turn came old next new after
TakesDeed (Move file to) m sent turn came old next new after = (new ≡ m) × TakesMove file to m sent turn came old next after
TakesDeed Remove m sent turn came old next new after = (new ≡ m) × Changes m.walk.spot.dir (call_of m Remove) (removed_told came) sent turn old next after

-- It means nothing if none was asked for.
abbrev pub TakesIf : Bool → Deed → RemoveFile → Turn → Turn → Result Reply Fault → Shelf → Step → RemoveFile → Shelf → Type 0
TakesIf true deed m sent turn came old next new after = TakesDeed deed m sent turn came old next new after
TakesIf false deed m sent turn came old next new after = Waits m old next new after

pub record TakesWalk (m : RemoveFile) (sent turn : Turn) (came : Result Reply Fault) (old : Shelf) (next : Step) (new : RemoveFile)
    (after : Shelf) : Type 0 where
  pub step : WalkStep
  pub walked : RemoveFile
  pub takes : walking.Takes (walking.waiting_name m.walk) m.walk sent turn came old step walked.walk after
  pub walked_is : walked ≡ record m { walk = walked.walk }
  pub follows : Follows step turn.room walked after.opens next new

abbrev pub Takes : Option Deed → RemoveFile → Turn → Turn → Result Reply Fault → Shelf → Step → RemoveFile → Shelf → Type 0
Takes (Some deed) m sent turn came old next new after = TakesIf m.asked deed m sent turn came old next new after
Takes None m sent turn came old next new after = TakesWalk m sent turn came old next new after
