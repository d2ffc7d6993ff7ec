-- What a close does once what was pending of its file was made stable, or wasn't:
-- - the slot is free;
-- - a file that was to be removed at its last close is removed;
-- - bytes that were refused are given up if the file isn't open any more.
use Rattle.std.specs.Prelude.{◌≡◌, ◌≤◌, ◌==◌, ℕ, Bool, true, false, not, ◌&&◌, if◌then◌else◌, List, Option, Some, None, Result, Ok, Err, MatchBool}
use Rattle.std.specs.FinMap as map
use Rattle.std.specs.Ordering.{nat_cmp}
use Rattle.std.specs.Cmp.Lexicographic.{slice_cmp}
use Rattle.nfs_types.specs.declared.attr.Attr.{Attr}
use Rattle.nfs_dir_calls.specs.declared.call.DirCall.TheVariants.{Remove}
use Rattle.nfs_dir_calls.specs.declared.keeping.DirKept.{DirKept}
use Rattle.nfs_dir_calls.specs.declared.keeping.DirKept.TheVariants as kept
use Rattle.world_model.specs.declared.answer.Answer.{Answer}
use Rattle.world_model.specs.declared.answer.Answer.TheVariants as answers
use Rattle.world_model.specs.declared.answer.Value.TheVariants.{Nothing}
use Rattle.world_model.specs.declared.answer.Fault.{Fault}
use Rattle.world_model.specs.declared.message.Call.{Call}
use Rattle.world_model.specs.declared.message.Call.TheVariants as calls
use Rattle.world_model.specs.declared.message.Reply.{Reply}
use Rattle.world_model.specs.declared.message.Reply.TheVariants as replies
use Rattle.open_files.specs.Slots.{Opens, IsOpen}
use Rattle.write_back.specs.Pieces.{nothing}
use Rattle.write_back.specs.Files.{Pending, all_pending, OnFile}
use Rattle.file_ops.specs.Quiet.{is_quiet}
use Rattle.file_ops.specs.declared.closing.Removal.{Removal}

-- the places of files that are to be removed at their last close
abbrev pub Places : Type 0
Places = map.FinMap (slice_cmp nat_cmp) (List ℕ × List ℕ)

-- whether a file is open
abbrev pub TellsOpen : Opens → List ℕ → Bool → Type 0
TellsOpen opens file is_open = MatchBool is_open (IsOpen opens file) (¬ IsOpen opens file)

-- The place that a file has is told, once, if the file isn't open any more.
pub record TellsPlace (file : List ℕ) (opens : Opens) (old : Places) (place : Option (List ℕ × List ℕ)) (new : Places) : Type 0 where
  pub is_open : Bool
  pub told : TellsOpen opens file is_open
  pub place_is : place ≡ (if is_open then None else map.get old file)
  pub after : new ≡ (if is_open then old else map.remove old file)

-- the call that removes it
abbrev pub remove_of : Removal → Call
remove_of removal = calls.Dir (Remove removal.dir removal.name)

-- the attributes of the directory after a REMOVE, done or refused, if its reply gives them
abbrev pub removed_by : DirKept → Option Attr
removed_by (kept.Remove wcc) = wcc.after
removed_by (kept.RemoveFail status wcc) = wcc.after
removed_by reply = None

abbrev pub removed_of : Result Reply Fault → Option Attr
removed_of (Ok (replies.Dir reply)) = removed_by reply
removed_of (Ok reply) = None
removed_of (Err fault) = None

-- whether it was refused because the server is busy (RFC 1813, section 2.6, NFS3ERR_JUKEBOX)
abbrev pub busy_by : DirKept → Bool
busy_by (kept.RemoveFail status wcc) = status.0 == 10008
busy_by reply = false

abbrev pub remove_busy : Result Reply Fault → Bool
remove_busy (Ok (replies.Dir reply)) = busy_by reply
remove_busy (Ok reply) = false
remove_busy (Err fault) = false

-- Bytes of a file that isn't open are given up. If some are in flight, which never is so, all stay.
abbrev pub GivesIf : Bool → List ℕ → Pending → Pending → Type 0
GivesIf true file old new = OnFile old new file nothing
GivesIf false file old new = new ≡ old

pub record GivesUp (file : List ℕ) (opens : Opens) (old new : Pending) : Type 0 where
  pub is_open : Bool
  pub told : TellsOpen opens file is_open
  pub back : GivesIf (not is_open && is_quiet file old) file old new
  pub total : all_pending new ≤ all_pending old

abbrev pub GivesUpBy : Option Fault → List ℕ → Opens → Pending → Pending → Type 0
GivesUpBy None file opens old new = new ≡ old
GivesUpBy (Some fault) file opens old new = GivesUp file opens old new

-- the answer of a close
abbrev pub closed_answer : Option Fault → Answer
closed_answer None = answers.Done Nothing
closed_answer (Some fault) = answers.Refused fault

abbrev pub refusal_of : Result (Unit {0}) Fault → Option Fault
refusal_of (Ok done) = None
refusal_of (Err fault) = Some fault
