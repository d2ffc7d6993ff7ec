-- Operations of a history and the files that they are of.
use Rattle.std.specs.Prelude.{◌≡◌, ◌&&◌, ◌||◌, not, nat_le, min, ℕ, Bool, true, false, List, [], Option, Some, None, MatchOption, slice_get}
use Rattle.std.specs.List.{list_any}
use Rattle.std.specs.Str.{bytes_eq}
use Rattle.world_model.specs.declared.entry.Entry.{Entry}
use Rattle.world_model.specs.declared.entry.Entry.TheVariants.{Began}
use Rattle.world_model.specs.declared.op.Op.TheVariants as ops
use Rattle.world_model.specs.Entries.{At}
use Rattle.world_model.specs.Leads.{Leads}
use Rattle.world_model.specs.Mounts.{Origin}
use Rattle.claims.specs.Modes.{Modes}
use Rattle.claims.specs.Slots.{Opens, InSlot, PutsTo}
use Rattle.trace_claims.specs.declared.courses.Course.{Course}
use Rattle.trace_claims.specs.declared.courses.Work.{Work}
use Rattle.trace_claims.specs.declared.courses.Work.TheVariants as works
use Rattle.trace_claims.specs.declared.operations.Hold.{Hold}
use Rattle.trace_claims.specs.declared.operations.Lead.{Lead}
use Rattle.trace_claims.specs.declared.operations.Operation.{Operation}
use Rattle.trace_claims.specs.Courses.{is_done, is_refused, is_write, covers, slot_of_work, IsCourse}

-- ---- tests

abbrev pub holds_file : List ℕ → Hold → Bool
holds_file f hold = bytes_eq hold.file f

-- its slot holds the file
abbrev pub is_of : Operation → List ℕ → Bool
is_of o f = list_any (holds_file f) o.holds.items

-- the path leads to the file by the place n
abbrev pub leads_by : List ℕ → ℕ → Lead → Bool
leads_by f n lead = bytes_eq lead.file f && nat_le lead.since n

-- its path leads to the file by its end in the beginning of n entries
abbrev pub leads_to : Operation → ℕ → List ℕ → Bool
leads_to o n f = list_any (leads_by f (min o.course.ending.end n)) o.leads.items

abbrev pub named_is : List ℕ → Option (List ℕ) → Bool
named_is f None = false
named_is f (Some g) = bytes_eq g f

-- of a write or fill the first test, of a put the second
abbrev pub if_writer : Work → Bool → Bool → Bool
if_writer (works.Write slot offset count) a b = a
if_writer (works.Put offset count) a b = b
if_writer work a b = false

-- of a sync or close the first test, of a put the second
abbrev pub if_stabilizer : Work → Bool → Bool → Bool
if_stabilizer (works.Sync slot) a b = a
if_stabilizer (works.Close slot) a b = a
if_stabilizer (works.Put offset count) a b = b
if_stabilizer work a b = false

-- a truncate to at most i, if the test holds
abbrev pub if_cut : Work → ℕ → Bool → Bool
if_cut (works.Truncate slot size) i a = nat_le size i && a
if_cut work i a = false

-- it writes to the file in the beginning of n entries, whatever becomes of it
abbrev pub writes_to : Operation → ℕ → List ℕ → Bool
writes_to o n f = if_writer o.course.work (is_of o f) (leads_to o n f)

-- it is a write, fill or put of the file that succeeded before the place n
abbrev pub wrote_to : Operation → ℕ → List ℕ → Bool
wrote_to o n f = is_done o.course n && if_writer o.course.work (is_of o f) (named_is f o.named)

-- it is a sync, close or put of the file that succeeded before the place n
abbrev pub made_stable : Operation → ℕ → List ℕ → Bool
made_stable o n f = is_done o.course n && if_stabilizer o.course.work (is_of o f) (named_is f o.named)

-- it is a truncate of the file to at most i
abbrev pub cuts : Operation → List ℕ → ℕ → Bool
cuts o f i = if_cut o.course.work i (is_of o f)

-- it writes the place i of the file, unless that was refused, or cuts it off, in the beginning of n entries
abbrev pub writes_or_cuts : Operation → ℕ → List ℕ → ℕ → Bool
writes_or_cuts o n f i = (covers o.course.work i && writes_to o n f && not (is_write o.course.work && is_refused o.course n)) || cuts o f i

-- it succeeded before the place n, and covers, cuts off or settles the place i of the file
abbrev pub ends_pending : Operation → ℕ → List ℕ → ℕ → Bool
ends_pending o n f i = is_done o.course n && (made_stable o n f || (covers o.course.work i && wrote_to o n f) || cuts o f i)

-- ---- what the files are

-- the open or put that went so succeeded, of this file
pub data IsFileOf (m : Modes) (h : List Entry) (c : Course) (f : List ℕ) : Type 0 where
  opened : (lane slot : ℕ) → Opens m h lane slot c.place c.ending.end f → IsFileOf m h c f
  put : (offset : ℕ) (bytes : List ℕ) → PutsTo h c.place c.ending.end f offset bytes → IsFileOf m h c f

-- and of no other
pub record IsOnlyFileOf (m : Modes) (h : List Entry) (c : Course) (f : List ℕ) : Type 0 where
  pub is : IsFileOf m h c f
  pub only : (g : List ℕ) → IsFileOf m h c g → g ≡ f

abbrev pub FindsFile : Modes → List Entry → Course → Option (List ℕ) → Type 0
FindsFile m h c named = MatchOption named ((f : List ℕ) → IsFileOf m h c f → ⊥) (IsOnlyFileOf m h c)

abbrev pub HasHold : List Hold → ℕ → List ℕ → Type 0
HasHold holds x f = (k : ℕ) × (hold : Hold) × (slice_get holds k ≡ Some hold) × (hold.opened_at ≡ x) × (hold.file ≡ f)

-- the list has what the slot holds before the place n, and that alone
pub record HoldsAll (m : Modes) (h : List Entry) (n lane slot : ℕ) (holds : List Hold) : Type 0 where
  pub each : (k : ℕ) (hold : Hold) → slice_get holds k ≡ Some hold → InSlot m h n lane slot hold.opened_at hold.file
  pub every : (x : ℕ) (f : List ℕ) → InSlot m h n lane slot x f → HasHold holds x f

-- the list has what the slot of an operation holds, if it works on one
abbrev pub HoldsFor : Modes → List Entry → Course → Option ℕ → List Hold → Type 0
HoldsFor m h c None holds = holds ≡ []
HoldsFor m h c (Some slot) holds = HoldsAll m h c.place c.lane slot holds

abbrev pub HasLead : List Lead → ℕ → List ℕ → Type 0
HasLead leads n f = (k : ℕ) × (lead : Lead) × (slice_get leads k ≡ Some lead) × (nat_le lead.since n ≡ true) × (lead.file ≡ f)

-- the list has the objects to which the path leads, each with a moment from which it does, and those alone
pub record LeadsAll (origin : Origin) (h : List Entry) (path : List (List ℕ)) (leads : List Lead) : Type 0 where
  pub each : (k : ℕ) (lead : Lead) → slice_get leads k ≡ Some lead → Leads origin h lead.since path lead.file
  pub every : (n : ℕ) (f : List ℕ) → Leads origin h n path f → HasLead leads n f

-- An operation of the history with its files.
pub record IsOperation (m : Modes) (origin : Origin) (h : List Entry) (o : Operation) : Type 0 where
  pub course : IsCourse h o.course
  pub named : FindsFile m h o.course o.named
  pub holds : HoldsFor m h o.course (slot_of_work o.course.work) o.holds.items
  pub leads : (lane line offset : ℕ) (path : List (List ℕ)) (bytes : List ℕ)
      → At h o.course.place (Began lane line (ops.Put path offset bytes)) → LeadsAll origin h path o.leads.items
