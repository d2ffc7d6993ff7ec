-- Last closes: whether a slot still holds the file, and whether what was pending is given up.
use Rattle.std.specs.Prelude.{◌&&◌, ◌||◌, ℕ, Bool, List}
use Rattle.std.specs.List.{list_any}
use Rattle.world_model.specs.declared.entry.Entry.{Entry}
use Rattle.claims.specs.Modes.{Modes}
use Rattle.claims.specs.Slots.{InSlot}
use Rattle.trace_claims.specs.declared.courses.Course.{Course}
use Rattle.trace_claims.specs.declared.courses.Work.{Work}
use Rattle.trace_claims.specs.declared.courses.Work.TheVariants as works
use Rattle.trace_claims.specs.declared.operations.Hold.{Hold}
use Rattle.trace_claims.specs.declared.operations.Operation.{Operation}
use Rattle.trace_claims.specs.declared.slots.Named.{Named}
use Rattle.trace_claims.specs.declared.touched.Left.{Left}
use Rattle.trace_claims.specs.Coming.{none_came}
use Rattle.trace_claims.specs.Courses.{fails, is_close, is_refused}
use Rattle.trace_claims.specs.Operations.{holds_file, is_of}
use Rattle.trace_claims.specs.Touching.{no_put}

-- ---- tests

abbrev pub has_file : List Hold → List ℕ → Bool
has_file holds f = list_any (holds_file f) holds

abbrev pub was_refused : Course → Bool
was_refused c = fails c.ending.outcome

-- it is a close of the file that was refused before the place, with no record between
abbrev pub gives_up_beside : List ℕ → ℕ → List ℕ → Operation → Bool
gives_up_beside came k f o = is_close o.course.work && is_refused o.course k && is_of o f && none_came came o.course.ending.end k

abbrev pub gives_up : List Operation → List ℕ → Course → List ℕ → Bool
gives_up os came c f = was_refused c || list_any (gives_up_beside came c.ending.end f) os

abbrev pub left_of : List Operation → List ℕ → Course → Hold → Left
left_of os came c hold = record { place = c.ending.end; file = hold.file; gives_up = gives_up os came c hold.file; no_put = no_put os c.ending.end }

-- ---- what slots hold

-- before the place n the slot holds the file
abbrev pub SlotHolds : Modes → List Entry → (n lane slot : ℕ) → List ℕ → Type 0
SlotHolds m h n lane slot f = (x : ℕ) × InSlot m h n lane slot x f

-- the slot that the operation opens, if it opens one
abbrev pub WorkHolds : Modes → List Entry → (n lane : ℕ) → List ℕ → Work → Type 0
WorkHolds m h n lane f (works.Open slot) = SlotHolds m h n lane slot f
WorkHolds m h n lane f work = ⊥

abbrev pub OpensHold : Modes → List Entry → ℕ → Named → List ℕ → Type 0
OpensHold m h n o f = WorkHolds m h n o.course.lane f o.course.work

-- some slot
abbrev pub IsHeldAt : Modes → List Entry → ℕ → List ℕ → Type 0
IsHeldAt m h n f = (lane : ℕ) × (slot : ℕ) × SlotHolds m h n lane slot f
