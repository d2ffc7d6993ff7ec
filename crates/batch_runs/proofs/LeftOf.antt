-- What is left of the batches of an input, behind those that were answered.
use Rattle.std.proofs.Common.{◌≡◌, ◌≢◌, ◌≤◌, inl, inr, ℕ, List, [], ◌∷◌, ◌++◌, length, Option, Some, None, refl, ap, ◌∙◌, append_assoc, arith}
use Rattle.script_batches.specs.Batches.{Read}
use Rattle.lane_session.specs.declared.halt.Halt.{Halt}
use Rattle.lane_session.specs.declared.halt.Halt.TheVariants as halts
use Rattle.lane_session.specs.Statuses.{IsLeft}
use Rattle.script_runs.specs.Run.{IsCutOff}
use Rattle.batch_runs.specs.declared.stop.Stop.{Stop}
use Rattle.batch_runs.specs.declared.stop.Stop.TheVariants as stops
use Rattle.batch_runs.specs.Reading.{IsAtEnd, IsFirst, Takes}
use Rattle.batch_runs.specs.Running.{FromBatch}
use Rattle.batch_runs.specs.Stops.{of_halt, status_of}

abbrev pub left_of : Option (List Read) → List Read
left_of None = []
left_of (Some more) = more

pub from-current : (a b : Option (List Read)) (reads : List Read) (current : Read) → Takes a b (reads ++ current ∷ []) → FromBatch a (reads ++ current ∷ left_of b)
from-current None b reads current t = tt
from-current (Some x) None reads current t = absurd t
from-current (Some x) (Some y) reads current t = t ∙ append_assoc reads (current ∷ []) y

pub from-left : (a b : Option (List Read)) (reads : List Read) → Takes a b reads → FromBatch a (reads ++ left_of b)
from-left None b reads t = tt
from-left (Some x) None reads t = absurd t
from-left (Some x) (Some y) reads t = t

pub from-end : (a b c : Option (List Read)) (reads : List Read) → Takes a b reads → IsAtEnd b c → FromBatch a (reads ++ [])
from-end None b c reads t e = tt
from-end (Some x) None c reads t e = absurd t
from-end (Some x) (Some y) None reads t e = absurd e
from-end (Some x) (Some y) (Some z) reads t e = t ∙ ap (λ (l : List Read). reads ++ l) e

pub from-refusal : (a b : Option (List Read)) (reads : List Read) (batch : Read) → Takes a b reads → IsFirst b batch → (more : List Read) × FromBatch a (reads ++ batch ∷ more)
from-refusal None b reads batch t f = ([], tt)
from-refusal (Some x) None reads batch t f = absurd t
from-refusal (Some x) (Some y) reads batch t f = (f.0, t ∙ ap (λ (l : List Read). reads ++ l) f.1)

-- ---- why a run is cut off

pub halt-off : (halt : Halt) → IsCutOff (status_of (of_halt halt))
halt-off halts.Output = inl refl
halt-off halts.Memory = inr refl

pub stop-off : (stop : Stop) → stop ≢ stops.Source → IsCutOff (status_of stop)
stop-off stops.Source other = absurd (other refl)
stop-off stops.Output other = inl refl
stop-off stops.Memory other = inr refl

pub last-few : (halt : Halt) (last : List ℕ) → IsLeft halt last → length last ≤ 1
last-few halts.Output last is = let none = ap length is in omega (arith, none)
last-few halts.Memory last is = is

pub last-none : (halt : Halt) (last : List ℕ) → IsLeft halt last → status_of (of_halt halt) ≢ 7 → last ≡ []
last-none halts.Output last is other = is
last-none halts.Memory last is other = absurd (other refl)
