-- Entries of a session that is lost before its first line, among what the server does.
use Rattle.std.proofs.Common.{◌≡◌, ℕ, zero, suc, List, [], ◌∷◌, ◌++◌, refl, sym, subst, ◌∙◌}
use Rattle.std.proofs.lemmas.List.{append_cancel_left}
use Rattle.world_model.specs.declared.answer.Answer.TheVariants.{Refused}
use Rattle.world_model.specs.declared.answer.Fault.TheVariants as faults
use Rattle.world_model.specs.declared.entry.Entry.{Entry}
use Rattle.world_model.specs.declared.entry.Entry.TheVariants.{Began, Answered, Dialed, Sent, Executed, Foreign, Flushed, Reboot, Delivered, Failed, Clock}
use Rattle.world_model.specs.Entries.{At, ours}
use Rattle.world_model.proofs.Histories.{ours-append}
use Rattle.lane_session.specs.Losing.{IsLosing}

-- Nothing is dialed, sent or received, and an answer is that the session is lost.
abbrev pub IsHushed : Entry → Type 0
IsHushed (Dialed port) = ⊥
IsHushed (Sent bytes) = ⊥
IsHushed (Delivered bytes) = ⊥
IsHushed Failed = ⊥
IsHushed (Answered lane line answer) = answer ≡ Refused faults.Lost
IsHushed e = Unit {0}

abbrev pub AreHushed : List Entry → Type 0
AreHushed more = (i : ℕ) (e : Entry) → At more i e → IsHushed e

pub losing-hushed : (e : Entry) → IsLosing e → IsHushed e
losing-hushed (Clock ms) l = tt
losing-hushed (Began lane line op) l = tt
losing-hushed (Answered lane line answer) l = l
losing-hushed (Dialed port) l = absurd l
losing-hushed (Sent bytes) l = absurd l
losing-hushed (Executed xid call reply) l = tt
losing-hushed (Foreign call reply) l = tt
losing-hushed (Flushed file from len) l = tt
losing-hushed (Reboot verf) l = tt
losing-hushed (Delivered bytes) l = absurd l
losing-hushed Failed l = absurd l

hushed-then : (d : Entry) (more : List Entry) → IsHushed d → AreHushed more → AreHushed (d ∷ more)
hushed-then d more one each zero e at = subst IsHushed (let same : d ≡ e = cc in same) one
hushed-then d more one each (suc i) e at = each i e at

-- where the client's own entries are such, all are
pub hushed-among : (more : List Entry) → ((i : ℕ) (e : Entry) → At (ours more) i e → IsLosing e) → AreHushed more
hushed-among [] own = λ i e at. absurd (cc)
hushed-among (Clock ms ∷ more) own = hushed-then (Clock ms) more tt (hushed-among more (λ i e at. own (suc i) e at))
hushed-among (Began lane line op ∷ more) own = hushed-then (Began lane line op) more tt (hushed-among more (λ i e at. own (suc i) e at))
hushed-among (Answered lane line answer ∷ more) own = hushed-then (Answered lane line answer) more (own 0 _ refl) (hushed-among more (λ i e at. own (suc i) e at))
hushed-among (Dialed port ∷ more) own = absurd (own 0 _ refl)
hushed-among (Sent bytes ∷ more) own = absurd (own 0 _ refl)
hushed-among (Executed xid call reply ∷ more) own = hushed-then (Executed xid call reply) more tt (hushed-among more own)
hushed-among (Foreign call reply ∷ more) own = hushed-then (Foreign call reply) more tt (hushed-among more own)
hushed-among (Flushed file from len ∷ more) own = hushed-then (Flushed file from len) more tt (hushed-among more own)
hushed-among (Reboot verf ∷ more) own = hushed-then (Reboot verf) more tt (hushed-among more own)
hushed-among (Delivered bytes ∷ more) own = absurd (own 0 _ refl)
hushed-among (Failed ∷ more) own = absurd (own 0 _ refl)

-- the same of what a history goes on with
pub hushed-since : (before more own : List Entry) → ours (before ++ more) ≡ ours before ++ own → ((i : ℕ) (e : Entry) → At own i e → IsLosing e) → AreHushed more
hushed-since before more own is each =
    hushed-among more (subst (λ (l : List Entry). (i : ℕ) (e : Entry) → At l i e → IsLosing e) (append_cancel_left (ours before) own (ours more) (sym is ∙ ours-append before more)) each)

pub all-losing : (more : List Entry) → ((i : ℕ) (e : Entry) → At more i e → IsLosing e) → AreHushed more
all-losing more each = λ i e at. losing-hushed e (each i e at)
