-- A session that is lost stays so: in it each answer that is ready is that it is lost, and so is each that is noted from then on.
use Rattle.std.proofs.Common.{◌≡◌, ◌<◌, ◌+◌, ◌⊎◌, inl, inr, ℕ, List, [], ◌∷◌, ◌++◌, length, map, Bool, true, false, Option, Some, None, remove, slice_get, refl, sym, ap, subst, ◌∙◌, arith}
use Rattle.world_model.specs.declared.answer.Answer.{Answer}
use Rattle.world_model.specs.declared.answer.Answer.TheVariants.{Refused}
use Rattle.world_model.specs.declared.answer.Fault.TheVariants as faults
use Rattle.world_model.specs.declared.entry.Entry.{Entry}
use Rattle.world_model.specs.declared.entry.Entry.TheVariants.{Began, Answered, Dialed, Sent, Executed, Foreign, Flushed, Reboot, Delivered, Failed, Clock}
use Rattle.world_model.specs.declared.op.Op.{Op}
use Rattle.world_model.specs.Entries.{At}
use Rattle.world_model.specs.Follows.{marks_of}
use Rattle.world_model.proofs.Places.{At-below, At-back, At-cases}
use Rattle.op_machines.specs.Begun.{machine_of}
use Rattle.op_machines.specs.declared.begun.Mounted.{Mounted}
use Rattle.client_core.specs.declared.lane.Lane.{Lane}
use Rattle.client_core.specs.declared.lane.State.{State}
use Rattle.client_core.specs.declared.lane.State.TheVariants.{Busy, Over}
use Rattle.client_core.specs.declared.setup.Setup.{Setup}
use Rattle.client_core.specs.Fresh.{IsFresh}
use Rattle.client_core.specs.Lanes.{lost_lane}
use Rattle.client_core.specs.Steps.{BeginsIf, lost}
use Rattle.client_core.specs.View.{View}
use Rattle.core_facts.specs.Notes.{NoneReady}
use Rattle.core_facts.specs.Reaches.{IsSetUp, StepsTo, Reaches, begins, goes, loses, last_reading}
use Rattle.core_facts.specs.Resting.{NoneBusy}
use Rattle.core_facts.proofs.Along.{found-before}
use Rattle.core_facts.proofs.Cases.{Heard, dropped, replied, heard, sent_now, FailedNow, goes_on, gives_up, failed_now, answered_now, taken_one}
use Rattle.core_facts.proofs.Counting.{heard-lost}
use Rattle.core_facts.proofs.Faults.{NotLost, FineAnswer}
use Rattle.core_facts.proofs.Lists.{get-push, get-remove, in-map, skip}
use Rattle.core_facts.proofs.Resting.{comes-to-rest, none-moves, own-none}
use Rattle.core_facts.proofs.Sound.{reached-sound}
use Rattle.lane_session.specs.Bonds.{OnlyLost, StaysLost}
use Rattle.lane_session.proofs.Cores.{begins-so}
use Rattle.lane_session.proofs.Faultless.{AllFine, begins-fine, hears-fine}
use Rattle.lane_session.proofs.LostLaws.{never-answered}

no-loss : {A : Type 0} → (b : Bool) → b ≡ true → b ≡ false → A
no-loss b is not = absurd (let no_way : true ≡ false = sym is ∙ not in cc)

some-answer : (a b : Answer) → Some a ≡ Some b → b ≡ a
some-answer a b e = cc

over-is : (a b : Answer) → Over a ≡ Over b → a ≡ b
over-is a b e = cc

-- ---- before the session is lost

same-fine : (old new : View) → new.lanes ≡ old.lanes → AllFine old.lanes → AllFine new.lanes
same-fine old new is all = subst AllFine (sym is) all

same-view : (old new : View) → new ≡ old → AllFine old.lanes → AllFine new.lanes
same-view old new is all = same-fine old new (ap (λ (v : View). v.lanes) is) all

heard-fine : (old : View) (rec : List ℕ) (new : View) → Heard old rec new → AllFine old.lanes → AllFine new.lanes
heard-fine old rec new (dropped none is) all = same-view old new is all
heard-fine old rec new (replied xid call named waits t) all = hears-fine (taken_one old xid) rec call.purpose new t all

failed-fine : (old new : View) → FailedNow old new → new.lost ≡ false → AllFine old.lanes → AllFine new.lanes
failed-fine old new (goes_on none is) found all = same-fine old new (ap (λ (v : View). v.lanes) is) all
failed-fine old new (gives_up xid up is) found all = no-loss new.lost (ap (λ (v : View). v.lost) is) found

fine-step : (m : Mounted) (h : List Entry) (old : View) (e : Entry) (new : View) → StepsTo (machine_of m) h old e new → old.lost ≡ false → new.lost ≡ false
    → AllFine old.lanes → AllFine new.lanes
fine-step m h old (Began lane line op) new t was found all = begins-fine m old.lost old new lane op (last_reading 0 h) was t.step all
fine-step m h old (Answered lane line answer) new t was found all =
    let a = answered_now old lane answer new t.answers in
    subst AllFine (sym (ap (λ (v : View). v.lanes) a.is.is)) (λ k l there. all (skip a.at k) l (get-remove old.lanes a.at k l there))
fine-step m h old (Sent bytes) new t was found all = same-fine old new (ap (λ (v : View). v.lanes) (sent_now old bytes new t).is) all
fine-step m h old (Delivered bytes) new t was found all = heard-fine old bytes new (heard old bytes t.result new t.hears) all
fine-step m h old Failed new (inl t) was found all = failed-fine old new (failed_now old t.0 new t.1) found all
fine-step m h old Failed new (inr is) was found all = same-view old new is all
fine-step m h old (Dialed port) new is was found all = same-view old new is all
fine-step m h old (Executed xid call reply) new is was found all = same-view old new is all
fine-step m h old (Foreign call reply) new is was found all = same-view old new is all
fine-step m h old (Flushed file from len) new is was found all = same-view old new is all
fine-step m h old (Reboot verf) new is was found all = same-view old new is all
fine-step m h old (Clock ms) new is was found all = same-view old new is all

reached-fine : (m : Mounted) (setup : Setup) (h : List Entry) (v : View) → Reaches (machine_of m) setup h v → v.lost ≡ false → AllFine v.lanes
reached-fine m setup _ _ (begins h v may up fresh) found = subst AllFine (sym fresh.lanes) (λ k lane there. absurd (cc))
reached-fine m setup _ _ (goes h before v b e r is t) found =
    let was : b.lost ≡ false = found-before (machine_of m) before b e v t found in
    fine-step m before b e v t was found (reached-fine m setup before b r was)
reached-fine m setup _ _ (loses h v b r shown is) found = no-loss v.lost (ap (λ (w : View). w.lost) is) found

-- no answer so far is that the session is lost
abbrev NoneLost : List Entry → Type 0
NoneLost h = (i lane line : ℕ) → At h i (Answered lane line (Refused faults.Lost)) → ⊥

answer-found : (m : Mounted) (setup : Setup) (h : List Entry) (old new : View) (lane line : ℕ) → Reaches (machine_of m) setup h old → old.lost ≡ false
    → StepsTo (machine_of m) h old (Answered lane line (Refused faults.Lost)) new → ⊥
answer-found m setup h old new lane line r found t =
    let a = answered_now old lane (Refused faults.Lost) new t.answers in
    let gave : FineAnswer NotLost a.is.answer = reached-fine m setup h old r found a.at (record { number = lane; state = Over a.is.answer }) a.is.there in
    subst (FineAnswer NotLost) (some-answer (Refused faults.Lost) a.is.answer a.is.gives) gave

reached-none : (m : Mounted) (setup : Setup) (h : List Entry) (v : View) → Reaches (machine_of m) setup h v → v.lost ≡ false → NoneLost h
reached-none m setup _ _ (begins h v may up fresh) found i lane line at = never-answered lane h i line (Refused faults.Lost) at (up.unmarked lane)
reached-none m setup _ _ (goes h before v b e r is t) found i lane line at =
    let was : b.lost ≡ false = found-before (machine_of m) before b e v t found in
    let earlier : NoneLost before = reached-none m setup before b r was in
    elim (At-cases before e i (Answered lane line (Refused faults.Lost)) (subst (λ (k : List Entry). At k i (Answered lane line (Refused faults.Lost))) is at)) [
      | inl there ↦ earlier i lane line there
      | inr now ↦ answer-found m setup before b v lane line r was (subst (λ (d : Entry). StepsTo (machine_of m) before b d v) now.1 t)
    ]
reached-none m setup _ _ (loses h v b r shown is) found i lane line at = no-loss v.lost (ap (λ (w : View). w.lost) is) found

-- ---- once it is lost

-- where a failure loses the session each answer that was ready is noted
abbrev pub MayLose : Entry → View → View → Type 0
MayLose Failed old new = (new ≡ old) ⊎ NoneReady old
MayLose e old new = Unit {0}

pub may-stay : (e : Entry) (v : View) → MayLose e v v
may-stay (Began lane line op) v = tt
may-stay (Answered lane line answer) v = tt
may-stay (Dialed port) v = tt
may-stay (Sent bytes) v = tt
may-stay (Executed xid call reply) v = tt
may-stay (Foreign call reply) v = tt
may-stay (Flushed file from len) v = tt
may-stay (Reboot verf) v = tt
may-stay (Delivered bytes) v = tt
may-stay Failed v = inl refl
may-stay (Clock ms) v = tt

abbrev LostLanes : List Lane → Type 0
LostLanes lanes = (at number : ℕ) (answer : Answer) → slice_get lanes at ≡ Some (record { number = number; state = Over answer }) → answer ≡ Refused faults.Lost

lost-over : (lanes : List Lane) → ((at number : ℕ) (answer : Answer) → slice_get lanes at ≡ Some (record { number = number; state = Over answer }) → ⊥) → LostLanes (map lost_lane lanes)
lost-over lanes none at number answer there =
    let was = in-map lost_lane lanes at (record { number = number; state = Over answer }) there in
    by was.0.number was.0.state was.1 was.2
  where
    by : (n : ℕ) (state : State) → slice_get lanes at ≡ Some (record { number = n; state = state }) → record { number = number; state = Over answer } ≡ lost_lane (record { number = n; state = state })
        → answer ≡ Refused faults.Lost
    by n (Busy machine) here is = over-is answer (Refused faults.Lost) (ap (λ (l : Lane). l.state) is)
    by n (Over other) here is = absurd (none at n other here)

-- the session is given up
pub lost-only : (v : View) → NoneReady v → OnlyLost (lost v)
lost-only v none is = lost-over v.lanes none

same-only : (old new : View) → new.lanes ≡ old.lanes → new.lost ≡ old.lost → OnlyLost old → OnlyLost new
same-only old new lanes is only lost_now = subst LostLanes (sym lanes) (only (sym is ∙ lost_now))

like-only : (old new : View) → new ≡ old → OnlyLost old → OnlyLost new
like-only old new is only = same-only old new (ap (λ (v : View). v.lanes) is) (ap (λ (v : View). v.lost) is) only

begun-only : (b : Bool) (old new : View) (lane : ℕ) (now : ℕ) (m : Mounted) (op : Op) → new.lost ≡ old.lost → old.lost ≡ b → BeginsIf b old lane (machine_of m lane op) now new → OnlyLost old → OnlyLost new
begun-only true old new lane now m op same was t only = λ lost_now at number answer there.
    by at number answer (get-push old.lanes (record { number = lane; state = Over (Refused faults.Lost) }) at (record { number = number; state = Over answer })
    (subst (λ (v : View). slice_get v.lanes at ≡ Some (record { number = number; state = Over answer })) t there))
  where
    by : (at number : ℕ) (answer : Answer) → (slice_get old.lanes at ≡ Some (record { number = number; state = Over answer }))
        ⊎ ((at ≡ length old.lanes) × (◌≡◌ {A = Lane} (record { number = number; state = Over answer }) (record { number = lane; state = Over (Refused faults.Lost) })))
        → answer ≡ Refused faults.Lost
    by at number answer (inl here) = only was at number answer here
    by at number answer (inr own) = over-is answer (Refused faults.Lost) (ap (λ (l : Lane). l.state) own.1)
begun-only false old new lane now m op same was t only = λ lost_now. no-loss new.lost lost_now (same ∙ was)

heard-only : (m : Mounted) (setup : Setup) (h : List Entry) (old : View) (rec : List ℕ) (new : View) → Reaches (machine_of m) setup h old → Heard old rec new → OnlyLost old → OnlyLost new
heard-only m setup h old rec new r (dropped none is) only = like-only old new is only
heard-only m setup h old rec new r (replied xid call named waits f) only = λ lost_now.
    let was : old.lost ≡ true = sym (heard-lost old rec new (replied xid call named waits f)) ∙ lost_now in
    let none : NoneBusy old = (comes-to-rest (machine_of m) setup h old r).over was in
    let first : f.first ≡ taken_one old xid = own-none (taken_one old xid) rec call.purpose f.first none f.own in
    let is : new ≡ taken_one old xid = none-moves f.first new f.rest (subst NoneBusy (sym first) none) ∙ first in
    subst LostLanes (sym (ap (λ (v : View). v.lanes) is)) (only was)

failed-only : (old new : View) → FailedNow old new → (new ≡ old) ⊎ NoneReady old → OnlyLost old → OnlyLost new
failed-only old new (goes_on none is) may only = same-only old new (ap (λ (v : View). v.lanes) is) (ap (λ (v : View). v.lost) is) only
failed-only old new (gives_up xid up is) (inl same) only = like-only old new same only
failed-only old new (gives_up xid up is) (inr none) only = λ lost_now. subst LostLanes (sym (ap (λ (v : View). v.lanes) is)) (lost-over old.lanes none)

pub only-step : (m : Mounted) (setup : Setup) (h : List Entry) (old : View) (e : Entry) (new : View) → Reaches (machine_of m) setup h old → StepsTo (machine_of m) h old e new
    → MayLose e old new → OnlyLost old → OnlyLost new
only-step m setup h old (Began lane line op) new r t may only =
    begun-only old.lost old new lane (last_reading 0 h) m op
    (begins-so old lane (machine_of m lane op) (last_reading 0 h) new (reached-sound (machine_of m) setup h old r).calls.within t.step).lost_is refl t.step only
only-step m setup h old (Answered lane line answer) new r t may only = λ lost_now.
    let a = answered_now old lane answer new t.answers in
    let was : old.lost ≡ true = sym (ap (λ (v : View). v.lost) a.is.is) ∙ lost_now in
    subst LostLanes (sym (ap (λ (v : View). v.lanes) a.is.is))
    (λ at number given there. only was (skip a.at at) number given (get-remove old.lanes a.at at (record { number = number; state = Over given }) there))
only-step m setup h old (Sent bytes) new r t may only =
    let n = sent_now old bytes new t in
    same-only old new (ap (λ (v : View). v.lanes) n.is) (ap (λ (v : View). v.lost) n.is) only
only-step m setup h old (Delivered bytes) new r t may only = heard-only m setup h old bytes new r (heard old bytes t.result new t.hears) only
only-step m setup h old Failed new r (inl t) may only = failed-only old new (failed_now old t.0 new t.1) may only
only-step m setup h old Failed new r (inr is) may only = like-only old new is only
only-step m setup h old (Dialed port) new r is may only = like-only old new is only
only-step m setup h old (Executed xid call reply) new r is may only = like-only old new is only
only-step m setup h old (Foreign call reply) new r is may only = like-only old new is only
only-step m setup h old (Flushed file from len) new r is may only = like-only old new is only
only-step m setup h old (Reboot verf) new r is may only = like-only old new is only
only-step m setup h old (Clock ms) new r is may only = like-only old new is only

-- ---- the answers that are noted

answer-stays : (m : Mounted) (setup : Setup) (h : List Entry) (old new : View) (i lane line other later : ℕ) (answer : Answer) → Reaches (machine_of m) setup h old → OnlyLost old
    → StepsTo (machine_of m) h old (Answered other later answer) new → At h i (Answered lane line (Refused faults.Lost)) → answer ≡ Refused faults.Lost
answer-stays m setup h old new i lane line other later answer r only t before = (elim old.lost as (λ b. old.lost ≡ b → answer ≡ Refused faults.Lost) [
  | true ↦ λ was.
      let a = answered_now old other answer new t.answers in
      sym (some-answer answer a.is.answer a.is.gives) ∙ only was a.at other a.is.answer a.is.there
  | false ↦ λ found. absurd (reached-none m setup h old r found i lane line before)
]) refl

pub stays-step : (m : Mounted) (setup : Setup) (h : List Entry) (old : View) (e : Entry) (new : View) → Reaches (machine_of m) setup h old → StepsTo (machine_of m) h old e new
    → OnlyLost old → StaysLost h → StaysLost (h ++ e ∷ [])
stays-step m setup h old e new r t only stays i j lane line other later answer first second lt = by (At-cases h e j (Answered other later answer) second)
  where
    earlier : j ≡ length h → At h i (Answered lane line (Refused faults.Lost))
    earlier is = At-back h (e ∷ []) i (Answered lane line (Refused faults.Lost)) first (omega (arith, lt, is))

    by : At h j (Answered other later answer) ⊎ ((j ≡ length h) × (e ≡ Answered other later answer)) → answer ≡ Refused faults.Lost
    by (inl there) =
        let below = At-below h j (Answered other later answer) there in
        stays i j lane line other later answer (At-back h (e ∷ []) i (Answered lane line (Refused faults.Lost)) first (omega (arith, lt, below))) there lt
    by (inr now) = answer-stays m setup h old new i lane line other later answer r only (subst (λ (d : Entry). StepsTo (machine_of m) h old d new) now.1 t) (earlier now.0)

-- ---- at the beginning

pub fresh-only : (setup : Setup) (v : View) → IsFresh setup v → OnlyLost v
fresh-only setup v f lost_now = no-loss v.lost lost_now f.lost

pub unmarked-stays : (h : List Entry) → ((lane : ℕ) → marks_of lane h ≡ []) → StaysLost h
unmarked-stays h unmarked i j lane line other later answer first second lt = absurd (never-answered lane h i line (Refused faults.Lost) first (unmarked lane))
