-- Where a session ends by itself and no answer is that it was lost, each call that was made was sent.
use Rattle.std.proofs.Common.{◌≡◌, ◌⊎◌, inl, inr, nat_eq, ℕ, zero, suc, Bool, true, false, List, [], ◌∷◌, ◌++◌, length, map, slice_get, Option, Some, None, refl, sym, ap, subst, ◌∙◌, arith}
use Rattle.std.proofs.lemmas.Bool.{eqb-true, eqb-false, eq-eqb}
use Rattle.rpc_retry.specs.declared.waiting.Waiting.{Waiting}
use Rattle.rpc_retry.specs.Fail.{after_failure}
use Rattle.rpc_retry.specs.Waiting.{waiting_at, sent}
use Rattle.world_model.specs.declared.answer.Answer.{Answer}
use Rattle.world_model.specs.declared.answer.Answer.TheVariants.{Refused}
use Rattle.world_model.specs.declared.answer.Fault.TheVariants as faults
use Rattle.world_model.specs.declared.entry.Entry.{Entry}
use Rattle.world_model.specs.declared.entry.Entry.TheVariants.{Began, Answered, Dialed, Sent, Executed, Foreign, Flushed, Reboot, Delivered, Failed, Clock}
use Rattle.world_model.specs.declared.op.Op.{Op}
use Rattle.world_model.specs.Entries.{At}
use Rattle.world_model.specs.Follows.{Finishes}
use Rattle.world_model.specs.LanesTogether.{IsBusy}
use Rattle.world_model.proofs.Places.{At-grow, At-last}
use Rattle.nfs_script.specs.declared.script.ScriptLine.{ScriptLine}
use Rattle.op_machines.specs.declared.begun.Mounted.{Mounted}
use Rattle.op_machines.specs.declared.machine.Machine.{Machine}
use Rattle.op_machines.specs.Begun.{machine_of}
use Rattle.client_core.specs.declared.lane.Lane.{Lane}
use Rattle.client_core.specs.declared.lane.Purpose.{Purpose}
use Rattle.client_core.specs.declared.lane.State.{State}
use Rattle.client_core.specs.declared.lane.State.TheVariants.{Busy, Over}
use Rattle.client_core.specs.declared.setup.Setup.{Setup}
use Rattle.client_core.specs.Lanes.{lost_lane, lost_state}
use Rattle.client_core.specs.Steps.{BeginsIf, WereSent, failed_view, lost}
use Rattle.client_core.specs.View.{View}
use Rattle.core_facts.specs.Counted.{where_, calls_for, known_in, known_by, AreCounted}
use Rattle.core_facts.specs.Reaches.{HearsRecord, StepsTo, Reaches, begins, goes, loses, last_reading}
use Rattle.core_facts.proofs.AllCounts.{begins-unbegun}
use Rattle.core_facts.proofs.Cases.{Heard, dropped, replied, heard, sent_now, FailedNow, goes_on, gives_up, failed_now, AnsweredNow, answered_now, taken_one}
use Rattle.core_facts.proofs.Counting.{reached-known}
use Rattle.core_facts.proofs.LaneMarks.{lanes-under-way, reached-lanes}
use Rattle.core_facts.proofs.Lists.{at-push, still-there, to-map}
use Rattle.core_facts.proofs.Walks.{Stays, begins-stay, hears-for-stay}
use Rattle.lane_session.specs.Endings.{EndsAs, entries_of}
use Rattle.lane_session.specs.Endings as sessions
use Rattle.lane_session.specs.Statuses.{IsAnswered, HasStatus}
use Rattle.lane_session.specs.Statuses as statuses

-- ---- calls of operations

-- no call waits that is of no lane
none-waits : (calls : List (ℕ × Waiting Purpose)) → ((number : ℕ) → calls_for number calls ≡ 0) → calls ≡ []
none-waits [] none = refl
none-waits (e ∷ es) none =
    let all : calls_for e.1.purpose.lane (e ∷ es) ≡ 0 = none e.1.purpose.lane in
    let own : where_ (nat_eq e.1.purpose.lane e.1.purpose.lane) 1 ≡ 1 = ap (λ (b : Bool). where_ b 1) (eq-eqb e.1.purpose.lane e.1.purpose.lane refl) in
    absurd (omega (arith, all, own))

-- a lane whose answer is that the session is lost
record OverLost (lanes : List Lane) : Type 0 where
  pub at : ℕ
  pub number : ℕ
  pub there : slice_get lanes at ≡ Some (record { number = number; state = Over (Refused faults.Lost) })

nothing : (b : Bool) → where_ b 0 ≡ 0
nothing true = refl
nothing false = refl

-- As a session is lost, an operation that is under way is answered so; or none is, and no call waits for one.
busy-or-none : (lanes : List Lane) → OverLost (map lost_lane lanes) ⊎ ((number : ℕ) → known_by number lanes ≡ 0)
busy-or-none [] = inr (λ number. refl)
busy-or-none (lane ∷ lanes) = by lane.state refl (busy-or-none lanes)
  where
    by : (state : State) → lane.state ≡ state → OverLost (map lost_lane lanes) ⊎ ((number : ℕ) → known_by number lanes ≡ 0)
        → OverLost (map lost_lane (lane ∷ lanes)) ⊎ ((number : ℕ) → known_by number (lane ∷ lanes) ≡ 0)
    by (Busy machine) is rest =
        inl (record { at = zero; number = lane.number; there = ap (λ (s : State). Some (record { number = lane.number; state = lost_state s })) is })
    by (Over answer) is (inl t) = inl (record { at = suc t.at; number = t.number; there = t.there })
    by (Over answer) is (inr none) = inr (λ number.
        let known : known_in lane.state ≡ 0 = ap known_in is in
        let here : where_ (nat_eq lane.number number) (known_in lane.state) ≡ 0 = ap (where_ (nat_eq lane.number number)) known ∙ nothing (nat_eq lane.number number) in
        let rest = none number in
        omega (arith, here, rest))

-- ---- a lost session

-- An operation was answered that the session is lost, or will be; or no call waits.
data Told (h : List Entry) (v : View) : Type 0 where
  noted : IsAnswered h (Refused faults.Lost) → Told h v
  ready : OverLost v.lanes → Told h v
  idle : v.calls.calls ≡ [] → Told h v

abbrev IsTold : List Entry → View → Type 0
IsTold h v = v.lost ≡ true → Told h v

answered-later : (h : List Entry) (e : Entry) (answer : Answer) → IsAnswered h answer → IsAnswered (h ++ e ∷ []) answer
answered-later h e answer a = record { at = a.at; lane = a.lane; line = a.line; is = At-grow h (e ∷ []) a.at (Answered a.lane a.line answer) a.is }

grown : (h : List Entry) (e : Entry) (v : View) → IsTold h v → IsTold (h ++ e ∷ []) v
grown h e v p is = by (p is)
  where
    by : Told h v → Told (h ++ e ∷ []) v
    by (noted a) = noted (answered-later h e (Refused faults.Lost) a)
    by (ready o) = ready o
    by (idle none) = idle none

-- lanes stay, and no call comes
same-lanes : (h : List Entry) (old new : View) → new.lost ≡ old.lost → new.lanes ≡ old.lanes → (old.calls.calls ≡ [] → new.calls.calls ≡ []) → IsTold h old → IsTold h new
same-lanes h old new lost_is lanes calls p is = by (p (sym lost_is ∙ is))
  where
    by : Told h old → Told h new
    by (noted a) = noted a
    by (ready o) = ready (subst OverLost (sym lanes) o)
    by (idle none) = idle (calls none)

found-stays : Stays (λ (v : View). v.lost ≡ false)
found-stays = record {
  makes = λ old new number call m found. ap (λ (v : View). v.lost) m.is ∙ found;
  sets = λ old at number was state shelf there found. found;
}

not-lost : (h : List Entry) (v : View) → v.lost ≡ false → IsTold h v
not-lost h v found is = absurd (let no_way : false ≡ true = sym found ∙ is in cc)

-- a session that is lost now, or was before
loses-told : (h : List Entry) (old : View) (calls : List (ℕ × Waiting Purpose)) → (old.calls.calls ≡ [] → calls ≡ []) → (old.lost ≡ false → AreCounted old) → IsTold h old
    → Told h (lost (record old { calls = record old.calls { calls = calls } }))
loses-told h old calls none counted_so p = by old.lost refl
  where
    new : View
    new = lost (record old { calls = record old.calls { calls = calls } })

    again : Told h old → Told h new
    again (noted a) = noted a
    again (ready o) = ready (record { at = o.at; number = o.number; there = to-map lost_lane old.lanes o.at (record { number = o.number; state = Over (Refused faults.Lost) }) o.there })
    again (idle is) = idle (none is)

    first : AreCounted old → OverLost (map lost_lane old.lanes) ⊎ ((number : ℕ) → known_by number old.lanes ≡ 0) → Told h new
    first c (inl o) = ready o
    first c (inr known) = idle (none (none-waits old.calls.calls (λ number. c number ∙ known number)))

    by : (b : Bool) → old.lost ≡ b → Told h new
    by true is = again (p is)
    by false is = first (counted_so is) (busy-or-none old.lanes)

-- ---- each step

begun-told : (machine : ℕ → Op → Machine) (h : List Entry) (old new : View) (lane line : ℕ) (op : Op) → StepsTo machine h old (Began lane line op) new → IsTold (h ++ Began lane line op ∷ []) new
begun-told machine h old new lane line op s = by old.lost refl s.step
  where
    now : ℕ
    now = last_reading 0 h

    by : (b : Bool) → old.lost ≡ b → BeginsIf b old lane (machine lane op) now new → IsTold (h ++ Began lane line op ∷ []) new
    by true is step = λ lost_now.
        let over : OverLost (old.lanes ++ record { number = lane; state = Over (Refused faults.Lost) } ∷ []) =
        record { at = length old.lanes; number = lane; there = at-push old.lanes (record { number = lane; state = Over (Refused faults.Lost) }) } in
        ready (subst OverLost (sym (ap (λ (v : View). v.lanes) step)) over)
    by false is step =
        not-lost (h ++ Began lane line op ∷ []) new
        (begins-stay (λ (v : View). v.lost ≡ false) found-stays old new lane (machine lane op) now (λ state shelf. is) s.step)

-- what the lane answers that stands there
abbrev answer_of : State → Answer
answer_of (Busy machine) = Refused faults.Lost
answer_of (Over answer) = answer

abbrev answer_in : Option Lane → Answer
answer_in None = Refused faults.Lost
answer_in (Some lane) = answer_of lane.state

answered-told : (h : List Entry) (old new : View) (lane line : ℕ) (answer : Answer) → AnsweredNow old lane answer new → IsTold h old → IsTold (h ++ Answered lane line answer ∷ []) new
answered-told h old new lane line answer a p lost_now = by (p (sym (ap (λ (v : View). v.lost) a.is.is) ∙ lost_now))
  where
    e : Entry
    e = Answered lane line answer

    -- the lane that gave its answer, or another one
    over : (o : OverLost old.lanes) (b : Bool) → nat_eq o.at a.at ≡ b → Told (h ++ e ∷ []) new
    over o true d =
        let at : o.at ≡ a.at = eqb-true o.at a.at d in
        let there : slice_get old.lanes a.at ≡ Some (record { number = o.number; state = Over (Refused faults.Lost) }) =
        subst (λ (n : ℕ). slice_get old.lanes n ≡ Some (record { number = o.number; state = Over (Refused faults.Lost) })) at o.there in
        let own : Refused faults.Lost ≡ a.is.answer = ap answer_in (sym there ∙ a.is.there) in
        let given = a.is.gives in
        let told : answer ≡ a.is.answer = cc in
        let same : answer ≡ Refused faults.Lost = told ∙ sym own in
        noted (record { at = length h; lane = lane; line = line; is = subst (λ (x : Answer). At (h ++ e ∷ []) (length h) (Answered lane line x)) same (At-last h (Answered lane line answer)) })
    over o false d =
        let s = still-there old.lanes a.at o.at (record { number = o.number; state = Over (Refused faults.Lost) }) (eqb-false o.at a.at d) o.there in
        ready (subst OverLost (sym (ap (λ (v : View). v.lanes) a.is.is)) (record { at = s.0; number = o.number; there = s.1 }))

    by : Told h old → Told (h ++ e ∷ []) new
    by (noted n) = noted (answered-later h e (Refused faults.Lost) n)
    by (ready o) = over o (nat_eq o.at a.at) refl
    by (idle none) = idle (ap (λ (v : View). v.calls.calls) a.is.is ∙ none)

heard-told : (h : List Entry) (old : View) (rec : List ℕ) (new : View) → HearsRecord old rec new → IsTold h old → IsTold (h ++ Delivered rec ∷ []) new
heard-told h old rec new s p = by old.lost refl (heard old rec s.result new s.hears)
  where
    by : (b : Bool) → old.lost ≡ b → Heard old rec new → IsTold (h ++ Delivered rec ∷ []) new
    by b is (dropped none same) = subst (IsTold (h ++ Delivered rec ∷ [])) (sym same) (grown h (Delivered rec) old p)
    by false is (replied xid call named waits f) =
        not-lost (h ++ Delivered rec ∷ []) new (hears-for-stay (λ (v : View). v.lost ≡ false) found-stays (taken_one old xid) new rec call.purpose f is)
    by true is (replied xid call named waits f) = λ lost_now. told (p is)
      where
        told : Told h old → Told (h ++ Delivered rec ∷ []) new
        told (noted n) = noted (answered-later h (Delivered rec) (Refused faults.Lost) n)
        told (ready o) = absurd (s.may.noted o.at o.number (Refused faults.Lost) o.there)
        told (idle none) = absurd (let no_way = sym (ap (waiting_at xid) none) ∙ waits in cc)

failed-told : (h : List Entry) (old new : View) → (old.lost ≡ false → AreCounted old) → FailedNow old new → IsTold h old → IsTold h new
failed-told h old new c (goes_on none is) p = subst (IsTold h) (sym is) (same-lanes h old (failed_view old) refl refl (λ empty. ap after_failure empty) p)
failed-told h old new c (gives_up xid up is) p = subst (IsTold h) (sym is) (λ lost_now. loses-told h old (after_failure old.calls.calls) (λ empty. ap after_failure empty) c p)

told-step : (machine : ℕ → Op → Machine) (h : List Entry) (old : View) (e : Entry) (new : View) → (old.lost ≡ false → AreCounted old) → StepsTo machine h old e new → IsTold h old
    → IsTold (h ++ e ∷ []) new
told-step machine h old (Began lane line op) new c s p = begun-told machine h old new lane line op s
told-step machine h old (Answered lane line answer) new c s p = answered-told h old new lane line answer (answered_now old lane answer new s.answers) p
told-step machine h old (Sent bytes) new c s p =
    let n = sent_now old bytes new s in
    same-lanes (h ++ Sent bytes ∷ []) old new (ap (λ (v : View). v.lost) n.is) (ap (λ (v : View). v.lanes) n.is)
    (λ empty. ap (λ (v : View). v.calls.calls) n.is ∙ ap sent empty) (grown h (Sent bytes) old p)
told-step machine h old (Delivered bytes) new c s p = heard-told h old bytes new s p
told-step machine h old Failed new c (inl s) p = failed-told (h ++ Failed ∷ []) old new c (failed_now old s.0 new s.1) (grown h Failed old p)
told-step machine h old Failed new c (inr s) p = subst (IsTold (h ++ Failed ∷ [])) (sym s) (grown h Failed old p)
told-step machine h old (Dialed port) new c s p = subst (IsTold (h ++ Dialed port ∷ [])) (sym s) (grown h (Dialed port) old p)
told-step machine h old (Executed xid call reply) new c s p = subst (IsTold (h ++ Executed xid call reply ∷ [])) (sym s) (grown h (Executed xid call reply) old p)
told-step machine h old (Foreign call reply) new c s p = subst (IsTold (h ++ Foreign call reply ∷ [])) (sym s) (grown h (Foreign call reply) old p)
told-step machine h old (Flushed file from len) new c s p = subst (IsTold (h ++ Flushed file from len ∷ [])) (sym s) (grown h (Flushed file from len) old p)
told-step machine h old (Reboot verf) new c s p = subst (IsTold (h ++ Reboot verf ∷ [])) (sym s) (grown h (Reboot verf) old p)
told-step machine h old (Clock ms) new c s p = subst (IsTold (h ++ Clock ms ∷ [])) (sym s) (grown h (Clock ms) old p)

module _ (m : Mounted) (setup : Setup) where
  reached-told : (h : List Entry) (v : View) → Reaches (machine_of m) setup h v → IsTold h v
  reached-told _ _ (begins h v may up fresh) = not-lost h v fresh.lost
  reached-told _ _ (goes h before v b e r is t) =
      subst (λ (k : List Entry). IsTold k v) (sym is)
      (told-step (machine_of m) before b e v (reached-known (machine_of m) (begins-unbegun m) setup before b r) t (reached-told before b r))
  reached-told _ _ (loses h v b r shown is) =
      subst (IsTold h) (sym is) (λ lost_now. loses-told h b b.calls.calls (λ empty. empty) (reached-known (machine_of m) (begins-unbegun m) setup h b r) (reached-told h b r))

  -- ---- where it ends by itself

  module _ (h : List Entry) (v : View) (r : Reaches (machine_of m) setup h v) where
    not-answered : (status : ℕ) → (status ≡ 0) ⊎ (status ≡ 1) → HasStatus h status → IsAnswered h (Refused faults.Lost) → ⊥
    not-answered status (inl is) (statuses.lost six a) n = omega (arith, is, six)
    not-answered status (inr is) (statuses.lost six a) n = omega (arith, is, six)
    not-answered status s (statuses.refused one fault a none) n = none n
    not-answered status s (statuses.well all none) n = none faults.Lost n

    -- where each operation was answered, no lane is left
    no-lane : (lines : List ScriptLine) → Finishes (entries_of lines) h → (at : ℕ) (lane : Lane) → slice_get v.lanes at ≡ Some lane → ⊥
    no-lane lines f at lane there =
        let b : IsBusy h lane.number (length h) = (lanes-under-way h v (reached-lanes (machine_of m) setup h v r)).busy at lane there in
        b.under_way.unanswered (f.answered b.x lane.number b.under_way.line b.op b.under_way.began)

    no-lanes : (lanes : List Lane) → ((at : ℕ) (lane : Lane) → slice_get lanes at ≡ Some lane → ⊥) → lanes ≡ []
    no-lanes [] none = refl
    no-lanes (lane ∷ lanes) none = absurd (none zero lane refl)

    no-calls : (lines : List ScriptLine) (status : ℕ) → (status ≡ 0) ⊎ (status ≡ 1) → Finishes (entries_of lines) h → HasStatus h status → v.calls.calls ≡ []
    no-calls lines status by_itself f s = by v.lost refl
      where
        empty : v.lanes ≡ []
        empty = no-lanes v.lanes (no-lane lines f)

        told : Told h v → v.calls.calls ≡ []
        told (noted n) = absurd (not-answered status by_itself s n)
        told (ready o) = absurd (no-lane lines f o.at (record { number = o.number; state = Over (Refused faults.Lost) }) o.there)
        told (idle none) = none

        by : (b : Bool) → v.lost ≡ b → v.calls.calls ≡ []
        by true is = told (reached-told h v r is)
        by false is =
            let c : AreCounted v = reached-known (machine_of m) (begins-unbegun m) setup h v r is in
            none-waits v.calls.calls (λ number. c number ∙ ap (known_by number) empty)

    none-left : (calls : List (ℕ × Waiting Purpose)) → calls ≡ [] → WereSent calls
    none-left calls is = subst WereSent (sym is) (λ k d lt. absurd (omega (arith, lt)))

    pub ended-sent : (lines : List ScriptLine) (status : ℕ) → EndsAs lines h status → (status ≡ 0) ⊎ (status ≡ 1) → WereSent v.calls.calls
    ended-sent lines status (sessions.whole f s) by_itself = none-left v.calls.calls (no-calls lines status by_itself f s)
    ended-sent lines status (sessions.cut off) by_itself =
        absurd (elim off [ inl five ↦ elim by_itself [ inl a ↦ omega (arith, five, a) | inr b ↦ omega (arith, five, b) ] | inr seven ↦ elim by_itself [ inl a ↦ omega (arith, seven, a) | inr b ↦ omega (arith, seven, b) ] ])
