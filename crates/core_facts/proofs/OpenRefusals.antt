-- An open is refused for its slot only where that held an open as it began, also where the session is lost since.
use Rattle.core_facts.proofs.Prelude.{◌≡◌, ◌<◌, ◌≤◌, ◌+◌, ◌⊎◌, inl, inr, ℕ, List, [], ◌∷◌, ◌++◌, length, map, Bool, true, false, Some, None, slice_get, refl, sym, ap, subst, ◌∙◌, arith, append_assoc, cases_lt, Mode, Answer, Entry, Began, Answered, Dialed, Sent, Executed, Foreign, Flushed, Reboot, Delivered, Failed, Clock, Op, Modes, Ended, UnderWay, At-below, length_last, Mounted, machine_of, Lane, State, Busy, Over, Setup, lost_lane, numbers_of, BeginsIf, counted, View, StepsTo, HearsRecord, Reaches, begins, goes, loses, last_reading, NoneBusy}
use Rattle.client_core.specs.Lanes.{lost_state}
use Rattle.world_model.specs.declared.answer.Answer.TheVariants as answers
use Rattle.world_model.specs.declared.answer.Fault.TheVariants as faults
use Rattle.world_model.specs.declared.op.Op.TheVariants as ops
use Rattle.core_facts.proofs.AllCounts.{begins-unbegun}
use Rattle.core_facts.proofs.Cases.{Heard, dropped, replied, heard, sent_now, FailedNow, goes_on, gives_up, failed_now, answered_now, taken_one}
use Rattle.core_facts.proofs.LaneMarks.{idle-numbers, number_of}
use Rattle.core_facts.proofs.Lists.{in-map, to-map, get-push, get-remove, skip}
use Rattle.core_facts.proofs.Resting.{comes-to-rest, none-moves, own-none, leads-lost, moves-lost, own-lost}
use Rattle.core_facts.proofs.SlotGrowth.{held-grow, ended-back, ended-now}
use Rattle.core_facts.proofs.Slots.{kind_of, StoryOf, WasTaken}
use Rattle.core_facts.proofs.SlotsAlong.{Plain, plain-laws, reached-slots}
use Rattle.core_facts.proofs.Stories.{Always, under-back, answered-under}

pub taken-grow : (m : Modes) (h : List Entry) (e : Entry) (x n slot : ℕ) → WasTaken m h x n slot → WasTaken m (h ++ e ∷ []) x n slot
taken-grow m h e x n slot t = record {
  within = let low = t.within in let more = length_last h e in omega (arith, low, more);
  f = t.f;
  mode = t.mode;
  held = held-grow m h e n slot t.f t.mode x t.within t.held;
}

one-lane : (a b : Lane) → Some a ≡ Some b → a ≡ b
one-lane a b e = cc

-- a lane that has its answer in a session that is lost now had it before, or was told of the loss
was-over : (l : Lane) (number : ℕ) (answer : Answer) → record { number = number; state = Over answer } ≡ lost_lane l
    → (l ≡ record { number = number; state = Over answer }) ⊎ (answer ≡ answers.Refused faults.Lost)
was-over l number answer is = by l.state refl
  where
    one-answer : (a b : Answer) → Over a ≡ Over b → a ≡ b
    one-answer a b e = cc

    by : (state : State) → l.state ≡ state → (l ≡ record { number = number; state = Over answer }) ⊎ (answer ≡ answers.Refused faults.Lost)
    by (Busy machine) at = inr (one-answer answer (answers.Refused faults.Lost) (ap (λ (k : Lane). k.state) is ∙ ap lost_state at))
    by (Over given) at =
        let same : answer ≡ given = one-answer answer given (ap (λ (k : Lane). k.state) is ∙ ap lost_state at) in
        inl (ap (λ (s : State). record { number = l.number; state = s }) (at ∙ ap Over (sym same)) ∙ ap (λ (n : ℕ). record { number = n; state = Over answer }) (sym (ap (λ (k : Lane). k.number) is)))

module _ (m : Modes) (mounted : Mounted) (same : mounted.nocto ≡ m.nocto) (setup : Setup) where
  -- each answer that a slot is taken, which is to be noted
  abbrev pub AreTaken : List Entry → View → Type 0
  AreTaken h v = (k number : ℕ) → slice_get v.lanes k ≡ Some (record { number = number; state = Over (answers.Refused faults.Slot) })
      → (x slot : ℕ) (mode : Mode) (path : List (List ℕ)) → UnderWay h number x (length h) (ops.OpenFile slot mode path) → WasTaken m h x number slot

  -- as long as the session isn't lost
  not-lost : (h : List Entry) (v : View) → Reaches (machine_of mounted) setup h v → v.lost ≡ false → AreTaken h v
  not-lost h v r found k number there x slot mode path u =
      let story : StoryOf m h x number (kind_of (ops.OpenFile slot mode path)) (Over (answers.Refused faults.Slot)) v.shelf.opens =
      (reached-slots m mounted same setup h v r found).lanes k (record { number = number; state = Over (answers.Refused faults.Slot) }) there x (ops.OpenFile slot mode path) u in
      story.1 refl

  -- one entry more, with lanes that had their answers before
  grows : (h : List Entry) (e : Entry) (old new : View) → ((k number : ℕ) → slice_get new.lanes k ≡ Some (record { number = number; state = Over (answers.Refused faults.Slot) })
      → (j : ℕ) × (slice_get old.lanes j ≡ Some (record { number = number; state = Over (answers.Refused faults.Slot) })) × ((line : ℕ) (op : Op) → e ≡ Began number line op → ⊥))
      → AreTaken h old → AreTaken (h ++ e ∷ []) new
  grows h e old new was a k number there x slot mode path u =
      let w = was k number there in
      taken-grow m h e x number slot (a w.0 number w.1 x slot mode path (under-back h e number x (ops.OpenFile slot mode path) w.2 u))

  same-lanes : (h : List Entry) (e : Entry) (old new : View) → new.lanes ≡ old.lanes → ((number line : ℕ) (op : Op) → e ≡ Began number line op → ⊥) → AreTaken h old → AreTaken (h ++ e ∷ []) new
  same-lanes h e old new is other a = grows h e old new (λ k number there. (k, ap (λ (ls : List Lane). slice_get ls k) (sym is) ∙ there, other number)) a

  slot-not-lost : answers.Refused faults.Slot ≡ answers.Refused faults.Lost → ⊥
  slot-not-lost e = let no_way : faults.Slot ≡ faults.Lost = cc in cc

  -- the session is lost
  lost-before : (old new : View) → new.lanes ≡ map lost_lane old.lanes → (k number : ℕ) → slice_get new.lanes k ≡ Some (record { number = number; state = Over (answers.Refused faults.Slot) })
      → slice_get old.lanes k ≡ Some (record { number = number; state = Over (answers.Refused faults.Slot) })
  lost-before old new is k number there =
      let found = in-map lost_lane old.lanes k (record { number = number; state = Over (answers.Refused faults.Slot) }) (ap (λ (ls : List Lane). slice_get ls k) (sym is) ∙ there) in
      elim (was-over found.0 number (answers.Refused faults.Slot) found.2) [
        | inl before ↦ found.1 ∙ ap Some before
        | inr lost ↦ absurd (slot-not-lost lost)
      ]

  lost-lanes : (h : List Entry) (old new : View) → new.lanes ≡ map lost_lane old.lanes → AreTaken h old → AreTaken h new
  lost-lanes h old new is a k number there = a k number (lost-before old new is k number there)

  -- ---- the steps of a session that is lost

  begins-lost : (b : Bool) (h : List Entry) (old new : View) (lane line : ℕ) (op : Op) → old.lost ≡ b → new.lost ≡ true
      → StepsTo (machine_of mounted) h old (Began lane line op) new → BeginsIf b old lane (machine_of mounted lane op) (last_reading 0 h) new
      → AreTaken h old → AreTaken (h ++ Began lane line op ∷ []) new
  begins-lost true h old new lane line op was lost t is a = grows h (Began lane line op) old new was-there a
    where
      own : Lane
      own = record { number = lane; state = Over (answers.Refused faults.Lost) }

      began-is : (p b c d : ℕ) (o q : Op) → Began p b o ≡ Began c d q → p ≡ c
      began-is p b c d o q e = cc

      over-is : (p q : ℕ) (c d : Answer) → ◌≡◌ {A = Lane} (record { number = p; state = Over c }) (record { number = q; state = Over d }) → c ≡ d
      over-is p q c d e = one (ap (λ (k : Lane). k.state) e)
        where
          one : Over c ≡ Over d → c ≡ d
          one e = cc

      was-there : (k number : ℕ) → slice_get new.lanes k ≡ Some (record { number = number; state = Over (answers.Refused faults.Slot) })
          → (j : ℕ) × (slice_get old.lanes j ≡ Some (record { number = number; state = Over (answers.Refused faults.Slot) })) × ((n : ℕ) (o : Op) → Began lane line op ≡ Began number n o → ⊥)
      was-there k number there = by (get-push old.lanes own k (record { number = number; state = Over (answers.Refused faults.Slot) }) (ap (λ (v : View). slice_get v.lanes k) (sym is) ∙ there))
        where
          by : (slice_get old.lanes k ≡ Some (record { number = number; state = Over (answers.Refused faults.Slot) }))
              ⊎ ((k ≡ length old.lanes) × ◌≡◌ {A = Lane} (record { number = number; state = Over (answers.Refused faults.Slot) }) own)
              → (j : ℕ) × (slice_get old.lanes j ≡ Some (record { number = number; state = Over (answers.Refused faults.Slot) })) × ((n : ℕ) (o : Op) → Began lane line op ≡ Began number n o → ⊥)
          by (inl here) = (
            k,
            here,
            λ n o e. idle-numbers lane (numbers_of old.lanes) t.idle.other k
                (to-map number_of old.lanes k (record { number = number; state = Over (answers.Refused faults.Slot) }) here ∙ ap Some (sym (began-is lane line number n op o e))),
          )
          by (inr now) = absurd (slot-not-lost (over-is number lane (answers.Refused faults.Slot) (answers.Refused faults.Lost) now.1))
  begins-lost false h old new lane line op was lost t b a = absurd (
      let first : b.first.lost ≡ old.lost =
      leads-lost (record (counted old (last_reading 0 h)) { lanes = old.lanes ++ record { number = lane; state = Busy b.own.after } ∷ []; shelf = b.own.shelf }) (length old.lanes) lane b.own.after b.own.next b.first
      b.own.leads in
      let no_way : true ≡ false = sym lost ∙ moves-lost b.first new b.rest ∙ first ∙ was in cc)

  -- a record comes only where no answer is to be noted
  heard-lost : (h : List Entry) (old : View) (rec : List ℕ) (new : View) → new.lost ≡ true → HearsRecord old rec new → Reaches (machine_of mounted) setup h old → Heard old rec new
      → AreTaken (h ++ Delivered rec ∷ []) new
  heard-lost h old rec new lost t r (dropped none is) k number there = absurd (t.may.noted k number (answers.Refused faults.Slot) (ap (λ (v : View). slice_get v.lanes k) (sym is) ∙ there))
  heard-lost h old rec new lost t r (replied xid call named waits f) k number there =
      let was : old.lost ≡ true = sym (own-lost (taken_one old xid) rec call.purpose f.first f.own) ∙ sym (moves-lost f.first new f.rest) ∙ lost in
      let none : NoneBusy old = (comes-to-rest (machine_of mounted) setup h old r).over was in
      let first : f.first ≡ taken_one old xid = own-none (taken_one old xid) rec call.purpose f.first none f.own in
      let none-first : NoneBusy f.first = subst NoneBusy (sym first) none in
      let is : new ≡ taken_one old xid = none-moves f.first new f.rest none-first ∙ first in
      absurd (t.may.noted k number (answers.Refused faults.Slot) (ap (λ (v : View). slice_get v.lanes k) (sym is) ∙ there))

  failed-lost : (h : List Entry) (old new : View) → FailedNow old new → AreTaken h old → AreTaken (h ++ Failed ∷ []) new
  failed-lost h old new (goes_on none is) a = same-lanes h Failed old new (ap (λ (v : View). v.lanes) is) (λ n l o e. cc) a
  failed-lost h old new (gives_up xid up is) a =
      grows h Failed old new (λ k number there. (k, lost-before old new (ap (λ (v : View). v.lanes) is) k number there, λ l o e. cc)) a

  lost-step : (h : List Entry) (old : View) (e : Entry) (new : View) → StepsTo (machine_of mounted) h old e new → Reaches (machine_of mounted) setup h old → new.lost ≡ true → AreTaken h old
      → AreTaken (h ++ e ∷ []) new
  lost-step h old (Began lane line op) new t r lost a = begins-lost old.lost h old new lane line op refl lost t t.step a
  lost-step h old (Answered lane line answer) new t r lost a =
      let n = answered_now old lane answer new t.answers in
      grows h (Answered lane line answer) old new (λ k number there. (
        skip n.at k,
        get-remove old.lanes n.at k (record { number = number; state = Over (answers.Refused faults.Slot) }) (ap (λ (v : View). slice_get v.lanes k) (sym n.is.is) ∙ there),
        λ l o e. cc,
      )) a
  lost-step h old (Sent bytes) new t r lost a = let n = sent_now old bytes new t in same-lanes h (Sent bytes) old new (ap (λ (v : View). v.lanes) n.is) (λ n l o e. cc) a
  lost-step h old (Delivered bytes) new t r lost a = heard-lost h old bytes new lost t r (heard old bytes t.result new t.hears)
  lost-step h old Failed new (inl t) r lost a = failed-lost h old new (failed_now old t.0 new t.1) a
  lost-step h old Failed new (inr t) r lost a = same-lanes h Failed old new (ap (λ (v : View). v.lanes) t) (λ n l o e. cc) a
  lost-step h old (Dialed port) new t r lost a = same-lanes h (Dialed port) old new (ap (λ (v : View). v.lanes) t) (λ n l o e. cc) a
  lost-step h old (Executed xid call reply) new t r lost a = same-lanes h (Executed xid call reply) old new (ap (λ (v : View). v.lanes) t) (λ n l o e. cc) a
  lost-step h old (Foreign call reply) new t r lost a = same-lanes h (Foreign call reply) old new (ap (λ (v : View). v.lanes) t) (λ n l o e. cc) a
  lost-step h old (Flushed file from len) new t r lost a = same-lanes h (Flushed file from len) old new (ap (λ (v : View). v.lanes) t) (λ n l o e. cc) a
  lost-step h old (Reboot verf) new t r lost a = same-lanes h (Reboot verf) old new (ap (λ (v : View). v.lanes) t) (λ n l o e. cc) a
  lost-step h old (Clock ms) new t r lost a = same-lanes h (Clock ms) old new (ap (λ (v : View). v.lanes) t) (λ n l o e. cc) a

  reached-taken : (h : List Entry) (v : View) → Reaches (machine_of mounted) setup h v → AreTaken h v
  reached-taken _ _ (begins h v may up fresh) =
      λ k number there. absurd (
      let no_way : None ≡ Some (record { number = number; state = Over (answers.Refused faults.Slot) }) = ap (λ (lanes : List Lane). slice_get lanes k) (sym fresh.lanes) ∙ there in cc)
  reached-taken _ _ (goes h before v b e r is t) = by v.lost refl (reached-taken before b r)
    where
      by : (lost : Bool) → v.lost ≡ lost → AreTaken before b → AreTaken h v
      by false found a = not-lost h v (goes h before v b e r is t) found
      by true lost a = subst (λ (k : List Entry). AreTaken k v) (sym is) (lost-step before b e v t r lost a)
  reached-taken _ _ (loses h v b r shown is) = lost-lanes h b v (ap (λ (w : View). w.lanes) is) (reached-taken h b r)

  -- ---- answers

  -- an open that was refused for its slot
  pub record RefusedOpen (h : List Entry) (x lane slot : ℕ) : Type 0 where
    pub before : List Entry
    pub after : List Entry
    pub is : h ≡ before ++ after
    pub taken : WasTaken m before x lane slot

  answers-now : (h : List Entry) (old : View) (e : Entry) (new : View) (lane x slot : ℕ) (mode : Mode) (path : List (List ℕ)) → StepsTo (machine_of mounted) h old e new
      → Reaches (machine_of mounted) setup h old → Ended (h ++ e ∷ []) lane x (ops.OpenFile slot mode path) (length h) (answers.Refused faults.Slot) → WasTaken m h x lane slot
  answers-now h old e new lane x slot mode path t r d = by d.line (ended-now h e lane x op refusal d) t d
    where
      op : Op
      op = ops.OpenFile slot mode path

      refusal : Answer
      refusal = answers.Refused faults.Slot

      one-answer : (a b : Answer) → Some a ≡ Some b → a ≡ b
      one-answer a b e = cc

      by : (line : ℕ) → e ≡ Answered lane line refusal → StepsTo (machine_of mounted) h old e new → Ended (h ++ e ∷ []) lane x op (length h) refusal → WasTaken m h x lane slot
      by line is t d = of (subst (λ (k : Entry). StepsTo (machine_of mounted) h old k new) is t) (subst (λ (k : Entry). Ended (h ++ k ∷ []) lane x op (length h) refusal) is d)
        where
          of : StepsTo (machine_of mounted) h old (Answered lane line refusal) new → Ended (h ++ Answered lane line refusal ∷ []) lane x op (length h) refusal → WasTaken m h x lane slot
          of s d =
              let a = answered_now old lane refusal new s.answers in
              let there : slice_get old.lanes a.at ≡ Some (record { number = lane; state = Over refusal }) =
              subst (λ (k : Answer). slice_get old.lanes a.at ≡ Some (record { number = lane; state = Over k })) (sym (one-answer refusal a.is.answer a.is.gives)) a.is.there in
              reached-taken h old r a.at lane there x slot mode path
              (answered-under (machine_of mounted) (begins-unbegun mounted) setup Always (λ g w k f number other. tt) Plain (plain-laws mounted) h lane line refusal x op refusal d)

  pub refused-open : (h : List Entry) (v : View) → Reaches (machine_of mounted) setup h v → (lane x y slot : ℕ) (mode : Mode) (path : List (List ℕ))
      → Ended h lane x (ops.OpenFile slot mode path) y (answers.Refused faults.Slot) → RefusedOpen h x lane slot
  refused-open _ _ (begins h v may up fresh) lane x y slot mode path d = absurd (up.unbegun x lane d.line (ops.OpenFile slot mode path) d.began)
  refused-open _ _ (goes h before v b e r is t) lane x y slot mode path d =
      subst (λ (k : List Entry). RefusedOpen k x lane slot) (sym is)
      (by (refused-open before b r lane x y slot mode path) (cases_lt y (length before))
      (subst (λ (k : List Entry). Ended k lane x (ops.OpenFile slot mode path) y (answers.Refused faults.Slot)) is d))
    where
      by : (Ended before lane x (ops.OpenFile slot mode path) y (answers.Refused faults.Slot) → RefusedOpen before x lane slot) → (y < length before) ⊎ (length before ≤ y)
          → Ended (before ++ e ∷ []) lane x (ops.OpenFile slot mode path) y (answers.Refused faults.Slot) → RefusedOpen (before ++ e ∷ []) x lane slot
      by early (inl within) q =
          let s = early (ended-back before e lane x (ops.OpenFile slot mode path) y (answers.Refused faults.Slot) within q) in
          record { before = s.before; after = s.after ++ e ∷ []; is = ap (λ (k : List Entry). k ++ e ∷ []) s.is ∙ append_assoc s.before s.after (e ∷ []); taken = s.taken }
      by early (inr past) q =
          let low = At-below (before ++ e ∷ []) y (Answered lane q.line (answers.Refused faults.Slot)) q.answered in
          let more = length_last before e in
          let at : y ≡ length before = omega (arith, low, more, past) in
          record {
            before = before;
            after = e ∷ [];
            is = refl;
            taken = answers-now before b e v lane x slot mode path t r
                (subst (λ (z : ℕ). Ended (before ++ e ∷ []) lane x (ops.OpenFile slot mode path) z (answers.Refused faults.Slot)) at q);
          }
  refused-open _ _ (loses h v b r shown is) lane x y slot mode path d = refused-open h b r lane x y slot mode path d
