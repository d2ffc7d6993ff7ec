-- Where an operation stands, and what is told of each that is under way, as lanes make steps and entries come.
use Rattle.core_session.proofs.Prelude.{◌≡◌, ◌≢◌, ◌≤◌, inl, inr, ℕ, Bool, true, false, nat_eq, List, [], ◌∷◌, ◌++◌, length, Some, slice_get, refl, sym, ap, subst, ◌∙◌, eqb-true, eqb-false, Answer, Fault, Value, Entry, Began, Answered, Op, At, UnderWay, At-one, Machine, Lane, State, Busy, Over, Setup, AnswersAt, View, AreApart, IsOpenLine, Known, Runs, lanes-under-way, get-remove, still-there}
use Rattle.world_model.specs.declared.answer.Answer.TheVariants as answers
use Rattle.core_session.proofs.drops.KnowingAlong.{IsPlain}
use Rattle.core_session.proofs.drops.LaneIs.{state-is, busy-over}
use Rattle.core_session.proofs.syncs.Turning.{IsFixed, ready, Turns, fixed-turns, fixed-answers, fixed-same, under-answers, under-answers-back, under-plain, under-plain-back}

-- ---- where an operation stands

-- It hasn't begun; or it is under way; or it was refused; or Q holds.
pub data Fate (h : List Entry) (v : View) (x : ℕ) (Q : Type 0) : Type 0 where
  later : length h ≤ x → Fate h v x Q
  busy : (k number : ℕ) (machine : Machine) (op : Op) → slice_get v.lanes k ≡ Some (record { number = number; state = Busy machine }) → UnderWay h number x (length h) op → Fate h v x Q
  refused : (fault : Fault) → IsFixed h v x (answers.Refused fault) → Fate h v x Q
  well : Q → Fate h v x Q

pub fate-map : (h : List Entry) (v : View) (x : ℕ) (Q R : Type 0) → (Q → R) → Fate h v x Q → Fate h v x R
fate-map h v x Q R conv (later low) = later low
fate-map h v x Q R conv (busy k n machine op there u) = busy k n machine op there u
fate-map h v x Q R conv (refused fault is) = refused fault is
fate-map h v x Q R conv (well q) = well (conv q)

began-same : (a b c d : ℕ) (o p : Op) → Began a b o ≡ Began c d p → (a ≡ c) × (b ≡ d) × (o ≡ p)
began-same a b c d o p e = (cc, cc, cc)

-- a lane has one operation under way
pub one-under : (h : List Entry) (number x y : ℕ) (op o : Op) → Runs h number → UnderWay h number x (length h) op → UnderWay h number y (length h) o → (y ≡ x) × (o ≡ op)
one-under h number x y op o r u w = (is, (began-same number w.line number u.line o op (At-one h x (Began number w.line o) (Began number u.line op) (subst (λ (k : ℕ). At h k (Began number w.line o)) is w.began) u.began)).2)
  where
    run-is : (z : ℕ) (q : Op) → UnderWay h number z (length h) q → z ≡ r.x
    run-is z q v = elim (r.others z v.line q v.began) [
      | inl same ↦ same
      | inr done ↦ absurd (v.unanswered done)
    ]

    is : y ≡ x
    is = run-is y o w ∙ sym (run-is x op u)

lane-busy : (number k : ℕ) (machine : Machine) (state : State) → ◌≡◌ {A = Lane} (record { number = k; state = Busy machine }) (record { number = number; state = state }) → (k ≡ number) × (state ≡ Busy machine)
lane-busy number k machine state e = (ap (λ (l : Lane). l.number) e, sym (ap (λ (l : Lane). l.state) e))

one-lane : (a b : Lane) → Some a ≡ Some b → a ≡ b
one-lane a b e = cc

-- ---- a lane's step

module _ (f : List ℕ) (h h2 : List Entry) (old new : View) (at number x : ℕ) (op : Op) (state : State) (t : Turns f h h2 old new at number x op state) where
  abbrev pub ReadyIs : Type 0
  ReadyIs = (answer : Answer) → state ≡ Over answer → IsFixed h2 new x answer

  pub ready-is : ReadyIs
  ready-is answer is = ready at number op (t.but.here ∙ ap (λ (s : State). Some (record { number = number; state = s })) is) t.own

  -- its own fate
  own-fate : (Q : Type 0) → ((value : Value) → state ≡ Over (answers.Done value) → Q) → (s : State) → state ≡ s → Fate h2 new x Q
  own-fate Q good (Busy machine) is = busy at number machine op (t.but.here ∙ ap (λ (s : State). Some (record { number = number; state = s })) is) t.own
  own-fate Q good (Over (answers.Done value)) is = well (good value is)
  own-fate Q good (Over (answers.Refused fault)) is = refused fault (ready-is (answers.Refused fault) is)

  pub fate-turns : (y : ℕ) (Q Q2 : Type 0) → (Q → Q2) → (y ≡ x → (value : Value) → state ≡ Over (answers.Done value) → Q2) → (y ≢ x → length h ≤ y → length h2 ≤ y)
      → ((n z : ℕ) (machine : Machine) (o : Op) → slice_get old.lanes at ≡ Some (record { number = n; state = Busy machine }) → UnderWay h n z (length h) o → z ≡ x) → Fate h old y Q → Fate h2 new y Q2
  fate-turns y Q Q2 conv own up one fate = by (nat_eq y x) refl
    where
      on : y ≢ x → Fate h old y Q → Fate h2 new y Q2
      on off (later low) = later (up off low)
      on off (refused fault is) = refused fault (fixed-turns f h h2 old new at number x op state t y (answers.Refused fault) is)
      on off (well q) = well (conv q)
      on off (busy k n machine o there u) = place (nat_eq k at) refl
        where
          place : (b : Bool) → nat_eq k at ≡ b → Fate h2 new y Q2
          place true e = absurd (off (one n y machine o (ap (slice_get old.lanes) (sym (eqb-true k at e)) ∙ there) u))
          place false e =
              let apart = eqb-false k at e in
              busy k n machine o (t.but.stays k (record { number = n; state = Busy machine }) there apart) (t.on n y o (t.apart k (record { number = n; state = Busy machine }) there apart) u)

      by : (b : Bool) → nat_eq y x ≡ b → Fate h2 new y Q2
      by true e = subst (λ (z : ℕ). Fate h2 new z Q2) (sym (eqb-true y x e)) (own-fate Q2 (own (eqb-true y x e)) state refl)
      by false e = on (eqb-false y x e) fate

-- ---- what is told of each that is under way

abbrev pub Story : (ℕ → ℕ → Machine → Op → Type 0) → List Entry → View → Type 0
Story P h v = (k number : ℕ) (machine : Machine) (x : ℕ) (op : Op) → slice_get v.lanes k ≡ Some (record { number = number; state = Busy machine }) → UnderWay h number x (length h) op → P number x machine op

pub story-turns : (f : List ℕ) (h h2 : List Entry) (old new : View) (at number x : ℕ) (op : Op) (state : State) → Turns f h h2 old new at number x op state → Runs h2 number
    → (P Q : ℕ → ℕ → Machine → Op → Type 0) → ((machine : Machine) → state ≡ Busy machine → Q number x machine op) → ((n z : ℕ) (machine : Machine) (o : Op) → n ≢ number → UnderWay h n z (length h) o → P n z machine o → Q n z machine o)
    → Story P h old → Story Q h2 new
story-turns f h h2 old new at number x op state t runs P Q own map story k n machine z o there u = by (nat_eq k at) refl
  where
    by : (b : Bool) → nat_eq k at ≡ b → Q n z machine o
    by true e =
        let same = lane-busy number n machine state (one-lane (record { number = n; state = Busy machine }) (record { number = number; state = state }) (sym there ∙ ap (slice_get new.lanes) (eqb-true k at e) ∙ t.but.here)) in
        let is = one-under h2 number x z op o runs t.own (subst (λ (m : ℕ). UnderWay h2 m z (length h2) o) same.0 u) in
        subst (λ (m : ℕ). Q m z machine o) (sym same.0) (subst (λ (m : ℕ). Q number m machine o) (sym is.0) (subst (λ (p : Op). Q number x machine p) (sym is.1) (own machine same.1)))
    by false e =
        let off = eqb-false k at e in
        let was = t.but.was k (record { number = n; state = Busy machine }) there off in
        let apart = t.apart k (record { number = n; state = Busy machine }) was off in
        let under = t.was n z o apart u in
        map n z machine o apart under (story k n machine z o was under)

-- ---- the other entries

pub fate-answers : (setup : Setup) (h : List Entry) (old new : View) (at lane line : ℕ) (answer : Answer) → Known setup h old → IsOpenLine h lane line → AnswersAt old at lane (Some answer) new → (y : ℕ) (Q Q2 : Type 0)
    → (Q → Q2) → (length h ≤ y → length (h ++ Answered lane line answer ∷ []) ≤ y) → Fate h old y Q → Fate (h ++ Answered lane line answer ∷ []) new y Q2
fate-answers setup h old new at lane line answer known open_line s y Q Q2 conv up (later low) = later (up low)
fate-answers setup h old new at lane line answer known open_line s y Q Q2 conv up (refused fault is) = refused fault (fixed-answers setup h old new at lane line answer known open_line s y (answers.Refused fault) is)
fate-answers setup h old new at lane line answer known open_line s y Q Q2 conv up (well q) = well (conv q)
fate-answers setup h old new at lane line answer known open_line s y Q Q2 conv up (busy k n machine o there u) = by (nat_eq k at) refl
  where
    apart : AreApart old.lanes
    apart = (lanes-under-way h old known.lanes).apart

    by : (b : Bool) → nat_eq k at ≡ b → Fate (h ++ Answered lane line answer ∷ []) new y Q2
    by true e = absurd (busy-over machine s.answer (state-is (Busy machine) (Over s.answer) n lane (sym (ap (slice_get old.lanes) (sym (eqb-true k at e)) ∙ there) ∙ s.there)))
    by false e =
        let off = eqb-false k at e in
        let stays = still-there old.lanes at k (record { number = n; state = Busy machine }) off there in
        busy stays.0 n machine o (ap (λ (w : View). slice_get w.lanes stays.0) s.is ∙ stays.1)
        (under-answers h lane line answer n y o (λ same. off (apart k at (record { number = n; state = Busy machine }) (record { number = lane; state = Over s.answer }) there s.there same)) u)

pub fate-same : (h : List Entry) (e : Entry) (old new : View) → IsPlain e → new.lanes ≡ old.lanes → (y : ℕ) (Q Q2 : Type 0) → (Q → Q2) → (length h ≤ y → length (h ++ e ∷ []) ≤ y) → Fate h old y Q → Fate (h ++ e ∷ []) new y Q2
fate-same h e old new plain lanes y Q Q2 conv up (later low) = later (up low)
fate-same h e old new plain lanes y Q Q2 conv up (refused fault is) = refused fault (fixed-same h e old new plain lanes y (answers.Refused fault) is)
fate-same h e old new plain lanes y Q Q2 conv up (well q) = well (conv q)
fate-same h e old new plain lanes y Q Q2 conv up (busy k n machine o there u) =
    busy k n machine o (ap (λ (l : List Lane). slice_get l k) lanes ∙ there) (under-plain h e n y o plain u)

pub story-answers : (h : List Entry) (old new : View) (at lane line : ℕ) (answer : Answer) → AnswersAt old at lane (Some answer) new → (P Q : ℕ → ℕ → Machine → Op → Type 0)
    → ((n z : ℕ) (machine : Machine) (o : Op) → P n z machine o → Q n z machine o) → Story P h old → Story Q (h ++ Answered lane line answer ∷ []) new
story-answers h old new at lane line answer s P Q map story k n machine z o there u =
    map n z machine o
    (story _ n machine z o (get-remove old.lanes at k (record { number = n; state = Busy machine }) (sym (ap (λ (w : View). slice_get w.lanes k) s.is) ∙ there))
    (under-answers-back h lane line answer n z o u))

pub story-same : (h : List Entry) (e : Entry) (old new : View) → IsPlain e → new.lanes ≡ old.lanes → (P Q : ℕ → ℕ → Machine → Op → Type 0)
    → ((n z : ℕ) (machine : Machine) (o : Op) → P n z machine o → Q n z machine o) → Story P h old → Story Q (h ++ e ∷ []) new
story-same h e old new plain lanes P Q map story k n machine z o there u =
    map n z machine o (story k n machine z o (ap (λ (l : List Lane). slice_get l k) (sym lanes) ∙ there) (under-plain-back h e n z o plain u))
