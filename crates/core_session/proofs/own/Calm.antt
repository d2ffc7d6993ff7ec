-- Where answers are noted before records are sent, nothing is sent between the last record that came before the answer of a truncate that goes well and that answer.
use Rattle.core_session.proofs.Prelude.{◌≡◌, ◌≤◌, ◌<◌, ◌⊎◌, inl, inr, ℕ, Bool, true, false, nat_eq, List, [], ◌∷◌, ◌++◌, length, map, Some, None, slice_get, slice_set, refl, sym, ap, subst, ◌∙◌, arith, eqb-true, eqb-false, Answer, Fault, Value, Entry, Began, Answered, Dialed, Sent, Executed, Foreign, Flushed, Reboot, Delivered, Failed, Clock, Op, At, Ended, UnderWay, Terms, At-grow, At-below, At-back, At-last, At-one, At-cases, length_last, Step, Shelf, Truncating, Mounted, FileMachine, Machine, machine_of, Starts, Resumes, Lane, State, Busy, Over, Setup, lost_lane, numbers_of, IsRefused, Moves, moves_none, moves_more, Stirs, StartsLane, BeginsIf, AnswersAt, counted, View, turn_at, NoneReady, Notes, StepsTo, Reaches, last_reading, begins-unbegun, sent_now, FailedNow, goes_on, gives_up, failed_now, answered_now, Given, is-given, idle-numbers, number_of, lanes-under-way, reached-lanes, at-set, get-push, get-remove, skip, to-map, notes-reach, good-over, ended-grow, set-other, WorksAt, SlotRuns, SlotStory, slot-laws}
use Rattle.client_core.specs.Lanes.{lost_state}
use Rattle.client_core.specs.Steps.{BeginsNow, lost}
use Rattle.core_facts.specs.Notes.{ComesAfter}
use Rattle.core_facts.specs.Reaches.{BeginsOp}
use Rattle.core_facts.proofs.Lists.{in-map}
use Rattle.world_model.specs.declared.answer.Answer.TheVariants as answers
use Rattle.world_model.specs.declared.answer.Fault.TheVariants as faults
use Rattle.world_model.specs.declared.op.Op.TheVariants as ops
use Rattle.client_shelf.specs.declared.step.Step.TheVariants as nexts
use Rattle.file_ops.specs.declared.truncate_file.Truncating.TheVariants as truncating
use Rattle.op_machines.specs.declared.file_machine.FileMachine.TheVariants as files
use Rattle.op_machines.specs.declared.machine.Machine.TheVariants as machines
use Rattle.core_facts.proofs.Along.{KeepsNoting, notes-along}
use Rattle.core_session.proofs.drops.KnowingAlong.{IsPlain}
use Rattle.core_session.proofs.drops.LaneIs.{state-is, number-is, answer-is}
use Rattle.core_session.proofs.drops.Leading.{Settles, Leading, settles, unmade, Led, Pushed, stirs-led, starts-led}
use Rattle.core_session.proofs.pending.Cuttings.{IsCutter, StateCuts, cutter-starts, cutter-starts-not, cutter-resumes, cutter-resumes-not, cutter-takes, cutter-takes-err}
use Rattle.core_session.proofs.pending.Settles.{IsGood}
use Rattle.core_session.proofs.pending.Moments.{ended-in}
use Rattle.core_session.proofs.syncs.Turning.{under-was, under-plain-back, under-answers-back}

-- ---- nothing is sent

-- nothing was sent since the last record that came
pub record Calm (h : List Entry) : Type 0 where
  pub at : ℕ
  pub bytes : List ℕ
  pub got : At h at (Delivered bytes)
  pub since : (j : ℕ) (b : List ℕ) → At h j (Sent b) → j < at

calm-later : (h : List Entry) (e : Entry) → ((b : List ℕ) → e ≡ Sent b → ⊥) → Calm h → Calm (h ++ e ∷ [])
calm-later h e other c = record {
  at = c.at;
  bytes = c.bytes;
  got = At-grow h (e ∷ []) c.at (Delivered c.bytes) c.got;
  since = λ j b at. by j b (At-cases h e j (Sent b) at);
}
  where
    by : (j : ℕ) (b : List ℕ) → At h j (Sent b) ⊎ ((j ≡ length h) × (e ≡ Sent b)) → j < c.at
    by j b (inl there) = c.since j b there
    by j b (inr now) = absurd (other b now.1)

calm-now : (h : List Entry) (rec : List ℕ) → Calm (h ++ Delivered rec ∷ [])
calm-now h rec = record { at = length h; bytes = rec; got = At-last h (Delivered rec); since = λ j b at. by j b (At-cases h (Delivered rec) j (Sent b) at) }
  where
    by : (j : ℕ) (b : List ℕ) → At h j (Sent b) ⊎ ((j ≡ length h) × (Delivered rec ≡ Sent b)) → j < length h
    by j b (inl there) = At-below h j (Sent b) there
    by j b (inr now) = absurd (let no_way : Delivered rec ≡ Sent b = now.1 in cc)

-- so it was before the place y
pub record CalmBefore (h : List Entry) (y : ℕ) : Type 0 where
  pub at : ℕ
  pub bytes : List ℕ
  pub got : At h at (Delivered bytes)
  pub before : at < y
  pub since : (j : ℕ) (b : List ℕ) → At h j (Sent b) → j < y → j < at

before-later : (h : List Entry) (e : Entry) (y : ℕ) → y ≤ length h → CalmBefore h y → CalmBefore (h ++ e ∷ []) y
before-later h e y within c = record {
  at = c.at;
  bytes = c.bytes;
  got = At-grow h (e ∷ []) c.at (Delivered c.bytes) c.got;
  before = c.before;
  since = λ j b at low. c.since j b (At-back h (e ∷ []) j (Sent b) at (omega (arith, low, within))) low;
}

before-now : (h : List Entry) (e : Entry) → Calm h → CalmBefore (h ++ e ∷ []) (length h)
before-now h e c = record {
  at = c.at;
  bytes = c.bytes;
  got = At-grow h (e ∷ []) c.at (Delivered c.bytes) c.got;
  before = At-below h c.at (Delivered c.bytes) c.got;
  since = λ j b at low. c.since j b (At-back h (e ∷ []) j (Sent b) at low);
}

-- ---- what is kept

-- each truncate that went well has its answer since the last record that came
abbrev AllCalm : List Entry → View → Type 0
AllCalm h v = (k number : ℕ) (value : Value) → slice_get v.lanes k ≡ Some (record { number = number; state = Over (answers.Done value) }) → (x slot size : ℕ)
    → UnderWay h number x (length h) (ops.Truncate slot size) → Calm h

-- and so each has whose answer was noted
abbrev pub NotedCalm : List Entry → Type 0
NotedCalm h = (lane x slot size y : ℕ) (value : Value) → Ended h lane x (ops.Truncate slot size) y (answers.Done value) → CalmBefore h y

record Calmed (h : List Entry) (v : View) : Type 0 where
  ready : AllCalm h v
  noted : NotedCalm h

noted-later : (h : List Entry) (e : Entry) → ((lane line : ℕ) (answer : Answer) → e ≡ Answered lane line answer → ⊥) → NotedCalm h → NotedCalm (h ++ e ∷ [])
noted-later h e other k lane x slot size y value d = by (At-cases h e y (Answered lane d.line (answers.Done value)) d.answered)
  where
    by : At h y (Answered lane d.line (answers.Done value)) ⊎ ((y ≡ length h) × (e ≡ Answered lane d.line (answers.Done value))) → CalmBefore (h ++ e ∷ []) y
    by (inl there) =
        let low = At-below h y (Answered lane d.line (answers.Done value)) there in
        before-later h e y (omega (arith, low)) (k lane x slot size y value (ended-in (h ++ e ∷ []) h (e ∷ []) refl lane x y (ops.Truncate slot size) (answers.Done value) low d))
    by (inr now) = absurd (other lane d.line (answers.Done value) now.1)

-- ---- lanes of the view before

refused-done : (fault : Fault) (value : Value) → answers.Refused fault ≡ answers.Done value → ⊥
refused-done fault value e = cc

done-same : (a b : Answer) (value : Value) → Over a ≡ Over b → b ≡ answers.Done value → a ≡ answers.Done value
done-same a b value same is = answer-is a b same ∙ is

-- a lane that has a good answer as the session is lost had it before
lost-done : (state : State) (value : Value) → lost_state state ≡ Over (answers.Done value) → state ≡ Over (answers.Done value)
lost-done (Busy machine) value e = absurd (refused-done faults.Lost value (answer-is (answers.Refused faults.Lost) (answers.Done value) e))
lost-done (Over answer) value e = e

lost-lane : (lanes : List Lane) (k number : ℕ) (value : Value) → slice_get (map lost_lane lanes) k ≡ Some (record { number = number; state = Over (answers.Done value) })
    → slice_get lanes k ≡ Some (record { number = number; state = Over (answers.Done value) })
lost-lane lanes k number value there =
    let was = in-map lost_lane lanes k (record { number = number; state = Over (answers.Done value) }) there in
    let state : was.0.state ≡ Over (answers.Done value) = lost-done was.0.state value (sym (ap (λ (l : Lane). l.state) was.2)) in
    let same : was.0.number ≡ number = sym (ap (λ (l : Lane). l.number) was.2) in
    was.1 ∙ as-lane was.0 number (Over (answers.Done value)) same state
  where
    as-lane : (l : Lane) (n : ℕ) (s : State) → l.number ≡ n → l.state ≡ s → Some l ≡ Some (record { number = n; state = s })
    as-lane l n s number_is state_is = ap (λ (m : ℕ). Some (record { number = m; state = l.state })) number_is ∙ ap (λ (q : State). Some (record { number = n; state = q })) state_is

-- where an entry leaves lanes as they are, or loses them, and isn't sent
ready-plain : (h : List Entry) (e : Entry) (old new : View) → IsPlain e → ((b : List ℕ) → e ≡ Sent b → ⊥)
    → ((k number : ℕ) (value : Value) → slice_get new.lanes k ≡ Some (record { number = number; state = Over (answers.Done value) }) → slice_get old.lanes k ≡ Some (record { number = number; state = Over (answers.Done value) }))
    → AllCalm h old → AllCalm (h ++ e ∷ []) new
ready-plain h e old new plain unsent was all k number value there x slot size u =
    calm-later h e unsent (all k number value (was k number value there) x slot size (under-plain-back h e number x (ops.Truncate slot size) plain u))

calmed-plain : (h : List Entry) (e : Entry) (old new : View) → IsPlain e → ((b : List ℕ) → e ≡ Sent b → ⊥)
    → ((k number : ℕ) (value : Value) → slice_get new.lanes k ≡ Some (record { number = number; state = Over (answers.Done value) }) → slice_get old.lanes k ≡ Some (record { number = number; state = Over (answers.Done value) }))
    → Calmed h old → Calmed (h ++ e ∷ []) new
calmed-plain h e old new plain unsent was c = record { ready = ready-plain h e old new plain unsent was c.ready; noted = noted-later h e plain.answers_ c.noted }

same-lanes : (old new : View) → new.lanes ≡ old.lanes → (k number : ℕ) (value : Value) → slice_get new.lanes k ≡ Some (record { number = number; state = Over (answers.Done value) })
    → slice_get old.lanes k ≡ Some (record { number = number; state = Over (answers.Done value) })
same-lanes old new is k number value there = ap (λ (ls : List Lane). slice_get ls k) (sym is) ∙ there

lost-lanes : (old new : View) → new.lanes ≡ map lost_lane old.lanes → (k number : ℕ) (value : Value) → slice_get new.lanes k ≡ Some (record { number = number; state = Over (answers.Done value) })
    → slice_get old.lanes k ≡ Some (record { number = number; state = Over (answers.Done value) })
lost-lanes old new is k number value there = lost-lane old.lanes k number value (ap (λ (ls : List Lane). slice_get ls k) (sym is) ∙ there)

-- ---- an operation that is answered was under way

began-op : (a b c d : ℕ) (o p : Op) → Began a b o ≡ Began c d p → (a ≡ c) × (b ≡ d)
began-op a b c d o p e = (cc, cc)

answered-same : (a b c d : ℕ) (o p : Answer) → Answered a b o ≡ Answered c d p → (a ≡ c) × (o ≡ p)
answered-same a b c d o p e = (cc, cc)

under-of : (h : List Entry) (e : Entry) (lane x : ℕ) (op : Op) (answer : Answer) (y : ℕ) → y ≡ length h → Ended (h ++ e ∷ []) lane x op y answer → UnderWay h lane x (length h) op
under-of h e lane x op answer y here d = record {
  line = d.line;
  began = began;
  before = At-below h x (Began lane d.line op) began;
  unanswered = λ a.
      let same = began-op a.lane a.ended.line lane d.line a.op op (At-one h x (Began a.lane a.ended.line a.op) (Began lane d.line op) a.ended.began began) in
      let at = subst (λ (n : ℕ). At h a.y (Answered n d.line a.answer)) same.0 (subst (λ (l : ℕ). At h a.y (Answered a.lane l a.answer)) same.1 a.ended.answered) in
      let first = d.first a.y a.answer (At-grow h (e ∷ []) a.y (Answered lane d.line a.answer) at) a.ended.later in
      let low = a.before in
      absurd (omega (arith, first, low, here));
}
  where
    began : At h x (Began lane d.line op)
    began = At-back h (e ∷ []) x (Began lane d.line op) d.began (let later = d.later in omega (arith, later, here))

-- ---- an answer is noted

calmed-answers : (h : List Entry) (old new : View) (at lane line : ℕ) (answer : Answer) → AnswersAt old at lane (Some answer) new → Calmed h old → Calmed (h ++ Answered lane line answer ∷ []) new
calmed-answers h old new at lane line answer a c = record { ready = ready; noted = noted }
  where
    later : List Entry
    later = h ++ Answered lane line answer ∷ []

    ready : AllCalm later new
    ready k number value there x slot size u =
        calm-later h (Answered lane line answer) (λ b e. absurd cc)
        (c.ready (skip at k) number value
        (get-remove old.lanes at k (record { number = number; state = Over (answers.Done value) }) (ap (λ (w : View). slice_get w.lanes k) (sym a.is) ∙ there)) x slot size
        (under-answers-back h lane line answer number x (ops.Truncate slot size) u))

    some-answer : (p q : Answer) → Some p ≡ Some q → p ≡ q
    some-answer p q e = cc

    noted : NotedCalm later
    noted l x slot size y value d = by (At-cases h (Answered lane line answer) y (Answered l d.line (answers.Done value)) d.answered)
      where
        by : At h y (Answered l d.line (answers.Done value)) ⊎ ((y ≡ length h) × (Answered lane line answer ≡ Answered l d.line (answers.Done value))) → CalmBefore later y
        by (inl there) =
            let low = At-below h y (Answered l d.line (answers.Done value)) there in
            before-later h (Answered lane line answer) y (omega (arith, low))
            (c.noted l x slot size y value (ended-in later h (Answered lane line answer ∷ []) refl l x y (ops.Truncate slot size) (answers.Done value) low d))
        by (inr now) =
            let same = answered-same lane line l d.line answer (answers.Done value) now.1 in
            let is : a.answer ≡ answers.Done value = sym (some-answer answer a.answer a.gives) ∙ same.1 in
            let there : slice_get old.lanes at ≡ Some (record { number = l; state = Over (answers.Done value) }) =
            a.there ∙ ap (λ (n : ℕ). Some (record { number = n; state = Over a.answer })) same.0 ∙ ap (λ (q : Answer). Some (record { number = l; state = Over q })) is in
            subst (CalmBefore later) (sym now.0)
            (before-now h (Answered lane line answer)
            (c.ready at l value there x slot size (under-of h (Answered lane line answer) l x (ops.Truncate slot size) (answers.Done value) y now.0 d)))

-- ---- an operation begins

-- of the lane of a truncate
abbrev StateCalm : List Entry → State → Type 0
StateCalm h (Busy machine) = IsCutter 0 machine
StateCalm h (Over (answers.Done value)) = Calm h
StateCalm h (Over (answers.Refused fault)) = Unit {0}

abbrev LanesCalm : List Entry → List Lane → Type 0
LanesCalm h lanes = (k number : ℕ) (state : State) → slice_get lanes k ≡ Some (record { number = number; state = state }) → (x slot size : ℕ)
    → UnderWay h number x (length h) (ops.Truncate slot size) → StateCalm h state

-- a step of a truncate that isn't at a reply doesn't end it well
leading-calm : (h : List Entry) (wsize : ℕ) (S : Step → Machine → Shelf → Type 0) (state : State) (after : Shelf)
    → ((next : Step) (new : Machine) (shelf : Shelf) → S next new shelf → IsCutter 0 new × (IsGood next → ⊥)) → Leading wsize S state after → StateCalm h state
leading-calm h wsize S state after steps (settles next new s is) = by next (steps next new after s) is
  where
    by : (n : Step) → IsCutter 0 new × (IsGood n → ⊥) → Settles n new state → StateCalm h state
    by (nexts.Send call) k same = subst (StateCalm h) (sym same) k.0
    by nexts.Wait k same = subst (StateCalm h) (sym same) k.0
    by (nexts.Done (answers.Done value)) k same = absurd (k.1 tt)
    by (nexts.Done (answers.Refused fault)) k same = subst (StateCalm h) (sym same) tt
leading-calm h wsize S state after steps (unmade call mid between sent turn fault next new s takes refused) = by next
    (λ good. cutter-takes-err 0 mid cuts wsize sent turn fault between next new after takes good) refused
  where
    cuts : IsCutter 0 mid
    cuts = (steps (nexts.Send call) mid between s).0

    by : (n : Step) → (IsGood n → ⊥) → IsRefused new n state → StateCalm h state
    by (nexts.Send other) k same = absurd same
    by nexts.Wait k same = subst (StateCalm h) (sym same) (cutter-takes 0 mid cuts wsize sent turn _ between next new after takes)
    by (nexts.Done (answers.Done value)) k same = absurd (k tt)
    by (nexts.Done (answers.Refused other)) k same = subst (StateCalm h) (sym same) tt

-- a lane goes on
stirs-calm : (h : List Entry) (old new : View) (at : ℕ) → Stirs old at new → LanesCalm h old.lanes → LanesCalm h new.lanes
stirs-calm h old new at t all k number state there x slot size u = by (nat_eq k at) refl
  where
    led : Led old.wsize (λ next machine shelf. Resumes old.wsize t.machine (turn_at old) old.shelf next machine shelf) old.lanes at t.number new
    led = stirs-led old new at t

    here : slice_get (slice_set old.lanes at (record { number = t.number; state = led.state })) k ≡ Some (record { number = number; state = state })
    here = ap (λ (ls : List Lane). slice_get ls k) (sym led.lanes_are) ∙ there

    by : (b : Bool) → nat_eq k at ≡ b → StateCalm h state
    by false d = all k number state (sym (set-other old.lanes at k (record { number = t.number; state = led.state }) (eqb-false k at d)) ∙ here) x slot size u
    by true d =
        let own : slice_get (slice_set old.lanes at (record { number = t.number; state = led.state })) k ≡ Some (record { number = t.number; state = led.state }) =
        ap (slice_get (slice_set old.lanes at (record { number = t.number; state = led.state }))) (eqb-true k at d)
        ∙ at-set old.lanes at (record { number = t.number; state = Busy t.machine }) (record { number = t.number; state = led.state }) t.there in
        let same : state ≡ led.state = state-is state led.state number t.number (sym here ∙ own) in
        let its : number ≡ t.number = number-is state led.state number t.number (sym here ∙ own) in
        let cuts : IsCutter 0 t.machine =
        all at t.number (Busy t.machine) t.there x slot size (subst (λ (n : ℕ). UnderWay h n x (length h) (ops.Truncate slot size)) its u) in
        subst (StateCalm h) (sym same)
        (leading-calm h old.wsize (λ next machine shelf. Resumes old.wsize t.machine (turn_at old) old.shelf next machine shelf) led.state new.shelf
        (λ next machine shelf r. (
          cutter-resumes 0 t.machine cuts old.wsize (turn_at old) old.shelf next machine shelf r,
          cutter-resumes-not 0 t.machine cuts old.wsize (turn_at old) old.shelf next machine shelf r,
        )) led.leading)

moves-calm : (h : List Entry) (old new : View) → Moves old new → LanesCalm h old.lanes → LanesCalm h new.lanes
moves-calm h _ _ (moves_none old new is) all = subst (λ (v : View). LanesCalm h v.lanes) (sym is) all
moves-calm h _ _ (moves_more old mid new at m room t first) all = stirs-calm h mid new at t (moves-calm h old mid m all)

-- a truncate that is under way as another operation begins
state-cutter : (at : Truncating) → StateCuts 0 at
state-cutter truncating.Idle = tt
state-cutter (truncating.Queued file upto) = omega arith
state-cutter (truncating.Asked file upto) = omega arith

works-cutter : (slot size : ℕ) (f : List ℕ) (of : FileMachine) → WorksAt (ops.Truncate slot size) f of → IsCutter 0 (machines.File of)
works-cutter slot size f (files.Truncate m) works = state-cutter m.state
works-cutter slot size f (files.Open m) works = absurd works
works-cutter slot size f (files.Read m) works = absurd works
works-cutter slot size f (files.Write m) works = absurd works
works-cutter slot size f (files.Sync m) works = absurd works
works-cutter slot size f (files.Close m) works = absurd works
works-cutter slot size f (files.Put m) works = absurd works

module _ (mounted : Mounted) (terms : Terms) (same : mounted.nocto ≡ terms.modes.nocto) (setup : Setup) where
  busy-cutter : (h : List Entry) (v : View) → Reaches (machine_of mounted) setup h v → (k number : ℕ) (machine : Machine) → slice_get v.lanes k ≡ Some (record { number = number; state = Busy machine })
      → (x slot size : ℕ) → UnderWay h number x (length h) (ops.Truncate slot size) → IsCutter 0 machine
  busy-cutter h v r k number machine there x slot size u =
      let s : SlotRuns terms.modes h x (ops.Truncate slot size) machine =
      (good-over (machine_of mounted) (begins-unbegun mounted) setup (Given terms.modes) (is-given terms.modes mounted same setup) (SlotStory terms.modes) (slot-laws terms.modes mounted) h v r
      k (record { number = number; state = Busy machine }) there).1 x (ops.Truncate slot size) u tt in
      subst (IsCutter 0) (sym s.is) (works-cutter slot size s.held.o.file s.of s.works)

  module _ (h : List Entry) (old : View) (lane line : ℕ) (op : Op) (new : View) (r : Reaches (machine_of mounted) setup h old) (b : BeginsOp (machine_of mounted) h old lane op new) (c : AllCalm h old) where
    abbrev later : List Entry
    later = h ++ Began lane line op ∷ []

    -- a lane that was there isn't the one that begins
    other : (k number : ℕ) (state : State) → slice_get old.lanes k ≡ Some (record { number = number; state = state }) → (n : ℕ) (o : Op) → Began lane line op ≡ Began number n o → ⊥
    other k number state there n o e =
        idle-numbers lane (numbers_of old.lanes) b.idle.other k
        (to-map number_of old.lanes k (record { number = number; state = state }) there ∙ ap (λ (z : ℕ). Some z) (sym (began-op lane line number n op o e).0))

    was-under : (k number : ℕ) (state : State) → slice_get old.lanes k ≡ Some (record { number = number; state = state }) → (x : ℕ) (o : Op) → UnderWay later number x (length later) o
        → UnderWay h number x (length h) o
    was-under k number state there x o u = under-was h (Began lane line op) number x o (other k number state there) u

    old-calm : (k number : ℕ) (state : State) → slice_get old.lanes k ≡ Some (record { number = number; state = state }) → (x slot size : ℕ)
        → UnderWay later number x (length later) (ops.Truncate slot size) → StateCalm later state
    old-calm k number (Busy machine) there x slot size u = busy-cutter h old r k number machine there x slot size (was-under k number (Busy machine) there x (ops.Truncate slot size) u)
    old-calm k number (Over (answers.Done value)) there x slot size u =
        calm-later h (Began lane line op) (λ bytes e. absurd cc)
        (c k number value there x slot size (was-under k number (Over (answers.Done value)) there x (ops.Truncate slot size) u))
    old-calm k number (Over (answers.Refused fault)) there x slot size u = tt

    -- the operation of the lane that begins is this one
    own-op : (x : ℕ) (o : Op) → UnderWay later lane x (length later) o → op ≡ o
    own-op x o u = by (At-cases h (Began lane line op) x (Began lane u.line o) u.began)
      where
        same-op : (p q : ℕ) (a d : Op) → Began lane p a ≡ Began lane q d → a ≡ d
        same-op p q a d e = cc

        by : At h x (Began lane u.line o) ⊎ ((x ≡ length h) × (Began lane line op ≡ Began lane u.line o)) → op ≡ o
        by (inr now) = same-op line u.line op o now.1
        by (inl there) =
            absurd ((lanes-under-way h old (reached-lanes (machine_of mounted) setup h old r)).idle lane b.idle.other (record {
              x = x;
              op = o;
              under_way = record {
                line = u.line;
                began = there;
                before = At-below h x (Began lane u.line o) there;
                unanswered = λ a. u.unanswered (record {
                  lane = a.lane;
                  op = a.op;
                  y = a.y;
                  answer = a.answer;
                  ended = ended-grow h (Began lane line op) a.lane x a.op a.y a.answer a.ended;
                  before = let more = length_last h (Began lane line op) in let low = a.before in omega (arith, more, low);
                });
              };
            }))

    module _ (now : ℕ) (first : View) (s : StartsLane (counted old now) lane (machine_of mounted lane op) first) where
      pushed : Pushed old.wsize (λ next machine shelf. Starts old.wsize (machine_of mounted lane op) (turn_at (counted old now)) old.shelf next machine shelf) old.lanes lane first
      pushed = starts-led (counted old now) first lane (machine_of mounted lane op) s

      own-calm : (x slot size : ℕ) → UnderWay later lane x (length later) (ops.Truncate slot size) → StateCalm later pushed.state
      own-calm x slot size u =
          leading-calm later old.wsize (λ next machine shelf. Starts old.wsize (machine_of mounted lane op) (turn_at (counted old now)) old.shelf next machine shelf) pushed.state first.shelf
          (λ next machine shelf st.
          let t : Starts old.wsize (machine_of mounted lane (ops.Truncate slot size)) (turn_at (counted old now)) old.shelf next machine shelf =
          subst (λ (o : Op). Starts old.wsize (machine_of mounted lane o) (turn_at (counted old now)) old.shelf next machine shelf) (own-op x (ops.Truncate slot size) u) st in (
            cutter-starts 0 (record { lane = lane; slot = slot; size = size; state = truncating.Idle }) old.wsize (turn_at (counted old now)) old.shelf next machine shelf t (omega arith),
            cutter-starts-not (record { lane = lane; slot = slot; size = size; state = truncating.Idle }) old.wsize (turn_at (counted old now)) old.shelf next machine shelf t,
          )) pushed.leading

      first-calm : LanesCalm later first.lanes
      first-calm k number state there x slot size u = by (get-push old.lanes (record { number = lane; state = pushed.state }) k (record { number = number; state = state })
          (ap (λ (ls : List Lane). slice_get ls k) (sym pushed.lanes_are) ∙ there))
        where
          by : (slice_get old.lanes k ≡ Some (record { number = number; state = state })) ⊎ ((k ≡ length old.lanes) × (◌≡◌ {A = Lane} (record { number = number; state = state }) (record { number = lane; state = pushed.state })))
              → StateCalm later state
          by (inl was) = old-calm k number state was x slot size u
          by (inr own) =
              subst (StateCalm later) (sym (ap (λ (l : Lane). l.state) own.1))
              (own-calm x slot size (subst (λ (n : ℕ). UnderWay later n x (length later) (ops.Truncate slot size)) (ap (λ (l : Lane). l.number) own.1) u))

    begins-now : BeginsNow old lane (machine_of mounted lane op) (last_reading 0 h) new → AllCalm later new
    begins-now n k number value there x slot size u =
        moves-calm later n.first new n.rest (first-calm (last_reading 0 h) n.first n.own) k number (Over (answers.Done value)) there x slot size u

    begins-lost : new.lanes ≡ old.lanes ++ record { number = lane; state = Over (answers.Refused faults.Lost) } ∷ [] → AllCalm later new
    begins-lost is k number value there x slot size u = by (get-push old.lanes (record { number = lane; state = Over (answers.Refused faults.Lost) }) k
        (record { number = number; state = Over (answers.Done value) }) (ap (λ (ls : List Lane). slice_get ls k) (sym is) ∙ there))
      where
        by : (slice_get old.lanes k ≡ Some (record { number = number; state = Over (answers.Done value) }))
            ⊎ ((k ≡ length old.lanes) × (◌≡◌ {A = Lane} (record { number = number; state = Over (answers.Done value) }) (record { number = lane; state = Over (answers.Refused faults.Lost) })))
            → Calm later
        by (inl was) = old-calm k number (Over (answers.Done value)) was x slot size u
        by (inr own) = absurd (refused-done faults.Lost value (sym (answer-is (answers.Done value) (answers.Refused faults.Lost) (ap (λ (l : Lane). l.state) own.1))))

    begins-if : (lost : Bool) → BeginsIf lost old lane (machine_of mounted lane op) (last_reading 0 h) new → AllCalm later new
    begins-if true is = begins-lost (ap (λ (v : View). v.lanes) is)
    begins-if false n = begins-now n

  -- ---- each entry

  failed-calm : (h : List Entry) (old new : View) → FailedNow old new → Calmed h old → Calmed (h ++ Failed ∷ []) new
  failed-calm h old new (goes_on none is) c =
      calmed-plain h Failed old new (record { begins_ = λ a l o e. absurd cc; answers_ = λ a l o e. absurd cc }) (λ b e. absurd cc) (same-lanes old new (ap (λ (v : View). v.lanes) is)) c
  failed-calm h old new (gives_up xid up is) c =
      calmed-plain h Failed old new (record { begins_ = λ a l o e. absurd cc; answers_ = λ a l o e. absurd cc }) (λ b e. absurd cc) (lost-lanes old new (ap (λ (v : View). v.lanes) is)) c

  unseen-calm : (h : List Entry) (e : Entry) (old new : View) → IsPlain e → ((b : List ℕ) → e ≡ Sent b → ⊥) → new ≡ old → Calmed h old → Calmed (h ++ e ∷ []) new
  unseen-calm h e old new plain unsent is c = calmed-plain h e old new plain unsent (same-lanes old new (ap (λ (v : View). v.lanes) is)) c

  calm-step : (h : List Entry) (old : View) (e : Entry) (new : View) → Notes (machine_of mounted) setup h old → (ComesAfter e → NoneReady old) → StepsTo (machine_of mounted) h old e new
      → Calmed h old → Calmed (h ++ e ∷ []) new
  calm-step h old (Began lane line op) new n none t c = record {
    ready = begins-if h old lane line op new (notes-reach (machine_of mounted) setup h old n) t c.ready old.lost t.step;
    noted = noted-later h (Began lane line op) (λ a l o e. absurd cc) c.noted;
  }
  calm-step h old (Answered lane line answer) new n none t c =
      let a = answered_now old lane answer new t.answers in calmed-answers h old new a.at lane line answer a.is c
  calm-step h old (Sent bytes) new n none t c =
      let s = sent_now old bytes new t in
      record {
        ready = λ k number value there x slot size u. absurd (none tt k number (answers.Done value) (same-lanes old new (ap (λ (v : View). v.lanes) s.is) k number value there));
        noted = noted-later h (Sent bytes) (λ a l o e. absurd cc) c.noted;
      }
  calm-step h old (Delivered bytes) new n none t c = record {
    ready = λ k number value there x slot size u. calm-now h bytes;
    noted = noted-later h (Delivered bytes) (λ a l o e. absurd cc) c.noted;
  }
  calm-step h old Failed new n none (inl t) c = failed-calm h old new (failed_now old t.0 new t.1) c
  calm-step h old Failed new n none (inr t) c = unseen-calm h Failed old new (record { begins_ = λ a l o e. absurd cc; answers_ = λ a l o e. absurd cc }) (λ b e. absurd cc) t c
  calm-step h old (Dialed port) new n none t c = unseen-calm h (Dialed port) old new (record { begins_ = λ a l o e. absurd cc; answers_ = λ a l o e. absurd cc }) (λ b e. absurd cc) t c
  calm-step h old (Executed xid call reply) new n none t c =
      unseen-calm h (Executed xid call reply) old new (record { begins_ = λ a l o e. absurd cc; answers_ = λ a l o e. absurd cc }) (λ b e. absurd cc) t c
  calm-step h old (Foreign call reply) new n none t c =
      unseen-calm h (Foreign call reply) old new (record { begins_ = λ a l o e. absurd cc; answers_ = λ a l o e. absurd cc }) (λ b e. absurd cc) t c
  calm-step h old (Flushed file from len) new n none t c =
      unseen-calm h (Flushed file from len) old new (record { begins_ = λ a l o e. absurd cc; answers_ = λ a l o e. absurd cc }) (λ b e. absurd cc) t c
  calm-step h old (Reboot verf) new n none t c = unseen-calm h (Reboot verf) old new (record { begins_ = λ a l o e. absurd cc; answers_ = λ a l o e. absurd cc }) (λ b e. absurd cc) t c
  calm-step h old (Clock ms) new n none t c = unseen-calm h (Clock ms) old new (record { begins_ = λ a l o e. absurd cc; answers_ = λ a l o e. absurd cc }) (λ b e. absurd cc) t c

  none-there : {X : Type 0} → (k : ℕ) (l : Lane) → slice_get {X = Lane} [] k ≡ Some l → X
  none-there k l there = absurd (let no_way : None ≡ Some l = there in cc)

  calm-laws : KeepsNoting (machine_of mounted) setup Calmed
  calm-laws = record {
    fresh = λ h v may up fresh. record {
      ready = λ k number value there. none-there k (record { number = number; state = Over (answers.Done value) }) (ap (λ (ls : List Lane). slice_get ls k) (sym fresh.lanes) ∙ there);
      noted = λ lane x slot size y value d. absurd (up.unbegun x lane d.line (ops.Truncate slot size) d.began);
    };
    steps = calm-step;
    loses = λ h v n shown c. record { ready = λ k number value there x slot size u. c.ready k number value (lost-lanes v (lost v) refl k number value there) x slot size u; noted = c.noted };
  }

  -- nothing is sent after the last record before the answer of a truncate that goes well
  pub answers-calm : (h : List Entry) (v : View) → Notes (machine_of mounted) setup h v → NotedCalm h
  answers-calm h v n = (notes-along (machine_of mounted) setup Calmed calm-laws h v n).noted
