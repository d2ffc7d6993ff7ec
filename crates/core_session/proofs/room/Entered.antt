-- A write or fill whose bytes became pending is never refused since: as long as it isn't answered its lane has a good answer.
use Rattle.core_session.proofs.Prelude.{◌≡◌, ◌≢◌, ◌<◌, ◌≤◌, ◌⊎◌, inl, inr, ℕ, List, [], ◌∷◌, ◌++◌, length, map, remove, Bool, true, false, Option, Some, None, MatchOption, position, slice_get, slice_set, refl, sym, ap, subst, ◌∙◌, arith, cases_lt, Answer, Fault, Entry, Began, Answered, Call, Op, IsWriter, At, Ended, UnderWay, RefusedWrite, write, fill, At-grow, At-below, At-back, At-one, At-cases, length_last, said_of, Step, Shelf, Machine, Lane, Purpose, State, Busy, Over, is_busy, lost_lane, with_state, Makes, Leads, Stirs, Moves, moves_none, moves_more, counted, StartsLane, BeginsIf, TakesAt, AnswersAt, View, at-set, at-push, get-push, get-remove, skip, ended-grow, set-other, by-place}
use Rattle.claims.specs.Asks.{Placed, HasBegan}
use Rattle.client_core.specs.Lanes.{lost_state}
use Rattle.client_core.specs.Steps.{IsBusyAt, Begins, HearsOwn, HearsFor}
use Rattle.core_facts.proofs.Lists.{in-map}
use Rattle.world_model.specs.declared.answer.Answer.TheVariants as answers
use Rattle.world_model.specs.declared.answer.Fault.TheVariants as faults
use Rattle.world_model.specs.declared.op.Op.TheVariants as ops
use Rattle.client_shelf.specs.declared.step.Step.TheVariants as nexts

-- ---- a fact that stays where lanes go on

-- The fact stays where a call is made, and where a lane with an operation under way comes to another state with another shelf.
pub record BusyStays (P : View → Type 0) : Type 0 where
  pub makes : (old new : View) (number : ℕ) (call : Call) → Makes old number call new → P old → P new
  pub sets : (old : View) (at number : ℕ) (machine : Machine) (state : State) (shelf : Shelf) → IsBusyAt old at number machine → P old
      → P (with_state old at number state shelf)

module _ (P : View → Type 0) (s : BusyStays P) where
  leads-stays : (old new : View) (at number : ℕ) (machine : Machine) (next : Step) → IsBusyAt old at number machine → Leads old at number machine next new → P old → P new
  leads-stays old new at number machine (nexts.Send call) there (inl made) p = s.makes old new number call made p
  leads-stays old new at number machine (nexts.Send call) there (inr refused) p = subst P (sym refused.is) (s.sets old at number machine refused.state refused.left there p)
  leads-stays old new at number machine nexts.Wait there is p = subst P (sym is) p
  leads-stays old new at number machine (nexts.Done answer) there is p = subst P (sym is) (s.sets old at number machine (Over answer) old.shelf there p)

  steps-stay : (old new : View) (at number : ℕ) (machine after : Machine) (shelf : Shelf) (next : Step) → IsBusyAt old at number machine
      → Leads (with_state old at number (Busy after) shelf) at number after next new → P old → P new
  steps-stay old new at number machine after shelf next there leads p =
      leads-stays (with_state old at number (Busy after) shelf) new at number after next
      (at-set old.lanes at (record { number = number; state = Busy machine }) (record { number = number; state = Busy after }) there) leads
      (s.sets old at number machine (Busy after) shelf there p)

  pub stirs-stay : (old new : View) (at : ℕ) → Stirs old at new → P old → P new
  stirs-stay old new at t p = steps-stay old new at t.number t.machine t.after t.shelf t.next t.there t.leads p

  pub takes-stay : (old new : View) (at : ℕ) (sent : _) (came : _) → TakesAt old at sent came new → P old → P new
  takes-stay old new at sent came t p = steps-stay old new at t.number t.machine t.after t.shelf t.next t.there t.leads p

  moves-stay : (old new : View) → Moves old new → P old → P new
  moves-stay _ _ (moves_none old new e) p = subst P (sym e) p
  moves-stay _ _ (moves_more old mid new at m room t first) p = stirs-stay mid new at t (moves-stay old mid m p)

  pub starts-stay : (old new : View) (number : ℕ) (machine : Machine)
      → ((state : State) (shelf : Shelf) → P (record old { lanes = old.lanes ++ record { number = number; state = state } ∷ []; shelf = shelf })) → StartsLane old number machine new → P new
  starts-stay old new number machine p t =
      leads-stays (record old { lanes = old.lanes ++ record { number = number; state = Busy t.after } ∷ []; shelf = t.shelf }) new (length old.lanes) number t.after t.next
      (at-push old.lanes (record { number = number; state = Busy t.after })) t.leads (p (Busy t.after) t.shelf)

  begins-by : (b : Bool) (old new : View) (number : ℕ) (machine : Machine) (now : ℕ)
      → ((state : State) (shelf : Shelf) → P (record (counted old now) { lanes = old.lanes ++ record { number = number; state = state } ∷ []; shelf = shelf })) → BeginsIf b old number machine now new → P new
  begins-by true old new number machine now p is = subst P (sym is) (p (Over (answers.Refused faults.Lost)) old.shelf)
  begins-by false old new number machine now p b = moves-stay b.first new b.rest (starts-stay (counted old now) b.first number machine p b.own)

  hears-own-stay : (old new : View) (rec : List ℕ) (purpose : Purpose) → HearsOwn old rec purpose new → P old → P new
  hears-own-stay old new rec purpose h p = by (position (is_busy purpose.lane) old.lanes) h
    where
      by : (o : Option ℕ) → MatchOption o (new ≡ old) (λ at. TakesAt old at purpose.sent (said_of purpose.proc rec) new) → P new
      by None is = subst P (sym is) p
      by (Some at) t = takes-stay old new at purpose.sent (said_of purpose.proc rec) t p

  pub begins-stay : (old new : View) (number : ℕ) (machine : Machine) (now : ℕ)
      → ((state : State) (shelf : Shelf) → P (record (counted old now) { lanes = old.lanes ++ record { number = number; state = state } ∷ []; shelf = shelf })) → Begins old number machine now new → P new
  begins-stay old new number machine now p b = begins-by old.lost old new number machine now p b

  pub hears-for-stay : (old new : View) (rec : List ℕ) (purpose : Purpose) → HearsFor old rec purpose new → P old → P new
  hears-for-stay old new rec purpose h p = moves-stay h.first new h.rest (hears-own-stay old h.first rec purpose h.own p)

-- ---- what is known of a writer

abbrev pub IsPut : Op → Type 0
IsPut (ops.Put path offset bytes) = Unit {0}
IsPut op = ⊥

-- it has ended well
abbrev pub IsDone : State → Type 0
IsDone (Busy machine) = ⊥
IsDone (Over (answers.Done value)) = Unit {0}
IsDone (Over (answers.Refused fault)) = ⊥

abbrev pub LaneSafe : List Entry → ℕ → Lane → Type 0
LaneSafe h x lane = (op : Op) → UnderWay h lane.number x (length h) op → IsPut op ⊎ IsDone lane.state

-- where the operation that began at the place x is under way, it is a put or has ended well
abbrev pub Safe : List Entry → List Lane → ℕ → Type 0
Safe h lanes x = (k : ℕ) (lane : Lane) → slice_get lanes k ≡ Some lane → LaneSafe h x lane

-- It began, writes, wasn't refused as a write or fill, and won't be.
pub record Entered (h : List Entry) (lanes : List Lane) (o : Placed) : Type 0 where
  pub began : HasBegan h o
  pub writes : IsWriter o.1
  pub unrefused : RefusedWrite h o.0 → ⊥
  pub safe : Safe h lanes o.0

-- ---- one entry more

ended-back : (h : List Entry) (e : Entry) (lane x : ℕ) (op : Op) (y : ℕ) (answer : Answer) → y < length h → Ended (h ++ e ∷ []) lane x op y answer → Ended h lane x op y answer
ended-back h e lane x op y answer within d = record {
  line = d.line;
  began = let early = d.later in At-back h (e ∷ []) x (Began lane d.line op) d.began (omega (arith, early, within));
  answered = At-back h (e ∷ []) y (Answered lane d.line answer) d.answered within;
  later = d.later;
  first = λ j a there after. d.first j a (At-grow h (e ∷ []) j (Answered lane d.line a) there) after;
}

-- the operation that is answered now was under way
answered-under : (h : List Entry) (lane line : ℕ) (given : Answer) (x : ℕ) (op : Op) (answer : Answer) → Ended (h ++ Answered lane line given ∷ []) lane x op (length h) answer
    → UnderWay h lane x (length h) op
answered-under h lane line given x op answer d = record {
  line = d.line;
  began = began;
  before = d.later;
  unanswered = λ a.
      let same = same-began a.lane a.ended.line lane d.line a.op op (At-one h x (Began a.lane a.ended.line a.op) (Began lane d.line op) a.ended.began began) in
      let there : At h a.y (Answered lane d.line a.answer) =
      subst (λ (n : ℕ). At h a.y (Answered n d.line a.answer)) same.0 (subst (λ (l : ℕ). At h a.y (Answered a.lane l a.answer)) same.1 a.ended.answered) in
      let late = d.first a.y a.answer (At-grow h (Answered lane line given ∷ []) a.y (Answered lane d.line a.answer) there) a.ended.later in
      let early = a.before in
      omega (arith, late, early);
}
  where
    same-began : (a b c e : ℕ) (o p : Op) → Began a b o ≡ Began c e p → (a ≡ c) × (b ≡ e)
    same-began a b c e o p q = (cc, cc)

    began : At h x (Began lane d.line op)
    began = let early = d.later in At-back h (Answered lane line given ∷ []) x (Began lane d.line op) d.began early

-- what is under way in a longer history was so before, where it had begun
pub under-early : (h : List Entry) (e : Entry) (number x : ℕ) (op : Op) → x < length h → UnderWay (h ++ e ∷ []) number x (length (h ++ e ∷ [])) op → UnderWay h number x (length h) op
under-early h e number x op early u = record {
  line = u.line;
  began = At-back h (e ∷ []) x (Began number u.line op) u.began early;
  before = early;
  unanswered = λ a. u.unanswered (record {
    lane = a.lane;
    op = a.op;
    y = a.y;
    answer = a.answer;
    ended = ended-grow h e a.lane x a.op a.y a.answer a.ended;
    before = let more = length_last h e in let low = a.before in omega (arith, more, low);
  });
}

safe-grows : (h : List Entry) (e : Entry) (lanes : List Lane) (x : ℕ) → x < length h → Safe h lanes x → Safe (h ++ e ∷ []) lanes x
safe-grows h e lanes x early s k lane there op u = s k lane there op (under-early h e lane.number x op early u)

pub began-early : (h : List Entry) (o : Placed) → HasBegan h o → o.0 < length h
began-early h o b = At-below h o.0 (Began b.0 b.1 o.1) b.2

-- which refusal of the operation comes with the last entry
abbrev pub RefusedNow : List Entry → Entry → ℕ → Type 0
RefusedNow h e x = (lane : ℕ) (op : Op) (fault : Fault) → Ended (h ++ e ∷ []) lane x op (length h) (answers.Refused fault) → IsPut op

refused-back : (h : List Entry) (e : Entry) (x : ℕ) → RefusedNow h e x → (RefusedWrite h x → ⊥) → RefusedWrite (h ++ e ∷ []) x → ⊥
refused-back h e x now none (write lane slot offset y bytes fault d) = by (cases_lt y (length h))
  where
    op : Op
    op = ops.Write slot offset bytes

    last : length h ≤ y → y ≡ length h
    last past =
        let low = At-below (h ++ e ∷ []) y (Answered lane d.line (answers.Refused fault)) d.answered in
        let more = length_last h e in
        omega (arith, low, more, past)

    by : (y < length h) ⊎ (length h ≤ y) → ⊥
    by (inl within) = none (write lane slot offset y bytes fault (ended-back h e lane x op y (answers.Refused fault) within d))
    by (inr past) = now lane op fault (subst (λ (n : ℕ). Ended (h ++ e ∷ []) lane x op n (answers.Refused fault)) (last past) d)
refused-back h e x now none (fill lane slot offset count byte y fault d) = by (cases_lt y (length h))
  where
    op : Op
    op = ops.Fill slot offset count byte

    last : length h ≤ y → y ≡ length h
    last past =
        let low = At-below (h ++ e ∷ []) y (Answered lane d.line (answers.Refused fault)) d.answered in
        let more = length_last h e in
        omega (arith, low, more, past)

    by : (y < length h) ⊎ (length h ≤ y) → ⊥
    by (inl within) = none (fill lane slot offset count byte y fault (ended-back h e lane x op y (answers.Refused fault) within d))
    by (inr past) = now lane op fault (subst (λ (n : ℕ). Ended (h ++ e ∷ []) lane x op n (answers.Refused fault)) (last past) d)

-- an entry that answers nothing refuses nothing
abbrev pub IsSilent : Entry → Type 0
IsSilent e = (lane line : ℕ) (answer : Answer) → e ≡ Answered lane line answer → ⊥

pub silent-now : (h : List Entry) (e : Entry) (x : ℕ) → IsSilent e → RefusedNow h e x
silent-now h e x silent lane op fault d = by (At-cases h e (length h) (Answered lane d.line (answers.Refused fault)) d.answered)
  where
    by : At h (length h) (Answered lane d.line (answers.Refused fault)) ⊎ ((length h ≡ length h) × (e ≡ Answered lane d.line (answers.Refused fault))) → IsPut op
    by (inl there) = let low = At-below h (length h) (Answered lane d.line (answers.Refused fault)) there in absurd (omega (arith, low))
    by (inr here) = absurd (silent lane d.line (answers.Refused fault) here.1)

-- with the lanes that stand after it
pub entered-with : (h : List Entry) (e : Entry) (lanes later : List Lane) (o : Placed) → Entered h lanes o → RefusedNow h e o.0 → Safe (h ++ e ∷ []) later o.0 → Entered (h ++ e ∷ []) later o
entered-with h e lanes later o w now safe = record {
  began = (w.began.0, w.began.1, At-grow h (e ∷ []) o.0 (Began w.began.0 w.began.1 o.1) w.began.2);
  writes = w.writes;
  unrefused = refused-back h e o.0 now w.unrefused;
  safe = safe;
}

-- with other lanes
pub entered-lanes : (h : List Entry) (lanes later : List Lane) (o : Placed) → Entered h lanes o → Safe h later o.0 → Entered h later o
entered-lanes h lanes later o w safe = record { began = w.began; writes = w.writes; unrefused = w.unrefused; safe = safe }

-- ---- lanes that go on

pub safe-stays : (h : List Entry) (x : ℕ) → BusyStays (λ (v : View). Safe h v.lanes x)
safe-stays h x = record {
  makes = λ old new number call m s. subst (λ (v : View). Safe h v.lanes x) (sym m.is) s;
  sets = λ old at number machine state shelf there s.
      by-place (LaneSafe h x) (slice_set old.lanes at (record { number = number; state = state })) at (record { number = number; state = state })
      (at-set old.lanes at (record { number = number; state = Busy machine }) (record { number = number; state = state }) there)
      (λ op u. own old at number machine state there s op u)
      (λ k lane here apart. s k lane (sym (set-other old.lanes at k (record { number = number; state = state }) apart) ∙ here));
}
  where
    own : (old : View) (at number : ℕ) (machine : Machine) (state : State) → IsBusyAt old at number machine → Safe h old.lanes x → (op : Op) → UnderWay h number x (length h) op
        → IsPut op ⊎ IsDone state
    own old at number machine state there s op u = elim (s at (record { number = number; state = Busy machine }) there op u) [ inl put ↦ inl put | inr never ↦ absurd never ]

-- a lane that begins, as the last
pub safe-push : (h : List Entry) (lane line : ℕ) (op : Op) (lanes : List Lane) (x : ℕ) (state : State) → x < length h
    → ((p : Op) → UnderWay h lane x (length h) p → ⊥) → Safe h lanes x → Safe (h ++ Began lane line op ∷ []) (lanes ++ record { number = lane; state = state } ∷ []) x
safe-push h lane line op lanes x state early idle s k l there p u = by (get-push lanes (record { number = lane; state = state }) k l there)
  where
    was : UnderWay h l.number x (length h) p
    was = under-early h (Began lane line op) l.number x p early u

    by : (slice_get lanes k ≡ Some l) ⊎ ((k ≡ length lanes) × (l ≡ record { number = lane; state = state })) → IsPut p ⊎ IsDone l.state
    by (inl here) = s k l here p was
    by (inr new) = absurd (idle p (subst (λ (n : ℕ). UnderWay h n x (length h) p) (ap (λ (m : Lane). m.number) new.1) was))

-- a lane that was answered
pub safe-remove : (h : List Entry) (e : Entry) (lanes : List Lane) (at x : ℕ) → x < length h → Safe h lanes x → Safe (h ++ e ∷ []) (remove lanes at) x
safe-remove h e lanes at x early s k l there op u = s (skip at k) l (get-remove lanes at k l there) op (under-early h e l.number x op early u)

-- the refusal that its lane gives
pub answered-now-put : (h : List Entry) (old new : View) (at lane line : ℕ) (answer : Answer) (x : ℕ) → AnswersAt old at lane (Some answer) new → Safe h old.lanes x
    → RefusedNow h (Answered lane line answer) x
answered-now-put h old new at lane line answer x a s number op fault d = by (At-cases h (Answered lane line answer) (length h) (Answered number d.line (answers.Refused fault)) d.answered)
  where
    answer-of : (p q : Answer) → Some p ≡ Some q → q ≡ p
    answer-of p q e = cc

    same : (a b c f : ℕ) (p q : Answer) → Answered a b p ≡ Answered c f q → (c ≡ a) × (p ≡ q)
    same a b c f p q e = (cc, cc)

    of : (a.answer ≡ answers.Refused fault) → IsPut op ⊎ IsDone (Over a.answer) → IsPut op
    of refused (inl put) = put
    of refused (inr done) = absurd (subst (λ (b : Answer). IsDone (Over b)) refused done)

    by : At h (length h) (Answered number d.line (answers.Refused fault)) ⊎ ((length h ≡ length h) × (Answered lane line answer ≡ Answered number d.line (answers.Refused fault))) → IsPut op
    by (inl there) = let low = At-below h (length h) (Answered number d.line (answers.Refused fault)) there in absurd (omega (arith, low))
    by (inr here) =
        let is = same lane line number d.line answer (answers.Refused fault) here.1 in
        let mine : Ended (h ++ Answered lane line answer ∷ []) lane x op (length h) (answers.Refused fault) =
        subst (λ (n : ℕ). Ended (h ++ Answered lane line answer ∷ []) n x op (length h) (answers.Refused fault)) is.0 d in
        let under = answered-under h lane line answer x op (answers.Refused fault) mine in
        of (answer-of answer a.answer a.gives ∙ is.1) (s at (record { number = lane; state = Over a.answer }) a.there op under)

-- lanes of a session that is lost
pub safe-lost : (h : List Entry) (lanes : List Lane) (x : ℕ) → Safe h lanes x → Safe h (map lost_lane lanes) x
safe-lost h lanes x s k lane there op u =
    let m = in-map lost_lane lanes k lane there in
    subst (λ (l : Lane). IsPut op ⊎ IsDone l.state) (sym m.2)
    (by m.0.state (s k m.0 m.1 op (subst (λ (l : Lane). UnderWay h l.number x (length h) op) m.2 u)))
  where
    by : (state : State) → IsPut op ⊎ IsDone state → IsPut op ⊎ IsDone (lost_state state)
    by (Busy machine) (inl put) = inl put
    by (Busy machine) (inr never) = absurd never
    by (Over answer) done = done
