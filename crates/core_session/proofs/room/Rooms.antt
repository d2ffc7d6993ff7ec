-- As many bytes are pending as those operations write whose bytes were added; and each operation that makes room found none as it began to.
use Rattle.core_session.proofs.Prelude.{◌≡◌, ◌≢◌, ◌<◌, ◌≤◌, ◌+◌, ◌⊎◌, inl, inr, ℕ, zero, suc, List, [], ◌∷◌, ◌++◌, length, replicate, map, remove, Bool, true, false, nat_eq, Option, Some, None, position, slice_get, slice_set, Err, refl, sym, ap, subst, ◌∙◌, arith, eqb-true, eqb-false, Waiting, Answer, Value, Entry, Began, Answered, Delivered, Op, IsWriter, At, IsBusy, UnderWay, RefusedWrite, At-below, At-cases, At-one, said_of, all_pending, Step, Shelf, Mounted, Machine, machine_of, Lane, Purpose, State, Busy, Over, Setup, IsIdle, numbers_of, with_state, IsRefused, Leads, Stirs, counted, StartsLane, TakesAt, AnswersAt, View, turn_at, unmade_turn, AreApart, Reaches, begins-unbegun, taken_one, Known, LanesKnown, quiet-facts, lanes-stay, lanes-begin, lanes-under-way, idle-numbers, at-set, at-push, get-push, get-remove, skip, to-map, under-back, set-other, by-place}
use Rattle.std.proofs.lemmas.List.{length-replicate}
use Rattle.world_model.specs.declared.answer.Answer.TheVariants as answers
use Rattle.world_model.specs.declared.op.Op.TheVariants as ops
use Rattle.claims.specs.Asks.{Placed, count_of, most_pending, write as a_write, fill as a_fill, put as a_put}
use Rattle.claims.specs.Touched.{write as refused_write, fill as refused_fill}
use Rattle.client_shelf.specs.declared.step.Step.TheVariants as nexts
use Rattle.core_answers.proofs.asks.Along.{IsPlain, KeepsAlong, reached-along}
use Rattle.core_session.proofs.room.Entered.{IsPut, IsDone, LaneSafe, Safe, Entered, silent-now, entered-with, entered-lanes, answered-now-put, safe-push, safe-remove, began-early, under-early}
use Rattle.core_session.proofs.room.Machines.{all-starts, all-resumes, all-takes}
use Rattle.core_session.proofs.room.Stages.{Stage, neither, storing, putting, settling, stage_of, going, over, outcome, outcome_of, Verdict, rests, ends, stores, puts, puts_over, crowds_store, crowds_put}
use Rattle.core_session.proofs.room.Writers.{Each, Elsewhere, Apart, counts, counts-cons, each-map, elsewhere-by}

-- ---- what is known of an operation that is under way, by its stage

abbrev pub IsStore : Op → Type 0
IsStore (ops.Write slot offset bytes) = Unit {0}
IsStore (ops.Fill slot offset count byte) = Unit {0}
IsStore op = ⊥

-- it writes nothing
abbrev pub IsNone : Op → Type 0
IsNone (ops.Write slot offset bytes) = ⊥
IsNone (ops.Fill slot offset count byte) = ⊥
IsNone (ops.Put path offset bytes) = ⊥
IsNone op = Unit {0}

abbrev pub Suits : Op → Stage → Type 0
Suits op neither = IsNone op
Suits op (storing size room) = IsStore op × (size ≤ count_of op)
Suits op (putting size room) = IsPut op × (size ≤ count_of op)
Suits op settling = IsPut op

-- before its bytes are added it is none of those whose bytes were
abbrev pub IsNew : List Placed → ℕ → Stage → Type 0
IsNew writers x neither = Elsewhere x writers
IsNew writers x (storing size room) = Elsewhere x writers
IsNew writers x (putting size room) = Elsewhere x writers
IsNew writers x settling = Unit {0}

-- Some of those whose bytes were added, the first of them, write too many bytes together with it.
pub record IsCrowded (writers : List Placed) (x : ℕ) (op : Op) : Type 0 where
  pub later : List Placed
  pub others : List Placed
  pub are : writers ≡ later ++ others
  pub elsewhere : Elsewhere x others
  pub full : most_pending < counts others + count_of op

abbrev pub NeedsIf : Bool → List Placed → ℕ → Op → Type 0
NeedsIf true writers x op = IsCrowded writers x op
NeedsIf false writers x op = Unit {0}

-- where it makes room, it needs it
abbrev pub Needs : List Placed → ℕ → Op → Stage → Type 0
Needs writers x op neither = Unit {0}
Needs writers x op (storing size room) = NeedsIf room writers x op
Needs writers x op (putting size room) = NeedsIf room writers x op
Needs writers x op settling = Unit {0}

pub record Stands (writers : List Placed) (x : ℕ) (op : Op) (stage : Stage) : Type 0 where
  pub suits : Suits op stage
  pub new : IsNew writers x stage
  pub needs : Needs writers x op stage

abbrev pub StateStands : List Entry → List Placed → ℕ → State → Type 0
StateStands h writers number (Busy machine) = (x : ℕ) (op : Op) → UnderWay h number x (length h) op → Stands writers x op (stage_of machine)
StateStands h writers number (Over answer) = Unit {0}

abbrev pub AllStand : List Entry → List Placed → List Lane → Type 0
AllStand h writers lanes = (k : ℕ) (lane : Lane) → slice_get lanes k ≡ Some lane → StateStands h writers lane.number lane.state

-- ---- what holds along a history

-- The writers are those whose bytes were added: no more bytes are pending than they write.
pub record RoomAt (h : List Entry) (lanes : List Lane) (pending : ℕ) : Type 0 where
  pub writers : List Placed
  pub apart : Apart writers
  pub each : Each (Entered h lanes) writers
  pub bound : pending ≤ counts writers
  pub stand : AllStand h writers lanes

abbrev pub Room : List Entry → View → Type 0
Room h v = RoomAt h v.lanes (all_pending v.shelf.back)

-- ---- states

going-one : (a b : Stage) → going a ≡ going b → a ≡ b
going-one a b e = cc

not-over : (a : Stage) (b : Answer) → going a ≡ over b → ⊥
not-over a b e = cc

over-one : (a b : Answer) → over a ≡ over b → a ≡ b
over-one a b e = cc

not-going : (a : Answer) (b : Stage) → over a ≡ going b → ⊥
not-going a b e = cc

stands-going : (h : List Entry) (writers : List Placed) (number : ℕ) (state : State) (stage : Stage) → outcome_of state ≡ going stage
    → ((x : ℕ) (op : Op) → UnderWay h number x (length h) op → Stands writers x op stage) → StateStands h writers number state
stands-going h writers number (Busy machine) stage e f = λ x op u. subst (Stands writers x op) (sym (going-one (stage_of machine) stage e)) (f x op u)
stands-going h writers number (Over answer) stage e f = tt

stands-over : (h : List Entry) (writers : List Placed) (number : ℕ) (state : State) (answer : Answer) → outcome_of state ≡ over answer → StateStands h writers number state
stands-over h writers number (Busy machine) answer e = absurd (not-over (stage_of machine) answer e)
stands-over h writers number (Over given) answer e = tt

done-over : (state : State) (value : Value) → outcome_of state ≡ over (answers.Done value) → IsDone state
done-over (Busy machine) value e = absurd (not-over (stage_of machine) (answers.Done value) e)
done-over (Over answer) value e = subst (λ (a : Answer). IsDone (Over a)) (sym (over-one answer (answers.Done value) e)) tt

-- ---- one more writer

more-crowded : (o : Placed) (writers : List Placed) (x : ℕ) (op : Op) → IsCrowded writers x op → IsCrowded (o ∷ writers) x op
more-crowded o writers x op c = record {
  later = o ∷ c.later;
  others = c.others;
  are = ap (λ (os : List Placed). o ∷ os) c.are;
  elsewhere = c.elsewhere;
  full = c.full;
}

more-needs : (room : Bool) (o : Placed) (writers : List Placed) (x : ℕ) (op : Op) → NeedsIf room writers x op → NeedsIf room (o ∷ writers) x op
more-needs true o writers x op c = more-crowded o writers x op c
more-needs false o writers x op c = tt

more-stands : (o : Placed) (writers : List Placed) (x : ℕ) (op : Op) (stage : Stage) → o.0 ≢ x → Stands writers x op stage → Stands (o ∷ writers) x op stage
more-stands o writers x op neither other s = record { suits = s.suits; new = (other, s.new); needs = tt }
more-stands o writers x op (storing size room) other s = record { suits = s.suits; new = (other, s.new); needs = more-needs room o writers x op s.needs }
more-stands o writers x op (putting size room) other s = record { suits = s.suits; new = (other, s.new); needs = more-needs room o writers x op s.needs }
more-stands o writers x op settling other s = record { suits = s.suits; new = tt; needs = tt }

more-state : (h : List Entry) (o : Placed) (writers : List Placed) (number : ℕ) (state : State) → ((x : ℕ) (op : Op) → UnderWay h number x (length h) op → o.0 ≢ x)
    → StateStands h writers number state → StateStands h (o ∷ writers) number state
more-state h o writers number (Busy machine) other s = λ x op u. more-stands o writers x op (stage_of machine) (other x op u) (s x op u)
more-state h o writers number (Over answer) other s = tt

-- ---- where it finds no room

crowded-now : (writers : List Placed) (x : ℕ) (op : Op) (old size : ℕ) → old ≤ counts writers → size ≤ count_of op → most_pending < old + size → Elsewhere x writers → IsCrowded writers x op
crowded-now writers x op old size bound few full elsewhere = record {
  later = [];
  others = writers;
  are = refl;
  elsewhere = elsewhere;
  full = omega (arith, bound, few, full);
}

crowds-storing : (writers : List Placed) (x : ℕ) (op : Op) (old size : ℕ) (room : Bool) → old ≤ counts writers → most_pending < old + size → Stands writers x op (storing size room)
    → Stands writers x op (storing size true)
crowds-storing writers x op old size room bound full s =
    record { suits = s.suits; new = s.new; needs = crowded-now writers x op old size bound s.suits.1 full s.new }

crowds-putting : (writers : List Placed) (x : ℕ) (op : Op) (old size : ℕ) (room : Bool) → old ≤ counts writers → most_pending < old + size → Stands writers x op (putting size room)
    → Stands writers x op (putting size true)
crowds-putting writers x op old size room bound full s =
    record { suits = s.suits; new = s.new; needs = crowded-now writers x op old size bound s.suits.1 full s.new }

-- ---- one lane comes to another state

store-writes : (op : Op) → IsStore op → IsWriter op
store-writes (ops.Write slot offset bytes) s = a_write slot offset bytes refl
store-writes (ops.Fill slot offset count byte) s = a_fill slot offset count byte refl
store-writes op s = absurd s

put-writes : (op : Op) → IsPut op → IsWriter op
put-writes (ops.Put path offset bytes) p = a_put path offset bytes refl
put-writes op p = absurd p

began-op : (a b c d : ℕ) (o p : Op) → Began a b o ≡ Began c d p → p ≡ o
began-op a b c d o p e = cc

began-lane : (a b c d : ℕ) (o p : Op) → Began a b o ≡ Began c d p → c ≡ a
began-lane a b c d o p e = cc

-- an operation that is under way wasn't refused
under-unrefused : (h : List Entry) (number x : ℕ) (op : Op) → UnderWay h number x (length h) op → RefusedWrite h x → ⊥
under-unrefused h number x op u (refused_write lane slot offset y bytes fault d) =
    u.unanswered (record { lane = lane; op = ops.Write slot offset bytes; y = y; answer = answers.Refused fault; ended = d; before = At-below h y (Answered lane d.line (answers.Refused fault)) d.answered })
under-unrefused h number x op u (refused_fill lane slot offset count byte y fault d) =
    u.unanswered (record { lane = lane; op = ops.Fill slot offset count byte; y = y; answer = answers.Refused fault; ended = d; before = At-below h y (Answered lane d.line (answers.Refused fault)) d.answered })

-- The lane at a place has come to another state, and the others are as they were.
pub record Sets (old : List Lane) (at number : ℕ) (machine : Machine) (state : State) (new : List Lane) : Type 0 where
  pub was : slice_get old at ≡ Some (record { number = number; state = Busy machine })
  pub is : slice_get new at ≡ Some (record { number = number; state = state })
  pub others : (k : ℕ) → k ≢ at → slice_get new k ≡ slice_get old k

module _ (h : List Entry) (old : List Lane) (apart : AreApart old) (at number : ℕ) (machine : Machine) (state : State) (new : List Lane) (s : Sets old at number machine state new) where
  -- a fact of the lane and of the others
  lane-by : (P : Lane → Type 0) → P (record { number = number; state = state }) → ((k : ℕ) (lane : Lane) → slice_get old k ≡ Some lane → k ≢ at → P lane)
      → (k : ℕ) (lane : Lane) → slice_get new k ≡ Some lane → P lane
  lane-by P own others = by-place P new at (record { number = number; state = state }) s.is own (λ k lane here other. others k lane (sym (s.others k other) ∙ here) other)

  set-safe : (x : ℕ) → Safe h old x → Safe h new x
  set-safe x safe = lane-by (LaneSafe h x)
      (λ op u. elim (safe at (record { number = number; state = Busy machine }) s.was op u) [ inl put ↦ inl put | inr never ↦ absurd never ])
      (λ k lane here other. safe k lane here)

  set-each : (writers : List Placed) → Each (Entered h old) writers → Each (Entered h new) writers
  set-each writers each = each-map (Entered h old) (Entered h new) (λ o e. entered-lanes h old new o e (set-safe o.0 e.safe)) writers each

  -- what is under way in another lane is another operation
  other-place : (x y : ℕ) (op p : Op) (k : ℕ) (lane : Lane) → slice_get old k ≡ Some lane → k ≢ at → UnderWay h number x (length h) op → UnderWay h lane.number y (length h) p → x ≢ y
  other-place x y op p k lane here other u t same =
      let there : At h x (Began lane.number t.line p) = subst (λ (n : ℕ). At h n (Began lane.number t.line p)) (sym same) t.began in
      let numbers = began-lane number u.line lane.number t.line op p (At-one h x (Began number u.line op) (Began lane.number t.line p) u.began there) in
      other (apart k at lane (record { number = number; state = Busy machine }) here s.was numbers)

  -- nothing is added
  as-they-were : (pending : ℕ) (r : RoomAt h old pending) (after : ℕ) → after ≤ pending → StateStands h r.writers number state → RoomAt h new after
  as-they-were pending r after less own = record {
    writers = r.writers;
    apart = r.apart;
    each = set-each r.writers r.each;
    bound = let most = r.bound in omega (arith, less, most);
    stand = lane-by (λ (lane : Lane). StateStands h r.writers lane.number lane.state) own (λ k lane here other. r.stand k lane here);
  }

  -- the bytes of the operation are added
  one-more : (pending : ℕ) (r : RoomAt h old pending) (after x : ℕ) (op : Op) → UnderWay h number x (length h) op → IsWriter op → Elsewhere x r.writers → after ≤ pending + count_of op
      → IsPut op ⊎ IsDone state → StateStands h ((x, op) ∷ r.writers) number state → RoomAt h new after
  one-more pending r after x op u writes elsewhere more safe own = record {
    writers = (x, op) ∷ r.writers;
    apart = (elsewhere, r.apart);
    each = (
      record {
        began = (number, u.line, u.began);
        writes = writes;
        unrefused = under-unrefused h number x op u;
        safe = lane-by (LaneSafe h x) (λ p t. same-op p t safe)
            (λ k lane here other p t. absurd (other-place x x op p k lane here other u t refl));
      },
      set-each r.writers r.each,
    );
    bound = let most = r.bound in let all = counts-cons (x, op) r.writers in omega (arith, more, most, all);
    stand = lane-by (λ (lane : Lane). StateStands h ((x, op) ∷ r.writers) lane.number lane.state) own
        (λ k lane here other. more-state h (x, op) r.writers lane.number lane.state (λ y p t. other-place x y op p k lane here other u t) (r.stand k lane here));
  }
    where
      same-op : (p : Op) → UnderWay h number x (length h) p → IsPut op ⊎ IsDone state → IsPut p ⊎ IsDone state
      same-op p t (inl put) = inl (subst IsPut (sym (began-op number u.line number t.line op p (At-one h x (Began number u.line op) (Began number t.line p) u.began t.began))) put)
      same-op p t (inr done) = inr done

  -- by the verdict on the step
  pub set-room : (pending after : ℕ) (r : RoomAt h old pending) (x : ℕ) (op : Op) → UnderWay h number x (length h) op → Verdict pending after (stage_of machine) (outcome_of state)
      → RoomAt h new after
  set-room pending after r x op u (rests less out) =
      as-they-were pending r after less
      (stands-going h r.writers number state (stage_of machine) out (r.stand at (record { number = number; state = Busy machine }) s.was))
  set-room pending after r x op u (ends answer less out) = as-they-were pending r after less (stands-over h r.writers number state answer out)
  set-room pending after r x op u (stores size room value more stage out) =
      let stands = subst (Stands r.writers x op) stage (r.stand at (record { number = number; state = Busy machine }) s.was x op u) in
      let few = stands.suits.1 in
      one-more pending r after x op u (store-writes op stands.suits.0) stands.new (omega (arith, more, few)) (inr (done-over state value out))
      (stands-over h ((x, op) ∷ r.writers) number state (answers.Done value) out)
  set-room pending after r x op u (puts size room more stage out) =
      let stands = subst (Stands r.writers x op) stage (r.stand at (record { number = number; state = Busy machine }) s.was x op u) in
      let few = stands.suits.1 in
      one-more pending r after x op u (put-writes op stands.suits.0) stands.new (omega (arith, more, few)) (inl stands.suits.0)
      (stands-going h ((x, op) ∷ r.writers) number state settling out
      (λ y p t. record {
        suits = (subst (Stands r.writers y p) stage (r.stand at (record { number = number; state = Busy machine }) s.was y p t)).suits.0;
        new = tt;
        needs = tt;
      }))
  set-room pending after r x op u (puts_over size room answer more stage out) =
      let stands = subst (Stands r.writers x op) stage (r.stand at (record { number = number; state = Busy machine }) s.was x op u) in
      let few = stands.suits.1 in
      one-more pending r after x op u (put-writes op stands.suits.0) stands.new (omega (arith, more, few)) (inl stands.suits.0)
      (stands-over h ((x, op) ∷ r.writers) number state answer out)
  set-room pending after r x op u (crowds_store size room less full stage out) =
      as-they-were pending r after less
      (stands-going h r.writers number state (storing size true) out
      (λ y p t. crowds-storing r.writers y p pending size room r.bound full
      (subst (Stands r.writers y p) stage (r.stand at (record { number = number; state = Busy machine }) s.was y p t))))
  set-room pending after r x op u (crowds_put size room less full stage out) =
      as-they-were pending r after less
      (stands-going h r.writers number state (putting size true) out
      (λ y p t. crowds-putting r.writers y p pending size room r.bound full
      (subst (Stands r.writers y p) stage (r.stand at (record { number = number; state = Busy machine }) s.was y p t))))

-- ---- the same in views

module _ (h : List Entry) (base v : View) (at number : ℕ) (machine after : Machine) (known : LanesKnown h base) (s : Sets base.lanes at number machine (Busy after) v.lanes) where
  its : (x : ℕ) (op : Op) → UnderWay h number x (length h) op → (state : State) (lanes : List Lane) (pending : ℕ) → Sets base.lanes at number machine state lanes → Room h base
      → Verdict (all_pending base.shelf.back) pending (stage_of machine) (outcome_of state) → RoomAt h lanes pending
  its x op u state lanes pending set r verdict =
      set-room h base.lanes (lanes-under-way h base known).apart at number machine state lanes set (all_pending base.shelf.back) pending r x op u verdict

  -- what the step of the machine leads to
  pub leads-room : (x : ℕ) (op : Op) → UnderWay h number x (length h) op → LanesKnown h v → (next : Step) (new : View) → Room h base
      → Verdict (all_pending base.shelf.back) (all_pending v.shelf.back) (stage_of machine) (outcome next (stage_of after)) → Leads v at number after next new → Room h new
  leads-room x op u later (nexts.Send call) new r verdict (inl m) = subst (Room h) (sym m.is) (its x op u (Busy after) v.lanes (all_pending v.shelf.back) s r verdict)
  leads-room x op u later (nexts.Send call) new r verdict (inr f) = subst (Room h) (sym f.is) (by f.next f.state f.leads
      (all-takes v.wsize (unmade_turn v) (turn_at v) (Err f.fault) after v.shelf f.next f.after f.left f.takes))
    where
      mid : Room h v
      mid = its x op u (Busy after) v.lanes (all_pending v.shelf.back) s r verdict

      to : (state : State) → Verdict (all_pending v.shelf.back) (all_pending f.left.back) (stage_of after) (outcome_of state) → Room h (with_state v at number state f.left)
      to state verdict =
          set-room h v.lanes (lanes-under-way h v later).apart at number after state (slice_set v.lanes at (record { number = number; state = state })) (record {
            was = s.is;
            is = at-set v.lanes at (record { number = number; state = Busy after }) (record { number = number; state = state }) s.is;
            others = λ k other. set-other v.lanes at k (record { number = number; state = state }) other;
          }) (all_pending v.shelf.back) (all_pending f.left.back) mid x op u verdict

      by : (next : Step) (state : State) → IsRefused f.after next state → Verdict (all_pending v.shelf.back) (all_pending f.left.back) (stage_of after) (outcome next (stage_of f.after))
          → Room h (with_state v at number state f.left)
      by (nexts.Send again) state is verdict = absurd is
      by nexts.Wait state is verdict =
          to state (subst (λ (t : State). Verdict (all_pending v.shelf.back) (all_pending f.left.back) (stage_of after) (outcome_of t)) (sym is) verdict)
      by (nexts.Done answer) state is verdict =
          to state (subst (λ (t : State). Verdict (all_pending v.shelf.back) (all_pending f.left.back) (stage_of after) (outcome_of t)) (sym is) verdict)
  leads-room x op u later nexts.Wait new r verdict is = subst (Room h) (sym is) (its x op u (Busy after) v.lanes (all_pending v.shelf.back) s r verdict)
  leads-room x op u later (nexts.Done answer) new r verdict is =
      subst (Room h) (sym is) (its x op u (Over answer) (slice_set v.lanes at (record { number = number; state = Over answer })) (all_pending v.shelf.back) (record {
        was = s.was;
        is = at-set v.lanes at (record { number = number; state = Busy after }) (record { number = number; state = Over answer }) s.is;
        others = λ k other. set-other v.lanes at k (record { number = number; state = Over answer }) other ∙ s.others k other;
      }) r verdict)

-- ---- entries that come

grown-state : (h : List Entry) (e : Entry) (writers : List Placed) (number : ℕ) (state : State) → ((line : ℕ) (o : Op) → e ≡ Began number line o → ⊥) → StateStands h writers number state
    → StateStands (h ++ e ∷ []) writers number state
grown-state h e writers number (Busy machine) other s = λ x op u. s x op (under-back h e number x op other u)
grown-state h e writers number (Over answer) other s = tt

grown-room : (h : List Entry) (e : Entry) (lanes : List Lane) (pending : ℕ) → IsPlain e → RoomAt h lanes pending → RoomAt (h ++ e ∷ []) lanes pending
grown-room h e lanes pending plain r = record {
  writers = r.writers;
  apart = r.apart;
  each = each-map (Entered h lanes) (Entered (h ++ e ∷ []) lanes)
      (λ o w. entered-with h e lanes lanes o w (silent-now h e o.0 plain.answered)
      (λ k lane there op u. w.safe k lane there op (under-early h e lane.number o.0 op (began-early h o w.began) u))) r.writers r.each;
  bound = r.bound;
  stand = λ k lane there. grown-state h e r.writers lane.number lane.state (λ line o. plain.began lane.number line o) (r.stand k lane there);
}

push-other : (lanes : List Lane) (a b : Lane) (k : ℕ) → k ≢ length lanes → slice_get (lanes ++ a ∷ []) k ≡ slice_get (lanes ++ b ∷ []) k
push-other [] a b zero other = absurd (other refl)
push-other [] a b (suc k) other = refl
push-other (l ∷ lanes) a b zero other = refl
push-other (l ∷ lanes) a b (suc k) other = push-other lanes a b k (λ same. other (ap suc same))

delivered-plain : (rec : List ℕ) → IsPlain (Delivered rec)
delivered-plain rec = record { began = λ lane line op e. cc; answered = λ lane line answer e. cc }

module _ (m : Mounted) (setup : Setup) where
  -- an operation as it begins
  first-stands : (lane : ℕ) (op : Op) (writers : List Placed) (x : ℕ) → Elsewhere x writers → Stands writers x op (stage_of (machine_of m lane op))
  first-stands lane (ops.Write slot offset bytes) writers x e = record { suits = (tt, omega arith); new = e; needs = tt }
  first-stands lane (ops.Fill slot offset count byte) writers x e =
      record { suits = (tt, (let made = length-replicate count byte in omega (arith, made))); new = e; needs = tt }
  first-stands lane (ops.Put path offset bytes) writers x e = record { suits = (tt, omega arith); new = e; needs = tt }
  first-stands lane (ops.OpenFile slot mode path) writers x e = record { suits = tt; new = e; needs = tt }
  first-stands lane (ops.Read slot offset count) writers x e = record { suits = tt; new = e; needs = tt }
  first-stands lane (ops.Sync slot) writers x e = record { suits = tt; new = e; needs = tt }
  first-stands lane (ops.Close slot) writers x e = record { suits = tt; new = e; needs = tt }
  first-stands lane (ops.Truncate slot size) writers x e = record { suits = tt; new = e; needs = tt }
  first-stands lane (ops.Stat path) writers x e = record { suits = tt; new = e; needs = tt }
  first-stands lane (ops.Access path bits) writers x e = record { suits = tt; new = e; needs = tt }
  first-stands lane (ops.MakeDir path) writers x e = record { suits = tt; new = e; needs = tt }
  first-stands lane (ops.RemoveDir path) writers x e = record { suits = tt; new = e; needs = tt }
  first-stands lane (ops.Remove path) writers x e = record { suits = tt; new = e; needs = tt }
  first-stands lane (ops.Rename from to) writers x e = record { suits = tt; new = e; needs = tt }
  first-stands lane (ops.Link from to) writers x e = record { suits = tt; new = e; needs = tt }
  first-stands lane (ops.SymLink path target) writers x e = record { suits = tt; new = e; needs = tt }
  first-stands lane (ops.ReadLink path) writers x e = record { suits = tt; new = e; needs = tt }
  first-stands lane (ops.List path) writers x e = record { suits = tt; new = e; needs = tt }

  -- ---- the steps

  stirs-room : (h : List Entry) (old new : View) (at : ℕ) → Known setup h old → Stirs old at new → Room h old → Room h new
  stirs-room h old new at k t r =
      let v = with_state old at t.number (Busy t.after) t.shelf in
      let busy = (lanes-under-way h old k.lanes).busy at (record { number = t.number; state = Busy t.machine }) t.there in
      leads-room h old v at t.number t.machine t.after k.lanes (record {
        was = t.there;
        is = at-set old.lanes at (record { number = t.number; state = Busy t.machine }) (record { number = t.number; state = Busy t.after }) t.there;
        others = λ j other. set-other old.lanes at j (record { number = t.number; state = Busy t.after }) other;
      }) busy.x busy.op busy.under_way ((lanes-stay h).sets old at t.number (Busy t.machine) (Busy t.after) t.shelf t.there k.lanes) t.next new r
      (all-resumes old.wsize (turn_at old) t.machine old.shelf t.next t.after t.shelf t.resumes) t.leads

  takes-room : (h : List Entry) (old new : View) (rec : List ℕ) (xid : ℕ) (call : Waiting Purpose) (at : ℕ) → Known setup h old
      → TakesAt (taken_one old xid) at call.purpose.sent (said_of call.purpose.proc rec) new → Room h old → Room (h ++ Delivered rec ∷ []) new
  takes-room h old new rec xid call at k t r =
      leads-room later base v at t.number t.machine t.after known (record {
        was = t.there;
        is = at-set old.lanes at (record { number = t.number; state = Busy t.machine }) (record { number = t.number; state = Busy t.after }) t.there;
        others = λ j other. set-other old.lanes at j (record { number = t.number; state = Busy t.after }) other;
      }) busy.x busy.op busy.under_way ((lanes-stay later).sets base at t.number (Busy t.machine) (Busy t.after) t.shelf t.there known) t.next new
      (grown-room h (Delivered rec) old.lanes (all_pending old.shelf.back) (delivered-plain rec) r)
      (all-takes base.wsize (turn_at base) call.purpose.sent (said_of call.purpose.proc rec) t.machine base.shelf t.next t.after t.shelf t.takes) t.leads
    where
      later : List Entry
      later = h ++ Delivered rec ∷ []

      base : View
      base = taken_one old xid

      v : View
      v = with_state (taken_one old xid) at t.number (Busy t.after) t.shelf

      known : LanesKnown later base
      known = quiet-facts h (Delivered rec) (numbers_of old.lanes) (λ number. refl) k.lanes

      busy : IsBusy later t.number (length later)
      busy = (lanes-under-way later base known).busy at (record { number = t.number; state = Busy t.machine }) t.there

  starts-room : (h : List Entry) (old new : View) (lane line : ℕ) (op : Op) (now : ℕ) → Known setup h old → IsIdle lane old.lanes
      → StartsLane (counted old now) lane (machine_of m lane op) new → Room h old → Room (h ++ Began lane line op ∷ []) new
  starts-room h old new lane line op now k idle t r =
      leads-room later base v (length old.lanes) lane (machine_of m lane op) t.after (pushed (Busy (machine_of m lane op))) (record {
        was = at-push old.lanes (record { number = lane; state = Busy (machine_of m lane op) });
        is = at-push old.lanes (record { number = lane; state = Busy t.after });
        others = λ j other. push-other old.lanes (record { number = lane; state = Busy t.after }) (record { number = lane; state = Busy (machine_of m lane op) }) j other;
      }) busy.x busy.op busy.under_way (pushed (Busy t.after)) t.next new first
      (all-starts old.wsize (turn_at (counted old now)) m lane op old.shelf t.next t.after t.shelf t.starts) t.leads
    where
      later : List Entry
      later = h ++ Began lane line op ∷ []

      base : View
      base = record (counted old now) { lanes = old.lanes ++ record { number = lane; state = Busy (machine_of m lane op) } ∷ [] }

      v : View
      v = record (counted old now) { lanes = old.lanes ++ record { number = lane; state = Busy t.after } ∷ []; shelf = t.shelf }

      pushed : (state : State) → LanesKnown later (record base { lanes = old.lanes ++ record { number = lane; state = state } ∷ [] })
      pushed state = lanes-begin h old lane line op k.lanes idle.other state

      busy : IsBusy later lane (length later)
      busy = (lanes-under-way later base (pushed (Busy (machine_of m lane op)))).busy (length old.lanes) (record { number = lane; state = Busy (machine_of m lane op) })
          (at-push old.lanes (record { number = lane; state = Busy (machine_of m lane op) }))

      none : (x : ℕ) (p : Op) → UnderWay h lane x (length h) p → ⊥
      none x p u = (lanes-under-way h old k.lanes).idle lane idle.other (record { x = x; op = p; under_way = u })

      began-of : (a b c d : ℕ) (o p : Op) → Began a b o ≡ Began c d p → a ≡ c
      began-of a b c d o p e = cc

      -- the operation that is under way there is the one that begins
      own : (x : ℕ) (p : Op) → UnderWay later lane x (length later) p → Stands r.writers x p (stage_of (machine_of m lane op))
      own x p u = by (At-cases h (Began lane line op) x (Began lane u.line p) u.began)
        where
          elsewhere : Elsewhere (length h) r.writers
          elsewhere = elsewhere-by (Entered h old.lanes) (length h) (λ o w same. let early = began-early h o w.began in absurd (omega (arith, early, same))) r.writers r.each

          by : At h x (Began lane u.line p) ⊎ ((x ≡ length h) × (Began lane line op ≡ Began lane u.line p)) → Stands r.writers x p (stage_of (machine_of m lane op))
          by (inl early) = absurd (none x p (under-early h (Began lane line op) lane x p (At-below h x (Began lane u.line p) early) u))
          by (inr here) =
              subst (λ (n : ℕ). Stands r.writers n p (stage_of (machine_of m lane op))) (sym here.0)
              (subst (λ (o : Op). Stands r.writers (length h) o (stage_of (machine_of m lane op))) (sym (began-op lane line lane u.line op p here.1))
              (first-stands lane op r.writers (length h) elsewhere))

      stand : AllStand later r.writers base.lanes
      stand j l there = by (get-push old.lanes (record { number = lane; state = Busy (machine_of m lane op) }) j l there)
        where
          by : (slice_get old.lanes j ≡ Some l) ⊎ ((j ≡ length old.lanes) × (l ≡ record { number = lane; state = Busy (machine_of m lane op) })) → StateStands later r.writers l.number l.state
          by (inl here) =
              grown-state h (Began lane line op) r.writers l.number l.state
              (λ n o e. idle-numbers lane (numbers_of old.lanes) idle.other j (to-map (λ (a : Lane). a.number) old.lanes j l here ∙ ap Some (sym (began-of lane line l.number n op o e))))
              (r.stand j l here)
          by (inr new_one) = subst (λ (a : Lane). StateStands later r.writers a.number a.state) (sym new_one.1) own

      first : Room later base
      first = record {
        writers = r.writers;
        apart = r.apart;
        each = each-map (Entered h old.lanes) (Entered later base.lanes)
            (λ o w. entered-with h (Began lane line op) old.lanes base.lanes o w (silent-now h (Began lane line op) o.0 (λ n l a e. cc))
            (safe-push h lane line op old.lanes o.0 (Busy (machine_of m lane op)) (began-early h o w.began) (λ p u. none o.0 p u) w.safe)) r.writers r.each;
        bound = r.bound;
        stand = stand;
      }

  answers-room : (h : List Entry) (old new : View) (at lane line : ℕ) (answer : Answer) → AnswersAt old at lane (Some answer) new → Room h old → Room (h ++ Answered lane line answer ∷ []) new
  answers-room h old new at lane line answer a r = subst (Room (h ++ Answered lane line answer ∷ [])) (sym a.is) (record {
    writers = r.writers;
    apart = r.apart;
    each = each-map (Entered h old.lanes) (Entered (h ++ Answered lane line answer ∷ []) (remove old.lanes at))
        (λ o w. entered-with h (Answered lane line answer) old.lanes (remove old.lanes at) o w (answered-now-put h old new at lane line answer o.0 a w.safe)
        (safe-remove h (Answered lane line answer) old.lanes at o.0 (began-early h o w.began) w.safe)) r.writers r.each;
    bound = r.bound;
    stand = λ k l there. grown-state h (Answered lane line answer) r.writers l.number l.state (λ n o e. cc) (r.stand (skip at k) l (get-remove old.lanes at k l there));
  })

  keeps-room : KeepsAlong (machine_of m) setup Room
  keeps-room = record {
    fresh = λ h v up fresh. record {
      writers = [];
      apart = tt;
      each = tt;
      bound = let none = ap all_pending fresh.back in omega (arith, none);
      stand = λ k lane there. absurd (let no_way : None ≡ Some lane = ap (λ (lanes : List Lane). slice_get lanes k) (sym fresh.lanes) ∙ there in cc);
    };
    stirs = stirs-room;
    starts = starts-room;
    takes = λ h old new rec xid call at k waits there t r. takes-room h old new rec xid call at k t r;
    answers = λ h old new at lane line answer k a r. answers-room h old new at lane line answer a r;
    same = λ h e old new plain lanes shelf r.
        subst (λ (ls : List Lane). RoomAt (h ++ e ∷ []) ls (all_pending new.shelf.back)) (sym lanes)
        (subst (λ (s : Shelf). RoomAt (h ++ e ∷ []) old.lanes (all_pending s.back)) (sym shelf) (grown-room h e old.lanes (all_pending old.shelf.back) plain r));
  }

  pub reached-room : (h : List Entry) (v : View) → Reaches (machine_of m) setup h v → v.lost ≡ false → Room h v
  reached-room h v r found = reached-along (machine_of m) (begins-unbegun m) setup Room keeps-room h v r found
