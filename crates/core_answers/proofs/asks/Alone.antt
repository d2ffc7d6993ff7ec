-- As long as a put is the only operation that began, it makes no room.
use Rattle.core_answers.proofs.Prelude.{◌≡◌, ◌⊎◌, inl, inr, ℕ, Bool, true, false, nat_eq, List, [], ◌∷◌, ◌++◌, length, Some, slice_get, slice_set, Err, refl, sym, ap, subst, ◌∙◌, arith, eqb-true, eqb-false, Entry, Began, Answered, Delivered, Answer, Op, At, At-grow, At-below, At-last, At-one, At-cases, length_last, Step, Send, Wait, Done, Shelf, Turn, walk_of, said_of, Mounted, Machine, front_of, machine_of, Starts, Lane, State, Busy, Over, Setup, with_state, IsRefused, Leads, counted, View, turn_at, unmade_turn, Reaches, begins-unbegun, taken_one, LanesKnown, quiet-facts, lanes-stay, lanes-begin, lanes-under-way, at-set, at-push, get-remove, skip, set-other, numbers_of}
use Rattle.write_back.specs.Files.{IsNothing}
use Rattle.world_model.specs.declared.op.Op.TheVariants as ops
use Rattle.core_answers.specs.asks.PutCalls.{IsAlone}
use Rattle.core_answers.proofs.asks.Along.{KeepsAlong, reached-along}
use Rattle.core_answers.proofs.asks.CalmPuts.{Calm, calm-resumes, calm-takes, calm-starts}
use Rattle.core_answers.proofs.asks.PutSteps.{begun-put}

-- a put began, and nothing else
pub record PutAlone (h : List Entry) : Type 0 where
  pub x : ℕ
  pub lane : ℕ
  pub line : ℕ
  pub path : List (List ℕ)
  pub offset : ℕ
  pub text : List ℕ
  pub began : At h x (Began lane line (ops.Put path offset text))
  pub alone : IsAlone h x (length h)

-- the operation of each lane is a put that makes no room
abbrev pub AllCalm : View → Type 0
AllCalm v = (k number : ℕ) (machine : Machine) → slice_get v.lanes k ≡ Some (record { number = number; state = Busy machine }) → Calm machine v.shelf.back

abbrev NoneBegun : List Entry → Type 0
NoneBegun h = (j lane line : ℕ) (op : Op) → At h j (Began lane line op) → ⊥

-- before it nothing is pending
pub record IsCalm (h : List Entry) (v : View) : Type 0 where
  pub before : NoneBegun h → IsNothing v.shelf.back
  pub then_ : PutAlone h → AllCalm v

-- ---- lanes

began-lane : (a b c d : ℕ) (o p : Op) → Began a b o ≡ Began c d p → a ≡ c
began-lane a b c d o p e = cc

began-op : (a b c d : ℕ) (o p : Op) → Began a b o ≡ Began c d p → o ≡ p
began-op a b c d o p e = cc

some-lane : (a b : Lane) → Some a ≡ Some b → a ≡ b
some-lane a b e = cc

busy-machine : (a b : Machine) → Busy a ≡ Busy b → a ≡ b
busy-machine a b e = cc

over-busy : (answer : Answer) (a : Machine) → Over answer ≡ Busy a → ⊥
over-busy answer a e = cc

one-lane : (h : List Entry) (v : View) → LanesKnown h v → PutAlone h → (at k : ℕ) (a b : Lane) → slice_get v.lanes at ≡ Some a → slice_get v.lanes k ≡ Some b → k ≡ at
one-lane h v known p at k a b here there =
    let under = lanes-under-way h v known in
    let u = under.busy at a here in
    let w = under.busy k b there in
    let first : At h p.x (Began a.number u.under_way.line u.op) =
    subst (λ (x : ℕ). At h x (Began a.number u.under_way.line u.op)) (p.alone u.x a.number u.under_way.line u.op u.under_way.began u.under_way.before) u.under_way.began in
    let other : At h p.x (Began b.number w.under_way.line w.op) =
    subst (λ (x : ℕ). At h x (Began b.number w.under_way.line w.op)) (p.alone w.x b.number w.under_way.line w.op w.under_way.began w.under_way.before) w.under_way.began in
    under.apart k at b a there here (began-lane b.number w.under_way.line a.number u.under_way.line w.op u.op
    (At-one h p.x (Began b.number w.under_way.line w.op) (Began a.number u.under_way.line u.op) other first))

-- no lane before an operation begins
none-lane : (h : List Entry) (v : View) → LanesKnown h v → NoneBegun h → (at : ℕ) (lane : Lane) → slice_get v.lanes at ≡ Some lane → ⊥
none-lane h v known none at lane there =
    let b = (lanes-under-way h v known).busy at lane there in none b.x lane.number b.under_way.line b.op b.under_way.began

-- ---- what a step leads to

all-calm : (v : View) (at number : ℕ) (machine : Machine) → ((k : ℕ) (lane : Lane) → slice_get v.lanes k ≡ Some lane → k ≡ at)
    → slice_get v.lanes at ≡ Some (record { number = number; state = Busy machine }) → Calm machine v.shelf.back → AllCalm v
all-calm v at number machine only there calm k n q here =
    let is = only k (record { number = n; state = Busy q }) here in
    let same : Some (record { number = number; state = Busy machine }) ≡ Some (record { number = n; state = Busy q }) = sym there ∙ ap (slice_get v.lanes) (sym is) ∙ here in
    let lanes = some-lane (record { number = number; state = Busy machine }) (record { number = n; state = Busy q }) same in
    subst (λ (a : Machine). Calm a v.shelf.back) (busy-machine machine q (ap (λ (l : Lane). l.state) lanes)) calm

set-calm : (v : View) (at number : ℕ) (was state : State) (shelf : Shelf) → ((k : ℕ) (lane : Lane) → slice_get v.lanes k ≡ Some lane → k ≡ at)
    → slice_get v.lanes at ≡ Some (record { number = number; state = was }) → ((q : Machine) → state ≡ Busy q → Calm q shelf.back) → AllCalm (with_state v at number state shelf)
set-calm v at number was state shelf only there calm k n q here = by (nat_eq k at) refl
  where
    now : Lane
    now = record { number = number; state = state }

    by : (b : Bool) → nat_eq k at ≡ b → Calm q shelf.back
    by true is =
        let same : Some now ≡ Some (record { number = n; state = Busy q }) =
        sym (at-set v.lanes at (record { number = number; state = was }) now there) ∙ ap (slice_get (slice_set v.lanes at now)) (sym (eqb-true k at is)) ∙ here in
        calm q (ap (λ (l : Lane). l.state) (some-lane now (record { number = n; state = Busy q }) same))
    by false is =
        let apart = eqb-false k at is in
        absurd (apart (only k (record { number = n; state = Busy q }) (sym (set-other v.lanes at k now apart) ∙ here)))

leads-calm : (h : List Entry) (v new : View) (at number : ℕ) (machine : Machine) (next : Step) → LanesKnown h v → PutAlone h
    → slice_get v.lanes at ≡ Some (record { number = number; state = Busy machine }) → Calm machine v.shelf.back → Leads v at number machine next new → AllCalm new
leads-calm h v new at number machine next known p there calm l = by next l
  where
    only : (k : ℕ) (lane : Lane) → slice_get v.lanes k ≡ Some lane → k ≡ at
    only k lane here = one-lane h v known p at k (record { number = number; state = Busy machine }) lane there here

    stays : AllCalm v
    stays = all-calm v at number machine only there calm

    refused : (next : Step) (after : Machine) (state : State) (left : Shelf) → Calm after left.back → IsRefused after next state → (q : Machine) → state ≡ Busy q → Calm q left.back
    refused (Send call) after state left k is q to = absurd is
    refused Wait after state left k is q to = subst (λ (a : Machine). Calm a left.back) (busy-machine after q (sym is ∙ to)) k
    refused (Done answer) after state left k is q to = absurd (over-busy answer q (sym is ∙ to))

    by : (n : Step) → Leads v at number machine n new → AllCalm new
    by (Send call) (inl m) = subst AllCalm (sym m.is) stays
    by (Send call) (inr f) = subst AllCalm (sym f.is)
        (set-calm v at number (Busy machine) f.state f.left only there
        (refused f.next f.after f.state f.left (calm-takes machine v.wsize (turn_at v) (unmade_turn v) (Err f.fault) v.shelf f.next f.after f.left calm f.takes) f.leads))
    by Wait is = subst AllCalm (sym is) stays
    by (Done answer) is = subst AllCalm (sym is) (set-calm v at number (Busy machine) (Over answer) v.shelf only there (λ q to. absurd (over-busy answer q to)))

-- ---- one entry more

alone-back : (h : List Entry) (e : Entry) → ((lane line : ℕ) (op : Op) → e ≡ Began lane line op → ⊥) → PutAlone (h ++ e ∷ []) → PutAlone h
alone-back h e plain p = record {
  x = p.x;
  lane = p.lane;
  line = p.line;
  path = p.path;
  offset = p.offset;
  text = p.text;
  began = by (At-cases h e p.x (Began p.lane p.line (ops.Put p.path p.offset p.text)) p.began);
  alone = λ j lane line op at low. p.alone j lane line op (At-grow h (e ∷ []) j (Began lane line op) at) (let more = length_last h e in omega (arith, low, more));
}
  where
    by : At h p.x (Began p.lane p.line (ops.Put p.path p.offset p.text)) ⊎ ((p.x ≡ length h) × (e ≡ Began p.lane p.line (ops.Put p.path p.offset p.text)))
        → At h p.x (Began p.lane p.line (ops.Put p.path p.offset p.text))
    by (inl there) = there
    by (inr now) = absurd (plain p.lane p.line (ops.Put p.path p.offset p.text) now.1)

none-back : (h : List Entry) (e : Entry) → NoneBegun (h ++ e ∷ []) → NoneBegun h
none-back h e none j lane line op at = none j lane line op (At-grow h (e ∷ []) j (Began lane line op) at)

module _ (m : Mounted) where
  starts-calm : (lane : ℕ) (op : Op) (path : List (List ℕ)) (offset : ℕ) (text : List ℕ) (wsize : ℕ) (turn : Turn) (old : Shelf) (next : Step) (new : Machine) (after : Shelf) → op ≡ ops.Put path offset text
      → IsNothing old.back → Starts wsize (machine_of m lane op) turn old next new after → Calm new after.back
  starts-calm lane op path offset text wsize turn old next new after is none s =
      let k = subst (λ (o : Op). Starts wsize (machine_of m lane o) turn old next new after) is s in
      subst (λ (n : Machine). Calm n after.back) (sym k.machine_is) (calm-starts wsize (walk_of m.root (front_of path)) (begun-put m lane path offset text turn) turn old next k.machine after none k.step)

  calm-laws : (setup : Setup) → KeepsAlong (machine_of m) setup IsCalm
  calm-laws setup = record {
    fresh = λ h v up fresh. record {
      before = λ none. subst IsNothing (sym fresh.back) (λ file. refl);
      then_ = λ p. absurd (up.unbegun p.x p.lane p.line (ops.Put p.path p.offset p.text) p.began);
    };
    stirs = λ h old new at known t i. record {
      before = λ none. absurd (none-lane h old known.lanes none at (record { number = t.number; state = Busy t.machine }) t.there);
      then_ = λ p.
          leads-calm h (with_state old at t.number (Busy t.after) t.shelf) new at t.number t.after t.next
          ((lanes-stay h).sets old at t.number (Busy t.machine) (Busy t.after) t.shelf t.there known.lanes) p
          (at-set old.lanes at (record { number = t.number; state = Busy t.machine }) (record { number = t.number; state = Busy t.after }) t.there)
          (calm-resumes t.machine old.wsize (turn_at old) old.shelf t.next t.after t.shelf (i.then_ p at t.number t.machine t.there) t.resumes) t.leads;
    };
    starts = λ h old new lane line op now known idle s i. record {
      before = λ none. absurd (none (length h) lane line op (At-last h (Began lane line op)));
      then_ = λ p.
          let later = h ++ Began lane line op ∷ [] in
          let more = length_last h (Began lane line op) in
          let here : length h ≡ p.x = p.alone (length h) lane line op (At-last h (Began lane line op)) (omega (arith, more)) in
          let op_is : op ≡ ops.Put p.path p.offset p.text =
          began-op lane line p.lane p.line op (ops.Put p.path p.offset p.text)
          (At-one later (length h) (Began lane line op) (Began p.lane p.line (ops.Put p.path p.offset p.text)) (At-last h (Began lane line op))
          (subst (λ (x : ℕ). At later x (Began p.lane p.line (ops.Put p.path p.offset p.text))) (sym here) p.began)) in
          let none : NoneBegun h =
          λ j n l o at.
          let low = At-below h j (Began n l o) at in
          let same : j ≡ p.x = p.alone j n l o (At-grow h (Began lane line op ∷ []) j (Began n l o) at) (omega (arith, low, more)) in
          absurd (omega (arith, low, same, here)) in
          let mid : View = record (counted old now) { lanes = old.lanes ++ record { number = lane; state = Busy s.after } ∷ []; shelf = s.shelf } in
          let lanes : LanesKnown later mid = lanes-begin h old lane line op known.lanes idle.other (Busy s.after) in
          leads-calm later mid new (length old.lanes) lane s.after s.next lanes p (at-push old.lanes (record { number = lane; state = Busy s.after }))
          (starts-calm lane op p.path p.offset p.text old.wsize (turn_at (counted old now)) old.shelf s.next s.after s.shelf op_is (i.before none) s.starts) s.leads;
    };
    takes = λ h old new rec xid call at known waits there o i.
        let later = h ++ Delivered rec ∷ [] in
        let lanes : LanesKnown later (taken_one old xid) = quiet-facts h (Delivered rec) (numbers_of old.lanes) (λ number. refl) known.lanes in
        record {
          before = λ none. absurd (none-lane later (taken_one old xid) lanes none at (record { number = o.number; state = Busy o.machine }) o.there);
          then_ = λ p.
              leads-calm later (with_state (taken_one old xid) at o.number (Busy o.after) o.shelf) new at o.number o.after o.next
              ((lanes-stay later).sets (taken_one old xid) at o.number (Busy o.machine) (Busy o.after) o.shelf o.there lanes) p
              (at-set old.lanes at (record { number = o.number; state = Busy o.machine }) (record { number = o.number; state = Busy o.after }) o.there)
              (calm-takes o.machine old.wsize call.purpose.sent (turn_at (taken_one old xid)) (said_of call.purpose.proc rec) old.shelf o.next o.after o.shelf
              (i.then_ (alone-back h (Delivered rec) (λ lane line op e. cc) p) at o.number o.machine o.there) o.takes) o.leads;
        };
    answers = λ h old new at lane line answer known a i. record {
      before = λ none. subst (λ (v : View). IsNothing v.shelf.back) (sym a.is) (i.before (none-back h (Answered lane line answer) none));
      then_ = λ p. subst AllCalm (sym a.is)
          (λ k n q here. i.then_ (alone-back h (Answered lane line answer) (λ l j o e. cc) p) (skip at k) n q (get-remove old.lanes at k (record { number = n; state = Busy q }) here));
    };
    same = λ h e old new plain lanes_are shelf_is i. record {
      before = λ none. subst (λ (s : Shelf). IsNothing s.back) (sym shelf_is) (i.before (none-back h e none));
      then_ = λ p k n q here.
          subst (λ (s : Shelf). Calm q s.back) (sym shelf_is) (i.then_ (alone-back h e plain.began p) k n q (ap (λ (ls : List Lane). slice_get ls k) (sym lanes_are) ∙ here));
    };
  }

  pub reached-calm : (setup : Setup) (h : List Entry) (v : View) → Reaches (machine_of m) setup h v → v.lost ≡ false → PutAlone h → AllCalm v
  reached-calm setup h v r found p = (reached-along (machine_of m) (begins-unbegun m) setup IsCalm (calm-laws setup) h v r found).then_ p
