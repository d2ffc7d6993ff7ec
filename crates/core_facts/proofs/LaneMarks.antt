-- The lanes of the core are those that have an operation under way.
use Rattle.core_facts.proofs.Prelude.{◌≡◌, ◌≢◌, ◌<◌, ◌≤◌, ◌⊎◌, inl, inr, ℕ, zero, suc, List, [], ◌∷◌, ◌++◌, length, map, remove, slice_get, true, false, nat_eq, Some, None, refl, sym, ap, subst, ◌∙◌, arith, append_assoc, Answer, Entry, Began, Answered, Dialed, Sent, Executed, Foreign, Flushed, Reboot, Delivered, Failed, Clock, Op, At, At-grow, At-below, At-last, At-cases, At-one, Machine, Lane, State, Over, Setup, IsFresh, lost_lane, IsOther, numbers_of, View, IsSetUp, StepsTo, Reaches, begins, goes, loses, last_reading}
use Rattle.std.proofs.Common.{append-nil}
use Rattle.core_facts.specs.Reaches.{IsOpenLine}
use Rattle.world_model.specs.Operations.{AnsweredBefore}
use borrow.Author.Tests.{eqb-true, eqb-false}
use Rattle.world_model.specs.Follows.{marks_of, Alternates}
use Rattle.world_model.specs.LanesTogether.{IsBusy}
use Rattle.core_facts.specs.Lanes.{AreUnderWay}
use Rattle.core_facts.proofs.Cases.{Heard, dropped, replied, heard, sent_now, FailedNow, goes_on, gives_up, failed_now, answered_now, taken_one}
use Rattle.core_facts.proofs.Grown.{longer}
use Rattle.core_facts.proofs.Lists.{map-set, map-push, map-remove, to-map, skip, get-remove, still-there, get-push, at-push, before-push, skip-apart, skip-other}
use Rattle.core_facts.proofs.Marks.{marks-push, Closed, closed_none, closed-alternates, open-alternates, closed-push, last-same, front-same, not-began, not-answered, began-other, answered-other, began-own, answered-own, answered-grow}
use Rattle.core_facts.proofs.Walks.{Stays, begins-stay, hears-for-stay}

-- ---- one lane

-- an operation of the lane is under way, and all before it were answered
pub record Runs (h : List Entry) (number : ℕ) : Type 0 where
  pub x : ℕ
  pub line : ℕ
  pub op : Op
  pub began : At h x (Began number line op)
  pub unanswered : (j : ℕ) (answer : Answer) → At h j (Answered number line answer) → x < j → ⊥
  pub others : (k other : ℕ) (o : Op) → At h k (Began number other o) → (k ≡ x) ⊎ AnsweredBefore h k (length h)
  pub before : List Entry
  pub closed : Closed before
  pub marks : marks_of number h ≡ before ++ Began number line op ∷ []

-- all operations of the lane were answered
pub record Rests (h : List Entry) (number : ℕ) : Type 0 where
  pub answered : (k line : ℕ) (op : Op) → At h k (Began number line op) → AnsweredBefore h k (length h)
  pub closed : Closed (marks_of number h)

marks-stay : (h : List Entry) (e : Entry) (number : ℕ) → marks_of number (e ∷ []) ≡ [] → marks_of number (h ++ e ∷ []) ≡ marks_of number h
marks-stay h e number silent = marks-push number h e ∙ ap (λ (t : List Entry). marks_of number h ++ t) silent ∙ append-nil (marks_of number h)

shorter : (h : List Entry) (e : Entry) → length h ≤ length (h ++ e ∷ [])
shorter h e = let l = longer h e in omega (arith, l)

runs-grow : (h : List Entry) (e : Entry) (number : ℕ) → marks_of number (e ∷ []) ≡ [] → Runs h number → Runs (h ++ e ∷ []) number
runs-grow h e number silent r = record {
  x = r.x;
  line = r.line;
  op = r.op;
  began = At-grow h (e ∷ []) r.x (Began number r.line r.op) r.began;
  unanswered = λ j answer at after. elim (At-cases h e j (Answered number r.line answer) at) [
    | inl p ↦ r.unanswered j answer p after
    | inr q ↦ not-answered number e silent r.line answer q.1
  ];
  others = λ k line op at. by k line op (At-cases h e k (Began number line op) at);
  before = r.before;
  closed = r.closed;
  marks = marks-stay h e number silent ∙ r.marks;
}
  where
    by : (k line : ℕ) (op : Op) → At h k (Began number line op) ⊎ ((k ≡ length h) × (e ≡ Began number line op)) → (k ≡ r.x) ⊎ AnsweredBefore (h ++ e ∷ []) k (length (h ++ e ∷ []))
    by k line op (inl p) = elim (r.others k line op p) [ inl same ↦ inl same | inr a ↦ inr (answered-grow h e k (length h) (length (h ++ e ∷ [])) (shorter h e) a) ]
    by k line op (inr q) = absurd (not-began number e silent line op q.1)

rests-grow : (h : List Entry) (e : Entry) (number : ℕ) → marks_of number (e ∷ []) ≡ [] → Rests h number → Rests (h ++ e ∷ []) number
rests-grow h e number silent r = record {
  answered = λ k line op at. elim (At-cases h e k (Began number line op) at) [
    | inl p ↦ answered-grow h e k (length h) (length (h ++ e ∷ [])) (shorter h e) (r.answered k line op p)
    | inr q ↦ absurd (not-began number e silent line op q.1)
  ];
  closed = subst Closed (sym (marks-stay h e number silent)) r.closed;
}

-- the lane begins
begins-now : (h : List Entry) (number line : ℕ) (op : Op) → Rests h number → Runs (h ++ Began number line op ∷ []) number
begins-now h number line op r = record {
  x = length h;
  line = line;
  op = op;
  began = At-last h (Began number line op);
  unanswered = λ j answer at after. elim (At-cases h (Began number line op) j (Answered number line answer) at) [
    | inl p ↦ let below = At-below h j (Answered number line answer) p in absurd (omega (arith, below, after))
    | inr q ↦ let is = q.0 in absurd (omega (arith, is, after))
  ];
  others = λ k other o at. elim (At-cases h (Began number line op) k (Began number other o) at) [
    | inl p ↦ inr (answered-grow h (Began number line op) k (length h) (length (h ++ Began number line op ∷ [])) (shorter h (Began number line op)) (r.answered k other o p))
    | inr q ↦ inl q.0
  ];
  before = marks_of number h;
  closed = r.closed;
  marks = marks-push number h (Began number line op) ∙ ap (λ (t : List Entry). marks_of number h ++ t) (began-own number line op);
}

-- the lane answers the line that it began
began-line : (number line other : ℕ) (op o : Op) → Began number line op ≡ Began number other o → line ≡ other
began-line number line other op o e = cc

answers-now : (h : List Entry) (number line : ℕ) (answer : Answer) → IsOpenLine h number line → Runs h number → Rests (h ++ Answered number line answer ∷ []) number
answers-now h number line answer o r = record { answered = each; closed = closed }
  where
    same : line ≡ r.line
    same = began-line number line r.line o.op r.op (last-same o.before r.before (Began number line o.op) (Began number r.line r.op) (sym o.is ∙ r.marks))

    own : AnsweredBefore (h ++ Answered number line answer ∷ []) r.x (length (h ++ Answered number line answer ∷ []))
    own = record {
      lane = number;
      op = r.op;
      y = length h;
      answer = answer;
      ended = record {
        line = line;
        began = At-grow h (Answered number line answer ∷ []) r.x (Began number line r.op) (subst (λ (n : ℕ). At h r.x (Began number n r.op)) (sym same) r.began);
        answered = At-last h (Answered number line answer);
        later = At-below h r.x (Began number r.line r.op) r.began;
        first = λ j other at after. elim (At-cases h (Answered number line answer) j (Answered number line other) at) [
          | inl p ↦ absurd (r.unanswered j other (subst (λ (n : ℕ). At h j (Answered number n other)) same p) after)
          | inr q ↦ let is = q.0 in omega (arith, is)
        ];
      };
      before = longer h (Answered number line answer);
    }

    no-mark : (l m : ℕ) (op : Op) (a : Answer) → Answered l m a ≡ Began number m op → ⊥
    no-mark l m op a is = cc

    each : (k other : ℕ) (op : Op) → At (h ++ Answered number line answer ∷ []) k (Began number other op) → AnsweredBefore (h ++ Answered number line answer ∷ []) k (length (h ++ Answered number line answer ∷ []))
    each k other op at = by (At-cases h (Answered number line answer) k (Began number other op) at)
      where
        of : (k ≡ r.x) ⊎ AnsweredBefore h k (length h) → AnsweredBefore (h ++ Answered number line answer ∷ []) k (length (h ++ Answered number line answer ∷ []))
        of (inl is) = subst (λ (n : ℕ). AnsweredBefore (h ++ Answered number line answer ∷ []) n (length (h ++ Answered number line answer ∷ []))) (sym is) own
        of (inr a) = answered-grow h (Answered number line answer) k (length h) (length (h ++ Answered number line answer ∷ [])) (shorter h (Answered number line answer)) a

        by : At h k (Began number other op) ⊎ ((k ≡ length h) × (Answered number line answer ≡ Began number other op)) → AnsweredBefore (h ++ Answered number line answer ∷ []) k (length (h ++ Answered number line answer ∷ []))
        by (inl p) = of (r.others k other op p)
        by (inr q) = absurd (let no_way : Answered number line answer ≡ Began number other op = q.1 in cc)

    front : r.before ≡ o.before
    front = sym (front-same o.before r.before (Began number line o.op) (Began number r.line r.op) (sym o.is ∙ r.marks))

    closed : Closed (marks_of number (h ++ Answered number line answer ∷ []))
    closed =
        let whole : marks_of number (h ++ Answered number line answer ∷ []) ≡ o.before ++ (Began number line o.op ∷ Answered number line answer ∷ []) =
        marks-push number h (Answered number line answer)
        ∙ ap (λ (t : List Entry). marks_of number h ++ t) (answered-own number line answer)
        ∙ ap (λ (t : List Entry). t ++ Answered number line answer ∷ []) o.is
        ∙ append_assoc o.before (Began number line o.op ∷ []) (Answered number line answer ∷ []) in
        subst Closed (sym whole) (closed-push o.before number line o.op answer (subst Closed front r.closed))

-- ---- all lanes, by their numbers

pub record LaneFacts (h : List Entry) (numbers : List ℕ) : Type 0 where
  pub busy : (at number : ℕ) → slice_get numbers at ≡ Some number → Runs h number
  pub rest : (number : ℕ) → ((at : ℕ) → slice_get numbers at ≡ Some number → ⊥) → Rests h number
  pub apart : (at other number : ℕ) → slice_get numbers at ≡ Some number → slice_get numbers other ≡ Some number → at ≡ other

abbrev pub number_of : Lane → ℕ
number_of lane = lane.number

one-number : (a b : ℕ) → Some a ≡ Some b → a ≡ b
one-number a b e = cc

-- an entry that is no mark
pub quiet-facts : (h : List Entry) (e : Entry) (numbers : List ℕ) → ((number : ℕ) → marks_of number (e ∷ []) ≡ []) → LaneFacts h numbers → LaneFacts (h ++ e ∷ []) numbers
quiet-facts h e numbers silent f = record {
  busy = λ at number there. runs-grow h e number (silent number) (f.busy at number there);
  rest = λ number none. rests-grow h e number (silent number) (f.rest number none);
  apart = f.apart;
}

-- a lane that has no operation begins one
begins-facts : (h : List Entry) (numbers : List ℕ) (lane line : ℕ) (op : Op) → ((at : ℕ) → slice_get numbers at ≡ Some lane → ⊥) → LaneFacts h numbers → LaneFacts (h ++ Began lane line op ∷ []) (numbers ++ lane ∷ [])
begins-facts h numbers lane line op idle f = record { busy = busy; rest = rest; apart = apart }
  where
    other : (at number : ℕ) → slice_get numbers at ≡ Some number → lane ≢ number
    other at number there same = idle at (there ∙ ap Some (sym same))

    busy : (at number : ℕ) → slice_get (numbers ++ lane ∷ []) at ≡ Some number → Runs (h ++ Began lane line op ∷ []) number
    busy at number there = by (get-push numbers lane at number there)
      where
        by : (slice_get numbers at ≡ Some number) ⊎ ((at ≡ length numbers) × (number ≡ lane)) → Runs (h ++ Began lane line op ∷ []) number
        by (inl p) = runs-grow h (Began lane line op) number (began-other number lane line op (other at number p)) (f.busy at number p)
        by (inr q) = subst (Runs (h ++ Began lane line op ∷ [])) (sym q.1) (begins-now h lane line op (f.rest lane idle))

    rest : (number : ℕ) → ((at : ℕ) → slice_get (numbers ++ lane ∷ []) at ≡ Some number → ⊥) → Rests (h ++ Began lane line op ∷ []) number
    rest number none =
        rests-grow h (Began lane line op) number (began-other number lane line op (λ same. none (length numbers) (at-push numbers lane ∙ ap Some same)))
        (f.rest number (λ at there. none at (before-push numbers lane at number there)))

    apart : (at k number : ℕ) → slice_get (numbers ++ lane ∷ []) at ≡ Some number → slice_get (numbers ++ lane ∷ []) k ≡ Some number → at ≡ k
    apart at k number here there = by (get-push numbers lane at number here) (get-push numbers lane k number there)
      where
        by : (slice_get numbers at ≡ Some number) ⊎ ((at ≡ length numbers) × (number ≡ lane)) → (slice_get numbers k ≡ Some number) ⊎ ((k ≡ length numbers) × (number ≡ lane)) → at ≡ k
        by (inl p) (inl q) = f.apart at k number p q
        by (inl p) (inr q) = absurd (other at number p (sym q.1))
        by (inr p) (inl q) = absurd (other k number q (sym p.1))
        by (inr p) (inr q) = p.0 ∙ sym q.0

-- the lane at a place answers
answers-facts : (h : List Entry) (numbers : List ℕ) (at lane line : ℕ) (answer : Answer) → slice_get numbers at ≡ Some lane → IsOpenLine h lane line → LaneFacts h numbers
    → LaneFacts (h ++ Answered lane line answer ∷ []) (remove numbers at)
answers-facts h numbers at lane line answer there open_line f = record { busy = busy; rest = rest; apart = apart }
  where
    busy : (k number : ℕ) → slice_get (remove numbers at) k ≡ Some number → Runs (h ++ Answered lane line answer ∷ []) number
    busy k number here =
        let was : slice_get numbers (skip at k) ≡ Some number = get-remove numbers at k number here in
        runs-grow h (Answered lane line answer) number
        (answered-other number lane line answer (λ same. skip-other at k (f.apart (skip at k) at number was (there ∙ ap Some same))))
        (f.busy (skip at k) number was)

    rest : (number : ℕ) → ((k : ℕ) → slice_get (remove numbers at) k ≡ Some number → ⊥) → Rests (h ++ Answered lane line answer ∷ []) number
    rest number none = (elim (nat_eq lane number) as (λ b. nat_eq lane number ≡ b → Rests (h ++ Answered lane line answer ∷ []) number) [
      | true ↦ λ d. subst (Rests (h ++ Answered lane line answer ∷ [])) (eqb-true lane number d) (answers-now h lane line answer open_line (f.busy at lane there))
      | false ↦ λ d.
          let differs : lane ≢ number = eqb-false lane number d in
          rests-grow h (Answered lane line answer) number (answered-other number lane line answer differs)
          (f.rest number (λ k here.
          let m = still-there numbers at k number (λ same. differs (one-number lane number (sym there ∙ ap (slice_get numbers) (sym same) ∙ here))) here in
          none m.0 m.1))
    ]) refl

    apart : (k m number : ℕ) → slice_get (remove numbers at) k ≡ Some number → slice_get (remove numbers at) m ≡ Some number → k ≡ m
    apart k m number p q = skip-apart at k m (f.apart (skip at k) (skip at m) number (get-remove numbers at k number p) (get-remove numbers at m number q))

-- ---- the steps of the core

abbrev pub LanesKnown : List Entry → View → Type 0
LanesKnown h v = LaneFacts h (numbers_of v.lanes)

same-lanes : (h : List Entry) (old new : View) → new.lanes ≡ old.lanes → LanesKnown h old → LanesKnown h new
same-lanes h old new same f = subst (λ (lanes : List Lane). LaneFacts h (numbers_of lanes)) (sym same) f

pub lanes-stay : (h : List Entry) → Stays (LanesKnown h)
lanes-stay h = record {
  makes = λ old new number call m f. same-lanes h old new (ap (λ (v : View). v.lanes) m.is) f;
  sets = λ old at number was state shelf there f.
      subst (LaneFacts h) (sym (map-set number_of old.lanes at (record { number = number; state = was }) (record { number = number; state = state }) there refl)) f;
}

lost-numbers : (lanes : List Lane) → numbers_of (map lost_lane lanes) ≡ numbers_of lanes
lost-numbers [] = refl
lost-numbers (lane ∷ lanes) = ap (λ (ns : List ℕ). lane.number ∷ ns) (lost-numbers lanes)

lost-facts : (h : List Entry) (old new : View) → new.lanes ≡ map lost_lane old.lanes → LanesKnown h old → LanesKnown h new
lost-facts h old new is f = subst (LaneFacts h) (sym (ap numbers_of is ∙ lost-numbers old.lanes)) f

heard-lanes : (h : List Entry) (old : View) (rec : List ℕ) (new : View) → Heard old rec new → LanesKnown h old → LanesKnown h new
heard-lanes h old rec new (dropped none is) f = same-lanes h old new (ap (λ (v : View). v.lanes) is) f
heard-lanes h old rec new (replied xid call named waits t) f = hears-for-stay (LanesKnown h) (lanes-stay h) (taken_one old xid) new rec call.purpose t f

failed-lanes : (h : List Entry) (old new : View) → FailedNow old new → LanesKnown h old → LanesKnown h new
failed-lanes h old new (goes_on none is) f = same-lanes h old new (ap (λ (v : View). v.lanes) is) f
failed-lanes h old new (gives_up xid up is) f = lost-facts h old new (ap (λ (v : View). v.lanes) is) f

pub idle-numbers : (number : ℕ) (numbers : List ℕ) → IsOther number numbers → (at : ℕ) → slice_get numbers at ≡ Some number → ⊥
idle-numbers number [] other at there = absurd (cc)
idle-numbers number (n ∷ ns) other zero there = other.0 (one-number n number there)
idle-numbers number (n ∷ ns) other (suc at) there = idle-numbers number ns other.1 at there

stays-quiet : (h : List Entry) (e : Entry) (old new : View) → ((number : ℕ) → marks_of number (e ∷ []) ≡ []) → new ≡ old → LanesKnown h old → LanesKnown (h ++ e ∷ []) new
stays-quiet h e old new silent is f = same-lanes (h ++ e ∷ []) old new (ap (λ (v : View). v.lanes) is) (quiet-facts h e (numbers_of old.lanes) silent f)

-- with the lane that begins
pub lanes-begin : (h : List Entry) (v : View) (lane line : ℕ) (op : Op) → LanesKnown h v → IsOther lane (numbers_of v.lanes) → (state : State)
    → LaneFacts (h ++ Began lane line op ∷ []) (numbers_of (v.lanes ++ record { number = lane; state = state } ∷ []))
lanes-begin h v lane line op f idle state =
    subst (LaneFacts (h ++ Began lane line op ∷ [])) (sym (map-push number_of v.lanes (record { number = lane; state = state })))
    (begins-facts h (numbers_of v.lanes) lane line op (idle-numbers lane (numbers_of v.lanes) idle) f)

lanes-step : (machine_of : ℕ → Op → Machine) (h : List Entry) (old : View) (e : Entry) (new : View) → StepsTo machine_of h old e new → LanesKnown h old → LanesKnown (h ++ e ∷ []) new
lanes-step machine_of h old (Began lane line op) new t f =
    let g = begins-facts h (numbers_of old.lanes) lane line op (idle-numbers lane (numbers_of old.lanes) t.idle.other) f in
    begins-stay (LanesKnown (h ++ Began lane line op ∷ [])) (lanes-stay (h ++ Began lane line op ∷ [])) old new lane (machine_of lane op) (last_reading 0 h)
    (λ state shelf. subst (LaneFacts (h ++ Began lane line op ∷ [])) (sym (map-push number_of old.lanes (record { number = lane; state = state }))) g) t.step
lanes-step machine_of h old (Answered lane line answer) new t f =
    let a = answered_now old lane answer new t.answers in
    let there = to-map number_of old.lanes a.at (record { number = lane; state = Over a.is.answer }) a.is.there in
    let g = answers-facts h (numbers_of old.lanes) a.at lane line answer there t.line_is f in
    subst (LaneFacts (h ++ Answered lane line answer ∷ [])) (sym (ap (λ (v : View). numbers_of v.lanes) a.is.is ∙ map-remove number_of old.lanes a.at)) g
lanes-step machine_of h old (Sent bytes) new t f =
    let n = sent_now old bytes new t in
    same-lanes (h ++ Sent bytes ∷ []) old new (ap (λ (v : View). v.lanes) n.is) (quiet-facts h (Sent bytes) (numbers_of old.lanes) (λ number. refl) f)
lanes-step machine_of h old (Delivered bytes) new t f =
    heard-lanes (h ++ Delivered bytes ∷ []) old bytes new (heard old bytes t.result new t.hears) (quiet-facts h (Delivered bytes) (numbers_of old.lanes) (λ number. refl) f)
lanes-step machine_of h old Failed new (inl t) f = failed-lanes (h ++ Failed ∷ []) old new (failed_now old t.0 new t.1) (quiet-facts h Failed (numbers_of old.lanes) (λ number. refl) f)
lanes-step machine_of h old Failed new (inr t) f = stays-quiet h Failed old new (λ number. refl) t f
lanes-step machine_of h old (Dialed port) new t f = stays-quiet h (Dialed port) old new (λ number. refl) t f
lanes-step machine_of h old (Executed xid call reply) new t f = stays-quiet h (Executed xid call reply) old new (λ number. refl) t f
lanes-step machine_of h old (Foreign call reply) new t f = stays-quiet h (Foreign call reply) old new (λ number. refl) t f
lanes-step machine_of h old (Flushed file from len) new t f = stays-quiet h (Flushed file from len) old new (λ number. refl) t f
lanes-step machine_of h old (Reboot verf) new t f = stays-quiet h (Reboot verf) old new (λ number. refl) t f
lanes-step machine_of h old (Clock ms) new t f = stays-quiet h (Clock ms) old new (λ number. refl) t f

lanes-fresh : (setup : Setup) (h : List Entry) (v : View) → IsSetUp setup h → IsFresh setup v → LanesKnown h v
lanes-fresh setup h v up fresh = subst (λ (lanes : List Lane). LaneFacts h (numbers_of lanes)) (sym fresh.lanes) (record {
  busy = λ at number there. absurd (let no_way : None ≡ Some number = there in cc);
  rest = λ number none. record {
    answered = λ k line op at. absurd (up.unbegun k number line op at);
    closed = closed_none (marks_of number h) (up.unmarked number);
  };
  apart = λ at other number there here. absurd (let no_way : None ≡ Some number = there in cc);
})

pub reached-lanes : (machine_of : ℕ → Op → Machine) (setup : Setup) (h : List Entry) (v : View) → Reaches machine_of setup h v → LanesKnown h v
reached-lanes machine_of setup _ _ (begins h v may up fresh) = lanes-fresh setup h v up fresh
reached-lanes machine_of setup _ _ (goes h before v b e r is t) = subst (λ (k : List Entry). LanesKnown k v) (sym is) (lanes-step machine_of before b e v t (reached-lanes machine_of setup before b r))
reached-lanes machine_of setup _ _ (loses h v b r shown is) = lost-facts h b v (ap (λ (w : View). w.lanes) is) (reached-lanes machine_of setup h b r)

-- ---- what follows

-- an operation that runs is under way
same-lane : (a b c d : ℕ) (o p : Op) → Began a b o ≡ Began c d p → (a ≡ c) × (b ≡ d)
same-lane a b c d o p e = (cc, cc)

pub runs-busy : (h : List Entry) (number : ℕ) → Runs h number → IsBusy h number (length h)
runs-busy h number r = record {
  x = r.x;
  op = r.op;
  under_way = record {
    line = r.line;
    began = r.began;
    before = At-below h r.x (Began number r.line r.op) r.began;
    unanswered = λ a.
        let same = same-lane a.lane a.ended.line number r.line a.op r.op (At-one h r.x (Began a.lane a.ended.line a.op) (Began number r.line r.op) a.ended.began r.began) in
        r.unanswered a.y a.answer (subst (λ (n : ℕ). At h a.y (Answered n r.line a.answer)) same.0 (subst (λ (l : ℕ). At h a.y (Answered a.lane l a.answer)) same.1 a.ended.answered)) a.ended.later;
  };
}

pub lanes-under-way : (h : List Entry) (v : View) → LanesKnown h v → AreUnderWay h v
lanes-under-way h v f = record {
  busy = λ at lane there. runs-busy h lane.number (f.busy at lane.number (to-map number_of v.lanes at lane there));
  idle = λ number idle b. b.under_way.unanswered ((f.rest number (idle-numbers number (numbers_of v.lanes) idle)).answered b.x b.under_way.line b.op b.under_way.began);
  apart = λ at other a b here there same.
      f.apart at other b.number (to-map number_of v.lanes at a here ∙ ap Some same) (to-map number_of v.lanes other b there);
}

-- whether a lane is among these
pub record IsAmong (numbers : List ℕ) (number : ℕ) : Type 0 where
  pub at : ℕ
  pub there : slice_get numbers at ≡ Some number

among : (numbers : List ℕ) (number : ℕ) → IsAmong numbers number ⊎ ((at : ℕ) → slice_get numbers at ≡ Some number → ⊥)
among [] number = inr (λ at there. let no_way : None ≡ Some number = there in cc)
among (n ∷ ns) number = (elim (nat_eq n number) as (λ b. nat_eq n number ≡ b → IsAmong (n ∷ ns) number ⊎ ((at : ℕ) → slice_get (n ∷ ns) at ≡ Some number → ⊥)) [
  | true ↦ λ d. inl (record { at = zero; there = ap Some (eqb-true n number d) })
  | false ↦ λ d. elim (among ns number) [
    | inl a ↦ inl (record { at = suc a.at; there = a.there })
    | inr none ↦ inr (not-first d none)
  ]
]) refl
  where
    not-first : nat_eq n number ≡ false → ((at : ℕ) → slice_get ns at ≡ Some number → ⊥) → (at : ℕ) → slice_get (n ∷ ns) at ≡ Some number → ⊥
    not-first d none zero there = eqb-false n number d (one-number n number there)
    not-first d none (suc at) there = none at there

pub marks-alternate : (h : List Entry) (v : View) → LanesKnown h v → (lane : ℕ) → Alternates (marks_of lane h)
marks-alternate h v f lane = by (among (numbers_of v.lanes) lane)
  where
    by : IsAmong (numbers_of v.lanes) lane ⊎ ((at : ℕ) → slice_get (numbers_of v.lanes) at ≡ Some lane → ⊥) → Alternates (marks_of lane h)
    by (inl a) = let r = f.busy a.at lane a.there in subst Alternates (sym r.marks) (open-alternates r.before lane r.line r.op r.closed)
    by (inr none) = closed-alternates (marks_of lane h) (f.rest lane none).closed
