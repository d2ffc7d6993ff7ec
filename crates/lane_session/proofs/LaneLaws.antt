-- What a lane is at, in a history with one entry more.
use Rattle.std.proofs.Common.{◌≡◌, ◌<◌, ◌≤◌, ◌⊎◌, inl, inr, ℕ, List, [], ◌∷◌, ◌++◌, length, refl, sym, ap, subst, ◌∙◌, arith, append_assoc, append-nil}
use Rattle.world_model.specs.declared.answer.Answer.{Answer}
use Rattle.world_model.specs.declared.entry.Entry.{Entry}
use Rattle.world_model.specs.declared.entry.Entry.TheVariants.{Began, Answered}
use Rattle.world_model.specs.declared.op.Op.{Op}
use Rattle.world_model.specs.Entries.{At}
use Rattle.world_model.specs.Follows.{marks_of, Alternates, none, busy, answered}
use Rattle.world_model.specs.Operations.{AnsweredBefore}
use Rattle.world_model.proofs.Places.{At-grow, At-below, At-last, At-cases, length_last}
use Rattle.core_facts.proofs.Marks.{marks-push, not-began, not-answered, began-own, answered-own, answered-grow}
use Rattle.lane_session.specs.LaneMarks.{Closed, closed_none, closed_more, IsRunning, IsResting}

pub closed-alternates : (marks : List Entry) → Closed marks → Alternates marks
closed-alternates _ (closed_none marks is) = none marks is
closed-alternates _ (closed_more marks rest lane line op answer is c) = answered marks rest lane line op answer is (closed-alternates rest c)

pub open-alternates : (marks : List Entry) (lane line : ℕ) (op : Op) → Closed marks → Alternates (marks ++ Began lane line op ∷ [])
open-alternates _ lane line op (closed_none marks is) = busy (marks ++ Began lane line op ∷ []) lane line op (ap (λ (t : List Entry). t ++ Began lane line op ∷ []) is)
open-alternates _ lane line op (closed_more marks rest l n o a is c) =
    answered (marks ++ Began lane line op ∷ []) (rest ++ Began lane line op ∷ []) l n o a (ap (λ (t : List Entry). t ++ Began lane line op ∷ []) is) (open-alternates rest lane line op c)

closed-push : (marks : List Entry) (lane line : ℕ) (op : Op) (answer : Answer) → Closed marks → Closed (marks ++ Began lane line op ∷ Answered lane line answer ∷ [])
closed-push _ lane line op answer (closed_none marks is) =
    closed_more (marks ++ Began lane line op ∷ Answered lane line answer ∷ []) [] lane line op answer (ap (λ (t : List Entry). t ++ Began lane line op ∷ Answered lane line answer ∷ []) is) (closed_none [] refl)
closed-push _ lane line op answer (closed_more marks rest l n o a is c) =
    closed_more (marks ++ Began lane line op ∷ Answered lane line answer ∷ []) (rest ++ Began lane line op ∷ Answered lane line answer ∷ []) l n o a
    (ap (λ (t : List Entry). t ++ Began lane line op ∷ Answered lane line answer ∷ []) is) (closed-push rest lane line op answer c)

pub shorter : (h : List Entry) (e : Entry) → length h ≤ length (h ++ e ∷ [])
shorter h e = let l = length_last h e in omega (arith, l)

longer : (h : List Entry) (e : Entry) → length h < length (h ++ e ∷ [])
longer h e = let l = length_last h e in omega (arith, l)

marks-stay : (h : List Entry) (e : Entry) (lane : ℕ) → marks_of lane (e ∷ []) ≡ [] → marks_of lane (h ++ e ∷ []) ≡ marks_of lane h
marks-stay h e lane silent = marks-push lane h e ∙ ap (λ (t : List Entry). marks_of lane h ++ t) silent ∙ append-nil (marks_of lane h)

pub running-alternates : (h : List Entry) (lane line : ℕ) → IsRunning h lane line → Alternates (marks_of lane h)
running-alternates h lane line r = subst Alternates (sym r.marks) (open-alternates r.before lane line r.op r.closed)

pub resting-alternates : (h : List Entry) (lane : ℕ) → IsResting h lane → Alternates (marks_of lane h)
resting-alternates h lane r = closed-alternates (marks_of lane h) r.closed

pub running-grow : (h : List Entry) (e : Entry) (lane line : ℕ) → marks_of lane (e ∷ []) ≡ [] → IsRunning h lane line → IsRunning (h ++ e ∷ []) lane line
running-grow h e lane line silent r = record {
  x = r.x;
  op = r.op;
  began = At-grow h (e ∷ []) r.x (Began lane line r.op) r.began;
  unanswered = λ j answer at after. elim (At-cases h e j (Answered lane line answer) at) [
    | inl p ↦ r.unanswered j answer p after
    | inr q ↦ not-answered lane e silent line answer q.1
  ];
  others = λ k other op at. by k other op (At-cases h e k (Began lane other op) at);
  before = r.before;
  closed = r.closed;
  marks = marks-stay h e lane silent ∙ r.marks;
}
  where
    by : (k other : ℕ) (op : Op) → At h k (Began lane other op) ⊎ ((k ≡ length h) × (e ≡ Began lane other op)) → (k ≡ r.x) ⊎ AnsweredBefore (h ++ e ∷ []) k (length (h ++ e ∷ []))
    by k other op (inl p) = elim (r.others k other op p) [ inl same ↦ inl same | inr a ↦ inr (answered-grow h e k (length h) (length (h ++ e ∷ [])) (shorter h e) a) ]
    by k other op (inr q) = absurd (not-began lane e silent other op q.1)

pub resting-grow : (h : List Entry) (e : Entry) (lane : ℕ) → marks_of lane (e ∷ []) ≡ [] → IsResting h lane → IsResting (h ++ e ∷ []) lane
resting-grow h e lane silent r = record {
  answered = λ k line op at. elim (At-cases h e k (Began lane line op) at) [
    | inl p ↦ answered-grow h e k (length h) (length (h ++ e ∷ [])) (shorter h e) (r.answered k line op p)
    | inr q ↦ absurd (not-began lane e silent line op q.1)
  ];
  closed = subst Closed (sym (marks-stay h e lane silent)) r.closed;
}

-- the lane begins
pub begins-now : (h : List Entry) (lane line : ℕ) (op : Op) → IsResting h lane → IsRunning (h ++ Began lane line op ∷ []) lane line
begins-now h lane line op r = record {
  x = length h;
  op = op;
  began = At-last h (Began lane line op);
  unanswered = λ j answer at after. elim (At-cases h (Began lane line op) j (Answered lane line answer) at) [
    | inl p ↦ let below = At-below h j (Answered lane line answer) p in absurd (omega (arith, below, after))
    | inr q ↦ let is = q.0 in absurd (omega (arith, is, after))
  ];
  others = λ k other o at. elim (At-cases h (Began lane line op) k (Began lane other o) at) [
    | inl p ↦ inr (answered-grow h (Began lane line op) k (length h) (length (h ++ Began lane line op ∷ [])) (shorter h (Began lane line op)) (r.answered k other o p))
    | inr q ↦ inl q.0
  ];
  before = marks_of lane h;
  closed = r.closed;
  marks = marks-push lane h (Began lane line op) ∙ ap (λ (t : List Entry). marks_of lane h ++ t) (began-own lane line op);
}

-- the lane answers the line that is under way
pub answers-now : (h : List Entry) (lane line : ℕ) (answer : Answer) → IsRunning h lane line → IsResting (h ++ Answered lane line answer ∷ []) lane
answers-now h lane line answer r = record { answered = each; closed = closed }
  where
    own : AnsweredBefore (h ++ Answered lane line answer ∷ []) r.x (length (h ++ Answered lane line answer ∷ []))
    own = record {
      lane = lane;
      op = r.op;
      y = length h;
      answer = answer;
      ended = record {
        line = line;
        began = At-grow h (Answered lane line answer ∷ []) r.x (Began lane line r.op) r.began;
        answered = At-last h (Answered lane line answer);
        later = At-below h r.x (Began lane line r.op) r.began;
        first = λ j other at after. elim (At-cases h (Answered lane line answer) j (Answered lane line other) at) [
          | inl p ↦ absurd (r.unanswered j other p after)
          | inr q ↦ let is = q.0 in omega (arith, is)
        ];
      };
      before = longer h (Answered lane line answer);
    }

    each : (k other : ℕ) (op : Op) → At (h ++ Answered lane line answer ∷ []) k (Began lane other op) → AnsweredBefore (h ++ Answered lane line answer ∷ []) k (length (h ++ Answered lane line answer ∷ []))
    each k other op at = by (At-cases h (Answered lane line answer) k (Began lane other op) at)
      where
        of : (k ≡ r.x) ⊎ AnsweredBefore h k (length h) → AnsweredBefore (h ++ Answered lane line answer ∷ []) k (length (h ++ Answered lane line answer ∷ []))
        of (inl is) = subst (λ (n : ℕ). AnsweredBefore (h ++ Answered lane line answer ∷ []) n (length (h ++ Answered lane line answer ∷ []))) (sym is) own
        of (inr a) = answered-grow h (Answered lane line answer) k (length h) (length (h ++ Answered lane line answer ∷ [])) (shorter h (Answered lane line answer)) a

        by : At h k (Began lane other op) ⊎ ((k ≡ length h) × (Answered lane line answer ≡ Began lane other op)) → AnsweredBefore (h ++ Answered lane line answer ∷ []) k (length (h ++ Answered lane line answer ∷ []))
        by (inl p) = of (r.others k other op p)
        by (inr q) = absurd (let no_way : Answered lane line answer ≡ Began lane other op = q.1 in cc)

    closed : Closed (marks_of lane (h ++ Answered lane line answer ∷ []))
    closed =
        let whole : marks_of lane (h ++ Answered lane line answer ∷ []) ≡ r.before ++ (Began lane line r.op ∷ Answered lane line answer ∷ []) =
        marks-push lane h (Answered lane line answer)
        ∙ ap (λ (t : List Entry). marks_of lane h ++ t) (answered-own lane line answer)
        ∙ ap (λ (t : List Entry). t ++ Answered lane line answer ∷ []) r.marks
        ∙ append_assoc r.before (Began lane line r.op ∷ []) (Answered lane line answer ∷ []) in
        subst Closed (sym whole) (closed-push r.before lane line r.op answer r.closed)
