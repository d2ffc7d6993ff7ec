-- Where a lane begins and answers its lines, in a history with one entry more.
use Rattle.core_facts.proofs.Prelude.{◌≡◌, ◌≢◌, ◌≤◌, inl, inr, ℕ, List, [], ◌∷◌, ◌++◌, true, false, cond, nat_eq, refl, sym, ap, subst, ◌∙◌, arith, eq-eqb, ne_eqb, Answer, Entry, Began, Answered, Dialed, Sent, Executed, Foreign, Flushed, Reboot, Delivered, Failed, Clock, Op, At-grow, At-below, At-cases}
use Rattle.std.proofs.Common.{ap₂}
use Rattle.world_model.specs.Operations.{AnsweredBefore}
use Rattle.rpc_retry.proofs.Dues.{if_true, if_false}
use Rattle.world_model.specs.Follows.{marks_of, Alternates, none, busy, answered}

pub marks-push : (lane : ℕ) (h : List Entry) (e : Entry) → marks_of lane (h ++ e ∷ []) ≡ marks_of lane h ++ marks_of lane (e ∷ [])
marks-push lane [] e = refl
marks-push lane (Began l line op ∷ h) e =
    let rest = marks-push lane h e in
    elim (nat_eq l lane) as (λ b. cond b (Began l line op ∷ marks_of lane (h ++ e ∷ [])) (marks_of lane (h ++ e ∷ [])) ≡ cond b (Began l line op ∷ marks_of lane h) (marks_of lane h) ++ marks_of lane (e ∷ [])) [
      | true ↦ ap (λ (t : List Entry). Began l line op ∷ t) rest
      | false ↦ rest
    ]
marks-push lane (Answered l line a ∷ h) e =
    let rest = marks-push lane h e in
    elim (nat_eq l lane) as (λ b. cond b (Answered l line a ∷ marks_of lane (h ++ e ∷ [])) (marks_of lane (h ++ e ∷ [])) ≡ cond b (Answered l line a ∷ marks_of lane h) (marks_of lane h) ++ marks_of lane (e ∷ [])) [
      | true ↦ ap (λ (t : List Entry). Answered l line a ∷ t) rest
      | false ↦ rest
    ]
marks-push lane (Dialed port ∷ h) e = marks-push lane h e
marks-push lane (Sent bytes ∷ h) e = marks-push lane h e
marks-push lane (Executed xid call reply ∷ h) e = marks-push lane h e
marks-push lane (Foreign call reply ∷ h) e = marks-push lane h e
marks-push lane (Flushed file from len ∷ h) e = marks-push lane h e
marks-push lane (Reboot verf ∷ h) e = marks-push lane h e
marks-push lane (Delivered bytes ∷ h) e = marks-push lane h e
marks-push lane (Failed ∷ h) e = marks-push lane h e
marks-push lane (Clock ms ∷ h) e = marks-push lane h e

-- ---- marks that alternate, the last one an answer

pub data Closed : List Entry → Type 0 where
  closed_none : (marks : List Entry) → marks ≡ [] → Closed marks
  closed_more : (marks rest : List Entry) (lane line : ℕ) (op : Op) (answer : Answer) → marks ≡ Began lane line op ∷ Answered lane line answer ∷ rest → Closed rest → Closed marks

pub closed-alternates : (marks : List Entry) → Closed marks → Alternates marks
closed-alternates _ (closed_none marks is) = none marks is
closed-alternates _ (closed_more marks rest lane line op answer is c) = answered marks rest lane line op answer is (closed-alternates rest c)

pub open-alternates : (marks : List Entry) (lane line : ℕ) (op : Op) → Closed marks → Alternates (marks ++ Began lane line op ∷ [])
open-alternates _ lane line op (closed_none marks is) = busy (marks ++ Began lane line op ∷ []) lane line op (ap (λ (t : List Entry). t ++ Began lane line op ∷ []) is)
open-alternates _ lane line op (closed_more marks rest l n o a is c) =
    answered (marks ++ Began lane line op ∷ []) (rest ++ Began lane line op ∷ []) l n o a (ap (λ (t : List Entry). t ++ Began lane line op ∷ []) is) (open-alternates rest lane line op c)

pub closed-push : (marks : List Entry) (lane line : ℕ) (op : Op) (answer : Answer) → Closed marks → Closed (marks ++ Began lane line op ∷ Answered lane line answer ∷ [])
closed-push _ lane line op answer (closed_none marks is) =
    closed_more (marks ++ Began lane line op ∷ Answered lane line answer ∷ []) [] lane line op answer (ap (λ (t : List Entry). t ++ Began lane line op ∷ Answered lane line answer ∷ []) is) (closed_none [] refl)
closed-push _ lane line op answer (closed_more marks rest l n o a is c) =
    closed_more (marks ++ Began lane line op ∷ Answered lane line answer ∷ []) (rest ++ Began lane line op ∷ Answered lane line answer ∷ []) l n o a
    (ap (λ (t : List Entry). t ++ Began lane line op ∷ Answered lane line answer ∷ []) is) (closed-push rest lane line op answer c)

-- two lists that end with an entry each end with the same
pub last-same : (xs ys : List Entry) (x y : Entry) → xs ++ x ∷ [] ≡ ys ++ y ∷ [] → x ≡ y
last-same [] [] x y e = cc
last-same [] (b ∷ []) x y e = absurd (cc)
last-same [] (b ∷ c ∷ ys) x y e = absurd (cc)
last-same (a ∷ []) [] x y e = absurd (cc)
last-same (a ∷ c ∷ xs) [] x y e = absurd (cc)
last-same (a ∷ xs) (b ∷ ys) x y e = last-same xs ys x y (tails e)
  where
    tails : a ∷ (xs ++ x ∷ []) ≡ b ∷ (ys ++ y ∷ []) → xs ++ x ∷ [] ≡ ys ++ y ∷ []
    tails e = cc

pub front-same : (xs ys : List Entry) (x y : Entry) → xs ++ x ∷ [] ≡ ys ++ y ∷ [] → xs ≡ ys
front-same [] [] x y e = refl
front-same [] (b ∷ []) x y e = absurd (cc)
front-same [] (b ∷ c ∷ ys) x y e = absurd (cc)
front-same (a ∷ []) [] x y e = absurd (cc)
front-same (a ∷ c ∷ xs) [] x y e = absurd (cc)
front-same (a ∷ xs) (b ∷ ys) x y e = ap₂ (λ (z : Entry) (zs : List Entry). z ∷ zs) (heads e) (front-same xs ys x y (tails e))
  where
    heads : a ∷ (xs ++ x ∷ []) ≡ b ∷ (ys ++ y ∷ []) → a ≡ b
    heads e = cc

    tails : a ∷ (xs ++ x ∷ []) ≡ b ∷ (ys ++ y ∷ []) → xs ++ x ∷ [] ≡ ys ++ y ∷ []
    tails e = cc

-- ---- an entry that isn't a mark of the lane

pub not-began : (lane : ℕ) (e : Entry) → marks_of lane (e ∷ []) ≡ [] → (line : ℕ) (op : Op) → e ≡ Began lane line op → ⊥
not-began lane e silent line op is =
    let here : marks_of lane (Began lane line op ∷ []) ≡ [] = subst (λ (d : Entry). marks_of lane (d ∷ []) ≡ []) is silent in
    let there : marks_of lane (Began lane line op ∷ []) ≡ Began lane line op ∷ [] = if_true (nat_eq lane lane) (Began lane line op ∷ []) [] (eq-eqb lane lane refl) in
    let no_way : Began lane line op ∷ [] ≡ [] = sym there ∙ here in
    cc

pub not-answered : (lane : ℕ) (e : Entry) → marks_of lane (e ∷ []) ≡ [] → (line : ℕ) (answer : Answer) → e ≡ Answered lane line answer → ⊥
not-answered lane e silent line answer is =
    let here : marks_of lane (Answered lane line answer ∷ []) ≡ [] = subst (λ (d : Entry). marks_of lane (d ∷ []) ≡ []) is silent in
    let there : marks_of lane (Answered lane line answer ∷ []) ≡ Answered lane line answer ∷ [] = if_true (nat_eq lane lane) (Answered lane line answer ∷ []) [] (eq-eqb lane lane refl) in
    let no_way : Answered lane line answer ∷ [] ≡ [] = sym there ∙ here in
    cc

pub began-other : (lane other line : ℕ) (op : Op) → other ≢ lane → marks_of lane (Began other line op ∷ []) ≡ []
began-other lane other line op differs = if_false (nat_eq other lane) (Began other line op ∷ []) [] (ne_eqb other lane differs)

pub answered-other : (lane other line : ℕ) (answer : Answer) → other ≢ lane → marks_of lane (Answered other line answer ∷ []) ≡ []
answered-other lane other line answer differs = if_false (nat_eq other lane) (Answered other line answer ∷ []) [] (ne_eqb other lane differs)

pub began-own : (lane line : ℕ) (op : Op) → marks_of lane (Began lane line op ∷ []) ≡ Began lane line op ∷ []
began-own lane line op = if_true (nat_eq lane lane) (Began lane line op ∷ []) [] (eq-eqb lane lane refl)

pub answered-own : (lane line : ℕ) (answer : Answer) → marks_of lane (Answered lane line answer ∷ []) ≡ Answered lane line answer ∷ []
answered-own lane line answer = if_true (nat_eq lane lane) (Answered lane line answer ∷ []) [] (eq-eqb lane lane refl)

-- ---- answers

pub answered-grow : (h : List Entry) (e : Entry) (x n later : ℕ) → n ≤ later → AnsweredBefore h x n → AnsweredBefore (h ++ e ∷ []) x later
answered-grow h e x n later le a = record {
  lane = a.lane;
  op = a.op;
  y = a.y;
  answer = a.answer;
  ended = record {
    line = a.ended.line;
    began = At-grow h (e ∷ []) x (Began a.lane a.ended.line a.op) a.ended.began;
    answered = At-grow h (e ∷ []) a.y (Answered a.lane a.ended.line a.answer) a.ended.answered;
    later = a.ended.later;
    first = λ j other at after. elim (At-cases h e j (Answered a.lane a.ended.line other) at) [
      | inl p ↦ a.ended.first j other p after
      | inr q ↦ let below = At-below h a.y (Answered a.lane a.ended.line a.answer) a.ended.answered in let is = q.0 in omega (arith, below, is)
    ];
  };
  before = let b = a.before in omega (arith, b, le);
}
