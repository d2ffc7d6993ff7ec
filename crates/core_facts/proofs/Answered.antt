-- What is known of each operation that has its answer, in every view on the way, is known of each answer that was noted.
use Rattle.core_facts.proofs.Prelude.{View, Over, Setup, StepsTo, Machine, ◌≡◌, ◌<◌, ◌≤◌, ◌⊎◌, inl, inr, ℕ, List, [], ◌∷◌, ◌++◌, length, Some, slice_get, refl, sym, ap, subst, ◌∙◌, arith, append_assoc, cases_lt, At-grow, At-below, At-back, At-one, At-cases, length_last, At, Ended, UnderWay, Answer, Entry, Began, Answered, Dialed, Sent, Executed, Foreign, Flushed, Reboot, Delivered, Failed, Clock, Op}
use Rattle.core_facts.proofs.Cases.{answered_now}
use Rattle.core_facts.proofs.Passing.{Passes, passes_fresh, passes_step, passes_lost}

-- The operation was answered at a place, and this was its story until then.
pub record HadStory (O : List Entry → ℕ → Op → Answer → Type 0) (h : List Entry) (x : ℕ) (op : Op) (y : ℕ) (answer : Answer) : Type 0 where
  pub before : List Entry
  pub after : List Entry
  pub is : h ≡ before ++ after
  pub there : length before ≡ y
  pub story : O before x op answer

some-answer : (a b : Answer) → Some a ≡ Some b → a ≡ b
some-answer a b e = cc

same-answer : (a b c d : ℕ) (p q : Answer) → Answered a b p ≡ Answered c d q → (a ≡ c) × (q ≡ p)
same-answer a b c d p q e = (cc, cc)

ended-back : (h : List Entry) (e : Entry) (lane x : ℕ) (op : Op) (y : ℕ) (answer : Answer) → y < length h → Ended (h ++ e ∷ []) lane x op y answer → Ended h lane x op y answer
ended-back h e lane x op y answer within d = record {
  line = d.line;
  began = let early = d.later in At-back h (e ∷ []) x (Began lane d.line op) d.began (omega (arith, early, within));
  answered = At-back h (e ∷ []) y (Answered lane d.line answer) d.answered within;
  later = d.later;
  first = λ j a there after. d.first j a (At-grow h (e ∷ []) j (Answered lane d.line a) there) after;
}

-- the operation that is answered now was under way
pub answered-under : (h : List Entry) (lane line : ℕ) (given : Answer) (x : ℕ) (op : Op) (answer : Answer) → Ended (h ++ Answered lane line given ∷ []) lane x op (length h) answer
    → UnderWay h lane x (length h) op
answered-under h lane line given x op answer d = record {
  line = d.line;
  began = began;
  before = d.later;
  unanswered = λ a.
      let same = same-began a.lane a.ended.line lane d.line a.op op (At-one h x (Began a.lane a.ended.line a.op) (Began lane d.line op) a.ended.began began) in
      let there : At h a.y (Answered lane d.line a.answer) =
      subst (λ (n : ℕ). At h a.y (Answered n d.line a.answer)) same.0 (subst (λ (l : ℕ). At h a.y (Answered a.lane l a.answer)) same.1 a.ended.answered) in
      let late = d.first a.y a.answer (At-grow h (Answered lane line given ∷ []) a.y (Answered lane d.line a.answer) there) a.ended.later in
      let early = a.before in
      omega (arith, late, early);
}
  where
    same-began : (a b c e : ℕ) (o p : Op) → Began a b o ≡ Began c e p → (a ≡ c) × (b ≡ e)
    same-began a b c e o p q = (cc, cc)

    began : At h x (Began lane d.line op)
    began = let early = d.later in At-back h (Answered lane line given ∷ []) x (Began lane d.line op) d.began early

not-answered : (h : List Entry) (e : Entry) (lane x : ℕ) (op : Op) (y : ℕ) (answer : Answer) → ((n l : ℕ) (a : Answer) → e ≡ Answered n l a → ⊥) → y ≡ length h
    → Ended (h ++ e ∷ []) lane x op y answer → ⊥
not-answered h e lane x op y answer other at d = by (At-cases h e y (Answered lane d.line answer) d.answered)
  where
    by : At h y (Answered lane d.line answer) ⊎ ((y ≡ length h) × (e ≡ Answered lane d.line answer)) → ⊥
    by (inl there) = let low = At-below h y (Answered lane d.line answer) there in absurd (omega (arith, low, at))
    by (inr now) = other lane d.line answer now.1

module _ (machine_of : ℕ → Op → Machine) (setup : Setup) (G : List Entry → View → Type 0) (O : List Entry → ℕ → Op → Answer → Type 0)
    (over : (h : List Entry) (v : View) → Passes machine_of setup G h v → G h v → (at number : ℕ) (answer : Answer)
    → slice_get v.lanes at ≡ Some (record { number = number; state = Over answer }) → (x : ℕ) (op : Op) → UnderWay h number x (length h) op → O h x op answer) where
  had-later : (h : List Entry) (e : Entry) (x : ℕ) (op : Op) (y : ℕ) (answer : Answer) → HadStory O h x op y answer → HadStory O (h ++ e ∷ []) x op y answer
  had-later h e x op y answer s = record {
    before = s.before;
    after = s.after ++ e ∷ [];
    is = ap (λ (k : List Entry). k ++ e ∷ []) s.is ∙ append_assoc s.before s.after (e ∷ []);
    there = s.there;
    story = s.story;
  }

  answers-story : (h : List Entry) (old : View) (e : Entry) (new : View) (lane x : ℕ) (op : Op) (y : ℕ) (answer : Answer) → StepsTo machine_of h old e new → Passes machine_of setup G h old
      → G h old → y ≡ length h → Ended (h ++ e ∷ []) lane x op y answer → HadStory O (h ++ e ∷ []) x op y answer
  answers-story h old (Answered number line given) new lane x op y answer t p g at d = by (At-cases h (Answered number line given) y (Answered lane d.line answer) d.answered)
    where
      by : At h y (Answered lane d.line answer) ⊎ ((y ≡ length h) × (Answered number line given ≡ Answered lane d.line answer)) → HadStory O (h ++ Answered number line given ∷ []) x op y answer
      by (inl there) = absurd (let low = At-below h y (Answered lane d.line answer) there in omega (arith, low, at))
      by (inr now) =
          let same = same-answer number line lane d.line given answer now.1 in
          let a = answered_now old number given new t.answers in
          let gives : given ≡ a.is.answer = some-answer given a.is.answer a.is.gives in
          let now-ended : Ended (h ++ Answered number line given ∷ []) lane x op (length h) answer =
          subst (λ (n : ℕ). Ended (h ++ Answered number line given ∷ []) lane x op n answer) at d in
          let mine : Ended (h ++ Answered number line given ∷ []) number x op (length h) answer =
          subst (λ (n : ℕ). Ended (h ++ Answered number line given ∷ []) n x op (length h) answer) (sym same.0) now-ended in
          record {
            before = h;
            after = Answered number line given ∷ [];
            is = refl;
            there = sym at;
            story = subst (λ (b : Answer). O h x op b) (sym gives ∙ sym same.1) (over h old p g a.at number a.is.answer a.is.there x op (answered-under h number line given x op answer mine));
          }
  answers-story h old (Began number line o) new lane x op y answer t p g at d = absurd (not-answered h (Began number line o) lane x op y answer (λ n l a e. cc) at d)
  answers-story h old (Sent bytes) new lane x op y answer t p g at d = absurd (not-answered h (Sent bytes) lane x op y answer (λ n l a e. cc) at d)
  answers-story h old (Delivered bytes) new lane x op y answer t p g at d = absurd (not-answered h (Delivered bytes) lane x op y answer (λ n l a e. cc) at d)
  answers-story h old Failed new lane x op y answer t p g at d = absurd (not-answered h Failed lane x op y answer (λ n l a e. cc) at d)
  answers-story h old (Dialed port) new lane x op y answer t p g at d = absurd (not-answered h (Dialed port) lane x op y answer (λ n l a e. cc) at d)
  answers-story h old (Executed xid call reply) new lane x op y answer t p g at d = absurd (not-answered h (Executed xid call reply) lane x op y answer (λ n l a e. cc) at d)
  answers-story h old (Foreign call reply) new lane x op y answer t p g at d = absurd (not-answered h (Foreign call reply) lane x op y answer (λ n l a e. cc) at d)
  answers-story h old (Flushed file from len) new lane x op y answer t p g at d = absurd (not-answered h (Flushed file from len) lane x op y answer (λ n l a e. cc) at d)
  answers-story h old (Reboot verf) new lane x op y answer t p g at d = absurd (not-answered h (Reboot verf) lane x op y answer (λ n l a e. cc) at d)
  answers-story h old (Clock ms) new lane x op y answer t p g at d = absurd (not-answered h (Clock ms) lane x op y answer (λ n l a e. cc) at d)

  pub answered-story : (h : List Entry) (v : View) → Passes machine_of setup G h v → (lane x : ℕ) (op : Op) (y : ℕ) (answer : Answer) → Ended h lane x op y answer
      → HadStory O h x op y answer
  answered-story _ _ (passes_fresh h v may up fresh) lane x op y answer d = absurd (up.unbegun x lane d.line op d.began)
  answered-story _ _ (passes_step h before v b e p given_so is t) lane x op y answer d =
      subst (λ (k : List Entry). HadStory O k x op y answer) (sym is)
      (by (answered-story before b p lane x op y answer) (cases_lt y (length before)) (subst (λ (k : List Entry). Ended k lane x op y answer) is d))
    where
      by : (Ended before lane x op y answer → HadStory O before x op y answer) → (y < length before) ⊎ (length before ≤ y) → Ended (before ++ e ∷ []) lane x op y answer
          → HadStory O (before ++ e ∷ []) x op y answer
      by early (inl within) q = had-later before e x op y answer (early (ended-back before e lane x op y answer within q))
      by early (inr past) q =
          let low = At-below (before ++ e ∷ []) y (Answered lane q.line answer) q.answered in
          let more = length_last before e in
          answers-story before b e v lane x op y answer t p given_so (omega (arith, low, more, past)) q
  answered-story _ _ (passes_lost h v b p shown is) lane x op y answer d = answered-story h b p lane x op y answer d
