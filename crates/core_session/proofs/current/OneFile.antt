-- Two opens that a slot holds at once are of one file.
use Rattle.core_session.proofs.Prelude.{◌≡◌, ◌<◌, ◌≤◌, ◌⊎◌, inl, inr, ℕ, List, [], ◌∷◌, ◌++◌, length, refl, sym, subst, arith, cases_lt, Answer, Value, Entry, Began, Answered, Op, At, AnsweredBefore, Ended, Finds, InSlot, Terms, At-back, At-below, At-cases, At-one, Mounted, Machine, machine_of, Setup, numbers_of, View, StepsTo, Reaches, begins, goes, loses, GoesWith, LanesKnown, idle-numbers, reached-lanes}
use Rattle.core_facts.specs.Reaches.{BeginsOp}
use Rattle.world_model.specs.declared.answer.Answer.TheVariants as answers
use Rattle.world_model.specs.declared.answer.Fault.TheVariants as faults
use Rattle.world_model.specs.declared.op.Op.TheVariants as ops
use Rattle.claims.specs.Rights.{taken}
use Rattle.core_facts.proofs.Marks.{answered-grow}
use Rattle.core_facts.proofs.SlotTheorems.{places-exact}
use Rattle.core_session.proofs.current.FindsOne.{finds-one}

-- ---- a lane's operations run one after the other

-- An operation of the lane begins where each one before it was answered.
pub AllApart : List Entry → Type 0
AllApart h = (lane o p line other : ℕ) (op later : Op) → At h o (Began lane line op) → At h p (Began lane other later) → o < p → AnsweredBefore h o p

apart-step : (mo : ℕ → Op → Machine) (h : List Entry) (old : View) (e : Entry) (new : View) → StepsTo mo h old e new → LanesKnown h old → AllApart h → AllApart (h ++ e ∷ [])
unfolding AllApart
apart-step mo h old e new t lanes all lane o p line other op later at there low = by (At-cases h e p (Began lane other later) there)
  where
    within : o < length h → At h o (Began lane line op)
    within less = At-back h (e ∷ []) o (Began lane line op) at less

    by : At h p (Began lane other later) ⊎ ((p ≡ length h) × (e ≡ Began lane other later)) → AnsweredBefore (h ++ e ∷ []) o p
    by (inl early) =
        let below = At-below h p (Began lane other later) early in
        answered-grow h e o p p (omega arith) (all lane o p line other op later (within (omega (arith, low, below))) early low)
    by (inr now) =
        let last = now.0 in
        let begun : BeginsOp mo h old lane later new = subst (λ (d : Entry). StepsTo mo h old d new) now.1 t in
        let rest = lanes.rest lane (idle-numbers lane (numbers_of old.lanes) begun.idle.other) in
        answered-grow h e o (length h) p (omega (arith, last)) (rest.answered o line op (within (omega (arith, last, low))))

pub reached-apart : (mo : ℕ → Op → Machine) (setup : Setup) (h : List Entry) (v : View) → Reaches mo setup h v → AllApart h
unfolding AllApart
reached-apart mo setup _ _ (begins h v may up fresh) = λ lane o p line other op later at there low. absurd (up.unbegun o lane line op at)
reached-apart mo setup _ _ (goes h before v b e r is t) =
    subst AllApart (sym is) (apart-step mo before b e v t (reached-lanes mo setup before b r) (reached-apart mo setup before b r))
reached-apart mo setup _ _ (loses h v b r shown is) = reached-apart mo setup h b r

-- ---- what is answered once

same-began : (a b c e : ℕ) (o p : Op) → Began a b o ≡ Began c e p → (a ≡ c) × (b ≡ e) × (o ≡ p)
same-began a b c e o p q = (cc, cc, cc)

-- an operation ends once
pub ends-once : (h : List Entry) (lane other o y z : ℕ) (op p : Op) (a b : Answer) → Ended h lane o op y a → Ended h other o p z b → y ≡ z
ends-once h lane other o y z op p a b d e =
    let same = same-began lane d.line other e.line op p (At-one h o (Began lane d.line op) (Began other e.line p) d.began e.began) in
    let there : At h z (Answered lane d.line b) = subst (λ (n : ℕ). At h z (Answered n d.line b)) (sym same.0) (subst (λ (l : ℕ). At h z (Answered other l b)) (sym same.1) e.answered) in
    let back : At h y (Answered other e.line a) = subst (λ (n : ℕ). At h y (Answered n e.line a)) same.0 (subst (λ (l : ℕ). At h y (Answered lane l a)) same.1 d.answered) in
    let low = d.first z b there e.later in
    let high = e.first y a back d.later in
    omega (arith, low, high)

-- one that is answered later than another of its lane began after that was answered
pub after-answer : (h : List Entry) → AllApart h → (lane o p y z : ℕ) (op later : Op) (a b : Answer) → Ended h lane o op y a → Ended h lane p later z b → y < z → y < p
unfolding AllApart
after-answer h all lane o p y z op later a b d e low = by (cases_lt o p)
  where
    earlier : (w x : ℕ) → AnsweredBefore h w x → (n : ℕ) (q : Op) (c : Answer) → Ended h lane w q n c → n < x
    earlier w x k n q c ended = let same = ends-once h lane k.lane w n k.y q k.op c k.answer ended k.ended in let soon = k.before in omega (arith, same, soon)

    other : p ≤ o → (p < o) ⊎ (o ≤ p) → y < p
    other le (inl less) =
        let early = earlier p o (all lane p o e.line d.line later op e.began d.began less) z later b e in
        let began = d.later in
        absurd (omega (arith, early, began, low))
    other le (inr more) =
        let place : o ≡ p = omega (arith, le, more) in
        let same = ends-once h lane lane o y z op later a b d (subst (λ (n : ℕ). Ended h lane n later z b) (sym place) e) in
        absurd (omega (arith, same, low))

    by : (o < p) ⊎ (p ≤ o) → y < p
    by (inl less) = earlier o p (all lane o p d.line e.line op later d.began e.began less) y op a d
    by (inr le) = other le (cases_lt p o)

-- ---- one file

no-done : (v : Value) → answers.Done v ≡ answers.Refused faults.Slot → ⊥
no-done v e = cc

module _ (m : Mounted) (terms : Terms) (setup : Setup) (h : List Entry) (v : View) (g : GoesWith m terms setup h v) (lane slot x : ℕ) where
  -- no open goes well while the slot holds another
  not-again : (o p : ℕ) (f k : List ℕ) (a : InSlot terms.modes h x lane slot o f) (b : InSlot terms.modes h x lane slot p k) → a.y < b.y → ⊥
  not-again o p f k a b low =
      let d = a.opens.ended in
      let e = b.opens.ended in
      let began = after-answer h (reached-apart (machine_of m) setup h v g.reaches) lane o p a.y b.y (ops.OpenFile slot a.opens.mode a.opens.path) (ops.OpenFile slot b.opens.mode b.opens.path)
      (answers.Done a.opens.value) (answers.Done b.opens.value) d e low in
      let soon = e.later in
      let before = b.before in
      let held : InSlot terms.modes h p lane slot o f = record {
        y = a.y;
        opens = a.opens;
        before = began;
        kept = λ c n answer closed after less. a.kept c n answer closed after (omega (arith, less, soon, before));
      } in
      let found = places-exact m terms setup h v g lane p b.y (ops.OpenFile slot b.opens.mode b.opens.path) (answers.Done b.opens.value) e (record { lost = λ no. cc; memory = λ no. cc }) in
      no-done b.opens.value (found.slot (taken slot o b.opens.mode b.opens.path f refl held))

  pub one-held : (o p : ℕ) (f k : List ℕ) → InSlot terms.modes h x lane slot o f → InSlot terms.modes h x lane slot p k → f ≡ k
  one-held o p f k a b = by (cases_lt a.y b.y) (cases_lt b.y a.y)
    where
      by : (a.y < b.y) ⊎ (b.y ≤ a.y) → (b.y < a.y) ⊎ (a.y ≤ b.y) → f ≡ k
      by (inl less) q = absurd (not-again o p f k a b less)
      by (inr le) (inl less) = absurd (not-again p o k f b a less)
      by (inr le) (inr ge) =
          finds-one terms.modes h a.y f k a.opens.finds (subst (λ (n : ℕ). Finds terms.modes h n k) (omega (arith, le, ge)) b.opens.finds)
