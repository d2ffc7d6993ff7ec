-- What a history shows of slots and closes, it shows with one entry more.
use Rattle.core_session.proofs.Prelude.{◌≡◌, ◌⊎◌, ◌<◌, ◌≤◌, inl, inr, ℕ, suc, List, [], ◌∷◌, ◌++◌, length, refl, ap, ◌∙◌, arith, Answer, Refused, Entry, Began, Answered, Delivered, Op, At, Modes, AnsweredBefore, UnderWay, InSlot, IsOf, GivesUp, itself, beside, At-grow, At-back, At-below, At-cases, At-one, length_last, IsHeld, held-grow, ended-grow, WasLeft}
use Rattle.world_model.specs.Operations.{NoneCame}
use Rattle.claims.specs.Touched.{Left}
use Rattle.core_facts.proofs.SlotGrowth.{held-back, ended-back}
use Rattle.core_session.specs.drops.Dropped.{StillBetween}
use Rattle.world_model.specs.declared.op.Op.TheVariants as ops

-- which open a slot holds isn't said
pub record HeldSo (m : Modes) (h : List Entry) (n lane slot : ℕ) (f : List ℕ) : Type 0 where
  pub x : ℕ
  pub holds : InSlot m h n lane slot x f

module _ (m : Modes) (h : List Entry) (e : Entry) where
  held-of : (n lane slot x : ℕ) (f : List ℕ) (i : InSlot m h n lane slot x f) → IsHeld m h n lane slot f i.opens.mode
  held-of n lane slot x f i = record { x = x; holds = i; mode_is = refl }

  pub slot-grow : (n lane slot x : ℕ) (f : List ℕ) → n ≤ length h → InSlot m h n lane slot x f → HeldSo m (h ++ e ∷ []) n lane slot f
  slot-grow n lane slot x f within i =
      let g = held-grow m h e lane slot f i.opens.mode n within (held-of n lane slot x f i) in
      record { x = g.x; holds = g.holds }

  pub slot-back : (n lane slot x : ℕ) (f : List ℕ) → n ≤ length h → InSlot m (h ++ e ∷ []) n lane slot x f → HeldSo m h n lane slot f
  slot-back n lane slot x f within i =
      let g = held-back m h e lane slot f i.opens.mode n within (record { x = x; holds = i; mode_is = refl }) in
      record { x = g.x; holds = g.holds }

  pub of-grow : (x : ℕ) (op : Op) (f : List ℕ) → IsOf m h x op f → IsOf m (h ++ e ∷ []) x op f
  of-grow x op f k =
      let low = At-below h x (Began k.lane k.line op) k.began in
      let g = slot-grow x k.lane k.slot k.open_at f (omega (arith, low)) k.holds in
      record { lane = k.lane; line = k.line; slot = k.slot; open_at = g.x; began = At-grow h (e ∷ []) x (Began k.lane k.line op) k.began; works_on = k.works_on; holds = g.holds }

  pub none-came-grow : (j k : ℕ) → k ≤ length h → NoneCame h j k → NoneCame (h ++ e ∷ []) j k
  none-came-grow j k within none i b there after before = none i b (At-back h (e ∷ []) i (Delivered b) there (omega (arith, before, within))) after before

  left-grow : (k : ℕ) (f : List ℕ) → k < length h → Left m h k f → Left m (h ++ e ∷ []) k f
  left-grow k f low l = record {
    lane = l.lane;
    slot = l.slot;
    close = l.close;
    answer = l.answer;
    of = of-grow l.close (ops.Close l.slot) f l.of;
    ended = ended-grow h e l.lane l.close (ops.Close l.slot) k l.answer l.ended;
    last = λ other its x i. let g = slot-back (suc k) other its x f (omega (arith, low)) i in l.last other its g.x g.holds;
  }

  gives-grow : (k : ℕ) (f : List ℕ) → k < length h → GivesUp m h k f → GivesUp m (h ++ e ∷ []) k f
  gives-grow k f low (itself lane line fault at) = itself lane line fault (At-grow h (e ∷ []) k (Answered lane line (Refused fault)) at)
  gives-grow k f low (beside lane slot c j fault of ended before none) =
      beside lane slot c j fault (of-grow c (ops.Close slot) f of) (ended-grow h e lane c (ops.Close slot) j (Refused fault) ended) before
      (none-came-grow j k (omega (arith, low)) none)

  pub still-grow : (from to : ℕ) → to ≤ length h → StillBetween h from to → StillBetween (h ++ e ∷ []) from to
  still-grow from to within s i b there late before = s i b (At-back h (e ∷ []) i (Delivered b) there (omega (arith, before, within))) late before

  -- no record is that entry
  pub still-on : (from : ℕ) → ((b : List ℕ) → e ≡ Delivered b → ⊥) → StillBetween h from (length h) → StillBetween (h ++ e ∷ []) from (length (h ++ e ∷ []))
  still-on from other s i b there late before = by (At-cases h e i (Delivered b) there)
    where
      by : At h i (Delivered b) ⊎ ((i ≡ length h) × (e ≡ Delivered b)) → ⊥
      by (inl was) = s i b was late (At-below h i (Delivered b) was)
      by (inr now) = other b now.1

  pub was-left-grow : (from : ℕ) (f : List ℕ) → WasLeft m from h f → WasLeft m from (h ++ e ∷ []) f
  was-left-grow from f w = record {
    k = w.k;
    late = w.late;
    soon = let low = w.soon in let more = length_last h e in omega (arith, low, more);
    still = let low = w.soon in still-grow from w.k (omega (arith, low)) w.still;
    left = left-grow w.k f w.soon w.left;
    gives = gives-grow w.k f w.soon w.gives;
  }

  -- an operation is under way still, where this entry doesn't answer it
  pub under-grow : (lane x : ℕ) (op : Op) → ((line : ℕ) (answer : Answer) → e ≡ Answered lane line answer → ⊥) → UnderWay h lane x (length h) op
      → UnderWay (h ++ e ∷ []) lane x (length (h ++ e ∷ [])) op
  under-grow lane x op other u = record {
    line = u.line;
    began = At-grow h (e ∷ []) x (Began lane u.line op) u.began;
    before = let low = u.before in let more = length_last h e in omega (arith, low, more);
    unanswered = λ a. by a (At-cases h e a.y (Answered a.lane a.ended.line a.answer) a.ended.answered);
  }
    where
      began-is : (a b c d : ℕ) (o p : Op) → Began a b o ≡ Began c d p → a ≡ c
      began-is a b c d o p q = cc

      by : (a : AnsweredBefore (h ++ e ∷ []) x (length (h ++ e ∷ []))) → At h a.y (Answered a.lane a.ended.line a.answer) ⊎ ((a.y ≡ length h) × (e ≡ Answered a.lane a.ended.line a.answer)) → ⊥
      by a (inl there) =
          let low = At-below h a.y (Answered a.lane a.ended.line a.answer) there in
          u.unanswered (record { lane = a.lane; op = a.op; y = a.y; answer = a.answer; ended = ended-back h e a.lane x a.op a.y a.answer low a.ended; before = low })
      by a (inr now) =
          let began = At-back h (e ∷ []) x (Began a.lane a.ended.line a.op) a.ended.began u.before in
          let same = began-is a.lane a.ended.line lane u.line a.op op (began-one x _ _ began u.began) in
          other a.ended.line a.answer (now.1 ∙ ap (λ (n : ℕ). Answered n a.ended.line a.answer) same)
        where
          began-one : (i : ℕ) (a b : Entry) → At h i a → At h i b → a ≡ b
          began-one i a b one two = At-one h i a b one two
