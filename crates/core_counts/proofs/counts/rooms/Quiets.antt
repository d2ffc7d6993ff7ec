-- An entry at which no operation makes a step: what the session may still make of the COMMITs of the file is as it was.
use Rattle.core_counts.proofs.Prelude.{◌≡◌, ◌<◌, ◌≤◌, ◌-◌, ◌⊎◌, inl, inr, ℕ, List, [], ◌∷◌, ◌++◌, length, Option, Some, None, refl, sym, ap, subst, arith, Waiting, next_xid, waiting_at, Entry, Began, Answered, Sent, Delivered, Failed, Dialed, Executed, Foreign, Flushed, Reboot, Clock, Op, Placed, NoneBegan, At, HasXid, Terms, At-back, At-below, At-cases, length_last, Repeat, Shelf, Machine, Purpose, View, SameCalls, count, each-map, Story}
use Rattle.core_counts.proofs.counts.rooms.Calls.{Such, pots}
use Rattle.core_counts.proofs.counts.rooms.Numbers.{In, pot, pot_if, sum_of, sum-less, many-more, writer_here}
use Rattle.core_counts.proofs.counts.rooms.Posts.{Holds}
use Rattle.core_counts.proofs.counts.rooms.Purses.{Purse}

-- no write, fill or put
pub none-here : (n : ℕ) (e : Entry) → ((lane line : ℕ) (op : Op) → e ≡ Began lane line op → ⊥) → length (writer_here n e) ≡ 0
none-here n (Began lane line op) none = absurd (none lane line op refl)
none-here n (Answered lane line answer) none = refl
none-here n (Sent bytes) none = refl
none-here n (Delivered bytes) none = refl
none-here n Failed none = refl
none-here n (Dialed port) none = refl
none-here n (Executed xid call reply) none = refl
none-here n (Foreign call reply) none = refl
none-here n (Flushed file from len) none = refl
none-here n (Reboot verf) none = refl
none-here n (Clock ms) none = refl

none-later : (h : List Entry) (e : Entry) (i : ℕ) → i < length h → NoneBegan h i → NoneBegan (h ++ e ∷ []) i
none-later h e i within none j lane line op at early = none j lane line op (At-back h (e ∷ []) j (Began lane line op) at (omega (arith, early, within))) early

module _ (terms : Terms) (H : List Entry) (f : List ℕ) where
  -- the records that were sent, one entry later
  pub sents-on : (h : List Entry) (e : Entry) (v : View) (p : Purse terms H f h v) (all : List ℕ) → ((y : ℕ) → In y p.made → In y all)
      → ((bytes : List ℕ) → e ≡ Sent bytes → (xid : ℕ) → HasXid bytes xid → Such f bytes → In xid all) → (i xid : ℕ) (bytes : List ℕ) → At (h ++ e ∷ []) i (Sent bytes) → HasXid bytes xid → Such f bytes
      → NoneBegan (h ++ e ∷ []) i ⊎ In xid all
  sents-on h e v p all more sends i xid bytes at named such = by (At-cases h e i (Sent bytes) at)
    where
      was : At h i (Sent bytes) → NoneBegan h i ⊎ In xid p.made → NoneBegan (h ++ e ∷ []) i ⊎ In xid all
      was there (inl none) = inl (none-later h e i (At-below h i (Sent bytes) there) none)
      was there (inr in_) = inr (more xid in_)

      by : At h i (Sent bytes) ⊎ ((i ≡ length h) × (e ≡ Sent bytes)) → NoneBegan (h ++ e ∷ []) i ⊎ In xid all
      by (inl there) = was there (p.sents i xid bytes there named such)
      by (inr now) = inr (sends bytes now.1 xid named such)

  pot-still : (old new : List (ℕ × Waiting Purpose)) → SameCalls old new → (rs : List Repeat) (y : ℕ) → pot new rs y ≤ pot old rs y
  pot-still old new s rs y = by (waiting_at y new) refl
    where
      by : (o : Option (Waiting Purpose)) → waiting_at y new ≡ o → pot_if o (count y rs) ≤ pot old rs y
      by None is = omega arith
      by (Some w) is =
          let k = s.waited y w is in
          let same : pot old rs y ≡ 3 - count y rs = ap (λ (o : Option (Waiting Purpose)). pot_if o (count y rs)) k.waited in
          omega (arith, same)

  pub quiet-purse : (h : List Entry) (e : Entry) (old new : View) → ((lane line : ℕ) (op : Op) → e ≡ Began lane line op → ⊥) → new.shelf ≡ old.shelf → next_xid new.calls ≡ next_xid old.calls
      → SameCalls old.calls.calls new.calls.calls → (p : Purse terms H f h old)
      → ((P : ℕ → ℕ → Machine → Op → Type 0) → Story P h old → Story P (h ++ e ∷ []) new)
      → ((bytes : List ℕ) → e ≡ Sent bytes → (xid : ℕ) → HasXid bytes xid → Such f bytes → In xid p.made) → Purse terms H f (h ++ e ∷ []) new
  quiet-purse h e old new none shelf next calls p story sends = record {
    made = p.made;
    waiting = record {
      first = let first = p.waiting.first in omega (arith, first, next);
      some = p.waiting.some;
      below = λ y in_. let low = p.waiting.below y in_ in omega (arith, low, next);
      waits = λ xid w at such. let k = calls.waited xid w at in p.waiting.waits xid k.was k.waited (subst (Such f) k.bytes such);
    };
    sents = sents-on h e old p p.made (λ y in_. in_) sends;
    stable = p.stable;
    apart = p.apart;
    each = p.each;
    early = each-map (λ (o : Placed). o.0 < length h) (λ (o : Placed). o.0 < length (h ++ e ∷ [])) (λ o low. let long = length_last h e in omega (arith, low, long)) p.stable p.early;
    q = p.q;
    story = subst (λ (s : Shelf). Story (λ number x machine op. Holds f p.stable x s.seq s.back (p.q number) machine) (h ++ e ∷ []) new) (sym shelf)
        (story (λ number x machine op. Holds f p.stable x old.shelf.seq old.shelf.back (p.q number) machine) p.story);
    fits =
        let less = sum-less (pot old.calls.calls old.shelf.repeats) (pot new.calls.calls old.shelf.repeats) p.made (λ y in_. pot-still old.calls.calls new.calls.calls calls old.shelf.repeats y) in
        let table : pots f new p.made ≡ sum_of (pot new.calls.calls old.shelf.repeats) p.made = ap (λ (s : Shelf). sum_of (pot new.calls.calls s.repeats) p.made) shelf in
        let fits = p.fits in
        let more = many-more h e in
        let zero = none-here (length h) e none in
        omega (arith, less, table, fits, more, zero);
  }
