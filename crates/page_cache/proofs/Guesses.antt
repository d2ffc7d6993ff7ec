-- Places of the order that were guessed.
use Rattle.std.proofs.Common.{◌≡◌, ◌≢◌, ◌<◌, ◌≤◌, ℕ, ◌+◌, ◌-◌, Bool, true, false, ◌&&◌, nat_lt, List, length, Option, refl, sym, ap, ◌∙◌, arith}
use Rattle.std.proofs.lemmas.Bool.{and_parts, ltb-true, lt-ltb}
use Rattle.page_cache.specs.declared.place.PagePlace.{PagePlace}
use Rattle.page_cache.specs.Sorted.{is_before, is_before_at, held_at, IsSorted, IsGap}
use Rattle.page_cache.proofs.SortedSlots.{parted}

module _ (held : List (Option PagePlace)) (sorted : List ℕ) (file : List ℕ) (bound : Option ℕ) where
  pub before-at : (at : ℕ) → is_before_at file bound held sorted at ≡ true → (at < length sorted) × (is_before file bound (held_at held sorted at) ≡ true)
  before-at at h =
      let parts = and_parts (nat_lt at (length sorted)) (is_before file bound (held_at held sorted at)) h in
      (ltb-true at (length sorted) parts.0, parts.1)

  pub not-before-at : (at : ℕ) → is_before_at file bound held sorted at ≡ false → at < length sorted → is_before file bound (held_at held sorted at) ≡ false
  not-before-at at h within = sym (ap (λ b. b && is_before file bound (held_at held sorted at)) (lt-ltb at (length sorted) within)) ∙ h

  -- a gap is known by the slots on its two sides
  module _ {count : ℕ} (s : IsSorted count held sorted) where
    sides : (at : ℕ) → at ≤ length sorted → (at < length sorted → is_before file bound (held_at held sorted at) ≡ false)
        → (0 < at → is_before file bound (held_at held sorted (at - 1)) ≡ true) → IsGap held sorted file bound at
    sides at inside after before = record {
      inside = inside;
      before = λ i low. parted held sorted s file bound i (at - 1) (omega arith) (omega arith) (before (omega arith));
      after = λ i from low. by i from low (is_before file bound (held_at held sorted i)) refl;
    }
      where
        by : (i : ℕ) → at ≤ i → i < length sorted → (b : Bool) → is_before file bound (held_at held sorted i) ≡ b → b ≡ false
        by i from low false e = refl
        by i from low true e = absurd (
            let there : is_before file bound (held_at held sorted at) ≡ true = parted held sorted s file bound at i from low e in
            let not_there = after (omega arith) in cc)

    -- behind a slot that stands before the page, and before one that doesn't
    pub gap-behind : (at : ℕ) → is_before_at file bound held sorted at ≡ true → is_before_at file bound held sorted (at + 1) ≡ false → IsGap held sorted file bound (at + 1)
    gap-behind at yes_before not_before =
        let it = before-at at yes_before in
        let within = it.0 in
        sides (at + 1) (omega arith) (not-before-at (at + 1) not_before) (λ _. ap (λ i. is_before file bound (held_at held sorted i)) (omega arith) ∙ it.1)

    -- the same of the slots on both sides
    pub gap-between : (at : ℕ) → at ≢ 0 → is_before_at file bound held sorted at ≡ false → is_before_at file bound held sorted (at - 1) ≡ true → IsGap held sorted file bound at
    gap-between at some not_before yes_before =
        let it = before-at (at - 1) yes_before in
        let within = it.0 in
        sides at (omega arith) (not-before-at at not_before) (λ _. it.1)

    -- in front of them all
    pub gap-first : (at : ℕ) → at ≡ 0 → is_before_at file bound held sorted at ≡ false → IsGap held sorted file bound 0
    gap-first at first not_before =
        sides 0 (omega arith) (not-before-at 0 (ap (is_before_at file bound held sorted) (sym first) ∙ not_before)) (λ h. absurd (omega arith))
