-- The lines of an input by its line feeds.
use Rattle.std.proofs.Common.{◌≡◌, ◌<◌, ◌+◌, ℕ, suc, List, [], ◌∷◌, ◌++◌, length, take, true, false, cond, not, position, nat_lt, Some, None, refl, sym, ap, arith}
use Rattle.std.specs.List.{position_or_len}
use Rattle.std.proofs.lemmas.Bool.{eqb-true, ltb-true, ltb-false}
use Rattle.std.proofs.lemmas.List.Sums.{prefix_len-le-length}
use Rattle.script_text.specs.Lines.{is_feed}
use Rattle.script_batches.specs.Batches.{onto_first, raw_lines}
use Rattle.script_batches.specs.Taking.{EndsLine, HasNoFeed}

-- ---- where the first line feed stands

none-at : (bytes : List ℕ) → position_or_len is_feed bytes ≡ length bytes → HasNoFeed bytes
none-at [] e = tt
none-at (b ∷ bytes) e = elim (is_feed b) as (λ t. cond (not t) (1 + position_or_len is_feed bytes) 0 ≡ suc (length bytes) → (t ≡ false) × HasNoFeed bytes) [
  | true ↦ λ h. absurd (omega (arith, h))
  | false ↦ λ h. (refl, none-at bytes (omega (arith, h)))
] e

-- there is none
pub no-feed : (bytes : List ℕ) → position is_feed bytes ≡ None → HasNoFeed bytes
no-feed bytes e = elim (nat_lt (position_or_len is_feed bytes) (length bytes)) as (λ t. nat_lt (position_or_len is_feed bytes) (length bytes) ≡ t → cond t (Some (position_or_len is_feed bytes)) None ≡ None → HasNoFeed bytes) [
  | true ↦ λ h k. absurd cc
  | false ↦ λ h k. none-at bytes (omega (arith, ltb-false _ _ h, prefix_len-le-length (λ b. not (is_feed b)) bytes))
] refl e

first-at : (bytes : List ℕ) (n : ℕ) → position_or_len is_feed bytes ≡ n → n < length bytes → EndsLine (take (suc n) bytes)
first-at [] n e h = absurd (omega (arith, h))
first-at (b ∷ bytes) n e h = elim (is_feed b) as (λ t. is_feed b ≡ t → cond (not t) (1 + position_or_len is_feed bytes) 0 ≡ n → EndsLine (take (suc n) (b ∷ bytes))) [
  | true ↦ λ is k. at-once is (sym k)
  | false ↦ λ is k. later (λ m f lt. first-at bytes m f lt) is k
] refl e
  where
    at-once : is_feed b ≡ true → n ≡ 0 → EndsLine (take (suc n) (b ∷ bytes))
    at-once is k = rw k (record { front = []; is = ap (λ (c : ℕ). c ∷ []) (eqb-true b 10 is); before = tt })

    later : ((m : ℕ) → position_or_len is_feed bytes ≡ m → m < length bytes → EndsLine (take (suc m) bytes))
        → is_feed b ≡ false → 1 + position_or_len is_feed bytes ≡ n → EndsLine (take (suc n) (b ∷ bytes))
    later rest is k =
        let r = rest (position_or_len is_feed bytes) refl (omega (arith, k, h)) in
        let next : n ≡ suc (position_or_len is_feed bytes) = omega (arith, k) in
        rw next (record { front = b ∷ r.front; is = ap (λ (t : List ℕ). b ∷ t) r.is; before = (is, r.before) })

-- it stands there
pub feed-at : (bytes : List ℕ) (n : ℕ) → position is_feed bytes ≡ Some n → EndsLine (take (suc n) bytes)
feed-at bytes n e = elim (nat_lt (position_or_len is_feed bytes) (length bytes)) as (λ t. nat_lt (position_or_len is_feed bytes) (length bytes) ≡ t → cond t (Some (position_or_len is_feed bytes)) None ≡ Some n → EndsLine (take (suc n) bytes)) [
  | true ↦ λ h k. let same : position_or_len is_feed bytes ≡ n = cc in first-at bytes n same (let lt = ltb-true _ _ h in omega (arith, lt, same))
  | false ↦ λ h k. absurd cc
] refl e

-- ---- lines

-- a line with its feed comes first
pub raw-first : (front more : List ℕ) → HasNoFeed front → raw_lines (front ++ 10 ∷ more) ≡ (front ++ 10 ∷ []) ∷ raw_lines more
raw-first [] more h = refl
raw-first (b ∷ front) more h = rw h.0 (ap (onto_first b) (raw-first front more h.1))

-- bytes without a feed are one line, where there are any
pub raw-open : (b : ℕ) (bytes : List ℕ) → HasNoFeed (b ∷ bytes) → raw_lines (b ∷ bytes) ≡ (b ∷ bytes) ∷ []
raw-open b [] h = rw h.0 refl
raw-open b (c ∷ bytes) h = rw h.0 (ap (onto_first b) (raw-open c bytes h.1))

pub no-feed-append : (front back : List ℕ) → HasNoFeed front → HasNoFeed back → HasNoFeed (front ++ back)
no-feed-append [] back h k = k
no-feed-append (b ∷ front) back h k = (h.0, no-feed-append front back h.1 k)
