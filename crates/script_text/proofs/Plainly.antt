-- Marks of bytes, the least of them, and what they tell.
use Rattle.std.proofs.Common.{◌≡◌, ◌<◌, ◌≤◌, ◌+◌, ◌*◌, ℕ, zero, suc, List, [], ◌∷◌, Bool, true, false, not, cond, ◌&&◌, ◌||◌, ◌==◌, map, length, take, drop, nat_lt, refl, sym, ap, subst, ◌∙◌, arith, w8, Fits, inl, inr}
use Rattle.std.proofs.lemmas.Bool.{and_parts, cases_lt, eqb-true, ltb-true, ltb-false, lt-ltb}
use Rattle.std.specs.Prelude.{IsTrue}
use Rattle.std.specs.Simd.Lanes.{zip2, sel_l, top, Each1, chunk, mask_l}
use Rattle.script_text.specs.Plain.{IsPlain, IsHigh, mark}

pub map-id : (xs : List ℕ) → xs ≡ map (λ x. x) xs
map-id [] = refl
map-id (x ∷ xs) = ap (λ (l : List ℕ). x ∷ l) (map-id xs)

-- the test of each byte below a number, which computes
abbrev pub marks_below : ℕ → Bool
marks_below zero = true
marks_below (suc n) = (not (nat_lt 128 (mark n)) || (nat_lt n 128 && not (n == 10))) && marks_below n

one_marks : (b : ℕ) (high : Bool) → (not high || (nat_lt b 128 && not (b == 10))) ≡ true → high ≡ true → IsPlain b
one_marks b true h e =
    let parts = and_parts (nat_lt b 128) (not (b == 10)) h in
    (ltb-true b 128 parts.0, λ ten. absurd (ten_not (rw ten at parts.1)))
  where
    ten_not : not (10 == 10) ≡ true → ⊥
    ten_not k = cc k
one_marks b false h e = cc e

marks_at : (n b : ℕ) → marks_below n ≡ true → b < n → nat_lt 128 (mark b) ≡ true → IsPlain b
marks_at zero b h lt high = absurd (omega arith)
marks_at (suc n) b h lt high =
    let parts = and_parts (not (nat_lt 128 (mark n)) || (nat_lt n 128 && not (n == 10))) (marks_below n) h in
    elim (cases_lt b n) [
      | inl below ↦ marks_at n b parts.1 below high
      | inr top ↦ let e : b ≡ n = omega arith in subst IsPlain (sym e) (one_marks n (nat_lt 128 (mark n)) parts.0 (rw e at high))
    ]

marks : marks_below 256 ≡ true
marks = refl

pub plain_of : (bytes : List ℕ) → Each1 (Fits w8) bytes → Each1 IsHigh (map mark bytes) → Each1 IsPlain bytes
plain_of [] fits h = tt
plain_of (b ∷ bytes) fits h = (marks_at 256 b marks fits.0.fits (lt-ltb 128 (mark b) h.0), plain_of bytes fits.1 h.1)

-- what `simd_min` leaves
abbrev pub is_less : ℕ → ℕ → ℕ
is_less a b = cond (nat_lt a b) 255 0

abbrev pub min_l : List ℕ → List ℕ → List ℕ
min_l xs ys = sel_l (map (top 7) (zip2 is_less xs ys)) xs ys

pub least_parts : (xs ys : List ℕ) → length xs ≡ length ys → Each1 IsHigh (min_l xs ys) → Each1 IsHigh xs × Each1 IsHigh ys
least_parts [] [] e h = (tt, tt)
least_parts [] (y ∷ ys) e h = absurd (omega (arith, e))
least_parts (x ∷ xs) [] e h = absurd (omega (arith, e))
least_parts (x ∷ xs) (y ∷ ys) e h =
    let rest = least_parts xs ys (omega (arith, e)) h.1 in
    let both = one (nat_lt x y) refl h.0 in
    ((both.0, rest.0), (both.1, rest.1))
  where
    one : (b : Bool) → nat_lt x y ≡ b → 128 < cond (top 7 (cond b 255 0)) x y → IsHigh x × IsHigh y
    one true t k = let lt = ltb-true x y t in (k, omega (arith, k, lt))
    one false t k = (omega (arith, k, ltb-false x y t), k)

pub length-least : (xs ys : List ℕ) → length xs ≡ length ys → length (min_l xs ys) ≡ length xs
length-least [] [] e = refl
length-least [] (y ∷ ys) e = absurd (omega (arith, e))
length-least (x ∷ xs) [] e = absurd (omega (arith, e))
length-least (x ∷ xs) (y ∷ ys) e = ap suc (length-least xs ys (omega (arith, e)))

-- ---- lanes none of which is low

low_none : (xs : List ℕ) → mask_l (map (λ x. nat_lt x 129) xs) ≡ 0 → Each1 IsHigh xs
low_none [] e = tt
low_none (x ∷ xs) e = one (nat_lt x 129) refl e (λ k. low_none xs k)
  where
    one : (b : Bool) → nat_lt x 129 ≡ b → mask_l (b ∷ map (λ x. nat_lt x 129) xs) ≡ 0 → (mask_l (map (λ x. nat_lt x 129) xs) ≡ 0 → Each1 IsHigh xs) → IsHigh x × Each1 IsHigh xs
    one true t k rest = absurd (omega (arith, k))
    one false t k rest = (omega (arith, ltb-false x 129 t), rest (omega (arith, k)))

pub none_low : (mask : ℕ) (lanes : List ℕ) → mask ≡ mask_l (map (λ x. nat_lt x 129) lanes) → IsTrue (not (not (mask == 0))) → Each1 IsHigh lanes
none_low mask lanes e t = low_none lanes (sym e ∙ eqb-true mask 0 (twice (mask == 0) t))
  where
    twice : (b : Bool) → IsTrue (not (not b)) → b ≡ true
    twice true h = refl
    twice false h = cc h

-- ---- pieces of a text

pub each_plus : (P : ℕ → Type 0) (bs : List ℕ) (d k : ℕ) → Each1 P (take d bs) → Each1 P (take k (drop d bs)) → Each1 P (take (d + k) bs)
each_plus P bs zero k h g = let e : 0 + k ≡ k = omega arith in rw e g
each_plus P [] (suc d) k h g = let e : suc d + k ≡ suc (d + k) = omega arith in rw e tt
each_plus P (b ∷ bs) (suc d) k h g = let e : suc d + k ≡ suc (d + k) = omega arith in rw e (h.0, each_plus P bs d k h.1 g)

abbrev nothing : List ℕ
nothing = []

drop_none : (k : ℕ) → drop k nothing ≡ nothing
drop_none zero = refl
drop_none (suc k) = refl

pub drop_plus : (bs : List ℕ) (d k : ℕ) → drop (d + k) bs ≡ drop k (drop d bs)
drop_plus bs zero k = let e : 0 + k ≡ k = omega arith in rw e refl
drop_plus [] (suc d) k = drop_none (suc d + k) ∙ sym (drop_none k)
drop_plus (b ∷ bs) (suc d) k = let e : suc d + k ≡ suc (d + k) = omega arith in rw e (drop_plus bs d k)

-- half a block, of four vectors
pub four : (text : List ℕ) (at : ℕ) → Each1 IsPlain (chunk at 32 text) → Each1 IsPlain (chunk (at + 32) 32 text) → Each1 IsPlain (chunk (at + 64) 32 text) → Each1 IsPlain (chunk (at + 96) 32 text)
    → Each1 IsPlain (chunk at 128 text)
four text at a b c d =
    let from = drop at text in
    let second = subst (λ (l : List ℕ). Each1 IsPlain (take 32 l)) (drop_plus text at 32) b in
    let third = subst (λ (l : List ℕ). Each1 IsPlain (take 32 l)) (drop_plus text at 64) c in
    let fourth = subst (λ (l : List ℕ). Each1 IsPlain (take 32 l)) (drop_plus text at 96) d in
    each_plus IsPlain from 96 32 (each_plus IsPlain from 64 32 (each_plus IsPlain from 32 32 a second) third) fourth

-- both halves of a block
pub halves : (text : List ℕ) (at : ℕ) → Each1 IsPlain (chunk at 128 text) → Each1 IsPlain (chunk (at + 128) 128 text) → Each1 IsPlain (chunk at 256 text)
halves text at front back = each_plus IsPlain (drop at text) 128 128 front (subst (λ (l : List ℕ). Each1 IsPlain (take 128 l)) (drop_plus text at 128) back)

-- a vector whose marks are high
pub vector : (text lanes : List ℕ) (at : ℕ) → Each1 (Fits w8) (chunk at 32 text) → lanes ≡ map mark (chunk at 32 text) → Each1 IsHigh lanes → Each1 IsPlain (chunk at 32 text)
vector text lanes at fits e h = plain_of (chunk at 32 text) fits (subst (λ (l : List ℕ). Each1 IsHigh l) e h)

-- the next block is plain, too
pub next_block : (text : List ℕ) (block : ℕ) → Each1 IsPlain (take (256 * block) text) → Each1 IsPlain (chunk (256 * block) 256 text) → Each1 IsPlain (take (256 * (block + 1)) text)
next_block text block h g = let e : 256 * (block + 1) ≡ 256 * block + 256 = omega arith in rw e (each_plus IsPlain text (256 * block) 256 h g)

-- a front of a plain front
pub fewer : (text : List ℕ) (n m : ℕ) → n ≤ m → Each1 IsPlain (take m text) → Each1 IsPlain (take n text)
fewer text zero m le h = tt
fewer text (suc n) zero le h = absurd (omega (arith, le))
fewer [] (suc n) (suc m) le h = tt
fewer (b ∷ text) (suc n) (suc m) le h = (h.0, fewer text n m (omega (arith, le)) h.1)
