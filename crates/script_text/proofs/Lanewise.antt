-- Vectors that are computed lane by lane from the digits of a text, and what they tell of each digit.
use Rattle.std.proofs.Common.{◌≡◌, ℕ, ◌+◌, ◌-◌, ◌*◌, ◌/◌, ◌%◌, ◌<◌, suc, zero, List, [], ◌∷◌, Bool, true, false, cond, ◌&&◌, ◌==◌, Option, Some, None, map, length, replicate, bit_or, nat_lt, refl, ap, ◌∙◌, arith, w8, Fits, inl, inr}
use Rattle.std.proofs.lemmas.Bool.{and_parts, cases_lt, eqb-true}
use Rattle.std.proofs.lemmas.Bool.Decides.{nat_tests}
use Rattle.std.proofs.lemmas.Nat.{le_or_l, le_or_r, or_lt}
use Rattle.std.proofs.lemmas.Simd.{map-map, zip2_of_maps, splat_is_map}
use Rattle.std.specs.Simd.Lanes.{zip2, sel_l, fold_l, top, Each1, number_l, digits_l}
use Rattle.hex.specs.Hex.{hex_digit_value}
use Rattle.script_text.specs.Digits.{digit_of, pairs_of}

-- a vector is computed from another, lane by lane
pub record Lanewise (digits lanes : List ℕ) : Type 0 where
  pub of : ℕ → ℕ
  pub is : lanes ≡ map of digits

pub map-id : (xs : List ℕ) → xs ≡ map (λ x. x) xs
map-id [] = refl
map-id (x ∷ xs) = ap (λ (l : List ℕ). x ∷ l) (map-id xs)

abbrev pub itself : (digits : List ℕ) → Lanewise digits digits
itself digits = record { of = λ x. x; is = map-id digits }

abbrev pub splat : (digits : List ℕ) (n value : ℕ) → length digits ≡ n → Lanewise digits (replicate n value)
splat digits n value long = record { of = λ _. value; is = splat_is_map digits n value long }

abbrev pub lanes2 : {digits xs ys : List ℕ} (f : ℕ → ℕ → ℕ) → Lanewise digits xs → Lanewise digits ys → Lanewise digits (zip2 f xs ys)
lanes2 {digits} f x y = record { of = λ d. f (x.of d) (y.of d); is = zip2_of_maps f x.of y.of digits x.is y.is }

pub sel_of_maps : (digits : List ℕ) (t : ℕ → Bool) (f g : ℕ → ℕ) → sel_l (map t digits) (map f digits) (map g digits) ≡ map (λ d. cond (t d) (f d) (g d)) digits
sel_of_maps [] t f g = refl
sel_of_maps (d ∷ digits) t f g = ap (λ (l : List ℕ). cond (t d) (f d) (g d) ∷ l) (sel_of_maps digits t f g)

abbrev pub chosen : {digits tests xs ys : List ℕ} (t : ℕ → Bool) → Lanewise digits tests → Lanewise digits xs → Lanewise digits ys
    → Lanewise digits (sel_l (map t tests) xs ys)
chosen {digits} {tests} {xs} {ys} t test x y = record {
  of = λ d. cond (t (test.of d)) (x.of d) (y.of d);
  is = ap (λ (l : List ℕ). sel_l (map t l) xs ys) test.is
      ∙ ap (λ (l : List Bool). sel_l l xs ys) (map-map t test.of digits)
      ∙ ap (λ (l : List ℕ). sel_l (map (λ d. t (test.of d)) digits) l ys) x.is
      ∙ ap (λ (l : List ℕ). sel_l (map (λ d. t (test.of d)) digits) (map x.of digits) l) y.is
      ∙ sel_of_maps digits (λ d. t (test.of d)) x.of y.of;
}

-- what the operators of bytes give
abbrev pub plus : ℕ → ℕ → ℕ
plus a b = (a + b) % 256

abbrev pub minus : ℕ → ℕ → ℕ
minus a b = (a + (256 - b)) % 256

abbrev pub is_less : ℕ → ℕ → ℕ
is_less a b = cond (nat_lt a b) 255 0

-- ---- a lane that tells of each byte whether it is a digit, and its value

abbrev pub same : Option ℕ → Option ℕ → Bool
same None None = true
same None (Some b) = false
same (Some a) None = false
same (Some a) (Some b) = a == b

same-eq : (a b : Option ℕ) → same a b ≡ true → a ≡ b
same-eq None None h = refl
same-eq None (Some b) h = cc h
same-eq (Some a) None h = cc h
same-eq (Some a) (Some b) h = ap (λ (v : ℕ). Some v) (eqb-true a b h)

-- the test of each byte below a number, which computes
abbrev pub tells_below : ℕ → (ℕ → ℕ) → Bool
tells_below zero f = true
tells_below (suc n) f = same (digit_of (f n)) (hex_digit_value n) && tells_below n f

tells_at : (n : ℕ) (f : ℕ → ℕ) (d : ℕ) → tells_below n f ≡ true → d < n → digit_of (f d) ≡ hex_digit_value d
tells_at zero f d h lt = absurd (omega arith)
tells_at (suc n) f d h lt =
    let parts = and_parts (same (digit_of (f n)) (hex_digit_value n)) (tells_below n f) h in
    elim (cases_lt d n) [
      | inl below ↦ tells_at n f d parts.1 below
      | inr top ↦ let e : d ≡ n = omega arith in rw e (same-eq (digit_of (f n)) (hex_digit_value n) parts.0)
    ]

told : (f : ℕ → ℕ) (digits : List ℕ) → tells_below 256 f ≡ true → Each1 (Fits w8) digits → map digit_of (map f digits) ≡ map hex_digit_value digits
told f [] h fits = refl
told f (d ∷ digits) h fits =
    ap (λ (v : Option ℕ). v ∷ map digit_of (map f digits)) (tells_at 256 f d h fits.0.fits)
    ∙ ap (λ (l : List (Option ℕ)). hex_digit_value d ∷ l) (told f digits h fits.1)

-- the least of what tells numerals and what tells letters
abbrev pub numeral_of : ℕ → ℕ
numeral_of d = minus (cond (top 7 (is_less (plus d 198) 6)) 6 (plus d 198)) 246

abbrev pub letter_of : ℕ → ℕ
letter_of d = minus (bit_or (minus d 1) 32) 86

abbrev pub lane_of : ℕ → ℕ
lane_of d = cond (top 7 (is_less (numeral_of d) (letter_of d))) (numeral_of d) (letter_of d)

lane_tells : tells_below 256 lane_of ≡ true
lane_tells = refl

pub tells : {digits lanes : List ℕ} (l : Lanewise digits lanes) → l.of ≡ lane_of → Each1 (Fits w8) digits → map digit_of lanes ≡ map hex_digit_value digits
tells {digits} l e fits = ap (λ (v : List ℕ). map digit_of v) l.is ∙ told l.of digits (ap (λ (f : ℕ → ℕ). tells_below 256 f) e ∙ lane_tells) fits

-- ---- values below sixteen

abbrev pub IsSmall : ℕ → Type 0
IsSmall value = value < 16

-- both vectors have values below sixteen where what has the bits of both has
pub small_parts : (xs ys : List ℕ) → length xs ≡ length ys → Each1 IsSmall (zip2 bit_or xs ys) → Each1 IsSmall xs × Each1 IsSmall ys
small_parts [] [] e h = (tt, tt)
small_parts [] (y ∷ ys) e h = absurd (omega (arith, e))
small_parts (x ∷ xs) [] e h = absurd (omega (arith, e))
small_parts (x ∷ xs) (y ∷ ys) e h =
    let rest = small_parts xs ys (omega (arith, e)) h.1 in
    ((omega (arith, le_or_l x y, h.0), rest.0), (omega (arith, le_or_r x y, h.0), rest.1))

pub small_both : (xs ys : List ℕ) → Each1 IsSmall xs → Each1 IsSmall ys → Each1 IsSmall (zip2 bit_or xs ys)
small_both [] ys h k = tt
small_both (x ∷ xs) [] h k = tt
small_both (x ∷ xs) (y ∷ ys) h k = (or_lt 4 x y h.0 k.0, small_both xs ys h.1 k.1)

-- the same of what has the bits of each lane
fold_parts : (a : ℕ) (xs : List ℕ) → fold_l bit_or a xs < 16 → (a < 16) × Each1 IsSmall xs
fold_parts a [] h = (h, tt)
fold_parts a (x ∷ xs) h =
    let rest = fold_parts (bit_or a x) xs h in
    (omega (arith, le_or_l a x, rest.0), (omega (arith, le_or_r a x, rest.0), rest.1))

fold_both : (a : ℕ) (xs : List ℕ) → a < 16 → Each1 IsSmall xs → fold_l bit_or a xs < 16
fold_both a [] h k = h
fold_both a (x ∷ xs) h k = fold_both (bit_or a x) xs (or_lt 4 a x h k.0) k.1

below_true : (a b : ℕ) → nat_lt a b ≡ true → a < b
below_true a b h = grind (arith, nat_tests, h)

true_below : (a b : ℕ) → a < b → nat_lt a b ≡ true
true_below a b h = grind (arith, nat_tests, h)

pub all_small : (xs : List ℕ) → nat_lt (fold_l bit_or 0 xs) 16 ≡ true → Each1 IsSmall xs
all_small xs h = (fold_parts 0 xs (below_true (fold_l bit_or 0 xs) 16 h)).1

pub small_all : (xs : List ℕ) → Each1 IsSmall xs → nat_lt (fold_l bit_or 0 xs) 16 ≡ true
small_all xs h = true_below (fold_l bit_or 0 xs) 16 (fold_both 0 xs (omega arith) h)

-- ---- two values are joined to a byte

-- the high byte of what two values in a lane of sixteen bits give
abbrev pub high_byte : ℕ → ℕ
high_byte lane = lane * 4097 % 65536 / 256

joined_pair : (high low : ℕ) → high < 16 → low < 16 → high_byte (high + 256 * low) ≡ high * 16 + low
joined_pair high low h l = omega arith

pub joins : (n : ℕ) (values : List ℕ) → length values ≡ 2 * n → Each1 IsSmall values → map high_byte (digits_l 65536 n (number_l 256 values)) ≡ pairs_of values
joins zero [] e h = refl
joins zero (a ∷ values) e h = absurd (omega (arith, e))
joins (suc n) [] e h = absurd (omega (arith, e))
joins (suc n) (a ∷ []) e h = absurd (omega (arith, e))
joins (suc n) (a ∷ b ∷ values) e h =
    let more = number_l 256 values in
    let whole : a + 256 * (b + 256 * more) ≡ (a + 256 * b) + 65536 * more = omega arith in
    let low : (a + 256 * (b + 256 * more)) % 65536 ≡ a + 256 * b = omega (arith, h.0, h.1.0) in
    let up : (a + 256 * (b + 256 * more)) / 65536 ≡ more = omega (arith, h.0, h.1.0) in
    ap (λ (l : ℕ). high_byte l ∷ map high_byte (digits_l 65536 n ((a + 256 * (b + 256 * more)) / 65536))) low
    ∙ ap (λ (l : ℕ). high_byte (a + 256 * b) ∷ map high_byte (digits_l 65536 n l)) up
    ∙ ap (λ (l : ℕ). l ∷ map high_byte (digits_l 65536 n more)) (joined_pair a b h.0 h.1.0)
    ∙ ap (λ (l : List ℕ). (a * 16 + b) ∷ l) (joins n values (omega (arith, e)) h.1.1)
