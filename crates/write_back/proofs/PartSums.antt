-- Bytes of the parts of a piece, by write.
use Rattle.std.proofs.Common.{◌≡◌, ◌<◌, ◌≤◌, ◌^◌, ℕ, zero, suc, ◌+◌, List, [], ◌∷◌, ◌++◌, length, get_or, take, refl, sym, ap, ◌∙◌, arith}
use Rattle.std.proofs.lemmas.Bool.{eq-eqb}
use Rattle.std.proofs.lemmas.List.{take_more}
use Rattle.write_back.specs.declared.sent.Part.{Part}
use Rattle.write_back.specs.Ages.{Writes, kept_by, parts_by, only, raised_by, Lessens, Raises}

-- one part more
parts-push : (n : ℕ) (parts : List Part) (part : Part) → parts_by n (parts ++ part ∷ []) ≡ parts_by n parts + only part.number part.size n
parts-push n [] part = omega arith
parts-push n (p ∷ parts) part = omega (arith, parts-push n parts part)

parts-more : (n : ℕ) (parts : List Part) (i : ℕ) (d : Part) → i < length parts → parts_by n (take (i + 1) parts) ≡ parts_by n (take i parts) + only (get_or parts i d).number (get_or parts i d).size n
parts-more n parts i d lt = ap (parts_by n) (take_more parts i d lt) ∙ parts-push n (take i parts) (get_or parts i d)

-- the first parts have at most the bytes of all
parts-first : (n i : ℕ) (parts : List Part) → parts_by n (take i parts) ≤ parts_by n parts
parts-first n zero parts = omega arith
parts-first n (suc i) [] = omega arith
parts-first n (suc i) (p ∷ parts) = omega (arith, parts-first n i parts)

-- what is kept after one part more
pub lessens-turn : (parts : List Part) (i : ℕ) (d : Part) (a b c : Writes) → Lessens (only (get_or parts i d).number (get_or parts i d).size) b c → i < length parts
    → Lessens (λ n. parts_by n (take i parts)) a b → Lessens (λ n. parts_by n (take (i + 1) parts)) a c
lessens-turn parts i d a b c call lt is = λ file n. omega (arith, call file n, is file n, parts-more n parts i d lt)

raised-more : (f g kept : ℕ) → raised_by g (raised_by f kept) ≡ raised_by (f + g) kept
raised-more f g zero = refl
raised-more f g (suc kept) = by (suc kept + f) (omega arith) (omega arith)
  where
    by : (m : ℕ) → 0 < m → m + g ≡ suc kept + (f + g) → raised_by g m ≡ suc kept + (f + g)
    by zero lt is = absurd (omega (arith, lt))
    by (suc m) lt is = is

pub raises-turn : (parts : List Part) (i : ℕ) (d : Part) (a b c : Writes) → Raises (only (get_or parts i d).number (get_or parts i d).size) b c → i < length parts
    → Raises (λ n. parts_by n (take i parts)) a b → Raises (λ n. parts_by n (take (i + 1) parts)) a c
raises-turn parts i d a b c call lt is = λ file n.
    call file n ∙ ap (raised_by (only (get_or parts i d).number (get_or parts i d).size n)) (is file n) ∙ raised-more (parts_by n (take i parts)) (only (get_or parts i d).number (get_or parts i d).size n) (kept_by a file n)
    ∙ ap (λ m. raised_by m (kept_by a file n)) (sym (parts-more n parts i d lt))

raised-most : (f kept : ℕ) → raised_by f kept ≤ kept + f
raised-most f zero = omega arith
raised-most f (suc kept) = omega arith

only-same : (number amount : ℕ) → only number amount number ≡ amount
only-same number amount = rw (eq-eqb number number refl) refl

-- there is room for one part more
pub raises-room : (parts : List Part) (i : ℕ) (d : Part) (a b : Writes) → i < length parts → ((file : List ℕ) (n : ℕ) → kept_by a file n + parts_by n parts < 2 ^ 64) → Raises (λ n. parts_by n (take i parts)) a b
    → (file : List ℕ) → kept_by b file (get_or parts i d).number + (get_or parts i d).size < 2 ^ 64
raises-room parts i d a b lt room is file =
    let number = (get_or parts i d).number in
    omega (arith, room file number, is file number, raised-most (parts_by number (take i parts)) (kept_by a file number), parts-more number parts i d lt, parts-first number (i + 1) parts, only-same number (get_or parts i d).size)
