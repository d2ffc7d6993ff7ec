-- What a READ or a WRITE shows of one byte of a list.
use Rattle.std.proofs.Common.{inl, inr, ◌⊎◌, ◌≡◌, ◌<◌, ◌≤◌, ◌+◌, ◌-◌, ℕ, zero, suc, List, [], ◌∷◌, ◌++◌, length, take, drop, replicate, Some, slice_get, refl, sym, ap, ◌∙◌, arith, append_assoc}
use Rattle.std.proofs.lemmas.List.{length-append, length-replicate}
use Rattle.std.proofs.lemmas.Option.{slice_get_within}
use Rattle.world_model.specs.Bytes.{filled, resized, put_at, part}

pub get_take : (n : ℕ) (xs : List ℕ) (k : ℕ) → k < n → slice_get (take n xs) k ≡ slice_get xs k
get_take zero xs k lt = absurd (omega (arith, lt))
get_take (suc n) [] k lt = refl
get_take (suc n) (x ∷ xs) zero lt = refl
get_take (suc n) (x ∷ xs) (suc k) lt = get_take n xs k (omega (arith, lt))

pub taken_below : (n : ℕ) (xs : List ℕ) (k y : ℕ) → slice_get (take n xs) k ≡ Some y → k < n
taken_below zero xs k y e = absurd (cc e)
taken_below (suc n) [] k y e = absurd (cc e)
taken_below (suc n) (x ∷ xs) zero y e = omega arith
taken_below (suc n) (x ∷ xs) (suc k) y e = let r = taken_below n xs k y e in omega (arith, r)

pub get_drop : (n : ℕ) (xs : List ℕ) (k : ℕ) → slice_get (drop n xs) k ≡ slice_get xs (n + k)
get_drop zero xs k = let z : 0 + k ≡ k = omega arith in sym (ap (λ i. slice_get xs i) z)
get_drop (suc n) [] k = refl
get_drop (suc n) (x ∷ xs) k = let z : suc n + k ≡ suc (n + k) = omega arith in get_drop n xs k ∙ sym (ap (λ i. slice_get (x ∷ xs) i) z)

pub get_front : (xs ys : List ℕ) (k : ℕ) → k < length xs → slice_get (xs ++ ys) k ≡ slice_get xs k
get_front [] ys k lt = absurd (omega (arith, lt))
get_front (x ∷ xs) ys zero lt = refl
get_front (x ∷ xs) ys (suc k) lt = get_front xs ys k (omega (arith, lt))

pub get_back : (xs ys : List ℕ) (n k : ℕ) → length xs ≡ n → slice_get (xs ++ ys) (n + k) ≡ slice_get ys k
get_back [] ys n k e = let z : n + k ≡ k = omega (arith, e) in ap (λ i. slice_get ys i) z
get_back (x ∷ xs) ys zero k e = absurd (omega (arith, e))
get_back (x ∷ xs) ys (suc n) k e = let z : suc n + k ≡ suc (n + k) = omega arith in ap (λ i. slice_get (x ∷ (xs ++ ys)) i) z ∙ get_back xs ys n k (omega (arith, e))

pub length_resized : (size : ℕ) (old : List ℕ) → length (resized size old) ≡ size
length_resized size old =
    let a = length-append old (replicate (size - length old) 0) in
    let r = length-replicate {A = ℕ} (size - length old) 0 in
    taken_length size (filled size old) (omega (arith, a, r))
  where
    taken_length : (n : ℕ) (xs : List ℕ) → n ≤ length xs → length (take n xs) ≡ n
    taken_length zero xs le = refl
    taken_length (suc n) [] le = absurd (omega (arith, le))
    taken_length (suc n) (x ∷ xs) le = ap suc (taken_length n xs (omega (arith, le)))

-- a byte below the size stays
pub resized_keeps : (size : ℕ) (old : List ℕ) (i b : ℕ) → i < size → slice_get old i ≡ Some b → slice_get (resized size old) i ≡ Some b
resized_keeps size old i b lt e = get_take size (filled size old) i lt ∙ get_front old (replicate (size - length old) 0) i (slice_get_within old i b e) ∙ e

zeros : (n k : ℕ) → k < n → slice_get {X = ℕ} (replicate n 0) k ≡ Some 0
zeros zero k lt = absurd (omega (arith, lt))
zeros (suc n) zero lt = refl
zeros (suc n) (suc k) lt = zeros n k (omega (arith, lt))

-- between the end of the list and the size are zeros
pub resized_zero : (size : ℕ) (old : List ℕ) (i : ℕ) → length old ≤ i → i < size → slice_get (resized size old) i ≡ Some 0
resized_zero size old i le lt =
    let split : i ≡ length old + (i - length old) = omega (arith, le) in
    get_take size (filled size old) i lt
    ∙ ap (λ z. slice_get (old ++ replicate (size - length old) 0) z) split
    ∙ get_back old (replicate (size - length old) 0) (length old) (i - length old) refl
    ∙ zeros (size - length old) (i - length old) (omega (arith, le, lt))

placed : (offset x : ℕ) (xs old : List ℕ) → put_at offset (x ∷ xs) old ≡ resized offset old ++ ((x ∷ xs) ++ drop (offset + length (x ∷ xs)) old)
placed offset x xs old = append_assoc (resized offset old) (x ∷ xs) (drop (offset + length (x ∷ xs)) old)

pub put_here : (offset : ℕ) (xs old : List ℕ) (k y : ℕ) → slice_get xs k ≡ Some y → slice_get (put_at offset xs old) (offset + k) ≡ Some y
put_here offset [] old k y e = absurd (cc e)
put_here offset (x ∷ xs) old k y e =
    ap (λ (z : List ℕ). slice_get z (offset + k)) (placed offset x xs old) ∙ get_back (resized offset old) ((x ∷ xs) ++ drop (offset + length (x ∷ xs)) old) offset k (length_resized offset old)
    ∙ get_front (x ∷ xs) (drop (offset + length (x ∷ xs)) old) k (slice_get_within (x ∷ xs) k y e) ∙ e

pub put_below : (offset : ℕ) (xs old : List ℕ) (i b : ℕ) → i < offset → slice_get old i ≡ Some b → slice_get (put_at offset xs old) i ≡ Some b
put_below offset [] old i b lt e = e
put_below offset (x ∷ xs) old i b lt e =
    let l = length_resized offset old in
    ap (λ (z : List ℕ). slice_get z i) (placed offset x xs old) ∙ get_front (resized offset old) ((x ∷ xs) ++ drop (offset + length (x ∷ xs)) old) i (omega (arith, l, lt)) ∙ resized_keeps offset old i b lt e

pub put_above : (offset : ℕ) (xs old : List ℕ) (i : ℕ) → offset + length xs ≤ i → slice_get (put_at offset xs old) i ≡ slice_get old i
put_above offset [] old i le = refl
put_above offset (x ∷ xs) old i le =
    let n : ℕ = length (x ∷ xs) in
    let j : ℕ = i - (offset + length (x ∷ xs)) in
    let split : i ≡ offset + (length (x ∷ xs) + (i - (offset + length (x ∷ xs)))) = omega (arith, le) in
    let whole : (offset + length (x ∷ xs)) + (i - (offset + length (x ∷ xs))) ≡ i = omega (arith, le) in
    ap (λ z. slice_get (put_at offset (x ∷ xs) old) z) split
    ∙ ap (λ (z : List ℕ). slice_get z (offset + (length (x ∷ xs) + (i - (offset + length (x ∷ xs)))))) (placed offset x xs old)
    ∙ get_back (resized offset old) ((x ∷ xs) ++ drop (offset + length (x ∷ xs)) old) offset (length (x ∷ xs) + (i - (offset + length (x ∷ xs)))) (length_resized offset old)
    ∙ get_back (x ∷ xs) (drop (offset + length (x ∷ xs)) old) (length (x ∷ xs)) (i - (offset + length (x ∷ xs))) refl
    ∙ get_drop (offset + length (x ∷ xs)) old (i - (offset + length (x ∷ xs)))
    ∙ ap (λ z. slice_get old z) whole

-- a byte that isn't covered stays
pub put_beside : (offset : ℕ) (xs old : List ℕ) (i b : ℕ) → (i < offset) ⊎ (offset + length xs ≤ i) → slice_get old i ≡ Some b → slice_get (put_at offset xs old) i ≡ Some b
put_beside offset xs old i b o e = elim o [ inl lt ↦ put_below offset xs old i b lt e | inr le ↦ put_above offset xs old i le ∙ e ]

pub part_stands : (offset count : ℕ) (now : List ℕ) (k y : ℕ) → slice_get (part offset count now) k ≡ Some y → slice_get now (offset + k) ≡ Some y
part_stands offset count now k y e = sym (get_drop offset now k) ∙ sym (get_take count (drop offset now) k (taken_below count (drop offset now) k y e)) ∙ e

-- between the end of the list and the bytes that are put past it are zeros
pub put_gap : (offset : ℕ) (xs old : List ℕ) (i : ℕ) → 0 < length xs → length old ≤ i → i < offset → slice_get (put_at offset xs old) i ≡ Some 0
put_gap offset [] old i some le lt = absurd (omega (arith, some))
put_gap offset (x ∷ xs) old i some le lt =
    let l = length_resized offset old in
    ap (λ (z : List ℕ). slice_get z i) (placed offset x xs old) ∙ get_front (resized offset old) ((x ∷ xs) ++ drop (offset + length (x ∷ xs)) old) i (omega (arith, l, lt)) ∙ resized_zero offset old i le lt
