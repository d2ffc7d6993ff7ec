-- What is kept of bytes: a front.
use Rattle.std.proofs.Common.{◌≡◌, ◌≤◌, ◌<◌, ◌+◌, inl, inr, ℕ, zero, suc, List, [], ◌∷◌, ◌++◌, length, take, min, nat_lt, Bool, true, false, ◌&&◌, refl, sym, ap, ◌∙◌, append-nil, append_assoc, arith}
use Rattle.std.proofs.lemmas.Bool.{cases_lt, le-ltb, lt-ltb}
use Rattle.std.proofs.lemmas.List.{length-append}
use Rattle.script_text.specs.Lines.{lines}
use Rattle.script_batches.specs.Batches.{all_skipped, begins_go, is_go, is_idle, joined, kept_bytes}

pub kept-is : kept_bytes ≡ 1048577
unfolding kept_bytes
kept-is = refl

abbrev none : List ℕ
none = []

pub take-nil : (n : ℕ) → take n none ≡ none
take-nil zero = refl
take-nil (suc n) = refl

-- what is kept of what is kept and more
pub take-again : (n : ℕ) (xs ys : List ℕ) → take n (take n xs ++ ys) ≡ take n (xs ++ ys)
take-again zero xs ys = refl
take-again (suc n) [] ys = refl
take-again (suc n) (x ∷ xs) ys = ap (λ (t : List ℕ). x ∷ t) (take-again n xs ys)

-- what is kept of bytes and then of what is kept
pub take-behind : (n m : ℕ) (xs ys : List ℕ) → n ≤ m → take n (xs ++ take m ys) ≡ take n (xs ++ ys)
take-behind zero m xs ys le = refl
take-behind (suc n) m (x ∷ xs) ys le = ap (λ (t : List ℕ). x ∷ t) (take-behind n m xs ys (omega (arith, le)))
take-behind (suc n) zero [] ys le = absurd (omega (arith, le))
take-behind (suc n) (suc m) [] [] le = refl
take-behind (suc n) (suc m) [] (y ∷ ys) le = ap (λ (t : List ℕ). y ∷ t) (take-behind n m [] ys (omega (arith, le)))

pub take-few : (n : ℕ) (xs : List ℕ) → length (take n xs) ≤ n
take-few zero xs = omega arith
take-few (suc n) [] = omega arith
take-few (suc n) (x ∷ xs) = let r = take-few n xs in omega (arith, r)

pub take-whole : (n : ℕ) (xs : List ℕ) → length xs ≤ n → take n xs ≡ xs
take-whole n [] le = take-nil n
take-whole zero (x ∷ xs) le = absurd (omega (arith, le))
take-whole (suc n) (x ∷ xs) le = ap (λ (t : List ℕ). x ∷ t) (take-whole n xs (omega (arith, le)))

take-long : (n : ℕ) (xs : List ℕ) → n ≤ length xs → length (take n xs) ≡ n
take-long zero xs le = refl
take-long (suc n) [] le = absurd (omega (arith, le))
take-long (suc n) (x ∷ xs) le = ap suc (take-long n xs (omega (arith, le)))

-- some bytes of some are kept
take-some : (n b : ℕ) (bytes : List ℕ) → 1 ≤ n → take n (b ∷ bytes) ≡ [] → ⊥
take-some zero b bytes le none = absurd (omega (arith, le))
take-some (suc n) b bytes le none = absurd cc

pub kept-some : (b : ℕ) (bytes : List ℕ) → take kept_bytes (b ∷ bytes) ≡ [] → ⊥
kept-some b bytes none = take-some kept_bytes b bytes (let k = kept-is in omega (arith, k)) none

-- where there is room, a front is put behind a text
pub front-kept : (n : ℕ) (xs ys : List ℕ) (m : ℕ) → length xs + m ≡ n → xs ++ take m ys ≡ take n (xs ++ ys)
front-kept n [] ys m is = let same : n ≡ m = omega (arith, is) in ap (λ (k : ℕ). take k ys) (sym same)
front-kept zero (x ∷ xs) ys m is = absurd (omega (arith, is))
front-kept (suc n) (x ∷ xs) ys m is = ap (λ (t : List ℕ). x ∷ t) (front-kept n xs ys m (omega (arith, is)))

-- a front that is no longer than there are bytes
take-min : (n m : ℕ) (xs : List ℕ) → m ≡ min n (length xs) → take m xs ≡ take n xs
take-min n m xs is = elim (cases_lt (length xs) n) [
  | inl short ↦ let all : m ≡ length xs = omega (arith, is, short) in take-whole m xs (omega (arith, all)) ∙ sym (take-whole n xs (omega (arith, short)))
  | inr long ↦ let same : m ≡ n = omega (arith, is, long) in ap (λ (k : ℕ). take k xs) same
]

-- a text that is filled up
pub filled-up : (old bytes : List ℕ) (room m : ℕ) → length old + room ≡ 1048577 → m ≡ min room (length bytes) → old ++ take m bytes ≡ take kept_bytes (old ++ bytes)
filled-up old bytes room m sum is =
    ap (λ (t : List ℕ). old ++ t) (take-min room m bytes is)
    ∙ front-kept kept_bytes old bytes room (let k = kept-is in omega (arith, sum, k))

-- all of a shorter one
pub whole-kept : (n : ℕ) (xs ys : List ℕ) → length xs + length ys ≤ n → xs ++ ys ≡ take n (xs ++ ys)
whole-kept n xs ys le = sym (take-whole n (xs ++ ys) (let long = length-append xs ys in omega (arith, le, long)))

-- ---- lines that are kept

no-go : (line : List ℕ) → nat_lt (length line) kept_bytes ≡ false → is_go line ≡ false
no-go line long = ap (λ (b : Bool). b && begins_go (lines line)) long

-- whether a line is `go` is seen by what is kept of it
pub go-kept : (whole : List ℕ) → is_go (take kept_bytes whole) ≡ is_go whole
go-kept whole = elim (cases_lt (length whole) kept_bytes) [
  | inl short ↦ ap is_go (take-whole kept_bytes whole (omega (arith, short)))
  | inr long ↦
      no-go (take kept_bytes whole) (let same = take-long kept_bytes whole long in le-ltb (length (take kept_bytes whole)) kept_bytes (omega (arith, same)))
      ∙ sym (no-go whole (le-ltb (length whole) kept_bytes long))
]

-- no bytes ask for nothing
pub idle-none : is_idle [] ≡ true
unfolding lines
idle-none = ap (λ (b : Bool). b && all_skipped (lines [])) (lt-ltb 0 kept_bytes (let k = kept-is in omega (arith, k)))

pub joined-more : (text : List (List ℕ)) (line : List ℕ) → joined (text ++ line ∷ []) ≡ joined text ++ line
joined-more [] line = append-nil line
joined-more (x ∷ text) line = ap (λ (t : List ℕ). x ++ t) (joined-more text line) ∙ sym (append_assoc x (joined text) line)

-- ---- the tests on the length of what is kept

pub go-short : (line : List ℕ) (b : Bool) → length line < 1048577 → b ≡ begins_go (lines line) → b ≡ is_go line
go-short line b short is = is ∙ sym (ap (λ (t : Bool). t && begins_go (lines line)) (lt-ltb (length line) kept_bytes (let k = kept-is in omega (arith, short, k))))

pub go-long : (line : List ℕ) → 1048577 ≤ length line → nat_lt (length line) 1048577 ≡ is_go line
go-long line long =
    le-ltb (length line) 1048577 long
    ∙ sym (ap (λ (t : Bool). t && begins_go (lines line)) (le-ltb (length line) kept_bytes (let k = kept-is in omega (arith, long, k))))

pub idle-short : (text : List ℕ) (b : Bool) → length text < 1048577 → b ≡ all_skipped (lines text) → b ≡ is_idle text
idle-short text b short is = is ∙ sym (ap (λ (t : Bool). t && all_skipped (lines text)) (lt-ltb (length text) kept_bytes (let k = kept-is in omega (arith, short, k))))

pub idle-long : (text : List ℕ) → 1048577 ≤ length text → nat_lt (length text) 1048577 ≡ is_idle text
idle-long text long =
    le-ltb (length text) 1048577 long
    ∙ sym (ap (λ (t : Bool). t && all_skipped (lines text)) (le-ltb (length text) kept_bytes (let k = kept-is in omega (arith, long, k))))

-- a front is short enough
pub front-few : (front bytes : List ℕ) → front ≡ take kept_bytes bytes → length front ≤ 1048577
front-few front bytes is = let few = take-few kept_bytes bytes in let long = ap length is in let most = kept-is in omega (arith, few, long, most)
