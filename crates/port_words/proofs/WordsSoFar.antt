-- Words that were looked at or added so far.
use Rattle.std.proofs.Common.{◌≡◌, ◌<◌, ◌≤◌, ◌+◌, ◌||◌, ℕ, zero, suc, Bool, true, false, not, cond, List, [], ◌∷◌, ◌++◌, map, length, take, get_or, refl, sym, ap, ◌∙◌, append_assoc, arith}
use Rattle.std.specs.List.{list_any, position_or_len}
use Rattle.std.proofs.lemmas.List.{map-append, take_more}
use Rattle.std.proofs.lemmas.List.Folds.{list_any-append}

-- one word more
words_more : {A : Type 0} (text : A → List ℕ) (xs : List A) (i : ℕ) (x : A) → i < length xs → x ≡ get_or xs i x → map text (take (i + 1) xs) ≡ map text (take i xs) ++ text x ∷ []
words_more {A = A} text xs i x lt e =
    ap (λ (ys : List A). map text ys) (take_more xs i x lt) ∙ map-append text (take i xs) (get_or xs i x ∷ []) ∙ ap (λ (y : A). map text (take i xs) ++ text y ∷ []) (sym e)

pub none_more : {A : Type 0} (text : A → List ℕ) (p : List ℕ → Bool) (xs : List A) (i : ℕ) (x : A) → i < length xs → x ≡ get_or xs i x → list_any p (map text (take i xs)) ≡ false → p (text x) ≡ false
    → list_any p (map text (take (i + 1) xs)) ≡ false
none_more text p xs i x lt e none other =
    ap (λ (ws : List (List ℕ)). list_any p ws) (words_more text xs i x lt e) ∙ list_any-append p (map text (take i xs)) (text x ∷ []) ∙ ap (λ (b : Bool). b || (p (text x) || false)) none ∙ ap (λ (b : Bool). b || false) other

or_true : (b : Bool) → (b || true) ≡ true
or_true true = refl
or_true false = refl

pub some_here : {A : Type 0} (text : A → List ℕ) (p : List ℕ → Bool) (xs : List A) (i : ℕ) (x : A) → i < length xs → x ≡ get_or xs i x → p (text x) ≡ true → list_any p (map text xs) ≡ true
some_here text p [] i x lt e found = absurd (omega (arith, lt))
some_here {A = A} text p (y ∷ xs) zero x lt e found = ap (λ (b : Bool). b || list_any p (map text xs)) (ap (λ (t : A). p (text t)) (sym e) ∙ found)
some_here text p (y ∷ xs) (suc i) x lt e found = ap (λ (b : Bool). p (text y) || b) (some_here text p xs i x (omega (arith, lt)) e found) ∙ or_true (p (text y))

pub added_more : {A : Type 0} (text : A → List ℕ) (xs : List A) (i : ℕ) (x : A) (old before after : List (List ℕ)) → i < length xs → x ≡ get_or xs i x → before ≡ old ++ map text (take i xs) → after ≡ before ++ text x ∷ []
    → after ≡ old ++ map text (take (i + 1) xs)
added_more text xs i x old before after lt e is f =
    f
    ∙ ap (λ (t : List (List ℕ)). t ++ text x ∷ []) is
    ∙ append_assoc old (map text (take i xs)) (text x ∷ [])
    ∙ ap (λ (t : List (List ℕ)). old ++ t) (sym (words_more text xs i x lt e))

-- ---- the first word that is looked for

first_of : (b : Bool) (n : ℕ) → b ≡ true → 0 ≡ cond (not b) (1 + n) 0
first_of true n e = refl
first_of false n e = absurd cc

later_of : (b : Bool) (n : ℕ) → b ≡ false → cond (not b) (1 + n) 0 ≡ 1 + n
later_of true n e = absurd cc
later_of false n e = refl

neither : (a b : Bool) → (a || b) ≡ false → (a ≡ false) × (b ≡ false)
neither true b e = absurd cc
neither false b e = (refl, e)

pub first_here : {A : Type 0} (text : A → List ℕ) (p : List ℕ → Bool) (xs : List A) (i : ℕ) (x : A) → i < length xs → x ≡ get_or xs i x → list_any p (map text (take i xs)) ≡ false → p (text x) ≡ true
    → i ≡ position_or_len p (map text xs)
first_here text p [] i x lt e none found = absurd (omega (arith, lt))
first_here {A = A} text p (y ∷ xs) zero x lt e none found = first_of (p (text y)) (position_or_len p (map text xs)) (ap (λ (t : A). p (text t)) (sym e) ∙ found)
first_here text p (y ∷ xs) (suc i) x lt e none found =
    let both = neither (p (text y)) (list_any p (map text (take i xs))) none in
    let more = first_here text p xs i x (omega (arith, lt)) e both.1 found in
    let here = later_of (p (text y)) (position_or_len p (map text xs)) both.0 in
    omega (arith, more, here)

pub none_here : {A : Type 0} (text : A → List ℕ) (p : List ℕ → Bool) (xs : List A) → list_any p (map text xs) ≡ false → length xs ≡ position_or_len p (map text xs)
none_here text p [] none = refl
none_here text p (y ∷ xs) none =
    let both = neither (p (text y)) (list_any p (map text xs)) none in
    let more = none_here text p xs both.1 in
    let here = later_of (p (text y)) (position_or_len p (map text xs)) both.0 in
    omega (arith, more, here)

-- whether there is one, by where the search ended

none_by : (b rest : Bool) (n m : ℕ) → (n ≤ m → rest ≡ false) → suc n ≤ cond (not b) (1 + m) 0 → (b || rest) ≡ false
none_by true rest n m more le = absurd (omega (arith, le))
none_by false rest n m more le = more (omega (arith, le))

pub is_none : {A : Type 0} (text : A → List ℕ) (p : List ℕ → Bool) (xs : List A) → length xs ≤ position_or_len p (map text xs) → list_any p (map text xs) ≡ false
is_none text p [] le = refl
is_none text p (y ∷ xs) le = none_by (p (text y)) (list_any p (map text xs)) (length xs) (position_or_len p (map text xs)) (λ more. is_none text p xs more) le

some_by : (b rest : Bool) (n m : ℕ) → (m < n → rest ≡ true) → cond (not b) (1 + m) 0 < suc n → (b || rest) ≡ true
some_by true rest n m more lt = refl
some_by false rest n m more lt = more (omega (arith, lt))

pub is_some : {A : Type 0} (text : A → List ℕ) (p : List ℕ → Bool) (xs : List A) → position_or_len p (map text xs) < length xs → list_any p (map text xs) ≡ true
is_some text p [] lt = absurd (omega (arith, lt))
is_some text p (y ∷ xs) lt = some_by (p (text y)) (list_any p (map text xs)) (length xs) (position_or_len p (map text xs)) (λ more. is_some text p xs more) lt
