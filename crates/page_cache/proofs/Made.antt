-- Pages that weren't made yet count as empty ones.
use Rattle.std.proofs.Common.{◌≡◌, ◌<◌, ◌≤◌, ℕ, zero, suc, ◌+◌, ◌-◌, List, [], ◌∷◌, ◌++◌, length, get_or, set, replicate, refl, sym, ap, ◌∙◌, append_assoc, arith}
use Rattle.std.proofs.lemmas.List.{get_or_default, length-append, length-replicate, length-set, replicate-append-replicate, set-append_left}
use Rattle.page_cache.specs.Unmade.{with_empty}

pub length-with_empty : (count : ℕ) (made : List (List ℕ)) → length made ≤ count → length (with_empty count made) ≡ count
length-with_empty count made few =
    let parts : length (with_empty count made) ≡ length made + (count - length made) =
    length-append made (replicate (count - length made) []) ∙ ap (λ (n : ℕ). length made + n) (length-replicate (count - length made) []) in
    let whole : length made + (count - length made) ≡ count = omega (arith, few) in
    parts ∙ whole

-- a page beyond those that were made is empty, as one beyond the list is
empty-at : (k i : ℕ) → get_or {A = List ℕ} (replicate k []) i [] ≡ []
empty-at zero i = refl
empty-at (suc k) zero = refl
empty-at (suc k) (suc i) = empty-at k i

pub made-at : (made : List (List ℕ)) (k i : ℕ) → get_or (made ++ replicate k []) i [] ≡ get_or made i []
made-at [] k i = empty-at k i
made-at (page ∷ made) k zero = refl
made-at (page ∷ made) k (suc i) = made-at made k i

pub none-past : (made : List (List ℕ)) (i : ℕ) → length made ≤ i → get_or made i [] ≡ []
none-past [] i past = refl
none-past (page ∷ made) zero past = absurd (omega (arith, past))
none-past (page ∷ made) (suc i) past = none-past made i (omega (arith, past))

-- a page that was made may become another one
pub set-made : (count : ℕ) (made : List (List ℕ)) (i : ℕ) (bytes : List ℕ) → i < length made → with_empty count (set made i bytes) ≡ set (with_empty count made) i bytes
set-made count made i bytes there =
    ap (λ (n : ℕ). set made i bytes ++ replicate (count - n) []) (length-set made i bytes) ∙ sym (set-append_left made (replicate (count - length made) []) i bytes there)

-- one page more is made
pub one-made : (count : ℕ) (made : List (List ℕ)) → length made < count → with_empty count (made ++ [] ∷ []) ≡ with_empty count made
one-made count made room =
    let more : length (made ++ [] ∷ []) ≡ length made + 1 = length-append made ([] ∷ []) in
    let left : 1 + (count - length (made ++ [] ∷ [])) ≡ count - length made = omega (arith, more, room) in
    append_assoc made ([] ∷ []) (replicate (count - length (made ++ [] ∷ [])) []) ∙ ap (λ (rest : List (List ℕ)). made ++ rest)
    (replicate-append-replicate 1 (count - length (made ++ [] ∷ [])) [] ∙ ap (λ (n : ℕ). replicate {A = List ℕ} n []) left)

pub length-more : (made : List (List ℕ)) → length (made ++ [] ∷ []) ≡ length made + 1
length-more made = length-append made ([] ∷ [])

-- a number below so many pages
pub is-there : (count i : ℕ) (made : List (List ℕ)) → length made ≤ count → i < length (with_empty count made) → i < count
is-there count i made few low = let all = length-with_empty count made few in omega (arith, all, low)

-- one page becomes another
pub set-there : (count i : ℕ) (old made : List (List ℕ)) (bytes : List ℕ) → with_empty count made ≡ with_empty count old → i < length made → with_empty count (set made i bytes) ≡ set (with_empty count old) i bytes
set-there count i old made bytes same there = set-made count made i bytes there ∙ ap (λ (pages : List (List ℕ)). set pages i bytes) same

-- the page that was there
pub was-there : (count i : ℕ) (old made : List (List ℕ)) (bytes : List ℕ) → with_empty count made ≡ with_empty count old → i < length made → bytes ≡ get_or made i bytes → bytes ≡ get_or (with_empty count old) i []
was-there count i old made bytes same there is =
    is ∙ sym (get_or_default made i [] bytes there) ∙ sym (made-at made (count - length made) i) ∙ ap (λ (pages : List (List ℕ)). get_or pages i []) same
