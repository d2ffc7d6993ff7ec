-- How many READs of one size the rest of a range takes, whose last page is whole: so many a page.
use Rattle.core_counts.proofs.Prelude.{◌≡◌, ◌<◌, ◌≤◌, ◌⊎◌, inl, inr, ◌+◌, ◌-◌, ◌*◌, ◌/◌, ◌%◌, ℕ, zero, suc, refl, ap, ◌∙◌, arith, cases_lt}
use Rattle.std.proofs.lemmas.Nat.{div-add-mod', mul-le, div_below, mod_below}
use Rattle.claims.specs.Pages.{reads_a_page}

-- ---- so many bytes, in parts of one size

abbrev pub parts : ℕ → ℕ → ℕ
parts size n = (n + (size - 1)) / size

pub parts-few : (size n k : ℕ) → 1 ≤ size → n ≤ k * size → parts size n ≤ k
parts-few size n k one most =
    let grows : (k + 1) * size ≡ k * size + size = grind (arith) in
    let below = div_below (n + (size - 1)) size (k + 1) (omega (arith, one)) (omega (arith, one, most, grows)) in
    omega (arith, below)

pub parts-hold : (size n : ℕ) → 1 ≤ size → n ≤ parts size n * size
parts-hold size n one =
    let split = div-add-mod' (n + (size - 1)) size in
    let left = mod_below (n + (size - 1)) size (omega (arith, one)) in
    grind (arith, one, split, left)

pub parts-mono : (size a b : ℕ) → 1 ≤ size → a ≤ b → parts size a ≤ parts size b
parts-mono size a b one le =
    let hold = parts-hold size b one in
    parts-few size a (parts size b) one (omega (arith, le, hold))

pub parts-some : (size n : ℕ) → 1 ≤ size → 1 ≤ n → 1 ≤ parts size n
parts-some size n one some = by (parts size n) (parts-hold size n one)
  where
    by : (k : ℕ) → n ≤ k * size → 1 ≤ k
    by zero hold = absurd (omega (arith, some, hold))
    by (suc k) hold = omega arith

pub parts-step : (size n : ℕ) → 1 ≤ size → size ≤ n → parts size (n - size) + 1 ≤ parts size n
parts-step size n one le = by (parts size n) (parts-hold size n one)
  where
    by : (k : ℕ) → n ≤ k * size → parts size (n - size) + 1 ≤ k
    by zero hold = absurd (omega (arith, one, le, hold))
    by (suc k) hold =
        let less : n - size ≤ k * size = grind (arith, hold) in
        let few = parts-few size (n - size) k one less in
        omega (arith, few)

pub parts-none : (size : ℕ) → 1 ≤ size → parts size 0 ≡ 0
parts-none size one = let few = parts-few size 0 0 one (omega arith) in omega (arith, few)

-- ---- the rest of a range

-- so many for each whole page of it, and for the part of a page before these
abbrev pub needs : ℕ → ℕ → ℕ
needs size rest = reads_a_page size * (rest / 4096) + parts size (rest % 4096)

page-some : (size : ℕ) → 1 ≤ size → 1 ≤ reads_a_page size
page-some size one = parts-some size 4096 one (omega arith)

more-pages : (m a b : ℕ) → a + 1 ≤ b → m * a + m ≤ m * b
more-pages m a b le =
    let grows : m * (a + 1) ≡ m * a + m = grind (arith) in
    let mono = mul-le m (a + 1) m b (omega arith) le in
    omega (arith, grows, mono)

pub needs-mono : (size a b : ℕ) → 1 ≤ size → a ≤ b → needs size a ≤ needs size b
needs-mono size a b one le = by (cases_lt (a / 4096) (b / 4096))
  where
    by : (a / 4096 < b / 4096) ⊎ (b / 4096 ≤ a / 4096) → needs size a ≤ needs size b
    by (inl less) =
        let most = parts-mono size (a % 4096) 4096 one (omega arith) in
        let more = more-pages (reads_a_page size) (a / 4096) (b / 4096) (omega (arith, less)) in
        omega (arith, most, more)
    by (inr no_less) =
        let same : a / 4096 ≡ b / 4096 = omega (arith, le, no_less) in
        let part = parts-mono size (a % 4096) (b % 4096) one (omega (arith, le, same)) in
        let equal : reads_a_page size * (a / 4096) ≡ reads_a_page size * (b / 4096) = ap (λ (q : ℕ). reads_a_page size * q) same in
        omega (arith, part, equal)

-- up to the start of a page
pub needs-page : (size less rest : ℕ) → 1 ≤ size → less % 4096 ≡ 0 → less < rest → needs size less + 1 ≤ needs size rest
needs-page size less rest one whole lt = by (cases_lt (less / 4096) (rest / 4096))
  where
    none : parts size (less % 4096) ≡ 0
    none = ap (parts size) whole ∙ parts-none size one

    by : (less / 4096 < rest / 4096) ⊎ (rest / 4096 ≤ less / 4096) → needs size less + 1 ≤ needs size rest
    by (inl l) =
        let some = page-some size one in
        let more = more-pages (reads_a_page size) (less / 4096) (rest / 4096) (omega (arith, l)) in
        let zero_part = none in
        omega (arith, some, more, zero_part)
    by (inr no_less) =
        let same : less / 4096 ≡ rest / 4096 = omega (arith, lt, no_less) in
        let part = parts-some size (rest % 4096) one (omega (arith, lt, same, whole)) in
        let equal : reads_a_page size * (less / 4096) ≡ reads_a_page size * (rest / 4096) = ap (λ (q : ℕ). reads_a_page size * q) same in
        let zero_part = none in
        omega (arith, part, equal, zero_part)

-- by the whole size
pub needs-full : (size rest : ℕ) → 1 ≤ size → size ≤ rest → needs size (rest - size) + 1 ≤ needs size rest
needs-full size rest one le = by (cases_lt (rest % 4096) size)
  where
    whole : rest % 4096 < size → (1 ≤ rest % 4096) ⊎ (rest % 4096 ≡ 0) → needs size (rest - size) + 1 ≤ needs size rest
    whole lt (inl some) =
        let before = needs-mono size (rest - size) (rest / 4096 * 4096) one (omega (arith, lt)) in
        let step = needs-page size (rest / 4096 * 4096) rest one (omega arith) (omega (arith, some)) in
        omega (arith, before, step)
    whole lt (inr none) = of (cases_lt size 4096)
      where
        of : (size < 4096) ⊎ (4096 ≤ size) → needs size (rest - size) + 1 ≤ needs size rest
        of (inl small) =
            let pages : (rest - size) / 4096 + 1 ≡ rest / 4096 = omega (arith, small, one, le, none) in
            let part : (rest - size) % 4096 ≡ 4096 - size = omega (arith, small, one, le, none) in
            let step = parts-step size 4096 one (omega (arith, small)) in
            let same = ap (parts size) part in
            let more = more-pages (reads_a_page size) ((rest - size) / 4096) (rest / 4096) (omega (arith, pages)) in
            omega (arith, step, same, more)
        of (inr large) =
            let before = needs-mono size (rest - size) ((rest / 4096 - 1) * 4096) one (omega (arith, large, le, none)) in
            let step = needs-page size ((rest / 4096 - 1) * 4096) rest one (omega arith) (omega (arith, one, le)) in
            omega (arith, before, step)

    by : (rest % 4096 < size) ⊎ (size ≤ rest % 4096) → needs size (rest - size) + 1 ≤ needs size rest
    by (inl lt) = whole lt (some-or-none (rest % 4096))
      where
        some-or-none : (n : ℕ) → (1 ≤ n) ⊎ (n ≡ 0)
        some-or-none zero = inr refl
        some-or-none (suc n) = inl (omega arith)
    by (inr ge) =
        let pages : (rest - size) / 4096 ≡ rest / 4096 = omega (arith, one, ge) in
        let part : (rest - size) % 4096 ≡ rest % 4096 - size = omega (arith, one, ge) in
        let step = parts-step size (rest % 4096) one ge in
        let same = ap (parts size) part in
        let equal : reads_a_page size * ((rest - size) / 4096) ≡ reads_a_page size * (rest / 4096) = ap (λ (q : ℕ). reads_a_page size * q) pages in
        omega (arith, step, same, equal)

-- the whole range
pub needs-all : (size pages : ℕ) → 1 ≤ size → needs size (pages * 4096) ≡ pages * reads_a_page size
needs-all size pages one =
    let none : parts size (pages * 4096 % 4096) ≡ 0 = ap (parts size) (whole-zero pages) ∙ parts-none size one in
    let same : reads_a_page size * (pages * 4096 / 4096) ≡ reads_a_page size * pages = ap (λ (q : ℕ). reads_a_page size * q) (whole-pages pages) in
    grind (arith, none, same)
  where
    whole-zero : (n : ℕ) → n * 4096 % 4096 ≡ 0
    whole-zero n = omega arith

    whole-pages : (n : ℕ) → n * 4096 / 4096 ≡ n
    whole-pages n = omega arith
