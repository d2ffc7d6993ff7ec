-- Lists of operations that began at different places, and how many bytes they write together.
use Rattle.std.proofs.Common.{◌≡◌, ◌≢◌, ◌≤◌, ◌+◌, ℕ, List, [], ◌∷◌, ◌++◌, All, sum_by, refl, sym, ap, subst, ◌∙◌, arith}
use Rattle.std.proofs.lemmas.List.Elements.{All-nil, All-cons}
use Rattle.std.proofs.lemmas.List.Kept.{AllPairs-cons}
use Rattle.std.proofs.lemmas.List.Sums.{sum_by-cons}
use Rattle.claims.specs.Asks.{Placed, AreDifferent, count_of}

-- each of them, by recursion
abbrev pub Each : (Placed → Type 0) → List Placed → Type 0
Each P [] = Unit {0}
Each P (o ∷ os) = P o × Each P os

-- they began elsewhere
abbrev pub Elsewhere : ℕ → List Placed → Type 0
Elsewhere x [] = Unit {0}
Elsewhere x (o ∷ os) = (o.0 ≢ x) × Elsewhere x os

abbrev pub Apart : List Placed → Type 0
Apart [] = Unit {0}
Apart (o ∷ os) = Elsewhere o.0 os × Apart os

abbrev pub counts : List Placed → ℕ
counts os = sum_by (λ (o : Placed). count_of o.1) os

pub counts-cons : (o : Placed) (os : List Placed) → counts (o ∷ os) ≡ count_of o.1 + counts os
counts-cons o os = sum_by-cons (λ (p : Placed). count_of p.1) o os

pub each-map : (P Q : Placed → Type 0) → ((o : Placed) → P o → Q o) → (os : List Placed) → Each P os → Each Q os
each-map P Q f [] e = tt
each-map P Q f (o ∷ os) e = (f o e.0, each-map P Q f os e.1)

-- the last of them
pub each-later : (P : Placed → Type 0) (more os : List Placed) → Each P (more ++ os) → Each P os
each-later P [] os e = e
each-later P (o ∷ more) os e = each-later P more os e.1

pub apart-later : (more os : List Placed) → Apart (more ++ os) → Apart os
apart-later [] os a = a
apart-later (o ∷ more) os a = apart-later more os a.1

pub elsewhere-later : (x : ℕ) (more os : List Placed) → Elsewhere x (more ++ os) → Elsewhere x os
elsewhere-later x [] os e = e
elsewhere-later x (o ∷ more) os e = elsewhere-later x more os e.1

-- an operation that began elsewhere is none of some that did as P says
pub elsewhere-by : (P : Placed → Type 0) (x : ℕ) → ((o : Placed) → P o → o.0 ≢ x) → (os : List Placed) → Each P os → Elsewhere x os
elsewhere-by P x f [] e = tt
elsewhere-by P x f (o ∷ os) e = (f o e.0, elsewhere-by P x f os e.1)

-- ---- the same as the specification says it

pub all-each : (P : Placed → Type 0) (os : List Placed) → Each P os → All P os
all-each P [] e = All-nil P
all-each P (o ∷ os) e = All-cons P o os e.0 (all-each P os e.1)

none-like : (a : Placed) (os : List Placed) → Elsewhere a.0 os → All (λ (b : Placed). a.0 ≢ b.0) os
none-like a [] e = All-nil (λ (b : Placed). a.0 ≢ b.0)
none-like a (o ∷ os) e = All-cons (λ (b : Placed). a.0 ≢ b.0) o os (λ same. e.0 (sym same)) (none-like a os e.1)

pub different-apart : (os : List Placed) → Apart os → AreDifferent os
different-apart [] a = λ i j d lt within. absurd (omega (arith, within))
different-apart (o ∷ os) a = AllPairs-cons (λ (a b : Placed). a.0 ≢ b.0) o os (none-like o os a.0) (different-apart os a.1)
