-- Whether a path of a script has a name.
use Rattle.core_counts.proofs.Prelude.{◌≡◌, ◌<◌, ◌≤◌, ◌-◌, ◌||◌, ◌⊎◌, inl, inr, ℕ, zero, suc, Bool, true, false, List, [], ◌∷◌, length, take, Contains, Option, Some, None, slice_get, refl, sym, ap, subst, ◌∙◌, arith, Entry, Began, Answered, Dialed, Sent, Executed, Foreign, Flushed, Reboot, Delivered, Failed, Clock, Op, At}
use Rattle.std.proofs.Common.{unwrap_or}
use Rattle.claims.specs.CallCounts.{IsInScript}
use Rattle.claims.specs.Paths.{paths_of}
use Rattle.core_counts.proofs.counts.engine.Decided.{same_list, list-is, list-same}

-- ---- elements

pub contains-head : {A : Type 0} → (x : A) (xs : List A) → Contains (x ∷ xs) x
contains-head x xs = (0, omega arith, refl)

pub contains-tail : {A : Type 0} → (y x : A) (xs : List A) → Contains xs x → Contains (y ∷ xs) x
contains-tail y x xs c = (suc c.0, let low = c.1 in omega (arith, low), c.2)

-- what stands at a place is an element
pub contains-at : {A : Type 0} → (xs : List A) (at : ℕ) (x : A) → slice_get xs at ≡ Some x → Contains xs x
contains-at [] at x e = absurd (let no_way : None ≡ Some x = e in cc)
contains-at {A} (y ∷ ys) zero x e = subst (λ (z : A). Contains (y ∷ ys) z) (same y x e) (contains-head y ys)
  where
    same : (a b : A) → Some a ≡ Some b → a ≡ b
    same a b s = cc
contains-at (y ∷ ys) (suc at) x e = contains-tail y x ys (contains-at ys at x e)

pub get-take : {A : Type 0} → (n : ℕ) (xs : List A) (at : ℕ) (x : A) → slice_get (take n xs) at ≡ Some x → slice_get xs at ≡ Some x
get-take zero xs at x e = absurd (let no_way : None ≡ Some x = e in cc)
get-take (suc n) [] at x e = e
get-take (suc n) (y ∷ ys) zero x e = e
get-take (suc n) (y ∷ ys) (suc at) x e = get-take n ys at x e

some-at : {A : Type 0} → (xs : List A) (at : ℕ) → at < length xs → (x : A) × (slice_get xs at ≡ Some x)
some-at [] at low = absurd (omega (arith, low))
some-at (y ∷ ys) zero low = (y, refl)
some-at (y ∷ ys) (suc at) low = some-at ys at (omega (arith, low))

pub contains-last : (path : List (List ℕ)) → 1 ≤ length path → Contains path (unwrap_or (slice_get path (length path - 1)) [])
contains-last path some =
    let k = some-at path (length path - 1) (omega (arith, some)) in
    contains-at path (length path - 1) (unwrap_or (slice_get path (length path - 1)) []) (k.1 ∙ ap (λ (o : Option (List ℕ)). Some (unwrap_or o [])) (sym k.1))

-- ---- a name in a script

abbrev in_path : List ℕ → List (List ℕ) → Bool
in_path name [] = false
in_path name (n ∷ ns) = same_list n name || in_path name ns

abbrev in_paths : List ℕ → List (List (List ℕ)) → Bool
in_paths name [] = false
in_paths name (p ∷ ps) = in_path name p || in_paths name ps

abbrev pub in_script : List ℕ → List Entry → Bool
in_script name [] = false
in_script name (Began lane line op ∷ es) = in_paths name (paths_of op) || in_script name es
in_script name (e ∷ es) = in_script name es

either : (a b : Bool) → (a || b) ≡ true → (a ≡ true) ⊎ (b ≡ true)
either true b e = inl refl
either false b e = inr e

or-first : (a b : Bool) → a ≡ true → (a || b) ≡ true
or-first true b e = refl
or-first false b e = absurd (let no_way : false ≡ true = e in cc)

or-second : (a b : Bool) → b ≡ true → (a || b) ≡ true
or-second true b e = refl
or-second false b e = e

path-has : (name : List ℕ) (path : List (List ℕ)) → in_path name path ≡ true → Contains path name
path-has name [] e = absurd (let no_way : false ≡ true = e in cc)
path-has name (n ∷ ns) e = elim (either (same_list n name) (in_path name ns) e) [
  | inl same ↦ subst (λ (k : List ℕ). Contains (n ∷ ns) k) (list-is n name same) (contains-head n ns)
  | inr later ↦ contains-tail n name ns (path-has name ns later)
]

paths-have : (name : List ℕ) (paths : List (List (List ℕ))) → in_paths name paths ≡ true → (path : List (List ℕ)) × Contains paths path × Contains path name
paths-have name [] e = absurd (let no_way : false ≡ true = e in cc)
paths-have name (p ∷ ps) e = elim (either (in_path name p) (in_paths name ps) e) [
  | inl here ↦ (p, contains-head p ps, path-has name p here)
  | inr later ↦ let k = paths-have name ps later in (k.0, contains-tail p k.0 ps k.1, k.2)
]

script-later : (e : Entry) (es : List Entry) (name : List ℕ) → IsInScript es name → IsInScript (e ∷ es) name
script-later e es name k = record { at = suc k.at; lane = k.lane; line = k.line; op = k.op; path = k.path; began = k.began; of = k.of; has = k.has }

pub script-has : (name : List ℕ) (es : List Entry) → in_script name es ≡ true → IsInScript es name
script-has name [] e = absurd (let no_way : false ≡ true = e in cc)
script-has name (Began lane line op ∷ es) e = elim (either (in_paths name (paths_of op)) (in_script name es) e) [
  | inl here ↦ let k = paths-have name (paths_of op) here in record { at = 0; lane = lane; line = line; op = op; path = k.0; began = refl; of = k.1; has = k.2 }
  | inr later ↦ script-later (Began lane line op) es name (script-has name es later)
]
script-has name (Answered lane line answer ∷ es) e = script-later (Answered lane line answer) es name (script-has name es e)
script-has name (Dialed port ∷ es) e = script-later (Dialed port) es name (script-has name es e)
script-has name (Sent bytes ∷ es) e = script-later (Sent bytes) es name (script-has name es e)
script-has name (Executed xid call reply ∷ es) e = script-later (Executed xid call reply) es name (script-has name es e)
script-has name (Foreign call reply ∷ es) e = script-later (Foreign call reply) es name (script-has name es e)
script-has name (Flushed file from len ∷ es) e = script-later (Flushed file from len) es name (script-has name es e)
script-has name (Reboot verf ∷ es) e = script-later (Reboot verf) es name (script-has name es e)
script-has name (Delivered bytes ∷ es) e = script-later (Delivered bytes) es name (script-has name es e)
script-has name (Failed ∷ es) e = script-later Failed es name (script-has name es e)
script-has name (Clock ms ∷ es) e = script-later (Clock ms) es name (script-has name es e)

-- the other way round
contains-cases : {A : Type 0} → (y x : A) (ys : List A) → Contains (y ∷ ys) x → (y ≡ x) ⊎ Contains ys x
contains-cases y x ys (zero, low, is) = inl is
contains-cases y x ys (suc k, low, is) = inr (k, omega (arith, low), is)

path-in : (name : List ℕ) (path : List (List ℕ)) → Contains path name → in_path name path ≡ true
path-in name [] c = absurd (let low = c.1 in omega (arith, low))
path-in name (n ∷ ns) c = elim (contains-cases n name ns c) [
  | inl same ↦ or-first (same_list n name) (in_path name ns) (subst (λ (k : List ℕ). same_list n k ≡ true) same (list-same n))
  | inr later ↦ or-second (same_list n name) (in_path name ns) (path-in name ns later)
]

paths-in : (name : List ℕ) (paths : List (List (List ℕ))) (path : List (List ℕ)) → Contains paths path → Contains path name → in_paths name paths ≡ true
paths-in name [] path c has = absurd (let low = c.1 in omega (arith, low))
paths-in name (p ∷ ps) path c has = elim (contains-cases p path ps c) [
  | inl same ↦ or-first (in_path name p) (in_paths name ps) (path-in name p (subst (λ (k : List (List ℕ)). Contains k name) (sym same) has))
  | inr later ↦ or-second (in_path name p) (in_paths name ps) (paths-in name ps path later has)
]

in-began : (name : List ℕ) (es : List Entry) (at lane line : ℕ) (op : Op) (path : List (List ℕ)) → At es at (Began lane line op) → Contains (paths_of op) path → Contains path name → in_script name es ≡ true
in-began name [] at lane line op path began of has = absurd (let no_way : None ≡ Some (Began lane line op) = began in cc)
in-began name (Began l k o ∷ es) zero lane line op path began of has =
    let same : o ≡ op = cc in
    or-first (in_paths name (paths_of o)) (in_script name es) (paths-in name (paths_of o) path (subst (λ (q : Op). Contains (paths_of q) path) (sym same) of) has)
in-began name (Began l k o ∷ es) (suc at) lane line op path began of has = or-second (in_paths name (paths_of o)) (in_script name es) (in-began name es at lane line op path began of has)
in-began name (Answered l k answer ∷ es) zero lane line op path began of has = absurd (cc)
in-began name (Answered l k answer ∷ es) (suc at) lane line op path began of has = in-began name es at lane line op path began of has
in-began name (Dialed port ∷ es) zero lane line op path began of has = absurd (cc)
in-began name (Dialed port ∷ es) (suc at) lane line op path began of has = in-began name es at lane line op path began of has
in-began name (Sent bytes ∷ es) zero lane line op path began of has = absurd (cc)
in-began name (Sent bytes ∷ es) (suc at) lane line op path began of has = in-began name es at lane line op path began of has
in-began name (Executed xid call reply ∷ es) zero lane line op path began of has = absurd (cc)
in-began name (Executed xid call reply ∷ es) (suc at) lane line op path began of has = in-began name es at lane line op path began of has
in-began name (Foreign call reply ∷ es) zero lane line op path began of has = absurd (cc)
in-began name (Foreign call reply ∷ es) (suc at) lane line op path began of has = in-began name es at lane line op path began of has
in-began name (Flushed file from len ∷ es) zero lane line op path began of has = absurd (cc)
in-began name (Flushed file from len ∷ es) (suc at) lane line op path began of has = in-began name es at lane line op path began of has
in-began name (Reboot verf ∷ es) zero lane line op path began of has = absurd (cc)
in-began name (Reboot verf ∷ es) (suc at) lane line op path began of has = in-began name es at lane line op path began of has
in-began name (Delivered bytes ∷ es) zero lane line op path began of has = absurd (cc)
in-began name (Delivered bytes ∷ es) (suc at) lane line op path began of has = in-began name es at lane line op path began of has
in-began name (Failed ∷ es) zero lane line op path began of has = absurd (cc)
in-began name (Failed ∷ es) (suc at) lane line op path began of has = in-began name es at lane line op path began of has
in-began name (Clock ms ∷ es) zero lane line op path began of has = absurd (cc)
in-began name (Clock ms ∷ es) (suc at) lane line op path began of has = in-began name es at lane line op path began of has

pub script-in : (name : List ℕ) (es : List Entry) → IsInScript es name → in_script name es ≡ true
script-in name es k = in-began name es k.at k.lane k.line k.op k.path k.began k.of k.has
