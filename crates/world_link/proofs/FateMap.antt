-- What is said of each transmission after a change of the map.
use Rattle.std.proofs.Common.{◌≡◌, ℕ, Bool, true, false, cond, Option, Result, Ok, Err, ◌&&◌, ◌==◌, refl, ap, rules, Ordering, if◌then◌else◌}
use Rattle.std.specs.Prelude.{unwrap_or, OnOk}
use Rattle.std.specs.Ordering.{nat_cmp, is_eq, ordering_then}
use Rattle.std.specs.declared.cmp.Ordering.TheVariants.{Less, Equal, Greater}
use Rattle.std.specs.BTreeMap as tree
use Rattle.std.specs.BTreeSet as sorted
use Rattle.world_link.specs.declared.directive.RequestId.{RequestId}
use Rattle.world_link.specs.Fates.{FateView, no_fate}
use Rattle.world_link.specs.Plans.{PlanView, is_same, destined}

-- the order of transmissions, by procedure and then by count
abbrev pub order : RequestId → RequestId → Ordering
order a b = ordering_then (nat_cmp a.proc b.proc) (nat_cmp a.k b.k)

is_eq-then : (x y : Ordering) → is_eq (ordering_then x y) ≡ (is_eq x && is_eq y)
is_eq-then Less y = refl
is_eq-then Equal y = refl
is_eq-then Greater y = refl

is_eq-nat : (a b : ℕ) → is_eq (nat_cmp a b) ≡ (a == b)
is_eq-nat a b = search rules

-- equal in that order, and the same
same_by_order : (a b : RequestId) → is_eq (order a b) ≡ is_same a b
same_by_order a b = rw (is_eq-then (nat_cmp a.proc b.proc) (nat_cmp a.k b.k), is_eq-nat a.proc b.proc, is_eq-nat a.k b.k) refl

chosen : (b : Bool) (x y : Option FateView) → unwrap_or (cond b x y) no_fate ≡ cond b (unwrap_or x no_fate) (unwrap_or y no_fate)
chosen true x y = refl
chosen false x y = refl

-- what a map says of each transmission
abbrev pub fates : tree.BTreeMap RequestId FateView → RequestId → FateView
fates m s = unwrap_or (tree.get order m s) no_fate

-- after a change at one transmission
abbrev pub changed : (RequestId → FateView) → RequestId → FateView → RequestId → FateView
changed old s fate other = if is_same s other then fate else old other

pub moved : (m n : tree.BTreeMap RequestId FateView) (s : RequestId) (w : Option FateView) → tree.UpdatesBy order (order s) m n w → fates n ≡ changed (fates m) s (unwrap_or w no_fate)
moved m n s w u = λ i other. at other i
  where
    at : (other : RequestId) → unwrap_or (tree.get order n other) no_fate ≡ cond (is_same s other) (unwrap_or w no_fate) (unwrap_or (tree.get order m other) no_fate)
    at other = rw (u.0 other, ← same_by_order s other) (chosen (is_eq (order s other)) w (tree.get order m other))

twice : (old : RequestId → FateView) (s : RequestId) (first second : FateView) → changed (changed old s first) s second ≡ changed old s second
twice old s first second = λ i other. at (is_same s other) (old other) i
  where
    at : (b : Bool) (rest : FateView) → cond b second (cond b first rest) ≡ cond b second rest
    at true rest = refl
    at false rest = refl

-- what is said of a transmission is taken out, changed and put in again
pub redestined : {X E : Type 0} (result : Result X E) (old mid new : PlanView) (s : RequestId) (taken fate : FateView) (change : FateView → FateView) → taken ≡ old.fate s → mid ≡ destined old s no_fate → fate ≡ change taken → OnOk result (new ≡ destined mid s fate) → OnOk result (new ≡ destined old s (change (old.fate s)))
redestined (Err e) old mid new s taken fate change t m f n = tt
redestined (Ok x) old mid new s taken fate change t m f n = rw (n, m, f, t) (ap (λ (g : RequestId → FateView). record old { fate = g }) (twice old.fate s no_fate (change (old.fate s))))

abbrev pub dials : sorted.BTreeSet ℕ → ℕ → Bool
dials set k = sorted.contains nat_cmp set k

abbrev pub dials_with : (ℕ → Bool) → ℕ → ℕ → Bool
dials_with old dial k = if dial == k then true else old k

-- the dials that fail, with one more
pub failing : (old new : sorted.BTreeSet ℕ) (dial : ℕ) → sorted.Updates nat_cmp old new dial true → dials new ≡ dials_with (dials old) dial
failing old new dial u = λ i k. at k i
  where
    at : (k : ℕ) → sorted.contains nat_cmp new k ≡ (if dial == k then true else sorted.contains nat_cmp old k)
    at k = rw (u.0 k, is_eq-nat dial k) refl
