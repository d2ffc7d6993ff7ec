-- What stands in a list: in one that was mapped, filtered or made longer.
use Rattle.std.proofs.Common.{◌≡◌, ◌<◌, ℕ, zero, suc, Bool, true, false, List, [], ◌∷◌, ◌++◌, length, map, filter, cond, not, Contains, Some, slice_get, slice_index_or, refl, sym, ap, subst, ◌∙◌, arith}
use Rattle.nfs_dir_calls.specs.declared.plus_page.PlusRow.{PlusRow}
use Rattle.world_model.specs.Chains.{LastCookie, names_of}
use Rattle.world_model.specs.Names.{is_dots}
use Rattle.world_model.specs.Rising.{NameRow, plus_rows}

abbrev pub In : {X : Type 0} → List X → X → Type 0
In {X} xs x = (at : ℕ) × (slice_get xs at ≡ Some x)

some_is : {X : Type 0} (a b : X) → Some a ≡ Some b → a ≡ b
some_is {X} a b e = cc

pub in_contains : {X : Type 0} (xs : List X) (x : X) → In xs x → Contains xs x
in_contains {X} xs x k = by xs k.0 k.1
  where
    by : (xs : List X) (at : ℕ) → slice_get xs at ≡ Some x → Contains xs x
    by [] at e = absurd (cc e)
    by (y ∷ xs) zero e = (0, omega arith, some_is y x e)
    by (y ∷ xs) (suc at) e = let r = by xs at e in let low = r.1 in (suc r.0, omega (arith, low), r.2)

pub contains_in : {X : Type 0} (xs : List X) (x : X) → Contains xs x → In xs x
contains_in {X} xs x k = by xs k.0 k.1 k.2
  where
    by : (xs : List X) (at : ℕ) → at < length xs → slice_index_or xs at x ≡ x → In xs x
    by [] at lt e = absurd (omega (arith, lt))
    by (y ∷ xs) zero lt e = (0, ap Some e)
    by (y ∷ xs) (suc at) lt e = let r = by xs at (omega (arith, lt)) e in (suc r.0, r.1)

in_map : {X Y : Type 0} (g : X → Y) (xs : List X) (x : X) → In xs x → In (map g xs) (g x)
in_map {X} {Y} g xs x k = by xs k.0 k.1
  where
    by : (xs : List X) (at : ℕ) → slice_get xs at ≡ Some x → In (map g xs) (g x)
    by [] at e = absurd (cc e)
    by (y ∷ xs) zero e = (0, ap (λ z. Some (g z)) (some_is y x e))
    by (y ∷ xs) (suc at) e = let r = by xs at e in (suc r.0, r.1)

from_map : {X Y : Type 0} (g : X → Y) (xs : List X) (y : Y) → In (map g xs) y → (x : X) × In xs x × (g x ≡ y)
from_map {X} {Y} g xs y k = by xs k.0 k.1
  where
    by : (xs : List X) (at : ℕ) → slice_get (map g xs) at ≡ Some y → (x : X) × In xs x × (g x ≡ y)
    by [] at e = absurd (cc e)
    by (z ∷ xs) zero e = (z, (0, refl), some_is (g z) y e)
    by (z ∷ xs) (suc at) e = let r = by xs at e in (r.0, (suc r.1.0, r.1.1), r.2)

in_filter : {X : Type 0} (test : X → Bool) (xs : List X) (x : X) → test x ≡ true → In xs x → In (filter test xs) x
in_filter {X} test xs x passes k = by xs k.0 k.1
  where
    by : (xs : List X) (at : ℕ) → slice_get xs at ≡ Some x → In (filter test xs) x
    by [] at e = absurd (cc e)
    by (y ∷ xs) zero e = let same : y ≡ x = some_is y x e in rw (ap test same ∙ passes) (0, e)
    by (y ∷ xs) (suc at) e = later (test y) (by xs at e)
      where
        later : (b : Bool) → In (filter test xs) x → In (cond b (y ∷ filter test xs) (filter test xs)) x
        later true r = (suc r.0, r.1)
        later false r = r

from_filter : {X : Type 0} (test : X → Bool) (xs : List X) (x : X) → In (filter test xs) x → In xs x
from_filter {X} test xs x k = by xs k
  where
    by : (xs : List X) → In (filter test xs) x → In xs x
    by [] k = absurd (cc k.1)
    by (y ∷ xs) k = of (test y) (λ q. by xs q) k
      where
        front : (at : ℕ) → (In (filter test xs) x → In xs x) → slice_get (y ∷ filter test xs) at ≡ Some x → In (y ∷ xs) x
        front zero rest e = (0, e)
        front (suc at) rest e = let r = rest (at, e) in (suc r.0, r.1)

        of : (b : Bool) → (In (filter test xs) x → In xs x) → In (cond b (y ∷ filter test xs) (filter test xs)) x → In (y ∷ xs) x
        of true rest k = front k.0 rest k.1
        of false rest k = let r = rest k in (suc r.0, r.1)

pub in_last : {X : Type 0} (front : List X) (x : X) → In (front ++ x ∷ []) x
in_last {X} [] x = (0, refl)
in_last {X} (y ∷ front) x = let r = in_last front x in (suc r.0, r.1)

-- ---- rows of a page

pub row_in : (rows : List PlusRow) (row : PlusRow) → In rows row → In (plus_rows rows) (record { name = row.name; cookie = row.cookie })
row_in rows row k = in_map {Y = NameRow} (λ (z : PlusRow). record { name = z.name; cookie = z.cookie }) rows row k

-- a name of the listing is that of a row
pub row_named : (rows : List PlusRow) (name : List ℕ) → Contains (names_of rows) name → (row : PlusRow) × In rows row × (row.name ≡ name)
row_named rows name k =
    let listed : In (map (λ (row : PlusRow). row.name) rows) name = from_filter (λ z. not (is_dots z)) (map (λ (row : PlusRow). row.name) rows) name (contains_in (names_of rows) name k) in
    from_map (λ (row : PlusRow). row.name) rows name listed

-- the name of a row is in the listing, but for the dots
pub name_listed : (rows : List PlusRow) (name : List ℕ) (cookie : ℕ) → is_dots name ≡ false → Contains (plus_rows rows) (record { name = name; cookie = cookie }) → Contains (names_of rows) name
name_listed rows name cookie dots k =
    let r = from_map {Y = NameRow} (λ (z : PlusRow). record { name = z.name; cookie = z.cookie }) rows (record { name = name; cookie = cookie }) (contains_in (plus_rows rows) (record { name = name; cookie = cookie }) k) in
    let same : r.0.name ≡ name = ap (λ (z : NameRow). z.name) r.2 in
    let there : In (map (λ (row : PlusRow). row.name) rows) name = subst (λ z. In (map (λ (row : PlusRow). row.name) rows) z) same (in_map (λ (row : PlusRow). row.name) rows r.0 r.1) in
    in_contains (names_of rows) name (in_filter (λ z. not (is_dots z)) (map (λ (row : PlusRow). row.name) rows) name (ap not dots) there)

-- the last row has the last cookie
pub last_row : (rows : List PlusRow) (cookie : ℕ) → LastCookie rows cookie → (row : PlusRow) × In rows row × (row.cookie ≡ cookie)
last_row rows cookie k = (k.row, subst (λ z. In z k.row) (sym k.is) (in_last k.front k.row), k.cookie_is)
