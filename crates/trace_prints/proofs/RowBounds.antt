-- The list of a directory after a line is one that lines can show.
use Rattle.std.proofs.Common.{◌≡◌, ◌<◌, ◌≤◌, ◌⊎◌, inl, inr, ◌^◌, ℕ, List, [], ◌∷◌, map, Bool, true, false, refl, sym, ap, ◌∙◌, subst, true≢false}
use Rattle.std.specs.Prelude.{not, if◌then◌else◌}
use Rattle.std.specs.Str.{bytes_eq}
use Rattle.std.proofs.lemmas.Slice.Eq.{bytes_eq-Decides}
use Rattle.trace_data.specs.declared.trace.DirEntry.{DirEntry}
use Rattle.trace_data.specs.Histories.{listed_of}
use Rattle.trace_text.specs.Objects.{comes_before, listing, placed, without}
use Rattle.world_model.specs.Server.{Listed}
use Rattle.trace_prints.specs.HasText.{AreFree, AreListed, IsFree, IsHandleWord, IsListed, IsListedName, IsListing, IsSorted}
use Rattle.trace_prints.proofs.Listings.{In, left-in, left-sorted, listing-in, listing-sorted, placed-in}

-- an entry that a line can show
pub record IsRow (entry : Listed) : Type 0 where
  pub name : IsListedName entry.name
  pub object : IsHandleWord entry.object
  pub least : 1 ≤ entry.cookie
  pub most : entry.cookie < 2 ^ 64

-- no two entries have one name
abbrev pub AreApart : List Listed → Type 0
AreApart [] = Unit {0}
AreApart (entry ∷ entries) = IsFree entry.name entries × AreApart entries

-- a list that lines can show
pub record AreRows (entries : List Listed) : Type 0 where
  pub rows : (x : Listed) → In x entries → IsRow x
  pub apart : AreApart entries
  pub sorted : IsSorted entries

pub no-rows : AreRows []
no-rows = record { rows = λ x i. absurd i; apart = tt; sorted = tt }

-- ---- names

turned : (a b : List ℕ) → bytes_eq b a ≡ false → bytes_eq a b ≡ false
turned a b d = by (bytes_eq a b) refl
  where
    by : (t : Bool) → bytes_eq a b ≡ t → t ≡ false
    by false e = refl
    by true e = absurd (true≢false (sym ((bytes_eq-Decides b a).1 (sym ((bytes_eq-Decides a b).0 e))) ∙ d))

free-all : (name : List ℕ) (ys : List Listed) → ((y : Listed) → In y ys → bytes_eq y.name name ≡ false) → IsFree name ys
free-all name [] f = tt
free-all name (y ∷ ys) f = (f y (inl refl), free-all name ys (λ z i. f z (inr i)))

free-in : (name : List ℕ) (y : Listed) (ys : List Listed) → IsFree name ys → In y ys → bytes_eq y.name name ≡ false
free-in name y [] f i = absurd i
free-in name y (z ∷ ys) f (inl e) = ap (λ (k : Listed). bytes_eq k.name name) e ∙ f.0
free-in name y (z ∷ ys) f (inr i) = free-in name y ys f.1 i

-- ---- without a name

left-apart : (name : List ℕ) (ys : List Listed) → AreApart ys → AreApart (without name ys)
left-apart name [] a = tt
left-apart name (y ∷ ys) a = by (left-apart name ys a.1) (bytes_eq y.name name)
  where
    by : AreApart (without name ys) → (t : Bool) → AreApart (if not t then y ∷ without name ys else without name ys)
    by rest true = rest
    by rest false = (free-all y.name (without name ys) (λ z i. free-in y.name z ys a.0 (left-in name z ys i).0), rest)

pub left-rows : (name : List ℕ) (ys : List Listed) → AreRows ys → AreRows (without name ys)
left-rows name ys r = record {
  rows = λ x i. r.rows x (left-in name x ys i).0;
  apart = left-apart name ys r.apart;
  sorted = left-sorted name ys r.sorted;
}

-- ---- with an entry

placed-apart : (e : Listed) (ys : List Listed) → IsFree e.name ys → AreApart ys → AreApart (placed e ys)
placed-apart e [] f a = (tt, tt)
placed-apart e (y ∷ ys) f a = by (placed-apart e ys f.1 a.1) (comes_before e y)
  where
    other : (z : Listed) → (z ≡ e) ⊎ In z ys → bytes_eq z.name y.name ≡ false
    other z (inl g) = ap (λ (k : Listed). bytes_eq k.name y.name) g ∙ turned e.name y.name f.0
    other z (inr i) = free-in y.name z ys a.0 i

    by : AreApart (placed e ys) → (t : Bool) → AreApart (if t then e ∷ y ∷ ys else y ∷ placed e ys)
    by rest true = (f, a)
    by rest false = (free-all y.name (placed e ys) (λ z i. other z (placed-in e z ys i)), rest)

pub listing-rows : (e : Listed) (ys : List Listed) → IsRow e → AreRows ys → AreRows (listing e ys)
listing-rows e ys row r = record {
  rows = λ x i. by x (listing-in e x ys i);
  apart = placed-apart e (without e.name ys) (free-all e.name (without e.name ys) (λ z i. (left-in e.name z ys i).1)) (left-apart e.name ys r.apart);
  sorted = listing-sorted e ys r.sorted;
}
  where
    by : (x : Listed) → (x ≡ e) ⊎ (In x ys × (bytes_eq x.name e.name ≡ false)) → IsRow x
    by x (inl g) = subst IsRow (sym g) row
    by x (inr p) = r.rows x p.0

-- ---- the list of an object of a trace

listed-all : (es : List DirEntry) → ((x : Listed) → In x (map listed_of es) → IsRow x) → AreListed es
listed-all [] f = tt
listed-all (e ∷ es) f = (listed-one e (f (listed_of e) (inl refl)), listed-all es (λ x i. f x (inr i)))
  where
    listed-one : (e : DirEntry) → IsRow (listed_of e) → IsListed e
    listed-one e r = record { name = r.name; object = r.object; least = r.least; most = r.most }

free-of : (es : List DirEntry) → AreApart (map listed_of es) → AreFree es
free-of [] a = tt
free-of (e ∷ es) a = (a.0, free-of es a.1)

pub listing-of : (es : List DirEntry) → AreRows (map listed_of es) → IsListing es
listing-of es r = record { listed = listed-all es r.rows; free = free-of es r.apart; sorted = r.sorted }
