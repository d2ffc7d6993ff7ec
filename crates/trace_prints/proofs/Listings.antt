-- The list of a directory after the lines of the names that left it and of those that entered it.
use Rattle.std.proofs.Common.{◌≡◌, ◌≢◌, ◌<◌, ◌⊎◌, inl, inr, ℕ, List, [], ◌∷◌, Bool, true, false, not, ◌&&◌, ◌==◌, refl, sym, ap, ◌∙◌, subst, arith, true≢false, ◌||◌}
use Rattle.std.specs.Prelude.{nat_lt, if◌then◌else◌}
use Rattle.std.specs.declared.cmp.Ordering.{Ordering}
use Rattle.std.specs.Cmp.Lexicographic.{slice_cmp}
use Rattle.std.specs.declared.cmp.Ordering.TheVariants.{Less, Equal, Greater}
use Rattle.std.specs.Ordering.{MatchOrdering, is_lt, nat_cmp, ordering_reverse}
use Rattle.std.specs.Str.{bytes_eq}
use Rattle.std.proofs.lemmas.Bool.{eqb-true, eqb-false, ltb-true, lt-ltb, le-ltb}
use Rattle.std.proofs.lemmas.Cmp.{nat_list_cmp_total, ranked, tied_itself}
use Rattle.std.proofs.lemmas.Map.Lookups.{exact_bytes}
use Rattle.std.proofs.lemmas.Slice.Eq.{bytes_eq-Decides}
use Rattle.world_model.specs.Server.{Listed}
use Rattle.trace_text.specs.Objects.{comes_before, listing, placed, without}
use Rattle.trace_prints.specs.HasText.{IsBefore, IsSorted}

-- ---- the order of a list

-- by cookies, and by names where these are equal
abbrev pub Before : Listed → Listed → Type 0
Before a b = comes_before a b ≡ true

data Order (a b : Listed) : Type 0 where
  less : a.cookie < b.cookie → Order a b
  same : a.cookie ≡ b.cookie → slice_cmp nat_cmp a.name b.name ≡ Less → Order a b

lt-so : (o : Ordering) → is_lt o ≡ true → o ≡ Less
lt-so Less e = refl
lt-so Equal e = absurd (cc e)
lt-so Greater e = absurd (cc e)

order-of : (a b : Listed) → Before a b → Order a b
order-of a b h = by (nat_lt a.cookie b.cookie) refl (a.cookie == b.cookie) refl (is_lt (slice_cmp nat_cmp a.name b.name)) refl h
  where
    by : (s : Bool) → nat_lt a.cookie b.cookie ≡ s → (t : Bool) → (a.cookie == b.cookie) ≡ t → (u : Bool) → is_lt (slice_cmp nat_cmp a.name b.name) ≡ u → (s || (t && u)) ≡ true → Order a b
    by true e t f u g h = less (ltb-true a.cookie b.cookie e)
    by false e true f true g h = same (eqb-true a.cookie b.cookie f) (lt-so (slice_cmp nat_cmp a.name b.name) g)
    by false e true f false g h = absurd (cc h)
    by false e false f u g h = absurd (cc h)

of-order : (a b : Listed) → Order a b → Before a b
of-order a b (less lt) = rw (lt-ltb a.cookie b.cookie lt) refl
of-order a b (same e l) = rw (le-ltb a.cookie b.cookie (omega (arith, e)), equal a.cookie b.cookie e, l) refl
  where
    true-so : (n : ℕ) (t : Bool) → (t ≡ false → n ≡ n → ⊥) → t ≡ true
    true-so n true f = refl
    true-so n false f = absurd (f refl refl)

    equal : (m n : ℕ) → m ≡ n → (m == n) ≡ true
    equal m n e = rw e (true-so n (n == n) (eqb-false n n))

before-trans : (a b c : Listed) → Before a b → Before b c → Before a c
before-trans a b c h k = of-order a c (by (order-of a b h) (order-of b c k))
  where
    by : Order a b → Order b c → Order a c
    by (less lt) (less l) = less (omega (arith, lt, l))
    by (less lt) (same e l) = less (omega (arith, lt, e))
    by (same e l) (less lt) = less (omega (arith, lt, e))
    by (same e l) (same f m) = same (e ∙ f) (nat_list_cmp_total.trans a.name b.name c.name l m)

no-loop : (a : Listed) → Before a a → ⊥
no-loop a h = by (order-of a a h)
  where
    by : Order a a → ⊥
    by (less lt) = absurd (omega (arith, lt))
    by (same e l) = absurd (clash (sym l ∙ tied_itself nat_list_cmp_total a.name))
      where
        clash : Less ≡ Equal → ⊥
        clash e = cc e

-- two entries of different names stand one before the other
before-or : (a b : Listed) → bytes_eq a.name b.name ≡ false → comes_before a b ≡ false → Before b a
before-or a b differ h = by (nat_cmp a.cookie b.cookie) (ranked a.cookie b.cookie (nat_cmp a.cookie b.cookie) refl)
  where
    apart : a.name ≡ b.name → ⊥
    apart e = true≢false (sym ((bytes_eq-Decides a.name b.name).1 e) ∙ differ)

    not-less : Order a b → ⊥
    not-less o = true≢false (sym (of-order a b o) ∙ h)

    names : (o : Ordering) → slice_cmp nat_cmp a.name b.name ≡ o → a.cookie ≡ b.cookie → Before b a
    names Less l e = absurd (not-less (same e l))
    names Equal l e = absurd (apart (exact_bytes a.name b.name l))
    names Greater l e = of-order b a (same (sym e) (nat_list_cmp_total.antisymm b.name a.name ∙ ap ordering_reverse l))

    by : (o : Ordering) → MatchOrdering o (a.cookie < b.cookie) (a.cookie ≡ b.cookie) (b.cookie < a.cookie) → Before b a
    by Less lt = absurd (not-less (less lt))
    by Equal e = names (slice_cmp nat_cmp a.name b.name) refl e
    by Greater gt = of-order b a (less gt)

-- ---- members

abbrev pub In : Listed → List Listed → Type 0
In x [] = ⊥
In x (y ∷ ys) = (x ≡ y) ⊎ In x ys

pub before-in : (x y : Listed) (ys : List Listed) → IsBefore x ys → In y ys → Before x y
before-in x y [] b i = absurd i
before-in x y (z ∷ ys) b (inl e) = rw e b.0
before-in x y (z ∷ ys) b (inr i) = before-in x y ys b.1 i

pub before-all : (x : Listed) (ys : List Listed) → ((y : Listed) → In y ys → Before x y) → IsBefore x ys
before-all x [] f = tt
before-all x (y ∷ ys) f = (f y (inl refl), before-all x ys (λ z i. f z (inr i)))

-- two lists in order that have the same members are equal
pub same-lists : (xs ys : List Listed) → IsSorted xs → IsSorted ys → ((z : Listed) → In z xs → In z ys) → ((z : Listed) → In z ys → In z xs) → xs ≡ ys
same-lists [] [] s t f g = refl
same-lists [] (y ∷ ys) s t f g = absurd (g y (inl refl))
same-lists (x ∷ xs) [] s t f g = absurd (f x (inl refl))
same-lists (x ∷ xs) (y ∷ ys) s t f g =
    let heads : x ≡ y = head (f x (inl refl)) (g y (inl refl)) in
    rw heads (ap (λ (k : List Listed). y ∷ k) (same-lists xs ys s.1 t.1 (λ z i. right z i (f z (inr i)) heads) (λ z i. left z i (g z (inr i)) heads)))
  where
    head : In x (y ∷ ys) → In y (x ∷ xs) → x ≡ y
    head (inl e) j = e
    head (inr i) (inl e) = sym e
    head (inr i) (inr j) = absurd (no-loop x (before-trans x y x (before-in x y xs s.0 j) (before-in y x ys t.0 i)))

    right : (z : Listed) → In z xs → In z (y ∷ ys) → x ≡ y → In z ys
    right z i (inr j) e = j
    right z i (inl f) e = absurd (no-loop x (subst (λ (k : Listed). Before x k) (f ∙ sym e) (before-in x z xs s.0 i)))

    left : (z : Listed) → In z ys → In z (x ∷ xs) → x ≡ y → In z xs
    left z i (inr j) e = j
    left z i (inl f) e = absurd (no-loop y (subst (λ (k : Listed). Before y k) (f ∙ e) (before-in y z ys t.0 i)))

-- ---- without a name

pub left-in : (name : List ℕ) (x : Listed) (ys : List Listed) → In x (without name ys) → In x ys × (bytes_eq x.name name ≡ false)
left-in name x [] i = absurd i
left-in name x (y ∷ ys) i = by (λ j. left-in name x ys j) (bytes_eq y.name name) refl i
  where
    deeper : In x ys × (bytes_eq x.name name ≡ false) → In x (y ∷ ys) × (bytes_eq x.name name ≡ false)
    deeper p = (inr p.0, p.1)

    by : (In x (without name ys) → In x ys × (bytes_eq x.name name ≡ false)) → (t : Bool) → bytes_eq y.name name ≡ t → In x (if not t then y ∷ without name ys else without name ys)
        → In x (y ∷ ys) × (bytes_eq x.name name ≡ false)
    by rest true e i = deeper (rest i)
    by rest false e (inl f) = (inl f, ap (λ (k : Listed). bytes_eq k.name name) f ∙ e)
    by rest false e (inr i) = deeper (rest i)

pub in-left : (name : List ℕ) (x : Listed) (ys : List Listed) → In x ys → bytes_eq x.name name ≡ false → In x (without name ys)
in-left name x [] i d = i
in-left name x (y ∷ ys) i d = by (λ j. in-left name x ys j d) (bytes_eq y.name name) refl i
  where
    by : (In x ys → In x (without name ys)) → (t : Bool) → bytes_eq y.name name ≡ t → In x (y ∷ ys) → In x (if not t then y ∷ without name ys else without name ys)
    by rest true e (inl f) = absurd (true≢false (sym e ∙ ap (λ (k : Listed). bytes_eq k.name name) (sym f) ∙ d))
    by rest true e (inr i) = rest i
    by rest false e (inl f) = inl f
    by rest false e (inr i) = inr (rest i)

pub left-sorted : (name : List ℕ) (ys : List Listed) → IsSorted ys → IsSorted (without name ys)
left-sorted name [] s = tt
left-sorted name (y ∷ ys) s = by (left-sorted name ys s.1) (bytes_eq y.name name)
  where
    by : IsSorted (without name ys) → (t : Bool) → IsSorted (if not t then y ∷ without name ys else without name ys)
    by rest true = rest
    by rest false = (before-all y (without name ys) (λ z i. before-in y z ys s.0 (left-in name z ys i).0), rest)

-- ---- one entry more

pub placed-in : (e x : Listed) (ys : List Listed) → In x (placed e ys) → (x ≡ e) ⊎ In x ys
placed-in e x [] i = i
placed-in e x (y ∷ ys) i = by (λ j. placed-in e x ys j) (comes_before e y) i
  where
    deeper : (x ≡ e) ⊎ In x ys → (x ≡ e) ⊎ In x (y ∷ ys)
    deeper (inl f) = inl f
    deeper (inr j) = inr (inr j)

    by : (In x (placed e ys) → (x ≡ e) ⊎ In x ys) → (t : Bool) → In x (if t then e ∷ y ∷ ys else y ∷ placed e ys) → (x ≡ e) ⊎ In x (y ∷ ys)
    by rest true (inl f) = inl f
    by rest true (inr j) = inr j
    by rest false (inl f) = inr (inl f)
    by rest false (inr j) = deeper (rest j)

in-placed : (e x : Listed) (ys : List Listed) → (x ≡ e) ⊎ In x ys → In x (placed e ys)
in-placed e x [] i = i
in-placed e x (y ∷ ys) i = by (λ j. in-placed e x ys j) (comes_before e y) i
  where
    by : ((x ≡ e) ⊎ In x ys → In x (placed e ys)) → (t : Bool) → (x ≡ e) ⊎ In x (y ∷ ys) → In x (if t then e ∷ y ∷ ys else y ∷ placed e ys)
    by rest true (inl f) = inl f
    by rest true (inr j) = inr j
    by rest false (inl f) = inr (rest (inl f))
    by rest false (inr (inl f)) = inl f
    by rest false (inr (inr j)) = inr (rest (inr j))

placed-sorted : (e : Listed) (ys : List Listed) → IsSorted ys → ((y : Listed) → In y ys → comes_before e y ≡ false → Before y e) → IsSorted (placed e ys)
placed-sorted e [] s f = (tt, tt)
placed-sorted e (y ∷ ys) s f = by (placed-sorted e ys s.1 (λ z i. f z (inr i))) (comes_before e y) refl
  where
    by : IsSorted (placed e ys) → (t : Bool) → comes_before e y ≡ t → IsSorted (if t then e ∷ y ∷ ys else y ∷ placed e ys)
    by rest true h = ((h, before-all e ys (λ z i. before-trans e y z h (before-in y z ys s.0 i))), s)
    by rest false h = (before-all y (placed e ys) (λ z i. behind z (placed-in e z ys i)), rest)
      where
        behind : (z : Listed) → (z ≡ e) ⊎ In z ys → Before y z
        behind z (inl g) = subst (λ (k : Listed). Before y k) (sym g) (f y (inl refl) h)
        behind z (inr i) = before-in y z ys s.0 i

-- the list with an entry in place of that of its name
pub listing-sorted : (e : Listed) (ys : List Listed) → IsSorted ys → IsSorted (listing e ys)
listing-sorted e ys s = placed-sorted e (without e.name ys) (left-sorted e.name ys s) (λ y i h. before-or e y (turned e.name y.name (left-in e.name y ys i).1) h)
  where
    turned : (a b : List ℕ) → bytes_eq b a ≡ false → bytes_eq a b ≡ false
    turned a b d = by (bytes_eq a b) refl
      where
        by : (t : Bool) → bytes_eq a b ≡ t → t ≡ false
        by false e = refl
        by true e = absurd (true≢false (sym ((bytes_eq-Decides b a).1 (sym ((bytes_eq-Decides a b).0 e))) ∙ d))

pub listing-in : (e x : Listed) (ys : List Listed) → In x (listing e ys) → (x ≡ e) ⊎ (In x ys × (bytes_eq x.name e.name ≡ false))
listing-in e x ys i = by (placed-in e x (without e.name ys) i)
  where
    by : (x ≡ e) ⊎ In x (without e.name ys) → (x ≡ e) ⊎ (In x ys × (bytes_eq x.name e.name ≡ false))
    by (inl f) = inl f
    by (inr j) = inr (left-in e.name x ys j)

pub in-listing : (e x : Listed) (ys : List Listed) → (x ≡ e) ⊎ (In x ys × (bytes_eq x.name e.name ≡ false)) → In x (listing e ys)
in-listing e x ys (inl f) = in-placed e x (without e.name ys) (inl f)
in-listing e x ys (inr p) = in-placed e x (without e.name ys) (inr (in-left e.name x ys p.0 p.1))
