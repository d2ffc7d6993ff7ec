-- Lists of different numbers, and of different rows.
use Rattle.core_counts.proofs.Prelude.{◌≡◌, ◌≢◌, ◌≤◌, ◌+◌, ◌⊎◌, inl, inr, ℕ, zero, suc, nat_eq, Bool, true, false, List, [], ◌∷◌, ◌++◌, length, All, refl, sym, ap, subst, arith, if◌then◌else◌, eqb-true, eqb-false, All-nil, All-cons, All-head}
use Rattle.std.proofs.Common.{AllPairs}
use Rattle.std.proofs.lemmas.List.Elements.{All-tail}
use Rattle.std.proofs.lemmas.List.Kept.{AllPairs-cons}

-- ---- P of each

abbrev pub Each : {A : Type 0} → (A → Type 0) → List A → Type 0
Each P [] = Unit {0}
Each P (x ∷ xs) = P x × Each P xs

pub each-map : {A : Type 0} → (P Q : A → Type 0) → ((x : A) → P x → Q x) → (xs : List A) → Each P xs → Each Q xs
each-map P Q f [] e = tt
each-map P Q f (x ∷ xs) e = (f x e.0, each-map P Q f xs e.1)

pub each-both : {A : Type 0} → (P Q : A → Type 0) → (xs : List A) → Each P xs → Each Q xs → Each (λ (x : A). P x × Q x) xs
each-both P Q [] p q = tt
each-both P Q (x ∷ xs) p q = ((p.0, q.0), each-both P Q xs p.1 q.1)

pub each-join : {A : Type 0} → (P : A → Type 0) → (xs ys : List A) → Each P xs → Each P ys → Each P (xs ++ ys)
each-join P [] ys p q = q
each-join P (x ∷ xs) ys p q = (p.0, each-join P xs ys p.1 q)

pub each-all : {A : Type 0} → (P : A → Type 0) → (xs : List A) → Each P xs → All P xs
each-all P [] e = All-nil P
each-all P (x ∷ xs) e = All-cons P x xs e.0 (each-all P xs e.1)

pub all-each : {A : Type 0} → (P : A → Type 0) → (xs : List A) → All P xs → Each P xs
all-each P [] a = tt
all-each P (x ∷ xs) a = (All-head P x xs a, all-each P xs (All-tail P x xs a))

-- ---- different numbers

abbrev pub Elsewhere : ℕ → List ℕ → Type 0
Elsewhere n xs = Each (λ (y : ℕ). y ≢ n) xs

abbrev pub Apart : List ℕ → Type 0
Apart [] = Unit {0}
Apart (x ∷ xs) = Elsewhere x xs × Apart xs

turned : (a b : ℕ) → a ≢ b → b ≢ a
turned a b apart same = apart (sym same)

pub apart-all : (xs : List ℕ) → Apart xs → AllPairs (λ (a b : ℕ). a ≢ b) xs
apart-all [] a = λ i j d low within. absurd (omega (arith, within))
apart-all (x ∷ xs) a =
    AllPairs-cons (λ (a b : ℕ). a ≢ b) x xs (each-all (λ (y : ℕ). x ≢ y) xs (each-map (λ (y : ℕ). y ≢ x) (λ (y : ℕ). x ≢ y) (λ y apart. turned y x apart) xs a.0)) (apart-all xs a.1)

pub all-apart : (xs : List ℕ) → AllPairs (λ (a b : ℕ). a ≢ b) xs → Apart xs
all-apart [] a = tt
all-apart (x ∷ xs) a = (
  each-map (λ (y : ℕ). x ≢ y) (λ (y : ℕ). y ≢ x) (λ y apart. turned x y apart) xs
      (all-each (λ (y : ℕ). x ≢ y) xs (λ k d within. a 0 (suc k) d (omega arith) (omega (arith, within)))),
  all-apart xs (λ i j d low within. a (suc i) (suc j) d (omega (arith, low)) (omega (arith, within))),
)

-- whether a number is one of them
pub look : (G : ℕ → Type 0) (n : ℕ) (xs : List ℕ) → Each G xs → Elsewhere n xs ⊎ G n
look G n [] e = inl tt
look G n (x ∷ xs) e = by (nat_eq x n) refl (look G n xs e.1)
  where
    by : (b : Bool) → nat_eq x n ≡ b → Elsewhere n xs ⊎ G n → Elsewhere n (x ∷ xs) ⊎ G n
    by true d rest = inr (subst G (eqb-true x n d) e.0)
    by false d (inl rest) = inl (eqb-false x n d, rest)
    by false d (inr there) = inr there

-- the others
abbrev pub without : ℕ → List ℕ → List ℕ
without n [] = []
without n (x ∷ xs) = if nat_eq x n then xs else x ∷ without n xs

pub without-each : (G : ℕ → Type 0) (n : ℕ) (xs : List ℕ) → Each G xs → Each G (without n xs)
without-each G n [] e = tt
without-each G n (x ∷ xs) e = by (nat_eq x n) (without-each G n xs e.1)
  where
    by : (b : Bool) → Each G (without n xs) → Each G (if b then xs else x ∷ without n xs)
    by true rest = e.1
    by false rest = (e.0, rest)

pub without-apart : (n : ℕ) (xs : List ℕ) → Apart xs → Apart (without n xs) × Elsewhere n (without n xs)
without-apart n [] a = (tt, tt)
without-apart n (x ∷ xs) a = by (nat_eq x n) refl (without-apart n xs a.1)
  where
    by : (b : Bool) → nat_eq x n ≡ b → Apart (without n xs) × Elsewhere n (without n xs) → Apart (if b then xs else x ∷ without n xs) × Elsewhere n (if b then xs else x ∷ without n xs)
    by true d rest = (a.1, subst (λ (k : ℕ). Elsewhere k xs) (eqb-true x n d) a.0)
    by false d rest = ((without-each (λ (y : ℕ). y ≢ x) n xs a.0, rest.0), (eqb-false x n d, rest.1))

pub without-length : (n : ℕ) (xs : List ℕ) → length xs ≤ length (without n xs) + 1
without-length n [] = omega arith
without-length n (x ∷ xs) = by (nat_eq x n) (without-length n xs)
  where
    by : (b : Bool) → length xs ≤ length (without n xs) + 1 → length (x ∷ xs) ≤ length (if b then xs else x ∷ without n xs) + 1
    by true rest = omega arith
    by false rest = omega (arith, rest)

-- two lists of different numbers, none of which is in both
pub apart-join : (xs ys : List ℕ) → Apart xs → Apart ys → Each (λ (x : ℕ). Elsewhere x ys) xs → Apart (xs ++ ys)
apart-join [] ys a b apart = b
apart-join (x ∷ xs) ys a b apart = (each-join (λ (y : ℕ). y ≢ x) xs ys a.0 apart.0, apart-join xs ys a.1 b apart.1)

-- ---- groups of one key

-- their numbers are different
abbrev pub Different : {R : Type 0} → (R → ℕ) → List R → Type 0
Different number [] = Unit {0}
Different {R} number (r ∷ rs) = Each (λ (q : R). number q ≢ number r) rs × Different number rs

module _ {R : Type 0} (key : R → ℕ) where
  abbrev pub with_key : ℕ → List R → List R
  with_key k [] = []
  with_key k (r ∷ rs) = if nat_eq (key r) k then r ∷ with_key k rs else with_key k rs

  abbrev pub others : ℕ → List R → List R
  others k [] = []
  others k (r ∷ rs) = if nat_eq (key r) k then others k rs else r ∷ others k rs

  pub with-each : (P : R → Type 0) (k : ℕ) (rs : List R) → Each P rs → Each (λ (r : R). P r × (key r ≡ k)) (with_key k rs)
  with-each P k [] e = tt
  with-each P k (r ∷ rs) e = by (nat_eq (key r) k) refl (with-each P k rs e.1)
    where
      by : (b : Bool) → nat_eq (key r) k ≡ b → Each (λ (r : R). P r × (key r ≡ k)) (with_key k rs) → Each (λ (r : R). P r × (key r ≡ k)) (if b then r ∷ with_key k rs else with_key k rs)
      by true d rest = ((e.0, eqb-true (key r) k d), rest)
      by false d rest = rest

  pub others-each : (P : R → Type 0) (k : ℕ) (rs : List R) → Each P rs → Each (λ (r : R). P r × (key r ≢ k)) (others k rs)
  others-each P k [] e = tt
  others-each P k (r ∷ rs) e = by (nat_eq (key r) k) refl (others-each P k rs e.1)
    where
      by : (b : Bool) → nat_eq (key r) k ≡ b → Each (λ (r : R). P r × (key r ≢ k)) (others k rs) → Each (λ (r : R). P r × (key r ≢ k)) (if b then others k rs else r ∷ others k rs)
      by true d rest = rest
      by false d rest = ((e.0, eqb-false (key r) k d), rest)

  pub split-length : (k : ℕ) (rs : List R) → length rs ≡ length (with_key k rs) + length (others k rs)
  split-length k [] = refl
  split-length k (r ∷ rs) = by (nat_eq (key r) k) (split-length k rs)
    where
      by : (b : Bool) → length rs ≡ length (with_key k rs) + length (others k rs)
          → length (r ∷ rs) ≡ length (if b then r ∷ with_key k rs else with_key k rs) + length (if b then others k rs else r ∷ others k rs)
      by true rest = omega (arith, rest)
      by false rest = omega (arith, rest)

  module _ (number : R → ℕ) where
    pub with-different : (k : ℕ) (rs : List R) → Different number rs → Different number (with_key k rs)
    with-different k [] d = tt
    with-different k (r ∷ rs) d = by (nat_eq (key r) k) (with-different k rs d.1)
      where
        by : (b : Bool) → Different number (with_key k rs) → Different number (if b then r ∷ with_key k rs else with_key k rs)
        by true rest =
            (each-map (λ (q : R). (number q ≢ number r) × (key q ≡ k)) (λ (q : R). number q ≢ number r) (λ q p. p.0) (with_key k rs) (with-each (λ (q : R). number q ≢ number r) k rs d.0), rest)
        by false rest = rest

    pub others-different : (k : ℕ) (rs : List R) → Different number rs → Different number (others k rs)
    others-different k [] d = tt
    others-different k (r ∷ rs) d = by (nat_eq (key r) k) (others-different k rs d.1)
      where
        by : (b : Bool) → Different number (others k rs) → Different number (if b then others k rs else r ∷ others k rs)
        by true rest = rest
        by false rest =
            (each-map (λ (q : R). (number q ≢ number r) × (key q ≢ k)) (λ (q : R). number q ≢ number r) (λ q p. p.0) (others k rs) (others-each (λ (q : R). number q ≢ number r) k rs d.0), rest)

    -- rows of one key, the first of them and the others
    pub record Group (P : R → Type 0) : Type 0 where
      pub head : R
      pub tail : List R
      pub first : P head
      pub each : Each (λ (r : R). P r × (key r ≡ key head)) tail
      pub different : Different number (head ∷ tail)

    abbrev pub total : {P : R → Type 0} → List (Group P) → ℕ
    total [] = 0
    total (g ∷ gs) = length (g.head ∷ g.tail) + total gs

    abbrev pub AreApart : {P : R → Type 0} → List (Group P) → Type 0
    AreApart [] = Unit {0}
    AreApart {P} (g ∷ gs) = Each (λ (o : Group P). key o.head ≢ key g.head) gs × AreApart gs

    -- all rows in groups of different keys
    pub record Grouped (P : R → Type 0) (many : ℕ) : Type 0 where
      pub groups : List (Group P)
      pub apart : AreApart groups
      pub all : many ≡ total groups

    abbrev group-weaker : (P Q : R → Type 0) → ((r : R) → P r → Q r) → Group P → Group Q
    group-weaker P Q f g = record {
      head = g.head;
      tail = g.tail;
      first = f g.head g.first;
      each = each-map (λ (r : R). P r × (key r ≡ key g.head)) (λ (r : R). Q r × (key r ≡ key g.head)) (λ r p. (f r p.0, p.1)) g.tail g.each;
      different = g.different;
    }

    abbrev weaker-all : (P Q : R → Type 0) → ((r : R) → P r → Q r) → List (Group P) → List (Group Q)
    weaker-all P Q f [] = []
    weaker-all P Q f (g ∷ gs) = group-weaker P Q f g ∷ weaker-all P Q f gs

    weaker-total : (P Q : R → Type 0) (f : (r : R) → P r → Q r) (gs : List (Group P)) → total gs ≡ total (weaker-all P Q f gs)
    weaker-total P Q f [] = refl
    weaker-total P Q f (g ∷ gs) = ap (λ (n : ℕ). length (g.head ∷ g.tail) + n) (weaker-total P Q f gs)

    weaker-each : (P Q : R → Type 0) (f : (r : R) → P r → Q r) (k : ℕ) (gs : List (Group P)) → Each (λ (o : Group P). key o.head ≢ k) gs → Each (λ (o : Group Q). key o.head ≢ k) (weaker-all P Q f gs)
    weaker-each P Q f k [] e = tt
    weaker-each P Q f k (g ∷ gs) e = (e.0, weaker-each P Q f k gs e.1)

    weaker-apart : (P Q : R → Type 0) (f : (r : R) → P r → Q r) (gs : List (Group P)) → AreApart gs → AreApart (weaker-all P Q f gs)
    weaker-apart P Q f [] a = tt
    weaker-apart P Q f (g ∷ gs) a = (weaker-each P Q f (key g.head) gs a.0, weaker-apart P Q f gs a.1)

    heads : (P : R → Type 0) (k : ℕ) (gs : List (Group (λ (r : R). P r × (key r ≢ k)))) → Each (λ (o : Group (λ (r : R). P r × (key r ≢ k))). key o.head ≢ k) gs
    heads P k [] = tt
    heads P k (g ∷ gs) = (g.first.1, heads P k gs)

    grouped-by : (P : R → Type 0) (fuel : ℕ) (rs : List R) → length rs ≤ fuel → Different number rs → Each P rs → Grouped P (length rs)
    grouped-by P fuel [] few d e = record { groups = []; apart = tt; all = refl }
    grouped-by P zero (r ∷ rs) few d e = absurd (omega (arith, few))
    grouped-by P (suc fuel) (r ∷ rs) few d e =
        let size = split-length (key r) rs in
        let rest = grouped-by (λ (q : R). P q × (key q ≢ key r)) fuel (others (key r) rs) (omega (arith, few, size)) (others-different (key r) rs d.1) (others-each P (key r) rs e.1) in
        let first : Group P = record {
          head = r;
          tail = with_key (key r) rs;
          first = e.0;
          each = with-each P (key r) rs e.1;
          different = (
            each-map (λ (q : R). (number q ≢ number r) × (key q ≡ key r)) (λ (q : R). number q ≢ number r) (λ q p. p.0) (with_key (key r) rs)
                (with-each (λ (q : R). number q ≢ number r) (key r) rs d.0),
            with-different (key r) rs d.1,
          );
        } in
        let weak = weaker-all (λ (q : R). P q × (key q ≢ key r)) P (λ q p. p.0) rest.groups in
        record {
          groups = first ∷ weak;
          apart = (
            weaker-each (λ (q : R). P q × (key q ≢ key r)) P (λ q p. p.0) (key r) rest.groups (heads P (key r) rest.groups),
            weaker-apart (λ (q : R). P q × (key q ≢ key r)) P (λ q p. p.0) rest.groups rest.apart,
          );
          all = let some = rest.all in let same = weaker-total (λ (q : R). P q × (key q ≢ key r)) P (λ q p. p.0) rest.groups in omega (arith, some, same, size);
        }

    pub grouped : (P : R → Type 0) (rs : List R) → Different number rs → Each P rs → Grouped P (length rs)
    grouped P rs d e = grouped-by P (length rs) rs (omega arith) d e
