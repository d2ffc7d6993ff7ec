-- Objects in order of making, one of them changed, or one more.
use Rattle.std.proofs.Common.{◌≡◌, ◌<◌, ◌≤◌, ◌+◌, ℕ, zero, suc, List, [], ◌∷◌, ◌++◌, length, Option, Some, None, refl, sym, ap, ◌∙◌, arith, ⊎_elim, slice_get, slice_set}
use Rattle.std.proofs.lemmas.Bool.{cases_eq}
use Rattle.export_fs.specs.declared.node.Node.{Node}
use Rattle.export_fs.specs.Parts.{rows_of}
use Rattle.export_fs.specs.Changes.{changed, put_node}
use Rattle.export_fs.specs.Sound.{names_in, names_of}

-- ---- lists of any kind

pub get_set : {A : Type 0} (xs : List A) (q : ℕ) (x y : A) → slice_get xs q ≡ Some x → slice_get (slice_set xs q y) q ≡ Some y
get_set [] q x y e = absurd (cc)
get_set (z ∷ xs) zero x y e = refl
get_set (z ∷ xs) (suc q) x y e = get_set xs q x y e

pub get_set_other : {A : Type 0} (xs : List A) (q p : ℕ) (y : A) → (p ≡ q → ⊥) → slice_get (slice_set xs q y) p ≡ slice_get xs p
get_set_other [] q p y d = refl
get_set_other (z ∷ xs) zero zero y d = absurd (d refl)
get_set_other (z ∷ xs) zero (suc p) y d = refl
get_set_other (z ∷ xs) (suc q) zero y d = refl
get_set_other (z ∷ xs) (suc q) (suc p) y d = get_set_other xs q p y (λ e. d (ap suc e))

pub length_set : {A : Type 0} (xs : List A) (q : ℕ) (y : A) → length (slice_set xs q y) ≡ length xs
length_set [] q y = refl
length_set (z ∷ xs) zero y = refl
length_set (z ∷ xs) (suc q) y = ap suc (length_set xs q y)

pub get_last : {A : Type 0} (xs : List A) (x : A) → slice_get (xs ++ x ∷ []) (length xs) ≡ Some x
get_last [] x = refl
get_last (z ∷ xs) x = get_last xs x

pub get_front : {A : Type 0} (xs : List A) (x y : A) (p : ℕ) → slice_get xs p ≡ Some y → slice_get (xs ++ x ∷ []) p ≡ Some y
get_front [] x y p e = absurd (cc)
get_front (z ∷ xs) x y zero e = e
get_front (z ∷ xs) x y (suc p) e = get_front xs x y p e

pub get_front_other : {A : Type 0} (xs : List A) (x : A) (p : ℕ) → (p ≡ length xs → ⊥) → slice_get (xs ++ x ∷ []) p ≡ slice_get xs p
get_front_other [] x zero d = absurd (d refl)
get_front_other [] x (suc p) d = refl
get_front_other (z ∷ xs) x zero d = refl
get_front_other (z ∷ xs) x (suc p) d = get_front_other xs x p (λ e. d (ap suc e))

pub get_within : {A : Type 0} (xs : List A) (p : ℕ) (x : A) → slice_get xs p ≡ Some x → p < length xs
get_within [] p x e = absurd (cc)
get_within (z ∷ xs) zero x e = omega arith
get_within (z ∷ xs) (suc p) x e = omega (arith, get_within xs p x e)

pub get_past : {A : Type 0} (xs : List A) → slice_get xs (length xs) ≡ None
get_past [] = refl
get_past (z ∷ xs) = get_past xs

-- ---- one object changed

pub changed_same : (f : Node → Node) (q : ℕ) (nodes : List Node) (node : Node) → slice_get nodes q ≡ Some node → slice_get (changed f q nodes) q ≡ Some (f node)
changed_same f q nodes node e = ap (λ (o : Option Node). slice_get (put_node nodes q f o) q) e ∙ get_set nodes q node (f node) e

pub changed_other : (f : Node → Node) (q p : ℕ) (nodes : List Node) → (p ≡ q → ⊥) → slice_get (changed f q nodes) p ≡ slice_get nodes p
changed_other f q p nodes d = put_other (slice_get nodes q) where
  put_other : (o : Option Node) → slice_get (put_node nodes q f o) p ≡ slice_get nodes p
  put_other None = refl
  put_other (Some node) = get_set_other nodes q p (f node) d

pub changed_length : (f : Node → Node) (q : ℕ) (nodes : List Node) → length (changed f q nodes) ≡ length nodes
changed_length f q nodes = put_length (slice_get nodes q) where
  put_length : (o : Option Node) → length (put_node nodes q f o) ≡ length nodes
  put_length None = refl
  put_length (Some node) = length_set nodes q (f node)

-- an object after the change was there before it, changed or not
pub data WasAt (f : Node → Node) (q p : ℕ) (nodes : List Node) (after : Node) : Type 0 where
  changed_there : (node : Node) → p ≡ q → slice_get nodes q ≡ Some node → after ≡ f node → WasAt f q p nodes after
  other : (p ≡ q → ⊥) → slice_get nodes p ≡ Some after → WasAt f q p nodes after

pub was_at : (f : Node → Node) (q p : ℕ) (nodes : List Node) (after : Node) → slice_get (changed f q nodes) p ≡ Some after → WasAt f q p nodes after
was_at f q p nodes after e =
    ⊎_elim (λ (s : p ≡ q). there s (slice_get nodes q) refl) (λ (d : p ≡ q → ⊥). other d (sym (changed_other f q p nodes d) ∙ e)) (cases_eq p q) where
      there : p ≡ q → (o : Option Node) → slice_get nodes q ≡ o → WasAt f q p nodes after
      there s None is = let g : slice_get nodes q ≡ Some after = sym (ap (λ (k : Option Node). slice_get (put_node nodes q f k) q) is) ∙ ap (slice_get (changed f q nodes)) (sym s) ∙ e in absurd (cc)
      there s (Some node) is = let g : Some (f node) ≡ Some after = sym (changed_same f q nodes node is) ∙ ap (slice_get (changed f q nodes)) (sym s) ∙ e in changed_there node s is (cc)

-- ---- names counted

names_set : (place q : ℕ) (nodes : List Node) (old new : Node) → slice_get nodes q ≡ Some old → names_of place (slice_set nodes q new) + names_in place (rows_of old.holds) ≡ names_of place nodes + names_in place (rows_of new.holds)
names_set place q [] old new e = absurd (cc)
names_set place zero (n ∷ nodes) old new e = let s : n ≡ old = cc in omega (arith, ap (λ (x : Node). names_in place (rows_of x.holds)) s)
names_set place (suc q) (n ∷ nodes) old new e = omega (arith, names_set place q nodes old new e)

pub names_changed : (place : ℕ) (f : Node → Node) (q : ℕ) (nodes : List Node) (old : Node) → slice_get nodes q ≡ Some old
    → names_of place (changed f q nodes) + names_in place (rows_of old.holds) ≡ names_of place nodes + names_in place (rows_of (f old).holds)
names_changed place f q nodes old e =
    ap (λ (o : Option Node). names_of place (put_node nodes q f o) + names_in place (rows_of old.holds)) e ∙ names_set place q nodes old (f old) e

-- a change that leaves the entries leaves the counts
pub names_kept : (place : ℕ) (f : Node → Node) (q : ℕ) (nodes : List Node) → ((n : Node) → rows_of (f n).holds ≡ rows_of n.holds) → names_of place (changed f q nodes) ≡ names_of place nodes
names_kept place f q nodes same = put_kept (slice_get nodes q) refl where
  put_kept : (o : Option Node) → slice_get nodes q ≡ o → names_of place (put_node nodes q f o) ≡ names_of place nodes
  put_kept None is = refl
  put_kept (Some node) is = omega (arith, names_set place q nodes node (f node) is, ap (names_in place) (same node))

pub names_more : (place : ℕ) (nodes : List Node) (node : Node) → names_of place (nodes ++ node ∷ []) ≡ names_of place nodes + names_in place (rows_of node.holds)
names_more place [] node = omega arith
names_more place (n ∷ nodes) node = omega (arith, names_more place nodes node)

-- the names in one directory are among all
pub names_among : (place q : ℕ) (nodes : List Node) (node : Node) → slice_get nodes q ≡ Some node → names_in place (rows_of node.holds) ≤ names_of place nodes
names_among place q [] node e = absurd (cc)
names_among place zero (n ∷ nodes) node e = let s : n ≡ node = cc in omega (arith, ap (λ (x : Node). names_in place (rows_of x.holds)) s)
names_among place (suc q) (n ∷ nodes) node e = omega (arith, names_among place q nodes node e)

-- one that has names has one in some directory
pub record NamedIn (place : ℕ) (nodes : List Node) : Type 0 where
  pub dir : ℕ
  pub node : Node
  pub is : slice_get nodes dir ≡ Some node
  pub some : 1 ≤ names_in place (rows_of node.holds)

pub named_in : (place : ℕ) (nodes : List Node) → 1 ≤ names_of place nodes → NamedIn place nodes
named_in place [] l = absurd (omega arith)
named_in place (n ∷ nodes) l =
    ⊎_elim (λ (e : names_in place (rows_of n.holds) ≡ 0). let p = named_in place nodes (omega arith) in record { dir = suc p.dir; node = p.node; is = p.is; some = p.some })
    (λ (d : names_in place (rows_of n.holds) ≡ 0 → ⊥). record { dir = 0; node = n; is = refl; some = above (names_in place (rows_of n.holds)) d })
    (cases_eq (names_in place (rows_of n.holds)) 0) where
      above : (k : ℕ) → (k ≡ 0 → ⊥) → 1 ≤ k
      above zero d = absurd (d refl)
      above (suc k) d = omega arith
