-- Slots in an order: what stays of it where one of them moves.
use Rattle.std.proofs.Common.{◌≡◌, ◌≢◌, ◌<◌, ℕ, ◌+◌, ◌-◌, suc, Bool, true, false, nat_eq, List, [], ◌∷◌, ◌++◌, length, set, get_or, Option, Some, None, is_some, refl, sym, ap, ◌∙◌, subst, arith}
use Rattle.std.proofs.lemmas.Bool.{eqb-true}
use Rattle.std.proofs.lemmas.Bool.Decides.{nat_tests}
use Rattle.std.proofs.lemmas.List.{get_or-set_other}
use Rattle.std.specs.Option.{option_map_or}
use Rattle.std.specs.Map.{lookup_entry, remove_entry}
use Rattle.lru.specs.LruCache.{last_entry}
use Rattle.page_cache.specs.declared.place.PagePlace.{PagePlace}
use Rattle.page_cache.specs.Slots.{Lacks, AreApart, AreFree, FreeAfter, FreeLast}

module _ {V : Type 0} where
  -- the order without a slot
  abbrev pub rest_of : ℕ → List (ℕ × V) → List (ℕ × V)
  rest_of slot order = remove_entry (nat_eq slot) order

  pub lookup-slot : (slot : ℕ) (order : List (ℕ × V)) (e : ℕ × V) → lookup_entry (nat_eq slot) order ≡ Some e → e.0 ≡ slot
  lookup-slot slot [] e found = cc
  lookup-slot slot (f ∷ order) e found = (elim (nat_eq slot f.0) as (λ y. nat_eq slot f.0 ≡ y → e.0 ≡ slot) [
    | true ↦ λ t. let is : f ≡ e = (let h = rw t at found in cc) in ap (λ p. p.0) (sym is) ∙ sym (eqb-true slot f.0 t)
    | false ↦ λ t. lookup-slot slot order e (rw t at found)
  ]) refl

  pub lookup-none : (slot : ℕ) (order : List (ℕ × V)) → lookup_entry (nat_eq slot) order ≡ None → Lacks slot order
  lookup-none slot [] none = tt
  lookup-none slot (f ∷ order) none = (elim (nat_eq slot f.0) as (λ y. nat_eq slot f.0 ≡ y → Lacks slot (f ∷ order)) [
    | true ↦ λ t. absurd (let h = rw t at none in cc)
    | false ↦ λ t. ((λ same. absurd (let h : nat_eq slot f.0 ≡ true = rw same (nat_eq-same slot) in cc)), lookup-none slot order (rw t at none))
  ]) refl
    where
      nat_eq-same : (n : ℕ) → nat_eq n n ≡ true
      nat_eq-same n = grind (arith, nat_tests)

  pub length-rest : (slot : ℕ) (order : List (ℕ × V)) (e : ℕ × V) → lookup_entry (nat_eq slot) order ≡ Some e → length (rest_of slot order) + 1 ≡ length order
  length-rest slot [] e found = cc
  length-rest slot (f ∷ order) e found = (elim (nat_eq slot f.0) as (λ y. nat_eq slot f.0 ≡ y → length (rest_of slot (f ∷ order)) + 1 ≡ length (f ∷ order)) [
    | true ↦ λ t. rw t (omega arith)
    | false ↦ λ t. let below = length-rest slot order e (rw t at found) in rw t (omega arith)
  ]) refl

  -- what isn't there isn't there after a removal
  pub lacks-rest : (slot t : ℕ) (order : List (ℕ × V)) → Lacks t order → Lacks t (rest_of slot order)
  lacks-rest slot t [] l = tt
  lacks-rest slot t (f ∷ order) l = (elim (nat_eq slot f.0) as (λ y. nat_eq slot f.0 ≡ y → Lacks t (rest_of slot (f ∷ order))) [
    | true ↦ λ h. rw h l.1
    | false ↦ λ h. rw h (l.0, lacks-rest slot t order l.1)
  ]) refl

  -- another slot that isn't there after the removal wasn't there
  pub lacks-whole : (slot t : ℕ) (order : List (ℕ × V)) → slot ≢ t → Lacks t (rest_of slot order) → Lacks t order
  lacks-whole slot t [] other l = tt
  lacks-whole slot t (f ∷ order) other l = (elim (nat_eq slot f.0) as (λ y. nat_eq slot f.0 ≡ y → Lacks t (f ∷ order)) [
    | true ↦ λ h. ((λ same. other (eqb-true slot f.0 h ∙ same)), rw h at l)
    | false ↦ λ h. let m = rw h at l in (m.0, lacks-whole slot t order other m.1)
  ]) refl

  pub lacks-append : (t : ℕ) (order more : List (ℕ × V)) → Lacks t order → Lacks t more → Lacks t (order ++ more)
  lacks-append t [] more l m = m
  lacks-append t (f ∷ order) more l m = (l.0, lacks-append t order more l.1 m)

  pub lacks-parts : (t : ℕ) (order more : List (ℕ × V)) → Lacks t (order ++ more) → Lacks t order × Lacks t more
  lacks-parts t [] more l = (tt, l)
  lacks-parts t (f ∷ order) more l = let on = lacks-parts t order more l.1 in ((l.0, on.0), on.1)

  module _ (count : ℕ) where
    -- a slot is there once
    pub apart-lacks : (slot : ℕ) (order : List (ℕ × V)) → AreApart count order → Lacks slot (rest_of slot order)
    apart-lacks slot [] a = tt
    apart-lacks slot (f ∷ order) a = (elim (nat_eq slot f.0) as (λ y. nat_eq slot f.0 ≡ y → Lacks slot (rest_of slot (f ∷ order))) [
      | true ↦ λ h. rw h (subst (λ s. Lacks s order) (sym (eqb-true slot f.0 h)) a.1)
      | false ↦ λ h. rw h ((λ same. absurd (let t : nat_eq slot f.0 ≡ true = rw same (same-eq slot) in cc)), apart-lacks slot order a.2)
    ]) refl
      where
        same-eq : (n : ℕ) → nat_eq n n ≡ true
        same-eq n = grind (arith, nat_tests)

    pub apart-rest : (slot : ℕ) (order : List (ℕ × V)) → AreApart count order → AreApart count (rest_of slot order)
    apart-rest slot [] a = tt
    apart-rest slot (f ∷ order) a = (elim (nat_eq slot f.0) as (λ y. nat_eq slot f.0 ≡ y → AreApart count (rest_of slot (f ∷ order))) [
      | true ↦ λ h. rw h a.2
      | false ↦ λ h. rw h (a.0, lacks-rest slot f.0 order a.1, apart-rest slot order a.2)
    ]) refl

    pub apart-back : (e : ℕ × V) (order : List (ℕ × V)) → e.0 < count → AreApart count order → Lacks e.0 order → AreApart count (order ++ e ∷ [])
    apart-back e [] low a l = (low, tt, tt)
    apart-back e (f ∷ order) low a l =
        (a.0, lacks-append f.0 order (e ∷ []) a.1 ((λ same. l.0 (sym same)), tt), apart-back e order low a.2 l.1)

  -- which slots are free
  pub free-rest : (slot : ℕ) (order : List (ℕ × V)) (held : List (Option PagePlace)) → AreFree order held → AreFree (rest_of slot order) held
  free-rest slot [] held a = tt
  free-rest slot (f ∷ order) held a = (elim (nat_eq slot f.0) as (λ y. nat_eq slot f.0 ≡ y → AreFree (rest_of slot (f ∷ order)) held) [
    | true ↦ λ h. rw h a.1
    | false ↦ λ h. rw h (a.0, free-rest slot order held a.1)
  ]) refl

  pub free-set : (slot : ℕ) (order : List (ℕ × V)) (held : List (Option PagePlace)) (x : Option PagePlace) → Lacks slot order → AreFree order held → AreFree order (set held slot x)
  free-set slot [] held x l a = tt
  free-set slot (f ∷ order) held x l a = (get_or-set_other held slot f.0 x None l.0 ∙ a.0, free-set slot order held x l.1 a.1)

  pub free-back : (e : ℕ × V) (order : List (ℕ × V)) (held : List (Option PagePlace)) → get_or held e.0 None ≡ None → AreFree order held → AreFree (order ++ e ∷ []) held
  free-back e [] held free a = (free, tt)
  free-back e (f ∷ order) held free a = (a.0, free-back e order held free a.1)

  pub free-last : (order : List (ℕ × V)) (held : List (Option PagePlace)) → AreFree order held → FreeLast order held
  free-last [] held a = tt
  free-last (f ∷ order) held a = rw a.0 a.1

  -- free slots stand last, after a removal, elsewhere a change, or a free one at the end
  pub last-rest : (slot : ℕ) (order : List (ℕ × V)) (held : List (Option PagePlace)) → FreeLast order held → FreeLast (rest_of slot order) held
  last-rest slot [] held a = tt
  last-rest slot (f ∷ order) held a = (elim (nat_eq slot f.0) as (λ y. nat_eq slot f.0 ≡ y → FreeLast (rest_of slot (f ∷ order)) held) [
    | true ↦ λ h. rw h (tail (is_some (get_or held f.0 None)) a)
    | false ↦ λ h. rw h (kept (is_some (get_or held f.0 None)) (last-rest slot order held) a)
  ]) refl
    where
      tail : (b : Bool) → FreeAfter b order held (FreeLast order held) → FreeLast order held
      tail true l = l
      tail false l = free-last order held l

      kept : (b : Bool) → (FreeLast order held → FreeLast (rest_of slot order) held) → FreeAfter b order held (FreeLast order held)
          → FreeAfter b (rest_of slot order) held (FreeLast (rest_of slot order) held)
      kept true on l = on l
      kept false on l = free-rest slot order held l

  pub last-set : (slot : ℕ) (order : List (ℕ × V)) (held : List (Option PagePlace)) (x : Option PagePlace) → Lacks slot order → FreeLast order held → FreeLast order (set held slot x)
  last-set slot [] held x l a = tt
  last-set slot (f ∷ order) held x l a = rw (get_or-set_other held slot f.0 x None l.0) (by (is_some (get_or held f.0 None)) (last-set slot order held x l.1) a)
    where
      by : (b : Bool) → (FreeLast order held → FreeLast order (set held slot x)) → FreeAfter b order held (FreeLast order held)
          → FreeAfter b order (set held slot x) (FreeLast order (set held slot x))
      by true on m = on m
      by false on m = free-set slot order held x l.1 m

  pub last-back : (e : ℕ × V) (order : List (ℕ × V)) (held : List (Option PagePlace)) → get_or held e.0 None ≡ None → FreeLast order held → FreeLast (order ++ e ∷ []) held
  last-back e [] held free a = rw free tt
  last-back e (f ∷ order) held free a = by (is_some (get_or held f.0 None)) (last-back e order held free) a
    where
      by : (b : Bool) → (FreeLast order held → FreeLast (order ++ e ∷ []) held) → FreeAfter b order held (FreeLast order held)
          → FreeAfter b (order ++ e ∷ []) held (FreeLast (order ++ e ∷ []) held)
      by true on m = on m
      by false on m = free-back e order held free m

  -- the last of the order
  pub last-more : (f g : ℕ × V) (order : List (ℕ × V)) → last_entry (f ∷ g ∷ order) ≡ last_entry (g ∷ order)
  last-more f g order = let e : length (f ∷ g ∷ order) - 1 ≡ suc (length (g ∷ order) - 1) = omega arith in rw e refl

  pub last-apart : (slot : ℕ) (order : List (ℕ × V)) (e : ℕ × V) → Lacks slot order → last_entry order ≡ Some e → e.0 ≢ slot
  last-apart slot [] e l last = cc
  last-apart slot (f ∷ []) e l last = λ same. l.0 (ap (λ o. option_map_or (λ p. p.0) o 0) last ∙ same)
  last-apart slot (f ∷ g ∷ order) e l last = last-apart slot (g ∷ order) e l.1 (sym (last-more f g order) ∙ last)
