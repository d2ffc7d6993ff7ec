-- Entries of a directory: found by name, counted by what they name.
use Rattle.std.proofs.Common.{◌≡◌, ◌≤◌, ◌+◌, ◌⊎◌, ℕ, zero, suc, true, false, List, [], ◌∷◌, ◌++◌, Some, None, refl, sym, ap, ◌∙◌, arith, inl, inr, ⊎_elim, slice_get, ◌==◌}
use Rattle.std.specs.Str.{bytes_eq}
use Rattle.std.proofs.lemmas.Bool.{cases_Bool, eq-eqb, eqb-true}
use Rattle.std.proofs.lemmas.Slice.Eq.{bytes_eq-Decides}
use Rattle.export_fs.specs.Held.{Row}
use Rattle.export_fs.specs.Names.{find_row, without}
use Rattle.export_fs.specs.Sound.{names_in, one_if, Each}
use Rattle.export_fs.proofs.EntriesByName.{same_name}

-- an entry that is found stands in the list, which is the same without it
pub record Stands (name : List ℕ) (rows : List Row) (row : Row) : Type 0 where
  pub before : List Row
  pub after : List Row
  pub was : rows ≡ before ++ row ∷ after
  pub is : without name rows ≡ before ++ after
  pub name_is : row.name ≡ name
  pub at : ℕ
  pub at_is : slice_get rows at ≡ Some row

pub stands : (name : List ℕ) (rows : List Row) (row : Row) → find_row name rows ≡ Some row → Stands name rows row
stands name [] row f = absurd (cc)
stands name (r ∷ rows) row f =
    ⊎_elim (λ (e : bytes_eq name r.name ≡ true).
    let g : Some r ≡ Some row = simp e at f in
    let s : r ≡ row = cc in
    record {
      before = [];
      after = rows;
      was = ap (λ (z : Row). z ∷ rows) s;
      is = simp e;
      name_is = ap (λ (z : Row). z.name) (sym s) ∙ sym (same_name name r.name e);
      at = 0;
      at_is = g;
    })
    (λ (e : bytes_eq name r.name ≡ false).
    let g : find_row name rows ≡ Some row = simp e at f in
    let p = stands name rows row g in
    record {
      before = r ∷ p.before;
      after = p.after;
      was = ap (λ (z : List Row). r ∷ z) p.was;
      is = simp e (ap (λ (z : List Row). r ∷ z) p.is);
      name_is = p.name_is;
      at = suc p.at;
      at_is = p.at_is;
    })
    (cases_Bool (bytes_eq name r.name))

same_apart : (name : List ℕ) (r row : Row) → bytes_eq name r.name ≡ false → r ≡ row → row.name ≡ name → ⊥
same_apart name r row b same s = let t : bytes_eq name r.name ≡ true = (bytes_eq-Decides name r.name).1 (sym (ap (λ (z : Row). z.name) same ∙ s)) in absurd (cc)

-- a name that isn't found is of no entry
pub not_found : (name : List ℕ) (rows : List Row) (at : ℕ) (row : Row) → find_row name rows ≡ None → slice_get rows at ≡ Some row → row.name ≡ name → ⊥
not_found name [] at row f e s = absurd (cc)
not_found name (r ∷ rows) zero row f e s =
    ⊎_elim (λ (b : bytes_eq name r.name ≡ true). let g : Some r ≡ None = simp b at f in absurd (cc)) (λ (b : bytes_eq name r.name ≡ false). same_apart name r row b (cc) s) (cases_Bool (bytes_eq name r.name))
not_found name (r ∷ rows) (suc at) row f e s =
    ⊎_elim (λ (b : bytes_eq name r.name ≡ true). let g : Some r ≡ None = simp b at f in absurd (cc))
    (λ (b : bytes_eq name r.name ≡ false). let g : find_row name rows ≡ None = simp b at f in not_found name rows at row g e s)
    (cases_Bool (bytes_eq name r.name))

-- an entry of a name that stands once is the one that is found
pub found_by : (name : List ℕ) (rows : List Row) (at : ℕ) (row : Row) → find_row name (without name rows) ≡ None → slice_get rows at ≡ Some row → row.name ≡ name → find_row name rows ≡ Some row
found_by name [] at row once e s = absurd (cc)
found_by name (r ∷ rows) zero row once e s =
    ⊎_elim (λ (b : bytes_eq name r.name ≡ true). simp b e) (λ (b : bytes_eq name r.name ≡ false). absurd (same_apart name r row b (cc) s)) (cases_Bool (bytes_eq name r.name))
found_by name (r ∷ rows) (suc at) row once e s =
    ⊎_elim (λ (b : bytes_eq name r.name ≡ true). let g : find_row name rows ≡ None = simp b at once in absurd (not_found name rows at row g e s))
    (λ (b : bytes_eq name r.name ≡ false). let g : find_row name (without name rows) ≡ None = simp b at once in simp b (found_by name rows at row g e s))
    (cases_Bool (bytes_eq name r.name))

-- ---- each entry

pub at_without : (name : List ℕ) (rows : List Row) (at : ℕ) (row : Row) → slice_get (without name rows) at ≡ Some row → (k : ℕ) × (slice_get rows k ≡ Some row)
at_without name [] at row e = absurd (cc)
at_without name (r ∷ rows) zero row e =
    ⊎_elim (λ (b : bytes_eq name r.name ≡ true). let g : slice_get rows 0 ≡ Some row = simp b at e in (1, g))
    (λ (b : bytes_eq name r.name ≡ false). let g : Some r ≡ Some row = simp b at e in (0, g))
    (cases_Bool (bytes_eq name r.name))
at_without name (r ∷ rows) (suc at) row e =
    ⊎_elim (λ (b : bytes_eq name r.name ≡ true). let g : slice_get rows (suc at) ≡ Some row = simp b at e in (suc (suc at), g))
    (λ (b : bytes_eq name r.name ≡ false). let g : slice_get (without name rows) at ≡ Some row = simp b at e in let p = at_without name rows at row g in (suc p.0, p.1))
    (cases_Bool (bytes_eq name r.name))

pub each_without : (P : Row → Type 0) (name : List ℕ) (rows : List Row) → Each P rows → Each P (without name rows)
each_without P name rows each at row e = let p = at_without name rows at row e in each p.0 row p.1

pub at_more : (rows : List Row) (last : Row) (at : ℕ) (row : Row) → slice_get (rows ++ last ∷ []) at ≡ Some row → (slice_get rows at ≡ Some row) ⊎ (last ≡ row)
at_more [] last zero row e = inr (cc)
at_more [] last (suc at) row e = absurd (cc)
at_more (r ∷ rows) last zero row e = inl e
at_more (r ∷ rows) last (suc at) row e = at_more rows last at row e

-- ---- names counted

pub names_without : (place : ℕ) (name : List ℕ) (rows : List Row) (row : Row) → find_row name rows ≡ Some row → names_in place (without name rows) + one_if (row.place == place) ≡ names_in place rows
names_without place name [] row f = absurd (cc)
names_without place name (r ∷ rows) row f =
    ⊎_elim (λ (e : bytes_eq name r.name ≡ true).
    let g : Some r ≡ Some row = simp e at f in
    let s : r ≡ row = cc in
    let w : without name (r ∷ rows) ≡ rows = simp e in
    omega (arith, ap (names_in place) w, ap (λ (z : Row). one_if (z.place == place)) s))
    (λ (e : bytes_eq name r.name ≡ false).
    let g : find_row name rows ≡ Some row = simp e at f in
    let w : without name (r ∷ rows) ≡ r ∷ without name rows = simp e in
    omega (arith, ap (names_in place) w, names_without place name rows row g))
    (cases_Bool (bytes_eq name r.name))

pub names_in_more : (place : ℕ) (rows : List Row) (last : Row) → names_in place (rows ++ last ∷ []) ≡ names_in place rows + one_if (last.place == place)
names_in_more place [] last = omega arith
names_in_more place (r ∷ rows) last = omega (arith, names_in_more place rows last)

pub names_at : (place : ℕ) (rows : List Row) (at : ℕ) (row : Row) → slice_get rows at ≡ Some row → row.place ≡ place → 1 ≤ names_in place rows
names_at place [] at row e s = absurd (cc)
names_at place (r ∷ rows) zero row e s =
    let same : r ≡ row = cc in
    let b : (r.place == place) ≡ true = eq-eqb r.place place (ap (λ (z : Row). z.place) same ∙ s) in
    omega (arith, ap one_if b)
names_at place (r ∷ rows) (suc at) row e s = omega (arith, names_at place rows at row e s)

pub record EntryFor (place : ℕ) (rows : List Row) : Type 0 where
  pub at : ℕ
  pub row : Row
  pub is : slice_get rows at ≡ Some row
  pub names : row.place ≡ place

pub entry_for : (place : ℕ) (rows : List Row) → 1 ≤ names_in place rows → EntryFor place rows
entry_for place [] l = absurd (omega arith)
entry_for place (r ∷ rows) l =
    ⊎_elim (λ (b : (r.place == place) ≡ true). record { at = 0; row = r; is = refl; names = eqb-true r.place place b })
    (λ (b : (r.place == place) ≡ false). let p = entry_for place rows (omega (arith, ap one_if b)) in record { at = suc p.at; row = p.row; is = p.is; names = p.names })
    (cases_Bool (r.place == place))
