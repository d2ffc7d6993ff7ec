-- Entries of a directory by their names.
use Rattle.std.proofs.Common.{◌≡◌, ℕ, true, false, List, [], ◌∷◌, ◌++◌, Option, Some, None, refl, sym, ap, subst, ◌∙◌, ⊎_elim, if◌then◌else◌}
use Rattle.std.specs.Str.{bytes_eq}
use Rattle.std.proofs.lemmas.Bool.{cases_Bool}
use Rattle.std.proofs.lemmas.Slice.Eq.{bytes_eq-Decides}
use Rattle.export_fs.specs.Held.{Row}
use Rattle.export_fs.specs.Names.{find_row, without}

-- no name is there twice
abbrev pub AreOnce : List Row → Type 0
AreOnce rows = (name : List ℕ) → find_row name (without name rows) ≡ None

-- equal names may stand for one another
pub same_name : (a b : List ℕ) → bytes_eq a b ≡ true → a ≡ b
same_name a b e = (bytes_eq-Decides a b).0 e

pub other_name : (q n m : List ℕ) → bytes_eq n m ≡ true → bytes_eq q n ≡ false → bytes_eq q m ≡ false
other_name q n m e d = subst (λ (x : List ℕ). bytes_eq q x ≡ false) (same_name n m e) d

-- ---- another name

pub find-other : (q n : List ℕ) (rows : List Row) → bytes_eq q n ≡ false → find_row q (without n rows) ≡ find_row q rows
find-other q n [] d = refl
find-other q n (row ∷ rows) d =
    ⊎_elim (λ (e : bytes_eq n row.name ≡ true). let f : bytes_eq q row.name ≡ false = other_name q n row.name e d in simp (e, f))
    (λ (e : bytes_eq n row.name ≡ false). simp e (ap (λ (z : Option Row). if bytes_eq q row.name then Some row else z) (find-other q n rows d)))
    (cases_Bool (bytes_eq n row.name))

pub without-both : (q n : List ℕ) (rows : List Row) → bytes_eq q n ≡ false → without q (without n rows) ≡ without n (without q rows)
without-both q n [] d = refl
without-both q n (row ∷ rows) d =
    ⊎_elim (λ (e : bytes_eq n row.name ≡ true). let f : bytes_eq q row.name ≡ false = other_name q n row.name e d in simp (e, f))
    (λ (e : bytes_eq n row.name ≡ false).
    ⊎_elim (λ (f : bytes_eq q row.name ≡ true). simp (e, f))
    (λ (f : bytes_eq q row.name ≡ false). simp (e, f) (ap (λ (z : List Row). row ∷ z) (without-both q n rows d)))
    (cases_Bool (bytes_eq q row.name)))
    (cases_Bool (bytes_eq n row.name))

-- ---- a name that isn't there

pub without-none : (q : List ℕ) (rows : List Row) → find_row q rows ≡ None → without q rows ≡ rows
without-none q [] h = refl
without-none q (row ∷ rows) h =
    ⊎_elim (λ (e : bytes_eq q row.name ≡ true). let g : Some row ≡ None = simp e at h in absurd (cc))
    (λ (e : bytes_eq q row.name ≡ false). let g : find_row q rows ≡ None = simp e at h in simp e (ap (λ (z : List Row). row ∷ z) (without-none q rows g)))
    (cases_Bool (bytes_eq q row.name))

-- ---- one more entry

pub find-more-other : (q : List ℕ) (rows : List Row) (last : Row) → bytes_eq q last.name ≡ false → find_row q (rows ++ last ∷ []) ≡ find_row q rows
find-more-other q [] last d = simp d
find-more-other q (row ∷ rows) last d = ap (λ (z : Option Row). if bytes_eq q row.name then Some row else z) (find-more-other q rows last d)

pub find-more-none : (q : List ℕ) (rows : List Row) (last : Row) → find_row q rows ≡ None → bytes_eq q last.name ≡ true → find_row q (rows ++ last ∷ []) ≡ Some last
find-more-none q [] last h d = simp d
find-more-none q (row ∷ rows) last h d =
    ⊎_elim (λ (e : bytes_eq q row.name ≡ true). let g : Some row ≡ None = simp e at h in absurd (cc))
    (λ (e : bytes_eq q row.name ≡ false). let g : find_row q rows ≡ None = simp e at h in simp e (find-more-none q rows last g d))
    (cases_Bool (bytes_eq q row.name))

pub without-more-other : (q : List ℕ) (rows : List Row) (last : Row) → bytes_eq q last.name ≡ false → without q (rows ++ last ∷ []) ≡ without q rows ++ last ∷ []
without-more-other q [] last d = simp d
without-more-other q (row ∷ rows) last d =
    ⊎_elim (λ (e : bytes_eq q row.name ≡ true). simp e)
    (λ (e : bytes_eq q row.name ≡ false). simp e (ap (λ (z : List Row). row ∷ z) (without-more-other q rows last d)))
    (cases_Bool (bytes_eq q row.name))

pub without-more-none : (q : List ℕ) (rows : List Row) (last : Row) → find_row q rows ≡ None → bytes_eq q last.name ≡ true → without q (rows ++ last ∷ []) ≡ rows
without-more-none q [] last h d = simp d
without-more-none q (row ∷ rows) last h d =
    ⊎_elim (λ (e : bytes_eq q row.name ≡ true). let g : Some row ≡ None = simp e at h in absurd (cc))
    (λ (e : bytes_eq q row.name ≡ false). let g : find_row q rows ≡ None = simp e at h in simp e (ap (λ (z : List Row). row ∷ z) (without-more-none q rows last g d)))
    (cases_Bool (bytes_eq q row.name))

-- ---- names stay apart

pub once-without : (n : List ℕ) (rows : List Row) → AreOnce rows → AreOnce (without n rows)
once-without n rows once q =
    ⊎_elim (λ (e : bytes_eq q n ≡ true).
    let P : List ℕ → Type 0 = λ m. find_row m (without m (without n rows)) ≡ None in
    let there : find_row n (without n rows) ≡ None = once n in
    subst P (sym (same_name q n e)) (ap (find_row n) (without-none n (without n rows) there) ∙ there))
    (λ (e : bytes_eq q n ≡ false). ap (find_row q) (without-both q n rows e) ∙ find-other q n (without q rows) e ∙ once q)
    (cases_Bool (bytes_eq q n))

pub once-more : (n : List ℕ) (rows : List Row) (last : Row) → last.name ≡ n → AreOnce rows → AreOnce (without n rows ++ last ∷ [])
once-more n rows last is once q =
    ⊎_elim (λ (e : bytes_eq q last.name ≡ true).
    let same : q ≡ n = same_name q last.name e ∙ is in
    let there : find_row q (without n rows) ≡ None = subst (λ (m : List ℕ). find_row m (without n rows) ≡ None) (sym same) (once n) in
    ap (find_row q) (without-more-none q (without n rows) last there e) ∙ there)
    (λ (e : bytes_eq q last.name ≡ false). ap (find_row q) (without-more-other q (without n rows) last e) ∙ find-more-other q (without q (without n rows)) last e ∙ once-without n rows once q)
    (cases_Bool (bytes_eq q last.name))

-- ---- a name that is there

pub find-more-some : (q : List ℕ) (rows : List Row) (last there : Row) → find_row q rows ≡ Some there → find_row q (rows ++ last ∷ []) ≡ Some there
find-more-some q [] last there h = absurd (cc)
find-more-some q (row ∷ rows) last there h =
    ⊎_elim (λ (e : bytes_eq q row.name ≡ true). let g : Some row ≡ Some there = simp e at h in simp e g)
    (λ (e : bytes_eq q row.name ≡ false). let g : find_row q rows ≡ Some there = simp e at h in simp e (find-more-some q rows last there g))
    (cases_Bool (bytes_eq q row.name))

pub without-more-some : (q : List ℕ) (rows : List Row) (last there : Row) → find_row q rows ≡ Some there → without q (rows ++ last ∷ []) ≡ without q rows ++ last ∷ []
without-more-some q [] last there h = absurd (cc)
without-more-some q (row ∷ rows) last there h =
    ⊎_elim (λ (e : bytes_eq q row.name ≡ true). simp e)
    (λ (e : bytes_eq q row.name ≡ false). let g : find_row q rows ≡ Some there = simp e at h in simp e (ap (λ (z : List Row). row ∷ z) (without-more-some q rows last there g)))
    (cases_Bool (bytes_eq q row.name))
