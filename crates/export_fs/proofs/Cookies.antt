-- Entries of a directory by their cookies.
use Rattle.std.proofs.Common.{◌≡◌, ◌≤◌, ◌<◌, ◌&&◌, ℕ, Bool, true, false, List, [], ◌∷◌, ◌++◌, Some, refl, sym, ap, subst, ◌∙◌, ⊎_elim, arith, nat_lt, ◌==◌, filter, not, length, IsTrue, ◌↔◌}
use Rattle.std.specs.Ordering.{nat_cmp, is_lt}
use Rattle.std.specs.BTreeMap.{insert_entry, is_at}
use Rattle.std.specs.Map.{remove_entry}
use Rattle.std.proofs.lemmas.Bool.{cases_Bool, and_parts, and_from, ltb-true, ltb-false, lt-ltb, le-ltb, ne_eqb, eq-eqb, eqb-true}
use Rattle.std.specs.Str.{bytes_eq}
use Rattle.export_fs.specs.declared.entries.Entry.{Entry}
use Rattle.export_fs.specs.Held.{Row}
use Rattle.export_fs.specs.Names.{find_row, without}
use Rattle.export_fs.specs.Refusals.{is_filled}
use Rattle.export_fs.specs.Pages.{rows_after}
use Rattle.export_fs.specs.Kept.{row_of, rows_of, is_rising, top, without_cookie}

-- the first cookie is above the one before, and the others above it
pub rises : (low : ℕ) (row : Row) (rows : List Row) → is_rising low (row ∷ rows) ≡ true → (low < row.cookie) × (is_rising row.cookie rows ≡ true)
rises low row rows h = let p = and_parts (nat_lt low row.cookie) (is_rising row.cookie rows) h in (ltb-true low row.cookie p.0, p.1)

pub rising_from : (low : ℕ) (row : Row) (rows : List Row) → low < row.cookie → is_rising row.cookie rows ≡ true → is_rising low (row ∷ rows) ≡ true
rising_from low row rows l h = and_from (nat_lt low row.cookie) (is_rising row.cookie rows) (lt-ltb low row.cookie l) h

pub lower : (a b : ℕ) (rows : List Row) → a ≤ b → is_rising b rows ≡ true → is_rising a rows ≡ true
lower a b [] l h = refl
lower a b (row ∷ rows) l h = let p = rises b row rows h in rising_from a row rows (omega arith) p.1

pub top_above : (low : ℕ) (rows : List Row) → is_rising low rows ≡ true → low ≤ top low rows
top_above low [] h = omega arith
top_above low (row ∷ rows) h = let p = rises low row rows h in omega (arith, top_above row.cookie rows p.1)

-- ---- one more entry

pub rows-last : (es : List (ℕ × Entry)) (e : ℕ × Entry) → rows_of (es ++ e ∷ []) ≡ rows_of es ++ row_of e ∷ []
rows-last [] e = refl
rows-last (f ∷ es) e = ap (λ (z : List Row). row_of f ∷ z) (rows-last es e)

pub insert_last : (low cookie : ℕ) (entry : Entry) (es : List (ℕ × Entry)) → is_rising low (rows_of es) ≡ true → top low (rows_of es) < cookie → insert_entry nat_cmp es cookie entry ≡ es ++ (cookie, entry) ∷ []
insert_last low cookie entry [] h l = refl
insert_last low cookie entry (e ∷ es) h l =
    let p = rises low (row_of e) (rows_of es) h in
    let t : e.0 ≤ top e.0 (rows_of es) = top_above e.0 (rows_of es) p.1 in
    let a : nat_lt cookie e.0 ≡ false = le-ltb cookie e.0 (omega arith) in
    let b : (cookie == e.0) ≡ false = ne_eqb cookie e.0 (λ q. omega arith) in
    simp (a, b) (ap (λ (z : List (ℕ × Entry)). e ∷ z) (insert_last e.0 cookie entry es p.1 l))

pub rising_last : (low : ℕ) (rows : List Row) (row : Row) → is_rising low rows ≡ true → top low rows < row.cookie → is_rising low (rows ++ row ∷ []) ≡ true
rising_last low [] row h l = rising_from low row [] l refl
rising_last low (r ∷ rows) row h l = let p = rises low r rows h in rising_from low r (rows ++ row ∷ []) p.0 (rising_last r.cookie rows row p.1 l)

pub top-last : (low : ℕ) (rows : List Row) (row : Row) → top low (rows ++ row ∷ []) ≡ row.cookie
top-last low [] row = refl
top-last low (r ∷ rows) row = top-last r.cookie rows row

-- ---- an entry that goes

pub remove_at : (cookie : ℕ) (es : List (ℕ × Entry)) → rows_of (remove_entry (is_at (nat_cmp cookie)) es) ≡ without_cookie cookie (rows_of es)
remove_at cookie [] = refl
remove_at cookie (e ∷ es) =
    ⊎_elim (λ (a : (cookie == e.0) ≡ true).
    let b : nat_lt cookie e.0 ≡ false = le-ltb cookie e.0 (omega (arith, eqb-true cookie e.0 a)) in simp (a, b))
    (λ (a : (cookie == e.0) ≡ false).
    ⊎_elim (λ (b : nat_lt cookie e.0 ≡ true). simp (a, b) (ap (λ (z : List Row). row_of e ∷ z) (remove_at cookie es)))
    (λ (b : nat_lt cookie e.0 ≡ false). simp (a, b) (ap (λ (z : List Row). row_of e ∷ z) (remove_at cookie es)))
    (cases_Bool (nat_lt cookie e.0)))
    (cases_Bool (cookie == e.0))

pub rising_without : (cookie low : ℕ) (rows : List Row) → is_rising low rows ≡ true → is_rising low (without_cookie cookie rows) ≡ true
rising_without cookie low [] h = refl
rising_without cookie low (row ∷ rows) h =
    let p = rises low row rows h in
    ⊎_elim (λ (a : (cookie == row.cookie) ≡ true). simp a (lower low row.cookie rows (omega arith) p.1))
    (λ (a : (cookie == row.cookie) ≡ false). simp a (rising_from low row (without_cookie cookie rows) p.0 (rising_without cookie row.cookie rows p.1)))
    (cases_Bool (cookie == row.cookie))

-- the entries go up to a cookie at most
pub top-without : (cookie low : ℕ) (rows : List Row) → is_rising low rows ≡ true → top low (without_cookie cookie rows) ≤ top low rows
top-without cookie low [] h = omega arith
top-without cookie low (row ∷ rows) h =
    let p = rises low row rows h in
    ⊎_elim (λ (a : (cookie == row.cookie) ≡ true). simp a (lower_top low row.cookie rows (omega arith)))
    (λ (a : (cookie == row.cookie) ≡ false). simp a (top-without cookie row.cookie rows p.1))
    (cases_Bool (cookie == row.cookie)) where
      lower_top : (a b : ℕ) (rows : List Row) → a ≤ b → top a rows ≤ top b rows
      lower_top a b [] l = l
      lower_top a b (row ∷ rows) l = omega arith

-- an entry that was just added goes again
pub last-goes : (low : ℕ) (rows : List Row) (row : Row) → is_rising low rows ≡ true → top low rows < row.cookie → without_cookie row.cookie (rows ++ row ∷ []) ≡ rows
last-goes low [] row h l = let a : (row.cookie == row.cookie) ≡ true = eq-eqb row.cookie row.cookie refl in simp a
last-goes low (r ∷ rows) row h l =
    let p = rises low r rows h in
    let t : r.cookie ≤ top r.cookie rows = top_above r.cookie rows p.1 in
    let a : (row.cookie == r.cookie) ≡ false = ne_eqb row.cookie r.cookie (λ q. omega arith) in
    simp a (ap (λ (z : List Row). r ∷ z) (last-goes r.cookie rows row p.1 l))

-- the entry of a name has a cookie above those before
pub found_above : (name : List ℕ) (low : ℕ) (rows : List Row) (row : Row) → is_rising low rows ≡ true → find_row name rows ≡ Some row → low < row.cookie
found_above name low [] row h f = absurd (cc)
found_above name low (r ∷ rows) row h f =
    let p = rises low r rows h in
    ⊎_elim (λ (e : bytes_eq name r.name ≡ true). let g : Some r ≡ Some row = simp e at f in let s : r ≡ row = cc in subst (λ (z : Row). low < z.cookie) s p.0)
    (λ (e : bytes_eq name r.name ≡ false). let g : find_row name rows ≡ Some row = simp e at f in omega (arith, found_above name r.cookie rows row p.1 g))
    (cases_Bool (bytes_eq name r.name))

-- the entry of a name goes by its cookie
pub goes_by_cookie : (name : List ℕ) (low : ℕ) (rows : List Row) (row : Row) → is_rising low rows ≡ true → find_row name rows ≡ Some row → without_cookie row.cookie rows ≡ without name rows
goes_by_cookie name low [] row h f = absurd (cc)
goes_by_cookie name low (r ∷ rows) row h f =
    let p = rises low r rows h in
    ⊎_elim (λ (e : bytes_eq name r.name ≡ true).
    let g : Some r ≡ Some row = simp e at f in
    let s : r ≡ row = cc in
    let a : (row.cookie == r.cookie) ≡ true = eq-eqb row.cookie r.cookie (ap (λ (z : Row). z.cookie) (sym s)) in
    simp (e, a))
    (λ (e : bytes_eq name r.name ≡ false).
    let g : find_row name rows ≡ Some row = simp e at f in
    let l : r.cookie < row.cookie = found_above name r.cookie rows row p.1 g in
    let a : (row.cookie == r.cookie) ≡ false = ne_eqb row.cookie r.cookie (λ q. omega arith) in
    simp (e, a) (ap (λ (z : List Row). r ∷ z) (goes_by_cookie name r.cookie rows row p.1 g)))
    (cases_Bool (bytes_eq name r.name))

-- ---- the entries after a cookie

-- those of a range of the map
abbrev pub ranged_entries : ℕ → List (ℕ × Entry) → List (ℕ × Entry)
ranged_entries cookie es = filter (λ (e : ℕ × Entry). is_lt (nat_cmp cookie e.0) && not false) es

pub rows-after : (cookie : ℕ) (es : List (ℕ × Entry)) → rows_of (ranged_entries cookie es) ≡ rows_after cookie (rows_of es)
rows-after cookie [] = refl
rows-after cookie (e ∷ es) =
    ⊎_elim (λ (a : nat_lt cookie e.0 ≡ true). simp a (ap (λ (z : List Row). row_of e ∷ z) (rows-after cookie es)))
    (λ (a : nat_lt cookie e.0 ≡ false).
    ⊎_elim (λ (b : (cookie == e.0) ≡ true). simp (a, b) (rows-after cookie es)) (λ (b : (cookie == e.0) ≡ false). simp (a, b) (rows-after cookie es)) (cases_Bool (cookie == e.0)))
    (cases_Bool (nat_lt cookie e.0))

-- all of them, where all are above it
pub all_after : (cookie low : ℕ) (rows : List Row) → is_rising low rows ≡ true → cookie ≤ low → rows_after cookie rows ≡ rows
all_after cookie low [] h l = refl
all_after cookie low (row ∷ rows) h l =
    let p = rises low row rows h in
    let a : nat_lt cookie row.cookie ≡ true = lt-ltb cookie row.cookie (omega arith) in
    simp a (ap (λ (z : List Row). row ∷ z) (all_after cookie row.cookie rows p.1 (omega arith)))

pub first_above : (cookie : ℕ) (rows rest : List Row) (row : Row) → rows_after cookie rows ≡ row ∷ rest → cookie < row.cookie
first_above cookie [] rest row f = absurd (cc)
first_above cookie (r ∷ rows) rest row f =
    ⊎_elim (λ (a : nat_lt cookie r.cookie ≡ true). let g : r ∷ rows_after cookie rows ≡ row ∷ rest = simp a at f in let s : r ≡ row = cc in subst (λ (z : Row). cookie < z.cookie) s (ltb-true cookie r.cookie a))
    (λ (a : nat_lt cookie r.cookie ≡ false). let g : rows_after cookie rows ≡ row ∷ rest = simp a at f in first_above cookie rows rest row g)
    (cases_Bool (nat_lt cookie r.cookie))

-- what follows the first of them is what is after its cookie
pub next_after : (cookie low : ℕ) (rows rest : List Row) (row : Row) → is_rising low rows ≡ true → rows_after cookie rows ≡ row ∷ rest → rows_after cookie rows ≡ row ∷ rows_after row.cookie rows
next_after cookie low [] rest row h f = absurd (cc)
next_after cookie low (r ∷ rows) rest row h f =
    let p = rises low r rows h in
    ⊎_elim (λ (a : nat_lt cookie r.cookie ≡ true).
    let g : r ∷ rows_after cookie rows ≡ row ∷ rest = simp a at f in
    let s : r ≡ row = cc in
    let b : nat_lt r.cookie r.cookie ≡ false = le-ltb r.cookie r.cookie (omega arith) in
    let all : rows_after cookie rows ≡ rows_after r.cookie rows = all_after cookie r.cookie rows p.1 (omega (arith, ltb-true cookie r.cookie a)) ∙ sym (all_after r.cookie r.cookie rows p.1 (omega arith)) in
    let P : Row → Type 0 = λ z. rows_after cookie (r ∷ rows) ≡ z ∷ rows_after z.cookie (r ∷ rows) in
    subst P s (simp (a, b) (ap (λ (z : List Row). r ∷ z) all)))
    (λ (a : nat_lt cookie r.cookie ≡ false).
    let g : rows_after cookie rows ≡ row ∷ rest = simp a at f in
    let e : rows_after cookie rows ≡ row ∷ rows_after row.cookie rows = next_after cookie r.cookie rows rest row p.1 g in
    let l : cookie < row.cookie = first_above cookie rows rest row g in
    let b : nat_lt row.cookie r.cookie ≡ false = le-ltb row.cookie r.cookie (omega (arith, ltb-false cookie r.cookie a)) in
    simp (a, b) e)
    (cases_Bool (nat_lt cookie r.cookie))

-- ---- what the methods of the entries leave

pub added : (es new : List (ℕ × Entry)) (rows : List Row) (cookie : ℕ) (entry : Entry) → is_rising 0 (rows_of es) ≡ true → rows ≡ rows_of es → top 0 rows < cookie → new ≡ insert_entry nat_cmp es cookie entry → (is_rising 0 (rows_of new) ≡ true) × (rows_of new ≡ rows ++ row_of (cookie, entry) ∷ [])
added es new rows cookie entry h is l put =
    let high : top 0 (rows_of es) < cookie = subst (λ (z : List Row). top 0 z < cookie) is l in
    let e : new ≡ es ++ (cookie, entry) ∷ [] = put ∙ insert_last 0 cookie entry es h high in
    let f : rows_of new ≡ rows_of es ++ row_of (cookie, entry) ∷ [] = ap rows_of e ∙ rows-last es (cookie, entry) in
    (subst (λ (z : List Row). is_rising 0 z ≡ true) (sym f) (rising_last 0 (rows_of es) (row_of (cookie, entry)) h high), f ∙ ap (λ (z : List Row). z ++ row_of (cookie, entry) ∷ []) (sym is))

pub filled_by_len : (es : List (ℕ × Entry)) (b : Bool) → IsTrue b ↔ (length es ≡ 0) → not b ≡ is_filled (rows_of es)
filled_by_len [] b h = ap not (h.1 refl)
filled_by_len (e ∷ es) b h =
    ⊎_elim (λ (t : b ≡ true). let z : length (e ∷ es) ≡ 0 = h.0 t in absurd (omega arith))
    (λ (f : b ≡ false). simp f)
    (cases_Bool b)

pub ranged : (cookie : ℕ) (es rest tail : List (ℕ × Entry)) (rows : List Row) (e : ℕ × Entry) → is_rising 0 (rows_of es) ≡ true → rows_of es ≡ rows → rest ≡ ranged_entries cookie es → rest ≡ e ∷ tail → rows_after cookie rows ≡ row_of e ∷ rows_after e.0 rows
ranged cookie es rest tail rows e h is of first =
    let f : rows_after cookie (rows_of es) ≡ row_of e ∷ rows_of tail = sym (rows-after cookie es) ∙ ap rows_of (sym of ∙ first) in
    subst (λ (z : List Row). rows_after cookie z ≡ row_of e ∷ rows_after e.0 z) is (next_after cookie 0 (rows_of es) (rows_of tail) (row_of e) h f)

pub ranged_none : (cookie : ℕ) (es rest : List (ℕ × Entry)) (rows : List Row) → rows_of es ≡ rows → rest ≡ ranged_entries cookie es → rest ≡ [] → rows_after cookie rows ≡ []
ranged_none cookie es rest rows is of none = ap (rows_after cookie) (sym is) ∙ sym (rows-after cookie es) ∙ ap rows_of (sym of ∙ none)
