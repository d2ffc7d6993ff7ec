-- A directory keeps its names as names enter and leave.
use Rattle.std.proofs.Common.{◌≡◌, ◌≤◌, ◌+◌, ℕ, Bool, true, false, cond, List, [], ◌∷◌, ◌++◌, Option, Some, None, option_map, refl, sym, ap, subst, ◌∙◌, arith}
use Rattle.std.specs.Str.{bytes_eq}
use Rattle.std.specs.Ordering.{nat_cmp}
use Rattle.std.specs.declared.cmp.Ordering.{Ordering}
use Rattle.std.specs.Cmp.Lexicographic.{slice_cmp}
use Rattle.std.specs.BTreeMap.{BTreeMap, get, is_at, UpdatesBy}
use Rattle.std.specs.Map.{lookup}
use Rattle.std.proofs.lemmas.Bool.Decides.{same_from_decides}
use Rattle.std.proofs.lemmas.Slice.Eq.{bytes_eq-Decides}
use Rattle.std.proofs.lemmas.Map.Text.{is_eq-slice_cmp}
use Rattle.export_fs.specs.declared.directory.Spot.{Spot}
use Rattle.export_fs.specs.Held.{Row}
use Rattle.export_fs.specs.Names.{find_row, without}
use Rattle.export_fs.specs.Kept.{spot_of, is_rising, top, without_cookie, without_spot, IsKept}
use Rattle.export_fs.proofs.EntriesByName.{same_name, find-other, find-more-other, find-more-none, without-none, find-more-some, without-more-some, once-without, once-more}
use Rattle.export_fs.proofs.Cookies.{rising_without, top-without, rising_last, top-last, goes_by_cookie, last-goes}

abbrev Names : Type 0
Names = BTreeMap (List ℕ) Spot

abbrev order : List ℕ → List ℕ → Ordering
order = slice_cmp nat_cmp

turned : (a b : List ℕ) → bytes_eq a b ≡ bytes_eq b a
turned a b = same_from_decides (bytes_eq a b) (bytes_eq b a) (bytes_eq-Decides a b) ((λ e. sym ((bytes_eq-Decides b a).0 e)), (λ e. (bytes_eq-Decides b a).1 (sym e)))

-- what a name is found with, after another value was given to a name
updated : (n : List ℕ) (old new : Names) (value : Option Spot) → UpdatesBy order (order n) old new value → (q : List ℕ) → get order new q ≡ cond (bytes_eq q n) value (get order old q)
updated n old new value u q = u.0 q ∙ ap (λ (b : Bool). cond b value (get order old q)) (is_eq-slice_cmp n q ∙ turned n q)

-- ---- a name leaves

-- what is found under a name is the entry of that name
pub gone_by_cookie : (rows : List Row) (names : Names) (last : ℕ) (name : List ℕ) (spot : Spot) → IsKept rows names last → get order names name ≡ Some spot → without_cookie spot.cookie rows ≡ without name rows
gone_by_cookie rows names last name spot kept is = by_row (find_row name rows) refl (sym (kept.found name) ∙ is) where
  by_row : (found : Option Row) → find_row name rows ≡ found → option_map spot_of found ≡ Some spot → without_cookie spot.cookie rows ≡ without name rows
  by_row None e f = absurd (cc)
  by_row (Some row) e f = let s : spot_of row ≡ spot = cc in subst (λ (z : Spot). without_cookie z.cookie rows ≡ without name rows) s (goes_by_cookie name 0 rows row kept.rising e)

pub none_there : (rows : List Row) (names : Names) (last : ℕ) (name : List ℕ) → IsKept rows names last → get order names name ≡ None → find_row name rows ≡ None
none_there rows names last name kept is = by_row (find_row name rows) refl (sym (kept.found name) ∙ is) where
  by_row : (found : Option Row) → find_row name rows ≡ found → option_map spot_of found ≡ None → find_row name rows ≡ None
  by_row None e f = e
  by_row (Some row) e f = absurd (cc)

-- cookies still rise, up to the same one at most
lower_rows : (rows : List Row) (name : List ℕ) → is_rising 0 rows ≡ true → (is_rising 0 (without name rows) ≡ true) × (top 0 (without name rows) ≤ top 0 rows)
lower_rows rows name rising = by_row (find_row name rows) refl where
  by_row : (found : Option Row) → find_row name rows ≡ found → (is_rising 0 (without name rows) ≡ true) × (top 0 (without name rows) ≤ top 0 rows)
  by_row None e = let s : rows ≡ without name rows = sym (without-none name rows e) in (subst (λ (z : List Row). is_rising 0 z ≡ true) s rising, subst (λ (z : List Row). top 0 z ≤ top 0 rows) s (omega arith))
  by_row (Some row) e = let s : without_cookie row.cookie rows ≡ without name rows = goes_by_cookie name 0 rows row rising e in (subst (λ (z : List Row). is_rising 0 z ≡ true) s (rising_without row.cookie 0 rows rising), subst (λ (z : List Row). top 0 z ≤ top 0 rows) s (top-without row.cookie 0 rows rising))

pub kept_without : (rows : List Row) (old new : Names) (last : ℕ) (name : List ℕ) → IsKept rows old last → UpdatesBy order (order name) old new None → IsKept (without name rows) new last
kept_without rows old new last name kept u = record {
  found = λ q. updated name old new None u q ∙ by_name q (bytes_eq q name) refl;
  once = once-without name rows kept.once;
  rising = (lower_rows rows name kept.rising).0;
  bounded = omega (arith, (lower_rows rows name kept.rising).1, kept.bounded);
} where
  by_name : (q : List ℕ) (b : Bool) → bytes_eq q name ≡ b → cond (bytes_eq q name) None (get order old q) ≡ option_map spot_of (find_row q (without name rows))
  by_name q true e =
      let there : find_row q (without name rows) ≡ None = subst (λ (m : List ℕ). find_row m (without name rows) ≡ None) (sym (same_name q name e)) (kept.once name) in
      simp (e, there)
  by_name q false e = simp e (kept.found q ∙ ap (λ (z : Option Row). option_map spot_of z) (sym (find-other q name rows e)))

-- ---- a name enters

pub kept_with : (rows : List Row) (old new : Names) (last : ℕ) (row : Row) → IsKept rows old last → row.cookie ≡ last + 1 → UpdatesBy order (order row.name) old new (Some (spot_of row)) → IsKept (without row.name rows ++ row ∷ []) new (last + 1)
kept_with rows old new last row kept is u = record {
  found = λ q. updated row.name old new (Some (spot_of row)) u q ∙ by_name q (bytes_eq q row.name) refl;
  once = once-more row.name rows row refl kept.once;
  rising = rising_last 0 (without row.name rows) row low.0 (omega (arith, low.1, kept.bounded));
  bounded = omega (arith, top-last 0 (without row.name rows) row);
} where
  low : (is_rising 0 (without row.name rows) ≡ true) × (top 0 (without row.name rows) ≤ top 0 rows)
  low = lower_rows rows row.name kept.rising

  by_name : (q : List ℕ) (b : Bool) → bytes_eq q row.name ≡ b → cond (bytes_eq q row.name) (Some (spot_of row)) (get order old q) ≡ option_map spot_of (find_row q (without row.name rows ++ row ∷ []))
  by_name q true e =
      let there : find_row q (without row.name rows) ≡ None = subst (λ (m : List ℕ). find_row m (without row.name rows) ≡ None) (sym (same_name q row.name e)) (kept.once row.name) in
      simp (e, find-more-none q (without row.name rows) row there e)
  by_name q false e = simp e (kept.found q ∙ ap (λ (z : Option Row). option_map spot_of z) (sym (find-more-other q (without row.name rows) row e ∙ find-other q row.name rows e)))

-- the entry that had the name goes by its cookie
pub replaced : (rows : List Row) (old : Names) (last : ℕ) (row : Row) (spot : Spot) → IsKept rows old last → row.cookie ≡ last + 1 → get order old row.name ≡ Some spot → without_cookie spot.cookie (rows ++ row ∷ []) ≡ without row.name rows ++ row ∷ []
replaced rows old last row spot kept is there = by_row (find_row row.name rows) refl (sym (kept.found row.name) ∙ there) where
  by_row : (found : Option Row) → find_row row.name rows ≡ found → option_map spot_of found ≡ Some spot → without_cookie spot.cookie (rows ++ row ∷ []) ≡ without row.name rows ++ row ∷ []
  by_row None e f = absurd (cc)
  by_row (Some r) e f =
      let s : spot_of r ≡ spot = cc in
      let rising : is_rising 0 (rows ++ row ∷ []) ≡ true = rising_last 0 rows row kept.rising (omega (arith, kept.bounded)) in
      subst (λ (z : Spot). without_cookie z.cookie (rows ++ row ∷ []) ≡ without row.name rows ++ row ∷ []) s
      (goes_by_cookie row.name 0 (rows ++ row ∷ []) r rising (find-more-some row.name rows row r e) ∙ without-more-some row.name rows row r e)

-- no entry had the name
pub appended : (rows : List Row) (old : Names) (last : ℕ) (row : Row) → IsKept rows old last → get order old row.name ≡ None → rows ++ row ∷ [] ≡ without row.name rows ++ row ∷ []
appended rows old last row kept there = ap (λ (z : List Row). z ++ row ∷ []) (sym (without-none row.name rows (none_there rows old last row.name kept there)))

-- the entry goes again that was just added
pub undone : (rows : List Row) (old : Names) (last : ℕ) (row : Row) → IsKept rows old last → row.cookie ≡ last + 1 → without_cookie row.cookie (rows ++ row ∷ []) ≡ rows
undone rows old last row kept is = last-goes 0 rows row kept.rising (omega (arith, kept.bounded))

-- ---- what the methods of a directory leave

pub removed : (rows later : List Row) (old new : Names) (last : ℕ) (name : List ℕ) (before : Option Spot) → IsKept rows old last → before ≡ get order old name → UpdatesBy order (order name) old new None → later ≡ without_spot before rows → IsKept later new last × (later ≡ without name rows)
removed rows later old new last name before kept is u rest_is = (subst (λ (z : List Row). IsKept z new last) (sym rest) (kept_without rows old new last name kept u), rest) where
  by_spot : (spot : Option Spot) → get order old name ≡ spot → without_spot spot rows ≡ without name rows
  by_spot None e = sym (without-none name rows (none_there rows old last name kept e))
  by_spot (Some spot) e = gone_by_cookie rows old last name spot kept e

  rest : later ≡ without name rows
  rest = rest_is ∙ by_spot before (sym is)

pub entered : (rows more later : List Row) (old new : Names) (last : ℕ) (row : Row) (before : Option Spot) → IsKept rows old last → row.cookie ≡ last + 1 → more ≡ rows ++ row ∷ [] → before ≡ get order old row.name → UpdatesBy order (order row.name) old new (Some (spot_of row)) → later ≡ without_spot before more → IsKept later new row.cookie × (later ≡ without row.name rows ++ row ∷ [])
entered rows more later old new last row before kept is longer has u rest_is = (subst (λ (z : List Row). IsKept z new row.cookie) (sym rest) (subst (λ (n : ℕ). IsKept (without row.name rows ++ row ∷ []) new n) (sym is) (kept_with rows old new last row kept is u)), rest) where
  by_spot : (spot : Option Spot) → get order old row.name ≡ spot → without_spot spot (rows ++ row ∷ []) ≡ without row.name rows ++ row ∷ []
  by_spot None e = appended rows old last row kept e
  by_spot (Some spot) e = replaced rows old last row spot kept is e

  rest : later ≡ without row.name rows ++ row ∷ []
  rest = rest_is ∙ ap (without_spot before) longer ∙ by_spot before (sym has)

pub not_entered : (rows more later : List Row) (old new : Names) (last : ℕ) (row : Row) → IsKept rows old last → row.cookie ≡ last + 1 → more ≡ rows ++ row ∷ [] → later ≡ without_cookie row.cookie more → later ≡ rows
not_entered rows more later old new last row kept is longer rest_is = rest_is ∙ ap (without_cookie row.cookie) longer ∙ undone rows old last row kept is

pub kept_same : (rows later : List Row) (old new : Names) (last : ℕ) → IsKept rows old last → later ≡ rows → new.entries ≡ old.entries → IsKept later new last
kept_same rows later old new last kept same unchanged = subst (λ (z : List Row). IsKept z new last) (sym same) (record {
  found = λ q. ap (lookup (is_at (order q))) unchanged ∙ kept.found q;
  once = kept.once;
  rising = kept.rising;
  bounded = kept.bounded;
})
