-- The small run, step by step.
use Rattle.std.proofs.Common.{inl, inr, ◌⊎◌, ◌≡◌, ◌≤◌, ◌↔◌, ◌&&◌, ◌++◌, Bool, true, false, eqb, bytes_eq, ℕ, zero, suc, List, [], ◌∷◌, Contains, Option, Some, None, refl, sym, ap, ◌∙◌, arith, if◌then◌else◌}
use Rattle.std.proofs.lemmas.Bool.{eqb-true}
use Rattle.std.proofs.lemmas.Slice.Eq.{bytes_eq-Decides}
use Rattle.std.specs.Cmp.Lexicographic.{slice_cmp}
use Rattle.std.specs.List.Sorted.{IsStrictlySortedBy}
use Rattle.std.specs.Ordering.{nat_cmp}
use Rattle.nfs_types.specs.declared.attr.Attr.{Attr}
use Rattle.nfs_types.specs.declared.mode.Mode.{Mode}
use Rattle.nfs_types.specs.Stamps.{stamp_of}
use Rattle.world_model.specs.declared.answer.Answer.{Answer}
use Rattle.world_model.specs.declared.answer.Answer.TheVariants.{Done}
use Rattle.world_model.specs.declared.answer.Value.TheVariants.{Nothing, Attrs, Names}
use Rattle.world_model.specs.declared.entry.Entry.{Entry}
use Rattle.world_model.specs.declared.entry.Entry.TheVariants as entries
use Rattle.world_model.specs.declared.op.Op.{Op}
use Rattle.world_model.specs.declared.op.Op.TheVariants as ops
use Rattle.world_model.specs.Chains.{list_call, zero_verf, names_of}
use Rattle.world_model.specs.Entries.{At}
use Rattle.world_model.specs.History.{History}
use Rattle.world_model.specs.Mounts.{Given}
use Rattle.claims.specs.Shown.{of_object}
use Rattle.model_walks.specs.Calls.{Adds}
use Rattle.model_walks.specs.Machine.{Name, Path, Place, Walk, View, makes_call, learns_attr, learns_name, forgets, looks_up, goes_by_name, finds_file, shows_object, begins_list, takes_page, by_lookup, believed, told, by_giving}
use Rattle.model_walks.specs.Reaches.{Reaches, begins, enters, moves}
use Rattle.model_walks.specs.SmallRun.{the_modes, the_root, the_file, the_name, the_path, the_lookup, the_found, the_question, the_state, the_row, the_page, Records, the_run, the_history, IsReached}

-- ---- what the client keeps

abbrev nothing : {K V : Type 0} → K → Option V
nothing {K} {V} z = None

abbrev put : {K V : Type 0} → (K → K → Bool) → K → V → (K → Option V) → K → Option V
put {K} {V} eq k v old z = if eq z k then Some v else old z

some_is : {V : Type 0} (a b : V) → Some a ≡ Some b → a ≡ b
some_is {V} a b e = cc

adds_put : {K V : Type 0} (eq : K → K → Bool) → ((a b : K) → eq a b ≡ true → a ≡ b) → (old : K → Option V) (k : K) (v : V) → Adds old (put eq k v old) k v
adds_put {K} {V} eq sound old k v z w is = by (eq z k) refl is
  where
    by : (b : Bool) → eq z k ≡ b → (if b then Some v else old z) ≡ Some w → (old z ≡ Some w) ⊎ ((z ≡ k) × (w ≡ v))
    by true e is = inr (sound z k e, sym (some_is v w is))
    by false e is = inl is

bytes_same : (a b : List ℕ) → bytes_eq a b ≡ true → a ≡ b
bytes_same a b e = (bytes_eq-Decides a b).0 e

both_true : (a b : Bool) → a && b ≡ true → (a ≡ true) × (b ≡ true)
both_true true true e = (refl, refl)
both_true true false e = absurd (cc e)
both_true false b e = absurd (cc e)

abbrev path_eq : Path → Path → Bool
path_eq [] [] = true
path_eq [] (y ∷ q) = false
path_eq (x ∷ p) [] = false
path_eq (x ∷ p) (y ∷ q) = bytes_eq x y && path_eq p q

path_same : (p q : Path) → path_eq p q ≡ true → p ≡ q
path_same [] [] e = refl
path_same [] (y ∷ q) e = absurd (cc e)
path_same (x ∷ p) [] e = absurd (cc e)
path_same (x ∷ p) (y ∷ q) e = let r = both_true (bytes_eq x y) (path_eq p q) e in rw (bytes_same x y r.0, path_same p q r.1) refl

abbrev walk_eq : Walk → Walk → Bool
walk_eq v w = eqb v.op w.op && path_eq v.path w.path

walk_same : (v w : Walk) → walk_eq v w ≡ true → v ≡ w
walk_same v w e =
    let r = both_true (eqb v.op w.op) (path_eq v.path w.path) e in
    ap (λ z. record { op = z; path = v.path }) (eqb-true v.op w.op r.0) ∙ ap (λ z. record { op = w.op; path = z }) (path_same v.path w.path r.1)

abbrev place_eq : Place → Place → Bool
place_eq p q = bytes_eq p.dir q.dir && bytes_eq p.name q.name

place_same : (p q : Place) → place_eq p q ≡ true → p ≡ q
place_same p q e =
    let r = both_true (bytes_eq p.dir q.dir) (bytes_eq p.name q.name) e in
    ap (λ z. record { dir = z; name = p.name }) (bytes_same p.dir q.dir r.0) ∙ ap (λ z. record { dir = q.dir; name = z }) (bytes_same p.name q.name r.1)

low : (a b time : ℕ) → a ≤ time → Some a ≡ Some b → b ≤ time
low a b time le e = let same : a ≡ b = some_is a b e in omega (arith, le, same)

none_some : {V : Type 0} (w : V) → None ≡ Some w → ⊥
none_some {V} w e = cc e

true_false : true ≡ false → ⊥
true_false e = cc e

-- ---- which operations begin

data BegunAs (mode : Mode) (x line : ℕ) (op : Op) : Type 0 where
  one : x ≡ 1 → line ≡ 1 → op ≡ ops.Stat the_path → BegunAs mode x line op
  two : x ≡ 10 → line ≡ 2 → op ≡ ops.OpenFile 0 mode the_path → BegunAs mode x line op
  three : x ≡ 16 → line ≡ 3 → op ≡ ops.Stat the_path → BegunAs mode x line op
  four : x ≡ 19 → line ≡ 4 → op ≡ ops.List [] → BegunAs mode x line op

same_op : (line : ℕ) (op : Op) (l other : ℕ) (it : Op) → Some (entries.Began 0 line op) ≡ Some (entries.Began l other it) → (line ≡ other) × (op ≡ it)
same_op line op l other it e = (cc, cc)

line_is : (i j k l : ℕ) (a b : Answer) → Some (entries.Answered k i a) ≡ Some (entries.Answered l j b) → i ≡ j
line_is i j k l a b e = cc

path_is : (path : Path) → ops.Stat path ≡ ops.Stat the_path → path ≡ the_path
path_is path e = cc

open_path : (slot : ℕ) (mode other : Mode) (path : Path) → ops.OpenFile slot other path ≡ ops.OpenFile 0 mode the_path → path ≡ the_path
open_path slot mode other path e = cc

list_path : (path : Path) → ops.List path ≡ ops.List [] → path ≡ []
list_path path e = cc

found_is : {V : Type 0} (known : Walk → Option V) (x op : ℕ) (path here : Path) (v : V) → op ≡ x → path ≡ here → known (record { op = x; path = here }) ≡ Some v → known (record { op = op; path = path }) ≡ Some v
found_is {V} known x op path here v e f is = rw (e, f) is

names_are : (names : Path) → Done (Names (the_name ∷ [])) ≡ Done (Names names) → the_name ∷ [] ≡ names
names_are names e = cc

one_sorted : (names : Path) → the_name ∷ [] ≡ names → IsStrictlySortedBy (slice_cmp nat_cmp) names
unfolding IsStrictlySortedBy
one_sorted names e = rw (← e) (tt, tt)

same_names : (names : Path) → the_name ∷ [] ≡ names → (name : Name) → Contains names name ↔ Contains ([] ++ names_of (the_row ∷ [])) name
same_names names e name = rw (← e) (λ p. p, λ p. p)

open_stat : (slot : ℕ) (other : Mode) (path : Path) → ops.OpenFile slot other path ≡ ops.Stat the_path → ⊥
open_stat slot other path e = cc e

put_stat : (path : Path) (offset : ℕ) (bytes : List ℕ) → ops.Put path offset bytes ≡ ops.Stat the_path → ⊥
put_stat path offset bytes e = cc e

put_open : (mode : Mode) (path : Path) (offset : ℕ) (bytes : List ℕ) → ops.Put path offset bytes ≡ ops.OpenFile 0 mode the_path → ⊥
put_open mode path offset bytes e = cc e

open_list : (slot : ℕ) (other : Mode) (path : Path) → ops.OpenFile slot other path ≡ ops.List [] → ⊥
open_list slot other path e = cc e

put_list : (path : Path) (offset : ℕ) (bytes : List ℕ) → ops.Put path offset bytes ≡ ops.List [] → ⊥
put_list path offset bytes e = cc e

nothing_attrs : (attr : Attr) → Done Nothing ≡ Done (Attrs attr) → ⊥
nothing_attrs attr e = cc e

nothing_names : (names : Path) → Done Nothing ≡ Done (Names names) → ⊥
nothing_names names e = cc e

names_attrs : (attr : Attr) → Done (Names (the_name ∷ [])) ≡ Done (Attrs attr) → ⊥
names_attrs attr e = cc e

module _ (mode : Mode) (dir attr : Attr) (r : Records dir attr) where
  abbrev run : List Entry
  run = the_run mode dir attr r

  abbrev t : History
  t = the_history mode dir attr r

  attrs_are : (other : Attr) → Done (Attrs attr) ≡ Done (Attrs other) → attr ≡ other
  attrs_are other e = cc

  attrs_names : (names : Path) → Done (Attrs attr) ≡ Done (Names names) → ⊥
  attrs_names names e = cc e

  line_one : (x line : ℕ) (op : Op) → BegunAs mode x line op → line ≡ 1 → (x ≡ 1) × (op ≡ ops.Stat the_path)
  line_one x line op (one a b c) e = (a, c)
  line_one x line op (two a b c) e = absurd (omega (arith, b, e))
  line_one x line op (three a b c) e = absurd (omega (arith, b, e))
  line_one x line op (four a b c) e = absurd (omega (arith, b, e))

  line_two : (x line : ℕ) (op : Op) → BegunAs mode x line op → line ≡ 2 → (x ≡ 10) × (op ≡ ops.OpenFile 0 mode the_path)
  line_two x line op (one a b c) e = absurd (omega (arith, b, e))
  line_two x line op (two a b c) e = (a, c)
  line_two x line op (three a b c) e = absurd (omega (arith, b, e))
  line_two x line op (four a b c) e = absurd (omega (arith, b, e))

  line_three : (x line : ℕ) (op : Op) → BegunAs mode x line op → line ≡ 3 → (x ≡ 16) × (op ≡ ops.Stat the_path)
  line_three x line op (one a b c) e = absurd (omega (arith, b, e))
  line_three x line op (two a b c) e = absurd (omega (arith, b, e))
  line_three x line op (three a b c) e = (a, c)
  line_three x line op (four a b c) e = absurd (omega (arith, b, e))

  line_four : (x line : ℕ) (op : Op) → BegunAs mode x line op → line ≡ 4 → (x ≡ 19) × (op ≡ ops.List [])
  line_four x line op (one a b c) e = absurd (omega (arith, b, e))
  line_four x line op (two a b c) e = absurd (omega (arith, b, e))
  line_four x line op (three a b c) e = absurd (omega (arith, b, e))
  line_four x line op (four a b c) e = (a, c)

  begun_as : (x l line : ℕ) (op : Op) → At run x (entries.Began l line op) → BegunAs mode x line op
  begun_as zero l line op e = absurd (cc e)
  begun_as (suc zero) l line op e = let q = same_op 1 (ops.Stat the_path) l line op e in one refl (sym q.0) (sym q.1)
  begun_as (suc (suc zero)) l line op e = absurd (cc e)
  begun_as (suc (suc (suc zero))) l line op e = absurd (cc e)
  begun_as (suc (suc (suc (suc zero)))) l line op e = absurd (cc e)
  begun_as (suc (suc (suc (suc (suc zero))))) l line op e = absurd (cc e)
  begun_as (suc (suc (suc (suc (suc (suc zero)))))) l line op e = absurd (cc e)
  begun_as (suc (suc (suc (suc (suc (suc (suc zero))))))) l line op e = absurd (cc e)
  begun_as (suc (suc (suc (suc (suc (suc (suc (suc zero)))))))) l line op e = absurd (cc e)
  begun_as (suc (suc (suc (suc (suc (suc (suc (suc (suc zero))))))))) l line op e = absurd (cc e)
  begun_as (suc (suc (suc (suc (suc (suc (suc (suc (suc (suc zero)))))))))) l line op e = let q = same_op 2 (ops.OpenFile 0 mode the_path) l line op e in two refl (sym q.0) (sym q.1)
  begun_as (suc (suc (suc (suc (suc (suc (suc (suc (suc (suc (suc zero))))))))))) l line op e = absurd (cc e)
  begun_as (suc (suc (suc (suc (suc (suc (suc (suc (suc (suc (suc (suc zero)))))))))))) l line op e = absurd (cc e)
  begun_as (suc (suc (suc (suc (suc (suc (suc (suc (suc (suc (suc (suc (suc zero))))))))))))) l line op e = absurd (cc e)
  begun_as (suc (suc (suc (suc (suc (suc (suc (suc (suc (suc (suc (suc (suc (suc zero)))))))))))))) l line op e = absurd (cc e)
  begun_as (suc (suc (suc (suc (suc (suc (suc (suc (suc (suc (suc (suc (suc (suc (suc zero))))))))))))))) l line op e = absurd (cc e)
  begun_as (suc (suc (suc (suc (suc (suc (suc (suc (suc (suc (suc (suc (suc (suc (suc (suc zero)))))))))))))))) l line op e = let q = same_op 3 (ops.Stat the_path) l line op e in three refl (sym q.0) (sym q.1)
  begun_as (suc (suc (suc (suc (suc (suc (suc (suc (suc (suc (suc (suc (suc (suc (suc (suc (suc zero))))))))))))))))) l line op e = absurd (cc e)
  begun_as (suc (suc (suc (suc (suc (suc (suc (suc (suc (suc (suc (suc (suc (suc (suc (suc (suc (suc zero)))))))))))))))))) l line op e = absurd (cc e)
  begun_as (suc (suc (suc (suc (suc (suc (suc (suc (suc (suc (suc (suc (suc (suc (suc (suc (suc (suc (suc zero))))))))))))))))))) l line op e = let q = same_op 4 (ops.List []) l line op e in four refl (sym q.0) (sym q.1)
  begun_as (suc (suc (suc (suc (suc (suc (suc (suc (suc (suc (suc (suc (suc (suc (suc (suc (suc (suc (suc (suc zero)))))))))))))))))))) l line op e = absurd (cc e)
  begun_as (suc (suc (suc (suc (suc (suc (suc (suc (suc (suc (suc (suc (suc (suc (suc (suc (suc (suc (suc (suc (suc zero))))))))))))))))))))) l line op e = absurd (cc e)
  begun_as (suc (suc (suc (suc (suc (suc (suc (suc (suc (suc (suc (suc (suc (suc (suc (suc (suc (suc (suc (suc (suc (suc zero)))))))))))))))))))))) l line op e = absurd (cc e)
  begun_as (suc (suc (suc (suc (suc (suc (suc (suc (suc (suc (suc (suc (suc (suc (suc (suc (suc (suc (suc (suc (suc (suc (suc zero))))))))))))))))))))))) l line op e = absurd (cc e)
  begun_as (suc (suc (suc (suc (suc (suc (suc (suc (suc (suc (suc (suc (suc (suc (suc (suc (suc (suc (suc (suc (suc (suc (suc (suc x)))))))))))))))))))))))) l line op e = absurd (cc e)

  -- ---- the client, step by step

  abbrev s0 : View
  s0 = record { calls = record { next = 0; wait = nothing; taken = nothing }; now = None; attrs = nothing; names = nothing; spots = nothing; found = nothing; shown = nothing; lists = nothing }

  abbrev s1 : View
  s1 = record s0 { now = Some 5 }

  abbrev s2 : View
  s2 = record s1 { spots = put walk_eq (record { op = 1; path = [] }) the_root s1.spots }

  abbrev s3 : View
  s3 = record s2 { calls = record { next = 1; wait = put eqb 0 (record { call = the_lookup; at = 2; time = Some 5 }) nothing; taken = s2.calls.taken } }

  abbrev s4 : View
  s4 = record s3 { calls = record { next = 1; wait = nothing; taken = put eqb 0 (record { call = the_lookup; at = 2; time = Some 5; reply = (the_found dir); came = 4 }) s3.calls.taken } }

  abbrev s5 : View
  s5 = record s4 { attrs = put bytes_eq the_root (record { attr = dir; sent = 5; lifetime = 30000 }) s4.attrs }

  abbrev s6 : View
  s6 = record s5 { names = put place_eq (record { dir = the_root; name = the_name }) (record { stamp = stamp_of dir; object = the_file }) s5.names }

  abbrev s7 : View
  s7 = record s6 { spots = put walk_eq (record { op = 1; path = the_path }) the_file s6.spots }

  abbrev s8 : View
  s8 = record s7 { calls = record { next = 2; wait = put eqb 1 (record { call = the_question; at = 5; time = Some 5 }) nothing; taken = s7.calls.taken } }

  abbrev s9 : View
  s9 = record s8 { calls = record { next = 2; wait = nothing; taken = put eqb 1 (record { call = the_question; at = 5; time = Some 5; reply = (the_state attr); came = 7 }) s8.calls.taken } }

  abbrev s10 : View
  s10 = record s9 { attrs = put bytes_eq the_file (record { attr = attr; sent = 5; lifetime = 30000 }) s9.attrs }

  abbrev s11 : View
  s11 = record s10 { shown = put walk_eq (record { op = 1; path = the_path }) attr s10.shown }

  abbrev s12 : View
  s12 = record s11 { now = Some 6 }

  abbrev s13 : View
  s13 = record s12 { spots = put walk_eq (record { op = 10; path = [] }) the_root s12.spots }

  abbrev s14 : View
  s14 = record s13 { calls = record { next = 3; wait = put eqb 2 (record { call = the_lookup; at = 11; time = Some 6 }) nothing; taken = s13.calls.taken } }

  abbrev s15 : View
  s15 = record s14 { calls = record { next = 3; wait = nothing; taken = put eqb 2 (record { call = the_lookup; at = 11; time = Some 6; reply = (the_found dir); came = 13 }) s14.calls.taken } }

  abbrev s16 : View
  s16 = record s15 { found = put walk_eq (record { op = 10; path = the_path }) the_file s15.found }

  abbrev s17 : View
  s17 = record s16 { now = Some 7 }

  abbrev s18 : View
  s18 = record s17 { spots = put walk_eq (record { op = 16; path = [] }) the_root s17.spots }

  abbrev s19 : View
  s19 = record s18 { spots = put walk_eq (record { op = 16; path = the_path }) the_file s18.spots }

  abbrev s20 : View
  s20 = record s19 { shown = put walk_eq (record { op = 16; path = the_path }) attr s19.shown }

  abbrev s21 : View
  s21 = record s20 { now = Some 8 }

  abbrev s22 : View
  s22 = record s21 { spots = put walk_eq (record { op = 19; path = [] }) the_root s21.spots }

  abbrev s23 : View
  s23 = record s22 { lists = put walk_eq (record { op = 19; path = [] }) (record { dir = the_root; cookie = 0; names = []; since = 19; ended = false }) s22.lists }

  abbrev s24 : View
  s24 = record s23 { calls = record { next = 4; wait = put eqb 3 (record { call = (list_call the_root 0 zero_verf); at = 20; time = Some 8 }) nothing; taken = s23.calls.taken } }

  abbrev s25 : View
  s25 = record s24 { calls = record { next = 4; wait = nothing; taken = put eqb 3 (record { call = (list_call the_root 0 zero_verf); at = 20; time = Some 8; reply = the_page; came = 22 }) s24.calls.taken } }

  abbrev s26 : View
  s26 = record s25 { lists = put walk_eq (record { op = 19; path = [] }) (record { dir = the_root; cookie = 1; names = [] ++ names_of (the_row ∷ []); since = 22; ended = true }) s25.lists }

  abbrev s27 : View
  s27 = record s26 { attrs = nothing; names = nothing }

  -- ---- the run

  abbrev r0 : Reaches the_modes (Given the_root) t ([]) s0
  r0 = begins [] s0 refl (record { wait = λ x. refl; taken = λ x. refl; now = refl; attrs = λ x. refl; names = λ x. refl; spots = λ x. refl; found = λ x. refl; shown = λ x. refl; lists = λ x. refl })

  abbrev r1 : Reaches the_modes (Given the_root) t (entries.Clock 5 ∷ []) s1
  r1 = enters (entries.Clock 5 ∷ []) s1 ([]) s0 (entries.Clock 5) r0 refl (record { time = 5; now = refl; one = inl refl; least = omega arith; later = λ b e. absurd (none_some b e); others = refl })

  abbrev r2 : Reaches the_modes (Given the_root) t (entries.Clock 5 ∷ entries.Began 0 1 (ops.Stat the_path) ∷ []) s2
  r2 = enters (entries.Clock 5 ∷ entries.Began 0 1 (ops.Stat the_path) ∷ []) s2 (entries.Clock 5 ∷ []) s1 (entries.Began 0 1 (ops.Stat the_path)) r1 refl (inr (record { root = the_root; time = 5; rooted = refl; timed = refl; spots = adds_put walk_eq walk_same s1.spots (record { op = 1; path = [] }) the_root; others = refl }))

  abbrev r3 : Reaches the_modes (Given the_root) t (entries.Clock 5 ∷ entries.Began 0 1 (ops.Stat the_path) ∷ []) s3
  r3 = moves (entries.Clock 5 ∷ entries.Began 0 1 (ops.Stat the_path) ∷ []) s3 s2 r2 (makes_call (record { makes = record { call = the_lookup; next = refl; waits = adds_put eqb eqb-true nothing 0 (record { call = the_lookup; at = 2; time = Some 5 }); taken = refl }; others = refl }))

  abbrev r4 : Reaches the_modes (Given the_root) t (entries.Clock 5 ∷ entries.Began 0 1 (ops.Stat the_path) ∷ entries.Sent r.lookup ∷ []) s3
  r4 = enters (entries.Clock 5 ∷ entries.Began 0 1 (ops.Stat the_path) ∷ entries.Sent r.lookup ∷ []) s3 (entries.Clock 5 ∷ entries.Began 0 1 (ops.Stat the_path) ∷ []) s3 (entries.Sent r.lookup) r3 refl (record { goes = (refl, record { x = 0; made = (record { call = the_lookup; at = 2; time = Some 5 }); waits = refl; under = r.lookup_is.under; spells = r.lookup_is.spells; alone = r.lookup_is.alone }); others = refl })

  abbrev r5 : Reaches the_modes (Given the_root) t (entries.Clock 5 ∷ entries.Began 0 1 (ops.Stat the_path) ∷ entries.Sent r.lookup ∷ entries.Executed 0 the_lookup (the_found dir) ∷ []) s3
  r5 = enters (entries.Clock 5 ∷ entries.Began 0 1 (ops.Stat the_path) ∷ entries.Sent r.lookup ∷ entries.Executed 0 the_lookup (the_found dir) ∷ []) s3 (entries.Clock 5 ∷ entries.Began 0 1 (ops.Stat the_path) ∷ entries.Sent r.lookup ∷ []) s3 (entries.Executed 0 the_lookup (the_found dir)) r4 refl (refl)

  abbrev r6 : Reaches the_modes (Given the_root) t (entries.Clock 5 ∷ entries.Began 0 1 (ops.Stat the_path) ∷ entries.Sent r.lookup ∷ entries.Executed 0 the_lookup (the_found dir) ∷ entries.Delivered r.looked ∷ []) s4
  r6 = enters (entries.Clock 5 ∷ entries.Began 0 1 (ops.Stat the_path) ∷ entries.Sent r.lookup ∷ entries.Executed 0 the_lookup (the_found dir) ∷ entries.Delivered r.looked ∷ []) s4 (entries.Clock 5 ∷ entries.Began 0 1 (ops.Stat the_path) ∷ entries.Sent r.lookup ∷ entries.Executed 0 the_lookup (the_found dir) ∷ []) s3 (entries.Delivered r.looked) r5 refl (record { goes = inr (record { x = 0; made = (record { call = the_lookup; at = 2; time = Some 5 }); reply = (the_found dir); waits = refl; under = r.looked_is.under; spells = r.looked_is.spells; alone = r.looked_is.alone; next = refl; gone = refl; fewer = λ z w e. absurd (none_some w e); taken = adds_put eqb eqb-true s3.calls.taken 0 (record { call = the_lookup; at = 2; time = Some 5; reply = (the_found dir); came = 4 }) }); others = refl })

  abbrev r7 : Reaches the_modes (Given the_root) t (entries.Clock 5 ∷ entries.Began 0 1 (ops.Stat the_path) ∷ entries.Sent r.lookup ∷ entries.Executed 0 the_lookup (the_found dir) ∷ entries.Delivered r.looked ∷ []) s5
  r7 = moves (entries.Clock 5 ∷ entries.Began 0 1 (ops.Stat the_path) ∷ entries.Sent r.lookup ∷ entries.Executed 0 the_lookup (the_found dir) ∷ entries.Delivered r.looked ∷ []) s5 s4 r6 (learns_attr (record { call = the_lookup; reply = (the_found dir); came = (record { xid = 0; at = 2; time = Some 5; place = 4; is = refl }); object = the_root; attr = dir; sent = 5; lifetime = 30000; shows = of_object refl refl; timed = refl; most = omega arith; attrs = adds_put bytes_eq bytes_same s4.attrs the_root (record { attr = dir; sent = 5; lifetime = 30000 }); others = refl }))

  abbrev r8 : Reaches the_modes (Given the_root) t (entries.Clock 5 ∷ entries.Began 0 1 (ops.Stat the_path) ∷ entries.Sent r.lookup ∷ entries.Executed 0 the_lookup (the_found dir) ∷ entries.Delivered r.looked ∷ []) s6
  r8 = moves (entries.Clock 5 ∷ entries.Began 0 1 (ops.Stat the_path) ∷ entries.Sent r.lookup ∷ entries.Executed 0 the_lookup (the_found dir) ∷ entries.Delivered r.looked ∷ []) s6 s5 r7 (learns_name (record { d = the_root; name = the_name; object = the_file; attr = None; dir = dir; came = (record { xid = 0; at = 2; time = Some 5; place = 4; is = refl }); names = adds_put place_eq place_same s5.names (record { dir = the_root; name = the_name }) (record { stamp = stamp_of dir; object = the_file }); others = refl }))

  abbrev r9 : Reaches the_modes (Given the_root) t (entries.Clock 5 ∷ entries.Began 0 1 (ops.Stat the_path) ∷ entries.Sent r.lookup ∷ entries.Executed 0 the_lookup (the_found dir) ∷ entries.Delivered r.looked ∷ []) s7
  r9 = moves (entries.Clock 5 ∷ entries.Began 0 1 (ops.Stat the_path) ∷ entries.Sent r.lookup ∷ entries.Executed 0 the_lookup (the_found dir) ∷ entries.Delivered r.looked ∷ []) s7 s6 r8 (looks_up (record { op = 1; d = the_root; name = the_name; object = the_file; attr = None; dir = Some dir; goes = (record { earlier = []; stands = refl; spots = adds_put walk_eq walk_same s6.spots (record { op = 1; path = the_path }) the_file; others = refl }); came = (record { xid = 0; at = 2; time = Some 5; place = 4; is = refl }); own = omega arith }))

  abbrev r10 : Reaches the_modes (Given the_root) t (entries.Clock 5 ∷ entries.Began 0 1 (ops.Stat the_path) ∷ entries.Sent r.lookup ∷ entries.Executed 0 the_lookup (the_found dir) ∷ entries.Delivered r.looked ∷ []) s8
  r10 = moves (entries.Clock 5 ∷ entries.Began 0 1 (ops.Stat the_path) ∷ entries.Sent r.lookup ∷ entries.Executed 0 the_lookup (the_found dir) ∷ entries.Delivered r.looked ∷ []) s8 s7 r9 (makes_call (record { makes = record { call = the_question; next = refl; waits = adds_put eqb eqb-true nothing 1 (record { call = the_question; at = 5; time = Some 5 }); taken = refl }; others = refl }))

  abbrev r11 : Reaches the_modes (Given the_root) t (entries.Clock 5 ∷ entries.Began 0 1 (ops.Stat the_path) ∷ entries.Sent r.lookup ∷ entries.Executed 0 the_lookup (the_found dir) ∷ entries.Delivered r.looked ∷ entries.Sent r.question ∷ []) s8
  r11 = enters (entries.Clock 5 ∷ entries.Began 0 1 (ops.Stat the_path) ∷ entries.Sent r.lookup ∷ entries.Executed 0 the_lookup (the_found dir) ∷ entries.Delivered r.looked ∷ entries.Sent r.question ∷ []) s8 (entries.Clock 5 ∷ entries.Began 0 1 (ops.Stat the_path) ∷ entries.Sent r.lookup ∷ entries.Executed 0 the_lookup (the_found dir) ∷ entries.Delivered r.looked ∷ []) s8 (entries.Sent r.question) r10 refl (record { goes = (refl, record { x = 1; made = (record { call = the_question; at = 5; time = Some 5 }); waits = refl; under = r.question_is.under; spells = r.question_is.spells; alone = r.question_is.alone }); others = refl })

  abbrev r12 : Reaches the_modes (Given the_root) t (entries.Clock 5 ∷ entries.Began 0 1 (ops.Stat the_path) ∷ entries.Sent r.lookup ∷ entries.Executed 0 the_lookup (the_found dir) ∷ entries.Delivered r.looked ∷ entries.Sent r.question ∷ entries.Executed 1 the_question (the_state attr) ∷ []) s8
  r12 = enters (entries.Clock 5 ∷ entries.Began 0 1 (ops.Stat the_path) ∷ entries.Sent r.lookup ∷ entries.Executed 0 the_lookup (the_found dir) ∷ entries.Delivered r.looked ∷ entries.Sent r.question ∷ entries.Executed 1 the_question (the_state attr) ∷ []) s8 (entries.Clock 5 ∷ entries.Began 0 1 (ops.Stat the_path) ∷ entries.Sent r.lookup ∷ entries.Executed 0 the_lookup (the_found dir) ∷ entries.Delivered r.looked ∷ entries.Sent r.question ∷ []) s8 (entries.Executed 1 the_question (the_state attr)) r11 refl (refl)

  abbrev r13 : Reaches the_modes (Given the_root) t (entries.Clock 5 ∷ entries.Began 0 1 (ops.Stat the_path) ∷ entries.Sent r.lookup ∷ entries.Executed 0 the_lookup (the_found dir) ∷ entries.Delivered r.looked ∷ entries.Sent r.question ∷ entries.Executed 1 the_question (the_state attr) ∷ entries.Delivered r.state ∷ []) s9
  r13 = enters (entries.Clock 5 ∷ entries.Began 0 1 (ops.Stat the_path) ∷ entries.Sent r.lookup ∷ entries.Executed 0 the_lookup (the_found dir) ∷ entries.Delivered r.looked ∷ entries.Sent r.question ∷ entries.Executed 1 the_question (the_state attr) ∷ entries.Delivered r.state ∷ []) s9 (entries.Clock 5 ∷ entries.Began 0 1 (ops.Stat the_path) ∷ entries.Sent r.lookup ∷ entries.Executed 0 the_lookup (the_found dir) ∷ entries.Delivered r.looked ∷ entries.Sent r.question ∷ entries.Executed 1 the_question (the_state attr) ∷ []) s8 (entries.Delivered r.state) r12 refl (record { goes = inr (record { x = 1; made = (record { call = the_question; at = 5; time = Some 5 }); reply = (the_state attr); waits = refl; under = r.state_is.under; spells = r.state_is.spells; alone = r.state_is.alone; next = refl; gone = refl; fewer = λ z w e. absurd (none_some w e); taken = adds_put eqb eqb-true s8.calls.taken 1 (record { call = the_question; at = 5; time = Some 5; reply = (the_state attr); came = 7 }) }); others = refl })

  abbrev r14 : Reaches the_modes (Given the_root) t (entries.Clock 5 ∷ entries.Began 0 1 (ops.Stat the_path) ∷ entries.Sent r.lookup ∷ entries.Executed 0 the_lookup (the_found dir) ∷ entries.Delivered r.looked ∷ entries.Sent r.question ∷ entries.Executed 1 the_question (the_state attr) ∷ entries.Delivered r.state ∷ []) s10
  r14 = moves (entries.Clock 5 ∷ entries.Began 0 1 (ops.Stat the_path) ∷ entries.Sent r.lookup ∷ entries.Executed 0 the_lookup (the_found dir) ∷ entries.Delivered r.looked ∷ entries.Sent r.question ∷ entries.Executed 1 the_question (the_state attr) ∷ entries.Delivered r.state ∷ []) s10 s9 r13 (learns_attr (record { call = the_question; reply = (the_state attr); came = (record { xid = 1; at = 5; time = Some 5; place = 7; is = refl }); object = the_file; attr = attr; sent = 5; lifetime = 30000; shows = of_object refl refl; timed = refl; most = omega arith; attrs = adds_put bytes_eq bytes_same s9.attrs the_file (record { attr = attr; sent = 5; lifetime = 30000 }); others = refl }))

  abbrev r15 : Reaches the_modes (Given the_root) t (entries.Clock 5 ∷ entries.Began 0 1 (ops.Stat the_path) ∷ entries.Sent r.lookup ∷ entries.Executed 0 the_lookup (the_found dir) ∷ entries.Delivered r.looked ∷ entries.Sent r.question ∷ entries.Executed 1 the_question (the_state attr) ∷ entries.Delivered r.state ∷ []) s11
  r15 = moves (entries.Clock 5 ∷ entries.Began 0 1 (ops.Stat the_path) ∷ entries.Sent r.lookup ∷ entries.Executed 0 the_lookup (the_found dir) ∷ entries.Delivered r.looked ∷ entries.Sent r.question ∷ entries.Executed 1 the_question (the_state attr) ∷ entries.Delivered r.state ∷ []) s11 s10 r14 (shows_object (record { op = 1; path = the_path; object = the_file; attr = attr; stands = refl; knows = told (record { xid = 1; at = 5; time = Some 5; place = 7; is = refl }) (omega arith); shown = adds_put walk_eq walk_same s10.shown (record { op = 1; path = the_path }) attr; others = refl }))

  abbrev r16 : Reaches the_modes (Given the_root) t (entries.Clock 5 ∷ entries.Began 0 1 (ops.Stat the_path) ∷ entries.Sent r.lookup ∷ entries.Executed 0 the_lookup (the_found dir) ∷ entries.Delivered r.looked ∷ entries.Sent r.question ∷ entries.Executed 1 the_question (the_state attr) ∷ entries.Delivered r.state ∷ entries.Answered 0 1 (Done (Attrs attr)) ∷ []) s11
  r16 = enters (entries.Clock 5 ∷ entries.Began 0 1 (ops.Stat the_path) ∷ entries.Sent r.lookup ∷ entries.Executed 0 the_lookup (the_found dir) ∷ entries.Delivered r.looked ∷ entries.Sent r.question ∷ entries.Executed 1 the_question (the_state attr) ∷ entries.Delivered r.state ∷ entries.Answered 0 1 (Done (Attrs attr)) ∷ []) s11 (entries.Clock 5 ∷ entries.Began 0 1 (ops.Stat the_path) ∷ entries.Sent r.lookup ∷ entries.Executed 0 the_lookup (the_found dir) ∷ entries.Delivered r.looked ∷ entries.Sent r.question ∷ entries.Executed 1 the_question (the_state attr) ∷ entries.Delivered r.state ∷ []) s11 (entries.Answered 0 1 (Done (Attrs attr))) r15 refl (record { same = refl; opened = λ op slot other path value is ended. absurd (open_stat slot other path (line_one op ended.line _ (begun_as op 0 ended.line _ ended.began) (sym (line_is 1 ended.line 0 0 _ _ ended.answered))).1); put = λ op offset path bytes value is ended. absurd (put_stat path offset bytes (line_one op ended.line _ (begun_as op 0 ended.line _ ended.began) (sym (line_is 1 ended.line 0 0 _ _ ended.answered))).1); shown = λ op path other is ended. found_is s11.shown 1 op path the_path other ((line_one op ended.line _ (begun_as op 0 ended.line _ ended.began) (sym (line_is 1 ended.line 0 0 _ _ ended.answered))).0) (path_is path (line_one op ended.line _ (begun_as op 0 ended.line _ ended.began) (sym (line_is 1 ended.line 0 0 _ _ ended.answered))).1) (ap Some (attrs_are other is)); listed = λ op path names is ended. absurd (attrs_names names is) })

  abbrev r17 : Reaches the_modes (Given the_root) t (entries.Clock 5 ∷ entries.Began 0 1 (ops.Stat the_path) ∷ entries.Sent r.lookup ∷ entries.Executed 0 the_lookup (the_found dir) ∷ entries.Delivered r.looked ∷ entries.Sent r.question ∷ entries.Executed 1 the_question (the_state attr) ∷ entries.Delivered r.state ∷ entries.Answered 0 1 (Done (Attrs attr)) ∷ entries.Clock 6 ∷ []) s12
  r17 = enters (entries.Clock 5 ∷ entries.Began 0 1 (ops.Stat the_path) ∷ entries.Sent r.lookup ∷ entries.Executed 0 the_lookup (the_found dir) ∷ entries.Delivered r.looked ∷ entries.Sent r.question ∷ entries.Executed 1 the_question (the_state attr) ∷ entries.Delivered r.state ∷ entries.Answered 0 1 (Done (Attrs attr)) ∷ entries.Clock 6 ∷ []) s12 (entries.Clock 5 ∷ entries.Began 0 1 (ops.Stat the_path) ∷ entries.Sent r.lookup ∷ entries.Executed 0 the_lookup (the_found dir) ∷ entries.Delivered r.looked ∷ entries.Sent r.question ∷ entries.Executed 1 the_question (the_state attr) ∷ entries.Delivered r.state ∷ entries.Answered 0 1 (Done (Attrs attr)) ∷ []) s11 (entries.Clock 6) r16 refl (record { time = 6; now = refl; one = inl refl; least = omega arith; later = λ b e. low 5 b 6 (omega arith) e; others = refl })

  abbrev r18 : Reaches the_modes (Given the_root) t (entries.Clock 5 ∷ entries.Began 0 1 (ops.Stat the_path) ∷ entries.Sent r.lookup ∷ entries.Executed 0 the_lookup (the_found dir) ∷ entries.Delivered r.looked ∷ entries.Sent r.question ∷ entries.Executed 1 the_question (the_state attr) ∷ entries.Delivered r.state ∷ entries.Answered 0 1 (Done (Attrs attr)) ∷ entries.Clock 6 ∷ entries.Began 0 2 (ops.OpenFile 0 mode the_path) ∷ []) s13
  r18 = enters (entries.Clock 5 ∷ entries.Began 0 1 (ops.Stat the_path) ∷ entries.Sent r.lookup ∷ entries.Executed 0 the_lookup (the_found dir) ∷ entries.Delivered r.looked ∷ entries.Sent r.question ∷ entries.Executed 1 the_question (the_state attr) ∷ entries.Delivered r.state ∷ entries.Answered 0 1 (Done (Attrs attr)) ∷ entries.Clock 6 ∷ entries.Began 0 2 (ops.OpenFile 0 mode the_path) ∷ []) s13 (entries.Clock 5 ∷ entries.Began 0 1 (ops.Stat the_path) ∷ entries.Sent r.lookup ∷ entries.Executed 0 the_lookup (the_found dir) ∷ entries.Delivered r.looked ∷ entries.Sent r.question ∷ entries.Executed 1 the_question (the_state attr) ∷ entries.Delivered r.state ∷ entries.Answered 0 1 (Done (Attrs attr)) ∷ entries.Clock 6 ∷ []) s12 (entries.Began 0 2 (ops.OpenFile 0 mode the_path)) r17 refl (inr (record { root = the_root; time = 6; rooted = refl; timed = refl; spots = adds_put walk_eq walk_same s12.spots (record { op = 10; path = [] }) the_root; others = refl }))

  abbrev r19 : Reaches the_modes (Given the_root) t (entries.Clock 5 ∷ entries.Began 0 1 (ops.Stat the_path) ∷ entries.Sent r.lookup ∷ entries.Executed 0 the_lookup (the_found dir) ∷ entries.Delivered r.looked ∷ entries.Sent r.question ∷ entries.Executed 1 the_question (the_state attr) ∷ entries.Delivered r.state ∷ entries.Answered 0 1 (Done (Attrs attr)) ∷ entries.Clock 6 ∷ entries.Began 0 2 (ops.OpenFile 0 mode the_path) ∷ []) s14
  r19 = moves (entries.Clock 5 ∷ entries.Began 0 1 (ops.Stat the_path) ∷ entries.Sent r.lookup ∷ entries.Executed 0 the_lookup (the_found dir) ∷ entries.Delivered r.looked ∷ entries.Sent r.question ∷ entries.Executed 1 the_question (the_state attr) ∷ entries.Delivered r.state ∷ entries.Answered 0 1 (Done (Attrs attr)) ∷ entries.Clock 6 ∷ entries.Began 0 2 (ops.OpenFile 0 mode the_path) ∷ []) s14 s13 r18 (makes_call (record { makes = record { call = the_lookup; next = refl; waits = adds_put eqb eqb-true nothing 2 (record { call = the_lookup; at = 11; time = Some 6 }); taken = refl }; others = refl }))

  abbrev r20 : Reaches the_modes (Given the_root) t (entries.Clock 5 ∷ entries.Began 0 1 (ops.Stat the_path) ∷ entries.Sent r.lookup ∷ entries.Executed 0 the_lookup (the_found dir) ∷ entries.Delivered r.looked ∷ entries.Sent r.question ∷ entries.Executed 1 the_question (the_state attr) ∷ entries.Delivered r.state ∷ entries.Answered 0 1 (Done (Attrs attr)) ∷ entries.Clock 6 ∷ entries.Began 0 2 (ops.OpenFile 0 mode the_path) ∷ entries.Sent r.again ∷ []) s14
  r20 = enters (entries.Clock 5 ∷ entries.Began 0 1 (ops.Stat the_path) ∷ entries.Sent r.lookup ∷ entries.Executed 0 the_lookup (the_found dir) ∷ entries.Delivered r.looked ∷ entries.Sent r.question ∷ entries.Executed 1 the_question (the_state attr) ∷ entries.Delivered r.state ∷ entries.Answered 0 1 (Done (Attrs attr)) ∷ entries.Clock 6 ∷ entries.Began 0 2 (ops.OpenFile 0 mode the_path) ∷ entries.Sent r.again ∷ []) s14 (entries.Clock 5 ∷ entries.Began 0 1 (ops.Stat the_path) ∷ entries.Sent r.lookup ∷ entries.Executed 0 the_lookup (the_found dir) ∷ entries.Delivered r.looked ∷ entries.Sent r.question ∷ entries.Executed 1 the_question (the_state attr) ∷ entries.Delivered r.state ∷ entries.Answered 0 1 (Done (Attrs attr)) ∷ entries.Clock 6 ∷ entries.Began 0 2 (ops.OpenFile 0 mode the_path) ∷ []) s14 (entries.Sent r.again) r19 refl (record { goes = (refl, record { x = 2; made = (record { call = the_lookup; at = 11; time = Some 6 }); waits = refl; under = r.again_is.under; spells = r.again_is.spells; alone = r.again_is.alone }); others = refl })

  abbrev r21 : Reaches the_modes (Given the_root) t (entries.Clock 5 ∷ entries.Began 0 1 (ops.Stat the_path) ∷ entries.Sent r.lookup ∷ entries.Executed 0 the_lookup (the_found dir) ∷ entries.Delivered r.looked ∷ entries.Sent r.question ∷ entries.Executed 1 the_question (the_state attr) ∷ entries.Delivered r.state ∷ entries.Answered 0 1 (Done (Attrs attr)) ∷ entries.Clock 6 ∷ entries.Began 0 2 (ops.OpenFile 0 mode the_path) ∷ entries.Sent r.again ∷ entries.Executed 2 the_lookup (the_found dir) ∷ []) s14
  r21 = enters (entries.Clock 5 ∷ entries.Began 0 1 (ops.Stat the_path) ∷ entries.Sent r.lookup ∷ entries.Executed 0 the_lookup (the_found dir) ∷ entries.Delivered r.looked ∷ entries.Sent r.question ∷ entries.Executed 1 the_question (the_state attr) ∷ entries.Delivered r.state ∷ entries.Answered 0 1 (Done (Attrs attr)) ∷ entries.Clock 6 ∷ entries.Began 0 2 (ops.OpenFile 0 mode the_path) ∷ entries.Sent r.again ∷ entries.Executed 2 the_lookup (the_found dir) ∷ []) s14 (entries.Clock 5 ∷ entries.Began 0 1 (ops.Stat the_path) ∷ entries.Sent r.lookup ∷ entries.Executed 0 the_lookup (the_found dir) ∷ entries.Delivered r.looked ∷ entries.Sent r.question ∷ entries.Executed 1 the_question (the_state attr) ∷ entries.Delivered r.state ∷ entries.Answered 0 1 (Done (Attrs attr)) ∷ entries.Clock 6 ∷ entries.Began 0 2 (ops.OpenFile 0 mode the_path) ∷ entries.Sent r.again ∷ []) s14 (entries.Executed 2 the_lookup (the_found dir)) r20 refl (refl)

  abbrev r22 : Reaches the_modes (Given the_root) t (entries.Clock 5 ∷ entries.Began 0 1 (ops.Stat the_path) ∷ entries.Sent r.lookup ∷ entries.Executed 0 the_lookup (the_found dir) ∷ entries.Delivered r.looked ∷ entries.Sent r.question ∷ entries.Executed 1 the_question (the_state attr) ∷ entries.Delivered r.state ∷ entries.Answered 0 1 (Done (Attrs attr)) ∷ entries.Clock 6 ∷ entries.Began 0 2 (ops.OpenFile 0 mode the_path) ∷ entries.Sent r.again ∷ entries.Executed 2 the_lookup (the_found dir) ∷ entries.Delivered r.found_again ∷ []) s15
  r22 = enters (entries.Clock 5 ∷ entries.Began 0 1 (ops.Stat the_path) ∷ entries.Sent r.lookup ∷ entries.Executed 0 the_lookup (the_found dir) ∷ entries.Delivered r.looked ∷ entries.Sent r.question ∷ entries.Executed 1 the_question (the_state attr) ∷ entries.Delivered r.state ∷ entries.Answered 0 1 (Done (Attrs attr)) ∷ entries.Clock 6 ∷ entries.Began 0 2 (ops.OpenFile 0 mode the_path) ∷ entries.Sent r.again ∷ entries.Executed 2 the_lookup (the_found dir) ∷ entries.Delivered r.found_again ∷ []) s15 (entries.Clock 5 ∷ entries.Began 0 1 (ops.Stat the_path) ∷ entries.Sent r.lookup ∷ entries.Executed 0 the_lookup (the_found dir) ∷ entries.Delivered r.looked ∷ entries.Sent r.question ∷ entries.Executed 1 the_question (the_state attr) ∷ entries.Delivered r.state ∷ entries.Answered 0 1 (Done (Attrs attr)) ∷ entries.Clock 6 ∷ entries.Began 0 2 (ops.OpenFile 0 mode the_path) ∷ entries.Sent r.again ∷ entries.Executed 2 the_lookup (the_found dir) ∷ []) s14 (entries.Delivered r.found_again) r21 refl (record { goes = inr (record { x = 2; made = (record { call = the_lookup; at = 11; time = Some 6 }); reply = (the_found dir); waits = refl; under = r.found_again_is.under; spells = r.found_again_is.spells; alone = r.found_again_is.alone; next = refl; gone = refl; fewer = λ z w e. absurd (none_some w e); taken = adds_put eqb eqb-true s14.calls.taken 2 (record { call = the_lookup; at = 11; time = Some 6; reply = (the_found dir); came = 13 }) }); others = refl })

  abbrev r23 : Reaches the_modes (Given the_root) t (entries.Clock 5 ∷ entries.Began 0 1 (ops.Stat the_path) ∷ entries.Sent r.lookup ∷ entries.Executed 0 the_lookup (the_found dir) ∷ entries.Delivered r.looked ∷ entries.Sent r.question ∷ entries.Executed 1 the_question (the_state attr) ∷ entries.Delivered r.state ∷ entries.Answered 0 1 (Done (Attrs attr)) ∷ entries.Clock 6 ∷ entries.Began 0 2 (ops.OpenFile 0 mode the_path) ∷ entries.Sent r.again ∷ entries.Executed 2 the_lookup (the_found dir) ∷ entries.Delivered r.found_again ∷ []) s16
  r23 = moves (entries.Clock 5 ∷ entries.Began 0 1 (ops.Stat the_path) ∷ entries.Sent r.lookup ∷ entries.Executed 0 the_lookup (the_found dir) ∷ entries.Delivered r.looked ∷ entries.Sent r.question ∷ entries.Executed 1 the_question (the_state attr) ∷ entries.Delivered r.state ∷ entries.Answered 0 1 (Done (Attrs attr)) ∷ entries.Clock 6 ∷ entries.Began 0 2 (ops.OpenFile 0 mode the_path) ∷ entries.Sent r.again ∷ entries.Executed 2 the_lookup (the_found dir) ∷ entries.Delivered r.found_again ∷ []) s16 s15 r22 (finds_file (record { op = 10; earlier = []; d = the_root; name = the_name; f = the_file; call = the_lookup; reply = the_found dir; stands = refl; came = (record { xid = 2; at = 11; time = Some 6; place = 13; is = refl }); own = omega arith; gives = (by_lookup None (Some dir) refl refl); found = adds_put walk_eq walk_same s15.found (record { op = 10; path = the_path }) the_file; others = refl }))

  abbrev r24 : Reaches the_modes (Given the_root) t (entries.Clock 5 ∷ entries.Began 0 1 (ops.Stat the_path) ∷ entries.Sent r.lookup ∷ entries.Executed 0 the_lookup (the_found dir) ∷ entries.Delivered r.looked ∷ entries.Sent r.question ∷ entries.Executed 1 the_question (the_state attr) ∷ entries.Delivered r.state ∷ entries.Answered 0 1 (Done (Attrs attr)) ∷ entries.Clock 6 ∷ entries.Began 0 2 (ops.OpenFile 0 mode the_path) ∷ entries.Sent r.again ∷ entries.Executed 2 the_lookup (the_found dir) ∷ entries.Delivered r.found_again ∷ entries.Answered 0 2 (Done Nothing) ∷ []) s16
  r24 = enters (entries.Clock 5 ∷ entries.Began 0 1 (ops.Stat the_path) ∷ entries.Sent r.lookup ∷ entries.Executed 0 the_lookup (the_found dir) ∷ entries.Delivered r.looked ∷ entries.Sent r.question ∷ entries.Executed 1 the_question (the_state attr) ∷ entries.Delivered r.state ∷ entries.Answered 0 1 (Done (Attrs attr)) ∷ entries.Clock 6 ∷ entries.Began 0 2 (ops.OpenFile 0 mode the_path) ∷ entries.Sent r.again ∷ entries.Executed 2 the_lookup (the_found dir) ∷ entries.Delivered r.found_again ∷ entries.Answered 0 2 (Done Nothing) ∷ []) s16 (entries.Clock 5 ∷ entries.Began 0 1 (ops.Stat the_path) ∷ entries.Sent r.lookup ∷ entries.Executed 0 the_lookup (the_found dir) ∷ entries.Delivered r.looked ∷ entries.Sent r.question ∷ entries.Executed 1 the_question (the_state attr) ∷ entries.Delivered r.state ∷ entries.Answered 0 1 (Done (Attrs attr)) ∷ entries.Clock 6 ∷ entries.Began 0 2 (ops.OpenFile 0 mode the_path) ∷ entries.Sent r.again ∷ entries.Executed 2 the_lookup (the_found dir) ∷ entries.Delivered r.found_again ∷ []) s16 (entries.Answered 0 2 (Done Nothing)) r23 refl (record { same = refl; opened = λ op slot other path value is ended. record { f = the_file; found = found_is s16.found 10 op path the_path the_file ((line_two op ended.line _ (begun_as op 0 ended.line _ ended.began) (sym (line_is 2 ended.line 0 0 _ _ ended.answered))).0) (open_path slot mode other path (line_two op ended.line _ (begun_as op 0 ended.line _ ended.began) (sym (line_is 2 ended.line 0 0 _ _ ended.answered))).1) refl; call = the_lookup; reply = the_found dir; last = record { came = (record { xid = 2; at = 11; time = Some 6; place = 13; is = refl }); last = λ j b at low high. absurd (omega (arith, low, high)) }; ends = by_giving the_root the_name (by_lookup None (Some dir) refl refl) }; put = λ op offset path bytes value is ended. absurd (put_open mode path offset bytes (line_two op ended.line _ (begun_as op 0 ended.line _ ended.began) (sym (line_is 2 ended.line 0 0 _ _ ended.answered))).1); shown = λ op path other is ended. absurd (nothing_attrs other is); listed = λ op path names is ended. absurd (nothing_names names is) })

  abbrev r25 : Reaches the_modes (Given the_root) t (entries.Clock 5 ∷ entries.Began 0 1 (ops.Stat the_path) ∷ entries.Sent r.lookup ∷ entries.Executed 0 the_lookup (the_found dir) ∷ entries.Delivered r.looked ∷ entries.Sent r.question ∷ entries.Executed 1 the_question (the_state attr) ∷ entries.Delivered r.state ∷ entries.Answered 0 1 (Done (Attrs attr)) ∷ entries.Clock 6 ∷ entries.Began 0 2 (ops.OpenFile 0 mode the_path) ∷ entries.Sent r.again ∷ entries.Executed 2 the_lookup (the_found dir) ∷ entries.Delivered r.found_again ∷ entries.Answered 0 2 (Done Nothing) ∷ entries.Clock 7 ∷ []) s17
  r25 = enters (entries.Clock 5 ∷ entries.Began 0 1 (ops.Stat the_path) ∷ entries.Sent r.lookup ∷ entries.Executed 0 the_lookup (the_found dir) ∷ entries.Delivered r.looked ∷ entries.Sent r.question ∷ entries.Executed 1 the_question (the_state attr) ∷ entries.Delivered r.state ∷ entries.Answered 0 1 (Done (Attrs attr)) ∷ entries.Clock 6 ∷ entries.Began 0 2 (ops.OpenFile 0 mode the_path) ∷ entries.Sent r.again ∷ entries.Executed 2 the_lookup (the_found dir) ∷ entries.Delivered r.found_again ∷ entries.Answered 0 2 (Done Nothing) ∷ entries.Clock 7 ∷ []) s17 (entries.Clock 5 ∷ entries.Began 0 1 (ops.Stat the_path) ∷ entries.Sent r.lookup ∷ entries.Executed 0 the_lookup (the_found dir) ∷ entries.Delivered r.looked ∷ entries.Sent r.question ∷ entries.Executed 1 the_question (the_state attr) ∷ entries.Delivered r.state ∷ entries.Answered 0 1 (Done (Attrs attr)) ∷ entries.Clock 6 ∷ entries.Began 0 2 (ops.OpenFile 0 mode the_path) ∷ entries.Sent r.again ∷ entries.Executed 2 the_lookup (the_found dir) ∷ entries.Delivered r.found_again ∷ entries.Answered 0 2 (Done Nothing) ∷ []) s16 (entries.Clock 7) r24 refl (record { time = 7; now = refl; one = inl refl; least = omega arith; later = λ b e. low 6 b 7 (omega arith) e; others = refl })

  abbrev r26 : Reaches the_modes (Given the_root) t (entries.Clock 5 ∷ entries.Began 0 1 (ops.Stat the_path) ∷ entries.Sent r.lookup ∷ entries.Executed 0 the_lookup (the_found dir) ∷ entries.Delivered r.looked ∷ entries.Sent r.question ∷ entries.Executed 1 the_question (the_state attr) ∷ entries.Delivered r.state ∷ entries.Answered 0 1 (Done (Attrs attr)) ∷ entries.Clock 6 ∷ entries.Began 0 2 (ops.OpenFile 0 mode the_path) ∷ entries.Sent r.again ∷ entries.Executed 2 the_lookup (the_found dir) ∷ entries.Delivered r.found_again ∷ entries.Answered 0 2 (Done Nothing) ∷ entries.Clock 7 ∷ entries.Began 0 3 (ops.Stat the_path) ∷ []) s18
  r26 = enters (entries.Clock 5 ∷ entries.Began 0 1 (ops.Stat the_path) ∷ entries.Sent r.lookup ∷ entries.Executed 0 the_lookup (the_found dir) ∷ entries.Delivered r.looked ∷ entries.Sent r.question ∷ entries.Executed 1 the_question (the_state attr) ∷ entries.Delivered r.state ∷ entries.Answered 0 1 (Done (Attrs attr)) ∷ entries.Clock 6 ∷ entries.Began 0 2 (ops.OpenFile 0 mode the_path) ∷ entries.Sent r.again ∷ entries.Executed 2 the_lookup (the_found dir) ∷ entries.Delivered r.found_again ∷ entries.Answered 0 2 (Done Nothing) ∷ entries.Clock 7 ∷ entries.Began 0 3 (ops.Stat the_path) ∷ []) s18 (entries.Clock 5 ∷ entries.Began 0 1 (ops.Stat the_path) ∷ entries.Sent r.lookup ∷ entries.Executed 0 the_lookup (the_found dir) ∷ entries.Delivered r.looked ∷ entries.Sent r.question ∷ entries.Executed 1 the_question (the_state attr) ∷ entries.Delivered r.state ∷ entries.Answered 0 1 (Done (Attrs attr)) ∷ entries.Clock 6 ∷ entries.Began 0 2 (ops.OpenFile 0 mode the_path) ∷ entries.Sent r.again ∷ entries.Executed 2 the_lookup (the_found dir) ∷ entries.Delivered r.found_again ∷ entries.Answered 0 2 (Done Nothing) ∷ entries.Clock 7 ∷ []) s17 (entries.Began 0 3 (ops.Stat the_path)) r25 refl (inr (record { root = the_root; time = 7; rooted = refl; timed = refl; spots = adds_put walk_eq walk_same s17.spots (record { op = 16; path = [] }) the_root; others = refl }))

  abbrev r27 : Reaches the_modes (Given the_root) t (entries.Clock 5 ∷ entries.Began 0 1 (ops.Stat the_path) ∷ entries.Sent r.lookup ∷ entries.Executed 0 the_lookup (the_found dir) ∷ entries.Delivered r.looked ∷ entries.Sent r.question ∷ entries.Executed 1 the_question (the_state attr) ∷ entries.Delivered r.state ∷ entries.Answered 0 1 (Done (Attrs attr)) ∷ entries.Clock 6 ∷ entries.Began 0 2 (ops.OpenFile 0 mode the_path) ∷ entries.Sent r.again ∷ entries.Executed 2 the_lookup (the_found dir) ∷ entries.Delivered r.found_again ∷ entries.Answered 0 2 (Done Nothing) ∷ entries.Clock 7 ∷ entries.Began 0 3 (ops.Stat the_path) ∷ []) s19
  r27 = moves (entries.Clock 5 ∷ entries.Began 0 1 (ops.Stat the_path) ∷ entries.Sent r.lookup ∷ entries.Executed 0 the_lookup (the_found dir) ∷ entries.Delivered r.looked ∷ entries.Sent r.question ∷ entries.Executed 1 the_question (the_state attr) ∷ entries.Delivered r.state ∷ entries.Answered 0 1 (Done (Attrs attr)) ∷ entries.Clock 6 ∷ entries.Began 0 2 (ops.OpenFile 0 mode the_path) ∷ entries.Sent r.again ∷ entries.Executed 2 the_lookup (the_found dir) ∷ entries.Delivered r.found_again ∷ entries.Answered 0 2 (Done Nothing) ∷ entries.Clock 7 ∷ entries.Began 0 3 (ops.Stat the_path) ∷ []) s19 s18 r26 (goes_by_name (record { op = 16; d = the_root; name = the_name; object = the_file; known = (record { attr = dir; sent = 5; lifetime = 30000 }); goes = (record { earlier = []; stands = refl; spots = adds_put walk_eq walk_same s18.spots (record { op = 16; path = the_path }) the_file; others = refl }); believes = record { time = 7; is = refl; now = refl; young = omega arith }; named = refl }))

  abbrev r28 : Reaches the_modes (Given the_root) t (entries.Clock 5 ∷ entries.Began 0 1 (ops.Stat the_path) ∷ entries.Sent r.lookup ∷ entries.Executed 0 the_lookup (the_found dir) ∷ entries.Delivered r.looked ∷ entries.Sent r.question ∷ entries.Executed 1 the_question (the_state attr) ∷ entries.Delivered r.state ∷ entries.Answered 0 1 (Done (Attrs attr)) ∷ entries.Clock 6 ∷ entries.Began 0 2 (ops.OpenFile 0 mode the_path) ∷ entries.Sent r.again ∷ entries.Executed 2 the_lookup (the_found dir) ∷ entries.Delivered r.found_again ∷ entries.Answered 0 2 (Done Nothing) ∷ entries.Clock 7 ∷ entries.Began 0 3 (ops.Stat the_path) ∷ []) s20
  r28 = moves (entries.Clock 5 ∷ entries.Began 0 1 (ops.Stat the_path) ∷ entries.Sent r.lookup ∷ entries.Executed 0 the_lookup (the_found dir) ∷ entries.Delivered r.looked ∷ entries.Sent r.question ∷ entries.Executed 1 the_question (the_state attr) ∷ entries.Delivered r.state ∷ entries.Answered 0 1 (Done (Attrs attr)) ∷ entries.Clock 6 ∷ entries.Began 0 2 (ops.OpenFile 0 mode the_path) ∷ entries.Sent r.again ∷ entries.Executed 2 the_lookup (the_found dir) ∷ entries.Delivered r.found_again ∷ entries.Answered 0 2 (Done Nothing) ∷ entries.Clock 7 ∷ entries.Began 0 3 (ops.Stat the_path) ∷ []) s20 s19 r27 (shows_object (record { op = 16; path = the_path; object = the_file; attr = attr; stands = refl; knows = believed (record { attr = attr; sent = 5; lifetime = 30000 }) (record { time = 7; is = refl; now = refl; young = omega arith }) refl; shown = adds_put walk_eq walk_same s19.shown (record { op = 16; path = the_path }) attr; others = refl }))

  abbrev r29 : Reaches the_modes (Given the_root) t (entries.Clock 5 ∷ entries.Began 0 1 (ops.Stat the_path) ∷ entries.Sent r.lookup ∷ entries.Executed 0 the_lookup (the_found dir) ∷ entries.Delivered r.looked ∷ entries.Sent r.question ∷ entries.Executed 1 the_question (the_state attr) ∷ entries.Delivered r.state ∷ entries.Answered 0 1 (Done (Attrs attr)) ∷ entries.Clock 6 ∷ entries.Began 0 2 (ops.OpenFile 0 mode the_path) ∷ entries.Sent r.again ∷ entries.Executed 2 the_lookup (the_found dir) ∷ entries.Delivered r.found_again ∷ entries.Answered 0 2 (Done Nothing) ∷ entries.Clock 7 ∷ entries.Began 0 3 (ops.Stat the_path) ∷ entries.Answered 0 3 (Done (Attrs attr)) ∷ []) s20
  r29 = enters (entries.Clock 5 ∷ entries.Began 0 1 (ops.Stat the_path) ∷ entries.Sent r.lookup ∷ entries.Executed 0 the_lookup (the_found dir) ∷ entries.Delivered r.looked ∷ entries.Sent r.question ∷ entries.Executed 1 the_question (the_state attr) ∷ entries.Delivered r.state ∷ entries.Answered 0 1 (Done (Attrs attr)) ∷ entries.Clock 6 ∷ entries.Began 0 2 (ops.OpenFile 0 mode the_path) ∷ entries.Sent r.again ∷ entries.Executed 2 the_lookup (the_found dir) ∷ entries.Delivered r.found_again ∷ entries.Answered 0 2 (Done Nothing) ∷ entries.Clock 7 ∷ entries.Began 0 3 (ops.Stat the_path) ∷ entries.Answered 0 3 (Done (Attrs attr)) ∷ []) s20 (entries.Clock 5 ∷ entries.Began 0 1 (ops.Stat the_path) ∷ entries.Sent r.lookup ∷ entries.Executed 0 the_lookup (the_found dir) ∷ entries.Delivered r.looked ∷ entries.Sent r.question ∷ entries.Executed 1 the_question (the_state attr) ∷ entries.Delivered r.state ∷ entries.Answered 0 1 (Done (Attrs attr)) ∷ entries.Clock 6 ∷ entries.Began 0 2 (ops.OpenFile 0 mode the_path) ∷ entries.Sent r.again ∷ entries.Executed 2 the_lookup (the_found dir) ∷ entries.Delivered r.found_again ∷ entries.Answered 0 2 (Done Nothing) ∷ entries.Clock 7 ∷ entries.Began 0 3 (ops.Stat the_path) ∷ []) s20 (entries.Answered 0 3 (Done (Attrs attr))) r28 refl (record { same = refl; opened = λ op slot other path value is ended. absurd (open_stat slot other path (line_three op ended.line _ (begun_as op 0 ended.line _ ended.began) (sym (line_is 3 ended.line 0 0 _ _ ended.answered))).1); put = λ op offset path bytes value is ended. absurd (put_stat path offset bytes (line_three op ended.line _ (begun_as op 0 ended.line _ ended.began) (sym (line_is 3 ended.line 0 0 _ _ ended.answered))).1); shown = λ op path other is ended. found_is s20.shown 16 op path the_path other ((line_three op ended.line _ (begun_as op 0 ended.line _ ended.began) (sym (line_is 3 ended.line 0 0 _ _ ended.answered))).0) (path_is path (line_three op ended.line _ (begun_as op 0 ended.line _ ended.began) (sym (line_is 3 ended.line 0 0 _ _ ended.answered))).1) (ap Some (attrs_are other is)); listed = λ op path names is ended. absurd (attrs_names names is) })

  abbrev r30 : Reaches the_modes (Given the_root) t (entries.Clock 5 ∷ entries.Began 0 1 (ops.Stat the_path) ∷ entries.Sent r.lookup ∷ entries.Executed 0 the_lookup (the_found dir) ∷ entries.Delivered r.looked ∷ entries.Sent r.question ∷ entries.Executed 1 the_question (the_state attr) ∷ entries.Delivered r.state ∷ entries.Answered 0 1 (Done (Attrs attr)) ∷ entries.Clock 6 ∷ entries.Began 0 2 (ops.OpenFile 0 mode the_path) ∷ entries.Sent r.again ∷ entries.Executed 2 the_lookup (the_found dir) ∷ entries.Delivered r.found_again ∷ entries.Answered 0 2 (Done Nothing) ∷ entries.Clock 7 ∷ entries.Began 0 3 (ops.Stat the_path) ∷ entries.Answered 0 3 (Done (Attrs attr)) ∷ entries.Clock 8 ∷ []) s21
  r30 = enters (entries.Clock 5 ∷ entries.Began 0 1 (ops.Stat the_path) ∷ entries.Sent r.lookup ∷ entries.Executed 0 the_lookup (the_found dir) ∷ entries.Delivered r.looked ∷ entries.Sent r.question ∷ entries.Executed 1 the_question (the_state attr) ∷ entries.Delivered r.state ∷ entries.Answered 0 1 (Done (Attrs attr)) ∷ entries.Clock 6 ∷ entries.Began 0 2 (ops.OpenFile 0 mode the_path) ∷ entries.Sent r.again ∷ entries.Executed 2 the_lookup (the_found dir) ∷ entries.Delivered r.found_again ∷ entries.Answered 0 2 (Done Nothing) ∷ entries.Clock 7 ∷ entries.Began 0 3 (ops.Stat the_path) ∷ entries.Answered 0 3 (Done (Attrs attr)) ∷ entries.Clock 8 ∷ []) s21 (entries.Clock 5 ∷ entries.Began 0 1 (ops.Stat the_path) ∷ entries.Sent r.lookup ∷ entries.Executed 0 the_lookup (the_found dir) ∷ entries.Delivered r.looked ∷ entries.Sent r.question ∷ entries.Executed 1 the_question (the_state attr) ∷ entries.Delivered r.state ∷ entries.Answered 0 1 (Done (Attrs attr)) ∷ entries.Clock 6 ∷ entries.Began 0 2 (ops.OpenFile 0 mode the_path) ∷ entries.Sent r.again ∷ entries.Executed 2 the_lookup (the_found dir) ∷ entries.Delivered r.found_again ∷ entries.Answered 0 2 (Done Nothing) ∷ entries.Clock 7 ∷ entries.Began 0 3 (ops.Stat the_path) ∷ entries.Answered 0 3 (Done (Attrs attr)) ∷ []) s20 (entries.Clock 8) r29 refl (record { time = 8; now = refl; one = inl refl; least = omega arith; later = λ b e. low 7 b 8 (omega arith) e; others = refl })

  abbrev r31 : Reaches the_modes (Given the_root) t (entries.Clock 5 ∷ entries.Began 0 1 (ops.Stat the_path) ∷ entries.Sent r.lookup ∷ entries.Executed 0 the_lookup (the_found dir) ∷ entries.Delivered r.looked ∷ entries.Sent r.question ∷ entries.Executed 1 the_question (the_state attr) ∷ entries.Delivered r.state ∷ entries.Answered 0 1 (Done (Attrs attr)) ∷ entries.Clock 6 ∷ entries.Began 0 2 (ops.OpenFile 0 mode the_path) ∷ entries.Sent r.again ∷ entries.Executed 2 the_lookup (the_found dir) ∷ entries.Delivered r.found_again ∷ entries.Answered 0 2 (Done Nothing) ∷ entries.Clock 7 ∷ entries.Began 0 3 (ops.Stat the_path) ∷ entries.Answered 0 3 (Done (Attrs attr)) ∷ entries.Clock 8 ∷ entries.Began 0 4 (ops.List []) ∷ []) s22
  r31 = enters (entries.Clock 5 ∷ entries.Began 0 1 (ops.Stat the_path) ∷ entries.Sent r.lookup ∷ entries.Executed 0 the_lookup (the_found dir) ∷ entries.Delivered r.looked ∷ entries.Sent r.question ∷ entries.Executed 1 the_question (the_state attr) ∷ entries.Delivered r.state ∷ entries.Answered 0 1 (Done (Attrs attr)) ∷ entries.Clock 6 ∷ entries.Began 0 2 (ops.OpenFile 0 mode the_path) ∷ entries.Sent r.again ∷ entries.Executed 2 the_lookup (the_found dir) ∷ entries.Delivered r.found_again ∷ entries.Answered 0 2 (Done Nothing) ∷ entries.Clock 7 ∷ entries.Began 0 3 (ops.Stat the_path) ∷ entries.Answered 0 3 (Done (Attrs attr)) ∷ entries.Clock 8 ∷ entries.Began 0 4 (ops.List []) ∷ []) s22 (entries.Clock 5 ∷ entries.Began 0 1 (ops.Stat the_path) ∷ entries.Sent r.lookup ∷ entries.Executed 0 the_lookup (the_found dir) ∷ entries.Delivered r.looked ∷ entries.Sent r.question ∷ entries.Executed 1 the_question (the_state attr) ∷ entries.Delivered r.state ∷ entries.Answered 0 1 (Done (Attrs attr)) ∷ entries.Clock 6 ∷ entries.Began 0 2 (ops.OpenFile 0 mode the_path) ∷ entries.Sent r.again ∷ entries.Executed 2 the_lookup (the_found dir) ∷ entries.Delivered r.found_again ∷ entries.Answered 0 2 (Done Nothing) ∷ entries.Clock 7 ∷ entries.Began 0 3 (ops.Stat the_path) ∷ entries.Answered 0 3 (Done (Attrs attr)) ∷ entries.Clock 8 ∷ []) s21 (entries.Began 0 4 (ops.List [])) r30 refl (inr (record { root = the_root; time = 8; rooted = refl; timed = refl; spots = adds_put walk_eq walk_same s21.spots (record { op = 19; path = [] }) the_root; others = refl }))

  abbrev r32 : Reaches the_modes (Given the_root) t (entries.Clock 5 ∷ entries.Began 0 1 (ops.Stat the_path) ∷ entries.Sent r.lookup ∷ entries.Executed 0 the_lookup (the_found dir) ∷ entries.Delivered r.looked ∷ entries.Sent r.question ∷ entries.Executed 1 the_question (the_state attr) ∷ entries.Delivered r.state ∷ entries.Answered 0 1 (Done (Attrs attr)) ∷ entries.Clock 6 ∷ entries.Began 0 2 (ops.OpenFile 0 mode the_path) ∷ entries.Sent r.again ∷ entries.Executed 2 the_lookup (the_found dir) ∷ entries.Delivered r.found_again ∷ entries.Answered 0 2 (Done Nothing) ∷ entries.Clock 7 ∷ entries.Began 0 3 (ops.Stat the_path) ∷ entries.Answered 0 3 (Done (Attrs attr)) ∷ entries.Clock 8 ∷ entries.Began 0 4 (ops.List []) ∷ []) s23
  r32 = moves (entries.Clock 5 ∷ entries.Began 0 1 (ops.Stat the_path) ∷ entries.Sent r.lookup ∷ entries.Executed 0 the_lookup (the_found dir) ∷ entries.Delivered r.looked ∷ entries.Sent r.question ∷ entries.Executed 1 the_question (the_state attr) ∷ entries.Delivered r.state ∷ entries.Answered 0 1 (Done (Attrs attr)) ∷ entries.Clock 6 ∷ entries.Began 0 2 (ops.OpenFile 0 mode the_path) ∷ entries.Sent r.again ∷ entries.Executed 2 the_lookup (the_found dir) ∷ entries.Delivered r.found_again ∷ entries.Answered 0 2 (Done Nothing) ∷ entries.Clock 7 ∷ entries.Began 0 3 (ops.Stat the_path) ∷ entries.Answered 0 3 (Done (Attrs attr)) ∷ entries.Clock 8 ∷ entries.Began 0 4 (ops.List []) ∷ []) s23 s22 r31 (begins_list (record { op = 19; path = []; d = the_root; stands = refl; lists = adds_put walk_eq walk_same s22.lists (record { op = 19; path = [] }) (record { dir = the_root; cookie = 0; names = []; since = 19; ended = false }); others = refl }))

  abbrev r33 : Reaches the_modes (Given the_root) t (entries.Clock 5 ∷ entries.Began 0 1 (ops.Stat the_path) ∷ entries.Sent r.lookup ∷ entries.Executed 0 the_lookup (the_found dir) ∷ entries.Delivered r.looked ∷ entries.Sent r.question ∷ entries.Executed 1 the_question (the_state attr) ∷ entries.Delivered r.state ∷ entries.Answered 0 1 (Done (Attrs attr)) ∷ entries.Clock 6 ∷ entries.Began 0 2 (ops.OpenFile 0 mode the_path) ∷ entries.Sent r.again ∷ entries.Executed 2 the_lookup (the_found dir) ∷ entries.Delivered r.found_again ∷ entries.Answered 0 2 (Done Nothing) ∷ entries.Clock 7 ∷ entries.Began 0 3 (ops.Stat the_path) ∷ entries.Answered 0 3 (Done (Attrs attr)) ∷ entries.Clock 8 ∷ entries.Began 0 4 (ops.List []) ∷ []) s24
  r33 = moves (entries.Clock 5 ∷ entries.Began 0 1 (ops.Stat the_path) ∷ entries.Sent r.lookup ∷ entries.Executed 0 the_lookup (the_found dir) ∷ entries.Delivered r.looked ∷ entries.Sent r.question ∷ entries.Executed 1 the_question (the_state attr) ∷ entries.Delivered r.state ∷ entries.Answered 0 1 (Done (Attrs attr)) ∷ entries.Clock 6 ∷ entries.Began 0 2 (ops.OpenFile 0 mode the_path) ∷ entries.Sent r.again ∷ entries.Executed 2 the_lookup (the_found dir) ∷ entries.Delivered r.found_again ∷ entries.Answered 0 2 (Done Nothing) ∷ entries.Clock 7 ∷ entries.Began 0 3 (ops.Stat the_path) ∷ entries.Answered 0 3 (Done (Attrs attr)) ∷ entries.Clock 8 ∷ entries.Began 0 4 (ops.List []) ∷ []) s24 s23 r32 (makes_call (record { makes = record { call = (list_call the_root 0 zero_verf); next = refl; waits = adds_put eqb eqb-true nothing 3 (record { call = (list_call the_root 0 zero_verf); at = 20; time = Some 8 }); taken = refl }; others = refl }))

  abbrev r34 : Reaches the_modes (Given the_root) t (entries.Clock 5 ∷ entries.Began 0 1 (ops.Stat the_path) ∷ entries.Sent r.lookup ∷ entries.Executed 0 the_lookup (the_found dir) ∷ entries.Delivered r.looked ∷ entries.Sent r.question ∷ entries.Executed 1 the_question (the_state attr) ∷ entries.Delivered r.state ∷ entries.Answered 0 1 (Done (Attrs attr)) ∷ entries.Clock 6 ∷ entries.Began 0 2 (ops.OpenFile 0 mode the_path) ∷ entries.Sent r.again ∷ entries.Executed 2 the_lookup (the_found dir) ∷ entries.Delivered r.found_again ∷ entries.Answered 0 2 (Done Nothing) ∷ entries.Clock 7 ∷ entries.Began 0 3 (ops.Stat the_path) ∷ entries.Answered 0 3 (Done (Attrs attr)) ∷ entries.Clock 8 ∷ entries.Began 0 4 (ops.List []) ∷ entries.Sent r.list ∷ []) s24
  r34 = enters (entries.Clock 5 ∷ entries.Began 0 1 (ops.Stat the_path) ∷ entries.Sent r.lookup ∷ entries.Executed 0 the_lookup (the_found dir) ∷ entries.Delivered r.looked ∷ entries.Sent r.question ∷ entries.Executed 1 the_question (the_state attr) ∷ entries.Delivered r.state ∷ entries.Answered 0 1 (Done (Attrs attr)) ∷ entries.Clock 6 ∷ entries.Began 0 2 (ops.OpenFile 0 mode the_path) ∷ entries.Sent r.again ∷ entries.Executed 2 the_lookup (the_found dir) ∷ entries.Delivered r.found_again ∷ entries.Answered 0 2 (Done Nothing) ∷ entries.Clock 7 ∷ entries.Began 0 3 (ops.Stat the_path) ∷ entries.Answered 0 3 (Done (Attrs attr)) ∷ entries.Clock 8 ∷ entries.Began 0 4 (ops.List []) ∷ entries.Sent r.list ∷ []) s24 (entries.Clock 5 ∷ entries.Began 0 1 (ops.Stat the_path) ∷ entries.Sent r.lookup ∷ entries.Executed 0 the_lookup (the_found dir) ∷ entries.Delivered r.looked ∷ entries.Sent r.question ∷ entries.Executed 1 the_question (the_state attr) ∷ entries.Delivered r.state ∷ entries.Answered 0 1 (Done (Attrs attr)) ∷ entries.Clock 6 ∷ entries.Began 0 2 (ops.OpenFile 0 mode the_path) ∷ entries.Sent r.again ∷ entries.Executed 2 the_lookup (the_found dir) ∷ entries.Delivered r.found_again ∷ entries.Answered 0 2 (Done Nothing) ∷ entries.Clock 7 ∷ entries.Began 0 3 (ops.Stat the_path) ∷ entries.Answered 0 3 (Done (Attrs attr)) ∷ entries.Clock 8 ∷ entries.Began 0 4 (ops.List []) ∷ []) s24 (entries.Sent r.list) r33 refl (record { goes = (refl, record { x = 3; made = (record { call = (list_call the_root 0 zero_verf); at = 20; time = Some 8 }); waits = refl; under = r.list_is.under; spells = r.list_is.spells; alone = r.list_is.alone }); others = refl })

  abbrev r35 : Reaches the_modes (Given the_root) t (entries.Clock 5 ∷ entries.Began 0 1 (ops.Stat the_path) ∷ entries.Sent r.lookup ∷ entries.Executed 0 the_lookup (the_found dir) ∷ entries.Delivered r.looked ∷ entries.Sent r.question ∷ entries.Executed 1 the_question (the_state attr) ∷ entries.Delivered r.state ∷ entries.Answered 0 1 (Done (Attrs attr)) ∷ entries.Clock 6 ∷ entries.Began 0 2 (ops.OpenFile 0 mode the_path) ∷ entries.Sent r.again ∷ entries.Executed 2 the_lookup (the_found dir) ∷ entries.Delivered r.found_again ∷ entries.Answered 0 2 (Done Nothing) ∷ entries.Clock 7 ∷ entries.Began 0 3 (ops.Stat the_path) ∷ entries.Answered 0 3 (Done (Attrs attr)) ∷ entries.Clock 8 ∷ entries.Began 0 4 (ops.List []) ∷ entries.Sent r.list ∷ entries.Executed 3 (list_call the_root 0 zero_verf) the_page ∷ []) s24
  r35 = enters (entries.Clock 5 ∷ entries.Began 0 1 (ops.Stat the_path) ∷ entries.Sent r.lookup ∷ entries.Executed 0 the_lookup (the_found dir) ∷ entries.Delivered r.looked ∷ entries.Sent r.question ∷ entries.Executed 1 the_question (the_state attr) ∷ entries.Delivered r.state ∷ entries.Answered 0 1 (Done (Attrs attr)) ∷ entries.Clock 6 ∷ entries.Began 0 2 (ops.OpenFile 0 mode the_path) ∷ entries.Sent r.again ∷ entries.Executed 2 the_lookup (the_found dir) ∷ entries.Delivered r.found_again ∷ entries.Answered 0 2 (Done Nothing) ∷ entries.Clock 7 ∷ entries.Began 0 3 (ops.Stat the_path) ∷ entries.Answered 0 3 (Done (Attrs attr)) ∷ entries.Clock 8 ∷ entries.Began 0 4 (ops.List []) ∷ entries.Sent r.list ∷ entries.Executed 3 (list_call the_root 0 zero_verf) the_page ∷ []) s24 (entries.Clock 5 ∷ entries.Began 0 1 (ops.Stat the_path) ∷ entries.Sent r.lookup ∷ entries.Executed 0 the_lookup (the_found dir) ∷ entries.Delivered r.looked ∷ entries.Sent r.question ∷ entries.Executed 1 the_question (the_state attr) ∷ entries.Delivered r.state ∷ entries.Answered 0 1 (Done (Attrs attr)) ∷ entries.Clock 6 ∷ entries.Began 0 2 (ops.OpenFile 0 mode the_path) ∷ entries.Sent r.again ∷ entries.Executed 2 the_lookup (the_found dir) ∷ entries.Delivered r.found_again ∷ entries.Answered 0 2 (Done Nothing) ∷ entries.Clock 7 ∷ entries.Began 0 3 (ops.Stat the_path) ∷ entries.Answered 0 3 (Done (Attrs attr)) ∷ entries.Clock 8 ∷ entries.Began 0 4 (ops.List []) ∷ entries.Sent r.list ∷ []) s24 (entries.Executed 3 (list_call the_root 0 zero_verf) the_page) r34 refl (refl)

  abbrev r36 : Reaches the_modes (Given the_root) t (entries.Clock 5 ∷ entries.Began 0 1 (ops.Stat the_path) ∷ entries.Sent r.lookup ∷ entries.Executed 0 the_lookup (the_found dir) ∷ entries.Delivered r.looked ∷ entries.Sent r.question ∷ entries.Executed 1 the_question (the_state attr) ∷ entries.Delivered r.state ∷ entries.Answered 0 1 (Done (Attrs attr)) ∷ entries.Clock 6 ∷ entries.Began 0 2 (ops.OpenFile 0 mode the_path) ∷ entries.Sent r.again ∷ entries.Executed 2 the_lookup (the_found dir) ∷ entries.Delivered r.found_again ∷ entries.Answered 0 2 (Done Nothing) ∷ entries.Clock 7 ∷ entries.Began 0 3 (ops.Stat the_path) ∷ entries.Answered 0 3 (Done (Attrs attr)) ∷ entries.Clock 8 ∷ entries.Began 0 4 (ops.List []) ∷ entries.Sent r.list ∷ entries.Executed 3 (list_call the_root 0 zero_verf) the_page ∷ entries.Delivered r.page ∷ []) s25
  r36 = enters (entries.Clock 5 ∷ entries.Began 0 1 (ops.Stat the_path) ∷ entries.Sent r.lookup ∷ entries.Executed 0 the_lookup (the_found dir) ∷ entries.Delivered r.looked ∷ entries.Sent r.question ∷ entries.Executed 1 the_question (the_state attr) ∷ entries.Delivered r.state ∷ entries.Answered 0 1 (Done (Attrs attr)) ∷ entries.Clock 6 ∷ entries.Began 0 2 (ops.OpenFile 0 mode the_path) ∷ entries.Sent r.again ∷ entries.Executed 2 the_lookup (the_found dir) ∷ entries.Delivered r.found_again ∷ entries.Answered 0 2 (Done Nothing) ∷ entries.Clock 7 ∷ entries.Began 0 3 (ops.Stat the_path) ∷ entries.Answered 0 3 (Done (Attrs attr)) ∷ entries.Clock 8 ∷ entries.Began 0 4 (ops.List []) ∷ entries.Sent r.list ∷ entries.Executed 3 (list_call the_root 0 zero_verf) the_page ∷ entries.Delivered r.page ∷ []) s25 (entries.Clock 5 ∷ entries.Began 0 1 (ops.Stat the_path) ∷ entries.Sent r.lookup ∷ entries.Executed 0 the_lookup (the_found dir) ∷ entries.Delivered r.looked ∷ entries.Sent r.question ∷ entries.Executed 1 the_question (the_state attr) ∷ entries.Delivered r.state ∷ entries.Answered 0 1 (Done (Attrs attr)) ∷ entries.Clock 6 ∷ entries.Began 0 2 (ops.OpenFile 0 mode the_path) ∷ entries.Sent r.again ∷ entries.Executed 2 the_lookup (the_found dir) ∷ entries.Delivered r.found_again ∷ entries.Answered 0 2 (Done Nothing) ∷ entries.Clock 7 ∷ entries.Began 0 3 (ops.Stat the_path) ∷ entries.Answered 0 3 (Done (Attrs attr)) ∷ entries.Clock 8 ∷ entries.Began 0 4 (ops.List []) ∷ entries.Sent r.list ∷ entries.Executed 3 (list_call the_root 0 zero_verf) the_page ∷ []) s24 (entries.Delivered r.page) r35 refl (record { goes = inr (record { x = 3; made = (record { call = (list_call the_root 0 zero_verf); at = 20; time = Some 8 }); reply = the_page; waits = refl; under = r.page_is.under; spells = r.page_is.spells; alone = r.page_is.alone; next = refl; gone = refl; fewer = λ z w e. absurd (none_some w e); taken = adds_put eqb eqb-true s24.calls.taken 3 (record { call = (list_call the_root 0 zero_verf); at = 20; time = Some 8; reply = the_page; came = 22 }) }); others = refl })

  abbrev r37 : Reaches the_modes (Given the_root) t (entries.Clock 5 ∷ entries.Began 0 1 (ops.Stat the_path) ∷ entries.Sent r.lookup ∷ entries.Executed 0 the_lookup (the_found dir) ∷ entries.Delivered r.looked ∷ entries.Sent r.question ∷ entries.Executed 1 the_question (the_state attr) ∷ entries.Delivered r.state ∷ entries.Answered 0 1 (Done (Attrs attr)) ∷ entries.Clock 6 ∷ entries.Began 0 2 (ops.OpenFile 0 mode the_path) ∷ entries.Sent r.again ∷ entries.Executed 2 the_lookup (the_found dir) ∷ entries.Delivered r.found_again ∷ entries.Answered 0 2 (Done Nothing) ∷ entries.Clock 7 ∷ entries.Began 0 3 (ops.Stat the_path) ∷ entries.Answered 0 3 (Done (Attrs attr)) ∷ entries.Clock 8 ∷ entries.Began 0 4 (ops.List []) ∷ entries.Sent r.list ∷ entries.Executed 3 (list_call the_root 0 zero_verf) the_page ∷ entries.Delivered r.page ∷ []) s26
  r37 = moves (entries.Clock 5 ∷ entries.Began 0 1 (ops.Stat the_path) ∷ entries.Sent r.lookup ∷ entries.Executed 0 the_lookup (the_found dir) ∷ entries.Delivered r.looked ∷ entries.Sent r.question ∷ entries.Executed 1 the_question (the_state attr) ∷ entries.Delivered r.state ∷ entries.Answered 0 1 (Done (Attrs attr)) ∷ entries.Clock 6 ∷ entries.Began 0 2 (ops.OpenFile 0 mode the_path) ∷ entries.Sent r.again ∷ entries.Executed 2 the_lookup (the_found dir) ∷ entries.Delivered r.found_again ∷ entries.Answered 0 2 (Done Nothing) ∷ entries.Clock 7 ∷ entries.Began 0 3 (ops.Stat the_path) ∷ entries.Answered 0 3 (Done (Attrs attr)) ∷ entries.Clock 8 ∷ entries.Began 0 4 (ops.List []) ∷ entries.Sent r.list ∷ entries.Executed 3 (list_call the_root 0 zero_verf) the_page ∷ entries.Delivered r.page ∷ []) s26 s25 r36 (takes_page (record { walk = (record { op = 19; path = [] }); before = (record { dir = the_root; cookie = 0; names = []; since = 19; ended = false }); was = refl; unended = refl; verf = zero_verf; dircount = 8192; maxcount = 32768; attr = None; check = zero_verf; rows = the_row ∷ []; eof = true; came = (record { xid = 3; at = 20; time = Some 8; place = 22; is = refl }); after = omega arith; cookie = 1; last = λ e. absurd (true_false e); lists = adds_put walk_eq walk_same s25.lists (record { op = 19; path = [] }) (record { dir = the_root; cookie = 1; names = [] ++ names_of (the_row ∷ []); since = 22; ended = true }); others = refl }))

  abbrev r38 : Reaches the_modes (Given the_root) t (entries.Clock 5 ∷ entries.Began 0 1 (ops.Stat the_path) ∷ entries.Sent r.lookup ∷ entries.Executed 0 the_lookup (the_found dir) ∷ entries.Delivered r.looked ∷ entries.Sent r.question ∷ entries.Executed 1 the_question (the_state attr) ∷ entries.Delivered r.state ∷ entries.Answered 0 1 (Done (Attrs attr)) ∷ entries.Clock 6 ∷ entries.Began 0 2 (ops.OpenFile 0 mode the_path) ∷ entries.Sent r.again ∷ entries.Executed 2 the_lookup (the_found dir) ∷ entries.Delivered r.found_again ∷ entries.Answered 0 2 (Done Nothing) ∷ entries.Clock 7 ∷ entries.Began 0 3 (ops.Stat the_path) ∷ entries.Answered 0 3 (Done (Attrs attr)) ∷ entries.Clock 8 ∷ entries.Began 0 4 (ops.List []) ∷ entries.Sent r.list ∷ entries.Executed 3 (list_call the_root 0 zero_verf) the_page ∷ entries.Delivered r.page ∷ entries.Answered 0 4 (Done (Names (the_name ∷ []))) ∷ []) s26
  r38 = enters (entries.Clock 5 ∷ entries.Began 0 1 (ops.Stat the_path) ∷ entries.Sent r.lookup ∷ entries.Executed 0 the_lookup (the_found dir) ∷ entries.Delivered r.looked ∷ entries.Sent r.question ∷ entries.Executed 1 the_question (the_state attr) ∷ entries.Delivered r.state ∷ entries.Answered 0 1 (Done (Attrs attr)) ∷ entries.Clock 6 ∷ entries.Began 0 2 (ops.OpenFile 0 mode the_path) ∷ entries.Sent r.again ∷ entries.Executed 2 the_lookup (the_found dir) ∷ entries.Delivered r.found_again ∷ entries.Answered 0 2 (Done Nothing) ∷ entries.Clock 7 ∷ entries.Began 0 3 (ops.Stat the_path) ∷ entries.Answered 0 3 (Done (Attrs attr)) ∷ entries.Clock 8 ∷ entries.Began 0 4 (ops.List []) ∷ entries.Sent r.list ∷ entries.Executed 3 (list_call the_root 0 zero_verf) the_page ∷ entries.Delivered r.page ∷ entries.Answered 0 4 (Done (Names (the_name ∷ []))) ∷ []) s26 (entries.Clock 5 ∷ entries.Began 0 1 (ops.Stat the_path) ∷ entries.Sent r.lookup ∷ entries.Executed 0 the_lookup (the_found dir) ∷ entries.Delivered r.looked ∷ entries.Sent r.question ∷ entries.Executed 1 the_question (the_state attr) ∷ entries.Delivered r.state ∷ entries.Answered 0 1 (Done (Attrs attr)) ∷ entries.Clock 6 ∷ entries.Began 0 2 (ops.OpenFile 0 mode the_path) ∷ entries.Sent r.again ∷ entries.Executed 2 the_lookup (the_found dir) ∷ entries.Delivered r.found_again ∷ entries.Answered 0 2 (Done Nothing) ∷ entries.Clock 7 ∷ entries.Began 0 3 (ops.Stat the_path) ∷ entries.Answered 0 3 (Done (Attrs attr)) ∷ entries.Clock 8 ∷ entries.Began 0 4 (ops.List []) ∷ entries.Sent r.list ∷ entries.Executed 3 (list_call the_root 0 zero_verf) the_page ∷ entries.Delivered r.page ∷ []) s26 (entries.Answered 0 4 (Done (Names (the_name ∷ [])))) r37 refl (record { same = refl; opened = λ op slot other path value is ended. absurd (open_list slot other path (line_four op ended.line _ (begun_as op 0 ended.line _ ended.began) (sym (line_is 4 ended.line 0 0 _ _ ended.answered))).1); put = λ op offset path bytes value is ended. absurd (put_list path offset bytes (line_four op ended.line _ (begun_as op 0 ended.line _ ended.began) (sym (line_is 4 ended.line 0 0 _ _ ended.answered))).1); shown = λ op path other is ended. absurd (names_attrs other is); listed = λ op path names is ended. record { listing = (record { dir = the_root; cookie = 1; names = [] ++ names_of (the_row ∷ []); since = 22; ended = true }); is = found_is s26.lists 19 op path [] (record { dir = the_root; cookie = 1; names = [] ++ names_of (the_row ∷ []); since = 22; ended = true }) ((line_four op ended.line _ (begun_as op 0 ended.line _ ended.began) (sym (line_is 4 ended.line 0 0 _ _ ended.answered))).0) (list_path path (line_four op ended.line _ (begun_as op 0 ended.line _ ended.began) (sym (line_is 4 ended.line 0 0 _ _ ended.answered))).1) refl; ended = refl; cookie = 0; verf = zero_verf; dircount = 8192; maxcount = 32768; reply = the_page; last = record { came = (record { xid = 3; at = 20; time = Some 8; place = 22; is = refl }); last = λ j b at low high. absurd (omega (arith, low, high)) }; ordered = one_sorted names (names_are names is); same = same_names names (names_are names is) } })

  abbrev r39 : Reaches the_modes (Given the_root) t (entries.Clock 5 ∷ entries.Began 0 1 (ops.Stat the_path) ∷ entries.Sent r.lookup ∷ entries.Executed 0 the_lookup (the_found dir) ∷ entries.Delivered r.looked ∷ entries.Sent r.question ∷ entries.Executed 1 the_question (the_state attr) ∷ entries.Delivered r.state ∷ entries.Answered 0 1 (Done (Attrs attr)) ∷ entries.Clock 6 ∷ entries.Began 0 2 (ops.OpenFile 0 mode the_path) ∷ entries.Sent r.again ∷ entries.Executed 2 the_lookup (the_found dir) ∷ entries.Delivered r.found_again ∷ entries.Answered 0 2 (Done Nothing) ∷ entries.Clock 7 ∷ entries.Began 0 3 (ops.Stat the_path) ∷ entries.Answered 0 3 (Done (Attrs attr)) ∷ entries.Clock 8 ∷ entries.Began 0 4 (ops.List []) ∷ entries.Sent r.list ∷ entries.Executed 3 (list_call the_root 0 zero_verf) the_page ∷ entries.Delivered r.page ∷ entries.Answered 0 4 (Done (Names (the_name ∷ []))) ∷ []) s27
  r39 = moves (entries.Clock 5 ∷ entries.Began 0 1 (ops.Stat the_path) ∷ entries.Sent r.lookup ∷ entries.Executed 0 the_lookup (the_found dir) ∷ entries.Delivered r.looked ∷ entries.Sent r.question ∷ entries.Executed 1 the_question (the_state attr) ∷ entries.Delivered r.state ∷ entries.Answered 0 1 (Done (Attrs attr)) ∷ entries.Clock 6 ∷ entries.Began 0 2 (ops.OpenFile 0 mode the_path) ∷ entries.Sent r.again ∷ entries.Executed 2 the_lookup (the_found dir) ∷ entries.Delivered r.found_again ∷ entries.Answered 0 2 (Done Nothing) ∷ entries.Clock 7 ∷ entries.Began 0 3 (ops.Stat the_path) ∷ entries.Answered 0 3 (Done (Attrs attr)) ∷ entries.Clock 8 ∷ entries.Began 0 4 (ops.List []) ∷ entries.Sent r.list ∷ entries.Executed 3 (list_call the_root 0 zero_verf) the_page ∷ entries.Delivered r.page ∷ entries.Answered 0 4 (Done (Names (the_name ∷ []))) ∷ []) s27 s26 r38 (forgets (record { attrs = λ z w e. absurd (none_some w e); names = λ z w e. absurd (none_some w e); others = refl }))

  pub is_reached : IsReached t
  is_reached = record { client = s27; run = r39; moved = refl }
