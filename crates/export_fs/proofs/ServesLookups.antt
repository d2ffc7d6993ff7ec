-- LOOKUP, READLINK and READDIRPLUS are what a server may do (RFC 1813, sections 3.3.3, 3.3.5 and 3.3.17).
use Rattle.std.proofs.Common.{◌≡◌, ◌≤◌, ◌+◌, ◌⊎◌, ℕ, zero, suc, true, false, List, [], ◌∷◌, map, length, Option, Some, refl, sym, ap, subst, ◌∙◌, arith, inl, inr, ⊎_elim, ◌==◌, nat_le, nat_lt, slice_get, option_map, All}
use Rattle.std.specs.Prelude.{is_none}
use Rattle.std.proofs.lemmas.Bool.{cases_Bool, or_parts, not-false}
use Rattle.nfs_types.specs.declared.attr.Attr.{Attr}
use Rattle.nfs_types.specs.declared.verf.Verf.{Verf}
use Rattle.nfs_dir_calls.specs.declared.call.DirCall.TheVariants as dirs
use Rattle.nfs_dir_calls.specs.declared.plus_page.PlusRow.{PlusRow}
use Rattle.world_model.specs.Steps.{TrueOf}
use Rattle.world_model.specs.ListService.{IsPlusRowOf, ListsObjects}
use Rattle.world_model.specs.Service.{DoesDir}
use Rattle.export_fs.specs.declared.node.Holds.{Holds}
use Rattle.export_fs.specs.declared.node.Holds.TheVariants.{File, Directory, Link}
use Rattle.export_fs.specs.declared.node.Node.{Node}
use Rattle.export_fs.specs.Held.{Row}
use Rattle.export_fs.specs.View.{View}
use Rattle.export_fs.specs.Parts.{handle_of, attr, kind_of, text_in, text_of, object, rows_in, at_place}
use Rattle.export_fs.specs.Names.{named}
use Rattle.export_fs.specs.Pages.{rows_after, listed, spelled_size, fitting, page_of, most_page}
use Rattle.export_fs.specs.Answer.{lookup_answer, read_link_answer, list_answer, dir_answer}
use Rattle.export_fs.specs.Refusals.{dir_refusal, is_stale}
use Rattle.export_fs.specs.Seen.{server_of, object_of, entry_of, held_of}
use Rattle.export_fs.specs.Spelled.{IsDirSpelled}
use Rattle.export_fs.specs.Sound.{Sound}
use Rattle.export_fs.proofs.RefusalTable.{dir_passes}
use Rattle.export_fs.proofs.EntriesNamed.{stands}
use Rattle.export_fs.proofs.ServerOfExport.{found, object_is, looks, true_of, true_here, seen_here}
use Rattle.export_fs.proofs.ServesFileCalls.{kind_found}
use Rattle.export_fs.proofs.DirectoryNames.{DirFound, dir_found, dir_at, rows_at, named_is, some_row, row_named, has_name, map_get, is_held}

-- ---- LOOKUP

pub looks_up : (v : View) → Sound v → (dir name : List ℕ) → IsDirSpelled (dirs.Lookup dir name) → dir_refusal v (dirs.Lookup dir name) ≡ 0 → DoesDir (server_of v) (dirs.Lookup dir name) (dir_answer v v (dirs.Lookup dir name)) (server_of v)
looks_up v s dir name b e =
    let p = dir_passes v (dirs.Lookup dir name) e in
    let f = found v dir b.0 (or_parts (is_stale v.nodes dir) (is_stale v.nodes dir) p.stale).0 in
    let d = dir_found v dir f (not-false _ p.no_dir) in
    let at = dir_at v dir d in
    let n = named_is v dir name d.found.place d.found.node d.listing d.found.place_is at in
    let r = some_row name d.listing.rows (ap is_none (sym n) ∙ p.missing) in
    let q = row_named v s d.found.place d.found.node d.listing name at r.0 r.1 in
    let st = stands name d.listing.rows q.row q.found in
    let is : named v.nodes dir name ≡ Some q.row.place = n ∙ ap (option_map (λ (row : Row). row.place)) q.found in
    let P : Option ℕ → Type 0 = λ o. DoesDir (server_of v) (dirs.Lookup dir name) (lookup_answer v.nodes dir o) (server_of v) in
    let seen = seen_here v q.row.place q.node q.below q.there in
    subst P (sym is)
    (record {
      named = has_name v dir d.found.place d.found.node d.listing name st.at q.row d.found.is at st.at_is st.name_is;
      reads = (looks v dir d.found).reads;
      only = record { verf = refl; others = λ other n. refl };
      object = object_of q.row.place q.node;
      there = seen;
      turns = record { has = record { is = seen; there = q.live }; new = object_of q.row.place q.node; is = seen; becomes = record { holds = refl; gone = refl; kind = refl; fileid = refl } };
      shows = true_here v q.row.place q.below;
      shows_dir = true_of v dir b.0;
    })

-- ---- READLINK

link_by_kind : (holds : Holds) → (kind_of holds == 5) ≡ true → (text : List ℕ) × (holds ≡ Link text)
link_by_kind (File content) e = absurd (cc)
link_by_kind (Directory listing) e = absurd (cc)
link_by_kind (Link text) e = (text, refl)

pub reads_link : (v : View) (file : List ℕ) → IsDirSpelled (dirs.ReadLink file) → dir_refusal v (dirs.ReadLink file) ≡ 0 → DoesDir (server_of v) (dirs.ReadLink file) (dir_answer v v (dirs.ReadLink file)) (server_of v)
reads_link v file b e =
    let p = dir_passes v (dirs.ReadLink file) e in
    let f = found v file b.0 (or_parts (is_stale v.nodes file) (is_stale v.nodes file) p.stale).0 in
    let k = link_by_kind f.node.holds (ap (λ (n : ℕ). n == 5) (sym (kind_found v file f)) ∙ not-false _ p.invalid) in
    let is : text_in (object v.nodes file) ≡ Some k.0 = ap text_in (object_is v file f) ∙ ap text_of k.1 in
    let P : Option (List ℕ) → Type 0 = λ o. DoesDir (server_of v) (dirs.ReadLink file) (read_link_answer v.nodes file o) (server_of v) in
    subst P (sym is) (record { looks = looks v file f; is = ap held_of k.1; shows = true_of v file b.0 })

-- ---- READDIRPLUS

at_after : (cookie : ℕ) (rows : List Row) (at : ℕ) (row : Row) → slice_get (rows_after cookie rows) at ≡ Some row → (k : ℕ) × (slice_get rows k ≡ Some row)
at_after cookie [] at row e = absurd (cc)
at_after cookie (r ∷ rows) zero row e =
    ⊎_elim (λ (b : nat_lt cookie r.cookie ≡ true). let g : Some r ≡ Some row = simp b at e in (0, g))
    (λ (b : nat_lt cookie r.cookie ≡ false). let g : slice_get (rows_after cookie rows) 0 ≡ Some row = simp b at e in let p = at_after cookie rows 0 row g in (suc p.0, p.1))
    (cases_Bool (nat_lt cookie r.cookie))
at_after cookie (r ∷ rows) (suc at) row e =
    ⊎_elim (λ (b : nat_lt cookie r.cookie ≡ true). let g : slice_get (rows_after cookie rows) at ≡ Some row = simp b at e in let p = at_after cookie rows at row g in (suc p.0, p.1))
    (λ (b : nat_lt cookie r.cookie ≡ false). let g : slice_get (rows_after cookie rows) (suc at) ≡ Some row = simp b at e in let p = at_after cookie rows (suc at) row g in (suc p.0, p.1))
    (cases_Bool (nat_lt cookie r.cookie))

all_none : (P : PlusRow → Type 0) → All P []
all_none P k d l = absurd (omega arith)

all_one : (P : PlusRow → Type 0) (x : PlusRow) (xs : List PlusRow) → P x → All P xs → All P (x ∷ xs)
all_one P x xs p all zero d l = p
all_one P x xs p all (suc k) d l = all k d (omega arith)

-- what each of the entries has
abbrev ForRows : (PlusRow → Type 0) → List Node → List Row → Type 0
ForRows P nodes rows = (at : ℕ) (row : Row) → slice_get rows at ≡ Some row → P (listed nodes row)

fitting_all : (P : PlusRow → Type 0) (nodes : List Node) (limit used : ℕ) (rows : List Row) → ForRows P nodes rows → All P (fitting nodes limit used rows)
fitting_all P nodes limit used [] each = all_none P
fitting_all P nodes limit used (row ∷ rows) each =
    let more = used + spelled_size (listed nodes row) in
    ⊎_elim (λ (b : nat_le more limit ≡ true).
    let g : fitting nodes limit used (row ∷ rows) ≡ listed nodes row ∷ fitting nodes limit more rows = simp b in
    subst (All P) (sym g) (all_one P (listed nodes row) (fitting nodes limit more rows) (each 0 row refl) (fitting_all P nodes limit more rows (λ at r q. each (suc at) r q))))
    (λ (b : nat_le more limit ≡ false). let g : fitting nodes limit used (row ∷ rows) ≡ [] = simp b in subst (All P) (sym g) (all_none P))
    (cases_Bool (nat_le more limit))

page_all : (P : PlusRow → Type 0) (nodes : List Node) (limit : ℕ) (rows : List Row) → ForRows P nodes rows → All P (page_of nodes limit rows)
page_all P nodes limit [] each = all_none P
page_all P nodes limit (row ∷ rows) each = all_one P (listed nodes row) (fitting nodes limit (spelled_size (listed nodes row)) rows) (each 0 row refl) (fitting_all P nodes limit (spelled_size (listed nodes row)) rows (λ at r q. each (suc at) r q))

page_some : (nodes : List Node) (limit : ℕ) (rows : List Row) → (1 ≤ length (page_of nodes limit rows)) ⊎ ((length (page_of nodes limit rows) == length rows) ≡ true)
page_some nodes limit [] = inr refl
page_some nodes limit (row ∷ rows) = inl (omega arith)

pub lists_objects : (v : View) → Sound v → (dir : List ℕ) (cookie : ℕ) (d : DirFound v dir) (limit : ℕ) (shown : Option Attr) → TrueOf (server_of v) dir shown
    → ListsObjects (server_of v) (server_of v) dir shown (page_of v.nodes limit (rows_after cookie d.listing.rows)) (length (page_of v.nodes limit (rows_after cookie d.listing.rows)) == length (rows_after cookie d.listing.rows))
lists_objects v s dir cookie d limit shown t =
    let h = is_held v s d.found.place d.found.node d.listing (dir_at v dir d) in
    let entries = map entry_of d.listing.rows in
    record {
      entries = entries;
      reads = record { looks = looks v dir d.found; holds = ap held_of d.holds; shows = t };
      each = page_all (IsPlusRowOf (server_of v) entries) v.nodes limit (rows_after cookie d.listing.rows) (λ at row q.
          let k = at_after cookie d.listing.rows at row q in
          let i = h.entries k.0 row k.1 in
          record { entry = record { object = handle_of row.place; listed = (k.0, map_get d.listing.rows k.0 row k.1) }; handle = refl; attributes = true_here v row.place (omega (arith, i.there, s.places, s.numbers)) });
      some = page_some v.nodes limit (rows_after cookie d.listing.rows);
    }

pub reads_dir : (v : View) → Sound v → (dir : List ℕ) (cookie : ℕ) (verf : Verf) (dircount maxcount : ℕ) → IsDirSpelled (dirs.ReadDirPlus dir cookie verf dircount maxcount) → dir_refusal v (dirs.ReadDirPlus dir cookie verf dircount maxcount) ≡ 0
    → DoesDir (server_of v) (dirs.ReadDirPlus dir cookie verf dircount maxcount) (dir_answer v v (dirs.ReadDirPlus dir cookie verf dircount maxcount)) (server_of v)
reads_dir v s dir cookie verf dircount maxcount b e =
    let p = dir_passes v (dirs.ReadDirPlus dir cookie verf dircount maxcount) e in
    let f = found v dir b.0 (or_parts (is_stale v.nodes dir) (is_stale v.nodes dir) p.stale).0 in
    let d = dir_found v dir f (not-false _ p.no_dir) in
    let is : rows_in (object v.nodes dir) ≡ d.listing.rows = ap (λ (o : Option ℕ). rows_in (at_place v.nodes o)) d.found.place_is ∙ rows_at v d.found.place d.found.node d.listing (dir_at v dir d) in
    let P : List Row → Type 0 = λ z. DoesDir (server_of v) (dirs.ReadDirPlus dir cookie verf dircount maxcount) (list_answer v.nodes dir (most_page maxcount) (rows_after cookie z)) (server_of v) in
    subst P (sym is) (lists_objects v s dir cookie d (most_page maxcount) (attr v.nodes dir) (true_of v dir b.0))
