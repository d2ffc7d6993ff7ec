-- Directories that are there, the names in them, and the lists that the server shows of them.
use Rattle.std.proofs.Common.{◌≡◌, ◌<◌, ◌≤◌, ◌+◌, ℕ, zero, suc, true, false, List, [], ◌∷◌, ◌++◌, map, length, Option, Some, None, refl, sym, ap, subst, ◌∙◌, arith, ⊎_elim, ◌==◌, slice_get, option_map, append-nil}
use Rattle.std.specs.Prelude.{is_none}
use Rattle.std.proofs.lemmas.Bool.{cases_Bool, eqb-true, ltb-true, not-false}
use Rattle.std.proofs.lemmas.Slice.Eq.{bytes_eq-Decides}
use Rattle.world_model.specs.Server.{Listed, Lists, HasName}
use Rattle.world_model.specs.Names.{Lacks, Enters, Leaves}
use Rattle.export_fs.specs.declared.node.Holds.{Holds}
use Rattle.export_fs.specs.declared.node.Holds.TheVariants.{File, Directory, Link}
use Rattle.export_fs.specs.declared.node.Node.{Node}
use Rattle.export_fs.specs.Held.{Row, Listing}
use Rattle.export_fs.specs.View.{View}
use Rattle.export_fs.specs.Parts.{last_number, handle_of, place_of, at_place, kind_of, rows_in, rows_of}
use Rattle.export_fs.specs.Names.{find_row, without, named, named_at, with_row}
use Rattle.export_fs.specs.Refusals.{is_dir, is_full}
use Rattle.export_fs.specs.Seen.{server_of, object_of, entry_of, held_of}
use Rattle.export_fs.specs.Sound.{Sound, IsEntry, IsListing, IsHeld, IsCounted, names_of, names_in}
use Rattle.export_fs.proofs.EntriesByName.{without-none, find-more-none}
use Rattle.export_fs.proofs.Objects.{names_among}
use Rattle.export_fs.proofs.EntriesNamed.{stands, not_found, names_at}
use Rattle.export_fs.proofs.ServerOfExport.{Found, live_is, seen_here}
use Rattle.export_fs.proofs.ServesFileCalls.{kind_found}

-- ---- directories

pub dir_by_kind : (holds : Holds) → (kind_of holds == 2) ≡ true → (listing : Listing) × (holds ≡ Directory listing)
dir_by_kind (File content) e = absurd (cc)
dir_by_kind (Directory listing) e = (listing, refl)
dir_by_kind (Link text) e = absurd (cc)

pub record DirFound (v : View) (dir : List ℕ) : Type 0 where
  pub found : Found v dir
  pub listing : Listing
  pub holds : found.node.holds ≡ Directory listing

pub dir_found : (v : View) (dir : List ℕ) → Found v dir → is_dir v.nodes dir ≡ true → DirFound v dir
dir_found v dir f e = let d = dir_by_kind f.node.holds (ap (λ (k : ℕ). k == 2) (sym (kind_found v dir f)) ∙ e) in record { found = f; listing = d.0; holds = d.1 }

-- the entries of a directory at a place
pub record DirAt (v : View) (place : ℕ) (node : Node) (listing : Listing) : Type 0 where
  pub below : place < last_number
  pub there : slice_get v.nodes place ≡ Some node
  pub live : node.gone ≡ false
  pub holds : node.holds ≡ Directory listing

abbrev pub dir_at : (v : View) (dir : List ℕ) (d : DirFound v dir) → DirAt v d.found.place d.found.node d.listing
dir_at v dir d = record { below = d.found.below; there = d.found.there; live = d.found.live; holds = d.holds }

pub rows_at : (v : View) (place : ℕ) (node : Node) (listing : Listing) → DirAt v place node listing → rows_in (at_place v.nodes (Some place)) ≡ listing.rows
rows_at v place node listing d = ap rows_in (live_is v.nodes place node d.there d.live) ∙ ap rows_of d.holds

pub named_is : (v : View) (dir : List ℕ) (name : List ℕ) (place : ℕ) (node : Node) (listing : Listing) → place_of dir ≡ Some place → DirAt v place node listing
    → named v.nodes dir name ≡ option_map (λ (row : Row). row.place) (find_row name listing.rows)
named_is v dir name place node listing e d = ap (λ (o : Option ℕ). named_at v.nodes o name) e ∙ ap (λ (rows : List Row). option_map (λ (row : Row). row.place) (find_row name rows)) (rows_at v place node listing d)

pub is_held : (v : View) → Sound v → (place : ℕ) (node : Node) (listing : Listing) → DirAt v place node listing → IsListing (length v.nodes) place listing
is_held v s place node listing d = subst (IsHeld (length v.nodes) place) d.holds (s.held place node d.there)

-- ---- an object that has a name is there

pub named_lives : (names place : ℕ) (node : Node) → IsCounted names place node → 1 ≤ names → node.gone ≡ false
named_lives names place node c l =
    ⊎_elim (λ (g : node.gone ≡ true).
    ⊎_elim (λ (k : (kind_of node.holds == 2) ≡ true). let n : names ≡ 0 = c.directory k ∙ simp g in absurd (omega arith))
    (λ (k : (kind_of node.holds == 2) ≡ false). let n : node.nlink ≡ 0 = eqb-true node.nlink 0 (sym (c.gone k) ∙ g) in absurd (omega (arith, c.links k)))
    (cases_Bool (kind_of node.holds == 2)))
    (λ (g : node.gone ≡ false). g)
    (cases_Bool node.gone)

there_within : (nodes : List Node) (p : ℕ) → p < length nodes → (node : Node) × (slice_get nodes p ≡ Some node)
there_within [] p l = absurd (omega arith)
there_within (n ∷ nodes) zero l = (n, refl)
there_within (n ∷ nodes) (suc p) l = there_within nodes p (omega arith)

-- an entry, and the object that it names
pub record NamedRow (v : View) (place : ℕ) (name : List ℕ) (listing : Listing) : Type 0 where
  pub row : Row
  pub found : find_row name listing.rows ≡ Some row
  pub entry : IsEntry (length v.nodes) place listing.last row
  pub below : row.place < last_number
  pub node : Node
  pub there : slice_get v.nodes row.place ≡ Some node
  pub live : node.gone ≡ false
  pub some : 1 ≤ names_of row.place v.nodes

pub row_named : (v : View) → Sound v → (place : ℕ) (node : Node) (listing : Listing) (name : List ℕ) → DirAt v place node listing → (row : Row) → find_row name listing.rows ≡ Some row → NamedRow v place name listing
row_named v s place node listing name d row f =
    let h = is_held v s place node listing d in
    let st = stands name listing.rows row f in
    let e : IsEntry (length v.nodes) place listing.last row = h.entries st.at row st.at_is in
    let n = there_within v.nodes row.place e.there in
    let a : 1 ≤ names_in row.place listing.rows = names_at row.place listing.rows st.at row st.at_is refl in
    let b : names_in row.place (rows_of node.holds) ≤ names_of row.place v.nodes = names_among row.place place v.nodes node d.there in
    let c : 1 ≤ names_of row.place v.nodes = omega (arith, ap (λ (x : Holds). names_in row.place (rows_of x)) d.holds) in
    record {
      row = row;
      found = f;
      entry = e;
      below = omega (arith, e.there, s.places, s.numbers);
      node = n.0;
      there = n.1;
      live = named_lives (names_of row.place v.nodes) row.place n.0 (s.counted row.place n.0 n.1) c;
      some = c;
    }

-- the entry of a name that a directory has
pub some_row : (name : List ℕ) (rows : List Row) → is_none (option_map (λ (row : Row). row.place) (find_row name rows)) ≡ false → (row : Row) × (find_row name rows ≡ Some row)
some_row name rows e = by_row (find_row name rows) refl where
  by_row : (o : Option Row) → find_row name rows ≡ o → (row : Row) × (find_row name rows ≡ Some row)
  by_row None q = let f = simp q at e in absurd (cc)
  by_row (Some row) q = (row, q)

pub no_row : (name : List ℕ) (rows : List Row) → is_none (option_map (λ (row : Row). row.place) (find_row name rows)) ≡ true → find_row name rows ≡ None
no_row name rows e = by_row (find_row name rows) refl where
  by_row : (o : Option Row) → find_row name rows ≡ o → find_row name rows ≡ None
  by_row None q = q
  by_row (Some row) q = let f = simp q at e in absurd (cc)

-- ---- lists that the server shows

pub map_append : (xs ys : List Row) → map entry_of (xs ++ ys) ≡ map entry_of xs ++ map entry_of ys
map_append [] ys = refl
map_append (x ∷ xs) ys = ap (λ (z : List Listed). entry_of x ∷ z) (map_append xs ys)

pub map_get : (rows : List Row) (at : ℕ) (row : Row) → slice_get rows at ≡ Some row → slice_get (map entry_of rows) at ≡ Some (entry_of row)
map_get [] at row e = absurd (cc)
map_get (r ∷ rows) zero row e = let s : r ≡ row = cc in ap (λ (z : Row). Some (entry_of z)) s
map_get (r ∷ rows) (suc at) row e = map_get rows at row e

pub record ListedRow (rows : List Row) (e : Listed) : Type 0 where
  pub at : ℕ
  pub row : Row
  pub is : slice_get rows at ≡ Some row
  pub entry : entry_of row ≡ e

pub listed_row : (rows : List Row) (at : ℕ) (e : Listed) → slice_get (map entry_of rows) at ≡ Some e → ListedRow rows e
listed_row [] at e q = absurd (cc)
listed_row (r ∷ rows) zero e q = record { at = 0; row = r; is = refl; entry = cc }
listed_row (r ∷ rows) (suc at) e q = let p = listed_row rows at e q in record { at = suc p.at; row = p.row; is = p.is; entry = p.entry }

pub lists_row : (rows : List Row) (at : ℕ) (row : Row) (name : List ℕ) → slice_get rows at ≡ Some row → row.name ≡ name → Lists (map entry_of rows) (record { name = name; object = handle_of row.place; cookie = row.cookie })
lists_row rows at row name e n = (at, map_get rows at row e ∙ ap (λ (x : List ℕ). Some (record { name = x; object = handle_of row.place; cookie = row.cookie })) n)

pub has_name : (v : View) (dir : List ℕ) (place : ℕ) (node : Node) (listing : Listing) (name : List ℕ) (at : ℕ) (row : Row) → dir ≡ handle_of place → DirAt v place node listing → slice_get listing.rows at ≡ Some row → row.name ≡ name
    → HasName (server_of v) dir name (handle_of row.place)
has_name v dir place node listing name at row is d e n = record {
  names = record {
    dir = object_of place node;
    entries = map entry_of listing.rows;
    cookie = row.cookie;
    is = ap (λ (x : List ℕ). (server_of v).object x) is ∙ seen_here v place node d.below d.there;
    holds = ap held_of d.holds;
    listed = lists_row listing.rows at row name e n;
  };
  there = d.live;
}

pub lacks : (name : List ℕ) (rows : List Row) → find_row name rows ≡ None → Lacks (map entry_of rows) name
lacks name rows f e l n = let p = listed_row rows l.0 e l.1 in not_found name rows p.at p.row f p.is (ap (λ (x : Listed). x.name) p.entry ∙ n)

-- a name that wasn't there enters at the end
pub enters_last : (name : List ℕ) (place : ℕ) (listing : Listing) → find_row name listing.rows ≡ None → Enters name (handle_of place) (map entry_of listing.rows) (map entry_of (with_row name place listing).rows)
enters_last name place listing f = record {
  before = map entry_of listing.rows;
  after = [];
  cookie = listing.last + 1;
  was = sym (append-nil (map entry_of listing.rows));
  is = ap (λ (rows : List Row). map entry_of (rows ++ record { name = name; place = place; cookie = listing.last + 1 } ∷ [])) (without-none name listing.rows f) ∙ map_append listing.rows (record { name = name; place = place; cookie = listing.last + 1 } ∷ []);
  fresh = lacks name listing.rows f;
}

pub leaves_list : (name : List ℕ) (rows : List Row) (row : Row) → find_row name rows ≡ Some row → Leaves name (handle_of row.place) (map entry_of rows) (map entry_of (without name rows))
leaves_list name rows row f =
    let st = stands name rows row f in
    record {
      before = map entry_of st.before;
      after = map entry_of st.after;
      cookie = row.cookie;
      was = ap (map entry_of) st.was ∙ map_append st.before (row ∷ st.after) ∙ ap (λ (n : List ℕ). map entry_of st.before ++ record { name = n; object = handle_of row.place; cookie = row.cookie } ∷ map entry_of st.after) st.name_is;
      is = ap (map entry_of) st.is ∙ map_append st.before st.after;
    }

-- the entry that entered last is found
pub found_last : (name : List ℕ) (place : ℕ) (listing : Listing) → find_row name (without name listing.rows) ≡ None → find_row name (with_row name place listing).rows ≡ Some (record { name = name; place = place; cookie = listing.last + 1 })
found_last name place listing once = find-more-none name (without name listing.rows) (record { name = name; place = place; cookie = listing.last + 1 }) once ((bytes_eq-Decides name name).1 refl)

-- a number is left
pub numbers_left : (v : View) → is_full v ≡ false → v.counter < last_number
numbers_left v e = ltb-true v.counter last_number (not-false _ e)
