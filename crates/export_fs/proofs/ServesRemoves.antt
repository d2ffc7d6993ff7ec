-- REMOVE and RMDIR are what a server may do (RFC 1813, sections 3.3.12 and 3.3.13): an object is gone with its last name.
use Rattle.std.proofs.Common.{◌≡◌, ◌≢◌, ◌<◌, ◌≤◌, ◌+◌, ◌⊎◌, ◌||◌, ℕ, zero, suc, Bool, true, false, List, map, length, Option, Some, refl, sym, ap, subst, ◌∙◌, arith, inl, inr, ⊎_elim, ◌==◌, slice_get, option_map, if◌then◌else◌, nat_le}
use Rattle.std.specs.Prelude.{is_none}
use Rattle.std.specs.Str.{bytes_eq}
use Rattle.std.proofs.lemmas.Bool.{cases_Bool, cases_eq, or_parts, not-false, eq-eqb, le-leb, lt-leb}
use Rattle.std.proofs.lemmas.Slice.Eq.{bytes_eq-Decides}
use Rattle.nfs_dir_calls.specs.declared.call.DirCall.TheVariants as dirs
use Rattle.world_model.specs.Server.{Listed, Entries, Object}
use Rattle.world_model.specs.Names.{own_name, parent_name, IsNamed, Loses}
use Rattle.world_model.specs.NameService.{Removes}
use Rattle.world_model.specs.Service.{DoesDir}
use Rattle.export_fs.specs.declared.node.Holds.{Holds}
use Rattle.export_fs.specs.declared.node.Holds.TheVariants.{File, Directory, Link}
use Rattle.export_fs.specs.declared.node.Node.{Node}
use Rattle.export_fs.specs.Held.{Row, Listing}
use Rattle.export_fs.specs.View.{View}
use Rattle.export_fs.specs.Parts.{last_number, handle_of, kind_of, rows_of}
use Rattle.export_fs.specs.Names.{named, without, without_row}
use Rattle.export_fs.specs.Changes.{changed, left, without_name, removed, unnamed, with_ctime, with_fewer}
use Rattle.export_fs.specs.After.{next, takes, changed_at, leaves, after_remove}
use Rattle.export_fs.specs.Answer.{dir_answer}
use Rattle.export_fs.specs.Refusals.{dir_refusal, is_stale, is_named_no_dir}
use Rattle.export_fs.specs.Seen.{server_of, object_of, entry_of, held_of}
use Rattle.export_fs.specs.Spelled.{IsDirSpelled}
use Rattle.export_fs.specs.Sound.{Sound, IsEntry, IsHeld, IsCounted, names_of, names_in, one_if}
use Rattle.export_fs.proofs.RefusalTable.{dir_passes}
use Rattle.export_fs.proofs.Objects.{changed_same, changed_other, changed_length, get_within, names_among, names_changed, names_kept, named_in}
use Rattle.export_fs.proofs.EntriesNamed.{names_at, names_without, entry_for}
use Rattle.export_fs.proofs.ServerOfExport.{found, seen_by_place, handle_apart, seen_here, only_at, true_wcc}
use Rattle.export_fs.proofs.DirectoryNames.{DirFound, dir_found, DirAt, dir_at, named_is, some_row, NamedRow, row_named, listed_row, map_get, leaves_list}
use Rattle.export_fs.proofs.ContentStaysSound.{AllHeld, held_changed, held_left, removed_holds}
use Rattle.export_fs.proofs.ServesCreates.{relists}

-- ---- an object has a name where one is counted

-- the objects hold what is sound, and places are few
pub record Fits (w : View) : Type 0 where
  pub held : AllHeld (length w.nodes) w.nodes
  pub few : length w.nodes ≤ last_number

pub sound_fits : (v : View) → Sound v → Fits v
sound_fits v s = record { held = s.held; few = omega (arith, s.places, s.numbers) }

listing_held : (h : Holds) (entries : List Listed) → held_of h ≡ Entries entries → (listing : Listing) × (h ≡ Directory listing) × (map entry_of listing.rows ≡ entries)
listing_held (File content) entries e = absurd (cc)
listing_held (Directory listing) entries e = (listing, refl, cc)
listing_held (Link text) entries e = absurd (cc)

listing_rows : (h : Holds) (at : ℕ) (row : Row) → slice_get (rows_of h) at ≡ Some row → (listing : Listing) × (h ≡ Directory listing) × (slice_get listing.rows at ≡ Some row)
listing_rows (File content) at row e = absurd (cc)
listing_rows (Directory listing) at row e = (listing, refl, e)
listing_rows (Link text) at row e = absurd (cc)

-- the entry of a directory is sound
entry_held : (w : View) → Fits w → (dir : ℕ) (node : Node) (listing : Listing) (at : ℕ) (row : Row) → slice_get w.nodes dir ≡ Some node → node.holds ≡ Directory listing → slice_get listing.rows at ≡ Some row → IsEntry (length w.nodes) dir listing.last row
entry_held w f dir node listing at row e h g = (subst (IsHeld (length w.nodes) dir) h (f.held dir node e)).entries at row g

pub named_counts : (w : View) → Fits w → (place : ℕ) → place < last_number → IsNamed (server_of w) (handle_of place) → 1 ≤ names_of place w.nodes
named_counts w f place l i =
    let d = seen_by_place w i.dir i.object i.is in
    let h = listing_held d.node.holds i.entries (ap (λ (o : Object). o.holds) (sym d.object) ∙ i.holds) in
    let r = listed_row h.0.rows i.listed.0 i.entry (ap (λ (es : List Listed). slice_get es i.listed.0) h.2 ∙ i.listed.1) in
    let e = entry_held w f d.place d.node h.0 r.at r.row d.there h.1 r.is in
    let s : r.row.place ≡ place = handle_apart r.row.place place (omega (arith, e.there, f.few)) l (ap (λ (x : Listed). x.object) r.entry ∙ i.names) in
    let a : 1 ≤ names_in place h.0.rows = names_at place h.0.rows r.at r.row r.is s in
    let b = names_among place d.place w.nodes d.node d.there in
    omega (arith, a, b, ap (λ (x : Holds). names_in place (rows_of x)) h.1)

apart_names : (name other : List ℕ) → bytes_eq name other ≡ false → name ≢ other
apart_names name other e q = let t : bytes_eq name other ≡ true = (bytes_eq-Decides name other).1 q in absurd (cc)

pub counts_named : (w : View) → Fits w → (place : ℕ) → 1 ≤ names_of place w.nodes → IsNamed (server_of w) (handle_of place)
counts_named w f place l =
    let n = named_in place w.nodes l in
    let r = entry_for place (rows_of n.node.holds) n.some in
    let h = listing_rows n.node.holds r.at r.row r.is in
    let e = entry_held w f n.dir n.node h.0 r.at r.row n.is h.1 h.2 in
    let o = or_parts (bytes_eq r.row.name own_name) (bytes_eq r.row.name parent_name) e.own in
    record {
      dir = handle_of n.dir;
      object = object_of n.dir n.node;
      entries = map entry_of h.0.rows;
      entry = entry_of r.row;
      is = seen_here w n.dir n.node (omega (arith, get_within w.nodes n.dir n.node n.is, f.few)) n.is;
      holds = ap held_of h.1;
      listed = (r.at, map_get h.0.rows r.at r.row h.2);
      names = ap handle_of r.names;
      own = apart_names r.row.name own_name o.0;
      parent = apart_names r.row.name parent_name o.1;
    }

-- ---- an object that lost a name

at_most_one : (b : Bool) → (if b then 0 else 1) ≤ 1
at_most_one true = omega arith
at_most_one false = omega arith

still_named : (names place : ℕ) (node : Node) → IsCounted (names + 1) place node → 1 ≤ names → (unnamed node).gone ≡ false
still_named names place node c l =
    ⊎_elim (λ (k : (kind_of node.holds == 2) ≡ true). absurd (omega (arith, c.directory k, at_most_one (node.gone || (place == 0)))))
    (λ (k : (kind_of node.holds == 2) ≡ false).
    let g : nat_le node.nlink 1 ≡ false = lt-leb node.nlink 1 (omega (arith, c.links k)) in
    let u : unnamed node ≡ with_fewer node = simp k in
    ap (λ (n : Node). n.gone) u ∙ g)
    (cases_Bool (kind_of node.holds == 2))

no_more_named : (place : ℕ) (node : Node) → IsCounted 1 place node → (unnamed node).gone ≡ true
no_more_named place node c =
    ⊎_elim (λ (k : (kind_of node.holds == 2) ≡ true). let u : unnamed node ≡ record node { gone = true } = simp k in ap (λ (n : Node). n.gone) u)
    (λ (k : (kind_of node.holds == 2) ≡ false).
    let g : nat_le node.nlink 1 ≡ true = le-leb node.nlink 1 (omega (arith, c.links k)) in
    let u : unnamed node ≡ with_fewer node = simp k in
    ap (λ (n : Node). n.gone) u ∙ g)
    (cases_Bool (kind_of node.holds == 2))

-- the object at a place lost one of its names
pub record LostName (v w : View) (place : ℕ) (node after : Node) : Type 0 where
  pub below : place < last_number
  pub was : slice_get v.nodes place ≡ Some node
  pub is : slice_get w.nodes place ≡ Some after
  pub live : node.gone ≡ false
  pub holds : after.holds ≡ node.holds
  pub gone : after.gone ≡ (unnamed node).gone
  pub fewer : names_of place w.nodes + 1 ≡ names_of place v.nodes

pub loses : (v w : View) → Sound v → Fits w → (place : ℕ) (node after : Node) → LostName v w place node after → Loses (server_of v) (server_of w) (handle_of place)
loses v w s f place node after l =
    let names = names_of place w.nodes in
    let c : IsCounted (names + 1) place node = subst (λ (n : ℕ). IsCounted n place node) (sym l.fewer) (s.counted place node l.was) in
    record {
      old = object_of place node;
      new = object_of place after;
      was = seen_here v place node l.below l.was;
      is = seen_here w place after l.below l.is;
      holds = ap held_of l.holds;
      kind = ap kind_of l.holds;
      fileid = refl;
      named = λ i. l.gone ∙ still_named names place node c (named_counts w f place l.below i) ∙ sym l.live;
      nameless = λ d.
          ⊎_elim (λ (z : names ≡ 0). l.gone ∙ no_more_named place node (subst (λ (n : ℕ). IsCounted (n + 1) place node) z c))
          (λ (z : names ≡ 0 → ⊥). absurd (d (counts_named w f place (above names z))))
          (cases_eq names 0);
    } where
      above : (k : ℕ) → (k ≡ 0 → ⊥) → 1 ≤ k
      above zero d = absurd (d refl)
      above (suc k) d = omega arith

-- ---- a name leaves a directory

ctime_gone : (number : ℕ) (node : Node) → (with_ctime number node).gone ≡ node.gone
ctime_gone number node =
    ⊎_elim (λ (e : node.gone ≡ true). let u : with_ctime number node ≡ node = simp e in ap (λ (n : Node). n.gone) u)
    (λ (e : node.gone ≡ false). let u : with_ctime number node ≡ record node { ctime = number } = simp e in ap (λ (n : Node). n.gone) u)
    (cases_Bool node.gone)

pub removed_gone : (number : ℕ) (node : Node) → (removed number node).gone ≡ (unnamed node).gone
removed_gone number node = ctime_gone number (unnamed node)

abbrev pub after_removing : View → List ℕ → List ℕ → ℕ → View
after_removing v dir name place = takes v (changed_at (removed (next v)) (Some place) (leaves v dir name v.nodes))

pub record Removal (v : View) (dir name : List ℕ) : Type 0 where
  pub dir_is : DirFound v dir
  pub named : NamedRow v dir_is.found.place name dir_is.listing

abbrev mid_nodes : (v : View) (dir name : List ℕ) → Removal v dir name → List Node
mid_nodes v dir name r = changed (left (next v) name) r.dir_is.found.place v.nodes

removed_nodes : (v : View) (dir name : List ℕ) (r : Removal v dir name) → (after_removing v dir name r.named.row.place).nodes ≡ changed (removed (next v)) r.named.row.place (mid_nodes v dir name r)
removed_nodes v dir name r = ap (λ (o : Option ℕ). changed (removed (next v)) r.named.row.place (changed_at (left (next v) name) o v.nodes)) r.dir_is.found.place_is

pub removed_dir : (v : View) (dir name : List ℕ) (r : Removal v dir name) → DirAt (after_removing v dir name r.named.row.place) r.dir_is.found.place (left (next v) name r.dir_is.found.node) (without_row name r.dir_is.listing)
removed_dir v dir name r =
    let d = r.dir_is.found in
    record {
      below = d.below;
      there = ap (λ (x : List Node). slice_get x d.place) (removed_nodes v dir name r) ∙ changed_other (removed (next v)) r.named.row.place d.place (mid_nodes v dir name r) (λ e. r.named.entry.apart (sym e)) ∙ changed_same (left (next v) name) d.place v.nodes d.node d.there;
      live = d.live;
      holds = ap (without_name name) r.dir_is.holds;
    }

pub removed_others : (v : View) (dir name : List ℕ) (r : Removal v dir name) (q : ℕ) → (q ≡ r.dir_is.found.place → ⊥) → (q ≡ r.named.row.place → ⊥) → slice_get (after_removing v dir name r.named.row.place).nodes q ≡ slice_get v.nodes q
removed_others v dir name r q a b =
    ap (λ (x : List Node). slice_get x q) (removed_nodes v dir name r) ∙ changed_other (removed (next v)) r.named.row.place q (mid_nodes v dir name r) b ∙ changed_other (left (next v) name) r.dir_is.found.place q v.nodes a

pub removed_object : (v : View) (dir name : List ℕ) (r : Removal v dir name) → slice_get (after_removing v dir name r.named.row.place).nodes r.named.row.place ≡ Some (removed (next v) r.named.node)
removed_object v dir name r =
    ap (λ (x : List Node). slice_get x r.named.row.place) (removed_nodes v dir name r) ∙ changed_same (removed (next v)) r.named.row.place (mid_nodes v dir name r) r.named.node (changed_other (left (next v) name) r.dir_is.found.place r.named.row.place v.nodes r.named.entry.apart ∙ r.named.there)

-- each object has as many names as before, but for the one that lost its name
pub removed_names : (v : View) (dir name : List ℕ) (r : Removal v dir name) (place : ℕ) → names_of place (after_removing v dir name r.named.row.place).nodes + one_if (r.named.row.place == place) ≡ names_of place v.nodes
removed_names v dir name r place =
    let d = r.dir_is in
    let a : names_of place (after_removing v dir name r.named.row.place).nodes ≡ names_of place (mid_nodes v dir name r) =
    ap (names_of place) (removed_nodes v dir name r) ∙ names_kept place (removed (next v)) r.named.row.place (mid_nodes v dir name r) (λ n. ap rows_of (removed_holds (next v) n)) in
    let b = names_changed place (left (next v) name) d.found.place v.nodes d.found.node d.found.there in
    let was : names_in place (rows_of d.found.node.holds) ≡ names_in place d.listing.rows = ap (λ (h : Holds). names_in place (rows_of h)) d.holds in
    let is : names_in place (rows_of (left (next v) name d.found.node).holds) ≡ names_in place (without name d.listing.rows) = ap (λ (h : Holds). names_in place (rows_of (without_name name h))) d.holds in
    let c = names_without place name d.listing.rows r.named.row r.named.found in
    omega (arith, a, b, was, is, c)

pub removed_length : (v : View) (dir name : List ℕ) (r : Removal v dir name) → length (after_removing v dir name r.named.row.place).nodes ≡ length v.nodes
removed_length v dir name r = ap length (removed_nodes v dir name r) ∙ changed_length (removed (next v)) r.named.row.place (mid_nodes v dir name r) ∙ changed_length (left (next v) name) r.dir_is.found.place v.nodes

pub removed_held : (v : View) → Sound v → (dir name : List ℕ) (r : Removal v dir name) → AllHeld (length (after_removing v dir name r.named.row.place).nodes) (after_removing v dir name r.named.row.place).nodes
removed_held v s dir name r =
    let count = length v.nodes in
    let d = r.dir_is.found in
    let a : AllHeld count (mid_nodes v dir name r) = held_changed count (left (next v) name) d.place v.nodes s.held (λ node h. held_left count d.place name node.holds h) in
    let b : AllHeld count (changed (removed (next v)) r.named.row.place (mid_nodes v dir name r)) = held_changed count (removed (next v)) r.named.row.place (mid_nodes v dir name r) a (λ node h. subst (IsHeld count r.named.row.place) (sym (removed_holds (next v) node)) h) in
    subst (λ (n : ℕ). AllHeld n (after_removing v dir name r.named.row.place).nodes) (sym (removed_length v dir name r)) (subst (AllHeld count) (sym (removed_nodes v dir name r)) b)

pub removal_fits : (v : View) → Sound v → (dir name : List ℕ) (r : Removal v dir name) → Fits (after_removing v dir name r.named.row.place)
removal_fits v s dir name r = record { held = removed_held v s dir name r; few = omega (arith, removed_length v dir name r, s.places, s.numbers) }

pub removes : (v : View) → Sound v → (dir name : List ℕ) (r : Removal v dir name) → Removes (server_of v) (server_of (after_removing v dir name r.named.row.place)) dir name
removes v s dir name r =
    let d = r.dir_is in
    let w = after_removing v dir name r.named.row.place in
    let same : (r.named.row.place == r.named.row.place) ≡ true = eq-eqb r.named.row.place r.named.row.place refl in
    record {
      object = handle_of r.named.row.place;
      old = map entry_of d.listing.rows;
      new = map entry_of (without name d.listing.rows);
      relists = relists v w dir d.found.place d.found.node (left (next v) name d.found.node) d.listing (without_row name d.listing) d.found.is (dir_at v dir d) (removed_dir v dir name r);
      leaves = leaves_list name d.listing.rows r.named.row r.named.found;
      loses = loses v w s (removal_fits v s dir name r) r.named.row.place r.named.node (removed (next v) r.named.node)
          (record {
            below = r.named.below;
            was = r.named.there;
            is = removed_object v dir name r;
            live = r.named.live;
            holds = removed_holds (next v) r.named.node;
            gone = removed_gone (next v) r.named.node;
            fewer = omega (arith, removed_names v dir name r r.named.row.place, ap one_if same);
          });
      only = only_at (λ (h : List ℕ). (h ≡ dir) ⊎ (h ≡ handle_of r.named.row.place)) v w refl (λ q l z. removed_others v dir name r q (λ e. z (inl (ap handle_of e ∙ sym d.found.is))) (λ e. z (inr (ap handle_of e))));
    }

-- ---- the calls

pub removal : (v : View) → Sound v → (dir name : List ℕ) → DirFound v dir → is_none (named v.nodes dir name) ≡ false → Removal v dir name
removal v s dir name d e =
    let at = dir_at v dir d in
    let r = some_row name d.listing.rows (ap is_none (sym (named_is v dir name d.found.place d.found.node d.listing d.found.place_is at)) ∙ e) in
    record { dir_is = d; named = row_named v s d.found.place d.found.node d.listing name at r.0 r.1 }

pub removal_named : (v : View) (dir name : List ℕ) (r : Removal v dir name) → named v.nodes dir name ≡ Some r.named.row.place
removal_named v dir name r =
    let d = r.dir_is in
    named_is v dir name d.found.place d.found.node d.listing d.found.place_is (dir_at v dir d) ∙ ap (option_map (λ (x : Row). x.place)) r.named.found

pub removal_is : (v : View) (dir name : List ℕ) (r : Removal v dir name) → after_remove v dir name ≡ after_removing v dir name r.named.row.place
removal_is v dir name r = ap (λ (o : Option ℕ). takes v (changed_at (removed (next v)) o (leaves v dir name v.nodes))) (removal_named v dir name r)

pub remove_call : (v : View) → Sound v → (dir name : List ℕ) → IsDirSpelled (dirs.Remove dir name) → dir_refusal v (dirs.Remove dir name) ≡ 0 → Removal v dir name
remove_call v s dir name b e =
    let p = dir_passes v (dirs.Remove dir name) e in
    let f = found v dir b.0 (or_parts (is_stale v.nodes dir) (is_stale v.nodes dir) p.stale).0 in
    removal v s dir name (dir_found v dir f (not-false _ p.no_dir)) p.missing

pub rmdir_call : (v : View) → Sound v → (dir name : List ℕ) → IsDirSpelled (dirs.RmDir dir name) → dir_refusal v (dirs.RmDir dir name) ≡ 0 → Removal v dir name
rmdir_call v s dir name b e =
    let p = dir_passes v (dirs.RmDir dir name) e in
    let f = found v dir b.0 (or_parts (is_stale v.nodes dir) (is_stale v.nodes dir) p.stale).0 in
    removal v s dir name (dir_found v dir f (not-false _ (or_parts _ (is_named_no_dir v.nodes dir name) p.no_dir).0)) p.missing

pub removes_name : (v : View) → Sound v → (dir name : List ℕ) → IsDirSpelled (dirs.Remove dir name) → dir_refusal v (dirs.Remove dir name) ≡ 0
    → DoesDir (server_of v) (dirs.Remove dir name) (dir_answer v (after_remove v dir name) (dirs.Remove dir name)) (server_of (after_remove v dir name))
removes_name v s dir name b e =
    let r = remove_call v s dir name b e in
    (subst (λ (w : View). Removes (server_of v) (server_of w) dir name) (sym (removal_is v dir name r)) (removes v s dir name r), true_wcc v (after_remove v dir name) dir b.0)

pub removes_dir : (v : View) → Sound v → (dir name : List ℕ) → IsDirSpelled (dirs.RmDir dir name) → dir_refusal v (dirs.RmDir dir name) ≡ 0
    → DoesDir (server_of v) (dirs.RmDir dir name) (dir_answer v (after_remove v dir name) (dirs.RmDir dir name)) (server_of (after_remove v dir name))
removes_dir v s dir name b e =
    let r = rmdir_call v s dir name b e in
    (subst (λ (w : View). Removes (server_of v) (server_of w) dir name) (sym (removal_is v dir name r)) (removes v s dir name r), true_wcc v (after_remove v dir name) dir b.0)
