-- RENAME is what a server may do (RFC 1813, section 3.3.14).
use Rattle.std.proofs.Common.{◌≡◌, ◌+◌, ◌⊎◌, ◌&&◌, not, ℕ, zero, suc, Bool, true, false, List, [], ◌∷◌, ◌++◌, map, length, Option, Some, None, refl, sym, ap, subst, ◌∙◌, arith, inl, inr, ⊎_elim, ◌==◌, slice_get, option_map, append-nil, if◌then◌else◌}
use Rattle.std.specs.Prelude.{is_none}
use Rattle.std.specs.Str.{bytes_eq}
use Rattle.std.proofs.lemmas.Bool.{cases_Bool, cases_eq, or_parts, and_cases, not-false, eq-eqb, eqb-true, eqb-false, cond-true, cond-false}
use Rattle.std.proofs.lemmas.Slice.Eq.{bytes_eq-Decides}
use Rattle.nfs_dir_calls.specs.declared.call.DirCall.TheVariants as dirs
use Rattle.world_model.specs.Server.{Listed, Lists, HasName}
use Rattle.world_model.specs.Steps.{Only}
use Rattle.world_model.specs.Names.{Enters, Clears, left, absent, Loses}
use Rattle.world_model.specs.NameService.{HoldsMoved, Relists, Replaced, Moves, within, across, Renames, KeepsNames}
use Rattle.world_model.specs.Service.{DoesDir}
use Rattle.export_fs.specs.declared.node.Holds.{Holds}
use Rattle.export_fs.specs.declared.node.Holds.TheVariants.{File, Directory, Link}
use Rattle.export_fs.specs.declared.node.Node.{Node}
use Rattle.export_fs.specs.Held.{Row, Listing}
use Rattle.export_fs.specs.View.{View}
use Rattle.export_fs.specs.Parts.{handle_of, kind_of, kind_at, kind_in, rows_of, place_of}
use Rattle.export_fs.specs.Names.{named, find_row, without, without_row, with_row, is_own_name, is_below}
use Rattle.export_fs.specs.Changes as changes
use Rattle.export_fs.specs.Changes.{changed, entered, moved, unnamed, with_name, without_name, with_parent}
use Rattle.export_fs.specs.After.{next, changed_at, place_or_root, after_moving, after_rename_of, after_rename}
use Rattle.export_fs.specs.Answer.{dir_answer}
use Rattle.export_fs.specs.Refusals.{dir_refusal, is_stale, is_filled, is_filled_at, same_place, goes_below}
use Rattle.export_fs.specs.Seen.{server_of, object_of, entry_of, held_of}
use Rattle.export_fs.specs.Spelled.{IsDirSpelled}
use Rattle.export_fs.specs.Sound.{Sound, IsHeld, names_of, names_in, one_if}
use Rattle.export_fs.proofs.EntriesByName.{find-other, find-more-other, without-both, without-none, without-more-some, once-without}
use Rattle.export_fs.proofs.RefusalTable.{dir_passes}
use Rattle.export_fs.proofs.Objects.{changed_same, changed_other, changed_length, names_changed, names_kept}
use Rattle.export_fs.proofs.EntriesNamed.{stands, names_without, names_in_more, found_by}
use Rattle.export_fs.proofs.ServerOfExport.{found, seen_here, only_at, true_wcc, live_is, handle_apart}
use Rattle.export_fs.proofs.DirectoryNames.{DirFound, dir_found, DirAt, dir_at, named_is, some_row, NamedRow, row_named, has_name, listed_row, lists_row, leaves_list, lacks, map_append, rows_at, is_held}
use Rattle.export_fs.proofs.ContentStaysSound.{AllHeld, held_changed, held_changed_at, held_named, held_left, held_moved, unnamed_holds}
use Rattle.export_fs.proofs.ServesCreates.{relists, reads_at}
use Rattle.export_fs.proofs.ServesRemoves.{Fits, loses}

-- ---- what moves, and what it replaces

-- the object that has the new name, if there is one
pub data Target (v : View) (from into moving : ℕ) (to : List ℕ) (listing : Listing) (place : Option ℕ) : Type 0 where
  nothing : find_row to listing.rows ≡ None → place ≡ None → Target v from into moving to listing place
  an_object : (q : NamedRow v into to listing) → place ≡ Some q.row.place → (q.row.place ≡ moving → ⊥) → (q.row.place ≡ from → ⊥) → Target v from into moving to listing place

pub record Move (v : View) (dir name to_dir to : List ℕ) (target : Option ℕ) : Type 0 where
  pub from : DirFound v dir
  pub into : DirFound v to_dir
  pub named : NamedRow v from.found.place name from.listing
  pub apart : named.row.place ≡ into.found.place → ⊥
  pub other : from.found.place ≡ into.found.place → bytes_eq name to ≡ false
  pub own : is_own_name to ≡ false
  pub replaced : Target v from.found.place into.found.place named.row.place to into.listing target

-- what is replaced is neither of the directories, and isn't what moves
pub target_apart : (v : View) (dir name to_dir to : List ℕ) (t : Option ℕ) (m : Move v dir name to_dir to t) (x : ℕ) → t ≡ Some x → (x ≡ m.named.row.place → ⊥) × (x ≡ m.from.found.place → ⊥) × (x ≡ m.into.found.place → ⊥)
target_apart v dir name to_dir to t m x e =
    elim m.replaced [
      | nothing f n ↦ absurd (cc)
      | an_object q n a b ↦
          let s : x ≡ q.row.place = cc in
          (λ g. a (sym s ∙ g), λ g. b (sym s ∙ g), λ g. q.entry.apart (sym s ∙ g))
    ]

-- ---- the objects, step by step

abbrev pub nodes_one : (v : View) (dir name to_dir to : List ℕ) (t : Option ℕ) → Move v dir name to_dir to t → List Node
nodes_one v dir name to_dir to t m = changed (entered (next v) to m.named.row.place) m.into.found.place v.nodes

abbrev pub nodes_two : (v : View) (dir name to_dir to : List ℕ) (t : Option ℕ) → Move v dir name to_dir to t → List Node
nodes_two v dir name to_dir to t m = changed (changes.left (next v) name) m.from.found.place (nodes_one v dir name to_dir to t m)

abbrev pub nodes_three : (v : View) (dir name to_dir to : List ℕ) (t : Option ℕ) → Move v dir name to_dir to t → List Node
nodes_three v dir name to_dir to t m = changed_at unnamed t (nodes_two v dir name to_dir to t m)

abbrev pub nodes_four : (v : View) (dir name to_dir to : List ℕ) (t : Option ℕ) → Move v dir name to_dir to t → List Node
nodes_four v dir name to_dir to t m = changed (moved (place_or_root to_dir)) m.named.row.place (nodes_three v dir name to_dir to t m)

pub moving_nodes : (v : View) (dir name to_dir to : List ℕ) (t : Option ℕ) (m : Move v dir name to_dir to t) → (after_moving v dir name to_dir to t m.named.row.place).nodes ≡ nodes_four v dir name to_dir to t m
moving_nodes v dir name to_dir to t m =
    let end : List Node → List Node = λ x. changed (moved (place_or_root to_dir)) m.named.row.place (changed_at unnamed t x) in
    ap (λ (o : Option ℕ). end (changed_at (changes.left (next v) name) o (changed_at (entered (next v) to m.named.row.place) (place_of to_dir) v.nodes))) m.from.found.place_is
    ∙ ap (λ (o : Option ℕ). end (changed (changes.left (next v) name) m.from.found.place (changed_at (entered (next v) to m.named.row.place) o v.nodes))) m.into.found.place_is

pub at_other : (f : Node → Node) (o : Option ℕ) (y : ℕ) (nodes : List Node) → ((x : ℕ) → o ≡ Some x → y ≡ x → ⊥) → slice_get (changed_at f o nodes) y ≡ slice_get nodes y
at_other f None y nodes d = refl
at_other f (Some x) y nodes d = changed_other f x y nodes (d x refl)

-- an object that is neither moved nor replaced is as after the names changed
pub named_only : (v : View) (dir name to_dir to : List ℕ) (t : Option ℕ) (m : Move v dir name to_dir to t) (y : ℕ) → (y ≡ m.named.row.place → ⊥) → ((x : ℕ) → t ≡ Some x → y ≡ x → ⊥) → slice_get (nodes_four v dir name to_dir to t m) y ≡ slice_get (nodes_two v dir name to_dir to t m) y
named_only v dir name to_dir to t m y a b = changed_other (moved (place_or_root to_dir)) m.named.row.place y (nodes_three v dir name to_dir to t m) a ∙ at_other unnamed t y (nodes_two v dir name to_dir to t m) b

-- an object that is neither of the directories has the same entries
pub same_entries : (v : View) (dir name to_dir to : List ℕ) (t : Option ℕ) (m : Move v dir name to_dir to t) (y : ℕ) → (y ≡ m.from.found.place → ⊥) → (y ≡ m.into.found.place → ⊥) → slice_get (nodes_two v dir name to_dir to t m) y ≡ slice_get v.nodes y
same_entries v dir name to_dir to t m y a b = changed_other (changes.left (next v) name) m.from.found.place y (nodes_one v dir name to_dir to t m) a ∙ changed_other (entered (next v) to m.named.row.place) m.into.found.place y v.nodes b

pub moved_there : (v : View) (dir name to_dir to : List ℕ) (t : Option ℕ) (m : Move v dir name to_dir to t) → slice_get (nodes_four v dir name to_dir to t m) m.named.row.place ≡ Some (moved (place_or_root to_dir) m.named.node)
moved_there v dir name to_dir to t m =
    changed_same (moved (place_or_root to_dir)) m.named.row.place (nodes_three v dir name to_dir to t m) m.named.node
    (at_other unnamed t m.named.row.place (nodes_two v dir name to_dir to t m) (λ x e g. (target_apart v dir name to_dir to t m x e).0 (sym g)) ∙ same_entries v dir name to_dir to t m m.named.row.place m.named.entry.apart m.apart ∙ m.named.there)

pub target_there : (v : View) (dir name to_dir to : List ℕ) (t : Option ℕ) (m : Move v dir name to_dir to t) (x : ℕ) (node : Node) → t ≡ Some x → slice_get v.nodes x ≡ Some node → slice_get (nodes_four v dir name to_dir to t m) x ≡ Some (unnamed node)
target_there v dir name to_dir to t m x node e g =
    let a = target_apart v dir name to_dir to t m x e in
    changed_other (moved (place_or_root to_dir)) m.named.row.place x (nodes_three v dir name to_dir to t m) a.0
    ∙ ap (λ (o : Option ℕ). slice_get (changed_at unnamed o (nodes_two v dir name to_dir to t m)) x) e
    ∙ changed_same unnamed x (nodes_two v dir name to_dir to t m) node (same_entries v dir name to_dir to t m x a.1 a.2 ∙ g)

-- ---- the directory that the name leaves, when the new name entered

pub record Between (v : View) (dir name to_dir to : List ℕ) (t : Option ℕ) (m : Move v dir name to_dir to t) : Type 0 where
  pub node : Node
  pub listing : Listing
  pub there : slice_get (nodes_one v dir name to_dir to t m) m.from.found.place ≡ Some node
  pub live : node.gone ≡ false
  pub holds : node.holds ≡ Directory listing
  pub found : find_row name listing.rows ≡ Some m.named.row

-- two directories
between_across : (v : View) (dir name to_dir to : List ℕ) (t : Option ℕ) (m : Move v dir name to_dir to t) → (m.from.found.place ≡ m.into.found.place → ⊥) → Between v dir name to_dir to t m
between_across v dir name to_dir to t m d = record {
  node = m.from.found.node;
  listing = m.from.listing;
  there = changed_other (entered (next v) to m.named.row.place) m.into.found.place m.from.found.place v.nodes d ∙ m.from.found.there;
  live = m.from.found.live;
  holds = m.from.holds;
  found = m.named.found;
}

-- the two directories are one
pub record Same (v : View) (dir name to_dir to : List ℕ) (t : Option ℕ) (m : Move v dir name to_dir to t) : Type 0 where
  pub place : m.from.found.place ≡ m.into.found.place
  pub node : m.from.found.node ≡ m.into.found.node
  pub listing : m.from.listing ≡ m.into.listing
  pub handle : dir ≡ to_dir

same_dir : (v : View) (dir name to_dir to : List ℕ) (t : Option ℕ) (m : Move v dir name to_dir to t) → m.from.found.place ≡ m.into.found.place → Same v dir name to_dir to t m
same_dir v dir name to_dir to t m e =
    let n : Some m.from.found.node ≡ Some m.into.found.node = sym m.from.found.there ∙ ap (slice_get v.nodes) e ∙ m.into.found.there in
    let node : m.from.found.node ≡ m.into.found.node = cc in
    let d : Directory m.from.listing ≡ Directory m.into.listing = sym m.from.holds ∙ ap (λ (x : Node). x.holds) node ∙ m.into.holds in
    record { place = e; node = node; listing = cc; handle = m.from.found.is ∙ ap handle_of e ∙ sym m.into.found.is }

abbrev new_row : (v : View) (dir name to_dir to : List ℕ) (t : Option ℕ) → Move v dir name to_dir to t → Row
new_row v dir name to_dir to t m = record { name = to; place = m.named.row.place; cookie = m.into.listing.last + 1 }

still_found : (v : View) (dir name to_dir to : List ℕ) (t : Option ℕ) (m : Move v dir name to_dir to t) → Same v dir name to_dir to t m → find_row name (without to m.into.listing.rows) ≡ Some m.named.row
still_found v dir name to_dir to t m s = find-other name to m.into.listing.rows (m.other s.place) ∙ ap (λ (l : Listing). find_row name l.rows) (sym s.listing) ∙ m.named.found

between_within : (v : View) (dir name to_dir to : List ℕ) (t : Option ℕ) (m : Move v dir name to_dir to t) → Same v dir name to_dir to t m → Between v dir name to_dir to t m
between_within v dir name to_dir to t m s = record {
  node = entered (next v) to m.named.row.place m.into.found.node;
  listing = with_row to m.named.row.place m.into.listing;
  there = ap (slice_get (nodes_one v dir name to_dir to t m)) s.place ∙ changed_same (entered (next v) to m.named.row.place) m.into.found.place v.nodes m.into.found.node m.into.found.there;
  live = m.into.found.live;
  holds = ap (with_name to m.named.row.place) m.into.holds;
  found = find-more-other name (without to m.into.listing.rows) (new_row v dir name to_dir to t m) (m.other s.place) ∙ still_found v dir name to_dir to t m s;
}

pub between : (v : View) (dir name to_dir to : List ℕ) (t : Option ℕ) (m : Move v dir name to_dir to t) → Between v dir name to_dir to t m
between v dir name to_dir to t m =
    ⊎_elim (λ (e : m.from.found.place ≡ m.into.found.place). between_within v dir name to_dir to t m (same_dir v dir name to_dir to t m e)) (λ (d : m.from.found.place ≡ m.into.found.place → ⊥). between_across v dir name to_dir to t m d) (cases_eq m.from.found.place m.into.found.place)

-- ---- the directories afterwards

from_after : (v : View) (dir name to_dir to : List ℕ) (t : Option ℕ) (m : Move v dir name to_dir to t) (b : Between v dir name to_dir to t m) → DirAt (after_moving v dir name to_dir to t m.named.row.place) m.from.found.place (changes.left (next v) name b.node) (without_row name b.listing)
from_after v dir name to_dir to t m b = record {
  below = m.from.found.below;
  there =
      ap (λ (x : List Node). slice_get x m.from.found.place) (moving_nodes v dir name to_dir to t m)
      ∙ named_only v dir name to_dir to t m m.from.found.place (λ e. m.named.entry.apart (sym e)) (λ x e g. (target_apart v dir name to_dir to t m x e).1 (sym g))
      ∙ changed_same (changes.left (next v) name) m.from.found.place (nodes_one v dir name to_dir to t m) b.node b.there;
  live = b.live;
  holds = ap (without_name name) b.holds;
}

into_after : (v : View) (dir name to_dir to : List ℕ) (t : Option ℕ) (m : Move v dir name to_dir to t) → (m.from.found.place ≡ m.into.found.place → ⊥) → DirAt (after_moving v dir name to_dir to t m.named.row.place) m.into.found.place (entered (next v) to m.named.row.place m.into.found.node) (with_row to m.named.row.place m.into.listing)
into_after v dir name to_dir to t m d = record {
  below = m.into.found.below;
  there =
      ap (λ (x : List Node). slice_get x m.into.found.place) (moving_nodes v dir name to_dir to t m)
      ∙ named_only v dir name to_dir to t m m.into.found.place (λ e. m.apart (sym e)) (λ x e g. (target_apart v dir name to_dir to t m x e).2 (sym g))
      ∙ changed_other (changes.left (next v) name) m.from.found.place m.into.found.place (nodes_one v dir name to_dir to t m) (λ e. d (sym e))
      ∙ changed_same (entered (next v) to m.named.row.place) m.into.found.place v.nodes m.into.found.node m.into.found.there;
  live = m.into.found.live;
  holds = ap (with_name to m.named.row.place) m.into.holds;
}

-- ---- lists

pub clears_list : (name : List ℕ) (rows : List Row) → Clears name (map entry_of rows) (map entry_of (without name rows))
clears_list name rows = by_row (find_row name rows) refl where
  by_row : (o : Option Row) → find_row name rows ≡ o → Clears name (map entry_of rows) (map entry_of (without name rows))
  by_row None e = absent (lacks name rows e) (ap (map entry_of) (without-none name rows e))
  by_row (Some row) e = left (handle_of row.place) (leaves_list name rows row e)

pub enters_list : (name : List ℕ) (place cookie : ℕ) (rows : List Row) → find_row name rows ≡ None → Enters name (handle_of place) (map entry_of rows) (map entry_of (rows ++ record { name = name; place = place; cookie = cookie } ∷ []))
enters_list name place cookie rows f = record {
  before = map entry_of rows;
  after = [];
  cookie = cookie;
  was = sym (append-nil (map entry_of rows));
  is = map_append rows (record { name = name; place = place; cookie = cookie } ∷ []);
  fresh = lacks name rows f;
}

moves_across : (v : View) → Sound v → (dir name to_dir to : List ℕ) (t : Option ℕ) (m : Move v dir name to_dir to t) → (m.from.found.place ≡ m.into.found.place → ⊥)
    → Moves (server_of v) (server_of (after_moving v dir name to_dir to t m.named.row.place)) dir name to_dir to (handle_of m.named.row.place) (map entry_of m.into.listing.rows)
unfolding between_across
moves_across v s dir name to_dir to t m d =
    let w = after_moving v dir name to_dir to t m.named.row.place in
    let h = is_held v s m.into.found.place m.into.found.node m.into.listing (dir_at v to_dir m.into) in
    across (map entry_of m.from.listing.rows) (map entry_of (without name m.from.listing.rows)) (map entry_of (without to m.into.listing.rows)) (map entry_of (with_row to m.named.row.place m.into.listing).rows)
    (λ e. d (handle_apart m.from.found.place m.into.found.place m.from.found.below m.into.found.below (sym m.from.found.is ∙ e ∙ m.into.found.is)))
    (leaves_list name m.from.listing.rows m.named.row m.named.found)
    (relists v w dir m.from.found.place m.from.found.node (changes.left (next v) name m.from.found.node) m.from.listing (without_row name m.from.listing) m.from.found.is (dir_at v dir m.from) (from_after v dir name to_dir to t m (between_across v dir name to_dir to t m d)))
    (clears_list to m.into.listing.rows)
    (enters_list to m.named.row.place (m.into.listing.last + 1) (without to m.into.listing.rows) (h.once to))
    (relists v w to_dir m.into.found.place m.into.found.node (entered (next v) to m.named.row.place m.into.found.node) m.into.listing (with_row to m.named.row.place m.into.listing) m.into.found.is (dir_at v to_dir m.into) (into_after v dir name to_dir to t m d))

moves_within : (v : View) → Sound v → (dir name to_dir to : List ℕ) (t : Option ℕ) (m : Move v dir name to_dir to t) → Same v dir name to_dir to t m
    → Moves (server_of v) (server_of (after_moving v dir name to_dir to t m.named.row.place)) dir name to_dir to (handle_of m.named.row.place) (map entry_of m.into.listing.rows)
unfolding between_within
moves_within v s dir name to_dir to t m same =
    let w = after_moving v dir name to_dir to t m.named.row.place in
    let rows = m.into.listing.rows in
    let row = new_row v dir name to_dir to t m in
    let h = is_held v s m.into.found.place m.into.found.node m.into.listing (dir_at v to_dir m.into) in
    let f : find_row name rows ≡ Some m.named.row = ap (λ (l : Listing). find_row name l.rows) (sym same.listing) ∙ m.named.found in
    let rest : without name (without to rows ++ row ∷ []) ≡ without to (without name rows) ++ row ∷ [] =
    without-more-some name (without to rows) row m.named.row (still_found v dir name to_dir to t m same) ∙ ap (λ (z : List Row). z ++ row ∷ []) (without-both name to rows (m.other same.place)) in
    let r = relists v w dir m.from.found.place m.from.found.node (changes.left (next v) name (entered (next v) to m.named.row.place m.into.found.node)) m.from.listing (without_row name (with_row to m.named.row.place m.into.listing)) m.from.found.is (dir_at v dir m.from) (from_after v dir name to_dir to t m (between_within v dir name to_dir to t m same)) in
    within (map entry_of (without name rows)) (map entry_of (without to (without name rows))) (map entry_of (without to (without name rows) ++ row ∷ []))
    same.handle
    (leaves_list name rows m.named.row f)
    (clears_list to (without name rows))
    (enters_list to m.named.row.place (m.into.listing.last + 1) (without to (without name rows)) (once-without name rows h.once to))
    (subst (λ (l : Listing). Relists (server_of v) (server_of w) dir (map entry_of l.rows) (map entry_of (without to (without name rows) ++ row ∷ []))) same.listing
    (subst (λ (z : List Row). Relists (server_of v) (server_of w) dir (map entry_of m.from.listing.rows) (map entry_of z)) rest r))

pub moves : (v : View) → Sound v → (dir name to_dir to : List ℕ) (t : Option ℕ) (m : Move v dir name to_dir to t)
    → Moves (server_of v) (server_of (after_moving v dir name to_dir to t m.named.row.place)) dir name to_dir to (handle_of m.named.row.place) (map entry_of m.into.listing.rows)
moves v s dir name to_dir to t m =
    ⊎_elim (λ (e : m.from.found.place ≡ m.into.found.place). moves_within v s dir name to_dir to t m (same_dir v dir name to_dir to t m e)) (λ (d : m.from.found.place ≡ m.into.found.place → ⊥). moves_across v s dir name to_dir to t m d) (cases_eq m.from.found.place m.into.found.place)

-- ---- names counted

-- entries of the object that moves and of the one that is replaced, in the directory that it moves to
pub names_entered : (v : View) (dir name to_dir to : List ℕ) (t : Option ℕ) (m : Move v dir name to_dir to t) (place : ℕ)
    → names_of place (nodes_one v dir name to_dir to t m) + names_in place m.into.listing.rows ≡ names_of place v.nodes + names_in place (without to m.into.listing.rows) + one_if (m.named.row.place == place)
names_entered v dir name to_dir to t m place =
    let a = names_changed place (entered (next v) to m.named.row.place) m.into.found.place v.nodes m.into.found.node m.into.found.there in
    let was : names_in place (rows_of m.into.found.node.holds) ≡ names_in place m.into.listing.rows = ap (λ (h : Holds). names_in place (rows_of h)) m.into.holds in
    let is : names_in place (rows_of (entered (next v) to m.named.row.place m.into.found.node).holds) ≡ names_in place (with_row to m.named.row.place m.into.listing).rows = ap (λ (h : Holds). names_in place (rows_of (with_name to m.named.row.place h))) m.into.holds in
    let b : names_in place (with_row to m.named.row.place m.into.listing).rows ≡ names_in place (without to m.into.listing.rows) + one_if (m.named.row.place == place) = names_in_more place (without to m.into.listing.rows) (new_row v dir name to_dir to t m) in
    omega (arith, a, was, is, b)

pub names_left : (v : View) (dir name to_dir to : List ℕ) (t : Option ℕ) (m : Move v dir name to_dir to t) (place : ℕ)
    → names_of place (nodes_two v dir name to_dir to t m) + one_if (m.named.row.place == place) ≡ names_of place (nodes_one v dir name to_dir to t m)
names_left v dir name to_dir to t m place =
    let b = between v dir name to_dir to t m in
    let a = names_changed place (changes.left (next v) name) m.from.found.place (nodes_one v dir name to_dir to t m) b.node b.there in
    let was : names_in place (rows_of b.node.holds) ≡ names_in place b.listing.rows = ap (λ (h : Holds). names_in place (rows_of h)) b.holds in
    let is : names_in place (rows_of (changes.left (next v) name b.node).holds) ≡ names_in place (without name b.listing.rows) = ap (λ (h : Holds). names_in place (rows_of (without_name name h))) b.holds in
    let c = names_without place name b.listing.rows m.named.row b.found in
    omega (arith, a, was, is, c)

pub moved_rows : (parent : ℕ) (holds : Holds) → rows_of (with_parent parent holds) ≡ rows_of holds
moved_rows parent (File content) = refl
moved_rows parent (Directory listing) = refl
moved_rows parent (Link text) = refl

unnamed_names : (place : ℕ) (t : Option ℕ) (nodes : List Node) → names_of place (changed_at unnamed t nodes) ≡ names_of place nodes
unnamed_names place None nodes = refl
unnamed_names place (Some x) nodes = names_kept place unnamed x nodes (λ n. ap rows_of (unnamed_holds n))

-- what moves has as many names as before, and what it replaces one less
pub moving_names : (v : View) (dir name to_dir to : List ℕ) (t : Option ℕ) (m : Move v dir name to_dir to t) (place : ℕ)
    → names_of place (after_moving v dir name to_dir to t m.named.row.place).nodes + names_in place m.into.listing.rows ≡ names_of place v.nodes + names_in place (without to m.into.listing.rows)
moving_names v dir name to_dir to t m place =
    let a : names_of place (after_moving v dir name to_dir to t m.named.row.place).nodes ≡ names_of place (nodes_two v dir name to_dir to t m) =
    ap (names_of place) (moving_nodes v dir name to_dir to t m) ∙ names_kept place (moved (place_or_root to_dir)) m.named.row.place (nodes_three v dir name to_dir to t m) (λ n. moved_rows (place_or_root to_dir) n.holds) ∙ unnamed_names place t (nodes_two v dir name to_dir to t m) in
    omega (arith, a, names_left v dir name to_dir to t m place, names_entered v dir name to_dir to t m place)

-- ---- what the objects hold stays sound

pub moving_length : (v : View) (dir name to_dir to : List ℕ) (t : Option ℕ) (m : Move v dir name to_dir to t) → length (after_moving v dir name to_dir to t m.named.row.place).nodes ≡ length v.nodes
moving_length v dir name to_dir to t m =
    ap length (moving_nodes v dir name to_dir to t m) ∙ changed_length (moved (place_or_root to_dir)) m.named.row.place (nodes_three v dir name to_dir to t m) ∙ unnamed_length t (nodes_two v dir name to_dir to t m)
    ∙ changed_length (changes.left (next v) name) m.from.found.place (nodes_one v dir name to_dir to t m) ∙ changed_length (entered (next v) to m.named.row.place) m.into.found.place v.nodes where
      unnamed_length : (o : Option ℕ) (nodes : List Node) → length (changed_at unnamed o nodes) ≡ length nodes
      unnamed_length None nodes = refl
      unnamed_length (Some x) nodes = changed_length unnamed x nodes

pub moving_held : (v : View) → Sound v → (dir name to_dir to : List ℕ) (t : Option ℕ) (m : Move v dir name to_dir to t) → AllHeld (length (after_moving v dir name to_dir to t m.named.row.place).nodes) (after_moving v dir name to_dir to t m.named.row.place).nodes
moving_held v s dir name to_dir to t m =
    let count = length v.nodes in
    let one : AllHeld count (nodes_one v dir name to_dir to t m) =
    held_changed count (entered (next v) to m.named.row.place) m.into.found.place v.nodes s.held (λ node h. held_named count m.into.found.place to m.named.row.place node.holds m.named.entry.there m.apart m.own h) in
    let two : AllHeld count (nodes_two v dir name to_dir to t m) =
    held_changed count (changes.left (next v) name) m.from.found.place (nodes_one v dir name to_dir to t m) one (λ node h. held_left count m.from.found.place name node.holds h) in
    let three : AllHeld count (nodes_three v dir name to_dir to t m) =
    held_changed_at count unnamed t (nodes_two v dir name to_dir to t m) two (λ q node e h. subst (IsHeld count q) (sym (unnamed_holds node)) h) in
    let four : AllHeld count (nodes_four v dir name to_dir to t m) =
    held_changed count (moved (place_or_root to_dir)) m.named.row.place (nodes_three v dir name to_dir to t m) three (λ node h. held_moved count m.named.row.place (place_or_root to_dir) node.holds h) in
    let w = after_moving v dir name to_dir to t m.named.row.place in
    subst (λ (n : ℕ). AllHeld n w.nodes) (sym (moving_length v dir name to_dir to t m)) (subst (AllHeld count) (sym (moving_nodes v dir name to_dir to t m)) four)

pub moving_fits : (v : View) → Sound v → (dir name to_dir to : List ℕ) (t : Option ℕ) (m : Move v dir name to_dir to t) → Fits (after_moving v dir name to_dir to t m.named.row.place)
moving_fits v s dir name to_dir to t m = record { held = moving_held v s dir name to_dir to t m; few = omega (arith, moving_length v dir name to_dir to t m, s.places, s.numbers) }

-- ---- the call

holds_moved : (parent : ℕ) (holds : Holds) → HoldsMoved (held_of holds) (held_of (with_parent parent holds))
holds_moved parent (File content) = refl
holds_moved parent (Directory listing) = (map entry_of listing.rows, refl, λ e n. (λ l. l, λ l. l))
holds_moved parent (Link text) = refl

pub moved_kind : (parent : ℕ) (holds : Holds) → kind_of (with_parent parent holds) ≡ kind_of holds
moved_kind parent (File content) = refl
moved_kind parent (Directory listing) = refl
moved_kind parent (Link text) = refl

-- the object under the new name loses it
target_loses : (v : View) → Sound v → (dir name to_dir to : List ℕ) (t : Option ℕ) (m : Move v dir name to_dir to t) (q : NamedRow v m.into.found.place to m.into.listing) → t ≡ Some q.row.place
    → Loses (server_of v) (server_of (after_moving v dir name to_dir to t m.named.row.place)) (handle_of q.row.place)
target_loses v s dir name to_dir to t m q e =
    let w = after_moving v dir name to_dir to t m.named.row.place in
    let same : (q.row.place == q.row.place) ≡ true = eq-eqb q.row.place q.row.place refl in
    loses v w s (moving_fits v s dir name to_dir to t m) q.row.place q.node (unnamed q.node)
    (record {
      below = q.below;
      was = q.there;
      is = ap (λ (x : List Node). slice_get x q.row.place) (moving_nodes v dir name to_dir to t m) ∙ target_there v dir name to_dir to t m q.row.place q.node e q.there;
      live = q.live;
      holds = unnamed_holds q.node;
      gone = refl;
      fewer = omega (arith, moving_names v dir name to_dir to t m q.row.place, names_without q.row.place to m.into.listing.rows q.row q.found, ap one_if same);
    })

replaced : (v : View) → Sound v → (dir name to_dir to : List ℕ) (t : Option ℕ) (m : Move v dir name to_dir to t) (h : List ℕ)
    → Replaced (server_of v) (server_of (after_moving v dir name to_dir to t m.named.row.place)) (map entry_of m.into.listing.rows) to h
replaced v s dir name to_dir to t m h e l n o =
    let rows = m.into.listing.rows in
    let held = is_held v s m.into.found.place m.into.found.node m.into.listing (dir_at v to_dir m.into) in
    let r = listed_row rows l.0 e l.1 in
    let f : find_row to rows ≡ Some r.row = found_by to rows r.at r.row (held.once to) r.is (ap (λ (x : Listed). x.name) r.entry ∙ n) in
    let w = after_moving v dir name to_dir to t m.named.row.place in
    elim m.replaced [
      | nothing g k ↦ let c : Some r.row ≡ None = sym f ∙ g in absurd (cc)
      | an_object q k a b ↦
          let c : Some q.row ≡ Some r.row = sym q.found ∙ f in
          let same : q.row ≡ r.row = cc in
          let is : handle_of q.row.place ≡ h = ap (λ (x : Row). handle_of x.place) same ∙ ap (λ (x : Listed). x.object) r.entry ∙ o in
          subst (Loses (server_of v) (server_of w)) is (target_loses v s dir name to_dir to t m q k)
    ]

-- what a RENAME may change
abbrev MayChange : (dir to_dir object : List ℕ) → List Listed → List ℕ → List ℕ → Type 0
MayChange dir to_dir object target to h = (h ≡ dir) ⊎ (h ≡ to_dir) ⊎ (h ≡ object) ⊎ ((entry : Listed) × Lists target entry × (entry.name ≡ to) × (entry.object ≡ h))

renames_only : (v : View) (dir name to_dir to : List ℕ) (t : Option ℕ) (m : Move v dir name to_dir to t)
    → Only (MayChange dir to_dir (handle_of m.named.row.place) (map entry_of m.into.listing.rows) to) (server_of v) (server_of (after_moving v dir name to_dir to t m.named.row.place))
renames_only v dir name to_dir to t m =
    let w = after_moving v dir name to_dir to t m.named.row.place in
    only_at (MayChange dir to_dir (handle_of m.named.row.place) (map entry_of m.into.listing.rows) to) v w refl (λ p l z.
    let a : p ≡ m.from.found.place → ⊥ = λ e. z (inl (ap handle_of e ∙ sym m.from.found.is)) in
    let b : p ≡ m.into.found.place → ⊥ = λ e. z (inr (inl (ap handle_of e ∙ sym m.into.found.is))) in
    let c : p ≡ m.named.row.place → ⊥ = λ e. z (inr (inr (inl (ap handle_of e)))) in
    let d : (x : ℕ) → t ≡ Some x → p ≡ x → ⊥ = λ x e g.
    elim m.replaced [
      | nothing f n ↦ absurd (cc)
      | an_object q n i j ↦
          let st = stands to m.into.listing.rows q.row q.found in
          let here : x ≡ q.row.place = cc in
          z (inr (inr (inr (record { name = to; object = handle_of q.row.place; cookie = q.row.cookie }, lists_row m.into.listing.rows st.at q.row to st.at_is st.name_is, refl, ap handle_of (sym (g ∙ here))))))
    ] in
    ap (λ (x : List Node). slice_get x p) (moving_nodes v dir name to_dir to t m) ∙ named_only v dir name to_dir to t m p c d ∙ same_entries v dir name to_dir to t m p a b)

pub renames : (v : View) → Sound v → (dir name to_dir to : List ℕ) (t : Option ℕ) (m : Move v dir name to_dir to t) → Renames (server_of v) (server_of (after_moving v dir name to_dir to t m.named.row.place)) dir name to_dir to
renames v s dir name to_dir to t m =
    let w = after_moving v dir name to_dir to t m.named.row.place in
    let q = m.named in
    let after = moved (place_or_root to_dir) q.node in
    record {
      object = handle_of q.row.place;
      target = map entry_of m.into.listing.rows;
      moves = moves v s dir name to_dir to t m;
      moved = object_of q.row.place q.node;
      later = held_of after.holds;
      holds = holds_moved (place_or_root to_dir) q.node.holds;
      turns = record {
        has = record { is = seen_here v q.row.place q.node q.below q.there; there = q.live };
        new = object_of q.row.place after;
        is = seen_here w q.row.place after q.below (ap (λ (x : List Node). slice_get x q.row.place) (moving_nodes v dir name to_dir to t m) ∙ moved_there v dir name to_dir to t m);
        becomes = record { holds = refl; gone = refl; kind = moved_kind (place_or_root to_dir) q.node.holds; fileid = refl };
      };
      replaced = λ h d. replaced v s dir name to_dir to t m h;
      only = renames_only v dir name to_dir to t m;
    }

-- ---- the call that isn't refused

-- the two names, before it is known what has the new one
pub record TwoNames (v : View) (dir name to_dir to : List ℕ) : Type 0 where
  pub from : DirFound v dir
  pub into : DirFound v to_dir
  pub named : NamedRow v from.found.place name from.listing
  pub apart : named.row.place ≡ into.found.place → ⊥
  pub own : is_own_name to ≡ false

below_self : (n : ℕ) (nodes : List Node) (a : ℕ) → is_below n nodes a a ≡ true
below_self zero nodes a = eq-eqb a a refl
below_self (suc n) nodes a = let e : (a == a) ≡ true = eq-eqb a a refl in simp e

pub source_named : (v : View) (dir name : List ℕ) (d : DirFound v dir) (q : NamedRow v d.found.place name d.listing) → named v.nodes dir name ≡ Some q.row.place
source_named v dir name d q = named_is v dir name d.found.place d.found.node d.listing d.found.place_is (dir_at v dir d) ∙ ap (option_map (λ (x : Row). x.place)) q.found

not_into : (v : View) (dir name to_dir : List ℕ) (d : DirFound v dir) (e : DirFound v to_dir) (q : NamedRow v d.found.place name d.listing) → goes_below v.nodes (named v.nodes dir name) (place_of to_dir) ≡ false → q.row.place ≡ e.found.place → ⊥
not_into v dir name to_dir d e q g s =
    let a : ((kind_at v.nodes (Some q.row.place) == 2) && is_below (length v.nodes) v.nodes q.row.place e.found.place) ≡ false =
    ap (λ (o : Option ℕ). goes_below v.nodes (Some q.row.place) o) (sym e.found.place_is) ∙ ap (λ (o : Option ℕ). goes_below v.nodes o (place_of to_dir)) (sym (source_named v dir name d q)) ∙ g in
    let k : (kind_at v.nodes (Some q.row.place) == 2) ≡ true =
    ap (λ (n : ℕ). kind_at v.nodes (Some n) == 2) s ∙ ap (λ (o : Option Node). kind_in o == 2) (live_is v.nodes e.found.place e.found.node e.found.there e.found.live) ∙ ap (λ (h : Holds). kind_of h == 2) e.holds in
    let b : is_below (length v.nodes) v.nodes q.row.place e.found.place ≡ true = ap (is_below (length v.nodes) v.nodes q.row.place) (sym s) ∙ below_self (length v.nodes) v.nodes q.row.place in
    ⊎_elim (λ (z : (kind_at v.nodes (Some q.row.place) == 2) ≡ false). absurd (cc)) (λ (z : is_below (length v.nodes) v.nodes q.row.place e.found.place ≡ false). absurd (cc))
    (and_cases (kind_at v.nodes (Some q.row.place) == 2) (is_below (length v.nodes) v.nodes q.row.place e.found.place) a)

pub rename_names : (v : View) → Sound v → (dir name to_dir to : List ℕ) → IsDirSpelled (dirs.Rename dir name to_dir to) → dir_refusal v (dirs.Rename dir name to_dir to) ≡ 0 → TwoNames v dir name to_dir to
rename_names v s dir name to_dir to b e =
    let p = dir_passes v (dirs.Rename dir name to_dir to) e in
    let st = or_parts (is_stale v.nodes dir) (is_stale v.nodes to_dir) p.stale in
    let k = or_parts _ _ p.no_dir in
    let d = dir_found v dir (found v dir b.0 st.0) (not-false _ k.0) in
    let i = dir_found v to_dir (found v to_dir b.1 st.1) (not-false _ k.1) in
    let at = dir_at v dir d in
    let r = some_row name d.listing.rows (ap is_none (sym (named_is v dir name d.found.place d.found.node d.listing d.found.place_is at)) ∙ p.missing) in
    let q = row_named v s d.found.place d.found.node d.listing name at r.0 r.1 in
    record { from = d; into = i; named = q; apart = not_into v dir name to_dir d i q p.invalid; own = (or_parts (is_own_name to) _ p.there).0 }

-- in one directory the two names differ, where another object has the new one, or none
names_differ : (v : View) (dir name to_dir to : List ℕ) (n : TwoNames v dir name to_dir to) → ((row : Row) → find_row to n.into.listing.rows ≡ Some row → row.place ≡ n.named.row.place → ⊥) → n.from.found.place ≡ n.into.found.place → bytes_eq name to ≡ false
names_differ v dir name to_dir to n d e =
    ⊎_elim (λ (b : bytes_eq name to ≡ true).
    let same : name ≡ to = (bytes_eq-Decides name to).0 b in
    let nodes : Some n.from.found.node ≡ Some n.into.found.node = sym n.from.found.there ∙ ap (slice_get v.nodes) e ∙ n.into.found.there in
    let node : n.from.found.node ≡ n.into.found.node = cc in
    let l : Directory n.from.listing ≡ Directory n.into.listing = sym n.from.holds ∙ ap (λ (x : Node). x.holds) node ∙ n.into.holds in
    let listing : n.from.listing ≡ n.into.listing = cc in
    let f : find_row to n.into.listing.rows ≡ Some n.named.row = ap (λ (x : List ℕ). find_row x n.into.listing.rows) (sym same) ∙ ap (λ (x : Listing). find_row name x.rows) (sym listing) ∙ n.named.found in
    absurd (d n.named.row f refl))
    (λ (b : bytes_eq name to ≡ false). b)
    (cases_Bool (bytes_eq name to))

filled_if : (name : List ℕ) (rows : List Row) (row : Row) → find_row name rows ≡ Some row → is_filled rows ≡ true
filled_if name [] row f = absurd (cc)
filled_if name (r ∷ rows) row f = refl

-- a directory that isn't filled isn't the one that the name leaves
not_source : (v : View) (dir name to_dir to : List ℕ) (n : TwoNames v dir name to_dir to) (x : ℕ) → is_filled_at v.nodes (Some x) ≡ false → x ≡ n.from.found.place → ⊥
not_source v dir name to_dir to n x f e =
    let r = rows_at v n.from.found.place n.from.found.node n.from.listing (dir_at v dir n.from) in
    let t : is_filled_at v.nodes (Some x) ≡ true = ap (λ (y : ℕ). is_filled_at v.nodes (Some y)) e ∙ ap is_filled r ∙ filled_if name n.from.listing.rows n.named.row n.named.found in
    absurd (cc)

pub move_to_none : (v : View) (dir name to_dir to : List ℕ) (n : TwoNames v dir name to_dir to) → find_row to n.into.listing.rows ≡ None → Move v dir name to_dir to None
move_to_none v dir name to_dir to n f = record {
  from = n.from;
  into = n.into;
  named = n.named;
  apart = n.apart;
  other = names_differ v dir name to_dir to n (λ row g h. let c : Some row ≡ None = sym g ∙ f in absurd (cc));
  own = n.own;
  replaced = nothing f refl;
}

pub move_over : (v : View) (dir name to_dir to : List ℕ) (n : TwoNames v dir name to_dir to) (q : NamedRow v n.into.found.place to n.into.listing) → (q.row.place ≡ n.named.row.place → ⊥) → is_filled_at v.nodes (Some q.row.place) ≡ false → Move v dir name to_dir to (Some q.row.place)
move_over v dir name to_dir to n q d f = record {
  from = n.from;
  into = n.into;
  named = n.named;
  apart = n.apart;
  other = names_differ v dir name to_dir to n (λ row g h.
      let c : Some row ≡ Some q.row = sym g ∙ q.found in
      let same : row ≡ q.row = cc in
      d (sym (ap (λ (x : Row). x.place) same) ∙ h));
  own = n.own;
  replaced = an_object q refl d (not_source v dir name to_dir to n q.row.place f);
}

-- what becomes of a RENAME: nothing where the two names are of one object
pub data Renaming (v : View) (dir name to_dir to : List ℕ) (w : View) : Type 0 where
  moving : (t : Option ℕ) (m : Move v dir name to_dir to t) → w ≡ after_moving v dir name to_dir to t m.named.row.place → (same_place (named v.nodes dir name) (named v.nodes to_dir to)) ≡ false → Renaming v dir name to_dir to w
  keeping : (n : TwoNames v dir name to_dir to) (q : NamedRow v n.into.found.place to n.into.listing) → q.row.place ≡ n.named.row.place → w ≡ v → Renaming v dir name to_dir to w

-- an object has the new name
renaming_over : (v : View) (dir name to_dir to : List ℕ) (n : TwoNames v dir name to_dir to) (q : NamedRow v n.into.found.place to n.into.listing)
    → (not (same_place (named v.nodes dir name) (named v.nodes to_dir to)) && is_filled_at v.nodes (named v.nodes to_dir to)) ≡ false → Renaming v dir name to_dir to (after_rename v dir name to_dir to)
unfolding move_over
renaming_over v dir name to_dir to n q filled =
    let from_is : named v.nodes dir name ≡ Some n.named.row.place = source_named v dir name n.from n.named in
    let to_is : named v.nodes to_dir to ≡ Some q.row.place = source_named v to_dir to n.into q in
    let w : after_rename v dir name to_dir to ≡ (if n.named.row.place == q.row.place then v else after_moving v dir name to_dir to (Some q.row.place) n.named.row.place) =
    ap (after_rename_of v dir name to_dir to (named v.nodes to_dir to)) from_is ∙ ap (λ (o : Option ℕ). after_rename_of v dir name to_dir to o (Some n.named.row.place)) to_is in
    let same : same_place (named v.nodes dir name) (named v.nodes to_dir to) ≡ (n.named.row.place == q.row.place) = ap (λ (o : Option ℕ). same_place o (named v.nodes to_dir to)) from_is ∙ ap (same_place (Some n.named.row.place)) to_is in
    ⊎_elim (λ (c : (n.named.row.place == q.row.place) ≡ true). keeping n q (sym (eqb-true n.named.row.place q.row.place c)) (w ∙ cond-true (n.named.row.place == q.row.place) v (after_moving v dir name to_dir to (Some q.row.place) n.named.row.place) c))
    (λ (c : (n.named.row.place == q.row.place) ≡ false).
    let f : is_filled_at v.nodes (Some q.row.place) ≡ false = ap (λ (x : Bool). not x && is_filled_at v.nodes (Some q.row.place)) (sym (same ∙ c)) ∙ ap (λ (o : Option ℕ). not (same_place (named v.nodes dir name) (named v.nodes to_dir to)) && is_filled_at v.nodes o) (sym to_is) ∙ filled in
    moving (Some q.row.place) (move_over v dir name to_dir to n q (λ z. eqb-false n.named.row.place q.row.place c (sym z)) f)
    (w ∙ cond-false (n.named.row.place == q.row.place) v (after_moving v dir name to_dir to (Some q.row.place) n.named.row.place) c) (same ∙ c))
    (cases_Bool (n.named.row.place == q.row.place))

renaming_by : (v : View) → Sound v → (dir name to_dir to : List ℕ) (n : TwoNames v dir name to_dir to)
    → (not (same_place (named v.nodes dir name) (named v.nodes to_dir to)) && is_filled_at v.nodes (named v.nodes to_dir to)) ≡ false → (o : Option Row) → find_row to n.into.listing.rows ≡ o → Renaming v dir name to_dir to (after_rename v dir name to_dir to)
unfolding move_to_none
renaming_by v s dir name to_dir to n filled None f =
    let from_is : named v.nodes dir name ≡ Some n.named.row.place = source_named v dir name n.from n.named in
    let to_is : named v.nodes to_dir to ≡ None = named_is v to_dir to n.into.found.place n.into.found.node n.into.listing n.into.found.place_is (dir_at v to_dir n.into) ∙ ap (option_map (λ (x : Row). x.place)) f in
    moving None (move_to_none v dir name to_dir to n f)
    (ap (after_rename_of v dir name to_dir to (named v.nodes to_dir to)) from_is ∙ ap (λ (o : Option ℕ). after_rename_of v dir name to_dir to o (Some n.named.row.place)) to_is)
    (ap (λ (o : Option ℕ). same_place o (named v.nodes to_dir to)) from_is ∙ ap (same_place (Some n.named.row.place)) to_is)
renaming_by v s dir name to_dir to n filled (Some row) f =
    renaming_over v dir name to_dir to n (row_named v s n.into.found.place n.into.found.node n.into.listing to (dir_at v to_dir n.into) row f) filled

pub renaming : (v : View) → Sound v → (dir name to_dir to : List ℕ) → IsDirSpelled (dirs.Rename dir name to_dir to) → dir_refusal v (dirs.Rename dir name to_dir to) ≡ 0 → Renaming v dir name to_dir to (after_rename v dir name to_dir to)
renaming v s dir name to_dir to b e =
    let n = rename_names v s dir name to_dir to b e in
    renaming_by v s dir name to_dir to n (dir_passes v (dirs.Rename dir name to_dir to) e).filled (find_row to n.into.listing.rows) refl

keeps : (v : View) (dir name to_dir to : List ℕ) (n : TwoNames v dir name to_dir to) (q : NamedRow v n.into.found.place to n.into.listing) → q.row.place ≡ n.named.row.place → KeepsNames (server_of v) (server_of v) dir name to_dir to
keeps v dir name to_dir to n q e =
    let a = n.from.found in
    let b = n.into.found in
    let m = n.named in
    let one = stands name n.from.listing.rows m.row m.found in
    let two = stands to n.into.listing.rows q.row q.found in
    record {
      object = handle_of m.row.place;
      named_from = has_name v dir a.place a.node n.from.listing name one.at m.row a.is (dir_at v dir n.from) one.at_is one.name_is;
      named_to = subst (λ (p : ℕ). HasName (server_of v) to_dir to (handle_of p)) e (has_name v to_dir b.place b.node n.into.listing to two.at q.row b.is (dir_at v to_dir n.into) two.at_is two.name_is);
      reads_from = reads_at v v dir a.place a.node a.node a.is a.below a.there a.live a.there refl refl;
      reads_to = reads_at v v to_dir b.place b.node b.node b.is b.below b.there b.live b.there refl refl;
      only = record { verf = refl; others = λ other d. refl };
      reads = reads_at v v (handle_of m.row.place) m.row.place m.node m.node refl m.below m.there m.live m.there refl refl;
    }

pub renames_call : (v : View) → Sound v → (dir name to_dir to : List ℕ) → IsDirSpelled (dirs.Rename dir name to_dir to) → dir_refusal v (dirs.Rename dir name to_dir to) ≡ 0
    → DoesDir (server_of v) (dirs.Rename dir name to_dir to) (dir_answer v (after_rename v dir name to_dir to) (dirs.Rename dir name to_dir to)) (server_of (after_rename v dir name to_dir to))
renames_call v s dir name to_dir to b e = (
  elim (renaming v s dir name to_dir to b e) [
    | moving t m is d ↦ inl (subst (λ (w : View). Renames (server_of v) (server_of w) dir name to_dir to) (sym is) (renames v s dir name to_dir to t m))
    | keeping n q same is ↦ inr (subst (λ (w : View). KeepsNames (server_of v) (server_of w) dir name to_dir to) (sym is) (keeps v dir name to_dir to n q same))
  ],
  true_wcc v (after_rename v dir name to_dir to) dir b.0,
  true_wcc v (after_rename v dir name to_dir to) to_dir b.1,
)
