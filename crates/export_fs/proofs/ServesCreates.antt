-- CREATE, MKDIR, SYMLINK and LINK are what a server may do (RFC 1813, sections 3.3.8 to 3.3.10 and 3.3.15).
use Rattle.std.proofs.Common.{◌≡◌, ◌<◌, ◌+◌, ◌⊎◌, ◌||◌, ◌&&◌, not, ℕ, true, false, List, [], ◌∷◌, ◌++◌, map, length, Option, Some, None, refl, sym, ap, subst, ◌∙◌, arith, inl, inr, ◌==◌, slice_get, option_map}
use Rattle.std.specs.Prelude.{is_none, is_some}
use Rattle.std.proofs.lemmas.Bool.{or_parts, and_parts, not-false, cond_both}
use Rattle.nfs_types.specs.declared.set_attr.SetAttr.{SetAttr}
use Rattle.nfs_dir_calls.specs.declared.call.DirCall.TheVariants as dirs
use Rattle.nfs_dir_calls.specs.declared.create.Making.{Making}
use Rattle.nfs_dir_calls.specs.declared.create.Making.TheVariants as makings
use Rattle.world_model.specs.Server.{HasName}
use Rattle.world_model.specs.Steps.{Reads}
use Rattle.world_model.specs.FileService.{HoldsSized}
use Rattle.world_model.specs.NameService.{Relists, Shown, Makes, Meets, Links}
use Rattle.world_model.specs.NameService.{new_file as file_held}
use Rattle.world_model.specs.Names.{Enters}
use Rattle.world_model.specs.Service.{DoesDir}
use Rattle.export_fs.specs.declared.node.Holds.{Holds}
use Rattle.export_fs.specs.declared.node.Holds.TheVariants.{File, Directory, Link}
use Rattle.export_fs.specs.declared.node.Node.{Node}
use Rattle.export_fs.specs.Held.{Row, Listing, Content}
use Rattle.export_fs.specs.View.{View}
use Rattle.export_fs.specs.Parts.{last_number, handle_of, place_of, attr_at, kind_of, kind_in, kind_at}
use Rattle.export_fs.specs.Names.{named, find_row, with_row, is_own_name}
use Rattle.export_fs.specs.Changes.{changed, entered, linked, with_name, with_set, new_file, new_dir, new_link}
use Rattle.export_fs.specs.After.{next, changed_at, after_making, after_meeting, after_unchecked, after_linking, after_linking_at, after_set_attr, after_dir, place_or_root}
use Rattle.export_fs.specs.Answer.{found_handle, dir_answer}
use Rattle.export_fs.specs.Refusals.{dir_refusal, is_stale, is_full, is_dir, is_no_file, sets_nothing, is_kept}
use Rattle.export_fs.specs.Seen.{server_of, object_of, entry_of, held_of}
use Rattle.export_fs.specs.Spelled.{IsDirSpelled}
use Rattle.export_fs.specs.Sound.{Sound}
use Rattle.export_fs.proofs.RefusalTable.{dir_passes}
use Rattle.export_fs.proofs.Handles.{place_is}
use Rattle.export_fs.proofs.Objects.{changed_same, changed_other, get_last, get_front, get_front_other, get_within, get_past}
use Rattle.export_fs.proofs.EntriesNamed.{stands}
use Rattle.export_fs.proofs.ServerOfExport.{Found, found, seen_here, seen_place, only_at, true_here, true_of, true_wcc, live_is, OneChanged, one_turns, one_only}
use Rattle.export_fs.proofs.ServesFileCalls.{kind_found, holds_sized, sized_kind}
use Rattle.export_fs.proofs.DirectoryNames.{DirFound, dir_found, DirAt, dir_at, named_is, no_row, NamedRow, row_named, has_name, enters_last, found_last, is_held, numbers_left}

-- ---- a list that becomes another one, and an object that is read

pub relists : (v w : View) (dir : List ℕ) (p : ℕ) (node after : Node) (listing later : Listing) → dir ≡ handle_of p → DirAt v p node listing → DirAt w p after later
    → Relists (server_of v) (server_of w) dir (map entry_of listing.rows) (map entry_of later.rows)
relists v w dir p node after listing later is d e = record {
  dir = object_of p node;
  held = ap held_of d.holds;
  turns = record {
    has = record { is = ap (λ (x : List ℕ). (server_of v).object x) is ∙ seen_here v p node d.below d.there; there = d.live };
    new = object_of p after;
    is = ap (λ (x : List ℕ). (server_of w).object x) is ∙ seen_here w p after e.below e.there;
    becomes = record { holds = ap held_of e.holds; gone = e.live ∙ sym d.live; kind = ap kind_of e.holds ∙ sym (ap kind_of d.holds); fileid = refl };
  };
}

pub reads_at : (v w : View) (h : List ℕ) (p : ℕ) (node after : Node) → h ≡ handle_of p → p < last_number → slice_get v.nodes p ≡ Some node → node.gone ≡ false → slice_get w.nodes p ≡ Some after → after.gone ≡ node.gone → after.holds ≡ node.holds
    → Reads (server_of v) (server_of w) h
reads_at v w h p node after is l e g f same holds = record {
  object = object_of p node;
  turns = record {
    has = record { is = ap (λ (x : List ℕ). (server_of v).object x) is ∙ seen_here v p node l e; there = g };
    new = object_of p after;
    is = ap (λ (x : List ℕ). (server_of w).object x) is ∙ seen_here w p after l f;
    becomes = record { holds = ap held_of holds; gone = same; kind = ap kind_of holds; fileid = refl };
  };
}

-- the object that has the name is shown
pub shown_by : (w : View) (dir name : List ℕ) (p : ℕ) (node : Node) (listing : Listing) → place_of dir ≡ Some p → dir ≡ handle_of p → DirAt w p node listing → (row : Row) → find_row name listing.rows ≡ Some row → row.place < last_number
    → Shown (server_of w) dir name (found_handle (named w.nodes dir name)) (attr_at w.nodes (named w.nodes dir name))
shown_by w dir name p node listing e is d row f l =
    let n : named w.nodes dir name ≡ Some row.place = named_is w dir name p node listing e d ∙ ap (option_map (λ (r : Row). r.place)) f in
    let st = stands name listing.rows row f in
    subst (λ (o : Option ℕ). Shown (server_of w) dir name (found_handle o) (attr_at w.nodes o)) (sym n)
    (record { object = handle_of row.place; named = has_name w dir p node listing name st.at row is d st.at_is st.name_is; handle = refl; attributes = true_here w row.place l })

-- ---- a new object

pub record NewName (v : View) (dir name : List ℕ) : Type 0 where
  pub dir_is : DirFound v dir
  pub none : find_row name dir_is.listing.rows ≡ None
  pub room : v.counter < last_number

abbrev pub place_in : (v : View) (dir name : List ℕ) → NewName v dir name → ℕ
place_in v dir name n = n.dir_is.found.place

made_nodes : (v : View) (dir name : List ℕ) (n : NewName v dir name) (node : Node) → (after_making v dir name node).nodes ≡ changed (entered (next v) name (length v.nodes)) n.dir_is.found.place (v.nodes ++ node ∷ [])
made_nodes v dir name n node = ap (λ (o : Option ℕ). changed_at (entered (next v) name (length v.nodes)) o (v.nodes ++ node ∷ [])) n.dir_is.found.place_is

pub made_dir : (v : View) (dir name : List ℕ) (n : NewName v dir name) (node : Node) → DirAt (after_making v dir name node) n.dir_is.found.place (entered (next v) name (length v.nodes) n.dir_is.found.node) (with_row name (length v.nodes) n.dir_is.listing)
made_dir v dir name n node =
    let f = n.dir_is.found in
    record {
      below = f.below;
      there = ap (λ (x : List Node). slice_get x f.place) (made_nodes v dir name n node) ∙ changed_same (entered (next v) name (length v.nodes)) f.place (v.nodes ++ node ∷ []) f.node (get_front v.nodes node f.node f.place f.there);
      live = f.live;
      holds = ap (with_name name (length v.nodes)) n.dir_is.holds;
    }

pub made_new : (v : View) (dir name : List ℕ) (n : NewName v dir name) (node : Node) → slice_get (after_making v dir name node).nodes (length v.nodes) ≡ Some node
made_new v dir name n node =
    let f = n.dir_is.found in
    ap (λ (x : List Node). slice_get x (length v.nodes)) (made_nodes v dir name n node) ∙ changed_other (entered (next v) name (length v.nodes)) f.place (length v.nodes) (v.nodes ++ node ∷ []) (λ e. omega (arith, get_within v.nodes f.place f.node f.there)) ∙ get_last v.nodes node

pub made_others : (v : View) (dir name : List ℕ) (n : NewName v dir name) (node : Node) (q : ℕ) → (q ≡ n.dir_is.found.place → ⊥) → (q ≡ length v.nodes → ⊥) → slice_get (after_making v dir name node).nodes q ≡ slice_get v.nodes q
made_others v dir name n node q a b =
    ap (λ (x : List Node). slice_get x q) (made_nodes v dir name n node) ∙ changed_other (entered (next v) name (length v.nodes)) n.dir_is.found.place q (v.nodes ++ node ∷ []) a ∙ get_front_other v.nodes node q b

pub makes : (v : View) → Sound v → (dir name : List ℕ) (n : NewName v dir name) (node : Node) → node.gone ≡ false
    → Makes (server_of v) (server_of (after_making v dir name node)) dir name (kind_of node.holds) (held_of node.holds)
makes v s dir name n node live =
    let f = n.dir_is.found in
    let w = after_making v dir name node in
    let count = length v.nodes in
    let below : count < last_number = omega (arith, s.places, n.room) in
    record {
      object = handle_of count;
      old = map entry_of n.dir_is.listing.rows;
      new = map entry_of (with_row name count n.dir_is.listing).rows;
      relists = relists v w dir f.place f.node (entered (next v) name count f.node) n.dir_is.listing (with_row name count n.dir_is.listing) f.is (dir_at v dir n.dir_is) (made_dir v dir name n node);
      enters = enters_last name count n.dir_is.listing n.none;
      begins = record {
        never = seen_place v count below ∙ ap (option_map (object_of count)) (get_past v.nodes);
        new = object_of count node;
        is = seen_here w count node below (made_new v dir name n node);
        there = live;
        kind_is = refl;
        holds_is = refl;
      };
      only = only_at (λ (h : List ℕ). (h ≡ dir) ⊎ (h ≡ handle_of count)) v w refl (λ q l d. made_others v dir name n node q (λ e. d (inl (ap handle_of e ∙ sym f.is))) (λ e. d (inr (ap handle_of e))));
    }

pub makes_shown : (v : View) → Sound v → (dir name : List ℕ) (n : NewName v dir name) (node : Node)
    → Shown (server_of (after_making v dir name node)) dir name (found_handle (named (after_making v dir name node).nodes dir name)) (attr_at (after_making v dir name node).nodes (named (after_making v dir name node).nodes dir name))
makes_shown v s dir name n node =
    let f = n.dir_is.found in
    let h = is_held v s f.place f.node n.dir_is.listing (dir_at v dir n.dir_is) in
    shown_by (after_making v dir name node) dir name f.place (entered (next v) name (length v.nodes) f.node) (with_row name (length v.nodes) n.dir_is.listing) f.place_is f.is (made_dir v dir name n node)
    (record { name = name; place = length v.nodes; cookie = n.dir_is.listing.last + 1 }) (found_last name (length v.nodes) n.dir_is.listing (h.once name)) (omega (arith, s.places, n.room))

-- ---- a name that isn't taken

not_some : (o : Option ℕ) → is_some o ≡ false → is_none o ≡ true
not_some None e = refl
not_some (Some x) e = absurd (cc)

-- the directory of the call, the name that it lacks, and a number that is left
pub new_name : (v : View) (dir name : List ℕ) → Found v dir → is_dir v.nodes dir ≡ true → is_none (named v.nodes dir name) ≡ true → is_full v ≡ false → NewName v dir name
new_name v dir name f k e full =
    let d = dir_found v dir f k in
    record {
      dir_is = d;
      none = no_row name d.listing.rows (ap is_none (sym (named_is v dir name d.found.place d.found.node d.listing d.found.place_is (dir_at v dir d))) ∙ e);
      room = numbers_left v full;
    }

untaken : (v : View) (dir name : List ℕ) → (is_own_name name || is_some (named v.nodes dir name)) ≡ false → is_none (named v.nodes dir name) ≡ true
untaken v dir name e = not_some (named v.nodes dir name) (or_parts (is_own_name name) (is_some (named v.nodes dir name)) e).1

-- ---- MKDIR and SYMLINK

makes_dir_by : (v : View) → Sound v → (dir name : List ℕ) (set : SetAttr) → IsDirSpelled (dirs.MkDir dir name set) → NewName v dir name
    → DoesDir (server_of v) (dirs.MkDir dir name set) (dir_answer v (after_dir v (dirs.MkDir dir name set)) (dirs.MkDir dir name set)) (server_of (after_dir v (dirs.MkDir dir name set)))
makes_dir_by v s dir name set b n = (
  record {
    own = [];
    bare = λ l q. let g = q.1 in absurd (cc);
    makes = makes v s dir name n (new_dir (place_or_root dir) (next v) set) refl;
  },
  makes_shown v s dir name n (new_dir (place_or_root dir) (next v) set),
  true_wcc v (after_making v dir name (new_dir (place_or_root dir) (next v) set)) dir b.0,
)

makes_link_by : (v : View) → Sound v → (dir name : List ℕ) (set : SetAttr) (target : List ℕ) → IsDirSpelled (dirs.SymLink dir name set target) → NewName v dir name
    → DoesDir (server_of v) (dirs.SymLink dir name set target) (dir_answer v (after_dir v (dirs.SymLink dir name set target)) (dirs.SymLink dir name set target)) (server_of (after_dir v (dirs.SymLink dir name set target)))
makes_link_by v s dir name set target b n = (
  makes v s dir name n (new_link target (next v) set) refl,
  makes_shown v s dir name n (new_link target (next v) set),
  true_wcc v (after_making v dir name (new_link target (next v) set)) dir b.0,
)

-- the call that isn't refused
pub mkdir_name : (v : View) (dir name : List ℕ) (set : SetAttr) → IsDirSpelled (dirs.MkDir dir name set) → dir_refusal v (dirs.MkDir dir name set) ≡ 0 → NewName v dir name
mkdir_name v dir name set b e =
    let p = dir_passes v (dirs.MkDir dir name set) e in
    new_name v dir name (found v dir b.0 (or_parts (is_stale v.nodes dir) (is_stale v.nodes dir) p.stale).0) (not-false _ p.no_dir) (untaken v dir name p.there) p.full

pub symlink_name : (v : View) (dir name : List ℕ) (set : SetAttr) (target : List ℕ) → IsDirSpelled (dirs.SymLink dir name set target) → dir_refusal v (dirs.SymLink dir name set target) ≡ 0 → NewName v dir name
symlink_name v dir name set target b e =
    let p = dir_passes v (dirs.SymLink dir name set target) e in
    new_name v dir name (found v dir b.0 (or_parts (is_stale v.nodes dir) (is_stale v.nodes dir) p.stale).0) (not-false _ p.no_dir) (untaken v dir name p.there) p.full

pub makes_dir : (v : View) → Sound v → (dir name : List ℕ) (set : SetAttr) → IsDirSpelled (dirs.MkDir dir name set) → dir_refusal v (dirs.MkDir dir name set) ≡ 0
    → DoesDir (server_of v) (dirs.MkDir dir name set) (dir_answer v (after_dir v (dirs.MkDir dir name set)) (dirs.MkDir dir name set)) (server_of (after_dir v (dirs.MkDir dir name set)))
makes_dir v s dir name set b e = makes_dir_by v s dir name set b (mkdir_name v dir name set b e)

pub makes_link : (v : View) → Sound v → (dir name : List ℕ) (set : SetAttr) (target : List ℕ) → IsDirSpelled (dirs.SymLink dir name set target) → dir_refusal v (dirs.SymLink dir name set target) ≡ 0
    → DoesDir (server_of v) (dirs.SymLink dir name set target) (dir_answer v (after_dir v (dirs.SymLink dir name set target)) (dirs.SymLink dir name set target)) (server_of (after_dir v (dirs.SymLink dir name set target)))
makes_link v s dir name set target b e = makes_link_by v s dir name set target b (symlink_name v dir name set target b e)

-- ---- CREATE

makes_file : (v : View) → Sound v → (dir name : List ℕ) (n : NewName v dir name) (set : SetAttr) → Makes (server_of v) (server_of (after_making v dir name (new_file (next v) set))) dir name 1 (file_held set.size)
makes_file v s dir name n set = makes v s dir name n (new_file (next v) set) refl

none_is : (o : Option ℕ) → is_none o ≡ true → o ≡ None
none_is None e = refl
none_is (Some x) e = absurd (cc)

-- what sets nothing sets no size
no_size_set : (set : SetAttr) → sets_nothing set ≡ true → set.size ≡ None
no_size_set set e =
    let a = and_parts _ (is_kept set.mtime) e in
    let b = and_parts _ (is_kept set.atime) a.0 in
    none_is set.size (and_parts _ (is_none set.size) b.0).1

-- a file that has the name
pub record Met (v : View) (dir name : List ℕ) : Type 0 where
  pub dir_is : DirFound v dir
  pub named : NamedRow v dir_is.found.place name dir_is.listing
  pub content : Content
  pub file : named.node.holds ≡ File content

met_name : (v : View) (dir name : List ℕ) (m : Met v dir name) → HasName (server_of v) dir name (handle_of m.named.row.place)
met_name v dir name m =
    let st = stands name m.dir_is.listing.rows m.named.row m.named.found in
    has_name v dir m.dir_is.found.place m.dir_is.found.node m.dir_is.listing name st.at m.named.row m.dir_is.found.is (dir_at v dir m.dir_is) st.at_is st.name_is

keeps_file : (v : View) (dir name : List ℕ) (m : Met v dir name) (set : SetAttr) → sets_nothing set ≡ true → Meets (server_of v) (server_of v) dir name set
keeps_file v dir name m set e =
    let q = m.named in
    let seen = seen_here v q.row.place q.node q.below q.there in
    record {
      object = handle_of q.row.place;
      named = met_name v dir name m;
      file = object_of q.row.place q.node;
      now = m.content.bytes;
      stable = m.content.stable;
      held = ap held_of m.file;
      later = held_of q.node.holds;
      sized = subst (λ (z : Option ℕ). HoldsSized z (held_of q.node.holds) (held_of q.node.holds)) (sym (no_size_set set e)) refl;
      turns = record { has = record { is = seen; there = q.live }; new = object_of q.row.place q.node; is = seen; becomes = record { holds = refl; gone = refl; kind = refl; fileid = refl } };
      reads = reads_at v v dir m.dir_is.found.place m.dir_is.found.node m.dir_is.found.node m.dir_is.found.is m.dir_is.found.below m.dir_is.found.there m.dir_is.found.live m.dir_is.found.there refl refl;
      only = record { verf = refl; others = λ other d. refl };
    }

abbrev found_named : (v : View) (dir name : List ℕ) (m : Met v dir name) → Found v (handle_of m.named.row.place)
found_named v dir name m = record { place = m.named.row.place; node = m.named.node; below = m.named.below; is = refl; place_is = place_is m.named.row.place m.named.below; there = m.named.there; live = m.named.live }

sets_changed : (v : View) (dir name : List ℕ) (m : Met v dir name) (set : SetAttr) → OneChanged v (after_set_attr v (Some m.named.row.place) set) (handle_of m.named.row.place) (found_named v dir name m) (with_set (next v) set)
sets_changed v dir name m set = record {
  nodes = ap (λ (o : Option ℕ). changed_at (with_set (next v) set) o v.nodes) (sym (place_is m.named.row.place m.named.below));
  reboots = refl;
  gone = refl;
  kind = sized_kind set.size m.named.node.holds;
}

pub set_dir : (v : View) (dir name : List ℕ) (m : Met v dir name) (set : SetAttr) → slice_get (after_set_attr v (Some m.named.row.place) set).nodes m.dir_is.found.place ≡ Some m.dir_is.found.node
set_dir v dir name m set = changed_other (with_set (next v) set) m.named.row.place m.dir_is.found.place v.nodes (λ e. m.named.entry.apart (sym e)) ∙ m.dir_is.found.there

sets_file : (v : View) (dir name : List ℕ) (m : Met v dir name) (set : SetAttr) → Meets (server_of v) (server_of (after_set_attr v (Some m.named.row.place) set)) dir name set
sets_file v dir name m set =
    let q = m.named in
    let w = after_set_attr v (Some q.row.place) set in
    let f = found_named v dir name m in
    let c = sets_changed v dir name m set in
    let o = one_only v w (handle_of q.row.place) f (with_set (next v) set) c in
    record {
      object = handle_of q.row.place;
      named = met_name v dir name m;
      file = object_of q.row.place q.node;
      now = m.content.bytes;
      stable = m.content.stable;
      held = ap held_of m.file;
      later = held_of (with_set (next v) set q.node).holds;
      sized = holds_sized set.size q.node.holds (λ e. (m.content, m.file));
      turns = one_turns v w (handle_of q.row.place) f (with_set (next v) set) c;
      reads = reads_at v w dir m.dir_is.found.place m.dir_is.found.node m.dir_is.found.node m.dir_is.found.is m.dir_is.found.below m.dir_is.found.there m.dir_is.found.live (set_dir v dir name m set) refl refl;
      only = record { verf = o.verf; others = λ other d. o.others other (λ g. d (inr g)) };
    }

abbrev CreateDone : View → List ℕ → List ℕ → Making → View → Type 0
CreateDone v dir name making w = DoesDir (server_of v) (dirs.Create dir name making) (dir_answer v w (dirs.Create dir name making)) (server_of w)

meets_file : (v : View) (dir name : List ℕ) (m : Met v dir name) (set : SetAttr) → IsDirSpelled (dirs.Create dir name (makings.Unchecked set)) → CreateDone v dir name (makings.Unchecked set) (after_meeting v m.named.row.place set)
meets_file v dir name m set b =
    let f = m.dir_is.found in
    let d = dir_at v dir m.dir_is in
    let w = after_set_attr v (Some m.named.row.place) set in
    cond_both (sets_nothing set) v w (CreateDone v dir name (makings.Unchecked set))
    (λ e. (inr (keeps_file v dir name m set e), shown_by v dir name f.place f.node m.dir_is.listing f.place_is f.is d m.named.row m.named.found m.named.below, true_wcc v v dir b.0))
    (λ e. (inr (sets_file v dir name m set), shown_by w dir name f.place f.node m.dir_is.listing f.place_is f.is (record { below = f.below; there = set_dir v dir name m set; live = f.live; holds = m.dir_is.holds }) m.named.row m.named.found m.named.below, true_wcc v w dir b.0))

-- the object that has the name of an UNCHECKED is a file
met : (v : View) → Sound v → (dir name : List ℕ) (d : DirFound v dir) (row : Row) → find_row name d.listing.rows ≡ Some row → is_no_file v.nodes (named v.nodes dir name) ≡ false → Met v dir name
met v s dir name d row r e =
    let at = dir_at v dir d in
    let q = row_named v s d.found.place d.found.node d.listing name at row r in
    let is : named v.nodes dir name ≡ Some q.row.place = named_is v dir name d.found.place d.found.node d.listing d.found.place_is at ∙ ap (option_map (λ (x : Row). x.place)) q.found in
    let k : not (kind_at v.nodes (Some q.row.place) == 1) ≡ false = ap (is_no_file v.nodes) (sym is) ∙ e in
    let c = file_of_kind q.node.holds (ap (λ (o : Option Node). kind_in o == 1) (sym (live_is v.nodes q.row.place q.node q.there q.live)) ∙ not-false _ k) in
    record { dir_is = d; named = q; content = c.0; file = c.1 } where
      file_of_kind : (holds : Holds) → (kind_of holds == 1) ≡ true → (content : Content) × (holds ≡ File content)
      file_of_kind (File content) e = (content, refl)
      file_of_kind (Directory listing) e = absurd (cc)
      file_of_kind (Link text) e = absurd (cc)

unchecked_new : (v : View) → Sound v → (dir name : List ℕ) (set : SetAttr) → IsDirSpelled (dirs.Create dir name (makings.Unchecked set)) → NewName v dir name → named v.nodes dir name ≡ None
    → CreateDone v dir name (makings.Unchecked set) (after_unchecked v dir name set (named v.nodes dir name))
unchecked_new v s dir name set b n is =
    subst (λ (o : Option ℕ). CreateDone v dir name (makings.Unchecked set) (after_unchecked v dir name set o)) (sym is)
    (inl (makes_file v s dir name n set), makes_shown v s dir name n (new_file (next v) set), true_wcc v (after_making v dir name (new_file (next v) set)) dir b.0)

unchecked_met : (v : View) (dir name : List ℕ) (set : SetAttr) → IsDirSpelled (dirs.Create dir name (makings.Unchecked set)) → (m : Met v dir name) → named v.nodes dir name ≡ Some m.named.row.place
    → CreateDone v dir name (makings.Unchecked set) (after_unchecked v dir name set (named v.nodes dir name))
unchecked_met v dir name set b m is = subst (λ (o : Option ℕ). CreateDone v dir name (makings.Unchecked set) (after_unchecked v dir name set o)) (sym is) (meets_file v dir name m set b)

-- an UNCHECKED that isn't refused makes a file or meets one
pub data Unchecked (v : View) (dir name : List ℕ) : Type 0 where
  fresh : NewName v dir name → named v.nodes dir name ≡ None → Unchecked v dir name
  meets : (m : Met v dir name) → named v.nodes dir name ≡ Some m.named.row.place → Unchecked v dir name

unchecked_by : (v : View) → Sound v → (dir name : List ℕ) (set : SetAttr) (d : DirFound v dir) → is_no_file v.nodes (named v.nodes dir name) ≡ false → ((is_none (named v.nodes dir name) || not (sets_nothing set)) && is_full v) ≡ false
    → (o : Option Row) → find_row name d.listing.rows ≡ o → Unchecked v dir name
unchecked_by v s dir name set d e full None q =
    let is : named v.nodes dir name ≡ None = named_is v dir name d.found.place d.found.node d.listing d.found.place_is (dir_at v dir d) ∙ ap (option_map (λ (x : Row). x.place)) q in
    let room : is_full v ≡ false = ap (λ (o : Option ℕ). (is_none o || not (sets_nothing set)) && is_full v) (sym is) ∙ full in
    fresh (record { dir_is = d; none = q; room = numbers_left v room }) is
unchecked_by v s dir name set d e full (Some row) q =
    let m = met v s dir name d row q e in
    meets m (named_is v dir name m.dir_is.found.place m.dir_is.found.node m.dir_is.listing m.dir_is.found.place_is (dir_at v dir m.dir_is) ∙ ap (option_map (λ (x : Row). x.place)) m.named.found)

pub unchecked : (v : View) → Sound v → (dir name : List ℕ) (set : SetAttr) → IsDirSpelled (dirs.Create dir name (makings.Unchecked set)) → dir_refusal v (dirs.Create dir name (makings.Unchecked set)) ≡ 0 → Unchecked v dir name
unchecked v s dir name set b e =
    let p = dir_passes v (dirs.Create dir name (makings.Unchecked set)) e in
    let d = dir_found v dir (found v dir b.0 (or_parts (is_stale v.nodes dir) (is_stale v.nodes dir) p.stale).0) (not-false _ p.no_dir) in
    unchecked_by v s dir name set d (or_parts (is_own_name name) (is_no_file v.nodes (named v.nodes dir name)) p.there).1 p.full (find_row name d.listing.rows) refl

pub guarded_name : (v : View) (dir name : List ℕ) (set : SetAttr) → IsDirSpelled (dirs.Create dir name (makings.Guarded set)) → dir_refusal v (dirs.Create dir name (makings.Guarded set)) ≡ 0 → NewName v dir name
guarded_name v dir name set b e =
    let p = dir_passes v (dirs.Create dir name (makings.Guarded set)) e in
    new_name v dir name (found v dir b.0 (or_parts (is_stale v.nodes dir) (is_stale v.nodes dir) p.stale).0) (not-false _ p.no_dir) (untaken v dir name p.there) p.full

guarded_new : (v : View) → Sound v → (dir name : List ℕ) (set : SetAttr) → IsDirSpelled (dirs.Create dir name (makings.Guarded set)) → NewName v dir name → CreateDone v dir name (makings.Guarded set) (after_dir v (dirs.Create dir name (makings.Guarded set)))
guarded_new v s dir name set b n = (makes_file v s dir name n set, makes_shown v s dir name n (new_file (next v) set), true_wcc v (after_making v dir name (new_file (next v) set)) dir b.0)

pub creates : (v : View) → Sound v → (dir name : List ℕ) (making : Making) → IsDirSpelled (dirs.Create dir name making) → dir_refusal v (dirs.Create dir name making) ≡ 0 → CreateDone v dir name making (after_dir v (dirs.Create dir name making))
creates v s dir name (makings.Unchecked set) b e =
    elim (unchecked v s dir name set b e) [
      | fresh n is ↦ unchecked_new v s dir name set b n is
      | meets m is ↦ unchecked_met v dir name set b m is
    ]
creates v s dir name (makings.Guarded set) b e = guarded_new v s dir name set b (guarded_name v dir name set b e)
creates v s dir name (makings.Exclusive verf) b e = let p = dir_passes v (dirs.Create dir name (makings.Exclusive verf)) e in let q = p.unsupported in absurd (cc)

-- ---- LINK

-- a directory and another object are at different places
pub apart_by_kind : (v : View) (dir file : List ℕ) (d : DirFound v dir) (f : Found v file) → is_dir v.nodes file ≡ false → f.place ≡ d.found.place → ⊥
apart_by_kind v dir file d f k e =
    let same : Some f.node ≡ Some d.found.node = sym f.there ∙ ap (slice_get v.nodes) e ∙ d.found.there in
    let n : f.node ≡ d.found.node = cc in
    let two : (kind_of f.node.holds == 2) ≡ true = ap (λ (x : Node). kind_of x.holds == 2) n ∙ ap (λ (x : Holds). kind_of x == 2) d.holds in
    let other : (kind_of f.node.holds == 2) ≡ false = ap (λ (k : ℕ). k == 2) (sym (kind_found v file f)) ∙ k in
    absurd (cc)

links_at : (v : View) → Sound v → (file dir name : List ℕ) (n : NewName v dir name) (f : Found v file) → (f.place ≡ n.dir_is.found.place → ⊥) → Links (server_of v) (server_of (after_linking_at v dir name f.place)) file dir name
links_at v s file dir name n f apart =
    let d = n.dir_is.found in
    let w = after_linking_at v dir name f.place in
    let mid = changed (entered (next v) name f.place) d.place v.nodes in
    let nodes : w.nodes ≡ changed (linked (next v)) f.place mid = ap (λ (o : Option ℕ). changed (linked (next v)) f.place (changed_at (entered (next v) name f.place) o v.nodes)) d.place_is in
    let file_there : slice_get w.nodes f.place ≡ Some (linked (next v) f.node) =
    ap (λ (x : List Node). slice_get x f.place) nodes ∙ changed_same (linked (next v)) f.place mid f.node (changed_other (entered (next v) name f.place) d.place f.place v.nodes apart ∙ f.there) in
    let dir_there : slice_get w.nodes d.place ≡ Some (entered (next v) name f.place d.node) =
    ap (λ (x : List Node). slice_get x d.place) nodes ∙ changed_other (linked (next v)) f.place d.place mid (λ e. apart (sym e)) ∙ changed_same (entered (next v) name f.place) d.place v.nodes d.node d.there in
    record {
      old = map entry_of n.dir_is.listing.rows;
      new = map entry_of (with_row name f.place n.dir_is.listing).rows;
      relists = relists v w dir d.place d.node (entered (next v) name f.place d.node) n.dir_is.listing (with_row name f.place n.dir_is.listing) d.is (dir_at v dir n.dir_is) (record { below = d.below; there = dir_there; live = d.live; holds = ap (with_name name f.place) n.dir_is.holds });
      enters = subst (λ (h : List ℕ). Enters name h (map entry_of n.dir_is.listing.rows) (map entry_of (with_row name f.place n.dir_is.listing).rows)) (sym f.is) (enters_last name f.place n.dir_is.listing n.none);
      reads = reads_at v w file f.place f.node (linked (next v) f.node) f.is f.below f.there f.live file_there refl refl;
      only = only_at (λ (h : List ℕ). (h ≡ dir) ⊎ (h ≡ file)) v w refl (λ q l z.
          let a : q ≡ d.place → ⊥ = λ e. z (inl (ap handle_of e ∙ sym d.is)) in
          let c : q ≡ f.place → ⊥ = λ e. z (inr (ap handle_of e ∙ sym f.is)) in
          ap (λ (x : List Node). slice_get x q) nodes ∙ changed_other (linked (next v)) f.place q mid c ∙ changed_other (entered (next v) name f.place) d.place q v.nodes a);
    }

-- the file of the call, and the name that it gets
pub record Linking (v : View) (file dir name : List ℕ) : Type 0 where
  pub new : NewName v dir name
  pub file_is : Found v file
  pub apart : file_is.place ≡ new.dir_is.found.place → ⊥
  pub kind : (kind_of file_is.node.holds == 2) ≡ false
  pub own : is_own_name name ≡ false

pub linking : (v : View) (file dir name : List ℕ) → IsDirSpelled (dirs.Link file dir name) → dir_refusal v (dirs.Link file dir name) ≡ 0 → Linking v file dir name
linking v file dir name b e =
    let p = dir_passes v (dirs.Link file dir name) e in
    let st = or_parts (is_stale v.nodes dir) (is_stale v.nodes file) p.stale in
    let n = new_name v dir name (found v dir b.0 st.0) (not-false _ p.no_dir) (untaken v dir name p.there) p.full in
    let f = found v file b.1 st.1 in
    record {
      new = n;
      file_is = f;
      apart = apart_by_kind v dir file n.dir_is f p.a_dir;
      kind = ap (λ (k : ℕ). k == 2) (sym (kind_found v file f)) ∙ p.a_dir;
      own = (or_parts (is_own_name name) (is_some (named v.nodes dir name)) p.there).0;
    }

links_by : (v : View) → Sound v → (file dir name : List ℕ) → IsDirSpelled (dirs.Link file dir name) → Linking v file dir name
    → DoesDir (server_of v) (dirs.Link file dir name) (dir_answer v (after_dir v (dirs.Link file dir name)) (dirs.Link file dir name)) (server_of (after_dir v (dirs.Link file dir name)))
links_by v s file dir name b l =
    let P : Option ℕ → Type 0 = λ o. DoesDir (server_of v) (dirs.Link file dir name) (dir_answer v (after_linking v dir name o) (dirs.Link file dir name)) (server_of (after_linking v dir name o)) in
    let w = after_linking_at v dir name l.file_is.place in
    subst P (sym l.file_is.place_is) (links_at v s file dir name l.new l.file_is l.apart, true_of w file b.1, true_wcc v w dir b.0)

pub links : (v : View) → Sound v → (file dir name : List ℕ) → IsDirSpelled (dirs.Link file dir name) → dir_refusal v (dirs.Link file dir name) ≡ 0
    → DoesDir (server_of v) (dirs.Link file dir name) (dir_answer v (after_dir v (dirs.Link file dir name)) (dirs.Link file dir name)) (server_of (after_dir v (dirs.Link file dir name)))
links v s file dir name b e = links_by v s file dir name b (linking v file dir name b e)
