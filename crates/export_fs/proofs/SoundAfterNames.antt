-- A name more, a name less and a name that moves leave the export sound.
use Rattle.std.proofs.Common.{◌≡◌, ◌<◌, ◌≤◌, ◌+◌, ◌-◌, ◌||◌, min, ℕ, zero, suc, Bool, true, false, List, length, Option, Some, refl, sym, ap, subst, ◌∙◌, arith, ⊎_elim, ◌==◌, slice_get, if◌then◌else◌, nat_le}
use Rattle.std.proofs.lemmas.Bool.{cases_Bool, cases_eq, eq-eqb, ne_eqb, lt-leb}
use Rattle.export_fs.specs.declared.node.Holds.{Holds}
use Rattle.export_fs.specs.declared.node.Holds.TheVariants.{File, Directory, Link}
use Rattle.export_fs.specs.declared.node.Node.{Node}
use Rattle.export_fs.specs.View.{View}
use Rattle.export_fs.specs.Parts.{last_number, kind_of, rows_of}
use Rattle.export_fs.specs.Names.{without, with_row}
use Rattle.export_fs.specs.Changes.{changed, entered, left, linked, moved, with_name, without_name, removed, unnamed, with_ctime, with_fewer}
use Rattle.export_fs.specs.After.{next, changed_at, after_linking_at, after_moving, place_or_root}
use Rattle.export_fs.specs.Sound.{Sound, IsCounted, names_of, names_in, one_if}
use Rattle.export_fs.proofs.EntriesByName.{without-none}
use Rattle.export_fs.proofs.Objects.{changed_same, changed_other, changed_length, get_within, names_changed, names_kept}
use Rattle.export_fs.proofs.EntriesNamed.{names_in_more, names_without}
use Rattle.export_fs.proofs.ContentStaysSound.{AllHeld, held_changed, held_named, unnamed_holds, removed_holds}
use Rattle.export_fs.proofs.DirectoryNames.{NamedRow}
use Rattle.export_fs.proofs.ServesCreates.{Linking}
use Rattle.export_fs.proofs.ServesRemoves.{Removal, after_removing, removed_dir, removed_object, removed_others, removed_names, removed_length, removed_held, removed_gone}
use Rattle.export_fs.proofs.ServesRename.{Move, moved_kind, nothing, an_object, nodes_one, nodes_two, nodes_four, moving_nodes, moving_names, moving_length, moving_held, named_only, moved_there, target_there, target_apart}
use Rattle.export_fs.proofs.SoundAfterChange.{CountsSame, counted_same, root_same, entered_counts, one_at_most, Before, before_at, after_at}

then_counts : (a b c : Node) → CountsSame a b → CountsSame b c → CountsSame a c
then_counts a b c s t = record { kind = t.kind ∙ s.kind; gone = t.gone ∙ s.gone; nlink = t.nlink ∙ s.nlink }

left_kind : (name : List ℕ) (holds : Holds) → kind_of (without_name name holds) ≡ kind_of holds
left_kind name (File content) = refl
left_kind name (Directory listing) = refl
left_kind name (Link text) = refl

pub left_counts : (number : ℕ) (name : List ℕ) (node : Node) → CountsSame node (left number name node)
left_counts number name node = record { kind = left_kind name node.holds; gone = refl; nlink = refl }

-- the root has no name
pub root_unnamed : (v : View) → Sound v → names_of 0 v.nodes ≡ 0
root_unnamed v s = (s.counted 0 s.root.0 s.root.1).directory s.root.2.kind ∙ ap (λ (g : Bool). if g || (0 == 0) then 0 else 1) s.root.2.there

pub not_root : (v : View) → Sound v → (place : ℕ) → 1 ≤ names_of place v.nodes → 0 ≡ place → ⊥
not_root v s place l e = omega (arith, root_unnamed v s, ap (λ (k : ℕ). names_of k v.nodes) e)

-- ---- a name less

one_less : (n : ℕ) → nat_le n 1 ≡ (n - 1 == 0)
one_less zero = refl
one_less (suc zero) = refl
one_less (suc (suc n)) =
    let a : nat_le (suc (suc n)) 1 ≡ false = lt-leb (suc (suc n)) 1 (omega arith) in
    let b : (suc (suc n) - 1 == 0) ≡ false = ne_eqb (suc (suc n) - 1) 0 (λ e. omega arith) in
    a ∙ sym b

-- an object that lost a name counts one less
pub lost_counted : (names place : ℕ) (node after : Node) → IsCounted (names + 1) place node → kind_of after.holds ≡ kind_of node.holds → after.gone ≡ (unnamed node).gone → after.nlink ≡ (unnamed node).nlink → IsCounted names place after
lost_counted names place node after c kind gone nlink =
    let k : (kind_of after.holds == 2) ≡ (kind_of node.holds == 2) = ap (λ (n : ℕ). n == 2) kind in
    let fewer : (kind_of node.holds == 2) ≡ false → unnamed node ≡ with_fewer node = λ e. simp e in
    record {
      directory = λ e.
          let d : (kind_of node.holds == 2) ≡ true = sym k ∙ e in
          let u : unnamed node ≡ record node { gone = true } = simp d in
          let g : after.gone ≡ true = gone ∙ ap (λ (n : Node). n.gone) u in
          let z : names ≡ 0 = omega (arith, c.directory d, one_or_none (node.gone || (place == 0))) in
          z ∙ sym (ap (λ (b : Bool). if b || (place == 0) then 0 else 1) g);
      links = λ e.
          let d : (kind_of node.holds == 2) ≡ false = sym k ∙ e in
          let n : after.nlink ≡ node.nlink - 1 = nlink ∙ ap (λ (x : Node). x.nlink) (fewer d) in
          omega (arith, n, c.links d);
      gone = λ e.
          let d : (kind_of node.holds == 2) ≡ false = sym k ∙ e in
          let n : after.nlink ≡ node.nlink - 1 = nlink ∙ ap (λ (x : Node). x.nlink) (fewer d) in
          gone ∙ ap (λ (x : Node). x.gone) (fewer d) ∙ one_less node.nlink ∙ ap (λ (m : ℕ). m == 0) (sym n);
    } where
      one_or_none : (b : Bool) → (if b then 0 else 1) ≤ 1
      one_or_none true = omega arith
      one_or_none false = omega arith

ctime_nlink : (number : ℕ) (node : Node) → (with_ctime number node).nlink ≡ node.nlink
ctime_nlink number node = ⊎_elim (λ (e : node.gone ≡ true). simp e) (λ (e : node.gone ≡ false). simp e) (cases_Bool node.gone)

removed_nlink : (number : ℕ) (node : Node) → (removed number node).nlink ≡ (unnamed node).nlink
removed_nlink number node = ctime_nlink number (unnamed node)

removed_counted : (v : View) → Sound v → (dir name : List ℕ) (r : Removal v dir name) (place : ℕ) (after : Node) → slice_get (after_removing v dir name r.named.row.place).nodes place ≡ Some after
    → IsCounted (names_of place (after_removing v dir name r.named.row.place).nodes) place after
removed_counted v s dir name r place after e =
    let w = after_removing v dir name r.named.row.place in
    let d = r.dir_is.found in
    let q = r.named in
    let names = removed_names v dir name r place in
    let P : ℕ → Type 0 = λ k. IsCounted k place after in
    ⊎_elim (λ (z : place ≡ q.row.place).
    let l : Some (removed (next v) q.node) ≡ Some after = sym (removed_object v dir name r) ∙ ap (slice_get w.nodes) (sym z) ∙ e in
    let same : removed (next v) q.node ≡ after = cc in
    let one : names_of place v.nodes ≡ names_of place w.nodes + 1 = omega (arith, names, ap one_if (eq-eqb q.row.place place (sym z))) in
    let c : IsCounted (names_of place w.nodes + 1) place q.node = subst (λ (k : ℕ). IsCounted k place q.node) one (s.counted place q.node (ap (slice_get v.nodes) z ∙ q.there)) in
    subst (IsCounted (names_of place w.nodes) place) same
    (lost_counted (names_of place w.nodes) place q.node (removed (next v) q.node) c (ap kind_of (removed_holds (next v) q.node)) (removed_gone (next v) q.node) (removed_nlink (next v) q.node)))
    (λ (b : place ≡ q.row.place → ⊥).
    let kept : names_of place w.nodes ≡ names_of place v.nodes = omega (arith, names, ap one_if (ne_eqb q.row.place place (λ z. b (sym z)))) in
    subst P (sym kept)
    (⊎_elim (λ (z : place ≡ d.place).
    let l : Some (left (next v) name d.node) ≡ Some after = sym (removed_dir v dir name r).there ∙ ap (slice_get w.nodes) (sym z) ∙ e in
    let same : left (next v) name d.node ≡ after = cc in
    subst (IsCounted (names_of place v.nodes) place) same (counted_same (names_of place v.nodes) place d.node (left (next v) name d.node) (left_counts (next v) name d.node) (s.counted place d.node (ap (slice_get v.nodes) z ∙ d.there))))
    (λ (a : place ≡ d.place → ⊥). s.counted place after (sym (removed_others v dir name r place a b) ∙ e))
    (cases_eq place d.place)))
    (cases_eq place q.row.place)

pub removed_stays : (v : View) → Sound v → (dir name : List ℕ) (r : Removal v dir name) → v.counter < last_number → Sound (after_removing v dir name r.named.row.place)
removed_stays v s dir name r room =
    let w = after_removing v dir name r.named.row.place in
    let d = r.dir_is.found in
    let len = removed_length v dir name r in
    let named : 0 ≡ r.named.row.place → ⊥ = not_root v s r.named.row.place r.named.some in
    record {
      places = omega (arith, s.places, len);
      numbers = omega (arith, room);
      reboots = s.reboots;
      root =
          ⊎_elim (λ (e : 0 ≡ d.place).
          let l : Some s.root.0 ≡ Some d.node = sym s.root.1 ∙ ap (slice_get v.nodes) e ∙ d.there in
          let same : s.root.0 ≡ d.node = cc in
          (left (next v) name d.node, ap (slice_get w.nodes) e ∙ (removed_dir v dir name r).there, root_same s.root.0 (left (next v) name d.node) (subst (λ (x : Node). CountsSame x (left (next v) name d.node)) (sym same) (left_counts (next v) name d.node)) s.root.2))
          (λ (a : 0 ≡ d.place → ⊥). (s.root.0, removed_others v dir name r 0 a named ∙ s.root.1, s.root.2))
          (cases_eq 0 d.place);
      held = removed_held v s dir name r;
      counted = λ place after e. removed_counted v s dir name r place after e;
      few = λ place. omega (arith, s.few place, removed_names v dir name r place);
    }

-- ---- a name more

-- the objects after a LINK, in two steps
abbrev link_mid : (v : View) (file dir name : List ℕ) → Linking v file dir name → List Node
link_mid v file dir name l = changed (entered (next v) name l.file_is.place) l.new.dir_is.found.place v.nodes

abbrev link_end : (v : View) (file dir name : List ℕ) → Linking v file dir name → List Node
link_end v file dir name l = changed (linked (next v)) l.file_is.place (link_mid v file dir name l)

link_nodes : (v : View) (file dir name : List ℕ) (l : Linking v file dir name) → (after_linking_at v dir name l.file_is.place).nodes ≡ link_end v file dir name l
link_nodes v file dir name l = ap (λ (o : Option ℕ). changed (linked (next v)) l.file_is.place (changed_at (entered (next v) name l.file_is.place) o v.nodes)) l.new.dir_is.found.place_is

link_names : (v : View) (file dir name : List ℕ) (l : Linking v file dir name) (place : ℕ) → names_of place (link_end v file dir name l) ≡ names_of place v.nodes + one_if (l.file_is.place == place)
link_names v file dir name l place =
    let d = l.new.dir_is in
    let step = entered (next v) name l.file_is.place in
    let k : names_of place (link_end v file dir name l) ≡ names_of place (link_mid v file dir name l) = names_kept place (linked (next v)) l.file_is.place (link_mid v file dir name l) (λ n. refl) in
    let a = names_changed place step d.found.place v.nodes d.found.node d.found.there in
    let was : names_in place (rows_of d.found.node.holds) ≡ names_in place d.listing.rows = ap (λ (h : Holds). names_in place (rows_of h)) d.holds in
    let is : names_in place (rows_of (step d.found.node).holds) ≡ names_in place (with_row name l.file_is.place d.listing).rows = ap (λ (h : Holds). names_in place (rows_of (with_name name l.file_is.place h))) d.holds in
    let b : names_in place (with_row name l.file_is.place d.listing).rows ≡ names_in place (without name d.listing.rows) + one_if (l.file_is.place == place) = names_in_more place (without name d.listing.rows) (record { name = name; place = l.file_is.place; cookie = d.listing.last + 1 }) in
    let c : names_in place (without name d.listing.rows) ≡ names_in place d.listing.rows = ap (names_in place) (without-none name d.listing.rows l.new.none) in
    omega (arith, k, a, was, is, b, c)

linked_counted : (names place number : ℕ) (node : Node) → IsCounted names place node → (kind_of node.holds == 2) ≡ false → node.gone ≡ false → names < last_number → IsCounted (names + 1) place (linked number node)
linked_counted names place number node c k live l =
    let n : min (node.nlink + 1) 4294967295 ≡ names + 1 = omega (arith, c.links k) in
    let z : (names + 1 == 0) ≡ false = ne_eqb (names + 1) 0 (λ q. omega arith) in
    record { directory = λ e. absurd (cc); links = λ e. sym n; gone = λ e. live ∙ sym z ∙ ap (λ (m : ℕ). m == 0) (sym n) }

link_held : (v : View) → Sound v → (file dir name : List ℕ) (l : Linking v file dir name) → AllHeld (length v.nodes) (link_end v file dir name l)
link_held v s file dir name l =
    let count = length v.nodes in
    let d = l.new.dir_is.found in
    let one : AllHeld count (link_mid v file dir name l) =
    held_changed count (entered (next v) name l.file_is.place) d.place v.nodes s.held (λ x h. held_named count d.place name l.file_is.place x.holds (get_within v.nodes l.file_is.place l.file_is.node l.file_is.there) l.apart l.own h) in
    held_changed count (linked (next v)) l.file_is.place (link_mid v file dir name l) one (λ x h. h)

link_counted : (v : View) → Sound v → (file dir name : List ℕ) (l : Linking v file dir name) (place : ℕ) (after : Node) → slice_get (link_end v file dir name l) place ≡ Some after → IsCounted (names_of place (link_end v file dir name l)) place after
link_counted v s file dir name l place after e =
    let f = l.file_is in
    let d = l.new.dir_is.found in
    let mid = link_mid v file dir name l in
    let names = link_names v file dir name l place in
    ⊎_elim (λ (z : place ≡ f.place).
    let there : slice_get mid f.place ≡ Some f.node = changed_other (entered (next v) name f.place) d.place f.place v.nodes l.apart ∙ f.there in
    let q : Some (linked (next v) f.node) ≡ Some after = sym (changed_same (linked (next v)) f.place mid f.node there) ∙ ap (slice_get (link_end v file dir name l)) (sym z) ∙ e in
    let same : linked (next v) f.node ≡ after = cc in
    let more : names_of place (link_end v file dir name l) ≡ names_of place v.nodes + 1 = omega (arith, names, ap one_if (eq-eqb f.place place (sym z))) in
    let c = linked_counted (names_of place v.nodes) place (next v) f.node (s.counted place f.node (ap (slice_get v.nodes) z ∙ f.there)) l.kind f.live (omega (arith, s.few place, l.new.room)) in
    subst (λ (k : ℕ). IsCounted k place after) (sym more) (subst (IsCounted (names_of place v.nodes + 1) place) same c))
    (λ (b : place ≡ f.place → ⊥).
    let kept : names_of place (link_end v file dir name l) ≡ names_of place v.nodes = omega (arith, names, ap one_if (ne_eqb f.place place (λ z. b (sym z)))) in
    let g : slice_get mid place ≡ Some after = sym (changed_other (linked (next v)) f.place place mid b) ∙ e in
    let p = before_at (entered (next v) name f.place) (Some d.place) v.nodes (λ x. entered_counts (next v) name f.place x) place after g in
    subst (λ (k : ℕ). IsCounted k place after) (sym kept) (counted_same (names_of place v.nodes) place p.node after p.counts (s.counted place p.node p.there)))
    (cases_eq place f.place)

pub linked_stays : (v : View) → Sound v → (file dir name : List ℕ) (l : Linking v file dir name) → Sound (after_linking_at v dir name l.file_is.place)
linked_stays v s file dir name l =
    let w = after_linking_at v dir name l.file_is.place in
    let nodes = link_nodes v file dir name l in
    let mid = link_mid v file dir name l in
    let len : length w.nodes ≡ length v.nodes = ap length nodes ∙ changed_length (linked (next v)) l.file_is.place mid ∙ changed_length (entered (next v) name l.file_is.place) l.new.dir_is.found.place v.nodes in
    let r = after_at (entered (next v) name l.file_is.place) (Some l.new.dir_is.found.place) v.nodes (λ x. entered_counts (next v) name l.file_is.place x) 0 s.root.0 s.root.1 in
    let other_kind : 0 ≡ l.file_is.place → ⊥ = λ e.
    let q : Some s.root.0 ≡ Some l.file_is.node = sym s.root.1 ∙ ap (slice_get v.nodes) e ∙ l.file_is.there in
    let same : s.root.0 ≡ l.file_is.node = cc in
    let two : (kind_of l.file_is.node.holds == 2) ≡ true = ap (λ (x : Node). kind_of x.holds == 2) (sym same) ∙ s.root.2.kind in
    let three = l.kind in
    absurd (cc) in
    record {
      places = omega (arith, s.places, len);
      numbers = omega (arith, l.new.room);
      reboots = s.reboots;
      root = (r.0, ap (λ (x : List Node). slice_get x 0) nodes ∙ changed_other (linked (next v)) l.file_is.place 0 mid other_kind ∙ r.1, root_same s.root.0 r.0 r.2 s.root.2);
      held = subst (λ (n : ℕ). AllHeld n w.nodes) (sym len) (subst (AllHeld (length v.nodes)) (sym nodes) (link_held v s file dir name l));
      counted = λ place after e.
          subst (λ (k : ℕ). IsCounted k place after) (sym (ap (names_of place) nodes)) (link_counted v s file dir name l place after (ap (λ (x : List Node). slice_get x place) (sym nodes) ∙ e));
      few = λ place. omega (arith, s.few place, ap (names_of place) nodes, link_names v file dir name l place, one_at_most (l.file_is.place == place));
    }

-- ---- a name that moves

moved_counts : (parent : ℕ) (node : Node) → CountsSame node (moved parent node)
moved_counts parent node = record { kind = moved_kind parent node.holds; gone = refl; nlink = refl }

-- where no object is replaced, or another one, an object has as many names as before
moving_same : (v : View) (dir name to_dir to : List ℕ) (t : Option ℕ) (m : Move v dir name to_dir to t) (place : ℕ) → ((x : ℕ) → t ≡ Some x → place ≡ x → ⊥) → names_of place (after_moving v dir name to_dir to t m.named.row.place).nodes ≡ names_of place v.nodes
moving_same v dir name to_dir to t m place d =
    let names = moving_names v dir name to_dir to t m place in
    elim m.replaced [
      | nothing f n ↦ omega (arith, names, ap (names_in place) (without-none to m.into.listing.rows f))
      | an_object q n a b ↦ omega (arith, names, names_without place to m.into.listing.rows q.row q.found, ap one_if (ne_eqb q.row.place place (λ e. d q.row.place n (sym e))))
    ]

moving_fewer : (v : View) (dir name to_dir to : List ℕ) (t : Option ℕ) (m : Move v dir name to_dir to t) (q : NamedRow v m.into.found.place to m.into.listing) → names_of q.row.place v.nodes ≡ names_of q.row.place (after_moving v dir name to_dir to t m.named.row.place).nodes + 1
moving_fewer v dir name to_dir to t m q =
    let same : (q.row.place == q.row.place) ≡ true = eq-eqb q.row.place q.row.place refl in
    omega (arith, moving_names v dir name to_dir to t m q.row.place, names_without q.row.place to m.into.listing.rows q.row q.found, ap one_if same)

-- an object that is neither moved nor replaced counts as before
before_names : (v : View) (dir name to_dir to : List ℕ) (t : Option ℕ) (m : Move v dir name to_dir to t) (place : ℕ) (after : Node) → slice_get (nodes_two v dir name to_dir to t m) place ≡ Some after → Before v.nodes place after
before_names v dir name to_dir to t m place after e =
    let p = before_at (left (next v) name) (Some m.from.found.place) (nodes_one v dir name to_dir to t m) (λ x. left_counts (next v) name x) place after e in
    let q = before_at (entered (next v) to m.named.row.place) (Some m.into.found.place) v.nodes (λ x. entered_counts (next v) to m.named.row.place x) place p.node p.there in
    record { node = q.node; there = q.there; counts = then_counts q.node p.node after q.counts p.counts }

other_counted : (v : View) → Sound v → (dir name to_dir to : List ℕ) (t : Option ℕ) (m : Move v dir name to_dir to t) (place : ℕ) (after : Node) → slice_get (nodes_four v dir name to_dir to t m) place ≡ Some after → (place ≡ m.named.row.place → ⊥) → ((x : ℕ) → t ≡ Some x → place ≡ x → ⊥)
    → IsCounted (names_of place (after_moving v dir name to_dir to t m.named.row.place).nodes) place after
other_counted v s dir name to_dir to t m place after e a d =
    let b = before_names v dir name to_dir to t m place after (sym (named_only v dir name to_dir to t m place a d) ∙ e) in
    subst (λ (k : ℕ). IsCounted k place after) (sym (moving_same v dir name to_dir to t m place d)) (counted_same (names_of place v.nodes) place b.node after b.counts (s.counted place b.node b.there))

-- what was replaced counts one less
target_counted : (v : View) → Sound v → (dir name to_dir to : List ℕ) (t : Option ℕ) (m : Move v dir name to_dir to t) (place : ℕ) (after : Node) → slice_get (nodes_four v dir name to_dir to t m) place ≡ Some after → (q : NamedRow v m.into.found.place to m.into.listing) → t ≡ Some q.row.place → place ≡ q.row.place
    → IsCounted (names_of place (after_moving v dir name to_dir to t m.named.row.place).nodes) place after
target_counted v s dir name to_dir to t m place after e q n z =
    let w = after_moving v dir name to_dir to t m.named.row.place in
    let l : Some (unnamed q.node) ≡ Some after = sym (target_there v dir name to_dir to t m q.row.place q.node n q.there) ∙ ap (slice_get (nodes_four v dir name to_dir to t m)) (sym z) ∙ e in
    let same : unnamed q.node ≡ after = cc in
    let c : IsCounted (names_of q.row.place w.nodes + 1) q.row.place q.node = subst (λ (k : ℕ). IsCounted k q.row.place q.node) (moving_fewer v dir name to_dir to t m q) (s.counted q.row.place q.node q.there) in
    let r : IsCounted (names_of q.row.place w.nodes) q.row.place (unnamed q.node) = lost_counted (names_of q.row.place w.nodes) q.row.place q.node (unnamed q.node) c (ap kind_of (unnamed_holds q.node)) refl refl in
    subst (λ (p : ℕ). IsCounted (names_of p w.nodes) p after) (sym z) (subst (IsCounted (names_of q.row.place w.nodes) q.row.place) same r)

unmoved_counted : (v : View) → Sound v → (dir name to_dir to : List ℕ) (t : Option ℕ) (m : Move v dir name to_dir to t) (place : ℕ) (after : Node) → slice_get (nodes_four v dir name to_dir to t m) place ≡ Some after → (place ≡ m.named.row.place → ⊥)
    → IsCounted (names_of place (after_moving v dir name to_dir to t m.named.row.place).nodes) place after
unmoved_counted v s dir name to_dir to t m place after e a =
    elim m.replaced [
      | nothing f n ↦ other_counted v s dir name to_dir to t m place after e a (λ x g h. absurd (cc))
      | an_object q n i j ↦
          ⊎_elim (λ (z : place ≡ q.row.place). target_counted v s dir name to_dir to t m place after e q n z)
          (λ (d : place ≡ q.row.place → ⊥). other_counted v s dir name to_dir to t m place after e a (λ x g h. let k : x ≡ q.row.place = cc in d (h ∙ k)))
          (cases_eq place q.row.place)
    ]

moving_counted : (v : View) → Sound v → (dir name to_dir to : List ℕ) (t : Option ℕ) (m : Move v dir name to_dir to t) (place : ℕ) (after : Node) → slice_get (nodes_four v dir name to_dir to t m) place ≡ Some after
    → IsCounted (names_of place (after_moving v dir name to_dir to t m.named.row.place).nodes) place after
moving_counted v s dir name to_dir to t m place after e =
    ⊎_elim (λ (z : place ≡ m.named.row.place).
    let l : Some (moved (place_or_root to_dir) m.named.node) ≡ Some after = sym (moved_there v dir name to_dir to t m) ∙ ap (slice_get (nodes_four v dir name to_dir to t m)) (sym z) ∙ e in
    let same : moved (place_or_root to_dir) m.named.node ≡ after = cc in
    let kept = moving_same v dir name to_dir to t m place (λ x g h. (target_apart v dir name to_dir to t m x g).0 (sym h ∙ z)) in
    let c : IsCounted (names_of place v.nodes) place m.named.node = s.counted place m.named.node (ap (slice_get v.nodes) z ∙ m.named.there) in
    subst (λ (k : ℕ). IsCounted k place after) (sym kept)
    (subst (IsCounted (names_of place v.nodes) place) same (counted_same (names_of place v.nodes) place m.named.node (moved (place_or_root to_dir) m.named.node) (moved_counts (place_or_root to_dir) m.named.node) c)))
    (λ (a : place ≡ m.named.row.place → ⊥). unmoved_counted v s dir name to_dir to t m place after e a)
    (cases_eq place m.named.row.place)

-- the root isn't replaced
root_kept : (v : View) → Sound v → (dir name to_dir to : List ℕ) (t : Option ℕ) (m : Move v dir name to_dir to t) (x : ℕ) → t ≡ Some x → 0 ≡ x → ⊥
root_kept v s dir name to_dir to t m x e g =
    elim m.replaced [
      | nothing f n ↦ absurd (cc)
      | an_object q n a b ↦ let k : x ≡ q.row.place = cc in not_root v s q.row.place q.some (g ∙ k)
    ]

moving_few : (v : View) → Sound v → (dir name to_dir to : List ℕ) (t : Option ℕ) (m : Move v dir name to_dir to t) (place : ℕ) → names_of place (after_moving v dir name to_dir to t m.named.row.place).nodes ≤ v.counter + 1
moving_few v s dir name to_dir to t m place =
    let names = moving_names v dir name to_dir to t m place in
    elim m.replaced [
      | nothing f n ↦ omega (arith, names, s.few place, ap (names_in place) (without-none to m.into.listing.rows f))
      | an_object q n a b ↦ omega (arith, names, s.few place, names_without place to m.into.listing.rows q.row q.found)
    ]

pub moved_stays : (v : View) → Sound v → (dir name to_dir to : List ℕ) (t : Option ℕ) (m : Move v dir name to_dir to t) → v.counter < last_number → Sound (after_moving v dir name to_dir to t m.named.row.place)
moved_stays v s dir name to_dir to t m room =
    let w = after_moving v dir name to_dir to t m.named.row.place in
    let nodes = moving_nodes v dir name to_dir to t m in
    let a = after_at (entered (next v) to m.named.row.place) (Some m.into.found.place) v.nodes (λ x. entered_counts (next v) to m.named.row.place x) 0 s.root.0 s.root.1 in
    let b = after_at (left (next v) name) (Some m.from.found.place) (nodes_one v dir name to_dir to t m) (λ x. left_counts (next v) name x) 0 a.0 a.1 in
    record {
      places = omega (arith, s.places, moving_length v dir name to_dir to t m);
      numbers = omega (arith, room);
      reboots = s.reboots;
      root = (
        b.0,
        ap (λ (x : List Node). slice_get x 0) nodes ∙ named_only v dir name to_dir to t m 0 (not_root v s m.named.row.place m.named.some) (λ x e g. root_kept v s dir name to_dir to t m x e g) ∙ b.1,
        root_same s.root.0 b.0 (then_counts s.root.0 a.0 b.0 a.2 b.2) s.root.2,
      );
      held = moving_held v s dir name to_dir to t m;
      counted = λ place after e. moving_counted v s dir name to_dir to t m place after (ap (λ (x : List Node). slice_get x place) (sym nodes) ∙ e);
      few = λ place. moving_few v s dir name to_dir to t m place;
    }
