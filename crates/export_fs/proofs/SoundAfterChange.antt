-- Every call leaves the export sound: one object changed, a new one, a name more, and a name less.
use Rattle.std.proofs.Common.{◌≡◌, ◌<◌, ◌≤◌, ◌+◌, ◌||◌, ℕ, zero, suc, Bool, true, false, List, [], ◌∷◌, ◌++◌, length, Option, Some, None, refl, sym, ap, subst, ◌∙◌, arith, ⊎_elim, ◌==◌, slice_get, if◌then◌else◌, length-append}
use Rattle.std.proofs.lemmas.Bool.{cases_eq, eq-eqb, ne_eqb}
use Rattle.export_fs.specs.declared.node.Holds.{Holds}
use Rattle.export_fs.specs.declared.node.Holds.TheVariants.{File, Directory, Link}
use Rattle.export_fs.specs.declared.node.Node.{Node}
use Rattle.export_fs.specs.Held.{Row}
use Rattle.export_fs.specs.View.{View}
use Rattle.export_fs.specs.Parts.{last_number, place_of, kind_of, rows_of}
use Rattle.export_fs.specs.Names.{without, with_row, is_own_name}
use Rattle.export_fs.specs.Changes.{changed, entered, with_name}
use Rattle.export_fs.specs.After.{next, changed_at, after_making}
use Rattle.export_fs.specs.Sound.{Sound, IsHeld, IsCounted, IsRoot, names_of, names_in, one_if}
use Rattle.export_fs.proofs.EntriesByName.{without-none}
use Rattle.export_fs.proofs.Objects.{changed_there, other, was_at, changed_same, changed_other, changed_length, get_within, get_last, get_front_other, names_changed, names_kept, names_more, named_in}
use Rattle.export_fs.proofs.EntriesNamed.{names_in_more, entry_for}
use Rattle.export_fs.proofs.ContentStaysSound.{AllHeld, held_changed, held_changed_at, held_wider, held_named}
use Rattle.export_fs.proofs.ServesCreates.{NewName, made_dir, made_new, made_others}

-- ---- an object that counts its names as before

pub record CountsSame (old new : Node) : Type 0 where
  pub kind : kind_of new.holds ≡ kind_of old.holds
  pub gone : new.gone ≡ old.gone
  pub nlink : new.nlink ≡ old.nlink

pub counted_same : (names place : ℕ) (old new : Node) → CountsSame old new → IsCounted names place old → IsCounted names place new
counted_same names place old new s c =
    let k : (kind_of new.holds == 2) ≡ (kind_of old.holds == 2) = ap (λ (n : ℕ). n == 2) s.kind in
    record {
      directory = λ e. c.directory (sym k ∙ e) ∙ ap (λ (g : Bool). if g || (place == 0) then 0 else 1) (sym s.gone);
      links = λ e. c.links (sym k ∙ e) ∙ sym s.nlink;
      gone = λ e. s.gone ∙ c.gone (sym k ∙ e) ∙ ap (λ (n : ℕ). n == 0) (sym s.nlink);
    }

pub same_counts : (node : Node) → CountsSame node node
same_counts node = record { kind = refl; gone = refl; nlink = refl }

pub root_same : (old new : Node) → CountsSame old new → IsRoot old → IsRoot new
root_same old new s r = record { kind = ap (λ (n : ℕ). n == 2) s.kind ∙ r.kind; there = s.gone ∙ r.there }

-- ---- one object is changed, and no name

-- the objects before and after, one of them changed
pub record OneStays (v w : View) (f : Node → Node) (o : Option ℕ) : Type 0 where
  pub nodes : w.nodes ≡ changed_at f o v.nodes
  pub reboots : w.reboots ≡ v.reboots
  pub above : v.counter ≤ w.counter
  pub below : w.counter ≤ last_number
  pub counts : (node : Node) → CountsSame node (f node)
  pub rows : (node : Node) → rows_of (f node).holds ≡ rows_of node.holds
  pub held : (count place : ℕ) (node : Node) → IsHeld count place node.holds → IsHeld count place (f node).holds

at_length : (f : Node → Node) (o : Option ℕ) (nodes : List Node) → length (changed_at f o nodes) ≡ length nodes
at_length f None nodes = refl
at_length f (Some q) nodes = changed_length f q nodes

at_names : (f : Node → Node) (o : Option ℕ) (nodes : List Node) → ((node : Node) → rows_of (f node).holds ≡ rows_of node.holds) → (place : ℕ) → names_of place (changed_at f o nodes) ≡ names_of place nodes
at_names f None nodes same place = refl
at_names f (Some q) nodes same place = names_kept place f q nodes same

-- an object afterwards counts as one before
pub record Before (nodes : List Node) (place : ℕ) (after : Node) : Type 0 where
  pub node : Node
  pub there : slice_get nodes place ≡ Some node
  pub counts : CountsSame node after

pub before_at : (f : Node → Node) (o : Option ℕ) (nodes : List Node) → ((node : Node) → CountsSame node (f node)) → (place : ℕ) (after : Node) → slice_get (changed_at f o nodes) place ≡ Some after → Before nodes place after
before_at f None nodes c place after e = record { node = after; there = e; counts = same_counts after }
before_at f (Some q) nodes c place after e =
    elim (was_at f q place nodes after e) [
      | changed_there node s is g ↦ record { node = node; there = ap (slice_get nodes) s ∙ is; counts = subst (CountsSame node) (sym g) (c node) }
      | other d is ↦ record { node = after; there = is; counts = same_counts after }
    ]

-- and one before is there afterwards
pub after_at : (f : Node → Node) (o : Option ℕ) (nodes : List Node) → ((node : Node) → CountsSame node (f node)) → (place : ℕ) (node : Node) → slice_get nodes place ≡ Some node → (after : Node) × (slice_get (changed_at f o nodes) place ≡ Some after) × CountsSame node after
after_at f None nodes c place node e = (node, e, same_counts node)
after_at f (Some q) nodes c place node e =
    ⊎_elim (λ (s : place ≡ q). (f node, ap (slice_get (changed f q nodes)) s ∙ changed_same f q nodes node (ap (slice_get nodes) (sym s) ∙ e), c node))
    (λ (d : place ≡ q → ⊥). (node, changed_other f q place nodes d ∙ e, same_counts node))
    (cases_eq place q)

pub one_stays : (v w : View) → Sound v → (f : Node → Node) (o : Option ℕ) → OneStays v w f o → Sound w
one_stays v w s f o c =
    let len : length w.nodes ≡ length v.nodes = ap length c.nodes ∙ at_length f o v.nodes in
    let names = λ (place : ℕ). ap (names_of place) c.nodes ∙ at_names f o v.nodes c.rows place in
    let first = after_at f o v.nodes c.counts 0 s.root.0 s.root.1 in
    record {
      places = omega (arith, s.places, c.above, len);
      numbers = c.below;
      reboots = omega (arith, s.reboots, c.reboots);
      root = (first.0, ap (λ (x : List Node). slice_get x 0) c.nodes ∙ first.1, root_same s.root.0 first.0 first.2 s.root.2);
      held = subst (λ (n : ℕ). AllHeld n w.nodes) (sym len) (subst (AllHeld (length v.nodes)) (sym c.nodes) (held_changed_at (length v.nodes) f o v.nodes s.held (λ q node e h. c.held (length v.nodes) q node h)));
      counted = λ place after e.
          let b = before_at f o v.nodes c.counts place after (ap (λ (x : List Node). slice_get x place) (sym c.nodes) ∙ e) in
          counted_same (names_of place w.nodes) place b.node after b.counts (subst (λ (n : ℕ). IsCounted n place b.node) (sym (names place)) (s.counted place b.node b.there));
      few = λ place. omega (arith, s.few place, names place, c.above);
    }

-- ---- a new object

-- an object that no name is of yet
pub unborn : (v : View) → Sound v → names_of (length v.nodes) v.nodes ≡ 0
unborn v s =
    ⊎_elim (λ (z : names_of (length v.nodes) v.nodes ≡ 0). z)
    (λ (d : names_of (length v.nodes) v.nodes ≡ 0 → ⊥).
    let n = named_in (length v.nodes) v.nodes (above (names_of (length v.nodes) v.nodes) d) in
    let r = entry_for (length v.nodes) (rows_of n.node.holds) n.some in
    absurd (outside (length v.nodes) n.dir n.node.holds r.at r.row r.is r.names (s.held n.dir n.node n.is)))
    (cases_eq (names_of (length v.nodes) v.nodes) 0) where
      above : (k : ℕ) → (k ≡ 0 → ⊥) → 1 ≤ k
      above zero d = absurd (d refl)
      above (suc k) d = omega arith

      outside : (count dir : ℕ) (holds : Holds) (at : ℕ) (row : Row) → slice_get (rows_of holds) at ≡ Some row → row.place ≡ count → IsHeld count dir holds → ⊥
      outside count dir (File content) at row e p h = absurd (cc)
      outside count dir (Directory listing) at row e p h = omega (arith, (h.entries at row e).there, p)
      outside count dir (Link text) at row e p h = absurd (cc)

-- a node as calls make them
pub record IsNew (count : ℕ) (node : Node) : Type 0 where
  pub live : node.gone ≡ false
  pub bare : rows_of node.holds ≡ []
  pub held : (more place : ℕ) → IsHeld more place node.holds
  pub links : (kind_of node.holds == 2) ≡ false → node.nlink ≡ 1

new_counted : (count : ℕ) (node : Node) → (count ≡ 0 → ⊥) → IsNew count node → IsCounted 1 count node
new_counted count node d n =
    let z : (count == 0) ≡ false = ne_eqb count 0 d in
    record {
      directory = λ e. sym (ap (λ (g : Bool). if g || (count == 0) then 0 else 1) n.live ∙ ap (λ (b : Bool). if b then 0 else 1) z);
      links = λ e. sym (n.links e);
      gone = λ e. n.live ∙ sym (ap (λ (k : ℕ). k == 0) (n.links e));
    }

pub made_length : (v : View) (dir name : List ℕ) (n : NewName v dir name) (node : Node) → length (after_making v dir name node).nodes ≡ length v.nodes + 1
made_length v dir name n node = at_length (entered (next v) name (length v.nodes)) (place_of dir) (v.nodes ++ node ∷ []) ∙ length-append v.nodes (node ∷ [])

made_names : (v : View) (dir name : List ℕ) (n : NewName v dir name) (node : Node) → IsNew (length v.nodes) node → (place : ℕ) → names_of place (after_making v dir name node).nodes ≡ names_of place v.nodes + one_if (length v.nodes == place)
made_names v dir name n node new place =
    let f = n.dir_is.found in
    let count = length v.nodes in
    let step = entered (next v) name count in
    let nodes : (after_making v dir name node).nodes ≡ changed step f.place (v.nodes ++ node ∷ []) = ap (λ (o : Option ℕ). changed_at step o (v.nodes ++ node ∷ [])) f.place_is in
    let there : slice_get (v.nodes ++ node ∷ []) f.place ≡ Some f.node = get_front_other v.nodes node f.place (λ e. omega (arith, get_within v.nodes f.place f.node f.there)) ∙ f.there in
    let a = names_changed place step f.place (v.nodes ++ node ∷ []) f.node there in
    let b = names_more place v.nodes node in
    let bare : names_in place (rows_of node.holds) ≡ 0 = ap (names_in place) new.bare in
    let was : names_in place (rows_of f.node.holds) ≡ names_in place n.dir_is.listing.rows = ap (λ (h : Holds). names_in place (rows_of h)) n.dir_is.holds in
    let is : names_in place (rows_of (step f.node).holds) ≡ names_in place (with_row name count n.dir_is.listing).rows = ap (λ (h : Holds). names_in place (rows_of (with_name name count h))) n.dir_is.holds in
    let c : names_in place (with_row name count n.dir_is.listing).rows ≡ names_in place (without name n.dir_is.listing.rows) + one_if (count == place) = names_in_more place (without name n.dir_is.listing.rows) (record { name = name; place = count; cookie = n.dir_is.listing.last + 1 }) in
    let d : names_in place (without name n.dir_is.listing.rows) ≡ names_in place n.dir_is.listing.rows = ap (names_in place) (without-none name n.dir_is.listing.rows n.none) in
    omega (arith, ap (names_of place) nodes, a, b, bare, was, is, c, d)

made_held : (v : View) → Sound v → (dir name : List ℕ) (n : NewName v dir name) (node : Node) → IsNew (length v.nodes) node → is_own_name name ≡ false → AllHeld (length v.nodes + 1) (after_making v dir name node).nodes
made_held v s dir name n node new own =
    let f = n.dir_is.found in
    let count = length v.nodes in
    let step = entered (next v) name count in
    let nodes : (after_making v dir name node).nodes ≡ changed step f.place (v.nodes ++ node ∷ []) = ap (λ (o : Option ℕ). changed_at step o (v.nodes ++ node ∷ [])) f.place_is in
    let more : AllHeld (count + 1) (v.nodes ++ node ∷ []) = λ place after e.
    ⊎_elim (λ (q : place ≡ count).
    let l : Some node ≡ Some after = sym (get_last v.nodes node) ∙ ap (slice_get (v.nodes ++ node ∷ [])) (sym q) ∙ e in
    let same : node ≡ after = cc in
    subst (λ (x : Node). IsHeld (count + 1) place x.holds) same (new.held (count + 1) place))
    (λ (d : place ≡ count → ⊥). held_wider count (count + 1) place after.holds (omega arith) (s.held place after (sym (get_front_other v.nodes node place d) ∙ e)))
    (cases_eq place count) in
    let apart : count ≡ f.place → ⊥ = λ e. omega (arith, get_within v.nodes f.place f.node f.there) in
    subst (AllHeld (count + 1)) (sym nodes) (held_changed (count + 1) step f.place (v.nodes ++ node ∷ []) more (λ x h. held_named (count + 1) f.place name count x.holds (omega arith) apart own h))

entered_kind : (name : List ℕ) (place : ℕ) (holds : Holds) → kind_of (with_name name place holds) ≡ kind_of holds
entered_kind name place (File content) = refl
entered_kind name place (Directory listing) = refl
entered_kind name place (Link text) = refl

pub entered_counts : (number : ℕ) (name : List ℕ) (place : ℕ) (node : Node) → CountsSame node (entered number name place node)
entered_counts number name place node = record { kind = entered_kind name place node.holds; gone = refl; nlink = refl }

pub one_at_most : (b : Bool) → one_if b ≤ 1
one_at_most true = omega arith
one_at_most false = omega arith

made_counted : (v : View) → Sound v → (dir name : List ℕ) (n : NewName v dir name) (node : Node) → IsNew (length v.nodes) node → (place : ℕ) (after : Node) → slice_get (after_making v dir name node).nodes place ≡ Some after → IsCounted (names_of place (after_making v dir name node).nodes) place after
made_counted v s dir name n node new place after e =
    let w = after_making v dir name node in
    let f = n.dir_is.found in
    let count = length v.nodes in
    let names = made_names v dir name n node new place in
    let P : ℕ → Type 0 = λ k. IsCounted k place after in
    ⊎_elim (λ (q : place ≡ count).
    let l : Some node ≡ Some after = sym (made_new v dir name n node) ∙ ap (slice_get w.nodes) (sym q) ∙ e in
    let same : node ≡ after = cc in
    let one : names_of place w.nodes ≡ 1 = omega (arith, names, ap (λ (k : ℕ). names_of k v.nodes) q, unborn v s, ap one_if (eq-eqb count place (sym q))) in
    let c : IsCounted 1 count node = new_counted count node (λ z. omega (arith, get_within v.nodes 0 s.root.0 s.root.1)) new in
    subst P (sym one) (subst (IsCounted 1 place) same (subst (λ (k : ℕ). IsCounted 1 k node) (sym q) c)))
    (λ (d : place ≡ count → ⊥).
    let kept : names_of place w.nodes ≡ names_of place v.nodes = omega (arith, names, ap one_if (ne_eqb count place (λ z. d (sym z)))) in
    subst P (sym kept)
    (⊎_elim (λ (q : place ≡ f.place).
    let l : Some (entered (next v) name count f.node) ≡ Some after = sym (made_dir v dir name n node).there ∙ ap (slice_get w.nodes) (sym q) ∙ e in
    let same : entered (next v) name count f.node ≡ after = cc in
    subst (IsCounted (names_of place v.nodes) place) same (counted_same (names_of place v.nodes) place f.node (entered (next v) name count f.node) (entered_counts (next v) name count f.node) (s.counted place f.node (ap (slice_get v.nodes) q ∙ f.there))))
    (λ (b : place ≡ f.place → ⊥). s.counted place after (sym (made_others v dir name n node place b d) ∙ e))
    (cases_eq place f.place)))
    (cases_eq place count)

pub made_stays : (v : View) → Sound v → (dir name : List ℕ) (n : NewName v dir name) (node : Node) → IsNew (length v.nodes) node → is_own_name name ≡ false → Sound (after_making v dir name node)
made_stays v s dir name n node new own =
    let w = after_making v dir name node in
    let f = n.dir_is.found in
    let count = length v.nodes in
    let len = made_length v dir name n node in
    let some : 0 < count = get_within v.nodes 0 s.root.0 s.root.1 in
    let dir_there = (made_dir v dir name n node).there in
    record {
      places = omega (arith, s.places, len);
      numbers = omega (arith, n.room);
      reboots = s.reboots;
      root =
          ⊎_elim (λ (e : 0 ≡ f.place).
          let r : Some s.root.0 ≡ Some f.node = sym s.root.1 ∙ ap (slice_get v.nodes) e ∙ f.there in
          let same : s.root.0 ≡ f.node = cc in
          (entered (next v) name count f.node, ap (slice_get w.nodes) e ∙ dir_there, root_same s.root.0 (entered (next v) name count f.node) (subst (λ (x : Node). CountsSame x (entered (next v) name count f.node)) (sym same) (entered_counts (next v) name count f.node)) s.root.2))
          (λ (d : 0 ≡ f.place → ⊥). (s.root.0, made_others v dir name n node 0 d (λ e. omega arith) ∙ s.root.1, s.root.2))
          (cases_eq 0 f.place);
      held = subst (λ (k : ℕ). AllHeld k w.nodes) (sym len) (made_held v s dir name n node new own);
      counted = λ place after e. made_counted v s dir name n node new place after e;
      few = λ place. omega (arith, s.few place, made_names v dir name n node new place, one_at_most (count == place));
    }
