-- A new export is sound, and stays so where objects are placed in it.
use Rattle.std.proofs.Common.{◌≡◌, ◌<◌, ◌-◌, not, ℕ, zero, suc, true, false, List, [], ◌∷◌, length, take, Option, Some, None, refl, sym, ap, subst, ◌∙◌, arith, ⊎_elim, ◌==◌, slice_get}
use Rattle.std.specs.Prelude.{is_none}
use Rattle.std.proofs.lemmas.Bool.{cases_Bool, and_parts, not-true}
use Rattle.world_model.specs.NameService.{keeps_all}
use Rattle.export_fs.specs.declared.node.Node.{Node}
use Rattle.export_fs.specs.View.{View}
use Rattle.export_fs.specs.Parts.{last_number, handle_of, kind_at}
use Rattle.export_fs.specs.Names.{is_own_name, named_at}
use Rattle.export_fs.specs.Refusals.{is_full}
use Rattle.export_fs.specs.Changes.{new_dir}
use Rattle.export_fs.specs.After.{next, after_making_at}
use Rattle.export_fs.specs.Placing.{walked, new_object, after_placing, may_place, placed_in, placed_last, placed}
use Rattle.export_fs.specs.Sound.{Sound, IsHeld, IsCounted}
use Rattle.export_fs.proofs.Handles.{place_is}
use Rattle.export_fs.proofs.Objects.{get_within}
use Rattle.export_fs.proofs.ServerOfExport.{Found}
use Rattle.export_fs.proofs.DirectoryNames.{dir_at, dir_found, named_is, no_row, numbers_left}
use Rattle.export_fs.proofs.ServesCreates.{NewName}
use Rattle.export_fs.proofs.SoundAfterChange.{IsNew, made_stays}
use Rattle.export_fs.proofs.SoundAfterCall.{dir_new}

-- ---- a new export

abbrev pub new_view : View
new_view = record { nodes = new_dir 0 1 keeps_all ∷ []; counter = 1; reboots = 0 }

only_root : (place : ℕ) (node : Node) → slice_get (new_dir 0 1 keeps_all ∷ []) place ≡ Some node → (place ≡ 0) × (new_dir 0 1 keeps_all ≡ node)
only_root zero node e = (refl, cc)
only_root (suc place) node e = absurd (cc)

pub begins : Sound new_view
begins = record {
  places = omega arith;
  numbers = omega arith;
  reboots = omega arith;
  root = (new_dir 0 1 keeps_all, refl, record { kind = refl; there = refl });
  held = λ place node e. subst (λ (n : Node). IsHeld 1 place n.holds) (only_root place node e).1 (record { entries = λ at row q. absurd (cc); once = λ name. refl });
  counted = λ place node e.
      let p = only_root place node e in
      subst (IsCounted 0 place) p.1
      (subst (λ (k : ℕ). IsCounted 0 k (new_dir 0 1 keeps_all)) (sym p.0) (record { directory = λ q. refl; links = λ q. absurd (cc); gone = λ q. absurd (cc) }));
  few = λ place. omega arith;
}

-- ---- objects that are placed

object_new : (count parent number : ℕ) (file : Option (List ℕ)) → IsNew count (new_object parent number file)
object_new count parent number None = dir_new count parent number keeps_all
object_new count parent number (Some bytes) = record { live = refl; bare = refl; held = λ more place. omega arith; links = λ e. refl }

-- the directory of a place, by its file handle
record PlaceFound (v : View) (dir : ℕ) : Type 0 where
  node : Node
  there : slice_get v.nodes dir ≡ Some node
  live : node.gone ≡ false

place_found : (v : View) (dir : ℕ) → (kind_at v.nodes (Some dir) == 2) ≡ true → PlaceFound v dir
place_found v dir e = by_node (slice_get v.nodes dir) refl where
  by_node : (o : Option Node) → slice_get v.nodes dir ≡ o → PlaceFound v dir
  by_node None g = let f = simp g at e in absurd (cc)
  by_node (Some node) g =
      ⊎_elim (λ (b : node.gone ≡ true). let f = simp (g, b) at e in absurd (cc)) (λ (b : node.gone ≡ false). record { node = node; there = g; live = b }) (cases_Bool node.gone)

place_name : (v : View) → Sound v → (dir : ℕ) (name : List ℕ) → may_place v dir name ≡ true → NewName v (handle_of dir) name
place_name v s dir name m =
    let a = and_parts _ (not (is_full v)) m in
    let b = and_parts _ (is_none (named_at v.nodes (Some dir) name)) a.0 in
    let c = and_parts (kind_at v.nodes (Some dir) == 2) (not (is_own_name name)) b.0 in
    let p = place_found v dir c.0 in
    let below : dir < last_number = omega (arith, get_within v.nodes dir p.node p.there, s.places, s.numbers) in
    let is = place_is dir below in
    let f : Found v (handle_of dir) = record { place = dir; node = p.node; below = below; is = refl; place_is = is; there = p.there; live = p.live } in
    let d = dir_found v (handle_of dir) f (ap (λ (o : Option ℕ). kind_at v.nodes o == 2) is ∙ c.0) in
    record {
      dir_is = d;
      none = no_row name d.listing.rows (ap is_none (sym (named_is v (handle_of dir) name d.found.place d.found.node d.listing d.found.place_is (dir_at v (handle_of dir) d)) ∙ ap (λ (o : Option ℕ). named_at v.nodes o name) is) ∙ b.1);
      room = numbers_left v (not-true _ a.1);
    }

placing_stays : (v : View) → Sound v → (dir : ℕ) (name : List ℕ) (file : Option (List ℕ)) → may_place v dir name ≡ true → Sound (after_placing v dir name file)
placing_stays v s dir name file m =
    let a = and_parts _ (not (is_full v)) m in
    let b = and_parts _ (is_none (named_at v.nodes (Some dir) name)) a.0 in
    let c = and_parts (kind_at v.nodes (Some dir) == 2) (not (is_own_name name)) b.0 in
    let p = place_found v dir c.0 in
    let is = place_is dir (omega (arith, get_within v.nodes dir p.node p.there, s.places, s.numbers)) in
    let node = new_object dir (next v) file in
    subst (λ (o : Option ℕ). Sound (after_making_at v o name node)) is (made_stays v s (handle_of dir) name (place_name v s dir name m) node (object_new (length v.nodes) dir (next v) file) (not-true _ c.1))

placed_in_stays : (v w : View) → Sound v → (name : List ℕ) (file : Option (List ℕ)) (dir : Option ℕ) → placed_in v name file dir ≡ Some w → Sound w
placed_in_stays v w s name file None e = absurd (cc)
placed_in_stays v w s name file (Some dir) e =
    ⊎_elim (λ (m : may_place v dir name ≡ true).
    let f : Some (after_placing v dir name file) ≡ Some w = simp m at e in
    let same : after_placing v dir name file ≡ w = cc in
    subst Sound same (placing_stays v s dir name file m))
    (λ (m : may_place v dir name ≡ false). let f : None ≡ Some w = simp m at e in absurd (cc))
    (cases_Bool (may_place v dir name))

placed_last_stays : (v w : View) → Sound v → (front : List (List ℕ)) (name : Option (List ℕ)) (file : Option (List ℕ)) → placed_last v front name file ≡ Some w → Sound w
placed_last_stays v w s front None file e = absurd (cc)
placed_last_stays v w s front (Some name) file e = placed_in_stays v w s name file (walked v.nodes (Some 0) front) e

pub placed_stays : (v w : View) → Sound v → (path : List (List ℕ)) (file : Option (List ℕ)) → placed v path file ≡ Some w → Sound w
placed_stays v w s path file e = placed_last_stays v w s (take (length path - 1) path) (slice_get path (length path - 1)) file e
