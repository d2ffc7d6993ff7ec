-- What the server that the export is holds under a file handle, and what stays of it.
use Rattle.std.proofs.Common.{◌≡◌, ◌<◌, ℕ, true, false, List, Option, Some, None, refl, sym, ap, subst, ◌∙◌, ⊎_elim, slice_get, option_map}
use Rattle.std.specs.Str.{bytes_eq}
use Rattle.std.proofs.lemmas.Bool.{cases_Bool}
use Rattle.std.proofs.lemmas.Slice.Eq.{bytes_eq-Decides}
use Rattle.nfs_types.specs.declared.attr.Attr.{Attr}
use Rattle.xdr_codec.specs.Bytes.{IsBytes}
use Rattle.world_model.specs.Server.{Object, Server, Has}
use Rattle.world_model.specs.Steps.{Same, Only, Turns, Looks, TrueOf, TrueStamp, TrueWcc}
use Rattle.nfs_types.specs.Stamps.{stamp_of}
use Rattle.export_fs.specs.declared.node.Node.{Node}
use Rattle.export_fs.specs.View.{View}
use Rattle.export_fs.specs.Parts.{last_number, handle_of, place_of, attr, attr_at, attr_of, not_gone, live, at_place, object, kind_of, wcc}
use Rattle.export_fs.specs.Refusals.{is_stale}
use Rattle.export_fs.specs.Changes.{changed}
use Rattle.export_fs.specs.After.{changed_at}
use Rattle.export_fs.specs.Seen.{server_of, object_of, held_of, seen_at, seen_by}
use Rattle.export_fs.proofs.Handles.{place_is, place_below, handle_is}
use Rattle.export_fs.proofs.Objects.{changed_same, changed_other}

same_bytes : (h : List ℕ) → bytes_eq h h ≡ true
same_bytes h = (bytes_eq-Decides h h).1 refl

-- ---- file handles

pub handle_apart : (p q : ℕ) → p < last_number → q < last_number → handle_of p ≡ handle_of q → p ≡ q
handle_apart p q a b e = let f : Some p ≡ Some q = sym (place_is p a) ∙ ap place_of e ∙ place_is q b in cc

pub seen_place : (v : View) (p : ℕ) → p < last_number → (server_of v).object (handle_of p) ≡ seen_at v.nodes p
seen_place v p l = ap (seen_by v.nodes (handle_of p)) (place_is p l) ∙ simp (same_bytes (handle_of p))

pub seen_here : (v : View) (p : ℕ) (node : Node) → p < last_number → slice_get v.nodes p ≡ Some node → (server_of v).object (handle_of p) ≡ Some (object_of p node)
seen_here v p node l e = seen_place v p l ∙ ap (option_map (object_of p)) e

-- a list of numbers names a place, or no export has an object under it
pub data Sees (h : List ℕ) : Type 0 where
  nothing : ((v : View) → (server_of v).object h ≡ None) → Sees h
  a_place : (p : ℕ) → p < last_number → h ≡ handle_of p → Sees h

pub sees : (h : List ℕ) → Sees h
sees h = by_place (place_of h) refl where
  by_place : (o : Option ℕ) → place_of h ≡ o → Sees h
  by_place None e = nothing (λ v. ap (seen_by v.nodes h) e)
  by_place (Some p) e =
      ⊎_elim (λ (b : bytes_eq h (handle_of p) ≡ true). a_place p (place_below h p e) ((bytes_eq-Decides h (handle_of p)).0 b))
      (λ (b : bytes_eq h (handle_of p) ≡ false). nothing (λ v. ap (seen_by v.nodes h) e ∙ simp b))
      (cases_Bool (bytes_eq h (handle_of p)))

-- an object that the server has is at a place
pub record SeenAt (v : View) (h : List ℕ) (o : Object) : Type 0 where
  pub place : ℕ
  pub node : Node
  pub below : place < last_number
  pub is : h ≡ handle_of place
  pub there : slice_get v.nodes place ≡ Some node
  pub object : o ≡ object_of place node

pub seen_by_place : (v : View) (h : List ℕ) (o : Object) → (server_of v).object h ≡ Some o → SeenAt v h o
seen_by_place v h o e =
    elim (sees h) [
      | nothing n ↦ let f : None ≡ Some o = sym (n v) ∙ e in absurd (cc)
      | a_place p l is ↦ at p l is (slice_get v.nodes p) refl
    ] where
      at : (p : ℕ) → p < last_number → h ≡ handle_of p → (n : Option Node) → slice_get v.nodes p ≡ n → SeenAt v h o
      at p l is None g = let f : None ≡ Some o = sym (ap (λ (x : List ℕ). (server_of v).object x) is ∙ seen_place v p l ∙ ap (option_map (object_of p)) g) ∙ e in absurd (cc)
      at p l is (Some node) g =
          let f : Some (object_of p node) ≡ Some o = sym (ap (λ (x : List ℕ). (server_of v).object x) is ∙ seen_here v p node l g) ∙ e in
          record { place = p; node = node; below = l; is = is; there = g; object = cc }

-- ---- what stays

pub only_at : (these : List ℕ → Type 0) (v w : View) → w.reboots ≡ v.reboots → ((p : ℕ) → p < last_number → (these (handle_of p) → ⊥) → slice_get w.nodes p ≡ slice_get v.nodes p) → Only these (server_of v) (server_of w)
only_at these v w r same = record {
  verf = ap (λ (n : ℕ). (server_of (record v { reboots = n })).verf) r;
  others = λ h n.
      elim (sees h) [
        | nothing none ↦ none w ∙ sym (none v)
        | a_place p l is ↦
            let d : these (handle_of p) → ⊥ = λ t. n (subst these (sym is) t) in
            ap (λ (x : List ℕ). (server_of w).object x) is ∙ seen_place w p l ∙ ap (option_map (object_of p)) (same p l d) ∙ sym (seen_place v p l) ∙ ap (λ (x : List ℕ). (server_of v).object x) (sym is)
      ];
}

pub same_server : (v : View) → Same (server_of v) (server_of v)
same_server v = record { verf = refl; object = λ h. refl }

-- ---- an object that is there

pub record Found (v : View) (h : List ℕ) : Type 0 where
  pub place : ℕ
  pub node : Node
  pub below : place < last_number
  pub is : h ≡ handle_of place
  pub place_is : place_of h ≡ Some place
  pub there : slice_get v.nodes place ≡ Some node
  pub live : node.gone ≡ false

pub found : (v : View) (h : List ℕ) → IsBytes h → is_stale v.nodes h ≡ false → Found v h
found v h fits s = by_place (place_of h) refl where
  by_node : (p : ℕ) → place_of h ≡ Some p → (o : Option Node) → slice_get v.nodes p ≡ o → Found v h
  by_node p e None g = let f = simp (e, g) at s in absurd (cc)
  by_node p e (Some node) g =
      ⊎_elim (λ (b : node.gone ≡ true). let f = simp (e, g, b) at s in absurd (cc))
      (λ (b : node.gone ≡ false). record { place = p; node = node; below = place_below h p e; is = handle_is h p fits e; place_is = e; there = g; live = b })
      (cases_Bool node.gone)

  by_place : (o : Option ℕ) → place_of h ≡ o → Found v h
  by_place None e = let f = simp e at s in absurd (cc)
  by_place (Some p) e = by_node p e (slice_get v.nodes p) refl

pub live_is : (nodes : List Node) (p : ℕ) (node : Node) → slice_get nodes p ≡ Some node → node.gone ≡ false → live nodes p ≡ Some node
live_is nodes p node e g = ap not_gone e ∙ simp g

pub object_is : (v : View) (h : List ℕ) (f : Found v h) → object v.nodes h ≡ Some f.node
object_is v h f = ap (at_place v.nodes) f.place_is ∙ live_is v.nodes f.place f.node f.there f.live

pub attr_is : (v : View) (h : List ℕ) (f : Found v h) → attr v.nodes h ≡ Some (attr_of f.place f.node)
attr_is v h f = ap (attr_at v.nodes) f.place_is ∙ ap (option_map (attr_of f.place)) (live_is v.nodes f.place f.node f.there f.live)

pub seen_found : (v : View) (h : List ℕ) (f : Found v h) → (server_of v).object h ≡ Some (object_of f.place f.node)
seen_found v h f = ap (λ (x : List ℕ). (server_of v).object x) f.is ∙ seen_here v f.place f.node f.below f.there

pub has_found : (v : View) (h : List ℕ) (f : Found v h) → Has (server_of v) h (object_of f.place f.node)
has_found v h f = record { is = seen_found v h f; there = f.live }

-- ---- attributes are true

pub true_here : (v : View) (p : ℕ) → p < last_number → TrueOf (server_of v) (handle_of p) (attr_at v.nodes (Some p))
true_here v p l = by_node (slice_get v.nodes p) refl where
  by_node : (o : Option Node) → slice_get v.nodes p ≡ o → TrueOf (server_of v) (handle_of p) (attr_at v.nodes (Some p))
  by_node None e = subst (λ (o : Option Node). TrueOf (server_of v) (handle_of p) (option_map (attr_of p) (not_gone o))) (sym e) tt
  by_node (Some node) e =
      let P : Option Node → Type 0 = λ o. TrueOf (server_of v) (handle_of p) (option_map (attr_of p) o) in
      ⊎_elim (λ (b : node.gone ≡ true). let n : live v.nodes p ≡ None = ap not_gone e ∙ simp b in subst P (sym n) tt)
      (λ (b : node.gone ≡ false). subst P (sym (live_is v.nodes p node e b)) (object_of p node, seen_here v p node l e, refl))
      (cases_Bool node.gone)

pub true_of : (v : View) (h : List ℕ) → IsBytes h → TrueOf (server_of v) h (attr v.nodes h)
true_of v h fits = by_place (place_of h) refl where
  by_place : (o : Option ℕ) → place_of h ≡ o → TrueOf (server_of v) h (attr v.nodes h)
  by_place None e = subst (λ (o : Option ℕ). TrueOf (server_of v) h (attr_at v.nodes o)) (sym e) tt
  by_place (Some p) e =
      subst (λ (o : Option ℕ). TrueOf (server_of v) h (attr_at v.nodes o)) (sym e)
      (subst (λ (x : List ℕ). TrueOf (server_of v) x (attr_at v.nodes (Some p))) (sym (handle_is h p fits e)) (true_here v p (place_below h p e)))

true_stamp : (s : Server) (h : List ℕ) (a : Option Attr) → TrueOf s h a → TrueStamp s h (option_map stamp_of a)
true_stamp s h None t = tt
true_stamp s h (Some a) t = (t.0, t.1, ap stamp_of t.2)

pub true_wcc : (v w : View) (h : List ℕ) → IsBytes h → TrueWcc (server_of v) (server_of w) h (wcc v.nodes w.nodes h)
true_wcc v w h fits = record { before = true_stamp (server_of v) h (attr v.nodes h) (true_of v h fits); after = true_of w h fits }

-- ---- an object that is read, and one that is changed

abbrev pub kept_turns : (v w : View) (p : ℕ) (node after : Node) → p < last_number → slice_get v.nodes p ≡ Some node → node.gone ≡ false → slice_get w.nodes p ≡ Some after → after.gone ≡ node.gone → kind_of after.holds ≡ kind_of node.holds
    → Turns (server_of v) (server_of w) (handle_of p) (object_of p node) (held_of after.holds)
kept_turns v w p node after l e g f same kind = record {
  has = record { is = seen_here v p node l e; there = g };
  new = object_of p after;
  is = seen_here w p after l f;
  becomes = record { holds = refl; gone = same; kind = kind; fileid = refl };
}

abbrev pub looks : (v : View) (h : List ℕ) (f : Found v h) → Looks (server_of v) (server_of v) h
looks v h f = record {
  reads = record {
    object = object_of f.place f.node;
    turns = record { has = has_found v h f; new = object_of f.place f.node; is = seen_found v h f; becomes = record { holds = refl; gone = refl; kind = refl; fileid = refl } };
  };
  only = record { verf = refl; others = λ other n. refl };
}

-- one object is changed
pub record OneChanged (v w : View) (h : List ℕ) (found : Found v h) (change : Node → Node) : Type 0 where
  pub nodes : w.nodes ≡ changed_at change (place_of h) v.nodes
  pub reboots : w.reboots ≡ v.reboots
  pub gone : (change found.node).gone ≡ found.node.gone
  pub kind : kind_of (change found.node).holds ≡ kind_of found.node.holds

changed_here : (v w : View) (h : List ℕ) (f : Found v h) (change : Node → Node) → OneChanged v w h f change → w.nodes ≡ changed change f.place v.nodes
changed_here v w h f change c = c.nodes ∙ ap (λ (o : Option ℕ). changed_at change o v.nodes) f.place_is

pub one_there : (v w : View) (h : List ℕ) (f : Found v h) (change : Node → Node) → OneChanged v w h f change → slice_get w.nodes f.place ≡ Some (change f.node)
one_there v w h f change c = ap (λ (n : List Node). slice_get n f.place) (changed_here v w h f change c) ∙ changed_same change f.place v.nodes f.node f.there

pub one_seen : (v w : View) (h : List ℕ) (f : Found v h) (change : Node → Node) → OneChanged v w h f change → (server_of w).object h ≡ Some (object_of f.place (change f.node))
one_seen v w h f change c = ap (λ (x : List ℕ). (server_of w).object x) f.is ∙ seen_here w f.place (change f.node) f.below (one_there v w h f change c)

abbrev pub one_turns : (v w : View) (h : List ℕ) (f : Found v h) (change : Node → Node) → OneChanged v w h f change → Turns (server_of v) (server_of w) h (object_of f.place f.node) (held_of (change f.node).holds)
one_turns v w h f change c = record { has = has_found v h f; new = object_of f.place (change f.node); is = one_seen v w h f change c; becomes = record { holds = refl; gone = c.gone; kind = c.kind; fileid = refl } }

pub one_only : (v w : View) (h : List ℕ) (f : Found v h) (change : Node → Node) → OneChanged v w h f change → Only (λ (other : List ℕ). other ≡ h) (server_of v) (server_of w)
one_only v w h f change c =
    only_at (λ (other : List ℕ). other ≡ h) v w c.reboots (λ p l n.
    let d : p ≡ f.place → ⊥ = λ e. n (ap handle_of e ∙ sym f.is) in
    ap (λ (x : List Node). slice_get x p) (changed_here v w h f change c) ∙ changed_other change f.place p v.nodes d)
