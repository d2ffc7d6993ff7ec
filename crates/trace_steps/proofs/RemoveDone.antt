-- The tests decide whether an object lost a name, and whether a name is removed.
use Rattle.std.proofs.Common.{◌≡◌, ◌<◌, ◌⊎◌, inl, inr, ◌==◌, ℕ, zero, suc, Bool, true, false, true≢false, List, [], ◌∷◌, map, Option, Some, None, slice_get, refl, sym, ◌∙◌, ap, subst, arith}
use Rattle.std.specs.Prelude.{Decides, ◌&&◌, ◌||◌}
use Rattle.std.specs.Option.{option_map}
use Rattle.std.specs.Str.{bytes_eq}
use Rattle.std.proofs.lemmas.Bool.Decides.{Decides-like, Decides-and, Decides-or, Decides-eqb, not_from_Decides}
use Rattle.std.proofs.lemmas.Slice.Eq.{bytes_eq-Decides}
use Rattle.nfs_types.specs.declared.wcc.Wcc.{Wcc}
use Rattle.world_model.specs.Server as model
use Rattle.world_model.specs.Names.{IsNamed, Loses}
use Rattle.world_model.specs.Steps.{Only, TrueWcc}
use Rattle.world_model.specs.NameService.{Removes}
use Rattle.trace_data.specs.declared.trace.Contents.{Contents}
use Rattle.trace_data.specs.declared.trace.Contents.TheVariants.{File, Directory, Other}
use Rattle.trace_data.specs.declared.trace.DirEntry.{DirEntry}
use Rattle.trace_data.specs.declared.trace.Object.{Object}
use Rattle.trace_data.specs.declared.trace.Updated.{Updated}
use Rattle.trace_data.specs.declared.trace.Trace.{Trace}
use Rattle.trace_data.specs.Histories.{listed_of, holds_of, object_of, named, objects_after, server_at}
use Rattle.trace_rules.specs.Decided.{any_below}
use Rattle.trace_rules.specs.Keeping.{same_bool, same_contents}
use Rattle.trace_rules.proofs.Below.{any_below-found}
use Rattle.trace_rules.proofs.Combining.{never}
use Rattle.trace_rules.proofs.Naming.{named-object, origin}
use Rattle.trace_rules.proofs.Unchanged.{bool-decides}
use Rattle.trace_steps.specs.MomentTests.{before, after, is_one, only}
use Rattle.trace_steps.specs.TurnTests.{turns, shows_wcc}
use Rattle.trace_steps.specs.ListTests.{names_it, is_without}
use Rattle.trace_steps.specs.NameTests.{entries_of, list_of, in_list, lists_with}
use Rattle.trace_steps.specs.MoveTests.{names_by, names_among, is_named, is_gone_so, loses_so, loses_by, loses, removes_row, removes_at, removes_among, removes}
use Rattle.trace_steps.proofs.Sparing.{only-two}
use Rattle.trace_steps.proofs.Turned.{none, one, TurnsBy, turns-decides, same-holds, wcc-decides}
use Rattle.trace_steps.proofs.Entering as entering
use Rattle.trace_steps.proofs.Listing.{Has, IsNameOf, names-decides, without-decides-at}
use Rattle.trace_steps.proofs.NameDone.{SomeRow, row-somewhere, ListsBy, lists-decide, to-relists, from-relists}

-- ---- whether an object has a name

-- what an object holds is a list with a name for h
pub record NamesIt (h : List ℕ) (g : model.Holds) : Type 0 where
  pub entries : List model.Listed
  pub is : g ≡ model.Entries entries
  pub has : Has (IsNameOf h) entries

list-is : (a b : List model.Listed) → model.Entries a ≡ model.Entries b → a ≡ b
list-is a b e = cc

contents-name : (h : List ℕ) (c : Contents) → Decides (in_list (λ es. names_it h es) (entries_of c)) (NamesIt h (holds_of c))
contents-name h (File now stable) = never (λ (w : NamesIt h (model.Bytes now stable)). let q : model.Bytes now stable ≡ model.Entries w.entries = w.is in absurd (cc))
contents-name h (Directory es) =
    Decides-like (names_it h es.items)
    (λ w. record { entries = map listed_of es.items; is = refl; has = w })
    (λ (w : NamesIt h (model.Entries (map listed_of es.items))). subst (Has (IsNameOf h)) (sym (list-is (map listed_of es.items) w.entries w.is)) w.has)
    (names-decides h es.items)
contents-name h (Other text) = never (λ (w : NamesIt h (model.Text text)). let q : model.Text text ≡ model.Entries w.entries = w.is in absurd (cc))

-- the same of an option of an object
abbrev pub NamesThere : List ℕ → Option Object → Type 0
NamesThere h x = (o : Object) × (x ≡ Some o) × NamesIt h (holds_of o.contents)

there-names : (h : List ℕ) (x : Option Object) → Decides (in_list (λ es. names_it h es) (list_of x)) (NamesThere h x)
there-names h None = never (λ w. let q : None ≡ Some w.0 = w.1 in absurd (cc))
there-names h (Some o) = Decides-like (in_list (λ es. names_it h es) (entries_of o.contents)) (λ w. (o, refl, w)) (λ w. subst (λ (z : Object). NamesIt h (holds_of z.contents)) (sym (same o w.0 w.1)) w.2) (contents-name h o.contents)
  where
    same : (a b : Object) → Some a ≡ Some b → a ≡ b
    same a b q = cc

module _ (t : Trace) (n : ℕ) where
  abbrev pub S : model.Server
  S = server_at t n

  abbrev pub T : model.Server
  T = server_at t (suc n)

  -- an update names the object under a handle, and that stands there after the entry
  abbrev pub NamedBy : List ℕ → Updated → Type 0
  NamedBy h u = NamesIt h (holds_of u.object.contents) × NamesThere h (after t n u.handle)

  by-decides : (h : List ℕ) (u : Updated) → Decides (names_by t n h u) (NamedBy h u)
  unfolding names_by
  by-decides h u = Decides-and (in_list (λ es. names_it h es) (entries_of u.object.contents)) (in_list (λ es. names_it h es) (list_of (after t n u.handle))) (contents-name h u.object.contents) (there-names h (after t n u.handle))

  -- a directory that names it stands there after the entry
  to-named : (h g : List ℕ) → NamesThere h (after t n g) → IsNamed T h
  unfolding after
  to-named h g w = record {
    dir = g;
    object = object_of w.0;
    entries = w.2.entries;
    entry = w.2.has.0;
    is = ap (option_map object_of) w.1;
    holds = w.2.is;
    listed = w.2.has.1;
    names = w.2.has.2.0;
    own = λ e. w.2.has.2.1 (inl e);
    parent = λ e. w.2.has.2.1 (inr e);
  }

  sound : (h : List ℕ) (us : List Updated) → names_among t n h us ≡ true → IsNamed T h
  unfolding names_among
  sound h [] e = absurd (true≢false (sym e))
  sound h (u ∷ us) e = elim ((Decides-or (names_by t n h u) (names_among t n h us) (by-decides h u) ((λ x. x), (λ x. x))).0 e) [
    | inl w ↦ to-named h u.handle w.1
    | inr rest ↦ sound h us rest
  ]

  among : (h : List ℕ) (us : List Updated) (k : ℕ) (u : Updated) → slice_get us k ≡ Some u → NamedBy h u → names_among t n h us ≡ true
  unfolding names_among
  among h [] k u at w = absurd (cc)
  among h (v ∷ us) zero u at w = or-left (names_by t n h v) (names_among t n h us) ((by-decides h v).1 (subst (NamedBy h) (sym (first v u at)) w))
    where
      first : (v u : Updated) → Some v ≡ Some u → v ≡ u
      first v u q = cc

      or-left : (a b : Bool) → a ≡ true → (a || b) ≡ true
      or-left true b e = refl
      or-left false b e = absurd (true≢false (sym e))
  among h (v ∷ us) (suc k) u at w = or-right (names_by t n h v) (names_among t n h us) (among h us k u at w)
    where
      or-right : (a b : Bool) → b ≡ true → (a || b) ≡ true
      or-right true b e = refl
      or-right false b e = e

  -- an object that an update names so
  found : (h g : List ℕ) (us : List Updated) (o : Object) → named us g ≡ Some o → after t n g ≡ Some o → NamesIt h (holds_of o.contents) → names_among t n h us ≡ true
  found h g us o e at w =
      let p = named-object us g o e in
      among h us p.0 p.1 p.2 (subst (λ (z : Object). NamesIt h (holds_of z.contents)) (sym p.4) w, (o, subst (λ (z : List ℕ). after t n z ≡ Some o) (sym p.3) at, w))

  named-from : (h : List ℕ) → IsNamed T h → (o : Object) × (g : List ℕ) × (after t n g ≡ Some o) × NamesIt h (holds_of o.contents)
  unfolding after
  named-from h w = by (after t n w.dir) refl
    where
      by : (x : Option Object) → after t n w.dir ≡ x → (o : Object) × (g : List ℕ) × (after t n g ≡ Some o) × NamesIt h (holds_of o.contents)
      by None e = absurd (none (after t n w.dir) w.object e w.is)
      by (Some o) e = (
        o,
        w.dir,
        e,
        record {
          entries = w.entries;
          is = ap (λ (z : model.Object). z.holds) (one (after t n w.dir) o w.object e w.is) ∙ w.holds;
          has = (w.entry, w.listed, (w.names, λ d. elim d [ inl e ↦ w.own e | inr e ↦ w.parent e ]));
        },
      )

  -- some list of objects names it: that of the start, of the entry, or of an entry before
  abbrev Named3 : List ℕ → Type 0
  Named3 h = ((names_among t n h t.start.objects.items ≡ true) ⊎ (names_among t n h (objects_after t.updates.items n) ≡ true)) ⊎ (any_below (λ j. names_among t n h (objects_after t.updates.items j)) n ≡ true)

  itself : (b : Bool) → Decides b (b ≡ true)
  itself b = (λ e. e, λ e. e)

  complete : (h : List ℕ) → IsNamed T h → Named3 h
  unfolding after
  complete h w =
      let x = named-from h w in
      elim (origin t.start.objects.items t.updates.items (suc n) x.1 x.0 x.2) [
        | inl first ↦ inl (inl (found h x.1 t.start.objects.items x.0 first x.2 x.3))
        | inr there ↦ elim (last there.0 there.1) [
          | inl e ↦ inl (inr (found h x.1 (objects_after t.updates.items n) x.0 (subst (λ (z : ℕ). named (objects_after t.updates.items z) x.1 ≡ Some x.0) e there.2) x.2 x.3))
          | inr lt ↦ inr (any_below-found (λ j. names_among t n h (objects_after t.updates.items j)) there.0 n lt (found h x.1 (objects_after t.updates.items there.0) x.0 there.2 x.2 x.3))
        ]
      ]
    where
      last : (j : ℕ) → j < suc n → (j ≡ n) ⊎ (j < n)
      last j lt = grind arith

  some-sound : (h : List ℕ) (m : ℕ) → any_below (λ j. names_among t n h (objects_after t.updates.items j)) m ≡ true → IsNamed T h
  unfolding any_below
  some-sound h zero e = absurd (true≢false (sym e))
  some-sound h (suc m) e = elim ((Decides-or (names_among t n h (objects_after t.updates.items m)) (any_below (λ j. names_among t n h (objects_after t.updates.items j)) m) (itself (names_among t n h (objects_after t.updates.items m))) (itself (any_below (λ j. names_among t n h (objects_after t.updates.items j)) m))).0 e) [
    | inl a ↦ sound h (objects_after t.updates.items m) a
    | inr b ↦ some-sound h m b
  ]

  pub named-so : (h : List ℕ) → Decides (is_named t n h) (IsNamed T h)
  unfolding is_named
  named-so h =
      Decides-like (names_among t n h t.start.objects.items || names_among t n h (objects_after t.updates.items n) || any_below (λ j. names_among t n h (objects_after t.updates.items j)) n)
      (λ w. by w) (λ w. complete h w)
      (Decides-or (names_among t n h t.start.objects.items || names_among t n h (objects_after t.updates.items n)) (any_below (λ j. names_among t n h (objects_after t.updates.items j)) n)
      (Decides-or (names_among t n h t.start.objects.items) (names_among t n h (objects_after t.updates.items n)) (itself (names_among t n h t.start.objects.items)) (itself (names_among t n h (objects_after t.updates.items n))))
      (itself (any_below (λ j. names_among t n h (objects_after t.updates.items j)) n)))
    where
      by : Named3 h → IsNamed T h
      by (inl (inl e)) = sound h t.start.objects.items e
      by (inl (inr e)) = sound h (objects_after t.updates.items n) e
      by (inr e) = some-sound h n e

  -- ---- an object that lost a name

  gone-so : (P : Type 0) (b : Bool) → Decides b P → (was is : Bool) → Decides (is_gone_so b was is) ((P → is ≡ was) × ((P → ⊥) → is ≡ true))
  gone-so P true d was is = Decides-like (same_bool is was) (λ e. (λ p. e, λ no. absurd (no (d.0 refl)))) (λ w. w.0 (d.0 refl)) (bool-decides is was)
  gone-so P false d was is = (λ e. (λ p. absurd (not_from_Decides false d refl p), λ no. e), λ w. w.1 (not_from_Decides false d refl))

  abbrev pub GoneSo : List ℕ → Bool → Bool → Type 0
  GoneSo h was is = (IsNamed T h → is ≡ was) × ((IsNamed T h → ⊥) → is ≡ true)

  -- two objects, of which the second is what the first is that lost a name
  abbrev pub LosesSo : List ℕ → model.Object → model.Object → Type 0
  LosesSo h o p = (((p.holds ≡ o.holds) × (p.attr.kind ≡ o.attr.kind)) × (p.attr.fileid ≡ o.attr.fileid)) × GoneSo h o.gone p.gone

  so-loses : (h : List ℕ) (a b : Object) → Decides (loses_so t n h a b) (LosesSo h (object_of a) (object_of b))
  unfolding loses_so
  so-loses h a b =
      Decides-and (same_contents a.contents b.contents && (b.attr.kind == a.attr.kind) && (b.attr.fileid == a.attr.fileid)) (is_gone_so (is_named t n h) a.gone b.gone)
      (Decides-and (same_contents a.contents b.contents && (b.attr.kind == a.attr.kind)) (b.attr.fileid == a.attr.fileid)
      (Decides-and (same_contents a.contents b.contents) (b.attr.kind == a.attr.kind) (same-holds a.contents b.contents) (Decides-eqb b.attr.kind a.attr.kind)) (Decides-eqb b.attr.fileid a.attr.fileid))
      (gone-so (IsNamed T h) (is_named t n h) (named-so h) a.gone b.gone)

  pub loses-decides : (h : List ℕ) → Decides (loses t n h) (Loses S T h)
  unfolding loses before after
  loses-decides h = by (before t n h) (after t n h) refl refl
    where
      by : (x y : Option Object) → before t n h ≡ x → after t n h ≡ y → Decides (loses_by (λ a b. loses_so t n h a b) x y) (Loses S T h)
      by None y e d = never (λ (w : Loses S T h). none (before t n h) w.old e w.was)
      by (Some a) None e d = never (λ (w : Loses S T h). none (after t n h) w.new d w.is)
      by (Some a) (Some b) e d =
          Decides-like (loses_so t n h a b)
          (λ w. record { old = object_of a; new = object_of b; was = ap (option_map object_of) e; is = ap (option_map object_of) d; holds = w.0.0.0; kind = w.0.0.1; fileid = w.0.1; named = w.1.0; nameless = w.1.1 })
          (λ (w : Loses S T h). subst (λ (z : model.Object). LosesSo h z (object_of b)) (sym (one (before t n h) a w.old e w.was)) (subst (λ (z : model.Object). LosesSo h w.old z) (sym (one (after t n h) b w.new d w.is)) (((w.holds, w.kind), w.fileid), (w.named, w.nameless))))
          (so-loses h a b)

  -- ---- REMOVE and RMDIR

  abbrev pub RemovesRow : List ℕ → List ℕ → List model.Listed → List model.Listed → ℕ → model.Listed → Type 0
  RemovesRow d name old new k row = (((row.name ≡ name) × (new ≡ entering.without k old)) × Loses S T row.object) × Only (λ h. (h ≡ d) ⊎ (h ≡ row.object)) S T

  row-removes : (d name : List ℕ) (old new : List DirEntry) (k : ℕ) (row : DirEntry) → Decides (removes_row t n d name old new k row) (RemovesRow d name (map listed_of old) (map listed_of new) k (listed_of row))
  unfolding removes_row
  row-removes d name old new k row =
      Decides-and (bytes_eq row.name name && is_without k old new && loses t n row.object) (only (is_one d row.object row.object) t n)
      (Decides-and (bytes_eq row.name name && is_without k old new) (loses t n row.object)
      (Decides-and (bytes_eq row.name name) (is_without k old new) (bytes_eq-Decides row.name name) (without-decides-at k old new)) (loses-decides row.object)) (only-two t n d row.object)

  abbrev pub RemovesAmong : List ℕ → List ℕ → List model.Listed → List model.Listed → Type 0
  RemovesAmong d name old new = SomeRow (RemovesRow d name old new) old

  removes-somewhere : (d name : List ℕ) (old new : List DirEntry) → Decides (removes_among t n d name old new) (RemovesAmong d name (map listed_of old) (map listed_of new))
  unfolding removes_among removes_at
  removes-somewhere d name old new = row-somewhere (λ k row. removes_row t n d name old new k row) (RemovesRow d name (map listed_of old) (map listed_of new)) (λ k row. row-removes d name old new k row) old

  to-removes : (d name : List ℕ) → TurnsBy (ListsBy (RemovesAmong d name)) S T d → Removes S T d name
  to-removes d name w =
      let so = w.holds.so in record {
        object = so.1.object;
        old = w.holds.old;
        new = w.holds.new;
        relists = to-relists (RemovesAmong d name) S T d w;
        leaves = entering.leaves name so.1.object so.0 w.holds.old w.holds.new (record { row = so.1; at = so.2; named = so.3.0.0.0; of = refl; rest = so.3.0.0.1 });
        loses = so.3.0.1;
        only = so.3.1;
      }

  from-removes : (d name : List ℕ) → Removes S T d name → TurnsBy (ListsBy (RemovesAmong d name)) S T d
  from-removes d name w =
      let e = entering.left name w.object w.old w.new w.leaves in
      from-relists (RemovesAmong d name) S T d w.old w.new w.relists (e.0, e.1.row, e.1.at, (((e.1.named, e.1.rest), subst (λ (z : List ℕ). Loses S T z) (sym e.1.of) w.loses), subst (λ (z : List ℕ). Only (λ h. (h ≡ d) ⊎ (h ≡ z)) S T) (sym e.1.of) w.only))

  pub remove-done : (d name : List ℕ) (wcc : Wcc) → Decides (removes t n d name wcc) (Removes S T d name × TrueWcc S T d wcc)
  unfolding removes
  remove-done d name wcc =
      Decides-and (turns (lists_with (λ old new. removes_among t n d name old new)) t n d) (shows_wcc t n d wcc)
      (Decides-like (turns (lists_with (λ old new. removes_among t n d name old new)) t n d) (λ w. to-removes d name w) (λ w. from-removes d name w)
      (turns-decides (lists_with (λ old new. removes_among t n d name old new)) (ListsBy (RemovesAmong d name)) (lists-decide (λ old new. removes_among t n d name old new) (RemovesAmong d name) (λ a b. removes-somewhere d name a b)) t n d))
      (wcc-decides t n d wcc)
