-- The tests decide whether a name moves.
use Rattle.std.proofs.Common.{◌≡◌, ◌≢◌, ◌⊎◌, inl, inr, ℕ, suc, Bool, true, false, List, length, map, Some, slice_get, refl, sym, ◌∙◌, ap, subst}
use Rattle.std.specs.Prelude.{Decides, ◌&&◌, ◌||◌, not, if◌then◌else◌}
use Rattle.std.specs.Str.{bytes_eq}
use Rattle.std.proofs.lemmas.Bool.Decides.{Decides-like, Decides-and, Decides-or, Decides-not, not_from_Decides}
use Rattle.std.proofs.lemmas.Slice.Eq.{bytes_eq-Decides}
use Rattle.nfs_types.specs.declared.status.Status.{Status}
use Rattle.nfs_types.specs.declared.wcc.Wcc.{Wcc}
use Rattle.world_model.specs.Server as model
use Rattle.world_model.specs.Names.{Lacks, Enters, Leaves, Clears, SameButParent, Loses}
use Rattle.world_model.specs.Steps.{Same, Only, Reads, TrueWcc}
use Rattle.world_model.specs.NameService.{HoldsMoved, Moves, Renames, KeepsNames}
use Rattle.world_model.specs.Service.{RefusesWcc}
use Rattle.trace_data.specs.declared.trace.Contents.{Contents}
use Rattle.trace_data.specs.declared.trace.Contents.TheVariants.{File, Directory, Other}
use Rattle.trace_data.specs.declared.trace.DirEntry.{DirEntry}
use Rattle.trace_data.specs.declared.trace.Trace.{Trace}
use Rattle.trace_data.specs.Histories.{listed_of, holds_of, server_at}
use Rattle.trace_rules.specs.Decided.{any_below}
use Rattle.trace_rules.specs.Freshness.{same_entries}
use Rattle.trace_rules.proofs.Combining.{never}
use Rattle.trace_rules.proofs.Changing.{entries-decides}
use Rattle.trace_steps.specs.MomentTests.{before, is_one, only}
use Rattle.trace_steps.specs.TurnTests.{turns, reads, shows_wcc, showed_wcc}
use Rattle.trace_steps.specs.ListTests.{is_entry, has_entry, lacks, without, is_without, all_in}
use Rattle.trace_steps.specs.FileTests.{refuses}
use Rattle.trace_steps.specs.NameTests.{list_there, in_list, lists_with, had_name}
use Rattle.trace_steps.specs.MoveTests.{loses, clears_at, clears, replaces_row, replaces_at, replaces, moves, is_moved, replaced, is_touched, renames_row, renames_at, renames_among, moves_name, keeps_row, keeps_one, keeps_names, renames, refuses_rename}
use Rattle.trace_steps.proofs.Sparing.{IsOne, one-decides, only-decides, only-three}
use Rattle.trace_steps.proofs.Turned.{TurnsBy, turns-decides, to-turns, from-turns, same-holds, reads-decides, wcc-decides, wcc-before}
use Rattle.trace_steps.proofs.FileDone.{refuses-decides}
use Rattle.trace_steps.proofs.Entering as entering
use Rattle.trace_steps.proofs.Listing.{Has, some-entry, each-entry, IsEntry, entry-decides, has-decides, lacks-decides, without-decides-at, map-without, same-but-parent}
use Rattle.trace_steps.proofs.NameDone.{HasList, list-before, to-name, had-decides, SomeRow, row-somewhere, ListsBy, lists-decide, to-relists, from-relists}
use Rattle.trace_steps.proofs.RemoveDone.{loses-decides}

-- ---- lists

abbrev ClearsRow : List ℕ → List DirEntry → List DirEntry → ℕ → model.Listed → Type 0
ClearsRow name old new k row = (row.name ≡ name) × (map listed_of new ≡ entering.without k (map listed_of old))

clears-decide : (name : List ℕ) (old new : List DirEntry) → Decides (clears name old new) (Clears name (map listed_of old) (map listed_of new))
unfolding clears clears_at
clears-decide name old new =
    Decides-like ((lacks name old && same_entries new old) || any_below (λ k. clears_at name old new k) (length old))
    to from
    (Decides-or (lacks name old && same_entries new old) (any_below (λ k. clears_at name old new k) (length old))
    (Decides-and (lacks name old) (same_entries new old) (lacks-decides name old) (entries-decides new old))
    (row-somewhere (λ k row. bytes_eq row.name name && is_without k old new) (ClearsRow name old new) (λ k row. Decides-and (bytes_eq row.name name) (is_without k old new) (bytes_eq-Decides row.name name) (without-decides-at k old new)) old))
  where
    to : (Lacks (map listed_of old) name × (map listed_of new ≡ map listed_of old)) ⊎ SomeRow (ClearsRow name old new) (map listed_of old) → Clears name (map listed_of old) (map listed_of new)
    to (inl w) = Clears.absent w.0 w.1
    to (inr w) = Clears.left w.1.object (entering.leaves name w.1.object w.0 (map listed_of old) (map listed_of new) (record { row = w.1; at = w.2; named = w.3.0; of = refl; rest = w.3.1 }))

    from : Clears name (map listed_of old) (map listed_of new) → (Lacks (map listed_of old) name × (map listed_of new ≡ map listed_of old)) ⊎ SomeRow (ClearsRow name old new) (map listed_of old)
    from (Clears.left h l) = let e = entering.left name h (map listed_of old) (map listed_of new) l in inr (e.0, e.1.row, e.1.at, (e.1.named, e.1.rest))
    from (Clears.absent n e) = inl (n, e)

-- what had the name leaves, and the name enters for the object
pub record Replaces (name h : List ℕ) (old new : List model.Listed) : Type 0 where
  pub clear : List model.Listed
  pub clears : Clears name old clear
  pub enters : Enters name h clear new

abbrev ReplacesRow : List ℕ → List ℕ → List DirEntry → List DirEntry → ℕ → model.Listed → Type 0
ReplacesRow name h old new k row = (IsEntry name h row × Lacks (entering.without k (map listed_of new)) name) × Clears name (map listed_of old) (entering.without k (map listed_of new))

replaces-decide : (name h : List ℕ) (old new : List DirEntry) → Decides (replaces name h old new) (Replaces name h (map listed_of old) (map listed_of new))
unfolding replaces replaces_at replaces_row
replaces-decide name h old new =
    Decides-like (any_below (λ k. replaces_at name h old new k) (length new))
    to from
    (row-somewhere (λ k row. replaces_row name h old new k row) (ReplacesRow name h old new) each new)
  where
    each : (k : ℕ) (row : DirEntry) → Decides (replaces_row name h old new k row) (ReplacesRow name h old new k (listed_of row))
    each k row =
        Decides-and (is_entry name h row && lacks name (without k new)) (clears name old (without k new))
        (Decides-and (is_entry name h row) (lacks name (without k new)) (entry-decides name h row)
        (subst (λ (z : List model.Listed). Decides (lacks name (without k new)) (Lacks z name)) (map-without k new) (lacks-decides name (without k new))))
        (subst (λ (z : List model.Listed). Decides (clears name old (without k new)) (Clears name (map listed_of old) z)) (map-without k new) (clears-decide name old (without k new)))

    to : SomeRow (ReplacesRow name h old new) (map listed_of new) → Replaces name h (map listed_of old) (map listed_of new)
    to w = record {
      clear = entering.without w.0 (map listed_of new);
      clears = w.3.1;
      enters = entering.enters name h w.0 (entering.without w.0 (map listed_of new)) (map listed_of new) (record { row = w.1; at = w.2; named = w.3.0.0.0; of = w.3.0.0.1; rest = refl }) w.3.0.1;
    }

    from : Replaces name h (map listed_of old) (map listed_of new) → SomeRow (ReplacesRow name h old new) (map listed_of new)
    from w =
        let e = entering.entered name h w.clear (map listed_of new) w.enters in
        (e.0, e.1.row, e.1.at, (((e.1.named, e.1.of), subst (λ (z : List model.Listed). Lacks z name) e.1.rest w.enters.fresh), subst (λ (z : List model.Listed). Clears name (map listed_of old) z) e.1.rest w.clears))

-- the same from a list that lost the entry at a place
within-decide : (name h : List ℕ) (j : ℕ) (old new : List DirEntry) → Decides (replaces name h (without j old) new) (Replaces name h (entering.without j (map listed_of old)) (map listed_of new))
within-decide name h j old new = subst (λ (z : List model.Listed). Decides (replaces name h (without j old) new) (Replaces name h z (map listed_of new))) (map-without j old) (replaces-decide name h (without j old) new)

moved-decides : (c d : Contents) → Decides (is_moved c d) (HoldsMoved (holds_of c) (holds_of d))
moved-decides (File now stable) d = same-holds (File now stable) d
moved-decides (Directory a) (File now stable) = never (λ w. let q : model.Bytes now stable ≡ model.Entries w.0 = w.1 in cc)
moved-decides (Directory a) (Directory b) =
    Decides-like (all_in a.items b.items && all_in b.items a.items)
    (λ w. (map listed_of b.items, refl, w))
    (λ w. subst (λ (z : List model.Listed). SameButParent (map listed_of a.items) z) (sym (list-is (map listed_of b.items) w.0 w.1)) w.2)
    (same-but-parent a.items b.items)
  where
    list-is : (x y : List model.Listed) → model.Entries x ≡ model.Entries y → x ≡ y
    list-is x y e = cc
moved-decides (Directory a) (Other text) = never (λ w. let q : model.Text text ≡ model.Entries w.0 = w.1 in cc)
moved-decides (Other text) d = same-holds (Other text) d

choose : {P Q R : Type 0} → (b x y : Bool) → Decides b P → Decides x Q → Decides y R → Decides (if b then x else y) ((P × Q) ⊎ ((P → ⊥) × R))
choose true x y p q r = (λ e. inl (p.0 refl, q.0 e), λ w. elim w [ inl a ↦ q.1 a.1 | inr a ↦ absurd (a.0 (p.0 refl)) ])
choose false x y p q r = (λ e. inr (not_from_Decides false p refl, r.0 e), λ w. elim w [ inl a ↦ absurd (not_from_Decides false p refl a.0) | inr a ↦ r.1 a.1 ])

module _ (t : Trace) (n : ℕ) where
  abbrev pub S : model.Server
  S = server_at t n

  abbrev pub T : model.Server
  T = server_at t (suc n)

  -- ---- the directories

  abbrev pub Drops : ℕ → List model.Listed → List model.Listed → Type 0
  Drops j old new = new ≡ entering.without j old

  abbrev pub Within : ℕ → List ℕ → List ℕ → List model.Listed → List model.Listed → Type 0
  Within j to h old new = Replaces to h (entering.without j old) new

  abbrev pub Across : ℕ → List ℕ → List ℕ → List ℕ → List ℕ → Type 0
  Across j to h d e = TurnsBy (ListsBy (Drops j)) S T d × TurnsBy (ListsBy (Replaces to h)) S T e

  abbrev pub MovesBy : List ℕ → List ℕ → List ℕ → ℕ → List ℕ → Type 0
  MovesBy d e to j h = ((d ≡ e) × TurnsBy (ListsBy (Within j to h)) S T d) ⊎ ((d ≡ e → ⊥) × Across j to h d e)

  moves-decide : (d e to : List ℕ) (j : ℕ) (h : List ℕ) → Decides (moves t n d e to j h) (MovesBy d e to j h)
  unfolding moves
  moves-decide d e to j h =
      choose (bytes_eq d e) (turns (lists_with (λ old new. replaces to h (without j old) new)) t n d) (turns (lists_with (λ old new. is_without j old new)) t n d && turns (lists_with (λ old new. replaces to h old new)) t n e)
      (bytes_eq-Decides d e)
      (turns-decides (lists_with (λ old new. replaces to h (without j old) new)) (ListsBy (Within j to h)) (lists-decide (λ old new. replaces to h (without j old) new) (Within j to h) (λ a b. within-decide to h j a b)) t n d)
      (Decides-and (turns (lists_with (λ old new. is_without j old new)) t n d) (turns (lists_with (λ old new. replaces to h old new)) t n e)
      (turns-decides (lists_with (λ old new. is_without j old new)) (ListsBy (Drops j)) (lists-decide (λ old new. is_without j old new) (Drops j) (λ a b. without-decides-at j a b)) t n d)
      (turns-decides (lists_with (λ old new. replaces to h old new)) (ListsBy (Replaces to h)) (lists-decide (λ old new. replaces to h old new) (Replaces to h) (λ a b. replaces-decide to h a b)) t n e))

  -- ---- what is replaced

  abbrev pub AllReplaced : List ℕ → List ℕ → List model.Listed → Type 0
  AllReplaced to h target = (e : model.Listed) → model.Lists target e → (e.name ≡ to) → (e.object ≡ h → ⊥) → Loses S T e.object

  replaced-decides : (to h : List ℕ) (target : List DirEntry) → Decides (replaced t n to h target) (AllReplaced to h (map listed_of target))
  unfolding replaced
  replaced-decides to h target =
      Decides-like (replaced t n to h target)
      (λ w e l name other. out (w e l) name other)
      (λ w e l. into e (w e l))
      (each-entry (λ e. not (bytes_eq e.name to) || bytes_eq e.object h || loses t n e.object) (λ e. ((e.name ≢ to) ⊎ (e.object ≡ h)) ⊎ Loses S T e.object)
      (λ e. Decides-or (not (bytes_eq e.name to) || bytes_eq e.object h) (loses t n e.object) (Decides-or (not (bytes_eq e.name to)) (bytes_eq e.object h) (Decides-not (bytes_eq e.name to) (bytes_eq-Decides e.name to)) (bytes_eq-Decides e.object h)) (loses-decides t n e.object))
      (replaced t n to h) refl (λ e es. refl) target)
    where
      out : {L : Type 0} {name object : List ℕ} → ((name ≢ to) ⊎ (object ≡ h)) ⊎ L → name ≡ to → (object ≡ h → ⊥) → L
      out (inl (inl other)) is apart = absurd (other is)
      out (inl (inr same)) is apart = absurd (apart same)
      out (inr l) is apart = l

      into : (e : model.Listed) → ((e.name ≡ to) → (e.object ≡ h → ⊥) → Loses S T e.object) → ((e.name ≢ to) ⊎ (e.object ≡ h)) ⊎ Loses S T e.object
      into e k = by (bytes_eq e.name to) (bytes_eq e.object h) (bytes_eq-Decides e.name to) (bytes_eq-Decides e.object h)
        where
          by : (a b : Bool) → Decides a (e.name ≡ to) → Decides b (e.object ≡ h) → ((e.name ≢ to) ⊎ (e.object ≡ h)) ⊎ Loses S T e.object
          by false b p q = inl (inl (not_from_Decides false p refl))
          by true true p q = inl (inr (q.0 refl))
          by true false p q = inr (k (p.0 refl) (not_from_Decides false q refl))

  -- ---- what is touched

  abbrev pub Touches : List ℕ → List ℕ → List ℕ → List ℕ → List model.Listed → List ℕ → Type 0
  Touches d e h to target f = (f ≡ d) ⊎ (f ≡ e) ⊎ (f ≡ h) ⊎ ((entry : model.Listed) × model.Lists target entry × (entry.name ≡ to) × (entry.object ≡ f))

  touches-decide : (d e h to : List ℕ) (target : List DirEntry) (f : List ℕ) → Decides (is_touched d e h to target f) (Touches d e h to (map listed_of target) f)
  touches-decide d e h to target f =
      Decides-like (is_one d e h f || has_entry to f target) out into
      (Decides-or (is_one d e h f) (has_entry to f target) (one-decides d e h f) (has-decides to f target))
    where
      out : IsOne d e h f ⊎ Has (IsEntry to f) (map listed_of target) → Touches d e h to (map listed_of target) f
      out (inl (inl (inl x))) = inl x
      out (inl (inl (inr x))) = inr (inl x)
      out (inl (inr x)) = inr (inr (inl x))
      out (inr w) = inr (inr (inr (w.0, w.1, w.2.0, w.2.1)))

      into : Touches d e h to (map listed_of target) f → IsOne d e h f ⊎ Has (IsEntry to f) (map listed_of target)
      into (inl x) = inl (inl (inl x))
      into (inr (inl x)) = inl (inl (inr x))
      into (inr (inr (inl x))) = inl (inr x)
      into (inr (inr (inr w))) = inr (w.0, w.1, (w.2, w.3))

  -- ---- RENAME

  -- the row at the place j of the source moves
  abbrev pub RenamesRow : List ℕ → List ℕ → List ℕ → List ℕ → List model.Listed → ℕ → model.Listed → Type 0
  RenamesRow d from e to target j row = ((((row.name ≡ from) × MovesBy d e to j row.object) × TurnsBy HoldsMoved S T row.object) × AllReplaced to row.object target) × Only (Touches d e row.object to target) S T

  row-renames : (d from e to : List ℕ) (target : List DirEntry) (j : ℕ) (row : DirEntry) → Decides (renames_row t n d from e to target j row) (RenamesRow d from e to (map listed_of target) j (listed_of row))
  unfolding renames_row
  row-renames d from e to target j row =
      Decides-and (bytes_eq row.name from && moves t n d e to j row.object && turns is_moved t n row.object && replaced t n to row.object target) (only (is_touched d e row.object to target) t n)
      (Decides-and (bytes_eq row.name from && moves t n d e to j row.object && turns is_moved t n row.object) (replaced t n to row.object target)
      (Decides-and (bytes_eq row.name from && moves t n d e to j row.object) (turns is_moved t n row.object)
      (Decides-and (bytes_eq row.name from) (moves t n d e to j row.object) (bytes_eq-Decides row.name from) (moves-decide d e to j row.object))
      (turns-decides is_moved HoldsMoved moved-decides t n row.object))
      (replaced-decides to row.object target))
      (only-decides (is_touched d e row.object to target) (Touches d e row.object to (map listed_of target)) (touches-decide d e row.object to target) t n)

  abbrev pub RenamesAmong : List ℕ → List ℕ → List ℕ → List ℕ → List model.Listed → List model.Listed → Type 0
  RenamesAmong d from e to target source = SomeRow (RenamesRow d from e to target) source

  among-renames : (d from e to : List ℕ) (target source : List DirEntry) → Decides (renames_among t n d from e to target source) (RenamesAmong d from e to (map listed_of target) (map listed_of source))
  unfolding renames_among renames_at
  among-renames d from e to target source = row-somewhere (λ j row. renames_row t n d from e to target j row) (RenamesRow d from e to (map listed_of target)) (λ j row. row-renames d from e to target j row) source

  abbrev pub MovesName : List ℕ → List ℕ → List ℕ → List ℕ → Type 0
  MovesName d from e to = HasList (λ target. HasList (λ source. RenamesAmong d from e to target source) S d) S e

  name-moves : (d from e to : List ℕ) → Decides (moves_name t n d from e to) (MovesName d from e to)
  unfolding moves_name
  name-moves d from e to =
      list-before (λ target. in_list (λ source. renames_among t n d from e to target source) (list_there (before t n d))) (λ target. HasList (λ source. RenamesAmong d from e to target source) S d)
      (λ target. list-before (λ source. renames_among t n d from e to target source) (λ source. RenamesAmong d from e to (map listed_of target) source) (λ source. among-renames d from e to target source) t n d) t n e

  -- one object has one list
  one-list : (d : List ℕ) (o p : model.Object) (a b : List model.Listed) → S.object d ≡ Some o → S.object d ≡ Some p → o.holds ≡ model.Entries a → p.holds ≡ model.Entries b → a ≡ b
  one-list d o p a b x y g h = list-is a b (sym g ∙ ap (λ (z : model.Object). z.holds) (same o p (sym x ∙ y)) ∙ h)
    where
      same : (o p : model.Object) → Some o ≡ Some p → o ≡ p
      same o p q = cc

      list-is : (x y : List model.Listed) → model.Entries x ≡ model.Entries y → x ≡ y
      list-is x y e = cc

  leaves-at : (from : List ℕ) (j : ℕ) (row : model.Listed) (old new : List model.Listed) → slice_get old j ≡ Some row → row.name ≡ from → new ≡ entering.without j old → Leaves from row.object old new
  leaves-at from j row old new at name rest = entering.leaves from row.object j old new (record { row = row; at = at; named = name; of = refl; rest = rest })

  to-moves : (d from e to : List ℕ) (target source : List model.Listed) (o p : model.Object) → S.object e ≡ Some o → o.holds ≡ model.Entries target → S.object d ≡ Some p → p.holds ≡ model.Entries source → (j : ℕ) (row : model.Listed) → slice_get source j ≡ Some row → row.name ≡ from → MovesBy d e to j row.object → Moves S T d from e to row.object target
  to-moves d from e to target source o p is_e holds_e is_d holds_d j row at name (inl w) =
      let u = w.1 in
      let r : Replaces to row.object (entering.without j u.holds.old) u.holds.new = u.holds.so in
      let a : u.holds.old ≡ source = one-list d u.old p u.holds.old source u.was is_d u.holds.was holds_d in
      let b : u.holds.old ≡ target = one-list d u.old o u.holds.old target u.was (subst (λ (z : List ℕ). S.object z ≡ Some o) (sym w.0) is_e) u.holds.was holds_e in
      subst (λ (z : List model.Listed). Moves S T d from e to row.object z) b
      (Moves.within (entering.without j u.holds.old) r.clear u.holds.new w.0 (leaves-at from j row u.holds.old (entering.without j u.holds.old) (subst (λ (z : List model.Listed). slice_get z j ≡ Some row) (sym a) at) name refl) r.clears r.enters (to-relists (Within j to row.object) S T d u))
  to-moves d from e to target source o p is_e holds_e is_d holds_d j row at name (inr w) =
      let u = w.1.0 in
      let v = w.1.1 in
      let r : Replaces to row.object v.holds.old v.holds.new = v.holds.so in
      let a : u.holds.old ≡ source = one-list d u.old p u.holds.old source u.was is_d u.holds.was holds_d in
      let b : v.holds.old ≡ target = one-list e v.old o v.holds.old target v.was is_e v.holds.was holds_e in
      subst (λ (z : List model.Listed). Moves S T d from e to row.object z) b
      (Moves.across u.holds.old u.holds.new r.clear v.holds.new w.0 (leaves-at from j row u.holds.old u.holds.new (subst (λ (z : List model.Listed). slice_get z j ≡ Some row) (sym a) at) name u.holds.so) (to-relists (Drops j) S T d u) r.clears r.enters (to-relists (Replaces to row.object) S T e v))

  to-renames : (d from e to : List ℕ) → MovesName d from e to → Renames S T d from e to
  to-renames d from e to w =
      let v : HasList (λ source. RenamesAmong d from e to w.entries source) S d = w.passes in
      let row : model.Listed = v.passes.1 in
      let k = v.passes.3 in
      let u : TurnsBy HoldsMoved S T row.object = k.0.0.1 in record {
        object = row.object;
        target = w.entries;
        moves = to-moves d from e to w.entries v.entries w.dir v.dir w.is w.holds v.is v.holds v.passes.0 row v.passes.2 k.0.0.0.0 k.0.0.0.1;
        moved = u.old;
        later = u.new.holds;
        holds = u.holds;
        turns = to-turns HoldsMoved S T row.object u;
        replaced = λ h other x l name same. subst (λ (z : List ℕ). Loses S T z) same (k.0.1 x l name (λ q. other (sym same ∙ q)));
        only = k.1;
      }

  -- the source's list, the place of the row in it, and how the lists move
  pub record Moving (d from e to h : List ℕ) (target : List model.Listed) : Type 0 where
    pub dir : model.Object
    pub source : List model.Listed
    pub is : S.object d ≡ Some dir
    pub there : dir.gone ≡ false
    pub holds : dir.holds ≡ model.Entries source
    pub target_dir : model.Object
    pub target_is : S.object e ≡ Some target_dir
    pub target_there : target_dir.gone ≡ false
    pub target_holds : target_dir.holds ≡ model.Entries target
    pub place : ℕ
    pub row : model.Listed
    pub at : slice_get source place ≡ Some row
    pub named : row.name ≡ from
    pub of : row.object ≡ h
    pub moves : MovesBy d e to place h

  from-moves : (d from e to h : List ℕ) (target : List model.Listed) → Moves S T d from e to h target → Moving d from e to h target
  from-moves d from e to h target (Moves.within less clear new same leaves clears enters r) =
      let x = entering.left from h target less leaves in record {
        dir = r.dir;
        source = target;
        is = r.turns.has.is;
        there = r.turns.has.there;
        holds = r.held;
        target_dir = r.dir;
        target_is = subst (λ (z : List ℕ). S.object z ≡ Some r.dir) same r.turns.has.is;
        target_there = r.turns.has.there;
        target_holds = r.held;
        place = x.0;
        row = x.1.row;
        at = x.1.at;
        named = x.1.named;
        of = x.1.of;
        moves = inl (same, from-relists (Within x.0 to h) S T d target new r (record { clear = clear; clears = subst (λ (z : List model.Listed). Clears to z clear) x.1.rest clears; enters = enters }));
      }
  from-moves d from e to h target (Moves.across old less clear new other leaves q clears enters r) =
      let x = entering.left from h old less leaves in record {
        dir = q.dir;
        source = old;
        is = q.turns.has.is;
        there = q.turns.has.there;
        holds = q.held;
        target_dir = r.dir;
        target_is = r.turns.has.is;
        target_there = r.turns.has.there;
        target_holds = r.held;
        place = x.0;
        row = x.1.row;
        at = x.1.at;
        named = x.1.named;
        of = x.1.of;
        moves = inr (other, (from-relists (Drops x.0) S T d old less q x.1.rest, from-relists (Replaces to h) S T e target new r (record { clear = clear; clears = clears; enters = enters })));
      }

  from-renames : (d from e to : List ℕ) → Renames S T d from e to → MovesName d from e to
  from-renames d from e to w =
      let m : Moving d from e to w.object w.target = from-moves d from e to w.object w.target w.moves in record {
        dir = m.target_dir;
        entries = w.target;
        is = m.target_is;
        there = m.target_there;
        holds = m.target_holds;
        passes = record {
          dir = m.dir;
          entries = m.source;
          is = m.is;
          there = m.there;
          holds = m.holds;
          passes = (m.place, m.row, m.at, row-of m m.row.object m.of);
        };
      }
    where
      row-of : (m : Moving d from e to w.object w.target) (h : List ℕ) → h ≡ w.object → ((((m.row.name ≡ from) × MovesBy d e to m.place h) × TurnsBy HoldsMoved S T h) × AllReplaced to h w.target) × Only (Touches d e h to w.target) S T
      row-of m h same = subst (λ (z : List ℕ). ((((m.row.name ≡ from) × MovesBy d e to m.place z) × TurnsBy HoldsMoved S T z) × AllReplaced to z w.target) × Only (Touches d e z to w.target) S T) (sym same)
          ((((m.named, m.moves), from-turns HoldsMoved S T w.object w.moved w.later w.turns w.holds), λ x l name other. w.replaced x.object other x l name refl), w.only)

  -- ---- names of one object

  abbrev pub KeepsRow : List ℕ → List ℕ → List ℕ → List ℕ → model.Listed → Type 0
  KeepsRow d from e to row = (((row.name ≡ from) × model.HasName S e to row.object) × Reads S T row.object) × Only (λ h. (h ≡ d) ⊎ (h ≡ e) ⊎ (h ≡ row.object)) S T

  row-keeps : (d from e to : List ℕ) (row : DirEntry) → Decides (keeps_row t n d from e to row) (KeepsRow d from e to (listed_of row))
  unfolding keeps_row
  row-keeps d from e to row =
      Decides-and (bytes_eq row.name from && had_name t n e to row.object && reads t n row.object) (only (is_one d e row.object) t n)
      (Decides-and (bytes_eq row.name from && had_name t n e to row.object) (reads t n row.object)
      (Decides-and (bytes_eq row.name from) (had_name t n e to row.object) (bytes_eq-Decides row.name from) (had-decides t n e to row.object)) (reads-decides t n row.object)) (only-three t n d e row.object)

  one-keeps : (d from e to : List ℕ) (rows : List DirEntry) → Decides (keeps_one t n d from e to rows) (Has (KeepsRow d from e to) (map listed_of rows))
  unfolding keeps_one
  one-keeps d from e to rows = some-entry (λ row. keeps_row t n d from e to row) (KeepsRow d from e to) (λ row. row-keeps d from e to row) (λ xs. keeps_one t n d from e to xs) refl (λ x xs. refl) rows

  names-kept : (d from e to : List ℕ) → Decides (keeps_names t n d from e to) (KeepsNames S T d from e to)
  unfolding keeps_names
  names-kept d from e to =
      Decides-like (in_list (λ rows. keeps_one t n d from e to rows) (list_there (before t n d)) && reads t n d && reads t n e)
      (λ w. out w.0.0 w.0.1 w.1)
      (λ w. into w)
      (Decides-and (in_list (λ rows. keeps_one t n d from e to rows) (list_there (before t n d)) && reads t n d) (reads t n e)
      (Decides-and (in_list (λ rows. keeps_one t n d from e to rows) (list_there (before t n d))) (reads t n d)
      (list-before (λ rows. keeps_one t n d from e to rows) (Has (KeepsRow d from e to)) (λ rows. one-keeps d from e to rows) t n d) (reads-decides t n d)) (reads-decides t n e))
    where
      out : HasList (Has (KeepsRow d from e to)) S d → Reads S T d → Reads S T e → KeepsNames S T d from e to
      out w a b =
          let row : model.Listed = w.passes.0 in record {
            object = row.object;
            named_from = to-name S d from row.object (record { dir = w.dir; entries = w.entries; is = w.is; there = w.there; holds = w.holds; passes = (row, w.passes.1, (w.passes.2.0.0.0, refl)) });
            named_to = w.passes.2.0.0.1;
            reads_from = a;
            reads_to = b;
            only = w.passes.2.1;
            reads = w.passes.2.0.1;
          }

      into : KeepsNames S T d from e to → (HasList (Has (KeepsRow d from e to)) S d × Reads S T d) × Reads S T e
      into w = (
        (
          record {
            dir = w.named_from.names.dir;
            entries = w.named_from.names.entries;
            is = w.named_from.names.is;
            there = w.named_from.there;
            holds = w.named_from.names.holds;
            passes = (record { name = from; object = w.object; cookie = w.named_from.names.cookie }, w.named_from.names.listed, (((refl, w.named_to), w.reads), w.only));
          },
          w.reads_from,
        ),
        w.reads_to,
      )

  pub rename-done : (d from e to : List ℕ) (source target : Wcc) → Decides (renames t n d from e to source target) ((Renames S T d from e to ⊎ KeepsNames S T d from e to) × TrueWcc S T d source × TrueWcc S T e target)
  unfolding renames
  rename-done d from e to source target =
      Decides-like ((moves_name t n d from e to || keeps_names t n d from e to) && shows_wcc t n d source && shows_wcc t n e target)
      (λ w. (w.0.0, w.0.1, w.1))
      (λ w. ((w.0, w.1), w.2))
      (Decides-and ((moves_name t n d from e to || keeps_names t n d from e to) && shows_wcc t n d source) (shows_wcc t n e target)
      (Decides-and (moves_name t n d from e to || keeps_names t n d from e to) (shows_wcc t n d source)
      (Decides-or (moves_name t n d from e to) (keeps_names t n d from e to)
      (Decides-like (moves_name t n d from e to) (λ w. to-renames d from e to w) (λ w. from-renames d from e to w) (name-moves d from e to)) (names-kept d from e to))
      (wcc-decides t n d source)) (wcc-decides t n e target))

  pub rename-refused : (status : Status) (d : List ℕ) (source : Wcc) (e : List ℕ) (target : Wcc) → Decides (refuses_rename t n status d source e target) ((RefusesWcc S status d source × TrueWcc S S e target) × Same S T)
  unfolding refuses_rename
  rename-refused status d source e target =
      Decides-like (refuses t n status && showed_wcc t n d source && showed_wcc t n e target)
      (λ w. ((record { nonzero = w.0.0.0; shows = w.0.1 }, w.1), w.0.0.1))
      (λ w. let r : RefusesWcc S status d source = w.0.0 in (((r.nonzero, w.1), r.shows), w.0.1))
      (Decides-and (refuses t n status && showed_wcc t n d source) (showed_wcc t n e target)
      (Decides-and (refuses t n status) (showed_wcc t n d source) (refuses-decides t n status) (wcc-before t n d source)) (wcc-before t n e target))
