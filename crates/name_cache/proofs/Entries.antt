-- What holds of each entry goes on holding, and what is looked up is an entry's. For the proofs of callers.
use Rattle.std.proofs.Common.{◌≡◌, ℕ, Bool, true, false, ◌&&◌, ◌==◌, if◌then◌else◌, cond, List, [], ◌∷◌, is_some, All, Option, Some, None, option_and_then, refl, subst}
use Rattle.std.proofs.lemmas.Bool.{eqb-true}
use Rattle.std.proofs.lemmas.List.Elements.{All-nil, All-head, All-tail, All-cons, All-take, All-filter}
use Rattle.std.specs.Cmp.{first_so, second_so}
use Rattle.std.specs.Option.{option_map_or}
use Rattle.std.specs.Map.{lookup_entry, remove_entry}
use Rattle.lru.specs.LruCache.{promoted}
use Rattle.nfs_types.specs.declared.time.Time.{Time}
use Rattle.nfs_types.specs.declared.wcc.Stamp.{Stamp}
use Rattle.nfs_types.specs.Stamps.{same_time}
use Rattle.name_cache.specs.declared.entry.Place.{Place}
use Rattle.name_cache.specs.declared.entry.KeptName.{KeptName}
use Rattle.name_cache.specs.Names.{Entries, is_place, kept_of, has_stamp, looked, after_look, learnt, is_of_other, without_dir}
use Rattle.name_cache.proofs.Learning.{same_place}

-- a time that passes the test is the time
same_time-is : (s t : Time) → same_time s t ≡ true → s ≡ t
same_time-is s t h =
    let seconds : s.seconds ≡ t.seconds = eqb-true s.seconds t.seconds (first_so _ _ h) in
    let nanos : s.nanos ≡ t.nanos = eqb-true s.nanos t.nanos (second_so _ _ h) in
    λ i. record { seconds = seconds i; nanos = nanos i }

-- a stamp that passes the test is the stamp
pub has_stamp-is : (stamp : Stamp) (kept : KeptName) → has_stamp stamp kept ≡ true → kept.stamp ≡ stamp
has_stamp-is stamp kept h =
    let front = first_so ((kept.stamp.size == stamp.size) && same_time kept.stamp.mtime stamp.mtime) _ h in
    let size : kept.stamp.size ≡ stamp.size = eqb-true kept.stamp.size stamp.size (first_so _ _ front) in
    let mtime : kept.stamp.mtime ≡ stamp.mtime = same_time-is kept.stamp.mtime stamp.mtime (second_so (kept.stamp.size == stamp.size) _ front) in
    let ctime : kept.stamp.ctime ≡ stamp.ctime = same_time-is kept.stamp.ctime stamp.ctime (second_so ((kept.stamp.size == stamp.size) && same_time kept.stamp.mtime stamp.mtime) _ h) in
    λ i. record { size = size i; mtime = mtime i; ctime = ctime i }

module _ (P : Place × KeptName → Type 0) where
  All-remove_entry : (test : Place → Bool) (entries : Entries) → All P entries → All P (remove_entry test entries)
  All-remove_entry test [] all = All-nil P
  All-remove_entry test (e ∷ entries) all = (elim (test e.0) as (λ y. All P (cond y entries (e ∷ remove_entry test entries))) [
    | true ↦ All-tail P e entries all
    | false ↦ All-cons P e _ (All-head P e entries all) (All-remove_entry test entries (All-tail P e entries all))
  ])

  All-lookup_entry : (test : Place → Bool) (entries : Entries) (e : Place × KeptName) → All P entries → lookup_entry test entries ≡ Some e → P e
  All-lookup_entry test [] e all found = cc
  All-lookup_entry test (f ∷ entries) e all found = (elim (test f.0) as (λ y. test f.0 ≡ y → P e) [
    | true ↦ λ t. let is : f ≡ e = (let h = rw t at found in cc) in subst P is (All-head P f entries all)
    | false ↦ λ t. All-lookup_entry test entries e (All-tail P f entries all) (rw t at found)
  ]) refl

  -- what is found of a name is in an entry of the name
  pub All-lookup : (p : Place) (entries : Entries) (kept : KeptName) → All P entries → kept_of p.dir p.name entries ≡ Some kept → P (p, kept)
  All-lookup p [] kept all found = cc
  All-lookup p (e ∷ entries) kept all found = (elim (is_place p.dir p.name e.0) as (λ y. is_place p.dir p.name e.0 ≡ y → P (p, kept)) [
    | true ↦ λ t. let is : e.1 ≡ kept = (let h = rw t at found in cc) in
        subst (λ q. P (q, kept)) (same_place p e.0 t) (subst (λ k. P (e.0, k)) is (All-head P e entries all))
    | false ↦ λ t. All-lookup p entries kept (All-tail P e entries all) (rw t at found)
  ]) refl

  All-promoted : (test : Place → Bool) (entries : Entries) → All P entries → All P (promoted test entries)
  All-promoted test entries all = by (lookup_entry test entries) refl
    where
      by : (o : Option (Place × KeptName)) → lookup_entry test entries ≡ o → All P (option_map_or (λ e. e ∷ remove_entry test entries) o entries)
      by None found = all
      by (Some e) found = All-cons P e _ (All-lookup_entry test entries e all found) (All-remove_entry test entries all)

  -- after a look
  pub All-after_look : (dir name : List ℕ) (stamp : Stamp) (entries : Entries) → All P entries → All P (after_look dir name stamp entries)
  All-after_look dir name stamp entries all =
      (elim (is_some (looked dir name stamp entries)) as (λ y. All P (if y then promoted (is_place dir name) entries else entries)) [
        | true ↦ All-promoted (is_place dir name) entries all
        | false ↦ all
      ])

  -- after a name is learnt
  pub All-learnt : (dir name : List ℕ) (stamp : Stamp) (found : List ℕ) (entries : Entries) → All P entries
      → P (record { dir = dir; name = name }, record { stamp = stamp; found = found }) → All P (learnt dir name stamp found entries)
  All-learnt dir name stamp found entries all told =
      let p : Place = record { dir = dir; name = name } in
      let kept : KeptName = record { stamp = stamp; found = found } in
      All-take P 256 ((p, kept) ∷ remove_entry (is_place dir name) entries)
      (All-cons P (p, kept) (remove_entry (is_place dir name) entries) told (All-remove_entry (is_place dir name) entries all))

  -- after a directory's names are dropped
  pub All-without_dir : (dir : List ℕ) (entries : Entries) → All P entries → All P (without_dir dir entries)
  All-without_dir dir entries all = All-filter (is_of_other dir) P entries all

  -- what is answered stands in an entry of that name, learnt under that stamp
  pub looked-kept : (dir name : List ℕ) (stamp : Stamp) (found : List ℕ) (entries : Entries) → All P entries → looked dir name stamp entries ≡ Some found
      → P (record { dir = dir; name = name }, record { stamp = stamp; found = found })
  looked-kept dir name stamp found entries all = by (kept_of dir name entries) refl
    where
      same : (kept : KeptName) (b : Bool) → has_stamp stamp kept ≡ b → P (record { dir = dir; name = name }, kept) → (if b then Some kept.found else None) ≡ Some found
          → P (record { dir = dir; name = name }, record { stamp = stamp; found = found })
      same kept true t p is =
          let state : kept.stamp ≡ stamp = has_stamp-is stamp kept t in
          let that : kept.found ≡ found = cc in
          subst (λ k. P (record { dir = dir; name = name }, k)) (λ i. record { stamp = state i; found = that i }) p
      same kept false t p is = cc

      by : (o : Option KeptName) → kept_of dir name entries ≡ o → option_and_then (λ kept. if has_stamp stamp kept then Some kept.found else None) o ≡ Some found
          → P (record { dir = dir; name = name }, record { stamp = stamp; found = found })
      by None none is = cc
      by (Some kept) some is = same kept (has_stamp stamp kept) refl (All-lookup (record { dir = dir; name = name }) entries kept all some) is
