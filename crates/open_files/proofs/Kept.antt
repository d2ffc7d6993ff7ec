-- The slab of opens, as a map from places.
use Rattle.std.proofs.Common.{◌≡◌, ◌≢◌, ◌↔◌, ℕ, zero, suc, ◌==◌, ◌<◌, not, Bool, true, false, cond, List, [], ◌∷◌, length, Option, Some, None, unwrap_or, IsTrue, IsSomeAnd, MatchBool, Contains, refl, sym, ap, subst, ◌∙◌, inl, inr, arith}
use Rattle.std.specs.Ordering.{eq_by_cmp}
use Rattle.std.specs.FinMap as finite
use Rattle.std.proofs.Math.Dec.{eqb-suc-zero}
use Rattle.std.proofs.lemmas.Bool.{eq-eqb}
use Rattle.slab.specs.Slab.{Slab, get, entries, slab_len, Updates}
use Rattle.slab.proofs.SlabLemmas.{Contains-entries, length-entries}
use Rattle.open_files.specs.declared.open_files.Held.{Held}
use Rattle.open_files.specs.declared.opened.Opened.{Opened}
use Rattle.open_files.specs.Slots.{Place, Opens, place_cmp, HoldsAny, IsOpen, TellsLast}
use Rattle.open_files.specs.Held.{place_of, entry_of, opens_of, IsAt, IsDistinct, HasNoneAt, HasFile}
use Rattle.open_files.proofs.Places.{place_cmp-total, place_cmp-antisymmetric, same_place, apart, either, same_option, none_of, found, kept}

-- an entry of the slab that holds this at a place
pub record Shown (slab : Slab Held) (place : Place) (of : Opened) : Type 0 where
  pub key : ℕ
  pub held : Held
  pub there : get slab key ≡ Some held
  pub at : place_of held ≡ place
  pub is : held.of ≡ of

same_held : (a b : Held) → ◌≡◌ {A = Option Held} (Some a) (Some b) → a ≡ b
same_held a b e = ap (λ o. unwrap_or o a) e

no_held : (a : Held) → ◌≡◌ {A = Option Held} None (Some a) → ⊥
no_held a e = absurd cc

-- what the map has at a place, an entry of the slab shows
pub shown : (slab : Slab Held) (q : Place) (v : Opened) → finite.get (opens_of slab) q ≡ Some v → Shown slab q v
shown slab q v h =
    let is : finite.find place_cmp q _ ≡ Some v = sym (finite.get-from_entries place_cmp-total _ q) ∙ h in
    let f = found (λ e. place_of e.1) (λ e. e.1.of) (entries slab) q v is in
    record { key = f.0.0; held = f.0.1; there = (Contains-entries slab f.0.0 f.0.1).0 f.1; at = f.2; is = f.3 }

-- an entry of the slab stands in the map at its place
pub stands : (slab : Slab Held) → IsDistinct slab → (key : ℕ) (held : Held) → get slab key ≡ Some held → finite.get (opens_of slab) (place_of held) ≡ Some held.of
stands slab one key held there =
    finite.get-from_entries place_cmp-total _ _ ∙
    kept (λ e. place_of e.1) (λ e. e.1.of) (entries slab) (place_of held) (key, held) ((Contains-entries slab key held).1 there) refl (λ b has at.
    let found = (Contains-entries slab b.0 b.1).0 has in
    let same = one.one b.0 key b.1 held found there at in
    ap (λ held. held.of) (same_held b.1 held (sym found ∙ ap (get slab) same ∙ there)))

-- and so it does at a place that equals it
pub stands_at : (slab : Slab Held) → IsDistinct slab → (q : Place) (v : Opened) → Shown slab q v → finite.get (opens_of slab) q ≡ Some v
stands_at slab one q v s = subst (λ p. finite.get (opens_of slab) p ≡ Some v) s.at (stands slab one s.key s.held s.there ∙ ap Some s.is)

pub none_at : (slab : Slab Held) (q : Place) → HasNoneAt slab q → finite.get (opens_of slab) q ≡ None
none_at slab q none = none_of _ (λ v h. let s = shown slab q v h in none s.key s.held s.there s.at)

module _ (old new : Slab Held) (key : ℕ) (held : Held) where
  -- an open that is put at a free place
  module _ (updates : Updates old new key (Some held)) (vacant : get old key ≡ None) (one : IsDistinct old) (free : finite.get (opens_of old) (place_of held) ≡ None) where
    -- no other entry has its place
    alone : (k : ℕ) (other : Held) → k ≢ key → get new k ≡ Some other → ¬ (place_of other ≡ place_of held)
    alone k other differs there same =
        let before = sym (updates.others k differs) ∙ there in
        let at = stands old one k other before in
        let none = subst (λ p. finite.get (opens_of old) p ≡ Some other.of) same at in
        absurd (cc (none, free))

    pub put-distinct : IsDistinct new
    put-distinct = record {
      one = λ k j a b at_k at_j same. elim (either k key) [
        | inl k_is ↦ elim (either j key) [
          | inl j_is ↦ k_is ∙ sym j_is
          | inr j_not ↦ absurd (alone j b j_not at_j (sym same ∙ ap place_of (same_held a held (sym at_k ∙ ap (get new) k_is ∙ updates.changed))))
        ]
        | inr k_not ↦ elim (either j key) [
          | inl j_is ↦ absurd (alone k a k_not at_k (same ∙ ap place_of (same_held b held (sym at_j ∙ ap (get new) j_is ∙ updates.changed))))
          | inr j_not ↦ one.one k j a b (sym (updates.others k k_not) ∙ at_k) (sym (updates.others j j_not) ∙ at_j) same
        ]
      ];
    }

    -- another place has what it had
    put-other : (q : Place) → q ≢ place_of held → finite.get (opens_of new) q ≡ finite.get (opens_of old) q
    put-other q differs = same_option _ _
        (λ v h. let s = shown new q v h in elim (either s.key key) [
          | inl is ↦ absurd (differs (sym s.at ∙ ap place_of (same_held s.held held (sym s.there ∙ ap (get new) is ∙ updates.changed))))
          | inr other ↦ stands_at old one q v (record { key = s.key; held = s.held; there = sym (updates.others s.key other) ∙ s.there; at = s.at; is = s.is })
        ])
        (λ v h. let s = shown old q v h in elim (either s.key key) [
          | inl is ↦ absurd (no_held s.held (sym vacant ∙ ap (get old) (sym is) ∙ s.there))
          | inr other ↦ stands_at new put-distinct q v (record { key = s.key; held = s.held; there = updates.others s.key other ∙ s.there; at = s.at; is = s.is })
        ])

    put-at : (q : Place) → finite.get (opens_of new) q ≡ cond (eq_by_cmp place_cmp q (place_of held)) (Some held.of) (finite.get (opens_of old) q)
    put-at q = elim (eq_by_cmp place_cmp q (place_of held)) as (λ b. eq_by_cmp place_cmp q (place_of held) ≡ b → finite.get (opens_of new) q ≡ cond b (Some held.of) (finite.get (opens_of old) q)) [
      | true ↦ λ is. ap (finite.get (opens_of new)) (same_place q (place_of held) is) ∙ stands new put-distinct key held updates.changed
      | false ↦ λ is. put-other q (apart q (place_of held) is)
    ] refl

    pub put-inserts : opens_of new ≡ finite.insert (opens_of old) (place_of held) held.of
    put-inserts = finite.same_map place_cmp-total place_cmp-antisymmetric _ _ (λ q. put-at q ∙ sym (finite.get-insert place_cmp-total _ _ _ q))

  -- an open that is taken out
  module _ (updates : Updates old new key None) (there : get old key ≡ Some held) (one : IsDistinct old) where
    -- what is left was there before, under another key
    left : (k : ℕ) (other : Held) → get new k ≡ Some other → (k ≢ key) × (get old k ≡ Some other)
    left k other at = elim (either k key) [
      | inl is ↦ absurd (no_held other (sym updates.changed ∙ ap (get new) (sym is) ∙ at))
      | inr differs ↦ (differs, sym (updates.others k differs) ∙ at)
    ]

    pub closed-distinct : IsDistinct new
    closed-distinct = record {
      one = λ k j a b at_k at_j same. one.one k j a b (left k a at_k).1 (left j b at_j).1 same;
    }

    closed-other : (q : Place) → q ≢ place_of held → finite.get (opens_of new) q ≡ finite.get (opens_of old) q
    closed-other q differs = same_option _ _
        (λ v h. let s = shown new q v h in stands_at old one q v (record { key = s.key; held = s.held; there = (left s.key s.held s.there).1; at = s.at; is = s.is }))
        (λ v h. let s = shown old q v h in elim (either s.key key) [
          | inl is ↦ absurd (differs (sym s.at ∙ ap place_of (same_held s.held held (sym s.there ∙ ap (get old) is ∙ there))))
          | inr other ↦ stands_at new closed-distinct q v (record { key = s.key; held = s.held; there = updates.others s.key other ∙ s.there; at = s.at; is = s.is })
        ])

    closed-here : finite.get (opens_of new) (place_of held) ≡ None
    closed-here = none_of _ (λ v h.
        let s = shown new (place_of held) v h in
        let l = left s.key s.held s.there in
        l.0 (one.one s.key key s.held held l.1 there s.at))

    closed-at : (q : Place) → finite.get (opens_of new) q ≡ cond (eq_by_cmp place_cmp q (place_of held)) None (finite.get (opens_of old) q)
    closed-at q = elim (eq_by_cmp place_cmp q (place_of held)) as (λ b. eq_by_cmp place_cmp q (place_of held) ≡ b → finite.get (opens_of new) q ≡ cond b None (finite.get (opens_of old) q)) [
      | true ↦ λ is. ap (finite.get (opens_of new)) (same_place q (place_of held) is) ∙ closed-here
      | false ↦ λ is. closed-other q (apart q (place_of held) is)
    ] refl

    pub close-removes : opens_of new ≡ finite.remove (opens_of old) (place_of held)
    close-removes = finite.same_map place_cmp-total place_cmp-antisymmetric _ _ (λ q. closed-at q ∙ sym (finite.get-remove place_cmp-total _ _ q))

-- to take out what isn't there changes nothing
pub remove-absent : (opens : Opens) (q : Place) → finite.get opens q ≡ None → opens ≡ finite.remove opens q
remove-absent opens q none = finite.same_map place_cmp-total place_cmp-antisymmetric _ _ (λ p.
    elim (eq_by_cmp place_cmp p q) as (λ b. eq_by_cmp place_cmp p q ≡ b → finite.get opens p ≡ cond b None (finite.get opens p)) [
      | true ↦ λ is. ap (finite.get opens) (same_place p q is) ∙ none
      | false ↦ λ _. refl
    ] refl ∙ sym (finite.get-remove place_cmp-total opens q p))

-- a file is open where an entry is of it
pub file-open : (slab : Slab Held) (file : List ℕ) → IsDistinct slab → HasFile slab file ↔ IsOpen (opens_of slab) file
file-open slab file one = (
  (λ h. record { place = place_of h.held; of = h.held.of; there = stands slab one h.key h.held h.there; same = h.same }),
  (λ o. let s = shown slab o.place o.of o.there in record { key = s.key; held = s.held; there = s.there; same = ap (λ of. of.file) s.is ∙ o.same }),
)

first_there : (slab : Slab Held) (es : List (ℕ × Held)) → entries slab ≡ es → ¬ (length es ≡ 0) → (key : ℕ) × (held : Held) × (get slab key ≡ Some held)
first_there slab [] is some = absurd (some refl)
first_there slab (e ∷ es) is some = (e.0, e.1, (Contains-entries slab e.0 e.1).0 (subst (λ es. Contains es (e.0, e.1)) (sym is) (0, omega arith, refl)))

-- there is an open where the slab isn't empty
pub any-open : (slab : Slab Held) (b : Bool) → b ≡ not (slab_len slab == 0) → IsDistinct slab → IsTrue b ↔ HoldsAny (opens_of slab)
any-open slab b is one = (
  (λ yes_open.
      let some : ¬ (length (entries slab) ≡ 0) = λ e. let n = eq-eqb (slab_len slab) 0 (sym (length-entries slab) ∙ e) in absurd (cc (n, is, yes_open)) in
      let f = first_there slab (entries slab) refl some in
      record { place = place_of f.1; of = f.1.of; there = stands slab one f.0 f.1 f.2 }),
  (λ o.
      let s = shown slab o.place o.of o.there in
      let has = (Contains-entries slab s.key s.held).1 s.there in
      let len = length-entries slab in
      is ∙ ap not (differs (slab_len slab) (omega (arith, has.1, len)))),
)
  where
    differs : (n : ℕ) → 0 < n → (n == 0) ≡ false
    differs zero h = absurd (omega (arith, h))
    differs (suc n) h = eqb-suc-zero n

-- the last open of a file was closed where none is left
pub told_last : (b : Bool) (P : Type 0) → IsTrue b ↔ P → MatchBool (not b) (¬ P) P
told_last true P h = h.0 refl
told_last false P h = λ p. let t = h.1 p in absurd cc

-- the entry that was found under a key is the one at that place
pub found_there : (slab : Slab Held) → IsDistinct slab → (place : Place) (key : ℕ) (held : Held) → IsSomeAnd (get slab key) (IsAt place) → get slab key ≡ Some held → finite.get (opens_of slab) place ≡ Some held.of
found_there slab one place key held is there =
    let at : IsAt place held = rw there at is in
    stands_at slab one place held.of (record { key = key; held = held; there = there; at = at; is = refl })

-- to close it is to remove it from the map
pub closed_there : (old new : Slab Held) (key : ℕ) (held : Held) (place : Place) → IsDistinct old → IsSomeAnd (get old key) (IsAt place) → get old key ≡ Some held → Updates old new key None → opens_of new ≡ finite.remove (opens_of old) place
closed_there old new key held place one is there updates =
    let at : IsAt place held = rw there at is in
    subst (λ p. opens_of new ≡ finite.remove (opens_of old) p) at (close-removes old new key held updates there one)
