-- The slots that hold a file's pages stand side by side in the order of the pages.
use Rattle.std.proofs.Common.{◌≡◌, ◌≢◌, ◌<◌, ◌≤◌, ℕ, ◌+◌, ◌-◌, Bool, true, false, ◌⊎◌, inl, inr, List, length, map, take, drop, get_or, Option, Some, None, is_some, if◌then◌else◌, refl, sym, ap, ◌∙◌, subst, arith, length-append, length-drop}
use Rattle.std.proofs.lemmas.List.{length-take, get_or-take, get_or-drop, get_or_append_left, get_or-append_right}
use Rattle.std.proofs.Math.ListN.{get_or-map}
use Rattle.std.proofs.lemmas.List.{length-map}
use Rattle.std.proofs.lemmas.Bool.{cases_lt}
use Rattle.std.specs.List.{slice_range, remove_range}
use Rattle.page_cache.specs.declared.place.PagePlace.{PagePlace}
use Rattle.page_cache.specs.Slots.{index_in}
use Rattle.std.specs.Prelude.{IfSome}
use Rattle.page_cache.specs.Sorted.{is_before, held_at, freed, is_within, IsSorted, IsRun, AreEnds}
use Rattle.page_cache.proofs.PageOrder.{starts-ends, in-file-held, file-starts-held, file-ends-held, within-all}
use Rattle.page_cache.proofs.SortedSlots.{page-at, apart}

module _ {count : ℕ} (file : List ℕ) (low : ℕ) (high : Option ℕ) (ordered : IfSome high (λ h. low ≤ h)) (held : List (Option PagePlace)) (sorted : List ℕ) (s : IsSorted count held sorted)
    (from to : ℕ) (ends : AreEnds file low high held sorted from to) where
  pub ends-in_order : from ≤ to
  ends-in_order = elim (cases_lt to from) [
    | inl less ↦
        let inside = ends.start.inside in
        let p = page-at held sorted s to (omega arith) in
        let early = rw p.1 at (ends.start.before to less) in
        let late = rw p.1 at (ends.end.after to (omega arith) (omega arith)) in
        absurd (let x = starts-ends file low high p.0 ordered early in cc)
    | inr le ↦ le
  ]

  abbrev its : ℕ → Bool
  its i = is_within file low high (held_at held sorted i)

  -- the slots between the ends are those of these pages
  between-its : (i : ℕ) → from ≤ i → i < to → its i ≡ true
  between-its i above below =
      let inside = ends.end.inside in
      let p = page-at held sorted s i (omega arith) in
      in-file-held file low high (held_at held sorted i) p.0 p.1 (ends.start.after i above (omega arith)) (ends.end.before i below)

  its-between : (i : ℕ) → i < length sorted → its i ≡ true → (from ≤ i) × (i < to)
  its-between i within is = (
    (elim (cases_lt i from) [
      | inl less ↦ absurd (let early = ends.start.before i less in let late = file-starts-held file low high (held_at held sorted i) is in cc)
      | inr le ↦ le
    ]),
    (elim (cases_lt i to) [
      | inl less ↦ less
      | inr le ↦ absurd (let late = ends.end.after i le within in let early = file-ends-held file low high (held_at held sorted i) is in cc)
    ]),
  )

  abbrev run : List ℕ
  run = slice_range sorted from to

  length-run : length run ≡ to - from
  length-run = let inside = ends.end.inside in let le = ends-in_order in omega (arith, length-take (to - from) (drop from sorted), length-drop from sorted)

  at-run : (k : ℕ) → k < to - from → get_or run k 0 ≡ get_or sorted (from + k) 0
  at-run k small = get_or-take (to - from) (drop from sorted) k 0 small ∙ get_or-drop from sorted k 0

  run-low : (k : ℕ) → k < length run → get_or run k 0 < count
  run-low k within = let inside = ends.end.inside in let n = length-run in
      subst (λ t. t < count) (sym (at-run k (omega arith))) (s.low (from + k) (omega arith))

  run-its : (k : ℕ) → k < length run → is_within file low high (get_or held (get_or run k 0) None) ≡ true
  run-its k within = let n = length-run in ap (λ t. is_within file low high (get_or held t None)) (at-run k (omega arith)) ∙ between-its (from + k) (omega arith) (omega arith)

  run-apart : (i j : ℕ) → i < j → j < length run → get_or run i 0 ≢ get_or run j 0
  run-apart i j less within same = let inside = ends.end.inside in let n = length-run in
      apart held sorted s (from + i) (from + j) (omega arith) (omega arith) (sym (at-run i (omega arith)) ∙ same ∙ at-run j (omega arith))

  some-held : (o : Option PagePlace) → is_within file low high o ≡ true → is_some o ≡ true
  some-held None h = cc
  some-held (Some p) h = refl

  run-every : (slot : ℕ) → slot < count → is_within file low high (get_or held slot None) ≡ true → (k : ℕ) × (k < length run) × (get_or run k 0 ≡ slot)
  run-every slot small is =
      let it = s.every slot small (some-held (get_or held slot None) is) in
      let there = its-between it.0 it.1 (ap (λ t. is_within file low high (get_or held t None)) it.2 ∙ is) in
      let above = there.0 in let below = there.1 in let n = length-run in
      (it.0 - from, omega arith, at-run (it.0 - from) (omega arith) ∙ ap (λ t. get_or sorted t 0) (omega arith) ∙ it.2)

  pub is-run : IsRun count file low high held run
  is-run = record { low_slots = run-low; within = run-its; apart = run-apart; every = run-every }

-- the slots of all pages of a file are freed
module _ {count : ℕ} (file : List ℕ) (held : List (Option PagePlace)) (sorted : List ℕ) (s : IsSorted count held sorted) (from to : ℕ) (ends : AreEnds file 0 None held sorted from to) where
  pub in_order : from ≤ to
  in_order = ends-in_order file 0 None tt held sorted s from to ends

  abbrev of_file : ℕ → Bool
  of_file i = is_some (index_in file (held_at held sorted i))

  between-file : (i : ℕ) → from ≤ i → i < to → of_file i ≡ true
  between-file i low high = sym (within-all file (held_at held sorted i)) ∙ between-its file 0 None tt held sorted s from to ends i low high

  file-between : (i : ℕ) → i < length sorted → of_file i ≡ true → (from ≤ i) × (i < to)
  file-between i within is = its-between file 0 None tt held sorted s from to ends i within (within-all file (held_at held sorted i) ∙ is)

  abbrev rest : List ℕ
  rest = remove_range sorted from to

  abbrev after : List (Option PagePlace)
  after = map (freed file) held

  length-rest : length rest + (to - from) ≡ length sorted
  length-rest = let inside = ends.end.inside in let le = in_order in
      omega (arith, length-append (take from sorted) (drop to sorted), length-take from sorted, length-drop to sorted)

  front : length (take from sorted) ≡ from
  front = let inside = ends.start.inside in omega (arith, length-take from sorted)

  rest-below : (k : ℕ) → k < from → get_or rest k 0 ≡ get_or sorted k 0
  rest-below k low = get_or_append_left (take from sorted) (drop to sorted) 0 k (omega (arith, front)) ∙ get_or-take from sorted k 0 low

  rest-above : (k : ℕ) → from ≤ k → get_or rest k 0 ≡ get_or sorted (k + (to - from)) 0
  rest-above k high = get_or-append_right (take from sorted) (drop to sorted) from k 0 front high ∙ get_or-drop to sorted (k - from) 0
      ∙ (let le = in_order in ap (λ t. get_or sorted t 0) (omega arith))

  after-at : (slot : ℕ) → get_or after slot None ≡ freed file (get_or held slot None)
  after-at slot = get_or-map (freed file) held slot None

  not-its : (i : ℕ) → i < length sorted → (i < from) ⊎ (to ≤ i) → (b : Bool) → of_file i ≡ b → b ≡ false
  not-its i within where_ false e = refl
  not-its i within where_ true e = let there = file-between i within e in let low = there.0 in let high = there.1 in elim where_ [
    | inl less ↦ absurd (omega arith)
    | inr le ↦ absurd (omega arith)
  ]

  kept-at : (i : ℕ) → i < length sorted → (i < from) ⊎ (to ≤ i) → held_at after sorted i ≡ held_at held sorted i
  kept-at i within where_ = after-at (get_or sorted i 0) ∙ rw (not-its i within where_ (of_file i) refl) refl

  -- where an entry of the rest stood
  abbrev Stood : ℕ → ℕ → Type 0
  Stood k i = (i < length sorted) × (get_or rest k 0 ≡ get_or sorted i 0) × (held_at after rest k ≡ held_at held sorted i)

  stood-below : (k : ℕ) → k < from → Stood k k
  stood-below k low = let inside = ends.start.inside in
      (omega arith, rest-below k low, ap (λ t. get_or after t None) (rest-below k low) ∙ kept-at k (omega arith) (inl low))

  stood-above : (k : ℕ) → from ≤ k → k < length rest → Stood k (k + (to - from))
  stood-above k high within = let le = in_order in
      (omega (arith, length-rest), rest-above k high, ap (λ t. get_or after t None) (rest-above k high) ∙ kept-at (k + (to - from)) (omega (arith, length-rest)) (inr (omega arith)))

  stood : (k : ℕ) → k < length rest → (i : ℕ) × Stood k i
  stood k within = elim (cases_lt k from) [
    | inl low ↦ (k, stood-below k low)
    | inr high ↦ (k + (to - from), stood-above k high within)
  ]

  rest-rises : (i j : ℕ) (p : PagePlace) → i < j → j < length rest → held_at after rest j ≡ Some p → is_before p.file (Some p.index) (held_at after rest i) ≡ true
  rest-rises i j p less within is = elim (cases_lt j from) [
    | inl low ↦ rises i j (stood-below i (omega arith)) (stood-below j low) less
    | inr high ↦ elim (cases_lt i from) [
      | inl low ↦ rises i (j + (to - from)) (stood-below i low) (stood-above j high within) (omega arith)
      | inr above ↦ rises (i + (to - from)) (j + (to - from)) (stood-above i above (omega arith)) (stood-above j high within) (omega arith)
    ]
  ]
    where
      rises : (m n : ℕ) → Stood i m → Stood j n → m < n → is_before p.file (Some p.index) (held_at after rest i) ≡ true
      rises m n at_m at_n order = ap (is_before p.file (Some p.index)) at_m.2 ∙ s.rises m n p order at_n.0 (sym at_n.2 ∙ is)

  freed-held : (o : Option PagePlace) → is_some (freed file o) ≡ true → (is_some o ≡ true) × (is_some (index_in file o) ≡ false)
  freed-held o h = by (is_some (index_in file o)) refl h
    where
      by : (b : Bool) → is_some (index_in file o) ≡ b → is_some (if b then None else o) ≡ true → (is_some o ≡ true) × (b ≡ false)
      by true e h = cc
      by false e h = (h, refl)

  rest-every : (slot : ℕ) → slot < count → is_some (get_or after slot None) ≡ true → (k : ℕ) × (k < length rest) × (get_or rest k 0 ≡ slot)
  rest-every slot low h =
      let was = freed-held (get_or held slot None) (ap is_some (sym (after-at slot)) ∙ h) in
      let it = s.every slot low was.0 in
      let none : of_file it.0 ≡ false = ap (λ t. is_some (index_in file (get_or held t None))) it.2 ∙ was.1 in
      let within = it.1 in
      elim (cases_lt it.0 from) [
        | inl below ↦ let inside = ends.start.inside in let le = in_order in let fits = ends.end.inside in (it.0, omega (arith, length-rest), rest-below it.0 below ∙ it.2)
        | inr high ↦ elim (cases_lt it.0 to) [
          | inl between ↦ absurd (let yes_its = between-file it.0 high between in cc)
          | inr above ↦ let le = in_order in
              (it.0 - (to - from), omega (arith, length-rest), rest-above (it.0 - (to - from)) (omega arith) ∙ ap (λ t. get_or sorted t 0) (omega arith) ∙ it.2)
        ]
      ]

  pub sorted-rest : IsSorted count after rest
  sorted-rest = record {
    slots = length-map held (freed file) ∙ s.slots;
    low = λ k h. let it = stood k h in subst (λ t. t < count) (sym it.1.1) (s.low it.0 it.1.0);
    holds = λ k h. let it = stood k h in ap is_some it.1.2 ∙ s.holds it.0 it.1.0;
    rises = rest-rises;
    every = rest-every;
  }
