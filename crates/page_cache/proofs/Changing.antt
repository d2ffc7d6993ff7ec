-- Pages of a file are changed, one slot after the other, and the file's other pages are what the change leaves as it is.
use Rattle.std.proofs.Common.{◌≡◌, ◌≢◌, ◌<◌, ◌≤◌, ℕ, ◌+◌, ◌/◌, min, inl, inr, Bool, true, false, not, ◌&&◌, nat_eq, nat_lt, if◌then◌else◌, List, [], ◌∷◌, length, map, set, get_or, Option, Some, None, refl, sym, ap, ◌∙◌, subst, arith}
use Rattle.std.proofs.lemmas.List.{get_or-set_other, get_or-set_same, length-set}
use Rattle.std.proofs.lemmas.Bool.{cases_eq, cases_lt}
use Rattle.std.proofs.lemmas.Bool.Decides.{nat_tests}
use Rattle.std.proofs.lemmas.Option.{same_Some}
use Rattle.std.specs.Cmp.Lexicographic.{pointwise}
use Rattle.std.specs.Int.{div_ceil}
use Rattle.std.specs.Option.{option_map_or}
use Rattle.page_cache.specs.declared.place.PagePlace.{PagePlace}
use Rattle.page_cache.specs.Pages.{changed_page}
use Rattle.page_cache.specs.Bytes.{put_page, cut_page}
use Rattle.page_cache.specs.Slots.{shown, shown_at, changed_bytes, index_in, Lacks, IsSound}
use Rattle.page_cache.specs.Full.{FullBelow}
use Rattle.page_cache.specs.Sorted.{is_below, is_within, IsRun}
use Rattle.page_cache.proofs.Shown.{shown-changed}
use Rattle.page_cache.proofs.Full.{below-first, above-last, put-before, put-after, cut-before}

module _ (file : List ℕ) (low : ℕ) (high : Option ℕ) (change : ℕ → List ℕ → List ℕ) (held : List (Option PagePlace)) (before : List (List ℕ)) (run : List ℕ) where
  -- what the bytes of a slot become
  abbrev pub becomes : ℕ → List ℕ → List ℕ
  becomes slot bytes = changed_bytes file change (get_or held slot None) bytes

  -- the first of these slots are changed, and no other
  pub record Changes (upto : ℕ) (now : List (List ℕ)) : Type 0 where
    pub same : length now ≡ length before
    pub done : (i : ℕ) → i < upto → i < length run → get_or now (get_or run i 0) [] ≡ becomes (get_or run i 0) (get_or before (get_or run i 0) [])
    pub ahead : (t : ℕ) → ((i : ℕ) → i < upto → i < length run → get_or run i 0 ≢ t) → get_or now t [] ≡ get_or before t []

  pub changes-start : Changes 0 before
  changes-start = record { same = refl; done = λ i low. absurd (omega arith); ahead = λ t other. refl }

  module _ {count : ℕ} (r : IsRun count file low high held run) (slots : length before ≡ count) (upto : ℕ) (within : upto < length run) (now : List (List ℕ)) (c : Changes upto now) where
    abbrev slot : ℕ
    slot = get_or run upto 0

    abbrev changed : List ℕ
    changed = becomes slot (get_or now slot [])

    slot-low : slot < length now
    slot-low = let small = r.low_slots upto within in let same = c.same in omega arith

    still : get_or now slot [] ≡ get_or before slot []
    still = c.ahead slot (λ i low inside same. r.apart i upto low within same)

    pub changes-step : Changes (upto + 1) (set now slot changed)
    changes-step = record {
      same = length-set now slot changed ∙ c.same;
      done = λ i low inside. elim (cases_eq i upto) [
        | inl e ↦ subst (λ k. get_or (set now slot changed) (get_or run k 0) [] ≡ becomes (get_or run k 0) (get_or before (get_or run k 0) [])) (sym e)
            (get_or-set_same now slot changed [] slot-low ∙ ap (becomes slot) still)
        | inr n ↦ get_or-set_other now slot (get_or run i 0) changed [] (r.apart i upto (omega arith) within) ∙ c.done i (omega arith) inside
      ];
      ahead = λ t other. get_or-set_other now slot t changed [] (λ same. other upto (omega arith) within (sym same)) ∙ c.ahead t (λ i low inside. other i (omega arith) inside);
    }

    -- the same by the index of the page that the slot holds
    pub changes-on : (index : Option ℕ) → index ≡ index_in file (get_or held slot None)
        → Changes (upto + 1) (set now slot (option_map_or (λ i. change i (get_or now slot [])) index (get_or now slot [])))
    changes-on index of_slot =
        subst (λ i. Changes (upto + 1) (set now slot (option_map_or (λ k. change k (get_or now slot [])) i (get_or now slot [])))) (sym of_slot) changes-step

  -- where the change leaves the file's other pages as they are
  module _ {V : Type 0} {count : ℕ} (r : IsRun count file low high held run) (order : List (ℕ × V)) (upto : ℕ) (all : length run ≤ upto) (now : List (List ℕ)) (sound : IsSound count order held before)
      (c : Changes upto now) (others : (t : ℕ) → t < count → is_within file low high (get_or held t None) ≡ false → becomes t (get_or before t []) ≡ get_or before t []) where
    each : (t : ℕ) → t < count → get_or now t [] ≡ becomes t (get_or before t [])
    each t small = by (is_within file low high (get_or held t None)) refl
      where
        by : (b : Bool) → is_within file low high (get_or held t None) ≡ b → get_or now t [] ≡ becomes t (get_or before t [])
        by false e = c.ahead t (λ i less within same. absurd (let its = ap (λ n. is_within file low high (get_or held n None)) (sym same) ∙ r.within i within in cc))
            ∙ sym (others t small e)
        by true e =
            let it = r.every t small e in let within = it.1 in
            subst (λ n. get_or now n [] ≡ becomes n (get_or before n [])) it.2 (c.done it.0 (omega arith) within)

    pub sound-changed : IsSound count order held now
    sound-changed = record {
      apart = sound.apart;
      every = sound.every;
      all = sound.all;
      holders = sound.holders;
      bytes = c.same ∙ sound.bytes;
      once = sound.once;
      free_last = sound.free_last;
    }

    pub changes-end : shown order held now ≡ map (changed_page file change) (shown order held before)
    changes-end = shown-changed held before count file change now order sound.apart each

-- the pages that slots hold are whole below a number where those that are shown are
slot-full : {V : Type 0} (file : List ℕ) (below : ℕ) (held : List (Option PagePlace)) (pages : List (List ℕ)) (slot : ℕ) (p : PagePlace) → get_or held slot None ≡ Some p
    → pointwise nat_eq p.file file ≡ true → p.index < below → (order : List (ℕ × V)) → FullBelow file below (shown order held pages) → (Lacks slot order → ⊥)
    → length (get_or pages slot []) ≡ 4096
slot-full file below held pages slot p is its low [] full stands = absurd (stands tt)
slot-full file below held pages slot p is its low (f ∷ order) full stands =
    by (get_or held f.0 None) refl full (λ rest other. slot-full file below held pages slot p is its low order rest (λ l. stands (other, l)))
  where
    by : (o : Option PagePlace) → get_or held f.0 None ≡ o → FullBelow file below (shown_at o (get_or pages f.0 []) (shown order held pages))
        → (FullBelow file below (shown order held pages) → f.0 ≢ slot → length (get_or pages slot []) ≡ 4096) → length (get_or pages slot []) ≡ 4096
    by None e h on = on h (λ same. absurd (let it = ap (λ n. get_or held n None) same ∙ is in cc))
    by (Some q) e h on = elim (cases_eq f.0 slot) [
      | inl same ↦
          let one : q ≡ p = same_Some q p (sym e ∙ ap (λ n. get_or held n None) same ∙ is) in
          ap (λ n. length (get_or pages n [])) (sym same) ∙ h.0 (subst (λ r. pointwise nat_eq r.file file ≡ true) (sym one) its) (subst (λ r. r.index < below) (sym one) low)
      | inr other ↦ on h.1 other
    ]

-- a change leaves the pages outside as they are: whole ones below a number, and those past its end
module _ {V : Type 0} {count : ℕ} (file : List ℕ) (low below : ℕ) (high : Option ℕ) (change : ℕ → List ℕ → List ℕ) (order : List (ℕ × V)) (held : List (Option PagePlace)) (pages : List (List ℕ))
    (sound : IsSound count order held pages) (full : FullBelow file below (shown order held pages)) (less : low ≤ below)
    (front : (i : ℕ) (old : List ℕ) → i < low → length old ≡ 4096 → change i old ≡ old) (past : (i : ℕ) (old : List ℕ) → is_below i high ≡ false → change i old ≡ old) where
  pub outside : (t : ℕ) → t < count → is_within file low high (get_or held t None) ≡ false → changed_bytes file change (get_or held t None) (get_or pages t []) ≡ get_or pages t []
  outside t small = by (get_or held t None) refl
    where
      numbered : (p : PagePlace) → get_or held t None ≡ Some p → (b : Bool) → pointwise nat_eq p.file file ≡ b
          → option_map_or (λ index. not (nat_lt index low) && is_below index high) (if b then Some p.index else None) false ≡ false
          → option_map_or (λ index. change index (get_or pages t [])) (if b then Some p.index else None) (get_or pages t []) ≡ get_or pages t []
      numbered p is false e h = refl
      numbered p is true e h = elim (cases_lt p.index low) [
        | inl early ↦ front p.index (get_or pages t []) early (slot-full file below held pages t p is e (omega arith) order full (sound.every t small))
        | inr from ↦ past p.index (get_or pages t []) (let t : nat_lt p.index low ≡ false = grind (arith, nat_tests) in rw t at h)
      ]

      by : (o : Option PagePlace) → get_or held t None ≡ o → is_within file low high o ≡ false → changed_bytes file change o (get_or pages t []) ≡ get_or pages t []
      by None is h = refl
      by (Some p) is h = numbered p is (pointwise nat_eq p.file file) refl h

-- the pages before and past a WRITE's bytes
module _ {V : Type 0} {count : ℕ} (file : List ℕ) (below : ℕ) (order : List (ℕ × V)) (held : List (Option PagePlace)) (pages : List (List ℕ))
    (sound : IsSound count order held pages) (full : FullBelow file below (shown order held pages)) where
  pub outside-write : (low high offset : ℕ) (bytes : List ℕ) → low ≡ min below (offset / 4096) → high ≡ div_ceil (offset + length bytes) 4096 → (t : ℕ) → t < count
      → is_within file low (Some high) (get_or held t None) ≡ false
      → changed_bytes file (λ index. put_page index offset bytes) (get_or held t None) (get_or pages t []) ≡ get_or pages t []
  outside-write low high offset bytes at_low at_high = outside file low below (Some high) (λ index. put_page index offset bytes) order held pages sound full (omega arith)
      (λ i old early whole. put-before i offset bytes old (below-first i offset (omega arith)) whole)
      (λ i old late. let from : high ≤ i = grind (arith, nat_tests) in put-after i offset bytes old (above-last i (offset + length bytes) (subst (λ h. h ≤ i) at_high from)))

  -- and the pages before the one in which a new size ends
  pub outside-cut : (low size : ℕ) → low ≡ min below (size / 4096) → (t : ℕ) → t < count → is_within file low None (get_or held t None) ≡ false
      → changed_bytes file (λ index. cut_page index size) (get_or held t None) (get_or pages t []) ≡ get_or pages t []
  outside-cut low size at_low = outside file low below None (λ index. cut_page index size) order held pages sound full (omega arith)
      (λ i old early whole. cut-before i size old (below-first i size (omega arith)) whole)
      (λ i old late. absurd (let h : true ≡ false = late in cc))
