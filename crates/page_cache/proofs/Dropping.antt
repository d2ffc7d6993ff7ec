-- The pages of a file are dropped: its slots go to the end one after the other, and then they are free.
use Rattle.std.proofs.Common.{◌≡◌, ◌≢◌, ◌<◌, ◌≤◌, ℕ, ◌+◌, ◌-◌, zero, suc, inl, inr, Bool, true, false, nat_eq, List, [], ◌∷◌, ◌++◌, length, take, drop, map, set, get_or, Option, None, is_some, if◌then◌else◌, refl, sym, ap, ◌∙◌, subst, arith, append-nil}
use Rattle.std.proofs.lemmas.List.{drop_all, get_or-set_other, get_or-set_same, length-set, length-map, length-take, get_or-take, take_all, take_more, ext_get_or}
use Rattle.std.proofs.Math.ListN.{get_or-map}
use Rattle.std.proofs.lemmas.Bool.{cases_eq}
use Rattle.lru.specs.LruCache.{demoted}
use Rattle.page_cache.specs.declared.place.PagePlace.{PagePlace}
use Rattle.page_cache.specs.Pages.{without_file}
use Rattle.page_cache.specs.Slots.{shown, index_in, IsSound}
use Rattle.page_cache.specs.Sorted.{freed, freeing, IsSorted, AreEnds, IsRun}
use Rattle.page_cache.proofs.PageOrder.{within-all}
use Rattle.page_cache.proofs.Runs.{is-run}
use Rattle.page_cache.proofs.Shown.{others-rest, others-all}
use Rattle.page_cache.proofs.Sound.{sound-back, shown-back}

pub freeing-more : (run : List ℕ) (slot : ℕ) (held : List (Option PagePlace)) → freeing (run ++ slot ∷ []) held ≡ set (freeing run held) slot None
freeing-more [] slot held = refl
freeing-more (t ∷ run) slot held = freeing-more run slot (set held t None)

pub length-freeing : (run : List ℕ) (held : List (Option PagePlace)) → length (freeing run held) ≡ length held
length-freeing [] held = refl
length-freeing (t ∷ run) held = length-freeing run (set held t None) ∙ length-set held t None

freeing-other : (run : List ℕ) (held : List (Option PagePlace)) (t : ℕ) → ((i : ℕ) → i < length run → get_or run i 0 ≢ t) → get_or (freeing run held) t None ≡ get_or held t None
freeing-other [] held t other = refl
freeing-other (slot ∷ run) held t other =
    freeing-other run (set held slot None) t (λ i low. other (suc i) (omega arith))
    ∙ get_or-set_other held slot t None None (λ same. other 0 (omega arith) (sym same))

freeing-free : (run : List ℕ) (held : List (Option PagePlace)) (t : ℕ) → t < length held → get_or held t None ≡ None → get_or (freeing run held) t None ≡ None
freeing-free [] held t low free = free
freeing-free (slot ∷ run) held t low free = freeing-free run (set held slot None) t (omega (arith, length-set held slot None)) (elim (cases_eq t slot) [
  | inl e ↦ ap (λ n. get_or (set held slot None) n None) e ∙ get_or-set_same held slot None None (subst (λ n. n < length held) e low)
  | inr n ↦ get_or-set_other held slot t None None n ∙ free
])

freeing-in : (run : List ℕ) (held : List (Option PagePlace)) (i t : ℕ) → i < length run → get_or run i 0 ≡ t → t < length held → get_or (freeing run held) t None ≡ None
freeing-in [] held i t low is within = absurd (omega arith)
freeing-in (slot ∷ run) held zero t low is within =
    freeing-free run (set held slot None) t (omega (arith, length-set held slot None))
    (ap (λ n. get_or (set held slot None) n None) (sym is) ∙ get_or-set_same held slot None None (subst (λ n. n < length held) (sym is) within))
freeing-in (slot ∷ run) held (suc i) t low is within = freeing-in run (set held slot None) i t (omega arith) is (omega (arith, length-set held slot None))

run-of_file : {count : ℕ} (file : List ℕ) (held : List (Option PagePlace)) (run : List ℕ) (r : IsRun count file 0 None held run) (i : ℕ) → i < length run
    → is_some (index_in file (get_or held (get_or run i 0) None)) ≡ true
run-of_file file held run r i within = sym (within-all file (get_or held (get_or run i 0) None)) ∙ r.within i within

module _ {count : ℕ} (file : List ℕ) (held : List (Option PagePlace)) (run : List ℕ) (r : IsRun count file 0 None held run) (slots : length held ≡ count) where
  pub freeing-all : freeing run held ≡ map (freed file) held
  freeing-all = ext_get_or None (freeing run held) (map (freed file) held) (length-freeing run held ∙ sym (length-map held (freed file)))
      (λ t low. by t (omega (arith, length-freeing run held)) (is_some (index_in file (get_or held t None))) refl ∙ sym (get_or-map (freed file) held t None))
    where
      by : (t : ℕ) → t < count → (b : Bool) → is_some (index_in file (get_or held t None)) ≡ b → get_or (freeing run held) t None ≡ (if b then None else get_or held t None)
      by t low true e = let it = r.every t low (within-all file (get_or held t None) ∙ e) in freeing-in run held it.0 t it.1 it.2 (omega arith)
      by t low false e = freeing-other run held t (λ i within same. absurd (let its = ap (λ n. is_some (index_in file (get_or held n None))) (sym same) ∙ run-of_file file held run r i within in cc))

-- all slots between the ends are freed
pub freed-run : {count : ℕ} (file : List ℕ) (held : List (Option PagePlace)) (sorted : List ℕ) (s : IsSorted count held sorted) (from to : ℕ) (ends : AreEnds file 0 None held sorted from to)
    → freeing (take (to - from) (drop from sorted)) held ≡ map (freed file) held
freed-run file held sorted s from to ends = freeing-all file held (take (to - from) (drop from sorted)) (is-run file 0 None tt held sorted s from to ends) s.slots

-- a list that was written through a slice of all of it
pub written-whole : {A : Type 0} (now old : List A) (len : ℕ) → length now ≡ length old → len ≡ length old → take len (now ++ drop (length now) old) ≡ now
written-whole now old len same whole =
    ap (λ l. take len (now ++ l)) (drop_all (length now) old (omega arith)) ∙ ap (take len) (append-nil now) ∙ take_all len now (omega arith)

module _ {V : Type 0} (count : ℕ) (file : List ℕ) (held : List (Option PagePlace)) (pages : List (List ℕ)) (run : List ℕ) where
  -- the first of the file's slots are at the end, and what is shown but for the file is as it was
  pub record Drops (before : List (ℕ × V)) (upto : ℕ) (order : List (ℕ × V)) : Type 0 where
    pub sound : IsSound count order (freeing (take upto run) held) pages
    pub left : without_file file (shown order (freeing (take upto run) held) pages) ≡ without_file file (shown before held pages)

  pub drops-start : (before : List (ℕ × V)) → IsSound count before held pages → Drops before 0 before
  drops-start before sound = record { sound = sound; left = refl }

  module _ (r : IsRun count file 0 None held run) (before order : List (ℕ × V)) (upto : ℕ) (within : upto < length run) (d : Drops before upto order) where
    abbrev slot : ℕ
    slot = get_or run upto 0

    abbrev now : List (Option PagePlace)
    now = freeing (take upto run) held

    more : freeing (take (upto + 1) run) held ≡ set now slot None
    more = ap (λ l. freeing l held) (take_more run upto 0 within) ∙ freeing-more (take upto run) slot held

    still : is_some (index_in file (get_or now slot None)) ≡ true
    still = ap (λ o. is_some (index_in file o)) (freeing-other (take upto run) held slot (λ i low same.
        let below : i < upto = omega (arith, length-take upto run) in
        r.apart i upto below within (sym (get_or-take upto run i 0 below) ∙ same))) ∙ run-of_file file held run r upto within

    pub drops-step : Drops before (upto + 1) (demoted (nat_eq slot) order)
    drops-step = record {
      sound = subst (λ h. IsSound count (demoted (nat_eq slot) order) h pages) (sym more) (sound-back count order now pages d.sound slot (r.low_slots upto within));
      left = ap (λ h. without_file file (shown (demoted (nat_eq slot) order) h pages)) more
          ∙ ap (without_file file) (shown-back count order now pages d.sound slot (r.low_slots upto within))
          ∙ others-rest now pages file slot order still ∙ d.left;
    }

  module _ (r : IsRun count file 0 None held run) (slots : length held ≡ count) (before order : List (ℕ × V)) (upto : ℕ) (all : length run ≤ upto) (d : Drops before upto order) where
    whole : freeing (take upto run) held ≡ map (freed file) held
    whole = ap (λ l. freeing l held) (take_all upto run all) ∙ freeing-all file held run r slots

    none-left : (o : Option PagePlace) → is_some (index_in file (freed file o)) ≡ false
    none-left o = by (is_some (index_in file o)) refl
      where
        by : (b : Bool) → is_some (index_in file o) ≡ b → is_some (index_in file (if b then None else o)) ≡ false
        by true e = refl
        by false e = e

    pub sound-dropped : IsSound count order (map (freed file) held) pages
    sound-dropped = subst (λ h. IsSound count order h pages) whole d.sound

    pub drops-end : shown order (map (freed file) held) pages ≡ without_file file (shown before held pages)
    drops-end =
        sym (others-all (map (freed file) held) pages count file order sound-dropped.apart (λ t low. ap (λ o. is_some (index_in file o)) (get_or-map (freed file) held t None) ∙ none-left (get_or held t None)))
        ∙ ap (λ h. without_file file (shown order h pages)) (sym whole) ∙ d.left
