-- All slots, each free.
use Rattle.std.proofs.Common.{◌≡◌, ◌<◌, ◌≤◌, ℕ, ◌+◌, ◌-◌, false, nat_eq, inl, inr, List, [], ◌∷◌, length, replicate, Option, None, refl, sym, arith}
use Rattle.std.proofs.lemmas.List.{take_all, get_or-replicate, length-replicate}
use Rattle.std.proofs.lemmas.Bool.{cases_eq}
use Rattle.std.proofs.lemmas.Bool.Decides.{nat_tests}
use Rattle.std.specs.Map.{lookup_entry}
use Rattle.lru.specs.LruCache.{LruCache, put_entries}
use Rattle.page_cache.specs.declared.place.PagePlace.{PagePlace}
use Rattle.page_cache.specs.Slots.{shown, Lacks, AreApart, AreAll, AreFree, IsSound}
use Rattle.page_cache.proofs.Orders.{free-last}
use Rattle.page_cache.proofs.Shown.{shown-free}

module _ {V : Type 0} where
  pub none-yet : AreAll {V = V} 0 []
  none-yet = record { apart = tt; every = λ s low. absurd (omega arith); all = refl }

  apart-none : (k : ℕ) (order : List (ℕ × V)) → AreApart k order → lookup_entry (nat_eq k) order ≡ None
  apart-none k [] a = refl
  apart-none k (f ∷ order) a = let t : nat_eq k f.0 ≡ false = (let low = a.0 in grind (arith, nat_tests)) in rw t (apart-none k order a.2)

  apart-lacks : (k : ℕ) (order : List (ℕ × V)) → AreApart k order → Lacks k order
  apart-lacks k [] a = tt
  apart-lacks k (f ∷ order) a = ((λ same. let low = a.0 in absurd (omega arith)), apart-lacks k order a.2)

  apart-more : (k : ℕ) (order : List (ℕ × V)) → AreApart k order → AreApart (k + 1) order
  apart-more k [] a = tt
  apart-more k (f ∷ order) a = ((let low = a.0 in omega arith), a.1, apart-more k order a.2)

  -- one more slot
  pub one-more : {most : ℕ} (k : ℕ) (c : LruCache ℕ V) (v : V) → c.cap ≡ most → k < most → AreAll k c.entries → AreAll (k + 1) (put_entries nat_eq c k v)
  one-more k c v cap low a =
      let room : length c.entries ≤ c.cap - 1 = omega (arith, a.all) in
      rw (apart-none k c.entries a.apart, take_all (c.cap - 1) c.entries room) (record {
        apart = ((omega arith), apart-lacks k c.entries a.apart, apart-more k c.entries a.apart);
        every = λ t within l. elim (cases_eq t k) [
          | inl e ↦ l.0 (sym e)
          | inr n ↦ a.every t (omega arith) l.1
        ];
        all = omega (arith, a.all);
      })

  free-none : (count : ℕ) (order : List (ℕ × V)) → AreApart count order → AreFree order (replicate count None)
  free-none count [] a = tt
  free-none count (f ∷ order) a = (get_or-replicate count f.0 None None a.0, free-none count order a.2)

  -- where all are free no page is shown
  pub sound-free : (count : ℕ) (order : List (ℕ × V)) (pages : List (List ℕ)) → AreAll count order → length pages ≡ count → IsSound count order (replicate count None) pages
  sound-free count order pages a whole = record {
    apart = a.apart;
    every = a.every;
    all = a.all;
    holders = length-replicate count None;
    bytes = whole;
    once = λ s t p ls lt hs ht. absurd (let none = get_or-replicate {A = Option PagePlace} count s None None ls in cc);
    free_last = free-last order (replicate count None) (free-none count order a.apart);
  }

  pub nothing-shown : (count : ℕ) (order : List (ℕ × V)) (pages : List (List ℕ)) → AreAll count order → shown order (replicate count None) pages ≡ []
  nothing-shown count order pages a = shown-free (replicate count None) pages order (free-none count order a.apart)
