-- How the steps of a round follow one another, and which pages an image has then.
use Rattle.std.proofs.Common.{◌≡◌, ◌<◌, ◌≤◌, inl, inr, ℕ, List, length, replicate, Option, Some, None, ◌∙◌, ap, subst, arith}
use Rattle.std.specs.Prelude.{Result, Ok, Err, Bool, true, false}
use Rattle.std.proofs.lemmas.List.{length-set}
use Rattle.std.proofs.lemmas.Option.{slice_get_within}
use Rattle.page_cache.specs.Pages.{Pages}
use Rattle.page_store.specs.Disk.{Every, LeavesOnly}
use Rattle.page_store.specs.Slots.{IsSound}
use Rattle.page_store.specs.Pages.{StoredPage}
use Rattle.page_store.specs.Rounds.{Round, IsFilled, IsUnderWay, KeepsAll, KeepsOrFills, ArePagesAfter, round_after, taken_in}
use Rattle.page_store.specs.Store.{StoreView}
use Rattle.page_store.specs.declared.fault.StoreFault.{StoreFault}
use Rattle.page_store.proofs.InMemory.{get-set, no-entry, none-filled, begun-long}
use Rattle.page_store.proofs.Moments.{started, weaker, then_on}
use Rattle.page_store.proofs.RoundLemmas.{keeps-all-itself}
use Rattle.kept_pages.specs.Kept.{IsKept, AreKept, KeepsOrKept, Fills}

pub sound-less : (n m : ℕ) (may_leave : List ℕ → Type 0) → m ≤ n → IsSound n may_leave → IsSound m may_leave
sound-less n m may_leave le s = record {
  long = λ c left. let all = s.long c left in omega (arith, all, le);
  same = λ k d c less there opens left. s.same k d c (omega (arith, less, le)) there opens left;
}

-- a page that the cache keeps was put into the round
pub kept-more : (c : Pages) (slot : ℕ) (page : StoredPage) (old new : Round) (result : Result Bool StoreFault) → IsKept c page → new ≡ round_after slot page result old → AreKept c old → AreKept c new
kept-more c slot page old new (Ok true) kept is all k p filled =
    elim (get-set old slot k (Some (Some page)) (Some (Some p)) (subst (λ (r : Round). IsFilled r k p) is filled)) [
      | inl e ↦ subst (λ (q : StoredPage). IsKept c q) (one p e.1) kept
      | inr e ↦ all k p e.1
    ]
  where
    one : (p : StoredPage) → Some (Some p) ≡ Some (Some page) → page ≡ p
    one p e = cc
kept-more c slot page old new (Ok false) kept is all k p filled = all k p (subst (λ (r : Round). IsFilled r k p) is filled)
kept-more c slot page old new (Err e) kept is all k p filled = absurd (let no_way : None ≡ Some (Some (Some p)) = subst (λ (r : Round). IsFilled r k p) is filled in cc)

pub round-short : (slot : ℕ) (page : StoredPage) (old new : Round) (result : Result Bool StoreFault) → new ≡ round_after slot page result old → length new ≤ length old
round-short slot page old new (Ok true) is = let same : length new ≡ length old = ap (λ (r : Round). length r) is ∙ length-set old slot (Some (Some page)) in omega (arith, same)
round-short slot page old new (Ok false) is = let same : length new ≡ length old = ap (λ (r : Round). length r) is in omega (arith, same)
round-short slot page old new (Err e) is = let none : length new ≡ 0 = ap (λ (r : Round). length r) is in omega (arith, none)

-- no page is in a round that has just begun
pub begun-kept : (c : Pages) (slots : List ℕ) (n : ℕ) (round : Round) → round ≡ taken_in slots (replicate n None) → AreKept c round
begun-kept c slots n round is k page filled =
    absurd (none-filled slots (replicate n None) (λ j p there. no-entry n j (Some p) there) k page (subst (λ (r : Round). IsFilled r k page) is filled))

pub begun-short : (slots : List ℕ) (n : ℕ) (round : Round) → round ≡ taken_in slots (replicate n None) → length round ≡ n
begun-short slots n round is = ap (λ (r : Round). length r) is ∙ begun-long slots n

pub ended-long : {T : Type 0} (round : Round) (result : Result T StoreFault) (old new : List (Option StoredPage)) → ArePagesAfter round result old new → length new ≡ length old
ended-long round (Ok x) old new after = after.all
ended-long round (Err e) old new after = ap (λ (ps : List (Option StoredPage)). length ps) after

pub keeps-then : (n : ℕ) (old mid : List ℕ → Type 0) → Every mid (KeepsAll n old) → (c : List ℕ) → KeepsAll n mid c → KeepsAll n old c
keeps-then n old mid each c keeps k page less has = let was = keeps k page less has in each was.0 was.1 k page less was.2

pub keeps-kept : (n slots : ℕ) (c : Pages) (old : List ℕ → Type 0) (image : List ℕ) → KeepsAll n old image → KeepsOrKept n slots c old image
keeps-kept n slots c old image keeps k page less has = inl (keeps k page less has)

pub filled-kept : (n slots : ℕ) (c : Pages) (round : Round) (old mid : List ℕ → Type 0) → length round ≤ slots → AreKept c round → Every mid (KeepsAll n old)
    → (image : List ℕ) → KeepsOrFills n round mid image → KeepsOrKept n slots c old image
filled-kept n slots c round old mid fits all each image keeps k page less has = elim (keeps k page less has) [
  | inl was ↦ inl (each was.0 was.1 k page less was.2)
  | inr filled ↦ inr (low filled, all k page filled)
]
  where
    low : IsFilled round k page → k < slots
    low filled = let within = slice_get_within round k (Some (Some page)) filled in omega (arith, within, fits)

module _ {D : Type 0} (seen : D → List ℕ) (may_leave : D → List ℕ → Type 0) (moment : D → ℕ) (left_since : D → ℕ → List ℕ → Type 0) (n : ℕ) where
  -- where nothing was done
  pub fills-itself : (old : StoreView D) → ((c : List ℕ) → left_since old.disk (moment old.disk) c → may_leave old.disk c) → IsSound n (may_leave old.disk)
      → IsUnderWay (seen old.disk) (may_leave old.disk) old.round → Fills seen may_leave moment left_since n old old
  fills-itself old only sound under_way = record {
    sound = sound;
    under_way = under_way;
    leaves = keeps-all-itself n (may_leave old.disk);
    moments = started moment left_since old.disk (KeepsAll n (may_leave old.disk)) (may_leave old.disk) only (keeps-all-itself n (may_leave old.disk));
    stands = λ s. s;
  }

  pub fills-then : (old mid new : StoreView D) → Fills seen may_leave moment left_since n old mid → Fills seen may_leave moment left_since n mid new
      → Fills seen may_leave moment left_since n old new
  fills-then old mid new first next = record {
    sound = next.sound;
    under_way = next.under_way;
    leaves = λ c left. keeps-then n (may_leave old.disk) (may_leave mid.disk) first.leaves c (next.leaves c left);
    moments = then_on moment left_since old.disk mid.disk new.disk (KeepsAll n (may_leave old.disk)) (KeepsAll n (may_leave mid.disk)) first.moments next.moments
        (keeps-then n (may_leave old.disk) (may_leave mid.disk) first.leaves);
    stands = λ s. next.stands (first.stands s);
  }

  -- an image of a time at which nothing was done
  pub kept-itself : (slots : ℕ) (c : Pages) (old : StoreView D) → ((i : List ℕ) → left_since old.disk (moment old.disk) i → may_leave old.disk i)
      → LeavesOnly moment left_since old.disk old.disk (KeepsOrKept n slots c (may_leave old.disk))
  kept-itself slots c old only =
      started moment left_since old.disk (KeepsOrKept n slots c (may_leave old.disk)) (may_leave old.disk) only
      (λ i left. keeps-kept n slots c (may_leave old.disk) i (keeps-all-itself n (may_leave old.disk) i left))

  -- while slots are filled
  pub kept-filling : (slots : ℕ) (c : Pages) (old new : StoreView D) → Fills seen may_leave moment left_since n old new
      → LeavesOnly moment left_since old.disk new.disk (KeepsOrKept n slots c (may_leave old.disk))
  kept-filling slots c old new f = weaker moment left_since old.disk new.disk (KeepsAll n (may_leave old.disk)) (KeepsOrKept n slots c (may_leave old.disk)) f.moments
      (keeps-kept n slots c (may_leave old.disk))

  -- and when the round is ended
  pub kept-ended : (slots : ℕ) (c : Pages) (old mid : StoreView D) (new : D) → Fills seen may_leave moment left_since n old mid → length mid.round ≤ slots → AreKept c mid.round
      → LeavesOnly moment left_since mid.disk new (KeepsOrFills n mid.round (may_leave mid.disk))
      → LeavesOnly moment left_since old.disk new (KeepsOrKept n slots c (may_leave old.disk))
  kept-ended slots c old mid new f fits all ended =
      then_on moment left_since old.disk mid.disk new (KeepsOrKept n slots c (may_leave old.disk)) (KeepsOrFills n mid.round (may_leave mid.disk))
      (kept-filling slots c old mid f) ended (filled-kept n slots c mid.round (may_leave old.disk) (may_leave mid.disk) fits all f.leaves)
