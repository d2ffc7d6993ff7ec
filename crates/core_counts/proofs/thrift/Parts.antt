-- How many bytes a READ asks for, and why no more.
use Rattle.core_counts.proofs.Prelude.{◌≡◌, ◌≤◌, ◌+◌, ◌-◌, ◌/◌, inl, inr, ℕ, zero, suc, Bool, true, false, nat_le, List, length, Option, Some, None, refl, arith, if◌then◌else◌, cases_lt, nat_tests, start_of, Pages, page_of, is_place, after_page, Entry, Sent, At, SpellsCall, read_call, MeetsPage, Phase, Reading, Bytes, place_after, next_page}
use Rattle.std.proofs.Common.{is_some}
use Rattle.file_ops.specs.Gather.{Planned, stopped, planned, most_asked, next_plan, next_count}
use Rattle.page_cache.proofs.Entries.{All-page, All-promoted}
use Rattle.file_ops.specs.declared.reading.Phase.TheVariants as phases
use Rattle.core_counts.proofs.thrift.PageNames.{Of, AllOf}

-- A READ of the file that was sent met the page.
pub record WasMet (h : List Entry) (file : List ℕ) (index : ℕ) : Type 0 where
  pub at : ℕ
  pub xid : ℕ
  pub bytes : List ℕ
  pub offset : ℕ
  pub count : ℕ
  pub sent : At h at (Sent bytes)
  pub spells : SpellsCall xid (read_call file offset count) bytes
  pub met : MeetsPage offset count index

abbrev pub AllMet : List Entry → Pages → Type 0
AllMet h c = AllOf (WasMet h) c

module _ (h : List Entry) where
  -- as many bytes as a READ may ask for; or as many as the pages lack; or those before a page that was met
  pub data IsPart (file : List ℕ) (rsize : ℕ) (base : Bytes) (n : ℕ) : Type 0 where
    whole : n ≡ rsize → IsPart file rsize base n
    ends : n ≡ base.limit - length base.bytes → IsPart file rsize base n
    met : (index : ℕ) → n ≡ start_of index - place_after base → WasMet h file index → IsPart file rsize base n

  abbrev pub PhaseLong : Phase → Reading → Type 0
  PhaseLong phases.Attrs r = Unit {0}
  PhaseLong phases.AskedAttrs r = Unit {0}
  PhaseLong phases.Pages r = Unit {0}
  PhaseLong phases.Rest r = Unit {0}
  PhaseLong (phases.Asked n) r = IsPart r.file r.rsize r.base n
  PhaseLong phases.Ended r = Unit {0}

  abbrev pub IsLongNow : Reading → Type 0
  IsLongNow r = PhaseLong r.phase r

  -- ---- where a READ stops

  data Stops (file : List ℕ) (first end : ℕ) : Type 0 where
    free : end ≡ first → Stops file first end
    at_page : (index : ℕ) → end ≡ start_of index → end ≤ first → WasMet h file index → Stops file first end

  stops-most : (file : List ℕ) (first end : ℕ) → Stops file first end → end ≤ first
  stops-most file first end (free is) = omega (arith, is)
  stops-most file first end (at_page index is most was) = most

  module _ (file : List ℕ) (first : ℕ) where
    record IsPlanned (plan : Planned) : Type 0 where
      pub all : AllMet h plan.pages
      pub stops : Stops file first plan.end

    shown-all : (index : ℕ) (c : Pages) → AllMet h c → AllMet h (after_page file index c)
    shown-all index c all = All-promoted (Of (WasMet h)) (is_place file index) c.pages all

    kept-stops : (index : ℕ) (plan : Planned) → IsPlanned plan → start_of index ≤ plan.end → (o : Option (List ℕ)) → page_of file index plan.pages ≡ o
        → Stops file first (if is_some o then start_of index else plan.end)
    kept-stops index plan k low None is = k.stops
    kept-stops index plan k low (Some bytes) is =
        let most = stops-most file first plan.end k.stops in
        at_page index refl (omega (arith, low, most)) (All-page (Of (WasMet h)) file index plan.pages.pages bytes k.all is)

    stopped-so : (index : ℕ) (plan : Planned) → IsPlanned plan → IsPlanned (stopped file index plan)
    stopped-so index plan k = by (nat_le plan.end (start_of index)) refl
      where
        by : (b : Bool) → nat_le plan.end (start_of index) ≡ b
            → IsPlanned (if b then plan else record { end = if is_some (page_of file index plan.pages) then start_of index else plan.end; pages = after_page file index plan.pages })
        by true is = k
        by false is = record {
          all = shown-all index plan.pages k.all;
          stops = kept-stops index plan k (grind (arith, nat_tests)) (page_of file index plan.pages) refl;
        }

    planned-so : (index n : ℕ) (plan : Planned) → IsPlanned plan → IsPlanned (planned file index n plan)
    planned-so index zero plan k = k
    planned-so index (suc n) plan k = stopped-so (index + n) (planned file index n plan) (planned-so index n plan k)

  -- the READ that a read asks for next
  pub next-part : (r : Reading) (c : Pages) → AllMet h c → IsPart r.file r.rsize r.base (next_count r.file r.rsize r.base c)
  next-part r c all = by (planned-so r.file (place_after r.base + most_asked r.rsize r.base) (next_page r.base + 1) (r.base.limit / 4096)
      (record { end = place_after r.base + most_asked r.rsize r.base; pages = c }) (record { all = all; stops = free refl })).stops
    where
      by : Stops r.file (place_after r.base + most_asked r.rsize r.base) (next_plan r.file r.rsize r.base c).end
          → IsPart r.file r.rsize r.base (next_count r.file r.rsize r.base c)
      by (free is) = elim (cases_lt (r.base.limit - length r.base.bytes) r.rsize) [
        | inl less ↦ ends (omega (arith, is, less))
        | inr more ↦ whole (omega (arith, is, more))
      ]
      by (at_page index is most was) = met index (omega (arith, is, most)) was
