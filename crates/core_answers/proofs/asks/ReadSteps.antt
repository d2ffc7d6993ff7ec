-- A read, step by step: its bytes lie in the pages that meet its range, and so does what it asks for next.
use Rattle.core_answers.proofs.Prelude.{◌≡◌, ◌<◌, ◌≤◌, ◌+◌, ◌-◌, ◌/◌, ◌%◌, ◌==◌, ◌&&◌, ◌||◌, not, ℕ, zero, suc, Bool, true, false, List, length, Option, Some, None, Result, Ok, Err, refl, sym, ap, subst, ◌∙◌, arith, if◌then◌else◌, nat_lt, nat_tests, Attr, Pages, page_of, known_of, after_page, Pending, Fault, Reply, goes_again, fails_busy, Step, Repeat, Turn, Phase, Reading, Bytes, place_after, Said, part, refusal, got_by}
use Rattle.file_ops.specs.Base.{is_whole, with_more}
use Rattle.xdr_codec.specs.declared.blob.Memory as memory
use Rattle.file_ops.specs.declared.gather.Found.{Found}
use Rattle.file_ops.specs.declared.gather.Found.TheVariants as found
use Rattle.file_ops.specs.declared.reading.Phase.TheVariants as phases
use Rattle.file_ops.specs.Gather.{Gathered, is_past, found_of, base_with, taken, then_taken, gathered, next_page}
use Rattle.file_ops.specs.Reading as reading
use Rattle.core_answers.proofs.asks.ReadRanges.{InRange, count-some, count-most, more-in, more-left}

module _ (f : List ℕ) (offset count rsize : ℕ) (noac : Bool) (one : 1 ≤ rsize) where
  -- what its phase says: where it waits for bytes, they lie within what its pages lack
  abbrev pub PhaseAt : Phase → Bytes → Type 0
  PhaseAt phases.Attrs b = noac ≡ true
  PhaseAt phases.AskedAttrs b = noac ≡ true
  PhaseAt phases.Pages b = Unit {0}
  PhaseAt phases.Rest b = length b.bytes < b.limit
  PhaseAt (phases.Asked n) b = (1 ≤ n) × (n ≤ b.limit - length b.bytes) × (n ≤ rsize)
  PhaseAt phases.Ended b = Unit {0}

  pub record ReadAt (r : Reading) : Type 0 where
    pub file : r.file ≡ f
    pub size : r.rsize ≡ rsize
    pub base : InRange offset count r.base
    pub phase : PhaseAt r.phase r.base

  -- where it is to take pages, some are lacking
  pub record GoAt (s : reading.State) : Type 0 where
    pub at : ReadAt s.reading
    pub more : s.reading.phase ≡ phases.Pages → length s.reading.base.bytes < s.reading.base.limit

  -- ---- kept pages

  record GatheredAt (g : Gathered) : Type 0 where
    pub base : InRange offset count g.base
    pub wanted : g.found ≡ found.Wanted → length g.base.bytes < g.base.limit

  page-at : (o : Option (List ℕ)) (base : Bytes) (pages : Pages) → InRange offset count base → length base.bytes < base.limit
      → GatheredAt (record { found = found_of o; base = base_with o base; pages = pages })
  page-at None base pages k more = record { base = k; wanted = λ is. more }
  page-at (Some bytes) base pages k more = record { base = more-in offset count bytes base k; wanted = by (nat_lt (length bytes) 4096) }
    where
      by : (b : Bool) → (if b then found.Ended else found.Page) ≡ found.Wanted → length (with_more bytes base).bytes < (with_more bytes base).limit
      by true is = absurd (cc)
      by false is = absurd (cc)

  taken-at : (file : List ℕ) (base : Bytes) (pages : Pages) → InRange offset count base → GatheredAt (taken file base pages)
  taken-at file base pages k = by (is_whole base) (is_past (known_of file pages) (place_after base)) refl
    where
      left : is_whole base ≡ false → length base.bytes < base.limit
      left is = grind (arith, nat_tests)

      by : (a b : Bool) → is_whole base ≡ a
          → GatheredAt (if a || b then record { found = found.Ended; base = base; pages = pages } else record {
            found = found_of (page_of file (next_page base) pages);
            base = base_with (page_of file (next_page base) pages) base;
            pages = after_page file (next_page base) pages;
          })
      by true b is = record { base = k; wanted = λ no_way. absurd (cc) }
      by false true is = record { base = k; wanted = λ no_way. absurd (cc) }
      by false false is = page-at (page_of file (next_page base) pages) base (after_page file (next_page base) pages) k (left is)

  then-at : (file : List ℕ) (g : Gathered) (k : Found) → GatheredAt g → GatheredAt (then_taken file g k)
  then-at file g found.Page before = taken-at file g.base g.pages before.base
  then-at file g found.Ended before = before
  then-at file g found.Wanted before = before

  gathered-at : (file : List ℕ) (n : ℕ) (base : Bytes) (pages : Pages) → InRange offset count base → GatheredAt (gathered file n base pages)
  gathered-at file zero base pages k = record { base = k; wanted = λ no_way. absurd (cc) }
  gathered-at file (suc n) base pages k = then-at file (gathered file n base pages) (gathered file n base pages).found (gathered-at file n base pages k)

  -- ---- before a call

  found-phase : (k : Found) (b : Bytes) → PhaseAt (reading.phase_of k) b
  found-phase found.Page b = tt
  found-phase found.Ended b = tt
  found-phase found.Wanted b = tt

  found-wanted : (k : Found) → reading.phase_of k ≡ phases.Pages → k ≡ found.Wanted
  found-wanted found.Page is = absurd (cc)
  found-wanted found.Ended is = absurd (cc)
  found-wanted found.Wanted is = refl

  at-phase : (r : Reading) (p : Phase) → r.phase ≡ p → ReadAt r → PhaseAt p r.base
  at-phase r p is k = subst (λ (q : Phase). PhaseAt q r.base) is k.phase

  settled-in : (p : Phase) (r : Reading) (pages : Pages) → r.phase ≡ p → ReadAt r → GoAt (reading.settled_in p r pages)
  settled-in phases.Pages r pages is k =
      let to : Gathered = gathered r.file (r.base.limit / 4096 + 1) r.base pages in
      let g = gathered-at r.file (r.base.limit / 4096 + 1) r.base pages k.base in
      record {
        at = record { file = k.file; size = k.size; base = g.base; phase = found-phase to.found to.base };
        more = λ same. g.wanted (found-wanted to.found same);
      }
  settled-in phases.Attrs r pages is k = record { at = k; more = λ same. absurd (let no_way : phases.Attrs ≡ phases.Pages = sym is ∙ same in cc) }
  settled-in phases.AskedAttrs r pages is k = record { at = k; more = λ same. absurd (let no_way : phases.AskedAttrs ≡ phases.Pages = sym is ∙ same in cc) }
  settled-in phases.Rest r pages is k = record { at = k; more = λ same. absurd (let no_way : phases.Rest ≡ phases.Pages = sym is ∙ same in cc) }
  settled-in (phases.Asked n) r pages is k = record { at = k; more = λ same. absurd (let no_way : phases.Asked n ≡ phases.Pages = sym is ∙ same in cc) }
  settled-in phases.Ended r pages is k = record { at = k; more = λ same. absurd (let no_way : phases.Ended ≡ phases.Pages = sym is ∙ same in cc) }

  pub settled-at : (r : Reading) (pages : Pages) → ReadAt r → GoAt (reading.settled r pages)
  settled-at r pages k = settled-in r.phase r pages refl k

  -- ---- a call

  part-at : (s : reading.State) → ReadAt s.reading → length s.reading.base.bytes < s.reading.base.limit → ReadAt (reading.asked_part s).reading
  part-at s k more =
      let size = k.size in
      let most = count-most s.reading.file s.reading.rsize s.reading.base s.pages in
      record {
        file = k.file;
        size = k.size;
        base = k.base;
        phase = (count-some s.reading.file s.reading.rsize s.reading.base s.pages (omega (arith, size, one)) more, most.0, (let at = most.1 in omega (arith, at, size)));
      }

  asked-at : (p : Phase) (s : reading.State) → s.reading.phase ≡ p → reading.wants p ≡ true → GoAt s
      → ReadAt (if reading.asks_attrs p then record { reading = record s.reading { phase = phases.AskedAttrs }; pages = s.pages } else reading.asked_part s).reading
  asked-at phases.Attrs s is w g = record { file = g.at.file; size = g.at.size; base = g.at.base; phase = at-phase s.reading phases.Attrs is g.at }
  asked-at phases.Pages s is w g = part-at s g.at (g.more is)
  asked-at phases.Rest s is w g = part-at s g.at (at-phase s.reading phases.Rest is g.at)
  asked-at phases.AskedAttrs s is w g = absurd (cc)
  asked-at (phases.Asked n) s is w g = absurd (cc)
  asked-at phases.Ended s is w g = absurd (cc)

  answered-at : (p : Phase) (r : Reading) → ReadAt r → ReadAt (reading.answered p r)
  answered-at phases.Attrs r k = k
  answered-at phases.AskedAttrs r k = k
  answered-at phases.Pages r k = k
  answered-at phases.Rest r k = k
  answered-at (phases.Asked n) r k = k
  answered-at phases.Ended r k = record { file = k.file; size = k.size; base = k.base; phase = k.phase }

  and-right : (a b : Bool) → (a && b) ≡ true → b ≡ true
  and-right true b is = is
  and-right false b is = absurd (cc)

  pub gone-at : (room : Bool) (s : reading.State) → GoAt s → ReadAt (reading.gone room s).reading
  gone-at room s g = by (reading.asks room s) refl
    where
      by : (b : Bool) → reading.asks room s ≡ b → ReadAt (if b then reading.asked s else record { reading = reading.answered s.reading.phase s.reading; pages = s.pages }).reading
      by true is = asked-at s.reading.phase s refl (and-right room (reading.wants s.reading.phase) is) g
      by false is = answered-at s.reading.phase s.reading g.at

  -- ---- a reply

  then-phase : (n : ℕ) (eof : Bool) (bytes : List ℕ) (b : Bytes) → InRange offset count b → n ≤ b.limit - length b.bytes
      → PhaseAt (reading.phase_then n eof bytes (with_more bytes b)) (with_more bytes b)
  then-phase n true bytes b k most = tt
  then-phase n false bytes b k most = by (nat_lt (length bytes) n || not (place_after (with_more bytes b) % 4096 == 0)) refl
    where
      by : (left : Bool) → (nat_lt (length bytes) n || not (place_after (with_more bytes b) % 4096 == 0)) ≡ left → PhaseAt (if left then phases.Rest else phases.Pages) (with_more bytes b)
      by true is = more-left offset count n bytes b k most is
      by false is = tt

  added-at : (n : ℕ) (eof : Bool) (bytes : List ℕ) (r : Reading) → ReadAt r → n ≤ r.base.limit - length r.base.bytes → ReadAt (reading.added n eof bytes r)
  added-at n eof bytes r k most =
      record { file = k.file; size = k.size; base = more-in offset count bytes r.base k.base; phase = then-phase n eof bytes r.base k.base most }

  said-at : (n : ℕ) (sent turn : Turn) (said : Said) (r : Reading) (pages : Pages) → r.phase ≡ phases.Asked n → ReadAt r → ReadAt (reading.told sent turn said r pages).reading
  said-at n sent turn (part attr eof bytes) r pages is k =
      let asked : reading.count_of r.phase ≡ n = ap reading.count_of is in
      let most = (at-phase r (phases.Asked n) is k).1 in
      gone-at turn.room (reading.after_part (reading.count_of r.phase) sent.moment attr eof bytes r pages)
      (settled-at (reading.added (reading.count_of r.phase) eof bytes r) _ (added-at (reading.count_of r.phase) eof bytes r k (omega (arith, asked, most))))
  said-at n sent turn (refusal attr fault) r pages is k = k

  state-as : (to new : reading.State) → new ≡ to → ReadAt to.reading → ReadAt new.reading
  state-as to new is k = subst (λ (s : reading.State). ReadAt s.reading) (sym is) k

  heard-at : (p : Phase) (said : Option Said) (sent turn : Turn) (repeats : List Repeat) (r : Reading) (pages : Pages) (back : Pending) (next : Step) (new : reading.State) → r.phase ≡ p
      → ((s : Said) → said ≡ Some s → (n : ℕ) × (p ≡ phases.Asked n)) → ReadAt r → reading.TakesPart said sent turn repeats r pages back next new → ReadAt new.reading
  heard-at p None sent turn repeats r pages back next new is asked k t = state-as (record { reading = r; pages = pages }) new t.1 k
  heard-at p (Some said) sent turn repeats r pages back next new is asked k t =
      let n = asked said refl in state-as (reading.told sent turn said r pages) new t.1 (said-at n.0 sent turn said r pages (is ∙ n.1) k)

  opened-at : (result : Result (Unit {0}) memory.Memory) (turn : Turn) (r : Reading) (pages : Pages) (back : Pending) (next : Step) (new : reading.State) → ReadAt r
      → reading.AfterOpened result turn r pages back next new → ReadAt new.reading
  opened-at (Ok done) turn r pages back next new k a =
      state-as (reading.gone turn.room (reading.settled (record r { phase = phases.Pages }) pages)) new a.1
      (gone-at turn.room (reading.settled (record r { phase = phases.Pages }) pages)
      (settled-at (record r { phase = phases.Pages }) pages (record { file = k.file; size = k.size; base = k.base; phase = tt })))
  opened-at (Err no_memory) turn r pages back next new k a = state-as (record { reading = r; pages = pages }) new a.1 k

  attrs-at : (told : Result Attr Fault) (again : Bool) (sent turn : Turn) (r : Reading) (pages : Pages) (back : Pending) (next : Step) (new : reading.State) → ReadAt r
      → reading.TakesAttrs again told sent turn r pages back next new → ReadAt new.reading
  attrs-at (Ok attr) again sent turn r pages back next new k t = opened-at t.result turn r t.later back next new k t.goes
  attrs-at (Err fault) again sent turn r pages back next new k t = state-as (record { reading = r; pages = pages }) new t.1 k

  takes-in : (p : Phase) (sent turn : Turn) (came : Result Reply Fault) (repeats : List Repeat) (r : Reading) (pages : Pages) (back : Pending) (next : Step) (new : reading.State) → r.phase ≡ p
      → ReadAt r → reading.TakesIf (reading.waits_attrs p) sent turn came repeats r pages back next new → ReadAt new.reading
  takes-in phases.AskedAttrs sent turn came repeats r pages back next new is k t = attrs-at (got_by came) (goes_again (fails_busy (got_by came)) sent turn repeats) sent turn r pages back next new k t
  takes-in phases.Attrs sent turn came repeats r pages back next new is k t = heard-at phases.Attrs (reading.heard r.phase came) sent turn repeats r pages back next new is (nothing is) k t
    where
      nothing : r.phase ≡ phases.Attrs → (s : Said) → reading.heard r.phase came ≡ Some s → (n : ℕ) × (phases.Attrs ≡ phases.Asked n)
      nothing at s some = absurd (let no_way : None ≡ Some s = sym (ap (λ (q : Phase). reading.heard q came) at) ∙ some in cc)
  takes-in phases.Pages sent turn came repeats r pages back next new is k t = heard-at phases.Pages (reading.heard r.phase came) sent turn repeats r pages back next new is (nothing is) k t
    where
      nothing : r.phase ≡ phases.Pages → (s : Said) → reading.heard r.phase came ≡ Some s → (n : ℕ) × (phases.Pages ≡ phases.Asked n)
      nothing at s some = absurd (let no_way : None ≡ Some s = sym (ap (λ (q : Phase). reading.heard q came) at) ∙ some in cc)
  takes-in phases.Rest sent turn came repeats r pages back next new is k t = heard-at phases.Rest (reading.heard r.phase came) sent turn repeats r pages back next new is (nothing is) k t
    where
      nothing : r.phase ≡ phases.Rest → (s : Said) → reading.heard r.phase came ≡ Some s → (n : ℕ) × (phases.Rest ≡ phases.Asked n)
      nothing at s some = absurd (let no_way : None ≡ Some s = sym (ap (λ (q : Phase). reading.heard q came) at) ∙ some in cc)
  takes-in (phases.Asked n) sent turn came repeats r pages back next new is k t =
      heard-at (phases.Asked n) (reading.heard r.phase came) sent turn repeats r pages back next new is (λ s some. (n, refl)) k t
  takes-in phases.Ended sent turn came repeats r pages back next new is k t = heard-at phases.Ended (reading.heard r.phase came) sent turn repeats r pages back next new is (nothing is) k t
    where
      nothing : r.phase ≡ phases.Ended → (s : Said) → reading.heard r.phase came ≡ Some s → (n : ℕ) × (phases.Ended ≡ phases.Asked n)
      nothing at s some = absurd (let no_way : None ≡ Some s = sym (ap (λ (q : Phase). reading.heard q came) at) ∙ some in cc)

  pub takes-at : (sent turn : Turn) (came : Result Reply Fault) (repeats : List Repeat) (r : Reading) (pages : Pages) (back : Pending) (next : Step) (new : reading.State) → ReadAt r
      → reading.Takes sent turn came repeats r pages back next new → ReadAt new.reading
  takes-at sent turn came repeats r pages back next new k t = takes-in r.phase sent turn came repeats r pages back next new refl k t
