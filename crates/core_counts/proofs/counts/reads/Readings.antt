-- A read, step by step: how many READs it may still ask for, if each of those that it waits for is answered with all the bytes that it asks for.
use Rattle.core_counts.proofs.Prelude.{◌≡◌, ◌<◌, ◌≤◌, ◌⊎◌, inl, inr, ◌+◌, ◌-◌, ◌*◌, ◌/◌, ◌%◌, ◌==◌, ◌&&◌, ◌||◌, not, ℕ, zero, suc, Bool, true, false, List, length, take, Option, Some, None, refl, sym, ap, subst, ◌∙◌, arith, if◌then◌else◌, nat_lt, cases_lt, eqb-true, length-take, start_of, Pages, known_of, after_page, Pending, IsReadOf, Call, Step, Found, Phase, Reading, Bytes, place_after, with_more, next_page, PhaseAt, ReadAt}
use Rattle.std.proofs.Common.{is_some}
use Rattle.std.specs.Prelude.{nat_le}
use Rattle.std.proofs.lemmas.List.{length-append}
use Rattle.claims.specs.CallCounts.{read}
use Rattle.file_ops.specs.Base.{pages_size, is_whole}
use Rattle.file_ops.specs.Gather.{Gathered, Planned, is_past, found_of, base_with, taken, then_taken, gathered, stopped, planned, most_asked, next_plan, next_count}
use Rattle.core_answers.proofs.asks.ReadSteps.{GoAt}
use Rattle.std.specs.Int.{div_ceil}
use Rattle.page_cache.specs.Pages.{page_of as page_in}
use Rattle.claims.specs.Pages.{page_of, page_from, pages_met}
use Rattle.world_model.specs.declared.op.Op.TheVariants as ops
use Rattle.client_shelf.specs.declared.step.Step.TheVariants as nexts
use Rattle.file_ops.specs.declared.gather.Found.TheVariants as found
use Rattle.file_ops.specs.declared.reading.Phase.TheVariants as phases
use Rattle.file_ops.specs.Reading as reading
use Rattle.core_answers.proofs.asks.ReadRanges.{InRange, count-some}
use Rattle.core_counts.proofs.counts.reads.Needs.{needs, needs-mono, needs-page, needs-full}

-- how many bytes of its pages a read hasn't got
abbrev pub rest : Bytes → ℕ
rest b = b.limit - length b.bytes

-- ---- more bytes

record Grows (old new : Bytes) : Type 0 where
  limit : new.limit ≡ old.limit
  more : length old.bytes ≤ length new.bytes

grows-same : (b : Bytes) → Grows b b
grows-same b = record { limit = refl; more = omega arith }

grows-more : (bytes : List ℕ) (b : Bytes) → Grows b (with_more bytes b)
grows-more bytes b = record { limit = refl; more = let both = length-append b.bytes (take (b.limit - length b.bytes) bytes) in omega (arith, both) }

grows-page : (o : Option (List ℕ)) (b : Bytes) → Grows b (base_with o b)
grows-page None b = grows-same b
grows-page (Some bytes) b = grows-more bytes b

grows-then : (a b c : Bytes) → Grows a b → Grows b c → Grows a c
grows-then a b c one two = record { limit = two.limit ∙ one.limit; more = let x = one.more in let y = two.more in omega (arith, x, y) }

abbrev GrowsTo : Bytes → Gathered → Type 0
GrowsTo base g = Grows base g.base

taken-grows : (file : List ℕ) (base : Bytes) (pages : Pages) → Grows base (taken file base pages).base
taken-grows file base pages = by (is_whole base || is_past (known_of file pages) (place_after base))
  where
    by : (b : Bool) → GrowsTo base (if b then record { found = found.Ended; base = base; pages = pages } else record {
      found = found_of (page_in file (next_page base) pages);
      base = base_with (page_in file (next_page base) pages) base;
      pages = after_page file (next_page base) pages;
    })
    by true = grows-same base
    by false = grows-page (page_in file (next_page base) pages) base

then-grows : (file : List ℕ) (base : Bytes) (g : Gathered) (k : Found) → Grows base g.base → Grows base (then_taken file g k).base
then-grows file base g found.Page before = grows-then base g.base (taken file g.base g.pages).base before (taken-grows file g.base g.pages)
then-grows file base g found.Ended before = before
then-grows file base g found.Wanted before = before

gathered-grows : (file : List ℕ) (n : ℕ) (base : Bytes) (pages : Pages) → Grows base (gathered file n base pages).base
gathered-grows file zero base pages = grows-same base
gathered-grows file (suc n) base pages = then-grows file base (gathered file n base pages) (gathered file n base pages).found (gathered-grows file n base pages)

-- ---- where a READ ends

stopped-ends : (file : List ℕ) (index start : ℕ) (plan : Planned) → (plan.end ≡ start) ⊎ (plan.end % 4096 ≡ 0) → ((stopped file index plan).end ≡ start) ⊎ ((stopped file index plan).end % 4096 ≡ 0)
stopped-ends file index start plan before = by (nat_le plan.end (start_of index)) (is_some (page_in file index plan.pages))
  where
    Ends : ℕ → Type 0
    Ends n = (n ≡ start) ⊎ (n % 4096 ≡ 0)

    of : (b : Bool) → Ends (if b then start_of index else plan.end)
    of true = inr (omega arith)
    of false = before

    by : (a b : Bool) → Ends (if a then plan else record { end = if b then start_of index else plan.end; pages = after_page file index plan.pages }).end
    by true b = before
    by false b = of b

planned-ends : (file : List ℕ) (index n start : ℕ) (plan : Planned) → (plan.end ≡ start) ⊎ (plan.end % 4096 ≡ 0)
    → ((planned file index n plan).end ≡ start) ⊎ ((planned file index n plan).end % 4096 ≡ 0)
planned-ends file index zero start plan before = before
planned-ends file index (suc n) start plan before = stopped-ends file (index + n) start (planned file index n plan) (planned-ends file index n start plan before)

-- It asks for as many bytes as a READ may, or for those up to the start of a page.
count-stops : (file : List ℕ) (rsize : ℕ) (b : Bytes) (pages : Pages) → b.start % 4096 ≡ 0 → b.limit % 4096 ≡ 0 → length b.bytes ≤ b.limit → 1 ≤ next_count file rsize b pages
    → (next_count file rsize b pages ≡ rsize) ⊎ ((rest b - next_count file rsize b pages) % 4096 ≡ 0)
count-stops file rsize b pages start limit few some =
    by (planned-ends file (next_page b + 1) (b.limit / 4096) (place_after b + most_asked rsize b) (record { end = place_after b + most_asked rsize b; pages = pages }) (inl refl))
  where
    most-stops : (n : ℕ) → n ≡ most_asked rsize b → (n ≡ rsize) ⊎ ((rest b - n) % 4096 ≡ 0)
    most-stops n is = of (cases_lt (rest b) rsize)
      where
        of : (rest b < rsize) ⊎ (rsize ≤ rest b) → (n ≡ rsize) ⊎ ((rest b - n) % 4096 ≡ 0)
        of (inl lt) = inr (omega (arith, is, lt))
        of (inr ge) = inl (omega (arith, is, ge))

    by : ((next_plan file rsize b pages).end ≡ place_after b + most_asked rsize b) ⊎ ((next_plan file rsize b pages).end % 4096 ≡ 0)
        → (next_count file rsize b pages ≡ rsize) ⊎ ((rest b - next_count file rsize b pages) % 4096 ≡ 0)
    by (inl same) = most-stops (next_count file rsize b pages) (omega (arith, same))
    by (inr whole) = of (cases_lt ((next_plan file rsize b pages).end - place_after b) (most_asked rsize b))
      where
        of : ((next_plan file rsize b pages).end - place_after b < most_asked rsize b) ⊎ (most_asked rsize b ≤ (next_plan file rsize b pages).end - place_after b)
            → (next_count file rsize b pages ≡ rsize) ⊎ ((rest b - next_count file rsize b pages) % 4096 ≡ 0)
        of (inl lt) = inr (omega (arith, lt, whole, start, limit, few, some))
        of (inr ge) = most-stops (next_count file rsize b pages) (omega (arith, ge))

-- ---- a range

range-start : (offset count : ℕ) (b : Bytes) → InRange offset count b → b.start % 4096 ≡ 0
range-start offset count b k = let is = k.start in omega (arith, is)

size-is : (inner k : ℕ) → pages_size inner (suc k) ≡ div_ceil (inner + suc k) 4096 * 4096
size-is inner k = by (suc k == 0) refl
  where
    by : (b : Bool) → (suc k == 0) ≡ b → (if b then 0 else div_ceil (inner + suc k) 4096 * 4096) ≡ div_ceil (inner + suc k) 4096 * 4096
    by true is = let none : suc k ≡ 0 = eqb-true (suc k) 0 is in absurd (omega (arith, none))
    by false is = refl

limit-whole : (offset count : ℕ) → pages_size (offset % 4096) count % 4096 ≡ 0
limit-whole offset zero = refl
limit-whole offset (suc k) = let size = size-is (offset % 4096) k in omega (arith, size)

range-limit : (offset count : ℕ) (b : Bytes) → InRange offset count b → b.limit % 4096 ≡ 0
range-limit offset count b k = ap (λ (n : ℕ). n % 4096) k.limit ∙ limit-whole offset count

-- as many pages as meet the range
pub pages-are : (slot offset count : ℕ) → pages_size (offset % 4096) count ≡ pages_met (ops.Read slot offset count) * 4096
pages-are slot offset zero = refl
pages-are slot offset (suc k) = size-is (offset % 4096) k ∙ by (suc k == 0) refl
  where
    by : (b : Bool) → (suc k == 0) ≡ b → div_ceil (offset % 4096 + suc k) 4096 * 4096 ≡ (if b then 0 else page_from (offset + suc k) - page_of offset) * 4096
    by true is = let none : suc k ≡ 0 = eqb-true (suc k) 0 is in absurd (omega (arith, none))
    by false is = omega arith

-- ---- how many READs may come

abbrev pub more : Phase → ℕ → ℕ
more phases.Attrs n = n
more phases.AskedAttrs n = n
more phases.Pages n = n
more phases.Rest n = n
more (phases.Asked count) n = n - 1
more phases.Ended n = 0

-- the READ that it waits for is of the whole size, or ends where a page does
abbrev pub StopsIn : ℕ → Phase → ℕ → Type 0
StopsIn rsize phases.Attrs left = Unit {0}
StopsIn rsize phases.AskedAttrs left = Unit {0}
StopsIn rsize phases.Pages left = Unit {0}
StopsIn rsize phases.Rest left = Unit {0}
StopsIn rsize (phases.Asked count) left = (count ≡ rsize) ⊎ ((left - count) % 4096 ≡ 0)
StopsIn rsize phases.Ended left = Unit {0}

more-most : (p : Phase) (n : ℕ) → more p n ≤ n
more-most phases.Attrs n = omega arith
more-most phases.AskedAttrs n = omega arith
more-most phases.Pages n = omega arith
more-most phases.Rest n = omega arith
more-most (phases.Asked count) n = omega arith
more-most phases.Ended n = omega arith

module _ (g : List ℕ) (offset count rsize : ℕ) (noac : Bool) (one : 1 ≤ rsize) where
  abbrev At : Reading → Type 0
  At r = ReadAt g offset count rsize noac one r

  abbrev CanGo : reading.State → Type 0
  CanGo s = GoAt g offset count rsize noac one s

  abbrev pub level : Reading → ℕ
  level r = more r.phase (needs rsize (rest r.base))

  abbrev pub Stops : Reading → Type 0
  Stops r = StopsIn rsize r.phase (rest r.base)

  needs-grows : (old new : Bytes) → Grows old new → needs rsize (rest new) ≤ needs rsize (rest old)
  needs-grows old new k = needs-mono rsize (rest new) (rest old) one (let limit = k.limit in let len = k.more in omega (arith, limit, len))

  needs-some : (n : ℕ) → 1 ≤ n → 1 ≤ needs rsize n
  needs-some n some = let step = needs-page rsize 0 n one refl some in omega (arith, step)

  -- ---- it takes pages that are kept

  pub record Settles (before : ℕ) (s : reading.State) : Type 0 where
    pub less : level s.reading ≤ before
    pub stops : Stops s.reading

  found-more : (k : Found) (n : ℕ) → more (reading.phase_of k) n ≤ n
  found-more k n = more-most (reading.phase_of k) n

  found-stops : (k : Found) (n : ℕ) → StopsIn rsize (reading.phase_of k) n
  found-stops found.Page n = tt
  found-stops found.Ended n = tt
  found-stops found.Wanted n = tt

  settled-in : (p : Phase) (r : Reading) (pages : Pages) → r.phase ≡ p → Stops r → Settles (more p (needs rsize (rest r.base))) (reading.settled_in p r pages)
  settled-in phases.Pages r pages is k =
      let to : Gathered = gathered r.file (r.base.limit / 4096 + 1) r.base pages in
      let most = found-more to.found (needs rsize (rest to.base)) in
      let grows = needs-grows r.base to.base (gathered-grows r.file (r.base.limit / 4096 + 1) r.base pages) in
      record { less = omega (arith, most, grows); stops = found-stops to.found (rest to.base) }
  settled-in phases.Attrs r pages is k = record { less = let same = ap (λ (q : Phase). more q (needs rsize (rest r.base))) is in omega (arith, same); stops = k }
  settled-in phases.AskedAttrs r pages is k = record { less = let same = ap (λ (q : Phase). more q (needs rsize (rest r.base))) is in omega (arith, same); stops = k }
  settled-in phases.Rest r pages is k = record { less = let same = ap (λ (q : Phase). more q (needs rsize (rest r.base))) is in omega (arith, same); stops = k }
  settled-in (phases.Asked n) r pages is k = record { less = let same = ap (λ (q : Phase). more q (needs rsize (rest r.base))) is in omega (arith, same); stops = k }
  settled-in phases.Ended r pages is k = record { less = let same = ap (λ (q : Phase). more q (needs rsize (rest r.base))) is in omega (arith, same); stops = k }

  pub settles : (r : Reading) (pages : Pages) → Stops r → Settles (level r) (reading.settled r pages)
  settles r pages k = settled-in r.phase r pages refl k

  -- ---- a call

  -- after a step: what is left of what was, and of a READ one less
  pub record Spent (had : ℕ) (next : Step) (new : Reading) : Type 0 where
    pub less : level new ≤ had
    pub stops : Stops new
    pub mine : (f : List ℕ) (call : Call) → next ≡ nexts.Send call → IsReadOf f call → g ≡ f
    pub asks : (f : List ℕ) (call : Call) → next ≡ nexts.Send call → IsReadOf f call → level new + 1 ≤ had

  record Asked (had : ℕ) (call : Call) (new : Reading) : Type 0 where
    less : level new ≤ had
    stops : Stops new
    mine : (f : List ℕ) → IsReadOf f call → g ≡ f
    asks : (f : List ℕ) → IsReadOf f call → level new + 1 ≤ had

  part-asked : (s : reading.State) → At s.reading → length s.reading.base.bytes < s.reading.base.limit
      → Asked (needs rsize (rest s.reading.base)) (reading.read_call s) (reading.asked_part s).reading
  part-asked s k lacks = record {
    less = omega (arith, some);
    stops = by (count-stops s.reading.file s.reading.rsize s.reading.base s.pages (range-start offset count s.reading.base k.base) (range-limit offset count s.reading.base k.base) (let few = k.base.few in few)
        (count-some s.reading.file s.reading.rsize s.reading.base s.pages (let size = k.size in omega (arith, size, one)) lacks));
    mine = λ f is. sym k.file ∙ same-file f is;
    asks = λ f is. omega (arith, some);
  }
    where
      same-file : (f : List ℕ) → IsReadOf f (reading.read_call s) → s.reading.file ≡ f
      same-file f (read at size is) = cc

      some : 1 ≤ needs rsize (rest s.reading.base)
      some = needs-some (rest s.reading.base) (omega (arith, lacks))

      by : (next_count s.reading.file s.reading.rsize s.reading.base s.pages ≡ s.reading.rsize)
          ⊎ ((rest s.reading.base - next_count s.reading.file s.reading.rsize s.reading.base s.pages) % 4096 ≡ 0)
          → (next_count s.reading.file s.reading.rsize s.reading.base s.pages ≡ rsize)
          ⊎ ((rest s.reading.base - next_count s.reading.file s.reading.rsize s.reading.base s.pages) % 4096 ≡ 0)
      by (inl whole) = inl (whole ∙ k.size)
      by (inr page) = inr page

  attrs-asked : (s : reading.State) → Asked (needs rsize (rest s.reading.base)) (reading.attrs_call s.reading.file) (record s.reading { phase = phases.AskedAttrs })
  attrs-asked s = record { less = omega arith; stops = tt; mine = λ f is. absurd (not-read f is); asks = λ f is. absurd (not-read f is) }
    where
      not-read : (f : List ℕ) → IsReadOf f (reading.attrs_call s.reading.file) → ⊥
      not-read f (read at size is) = absurd (cc)

  asked-in : (p : Phase) (s : reading.State) → s.reading.phase ≡ p → reading.wants p ≡ true → CanGo s
      → Asked (more p (needs rsize (rest s.reading.base))) (if reading.asks_attrs p then reading.attrs_call s.reading.file else reading.read_call s)
      (if reading.asks_attrs p then record { reading = record s.reading { phase = phases.AskedAttrs }; pages = s.pages } else reading.asked_part s).reading
  asked-in phases.Attrs s is w k = attrs-asked s
  asked-in phases.Pages s is w k = part-asked s k.at (k.more is)
  asked-in phases.Rest s is w k = part-asked s k.at (subst (λ (q : Phase). PhaseAt g offset count rsize noac one q s.reading.base) is k.at.phase)
  asked-in phases.AskedAttrs s is w k = absurd (cc)
  asked-in (phases.Asked n) s is w k = absurd (cc)
  asked-in phases.Ended s is w k = absurd (cc)

  -- ---- none

  stays-none : (p : Phase) (r : Reading) (back : Pending) (next : Step) (call : Call) → reading.Stays p r back next → next ≡ nexts.Send call → ⊥
  stays-none phases.Attrs r back next call s is = absurd (let no_way : nexts.Wait ≡ nexts.Send call = sym s ∙ is in cc)
  stays-none phases.AskedAttrs r back next call s is = absurd (let no_way : nexts.Wait ≡ nexts.Send call = sym s ∙ is in cc)
  stays-none phases.Pages r back next call s is = absurd (let no_way : nexts.Wait ≡ nexts.Send call = sym s ∙ is in cc)
  stays-none phases.Rest r back next call s is = absurd (let no_way : nexts.Wait ≡ nexts.Send call = sym s ∙ is in cc)
  stays-none (phases.Asked n) r back next call s is = absurd (let no_way : nexts.Wait ≡ nexts.Send call = sym s ∙ is in cc)
  stays-none phases.Ended r back next call s is = absurd (let no_way : reading.shown_next (reading.answer_of r back) ≡ nexts.Send call = sym s ∙ is in cc)

  answered-same : (p : Phase) (r : Reading) → Stops r → (level (reading.answered p r) ≤ level r) × Stops (reading.answered p r)
  answered-same phases.Attrs r k = (omega arith, k)
  answered-same phases.AskedAttrs r k = (omega arith, k)
  answered-same phases.Pages r k = (omega arith, k)
  answered-same phases.Rest r k = (omega arith, k)
  answered-same (phases.Asked n) r k = (omega arith, k)
  answered-same phases.Ended r k = (omega arith, k)

  and-right : (a b : Bool) → (a && b) ≡ true → b ≡ true
  and-right true b is = is
  and-right false b is = absurd (cc)

  same-call : (a b : Call) → nexts.Send a ≡ nexts.Send b → a ≡ b
  same-call a b e = cc

  pub goes-spent : (room : Bool) (back : Pending) (s : reading.State) (next : Step) → CanGo s → Stops s.reading → reading.Goes room back s next → Spent (level s.reading) next (reading.gone room s).reading
  goes-spent room back s next k stops goes = by (reading.asks room s) refl goes
    where
      by : (b : Bool) → reading.asks room s ≡ b → reading.GoesIf b back s next
          → Spent (level s.reading) next (if b then reading.asked s else record { reading = reading.answered s.reading.phase s.reading; pages = s.pages }).reading
      by true is next_is =
          let a = asked-in s.reading.phase s refl (and-right room (reading.wants s.reading.phase) is) k in
          record {
            less = a.less;
            stops = a.stops;
            mine = λ f call sends reads. a.mine f (subst (IsReadOf f) (same-call call (reading.asked_call s) (sym sends ∙ next_is)) reads);
            asks = λ f call sends reads. a.asks f (subst (IsReadOf f) (same-call call (reading.asked_call s) (sym sends ∙ next_is)) reads);
          }
      by false is rests =
          let same = answered-same s.reading.phase s.reading stops in
          record { less = same.0; stops = same.1; mine = λ f call sends reads. absurd (stays-none s.reading.phase s.reading back next call rests sends); asks = λ f call sends reads. absurd (stays-none s.reading.phase s.reading back next call rests sends) }

  -- ---- a reply

  then-more : (n : ℕ) (eof : Bool) (bytes : List ℕ) (b : Bytes) → StopsIn rsize (reading.phase_then n eof bytes b) (rest b) × ((m : ℕ) → more (reading.phase_then n eof bytes b) m ≤ (if eof then 0 else m))
  then-more n true bytes b = (tt, λ m. omega arith)
  then-more n false bytes b = by (nat_lt (length bytes) n || not (place_after b % 4096 == 0))
    where
      by : (left : Bool) → StopsIn rsize (if left then phases.Rest else phases.Pages) (rest b) × ((m : ℕ) → more (if left then phases.Rest else phases.Pages) m ≤ m)
      by true = (tt, λ m. omega arith)
      by false = (tt, λ m. omega arith)

  -- it goes on with a part that has some of the bytes that it asked for
  abbrev pub IsShort : ℕ → Bool → List ℕ → Type 0
  IsShort n eof bytes = (eof ≡ false) × (length bytes < n)

  full-needs : (n : ℕ) (bytes : List ℕ) (b : Bytes) → 1 ≤ n → n ≤ rest b → n ≤ length bytes → StopsIn rsize (phases.Asked n) (rest b) → needs rsize (rest (with_more bytes b)) + 1 ≤ needs rsize (rest b)
  full-needs n bytes b some most all stops = of stops
    where
      len : rest (with_more bytes b) ≤ rest b - n
      len =
          let both = length-append b.bytes (take (b.limit - length b.bytes) bytes) in
          let piece = length-take (b.limit - length b.bytes) bytes in
          omega (arith, both, piece, all, most)

      less : needs rsize (rest (with_more bytes b)) ≤ needs rsize (rest b - n)
      less = needs-mono rsize (rest (with_more bytes b)) (rest b - n) one len

      of : (n ≡ rsize) ⊎ ((rest b - n) % 4096 ≡ 0) → needs rsize (rest (with_more bytes b)) + 1 ≤ needs rsize (rest b)
      of (inl whole) =
          let step = needs-full rsize (rest b) one (omega (arith, whole, most)) in
          let same = ap (λ (k : ℕ). needs rsize (rest b - k)) whole in
          let l = less in
          omega (arith, step, same, l)
      of (inr page) =
          let step = needs-page rsize (rest b - n) (rest b) one page (omega (arith, some, most)) in
          let l = less in
          omega (arith, step, l)

  -- the read with a part: one READ more may come where the part is short
  pub record Added (r new : Reading) (n : ℕ) (eof : Bool) (bytes : List ℕ) : Type 0 where
    pub stops : Stops new
    pub most : level new ≤ level r + 1
    pub full : (IsShort n eof bytes → ⊥) → level new ≤ level r

  pub added-level : (n : ℕ) (eof : Bool) (bytes : List ℕ) (r : Reading) → r.phase ≡ phases.Asked n → At r → Stops r → Added r (reading.added n eof bytes r) n eof bytes
  added-level n eof bytes r is k stops = record {
    stops = (then-more n eof bytes (with_more bytes r.base)).0;
    most = by eof refl (omega arith);
    full = λ no_short. whole eof refl no_short;
  }
    where
      at : PhaseAt g offset count rsize noac one (phases.Asked n) r.base
      at = subst (λ (q : Phase). PhaseAt g offset count rsize noac one q r.base) is k.phase

      was : level r ≡ needs rsize (rest r.base) - 1
      was = ap (λ (q : Phase). more q (needs rsize (rest r.base))) is

      some : 1 ≤ needs rsize (rest r.base)
      some = needs-some (rest r.base) (let a = at.0 in let b = at.1 in omega (arith, a, b))

      to : Bool → Reading
      to e = reading.added n e bytes r

      by : (e : Bool) → eof ≡ e → 0 ≤ 1 → level (to e) ≤ level r + 1
      by true same any =
          let l = (then-more n true bytes (with_more bytes r.base)).1 (needs rsize (rest (with_more bytes r.base))) in
          omega (arith, l)
      by false same any =
          let l = (then-more n false bytes (with_more bytes r.base)).1 (needs rsize (rest (with_more bytes r.base))) in
          let grows = needs-grows r.base (with_more bytes r.base) (grows-more bytes r.base) in
          let w = was in
          let s = some in
          omega (arith, l, grows, w, s)

      whole : (e : Bool) → eof ≡ e → (IsShort n eof bytes → ⊥) → level (to e) ≤ level r
      whole true same no_short =
          let l = (then-more n true bytes (with_more bytes r.base)).1 (needs rsize (rest (with_more bytes r.base))) in
          omega (arith, l)
      whole false same no_short = of (cases_lt (length bytes) n)
        where
          of : (length bytes < n) ⊎ (n ≤ length bytes) → level (to false) ≤ level r
          of (inl short) = absurd (no_short (same, short))
          of (inr all) =
              let l = (then-more n false bytes (with_more bytes r.base)).1 (needs rsize (rest (with_more bytes r.base))) in
              let step = full-needs n bytes r.base at.0 at.1 all (subst (λ (q : Phase). StopsIn rsize q (rest r.base)) is stops) in
              let w = was in
              omega (arith, l, step, w)
