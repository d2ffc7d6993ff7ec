-- A read, step by step: the READ that it asks for meets no page that is kept.
use Rattle.core_counts.proofs.Prelude.{◌≡◌, ◌<◌, ◌≤◌, ◌+◌, ◌-◌, ◌/◌, ◌%◌, ◌&&◌, ◌||◌, ◌==◌, inl, inr, not, ℕ, zero, suc, Bool, true, false, nat_eq, List, length, take, Option, Some, None, Result, Ok, Err, refl, sym, ap, subst, ◌∙◌, arith, if◌then◌else◌, nat_tests, length-take, All-weaker, Attr, Mode, FileKept, Opened, Pages, page_of, known_of, after_page, Pending, Fault, Reply, MeetsPage, Step, Repeat, Turn, Found, ReadFile, Phase, Reading, Bytes, place_after, with_more, next_page, part, refusal, said_to, said_by, breaks_rule, got_by}
use Rattle.std.proofs.Common.{nat_lt}
use Rattle.std.proofs.lemmas.List.{length-append}
use Rattle.file_ops.specs.Base.{is_whole}
use Rattle.file_ops.specs.Gather.{Gathered, is_past, found_of, base_with, taken, then_taken, gathered}
use Rattle.xdr_codec.specs.declared.blob.Memory as memory
use Rattle.nfs_types.specs.declared.mode.Mode.TheVariants as modes
use Rattle.nfs_file_calls.specs.declared.owned.FileKept.TheVariants as kept
use Rattle.world_model.specs.declared.answer.Fault.TheVariants as faults
use Rattle.world_model.specs.declared.message.Reply.TheVariants as replies
use Rattle.file_ops.specs.declared.gather.Found.TheVariants as found
use Rattle.file_ops.specs.declared.reading.Phase.TheVariants as phases
use Rattle.file_ops.specs.PagesOpened.{PagesOpened}
use Rattle.file_ops.specs.ReadFile as reads
use Rattle.file_ops.specs.Reading as reading
use Rattle.core_counts.proofs.thrift.PageNames.{Of, AllOf, noted-all}
use Rattle.core_counts.proofs.thrift.PartSteps.{few-bytes}
use Rattle.core_counts.proofs.thrift.Unkept.{NotPage, Missed, not-kept, shown-all, part-misses}

-- its bytes begin where a page does
abbrev pub AtPage : Bytes → Type 0
AtPage b = b.start % 4096 ≡ 0

-- the page isn't kept in which its next byte stands
abbrev pub NextUnkept : List ℕ → Bytes → Pages → Type 0
NextUnkept file b c = AllOf (NotPage file (next_page b)) c

-- what it has asked for meets no kept page, and is no more than its pages lack
pub record AskedUnkept (file : List ℕ) (b : Bytes) (n : ℕ) (c : Pages) : Type 0 where
  pub misses : AllOf (Missed file (place_after b) n) c
  pub most : n ≤ b.limit - length b.bytes

abbrev pub PhaseUnkept : Phase → List ℕ → Bytes → Pages → Type 0
PhaseUnkept phases.Attrs file b c = Unit {0}
PhaseUnkept phases.AskedAttrs file b c = Unit {0}
PhaseUnkept phases.Pages file b c = Unit {0}
PhaseUnkept phases.Rest file b c = NextUnkept file b c
PhaseUnkept (phases.Asked n) file b c = AskedUnkept file b n c
PhaseUnkept phases.Ended file b c = Unit {0}

pub record IsUnkept (r : Reading) (c : Pages) : Type 0 where
  pub at_page : AtPage r.base
  pub phase : PhaseUnkept r.phase r.file r.base c

abbrev StateUnkept : reading.State → Type 0
StateUnkept s = IsUnkept s.reading s.pages

-- once it has taken what is kept
record Settled (s : reading.State) : Type 0 where
  pub at : StateUnkept s
  pub wanted : s.reading.phase ≡ phases.Pages → NextUnkept s.reading.file s.reading.base s.pages

-- ---- kept pages

record IsGathered (file : List ℕ) (start : ℕ) (g : Gathered) : Type 0 where
  pub start_is : g.base.start ≡ start
  pub wanted : g.found ≡ found.Wanted → NextUnkept file g.base g.pages

module _ (file : List ℕ) where
  page-gathered : (o : Option (List ℕ)) (base : Bytes) (c : Pages) → page_of file (next_page base) c ≡ o
      → IsGathered file base.start (record { found = found_of o; base = base_with o base; pages = after_page file (next_page base) c })
  page-gathered None base c is = record { start_is = refl; wanted = λ same. shown-all (NotPage file (next_page base)) file (next_page base) c (not-kept file (next_page base) c is) }
  page-gathered (Some bytes) base c is = record { start_is = refl; wanted = λ same. absurd (by (nat_lt (length bytes) 4096) same) }
    where
      by : (b : Bool) → (if b then found.Ended else found.Page) ≡ found.Wanted → ⊥
      by true is = cc
      by false is = cc

  taken-gathered : (base : Bytes) (c : Pages) → IsGathered file base.start (taken file base c)
  taken-gathered base c = by (is_whole base || is_past (known_of file c) (place_after base))
    where
      by : (b : Bool) → IsGathered file base.start (if b then record { found = found.Ended; base = base; pages = c } else record {
        found = found_of (page_of file (next_page base) c);
        base = base_with (page_of file (next_page base) c) base;
        pages = after_page file (next_page base) c;
      })
      by true = record { start_is = refl; wanted = λ same. absurd (let no_way : found.Ended ≡ found.Wanted = same in cc) }
      by false = page-gathered (page_of file (next_page base) c) base c refl

  then-gathered : (start : ℕ) (g : Gathered) (k : Found) → IsGathered file start g → IsGathered file start (then_taken file g k)
  then-gathered start g found.Page before = let more = taken-gathered g.base g.pages in record { start_is = more.start_is ∙ before.start_is; wanted = more.wanted }
  then-gathered start g found.Ended before = before
  then-gathered start g found.Wanted before = before

  is-gathered : (n : ℕ) (base : Bytes) (c : Pages) → IsGathered file base.start (gathered file n base c)
  is-gathered zero base c = record { start_is = refl; wanted = λ same. absurd (let no_way : found.Page ≡ found.Wanted = same in cc) }
  is-gathered (suc n) base c = then-gathered base.start (gathered file n base c) (gathered file n base c).found (is-gathered n base c)

-- ---- before a call

found-unkept : (k : Found) (file : List ℕ) (b : Bytes) (c : Pages) → PhaseUnkept (reading.phase_of k) file b c
found-unkept found.Page file b c = tt
found-unkept found.Ended file b c = tt
found-unkept found.Wanted file b c = tt

found-wanted : (k : Found) → reading.phase_of k ≡ phases.Pages → k ≡ found.Wanted
found-wanted found.Page is = absurd (cc)
found-wanted found.Ended is = absurd (cc)
found-wanted found.Wanted is = refl

settled-in : (p : Phase) (r : Reading) (c : Pages) → r.phase ≡ p → IsUnkept r c → Settled (reading.settled_in p r c)
settled-in phases.Pages r c is k =
    let to : Gathered = gathered r.file (r.base.limit / 4096 + 1) r.base c in
    let g = is-gathered r.file (r.base.limit / 4096 + 1) r.base c in
    record {
      at = record { at_page = ap (λ (n : ℕ). n % 4096) g.start_is ∙ k.at_page; phase = found-unkept to.found r.file to.base to.pages };
      wanted = λ same. g.wanted (found-wanted to.found same);
    }
settled-in phases.Attrs r c is k = record { at = k; wanted = λ same. absurd (let no_way : phases.Attrs ≡ phases.Pages = sym is ∙ same in cc) }
settled-in phases.AskedAttrs r c is k = record { at = k; wanted = λ same. absurd (let no_way : phases.AskedAttrs ≡ phases.Pages = sym is ∙ same in cc) }
settled-in phases.Rest r c is k = record { at = k; wanted = λ same. absurd (let no_way : phases.Rest ≡ phases.Pages = sym is ∙ same in cc) }
settled-in (phases.Asked n) r c is k = record { at = k; wanted = λ same. absurd (let no_way : phases.Asked n ≡ phases.Pages = sym is ∙ same in cc) }
settled-in phases.Ended r c is k = record { at = k; wanted = λ same. absurd (let no_way : phases.Ended ≡ phases.Pages = sym is ∙ same in cc) }

settled-unkept : (r : Reading) (c : Pages) → IsUnkept r c → Settled (reading.settled r c)
settled-unkept r c k = settled-in r.phase r c refl k

part-unkept : (s : reading.State) → AtPage s.reading.base → NextUnkept s.reading.file s.reading.base s.pages → StateUnkept (reading.asked_part s)
part-unkept s whole first = record {
  at_page = whole;
  phase = record { misses = part-misses s.reading.file s.reading.rsize s.reading.base s.pages whole first; most = omega arith };
}

asked-unkept : (p : Phase) (s : reading.State) → s.reading.phase ≡ p → reading.wants p ≡ true → Settled s
    → StateUnkept (if reading.asks_attrs p then record { reading = record s.reading { phase = phases.AskedAttrs }; pages = s.pages } else reading.asked_part s)
asked-unkept phases.Attrs s is w g = record { at_page = g.at.at_page; phase = tt }
asked-unkept phases.Pages s is w g = part-unkept s g.at.at_page (g.wanted is)
asked-unkept phases.Rest s is w g = part-unkept s g.at.at_page (subst (λ (p : Phase). PhaseUnkept p s.reading.file s.reading.base s.pages) is g.at.phase)
asked-unkept phases.AskedAttrs s is w g = absurd (cc)
asked-unkept (phases.Asked n) s is w g = absurd (cc)
asked-unkept phases.Ended s is w g = absurd (cc)

answered-unkept : (p : Phase) (r : Reading) (c : Pages) → IsUnkept r c → IsUnkept (reading.answered p r) c
answered-unkept phases.Attrs r c k = k
answered-unkept phases.AskedAttrs r c k = k
answered-unkept phases.Pages r c k = k
answered-unkept phases.Rest r c k = k
answered-unkept (phases.Asked n) r c k = k
answered-unkept phases.Ended r c k = record { at_page = k.at_page; phase = k.phase }

and-right : (a b : Bool) → (a && b) ≡ true → b ≡ true
and-right true b is = is
and-right false b is = absurd (cc)

gone-unkept : (room : Bool) (s : reading.State) → Settled s → StateUnkept (reading.gone room s)
gone-unkept room s g = by (reading.asks room s) refl
  where
    by : (b : Bool) → reading.asks room s ≡ b → StateUnkept (if b then reading.asked s else record { reading = reading.answered s.reading.phase s.reading; pages = s.pages })
    by true is = asked-unkept s.reading.phase s refl (and-right room (reading.wants s.reading.phase) is) g
    by false is = answered-unkept s.reading.phase s.reading s.pages g.at

pub goes-unkept : (room : Bool) (r : Reading) (c : Pages) → IsUnkept r c → StateUnkept (reading.gone room (reading.settled r c))
goes-unkept room r c k = gone-unkept room (reading.settled r c) (settled-unkept r c k)

-- ---- a reply

more-place : (given : List ℕ) (n : ℕ) (b : Bytes) → n ≤ b.limit - length b.bytes → length given ≤ n → place_after (with_more given b) ≡ place_after b + length given
more-place given n b most few =
    let both = length-append b.bytes (take (b.limit - length b.bytes) given) in
    let cut = length-take (b.limit - length b.bytes) given in
    omega (arith, most, few, both, cut)

other-zero : (n : ℕ) → not (n == 0) ≡ true → 1 ≤ n
other-zero zero is = absurd (cc)
other-zero (suc n) is = omega arith

-- A part that was short, or ends inside a page, ends in a page that was asked for.
next-met : (place n long next : ℕ) → 1 ≤ n → long ≤ n → next ≡ place + long → (nat_lt long n || not (next % 4096 == 0)) ≡ true → MeetsPage place n (next / 4096)
next-met place n long next some few at rest = by (nat_lt long n) refl rest
  where
    by : (b : Bool) → nat_lt long n ≡ b → (b || not (next % 4096 == 0)) ≡ true → MeetsPage place n (next / 4096)
    by true lt same = let short : long < n = grind (arith, nat_tests) in record { some = some; low = omega (arith, at); high = omega (arith, at, short) }
    by false lt same = let inside = other-zero (next % 4096) same in record { some = some; low = omega (arith, at); high = omega (arith, at, few, inside, some) }

module _ (attr : Option Attr) (given : List ℕ) (file : List ℕ) (b : Bytes) (c : Pages) (n sent : ℕ) (k : AskedUnkept file b n c) (few : length given ≤ n) where
  abbrev PageAfter : ℕ
  PageAfter = next_page (with_more given b)

  place-is : place_after (with_more given b) ≡ place_after b + length given
  place-is = more-place given n b k.most few

  -- The page in which the part ends isn't kept, nor is it one that the part gave.
  rest-unkept : 1 ≤ n → (nat_lt (length given) n || not (place_after (with_more given b) % 4096 == 0)) ≡ true
      → NextUnkept file (with_more given b) (reading.noted attr file sent (place_after b) given false c)
  rest-unkept some rest = noted-all (NotPage file PageAfter) attr file sent (place_after b) given false c
      (λ index g. λ same is. elim g.whole [
        | inl whole ↦ absurd (let place = place-is in omega (arith, whole, place, is))
        | inr ends ↦ absurd (let no_way : false ≡ true = ends in cc)
      ])
      (All-weaker (Of (Missed file (place_after b) n)) (Of (NotPage file PageAfter))
      (λ p missed same is. missed same (subst (MeetsPage (place_after b) n) (sym is) (next-met (place_after b) n (length given) (place_after (with_more given b)) some few place-is rest))) c.pages k.misses)

  then-unkept : (eof : Bool) → 1 ≤ n → PhaseUnkept (reading.phase_then n eof given (with_more given b)) file (with_more given b) (reading.noted attr file sent (place_after b) given eof c)
  then-unkept true some = tt
  then-unkept false some = by (nat_lt (length given) n || not (place_after (with_more given b) % 4096 == 0)) refl
    where
      by : (rest : Bool) → (nat_lt (length given) n || not (place_after (with_more given b) % 4096 == 0)) ≡ rest
          → PhaseUnkept (if rest then phases.Rest else phases.Pages) file (with_more given b) (reading.noted attr file sent (place_after b) given false c)
      by true is = rest-unkept some is
      by false is = tt

-- bytes that break no rule are some, unless the file ends
some-bytes : (count counted : ℕ) (given : List ℕ) → breaks_rule count counted false given ≡ false → 1 ≤ length given
some-bytes count counted given is = by (nat_lt count (length given)) (nat_eq (length given) counted) (nat_eq (length given) 0) refl is
  where
    by : (a e z : Bool) → nat_eq (length given) 0 ≡ z → (a || not e || (z && true)) ≡ false → 1 ≤ length given
    by true e z zero_is same = absurd (cc)
    by false true true zero_is same = absurd (cc)
    by false true false zero_is same = grind (arith, nat_tests)
    by false false z zero_is same = absurd (cc)

after-unkept : (eof : Bool) (attr : Option Attr) (given : List ℕ) (file : List ℕ) (b : Bytes) (c : Pages) (n sent counted : ℕ) → AskedUnkept file b n c → breaks_rule n counted eof given ≡ false
    → PhaseUnkept (reading.phase_then n eof given (with_more given b)) file (with_more given b) (reading.noted attr file sent (place_after b) given eof c)
after-unkept true attr given file b c n sent counted k breaks = tt
after-unkept false attr given file b c n sent counted k breaks =
    let few = few-bytes n counted false given breaks in
    let some = some-bytes n counted given breaks in
    then-unkept attr given file b c n sent k few false (omega (arith, few, some))

-- a state after a reply, or one without memory
state-as : (to new : reading.State) → new ≡ to → StateUnkept to → StateUnkept new
state-as to new is k = subst StateUnkept (sym is) k

module _ (sent turn : Turn) (r : Reading) (c : Pages) (k : IsUnkept r c) where
  part-unkept-if : (b : Bool) (attr : Option Attr) (counted : ℕ) (eof : Bool) (given : List ℕ) (n : ℕ) → r.phase ≡ phases.Asked n → breaks_rule n counted eof given ≡ b
      → StateUnkept (reading.told sent turn (if b then refusal attr (faults.Bad 5) else part attr eof given) r c)
  part-unkept-if true attr counted eof given n is breaks = k
  part-unkept-if false attr counted eof given n is breaks =
      let noted = reading.noted attr r.file sent.moment (place_after r.base) given eof c in
      let asked = subst (λ (p : Phase). PhaseUnkept p r.file r.base c) is k.phase in
      goes-unkept turn.room (reading.added (reading.count_of r.phase) eof given r) noted (record {
        at_page = k.at_page;
        phase = subst (λ (m : ℕ). PhaseUnkept (reading.phase_then m eof given (with_more given r.base)) r.file (with_more given r.base) noted) (sym (ap reading.count_of is))
            (after-unkept eof attr given r.file r.base c n sent.moment counted asked breaks);
      })

  file-unkept : (f : FileKept) (n : ℕ) → r.phase ≡ phases.Asked n → StateUnkept (reading.told sent turn (said_by n (replies.File f)) r c)
  file-unkept (kept.Read attr counted eof given) n is = part-unkept-if (breaks_rule n counted eof given) attr counted eof given n is refl
  file-unkept (kept.ReadFail status attr) n is = k
  file-unkept f n is = k

  said-unkept : (came : Result Reply Fault) (n : ℕ) → r.phase ≡ phases.Asked n → StateUnkept (reading.told sent turn (said_to n came) r c)
  said-unkept (Ok (replies.File f)) n is = file-unkept f n is
  said-unkept (Ok (replies.Dir f)) n is = k
  said-unkept (Ok (replies.Mount f)) n is = k
  said-unkept (Err fault) n is = k

  heard-unkept : (p : Phase) (came : Result Reply Fault) (repeats : List Repeat) (back : Pending) (next : Step) (new : reading.State) → r.phase ≡ p
      → reading.TakesPart (reading.heard p came) sent turn repeats r c back next new → StateUnkept new
  heard-unkept phases.Attrs came repeats back next new is t = state-as (record { reading = r; pages = c }) new t.1 k
  heard-unkept phases.AskedAttrs came repeats back next new is t = state-as (record { reading = r; pages = c }) new t.1 k
  heard-unkept phases.Pages came repeats back next new is t = state-as (record { reading = r; pages = c }) new t.1 k
  heard-unkept phases.Rest came repeats back next new is t = state-as (record { reading = r; pages = c }) new t.1 k
  heard-unkept (phases.Asked n) came repeats back next new is t = state-as (reading.told sent turn (said_to n came) r c) new t.1 (said-unkept came n is)
  heard-unkept phases.Ended came repeats back next new is t = state-as (record { reading = r; pages = c }) new t.1 k

  opened-unkept : (result : Result (Unit {0}) memory.Memory) (later : Pages) (back : Pending) (next : Step) (new : reading.State) → ((lacks : memory.Memory) → result ≡ Err lacks → later ≡ c)
      → reading.AfterOpened result turn r later back next new → StateUnkept new
  opened-unkept (Ok done) later back next new same a =
      state-as (reading.gone turn.room (reading.settled (record r { phase = phases.Pages }) later)) new a.1
      (goes-unkept turn.room (record r { phase = phases.Pages }) later (record { at_page = k.at_page; phase = tt }))
  opened-unkept (Err lacks) later back next new same a = state-as (record { reading = r; pages = later }) new a.1 (subst (IsUnkept r) (sym (same lacks refl)) k)

  attrs-unkept : (what : Result Attr Fault) (again : Bool) (back : Pending) (next : Step) (new : reading.State) → reading.TakesAttrs again what sent turn r c back next new → StateUnkept new
  attrs-unkept (Ok attr) again back next new a = opened-unkept a.result a.later back next new (λ lacks is. none-opened a.result lacks is a.opens) a.goes
    where
      none-opened : (result : Result (Unit {0}) memory.Memory) (lacks : memory.Memory) → result ≡ Err lacks → PagesOpened r.file attr r.moment sent turn result c a.later → a.later ≡ c
      none-opened (Ok done) lacks is o = absurd (cc)
      none-opened (Err no_memory) lacks is o = o.1
  attrs-unkept (Err fault) again back next new a = state-as (record { reading = r; pages = c }) new a.1 k

  takes-unkept : (waits : Bool) (came : Result Reply Fault) (repeats : List Repeat) (back : Pending) (next : Step) (new : reading.State)
      → reading.TakesIf waits sent turn came repeats r c back next new → StateUnkept new
  takes-unkept true came repeats back next new t = attrs-unkept (got_by came) _ back next new t
  takes-unkept false came repeats back next new t = heard-unkept r.phase came repeats back next new refl t

-- ---- the operation

abbrev pub UnkeptIn : Option Reading → Pages → Type 0
UnkeptIn None c = Unit {0}
UnkeptIn (Some r) c = IsUnkept r c

in-as : (to new : Option Reading) (was c : Pages) → new ≡ to → c ≡ was → UnkeptIn to was → UnkeptIn new c
in-as to new was c is same k = subst (λ (o : Option Reading). UnkeptIn o c) (sym is) (subst (UnkeptIn to) (sym same) k)

pub resumes-in : (of : Option Reading) (room : Bool) (m : ReadFile) (c : Pages) (back : Pending) (next : Step) (new : ReadFile) (later : Pages) → m.reading ≡ of → UnkeptIn m.reading c
    → reads.ResumesIn of room m c back next new later → UnkeptIn new.reading later
resumes-in None room m c back next new later is k s = in-as m.reading new.reading c later (ap (λ (q : ReadFile). q.reading) s.machine) s.kept k
resumes-in (Some r) room m c back next new later is k s =
    let to = reading.gone room (reading.settled r c) in
    in-as (Some to.reading) new.reading to.pages later (ap (λ (q : ReadFile). q.reading) s.machine) s.kept (goes-unkept room r c (subst (λ (o : Option Reading). UnkeptIn o c) is k))

pub takes-in : (of : Option Reading) (sent turn : Turn) (came : Result Reply Fault) (repeats : List Repeat) (m : ReadFile) (c : Pages) (back : Pending) (next : Step) (new : ReadFile) (later : Pages)
    → m.reading ≡ of → UnkeptIn m.reading c → reads.TakesIn of sent turn came repeats m c back next new later → UnkeptIn new.reading later
takes-in None sent turn came repeats m c back next new later is k t = in-as m.reading new.reading c later (ap (λ (q : ReadFile). q.reading) t.machine) t.kept k
takes-in (Some r) sent turn came repeats m c back next new later is k t =
    in-as (Some t.state.reading) new.reading t.state.pages later (ap (λ (q : ReadFile). q.reading) t.machine) t.kept
    (takes-unkept sent turn r c (subst (λ (o : Option Reading). UnkeptIn o c) is k) (reading.waits_attrs r.phase) came repeats back next t.state t.step)

-- ---- the first step

first-unkept : (noac : Bool) (file : List ℕ) (b : Bytes) (c : Pages) → PhaseUnkept (reads.first_phase noac) file b c
first-unkept true file b c = tt
first-unkept false file b c = tt

begun-unkept : (moment : ℕ) (m : ReadFile) (file : List ℕ) (back : Pending) (c : Pages) → IsUnkept (reads.begun moment m file back) c
begun-unkept moment m file back c = record { at_page = omega arith; phase = first-unkept m.noac file _ c }

abbrev OkUnkept : Result Reading Fault → Pages → Type 0
OkUnkept (Ok r) c = IsUnkept r c
OkUnkept (Err fault) c = Unit {0}

ok-as : (to result : Result Reading Fault) (c : Pages) → result ≡ to → OkUnkept to c → OkUnkept result c
ok-as to result c is k = subst (λ (o : Result Reading Fault). OkUnkept o c) (sym is) k

begins-ok : (moment : ℕ) (m : ReadFile) (file : List ℕ) (back : Pending) (result : Result Reading Fault) (c : Pages) → reads.Begins (Ok (reads.begun moment m file back)) result → OkUnkept result c
begins-ok moment m file back result c (inl ok) = ok-as (Ok (reads.begun moment m file back)) result c ok (begun-unkept moment m file back c)
begins-ok moment m file back result c (inr none) = ok-as (Err faults.Memory) result c none tt

begins-in : (mode : Mode) (moment : ℕ) (m : ReadFile) (file : List ℕ) (back : Pending) (result : Result Reading Fault) (c : Pages) → reads.Begins (reads.begun_in mode moment m file back) result
    → OkUnkept result c
begins-in modes.W moment m file back result c b = ok-as (Err faults.Mode) result c b tt
begins-in modes.R moment m file back result c b = begins-ok moment m file back result c b
begins-in modes.RW moment m file back result c b = begins-ok moment m file back result c b
begins-in modes.C moment m file back result c b = begins-ok moment m file back result c b
begins-in modes.X moment m file back result c b = begins-ok moment m file back result c b

begins-at : (o : Option Opened) (moment : ℕ) (m : ReadFile) (back : Pending) (result : Result Reading Fault) (c : Pages) → reads.Begins (reads.begun_at o moment m back) result → OkUnkept result c
begins-at None moment m back result c b = ok-as (Err faults.Slot) result c b tt
begins-at (Some o) moment m back result c b = begins-in o.mode moment m o.file back result c b

starts-with : (result : Result Reading Fault) (room : Bool) (m : ReadFile) (c : Pages) (back : Pending) (next : Step) (new : ReadFile) (later : Pages) → m.reading ≡ None → OkUnkept result c
    → reads.StartsWith result room m c back next new later → UnkeptIn new.reading later
starts-with (Err fault) room m c back next new later none k s = in-as None new.reading c later (ap (λ (q : ReadFile). q.reading) s.machine ∙ none) s.kept tt
starts-with (Ok r) room m c back next new later none k s =
    let to = reading.gone room (reading.settled r c) in
    in-as (Some to.reading) new.reading to.pages later (ap (λ (q : ReadFile). q.reading) s.machine) s.kept (goes-unkept room r c k)

pub starts-in : (o : Option Opened) (turn : Turn) (m : ReadFile) (c : Pages) (back : Pending) (next : Step) (new : ReadFile) (later : Pages) → m.reading ≡ None
    → reads.Starts o turn m c back next new later → UnkeptIn new.reading later
starts-in o turn m c back next new later none s = starts-with s.reading turn.room m c back next new later none (begins-at o (turn.moment - 1) m back s.reading c s.begins) s.goes
