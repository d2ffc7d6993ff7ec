-- What a step of a read leaves of the READs that it may still ask for: its first one, one without a reply, and one with what came of its call.
use Rattle.core_counts.proofs.Prelude.{◌≡◌, ◌<◌, ◌≤◌, ◌⊎◌, inl, inr, ◌+◌, ◌*◌, ◌%◌, ◌==◌, ◌||◌, not, ℕ, Bool, true, false, List, length, Option, Some, None, Result, Ok, Err, refl, sym, ap, subst, ◌∙◌, arith, if◌then◌else◌, nat_lt, cases_lt, Attr, FileKept, Pages, Pending, Answer, Fault, Call, Reply, goes_again, fails_busy, repeats_after, ended, repeated, Step, Repeat, Turn, Phase, Reading, Bytes, place_after, with_more, part, refusal, said_to, said_by, breaks_rule, got_by, PhaseAt, ReadAt}
use Rattle.client_shelf.specs.Busy.{is_busy}
use Rattle.client_shelf.specs.Repeats.{answered}
use Rattle.file_ops.specs.Base.{nothing_of}
use Rattle.file_ops.specs.ReadReply.{Said, says_busy}
use Rattle.core_answers.proofs.asks.ReadSteps.{settled-at, gone-at}
use Rattle.nfs_file_calls.specs.declared.owned.FileKept.TheVariants as kept
use Rattle.xdr_codec.specs.declared.blob.Memory as memory
use Rattle.claims.specs.Pages.{pages_met, reads_a_page}
use Rattle.world_model.specs.declared.answer.Answer.TheVariants as answers
use Rattle.world_model.specs.declared.answer.Fault.TheVariants as faults
use Rattle.world_model.specs.declared.message.Reply.TheVariants as replies
use Rattle.world_model.specs.declared.op.Op.TheVariants as ops
use Rattle.client_shelf.specs.declared.step.Step.TheVariants as nexts
use Rattle.file_ops.specs.declared.reading.Phase.TheVariants as phases
use Rattle.file_ops.specs.Reading as reading
use Rattle.core_answers.proofs.asks.ReadRanges.{more-in, more-left}
use Rattle.core_counts.proofs.counts.reads.Needs.{needs, needs-all}
use Rattle.core_counts.proofs.counts.reads.Readings.{rest, more, level, Stops, Spent, IsShort, settles, goes-spent, added-level, pages-are}

-- ---- which reply it was

-- A part is that of a reply to a READ.
data Told (came : Result Reply Fault) : Said → Type 0 where
  gives : (attr : Option Attr) (counted : ℕ) (eof : Bool) (bytes : List ℕ) → came ≡ Ok (replies.File (kept.Read attr counted eof bytes)) → Told came (part attr eof bytes)
  refuses : (attr : Option Attr) (fault : Fault) → Told came (refusal attr fault)

told-if : (b : Bool) (came : Result Reply Fault) (attr : Option Attr) (counted : ℕ) (eof : Bool) (bytes : List ℕ) → came ≡ Ok (replies.File (kept.Read attr counted eof bytes))
    → Told came (if b then refusal attr (faults.Bad 5) else part attr eof bytes)
told-if true came attr counted eof bytes is = refuses attr (faults.Bad 5)
told-if false came attr counted eof bytes is = gives attr counted eof bytes is

told-file : (n : ℕ) (k : FileKept) (came : Result Reply Fault) → came ≡ Ok (replies.File k) → Told came (said_by n (replies.File k))
told-file n (kept.Read attr counted eof bytes) came is = told-if (breaks_rule n counted eof bytes) came attr counted eof bytes is
told-file n (kept.ReadFail status attr) came is = refuses attr (faults.Nfs status.0)
told-file n k came is = refuses None (faults.Bad 2)

told-as : (n : ℕ) (what came : Result Reply Fault) → came ≡ what → Told came (said_to n what)
told-as n (Ok (replies.File k)) came is = told-file n k came is
told-as n (Ok (replies.Dir k)) came is = refuses None (faults.Bad 2)
told-as n (Ok (replies.Mount k)) came is = refuses None (faults.Bad 2)
told-as n (Err fault) came is = refuses None fault

-- whether it waits for a call
abbrev pub waits : Phase → ℕ
waits phases.Attrs = 0
waits phases.AskedAttrs = 1
waits phases.Pages = 0
waits phases.Rest = 0
waits (phases.Asked size) = 1
waits phases.Ended = 0

module _ (g : List ℕ) (offset count rsize : ℕ) (noac : Bool) (one : 1 ≤ rsize) where
  abbrev At : Reading → Type 0
  At r = ReadAt g offset count rsize noac one r

  abbrev pub level-of : Reading → ℕ
  level-of r = level g offset count rsize noac one r

  abbrev pub StopsAt : Reading → Type 0
  StopsAt r = Stops g offset count rsize noac one r

  abbrev pub Spends : ℕ → Step → Reading → Type 0
  Spends had next new = Spent g offset count rsize noac one had next new

  -- what a step at what came leaves
  pub data Took (came : Result Reply Fault) (sent turn : Turn) (old later : List Repeat) (r : Reading) (next : Step) (new : Reading) : Type 0 where
    again : later ≡ repeated sent.xid turn.xid old → new ≡ r → Took came sent turn old later r next new
    ends : later ≡ ended sent.xid old → (answer : Answer) → next ≡ nexts.Done answer → Took came sent turn old later r next new
    on : later ≡ ended sent.xid old → At new → Spends (level-of r) next new → Took came sent turn old later r next new
    short : later ≡ ended sent.xid old → At new → Spends (level-of r + 1) next new → (n : ℕ) (attr : Option Attr) (counted : ℕ) (bytes : List ℕ) → r.phase ≡ phases.Asked n
        → came ≡ Ok (replies.File (kept.Read attr counted false bytes)) → length bytes < n → Took came sent turn old later r next new

  took-as : (came : Result Reply Fault) (sent turn : Turn) (old later : List Repeat) (r : Reading) (next : Step) (to new : Reading) → new ≡ to
      → Took came sent turn old later r next to → Took came sent turn old later r next new
  took-as came sent turn old later r next to new is t = subst (Took came sent turn old later r next) (sym is) t

  -- ---- it goes on

  spent-wide : (few many : ℕ) (next : Step) (new : Reading) → few ≤ many → Spends few next new → Spends many next new
  spent-wide few many next new le s = record {
    less = let l = s.less in omega (arith, l, le);
    stops = s.stops;
    mine = s.mine;
    asks = λ f call sends reads. let l = s.asks f call sends reads in omega (arith, l, le);
  }

  from : (room : Bool) (back : Pending) (r : Reading) (pages : Pages) (next : Step) → At r → StopsAt r → reading.Goes room back (reading.settled r pages) next
      → At (reading.gone room (reading.settled r pages)).reading × Spends (level-of r) next (reading.gone room (reading.settled r pages)).reading
  from room back r pages next k stops goes =
      let s = settles g offset count rsize noac one r pages stops in
      let at = settled-at g offset count rsize noac one r pages k in (
        gone-at g offset count rsize noac one room (reading.settled r pages) at,
        spent-wide (level-of (reading.settled r pages).reading) (level-of r) next (reading.gone room (reading.settled r pages)).reading s.less
            (goes-spent g offset count rsize noac one room back (reading.settled r pages) next at s.stops goes),
      )

  -- ---- what came of the call for attributes

  ends-now : (fault : Fault) (came : Result Reply Fault) (sent turn : Turn) (old later : List Repeat) (r : Reading) (next : Step) (new : Reading) → later ≡ ended sent.xid old
      → next ≡ reading.refused fault → Took came sent turn old later r next new
  ends-now fault came sent turn old later r next new table is = ends table (answers.Refused fault) is

  -- it is made again, or the read is refused
  again-or : (busy b : Bool) (call : Call) (fault : Fault) (came : Result Reply Fault) (sent turn : Turn) (old later : List Repeat) (r : Reading) (next : Step) → goes_again busy sent turn old ≡ b
      → later ≡ repeats_after busy sent turn old → next ≡ reading.again_next b call fault → Took came sent turn old later r next r
  again-or busy true call fault came sent turn old later r next goes table is = again (table ∙ ap (λ (b : Bool). answered b sent.xid turn.xid old) goes) refl
  again-or busy false call fault came sent turn old later r next goes table is =
      ends-now fault came sent turn old later r next r (table ∙ ap (λ (b : Bool). answered b sent.xid turn.xid old) goes) is

  opened : (result : Result (Unit {0}) memory.Memory) (came : Result Reply Fault) (sent turn : Turn) (old later : List Repeat) (r : Reading) (pages : Pages) (back : Pending) (next : Step)
      (new : reading.State) → r.phase ≡ phases.AskedAttrs → At r → later ≡ ended sent.xid old → reading.AfterOpened result turn r pages back next new → Took came sent turn old later r next new.reading
  opened (Ok done) came sent turn old later r pages back next new is k table a =
      let to : Reading = record r { phase = phases.Pages } in
      let moved = from turn.room back to pages next (record { file = k.file; size = k.size; base = k.base; phase = tt }) tt a.0 in
      let same : level-of r ≡ level-of to = ap (λ (p : Phase). more p (needs rsize (rest r.base))) is in
      took-as came sent turn old later r next (reading.gone turn.room (reading.settled to pages)).reading new.reading (ap (λ (s : reading.State). s.reading) a.1)
      (on table moved.0 (spent-wide (level-of to) (level-of r) next (reading.gone turn.room (reading.settled to pages)).reading (omega (arith, same)) moved.1))
  opened (Err no_memory) came sent turn old later r pages back next new is k table a = ends-now faults.Memory came sent turn old later r next new.reading table a.0

  attrs-took : (told : Result Attr Fault) (came : Result Reply Fault) (sent turn : Turn) (old later : List Repeat) (r : Reading) (pages : Pages) (back : Pending) (next : Step)
      (new : reading.State) → r.phase ≡ phases.AskedAttrs → At r → later ≡ repeats_after (fails_busy told) sent turn old
      → reading.TakesAttrs (goes_again (fails_busy told) sent turn old) told sent turn r pages back next new → Took came sent turn old later r next new.reading
  attrs-took (Ok attr) came sent turn old later r pages back next new is k table t = opened t.result came sent turn old later r t.later back next new is k table t.goes
  attrs-took (Err fault) came sent turn old later r pages back next new is k table t =
      took-as came sent turn old later r next r new.reading (ap (λ (s : reading.State). s.reading) t.1)
      (again-or (is_busy fault) (goes_again (is_busy fault) sent turn old) (reading.attrs_call r.file) fault came sent turn old later r next refl table t.0)

  -- ---- what came of a READ

  added-at : (n : ℕ) (eof : Bool) (bytes : List ℕ) (r : Reading) → r.phase ≡ phases.Asked n → At r → At (reading.added n eof bytes r)
  added-at n eof bytes r is k = record { file = k.file; size = k.size; base = more-in offset count bytes r.base k.base; phase = by eof }
    where
      at : PhaseAt g offset count rsize noac one (phases.Asked n) r.base
      at = subst (λ (q : Phase). PhaseAt g offset count rsize noac one q r.base) is k.phase

      of : (left : Bool) → (nat_lt (length bytes) n || not (place_after (with_more bytes r.base) % 4096 == 0)) ≡ left
          → PhaseAt g offset count rsize noac one (if left then phases.Rest else phases.Pages) (with_more bytes r.base)
      of true same = more-left offset count n bytes r.base k.base at.1 same
      of false same = tt

      by : (e : Bool) → PhaseAt g offset count rsize noac one (reading.phase_then n e bytes (with_more bytes r.base)) (with_more bytes r.base)
      by true = tt
      by false = of (nat_lt (length bytes) n || not (place_after (with_more bytes r.base) % 4096 == 0)) refl

  gave-part : (n : ℕ) (attr : Option Attr) (counted : ℕ) (eof : Bool) (bytes : List ℕ) (came : Result Reply Fault) (sent turn : Turn) (old later : List Repeat) (r : Reading) (pages : Pages)
      (back : Pending) (next : Step) → r.phase ≡ phases.Asked n → At r → StopsAt r → later ≡ ended sent.xid old → came ≡ Ok (replies.File (kept.Read attr counted eof bytes))
      → reading.Goes turn.room back (reading.settled (reading.added n eof bytes r) pages) next
      → Took came sent turn old later r next (reading.gone turn.room (reading.settled (reading.added n eof bytes r) pages)).reading
  gave-part n attr counted eof bytes came sent turn old later r pages back next is k stops table told goes = by eof refl (cases_lt (length bytes) n)
    where
      to : Reading
      to = reading.added n eof bytes r

      end : Reading
      end = (reading.gone turn.room (reading.settled to pages)).reading

      moved : At end × Spends (level-of to) next end
      moved = from turn.room back to pages next (added-at n eof bytes r is k) (added-level g offset count rsize noac one n eof bytes r is k stops).stops goes

      full : (IsShort g offset count rsize noac one n eof bytes → ⊥) → Took came sent turn old later r next end
      full no_short = on table moved.0 (spent-wide (level-of to) (level-of r) next end ((added-level g offset count rsize noac one n eof bytes r is k stops).full no_short) moved.1)

      by : (e : Bool) → eof ≡ e → (length bytes < n) ⊎ (n ≤ length bytes) → Took came sent turn old later r next end
      by true same any = full (λ s. absurd (let wrong : true ≡ false = sym same ∙ s.0 in cc))
      by false same (inr all) = full (λ s. absurd (let lt = s.1 in omega (arith, lt, all)))
      by false same (inl lt) =
          short table moved.0 (spent-wide (level-of to) (level-of r + 1) next end (added-level g offset count rsize noac one n eof bytes r is k stops).most moved.1) n attr counted bytes is
          (told ∙ ap (λ (e : Bool). Ok (replies.File (kept.Read attr counted e bytes))) same) lt

  said-took : (said : Said) (n : ℕ) (came : Result Reply Fault) (sent turn : Turn) (old later : List Repeat) (r : Reading) (pages : Pages) (back : Pending) (next : Step) → Told came said
      → r.phase ≡ phases.Asked n → At r → StopsAt r → later ≡ repeats_after (says_busy said) sent turn old
      → reading.Tells (goes_again (says_busy said) sent turn old) sent turn said r pages back next → Took came sent turn old later r next (reading.told sent turn said r pages).reading
  said-took said n came sent turn old later r pages back next (gives attr counted eof bytes told) is k stops table t =
      let asked : reading.count_of r.phase ≡ n = ap reading.count_of is in
      subst (λ (m : ℕ). Took came sent turn old later r next (reading.gone turn.room (reading.after_part m sent.moment attr eof bytes r pages)).reading) (sym asked)
      (gave-part n attr counted eof bytes came sent turn old later r (reading.noted attr r.file sent.moment (place_after r.base) bytes eof pages) back next is k stops table told
      (subst (λ (m : ℕ). reading.Goes turn.room back (reading.after_part m sent.moment attr eof bytes r pages) next) asked t))
  said-took said n came sent turn old later r pages back next (refuses attr fault) is k stops table t =
      again-or (is_busy fault) (goes_again (is_busy fault) sent turn old) (reading.part_call r) fault came sent turn old later r next refl table t

  pub reading-took : (p : Phase) (others : ℕ) (came : Result Reply Fault) (sent turn : Turn) (old later : List Repeat) (r : Reading) (pages : Pages) (back : Pending) (next : Step) (new : reading.State)
      → r.phase ≡ p → At r → StopsAt r → (1 ≤ waits p) → later ≡ reading.repeats_taken p sent turn came old → reading.TakesIf (reading.waits_attrs p) sent turn came old r pages back next new
      → Took came sent turn old later r next new.reading
  reading-took phases.AskedAttrs others came sent turn old later r pages back next new is k stops some table t =
      attrs-took (got_by came) came sent turn old later r pages back next new is k table t
  reading-took (phases.Asked n) others came sent turn old later r pages back next new is k stops some table t =
      heard-took (reading.heard r.phase came) (ap (λ (q : Phase). reading.heard q came) is) t
    where
      heard-took : (o : Option Said) → o ≡ Some (said_to n came) → reading.TakesPart o sent turn old r pages back next new → Took came sent turn old later r next new.reading
      heard-took None none p = absurd (cc)
      heard-took (Some said) some_said p =
          let which : said ≡ said_to n came = same-said said (said_to n came) some_said in
          took-as came sent turn old later r next (reading.told sent turn said r pages).reading new.reading (ap (λ (s : reading.State). s.reading) p.1)
          (said-took said n came sent turn old later r pages back next (subst (Told came) (sym which) (told-as n came came refl)) is k stops
          (table ∙ ap (λ (s : Said). repeats_after (says_busy s) sent turn old) (sym which)) p.0)
        where
          same-said : (a b : Said) → Some a ≡ Some b → a ≡ b
          same-said a b e = cc
  reading-took phases.Attrs others came sent turn old later r pages back next new is k stops some table t = absurd (omega (arith, some))
  reading-took phases.Pages others came sent turn old later r pages back next new is k stops some table t = absurd (omega (arith, some))
  reading-took phases.Rest others came sent turn old later r pages back next new is k stops some table t = absurd (omega (arith, some))
  reading-took phases.Ended others came sent turn old later r pages back next new is k stops some table t = absurd (omega (arith, some))

  -- ---- the first step, and one without a reply

  pub goes-on : (room : Bool) (back : Pending) (r : Reading) (pages : Pages) (next : Step) → At r → StopsAt r → reading.Goes room back (reading.settled r pages) next
      → At (reading.gone room (reading.settled r pages)).reading × Spends (level-of r) next (reading.gone room (reading.settled r pages)).reading
  goes-on = from

-- a read that begins, of the pages that meet its range
pub begun-level : (g : List ℕ) (slot offset count rsize : ℕ) (noac : Bool) (one : 1 ≤ rsize) (r : Reading) → r.base ≡ nothing_of offset count
    → level g offset count rsize noac one r ≤ pages_met (ops.Read slot offset count) * reads_a_page rsize
begun-level g slot offset count rsize noac one r is =
    let most = most-of r.phase (needs rsize (rest r.base)) in
    let none : rest (nothing_of offset count) ≡ pages_met (ops.Read slot offset count) * 4096 = (let pages = pages-are slot offset count in omega (arith, pages)) in
    let size : needs rsize (rest r.base) ≡ needs rsize (pages_met (ops.Read slot offset count) * 4096) =
    ap (λ (b : Bytes). needs rsize (rest b)) is ∙ ap (needs rsize) none in
    let all = needs-all rsize (pages_met (ops.Read slot offset count)) one in
    omega (arith, most, size, all)
  where
    most-of : (p : Phase) (n : ℕ) → more p n ≤ n
    most-of phases.Attrs n = omega arith
    most-of phases.AskedAttrs n = omega arith
    most-of phases.Pages n = omega arith
    most-of phases.Rest n = omega arith
    most-of (phases.Asked size) n = omega arith
    most-of phases.Ended n = omega arith
