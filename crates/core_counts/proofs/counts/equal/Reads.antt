-- What the steps of a read cost: one GETATTR, where the session asks for a file's attributes anew; and one READ from any place, since each READ begins where the
-- bytes end that came before it, and each part brings some.
use Rattle.core_counts.proofs.Prelude.{◌≡◌, ◌≤◌, ◌<◌, ◌+◌, ◌-◌, ◌/◌, ◌%◌, ◌==◌, ◌&&◌, ◌||◌, not, ℕ, zero, suc, Bool, true, false, List, [], ◌∷◌, length, take, Option, Some, None, Result, Ok, Err, inl, inr, refl, sym, ap, subst, ◌∙◌, arith, if◌then◌else◌, nat_lt, length-take, Attr, Mode, FileKept, Opened, Pages, known_of, after_page, Pending, Fault, Call, Reply, Step, Repeat, Turn, fails_busy, goes_again, repeats_after, Found, ReadFile, Bytes, place_after, with_more, next_page, Phase, Reading, part, refusal, said_to, said_by, breaks_rule, got_by, PhaseAt, ReadAt}
use Rattle.std.specs.Prelude.{nat_eq}
use Rattle.std.proofs.lemmas.List.{length-append}
use Rattle.client_shelf.specs.Busy.{is_busy}
use Rattle.file_ops.specs.Base.{nothing_of, is_whole}
use Rattle.file_ops.specs.Gather.{Gathered, gathered, taken, then_taken, is_past, found_of, base_with}
use Rattle.file_ops.specs.ReadReply.{Said, says_busy}
use Rattle.core_answers.proofs.asks.ReadSteps.{settled-at, gone-at, takes-at}
use Rattle.nfs_types.specs.declared.mode.Mode.TheVariants as modes
use Rattle.nfs_file_calls.specs.declared.call.FileCall.TheVariants as of_files
use Rattle.nfs_file_calls.specs.declared.owned.FileKept.TheVariants as kept
use Rattle.page_cache.specs.Pages.{page_of as page_in}
use Rattle.xdr_codec.specs.declared.blob.Memory as memory
use Rattle.world_model.specs.declared.answer.Fault.TheVariants as faults
use Rattle.world_model.specs.declared.message.Call.TheVariants as calls
use Rattle.world_model.specs.declared.message.Reply.TheVariants as replies
use Rattle.client_shelf.specs.declared.step.Step.TheVariants as nexts
use Rattle.file_ops.specs.declared.gather.Found.TheVariants as found
use Rattle.file_ops.specs.declared.reading.Phase.TheVariants as phases
use Rattle.file_ops.specs.ReadFile as reads
use Rattle.file_ops.specs.Reading as reading
use Rattle.core_answers.proofs.asks.ReadRanges.{begun-in}
use Rattle.core_counts.proofs.counts.equal.Costs.{Costs, costs-as, costs-more, TakesCosts, repeats_it, goes_on, due, own-takes}
use Rattle.core_counts.proofs.counts.equal.Tables.{Tabled}

-- ---- where its bytes stand

-- They lie in the pages that meet its range, and where it waits for a part some are lacking.
pub record InPages (r : Reading) : Type 0 where
  pub f : List ℕ
  pub offset : ℕ
  pub count : ℕ
  pub rsize : ℕ
  pub noac : Bool
  pub one : 1 ≤ rsize
  pub at : ReadAt f offset count rsize noac one r

abbrev pub KnownIn : Option Reading → Type 0
KnownIn None = Unit {0}
KnownIn (Some r) = InPages r

pub record ReadKnown : Type 0 where
  pub k : ReadFile
  pub known : KnownIn k.reading

known-as : (to new : Option Reading) → new ≡ to → KnownIn to → KnownIn new
known-as to new is k = subst KnownIn (sym is) k

known-goes : (room : Bool) (r : Reading) (pages : Pages) → InPages r → InPages (reading.gone room (reading.settled r pages)).reading
known-goes room r pages k = record {
  f = k.f;
  offset = k.offset;
  count = k.count;
  rsize = k.rsize;
  noac = k.noac;
  one = k.one;
  at = gone-at k.f k.offset k.count k.rsize k.noac k.one room (reading.settled r pages) (settled-at k.f k.offset k.count k.rsize k.noac k.one r pages k.at);
}

pub known-resumes : (o : Option Reading) (room : Bool) (m : ReadFile) (pages : Pages) (back : Pending) (next : Step) (new : ReadFile) (later : Pages) → m.reading ≡ o → KnownIn o
    → reads.ResumesIn o room m pages back next new later → KnownIn new.reading
known-resumes None room m pages back next new later is k s = known-as None new.reading (ap (λ (q : ReadFile). q.reading) s.machine ∙ is) tt
known-resumes (Some r) room m pages back next new later is k s =
    known-as (Some (reading.gone room (reading.settled r pages)).reading) new.reading (ap (λ (q : ReadFile). q.reading) s.machine) (known-goes room r pages k)

pub known-takes : (o : Option Reading) (sent turn : Turn) (came : Result Reply Fault) (old : List Repeat) (m : ReadFile) (pages : Pages) (back : Pending) (next : Step) (new : ReadFile) (later : Pages)
    → m.reading ≡ o → KnownIn o → reads.TakesIn o sent turn came old m pages back next new later → KnownIn new.reading
known-takes None sent turn came old m pages back next new later is k t = known-as None new.reading (ap (λ (q : ReadFile). q.reading) t.machine ∙ is) tt
known-takes (Some r) sent turn came old m pages back next new later is k t =
    known-as (Some t.state.reading) new.reading (ap (λ (q : ReadFile). q.reading) t.machine) (record {
      f = k.f;
      offset = k.offset;
      count = k.count;
      rsize = k.rsize;
      noac = k.noac;
      one = k.one;
      at = takes-at k.f k.offset k.count k.rsize k.noac k.one sent turn came old r pages back next t.state k.at t.step;
    })

module _ (lane slot offset count rsize : ℕ) (noac : Bool) (one : 1 ≤ rsize) where
  abbrev pub own_read : ReadFile
  own_read = record { lane = lane; slot = slot; offset = offset; count = count; rsize = rsize; noac = noac; reading = None }

  first-phase : (f : List ℕ) (b : Bool) → noac ≡ b → PhaseAt f offset count rsize noac one (if b then phases.Attrs else phases.Pages) (nothing_of offset count)
  first-phase f true is = is
  first-phase f false is = tt

  begun-known : (moment : ℕ) (f : List ℕ) (back : Pending) → InPages (reads.begun moment own_read f back)
  begun-known moment f back = record {
    f = f;
    offset = offset;
    count = count;
    rsize = rsize;
    noac = noac;
    one = one;
    at = record { file = refl; size = refl; base = begun-in offset count; phase = first-phase f noac refl };
  }

  pub known-starts : (of : Option Opened) (turn : Turn) (pages : Pages) (back : Pending) (next : Step) (new : ReadFile) (later : Pages) → reads.Starts of turn own_read pages back next new later
      → KnownIn new.reading
  known-starts of turn pages back next new later s = by of s.begins
    where
      refused : (fault : Fault) → s.reading ≡ Err fault → KnownIn new.reading
      refused fault e =
          known-as None new.reading (ap (λ (q : ReadFile). q.reading) (subst (λ (result : Result Reading Fault). reads.StartsWith result turn.room own_read pages back next new later) e s.goes).machine) tt

      begins : (f : List ℕ) → reads.Begins (Ok (reads.begun (turn.moment - 1) own_read f back)) s.reading → KnownIn new.reading
      begins f (inr none) = refused faults.Memory none
      begins f (inl ok) =
          known-as (Some (reading.gone turn.room (reading.settled (reads.begun (turn.moment - 1) own_read f back) pages)).reading) new.reading
          (ap (λ (q : ReadFile). q.reading) (subst (λ (result : Result Reading Fault). reads.StartsWith result turn.room own_read pages back next new later) ok s.goes).machine)
          (known-goes turn.room (reads.begun (turn.moment - 1) own_read f back) pages (begun-known (turn.moment - 1) f back))

      in_mode : (mode : Mode) (f : List ℕ) → reads.Begins (reads.begun_in mode (turn.moment - 1) own_read f back) s.reading → KnownIn new.reading
      in_mode modes.W f b = refused faults.Mode b
      in_mode modes.R f b = begins f b
      in_mode modes.RW f b = begins f b
      in_mode modes.C f b = begins f b
      in_mode modes.X f b = begins f b

      by : (o : Option Opened) → reads.Begins (reads.begun_at o (turn.moment - 1) own_read back) s.reading → KnownIn new.reading
      by None b = refused faults.Slot b
      by (Some opened) b = in_mode opened.mode opened.file b

-- ---- what is left

-- READs are numbered by where they begin.
abbrev pub phase_left : ℕ → Phase → ℕ → ℕ
phase_left start phases.Attrs place = 1 + due start place
phase_left start phases.AskedAttrs place = due start place
phase_left start phases.Pages place = due start place
phase_left start phases.Rest place = due start place
phase_left start (phases.Asked count) place = due start (place + 1)
phase_left start phases.Ended place = 0

abbrev pub part_left : ℕ → Reading → ℕ
part_left start r = phase_left start r.phase (place_after r.base)

abbrev pub reading_left : ℕ → Option Reading → ℕ
reading_left start None = 2
reading_left start (Some r) = part_left start r

-- ---- bytes

more-grows : (bytes : List ℕ) (b : Bytes) → place_after b ≤ place_after (with_more bytes b)
more-grows bytes b = let both = length-append b.bytes (take (b.limit - length b.bytes) bytes) in omega (arith, both)

page-grows : (o : Option (List ℕ)) (b : Bytes) → place_after b ≤ place_after (base_with o b)
page-grows None b = omega arith
page-grows (Some bytes) b = more-grows bytes b

abbrev GrowsTo : Bytes → Gathered → Type 0
GrowsTo b g = place_after b ≤ place_after g.base

taken-grows : (file : List ℕ) (b : Bytes) (pages : Pages) → place_after b ≤ place_after (taken file b pages).base
taken-grows file b pages = by (is_whole b || is_past (known_of file pages) (place_after b))
  where
    by : (c : Bool) → GrowsTo b (if c then record { found = found.Ended; base = b; pages = pages } else record {
      found = found_of (page_in file (next_page b) pages);
      base = base_with (page_in file (next_page b) pages) b;
      pages = after_page file (next_page b) pages;
    })
    by true = omega arith
    by false = page-grows (page_in file (next_page b) pages) b

then-grows : (file : List ℕ) (b : Bytes) (g : Gathered) (k : Found) → place_after b ≤ place_after g.base → place_after b ≤ place_after (then_taken file g k).base
then-grows file b g found.Page before = let more = taken-grows file g.base g.pages in omega (arith, before, more)
then-grows file b g found.Ended before = before
then-grows file b g found.Wanted before = before

gathered-grows : (file : List ℕ) (n : ℕ) (b : Bytes) (pages : Pages) → place_after b ≤ place_after (gathered file n b pages).base
gathered-grows file zero b pages = omega arith
gathered-grows file (suc n) b pages = then-grows file b (gathered file n b pages) (gathered file n b pages).found (gathered-grows file n b pages)

-- A part that isn't the last has bytes.
abbrev HasSome : Said → Type 0
HasSome (part attr eof bytes) = eof ≡ false → 1 ≤ length bytes
HasSome (refusal attr fault) = Unit {0}

or-last : (a b : Bool) → (a || b) ≡ false → b ≡ false
or-last true b e = absurd (let no_way : true ≡ false = e in cc)
or-last false b e = e

some-bytes : (a : Bool) (bytes : List ℕ) → (a || (nat_eq (length bytes) 0 && not false)) ≡ false → 1 ≤ length bytes
some-bytes a [] e = absurd (let no_way : true ≡ false = or-last a true e in cc)
some-bytes a (x ∷ xs) e = omega arith

part-some : (b : Bool) (n counted : ℕ) (attr : Option Attr) (eof : Bool) (bytes : List ℕ) → breaks_rule n counted eof bytes ≡ b → HasSome (if b then refusal attr (faults.Bad 5) else part attr eof bytes)
part-some true n counted attr eof bytes is = tt
part-some false n counted attr eof bytes is = λ more. some-bytes (nat_lt n (length bytes) || not (nat_eq (length bytes) counted)) bytes
    (subst (λ (e : Bool). breaks_rule n counted e bytes ≡ false) more is)

file-some : (n : ℕ) (k : FileKept) → HasSome (said_by n (replies.File k))
file-some n (kept.Read attr counted eof bytes) = part-some (breaks_rule n counted eof bytes) n counted attr eof bytes refl
file-some n (kept.ReadFail status attr) = tt
file-some n k = tt

said-some : (n : ℕ) (came : Result Reply Fault) → HasSome (said_to n came)
said-some n (Ok (replies.File k)) = file-some n k
said-some n (Ok (replies.Dir k)) = tt
said-some n (Ok (replies.Mount k)) = tt
said-some n (Err fault) = tt

-- ---- any one of its calls

module _ (P : Call → Type 0) (start : ℕ) (only_read : (f : List ℕ) (at count : ℕ) → P (calls.File (of_files.Read f at count)) → at ≡ start) where
  phase-most : (p : Phase) (place : ℕ) → phase_left start p place ≤ 2
  phase-most phases.Attrs place = omega arith
  phase-most phases.AskedAttrs place = omega arith
  phase-most phases.Pages place = omega arith
  phase-most phases.Rest place = omega arith
  phase-most (phases.Asked count) place = omega arith
  phase-most phases.Ended place = omega arith

  found-left : (k : Found) (place : ℕ) → phase_left start (reading.phase_of k) place ≤ due start place
  found-left found.Page place = omega arith
  found-left found.Ended place = omega arith
  found-left found.Wanted place = omega arith

  settled-left : (p : Phase) (r : Reading) (pages : Pages) → r.phase ≡ p → part_left start (reading.settled_in p r pages).reading ≤ part_left start r
  settled-left phases.Pages r pages is =
      let to : Gathered = gathered r.file (r.base.limit / 4096 + 1) r.base pages in
      let low = found-left to.found (place_after to.base) in
      let grows = gathered-grows r.file (r.base.limit / 4096 + 1) r.base pages in
      let was : part_left start r ≡ due start (place_after r.base) = ap (λ (q : Phase). phase_left start q (place_after r.base)) is in
      omega (arith, low, grows, was)
  settled-left phases.Attrs r pages is = omega arith
  settled-left phases.AskedAttrs r pages is = omega arith
  settled-left phases.Rest r pages is = omega arith
  settled-left (phases.Asked count) r pages is = omega arith
  settled-left phases.Ended r pages is = omega arith

  part-costs : (s : reading.State) → Costs P (due start (place_after s.reading.base)) (nexts.Send (reading.read_call s)) (part_left start (reading.asked_part s).reading)
  part-costs s = (omega arith, λ p. let same = only_read _ _ _ p in omega (arith, same))

  asked-costs : (p : Phase) (s : reading.State) → reading.wants p ≡ true
      → Costs P (phase_left start p (place_after s.reading.base)) (nexts.Send (if reading.asks_attrs p then reading.attrs_call s.reading.file else reading.read_call s))
      (part_left start (if reading.asks_attrs p then record { reading = record s.reading { phase = phases.AskedAttrs }; pages = s.pages } else reading.asked_part s).reading)
  asked-costs phases.Attrs s w = (omega arith, λ p. omega arith)
  asked-costs phases.Pages s w = part-costs s
  asked-costs phases.Rest s w = part-costs s
  asked-costs phases.AskedAttrs s w = absurd (let no_way : false ≡ true = w in cc)
  asked-costs (phases.Asked count) s w = absurd (let no_way : false ≡ true = w in cc)
  asked-costs phases.Ended s w = absurd (let no_way : false ≡ true = w in cc)

  waits-costs : (n : ℕ) (next : Step) → next ≡ nexts.Wait → Costs P n next n
  waits-costs n next is = costs-as P n nexts.Wait next n n is refl (omega arith)

  stays-costs : (p : Phase) (r : Reading) (back : Pending) (next : Step) → reading.Stays p r back next → Costs P (part_left start r) next (part_left start (reading.answered p r))
  stays-costs phases.Attrs r back next s = waits-costs (part_left start r) next s
  stays-costs phases.AskedAttrs r back next s = waits-costs (part_left start r) next s
  stays-costs phases.Pages r back next s = waits-costs (part_left start r) next s
  stays-costs phases.Rest r back next s = waits-costs (part_left start r) next s
  stays-costs (phases.Asked count) r back next s = waits-costs (part_left start r) next s
  stays-costs phases.Ended r back next s =
      costs-as P (part_left start r) (reading.shown_next (reading.answer_of r back)) next (part_left start (reading.answered phases.Ended r)) (part_left start (reading.answered phases.Ended r)) s refl tt

  and-right : (a b : Bool) → (a && b) ≡ true → b ≡ true
  and-right true b is = is
  and-right false b is = absurd (let no_way : false ≡ true = is in cc)

  goes-costs : (room : Bool) (back : Pending) (s : reading.State) (next : Step) → reading.Goes room back s next → Costs P (part_left start s.reading) next (part_left start (reading.gone room s).reading)
  goes-costs room back s next g = by (reading.asks room s) refl g
    where
      by : (b : Bool) → reading.asks room s ≡ b → reading.GoesIf b back s next
          → Costs P (part_left start s.reading) next (part_left start (if b then reading.asked s else record { reading = reading.answered s.reading.phase s.reading; pages = s.pages }).reading)
      by true asks is =
          costs-as P (part_left start s.reading) (nexts.Send (reading.asked_call s)) next (part_left start (reading.asked s).reading) (part_left start (reading.asked s).reading) is refl
          (asked-costs s.reading.phase s (and-right room (reading.wants s.reading.phase) asks))
      by false asks is = stays-costs s.reading.phase s.reading back next is

  settled-costs : (room : Bool) (back : Pending) (r : Reading) (pages : Pages) (next : Step) → reading.Goes room back (reading.settled r pages) next
      → Costs P (part_left start r) next (part_left start (reading.gone room (reading.settled r pages)).reading)
  settled-costs room back r pages next g =
      costs-more P (part_left start (reading.settled r pages).reading) (part_left start r) next (part_left start (reading.gone room (reading.settled r pages)).reading) (settled-left r.phase r pages refl)
      (goes-costs room back (reading.settled r pages) next g)

  from-costs : (room : Bool) (m : ReadFile) (back : Pending) (r : Reading) (pages : Pages) (next : Step) (new : ReadFile) (later : Pages)
      → reads.GoesFrom room m back (reading.settled r pages) next new later → Costs P (part_left start r) next (reading_left start new.reading)
  from-costs room m back r pages next new later g =
      costs-as P (part_left start r) next next (part_left start (reading.gone room (reading.settled r pages)).reading) (reading_left start new.reading) refl
      (ap (λ (k : ReadFile). reading_left start k.reading) g.machine) (settled-costs room back r pages next g.step)

  starts-with : (result : Result Reading Fault) (room : Bool) (m : ReadFile) (pages : Pages) (back : Pending) (next : Step) (new : ReadFile) (later : Pages)
      → reads.StartsWith result room m pages back next new later → Costs P 2 next (reading_left start new.reading)
  starts-with (Err fault) room m pages back next new later s =
      costs-as P 2 (reading.refused fault) next (reading_left start new.reading) (reading_left start new.reading) s.step refl tt
  starts-with (Ok r) room m pages back next new later s =
      costs-more P (part_left start r) 2 next (reading_left start new.reading) (phase-most r.phase (place_after r.base)) (from-costs room m back r pages next new later s)

  pub read-starts : (of : Option Opened) (turn : Turn) (m : ReadFile) (pages : Pages) (back : Pending) (next : Step) (new : ReadFile) (later : Pages) → reads.Starts of turn m pages back next new later
      → Costs P 2 next (reading_left start new.reading)
  read-starts of turn m pages back next new later s = starts-with s.reading turn.room m pages back next new later s.goes

  pub read-resumes : (o : Option Reading) (room : Bool) (m : ReadFile) (pages : Pages) (back : Pending) (next : Step) (new : ReadFile) (later : Pages) → m.reading ≡ o
      → reads.ResumesIn o room m pages back next new later → Costs P (reading_left start o) next (reading_left start new.reading)
  read-resumes None room m pages back next new later is s =
      costs-as P 2 nexts.Wait next 2 (reading_left start new.reading) s.step (ap (λ (k : ReadFile). reading_left start k.reading) s.machine ∙ ap (reading_left start) is) (omega arith)
  read-resumes (Some r) room m pages back next new later is s = from-costs room m back r pages next new later s

  -- ---- what came

  by-table : (had : ℕ) (sent turn : Turn) (old : List Repeat) (next : Step) (after : ℕ) (later : List Repeat) → after ≤ had → Tabled sent turn old next later → Costs P had next after
      → TakesCosts P had sent turn old next after later
  by-table had sent turn old next after later few (inl k) c = repeats_it k.2 few
  by-table had sent turn old next after later few (inr table) c = goes_on table c

  again-or : (had : ℕ) (busy b : Bool) (call : Call) (fault : Fault) (sent turn : Turn) (old later : List Repeat) (next : Step) (after : ℕ) → goes_again busy sent turn old ≡ b → later ≡ repeats_after busy sent turn old
      → after ≤ had → next ≡ reading.again_next b call fault → TakesCosts P had sent turn old next after later
  again-or had busy true call fault sent turn old later next after goes table few is =
      own-takes P had true busy sent turn old next after later goes table few (λ calm. absurd (let no_way : true ≡ false = calm in cc))
  again-or had busy false call fault sent turn old later next after goes table few is =
      own-takes P had false busy sent turn old next after later goes table few (λ calm. costs-as P had (reading.refused fault) next after after is refl tt)

  state-as : (had : ℕ) (sent turn : Turn) (old : List Repeat) (next : Step) (later : List Repeat) (to new : reading.State) → new ≡ to → TakesCosts P had sent turn old next (part_left start to.reading) later
      → TakesCosts P had sent turn old next (part_left start new.reading) later
  state-as had sent turn old next later to new is c = subst (λ (s : reading.State). TakesCosts P had sent turn old next (part_left start s.reading) later) (sym is) c

  -- the attributes came
  opened-costs : (result : Result (Unit {0}) memory.Memory) (turn : Turn) (r : Reading) (pages : Pages) (back : Pending) (next : Step) (new : reading.State)
      → reading.AfterOpened result turn r pages back next new → Costs P (due start (place_after r.base)) next (part_left start new.reading)
  opened-costs (Ok done) turn r pages back next new a =
      let to : Reading = record r { phase = phases.Pages } in
      costs-as P (part_left start to) next next (part_left start (reading.gone turn.room (reading.settled to pages)).reading) (part_left start new.reading) refl
      (ap (λ (s : reading.State). part_left start s.reading) a.1) (settled-costs turn.room back to pages next a.0)
  opened-costs (Err no_memory) turn r pages back next new a =
      costs-as P (due start (place_after r.base)) (reading.refused faults.Memory) next (part_left start new.reading) (part_left start new.reading) a.0 refl tt

  attrs-takes : (told : Result Attr Fault) (sent turn : Turn) (old later : List Repeat) (r : Reading) (pages : Pages) (back : Pending) (next : Step) (new : reading.State) → r.phase ≡ phases.AskedAttrs
      → later ≡ repeats_after (fails_busy told) sent turn old → reading.TakesAttrs (goes_again (fails_busy told) sent turn old) told sent turn r pages back next new
      → TakesCosts P (part_left start r) sent turn old next (part_left start new.reading) later
  attrs-takes (Ok attr) sent turn old later r pages back next new is table t =
      let was : part_left start r ≡ due start (place_after r.base) = ap (λ (q : Phase). phase_left start q (place_after r.base)) is in
      goes_on table (costs-more P (due start (place_after r.base)) (part_left start r) next (part_left start new.reading) (omega (arith, was)) (opened-costs t.result turn r t.later back next new t.goes))
  attrs-takes (Err fault) sent turn old later r pages back next new is table t =
      state-as (part_left start r) sent turn old next later (record { reading = r; pages = pages }) new t.1
      (again-or (part_left start r) (is_busy fault) (goes_again (is_busy fault) sent turn old) (reading.attrs_call r.file) fault sent turn old later next (part_left start r) refl table (omega arith) t.0)

  -- a part came
  then-left : (left : Bool) (place : ℕ) → phase_left start (if left then phases.Rest else phases.Pages) place ≤ due start place
  then-left true place = omega arith
  then-left false place = omega arith

  added-left : (n : ℕ) (eof : Bool) (bytes : List ℕ) (r : Reading) → (eof ≡ false → 1 ≤ length bytes) → length r.base.bytes < r.base.limit
      → part_left start (reading.added n eof bytes r) ≤ due start (place_after r.base + 1)
  added-left n true bytes r some lacks = omega arith
  added-left n false bytes r some lacks =
      let any = some refl in
      let both = length-append r.base.bytes (take (r.base.limit - length r.base.bytes) bytes) in
      let piece = length-take (r.base.limit - length r.base.bytes) bytes in
      let place : place_after r.base + 1 ≤ place_after (with_more bytes r.base) = omega (arith, both, piece, any, lacks) in
      let low = then-left (nat_lt (length bytes) n || not (place_after (with_more bytes r.base) % 4096 == 0)) (place_after (with_more bytes r.base)) in
      omega (arith, place, low)

  said-takes : (said : Said) (n : ℕ) (sent turn : Turn) (old later : List Repeat) (r : Reading) (pages : Pages) (back : Pending) (next : Step) → HasSome said → r.phase ≡ phases.Asked n
      → length r.base.bytes < r.base.limit → later ≡ repeats_after (says_busy said) sent turn old
      → reading.Tells (goes_again (says_busy said) sent turn old) sent turn said r pages back next
      → TakesCosts P (part_left start r) sent turn old next (part_left start (reading.told sent turn said r pages).reading) later
  said-takes (part attr eof bytes) n sent turn old later r pages back next some is lacks table t =
      let to : Reading = reading.added (reading.count_of r.phase) eof bytes r in
      let was : part_left start r ≡ due start (place_after r.base + 1) = ap (λ (q : Phase). phase_left start q (place_after r.base)) is in
      let low = added-left (reading.count_of r.phase) eof bytes r some lacks in
      goes_on table (costs-more P (part_left start to) (part_left start r) next (part_left start (reading.told sent turn (part attr eof bytes) r pages).reading) (omega (arith, low, was))
      (settled-costs turn.room back to (reading.noted attr r.file sent.moment (place_after r.base) bytes eof pages) next t))
  said-takes (refusal attr fault) n sent turn old later r pages back next some is lacks table t =
      again-or (part_left start r) (is_busy fault) (goes_again (is_busy fault) sent turn old) (reading.part_call r) fault sent turn old later next (part_left start r) refl table (omega arith) t

  -- it waits for none
  none-takes : (o : Option Said) (sent turn : Turn) (old later : List Repeat) (r : Reading) (pages : Pages) (back : Pending) (next : Step) (new : reading.State) → o ≡ None
      → Tabled sent turn old next later → reading.TakesPart o sent turn old r pages back next new → TakesCosts P (part_left start r) sent turn old next (part_left start new.reading) later
  none-takes None sent turn old later r pages back next new none w t =
      state-as (part_left start r) sent turn old next later (record { reading = r; pages = pages }) new t.1
      (by-table (part_left start r) sent turn old next (part_left start r) later (omega arith) w (waits-costs (part_left start r) next t.0))
  none-takes (Some said) sent turn old later r pages back next new none w t = absurd (let no_way : Some said ≡ None = none in cc)

  one-said : (a b : Said) → Some a ≡ Some b → a ≡ b
  one-said a b e = cc

  heard-takes : (o : Option Said) (n : ℕ) (came : Result Reply Fault) (sent turn : Turn) (old later : List Repeat) (r : Reading) (pages : Pages) (back : Pending) (next : Step) (new : reading.State)
      → o ≡ Some (said_to n came) → r.phase ≡ phases.Asked n → length r.base.bytes < r.base.limit → later ≡ repeats_after (says_busy (said_to n came)) sent turn old
      → reading.TakesPart o sent turn old r pages back next new → TakesCosts P (part_left start r) sent turn old next (part_left start new.reading) later
  heard-takes None n came sent turn old later r pages back next new some is lacks table t = absurd (let no_way : None ≡ Some (said_to n came) = some in cc)
  heard-takes (Some said) n came sent turn old later r pages back next new some is lacks table t =
      let which = one-said said (said_to n came) some in
      state-as (part_left start r) sent turn old next later (reading.told sent turn said r pages) new t.1
      (said-takes said n sent turn old later r pages back next (subst HasSome (sym which) (said-some n came)) is lacks (table ∙ ap (λ (s : Said). repeats_after (says_busy s) sent turn old) (sym which)) t.0)

  reading-takes : (p : Phase) (sent turn : Turn) (came : Result Reply Fault) (old later : List Repeat) (r : Reading) (pages : Pages) (back : Pending) (next : Step) (new : reading.State) → r.phase ≡ p
      → InPages r → later ≡ reading.repeats_taken p sent turn came old → Tabled sent turn old next later → reading.TakesIf (reading.waits_attrs p) sent turn came old r pages back next new
      → TakesCosts P (part_left start r) sent turn old next (part_left start new.reading) later
  reading-takes phases.AskedAttrs sent turn came old later r pages back next new is k table w t = attrs-takes (got_by came) sent turn old later r pages back next new is table t
  reading-takes (phases.Asked count) sent turn came old later r pages back next new is k table w t =
      heard-takes (reading.heard r.phase came) count came sent turn old later r pages back next new (ap (λ (q : Phase). reading.heard q came) is) is (lacking (phase_at k)) table t
    where
      phase_at : (q : InPages r) → PhaseAt q.f q.offset q.count q.rsize q.noac q.one (phases.Asked count) r.base
      phase_at q = subst (λ (o : Phase). PhaseAt q.f q.offset q.count q.rsize q.noac q.one o r.base) is q.at.phase

      lacking : (1 ≤ count) × (count ≤ r.base.limit - length r.base.bytes) × (count ≤ k.rsize) → length r.base.bytes < r.base.limit
      lacking a = let some = a.0 in let most = a.1 in omega (arith, some, most)
  reading-takes phases.Attrs sent turn came old later r pages back next new is k table w t =
      none-takes (reading.heard r.phase came) sent turn old later r pages back next new (ap (λ (q : Phase). reading.heard q came) is) w t
  reading-takes phases.Pages sent turn came old later r pages back next new is k table w t =
      none-takes (reading.heard r.phase came) sent turn old later r pages back next new (ap (λ (q : Phase). reading.heard q came) is) w t
  reading-takes phases.Rest sent turn came old later r pages back next new is k table w t =
      none-takes (reading.heard r.phase came) sent turn old later r pages back next new (ap (λ (q : Phase). reading.heard q came) is) w t
  reading-takes phases.Ended sent turn came old later r pages back next new is k table w t =
      none-takes (reading.heard r.phase came) sent turn old later r pages back next new (ap (λ (q : Phase). reading.heard q came) is) w t

  pub read-takes : (o : Option Reading) (sent turn : Turn) (came : Result Reply Fault) (old later : List Repeat) (m : ReadFile) (pages : Pages) (back : Pending) (next : Step) (new : ReadFile) (kept_later : Pages)
      → m.reading ≡ o → KnownIn o → later ≡ reads.repeats_heard o sent turn came old → Tabled sent turn old next later → reads.TakesIn o sent turn came old m pages back next new kept_later
      → TakesCosts P (reading_left start o) sent turn old next (reading_left start new.reading) later
  read-takes None sent turn came old later m pages back next new kept_later is k table w t =
      let same = ap (λ (q : ReadFile). reading_left start q.reading) t.machine ∙ ap (reading_left start) is in
      by-table 2 sent turn old next (reading_left start new.reading) later (omega (arith, same)) w (costs-as P 2 nexts.Wait next 2 (reading_left start new.reading) t.step same (omega arith))
  read-takes (Some r) sent turn came old later m pages back next new kept_later is k table w t =
      subst (λ (n : ℕ). TakesCosts P (part_left start r) sent turn old next n later) (sym (ap (λ (q : ReadFile). reading_left start q.reading) t.machine))
      (reading-takes r.phase sent turn came old later r pages back next t.state refl k table w t.step)
