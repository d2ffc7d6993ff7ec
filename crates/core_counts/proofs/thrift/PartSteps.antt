-- A read, step by step: what it asks for is as long as may be, and the pages that it offers were met by its READ.
use Rattle.core_counts.proofs.Prelude.{◌≡◌, ◌<◌, ◌≤◌, ◌+◌, ◌-◌, ◌%◌, inl, inr, ◌&&◌, ◌||◌, ◌==◌, not, ℕ, Bool, true, false, nat_eq, List, length, Option, Some, None, Result, Ok, Err, refl, sym, ap, subst, ◌∙◌, arith, if◌then◌else◌, nat_tests, Attr, Mode, FileKept, Opened, start_of, Pages, Pending, Fault, Entry, Sent, Call, Reply, At, SpellsCall, read_call, Step, Repeat, Turn, Found, ReadFile, Phase, Reading, Bytes, place_after, with_more, part, refusal, said_to, said_by, breaks_rule, got_by}
use Rattle.std.proofs.Common.{nat_lt}
use Rattle.xdr_codec.specs.declared.blob.Memory as memory
use Rattle.nfs_types.specs.declared.mode.Mode.TheVariants as modes
use Rattle.nfs_file_calls.specs.declared.owned.FileKept.TheVariants as kept
use Rattle.world_model.specs.declared.answer.Fault.TheVariants as faults
use Rattle.world_model.specs.declared.message.Reply.TheVariants as replies
use Rattle.file_ops.specs.declared.gather.Found.TheVariants as found
use Rattle.file_ops.specs.declared.reading.Phase.TheVariants as phases
use Rattle.file_ops.specs.ReadFile as reads
use Rattle.file_ops.specs.Reading as reading
use Rattle.core_answers.proofs.pages.FilePages.{gone-pages, settled-pages, pages-opened}
use Rattle.core_answers.proofs.pages.PageCalls.{PhaseAwaits, ReadAwaits}
use Rattle.core_counts.proofs.thrift.PageNames.{quiet-all, noted-all}
use Rattle.core_counts.proofs.thrift.Parts.{WasMet, AllMet, PhaseLong, IsLongNow, next-part}

-- the call was sent
pub record WasSent (h : List Entry) (call : Call) : Type 0 where
  pub at : ℕ
  pub xid : ℕ
  pub bytes : List ℕ
  pub sent : At h at (Sent bytes)
  pub spells : SpellsCall xid call bytes

-- bytes that keep to what was asked lie in pages that were asked for
pub was-met : (h : List Entry) (file : List ℕ) (place count index : ℕ) (given : List ℕ) → WasSent h (read_call file place count) → length given ≤ count → place ≤ start_of index
    → start_of index < place + length given → WasMet h file index
was-met h file place count index given w few low high = record {
  at = w.at;
  xid = w.xid;
  bytes = w.bytes;
  offset = place;
  count = count;
  sent = w.sent;
  spells = w.spells;
  met = record { some = omega (arith, few, low, high); low = omega (arith, low); high = omega (arith, few, high) };
}

-- bytes that break no rule are no more than were asked for
pub few-bytes : (count counted : ℕ) (eof : Bool) (given : List ℕ) → breaks_rule count counted eof given ≡ false → length given ≤ count
few-bytes count counted eof given is = by (nat_lt count (length given)) refl is
  where
    by : (b : Bool) → nat_lt count (length given) ≡ b → (b || not (nat_eq (length given) counted) || (nat_eq (length given) 0 && not eof)) ≡ false → length given ≤ count
    by true lt same = absurd (cc)
    by false lt same = grind (arith, nat_tests)

module _ (h : List Entry) where
  -- what is known of a read and of the pages
  pub record GoesLong (s : reading.State) : Type 0 where
    pub all : AllMet h s.pages
    pub long : IsLongNow h s.reading

  -- the same after a step that may leave the read as it is
  pub record Later (r : Reading) (s : reading.State) : Type 0 where
    pub all : AllMet h s.pages
    pub long : IsLongNow h r → IsLongNow h s.reading

  later-from : (r : Reading) (s : reading.State) → GoesLong s → Later r s
  later-from r s g = record { all = g.all; long = λ was. g.long }

  later-as : (r : Reading) (to new : reading.State) → new ≡ to → Later r to → Later r new
  later-as r to new is k = subst (Later r) (sym is) k

  later-stays : (r : Reading) (c : Pages) → AllMet h c → Later r (record { reading = r; pages = c })
  later-stays r c all = record { all = all; long = λ was. was }

  -- ---- before a call

  found-long : (k : Found) (r : Reading) → PhaseLong h (reading.phase_of k) r
  found-long found.Page r = tt
  found-long found.Ended r = tt
  found-long found.Wanted r = tt

  settled-in : (p : Phase) (r : Reading) (c : Pages) → r.phase ≡ p → AllMet h c → IsLongNow h r → GoesLong (reading.settled_in p r c)
  settled-in phases.Pages r c is all long = record {
    all = settled-pages (AllMet h) (quiet-all (WasMet h)) phases.Pages r c all;
    long = found-long _ _;
  }
  settled-in phases.Attrs r c is all long = record { all = all; long = long }
  settled-in phases.AskedAttrs r c is all long = record { all = all; long = long }
  settled-in phases.Rest r c is all long = record { all = all; long = long }
  settled-in (phases.Asked n) r c is all long = record { all = all; long = long }
  settled-in phases.Ended r c is all long = record { all = all; long = long }

  settled-long : (r : Reading) (c : Pages) → AllMet h c → IsLongNow h r → GoesLong (reading.settled r c)
  settled-long r c all long = settled-in r.phase r c refl all long

  answered-in : (p : Phase) (r : Reading) → r.phase ≡ p → IsLongNow h r → IsLongNow h (reading.answered p r)
  answered-in phases.Attrs r is long = long
  answered-in phases.AskedAttrs r is long = long
  answered-in phases.Pages r is long = long
  answered-in phases.Rest r is long = long
  answered-in (phases.Asked n) r is long = long
  answered-in phases.Ended r is long = subst (λ (p : Phase). PhaseLong h p (record r { space = 0 })) (sym is) tt

  asked-long : (attrs : Bool) (s : reading.State) → AllMet h s.pages
      → IsLongNow h (if attrs then record { reading = record s.reading { phase = phases.AskedAttrs }; pages = s.pages } else reading.asked_part s).reading
  asked-long true s all = tt
  asked-long false s all = next-part h s.reading s.pages all

  gone-if : (b : Bool) (s : reading.State) → GoesLong s
      → IsLongNow h (if b then reading.asked s else record { reading = reading.answered s.reading.phase s.reading; pages = s.pages }).reading
  gone-if true s g = asked-long (reading.asks_attrs s.reading.phase) s g.all
  gone-if false s g = answered-in s.reading.phase s.reading refl g.long

  pub gone-long : (room : Bool) (s : reading.State) → GoesLong s → GoesLong (reading.gone room s)
  gone-long room s g = record { all = gone-pages (AllMet h) (quiet-all (WasMet h)) room s g.all; long = gone-if (reading.asks room s) s g }

  pub goes-long : (room : Bool) (r : Reading) (c : Pages) → AllMet h c → IsLongNow h r → GoesLong (reading.gone room (reading.settled r c))
  goes-long room r c all long = gone-long room (reading.settled r c) (settled-long r c all long)

  -- ---- a reply

  then-long : (n : ℕ) (eof : Bool) (given : List ℕ) (b : Bytes) (r : Reading) → PhaseLong h (reading.phase_then n eof given b) r
  then-long n true given b r = tt
  then-long n false given b r = by (nat_lt (length given) n || not (place_after b % 4096 == 0))
    where
      by : (rest : Bool) → PhaseLong h (if rest then phases.Rest else phases.Pages) r
      by true = tt
      by false = tt

  module _ (call : Call) (came : Result Reply Fault) (told : (reply : Reply) → came ≡ Ok reply → WasSent h call) where
    part-later : (b : Bool) (attr : Option Attr) (counted : ℕ) (eof : Bool) (given : List ℕ) (count : ℕ) (sent turn : Turn) (r : Reading) (c : Pages)
        → breaks_rule count counted eof given ≡ b → came ≡ Ok (replies.File (kept.Read attr counted eof given)) → call ≡ read_call r.file (place_after r.base) count → AllMet h c
        → Later r (reading.told sent turn (if b then refusal attr (faults.Bad 5) else part attr eof given) r c)
    part-later true attr counted eof given count sent turn r c breaks is asked all = later-stays r c all
    part-later false attr counted eof given count sent turn r c breaks is asked all =
        let noted = reading.noted attr r.file sent.moment (place_after r.base) given eof c in
        let after = reading.added (reading.count_of r.phase) eof given r in
        later-from r (reading.gone turn.room (reading.settled after noted))
        (goes-long turn.room after noted
        (noted-all (WasMet h) attr r.file sent.moment (place_after r.base) given eof c
        (λ index g. was-met h r.file (place_after r.base) count index given (subst (WasSent h) asked (told (replies.File (kept.Read attr counted eof given)) is))
        (few-bytes count counted eof given breaks) g.low g.some) all)
        (then-long (reading.count_of r.phase) eof given (with_more given r.base) after))

    file-later : (k : FileKept) (count : ℕ) (sent turn : Turn) (r : Reading) (c : Pages) → came ≡ Ok (replies.File k) → call ≡ read_call r.file (place_after r.base) count → AllMet h c
        → Later r (reading.told sent turn (said_by count (replies.File k)) r c)
    file-later (kept.Read attr counted eof given) count sent turn r c is asked all =
        part-later (breaks_rule count counted eof given) attr counted eof given count sent turn r c refl is asked all
    file-later (kept.ReadFail status attr) count sent turn r c is asked all = later-stays r c all
    file-later k count sent turn r c is asked all = later-stays r c all

    said-later : (what : Result Reply Fault) (count : ℕ) (sent turn : Turn) (r : Reading) (c : Pages) → came ≡ what → call ≡ read_call r.file (place_after r.base) count → AllMet h c
        → Later r (reading.told sent turn (said_to count what) r c)
    said-later (Ok (replies.File k)) count sent turn r c is asked all = file-later k count sent turn r c is asked all
    said-later (Ok (replies.Dir k)) count sent turn r c is asked all = later-stays r c all
    said-later (Ok (replies.Mount k)) count sent turn r c is asked all = later-stays r c all
    said-later (Err fault) count sent turn r c is asked all = later-stays r c all

    heard-later : (p : Phase) (sent turn : Turn) (repeats : List Repeat) (r : Reading) (c : Pages) (back : Pending) (next : Step) (new : reading.State) → PhaseAwaits p r call
        → reading.TakesPart (reading.heard p came) sent turn repeats r c back next new → AllMet h c → Later r new
    heard-later phases.Attrs sent turn repeats r c back next new asked t all = later-as r (record { reading = r; pages = c }) new t.1 (later-stays r c all)
    heard-later phases.AskedAttrs sent turn repeats r c back next new asked t all = later-as r (record { reading = r; pages = c }) new t.1 (later-stays r c all)
    heard-later phases.Pages sent turn repeats r c back next new asked t all = later-as r (record { reading = r; pages = c }) new t.1 (later-stays r c all)
    heard-later phases.Rest sent turn repeats r c back next new asked t all = later-as r (record { reading = r; pages = c }) new t.1 (later-stays r c all)
    heard-later (phases.Asked count) sent turn repeats r c back next new asked t all =
        later-as r (reading.told sent turn (said_to count came) r c) new t.1 (said-later came count sent turn r c refl asked all)
    heard-later phases.Ended sent turn repeats r c back next new asked t all = later-as r (record { reading = r; pages = c }) new t.1 (later-stays r c all)

    -- ---- attributes

    opened-later : (result : Result (Unit {0}) memory.Memory) (turn : Turn) (r : Reading) (c : Pages) (back : Pending) (next : Step) (new : reading.State)
        → reading.AfterOpened result turn r c back next new → AllMet h c → Later r new
    opened-later (Ok done) turn r c back next new a all =
        later-as r (reading.gone turn.room (reading.settled (record r { phase = phases.Pages }) c)) new a.1
        (later-from r (reading.gone turn.room (reading.settled (record r { phase = phases.Pages }) c)) (goes-long turn.room (record r { phase = phases.Pages }) c all tt))
    opened-later (Err no_memory) turn r c back next new a all = later-as r (record { reading = r; pages = c }) new a.1 (later-stays r c all)

    attrs-later : (what : Result Attr Fault) (again : Bool) (sent turn : Turn) (r : Reading) (c : Pages) (back : Pending) (next : Step) (new : reading.State)
        → reading.TakesAttrs again what sent turn r c back next new → AllMet h c → Later r new
    attrs-later (Ok attr) again sent turn r c back next new a all =
        opened-later a.result turn r a.later back next new a.goes (pages-opened (AllMet h) (quiet-all (WasMet h)) a.result r.file attr r.moment sent turn c a.later a.opens all)
    attrs-later (Err fault) again sent turn r c back next new a all = later-as r (record { reading = r; pages = c }) new a.1 (later-stays r c all)

    -- ---- any of them

    takes-later : (waits : Bool) (sent turn : Turn) (repeats : List Repeat) (r : Reading) (c : Pages) (back : Pending) (next : Step) (new : reading.State) → PhaseAwaits r.phase r call
        → reading.TakesIf waits sent turn came repeats r c back next new → AllMet h c → Later r new
    takes-later true sent turn repeats r c back next new asked t all = attrs-later (got_by came) _ sent turn r c back next new t all
    takes-later false sent turn repeats r c back next new asked t all = heard-later r.phase sent turn repeats r c back next new asked t all

  -- ---- the operation

  abbrev pub LongIn : Option Reading → Type 0
  LongIn None = Unit {0}
  LongIn (Some r) = IsLongNow h r

  in-as : (to new : Option Reading) → new ≡ to → LongIn to → LongIn new
  in-as to new is k = subst LongIn (sym is) k

  pub resumes-long : (of : Option Reading) (room : Bool) (k : ReadFile) (c : Pages) (back : Pending) (next : Step) (new : ReadFile) (later : Pages) → k.reading ≡ of → AllMet h c → LongIn k.reading
      → reads.ResumesIn of room k c back next new later → LongIn new.reading
  resumes-long None room k c back next new later is all long s = in-as k.reading new.reading (ap (λ (q : ReadFile). q.reading) s.machine) long
  resumes-long (Some r) room k c back next new later is all long s =
      in-as (Some (reading.gone room (reading.settled r c)).reading) new.reading (ap (λ (q : ReadFile). q.reading) s.machine)
      (goes-long room r c all (subst LongIn is long)).long

  pub record TakesLong (k new : ReadFile) (later : Pages) : Type 0 where
    pub all : AllMet h later
    pub long : LongIn k.reading → LongIn new.reading

  pub takes-long : (call : Call) (came : Result Reply Fault) → ((reply : Reply) → came ≡ Ok reply → WasSent h call) → (of : Option Reading) (sent turn : Turn) (repeats : List Repeat) (k : ReadFile)
      (c : Pages) (back : Pending) (next : Step) (new : ReadFile) (later : Pages) → k.reading ≡ of → ReadAwaits of call → AllMet h c → reads.TakesIn of sent turn came repeats k c back next new later
      → TakesLong k new later
  takes-long call came told None sent turn repeats k c back next new later is asked all t = record {
    all = subst (AllMet h) (sym t.kept) all;
    long = λ was. in-as k.reading new.reading (ap (λ (q : ReadFile). q.reading) t.machine) was;
  }
  takes-long call came told (Some r) sent turn repeats k c back next new later is asked all t =
      let g = takes-later call came told (reading.waits_attrs r.phase) sent turn repeats r c back next t.state asked t.step all in
      record {
        all = subst (AllMet h) (sym t.kept) g.all;
        long = λ was. in-as (Some t.state.reading) new.reading (ap (λ (q : ReadFile). q.reading) t.machine) (g.long (subst LongIn is was));
      }

  -- ---- the first step

  first-long : (b : Bool) (r : Reading) → PhaseLong h (reads.first_phase b) r
  first-long true r = tt
  first-long false r = tt

  begun-long : (moment : ℕ) (k : ReadFile) (file : List ℕ) (back : Pending) → LongIn (Some (reads.begun moment k file back))
  begun-long moment k file back = first-long k.noac (reads.begun moment k file back)

  abbrev OkLong : Result Reading Fault → Type 0
  OkLong (Ok r) = IsLongNow h r
  OkLong (Err fault) = Unit {0}

  ok-as : (to result : Result Reading Fault) → result ≡ to → OkLong to → OkLong result
  ok-as to result is k = subst OkLong (sym is) k

  begins-ok : (moment : ℕ) (k : ReadFile) (file : List ℕ) (back : Pending) (result : Result Reading Fault) → reads.Begins (Ok (reads.begun moment k file back)) result → OkLong result
  begins-ok moment k file back result (inl ok) = ok-as (Ok (reads.begun moment k file back)) result ok (begun-long moment k file back)
  begins-ok moment k file back result (inr none) = ok-as (Err faults.Memory) result none tt

  begins-in : (mode : Mode) (moment : ℕ) (k : ReadFile) (file : List ℕ) (back : Pending) (result : Result Reading Fault) → reads.Begins (reads.begun_in mode moment k file back) result → OkLong result
  begins-in modes.W moment k file back result b = ok-as (Err faults.Mode) result b tt
  begins-in modes.R moment k file back result b = begins-ok moment k file back result b
  begins-in modes.RW moment k file back result b = begins-ok moment k file back result b
  begins-in modes.C moment k file back result b = begins-ok moment k file back result b
  begins-in modes.X moment k file back result b = begins-ok moment k file back result b

  begins-at : (o : Option Opened) (moment : ℕ) (k : ReadFile) (back : Pending) (result : Result Reading Fault) → reads.Begins (reads.begun_at o moment k back) result → OkLong result
  begins-at None moment k back result b = ok-as (Err faults.Slot) result b tt
  begins-at (Some o) moment k back result b = begins-in o.mode moment k o.file back result b

  starts-in : (result : Result Reading Fault) (room : Bool) (k : ReadFile) (c : Pages) (back : Pending) (next : Step) (new : ReadFile) (later : Pages) → k.reading ≡ None → AllMet h c → OkLong result
      → reads.StartsWith result room k c back next new later → LongIn new.reading
  starts-in (Err fault) room k c back next new later none all ok s = in-as None new.reading (ap (λ (q : ReadFile). q.reading) s.machine ∙ none) tt
  starts-in (Ok r) room k c back next new later none all ok s =
      in-as (Some (reading.gone room (reading.settled r c)).reading) new.reading (ap (λ (q : ReadFile). q.reading) s.machine) (goes-long room r c all ok).long

  pub starts-long : (o : Option Opened) (turn : Turn) (k : ReadFile) (c : Pages) (back : Pending) (next : Step) (new : ReadFile) (later : Pages) → k.reading ≡ None → AllMet h c
      → reads.Starts o turn k c back next new later → LongIn new.reading
  starts-long o turn k c back next new later none all s =
      starts-in s.reading turn.room k c back next new later none all (begins-at o (turn.moment - 1) k back s.reading s.begins) s.goes
