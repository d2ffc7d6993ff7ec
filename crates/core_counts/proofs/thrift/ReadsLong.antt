-- Each READ of a session is as long as may be.
use Rattle.core_counts.proofs.Prelude.{◌≡◌, ◌≤◌, ◌+◌, ◌-◌, ◌*◌, ◌%◌, ◌==◌, inl, inr, ℕ, zero, suc, Bool, true, false, List, [], length, Option, Some, None, refl, sym, subst, ◌∙◌, arith, append-nil, if◌then◌else◌, eqb-true, Entry, Sent, Call, Op, IsCause, mounts, informs, asked, At, SpellsCall, UnderWay, IsOf, Terms, read_call, At-grow, At-below, ReadFile, Phase, Reading, place_after, Mounted, Machine, machine_of, Busy, Setup, View, of_phase, of_reading, in_flight, begins-unbegun, Given, is-given, Expects, expects-laws, PhaseNames, ReadNames, PhaseAt, ReadAt, one-call, IsSession, GoesFrom, Outgoing, session, early-or}
use Rattle.claims.specs.Thrifty.{IsLong, MetEarlier}
use Rattle.file_ops.specs.Base.{pages_size}
use Rattle.core_session.proofs.calls.Outgoing.{sent-nfs}
use Rattle.std.specs.Int.{div_ceil}
use Rattle.std.proofs.lemmas.Grind.{div_ceil_times}
use Rattle.nfs_file_calls.specs.declared.call.FileCall.TheVariants as calls_of
use Rattle.mount_calls.specs.declared.call.MountCall.TheVariants as mount_calls
use Rattle.world_model.specs.declared.message.Call.TheVariants as calls
use Rattle.world_model.specs.declared.op.Op.TheVariants as ops
use Rattle.claims.specs.Asks.{Asks, Acts}
use Rattle.claims.specs.Asks as asks
use Rattle.claims.specs.Pages.{page_from, InsidePages}
use Rattle.world_model.specs.ReadSize.{ReadSized, page_bytes}
use Rattle.claims.specs.Thrifty as thrift
use Rattle.file_ops.specs.declared.reading.Phase.TheVariants as phases
use Rattle.op_machines.specs.declared.file_machine.FileMachine.TheVariants as files
use Rattle.op_machines.specs.declared.machine.Machine.TheVariants as machines
use Rattle.core_facts.proofs.Stories.{good-over}
use Rattle.core_answers.specs.asks.PutCalls as room
use Rattle.core_answers.proofs.asks.ReadAsks.{ReadIn, ReadRuns, ReadStory, read-laws}
use Rattle.core_session.specs.calls.Made.{IsBeside, makes_room, removes}
use Rattle.core_session.proofs.calls.Causes.{Now, Spelt, under-now, rooted-here, cause, sized-grow}
use Rattle.core_counts.specs.thrift.Reads.{ReadsLong}
use Rattle.core_counts.proofs.thrift.Parts.{WasMet, IsPart, whole, ends, met, PhaseLong}
use Rattle.core_counts.proofs.thrift.PartSteps.{LongIn}
use Rattle.core_counts.proofs.thrift.PartTales.{RunsLong, reached-long}
use Rattle.page_cache.specs.Pages.{nothing_kept}

-- ---- where the pages of a range end

size-is : (inner k : ℕ) → pages_size inner (suc k) ≡ div_ceil (inner + suc k) 4096 * 4096
size-is inner k = by (suc k == 0) refl
  where
    by : (b : Bool) → (suc k == 0) ≡ b → (if b then 0 else div_ceil (inner + suc k) 4096 * 4096) ≡ div_ceil (inner + suc k) 4096 * 4096
    by true is = let none : suc k ≡ 0 = eqb-true (suc k) 0 is in absurd (omega (arith, none))
    by false is = refl

range-end : (offset count : ℕ) → 1 ≤ pages_size (offset % 4096) count → (offset - offset % 4096) + pages_size (offset % 4096) count ≡ page_from (offset + count) * 4096
range-end offset zero some = absurd (omega (arith, some))
range-end offset (suc k) some =
    let d = div_ceil_times (offset % 4096 + suc k) 4096 (omega arith) in
    let size = size-is (offset % 4096) k in
    omega (arith, size, d.0, d.1)

-- ---- a READ is made for a read alone

abbrev pub ReadOf : Terms → List Entry → ℕ → List ℕ → ℕ → ℕ → Op → Type 0
ReadOf terms h x f offset count op =
    (slot : ℕ) × (at : ℕ) × (size : ℕ) × (op ≡ ops.Read slot at size) × IsOf terms.modes h x (ops.Read slot at size) f × (1 ≤ size) × InsidePages at size offset count

module _ (terms : Terms) (h : List Entry) (x i : ℕ) (f : List ℕ) (offset count : ℕ) where
  acts-not : (op : Op) → Acts terms h x i op (read_call f offset count) → ⊥
  acts-not op (asks.cuts slot size g is of c) = cc
  acts-not op (asks.accesses path bits g is l c) = cc
  acts-not op (asks.reads_link path g is l c) = cc
  acts-not op (asks.makes_dir path d name is p c) = cc
  acts-not op (asks.makes_link path target d name is p c) = cc
  acts-not op (asks.removes_dir path d name is p c) = cc
  acts-not op (asks.renames from to d name e other is p q c) = cc
  acts-not op (asks.links from to g d name is l p c) = cc
  acts-not op (asks.removes path d name is p c) = cc
  acts-not op (asks.hides path d last name is p hidden may c) = cc

  same-file : (g : List ℕ) (at size : ℕ) → read_call f offset count ≡ read_call g at size → g ≡ f
  same-file g at size e = cc

  same-range : (g : List ℕ) (at size : ℕ) → read_call f offset count ≡ read_call g at size → (at ≡ offset) × (size ≡ count)
  same-range g at size e = (cc, cc)

  range-of : (g : List ℕ) (from all at size : ℕ) → read_call f offset count ≡ read_call g at size → InsidePages from all at size → InsidePages from all offset count
  range-of g from all at size e k =
      let s = same-range g at size e in
      subst (λ (z : ℕ). InsidePages from all z count) s.0 (subst (λ (z : ℕ). InsidePages from all at z) s.1 k)

  read-of : (op : Op) → Asks terms h x i op (read_call f offset count) → ReadOf terms h x f offset count op
  read-of op (asks.walks path earlier later name next d of is l c) = absurd (cc)
  read-of op (asks.finds path d name of p c) = absurd (cc)
  read-of op (asks.looks_for_hidden path d last name is p hidden c) = absurd (cc)
  read-of op (asks.creates slot path d name is p c) = absurd (cc)
  read-of op (asks.creates_after slot path d name reply is p a none c) = absurd (cc)
  read-of op (asks.opens path g o l c) = absurd (cc)
  read-of op (asks.opens_made slot mode path d name g making attr wcc is p mk a c) = absurd (cc)
  read-of op (asks.shows path g is l c) = absurd (cc)
  read-of op (asks.reads slot its_offset its_count at size g is of pages c) =
      (slot, its_offset, its_count, is, subst (λ (o : Op). IsOf terms.modes h x o f) is (subst (IsOf terms.modes h x op) (same-file g at size c) of), pages.some, range-of g its_offset its_count at size c pages)
  read-of op (asks.asks_anew slot its_offset its_count g is noac of c) = absurd (cc)
  read-of op (asks.writes g bytes at how stable c) = absurd (cc)
  read-of op (asks.commits g stable c) = absurd (cc)
  read-of op (asks.writes_for_room g bytes at how writer had needs c) = absurd (cc)
  read-of op (asks.commits_for_room g writer had needs c) = absurd (cc)
  read-of op (asks.removes_hidden r) = absurd (let c = r.removes in cc)
  read-of op (asks.lists path d rows cookie verf is l chain c) = absurd (cc)
  read-of op (asks.acts a) = absurd (acts-not op a)

  not-beside : (op : Op) → IsBeside terms h x i op (read_call f offset count) → ⊥
  not-beside op (makes_room writer (room.writes g bytes at how c)) = cc
  not-beside op (makes_room writer (room.commits g c)) = cc
  not-beside op (removes slot is removal) = let c = removal.is in cc

-- ---- a READ of an operation

same-read : (a b : ReadFile) → machines.File (files.Read a) ≡ machines.File (files.Read b) → a ≡ b
same-read a b e = cc

pub read-parts : (f g : List ℕ) (a b c d : ℕ) → read_call f a b ≡ read_call g c d → (g ≡ f) × (c ≡ a) × (d ≡ b)
read-parts f g a b c d e = (cc, cc, cc)

module _ (m : Mounted) (terms : Terms) (setup : Setup) (h : List Entry) (v : View) (s : IsSession m terms setup h v) (i : ℕ) (bytes : List ℕ)
    (w : Outgoing (machine_of m) (begins-unbegun m) setup h i bytes) (xid offset count : ℕ) (f : List ℕ) (spells : SpellsCall xid (read_call f offset count) bytes) where
  abbrev Its : Call
  Its = Spelt m terms setup h v s i bytes w

  pub its-read : Its ≡ read_call f offset count
  its-read = one-call w.xid xid Its (read_call f offset count) bytes (sent-nfs (machine_of m) (begins-unbegun m) setup Expects expects-laws h i bytes w)
      (Now m terms setup h v s i bytes w).made.spells spells

  under : UnderWay h w.waiting.purpose.lane w.x i w.op
  under = under-now m terms setup h v s i bytes w

  pub reads : ReadOf terms h w.x f offset count w.op
  reads = elim (cause m terms setup h v s i bytes w w.op refl (s.asked w.x w.waiting.purpose.lane under.line w.op under.began)) [
    | inl a ↦ read-of terms h w.x i f offset count w.op (subst (Asks terms h w.x i w.op) its-read a)
    | inr b ↦ absurd (not-beside terms h w.x i f offset count w.op (subst (IsBeside terms h w.x i w.op) its-read b))
  ]

  abbrev pub slot : ℕ
  slot = reads.0

  abbrev pub from : ℕ
  from = reads.1

  abbrev pub size : ℕ
  size = reads.2

  is-read : w.op ≡ ops.Read slot from size
  is-read = reads.3

  pub ranged : ReadRuns terms.modes m s.some w.before w.x slot from size w.machine
  ranged = (good-over (machine_of m) (begins-unbegun m) setup (Given terms.modes) (is-given terms.modes m s.goes.nocto setup) (ReadStory terms.modes m s.some) (read-laws terms.modes m s.some)
      w.before w.old w.reached w.at (record { number = w.waiting.purpose.lane; state = Busy w.machine }) w.busy).1 w.x w.op w.under_way slot from size is-read

  runs : setup.pages ≡ nothing_kept → RunsLong w.before w.machine
  runs bare = (((reached-long m setup w.before w.old w.reached bare).lanes w.at (record { number = w.waiting.purpose.lane; state = Busy w.machine }) w.busy).1 w.x w.op w.under_way).story slot from size
      is-read

  long : setup.pages ≡ nothing_kept → LongIn w.before ranged.of.reading
  long bare = let k = runs bare in subst (λ (q : ReadFile). LongIn w.before q.reading) (same-read k.of ranged.of (sym k.is ∙ ranged.is)) k.long

  pub names : ReadNames ranged.of.reading Its
  names = (subst (λ (q : Machine). Expects q Its) ranged.is (Now m terms setup h v s i bytes w).expects).1

  pub some-wait : 1 ≤ of_reading ranged.of.reading
  some-wait = subst (λ (q : Machine). 1 ≤ in_flight q) ranged.is w.some

  sized : ReadSized h i m.root terms.rsize m.rsize
  sized = let early = under.before in
      sized-grow h h [] (sym (append-nil h)) w.x i m.root terms.rsize m.rsize (omega (arith, early)) (s.sizes w.x w.waiting.purpose.lane under.line w.op under.began).0

  met-here : (g : List ℕ) (index : ℕ) → g ≡ f → offset + count ≡ index * page_bytes → WasMet w.before g index → MetEarlier h i f (offset + count)
  met-here g index same is was = record {
    page = index;
    at = was.at;
    xid = was.xid;
    bytes = was.bytes;
    offset = was.offset;
    count = was.count;
    is = is;
    sent = subst (λ (k : List Entry). At k was.at (Sent was.bytes)) (sym w.is) (At-grow w.before w.after was.at (Sent was.bytes) was.sent);
    spells = subst (λ (k : List ℕ). SpellsCall was.xid (read_call k was.offset was.count) was.bytes) same was.spells;
    earlier = let low = At-below w.before was.at (Sent was.bytes) was.sent in let there = w.there in omega (arith, low, there);
    met = was.met;
  }

  part-long : (r : Reading) (n : ℕ) → ReadAt ranged.held.o.file from size m.rsize m.noac s.some r → (1 ≤ n) × (n ≤ r.base.limit - length r.base.bytes) × (n ≤ m.rsize)
      → (r.file ≡ f) × (place_after r.base ≡ offset) × (n ≡ count) → IsPart w.before r.file r.rsize r.base n → IsLong terms h i f offset count
  part-long r n k most parts (whole is) = thrift.whole m.root m.rsize (rooted-here m terms setup h v s i bytes w) sized (sym parts.2 ∙ is ∙ k.size)
  part-long r n k most parts (ends is) = thrift.ends_read (record {
    lane = w.waiting.purpose.lane;
    x = w.x;
    slot = slot;
    offset = from;
    count = size;
    under_way = subst (UnderWay h w.waiting.purpose.lane w.x i) is-read under;
    of = reads.4;
    some = reads.5;
    is =
        let start = k.base.start in
        let limit = k.base.limit in
        let one = most.0 in
        let all = range-end from size (omega (arith, limit, one, is)) in
        let place = parts.1 in
        let same = parts.2 in
        omega (arith, start, limit, one, all, place, same, is);
  })
  part-long r n k most parts (met index is was) = thrift.met (met-here r.file index parts.0
      (let one = most.0 in let place = parts.1 in let same = parts.2 in omega (arith, one, place, same, is)) was)

  phase-long : (p : Phase) (r : Reading) → r.phase ≡ p → PhaseLong w.before p r → ReadAt ranged.held.o.file from size m.rsize m.noac s.some r → PhaseNames p r Its → 1 ≤ of_phase p
      → IsLong terms h i f offset count
  phase-long (phases.Asked n) r is long k named some =
      part-long r n k (subst (λ (p : Phase). PhaseAt ranged.held.o.file from size m.rsize m.noac s.some p r.base) is k.phase)
      (read-parts f r.file offset count (place_after r.base) n (sym its-read ∙ named)) long
  phase-long phases.AskedAttrs r is long k named some = absurd (let no_way : read_call f offset count ≡ calls.File (calls_of.GetAttr r.file) = sym its-read ∙ named in cc)
  phase-long phases.Attrs r is long k named some = absurd (omega (arith, some))
  phase-long phases.Pages r is long k named some = absurd (omega (arith, some))
  phase-long phases.Rest r is long k named some = absurd (omega (arith, some))
  phase-long phases.Ended r is long k named some = absurd (omega (arith, some))

  reading-long : (o : Option Reading) → LongIn w.before o → ReadIn terms.modes m s.some ranged.held.o.file from size o → ReadNames o Its → 1 ≤ of_reading o → IsLong terms h i f offset count
  reading-long None long k named some = absurd (omega (arith, some))
  reading-long (Some r) long k named some = phase-long r.phase r refl long k named some

  pub is-long : setup.pages ≡ nothing_kept → IsLong terms h i f offset count
  is-long bare = reading-long ranged.of.reading (long bare) ranged.at names some-wait

-- ---- those of the set-up

module _ (m : Mounted) (terms : Terms) (setup : Setup) (before h : List Entry) (v : View) (g : GoesFrom m terms setup before h v) where
  pub none-early : (i xid offset count : ℕ) (f bytes : List ℕ) → At before i (Sent bytes) → SpellsCall xid (read_call f offset count) bytes → ⊥
  none-early i xid offset count f bytes at spells =
      let c = g.set_up.asked.caused i bytes at in
      by c.call (one-call xid c.xid (read_call f offset count) c.call bytes tt spells c.made.spells) c.cause
    where
      by : (call : Call) → read_call f offset count ≡ call → IsCause terms before i call → ⊥
      by call same (mounts path is c none) = let no_way : calls.File (calls_of.Read f offset count) ≡ calls.Mount (mount_calls.Mnt path) = same ∙ c in cc
      by call same (informs root rooted c none) = let no_way : calls.File (calls_of.Read f offset count) ≡ calls.File (calls_of.FsInfo root) = same ∙ c in cc
      by call same (asked lane x op under asks keeps) = g.set_up.unbegun x lane under.line op under.began

pub reads-long : ReadsLong
reads-long m terms setup before h v g bare i xid offset count f bytes at spells = elim (early-or m terms setup before h v g i bytes at) [
  | inl early ↦ absurd (none-early m terms setup before h v g i xid offset count f bytes early spells)
  | inr w ↦ is-long m terms setup h v (session m terms setup before h v g) i bytes w xid offset count f spells bare
]
