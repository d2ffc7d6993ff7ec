-- As the reply comes that gives a page, the page is kept.
use Rattle.core_counts.proofs.Prelude.{◌≡◌, ◌<◌, ◌≤◌, ℕ, Bool, true, false, List, [], ◌∷◌, ◌++◌, length, Option, Some, None, option_map, position, slice_get, Result, Ok, Err, refl, sym, ap, subst, ◌∙◌, arith, append_assoc, if◌then◌else◌, xid_at, DirKept, FileKept, Accepted, Waiting, waiting_at, FileState, state_of, Fault, Entry, Began, Sent, Delivered, Call, Reply, At, HasXid, SpellsCall, SpellsReply, EndsAt, UnderWay, Terms, read_call, At-grow, At-back, At-last, said_of, Says, ReadFile, Phase, Reading, place_after, breaks_rule, Mounted, Machine, machine_of, Takes, Purpose, Busy, Setup, is_busy, TakesAt, View, turn_at, in_flight, of_phase, of_reading, HearsRecord, Reaches, begins-unbegun, taken_one, Given, is-given, Known, lanes-under-way, Expects, expects-laws, PhaseNames, ReadNames, NoCall, NoShelf, NoStory, no-laws, one-call}
use Rattle.std.proofs.Common.{nat_lt}
use Rattle.rpc_message.specs.Reply.{RpcReply, Refused, Denied, reply_at}
use Rattle.claims.specs.Thrifty.{TookPage}
use Rattle.call_replies.specs.Says.{said_by}
use Rattle.nfs_file_calls.specs.declared.call.FileCall.TheVariants as calls_of
use Rattle.nfs_file_calls.specs.declared.owned.FileKept.TheVariants as kept
use Rattle.xdr_codec.specs.declared.reader.XdrFault.{XdrFault}
use Rattle.nfs_dir_calls.specs.Calls.{is_dir_proc}
use Rattle.nfs_dir_calls.specs.Replies.{dir_reply_at}
use Rattle.nfs_file_calls.specs.Calls.{is_file_proc}
use Rattle.nfs_file_calls.specs.Replies.{file_reply_at}
use Rattle.rpc_message.specs.declared.reply.ReplyFault.{ReplyFault}
use Rattle.rpc_message.specs.declared.reply.ReplyFault.TheVariants.{NotReply, Xdr}
use Rattle.world_model.specs.Rules.{most_bytes}
use Rattle.world_model.specs.declared.answer.Fault.TheVariants as faults
use Rattle.world_model.specs.declared.message.Call.TheVariants as calls
use Rattle.world_model.specs.declared.message.Reply.TheVariants as replies
use Rattle.world_model.specs.declared.op.Op.TheVariants as ops
use Rattle.world_model.specs.Heard.{Refuses}
use Rattle.claims.specs.PageRules.{refuses, breaks, wrong_data, WrongData}
use Rattle.call_replies.specs.Records.{results_read}
use Rattle.call_replies.specs.Results.{dir_said, file_said}
use Rattle.file_ops.specs.declared.reading.Phase.TheVariants as phases
use Rattle.file_ops.specs.ReadFile as reads
use Rattle.file_ops.specs.Reading as reading
use Rattle.op_machines.specs.declared.file_machine.FileMachine.TheVariants as files
use Rattle.op_machines.specs.declared.machine.Machine.TheVariants as machines
use Rattle.core_facts.specs.Counted.{calls_for}
use Rattle.core_facts.proofs.Counting.{calls-some, known-only}
use Rattle.core_facts.proofs.Stories.{good-over}
use Rattle.core_facts.proofs.Tales as tales
use Rattle.core_answers.proofs.asks.ReadAsks.{ReadIn, ReadRuns, ReadStory, read-laws}
use Rattle.core_counts.proofs.thrift.Calm.{Young}
use Rattle.core_counts.proofs.thrift.Came.{OutNow, out-now, says-now, came-now}
use Rattle.core_counts.proofs.thrift.Given.{part-held, unrefused, fine-data, under-until}
use Rattle.core_counts.proofs.thrift.Hears.{of-lane, met-so, mine, asked}
use Rattle.core_counts.proofs.thrift.Holds.{HoldsPage, holds-shown}
use Rattle.core_counts.proofs.thrift.KnownStates.{opened-state}
use Rattle.core_counts.proofs.thrift.Noted.{noted-held}
use Rattle.core_counts.proofs.thrift.PartSteps.{few-bytes}
use Rattle.core_counts.proofs.thrift.ReadsLong.{read-parts}
use Rattle.core_counts.proofs.thrift.Stays.{Case, Follows, Met, GoodAt}

some-nat : (a c : ℕ) → Some a ≡ Some c → a ≡ c
some-nat a c e = cc

some-entry : (a c : Entry) → Some a ≡ Some c → a ≡ c
some-entry a c e = cc

record-is : (a c : List ℕ) → Delivered a ≡ Delivered c → a ≡ c
record-is a c e = cc

same-read : (a b : ReadFile) → machines.File (files.Read a) ≡ machines.File (files.Read b) → a ≡ b
same-read a b e = cc

-- what is said of a record is never a status
no-status : (proc : ℕ) (rec : List ℕ) (n : ℕ) → said_of proc rec ≡ Err (faults.Nfs n) → ⊥
no-status proc rec n e = by (nat_lt most_bytes (length rec)) e
  where
    dirs : (x : Result DirKept XdrFault) → dir_said x ≡ Err (faults.Nfs n) → ⊥
    dirs (Ok a) e = absurd (cc)
    dirs (Err a) e = absurd (cc)

    all : (x : Result FileKept XdrFault) → file_said x ≡ Err (faults.Nfs n) → ⊥
    all (Ok a) e = absurd (cc)
    all (Err a) e = absurd (cc)

    of : (results : List ℕ) (a b : Bool) → (if a then dir_said (dir_reply_at proc results) else (if b then file_said (file_reply_at proc results) else Err (faults.Bad 2))) ≡ Err (faults.Nfs n) → ⊥
    of results true b e = dirs (dir_reply_at proc results) e
    of results false true e = all (file_reply_at proc results) e
    of results false false e = absurd (cc)

    read : (x : Result RpcReply ReplyFault) → said_by proc (results_read x) ≡ Err (faults.Nfs n) → ⊥
    read (Ok (Accepted xid results)) e = of results (is_dir_proc proc) (is_file_proc proc) e
    read (Ok (Refused xid stat low high)) e = absurd (cc)
    read (Ok (Denied xid stat first second)) e = absurd (cc)
    read (Err NotReply) e = absurd (cc)
    read (Err (Xdr fault)) e = absurd (cc)

    by : (b : Bool) → said_by proc (if b then Err (faults.Bad 7) else results_read (reply_at rec)) ≡ Err (faults.Nfs n) → ⊥
    by true e = absurd (cc)
    by false e = read (reply_at rec) e

module _ (m : Mounted) (terms : Terms) (setup : Setup) (nocto : m.nocto ≡ terms.modes.nocto) (some_size : 1 ≤ m.rsize) (q : Case m setup)
    (took : TookPage terms q.H q.o q.f q.s q.at q.i) (h : List Entry) (old new : View) (rec : List ℕ) (xid : ℕ) (call : Waiting Purpose) (k : ℕ) (r : Reaches (machine_of m) setup h old)
    (found : old.lost ≡ false) (known : Known setup h old) (fin : View) (hears : HearsRecord old rec fin) (named : xid_at rec ≡ Some xid) (waits : waiting_at xid old.calls.calls ≡ Some call)
    (there : position (is_busy call.purpose.lane) old.lanes ≡ Some k) (t : TakesAt (taken_one old xid) k call.purpose.sent (said_of call.purpose.proc rec) new) (rest : List Entry)
    (is : (h ++ Delivered rec ∷ []) ++ rest ≡ q.H) (within : length (h ++ Delivered rec ∷ []) ≤ q.n) (now : q.at ≡ length h) where
  whole : h ++ (Delivered rec ∷ rest) ≡ q.H
  whole = sym (append_assoc h (Delivered rec ∷ []) rest) ∙ is

  got : took.heard.got_at ≡ length h
  got = took.here ∙ now

  here : At q.H (length h) (Delivered rec)
  here = subst (λ (z : List Entry). At z (length h) (Delivered rec)) is (At-grow (h ++ Delivered rec ∷ []) rest (length h) (Delivered rec) (At-last h (Delivered rec)))

  bytes-is : took.bytes ≡ rec
  bytes-is = record-is took.bytes rec (some-entry (Delivered took.bytes) (Delivered rec) (sym took.heard.got.got ∙ ap (slice_get q.H) got ∙ here))

  xid-is : took.xid ≡ xid
  xid-is = some-nat took.xid xid (sym took.heard.got.under ∙ ap xid_at bytes-is ∙ named)

  -- the entries before this one
  back : (j : ℕ) (e : Entry) → At q.H j e → j < length h → At h j e
  back j e there_ low = At-back h (Delivered rec ∷ rest) j e (subst (λ (z : List Entry). At z j e) (sym whole) there_) low

  out : OutNow h xid call
  out = out-now m setup h old rec fin xid call hears r named waits

  sent-is : took.heard.record_sent ≡ call.bytes
  sent-is = out.out.equal took.heard.sent_at took.heard.record_sent
      (back took.heard.sent_at (Sent took.heard.record_sent) took.heard.sent.sent (let low = took.heard.later in omega (arith, low, got)))
      (subst (HasXid took.heard.record_sent) xid-is took.heard.sent.under)

  -- ---- the call

  number-is : t.number ≡ call.purpose.lane
  number-is = of-lane m setup q h old new rec xid call k r found known fin hears named waits there t rest is within

  expected : tales.IsExpected (machine_of m) (begins-unbegun m) setup Expects expects-laws NoCall NoShelf NoStory (no-laws (machine_of m) setup Expects) h t.number xid call t.machine
  expected = ((tales.reached-good (machine_of m) (begins-unbegun m) setup Expects expects-laws NoCall NoShelf NoStory (no-laws (machine_of m) setup Expects) h old r).each k
      (record { number = t.number; state = Busy t.machine }) t.there).0 xid call waits (sym number-is)

  abbrev its : Call
  its = expected.made.asked

  asked-is : read_call q.f took.offset took.count ≡ its
  asked-is = one-call took.xid xid (read_call q.f took.offset took.count) its call.bytes tt (subst (SpellsCall took.xid (read_call q.f took.offset took.count)) sent-is took.heard.spells) expected.made.spells.spells

  -- ---- the reply

  abbrev reply : Reply
  reply = replies.File (kept.Read (Some took.shows) took.counted took.eof took.data_)

  spells : SpellsReply xid its reply rec
  spells = subst (λ (z : ℕ). SpellsReply z its reply rec) xid-is (subst (λ (z : Call). SpellsReply took.xid z reply rec) asked-is (subst (SpellsReply took.xid (read_call q.f took.offset took.count) reply) bytes-is took.spells))

  not-refused : (fault : Fault) → said_of call.purpose.proc rec ≡ Err fault → Refuses xid its rec fault → ⊥
  not-refused (faults.Rpc number) e x = unrefused xid xid number its reply rec spells x
  not-refused (faults.Bad rule) e x = took.right rule (refuses (subst (λ (z : ℕ). Refuses z (read_call q.f took.offset took.count) took.bytes (faults.Bad rule)) (sym xid-is)
      (subst (λ (z : Call). Refuses xid z took.bytes (faults.Bad rule)) (sym asked-is) (subst (λ (z : List ℕ). Refuses xid its z (faults.Bad rule)) (sym bytes-is) x))))
  not-refused (faults.Nfs number) e x = no-status call.purpose.proc rec number e
  not-refused fault e x = absurd x

  came-is : said_of call.purpose.proc rec ≡ Ok reply
  came-is = by (said_of call.purpose.proc rec) refl
    where
      by : (result : Result Reply Fault) → said_of call.purpose.proc rec ≡ result → said_of call.purpose.proc rec ≡ Ok reply
      by (Ok other) e = e ∙ ap Ok (sym ((came-now m setup h old rec fin xid call hears r named waits expected.made other e).only reply spells))
      by (Err fault) e = absurd (not-refused fault e (subst (Says xid its rec) e (says-now m setup h old rec fin xid call hears r named waits expected.made)))

  right-data : WrongData took.count took.counted took.data_ took.eof → ⊥
  right-data wrong = took.right 5 (breaks 5 refl (wrong_data refl q.f took.offset took.count took.counted (Some took.shows) took.eof took.data_ refl took.spells wrong))

  -- ---- the read

  lane-is : t.number ≡ took.lane
  lane-is =
      let x = (lanes-under-way h old known.lanes).busy k (record { number = t.number; state = Busy t.machine }) t.there in
      q.one x.x took.r t.number took.lane x.under_way.line took.line x.op (ops.Read took.slot took.asked_offset took.asked_count)
      (subst (λ (z : List Entry). At z x.x (Began t.number x.under_way.line x.op)) whole (At-grow h (Delivered rec ∷ rest) x.x (Began t.number x.under_way.line x.op) x.under_way.began)) took.reads

  under : UnderWay h t.number took.r (length h) (ops.Read took.slot took.asked_offset took.asked_count)
  under = subst (λ (l : ℕ). UnderWay h l took.r (length h) (ops.Read took.slot took.asked_offset took.asked_count)) (sym lane-is)
      (under-until h (Delivered rec ∷ rest) took.lane took.line took.r took.end (ops.Read took.slot took.asked_offset took.asked_count)
      (subst (λ (z : List Entry). EndsAt z took.r took.end) (sym whole) took.ends) (let low = took.heard.before in omega (arith, low, got))
      (back took.r (Began took.lane took.line (ops.Read took.slot took.asked_offset took.asked_count)) took.reads (let first = took.heard.after in let low = took.heard.later in omega (arith, first, low, got))))

  run : ReadRuns terms.modes m some_size h took.r took.slot took.asked_offset took.asked_count t.machine
  run = (good-over (machine_of m) (begins-unbegun m) setup (Given terms.modes) (is-given terms.modes m nocto setup) (ReadStory terms.modes m some_size) (read-laws terms.modes m some_size)
      h old r k (record { number = t.number; state = Busy t.machine }) t.there).1 took.r (ops.Read took.slot took.asked_offset took.asked_count) under took.slot took.asked_offset took.asked_count refl

  names : ReadNames run.of.reading its
  names = (subst (λ (q : Machine). Expects q its) run.is expected.expects).1

  some : 1 ≤ of_reading run.of.reading
  some =
      let all = calls-some xid old.calls.calls call waits in
      let mine_ : slice_get old.lanes k ≡ Some (record { number = call.purpose.lane; state = Busy t.machine }) = t.there ∙ ap (λ (l : ℕ). Some (record { number = l; state = Busy t.machine })) number-is in
      let only = known-only call.purpose.lane old.lanes k (Busy t.machine) mine_
      (λ j l here_ same. (lanes-under-way h old known.lanes).apart j k l (record { number = call.purpose.lane; state = Busy t.machine }) here_ mine_ same) in
      let count : calls_for call.purpose.lane old.calls.calls ≡ in_flight t.machine = known.known.counted call.purpose.lane ∙ only in
      subst (λ (q : Machine). 1 ≤ in_flight q) run.is (omega (arith, all, count))

  record IsReadNow : Type 0 where
    now_ : Reading
    reading_is : run.of.reading ≡ Some now_
    count : ℕ
    asks : now_.phase ≡ phases.Asked count
    file : now_.file ≡ run.held.o.file
    same_file : now_.file ≡ q.f
    place : place_after now_.base ≡ took.offset
    same_count : count ≡ took.count

  read-now : IsReadNow
  read-now = by run.of.reading refl run.at names some
    where
      of : (z : Reading) → run.of.reading ≡ Some z → z.file ≡ run.held.o.file → (p : Phase) → z.phase ≡ p → PhaseNames p z its → 1 ≤ of_phase p → IsReadNow
      of z same file (phases.Asked count) p named_ some_ =
          let parts = read-parts q.f z.file took.offset took.count (place_after z.base) count (asked-is ∙ named_) in
          record { now_ = z; reading_is = same; count = count; asks = p; file = file; same_file = parts.0; place = parts.1; same_count = parts.2 }
      of z same file phases.AskedAttrs p named_ some_ = absurd (let no_way : read_call q.f took.offset took.count ≡ calls.File (calls_of.GetAttr z.file) = asked-is ∙ named_ in cc)
      of z same file phases.Attrs p named_ some_ = absurd (omega (arith, some_))
      of z same file phases.Pages p named_ some_ = absurd (omega (arith, some_))
      of z same file phases.Rest p named_ some_ = absurd (omega (arith, some_))
      of z same file phases.Ended p named_ some_ = absurd (omega (arith, some_))

      by : (x : Option Reading) → run.of.reading ≡ x → ReadIn terms.modes m some_size run.held.o.file took.asked_offset took.asked_count x → ReadNames x its → 1 ≤ of_reading x → IsReadNow
      by None same held named_ some_ = absurd (omega (arith, some_))
      by (Some z) same held named_ some_ = of z same held.file z.phase refl named_ some_

  -- ---- its pages

  first-state : (file : List ℕ) → run.held.o.file ≡ file → (state : FileState) × (state_of file old.shelf.pages ≡ Some state)
  first-state file same =
      let known_ = opened-state m terms.modes nocto setup h old r found run.held.lane run.held.slot run.held.held.x run.held.held.holds.y run.held.o.file run.held.held.holds.opens in
      (known_.0, subst (λ (g : List ℕ). state_of g old.shelf.pages ≡ Some known_.0) same known_.1)

  small : length took.data_ ≤ took.count
  small = few-bytes took.count took.counted took.eof took.data_ (fine-data took.count took.counted took.data_ took.eof right-data)

  other-is : asked m setup q h old new rec xid call k r found known fin hears named waits there t rest is within ≡ read_call q.f took.offset took.count
  other-is = sym (one-call took.xid xid (read_call q.f took.offset took.count) (asked m setup q h old new rec xid call k r found known fin hears named waits there t rest is within) call.bytes tt
      (subst (SpellsCall took.xid (read_call q.f took.offset took.count)) sent-is took.heard.spells)
      (mine m setup q h old new rec xid call k r found known fin hears named waits there t rest is within).made.spells.spells)

  -- its machine is that of a read
  pub read-machine : (z : ReadFile) × (t.machine ≡ machines.File (files.Read z))
  read-machine = (run.of, run.is)

  module _ (b : ℕ) (good_ : GoodAt m setup q h b old.shelf.pages) (young : Young b old) where
    noted-now : HoldsPage q.f q.s q.i (reading.noted (Some took.shows) q.f call.purpose.sent.moment took.offset took.data_ took.eof old.shelf.pages)
    noted-now =
        let state = first-state q.f (sym read-now.file ∙ read-now.same_file) in
        let low = good_.marks q.f state.0.mark (ap (option_map (λ (z : FileState). z.mark)) state.1) in
        let late = young xid call waits in
        noted-held (Met m setup q) (Follows m setup q h) (λ g z j p. q.few) q.few b q.f q.s q.i call.purpose.sent.moment took.offset took.data_ took.shows took.eof old.shelf.pages state.0
        (λ index ends g. met-so m setup q h old new rec xid call k r found known fin hears named waits there t rest is within q.f took.offset took.count index took.data_ ends reply came-is other-is small g)
        (λ g z j p same. sym p.1) took.same state.1 (omega (arith, low, late)) took.gives good_

    pub held-now : HoldsPage q.f q.s q.i t.shelf.pages
    held-now =
        let g : Takes old.wsize (machines.File (files.Read run.of)) call.purpose.sent (turn_at (taken_one old xid)) (said_of call.purpose.proc rec) old.shelf t.next t.after t.shelf =
        subst (λ (z : Machine). Takes old.wsize z call.purpose.sent (turn_at (taken_one old xid)) (said_of call.purpose.proc rec) old.shelf t.next t.after t.shelf) run.is t.takes in
        let p : reads.TakesIn (Some read-now.now_) call.purpose.sent (turn_at (taken_one old xid)) (said_of call.purpose.proc rec) old.shelf.repeats run.of old.shelf.pages old.shelf.back t.next g.step.machine t.shelf.pages =
        subst (λ (x : Option Reading). reads.TakesIn x call.purpose.sent (turn_at (taken_one old xid)) (said_of call.purpose.proc rec) old.shelf.repeats run.of old.shelf.pages old.shelf.back t.next g.step.machine t.shelf.pages)
        read-now.reading_is g.step.step in
        let fine : breaks_rule read-now.count took.counted took.eof took.data_ ≡ false =
        subst (λ (z : ℕ). breaks_rule z took.counted took.eof took.data_ ≡ false) (sym read-now.same_count) (fine-data took.count took.counted took.data_ took.eof right-data) in
        subst (HoldsPage q.f q.s q.i) (sym p.kept)
        (part-held (HoldsPage q.f q.s q.i) (holds-shown q.f q.s q.i) call.purpose.sent (turn_at (taken_one old xid)) (said_of call.purpose.proc rec) read-now.now_ read-now.count (Some took.shows) took.counted took.eof took.data_
        old.shelf.repeats old.shelf.pages old.shelf.back t.next p.state read-now.asks came-is fine p.step
        (subst (λ (z : List ℕ). HoldsPage q.f q.s q.i (reading.noted (Some took.shows) z call.purpose.sent.moment (place_after read-now.now_.base) took.data_ took.eof old.shelf.pages)) (sym read-now.same_file)
        (subst (λ (z : ℕ). HoldsPage q.f q.s q.i (reading.noted (Some took.shows) q.f call.purpose.sent.moment z took.data_ took.eof old.shelf.pages)) (sym read-now.place) noted-now)))
