-- In one lane each WRITE of a put is long, or ends where an earlier WRITE went on.
use Rattle.core_counts.proofs.Prelude.{◌≡◌, ◌<◌, ◌≤◌, ◌⊎◌, inl, inr, ◌+◌, ◌++◌, nat_eq, ℕ, Bool, true, false, List, [], ◌∷◌, length, get_or, Option, Some, None, position, slice_get, cond, refl, sym, ap, subst, ◌∙◌, arith, append_assoc, eqb-true, cases_lt, le-leb, lt-ltb, position-Some, slice_get-get_or, Waiting, next_xid, AreSound, waiting_at, at_sent, Answer, Entry, Began, Answered, Sent, Op, Placed, WriterAt, NoneBegan, At, SpellsCall, AnsweredBefore, UnderWay, OneLane, NeverFull, CoveredEarlier, FirstSent, At-grow, At-back, of_file, Flown, fly_at, piece_under, covers, under-own, same-or, PutFile, Putting, Saving, IsUnused, Mounted, Machine, Opener, machine_of, file_of, Lane, Purpose, State, Busy, Over, Setup, is_busy, SendsIf, View, Notes, Reaches, begins-unbegun, SentNow, sent_now, none-busy, Flies, flies_of, flies_path, flies_file, flies_put, flies_if, Known, reached-all, Runs, number_of, to-map, notes-reach, written_file, one-call, waits-late}
use Rattle.rpc_retry.specs.Waiting.{first_due}
use Rattle.core_facts.specs.Notes.{IsAfterAnswers}
use Rattle.core_facts.proofs.Noting.{answers-first}
use Rattle.rpc_message.specs.declared.cred.Cred.{Cred}
use Rattle.world_model.specs.declared.answer.Answer.TheVariants as answers
use Rattle.world_model.specs.declared.answer.Fault.TheVariants as faults
use Rattle.world_model.specs.declared.op.Op.TheVariants as ops
use Rattle.file_ops.specs.declared.put_file.Putting.TheVariants as putting
use Rattle.file_ops.specs.Saves as saves
use Rattle.op_machines.specs.declared.machine.Machine.TheVariants as machines
use Rattle.op_machines.specs.declared.opener.Opener.TheVariants as openers
use Rattle.core_answers.specs.writes.Flights.{IsInFlight}
use Rattle.core_session.proofs.saves.WholeSteps.{Whole}
use Rattle.core_counts.specs.coarse.WereLong.{write_call}
use Rattle.core_counts.specs.thrift.Writes.{PutWritesLong}
use Rattle.core_counts.proofs.thrift.short.Ends.{each-under, EndsAfter, EndsLong, Second, waits, flies}
use Rattle.core_counts.proofs.thrift.short.Holding.{Hold}
use Rattle.core_counts.proofs.thrift.short.Lone.{covered-now, its-flight}
use Rattle.core_counts.proofs.thrift.short.Putting.{AtState, OpenerRuns, SaveIs}
use Rattle.core_counts.proofs.thrift.short.Tracking.{BeganSo, Cov, Running, Tracked, reached-tracked}

-- ---- the oldest call that is due

-- an older one was sent before
pub early-tried : (cred : Cred) (low next xid y : ℕ) (es : List (ℕ × Waiting Purpose)) (call w : Waiting Purpose) → AreSound cred low next es → first_due es ≡ Some (xid, call) → waiting_at y es ≡ Some w → y < xid
    → 1 ≤ w.attempts
early-tried cred low next xid y [] call w sound first at less = absurd (let no_way : None ≡ Some w = at in cc)
early-tried cred low next xid y (e ∷ es) call w sound first at less = by e.1.due refl (nat_eq y e.0) refl first at (early-tried cred (e.0 + 1) next xid y es call w sound.2)
  where
    one-xid_ : (a b : ℕ × Waiting Purpose) → Some a ≡ Some b → a.0 ≡ b.0
    one-xid_ a b is = cc

    one-call_ : (a b : Waiting Purpose) → Some a ≡ Some b → a ≡ b
    one-call_ a b is = cc

    by : (d : Bool) → e.1.due ≡ d → (b : Bool) → nat_eq y e.0 ≡ b → cond d (Some e) (first_due es) ≡ Some (xid, call) → cond b (Some e.1) (waiting_at y es) ≡ Some w
        → (first_due es ≡ Some (xid, call) → waiting_at y es ≡ Some w → y < xid → 1 ≤ w.attempts) → 1 ≤ w.attempts
    by false due true same f a more = subst (λ (k : Waiting Purpose). 1 ≤ k.attempts) (one-call_ e.1 w a) (sound.1.given due)
    by false due false same f a more = more f a less
    by true due true same f a more = absurd (let first_is = one-xid_ e (xid, call) f in let here = eqb-true y e.0 same in omega (arith, first_is, here, less))
    by true due false same f a more =
        absurd (let first_is = one-xid_ e (xid, call) f in let late = waits-late cred (e.0 + 1) next y es w sound.2 a in omega (arith, first_is, late, less))

-- ---- a shorter history

pub room-before : (before after : List Entry) → NeverFull (before ++ after) → NeverFull before
room-before before after room writers apart all = room writers apart (λ k d lt. later (get_or writers k d) (all k d lt))
  where
    later : (o : Placed) → WriterAt before o → WriterAt (before ++ after) o
    later o w = record { began = (w.began.0, w.began.1, At-grow before after o.0 (Began w.began.0 w.began.1 o.1) w.began.2); writes = w.writes }

pub one-before : (before after : List Entry) → OneLane (before ++ after) → OneLane before
one-before before after one a b lane other line its_line op its_op first second =
    one a b lane other line its_line op its_op (At-grow before after a (Began lane line op) first) (At-grow before after b (Began other its_line its_op) second)

pub answered-on : (before after : List Entry) (x : ℕ) → AnsweredBefore before x (length before) → AnsweredBefore (before ++ after) x (length before)
answered-on before after x a = record {
  lane = a.lane;
  op = a.op;
  y = a.y;
  answer = a.answer;
  ended = record {
    line = a.ended.line;
    began = At-grow before after x (Began a.lane a.ended.line a.op) a.ended.began;
    answered = At-grow before after a.y (Answered a.lane a.ended.line a.answer) a.ended.answered;
    later = a.ended.later;
    first = λ j k at past. least j k at past (cases_lt j (length before));
  };
  before = a.before;
}
  where
    least : (j : ℕ) (k : Answer) → At (before ++ after) j (Answered a.lane a.ended.line k) → x < j → (j < length before) ⊎ (length before ≤ j) → a.y ≤ j
    least j k at past (inl low) = a.ended.first j k (At-back before after j (Answered a.lane a.ended.line k) at low) past
    least j k at past (inr high) = let early = a.before in omega (arith, early, high)

-- ---- as it is sent

-- a WRITE of a put, as `ShortPutWrite` has it, whatever the put's own bytes are
pub record PutWrite (setup : Setup) (h : List Entry) (i x : ℕ) (f : List ℕ) (end : ℕ) : Type 0 where
  pub lane : ℕ
  pub path : List (List ℕ)
  pub from : ℕ
  pub text : List ℕ
  pub under_way : UnderWay h lane x i (ops.Put path from text)
  pub xid : ℕ
  pub bytes : List ℕ
  pub offset : ℕ
  pub how : ℕ
  pub data_ : List ℕ
  pub sent : FirstSent h i xid bytes
  pub spells : SpellsCall xid (write_call f offset how data_) bytes
  pub is : end + 1 ≡ offset + length data_
  pub some : 1 ≤ length data_
  pub short : length data_ < setup.wsize

module _ (m : Mounted) (setup : Setup) (h : List Entry) (one : OneLane h) (full : NeverFull h) (i x end : ℕ) (f : List ℕ) (s : PutWrite setup h i x f end)
    (side : Bool) (has_before : covers s.from (length s.text) end ≡ side) (has_next : covers s.from (length s.text) (end + 1) ≡ side)
    (a : IsAfterAnswers (machine_of m) setup h i (Sent s.bytes)) where
  abbrev rest : List Entry
  rest = Sent s.bytes ∷ a.after

  abbrev put : Op
  put = ops.Put s.path s.from s.text

  reach : Reaches (machine_of m) setup a.before a.old
  reach = notes-reach (machine_of m) setup a.before a.old a.notes

  found : a.old.lost ≡ false
  found = by a.old.lost refl a.step
    where
      by : (b : Bool) → a.old.lost ≡ b → SendsIf b a.old (Some s.bytes) a.new → a.old.lost ≡ false
      by true is t = absurd (let no_way : Some s.bytes ≡ None = t.0 in cc)
      by false is t = is

  known : Known setup a.before a.old
  known = reached-all (machine_of m) (begins-unbegun m) setup a.before a.old reach found

  now : SentNow a.old s.bytes a.new
  now = sent_now a.old s.bytes a.new a.step

  sound : AreSound a.old.calls.cred a.old.calls.first_xid (next_xid a.old.calls) a.old.calls.calls
  sound = known.rows.sound.calls.each

  waits_ : waiting_at now.xid a.old.calls.calls ≡ Some now.call
  waits_ = (at_sent a.old.calls.cred a.old.calls.first_xid (next_xid a.old.calls) now.xid a.old.calls.calls now.call sound now.due).before

  some : 1 ≤ setup.wsize
  some = let short = s.short in omega (arith, short)

  tracked : Tracked m setup f end (end + 1) refl some x s.path s.from s.text side has_before has_next a.before a.old
  tracked = reached-tracked m setup f end (end + 1) refl some x s.path s.from s.text side has_before has_next a.before a.old reach found

  before_one : OneLane a.before
  before_one = one-before a.before rest (subst OneLane a.is one)

  before_room : NeverFull a.before
  before_room = room-before a.before rest (subst NeverFull a.is full)

  -- ---- its call, and its piece

  whole : Whole setup a.old.shelf.back now.xid now.call.bytes
  whole = tracked.wholly.all now.xid now.call waits_

  call_is : write_call f s.offset s.how s.data_ ≡ whole.call
  call_is =
      one-call s.xid now.xid (write_call f s.offset s.how s.data_) whole.call now.call.bytes tt
      (subst (SpellsCall s.xid (write_call f s.offset s.how s.data_)) now.bytes_is s.spells) whole.spells.spells

  inside : IsInFlight now.xid f whole.call a.old.shelf.back
  inside = whole.has f (ap written_file (sym call_is))

  same : write_call f s.offset s.how s.data_ ≡ write_call f inside.piece.offset inside.piece.how inside.piece.bytes
  same = call_is ∙ inside.is

  offset_is : (o p k l : ℕ) (d e : List ℕ) → write_call f o k d ≡ write_call f p l e → o ≡ p
  offset_is o p k l d e is = cc

  data_is : (o p k l : ℕ) (d e : List ℕ) → write_call f o k d ≡ write_call f p l e → d ≡ e
  data_is o p k l d e is = cc

  ends : inside.piece.offset + length inside.piece.bytes ≡ end + 1
  ends =
      let from = offset_is s.offset inside.piece.offset s.how inside.piece.how s.data_ inside.piece.bytes same in
      let len = ap length (data_is s.offset inside.piece.offset s.how inside.piece.how s.data_ inside.piece.bytes same) in
      let is = s.is in
      omega (arith, from, len, is)

  shorter : length inside.piece.bytes < setup.wsize
  shorter =
      let len = ap length (data_is s.offset inside.piece.offset s.how inside.piece.how s.data_ inside.piece.bytes same) in
      let short = s.short in
      omega (arith, len, short)

  -- ---- its lane

  record Seat : Type 0 where
    at : ℕ
    number : ℕ
    machine : Machine
    there : slice_get a.old.lanes at ≡ Some (record { number = number; state = Busy machine })
    mine : UnderWay a.before number x (length a.before) put

  within : x < length a.before
  within = let there = a.there in let before = s.under_way.before in omega (arith, there, before)

  began : At a.before x (Began s.lane s.under_way.line put)
  began = At-back a.before rest x (Began s.lane s.under_way.line put) (subst (λ (k : List Entry). At k x (Began s.lane s.under_way.line put)) a.is s.under_way.began) within

  under_way : UnderWay a.before s.lane x (length a.before) put
  under_way = record {
    line = s.under_way.line;
    began = began;
    before = within;
    unanswered = λ n. s.under_way.unanswered
        (subst (λ (k : List Entry). AnsweredBefore k x i) (sym a.is) (subst (λ (n : ℕ). AnsweredBefore (a.before ++ rest) x n) a.there (answered-on a.before rest x n)));
  }

  seat : Seat
  seat = by (position (is_busy now.call.purpose.lane) a.old.lanes) refl
    where
      any : Lane
      any = record { number = 0; state = Over (answers.Refused faults.Memory) }

      of : (j number : ℕ) (state : State) → slice_get a.old.lanes j ≡ Some (record { number = number; state = state }) → Seat
      of j number (Over answer) there = absurd (a.none j number answer there)
      of j number (Busy machine) there = record {
        at = j;
        number = number;
        machine = machine;
        there = there;
        mine = subst (λ (n : ℕ). UnderWay a.before n x (length a.before) put) same_lane under_way;
      }
        where
          runs : Runs a.before number
          runs = known.lanes.busy j number (to-map number_of a.old.lanes j (record { number = number; state = Busy machine }) there)

          same_lane : s.lane ≡ number
          same_lane = before_one x runs.x s.lane number s.under_way.line runs.line put runs.op began runs.began

      by : (o : Option ℕ) → position (is_busy now.call.purpose.lane) a.old.lanes ≡ o → Seat
      by None none = absurd (none-busy a.old now.xid now.call waits_ none known.known.counted)
      by (Some j) is =
          let busy = position-Some (is_busy now.call.purpose.lane) a.old.lanes j any is in
          let lane = get_or a.old.lanes j any in
          of j lane.number lane.state (slice_get-get_or a.old.lanes j any busy.0)

  -- ---- its save

  abbrev Covered : Type 0
  Covered = Cov m setup f end (end + 1) refl some x s.path s.from s.text side has_before has_next a.before

  abbrev RunsNow : Machine → Type 0
  RunsNow machine = Running m setup f end (end + 1) refl some x s.path s.from s.text side has_before has_next a.before machine a.old.shelf.back

  unused-not : IsUnused now.xid a.old.shelf.back → Covered
  unused-not free = absurd (let no_way : None ≡ Some inside.piece = sym (free f) ∙ inside.there in cc)

  covered-by : (flown : Flown) (sv : Saving) → flies_of seat.machine ≡ flies_if (saves.is_sending sv.phase) sv.file → sv.file ≡ f → fly_at (of_file sv.file a.old.shelf.back) (end + 1) ≡ Some flown
      → flown.xid < now.xid → Covered
  covered-by flown sv sends here at less =
      inl (covered-now m setup f (end + 1) a.before a.old reach found known before_one tracked.basis tracked.wholly seat.at seat.number seat.machine seat.there sv sends here flown at
      (λ w waiting. early-tried a.old.calls.cred a.old.calls.first_xid (next_xid a.old.calls) now.xid flown.xid a.old.calls.calls now.call w sound now.due waiting less))

  by-save : (sv : Saving) → flies_of seat.machine ≡ flies_if (saves.is_sending sv.phase) sv.file
      → SaveIs end (end + 1) setup.wsize refl some f Covered s.from s.text side has_before has_next sv a.old.shelf.back → sv.file ≡ f → Covered
  by-save sv sends held here = which (held here)
    where
      own : piece_under now.xid (of_file sv.file a.old.shelf.back).pieces ≡ Some inside.piece
      own = ap (λ (g : List ℕ). piece_under now.xid (of_file g a.old.shelf.back).pieces) here ∙ inside.there

      xid_is : inside.piece.xid ≡ now.xid
      xid_is = under-own now.xid (of_file sv.file a.old.shelf.back).pieces inside.piece own

      of : Second end (end + 1) setup.wsize sv.upto (of_file sv.file a.old.shelf.back) → Covered
      of (waits cell at ready plain low each) =
          absurd (let full_ = each-under (EndsLong end (end + 1) setup.wsize) now.xid (of_file sv.file a.old.shelf.back).pieces inside.piece each own ends in let less = shorter in omega (arith, full_, less))
      of (flies flown at none plain low each) =
          later (each-under (EndsAfter end (end + 1) setup.wsize flown.xid) now.xid (of_file sv.file a.old.shelf.back).pieces inside.piece each own ends)
        where
          later : (length inside.piece.bytes ≡ setup.wsize) ⊎ (flown.xid < inside.piece.xid) → Covered
          later (inl full_) = absurd (let less = shorter in omega (arith, full_, less))
          later (inr less) = covered-by flown sv sends here at (omega (arith, less, xid_is))

      which : Covered ⊎ Hold end (end + 1) setup.wsize refl some sv a.old.shelf.back → Covered
      which (inl c) = c
      which (inr held_) = of held_.open_.second

  by-machine : (machine : Machine) → seat.machine ≡ machine → RunsNow machine → Flies now.xid (flies_of machine) a.old.shelf.back → Covered
  by-machine (machines.File c) is runs flies_ = absurd runs
  by-machine (machines.Name c) is runs flies_ = absurd runs
  by-machine (machines.Path c) is runs flies_ = by c.arrived c.opener refl refl runs flies_
    where
      flies-as : (p : PutFile) (state : Putting) → c.arrived ≡ true → c.opener ≡ openers.Put p → p.state ≡ state → flies_of seat.machine ≡ flies_put state p.write.state
      flies-as p state there opener at =
          ap flies_of is ∙ ap (λ (b : Bool). flies_path b c.opener) there ∙ ap (λ (o : Opener). flies_file (file_of o)) opener ∙ ap (λ (z : Putting). flies_put z p.write.state) at

      at-save : (p : PutFile) (sv : Saving) (b : Bool) → saves.is_sending sv.phase ≡ b → flies_of seat.machine ≡ flies_if (saves.is_sending sv.phase) sv.file
          → SaveIs end (end + 1) setup.wsize refl some f Covered s.from s.text side has_before has_next sv a.old.shelf.back → Flies now.xid (flies_if b sv.file) a.old.shelf.back → Covered
      at-save p sv false sends_is goes held free = unused-not free
      at-save p sv true sends_is goes held in_file = elim (same-or sv.file f) [
        | inl here ↦ by-save sv goes held (sym here)
        | inr off ↦ absurd (let no_way : None ≡ Some inside.piece = sym (in_file.others f off) ∙ inside.there in cc)
      ]

      at-state : (p : PutFile) (state : Putting) → c.arrived ≡ true → c.opener ≡ openers.Put p → p.state ≡ state
          → AtState end (end + 1) setup.wsize refl some f Covered s.from s.text side has_before has_next state a.old.shelf.back → Flies now.xid (flies_put state p.write.state) a.old.shelf.back → Covered
      at-state p putting.Idle there opener at now_ free = unused-not free
      at-state p putting.Opens there opener at now_ free = unused-not free
      at-state p (putting.Adds file) there opener at now_ f_ = absurd now_
      at-state p (putting.Saves sv) there opener at now_ f_ =
          at-save p sv (saves.is_sending sv.phase) refl (flies-as p (putting.Saves sv) there opener at) now_ f_

      by : (b : Bool) (o : Opener) → c.arrived ≡ b → c.opener ≡ o → OpenerRuns end (end + 1) setup.wsize refl some f Covered s.from s.text side has_before has_next b o a.old.shelf.back
          → Flies now.xid (flies_path b o) a.old.shelf.back → Covered
      by false o there opener r free = unused-not free
      by true (openers.Open o) there opener r f_ = absurd r
      by true (openers.Put p) there opener r f_ = at-state p p.state there opener refl r.at f_

  covered : Covered
  covered = which (its-flight m setup f (end + 1) a.before a.old reach found known before_one tracked.basis tracked.wholly seat.at seat.number seat.machine seat.there
      now.xid (Some now.call) waits_)
    where
      which : (IsUnused now.xid a.old.shelf.back) ⊎ Flies now.xid (flies_of seat.machine) a.old.shelf.back → Covered
      which (inl free) = unused-not free
      which (inr flies_) =
          by-machine seat.machine refl (tracked.run before_one before_room seat.at (record { number = seat.number; state = Busy seat.machine }) seat.there seat.mine) flies_

  pub was-covered : CoveredEarlier h i f (end + 1) ⊎ ((side ≡ false) × BeganSo m setup h x f end (end + 1))
  was-covered = by covered
    where
      by : Covered → CoveredEarlier h i f (end + 1) ⊎ ((side ≡ false) × BeganSo m setup h x f end (end + 1))
      by (inl c) = inl (record {
        at = c.at;
        xid = c.xid;
        bytes = c.bytes;
        call = c.call;
        sent = subst (λ (k : List Entry). At k c.at (Sent c.bytes)) (sym a.is) (At-grow a.before rest c.at (Sent c.bytes) c.sent);
        spells = c.spells;
        covers = c.covers;
        earlier = let early = c.earlier in let there = a.there in omega (arith, early, there);
      })
      by (inr c) = inr (
        c.0,
        record {
          before = c.1.before;
          after = c.1.after ++ rest;
          is = a.is ∙ ap (λ (k : List Entry). k ++ rest) c.1.is ∙ append_assoc c.1.before c.1.after rest;
          there = c.1.there;
          view = c.1.view;
          reaches = c.1.reaches;
          found = c.1.found;
          quiet = c.1.quiet;
          idle = c.1.idle;
          other = c.1.other;
        },
      )

-- it ends where an earlier WRITE went on, or as the put began the second byte didn't wait so, or the first was to be sent as stable
pub put-covered : (m : Mounted) (setup : Setup) (h : List Entry) (v : View) → Notes (machine_of m) setup h v → OneLane h → NeverFull h → (i x end : ℕ) (f : List ℕ) (s : PutWrite setup h i x f end)
    → (side : Bool) → covers s.from (length s.text) end ≡ side → covers s.from (length s.text) (end + 1) ≡ side → CoveredEarlier h i f (end + 1) ⊎ ((side ≡ false) × BeganSo m setup h x f end (end + 1))
put-covered m setup h v notes one full i x end f s side has_before has_next = by (answers-first (machine_of m) setup h v notes i (Sent s.bytes) s.sent.sent tt)
  where
    by : NoneBegan h i ⊎ IsAfterAnswers (machine_of m) setup h i (Sent s.bytes) → CoveredEarlier h i f (end + 1) ⊎ ((side ≡ false) × BeganSo m setup h x f end (end + 1))
    by (inl none) = absurd (none x s.lane s.under_way.line (ops.Put s.path s.from s.text) s.under_way.began s.under_way.before)
    by (inr a) = was-covered m setup h one full i x end f s side has_before has_next a

-- where both are its own, no other way is left
pub puts-long : PutWritesLong
puts-long m setup h v notes one full i x end f s = by (put-covered m setup h v notes one full i x end f write true has_before has_next)
  where
    has_before : covers s.from (length s.text) end ≡ true
    has_before = let low = s.low in let high = s.high in rw (le-leb s.from end low, lt-ltb end (s.from + length s.text) (omega (arith, high))) refl

    has_next : covers s.from (length s.text) (end + 1) ≡ true
    has_next = let low = s.low in let high = s.high in rw (le-leb s.from (end + 1) (omega (arith, low)), lt-ltb (end + 1) (s.from + length s.text) high) refl

    write : PutWrite setup h i x f end
    write = record {
      lane = s.lane;
      path = s.path;
      from = s.from;
      text = s.text;
      under_way = s.under_way;
      xid = s.xid;
      bytes = s.bytes;
      offset = s.offset;
      how = s.how;
      data_ = s.data_;
      sent = s.sent;
      spells = s.spells;
      is = s.is;
      some = s.some;
      short = s.short;
    }

    by : CoveredEarlier h i f (end + 1) ⊎ ((true ≡ false) × BeganSo m setup h x f end (end + 1)) → CoveredEarlier h i f (end + 1)
    by (inl c) = c
    by (inr off) = absurd (let no_way : true ≡ false = off.0 in cc)
