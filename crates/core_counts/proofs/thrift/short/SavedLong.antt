-- In one lane each WRITE of a sync or close is long, or ends where an earlier WRITE went on, where bytes of both places waited as it began.
use Rattle.core_counts.proofs.Prelude.{append_assoc, ◌≡◌, ◌<◌, ◌≤◌, ◌⊎◌, inl, inr, ◌+◌, ◌++◌, ℕ, Bool, true, false, List, ◌∷◌, length, get_or, Option, Some, None, position, slice_get, refl, sym, ap, subst, ◌∙◌, arith, position-Some, slice_get-get_or, next_xid, AreSound, waiting_at, at_sent, Entry, Began, Sent, NoneBegan, At, SpellsCall, AnsweredBefore, UnderWay, OneLane, CoveredEarlier, At-grow, At-back, of_file, Flown, fly_at, piece_under, under-own, same-or, Saving, IsUnused, Mounted, Machine, machine_of, Lane, State, Busy, Over, Setup, is_busy, SendsIf, Reaches, begins-unbegun, SentNow, sent_now, none-busy, Flies, flies_of, flies_if, Known, reached-all, Runs, number_of, to-map, notes-reach, written_file, one-call, BeganOtherwise}
use Rattle.core_facts.proofs.Noting.{answers-first}
use Rattle.core_counts.specs.thrift.Writes.{ShortSavedWrite, SavedWritesLong}
use Rattle.world_model.specs.declared.answer.Answer.TheVariants as answers
use Rattle.world_model.specs.declared.answer.Fault.TheVariants as faults
use Rattle.file_ops.specs.Saves as saves
use Rattle.core_facts.specs.Notes.{IsAfterAnswers}
use Rattle.core_answers.specs.writes.Flights.{IsInFlight}
use Rattle.core_session.proofs.saves.WholeSteps.{Whole}
use Rattle.core_counts.specs.coarse.WereLong.{write_call}
use Rattle.core_counts.proofs.thrift.short.Ends.{each-under, EndsAfter, EndsLong, Second, waits, flies}
use Rattle.core_counts.proofs.thrift.short.Holding.{Hold}
use Rattle.core_counts.proofs.thrift.short.Lone.{covered-now, its-flight}
use Rattle.core_counts.proofs.thrift.short.PutsLong.{early-tried, one-before, answered-on}
use Rattle.core_counts.proofs.thrift.short.Syncing.{SaveIs, flies-save}
use Rattle.core_counts.proofs.thrift.short.SyncTracks.{Cov, Running, Tracked, reached-tracked}

-- ---- as it is sent

module _ (m : Mounted) (setup : Setup) (h : List Entry) (one : OneLane h) (i x end : ℕ) (f : List ℕ) (s : ShortSavedWrite setup h i x f end)
    (a : IsAfterAnswers (machine_of m) setup h i (Sent s.bytes)) where
  abbrev rest : List Entry
  rest = Sent s.bytes ∷ a.after

  reach : Reaches (machine_of m) setup a.before a.old
  reach = notes-reach (machine_of m) setup a.before a.old a.notes

  found : a.old.lost ≡ false
  found = by a.old.lost refl a.step
    where
      by : (b : Bool) → a.old.lost ≡ b → SendsIf b a.old (Some s.bytes) a.new → a.old.lost ≡ false
      by true is t = absurd (let no_way : Some s.bytes ≡ None = t.0 in cc)
      by false is t = is

  known : Known setup a.before a.old
  known = reached-all (machine_of m) (begins-unbegun m) setup a.before a.old reach found

  now : SentNow a.old s.bytes a.new
  now = sent_now a.old s.bytes a.new a.step

  sound : AreSound a.old.calls.cred a.old.calls.first_xid (next_xid a.old.calls) a.old.calls.calls
  sound = known.rows.sound.calls.each

  waits_ : waiting_at now.xid a.old.calls.calls ≡ Some now.call
  waits_ = (at_sent a.old.calls.cred a.old.calls.first_xid (next_xid a.old.calls) now.xid a.old.calls.calls now.call sound now.due).before

  some : 1 ≤ setup.wsize
  some = let short = s.short in omega (arith, short)

  tracked : Tracked m setup f end (end + 1) refl some x s.op s.sync a.before a.old
  tracked = reached-tracked m setup f end (end + 1) refl some x s.op s.sync a.before a.old reach found

  before_one : OneLane a.before
  before_one = one-before a.before rest (subst OneLane a.is one)

  -- ---- its call, and its piece

  whole : Whole setup a.old.shelf.back now.xid now.call.bytes
  whole = tracked.wholly.all now.xid now.call waits_

  call_is : write_call f s.offset s.how s.data_ ≡ whole.call
  call_is =
      one-call s.xid now.xid (write_call f s.offset s.how s.data_) whole.call now.call.bytes tt
      (subst (SpellsCall s.xid (write_call f s.offset s.how s.data_)) now.bytes_is s.spells) whole.spells.spells

  inside : IsInFlight now.xid f whole.call a.old.shelf.back
  inside = whole.has f (ap written_file (sym call_is))

  same : write_call f s.offset s.how s.data_ ≡ write_call f inside.piece.offset inside.piece.how inside.piece.bytes
  same = call_is ∙ inside.is

  offset_is : (o p k l : ℕ) (d e : List ℕ) → write_call f o k d ≡ write_call f p l e → o ≡ p
  offset_is o p k l d e is = cc

  data_is : (o p k l : ℕ) (d e : List ℕ) → write_call f o k d ≡ write_call f p l e → d ≡ e
  data_is o p k l d e is = cc

  ends : inside.piece.offset + length inside.piece.bytes ≡ end + 1
  ends =
      let from = offset_is s.offset inside.piece.offset s.how inside.piece.how s.data_ inside.piece.bytes same in
      let len = ap length (data_is s.offset inside.piece.offset s.how inside.piece.how s.data_ inside.piece.bytes same) in
      let is = s.is in
      omega (arith, from, len, is)

  shorter : length inside.piece.bytes < setup.wsize
  shorter =
      let len = ap length (data_is s.offset inside.piece.offset s.how inside.piece.how s.data_ inside.piece.bytes same) in
      let short = s.short in
      omega (arith, len, short)

  -- ---- its lane

  record Seat : Type 0 where
    at : ℕ
    number : ℕ
    machine : Machine
    there : slice_get a.old.lanes at ≡ Some (record { number = number; state = Busy machine })
    mine : UnderWay a.before number x (length a.before) s.op

  within : x < length a.before
  within = let there = a.there in let before = s.under_way.before in omega (arith, there, before)

  began : At a.before x (Began s.lane s.under_way.line s.op)
  began = At-back a.before rest x (Began s.lane s.under_way.line s.op) (subst (λ (k : List Entry). At k x (Began s.lane s.under_way.line s.op)) a.is s.under_way.began) within

  under_way : UnderWay a.before s.lane x (length a.before) s.op
  under_way = record {
    line = s.under_way.line;
    began = began;
    before = within;
    unanswered = λ n. s.under_way.unanswered
        (subst (λ (k : List Entry). AnsweredBefore k x i) (sym a.is) (subst (λ (n : ℕ). AnsweredBefore (a.before ++ rest) x n) a.there (answered-on a.before rest x n)));
  }

  seat : Seat
  seat = by (position (is_busy now.call.purpose.lane) a.old.lanes) refl
    where
      any : Lane
      any = record { number = 0; state = Over (answers.Refused faults.Memory) }

      of : (j number : ℕ) (state : State) → slice_get a.old.lanes j ≡ Some (record { number = number; state = state }) → Seat
      of j number (Over answer) there = absurd (a.none j number answer there)
      of j number (Busy machine) there = record {
        at = j;
        number = number;
        machine = machine;
        there = there;
        mine = subst (λ (n : ℕ). UnderWay a.before n x (length a.before) s.op) same_lane under_way;
      }
        where
          runs : Runs a.before number
          runs = known.lanes.busy j number (to-map number_of a.old.lanes j (record { number = number; state = Busy machine }) there)

          same_lane : s.lane ≡ number
          same_lane = before_one x runs.x s.lane number s.under_way.line runs.line s.op runs.op began runs.began

      by : (o : Option ℕ) → position (is_busy now.call.purpose.lane) a.old.lanes ≡ o → Seat
      by None none = absurd (none-busy a.old now.xid now.call waits_ none known.known.counted)
      by (Some j) is =
          let busy = position-Some (is_busy now.call.purpose.lane) a.old.lanes j any is in
          let lane = get_or a.old.lanes j any in
          of j lane.number lane.state (slice_get-get_or a.old.lanes j any busy.0)

  -- ---- its save

  abbrev Covered : Type 0
  Covered = Cov m setup f end (end + 1) refl some x s.op s.sync a.before

  unused-not : IsUnused now.xid a.old.shelf.back → Covered
  unused-not free = absurd (let no_way : None ≡ Some inside.piece = sym (free f) ∙ inside.there in cc)

  covered-by : (flown : Flown) (sv : Saving) → flies_of seat.machine ≡ flies_if (saves.is_sending sv.phase) sv.file → sv.file ≡ f → fly_at (of_file sv.file a.old.shelf.back) (end + 1) ≡ Some flown
      → flown.xid < now.xid → Covered
  covered-by flown sv sends here at less =
      inl (covered-now m setup f (end + 1) a.before a.old reach found known before_one tracked.basis tracked.wholly seat.at seat.number seat.machine seat.there sv sends here flown at
      (λ w waiting. early-tried a.old.calls.cred a.old.calls.first_xid (next_xid a.old.calls) now.xid flown.xid a.old.calls.calls now.call w sound now.due waiting less))

  by-save : (sv : Saving) → flies_of seat.machine ≡ flies_if (saves.is_sending sv.phase) sv.file
      → SaveIs end (end + 1) setup.wsize refl some f Covered sv a.old.shelf.back → sv.file ≡ f → Covered
  by-save sv sends held here = which (held here)
    where
      own : piece_under now.xid (of_file sv.file a.old.shelf.back).pieces ≡ Some inside.piece
      own = ap (λ (g : List ℕ). piece_under now.xid (of_file g a.old.shelf.back).pieces) here ∙ inside.there

      xid_is : inside.piece.xid ≡ now.xid
      xid_is = under-own now.xid (of_file sv.file a.old.shelf.back).pieces inside.piece own

      of : Second end (end + 1) setup.wsize sv.upto (of_file sv.file a.old.shelf.back) → Covered
      of (waits cell at ready plain low each) =
          absurd (let full_ = each-under (EndsLong end (end + 1) setup.wsize) now.xid (of_file sv.file a.old.shelf.back).pieces inside.piece each own ends in let less = shorter in omega (arith, full_, less))
      of (flies flown at none plain low each) =
          later (each-under (EndsAfter end (end + 1) setup.wsize flown.xid) now.xid (of_file sv.file a.old.shelf.back).pieces inside.piece each own ends)
        where
          later : (length inside.piece.bytes ≡ setup.wsize) ⊎ (flown.xid < inside.piece.xid) → Covered
          later (inl full_) = absurd (let less = shorter in omega (arith, full_, less))
          later (inr less) = covered-by flown sv sends here at (omega (arith, less, xid_is))

      which : Covered ⊎ Hold end (end + 1) setup.wsize refl some sv a.old.shelf.back → Covered
      which (inl c) = c
      which (inr held_) = of held_.open_.second

  covered : Covered
  covered = which (its-flight m setup f (end + 1) a.before a.old reach found known before_one tracked.basis tracked.wholly seat.at seat.number seat.machine seat.there now.xid (Some now.call) waits_)
    where
      runs : Running m setup f end (end + 1) refl some x s.op s.sync a.before seat.machine a.old.shelf.back
      runs = tracked.run before_one seat.at (record { number = seat.number; state = Busy seat.machine }) seat.there seat.mine

      by-sends : (sv : Saving) → flies_of seat.machine ≡ flies_if (saves.is_sending sv.phase) sv.file → SaveIs end (end + 1) setup.wsize refl some f Covered sv a.old.shelf.back
          → (b : Bool) → Flies now.xid (flies_if b sv.file) a.old.shelf.back → Covered
      by-sends sv sends held false free = unused-not free
      by-sends sv sends held true in_file = elim (same-or sv.file f) [
        | inl here ↦ by-save sv sends held (sym here)
        | inr off ↦ absurd (let no_way : None ≡ Some inside.piece = sym (in_file.others f off) ∙ inside.there in cc)
      ]

      of : (o : Option (List ℕ)) → flies_of seat.machine ≡ o → Flies now.xid (flies_of seat.machine) a.old.shelf.back → Covered
      of None is flies_ = unused-not (subst (λ (o : Option (List ℕ)). Flies now.xid o a.old.shelf.back) is flies_)
      of (Some g) is flies_ =
          let save = flies-save end (end + 1) setup.wsize refl some f Covered seat.machine g a.old.shelf.back runs is in
          by-sends save.0 save.1 save.2 (saves.is_sending save.0.phase) (subst (λ (o : Option (List ℕ)). Flies now.xid o a.old.shelf.back) save.1 flies_)

      which : (IsUnused now.xid a.old.shelf.back) ⊎ Flies now.xid (flies_of seat.machine) a.old.shelf.back → Covered
      which (inl free) = unused-not free
      which (inr flies_) = of (flies_of seat.machine) refl flies_

  pub was-covered : CoveredEarlier h i f (end + 1) ⊎ BeganOtherwise m setup h x f end
  was-covered = by covered
    where
      by : Covered → CoveredEarlier h i f (end + 1) ⊎ BeganOtherwise m setup h x f end
      by (inl c) = inl (record {
        at = c.at;
        xid = c.xid;
        bytes = c.bytes;
        call = c.call;
        sent = subst (λ (k : List Entry). At k c.at (Sent c.bytes)) (sym a.is) (At-grow a.before rest c.at (Sent c.bytes) c.sent);
        spells = c.spells;
        covers = c.covers;
        earlier = let early = c.earlier in let there = a.there in omega (arith, early, there);
      })
      by (inr c) = inr (record {
        before = c.before;
        after = c.after ++ rest;
        is = a.is ∙ ap (λ (k : List Entry). k ++ rest) c.is ∙ append_assoc c.before c.after rest;
        there = c.there;
        lane = c.lane;
        line = c.line;
        op = c.op;
        slot = c.slot;
        began = subst (λ (k : List Entry). At k x (Began c.lane c.line c.op)) (sym a.is) (At-grow a.before rest x (Began c.lane c.line c.op) c.began);
        of = c.of;
        holds = c.holds;
        quiet = c.quiet;
        idle = c.idle;
        view = c.view;
        reaches = c.reaches;
        found = c.found;
        other = c.other;
      })

pub saved-long : SavedWritesLong
saved-long m setup h v notes one i x end f s = by (answers-first (machine_of m) setup h v notes i (Sent s.bytes) s.sent.sent tt)
  where
    by : NoneBegan h i ⊎ IsAfterAnswers (machine_of m) setup h i (Sent s.bytes) → CoveredEarlier h i f (end + 1) ⊎ BeganOtherwise m setup h x f end
    by (inl none) = absurd (none x s.lane s.under_way.line s.op s.under_way.began s.under_way.before)
    by (inr a) = was-covered m setup h one i x end f s a
