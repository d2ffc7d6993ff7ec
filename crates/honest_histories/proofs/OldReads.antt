-- Histories of wrong clients over an honest server: lawful, once and fresh; and the laws of reads refuse each.
use Rattle.std.proofs.Common.{inl, inr, ◌≡◌, ◌<◌, ◌≤◌, ℕ, Bool, true, List, [], ◌∷◌, length, Some, refl, sym, ap, subst, slice_get, get_or, arith, ◌==◌}
use Rattle.std.proofs.lemmas.Bool.{cases_lt, eqb-true}
use Rattle.nfs_types.specs.declared.mode.Mode.TheVariants as modes
use Rattle.world_model.specs.declared.answer.Answer.{Answer}
use Rattle.world_model.specs.declared.answer.Answer.TheVariants.{Done}
use Rattle.world_model.specs.declared.answer.Value.TheVariants as values
use Rattle.world_model.specs.declared.entry.Entry.{Entry}
use Rattle.world_model.specs.declared.entry.Entry.TheVariants as entries
use Rattle.world_model.specs.declared.message.Call.{Call}
use Rattle.world_model.specs.declared.message.Reply.{Reply}
use Rattle.world_model.specs.declared.op.Op.{Op}
use Rattle.world_model.specs.declared.op.Op.TheVariants as ops
use Rattle.world_model.specs.Entries.{At}
use Rattle.world_model.specs.Fresh.{Fresh}
use Rattle.world_model.specs.Lawful.{Lawful}
use Rattle.world_model.specs.Mounts.{Origin}
use Rattle.world_model.specs.Once.{Once}
use Rattle.claims.specs.Modes.{Modes, usual_modes}
use Rattle.claims.specs.ReadTrue.{ReadsBytes, ReadCurrent, ReadOwn, ReadShort, IsCurrent, own, held, hole, Since, each_read, opened, kept}
use Rattle.claims.specs.Touched.{WritesByte, Wrote, write, fill, put, Covers}
use Rattle.honest_histories.proofs.SmallServer.{State, empty_server, the_file, get_attr, got_attr, no_wcc, write_of, wrote_of, wcc_of, commit, committed, read_of, read_reply, after_write, after_commit, may_write, may_write_wcc, may_commit, may_get_attr, may_read}
use Rattle.honest_histories.proofs.Written.{Talk, talk_attr, talk_write_wcc, talk_commit, talk_read}
use Rattle.honest_histories.proofs.Made.{◌⍮◌, Event, Begins, Answers, Sends, Does, Comes, Others, Looks, entries_of, state_at, made, Right, Changed, idle, did, came, newer, steadier, lawful, fresh, once}
use Rattle.honest_histories.proofs.Seen.{quiet, begins, is_change, begins_outside, ended, last_reply, holds, only_change, untouched, each, each_at, first_byte, has_now}
use Rattle.honest_histories.proofs.Opened.{ok, the_path, opening, right_from, opened_by, IsPlain, slot_holds, is_of}

-- ---- what a file of one byte holds

abbrev pub one_byte : State
one_byte = record empty_server { now = 1 ∷ []; stable = 1 ∷ [] }

abbrev two_byte : State
two_byte = after_write one_byte 0 (2 ∷ []) 2

pub one_is_plain : IsPlain one_byte
one_is_plain = record { letter = refl; changed = omega arith; size = omega arith; sound = omega arith }

abbrev pub gave : ℕ → Answer
gave b = Done (values.Bytes (b ∷ []))

abbrev pub the_read : Op
the_read = ops.Read 1 0 1

two_for_one : (b : ℕ) → b ≡ 2 → slice_get (b ∷ []) 0 ≡ Some 1 → ⊥
two_for_one b is e = let one : b ≡ 1 = cc e in omega (arith, is, one)

-- In a session that asks at each open a read shows moments from the open on.
since_open : (h : List Entry) (r o n : ℕ) → Since usual_modes h r o n → o ≤ n
since_open h r o n (each_read asks le) = absurd (cc asks)
since_open h r o n (opened not_each le) = le
since_open h r o n (kept not_each no_open long young) = absurd (cc no_open)

-- none of the operations writes
unwritten : (m : Modes) (origin : Origin) (es : List Event) (to w i v : ℕ) → quiet (begins is_change) 0 to (entries_of es) ≡ true → w < to → WritesByte m origin (entries_of es) w the_file i v → ⊥
unwritten m origin es to w i v q lt (write slot offset bytes of covers) = let low = begins_outside es is_change 0 to q w of.lane of.line (ops.Write slot offset bytes) of.began refl lt in omega (arith, low)
unwritten m origin es to w i v q lt (fill slot offset count of low_ high) = let low = begins_outside es is_change 0 to q w of.lane of.line (ops.Fill slot offset count v) of.began refl lt in omega (arith, low)
unwritten m origin es to w i v q lt (put lane line offset n path bytes began ends leads covers) = let low = begins_outside es is_change 0 to q w lane line (ops.Put path offset bytes) began refl lt in omega (arith, low)

-- ---- a read of nothing

abbrev nothing_rest : List Event
nothing_rest = Looks 11 ∷ Begins 1 2 the_read ∷ Answers 1 2 (Done (values.Bytes [])) ∷ []

abbrev pub reads_nothing : List Event
reads_nothing = opening one_byte modes.R nothing_rest

reads_nothing_right : Right one_byte reads_nothing
reads_nothing_right = right_from one_byte (opened_by modes.R) (Answers 1 1 ok ∷ nothing_rest) one_is_plain tt

reads_nothing_is_lawful : Lawful (made one_byte reads_nothing)
reads_nothing_is_lawful = lawful one_byte reads_nothing reads_nothing_right

reads_nothing_is_fresh : Fresh (made one_byte reads_nothing)
reads_nothing_is_fresh = fresh one_byte reads_nothing reads_nothing_right

reads_nothing_is_once : Once (entries_of reads_nothing)
reads_nothing_is_once = once reads_nothing refl refl

-- the file has one byte at each moment
abbrev has_one : State → Bool
has_one s = length s.now == 1

not_short : (s : State) (now : List ℕ) → has_one s ≡ true → s.now ≡ now → length now ≤ 0 → ⊥
not_short s now one is le = let a = eqb-true (length s.now) 1 one in let b = ap length is in omega (arith, a, b, le)

may_not_read_nothing : (m : Modes) (origin : Origin) → ReadShort m origin (made one_byte reads_nothing) → ⊥
may_not_read_nothing m origin short =
    let h = (short 16 17 7 the_file 0 1 [] the_read_is (omega arith)).short in
    let s = state_at one_byte reads_nothing h.n in
    not_short s h.now (each_at has_one 0 one_byte reads_nothing refl h.n (omega arith)) (has_now s h.now h.stable h.has) h.short
  where
    the_read_is : ReadsBytes m (entries_of reads_nothing) 16 17 7 the_file 0 1 []
    the_read_is = record {
      lane = 1;
      slot = 1;
      ended = ended reads_nothing 1 2 16 17 the_read (Done (values.Bytes [])) refl refl (omega arith) refl;
      holds = slot_holds m one_byte modes.R nothing_rest 16 refl (omega arith) refl;
    }

-- ---- a page that is kept though its READ was made before the open

abbrev the_write : Call
the_write = write_of 0 (2 ∷ [])

-- The file is two bytes' first one from the foreign WRITE on, and a second lane opens it; then the reply to the READ comes,
-- which is kept, and the second lane reads it.
abbrev stale_rest : List Event
stale_rest =
    Looks 11 ∷ Begins 1 2 the_read
    ∷ Sends 4 (read_of 0) ∷ Does 4 (read_of 0) (read_reply 1 true) one_byte
    ∷ Others the_write (wrote_of no_wcc 1 0 1) two_byte
    ∷ Looks 12 ∷ Begins 2 1 (opened_by modes.R)
    ∷ Sends 5 get_attr ∷ Does 5 get_attr (got_attr two_byte) two_byte ∷ Comes 5 (got_attr two_byte)
    ∷ Answers 2 1 ok
    ∷ Comes 4 (read_reply 1 true) ∷ Answers 1 2 (gave 1)
    ∷ Looks 13 ∷ Begins 2 2 the_read ∷ Answers 2 2 (gave 1) ∷ []

abbrev pub keeps_stale : List Event
keeps_stale = opening one_byte modes.R stale_rest

pub read_talk : (xid : ℕ) → xid < 256 → Talk xid (read_of 0) (read_reply 1 true)
read_talk xid fits = talk_read xid 0 1 true (omega (arith, fits)) (omega arith)

two_attr : Talk 5 get_attr (got_attr two_byte)
two_attr = talk_attr 5 two_byte (omega arith) (omega arith) (omega arith)

overwrites : Changed one_byte the_write (wrote_of no_wcc 1 0 1) two_byte
overwrites = record { serves = may_write one_byte 0 2 (2 ∷ []) (omega arith); moves = newer refl (omega arith) refl refl (omega arith) }

keeps_stale_right : Right one_byte keeps_stale
keeps_stale_right = right_from one_byte (opened_by modes.R) (Answers 1 1 ok ∷ stale_rest) one_is_plain (
    did 17 (omega arith) refl (read_talk 4 (omega arith)) (may_read one_byte 0 1 true refl (λ e. omega arith)) (idle one_byte)
    ⍮ overwrites
    ⍮ did 22 (omega arith) refl two_attr (may_get_attr two_byte) (idle two_byte)
    ⍮ came 23 get_attr (omega arith) refl two_attr
    ⍮ came 18 (read_of 0) (omega arith) refl (read_talk 4 (omega arith))
    ⍮ tt)

keeps_stale_is_lawful : Lawful (made one_byte keeps_stale)
keeps_stale_is_lawful = lawful one_byte keeps_stale keeps_stale_right

keeps_stale_is_fresh : Fresh (made one_byte keeps_stale)
keeps_stale_is_fresh = fresh one_byte keeps_stale keeps_stale_right

keeps_stale_is_once : Once (entries_of keeps_stale)
keeps_stale_is_once = once keeps_stale refl refl

-- from that WRITE on the file begins with another byte
abbrev begins_two : State → Bool
begins_two s = get_or s.now 0 0 == 2

not_one : (s : State) (now : List ℕ) → begins_two s ≡ true → s.now ≡ now → slice_get now 0 ≡ Some 1 → ⊥
not_one s now two is got = let a = eqb-true (get_or s.now 0 0) 2 two in let b = first_byte s now 1 is got in omega (arith, a, b)

-- a byte 1 that was read of a file that begins with 2 since the open, and that this client never wrote
not_current : (origin : Origin) (first : State) (es : List Event) (r y o : ℕ) → each begins_two o first es ≡ true
    → ((w v n : ℕ) → n ≤ y → w < n → WritesByte usual_modes origin (entries_of es) w the_file 0 1 → ⊥) → IsCurrent usual_modes origin (made first es) r y o the_file 0 1 → ⊥
not_current origin first es r y o two none (own p) = none p.pending.w 1 p.n p.moment.soon p.pending.before p.pending.writes
not_current origin first es r y o two none (held h) = not_one (state_at first es h.n) h.now (each_at begins_two o first es two h.n (since_open (entries_of es) r o h.n h.late)) (has_now (state_at first es h.n) h.now h.stable h.has) h.holds
not_current origin first es r y o two none (hole q u zero_ size before pending) = absurd (cc zero_)

may_not_keep_stale : (origin : Origin) → ReadCurrent usual_modes origin (made one_byte keeps_stale) → ⊥
may_not_keep_stale origin current =
    not_current origin one_byte keeps_stale 29 30 21 refl (λ w v n soon before writes. unwritten usual_modes origin keeps_stale 31 w 0 1 refl (omega (arith, soon, before)) writes)
    (current 29 30 21 the_file 0 1 (1 ∷ []) the_read_is 0 1 refl)
  where
    the_read_is : ReadsBytes usual_modes (entries_of keeps_stale) 29 30 21 the_file 0 1 (1 ∷ [])
    the_read_is = record {
      lane = 2;
      slot = 1;
      ended = ended keeps_stale 2 2 29 30 the_read (gave 1) refl refl (omega arith) refl;
      holds = holds usual_modes keeps_stale 29 2 1 21 25 modes.R the_path values.Nothing (ended keeps_stale 2 1 21 25 (opened_by modes.R) ok refl refl (omega arith) refl)
          (last_reply keeps_stale 25 24 22 5 get_attr (got_attr two_byte) refl refl refl (omega arith) (omega arith) (omega arith) refl refl two_attr.call_is) (omega arith) refl;
    }

-- ---- attributes after an own WRITE that are taken for a known state

abbrev both_bytes : State
both_bytes = after_write two_byte 1 (3 ∷ []) 3

abbrev both_stable : State
both_stable = after_commit both_bytes

abbrev own_write : Call
own_write = write_of 1 (3 ∷ [])

abbrev told : Reply
told = wrote_of (wcc_of two_byte both_bytes) 1 0 1

-- A page is read; another client changes its byte; the client writes the next one, and takes the attributes after its WRITE
-- for those of the page, though those before it weren't. So a later open finds the page as it was.
abbrev wcc_rest : List Event
wcc_rest =
    Looks 11 ∷ Begins 1 2 the_read
    ∷ Sends 4 (read_of 0) ∷ Does 4 (read_of 0) (read_reply 1 true) one_byte ∷ Comes 4 (read_reply 1 true)
    ∷ Answers 1 2 (gave 1)
    ∷ Others the_write (wrote_of no_wcc 1 0 1) two_byte
    ∷ Looks 12 ∷ Begins 1 3 (ops.Write 1 1 (3 ∷ [])) ∷ Answers 1 3 ok
    ∷ Looks 13 ∷ Begins 1 4 (ops.Sync 1)
    ∷ Sends 5 own_write ∷ Does 5 own_write told both_bytes ∷ Comes 5 told
    ∷ Sends 6 commit ∷ Does 6 commit (committed 1) both_stable ∷ Comes 6 (committed 1)
    ∷ Answers 1 4 ok
    ∷ Looks 14 ∷ Begins 2 1 (opened_by modes.R)
    ∷ Sends 7 get_attr ∷ Does 7 get_attr (got_attr both_stable) both_stable ∷ Comes 7 (got_attr both_stable)
    ∷ Answers 2 1 ok
    ∷ Looks 15 ∷ Begins 2 2 the_read ∷ Answers 2 2 (gave 1) ∷ []

abbrev pub trusts_wcc : List Event
trusts_wcc = opening one_byte modes.RW wcc_rest

own_talk : Talk 5 own_write told
own_talk = talk_write_wcc 5 1 1 (3 ∷ []) two_byte both_bytes (omega arith) (omega arith) (omega arith) (omega arith) (omega arith) (omega arith) (omega arith)

commit_talk : Talk 6 commit (committed 1)
commit_talk = talk_commit 6 1 (omega arith)

both_attr : Talk 7 get_attr (got_attr both_stable)
both_attr = talk_attr 7 both_stable (omega arith) (omega arith) (omega arith)

trusts_wcc_right : Right one_byte trusts_wcc
trusts_wcc_right = right_from one_byte (opened_by modes.RW) (Answers 1 1 ok ∷ wcc_rest) one_is_plain (
    did 17 (omega arith) refl (read_talk 4 (omega arith)) (may_read one_byte 0 1 true refl (λ e. omega arith)) (idle one_byte)
    ⍮ came 18 (read_of 0) (omega arith) refl (read_talk 4 (omega arith))
    ⍮ overwrites
    ⍮ did 27 (omega arith) refl own_talk (may_write_wcc two_byte 1 3 (3 ∷ []) (omega arith)) (newer refl (omega arith) refl refl (omega arith))
    ⍮ came 28 own_write (omega arith) refl own_talk
    ⍮ did 30 (omega arith) refl commit_talk (may_commit both_bytes) (steadier both_bytes both_stable refl refl refl refl refl (omega arith))
    ⍮ came 31 commit (omega arith) refl commit_talk
    ⍮ did 36 (omega arith) refl both_attr (may_get_attr both_stable) (idle both_stable)
    ⍮ came 37 get_attr (omega arith) refl both_attr
    ⍮ tt)

trusts_wcc_is_lawful : Lawful (made one_byte trusts_wcc)
trusts_wcc_is_lawful = lawful one_byte trusts_wcc trusts_wcc_right

trusts_wcc_is_fresh : Fresh (made one_byte trusts_wcc)
trusts_wcc_is_fresh = fresh one_byte trusts_wcc trusts_wcc_right

trusts_wcc_is_once : Once (entries_of trusts_wcc)
trusts_wcc_is_once = once trusts_wcc refl refl

-- the one write is of another place
not_at_0 : (bytes : List ℕ) (v : ℕ) → Covers 1 bytes 0 v → ⊥
not_at_0 bytes v c = let at = c.place in omega (arith, at)

op_is : (a b : Op) (k l m n : ℕ) → Some (entries.Began k l a) ≡ Some (entries.Began m n b) → a ≡ b
op_is a b k l m n e = cc

only : (w lane line : ℕ) (op : Op) → At (entries_of trusts_wcc) w (entries.Began lane line op) → is_change op ≡ true → w < 43 → w ≡ 23
only w lane line op at such lt =
    let low = begins_outside trusts_wcc is_change 24 43 refl w lane line op at such lt in
    elim (cases_lt w 23) [
      | inl less ↦ (let none = begins_outside trusts_wcc is_change 0 23 refl w lane line op at such less in absurd (omega (arith, none)))
      | inr le ↦ omega (arith, low, le)
    ]

elsewhere : (m : Modes) (origin : Origin) (w : ℕ) → w < 43 → WritesByte m origin (entries_of trusts_wcc) w the_file 0 1 → ⊥
elsewhere m origin w lt (write slot offset bytes of covers) = by (only w of.lane of.line (ops.Write slot offset bytes) of.began refl lt) of.began
  where
    by : w ≡ 23 → At (entries_of trusts_wcc) w (entries.Began of.lane of.line (ops.Write slot offset bytes)) → ⊥
    by is at =
        let there : At (entries_of trusts_wcc) 23 (entries.Began of.lane of.line (ops.Write slot offset bytes)) = subst (λ (z : ℕ). At (entries_of trusts_wcc) z (entries.Began of.lane of.line (ops.Write slot offset bytes))) is at in
        let same_op = op_is (ops.Write 1 1 (3 ∷ [])) (ops.Write slot offset bytes) 1 3 of.lane of.line there in
        let one : 1 ≡ offset = cc same_op in
        not_at_0 bytes 1 (subst (λ (z : ℕ). Covers z bytes 0 1) (sym one) covers)
elsewhere m origin w lt (fill slot offset count of low high) =
    let there = subst (λ (z : ℕ). At (entries_of trusts_wcc) z (entries.Began of.lane of.line (ops.Fill slot offset count 1))) (only w of.lane of.line (ops.Fill slot offset count 1) of.began refl lt) of.began in
    absurd (cc (op_is (ops.Write 1 1 (3 ∷ [])) (ops.Fill slot offset count 1) 1 3 of.lane of.line there))
elsewhere m origin w lt (put lane line offset n path bytes began ends leads covers) =
    let there = subst (λ (z : ℕ). At (entries_of trusts_wcc) z (entries.Began lane line (ops.Put path offset bytes))) (only w lane line (ops.Put path offset bytes) began refl lt) began in
    absurd (cc (op_is (ops.Write 1 1 (3 ∷ [])) (ops.Put path offset bytes) 1 3 lane line there))

may_not_trust_wcc : (origin : Origin) → ReadCurrent usual_modes origin (made one_byte trusts_wcc) → ⊥
may_not_trust_wcc origin current =
    not_current origin one_byte trusts_wcc 41 42 35 refl (λ w v n soon before writes. elsewhere usual_modes origin w (omega (arith, soon, before)) writes)
    (current 41 42 35 the_file 0 1 (1 ∷ []) the_read_is 0 1 refl)
  where
    the_read_is : ReadsBytes usual_modes (entries_of trusts_wcc) 41 42 35 the_file 0 1 (1 ∷ [])
    the_read_is = record {
      lane = 2;
      slot = 1;
      ended = ended trusts_wcc 2 2 41 42 the_read (gave 1) refl refl (omega arith) refl;
      holds = holds usual_modes trusts_wcc 41 2 1 35 39 modes.R the_path values.Nothing (ended trusts_wcc 2 1 35 39 (opened_by modes.R) ok refl refl (omega arith) refl)
          (last_reply trusts_wcc 39 38 36 7 get_attr (got_attr both_stable) refl refl refl (omega arith) (omega arith) (omega arith) refl refl both_attr.call_is) (omega arith) refl;
    }

-- ---- a read that leaves out what was written

abbrev own_rest : List Event
own_rest =
    Looks 11 ∷ Begins 1 2 (ops.Write 1 0 (2 ∷ [])) ∷ Answers 1 2 ok
    ∷ Looks 12 ∷ Begins 1 3 the_read
    ∷ Sends 4 (read_of 0) ∷ Does 4 (read_of 0) (read_reply 1 true) one_byte ∷ Comes 4 (read_reply 1 true)
    ∷ Answers 1 3 (gave 1) ∷ []

abbrev pub forgets_own : List Event
forgets_own = opening one_byte modes.RW own_rest

forgets_own_right : Right one_byte forgets_own
forgets_own_right = right_from one_byte (opened_by modes.RW) (Answers 1 1 ok ∷ own_rest) one_is_plain (
    did 20 (omega arith) refl (read_talk 4 (omega arith)) (may_read one_byte 0 1 true refl (λ e. omega arith)) (idle one_byte)
    ⍮ came 21 (read_of 0) (omega arith) refl (read_talk 4 (omega arith))
    ⍮ tt)

forgets_own_is_lawful : Lawful (made one_byte forgets_own)
forgets_own_is_lawful = lawful one_byte forgets_own forgets_own_right

forgets_own_is_fresh : Fresh (made one_byte forgets_own)
forgets_own_is_fresh = fresh one_byte forgets_own forgets_own_right

forgets_own_is_once : Once (entries_of forgets_own)
forgets_own_is_once = once forgets_own refl refl

one_for_two : (b : ℕ) → b ≡ 1 → slice_get (b ∷ []) 0 ≡ Some 2 → ⊥
one_for_two b is e = let two : b ≡ 2 = cc e in omega (arith, is, two)

may_not_forget_own : (m : Modes) (origin : Origin) → ReadOwn m origin (made one_byte forgets_own) → ⊥
may_not_forget_own m origin reads =
    one_for_two 1 refl (reads 19 23 7 the_file 0 1 (1 ∷ []) the_read_is 16 17 0 2 wrote_it (omega arith) (omega arith) (untouched m origin one_byte forgets_own 16 23 0 (only_change forgets_own 16 23 0 refl refl refl refl)))
  where
    the_read_is : ReadsBytes m (entries_of forgets_own) 19 23 7 the_file 0 1 (1 ∷ [])
    the_read_is = record {
      lane = 1;
      slot = 1;
      ended = ended forgets_own 1 3 19 23 the_read (gave 1) refl refl (omega arith) refl;
      holds = slot_holds m one_byte modes.RW own_rest 19 refl (omega arith) refl;
    }

    wrote_it : Wrote m (entries_of forgets_own) 16 17 the_file 0 2
    wrote_it = write 1 1 0 (2 ∷ []) values.Nothing (is_of m one_byte modes.RW own_rest 16 2 (ops.Write 1 0 (2 ∷ [])) refl (omega arith) refl refl refl)
        (ended forgets_own 1 2 16 17 (ops.Write 1 0 (2 ∷ [])) ok refl refl (omega arith) refl) (record { k = 0; place = refl; byte = refl })
