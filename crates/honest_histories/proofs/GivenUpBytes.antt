-- A wrong client that sends a byte again which its last close gave up: the history is lawful, once and fresh, and the law of calls refuses the WRITE.
use Rattle.std.proofs.Common.{inl, inr, ◌≡◌, ◌<◌, ◌≤◌, ℕ, Bool, true, false, List, [], ◌∷◌, Some, refl, sym, subst, ◌∙◌, arith}
use Rattle.std.proofs.lemmas.Bool.{cases_lt}
use Rattle.nfs_types.specs.declared.mode.Mode.TheVariants as modes
use Rattle.world_model.specs.declared.answer.Answer.{Answer}
use Rattle.world_model.specs.declared.answer.Answer.TheVariants.{Done, Refused}
use Rattle.world_model.specs.declared.answer.Fault.TheVariants as faults
use Rattle.world_model.specs.declared.entry.Entry.TheVariants as entries
use Rattle.world_model.specs.declared.op.Op.{Op}
use Rattle.world_model.specs.declared.op.Op.TheVariants as ops
use Rattle.world_model.specs.Entries.{At}
use Rattle.world_model.specs.Fresh.{Fresh}
use Rattle.world_model.specs.Lawful.{Lawful}
use Rattle.world_model.specs.Mounts.{Origin}
use Rattle.world_model.specs.Once.{Once}
use Rattle.world_model.specs.Operations.{AnsweredBefore, Ended, NoneCame}
use Rattle.world_model.proofs.Places.{At-below}
use Rattle.claims.specs.CallsAsked.{KeepsTo}
use Rattle.claims.specs.Modes.{Modes}
use Rattle.claims.specs.Pending.{LeftAlone, NoneOpens, NoPutAt, Pending, PutRefused}
use Rattle.claims.specs.Slots.{InSlot, Opens}
use Rattle.claims.specs.Terms.{Terms}
use Rattle.claims.specs.Touched.{Left, WritesByte, fill, put, write}
use Rattle.honest_histories.proofs.SmallServer.{State, empty_server, the_file, the_lookup, the_found, get_attr, got_attr, commit, committed, no_space, after_commit, may_write, may_refuse_write, may_commit, may_look_up, may_get_attr}
use Rattle.honest_histories.proofs.Written.{Talk, reply_record, talk_attr, talk_lookup, talk_no_space}
use Rattle.honest_histories.proofs.Made.{◌⍮◌, Event, Begins, Answers, Sends, Does, Comes, Looks, entries_of, made, Right, idle, did, came, newer, steadier, lawful, fresh, once}
use Rattle.honest_histories.proofs.Seen.{begins_outside, ended, is_answer, is_change, outside}
use Rattle.honest_histories.proofs.Opened.{ok, opening, right_from, opened_by, is_of}
use Rattle.honest_histories.proofs.RestartedPut.{empty_is_plain, its_write, the_write, unstable, wrote_by}
use Rattle.honest_histories.proofs.UnsettledBytes.{commit_talk}

-- ---- the history

abbrev the_op : Op
the_op = ops.Write 1 0 (1 ∷ [])

abbrev the_close : Op
the_close = ops.Close 1

abbrev no_room : Answer
no_room = Refused (faults.Nfs 28)

-- The close is refused as its WRITE is, and no slot holds the file then. The file is opened again, and a sync sends the old byte.
abbrev given_up_rest : List Event
given_up_rest =
    Looks 11 ∷ Begins 1 2 the_op ∷ Answers 1 2 ok
    ∷ Looks 12 ∷ Begins 1 3 the_close
    ∷ Sends 4 the_write ∷ Does 4 the_write no_space empty_server ∷ Comes 4 no_space
    ∷ Answers 1 3 no_room
    ∷ Looks 13 ∷ Begins 1 4 (opened_by modes.W)
    ∷ Sends 5 the_lookup ∷ Does 5 the_lookup the_found empty_server ∷ Comes 5 the_found
    ∷ Sends 6 get_attr ∷ Does 6 get_attr (got_attr empty_server) empty_server ∷ Comes 6 (got_attr empty_server)
    ∷ Answers 1 4 ok
    ∷ Looks 14 ∷ Begins 1 5 (ops.Sync 1)
    ∷ Sends 7 the_write ∷ Does 7 the_write (wrote_by 1) unstable ∷ Comes 7 (wrote_by 1)
    ∷ Sends 8 commit ∷ Does 8 commit (committed 1) (after_commit unstable) ∷ Comes 8 (committed 1)
    ∷ Answers 1 5 ok ∷ []

abbrev pub sends_given_up : List Event
sends_given_up = opening empty_server modes.W given_up_rest

refused_talk : Talk 4 the_write no_space
refused_talk = talk_no_space 4 0 (1 ∷ []) (omega arith) (omega arith) (omega arith)

attr_talk : Talk 6 get_attr (got_attr empty_server)
attr_talk = talk_attr 6 empty_server (omega arith) (omega arith) (omega arith)

sends_given_up_right : Right empty_server sends_given_up
sends_given_up_right = right_from empty_server (opened_by modes.W) (Answers 1 1 ok ∷ given_up_rest) empty_is_plain (
    did 20 (omega arith) refl refused_talk (may_refuse_write empty_server 0 (1 ∷ [])) (idle empty_server)
    ⍮ came 21 the_write (omega arith) refl refused_talk
    ⍮ did 26 (omega arith) refl (talk_lookup 5 (omega arith)) (may_look_up empty_server refl) (idle empty_server)
    ⍮ came 27 the_lookup (omega arith) refl (talk_lookup 5 (omega arith))
    ⍮ did 29 (omega arith) refl attr_talk (may_get_attr empty_server) (idle empty_server)
    ⍮ came 30 get_attr (omega arith) refl attr_talk
    ⍮ did 35 (omega arith) refl (its_write 7 1 (omega arith)) (may_write empty_server 0 2 (1 ∷ []) (omega arith)) (newer refl (omega arith) refl refl (omega arith))
    ⍮ came 36 the_write (omega arith) refl (its_write 7 1 (omega arith))
    ⍮ did 38 (omega arith) refl (commit_talk 8 (omega arith)) (may_commit unstable) (steadier unstable (after_commit unstable) refl refl refl refl refl (omega arith))
    ⍮ came 39 commit (omega arith) refl (commit_talk 8 (omega arith))
    ⍮ tt)

sends_given_up_is_lawful : Lawful (made empty_server sends_given_up)
sends_given_up_is_lawful = lawful empty_server sends_given_up sends_given_up_right

sends_given_up_is_fresh : Fresh (made empty_server sends_given_up)
sends_given_up_is_fresh = fresh empty_server sends_given_up sends_given_up_right

sends_given_up_is_once : Once (entries_of sends_given_up)
sends_given_up_is_once = once sends_given_up refl refl

-- ---- the last close left the file alone

abbrev is_open : Op → Bool
is_open (ops.OpenFile slot mode path) = true
is_open op = false

abbrev is_put : Op → Bool
is_put (ops.Put path offset bytes) = true
is_put op = false

began_is : (a b : Op) (k l m n : ℕ) → Some (entries.Began k l a) ≡ Some (entries.Began m n b) → (a ≡ b) × (k ≡ m) × (l ≡ n)
began_is a b k l m n e = (cc, cc, cc)

-- one of the two opens, by where it began
first_open : (x lane line : ℕ) (op : Op) → At (entries_of sends_given_up) x (entries.Began lane line op) → is_open op ≡ true → x < 25 → x ≡ 7
first_open x lane line op at such early =
    let low = begins_outside sends_given_up is_open 8 25 refl x lane line op at such early in
    elim (cases_lt x 7) [
      | inl lt ↦ (let none = begins_outside sends_given_up is_open 0 7 refl x lane line op at such lt in absurd (omega (arith, none)))
      | inr le ↦ omega (arith, low, le)
    ]

-- the first was answered at the place 14
first_answered : (lane x y : ℕ) (op : Op) (a : Answer) → is_open op ≡ true → x < 25 → Ended (entries_of sends_given_up) lane x op y a → y ≡ 14
first_answered lane x y op a such early e =
    let at = first_open x lane e.line op e.began such early in
    let is = began_is (opened_by modes.W) op 1 1 lane e.line (subst (λ (z : ℕ). At (entries_of sends_given_up) z (entries.Began lane e.line op)) at e.began) in
    let answer = subst (λ (l : ℕ). At (entries_of sends_given_up) y (entries.Answered l 1 a)) (sym is.1) (subst (λ (n : ℕ). At (entries_of sends_given_up) y (entries.Answered lane n a)) (sym is.2) e.answered) in
    let low = outside (is_answer 1 1) 15 42 (entries_of sends_given_up) refl y (entries.Answered 1 1 a) answer refl (At-below (entries_of sends_given_up) y (entries.Answered 1 1 a) answer) in
    elim (cases_lt y 14) [
      | inl lt ↦ (let none = outside (is_answer 1 1) 0 14 (entries_of sends_given_up) refl y (entries.Answered 1 1 a) answer refl lt in absurd (omega (arith, none)))
      | inr le ↦ omega (arith, low, le)
    ]

close_ends : Ended (entries_of sends_given_up) 1 19 the_close 23 no_room
close_ends = ended sends_given_up 1 3 19 23 the_close no_room refl refl (omega arith) refl

-- after the close no slot holds the file
none_holds : (m : Modes) (other its_slot x : ℕ) → InSlot m (entries_of sends_given_up) 24 other its_slot x the_file → ⊥
none_holds m other its_slot x s =
    let op = ops.OpenFile its_slot s.opens.mode s.opens.path in
    let e = s.opens.ended in
    let later = e.later in
    let before = s.before in
    let early : x < 25 = omega (arith, later, before) in
    let at = first_open x other e.line op e.began refl early in
    let is = began_is (opened_by modes.W) op 1 1 other e.line (subst (λ (z : ℕ). At (entries_of sends_given_up) z (entries.Began other e.line op)) at e.began) in
    let y = first_answered other x s.y op (Done s.opens.value) refl early e in
    let slot_is : 1 ≡ its_slot = slot_of_open its_slot is.0 in
    s.kept 19 23 no_room (subst (λ (l : ℕ). Ended (entries_of sends_given_up) l 19 (ops.Close its_slot) 23 no_room) is.1
    (subst (λ (z : ℕ). Ended (entries_of sends_given_up) 1 19 (ops.Close z) 23 no_room) slot_is close_ends)) (omega (arith, y)) (omega arith)
  where
    slot_of_open : (its : ℕ) → opened_by modes.W ≡ ops.OpenFile its s.opens.mode s.opens.path → 1 ≡ its
    slot_of_open its same = cc

left_then : (m : Modes) → Left m (entries_of sends_given_up) 23 the_file
left_then m = record {
  lane = 1;
  slot = 1;
  close = 19;
  answer = no_room;
  of = is_of m empty_server modes.W given_up_rest 19 3 the_close refl (omega arith) refl refl refl;
  ended = close_ends;
  last = none_holds m;
}

no_put_then : NoPutAt (entries_of sends_given_up) 23
no_put_then x lane line offset path bytes at before =
    absurd (let low = begins_outside sends_given_up is_put 0 23 refl x lane line (ops.Put path offset bytes) at refl before in omega (arith, low))

-- the next record comes before the file is open again
none_opens_then : (m : Modes) → NoneOpens m (entries_of sends_given_up) 23 the_file
none_opens_then m lane slot x y opens after none = elim (cases_lt x 25) [
  | inl early ↦ (let at = first_answered lane x y (ops.OpenFile slot opens.mode opens.path) (Done opens.value) refl early opens.ended in omega (arith, at, after))
  | inr late ↦ none 28 (reply_record 5 the_found) refl (omega arith) (let done = answered_late late in omega (arith, done))
]
  where
    at_25 : 25 ≤ x → x ≡ 25
    at_25 late =
        let e = opens.ended in
        let low = begins_outside sends_given_up is_open 26 42 refl x lane e.line (ops.OpenFile slot opens.mode opens.path) e.began refl
        (At-below (entries_of sends_given_up) x (entries.Began lane e.line (ops.OpenFile slot opens.mode opens.path)) e.began) in
        omega (arith, low, late)

    answered_late : 25 ≤ x → 32 ≤ y
    answered_late late =
        let op = ops.OpenFile slot opens.mode opens.path in
        let e = opens.ended in
        let is = began_is (opened_by modes.W) op 1 4 lane e.line (subst (λ (z : ℕ). At (entries_of sends_given_up) z (entries.Began lane e.line op)) (at_25 late) e.began) in
        let answer = subst (λ (l : ℕ). At (entries_of sends_given_up) y (entries.Answered l 4 (Done opens.value))) (sym is.1)
        (subst (λ (n : ℕ). At (entries_of sends_given_up) y (entries.Answered lane n (Done opens.value))) (sym is.2) e.answered) in
        elim (cases_lt y 32) [
          | inl lt ↦ (let no = outside (is_answer 1 4) 0 32 (entries_of sends_given_up) refl y (entries.Answered 1 4 (Done opens.value)) answer refl lt in absurd (omega (arith, no)))
          | inr le ↦ le
        ]

alone_then : (m : Modes) → LeftAlone m (entries_of sends_given_up) 23 the_file
alone_then m = record { left = left_then m; no_put = no_put_then; unopened = none_opens_then m }

-- ---- so the byte isn't pending later

one_change : (x lane line : ℕ) (op : Op) → At (entries_of sends_given_up) x (entries.Began lane line op) → is_change op ≡ true → x ≡ 16
one_change x lane line op at such =
    let low = begins_outside sends_given_up is_change 17 42 refl x lane line op at such (At-below (entries_of sends_given_up) x (entries.Began lane line op) at) in
    elim (cases_lt x 16) [
      | inl lt ↦ (let none = begins_outside sends_given_up is_change 0 16 refl x lane line op at such lt in absurd (omega (arith, none)))
      | inr le ↦ omega (arith, low, le)
    ]

writer_is : (m : Modes) (origin : Origin) (w i v : ℕ) → WritesByte m origin (entries_of sends_given_up) w the_file i v → w ≡ 16
writer_is m origin w i v (write slot offset bytes of covers) = one_change w of.lane of.line (ops.Write slot offset bytes) of.began refl
writer_is m origin w i v (fill slot offset count of low high) = one_change w of.lane of.line (ops.Fill slot offset count v) of.began refl
writer_is m origin w i v (put lane line offset n path bytes at ends leads covers) = one_change w lane line (ops.Put path offset bytes) at refl

none_put : (w : ℕ) → PutRefused (entries_of sends_given_up) w → ⊥
none_put w p =
    absurd (
    let low = begins_outside sends_given_up is_put 0 42 refl w p.lane p.ended.line (ops.Put p.path p.offset p.bytes) p.ended.began refl
    (At-below (entries_of sends_given_up) w (entries.Began p.lane p.ended.line (ops.Put p.path p.offset p.bytes)) p.ended.began) in
    omega (arith, low))

not_pending : (m : Modes) (origin : Origin) (n i v : ℕ) → 34 ≤ n → Pending m origin (entries_of sends_given_up) the_file i n v → ⊥
not_pending m origin n i v late p = p.unleft (none_put p.w) 23 answered (alone_then m) (omega (arith, late))
  where
    answered : AnsweredBefore (entries_of sends_given_up) p.w 23
    answered = subst (λ (z : ℕ). AnsweredBefore (entries_of sends_given_up) z 23) (sym (writer_is m origin p.w i v p.writes))
        (record { lane = 1; op = the_op; y = 17; answer = ok; ended = ended sends_given_up 1 2 16 17 the_op ok refl refl (omega arith) refl; before = omega arith })

-- the WRITE at the place 35, for the sync at the place 34
may_not_send_given_up : (terms : Terms) → KeepsTo terms (entries_of sends_given_up) 34 35 the_write → ⊥
may_not_send_given_up terms keeps =
    let o = keeps.own the_file (1 ∷ []) 0 0 refl 0 1 refl in
    not_pending terms.modes terms.origin o.n 0 1 (let late = o.moment.late in omega (arith, late)) o.pending
