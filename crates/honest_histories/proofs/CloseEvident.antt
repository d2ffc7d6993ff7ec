-- Of the close that rests on a WRITE that was answered as stable: there is evidence of each byte that an answer settled, whatever `Evident` says of that history.
use Rattle.std.proofs.Common.{inl, inr, ◌≡◌, ◌<◌, ◌≤◌, ◌+◌, ℕ, zero, suc, Bool, true, false, List, [], ◌∷◌, Some, Result, Ok, refl, sym, ap, subst, ◌∙◌, slice_get, arith}
use Rattle.std.proofs.lemmas.Bool.{cases_lt}
use Rattle.xdr_codec.specs.declared.reader.XdrFault.{XdrFault}
use Rattle.nfs_types.specs.declared.mode.Mode.{Mode}
use Rattle.nfs_types.specs.declared.mode.Mode.TheVariants as modes
use Rattle.nfs_types.specs.Spells.{SpellsHandle}
use Rattle.nfs_types.proofs.Laws.{handle_codec}
use Rattle.nfs_dir_calls.specs.declared.call.DirCall.TheVariants as dirs
use Rattle.nfs_dir_calls.specs.declared.create.Making.{Making}
use Rattle.nfs_file_calls.specs.declared.call.FileCall.TheVariants as files
use Rattle.world_model.specs.declared.answer.Answer.{Answer}
use Rattle.world_model.specs.declared.answer.Answer.TheVariants.{Done, Refused}
use Rattle.world_model.specs.declared.answer.Fault.{Fault}
use Rattle.world_model.specs.declared.answer.Fault.TheVariants as faults
use Rattle.world_model.specs.declared.answer.Value.{Value}
use Rattle.world_model.specs.declared.entry.Entry.{Entry}
use Rattle.world_model.specs.declared.entry.Entry.TheVariants as entries
use Rattle.world_model.specs.declared.message.Call.{Call}
use Rattle.world_model.specs.declared.message.Call.TheVariants as calls
use Rattle.world_model.specs.declared.op.Op.{Op}
use Rattle.world_model.specs.declared.op.Op.TheVariants as ops
use Rattle.world_model.specs.Entries.{At}
use Rattle.world_model.specs.Messages.{HasXid, SpellsCall, proc_of}
use Rattle.world_model.specs.Mounts.{Origin}
use Rattle.world_model.specs.Operations.{Ended, LastReply}
use Rattle.world_model.proofs.Places.{At-below}
use Rattle.claims.specs.Modes.{Modes}
use Rattle.claims.specs.Settled.{Evident, SettledBy, later, itself}
use Rattle.claims.specs.Slots.{Finds, asked, looked_up, made, InSlot}
use Rattle.claims.specs.Touched.{Wrote, write, fill, put, MadeStable, sync, close, Covers}
use Rattle.honest_histories.proofs.SmallServer.{empty_server, the_file, get_attr, got_attr}
use Rattle.honest_histories.proofs.Written.{call_record, reply_record, reply_under, talk_attr}
use Rattle.honest_histories.proofs.Made.{entries_of, one_xid}
use Rattle.honest_histories.proofs.Seen.{outside, begins_outside, is_answer, is_change, sent_under, same_call}
use Rattle.honest_histories.proofs.Opened.{opened_by}
use Rattle.honest_histories.proofs.ClosesStable.{closes_stable, it_is_evident, the_op}

abbrev h : List Entry
h = entries_of closes_stable

began_is : (a b : Op) (k l m n : ℕ) → Some (entries.Began k l a) ≡ Some (entries.Began m n b) → (a ≡ b) × (k ≡ m) × (l ≡ n)
began_is a b k l m n e = (cc, cc, cc)

-- ---- what began, and where it was answered

one_change : (x lane line : ℕ) (op : Op) → At h x (entries.Began lane line op) → is_change op ≡ true → x ≡ 16
one_change x lane line op at such =
    let low = begins_outside closes_stable is_change 17 30 refl x lane line op at such (At-below h x (entries.Began lane line op) at) in
    elim (cases_lt x 16) [
      | inl lt ↦ (let none = begins_outside closes_stable is_change 0 16 refl x lane line op at such lt in absurd (omega (arith, none)))
      | inr le ↦ omega (arith, low, le)
    ]

change_is : (x lane line : ℕ) (op : Op) → At h x (entries.Began lane line op) → is_change op ≡ true → (the_op ≡ op) × (1 ≡ lane) × (2 ≡ line)
change_is x lane line op at such = began_is the_op op 1 2 lane line (subst (λ (z : ℕ). At h z (entries.Began lane line op)) (one_change x lane line op at such) at)

abbrev is_open : Op → Bool
is_open (ops.OpenFile slot mode path) = true
is_open op = false

one_open : (x lane line : ℕ) (op : Op) → At h x (entries.Began lane line op) → is_open op ≡ true → x ≡ 7
one_open x lane line op at such =
    let low = begins_outside closes_stable is_open 8 30 refl x lane line op at such (At-below h x (entries.Began lane line op) at) in
    elim (cases_lt x 7) [
      | inl lt ↦ (let none = begins_outside closes_stable is_open 0 7 refl x lane line op at such lt in absurd (omega (arith, none)))
      | inr le ↦ omega (arith, low, le)
    ]

abbrev is_sync : Op → Bool
is_sync (ops.Sync slot) = true
is_sync op = false

one_sync : (x lane line : ℕ) (op : Op) → At h x (entries.Began lane line op) → is_sync op ≡ true → x ≡ 19
one_sync x lane line op at such =
    let low = begins_outside closes_stable is_sync 20 30 refl x lane line op at such (At-below h x (entries.Began lane line op) at) in
    elim (cases_lt x 19) [
      | inl lt ↦ (let none = begins_outside closes_stable is_sync 0 19 refl x lane line op at such lt in absurd (omega (arith, none)))
      | inr le ↦ omega (arith, low, le)
    ]

abbrev is_shut : Op → Bool
is_shut (ops.Close slot) = true
is_shut op = false

one_shut : (x lane line : ℕ) (op : Op) → At h x (entries.Began lane line op) → is_shut op ≡ true → x ≡ 28
one_shut x lane line op at such =
    let low = begins_outside closes_stable is_shut 29 30 refl x lane line op at such (At-below h x (entries.Began lane line op) at) in
    elim (cases_lt x 28) [
      | inl lt ↦ (let none = begins_outside closes_stable is_shut 0 28 refl x lane line op at such lt in absurd (omega (arith, none)))
      | inr le ↦ omega (arith, low, le)
    ]

-- the open was answered at the place 14, the write at 17, the sync at 26 and the close at 29
opened_at : (y : ℕ) (a : Answer) → At h y (entries.Answered 1 1 a) → y ≡ 14
opened_at y a at =
    let low = outside (is_answer 1 1) 15 30 h refl y (entries.Answered 1 1 a) at refl (At-below h y (entries.Answered 1 1 a) at) in
    elim (cases_lt y 14) [
      | inl lt ↦ (let none = outside (is_answer 1 1) 0 14 h refl y (entries.Answered 1 1 a) at refl lt in absurd (omega (arith, none)))
      | inr le ↦ omega (arith, low, le)
    ]

wrote_at : (y : ℕ) (a : Answer) → At h y (entries.Answered 1 2 a) → y ≡ 17
wrote_at y a at =
    let low = outside (is_answer 1 2) 18 30 h refl y (entries.Answered 1 2 a) at refl (At-below h y (entries.Answered 1 2 a) at) in
    elim (cases_lt y 17) [
      | inl lt ↦ (let none = outside (is_answer 1 2) 0 17 h refl y (entries.Answered 1 2 a) at refl lt in absurd (omega (arith, none)))
      | inr le ↦ omega (arith, low, le)
    ]

synced_at : (y : ℕ) (a : Answer) → At h y (entries.Answered 1 3 a) → y ≡ 26
synced_at y a at =
    let low = outside (is_answer 1 3) 27 30 h refl y (entries.Answered 1 3 a) at refl (At-below h y (entries.Answered 1 3 a) at) in
    elim (cases_lt y 26) [
      | inl lt ↦ (let none = outside (is_answer 1 3) 0 26 h refl y (entries.Answered 1 3 a) at refl lt in absurd (omega (arith, none)))
      | inr le ↦ omega (arith, low, le)
    ]

shut_at : (y : ℕ) (a : Answer) → At h y (entries.Answered 1 4 a) → y ≡ 29
shut_at y a at =
    let low = outside (is_answer 1 4) 30 30 h refl y (entries.Answered 1 4 a) at refl (At-below h y (entries.Answered 1 4 a) at) in
    elim (cases_lt y 29) [
      | inl lt ↦ (let none = outside (is_answer 1 4) 0 29 h refl y (entries.Answered 1 4 a) at refl lt in absurd (omega (arith, none)))
      | inr le ↦ omega (arith, low, le)
    ]

answered_by : (lane line y its_lane its_line : ℕ) (a : Answer) → its_lane ≡ lane → its_line ≡ line → At h y (entries.Answered lane line a) → At h y (entries.Answered its_lane its_line a)
answered_by lane line y its_lane its_line a same_lane same_line at =
    subst (λ (l : ℕ). At h y (entries.Answered l its_line a)) (sym same_lane) (subst (λ (n : ℕ). At h y (entries.Answered lane n a)) (sym same_line) at)

-- ---- the file of the slot

record_is : (a b : List ℕ) → Some (entries.Delivered a) ≡ Some (entries.Delivered b) → a ≡ b
record_is a b e = cc

sent_is : (a b : List ℕ) → Some (entries.Sent a) ≡ Some (entries.Sent b) → a ≡ b
sent_is a b e = cc

abbrev read_handle : List ℕ × List ℕ → Result (List ℕ × List ℕ) XdrFault
read_handle x = Ok x

handle_is : (x y : List ℕ × List ℕ) → read_handle x ≡ read_handle y → x ≡ y
handle_is x y e = cc

same_handle : (a b text : List ℕ) → SpellsHandle a text → SpellsHandle b text → a ≡ b
same_handle a b text p q = ap (λ (z : List ℕ × List ℕ). z.0) (handle_is (a, []) (b, []) (sym (handle_codec.again a text [] p) ∙ handle_codec.again b text [] q))

-- the last record before the open's answer is the reply to GETATTR of the file
record IsLast (call : Call) (last : LastReply h 14 call) : Type 0 where
  own : SpellsCall 3 get_attr last.record_sent

last_is : (call : Call) (last : LastReply h 14 call) → IsLast call last
last_is call last = record { own = subst (λ (b : List ℕ). SpellsCall 3 get_attr b) sent (talk_attr 3 empty_server (omega arith) (omega arith) (omega arith)).call_is }
  where
    high : last.at < 14
    high = last.before

    low : 13 ≤ last.at
    low = last.last 13 (reply_record 3 (got_attr empty_server)) refl (omega arith)

    at : last.at ≡ 13
    at = omega (arith, high, low)

    came : reply_record 3 (got_attr empty_server) ≡ last.bytes
    came = record_is (reply_record 3 (got_attr empty_server)) last.bytes (subst (λ (z : ℕ). At h z (entries.Delivered last.bytes)) at last.got)

    three : 3 ≡ last.xid
    three = one_xid last.bytes 3 last.xid (subst (λ (b : List ℕ). HasXid b 3) came (reply_under 3 (got_attr empty_server) (omega arith))) last.under

    place : (n : ℕ) (b : List ℕ) → At h n (entries.Sent b) → HasXid b 3 → n ≡ 11
    place n b at_n under =
        let late = sent_under closes_stable 12 30 3 refl refl n b at_n under (At-below h n (entries.Sent b) at_n) in
        elim (cases_lt n 11) [
          | inl lt ↦ (let none = sent_under closes_stable 0 11 3 refl refl n b at_n under lt in absurd (omega (arith, none)))
          | inr le ↦ omega (arith, late, le)
        ]

    sent_at : last.sent_at ≡ 11
    sent_at = place last.sent_at last.record_sent last.sent.sent (subst (λ (z : ℕ). HasXid last.record_sent z) (sym three) last.sent.under)

    sent : call_record 3 get_attr ≡ last.record_sent
    sent = sent_is (call_record 3 get_attr) last.record_sent (subst (λ (z : ℕ). At h z (entries.Sent last.record_sent)) sent_at last.sent.sent)

finds_it : (m : Modes) (f : List ℕ) → Finds m h 14 f → f ≡ the_file
finds_it m f (asked last) =
    let own = (last_is (calls.File (files.GetAttr f)) last).own in
    let args = (same_call 3 last.xid get_attr (calls.File (files.GetAttr f)) last.record_sent own last.spells).1 in
    same_handle f the_file last.spells.args last.spells.is (subst (SpellsHandle the_file) args own.is)
finds_it m f (looked_up nocto d name attr dir last spells) =
    let own = (last_is (calls.Dir (dirs.Lookup d name)) last).own in
    let e : 1 ≡ 3 = (same_call 3 last.xid get_attr (calls.Dir (dirs.Lookup d name)) last.record_sent own last.spells).0 in
    absurd (omega (arith, e))
finds_it m f (made nocto d name making attr wcc last spells) =
    let own = (last_is (calls.Dir (dirs.Create d name making)) last).own in
    let e : 1 ≡ 8 = (same_call 3 last.xid get_attr (calls.Dir (dirs.Create d name making)) last.record_sent own last.spells).0 in
    absurd (omega (arith, e))

slot_file : (m : Modes) (n lane slot x : ℕ) (f : List ℕ) → InSlot m h n lane slot x f → f ≡ the_file
slot_file m n lane slot x f s =
    let op = ops.OpenFile slot s.opens.mode s.opens.path in
    let ended = s.opens.ended in
    let at = one_open x lane ended.line op ended.began refl in
    let is = began_is (opened_by modes.W) op 1 1 lane ended.line (subst (λ (z : ℕ). At h z (entries.Began lane ended.line op)) at ended.began) in
    let y : s.y ≡ 14 = opened_at s.y (Done s.opens.value) (answered_by lane ended.line s.y 1 1 (Done s.opens.value) is.1 is.2 ended.answered) in
    finds_it m f (subst (λ (z : ℕ). Finds m h z f) y s.opens.finds)

-- ---- what was written, and when it was settled

record IsTheWrite (w y : ℕ) (f : List ℕ) (i v : ℕ) : Type 0 where
  began : w ≡ 16
  ended : y ≡ 17
  file : f ≡ the_file
  place : i ≡ 0
  byte : v ≡ 1

write_is : (slot offset : ℕ) (bytes : List ℕ) → the_op ≡ ops.Write slot offset bytes → (0 ≡ offset) × (1 ∷ [] ≡ bytes)
write_is slot offset bytes e = (cc, cc)

one_byte : (bytes : List ℕ) (offset i v : ℕ) → 0 ≡ offset → 1 ∷ [] ≡ bytes → Covers offset bytes i v → (i ≡ 0) × (v ≡ 1)
one_byte bytes offset i v zero_ is c = by c.k (c.place ∙ ap (λ (o : ℕ). o + c.k) (sym zero_)) (subst (λ (b : List ℕ). slice_get b c.k ≡ Some v) (sym is) c.byte)
  where
    by : (k : ℕ) → i ≡ 0 + k → slice_get (1 ∷ []) k ≡ Some v → (i ≡ 0) × (v ≡ 1)
    by zero at got = (omega (arith, at), cc got)
    by (suc k) at got = absurd (cc got)

wrote_is : (m : Modes) (w y : ℕ) (f : List ℕ) (i v : ℕ) → Wrote m h w y f i v → IsTheWrite w y f i v
wrote_is m w y f i v (fill lane slot offset count value of e low high) = absurd (cc (change_is w of.lane of.line (ops.Fill slot offset count v) of.began refl).0)
wrote_is m w y f i v (put offset bytes p covers) = absurd (cc (change_is w p.lane p.ended.line (ops.Put p.path offset bytes) p.ended.began refl).0)
wrote_is m w y f i v (write lane slot offset bytes value of e covers) =
    let is = change_is w lane e.line (ops.Write slot offset bytes) e.began refl in
    let parts = write_is slot offset bytes is.0 in
    let byte = one_byte bytes offset i v parts.0 parts.1 covers in
    record {
      began = one_change w lane e.line (ops.Write slot offset bytes) e.began refl;
      ended = wrote_at y (Done value) (answered_by lane e.line y 1 2 (Done value) is.1 is.2 e.answered);
      file = slot_file m w of.lane of.slot of.open_at f of.holds;
      place = byte.0;
      byte = byte.1;
    }

sync_refused : (value : Value) → Some (entries.Answered 1 3 (Refused (faults.Nfs 5))) ≡ Some (entries.Answered 1 3 (Done value)) → ⊥
sync_refused value e = absurd cc

settled_at : (m : Modes) (w y : ℕ) (f : List ℕ) (j : ℕ) → SettledBy m h w y f j → j ≡ 29
settled_at m w y f j (itself offset bytes p is) = absurd (cc (change_is w p.lane p.ended.line (ops.Put p.path offset bytes) p.ended.began refl).0)
settled_at m w y f j (later x before stable) = by stable
  where
    by : MadeStable m h x j f → j ≡ 29
    by (sync lane slot value of e) =
        let at = one_sync x lane e.line (ops.Sync slot) e.began refl in
        let is = began_is (ops.Sync 1) (ops.Sync slot) 1 3 lane e.line (subst (λ (z : ℕ). At h z (entries.Began lane e.line (ops.Sync slot))) at e.began) in
        let answer = answered_by lane e.line j 1 3 (Done value) is.1 is.2 e.answered in
        absurd (sync_refused value (subst (λ (z : ℕ). At h z (entries.Answered 1 3 (Done value))) (synced_at j (Done value) answer) answer))
    by (close lane slot value of e) =
        let at = one_shut x lane e.line (ops.Close slot) e.began refl in
        let is = began_is (ops.Close 1) (ops.Close slot) 1 4 lane e.line (subst (λ (z : ℕ). At h z (entries.Began lane e.line (ops.Close slot))) at e.began) in
        shut_at j (Done value) (answered_by lane e.line j 1 4 (Done value) is.1 is.2 e.answered)
    by (put offset bytes p) = absurd (cc (change_is x p.lane p.ended.line (ops.Put p.path offset bytes) p.ended.began refl).0)

pub evident : (m : Modes) (origin : Origin) → Evident m origin h
evident m origin w y f i v j wrote by free =
    let it = wrote_is m w y f i v wrote in
    let at = settled_at m w y f j by in
    rw (it.began, it.file, it.place, it.byte, at) it_is_evident
