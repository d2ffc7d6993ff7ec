-- The law of settled bytes holds of the put over a restart: whatever it says of that history is so.
use Rattle.std.proofs.Common.{inl, inr, ◌≡◌, ◌<◌, ◌≤◌, ◌==◌, ◌&&◌, ◌+◌, ℕ, zero, suc, Bool, true, false, List, [], ◌∷◌, Some, Result, Ok, refl, sym, ap, subst, ◌∙◌, slice_get, get_or, arith}
use Rattle.std.proofs.lemmas.Bool.{cases_lt, eqb-true, and_parts}
use Rattle.xdr_codec.specs.declared.reader.XdrFault.{XdrFault}
use Rattle.nfs_file_calls.specs.declared.call.FileCall.TheVariants as files
use Rattle.nfs_file_calls.specs.Transfer.{RangeArgs, SpellsRangeArgs}
use Rattle.nfs_file_calls.proofs.TransferLaws.{range_args_codec}
use Rattle.world_model.specs.declared.answer.Answer.{Answer}
use Rattle.world_model.specs.declared.entry.Entry.{Entry}
use Rattle.world_model.specs.declared.entry.Entry.TheVariants as entries
use Rattle.world_model.specs.declared.message.Call.{Call}
use Rattle.world_model.specs.declared.message.Call.TheVariants as calls
use Rattle.world_model.specs.declared.op.Op.{Op}
use Rattle.world_model.specs.declared.op.Op.TheVariants as ops
use Rattle.world_model.specs.Entries.{At}
use Rattle.world_model.specs.Messages.{HasXid, SpellsCall}
use Rattle.world_model.specs.Mounts.{Origin}
use Rattle.world_model.specs.Operations.{Ended, LastReply}
use Rattle.world_model.proofs.Places.{At-below}
use Rattle.claims.specs.Modes.{Modes}
use Rattle.claims.specs.Settled.{Settled, SettledBy, later, itself, HoldsStable}
use Rattle.claims.specs.Slots.{NamesFile, writes, commits}
use Rattle.claims.specs.Touched.{Wrote, write, fill, put, MadeStable, sync, close, Covers}
use Rattle.honest_histories.proofs.SmallServer.{State, empty_server, file, the_file, commit, committed}
use Rattle.honest_histories.proofs.Written.{call_record, reply_record, reply_under}
use Rattle.honest_histories.proofs.Made.{entries_of, state_at, one_xid}
use Rattle.honest_histories.proofs.Seen.{outside, begins_outside, is_answer, is_change, each_at, sent_under, same_call}
use Rattle.honest_histories.proofs.RestartedPut.{the_put, restarted_put, restarted_history, its_commit}

abbrev h : List Entry
h = entries_of restarted_put

-- ---- the one operation that changes anything

began_is : (a b : Op) (k l m n : ℕ) → Some (entries.Began k l a) ≡ Some (entries.Began m n b) → (a ≡ b) × (k ≡ m) × (l ≡ n)
began_is a b k l m n e = (cc, cc, cc)

one_change : (x lane line : ℕ) (op : Op) → At h x (entries.Began lane line op) → is_change op ≡ true → x ≡ 7
one_change x lane line op at such =
    let low = begins_outside restarted_put is_change 8 44 refl x lane line op at such (At-below h x (entries.Began lane line op) at) in
    elim (cases_lt x 7) [
      | inl lt ↦ (let none = begins_outside restarted_put is_change 0 7 refl x lane line op at such lt in absurd (omega (arith, none)))
      | inr le ↦ omega (arith, low, le)
    ]

change_is : (x lane line : ℕ) (op : Op) → At h x (entries.Began lane line op) → is_change op ≡ true → (the_put ≡ op) × (1 ≡ lane) × (1 ≡ line)
change_is x lane line op at such = began_is the_put op 1 1 lane line (subst (λ (z : ℕ). At h z (entries.Began lane line op)) (one_change x lane line op at such) at)

abbrev is_settling : Op → Bool
is_settling (ops.Sync slot) = true
is_settling (ops.Close slot) = true
is_settling op = false

none_settles : (x lane line : ℕ) (op : Op) → At h x (entries.Began lane line op) → is_settling op ≡ true → ⊥
none_settles x lane line op at such =
    let low = begins_outside restarted_put is_settling 0 44 refl x lane line op at such (At-below h x (entries.Began lane line op) at) in
    omega (arith, low)

-- it was answered at the place 27
answered_at : (y : ℕ) (a : Answer) → At h y (entries.Answered 1 1 a) → y ≡ 27
answered_at y a at =
    let low = outside (is_answer 1 1) 28 44 h refl y (entries.Answered 1 1 a) at refl (At-below h y (entries.Answered 1 1 a) at) in
    elim (cases_lt y 27) [
      | inl lt ↦ (let none = outside (is_answer 1 1) 0 27 h refl y (entries.Answered 1 1 a) at refl lt in absurd (omega (arith, none)))
      | inr le ↦ omega (arith, low, le)
    ]

-- ---- the file of its last reply

record_is : (a b : List ℕ) → Some (entries.Delivered a) ≡ Some (entries.Delivered b) → a ≡ b
record_is a b e = cc

sent_is : (a b : List ℕ) → Some (entries.Sent a) ≡ Some (entries.Sent b) → a ≡ b
sent_is a b e = cc

abbrev range_of : List ℕ → ℕ → ℕ → RangeArgs
range_of f offset count = record { file = f; offset = offset; count = count }

abbrev read_range : RangeArgs × List ℕ → Result (RangeArgs × List ℕ) XdrFault
read_range x = Ok x

range_is : (x y : RangeArgs × List ℕ) → read_range x ≡ read_range y → x ≡ y
range_is x y e = cc

same_file : (a b : RangeArgs) (text : List ℕ) → SpellsRangeArgs a text → SpellsRangeArgs b text → a.file ≡ b.file
same_file a b text p q = ap (λ (z : RangeArgs × List ℕ). z.0.file) (range_is (a, []) (b, []) (sym (range_args_codec.again a text [] p) ∙ range_args_codec.again b text [] q))

-- the last record before the answer is the reply to COMMIT of the file
its_file : (call : Call) (f : List ℕ) → LastReply h 27 call → NamesFile f call → f ≡ the_file
its_file call f last names =
    let high = last.before in
    let low = last.last 26 (reply_record 7 (committed 2)) refl (omega arith) in
    let at : last.at ≡ 26 = omega (arith, high, low) in
    let came = record_is (reply_record 7 (committed 2)) last.bytes (subst (λ (z : ℕ). At h z (entries.Delivered last.bytes)) at last.got) in
    let seven : 7 ≡ last.xid = one_xid last.bytes 7 last.xid (subst (λ (b : List ℕ). HasXid b 7) came (reply_under 7 (committed 2) (omega arith))) last.under in
    let sent_at : last.sent_at ≡ 24 = place last.sent_at last.record_sent last.sent.sent (subst (λ (z : ℕ). HasXid last.record_sent z) (sym seven) last.sent.under) in
    let sent = sent_is (call_record 7 commit) last.record_sent (subst (λ (z : ℕ). At h z (entries.Sent last.record_sent)) sent_at last.sent.sent) in
    by names (subst (λ (b : List ℕ). SpellsCall 7 commit b) sent (its_commit 7 (omega arith)).call_is) last.spells
  where
    place : (n : ℕ) (b : List ℕ) → At h n (entries.Sent b) → HasXid b 7 → n ≡ 24
    place n b sent under =
        let low = sent_under restarted_put 25 44 7 refl refl n b sent under (At-below h n (entries.Sent b) sent) in
        elim (cases_lt n 24) [
          | inl lt ↦ (let none = sent_under restarted_put 0 24 7 refl refl n b sent under lt in absurd (omega (arith, none)))
          | inr le ↦ omega (arith, low, le)
        ]

    by : NamesFile f call → SpellsCall 7 commit last.record_sent → SpellsCall last.xid call last.record_sent → f ≡ the_file
    by (writes offset how bytes is) own other =
        let write_call = calls.File (files.Write f offset how bytes) in
        let e : 21 ≡ 7 = (same_call 7 last.xid commit write_call last.record_sent own (subst (λ (c : Call). SpellsCall last.xid c last.record_sent) is other)).0 in
        absurd (omega (arith, e))
    by (commits offset count is) own other =
        let its = subst (λ (c : Call). SpellsCall last.xid c last.record_sent) is other in
        let args = (same_call 7 last.xid commit (calls.File (files.Commit f offset count)) last.record_sent own its).1 in
        same_file (range_of f offset count) (range_of the_file 0 0) its.args its.is (subst (λ (t : List ℕ). SpellsRangeArgs (range_of the_file 0 0) t) args own.is)

-- ---- what was written, and when it was settled

-- a write that went well is the put, of its one byte
record IsThePut (w y : ℕ) (f : List ℕ) (i v : ℕ) : Type 0 where
  began : w ≡ 7
  ended : y ≡ 27
  file : f ≡ the_file
  place : i ≡ 0
  byte : v ≡ 1

put_is : (a b : ℕ) (p : List (List ℕ)) (bytes : List ℕ) → the_put ≡ ops.Put p b bytes → (0 ≡ b) × (1 ∷ [] ≡ bytes)
put_is a b p bytes e = (cc e, cc e)

one_byte : (bytes : List ℕ) (offset i v : ℕ) → 0 ≡ offset → 1 ∷ [] ≡ bytes → Covers offset bytes i v → (i ≡ 0) × (v ≡ 1)
one_byte bytes offset i v zero_ is c = by c.k (c.place ∙ ap (λ (o : ℕ). o + c.k) (sym zero_)) (subst (λ (b : List ℕ). slice_get b c.k ≡ Some v) (sym is) c.byte)
  where
    by : (k : ℕ) → i ≡ 0 + k → slice_get (1 ∷ []) k ≡ Some v → (i ≡ 0) × (v ≡ 1)
    by zero at got = (omega (arith, at), cc got)
    by (suc k) at got = absurd (cc got)

the_put_ended : (lane x y : ℕ) (op : Op) (a : Answer) → is_change op ≡ true → Ended h lane x op y a → y ≡ 27
the_put_ended lane x y op a such e =
    let is = change_is x lane e.line op e.began such in
    answered_at y a (subst (λ (l : ℕ). At h y (entries.Answered l 1 a)) (sym is.1) (subst (λ (n : ℕ). At h y (entries.Answered lane n a)) (sym is.2) e.answered))

wrote_is : (m : Modes) (w y : ℕ) (f : List ℕ) (i v : ℕ) → Wrote m h w y f i v → IsThePut w y f i v
wrote_is m w y f i v (write lane slot offset bytes value of e covers) = absurd (cc (change_is w of.lane of.line (ops.Write slot offset bytes) of.began refl).0)
wrote_is m w y f i v (fill lane slot offset count value of e low high) = absurd (cc (change_is w of.lane of.line (ops.Fill slot offset count v) of.began refl).0)
wrote_is m w y f i v (put offset bytes p covers) =
    let op = ops.Put p.path offset bytes in
    let parts = put_is 0 offset p.path bytes (change_is w p.lane p.ended.line op p.ended.began refl).0 in
    let at = the_put_ended p.lane w y op _ refl p.ended in
    let byte = one_byte bytes offset i v parts.0 parts.1 covers in
    record {
      began = one_change w p.lane p.ended.line op p.ended.began refl;
      ended = at;
      file = its_file p.call f (subst (λ (z : ℕ). LastReply h z p.call) at p.asked) p.names;
      place = byte.0;
      byte = byte.1;
    }

-- nothing else settles it
settled_late : (m : Modes) (w y : ℕ) (f : List ℕ) (j : ℕ) → w ≡ 7 → y ≡ 27 → SettledBy m h w y f j → 27 ≤ j
settled_late m w y f j began at (itself offset bytes puts is) = omega (arith, is, at)
settled_late m w y f j began at (later x before made) = absurd (by made)
  where
    by : MadeStable m h x j f → ⊥
    by (sync lane slot value of e) = none_settles x of.lane of.line (ops.Sync slot) of.began refl
    by (close lane slot value of e) = none_settles x of.lane of.line (ops.Close slot) of.began refl
    by (put offset bytes p) =
        let there = one_change x p.lane p.ended.line (ops.Put p.path offset bytes) p.ended.began refl in
        let after = before.ended.later in
        let soon = before.before in
        omega (arith, there, after, soon, began)

-- ---- from its answer on the byte is there, and stable

abbrev has_it : State → Bool
has_it s = (get_or s.now 0 0 == 1) && (get_or s.stable 0 0 == 1)

first_is : (xs : List ℕ) → get_or xs 0 0 ≡ 1 → slice_get xs 0 ≡ Some 1
first_is [] e = absurd (cc e)
first_is (x ∷ xs) e = ap (λ (n : ℕ). Some n) e

it_is_there : (p : ℕ) → 27 < p → HoldsStable (restarted_history.at p) the_file 0 1
it_is_there p late =
    let s = state_at empty_server restarted_put p in
    let parts = and_parts _ _ (each_at has_it 28 empty_server restarted_put refl p late) in
    record {
      now = s.now;
      stable = s.stable;
      has = record { file = file s; is = refl; holds = refl };
      holds = first_is s.now (eqb-true (get_or s.now 0 0) 1 parts.0);
      steady = first_is s.stable (eqb-true (get_or s.stable 0 0) 1 parts.1);
    }

pub settles : (m : Modes) (origin : Origin) → Settled m origin restarted_history
settles m origin w y f i v j wrote by p after within untouched =
    let it = wrote_is m w y f i v wrote in
    let late = settled_late m w y f j it.began it.ended by in
    rw (it.file, it.place, it.byte) (it_is_there p (omega (arith, late, after)))
