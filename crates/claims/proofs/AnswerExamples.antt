-- Worked examples of answers: what an answer has to show, and answers that show nothing.
use Rattle.std.proofs.Common.{inl, inr, ◌≡◌, ◌≢◌, ◌<◌, ◌≤◌, ◌+◌, ◌*◌, ℕ, zero, suc, List, [], ◌∷◌, length, All, Some, None, refl, sym, subst, sum_by, AllPairs, arith}
use Rattle.nfs_types.specs.declared.attr.Attr.{Attr}
use Rattle.nfs_types.specs.declared.mode.Mode.{Mode}
use Rattle.nfs_types.specs.declared.mode.Mode.TheVariants as modes
use Rattle.nfs_dir_calls.specs.declared.keeping.DirKept.TheVariants as found
use Rattle.nfs_file_calls.specs.declared.call.FileCall.TheVariants as files
use Rattle.nfs_file_calls.specs.declared.owned.FileKept.TheVariants as kept
use Rattle.world_model.specs.declared.answer.Answer.{Answer}
use Rattle.world_model.specs.declared.answer.Answer.TheVariants.{Done, Refused}
use Rattle.world_model.specs.declared.answer.Fault.TheVariants as faults
use Rattle.world_model.specs.declared.answer.Value.TheVariants as values
use Rattle.world_model.specs.declared.entry.Entry.{Entry}
use Rattle.world_model.specs.declared.entry.Entry.TheVariants.{Began, Answered, Sent, Delivered}
use Rattle.world_model.specs.declared.message.Call.{Call}
use Rattle.world_model.specs.declared.message.Call.TheVariants as calls
use Rattle.world_model.specs.declared.message.Reply.TheVariants as replies
use Rattle.world_model.specs.declared.op.Op.{Op}
use Rattle.world_model.specs.declared.op.Op.TheVariants as ops
use Rattle.claims.specs.Asks.{Placed, look_up}
use Rattle.claims.specs.CallCounts.{Few, FewEqual, Carries, Operations, Asking}
use Rattle.claims.specs.Caused.{Caused}
use Rattle.claims.specs.Complete.{IsOwn, done as own_done, slot as own_slot, mode as own_mode, kind as own_kind, many as own_many, spent as own_spent, memory as own_memory}
use Rattle.world_model.specs.Entries.{At}
use Rattle.claims.specs.GoesOn.{GoesOn, makes, hides, tries_again, FewPutOff, PutOff}
use Rattle.world_model.specs.Messages.{HasXid, SpellsCall}
use Rattle.claims.specs.OkRows.{OkRow, OpenOk, asked, known}
use Rattle.world_model.specs.Operations.{Ended}
use Rattle.world_model.specs.ReadSize.{ReadSized}
use Rattle.claims.specs.RefusalRows.{RefusalRow}
use Rattle.claims.specs.Rights.{taken, free}
use Rattle.claims.specs.Shown.{ShowsAttr, of_object, of_target, of_given, of_listed}
use Rattle.claims.specs.Paths.{names_in}
use Rattle.claims.specs.Terms.{Terms, most_tries}
use Rattle.claims.specs.Thrifty.{IsLong, whole, ends_read, met}

-- records under the xids 7 and 8
abbrev seven : List ℕ
seven = 0 ∷ 0 ∷ 0 ∷ 7 ∷ []

abbrev eight : List ℕ
eight = 0 ∷ 0 ∷ 0 ∷ 8 ∷ []

abbrev ok : Answer
ok = Done values.Nothing

-- ---- an operation that is answered at once

abbrev at_once : Op → Answer → List Entry
at_once op answer = Began 1 1 op ∷ Answered 1 1 answer ∷ []

none_came : (op : Op) (answer : Answer) (at : ℕ) (bytes : List ℕ) → At (at_once op answer) at (Delivered bytes) → ⊥
none_came op answer zero bytes is = absurd (cc is)
none_came op answer (suc zero) bytes is = absurd (cc is)
none_came op answer (suc (suc at)) bytes is = absurd (cc is)

none_sent : (op : Op) (answer : Answer) (at : ℕ) (bytes : List ℕ) → At (at_once op answer) at (Sent bytes) → ⊥
none_sent op answer zero bytes is = absurd (cc is)
none_sent op answer (suc zero) bytes is = absurd (cc is)
none_sent op answer (suc (suc at)) bytes is = absurd (cc is)

none_opened : (op : Op) (answer : Answer) → ((slot : ℕ) (mode : Mode) (path : List (List ℕ)) → op ≢ ops.OpenFile slot mode path) → (x lane line slot : ℕ) (mode : Mode) (path : List (List ℕ))
    → At (at_once op answer) x (Began lane line (ops.OpenFile slot mode path)) → ⊥
none_opened op answer other zero lane line slot mode path is = other slot mode path (cc is)
none_opened op answer other (suc zero) lane line slot mode path is = absurd (cc is)
none_opened op answer other (suc (suc x)) lane line slot mode path is = absurd (cc is)

-- an open goes well only where GETATTR of its file was answered
may_not_open_unasked : (terms : Terms) (path : List (List ℕ)) → OkRow terms (at_once (ops.OpenFile 1 modes.R path) ok) 1 0 1 (ops.OpenFile 1 modes.R path) values.Nothing → ⊥
may_not_open_unasked terms path row = unasked row.0
  where
    unasked : OpenOk terms (at_once (ops.OpenFile 1 modes.R path) ok) 0 1 (ops.OpenFile 1 modes.R path) modes.R path → ⊥
    unasked (asked f attr asks ends file) = none_came (ops.OpenFile 1 modes.R path) ok ends.last.at ends.last.bytes ends.last.got
    unasked (known f attr call reply kept_ finds ends went gives shown file) = none_came (ops.OpenFile 1 modes.R path) ok ends.last.at ends.last.bytes ends.last.got

-- also where it was answered for an earlier open: no record was sent since this one began
may_not_open_by_an_earlier_one : (terms : Terms) (h : List Entry) (x y : ℕ) (op : Op) (mode : Mode) (path : List (List ℕ)) → ((j : ℕ) (bytes : List ℕ) → At h j (Sent bytes) → x < j → ⊥) → OpenOk terms h x y op mode path → ⊥
may_not_open_by_an_earlier_one terms h x y op mode path quiet (asked f attr asks ends file) = quiet ends.last.sent_at ends.last.record_sent ends.last.sent.sent ends.within
may_not_open_by_an_earlier_one terms h x y op mode path quiet (known f attr call reply kept_ finds ends went gives shown file) = quiet ends.last.sent_at ends.last.record_sent ends.last.sent.sent ends.within

-- a mkdir goes well only where MKDIR did
may_not_mkdir_unasked : (terms : Terms) (path : List (List ℕ)) → OkRow terms (at_once (ops.MakeDir path) ok) 1 0 1 (ops.MakeDir path) values.Nothing → ⊥
may_not_mkdir_unasked terms path row = none_came (ops.MakeDir path) ok row.ends.last.at row.ends.last.bytes row.ends.last.got

-- a list goes well only where its last page came
may_not_list_nothing : (terms : Terms) (path : List (List ℕ)) → OkRow terms (at_once (ops.List path) (Done (values.Names []))) 1 0 1 (ops.List path) (values.Names []) → ⊥
may_not_list_nothing terms path row = none_came (ops.List path) (Done (values.Names [])) row.ends.last.at row.ends.last.bytes row.ends.last.got

-- a sync goes well only where COMMIT did
may_not_sync_unasked : (terms : Terms) → OkRow terms (at_once (ops.Sync 1) ok) 1 0 1 (ops.Sync 1) values.Nothing → ⊥
may_not_sync_unasked terms row = let heard = row.0.committed.asked.heard in none_came (ops.Sync 1) ok heard.got_at row.0.committed.asked.bytes heard.got.got

-- a close goes well only where its slot holds an open
may_not_close_free : (terms : Terms) → OkRow terms (at_once (ops.Close 1) ok) 1 0 1 (ops.Close 1) values.Nothing → ⊥
may_not_close_free terms row = let opens = row.0.holds.opens in none_opened (ops.Close 1) ok (λ s m p is. absurd (cc is)) row.0.open_at 1 opens.ended.line 1 opens.mode opens.path opens.ended.began

-- a read gives no more bytes than were asked for
may_not_read_more : (terms : Terms) (h : List Entry) (x y : ℕ) → OkRow terms h 1 x y (ops.Read 1 0 1) (values.Bytes (97 ∷ 98 ∷ [])) → ⊥
may_not_read_more terms h x y row = longer row.bytes row.most row.gives
  where
    longer : (bytes : List ℕ) → length bytes ≤ 1 → values.Bytes (97 ∷ 98 ∷ []) ≡ values.Bytes bytes → ⊥
    longer bytes most gives = let is : 97 ∷ 98 ∷ [] ≡ bytes = cc gives in let two = subst (λ (b : List ℕ). length b ≤ 1) (sym is) most in omega (arith, two)

-- `nfs 5` comes only from a reply
may_not_refuse_unasked : (terms : Terms) (path : List (List ℕ)) → RefusalRow terms (at_once (ops.Stat path) (Refused (faults.Nfs 5))) 1 0 1 (ops.Stat path) (faults.Nfs 5) → ⊥
may_not_refuse_unasked terms path row = none_came (ops.Stat path) (Refused (faults.Nfs 5)) row.refused.heard.got_at row.refused.bytes row.refused.heard.got.got

-- `slot` comes to an open only where its slot holds an open
may_not_refuse_free : (terms : Terms) (path : List (List ℕ)) → RefusalRow terms (at_once (ops.OpenFile 1 modes.R path) (Refused faults.Slot)) 1 0 1 (ops.OpenFile 1 modes.R path) faults.Slot → ⊥
may_not_refuse_free terms path (taken slot open_at mode p f is holds) = omega (arith, holds.opens.ended.later, holds.before)
may_not_refuse_free terms path (free slot works_on empty) = absurd (cc works_on)

-- ---- another record than the reply

abbrev another_record : List Entry
another_record = Began 1 1 (ops.Truncate 1 0) ∷ Sent seven ∷ Delivered eight ∷ Answered 1 1 ok ∷ []

-- the record that came is under an xid that was never sent
may_not_take_any_record : (terms : Terms) → OkRow terms another_record 1 0 3 (ops.Truncate 1 0) values.Nothing → ⊥
may_not_take_any_record terms row =
    let last = row.ends.last in
    other last.at last.sent_at last.xid last.bytes last.record_sent last.got last.under last.sent.sent last.sent.under
  where
    other : (at sent_at xid : ℕ) (bytes record_sent : List ℕ) → At another_record at (Delivered bytes) → HasXid bytes xid → At another_record sent_at (Sent record_sent) → HasXid record_sent xid → ⊥
    other at zero xid bytes record_sent got under sent sent_under = absurd (cc sent)
    other zero (suc zero) xid bytes record_sent got under sent sent_under = absurd (cc got)
    other (suc zero) (suc zero) xid bytes record_sent got under sent sent_under = absurd (cc got)
    other (suc (suc zero)) (suc zero) xid bytes record_sent got under sent sent_under =
        let came : eight ≡ bytes = cc got in
        let was : seven ≡ record_sent = cc sent in
        let is_eight : HasXid eight xid = subst (λ (b : List ℕ). HasXid b xid) (sym came) under in
        let is_seven : HasXid seven xid = subst (λ (b : List ℕ). HasXid b xid) (sym was) sent_under in
        absurd (cc (is_eight, is_seven))
    other (suc (suc (suc zero))) (suc zero) xid bytes record_sent got under sent sent_under = absurd (cc got)
    other (suc (suc (suc (suc at)))) (suc zero) xid bytes record_sent got under sent sent_under = absurd (cc got)
    other at (suc (suc zero)) xid bytes record_sent got under sent sent_under = absurd (cc sent)
    other at (suc (suc (suc zero))) xid bytes record_sent got under sent sent_under = absurd (cc sent)
    other at (suc (suc (suc (suc sent_at)))) xid bytes record_sent got under sent sent_under = absurd (cc sent)

-- ---- after the loss

abbrev after_the_loss : List Entry
after_the_loss = Began 1 1 (ops.Sync 1) ∷ Answered 1 1 (Refused faults.Lost) ∷ Began 1 2 (ops.Sync 1) ∷ Answered 1 2 ok ∷ []

-- a session that is lost stays lost
may_not_come_back : (terms : Terms) (script : List Entry) (status : ℕ) → Caused terms script status after_the_loss → ⊥
may_not_come_back terms script status caused = elim (caused.lost 1 0 1 1 2 3 (ops.Sync 1) (ops.Sync 1) ok lost later (omega arith)) [ inl e ↦ absurd (cc e) | inr e ↦ absurd (cc e) ]
  where
    first : (j : ℕ) (a : Answer) → At after_the_loss j (Answered 1 1 a) → 0 < j → 1 ≤ j
    first j a is after = after

    third : (j : ℕ) (a : Answer) → At after_the_loss j (Answered 1 2 a) → 2 < j → 3 ≤ j
    third j a is after = after

    lost : Ended after_the_loss 1 0 (ops.Sync 1) 1 (Refused faults.Lost)
    lost = record { line = 1; began = refl; answered = refl; later = omega arith; first = first }

    later : Ended after_the_loss 1 2 (ops.Sync 1) 3 ok
    later = record { line = 2; began = refl; answered = refl; later = omega arith; first = third }

-- ---- from which refusals an operation goes on

-- no operation goes on from NFS3ERR_ACCES, 13
may_not_go_on : (terms : Terms) (h : List Entry) (x n : ℕ) (op : Op) (call : Call) → GoesOn terms h x n op call 13 → ⊥
may_not_go_on terms h x n op call (makes slot path d name is place alone looks status unmade) = absurd (cc status)
may_not_go_on terms h x n op call (hides path d last name f attr dir is place hidden other alone looks status gave) = absurd (cc status)
may_not_go_on terms h x n op call (tries_again status few sync) = absurd (cc status)

-- a stat doesn't go on from NFS3ERR_NOENT, 2, whatever an open does that asks for the same LOOKUP
stat_does_not_go_on : (terms : Terms) (h : List Entry) (x n : ℕ) (path : List (List ℕ)) (d name : List ℕ) → GoesOn terms h x n (ops.Stat path) (look_up d name) 2 → ⊥
stat_does_not_go_on terms h x n path d name (makes slot p in_ last is place alone looks status unmade) = absurd (cc is)
stat_does_not_go_on terms h x n path d name (hides p in_ last hidden_name f attr dir is place hidden other alone looks status gave) = absurd (cc is)
stat_does_not_go_on terms h x n path d name (tries_again status few sync) = absurd (cc status)

-- a call that was put off three times isn't made again
may_not_try_a_fifth_time : (h : List Entry) (x n a b c : ℕ) (call : Call) → a < b → b < c → All (PutOff h x n call) (a ∷ b ∷ c ∷ []) → FewPutOff h x n call → ⊥
may_not_try_a_fifth_time h x n a b c call first second each few = let most : 3 < 3 = few (a ∷ b ∷ c ∷ []) differ each in omega (arith, most)
  where
    differ : AllPairs (λ (p q : ℕ). p ≢ q) (a ∷ b ∷ c ∷ [])
    differ zero (suc zero) d lt in_ same = omega (arith, first, same)
    differ zero (suc (suc zero)) d lt in_ same = omega (arith, first, second, same)
    differ (suc zero) (suc (suc zero)) d lt in_ same = omega (arith, second, same)
    differ zero zero d lt in_ same = omega (arith, lt)
    differ (suc zero) zero d lt in_ same = omega (arith, lt)
    differ (suc zero) (suc zero) d lt in_ same = omega (arith, lt)
    differ (suc (suc i)) j d lt in_ same = omega (arith, lt, in_)
    differ zero (suc (suc (suc j))) d lt in_ same = omega (arith, in_)
    differ (suc zero) (suc (suc (suc j))) d lt in_ same = omega (arith, in_)

-- a refusal by the server is no answer of a session that nothing disturbs
is_not_own : IsOwn (Refused (faults.Nfs 5)) → ⊥
is_not_own (own_done value is) = absurd (cc is)
is_not_own (own_slot is) = absurd (cc is)
is_not_own (own_mode is) = absurd (cc is)
is_not_own (own_kind is) = absurd (cc is)
is_not_own (own_many is) = absurd (cc is)
is_not_own (own_spent is) = absurd (cc is)
is_not_own (own_memory is) = absurd (cc is)

-- ---- how many calls

-- a call that no operation asks for
may_not_call_for_nothing : (terms : Terms) (bytes : List ℕ) (call : Call) → HasXid bytes 7 → SpellsCall 7 call bytes → FewEqual terms (Sent bytes ∷ []) call → ⊥
may_not_call_for_nothing terms bytes call under spells few = unasked few.asking few.operations few.few
  where
    not_begun : (x lane line : ℕ) (op : Op) → At (Sent bytes ∷ []) x (Began lane line op) → ⊥
    not_begun zero lane line op is = absurd (cc is)
    not_begun (suc x) lane line op is = absurd (cc is)

    first : (j : ℕ) (b : List ℕ) → At (Sent bytes ∷ []) j (Sent b) → HasXid b 7 → 0 ≤ j
    first j b is its = omega arith

    carries : Carries (Sent bytes ∷ []) (λ c. c ≡ call) 7
    carries = record { at = 0; bytes = bytes; call = call; sent = record { sent = refl; under = under; first = first }; spells = spells; is = refl }

    differ : AllPairs (λ (a b : ℕ). a ≢ b) (7 ∷ [])
    differ i j d lt in_ = omega (arith, lt, in_)

    each : All (Carries (Sent bytes ∷ []) (λ c. c ≡ call)) (7 ∷ [])
    each zero d lt = carries
    each (suc k) d lt = absurd (omega (arith, lt))

    unasked : (asking : List Placed) → Operations (Asking terms (Sent bytes ∷ []) call) asking → Few (Sent bytes ∷ []) (λ c. c ≡ call) (most_tries * sum_by (λ (o : Placed). 3 + names_in o.1) asking) → ⊥
    unasked [] operations at_most = let one : 1 ≤ 0 = at_most (7 ∷ []) differ each in omega (arith, one)
    unasked (o ∷ asking) operations at_most = let asks = operations.each 0 o (omega arith) in not_begun o.0 asks.began.0 asks.began.1 o.1 asks.began.2

-- ---- what a reply shows

-- GETATTR shows the attributes of its file
shows_its_file : (f : List ℕ) (attr : Attr) → ShowsAttr (calls.File (files.GetAttr f)) (replies.File (kept.GetAttr attr)) f attr
shows_its_file f attr = of_object refl refl

-- LOOKUP shows those of what it found
shows_what_it_found : (d name f : List ℕ) (attr : Attr) → ShowsAttr (look_up d name) (replies.Dir (found.Lookup f (Some attr) None)) f attr
shows_what_it_found d name f attr = of_given refl refl

-- a reply without attributes shows none
shows_none : (d name f g : List ℕ) (attr : Attr) → ShowsAttr (look_up d name) (replies.Dir (found.Lookup f None None)) g attr → ⊥
shows_none d name f g attr (of_object object shown) = absurd (cc shown)
shows_none d name f g attr (of_target object shown) = absurd (cc shown)
shows_none d name f g attr (of_given object shown) = absurd (cc shown)
shows_none d name f g attr (of_listed of verf rows eof at row is listed object shown) = absurd (cc is)

-- ---- thrift

-- a READ of one byte is sent only where that is the session's READ size
may_not_read_one_byte : (terms : Terms) (h : List Entry) (i : ℕ) (f : List ℕ) → ((root : List ℕ) → ReadSized h i root terms.rsize 1 → ⊥) → IsLong terms h i f 0 1 → ⊥
may_not_read_one_byte terms h i f other (whole root rsize rooted sized is) = other root (subst (λ n. ReadSized h i root terms.rsize n) (sym is) sized)
may_not_read_one_byte terms h i f other (ends_read ends) = let is = ends.is in omega (arith, is)
may_not_read_one_byte terms h i f other (met earlier) = let is = earlier.is in omega (arith, is)
