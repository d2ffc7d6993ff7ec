-- Histories of a client that makes calls it could spare, and that the definitions of thrift refuse.
use Rattle.std.proofs.Common.{inl, inr, ◌≡◌, ◌≢◌, ◌<◌, ◌≤◌, ◌⊎◌, ◌+◌, ℕ, zero, suc, true, List, [], ◌∷◌, length, All, AllPairs, Some, refl, sym, ap, subst, ◌∙◌, arith}
use Rattle.nfs_types.specs.declared.attr.Attr.{Attr}
use Rattle.nfs_types.specs.declared.mode.Mode.TheVariants as modes
use Rattle.nfs_types.specs.Stamps.{stamp_of}
use Rattle.nfs_file_calls.specs.declared.call.FileCall.TheVariants as files
use Rattle.nfs_file_calls.specs.declared.owned.FileKept.TheVariants as kept
use Rattle.world_model.specs.declared.answer.Answer.{Answer}
use Rattle.world_model.specs.declared.answer.Answer.TheVariants.{Done, Refused}
use Rattle.world_model.specs.declared.answer.Fault.TheVariants as faults
use Rattle.world_model.specs.declared.answer.Value.TheVariants as values
use Rattle.world_model.specs.declared.entry.Entry.{Entry}
use Rattle.world_model.specs.declared.entry.Entry.TheVariants.{Began, Answered, Sent, Delivered}
use Rattle.world_model.specs.declared.message.Call.{Call}
use Rattle.world_model.specs.declared.message.Call.TheVariants as calls
use Rattle.world_model.specs.declared.message.Reply.{Reply}
use Rattle.world_model.specs.declared.message.Reply.TheVariants as replies
use Rattle.world_model.specs.declared.op.Op.{Op}
use Rattle.world_model.specs.declared.op.Op.TheVariants as ops
use Rattle.claims.specs.Asks.{Placed, count_of}
use Rattle.claims.specs.CallCounts.{WriterAt}
use Rattle.world_model.specs.Entries.{At}
use Rattle.world_model.specs.Heard.{Heard}
use Rattle.world_model.specs.Messages.{HasXid, SpellsCall, SpellsReply}
use Rattle.world_model.specs.Mounts.{Given, Rooted, Sized, info_call}
use Rattle.world_model.specs.Operations.{Ended, EndsAt, answered, AnsweredBefore, LastReply}
use Rattle.claims.specs.Pages.{page_from}
use Rattle.claims.specs.PageRules.{RefusesSo}
use Rattle.claims.specs.Shown.{ShowsAttr, of_object, of_target, of_given, of_listed}
use Rattle.claims.specs.Slots.{Finds, asked, looked_up, made, Opens, InSlot}
use Rattle.claims.specs.Terms.{Terms}
use Rattle.claims.specs.Thrifty.{read_call, MeetsPage, CameWithin, ChangesFile, FilePage, IsMet, Unchanged, TookPage, KeptPages, NeverFull, Uncut, WritesAt, IsLatest, ShortWrite, LongWrites}
use Rattle.claims.specs.Thrifty as thrift
use Rattle.claims.specs.Touched.{Wrote, write, fill, put, Covers}
use Rattle.world_model.specs.Waiting.{FirstSent, Waits}
use Rattle.world_model.proofs.ServiceExamples.{attr}

abbrev ok : Answer
ok = Done values.Nothing

abbrev path : List (List ℕ)
path = (97 ∷ []) ∷ []

abbrev get_attr : Call
get_attr = calls.File (files.GetAttr [])

-- ---- what a record spells

-- the record is under this xid, and spells this call alone
record SpellsOnly (xid : ℕ) (call : Call) (bytes : List ℕ) : Type 0 where
  under : HasXid bytes xid
  spells : SpellsCall xid call bytes
  only : (x : ℕ) (other : Call) → SpellsCall x other bytes → other ≡ call

-- the record is under this xid, and spells this reply alone
record RepliesOnly (xid : ℕ) (call : Call) (reply : Reply) (bytes : List ℕ) : Type 0 where
  under : HasXid bytes xid
  spells : SpellsReply xid call reply bytes
  only : (other : Reply) → SpellsReply xid call other bytes → other ≡ reply

one_xid : (bytes : List ℕ) (x y : ℕ) → HasXid bytes x → HasXid bytes y → x ≡ y
one_xid bytes x y a b = let same : Some x ≡ Some y = sym a ∙ b in cc same

-- ---- a page that is kept

-- a file of one byte, its attributes, and the reply to READ of its page, which ends there
abbrev one_byte : Attr
one_byte = attr 1 2

abbrev shows_one : Reply
shows_one = replies.File (kept.GetAttr one_byte)

abbrev the_read : Call
the_read = read_call [] 0 1

abbrev gives_one : Reply
gives_one = replies.File (kept.Read (Some one_byte) 1 true (97 ∷ []))

abbrev got_one : Answer
got_one = Done (values.Bytes (97 ∷ []))

-- the records of GETATTR, of READ and of READ once more, and of the replies to the first two
record Five : Type 0 where
  look : List ℕ
  looked : List ℕ
  read : List ℕ
  came : List ℕ
  again : List ℕ

-- the second of two reads of one page asks for it again
abbrev reads_twice : Five → List Entry
reads_twice r =
    Began 1 1 (ops.OpenFile 1 modes.R path) ∷ Sent r.look ∷ Delivered r.looked ∷ Answered 1 1 ok
    ∷ Began 1 2 (ops.Read 1 0 1) ∷ Sent r.read ∷ Delivered r.came ∷ Answered 1 2 got_one
    ∷ Began 1 3 (ops.Read 1 0 1) ∷ Sent r.again ∷ []

-- what the records spell; and the reply to READ breaks no rule
record AreSpelled (r : Five) : Type 0 where
  look : SpellsOnly 7 get_attr r.look
  looked : RepliesOnly 7 get_attr shows_one r.looked
  read : SpellsOnly 8 the_read r.read
  came : RepliesOnly 8 the_read gives_one r.came
  again : SpellsOnly 9 the_read r.again
  right : (n : ℕ) → RefusesSo 8 the_read r.came (faults.Bad n) → ⊥

-- each record that was sent is one of the three
data IsSent (r : Five) (j : ℕ) (b : List ℕ) : Type 0 where
  sent_look : j ≡ 1 → b ≡ r.look → IsSent r j b
  sent_read : j ≡ 5 → b ≡ r.read → IsSent r j b
  sent_again : j ≡ 9 → b ≡ r.again → IsSent r j b

which_sent : (r : Five) (j : ℕ) (b : List ℕ) → At (reads_twice r) j (Sent b) → IsSent r j b
which_sent r zero b is = absurd (cc is)
which_sent r (suc zero) b is = sent_look refl (cc is)
which_sent r (suc (suc zero)) b is = absurd (cc is)
which_sent r (suc (suc (suc zero))) b is = absurd (cc is)
which_sent r (suc (suc (suc (suc zero)))) b is = absurd (cc is)
which_sent r (suc (suc (suc (suc (suc zero))))) b is = sent_read refl (cc is)
which_sent r (suc (suc (suc (suc (suc (suc zero)))))) b is = absurd (cc is)
which_sent r (suc (suc (suc (suc (suc (suc (suc zero))))))) b is = absurd (cc is)
which_sent r (suc (suc (suc (suc (suc (suc (suc (suc zero)))))))) b is = absurd (cc is)
which_sent r (suc (suc (suc (suc (suc (suc (suc (suc (suc zero))))))))) b is = sent_again refl (cc is)
which_sent r (suc (suc (suc (suc (suc (suc (suc (suc (suc (suc j)))))))))) b is = absurd (cc is)

-- and each that came one of the two
data IsCame (r : Five) (j : ℕ) (b : List ℕ) : Type 0 where
  came_first : j ≡ 2 → b ≡ r.looked → IsCame r j b
  came_second : j ≡ 6 → b ≡ r.came → IsCame r j b

which_came : (r : Five) (j : ℕ) (b : List ℕ) → At (reads_twice r) j (Delivered b) → IsCame r j b
which_came r zero b is = absurd (cc is)
which_came r (suc zero) b is = absurd (cc is)
which_came r (suc (suc zero)) b is = came_first refl (cc is)
which_came r (suc (suc (suc zero))) b is = absurd (cc is)
which_came r (suc (suc (suc (suc zero)))) b is = absurd (cc is)
which_came r (suc (suc (suc (suc (suc zero))))) b is = absurd (cc is)
which_came r (suc (suc (suc (suc (suc (suc zero)))))) b is = came_second refl (cc is)
which_came r (suc (suc (suc (suc (suc (suc (suc zero))))))) b is = absurd (cc is)
which_came r (suc (suc (suc (suc (suc (suc (suc (suc zero)))))))) b is = absurd (cc is)
which_came r (suc (suc (suc (suc (suc (suc (suc (suc (suc zero))))))))) b is = absurd (cc is)
which_came r (suc (suc (suc (suc (suc (suc (suc (suc (suc (suc j)))))))))) b is = absurd (cc is)

-- each operation that began is the open or one of the reads
data IsBegun (x : ℕ) (op : Op) : Type 0 where
  begun_open : x ≡ 0 → op ≡ ops.OpenFile 1 modes.R path → IsBegun x op
  begun_read : op ≡ ops.Read 1 0 1 → IsBegun x op

which_began : (r : Five) (x lane line : ℕ) (op : Op) → At (reads_twice r) x (Began lane line op) → IsBegun x op
which_began r zero lane line op is = begun_open refl (cc is)
which_began r (suc zero) lane line op is = absurd (cc is)
which_began r (suc (suc zero)) lane line op is = absurd (cc is)
which_began r (suc (suc (suc zero))) lane line op is = absurd (cc is)
which_began r (suc (suc (suc (suc zero)))) lane line op is = begun_read (cc is)
which_began r (suc (suc (suc (suc (suc zero))))) lane line op is = absurd (cc is)
which_began r (suc (suc (suc (suc (suc (suc zero)))))) lane line op is = absurd (cc is)
which_began r (suc (suc (suc (suc (suc (suc (suc zero))))))) lane line op is = absurd (cc is)
which_began r (suc (suc (suc (suc (suc (suc (suc (suc zero)))))))) lane line op is = begun_read (cc is)
which_began r (suc (suc (suc (suc (suc (suc (suc (suc (suc zero))))))))) lane line op is = absurd (cc is)
which_began r (suc (suc (suc (suc (suc (suc (suc (suc (suc (suc j)))))))))) lane line op is = absurd (cc is)

-- a call that was answered is GETATTR or READ of the file, with its reply
data WasHeard (r : Five) (call : Call) (xid : ℕ) (bytes : List ℕ) : Type 0 where
  heard_look : call ≡ get_attr → xid ≡ 7 → bytes ≡ r.looked → WasHeard r call xid bytes
  heard_read : call ≡ the_read → xid ≡ 8 → bytes ≡ r.came → WasHeard r call xid bytes

spelled_by : (xid x : ℕ) (call other : Call) (bytes b : List ℕ) → SpellsOnly xid call bytes → b ≡ bytes → SpellsCall x other b → other ≡ call
spelled_by xid x call other bytes b only same spells = only.only x other (subst (SpellsCall x other) same spells)

which_heard : (r : Five) → AreSpelled r → (to xid : ℕ) (call : Call) (bytes : List ℕ) → Heard (reads_twice r) 0 to call xid bytes → WasHeard r call xid bytes
which_heard r s to xid call bytes heard =
    elim (which_came r heard.got_at bytes heard.got.got) [
      | came_first at is ↦ first at is (subst (λ b. HasXid b xid) is heard.got.under)
      | came_second at is ↦ second is (subst (λ b. HasXid b xid) is heard.got.under)
    ]
  where
    first : heard.got_at ≡ 2 → bytes ≡ r.looked → HasXid r.looked xid → WasHeard r call xid bytes
    first at is under =
        elim (which_sent r heard.sent_at heard.record_sent heard.sent.sent) [
          | sent_look j b ↦ heard_look (spelled_by 7 xid get_attr call r.look heard.record_sent s.look b heard.spells) (one_xid r.looked xid 7 under s.looked.under) is
          | sent_read j b ↦ absurd (omega (arith, at, j, heard.later))
          | sent_again j b ↦ absurd (omega (arith, at, j, heard.later))
        ]

    second : bytes ≡ r.came → HasXid r.came xid → WasHeard r call xid bytes
    second is under =
        let eight = one_xid r.came xid 8 under s.came.under in
        elim (which_sent r heard.sent_at heard.record_sent heard.sent.sent) [
          | sent_look j b ↦ let seven = one_xid r.look xid 7 (subst (λ c. HasXid c xid) b heard.sent.under) s.look.under in absurd (omega (arith, eight, seven))
          | sent_read j b ↦ heard_read (spelled_by 8 xid the_read call r.read heard.record_sent s.read b heard.spells) eight is
          | sent_again j b ↦ heard_read (spelled_by 9 xid the_read call r.again heard.record_sent s.again b heard.spells) eight is
        ]

-- ---- nothing shows that the file changed

reply_is : (xid x : ℕ) (call other : Call) (reply it : Reply) (bytes b : List ℕ) → RepliesOnly xid call reply bytes → other ≡ call → x ≡ xid → b ≡ bytes → SpellsReply x other it b → it ≡ reply
reply_is xid x call other reply it bytes b only same_call same_xid same_bytes spells =
    let under : SpellsReply xid other it b = subst (λ n. SpellsReply n other it b) same_xid spells in
    let to : SpellsReply xid call it b = subst (λ c. SpellsReply xid c it b) same_call under in
    only.only it (subst (λ bs. SpellsReply xid call it bs) same_bytes to)

shown_alike : (call : Call) (reply : Reply) (attr : Attr) → call ≡ get_attr → reply ≡ shows_one → ShowsAttr call reply [] attr → one_byte ≡ attr
shown_alike call reply attr c r shows = first (subst (λ it. ShowsAttr get_attr it [] attr) r (subst (λ it. ShowsAttr it reply [] attr) c shows))
  where
    first : ShowsAttr get_attr shows_one [] attr → one_byte ≡ attr
    first (of_object object shown) = cc shown
    first (of_target object shown) = absurd (cc object)
    first (of_given object shown) = absurd (cc object)
    first (of_listed of verf rows eof at row is listed object shown) = absurd (cc is)

given_alike : (call : Call) (reply : Reply) (attr : Attr) → call ≡ the_read → reply ≡ gives_one → ShowsAttr call reply [] attr → one_byte ≡ attr
given_alike call reply attr c r shows = second (subst (λ it. ShowsAttr the_read it [] attr) r (subst (λ it. ShowsAttr it reply [] attr) c shows))
  where
    second : ShowsAttr the_read gives_one [] attr → one_byte ≡ attr
    second (of_object object shown) = cc shown
    second (of_target object shown) = absurd (cc object)
    second (of_given object shown) = absurd (cc object)
    second (of_listed of verf rows eof at row is listed object shown) = absurd (cc is)

shown_stamp : (r : Five) → AreSpelled r → (n : ℕ) (call : Call) (reply : Reply) (attr : Attr) → CameWithin (reads_twice r) 0 n call reply → ShowsAttr call reply [] attr → stamp_of attr ≡ stamp_of one_byte
shown_stamp r s n call reply attr c shows =
    elim (which_heard r s n c.xid call c.bytes c.heard) [
      | heard_look call_is xid_is bytes_is ↦
          let it = reply_is 7 c.xid get_attr call shows_one reply r.looked c.bytes s.looked call_is xid_is bytes_is c.spells in
          sym (ap stamp_of (shown_alike call reply attr call_is it shows))
      | heard_read call_is xid_is bytes_is ↦
          let it = reply_is 8 c.xid the_read call gives_one reply r.came c.bytes s.came call_is xid_is bytes_is c.spells in
          sym (ap stamp_of (given_alike call reply attr call_is it shows))
    ]

not_changed : (call : Call) → (call ≡ get_attr) ⊎ (call ≡ the_read) → ChangesFile [] call → ⊥
not_changed call (inl e) (thrift.writes offset how bytes is) = absurd (cc (e, is))
not_changed call (inl e) (thrift.sets set guard is) = absurd (cc (e, is))
not_changed call (inr e) (thrift.writes offset how bytes is) = absurd (cc (e, is))
not_changed call (inr e) (thrift.sets set guard is) = absurd (cc (e, is))

no_change : (r : Five) → AreSpelled r → (n : ℕ) (call : Call) (xid : ℕ) (bytes : List ℕ) → ChangesFile [] call → Heard (reads_twice r) 0 n call xid bytes → ⊥
no_change r s n call xid bytes changes heard =
    elim (which_heard r s n xid call bytes heard) [
      | heard_look call_is xid_is bytes_is ↦ not_changed call (inl call_is) changes
      | heard_read call_is xid_is bytes_is ↦ not_changed call (inr call_is) changes
    ]

-- ---- and one page alone is met

finds_it : (terms : Terms) (r : Five) → AreSpelled r → (y : ℕ) (f : List ℕ) → Finds terms.modes (reads_twice r) y f → f ≡ []
finds_it terms r s y f (asked last) =
    elim (which_sent r last.sent_at last.record_sent last.sent.sent) [
      | sent_look j b ↦ let is : calls.File (files.GetAttr f) ≡ get_attr = spelled_by 7 last.xid get_attr (calls.File (files.GetAttr f)) r.look last.record_sent s.look b last.spells in cc is
      | sent_read j b ↦ absurd (cc (spelled_by 8 last.xid the_read (calls.File (files.GetAttr f)) r.read last.record_sent s.read b last.spells))
      | sent_again j b ↦ absurd (cc (spelled_by 9 last.xid the_read (calls.File (files.GetAttr f)) r.again last.record_sent s.again b last.spells))
    ]
finds_it terms r s y f (looked_up on d name attr dir last spells) =
    elim (which_sent r last.sent_at last.record_sent last.sent.sent) [
      | sent_look j b ↦ absurd (cc (spelled_by 7 last.xid get_attr _ r.look last.record_sent s.look b last.spells))
      | sent_read j b ↦ absurd (cc (spelled_by 8 last.xid the_read _ r.read last.record_sent s.read b last.spells))
      | sent_again j b ↦ absurd (cc (spelled_by 9 last.xid the_read _ r.again last.record_sent s.again b last.spells))
    ]
finds_it terms r s y f (made on d name making attr wcc last spells) =
    elim (which_sent r last.sent_at last.record_sent last.sent.sent) [
      | sent_look j b ↦ absurd (cc (spelled_by 7 last.xid get_attr _ r.look last.record_sent s.look b last.spells))
      | sent_read j b ↦ absurd (cc (spelled_by 8 last.xid the_read _ r.read last.record_sent s.read b last.spells))
      | sent_again j b ↦ absurd (cc (spelled_by 9 last.xid the_read _ r.again last.record_sent s.again b last.spells))
    ]

first_page : (offset count page : ℕ) → offset ≡ 0 → count ≡ 1 → MeetsPage offset count page → page ≡ 0
first_page offset count page at_start one met =
    let high = subst (λ c. page < page_from (offset + c)) one met.high in
    let top = subst (λ o. page < page_from (o + 1)) at_start high in
    omega (arith, top)

page_is : (f : List ℕ) (page : ℕ) → f ≡ [] → page ≡ 0 → ◌≡◌ {A = FilePage} (f, page) ([], 0)
page_is f page file first = rw (file, first) refl

met_page : (terms : Terms) (r : Five) → AreSpelled r → (n : ℕ) (page : FilePage) → IsMet terms (reads_twice r) n page → page ≡ ([], 0)
met_page terms r s n page m =
    elim (which_began r m.x m.of.lane m.of.line (ops.Read m.slot m.offset m.count) m.of.began) [
      | begun_open x is ↦ absurd (cc is)
      | begun_read is ↦ page_is page.0 page.1 (finds_it terms r s m.of.holds.y page.0 m.of.holds.opens.finds) (first_page m.offset m.count page.1 (cc is) (cc is) m.met)
    ]

few_pages : (terms : Terms) (r : Five) → AreSpelled r → (n : ℕ) (pages : List FilePage) → AllPairs (λ (a b : FilePage). a ≢ b) pages → All (IsMet terms (reads_twice r) n) pages → length pages ≤ 1024
few_pages terms r s n [] differ each = omega arith
few_pages terms r s n (p ∷ []) differ each = omega arith
few_pages terms r s n (p ∷ q ∷ rest) differ each = absurd (differ 0 1 p (omega arith) (omega arith) (met_page terms r s n p (each 0 p (omega arith)) ∙ sym (met_page terms r s n q (each 1 q (omega arith)))))

-- ---- the first read took the page

sent_first : (r : Five) → AreSpelled r → FirstSent (reads_twice r) 1 7 r.look
sent_first r s = record { sent = refl; under = s.look.under; first = first }
  where
    first : (j : ℕ) (b : List ℕ) → At (reads_twice r) j (Sent b) → HasXid b 7 → 1 ≤ j
    first j b is under = elim (which_sent r j b is) [ sent_look at it ↦ omega (arith, at) | sent_read at it ↦ omega (arith, at) | sent_again at it ↦ omega (arith, at) ]

sent_second : (r : Five) → AreSpelled r → FirstSent (reads_twice r) 5 8 r.read
sent_second r s = record { sent = refl; under = s.read.under; first = first }
  where
    first : (j : ℕ) (b : List ℕ) → At (reads_twice r) j (Sent b) → HasXid b 8 → 5 ≤ j
    first j b is under =
        elim (which_sent r j b is) [
          | sent_look at it ↦ let other = one_xid r.look 8 7 (subst (λ c. HasXid c 8) it under) s.look.under in absurd (omega (arith, other))
          | sent_read at it ↦ omega (arith, at)
          | sent_again at it ↦ omega (arith, at)
        ]

sent_third : (r : Five) → AreSpelled r → FirstSent (reads_twice r) 9 9 r.again
sent_third r s = record { sent = refl; under = s.again.under; first = first }
  where
    first : (j : ℕ) (b : List ℕ) → At (reads_twice r) j (Sent b) → HasXid b 9 → 9 ≤ j
    first j b is under =
        elim (which_sent r j b is) [
          | sent_look at it ↦ let other = one_xid r.look 9 7 (subst (λ c. HasXid c 9) it under) s.look.under in absurd (omega (arith, other))
          | sent_read at it ↦ let other = one_xid r.read 9 8 (subst (λ c. HasXid c 9) it under) s.read.under in absurd (omega (arith, other))
          | sent_again at it ↦ omega (arith, at)
        ]

abbrev looked_last : (r : Five) → AreSpelled r → LastReply (reads_twice r) 3 get_attr
looked_last r s = record { at = 2; bytes = r.looked; xid = 7; sent_at = 1; record_sent = r.look; got = refl; before = omega arith; last = last_came; under = s.looked.under; sent = sent_first r s; spells = s.look.spells; asked = omega arith }
  where
    last_came : (j : ℕ) (b : List ℕ) → At (reads_twice r) j (Delivered b) → j < 3 → j ≤ 2
    last_came j b is before = omega (arith, before)

opens_it : (terms : Terms) (r : Five) → AreSpelled r → Opens terms.modes (reads_twice r) 1 1 0 3 []
opens_it terms r s = record { mode = modes.R; path = path; value = values.Nothing; ended = record { line = 1; began = refl; answered = refl; later = omega arith; first = first_answer }; finds = asked (looked_last r s) }
  where
    first_answer : (j : ℕ) (a : Answer) → At (reads_twice r) j (Answered 1 1 a) → 0 < j → 3 ≤ j
    first_answer zero a is after = omega (arith, after)
    first_answer (suc zero) a is after = absurd (cc is)
    first_answer (suc (suc zero)) a is after = absurd (cc is)
    first_answer (suc (suc (suc j))) a is after = omega arith

holds_it : (terms : Terms) (r : Five) → AreSpelled r → InSlot terms.modes (reads_twice r) 4 1 1 0 []
holds_it terms r s = record { y = 3; opens = opens_it terms r s; before = omega arith; kept = not_closed }
  where
    not_closed : (c k : ℕ) (answer : Answer) → Ended (reads_twice r) 1 c (ops.Close 1) k answer → 3 < k → k < 4 → ⊥
    not_closed c k answer ended after before = omega (arith, after, before)

ends_read : (r : Five) → EndsAt (reads_twice r) 4 7
ends_read r = answered 1 (ops.Read 1 0 1) got_one (record { line = 2; began = refl; answered = refl; later = omega arith; first = first_answer })
  where
    first_answer : (j : ℕ) (a : Answer) → At (reads_twice r) j (Answered 1 2 a) → 4 < j → 7 ≤ j
    first_answer zero a is after = omega (arith, after)
    first_answer (suc zero) a is after = omega (arith, after)
    first_answer (suc (suc zero)) a is after = omega (arith, after)
    first_answer (suc (suc (suc zero))) a is after = omega (arith, after)
    first_answer (suc (suc (suc (suc zero)))) a is after = omega (arith, after)
    first_answer (suc (suc (suc (suc (suc zero))))) a is after = absurd (cc is)
    first_answer (suc (suc (suc (suc (suc (suc zero)))))) a is after = absurd (cc is)
    first_answer (suc (suc (suc (suc (suc (suc (suc j))))))) a is after = omega arith

first_waits : (r : Five) → AreSpelled r → Waits (reads_twice r) 7 2
first_waits r s = record { at = 1; bytes = r.look; sent = refl; under = s.look.under; before = omega arith; unanswered = λ j b is under after before. omega (arith, after, before) }

abbrev read_heard : (r : Five) → AreSpelled r → Heard (reads_twice r) 4 7 the_read 8 r.came
read_heard r s = record {
  sent_at = 5;
  record_sent = r.read;
  got_at = 6;
  sent = sent_second r s;
  spells = s.read.spells;
  got = record { got = refl; under = s.came.under; waits = record { at = 5; bytes = r.read; sent = refl; under = s.read.under; before = omega arith; unanswered = λ j b is under after before. omega (arith, after, before) } };
  after = omega arith;
  later = omega arith;
  before = omega arith;
}

takes_page : (terms : Terms) (w : Five) → AreSpelled w → TookPage terms (reads_twice w) 0 [] (stamp_of one_byte) 6 0
takes_page terms w s = record {
  lane = 1;
  slot = 1;
  y = 3;
  opens = opens_it terms w s;
  attr = one_byte;
  told = record { last = looked_last w s; within = omega arith; waits = first_waits w s; spells = s.looked.spells };
  known = refl;
  r = 4;
  end = 7;
  asked_offset = 0;
  asked_count = 1;
  line = 2;
  reads = refl;
  holds = holds_it terms w s;
  ends = ends_read w;
  xid = 8;
  bytes = w.came;
  offset = 0;
  count = 1;
  heard = read_heard w s;
  here = refl;
  shows = one_byte;
  counted = 1;
  eof = true;
  data_ = 97 ∷ [];
  spells = s.came.spells;
  right = s.right;
  same = refl;
  gives = thrift.last refl (omega arith) (omega arith) (omega arith) refl;
}

stays : (terms : Terms) (r : Five) → AreSpelled r → Unchanged terms (reads_twice r) 0 9 [] (stamp_of one_byte)
stays terms r s = record {
  shown = shown_stamp r s 9;
  unwritten = λ call xid bytes changes heard after. no_change r s 9 call xid bytes changes heard;
  few = few_pages terms r s 9;
}

-- READ is sent for a page that is kept.
may_not_ask_for_a_kept_page : (terms : Terms) (r : Five) → AreSpelled r → KeptPages terms (reads_twice r) → ⊥
may_not_ask_for_a_kept_page terms r s pages = pages 0 6 0 9 9 0 1 [] r.again (stamp_of one_byte) (takes_page terms r s) (sent_third r s) s.again.spells (omega arith) (record { some = omega arith; low = omega arith; high = omega arith }) (stays terms r s)

-- ---- a WRITE that is smaller than may be

abbrev two_bytes : List ℕ
two_bytes = 1 ∷ 2 ∷ []

abbrev the_put : Op
the_put = ops.Put [] 0 two_bytes

-- a put of two bytes to the root's own file, once FSINFO was answered, sends the first byte alone
abbrev puts_one_by_one : List ℕ → List ℕ → List ℕ → List Entry
puts_one_by_one info told part = Sent info ∷ Delivered told ∷ Began 1 1 the_put ∷ Sent part ∷ []

abbrev write_first : ℕ → Call
write_first how = calls.File (files.Write [] 0 how (1 ∷ []))

only_put : (info told part : List ℕ) (x lane line : ℕ) (op : Op) → At (puts_one_by_one info told part) x (Began lane line op) → (x ≡ 2) × (the_put ≡ op)
only_put info told part zero lane line op is = absurd (cc is)
only_put info told part (suc zero) lane line op is = absurd (cc is)
only_put info told part (suc (suc zero)) lane line op is = (refl, cc is)
only_put info told part (suc (suc (suc zero))) lane line op is = absurd (cc is)
only_put info told part (suc (suc (suc (suc x)))) lane line op is = absurd (cc is)

not_answered : (info told part : List ℕ) (y lane line : ℕ) (answer : Answer) → At (puts_one_by_one info told part) y (Answered lane line answer) → ⊥
not_answered info told part zero lane line answer is = absurd (cc is)
not_answered info told part (suc zero) lane line answer is = absurd (cc is)
not_answered info told part (suc (suc zero)) lane line answer is = absurd (cc is)
not_answered info told part (suc (suc (suc zero))) lane line answer is = absurd (cc is)
not_answered info told part (suc (suc (suc (suc y)))) lane line answer is = absurd (cc is)

never_ends : (info told part : List ℕ) (x n : ℕ) → AnsweredBefore (puts_one_by_one info told part) x n → ⊥
never_ends info told part x n a = not_answered info told part a.y a.lane a.ended.line a.answer a.ended.answered

put_counts : (info told part : List ℕ) (o : Placed) → WriterAt (puts_one_by_one info told part) o → count_of o.1 ≡ 2
put_counts info told part o writer = sym (ap count_of (only_put info told part o.0 writer.began.0 writer.began.1 o.1 writer.began.2).1)

put_at : (info told part : List ℕ) (o : Placed) → WriterAt (puts_one_by_one info told part) o → o.0 ≡ 2
put_at info told part o writer = (only_put info told part o.0 writer.began.0 writer.began.1 o.1 writer.began.2).0

has_room : (info told part : List ℕ) → NeverFull (puts_one_by_one info told part)
has_room info told part [] differ each = omega arith
has_room info told part (o ∷ []) differ each = let two = put_counts info told part o (each 0 o (omega arith)) in omega (arith, two)
has_room info told part (o ∷ p ∷ rest) differ each = absurd (differ 0 1 o (omega arith) (omega arith) (put_at info told part o (each 0 o (omega arith)) ∙ sym (put_at info told part p (each 1 p (omega arith)))))

not_cut : (terms : Terms) (info told part : List ℕ) → Uncut terms (puts_one_by_one info told part) 3 []
not_cut terms info told part = record {
  truncate = λ lane x slot size y answer of ended before. not_answered info told part y lane ended.line answer ended.answered;
  close = λ lane x slot y fault of ended before. not_answered info told part y lane ended.line (Refused fault) ended.answered;
  put = λ lane x offset y p bytes fault ended leads before. not_answered info told part y lane ended.line (Refused fault) ended.answered;
}

rooted_here : (terms : Terms) (h : List Entry) (n : ℕ) → terms.origin ≡ Given [] → Rooted terms.origin h n []
rooted_here terms h n given = subst (λ o. Rooted o h n []) (sym given) refl

none_wrote : (terms : Terms) (info told part f : List ℕ) (w y i v : ℕ) → Wrote terms.modes (puts_one_by_one info told part) w y f i v → ⊥
none_wrote terms info told part f w y i v (write lane slot offset bytes value of ended covers) = not_answered info told part y lane ended.line (Done value) ended.answered
none_wrote terms info told part f w y i v (fill lane slot offset count value of ended low high) = not_answered info told part y lane ended.line (Done value) ended.answered
none_wrote terms info told part f w y i v (put offset bytes puts covers) = not_answered info told part y puts.lane puts.ended.line (Done puts.value) puts.ended.answered

latest_put : (terms : Terms) (info told part : List ℕ) (i v : ℕ) → Covers 0 two_bytes i v → IsLatest terms (puts_one_by_one info told part) 2 the_put [] i 2
latest_put terms info told part i v covers = record {
  writes = thrift.itself [] 0 v two_bytes refl refl covers;
  latest = only;
}
  where
    only : (other : ℕ) → WritesAt terms (puts_one_by_one info told part) 2 the_put [] i other → other ≤ 2
    only other (thrift.earlier y byte wrote before) = absurd (none_wrote terms info told part [] other y i byte wrote)
    only other (thrift.itself path offset byte bytes is there its) = omega (arith, there)

sends_first : (info told part : List ℕ) → HasXid info 7 → HasXid part 8 → FirstSent (puts_one_by_one info told part) 3 8 part
sends_first info told part before under = record { sent = refl; under = under; first = first }
  where
    first : (j : ℕ) (b : List ℕ) → At (puts_one_by_one info told part) j (Sent b) → HasXid b 8 → 3 ≤ j
    first zero b is its = let same : info ≡ b = cc is in let other = one_xid b 7 8 (subst (λ c. HasXid c 7) same before) its in absurd (omega (arith, other))
    first (suc zero) b is its = absurd (cc is)
    first (suc (suc zero)) b is its = absurd (cc is)
    first (suc (suc (suc j))) b is its = omega arith

-- A WRITE has one byte of two that a put writes, though both may go in one.
may_not_write_one_by_one : (terms : Terms) (info told part : List ℕ) (how wsize : ℕ) → terms.origin ≡ Given [] → SpellsOnly 7 (info_call []) info → HasXid part 8 → SpellsCall 8 (write_first how) part
    → Sized (puts_one_by_one info told part) 3 [] terms.wsize wsize → 1 < wsize → LongWrites terms (puts_one_by_one info told part) → ⊥
may_not_write_one_by_one terms info told part how wsize given informs under spells sized room long =
    let covered = long (has_room info told part) 3 2 0 2 the_put [] short (not_cut terms info told part) (latest_put terms info told part 1 2 second) (latest_put terms info told part 0 1 first) in
    not_covered covered.at covered.xid covered.bytes covered.call covered.sent covered.spells covered.covers.offset covered.covers.how covered.covers.bytes covered.covers.is covered.earlier
  where
    first : Covers 0 two_bytes 0 1
    first = record { k = 0; place = refl; byte = refl }

    second : Covers 0 two_bytes 1 2
    second = record { k = 1; place = refl; byte = refl }

    short : ShortWrite terms (puts_one_by_one info told part) 3 2 the_put [] 0
    short = record {
      lane = 1;
      xid = 8;
      bytes = part;
      offset = 0;
      how = how;
      data_ = 1 ∷ [];
      root = [];
      wsize = wsize;
      sent = sends_first info told part informs.under under;
      spells = spells;
      some = omega arith;
      is = refl;
      rooted = rooted_here terms (puts_one_by_one info told part) 3 given;
      sized = sized;
      short = room;
      under_way = record { line = 1; began = refl; before = omega arith; unanswered = never_ends info told part 2 3 };
      sync = inr ([], 0, two_bytes, refl);
    }

    not_covered : (at xid : ℕ) (bytes : List ℕ) (call : Call) → At (puts_one_by_one info told part) at (Sent bytes) → SpellsCall xid call bytes
        → (offset its_how : ℕ) (data_ : List ℕ) → call ≡ calls.File (files.Write [] offset its_how data_) → at < 3 → ⊥
    not_covered zero xid bytes call sent its offset its_how data_ is before =
        let same : info ≡ bytes = cc sent in
        let other = spelled_by 7 xid (info_call []) call info bytes informs (sym same) its in
        absurd (cc (other, is))
    not_covered (suc zero) xid bytes call sent its offset its_how data_ is before = absurd (cc sent)
    not_covered (suc (suc zero)) xid bytes call sent its offset its_how data_ is before = absurd (cc sent)
    not_covered (suc (suc (suc at))) xid bytes call sent its offset its_how data_ is before = omega (arith, before)
