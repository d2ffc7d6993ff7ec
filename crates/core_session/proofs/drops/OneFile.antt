-- The file that a slot holds is one: that of its one open, whose last reply names one file.
use Rattle.core_session.proofs.Prelude.{◌≡◌, ◌<◌, ◌≤◌, ◌⊎◌, inl, inr, ℕ, List, [], ◌∷◌, ◌++◌, length, Option, Some, slice_get, Result, Ok, Err, refl, sym, ap, subst, ◌∙◌, arith, cases_lt, Attr, Wcc, DirCall, DirKept, Answer, Value, Entry, Began, Answered, Dialed, Sent, Executed, Foreign, Flushed, Reboot, Delivered, Failed, Clock, Call, Reply, Op, At, HasXid, SpellsCall, SpellsReply, Modes, Ended, AnsweredBefore, LastReply, Finds, InSlot, Terms, At-below, At-cases, At-one, Mounted, Machine, machine_of, Setup, numbers_of, View, IsNfs, one-call, StepsTo, Reaches, begins, goes, loses, GoesWith, reached-lanes, idle-numbers, ended-grow}
use Rattle.world_model.specs.Messages.{SpellsResults}
use Rattle.claims.specs.Slots.{asked, looked_up, made}
use Rattle.xdr_codec.specs.declared.reader.XdrFault.{XdrFault}
use Rattle.nfs_dir_calls.specs.declared.call.DirCall.TheVariants as dirs
use Rattle.nfs_dir_calls.specs.declared.keeping.DirKept.TheVariants as found
use Rattle.nfs_dir_calls.specs.Calls.{dir_proc}
use Rattle.nfs_dir_calls.proofs.Replies.{dir_reply_codec}
use Rattle.nfs_file_calls.specs.declared.call.FileCall.TheVariants as files
use Rattle.rpc_message.specs.declared.reply.ReplyFault.{ReplyFault}
use Rattle.rpc_message.specs.Reply.{RpcReply, Accepted, Refused as RpcRefused, Denied}
use Rattle.rpc_message.proofs.ReplyLaws.{reply_again}
use Rattle.world_model.specs.declared.answer.Answer.TheVariants as answers
use Rattle.world_model.specs.declared.answer.Fault.TheVariants as faults
use Rattle.world_model.specs.declared.message.Call.TheVariants as calls
use Rattle.world_model.specs.declared.message.Reply.TheVariants as replies
use Rattle.world_model.specs.declared.op.Op.TheVariants as ops
use Rattle.claims.specs.Caused.{IsTried}
use Rattle.claims.specs.Rights.{taken}
use Rattle.core_facts.proofs.SlotTheorems.{places-exact}

-- ---- a record is one reply

results-or : List ℕ → Result RpcReply ReplyFault → List ℕ
results-or rs (Ok (Accepted x results)) = results
results-or rs (Ok (RpcRefused x a b c)) = rs
results-or rs (Ok (Denied x a b c)) = rs
results-or rs (Err fault) = rs

found-reply : RpcReply → Result RpcReply ReplyFault
found-reply r = Ok r

one-results : (x y : ℕ) (a b bytes : List ℕ) → found-reply (Accepted x a) ≡ found-reply (Accepted y b) → a ≡ b
unfolding results-or found-reply
one-results x y a b bytes e = ap (results-or a) e

ok-is : {A : Type 0} (a b : A) → ◌≡◌ {A = Result A XdrFault} (Ok a) (Ok b) → a ≡ b
ok-is a b e = cc

one-dir-reply : (x : ℕ) (call : DirCall) (a b : DirKept) (bytes : List ℕ) → SpellsReply x (calls.Dir call) (replies.Dir a) bytes → SpellsReply x (calls.Dir call) (replies.Dir b) bytes → a ≡ b
unfolding found-reply
one-dir-reply x call a b bytes s t =
    let same : s.results ≡ t.results = one-results x x s.results t.results bytes (sym (reply_again (Accepted x s.results) bytes s.accepted) ∙ reply_again (Accepted x t.results) bytes t.accepted) in
    let first : SpellsResults (calls.Dir call) (replies.Dir a) t.results = subst (SpellsResults (calls.Dir call) (replies.Dir a)) same s.is in
    ok-is a b (sym ((dir_reply_codec (dir_proc call)).again a t.results first) ∙ (dir_reply_codec (dir_proc call)).again b t.results t.is)

-- ---- the last reply answers one call

some-is : (a b : ℕ) → Some a ≡ Some b → a ≡ b
some-is a b e = cc

came-is : (a b : List ℕ) → Delivered a ≡ Delivered b → a ≡ b
came-is a b e = cc

sent-is : (a b : List ℕ) → Sent a ≡ Sent b → a ≡ b
sent-is a b e = cc

record SameLast (h : List Entry) (n : ℕ) (call other : Call) (k : LastReply h n call) (l : LastReply h n other) : Type 0 where
  call_is : other ≡ call
  xid : l.xid ≡ k.xid
  bytes : l.bytes ≡ k.bytes

same-last : (h : List Entry) (n : ℕ) (call other : Call) → IsNfs call → (k : LastReply h n call) (l : LastReply h n other) → SameLast h n call other k l
same-last h n call other nfs k l =
    let low = k.last l.at l.bytes l.got l.before in
    let high = l.last k.at k.bytes k.got k.before in
    let at : l.at ≡ k.at = omega (arith, low, high) in
    let bytes : l.bytes ≡ k.bytes = came-is l.bytes k.bytes (At-one h k.at (Delivered l.bytes) (Delivered k.bytes) (subst (λ (i : ℕ). At h i (Delivered l.bytes)) at l.got) k.got) in
    let xid : l.xid ≡ k.xid = some-is l.xid k.xid (sym l.under ∙ subst (λ (b : List ℕ). HasXid b k.xid) (sym bytes) k.under) in
    let under : HasXid l.record_sent k.xid = subst (λ (i : ℕ). HasXid l.record_sent i) xid l.sent.under in
    let first = k.sent.first l.sent_at l.record_sent l.sent.sent under in
    let second = l.sent.first k.sent_at k.record_sent k.sent.sent (subst (λ (i : ℕ). HasXid k.record_sent i) (sym xid) k.sent.under) in
    let sent_at : l.sent_at ≡ k.sent_at = omega (arith, first, second) in
    let sent : l.record_sent ≡ k.record_sent =
    sent-is l.record_sent k.record_sent (At-one h k.sent_at (Sent l.record_sent) (Sent k.record_sent) (subst (λ (i : ℕ). At h i (Sent l.record_sent)) sent_at l.sent.sent) k.sent.sent) in
    let same : call ≡ other = one-call k.xid l.xid call other k.record_sent nfs k.spells (subst (λ (b : List ℕ). SpellsCall l.xid other b) sent l.spells) in
    record { call_is = sym same; xid = xid; bytes = bytes }

-- ---- what an open found is one file

attr-file : (f g : List ℕ) → ◌≡◌ {A = Call} (calls.File (files.GetAttr f)) (calls.File (files.GetAttr g)) → f ≡ g
attr-file f g e = cc

looked-file : (f g : List ℕ) (a b c d : Option Attr) → ◌≡◌ {A = DirKept} (found.Lookup f a b) (found.Lookup g c d) → f ≡ g
looked-file f g a b c d e = cc

made-file : (f g : List ℕ) (a b : Option Attr) (c d : Wcc) → ◌≡◌ {A = DirKept} (found.Create (Some f) a c) (found.Create (Some g) b d) → f ≡ g
made-file f g a b c d e = cc

-- the same reply, read as one to the call of another last reply
moved : (h : List Entry) (n : ℕ) (call other : Call) (k : LastReply h n call) (l : LastReply h n other) (s : SameLast h n call other k l) (reply : Reply)
    → SpellsReply l.xid other reply l.bytes → SpellsReply k.xid call reply k.bytes
moved h n call other k l s reply spells =
    subst (λ (b : List ℕ). SpellsReply k.xid call reply b) s.bytes
    (subst (λ (i : ℕ). SpellsReply i call reply l.bytes) s.xid (subst (λ (c : Call). SpellsReply l.xid c reply l.bytes) s.call_is spells))

pub finds-one : (m : Modes) (h : List Entry) (y : ℕ) (f g : List ℕ) → Finds m h y f → Finds m h y g → f ≡ g
finds-one m h y f g (asked k) (asked l) = attr-file f g (sym (same-last h y _ _ tt k l).call_is)
finds-one m h y f g (asked k) (looked_up nocto d name attr dir l spells) =
    absurd (let no_way : calls.Dir (dirs.Lookup d name) ≡ calls.File (files.GetAttr f) = (same-last h y _ _ tt k l).call_is in cc)
finds-one m h y f g (asked k) (made nocto d name making attr wcc l spells) =
    absurd (let no_way : calls.Dir (dirs.Create d name making) ≡ calls.File (files.GetAttr f) = (same-last h y _ _ tt k l).call_is in cc)
finds-one m h y f g (looked_up nocto d name attr dir k spells) (asked l) =
    absurd (let no_way : calls.File (files.GetAttr g) ≡ calls.Dir (dirs.Lookup d name) = (same-last h y _ _ tt k l).call_is in cc)
finds-one m h y f g (looked_up nocto d name attr dir k spells) (looked_up again e other a b l told) =
    let s = same-last h y (calls.Dir (dirs.Lookup d name)) (calls.Dir (dirs.Lookup e other)) tt k l in
    looked-file f g attr dir a b (one-dir-reply k.xid (dirs.Lookup d name) (found.Lookup f attr dir) (found.Lookup g a b) k.bytes spells
    (moved h y (calls.Dir (dirs.Lookup d name)) (calls.Dir (dirs.Lookup e other)) k l s (replies.Dir (found.Lookup g a b)) told))
finds-one m h y f g (looked_up nocto d name attr dir k spells) (made again e other making a wcc l told) =
    absurd (let no_way : calls.Dir (dirs.Create e other making) ≡ calls.Dir (dirs.Lookup d name) = (same-last h y _ _ tt k l).call_is in cc)
finds-one m h y f g (made nocto d name making attr wcc k spells) (asked l) =
    absurd (let no_way : calls.File (files.GetAttr g) ≡ calls.Dir (dirs.Create d name making) = (same-last h y _ _ tt k l).call_is in cc)
finds-one m h y f g (made nocto d name making attr wcc k spells) (looked_up again e other a b l told) =
    absurd (let no_way : calls.Dir (dirs.Lookup e other) ≡ calls.Dir (dirs.Create d name making) = (same-last h y _ _ tt k l).call_is in cc)
finds-one m h y f g (made nocto d name making attr wcc k spells) (made again e other with_ a w l told) =
    let s = same-last h y (calls.Dir (dirs.Create d name making)) (calls.Dir (dirs.Create e other with_)) tt k l in
    made-file f g attr a wcc w (one-dir-reply k.xid (dirs.Create d name making) (found.Create (Some f) attr wcc) (found.Create (Some g) a w) k.bytes spells
    (moved h y (calls.Dir (dirs.Create d name making)) (calls.Dir (dirs.Create e other with_)) k l s (replies.Dir (found.Create (Some g) a w)) told))

-- ---- operations of a lane come one after the other

pub answered-grow : (h : List Entry) (e : Entry) (x n : ℕ) → AnsweredBefore h x n → AnsweredBefore (h ++ e ∷ []) x n
answered-grow h e x n a = record { lane = a.lane; op = a.op; y = a.y; answer = a.answer; ended = ended-grow h e a.lane x a.op a.y a.answer a.ended; before = a.before }

began-is : (a b c d : ℕ) (o p : Op) → Began a b o ≡ Began c d p → (a ≡ c) × (o ≡ p) × (b ≡ d)
began-is a b c d o p e = (cc, cc, cc)

module _ (machines_of : ℕ → Op → Machine) (setup : Setup) where
  began-now : (h : List Entry) (old : View) (e : Entry) (new : View) (lane x line : ℕ) (op : Op) (other : ℕ) (later : Op) → Reaches machines_of setup h old → StepsTo machines_of h old e new
      → At h x (Began lane line op) → e ≡ Began lane other later → AnsweredBefore h x (length h)
  began-now h old (Began n l o) new lane x line op other later r t at is =
      let same = began-is n l lane other o later is in
      ((reached-lanes machines_of setup h old r).rest lane (subst (λ (k : ℕ). (i : ℕ) → slice_get (numbers_of old.lanes) i ≡ Some k → ⊥) same.0 (idle-numbers n (numbers_of old.lanes) t.idle.other))).answered x line op at
  began-now h old (Answered n l a) new lane x line op other later r t at is = absurd cc
  began-now h old (Sent bytes) new lane x line op other later r t at is = absurd cc
  began-now h old (Delivered bytes) new lane x line op other later r t at is = absurd cc
  began-now h old Failed new lane x line op other later r t at is = absurd cc
  began-now h old (Dialed port) new lane x line op other later r t at is = absurd cc
  began-now h old (Executed xid call reply) new lane x line op other later r t at is = absurd cc
  began-now h old (Foreign call reply) new lane x line op other later r t at is = absurd cc
  began-now h old (Flushed file from len) new lane x line op other later r t at is = absurd cc
  began-now h old (Reboot verf) new lane x line op other later r t at is = absurd cc
  began-now h old (Clock ms) new lane x line op other later r t at is = absurd cc

  -- of two operations of a lane the first was answered as the second began
  pub one-by-one : (h : List Entry) (v : View) → Reaches machines_of setup h v → (lane x line : ℕ) (op : Op) (y other : ℕ) (later : Op) → At h x (Began lane line op)
      → At h y (Began lane other later) → x < y → AnsweredBefore h x y
  one-by-one _ _ (begins h v may up fresh) lane x line op y other later a b before = absurd (up.unbegun x lane line op a)
  one-by-one _ _ (goes h before v old e r is t) lane x line op y other later a b low =
      subst (λ (k : List Entry). AnsweredBefore k x y) (sym is)
      (by (one-by-one before old r lane x line op y other later) (At-cases before e y (Began lane other later) (subst (λ (k : List Entry). At k y (Began lane other later)) is b))
      (At-cases before e x (Began lane line op) (subst (λ (k : List Entry). At k x (Began lane line op)) is a)))
    where
      by : (At before x (Began lane line op) → At before y (Began lane other later) → x < y → AnsweredBefore before x y)
          → At before y (Began lane other later) ⊎ ((y ≡ length before) × (e ≡ Began lane other later)) → At before x (Began lane line op) ⊎ ((x ≡ length before) × (e ≡ Began lane line op)) → AnsweredBefore (before ++ e ∷ []) x y
      by so (inl there) (inl was) = answered-grow before e x y (so was there low)
      by so (inl there) (inr now) = let under = At-below before y (Began lane other later) there in let at = now.0 in absurd (omega (arith, under, at, low))
      by so (inr now) (inl was) =
          subst (λ (n : ℕ). AnsweredBefore (before ++ e ∷ []) x n) (sym now.0)
          (answered-grow before e x (length before) (began-now before old e v lane x line op other later r t was now.1))
      by so (inr now) (inr then_) = let a = now.0 in let b = then_.0 in absurd (omega (arith, a, b, low))
  one-by-one _ _ (loses h v b r shown is) lane x line op y other later one two low = one-by-one h b r lane x line op y other later one two low

-- ---- the open that a slot holds

module _ (m : Mounted) (terms : Terms) (setup : Setup) (h : List Entry) (v : View) (g : GoesWith m terms setup h v) (n lane slot : ℕ) where
  was-tried : (value : Value) → IsTried (answers.Done value)
  was-tried value = record { lost = λ e. absurd cc; memory = λ e. absurd cc }

  -- the answer of an operation that was answered before a place came before it
  early : (x : ℕ) (op : Op) (y k : ℕ) (answer : Answer) → Ended h lane x op y answer → AnsweredBefore h x k → y < k
  early x op y k answer d a =
      let same = began-is a.lane a.ended.line lane d.line a.op op (At-one h x (Began a.lane a.ended.line a.op) (Began lane d.line op) a.ended.began d.began) in
      let first = d.first a.y a.answer (subst (λ (l : ℕ). At h a.y (Answered l d.line a.answer)) same.0 (subst (λ (l : ℕ). At h a.y (Answered a.lane l a.answer)) same.2 a.ended.answered)) a.ended.later in
      let low = a.before in
      omega (arith, first, low)

  -- an open of a slot that holds one isn't answered ok
  not-again : (a b : ℕ) (f g_ : List ℕ) (i : InSlot terms.modes h n lane slot a f) (j : InSlot terms.modes h n lane slot b g_) → i.y < j.y → ⊥
  not-again a b f g_ i j low = by (cases_lt a b)
    where
      by : (a < b) ⊎ (b ≤ a) → ⊥
      by (inl before) =
          let done = one-by-one (machine_of m) setup h v g.reaches lane a i.opens.ended.line (ops.OpenFile slot i.opens.mode i.opens.path) b j.opens.ended.line
          (ops.OpenFile slot j.opens.mode j.opens.path) i.opens.ended.began j.opens.ended.began before in
          let answered = early a (ops.OpenFile slot i.opens.mode i.opens.path) i.y b (answers.Done i.opens.value) i.opens.ended done in
          let late = j.opens.ended.later in
          let last = j.before in
          let there : InSlot terms.modes h b lane slot a f = record {
            y = i.y;
            opens = i.opens;
            before = answered;
            kept = λ c k answer d after lt. i.kept c k answer d after (omega (arith, lt, late, last));
          } in
          let no_way : answers.Done j.opens.value ≡ answers.Refused faults.Slot =
          (places-exact m terms setup h v g lane b j.y (ops.OpenFile slot j.opens.mode j.opens.path) (answers.Done j.opens.value) j.opens.ended (was-tried j.opens.value)).slot
          (taken slot a j.opens.mode j.opens.path f refl there) in
          cc
      by (inr after) = same (cases_lt b a)
        where
          same : (b < a) ⊎ (a ≤ b) → ⊥
          same (inl less) =
              let done = one-by-one (machine_of m) setup h v g.reaches lane b j.opens.ended.line (ops.OpenFile slot j.opens.mode j.opens.path) a i.opens.ended.line
              (ops.OpenFile slot i.opens.mode i.opens.path) j.opens.ended.began i.opens.ended.began less in
              let answered = early b (ops.OpenFile slot j.opens.mode j.opens.path) j.y a (answers.Done j.opens.value) j.opens.ended done in
              let late = i.opens.ended.later in
              absurd (omega (arith, answered, late, low))
          same (inr more) =
              let is : a ≡ b = omega (arith, after, more) in
              let began = subst (λ (k : ℕ). At h k (Began lane i.opens.ended.line (ops.OpenFile slot i.opens.mode i.opens.path))) is i.opens.ended.began in
              let one = began-is lane i.opens.ended.line lane j.opens.ended.line _ _ (At-one h b _ _ began j.opens.ended.began) in
              let first = j.opens.ended.first i.y (answers.Done i.opens.value) (subst (λ (l : ℕ). At h i.y (Answered lane l (answers.Done i.opens.value))) one.2 i.opens.ended.answered)
              (let late = i.opens.ended.later in omega (arith, late, is)) in
              absurd (omega (arith, first, low))

  -- the slot holds one file
  pub slot-file : (a b : ℕ) (f g_ : List ℕ) → InSlot terms.modes h n lane slot a f → InSlot terms.modes h n lane slot b g_ → f ≡ g_
  slot-file a b f g_ i j = by (cases_lt i.y j.y) (cases_lt j.y i.y)
    where
      by : (i.y < j.y) ⊎ (j.y ≤ i.y) → (j.y < i.y) ⊎ (i.y ≤ j.y) → f ≡ g_
      by (inl low) k = absurd (not-again a b f g_ i j low)
      by (inr high) (inl low) = absurd (not-again b a g_ f j i low)
      by (inr high) (inr more) =
          let is : j.y ≡ i.y = omega (arith, high, more) in
          finds-one terms.modes h i.y f g_ i.opens.finds (subst (λ (y : ℕ). Finds terms.modes h y g_) is j.opens.finds)
