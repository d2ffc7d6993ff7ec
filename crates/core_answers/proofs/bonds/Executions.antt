-- A reply that answers a call is that of an execution of the very call, since it was first sent; and what it shows was so then.
use Rattle.core_answers.proofs.Prelude.{◌≡◌, ◌<◌, ◌≤◌, ℕ, suc, List, inl, inr, Some, Result, Ok, sym, ap, subst, ◌∙◌, arith, Attr, Entry, Call, Reply, At, History, Lawful, HasXid, SpellsCall, SpellsReply, of_object, Numbered, reached-rows, machine_of, IsRecent, own, HadShown, IsAnswered}
use Rattle.world_model.specs.Lawful.{IsReplied, replied, refused}
use Rattle.claims.specs.Shown.{ShowsAttr, of_target, of_given, of_listed}
use Rattle.core_answers.specs.bonds.Ages.{young}
use Rattle.rpc_message.specs.Reply.{RpcReply, Accepted, refusal_number, SpellsRefusal}
use Rattle.rpc_message.specs.declared.reply.ReplyFault.{ReplyFault}
use Rattle.rpc_message.proofs.ReplyLaws.{reply_first, reply_again}
use Rattle.world_model.specs.declared.entry.Entry.TheVariants as entries
use Rattle.world_model.specs.declared.message.Call.TheVariants as calls
use Rattle.world_model.specs.declared.message.Reply.TheVariants as replies
use Rattle.law_calls.proofs.CallsWait.{xid_of_call}
use Rattle.model_walks.proofs.RepliesShow.{shows_true}
use Rattle.core_facts.proofs.Grown.{one-xid}
use Rattle.core_answers.specs.bonds.Had.{HasAttr, AttrsTrue, StatsTrue}
use Rattle.core_answers.proofs.bonds.AttrsShown.{attrs-shown}
use Rattle.core_answers.proofs.bonds.OneCall.{IsNfs, one-call}
use Rattle.core_answers.proofs.bonds.StatsShown.{stats-recent}

-- ---- one execution

-- a record that is a reply refuses nothing
unrefused : (x y number : ℕ) (call : Call) (reply : Reply) (b : List ℕ) → SpellsReply x call reply b → SpellsRefusal y number b → ⊥
unrefused x y number call reply b s r = differ (ap refusal_number (ok_is (Accepted x s.results) r.reply (sym (reply_again (Accepted x s.results) b s.accepted) ∙ reply_again r.reply b r.is)) ∙ r.numbered)
  where
    ok_is : (p q : RpcReply) → ◌≡◌ {A = Result RpcReply ReplyFault} (Ok p) (Ok q) → p ≡ q
    ok_is p q e = cc

    differ : refusal_number (Accepted x s.results) ≡ Some number → ⊥
    differ e = absurd (cc e)

-- The call was executed with this reply between these places.
pub record Ran (t : History) (from to : ℕ) (call : Call) (reply : Reply) : Type 0 where
  pub xid : ℕ
  pub place : ℕ
  pub at : At t.entries place (entries.Executed xid call reply)
  pub late : from ≤ place
  pub before : place < to

pub answered-ran : (t : History) → Lawful t → Numbered t.entries → (from to : ℕ) (call : Call) (reply : Reply) → IsNfs call → IsAnswered t.entries from to call reply
    → Ran t from to call reply
answered-ran t lawful numbered from to call reply nfs a = by (lawful.entries a.heard.got_at (entries.Delivered a.bytes) a.heard.got.got).is
  where
    by : IsReplied t.entries a.heard.got_at a.bytes → Ran t from to call reply
    by (replied m x other told before at spells) =
        let is : x ≡ a.xid = one-xid x a.xid a.bytes (reply_first (Accepted x spells.results) a.bytes spells.accepted) a.heard.got.under in
        let sent = (lawful.entries m (entries.Executed x other told) at).0 in
        let under : HasXid sent.bytes a.xid = subst (λ z. HasXid sent.bytes z) is (xid_of_call x other sent.bytes sent.spells) in
        let record_is : sent.bytes ≡ a.heard.record_sent =
        numbered.equal sent.at a.heard.sent_at a.xid sent.bytes a.heard.record_sent sent.sent a.heard.sent.sent under a.heard.sent.under in
        let same : call ≡ other = one-call a.xid x call other a.heard.record_sent nfs a.heard.spells (subst (λ b. SpellsCall x other b) record_is sent.spells) in
        let answer : told ≡ reply = a.only told (subst (λ z. SpellsReply a.xid z told a.bytes) (sym same) (subst (λ z. SpellsReply z other told a.bytes) is spells)) in
        let first = a.heard.sent.first sent.at sent.bytes sent.sent under in
        let after = a.heard.after in
        let early = sent.before in
        let came = a.heard.before in
        record {
          xid = x;
          place = m;
          at = subst (λ z. At t.entries m (entries.Executed x call z)) answer (subst (λ z. At t.entries m (entries.Executed x z told)) (sym same) at);
          late = omega (arith, first, after, early);
          before = omega (arith, before, came);
        }
    by (refused m x code sent before at has spells) = absurd (unrefused a.xid x code call reply a.bytes a.spells spells)

-- ---- what a reply shows

-- a reply that shows attributes is one of NFS
reply-nfs : (x : ℕ) (call : Call) (reply : Reply) (bytes file : List ℕ) (attr : Attr) → SpellsReply x call reply bytes → ShowsAttr call reply file attr → IsNfs call
reply-nfs x (calls.File call) reply bytes file attr s w = tt
reply-nfs x (calls.Dir call) reply bytes file attr s w = tt
reply-nfs x (calls.Mount call) (replies.File reply) bytes file attr s w = absurd s.is
reply-nfs x (calls.Mount call) (replies.Dir reply) bytes file attr s w = absurd s.is
reply-nfs x (calls.Mount call) (replies.Mount reply) bytes file attr s (of_object on shown) = absurd cc
reply-nfs x (calls.Mount call) (replies.Mount reply) bytes file attr s (of_target on shown) = absurd cc
reply-nfs x (calls.Mount call) (replies.Mount reply) bytes file attr s (of_given on shown) = absurd cc
reply-nfs x (calls.Mount call) (replies.Mount reply) bytes file attr s (of_listed of verf rows eof at row is there found shown) = absurd cc

-- the object had the attributes right after the execution
pub record HadSince (t : History) (from to : ℕ) (object : List ℕ) (attr : Attr) : Type 0 where
  pub n : ℕ
  pub late : from < n
  pub soon : n ≤ to
  pub has : HasAttr t n object attr

pub shown-had : (t : History) → Lawful t → Numbered t.entries → (from to : ℕ) (call : Call) (reply : Reply) (object : List ℕ) (attr : Attr) → IsAnswered t.entries from to call reply
    → ShowsAttr call reply object attr → HadSince t from to object attr
shown-had t lawful numbered from to call reply object attr a w =
    let r = answered-ran t lawful numbered from to call reply (reply-nfs a.xid call reply a.bytes object attr a.spells w) a in
    let shown = shows_true (t.at r.place) (t.at (suc r.place)) call reply object attr (lawful.entries r.place (entries.Executed r.xid call reply) r.at).1 w in
    let late = r.late in
    let before = r.before in
    record { n = suc r.place; late = omega (arith, late); soon = omega (arith, before); has = record { o = shown.0; is = shown.1; had = shown.2 } }

-- ---- the theorems

time-later : (h : List Entry) (n m ms : ℕ) → n ≤ m → HadShown h n ms → HadShown h m ms
time-later h n m ms le (inl none) =
    let b = none.1 in
    let early = b.before in
    inl (none.0, record { x = b.x; lane = b.lane; line = b.line; op = b.op; began = b.began; before = omega (arith, early, le) })
time-later h n m ms le (inr s) = inr (s.0, s.1, let below = s.2 in omega (arith, below, le))

pub recent-later : (h : List Entry) (most x n m : ℕ) → n ≤ m → IsRecent h most x n → IsRecent h most x m
recent-later h most x n m le (own after) = own (omega (arith, after, le))
recent-later h most x n m le (young ms t less) = young ms (time-later h n m ms le t) less

pub attrs-true : AttrsTrue
attrs-true m setup most t v lasts lawful r file kept is =
    let s = (attrs-shown m setup most t.entries v lasts r file kept is).shown in
    let had = shown-had t lawful (reached-rows (machine_of m) setup t.entries v r).numbered s.since _ s.call s.reply file kept.attr s.answered s.shows in
    let late = had.late in
    record { n = had.n; timed = time-later t.entries s.since had.n kept.sent_at (omega (arith, late)) s.timed; soon = had.soon; has = had.has }

pub stats-true : StatsTrue
stats-true m setup most t v lasts lawful r lane x y path attr ended =
    let s = stats-recent m setup most t.entries v lasts r lane x y path attr ended in
    let had = shown-had t lawful (reached-rows (machine_of m) setup t.entries v r).numbered s.since y s.call s.reply s.object attr s.answered s.shows in
    let late = had.late in
    record { object = s.object; n = had.n; recent = recent-later t.entries most x s.since had.n (omega (arith, late)) s.recent; soon = had.soon; has = had.has }
