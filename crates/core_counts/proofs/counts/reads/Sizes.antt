-- A history tells one root and one READ size.
use Rattle.core_counts.proofs.Prelude.{◌≡◌, ◌<◌, ◌≤◌, ◌⊎◌, inl, inr, ℕ, List, Option, Some, None, Result, Ok, Err, refl, sym, ap, subst, ◌∙◌, arith, cases_lt, Attr, Time, Accepted, At, Heard, SpellsReply, Rooted, mount_call, info_call, Terms, Fault, Entry, Delivered, Call, Reply, At-one}
use Rattle.rpc_message.specs.Reply.{RpcReply, SpellsRefusal, refusal_number}
use Rattle.world_model.specs.Heard.{Asked, Refused, Refuses, status_of}
use Rattle.world_model.specs.Mounts.{Origin, Mounting, Given, lesser_size}
use Rattle.nfs_file_calls.specs.declared.owned.FileKept.TheVariants as kept
use Rattle.mount_calls.specs.declared.reply.MountReply.TheVariants as mounted
use Rattle.rpc_message.specs.declared.reply.ReplyFault.{ReplyFault}
use Rattle.rpc_message.specs.declared.reply.ReplyFault.TheVariants.{NotReply}
use Rattle.rpc_message.proofs.ReplyLaws.{reply_again}
use Rattle.claims.specs.CallsAsked.{AreSetUp, mount, inform}
use Rattle.world_model.specs.ReadSize.{ReadSized, told, untold, whole_pages}
use Rattle.world_model.specs.Rules.{Breaks, IsNotReply, not_a_reply, unspelled, wrong_committed, wrong_count, too_long}
use Rattle.world_model.specs.Waiting.{Answers}
use Rattle.world_model.specs.declared.answer.Fault.TheVariants as faults
use Rattle.world_model.specs.declared.message.Reply.TheVariants as replies
use Rattle.call_replies.proofs.Readings.{not_reply_read}
use Rattle.core_session.proofs.outcomes.Served.{one-reply}
use Rattle.core_session.specs.calls.Whole.{CallsAskedBut}
use Rattle.core_counts.proofs.counts.reads.Lengths.{accepted-most, info-results-most}

-- ---- one record

ok-reply : (a b : RpcReply) → ◌≡◌ {A = Result RpcReply ReplyFault} (Ok a) (Ok b) → a ≡ b
ok-reply a b e = cc

none-some : (R : Type 0) (n : ℕ) → ◌≡◌ {A = Option ℕ} None (Some n) → R
none-some R n e = absurd (cc)

-- a reply is no refusal by RPC
not-refusal : (x n : ℕ) (call : Call) (reply : Reply) (bytes : List ℕ) → SpellsReply x call reply bytes → SpellsRefusal x n bytes → ⊥
not-refusal x n call reply bytes s r =
    let same = ok-reply (Accepted x s.results) r.reply (sym (reply_again (Accepted x s.results) bytes s.accepted) ∙ reply_again r.reply bytes r.is) in
    none-some ⊥ n (ap refusal_number same ∙ r.numbered)

is-reply : (x : ℕ) (call : Call) (reply : Reply) (bytes : List ℕ) → SpellsReply x call reply bytes → IsNotReply bytes → ⊥
is-reply x call reply bytes s none = differ (Accepted x s.results) (sym (reply_again (Accepted x s.results) bytes s.accepted) ∙ not_reply_read bytes none)
  where
    differ : (r : RpcReply) → ◌≡◌ {A = Result RpcReply ReplyFault} (Ok r) (Err NotReply) → ⊥
    differ r e = absurd (cc)

-- ---- FSINFO

module _ (attr : Option Attr) (rtmax rtpref rtmult wtmax wtpref wtmult dtpref maxfilesize : ℕ) (delta : Time) (properties : ℕ) where
  abbrev info : Reply
  info = replies.File (kept.FsInfo attr rtmax rtpref rtmult wtmax wtpref wtmult dtpref maxfilesize delta properties)

  not-broken : (x n : ℕ) (root bytes : List ℕ) → SpellsReply x (info_call root) info bytes → Breaks x (info_call root) bytes n → ⊥
  not-broken x n root bytes s (not_a_reply rule none) = is-reply x (info_call root) info bytes s none
  not-broken x n root bytes s (unspelled rule some none) = none.no_reply info s
  not-broken x n root bytes s (wrong_committed rule wcc count committed verf file offset how data_ is spells wrong) = absurd (cc)
  not-broken x n root bytes s (wrong_count rule wcc count committed verf file offset how data_ is spells wrong) = absurd (cc)
  not-broken x n root bytes s (too_long rule long) =
      let most = accepted-most x s.results bytes s.accepted in
      let few = info-results-most _ s.results s.is.is in
      omega (arith, long, most, few)

  not-refused : (x : ℕ) (root bytes : List ℕ) (fault : Fault) → SpellsReply x (info_call root) info bytes → Refuses x (info_call root) bytes fault → ⊥
  not-refused x root bytes (faults.Nfs n) s r =
      let same = one-reply x (info_call root) info r.0 bytes s r.1 in
      let none : 0 ≡ n = ap status_of same ∙ r.2 in
      r.3 (sym none)
  not-refused x root bytes (faults.Rpc n) s r = not-refusal x n (info_call root) info bytes s r
  not-refused x root bytes (faults.Bad n) s r = not-broken x n root bytes s r
  not-refused x root bytes faults.Lost s r = r
  not-refused x root bytes faults.Slot s r = r
  not-refused x root bytes faults.Mode s r = r
  not-refused x root bytes faults.Kind s r = r
  not-refused x root bytes faults.Many s r = r
  not-refused x root bytes faults.Spent s r = r
  not-refused x root bytes faults.Memory s r = r

info-max : (a b : Option Attr) (m n p q t u v w aa bb cc_ dd ee ff gg hh : ℕ) (d e : Time) (x y : ℕ)
    → replies.File (kept.FsInfo a m p t v aa cc_ ee gg d x) ≡ replies.File (kept.FsInfo b n q u w bb dd ff hh e y) → m ≡ n
info-max a b m n p q t u v w aa bb cc_ dd ee ff gg hh d e x y is = cc

root-same : (a b f g : List ℕ) → replies.Mount (mounted.MntOk a f) ≡ replies.Mount (mounted.MntOk b g) → a ≡ b
root-same a b f g is = cc

delivered-same : (a b : List ℕ) → Delivered a ≡ Delivered b → a ≡ b
delivered-same a b e = cc

module _ (terms : Terms) (h : List Entry) (k : CallsAskedBut terms h) where
  -- ---- one answer

  never-later : (g later x : ℕ) (a b : List ℕ) → Answers h g x a → Answers h later x b → g < later → ⊥
  never-later g later x a b one two lt = two.waits.unanswered g a one.got one.under (k.unrepeated g two.waits.at x a two.waits.bytes one two.waits.sent two.waits.under) lt

  one-answer : (g later x : ℕ) (a b : List ℕ) → Answers h g x a → Answers h later x b → a ≡ b
  one-answer g later x a b one two = by (cases_lt g later) (cases_lt later g)
    where
      by : (g < later) ⊎ (later ≤ g) → (later < g) ⊎ (g ≤ later) → a ≡ b
      by (inl lt) any = absurd (never-later g later x a b one two lt)
      by (inr le) (inl lt) = absurd (never-later later g x b a two one lt)
      by (inr le) (inr ge) =
          let same : g ≡ later = omega (arith, le, ge) in
          delivered-same a b (At-one h later (Delivered a) (Delivered b) (subst (λ (n : ℕ). At h n (Delivered a)) same one.got) two.got)

  -- the records that answered two such calls
  record Same (x y : ℕ) (a b : List ℕ) : Type 0 where
    xid : x ≡ y
    bytes : a ≡ b

  same-heard : (from to its_from its_to x y : ℕ) (call other : Call) (a b : List ℕ) → AreSetUp call other → Heard h from to call x a → Heard h its_from its_to other y b → Same x y a b
  same-heard from to its_from its_to x y call other a b both one two =
      let same : x ≡ y = k.single one.sent_at two.sent_at x y one.record_sent two.record_sent call other one.sent.sent two.sent.sent one.spells two.spells both in
      record { xid = same; bytes = one-answer one.got_at two.got_at y a b (subst (λ (n : ℕ). Answers h one.got_at n a) same one.got) two.got }

  pub same-asked : (from to its_from its_to : ℕ) (call : Call) (a b : Reply) → AreSetUp call call → Asked h from to call a → Asked h its_from its_to call b → a ≡ b
  same-asked from to its_from its_to call a b both one two =
      let same = same-heard from to its_from its_to one.xid two.xid call call one.bytes two.bytes both one.heard two.heard in
      one-reply two.xid call a b two.bytes
      (subst (λ (l : List ℕ). SpellsReply two.xid call a l) same.bytes (subst (λ (n : ℕ). SpellsReply n call a one.bytes) same.xid one.spells)) two.spells

  -- ---- one root

  roots-same : (origin : Origin) (to its_to : ℕ) (root other : List ℕ) → Rooted origin h to root → Rooted origin h its_to other → root ≡ other
  roots-same (Mounting path) to its_to root other one two =
      root-same root other one.0 two.0
      (same-asked 0 to 0 its_to (mount_call path) (replies.Mount (mounted.MntOk root one.0)) (replies.Mount (mounted.MntOk other two.0)) (mount path path refl refl) one.1 two.1)
  roots-same (Given given) to its_to root other one two = one ∙ sym two

  pub one-root : (to its_to : ℕ) (root other : List ℕ) → Rooted terms.origin h to root → Rooted terms.origin h its_to other → root ≡ other
  one-root = roots-same terms.origin

  -- ---- one size

  pub told-untold : (R : Type 0) (to its_to : ℕ) (root : List ℕ) (fault : Fault) (attr : Option Attr) (rtmax rtpref rtmult wtmax wtpref wtmult dtpref maxfilesize : ℕ) (delta : Time) (properties : ℕ)
      → Asked h 0 to (info_call root) (replies.File (kept.FsInfo attr rtmax rtpref rtmult wtmax wtpref wtmult dtpref maxfilesize delta properties)) → Refused h 0 its_to (info_call root) fault → R
  told-untold R to its_to root fault attr rtmax rtpref rtmult wtmax wtpref wtmult dtpref maxfilesize delta properties one two =
      let same = same-heard 0 to 0 its_to one.xid two.xid (info_call root) (info_call root) one.bytes two.bytes (inform root root refl refl) one.heard two.heard in
      absurd (not-refused attr rtmax rtpref rtmult wtmax wtpref wtmult dtpref maxfilesize delta properties two.xid root two.bytes fault
      (subst (λ (l : List ℕ). SpellsReply two.xid (info_call root) _ l) same.bytes (subst (λ (n : ℕ). SpellsReply n (info_call root) _ one.bytes) same.xid one.spells)) two.refuses)

  pub one-size : (to its_to : ℕ) (root : List ℕ) (size rsize other : ℕ) → ReadSized h to root size rsize → ReadSized h its_to root size other → rsize ≡ other
  one-size to its_to root size rsize other (untold fault one is) (untold its_fault two its_is) = is ∙ sym its_is
  one-size to its_to root size rsize other (told a m p t w wp wt d f delta props one is) (untold fault two its_is) =
      told-untold (rsize ≡ other) to its_to root fault a m p t w wp wt d f delta props one two
  one-size to its_to root size rsize other (untold fault one is) (told a m p t w wp wt d f delta props two its_is) =
      told-untold (rsize ≡ other) its_to to root fault a m p t w wp wt d f delta props two one
  one-size to its_to root size rsize other (told a m p t w wp wt d f delta props one is) (told b n q u x xp xt e g its_delta its_props two its_is) =
      let same = info-max a b m n p q t u w x wp xp wt xt d e f g delta its_delta props its_props
      (same-asked 0 to 0 its_to (info_call root) (replies.File (kept.FsInfo a m p t w wp wt d f delta props)) (replies.File (kept.FsInfo b n q u x xp xt e g its_delta its_props)) (inform root root refl refl) one two) in
      is ∙ ap (λ (z : ℕ). whole_pages (lesser_size size z)) same ∙ sym its_is
