-- Past the size of a truncate that went well the server has no byte but zeros, unless the place was touched since.
use Rattle.core_session.proofs.Prelude.{◌≡◌, ◌<◌, ◌≤◌, ◌+◌, ◌⊎◌, inl, inr, ℕ, suc, List, length, Some, None, slice_get, refl, sym, ap, subst, ◌∙◌, arith, cases_lt, slice_get_within, Entry, Answered, Sent, Call, Reply, Acts, NoneBegan, At, status_of, History, Lawful, SpellsCall, Once, EndsWith, Bytes, Object, Server, HasBytes, IsOf, Terms, Truncated, Touched, written, FirstSent, At-one, Numbered, CutBy, NoForeign, one_file_call, Mounted, machine_of, Setup, View, KnowsRoot, Notes, GoesWith, notes-reach, reached-rows, OnlySetsUp, PutsNamed}
use Rattle.claims.specs.Touched.{foreign}
use Rattle.law_stable.specs.Cut.{OwnZeros, IsBare}
use Rattle.law_stable.specs.OwnCalls.{HeardBefore}
use Rattle.core_session.specs.settled.Settling.{IsSetUpCall, mounts, informs, IsSetUpRecord}
use Rattle.nfs_file_calls.specs.declared.call.FileCall.TheVariants as files
use Rattle.nfs_file_calls.specs.declared.owned.FileKept.TheVariants as kept
use Rattle.world_model.specs.declared.answer.Answer.TheVariants as answers
use Rattle.world_model.specs.declared.message.Call.TheVariants as calls
use Rattle.world_model.specs.declared.op.Op.TheVariants as ops
use Rattle.claims.specs.Asks as asks
use Rattle.claims.specs.OkRows.{ActOk}
use Rattle.law_stable.proofs.Zeros.{cut_stays}
use Rattle.core_answers.proofs.answers.CutRows.{truncates-ok}
use Rattle.core_session.specs.order.Altering as order
use Rattle.core_session.proofs.order.Earliers.{earlier-heard}
use Rattle.core_session.proofs.pending.Begins.{one-file}
use Rattle.core_session.specs.own.Cuts.{CutsStayBare}
use Rattle.core_session.proofs.own.Calm.{CalmBefore, answers-calm}
use Rattle.core_session.proofs.own.Earlier.{write-heard}
use Rattle.core_session.proofs.own.Later.{IsSince, written-since}
use Rattle.core_session.proofs.own.SizeReply.{IsCut, cut-of}
use Rattle.core_session.proofs.own.Unheard.{unheard}

same-slot : (a b c d : ℕ) → ops.Truncate a b ≡ ops.Truncate c d → (a ≡ c) × (b ≡ d)
same-slot a b c d e = (cc, cc)

module _ (m : Mounted) (terms : Terms) (setup : Setup) (h : List Entry) (v : View) (g : GoesWith m terms setup h v) where
  act-cut : (x e : ℕ) (f : List ℕ) (slot size : ℕ) (call : Call) (reply : Reply) → IsOf terms.modes h x (ops.Truncate slot size) f → Acts terms h x e (ops.Truncate slot size) call
      → status_of reply ≡ 0 → EndsWith h x e call reply → IsCut h x e f size
  act-cut x e f slot size call reply of (asks.cuts s n file is of2 to) went ends =
      let same = same-slot slot size s n is in
      let here : file ≡ f = one-file m terms setup h v g x (ops.Truncate slot size) file f of2 of in
      cut-of h x e f (asks.only_size n) None size call reply (subst (λ (z : List ℕ). call ≡ calls.File (files.SetAttr z (asks.only_size n) None)) here to) (ap (λ (z : ℕ). Some z) (sym same.1)) went ends
  act-cut x e f slot size call reply of (asks.accesses path bits file is l to) went ends = absurd (let no_way : ops.Truncate slot size ≡ ops.Access path bits = is in cc)
  act-cut x e f slot size call reply of (asks.reads_link path file is l to) went ends = absurd (let no_way : ops.Truncate slot size ≡ ops.ReadLink path = is in cc)
  act-cut x e f slot size call reply of (asks.makes_dir path d name is p to) went ends = absurd (let no_way : ops.Truncate slot size ≡ ops.MakeDir path = is in cc)
  act-cut x e f slot size call reply of (asks.makes_link path target d name is p to) went ends = absurd (let no_way : ops.Truncate slot size ≡ ops.SymLink path target = is in cc)
  act-cut x e f slot size call reply of (asks.removes_dir path d name is p to) went ends = absurd (let no_way : ops.Truncate slot size ≡ ops.RemoveDir path = is in cc)
  act-cut x e f slot size call reply of (asks.renames a b d name to_d to_name is p q to) went ends = absurd (let no_way : ops.Truncate slot size ≡ ops.Rename a b = is in cc)
  act-cut x e f slot size call reply of (asks.links a b file d name is l p to) went ends = absurd (let no_way : ops.Truncate slot size ≡ ops.Link a b = is in cc)
  act-cut x e f slot size call reply of (asks.removes path d name is p to) went ends = absurd (let no_way : ops.Truncate slot size ≡ ops.Remove path = is in cc)
  act-cut x e f slot size call reply of (asks.hides path d last name is p hidden may to) went ends = absurd (let no_way : ops.Truncate slot size ≡ ops.Remove path = is in cc)

  pub truncate-cut : (x e : ℕ) (f : List ℕ) (size : ℕ) → Truncated terms.modes h x e f size → IsCut h x e f size
  truncate-cut x e f size t =
      let ok : ActOk terms h x e (ops.Truncate t.slot size) t.value = truncates-ok m terms setup h v g t.lane x t.slot size e t.value t.ended in
      act-cut x e f t.slot size ok.call ok.reply t.of ok.acts ok.went ok.ends

-- ---- the set-up writes nothing

set-up-writes : (f : List ℕ) (xid offset how : ℕ) (bytes sent : List ℕ) → IsSetUpRecord sent → SpellsCall xid (calls.File (files.Write f offset how bytes)) sent → ⊥
set-up-writes f xid offset how bytes sent r spells = by r.is (one_file_call xid r.xid (files.Write f offset how bytes) r.call sent spells r.spells)
  where
    by : IsSetUpCall r.call → calls.File (files.Write f offset how bytes) ≡ r.call → ⊥
    by (mounts path is) same = absurd (let no_way = same ∙ is in cc)
    by (informs root is) same = absurd (let no_way = same ∙ is in cc)

-- ---- zeros

some-object : (a b : Object) → Some a ≡ Some b → a ≡ b
some-object a b e = cc

bytes-now : (a b c d : List ℕ) → Bytes a b ≡ Bytes c d → a ≡ c
bytes-now a b c d e = cc

-- a file has one list of bytes
pub one-now : (s : Server) (f a b c d : List ℕ) → HasBytes s f a b → HasBytes s f c d → a ≡ c
one-now s f a b c d p q = bytes-now a b c d (sym p.holds ∙ ap (λ (z : Object). z.holds) (some-object p.file q.file (sym p.is ∙ q.is)) ∙ q.holds)

sent-is : (a b : List ℕ) → Sent a ≡ Sent b → a ≡ b
sent-is a b e = cc

module _ (m : Mounted) (terms : Terms) (setup : Setup) (t : History) (v : View) (nocto : m.nocto ≡ terms.modes.nocto) (notes : Notes (machine_of m) setup t.entries v)
    (roots : KnowsRoot terms.origin t.entries m.root) (named : PutsNamed t.entries) (alone : OnlySetsUp t.entries) (lawful : Lawful t) (once : Once t.entries) where
  abbrev g : GoesWith m terms setup t.entries v
  g = record { nocto = nocto; reaches = notes-reach (machine_of m) setup t.entries v notes }

  numbered : Numbered t.entries
  numbered = (reached-rows (machine_of m) setup t.entries v g.reaches).numbered

  module _ (x e : ℕ) (f : List ℕ) (size i : ℕ) (cuts : Truncated terms.modes t.entries x e f size) (shown : IsCut t.entries x e f size) (low : size ≤ i) where
    abbrev c : CutBy t.entries (suc x) e f size
    c = shown.cut

    past : x < c.asked.heard.sent_at
    past = let after = c.asked.heard.after in omega (arith, after)

    began : (n : ℕ) → x < n → NoneBegan t.entries n → ⊥
    began n lt none = none x cuts.of.lane cuts.of.line (ops.Truncate cuts.slot size) cuts.of.began lt

    calm : CalmBefore t.entries e
    calm = answers-calm m terms nocto setup t.entries v notes cuts.lane x cuts.slot size e cuts.value cuts.ended

    -- each WRITE of the place that was sent before the SETATTR was answered before
    sooner : (s xid : ℕ) (sent : List ℕ) (offset how : ℕ) (bytes : List ℕ) → FirstSent t.entries s xid sent → SpellsCall xid (calls.File (files.Write f offset how bytes)) sent
        → offset ≤ i → i < offset + length bytes → s < c.asked.heard.sent_at → HeardBefore t.entries xid c.asked.heard.sent_at
    sooner s xid sent offset how bytes first spells from to lt =
        by (write-heard m setup t.entries f i s xid sent offset how bytes first spells from to c.asked.heard.sent_at c.asked.xid c.asked.heard.record_sent c.set c.guard size c.asked.heard.sent
        c.asked.heard.spells c.sets low lt v g.reaches)
      where
        by : NoneBegan t.entries s ⊎ order.HeardBefore t.entries xid c.asked.heard.sent_at → HeardBefore t.entries xid c.asked.heard.sent_at
        by (inl none) = absurd (set-up-writes f xid offset how bytes sent (alone s sent first.sent none) spells)
        by (inr h) = record { at = h.at; bytes = h.bytes; got = h.got; under = h.under; before = h.before }

    -- none is sent between the SETATTR and the truncate's answer
    module _ (s xid : ℕ) (sent : List ℕ) (offset how k b : ℕ) (bytes : List ℕ) (first : FirstSent t.entries s xid sent) (spells : SpellsCall xid (calls.File (files.Write f offset how bytes)) sent)
        (place : i ≡ offset + k) (byte : slice_get bytes k ≡ Some b) where
      not-first : s ≡ c.asked.heard.sent_at → ⊥
      not-first same =
          let record_is : sent ≡ c.asked.heard.record_sent =
          sent-is sent c.asked.heard.record_sent (At-one t.entries c.asked.heard.sent_at (Sent sent) (Sent c.asked.heard.record_sent) (subst (λ (n : ℕ). At t.entries n (Sent sent)) same first.sent) c.asked.heard.sent.sent) in
          let no_way : calls.File (files.Write f offset how bytes) ≡ calls.File (files.SetAttr f c.set c.guard) =
          one_file_call xid c.asked.xid (files.Write f offset how bytes) (calls.File (files.SetAttr f c.set c.guard)) sent spells
          (subst (SpellsCall c.asked.xid (calls.File (files.SetAttr f c.set c.guard))) (sym record_is) c.asked.heard.spells) in
          absurd (cc)

      before-reply : c.asked.heard.sent_at < s → s ≤ c.asked.heard.got_at → ⊥
      before-reply lt soon =
          by (earlier-heard m setup t.entries v g.reaches f i c.asked.heard.sent_at c.asked.xid c.asked.heard.record_sent (calls.File (files.SetAttr f c.set c.guard)) c.asked.heard.sent c.asked.heard.spells
          (order.sizes c.set size c.guard refl c.sets low) s xid sent offset how bytes first spells (omega (arith, place)) (let inside = slice_get_within bytes k b byte in omega (arith, place, inside)) lt)
        where
          by : NoneBegan t.entries c.asked.heard.sent_at ⊎ order.HeardBefore t.entries c.asked.xid s → ⊥
          by (inl none) = began c.asked.heard.sent_at past none
          by (inr h) = unheard t lawful once numbered (suc x) e (files.SetAttr f c.set c.guard) (kept.SetAttr c.wcc) c.asked s soon h

      after-reply : c.asked.heard.got_at < s → s < e → ⊥
      after-reply lt soon =
          let q = calm in
          let before = q.since s sent first.sent soon in
          let last = shown.last q.at q.bytes q.got q.before in
          absurd (omega (arith, before, last, lt))

      between : c.asked.heard.sent_at ≤ s → s < e → ⊥
      between from soon = elim (cases_lt c.asked.heard.sent_at s) [
        | inr ge ↦ not-first (omega (arith, from, ge))
        | inl lt ↦ elim (cases_lt c.asked.heard.got_at s) [ inl late ↦ after-reply late soon | inr early ↦ before-reply lt early ]
      ]

      not-answer : s ≡ e → ⊥
      not-answer same =
          let no_way : Sent sent ≡ Answered cuts.lane cuts.ended.line (answers.Done cuts.value) =
          At-one t.entries e (Sent sent) (Answered cuts.lane cuts.ended.line (answers.Done cuts.value)) (subst (λ (n : ℕ). At t.entries n (Sent sent)) same first.sent) cuts.ended.answered in
          absurd (cc)

    module _ (p : ℕ) (untouched : Touched terms.modes terms.origin t x p f i → ⊥) where
      -- what is sent later was given since
      since : (s : ℕ) → s < p → IsSince terms t.entries x s f i → ⊥
      since s lt k = let before = k.before in untouched (written k.w k.v k.other (omega (arith, before, lt)) k.unanswered k.writes k.unrefused)

      no-write : (s xid : ℕ) (sent : List ℕ) (offset how k b : ℕ) (bytes : List ℕ) → FirstSent t.entries s xid sent → SpellsCall xid (calls.File (files.Write f offset how bytes)) sent
          → c.asked.heard.sent_at ≤ s → s < p → i ≡ offset + k → slice_get bytes k ≡ Some b → ⊥
      no-write s xid sent offset how k b bytes first spells from lt place byte = elim (cases_lt s e) [
        | inl soon ↦ between s xid sent offset how k b bytes first spells place byte from soon
        | inr ge ↦ elim (cases_lt e s) [
          | inr le ↦ not-answer s xid sent offset how k b bytes first spells place byte (omega (arith, ge, le))
          | inl past_e ↦
              since s lt (written-since m terms setup t.entries v g roots named s xid sent f offset how bytes first.sent spells i b (record { k = k; place = place; byte = byte }) x e size cuts low past_e)
        ]
      ]

      pub own-zeros : OwnZeros t.entries c.asked.heard.sent_at p f i
      own-zeros = record {
        later = λ s xid sent offset how k b bytes first spells from lt place byte. absurd (no-write s xid sent offset how k b bytes first spells from lt place byte);
        earlier = sooner;
      }

      pub none-foreign : NoForeign t c.asked.heard.sent_at p f i
      none-foreign n call reply at from lt changes = untouched (foreign n call reply (let since_x = past in omega (arith, since_x, from)) lt at changes)

      bare : e < p → p ≤ length t.entries → IsBare (t.at p) f i
      bare late within = cut_stays t lawful once numbered (suc x) e f size i c low p (omega (arith, late)) within own-zeros none-foreign

  pub stays-bare : (x e : ℕ) (f : List ℕ) (size i : ℕ) → Truncated terms.modes t.entries x e f size → size ≤ i → (p : ℕ) → e < p → p ≤ length t.entries
      → (Touched terms.modes terms.origin t x p f i → ⊥) → (now stable : List ℕ) → HasBytes (t.at p) f now stable → (value : ℕ) → slice_get now i ≡ Some value → value ≡ 0
  stays-bare x e f size i cuts low p late within untouched now stable has value holds =
      let b = bare x e f size i cuts (truncate-cut m terms setup t.entries v g x e f size cuts) low p untouched late within in
      b.bare value (ap (λ (z : List ℕ). slice_get z i) (one-now (t.at p) f b.now b.stable now stable b.has has) ∙ holds)

pub cuts-stay : CutsStayBare
cuts-stay m terms setup t v nocto notes roots named alone lawful once x e f size i cuts low p late within untouched now stable has value holds =
    stays-bare m terms setup t v nocto notes roots named alone lawful once x e f size i cuts low p late within untouched now stable has value holds
