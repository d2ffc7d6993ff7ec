-- Where all operations are of one lane: as a put has gone well, a WRITE that covers each of its places was sent.
use Rattle.core_counts.proofs.Prelude.{false, ◌≡◌, ◌≢◌, ◌<◌, inl, inr, ◌+◌, ℕ, suc, List, length, refl, sym, subst, arith, cases_lt, Verf, Answer, Entry, Began, Sent, Op, At, AnsweredBefore, PutsTo, Terms, OneLane, CoveredEarlier, Wrote, WritesByte, At-below, low-of, high-of, Mounted, machine_of, Setup, View, KnowsRoot, GoesWith}
use Rattle.world_model.specs.Operations.{Ended}
use Rattle.nfs_file_calls.specs.declared.call.FileCall.TheVariants as files
use Rattle.world_model.specs.declared.answer.Answer.TheVariants as answers
use Rattle.world_model.specs.declared.message.Call.TheVariants as calls
use Rattle.world_model.specs.declared.op.Op.TheVariants as ops
use Rattle.claims.specs.Settled.{itself}
use Rattle.claims.specs.Touched as touched
use Rattle.core_session.specs.saves.Evidence.{WroteByte, MadeStable, at_once, by_commit}
use Rattle.core_session.specs.syncs.Synced.{PutsNamed}
use Rattle.core_session.specs.syncs.Until.{TouchedUntil, written, cut, given_up}
use Rattle.core_session.proofs.drops.OneFile.{one-by-one}
use Rattle.core_session.proofs.syncs.Aparts.{once}
use Rattle.core_session.proofs.syncs.Watched.{synced-bytes}

module _ (mt : Mounted) (terms : Terms) (setup : Setup) (h : List Entry) (v : View) (g : GoesWith mt terms setup h v) (found : v.lost ≡ false) (roots : KnowsRoot terms.origin h mt.root) (named : PutsNamed h) (one : OneLane h)
    (w y : ℕ) (f : List ℕ) (i offset byte : ℕ) (bytes : List ℕ) (to : PutsTo h w y f offset bytes) (wrote_ : Wrote terms.modes h w y f i byte) (here : length h ≡ suc y) where
  abbrev its : Op
  its = ops.Put to.path offset bytes

  ended-one : (lane z : ℕ) (op : Op) (a : Answer) → Ended h lane w op z a → z ≡ y
  ended-one lane z op a e = (once h w lane to.lane z y op its a (answers.Done to.value) e to.ended).0

  began-in : (lane x line : ℕ) (op : Op) → At h x (Began lane line op) → At h w (Began lane to.ended.line its)
  began-in lane x line op at =
      let same = one x w lane to.lane line to.ended.line op its at to.ended.began in
      subst (λ (n : ℕ). At h w (Began n to.ended.line its)) (sym same) to.ended.began

  -- nothing else began while it was under way, and what began before it was answered
  apart-by : (x lane line : ℕ) (op : Op) → At h x (Began lane line op) → x ≢ w → x < suc y → (AnsweredBefore h x w → ⊥) → ⊥
  apart-by x lane line op at differs low not = elim (cases_lt x w) [
    | inl early ↦ not (one-by-one (machine_of mt) setup h v g.reaches lane x line op w to.ended.line its at (began-in lane x line op at) early)
    | inr late ↦ elim (cases_lt w x) [
      | inl after ↦
          let a = one-by-one (machine_of mt) setup h v g.reaches lane w to.ended.line its x line op (began-in lane x line op at) at after in
          let z = ended-one a.lane a.y a.op a.answer a.ended in
          let before = a.before in
          absurd (omega (arith, z, before, low))
      | inr not_after ↦ absurd (differs (omega (arith, late, not_after)))
    ]
  ]

  wrote-free : (x b : ℕ) → WritesByte terms.modes terms.origin h x f i b → x ≢ w → x < suc y → (AnsweredBefore h x w → ⊥) → ⊥
  wrote-free x b (touched.write slot o bs of c) = apart-by x of.lane of.line (ops.Write slot o bs) of.began
  wrote-free x b (touched.fill slot o count of low high) = apart-by x of.lane of.line (ops.Fill slot o count b) of.began
  wrote-free x b (touched.put l k o end path bs put ends leads c) = apart-by x l k (ops.Put path o bs) put

  free : TouchedUntil terms.modes terms.origin h w y (suc y) f i → ⊥
  free (written x b differs low not wrote_it fine) = wrote-free x b wrote_it differs low not
  free (cut x differs low not c) = apart-by x c.of.lane c.of.line (ops.Truncate c.slot c.size) c.of.began differs low not
  free (given_up k after before left gives) = elim (cases_lt left.close w) [
    | inl early ↦
        let a = one-by-one (machine_of mt) setup h v g.reaches left.lane left.close left.ended.line (ops.Close left.slot) w to.ended.line its left.ended.began
        (began-in left.lane left.close left.ended.line (ops.Close left.slot) left.ended.began) early in
        let z = (once h left.close a.lane left.lane a.y k a.op (ops.Close left.slot) a.answer left.answer a.ended left.ended).0 in
        let low = a.before in
        absurd (omega (arith, z, low, after))
    | inr late ↦ elim (cases_lt w left.close) [
      | inl more ↦
          let a = one-by-one (machine_of mt) setup h v g.reaches left.lane w to.ended.line its left.close left.ended.line (ops.Close left.slot)
          (began-in left.lane left.close left.ended.line (ops.Close left.slot) left.ended.began) left.ended.began more in
          let z = ended-one a.lane a.y a.op a.answer a.ended in
          let low = a.before in
          let end = left.ended.later in
          absurd (omega (arith, z, low, end, before))
      | inr not_more ↦
          let same : left.close ≡ w = omega (arith, late, not_more) in
          let z = ended-one left.lane k (ops.Close left.slot) left.answer (subst (λ (n : ℕ). Ended h left.lane n (ops.Close left.slot) k left.answer) same left.ended) in
          absurd (omega (arith, z, before))
    ]
  ]

  covered : (from to_ firm : ℕ) (verf : Verf) → WroteByte h from to_ f i byte firm verf → CoveredEarlier h (length h) f i
  covered from to_ firm verf wb = record {
    at = wb.asked.heard.sent_at;
    xid = wb.asked.xid;
    bytes = wb.asked.heard.record_sent;
    call = calls.File (files.Write f wb.offset wb.how wb.bytes);
    sent = wb.asked.heard.sent.sent;
    spells = wb.asked.heard.spells;
    covers = record {
      offset = wb.offset;
      how = wb.how;
      bytes = wb.bytes;
      is = refl;
      low = low-of wb.offset (wb.offset + length wb.bytes) i wb.inside;
      high = high-of wb.offset (wb.offset + length wb.bytes) i wb.inside;
    };
    earlier = At-below h wb.asked.heard.sent_at (Sent wb.asked.heard.record_sent) wb.asked.heard.sent.sent;
  }

  made-covered : (from to_ : ℕ) → MadeStable h from to_ f i byte → CoveredEarlier h (length h) f i
  made-covered from to_ (at_once firm verf some wb) = covered from to_ firm verf wb
  made-covered from to_ (by_commit middle wcc verf low under asked) = covered from middle under.firm under.verf under.wrote

  pub put-covered : CoveredEarlier h (length h) f i
  put-covered =
      let m = synced-bytes mt terms setup h v g found roots named w y f i byte y (suc y) wrote_ (itself offset bytes to refl) (omega arith) (omega (arith, here)) free in
      made-covered m.from (suc y) m.made
