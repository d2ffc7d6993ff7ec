-- All rows of refusals, and that sessions complete: by those of NFS3ERR_JUKEBOX and those of any other fault.
use Rattle.core_session.proofs.Prelude.{◌≡◌, ◌==◌, ◌++◌, inl, inr, ℕ, Bool, true, false, List, length, refl, sym, subst, arith, eqb-true, eqb-false, Fault, Entry, Op, IsWriter, Ended, RefusedBy, Terms, jukebox, Mounted, IsAsked, machine_of, Setup, View, IsSession, GoesFrom, Notes, GoesSo}
use Rattle.claims.specs.RefusalRows.{RefusalRow}
use Rattle.core_facts.proofs.Passing.{Passes}
use Rattle.world_model.specs.declared.answer.Answer.TheVariants as answers
use Rattle.world_model.specs.declared.answer.Fault.TheVariants as faults
use Rattle.core_session.proofs.calls.Whole.{session}
use Rattle.core_session.proofs.calls.WritesSome.{writes-some}
use Rattle.core_session.proofs.delays.Rows.{asks-row}
use Rattle.core_session.proofs.delays.Story.{OffRefusal, off-refused}
use Rattle.core_session.specs.endings.Endings.{RefusalsAllRowed, SessionsComplete}
use Rattle.core_session.proofs.endings.Along.{Here, passes-on}
use Rattle.core_session.proofs.endings.Asked.{sent-asks}
use Rattle.core_session.specs.outcomes.Rooms.{IsNoJukebox}
use Rattle.core_session.proofs.outcomes.AllRows.{refusals-roomed}
use Rattle.core_session.proofs.outcomes.Complete.{own-unless}
use Rattle.core_session.proofs.outcomes.OwnAsks.{own-last}
use Rattle.core_session.proofs.outcomes.Refusals.{refusal-rows}
use Rattle.core_session.proofs.outcomes.RoomRows.{writer-ends}
use Rattle.core_answers.proofs.refusals.Refused.{OwnRefusalBy, ShownBy, own-later-by, own-refused-by}
use Rattle.core_session.proofs.room.Onward.{stays}

module _ (m : Mounted) (terms : Terms) (setup : Setup) (before h : List Entry) (v : View) (g : GoesFrom m terms setup before h v) (n : Notes (machine_of m) setup h v)
    (lane x y : ℕ) (op : Op) where
  abbrev Ends : Fault → Type 0
  Ends fault = Ended h lane x op y (answers.Refused fault)

  abbrev Now : List Entry → View → Type 0
  Now = Here (machine_of m) setup h v

  abbrev Own : Fault → Type 0
  Own fault = OwnRefusalBy m setup Now h x y op fault

  s : IsSession m terms setup h v
  s = session m terms setup before h v g

  goes : GoesSo m terms setup h v
  goes = record { goes = g.goes; noac = g.noac; some = g.some; known = s.root }

  passes : Passes (machine_of m) setup Now h v
  passes = passes-on (machine_of m) setup h v h v n (stays h v refl refl)

  named : (fault : Fault) → Ends fault → IsAsked op
  named fault ended = g.asked x lane ended.line op ended.began

  -- ---- an operation that makes room

  own-row : (fault : Fault) → IsNoJukebox fault → IsWriter op → Own fault → RefusedBy terms h x y op fault
  own-row fault calm writer w = record {
    call = w.call;
    refused = w.refused;
    asks = sent-asks m terms setup h v s w.refused.heard.sent_at x op w.call w.sent w.refused.heard.record_sent w.refused.heard.sent.sent;
    last = own-last op w.call w.stays;
    ends = λ k is goes_on. writer-ends terms h x w.refused.heard.got_at op w.call k writer (subst IsNoJukebox is calm) goes_on;
  }

  until : (fault : Fault) (front after : List Entry) → h ≡ front ++ after → length front ≡ y → OwnRefusalBy m setup Now front x (length front) op fault → Own fault
  until fault front after is there w =
      subst (λ (k : List Entry). OwnRefusalBy m setup Now k x y op fault) (sym is) (own-later-by m setup Now front after x (length front) y op fault (omega (arith, there)) w)

  abbrev Until : Fault → Type 0
  Until fault = (front : List Entry) × ((after : List Entry) × (h ≡ front ++ after) × (length front ≡ y) × ShownBy m setup Now front x op fault)

  refused : (fault : Fault) → Ends fault → Until fault
  refused fault ended = own-refused-by m setup Now terms.modes g.goes.nocto h v passes lane x op y fault ended

  -- ---- rows

  status-row : (k : ℕ) → Ends (faults.Nfs k) → RefusedBy terms h x y op (faults.Nfs k)
  status-row k ended = by (k == jukebox) refl
    where
      off : Ends (faults.Nfs jukebox) → OffRefusal m setup Now h x y op
      off busy = off-refused m setup Now terms.modes g.goes.nocto h v passes lane x y op busy

      busy-row : OffRefusal m setup Now h x y op → RefusedBy terms h x y op (faults.Nfs jukebox)
      busy-row w = asks-row m terms setup h v goes Now x y op w
          (sent-asks m terms setup h v s w.refused.heard.sent_at x op w.call w.sent w.refused.heard.record_sent w.refused.heard.sent.sent)

      by : (b : Bool) → (k == jukebox) ≡ b → RefusedBy terms h x y op (faults.Nfs k)
      by true d =
          let busy : k ≡ jukebox = eqb-true k jukebox d in
          subst (λ (j : ℕ). RefusedBy terms h x y op (faults.Nfs j)) (sym busy) (busy-row (off (subst (λ (j : ℕ). Ends (faults.Nfs j)) busy ended)))
      by false d = elim (refusals-roomed m terms setup h v goes lane x y op (faults.Nfs k) (named (faults.Nfs k) ended) (eqb-false k jukebox d) ended) [
        | inl row ↦ row
        | inr room ↦ (let u = refused (faults.Nfs k) ended in own-row (faults.Nfs k) (eqb-false k jukebox d) room.writer (until (faults.Nfs k) u.0 u.1.0 u.1.1 u.1.2 u.1.3))
      ]

  rpc-row : (k : ℕ) → Ends (faults.Rpc k) → RefusalRow terms h lane x y op (faults.Rpc k)
  rpc-row k ended = elim (refusals-roomed m terms setup h v goes lane x y op (faults.Rpc k) (named (faults.Rpc k) ended) tt ended) [
    | inl row ↦ row
    | inr room ↦ (let u = refused (faults.Rpc k) ended in own-row (faults.Rpc k) tt room.writer (until (faults.Rpc k) u.0 u.1.0 u.1.1 u.1.2 u.1.3))
  ]

  bad-row : (k : ℕ) → Ends (faults.Bad k) → RefusalRow terms h lane x y op (faults.Bad k)
  bad-row k ended = elim (refusals-roomed m terms setup h v goes lane x y op (faults.Bad k) (named (faults.Bad k) ended) tt ended) [
    | inl row ↦ row
    | inr room ↦ (let u = refused (faults.Bad k) ended in own-row (faults.Bad k) tt room.writer (until (faults.Bad k) u.0 u.1.0 u.1.1 u.1.2 u.1.3))
  ]

  row : (fault : Fault) → Ends fault → RefusalRow terms h lane x y op fault
  row (faults.Nfs k) ended = status-row k ended
  row (faults.Rpc k) ended = rpc-row k ended
  row (faults.Bad k) ended = bad-row k ended
  row faults.Lost ended = refusal-rows m terms setup h v goes lane x y op faults.Lost (named faults.Lost ended) tt ended
  row faults.Spent ended = tt
  row faults.Slot ended = refusal-rows m terms setup h v goes lane x y op faults.Slot (named faults.Slot ended) tt ended
  row faults.Mode ended = refusal-rows m terms setup h v goes lane x y op faults.Mode (named faults.Mode ended) tt ended
  row faults.Kind ended = refusal-rows m terms setup h v goes lane x y op faults.Kind (named faults.Kind ended) tt ended
  row faults.Many ended = refusal-rows m terms setup h v goes lane x y op faults.Many (named faults.Many ended) tt ended
  row faults.Memory ended = tt

pub refusals-all-rowed : RefusalsAllRowed
refusals-all-rowed m terms setup before h v g n lane x y op fault ended = row m terms setup before h v g n lane x y op fault ended

pub sessions-complete : SessionsComplete
sessions-complete m terms setup before t v g n u lane x y op answer ended =
    own-unless m terms setup before t v g n (writes-some m terms setup before t.entries v g) u lane x y op answer ended
    (λ k is refused. status-row m terms setup before t.entries v g n lane x y op k refused)
