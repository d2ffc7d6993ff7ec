-- All rows of refusals but those of NFS3ERR_JUKEBOX; of an operation that makes room, that it was refused so, or its row where it asked for the calls by which it does.
use Rattle.core_session.proofs.Prelude.{◌≡◌, ◌≢◌, ◌⊎◌, inl, inr, ℕ, List, ◌++◌, length, refl, sym, subst, arith, Refused, Fault, Entry, Call, Op, Asks, IsWriter, Ended, RefusedBy, Terms, jukebox, Mounted, IsAsked, machine_of, Setup, View, begins-unbegun, IsForRoom, GoesSo}
use Rattle.claims.specs.RefusalRows.{RefusalRow}
use Rattle.core_facts.proofs.Passing.{Passes}
use Rattle.world_model.specs.declared.answer.Fault.TheVariants as faults
use Rattle.world_model.specs.declared.op.Op.TheVariants as ops
use Rattle.claims.specs.Asks as asks
use Rattle.core_answers.proofs.refusals.Refused.{OwnRefusalBy, ShownBy, own-later-by, own-refused-by}
use Rattle.core_answers.proofs.refusals.SentCalls.{SentBy}
use Rattle.core_session.specs.outcomes.Refusals.{MakesNoRoom}
use Rattle.core_session.specs.outcomes.Rooms.{IsNoJukebox, RefusedForRoom, RefusalsRoomed}
use Rattle.core_session.proofs.outcomes.OwnAsks.{own-last, asks-or-rooms}
use Rattle.core_session.proofs.outcomes.Refusals.{refusal-rows}
use Rattle.core_session.proofs.outcomes.RoomRows.{writer-ends, nfs-row, rpc-row, bad-row}

-- an operation makes room, or none
pub writer-or : (op : Op) → IsWriter op ⊎ MakesNoRoom op
writer-or (ops.Write slot offset bytes) = inl (asks.write slot offset bytes refl)
writer-or (ops.Fill slot offset count byte) = inl (asks.fill slot offset count byte refl)
writer-or (ops.Put path offset bytes) = inl (asks.put path offset bytes refl)
writer-or (ops.OpenFile slot mode path) = inr tt
writer-or (ops.Read slot offset count) = inr tt
writer-or (ops.Sync slot) = inr tt
writer-or (ops.Close slot) = inr tt
writer-or (ops.Truncate slot size) = inr tt
writer-or (ops.Stat path) = inr tt
writer-or (ops.Access path bits) = inr tt
writer-or (ops.MakeDir path) = inr tt
writer-or (ops.RemoveDir path) = inr tt
writer-or (ops.Remove path) = inr tt
writer-or (ops.Rename from to) = inr tt
writer-or (ops.Link from to) = inr tt
writer-or (ops.SymLink path target) = inr tt
writer-or (ops.ReadLink path) = inr tt
writer-or (ops.List path) = inr tt

module _ (m : Mounted) (terms : Terms) (setup : Setup) (h : List Entry) (v : View) (g : GoesSo m terms setup h v) (lane x y : ℕ) (op : Op) (named : IsAsked op) where
  abbrev Ends : Fault → Type 0
  Ends fault = Ended h lane x op y (Refused fault)

  abbrev RowOr : Fault → Type 0
  RowOr fault = RefusalRow terms h lane x y op fault ⊎ RefusedForRoom h lane x y op fault

  nfs-or : (n : ℕ) → n ≢ jukebox → Ends (faults.Nfs n) → IsWriter op ⊎ MakesNoRoom op → RowOr (faults.Nfs n)
  nfs-or n calm ended (inl writer) = nfs-row m terms setup h v g lane x y op n named calm writer ended
  nfs-or n calm ended (inr room) = inl (refusal-rows m terms setup h v g lane x y op (faults.Nfs n) named (room, calm) ended)

  rpc-or : (n : ℕ) → Ends (faults.Rpc n) → IsWriter op ⊎ MakesNoRoom op → RowOr (faults.Rpc n)
  rpc-or n ended (inl writer) = rpc-row m terms setup h v g lane x y op n named writer ended
  rpc-or n ended (inr room) = inl (refusal-rows m terms setup h v g lane x y op (faults.Rpc n) named room ended)

  bad-or : (n : ℕ) → Ends (faults.Bad n) → IsWriter op ⊎ MakesNoRoom op → RowOr (faults.Bad n)
  bad-or n ended (inl writer) = bad-row m terms setup h v g lane x y op n named writer ended
  bad-or n ended (inr room) = inl (refusal-rows m terms setup h v g lane x y op (faults.Bad n) named room ended)

  row-or : (fault : Fault) → IsNoJukebox fault → Ends fault → RowOr fault
  row-or (faults.Nfs n) calm ended = nfs-or n calm ended (writer-or op)
  row-or (faults.Rpc n) calm ended = rpc-or n ended (writer-or op)
  row-or (faults.Bad n) calm ended = bad-or n ended (writer-or op)
  row-or faults.Lost calm ended = inl (refusal-rows m terms setup h v g lane x y op faults.Lost named tt ended)
  row-or faults.Spent calm ended = inl tt
  row-or faults.Slot calm ended = inl (refusal-rows m terms setup h v g lane x y op faults.Slot named tt ended)
  row-or faults.Mode calm ended = inl (refusal-rows m terms setup h v g lane x y op faults.Mode named tt ended)
  row-or faults.Kind calm ended = inl (refusal-rows m terms setup h v g lane x y op faults.Kind named tt ended)
  row-or faults.Many calm ended = inl (refusal-rows m terms setup h v g lane x y op faults.Many named tt ended)
  row-or faults.Memory calm ended = inl tt

pub refusals-roomed : RefusalsRoomed
refusals-roomed m terms setup h v g lane x y op fault named calm ended = row-or m terms setup h v g lane x y op named fault calm ended

-- ---- where each call that makes room was asked for

module _ (m : Mounted) (terms : Terms) (setup : Setup) (h : List Entry) (v : View) (g : GoesSo m terms setup h v) (G : List Entry → View → Type 0) where
  -- of each record that was sent for it, with what is known of the view then
  abbrev pub RoomsAsked : Type 0
  RoomsAsked = (i x : ℕ) (op : Op) (call : Call) → SentBy (machine_of m) (begins-unbegun m) setup G h i x op call → IsAsked op → IsWriter op → IsForRoom call
      → Asks terms h x i op call

  module _ (p : Passes (machine_of m) setup G h v) (rooms_asked : RoomsAsked) (lane x y : ℕ) (op : Op) (named : IsAsked op) where
    abbrev Own : Fault → Type 0
    Own fault = OwnRefusalBy m setup G h x y op fault

    abbrev IsEnded : Fault → Type 0
    IsEnded fault = Ended h lane x op y (Refused fault)

    asks-own : (fault : Fault) (w : Own fault) → Asks terms h x w.refused.heard.sent_at op w.call
    asks-own fault w = elim (asks-or-rooms m terms setup h v g x w.refused.heard.sent_at w.call op named w.stays w.sent.sent) [
      | inl asks_it ↦ asks_it
      | inr rooms ↦ rooms_asked w.refused.heard.sent_at x op w.call w.sent named rooms.0 rooms.1
    ]

    own-row : (fault : Fault) → IsNoJukebox fault → IsWriter op → Own fault → RefusedBy terms h x y op fault
    own-row fault calm writer w = record {
      call = w.call;
      refused = w.refused;
      asks = asks-own fault w;
      last = own-last op w.call w.stays;
      ends = λ n is goes. writer-ends terms h x w.refused.heard.got_at op w.call n writer (subst IsNoJukebox is calm) goes;
    }

    until : (fault : Fault) (before after : List Entry) → h ≡ before ++ after → length before ≡ y → OwnRefusalBy m setup G before x (length before) op fault → Own fault
    until fault before after is there w =
        subst (λ (k : List Entry). OwnRefusalBy m setup G k x y op fault) (sym is) (own-later-by m setup G before after x (length before) y op fault (omega (arith, there)) w)

    abbrev Until : Fault → Type 0
    Until fault = (before : List Entry) × ((after : List Entry) × (h ≡ before ++ after) × (length before ≡ y) × ShownBy m setup G before x op fault)

    refused : (fault : Fault) → IsEnded fault → Until fault
    refused fault ended = own-refused-by m setup G terms.modes g.goes.nocto h v p lane x op y fault ended

    writer-row : (fault : Fault) → IsNoJukebox fault → IsWriter op → IsEnded fault → RefusalRow terms h lane x y op fault
    writer-row (faults.Nfs n) calm writer ended =
        let s = refused (faults.Nfs n) ended in own-row (faults.Nfs n) calm writer (until (faults.Nfs n) s.0 s.1.0 s.1.1 s.1.2 s.1.3)
    writer-row (faults.Rpc n) calm writer ended =
        let s = refused (faults.Rpc n) ended in own-row (faults.Rpc n) calm writer (until (faults.Rpc n) s.0 s.1.0 s.1.1 s.1.2 s.1.3)
    writer-row (faults.Bad n) calm writer ended =
        let s = refused (faults.Bad n) ended in own-row (faults.Bad n) calm writer (until (faults.Bad n) s.0 s.1.0 s.1.1 s.1.2 s.1.3)
    writer-row faults.Lost calm writer ended = refusal-rows m terms setup h v g lane x y op faults.Lost named tt ended
    writer-row faults.Spent calm writer ended = tt
    writer-row faults.Slot calm writer ended = refusal-rows m terms setup h v g lane x y op faults.Slot named tt ended
    writer-row faults.Mode calm writer ended = refusal-rows m terms setup h v g lane x y op faults.Mode named tt ended
    writer-row faults.Kind calm writer ended = refusal-rows m terms setup h v g lane x y op faults.Kind named tt ended
    writer-row faults.Many calm writer ended = refusal-rows m terms setup h v g lane x y op faults.Many named tt ended
    writer-row faults.Memory calm writer ended = tt

    roomless-row : (fault : Fault) → IsNoJukebox fault → MakesNoRoom op → IsEnded fault → RefusalRow terms h lane x y op fault
    roomless-row (faults.Nfs n) calm room ended = refusal-rows m terms setup h v g lane x y op (faults.Nfs n) named (room, calm) ended
    roomless-row (faults.Rpc n) calm room ended = refusal-rows m terms setup h v g lane x y op (faults.Rpc n) named room ended
    roomless-row (faults.Bad n) calm room ended = refusal-rows m terms setup h v g lane x y op (faults.Bad n) named room ended
    roomless-row faults.Lost calm room ended = refusal-rows m terms setup h v g lane x y op faults.Lost named tt ended
    roomless-row faults.Spent calm room ended = tt
    roomless-row faults.Slot calm room ended = refusal-rows m terms setup h v g lane x y op faults.Slot named tt ended
    roomless-row faults.Mode calm room ended = refusal-rows m terms setup h v g lane x y op faults.Mode named tt ended
    roomless-row faults.Kind calm room ended = refusal-rows m terms setup h v g lane x y op faults.Kind named tt ended
    roomless-row faults.Many calm room ended = refusal-rows m terms setup h v g lane x y op faults.Many named tt ended
    roomless-row faults.Memory calm room ended = tt

    pub all-row : (fault : Fault) → IsNoJukebox fault → IsEnded fault → RefusalRow terms h lane x y op fault
    all-row fault calm ended = elim (writer-or op) [
      | inl writer ↦ writer-row fault calm writer ended
      | inr room ↦ roomless-row fault calm room ended
    ]
