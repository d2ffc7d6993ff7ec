-- The rows of NFS3ERR_JUKEBOX (RFC 1813, section 2.6): the call that a record refused is one for which the operation asked.
use Rattle.core_session.proofs.Prelude.{◌≡◌, ◌⊎◌, inl, inr, ℕ, List, refl, subst, arith, Refused, Entry, Call, Op, Asks, IsWriter, GoesOn, Ended, RefusedBy, Terms, jukebox, Mounted, IsAsked, machine_of, Setup, View, IsForRoom, GoesSo}
use Rattle.claims.specs.GoesOn.{FewPutOff}
use Rattle.world_model.specs.declared.answer.Fault.TheVariants as faults
use Rattle.claims.specs.Asks as acts
use Rattle.claims.specs.GoesOn as on
use Rattle.core_session.specs.outcomes.Refusals.{MakesNoRoom}
use Rattle.core_session.proofs.outcomes.OwnAsks.{asks-or-rooms, own-last}
use Rattle.core_session.proofs.outcomes.RoomRows.{under}
use Rattle.core_session.specs.delays.Busy.{BusyRowsShown, BusyForRoom, BusyRowsRoomed}
use Rattle.core_facts.proofs.Passing.{Anything, passes-any}
use Rattle.core_session.proofs.delays.Puts.{not-few}
use Rattle.core_session.proofs.delays.Story.{OffRefusal, off-refused}

-- ---- it ends there

ends-there : (terms : Terms) (h : List Entry) (x n : ℕ) (op : Op) (call : Call) (status : ℕ) → status ≡ jukebox → (FewPutOff h x n call → ⊥) → GoesOn terms h x n op call status → ⊥
ends-there terms h x n op call status is often (on.makes slot path d name same place alone c two none) = absurd (omega (arith, is, two))
ends-there terms h x n op call status is often (on.hides path d last name file attr dir same place hidden other alone c two gave) = absurd (omega (arith, is, two))
ends-there terms h x n op call status is often (on.tries_again same few none) = often few

same-status : (n k : ℕ) → faults.Nfs n ≡ faults.Nfs k → k ≡ n
same-status n k e = cc

-- an operation that writes makes room
not-writer : (op : Op) → MakesNoRoom op → IsWriter op → ⊥
not-writer op room (acts.write slot offset bytes is) = subst MakesNoRoom is room
not-writer op room (acts.fill slot offset count byte is) = subst MakesNoRoom is room
not-writer op room (acts.put path offset bytes is) = subst MakesNoRoom is room

-- ---- rows

module _ (m : Mounted) (terms : Terms) (setup : Setup) (h : List Entry) (v : View) (g : GoesSo m terms setup h v) (G : List Entry → View → Type 0) (x y : ℕ) (op : Op) where
  abbrev Off : Type 0
  Off = OffRefusal m setup G h x y op

  off-ends : (w : Off) → GoesOn terms h x w.refused.heard.got_at op w.call jukebox → ⊥
  off-ends w goes = ends-there terms h x w.refused.heard.got_at op w.call jukebox refl (not-few h x w.refused.heard.got_at w.call w.many w.enough w.puts) goes

  -- the whole row, where it asks for the call
  pub asks-row : (w : Off) → Asks terms h x w.refused.heard.sent_at op w.call → RefusedBy terms h x y op (faults.Nfs jukebox)
  asks-row w asks = record {
    call = w.call;
    refused = w.refused;
    asks = asks;
    last = own-last op w.call w.stays;
    ends = λ n is goes. off-ends w (subst (GoesOn terms h x w.refused.heard.got_at op w.call) (same-status jukebox n is) goes);
  }

  room-row : (lane : ℕ) → Ended h lane x op y (Refused (faults.Nfs jukebox)) → (w : Off) → IsWriter op → IsForRoom w.call → BusyForRoom terms h lane x y op
  room-row lane ended w writer room = record {
    made = record {
      call = w.call;
      refused = w.refused;
      writer = writer;
      room = room;
      under_way = under h lane x y op (Refused (faults.Nfs jukebox)) w.call w.refused.xid w.refused.bytes ended w.refused.heard;
    };
    ends = off-ends w;
  }

  -- what is known of it, as its call was sent
  pub asks-or : IsAsked op → (w : Off) → Asks terms h x w.refused.heard.sent_at op w.call ⊎ (IsWriter op × IsForRoom w.call)
  asks-or named w = asks-or-rooms m terms setup h v g x w.refused.heard.sent_at w.call op named w.stays w.sent.sent

pub busy-rows-roomed : BusyRowsRoomed
busy-rows-roomed m terms setup h v g lane x y op named ended =
    let w = off-refused m setup Anything terms.modes g.goes.nocto h v (passes-any (machine_of m) setup h v g.goes.reaches) lane x y op ended in
    elim (asks-or m terms setup h v g Anything x y op named w) [
      | inl asks ↦ inl (asks-row m terms setup h v g Anything x y op w asks)
      | inr rooms ↦ inr (room-row m terms setup h v g Anything x y op lane ended w rooms.0 rooms.1)
    ]

pub busy-rows : BusyRowsShown
busy-rows m terms setup h v g lane x y op named none ended = elim (busy-rows-roomed m terms setup h v g lane x y op named ended) [
  | inl row ↦ row
  | inr room ↦ absurd (not-writer op none room.made.writer)
]
