-- An operation asked for the call of its own that a record refused, whichever it is; or it is a write, fill or put, which made room by it.
use Rattle.core_session.proofs.Prelude.{◌⊎◌, inl, inr, ℕ, List, refl, subst, Entry, Call, Op, Asks, IsWriter, IsLastRemove, Terms, Mounted, IsAsked, machine_of, Setup, View, begins-unbegun, IsForRoom, GoesSo, SentCall}
use Rattle.core_answers.specs.refusals.Rowed.{AsksPlainly}
use Rattle.world_model.specs.declared.op.Op.TheVariants as ops
use Rattle.claims.specs.Asks as asks
use Rattle.core_answers.specs.refusals.Asked.{AskedOr, asked, rooms, hides, removes}
use Rattle.core_answers.proofs.refusals.Asking as asking
use Rattle.core_answers.proofs.refusals.Refused.{NoRemoval}
use Rattle.core_session.proofs.outcomes.RemoveRefusals.{asks-for}
use Rattle.core_session.proofs.outcomes.RoomRows.{store-room, put-room}

-- it isn't the REMOVE of a last close
pub own-last : (op : Op) (call : Call) → NoRemoval op call → IsLastRemove op call → ⊥
own-last op call stays l = stays l.slot l.close (record { d = l.d; name = l.name; is = l.remove })

no-writer : (op : Op) → AsksPlainly op → IsWriter op → ⊥
no-writer op plain (asks.write slot offset bytes is) = subst AsksPlainly is plain
no-writer op plain (asks.fill slot offset count byte is) = subst AsksPlainly is plain
no-writer op plain (asks.put path offset bytes is) = subst AsksPlainly is plain

plainly : (terms : Terms) (h : List Entry) (x n : ℕ) (op : Op) (call : Call) → AsksPlainly op → NoRemoval op call → AskedOr terms h x n op call → Asks terms h x n op call
plainly terms h x n op call plain stays (asked asks_it) = asks_it
plainly terms h x n op call plain stays (rooms writer) = absurd (no-writer op plain writer)
plainly terms h x n op call plain stays (hides path is hiding) = absurd (subst AsksPlainly is plain)
plainly terms h x n op call plain stays (removes slot is removal) = absurd (stays slot is removal)

module _ (m : Mounted) (terms : Terms) (setup : Setup) (h : List Entry) (v : View) (g : GoesSo m terms setup h v) (x n : ℕ) (call : Call) where
  abbrev Was : Op → Type 0
  Was op = SentCall (machine_of m) (begins-unbegun m) setup h n x op call

  -- it asked for the call, or made room by it
  abbrev pub AsksOrRooms : Op → Type 0
  AsksOrRooms op = Asks terms h x n op call ⊎ (IsWriter op × IsForRoom call)

  of-plain : (op : Op) → IsAsked op → AsksPlainly op → NoRemoval op call → Was op → AsksOrRooms op
  of-plain op named plain stays s =
      inl (plainly terms h x n op call plain stays (asking.row-of m terms setup g.goes.nocto g.noac g.some h g.known n x call op named s))

  pub asks-or-rooms : (op : Op) → IsAsked op → NoRemoval op call → Was op → AsksOrRooms op
  asks-or-rooms (ops.Write slot offset bytes) named stays s =
      inr (asks.write slot offset bytes refl, store-room m terms setup h g.known n x call (ops.Write slot offset bytes) s tt)
  asks-or-rooms (ops.Fill slot offset count byte) named stays s =
      inr (asks.fill slot offset count byte refl, store-room m terms setup h g.known n x call (ops.Fill slot offset count byte) s tt)
  asks-or-rooms (ops.Put path offset bytes) named stays s = elim (put-room m terms setup h g.known n x call path offset bytes named.0 s) [
    | inl asks_it ↦ inl asks_it
    | inr room ↦ inr (asks.put path offset bytes refl, room)
  ]
  asks-or-rooms (ops.Remove path) named stays s = inl (asks-for m terms setup g.goes.nocto h g.known n x call path s named)
  asks-or-rooms (ops.OpenFile slot mode path) named stays s = of-plain (ops.OpenFile slot mode path) named tt stays s
  asks-or-rooms (ops.Read slot offset count) named stays s = of-plain (ops.Read slot offset count) named tt stays s
  asks-or-rooms (ops.Sync slot) named stays s = of-plain (ops.Sync slot) named tt stays s
  asks-or-rooms (ops.Close slot) named stays s = of-plain (ops.Close slot) named tt stays s
  asks-or-rooms (ops.Truncate slot size) named stays s = of-plain (ops.Truncate slot size) named tt stays s
  asks-or-rooms (ops.Stat path) named stays s = of-plain (ops.Stat path) named tt stays s
  asks-or-rooms (ops.Access path bits) named stays s = of-plain (ops.Access path bits) named tt stays s
  asks-or-rooms (ops.MakeDir path) named stays s = of-plain (ops.MakeDir path) named tt stays s
  asks-or-rooms (ops.RemoveDir path) named stays s = of-plain (ops.RemoveDir path) named tt stays s
  asks-or-rooms (ops.Rename from to) named stays s = of-plain (ops.Rename from to) named tt stays s
  asks-or-rooms (ops.Link from to) named stays s = of-plain (ops.Link from to) named tt stays s
  asks-or-rooms (ops.SymLink path target) named stays s = of-plain (ops.SymLink path target) named tt stays s
  asks-or-rooms (ops.ReadLink path) named stays s = of-plain (ops.ReadLink path) named tt stays s
  asks-or-rooms (ops.List path) named stays s = of-plain (ops.List path) named tt stays s
