-- Each byte of a WRITE that is sent may have been pending at a moment since the operation began for which it is sent.
use Rattle.core_session.proofs.Prelude.{◌≡◌, ◌+◌, ℕ, List, Some, slice_get, sym, ap, subst, arith, Entry, PendingWithin, Terms, Mounted, machine_of, Setup, View, begins-unbegun, IsSession, PutsNamed}
use Rattle.nfs_file_calls.specs.declared.call.FileCall.TheVariants as files
use Rattle.world_model.specs.declared.message.Call.TheVariants as calls
use Rattle.world_model.specs.declared.op.Op.TheVariants as ops
use Rattle.core_session.proofs.calls.Outgoing.{Outgoing}
use Rattle.core_session.proofs.calls.TableHeld.{AllNoted}
use Rattle.core_session.proofs.room.Onward.{Onward}
use Rattle.core_session.proofs.calls.WriteKeeps.{Its, in-flight, piece-bytes, piece-place}
use Rattle.core_session.proofs.pending.Sendings.{carried-pending}

module _ (m : Mounted) (terms : Terms) (setup : Setup) (h : List Entry) (v : View) (s : IsSession m terms setup h v) where
  puts-named : PutsNamed h
  puts-named x lane line offset path bytes at = (s.asked x lane line (ops.Put path offset bytes) at).0

  module _ (i : ℕ) (bytes : List ℕ) (w : Outgoing (machine_of m) (begins-unbegun m) setup h i bytes)
      (on : Onward (machine_of m) setup w.before w.old h v) (noted : AllNoted w.old) where
    pub own-bytes : (f text : List ℕ) (offset how : ℕ) → Its m terms setup h v s i bytes w ≡ calls.File (files.Write f offset how text) → (k byte : ℕ) → slice_get text k ≡ Some byte
        → PendingWithin terms.modes terms.origin h w.x i f (offset + k) byte
    own-bytes f text offset how is k byte has =
        let piece = in-flight m terms setup h v s i bytes w f text offset how is in
        let text_is = piece-bytes m terms setup h v s i bytes w f text offset how is in
        let place_is = piece-place m terms setup h v s i bytes w f text offset how is in
        let o = carried-pending m terms setup h v s.goes s.root puts-named f (offset + k) w.before w.after (sym w.is) w.old w.reached w.found noted on w.xid w.waiting w.waits w.x w.op w.under_way
        piece.piece piece.there k byte (ap (λ (n : ℕ). n + k) place_is) (subst (λ (b : List ℕ). slice_get b k ≡ Some byte) text_is has) in
        let within = o.moment.soon in
        let there = w.there in
        record { n = o.n; moment = record { late = o.moment.late; soon = omega (arith, within, there) }; pending = o.pending }
