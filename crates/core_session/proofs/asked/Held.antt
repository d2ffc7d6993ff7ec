-- What was pending at a view through which a session came may be pending at that moment, by the whole history.
use Rattle.core_session.proofs.Prelude.{◌≡◌, ◌≤◌, ℕ, List, ◌++◌, length, refl, sym, ap, subst, ◌∙◌, arith, Entry, Terms, Mounted, machine_of, Setup, View, begins-unbegun, IsSession, PutsNamed}
use Rattle.world_model.specs.declared.op.Op.TheVariants as ops
use Rattle.claims.specs.Asks.{HadPending}
use Rattle.claims.specs.Pending.{Pending}
use Rattle.core_session.proofs.calls.Outgoing.{Outgoing}
use Rattle.core_session.proofs.calls.TableHeld.{AllNoted}
use Rattle.core_session.proofs.pending.Unsettled.{held-whole}
use Rattle.core_session.proofs.room.Onward.{Onward}
use Rattle.core_session.proofs.asked.Onwards.{onward-then, onward-rest, onward-longer}
use Rattle.core_session.proofs.asked.Soon.{held-soon}
use Rattle.core_session.proofs.asked.Sought.{Had}

module _ (m : Mounted) (terms : Terms) (setup : Setup) (h : List Entry) (v : View) (s : IsSession m terms setup h v) where
  puts-named : PutsNamed h
  puts-named x lane line offset path bytes at = (s.asked x lane line (ops.Put path offset bytes) at).0

  module _ (i : ℕ) (bytes : List ℕ) (w : Outgoing (machine_of m) (begins-unbegun m) setup h i bytes) (on : Onward (machine_of m) setup w.before w.old h v)
      (noted : AllNoted w.old) where
    module _ (f : List ℕ) (k : Had m setup w.before w.old w.x f) where
      onward : Onward (machine_of m) setup k.g k.gv h v
      onward = onward-then (machine_of m) setup k.g k.gv w.before w.old h v k.on on

      pending : Pending terms.modes terms.origin h f k.has.place (length k.g) k.has.byte
      pending =
          let rest = onward-rest (machine_of m) setup k.g k.gv h v onward in
          held-whole m terms setup h v s.goes s.root puts-named k.g rest.0 rest.1 k.gv k.reached k.found onward f
          (held-soon m terms setup h v s.goes f k.g rest.0 rest.1 k.gv k.reached k.found w.before w.after (sym w.is) w.old k.on noted) k.has.place k.has.byte k.has.newest

    pub had-pending : (f : List ℕ) → Had m setup w.before w.old w.x f → HadPending terms h w.x i f
    had-pending f k = record {
      i = k.has.place;
      v = k.has.byte;
      n = length k.g;
      moment = record {
        late = k.late;
        soon = let early = onward-longer (machine_of m) setup k.g k.gv w.before w.old k.on in let there = w.there in omega (arith, early, there);
      };
      pending = pending f k;
    }
