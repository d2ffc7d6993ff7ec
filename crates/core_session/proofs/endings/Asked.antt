-- Each record that was sent for an operation is a call for which this very operation asked.
use Rattle.core_session.proofs.Prelude.{◌≡◌, ◌≤◌, ◌<◌, ◌+◌, ℕ, List, length, Some, slice_get, sym, subst, Entry, Sent, Call, Op, Asks, At, SpellsCall, UnderWay, Terms, Mounted, machine_of, Busy, Setup, View, begins-unbegun, in_flight, one-call, IsSession, Expects, expects-laws}
use Rattle.core_session.proofs.asked.Whole.{out-asked}
use Rattle.core_session.proofs.calls.Causes.{Spelt}
use Rattle.core_session.proofs.calls.Outgoing.{Outgoing, sent-nfs, sent-spells}
use Rattle.core_answers.proofs.refusals.SentCalls.{SentBy, as-sent}
use Rattle.core_session.proofs.endings.Along.{Here}

module _ (m : Mounted) (terms : Terms) (setup : Setup) (h : List Entry) (v : View) (s : IsSession m terms setup h v)
    (i x : ℕ) (op : Op) (call : Call) (k : SentBy (machine_of m) (begins-unbegun m) setup (Here (machine_of m) setup h v) h i x op call) where
  -- a call of the machine is outstanding, under an xid of the session
  its-some : 1 ≤ in_flight k.sent.sent.machine
  unfolding as-sent
  its-some = (as-sent (machine_of m) (begins-unbegun m) setup Expects expects-laws h i x op call k.sent).some

  its-low : setup.first_xid ≤ k.sent.xid
  unfolding as-sent
  its-low = (as-sent (machine_of m) (begins-unbegun m) setup Expects expects-laws h i x op call k.sent).low

  its-high : k.sent.xid < setup.first_xid + setup.limit
  unfolding as-sent
  its-high = (as-sent (machine_of m) (begins-unbegun m) setup Expects expects-laws h i x op call k.sent).high

  abbrev out : Outgoing (machine_of m) (begins-unbegun m) setup h i k.sent.bytes
  out =
      let w = k.sent.sent.waited in
      record {
        before = w.before;
        after = w.after;
        is = w.is;
        there = w.there;
        old = w.old;
        reached = w.reached;
        found = w.found;
        xid = k.sent.xid;
        waiting = w.call;
        waits = w.waits;
        bytes_is = sym w.bytes_is;
        at = k.sent.sent.at;
        machine = k.sent.sent.machine;
        busy = subst (λ (l : ℕ). slice_get w.old.lanes k.sent.sent.at ≡ Some (record { number = l; state = Busy k.sent.sent.machine })) (sym w.lane_is) k.sent.sent.busy;
        x = x;
        op = op;
        under_way = subst (λ (l : ℕ). UnderWay w.before l x (length w.before) op) (sym w.lane_is) k.sent.sent.under_way;
        some = its-some;
        low = its-low;
        high = its-high;
      }

  same : Spelt m terms setup h v s i k.sent.bytes out ≡ call
  same = one-call k.sent.xid k.sent.xid (Spelt m terms setup h v s i k.sent.bytes out) call k.sent.bytes
      (sent-nfs (machine_of m) (begins-unbegun m) setup Expects expects-laws h i k.sent.bytes out)
      (subst (SpellsCall k.sent.xid (Spelt m terms setup h v s i k.sent.bytes out)) k.sent.sent.waited.bytes_is
      (sent-spells (machine_of m) (begins-unbegun m) setup Expects expects-laws h i k.sent.bytes out))
      k.sent.spells.spells

  pub sent-asks : (bytes : List ℕ) → At h i (Sent bytes) → Asks terms h x i op call
  sent-asks bytes at =
      subst (λ (c : Call). Asks terms h x i op c) same
      (out-asked m terms setup h v s i k.sent.bytes out k.given.on (k.given.none bytes (subst (λ (j : ℕ). At h j (Sent bytes)) (sym k.sent.sent.waited.there) at)))
