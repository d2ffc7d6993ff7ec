-- A record under the xid of a call that waits answers a call of the operation that is under way.
use Rattle.core_facts.proofs.Prelude.{◌≡◌, ◌<◌, ◌≤◌, ◌+◌, ℕ, zero, suc, List, [], ◌∷◌, ◌++◌, length, true, false, cond, nat_eq, Bool, Option, Some, None, MatchOption, sym, ap, subst, ◌∙◌, arith, xid_at, Waiting, awaited, waiting_at, Entry, Sent, Delivered, Call, Op, HasXid, FirstSent-grow, At-grow, At-below, At-back, At-last, said_of, Says, Machine, Purpose, Setup, HearsFor, View, IsUnbegun, Reaches, HearsRecord, IsOutstanding, Tried, unsent, runs}
use Rattle.world_model.specs.Messages.{SpellsCall}
use Rattle.call_replies.specs.Says.{IsCallOf}
use Rattle.client_core.specs.Steps.{WereSent, Hears, taken}
use Rattle.core_facts.specs.Tries.{ended, IsMade}
use Rattle.world_model.specs.Heard.{Heard}
use Rattle.core_facts.specs.Counted.{IsOfOperation}
use Rattle.core_facts.specs.Hearing.{IsAnswer}
use Rattle.core_facts.proofs.Owning.{reached-owned}
use Rattle.core_facts.proofs.Rows.{reached-rows}

-- each call that waits was sent
pub was-sent : (xid : ℕ) (es : List (ℕ × Waiting Purpose)) (call : Waiting Purpose) → WereSent es → waiting_at xid es ≡ Some call → 1 ≤ call.attempts
was-sent xid [] call all at = absurd (cc)
was-sent xid (e ∷ es) call all at =
    elim (nat_eq xid e.0) as (λ b. cond b (Some e.1) (waiting_at xid es) ≡ Some call → 1 ≤ call.attempts) [
      | true ↦ λ here. let which : e.1 ≡ call = cc in subst (λ (w : Waiting Purpose). 1 ≤ w.attempts) which (all zero e (omega arith))
      | false ↦ λ there. was-sent xid es call (λ k d lt. all (suc k) d (omega (arith, lt))) there
    ] at

-- what the core says of the record
pub says-of : (old : View) (rec : List ℕ) (b : Bool) (new : View) (xid : ℕ) (call : Waiting Purpose) → Hears old rec b new → xid_at rec ≡ Some xid → waiting_at xid old.calls.calls ≡ Some call
    → (x : ℕ) → HasXid rec x → (asked : Call) → IsCallOf call.purpose.proc asked → Says x asked rec (said_of call.purpose.proc rec)
says-of old rec b new xid call h named waits = by (awaited (xid_at rec) old.calls.calls) (ap (λ (o : Option ℕ). awaited o old.calls.calls) named ∙ waits) h
  where
    of : (other : Waiting Purpose) → other ≡ call → HearsFor (taken old rec) rec other.purpose new → (x : ℕ) → HasXid rec x → (asked : Call) → IsCallOf call.purpose.proc asked → Says x asked rec (said_of call.purpose.proc rec)
    of other same t =
        subst (λ (w : Waiting Purpose). (x : ℕ) → HasXid rec x → (asked : Call) → IsCallOf w.purpose.proc asked → Says x asked rec (said_of w.purpose.proc rec)) same t.says

    by : (o : Option (Waiting Purpose)) → o ≡ Some call → MatchOption o ((b ≡ false) × (new ≡ old)) (λ w. (b ≡ true) × HearsFor (taken old rec) rec w.purpose new)
        → (x : ℕ) → HasXid rec x → (asked : Call) → IsCallOf call.purpose.proc asked → Says x asked rec (said_of call.purpose.proc rec)
    by None is t = absurd (cc)
    by (Some other) is t = of other (let same : other ≡ call = cc in same) t.1

-- the record answers the call
pub heard-of : (h : List Entry) (rec : List ℕ) (xid from x : ℕ) (asked : Call) (bytes : List ℕ) (o : IsOutstanding h xid bytes from) (m : SpellsCall xid asked bytes) → HasXid rec xid → x < from → Heard (h ++ Delivered rec ∷ []) x (length h + 1) asked xid rec
heard-of h rec xid from x asked bytes o spells named since =
    let within : from < length h = At-below h from (Sent bytes) o.sent.sent in
    record {
      sent_at = from;
      record_sent = bytes;
      got_at = length h;
      sent = FirstSent-grow h (Delivered rec ∷ []) from xid bytes o.sent;
      spells = spells;
      got = record {
        got = At-last h (Delivered rec);
        under = named;
        waits = record {
          at = from;
          bytes = bytes;
          sent = At-grow h (Delivered rec ∷ []) from (Sent bytes) o.sent.sent;
          under = o.sent.under;
          before = within;
          unanswered = λ j b at has after before. o.unheard j b (At-back h (Delivered rec ∷ []) j (Delivered b) at before) has after;
        };
      };
      after = omega (arith, since);
      later = within;
      before = omega arith;
    }

pub reached-heard : (machine_of : ℕ → Op → Machine) → ((lane : ℕ) (op : Op) → IsUnbegun (machine_of lane op)) → (setup : Setup) (h : List Entry) (old : View) → Reaches machine_of setup h old → old.lost ≡ false → (rec : List ℕ) (new : View) → HearsRecord old rec new
    → (xid : ℕ) (call : Waiting Purpose) → xid_at rec ≡ Some xid → waiting_at xid old.calls.calls ≡ Some call → IsAnswer h xid rec call
reached-heard machine_of none setup h old r found rec new t xid call named waits =
    let k = (reached-rows machine_of setup h old r).rows xid call waits in
    let own = (reached-owned machine_of none setup h old r found).owned xid call waits in
    record {
      asked = k.made.asked;
      x = own.x;
      op = own.op;
      under_way = own.under_way;
      heard = by k.made own k.tried;
      says = says-of old rec t.result new xid call t.hears named waits xid named k.made.asked (record { nfs = k.made.nfs; is = sym k.made.proc });
    }
  where
    by : (m : IsMade setup.cred xid call) (own : IsOfOperation h old xid call) → Tried h xid call → Heard (h ++ Delivered rec ∷ []) own.x (length h + 1) m.asked xid rec
    by m own (unsent nothing u) = absurd (let some = was-sent xid old.calls.calls call t.may.sent waits in omega (arith, some, nothing))
    by m own (runs from running o rest) = heard-of h rec xid from own.x m.asked call.bytes o m.spells.spells named (own.since from call.bytes o.sent.sent o.sent.under)
    by m own (ended from idle o rest) = heard-of h rec xid from own.x m.asked call.bytes o m.spells.spells named (own.since from call.bytes o.sent.sent o.sent.under)
