-- What a record that is heard tells: it answers the call that its operation waits for, which was first sent at a place.
use Rattle.core_session.proofs.Prelude.{◌≡◌, ◌<◌, ℕ, List, [], ◌∷◌, ◌++◌, length, Some, Ok, sym, subst, arith, xid_at, Waiting, waiting_at, Entry, Sent, Delivered, Call, Reply, HasXid, SpellsCall, SpellsReply, LastReply, FirstSent-grow, At-grow, At-below, At-back, At-last, length_last, said_of, Says, Mounted, machine_of, Purpose, Setup, View, HearsRecord, Reaches, IsMade, Tried, unsent, IsOutstanding, was-sent, says-of, reached-rows, IsAnswered}
use Rattle.call_replies.specs.Says.{SpellsOne}
use Rattle.core_facts.specs.Tries.{runs, ended}
use Rattle.world_model.specs.Heard.{Heard}

-- the record answers a call that was first sent at a place
answers-call : (h : List Entry) (rec : List ℕ) (xid from : ℕ) (asked : Call) (bytes : List ℕ) → IsOutstanding h xid bytes from → SpellsCall xid asked bytes → HasXid rec xid
    → Heard (h ++ Delivered rec ∷ []) from (length (h ++ Delivered rec ∷ [])) asked xid rec
answers-call h rec xid from asked bytes o spells named =
    let within : from < length h = At-below h from (Sent bytes) o.sent.sent in
    let more = length_last h (Delivered rec) in
    record {
      sent_at = from;
      record_sent = bytes;
      got_at = length h;
      sent = FirstSent-grow h (Delivered rec ∷ []) from xid bytes o.sent;
      spells = spells;
      got = record {
        got = At-last h (Delivered rec);
        under = named;
        waits = record {
          at = from;
          bytes = bytes;
          sent = At-grow h (Delivered rec ∷ []) from (Sent bytes) o.sent.sent;
          under = o.sent.under;
          before = within;
          unanswered = λ j b at has after before. o.unheard j b (At-back h (Delivered rec ∷ []) j (Delivered b) at before) has after;
        };
      };
      after = omega arith;
      later = within;
      before = omega (arith, more);
    }

abbrev last-reply : (h : List Entry) (rec : List ℕ) (xid from : ℕ) (asked : Call) (bytes : List ℕ) → IsOutstanding h xid bytes from → SpellsCall xid asked bytes → HasXid rec xid
    → LastReply (h ++ Delivered rec ∷ []) (length (h ++ Delivered rec ∷ [])) asked
last-reply h rec xid from asked bytes o spells named =
    let within : from < length h = At-below h from (Sent bytes) o.sent.sent in
    let more = length_last h (Delivered rec) in
    record {
      at = length h;
      bytes = rec;
      xid = xid;
      sent_at = from;
      record_sent = bytes;
      got = At-last h (Delivered rec);
      before = omega (arith, more);
      last = λ j b there low. omega (arith, low, more);
      under = named;
      sent = FirstSent-grow h (Delivered rec ∷ []) from xid bytes o.sent;
      spells = spells;
      asked = within;
    }

-- The call that is answered was first sent at a place, and the record is the last that came.
pub record IsToldNow (h : List Entry) (rec : List ℕ) (xid : ℕ) (call : Waiting Purpose) (asked : Call) (reply : Reply) : Type 0 where
  pub from : ℕ
  pub out : IsOutstanding h xid call.bytes from
  pub answered : IsAnswered (h ++ Delivered rec ∷ []) from (length (h ++ Delivered rec ∷ [])) asked reply
  pub last : LastReply (h ++ Delivered rec ∷ []) (length (h ++ Delivered rec ∷ [])) asked
  pub spells : SpellsReply last.xid asked reply last.bytes

pub told-now : (m : Mounted) (setup : Setup) (h : List Entry) (old : View) (rec : List ℕ) (new : View) (xid : ℕ) (call : Waiting Purpose) (t : HearsRecord old rec new)
    → Reaches (machine_of m) setup h old → xid_at rec ≡ Some xid → waiting_at xid old.calls.calls ≡ Some call → (made : IsMade setup.cred xid call)
    → (reply : Reply) → said_of call.purpose.proc rec ≡ Ok reply → IsToldNow h rec xid call made.asked reply
told-now m setup h old rec new xid call t r named waits made reply is = by ((reached-rows (machine_of m) setup h old r).rows xid call waits).tried
  where
    said : SpellsOne xid made.asked rec reply
    said = subst (Says xid made.asked rec) is
        (says-of old rec t.result new xid call t.hears named waits xid named made.asked (record { nfs = made.nfs; is = sym made.proc }))

    told : (from : ℕ) → IsOutstanding h xid call.bytes from → IsToldNow h rec xid call made.asked reply
    told from o = record {
      from = from;
      out = o;
      answered = record { xid = xid; bytes = rec; heard = answers-call h rec xid from made.asked call.bytes o made.spells.spells named; spells = said.is; only = said.only };
      last = last-reply h rec xid from made.asked call.bytes o made.spells.spells named;
      spells = said.is;
    }

    by : Tried h xid call → IsToldNow h rec xid call made.asked reply
    by (unsent nothing u) = absurd (let some = was-sent xid old.calls.calls call t.may.sent waits in omega (arith, some, nothing))
    by (runs from running o rest) = told from o
    by (ended from idle o rest) = told from o
