-- What a record that comes tells of the call that waits for it.
use Rattle.core_counts.proofs.Prelude.{◌≡◌, ◌<◌, ℕ, List, [], ◌∷◌, ◌++◌, length, Some, slice_get, Ok, sym, subst, arith, append_assoc, xid_at, Waiting, waiting_at, Entry, Sent, Delivered, Call, Reply, At, Heard, HasXid, SpellsCall, SpellsReply, FirstSent-grow, At-grow, At-below, At-back, At-last, said_of, Says, Step, Mounted, Machine, machine_of, Purpose, Busy, Setup, View, HearsRecord, Reaches, IsMade, Tried, IsOutstanding, was-sent, says-of, reached-rows, ThenOf, Both}
use Rattle.call_replies.specs.Says.{SpellsOne}
use Rattle.core_facts.specs.Tries.{unsent, runs, ended}
use Rattle.core_answers.proofs.pages.PageCalls.{both-asks}
use Rattle.claims.specs.Thrifty.{CameWithin}
use Rattle.client_shelf.specs.declared.step.Step.TheVariants as nexts
use Rattle.core_answers.proofs.pages.Keeping as keeping

-- The call that is answered was first sent at a place, and the record spells this reply to it alone.
pub record CameNow (h : List Entry) (rec : List ℕ) (xid : ℕ) (call : Waiting Purpose) (asked : Call) (reply : Reply) : Type 0 where
  pub from : ℕ
  pub out : IsOutstanding h xid call.bytes from
  pub spells : SpellsReply xid asked reply rec
  pub only : (other : Reply) → SpellsReply xid asked other rec → other ≡ reply

pub record OutNow (h : List Entry) (xid : ℕ) (call : Waiting Purpose) : Type 0 where
  pub from : ℕ
  pub out : IsOutstanding h xid call.bytes from

module _ (m : Mounted) (setup : Setup) (h : List Entry) (old : View) (rec : List ℕ) (fin : View) (xid : ℕ) (call : Waiting Purpose) (hears : HearsRecord old rec fin) (r : Reaches (machine_of m) setup h old)
    (named : xid_at rec ≡ Some xid) (waits : waiting_at xid old.calls.calls ≡ Some call) where
  pub out-now : OutNow h xid call
  out-now = by ((reached-rows (machine_of m) setup h old r).rows xid call waits).tried
    where
      by : Tried h xid call → OutNow h xid call
      by (unsent nothing u) = absurd (let some = was-sent xid old.calls.calls call hears.may.sent waits in omega (arith, some, nothing))
      by (runs from running o rest) = record { from = from; out = o }
      by (ended from idle o rest) = record { from = from; out = o }

  pub says-now : (made : IsMade setup.cred xid call) → Says xid made.asked rec (said_of call.purpose.proc rec)
  says-now made = says-of old rec hears.result fin xid call hears.hears named waits xid named made.asked (record { nfs = made.nfs; is = sym made.proc })

  pub came-now : (made : IsMade setup.cred xid call) (reply : Reply) → said_of call.purpose.proc rec ≡ Ok reply → CameNow h rec xid call made.asked reply
  came-now made reply is =
      let said : SpellsOne xid made.asked rec reply = subst (Says xid made.asked rec) is (says-now made) in
      record { from = out-now.from; out = out-now.out; spells = said.is; only = said.only }

-- it came after the place o
pub record CameLate (k : List Entry) (o n : ℕ) (asked : Call) (xid : ℕ) (rec : List ℕ) : Type 0 where
  pub heard : Heard k 0 n asked xid rec
  pub late : o < heard.got_at

-- it came between the places
module _ (h : List Entry) (rec : List ℕ) (rest : List Entry) (xid : ℕ) (call : Waiting Purpose) (asked : Call) (o n : ℕ) (w : OutNow h xid call) (spells : SpellsCall xid asked call.bytes) (named : HasXid rec xid) where
  pub heard-there : length h < n → Heard (h ++ Delivered rec ∷ rest) 0 n asked xid rec
  heard-there within =
      let low : w.from < length h = At-below h w.from (Sent call.bytes) w.out.sent.sent in
      record {
        sent_at = w.from;
        record_sent = call.bytes;
        got_at = length h;
        sent = FirstSent-grow h (Delivered rec ∷ rest) w.from xid call.bytes w.out.sent;
        spells = spells;
        got = record {
          got = At-grow-last;
          under = named;
          waits = record {
            at = w.from;
            bytes = call.bytes;
            sent = At-grow h (Delivered rec ∷ rest) w.from (Sent call.bytes) w.out.sent.sent;
            under = w.out.sent.under;
            before = low;
            unanswered = λ j b at has after before. w.out.unheard j b (At-back h (Delivered rec ∷ rest) j (Delivered b) at before) has after;
          };
        };
        after = omega arith;
        later = low;
        before = within;
      }
    where
      At-grow-last : At (h ++ Delivered rec ∷ rest) (length h) (Delivered rec)
      At-grow-last = subst (λ (k : List Entry). At k (length h) (Delivered rec)) (append_assoc h (Delivered rec ∷ []) rest) (At-grow (h ++ Delivered rec ∷ []) rest (length h) (Delivered rec) (At-last h (Delivered rec)))

  pub came-late : o < length h → length h < n → CameLate (h ++ Delivered rec ∷ rest) o n asked xid rec
  unfolding heard-there
  came-late after within = record { heard = heard-there within; late = after }

  pub came-within : (reply : Reply) → SpellsReply xid asked reply rec → o < length h → length h < n → CameWithin (h ++ Delivered rec ∷ rest) o n asked reply
  unfolding heard-there
  came-within reply spelt after within = record { xid = xid; bytes = rec; heard = heard-there within; after = after; spells = spelt }

-- ---- the call of a lane

no-story : (next : Step) (new : Machine) → ThenOf (λ k. Unit {0}) (λ a. Unit {0}) next new
no-story (nexts.Send call) new = tt
no-story nexts.Wait new = tt
no-story (nexts.Done answer) new = tt

none-laws : (m : Mounted) (setup : Setup) → keeping.BondLaws (machine_of m) setup Both (λ h lane shelf. Unit {0}) (λ h shelf. Unit {0}) (λ h x op state. Unit {0})
none-laws m setup = record {
  starts = λ h lane line op wsize turn old next new after given passed g late s. record { kept = tt; then_ = no-story next new };
  resumes = λ h x op machine wsize turn old next new after g passed within late story r. record { kept = tt; then_ = no-story next new };
  takes = λ h x op machine call wsize sent turn came old next new after g within late story on told t. record { kept = tt; then_ = no-story next new };
  still = λ h e shelf g. tt;
  grows = λ h e x op state story. tt;
  lost = λ h x op l. tt;
}

-- the call that waits is one that the lane's machine waits for
pub record Mine (setup : Setup) (xid : ℕ) (call : Waiting Purpose) (machine : Machine) : Type 0 where
  pub made : IsMade setup.cred xid call
  pub on : Both machine made.asked

pub mine-of : (m : Mounted) (setup : Setup) (h : List Entry) (old : View) → Reaches (machine_of m) setup h old → (xid : ℕ) (call : Waiting Purpose) (at number : ℕ) (machine : Machine)
    → waiting_at xid old.calls.calls ≡ Some call → number ≡ call.purpose.lane → slice_get old.lanes at ≡ Some (record { number = number; state = Busy machine }) → Mine setup xid call machine
mine-of m setup h old r xid call at number machine waits is there =
    let all = keeping.reached-known m setup Both both-asks (λ k lane shelf. Unit {0}) (λ k shelf. Unit {0}) (λ k x op state. Unit {0}) (none-laws m setup)
    (λ k w lane reached_ found_ idle. tt) (λ k w fresh. tt) h old r in
    let own = (all.lanes at (record { number = number; state = Busy machine }) there).0 xid call waits (sym is) in
    record { made = own.made; on = own.on }
