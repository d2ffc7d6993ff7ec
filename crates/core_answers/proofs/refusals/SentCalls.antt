-- Of each call that waits and was sent: for which operation its record was first sent, and that the operation's machine waited for it then.
use Rattle.core_answers.proofs.Prelude.{◌≡◌, ℕ, List, ◌++◌, length, false, Some, slice_get, ap, subst, ◌∙◌, arith, append_assoc, Waiting, next_xid, waiting_at, waits_early, Entry, Call, Op, SpellsCallBy, program_of, UnderWay, Machine, Lane, Purpose, Busy, Setup, View, calls_for, in_flight, IsUnbegun, Reaches, IsMade, IsOutstanding, calls-some, reached-count, ExpectLaws, lanes-under-way, Rows, reached-rows, reached-good}
use Rattle.core_facts.proofs.Counting.{IsKnown, known-only}
use Rattle.core_facts.proofs.LaneMarks.{reached-lanes}
use Rattle.core_facts.proofs.Tales.{IsExpected}
use Rattle.nfs_types.specs.declared.program.TheConstants.{NFS_PROGRAM}
use Rattle.rpc_retry.proofs.Records.{waits_late}
use Rattle.world_model.specs.declared.message.Call.TheVariants as calls
use Rattle.core_answers.proofs.asks.Limits.{reached-limit}
use Rattle.core_answers.proofs.asks.Sendings.{SentFor, NoCall, NoShelf, NoStory, no-laws}
use Rattle.core_answers.proofs.bonds.OneCall.{IsNfs, one-call}
use Rattle.core_facts.proofs.Passing.{Passes}
use Rattle.core_answers.proofs.refusals.Waited.{WaitedAt, SentOf, reached-sent-of, reached-sent-by}

pub nfs-of : (call : Call) → program_of call ≡ NFS_PROGRAM → IsNfs call
nfs-of (calls.File call) is = tt
nfs-of (calls.Dir call) is = tt
nfs-of (calls.Mount call) is = absurd (omega (arith, is))

module _ (machine_of : ℕ → Op → Machine) (none : (lane : ℕ) (op : Op) → IsUnbegun (machine_of lane op)) (setup : Setup) where
  -- The record at a place was sent for this operation, and is this call.
  pub record SentCall (h : List Entry) (i x : ℕ) (op : Op) (call : Call) : Type 0 where
    pub xid : ℕ
    pub lane : ℕ
    pub bytes : List ℕ
    pub sent : SentOf machine_of none setup h i xid lane bytes x op
    pub nfs : IsNfs call
    pub spells : SpellsCallBy setup.cred xid call bytes

  pub sent-later : (h more : List Entry) (i x : ℕ) (op : Op) (call : Call) → SentCall h i x op call → SentCall (h ++ more) i x op call
  sent-later h more i x op call s =
      let w = s.sent.waited in
      record {
        xid = s.xid;
        lane = s.lane;
        bytes = s.bytes;
        sent = record {
          waited = record {
            before = w.before;
            after = w.after ++ more;
            is = ap (λ (k : List Entry). k ++ more) w.is ∙ append_assoc w.before w.after more;
            there = w.there;
            old = w.old;
            reached = w.reached;
            found = w.found;
            call = w.call;
            waits = w.waits;
            lane_is = w.lane_is;
            bytes_is = w.bytes_is;
          };
          at = s.sent.at;
          machine = s.sent.machine;
          busy = s.sent.busy;
          under_way = s.sent.under_way;
        };
        nfs = s.nfs;
        spells = s.spells;
      }

  -- With G of the history and the view as the record was sent.
  pub record SentBy (G : List Entry → View → Type 0) (h : List Entry) (i x : ℕ) (op : Op) (call : Call) : Type 0 where
    pub sent : SentCall h i x op call
    pub given : G sent.sent.waited.before sent.sent.waited.old

  pub sent-by-later : (G : List Entry → View → Type 0) (h more : List Entry) (i x : ℕ) (op : Op) (call : Call) → SentBy G h i x op call → SentBy G (h ++ more) i x op call
  sent-by-later G h more i x op call k =
      let s = k.sent in
      let w = s.sent.waited in
      record {
        sent = record {
          xid = s.xid;
          lane = s.lane;
          bytes = s.bytes;
          sent = record {
            waited = record {
              before = w.before;
              after = w.after ++ more;
              is = ap (λ (k : List Entry). k ++ more) w.is ∙ append_assoc w.before w.after more;
              there = w.there;
              old = w.old;
              reached = w.reached;
              found = w.found;
              call = w.call;
              waits = w.waits;
              lane_is = w.lane_is;
              bytes_is = w.bytes_is;
            };
            at = s.sent.at;
            machine = s.sent.machine;
            busy = s.sent.busy;
            under_way = s.sent.under_way;
          };
          nfs = s.nfs;
          spells = s.spells;
        };
        given = k.given;
      }

  pub reached-call-by : (G : List Entry → View → Type 0) (h : List Entry) (v : View) → Passes machine_of setup G h v → v.lost ≡ false → (xid : ℕ) (w : Waiting Purpose)
      → waiting_at xid v.calls.calls ≡ Some w → (made : IsMade setup.cred xid w) → (x : ℕ) (op : Op) → UnderWay h w.purpose.lane x (length h) op → (from : ℕ)
      → IsOutstanding h xid w.bytes from → SentBy G h from x op made.asked
  reached-call-by G h v p found xid w waits made x op u from o =
      let k = reached-sent-by machine_of none setup G h v p found xid w waits from w.bytes o.sent x op u in
      record {
        sent = record { xid = xid; lane = w.purpose.lane; bytes = w.bytes; sent = k.sent; nfs = nfs-of made.asked made.nfs; spells = made.spells };
        given = k.given;
      }

  pub reached-call : (h : List Entry) (v : View) → Reaches machine_of setup h v → v.lost ≡ false → (xid : ℕ) (w : Waiting Purpose) → waiting_at xid v.calls.calls ≡ Some w
      → (made : IsMade setup.cred xid w) → (x : ℕ) (op : Op) → UnderWay h w.purpose.lane x (length h) op → (from : ℕ) → IsOutstanding h xid w.bytes from → SentCall h from x op made.asked
  reached-call h v r found xid w waits made x op u from o = record {
    xid = xid;
    lane = w.purpose.lane;
    bytes = w.bytes;
    sent = reached-sent-of machine_of none setup h v r found xid w waits from w.bytes o.sent x op u;
    nfs = nfs-of made.asked made.nfs;
    spells = made.spells;
  }

  module _ (E : Machine → Call → Type 0) (expected : ExpectLaws E) where
    -- as the topic `asks` has it
    unfoldable pub as-sent : (h : List Entry) (i x : ℕ) (op : Op) (call : Call) (s : SentCall h i x op call) → SentFor machine_of none setup E expected h i s.bytes
    as-sent h i x op call s = record {
      before = w.before;
      after = w.after;
      is = w.is;
      there = w.there;
      old = w.old;
      reached = w.reached;
      found = w.found;
      xid = s.xid;
      call = call;
      made = s.spells;
      lane = s.lane;
      at = s.sent.at;
      machine = s.sent.machine;
      busy = s.sent.busy;
      x = x;
      op = op;
      under_way = s.sent.under_way;
      expects = subst (E s.sent.machine) same e.expects;
      some = let all = calls-some s.xid w.old.calls.calls w.call w.waits in let count = counted in omega (arith, all, count);
      low =
          let late = waits_late w.old.calls.cred w.old.calls.first_xid (next_xid w.old.calls) s.xid w.old.calls.calls w.call rows.sound.calls.each w.waits in
          let first = rows.sound.first in
          omega (arith, late, first);
      high =
          let early = waits_early w.old.calls.cred w.old.calls.first_xid (next_xid w.old.calls) s.xid w.old.calls.calls w.call rows.sound.calls.each w.waits in
          let first = rows.sound.first in
          let few = rows.sound.calls.within in
          let limit : w.old.calls.limit ≡ setup.limit = reached-limit machine_of setup w.before w.old w.reached in
          omega (arith, early, first, few, limit);
    }
      where
        w : WaitedAt machine_of setup h i s.xid s.lane s.bytes
        w = s.sent.waited

        rows : Rows setup w.before w.old
        rows = reached-rows machine_of setup w.before w.old w.reached

        apart : (k m : ℕ) (l o : Lane) → slice_get w.old.lanes k ≡ Some l → slice_get w.old.lanes m ≡ Some o → l.number ≡ o.number → k ≡ m
        apart = (lanes-under-way w.before w.old (reached-lanes machine_of setup w.before w.old w.reached)).apart

        known : IsKnown w.old
        known = reached-count machine_of none setup w.before w.old w.reached w.found

        counted : calls_for w.call.purpose.lane w.old.calls.calls ≡ in_flight s.sent.machine
        counted = ap (λ (n : ℕ). calls_for n w.old.calls.calls) w.lane_is
            ∙ known.counted s.lane
            ∙ known-only s.lane w.old.lanes s.sent.at (Busy s.sent.machine) s.sent.busy
            (λ k l here same. apart k s.sent.at l (record { number = s.lane; state = Busy s.sent.machine }) here s.sent.busy same)

        e : IsExpected machine_of none setup E expected NoCall NoShelf NoStory (no-laws machine_of setup E) w.before s.lane s.xid w.call s.sent.machine
        e = ((reached-good machine_of none setup E expected NoCall NoShelf NoStory (no-laws machine_of setup E) w.before w.old w.reached).each s.sent.at
            (record { number = s.lane; state = Busy s.sent.machine }) s.sent.busy).0 s.xid w.call w.waits w.lane_is

        same : e.made.asked ≡ call
        same = one-call s.xid s.xid e.made.asked call s.bytes (nfs-of e.made.asked e.made.nfs)
            (subst (λ (b : List ℕ). SpellsCallBy setup.cred s.xid e.made.asked b) w.bytes_is e.made.spells).spells s.spells.spells
