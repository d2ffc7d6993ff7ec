-- What a history shows goes on being shown as it grows.
use Rattle.std.proofs.Common.{inl, inr, ◌≤◌, ℕ, List, ◌++◌, length, arith}
use Rattle.std.proofs.lemmas.Bool.{cases_lt}
use Rattle.world_model.specs.declared.entry.Entry.{Entry}
use Rattle.world_model.specs.declared.entry.Entry.TheVariants.{Sent, Delivered}
use Rattle.world_model.specs.declared.message.Call.{Call}
use Rattle.world_model.specs.declared.message.Reply.{Reply}
use Rattle.world_model.specs.declared.answer.Fault.{Fault}
use Rattle.world_model.specs.Waiting.{FirstSent, Waits, Drops, Answers}
use Rattle.world_model.specs.Heard.{Heard, Asked, Refused}
use Rattle.world_model.specs.Commits.{Committed}
use Rattle.world_model.specs.Rows.{DropRun, begins, drops, WasSent}
use Rattle.world_model.specs.Mounts.{Origin, Mounting, Given, Rooted, Sized, told, untold}
use Rattle.world_model.proofs.Places.{At-grow, At-below, At-back}

pub FirstSent-grow : (h more : List Entry) (i x : ℕ) (bytes : List ℕ) → FirstSent h i x bytes → FirstSent (h ++ more) i x bytes
FirstSent-grow h more i x bytes f = record {
  sent = At-grow h more i (Sent bytes) f.sent;
  under = f.under;
  first = λ j b at has.
      elim (cases_lt j (length h)) [
        | inl lt ↦ f.first j b (At-back h more j (Sent b) at lt) has
        | inr le ↦ let below = At-below h i (Sent bytes) f.sent in omega (arith, le, below)
      ];
}

pub Waits-grow : (h more : List Entry) (x n : ℕ) → n ≤ length h → Waits h x n → Waits (h ++ more) x n
Waits-grow h more x n within w = record {
  at = w.at;
  bytes = w.bytes;
  sent = At-grow h more w.at (Sent w.bytes) w.sent;
  under = w.under;
  before = w.before;
  unanswered = λ j b at has after lt. w.unanswered j b (At-back h more j (Delivered b) at (omega (arith, lt, within))) has after lt;
}

pub Waits-back : (h more : List Entry) (x n : ℕ) → n ≤ length h → Waits (h ++ more) x n → Waits h x n
Waits-back h more x n within w = record {
  at = w.at;
  bytes = w.bytes;
  sent = At-back h more w.at (Sent w.bytes) w.sent (omega (arith, w.before, within));
  under = w.under;
  before = w.before;
  unanswered = λ j b at has after lt. w.unanswered j b (At-grow h more j (Delivered b) at) has after lt;
}

pub Answers-grow : (h more : List Entry) (n x : ℕ) (bytes : List ℕ) → Answers h n x bytes → Answers (h ++ more) n x bytes
Answers-grow h more n x bytes a =
    let below = At-below h n (Delivered bytes) a.got in
    record { got = At-grow h more n (Delivered bytes) a.got; under = a.under; waits = Waits-grow h more x n (omega (arith, below)) a.waits }

pub Drops-grow : (h more : List Entry) (n : ℕ) (bytes : List ℕ) → Drops h n bytes → Drops (h ++ more) n bytes
Drops-grow h more n bytes d =
    let below = At-below h n (Delivered bytes) d.got in
    record { got = At-grow h more n (Delivered bytes) d.got; idle = λ x has w. d.idle x has (Waits-back h more x n (omega (arith, below)) w) }

pub Heard-grow : (h more : List Entry) (from to : ℕ) (call : Call) (xid : ℕ) (bytes : List ℕ) → Heard h from to call xid bytes → Heard (h ++ more) from to call xid bytes
Heard-grow h more from to call xid bytes a = record {
  sent_at = a.sent_at;
  record_sent = a.record_sent;
  got_at = a.got_at;
  sent = FirstSent-grow h more a.sent_at xid a.record_sent a.sent;
  spells = a.spells;
  got = Answers-grow h more a.got_at xid bytes a.got;
  after = a.after;
  later = a.later;
  before = a.before;
}

-- what was heard between two places was heard between places further apart
pub Heard-wide : (h : List Entry) (from to less more : ℕ) (call : Call) (xid : ℕ) (bytes : List ℕ) → less ≤ from → to ≤ more → Heard h from to call xid bytes → Heard h less more call xid bytes
Heard-wide h from to less more call xid bytes p q a = record {
  sent_at = a.sent_at;
  record_sent = a.record_sent;
  got_at = a.got_at;
  sent = a.sent;
  spells = a.spells;
  got = a.got;
  after = omega (arith, p, a.after);
  later = a.later;
  before = omega (arith, q, a.before);
}

pub Asked-grow : (h more : List Entry) (from to : ℕ) (call : Call) (reply : Reply) → Asked h from to call reply → Asked (h ++ more) from to call reply
Asked-grow h more from to call reply a = record { xid = a.xid; bytes = a.bytes; heard = Heard-grow h more from to call a.xid a.bytes a.heard; spells = a.spells }

pub Asked-wide : (h : List Entry) (from to less more : ℕ) (call : Call) (reply : Reply) → less ≤ from → to ≤ more → Asked h from to call reply → Asked h less more call reply
Asked-wide h from to less more call reply p q a = record { xid = a.xid; bytes = a.bytes; heard = Heard-wide h from to less more call a.xid a.bytes p q a.heard; spells = a.spells }

pub Refused-grow : (h more : List Entry) (from to : ℕ) (call : Call) (fault : Fault) → Refused h from to call fault → Refused (h ++ more) from to call fault
Refused-grow h more from to call fault a = record { xid = a.xid; bytes = a.bytes; heard = Heard-grow h more from to call a.xid a.bytes a.heard; refuses = a.refuses }

pub Refused-wide : (h : List Entry) (from to less more : ℕ) (call : Call) (fault : Fault) → less ≤ from → to ≤ more → Refused h from to call fault → Refused h less more call fault
Refused-wide h from to less more call fault p q a = record { xid = a.xid; bytes = a.bytes; heard = Heard-wide h from to less more call a.xid a.bytes p q a.heard; refuses = a.refuses }

pub Committed-grow : (h more : List Entry) (from to : ℕ) (file : List ℕ) → Committed h from to file → Committed (h ++ more) from to file
Committed-grow h more from to file f = record { wcc = f.wcc; verf = f.verf; asked = Asked-grow h more from to _ _ f.asked }

-- ---- dropped records, and records that were sent

pub DropRun-grow : (h more : List Entry) (n to : ℕ) → to ≤ length h → DropRun h n to → DropRun (h ++ more) n to
DropRun-grow h more _ _ within (begins n to e) = begins n to e
DropRun-grow h more _ _ within (drops n to m at bytes e run d lt gap) =
    drops n to m at bytes e (DropRun-grow h more m at (omega (arith, lt, within)) run) (Drops-grow h more at bytes d) lt (λ j b there after before. gap j b (At-back h more j (Delivered b) there (omega (arith, before, within))) after before)

pub WasSent-grow : (h more : List Entry) (x to : ℕ) → WasSent h x to → WasSent (h ++ more) x to
WasSent-grow h more x to w = record { at = w.at; bytes = w.bytes; sent = At-grow h more w.at (Sent w.bytes) w.sent; under = w.under; before = w.before }

-- ---- the mount, and the size of WRITE

pub Rooted-grow : (origin : Origin) (h more : List Entry) (to : ℕ) (root : List ℕ) → Rooted origin h to root → Rooted origin (h ++ more) to root
Rooted-grow (Mounting path) h more to root r = (r.0, Asked-grow h more 0 to _ _ r.1)
Rooted-grow (Given given) h more to root r = r

pub Rooted-wide : (origin : Origin) (h : List Entry) (to more : ℕ) (root : List ℕ) → to ≤ more → Rooted origin h to root → Rooted origin h more root
Rooted-wide (Mounting path) h to more root le r = (r.0, Asked-wide h 0 to 0 more _ _ (omega arith) le r.1)
Rooted-wide (Given given) h to more root le r = r

pub Sized-grow : (h more : List Entry) (to : ℕ) (root : List ℕ) (size wsize : ℕ) → Sized h to root size wsize → Sized (h ++ more) to root size wsize
Sized-grow h more to root size wsize (told attr rtmax rtpref rtmult wtmax wtpref wtmult dtpref maxfilesize delta properties a e) =
    told attr rtmax rtpref rtmult wtmax wtpref wtmult dtpref maxfilesize delta properties (Asked-grow h more 0 to _ _ a) e
Sized-grow h more to root size wsize (untold fault r e) = untold fault (Refused-grow h more 0 to _ fault r) e

pub Sized-wide : (h : List Entry) (to more : ℕ) (root : List ℕ) (size wsize : ℕ) → to ≤ more → Sized h to root size wsize → Sized h more root size wsize
Sized-wide h to more root size wsize le (told attr rtmax rtpref rtmult wtmax wtpref wtmult dtpref maxfilesize delta properties a e) =
    told attr rtmax rtpref rtmult wtmax wtpref wtmult dtpref maxfilesize delta properties (Asked-wide h 0 to 0 more _ _ (omega arith) le a) e
Sized-wide h to more root size wsize le (untold fault r e) = untold fault (Refused-wide h 0 to 0 more _ fault (omega arith) le r) e
