-- What the sending of a record leaves of a session.
use Rattle.std.proofs.Common.{◌≤◌, ℕ, List, Option, Some, refl, sym, subst}
use Rattle.client_core.specs.Steps.{SendsBy}
use Rattle.client_core.specs.View.{View}
use Rattle.core_facts.proofs.Cases.{sent_now}
use Rattle.lane_session.specs.declared.counts.Counts.{Counts}
use Rattle.lane_session.specs.declared.running.Session.{Session}
use Rattle.lane_session.specs.Holding.{HeadSent, IsLive}
use Rattle.lane_session.specs.Running.{Exchanges, Breaks, Sends, Fails, NoneOver}
use Rattle.lane_session.proofs.Alive.{head-of-sent}
use Rattle.lane_session.proofs.Resending.{fails-due}
use Rattle.lane_session.proofs.Trying.{fails-on, fails-told, sends-on, sends-exchange, sends-told}

pub sends-core : (old : Session) (result : Option (List ℕ)) (core : View) (counts : Counts) → IsLive old → SendsBy old.core result core → Sends old (record old { core = core; counts = counts })
sends-core old result core counts live t = sends-on old result core (record old { core = core; counts = counts }) live t refl refl refl refl refl refl refl

-- the link failed
pub sends-fails : (old : Session) (result : Option (List ℕ)) (core : View) (counts : Counts) (new : Session) → 1 ≤ old.attempts → IsLive old → SendsBy old.core result core
    → HeadSent core.calls.calls → Fails (record old { core = core; counts = counts }) new → Exchanges old new
sends-fails old result core counts new some live t head f =
    let s = sends-core old result core counts live t in
    sends-exchange old (record old { core = core; counts = counts }) new s (fails-on (record old { core = core; counts = counts }) new some s.live head f)

pub sends-breaks : (old : Session) (result : Option (List ℕ)) (core : View) (counts : Counts) (new : Session) → 1 ≤ old.attempts → IsLive old → NoneOver old.core → SendsBy old.core result core
    → HeadSent core.calls.calls → Fails (record old { core = core; counts = counts }) new → Breaks old new
sends-breaks old result core counts new some live told t head f = record {
  exchanges = sends-fails old result core counts new some live t head f;
  told = fails-told (record old { core = core; counts = counts }) new f
      (sends-told old (record old { core = core; counts = counts }) (sends-core old result core counts live t) told);
  due = fails-due core f.result new.core f.core;
}

-- the oldest call that waits was sent, or another after it
pub sent-head : (old : View) (rec : List ℕ) (new : View) → SendsBy old (Some rec) new → HeadSent new.calls.calls
sent-head old rec new t = let n = sent_now old rec new t in subst (λ (v : View). HeadSent v.calls.calls) (sym n.is) (head-of-sent old.calls.calls (n.xid, n.call) n.due)
