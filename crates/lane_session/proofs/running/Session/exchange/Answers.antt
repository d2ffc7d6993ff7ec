use Rattle.std.proofs.Common.{arith}
use Rattle.lane_session.proofs.Alive.{head-sent}
use Rattle.lane_session.proofs.Outcomes.{ok-map}
use Rattle.lane_session.proofs.Passing.{relates_then}
use Rattle.lane_session.proofs.Quiets.{quiet_then}
use Rattle.lane_session.proofs.Reaching.{core-then-by}
use Rattle.lane_session.proofs.Trying.{redialed-on, sends-told}
use Rattle.lane_session.proofs.Ports.{keeps_then}
use Rattle.lane_session.proofs.running.Session.exchange.Goals as goal

pub returns-then-went-clause-goes : goal.returns-then-went-clause-goes
returns-then-went-clause-goes g c = quiet_then _ _ _ c.in-Ok.ensures.goes c.hear.ensures.goes

pub returns-else-went-clause-exchanges : goal.returns-else-went-clause-exchanges
returns-else-went-clause-exchanges g c =
    let ended = rw c.if-went.false at c.in-Ok.ensures.sends in
    ok-map c.reconnect.result _ _ (λ r. redialed-on c.args.self.now c.send_all.new.self c.reconnect.new.self ended.exchanges r) c.reconnect.ensures.redials

pub returns-else-went-clause-goes : goal.returns-else-went-clause-goes
returns-else-went-clause-goes g c = quiet_then _ _ _ c.in-Ok.ensures.goes c.reconnect.ensures.goes

pub returns-then-went-clause-core : goal.returns-then-went-clause-core
returns-then-went-clause-core g c =
    relates_then _ _ _ _ _ _ (λ h k l p q. core-then-by c.args.self.now c.send_all.new.self c.hear.new.self c.hear.result h k l p q) c.in-Ok.ensures.core c.hear.ensures.core

pub returns-else-went-clause-core : goal.returns-else-went-clause-core
returns-else-went-clause-core g c =
    relates_then _ _ _ _ _ _ (λ h k l p q. core-then-by c.args.self.now c.send_all.new.self c.reconnect.new.self c.reconnect.result h k l p q) c.in-Ok.ensures.core c.reconnect.ensures.core

pub returns-then-went-clause-dials : goal.returns-then-went-clause-dials
returns-then-went-clause-dials g c = keeps_then _ _ _ _ _ _ c.in-Ok.ensures.dials c.hear.ensures.dials

pub returns-else-went-clause-dials : goal.returns-else-went-clause-dials
returns-else-went-clause-dials g c = keeps_then _ _ _ _ _ _ c.in-Ok.ensures.dials c.reconnect.ensures.dials

pub reconnect-requires : goal.reconnect-requires
reconnect-requires g c =
    let ended = rw c.if-went.false at c.in-Ok.ensures.sends in
    record { told = ended.told; due = ended.due }

pub hear-requires : goal.hear-requires
hear-requires g c =
    let gone = rw c.if-went.true at c.in-Ok.ensures.sends in
    record {
      live = gone.0.live;
      some = let a = gone.0.tries.attempts in let some = c.requires.some in omega (arith, a, some);
      told = sends-told c.args.self.now c.send_all.new.self gone.0 c.requires.told;
      sent = gone.1;
      head = head-sent c.send_all.new.self.core.calls.calls (gone.0.waits c.requires.waits) gone.2;
      none = gone.2;
    }
