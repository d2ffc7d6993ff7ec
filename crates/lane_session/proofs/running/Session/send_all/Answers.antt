use Rattle.lane_session.specs.Bonds.{CoreGoes}
use Rattle.lane_session.proofs.Passing.{relates_same, relates_then}
use Rattle.lane_session.proofs.Quiets.{quiet_same, quiet_then}
use Rattle.lane_session.proofs.Reaching.{core-same, core-then, core-then-cut}
use Rattle.lane_session.proofs.Trying.{sends-none, sends-then, sends-told, sends-breaks-off}
use Rattle.lane_session.proofs.Ports.{keeps_none, keeps_then}
use Rattle.lane_session.proofs.running.Session.send_all.Goals as goal

pub returns-in-Nothing-clause-goes : goal.returns-in-Nothing-clause-goes
returns-in-Nothing-clause-goes g c = quiet_then _ _ _ c.sending.invariant.goes c.in-Ok.ensures.goes

pub sending-preserved : goal.sending-preserved
sending-preserved g c =
    let one = rw c.in-Went.is at c.in-Ok.ensures.sends in
    record {
      sends = sends-then c.args.self.now c.sending.self c.send_next.new.self c.sending.invariant.sends one.0;
      goes = quiet_then _ _ _ c.sending.invariant.goes c.in-Ok.ensures.goes;
      core = relates_then _ _ _ _ _ _ (λ h k l p q. core-then c.args.self.now c.sending.self c.send_next.new.self h k l p q) c.sending.invariant.core c.in-Ok.ensures.core;
      dials = keeps_then _ _ _ _ _ _ c.sending.invariant.dials c.in-Ok.ensures.dials;
      stays = λ first s. c.in-Ok.ensures.stays first (c.sending.invariant.stays first s);
      honest = λ h. c.in-Ok.ensures.honest (c.sending.invariant.honest h);
    }

pub returns-in-Failed-clause-sends : goal.returns-in-Failed-clause-sends
returns-in-Failed-clause-sends g c =
    let broken = rw c.in-Failed.is at c.in-Ok.ensures.sends in
    sends-breaks-off c.args.self.now c.sending.self c.send_next.new.self c.sending.invariant.sends broken

pub returns-in-Failed-clause-goes : goal.returns-in-Failed-clause-goes
returns-in-Failed-clause-goes g c = quiet_then _ _ _ c.sending.invariant.goes c.in-Ok.ensures.goes

pub returns-in-Err-clause-goes : goal.returns-in-Err-clause-goes
returns-in-Err-clause-goes g c = quiet_then _ _ _ c.sending.invariant.goes c.in-Err.ensures.goes

pub sending-init : goal.sending-init
sending-init g c = record {
  sends = sends-none c.args.self.now c.requires.live;
  goes = quiet_same _;
  core = relates_same (g.L.Link.told c.args.link.now) (CoreGoes c.args.self.now c.args.self.now) (λ h. core-same c.args.self.now h);
  dials = keeps_none _ _;
  stays = λ first s. s;
  honest = λ h. h;
}

pub returns-in-Nothing-clause-core : goal.returns-in-Nothing-clause-core
returns-in-Nothing-clause-core g c =
    relates_then _ _ _ _ _ _ (λ h k l p q. core-then c.args.self.now c.sending.self c.send_next.new.self h k l p q) c.sending.invariant.core c.in-Ok.ensures.core

pub returns-in-Failed-clause-core : goal.returns-in-Failed-clause-core
returns-in-Failed-clause-core g c =
    relates_then _ _ _ _ _ _ (λ h k l p q. core-then c.args.self.now c.sending.self c.send_next.new.self h k l p q) c.sending.invariant.core c.in-Ok.ensures.core

pub returns-in-Err-clause-core : goal.returns-in-Err-clause-core
returns-in-Err-clause-core g c =
    relates_then _ _ _ _ _ _ (λ h k l p q. core-then-cut c.args.self.now c.sending.self h k l p q) c.sending.invariant.core c.in-Err.ensures.core

pub returns-in-Nothing-clause-dials : goal.returns-in-Nothing-clause-dials
returns-in-Nothing-clause-dials g c = keeps_then _ _ _ _ _ _ c.sending.invariant.dials c.in-Ok.ensures.dials

pub returns-in-Failed-clause-dials : goal.returns-in-Failed-clause-dials
returns-in-Failed-clause-dials g c = keeps_then _ _ _ _ _ _ c.sending.invariant.dials c.in-Ok.ensures.dials

pub returns-in-Err-clause-dials : goal.returns-in-Err-clause-dials
returns-in-Err-clause-dials g c = keeps_then _ _ _ _ _ _ c.sending.invariant.dials c.in-Err.ensures.dials

pub send_next-requires-clause-told : goal.send_next-requires-clause-told
send_next-requires-clause-told g c = sends-told c.args.self.now c.sending.self c.sending.invariant.sends c.requires.told
