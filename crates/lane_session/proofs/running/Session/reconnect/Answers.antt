use Rattle.std.proofs.Common.{refl, ap, arith}
use Rattle.lane_session.specs.Bonds.{CoreGoes}
use Rattle.lane_session.specs.declared.running.Session.{Session}
use Rattle.lane_session.proofs.Passing.{relates_less, relates_same}
use Rattle.lane_session.proofs.Reaching.{core-same, core-redials, core-redials-cut, core-undialed}
use Rattle.lane_session.proofs.Redialing.{by-quietly}
use Rattle.lane_session.proofs.Ports.{keeps_none}
use Rattle.lane_session.proofs.running.Session.reconnect.Goals as goal

pub returns-then-self-eq0-clause-core : goal.returns-then-self-eq0-clause-core
returns-then-self-eq0-clause-core g c = relates_same (g.L.Link.told c.args.link.now) (CoreGoes c.args.self.now c.args.self.now) (λ h. core-same c.args.self.now h)

pub returns-in-Ok-true-clause-goes : goal.returns-in-Ok-true-clause-goes
returns-in-Ok-true-clause-goes g c = relates_less _ _ _ _ (λ h k r. by-quietly c.redial.result h k r) c.redial.ensures.goes

pub returns-in-Ok-true-clause-core : goal.returns-in-Ok-true-clause-core
returns-in-Ok-true-clause-core g c =
    let dialed = rw c.in-Ok-true.field-0-test at c.in-Ok-true.ensures in
    relates_less _ _ _ _ (λ h k r. core-redials c.args.self.now h k c.requires.due r) dialed.goes

pub returns-in-Ok-false-clause-goes : goal.returns-in-Ok-false-clause-goes
returns-in-Ok-false-clause-goes g c = relates_less _ _ _ _ (λ h k r. by-quietly c.redial.result h k r) c.redial.ensures.goes

pub returns-in-Ok-false-clause-core : goal.returns-in-Ok-false-clause-core
returns-in-Ok-false-clause-core g c =
    let dialed = rw c.in-Ok-false.field-0-test at c.in-Ok-false.ensures in
    let left = c.if-self-eq0.false in
    let told = c.requires.told (omega (arith, left)) in
    rw c.lose.ensures (relates_less _ _ _ _ (λ h k r. core-undialed c.args.self.now h k told c.requires.due r) dialed.goes)

pub returns-in-Err-clause-goes : goal.returns-in-Err-clause-goes
returns-in-Err-clause-goes g c = relates_less _ _ _ _ (λ h k r. by-quietly c.redial.result h k r) c.redial.ensures.goes

pub returns-in-Err-clause-core : goal.returns-in-Err-clause-core
returns-in-Err-clause-core g c = relates_less _ _ _ _ (λ h k r. core-redials-cut c.args.self.now h k c.requires.due r) c.in-Err.ensures.goes

pub returns-then-self-eq0-clause-dials : goal.returns-then-self-eq0-clause-dials
returns-then-self-eq0-clause-dials g c = keeps_none _ _

pub returns-in-Ok-true-clause-dials : goal.returns-in-Ok-true-clause-dials
returns-in-Ok-true-clause-dials g c = record { same = refl; only = c.redial.ensures.dials }

pub returns-in-Ok-false-clause-dials : goal.returns-in-Ok-false-clause-dials
returns-in-Ok-false-clause-dials g c = record { same = ap (λ (s : Session). s.port) c.lose.ensures; only = c.redial.ensures.dials }

pub returns-in-Err-clause-dials : goal.returns-in-Err-clause-dials
returns-in-Err-clause-dials g c = record { same = refl; only = c.redial.ensures.dials }
