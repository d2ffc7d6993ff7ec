use Rattle.std.proofs.Common.{arith, refl}
use Rattle.lane_session.proofs.Passing.{passes_same}
use Rattle.lane_session.proofs.Reaching.{core-same}
use Rattle.lane_session.proofs.Turning.{goes-none}
use Rattle.lane_session.proofs.Ports.{keeps_none}
use Rattle.lane_session.proofs.Turns.{marks_none}
use Rattle.lane_session.proofs.running.Session.step_from.Goals as goal

pub returns-then-waits-clause-steps : goal.returns-then-waits-clause-steps
returns-then-waits-clause-steps g c = record { core = refl; tries = record { attempts = refl; dropped = refl }; lines = omega arith; quiet = c.if-waits.ensures c.args.script.now; others = λ n other. refl }

pub returns-then-waits-clause-goes : goal.returns-then-waits-clause-goes
returns-then-waits-clause-goes g c = passes_same _ _ _ _ (λ h. goes-none c.args.label.now c.args.script.now c.args.self.now c.args.self.now h refl refl (core-same c.args.self.now h))

pub returns-then-waits-clause-marks : goal.returns-then-waits-clause-marks
returns-then-waits-clause-marks g c = marks_none _

pub returns-then-waits-clause-dials : goal.returns-then-waits-clause-dials
returns-then-waits-clause-dials g c = keeps_none _ _
