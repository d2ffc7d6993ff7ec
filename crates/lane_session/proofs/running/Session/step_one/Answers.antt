use Rattle.std.proofs.Common.{arith, refl}
use Rattle.lane_session.proofs.Passing.{passes_same}
use Rattle.lane_session.proofs.Reaching.{core-same}
use Rattle.lane_session.proofs.Turning.{goes-none}
use Rattle.lane_session.proofs.Ports.{keeps_none}
use Rattle.lane_session.proofs.Turns.{marks_none}
use Rattle.lane_session.proofs.running.Session.step_one.Goals as goal

pub returns-then-rests-clause-steps : goal.returns-then-rests-clause-steps
returns-then-rests-clause-steps g c = record { core = refl; tries = record { attempts = refl; dropped = refl }; lines = omega arith; quiet = c.if-rests.ensures }

pub returns-then-rests-clause-goes : goal.returns-then-rests-clause-goes
returns-then-rests-clause-goes g c = passes_same _ _ _ _ (λ h. goes-none c.args.label.now c.args.script.now c.args.self.now c.args.self.now h refl refl (core-same c.args.self.now h))

pub returns-then-rests-clause-marks : goal.returns-then-rests-clause-marks
returns-then-rests-clause-marks g c = marks_none _

pub returns-then-rests-clause-dials : goal.returns-then-rests-clause-dials
returns-then-rests-clause-dials g c = keeps_none _ _
