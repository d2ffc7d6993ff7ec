use Rattle.std.proofs.Common.{ℕ, Bool, Option, refl, arith}
use Rattle.lane_session.proofs.Outcomes.{caused-later}
use Rattle.pair_ends.proofs.Calls.{spares-none}
use Rattle.pair_runs.specs.declared.client.State.TheVariants as states
use Rattle.pair_runs.proofs.AtEnds.{turn-off, turn-went}
use Rattle.pair_runs.proofs.Turning.{less-after, stands-after}
use Rattle.pair_runs.proofs.client.session_turn.Goals as goal

-- ---- the turn went

pub returns-in-Ok-clause-stands : goal.returns-in-Ok-clause-stands
returns-in-Ok-clause-stands g c = stands-after c.in-Ok.went c.status_after.result c.args.script.now c.take_turn.new.self c.status_after.ensures c.in-Ok.ensures.held

pub returns-in-Ok-clause-less : goal.returns-in-Ok-clause-less
returns-in-Ok-clause-less g c = less-after c.in-Ok.went c.status_after.result _ _ c.status_after.ensures c.in-Ok.ensures.less

pub returns-in-Ok-clause-same_reference : goal.returns-in-Ok-clause-same_reference
returns-in-Ok-clause-same_reference g c = (c.take_turn.ensures.stays c.args.end.now (refl, refl, spares-none _ _)).0

pub returns-in-Ok-clause-goes : goal.returns-in-Ok-clause-goes
returns-in-Ok-clause-goes g c =
    let s = c.take_turn.ensures.stays c.args.end.now (refl, refl, spares-none _ _) in
    turn-went c.args.end.now.side _ s.1 c.label.result.now c.label.ensures c.args.script.now c.requires.asked _ _ _ _ _ _ s.2 c.args.session.now c.take_turn.new.self c.in-Ok.ensures.dials c.in-Ok.went c.status_after.result
    c.status_after.ensures c.in-Ok.ensures.held.seated.sixteen c.in-Ok.ensures.idle c.in-Ok.ensures.quiet c.in-Ok.ensures.goes

-- ---- it was cut off

pub returns-in-Err-clause-same_reference : goal.returns-in-Err-clause-same_reference
returns-in-Err-clause-same_reference g c = (c.take_turn.ensures.stays c.args.end.now (refl, refl, spares-none _ _)).0

pub returns-in-Err-clause-cause : goal.returns-in-Err-clause-cause
returns-in-Err-clause-cause g c = caused-later Bool (Option ℕ) c.in-Err.halt _ _ _ (omega arith) c.in-Err.ensures.cause

pub returns-in-Err-clause-goes : goal.returns-in-Err-clause-goes
returns-in-Err-clause-goes g c =
    let s = c.take_turn.ensures.stays c.args.end.now (refl, refl, spares-none _ _) in
    turn-off c.args.end.now.side _ s.1 c.label.result.now c.label.ensures c.args.script.now c.requires.asked _ _ _ _ _ _ s.2 c.args.session.now c.take_turn.new.self c.in-Err.ensures.dials (Option ℕ) c.in-Err.halt
    (states.Open c.take_turn.new.self) c.in-Err.ensures.goes
