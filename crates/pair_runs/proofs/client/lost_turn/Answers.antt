use Rattle.std.proofs.Common.{ℕ, Option, Some, refl, arith}
use Rattle.lane_session.proofs.Outcomes.{caused-later}
use Rattle.pair_ends.proofs.Calls.{spares-none}
use Rattle.pair_runs.specs.declared.client.State.TheVariants as states
use Rattle.pair_runs.proofs.AtEnds.{lose-off, lose-on}
use Rattle.pair_runs.proofs.Turning.{lost-stands, some-never}
use Rattle.pair_runs.proofs.client.lost_turn.Goals as goal

pub returns-in-Ok-clause-stands : goal.returns-in-Ok-clause-stands
returns-in-Ok-clause-stands g c = lost-stands c.args.script.now c.of_lost.result c.of_lost.ensures

pub returns-in-Ok-clause-some : goal.returns-in-Ok-clause-some
returns-in-Ok-clause-some g c = some-never c.of_lost.result

pub returns-in-Ok-clause-same_reference : goal.returns-in-Ok-clause-same_reference
returns-in-Ok-clause-same_reference g c = (c.lose_lines.ensures.stays c.args.end.now (refl, refl, spares-none _ _)).0

pub returns-in-Ok-clause-goes : goal.returns-in-Ok-clause-goes
returns-in-Ok-clause-goes g c =
    let s = c.lose_lines.ensures.stays c.args.end.now (refl, refl, spares-none _ _) in
    lose-on c.args.end.now.side _ s.1 c.label.result.now c.label.ensures c.args.script.now c.requires.asked _ _ _ _ _ _ s.2 (Some c.of_lost.result) tt c.of_lost.result c.of_lost.ensures c.in-Ok.ensures.goes

-- ---- it was cut off

pub returns-in-Err-clause-same_reference : goal.returns-in-Err-clause-same_reference
returns-in-Err-clause-same_reference g c = (c.lose_lines.ensures.stays c.args.end.now (refl, refl, spares-none _ _)).0

pub returns-in-Err-clause-cause : goal.returns-in-Err-clause-cause
returns-in-Err-clause-cause g c = caused-later (Unit {0}) (Option ℕ) c.in-Err.halt _ _ _ (omega arith) c.in-Err.ensures.cause

pub returns-in-Err-clause-goes : goal.returns-in-Err-clause-goes
returns-in-Err-clause-goes g c =
    let s = c.lose_lines.ensures.stays c.args.end.now (refl, refl, spares-none _ _) in
    lose-off c.args.end.now.side _ s.1 c.label.result.now c.label.ensures c.args.script.now c.requires.asked _ _ _ _ _ _ s.2 (Option ℕ) c.in-Err.halt states.Lost c.in-Err.ensures.goes
