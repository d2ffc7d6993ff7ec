use Rattle.std.proofs.Common.{[], None, Ok, Err, refl}
use Rattle.lane_session.specs.declared.top.End.{End}
use Rattle.lane_session.specs.Losing.{by_lanes}
use Rattle.lane_session.proofs.CoreEnds.{told-lost, told-lost-counted}
use Rattle.lane_session.proofs.LaneOrder.{by-empty, lanes-same}
use Rattle.lane_session.proofs.LostAdds.{told-loses}
use Rattle.lane_session.proofs.LostAnswers.{told-lost-stays}
use Rattle.lane_session.proofs.LostLaws.{lost-ends, lost-breaks, status-ends}
use Rattle.lane_session.proofs.Passing.{passes_less}
use Rattle.lane_session.proofs.Ports.{dials_loses}
use Rattle.lane_session.proofs.top.lose_all.Goals as goal

pub returns-in-Ok-clause-goes : goal.returns-in-Ok-clause-goes
returns-in-Ok-clause-goes g c =
    passes_less _ _ _ _ _ _ _ _ (λ given text h k p u. lost-ends (by_lanes 16 c.args.script.now) c.args.script.now (lanes-same c.args.script.now c.requires.asked) _ given text h k p.0 c.lost_status.ensures u p.1 p.2 p.3 p.4) c.in-Ok.ensures.goes

pub returns-in-Err-clause-goes : goal.returns-in-Err-clause-goes
returns-in-Err-clause-goes g c = passes_less _ _ _ _ _ _ _ _ (λ given text h k p u. lost-breaks (by_lanes 16 c.args.script.now) c.args.script.now (lanes-same c.args.script.now c.requires.asked) _ given text h k u p) c.in-Err.ensures.goes

pub returns-in-Ok-clause-ending : goal.returns-in-Ok-clause-ending
returns-in-Ok-clause-ending g c = status-ends c.args.script.now c.lost_status.result c.lost_status.ensures

pub returns-in-Ok-clause-core : goal.returns-in-Ok-clause-core
returns-in-Ok-clause-core g c = let p = c.in-Ok.ensures.goes in told-lost _ _ [] (by_lanes 16 c.args.script.now) p.given p.text (Ok tt) p.told

pub returns-in-Err-clause-core : goal.returns-in-Err-clause-core
returns-in-Err-clause-core g c = let p = c.in-Err.ensures.goes in told-lost _ _ [] (by_lanes 16 c.args.script.now) p.given p.text (Err c.in-Err.halt) p.told

pub returns-in-Ok-clause-stays_lost : goal.returns-in-Ok-clause-stays_lost
returns-in-Ok-clause-stays_lost g c = let p = c.in-Ok.ensures.goes in told-lost-stays _ _ [] (by_lanes 16 c.args.script.now) (Ok tt) p.given p.text p.told

pub returns-in-Err-clause-stays_lost : goal.returns-in-Err-clause-stays_lost
returns-in-Err-clause-stays_lost g c = let p = c.in-Err.ensures.goes in told-lost-stays _ _ [] (by_lanes 16 c.args.script.now) (Err c.in-Err.halt) p.given p.text p.told

pub returns-in-Ok-clause-loses : goal.returns-in-Ok-clause-loses
returns-in-Ok-clause-loses g c = let p = c.in-Ok.ensures.goes in told-loses _ _ [] (by_lanes 16 c.args.script.now) c.args.script.now (Ok tt) p.given p.text (by-empty 16 c.args.script.now) p.told

pub returns-in-Err-clause-loses : goal.returns-in-Err-clause-loses
returns-in-Err-clause-loses g c = let p = c.in-Err.ensures.goes in told-loses _ _ [] (by_lanes 16 c.args.script.now) c.args.script.now (Err c.in-Err.halt) p.given p.text (by-empty 16 c.args.script.now) p.told

pub returns-in-Ok-clause-counted : goal.returns-in-Ok-clause-counted
returns-in-Ok-clause-counted g c =
    let p = c.in-Ok.ensures.goes in
    let end : End = record { status = c.lost_status.result; tally = c.args.tally; pages = None } in
    told-lost-counted _ _ [] (by_lanes 16 c.args.script.now) p.given p.text end c.args.tally refl p.told

pub returns-in-Ok-clause-dials : goal.returns-in-Ok-clause-dials
returns-in-Ok-clause-dials g c = λ port. let p = c.in-Ok.ensures.goes in dials_loses port _ _ [] (by_lanes 16 c.args.script.now) (Ok tt) p.given p.text p.told

pub returns-in-Err-clause-dials : goal.returns-in-Err-clause-dials
returns-in-Err-clause-dials g c = λ port. let p = c.in-Err.ensures.goes in dials_loses port _ _ [] (by_lanes 16 c.args.script.now) (Err c.in-Err.halt) p.given p.text p.told
