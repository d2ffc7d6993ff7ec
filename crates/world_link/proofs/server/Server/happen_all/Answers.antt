use Rattle.std.proofs.Common.{rules, ◌∙◌}
use Rattle.world_link.proofs.ServerEntriesOnly.{then_goes}
use Rattle.world_link.proofs.TurnStaysHonest.{then_stays}
use Rattle.world_link.proofs.StepsInOrder.{happened_on}
use Rattle.world_link.proofs.EndsStayRight.{ends_then}
use Rattle.world_link.proofs.server.Server.happen_all.Goals as goal

pub returns-in_err-happen-clause-goes : goal.returns-in_err-happen-clause-goes
returns-in_err-happen-clause-goes c = then_goes _ _ _ c.loop-event.invariant.goes c.in_err-happen.ensures.goes

pub returns-in_err-happen-clause-stays : goal.returns-in_err-happen-clause-stays
returns-in_err-happen-clause-stays c = then_stays _ _ _ c.loop-event.invariant.stays c.in_err-happen.ensures.stays

pub loop-event-preserved : goal.loop-event-preserved
loop-event-preserved c = record {
  left = happened_on _ _ c.args.events.now c.loop-event.event-index c.event-item.result (search rules) c.event-item.is c.in_ok-happen.ensures.ok ∙ c.loop-event.invariant.left;
  goes = then_goes _ _ _ c.loop-event.invariant.goes c.in_ok-happen.ensures.goes;
  stays = then_stays _ _ _ c.loop-event.invariant.stays c.in_ok-happen.ensures.stays;
  ends = ends_then _ _ _ _ _ c.loop-event.invariant.ends c.in_ok-happen.ensures.ends (λ t. t);
}

pub returns-in_err-happen-clause-ends : goal.returns-in_err-happen-clause-ends
returns-in_err-happen-clause-ends c = ends_then _ _ _ _ _ c.loop-event.invariant.ends c.in_err-happen.ensures.ends (λ t. t)
