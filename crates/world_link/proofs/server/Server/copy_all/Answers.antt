use Rattle.std.proofs.Common.{rules, ◌∙◌}
use Rattle.world_link.proofs.ServerEntriesOnly.{then_goes}
use Rattle.world_link.proofs.TurnStaysHonest.{then_stays}
use Rattle.world_link.proofs.StepsInOrder.{copied_next}
use Rattle.world_link.proofs.EndsStayRight.{ends_then}
use Rattle.world_link.proofs.server.Server.copy_all.Goals as goal

pub returns-in_err-copy-clause-goes : goal.returns-in_err-copy-clause-goes
returns-in_err-copy-clause-goes c = then_goes _ _ _ c.loop-sending.invariant.goes c.in_err-copy.ensures.goes

pub returns-in_err-copy-clause-stays : goal.returns-in_err-copy-clause-stays
returns-in_err-copy-clause-stays c = then_stays _ _ _ c.loop-sending.invariant.stays c.in_err-copy.ensures.stays

pub loop-sending-preserved : goal.loop-sending-preserved
loop-sending-preserved c = record {
  left = copied_next _ _ c.args.sendings.now c.loop-sending.sending-index _ c.in_ok-copy.ensures.ok (search rules) (search rules) ∙ c.loop-sending.invariant.left;
  goes = then_goes _ _ _ c.loop-sending.invariant.goes c.in_ok-copy.ensures.goes;
  stays = then_stays _ _ _ c.loop-sending.invariant.stays c.in_ok-copy.ensures.stays;
  ends = ends_then _ _ _ _ _ c.loop-sending.invariant.ends c.in_ok-copy.ensures.ends (λ t. t);
}

pub returns-in_err-copy-clause-ends : goal.returns-in_err-copy-clause-ends
returns-in_err-copy-clause-ends c = ends_then _ _ _ _ _ c.loop-sending.invariant.ends c.in_err-copy.ensures.ends (λ t. t)
