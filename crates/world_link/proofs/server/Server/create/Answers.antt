use Rattle.world_link.proofs.ServerEntriesOnly.{then_goes}
use Rattle.world_link.proofs.TurnStaysHonest.{then_stays}
use Rattle.world_link.proofs.EndsStayRight.{ends_then}
use Rattle.world_link.proofs.server.Server.create.Goals as goal

pub returns-then-not-is_empty-clause-goes : goal.returns-then-not-is_empty-clause-goes
returns-then-not-is_empty-clause-goes c = then_goes _ _ _ c.in_ok-made.ensures.goes c.write.ensures.goes

pub returns-then-not-is_empty-clause-stays : goal.returns-then-not-is_empty-clause-stays
returns-then-not-is_empty-clause-stays c = then_stays _ _ _ c.in_ok-made.ensures.stays c.write.ensures.stays

pub returns-then-not-is_empty-clause-ends : goal.returns-then-not-is_empty-clause-ends
returns-then-not-is_empty-clause-ends c = ends_then _ _ _ _ _ c.in_ok-made.ensures.ends c.write.ensures.ends (λ t. t)
