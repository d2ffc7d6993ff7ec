use Rattle.std.proofs.Common.{◌∙◌, arith}
use Rattle.world_link.proofs.WorldTellsCalls.{sends_adds}
use Rattle.world_link.proofs.WorldKeepsContract.{sends_honest}
use Rattle.world_link.proofs.world.WorldLink.send.Goals as goal

pub returns-clause-told : goal.returns-clause-told
returns-clause-told c = rw (← c.bytes.ensures) (sends_adds _ _ c.bytes.result.now c.send_record.result c.send_record.ensures.exact)

pub returns-clause-honest : goal.returns-clause-honest
returns-clause-honest c = sends_honest _ _ c.bytes.result.now c.send_record.result c.send_record.ensures.exact

pub returns-clause-stays : goal.returns-clause-stays
returns-clause-stays c = λ first s. (sends_adds _ _ c.bytes.result.now c.send_record.result c.send_record.ensures.exact).earlier 0 (omega arith) ∙ s
