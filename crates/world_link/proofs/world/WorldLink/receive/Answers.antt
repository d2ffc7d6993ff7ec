use Rattle.std.proofs.Common.{◌∙◌, arith}
use Rattle.world_link.proofs.ServerEntriesOnly.{goes_adds}
use Rattle.world_link.proofs.WorldTellsCalls.{receives_adds}
use Rattle.world_link.proofs.WorldKeepsContract.{hands_honest}
use Rattle.world_link.proofs.world.WorldLink.receive.Goals as goal

pub returns-then-is_err-clause-told : goal.returns-then-is_err-clause-told
returns-then-is_err-clause-told c = goes_adds _ _ c.turn_all.ensures.goes

pub returns-clause-told : goal.returns-clause-told
returns-clause-told c = receives_adds _ _ _ _ _ c.turn_all.ensures.goes c.hand_out.ensures.hands c.hand_out.ensures.memory

pub returns-clause-honest : goal.returns-clause-honest
returns-clause-honest c h = hands_honest _ _ _ c.hand_out.result c.hand_out.ensures.hands c.hand_out.ensures.memory (c.turn_all.ensures.stays h)

pub returns-clause-stays : goal.returns-clause-stays
returns-clause-stays c = λ first s. (receives_adds _ _ _ _ _ c.turn_all.ensures.goes c.hand_out.ensures.hands c.hand_out.ensures.memory).earlier 0 (omega arith) ∙ s

pub returns-then-is_err-clause-stays : goal.returns-then-is_err-clause-stays
returns-then-is_err-clause-stays c = λ first s. (goes_adds _ _ c.turn_all.ensures.goes).earlier 0 (omega arith) ∙ s
