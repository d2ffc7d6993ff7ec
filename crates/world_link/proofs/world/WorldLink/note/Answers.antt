use Rattle.std.proofs.Common.{◌∙◌, arith}
use Rattle.world_link.proofs.WorldTellsCalls.{notes_append}
use Rattle.world_link.proofs.WorldKeepsContract.{notes_honest}
use Rattle.world_link.proofs.world.WorldLink.note.Goals as goal

pub returns-clause-told : goal.returns-clause-told
returns-clause-told c = notes_append _ _ c.args.mark c.note_mark.result c.note_mark.ensures.exact

pub returns-clause-honest : goal.returns-clause-honest
returns-clause-honest c = notes_honest _ _ c.args.mark c.note_mark.result c.note_mark.ensures.exact

pub returns-clause-stays : goal.returns-clause-stays
returns-clause-stays c = λ first s. (notes_append _ _ c.args.mark c.note_mark.result c.note_mark.ensures.exact).earlier 0 (omega arith) ∙ s
