use Rattle.std.proofs.Common.{refl}
use Rattle.std.proofs.lemmas.Bool.{OnTrue_at}
use Rattle.client_core.proofs.work.Work.stir.Goals as goal

pub returns-then-rests_at-clause-stirs : goal.returns-then-rests_at-clause-stirs
returns-then-rests_at-clause-stirs c = (refl, OnTrue_at c.if-rests_at.true c.rests_at.ensures)
