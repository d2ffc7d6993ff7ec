use Rattle.std.proofs.Common.{Some}
use Rattle.world_link.specs.Fates.{FateView}
use Rattle.world_link.proofs.FateMap.{redestined}
use Rattle.world_link.proofs.plan.Plan.answer.Goals as goal

pub returns : goal.returns
returns c = redestined _ _ _ _ c.args.sending _ _ (λ (f : FateView). record f { answer = Some c.args.status }) c.take-fate.ensures.taken c.take-fate.ensures.left c.set_answer.ensures c.put.ensures
