use Rattle.std.proofs.Common.{◌∙◌}
use Rattle.fetch_scripts.proofs.Givings.{others-gave}
use Rattle.fetch_scripts.proofs.taking_names.take_unseen.Goals as goal

pub loop-path-preserved : goal.loop-path-preserved
loop-path-preserved g c = record {
  took = others-gave _ _ _ c.loop-path.invariant.took c.in_ok-take_seen.ensures.took;
  from = c.in_ok-take_seen.ensures.from ∙ c.loop-path.invariant.from;
}
