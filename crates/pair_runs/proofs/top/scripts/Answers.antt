use Rattle.pair_runs.proofs.Leavings.{reads-both, says-unread}
use Rattle.pair_runs.proofs.top.scripts.Goals as goal

pub returns-clause-says : goal.returns-clause-says
returns-clause-says g c =
    reads-both _ _ _ _ _ _ c.as_slice.ensures.value c.in-Ok.ensures.read c.as_slice-2.ensures.value c.in-Ok-text_of.ensures.read c.both.result _ _ c.both.ensures.says
