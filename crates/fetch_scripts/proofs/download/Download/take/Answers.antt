use Rattle.fetch_scripts.proofs.Nexts.{take-gave}
use Rattle.fetch_scripts.proofs.download.Download.take.Goals as goal

pub returns : goal.returns
returns g c = take-gave _ _ _ _ c.take_names.result _ _ _ c.in_ok-take_files.ensures.took c.in_ok-take_files.ensures.rest c.take_names.ensures.took c.take_names.ensures.rest
