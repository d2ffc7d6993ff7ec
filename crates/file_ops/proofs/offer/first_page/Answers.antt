use Rattle.std.proofs.lemmas.List.{take_min}
use Rattle.file_ops.proofs.offer.first_page.Goals as goal

pub returns-clause-page : goal.returns-clause-page
returns-clause-page c = rw c.min-size.ensures (take_min 4096 c.args.told.now)
