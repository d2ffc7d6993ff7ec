use Rattle.model_walks.proofs.SmallRunLawful.{is_lawful, is_fresh, is_rising}
use Rattle.model_walks.proofs.small_run_is_lawful.Goals as goal

pub returns-clause-honest : goal.returns-clause-honest
returns-clause-honest c = λ mode dir attr r kind file size. is_lawful mode dir attr r kind file size

pub returns-clause-fresh : goal.returns-clause-fresh
returns-clause-fresh c = λ mode dir attr r. is_fresh mode dir attr r

pub returns-clause-rising : goal.returns-clause-rising
returns-clause-rising c = λ mode dir attr r. is_rising mode dir attr r
