use Rattle.std.specs.Prelude.{◌≡◌, true}
use Rattle.step_saves.specs.Accounts.{Told}
use Rattle.step_saves.proofs.AccountSteps.{adds-known, cuts-known, gives-known}
use Rattle.step_saves.proofs.others_account_for_it.Goals as goal

pub returns-clause-adds : goal.returns-clause-adds
returns-clause-adds c = λ file place byte number wrote done. adds-known file place byte number (Told wrote) (done ≡ true)

pub returns-clause-cuts : goal.returns-clause-cuts
returns-clause-cuts c = λ file place byte number wrote done. cuts-known file place byte number (Told wrote) (done ≡ true)

pub returns-clause-gives : goal.returns-clause-gives
returns-clause-gives c = λ file place byte number wrote done. gives-known file place byte number (Told wrote) (done ≡ true)
