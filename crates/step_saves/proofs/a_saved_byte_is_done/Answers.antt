use Rattle.std.specs.Prelude.{◌≡◌, true}
use Rattle.step_saves.specs.Accounts.{Told}
use Rattle.step_saves.proofs.AccountSteps.{clear-known}
use Rattle.step_saves.proofs.a_saved_byte_is_done.Goals as goal

pub returns : goal.returns
returns c = λ file place byte number wrote done upto back clear old known. clear-known file place byte number (Told wrote) (done ≡ true) upto back clear old known
