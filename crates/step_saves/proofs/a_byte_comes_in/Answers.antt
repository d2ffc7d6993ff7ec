use Rattle.std.specs.Prelude.{◌≡◌, true}
use Rattle.step_saves.specs.Accounts.{Told}
use Rattle.step_saves.proofs.AccountSteps.{own-known}
use Rattle.step_saves.proofs.a_byte_comes_in.Goals as goal

pub returns : goal.returns
returns c = λ file place byte number wrote done offset bytes old new sound on inside has. own-known file place byte number (Told wrote) (done ≡ true) offset bytes old new sound on inside has
