use Rattle.std.specs.Prelude.{◌≡◌, true}
use Rattle.step_saves.specs.Accounts.{Told}
use Rattle.step_saves.proofs.AccountSteps.{goes-known, takes-known}
use Rattle.step_saves.proofs.a_save_accounts_for_it.Goals as goal

pub returns-clause-goes : goal.returns-clause-goes
returns-clause-goes c =
    λ file place byte number wrote done wsize turn by_reply s back next new after sound known g.
    goes-known file place byte number (Told wrote) (done ≡ true) wsize turn.xid turn.room by_reply s back next new after sound known g

pub returns-clause-takes : goal.returns-clause-takes
returns-clause-takes c =
    λ file place byte number wrote done wsize sent turn came repeats s back next new after later sound known writes commits t.
    takes-known file place byte number (Told wrote) (done ≡ true) wsize sent turn came repeats s back next new after later sound known writes commits t
