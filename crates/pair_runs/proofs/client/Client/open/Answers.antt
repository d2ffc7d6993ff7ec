use Rattle.std.proofs.lemmas.Result.{err_from_is_err_and}
use Rattle.pair_runs.proofs.client.Client.open.Goals as goal

pub returns-clause-ready : goal.returns-clause-ready
returns-clause-ready g c = record { asked = c.requires.asked; few = c.requires.few; stands = c.in_ok-state.ensures.stands }

pub returns-in_err-state-clause-opens : goal.returns-in_err-state-clause-opens
returns-in_err-state-clause-opens g c =
    let p = err_from_is_err_and c.from_residual.result c.from_residual.ensures.1 in
    rw p.1 c.in_err-state.ensures.opens
