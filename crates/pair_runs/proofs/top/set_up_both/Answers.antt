use Rattle.std.proofs.Common.{◌≡◌, [], Ok, Err}
use Rattle.std.proofs.lemmas.Result.{err_from_is_err_and}
use Rattle.pair_runs.specs.declared.turns.Pair.{Pair}
use Rattle.pair_runs.specs.PairGoing.{OpensAt, PairOpens}
use Rattle.pair_runs.proofs.Leavings.{both-open, first-unopened, second-unopened}
use Rattle.pair_runs.proofs.Passages.{both-less, both-then}
use Rattle.pair_runs.proofs.top.set_up_both.Goals as goal

pub returns-in-Ok-clause-ready : goal.returns-in-Ok-clause-ready
returns-in-Ok-clause-ready g c = record { a = c.in_ok-a.ensures.ready; b = c.in-Ok.ensures.ready; first = c.in_ok-a.ensures.made.0; second = c.in-Ok.ensures.made.0 }

pub returns-in-Ok-clause-made : goal.returns-in-Ok-clause-made
returns-in-Ok-clause-made g c = (c.in_ok-a.ensures.made.1, c.in-Ok.ensures.made.1)

pub returns-in-Ok-clause-opens : goal.returns-in-Ok-clause-opens
returns-in-Ok-clause-opens g c =
    let pair : Pair = record { a = c.in_ok-a.a; b = c.in-Ok.b } in
    both-then _ _ _ (OpensAt 0 1 c.args.first (Ok c.in_ok-a.a.state)) (OpensAt 1 1073741825 c.args.second (Ok c.in-Ok.b.state)) (λ h l. h.steps ≡ [] → PairOpens c.args.first c.args.second (Ok pair) h l)
    (λ h k l x y none. both-open c.args.first c.args.second h k l none pair c.in_ok-a.ensures.made.1 c.in-Ok.ensures.made.1 x y) c.in_ok-a.ensures.opens c.in-Ok.ensures.opens

pub returns-in_err-a-clause-opens : goal.returns-in_err-a-clause-opens
returns-in_err-a-clause-opens g c =
    let p = err_from_is_err_and c.from_residual.result c.from_residual.ensures.1 in
    rw p.1 (both-less _ _ (OpensAt 0 1 c.args.first (Err p.0)) (λ h k. h.steps ≡ [] → PairOpens c.args.first c.args.second (Err p.0) h k)
    (λ h k x none. first-unopened c.args.first c.args.second h k k none p.0 x) c.in_err-a.ensures.opens)

pub returns-in-Err-clause-opens : goal.returns-in-Err-clause-opens
returns-in-Err-clause-opens g c =
    both-then _ _ _ (OpensAt 0 1 c.args.first (Ok c.in_ok-a.a.state)) (OpensAt 1 1073741825 c.args.second (Err c.in-Err.memory)) (λ h l. h.steps ≡ [] → PairOpens c.args.first c.args.second (Err c.in-Err.memory) h l)
    (λ h k l x y none. second-unopened c.args.first c.args.second h k l none c.in-Err.memory c.in_ok-a.a c.in_ok-a.ensures.made.1 c.in_ok-a.ensures.ready x y) c.in_ok-a.ensures.opens c.in-Err.ensures.opens
