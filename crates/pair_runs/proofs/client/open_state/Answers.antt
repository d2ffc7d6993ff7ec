use Rattle.std.proofs.Common.{◌≡◌, Ok, Err, subst, rules}
use Rattle.pair_ends.specs.Ends.{number_of}
use Rattle.pair_runs.specs.PairGoing.{OpensAt}
use Rattle.pair_runs.specs.PairRuns.{PairRelates}
use Rattle.pair_runs.proofs.Openings.{opens-at}
use Rattle.pair_runs.proofs.Sessions.{low-end}
use Rattle.pair_runs.proofs.client.open_state.Goals as goal

pub returns-in-Ok-clause-opens : goal.returns-in-Ok-clause-opens
returns-in-Ok-clause-opens g c =
    let same : c.set_up_at.new.end.link.now ≡ c.link-1.given.0 = search rules in
    subst (λ l. PairRelates (g.P.PairLink.told c.args.link.now) (g.P.PairLink.told l) (OpensAt (number_of c.args.side) c.args.first_xid c.args.script.now c.begin.result)) same
    (opens-at (number_of c.args.side) c.args.first_xid c.args.script.now (Ok c.in-Ok.ready) c.begin.result _ _ (low-end c.args.side) c.begin.ensures.opened c.in-Ok.ensures.opens)

-- ---- it wasn't set up

pub returns-clause-stands : goal.returns-clause-stands
returns-clause-stands g c = c.unopened.ensures.stands c.args.script.now

pub returns-clause-opens : goal.returns-clause-opens
returns-clause-opens g c =
    let same : c.set_up_at.new.end.link.now ≡ c.link-1.given.0 = search rules in
    subst (λ l. PairRelates (g.P.PairLink.told c.args.link.now) (g.P.PairLink.told l) (OpensAt (number_of c.args.side) c.args.first_xid c.args.script.now c.unopened.result)) same
    (opens-at (number_of c.args.side) c.args.first_xid c.args.script.now (Err c.in-Err.fault) c.unopened.result _ _ (low-end c.args.side)
    (c.unopened.ensures.opened c.args.first_xid c.args.script.now) c.in-Err.ensures.opens)
