use Rattle.std.proofs.Common.{refl, arith}
use Rattle.std.proofs.lemmas.Result.{err_from_is_err_and}
use Rattle.script_runs.proofs.LaneRuns.{may_set_up}
use Rattle.lane_session.proofs.Ending.{fresh-held}
use Rattle.pair_runs.proofs.Options.{calls-of}
use Rattle.pair_runs.proofs.Openings.{opens-by, opens-nothing}
use Rattle.pair_runs.proofs.client.begin.Goals as goal

pub returns-in-Ok-clause-stands : goal.returns-in-Ok-clause-stands
returns-in-Ok-clause-stands c =
    let n = calls-of c.args.settings.now c.requires.settings in
    let last = c.requires.last in
    fresh-held c.args.script.now c.args.settings.now _ c.in-Ok.session c.in-Ok.ensures.fresh c.requires.few
    (may_set_up c.args.settings.now c.args.first_xid c.args.ready.now _ c.requires.first (omega (arith, n, last)) c.requires.fits refl refl refl refl)

pub returns-in-Ok-clause-opened : goal.returns-in-Ok-clause-opened
returns-in-Ok-clause-opened c = λ h so.
    opens-by c.args.settings.now c.args.first_xid c.args.script.now c.args.ready.now c.in-Ok.session h c.requires.settings c.requires.first c.requires.last c.requires.fits (rw c.in_ok-pages.ensures at c.in-Ok.ensures.fresh)
    c.in-Ok.ensures.port so

pub returns-in-Err-clause-opened : goal.returns-in-Err-clause-opened
returns-in-Err-clause-opened c = λ h so. opens-nothing c.args.first_xid c.args.script.now _ h so

pub returns-in_err-pages-clause-opened : goal.returns-in_err-pages-clause-opened
returns-in_err-pages-clause-opened c = λ h so.
    let p = err_from_is_err_and c.from_residual.result c.from_residual.ensures.1 in
    rw p.1 (opens-nothing c.args.first_xid c.args.script.now _ h so)
