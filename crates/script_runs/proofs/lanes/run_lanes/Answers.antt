use Rattle.std.proofs.Common.{arith, refl}
use Rattle.script_runs.proofs.LaneRuns.{early_back, early_says, empty_back, ready_says, empty_says, not_empty, ready_pages}
use Rattle.script_runs.proofs.lanes.run_lanes.Goals as goal

pub returns-then-count-eq0-clause-shown : goal.returns-then-count-eq0-clause-shown
returns-then-count-eq0-clause-shown g c = empty_says _ _ _ _ _ _ _ _ _ _ _ (omega (arith, c.count.ensures, c.if-count-eq0.true)) refl c.session-status.ensures.shown c.session-status.ensures.loses

pub returns-in-Ok-clause-shown : goal.returns-in-Ok-clause-shown
returns-in-Ok-clause-shown g c = ready_says _ _ _ _ _ _ _ _ _ _ _ _ _ _ (not_empty _ (λ z. c.if-count-eq0.false (omega (arith, c.count.ensures, z)))) c.requires.asked c.in-Ok.ensures.fits c.first_xid-first.ensures.read c.in-Ok.ensures.goes c.run_ready.ensures.shown c.run_ready.ensures.core
    c.run_ready.ensures.dials

pub returns-in-Err-clause-shown : goal.returns-in-Err-clause-shown
returns-in-Err-clause-shown g c = early_says _ _ _ _ _ _ _ _ _ _ _ _ _ _ (not_empty _ (λ z. c.if-count-eq0.false (omega (arith, c.count.ensures, z)))) c.first_xid-first.ensures.read c.in-Err.ensures.goes c.end_early-status.ensures.shown

pub returns-in-Ok-clause-pages : goal.returns-in-Ok-clause-pages
returns-in-Ok-clause-pages g c = ready_pages _ _ _ _ _ _ _ _ c.in-Ok.ensures.goes c.run_ready.ensures.pages

pub returns-then-count-eq0-clause-pages : goal.returns-then-count-eq0-clause-pages
returns-then-count-eq0-clause-pages g c = empty_back _ _ c.args.stock c.args.settings.now _ c.session-status.ensures.loses

pub returns-in-Err-clause-pages : goal.returns-in-Err-clause-pages
returns-in-Err-clause-pages g c = early_back _ _ _ c.args.stock _ _ _ _ _ _ _ _ _ c.in-Err.ensures.goes c.end_early-status.ensures.shown
