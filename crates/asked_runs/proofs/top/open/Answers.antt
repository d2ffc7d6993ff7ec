use Rattle.std.proofs.Common.{inl, inr, refl, arith}
use Rattle.asked_runs.proofs.Opens.{lost-says, ready-says, refused-says, unready-says}
use Rattle.asked_runs.proofs.Tops.{own-outcome, refuse-ends, refused-above, refused-outcome}
use Rattle.asked_runs.proofs.top.open.Goals as goal

pub returns-in-Ok-clause-runs : goal.returns-in-Ok-clause-runs
returns-in-Ok-clause-runs g c =
    ready-says _ c.args.settings.now c.open_ready.result c.first_xid-first.result _ _ _ _ _ _ c.first_xid-first.ensures.read c.in-Ok.ready c.in-Ok.ensures.fits
    c.in-Ok.ensures.goes c.open_ready.ensures.runs c.open_ready.ensures.dials

pub returns-in-Ok-clause-statuses : goal.returns-in-Ok-clause-statuses
returns-in-Ok-clause-statuses g c = own-outcome c.open_ready.result c.open_ready.ensures.statuses

pub returns-in-Err-Lost-clause-statuses : goal.returns-in-Err-Lost-clause-statuses
returns-in-Err-Lost-clause-statuses g c = inl (inr refl)

pub returns-in-Err-Lost-clause-tells : goal.returns-in-Err-Lost-clause-tells
returns-in-Err-Lost-clause-tells g c = λ few. absurd (omega (arith, few))

pub returns-in-Err-Refused-clause-statuses : goal.returns-in-Err-Refused-clause-statuses
returns-in-Err-Refused-clause-statuses g c = refused-outcome c.refuse.result c.refuse.ensures.is

pub returns-in-Err-Refused-clause-tells : goal.returns-in-Err-Refused-clause-tells
returns-in-Err-Refused-clause-tells g c = refused-above _ c.refuse.result c.refuse.ensures.is

pub returns-in-Err-Lost-clause-runs : goal.returns-in-Err-Lost-clause-runs
returns-in-Err-Lost-clause-runs g c =
    let e = rw c.in-Err-Lost.field-0-is at c.in-Err-Lost.ensures.goes in
    lost-says _ c.args.settings.now 6 c.first_xid-first.result _ _ c.first_xid-first.ensures.read _ _ c.in-Err-Lost._tally e refl

pub returns-in-Err-Refused-clause-runs : goal.returns-in-Err-Refused-clause-runs
returns-in-Err-Refused-clause-runs g c =
    let e = rw c.in-Err-Refused.field-0-is at c.in-Err-Refused.ensures.goes in
    refused-says _ c.args.settings.now _ c.first_xid-first.result _ _ c.first_xid-first.ensures.read _ _ c.in-Err-Refused.fault e (refuse-ends c.refuse.result c.refuse.ensures.is)

pub returns-clause-runs : goal.returns-clause-runs
returns-clause-runs g c =
    let e = rw c.in-Err-Memory.field-0-is at c.in-Err-Memory.ensures.goes in
    unready-says _ c.args.settings.now 7 c.first_xid-first.result _ _ c.first_xid-first.ensures.read _ _ e refl
