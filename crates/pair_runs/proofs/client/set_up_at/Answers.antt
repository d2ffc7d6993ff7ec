use Rattle.std.proofs.Common.{refl, arith}
use Rattle.pair_ends.proofs.Calls.{spares-none}
use Rattle.pair_runs.proofs.Openings.{set-up-of-end}
use Rattle.pair_runs.proofs.Options.{options-of, calls-of}
use Rattle.pair_runs.proofs.client.set_up_at.Goals as goal

pub set_up-requires-clause-options : goal.set_up-requires-clause-options
set_up-requires-clause-options g c = options-of c.args.settings.now c.requires.settings

pub set_up-requires-clause-last : goal.set_up-requires-clause-last
set_up-requires-clause-last g c = let n = calls-of c.args.settings.now c.requires.settings in let last = c.requires.last in omega (arith, n, last)

pub returns-clause-same_reference : goal.returns-clause-same_reference
returns-clause-same_reference g c = (c.set_up.ensures.stays c.args.end.now (refl, refl, spares-none _ _)).0

pub returns-clause-opens : goal.returns-clause-opens
returns-clause-opens g c =
    let s = c.set_up.ensures.stays c.args.end.now (refl, refl, spares-none _ _) in
    set-up-of-end c.args.end.now.side _ c.args.first_xid c.args.settings.now c.set_up.result _ _ s.1 c.requires.settings s.2 c.set_up.ensures.goes
