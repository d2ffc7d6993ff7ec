use Rattle.std.proofs.Common.{Err, refl}
use Rattle.rpc_retry.specs.declared.answers.AfterFailure.TheVariants.{GivenUp}
use Rattle.session_setup.specs.declared.stop.Stop.TheVariants as stops
use Rattle.session_setup.proofs.Turns.{ends_by}
use Rattle.session_setup.proofs.exchange.end_attempt.Goals as goal

pub returns-in-GivenUp-clause-ends : goal.returns-in-GivenUp-clause-ends
returns-in-GivenUp-clause-ends c h =
    let s = c.failed.ensures.settings in
    ends_by c.args.calls.now c.failed.new.self h (record { first_xid = s.first_xid; limit = s.limit; cred = s.cred; made = c.failed.ensures.made }) c.failed.ensures.calls (GivenUp c.in-GivenUp.field-0)
    c.in-GivenUp.ensures.answer (Err stops.Lost) (λ xid e. refl) (λ e. absurd cc)
