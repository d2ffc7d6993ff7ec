use Rattle.std.proofs.Common.{refl, ap}
use Rattle.rpc_retry.specs.Held.{Held}
use Rattle.session_setup.proofs.Alongs.{along_call}
use Rattle.session_setup.proofs.Turns.{transmits_by}
use Rattle.link_dials.proofs.Dialing.{dials_same, dials_sent}
use Rattle.session_setup.proofs.exchange.transmit.Goals as goal

pub returns-in-Some-clause-goes : goal.returns-in-Some-clause-goes
returns-in-Some-clause-goes g c =
    let is = c.next_send.follows.holds-at-none in
    along_call _ _ _ _ c.send.ensures.told (λ a b p. transmits_by c.args.calls.now c.next_send.follows.lender-at-none c.send.result c.in-Some.call.now.bytes a b (rw is (record { first_xid = refl; limit = refl; cred = refl; made = refl }))
    (ap (λ (k : Held (Unit {0})). k.calls) is) c.in-Some.ensures.gives p)

pub returns-in-Some-clause-dials : goal.returns-in-Some-clause-dials
returns-in-Some-clause-dials g c = λ port. dials_sent port _ _ _ c.send.result c.send.ensures.told

pub returns-in-None-clause-dials : goal.returns-in-None-clause-dials
returns-in-None-clause-dials g c = λ port. dials_same port _
