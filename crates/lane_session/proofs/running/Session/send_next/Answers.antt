use Rattle.std.proofs.Common.{[], ◌∷◌, Some, None, refl}
use Rattle.world_model.specs.declared.entry.Entry.TheVariants.{Sent, Failed}
use Rattle.lane_session.specs.Bonds.{CoreGoes}
use Rattle.lane_session.specs.declared.running.Session.{Session}
use Rattle.lane_session.proofs.Passing.{relates_call, relates_same}
use Rattle.lane_session.proofs.Quiets.{quiet_tells}
use Rattle.lane_session.proofs.Reaching.{core-sends-none, core-sends, core-sends-fails, core-unmade}
use Rattle.lane_session.proofs.Sounds.{all-sent, fewer-due}
use Rattle.lane_session.proofs.Sendings.{sends-core, sends-breaks, sent-head}
use Rattle.link_dials.proofs.Dialing.{dials_sent}
use Rattle.lane_session.proofs.Ports.{keeps_none, fails_port}
use Rattle.lane_session.proofs.running.Session.send_next.Goals as goal

pub returns-in_default-clause-sends : goal.returns-in_default-clause-sends
returns-in_default-clause-sends g c =
    let live = c.requires.live in
    let sent = rw c.in_default.is at c.next_send.follows.holds-at-none in
    let gone = all-sent c.args.self.now.core c.next_send.follows.lender-at-none (live.some c.requires.some) sent live.calls in
    (sends-core c.args.self.now None c.next_send.follows.lender-at-none c.args.self.now.counts live sent, gone.0, gone.1)

pub returns-in-Ok-clause-sends : goal.returns-in-Ok-clause-sends
returns-in-Ok-clause-sends g c =
    let sent = rw c.in-Some.is at c.next_send.follows.holds-at-none in (
      sends-core c.args.self.now (Some c.in-Some.call.now.bytes) c.next_send.follows.lender-at-none c.count.new.self c.requires.live sent,
      fewer-due c.args.self.now.core c.in-Some.call.now.bytes c.next_send.follows.lender-at-none sent,
    )

pub returns-in-Ok-clause-goes : goal.returns-in-Ok-clause-goes
returns-in-Ok-clause-goes g c = quiet_tells _ _ (Sent c.in-Some.call.now.bytes ∷ []) refl c.in-Ok.ensures.told

pub returns-in-Err-Failed-clause-sends : goal.returns-in-Err-Failed-clause-sends
returns-in-Err-Failed-clause-sends g c =
    let sent = rw c.in-Some.is at c.next_send.follows.holds-at-none in
    sends-breaks c.args.self.now (Some c.in-Some.call.now.bytes) c.next_send.follows.lender-at-none c.count.new.self c.fail.new.self c.requires.some c.requires.live c.requires.told sent
    (sent-head c.args.self.now.core c.in-Some.call.now.bytes c.next_send.follows.lender-at-none sent) c.fail.ensures

pub returns-in-Err-Failed-clause-goes : goal.returns-in-Err-Failed-clause-goes
returns-in-Err-Failed-clause-goes g c =
    let r = rw c.in-Err-Failed.field-0-is at c.in-Err-Failed.ensures in
    quiet_tells _ _ (Sent c.in-Some.call.now.bytes ∷ Failed ∷ []) refl r.told

pub returns-in-Err-Memory-clause-goes : goal.returns-in-Err-Memory-clause-goes
returns-in-Err-Memory-clause-goes g c =
    let r = rw c.in-Err-Memory.field-0-is at c.in-Err-Memory.ensures in
    quiet_tells _ _ [] refl r.told

pub returns-in_default-clause-core : goal.returns-in_default-clause-core
returns-in_default-clause-core g c =
    let sent = rw c.in_default.is at c.next_send.follows.holds-at-none in
    let new : Session = record c.args.self.now { core = c.next_send.follows.lender-at-none } in
    relates_same (g.L.Link.told c.args.link.now) (CoreGoes c.args.self.now new) (λ h. core-sends-none c.args.self.now new h sent refl refl refl)

pub returns-in-Ok-clause-core : goal.returns-in-Ok-clause-core
returns-in-Ok-clause-core g c =
    let sent = rw c.in-Some.is at c.next_send.follows.holds-at-none in
    let new : Session = record c.args.self.now { core = c.next_send.follows.lender-at-none; counts = c.count.new.self } in
    relates_call _ _ (Sent c.in-Some.call.now.bytes ∷ []) (CoreGoes c.args.self.now new) (λ a b p. core-sends c.args.self.now new c.in-Some.call.now a b c.requires.told sent (record { lends = c.in-Some.ensures.lends; tally = c.count.ensures }) refl refl p) c.in-Ok.ensures.told

pub returns-in-Err-Failed-clause-core : goal.returns-in-Err-Failed-clause-core
returns-in-Err-Failed-clause-core g c =
    let sent = rw c.in-Some.is at c.next_send.follows.holds-at-none in
    let r = rw c.in-Err-Failed.field-0-is at c.in-Err-Failed.ensures in
    let mid : Session = record c.args.self.now { core = c.next_send.follows.lender-at-none; counts = c.count.new.self } in
    relates_call _ _ (Sent c.in-Some.call.now.bytes ∷ Failed ∷ []) (CoreGoes c.args.self.now c.fail.new.self)
    (λ a b p. core-sends-fails c.args.self.now mid c.fail.new.self c.in-Some.call.now a b c.requires.told c.requires.live.calls sent (record { lends = c.in-Some.ensures.lends; tally = c.count.ensures }) refl refl c.fail.ensures p) r.told

pub returns-in-Err-Memory-clause-core : goal.returns-in-Err-Memory-clause-core
returns-in-Err-Memory-clause-core g c =
    let r = rw c.in-Err-Memory.field-0-is at c.in-Err-Memory.ensures in
    relates_call _ _ [] _ (λ a b p. core-unmade c.args.self.now a b p) r.told

pub returns-in_default-clause-dials : goal.returns-in_default-clause-dials
returns-in_default-clause-dials g c = keeps_none _ _

pub returns-in-Ok-clause-dials : goal.returns-in-Ok-clause-dials
returns-in-Ok-clause-dials g c = record { same = refl; only = dials_sent c.args.self.now.port _ _ _ c.send.result c.send.ensures.told }

pub returns-in-Err-Failed-clause-dials : goal.returns-in-Err-Failed-clause-dials
returns-in-Err-Failed-clause-dials g c =
    let mid : Session = record c.args.self.now { core = c.next_send.follows.lender-at-none; counts = c.count.new.self } in
    record { same = fails_port mid c.fail.new.self c.fail.ensures; only = dials_sent c.args.self.now.port _ _ _ c.send.result c.send.ensures.told }

pub returns-in-Err-Memory-clause-dials : goal.returns-in-Err-Memory-clause-dials
returns-in-Err-Memory-clause-dials g c = record { same = refl; only = dials_sent c.args.self.now.port _ _ _ c.send.result c.send.ensures.told }
