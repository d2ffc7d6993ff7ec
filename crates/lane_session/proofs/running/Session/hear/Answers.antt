use Rattle.std.proofs.Common.{[], ◌∷◌, refl}
use Rattle.world_model.specs.declared.entry.Entry.TheVariants.{Delivered, Failed}
use Rattle.lane_session.specs.Bonds.{CoreGoes}
use Rattle.lane_session.proofs.Outcomes.{ok-map}
use Rattle.lane_session.proofs.Passing.{relates_call, relates_then}
use Rattle.lane_session.proofs.Quiets.{quiet_tells, quiet_then}
use Rattle.lane_session.proofs.Reaching.{core-takes, core-fails, core-unmade, core-then-by}
use Rattle.lane_session.proofs.Resending.{fails-due}
use Rattle.lane_session.proofs.Trying.{fails-on, fails-told, takes-on, redialed-on}
use Rattle.link_dials.proofs.Dialing.{dials_received}
use Rattle.lane_session.proofs.Ports.{fails_port, takes_port, keeps_then}
use Rattle.lane_session.proofs.running.Session.hear.Goals as goal

pub returns-in-Whole-clause-exchanges : goal.returns-in-Whole-clause-exchanges
returns-in-Whole-clause-exchanges g c = takes-on c.args.self.now c.take.new.self _ c.requires.some c.requires.live c.requires.sent c.requires.told c.take.ensures

pub returns-in-Whole-clause-goes : goal.returns-in-Whole-clause-goes
returns-in-Whole-clause-goes g c = quiet_tells _ _ (Delivered c.receive.new.rec.items ∷ []) refl c.in-Whole.ensures.told

pub returns-in-Silent-clause-exchanges : goal.returns-in-Silent-clause-exchanges
returns-in-Silent-clause-exchanges g c = fails-on c.args.self.now c.fail.new.self c.requires.some c.requires.live c.requires.head c.fail.ensures

pub returns-in-Silent-clause-goes : goal.returns-in-Silent-clause-goes
returns-in-Silent-clause-goes g c = quiet_tells _ _ (Failed ∷ []) refl c.in-Silent.ensures.told

pub returns-in-Failed-clause-exchanges : goal.returns-in-Failed-clause-exchanges
returns-in-Failed-clause-exchanges g c =
    let ended = fails-on c.args.self.now c.fail-in-Failed.new.self c.requires.some c.requires.live c.requires.head c.fail-in-Failed.ensures in
    ok-map c.reconnect.result _ _ (λ r. redialed-on c.args.self.now c.fail-in-Failed.new.self c.reconnect.new.self ended r) c.reconnect.ensures.redials

pub reconnect-requires : goal.reconnect-requires
reconnect-requires g c = record {
  told = fails-told c.args.self.now c.fail-in-Failed.new.self c.fail-in-Failed.ensures c.requires.told;
  due = let f = c.fail-in-Failed.ensures in fails-due c.args.self.now.core f.result c.fail-in-Failed.new.self.core f.core;
}

pub returns-in-Failed-clause-goes : goal.returns-in-Failed-clause-goes
returns-in-Failed-clause-goes g c = quiet_then _ _ _ (quiet_tells _ _ (Failed ∷ []) refl c.in-Failed.ensures.told) c.reconnect.ensures.goes

pub returns-in-Memory-clause-goes : goal.returns-in-Memory-clause-goes
returns-in-Memory-clause-goes g c = quiet_tells _ _ [] refl c.in-Memory.ensures.told

pub returns-in-Whole-clause-core : goal.returns-in-Whole-clause-core
returns-in-Whole-clause-core g c =
    let takes = rw (c.lent.ensures, c.of-rec.ensures) at c.take.ensures in
    relates_call _ _ (Delivered c.receive.new.rec.items ∷ []) _ (λ a b p. core-takes c.args.self.now c.take.new.self c.receive.new.rec.items a b c.requires.sent c.requires.told takes p) c.in-Whole.ensures.told

pub returns-in-Silent-clause-core : goal.returns-in-Silent-clause-core
returns-in-Silent-clause-core g c = relates_call _ _ (Failed ∷ []) _ (λ a b p. core-fails c.args.self.now c.fail.new.self a b c.requires.told c.requires.none (c.requires.live.some c.requires.some) c.fail.ensures p) c.in-Silent.ensures.told

pub returns-in-Failed-clause-core : goal.returns-in-Failed-clause-core
returns-in-Failed-clause-core g c =
    let mid = c.fail-in-Failed.new.self in
    relates_then _ _ _ (CoreGoes c.args.self.now mid) _ _ (λ h k l p q. core-then-by c.args.self.now mid c.reconnect.new.self c.reconnect.result h k l p q)
    (relates_call _ _ (Failed ∷ []) (CoreGoes c.args.self.now mid) (λ a b p. core-fails c.args.self.now mid a b c.requires.told c.requires.none (c.requires.live.some c.requires.some) c.fail-in-Failed.ensures p) c.in-Failed.ensures.told)
    c.reconnect.ensures.core

pub returns-in-Memory-clause-core : goal.returns-in-Memory-clause-core
returns-in-Memory-clause-core g c = relates_call _ _ [] _ (λ a b p. core-unmade c.args.self.now a b p) c.in-Memory.ensures.told

pub returns-in-Whole-clause-dials : goal.returns-in-Whole-clause-dials
returns-in-Whole-clause-dials g c = record { same = takes_port c.args.self.now c.take.new.self _ c.take.ensures; only = dials_received c.args.self.now.port _ _ _ c.receive.result c.receive.ensures.told }

pub returns-in-Silent-clause-dials : goal.returns-in-Silent-clause-dials
returns-in-Silent-clause-dials g c = record { same = fails_port c.args.self.now c.fail.new.self c.fail.ensures; only = dials_received c.args.self.now.port _ _ _ c.receive.result c.receive.ensures.told }

pub returns-in-Failed-clause-dials : goal.returns-in-Failed-clause-dials
returns-in-Failed-clause-dials g c =
    keeps_then _ _ _ _ _ _
    (record { same = fails_port c.args.self.now c.fail-in-Failed.new.self c.fail-in-Failed.ensures; only = dials_received c.args.self.now.port _ _ _ c.receive.result c.receive.ensures.told }) c.reconnect.ensures.dials

pub returns-in-Memory-clause-dials : goal.returns-in-Memory-clause-dials
returns-in-Memory-clause-dials g c = record { same = refl; only = dials_received c.args.self.now.port _ _ _ c.receive.result c.receive.ensures.told }
