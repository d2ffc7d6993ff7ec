use Rattle.std.proofs.Common.{[], ◌∷◌, arith}
use Rattle.world_model.specs.declared.entry.Entry.TheVariants.{Dialed, Failed}
use Rattle.lane_session.proofs.Passing.{relates_same, relates_less}
use Rattle.lane_session.proofs.Reaching.{relates-call}
use Rattle.lane_session.proofs.Redialing.{Dials, dials-none, dials-more, redialed, undialed-memory, all-undialed}
use Rattle.link_dials.proofs.Dialing.{dials_same, dials_then, dials_dialed}
use Rattle.lane_session.proofs.running.redial.Goals as goal

pub loop-init : goal.loop-init
loop-init g c = record { goes = relates_same (g.L.Link.told c.args.link.now) (λ h k. Dials h 0 k) dials-none; dials = dials_same _ _; stays = λ first s. s; honest = λ h. h }

pub loop-preserved : goal.loop-preserved
loop-preserved g c =
    let r = rw c.in-Err-Failed.field-0-is at c.in-Err-Failed.ensures in
    record {
      goes = relates-call _ _ _ (Dialed c.args.port ∷ Failed ∷ []) _ _ (λ h a b d p. dials-more h c.loop.counter c.args.port a b p d) c.loop.invariant.goes r.told;
      dials = dials_then _ _ _ _ c.loop.invariant.dials (dials_dialed c.args.port _ _ c.dial.result c.dial.ensures.told);
      stays = λ first s. r.stays first (c.loop.invariant.stays first s);
      honest = λ h. r.honest (c.loop.invariant.honest h);
    }

pub returns-in-Ok-clause-goes : goal.returns-in-Ok-clause-goes
returns-in-Ok-clause-goes g c =
    relates-call _ _ _ (Dialed c.args.port ∷ []) _ _ (λ h a b d p. redialed h c.loop.counter c.args.port a b p d) c.loop.invariant.goes c.in-Ok.ensures.told

pub returns-in-Err-Memory-clause-goes : goal.returns-in-Err-Memory-clause-goes
returns-in-Err-Memory-clause-goes g c =
    let r = rw c.in-Err-Memory.field-0-is at c.in-Err-Memory.ensures in
    relates-call _ _ _ [] _ _ (λ h a b d p. undialed-memory h c.loop.counter a b p d) c.loop.invariant.goes r.told

pub returns-clause-goes : goal.returns-clause-goes
returns-clause-goes g c = relates_less _ _ _ _ (λ h k d. all-undialed h k c.loop.counter (omega (arith, c.loop-test.false, c.loop.auto.counter-end)) d) c.loop.invariant.goes

pub returns-in-Ok-clause-dials : goal.returns-in-Ok-clause-dials
returns-in-Ok-clause-dials g c = dials_then _ _ _ _ c.loop.invariant.dials (dials_dialed c.args.port _ _ c.dial.result c.dial.ensures.told)

pub returns-in-Err-Memory-clause-dials : goal.returns-in-Err-Memory-clause-dials
returns-in-Err-Memory-clause-dials g c = dials_then _ _ _ _ c.loop.invariant.dials (dials_dialed c.args.port _ _ c.dial.result c.dial.ensures.told)
