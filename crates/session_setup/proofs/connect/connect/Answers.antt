use Rattle.std.proofs.Common.{[], ◌∷◌, arith}
use Rattle.world_model.specs.declared.entry.Entry.TheVariants.{Dialed}
use Rattle.session_setup.proofs.Alongs.{along_none, along_call, along_then, along_less}
use Rattle.session_setup.proofs.Connecting.{tries_none, Goes, Fails, goes_by, fails_by, tries_then, connects_ok, connects_memory, connects_lost}
use Rattle.link_dials.proofs.Dialing.{dials_same, dials_then, dials_dialed}
use Rattle.link_dials.proofs.Ports.{dialed_last}
use Rattle.session_setup.proofs.Dials.{reaches_ok, reaches_err}
use Rattle.session_setup.proofs.connect.connect.Goals as goal

pub returns-in-Ok-clause-goes : goal.returns-in-Ok-clause-goes
returns-in-Ok-clause-goes g c =
    let told = c.in-Ok.ensures.told in
    along_then _ _ _ _ Goes _ (λ h k l p q t w. connects_ok c.loop.counter h k l t w) c.loop.invariant.goes (along_call _ _ _ _ told (λ a b p. goes_by a b (Dialed c.args.port ∷ []) (tt, tt) p))

pub returns-in-Err-Memory-clause-goes : goal.returns-in-Err-Memory-clause-goes
returns-in-Err-Memory-clause-goes g c =
    let told = (rw c.in-Err-Memory.field-0-is at c.in-Err-Memory.ensures).told in
    along_then _ _ _ _ Goes _ (λ h k l p q t w. connects_memory c.loop.counter h k l t w) c.loop.invariant.goes (along_call _ _ _ _ told (λ a b p. goes_by a b [] tt p))

pub loop-preserved : goal.loop-preserved
loop-preserved g c =
    let r = rw c.in-Err-Failed.field-0-is at c.in-Err-Failed.ensures in
    record {
      goes = along_then _ _ _ _ Fails _ (λ h k l p q t w. tries_then c.loop.counter h k l t w) c.loop.invariant.goes (along_call _ _ _ _ r.told (λ a b p. fails_by c.args.port a b p));
      dials = dials_then _ _ _ _ c.loop.invariant.dials (dials_dialed c.args.port _ _ c.dial.result c.dial.ensures.told);
      stays = λ first s. r.stays first (c.loop.invariant.stays first s);
      honest = λ h. r.honest (c.loop.invariant.honest h);
    }

pub returns-clause-goes : goal.returns-clause-goes
returns-clause-goes g c = along_less _ _ _ _ (λ h k p t. connects_lost c.loop.counter h k (omega (arith, c.loop-test.false, c.loop.auto.counter-end)) t) c.loop.invariant.goes

pub loop-init : goal.loop-init
loop-init g c = record { goes = along_none _ _ tries_none; dials = dials_same _ _; stays = λ first s. s; honest = λ h. h }

pub returns-in-Ok-clause-dials : goal.returns-in-Ok-clause-dials
returns-in-Ok-clause-dials g c = dials_then _ _ _ _ c.loop.invariant.dials (dials_dialed c.args.port _ _ c.dial.result c.dial.ensures.told)

pub returns-in-Err-Memory-clause-dials : goal.returns-in-Err-Memory-clause-dials
returns-in-Err-Memory-clause-dials g c = dials_then _ _ _ _ c.loop.invariant.dials (dials_dialed c.args.port _ _ c.dial.result c.dial.ensures.told)

pub returns-in-Ok-clause-reaches : goal.returns-in-Ok-clause-reaches
returns-in-Ok-clause-reaches g c =
    let told = c.in-Ok.ensures.told in
    let goes = along_then _ _ _ _ Goes _ (λ h k l p q t w. connects_ok c.loop.counter h k l t w) c.loop.invariant.goes
    (along_call _ _ _ _ told (λ a b p. goes_by a b (Dialed c.args.port ∷ []) (tt, tt) p)) in
    let dials = dials_then _ _ _ _ c.loop.invariant.dials (dials_dialed c.args.port _ _ c.dial.result c.dial.ensures.told) in
    reaches_ok c.args.port _ _ goes dials (dialed_last c.args.port _ _ _ c.loop.invariant.dials told)

pub returns-in-Err-Memory-clause-reaches : goal.returns-in-Err-Memory-clause-reaches
returns-in-Err-Memory-clause-reaches g c =
    let told = (rw c.in-Err-Memory.field-0-is at c.in-Err-Memory.ensures).told in
    let goes = along_then _ _ _ _ Goes _ (λ h k l p q t w. connects_memory c.loop.counter h k l t w) c.loop.invariant.goes (along_call _ _ _ _ told (λ a b p. goes_by a b [] tt p)) in
    reaches_err c.args.port _ _ _ goes (dials_then _ _ _ _ c.loop.invariant.dials (dials_dialed c.args.port _ _ c.dial.result c.dial.ensures.told))

pub returns-clause-reaches : goal.returns-clause-reaches
returns-clause-reaches g c =
    let goes = along_less _ _ _ _ (λ h k p t. connects_lost c.loop.counter h k (omega (arith, c.loop-test.false, c.loop.auto.counter-end)) t) c.loop.invariant.goes in
    reaches_err c.args.port _ _ _ goes c.loop.invariant.dials
