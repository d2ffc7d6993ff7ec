use Rattle.std.proofs.Common.{[], ◌∷◌, refl, arith}
use Rattle.world_model.specs.declared.entry.Entry.TheVariants.{Dialed, Failed}
use Rattle.port_finder.proofs.Doing.{does_none, does_call, does_then, does_so, calm_one, dialed_calm}
use Rattle.port_finder.proofs.Steps.{dial_again, dial_done, dial_wants, dial_lost}
use Rattle.port_finder.proofs.exchange.dial.Goals as goal

pub loop-failed-init : goal.loop-failed-init
loop-failed-init g c = record { few = omega arith; does = does_none _ _ _ refl; stays = λ first s. s; honest = λ h. h }

pub returns-in-Ok : goal.returns-in-Ok
returns-in-Ok g c =
    let r = c.in-Ok.ensures in
    record {
      does = does_then _ _ _ _ _ _ _ _ _ (λ es fs p q. dial_done c.args.port c.loop-failed.failed es fs (omega (arith, c.loop-failed-test.true)) p q) c.loop-failed.invariant.does
          (does_call _ _ _ _ (Dialed c.args.port ∷ []) r.told r.cause.later (λ f. absurd (calm_one (Dialed c.args.port) (dialed_calm c.args.port) f)));
      stays = λ first s. r.stays first (c.loop-failed.invariant.stays first s);
      honest = λ h. r.honest (c.loop-failed.invariant.honest h);
    }

pub loop-failed-preserved : goal.loop-failed-preserved
loop-failed-preserved g c =
    let r = rw c.in-Err-Failed.field-0-is at c.in-Err-Failed.ensures in
    record {
      few = omega (arith, c.loop-failed-test.true);
      does = does_then _ _ _ _ _ _ _ _ _ (λ es fs p q. dial_again c.args.port c.loop-failed.failed es fs p q) c.loop-failed.invariant.does
          (does_call _ _ _ _ (Dialed c.args.port ∷ Failed ∷ []) r.told r.cause.later (λ f. r.cause.failed));
      stays = λ first s. r.stays first (c.loop-failed.invariant.stays first s);
      honest = λ h. r.honest (c.loop-failed.invariant.honest h);
    }

pub returns-in-Err-Memory : goal.returns-in-Err-Memory
returns-in-Err-Memory g c =
    let r = rw c.in-Err-Memory.field-0-is at c.in-Err-Memory.ensures in
    record {
      does = does_then _ _ _ _ _ _ _ _ _ (λ es fs p q. dial_wants c.args.port c.loop-failed.failed es fs (omega (arith, c.loop-failed-test.true)) p q) c.loop-failed.invariant.does
          (does_call _ _ _ _ [] r.told r.cause.later (λ f. absurd f));
      stays = λ first s. r.stays first (c.loop-failed.invariant.stays first s);
      honest = λ h. r.honest (c.loop-failed.invariant.honest h);
    }

pub returns : goal.returns
returns g c = record {
  does = does_so _ _ _ _ _ _ (λ es p. dial_lost c.args.port c.loop-failed.failed es (omega (arith, c.loop-failed-test.false, c.loop-failed.invariant.few)) p) c.loop-failed.invariant.does;
  stays = c.loop-failed.invariant.stays;
  honest = c.loop-failed.invariant.honest;
}
