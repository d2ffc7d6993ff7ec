use Rattle.std.proofs.Common.{rules, refl}
use Rattle.world_link.specs.Pairs.{seen_pair}
use Rattle.world_link.specs.PairSteps as pairs
use Rattle.world_link.proofs.PairHonest.{all_then, all_same}
use Rattle.world_link.proofs.ServerEntriesOnly.{then_goes_on, on_goes, quiet_goes}
use Rattle.world_link.proofs.pair_world.PairWorld.turn_all.Goals as goal

pub loop-self-init : goal.loop-self-init
loop-self-init c = record { turns = pairs.none; goes = on_goes _ _ (quiet_goes _ _ refl refl refl) refl refl; stays = λ h. h; ends = all_same _ _ refl }

pub loop-self-preserved : goal.loop-self-preserved
loop-self-preserved c = record {
  turns = pairs.turn (seen_pair c.loop-self.self) _ c.loop-self.invariant.turns (search rules) c.in_ok-turn.ensures.ok;
  goes = then_goes_on _ _ _ c.loop-self.invariant.goes c.in_ok-turn.ensures.goes;
  stays = λ h. c.in_ok-turn.ensures.stays (c.loop-self.invariant.stays h);
  ends = all_then _ _ _ c.loop-self.invariant.ends c.in_ok-turn.ensures.ends;
}

pub returns-in_err-turn-clause-goes : goal.returns-in_err-turn-clause-goes
returns-in_err-turn-clause-goes c = then_goes_on _ _ _ c.loop-self.invariant.goes c.in_err-turn.ensures.goes

pub returns-in_err-turn-clause-stays : goal.returns-in_err-turn-clause-stays
returns-in_err-turn-clause-stays c h = c.in_err-turn.ensures.stays (c.loop-self.invariant.stays h)

pub returns-in_err-turn-clause-ends : goal.returns-in_err-turn-clause-ends
returns-in_err-turn-clause-ends c = all_then _ _ _ c.loop-self.invariant.ends c.in_err-turn.ensures.ends
