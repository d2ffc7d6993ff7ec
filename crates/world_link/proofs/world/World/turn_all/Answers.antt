use Rattle.std.proofs.Common.{◌≡◌, [], length, rules, ◌∙◌}
use Rattle.world_link.proofs.ServerEntriesOnly.{then_goes_on}
use Rattle.world_link.proofs.StepsInOrder.{turns_go_on, turns_done}
use Rattle.world_link.specs.View.{seen}
use Rattle.world_link.proofs.Pushes.{none_then}
use Rattle.world_link.proofs.WorldTellsCalls.{none_ready}
use Rattle.world_link.proofs.world.World.turn_all.Goals as goal

pub loop-self-preserved : goal.loop-self-preserved
loop-self-preserved c =
    let none : length c.loop-self.self.server.ready.items ≡ 0 = search rules in
    record {
      left = turns_go_on (seen c.loop-self.self) _ (none_ready c.loop-self.self.server.ready.items none) c.in_ok-turn.ensures.ok ∙ c.loop-self.invariant.left;
      goes = then_goes_on _ _ _ c.loop-self.invariant.goes c.in_ok-turn.ensures.goes;
      stays = λ h. c.in_ok-turn.ensures.stays (c.loop-self.invariant.stays h);
    }

pub returns-in_err-turn-clause-goes : goal.returns-in_err-turn-clause-goes
returns-in_err-turn-clause-goes c = then_goes_on _ _ _ c.loop-self.invariant.goes c.in_err-turn.ensures.goes

pub returns-in_err-turn-clause-stays : goal.returns-in_err-turn-clause-stays
returns-in_err-turn-clause-stays c h = c.in_err-turn.ensures.stays (c.loop-self.invariant.stays h)

pub returns-after-loop-self-clause-ok : goal.returns-after-loop-self-clause-ok
returns-after-loop-self-clause-ok c = let none : c.loop-self.self.server.ready.items ≡ [] → c.loop-self.self.waiting.items ≡ [] = search rules in
    turns_done (seen c.loop-self.self) (none_then c.loop-self.self.server.ready.items c.loop-self.self.waiting.items none) ∙ c.loop-self.invariant.left
