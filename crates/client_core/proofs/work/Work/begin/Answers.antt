use Rattle.std.proofs.Common.{◌≡◌, ◌∙◌, sym, subst}
use Rattle.client_core.specs.Numbers.{IsIdle}
use Rattle.client_core.specs.View.{View, IsSound}
use Rattle.client_core.proofs.Beginning.{begins-now, begins-lost, pushed-sound}
use Rattle.client_core.proofs.work.Work.begin.Goals as goal

pub a_lane_is_left-requires-clause-idle : goal.a_lane_is_left-requires-clause-idle
a_lane_is_left-requires-clause-idle c = subst (λ (v : View). IsIdle c.args.lane v.lanes) (sym c.count.ensures.counts) c.requires.idle

pub a_lane_is_left-requires-clause-lanes : goal.a_lane_is_left-requires-clause-lanes
a_lane_is_left-requires-clause-lanes c = c.count.ensures.sound.bound.lanes

pub start-requires-clause-idle : goal.start-requires-clause-idle
start-requires-clause-idle c = subst (λ (v : View). IsIdle c.args.lane v.lanes) (sym c.count.ensures.counts) c.requires.idle

pub returns-then-is_lost-clause-begins : goal.returns-then-is_lost-clause-begins
returns-then-is_lost-clause-begins c = begins-lost c.args.self.now c.count.new.self c.push.new.self c.args.lane c.args.machine c.args.now c.count.ensures.counts (sym c.is_lost.ensures ∙ c.if-is_lost.true) c.push.ensures

pub returns-then-is_lost-clause-sound : goal.returns-then-is_lost-clause-sound
returns-then-is_lost-clause-sound c = subst IsSound (sym c.push.ensures) (pushed-sound c.count.new.self c.args.lane _ (subst (λ (v : View). IsIdle c.args.lane v.lanes) (sym c.count.ensures.counts) c.requires.idle) c.count.ensures.sound)

pub returns-clause-begins : goal.returns-clause-begins
returns-clause-begins c = begins-now c.args.self.now c.count.new.self c.start.new.self c.settle.new.self c.args.lane c.args.machine c.args.now c.count.ensures.counts (sym c.is_lost.ensures ∙ c.if-is_lost.false) c.start.ensures.starts c.settle.ensures.moves c.settle.ensures.still
