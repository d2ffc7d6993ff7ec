use Rattle.std.proofs.Common.{Some, subst}
use Rattle.world_link.specs.Honest.{MayAnswer}
use Rattle.world_link.specs.View.{served}
use Rattle.world_link.proofs.TurnStaysHonest.{ready_result_stays, held_result_stays}
use Rattle.world_link.proofs.EndsStayRight.{ends_if}
use Rattle.world_link.specs.Ends.{ends_of}
use Rattle.world_link.specs.Routes.{MayAnswerTo}
use Rattle.world_link.proofs.server.Server.reply.Goals as goal

pub returns-then-are_past-clause-stays : goal.returns-then-are_past-clause-stays
returns-then-are_past-clause-stays c a =
    ready_result_stays (served c.args.self.now) _ (Some c.in-Some.bytes) c.make_ready.result c.make_ready.ensures.ok c.make_ready.ensures.err (subst (MayAnswer (served c.args.self.now).entries) c.in-Some.is a)

pub returns-clause-stays : goal.returns-clause-stays
returns-clause-stays c a = held_result_stays (served c.args.self.now) _ c.in-Some.bytes _ c.hold.result c.hold.ensures.ok c.hold.ensures.err (subst (MayAnswer (served c.args.self.now).entries) c.in-Some.is a)

pub returns-then-are_past-clause-ends : goal.returns-then-are_past-clause-ends
returns-then-are_past-clause-ends c = ends_if _ _ _ _ c.make_ready.ensures.ends (subst (MayAnswerTo (ends_of c.args.self.now).told c.args.end) c.in-Some.is)

pub returns-clause-ends : goal.returns-clause-ends
returns-clause-ends c = ends_if _ _ _ _ c.hold.ensures.ends (subst (MayAnswerTo (ends_of c.args.self.now).told c.args.end) c.in-Some.is)
