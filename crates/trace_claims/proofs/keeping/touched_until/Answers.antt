-- As far as that reaches by which the place may have been changed.
use Rattle.std.proofs.Common.{sym, ap, ◌∙◌}
use Rattle.trace_claims.specs.declared.operations.Operation.{Operation}
use Rattle.trace_claims.specs.declared.touched.Foreign.{Foreign}
use Rattle.trace_claims.specs.Courses.{range}
use Rattle.trace_claims.specs.Reaching.{reach_end}
use Rattle.trace_claims.proofs.Reaching.{rewriter-reaches, changer-reaches, until-same}
use Rattle.trace_claims.proofs.keeping.touched_until.Goals as goal

pub returns-in-Some : goal.returns-in-Some
returns-in-Some c t =
    rewriter-reaches c.args.digest.now c.args.written.now c.args.question.now c.args.at c.args.most c.in-Some.other c.index-operations-other.result c.as_slice-operations.result.now
    c.as_slice-operations.ensures.value (sym c.rewriter.ensures ∙ c.in-Some.is) c.index-operations-other.is c.requires c.range.result
    (c.range.ensures ∙ ap (λ (z : Operation). range z.course.work) (sym c.index-operations-other.is)) c.range_end.result c.range_end.ensures

pub returns-in-Some-changer : goal.returns-in-Some-changer
returns-in-Some-changer c t =
    changer-reaches c.args.digest.now c.args.written.now c.args.question.now c.args.at c.args.most c.in-Some-changer.change c.index-foreign-change.result c.as_slice-foreign.result.now
    c.as_slice-foreign.ensures.value (sym c.changer.ensures ∙ c.in-Some-changer.is) c.index-foreign-change.is c.requires c.reach_end.result
    (c.reach_end.ensures ∙ ap (λ (z : Foreign). reach_end z.reach c.args.most) (sym c.index-foreign-change.is))

pub returns-in-None-changer : goal.returns-in-None-changer
returns-in-None-changer c t = until-same c.args.digest.now c.args.written.now c.args.question.now c.args.at c.args.most c.next_piece.result c.next_piece.ensures t
