-- One place more.
use Rattle.std.proofs.Common.{◌+◌, List, sym, subst, arith}
use Rattle.std.proofs.lemmas.Grind.{common_steps}
use Rattle.trace_claims.specs.declared.courses.Course.{Course}
use Rattle.trace_claims.specs.Courses.{HasCourses}
use Rattle.trace_claims.proofs.Coursing.{more-courses}
use Rattle.trace_claims.proofs.courses.all_courses.Goals as goal

pub loop-place-preserved : goal.loop-place-preserved
loop-place-preserved c = record {
  within = grind (arith, common_steps);
  has = subst (λ (l : List Course). HasCourses c.args.entries.now (c.loop-place.place + 1) l) (sym c.in_ok-add.ensures)
      (more-courses c.args.entries.now c.loop-place.place c.loop-place.all.items c.course_at.result c.loop-place.invariant.has c.course_at.ensures);
}
