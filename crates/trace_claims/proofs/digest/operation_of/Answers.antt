-- The operation with what it holds and where its path leads.
use Rattle.std.proofs.Common.{refl}
use Rattle.trace_claims.proofs.digest.operation_of.Goals as goal

pub returns : goal.returns
returns c m origin named one heard roots = record {
  is = record { course = one.course; named = one.file; holds = c.in_ok-holds.ensures m c.args.entries.now named one.course; leads = c.in_ok-leads.ensures origin heard roots };
  course_is = refl;
}
