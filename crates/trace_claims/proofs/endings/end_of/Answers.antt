-- With the first answer, or with the history.
use Rattle.std.proofs.Common.{refl}
use Rattle.trace_claims.proofs.Ending.{ends-nowhere, ends-there, ends-within}
use Rattle.trace_claims.proofs.endings.end_of.Goals as goal

pub outcome_at-requires : goal.outcome_at-requires
outcome_at-requires c = ends-within c.args.entries.now c.args.began c.in-Some.end c.in-Some.ensures

pub returns-in-Some : goal.returns-in-Some
returns-in-Some c = ends-there c.args.entries.now c.args.began _ c.in-Some.ensures c.outcome_at.ensures

pub returns-in-None : goal.returns-in-None
returns-in-None c = ends-nowhere c.args.entries.now c.args.began _ c.in-None.ensures refl refl
