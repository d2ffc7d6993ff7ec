-- Without a limit the whole is judged.
use Rattle.std.proofs.Common.{sym, subst, arith, Option, ℕ}
use Rattle.std.specs.Prelude.{Decides}
use Rattle.trace_claims.specs.Judging.{KeepsWhole, KeepsClaims, beginning_of}
use Rattle.trace_claims.proofs.Judgement.{keeps-whole, keeps-limited}
use Rattle.trace_claims.proofs.beginnings.keeps_whole.Goals as goal

pub returns-in-Some : goal.returns-in-Some
returns-in-Some c m origin all count = keeps-limited m origin c.args.trace.now c.args.limit _ c.in-Some.is

pub returns-in-None : goal.returns-in-None
returns-in-None c m origin all count =
    subst (λ (z : Option ℕ). KeepsWhole m origin c.args.trace.now z c.keeps_all.result) (sym c.in-None.is)
    (keeps-whole m origin c.args.trace.now c.keeps_all.result (subst (λ (n : ℕ). Decides c.keeps_all.result (KeepsClaims m origin (beginning_of c.args.trace.now n))) count (c.keeps_all.ensures m origin all (omega (arith, count)))))
