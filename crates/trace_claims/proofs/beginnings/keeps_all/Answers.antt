-- A beginning that breaks no claim keeps them.
use Rattle.std.proofs.Common.{sym, true≢false, refl}
use Rattle.trace_claims.proofs.Judgement.{breaks-not}
use Rattle.trace_claims.proofs.beginnings.keeps_all.Goals as goal

pub returns-in-Some : goal.returns-in-Some
returns-in-Some c m origin all within = (λ t. absurd (true≢false (sym t)), λ keeps. absurd (breaks-not m origin _ _ (rw c.in-Some.is at (c.breaks.ensures m origin all within)) keeps))

pub returns-in-None : goal.returns-in-None
returns-in-None c m origin all within = (λ t. rw c.in-None.is at (c.breaks.ensures m origin all within), λ keeps. refl)
