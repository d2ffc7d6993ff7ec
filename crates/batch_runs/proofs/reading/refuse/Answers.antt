use Rattle.std.proofs.Common.{ℕ}
use Rattle.batch_runs.specs.Parts.{refused_text}
use Rattle.batch_runs.proofs.Telling.{not-source, one-cut-off, one-told, one-unnumbered}
use Rattle.batch_runs.proofs.reading.refuse.Goals as goal

pub returns-in-Ok-tell_refused-clause-one : goal.returns-in-Ok-tell_refused-clause-one
returns-in-Ok-tell_refused-clause-one g c =
    one-told _ _ c.args.answered.now c.add.new.self 3 c.in-Ok.number (λ (n : ℕ). refused_text n c.args.fault.now) c.in-Ok.ensures c.add.ensures c.in-Ok-tell_refused.ensures.ok

pub returns-in-Err-clause-one : goal.returns-in-Err-clause-one
returns-in-Err-clause-one g c =
    one-cut-off _ _ c.args.answered.now c.args.answered.now 3 c.in-Ok.number (λ (n : ℕ). refused_text n c.args.fault.now) c.in-Ok.ensures c.in-Err.stop (not-source c.in-Err.stop _ c.in-Err.ensures.cause) c.in-Err.ensures.err

pub returns-in_default-clause-one : goal.returns-in_default-clause-one
returns-in_default-clause-one g c = one-unnumbered _ c.args.answered.now 3 _
