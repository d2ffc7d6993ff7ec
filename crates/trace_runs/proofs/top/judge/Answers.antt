-- The verdict on what was read, or its first faulty line.
use Rattle.std.proofs.Common.{◌≡◌}
use Rattle.trace_runs.specs.Verdicts.{IsTold, IsVerdictOf, refusal_bytes}
use Rattle.trace_runs.specs.Verdicts as verdicts
use Rattle.trace_runs.proofs.Telling.{if-ok, judged-so}
use Rattle.trace_runs.proofs.top.judge.Goals as goal

pub returns-in-Ok : goal.returns-in-Ok
returns-in-Ok c = if-ok c.judged.result (λ said. IsVerdictOf c.in-Ok.trace said.status said.text) (λ said. IsTold c.args.text.now said.status said.text)
    (λ said on. judged-so c.args.text.now c.in-Ok.trace said.status said.text c.in-Ok.ensures.read on) c.judged.ensures

pub returns-in-Err-Line : goal.returns-in-Err-Line
returns-in-Err-Line c = if-ok c.refused.result (λ said. (said.status ≡ 9) × (said.text ≡ refusal_bytes c.in-Err-Line.line)) (λ said. IsTold c.args.text.now said.status said.text)
    (λ said w. verdicts.refused c.in-Err-Line.line (rw c.in-Err-Line.field-0-is at c.in-Err-Line.ensures.read) w.0 w.1) c.refused.ensures
