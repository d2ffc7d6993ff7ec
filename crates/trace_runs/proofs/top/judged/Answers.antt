-- The verdict, and its status.
use Rattle.std.proofs.Common.{◌≡◌, arith}
use Rattle.trace_runs.specs.Verdicts.{IsVerdictOf, status_of, verdict_bytes}
use Rattle.trace_runs.proofs.Telling.{if-ok}
use Rattle.trace_runs.proofs.top.judged.Goals as goal

pub returns : goal.returns
returns c = if-ok c.told.result (λ said. (said.status ≡ status_of c.in_ok-check.field-0) × (said.text ≡ verdict_bytes c.in_ok-check.field-0))
    (λ said. IsVerdictOf c.args.trace.now said.status said.text)
    (λ said w. record {
      verdict = c.in_ok-check.field-0;
      says = λ origin is. c.in_ok-check.ensures.says (omega (arith, c.requires)) origin is;
      yes = λ origin is. c.in_ok-check.ensures.yes (omega (arith, c.requires)) origin is;
      status_is = w.0;
      text_is = w.1;
    }) c.told.ensures
