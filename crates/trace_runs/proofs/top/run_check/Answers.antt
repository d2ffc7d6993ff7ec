-- What is told is told of what the source had left.
use Rattle.trace_runs.proofs.top.run_check.Goals as goal

pub returns-clause-says : goal.returns-clause-says
returns-clause-says g c = c.write_said.ensures.says (g.S.Source.left c.args.trace.now)
    (record { trace = c.in-Ok.text.items; read = c.in-Ok.ensures.text; told = rw c.as_slice.ensures.value at c.in-Ok-judge.ensures })
