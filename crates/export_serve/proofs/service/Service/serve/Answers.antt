use Rattle.std.proofs.Common.{rules, sym, ◌∙◌}
use Rattle.export_serve.proofs.Stepping.{left_by_memory}
use Rattle.export_serve.proofs.service.Service.serve.Goals as goal

pub returns-in_err-execute-in-Serve-clause-memory : goal.returns-in_err-execute-in-Serve-clause-memory
returns-in_err-execute-in-Serve-clause-memory c =
    left_by_memory _ c.args.rec.now c.args.self.now _ c.in-Serve.xid c.in-Serve.call (sym c.in_ok-asked.ensures.exact ∙ c.in-Serve.is) (search rules) c.in_err-execute-in-Serve.ensures.err
