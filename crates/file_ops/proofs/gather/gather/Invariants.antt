use Rattle.std.proofs.Common.{◌≡◌}
use Rattle.file_ops.specs.Gather.{gathered}
use Rattle.file_ops.proofs.gather.gather.Given as goal

abbrev pub invariant-loop : goal.invariant-loop
invariant-loop l = record { found = l.found; base = l.base; pages = l.pages } ≡ gathered l.file l.counter l.fn.base l.fn.pages
