use Rattle.std.proofs.Common.{nat_eq, arith}
use Rattle.std.specs.Cmp.Lexicographic.{pointwise}
use Rattle.attr_cache.proofs.Fronting.{length-removed}
use Rattle.attr_cache.proofs.cache.take_out.Goals as goal

pub returns-clause-room : goal.returns-clause-room
returns-clause-room c = rw c.pop.ensures.entries (c.requires.0, omega (arith, length-removed (pointwise nat_eq c.args.file.now) c.args.table.now.entries, c.requires.1))
