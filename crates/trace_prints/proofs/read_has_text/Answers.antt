-- Line by line.
use Rattle.std.proofs.Common.{arith}
use Rattle.trace_prints.proofs.HasTexts.{text-has-text}
use Rattle.trace_prints.proofs.read_has_text.Goals as goal

pub returns : goal.returns
returns c = λ told is says written. text-has-text c.args.text.now c.args.trace.now told (λ i. omega (arith, c.type_inv.text i)) is says written
