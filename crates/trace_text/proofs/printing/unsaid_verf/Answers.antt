-- Eight zero bytes.
use Rattle.std.proofs.Common.{refl}
use Rattle.trace_text.proofs.printing.unsaid_verf.Goals as goal

pub returns : goal.returns
returns c = refl
