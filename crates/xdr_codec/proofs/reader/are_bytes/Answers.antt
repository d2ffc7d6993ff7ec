use Rattle.std.proofs.Common.{arith}
use Rattle.xdr_codec.proofs.reader.are_bytes.Goals as goal

pub returns : goal.returns
returns c = λ i. omega (arith, c.type_inv.bytes i)
