use Rattle.std.proofs.Common.{nat_lt, w8, arith}
use Rattle.std.proofs.lemmas.Simd.{bitmask_splat}
use Rattle.script_text.proofs.Plainly.{none_low}
use Rattle.script_text.proofs.plain.all_high.Goals as goal

pub returns : goal.returns
returns c = none_low _ c.args.lanes (bitmask_splat w8 nat_lt c.args.lanes 32 129 c.requires (omega arith))
