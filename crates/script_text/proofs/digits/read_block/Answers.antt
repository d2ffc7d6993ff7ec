use Rattle.std.proofs.Common.{ap, List, ℕ}
use Rattle.std.specs.Simd.Lanes.{put_chunk}
use Rattle.std.proofs.lemmas.Simd.{length-put_chunk}
use Rattle.script_text.proofs.digits.read_block.Goals as goal

pub returns-clause-bytes : goal.returns-clause-bytes
returns-clause-bytes c = λ h. ap (λ (l : List ℕ). put_chunk c.args.at c.args.bytes.now l) (c.joined.ensures h)

pub returns-clause-length : goal.returns-clause-length
returns-clause-length c = length-put_chunk c.args.at c.args.bytes.now c.joined.result
