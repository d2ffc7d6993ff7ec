use Rattle.std.proofs.Common.{◌≡◌, ◌*◌, take}
use Rattle.hex.specs.Hex.{encode_lower}
use Rattle.nfs_script.proofs.hex_text.encode_blocks.Given as goal

abbrev pub invariant-loop-block : goal.invariant-loop-block
invariant-loop-block l = take (2 * (16 * l.block)) l.digits ≡ encode_lower (take (16 * l.block) l.bytes)
