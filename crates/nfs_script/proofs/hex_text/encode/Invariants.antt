use Rattle.std.proofs.Common.{◌≡◌, ◌*◌, take}
use Rattle.hex.specs.Hex.{encode_lower}
use Rattle.nfs_script.proofs.hex_text.encode.Given as goal

abbrev pub invariant-loop-group : goal.invariant-loop-group
invariant-loop-group l = take (2 * (64 * l.group)) l.digits ≡ encode_lower (take (64 * l.group) l.bytes)
