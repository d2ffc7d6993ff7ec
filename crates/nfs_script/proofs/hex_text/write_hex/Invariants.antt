use Rattle.std.proofs.Common.{◌≡◌, ◌++◌, length}
use Rattle.hex.specs.Hex.{encode_lower}
use Rattle.xdr_codec.specs.Spelling.{BeginsWith}
use Rattle.nfs_script.proofs.hex_text.write_hex.Given as goal

abbrev pub invariant-loop-left : goal.invariant-loop-left
invariant-loop-left l = record {
  begins : BeginsWith l.fn.out l.out;
  whole : l.out ++ encode_lower l.left ≡ l.fn.out ++ encode_lower l.bytes;
}

abbrev pub decreases-loop-left : goal.decreases-loop-left
decreases-loop-left l = length l.left
