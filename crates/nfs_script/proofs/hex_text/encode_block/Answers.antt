use Rattle.std.proofs.Common.{◌+◌, arith}
use Rattle.nfs_script.proofs.Hexed.{begun_to}
use Rattle.nfs_script.proofs.hex_text.encode_block.Goals as goal

pub returns : goal.returns
returns c = begun_to c.args.bytes.now _ (c.args.at + 8 + 8) (c.args.at + 16) (omega arith) c.encode_half-2.ensures
