use Rattle.std.proofs.Common.{◌+◌, arith}
use Rattle.nfs_script.proofs.Hexed.{begun_to}
use Rattle.nfs_script.proofs.hex_text.encode_group.Goals as goal

pub encode_block-requires-3-clause-begun : goal.encode_block-requires-3-clause-begun
encode_block-requires-3-clause-begun c = begun_to c.args.bytes.now _ (c.args.at + 16 + 16) (c.args.at + 32) (omega arith) c.encode_block-2.ensures

pub encode_block-requires-4-clause-begun : goal.encode_block-requires-4-clause-begun
encode_block-requires-4-clause-begun c = begun_to c.args.bytes.now _ (c.args.at + 32 + 16) (c.args.at + 48) (omega arith) c.encode_block-3.ensures

pub returns : goal.returns
returns c = begun_to c.args.bytes.now _ (c.args.at + 48 + 16) (c.args.at + 64) (omega arith) c.encode_block-4.ensures
