use Rattle.std.proofs.Common.{◌+◌, ◌*◌, arith}
use Rattle.nfs_script.proofs.Hexed.{begun_to}
use Rattle.nfs_script.proofs.hex_text.encode_blocks.Goals as goal

pub loop-block-init : goal.loop-block-init
loop-block-init c = c.requires.begun

pub loop-block-preserved : goal.loop-block-preserved
loop-block-preserved c = begun_to c.args.bytes.now _ (16 * c.loop-block.block + 16) (16 * (c.loop-block.block + 1)) (omega arith) c.encode_block.ensures

pub encode_rest-requires-clause-begun : goal.encode_rest-requires-clause-begun
encode_rest-requires-clause-begun c = begun_to c.args.bytes.now _ (16 * c.loop-block.block) _ (omega (arith, c.loop-block-test.false)) c.loop-block.invariant
