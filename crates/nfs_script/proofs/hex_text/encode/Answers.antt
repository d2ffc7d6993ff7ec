use Rattle.std.proofs.Common.{◌+◌, ◌*◌, arith}
use Rattle.nfs_script.proofs.Hexed.{begun_none, begun_to}
use Rattle.nfs_script.proofs.hex_text.encode.Goals as goal

pub loop-group-init : goal.loop-group-init
loop-group-init c = begun_none c.args.bytes.now c.args.digits.now

pub loop-group-preserved : goal.loop-group-preserved
loop-group-preserved c = begun_to c.args.bytes.now _ (64 * c.loop-group.group + 64) (64 * (c.loop-group.group + 1)) (omega arith) c.encode_group.ensures

pub encode_blocks-requires-clause-begun : goal.encode_blocks-requires-clause-begun
encode_blocks-requires-clause-begun c = begun_to c.args.bytes.now _ (64 * c.loop-group.group) _ (omega (arith, c.loop-group-test.false)) c.loop-group.invariant
