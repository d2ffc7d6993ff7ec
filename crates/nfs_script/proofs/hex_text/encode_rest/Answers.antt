use Rattle.std.proofs.Common.{ap, slice_index, arith}
use Rattle.hex.specs.Hex.{lower_digits}
use Rattle.hex.proofs.Pairs.{encode_step, encode_done}
use Rattle.nfs_script.proofs.Hexed.{begun_all}
use Rattle.nfs_script.proofs.hex_text.encode_rest.Goals as goal

pub loop-at-init : goal.loop-at-init
loop-at-init c = begun_all c.args.bytes.now c.args.digits.now c.args.from c.requires.begun

pub loop-at-preserved : goal.loop-at-preserved
loop-at-preserved c =
    let digit = slice_index lower_digits in
    encode_step lower_digits c.args.bytes.now c.loop-at.digits c.loop-at.at _ _ (omega arith) (omega arith) (ap digit c.from.ensures) (ap digit c.from-in-loop-at.ensures)
    c.loop-at.invariant

pub returns : goal.returns
returns c = encode_done lower_digits c.args.bytes.now c.loop-at.digits c.loop-at.at (omega arith) (omega arith) c.loop-at.invariant
