use Rattle.std.proofs.Common.{◌+◌, ◌*◌, ◌∙◌, refl, arith}
use Rattle.script_text.proofs.Pairwise.{more_seen, all_seen, seen_to}
use Rattle.script_text.proofs.digits.read_rest.Goals as goal

pub loop-block-init : goal.loop-block-init
loop-block-init c = record { kept = refl; read = c.requires.begun }

pub loop-block-preserved : goal.loop-block-preserved
loop-block-preserved c =
    let block = c.read_block-seen.ensures in
    let was = c.loop-block.invariant in
    let more = more_seen c.args.hex.now c.loop-block.bytes c.read_block-seen.new.bytes c.loop-block.seen c.read_block-seen.result (16 * c.loop-block.block) (16 * c.loop-block.block)
    (omega (arith, c.requires.twice, was.kept)) (omega (arith, was.kept, c.loop-block-test.true)) (omega arith) block.values block.bytes was.read in
    record { kept = block.length ∙ was.kept; read = seen_to c.args.hex.now _ _ (16 * c.loop-block.block + 16) (16 * (c.loop-block.block + 1)) (omega arith) more }

pub returns : goal.returns
returns c =
    let block = c.read_block-seen-2.ensures in
    let was = c.loop-block.invariant in
    let more = more_seen c.args.hex.now c.loop-block.bytes c.read_block-seen-2.new.bytes c.loop-block.seen c.read_block-seen-2.result (16 * c.loop-block.block) _
    (omega (arith, c.requires.twice, was.kept)) (omega (arith, was.kept, c.requires.some)) (omega (arith, was.kept, c.loop-block-test.false)) block.values block.bytes was.read in
    all_seen c.args.hex.now c.read_block-seen-2.new.bytes _ _ (omega (arith, c.requires.twice, was.kept, block.length)) (omega (arith, was.kept, block.length, c.requires.some)) more
