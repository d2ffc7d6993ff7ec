use Rattle.std.proofs.Common.{◌+◌, arith}
use Rattle.script_text.specs.Digits.{IsSeen}
use Rattle.script_text.proofs.Pairwise.{more_seen, seen_to}
use Rattle.script_text.proofs.digits.read_group.Goals as goal

pub returns-clause-seen : goal.returns-clause-seen
returns-clause-seen c =
    let hex = c.args.hex.now in
    let at = c.args.at in
    let fits = c.requires.fits in
    let twice = c.requires.twice in
    let a = c.read_block-first.ensures in
    let b = c.read_block-second.ensures in
    let d = c.read_block-third.ensures in
    let e = c.read_block-fourth.ensures in
    let first = c.read_block-first.new.bytes in
    let second = c.read_block-second.new.bytes in
    let third = c.read_block-third.new.bytes in
    let one : IsSeen hex first _ (at + 16) =
    more_seen hex c.args.bytes.now first _ _ at at (omega (arith, twice)) (omega (arith, fits)) (omega arith) a.values a.bytes c.requires.begun in
    let two : IsSeen hex second _ (at + 32) = seen_to hex _ _ (at + 16 + 16) (at + 32) (omega arith)
    (more_seen hex first second _ _ (at + 16) (at + 16) (omega (arith, twice, a.length)) (omega (arith, fits, a.length)) (omega arith) b.values b.bytes one) in
    let three : IsSeen hex third _ (at + 48) = seen_to hex _ _ (at + 32 + 16) (at + 48) (omega arith)
    (more_seen hex second third _ _ (at + 32) (at + 32) (omega (arith, twice, a.length, b.length)) (omega (arith, fits, a.length, b.length)) (omega arith)
    d.values d.bytes two) in
    seen_to hex _ _ (at + 48 + 16) (at + 64) (omega arith)
    (more_seen hex third c.read_block-fourth.new.bytes _ _ (at + 48) (at + 48) (omega (arith, twice, a.length, b.length, d.length))
    (omega (arith, fits, a.length, b.length, d.length)) (omega arith) e.values e.bytes three)
