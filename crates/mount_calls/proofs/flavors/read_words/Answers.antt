use Rattle.std.proofs.Common.{◌<◌, ◌≤◌, length, arith}
use Rattle.mount_calls.specs.Flavors.{words_at}
use Rattle.mount_calls.proofs.ListLaws.{many_next, many_refused, many_ends, handed_on}
use Rattle.mount_calls.proofs.flavors.read_words.Goals as goal

pub returns-in_err-u32 : goal.returns-in_err-u32
unfolding words_at
returns-in_err-u32 c =
    let more : length c.words.list.items < c.args.count = omega (arith, c.words-test.true, c.len.ensures) in
    handed_on _ _ _ _ c.from_residual.ensures.1 (many_refused _ _ _ _ _ _ c.words.invariant more c.in_err-u32.ensures.exact.0)

pub words-preserved : goal.words-preserved
words-preserved c =
    let more : length c.words.list.items < c.args.count = omega (arith, c.words-test.true, c.len.ensures) in
    rw (c.in_ok-keep.ensures) (many_next _ _ _ _ _ _ _ c.words.invariant more c.in_ok-u32.ensures.exact)

pub returns : goal.returns
unfolding words_at
returns c =
    let all : c.args.count ≤ length c.words.list.items = omega (arith, c.words-test.false, c.len.ensures) in
    many_ends _ _ _ _ _ c.words.invariant all
