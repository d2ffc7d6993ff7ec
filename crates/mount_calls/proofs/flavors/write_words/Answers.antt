use Rattle.std.proofs.Common.{◌<◌, length, get_or, arith}
use Rattle.std.proofs.lemmas.List.{get_or_default}
use Rattle.xdr_codec.specs.Spelling.{u32_bytes}
use Rattle.mount_calls.proofs.ListLaws.{many_written}
use Rattle.mount_calls.proofs.Laws.{words_written}
use Rattle.mount_calls.proofs.flavors.write_words.Goals as goal

pub loop-word-preserved : goal.loop-word-preserved
loop-word-preserved c =
    let lt : c.loop-word.word-index < length c.args.list.now = omega (arith, c.loop-word-test.true) in
    many_written u32_bytes c.args.list.now c.loop-word.word-index (get_or c.args.list.now c.loop-word.word-index 0) _ _ _ lt (get_or_default _ _ _ _ lt) c.loop-word.invariant c.in_ok-u32.ensures.ok

pub returns-clause-spelled : goal.returns-clause-spelled
returns-clause-spelled c = words_written c.args.list.now (λ i. omega (arith, c.type_inv.list i))
