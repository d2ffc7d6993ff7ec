use Rattle.std.proofs.Common.{refl}
use Rattle.fetch_scripts.proofs.Givings.{piece-gave}
use Rattle.fetch_scripts.proofs.taking_files.take_read.Goals as goal

pub returns-in-None-clause-took : goal.returns-in-None-clause-took
returns-in-None-clause-took g c =
    piece-gave c.args.answers.now.text.now c.args.span.now c.args.at _ _ _ _ _ _ _ _ c.in-None.is c.bytes-3.ensures c.in_ok-write.ensures.told c.in-Some.ensures c.in-Some-after_ok.ensures
    c.in-Some-2.is c.in_ok-bytes.ensures (c.if-not-is_expected.ensures refl)
