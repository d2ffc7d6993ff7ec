use Rattle.std.proofs.Common.{refl}
use Rattle.fetch_scripts.proofs.Texts.{line-here}
use Rattle.fetch_scripts.proofs.answers.line_at.Goals as goal

pub returns : goal.returns
returns c =
    line-here c.args.text.now c.split_at.result.1.now c.first_line.result.0.now _ c.args.place (c.if-not-begins.ensures refl) c.split_at.ensures.back c.split_at.ensures.back_len
    c.first_line.ensures.first
