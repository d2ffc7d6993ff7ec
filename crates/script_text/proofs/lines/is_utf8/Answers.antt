use Rattle.std.proofs.Common.{◌∙◌}
use Rattle.script_text.proofs.Utf8.{is_text}
use Rattle.script_text.proofs.lines.is_utf8.Goals as goal

pub returns : goal.returns
returns c = c.is_ok.ensures.value ∙ is_text c.from_utf8.result c.args.line.now c.from_utf8.ensures
