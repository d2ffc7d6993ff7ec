use Rattle.std.proofs.Common.{ap, arith, ◌∙◌}
use Rattle.std.specs.Str.{is_utf8}
use Rattle.script_text.proofs.Fronts.{utf8_behind}
use Rattle.script_text.proofs.Plainly.{fewer}
use Rattle.script_text.proofs.lines.is_utf8_behind.Goals as goal

pub returns : goal.returns
returns c =
    c.is_utf8.ensures ∙ ap is_utf8 c.split_at.ensures.back
    ∙ utf8_behind c.min.result c.args.line.now (fewer c.args.line.now c.min.result c.args.plain (omega arith) c.requires)
