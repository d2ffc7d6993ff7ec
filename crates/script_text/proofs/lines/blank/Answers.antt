use Rattle.script_text.specs.Lines.{is_blank}
use Rattle.script_text.proofs.Firsts.{first-is}
use Rattle.script_text.proofs.lines.blank.Goals as goal

pub returns : goal.returns
returns c = first-is is_blank c.args.line.now c.memchr2.result c.memchr2.ensures
