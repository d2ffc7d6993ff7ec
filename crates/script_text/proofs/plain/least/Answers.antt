use Rattle.std.proofs.Common.{◌∙◌, sym}
use Rattle.script_text.proofs.Plainly.{least_parts, length-least}
use Rattle.script_text.proofs.plain.least.Goals as goal

pub returns-clause-high : goal.returns-clause-high
returns-clause-high c = least_parts c.args.a c.args.b (c.requires.a ∙ sym c.requires.b)

pub returns-clause-many : goal.returns-clause-many
returns-clause-many c = length-least c.args.a c.args.b (c.requires.a ∙ sym c.requires.b) ∙ c.requires.a
