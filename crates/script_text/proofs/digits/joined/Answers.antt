use Rattle.script_text.proofs.Lanewise.{joins}
use Rattle.script_text.proofs.digits.joined.Goals as goal

pub returns : goal.returns
returns c = λ h. joins 16 c.args.values c.requires h
