use Rattle.law_sides.proofs.Wholes.{sides-are-lawful}
use Rattle.law_sides.proofs.sides_are_lawful.Goals as goal

pub returns : goal.returns
returns c = sides-are-lawful
