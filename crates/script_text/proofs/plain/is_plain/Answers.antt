use Rattle.script_text.proofs.Plainly.{halves}
use Rattle.script_text.proofs.plain.is_plain.Goals as goal

pub returns : goal.returns
returns c = λ t.
    let high = c.least.ensures.high (c.all_high.ensures t) in
    halves c.args.text.now c.args.at (c.lowest.ensures.plain high.0) (c.lowest-2.ensures.plain high.1)
