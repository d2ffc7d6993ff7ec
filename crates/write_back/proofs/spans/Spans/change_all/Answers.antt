use Rattle.std.proofs.Common.{◌∙◌, arith}
use Rattle.write_back.proofs.Apart.{apart-changed}
use Rattle.write_back.proofs.Splitting.{changed-all, count-all}
use Rattle.write_back.proofs.spans.Spans.change_all.Goals as goal

pub invariant_of-self : goal.invariant_of-self
invariant_of-self c = rw (c.change.ensures.after) (apart-changed c.args.change 0 18446744073709551615 0 c.self.inside.map c.self.invariant)

pub returns-clause-after : goal.returns-clause-after
returns-clause-after c = rw (← c.self.view_is) (c.change.ensures.after ∙ changed-all c.args.change 18446744073709551615 0 c.self.inside.map c.self.invariant (omega arith))

pub returns-clause-count : goal.returns-clause-count
returns-clause-count c = rw (← c.self.view_is) (c.change.ensures.count ∙ count-all c.args.change 18446744073709551615 0 c.self.inside.map c.self.invariant (omega arith))
