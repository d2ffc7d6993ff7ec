use Rattle.write_back.proofs.Losing.{loses-cut}
use Rattle.write_back.proofs.Keeping.{kept-cut}
use Rattle.write_back.proofs.Passed.{upto-cut}
use Rattle.write_back.proofs.file_bytes.FileBytes.cut.Goals as goal

pub invariant_of-self : goal.invariant_of-self
invariant_of-self c =
    let none = rw (← c.self.view_is) at c.requires in
    rw c.cut.ensures (record { kept = kept-cut c.args.size c.args.upto _ _ _ none c.self.invariant.kept; none = upto-cut _ _ c.args.size c.args.upto _ c.self.invariant.none })

pub returns-clause-loses : goal.returns-clause-loses
returns-clause-loses c = rw (← c.self.view_is) (loses-cut c.args.size c.args.upto (record { segments = c.self.inside.spans; pieces = c.self.inside.sent.items }) c.cut.new.self c.args.ages.now c.lessen_cut.new.ages c.cut.ensures c.lessen_cut.ensures)
