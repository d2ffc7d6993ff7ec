use Rattle.std.proofs.Common.{refl, sym, subst}
use Rattle.write_back.specs.declared.ages.Age.{Age}
use Rattle.write_back.specs.Ages.{HaveBytes}
use Rattle.write_back.proofs.Aging.{enters, have-inserted}
use Rattle.write_back.proofs.ages.Ages.enter.Goals as goal

pub invariant_of-self-2 : goal.invariant_of-self-2
invariant_of-self-2 c =
    let age : Age = record { file = c.args.file.now; bytes = c.args.bytes } in
    subst HaveBytes (sym c.in_ok-insert.ensures.entries) (have-inserted c.args.number c.self.inside.writes.entries age c.requires.some c.self.invariant)

pub returns-clause-ok : goal.returns-clause-ok
returns-clause-ok c =
    let age : Age = record { file = c.args.file.now; bytes = c.args.bytes } in
    rw (← c.self.view_is) (enters c.self.inside.writes c.insert.new.self c.args.number c.args.bytes c.args.file.now age refl refl c.in_ok-insert.ensures.updates)
