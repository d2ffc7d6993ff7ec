use Rattle.std.proofs.Common.{sym, subst}
use Rattle.write_back.specs.Waits.{AreSound}
use Rattle.write_back.proofs.WritesTold.{tells-first}
use Rattle.write_back.proofs.Totals.{none-told}
use Rattle.write_back.proofs.write_back.WriteBack.oldest.Goals as goal

pub returns-clause-file : goal.returns-clause-file
returns-clause-file c = rw (← c.self.view_is) (tells-first c.self.inside.files.entries c.self.inside.ages c.first.result c.self.invariant.aged c.self.invariant.counted.sound c.first.ensures)

pub returns-clause-nothing : goal.returns-clause-nothing
returns-clause-nothing c =
    let told = tells-first c.self.inside.files.entries c.self.inside.ages c.first.result c.self.invariant.aged c.self.invariant.counted.sound c.first.ensures in
    rw (← c.self.view_is) (none-told c.self.inside.files.entries c.first.result (subst AreSound (sym c.self.view_is) c.is_sound.ensures) told)
