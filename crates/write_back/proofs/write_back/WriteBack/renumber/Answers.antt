use Rattle.std.proofs.Common.{sym, ◌∙◌, ap, subst}
use Rattle.write_back.specs.Pieces.{pending_of}
use Rattle.write_back.specs.Sound.{IsSound}
use Rattle.write_back.specs.Landing.{with_xid}
use Rattle.write_back.proofs.OneFile.{counted-xid, free-here}
use Rattle.write_back.proofs.Through.{through-changed, sound-here}
use Rattle.write_back.proofs.Knowing.{loses-through, loses-xid}
use Rattle.write_back.proofs.Marking.{sound-xid, room-xid}
use Rattle.write_back.proofs.Totals.{total-same}
use Rattle.write_back.proofs.write_back.WriteBack.renumber.Goals as goal

pub invariant_of-self-2 : goal.invariant_of-self-2
invariant_of-self-2 c =
    record {
      counted = counted-xid c.self.inside.files (c.get_mut.follows.lender c.renumber.new.self) c.args.file.now c.in-Some.of.now c.renumber.new.self (sym c.in-Some.ensures.value) (c.get_mut.follows.holds c.renumber.new.self) c.args.xid c.args.to c.self.inside.total (rw (← c.self.view_is) at c.requires.free) c.self.invariant.counted c.renumber.ensures;
      aged = loses-through c.self.inside.files (c.get_mut.follows.lender c.renumber.new.self) c.args.file.now c.in-Some.of.now c.renumber.new.self (sym c.in-Some.ensures.value) (c.get_mut.follows.holds c.renumber.new.self) c.self.inside.ages c.self.inside.ages c.self.invariant.aged (loses-xid c.args.xid c.args.to c.in-Some.of.now c.renumber.new.self c.self.inside.ages c.renumber.ensures);
    }

pub returns-clause-pieces : goal.returns-clause-pieces
returns-clause-pieces c =
    rw (← c.self.view_is) (through-changed c.self.inside.files (c.get_mut.follows.lender c.renumber.new.self) c.args.file.now c.in-Some.of.now c.renumber.new.self (sym c.in-Some.ensures.value) (c.get_mut.follows.holds c.renumber.new.self) (with_xid c.args.xid c.args.to) c.renumber.ensures)

pub returns-clause-total : goal.returns-clause-total
returns-clause-total c =
    let found = sym c.in-Some.ensures.value in
    let sound = sound-here c.self.inside.files.entries c.args.file.now c.in-Some.of.now c.self.inside.total found c.self.invariant.counted in
    rw (← c.self.view_is) (total-same c.self.inside.files (c.get_mut.follows.lender c.renumber.new.self) c.args.file.now c.in-Some.of.now c.renumber.new.self found (c.get_mut.follows.holds c.renumber.new.self) c.self.inside.total c.self.invariant.counted
    (subst IsSound (sym c.renumber.ensures) (sound-xid c.args.xid c.args.to c.in-Some.of.now (free-here c.args.to c.args.file.now c.self.inside.files.entries c.in-Some.of.now found (rw (← c.self.view_is) at c.requires.free)) sound)) (ap pending_of c.renumber.ensures ∙ room-xid c.args.xid c.args.to c.in-Some.of.now))

pub renumber-requires : goal.renumber-requires
renumber-requires c = record { free = free-here c.args.to c.args.file.now c.self.inside.files.entries c.in-Some.of.now (sym c.in-Some.ensures.value) (rw (← c.self.view_is) at c.requires.free) }
