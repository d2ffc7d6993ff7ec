use Rattle.std.proofs.Common.{sym, arith}
use Rattle.write_back.proofs.Counting.{on-removed, counted-removed}
use Rattle.write_back.proofs.Through.{no-piece, covers-here, counted-gone}
use Rattle.write_back.proofs.Knowing.{left-out, left-absent}
use Rattle.write_back.proofs.write_back.WriteBack.give_up.Goals as goal

pub leave-requires : goal.leave-requires
leave-requires c =
    let none = rw (← c.self.view_is) at c.requires in
    no-piece c.self.inside.files.entries c.args.file.now c.in-Some.of (sym c.in-Some.ensures.value) none

pub overflow_sub-self : goal.overflow_sub-self
overflow_sub-self c = rw c.pending.ensures.count (covers-here c.self.inside.files.entries c.args.file.now c.in-Some.of c.self.inside.total (sym c.in-Some.ensures.value) c.self.invariant.counted)

pub invariant_of-self : goal.invariant_of-self
invariant_of-self c = record {
  counted = rw c.pending.ensures.count (counted-removed c.self.inside.files c.remove.new.self c.args.file.now _ c.self.inside.total (sym c.in-Some.ensures.value) c.in-Some.ensures.updates c.in-Some.ensures.entries c.self.invariant.counted);
  aged = left-out c.self.inside.files c.remove.new.self c.args.file.now c.in-Some.ensures.updates c.in-Some.of c.self.inside.ages c.leave.new.ages (sym c.in-Some.ensures.value) c.leave.ensures c.self.invariant.aged;
}

pub invariant_of-self-in_default : goal.invariant_of-self-in_default
invariant_of-self-in_default c = record {
  counted = counted-gone c.self.inside.files c.remove.new.self c.args.file.now c.self.inside.total (sym c.in_default.ensures.value) c.in_default.ensures.updates c.in_default.ensures.entries c.self.invariant.counted;
  aged = left-absent c.self.inside.files c.remove.new.self c.args.file.now c.in_default.ensures.updates c.self.inside.ages (sym c.in_default.ensures.value) c.self.invariant.aged;
}

pub returns-in-Some-clause-bytes : goal.returns-in-Some-clause-bytes
returns-in-Some-clause-bytes c = rw (← c.self.view_is) (on-removed c.self.inside.files c.remove.new.self c.args.file.now c.in-Some.ensures.updates)

pub returns-in_default-clause-bytes : goal.returns-in_default-clause-bytes
returns-in_default-clause-bytes c = rw (← c.self.view_is) (on-removed c.self.inside.files c.remove.new.self c.args.file.now c.in_default.ensures.updates)

pub returns-in-Some-clause-total : goal.returns-in-Some-clause-total
returns-in-Some-clause-total c =
    let after = counted-removed c.self.inside.files c.remove.new.self c.args.file.now _ c.self.inside.total (sym c.in-Some.ensures.value) c.in-Some.ensures.updates c.in-Some.ensures.entries c.self.invariant.counted in
    rw (← c.self.view_is) (omega (arith, after.total, c.self.invariant.counted.total))

pub returns-in_default-clause-total : goal.returns-in_default-clause-total
returns-in_default-clause-total c =
    let after = counted-gone c.self.inside.files c.remove.new.self c.args.file.now c.self.inside.total (sym c.in_default.ensures.value) c.in_default.ensures.updates c.in_default.ensures.entries c.self.invariant.counted in
    rw (← c.self.view_is) (omega (arith, after.total, c.self.invariant.counted.total))
