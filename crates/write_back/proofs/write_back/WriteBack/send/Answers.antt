use Rattle.std.proofs.Common.{Ok, refl, sym, subst, arith}
use Rattle.write_back.specs.Files.{IsCounted}
use Rattle.write_back.proofs.Limits.{most_is}
use Rattle.write_back.proofs.SendsOn.{puts-on}
use Rattle.write_back.proofs.OneFile.{err-of, counted-less, free-here}
use Rattle.write_back.proofs.Through.{through-same}
use Rattle.write_back.proofs.Knowing.{gains-through}
use Rattle.write_back.proofs.WritesTold.{kept-room}
use Rattle.write_back.proofs.write_back.WriteBack.send.Goals as goal

pub send-requires-clause-room : goal.send-requires-clause-room
send-requires-clause-room c = λ file n. kept-room c.self.inside.files.entries c.self.inside.ages file n c.self.invariant.aged (c.self.invariant.counted.sound file)

pub overflow_add-self : goal.overflow_add-self
overflow_add-self c = omega (arith, most_is, c.self.invariant.counted.room, c.pending.ensures.most)

pub invariant_of-self-in_err-done : goal.invariant_of-self-in_err-done
invariant_of-self-in_err-done c =
    let same = through-same c.self.inside.files (c.get_mut.follows.lender c.send.new.self) c.args.file.now c.in-Some.of.now c.send.new.self (sym c.in-Some.ensures.value) (c.get_mut.follows.holds c.send.new.self) c.in_err-done.ensures.err in
    record {
      counted = subst (λ entries. IsCounted entries c.self.inside.total) (sym same) c.self.invariant.counted;
      aged = gains-through c.self.inside.files (c.get_mut.follows.lender c.send.new.self) c.args.file.now c.in-Some.of.now c.send.new.self (sym c.in-Some.ensures.value) (c.get_mut.follows.holds c.send.new.self) c.self.inside.ages c.send.new.ages c.self.invariant.aged c.send.ensures.gains;
    }

pub returns-in_err-done-clause-err : goal.returns-in_err-done-clause-err
returns-in_err-done-clause-err c =
    rw (← c.self.view_is) (err-of c.from_residual.result _ (through-same c.self.inside.files (c.get_mut.follows.lender c.send.new.self) c.args.file.now c.in-Some.of.now c.send.new.self (sym c.in-Some.ensures.value) (c.get_mut.follows.holds c.send.new.self) c.in_err-done.ensures.err))

pub invariant_of-self-2 : goal.invariant_of-self-2
invariant_of-self-2 c =
    let found = sym c.in-Some.ensures.value in
    let writes = c.get_mut.follows.holds c.send.new.self in
    let puts = puts-on c.args.xid c.args.upto c.args.wsize c.self.inside.files (c.get_mut.follows.lender c.send.new.self) c.args.file.now c.in-Some.of.now c.send.new.self c.in_ok-done.done c.self.inside.total found (rw (← c.self.view_is) at c.requires.free) c.self.invariant.counted writes (Ok c.in_ok-done.done) refl c.in_ok-done.ensures.ok in
    record {
      counted = counted-less c.self.inside.files (c.get_mut.follows.lender c.send.new.self) c.args.file.now c.in-Some.of.now c.send.new.self found writes c.self.inside.total c.pending-before.result c.pending.result c.self.invariant.counted c.pending-before.ensures.count c.pending.ensures.count (puts.2.0, omega (arith, puts.2.1));
      aged = gains-through c.self.inside.files (c.get_mut.follows.lender c.send.new.self) c.args.file.now c.in-Some.of.now c.send.new.self (sym c.in-Some.ensures.value) (c.get_mut.follows.holds c.send.new.self) c.self.inside.ages c.send.new.ages c.self.invariant.aged c.send.ensures.gains;
    }

pub returns-clause-puts : goal.returns-clause-puts
returns-clause-puts c =
    let found = sym c.in-Some.ensures.value in
    rw (← c.self.view_is) (puts-on c.args.xid c.args.upto c.args.wsize c.self.inside.files (c.get_mut.follows.lender c.send.new.self) c.args.file.now c.in-Some.of.now c.send.new.self c.in_ok-done.done c.self.inside.total found (rw (← c.self.view_is) at c.requires.free) c.self.invariant.counted (c.get_mut.follows.holds c.send.new.self) (Ok c.in_ok-done.done) refl c.in_ok-done.ensures.ok).0

pub send-requires-clause-free : goal.send-requires-clause-free
send-requires-clause-free c = free-here c.args.xid c.args.file.now c.self.inside.files.entries c.in-Some.of.now (sym c.in-Some.ensures.value) (rw (← c.self.view_is) at c.requires.free)
