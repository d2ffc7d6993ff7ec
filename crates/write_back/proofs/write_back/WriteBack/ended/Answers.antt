use Rattle.std.proofs.Common.{sym, subst, arith}
use Rattle.std.specs.Prelude.{IfSome}
use Rattle.write_back.specs.Pieces.{piece_under}
use Rattle.write_back.specs.Places.{Lands}
use Rattle.write_back.specs.Landing.{landed, at_xid}
use Rattle.write_back.proofs.Limits.{most_is}
use Rattle.write_back.proofs.Replying.{IsLess, less-one, lands-one-at}
use Rattle.write_back.proofs.OneFile.{counted-less, then-changed, then-places}
use Rattle.write_back.proofs.Through.{sound-here}
use Rattle.write_back.proofs.Knowing.{loses-through}
use Rattle.write_back.proofs.Totals.{total-less}
use Rattle.write_back.proofs.write_back.WriteBack.ended.Goals as goal

pub overflow_add-self : goal.overflow_add-self
overflow_add-self c = omega (arith, most_is, c.self.invariant.counted.room, c.pending.ensures.most)

pub invariant_of-self : goal.invariant_of-self
invariant_of-self c =
    let found = sym c.in-Some.ensures.value in
    let sound = sound-here c.self.inside.files.entries c.args.file.now c.in-Some.of.now c.self.inside.total found c.self.invariant.counted in
    record {
      counted = counted-less c.self.inside.files (c.get_mut.follows.lender c.ended.new.self) c.args.file.now c.in-Some.of.now c.ended.new.self found (c.get_mut.follows.holds c.ended.new.self) c.self.inside.total c.pending-before.result c.pending.result c.self.invariant.counted c.pending-before.ensures.count c.pending.ensures.count
          (subst (IsLess c.in-Some.of.now) (sym c.ended.ensures.after) (less-one c.args.change c.args.xid c.in-Some.of.now c.requires sound));
      aged = loses-through c.self.inside.files (c.get_mut.follows.lender c.ended.new.self) c.args.file.now c.in-Some.of.now c.ended.new.self found (c.get_mut.follows.holds c.ended.new.self) c.self.inside.ages c.ended.new.ages c.self.invariant.aged c.ended.ensures.loses;
    }

pub returns-in-Some-clause-segments : goal.returns-in-Some-clause-segments
returns-in-Some-clause-segments c =
    rw (← c.self.view_is) (then-changed c.self.inside.files (c.get_mut.follows.lender c.ended.new.self) c.args.file.now c.in-Some.of.now c.ended.new.self (sym c.in-Some.ensures.value) (c.get_mut.follows.holds c.ended.new.self) c.tidy.new.self c.tidy.ensures.bytes (at_xid (landed c.args.change) c.args.xid) c.ended.ensures.after)

pub returns-in-Some-clause-places : goal.returns-in-Some-clause-places
returns-in-Some-clause-places c =
    let found = sym c.in-Some.ensures.value in
    let sound = sound-here c.self.inside.files.entries c.args.file.now c.in-Some.of.now c.self.inside.total found c.self.invariant.counted in
    let lands = lands-one-at c.args.change c.args.xid c.in-Some.of.now c.ended.new.self c.requires sound c.ended.ensures.after in
    rw (← c.self.view_is) (then-places c.self.inside.files (c.get_mut.follows.lender c.ended.new.self) c.args.file.now c.in-Some.of.now c.ended.new.self found (c.get_mut.follows.holds c.ended.new.self) c.tidy.new.self c.tidy.ensures.bytes
    (λ a b. IfSome (piece_under c.args.xid a.pieces) (λ piece. Lands piece 0 c.args.change c.args.change a b)) lands)

pub returns-in-Some-clause-total : goal.returns-in-Some-clause-total
returns-in-Some-clause-total c =
    let found = sym c.in-Some.ensures.value in
    let sound = sound-here c.self.inside.files.entries c.args.file.now c.in-Some.of.now c.self.inside.total found c.self.invariant.counted in
    let less = subst (IsLess c.in-Some.of.now) (sym c.ended.ensures.after) (less-one c.args.change c.args.xid c.in-Some.of.now c.requires sound) in
    let before = total-less c.self.inside.files (c.get_mut.follows.lender c.ended.new.self) c.args.file.now c.in-Some.of.now c.ended.new.self found (c.get_mut.follows.holds c.ended.new.self) c.self.inside.total c.self.invariant.counted less in
    rw (← c.self.view_is) (omega (arith, before, c.tidy.ensures.total))
