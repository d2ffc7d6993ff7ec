use Rattle.std.proofs.Common.{◌≡◌, sym, subst, arith}
use Rattle.std.specs.Prelude.{IfSome, OnOk}
use Rattle.write_back.specs.declared.change.Change.TheVariants as by
use Rattle.write_back.specs.Effects.{IsAnswer}
use Rattle.write_back.specs.Pieces.{piece_under}
use Rattle.write_back.specs.Places.{Lands}
use Rattle.write_back.specs.Landing.{landed, landed_part, at_xid, acked_by}
use Rattle.write_back.proofs.Landings.{answer-acked, answer-return}
use Rattle.write_back.proofs.Limits.{most_is}
use Rattle.write_back.proofs.Replying.{IsLess, less-part, less-one, either, lands-part-at, lands-one-at}
use Rattle.write_back.proofs.OneFile.{ok-then, err-then, counted-less, then-changed, then-places}
use Rattle.write_back.proofs.Through.{sound-here}
use Rattle.write_back.proofs.Knowing.{loses-through}
use Rattle.write_back.proofs.Totals.{total-less}
use Rattle.write_back.proofs.write_back.WriteBack.acked.Goals as goal

pub overflow_add-self : goal.overflow_add-self
overflow_add-self c = omega (arith, most_is, c.self.invariant.counted.room, c.pending.ensures.most)

pub invariant_of-self-2 : goal.invariant_of-self-2
invariant_of-self-2 c =
    let found = sym c.in-Some.ensures.value in
    let sound = sound-here c.self.inside.files.entries c.args.file.now c.in-Some.of.now c.self.inside.total found c.self.invariant.counted in
    let answer = subst IsAnswer (sym c.acked_by-change.ensures) (answer-acked c.args.committed c.args.verf) in
    record {
      counted = counted-less c.self.inside.files (c.get_mut.follows.lender c.acked-done.new.self) c.args.file.now c.in-Some.of.now c.acked-done.new.self found (c.get_mut.follows.holds c.acked-done.new.self) c.self.inside.total c.pending-before.result c.pending.result c.self.invariant.counted c.pending-before.ensures.count c.pending.ensures.count
          (either c.acked-done.result (IsLess c.in-Some.of.now) c.acked-done.new.self _ _ c.acked-done.ensures.ok c.acked-done.ensures.err
          (less-part c.acked_by-change.result c.args.count c.args.xid c.in-Some.of.now answer sound) (less-one by.Return c.args.xid c.in-Some.of.now answer-return sound));
      aged = loses-through c.self.inside.files (c.get_mut.follows.lender c.acked-done.new.self) c.args.file.now c.in-Some.of.now c.acked-done.new.self found (c.get_mut.follows.holds c.acked-done.new.self) c.self.inside.ages c.acked-done.new.ages c.self.invariant.aged c.acked-done.ensures.loses;
    }

pub returns-clause-ok : goal.returns-clause-ok
returns-clause-ok c =
    let ok = subst (λ change. OnOk c.acked-done.result (c.acked-done.new.self ≡ at_xid (landed_part change c.args.count) c.args.xid c.in-Some.of.now)) c.acked_by-change.ensures c.acked-done.ensures.ok in
    rw (← c.self.view_is) (ok-then c.acked-done.result _ _ ok
    (λ is. then-changed c.self.inside.files (c.get_mut.follows.lender c.acked-done.new.self) c.args.file.now c.in-Some.of.now c.acked-done.new.self (sym c.in-Some.ensures.value) (c.get_mut.follows.holds c.acked-done.new.self) c.tidy.new.self c.tidy.ensures.bytes (at_xid (landed_part (acked_by c.args.committed c.args.verf) c.args.count) c.args.xid) is))

pub returns-clause-err : goal.returns-clause-err
returns-clause-err c =
    rw (← c.self.view_is) (err-then c.acked-done.result _ _ c.acked-done.ensures.err
    (λ is. then-changed c.self.inside.files (c.get_mut.follows.lender c.acked-done.new.self) c.args.file.now c.in-Some.of.now c.acked-done.new.self (sym c.in-Some.ensures.value) (c.get_mut.follows.holds c.acked-done.new.self) c.tidy.new.self c.tidy.ensures.bytes (at_xid (landed by.Return) c.args.xid) is))

pub returns-clause-places : goal.returns-clause-places
returns-clause-places c =
    let found = sym c.in-Some.ensures.value in
    let sound = sound-here c.self.inside.files.entries c.args.file.now c.in-Some.of.now c.self.inside.total found c.self.invariant.counted in
    let ok = subst (λ change. OnOk c.acked-done.result (c.acked-done.new.self ≡ at_xid (landed_part change c.args.count) c.args.xid c.in-Some.of.now)) c.acked_by-change.ensures c.acked-done.ensures.ok in
    rw (← c.self.view_is) (ok-then c.acked-done.result _ _ ok
    (λ is. then-places c.self.inside.files (c.get_mut.follows.lender c.acked-done.new.self) c.args.file.now c.in-Some.of.now c.acked-done.new.self found (c.get_mut.follows.holds c.acked-done.new.self) c.tidy.new.self c.tidy.ensures.bytes
    (λ a b. IfSome (piece_under c.args.xid a.pieces) (λ piece. Lands piece c.args.count (acked_by c.args.committed c.args.verf) by.Return a b))
    (lands-part-at (acked_by c.args.committed c.args.verf) c.args.count c.args.xid c.in-Some.of.now c.acked-done.new.self (answer-acked c.args.committed c.args.verf) sound is)))

pub returns-clause-err_places : goal.returns-clause-err_places
returns-clause-err_places c =
    let found = sym c.in-Some.ensures.value in
    let sound = sound-here c.self.inside.files.entries c.args.file.now c.in-Some.of.now c.self.inside.total found c.self.invariant.counted in
    rw (← c.self.view_is) (err-then c.acked-done.result _ _ c.acked-done.ensures.err
    (λ is. then-places c.self.inside.files (c.get_mut.follows.lender c.acked-done.new.self) c.args.file.now c.in-Some.of.now c.acked-done.new.self found (c.get_mut.follows.holds c.acked-done.new.self) c.tidy.new.self c.tidy.ensures.bytes
    (λ a b. IfSome (piece_under c.args.xid a.pieces) (λ piece. Lands piece 0 by.Return by.Return a b))
    (lands-one-at by.Return c.args.xid c.in-Some.of.now c.acked-done.new.self answer-return sound is)))

pub returns-clause-total : goal.returns-clause-total
returns-clause-total c =
    let found = sym c.in-Some.ensures.value in
    let sound = sound-here c.self.inside.files.entries c.args.file.now c.in-Some.of.now c.self.inside.total found c.self.invariant.counted in
    let answer = subst IsAnswer (sym c.acked_by-change.ensures) (answer-acked c.args.committed c.args.verf) in
    let less = either c.acked-done.result (IsLess c.in-Some.of.now) c.acked-done.new.self _ _ c.acked-done.ensures.ok c.acked-done.ensures.err
    (less-part c.acked_by-change.result c.args.count c.args.xid c.in-Some.of.now answer sound) (less-one by.Return c.args.xid c.in-Some.of.now answer-return sound) in
    let before = total-less c.self.inside.files (c.get_mut.follows.lender c.acked-done.new.self) c.args.file.now c.in-Some.of.now c.acked-done.new.self found (c.get_mut.follows.holds c.acked-done.new.self) c.self.inside.total c.self.invariant.counted less in
    rw (← c.self.view_is) (omega (arith, before, c.tidy.ensures.total))
