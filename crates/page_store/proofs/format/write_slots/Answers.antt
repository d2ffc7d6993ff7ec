use Rattle.std.proofs.Common.{arith, ◌≡◌, ℕ, ◌+◌, ◌*◌, subst}
use Rattle.page_store.specs.Store.{HasZeros}
use Rattle.page_store.proofs.Zeros.{zeros-more}
use Rattle.page_store.proofs.format.write_slots.Goals as goal

pub loop-slot-preserved : goal.loop-slot-preserved
loop-slot-preserved g c = record {
  zeros = λ tells.
      let on = c.loop-slot.invariant.goes_on tells in
      let at = 4224 * c.loop-slot.slot in
      let seen = g.D.Disk.seen c.write.new.self in
      let more = zeros-more at 4224 (g.D.Disk.seen c.loop-slot.disk) seen c.args.zeros.now (c.loop-slot.invariant.zeros tells) c.requires.zeros c.requires.length
      (c.in-Ok.ensures.written on) in
      let next : at + 4224 ≡ 4224 * (c.loop-slot.slot + 1) = omega arith in
      subst (λ (n : ℕ). HasZeros n seen) next more;
  goes_on = λ tells. c.write.ensures.goes_on (c.loop-slot.invariant.goes_on tells);
  later = let so_far = c.loop-slot.invariant.later in let this = c.write.ensures.cause.later in omega (arith, so_far, this);
}
