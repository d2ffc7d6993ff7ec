use Rattle.std.proofs.Common.{arith, ◌≡◌, ℕ, ◌+◌, ◌*◌, subst}
use Rattle.page_store.specs.Store.{HasZeros}
use Rattle.page_store.proofs.Zeros.{zeros-more}
use Rattle.page_store.proofs.format.write_pieces.Goals as goal

pub loop-piece-preserved : goal.loop-piece-preserved
loop-piece-preserved g c = record {
  zeros = λ tells.
      let on = c.loop-piece.invariant.goes_on tells in
      let at = 65600 * c.loop-piece.piece in
      let seen = g.D.Disk.seen c.write.new.self in
      let more = zeros-more at 65600 (g.D.Disk.seen c.loop-piece.disk) seen c.args.zeros.now (c.loop-piece.invariant.zeros tells) c.requires.zeros c.requires.length
      (c.in-Ok.ensures.written on) in
      let next : at + 65600 ≡ 65600 * (c.loop-piece.piece + 1) = omega arith in
      subst (λ (n : ℕ). HasZeros n seen) next more;
  goes_on = λ tells. c.write.ensures.goes_on (c.loop-piece.invariant.goes_on tells);
  later = let so_far = c.loop-piece.invariant.later in let this = c.write.ensures.cause.later in omega (arith, so_far, this);
}
