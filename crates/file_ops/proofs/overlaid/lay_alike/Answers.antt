use Rattle.std.proofs.Common.{length-set, ◌∙◌, arith}
use Rattle.file_ops.proofs.Overlays.{laid-step, laid-all}
use Rattle.file_ops.proofs.overlaid.lay_alike.Goals as goal

pub loop-at-preserved : goal.loop-at-preserved
loop-at-preserved c =
    let test = c.loop-at-test.true in
    let size = c.loop-at.invariant.size in
    record {
      size = length-set c.loop-at.bytes c.loop-at.at c.alike_or.result ∙ size;
      bytes = laid-step c.args.lows.now c.args.highs.now c.args.bytes.now c.loop-at.bytes c.loop-at.at c.alike_or.result
          (omega (arith, test, c.min.ensures, c.min-count.ensures)) (omega (arith, test, c.min.ensures, c.min-count.ensures)) (omega (arith, test, c.min.ensures, c.min-count.ensures))
          size c.loop-at.invariant.bytes c.alike_or.ensures;
    }

pub returns-clause-bytes : goal.returns-clause-bytes
returns-clause-bytes c = λ at lt.
    let test = c.loop-at-test.false in
    c.loop-at.invariant.bytes at lt ∙ laid-all c.args.lows.now c.args.highs.now c.args.bytes.now c.loop-at.at at c.requires (omega (arith, test, c.min.ensures, c.min-count.ensures)) lt
