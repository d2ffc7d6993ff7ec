use Rattle.std.proofs.Common.{◌≡◌, ◌+◌, ◌-◌, sym, ap, ◌∙◌, length, take, drop, arith}
use Rattle.write_back.proofs.Showing.{shown-zero, shown-part}
use Rattle.write_back.proofs.walks.show.Goals as goal

pub returns-then-size-eq0 : goal.returns-then-size-eq0
returns-then-size-eq0 c =
    sym (shown-zero c.args.at c.args.segment.now c.args.offset c.saturating_sub-skip.result c.saturating_sub-start.result _ c.args.buf.now c.saturating_sub-skip.ensures c.saturating_sub-start.ensures (omega (arith, ap length c.bytes-bytes.ensures)) c.if-size-eq0.true)

pub returns : goal.returns
returns c =
    let size : (c.saturating_sub-skip.result + c.min-size.result) - c.saturating_sub-skip.result ≡ c.min-size.result = omega arith in
    c.overwrite.ensures
    ∙ shown-part c.args.at c.args.segment.now c.args.offset c.saturating_sub-skip.result c.saturating_sub-start.result c.min-size.result c.args.buf.now _ c.saturating_sub-skip.ensures c.saturating_sub-start.ensures (omega (arith, ap length c.bytes-bytes.ensures)) (omega arith)
    (ap (λ n. take n (drop c.saturating_sub-skip.result c.bytes-bytes.result.now)) size ∙ ap (λ bytes. take c.min-size.result (drop c.saturating_sub-skip.result bytes)) c.bytes-bytes.ensures)
