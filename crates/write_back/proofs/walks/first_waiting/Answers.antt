use Rattle.std.proofs.Common.{◌≡◌, ℕ, ap, ◌∙◌}
use Rattle.write_back.specs.Cursor.{waits_upto}
use Rattle.write_back.specs.Segments.{Segment}
use Rattle.write_back.specs.Walk.{begun_from, first_that}
use Rattle.write_back.proofs.Starting.{that-begun}
use Rattle.write_back.proofs.walks.first_waiting.Goals as goal

pub loop-at-init : goal.loop-at-init
loop-at-init c =
    let walked : c.into_iter-at-iterator.result ≡ begun_from c.args.from c.args.map.now = cc in
    ap (first_that (λ (e : ℕ × Segment). waits_upto c.args.upto e.1) 0) walked ∙ that-begun (λ (e : ℕ × Segment). waits_upto c.args.upto e.1) c.args.from c.args.map.now
