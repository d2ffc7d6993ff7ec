use Rattle.std.proofs.Common.{◌≡◌, ℕ, ap, ◌∙◌}
use Rattle.write_back.specs.States.{is_ready}
use Rattle.write_back.specs.Segments.{Segment}
use Rattle.write_back.specs.Walk.{begun_from, first_that}
use Rattle.write_back.proofs.Starting.{that-begun}
use Rattle.write_back.proofs.walks.first_ready.Goals as goal

pub loop-at-init : goal.loop-at-init
loop-at-init c =
    let walked : c.into_iter-at-iterator.result ≡ begun_from c.args.from c.args.map.now = cc in
    ap (first_that (λ (e : ℕ × Segment). is_ready e.1.state) 0) walked ∙ that-begun (λ (e : ℕ × Segment). is_ready e.1.state) c.args.from c.args.map.now
