use Rattle.std.proofs.Common.{ap, ◌∙◌}
use Rattle.client_shelf.specs.Coming.{reply_of}
use Rattle.name_ops.specs.Looking.{found_by, look_again}
use Rattle.client_shelf.specs.Busy.{fails_busy, goes_again}
use Rattle.name_ops.specs.Walking.{followed_next, followed_walk, followed_shelf}
use Rattle.name_ops.proofs.Hearing.{heard-by}
use Rattle.name_ops.proofs.walk.Walk.take.Goals as goal

pub returns : goal.returns
returns c =
    let old = c.args.shelf.now in
    let came = reply_of c.args.came.now in
    let heard = c.hear-busy.new.shelf in
    let told = c.found_by-told.ensures in
    let is_again = look_again c.args.sent c.args.turn came old in
    let busy = c.hear-busy.ensures.told ∙ ap (λ told. goes_again (fails_busy told) c.args.sent c.args.turn old.repeats) told in
    record {
      heard = heard;
      hears = heard-by c.args.self.now.spot.dir c.args.name.now c.args.sent c.args.turn came old heard c.found_by-told.result told c.hear-busy.ensures.attrs c.hear-busy.ensures.names c.hear-busy.ensures.frame;
      next_is = c.follow.ensures.next ∙ ap (λ b. followed_next b c.args.self.now c.args.name.now c.found_by-told.result c.args.turn heard) busy ∙ ap (λ told. followed_next is_again c.args.self.now c.args.name.now told c.args.turn heard) told;
      walk_is = c.follow.ensures.machine ∙ ap (λ b. followed_walk b c.args.self.now c.found_by-told.result c.args.turn heard) busy ∙ ap (λ told. followed_walk is_again c.args.self.now told c.args.turn heard) told;
      shelf_is = c.follow.ensures.shelf ∙ ap (λ b. followed_shelf b c.args.self.now c.found_by-told.result c.args.turn heard) busy ∙ ap (λ told. followed_shelf is_again c.args.self.now told c.args.turn heard) told;
    }
