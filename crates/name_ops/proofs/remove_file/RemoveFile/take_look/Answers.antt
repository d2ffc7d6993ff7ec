use Rattle.std.proofs.Common.{ap, subst, ◌∙◌}
use Rattle.client_shelf.specs.Coming.{reply_of}
use Rattle.name_ops.specs.Looking.{found_by, look_again}
use Rattle.client_shelf.specs.Busy.{fails_busy, goes_again}
use Rattle.name_ops.specs.RemoveFile.{FollowsLook}
use Rattle.name_ops.proofs.Hearing.{heard-by}
use Rattle.name_ops.proofs.remove_file.RemoveFile.take_look.Goals as goal

pub returns : goal.returns
returns c =
    let old = c.args.shelf.now in
    let came = reply_of c.args.came.now in
    let heard = c.hear-busy.new.shelf in
    let told = c.found_by-told.ensures in
    let busy = c.hear-busy.ensures.told ∙ ap (λ told. goes_again (fails_busy told) c.args.sent c.args.turn old.repeats) told in
    record {
      heard = heard;
      hears = heard-by c.args.self.now.walk.spot.dir c.args.self.now.name c.args.sent c.args.turn came old heard c.found_by-told.result told c.hear-busy.ensures.attrs c.hear-busy.ensures.names c.hear-busy.ensures.frame;
      follows = subst (λ t. FollowsLook (look_again c.args.sent c.args.turn came old) t c.args.self.now c.args.turn.room heard c.follow_look.result c.follow_look.new.self c.follow_look.new.shelf) told
          (subst (λ b. FollowsLook b c.found_by-told.result c.args.self.now c.args.turn.room heard c.follow_look.result c.follow_look.new.self c.follow_look.new.shelf) busy c.follow_look.ensures);
    }
