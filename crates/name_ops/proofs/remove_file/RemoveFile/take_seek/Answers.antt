use Rattle.std.proofs.Common.{ap, subst, ◌∙◌}
use Rattle.client_shelf.specs.Coming.{reply_of}
use Rattle.name_ops.specs.Looking.{found_by, look_again}
use Rattle.client_shelf.specs.Busy.{fails_busy, goes_again}
use Rattle.name_ops.specs.RemoveFile.{FollowsSeek}
use Rattle.name_ops.proofs.Hearing.{heard-by}
use Rattle.name_ops.proofs.remove_file.RemoveFile.take_seek.Goals as goal

pub returns : goal.returns
returns c =
    let old = c.args.shelf.now in
    let came = reply_of c.args.came.now in
    let heard = c.hear-busy.new.shelf in
    let told = c.found_by-told.ensures in
    let busy = c.hear-busy.ensures.told ∙ ap (λ told. goes_again (fails_busy told) c.args.sent c.args.turn old.repeats) told in
    record {
      heard = heard;
      hears = heard-by c.args.self.now.walk.spot.dir c.args.to c.args.sent c.args.turn came old heard c.found_by-told.result told c.hear-busy.ensures.attrs c.hear-busy.ensures.names c.hear-busy.ensures.frame;
      follows = subst (λ t. FollowsSeek (look_again c.args.sent c.args.turn came old) t c.args.file c.args.to c.args.self.now c.args.turn.room heard c.follow_seek.result c.follow_seek.new.self c.follow_seek.new.shelf) told
          (subst (λ b. FollowsSeek b c.found_by-told.result c.args.file c.args.to c.args.self.now c.args.turn.room heard c.follow_seek.result c.follow_seek.new.self c.follow_seek.new.shelf) busy c.follow_seek.ensures);
    }
