use Rattle.std.proofs.Common.{ap, subst}
use Rattle.client_shelf.specs.Coming.{reply_of}
use Rattle.file_ops.specs.Opening.{opening_again, led_on}
use Rattle.file_ops.specs.OpenFile.{Follows}
use Rattle.file_ops.proofs.Openings.{follows-before}
use Rattle.file_ops.proofs.open_file.OpenFile.took.Goals as goal

pub returns-clause-steps : goal.returns-clause-steps
returns-clause-steps c =
    let m = c.args.self.now in
    let reply = reply_of c.args.came.now in
    let same = ap (λ shelf. shelf.opens) c.took-step.ensures.frame in
    let before = follows-before (opening_again m.opening c.args.sent c.args.turn reply c.args.shelf.now.repeats) m _ c.args.turn (led_on m.opening c.args.turn.now reply c.took-step.new.shelf.attrs c.args.shelf.now.pages) c.took-step.ensures.machine _ _ _ _ c.follow.ensures in
    record {
      step = c.took-step.result;
      led = c.took-step.ensures.next;
      follows = subst (λ opens. Follows m c.took-step.result c.follow.result opens c.follow.new.opens) same before;
    }
