use Rattle.std.proofs.Common.{◌∙◌, ap, Some, Option}
use Rattle.page_store.specs.Pages.{StoredPage}
use Rattle.page_store.specs.Rounds.{IsOpening}
use Rattle.page_store.proofs.Moments.{started, goes_on}
use Rattle.page_store.proofs.RoundLemmas.{opening-more}
use Rattle.page_store.proofs.rounds.open_filled.Goals as goal

pub returns-in-Some-clause-opening : goal.returns-in-Some-clause-opening
returns-in-Some-clause-opening g c = λ tells n low round there image each.
    let filled = there ∙ ap (λ (o : Option StoredPage). Some (Some o)) c.in-Some.is in
    opening-more n c.args.slot round c.in-Some.field-0 image (g.D.Disk.may_leave c.args.disk.now) (g.D.Disk.may_leave c.write.new.self) low filled (c.write.ensures.crash tells) each

pub returns-in-Some-clause-any_moment : goal.returns-in-Some-clause-any_moment
returns-in-Some-clause-any_moment g c = λ tells n low round there image each.
    let old = c.args.disk.now in
    let P = IsOpening n round image in
    let filled = there ∙ ap (λ (o : Option StoredPage). Some (Some o)) c.in-Some.is in
    let start = started g.D.Disk.moment g.D.Disk.left_since old P (g.D.Disk.may_leave old) (λ i left. g.met.D.Disk.only_now old tells i left) each in
    goes_on g.D.Disk.moment g.D.Disk.left_since old old c.write.new.self P (g.D.Disk.may_leave c.write.new.self) start (c.write.ensures.time tells)
    (opening-more n c.args.slot round c.in-Some.field-0 image (g.D.Disk.may_leave old) (g.D.Disk.may_leave c.write.new.self) low filled (c.write.ensures.crash tells) each)
