use Rattle.page_store.specs.Slots.{IsFromOr}
use Rattle.page_store.specs.Pages.{KeepsOnly}
use Rattle.page_store.proofs.Moments.{weaker}
use Rattle.page_store.proofs.PageLemmas.{keeps-only, has-page}
use Rattle.page_store.proofs.put.put_page.Goals as goal

pub returns-in-Ok-clause-leaves : goal.returns-in-Ok-clause-leaves
returns-in-Ok-clause-leaves g c = λ tells n low s page is i left.
    keeps-only n c.args.slot c.args.body.now page (g.D.Disk.may_leave c.args.disk.now) i c.requires.body is (c.put_body.ensures.leaves tells n low s i left)

pub returns-in-Err-clause-leaves : goal.returns-in-Err-clause-leaves
returns-in-Err-clause-leaves g c = λ tells n low s page is i left.
    keeps-only n c.args.slot c.args.body.now page (g.D.Disk.may_leave c.args.disk.now) i c.requires.body is (c.put_body.ensures.leaves tells n low s i left)

pub returns-in-Ok-clause-any_moment : goal.returns-in-Ok-clause-any_moment
returns-in-Ok-clause-any_moment g c = λ tells n low s page is.
    let old = g.D.Disk.may_leave c.args.disk.now in
    weaker g.D.Disk.moment g.D.Disk.left_since c.args.disk.now c.put_body.new.disk (IsFromOr n c.args.slot c.args.body.now old) (KeepsOnly n c.args.slot page old)
    (c.put_body.ensures.any_moment tells n low s) (λ i from. keeps-only n c.args.slot c.args.body.now page old i c.requires.body is from)

pub returns-in-Err-clause-any_moment : goal.returns-in-Err-clause-any_moment
returns-in-Err-clause-any_moment g c = λ tells n low s page is.
    let old = g.D.Disk.may_leave c.args.disk.now in
    weaker g.D.Disk.moment g.D.Disk.left_since c.args.disk.now c.put_body.new.disk (IsFromOr n c.args.slot c.args.body.now old) (KeepsOnly n c.args.slot page old)
    (c.put_body.ensures.any_moment tells n low s) (λ i from. keeps-only n c.args.slot c.args.body.now page old i c.requires.body is from)

pub returns-in-Ok-clause-stored : goal.returns-in-Ok-clause-stored
returns-in-Ok-clause-stored g c = λ tells n low s page is.
    let now = c.in-Ok.ensures.stored tells n low s in
    record { there = has-page (g.D.Disk.seen c.put_body.new.disk) c.args.body.now c.args.slot page now.0 now.1 c.requires.body is; only = now.2 }
