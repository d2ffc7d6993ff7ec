use Rattle.page_store.specs.Slots.{IsFrom}
use Rattle.page_store.specs.Rounds.{KeepsAll}
use Rattle.page_store.proofs.Moments.{weaker}
use Rattle.page_store.proofs.RoundLemmas.{keeps-all}
use Rattle.page_store.proofs.InMemory.{filled-under_way}
use Rattle.page_store.proofs.put.fill_page.Goals as goal

pub returns-in-Ok-clause-leaves : goal.returns-in-Ok-clause-leaves
returns-in-Ok-clause-leaves g c = λ tells n low shut s i left. keeps-all n (g.D.Disk.may_leave c.args.disk.now) i (c.lay_body.ensures.leaves tells n low shut s i left)

pub returns-in-Ok-clause-any_moment : goal.returns-in-Ok-clause-any_moment
returns-in-Ok-clause-any_moment g c = λ tells n low shut s.
    let old = g.D.Disk.may_leave c.args.disk.now in
    weaker g.D.Disk.moment g.D.Disk.left_since c.args.disk.now c.lay_body.new.disk (IsFrom n old) (KeepsAll n old) (c.lay_body.ensures.any_moment tells n low shut s) (keeps-all n old)

pub returns-in-Err-clause-leaves : goal.returns-in-Err-clause-leaves
returns-in-Err-clause-leaves g c = λ tells n low shut s i left. keeps-all n (g.D.Disk.may_leave c.args.disk.now) i (c.lay_body.ensures.leaves tells n low shut s i left)

pub returns-in-Err-clause-any_moment : goal.returns-in-Err-clause-any_moment
returns-in-Err-clause-any_moment g c = λ tells n low shut s.
    let old = g.D.Disk.may_leave c.args.disk.now in
    weaker g.D.Disk.moment g.D.Disk.left_since c.args.disk.now c.lay_body.new.disk (IsFrom n old) (KeepsAll n old) (c.lay_body.ensures.any_moment tells n low shut s) (keeps-all n old)

pub returns-in-Ok-clause-filled : goal.returns-in-Ok-clause-filled
returns-in-Ok-clause-filled g c = λ tells n low shut s round fits in_it page is u.
    filled-under_way n c.args.slot page round c.args.body.now (g.D.Disk.seen c.args.disk.now) (g.D.Disk.seen c.lay_body.new.disk) (g.D.Disk.may_leave c.args.disk.now)
    (g.D.Disk.may_leave c.lay_body.new.disk) fits in_it c.requires is (c.in-Ok.ensures.body tells) (c.lay_body.ensures.shut tells n low shut s) u
