use Rattle.page_store.proofs.PageLemmas.{is-opened}
use Rattle.page_store.proofs.store.PageStore.open_sized.Goals as goal

pub returns-in-Ok-clause-opened : goal.returns-in-Ok-clause-opened
returns-in-Ok-clause-opened g c = λ tells.
    let new = c.read_all.new.disk in
    is-opened c.args.slots (g.D.Disk.seen new) (g.D.Disk.may_leave c.args.disk) (g.D.Disk.may_leave new) c.in-Ok.slots.items
    (g.met.D.Disk.shows_one new (c.read_all.ensures.goes_on tells)) (c.in-Ok.ensures.only tells) (c.read_all.ensures.stays tells).fewer (c.in-Ok.ensures.shown tells)
