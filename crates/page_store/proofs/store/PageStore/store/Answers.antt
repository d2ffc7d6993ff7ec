use Rattle.std.proofs.Common.{◌∙◌, ◌<◌, ap, length, refl}
use Rattle.page_store.specs.Pages.{page_of, stored_page}
use Rattle.page_store.proofs.PageLemmas.{stands-still, stands-closed, stands-put, pages-put}
use Rattle.page_store.proofs.store.PageStore.store.Goals as goal

pub returns-in_default-clause-stands : goal.returns-in_default-clause-stands
returns-in_default-clause-stands g c = rw (← c.self.view_is)
    (λ tells s stands. let low : c.args.slot < length c.self.inside.slots.items = rw (← c.self.view_is) at c.requires.slot in stands-still (length c.self.inside.slots.items) c.args.slot (g.D.Disk.may_leave c.self.inside.disk) c.self.inside.slots.items refl low stands)

pub returns-in-Ok-put_page-clause-leaves : goal.returns-in-Ok-put_page-clause-leaves
returns-in-Ok-put_page-clause-leaves g c = rw (← c.self.view_is)
    (λ tells n low s. c.put_page.ensures.leaves tells n low s (stored_page c.args.file.now c.args.stamp.now c.args.index c.args.bytes.now) (ap page_of c.bytes.ensures ∙ c.in-Ok.ensures.again))

pub returns-in-Ok-put_page-clause-stands : goal.returns-in-Ok-put_page-clause-stands
returns-in-Ok-put_page-clause-stands g c = rw (← c.self.view_is)
    (λ tells s stands. let low : c.args.slot < length c.self.inside.slots.items = rw (← c.self.view_is) at c.requires.slot in let page = stored_page c.args.file.now c.args.stamp.now c.args.index c.args.bytes.now in
    stands-put (length c.self.inside.slots.items) c.args.slot (g.D.Disk.may_leave c.self.inside.disk) (g.D.Disk.may_leave c.put_page.new.disk) c.self.inside.slots.items c.in-Ok.stored page
    (g.D.Disk.seen c.put_page.new.disk) refl low (c.put_page.ensures.beside tells (length c.self.inside.slots.items) low s) stands c.in-Ok.ensures.page
    (c.in-Ok-put_page.ensures.stored tells (length c.self.inside.slots.items) low s page (ap page_of c.bytes.ensures ∙ c.in-Ok.ensures.again)))

pub returns-in-Ok-put_page-clause-pages : goal.returns-in-Ok-put_page-clause-pages
returns-in-Ok-put_page-clause-pages g c = rw (← c.self.view_is)
    (pages-put c.args.slot c.self.inside.slots.items c.in-Ok.stored (stored_page c.args.file.now c.args.stamp.now c.args.index c.args.bytes.now) c.in-Ok.ensures.page)

pub returns-in-Err-clause-leaves : goal.returns-in-Err-clause-leaves
returns-in-Err-clause-leaves g c = rw (← c.self.view_is)
    (λ tells n low s. c.put_page.ensures.leaves tells n low s (stored_page c.args.file.now c.args.stamp.now c.args.index c.args.bytes.now) (ap page_of c.bytes.ensures ∙ c.in-Ok.ensures.again))

pub returns-in-Err-clause-stands : goal.returns-in-Err-clause-stands
returns-in-Err-clause-stands g c = rw (← c.self.view_is)
    (λ tells s stands. let low : c.args.slot < length c.self.inside.slots.items = rw (← c.self.view_is) at c.requires.slot in stands-closed (length c.self.inside.slots.items) c.args.slot (g.D.Disk.may_leave c.self.inside.disk) (g.D.Disk.may_leave c.put_page.new.disk) c.self.inside.slots.items
    refl low (c.put_page.ensures.beside tells (length c.self.inside.slots.items) low s) stands)

pub returns-in-Ok-put_page-clause-safe : goal.returns-in-Ok-put_page-clause-safe
returns-in-Ok-put_page-clause-safe g c = rw (← c.self.view_is) (λ tells n low s. c.put_page.ensures.safe tells n low s)

pub returns-in-Ok-put_page-clause-any_moment : goal.returns-in-Ok-put_page-clause-any_moment
returns-in-Ok-put_page-clause-any_moment g c = rw (← c.self.view_is)
    (λ tells n low s. c.put_page.ensures.any_moment tells n low s (stored_page c.args.file.now c.args.stamp.now c.args.index c.args.bytes.now) (ap page_of c.bytes.ensures ∙ c.in-Ok.ensures.again))

pub returns-in-Err-clause-safe : goal.returns-in-Err-clause-safe
returns-in-Err-clause-safe g c = rw (← c.self.view_is) (λ tells n low s. c.put_page.ensures.safe tells n low s)

pub returns-in-Err-clause-any_moment : goal.returns-in-Err-clause-any_moment
returns-in-Err-clause-any_moment g c = rw (← c.self.view_is)
    (λ tells n low s. c.put_page.ensures.any_moment tells n low s (stored_page c.args.file.now c.args.stamp.now c.args.index c.args.bytes.now) (ap page_of c.bytes.ensures ∙ c.in-Ok.ensures.again))

pub returns-in-Ok-put_page-clause-stored : goal.returns-in-Ok-put_page-clause-stored
returns-in-Ok-put_page-clause-stored g c = rw (← c.self.view_is)
    (λ tells n low s. c.in-Ok-put_page.ensures.stored tells n low s (stored_page c.args.file.now c.args.stamp.now c.args.index c.args.bytes.now) (ap page_of c.bytes.ensures ∙ c.in-Ok.ensures.again))
