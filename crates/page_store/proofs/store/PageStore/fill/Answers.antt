use Rattle.std.proofs.Common.{◌≡◌, ◌<◌, ℕ, List, Option, Some, length, refl, sym, ◌∙◌, ap, subst, arith}
use Rattle.std.specs.Prelude.{set}
use Rattle.std.proofs.lemmas.Option.{slice_get_within}
use Rattle.page_store.specs.Pages.{StoredPage, page_of, stored_page}
use Rattle.page_store.specs.Rounds.{Round, IsIn, IsUnderWay}
use Rattle.page_store.proofs.InMemory.{all-long, in-low, in-hidden, round-fits, held-filled, stands-beside}
use Rattle.page_store.proofs.store.PageStore.fill.Goals as goal

pub returns-in_default-clause-stands : goal.returns-in_default-clause-stands
returns-in_default-clause-stands g c = rw (← c.self.view_is) (λ tells s stands. stands)

pub index_mut-requires : goal.index_mut-requires
index_mut-requires g c =
    let in_it : IsIn c.self.inside.round.items c.args.slot = subst (λ (r : Round). IsIn r c.args.slot) c.as_slice.ensures.value (c.is_in.ensures.0 c.if-not-is_in.false) in
    let low = slice_get_within c.self.inside.round.items c.args.slot (Some in_it.0) in_it.1 in
    let long = c.self.inside.round.ok.0 in
    omega (arith, low, long)

pub invariant_of-self-in-Ok-fill_page : goal.invariant_of-self-in-Ok-fill_page
invariant_of-self-in-Ok-fill_page g c =
    let in_it : IsIn c.self.inside.round.items c.args.slot = subst (λ (r : Round). IsIn r c.args.slot) c.as_slice.ensures.value (c.is_in.ensures.0 c.if-not-is_in.false) in
    held-filled c.args.slot c.in-Ok.stored c.self.inside.slots.items c.self.inside.round.items in_it c.self.invariant

pub returns-in-Ok-fill_page-clause-safe : goal.returns-in-Ok-fill_page-clause-safe
returns-in-Ok-fill_page-clause-safe g c = rw (← c.self.view_is) (λ tells n fits s u.
    let in_it : IsIn c.self.inside.round.items c.args.slot = subst (λ (r : Round). IsIn r c.args.slot) c.as_slice.ensures.value (c.is_in.ensures.0 c.if-not-is_in.false) in
    c.fill_page.ensures.safe tells n (in-low c.self.inside.slots.items c.self.inside.round.items c.args.slot n c.self.invariant in_it fits) (u.shut c.args.slot in_it) s)

pub returns-in-Ok-fill_page-clause-leaves : goal.returns-in-Ok-fill_page-clause-leaves
returns-in-Ok-fill_page-clause-leaves g c = rw (← c.self.view_is) (λ tells n fits s u.
    let in_it : IsIn c.self.inside.round.items c.args.slot = subst (λ (r : Round). IsIn r c.args.slot) c.as_slice.ensures.value (c.is_in.ensures.0 c.if-not-is_in.false) in
    c.fill_page.ensures.leaves tells n (in-low c.self.inside.slots.items c.self.inside.round.items c.args.slot n c.self.invariant in_it fits) (u.shut c.args.slot in_it) s)

pub returns-in-Ok-fill_page-clause-any_moment : goal.returns-in-Ok-fill_page-clause-any_moment
returns-in-Ok-fill_page-clause-any_moment g c = rw (← c.self.view_is) (λ tells n fits s u.
    let in_it : IsIn c.self.inside.round.items c.args.slot = subst (λ (r : Round). IsIn r c.args.slot) c.as_slice.ensures.value (c.is_in.ensures.0 c.if-not-is_in.false) in
    c.fill_page.ensures.any_moment tells n (in-low c.self.inside.slots.items c.self.inside.round.items c.args.slot n c.self.invariant in_it fits) (u.shut c.args.slot in_it) s)

pub returns-in-Ok-fill_page-clause-stands : goal.returns-in-Ok-fill_page-clause-stands
returns-in-Ok-fill_page-clause-stands g c = rw (← c.self.view_is) (λ tells s stands.
    let in_it : IsIn c.self.inside.round.items c.args.slot = subst (λ (r : Round). IsIn r c.args.slot) c.as_slice.ensures.value (c.is_in.ensures.0 c.if-not-is_in.false) in
    stands-beside (length c.self.inside.slots.items) c.args.slot (g.D.Disk.may_leave c.self.inside.disk) (g.D.Disk.may_leave c.fill_page.new.disk) c.self.inside.slots.items refl (in-hidden c.self.inside.slots.items c.self.inside.round.items c.args.slot c.self.invariant in_it)
    (c.fill_page.ensures.beside tells (length c.self.inside.slots.items) (in-low c.self.inside.slots.items c.self.inside.round.items c.args.slot (length c.self.inside.slots.items) c.self.invariant in_it (all-long c.self.inside.slots.items)) s) stands)

pub returns-in-Err-clause-safe : goal.returns-in-Err-clause-safe
returns-in-Err-clause-safe g c = rw (← c.self.view_is) (λ tells n fits s u.
    let in_it : IsIn c.self.inside.round.items c.args.slot = subst (λ (r : Round). IsIn r c.args.slot) c.as_slice.ensures.value (c.is_in.ensures.0 c.if-not-is_in.false) in
    c.fill_page.ensures.safe tells n (in-low c.self.inside.slots.items c.self.inside.round.items c.args.slot n c.self.invariant in_it fits) (u.shut c.args.slot in_it) s)

pub returns-in-Err-clause-leaves : goal.returns-in-Err-clause-leaves
returns-in-Err-clause-leaves g c = rw (← c.self.view_is) (λ tells n fits s u.
    let in_it : IsIn c.self.inside.round.items c.args.slot = subst (λ (r : Round). IsIn r c.args.slot) c.as_slice.ensures.value (c.is_in.ensures.0 c.if-not-is_in.false) in
    c.fill_page.ensures.leaves tells n (in-low c.self.inside.slots.items c.self.inside.round.items c.args.slot n c.self.invariant in_it fits) (u.shut c.args.slot in_it) s)

pub returns-in-Err-clause-any_moment : goal.returns-in-Err-clause-any_moment
returns-in-Err-clause-any_moment g c = rw (← c.self.view_is) (λ tells n fits s u.
    let in_it : IsIn c.self.inside.round.items c.args.slot = subst (λ (r : Round). IsIn r c.args.slot) c.as_slice.ensures.value (c.is_in.ensures.0 c.if-not-is_in.false) in
    c.fill_page.ensures.any_moment tells n (in-low c.self.inside.slots.items c.self.inside.round.items c.args.slot n c.self.invariant in_it fits) (u.shut c.args.slot in_it) s)

pub returns-in-Err-clause-stands : goal.returns-in-Err-clause-stands
returns-in-Err-clause-stands g c = rw (← c.self.view_is) (λ tells s stands.
    let in_it : IsIn c.self.inside.round.items c.args.slot = subst (λ (r : Round). IsIn r c.args.slot) c.as_slice.ensures.value (c.is_in.ensures.0 c.if-not-is_in.false) in
    stands-beside (length c.self.inside.slots.items) c.args.slot (g.D.Disk.may_leave c.self.inside.disk) (g.D.Disk.may_leave c.fill_page.new.disk) c.self.inside.slots.items refl (in-hidden c.self.inside.slots.items c.self.inside.round.items c.args.slot c.self.invariant in_it)
    (c.fill_page.ensures.beside tells (length c.self.inside.slots.items) (in-low c.self.inside.slots.items c.self.inside.round.items c.args.slot (length c.self.inside.slots.items) c.self.invariant in_it (all-long c.self.inside.slots.items)) s) stands)

pub returns-in-Ok-fill_page-clause-under_way : goal.returns-in-Ok-fill_page-clause-under_way
returns-in-Ok-fill_page-clause-under_way g c = rw (← c.self.view_is) (λ tells s u.
    let in_it : IsIn c.self.inside.round.items c.args.slot = subst (λ (r : Round). IsIn r c.args.slot) c.as_slice.ensures.value (c.is_in.ensures.0 c.if-not-is_in.false) in
    let page = (stored_page c.args.file.now c.args.stamp.now c.args.index c.args.bytes.now) in
    subst (λ (p : StoredPage). IsUnderWay (g.D.Disk.seen c.fill_page.new.disk) (g.D.Disk.may_leave c.fill_page.new.disk) (set c.self.inside.round.items c.args.slot (Some (Some p)))) (sym c.in-Ok.ensures.page)
    (c.in-Ok-fill_page.ensures.filled tells (length c.self.inside.slots.items) (in-low c.self.inside.slots.items c.self.inside.round.items c.args.slot (length c.self.inside.slots.items) c.self.invariant in_it (all-long c.self.inside.slots.items)) (u.shut c.args.slot in_it) s c.self.inside.round.items (round-fits c.self.inside.slots.items c.self.inside.round.items (length c.self.inside.slots.items) c.self.invariant (all-long c.self.inside.slots.items)) in_it page
    (ap page_of c.bytes.ensures ∙ c.in-Ok.ensures.again) u))
