use Rattle.std.proofs.Common.{◌≡◌, ◌≤◌, ℕ, List, [], Option, length, refl, sym, subst}
use Rattle.std.specs.Prelude.{OnOk}
use Rattle.page_store.specs.Disk.{Every, LeavesOnly}
use Rattle.page_store.specs.Slots.{IsSound}
use Rattle.page_store.specs.Pages.{StoredPage}
use Rattle.page_store.specs.Rounds.{Round, IsUnderWay, IsOutside, IsEnded, KeepsOrFills, AreHeld, AreEnded}
use Rattle.page_store.proofs.InMemory.{all-long, round-fits, held-none, held-long, stands-outside, stands-ended}
use Rattle.page_store.proofs.store.PageStore.finish.Goals as goal

pub end_round-requires : goal.end_round-requires
end_round-requires g c =
    subst (λ (r : Round). length r ≤ 65536) (sym c.as_slice.ensures.value) (round-fits c.self.inside.slots.items c.self.inside.round.items 65536 c.self.invariant c.self.invariant.1)

pub invariant_of-self : goal.invariant_of-self
invariant_of-self g c =
    let none : c.truncate.new.self.items ≡ [] = c.truncate.ensures.items in
    subst (λ (r : Round). AreHeld c.show_filled.new.pages.items r) (sym none)
    (held-long c.self.inside.slots.items c.show_filled.new.pages.items c.self.inside.round.items c.self.invariant c.show_filled.ensures.length)

pub invariant_of-self-in-Err : goal.invariant_of-self-in-Err
invariant_of-self-in-Err g c =
    let none : c.truncate-in-Err.new.self.items ≡ [] = c.truncate-in-Err.ensures.items in
    subst (λ (r : Round). AreHeld c.self.inside.slots.items r) (sym none) (held-none c.self.inside.slots.items c.self.inside.round.items c.self.invariant)

pub returns-in-Ok-clause-safe : goal.returns-in-Ok-clause-safe
returns-in-Ok-clause-safe g c = rw (← c.self.view_is) (λ tells n fits s.
    subst (λ (r : Round). length r ≤ n → IsSound n (g.D.Disk.may_leave c.self.inside.disk) → IsSound n (g.D.Disk.may_leave c.end_round.new.disk)) c.as_slice.ensures.value (c.end_round.ensures.safe tells n) (round-fits c.self.inside.slots.items c.self.inside.round.items n c.self.invariant fits) s)

pub returns-in-Ok-clause-leaves : goal.returns-in-Ok-clause-leaves
returns-in-Ok-clause-leaves g c = rw (← c.self.view_is) (λ tells n fits s u.
    subst (λ (r : Round). length r ≤ n → IsSound n (g.D.Disk.may_leave c.self.inside.disk) → IsUnderWay (g.D.Disk.seen c.self.inside.disk) (g.D.Disk.may_leave c.self.inside.disk) r → Every (g.D.Disk.may_leave c.end_round.new.disk) (KeepsOrFills n r (g.D.Disk.may_leave c.self.inside.disk))) c.as_slice.ensures.value (c.end_round.ensures.leaves tells n)
    (round-fits c.self.inside.slots.items c.self.inside.round.items n c.self.invariant fits) s u)

pub returns-in-Ok-clause-any_moment : goal.returns-in-Ok-clause-any_moment
returns-in-Ok-clause-any_moment g c = rw (← c.self.view_is) (λ tells n fits s u.
    subst (λ (r : Round). length r ≤ n → IsSound n (g.D.Disk.may_leave c.self.inside.disk) → IsUnderWay (g.D.Disk.seen c.self.inside.disk) (g.D.Disk.may_leave c.self.inside.disk) r → LeavesOnly g.D.Disk.moment g.D.Disk.left_since c.self.inside.disk c.end_round.new.disk (KeepsOrFills n r (g.D.Disk.may_leave c.self.inside.disk)))
    c.as_slice.ensures.value (c.end_round.ensures.any_moment tells n) (round-fits c.self.inside.slots.items c.self.inside.round.items n c.self.invariant fits) s u)

pub returns-in-Err-clause-safe : goal.returns-in-Err-clause-safe
returns-in-Err-clause-safe g c = rw (← c.self.view_is) (λ tells n fits s.
    subst (λ (r : Round). length r ≤ n → IsSound n (g.D.Disk.may_leave c.self.inside.disk) → IsSound n (g.D.Disk.may_leave c.end_round.new.disk)) c.as_slice.ensures.value (c.end_round.ensures.safe tells n) (round-fits c.self.inside.slots.items c.self.inside.round.items n c.self.invariant fits) s)

pub returns-in-Err-clause-leaves : goal.returns-in-Err-clause-leaves
returns-in-Err-clause-leaves g c = rw (← c.self.view_is) (λ tells n fits s u.
    subst (λ (r : Round). length r ≤ n → IsSound n (g.D.Disk.may_leave c.self.inside.disk) → IsUnderWay (g.D.Disk.seen c.self.inside.disk) (g.D.Disk.may_leave c.self.inside.disk) r → Every (g.D.Disk.may_leave c.end_round.new.disk) (KeepsOrFills n r (g.D.Disk.may_leave c.self.inside.disk))) c.as_slice.ensures.value (c.end_round.ensures.leaves tells n)
    (round-fits c.self.inside.slots.items c.self.inside.round.items n c.self.invariant fits) s u)

pub returns-in-Err-clause-any_moment : goal.returns-in-Err-clause-any_moment
returns-in-Err-clause-any_moment g c = rw (← c.self.view_is) (λ tells n fits s u.
    subst (λ (r : Round). length r ≤ n → IsSound n (g.D.Disk.may_leave c.self.inside.disk) → IsUnderWay (g.D.Disk.seen c.self.inside.disk) (g.D.Disk.may_leave c.self.inside.disk) r → LeavesOnly g.D.Disk.moment g.D.Disk.left_since c.self.inside.disk c.end_round.new.disk (KeepsOrFills n r (g.D.Disk.may_leave c.self.inside.disk)))
    c.as_slice.ensures.value (c.end_round.ensures.any_moment tells n) (round-fits c.self.inside.slots.items c.self.inside.round.items n c.self.invariant fits) s u)

pub returns-in-Ok-clause-ended : goal.returns-in-Ok-clause-ended
returns-in-Ok-clause-ended g c = rw (← c.self.view_is) (λ tells s u. subst (λ (r : Round). length r ≤ length c.self.inside.slots.items → IsSound (length c.self.inside.slots.items) (g.D.Disk.may_leave c.self.inside.disk) → IsUnderWay (g.D.Disk.seen c.self.inside.disk) (g.D.Disk.may_leave c.self.inside.disk) r → IsEnded r (g.D.Disk.seen c.end_round.new.disk) (g.D.Disk.may_leave c.end_round.new.disk)) c.as_slice.ensures.value (c.in-Ok.ensures.ended tells (length c.self.inside.slots.items)) (round-fits c.self.inside.slots.items c.self.inside.round.items (length c.self.inside.slots.items) c.self.invariant (all-long c.self.inside.slots.items)) s u)

pub returns-in-Ok-clause-stands : goal.returns-in-Ok-clause-stands
returns-in-Ok-clause-stands g c = rw (← c.self.view_is) (λ tells s u stands.
    let outside = subst (λ (r : Round). length r ≤ length c.self.inside.slots.items → IsSound (length c.self.inside.slots.items) (g.D.Disk.may_leave c.self.inside.disk) → Every (g.D.Disk.may_leave c.end_round.new.disk) (IsOutside (length c.self.inside.slots.items) r (g.D.Disk.may_leave c.self.inside.disk))) c.as_slice.ensures.value (c.end_round.ensures.outside tells (length c.self.inside.slots.items)) (round-fits c.self.inside.slots.items c.self.inside.round.items (length c.self.inside.slots.items) c.self.invariant (all-long c.self.inside.slots.items)) s in
    let ended = subst (λ (r : Round). length r ≤ length c.self.inside.slots.items → IsSound (length c.self.inside.slots.items) (g.D.Disk.may_leave c.self.inside.disk) → IsUnderWay (g.D.Disk.seen c.self.inside.disk) (g.D.Disk.may_leave c.self.inside.disk) r → IsEnded r (g.D.Disk.seen c.end_round.new.disk) (g.D.Disk.may_leave c.end_round.new.disk)) c.as_slice.ensures.value (c.in-Ok.ensures.ended tells (length c.self.inside.slots.items)) (round-fits c.self.inside.slots.items c.self.inside.round.items (length c.self.inside.slots.items) c.self.invariant (all-long c.self.inside.slots.items)) s u in
    let shown : AreEnded c.self.inside.round.items c.self.inside.slots.items c.show_filled.new.pages.items = record { all = c.show_filled.ensures.length; each = c.show_filled.ensures.each } in
    stands-ended (length c.self.inside.slots.items) c.self.inside.round.items (g.D.Disk.may_leave c.self.inside.disk) (g.D.Disk.may_leave c.end_round.new.disk) (g.D.Disk.seen c.end_round.new.disk) c.self.inside.slots.items c.show_filled.new.pages.items refl shown c.self.invariant.3 outside ended stands)

pub returns-in-Err-clause-stands : goal.returns-in-Err-clause-stands
returns-in-Err-clause-stands g c = rw (← c.self.view_is) (λ tells s u stands.
    let outside = subst (λ (r : Round). length r ≤ length c.self.inside.slots.items → IsSound (length c.self.inside.slots.items) (g.D.Disk.may_leave c.self.inside.disk) → Every (g.D.Disk.may_leave c.end_round.new.disk) (IsOutside (length c.self.inside.slots.items) r (g.D.Disk.may_leave c.self.inside.disk))) c.as_slice.ensures.value (c.end_round.ensures.outside tells (length c.self.inside.slots.items)) (round-fits c.self.inside.slots.items c.self.inside.round.items (length c.self.inside.slots.items) c.self.invariant (all-long c.self.inside.slots.items)) s in
    stands-outside (length c.self.inside.slots.items) c.self.inside.round.items (g.D.Disk.may_leave c.self.inside.disk) (g.D.Disk.may_leave c.end_round.new.disk) c.self.inside.slots.items c.self.inside.slots.items refl (λ k page there. there) c.self.invariant.3 outside stands)

pub returns-in-Ok-clause-pages : goal.returns-in-Ok-clause-pages
returns-in-Ok-clause-pages g c = rw (← c.self.view_is) (record { all = c.show_filled.ensures.length; each = c.show_filled.ensures.each })
