use Rattle.std.proofs.Common.{◌≡◌, ◌≤◌, ℕ, List, [], Option, None, length, replicate, refl, sym, ◌∙◌, ap, subst, arith}
use Rattle.page_store.specs.Disk.{Every}
use Rattle.page_store.specs.Slots.{IsShut}
use Rattle.page_store.specs.Pages.{StoredPage}
use Rattle.page_store.specs.Rounds.{Round, IsIn, IsOutside, AreHeld, taken_in}
use Rattle.page_store.proofs.InMemory.{all-long, cleared-long, begun-fits, held-less, held-after, stands-cleared, stands-begun, round-begun}
use Rattle.page_store.proofs.store.PageStore.begin.Goals as goal

pub invariant_of-self : goal.invariant_of-self
invariant_of-self g c =
    let none : c.truncate.new.self.items ≡ [] = c.truncate.ensures.items in
    subst (λ (r : Round). AreHeld c.clear_slots.new.pages.items r) (sym none) (held-less c.args.slots.now c.self.inside.slots.items c.clear_slots.new.pages.items c.self.inside.round.items c.self.invariant c.clear_slots.ensures)

pub invariant_of-self-in-Err-shut_round : goal.invariant_of-self-in-Err-shut_round
invariant_of-self-in-Err-shut_round g c =
    let none : c.truncate.new.self.items ≡ [] = c.truncate.ensures.items in
    subst (λ (r : Round). AreHeld c.clear_slots.new.pages.items r) (sym none) (held-less c.args.slots.now c.self.inside.slots.items c.clear_slots.new.pages.items c.self.inside.round.items c.self.invariant c.clear_slots.ensures)

pub returns-in_default-clause-stands : goal.returns-in_default-clause-stands
returns-in_default-clause-stands g c = rw (← c.self.view_is) (λ tells s stands. stands-cleared c.args.slots.now (g.D.Disk.may_leave c.self.inside.disk) c.self.inside.slots.items c.clear_slots.new.pages.items c.clear_slots.ensures stands)

pub shut_round-requires : goal.shut_round-requires
shut_round-requires g c =
    let same : length c.in-Ok.round.items ≡ length c.clear_slots.new.pages.items = c.in-Ok.ensures.length ∙ ap (λ (ps : List (Option StoredPage)). length ps) c.as_slice.ensures.value in
    (subst (λ (r : Round). length r ≤ 65536) (sym c.as_slice-2.ensures.value) (begun-fits c.args.slots.now c.self.inside.slots.items c.clear_slots.new.pages.items c.in-Ok.round.items 65536 c.clear_slots.ensures same c.self.invariant.1))

pub invariant_of-self-in-Ok-shut_round : goal.invariant_of-self-in-Ok-shut_round
invariant_of-self-in-Ok-shut_round g c =
    let taken : c.in-Ok.round.items ≡ taken_in c.args.slots.now (replicate (length c.clear_slots.new.pages.items) None) = c.in-Ok.ensures.round ∙ ap (λ (ps : List (Option StoredPage)). taken_in c.args.slots.now (replicate (length ps) None)) c.as_slice.ensures.value in
    held-after c.args.slots.now c.self.inside.slots.items c.clear_slots.new.pages.items c.self.inside.round.items c.in-Ok.round.items c.self.invariant c.clear_slots.ensures taken

pub returns-in-Ok-shut_round-clause-safe : goal.returns-in-Ok-shut_round-clause-safe
returns-in-Ok-shut_round-clause-safe g c = rw (← c.self.view_is) (λ tells n fits s.
    let same : length c.in-Ok.round.items ≡ length c.clear_slots.new.pages.items = c.in-Ok.ensures.length ∙ ap (λ (ps : List (Option StoredPage)). length ps) c.as_slice.ensures.value in
    c.shut_round.ensures.safe tells n (subst (λ (r : Round). length r ≤ n) (sym c.as_slice-2.ensures.value) (begun-fits c.args.slots.now c.self.inside.slots.items c.clear_slots.new.pages.items c.in-Ok.round.items n c.clear_slots.ensures same fits)) s)

pub returns-in-Ok-shut_round-clause-leaves : goal.returns-in-Ok-shut_round-clause-leaves
returns-in-Ok-shut_round-clause-leaves g c = rw (← c.self.view_is) (λ tells n fits s.
    let same : length c.in-Ok.round.items ≡ length c.clear_slots.new.pages.items = c.in-Ok.ensures.length ∙ ap (λ (ps : List (Option StoredPage)). length ps) c.as_slice.ensures.value in
    c.shut_round.ensures.leaves tells n (subst (λ (r : Round). length r ≤ n) (sym c.as_slice-2.ensures.value) (begun-fits c.args.slots.now c.self.inside.slots.items c.clear_slots.new.pages.items c.in-Ok.round.items n c.clear_slots.ensures same fits)) s)

pub returns-in-Ok-shut_round-clause-any_moment : goal.returns-in-Ok-shut_round-clause-any_moment
returns-in-Ok-shut_round-clause-any_moment g c = rw (← c.self.view_is) (λ tells n fits s.
    let same : length c.in-Ok.round.items ≡ length c.clear_slots.new.pages.items = c.in-Ok.ensures.length ∙ ap (λ (ps : List (Option StoredPage)). length ps) c.as_slice.ensures.value in
    c.shut_round.ensures.any_moment tells n (subst (λ (r : Round). length r ≤ n) (sym c.as_slice-2.ensures.value) (begun-fits c.args.slots.now c.self.inside.slots.items c.clear_slots.new.pages.items c.in-Ok.round.items n c.clear_slots.ensures same fits)) s)

pub returns-in-Ok-shut_round-clause-stands : goal.returns-in-Ok-shut_round-clause-stands
returns-in-Ok-shut_round-clause-stands g c = rw (← c.self.view_is) (λ tells s stands.
    let same : length c.in-Ok.round.items ≡ length c.clear_slots.new.pages.items = c.in-Ok.ensures.length ∙ ap (λ (ps : List (Option StoredPage)). length ps) c.as_slice.ensures.value in
    let taken : c.in-Ok.round.items ≡ taken_in c.args.slots.now (replicate (length c.clear_slots.new.pages.items) None) = c.in-Ok.ensures.round ∙ ap (λ (ps : List (Option StoredPage)). taken_in c.args.slots.now (replicate (length ps) None)) c.as_slice.ensures.value in
    let outside = c.shut_round.ensures.outside tells (length c.self.inside.slots.items) (subst (λ (r : Round). length r ≤ (length c.self.inside.slots.items)) (sym c.as_slice-2.ensures.value) (begun-fits c.args.slots.now c.self.inside.slots.items c.clear_slots.new.pages.items c.in-Ok.round.items (length c.self.inside.slots.items) c.clear_slots.ensures same (all-long c.self.inside.slots.items))) s in
    stands-begun c.args.slots.now (g.D.Disk.may_leave c.self.inside.disk) (g.D.Disk.may_leave c.shut_round.new.disk) c.self.inside.slots.items c.clear_slots.new.pages.items c.in-Ok.round.items c.clear_slots.ensures taken
    (subst (λ (r : Round). Every (g.D.Disk.may_leave c.shut_round.new.disk) (IsOutside (length c.self.inside.slots.items) r (g.D.Disk.may_leave c.self.inside.disk))) c.as_slice-2.ensures.value outside) stands)

pub returns-in-Err-clause-safe : goal.returns-in-Err-clause-safe
returns-in-Err-clause-safe g c = rw (← c.self.view_is) (λ tells n fits s.
    let same : length c.in-Ok.round.items ≡ length c.clear_slots.new.pages.items = c.in-Ok.ensures.length ∙ ap (λ (ps : List (Option StoredPage)). length ps) c.as_slice.ensures.value in
    c.shut_round.ensures.safe tells n (subst (λ (r : Round). length r ≤ n) (sym c.as_slice-2.ensures.value) (begun-fits c.args.slots.now c.self.inside.slots.items c.clear_slots.new.pages.items c.in-Ok.round.items n c.clear_slots.ensures same fits)) s)

pub returns-in-Err-clause-leaves : goal.returns-in-Err-clause-leaves
returns-in-Err-clause-leaves g c = rw (← c.self.view_is) (λ tells n fits s.
    let same : length c.in-Ok.round.items ≡ length c.clear_slots.new.pages.items = c.in-Ok.ensures.length ∙ ap (λ (ps : List (Option StoredPage)). length ps) c.as_slice.ensures.value in
    c.shut_round.ensures.leaves tells n (subst (λ (r : Round). length r ≤ n) (sym c.as_slice-2.ensures.value) (begun-fits c.args.slots.now c.self.inside.slots.items c.clear_slots.new.pages.items c.in-Ok.round.items n c.clear_slots.ensures same fits)) s)

pub returns-in-Err-clause-any_moment : goal.returns-in-Err-clause-any_moment
returns-in-Err-clause-any_moment g c = rw (← c.self.view_is) (λ tells n fits s.
    let same : length c.in-Ok.round.items ≡ length c.clear_slots.new.pages.items = c.in-Ok.ensures.length ∙ ap (λ (ps : List (Option StoredPage)). length ps) c.as_slice.ensures.value in
    c.shut_round.ensures.any_moment tells n (subst (λ (r : Round). length r ≤ n) (sym c.as_slice-2.ensures.value) (begun-fits c.args.slots.now c.self.inside.slots.items c.clear_slots.new.pages.items c.in-Ok.round.items n c.clear_slots.ensures same fits)) s)

pub returns-in-Err-clause-stands : goal.returns-in-Err-clause-stands
returns-in-Err-clause-stands g c = rw (← c.self.view_is) (λ tells s stands.
    let same : length c.in-Ok.round.items ≡ length c.clear_slots.new.pages.items = c.in-Ok.ensures.length ∙ ap (λ (ps : List (Option StoredPage)). length ps) c.as_slice.ensures.value in
    let taken : c.in-Ok.round.items ≡ taken_in c.args.slots.now (replicate (length c.clear_slots.new.pages.items) None) = c.in-Ok.ensures.round ∙ ap (λ (ps : List (Option StoredPage)). taken_in c.args.slots.now (replicate (length ps) None)) c.as_slice.ensures.value in
    let outside = c.shut_round.ensures.outside tells (length c.self.inside.slots.items) (subst (λ (r : Round). length r ≤ (length c.self.inside.slots.items)) (sym c.as_slice-2.ensures.value) (begun-fits c.args.slots.now c.self.inside.slots.items c.clear_slots.new.pages.items c.in-Ok.round.items (length c.self.inside.slots.items) c.clear_slots.ensures same (all-long c.self.inside.slots.items))) s in
    stands-begun c.args.slots.now (g.D.Disk.may_leave c.self.inside.disk) (g.D.Disk.may_leave c.shut_round.new.disk) c.self.inside.slots.items c.clear_slots.new.pages.items c.in-Ok.round.items c.clear_slots.ensures taken
    (subst (λ (r : Round). Every (g.D.Disk.may_leave c.shut_round.new.disk) (IsOutside (length c.self.inside.slots.items) r (g.D.Disk.may_leave c.self.inside.disk))) c.as_slice-2.ensures.value outside) stands)

pub returns-in-Ok-shut_round-clause-under_way : goal.returns-in-Ok-shut_round-clause-under_way
returns-in-Ok-shut_round-clause-under_way g c = rw (← c.self.view_is) (λ tells s.
    let same : length c.in-Ok.round.items ≡ length c.clear_slots.new.pages.items = c.in-Ok.ensures.length ∙ ap (λ (ps : List (Option StoredPage)). length ps) c.as_slice.ensures.value in
    let taken : c.in-Ok.round.items ≡ taken_in c.args.slots.now (replicate (length c.clear_slots.new.pages.items) None) = c.in-Ok.ensures.round ∙ ap (λ (ps : List (Option StoredPage)). taken_in c.args.slots.now (replicate (length ps) None)) c.as_slice.ensures.value in
    let shut = c.in-Ok-shut_round.ensures.shut tells (length c.self.inside.slots.items) (subst (λ (r : Round). length r ≤ (length c.self.inside.slots.items)) (sym c.as_slice-2.ensures.value) (begun-fits c.args.slots.now c.self.inside.slots.items c.clear_slots.new.pages.items c.in-Ok.round.items (length c.self.inside.slots.items) c.clear_slots.ensures same (all-long c.self.inside.slots.items))) s in
    round-begun c.args.slots.now (length c.clear_slots.new.pages.items) c.in-Ok.round.items (g.D.Disk.seen c.shut_round.new.disk) (g.D.Disk.may_leave c.shut_round.new.disk) taken
    (subst (λ (r : Round). (k : ℕ) → IsIn r k → IsShut (g.D.Disk.may_leave c.shut_round.new.disk) k) c.as_slice-2.ensures.value shut))

pub returns-in-Ok-shut_round-clause-round : goal.returns-in-Ok-shut_round-clause-round
returns-in-Ok-shut_round-clause-round g c = rw (← c.self.view_is) (
    let taken : c.in-Ok.round.items ≡ taken_in c.args.slots.now (replicate (length c.clear_slots.new.pages.items) None) = c.in-Ok.ensures.round ∙ ap (λ (ps : List (Option StoredPage)). taken_in c.args.slots.now (replicate (length ps) None)) c.as_slice.ensures.value in
    let long : length c.clear_slots.new.pages.items ≡ length c.self.inside.slots.items = ap (λ (ps : List (Option StoredPage)). length ps) c.clear_slots.ensures ∙ cleared-long c.args.slots.now c.self.inside.slots.items in
    taken ∙ ap (λ (m : ℕ). taken_in c.args.slots.now (replicate m None)) long)
