use Rattle.std.proofs.Common.{ℕ, List, set, ap, ◌∙◌, arith}
use Rattle.std.proofs.lemmas.List.{length-set}
use Rattle.std.specs.Option.{option_map_or}
use Rattle.page_cache.specs.Bytes.{cut_page}
use Rattle.page_cache.specs.Unmade.{with_empty}
use Rattle.page_cache.proofs.Made.{is-there, set-there, was-there}
use Rattle.page_cache.proofs.page_room.PageRoom.cut_at.Goals as goal

pub make_up_to-requires : goal.make_up_to-requires
make_up_to-requires c =
    let below = is-there c.self.inside.count c.args.number c.self.inside.made.items c.self.invariant.0 (rw (← c.self.view_is) at c.requires) in
    omega (arith, below, c.self.invariant.1)

pub index_mut-requires : goal.index_mut-requires
index_mut-requires c = omega (arith, c.make_up_to.ensures.there, c.make_up_to.new.made.ok.0)

pub invariant_of-self : goal.invariant_of-self
invariant_of-self c =
    let below = is-there c.self.inside.count c.args.number c.self.inside.made.items c.self.invariant.0 (rw (← c.self.view_is) at c.requires) in
    let few = c.make_up_to.ensures.few c.self.inside.count below c.self.invariant.0 in
    let size = length-set c.make_up_to.new.made.items c.args.number c.cut_at.new.self in
    ((omega (arith, few, size)), (omega (arith, c.make_up_to.ensures.room, c.self.invariant.1)))

pub returns : goal.returns
returns c =
    let count = c.self.inside.count in
    let old = c.self.inside.made.items in
    let made = c.make_up_to.new.made.items in
    let below = is-there count c.args.number old c.self.invariant.0 (rw (← c.self.view_is) at c.requires) in
    let same = c.make_up_to.ensures.same count below c.self.invariant.0 in
    let was = was-there count c.args.number old made c.index_mut.result.now same c.make_up_to.ensures.there c.index_mut.ensures.value in
    rw (← c.self.view_is) (
    set-there count c.args.number old made c.cut_at.new.self same c.make_up_to.ensures.there
    ∙ ap (set (with_empty count old) c.args.number) (c.cut_at.ensures ∙ ap (λ (v : List ℕ). option_map_or (λ (i : ℕ). cut_page i c.args.size v) c.args.index v) was)
    )
