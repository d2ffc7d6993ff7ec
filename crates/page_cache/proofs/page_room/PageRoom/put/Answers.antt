use Rattle.std.proofs.Common.{arith}
use Rattle.std.proofs.lemmas.List.{length-set}
use Rattle.page_cache.proofs.Made.{is-there, set-there}
use Rattle.page_cache.proofs.page_room.PageRoom.put.Goals as goal

pub make_up_to-requires : goal.make_up_to-requires
make_up_to-requires c =
    let below = is-there c.self.inside.count c.args.number c.self.inside.made.items c.self.invariant.0 (rw (← c.self.view_is) at c.requires.there) in
    omega (arith, below, c.self.invariant.1)

pub index_mut-requires : goal.index_mut-requires
index_mut-requires c = omega (arith, c.make_up_to.ensures.there, c.make_up_to.new.made.ok.0)

pub invariant_of-self : goal.invariant_of-self
invariant_of-self c =
    let below = is-there c.self.inside.count c.args.number c.self.inside.made.items c.self.invariant.0 (rw (← c.self.view_is) at c.requires.there) in
    let few = c.make_up_to.ensures.few c.self.inside.count below c.self.invariant.0 in
    let size = length-set c.make_up_to.new.made.items c.args.number c.put.new.self in
    ((omega (arith, few, size)), (omega (arith, c.make_up_to.ensures.room, c.self.invariant.1)))

pub returns : goal.returns
returns c =
    let below = is-there c.self.inside.count c.args.number c.self.inside.made.items c.self.invariant.0 (rw (← c.self.view_is) at c.requires.there) in
    let same = c.make_up_to.ensures.same c.self.inside.count below c.self.invariant.0 in
    rw (c.put.ensures, ← c.self.view_is) (set-there c.self.inside.count c.args.number c.self.inside.made.items c.make_up_to.new.made.items c.args.bytes.now same c.make_up_to.ensures.there)
