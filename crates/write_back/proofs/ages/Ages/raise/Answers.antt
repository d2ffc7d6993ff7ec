use Rattle.std.proofs.Common.{◌+◌, refl, sym, arith, nat_cmp}
use Rattle.std.specs.BTreeMap.{is_at}
use Rattle.write_back.specs.declared.ages.Age.{Age}
use Rattle.write_back.proofs.Aging.{have-found, have-through, kept-named, raises-some}
use Rattle.write_back.proofs.ages.Ages.raise.Goals as goal

pub overflow_add-age : goal.overflow_add-age
overflow_add-age c =
    let room = rw (← c.self.view_is) at c.requires.room in
    omega (arith, room c.in-Some.age.now.file, kept-named c.self.inside.writes.entries c.args.number c.in-Some.age.now (sym c.in-Some.ensures.value))

pub invariant_of-self-2 : goal.invariant_of-self-2
invariant_of-self-2 c =
    let found = sym c.in-Some.ensures.value in
    let more : Age = record { file = c.in-Some.age.now.file; bytes = c.in-Some.age.now.bytes + c.args.bytes } in
    let some = have-found (is_at (nat_cmp c.args.number)) c.self.inside.writes.entries c.in-Some.age.now c.self.invariant found in
    have-through c.self.inside.writes (c.get_mut.follows.lender more) c.args.number c.args.bytes c.in-Some.age.now more found (c.get_mut.follows.holds more) refl c.self.invariant (omega (arith, some))

pub returns : goal.returns
returns c =
    let more : Age = record { file = c.in-Some.age.now.file; bytes = c.in-Some.age.now.bytes + c.args.bytes } in
    rw (← c.self.view_is) (raises-some c.self.inside.writes (c.get_mut.follows.lender more) c.args.number c.args.bytes c.in-Some.age.now more (sym c.in-Some.ensures.value) (c.get_mut.follows.holds more) refl c.self.invariant refl)
