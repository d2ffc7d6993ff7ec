use Rattle.std.proofs.Common.{◌-◌, refl, sym, subst, arith, nat_cmp}
use Rattle.std.specs.BTreeMap.{is_at}
use Rattle.write_back.specs.Ages.{HaveBytes}
use Rattle.write_back.specs.declared.ages.Age.{Age}
use Rattle.write_back.proofs.Aging.{have-found, have-removed, have-through}
use Rattle.write_back.proofs.ages.Ages.lessen.Goals as goal

pub invariant_of-self-then-age-bytes : goal.invariant_of-self-then-age-bytes
invariant_of-self-then-age-bytes c =
    let left : Age = record { file = c.in-Some.age.now.file; bytes = c.in-Some.age.now.bytes - c.args.bytes } in
    have-through c.self.inside.writes (c.get_mut.follows.lender left) c.args.number c.args.bytes c.in-Some.age.now left (sym c.in-Some.ensures.value) (c.get_mut.follows.holds left) refl c.self.invariant (omega (arith, c.if-age-bytes.true))

pub invariant_of-self-2 : goal.invariant_of-self-2
invariant_of-self-2 c =
    let found = sym c.in-Some.ensures.value in
    let some = have-found (is_at (nat_cmp c.args.number)) c.self.inside.writes.entries c.in-Some.age.now c.self.invariant found in
    let have = have-through c.self.inside.writes (c.get_mut.follows.lender c.in-Some.age.now) c.args.number c.args.bytes c.in-Some.age.now c.in-Some.age.now found (c.get_mut.follows.holds c.in-Some.age.now) refl c.self.invariant some in
    subst HaveBytes (sym c.remove.ensures.entries) (have-removed (is_at (nat_cmp c.args.number)) _ have)
