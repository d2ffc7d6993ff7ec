use Rattle.std.proofs.Common.{◌≡◌, ◌+◌, ◌-◌, ℕ, take, drop, sym, subst, arith}
use Rattle.xdr_codec.specs.Blobs.{StandAt}
use Rattle.xdr_codec.proofs.Parts.{part_stands}
use Rattle.xdr_codec.proofs.lent.Lent.within.Goals as goal

pub invariant_of-result : goal.invariant_of-result
invariant_of-result c =
    let all = c.args.all.now.value.items in
    let size : c.args.from + c.args.len - c.args.from ≡ c.args.len = omega arith in
    rw (c.as_slice.ensures.value, c.deref.ensures) (subst (λ (n : ℕ). StandAt c.args.from (take n (drop c.args.from all)) all) (sym size) (part_stands all c.args.from c.args.len c.requires))
