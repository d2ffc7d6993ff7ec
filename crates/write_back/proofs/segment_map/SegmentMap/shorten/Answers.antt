use Rattle.std.proofs.Common.{ap, arith, nat_cmp}
use Rattle.std.specs.BTreeMap.{is_at}
use Rattle.write_back.specs.Segments.{head_of, own_of}
use Rattle.write_back.proofs.Sums.{own-among, own-edited}
use Rattle.write_back.proofs.segment_map.SegmentMap.shorten.Goals as goal

pub overflow_sub-self : goal.overflow_sub-self
overflow_sub-self c =
    let some = own-among (is_at (nat_cmp c.args.at)) c.self.inside.entries.entries in
    omega (arith, some, c.self.invariant, c.shorten_at-before.ensures.before)

pub invariant_of-self : goal.invariant_of-self
invariant_of-self c =
    let some = own-among (is_at (nat_cmp c.args.at)) c.self.inside.entries.entries in
    let sum = own-edited (is_at (nat_cmp c.args.at)) (head_of c.args.len) c.self.inside.entries.entries in
    omega (arith, some, sum, c.self.invariant, c.shorten_at-before.ensures.before, c.shorten_at-before.ensures.after, ap own_of c.shorten_at-before.ensures.entries)
