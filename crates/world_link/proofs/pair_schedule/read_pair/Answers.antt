use Rattle.std.proofs.Common.{◌∙◌, arith, rules}
use Rattle.world_link.proofs.NextPairLine.{stops_pair, goes_on_pair, ends_pair}
use Rattle.world_link.proofs.pair_schedule.read_pair.Goals as goal

pub returns-then-not-branch : goal.returns-then-not-branch
returns-then-not-branch c = c.loop-rest.invariant.read ∙ stops_pair c.loop-rest.number c.in_ok-read_line.field-0 _ _ c.loop-rest.rest.now c.first_line.result.0.now c.first_line.result.1.now (c.first_line.ensures.first (search rules)) c.in_ok-read_line.ensures c.if-not-branch.true

pub loop-rest-preserved : goal.loop-rest-preserved
loop-rest-preserved c =
    let shorter = c.first_line.ensures.shorter (search rules) in
    record {
      bound = omega (arith, c.loop-rest.invariant.bound, shorter);
      read = c.loop-rest.invariant.read ∙ goes_on_pair c.loop-rest.number c.in_ok-read_line.field-0 _ _ c.loop-rest.rest.now c.first_line.result.0.now c.first_line.result.1.now (c.first_line.ensures.first (search rules)) c.in_ok-read_line.ensures c.if-not-branch.false;
    }

pub returns : goal.returns
returns c = c.loop-rest.invariant.read ∙ ends_pair c.loop-rest.number _ c.loop-rest.rest.now (search rules)
