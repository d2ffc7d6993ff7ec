use Rattle.std.proofs.Common.{◌≡◌, ◌∷◌, false, sym, ap, ◌∙◌, arith}
use Rattle.write_back.specs.Choice.{may_go}
use Rattle.write_back.specs.Segments.{AreApart, end_of}
use Rattle.write_back.specs.Walk.{begun_from, first_that}
use Rattle.write_back.proofs.Changing.{apart-lower}
use Rattle.write_back.proofs.Starting.{apart-begun, that-begun, that-passed}
use Rattle.write_back.proofs.walks.first_to_go.Goals as goal

pub loop-at-init : goal.loop-at-init
loop-at-init c =
    let walked : c.into_iter-at-iterator.result ≡ begun_from c.args.from c.args.map.now = cc in
    record {
      apart = rw walked (apart-begun c.args.from 0 c.args.map.now c.requires);
      found = ap (first_that (may_go c.args.sent.now c.args.upto) 0) walked ∙ that-begun (may_go c.args.sent.now c.args.upto) c.args.from c.args.map.now;
    }

pub loop-at-preserved : goal.loop-at-preserved
loop-at-preserved c =
    let step : c.loop-at.at-iterator ≡ (c.in-Some.at.now, c.in-Some.segment.now) ∷ c.next.new.self = c.in-Some.ensures.steps in
    let fails : may_go c.args.sent.now c.args.upto (c.in-Some.at.now, c.in-Some.segment.now) ≡ false = cc in
    let apart : AreApart 0 ((c.in-Some.at.now, c.in-Some.segment.now) ∷ c.next.new.self) = (rw step at c.loop-at.invariant.apart) in
    record {
      apart = apart-lower 0 (end_of (c.in-Some.at.now, c.in-Some.segment.now)) c.next.new.self (omega arith) apart.3;
      found = sym (that-passed (may_go c.args.sent.now c.args.upto) (c.in-Some.at.now, c.in-Some.segment.now) c.next.new.self fails) ∙ ap (first_that (may_go c.args.sent.now c.args.upto) 0) (sym step) ∙ c.loop-at.invariant.found;
    }
