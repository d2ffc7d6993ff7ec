use Rattle.std.proofs.Common.{ap, ◌∙◌}
use Rattle.write_back.specs.declared.change.Change.TheVariants.{MarkAgain}
use Rattle.write_back.specs.Changes.{cell_changed, count_all_changed}
use Rattle.write_back.specs.Files.{of_file}
use Rattle.write_back.specs.Landing.{with_change}
use Rattle.commit_verf.specs.Decisions.{verdict_of}
use Rattle.commit_verf.proofs.Verdicts.{again-lost, cells-decided}
use Rattle.commit_verf.proofs.Stable.{stable-is}
use Rattle.commit_verf.proofs.commit.decide.Goals as goal

pub returns-clause-verdict : goal.returns-clause-verdict
returns-clause-verdict c =
    c.told.ensures ∙ ap verdict_of (c.mark_again-again.ensures.count ∙ ap (λ of. count_all_changed (MarkAgain c.args.upto) of.segments) c.settle.ensures.segments.here ∙ again-lost c.args.verf c.args.upto _)

pub returns-clause-segments : goal.returns-clause-segments
returns-clause-segments c = record {
  here = c.mark_again-again.ensures.segments.here ∙ ap (with_change (MarkAgain c.args.upto)) c.settle.ensures.segments.here;
  others = λ other apart. c.mark_again-again.ensures.segments.others other apart ∙ c.settle.ensures.segments.others other apart;
}

pub returns-clause-places : goal.returns-clause-places
returns-clause-places c = record {
  rest = λ place. c.mark_again-again.ensures.places.rest place ∙ ap (cell_changed (MarkAgain c.args.upto)) (c.settle.ensures.places.rest place) ∙ cells-decided c.args.verf c.args.upto _;
  fly = λ place. c.mark_again-again.ensures.places.fly place ∙ c.settle.ensures.places.fly place;
}

pub returns-clause-stable : goal.returns-clause-stable
returns-clause-stable c =
    stable-is c.args.verf c.args.upto (of_file c.args.file.now c.args.wb.now) c.told.result (c.is_sound.ensures.files c.args.file.now)
    (c.told.ensures ∙ ap verdict_of (c.mark_again-again.ensures.count ∙ ap (λ of. count_all_changed (MarkAgain c.args.upto) of.segments) c.settle.ensures.segments.here ∙ again-lost c.args.verf c.args.upto _))
