use Rattle.std.proofs.Common.{◌+◌, sym, subst}
use Rattle.write_back.specs.Files.{IsNewest}
use Rattle.file_ops.specs.PutFile.{AfterOpening}
use Rattle.file_ops.proofs.put_file.PutFile.take_opening.Goals as goal

pub opened-requires-clause-newest : goal.opened-requires-clause-newest
opened-requires-clause-newest c = subst (λ s. IsNewest (s.seq + 1) s.back) (sym c.took-step.ensures.frame) c.requires.newest

pub returns : goal.returns
returns c = record {
  step = record {
    step = c.took-step.result;
    took = c.took-step.new.shelf;
    leads = c.took-step.ensures.next;
    attrs = c.took-step.ensures.attrs;
    names = c.took-step.ensures.names;
    repeats = c.took-step.ensures.repeats;
    others = c.took-step.ensures.frame;
    follows = subst (λ o. AfterOpening c.took-step.result c.args.wsize (record c.args.self.now { opening = o }) c.args.turn c.took-step.new.shelf c.opened.result c.opened.new.self c.opened.new.shelf) c.took-step.ensures.machine c.opened.ensures;
  };
}
