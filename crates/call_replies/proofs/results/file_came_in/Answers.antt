use Rattle.std.proofs.Common.{sym, subst, ◌∙◌}
use Rattle.std.specs.Prelude.{Result}
use Rattle.world_model.specs.declared.answer.Fault.{Fault}
use Rattle.world_model.specs.declared.message.Reply.{Reply}
use Rattle.call_replies.specs.Results.{FileSays}
use Rattle.call_replies.proofs.Lasts.{data_last}
use Rattle.call_replies.proofs.results.file_came_in.Goals as goal

pub lying_in-requires : goal.lying_in-requires
lying_in-requires c = data_last c.args.proc c.args.results.now c.args.rec.now _ c.file_came.ensures.says c.requires.last

pub returns-clause-exact : goal.returns-clause-exact
returns-clause-exact c = c.lying_in.ensures ∙ c.file_came.ensures.exact

pub returns-clause-says : goal.returns-clause-says
returns-clause-says c = subst (λ (r : Result Reply Fault). FileSays c.args.proc c.args.results.now r) (sym c.lying_in.ensures) c.file_came.ensures.says
