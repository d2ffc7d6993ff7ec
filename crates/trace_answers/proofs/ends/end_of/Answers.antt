-- It ends at the first answer.
use Rattle.std.proofs.Common.{sym, ◌∙◌}
use Rattle.trace_answers.proofs.Ending.{ends-by, never-began, never-there}
use Rattle.trace_answers.proofs.ends.end_of.Goals as goal

pub returns-then-began-entries : goal.returns-then-began-entries
returns-then-began-entries c = never-there c.args.entries.now c.args.began c.if-began-entries.true

pub returns-in-Some : goal.returns-in-Some
returns-in-Some c = ends-by c.args.entries.now c.args.began c.in-Some.lane c.in-Some.line c.first_answer.result (sym c.began_at.ensures ∙ c.in-Some.is) c.first_answer.ensures

pub returns-in-None : goal.returns-in-None
returns-in-None c = never-began c.args.entries.now c.args.began (sym c.began_at.ensures ∙ c.in-None.is)
