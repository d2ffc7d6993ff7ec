-- The first that is found from the end is the last.
use Rattle.std.proofs.Common.{arith}
use Rattle.std.proofs.lemmas.Grind.{common_steps}
use Rattle.trace_answers.proofs.Sendings.{last-found, last-none}
use Rattle.trace_answers.proofs.records.last_record.Goals as goal

pub returns-then-brings_at : goal.returns-then-brings_at
returns-then-brings_at c =
    last-found c.args.entries.now c.loop-left.left c.args.place (grind (arith, common_steps)) c.loop-left.invariant.within c.loop-left.invariant.none (grind (arith, common_steps))

pub returns : goal.returns
returns c = last-none c.args.entries.now c.loop-left.left c.args.place (grind (arith, common_steps)) c.loop-left.invariant.none
