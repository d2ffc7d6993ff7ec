-- The last call tells the file; without one there is none.
use Rattle.std.proofs.Common.{List, Option, ℕ, sym, subst}
use Rattle.trace_answers.specs.Filing.{NamesAFile}
use Rattle.trace_answers.proofs.Files.{names-by, names-none}
use Rattle.trace_answers.proofs.filing.put_file.Goals as goal

pub returns-in-Some : goal.returns-in-Some
returns-in-Some c = subst (λ (z : Option (List ℕ)). NamesAFile c.args.entries.now c.args.place z) (sym c.named_in.ensures)
    (names-by c.args.entries.now c.args.place c.in-Some.last (rw c.in-Some.is at c.in_ok-last.ensures))

pub returns-in-None : goal.returns-in-None
returns-in-None c = names-none c.args.entries.now c.args.place (rw c.in-None.is at c.in_ok-last.ensures)
