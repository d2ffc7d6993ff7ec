-- The last call and its reply tell the file.
use Rattle.std.proofs.Common.{Bool, List, Option, ℕ, sym, subst}
use Rattle.trace_answers.specs.Filing.{FindsFile, file_in}
use Rattle.trace_answers.proofs.Files.{at-below, finds-by}
use Rattle.trace_answers.proofs.filing.found_by.Goals as goal

pub came_bytes-requires : goal.came_bytes-requires
came_bytes-requires c = at-below c.args.entries.now c.args.place c.args.last.now c.requires

pub returns : goal.returns
returns c m same = subst (λ (z : Option (List ℕ)). FindsFile m c.args.entries.now c.args.place z) (sym c.file_in.ensures)
    (subst (λ (b : Bool). FindsFile m c.args.entries.now c.args.place (file_in b c.args.last.now.call c.in_ok-reply.reply)) same
    (finds-by m c.args.entries.now c.args.place c.args.last.now c.requires c.in_ok-reply.reply (rw c.came_bytes.ensures at c.in_ok-reply.ensures.finds)))
