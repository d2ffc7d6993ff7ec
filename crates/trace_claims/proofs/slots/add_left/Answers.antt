-- A close that was answered, or another operation.
use Rattle.std.proofs.Common.{sym, ◌∙◌}
use Rattle.trace_claims.proofs.Digesting.{close-ok, close-nothing}
use Rattle.trace_claims.proofs.slots.add_left.Goals as goal

pub returns-in-Some : goal.returns-in-Some
returns-in-Some c m h named count = close-ok m h c.args.operations.now c.args.came.now c.args.close.now c.args.count c.in-Some.after c.args.all.now.items _ _ (sym c.after_close.ensures ∙ c.in-Some.is) count
    (λ at within. rw c.as_slice.ensures.value at (c.add_of_holds.ensures m h named at within))

pub returns-in-None : goal.returns-in-None
returns-in-None c m h named count = close-nothing m h c.args.operations.now c.args.came.now c.args.close.now c.args.count c.args.all.now.items (sym c.after_close.ensures ∙ c.in-None.is) count
