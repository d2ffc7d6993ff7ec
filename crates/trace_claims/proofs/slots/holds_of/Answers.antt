-- What the slot holds, if it uses one.
use Rattle.std.proofs.Common.{sym, ◌∙◌}
use Rattle.trace_claims.proofs.Assembling.{holds-no}
use Rattle.trace_claims.proofs.Digesting.{holds-ok}
use Rattle.trace_claims.proofs.slots.holds_of.Goals as goal

pub returns-in-Some : goal.returns-in-Some
returns-in-Some c m h has is = holds-ok (λ v. v.items) m h c.args.all.now c.args.course.now c.in-Some.slot _ has is (sym c.slot.ensures ∙ c.in-Some.is) c.held_at.ensures

pub returns-in-None : goal.returns-in-None
returns-in-None c m h has is = holds-no m h c.args.course.now _ (sym c.slot.ensures ∙ c.in-None.is) c.new.ensures.items
