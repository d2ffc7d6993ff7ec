use Rattle.std.proofs.Common.{◌∙◌, refl}
use Rattle.open_files.proofs.Walks.{at_first, the_next, past}
use Rattle.open_files.proofs.open_files.holds_file.Goals as goal

pub loop-held-init : goal.loop-held-init
loop-held-init c = (tt, tt, at_first _ _ _ (c.into_iter-held-iterator.ensures.into_iter_gives ∙ c.iter-held-items.ensures.rest))

pub returns-then-is_of : goal.returns-then-is_of
returns-then-is_of c =
    let next = c.in-Some.ensures.steps in (
      (λ _. record { key = c.in-Some.field-0-0; held = c.in-Some.held.now; there = the_next _ _ _ _ _ (rw next at c.loop-held.invariant.2); same = c.is_of.ensures.0 c.if-is_of.true }),
      (λ _. refl),
    )

pub loop-held-preserved : goal.loop-held-preserved
loop-held-preserved c =
    let next = c.in-Some.ensures.steps in
    (tt, tt, past _ _ _ _ _ (rw next at c.loop-held.invariant.2) (λ is. let t = c.is_of.ensures.1 is in absurd (cc (t, c.if-is_of.false))))
