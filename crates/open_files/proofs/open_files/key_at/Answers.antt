use Rattle.std.proofs.Common.{◌∙◌}
use Rattle.open_files.proofs.Walks.{at_first, the_next, past}
use Rattle.open_files.proofs.open_files.key_at.Goals as goal

pub loop-key-init : goal.loop-key-init
loop-key-init c = (tt, tt, at_first _ _ _ (c.into_iter-key-iterator.ensures.into_iter_gives ∙ c.iter-key-items.ensures.rest))

pub returns-then-is_at : goal.returns-then-is_at
returns-then-is_at c =
    let next = c.in-Some.ensures.steps in
    rw (the_next _ _ _ _ _ (rw next at c.loop-key.invariant.2)) (c.is_at.ensures.0 c.if-is_at.true)

pub loop-key-preserved : goal.loop-key-preserved
loop-key-preserved c =
    let next = c.in-Some.ensures.steps in
    (tt, tt, past _ _ _ _ _ (rw next at c.loop-key.invariant.2) (λ is. let t = c.is_at.ensures.1 is in absurd (cc (t, c.if-is_at.false))))
