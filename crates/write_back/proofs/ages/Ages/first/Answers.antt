use Rattle.write_back.proofs.Aging.{is-first}
use Rattle.write_back.proofs.ages.Ages.first.Goals as goal

pub returns : goal.returns
returns c = rw (← c.self.view_is) (is-first c.self.inside.writes c.in_ok-age.field-0-0.now c.in_ok-age.age.now c.self.invariant c.in_ok-age.ensures.value c.in_ok-age.ensures.least)
