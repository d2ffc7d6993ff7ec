use Rattle.outside.proofs.Readings.{told_step}
use Rattle.outside.proofs.clock.TickClockClock.now.Goals as goal

pub returns-clause-told : goal.returns-clause-told
returns-clause-told c = rw (c.saturating_mul-ms.ensures, ← c.self.view_is) (told_step c.self.inside.tick c.self.inside.count _ c.saturating_add-self-inside.ensures)
