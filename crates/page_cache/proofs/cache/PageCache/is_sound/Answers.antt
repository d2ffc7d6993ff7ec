use Rattle.page_cache.proofs.Bounds.{full-fits}
use Rattle.page_cache.specs.Full.{full_below_of}
use Rattle.page_cache.proofs.cache.PageCache.is_sound.Goals as goal

pub returns : goal.returns
returns c = rw (← c.self.view_is) (record {
  fits = full-fits (full_below_of c.self.inside.files) c.self.inside.slots.pages c.self.invariant.0;
  few = c.are_apart.ensures.few;
  apart = c.are_apart.ensures.apart;
  known = c.self.invariant.1;
})
