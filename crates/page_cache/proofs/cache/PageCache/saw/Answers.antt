use Rattle.page_cache.specs.Full.{states_of, full_below_of}
use Rattle.page_cache.proofs.Bounds.{full-dropped}
use Rattle.page_cache.proofs.Known.{known-dropped}
use Rattle.page_cache.proofs.cache.PageCache.saw.Goals as goal

pub invariant_of-self : goal.invariant_of-self
invariant_of-self c = rw c.drop_file.ensures (
  full-dropped (full_below_of c.self.inside.files) (full_below_of c.change.new.self) c.args.file.now _ c.change.ensures.bound c.self.inside.slots.pages c.self.invariant.0,
  known-dropped (states_of c.self.inside.files) (states_of c.change.new.self) c.args.file.now _ c.change.ensures.known c.self.inside.slots.pages c.self.invariant.1,
)
