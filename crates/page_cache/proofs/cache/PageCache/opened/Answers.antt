use Rattle.std.proofs.Common.{refl, arith}
use Rattle.page_cache.specs.Full.{states_of, full_below_of}
use Rattle.page_cache.proofs.Bounds.{full-same, full-dropped}
use Rattle.page_cache.proofs.Known.{known-same, known-dropped}
use Rattle.page_cache.proofs.cache.PageCache.opened.Goals as goal

pub invariant_of-self : goal.invariant_of-self
invariant_of-self c = (
  full-same (full_below_of c.self.inside.files) (full_below_of c.put.new.self) c.args.file.now c.full_below-full_below.result c.in_ok-put.ensures.bound c.self.inside.slots.pages
      (omega (arith, c.full_below-full_below.ensures)) c.self.invariant.0,
  known-same (states_of c.self.inside.files) (states_of c.put.new.self) c.args.file.now _ c.in_ok-put.ensures.ok c.args.stamp.now refl c.self.inside.slots.pages c.self.invariant.1,
)

pub invariant_of-self-else-same : goal.invariant_of-self-else-same
invariant_of-self-else-same c = rw c.drop_file.ensures (
  full-dropped (full_below_of c.self.inside.files) (full_below_of c.put-else-same.new.self) c.args.file.now _ c.in_ok-put-2.ensures.bound c.self.inside.slots.pages c.self.invariant.0,
  known-dropped (states_of c.self.inside.files) (states_of c.put-else-same.new.self) c.args.file.now _ c.in_ok-put-2.ensures.ok c.self.inside.slots.pages c.self.invariant.1,
)
