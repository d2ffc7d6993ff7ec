use Rattle.std.proofs.Common.{◌≡◌, length}
use Rattle.kept_pages.specs.Comes.{ArePages}
use Rattle.kept_pages.proofs.filling.cache_of.Given as goal

-- what is kept so far comes from the slots, and there is room for as many pages
abbrev pub invariant-loop-done : goal.invariant-loop-done
invariant-loop-done g l = ArePages l.store.pages l.cache × (l.cache.room ≡ length l.store.pages)
