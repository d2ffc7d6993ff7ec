use Rattle.std.proofs.Common.{refl, sym, ◌∙◌}
use Rattle.page_cache.proofs.Bounds.{states_lookup}
use Rattle.page_cache.proofs.Inserts.{same}
use Rattle.page_cache.proofs.Unchanged.{states-unchanged}
use Rattle.page_cache.proofs.files.Files.learn.Goals as goal

pub returns-then-full_below-was-clause-known : goal.returns-then-full_below-was-clause-known
returns-then-full_below-was-clause-known c = states-unchanged c.args.file.now c.args.was.now c.args.self.now c.requires c.args.stamp.now (sym c.is_stamp.ensures ∙ c.if-is_stamp.true)

pub change-requires : goal.change-requires
change-requires c = rw (states_lookup (same c.args.file.now) c.args.self.now, c.requires) refl
