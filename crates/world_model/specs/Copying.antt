-- Which operations are copied alike.
use Rattle.std.specs.Prelude.{ℕ}
use Rattle.world_model.specs.declared.op.Op.{Op}
use Rattle.world_model.specs.declared.op.Op.TheVariants as ops

-- - 1: those that bring more than a path;
-- - 2: those that look at what one leads to;
-- - 3: those that make or remove what one names;
-- - 4: those with two paths;
-- - 0: all others.
abbrev pub copied_as : Op → ℕ
copied_as (ops.OpenFile slot mode path) = 1
copied_as (ops.Put path offset bytes) = 1
copied_as (ops.SymLink path target) = 1
copied_as (ops.Stat path) = 2
copied_as (ops.Access path bits) = 2
copied_as (ops.ReadLink path) = 2
copied_as (ops.List path) = 2
copied_as (ops.MakeDir path) = 3
copied_as (ops.RemoveDir path) = 3
copied_as (ops.Remove path) = 3
copied_as (ops.Rename from to) = 4
copied_as (ops.Link from to) = 4
copied_as op = 0
