use Rattle.std.proofs.Common.{ℕ, sym, ap, ◌∙◌}
use Rattle.page_cache.specs.Pages.{Pages}
use Rattle.file_ops.proofs.Unkept.{plan_of, planned-none}
use Rattle.file_ops.proofs.gather.stop_at_kept.Goals as goal

pub returns-then-not-keeps_from : goal.returns-then-not-keeps_from
returns-then-not-keeps_from c =
    ap (plan_of c.args.end) c.if-not-keeps_from.ensures.same
    ∙ sym (planned-none c.args.file.now c.args.first c.args.count (plan_of c.args.end c.args.pages.now) c.if-not-keeps_from.ensures.none)

pub returns : goal.returns
returns c = rw c.keeps_from.ensures.same at c.stop_at_each.ensures
