use Rattle.std.proofs.Common.{sym, ◌∙◌}
use Rattle.page_cache.proofs.Guesses.{gap-behind, gap-between, gap-first}
use Rattle.page_cache.proofs.sorted.count_if_near.Goals as goal

pub returns-else-is_before_at-2 : goal.returns-else-is_before_at-2
returns-else-is_before_at-2 c = gap-behind c.args.by_slot.now c.args.sorted.now c.args.file.now c.args.bound c.requires c.args.near
    (sym c.is_before_at.ensures ∙ c.if-is_before_at.true) (sym c.is_before_at-then-is_before_at.ensures ∙ c.if-is_before_at-2.false)

pub returns-then-near-eq0 : goal.returns-then-near-eq0
returns-then-near-eq0 c = gap-first c.args.by_slot.now c.args.sorted.now c.args.file.now c.args.bound c.requires c.args.near c.if-near-eq0.true
    (sym c.is_before_at.ensures ∙ c.if-is_before_at.false)

pub returns-then-is_before_at-3 : goal.returns-then-is_before_at-3
returns-then-is_before_at-3 c = gap-between c.args.by_slot.now c.args.sorted.now c.args.file.now c.args.bound c.requires c.args.near c.if-near-eq0.false
    (sym c.is_before_at.ensures ∙ c.if-is_before_at.false) (sym c.is_before_at-else-near-eq0.ensures ∙ c.if-is_before_at-3.true)
