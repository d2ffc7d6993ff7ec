use Rattle.std.proofs.Common.{◌∷◌, ◌++◌, [], take, sym, ap, ◌∙◌}
use Rattle.std.proofs.lemmas.List.{take_more}
use Rattle.fetch_scripts.specs.declared.span.Span.{Span}
use Rattle.fetch_scripts.proofs.Givings.{spans-go}
use Rattle.fetch_scripts.proofs.taking_files.take_files.Goals as goal

pub loop-span-preserved : goal.loop-span-preserved
loop-span-preserved g c = record {
  took = spans-go _ (take c.loop-span.span-index c.args.spans.now) _ c.span-item.result _ _ _ _ _ _
      (take_more c.args.spans.now c.loop-span.span-index c.span-item.result c.loop-span-test.true
      ∙ ap (λ (s : Span). take c.loop-span.span-index c.args.spans.now ++ s ∷ []) (sym c.span-item.is))
      c.loop-span.invariant.took c.in_ok-is_taken.ensures.took;
  from = c.in_ok-is_taken.ensures.from ∙ c.loop-span.invariant.from;
}
