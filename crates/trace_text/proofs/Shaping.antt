-- The operation that began last, looked for backwards.
use Rattle.std.proofs.Common.{◌≡◌, ◌<◌, ◌-◌, ℕ, suc, List, Option, Some, None, slice_get, refl, sym, ap, ◌∙◌, arith}
use Rattle.world_model.specs.declared.entry.Entry.{Entry}
use Rattle.trace_text.specs.declared.answers.Shape.{Shape}
use Rattle.trace_text.specs.EntryLines.{last_shape, or_shape, shape_at}

pub shape-back : (lane line : ℕ) (es : List Entry) (left : ℕ) (found : Option Shape) (whole : Shape) → 0 < left → found ≡ shape_at lane line (slice_get es (left - 1))
    → ((shape : Shape) → found ≡ Some shape → ⊥) → whole ≡ last_shape lane line es left → whole ≡ last_shape lane line es (left - 1)
shape-back lane line es left found whole some is none so = so ∙ ap (last_shape lane line es) (sym back) ∙ by found is none
  where
    back : suc (left - 1) ≡ left
    back = omega (arith, some)

    by : (f : Option Shape) → f ≡ shape_at lane line (slice_get es (left - 1)) → ((shape : Shape) → f ≡ Some shape → ⊥)
        → or_shape (shape_at lane line (slice_get es (left - 1))) (last_shape lane line es (left - 1)) ≡ last_shape lane line es (left - 1)
    by None e no-shape = ap (λ (o : Option Shape). or_shape o (last_shape lane line es (left - 1))) (sym e)
    by (Some shape) e no-shape = absurd (no-shape shape refl)
