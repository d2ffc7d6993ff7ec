use Rattle.std.proofs.Common.{◌≡◌, ◌∷◌, [], length, ap, refl, arith, ◌∙◌, ◌-◌}
use Rattle.std.proofs.lemmas.List.{length-append, take_at}
use Rattle.outside.proofs.places.take_last.Goals as goal

pub returns : goal.returns
returns g c = record {
  last = λ ps p e.
      let n : c.len-at.result - 1 ≡ length ps = omega (arith, c.len-at.ensures, ap length e, length-append ps (p ∷ [])) in
      c.truncate.ensures.items ∙ rw (e, n) (take_at ps (p ∷ []) (length ps) refl);
  none = λ e. absurd (grind (arith, ap length e, c.len-at.ensures, c.if-is_empty.ensures, c.if-is_empty.false));
}
