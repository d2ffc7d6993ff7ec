use Rattle.std.proofs.Common.{◌≡◌, ◌∷◌, [], length, ap, arith, ◌-◌}
use Rattle.std.proofs.lemmas.List.{length-append}
use Rattle.outside.proofs.SetLast.{set_last}
use Rattle.outside.proofs.places.put_last.Goals as goal

pub returns : goal.returns
returns g c = record {
  last = λ ps p e.
      let n : c.len-at.result - 1 ≡ length ps = omega (arith, c.len-at.ensures, ap length e, length-append ps (p ∷ [])) in
      rw (e, n) (set_last ps p c.args.place);
  none = λ e. absurd (grind (arith, ap length e, c.len-at.ensures, c.if-is_empty.ensures, c.if-is_empty.false));
}
