-- A walk up the directories.
use Rattle.std.proofs.Common.{◌≡◌, ◌<◌, ◌-◌, ℕ, zero, suc, false, List, ap, sym, ◌∙◌, arith, ◌==◌}
use Rattle.export_fs.specs.declared.node.Node.{Node}
use Rattle.export_fs.specs.Parts.{live, parent_in}
use Rattle.export_fs.specs.Names.{is_below}

pub below_step : (n : ℕ) (nodes : List Node) (top at : ℕ) → 0 < n → (at == top) ≡ false → (at == 0) ≡ false → is_below (n - 1) nodes top (parent_in (live nodes at)) ≡ is_below n nodes top at
below_step zero nodes top at l e f = absurd (omega arith)
below_step (suc m) nodes top at l e f =
    let g : suc m - 1 ≡ m = omega arith in
    ap (λ (k : ℕ). is_below k nodes top (parent_in (live nodes at))) g ∙ sym (simp (e, f))
