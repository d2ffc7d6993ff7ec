-- A walk along names.
use Rattle.std.proofs.Common.{◌≡◌, ◌<◌, ◌+◌, ℕ, List, Option, length, drop, get_or, ap, sym, ◌∙◌, add-one}
use Rattle.std.proofs.Math.Seq.{drop-cons}
use Rattle.export_fs.specs.declared.node.Node.{Node}
use Rattle.export_fs.specs.Names.{named_at}
use Rattle.export_fs.specs.Placing.{walked}

pub walk_step : (nodes : List Node) (at : Option ℕ) (names : List (List ℕ)) (i : ℕ) (name : List ℕ) → i < length names → name ≡ get_or names i name → walked nodes (named_at nodes at name) (drop (i + 1) names) ≡ walked nodes at (drop i names)
walk_step nodes at names i name l is =
    ap (λ (n : List ℕ). walked nodes (named_at nodes at n) (drop (i + 1) names)) is ∙ ap (λ (k : ℕ). walked nodes (named_at nodes at (get_or names i name)) (drop k names)) (add-one i) ∙ sym (ap (walked nodes at) (drop-cons names i name l))
