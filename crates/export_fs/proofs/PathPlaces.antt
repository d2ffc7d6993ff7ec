-- A path is the way to a directory, and a name.
use Rattle.std.proofs.Common.{◌≡◌, ◌-◌, ◌++◌, ◌∷◌, [], ℕ, List, Option, Some, length, take, refl, sym, ap, ◌∙◌, arith, slice_get, length-append}
use Rattle.std.proofs.Math.Seq.{take-append_seam}
use Rattle.export_fs.specs.View.{View}
use Rattle.export_fs.specs.Placing.{walked, placed, placed_in, placed_last}

last_name : (front : List (List ℕ)) (name : List ℕ) → slice_get (front ++ name ∷ []) (length front) ≡ Some name
last_name [] name = refl
last_name (f ∷ front) name = last_name front name

pub placed_is : (view : View) (path front : List (List ℕ)) (name : List ℕ) (file : Option (List ℕ)) (dir : Option ℕ) → path ≡ front ++ name ∷ [] → dir ≡ walked view.nodes (Some 0) front → placed view path file ≡ placed_in view name file dir
placed_is view path front name file dir is way =
    let e : length path - 1 ≡ length front = omega (arith, ap length is, length-append front (name ∷ [])) in
    let f : take (length path - 1) path ≡ front = ap (λ (n : ℕ). take n path) e ∙ ap (take (length front)) is ∙ take-append_seam front (name ∷ []) in
    let g : slice_get path (length path - 1) ≡ Some name = ap (slice_get path) e ∙ ap (λ (z : List (List ℕ)). slice_get z (length front)) is ∙ last_name front name in
    ap (λ (n : Option (List ℕ)). placed_last view (take (length path - 1) path) n file) g ∙ ap (λ (z : List (List ℕ)). placed_in view name file (walked view.nodes (Some 0) z)) f ∙ ap (placed_in view name file) (sym way)
