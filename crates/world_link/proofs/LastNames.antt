-- The last name of a path.
use Rattle.std.proofs.Common.{◌≡◌, ◌-◌, ◌++◌, ◌∷◌, [], ℕ, List, length, take, Option, Some, refl, sym, ap, ◌∙◌, arith, slice_get, length-append}
use Rattle.std.proofs.Math.Seq.{take-append_seam}
use Rattle.export_fs.specs.View.{View}
use Rattle.export_fs.specs.Finding.{found}
use Rattle.world_link.specs.Happening.{named_in, last_in}

last_name : (front : List (List ℕ)) (name : List ℕ) → slice_get (front ++ name ∷ []) (length front) ≡ Some name
last_name [] name = refl
last_name (f ∷ front) name = last_name front name

-- a path is the way to a directory, and a name
pub last_is : (view : View) (path front : List (List ℕ)) (name : List ℕ) → path ≡ front ++ name ∷ [] → named_in (found view front) (Some name) ≡ last_in view path
last_is view path front name is =
    let e : length path - 1 ≡ length front = omega (arith, ap length is, length-append front (name ∷ [])) in
    let f : take (length path - 1) path ≡ front = ap (λ (n : ℕ). take n path) e ∙ ap (take (length front)) is ∙ take-append_seam front (name ∷ []) in
    let g : slice_get path (length path - 1) ≡ Some name = ap (slice_get path) e ∙ ap (λ (z : List (List ℕ)). slice_get z (length front)) is ∙ last_name front name in
    ap (λ (t : List (List ℕ)). named_in (found view t) (Some name)) (sym f) ∙ ap (λ (t : Option (List ℕ)). named_in (found view (take (length path - 1) path)) t) (sym g)
