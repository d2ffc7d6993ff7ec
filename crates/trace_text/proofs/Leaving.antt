-- A list without a name, by another view.
use Rattle.std.proofs.Common.{◌≡◌, ℕ, List, [], ◌∷◌, map, Bool, true, false, not, refl, ap}
use Rattle.std.specs.Prelude.{filter, if◌then◌else◌}
use Rattle.std.specs.Str.{bytes_eq}
use Rattle.trace_data.specs.declared.trace.DirEntry.{DirEntry}
use Rattle.trace_data.specs.Histories.{listed_of}
use Rattle.trace_text.specs.Objects.{without}

pub left-map : (name : List ℕ) (es : List DirEntry) → map listed_of (filter (λ (e : DirEntry). not (bytes_eq e.name name)) es) ≡ without name (map listed_of es)
left-map name [] = refl
left-map name (e ∷ es) = by (not (bytes_eq e.name name)) (left-map name es)
  where
    by : (b : Bool) → map listed_of (filter (λ (x : DirEntry). not (bytes_eq x.name name)) es) ≡ without name (map listed_of es)
        → map listed_of (if b then e ∷ filter (λ (x : DirEntry). not (bytes_eq x.name name)) es else filter (λ (x : DirEntry). not (bytes_eq x.name name)) es)
        ≡ (if b then listed_of e ∷ without name (map listed_of es) else without name (map listed_of es))
    by true rest = ap (λ ls. listed_of e ∷ ls) rest
    by false rest = rest
