-- Bytes that are all that there may be, put after none.
use Rattle.std.proofs.Common.{◌≡◌, ◌≤◌, ◌-◌, ℕ, List, [], ◌++◌, length, take, sym, ap, ◌∙◌, arith}
use Rattle.std.proofs.lemmas.List.{take_all, nil_from_length}
use Rattle.file_ops.specs.Base.{Bytes, with_more}

abbrev bytes_of : ℕ → ℕ → List ℕ → Bytes
bytes_of start limit bytes = record { start = start; limit = limit; bytes = bytes }

pub taken_over : (start limit : ℕ) (held more : List ℕ) → length held ≡ 0 → length more ≡ limit → bytes_of start limit more ≡ with_more more (bytes_of start limit held)
taken_over start limit held more none full =
    let room : length more ≤ limit - length held = omega (arith, none, full) in
    let empty : held ≡ [] = nil_from_length held none in
    let is : held ++ take (limit - length held) more ≡ more = ap (λ (h : List ℕ). h ++ take (limit - length held) more) empty ∙ take_all (limit - length held) more room in
    ap (bytes_of start limit) (sym is)
