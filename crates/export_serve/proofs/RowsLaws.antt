-- Rows of a listing that are written one after another.
use Rattle.std.proofs.Common.{◌≡◌, ◌<◌, ◌≤◌, ◌+◌, ℕ, List, [], ◌∷◌, ◌++◌, true, length, drop, get_or, subst, sym, ◌∙◌}
use Rattle.std.proofs.lemmas.List.{drop_more, drop_all}
use Rattle.xdr_codec.specs.Spelling.{flag_bytes}
use Rattle.xdr_codec.specs.Spells.{◌⨾◌, SpellsFlag, Wrote}
use Rattle.nfs_dir_calls.specs.Pages.{Writing}
use Rattle.nfs_dir_calls.proofs.Pages.{writing_next}

-- the row at an index, which an entry shows, was written after those before it
pub row_written : {A : Type 0} (write : A → List ℕ) (S : A → List ℕ → Type 0) (all : List A) (i : ℕ) (v r : A) (old now new : List ℕ) → i < length all → v ≡ get_or all i v → r ≡ v → Writing write S all (drop i all) old now
    → new ≡ now ++ (flag_bytes true ++ write r) → Wrote (SpellsFlag true ⨾ S r) now new → Writing write S all (drop (i + 1) all) old new
row_written {A = A} write S all i v r old now new l at shown w e s =
    let next : Writing write S all (get_or all i v ∷ drop (i + 1) all) old now = subst (λ (left : List A). Writing write S all left old now) (drop_more all i v l) w in
    let here : Writing write S all (r ∷ drop (i + 1) all) old now = subst (λ (k : A). Writing write S all (k ∷ drop (i + 1) all) old now) (sym (shown ∙ at)) next in
    writing_next write S all r (drop (i + 1) all) old now new here e s

-- all rows were written
pub rows_written : {A : Type 0} (write : A → List ℕ) (S : A → List ℕ → Type 0) (all : List A) (i : ℕ) (old now : List ℕ) → length all ≤ i → Writing write S all (drop i all) old now → Writing write S all [] old now
rows_written {A = A} write S all i old now l w = subst (λ (left : List A). Writing write S all left old now) (drop_all i all l) w
