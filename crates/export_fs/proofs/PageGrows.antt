-- A page takes one more entry.
use Rattle.std.proofs.Common.{◌≡◌, ◌≤◌, ◌+◌, ◌-◌, ◌++◌, ◌∷◌, [], ℕ, true, List, length, sym, ap, ◌∙◌, arith, nat_le, append_assoc, length-append}
use Rattle.std.proofs.lemmas.Bool.{le-leb}
use Rattle.nfs_dir_calls.specs.declared.plus_page.PlusRow.{PlusRow}
use Rattle.export_fs.specs.declared.node.Node.{Node}
use Rattle.export_fs.specs.Held.{Row}
use Rattle.export_fs.specs.Pages.{listed, spelled_size, fitting}

pub record IsPaged (nodes : List Node) (limit used : ℕ) (page rows : List PlusRow) (total : ℕ) (rest : List Row) : Type 0 where
  pub entries : page ≡ rows ++ fitting nodes limit used rest
  pub count : total ≡ length rows + length rest

pub page_step : (nodes : List Node) (limit used size : ℕ) (page rows new : List PlusRow) (total : ℕ) (rest tail : List Row) (next : Row) → IsPaged nodes limit used page rows total rest → rest ≡ next ∷ tail → size ≡ spelled_size (listed nodes next) → used ≤ limit → size ≤ limit - used → new ≡ rows ++ listed nodes next ∷ [] → IsPaged nodes limit (used + size) page new total tail
page_step nodes limit used size page rows new total rest tail next p r s l m n =
    let fits : nat_le (used + spelled_size (listed nodes next)) limit ≡ true = le-leb (used + spelled_size (listed nodes next)) limit (omega arith) in
    let e : fitting nodes limit used rest ≡ listed nodes next ∷ fitting nodes limit (used + size) tail = ap (fitting nodes limit used) r ∙ simp fits (ap (λ (z : ℕ). listed nodes next ∷ fitting nodes limit (used + z) tail) (sym s)) in
    record {
      entries = p.entries ∙ ap (λ (z : List PlusRow). rows ++ z) e ∙ sym (append_assoc rows (listed nodes next ∷ []) (fitting nodes limit (used + size) tail)) ∙ ap (λ (z : List PlusRow). z ++ fitting nodes limit (used + size) tail) (sym n);
      count = omega (arith, p.count, ap length r, ap length n, length-append rows (listed nodes next ∷ []));
    }
