-- Pages that are offered one after the other.
use native.Mathlib.Numerals.{unary_clauses}
use Rattle.std.proofs.Common.{◌≡◌, ◌+◌, ℕ, List, Bool, ap, ◌∙◌}
use Rattle.nfs_types.specs.declared.wcc.Stamp.{Stamp}
use Rattle.page_cache.specs.declared.state.Keep.{Keep}
use Rattle.page_cache.specs.Pages.{Pages, keep_answer, after_keep}
use Rattle.file_ops.specs.Kept.{kept_page, offered, offered_from}

pub kept-so : (file : List ℕ) (stamp : Stamp) (sent index : ℕ) (page : List ℕ) (answer : Keep) (old new : Pages)
    → answer ≡ keep_answer file stamp sent old → new ≡ after_keep answer stamp (record { file = file; index = index }) page old
    → new ≡ kept_page file stamp sent index page old
unfolding kept_page
kept-so file stamp sent index page answer old new e f = f ∙ ap (λ k. after_keep k stamp (record { file = file; index = index }) page old) e

pub offered-on : (file : List ℕ) (stamp : Stamp) (sent place : ℕ) (bytes : List ℕ) (ends : Bool) (index n : ℕ) (before old new : Pages)
    → old ≡ offered_from file stamp sent place bytes ends index n before → new ≡ offered file stamp sent place bytes ends (index + n) old
    → new ≡ offered_from file stamp sent place bytes ends index (n + 1) before
offered-on file stamp sent place bytes ends index n before old new e f = simp unary_clauses (f ∙ ap (offered file stamp sent place bytes ends (index + n)) e)
