-- What is kept of files stays as it is where it is put in again.
use Rattle.std.proofs.Common.{◌≡◌, ℕ, Bool, true, false, List, [], ◌∷◌, Some, if◌then◌else◌, sym, ap, ◌∙◌}
use Rattle.std.proofs.lemmas.Option.{same_Some}
use Rattle.std.specs.Map.{lookup}
use Rattle.indexmap.specs.IndexMap.{insert_entry}
use Rattle.nfs_types.specs.declared.wcc.Stamp.{Stamp}
use Rattle.page_cache.specs.declared.files.FileRecord.{FileRecord}
use Rattle.page_cache.specs.Pages.{is_stamp}
use Rattle.page_cache.specs.Full.{states_of, learned}
use Rattle.page_cache.proofs.Inserts.{same}
use Rattle.page_cache.proofs.Bounds.{states_insert}
use Rattle.page_cache.proofs.States.{is_stamp-is}

-- a value that is there already
insert-same : {V : Type 0} → (file : List ℕ) (v : V) (files : List (List ℕ × V)) → lookup (same file) files ≡ Some v → insert_entry same files file v ≡ files
insert-same file v [] is = cc
insert-same file v (e ∷ files) is = by (same file e.0) is (λ h. insert-same file v files h)
  where
    by : (b : Bool) → (if b then Some e.1 else lookup (same file) files) ≡ Some v → (lookup (same file) files ≡ Some v → insert_entry same files file v ≡ files)
        → (if b then (e.0, v) ∷ files else e ∷ insert_entry same files file v) ≡ e ∷ files
    by true h on = ap (λ x. (e.0, x) ∷ files) (sym (same_Some e.1 v h))
    by false h on = ap (λ l. e ∷ l) (on h)

-- a file of which the known stamp is told again
pub states-unchanged : (file : List ℕ) (was : FileRecord) (files : List (List ℕ × FileRecord)) → lookup (same file) files ≡ Some was
    → (stamp : Stamp) → is_stamp stamp was.state.known ≡ true → states_of files ≡ insert_entry same (states_of files) file (learned was stamp)
states-unchanged file was files is stamp known =
    let state : was.state ≡ learned was stamp = ap (λ k. record { known = k; mark = was.state.mark }) (is_stamp-is stamp was.state.known known) in
    ap states_of (sym (insert-same file was files is)) ∙ states_insert file was files ∙ ap (insert_entry same (states_of files) file) state
