-- Of a file of which nothing is pending no step of a save makes anything pending.
use Rattle.core_session.proofs.Prelude.{◌≡◌, ◌≢◌, ◌⊎◌, inl, inr, ℕ, List, ◌∷◌, Result, refl, sym, ap, subst, ◌∙◌, Fault, Reply, chosen, Pending, of_file, OnFile, FilePending, nothing, same-or, Repeat, Turn, Saving}
use Rattle.std.proofs.Common.{Contains}
use Rattle.write_back.specs.Files.{numbers_of, IsOldest}
use Rattle.file_ops.specs.Saves as saves
use Rattle.file_ops.proofs.Fewer.{none-in}
use Rattle.core_session.proofs.syncs.SaveMoves.{IsKept, takes-kept}

-- nothing of the file is pending
abbrev pub IsEmpty : List ℕ → Pending → Type 0
IsEmpty f back = of_file f back ≡ nothing

pub oldest-some : (back : Pending) (f : List ℕ) → IsOldest back f → IsEmpty f back → ⊥
oldest-some back f o none = none-in o.number (subst (λ (of : FilePending). Contains (numbers_of of) o.number) none o.there)

with-file : (f file : List ℕ) (old new : Pending) (to : FilePending) → OnFile old new file to → (of_file file old ≡ nothing → to ≡ nothing) → IsEmpty f old → IsEmpty f new
with-file f file old new to on keeps none = by (same-or file f)
  where
    by : (f ≡ file) ⊎ (f ≢ file) → IsEmpty f new
    by (inl same) =
        subst (λ (k : List ℕ). IsEmpty k new) (sym same) (on.here ∙ keeps (subst (λ (k : List ℕ). IsEmpty k old) same none))
    by (inr apart) = on.others f apart ∙ none

-- no file is apart
abbrev Any : List ℕ → Type 0
Any file = Unit {0}

empty-kept : (f : List ℕ) (asked to : ℕ) → IsKept Any asked to (IsEmpty f)
empty-kept f asked to = record {
  puts = λ file upto wsize e es old new o is on none. with-file f file old new _ on.0
      (λ nil. absurd (let no_way : chosen upto wsize nothing ≡ e ∷ es = sym (ap (chosen upto wsize) nil) ∙ is in cc)) none;
  lands = λ file change old new o on none. with-file f file old new _ on (λ nil. rw nil refl) none;
  part_lands = λ file change count old new o on none. with-file f file old new _ on (λ nil. rw nil refl) none;
  renames = λ file old new o on none. with-file f file old new _ on (λ nil. rw nil refl) none;
  decides = λ file upto verf old new o on none. with-file f file old new _ on (λ nil. rw nil refl) none;
}

pub takes-empty : (f : List ℕ) (wsize : ℕ) (sent turn : Turn) (came : Result Reply Fault) (repeats : List Repeat) (s : Saving) (back : Pending) (next : _) (new : Saving) (after : Pending)
    (later : List Repeat) → saves.Takes wsize sent turn came repeats s back next new after later → IsEmpty f back → IsEmpty f after
takes-empty f wsize sent turn came repeats s back next new after later t none =
    takes-kept Any (IsEmpty f) sent turn (empty-kept f sent.xid turn.xid) wsize came repeats s back next new after later tt t none
