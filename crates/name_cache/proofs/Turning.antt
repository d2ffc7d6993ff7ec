-- Each entry passes the front once.
use Rattle.std.proofs.Common.{◌≡◌, ◌<◌, ℕ, ◌+◌, suc, true, false, cond, List, [], ◌∷◌, ◌++◌, length, take, drop, get_or, sym, ap, arith, append_assoc, append-nil, add-one}
use Rattle.std.proofs.lemmas.List.Elements.{filter_more}
use Rattle.std.proofs.Math.Seq.{drop-cons, drop-length, take-length}
use Rattle.name_cache.specs.declared.entry.Place.{Place}
use Rattle.name_cache.specs.declared.entry.KeptName.{KeptName}
use Rattle.name_cache.specs.Names.{Entries, is_of_other, without_dir, turned}

-- the first n entries have passed
abbrev pub passed : List ℕ → Entries → ℕ → Entries
passed dir entries n = drop n entries ++ without_dir dir (take n entries)

turned_on : (dir : List ℕ) (e : Place × KeptName) (rest done : Entries) → turned dir (e ∷ (rest ++ done)) ≡ rest ++ (done ++ cond (is_of_other dir e) (e ∷ []) [])
turned_on dir e rest done = (elim (is_of_other dir e) as (λ y. cond y ((rest ++ done) ++ e ∷ []) (rest ++ done) ≡ rest ++ (done ++ cond y (e ∷ []) [])) [
  | true ↦ append_assoc rest done (e ∷ [])
  | false ↦ ap (λ l. rest ++ l) (sym (append-nil done))
])

pub turned-passed : (dir : List ℕ) (entries : Entries) (n : ℕ) → n < length entries → turned dir (passed dir entries n) ≡ passed dir entries (n + 1)
turned-passed dir [] n within = absurd (omega arith)
turned-passed dir (e ∷ entries) n within =
    rw (drop-cons (e ∷ entries) n e within, filter_more (is_of_other dir) (e ∷ entries) n e within, add-one n)
    (turned_on dir (get_or (e ∷ entries) n e) (drop (suc n) (e ∷ entries)) (without_dir dir (take n (e ∷ entries))))

pub passed-all : (dir : List ℕ) (entries : Entries) → passed dir entries (length entries) ≡ without_dir dir entries
passed-all dir entries = rw (drop-length entries, take-length entries)
