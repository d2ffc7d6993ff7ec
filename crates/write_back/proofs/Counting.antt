-- The count of all pending bytes, after a change of one file's.
use Rattle.std.proofs.Common.{◌≡◌, ◌≤◌, ℕ, ◌+◌, ◌-◌, Bool, true, false, cond, List, [], Option, Some, None, refl, ap, ◌∙◌, arith, nat_cmp}
use Rattle.std.specs.Prelude.{unwrap_or, IsSome}
use Rattle.std.specs.Option.{option_map}
use Rattle.std.specs.Cmp.Lexicographic.{slice_cmp, nat_list_cmp_total}
use Rattle.std.specs.List.Sorted.{IsStrictlySortedBy}
use Rattle.std.specs.Map.{lookup, keys_of, set_value, remove_entry}
use Rattle.std.specs.BTreeMap.{BTreeMap, is_at, insert_entry, UpdatesBy, WritesThrough}
use Rattle.std.proofs.lemmas.Map.Entries.{sum_by-set_value, sum_by-remove_entry, sum_by-insert_entry}
use Rattle.write_back.specs.Pieces.{FilePending, nothing, pending_of}
use Rattle.write_back.specs.Files.{Pending, of_file, OnFile, all_pending, IsCounted}
use Rattle.write_back.specs.Sound.{IsSound, most_pending}
use Rattle.write_back.proofs.Keeping.{sound-nothing}
use Rattle.write_back.proofs.ByFile.{on-file}

-- whether a handle is a file's
abbrev pub is_file : List ℕ → List ℕ → Bool
is_file file = is_at (slice_cmp nat_cmp file)

pub of-found : (file : List ℕ) (p : Pending) (o : Option FilePending) → lookup (is_file file) p ≡ o → of_file file p ≡ unwrap_or o nothing
of-found file p o is = ap (λ z. unwrap_or z nothing) is

pub counted-none : IsCounted [] 0
counted-none = record { sound = λ file. sound-nothing; total = refl; room = omega arith }

-- each file's pending bytes are sound
sound-updates : (m n : BTreeMap (List ℕ) FilePending) (file : List ℕ) (w : Option FilePending) → UpdatesBy (slice_cmp nat_cmp) (slice_cmp nat_cmp file) m n w
    → ((other : List ℕ) → IsSound (of_file other m.entries)) → IsSound (unwrap_or w nothing) → (other : List ℕ) → IsSound (of_file other n.entries)
sound-updates m n file w changes sound here other = by (is_file file other) refl
  where
    is : of_file other n.entries ≡ unwrap_or (cond (is_file file other) w (lookup (is_file other) m.entries)) nothing
    is = ap (λ z. unwrap_or z nothing) (changes.0 other)

    by : (b : Bool) → is_file file other ≡ b → IsSound (of_file other n.entries)
    by true h = let same : of_file other n.entries ≡ unwrap_or w nothing = is ∙ ap (λ z. unwrap_or (cond z w (lookup (is_file other) m.entries)) nothing) h in rw same here
    by false h = let same : of_file other n.entries ≡ of_file other m.entries = is ∙ ap (λ z. unwrap_or (cond z w (lookup (is_file other) m.entries)) nothing) h in rw same (sound other)

some-of : (o : Option FilePending) (v : FilePending) → o ≡ Some v → IsSome o
some-of None v is = absurd cc
some-of (Some w) v is = refl

-- the bytes of one file are some of all
pub among-all : (file : List ℕ) (p : Pending) (v : FilePending) → lookup (is_file file) p ≡ Some v → pending_of v ≤ all_pending p
among-all file p v is =
    let sum : all_pending (remove_entry (is_file file) p) + unwrap_or (option_map pending_of (lookup (is_file file) p)) 0 ≡ all_pending p = sum_by-remove_entry pending_of (is_file file) p in
    let size : unwrap_or (option_map pending_of (lookup (is_file file) p)) 0 ≡ pending_of v = ap (λ o. unwrap_or (option_map pending_of o) 0) is in
    omega (arith, sum, size)

-- a file's pending bytes were changed
pub on-through : (m n : BTreeMap (List ℕ) FilePending) (file : List ℕ) (v w : FilePending) → lookup (is_file file) m.entries ≡ Some v → WritesThrough (slice_cmp nat_cmp) (slice_cmp nat_cmp file) m w n → OnFile m.entries n.entries file w
on-through m n file v w found writes = on-file m n file (Some w) (writes.3 (some-of (lookup (is_file file) m.entries) v found))

pub counted-through : (m n : BTreeMap (List ℕ) FilePending) (file : List ℕ) (v w : FilePending) (total : ℕ) → lookup (is_file file) m.entries ≡ Some v → WritesThrough (slice_cmp nat_cmp) (slice_cmp nat_cmp file) m w n
    → IsCounted m.entries total → IsSound w → total - pending_of v + pending_of w ≤ most_pending → IsCounted n.entries (total - pending_of v + pending_of w)
counted-through m n file v w total found writes counted here room =
    let sum : all_pending (set_value (is_file file) m.entries w) + pending_of v ≡ all_pending m.entries + pending_of w = sum_by-set_value pending_of (is_file file) m.entries v w found in
    let same : all_pending n.entries ≡ all_pending (set_value (is_file file) m.entries w) = ap all_pending writes.0 in
    record {
      sound = sound-updates m n file (Some w) (writes.3 (some-of (lookup (is_file file) m.entries) v found)) counted.sound here;
      total = omega (arith, sum, same, counted.total, among-all file m.entries v found);
      room = room;
    }

-- a file without pending bytes got some
pub on-inserted : (m n : BTreeMap (List ℕ) FilePending) (file : List ℕ) (w : FilePending) → UpdatesBy (slice_cmp nat_cmp) (slice_cmp nat_cmp file) m n (Some w) → OnFile m.entries n.entries file w
on-inserted m n file w changes = on-file m n file (Some w) changes

pub counted-inserted : (m n : BTreeMap (List ℕ) FilePending) (file : List ℕ) (w : FilePending) (total : ℕ) → lookup (is_file file) m.entries ≡ None → IsStrictlySortedBy (slice_cmp nat_cmp) (keys_of m.entries)
    → UpdatesBy (slice_cmp nat_cmp) (slice_cmp nat_cmp file) m n (Some w) → n.entries ≡ insert_entry (slice_cmp nat_cmp) m.entries file w
    → IsCounted m.entries total → IsSound w → total + pending_of w ≤ most_pending → IsCounted n.entries (total + pending_of w)
counted-inserted m n file w total absent sorted changes is counted here room =
    let sum : all_pending (insert_entry (slice_cmp nat_cmp) m.entries file w) + unwrap_or (option_map pending_of (lookup (is_file file) m.entries)) 0 ≡ all_pending m.entries + pending_of w = sum_by-insert_entry pending_of nat_list_cmp_total m.entries file w sorted in
    let none : unwrap_or (option_map pending_of (lookup (is_file file) m.entries)) 0 ≡ 0 = ap (λ o. unwrap_or (option_map pending_of o) 0) absent in
    let same : all_pending n.entries ≡ all_pending (insert_entry (slice_cmp nat_cmp) m.entries file w) = ap all_pending is in
    record {
      sound = sound-updates m n file (Some w) changes counted.sound here;
      total = omega (arith, sum, none, same, counted.total);
      room = room;
    }

-- a file's pending bytes are gone
pub on-removed : (m n : BTreeMap (List ℕ) FilePending) (file : List ℕ) → UpdatesBy (slice_cmp nat_cmp) (slice_cmp nat_cmp file) m n None → OnFile m.entries n.entries file nothing
on-removed m n file changes = on-file m n file None changes

pub counted-removed : (m n : BTreeMap (List ℕ) FilePending) (file : List ℕ) (o : Option FilePending) (total : ℕ) → lookup (is_file file) m.entries ≡ o → UpdatesBy (slice_cmp nat_cmp) (slice_cmp nat_cmp file) m n None → n.entries ≡ remove_entry (is_file file) m.entries
    → IsCounted m.entries total → IsCounted n.entries (total - pending_of (unwrap_or o nothing))
counted-removed m n file o total found changes is counted =
    let sum : all_pending (remove_entry (is_file file) m.entries) + unwrap_or (option_map pending_of (lookup (is_file file) m.entries)) 0 ≡ all_pending m.entries = sum_by-remove_entry pending_of (is_file file) m.entries in
    let size : unwrap_or (option_map pending_of (lookup (is_file file) m.entries)) 0 ≡ pending_of (unwrap_or o nothing) = ap (λ z. unwrap_or (option_map pending_of z) 0) found ∙ none o in
    let same : all_pending n.entries ≡ all_pending (remove_entry (is_file file) m.entries) = ap all_pending is in
    record {
      sound = sound-updates m n file None changes counted.sound sound-nothing;
      total = omega (arith, sum, size, same, counted.total);
      room = omega (arith, counted.room);
    }
  where
    none : (z : Option FilePending) → unwrap_or (option_map pending_of z) 0 ≡ pending_of (unwrap_or z nothing)
    none None = refl
    none (Some v) = refl
