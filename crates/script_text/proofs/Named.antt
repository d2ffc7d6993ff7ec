-- The names of a path, one after the other.
use Rattle.std.proofs.Common.{◌≡◌, ◌++◌, ℕ, List, length, Bool, true, false, not, ◌&&◌, nat_le, Option, Some, None, refl}
use Rattle.std.specs.Prelude.{MatchOption, codes}
use Rattle.std.specs.Option.{option_map}
use Rattle.std.specs.Str.{bytes_eq}
use Rattle.std.proofs.lemmas.Bool.{and_parts, leb-true, false_from_ne_true, le-leb}
use Rattle.nfs_types.specs.Names.{IsName, is_no_name}
use Rattle.nfs_types.proofs.Names.{test_of_name, name_of_test}
use Rattle.script_text.specs.Paths.{is_path_name}

-- names before others
abbrev pub named_before : List (List ℕ) → Option (List (List ℕ)) → Option (List (List ℕ))
named_before names others = option_map (λ more. names ++ more) others

-- what passes each test of a name is one
name_of_tests : (bytes : List ℕ) → is_path_name bytes ≡ true → IsName bytes
name_of_tests bytes t =
    let a = and_parts (nat_le (length bytes) 255 && not (is_no_name bytes) && not (bytes_eq bytes (codes "."))) (not (bytes_eq bytes (codes ".."))) t in
    let b = and_parts (nat_le (length bytes) 255 && not (is_no_name bytes)) (not (bytes_eq bytes (codes "."))) a.0 in
    let c = and_parts (nat_le (length bytes) 255) (not (is_no_name bytes)) b.0 in
    name_of_test bytes (leb-true (length bytes) 255 c.0) (not_false (is_no_name bytes) c.1)
  where
    not_false : (b : Bool) → not b ≡ true → b ≡ false
    not_false true h = absurd cc
    not_false false h = refl

-- what Name takes, but for the two names that stand for directories
pub is_taken : (bytes : List ℕ) (name : Option (List ℕ)) → MatchOption name (¬ IsName bytes) (λ n. (n ≡ bytes) × IsName bytes) → bytes_eq bytes (codes ".") ≡ false → bytes_eq bytes (codes "..") ≡ false → MatchOption name (is_path_name bytes ≡ false) (λ n. (is_path_name bytes ≡ true) × (n ≡ bytes))
is_taken bytes None h one two = false_from_ne_true _ (λ t. h (name_of_tests bytes t))
is_taken bytes (Some n) h one two = (rw (le-leb (length bytes) 255 h.1.bound, test_of_name bytes h.1, one, two) refl, h.0)
