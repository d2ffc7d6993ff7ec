-- The place of a name in the table of procedures.
use Rattle.std.proofs.Common.{◌≡◌, ℕ, List, [], ◌∷◌, map, Bool, position, refl, sym}
use Rattle.std.specs.List.{position_or_len}
use Rattle.std.specs.Str.{bytes_eq}
use Rattle.std.proofs.lemmas.List.{length-map}
use Rattle.world_link.specs.declared.procedures.TheConstants.{PROCEDURES}
use Rattle.world_link.specs.Procedures.{proc_of}

-- the place of the first that passes, seen through a function
position_or_len-map : {A B : Type 0} (f : A → B) (test : B → Bool) (xs : List A) → position_or_len test (map f xs) ≡ position_or_len (λ x. test (f x)) xs
position_or_len-map f test [] = refl
position_or_len-map f test (x ∷ xs) = rw (position_or_len-map f test xs) refl

position-map : {A B : Type 0} (f : A → B) (test : B → Bool) (xs : List A) → position test (map f xs) ≡ position (λ x. test (f x)) xs
position-map f test xs = rw (position_or_len-map f test xs, length-map xs f) refl

-- the table has the names in the order of their numbers
pub in_table : (name : List ℕ) → position (λ p. bytes_eq p.now name) PROCEDURES ≡ proc_of name
in_table name = sym (position-map (λ p. p.now) (λ p. bytes_eq p name) PROCEDURES)
