-- Words that are looked for, and the sizes of a session over UDP (RFC 768: a datagram holds fewer than 65,536 bytes).
use Rattle.std.specs.Prelude.{ℕ, Bool, List, [], ◌∷◌, ◌++◌, codes, eqb, if◌then◌else◌}
use Rattle.std.specs.List.{list_any, starts_with}

-- whether a word is the option, or begins with it
abbrev pub names : List ℕ → List (List ℕ) → Bool
names option words = list_any (λ (w : List ℕ). starts_with eqb w option) words

-- the option with 8,192 bytes, if no word is or begins with it
abbrev pub missing_size : List ℕ → List (List ℕ) → List (List ℕ)
missing_size option words = if names option words then [] else option ∷ codes "8192" ∷ []

-- the sizes that are missing stand after the first word
abbrev pub with_sizes : List (List ℕ) → List (List ℕ)
with_sizes [] = []
with_sizes (w ∷ ws) = w ∷ (missing_size (codes "--rsize") (w ∷ ws) ++ (missing_size (codes "--wsize") (w ∷ ws) ++ ws))

-- the most calls that there can be, if no word is or begins with `--calls`
abbrev pub missing_calls : List (List ℕ) → List (List ℕ)
missing_calls words = if names (codes "--calls") words then [] else codes "--calls" ∷ codes "2147483647" ∷ []

-- they stand after the first word
abbrev pub with_calls : List (List ℕ) → List (List ℕ)
with_calls [] = []
with_calls (w ∷ ws) = w ∷ (missing_calls (w ∷ ws) ++ ws)
