-- The names that a text shows, word by word.
use Rattle.std.proofs.Common.{◌≡◌, ℕ, List, [], ◌∷◌, ◌++◌, Option, Some, None, refl, sym, ap, ◌∙◌}
use Rattle.trace_text.specs.Answers.{shown_name_of, shown_names_of}
use Rattle.trace_text.specs.Words.{◌>>=◌}

-- some names, and then those that are still to come
abbrev pub joined : List (List ℕ) → Option (List (List ℕ)) → Option (List (List ℕ))
joined names None = None
joined names (Some more) = Some (names ++ more)

nothing-more : {X : Type 0} (xs : List X) → xs ++ [] ≡ xs
nothing-more [] = refl
nothing-more (x ∷ xs) = ap (λ ys. x ∷ ys) (nothing-more xs)

one-then : {X : Type 0} (xs : List X) (x : X) (ys : List X) → xs ++ x ∷ ys ≡ (xs ++ x ∷ []) ++ ys
one-then [] x ys = refl
one-then (y ∷ xs) x ys = ap (λ zs. y ∷ zs) (one-then xs x ys)

after-one : (names : List (List ℕ)) (name : List ℕ) (o : Option (List (List ℕ))) → joined names (o >>= λ more. Some (name ∷ more)) ≡ joined (names ++ name ∷ []) o
after-one names name None = refl
after-one names name (Some more) = ap Some (one-then names name more)

pub one-name-more : (names : List (List ℕ)) (words rest : List (List ℕ)) (word name : List ℕ) (all : Option (List (List ℕ))) → words ≡ word ∷ rest → shown_name_of word ≡ Some name
    → joined names (shown_names_of words) ≡ all → joined (names ++ name ∷ []) (shown_names_of rest) ≡ all
one-name-more names words rest word name all e is so = sym (after-one names name (shown_names_of rest))
    ∙ sym (ap (λ (o : Option (List ℕ)). joined names (o >>= λ n. shown_names_of rest >>= λ more. Some (n ∷ more))) is)
    ∙ sym (ap (λ (ws : List (List ℕ)). joined names (shown_names_of ws)) e) ∙ so

pub no-name : (names : List (List ℕ)) (words rest : List (List ℕ)) (word : List ℕ) (all : Option (List (List ℕ))) → words ≡ word ∷ rest → shown_name_of word ≡ None
    → joined names (shown_names_of words) ≡ all → all ≡ None
no-name names words rest word all e is so = sym so ∙ ap (λ (ws : List (List ℕ)). joined names (shown_names_of ws)) e
    ∙ ap (λ (o : Option (List ℕ)). joined names (o >>= λ n. shown_names_of rest >>= λ more. Some (n ∷ more))) is

pub all-names : (names : List (List ℕ)) (words : List (List ℕ)) (all : Option (List (List ℕ))) → words ≡ [] → joined names (shown_names_of words) ≡ all → all ≡ Some names
all-names names words all e so = sym so ∙ ap (λ (ws : List (List ℕ)). joined names (shown_names_of ws)) e ∙ ap Some (nothing-more names)
