-- What is kept of files by file, where it becomes another for one of them.
use Rattle.std.proofs.Common.{◌≡◌, ℕ, Bool, true, false, nat_eq, List, [], ◌∷◌, Some, if◌then◌else◌, refl, sym, ap, ◌∙◌}
use Rattle.std.specs.Cmp.Lexicographic.{pointwise, bytes_decides}
use Rattle.std.specs.Map.{lookup}
use Rattle.indexmap.specs.IndexMap.{insert_entry}

-- whether two files are one
abbrev pub same : List ℕ → List ℕ → Bool
same f g = pointwise nat_eq f g

pub same-is : (f g : List ℕ) → same f g ≡ true → f ≡ g
same-is f g t = (bytes_decides f g).0 t

pub same-self : (f : List ℕ) → same f f ≡ true
same-self f = (bytes_decides f f).1 refl

module _ {V : Type 0} where
  pub lookup-insert : (f file : List ℕ) (v : V) (files : List (List ℕ × V))
      → lookup (same f) (insert_entry same files file v) ≡ (if same f file then Some v else lookup (same f) files)
  lookup-insert f file v [] = refl
  lookup-insert f file v (e ∷ files) = by (same file e.0) (same f e.0) (same f file) refl refl refl (lookup-insert f file v files)
    where
      by : (a b c : Bool) → same file e.0 ≡ a → same f e.0 ≡ b → same f file ≡ c
          → lookup (same f) (insert_entry same files file v) ≡ (if c then Some v else lookup (same f) files)
          → lookup (same f) (if a then (e.0, v) ∷ files else e ∷ insert_entry same files file v) ≡ (if c then Some v else (if b then Some e.1 else lookup (same f) files))
      by true true true ea eb ec on = rw eb refl
      by true true false ea eb ec on = absurd (let t : same f file ≡ true = ap (same f) (same-is file e.0 ea) ∙ eb in cc)
      by true false true ea eb ec on = absurd (let t : same f e.0 ≡ true = ap (same f) (sym (same-is file e.0 ea)) ∙ ec in cc)
      by true false false ea eb ec on = rw eb refl
      by false true true ea eb ec on = absurd (let t : same file e.0 ≡ true = ap (λ g. same g e.0) (sym (same-is f file ec)) ∙ eb in cc)
      by false true false ea eb ec on = rw eb refl
      by false false true ea eb ec on = rw eb on
      by false false false ea eb ec on = rw eb on
