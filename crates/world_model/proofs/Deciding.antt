-- Whether two lists of bytes are equal, whether two lists of entries are, and whether a list has an entry of this name and
-- object.
use Rattle.std.proofs.Common.{inl, inr, ◌⊎◌, ◌≡◌, ◌==◌, ℕ, zero, suc, List, [], ◌∷◌, Some, slice_get, refl, ap, ◌∙◌}
use Rattle.std.proofs.lemmas.Bool.{cases_Bool, eqb-true, eqb-false}
use Rattle.world_model.specs.Server.{Listed, Lists}

same_number : (a b : ℕ) → (a ≡ b) ⊎ (a ≡ b → ⊥)
same_number a b = elim (cases_Bool (a == b)) [ inl e ↦ inl (eqb-true a b e) | inr e ↦ inr (eqb-false a b e) ]

pub same_bytes : (a b : List ℕ) → (a ≡ b) ⊎ (a ≡ b → ⊥)
same_bytes [] [] = inl refl
same_bytes [] (y ∷ b) = inr (λ e. absurd (cc e))
same_bytes (x ∷ a) [] = inr (λ e. absurd (cc e))
same_bytes (x ∷ a) (y ∷ b) =
    elim (same_number x y) [
      | inl e ↦ elim (same_bytes a b) [ inl r ↦ inl (rw (e, r) refl) | inr d ↦ inr (λ q. d (cc q)) ]
      | inr d ↦ inr (λ q. d (cc q))
    ]

same_listed : (a b : Listed) → (a ≡ b) ⊎ (a ≡ b → ⊥)
same_listed a b =
    elim (same_bytes a.name b.name) [
      | inl n ↦ elim (same_bytes a.object b.object) [
        | inl o ↦ elim (same_number a.cookie b.cookie) [ inl c ↦ inl (all a b n o c) | inr d ↦ inr (λ q. d (ap (λ (z : Listed). z.cookie) q)) ]
        | inr d ↦ inr (λ q. d (ap (λ (z : Listed). z.object) q))
      ]
      | inr d ↦ inr (λ q. d (ap (λ (z : Listed). z.name) q))
    ]
  where
    all : (a b : Listed) → a.name ≡ b.name → a.object ≡ b.object → a.cookie ≡ b.cookie → a ≡ b
    all a b n o c = ap (λ (z : List ℕ). record { name = z; object = a.object; cookie = a.cookie }) n ∙ ap (λ (z : List ℕ). record { name = b.name; object = z; cookie = a.cookie }) o ∙ ap (λ (z : ℕ). record { name = b.name; object = b.object; cookie = z }) c

pub same_entries : (a b : List Listed) → (a ≡ b) ⊎ (a ≡ b → ⊥)
same_entries [] [] = inl refl
same_entries [] (y ∷ b) = inr (λ e. absurd (cc e))
same_entries (x ∷ a) [] = inr (λ e. absurd (cc e))
same_entries (x ∷ a) (y ∷ b) =
    elim (same_listed x y) [
      | inl e ↦ elim (same_entries a b) [ inl r ↦ inl (rw (e, r) refl) | inr d ↦ inr (λ q. d (cc q)) ]
      | inr d ↦ inr (λ q. d (cc q))
    ]

-- an entry of this name that is of this object
abbrev pub HasEntry : List Listed → List ℕ → List ℕ → Type 0
HasEntry entries name h = (e : Listed) × Lists entries e × (e.name ≡ name) × (e.object ≡ h)

pub entry_or_not : (entries : List Listed) (name h : List ℕ) → HasEntry entries name h ⊎ (HasEntry entries name h → ⊥)
entry_or_not [] name h = inr (λ e. absurd (cc e.1.1))
entry_or_not (x ∷ entries) name h =
    elim (entry_or_not entries name h) [
      | inl e ↦ inl (e.0, (suc e.1.0, e.1.1), e.2, e.3)
      | inr later ↦ elim (same_bytes x.name name) [
        | inl n ↦ elim (same_bytes x.object h) [ inl o ↦ inl (x, (0, refl), n, o) | inr d ↦ inr (λ e. first x entries name h e (λ q r. d r) later) ]
        | inr d ↦ inr (λ e. first x entries name h e (λ q r. d q) later)
      ]
    ]
  where
    here : (x : Listed) (entries : List Listed) (name h : List ℕ) (e : Listed) (at : ℕ) → slice_get (x ∷ entries) at ≡ Some e → e.name ≡ name → e.object ≡ h → (x.name ≡ name → x.object ≡ h → ⊥) → (HasEntry entries name h → ⊥) → ⊥
    here x entries name h e zero at n o not later = let s : x ≡ e = cc in not (ap (λ (z : Listed). z.name) s ∙ n) (ap (λ (z : Listed). z.object) s ∙ o)
    here x entries name h e (suc at) is n o not later = later (e, (at, is), n, o)

    first : (x : Listed) (entries : List Listed) (name h : List ℕ) → HasEntry (x ∷ entries) name h → (x.name ≡ name → x.object ≡ h → ⊥) → (HasEntry entries name h → ⊥) → ⊥
    first x entries name h e not later = here x entries name h e.0 e.1.0 e.1.1 e.2 e.3 not later
