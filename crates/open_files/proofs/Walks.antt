-- A walk over the slab of opens that looks for one of a kind.
use Rattle.std.proofs.Common.{◌≡◌, ℕ, List, [], ◌∷◌, Some, Contains, ap, inl, inr, sym, subst, refl, arith}
use Rattle.slab.specs.Slab.{Slab, get, entries}
use Rattle.slab.proofs.SlabLemmas.{Contains-cons, Contains-cons_cases, Contains-entries}
use Rattle.open_files.specs.declared.open_files.Held.{Held}

-- What is left of the walk has each open of that kind, and only opens of the slab.
pub record IsLeft (P : Held → Type 0) (slab : Slab Held) (left : List (ℕ × Held)) : Type 0 where
  pub all : (key : ℕ) (held : Held) → get slab key ≡ Some held → P held → Contains left (key, held)
  pub some : (key : ℕ) (held : Held) → Contains left (key, held) → get slab key ≡ Some held

pub at_first : (P : Held → Type 0) (slab : Slab Held) (left : List (ℕ × Held)) → left ≡ entries slab → IsLeft P slab left
at_first P slab left is = record {
  all = λ key held there _. subst (λ es. Contains es (key, held)) (sym is) ((Contains-entries slab key held).1 there);
  some = λ key held has. (Contains-entries slab key held).0 (subst (λ es. Contains es (key, held)) is has);
}

pub the_next : (P : Held → Type 0) (slab : Slab Held) (key : ℕ) (held : Held) (left : List (ℕ × Held)) → IsLeft P slab ((key, held) ∷ left) → get slab key ≡ Some held
the_next P slab key held left l = l.some key held (0, omega arith, refl)

pub past : (P : Held → Type 0) (slab : Slab Held) (key : ℕ) (held : Held) (left : List (ℕ × Held)) → IsLeft P slab ((key, held) ∷ left) → ¬ P held → IsLeft P slab left
past P slab key held left l other = record {
  all = λ k h there is. elim (Contains-cons_cases _ _ _ (l.all k h there is)) [
    | inl same ↦ absurd (other (subst P (sym (ap (λ e. e.1) same)) is))
    | inr later ↦ later
  ];
  some = λ k h has. l.some k h (Contains-cons _ _ _ has);
}

pub at_last : (P : Held → Type 0) (slab : Slab Held) (key : ℕ) (held : Held) → IsLeft P slab [] → get slab key ≡ Some held → ¬ P held
at_last P slab key held l there is = absurd (omega (arith, (l.all key held there is).1))
