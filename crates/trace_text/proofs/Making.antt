-- Which bytes are a file handle, and which a name.
use Rattle.std.proofs.Common.{◌≡◌, ◌≤◌, ◌<◌, ℕ, List, length, Bool, true, false, Option, Some, None, refl, sym, ap, arith}
use Rattle.std.specs.Prelude.{MatchOption, nat_le, not, ◌&&◌, if◌then◌else◌}
use Rattle.std.proofs.lemmas.Bool.{leb-true, leb-false}
use Rattle.nfs_types.specs.Names.{IsHandle, IsName, is_no_name}
use Rattle.nfs_types.proofs.Names.{name_of_test, test_of_name}
use Rattle.trace_text.specs.Words.{as_handle, as_name}

pub handle-made : (o : Option (List ℕ)) (bytes : List ℕ) → MatchOption o (¬ IsHandle bytes) (λ h. (h ≡ bytes) × IsHandle bytes) → as_handle bytes ≡ o
handle-made o bytes made = by (nat_le (length bytes) 64) refl o made
  where
    by : (b : Bool) → nat_le (length bytes) 64 ≡ b → (r : Option (List ℕ)) → MatchOption r (¬ IsHandle bytes) (λ h. (h ≡ bytes) × IsHandle bytes)
        → (if b then Some bytes else None) ≡ r
    by true e None none = absurd (none (leb-true (length bytes) 64 e))
    by true e (Some h) some = ap Some (sym some.0)
    by false e None none = refl
    by false e (Some h) some = let lt : 64 < length bytes = leb-false (length bytes) 64 e in let le : length bytes ≤ 64 = some.1 in absurd (omega (arith, lt, le))

pub name-made : (o : Option (List ℕ)) (bytes : List ℕ) → MatchOption o (¬ IsName bytes) (λ n. (n ≡ bytes) × IsName bytes) → as_name bytes ≡ o
name-made o bytes made = by (nat_le (length bytes) 255) refl (is_no_name bytes) refl o made
  where
    by : (short : Bool) → nat_le (length bytes) 255 ≡ short → (other : Bool) → is_no_name bytes ≡ other → (r : Option (List ℕ))
        → MatchOption r (¬ IsName bytes) (λ n. (n ≡ bytes) × IsName bytes) → (if short && not other then Some bytes else None) ≡ r
    by true e false n None none = absurd (none (name_of_test bytes (leb-true (length bytes) 255 e) n))
    by true e false n (Some h) some = ap Some (sym some.0)
    by true e true n None none = refl
    by true e true n (Some h) some = absurd (clash (test_of_name bytes some.1) n)
      where
        clash : is_no_name bytes ≡ false → is_no_name bytes ≡ true → ⊥
        clash f t = absurd (cc (f, t))
    by false e other n None none = refl
    by false e other n (Some h) some = let lt : 255 < length bytes = leb-false (length bytes) 255 e in let le : length bytes ≤ 255 = some.1.bound in absurd (omega (arith, lt, le))
