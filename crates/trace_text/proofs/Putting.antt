-- Objects that an update names, with one more: what is found in them.
use Rattle.std.proofs.Common.{◌≡◌, ℕ, List, [], ◌∷◌, Bool, true, false, Some, refl, sym, ap, ◌∙◌, true≢false}
use Rattle.std.specs.Prelude.{if◌then◌else◌}
use Rattle.std.specs.Str.{bytes_eq}
use Rattle.std.proofs.lemmas.Slice.Eq.{bytes_eq-Decides}
use Rattle.trace_data.specs.declared.trace.Object.{Object}
use Rattle.trace_data.specs.declared.trace.Updated.{Updated}
use Rattle.trace_data.specs.Histories.{named}
use Rattle.trace_text.specs.Lists.{replaced}
use Rattle.trace_text.specs.Puts.{is_under, put_at}

-- two tests of the same bytes
both : (a b h : List ℕ) → bytes_eq a h ≡ true → bytes_eq b h ≡ true → bytes_eq a b ≡ true
both a b h p q = (bytes_eq-Decides a b).1 ((bytes_eq-Decides a h).0 p ∙ sym ((bytes_eq-Decides b h).0 q))

equal : (a b : List ℕ) → bytes_eq a b ≡ true → a ≡ b
equal a b e = (bytes_eq-Decides a b).0 e

-- what is found under a handle
pub named-put : (handle : List ℕ) (object : Object) (us : List Updated) (h : List ℕ)
    → named (put_at handle object us) h ≡ (if bytes_eq handle h then Some object else named us h)
named-put handle object [] h = refl
named-put handle object (u ∷ us) h = by (bytes_eq u.handle handle) refl (bytes_eq handle h) refl (bytes_eq u.handle h) refl (named-put handle object us h)
  where
    by : (under : Bool) → bytes_eq u.handle handle ≡ under → (wanted : Bool) → bytes_eq handle h ≡ wanted → (was : Bool) → bytes_eq u.handle h ≡ was
        → named (replaced (is_under handle) (record { handle = handle; object = object }) us) h ≡ (if bytes_eq handle h then Some object else named us h)
        → named (if under then record { handle = handle; object = object } ∷ us else u ∷ replaced (is_under handle) (record { handle = handle; object = object }) us) h
        ≡ (if wanted then Some object else (if was then Some u.object else named us h))
    by true e true w was i rest = rw w refl
    by true e false w true i rest = absurd (true≢false (sym i ∙ (ap (λ (x : List ℕ). bytes_eq x h) (equal u.handle handle e) ∙ w)))
    by true e false w false i rest = rw w refl
    by false e true w true i rest = absurd (true≢false (sym (both u.handle handle h i w) ∙ e))
    by false e true w false i rest = rw i (rw w at rest)
    by false e false w true i rest = rw i refl
    by false e false w false i rest = rw i (rw w at rest)
