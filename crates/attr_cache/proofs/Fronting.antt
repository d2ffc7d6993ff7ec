-- What a table of at most 1,024 files holds after one is put.
use Rattle.std.proofs.Common.{◌≡◌, ◌+◌, ◌≤◌, ◌-◌, ℕ, Bool, true, false, nat_eq, List, [], ◌∷◌, length, take, Option, Some, None, refl, sym, ap, arith}
use Rattle.std.proofs.lemmas.List.{take_all, length-take}
use Rattle.std.specs.Cmp.Lexicographic.{pointwise, bytes_decides}
use Rattle.std.specs.Option.{option_map_or}
use Rattle.std.specs.Map.{lookup_entry, remove_entry}
use Rattle.lru.specs.LruCache.{LruCache, put_entries}
use Rattle.lru.proofs.CallerLemmas.{Contains-lookup_entry}
use Rattle.attr_cache.specs.declared.kept.KeptAttr.{KeptAttr}
use Rattle.attr_cache.specs.Attrs.{fronted}

module _ (test : List ℕ → Bool) where
  length-remove_entry : (es : List (List ℕ × KeptAttr)) (e : List ℕ × KeptAttr) → lookup_entry test es ≡ Some e → length (remove_entry test es) + 1 ≡ length es
  length-remove_entry [] e found = cc
  length-remove_entry (f ∷ es) e found = (elim (test f.0) as (λ y. test f.0 ≡ y → length (remove_entry test (f ∷ es)) + 1 ≡ length (f ∷ es)) [
    | true ↦ λ t. rw t (omega arith)
    | false ↦ λ t. let below = length-remove_entry es e (rw t at found) in rw t (omega arith)
  ]) refl

  remove_entry-absent : (es : List (List ℕ × KeptAttr)) → lookup_entry test es ≡ None → remove_entry test es ≡ es
  remove_entry-absent [] none = refl
  remove_entry-absent (f ∷ es) none = (elim (test f.0) as (λ y. test f.0 ≡ y → remove_entry test (f ∷ es) ≡ f ∷ es) [
    | true ↦ λ t. absurd (let h = rw t at none in cc)
    | false ↦ λ t. rw t (ap (λ l. f ∷ l) (remove_entry-absent es (rw t at none)))
  ]) refl

  pub length-removed : (es : List (List ℕ × KeptAttr)) → length (remove_entry test es) ≤ length es
  length-removed [] = omega arith
  length-removed (f ∷ es) = (elim (test f.0) as (λ y. test f.0 ≡ y → length (remove_entry test (f ∷ es)) ≤ length (f ∷ es)) [
    | true ↦ λ t. rw t (omega arith)
    | false ↦ λ t. let below = length-removed es in rw t (omega (arith, below))
  ]) refl

module _ (table : LruCache (List ℕ) KeptAttr) (file : List ℕ) (kept : KeptAttr) (room : table.cap ≡ 1024) (most : length table.entries ≤ 1024) where
  by_file : (o : Option (List ℕ × KeptAttr)) → lookup_entry (pointwise nat_eq file) table.entries ≡ o
      → option_map_or (λ e. (e.0, kept) ∷ remove_entry (pointwise nat_eq file) table.entries) o ((file, kept) ∷ take (table.cap - 1) table.entries) ≡ fronted file kept table.entries
  by_file None none = rw room (ap (λ l. (file, kept) ∷ take 1023 l) (sym (remove_entry-absent (pointwise nat_eq file) table.entries none)))
  by_file (Some e) found =
      let rest : length (remove_entry (pointwise nat_eq file) table.entries) ≤ 1023 = omega (arith, length-remove_entry (pointwise nat_eq file) table.entries e found, most) in
      let same : e.0 ≡ file = sym ((bytes_decides file e.0).0 (Contains-lookup_entry (pointwise nat_eq file) table.entries e found).1) in
      rw (take_all 1023 (remove_entry (pointwise nat_eq file) table.entries) rest) (ap (λ f. (f, kept) ∷ remove_entry (pointwise nat_eq file) table.entries) same)

  pub put-is-fronted : put_entries (pointwise nat_eq) table file kept ≡ fronted file kept table.entries
  put-is-fronted = by_file (lookup_entry (pointwise nat_eq file) table.entries) refl

  pub length-put : length (put_entries (pointwise nat_eq) table file kept) ≤ 1024
  length-put = rw put-is-fronted (omega (arith, length-take 1024 ((file, kept) ∷ remove_entry (pointwise nat_eq file) table.entries)))
