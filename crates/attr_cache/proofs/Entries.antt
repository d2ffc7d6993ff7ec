-- What holds of each entry goes on holding, and what is looked up is an entry's. For the proofs of callers.
use Rattle.std.proofs.Common.{◌≡◌, ◌<◌, ◌≤◌, ℕ, zero, suc, take, ◌+◌, ◌*◌, Bool, true, false, cond, min, nat_eq, nat_lt, if◌then◌else◌, List, [], ◌∷◌, All, Option, Some, None, option_and_then, refl, sym, subst, arith}
use Rattle.std.proofs.lemmas.List.Elements.{All-nil, All-head, All-tail, All-cons}
use Rattle.std.proofs.lemmas.Bool.Decides.{nat_tests}
use Rattle.std.specs.Cmp.Lexicographic.{pointwise, bytes_decides}
use Rattle.std.specs.Map.{lookup, remove_entry}
use Rattle.nfs_types.specs.declared.attr.Attr.{Attr}
use Rattle.attr_cache.specs.declared.lives.Lives.{Lives}
use Rattle.attr_cache.specs.declared.kept.KeptAttr.{KeptAttr}
use Rattle.attr_cache.specs.Attrs.{Attrs, kept_of, is_fresh, looked, shortest, longest, next_lifetime, has_stamp, fronted, noted, learnt_over, learnt, forgotten}

-- no lifetime is longer
pub record LastsAtMost (lives : Lives) (most : ℕ) : Type 0 where
  pub reg_min : lives.reg_min ≤ most
  pub reg_max : lives.reg_max ≤ most
  pub dir_min : lives.dir_min ≤ most
  pub dir_max : lives.dir_max ≤ most

module _ (lives : Lives) (most : ℕ) (bound : LastsAtMost lives most) (attr : Attr) where
  pub shortest-le : shortest lives attr ≤ most
  shortest-le = (elim (nat_eq attr.kind 2) as (λ y. (if y then lives.dir_min else lives.reg_min) ≤ most) [ true ↦ bound.dir_min | false ↦ bound.reg_min ])

  pub longest-le : longest lives attr ≤ most
  longest-le = (elim (nat_eq attr.kind 2) as (λ y. (if y then lives.dir_max else lives.reg_max) ≤ most) [ true ↦ bound.dir_max | false ↦ bound.reg_max ])

  pub next_lifetime-le : (kept : KeptAttr) (sent_at : ℕ) → kept.lifetime ≤ most → next_lifetime lives kept attr sent_at ≤ most
  next_lifetime-le kept sent_at h = by (has_stamp attr kept) (is_fresh sent_at kept)
    where
      by : (same fresh : Bool) → (if same then (if fresh then kept.lifetime else min (kept.lifetime * 2) (longest lives attr)) else shortest lives attr) ≤ most
      by false fresh = shortest-le
      by true true = h
      by true false = omega (arith, longest-le)

module _ (P : List ℕ × KeptAttr → Type 0) where
  -- what is found of a file is in an entry of the file
  pub All-lookup : (file : List ℕ) (entries : List (List ℕ × KeptAttr)) (kept : KeptAttr) → All P entries → lookup (pointwise nat_eq file) entries ≡ Some kept → P (file, kept)
  All-lookup file [] kept all found = cc
  All-lookup file (e ∷ entries) kept all found = (elim (pointwise nat_eq file e.0) as (λ y. pointwise nat_eq file e.0 ≡ y → P (file, kept)) [
    | true ↦ λ t. let is : e.1 ≡ kept = (let h = rw t at found in cc) in
        subst (λ f. P (f, kept)) (sym ((bytes_decides file e.0).0 t)) (subst (λ k. P (e.0, k)) is (All-head P e entries all))
    | false ↦ λ t. All-lookup file entries kept (All-tail P e entries all) (rw t at found)
  ]) refl

  pub All-remove_entry : (file : List ℕ) (entries : List (List ℕ × KeptAttr)) → All P entries → All P (remove_entry (pointwise nat_eq file) entries)
  All-remove_entry file [] all = All-nil P
  All-remove_entry file (e ∷ entries) all = (elim (pointwise nat_eq file e.0) as (λ y. All P (cond y entries (e ∷ remove_entry (pointwise nat_eq file) entries))) [
    | true ↦ All-tail P e entries all
    | false ↦ All-cons P e _ (All-head P e entries all) (All-remove_entry file entries (All-tail P e entries all))
  ])

  All-take : (n : ℕ) (entries : List (List ℕ × KeptAttr)) → All P entries → All P (take n entries)
  All-take zero entries all = All-nil P
  All-take (suc n) [] all = All-nil P
  All-take (suc n) (e ∷ entries) all = All-cons P e (take n entries) (All-head P e entries all) (All-take n entries (All-tail P e entries all))

  -- after a file went to the front
  pub All-fronted : (file : List ℕ) (kept : KeptAttr) (entries : List (List ℕ × KeptAttr)) → All P entries → P (file, kept) → All P (fronted file kept entries)
  All-fronted file kept entries all p =
      let rest = remove_entry (pointwise nat_eq file) entries in
      All-take 1024 ((file, kept) ∷ rest) (All-cons P (file, kept) rest p (All-remove_entry file entries all))

  -- after a file is forgotten
  pub All-forgotten : (file : List ℕ) (c : Attrs) → All P c.entries → All P (forgotten file c).entries
  All-forgotten file c all = All-remove_entry file c.entries all

  -- what is answered is in an entry of the file that hasn't ended
  pub looked-kept : (file : List ℕ) (now : ℕ) (c : Attrs) (attr : Attr) → All P c.entries → looked file now c ≡ Some attr
      → (kept : KeptAttr) × P (file, kept) × (kept.attr ≡ attr) × (now < kept.sent_at + kept.lifetime)
  looked-kept file now c attr all = by (kept_of file c) refl
    where
      fresh : (kept : KeptAttr) (b : Bool) → is_fresh now kept ≡ b → P (file, kept) → (if b then Some kept.attr else None) ≡ Some attr
          → (kept : KeptAttr) × P (file, kept) × (kept.attr ≡ attr) × (now < kept.sent_at + kept.lifetime)
      fresh kept true t p is = (kept, p, (cc), grind (arith, nat_tests))
      fresh kept false t p is = cc

      by : (o : Option KeptAttr) → kept_of file c ≡ o → option_and_then (λ kept. if is_fresh now kept then Some kept.attr else None) o ≡ Some attr
          → (kept : KeptAttr) × P (file, kept) × (kept.attr ≡ attr) × (now < kept.sent_at + kept.lifetime)
      by None found is = cc
      by (Some kept) found is = fresh kept (is_fresh now kept) refl (All-lookup file c.entries kept all found) is

-- after attributes are learnt: an entry that holds what they hold at each lifetime up to the longest, and no lifetime is longer
abbrev pub Believed : (List ℕ × KeptAttr → Type 0) → ℕ → List ℕ × KeptAttr → Type 0
Believed P most e = P e × (e.1.lifetime ≤ most)

module _ (P : List ℕ × KeptAttr → Type 0) (most : ℕ) (file : List ℕ) (attr : Attr) (sent_at : ℕ) (c : Attrs) (bound : LastsAtMost c.lives most) where
  pub All-learnt : All (Believed P most) c.entries → ((lifetime : ℕ) → P (file, record { attr = attr; sent_at = sent_at; lifetime = lifetime })) → All (Believed P most) (learnt file attr sent_at c).entries
  All-learnt all told = by (kept_of file c) refl
    where
      taken : (lifetime : ℕ) → lifetime ≤ most → All (Believed P most) (noted file attr sent_at lifetime c).entries
      taken lifetime fits = All-fronted (Believed P most) file _ c.entries all (told lifetime, fits)

      by : (o : Option KeptAttr) → kept_of file c ≡ o → All (Believed P most) (learnt_over o file attr sent_at c).entries
      by None found = taken _ (shortest-le c.lives most bound attr)
      by (Some kept) found = (elim (nat_lt sent_at kept.sent_at) as (λ y. All (Believed P most) (if y then c else noted file attr sent_at (next_lifetime c.lives kept attr sent_at) c).entries) [
        | true ↦ all
        | false ↦ taken _ (next_lifetime-le c.lives most bound attr kept sent_at (All-lookup (Believed P most) file c.entries kept all found).1)
      ])
