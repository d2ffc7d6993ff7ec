-- A change of what is pending of one file.
use Rattle.std.proofs.Common.{◌≡◌, ◌≢◌, ℕ, false, List, Option, refl, sym, ap, ◌∙◌, nat_cmp}
use Rattle.std.specs.Prelude.{unwrap_or}
use Rattle.std.specs.declared.cmp.Ordering.{Ordering}
use Rattle.std.specs.declared.cmp.Ordering.TheVariants.{Less, Equal, Greater}
use Rattle.std.specs.Cmp.Lexicographic.{slice_cmp}
use Rattle.std.specs.FinMap as finite
use Rattle.std.specs.BTreeMap.{BTreeMap, is_at, UpdatesBy}
use Rattle.write_back.specs.Pieces.{FilePending, nothing}
use Rattle.write_back.specs.Files.{Pending, of_file, OnFile}

-- another file isn't found by a file's handle
pub other-false : (file other : List ℕ) → other ≢ file → is_at (slice_cmp nat_cmp file) other ≡ false
other-false file other apart = by (slice_cmp nat_cmp file other) refl
  where
    by : (r : Ordering) → slice_cmp nat_cmp file other ≡ r → is_at (slice_cmp nat_cmp file) other ≡ false
    by Less h = rw h refl
    by Equal h = absurd (apart (sym (finite.slice_cmp-IsAntisymmetric finite.nat_cmp-IsAntisymmetric file other h)))
    by Greater h = rw h refl

pub on-file : (m n : BTreeMap (List ℕ) FilePending) (file : List ℕ) (w : Option FilePending) → UpdatesBy (slice_cmp nat_cmp) (slice_cmp nat_cmp file) m n w → OnFile m.entries n.entries file (unwrap_or w nothing)
on-file m n file w changes = record {
  here = ap (λ o. unwrap_or o nothing) changes.1;
  others = λ other apart. ap (λ o. unwrap_or o nothing) (changes.2 other (other-false file other apart));
}

-- nothing is changed
pub on-same : (p : Pending) (file : List ℕ) (of : FilePending) → of_file file p ≡ of → OnFile p p file of
on-same p file of is = record { here = is; others = λ other apart. refl }

-- a change, and then one that keeps what is pending of each file
pub on-tidied : (p q r : Pending) (file : List ℕ) (x : FilePending) → OnFile p q file x → OnFile q r file (of_file file q) → OnFile p r file x
on-tidied p q r file x first next = record { here = next.here ∙ first.here; others = λ other apart. next.others other apart ∙ first.others other apart }

pub on-is : (p q : Pending) (file : List ℕ) (x y : FilePending) → OnFile p q file x → x ≡ y → OnFile p q file y
on-is p q file x y on is = record { here = on.here ∙ is; others = on.others }
