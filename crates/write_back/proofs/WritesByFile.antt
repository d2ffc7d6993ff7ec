-- Of each write as many bytes are kept as are pending, after a change of one file.
use Rattle.std.proofs.Common.{◌≡◌, ◌≢◌, ◌<◌, ◌≤◌, ℕ, zero, suc, ◌-◌, List, [], refl, sym, ap, ◌∙◌, ◌⊎◌, inl, inr, subst, arith, nat_cmp}
use Rattle.std.specs.Cmp.Lexicographic.{slice_cmp, nat_list_cmp_total}
use Rattle.std.proofs.lemmas.Bool.{cases_lt, cases_eq}
use Rattle.std.specs.Ordering.{ordering_reverse}
use Rattle.std.specs.declared.cmp.Ordering.{Ordering}
use Rattle.std.specs.declared.cmp.Ordering.TheVariants.{Less, Equal, Greater}
use Rattle.std.specs.FinMap as finite
use Rattle.write_back.specs.Pieces.{FilePending, nothing}
use Rattle.write_back.specs.Files.{Pending, of_file, OnFile, IsNewest}
use Rattle.write_back.specs.Ages.{Writes, kept_by, pending_by, raised_by, Lessens, SameKept, Loses, Gains, Takes, IsAged}
use Rattle.write_back.proofs.WritesKept.{one-file, raised-zero}
use Rattle.write_back.proofs.WritesTold.{fresh-newest}

same-cmp : (file : List ℕ) → slice_cmp nat_cmp file file ≡ Equal
same-cmp file = by (slice_cmp nat_cmp file file) refl (nat_list_cmp_total.antisymm file file)
  where
    by : (r : Ordering) → slice_cmp nat_cmp file file ≡ r → slice_cmp nat_cmp file file ≡ ordering_reverse (slice_cmp nat_cmp file file) → slice_cmp nat_cmp file file ≡ Equal
    by Less h anti = let wrong : Less ≡ Greater = (rw h at anti) in absurd cc
    by Equal h anti = h
    by Greater h anti = let wrong : Greater ≡ Less = (rw h at anti) in absurd cc

-- a file, or another one
pub same-or : (file other : List ℕ) → (other ≡ file) ⊎ (other ≢ file)
same-or file other = by (slice_cmp nat_cmp other file) refl
  where
    equal : (r : Ordering) → slice_cmp nat_cmp other file ≡ r → other ≡ file → r ≡ Equal
    equal r is same = sym is ∙ ap (λ z. slice_cmp nat_cmp z file) same ∙ same-cmp file

    by : (r : Ordering) → slice_cmp nat_cmp other file ≡ r → (other ≡ file) ⊎ (other ≢ file)
    by Less h = inr (λ same. let wrong : Less ≡ Equal = equal Less h same in absurd cc)
    by Equal h = inl (finite.slice_cmp-IsAntisymmetric finite.nat_cmp-IsAntisymmetric other file h)
    by Greater h = inr (λ same. let wrong : Greater ≡ Equal = equal Greater h same in absurd cc)

module _ (p q : Pending) (w v : Writes) (file : List ℕ) (to : FilePending) (aged : IsAged p w) (on : OnFile p q file to) where
  -- of the file
  here : (n : ℕ) → kept_by v file n ≡ pending_by n to → (other : List ℕ) → other ≡ file → kept_by v other n ≡ pending_by n (of_file other q)
  here n is other same = subst (λ f. kept_by v f n ≡ pending_by n (of_file f q)) (sym same) (is ∙ sym (ap (pending_by n) on.here))

  -- of another one
  there : (n : ℕ) (other : List ℕ) → other ≢ file → kept_by v other n ≡ kept_by w other n → kept_by v other n ≡ pending_by n (of_file other q)
  there n other apart is = is ∙ aged other n ∙ sym (ap (pending_by n) (on.others other apart))

  -- a write that is pending of the file has no byte of another
  alone : (n : ℕ) (other : List ℕ) → other ≢ file → 0 < pending_by n (of_file file p) → kept_by w other n ≡ 0
  alone n other apart some = by (cases_lt 0 (kept_by w other n))
    where
      by : (0 < kept_by w other n) ⊎ (kept_by w other n ≤ 0) → kept_by w other n ≡ 0
      by (inl more) = absurd (apart (one-file w other file n more (omega (arith, some, aged file n))))
      by (inr none) = omega (arith, none)

  fewer-there : (n : ℕ) (other : List ℕ) → other ≢ file → pending_by n to ≤ pending_by n (of_file file p) → kept_by v other n ≡ kept_by w other n - (pending_by n (of_file file p) - pending_by n to) → kept_by v other n ≡ kept_by w other n
  fewer-there n other apart fewer less = by (cases_lt 0 (pending_by n (of_file file p)))
    where
      by : (0 < pending_by n (of_file file p)) ⊎ (pending_by n (of_file file p) ≤ 0) → kept_by v other n ≡ kept_by w other n
      by (inl some) = omega (arith, less, alone n other apart some)
      by (inr none) = omega (arith, less, none)

  pub aged-loses : Loses (of_file file p) to w v → IsAged q v
  aged-loses loses other n = by (same-or file other)
    where
      by : (other ≡ file) ⊎ (other ≢ file) → kept_by v other n ≡ pending_by n (of_file other q)
      by (inl same) = here n (omega (arith, loses.less file n, loses.fewer n, aged file n)) other same
      by (inr apart) = there n other apart (fewer-there n other apart (loses.fewer n) (loses.less other n))

  raised-here : (old new kept : ℕ) → kept ≡ old → old ≤ new → (old ≡ 0 → new ≡ 0) → raised_by (new - old) kept ≡ new
  raised-here old new zero is more known = omega (arith, known (omega (arith, is)))
  raised-here old new (suc kept) is more known = omega (arith, is, more)

  raised-there : (n : ℕ) (other : List ℕ) → other ≢ file → (pending_by n (of_file file p) ≡ 0 → pending_by n to ≡ 0) → raised_by (pending_by n to - pending_by n (of_file file p)) (kept_by w other n) ≡ kept_by w other n
  raised-there n other apart known = by (cases_lt 0 (pending_by n (of_file file p)))
    where
      by : (0 < pending_by n (of_file file p)) ⊎ (pending_by n (of_file file p) ≤ 0) → raised_by (pending_by n to - pending_by n (of_file file p)) (kept_by w other n) ≡ kept_by w other n
      by (inl some) = let none : kept_by w other n ≡ 0 = alone n other apart some in ap (raised_by (pending_by n to - pending_by n (of_file file p))) none ∙ sym none
      by (inr none) = raised-zero (pending_by n to - pending_by n (of_file file p)) (kept_by w other n) (omega (arith, known (omega (arith, none))))

  pub aged-gains : Gains (of_file file p) to w v → IsAged q v
  aged-gains gains other n = by (same-or file other)
    where
      by : (other ≡ file) ⊎ (other ≢ file) → kept_by v other n ≡ pending_by n (of_file other q)
      by (inl same) = here n (gains.raises file n ∙ raised-here (pending_by n (of_file file p)) (pending_by n to) (kept_by w file n) (aged file n) (gains.more n) (gains.known n)) other same
      by (inr apart) = there n other apart (gains.raises other n ∙ raised-there n other apart (gains.known n))

  pub aged-takes : (number : ℕ) → IsNewest number p → Takes number file (of_file file p) to w v → IsAged q v
  aged-takes number newest takes other n = by (cases_eq n number) (same-or file other)
    where
      by : (n ≡ number) ⊎ (n ≡ number → ⊥) → (other ≡ file) ⊎ (other ≢ file) → kept_by v other n ≡ pending_by n (of_file other q)
      by (inl is) (inl same) = subst (λ m. kept_by v other m ≡ pending_by m (of_file other q)) (sym is) (here number takes.here other same)
      by (inl is) (inr apart) = subst (λ m. kept_by v other m ≡ pending_by m (of_file other q)) (sym is)
          (takes.elsewhere other apart ∙ sym (ap (pending_by number) (on.others other apart) ∙ fresh-newest number other p newest))
      by (inr not) (inl same) = here n (omega (arith, takes.less file n not, takes.fewer n not, aged file n)) other same
      by (inr not) (inr apart) = there n other apart (fewer-there n other apart (takes.fewer n not) (takes.less other n not))

-- as many are kept
pub aged-same : (p : Pending) (w v : Writes) → IsAged p w → SameKept w v → IsAged p v
aged-same p w v aged same file n = same file n ∙ aged file n

-- what is pending of each file stays
pub aged-kept : (p q : Pending) (w : Writes) (file : List ℕ) → IsAged p w → OnFile p q file (of_file file p) → IsAged q w
aged-kept p q w file aged on = aged-loses p q w w file (of_file file p) aged on (record { fewer = λ n. omega arith; less = λ other n. omega arith })

-- nothing of a file is pending any more
pub aged-left : (p q : Pending) (w v : Writes) (file : List ℕ) → IsAged p w → OnFile p q file nothing → Lessens (λ n. pending_by n (of_file file p)) w v → IsAged q v
aged-left p q w v file aged on less = aged-loses p q w v file nothing aged on (record { fewer = λ n. omega arith; less = λ other n. omega (arith, less other n) })

pub aged-none : IsAged [] []
aged-none file n = refl
