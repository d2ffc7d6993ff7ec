-- What is kept of the writes, after new bytes of a file, and after those that found no memory.
use Rattle.std.proofs.Common.{◌≡◌, ℕ, ◌+◌, ◌-◌, List, length, map, refl, sym, ap, ◌∙◌, ◌⊎◌, inl, inr, subst, arith}
use Rattle.std.specs.Prelude.{◌≢◌}
use Rattle.std.proofs.lemmas.Bool.{cases_eq, eq-eqb}
use Rattle.write_back.specs.declared.sent.Part.{Part}
use Rattle.write_back.specs.Choice.{part_of}
use Rattle.write_back.specs.Segments.{Segments, AreApart, before, after, added}
use Rattle.write_back.specs.Pieces.{FilePending, nothing, pending_of}
use Rattle.write_back.specs.Ages.{Writes, kept_by, only, parts_by, written_by, pending_by, Enters, IsUnknown, Lessens, SameKept, Takes}
use Rattle.write_back.proofs.Adding.{with_added}
use Rattle.write_back.proofs.Aging.{only-here, only-none}
use Rattle.write_back.proofs.WritesByFile.{same-or}
use Rattle.write_back.proofs.WritesLaid.{written-added}

-- a write that was entered goes again
undone : (number size : ℕ) (file : List ℕ) (old mid new : Writes) → IsUnknown number old → kept_by mid file number ≡ size → ((other : List ℕ) → other ≢ file → kept_by mid other number ≡ 0)
    → ((other : List ℕ) (n : ℕ) → n ≢ number → kept_by mid other n ≡ kept_by old other n) → Lessens (only number size) mid new → SameKept old new
undone number size file old mid new unknown here elsewhere others less other n = by (cases_eq n number) (same-or file other)
  where
    by : (n ≡ number) ⊎ (n ≡ number → ⊥) → (other ≡ file) ⊎ (other ≢ file) → kept_by new other n ≡ kept_by old other n
    by (inl is) (inl same) =
        subst (λ m. kept_by new other m ≡ kept_by old other m) (sym is)
        (omega (arith, less other number, only-here number size number refl, ap (λ f. kept_by mid f number) same, here, unknown other))
    by (inl is) (inr apart) = subst (λ m. kept_by new other m ≡ kept_by old other m) (sym is) (omega (arith, less other number, elsewhere other apart, unknown other))
    by (inr not) z = omega (arith, less other n, only-none number size n (λ is. not (sym is)), others other n not)

pub enter-undone : (number size : ℕ) (file : List ℕ) (old mid new : Writes) → IsUnknown number old → Enters number file size old mid → Lessens (only number size) mid new → SameKept old new
enter-undone number size file old mid new unknown enters less = undone number size file old mid new unknown enters.here enters.elsewhere enters.others less

-- the first bytes of a file go again
first-size : (offset : ℕ) (bytes : List ℕ) (number : ℕ) → pending_by number (with_added offset bytes number nothing) ≡ pending_of (with_added offset bytes number nothing)
first-size offset bytes number = rw (eq-eqb number number refl) (omega arith)

pub first-undone : (offset : ℕ) (bytes : List ℕ) (number size : ℕ) (file : List ℕ) (w : FilePending) (old mid new : Writes) → w ≡ with_added offset bytes number nothing → size ≡ pending_of w → IsUnknown number old → Takes number file nothing w old mid
    → Lessens (only number size) mid new → SameKept old new
first-undone offset bytes number size file w old mid new is size-is unknown takes less =
    let same : pending_by number w ≡ size = ap (pending_by number) is ∙ first-size offset bytes number ∙ sym (size-is ∙ ap pending_of is) in
    undone number size file old mid new unknown (takes.here ∙ same) takes.elsewhere (λ other n not. omega (arith, takes.less other n not)) less

-- new bytes lie over those of older writes
pub takes-added : (offset : ℕ) (bytes : List ℕ) (number : ℕ) (file : List ℕ) (of : FilePending) (es : Segments) (parts : List Part) (old mid new : Writes) → AreApart 0 of.segments → pending_by number of ≡ 0 → es ≡ added offset bytes number of.segments
    → parts ≡ map part_of (before (offset + length bytes) (after offset of.segments)) → Enters number file (length bytes) old mid → Lessens (λ n. parts_by n parts) mid new → Takes number file of (record { segments = es; pieces = of.pieces }) old new
takes-added offset bytes number file of es parts old mid new apart fresh es-is parts-is enters less = record {
  here = omega (arith, less file number, enters.here, sum number, only-here number (length bytes) number refl, fresh);
  elsewhere = λ other not. omega (arith, less other number, enters.elsewhere other not);
  fewer = λ n not. omega (arith, sum n, only-none number (length bytes) n (λ is. not (sym is)));
  less = λ other n not. omega (arith, less other n, enters.others other n not, sum n, only-none number (length bytes) n (λ is. not (sym is)));
}
  where
    sum : (n : ℕ) → written_by n es + parts_by n parts ≡ written_by n of.segments + only number (length bytes) n
    sum n = ap (λ z. written_by n z + parts_by n parts) es-is ∙ ap (λ z. written_by n (added offset bytes number of.segments) + parts_by n z) parts-is ∙ written-added n offset bytes number of.segments apart
