-- Which places bytes from an offset on cover, as the two models say it.
use Rattle.std.proofs.Common.{◌≡◌, ◌<◌, ◌≤◌, ◌+◌, ◌-◌, ℕ, Bool, true, false, List, length, Some, None, bytes_eq, refl, sym, ◌∙◌, arith}
use Rattle.std.specs.Prelude.{slice_get, slice_index}
use Rattle.std.proofs.lemmas.Option.{slice_get-get_or, get_or_from_slice_get}
use Rattle.std.proofs.lemmas.Slice.Eq.{bytes_eq-Decides}
use Rattle.write_back.specs.Segments as segments
use Rattle.write_back.proofs.ByPlace.{covered}
use Rattle.write_back.proofs.Keys.{low-of, high-of}
use Rattle.model_writes.specs.Story.{File, Spot, covers}
use Rattle.model_writes.proofs.CoversLemmas.{covers_is, covers_from, covers_within}

pub covers-file : (file : File) (offset : ℕ) (bytes : List ℕ) (i : Spot) (y : ℕ) → covers file offset bytes i ≡ Some y → i.file ≡ file
unfolding covers
covers-file file offset bytes i y e = by (bytes_eq file i.file) refl
  where
    by : (same : Bool) → bytes_eq file i.file ≡ same → i.file ≡ file
    by true s = sym ((bytes_eq-Decides file i.file).0 s)
    by false s = absurd (cc (rw s at e))

pub covers-place : (file : File) (offset : ℕ) (bytes : List ℕ) (i : Spot) (y : ℕ) → covers file offset bytes i ≡ Some y → segments.covers offset (length bytes) i.at ≡ true
covers-place file offset bytes i y e = covered offset (length bytes) i.at (covers_is file offset bytes i y e).0 (covers_within file offset bytes i y e)

pub covers-byte : (file : File) (offset : ℕ) (bytes : List ℕ) (i : Spot) (y : ℕ) → covers file offset bytes i ≡ Some y → slice_index bytes (i.at - offset) ≡ y
covers-byte file offset bytes i y e = get_or_from_slice_get bytes (i.at - offset) y 0 (covers_is file offset bytes i y e).1

-- the byte of a place within
pub covers-within : (file : File) (offset : ℕ) (bytes : List ℕ) (i : Spot) → i.file ≡ file → segments.covers offset (length bytes) i.at ≡ true
    → covers file offset bytes i ≡ Some (slice_index bytes (i.at - offset))
covers-within file offset bytes i same inside =
    let first : offset ≤ i.at = low-of offset (offset + length bytes) i.at inside in
    let last : i.at < offset + length bytes = high-of offset (offset + length bytes) i.at inside in
    let byte : slice_get bytes (i.at - offset) ≡ Some (slice_index bytes (i.at - offset)) = slice_get-get_or bytes (i.at - offset) 0 (omega (arith, first, last)) in
    covers_from file offset bytes i (slice_index bytes (i.at - offset)) (sym same) first byte

pub covers-none : (file : File) (offset : ℕ) (bytes : List ℕ) (i : Spot) → covers file offset bytes i ≡ None → i.file ≡ file → segments.covers offset (length bytes) i.at ≡ false
covers-none file offset bytes i none same = by (segments.covers offset (length bytes) i.at) refl
  where
    by : (b : Bool) → segments.covers offset (length bytes) i.at ≡ b → b ≡ false
    by true h = let k : None ≡ Some (slice_index bytes (i.at - offset)) = sym none ∙ covers-within file offset bytes i same h in absurd cc
    by false h = refl
