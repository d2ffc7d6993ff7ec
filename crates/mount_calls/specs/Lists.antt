-- Lists with a count (RFC 4506, section 4.13), and readers of values that own their data.
use Rattle.std.specs.Prelude.{◌≡◌, ◌≤◌, ◌-◌, ℕ, zero, suc, List, [], ◌∷◌, ◌++◌, length, Result, Ok, Err, nat_lt, if◌then◌else◌}
use Rattle.xdr_codec.specs.declared.reader.XdrFault.{XdrFault}
use Rattle.xdr_codec.specs.declared.reader.XdrFault.TheVariants.{TooLong}
use Rattle.xdr_codec.specs.declared.codec_fault.CodecFault.{CodecFault}
use Rattle.xdr_codec.specs.declared.codec_fault.CodecFault.TheVariants as faults
use Rattle.xdr_codec.specs.Reading.{◌>>=◌, u32_at}
use Rattle.xdr_codec.specs.Bytes.{IsBytes}
use Rattle.xdr_codec.specs.Lists.{list_at}
use Rattle.xdr_codec.specs.Spells.{◌⨾◌, SpellsU32}

-- what a read of a value with data of its own gave, and left, is what reading gives: out of memory is free
abbrev pub ReadsOwned : {X : Type 0} → Result X CodecFault → List ℕ → Result (X × List ℕ) XdrFault → Type 0
ReadsOwned (Ok x) new read = read ≡ Ok (x, new)
ReadsOwned (Err faults.Memory) new read = Unit {0}
ReadsOwned (Err (faults.Xdr f)) new read = read ≡ Err f

-- no fields
abbrev pub nothing_at : List ℕ → Result (Unit {0} × List ℕ) XdrFault
nothing_at bytes = Ok (tt, bytes)

pub record SpellsNothing (v : Unit {0}) (bytes : List ℕ) : Type 0 where
  pub is : bytes ≡ []

-- so many items one after another
abbrev pub many_at : {A : Type 0} → (List ℕ → Result (A × List ℕ) XdrFault) → ℕ → List ℕ → Result (List A × List ℕ) XdrFault
many_at read zero bytes = Ok ([], bytes)
many_at read (suc n) bytes = do
  v ← read bytes
  vs ← many_at read n v.1
  Ok (v.0 ∷ vs.0, vs.1)

-- a count of at most max, and so many items
abbrev pub counted_at : {A : Type 0} → ℕ → (List ℕ → Result (A × List ℕ) XdrFault) → List ℕ → Result (List A × List ℕ) XdrFault
counted_at max read bytes = do
  count ← u32_at bytes
  if nat_lt max count.0 then Err TooLong else many_at read count.0 count.1

-- items one after another
abbrev pub SpellsMany : {A : Type 0} → (A → List ℕ → Type 0) → List A → List ℕ → Type 0
SpellsMany S [] = λ bytes. bytes ≡ []
SpellsMany S (v ∷ vs) = S v ⨾ SpellsMany S vs

-- their count, at most max, and the items
pub record SpellsCounted {A : Type 0} (max : ℕ) (S : A → List ℕ → Type 0) (vs : List A) (bytes : List ℕ) : Type 0 where
  pub bound : length vs ≤ max
  pub is : (SpellsU32 (length vs) ⨾ SpellsMany S vs) bytes

-- items as they are written, by how one is written
abbrev pub many_bytes : {A : Type 0} → (A → List ℕ) → List A → List ℕ
many_bytes write [] = []
many_bytes write (v ∷ vs) = write v ++ many_bytes write vs

-- ---- what a loop has read so far

-- the items that were seen before, and those that follow
abbrev pub prepends : {A : Type 0} → List A → Result (List A × List ℕ) XdrFault → Result (List A × List ℕ) XdrFault
prepends seen (Ok x) = Ok (seen ++ x.0, x.1)
prepends seen (Err f) = Err f

-- so many items are read from the old bytes; these were seen, and the rest comes from the bytes now
pub record AlongMany {A : Type 0} (read : List ℕ → Result (A × List ℕ) XdrFault) (count : ℕ) (old : List ℕ) (seen : List A) (now : List ℕ) : Type 0 where
  pub most : length seen ≤ count
  pub same : many_at read count old ≡ prepends seen (many_at read (count - length seen) now)

-- the same of a list that ends with the word 0
pub record AlongList {A : Type 0} (read : List ℕ → Result (A × List ℕ) XdrFault) (old : List ℕ) (seen : List A) (now : List ℕ) : Type 0 where
  pub fits : IsBytes now
  pub same : list_at read old ≡ prepends seen (list_at read now)
