-- Pages of a listing: rows, each after the word 1, and the word 0.
use Rattle.std.specs.Prelude.{◌≡◌, ◌≤◌, ℕ, List, [], ◌∷◌, ◌++◌, true, false, length, Result, Ok, Err}
use Rattle.xdr_codec.specs.declared.reader.XdrFault.{XdrFault}
use Rattle.xdr_codec.specs.Spelling.{flag_bytes, BeginsWith}
use Rattle.xdr_codec.specs.Spells.{SpellsList, Wrote}
use Rattle.xdr_codec.specs.Lists.{items_at, list_at}
use Rattle.xdr_codec.specs.Bytes.{IsBytes}

-- the rows at the front of bytes, by how one is read
unfoldable pub page_at : {A : Type 0} → (List ℕ → Result (A × List ℕ) XdrFault) → List ℕ → Result (List A × List ℕ) XdrFault
page_at read bytes = list_at read bytes

-- the written spelling, by how a row is written
unfoldable pub page_bytes : {A : Type 0} → (A → List ℕ) → List A → List ℕ
page_bytes write [] = flag_bytes false
page_bytes write (v ∷ vs) = (flag_bytes true ++ write v) ++ page_bytes write vs

abbrev pub firsts : {A : Type 0} → Result (List A × List ℕ) XdrFault → List A
firsts (Ok x) = x.0
firsts (Err e) = []

-- the same, and none if they can't be read
abbrev pub rows_of : {A : Type 0} → (List ℕ → Result (A × List ℕ) XdrFault) → List ℕ → List A
rows_of read bytes = firsts (page_at read bytes)

-- bytes at whose front such rows stand
pub record IsPage {A : Type 0} (read : List ℕ → Result (A × List ℕ) XdrFault) (bytes : List ℕ) : Type 0 where
  pub fits : IsBytes bytes
  pub all : List A × List ℕ
  pub is : page_at read bytes ≡ Ok all

abbrev pub prepends : {A : Type 0} → List A → Result (List A × List ℕ) XdrFault → Result (List A × List ℕ) XdrFault
prepends seen (Ok x) = Ok (seen ++ x.0, x.1)
prepends seen (Err e) = Err e

-- A page that is read from old on, and of which some rows were read, is now at these bytes.
pub record Along {A : Type 0} (read : List ℕ → Result (A × List ℕ) XdrFault) (old now : List ℕ) : Type 0 where
  pub fits : IsBytes now
  pub seen : List A
  pub turns : ℕ
  pub enough : length now ≤ turns
  pub same : page_at read old ≡ prepends seen (items_at read turns now)

-- Of a page that is written, some rows stand behind old, and some are left: what spells these then, spells all.
pub record Writing {A : Type 0} (write : A → List ℕ) (S : A → List ℕ → Type 0) (all left : List A) (old now : List ℕ) : Type 0 where
  pub begins : BeginsWith old now
  pub same : old ++ page_bytes write all ≡ now ++ page_bytes write left
  pub spells : (new : List ℕ) → Wrote (SpellsList S left) now new → Wrote (SpellsList S all) old new

-- Of a page that is copied, these rows are done, and some are left.
pub record Copied {A : Type 0} (all rows left : List A) : Type 0 where
  pub is : all ≡ rows ++ left
