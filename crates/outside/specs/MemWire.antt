-- A wire in memory.
use Rattle.std.specs.Prelude.{map, ◌≡◌, ◌+◌, ◌-◌, ◌<◌, ◌==◌, ℕ, List, [], ◌∷◌, take, drop, length, min, Bool, true, false, Result, Ok, Err, if◌then◌else◌}
use Rattle.outside.specs.declared.link.LinkFault.{LinkFault}
use Rattle.outside.specs.declared.link.LinkFault.TheVariants as faults
use Rattle.outside.specs.declared.wire.WireEntry.{WireEntry}
use Rattle.outside.specs.declared.wire.WireRead.{WireRead}
use Rattle.outside.specs.declared.places.WirePlace.{WirePlace}
use Rattle.outside.specs.declared.wire.WireRead.TheVariants as reads
use Rattle.world_model.specs.History.{no_server}
use Rattle.outside.specs.Wire.{WireCall, WireTold}

-- what a caller sees of it: what its calls did; the pieces that weren't handed out whole, and how much of the first of
-- them was handed out; the numbers of the calls that fail, and how many were made but for notes; the faults so far, and
-- what a link placed
pub record WireView : Type 0 where
  pub told : List WireEntry
  pub pieces : List (List ℕ)
  pub at : ℕ
  pub fails : List ℕ
  pub calls : ℕ
  pub faults : ℕ
  pub placed : List WirePlace

-- a call before which the server did nothing
abbrev pub alone : WireEntry → WireCall
alone did = record { quiet = []; did = did }

-- what such a wire tells: nothing is known of a server
abbrev pub in_memory : List WireEntry → WireTold
in_memory entries = record { start = no_server; calls = map alone entries }

-- how much was handed out is a part of the first piece, if there is one
abbrev pub IsPartOf : ℕ → List (List ℕ) → Type 0
IsPartOf at [] = at ≡ 0
IsPartOf at (p ∷ ps) = at < length p

abbrev pub IsFilled : List ℕ → Type 0
IsFilled piece = 0 < length piece

-- the pieces and the part stay as they were
pub record HandsOutNothing (old new : WireView) : Type 0 where
  pub pieces : new.pieces ≡ old.pieces
  pub at : new.at ≡ old.at

-- As many bytes as there is room for were handed out from what is left of the first piece; if they were its last,
-- the next piece is the first.
pub record HandsOutPart (old new : WireView) (buf : List ℕ) (n : ℕ) : Type 0 where
  pub first : List ℕ
  pub others : List (List ℕ)
  pub pieces : old.pieces ≡ first ∷ others
  pub count : n ≡ min (length first - old.at) (length buf)
  pub bytes : take n buf ≡ take n (drop old.at first)
  pub left : new.pieces ≡ (if old.at + n == length first then others else first ∷ others)
  pub at : new.at ≡ (if old.at + n == length first then 0 else old.at + n)

-- It is silent exactly if no piece is left.
abbrev pub HandsOutPiece : WireView → WireView → List ℕ → WireRead → Type 0
HandsOutPiece old new buf (reads.Got n) = HandsOutPart old new buf n
HandsOutPiece old new buf reads.Silent = (old.pieces ≡ []) × HandsOutNothing old new
HandsOutPiece old new buf reads.Failed = HandsOutNothing old new
HandsOutPiece old new buf reads.Memory = HandsOutNothing old new

-- A failure comes exactly if the call is one that is to fail; a failure is told too, so memory may run out for it.
abbrev pub FailsListed : {T : Type 0} → Result T LinkFault → Bool → Type 0
FailsListed (Ok x) listed = listed ≡ false
FailsListed (Err faults.Failed) listed = listed ≡ true
FailsListed (Err faults.Memory) listed = Unit {0}

abbrev pub ReadFailsListed : WireRead → Bool → Type 0
ReadFailsListed (reads.Got n) listed = listed ≡ false
ReadFailsListed reads.Silent listed = listed ≡ false
ReadFailsListed reads.Failed listed = listed ≡ true
ReadFailsListed reads.Memory listed = Unit {0}

-- A connection puts a piece that was handed out in part back whole; when out of memory it stays in part.
abbrev pub PutsBack : {T : Type 0} → WireView → WireView → Result T LinkFault → Type 0
PutsBack old new (Ok x) = (new.pieces ≡ old.pieces) × (new.at ≡ 0)
PutsBack old new (Err faults.Failed) = (new.pieces ≡ old.pieces) × (new.at ≡ 0)
PutsBack old new (Err faults.Memory) = HandsOutNothing old new
