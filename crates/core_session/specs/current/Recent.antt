-- How old the bytes are that a read takes from the server and from kept pages (RFC 1813, section 2.6).
use Rattle.std.specs.Prelude.{◌≡◌, ◌<◌, ◌+◌, ℕ, true, List, length, take, Some, slice_get}
use Rattle.world_model.specs.declared.entry.Entry.{Entry}
use Rattle.world_model.specs.Fresh.{Fresh}
use Rattle.world_model.specs.History.{History}
use Rattle.world_model.specs.Lawful.{Lawful}
use Rattle.claims.specs.Modes.{Modes}
use Rattle.claims.specs.ReadTrue.{HeldByte, HeldSize, ReadsBytes, Since}
use Rattle.claims.specs.Terms.{Terms}
use Rattle.op_machines.specs.declared.begun.Mounted.{Mounted}
use Rattle.client_core.specs.declared.setup.Setup.{Setup}
use Rattle.client_core.specs.View.{View}
use Rattle.core_facts.specs.SlotAnswers.{GoesWith}
use Rattle.core_answers.specs.bonds.Aged.{TakesReadings}
use Rattle.core_answers.specs.bonds.Kept.{LastAtMost}
use Rattle.core_answers.specs.writes.Written.{IsWritten}
use Rattle.core_answers.specs.pages.True.{GivenTrue}

-- A byte that was read at the place:
-- - an operation of this client gave it there; or
-- - the file held it at a moment of which the read may show bytes; or
-- - it is a zero. Then the file ended at such a moment, and an operation of this client gave a byte to a later place.
pub data IsSoFar (modes : Modes) (t : History) (h : List Entry) (x y o : ℕ) (file : List ℕ) (place v : ℕ) : Type 0 where
  own : IsWritten modes h file place v → IsSoFar modes t h x y o file place v
  held : HeldByte t (Since modes t.entries x o) y file place v → IsSoFar modes t h x y o file place v
  past : (q u : ℕ) → v ≡ 0 → HeldSize t (Since modes t.entries x o) y file place → place < q → IsWritten modes h file q u → IsSoFar modes t h x y o file place v

-- The answer of a read of a file whose open began at the place o, by the history until then: each byte is so. If they are fewer than were asked for, the file
-- ended there at a moment of which the read may show bytes.
pub record ReadRecent (modes : Modes) (t : History) (x y o : ℕ) (file : List ℕ) (offset count : ℕ) (bytes : List ℕ) : Type 0 where
  pub each : (k v : ℕ) → slice_get bytes k ≡ Some v → IsSoFar modes t (take y t.entries) x y o file (offset + k) v
  pub short : length bytes < count → HeldSize t (Since modes t.entries x o) y file (offset + length bytes)

-- Operations begin at the readings of the clock, and no attributes are kept for longer than the longest keeping.
pub record KeepsBriefly (modes : Modes) (setup : Setup) (h : List Entry) : Type 0 where
  pub takes : TakesReadings h
  pub lasts : LastAtMost setup.lives modes.longest

-- Each answer to a read is so, if the server is honest and gives each change of a file another stamp. The pages that were kept from the start are true. Opens
-- and reads ask for the file's attributes, or go by what is kept and by what the open showed, as the session may.
abbrev pub ReadsRecent : Type 0
ReadsRecent = (m : Mounted) (terms : Terms) (setup : Setup) (t : History) (v : View) → GoesWith m terms setup t.entries v → m.noac ≡ terms.modes.noac
    → (terms.modes.nocto ≡ true → KeepsBriefly terms.modes setup t.entries) → Lawful t → Fresh t → GivenTrue setup.pages t
    → (x y o : ℕ) (file : List ℕ) (offset count : ℕ) (bytes : List ℕ) → ReadsBytes terms.modes t.entries x y o file offset count bytes
    → ReadRecent terms.modes t x y o file offset count bytes
