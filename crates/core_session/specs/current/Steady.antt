-- A byte that the file has all the while, and over which this client gave no other, is read (RFC 1813, section 3.3.6).
use Rattle.std.specs.Prelude.{◌≡◌, ◌<◌, ◌≤◌, ◌+◌, ℕ, true, false, List, take, Some, slice_get}
use Rattle.world_model.specs.Fresh.{Fresh}
use Rattle.world_model.specs.History.{History}
use Rattle.world_model.specs.Lawful.{Lawful}
use Rattle.claims.specs.Modes.{Modes}
use Rattle.claims.specs.ReadTrue.{ReadsBytes, Since}
use Rattle.world_model.specs.Server.{HasBytes}
use Rattle.claims.specs.Settled.{HoldsStable}
use Rattle.claims.specs.Terms.{Terms}
use Rattle.op_machines.specs.declared.begun.Mounted.{Mounted}
use Rattle.client_core.specs.declared.setup.Setup.{Setup}
use Rattle.client_core.specs.View.{View}
use Rattle.core_facts.specs.SlotAnswers.{GoesWith}
use Rattle.core_answers.specs.writes.Written.{IsWritten}
use Rattle.core_session.specs.current.Recent.{KeepsBriefly}
use Rattle.core_answers.specs.pages.True.{GivenTrue}

-- at the moment n the file has this byte at the place
pub record HasByte (t : History) (n : ℕ) (file : List ℕ) (place b : ℕ) : Type 0 where
  pub now : List ℕ
  pub stable : List ℕ
  pub has : HasBytes (t.at n) file now stable
  pub holds : slice_get now place ≡ Some b

-- The file has the byte at each moment of which the read may show bytes. No operation of this client that began before the answer gave another to its
-- place.
pub record IsSteady (modes : Modes) (t : History) (x y o : ℕ) (file : List ℕ) (place b : ℕ) : Type 0 where
  pub held : (n : ℕ) → Since modes t.entries x o n → n ≤ y → HasByte t n file place b
  pub alone : (u : ℕ) → IsWritten modes (take y t.entries) file place u → u ≡ b

-- Each such byte of the range is in the answer, if the server is honest and gives each change of a file another stamp. The pages that were kept from the
-- start are true.
abbrev pub SteadyRead : Type 0
SteadyRead = (m : Mounted) (terms : Terms) (setup : Setup) (t : History) (v : View) → GoesWith m terms setup t.entries v → m.noac ≡ terms.modes.noac
    → (terms.modes.nocto ≡ true → KeepsBriefly terms.modes setup t.entries) → Lawful t → Fresh t → GivenTrue setup.pages t
    → (x y o : ℕ) (file : List ℕ) (offset count : ℕ) (bytes : List ℕ) → ReadsBytes terms.modes t.entries x y o file offset count bytes
    → (k b : ℕ) → k < count → IsSteady terms.modes t x y o file (offset + k) b → slice_get bytes k ≡ Some b

-- From after the place e on, up to the answer, the file holds the byte, and stable; and no operation of this client that began before gave another to its
-- place.
pub record IsStable (modes : Modes) (t : History) (e y : ℕ) (file : List ℕ) (place b : ℕ) : Type 0 where
  pub stays : (p : ℕ) → e < p → p ≤ y → HoldsStable (t.at p) file place b
  pub alone : (u : ℕ) → IsWritten modes (take y t.entries) file place u → u ≡ b

-- Such a byte is in the answer of each read by an open that began after e. In this session each open asks for attributes anew.
abbrev pub StableRead : Type 0
StableRead = (m : Mounted) (terms : Terms) (setup : Setup) (t : History) (v : View) → GoesWith m terms setup t.entries v → m.noac ≡ terms.modes.noac
    → terms.modes.nocto ≡ false → Lawful t → Fresh t → GivenTrue setup.pages t
    → (x y o : ℕ) (file : List ℕ) (offset count : ℕ) (bytes : List ℕ)
    → ReadsBytes terms.modes t.entries x y o file offset count bytes → (e k b : ℕ) → e < o → k < count → IsStable terms.modes t e y file (offset + k) b
    → slice_get bytes k ≡ Some b
