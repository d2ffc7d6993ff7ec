-- Where each byte is from that a read answers (RFC 1813, sections 2.6, 3.3.6 and 4.8).
use Rattle.std.specs.Prelude.{◌≡◌, ◌≤◌, ◌+◌, ℕ, List, length, take, Some, slice_get}
use Rattle.world_model.specs.declared.answer.Answer.TheVariants.{Done}
use Rattle.world_model.specs.declared.answer.Value.TheVariants as values
use Rattle.world_model.specs.declared.entry.Entry.{Entry}
use Rattle.world_model.specs.declared.op.Op.{Op}
use Rattle.world_model.specs.declared.op.Op.TheVariants.{Read}
use Rattle.world_model.specs.Fresh.{Fresh}
use Rattle.world_model.specs.History.{History}
use Rattle.world_model.specs.Lawful.{Lawful}
use Rattle.claims.specs.Modes.{Modes}
use Rattle.world_model.specs.Operations.{Ended}
use Rattle.claims.specs.Slots.{IsOf}
use Rattle.claims.specs.Terms.{Terms}
use Rattle.op_machines.specs.declared.begun.Mounted.{Mounted}
use Rattle.client_core.specs.declared.setup.Setup.{Setup}
use Rattle.client_core.specs.View.{View}
use Rattle.core_facts.specs.SlotAnswers.{GoesWith}
use Rattle.core_answers.specs.pages.Held.{IsHeld}
use Rattle.core_answers.specs.pages.Read.{IsFound}
use Rattle.core_answers.specs.writes.Written.{IsWritten}
use Rattle.page_cache.specs.Pages.{Pages, nothing_kept}
use Rattle.core_answers.specs.pages.True.{GivenTrue}

-- A byte of an answer, the k-th: an operation that began before the answer gave it to the place; or the server was found to have it; or it is a
-- zero, past the end of what it was found to have.
pub data IsFrom (modes : Modes) (h : List Entry) (file server : List ℕ) (k place v : ℕ) : Type 0 where
  by_client : IsWritten modes h file place v → IsFrom modes h file server k place v
  by_server : slice_get server k ≡ Some v → IsFrom modes h file server k place v
  by_end : v ≡ 0 → length server ≤ k → IsFrom modes h file server k place v

-- The answer of a read of the file that its slot holds: each byte is from there. What the server was found to have, from the offset on, is what kept
-- pages have and what the read's own READs gave.
pub record ReadGivenFrom (first : Pages) (modes : Modes) (h : List Entry) (x : ℕ) (op : Op) (offset : ℕ) (bytes : List ℕ) : Type 0 where
  pub file : List ℕ
  pub of : IsOf modes h x op file
  pub server : List ℕ
  pub found : (k v : ℕ) → slice_get server k ≡ Some v → IsFound first h x file (offset + k) v
  pub each : (k v : ℕ) → slice_get bytes k ≡ Some v → IsFrom modes h file server k (offset + k) v

-- the same if no page was kept from the start
abbrev pub ReadGiven : Modes → List Entry → ℕ → Op → ℕ → List ℕ → Type 0
ReadGiven modes h x op offset bytes = ReadGivenFrom nothing_kept modes h x op offset bytes

-- Each answer to a read is so, by the history until then.
abbrev pub ReadsGiven : Type 0
ReadsGiven = (m : Mounted) (terms : Terms) (setup : Setup) (h : List Entry) (v : View) → GoesWith m terms setup h v
    → (lane x slot offset count y : ℕ) (bytes : List ℕ) → Ended h lane x (Read slot offset count) y (Done (values.Bytes bytes))
    → ReadGivenFrom setup.pages terms.modes (take y h) x (Read slot offset count) offset bytes

-- The same of an honest server: what it was found to have are bytes that the file had.
pub record ReadFrom (modes : Modes) (t : History) (x y : ℕ) (op : Op) (offset : ℕ) (bytes : List ℕ) : Type 0 where
  pub file : List ℕ
  pub of : IsOf modes (take y t.entries) x op file
  pub server : List ℕ
  pub held : (k v : ℕ) → slice_get server k ≡ Some v → IsHeld t x y file (offset + k) v
  pub each : (k v : ℕ) → slice_get bytes k ≡ Some v → IsFrom modes (take y t.entries) file server k (offset + k) v

-- Each answer to a read is so, if the server is honest and gives each change of a file another stamp. The pages that were kept from the start are true.
abbrev pub ReadsFrom : Type 0
ReadsFrom = (m : Mounted) (terms : Terms) (setup : Setup) (t : History) (v : View) → GoesWith m terms setup t.entries v → Lawful t → Fresh t → GivenTrue setup.pages t
    → (lane x slot offset count y : ℕ) (bytes : List ℕ) → Ended t.entries lane x (Read slot offset count) y (Done (values.Bytes bytes))
    → ReadFrom terms.modes t x y (Read slot offset count) offset bytes
