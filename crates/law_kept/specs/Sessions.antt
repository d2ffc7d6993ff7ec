-- Pages of a store over several sessions with an honest server (RFC 1813, sections 2.6 and 3.3.6).
use Rattle.std.specs.Prelude.{◌≡◌, ℕ, List, ◌++◌, length, Option}
use Rattle.page_store.specs.Disk.{Every}
use Rattle.page_store.specs.Pages.{StoredPage}
use Rattle.page_store.specs.Store.{Stands}
use Rattle.world_model.specs.declared.entry.Entry.{Entry}
use Rattle.world_model.specs.Fresh.{Fresh}
use Rattle.world_model.specs.History.{History}
use Rattle.world_model.specs.Lawful.{Lawful}
use Rattle.law_anew.specs.Seen.{IsApart, Seen}
use Rattle.kept_runs.specs.Stored.{BeganTrue, Stored}

-- If the pages of each image are true of the history's first part, a session that comes after that part begins with true pages. This is so as it sees
-- the history.
abbrev pub BeginTrue : {D : Type 0} → (D → Type 0) → (D → List ℕ → Type 0) → Type 0
BeginTrue {D} tells may_leave =
    (disk : D) (slots : List (Option StoredPage)) (t : History) (first more : List Entry) → t.entries ≡ first ++ more → Lawful t → Fresh t → IsApart (length first) t.entries
    → tells disk → Stands (may_leave disk) slots → Every (may_leave disk) (Stored (length slots) t (length first))
    → (s : Seen first t) × BeganTrue tells may_leave slots disk s.seen

-- What is true of the history as a later client sees it is true of the history.
abbrev pub LeaveTrue : Type 0
LeaveTrue = (first : List Entry) (t : History) (s : Seen first t) (slots : ℕ) (image : List ℕ) → Stored slots s.seen (length s.seen.entries) image → Stored slots t (length t.entries) image
