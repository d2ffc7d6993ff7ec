-- What an honest server makes true of the pages that a session hands back (RFC 1813, sections 2.6 and 3.3.6).
use Rattle.std.specs.Prelude.{◌≡◌, ℕ, List, Some}
use Rattle.nfs_types.specs.declared.wcc.Stamp.{Stamp}
use Rattle.page_cache.specs.Bytes.{page_at}
use Rattle.page_cache.specs.Pages.{Pages, known_of, page_of}
use Rattle.world_model.specs.declared.entry.Entry.{Entry}
use Rattle.world_model.specs.Fresh.{Fresh}
use Rattle.world_model.specs.History.{History}
use Rattle.world_model.specs.Lawful.{Lawful}
use Rattle.law_reads.specs.Kept.{HasStamp}
use Rattle.core_answers.specs.pages.True.{GivenTrue}
use Rattle.script_runs.specs.declared.stock.Stock.{Stock}

-- At a moment the file had the stamp, and at each such moment this was the page.
pub record WasPage (t : History) (file : List ℕ) (stamp : Stamp) (index : ℕ) (bytes : List ℕ) : Type 0 where
  pub n : ℕ
  pub now : List ℕ
  pub has : HasStamp t n file stamp now
  pub each : (m : ℕ) (later : List ℕ) → HasStamp t m file stamp later → bytes ≡ page_at index later

-- each page is so, under its file's stamp
abbrev pub WerePages : History → Pages → Type 0
WerePages t c = (file : List ℕ) (stamp : Stamp) (index : ℕ) (bytes : List ℕ) → known_of file c ≡ Some stamp → page_of file index c ≡ Some bytes → WasPage t file stamp index bytes

-- so are the pages that a run hands back, of each history with these entries: if the server is honest and gives each change of a file another stamp, and the
-- pages that the run began with were true
abbrev pub TrueBack : Stock → Stock → List Entry → Type 0
TrueBack stock back h = (t : History) → t.entries ≡ h → Lawful t → Fresh t → GivenTrue stock.pages t → WerePages t back.pages
