-- What kept pages say of a file on an honest server (RFC 1813, sections 2.6 and 3.3.6).
use Rattle.std.specs.Prelude.{◌≡◌, ◌≤◌, ℕ, List, All, Some}
use Rattle.nfs_types.specs.declared.wcc.Stamp.{Stamp}
use Rattle.page_cache.specs.Bytes.{page_at}
use Rattle.page_cache.specs.declared.place.PagePlace.{PagePlace}
use Rattle.page_cache.specs.Pages.{Pages, page_of, known_of}
use Rattle.world_model.specs.declared.entry.Entry.TheVariants.{Began}
use Rattle.world_model.specs.declared.op.Op.{Op}
use Rattle.world_model.specs.Entries.{At}
use Rattle.world_model.specs.Fresh.{Fresh}
use Rattle.world_model.specs.History.{History}
use Rattle.world_model.specs.Lawful.{Lawful}
use Rattle.op_machines.specs.Begun.{machine_of}
use Rattle.op_machines.specs.declared.begun.Mounted.{Mounted}
use Rattle.client_core.specs.declared.setup.Setup.{Setup}
use Rattle.client_core.specs.View.{View}
use Rattle.core_facts.specs.Reaches.{Reaches}
use Rattle.law_reads.specs.Kept.{HasStamp}

-- the moment comes before any operation began
abbrev pub IsEarly : History → ℕ → Type 0
IsEarly t n = (i lane line : ℕ) (op : Op) → At t.entries i (Began lane line op) → n ≤ i

-- At a moment before any operation began the file had the stamp, and this page.
pub record HadPage (t : History) (file : List ℕ) (stamp : Stamp) (index : ℕ) (bytes : List ℕ) : Type 0 where
  pub n : ℕ
  pub early : IsEarly t n
  pub now : List ℕ
  pub has : HasStamp t n file stamp now
  pub is : bytes ≡ page_at index now

-- Each page that was kept from the start is so, under its file's stamp.
abbrev pub GivenTrue : Pages → History → Type 0
GivenTrue first t = All (λ (p : PagePlace × List ℕ). (stamp : Stamp) → known_of p.0.file first ≡ Some stamp → HadPage t p.0.file stamp p.0.index p.1) first.pages

-- Then a page that the client keeps is that page of the file at every moment at which the file has its known stamp.
abbrev pub PagesTrue : Type 0
PagesTrue = (m : Mounted) (setup : Setup) (t : History) (v : View) → Lawful t → Fresh t → Reaches (machine_of m) setup t.entries v → GivenTrue setup.pages t
    → (file : List ℕ) (stamp : Stamp) (index : ℕ) (bytes : List ℕ) → page_of file index v.shelf.pages ≡ Some bytes → known_of file v.shelf.pages ≡ Some stamp
    → (n : ℕ) (now : List ℕ) → HasStamp t n file stamp now → bytes ≡ page_at index now
