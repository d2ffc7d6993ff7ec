-- The pages that a run begins with and hands back, and the root that they are of.
use Rattle.std.specs.Prelude.{◌≡◌, ℕ, Bool, true, nat_eq, if◌then◌else◌, List, Option, Some, None, Ok}
use Rattle.std.specs.Cmp.Lexicographic.{pointwise}
use Rattle.page_cache.specs.Pages.{Pages, nothing_kept}
use Rattle.world_model.specs.declared.entry.Entry.{Entry}
use Rattle.session_words.specs.declared.settings.Settings.{Settings}
use Rattle.session_setup.specs.declared.opening.SetUp.{SetUp}
use Rattle.session_setup.specs.Outcomes.{SetsUp}
use Rattle.op_machines.specs.Begun.{machine_of}
use Rattle.client_core.specs.declared.setup.Setup.{Setup}
use Rattle.client_core.specs.View.{View}
use Rattle.core_facts.specs.Notes.{Notes}
use Rattle.lane_session.specs.Running.{mounted_by}
use Rattle.script_runs.specs.declared.stock.Stock.{Stock}

-- no session has kept any
abbrev pub nothing_stored : Stock
nothing_stored = record { root = None; pages = nothing_kept }

-- whether a session over this root may have pages of that one
abbrev pub is_root : Option (List ℕ) → List ℕ → Bool
is_root None root = true
is_root (Some kept) root = pointwise nat_eq kept root

-- the pages with which a session over this root begins
abbrev pub pages_for : Stock → List ℕ → Pages
pages_for stock root = if is_root stock.root root then stock.pages else nothing_kept

-- what the core goes by after its set-up, with these pages
abbrev pub setup_over : Settings → SetUp → Pages → Setup
setup_over s v pages = record { root = v.root; rsize = v.rsize; wsize = v.wsize; first_xid = v.next_xid; limit = v.left; cred = s.cred; lives = s.lives; pages = pages }

-- what the core goes by, of a session that begins with what fits its root
abbrev pub setup_with : Stock → Settings → SetUp → Setup
setup_with stock s v = setup_over s v (pages_for stock v.root)

-- The pages that are handed back are those of a core that goes with the history, and of the root that its set-up found.
pub record HandsBack (stock : Stock) (s : Settings) (back : Stock) (h : List Entry) : Type 0 where
  pub first : ℕ
  pub up : SetUp
  pub before : List Entry
  pub sets_up : SetsUp s first (Ok up) before
  pub core : View
  pub notes : Notes (machine_of (mounted_by s (setup_with stock s up))) (setup_with stock s up) h core
  pub pages : back.pages ≡ core.shelf.pages
  pub root : back.root ≡ Some up.root
