-- What becomes of a file's kept pages when GETATTR shows its state to an operation that is about to use them.
use Rattle.std.specs.Prelude.{◌≡◌, ◌-◌, ℕ, Bool, false, nat_le, List, [], None, Result, Ok, Err, if◌then◌else◌}
use Rattle.std.specs.Option.{option_map_or}
use Rattle.nfs_types.specs.declared.attr.Attr.{Attr}
use Rattle.nfs_types.specs.declared.wcc.Wcc.{Wcc}
use Rattle.xdr_codec.specs.declared.blob.Memory as memory
use Rattle.client_shelf.specs.declared.turn.Turn.{Turn}
use Rattle.page_cache.specs.Pages.{Pages, state_of, mark_of, opened, wrote}
use Rattle.nfs_types.specs.Stamps.{stamp_of}

-- a change of which nothing is told
abbrev pub no_wcc : Wcc
no_wcc = record { before = None; after = None }

-- whether the GETATTR is too old to tell of the file
abbrev pub is_late : List ℕ → ℕ → Pages → Bool
is_late file sent pages = option_map_or (λ mark. nat_le sent mark) (mark_of file pages) false

-- the file is opened in the state that GETATTR showed, or in no known state if that is too old
abbrev pub opened_pages : List ℕ → Attr → ℕ → Turn → Turn → Pages → Pages
opened_pages file attr moment sent turn pages =
    if is_late file sent.moment pages then wrote file no_wcc 0 [] (turn.moment - 1) pages else opened file (stamp_of attr) moment pages

-- A file that was never opened may want memory.
abbrev pub PagesOpened : List ℕ → Attr → ℕ → Turn → Turn → Result (Unit {0}) memory.Memory → Pages → Pages → Type 0
PagesOpened file attr moment sent turn (Ok done) old new = new ≡ opened_pages file attr moment sent turn old
PagesOpened file attr moment sent turn (Err memory) old new = (state_of file old ≡ None) × (new ≡ old)
