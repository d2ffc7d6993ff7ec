-- That pages which are kept aren't asked for again (RFC 1813, section 3.3.6).
use Rattle.std.specs.Prelude.{◌≡◌, List}
use Rattle.world_model.specs.declared.entry.Entry.{Entry}
use Rattle.claims.specs.Terms.{Terms}
use Rattle.claims.specs.Thrifty.{OneLane, KeptPages}
use Rattle.op_machines.specs.declared.begun.Mounted.{Mounted}
use Rattle.client_core.specs.declared.setup.Setup.{Setup}
use Rattle.client_core.specs.View.{View}
use Rattle.core_session.specs.calls.Whole.{GoesFrom}
use Rattle.page_cache.specs.Pages.{nothing_kept}

-- If all operations are of one lane, no READ is sent for a page that a READ gave, while nothing shows that the file changed. No page was kept
-- from the start.
abbrev pub KeptOnce : Type 0
KeptOnce = (m : Mounted) (terms : Terms) (setup : Setup) (before h : List Entry) (v : View) → GoesFrom m terms setup before h v
    → setup.pages ≡ nothing_kept → OneLane h → KeptPages terms h
