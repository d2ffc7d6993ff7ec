-- How long the READs of a session are (RFC 1813, sections 3.3.6 and 3.3.19).
use Rattle.std.specs.Prelude.{◌≡◌, List}
use Rattle.world_model.specs.declared.entry.Entry.{Entry}
use Rattle.claims.specs.Terms.{Terms}
use Rattle.claims.specs.Thrifty.{LongReads}
use Rattle.op_machines.specs.declared.begun.Mounted.{Mounted}
use Rattle.client_core.specs.declared.setup.Setup.{Setup}
use Rattle.client_core.specs.View.{View}
use Rattle.core_session.specs.calls.Whole.{GoesFrom}
use Rattle.page_cache.specs.Pages.{nothing_kept}

-- If no page was kept from the start, each READ asks for as many bytes as it may; or up to the end of the last page of a read under way; or up to a page
-- that an earlier READ met.
abbrev pub ReadsLong : Type 0
ReadsLong = (m : Mounted) (terms : Terms) (setup : Setup) (before h : List Entry) (v : View) → GoesFrom m terms setup before h v
    → setup.pages ≡ nothing_kept → LongReads terms h
