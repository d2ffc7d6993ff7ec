-- The pages that a run hands back are pages of their files.
use Rattle.std.specs.Prelude.{IfSome}
use Rattle.std.proofs.Common.{◌≡◌, ℕ, List, [], Option, Some, None, sym, ap, subst, ◌∙◌}
use Rattle.std.proofs.lemmas.List.{append-nil}
use Rattle.nfs_types.specs.declared.wcc.Stamp.{Stamp}
use Rattle.page_cache.specs.Pages.{Pages, known_of, page_of}
use Rattle.world_model.specs.declared.entry.Entry.{Entry}
use Rattle.world_model.specs.Entries.{ours}
use Rattle.world_model.specs.Fresh.{Fresh}
use Rattle.world_model.specs.History.{History}
use Rattle.world_model.specs.Lawful.{Lawful}
use Rattle.world_model.specs.Told.{Relates}
use Rattle.law_calls.specs.Calls.{Numbered}
use Rattle.session_words.specs.declared.settings.Settings.{Settings}
use Rattle.op_machines.specs.Begun.{machine_of}
use Rattle.op_machines.specs.declared.begun.Mounted.{Mounted}
use Rattle.client_core.specs.declared.setup.Setup.{Setup}
use Rattle.core_facts.specs.Notes.{Notes}
use Rattle.core_facts.specs.Reaches.{Reaches}
use Rattle.core_facts.proofs.Noting.{notes-reach}
use Rattle.core_facts.proofs.Rows.{reached-rows}
use Rattle.core_answers.specs.pages.Kept.{IsKeptFrom, IsPage}
use Rattle.core_answers.specs.pages.True.{GivenTrue}
use Rattle.core_answers.proofs.pages.PagesShown.{pages-shown}
use Rattle.core_answers.proofs.pages.PagesTrue.{true-page-of}
use Rattle.core_answers.proofs.pages.ReadsHeld.{page-had}
use Rattle.lane_session.specs.Running.{mounted_by}
use Rattle.script_runs.specs.declared.stock.Stock.{Stock}
use Rattle.script_runs.specs.Stock.{HandsBack, pages_for, setup_with}
use Rattle.nfs_client.specs.KeptPages.{TrueBack, WasPage, WerePages}
use Rattle.nfs_client.proofs.KeptHeadlines.{given-for}

-- a page that came so was one of its file
page-was : (first : Pages) (t : History) (given : GivenTrue first t) (lawful : Lawful t) (fresh : Fresh t) (numbered : Numbered t.entries) (file : List ℕ) (stamp : Stamp) (index : ℕ) (bytes : List ℕ)
    → IsPage first t.entries file stamp index bytes → WasPage t file stamp index bytes
page-was first t given lawful fresh numbered file stamp index bytes p =
    let had = page-had first t given lawful fresh numbered t.entries [] (sym (append-nil t.entries)) (λ n early within. within) file stamp index bytes p in
    record { n = had.n; now = had.now; has = had.has; each = true-page-of first t given lawful fresh numbered file stamp index bytes p }

module _ (stock : Stock) (s : Settings) (back : Stock) (t : History) (b : HandsBack stock s back t.entries) (lawful : Lawful t) (fresh : Fresh t) (given : GivenTrue stock.pages t) where
  abbrev m : Mounted
  m = mounted_by s (setup_with stock s b.up)

  abbrev setup : Setup
  setup = setup_with stock s b.up

  reaches : Reaches (machine_of m) setup t.entries b.core
  reaches = notes-reach (machine_of m) setup t.entries b.core b.notes

  back-pages : WerePages t back.pages
  back-pages file stamp index bytes known found =
      let k : IsKeptFrom setup.pages t.entries b.core.shelf.pages file index bytes =
      pages-shown m setup t.entries b.core reaches file index bytes (subst (λ (c : Pages). page_of file index c ≡ Some bytes) b.pages found) in
      let same : k.stamp ≡ stamp = some-same k.stamp stamp (sym k.known ∙ subst (λ (c : Pages). known_of file c ≡ Some stamp) b.pages known) in
      page-was setup.pages t (given-for stock b.up.root t given) lawful fresh (reached-rows (machine_of m) setup t.entries b.core reaches).numbered file stamp index bytes
      (subst (λ (z : Stamp). IsPage setup.pages t.entries file z index bytes) same k.page)
    where
      some-same : (a c : Stamp) → Some a ≡ Some c → a ≡ c
      some-same a c e = cc

back-true : (stock : Stock) (s : Settings) (back : Stock) (h : List Entry) → HandsBack stock s back h → TrueBack stock back h
back-true stock s back h b t is lawful fresh given = back-pages stock s back t (subst (HandsBack stock s back) (sym is) b) lawful fresh given

pub told-back : (stock : Stock) (old new : Option History) (s : Settings) (result : Option Stock)
    → Relates old new (λ before h. ours before ≡ [] → IfSome result (λ back. HandsBack stock s back h)) → Relates old new (λ before h. ours before ≡ [] → IfSome result (λ back. TrueBack stock back h))
told-back stock None new s result r = tt
told-back stock (Some x) None s result r = absurd r
told-back stock (Some x) (Some y) s None r = λ own. tt
told-back stock (Some x) (Some y) s (Some back) r = λ own. back-true stock s back y.entries (r own)
