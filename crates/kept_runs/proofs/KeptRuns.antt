-- A run that began with the pages of a store.
use Rattle.std.specs.Prelude.{IfSome}
use Rattle.std.proofs.Common.{◌≡◌, ℕ, List, [], length, Option, Some, None, refl}
use Rattle.page_cache.specs.Sound.{IsSound}
use Rattle.page_store.specs.Disk.{LeavesOnly}
use Rattle.page_store.specs.Pages.{StoredPage}
use Rattle.page_store.proofs.Moments.{started, weaker}
use Rattle.kept_pages.specs.Comes.{Comes}
use Rattle.kept_pages.specs.Kept.{KeepsOrKept}
use Rattle.world_model.specs.declared.entry.Entry.{Entry}
use Rattle.anew_link.specs.Anew.{since}
use Rattle.world_model.specs.Fresh.{Fresh}
use Rattle.world_model.specs.History.{History}
use Rattle.world_model.specs.Lawful.{Lawful}
use Rattle.world_model.specs.Told.{Relates}
use Rattle.session_words.specs.declared.settings.Settings.{Settings}
use Rattle.nfs_script.specs.declared.script.ScriptLine.{ScriptLine}
use Rattle.session_words.specs.Words.{IsCommand}
use Rattle.core_answers.specs.pages.True.{GivenTrue}
use Rattle.script_runs.specs.declared.stock.Stock.{Stock}
use Rattle.script_runs.specs.Readings.{Reads}
use Rattle.script_runs.specs.Run.{Unbegun, unbegun_with, session_with, Says}
use Rattle.script_runs.proofs.Readings.{reads_none}
use Rattle.script_runs.proofs.StreamLaws.{appends_none}
use Rattle.nfs_client.specs.KeptHeadline.{KeptHeadline, KeptRun}
use Rattle.nfs_client.specs.KeptPages.{TrueBack}
use Rattle.kept_runs.specs.KeptRuns.{KeptWords, unread, by_words}
use Rattle.kept_runs.specs.Stored.{BeganTrue, KeepsBack, Stored}
use Rattle.kept_runs.proofs.StoredPages.{given-true, left-true, still-stored}

-- ---- what is promised

-- where one sense of true follows from another, so does what is promised
module _ (A B : History → Type 0) (implies : (t : History) → B t → A t) where
  heads-less : (s : Settings) (lines : List ScriptLine) (given : List ℕ) (before h : List Entry) (status : ℕ) (text : List ℕ) → KeptHeadline A s lines given before h status text
      → KeptHeadline B s lines given before h status text
  heads-less s lines given before h status text p = record {
    first = p.first;
    idle = p.idle;
    follows = p.follows;
    together = p.together;
    clock = p.clock;
    ends = p.ends;
    caused = p.caused;
    ports = p.ports;
    resends = p.resends;
    evidence = p.evidence;
    completes = p.completes;
    server = λ t is true_. p.server t is (implies t true_);
  }

  run-less : (given : List ℕ) (s : Settings) (left : Option (List ℕ)) (before h : List Entry) (status : ℕ) (text : List ℕ) → KeptRun A given s left before h status text
      → KeptRun B given s left before h status text
  run-less given s left before h status text (unbegun_with e u) = unbegun_with e u
  run-less given s left before h status text (session_with lines read by) = session_with lines read (heads-less s lines given before h status text by)

  words-told : (old new : Option History) (given : List ℕ) (words : List (List ℕ)) (s : Settings) (left : Option (List ℕ)) (status : ℕ) (text : List ℕ) → IsCommand words s
      → Relates old new (λ before h. KeptRun A given s left (since before before) (since before h) status text)
      → Relates old new (λ before h. KeptWords B given words left (since before before) (since before h) status text)
  words-told None new given words s left status text command r = tt
  words-told (Some x) None given words s left status text command r = absurd r
  words-told (Some x) (Some y) given words s left status text command r = by_words s command (run-less given s left (since x.entries x.entries) (since x.entries y.entries) status text r)

  -- the words are a command line
  pub words-say : (v w a b : Option (List ℕ)) (old new : Option History) (words : List (List ℕ)) (s : Settings) (left : Option (List ℕ)) (status : ℕ) → IsCommand words s
      → Says v w (λ text. Reads a b (λ given. Relates old new (λ before h. KeptRun A given s left (since before before) (since before h) status text)))
      → Says v w (λ text. Reads a b (λ given. Relates old new (λ before h. KeptWords B given words left (since before before) (since before h) status text)))
  words-say v w a b old new words s left status command said =
      record { text = said.text; added = said.added; is = (said.is.0, said.is.1, words-told old new said.is.0 words s left status said.text command said.is.2) }

-- they aren't, or memory ran out
unread-told : (B : History → Type 0) (old : Option History) (words : List (List ℕ)) (left : Option (List ℕ)) (status : ℕ) → Unbegun left status []
    → Relates old old (λ before h. KeptWords B [] words left (since before before) (since before h) status [])
unread-told B None words left status u = tt
unread-told B (Some x) words left status u = unread refl u

pub unread-says : (B : History → Type 0) (v a : Option (List ℕ)) (old : Option History) (words : List (List ℕ)) (left : Option (List ℕ)) (status : ℕ) → Unbegun left status []
    → Says v v (λ text. Reads a a (λ given. Relates old old (λ before h. KeptWords B given words left (since before before) (since before h) status text)))
unread-says B v a old words left status u = record { text = []; added = appends_none v; is = ([], reads_none a, unread-told B old words left status u) }

-- ---- what a crash leaves

module _ {D : Type 0} (tells : D → Type 0) (may_leave : D → List ℕ → Type 0) (moment : D → ℕ) (left_since : D → ℕ → List ℕ → Type 0) (slots : List (Option StoredPage)) where
  -- of a history with these entries
  abbrev pub LeavesTrue : D → D → List Entry → Type 0
  LeavesTrue old new h = (t : History) → t.entries ≡ h → Lawful t → Fresh t → BeganTrue tells may_leave slots old t
      → LeavesOnly moment left_since old new (Stored (length slots) t (length t.entries))

  -- nothing was stored
  leaves-same : (old new : D) (h : List Entry) → LeavesOnly moment left_since old new (may_leave old) → LeavesTrue old new h
  leaves-same old new h same t is lawful fresh began =
      weaker moment left_since old new (may_leave old) (Stored (length slots) t (length t.entries)) same
      (λ image may. still-stored t lawful fresh began.until (length slots) image (began.stored image may))

  pub run-idle : (a : Option History) (old : D) → ((image : List ℕ) → left_since old (moment old) image → may_leave old image)
      → Relates a a (λ before h. LeavesTrue old old (since before h))
  run-idle None old only = tt
  run-idle (Some x) old only = leaves-same old old (since x.entries x.entries) (started moment left_since old (may_leave old) (may_leave old) only (λ image may. may))

  -- the pages that the session began with were true
  module _ (old : D) (stock : Stock) (shows : tells old → (image : List ℕ) × may_leave old image) (sound : IsSound stock.pages) (comes : Comes slots stock.pages) where
    pub given-so : (t : History) → BeganTrue tells may_leave slots old t → GivenTrue stock.pages t
    given-so t g =
        let one = shows g.told in
        given-true t g.until g.early slots (may_leave old) one.0 one.1 g.stands g.stored stock.pages sound comes

    -- and the pages that came back were stored
    module _ (new : D) where
      leaves-back : (back : Stock) (h : List Entry) → IsSound back.pages → LeavesOnly moment left_since old new (KeepsOrKept (length slots) (length slots) back.pages (may_leave old))
          → TrueBack stock back h → LeavesTrue old new h
      leaves-back back h held keeps were t is lawful fresh began =
          weaker moment left_since old new (KeepsOrKept (length slots) (length slots) back.pages (may_leave old)) (Stored (length slots) t (length t.entries)) keeps
          (λ c k. left-true t lawful fresh began.until (length slots) back.pages (may_leave old) c held (were t is lawful fresh (given-so t began)) began.stored k)

      pub run-after : (a b : Option History) (result : Option Stock) → KeepsBack may_leave moment left_since (length slots) result old new
          → Relates a b (λ before h. IfSome result (λ back. TrueBack stock back (since before h))) → Relates a b (λ before h. LeavesTrue old new (since before h))
      run-after None b result keeps r = tt
      run-after (Some x) None result keeps r = absurd r
      run-after (Some x) (Some y) None keeps r = leaves-same old new (since x.entries y.entries) keeps
      run-after (Some x) (Some y) (Some back) keeps r = leaves-back back (since x.entries y.entries) keeps.0 keeps.1 r
