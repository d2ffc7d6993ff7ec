-- What a run leaves that began with kept pages is what its headline says of it.
use Rattle.std.specs.Prelude.{if◌then◌else◌}
use Rattle.std.proofs.Common.{◌≡◌, ◌≢◌, ◌∙◌, ℕ, Bool, true, false, List, [], ◌∷◌, ◌++◌, Option, Some, None, sym, ap, subst, arith}
use Rattle.page_cache.specs.Pages.{nothing_kept}
use Rattle.world_model.specs.declared.entry.Entry.{Entry}
use Rattle.world_model.specs.Clocked.{clocks}
use Rattle.world_model.specs.Counts.{tally_of}
use Rattle.world_model.specs.Entries.{ours}
use Rattle.world_model.specs.History.{History}
use Rattle.world_model.specs.Told.{Relates}
use Rattle.nfs_script.specs.declared.script.ScriptLine.{ScriptLine}
use Rattle.session_words.specs.declared.settings.Settings.{Settings}
use Rattle.session_setup.specs.declared.opening.SetUp.{SetUp}
use Rattle.session_setup.specs.Origins.{origin_of, modes_of, terms_by}
use Rattle.session_setup.specs.Sendings.{IsUnmarked}
use Rattle.core_answers.specs.pages.True.{GivenTrue}
use Rattle.lane_session.specs.Endings.{TextOf}
use Rattle.lane_session.specs.Sessions.{SessionIs}
use Rattle.script_runs.specs.declared.stock.Stock.{Stock}
use Rattle.script_runs.specs.Ends.{ran}
use Rattle.script_runs.specs.LaneRuns.{LeavesOver, LeavesFrom, SetUpAndRun, ready, lost, refused, unready, SessionFrom, no_lines, some_lines}
use Rattle.script_runs.specs.Readings.{Reads}
use Rattle.script_runs.specs.Run.{RunFrom, unbegun_with, session_with, Says}
use Rattle.script_runs.specs.Stock.{is_root, pages_for}
use Rattle.nfs_client.specs.Headline.{Promises, Headline}
use Rattle.nfs_client.specs.KeptHeadline.{KeptHeadline, KeptRun}
use Rattle.nfs_client.specs.Shown.{RunShowsOver}
use Rattle.nfs_client.proofs.Headlines.{clocked, no-clocks, lost-headline, early-headline, refused-ends, unready-ends}
use Rattle.nfs_client.proofs.NotOwn.{own-unmarked, own-quiet}
use Rattle.nfs_client.proofs.Ports.{empty-ports}
use Rattle.nfs_client.proofs.Quiet.{IsQuiet, quiet-caused, quiet-evident}
use Rattle.nfs_client.proofs.Headlines.{quiet-promises}
use Rattle.nfs_client.proofs.Resending.{early-resends}
use Rattle.nfs_client.proofs.ScriptAsked.{script-asked}
use Rattle.nfs_client.proofs.SetUpAlone.{early-quiet}
use Rattle.nfs_client.proofs.Showing.{none-given, shows-over}

-- the pages of a stock that are true are so for each session
pub given-for : (stock : Stock) (root : List ℕ) (t : History) → GivenTrue stock.pages t → GivenTrue (pages_for stock root) t
given-for stock root t given = by (is_root stock.root root)
  where
    by : (own : Bool) → GivenTrue (if own then stock.pages else nothing_kept) t
    by true = given
    by false = none-given t

module _ (stock : Stock) (s : Settings) where
  abbrev IsGiven : History → Type 0
  IsGiven t = GivenTrue stock.pages t

  kept-promises : (first : ℕ) (v : SetUp) (before h : List Entry) → RunShowsOver stock s first v before h → (t : History) → t.entries ≡ h → GivenTrue stock.pages t → Promises s first t
  kept-promises first v before h shows t is given =
      let own = given-for stock v.root t given in
      record {
        completes = (shows.complete t is).completes;
        settled = λ lawful once. (shows.stable t is lawful once own).settled;
        cuts_stay = λ lawful once. (shows.stable t is lawful once own).cuts_stay;
        read_true = λ lawful once anew. (shows.stable t is lawful once own).reads anew;
        read_short = λ lawful once anew. (shows.stable t is lawful once own).ends anew;
        read_current = λ lawful anew. (shows.honest t is lawful anew own).read_true;
        names_true = λ lawful anew. (shows.honest t is lawful anew own).names;
        attr_age = λ lawful anew. (shows.honest t is lawful anew own).ages;
        list_true = λ lawful anew rising. (shows.honest t is lawful anew own).lists rising;
      }

  -- a session that was set up
  ready-kept : (lines : List ScriptLine) (first ms : ℕ) (rest : List ℕ) (v : SetUp) (before mid h : List Entry) (status : ℕ) (text : List ℕ) → lines ≢ [] → IsUnmarked mid
      → SessionIs s.count lines rest mid h status text → RunShowsOver stock s first v mid h → TextOf s.count (tally_of h) h status text
      → KeptHeadline IsGiven s lines (ms ∷ rest) before h status text
  ready-kept lines first ms rest v before mid h status text some unmarked is shows says = record {
    first = first;
    idle = λ none. absurd (some none);
    follows = is.follows;
    together = is.together;
    clock = clocked status ms rest mid h unmarked is.clock is.timed;
    ends = ran is.ends says;
    caused = shows.caused lines status is.follows is.ends;
    ports = shows.ports;
    resends = shows.has.resends;
    evidence = shows.evidence;
    completes = λ t is. (shows.complete t is).completes;
    server = kept-promises first v mid h shows;
  }

  -- one that was not shows what it shows without pages
  without : (lines : List ScriptLine) (given : List ℕ) (before h : List Entry) (status : ℕ) (text : List ℕ) → lines ≢ [] → Headline s lines given h status text
      → KeptHeadline IsGiven s lines given before h status text
  without lines given before h status text some p = record {
    first = p.first;
    idle = λ none. absurd (some none);
    follows = p.follows;
    together = p.together;
    clock = p.clock;
    ends = p.ends;
    caused = p.caused;
    ports = p.ports;
    resends = p.resends;
    evidence = p.evidence;
    completes = λ t is. (p.server t is).completes;
    server = λ t is true_. p.server t is;
  }

  set-up-kept : (lines : List ScriptLine) (first ms : ℕ) (rest : List ℕ) (before h : List Entry) (status : ℕ) (text : List ℕ) → lines ≢ []
      → SetUpAndRun (LeavesOver stock) s lines first rest h status text → KeptHeadline IsGiven s lines (ms ∷ rest) before h status text
  set-up-kept lines first ms rest before h status text some (ready v mid so is leaves says) =
      ready-kept lines first ms rest v before mid h status text some so.unmarked is
      (shows-over s first v mid h so leaves.fits is.grown stock is.timed (script-asked lines h leaves.asked is.follows) leaves.core leaves.dials) says
  set-up-kept lines first ms rest before h status text some (lost tally mid so is only gone says) =
      without lines (ms ∷ rest) before h status text some (lost-headline s lines first ms rest tally mid h status text some so is only says)
  set-up-kept lines first ms rest before h status text some (refused fault none so tells) =
      subst (λ (g : List ℕ). KeptHeadline IsGiven s lines (ms ∷ g) before h status text) (sym none)
      (without lines (ms ∷ []) before h status text some
      (early-headline s lines first ms h status text some so.unmarked so.ports (early-quiet s first _ h so) (refused-ends s lines first fault h status text so tells)))
  set-up-kept lines first ms rest before h status text some (unready none so seven empty) =
      subst (λ (g : List ℕ). KeptHeadline IsGiven s lines (ms ∷ g) before h status text) (sym none)
      (without lines (ms ∷ []) before h status text some
      (early-headline s lines first ms h status text some so.unmarked so.ports (early-quiet s first _ h so) (unready-ends s lines h status text so.unmarked seven empty)))

  -- there were no lines
  empty-kept : (given : List ℕ) (before h : List Entry) (status : ℕ) (text : List ℕ) → ours before ≡ [] → h ≡ before → SessionIs s.count [] given before h status text
      → TextOf s.count (tally_of h) h status text → KeptHeadline IsGiven s [] given before h status text
  empty-kept given before h status text own same is says =
      let none : ours h ≡ [] = ap ours same ∙ own in
      let quiet : IsQuiet (terms_by s 1) h = own-quiet h none (terms_by s 1) in
      let promises = quiet-promises s 1 h quiet in
      record {
        first = 1;
        idle = λ none_left. same;
        follows = is.follows;
        together = is.together;
        clock = record {
          first = [];
          last = is.clock.last;
          is = sym (ap (λ (t : List ℕ). t ++ given) (no-clocks before (own-unmarked before own))) ∙ is.clock.is;
          few = omega arith;
          late = is.clock.few;
          whole = is.clock.whole;
          timed = is.timed;
        };
        ends = ran is.ends says;
        caused = quiet-caused (terms_by s 1) h quiet _ status;
        ports = empty-ports s h none;
        resends = early-resends h (own-unmarked h none);
        evidence = quiet-evident (terms_by s 1) h quiet (modes_of s) (origin_of s.export);
        completes = λ t is. (promises t is).completes;
        server = λ t is true_. promises t is;
      }

  session-kept : (lines : List ScriptLine) (given : List ℕ) (before h : List Entry) (status : ℕ) (text : List ℕ) → ours before ≡ []
      → SessionFrom (LeavesOver stock) s lines given before h status text → KeptHeadline IsGiven s lines given before h status text
  session-kept lines given before h status text own (no_lines empty same is says) =
      subst (λ (l : List ScriptLine). KeptHeadline IsGiven s l given before h status text) (sym empty) (empty-kept given before h status text own same is says)
  session-kept lines given before h status text own (some_lines some ms first rest is by run) =
      subst (λ (g : List ℕ). KeptHeadline IsGiven s lines g before h status text) (sym is) (set-up-kept lines first ms rest before h status text some run)

-- ---- a run

run-kept : (stock : Stock) (given : List ℕ) (s : Settings) (left : Option (List ℕ)) (before h : List Entry) (status : ℕ) (text : List ℕ) → ours before ≡ []
    → LeavesFrom stock given s left before h status text → KeptRun (λ (t : History). GivenTrue stock.pages t) given s left before h status text
run-kept stock given s left before h status text own (unbegun_with e u) = unbegun_with e u
run-kept stock given s left before h status text own (session_with lines read by) = session_with lines read (session-kept stock s lines given before h status text own by)

told-kept : (stock : Stock) (old new : Option History) (given : List ℕ) (s : Settings) (left : Option (List ℕ)) (status : ℕ) (text : List ℕ)
    → Relates old new (λ before h. ours before ≡ [] → LeavesFrom stock given s left before h status text) → Relates old new (λ before h. ours before ≡ [] → KeptRun (λ (t : History). GivenTrue stock.pages t) given s left before h status text)
told-kept stock None new given s left status text r = tt
told-kept stock (Some x) None given s left status text r = absurd r
told-kept stock (Some x) (Some y) given s left status text r = λ own. run-kept stock given s left x.entries y.entries status text own (r own)

pub kept-heads : (stock : Stock) (v w a b : Option (List ℕ)) (old new : Option History) (s : Settings) (left : Option (List ℕ)) (status : ℕ)
    → Says v w (λ text. Reads a b (λ given. Relates old new (λ before h. ours before ≡ [] → LeavesFrom stock given s left before h status text)))
    → Says v w (λ text. Reads a b (λ given. Relates old new (λ before h. ours before ≡ [] → KeptRun (λ (t : History). GivenTrue stock.pages t) given s left before h status text)))
kept-heads stock v w a b old new s left status said =
    record { text = said.text; added = said.added; is = (said.is.0, said.is.1, told-kept stock old new said.is.0 s left status said.text said.is.2) }
