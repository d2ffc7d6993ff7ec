-- A session that was set up shows what its core does: its root was known as each operation began, and its terms are those of the settings.
use Rattle.std.proofs.Common.{◌≡◌, ◌≤◌, ◌<◌, ◌+◌, ◌⊎◌, inl, inr, ℕ, List, [], ◌∷◌, ◌++◌, length, Bool, true, false, cond, Some, Ok, refl, sym, ap, subst, arith}
use Rattle.std.proofs.lemmas.Bool.{cases_lt, eq-eqb}
use Rattle.std.proofs.lemmas.List.Elements.{All-nil}
use Rattle.attr_cache.specs.declared.lives.Lives.{Lives}
use Rattle.rpc_message.specs.declared.cred.Cred.{Cred}
use Rattle.rpc_retry.specs.declared.waiting.Waiting.{Waiting}
use Rattle.rpc_retry.specs.Waiting.{waiting_at}
use Rattle.world_model.specs.declared.entry.Entry.{Entry}
use Rattle.world_model.specs.declared.entry.Entry.TheVariants.{Began, Clock, Sent}
use Rattle.world_model.specs.declared.op.Op.{Op}
use Rattle.world_model.specs.declared.op.Op.TheVariants as ops
use Rattle.world_model.specs.declared.answer.Answer.TheVariants.{Refused}
use Rattle.world_model.specs.declared.answer.Fault.TheVariants.{Spent}
use Rattle.claims.specs.CallsAsked.{CallsAsked, NoneBegan}
use Rattle.claims.specs.Caused.{calls_in}
use Rattle.world_model.specs.Entries.{At}
use Rattle.world_model.specs.Fresh.{Fresh}
use Rattle.world_model.specs.History.{History}
use Rattle.world_model.specs.Lawful.{Lawful}
use Rattle.world_model.specs.Mounts.{Rooted}
use Rattle.world_model.specs.Once.{Once}
use Rattle.world_model.specs.Operations.{Ended}
use Rattle.world_model.specs.Rows.{WasSent}
use Rattle.claims.specs.Terms.{Terms}
use Rattle.world_model.proofs.Growth.{Rooted-grow, Rooted-wide}
use Rattle.world_model.proofs.Places.{At-back, At-below, At-grow}
use Rattle.op_machines.specs.Begun.{IsNamed, machine_of}
use Rattle.op_machines.specs.declared.begun.Mounted.{Mounted}
use Rattle.op_machines.specs.declared.machine.Machine.{Machine}
use Rattle.client_core.specs.declared.lane.Purpose.{Purpose}
use Rattle.client_core.specs.declared.setup.Setup.{Setup}
use Rattle.client_core.specs.Steps.{WereSent}
use Rattle.client_core.specs.View.{View}
use Rattle.core_facts.specs.Naming.{KnowsRoot}
use Rattle.core_facts.specs.Reaches.{MaySetUp, Reaches, begins, goes, loses}
use Rattle.core_facts.specs.SlotAnswers.{GoesWith}
use Rattle.core_facts.proofs.AllCounts.{begins-unbegun}
use Rattle.core_facts.proofs.Coming.{lanes-wait, none-unanswered}
use Rattle.core_facts.proofs.Losing.{reached-shown}
use Rattle.core_facts.proofs.LostAnswers.{lost-answers}
use Rattle.core_facts.proofs.Owning.{reached-owned}
use Rattle.core_facts.proofs.Refusals.{refusals-shown}
use Rattle.core_facts.proofs.Rows.{reached-rows}
use Rattle.core_facts.proofs.SlotTheorems.{places-caused, places-exact, slots-hold-opens}
use Rattle.core_answers.specs.pages.True.{GivenTrue}
use Rattle.core_answers.proofs.answers.LonePuts.{lone-refusals}
use Rattle.core_answers.proofs.answers.PutRules.{put-faults-few, put-rules-shown}
use Rattle.core_answers.specs.asks.PutCalls.{IsMadeAlone}
use Rattle.core_answers.proofs.asks.PutAsks.{lone-puts-ask}
use Rattle.core_answers.proofs.asks.XidAsks.{xids-kept}
use Rattle.core_answers.specs.bonds.Aged.{TakesReadings}
use Rattle.core_answers.specs.bonds.Kept.{LastAtMost}
use Rattle.core_answers.proofs.bonds.Aged.{attrs-aged}
use Rattle.core_answers.proofs.bonds.NamesShown.{names-stood}
use Rattle.core_answers.proofs.bonds.StatsLed.{stats-led}
use Rattle.core_session.specs.calls.Sessions.{AreAsked}
use Rattle.core_session.specs.calls.Whole.{GoesFrom}
use Rattle.core_session.proofs.calls.WritesSome.{writes-some}
use Rattle.core_answers.proofs.limits.AllSent.{all-sent}
use Rattle.core_answers.proofs.limits.CountOf.{calls-are-all}
use Rattle.core_answers.proofs.limits.Unspent.{all-made}
use Rattle.core_session.proofs.current.ReadsRecent.{reads-recent}
use Rattle.core_session.proofs.current.SteadyBytes.{stable-read}
use Rattle.core_session.proofs.shown.Current.{reads-current}
use Rattle.core_answers.proofs.pages.PagesShown.{pages-shown}
use Rattle.core_answers.proofs.pages.PagesTrue.{pages-true}
use Rattle.core_answers.specs.paths.Found.{GoesHonestly}
use Rattle.core_answers.proofs.paths.ListsWhole.{lists-whole}
use Rattle.core_answers.proofs.paths.PutNames.{names-held}
use Rattle.core_session.proofs.pending.Unsettled.{pending-held}
use Rattle.core_answers.proofs.reads.ReadsFrom.{reads-from, reads-given}
use Rattle.core_counts.proofs.counts.rooms.Counted.{few-commits}
use Rattle.core_counts.proofs.counts.equal.Counted.{equal-few}
use Rattle.core_counts.proofs.counts.hidden.Counted.{hidden-few}
use Rattle.core_counts.proofs.counts.listed.Counted.{pages-few}
use Rattle.core_counts.proofs.counts.reads.Counted.{few-reads-made}
use Rattle.core_counts.proofs.counts.writes.Counted.{few-writes-made}
use Rattle.core_counts.proofs.thrift.Once.{kept-once}
use Rattle.core_counts.proofs.thrift.ReadsLong.{reads-long}
use Rattle.core_counts.proofs.thrift.short.LongWrites.{long-writes}
use Rattle.core_session.proofs.asked.Whole.{all-asked}
use Rattle.core_facts.specs.Notes.{Notes}
use Rattle.core_facts.proofs.Noting.{notes-reach}
use Rattle.core_session.specs.outcomes.Complete.{CarriesBytes}
use Rattle.core_session.proofs.endings.Endings.{refusals-all-rowed, sessions-complete}
use Rattle.core_session.proofs.outcomes.Complete.{served-complete}
use Rattle.core_session.proofs.outcomes.OwnFaults.{faults-own}
use Rattle.core_answers.specs.refusals.Rowed.{GoesSo}
use Rattle.core_answers.proofs.refusals.OwnRows.{refusals-owned}
use Rattle.core_session.proofs.saves.Lone.{puts-written}
use Rattle.core_session.specs.settled.Settling.{OnlySetsUp}
use Rattle.core_session.proofs.settled.LonePuts.{lone-puts-stay}
use Rattle.core_session.proofs.settled.Evident.{settled-evident}
use Rattle.core_session.proofs.settled.Synced.{synced-stay, settled-stay}
use Rattle.core_session.specs.syncs.Synced.{PutsNamed}
use Rattle.core_session.proofs.kept.OwnShows.{own-bytes-read, reads-end-rightly}
use Rattle.core_session.proofs.own.Bare.{cuts-stay}
use Rattle.core_session.proofs.own.ReadCuts.{cuts-read}
use Rattle.core_session.specs.current.Recent.{KeepsBriefly}
use Rattle.core_answers.proofs.writes.CommitsAlone.{commits-alone}
use Rattle.core_answers.proofs.writes.PendingWritten.{pending-written}
use Rattle.core_answers.proofs.writes.PiecesCarried.{pieces-carried}
use Rattle.core_answers.proofs.writes.WholeWrites.{writes-whole}
use Rattle.session_words.specs.declared.settings.Settings.{Settings}
use Rattle.link_dials.specs.Dials.{Dials}
use Rattle.session_setup.specs.declared.opening.SetUp.{SetUp}
use Rattle.session_setup.specs.Origins.{origin_of, longest_of, modes_of, terms_by}
use Rattle.session_setup.specs.Outcomes.{FitsSession, SetsUp}
use Rattle.lane_session.specs.Bonds.{HasCore, SentSince, TakesEarlier}
use Rattle.lane_session.specs.Endings.{entries_of}
use Rattle.lane_session.specs.Going.{AllTimed, Grows}
use Rattle.lane_session.specs.Running.{mounted_by}
use Rattle.core_counts.proofs.coarse.Along.{writes-were-long}
use Rattle.law_calls.proofs.CallsWait.{xid_of_call}
use Rattle.core_counts.specs.coarse.WereLong.{write_call}
use Rattle.script_runs.specs.declared.stock.Stock.{Stock}
use Rattle.script_runs.specs.LaneRuns.{setup_of}
use Rattle.script_runs.specs.Stock.{nothing_stored, pages_for, setup_with}
use Rattle.nfs_client.specs.Shown.{AllRowed, CallsShown, CountsShown, OksShown, SlotsShown, PutsShown, CompleteShown, FaultsShown, KeptShown, RestShown, StableShown, HonestShown, RunShows, RunShowsOver, NoneUnderWay}
use Rattle.nfs_client.proofs.AllAsked.{goes-from, only-sets-up}
use Rattle.nfs_client.proofs.AllOks.{all-oks}
use Rattle.nfs_client.proofs.Causes.{all-caused}
use Rattle.nfs_client.proofs.Ports.{ready-ports}
use Rattle.nfs_client.proofs.Spent.{ended-sent}
use Rattle.page_cache.specs.Pages.{nothing_kept}

-- ---- the root

-- The root of the set-up was known as each operation began, since none began in the set-up.
module _ (s : Settings) (first : ℕ) (v : SetUp) (before : List Entry) (so : SetsUp s first (Ok v) before) where
  known-on : (more : List Entry) → KnowsRoot (origin_of s.export) (before ++ more) v.root
  known-on more x lane line op at = by (cases_lt x (length before))
    where
      by : (x < length before) ⊎ (length before ≤ x) → Rooted (origin_of s.export) (before ++ more) x v.root
      by (inl early) = absurd (so.unmarked.began x lane line op (At-back before more x (Began lane line op) at early))
      by (inr late) =
          Rooted-wide (origin_of s.export) (before ++ more) (length before) x v.root late (Rooted-grow (origin_of s.export) before more (length before) v.root so.ends.rooted)

  root-known : (h : List Entry) → Grows before h → KnowsRoot (origin_of s.export) h v.root
  root-known h g = subst (λ (k : List Entry). KnowsRoot (origin_of s.export) k v.root) (sym g.1) (known-on g.0)

-- each put has a name
puts-named : (h : List Entry) → AreAsked h → PutsNamed h
puts-named h asked x lane line offset path bytes at = (asked x lane line (ops.Put path offset bytes) at).0

-- ---- what a core shows

-- no page was kept from the start
pub none-given : (t : History) → GivenTrue nothing_kept t
none-given t = All-nil _

reached-may : (machine : ℕ → Op → Machine) (setup : Setup) (h : List Entry) (v : View) → Reaches machine setup h v → MaySetUp setup
reached-may machine setup _ _ (begins h v may up fresh) = may
reached-may machine setup _ _ (goes h before v b e r is t) = reached-may machine setup before b r
reached-may machine setup _ _ (loses h v b r shown is) = reached-may machine setup h b r

-- where none waits by its xid there is none
no-calls : (xs : List (ℕ × Waiting Purpose)) → ((xid : ℕ) (w : Waiting Purpose) → waiting_at xid xs ≡ Some w → ⊥) → WereSent xs
no-calls [] none = λ k d lt. absurd (omega (arith, lt))
no-calls (e ∷ xs) none = absurd (none e.0 e.1 (ap (λ (b : Bool). cond b (Some e.1) (waiting_at e.0 xs)) (eq-eqb e.0 e.0 refl)))

module _ (m : Mounted) (setup : Setup) (h : List Entry) (core : View) (r : Reaches (machine_of m) setup h core) where
  goes-with : (terms : Terms) → m.nocto ≡ terms.modes.nocto → GoesWith m terms setup h core
  goes-with terms nocto = record { nocto = nocto; reaches = r }

  kept-shown : (terms : Terms) → m.nocto ≡ terms.modes.nocto → KnowsRoot terms.origin h m.root → PutsNamed h → KeptShown terms setup h core
  kept-shown terms nocto root named = record {
    pages = pages-shown m setup h core r;
    pending = pending-written m terms setup h core (goes-with terms nocto);
    held_back = λ found told. pending-held m terms setup h core (goes-with terms nocto) found root named told;
    carried = pieces-carried m setup h core r;
    flying = writes-whole m setup h core r;
    commits = commits-alone m setup h core r;
    saved = puts-written m setup h core r;
  }

  slots-shown : (terms : Terms) → m.nocto ≡ terms.modes.nocto → SlotsShown setup.pages terms h
  slots-shown terms nocto =
      let g : GoesWith m terms setup h core = goes-with terms nocto in
      record {
        reads = reads-given m terms setup h core g;
        held = slots-hold-opens m terms setup h core g;
        places = places-exact m terms setup h core g;
        caused = places-caused m terms setup h core g;
      }

  puts-refused : (terms : Terms) → KnowsRoot terms.origin h m.root → AreAsked h → PutsShown terms h
  puts-refused terms root asked = record {
    rules = λ lane x path offset bytes y n ended. put-rules-shown m setup h core r lane x path offset bytes y n (named asked lane x path offset bytes ended.line ended.began) ended;
    faults = λ lane x path offset bytes y fault ended. put-faults-few m setup h core r lane x path offset bytes y fault (named asked lane x path offset bytes ended.line ended.began) ended;
    alone = λ lane x path offset bytes y fault alone ended.
        lone-refusals m setup h core r terms root lane x path offset bytes y fault (named asked lane x path offset bytes ended.line ended.began) alone ended;
  }
    where
      named : AreAsked h → (lane x : ℕ) (path : List (List ℕ)) (offset : ℕ) (bytes : List ℕ) (line : ℕ) → At h x (Began lane line (ops.Put path offset bytes)) → IsNamed path
      named asked lane x path offset bytes line began = (asked x lane line (ops.Put path offset bytes) began).0

  rest-shown : RestShown core
  rest-shown = record { waits = lanes-wait m setup h core r; answered = none-unanswered m setup h core r }

  module _ (before : List Entry) (since : SentSince before h) where
    -- what was sent before any operation began was sent in the set-up
    or-set-up : {A : Type 0} → (i : ℕ) (bytes : List ℕ) → At h i (Sent bytes) → NoneBegan h i ⊎ A → (i < length before) ⊎ A
    or-set-up i bytes at (inr made) = inr made
    or-set-up i bytes at (inl none) = elim (since i bytes at) [
      | inl early ↦ inl early
      | inr begun ↦ absurd (none begun.at begun.lane begun.line begun.op begun.began begun.before)
    ]

    calls-shown : (terms : Terms) → setup.cred ≡ terms.cred → KnowsRoot terms.origin h m.root → CallsAsked terms h → CallsShown terms setup before h
    calls-shown terms cred root asked = record {
      asked = asked;
      numbered = (reached-rows (machine_of m) setup h core r).numbered;
      among = λ i xid bytes at has. or-set-up i bytes at (xids-kept m setup h core r i xid bytes at has);
      lone_puts = λ i bytes at. or-set-up i bytes at (subst (λ (c : Cred). NoneBegan h i ⊎ IsMadeAlone terms c h i bytes) cred (lone-puts-ask m setup h core r terms root i bytes at));
    }

    -- where no operation is under way, no call waits
    none-wait : NoneUnderWay h → core.lost ≡ false → (xid : ℕ) (w : Waiting Purpose) → waiting_at xid core.calls.calls ≡ Some w → ⊥
    none-wait none found xid w waits =
        let own = (reached-owned (machine_of m) (begins-unbegun m) setup h core r found).owned xid w waits in
        none w.purpose.lane own.x own.op own.under_way

    -- as many calls as may be, once each that waits was sent
    calls-sent : (terms : Terms) → CallsShown terms setup before h → ((xid : ℕ) → terms.first ≤ xid → xid < setup.first_xid → WasSent h xid (length h))
        → setup.first_xid + setup.limit ≡ terms.first + terms.calls
        → (lane x : ℕ) (op : Op) (y : ℕ) → Ended h lane x op y (Refused Spent) → WereSent core.calls.calls → calls_in h ≡ terms.calls
    calls-sent terms shown early total lane x op y ended were =
        calls-are-all h terms.first terms.calls shown.asked.among (λ xid low high. elim (cases_lt xid setup.first_xid) [
          | inl set_up ↦ early xid low set_up
          | inr own ↦ all-sent m setup h core r lane x op y ended were xid own (omega (arith, high, total))
        ])

    faults-shown : (terms : Terms) → CallsShown terms setup before h → ((xid : ℕ) → terms.first ≤ xid → xid < setup.first_xid → WasSent h xid (length h))
        → setup.first_xid + setup.limit ≡ terms.first + terms.calls → AreAsked h → GoesSo m terms setup h core
        → AllRowed terms h → FaultsShown terms setup h core
    faults-shown terms shown early total asked so rows = record {
      refusals = refusals-shown m setup h core r;
      rows = rows;
      own = λ lane x y op fault final ended. refusals-owned m terms setup h core so lane x y op fault (asked x lane ended.line op ended.began) final ended;
      kinds = faults-own m terms setup h core so;
      lost_answers = lost-answers m setup h core r;
      lost = reached-shown (machine_of m) setup h core r;
      all_made = all-made m setup h core r;
      spent = λ lane x op y ended never none.
          let found : core.lost ≡ false = elim core.lost as (λ b. core.lost ≡ b → core.lost ≡ false) [
            | true ↦ λ is. absurd (never (reached-shown (machine_of m) setup h core r is))
            | false ↦ λ is. is
          ] refl in
          calls-sent terms shown early total lane x op y ended (no-calls core.calls.calls (none-wait none found));
    }

-- ---- an honest server

longest-last : (lives : Lives) → LastAtMost lives (longest_of lives)
longest-last lives = record { reg_min = omega arith; reg_max = omega arith; dir_min = omega arith; dir_max = omega arith }

-- The clock is read just before each operation begins, and at each reading one begins.
takes-readings : (s : Settings) (first : ℕ) (v : SetUp) (before h : List Entry) → SetsUp s first (Ok v) before → Grows before h → AllTimed h → TakesEarlier before h
    → TakesReadings h
takes-readings s first v before h so grown timed takes = record {
  read = λ x lane line op at. let t = timed x lane line op at in record { at = t.at; ms = t.ms; read = t.read; before = let next = t.next in omega (arith, next) };
  taken = λ i ms x lane line op at began below. elim (takes i ms x lane line op at began below) [
    | inl early ↦ absurd (so.unmarked.clock i ms (At-back before grown.0 i (Clock ms) (subst (λ (k : List Entry). At k i (Clock ms)) grown.1 at) early))
    | inr b ↦ record { lane = b.lane; line = b.line; op = b.op; began = b.began }
  ];
}

module _ (stock : Stock) (s : Settings) (first : ℕ) (v : SetUp) (t : History) (core : View) (given : GivenTrue (pages_for stock v.root) t) (lawful : Lawful t) (fresh : Fresh t) (takes : TakesReadings t.entries) (root : KnowsRoot (origin_of s.export) t.entries v.root)
    (asked : AreAsked t.entries) (r : Reaches (machine_of (mounted_by s (setup_with stock s v))) (setup_with stock s v) t.entries core) where
  abbrev m : Mounted
  m = mounted_by s (setup_with stock s v)

  goes-honestly : GoesHonestly m (setup_with stock s v) (modes_of s) (origin_of s.export) t core
  goes-honestly = record { lasts = longest-last s.lives; lawful = lawful; fresh = fresh; takes = takes; root = root; reached = r }

  honest-shown : HonestShown s v.root core t
  honest-shown = record {
    stats = stats-led m (setup_with stock s v) (longest_of s.lives) t core (longest-last s.lives) lawful fresh r;
    reads = reads-from m (terms_by s first) (setup_with stock s v) t core (record { nocto = refl; reaches = r }) lawful fresh given;
    recent =
        reads-recent m (terms_by s first) (setup_with stock s v) t core (record { nocto = refl; reaches = r }) refl
        (λ may. record { takes = takes; lasts = longest-last s.lives }) lawful fresh given;
    read_true =
        reads-current m (terms_by s first) (setup_with stock s v) t core (record { nocto = refl; reaches = r }) refl
        (λ may. record { takes = takes; lasts = longest-last s.lives }) root (puts-named t.entries asked) lawful fresh given;
    read_back = λ asks. stable-read m (terms_by s first) (setup_with stock s v) t core (record { nocto = refl; reaches = r }) refl asks lawful fresh given;
    stood = names-stood m (setup_with stock s v) (longest_of s.lives) t core (longest-last s.lives) lawful fresh r;
    pages = pages-true m (setup_with stock s v) t core lawful fresh r given;
    ages = attrs-aged m (setup_with stock s v) (modes_of s) (origin_of s.export) t core (longest-last s.lives) lawful fresh takes root r;
    names = names-held m (setup_with stock s v) (modes_of s) (origin_of s.export) t core goes-honestly;
    lists = lists-whole m (setup_with stock s v) (modes_of s) (origin_of s.export) t core goes-honestly;
  }

-- ---- all

-- ---- stable bytes

module _ (stock : Stock) (s : Settings) (first : ℕ) (v : SetUp) (t : History) (core : View) (given : GivenTrue (pages_for stock v.root) t) (lawful : Lawful t) (once : Once t.entries) (takes : TakesReadings t.entries) (root : KnowsRoot (origin_of s.export) t.entries v.root)
    (only : OnlySetsUp t.entries) (asked : AreAsked t.entries) (notes : Notes (machine_of (mounted_by s (setup_with stock s v))) (setup_with stock s v) t.entries core) where
  abbrev mount : Mounted
  mount = mounted_by s (setup_with stock s v)

  with-core : GoesWith mount (terms_by s first) (setup_with stock s v) t.entries core
  with-core = record { nocto = refl; reaches = notes-reach (machine_of mount) (setup_with stock s v) t.entries core notes }

  briefly : (modes_of s).nocto ≡ true → KeepsBriefly (modes_of s) (setup_with stock s v) t.entries
  briefly may = record { takes = takes; lasts = longest-last s.lives }

  stable-shown : StableShown s t
  stable-shown =
      let named : PutsNamed t.entries = puts-named t.entries asked in
      record {
        lone_puts = lone-puts-stay mount (terms_by s first) (setup_with stock s v) t core with-core root only lawful once;
        synced = synced-stay mount (terms_by s first) (setup_with stock s v) t core with-core root named only lawful once;
        settled = settled-stay mount (terms_by s first) (setup_with stock s v) t core with-core root named only lawful once;
        cuts_stay = cuts-stay mount (terms_by s first) (setup_with stock s v) t core refl notes root named only lawful once;
        reads = λ fresh. record {
          current = reads-current mount (terms_by s first) (setup_with stock s v) t core with-core refl briefly root named lawful fresh given;
          own = own-bytes-read mount (terms_by s first) (setup_with stock s v) t core with-core refl briefly root named only lawful fresh given once;
          cut = cuts-read mount (terms_by s first) (setup_with stock s v) t core refl refl notes briefly root named only lawful fresh given once;
        };
        ends = λ fresh. reads-end-rightly mount (terms_by s first) (setup_with stock s v) t core with-core refl briefly root named only lawful fresh given once;
      }

-- ---- complete sessions

complete-shown : (m : Mounted) (terms : Terms) (setup : Setup) (before : List Entry) (t : History) (core : View) → GoesFrom m terms setup before t.entries core
    → Notes (machine_of m) setup t.entries core → CompleteShown terms t
complete-shown m terms setup before t core from notes =
    let carries : CarriesBytes t.entries = writes-some m terms setup before t.entries core from in
    record { served = served-complete m terms setup before t core from notes carries; completes = sessions-complete m terms setup before t core from notes }

-- ---- a session

module _ (s : Settings) (first : ℕ) (v : SetUp) (before h : List Entry) (so : SetsUp s first (Ok v) before) (fits : FitsSession s first v) (grown : Grows before h) where
  -- what was sent in the set-up was sent
  sent-early : (xid : ℕ) → first ≤ xid → xid < v.next_xid → WasSent h xid (length h)
  sent-early xid low high =
      let next = so.ends.next_is in
      let w = so.ends.each xid low (omega (arith, high, next)) in
      let at : At h w.at (Sent w.bytes) = subst (λ (k : List Entry). At k w.at (Sent w.bytes)) (sym grown.1) (At-grow before grown.0 w.at (Sent w.bytes) w.sent) in
      record { at = w.at; bytes = w.bytes; sent = at; under = w.under; before = At-below h w.at (Sent w.bytes) at }

  -- one that began with a stock of pages
  module _ (stock : Stock) where
    pub shows-over : AllTimed h → AreAsked h → HasCore (mounted_by s (setup_with stock s v)) (setup_with stock s v) before h → Dials s.nfs_port before h
        → RunShowsOver stock s first v before h
    shows-over timed asked has dials =
        let root = root-known s first v before so h grown in
        let takes : TakesReadings h = takes-readings s first v before h so grown timed has.takes in
        let mounted : Mounted = mounted_by s (setup_with stock s v) in
        let reaches : Reaches (machine_of mounted) (setup_with stock s v) h has.core = notes-reach (machine_of mounted) (setup_with stock s v) h has.core has.notes in
        let terms : Terms = terms_by s first in
        let from : GoesFrom mounted terms (setup_with stock s v) before h has.core = goes-from s first v before so fits stock h grown.0 grown.1 asked has in
        let calls : CallsShown terms (setup_with stock s v) before h =
        calls-shown mounted (setup_with stock s v) h has.core reaches before has.since terms refl root (all-asked mounted terms (setup_with stock s v) before h has.core from has.notes) in
        let counts : CountsShown terms h =
        λ script follows. record {
          equal = equal-few mounted terms (setup_with stock s v) before h has.core from has.notes;
          reads = few-reads-made mounted terms (setup_with stock s v) before h has.core from has.notes;
          writes = few-writes-made mounted terms (setup_with stock s v) before h has.core from has.notes;
          commits = few-commits mounted terms (setup_with stock s v) before h has.core from has.notes;
          pages = pages-few mounted terms (setup_with stock s v) before h has.core from has.notes;
          hidden = hidden-few mounted terms (setup_with stock s v) before h has.core from has.notes script follows;
        } in
        let oks : OksShown terms h = all-oks mounted terms (setup_with stock s v) h has.core (record { nocto = refl; reaches = reaches }) root asked in
        let slots : SlotsShown (pages_for stock v.root) terms h = slots-shown mounted (setup_with stock s v) h has.core reaches terms refl in
        let rows : AllRowed terms h = refusals-all-rowed mounted terms (setup_with stock s v) before h has.core from has.notes in
        record {
          has = has;
          calls = calls;
          counts = counts;
          ports = ready-ports stock s first v before h so has dials;
          writes = λ i xid offset how file bytes rec at spells late.
              writes-were-long mounted (setup_with stock s v) h has.core reaches i xid offset how file bytes rec at spells (elim (calls.among i xid rec at (xid_of_call xid (write_call file offset how bytes) rec spells)) [
                | inl early ↦ absurd (omega (arith, early, late))
                | inr among ↦ among.low
              ]);
          oks = oks;
          slots = slots;
          puts = puts-refused mounted (setup_with stock s v) h has.core reaches terms root asked;
          faults = faults-shown mounted (setup_with stock s v) h has.core reaches before has.since terms calls sent-early fits.total asked
              (record { goes = record { nocto = refl; reaches = reaches }; noac = refl; some = (reached-may (machine_of mounted) (setup_with stock s v) h has.core reaches).sizes.read; known = root })
              rows;
          rest = rest-shown mounted (setup_with stock s v) h has.core reaches;
          caused = λ lines status follows ends.
              all-caused (pages_for stock v.root) terms (entries_of lines) status h calls.asked (counts (entries_of lines) follows) oks rows slots has.stays
              (λ lane x y op by_itself ended.
              calls-sent mounted (setup_with stock s v) h has.core reaches before has.since terms calls sent-early fits.total lane x op y ended
              (ended-sent mounted (setup_with stock s v) h has.core reaches lines status ends by_itself));
          evidence = settled-evident mounted terms (setup_with stock s v) h has.core (record { nocto = refl; reaches = reaches }) root (puts-named h asked);
          kept = kept-shown mounted (setup_with stock s v) h has.core reaches terms refl root (puts-named h asked);
          complete = λ t is. complete-shown mounted terms (setup_with stock s v) before t has.core (subst (λ (k : List Entry). GoesFrom mounted terms (setup_with stock s v) before k has.core) (sym is) from)
              (subst (λ (k : List Entry). Notes (machine_of mounted) (setup_with stock s v) k has.core) (sym is) has.notes);
          stable = λ t is lawful once given.
              stable-shown stock s first v t has.core given lawful once (subst TakesReadings (sym is) takes)
              (subst (λ (k : List Entry). KnowsRoot (origin_of s.export) k v.root) (sym is) root)
              (subst OnlySetsUp (sym is) (only-sets-up s first v before so fits h grown.0 grown.1 has.since))
              (subst AreAsked (sym is) asked)
              (subst (λ (k : List Entry). Notes (machine_of mounted) (setup_with stock s v) k has.core) (sym is) has.notes);
          honest = λ t is lawful fresh given.
              honest-shown stock s first v t has.core given lawful fresh
              (subst TakesReadings (sym is) takes)
              (subst (λ (k : List Entry). KnowsRoot (origin_of s.export) k v.root) (sym is) root)
              (subst AreAsked (sym is) asked)
              (subst (λ (k : List Entry). Reaches (machine_of mounted) (setup_with stock s v) k has.core) (sym is) reaches);
        }

  -- one that began without
  pub run-shows : AllTimed h → AreAsked h → HasCore (mounted_by s (setup_of s v)) (setup_of s v) before h → Dials s.nfs_port before h → RunShows s first v before h
  run-shows timed asked has dials =
      let over : RunShowsOver nothing_stored s first v before h = shows-over nothing_stored timed asked has dials in
      let mounted : Mounted = mounted_by s (setup_of s v) in
      let terms : Terms = terms_by s first in
      let from : GoesFrom mounted terms (setup_of s v) before h has.core = goes-from s first v before so fits nothing_stored h grown.0 grown.1 asked has in
      record {
        has = over.has;
        calls = over.calls;
        counts = over.counts;
        ports = over.ports;
        thrift = record {
          reads = reads-long mounted terms (setup_of s v) before h has.core from refl;
          pages = kept-once mounted terms (setup_of s v) before h has.core from refl;
          writes = long-writes mounted terms (setup_of s v) before h has.core from has.notes;
        };
        writes = over.writes;
        oks = over.oks;
        slots = over.slots;
        puts = over.puts;
        faults = over.faults;
        rest = over.rest;
        caused = over.caused;
        evidence = over.evidence;
        kept = over.kept;
        complete = over.complete;
        stable = λ t is lawful once. over.stable t is lawful once (none-given t);
        honest = λ t is lawful fresh. over.honest t is lawful fresh (none-given t);
      }
