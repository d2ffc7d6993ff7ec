-- A session is what its set-up and its lines came to.
use Rattle.std.specs.Prelude.{IfSome, if◌then◌else◌}
use Rattle.std.proofs.Common.{inl, inr, ◌≡◌, ◌≢◌, ◌≤◌, ◌+◌, ◌-◌, ◌^◌, ◌∙◌, ℕ, suc, Bool, true, false, List, [], ◌∷◌, ◌++◌, length, All, Option, Some, None, Ok, Err, refl, sym, ap, subst, arith}
use Rattle.std.specs.List.{IsDistinct}
use Rattle.std.proofs.lemmas.List.{append-nil}
use Rattle.std.proofs.lemmas.List.Elements.{All-nil}
use Rattle.page_cache.specs.Pages.{Pages, nothing_kept}
use Rattle.page_cache.specs.Sound.{IsSound}
use Rattle.world_model.specs.declared.answer.Fault.{Fault}
use Rattle.world_model.specs.declared.entry.Entry.{Entry}
use Rattle.world_model.specs.declared.entry.Entry.TheVariants.{Began, Answered, Dialed, Sent, Executed, Foreign, Flushed, Reboot, Delivered, Failed, Clock}
use Rattle.world_model.specs.declared.tally.Tally.{Tally}
use Rattle.world_model.specs.Counts.{tally_of}
use Rattle.world_model.specs.Entries.{ours}
use Rattle.world_model.specs.History.{History}
use Rattle.world_model.specs.Told.{Relates}
use Rattle.link_dials.specs.Dials.{DialsOnly}
use Rattle.nfs_script.specs.declared.script.ScriptLine.{ScriptLine}
use Rattle.nfs_script.specs.Asked.{IsAskedLine}
use Rattle.session_words.specs.declared.settings.Settings.{Settings}
use Rattle.client_core.specs.declared.setup.Setup.{Setup}
use Rattle.core_facts.specs.Reaches.{MaySetUp}
use Rattle.session_setup.specs.declared.opening.SetUp.{SetUp}
use Rattle.session_setup.specs.declared.opening.SetUpFault.{SetUpFault}
use Rattle.session_setup.specs.declared.opening.SetUpFault.TheVariants.{Refused, Lost, Memory}
use Rattle.session_setup.specs.Along.{Along, Extends}
use Rattle.session_setup.specs.Outcomes.{FitsSession, SetsUp}
use Rattle.session_setup.specs.Sendings.{IsUnmarked}
use Rattle.lane_session.specs.Bonds.{IsOpened, CanCount, EndsWith, LosesAll, PagesOf}
use Rattle.lane_session.specs.Losing.{LosesOnly}
use Rattle.lane_session.specs.Sessions.{SessionIs, SessionCounts}
use Rattle.lane_session.specs.Sessions.{IsUnmarked as IsFresh}
use Rattle.lane_session.specs.Statuses.{IsEnding as IsLaneEnding}
use Rattle.lane_session.specs.Streams.{Passes}
use Rattle.lane_session.specs.Streams.{Appends as LaneAppends, ReadsAll as LaneReadsAll}
use Rattle.lane_session.proofs.Passing.{relates_less, relates_same, relates_then}
use Rattle.script_runs.specs.LaneRuns.{LeavesOver, NoCore, SetUpAndRun, ready, lost, refused, unready, SessionFrom, no_lines, some_lines, IsEnding}
use Rattle.script_runs.specs.declared.stock.Stock.{Stock}
use Rattle.script_runs.specs.Stock.{HandsBack, is_root, pages_for, setup_over, setup_with}
use Rattle.script_runs.specs.Ends.{TellsMount}
use Rattle.script_runs.specs.Readings.{ReadsAll, ReadsOnce, Reads}
use Rattle.script_runs.specs.Run.{IsFirst, Says}
use Rattle.script_runs.specs.Streams.{Appends}
use Rattle.script_runs.proofs.Readings.{reads_none, reads_more}
use Rattle.script_runs.proofs.StreamLaws.{appends_none}

-- ---- the same facts in the words of the two crates

appended : (a b : Option (List ℕ)) (text : List ℕ) → LaneAppends a b text → Appends a b text
appended None b text h = tt
appended (Some x) None text h = absurd h
appended (Some x) (Some y) text h = h

read_all : (a b : Option (List ℕ)) (given : List ℕ) → LaneReadsAll a b given → ReadsAll a b given
read_all None b given h = h
read_all (Some x) None given h = tt
read_all (Some x) (Some y) given h = h

pub fewer : (e : Entry) (h : List Entry) → IsUnmarked (e ∷ h) → IsUnmarked h
fewer e h u = record {
  began = λ i lane line op a. u.began (suc i) lane line op a;
  answered = λ i lane line answer a. u.answered (suc i) lane line answer a;
  clock = λ i ms a. u.clock (suc i) ms a;
}

pub fresh : (h : List Entry) → IsUnmarked h → IsFresh h
fresh [] u lane = refl
fresh (Began l line op ∷ h) u lane = absurd (u.began 0 l line op refl)
fresh (Answered l line answer ∷ h) u lane = absurd (u.answered 0 l line answer refl)
fresh (Clock ms ∷ h) u lane = fresh h (fewer (Clock ms) h u) lane
fresh (Dialed port ∷ h) u lane = fresh h (fewer (Dialed port) h u) lane
fresh (Sent bytes ∷ h) u lane = fresh h (fewer (Sent bytes) h u) lane
fresh (Executed xid call reply ∷ h) u lane = fresh h (fewer (Executed xid call reply) h u) lane
fresh (Foreign call reply ∷ h) u lane = fresh h (fewer (Foreign call reply) h u) lane
fresh (Flushed file start count ∷ h) u lane = fresh h (fewer (Flushed file start count) h u) lane
fresh (Reboot verf ∷ h) u lane = fresh h (fewer (Reboot verf) h u) lane
fresh (Delivered bytes ∷ h) u lane = fresh h (fewer (Delivered bytes) h u) lane
fresh (Failed ∷ h) u lane = fresh h (fewer Failed h u) lane

-- where the client has no entry of its own, nothing is marked
pub not_marked : (h : List Entry) → ours h ≡ [] → IsFresh h
not_marked [] e lane = refl
not_marked (Executed xid call reply ∷ h) e lane = not_marked h e lane
not_marked (Foreign call reply ∷ h) e lane = not_marked h e lane
not_marked (Flushed file start count ∷ h) e lane = not_marked h e lane
not_marked (Reboot verf ∷ h) e lane = not_marked h e lane
not_marked (Began l line op ∷ h) e lane = absurd cc
not_marked (Answered l line answer ∷ h) e lane = absurd cc
not_marked (Clock ms ∷ h) e lane = absurd cc
not_marked (Dialed port ∷ h) e lane = absurd cc
not_marked (Sent bytes ∷ h) e lane = absurd cc
not_marked (Delivered bytes ∷ h) e lane = absurd cc
not_marked (Failed ∷ h) e lane = absurd cc

-- nor is a call counted
none_counted : (h : List Entry) → ours h ≡ [] → tally_of h ≡ tally_of []
none_counted [] e = refl
none_counted (Executed xid call reply ∷ h) e = none_counted h e
none_counted (Foreign call reply ∷ h) e = none_counted h e
none_counted (Flushed file start count ∷ h) e = none_counted h e
none_counted (Reboot verf ∷ h) e = none_counted h e
none_counted (Began l line op ∷ h) e = absurd cc
none_counted (Answered l line answer ∷ h) e = absurd cc
none_counted (Clock ms ∷ h) e = absurd cc
none_counted (Dialed port ∷ h) e = absurd cc
none_counted (Sent bytes ∷ h) e = absurd cc
none_counted (Delivered bytes ∷ h) e = absurd cc
none_counted (Failed ∷ h) e = absurd cc

first_in : (wanted : Option ℕ) (ms first : ℕ) (given : List ℕ) → IsFirst (ms ∷ []) wanted first → IsFirst (ms ∷ given) wanted first
first_in None ms first given e = e
first_in (Some xid) ms first given e = e

pub lane_ending : (status : ℕ) → IsLaneEnding status → IsEnding status
lane_ending status (inl a) = inl a
lane_ending status (inr (inl a)) = inr (inl a)
lane_ending status (inr (inr (inl a))) = inr (inr (inl a))
lane_ending status (inr (inr (inr a))) = inr (inr (inr (inr a)))

-- what the set-up gives fits the core
pub may_set_up : (s : Settings) (first : ℕ) (v : SetUp) (setup : Setup) → 1 ≤ first → first + s.calls ≤ 2 ^ 32 - 1 → FitsSession s first v
    → setup.first_xid ≡ v.next_xid → setup.limit ≡ v.left → setup.rsize ≡ v.rsize → setup.wsize ≡ v.wsize → MaySetUp setup
may_set_up s first v setup one most f a b c d = record {
  first = omega (arith, a, one, f.starts);
  last = omega (arith, a, b, f.total, most);
  sizes = record {
    read = omega (arith, c, f.read);
    most_read = omega (arith, c, f.most_read);
    pages = λ more. let p = f.pages (omega (arith, c, more)) in (p.0, c ∙ p.1);
    write = omega (arith, d, f.write);
    most_write = omega (arith, d, f.most_write);
  };
}

-- no page is kept
pub nothing-sound : IsSound nothing_kept
unfolding IsDistinct
nothing-sound = record { fits = All-nil _; few = omega arith; apart = tt; known = All-nil _ }

-- what a session begins with is sound, since the stock is
pub begins-sound : (stock : Stock) (root : List ℕ) → IsSound stock.pages → IsSound (pages_for stock root)
begins-sound stock root sound = by (is_root stock.root root)
  where
    by : (own : Bool) → IsSound (if own then stock.pages else nothing_kept)
    by true = sound
    by false = nothing-sound

-- ---- what a session says, once its set-up came to something

abbrev LaneSays : (v w a b : Option (List ℕ)) (old new : Option History) (s : Settings) (lines : List ScriptLine) (setup : Option Setup) (before : Tally) (status : ℕ) → Type 0
LaneSays v w a b old new s lines setup before status =
    Passes a b old new v w (λ given text h k. IsFresh h → SessionCounts (CanCount setup h) before s.count lines given h k status text)

abbrev RunSays : (stock : Stock) (v w a b : Option (List ℕ)) (old new : Option History) (s : Settings) (lines : List ScriptLine) (status : ℕ) → Type 0
RunSays stock v w a b old new s lines status = Says v w (λ text. Reads a b (λ given. Relates old new (λ before h. ours before ≡ [] → SessionFrom (LeavesOver stock) s lines given before h status text)))

abbrev EarlySays : (v w a b : Option (List ℕ)) (old new : Option History) (s : Settings) (lines : List ScriptLine) (fault : SetUpFault) (status : ℕ) → Type 0
EarlySays v w a b old new s lines fault status =
    Says v w (λ text. Reads a b (λ given. Relates old new (λ before h. (first : ℕ) → SetsUp s first (Err fault) before → SetUpAndRun NoCore s lines first given h status text)))

-- what the set-up leaves, as the core asks for it
opened : (stock : Stock) (s : Settings) (first : ℕ) (v : SetUp) (h : List Entry) → SetsUp s first (Ok v) h → IsOpened (Some (setup_with stock s v)) h
opened stock s first v h so = (
  record {
    unmarked = fresh h so.unmarked;
    unbegun = so.unmarked.began;
    numbered = record { equal = so.sent.equal; unrepeated = so.sent.unrepeated };
    below = λ i xid bytes sent has. let among = so.sent.among i xid bytes sent has in let next = so.ends.next_is in omega (arith, among.1, next);
  },
  so.ends.idle,
)

lost_opened : (s : Settings) (first : ℕ) (tally : Tally) (h : List Entry) → SetsUp s first (Err (Lost tally)) h → IsOpened None h
lost_opened s first tally h so = record { to = length h; by = omega arith; loses = so.ends.loses }

-- what a session says of the core, where it was opened so
abbrev CoreSays : (old new : Option History) (s : Settings) (setup : Option Setup) → Type 0
CoreSays old new s setup = Relates old new (λ h k. IsOpened setup h → EndsWith s setup h k)

lost_told : (old new : Option History) (s : Settings) (lines : List ScriptLine) (tally : Tally) (given text : List ℕ) (status : ℕ)
    → Relates old new (λ h k. IsFresh h → SessionCounts (CanCount None h) tally s.count lines given h k status text) → CoreSays old new s None → Relates old new (LosesAll None lines)
    → Relates old new (λ before h. (first : ℕ) → SetsUp s first (Err (Lost tally)) before → SetUpAndRun NoCore s lines first given h status text)
lost_told None new s lines tally given text status r core only = tt
lost_told (Some x) None s lines tally given text status r core only = absurd r
lost_told (Some x) (Some y) s lines tally given text status r core only = λ first so.
    let session = r (fresh x.entries so.unmarked) in
    let open_ = lost_opened s first tally x.entries so in
    lost tally x.entries so session.is only (core open_) (session.counted tt so.ends.counts)

-- the session was lost in its set-up
pub lost_says : (v w a b : Option (List ℕ)) (old new : Option History) (s : Settings) (lines : List ScriptLine) (tally : Tally) (status : ℕ)
    → LaneSays v w a b old new s lines None tally status → CoreSays old new s None → Relates old new (LosesAll None lines) → EarlySays v w a b old new s lines (Lost tally) status
lost_says v w a b old new s lines tally status p core only = record {
  text = p.text;
  added = appended v w p.text p.added;
  is = (p.given, read_all a b p.given p.read, lost_told old new s lines tally p.given p.text status p.told core only);
}

refused_told : (old : Option History) (s : Settings) (lines : List ScriptLine) (fault : Fault) (status : ℕ) (text : List ℕ) → TellsMount fault status text
    → Relates old old (λ before h. (first : ℕ) → SetsUp s first (Err (Refused fault)) before → SetUpAndRun NoCore s lines first [] h status text)
refused_told None s lines fault status text t = tt
refused_told (Some x) s lines fault status text t = λ first so. refused fault refl so t

-- the mount was refused
pub refused_says : (v w a : Option (List ℕ)) (old : Option History) (s : Settings) (lines : List ScriptLine) (fault : Fault) (status : ℕ)
    → Says v w (TellsMount fault status) → EarlySays v w a a old old s lines (Refused fault) status
refused_says v w a old s lines fault status said = record {
  text = said.text;
  added = said.added;
  is = ([], reads_none a, refused_told old s lines fault status said.text said.is);
}

unready_told : (old : Option History) (s : Settings) (lines : List ScriptLine) (status : ℕ) → status ≡ 7
    → Relates old old (λ before h. (first : ℕ) → SetsUp s first (Err Memory) before → SetUpAndRun NoCore s lines first [] h status [])
unready_told None s lines status seven = tt
unready_told (Some x) s lines status seven = λ first so. unready refl so seven refl

-- memory ran out in the set-up
pub unready_says : (v a : Option (List ℕ)) (old : Option History) (s : Settings) (lines : List ScriptLine) (status : ℕ) → status ≡ 7 → EarlySays v v a a old old s lines Memory status
unready_says v a old s lines status seven = record { text = []; added = appends_none v; is = ([], reads_none a, unready_told old s lines status seven) }

-- ---- what the whole says

-- a session that was not set up left no core behind
no_core : (stock : Stock) (s : Settings) (lines : List ScriptLine) (first : ℕ) (given : List ℕ) (h : List Entry) (status : ℕ) (text : List ℕ) → SetUpAndRun NoCore s lines first given h status text
    → SetUpAndRun (LeavesOver stock) s lines first given h status text
no_core stock s lines first given h status text (ready v before so is none says) = absurd none
no_core stock s lines first given h status text (lost tally before so is only lost_ says) = lost tally before so is only lost_ says
no_core stock s lines first given h status text (refused fault none so says) = refused fault none so says
no_core stock s lines first given h status text (unready none so seven says) = unready none so seven says

pub not_empty : (lines : List ScriptLine) → (length lines ≡ 0 → ⊥) → lines ≢ []
not_empty lines some none = some (ap length none)

early_told : (stock : Stock) (old mid new : Option History) (s : Settings) (lines : List ScriptLine) (fault : SetUpFault) (first ms : ℕ) (given text : List ℕ) (status : ℕ) → lines ≢ [] → IsFirst (ms ∷ []) s.xid first
    → Along old mid (λ h k. ours h ≡ [] → SetsUp s first (Err fault) k)
    → Relates mid new (λ before h. (first : ℕ) → SetsUp s first (Err fault) before → SetUpAndRun NoCore s lines first given h status text)
    → Relates old new (λ before h. ours before ≡ [] → SessionFrom (LeavesOver stock) s lines (ms ∷ given) before h status text)
early_told stock None mid new s lines fault first ms given text status some is up r = tt
early_told stock (Some x) None new s lines fault first ms given text status some is up r = absurd up
early_told stock (Some x) (Some y) None s lines fault first ms given text status some is up r = absurd r
early_told stock (Some x) (Some y) (Some z) s lines fault first ms given text status some is up r = λ e. some_lines some ms first given refl (first_in s.xid ms first given is) (no_core stock s lines first given z.entries status text (r first (up.1 e)))

pub early_says : (stock : Stock) (v w a b c : Option (List ℕ)) (old mid new : Option History) (s : Settings) (lines : List ScriptLine) (fault : SetUpFault) (first status : ℕ) → lines ≢ []
    → ReadsOnce a b (λ ms. IsFirst (ms ∷ []) s.xid first) → Along old mid (λ h k. ours h ≡ [] → SetsUp s first (Err fault) k) → EarlySays v w b c mid new s lines fault status
    → RunSays stock v w a c old new s lines status
early_says stock v w a b c old mid new s lines fault first status some one up said = record {
  text = said.text;
  added = said.added;
  is = (one.0 ∷ said.is.0, reads_more a b c one.0 said.is.0 one.1 said.is.1, early_told stock old mid new s lines fault first one.0 said.is.0 said.text status some one.2 up said.is.2);
}

ready_told : (stock : Stock) (old mid new : Option History) (s : Settings) (lines : List ScriptLine) (v : SetUp) (first ms : ℕ) (given text : List ℕ) (status : ℕ) → lines ≢ [] → All IsAskedLine lines → FitsSession s first v
    → IsFirst (ms ∷ []) s.xid first → Along old mid (λ h k. ours h ≡ [] → SetsUp s first (Ok v) k)
    → Relates mid new (λ h k. IsFresh h → SessionCounts (IsOpened (Some (setup_with stock s v)) h) v.tally s.count lines given h k status text)
    → CoreSays mid new s (Some (setup_with stock s v)) → DialsOnly s.nfs_port mid new
    → Relates old new (λ before h. ours before ≡ [] → SessionFrom (LeavesOver stock) s lines (ms ∷ given) before h status text)
ready_told stock None mid new s lines v first ms given text status some asked fits is up r core dials = tt
ready_told stock (Some x) None new s lines v first ms given text status some asked fits is up r core dials = absurd up
ready_told stock (Some x) (Some y) None s lines v first ms given text status some asked fits is up r core dials = absurd r
ready_told stock (Some x) (Some y) (Some z) s lines v first ms given text status some asked fits is up r core dials = λ e.
    let so = up.1 e in
    let session = r (fresh y.entries so.unmarked) in
    let open_ = opened stock s first v y.entries so in
    some_lines some ms first given refl (first_in s.xid ms first given is)
    (ready v y.entries so session.is (record { fits = fits; asked = asked; core = core open_; dials = dials }) (session.counted open_ so.ends.tally))

-- the session was set up, and its lines were run
pub ready_says : (stock : Stock) (v w a b c : Option (List ℕ)) (old mid new : Option History) (s : Settings) (lines : List ScriptLine) (up : SetUp) (first status : ℕ) → lines ≢ []
    → All IsAskedLine lines → FitsSession s first up → ReadsOnce a b (λ ms. IsFirst (ms ∷ []) s.xid first) → Along old mid (λ h k. ours h ≡ [] → SetsUp s first (Ok up) k) → LaneSays v w b c mid new s lines (Some (setup_with stock s up)) up.tally status
    → CoreSays mid new s (Some (setup_with stock s up)) → DialsOnly s.nfs_port mid new → RunSays stock v w a c old new s lines status
ready_says stock v w a b c old mid new s lines up first status some asked fits one along p core dials = record {
  text = p.text;
  added = appended v w p.text p.added;
  is = (one.0 ∷ p.given, reads_more a b c one.0 p.given one.1 (read_all b c p.given p.read), ready_told stock old mid new s lines up first one.0 p.given p.text status some asked fits one.2 along p.told core dials);
}

none_left : (lines : List ScriptLine) → length lines ≡ 0 → lines ≡ []
none_left [] e = refl
none_left (line ∷ lines) e = absurd (omega (arith, e))

empty_told : (stock : Stock) (old new : Option History) (s : Settings) (lines : List ScriptLine) (before : Tally) (given text : List ℕ) (status : ℕ) → lines ≡ [] → before ≡ tally_of []
    → Relates old new (λ h k. IsFresh h → SessionCounts (CanCount None h) before s.count lines given h k status text) → Relates old new (LosesAll None lines)
    → Relates old new (λ before h. ours before ≡ [] → SessionFrom (LeavesOver stock) s lines given before h status text)
empty_told stock None new s lines before given text status none none_made r only = tt
empty_told stock (Some x) None s lines before given text status none none_made r only = absurd r
empty_told stock (Some x) (Some y) s lines before given text status none none_made r only = λ e.
    let counts = r (not_marked x.entries e) in
    let added : LosesOnly lines x.entries y.entries = only in
    let still : y.entries ≡ x.entries = added.is ∙ ap (λ (z : List Entry). x.entries ++ z) (added.none none) ∙ append-nil x.entries in
    no_lines none still (subst (λ (z : List ScriptLine). SessionIs s.count z given x.entries y.entries status text) none counts.is)
    (counts.counted tt (none_made ∙ sym (none_counted x.entries e)))

-- there are no lines
pub empty_says : (stock : Stock) (v w a b : Option (List ℕ)) (old new : Option History) (s : Settings) (lines : List ScriptLine) (before : Tally) (status : ℕ) → length lines ≡ 0 → before ≡ tally_of []
    → LaneSays v w a b old new s lines None before status → Relates old new (LosesAll None lines) → RunSays stock v w a b old new s lines status
empty_says stock v w a b old new s lines before status none none_made p only = record {
  text = p.text;
  added = appended v w p.text p.added;
  is = (p.given, read_all a b p.given p.read, empty_told stock old new s lines before p.given p.text status (none_left lines none) none_made p.told only);
}

-- ---- pages that are handed back

-- the session was set up, and pages came back
ready_back : (stock : Stock) (s : Settings) (v : SetUp) (first : ℕ) (back : Stock) (h k : List Entry) → SetsUp s first (Ok v) h → PagesOf s (Some (setup_with stock s v)) (Some back.pages) k × (back.root ≡ Some v.root)
    → HandsBack stock s back k
ready_back stock s v first back h k so b =
    record { first = first; up = v; before = h; sets_up = so; core = b.0.0; notes = b.0.1; pages = b.0.2; root = b.1 }

pub ready_pages : (old mid new : Option History) (stock : Stock) (s : Settings) (v : SetUp) (first : ℕ) (result : Option Stock) → Along old mid (λ h k. ours h ≡ [] → SetsUp s first (Ok v) k)
    → Relates mid new (λ h k. IsOpened (Some (setup_with stock s v)) h → IfSome result (λ back. PagesOf s (Some (setup_with stock s v)) (Some back.pages) k × (back.root ≡ Some v.root)))
    → Relates old new (λ before h. ours before ≡ [] → IfSome result (λ back. HandsBack stock s back h))
ready_pages None mid new stock s v first result up r = tt
ready_pages (Some x) None new stock s v first result up r = absurd up
ready_pages (Some x) (Some y) None stock s v first result up r = absurd r
ready_pages (Some x) (Some y) (Some z) stock s v first None up r = λ e. tt
ready_pages (Some x) (Some y) (Some z) stock s v first (Some back) up r = λ e.
    let so = up.1 e in
    ready_back stock s v first back y.entries z.entries so (r (opened stock s first v y.entries so))

-- of a session that was set up, what comes back is of its root
hands : (a b : Option History) (s : Settings) (setup : Setup) (root : List ℕ) (pages : Option Pages) (result : Option Stock) → IfSome result (λ back. (pages ≡ Some back.pages) × (back.root ≡ Some root))
    → Relates a b (λ h k. IsOpened (Some setup) h → PagesOf s (Some setup) pages k)
    → Relates a b (λ h k. IsOpened (Some setup) h → IfSome result (λ back. PagesOf s (Some setup) (Some back.pages) k × (back.root ≡ Some root)))
hands a b s setup root pages None none r =
    relates_less a b (λ h k. IsOpened (Some setup) h → PagesOf s (Some setup) pages k) (λ h k. IsOpened (Some setup) h → Unit {0}) (λ h k p o. tt) r
hands a b s setup root pages (Some back) some r =
    relates_less a b (λ h k. IsOpened (Some setup) h → PagesOf s (Some setup) pages k) (λ h k. IsOpened (Some setup) h → PagesOf s (Some setup) (Some back.pages) k × (back.root ≡ Some root))
    (λ h k p o. (subst (λ (q : Option Pages). PagesOf s (Some setup) q k) some.0 (p o), some.1)) r

-- these are the pages with which it began
pub hands-with : (a b : Option History) (s : Settings) (stock : Stock) (v : SetUp) (began : Pages) (pages : Option Pages) (result : Option Stock) → began ≡ pages_for stock v.root
    → IfSome result (λ back. (pages ≡ Some back.pages) × (back.root ≡ Some v.root))
    → Relates a b (λ h k. IsOpened (Some (setup_over s v began)) h → PagesOf s (Some (setup_over s v began)) pages k)
    → Relates a b (λ h k. IsOpened (Some (setup_with stock s v)) h → IfSome result (λ back. PagesOf s (Some (setup_with stock s v)) (Some back.pages) k × (back.root ≡ Some v.root)))
hands-with a b s stock v began pages result is some r =
    hands a b s (setup_with stock s v) v.root pages result some
    (subst (λ (p : Pages). Relates a b (λ h k. IsOpened (Some (setup_over s v p)) h → PagesOf s (Some (setup_over s v p)) pages k)) is r)

-- of one that was cut off before it began none comes back
pub no_hands : (t : Option History) (s : Settings) (setup : Setup) (root : List ℕ)
    → Relates t t (λ h k. IsOpened (Some setup) h → IfSome None (λ (back : Stock). PagesOf s (Some setup) (Some back.pages) k × (back.root ≡ Some root)))
no_hands t s setup root = relates_same t (λ h k. IsOpened (Some setup) h → Unit {0}) (λ h o. tt)

-- nor where there was no session
abbrev NoneBack : Option History → Option History → Stock → Settings → Type 0
NoneBack old new stock s = Relates old new (λ before h. ours before ≡ [] → IfSome None (λ back. HandsBack stock s back h))

pub none_back : (old : Option History) (stock : Stock) (s : Settings) → NoneBack old old stock s
none_back old stock s = relates_same old (λ before h. ours before ≡ [] → IfSome None (λ back. HandsBack stock s back h)) (λ h e. tt)

-- nor without lines
pub empty_back : (old new : Option History) (stock : Stock) (s : Settings) (lines : List ScriptLine) → Relates old new (LosesAll None lines) → NoneBack old new stock s
empty_back old new stock s lines r = relates_less old new (LosesAll None lines) (λ before h. ours before ≡ [] → IfSome None (λ back. HandsBack stock s back h)) (λ h k l e. tt) r

-- nor where the set-up failed
pub early_back : (old mid new : Option History) (stock : Stock) (v w a b : Option (List ℕ)) (s : Settings) (lines : List ScriptLine) (fault : SetUpFault) (first status : ℕ)
    → Along old mid (λ h k. ours h ≡ [] → SetsUp s first (Err fault) k) → EarlySays v w a b mid new s lines fault status → NoneBack old new stock s
early_back old mid new stock v w a b s lines fault first status up said =
    relates_then old mid new (λ h k. Extends h k × (ours h ≡ [] → SetsUp s first (Err fault) k))
    (λ before h. (n : ℕ) → SetsUp s n (Err fault) before → SetUpAndRun NoCore s lines n said.is.0 h status said.text) (λ before h. ours before ≡ [] → IfSome None (λ back. HandsBack stock s back h))
    (λ h k l p q e. tt) up said.is.2
