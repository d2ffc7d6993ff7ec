-- The core of a session at its end.
use Rattle.std.proofs.Common.{◌≡◌, ◌≤◌, ℕ, List, [], ◌++◌, length, false, Option, Some, None, Result, Ok, Err, refl, sym, ap, subst, ◌∙◌, arith, append-nil}
use Rattle.std.proofs.lemmas.List.{length-append}
use Rattle.std.specs.FinMap as map
use Rattle.std.specs.Prelude.{IfOk}
use Rattle.world_model.specs.declared.entry.Entry.{Entry}
use Rattle.world_model.specs.declared.entry.Entry.TheVariants.{Dialed, Sent, Delivered, Failed}
use Rattle.world_model.specs.declared.tally.Tally.{Tally}
use Rattle.world_model.specs.Counts.{Counted, xids_sent, different, calls_made, tally_of}
use Rattle.world_model.specs.History.{History}
use Rattle.world_model.specs.Lost.{FailedAttempt, FailedDial, Loses, given_up, undialed, dropped, IsLost}
use Rattle.world_model.specs.Rows.{most_dropped}
use Rattle.world_model.specs.Told.{Relates}
use Rattle.world_model.proofs.Growth.{DropRun-grow}
use Rattle.world_model.proofs.Places.{At-grow, At-below, At-back}
use Rattle.nfs_script.specs.declared.script.ScriptLine.{ScriptLine}
use Rattle.session_words.specs.declared.settings.Settings.{Settings}
use Rattle.attr_cache.specs.Attrs.{nothing_learnt}
use Rattle.page_cache.specs.Sound.{IsSound as AreSoundPages}
use Rattle.client_core.specs.declared.setup.Setup.{Setup}
use Rattle.client_core.specs.Fresh.{IsFresh}
use Rattle.client_core.specs.View.{View}
use Rattle.core_facts.specs.Reaches.{MaySetUp}
use Rattle.core_facts.specs.Notes.{notes_fresh}
use Rattle.lane_session.specs.declared.halt.Halt.{Halt}
use Rattle.lane_session.specs.declared.running.Session.{Session}
use Rattle.lane_session.specs.declared.top.End.{End}
use Rattle.lane_session.specs.Bonds.{IsOpened, CanCount, EndsPages, EndsWith, PagesOf}
use Rattle.lane_session.specs.Going.{GoesOn, CutsOff}
use Rattle.lane_session.specs.Losing.{LosesBy, LostLines, no_line, one_line, lost_line}
use Rattle.lane_session.specs.Running.{IsFreshFor}
use Rattle.lane_session.proofs.Bonding.{since-none}
use Rattle.lane_session.proofs.Taking.{takes-none, takes-earlier}
use Rattle.lane_session.proofs.Counted.{xids-append}
use Rattle.lane_session.proofs.LostOnce.{unmarked-stays}
use Rattle.lane_session.proofs.Ending.{fresh-goes}
use Rattle.lane_session.proofs.Passing.{relates_same, relates_less}
use Rattle.lane_session.proofs.Resending.{resends-none}
use Rattle.lane_session.proofs.Reaching.{ends-with, breaks-with, counts-with, notes-with}
use Rattle.lane_session.proofs.Tallying.{tally-by}

-- ---- a session that is lost stays so

module _ (h more : List Entry) where
  attempt-more : (xid at to : ℕ) → FailedAttempt h xid at to → FailedAttempt (h ++ more) xid at to
  attempt-more xid at to a = record {
    bytes = a.bytes;
    failed = a.failed;
    sent = At-grow h more at (Sent a.bytes) a.sent;
    under = a.under;
    is = At-grow h more a.failed Failed a.is;
    after = a.after;
    before = a.before;
  }

  dial-more : (at to : ℕ) → to ≤ length h → FailedDial h at to → FailedDial (h ++ more) at to
  dial-more at to within d = record {
    port = d.port;
    failed = d.failed;
    dialed = At-grow h more at (Dialed d.port) d.dialed;
    is = At-grow h more d.failed Failed d.is;
    after = d.after;
    before = d.before;
    quiet = λ j entry there after before traffic. d.quiet j entry (At-back h more j entry there (omega (arith, before, within))) after before traffic;
  }

  dialed-within : (at to : ℕ) → FailedDial h at to → at ≤ length h
  dialed-within at to d = let below = At-below h at (Dialed d.port) d.dialed in omega (arith, below)

  pub loses-more : (to : ℕ) → to ≤ length h → Loses h to → Loses (h ++ more) to
  loses-more to within (given_up xid a b c d first second third fourth unheard) =
      given_up xid a b c d (attempt-more xid a b first) (attempt-more xid b c second) (attempt-more xid c d third) (attempt-more xid d to fourth)
      (λ j bytes there has after before. unheard j bytes (At-back h more j (Delivered bytes) there (omega (arith, before, within))) has after before)
  loses-more to within (undialed a b c d first second third fourth) =
      undialed a b c d (dial-more a b (dialed-within b c second) first) (dial-more b c (dialed-within c d third) second) (dial-more c d (dialed-within d to fourth) third) (dial-more d to within fourth)
  loses-more to within (dropped run) = dropped (DropRun-grow h more most_dropped to within run)

  lost-more : IsLost h (length h) → IsLost (h ++ more) (length (h ++ more))
  lost-more l = record { to = l.to; by = let long = length-append h more in let by = l.by in omega (arith, by, long); loses = loses-more l.to l.by l.loses }

-- none of its lines sends anything
lines-silent : (which : Counted) (script : List ScriptLine) (es : List Entry) → LostLines script es → xids_sent which es ≡ []
lines-silent which _ _ (no_line script es empty is) = ap (xids_sent which) is
lines-silent which _ _ (one_line script before es more l ms split is rest) = ap (xids_sent which) is ∙ xids-append which more (lost_line l ms) ∙ ap (λ (t : List ℕ). t ++ []) (lines-silent which before more rest)

lost-count : (script : List ScriptLine) (h k es : List Entry) → k ≡ h ++ es → LostLines script es → tally_of k ≡ tally_of h
lost-count script h k es is lines = tally-by h k (λ which. ap (calls_made which) is
    ∙ ap (λ (xs : List ℕ). length (different xs)) (xids-append which h es ∙ ap (λ (t : List ℕ). xids_sent which h ++ t) (lines-silent which script es lines) ∙ append-nil (xids_sent which h)))

lost-by : (label : List ℕ) (script : List ScriptLine) (result : Result (Unit {0}) Halt) (given text : List ℕ) (h k : List Entry) → LosesBy label script result given text h k → IsLost h (length h) → IsLost k (length k)
lost-by label script (Ok u) given text h k l o = subst (λ (t : List Entry). IsLost t (length t)) (sym l.1) (lost-more h l.0 o)
lost-by label script (Err halt) given text h k l o = subst (λ (t : List Entry). IsLost t (length t)) (sym l.3.2) (lost-more h (l.3.0 ++ l.3.1) o)

-- ---- a session that began

module _ (label : List ℕ) (script : List ScriptLine) (settings : Settings) (setup : Setup) (s : Session) (h k : List Entry) (may : MaySetUp setup) (f : IsFreshFor settings setup s) where
  done-with : (t : Session) (given text : List ℕ) → GoesOn label script s t given text h k → IsOpened (Some setup) h → EndsWith settings (Some setup) h k
  done-with t given text g o = ends-with settings setup s t h k may f (g.core [] (length h) (fresh-goes script settings setup s f h o.0.unmarked)) o

  pages-with : (t : Session) (given text : List ℕ) → GoesOn label script s t given text h k → IsOpened (Some setup) h → PagesOf settings (Some setup) (Some t.core.shelf.pages) k
  pages-with t given text g o = (t.core, notes-with settings setup s t h k may f (g.core [] (length h) (fresh-goes script settings setup s f h o.0.unmarked)) o, refl)

  broken-with : (halt : Halt) (given text : List ℕ) → CutsOff label script s halt given text h k → IsOpened (Some setup) h → EndsWith settings (Some setup) h k
  broken-with halt given text g o = breaks-with settings setup s h k may f (g.core [] (length h) (fresh-goes script settings setup s f h o.0.unmarked)) o

-- ---- a session for which there was no memory

first_view : Setup → View
first_view setup = record {
  calls = record { first_xid = setup.first_xid; limit = setup.limit; cred = setup.cred; made = 0; calls = [] };
  shelf = record {
    pages = setup.pages;
    attrs = nothing_learnt setup.lives;
    names = [];
    back = [];
    opens = map.empty;
    silly = map.empty;
    order = [];
    puts = [];
    repeats = [];
    seq = 0;
    counter = 0;
  };
  lanes = [];
  wsize = setup.wsize;
  clock = 0;
  moments = 0;
  begun = 0;
  lost = false;
}

first-fresh : (setup : Setup) → AreSoundPages setup.pages → IsFresh setup (first_view setup)
unfolding first_view
first-fresh setup sound = record {
  calls = refl;
  lanes = refl;
  wsize = refl;
  clock = refl;
  moments = refl;
  begun = refl;
  lost = refl;
  pages = refl;
  sound = sound;
  attrs = refl;
  names = refl;
  back = refl;
  opens = refl;
  silly = refl;
  order = refl;
  puts = refl;
  repeats = refl;
  seq = refl;
  counter = refl;
}

none-with : (settings : Settings) (setup : Setup) (h : List Entry) → MaySetUp setup → AreSoundPages setup.pages → IsOpened (Some setup) h → EndsWith settings (Some setup) h h
none-with settings setup h may sound o = record { core = first_view setup; notes = notes_fresh h (first_view setup) may o.0 (first-fresh setup sound); since = since-none h; takes = takes-earlier h h (takes-none h); stays = unmarked-stays h o.0.unmarked; resends = resends-none h o.0.unbegun }

-- ---- where the link tells its history

-- a session that was cut off has no pages to hand back
no-pages : (settings : Settings) (setup : Option Setup) (k : List Entry) → PagesOf settings setup None k
no-pages settings None k = refl
no-pages settings (Some setup) k = tt

-- nor has one without a set-up
none-pages : (settings : Settings) (result : Result End Halt) (k : List Entry) → IfOk result (λ end. end.pages ≡ None) → EndsPages settings None result k
none-pages settings (Ok end) k none = none
none-pages settings (Err halt) k none = tt

-- a session that was cut off
pub cut-pages : (a b : Option History) (R : List Entry → List Entry → Type 0) (settings : Settings) (setup : Setup) (halt : Halt) → Relates a b R
    → Relates a b (λ h k. IsOpened (Some setup) h → EndsPages settings (Some setup) (Err halt) k)
cut-pages a b R settings setup halt r = relates_less a b R (λ h k. IsOpened (Some setup) h → EndsPages settings (Some setup) (Err halt) k) (λ h k p o. tt) r

-- one that was cut off before it began
pub unbegun-pages : (t : Option History) (settings : Settings) (setup : Setup) (halt : Halt) → Relates t t (λ h k. IsOpened (Some setup) h → EndsPages settings (Some setup) (Err halt) k)
unbegun-pages t settings setup halt = relates_same t (λ h k. IsOpened (Some setup) h → EndsPages settings (Some setup) (Err halt) k) (λ h o. tt)

-- one without a set-up
pub lost-pages : (a b : Option History) (R : List Entry → List Entry → Type 0) (settings : Settings) (result : Result End Halt) → IfOk result (λ end. end.pages ≡ None) → Relates a b R
    → Relates a b (λ h k. IsOpened None h → EndsPages settings None result k)
lost-pages a b R settings result none r = relates_less a b R (λ h k. IsOpened None h → EndsPages settings None result k) (λ h k p o. none-pages settings result k none) r

-- and one that has none to hand back
pub without-pages : (a b : Option History) (R : List Entry → List Entry → Type 0) (settings : Settings) (setup : Option Setup) → Relates a b R
    → Relates a b (λ h k. IsOpened setup h → PagesOf settings setup None k)
without-pages a b R settings setup r = relates_less a b R (λ h k. IsOpened setup h → PagesOf settings setup None k) (λ h k p o. no-pages settings setup k) r

pub told-none : (t : Option History) (settings : Settings) (setup : Setup) → MaySetUp setup → AreSoundPages setup.pages → Relates t t (λ h k. IsOpened (Some setup) h → EndsWith settings (Some setup) h k)
told-none t settings setup may sound = relates_same t (λ h k. IsOpened (Some setup) h → EndsWith settings (Some setup) h k) (λ h o. none-with settings setup h may sound o)

module _ (a b : Option History) (label : List ℕ) (script : List ScriptLine) (given text : List ℕ) where
  pub told-lost : (result : Result (Unit {0}) Halt) → Relates a b (λ h k. LosesBy label script result given text h k) → Relates a b (λ h k. IsLost h (length h) → IsLost k (length k))
  told-lost result p =
      relates_less a b (λ h k. LosesBy label script result given text h k) (λ h k. IsLost h (length h) → IsLost k (length k)) (λ h k l o. lost-by label script result given text h k l o) p

  pub told-lost-counted : (end : End) (tally : Tally) → end.tally ≡ tally → Relates a b (λ h k. LosesBy label script (Ok tt) given text h k)
      → Relates a b (λ h k. CanCount None h → tally ≡ tally_of h → end.tally ≡ tally_of k)
  told-lost-counted end tally same p =
      relates_less a b (λ h k. LosesBy label script (Ok tt) given text h k) (λ h k. CanCount None h → tally ≡ tally_of h → end.tally ≡ tally_of k)
      (λ h k l o is. same ∙ is ∙ sym (lost-count script h k l.0 l.1 l.2)) p

  module _ (settings : Settings) (setup : Setup) (s : Session) (may : MaySetUp setup) (f : IsFreshFor settings setup s) where
    pub told-done : (t : Session) → Relates a b (λ h k. GoesOn label script s t given text h k) → Relates a b (λ h k. IsOpened (Some setup) h → EndsWith settings (Some setup) h k)
    told-done t p =
        relates_less a b (λ h k. GoesOn label script s t given text h k) (λ h k. IsOpened (Some setup) h → EndsWith settings (Some setup) h k)
        (λ h k g o. done-with label script settings setup s h k may f t given text g o) p

    pub told-pages : (t : Session) → Relates a b (λ h k. GoesOn label script s t given text h k)
        → Relates a b (λ h k. IsOpened (Some setup) h → PagesOf settings (Some setup) (Some t.core.shelf.pages) k)
    told-pages t p =
        relates_less a b (λ h k. GoesOn label script s t given text h k) (λ h k. IsOpened (Some setup) h → PagesOf settings (Some setup) (Some t.core.shelf.pages) k)
        (λ h k g o. pages-with label script settings setup s h k may f t given text g o) p

    pub told-counted : (begun : Tally) (t : Session) → s.counts.tally ≡ begun → Relates a b (λ h k. GoesOn label script s t given text h k)
        → Relates a b (λ h k. IsOpened (Some setup) h → begun ≡ tally_of h → t.counts.tally ≡ tally_of k)
    told-counted begun t counts p =
        relates_less a b (λ h k. GoesOn label script s t given text h k) (λ h k. IsOpened (Some setup) h → begun ≡ tally_of h → t.counts.tally ≡ tally_of k)
        (λ h k g o is. counts-with settings setup begun s t h k may f counts (g.core [] (length h) (fresh-goes script settings setup s f h o.0.unmarked)) o is) p

    pub told-broken : (halt : Halt) → Relates a b (λ h k. CutsOff label script s halt given text h k) → Relates a b (λ h k. IsOpened (Some setup) h → EndsWith settings (Some setup) h k)
    told-broken halt p =
        relates_less a b (λ h k. CutsOff label script s halt given text h k) (λ h k. IsOpened (Some setup) h → EndsWith settings (Some setup) h k)
        (λ h k g o. broken-with label script settings setup s h k may f halt given text g o) p
