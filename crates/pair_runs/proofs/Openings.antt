-- What the set-up of a client leaves, along its side.
use Rattle.std.proofs.Common.{◌≡◌, ◌<◌, ◌≤◌, ◌+◌, ◌-◌, ◌^◌, inl, inr, ℕ, suc, List, [], ◌∷◌, ◌++◌, length, true, false, Option, Some, None, option_map, Result, Ok, Err, refl, sym, ap, subst, ◌∙◌, arith, append-nil}
use Rattle.xdr_codec.specs.declared.blob.Memory.{Memory}
use Rattle.world_model.specs.declared.answer.Fault.{Fault}
use Rattle.world_model.specs.declared.entry.Entry.{Entry}
use Rattle.world_model.specs.declared.tally.Tally.{Tally}
use Rattle.world_model.specs.declared.entry.Entry.TheVariants.{Began, Answered, Dialed, Sent, Executed, Foreign, Flushed, Reboot, Delivered, Failed, Clock}
use Rattle.world_model.specs.Clocked.{clocks}
use Rattle.world_model.specs.Entries.{ours}
use Rattle.link_dials.proofs.Dialing.{same-dials}
use Rattle.nfs_script.specs.declared.script.ScriptLine.{ScriptLine}
use Rattle.outside.specs.Pairs.{PairTold, seen_by, side}
use Rattle.pair_ends.specs.declared.side.Side.{Side}
use Rattle.pair_ends.specs.Ends.{AddsAlone, Spares, number_of}
use Rattle.session_words.specs.declared.settings.Export.TheVariants as exports
use Rattle.session_words.specs.declared.settings.Settings.{Settings}
use Rattle.session_setup.specs.declared.opening.SetUp.{SetUp}
use Rattle.session_setup.specs.declared.opening.SetUpFault.{SetUpFault}
use Rattle.session_setup.specs.declared.opening.SetUpFault.TheVariants as faults
use Rattle.session_setup.specs.Along.{Along, Extends}
use Rattle.session_setup.specs.Outcomes.{FitsSession, SetsUp}
use Rattle.session_setup.specs.Sendings.{IsUnmarked}
use Rattle.client_core.specs.declared.setup.Setup.{Setup}
use Rattle.lane_session.specs.declared.running.Session.{Session}
use Rattle.lane_session.specs.Bonds.{IsOpened as IsSetUp}
use Rattle.lane_session.specs.Labels.{told_by}
use Rattle.lane_session.specs.Running.{IsFreshFor, mounted_by}
use Rattle.lane_session.proofs.Ending.{fresh-goes}
use Rattle.lane_session.proofs.Labels.{told-append}
use Rattle.lane_session.proofs.LostLaws.{untold}
use Rattle.lane_session.proofs.Pushes.{clocks-append}
use Rattle.lane_session.proofs.Reaching.{fresh-bonded}
use Rattle.script_runs.specs.LaneRuns.{setup_of}
use Rattle.script_runs.proofs.LaneRuns.{fewer, fresh, may_set_up}
use Rattle.pair_runs.specs.declared.client.State.{State}
use Rattle.pair_runs.specs.declared.client.State.TheVariants as states
use Rattle.pair_runs.specs.Given.{pair_settings}
use Rattle.pair_runs.specs.PairGoing.{GoesOpen, GoesLost, IsOpened, OpensAt, PairAdds, SetsUpAt, StateGoes}
use Rattle.pair_runs.specs.PairRuns.{ClientRan, unready, PairRelates}
use Rattle.pair_runs.specs.Texts.{label_at, pair_transcript, pair_clocks}
use Rattle.pair_runs.proofs.Adding.{side-grown, turn-adds}
use Rattle.pair_runs.proofs.Passages.{AtEnd, at-end, both-less}

-- ---- the set-up

abbrev SetUpSo : ℕ → Settings → Result SetUp SetUpFault → List Entry → List Entry → Type 0
SetUpSo first s result h k = Extends h k × (ours h ≡ [] → SetsUp s first result k)

set-up-at : (end first : ℕ) (s : Settings) (result : Result SetUp SetUpFault) (t0 t1 : Option PairTold) → s ≡ pair_settings → Spares end t0 t1
    → Along (option_map (side end) t0) (option_map (side end) t1) (λ h k. ours h ≡ [] → SetsUp s first result k) → PairRelates t0 t1 (SetsUpAt end first result)
set-up-at end first s result t0 t1 is alone along =
    both-less t0 t1 (AtEnd end (SetUpSo first s result)) (SetsUpAt end first result)
    (λ h k x. record { alone = x.0; set_up = λ none. subst (λ (t : Settings). SetsUp t first result (seen_by end k.steps)) is (x.1.1 none) })
    (at-end end t0 t1 (SetUpSo first s result) alone along)

-- the same where the end's side is known to stay
pub set-up-of-end : (old new : Side) (first : ℕ) (s : Settings) (result : Result SetUp SetUpFault) (t0 t1 : Option PairTold) → new ≡ old → s ≡ pair_settings → Spares (number_of old) t0 t1
    → Along (option_map (side (number_of old)) t0) (option_map (side (number_of new)) t1) (λ h k. ours h ≡ [] → SetsUp s first result k) → PairRelates t0 t1 (SetsUpAt (number_of old) first result)
set-up-of-end old new first s result t0 t1 same is alone along =
    set-up-at (number_of old) first s result t0 t1 is alone
    (subst (λ (e : Side). Along (option_map (side (number_of old)) t0) (option_map (side (number_of e)) t1) (λ h k. ours h ≡ [] → SetsUp s first result k)) same along)

-- ---- nothing was noted

no-clocks : (h : List Entry) → IsUnmarked h → clocks h ≡ []
no-clocks [] u = refl
no-clocks (Clock ms ∷ h) u = absurd (u.clock 0 ms refl)
no-clocks (Began lane line op ∷ h) u = no-clocks h (fewer (Began lane line op) h u)
no-clocks (Answered lane line answer ∷ h) u = no-clocks h (fewer (Answered lane line answer) h u)
no-clocks (Dialed port ∷ h) u = no-clocks h (fewer (Dialed port) h u)
no-clocks (Sent bytes ∷ h) u = no-clocks h (fewer (Sent bytes) h u)
no-clocks (Executed xid call reply ∷ h) u = no-clocks h (fewer (Executed xid call reply) h u)
no-clocks (Foreign call reply ∷ h) u = no-clocks h (fewer (Foreign call reply) h u)
no-clocks (Flushed file start count ∷ h) u = no-clocks h (fewer (Flushed file start count) h u)
no-clocks (Reboot verf ∷ h) u = no-clocks h (fewer (Reboot verf) h u)
no-clocks (Delivered bytes ∷ h) u = no-clocks h (fewer (Delivered bytes) h u)
no-clocks (Failed ∷ h) u = no-clocks h (fewer Failed h u)

-- what is empty as a whole is so in both parts
front-none : {A : Type 0} → (xs ys : List A) → xs ++ ys ≡ [] → xs ≡ []
front-none [] ys e = refl
front-none (x ∷ xs) ys e = absurd cc

silently : (end : ℕ) → end < 2 → (h k : PairTold) → AddsAlone end h k → IsUnmarked (seen_by end k.steps) → PairAdds [] [] h k
silently end low h k alone u =
    let told : told_by (label_at end) (seen_by end k.steps) ≡ [] = untold (label_at end) (seen_by end k.steps) (fresh (seen_by end k.steps) u) in
    let read : clocks (seen_by end k.steps) ≡ [] = no-clocks (seen_by end k.steps) u in
    let told_parts : told_by (label_at end) (seen_by end h.steps) ++ told_by (label_at end) (seen_by end alone.more) ≡ [] =
    sym (told-append (label_at end) (seen_by end h.steps) (seen_by end alone.more)) ∙ sym (ap (told_by (label_at end)) (side-grown end low h k alone end)) ∙ told in
    let read_parts : clocks (seen_by end h.steps) ++ clocks (seen_by end alone.more) ≡ [] =
    sym (clocks-append (seen_by end h.steps) (seen_by end alone.more)) ∙ sym (ap clocks (side-grown end low h k alone end)) ∙ read in
    let told_before = front-none (told_by (label_at end) (seen_by end h.steps)) (told_by (label_at end) (seen_by end alone.more)) told_parts in
    let read_before = front-none (clocks (seen_by end h.steps)) (clocks (seen_by end alone.more)) read_parts in
    turn-adds end low h k alone [] [] (read ∙ sym (append-nil (clocks (seen_by end h.steps)) ∙ read_before)) (told ∙ sym (append-nil (told_by (label_at end) (seen_by end h.steps)) ∙ told_before))

-- ---- a client that was set up

-- what the set-up leaves, as the core asks for it
set-up-of : (s : Settings) (first : ℕ) (v : SetUp) (h : List Entry) → SetsUp s first (Ok v) h → IsSetUp (Some (setup_of s v)) h
set-up-of s first v h so = (
  record {
    unmarked = fresh h so.unmarked;
    unbegun = so.unmarked.began;
    numbered = record { equal = so.sent.equal; unrepeated = so.sent.unrepeated };
    below = λ i xid bytes sent has. let among = so.sent.among i xid bytes sent has in let next = so.ends.next_is in omega (arith, among.1, next);
  },
  so.ends.idle,
)

pub opens-session : (first : ℕ) (script : List ScriptLine) (v : SetUp) (s : Session) (h : List Entry) → 1 ≤ first → first + 1000000 ≤ 2 ^ 32 - 1 → FitsSession pair_settings first v
    → IsFreshFor pair_settings (setup_of pair_settings v) s → s.port ≡ pair_settings.nfs_port → SetsUp pair_settings first (Ok v) h → GoesOpen first script h s
opens-session first script v s h one last fits f port so = record {
  v = v;
  before = h;
  grown = ([], sym (append-nil h));
  set_up = so;
  fits = fits;
  goes = fresh-goes script pair_settings (setup_of pair_settings v) s f h (fresh h so.unmarked);
  core = fresh-bonded pair_settings (setup_of pair_settings v) (record { from = h; counted = false }) s h
      (may_set_up pair_settings first v (setup_of pair_settings v) one last fits refl refl refl refl) f refl (λ is. absurd (let no_way : false ≡ true = is in cc)) (set-up-of pair_settings first v h so);
  port = port;
  dials = same-dials pair_settings.nfs_port h;
}

-- by settings that are those of both clients
pub opens-by : (settings : Settings) (first : ℕ) (script : List ScriptLine) (v : SetUp) (s : Session) (h : List Entry) → settings ≡ pair_settings → 1 ≤ first → first + 1000000 ≤ 2 ^ 32 - 1
    → FitsSession settings first v → IsFreshFor settings (setup_of settings v) s → s.port ≡ settings.nfs_port → SetsUp pair_settings first (Ok v) h → GoesOpen first script h s
opens-by settings first script v s h is one last f fresh_is port so =
    opens-session first script v s h one last (subst (λ (t : Settings). FitsSession t first v) is f) (subst (λ (t : Settings). IsFreshFor t (setup_of t v) s) is fresh_is)
    (port ∙ ap (λ (t : Settings). t.nfs_port) is) so

-- memory ran out, and no line began
pub opens-nothing : (first : ℕ) (script : List ScriptLine) (result : Result SetUp SetUpFault) (h : List Entry) → SetsUp pair_settings first result h → ClientRan first script h 7
opens-nothing first script result h so = unready result h [] (sym (append-nil h)) so refl refl

-- a set-up that failed
pub opens-memory : (first : ℕ) (script : List ScriptLine) (fault : SetUpFault) (h : List Entry) → fault ≡ faults.Memory → SetsUp pair_settings first (Err fault) h → ClientRan first script h 7
opens-memory first script fault h is so = opens-nothing first script (Err fault) h so

pub opens-lost : (first : ℕ) (script : List ScriptLine) (tally : Tally) (fault : SetUpFault) (h : List Entry) → fault ≡ faults.Lost tally → SetsUp pair_settings first (Err fault) h → GoesLost first h
opens-lost first script tally fault h is so = record {
  tally = tally;
  before = h;
  more = [];
  is = sym (append-nil h);
  set_up = subst (λ (f : SetUpFault). SetsUp pair_settings first (Err f) h) is so;
  unseen = refl;
}

pub opens-refused : (first : ℕ) (script : List ScriptLine) (cause : Fault) (fault : SetUpFault) (h : List Entry) → fault ≡ faults.Refused cause → SetsUp pair_settings first (Err fault) h → GoesLost first h
opens-refused first script cause fault h is so =
    let refused : SetsUp pair_settings first (Err (faults.Refused cause)) h = subst (λ (f : SetUpFault). SetsUp pair_settings first (Err f) h) is so in
    absurd (let no_way : pair_settings.export ≡ exports.Path refused.ends.path = refused.ends.mounting in cc)

-- ---- from one end

-- a set-up, and what is made of it
pub opens-at : (end first : ℕ) (script : List ScriptLine) (result : Result SetUp SetUpFault) (opened : Result State Memory) (t0 t1 : Option PairTold) → end < 2
    → ((h : List Entry) → SetsUp pair_settings first result h → IsOpened first script opened h) → PairRelates t0 t1 (SetsUpAt end first result) → PairRelates t0 t1 (OpensAt end first script opened)
opens-at end first script result opened t0 t1 low so p =
    both-less t0 t1 (SetsUpAt end first result) (OpensAt end first script opened) (λ h k x. record {
      alone = x.alone;
      silent = λ none. silently end low h k x.alone (x.set_up none).unmarked;
      opened = λ none. so (seen_by end k.steps) (x.set_up none);
    }) p
