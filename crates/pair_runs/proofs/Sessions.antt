-- A turn of a client whose session goes on, and of one whose session was lost in its set-up.
use Rattle.std.proofs.Common.{◌≡◌, ◌<◌, ◌-◌, ℕ, zero, suc, List, [], ◌∷◌, ◌++◌, length, All, false, Some, None, Ok, Err, refl, sym, ap, subst, ◌∙◌, arith, append_assoc}
use Rattle.world_model.specs.declared.entry.Entry.{Entry}
use Rattle.world_model.specs.declared.entry.Entry.TheVariants.{Began, Answered, Dialed, Sent, Executed, Foreign, Flushed, Reboot, Delivered, Failed, Clock}
use Rattle.world_model.specs.Clocked.{clocks}
use Rattle.world_model.specs.Entries.{At, ours}
use Rattle.world_model.specs.History.{History}
use Rattle.world_model.proofs.Histories.{ours-append}
use Rattle.link_dials.specs.Dials.{Dials}
use Rattle.link_dials.proofs.Dialing.{then-dials}
use Rattle.nfs_script.specs.declared.script.ScriptLine.{ScriptLine}
use Rattle.nfs_script.specs.Asked.{IsAskedLine}
use Rattle.outside.specs.Pairs.{PairTold, seen_by, side}
use Rattle.pair_ends.specs.declared.side.Side.{Side}
use Rattle.pair_ends.specs.declared.side.Side.TheVariants as sides
use Rattle.pair_ends.specs.Ends.{AddsAlone, number_of}
use Rattle.lane_session.specs.declared.halt.Halt.{Halt}
use Rattle.lane_session.specs.declared.running.Session.{Session}
use Rattle.lane_session.specs.Bonds.{HasCore}
use Rattle.lane_session.specs.Endings.{whole, cut}
use Rattle.lane_session.specs.Going.{GoesOn, CutsOff}
use Rattle.lane_session.specs.Holding.{AreQuiet}
use Rattle.lane_session.specs.Labels.{told_by, IsCutIn, all_told}
use Rattle.lane_session.specs.Losing.{LosesBy, LosesOnly, IsLosing, status_of, by_lanes}
use Rattle.lane_session.specs.Places.{AreIdle}
use Rattle.lane_session.specs.Running.{mounted_by}
use Rattle.lane_session.specs.Sessions.{IsBroken, IsUnmarked}
use Rattle.lane_session.specs.Statuses.{IsLeft, of_halt}
use Rattle.lane_session.proofs.Labels.{cut-after, told-append}
use Rattle.lane_session.proofs.LaneOrder.{lanes-same, by-empty}
use Rattle.lane_session.proofs.LostAdds.{told-loses}
use Rattle.lane_session.proofs.LostLaws.{SameLanes, lost-ends, lost-breaks}
use Rattle.lane_session.proofs.Pushes.{clocks-append}
use Rattle.script_runs.specs.LaneRuns.{setup_of}
use Rattle.script_runs.proofs.LaneRuns.{fresh}
use Rattle.pair_runs.specs.declared.client.State.{State}
use Rattle.pair_runs.specs.declared.client.State.TheVariants as states
use Rattle.pair_runs.specs.Clients.{label_of}
use Rattle.pair_runs.specs.Given.{pair_settings}
use Rattle.pair_runs.specs.PairGoing.{GoesOpen, GoesLost, GoesDone, HasGone, by_session, by_loss, PairAdds, PairBreaks, TurnsBy}
use Rattle.pair_runs.specs.PairRuns.{ClientRan, ran, began}
use Rattle.pair_runs.specs.Texts.{label_at}
use Rattle.pair_runs.proofs.Adding.{turn-adds, turn-breaks}
use Rattle.pair_runs.proofs.Apart.{unmarked-unseen}
use Rattle.pair_runs.proofs.Cutting.{client-began, cuts-off, went-runs, done-runs}
use Rattle.pair_runs.proofs.Sayings.{adds-none, grown-none}

-- ---- a session

open-on : (first : ℕ) (label : List ℕ) (script : List ScriptLine) (old new : Session) (given text : List ℕ) (h k : List Entry) → new.port ≡ old.port → Dials old.port h k
    → GoesOn label script old new given text h k → GoesOpen first script h old → GoesOpen first script k new
open-on first label script old new given text h k same dials on g = record {
  v = g.v;
  before = g.before;
  grown = (g.grown.0 ++ on.grown.0, on.grown.1 ∙ ap (λ (t : List Entry). t ++ on.grown.0) g.grown.1 ∙ append_assoc g.before g.grown.0 on.grown.0);
  set_up = g.set_up;
  fits = g.fits;
  goes = on.goes [] (length g.before) g.goes;
  core = on.core [] (length g.before) g.goes (mounted_by pair_settings (setup_of pair_settings g.v)) (setup_of pair_settings g.v) (record { from = g.before; counted = false }) g.core;
  port = same ∙ g.port;
  dials = then-dials pair_settings.nfs_port g.before h k g.dials (subst (λ (p : ℕ). Dials p h k) g.port dials);
}

open-done : (first : ℕ) (script : List ScriptLine) (k : List Entry) (s : Session) → All IsAskedLine script → length s.lanes ≡ 16 → AreIdle s.lanes → AreQuiet script s → GoesOpen first script k s
    → GoesDone first script k s.status
open-done first script k s asked long idle quiet g = record {
  began = by_session s g;
  lines = done-runs script g.before k s g.grown (fresh g.before g.set_up.unmarked) asked long idle quiet g.goes;
}

open-cut : (first : ℕ) (label : List ℕ) (script : List ScriptLine) (old : Session) (halt : Halt) (given text : List ℕ) (h k : List Entry) → All IsAskedLine script → Dials old.port h k
    → CutsOff label script old halt given text h k → GoesOpen first script h old → ClientRan first script k (of_halt halt)
open-cut first label script old halt given text h k asked dials c g =
    let core : HasCore (mounted_by pair_settings (setup_of pair_settings g.v)) (setup_of pair_settings g.v) g.before k =
    c.core [] (length g.before) g.goes (mounted_by pair_settings (setup_of pair_settings g.v)) (setup_of pair_settings g.v) (record { from = g.before; counted = false }) g.core in
    began (ran g.v g.before g.set_up g.fits asked core (then-dials pair_settings.nfs_port g.before h k g.dials (subst (λ (p : ℕ). Dials p h k) g.port dials)))
    (went-runs script g.before k (of_halt halt) (g.grown.0 ++ c.grown.0, c.grown.1 ∙ ap (λ (t : List Entry). t ++ c.grown.0) g.grown.1 ∙ append_assoc g.before g.grown.0 c.grown.0)
    (fresh g.before g.set_up.unmarked) (cuts-off halt) (c.went [] (length g.before) g.goes))

-- ---- a lost client

own-losing : (es : List Entry) → ((i : ℕ) (e : Entry) → At es i e → IsLosing e) → ours es ≡ es
own-losing [] each = refl
own-losing (Clock ms ∷ es) each = ap (λ (t : List Entry). Clock ms ∷ t) (own-losing es (λ i e at. each (suc i) e at))
own-losing (Began lane line op ∷ es) each = ap (λ (t : List Entry). Began lane line op ∷ t) (own-losing es (λ i e at. each (suc i) e at))
own-losing (Answered lane line answer ∷ es) each = ap (λ (t : List Entry). Answered lane line answer ∷ t) (own-losing es (λ i e at. each (suc i) e at))
own-losing (Dialed port ∷ es) each = absurd (each 0 (Dialed port) refl)
own-losing (Sent bytes ∷ es) each = absurd (each 0 (Sent bytes) refl)
own-losing (Executed xid call reply ∷ es) each = absurd (each 0 (Executed xid call reply) refl)
own-losing (Foreign call reply ∷ es) each = absurd (each 0 (Foreign call reply) refl)
own-losing (Flushed file from len ∷ es) each = absurd (each 0 (Flushed file from len) refl)
own-losing (Reboot verf ∷ es) each = absurd (each 0 (Reboot verf) refl)
own-losing (Delivered bytes ∷ es) each = absurd (each 0 (Delivered bytes) refl)
own-losing (Failed ∷ es) each = absurd (each 0 Failed refl)

module _ (first : ℕ) (order script : List ScriptLine) (same : SameLanes order script) (empty : script ≡ [] → order ≡ []) (label : List ℕ) (x y : History) (g : GoesLost first x.entries) where
  lost-unmarked : IsUnmarked x.entries
  lost-unmarked = subst IsUnmarked (sym g.is) (unmarked-unseen g.before g.more g.unseen (fresh g.before g.set_up.unmarked))

  lost-own : (l : LosesOnly script x.entries y.entries) → ours (g.more ++ l.more) ≡ l.more
  lost-own l = ours-append g.more l.more ∙ ap (λ (t : List Entry). t ++ ours l.more) g.unseen ∙ own-losing l.more l.each

  lost-gone : LosesOnly script x.entries y.entries → HasGone first script y.entries
  lost-gone l =
      by_loss g.tally g.before (g.more ++ l.more) (l.is ∙ ap (λ (t : List Entry). t ++ l.more) g.is ∙ append_assoc g.before g.more l.more) g.set_up
      (record { each = λ i e at. l.each i e (subst (λ (t : List Entry). At t i e) (lost-own l) at); none = λ none. lost-own l ∙ l.none none })

  lost-done : (u : Unit {0}) (given text : List ℕ) → LosesBy label order (Ok u) given text x.entries y.entries → GoesDone first script y.entries (status_of script)
  lost-done u given text b =
      let d = lost-ends order script same (record { status = status_of script; tally = g.tally; pages = None }) given (told_by [] b.0) x.entries y.entries b.0 refl lost-unmarked b.1 b.2 b.3 refl in
      record {
        began = lost-gone (told-loses (Some x) (Some y) label order script (Ok u) given text empty b);
        lines = record { follows = d.follows; ends = whole d.finishes d.status; timed = d.timed; together = d.together };
      }

  module _ (halt : Halt) (given text : List ℕ) (b : LosesBy label order (Err halt) given text x.entries y.entries) where
    lost-broken : IsBroken script halt given (told_by [] (b.3.0 ++ b.3.1)) x.entries y.entries
    lost-broken =
        lost-breaks order script same halt given (told_by [] (b.3.0 ++ b.3.1)) x.entries y.entries lost-unmarked
        (b.0, b.1, b.2, (b.3.0, b.3.1, b.3.2, b.3.3, b.3.4, record { last = b.3.5.last; clocked = b.3.5.clocked; left = b.3.5.left; shown = all_told refl }))

    lost-ran : All IsAskedLine script → ClientRan first script y.entries (of_halt halt)
    lost-ran asked =
        let w = lost-broken in
        began (client-began first script y.entries asked (lost-gone (told-loses (Some x) (Some y) label order script (Err halt) given text empty b)))
        (record { follows = w.follows; ends = cut (cuts-off halt); timed = w.timed; together = w.together })

-- ---- a turn

-- a client's label
pub label-is : (side : Side) → label_of side ≡ label_at (number_of side)
label-is sides.A = refl
label-is sides.B = refl

pub low-end : (side : Side) → number_of side < 2
low-end sides.A = omega arith
low-end sides.B = omega arith

module _ (end : ℕ) (low : end < 2) (label : List ℕ) (own : label ≡ label_at end) (script : List ScriptLine) (h k : PairTold) (alone : AddsAlone end h k) where
  adds-so : (given text : List ℕ) → clocks (seen_by end k.steps) ≡ clocks (seen_by end h.steps) ++ given → told_by label (seen_by end k.steps) ≡ told_by label (seen_by end h.steps) ++ text
      → PairAdds given text h k
  adds-so given text clocked shown =
      turn-adds end low h k alone given text clocked (subst (λ (l : List ℕ). told_by l (seen_by end k.steps) ≡ told_by l (seen_by end h.steps) ++ text) own shown)

  breaks-so : (halt : Halt) (given text last : List ℕ) → clocks (seen_by end h.steps) ++ given ≡ clocks (seen_by end k.steps) ++ last → IsLeft halt last
      → IsCutIn label (seen_by end k.steps) (told_by label (seen_by end h.steps) ++ text) → PairBreaks halt given text h k
  breaks-so halt given text last clocked left shown =
      turn-breaks end low h k alone halt given text last clocked left (subst (λ (l : List ℕ). IsCutIn l (seen_by end k.steps) (told_by l (seen_by end h.steps) ++ text)) own shown)

  module _ (old new : Session) (given text : List ℕ) where
    pub session-goes : {T : Type 0} → (x : T) → new.port ≡ old.port → Dials old.port (seen_by end h.steps) (seen_by end k.steps)
        → GoesOn label script old new given text (seen_by end h.steps) (seen_by end k.steps) → TurnsBy end script (states.Open old) (states.Open new) (Ok x) given text h k
    session-goes x same dials on = (
      alone,
      adds-so given text on.clocked on.shown,
      λ first g. open-on first label script old new given text (seen_by end h.steps) (seen_by end k.steps) same dials on g,
    )

    pub session-done : {T : Type 0} → (x : T) (status : ℕ) → status ≡ new.status → All IsAskedLine script → length new.lanes ≡ 16 → AreIdle new.lanes → AreQuiet script new → new.port ≡ old.port
        → Dials old.port (seen_by end h.steps) (seen_by end k.steps) → GoesOn label script old new given text (seen_by end h.steps) (seen_by end k.steps)
        → TurnsBy end script (states.Open old) (states.Done status) (Ok x) given text h k
    session-done x status is asked long idle quiet same dials on = (
      alone,
      adds-so given text on.clocked on.shown,
      λ first g. subst (GoesDone first script (seen_by end k.steps)) (sym is)
          (open-done first script (seen_by end k.steps) new asked long idle quiet (open-on first label script old new given text (seen_by end h.steps) (seen_by end k.steps) same dials on g)),
    )

    pub session-cut : (T : Type 0) (halt : Halt) (state : State) → All IsAskedLine script → Dials old.port (seen_by end h.steps) (seen_by end k.steps)
        → CutsOff label script old halt given text (seen_by end h.steps) (seen_by end k.steps) → TurnsBy {T = T} end script (states.Open old) state (Err halt) given text h k
    session-cut T halt state asked dials c = (
      alone,
      breaks-so halt given text c.last c.clocked c.left c.shown,
      λ first g. open-cut first label script old halt given text (seen_by end h.steps) (seen_by end k.steps) asked dials c g,
    )

  module _ (given text : List ℕ) (asked : All IsAskedLine script) where
    pub lost-turn : {T : Type 0} → (x : T) (u : Unit {0}) (status : ℕ) → status ≡ status_of script
        → LosesBy label (by_lanes 16 script) (Ok u) given text (seen_by end h.steps) (seen_by end k.steps) → TurnsBy end script states.Lost (states.Done status) (Ok x) given text h k
    lost-turn x u status is b = (
      alone,
      adds-so given text (ap clocks b.1 ∙ clocks-append (seen_by end h.steps) b.0 ∙ ap (λ (t : List ℕ). clocks (seen_by end h.steps) ++ t) (sym b.3))
          (ap (told_by label) b.1 ∙ told-append label (seen_by end h.steps) b.0 ∙ ap (λ (t : List ℕ). told_by label (seen_by end h.steps) ++ t) (sym b.4)),
      λ first g. subst (GoesDone first script (seen_by end k.steps)) (sym is)
          (lost-done first (by_lanes 16 script) script (lanes-same script asked) (by-empty 16 script) label (side end h) (side end k) g u given text b),
    )

    pub lost-turn-cut : (T : Type 0) (halt : Halt) (state : State) → LosesBy label (by_lanes 16 script) (Err halt) given text (seen_by end h.steps) (seen_by end k.steps)
        → TurnsBy {T = T} end script states.Lost state (Err halt) given text h k
    lost-turn-cut T halt state b = (
      alone,
      breaks-so halt given text b.3.5.last
          (ap (λ (t : List ℕ). clocks (seen_by end h.steps) ++ t) b.3.5.clocked ∙ sym (append_assoc (clocks (seen_by end h.steps)) (clocks (b.3.0 ++ b.3.1)) b.3.5.last)
          ∙ ap (λ (t : List ℕ). t ++ b.3.5.last) (sym (ap clocks b.3.2 ∙ clocks-append (seen_by end h.steps) (b.3.0 ++ b.3.1))))
          b.3.5.left
          (subst (λ (t : List Entry). IsCutIn label t (told_by label (seen_by end h.steps) ++ text)) (sym b.3.2)
          (cut-after label (seen_by end h.steps) (b.3.0 ++ b.3.1) (told_by label (seen_by end h.steps)) text refl b.3.5.shown)),
      λ first g. lost-ran first (by_lanes 16 script) script (lanes-same script asked) (by-empty 16 script) label (side end h) (side end k) g halt given text b asked,
    )

-- a client that is done adds nothing
pub done-turn : {T : Type 0} → (end : ℕ) (script : List ScriptLine) (status : ℕ) (x : T) (h : PairTold) → TurnsBy end script (states.Done status) (states.Done status) (Ok x) [] [] h h
done-turn end script status x h = (record { more = []; grown = grown-none h; unseen = refl }, adds-none h, λ first g. g)
