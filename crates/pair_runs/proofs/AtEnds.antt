-- A turn of a client over its end of the link.
use Rattle.std.proofs.Common.{◌≡◌, ℕ, List, ◌++◌, length, All, Bool, true, false, Option, Some, None, option_map, Ok, Err, refl, sym, ap, subst, ◌∙◌}
use Rattle.world_model.specs.declared.entry.Entry.{Entry}
use Rattle.link_dials.specs.Dials.{Dials}
use Rattle.nfs_script.specs.declared.script.ScriptLine.{ScriptLine}
use Rattle.nfs_script.specs.Asked.{IsAskedLine}
use Rattle.outside.specs.Pairs.{PairTold, side}
use Rattle.pair_ends.specs.declared.side.Side.{Side}
use Rattle.pair_ends.specs.Ends.{Spares, number_of}
use Rattle.lane_session.specs.declared.halt.Halt.{Halt}
use Rattle.lane_session.specs.declared.running.Session.{Session}
use Rattle.lane_session.specs.Going.{GoesOn, CutsOff}
use Rattle.lane_session.specs.Holding.{AreQuiet}
use Rattle.lane_session.specs.Losing.{LosesBy, status_of, by_lanes}
use Rattle.lane_session.specs.Places.{AreIdle}
use Rattle.lane_session.specs.Ports.{KeepsPort}
use Rattle.lane_session.specs.Streams.{Passes}
use Rattle.lane_session.proofs.Closing.{passes-both}
use Rattle.pair_runs.specs.declared.client.State.{State}
use Rattle.pair_runs.specs.declared.client.State.TheVariants as states
use Rattle.pair_runs.specs.Clients.{done_by, label_of}
use Rattle.pair_runs.specs.PairGoing.{AdvancesBy, PairPasses, TurnsBy}
use Rattle.pair_runs.proofs.Passages.{passes-of-end, passes-same}
use Rattle.pair_runs.proofs.Sessions.{done-turn, label-is, lost-turn, lost-turn-cut, low-end, session-cut, session-done, session-goes}

module _ (e new_end : Side) (same_end : new_end ≡ e) (label : List ℕ) (own : label ≡ label_of e) (script : List ScriptLine) (asked : All IsAskedLine script) (r0 r1 : Option (List ℕ)) (t0 t1 : Option PairTold)
    (w0 w1 : Option (List ℕ)) (alone : Spares (number_of e) t0 t1) where
  module _ (old new : Session) (keeps : KeepsPort old.port new.port (option_map (side (number_of e)) t0) (option_map (side (number_of new_end)) t1)) where
    -- lines are left
    pub turn-on : {T : Type 0} → (x : T) → Passes r0 r1 (option_map (side (number_of e)) t0) (option_map (side (number_of new_end)) t1) w0 w1 (GoesOn label script old new)
        → PairPasses r0 r1 t0 t1 w0 w1 (TurnsBy (number_of e) script (states.Open old) (states.Open new) (Ok x))
    turn-on x p =
        passes-of-end e new_end same_end r0 r1 t0 t1 w0 w1 (λ g t h k. GoesOn label script old new g t h k × Dials old.port h k) (TurnsBy (number_of e) script (states.Open old) (states.Open new) (Ok x))
        (λ g t h k a y. session-goes (number_of e) (low-end e) label (own ∙ label-is e) script h k a old new g t x keeps.same y.1 y.0) alone (passes-both r0 r1 _ _ w0 w1 (GoesOn label script old new) (Dials old.port) p keeps.only)

    -- each line has its answer
    pub turn-done : {T : Type 0} → (x : T) (status : ℕ) → status ≡ new.status → length new.lanes ≡ 16 → AreIdle new.lanes → AreQuiet script new
        → Passes r0 r1 (option_map (side (number_of e)) t0) (option_map (side (number_of new_end)) t1) w0 w1 (GoesOn label script old new)
        → PairPasses r0 r1 t0 t1 w0 w1 (TurnsBy (number_of e) script (states.Open old) (states.Done status) (Ok x))
    turn-done x status is long idle quiet p =
        passes-of-end e new_end same_end r0 r1 t0 t1 w0 w1 (λ g t h k. GoesOn label script old new g t h k × Dials old.port h k) (TurnsBy (number_of e) script (states.Open old) (states.Done status) (Ok x))
        (λ g t h k a y. session-done (number_of e) (low-end e) label (own ∙ label-is e) script h k a old new g t x status is asked long idle quiet keeps.same y.1 y.0) alone
        (passes-both r0 r1 _ _ w0 w1 (GoesOn label script old new) (Dials old.port) p keeps.only)

    -- it was cut off
    pub turn-off : (T : Type 0) (halt : Halt) (state : State) → Passes r0 r1 (option_map (side (number_of e)) t0) (option_map (side (number_of new_end)) t1) w0 w1 (CutsOff label script old halt)
        → PairPasses r0 r1 t0 t1 w0 w1 (TurnsBy {T = T} (number_of e) script (states.Open old) state (Err halt))
    turn-off T halt state p =
        passes-of-end e new_end same_end r0 r1 t0 t1 w0 w1 (λ g t h k. CutsOff label script old halt g t h k × Dials old.port h k) (TurnsBy {T = T} (number_of e) script (states.Open old) state (Err halt))
        (λ g t h k a y. session-cut (number_of e) (low-end e) label (own ∙ label-is e) script h k a old new g t T halt state asked y.1 y.0) alone
        (passes-both r0 r1 _ _ w0 w1 (CutsOff label script old halt) (Dials old.port) p keeps.only)

    -- what the session's turn comes to, before the state moves
    pub turn-went : (went : Bool) (ended : Option ℕ) → ended ≡ done_by went new.status → length new.lanes ≡ 16 → (went ≡ false → AreIdle new.lanes) → (went ≡ false → AreQuiet script new)
        → Passes r0 r1 (option_map (side (number_of e)) t0) (option_map (side (number_of new_end)) t1) w0 w1 (GoesOn label script old new)
        → PairPasses r0 r1 t0 t1 w0 w1 (AdvancesBy (number_of e) script (states.Open old) (states.Open new) (Ok ended))
    turn-went true ended is long idle quiet p =
        subst (λ (d : Option ℕ). PairPasses r0 r1 t0 t1 w0 w1 (AdvancesBy (number_of e) script (states.Open old) (states.Open new) (Ok d))) (sym is) (turn-on {T = Option ℕ} None p)
    turn-went false ended is long idle quiet p =
        subst (λ (d : Option ℕ). PairPasses r0 r1 t0 t1 w0 w1 (AdvancesBy (number_of e) script (states.Open old) (states.Open new) (Ok d))) (sym is)
        (turn-done {T = Option ℕ} (Some new.status) new.status refl long (idle refl) (quiet refl) p)

  -- the lines of a lost client
  pub lose-on : {T : Type 0} → (x : T) (u : Unit {0}) (status : ℕ) → status ≡ status_of script
      → Passes r0 r1 (option_map (side (number_of e)) t0) (option_map (side (number_of new_end)) t1) w0 w1 (LosesBy label (by_lanes 16 script) (Ok u))
      → PairPasses r0 r1 t0 t1 w0 w1 (TurnsBy (number_of e) script states.Lost (states.Done status) (Ok x))
  lose-on x u status is p =
      passes-of-end e new_end same_end r0 r1 t0 t1 w0 w1 (LosesBy label (by_lanes 16 script) (Ok u)) (TurnsBy (number_of e) script states.Lost (states.Done status) (Ok x))
      (λ g t h k a y. lost-turn (number_of e) (low-end e) label (own ∙ label-is e) script h k a g t asked x u status is y) alone p

  pub lose-off : (T : Type 0) (halt : Halt) (state : State) → Passes r0 r1 (option_map (side (number_of e)) t0) (option_map (side (number_of new_end)) t1) w0 w1 (LosesBy label (by_lanes 16 script) (Err halt))
      → PairPasses r0 r1 t0 t1 w0 w1 (TurnsBy {T = T} (number_of e) script states.Lost state (Err halt))
  lose-off T halt state p =
      passes-of-end e new_end same_end r0 r1 t0 t1 w0 w1 (LosesBy label (by_lanes 16 script) (Err halt)) (TurnsBy {T = T} (number_of e) script states.Lost state (Err halt))
      (λ g t h k a y. lost-turn-cut (number_of e) (low-end e) label (own ∙ label-is e) script h k a g t asked T halt state y) alone p

-- one that is done
pub rest-on : {T : Type 0} → (end : ℕ) (script : List ScriptLine) (status : ℕ) (x : T) (r : Option (List ℕ)) (t : Option PairTold) (w : Option (List ℕ))
    → PairPasses r r t t w w (TurnsBy end script (states.Done status) (states.Done status) (Ok x))
rest-on end script status x r t w = passes-same r t w (TurnsBy end script (states.Done status) (states.Done status) (Ok x)) (λ h. done-turn end script status x h)
