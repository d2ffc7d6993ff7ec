-- A client's turn, when its state has moved by what the turn came to.
use Rattle.std.proofs.Common.{◌≡◌, ◌≢◌, ◌≤◌, ◌<◌, ℕ, List, length, All, Bool, true, false, Option, Some, None, Ok, refl, sym, ap, subst, ◌∙◌, arith}
use Rattle.nfs_script.specs.declared.script.ScriptLine.{ScriptLine}
use Rattle.nfs_script.specs.Asked.{IsAskedLine}
use Rattle.outside.specs.Pairs.{PairTold}
use Rattle.lane_session.specs.declared.running.Session.{Session}
use Rattle.lane_session.specs.Holding.{IsHeld}
use Rattle.lane_session.specs.Losing.{status_of}
use Rattle.lane_session.specs.Statuses.{IsSessionStatus}
use Rattle.lane_session.proofs.LostLaws.{status-ends}
use Rattle.pair_runs.specs.declared.client.Client.{Client}
use Rattle.pair_runs.specs.declared.client.State.{State}
use Rattle.pair_runs.specs.declared.client.State.TheVariants as states
use Rattle.pair_runs.specs.Clients.{IsOver, IsReady, Stands, done_by, is_left, left_of, moved}
use Rattle.pair_runs.specs.PairGoing.{AdvancesBy, PairPasses, TurnsBy}
use Rattle.pair_runs.proofs.Passages.{passes-less}

-- ---- of a session

pub stands-after : (went : Bool) (ended : Option ℕ) (script : List ScriptLine) (s : Session) → ended ≡ done_by went s.status → IsHeld script s → Stands script (moved (states.Open s) ended)
stands-after true ended script s is held = subst (λ (d : Option ℕ). Stands script (moved (states.Open s) d)) (sym is) held
stands-after false ended script s is held = subst (λ (d : Option ℕ). Stands script (moved (states.Open s) d)) (sym is) held.status

pub less-after : (went : Bool) (ended : Option ℕ) (status : ℕ) (A : Type 0) → ended ≡ done_by went status → (went ≡ true → A) → ended ≡ None → A
less-after true ended status A is less none = less refl
less-after false ended status A is less none = absurd (let never : Some status ≡ None = sym is ∙ none in cc)

pub lost-stands : (script : List ScriptLine) (status : ℕ) → status ≡ status_of script → Stands script (moved states.Lost (Some status))
lost-stands script status is = status-ends script status is

pub some-never : (status : ℕ) → Some status ≢ None
some-never status e = absurd cc

-- ---- of a state

over-of : (ended : Option ℕ) (state : State) → is_left ended ≡ false → IsOver (moved state ended)
over-of None state e = absurd cc
over-of (Some status) state e = tt

less-of : (ended : Option ℕ) (state : State) (before : ℕ) → (ended ≡ None → left_of state < before) → is_left ended ≡ true → left_of (moved state ended) < before
less-of None state before less e = less refl
less-of (Some status) state before less e = absurd cc

fewer-of : (ended : Option ℕ) (state : State) (before : ℕ) → (ended ≡ None → left_of state < before) → left_of (moved state ended) ≤ before
fewer-of None state before less = let l = less refl in omega (arith, l)
fewer-of (Some status) state before less = omega arith

-- ---- of a client, that went on and then moved

module _ (old new last : Client) (ended : Option ℕ) (went : Bool) (same : new ≡ record old { state = new.state }) (is : went ≡ is_left ended) (set : last ≡ record new { state = moved new.state ended }) where
  state-so : last.state ≡ moved new.state ended
  state-so = ap (λ (c : Client). c.state) set

  pub ready-so : IsReady old → Stands old.script (moved new.state ended) → IsReady last
  ready-so r stands =
      let script : old.script ≡ new.script = sym (ap (λ (c : Client). c.script) same) in
      let moved_so : IsReady (record new { state = moved new.state ended }) = record {
        asked = subst (λ (s : List ScriptLine). All IsAskedLine s) script r.asked;
        few = subst (λ (s : List ScriptLine). length s ≤ 16384) script r.few;
        stands = subst (λ (s : List ScriptLine). Stands s (moved new.state ended)) script stands;
      } in
      subst IsReady (sym set) moved_so

  pub same-so : last ≡ record old { state = last.state }
  same-so = set ∙ ap (λ (c : Client). record c { state = moved new.state ended }) same ∙ ap (λ (s : State). record old { state = s }) (sym state-so)

  pub over-so : went ≡ false → IsOver last.state
  over-so e = subst IsOver (sym state-so) (over-of ended new.state (sym is ∙ e))

  pub less-so : (ended ≡ None → left_of new.state < left_of old.state) → went ≡ true → left_of last.state < left_of old.state
  less-so less e = subst (λ (s : State). left_of s < left_of old.state) (sym state-so) (less-of ended new.state (left_of old.state) less (sym is ∙ e))

  pub fewer-so : (ended ≡ None → left_of new.state < left_of old.state) → left_of last.state ≤ left_of old.state
  fewer-so less = subst (λ (s : State). left_of s ≤ left_of old.state) (sym state-so) (fewer-of ended new.state (left_of old.state) less)

  pub goes-so : (end : ℕ) (r0 r1 : Option (List ℕ)) (t0 t1 : Option PairTold) (w0 w1 : Option (List ℕ)) → PairPasses r0 r1 t0 t1 w0 w1 (AdvancesBy end old.script old.state new.state (Ok ended))
      → PairPasses r0 r1 t0 t1 w0 w1 (TurnsBy end old.script old.state last.state (Ok went))
  goes-so end r0 r1 t0 t1 w0 w1 p =
      subst (λ (s : State). PairPasses r0 r1 t0 t1 w0 w1 (TurnsBy end old.script old.state s (Ok went))) (sym state-so)
      (passes-less r0 r1 t0 t1 w0 w1 (AdvancesBy end old.script old.state new.state (Ok ended)) (TurnsBy end old.script old.state (moved new.state ended) (Ok went)) (λ g t h k x. x) p)
