-- Two clients that take turns go along, each along its side.
use Rattle.std.proofs.Common.{◌≡◌, ◌<◌, ◌≤◌, ◌-◌, inl, inr, ℕ, List, [], ◌∷◌, ◌++◌, length, All, Result, Ok, Err, refl, sym, ap, subst, ◌∙◌, arith}
use Rattle.world_model.specs.declared.entry.Entry.{Entry}
use Rattle.outside.specs.Pairs.{PairTold, seen_by}
use Rattle.pair_ends.specs.Ends.{AddsAlone}
use Rattle.lane_session.specs.declared.halt.Halt.{Halt}
use Rattle.lane_session.specs.Statuses.{of_halt}
use Rattle.pair_runs.specs.declared.client.Client.{Client}
use Rattle.pair_runs.specs.declared.client.State.{State}
use Rattle.pair_runs.specs.declared.turns.Pair.{Pair}
use Rattle.pair_runs.specs.Clients.{AreReady, IsReady}
use Rattle.pair_runs.specs.PairGoing.{BothCut, BothGo, PairBy, SamePair, StateGoes, TurnsBy}
use Rattle.pair_runs.specs.PairRuns.{ClientRan}
use Rattle.pair_runs.proofs.Adding.{side-grown}
use Rattle.pair_runs.proofs.Apart.{state-unseen}
use Rattle.pair_runs.proofs.Cutting.{client-cut, cuts-off}
use Rattle.pair_runs.proofs.Sayings.{adds-none, adds-then, breaks-then}

-- ---- the client at the other end

module _ (end : ℕ) (low : end < 2) (h k : PairTold) (alone : AddsAlone end h k) (first : ℕ) (c : Client) (g : StateGoes first c.script (seen_by (1 - end) h.steps) c.state) where
  pub other-goes : StateGoes first c.script (seen_by (1 - end) k.steps) c.state
  other-goes =
      subst (λ (t : List Entry). StateGoes first c.script t c.state) (sym (side-grown end low h k alone (1 - end)))
      (state-unseen first c.script c.state (seen_by (1 - end) h.steps) (seen_by (1 - end) alone.more) alone.unseen g)

  pub other-cut : (halt : Halt) → IsReady c → ClientRan first c.script (seen_by (1 - end) k.steps) (of_halt halt)
  other-cut halt ready = client-cut first c.script (seen_by (1 - end) k.steps) c.state (of_halt halt) ready.asked ready.stands (cuts-off halt) other-goes

-- ---- a turn of one

one-state : (c : Client) (state : State) (first : ℕ) (h : List Entry) (new : Client) → new ≡ record c { state = state } → StateGoes first c.script h state → StateGoes first new.script h new.state
one-state c state first h new is g = subst (λ (n : Client). StateGoes first n.script h n.state) (sym is) g

module _ (old new : Pair) (ready : AreReady old) (given text : List ℕ) (h k : PairTold) where
  pub first-turns : {T U : Type 0} → (x : T) (y : U) → new.a ≡ record old.a { state = new.a.state } → new.b ≡ old.b → TurnsBy 0 old.a.script old.a.state new.a.state (Ok x) given text h k → PairBy old new (Ok y) given text h k
  first-turns x y a b t = (
    record { a = a; b = b ∙ sym (ap (λ (c : Client). record old.b { state = c.state }) b) },
    t.1,
    λ go. record {
      a = one-state old.a new.a.state 1 (seen_by 0 k.steps) new.a a (t.2 1 go.a);
      b = subst (λ (c : Client). StateGoes 1073741825 c.script (seen_by 1 k.steps) c.state) (sym b) (other-goes 0 (omega arith) h k t.0 1073741825 old.b go.b);
    },
  )

  pub second-turns : {T U : Type 0} → (x : T) (y : U) → new.a ≡ old.a → new.b ≡ record old.b { state = new.b.state } → TurnsBy 1 old.b.script old.b.state new.b.state (Ok x) given text h k → PairBy old new (Ok y) given text h k
  second-turns x y a b t = (
    record { a = a ∙ sym (ap (λ (c : Client). record old.a { state = c.state }) a); b = b },
    t.1,
    λ go. record {
      a = subst (λ (c : Client). StateGoes 1 c.script (seen_by 0 k.steps) c.state) (sym a) (other-goes 1 (omega arith) h k t.0 1 old.a go.a);
      b = one-state old.b new.b.state 1073741825 (seen_by 1 k.steps) new.b b (t.2 1073741825 go.b);
    },
  )

  pub first-cuts : (T U : Type 0) (halt : Halt) (state : State) → TurnsBy {T = T} 0 old.a.script old.a.state state (Err halt) given text h k → PairBy {T = U} old new (Err halt) given text h k
  first-cuts T U halt state t = (t.1, λ go. record { a = t.2 1 go.a; b = other-cut 0 (omega arith) h k t.0 1073741825 old.b go.b halt ready.b })

  pub second-cuts : (T U : Type 0) (halt : Halt) (state : State) → TurnsBy {T = T} 1 old.b.script old.b.state state (Err halt) given text h k → PairBy {T = U} old new (Err halt) given text h k
  second-cuts T U halt state t = (t.1, λ go. record { a = other-cut 1 (omega arith) h k t.0 1 old.a go.a halt ready.a; b = t.2 1073741825 go.b })

-- ---- one turn after the other

same-then : (a b c : Pair) → SamePair a b → SamePair b c → SamePair a c
same-then a b c p q = record {
  a = q.a ∙ ap (λ (x : Client). record x { state = c.a.state }) p.a;
  b = q.b ∙ ap (λ (x : Client). record x { state = c.b.state }) p.b;
}

cut-before : (a b : Pair) (halt : Halt) (k : PairTold) → SamePair a b → BothCut b halt k → BothCut a halt k
cut-before a b halt k same cut = record {
  a = subst (λ (x : Client). ClientRan 1 x.script (seen_by 0 k.steps) (of_halt halt)) same.a cut.a;
  b = subst (λ (x : Client). ClientRan 1073741825 x.script (seen_by 1 k.steps) (of_halt halt)) same.b cut.b;
}

pub pair-none : {T : Type 0} → (x : T) (p : Pair) (h : PairTold) → PairBy p p (Ok x) [] [] h h
pair-none x p h = (record { a = refl; b = refl }, adds-none h, λ go. go)

module _ {T U : Type 0} (a b c : Pair) (x : T) (given text read said : List ℕ) (h k l : PairTold) (p : PairBy a b (Ok x) given text h k) where
  pub pair-then : (result : Result U Halt) → PairBy b c result read said k l → PairBy a c result (given ++ read) (text ++ said) h l
  pair-then (Ok y) q = (same-then a b c p.0 q.0, adds-then given text read said h k l p.1 q.1, λ go. q.2 (p.2 go))
  pair-then (Err halt) q = (breaks-then halt given text read said h k l p.1 q.0, λ go. cut-before a b halt l p.0 (q.1 (p.2 go)))
