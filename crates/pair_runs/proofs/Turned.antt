-- A turn of one client, and one of each, as a turn of both.
use Rattle.std.proofs.Common.{◌≡◌, ℕ, List, ◌++◌, Option, Ok, Err, refl, ap, subst, ◌∙◌}
use Rattle.outside.specs.Pairs.{PairTold}
use Rattle.pair_ends.specs.declared.side.Side.{Side}
use Rattle.pair_ends.specs.Ends.{number_of}
use Rattle.lane_session.specs.declared.halt.Halt.{Halt}
use Rattle.pair_runs.specs.declared.client.Client.{Client}
use Rattle.pair_runs.specs.declared.turns.Pair.{Pair}
use Rattle.pair_runs.specs.Clients.{AreReady, IsReady}
use Rattle.pair_runs.specs.PairGoing.{PairBy, PairPasses, TurnsBy}
use Rattle.pair_runs.proofs.Both.{first-cuts, first-turns, pair-then, second-cuts, second-turns}
use Rattle.pair_runs.proofs.Passages.{passes-less, passes-then}

module _ (p : Pair) (ready : AreReady p) (r0 r1 : Option (List ℕ)) (t0 t1 : Option PairTold) (w0 w1 : Option (List ℕ)) where
  pub a-turned : {T U : Type 0} → (x : T) (y : U) (a : Client) → a ≡ record p.a { state = a.state }
      → PairPasses r0 r1 t0 t1 w0 w1 (TurnsBy (number_of p.a.side) p.a.script p.a.state a.state (Ok x)) → PairPasses r0 r1 t0 t1 w0 w1 (PairBy p (record { a = a; b = p.b }) (Ok y))
  a-turned x y a same t =
      passes-less r0 r1 t0 t1 w0 w1 (TurnsBy (number_of p.a.side) p.a.script p.a.state a.state (Ok x)) (PairBy p (record { a = a; b = p.b }) (Ok y))
      (λ g u h k z. first-turns p (record { a = a; b = p.b }) ready g u h k x y same refl
      (subst (λ (s : Side). TurnsBy (number_of s) p.a.script p.a.state a.state (Ok x) g u h k) ready.first z))
      t

  pub b-turned : {T U : Type 0} → (x : T) (y : U) (b : Client) → b ≡ record p.b { state = b.state }
      → PairPasses r0 r1 t0 t1 w0 w1 (TurnsBy (number_of p.b.side) p.b.script p.b.state b.state (Ok x)) → PairPasses r0 r1 t0 t1 w0 w1 (PairBy p (record { a = p.a; b = b }) (Ok y))
  b-turned x y b same t =
      passes-less r0 r1 t0 t1 w0 w1 (TurnsBy (number_of p.b.side) p.b.script p.b.state b.state (Ok x)) (PairBy p (record { a = p.a; b = b }) (Ok y))
      (λ g u h k z. second-turns p (record { a = p.a; b = b }) ready g u h k x y refl same
      (subst (λ (s : Side). TurnsBy (number_of s) p.b.script p.b.state b.state (Ok x) g u h k) ready.second z))
      t

  pub a-cut : (T U : Type 0) (halt : Halt) (a : Client) (q : Pair)
      → PairPasses r0 r1 t0 t1 w0 w1 (TurnsBy {T = T} (number_of p.a.side) p.a.script p.a.state a.state (Err halt)) → PairPasses r0 r1 t0 t1 w0 w1 (PairBy {T = U} p q (Err halt))
  a-cut T U halt a q t =
      passes-less r0 r1 t0 t1 w0 w1 (TurnsBy {T = T} (number_of p.a.side) p.a.script p.a.state a.state (Err halt)) (PairBy {T = U} p q (Err halt))
      (λ g u h k z. first-cuts p q ready g u h k T U halt a.state
      (subst (λ (s : Side). TurnsBy {T = T} (number_of s) p.a.script p.a.state a.state (Err halt) g u h k) ready.first z))
      t

  pub b-cut : (T U : Type 0) (halt : Halt) (b : Client) (q : Pair)
      → PairPasses r0 r1 t0 t1 w0 w1 (TurnsBy {T = T} (number_of p.b.side) p.b.script p.b.state b.state (Err halt)) → PairPasses r0 r1 t0 t1 w0 w1 (PairBy {T = U} p q (Err halt))
  b-cut T U halt b q t =
      passes-less r0 r1 t0 t1 w0 w1 (TurnsBy {T = T} (number_of p.b.side) p.b.script p.b.state b.state (Err halt)) (PairBy {T = U} p q (Err halt))
      (λ g u h k z. second-cuts p q ready g u h k T U halt b.state
      (subst (λ (s : Side). TurnsBy {T = T} (number_of s) p.b.script p.b.state b.state (Err halt) g u h k) ready.second z))
      t

-- a turn of each
module _ (p : Pair) (ready : AreReady p) (r0 r1 r2 : Option (List ℕ)) (t0 t1 t2 : Option PairTold) (w0 w1 w2 : Option (List ℕ)) (a : Client) (ready_a : IsReady a)
    (same_a : a ≡ record p.a { state = a.state }) where
  abbrev with_a : Pair
  with_a = record { a = a; b = p.b }

  ready-then : AreReady with_a
  ready-then = record { a = ready_a; b = ready.b; first = ap (λ (c : Client). c.side) same_a ∙ ready.first; second = ready.second }

  pub both-turned : {T U V : Type 0} → (x : T) (y : U) (z : V) (b : Client) → b ≡ record p.b { state = b.state }
      → PairPasses r0 r1 t0 t1 w0 w1 (TurnsBy (number_of p.a.side) p.a.script p.a.state a.state (Ok x))
      → PairPasses r1 r2 t1 t2 w1 w2 (TurnsBy (number_of p.b.side) p.b.script p.b.state b.state (Ok y)) → PairPasses r0 r2 t0 t2 w0 w2 (PairBy p (record { a = a; b = b }) (Ok z))
  both-turned x y z b same_b t u =
      passes-then r0 r1 r2 t0 t1 t2 w0 w1 w2 (PairBy p with_a (Ok x)) (PairBy with_a (record { a = a; b = b }) (Ok z)) (PairBy p (record { a = a; b = b }) (Ok z))
      (λ g1 g2 s1 s2 h k l v w. pair-then p with_a (record { a = a; b = b }) x g1 s1 g2 s2 h k l v (Ok z) w)
      (a-turned p ready r0 r1 t0 t1 w0 w1 x x a same_a t) (b-turned with_a ready-then r1 r2 t1 t2 w1 w2 y z b same_b u)

  pub both-halted : (T U V : Type 0) (x : T) (halt : Halt) (b : Client) (q : Pair)
      → PairPasses r0 r1 t0 t1 w0 w1 (TurnsBy (number_of p.a.side) p.a.script p.a.state a.state (Ok x))
      → PairPasses r1 r2 t1 t2 w1 w2 (TurnsBy {T = U} (number_of p.b.side) p.b.script p.b.state b.state (Err halt)) → PairPasses r0 r2 t0 t2 w0 w2 (PairBy {T = V} p q (Err halt))
  both-halted T U V x halt b q t u =
      passes-then r0 r1 r2 t0 t1 t2 w0 w1 w2 (PairBy p with_a (Ok x)) (PairBy {T = V} with_a q (Err halt)) (PairBy {T = V} p q (Err halt))
      (λ g1 g2 s1 s2 h k l v w. pair-then {T = T} {U = V} p with_a q x g1 s1 g2 s2 h k l v (Err halt) w)
      (a-turned p ready r0 r1 t0 t1 w0 w1 x x a same_a t) (b-cut with_a ready-then r1 r2 t1 t2 w1 w2 U V halt b q u)
