-- Which statuses come where, and what two turns together leave.
use Rattle.std.proofs.Common.{◌≡◌, ◌<◌, ◌≤◌, ◌+◌, inl, inr, ℕ, Bool, true, false, Err, refl, ap, ◌∙◌, arith}
use Rattle.std.specs.Prelude.{◌⊎◌, ◌||◌}
use Rattle.lane_session.specs.declared.halt.Halt.{Halt}
use Rattle.lane_session.specs.declared.halt.Halt.TheVariants as halts
use Rattle.lane_session.specs.Statuses.{CausedBy, IsCutOff, IsSessionStatus, of_halt}
use Rattle.pair_runs.specs.declared.client.Client.{Client}
use Rattle.pair_runs.specs.declared.turns.Pair.{Pair}
use Rattle.pair_runs.specs.Clients.{AreReady, IsEnding, IsReady}

-- ---- statuses

pub halts-so : (halt : Halt) (n : ℕ) → n ≡ of_halt halt → IsEnding n
halts-so halts.Output n is = inr (inl is)
halts-so halts.Memory n is = inr (inr is)

pub sink-failed : (T : Type 0) (halt : Halt) (n : ℕ) (P : Type 0) → n ≡ of_halt halt → CausedBy {T = T} (Err halt) P → n ≡ 5 → P
sink-failed T halts.Output n P is p five = p
sink-failed T halts.Memory n P is p five = absurd (omega (arith, is, five))

pub no-sink : (n : ℕ) (P : Type 0) → IsSessionStatus n → n ≡ 5 → P
no-sink n P (inl a) five = absurd (omega (arith, a, five))
no-sink n P (inr (inl a)) five = absurd (omega (arith, a, five))
no-sink n P (inr (inr a)) five = absurd (omega (arith, a, five))

pub no-source : (n : ℕ) (P : Type 0) → IsEnding n → n ≡ 4 → P
no-source n P (inl (inl a)) four = absurd (omega (arith, a, four))
no-source n P (inl (inr (inl a))) four = absurd (omega (arith, a, four))
no-source n P (inl (inr (inr a))) four = absurd (omega (arith, a, four))
no-source n P (inr (inl a)) four = absurd (omega (arith, a, four))
no-source n P (inr (inr a)) four = absurd (omega (arith, a, four))

-- a script that is refused isn't for its source
pub refused-source : (n : ℕ) (P : Type 0) → (n ≡ 3) ⊎ IsCutOff n → n ≡ 4 → P
refused-source n P (inl a) four = absurd (omega (arith, a, four))
refused-source n P (inr (inl a)) four = absurd (omega (arith, a, four))
refused-source n P (inr (inr a)) four = absurd (omega (arith, a, four))

-- a source that fails isn't the sink
pub unread-sink : (n : ℕ) (P : Type 0) → (n ≡ 4) ⊎ (n ≡ 7) → n ≡ 5 → P
unread-sink n P (inl a) five = absurd (omega (arith, a, five))
unread-sink n P (inr a) five = absurd (omega (arith, a, five))

-- how a run ends that has no scripts
pub unread-status : (n : ℕ) → (n ≡ 4) ⊎ (n ≡ 7) → (n ≡ 3) ⊎ (n ≡ 4) ⊎ IsCutOff n
unread-status n (inl a) = inr (inl a)
unread-status n (inr a) = inr (inr (inr a))

pub refused-status : (n : ℕ) → (n ≡ 3) ⊎ IsCutOff n → (n ≡ 3) ⊎ (n ≡ 4) ⊎ IsCutOff n
refused-status n (inl a) = inl a
refused-status n (inr a) = inr (inr a)

pub unbegun-status : (n : ℕ) → (n ≡ 3) ⊎ (n ≡ 4) ⊎ IsCutOff n → IsEnding n ⊎ (n ≡ 3) ⊎ (n ≡ 4)
unbegun-status n (inl a) = inr (inl a)
unbegun-status n (inr (inl a)) = inr (inr a)
unbegun-status n (inr (inr a)) = inl (inr a)

-- ---- a turn of each

pub both-less : (p q : Bool) (a1 a b1 b : ℕ) → (p ≡ true → a1 < a) → a1 ≤ a → (q ≡ true → b1 < b) → b1 ≤ b → (p || q) ≡ true → a1 + b1 < a + b
both-less true q a1 a b1 b less le more ge is = let l = less refl in omega (arith, l, ge)
both-less false true a1 a b1 b less le more ge is = let l = more refl in omega (arith, l, le)
both-less false false a1 a b1 b less le more ge is = absurd cc

pub both-over : (p q : Bool) (A B : Type 0) → (p ≡ false → A) → (q ≡ false → B) → (p || q) ≡ false → A × B
both-over true q A B a b is = absurd cc
both-over false true A B a b is = absurd cc
both-over false false A B a b is = (a refl, b refl)

-- ---- both clients after a turn of one

pub turned-a : (p : Pair) (c : Client) → AreReady p → IsReady c → c ≡ record p.a { state = c.state } → AreReady (record p { a = c })
turned-a p c r ready same = record { a = ready; b = r.b; first = ap (λ (x : Client). x.side) same ∙ r.first; second = r.second }

pub turned-b : (p : Pair) (c : Client) → AreReady p → IsReady c → c ≡ record p.b { state = c.state } → AreReady (record p { b = c })
turned-b p c r ready same = record { a = r.a; b = ready; first = r.first; second = ap (λ (x : Client). x.side) same ∙ r.second }
