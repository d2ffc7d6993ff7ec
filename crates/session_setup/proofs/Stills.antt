-- Entries that neither send nor bring a record, and that aren't noted.
use Rattle.std.proofs.Common.{◌≡◌, ◌+◌, ℕ, List, [], ◌∷◌, ◌++◌, refl, sym, subst, append_assoc, arith}
use Rattle.std.proofs.lemmas.List.{append-nil}
use Rattle.world_model.specs.declared.answer.Answer.{Answer}
use Rattle.world_model.specs.declared.entry.Entry.{Entry}
use Rattle.world_model.specs.declared.entry.Entry.TheVariants.{Began, Answered, Dialed, Sent, Executed, Foreign, Flushed, Reboot, Delivered, Failed, Clock}
use Rattle.world_model.specs.declared.op.Op.{Op}
use Rattle.world_model.specs.Entries.{ours}
use Rattle.world_model.proofs.Histories.{IsQuiet, quiet_by}
use Rattle.session_setup.specs.Exchanges.{IsStill, AreStill}
use Rattle.session_setup.specs.Sendings.{times_sent}

-- ---- facts that they keep

abbrev pub StepsStill : (List Entry → Type 0) → Type 0
StepsStill P = (h : List Entry) (e : Entry) → IsStill e → P h → P (h ++ e ∷ [])

pub still_by : (P : List Entry → Type 0) → StepsStill P → (h more : List Entry) → AreStill more → P h → P (h ++ more)
still_by P one h [] s p = rw append-nil p
still_by P one h (e ∷ more) s p = subst P (append_assoc h (e ∷ []) more) (still_by P one (h ++ e ∷ []) more s.1 (one h e s.0 p))

-- an entry of the server is one
quiet_still : (e : Entry) → ours (e ∷ []) ≡ [] → IsStill e
quiet_still (Began lane line op) q = absurd cc
quiet_still (Answered lane line answer) q = absurd cc
quiet_still (Dialed port) q = tt
quiet_still (Sent bytes) q = absurd cc
quiet_still (Executed xid call reply) q = tt
quiet_still (Foreign call reply) q = tt
quiet_still (Flushed file from len) q = tt
quiet_still (Reboot verf) q = tt
quiet_still (Delivered bytes) q = absurd cc
quiet_still Failed q = tt
quiet_still (Clock ms) q = absurd cc

pub quiet_of : (P : List Entry → Type 0) → StepsStill P → IsQuiet P
quiet_of P one = quiet_by P (λ h e q p. one h e (quiet_still e q) p)

-- what a call adds is still where its own entries are
pub still_more : (more es : List Entry) → ours more ≡ es → AreStill es → AreStill more
still_more [] es e s = tt
still_more (Executed xid call reply ∷ more) es e s = (tt, still_more more es e s)
still_more (Foreign call reply ∷ more) es e s = (tt, still_more more es e s)
still_more (Flushed file from len ∷ more) es e s = (tt, still_more more es e s)
still_more (Reboot verf ∷ more) es e s = (tt, still_more more es e s)
still_more (Began lane line op ∷ more) es e s = let t : AreStill (Began lane line op ∷ ours more) = subst AreStill (sym e) s in absurd t.0
still_more (Answered lane line answer ∷ more) es e s = let t : AreStill (Answered lane line answer ∷ ours more) = subst AreStill (sym e) s in absurd t.0
still_more (Sent bytes ∷ more) es e s = let t : AreStill (Sent bytes ∷ ours more) = subst AreStill (sym e) s in absurd t.0
still_more (Delivered bytes ∷ more) es e s = let t : AreStill (Delivered bytes ∷ ours more) = subst AreStill (sym e) s in absurd t.0
still_more (Clock ms ∷ more) es e s = let t : AreStill (Clock ms ∷ ours more) = subst AreStill (sym e) s in absurd t.0
still_more (Dialed port ∷ more) es e s = let t : AreStill (Dialed port ∷ ours more) = subst AreStill (sym e) s in (tt, still_more more (ours more) refl t.1)
still_more (Failed ∷ more) es e s = let t : AreStill (Failed ∷ ours more) = subst AreStill (sym e) s in (tt, still_more more (ours more) refl t.1)

pub still_append : (xs ys : List Entry) → AreStill xs → AreStill ys → AreStill (xs ++ ys)
still_append [] ys p q = q
still_append (x ∷ xs) ys p q = (p.0, still_append xs ys p.1 q)

-- ---- how often a record was sent

pub times-append : (x : ℕ) (h k : List Entry) → times_sent x (h ++ k) ≡ times_sent x h + times_sent x k
times-append x [] k = omega arith
times-append x (e ∷ h) k = let r = times-append x h k in omega (arith, r)

-- ---- entries that send nothing and aren't noted

pub record IsPlain (e : Entry) : Type 0 where
  pub mute : (b : List ℕ) → e ≡ Sent b → ⊥
  pub count : (x : ℕ) → times_sent x (e ∷ []) ≡ 0
  pub began : (lane line : ℕ) (op : Op) → e ≡ Began lane line op → ⊥
  pub answered : (lane line : ℕ) (answer : Answer) → e ≡ Answered lane line answer → ⊥
  pub clock : (ms : ℕ) → e ≡ Clock ms → ⊥

pub plain_delivered : (bytes : List ℕ) → IsPlain (Delivered bytes)
plain_delivered bytes = record { mute = λ b e. cc; count = λ x. refl; began = λ lane line op e. cc; answered = λ lane line answer e. cc; clock = λ ms e. cc }

pub plain_still : (e : Entry) → IsStill e → IsPlain e
plain_still (Began lane line op) s = absurd s
plain_still (Answered lane line answer) s = absurd s
plain_still (Sent bytes) s = absurd s
plain_still (Delivered bytes) s = absurd s
plain_still (Clock ms) s = absurd s
plain_still (Dialed port) s = record { mute = λ b e. cc; count = λ x. refl; began = λ lane line op e. cc; answered = λ lane line answer e. cc; clock = λ ms e. cc }
plain_still (Executed xid call reply) s = record { mute = λ b e. cc; count = λ x. refl; began = λ lane line op e. cc; answered = λ lane line answer e. cc; clock = λ ms e. cc }
plain_still (Foreign call reply) s = record { mute = λ b e. cc; count = λ x. refl; began = λ lane line op e. cc; answered = λ lane line answer e. cc; clock = λ ms e. cc }
plain_still (Flushed file from len) s = record { mute = λ b e. cc; count = λ x. refl; began = λ lane line op e. cc; answered = λ lane line answer e. cc; clock = λ ms e. cc }
plain_still (Reboot verf) s = record { mute = λ b e. cc; count = λ x. refl; began = λ lane line op e. cc; answered = λ lane line answer e. cc; clock = λ ms e. cc }
plain_still Failed s = record { mute = λ b e. cc; count = λ x. refl; began = λ lane line op e. cc; answered = λ lane line answer e. cc; clock = λ ms e. cc }

-- none of them brings a record
pub deaf_still : (e : Entry) → IsStill e → (b : List ℕ) → e ≡ Delivered b → ⊥
deaf_still (Began lane line op) s b is = absurd s
deaf_still (Answered lane line answer) s b is = absurd s
deaf_still (Sent bytes) s b is = absurd s
deaf_still (Delivered bytes) s b is = absurd s
deaf_still (Clock ms) s b is = absurd s
deaf_still (Dialed port) s b is = cc
deaf_still (Executed xid call reply) s b is = cc
deaf_still (Foreign call reply) s b is = cc
deaf_still (Flushed file from len) s b is = cc
deaf_still (Reboot verf) s b is = cc
deaf_still Failed s b is = cc
