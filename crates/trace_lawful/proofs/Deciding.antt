-- What tests decide of an entry.
use Rattle.std.proofs.Common.{◌≡◌, ◌<◌, ◌≤◌, ◌+◌, ◌⊎◌, inl, inr, ℕ, suc, Bool, true, false, true≢false, List, length, Result, Ok, Err, refl, sym, ◌∙◌, subst, arith}
use Rattle.std.specs.Prelude.{IfOk, ◌↔◌, IsTrue}
use Rattle.nfs_types.specs.declared.verf.Verf.{Verf}
use Rattle.world_model.specs.declared.entry.Entry.{Entry}
use Rattle.world_model.specs.declared.entry.Entry.TheVariants.{Began, Answered, Dialed, Sent, Executed, Foreign, Flushed, Reboot, Delivered, Failed, Clock}
use Rattle.world_model.specs.declared.message.Call.{Call}
use Rattle.world_model.specs.declared.message.Reply.{Reply}
use Rattle.world_model.specs.Entries.{At}
use Rattle.world_model.specs.Lawful.{WasSent, IsReplied, LawfulAt}
use Rattle.world_model.specs.Rules.{most_bytes}
use Rattle.world_model.specs.Service.{Serves}
use Rattle.world_model.specs.Steps.{Same}
use Rattle.trace_data.specs.declared.trace.Updated.{Updated}
use Rattle.trace_data.specs.declared.trace.Trace.{Trace}
use Rattle.trace_data.specs.Histories.{history_of, objects_after}
use Rattle.trace_rules.specs.Soundness.{sound_all}
use Rattle.trace_rules.proofs.Sound.{all-sound}
use Rattle.trace_lawful.specs.Judged.{AreSound, IsLawfulEntry, IsLawfulAt}
use Rattle.trace_lawful.proofs.Lawfulness.{entry-is}

-- what isn't so
pub not-so : (P : Type 0) → (P → ⊥) → IsTrue false ↔ P
not-so P n = (λ t. absurd (true≢false (sym t)), λ p. absurd (n p))

-- what a test decides, in other words
pub ok-iff : {E : Type 0} (r : Result Bool E) (P Q : Type 0) → ((b : Bool) → (IsTrue b ↔ P) → IsTrue b ↔ Q) → IfOk r (λ b. IsTrue b ↔ P) → IfOk r (λ b. IsTrue b ↔ Q)
ok-iff (Ok b) P Q f is = f b is
ok-iff (Err e) P Q f is = tt

pub so : (P : Type 0) (b : Bool) → (IsTrue b ↔ P) → b ≡ true → P
so P b is t = is.0 t

pub fails : (P : Type 0) (b : Bool) → (IsTrue b ↔ P) → b ≡ false → P → ⊥
fails P b is t p = true≢false (sym (is.1 p) ∙ t)

-- ---- objects

pub sound-so : (objects : List Updated) (b : Bool) → b ≡ sound_all objects → b ≡ true → AreSound objects
sound-so objects b e t = (all-sound objects).0 (sym e ∙ t)

pub unsound-so : (objects : List Updated) (b : Bool) → b ≡ sound_all objects → b ≡ false → AreSound objects → ⊥
unsound-so objects b e t s = true≢false (sym ((all-sound objects).1 s) ∙ sym e ∙ t)

-- ---- an entry

pub lawful-so : (t : Trace) (n : ℕ) → AreSound (objects_after t.updates.items n) → (b : Bool) → (IsTrue b ↔ IsLawfulEntry t n) → IsTrue b ↔ IsLawfulAt t n
lawful-so t n sound b is = (λ yes. record { sound = sound; entry = is.0 yes }, λ w. is.1 w.entry)

pub executed-so : (t : Trace) (n xid : ℕ) (call : Call) (reply : Reply) → WasSent t.entries.items n xid call → (b : Bool)
    → (IsTrue b ↔ Serves ((history_of t).at n) call reply ((history_of t).at (suc n)))
    → IsTrue b ↔ LawfulAt (history_of t) n (Executed xid call reply) ((history_of t).at n) ((history_of t).at (suc n))
executed-so t n xid call reply sent b is = (λ yes. (sent, is.0 yes), λ w. is.1 w.1)

pub delivered-so : (t : Trace) (n : ℕ) (rec : List ℕ) → length rec ≤ most_bytes → Same ((history_of t).at n) ((history_of t).at (suc n)) → (b : Bool)
    → (IsTrue b ↔ IsReplied t.entries.items n rec) → IsTrue b ↔ LawfulAt (history_of t) n (Delivered rec) ((history_of t).at n) ((history_of t).at (suc n))
delivered-so t n rec most same b is = (λ yes. record { same = same; most = most; is = is.0 yes }, λ w. is.1 w.is)

-- ---- the loop

pub each-more : (t : Trace) (n : ℕ) → ((m : ℕ) → m < n → IsLawfulAt t m) → IsLawfulAt t n → (m : ℕ) → m < n + 1 → IsLawfulAt t m
each-more t n each this m lt = elim (eq-or-lt m n (omega (arith, lt))) [
  | inl e ↦ subst (λ (z : ℕ). IsLawfulAt t z) (sym e) this
  | inr before ↦ each m before
]
  where
    eq-or-lt : (m n : ℕ) → m ≤ n → (m ≡ n) ⊎ (m < n)
    eq-or-lt m n le = grind arith

-- an entry of another kind leaves the server as it was
pub other-so : (t : Trace) (n : ℕ) (e : Entry) (b : Bool) → At t.entries.items n e
    → ((xid : ℕ) (call : Call) (reply : Reply) → e ≡ Executed xid call reply → ⊥) → ((call : Call) (reply : Reply) → e ≡ Foreign call reply → ⊥)
    → ((file : List ℕ) (start count : ℕ) → e ≡ Flushed file start count → ⊥) → ((verf : Verf) → e ≡ Reboot verf → ⊥) → ((bytes : List ℕ) → e ≡ Delivered bytes → ⊥)
    → (IsTrue b ↔ Same ((history_of t).at n) ((history_of t).at (suc n))) → IsTrue b ↔ IsLawfulEntry t n
other-so t n (Executed xid call reply) b at executed foreign flushed restarts delivered is = absurd (executed xid call reply refl)
other-so t n (Foreign call reply) b at executed foreign flushed restarts delivered is = absurd (foreign call reply refl)
other-so t n (Flushed file start count) b at executed foreign flushed restarts delivered is = absurd (flushed file start count refl)
other-so t n (Reboot verf) b at executed foreign flushed restarts delivered is = absurd (restarts verf refl)
other-so t n (Delivered bytes) b at executed foreign flushed restarts delivered is = absurd (delivered bytes refl)
other-so t n (Began lane line op) b at executed foreign flushed restarts delivered is = entry-is t n (Began lane line op) b at is
other-so t n (Answered lane line answer) b at executed foreign flushed restarts delivered is = entry-is t n (Answered lane line answer) b at is
other-so t n (Dialed port) b at executed foreign flushed restarts delivered is = entry-is t n (Dialed port) b at is
other-so t n (Sent bytes) b at executed foreign flushed restarts delivered is = entry-is t n (Sent bytes) b at is
other-so t n Failed b at executed foreign flushed restarts delivered is = entry-is t n Failed b at is
other-so t n (Clock ms) b at executed foreign flushed restarts delivered is = entry-is t n (Clock ms) b at is
