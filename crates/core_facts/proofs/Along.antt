-- What holds of a history and the core's view that goes with it, where answers are noted before records are sent and received, if each entry keeps it.
use Rattle.core_facts.proofs.Prelude.{inl, inr, ◌≡◌, ℕ, List, [], ◌∷◌, ◌++◌, length, Bool, true, false, refl, sym, ap, subst, ◌∙◌, Entry, Began, Answered, Dialed, Sent, Executed, Foreign, Flushed, Reboot, Delivered, Failed, Clock, Op, Machine, Setup, IsFresh, BeginsIf, lost, View, MaySetUp, IsSetUp, StepsTo, last_reading}
use Rattle.world_model.specs.Lost.{Loses}
use Rattle.core_facts.proofs.Cases.{heard, sent_now, FailedNow, goes_on, gives_up, failed_now, answered_now}
use Rattle.core_facts.proofs.Counting.{heard-lost}
use Rattle.core_facts.specs.Notes.{NoneReady, ComesAfter, Notes, notes_fresh, notes_step, notes_lost}

-- It holds of a fresh core, and each entry keeps it; so does the loss of the session.
pub record KeepsNoting (machine_of : ℕ → Op → Machine) (setup : Setup) (I : List Entry → View → Type 0) : Type 0 where
  pub fresh : (h : List Entry) (v : View) → MaySetUp setup → IsSetUp setup h → IsFresh setup v → I h v
  pub steps : (h : List Entry) (old : View) (e : Entry) (new : View) → Notes machine_of setup h old → (ComesAfter e → NoneReady old)
      → StepsTo machine_of h old e new → I h old → I (h ++ e ∷ []) new
  pub loses : (h : List Entry) (v : View) → Notes machine_of setup h v → Loses h (length h) → I h v → I h (lost v)

pub notes-along : (machine_of : ℕ → Op → Machine) (setup : Setup) (I : List Entry → View → Type 0) → KeepsNoting machine_of setup I
    → (h : List Entry) (v : View) → Notes machine_of setup h v → I h v
notes-along machine_of setup I laws _ _ (notes_fresh h v may up fresh) = laws.fresh h v may up fresh
notes-along machine_of setup I laws _ _ (notes_step h before v b e n is none t) =
    subst (λ (k : List Entry). I k v) (sym is) (laws.steps before b e v n none t (notes-along machine_of setup I laws before b n))
notes-along machine_of setup I laws _ _ (notes_lost h v b n shown is) =
    subst (I h) (sym is) (laws.loses h b n shown (notes-along machine_of setup I laws h b n))

-- ---- as long as the session isn't lost

failed-stays : (old new : View) → FailedNow old new → old.lost ≡ true → new.lost ≡ true
failed-stays old new (goes_on none is) was = ap (λ (v : View). v.lost) is ∙ was
failed-stays old new (gives_up xid up is) was = ap (λ (v : View). v.lost) is

begun-stays : (b : Bool) (old : View) (lane : ℕ) (machine : Machine) (now : ℕ) (new : View) → old.lost ≡ b → BeginsIf b old lane machine now new → old.lost ≡ true
    → new.lost ≡ true
begun-stays true old lane machine now new is t was = ap (λ (v : View). v.lost) t ∙ was
begun-stays false old lane machine now new is t was = absurd (let no_way : true ≡ false = sym was ∙ is in cc)

-- a lost session stays so
stays-lost : (machine_of : ℕ → Op → Machine) (h : List Entry) (old : View) (e : Entry) (new : View) → StepsTo machine_of h old e new → old.lost ≡ true → new.lost ≡ true
stays-lost machine_of h old (Began lane line op) new t was = begun-stays old.lost old lane (machine_of lane op) (last_reading 0 h) new refl t.step was
stays-lost machine_of h old (Answered lane line answer) new t was = ap (λ (v : View). v.lost) (answered_now old lane answer new t.answers).is.is ∙ was
stays-lost machine_of h old (Sent bytes) new t was = ap (λ (v : View). v.lost) (sent_now old bytes new t).is ∙ was
stays-lost machine_of h old (Delivered bytes) new t was = heard-lost old bytes new (heard old bytes t.result new t.hears) ∙ was
stays-lost machine_of h old Failed new (inl t) was = failed-stays old new (failed_now old t.0 new t.1) was
stays-lost machine_of h old Failed new (inr is) was = ap (λ (v : View). v.lost) is ∙ was
stays-lost machine_of h old (Dialed port) new is was = ap (λ (v : View). v.lost) is ∙ was
stays-lost machine_of h old (Executed xid call reply) new is was = ap (λ (v : View). v.lost) is ∙ was
stays-lost machine_of h old (Foreign call reply) new is was = ap (λ (v : View). v.lost) is ∙ was
stays-lost machine_of h old (Flushed file from len) new is was = ap (λ (v : View). v.lost) is ∙ was
stays-lost machine_of h old (Reboot verf) new is was = ap (λ (v : View). v.lost) is ∙ was
stays-lost machine_of h old (Clock ms) new is was = ap (λ (v : View). v.lost) is ∙ was

pub found-before : (machine_of : ℕ → Op → Machine) (h : List Entry) (old : View) (e : Entry) (new : View) → StepsTo machine_of h old e new → new.lost ≡ false
    → old.lost ≡ false
found-before machine_of h old e new t found = (elim old.lost as (λ b. old.lost ≡ b → old.lost ≡ false) [
  | true ↦ λ is. absurd (let no_way : true ≡ false = sym (stays-lost machine_of h old e new t is) ∙ found in cc)
  | false ↦ λ is. is
]) refl

-- It holds of a fresh core, and each entry that doesn't lose the session keeps it.
pub record KeepsFound (machine_of : ℕ → Op → Machine) (setup : Setup) (I : List Entry → View → Type 0) : Type 0 where
  pub fresh : (h : List Entry) (v : View) → MaySetUp setup → IsSetUp setup h → IsFresh setup v → I h v
  pub steps : (h : List Entry) (old : View) (e : Entry) (new : View) → Notes machine_of setup h old → (ComesAfter e → NoneReady old)
      → StepsTo machine_of h old e new → old.lost ≡ false → new.lost ≡ false → I h old → I (h ++ e ∷ []) new

pub notes-found : (machine_of : ℕ → Op → Machine) (setup : Setup) (I : List Entry → View → Type 0) → KeepsFound machine_of setup I
    → (h : List Entry) (v : View) → Notes machine_of setup h v → v.lost ≡ false → I h v
notes-found machine_of setup I laws _ _ (notes_fresh h v may up fresh) found = laws.fresh h v may up fresh
notes-found machine_of setup I laws _ _ (notes_step h before v b e n is none t) found =
    let was : b.lost ≡ false = found-before machine_of before b e v t found in
    subst (λ (k : List Entry). I k v) (sym is) (laws.steps before b e v n none t was found (notes-found machine_of setup I laws before b n was))
notes-found machine_of setup I laws _ _ (notes_lost h v b n shown is) found =
    absurd (let no_way : true ≡ false = ap (λ (w : View). w.lost) (sym is) ∙ found in cc)
