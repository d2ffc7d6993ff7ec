-- As a session is lost, and from then on, what is kept stays as it is.
use Rattle.core_counts.proofs.Prelude.{◌≡◌, inl, inr, ℕ, List, ◌∷◌, [], ◌++◌, Bool, true, false, length, refl, sym, ap, subst, ◌∙◌, Entry, Began, Answered, Dialed, Sent, Executed, Foreign, Flushed, Reboot, Delivered, Failed, Clock, Op, Machine, Busy, Setup, counted, BeginsIf, View, StepsTo, Reaches, last_reading, dropped, replied, sent_now, FailedNow, goes_on, gives_up, failed_now, answered_now, taken_one}
use Rattle.core_facts.proofs.Cases.{Heard, heard}
use Rattle.core_facts.specs.Resting.{NoneBusy}
use Rattle.core_facts.proofs.Resting.{leads-lost, moves-lost, own-lost, own-none, none-moves, comes-to-rest}

module _ (machine_of : ℕ → Op → Machine) (setup : Setup) where
  begins-shelf : (b : Bool) (h : List Entry) (old new : View) (lane : ℕ) (op : Op) → old.lost ≡ b → new.lost ≡ true → BeginsIf b old lane (machine_of lane op) (last_reading 0 h) new
      → new.shelf ≡ old.shelf
  begins-shelf true h old new lane op was lost is = ap (λ (v : View). v.shelf) is
  begins-shelf false h old new lane op was lost b = absurd (
      let first : b.first.lost ≡ old.lost =
      leads-lost (record (counted old (last_reading 0 h)) { lanes = old.lanes ++ record { number = lane; state = Busy b.own.after } ∷ []; shelf = b.own.shelf }) (length old.lanes) lane b.own.after
      b.own.next b.first b.own.leads in
      let no_way : true ≡ false = sym lost ∙ moves-lost b.first new b.rest ∙ first ∙ was in cc)

  heard-shelf : (h : List Entry) (old : View) (rec : List ℕ) (new : View) → new.lost ≡ true → Reaches machine_of setup h old → Heard old rec new → new.shelf ≡ old.shelf
  heard-shelf h old rec new lost r (dropped none is) = ap (λ (v : View). v.shelf) is
  heard-shelf h old rec new lost r (replied xid call named waits f) =
      let was : old.lost ≡ true = sym (own-lost (taken_one old xid) rec call.purpose f.first f.own) ∙ sym (moves-lost f.first new f.rest) ∙ lost in
      let none : NoneBusy old = (comes-to-rest machine_of setup h old r).over was in
      let first : f.first ≡ taken_one old xid = own-none (taken_one old xid) rec call.purpose f.first none f.own in
      ap (λ (v : View). v.shelf) (none-moves f.first new f.rest (subst NoneBusy (sym first) none) ∙ first)

  failed-shelf : (old new : View) → FailedNow old new → new.shelf ≡ old.shelf
  failed-shelf old new (goes_on none is) = ap (λ (v : View). v.shelf) is
  failed-shelf old new (gives_up xid up is) = ap (λ (v : View). v.shelf) is

  pub lost-shelf : (h : List Entry) (old : View) (e : Entry) (new : View) → StepsTo machine_of h old e new → Reaches machine_of setup h old → new.lost ≡ true → new.shelf ≡ old.shelf
  lost-shelf h old (Began lane line op) new t r lost = begins-shelf old.lost h old new lane op refl lost t.step
  lost-shelf h old (Answered lane line answer) new t r lost = ap (λ (v : View). v.shelf) (answered_now old lane answer new t.answers).is.is
  lost-shelf h old (Sent bytes) new t r lost = ap (λ (v : View). v.shelf) (sent_now old bytes new t).is
  lost-shelf h old (Delivered bytes) new t r lost = heard-shelf h old bytes new lost r (heard old bytes t.result new t.hears)
  lost-shelf h old Failed new (inl t) r lost = failed-shelf old new (failed_now old t.0 new t.1)
  lost-shelf h old Failed new (inr t) r lost = ap (λ (v : View). v.shelf) t
  lost-shelf h old (Dialed port) new t r lost = ap (λ (v : View). v.shelf) t
  lost-shelf h old (Executed xid call reply) new t r lost = ap (λ (v : View). v.shelf) t
  lost-shelf h old (Foreign call reply) new t r lost = ap (λ (v : View). v.shelf) t
  lost-shelf h old (Flushed file from len) new t r lost = ap (λ (v : View). v.shelf) t
  lost-shelf h old (Reboot verf) new t r lost = ap (λ (v : View). v.shelf) t
  lost-shelf h old (Clock ms) new t r lost = ap (λ (v : View). v.shelf) t
