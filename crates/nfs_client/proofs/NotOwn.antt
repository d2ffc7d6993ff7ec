-- A history without an entry of the client's own.
use Rattle.std.proofs.Common.{◌≡◌, ℕ, zero, suc, List, [], ◌∷◌, refl, subst}
use Rattle.world_model.specs.declared.answer.Answer.{Answer}
use Rattle.world_model.specs.declared.entry.Entry.{Entry}
use Rattle.world_model.specs.declared.entry.Entry.TheVariants.{Began, Answered, Dialed, Sent, Executed, Foreign, Flushed, Reboot, Delivered, Failed, Clock}
use Rattle.world_model.specs.Entries.{At, ours}
use Rattle.claims.specs.Terms.{Terms}
use Rattle.session_setup.specs.Sendings.{IsUnmarked}
use Rattle.nfs_client.proofs.Quiet.{IsQuiet}

-- so none of its entries is
pub not-own : (h : List Entry) → ours h ≡ [] → (i : ℕ) (e : Entry) → At h i e → ours (e ∷ []) ≡ []
not-own [] q i e at = absurd cc
not-own (Executed xid call reply ∷ h) q zero e at = subst (λ (d : Entry). ours (d ∷ []) ≡ []) (let same : Executed xid call reply ≡ e = cc in same) refl
not-own (Executed xid call reply ∷ h) q (suc i) e at = not-own h q i e at
not-own (Foreign call reply ∷ h) q zero e at = subst (λ (d : Entry). ours (d ∷ []) ≡ []) (let same : Foreign call reply ≡ e = cc in same) refl
not-own (Foreign call reply ∷ h) q (suc i) e at = not-own h q i e at
not-own (Flushed file from len ∷ h) q zero e at = subst (λ (d : Entry). ours (d ∷ []) ≡ []) (let same : Flushed file from len ≡ e = cc in same) refl
not-own (Flushed file from len ∷ h) q (suc i) e at = not-own h q i e at
not-own (Reboot verf ∷ h) q zero e at = subst (λ (d : Entry). ours (d ∷ []) ≡ []) (let same : Reboot verf ≡ e = cc in same) refl
not-own (Reboot verf ∷ h) q (suc i) e at = not-own h q i e at
not-own (Began lane line op ∷ h) q i e at = absurd cc
not-own (Answered lane line answer ∷ h) q i e at = absurd cc
not-own (Clock ms ∷ h) q i e at = absurd cc
not-own (Dialed port ∷ h) q i e at = absurd cc
not-own (Sent bytes ∷ h) q i e at = absurd cc
not-own (Delivered bytes ∷ h) q i e at = absurd cc
not-own (Failed ∷ h) q i e at = absurd cc

module _ (h : List Entry) (q : ours h ≡ []) where
  unsent : (i : ℕ) (bytes : List ℕ) → At h i (Sent bytes) → ⊥
  unsent i bytes at = let n = not-own h q i (Sent bytes) at in absurd cc

  unanswered : (i lane line : ℕ) (answer : Answer) → At h i (Answered lane line answer) → ⊥
  unanswered i lane line answer at = let n = not-own h q i (Answered lane line answer) at in absurd cc

  -- nothing is marked
  pub own-unmarked : IsUnmarked h
  own-unmarked = record {
    began = λ i lane line op at. let n = not-own h q i (Began lane line op) at in absurd cc;
    answered = unanswered;
    clock = λ i ms at. let n = not-own h q i (Clock ms) at in absurd cc;
  }

  -- nor is a call made
  pub own-quiet : (terms : Terms) → IsQuiet terms h
  own-quiet terms = record {
    asked = record {
      caused = λ i sent at. absurd (unsent i sent at);
      among = λ i xid sent at has. absurd (unsent i sent at);
      equal = λ i j xid a b at other has same. absurd (unsent i a at);
      single = λ i j x y a b call other at its s t are. absurd (unsent i a at);
      unrepeated = λ g i xid reply sent answers at has. absurd (unsent i sent at);
    };
    set_up = λ i sent at. absurd (unsent i sent at);
    lost = λ j lane line answer at. absurd (unanswered j lane line answer at);
  }
