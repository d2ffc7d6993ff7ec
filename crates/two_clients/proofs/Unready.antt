-- A client that began no line, while the other one went on.
use Rattle.std.proofs.Common.{inl, inr, ◌≡◌, ◌⊎◌, ℕ, zero, suc, List, [], ◌∷◌, ◌++◌, Result, refl, sym, subst}
use Rattle.world_model.specs.declared.answer.Answer.{Answer}
use Rattle.world_model.specs.declared.entry.Entry.{Entry}
use Rattle.world_model.specs.declared.entry.Entry.TheVariants.{Began, Answered, Dialed, Sent, Executed, Foreign, Flushed, Reboot, Delivered, Failed, Clock}
use Rattle.world_model.specs.Entries.{At, ours}
use Rattle.claims.specs.Terms.{Terms}
use Rattle.link_dials.specs.Sendings.{Resends}
use Rattle.session_words.specs.declared.settings.Settings.{Settings}
use Rattle.session_setup.specs.declared.opening.SetUp.{SetUp}
use Rattle.session_setup.specs.declared.opening.SetUpFault.{SetUpFault}
use Rattle.session_setup.specs.Origins.{terms_by}
use Rattle.session_setup.specs.Outcomes.{SetsUp}
use Rattle.session_setup.specs.Sendings.{IsUnmarked}
use Rattle.nfs_client.proofs.Hushed.{AreHushed, hushed-among}
use Rattle.nfs_client.proofs.Quiet.{IsQuiet}
use Rattle.nfs_client.proofs.SetUpAlone.{split-at, asked-so, set-up-so}

-- ---- what isn't the client's own

pub unseen-hushed : (more : List Entry) → ours more ≡ [] → AreHushed more
unseen-hushed more none = hushed-among more (λ i e at. absurd (let at_none : At [] i e = subst (λ (l : List Entry). At l i e) none at in cc))

unseen-one : (e : Entry) (more : List Entry) → ours (e ∷ more) ≡ [] → (ours (e ∷ []) ≡ []) × (ours more ≡ [])
unseen-one (Executed xid call reply) more none = (refl, none)
unseen-one (Foreign call reply) more none = (refl, none)
unseen-one (Flushed file from len) more none = (refl, none)
unseen-one (Reboot verf) more none = (refl, none)
unseen-one (Began lane line op) more none = absurd cc
unseen-one (Answered lane line answer) more none = absurd cc
unseen-one (Dialed port) more none = absurd cc
unseen-one (Sent bytes) more none = absurd cc
unseen-one (Delivered bytes) more none = absurd cc
unseen-one Failed more none = absurd cc
unseen-one (Clock ms) more none = absurd cc

pub unseen-at : (more : List Entry) → ours more ≡ [] → (i : ℕ) (e : Entry) → At more i e → ours (e ∷ []) ≡ []
unseen-at [] none i e at = absurd cc
unseen-at (d ∷ more) none zero e at = subst (λ (x : Entry). ours (x ∷ []) ≡ []) (let is : d ≡ e = cc in is) (unseen-one d more none).0
unseen-at (d ∷ more) none (suc i) e at = unseen-at more (unseen-one d more none).1 i e at

unanswered : (more : List Entry) → ours more ≡ [] → (i lane line : ℕ) (answer : Answer) → At more i (Answered lane line answer) → ⊥
unanswered more none i lane line answer at = let own : Answered lane line answer ∷ [] ≡ [] = unseen-at more none i (Answered lane line answer) at in cc

-- it leaves a history unmarked
pub unseen-unmarked : (before more : List Entry) → ours more ≡ [] → IsUnmarked before → IsUnmarked (before ++ more)
unseen-unmarked before more none u = record {
  began = λ i lane line op at. elim (split-at before more i (Began lane line op) at) [
    | inl old ↦ u.began i lane line op old
    | inr new ↦ absurd (let own : Began lane line op ∷ [] ≡ [] = unseen-at more none new.0 (Began lane line op) new.2 in cc)
  ];
  answered = λ i lane line answer at. elim (split-at before more i (Answered lane line answer) at) [
    | inl old ↦ u.answered i lane line answer old
    | inr new ↦ absurd (unanswered more none new.0 lane line answer new.2)
  ];
  clock = λ i ms at. elim (split-at before more i (Clock ms) at) [
    | inl old ↦ u.clock i ms old
    | inr new ↦ absurd (let own : Clock ms ∷ [] ≡ [] = unseen-at more none new.0 (Clock ms) new.2 in cc)
  ];
}

-- ---- a client that was set up alone

pub unready-quiet : (s : Settings) (first : ℕ) (result : Result SetUp SetUpFault) (before more : List Entry) → SetsUp s first result before → ours more ≡ []
    → IsQuiet (terms_by s first) (before ++ more)
unready-quiet s first result before more so none = record {
  asked = asked-so s first result before more so (unseen-hushed more none);
  set_up = set-up-so s first result before more so (unseen-hushed more none);
  lost = λ j lane line answer at. elim (split-at before more j (Answered lane line answer) at) [
    | inl old ↦ absurd (so.unmarked.answered j lane line answer old)
    | inr new ↦ absurd (unanswered more none new.0 lane line answer new.2)
  ];
}

-- ---- one that did nothing

module _ (h : List Entry) (none : ours h ≡ []) where
  unsent : (i : ℕ) (sent : List ℕ) → At h i (Sent sent) → ⊥
  unsent i sent at = unseen-hushed h none i (Sent sent) at

  pub unseen-quiet : (terms : Terms) → IsQuiet terms h
  unseen-quiet terms = record {
    asked = record {
      caused = λ i sent at. absurd (unsent i sent at);
      among = λ i xid sent at has. absurd (unsent i sent at);
      equal = λ i j xid a b at other has same. absurd (unsent i a at);
      single = λ i j x y a b call other at its s t are. absurd (unsent i a at);
      unrepeated = λ g i xid reply sent answers at has. absurd (unsent i sent at);
    };
    set_up = λ i sent at. absurd (unsent i sent at);
    lost = λ j lane line answer at. absurd (unanswered h none j lane line answer at);
  }

  pub unseen-resends : Resends h
  unseen-resends i j xid waits begun fi fj early less = absurd (unseen-hushed h none i Failed fi)

pub empty-unmarked : IsUnmarked []
empty-unmarked = record { began = λ i lane line op at. cc; answered = λ i lane line answer at. cc; clock = λ i ms at. cc }
