-- What a session makes of a link that is told anew, said of the link itself.
use Rattle.std.proofs.Common.{if◌then◌else◌, ◌≡◌, ◌-◌, ℕ, zero, suc, Bool, true, false, List, [], ◌∷◌, ◌++◌, length, Option, Some, None, refl, sym, ap, subst, ◌∙◌, arith}
use Rattle.world_model.specs.declared.entry.Entry.{Entry}
use Rattle.world_model.specs.Entries.{ours}
use Rattle.world_model.specs.History.{History}
use Rattle.world_model.specs.Told.{Relates}
use Rattle.world_model.proofs.Histories.{ours-append}
use Rattle.anew_link.specs.Anew.{KeepsCount, anew, aside, is_own, rest_anew, since, told_anew}
use Rattle.anew_link.proofs.Splits.{aside-none, by-own, ours-none, ours-own}

-- ---- a history whose entries of the client are all left out has none

aside-no : (e : Entry) (es : List Entry) → is_own e ≡ false → ours es ≡ [] → ours (aside e ++ es) ≡ []
aside-no e es is none = ours-append (aside e) es ∙ ap (λ (l : List Entry). l ++ ours es) (aside-none e is) ∙ none

module _ (e : Entry) (es : List Entry) where
  own-left : (k n : ℕ) → is_own e ≡ true → k ≡ length (ours (e ∷ es)) → n ≡ length (ours es) → ours (anew n es) ≡ [] → ours (anew k (e ∷ es)) ≡ []
  own-left zero n is all here none = let more = ap (λ (l : List Entry). length l) (ours-own e es is) in absurd (omega (arith, all, more))
  own-left (suc k) n is all here none =
      let more = ap (λ (l : List Entry). length l) (ours-own e es is) in
      let same : k ≡ n = omega (arith, all, more, here) in
      ap ours (by-own true e (anew k es) (aside e ++ anew (suc k) es) is) ∙ ap (λ (j : ℕ). ours (anew j es)) same ∙ none

  other-left : (k : ℕ) → is_own e ≡ false → ours (anew k es) ≡ [] → ours (anew k (e ∷ es)) ≡ []
  other-left zero is none = ap ours (by-own false e (e ∷ es) (aside e ++ rest_anew es) is) ∙ aside-no e (rest_anew es) is none
  other-left (suc k) is none = ap ours (by-own false e (anew k es) (aside e ++ anew (suc k) es) is) ∙ aside-no e (anew (suc k) es) is none

  either-left : (b : Bool) → is_own e ≡ b → ours (anew (length (ours es)) es) ≡ [] → ours (anew (length (ours (e ∷ es))) (e ∷ es)) ≡ []
  either-left true is none = own-left (length (ours (e ∷ es))) (length (ours es)) is refl refl none
  either-left false is none =
      let same : length (ours (e ∷ es)) ≡ length (ours es) = ap (λ (l : List Entry). length l) (ours-none e es is) in
      subst (λ (k : ℕ). ours (anew k (e ∷ es)) ≡ []) (sym same) (other-left (length (ours es)) is none)

pub all-left : (h : List Entry) → ours (since h h) ≡ []
all-left [] = refl
all-left (e ∷ es) = either-left e es (is_own e) refl (all-left es)

-- ---- what holds of the link that is told anew, of the link

pub relates-anew : (own : ℕ) (a b : Option History) (R : List Entry → List Entry → Type 0) → KeepsCount 0 own a b → Relates (told_anew 0 a) (told_anew own b) R
    → Relates a b (λ h k. R (since h h) (since h k))
relates-anew own None b R keeps r = tt
relates-anew own (Some a) None R keeps r = absurd r
relates-anew own (Some a) (Some b) R keeps r =
    let first : length (ours a.entries) - 0 ≡ length (ours a.entries) = omega arith in
    subst (λ (k : ℕ). R (anew (length (ours a.entries)) a.entries) (anew k b.entries)) (keeps ∙ first)
    (subst (λ (k : ℕ). R (anew k a.entries) (anew (length (ours b.entries) - own) b.entries)) first r)

-- where it holds of a history without an entry of the client's
pub relates-since : (first own : ℕ) (a b : Option History) (R : List Entry → List Entry → Type 0) → first ≡ 0 → KeepsCount first own a b
    → Relates (told_anew first a) (told_anew own b) (λ h k. ours h ≡ [] → R h k) → Relates a b (λ h k. R (since h h) (since h k))
relates-since first own None b R start keeps r = tt
relates-since first own (Some a) None R start keeps r = absurd keeps
relates-since first own (Some a) (Some b) R start keeps r =
    let none : KeepsCount 0 own (Some a) (Some b) = subst (λ (n : ℕ). KeepsCount n own (Some a) (Some b)) start keeps in
    let from : Relates (told_anew 0 (Some a)) (told_anew own (Some b)) (λ h k. ours h ≡ [] → R h k) =
    subst (λ (n : ℕ). Relates (told_anew n (Some a)) (told_anew own (Some b)) (λ h k. ours h ≡ [] → R h k)) start r in
    relates-anew own (Some a) (Some b) (λ h k. ours h ≡ [] → R h k) none from (all-left a.entries)
