-- A history in which answers are noted before records are sent and received is one that the core goes with, and shows it at each place.
use Rattle.core_facts.proofs.Prelude.{inl, inr, ◌⊎◌, ◌≡◌, ◌<◌, ℕ, List, [], ◌∷◌, ◌++◌, length, sym, ap, subst, ◌∙◌, arith, append_assoc, Entry, Began, Op, At, At-back, At-below, At-cases, Machine, Setup, View, StepsTo, Reaches, begins, goes, loses}
use Rattle.claims.specs.CallsAsked.{NoneBegan}
use Rattle.core_facts.specs.Notes.{NoneReady, ComesAfter, Notes, notes_fresh, notes_step, notes_lost, IsAfterAnswers}

pub notes-reach : (machine_of : ℕ → Op → Machine) (setup : Setup) (h : List Entry) (v : View) → Notes machine_of setup h v → Reaches machine_of setup h v
notes-reach machine_of setup _ _ (notes_fresh h v may up fresh) = begins h v may up fresh
notes-reach machine_of setup _ _ (notes_step h before v b e n is none t) = goes h before v b e (notes-reach machine_of setup before b n) is t
notes-reach machine_of setup _ _ (notes_lost h v b n shown is) = loses h v b (notes-reach machine_of setup h b n) shown is

module _ (machine_of : ℕ → Op → Machine) (setup : Setup) where
  -- no operation had begun by the place, or no answer was ready there
  abbrev Shows : List Entry → ℕ → Entry → Type 0
  Shows h i e = NoneBegan h i ⊎ IsAfterAnswers machine_of setup h i e

  after-more : (h : List Entry) (d : Entry) (i : ℕ) (e : Entry) → IsAfterAnswers machine_of setup h i e → IsAfterAnswers machine_of setup (h ++ d ∷ []) i e
  after-more h d i e a = record {
    before = a.before;
    after = a.after ++ d ∷ [];
    is = ap (λ (k : List Entry). k ++ d ∷ []) a.is ∙ append_assoc a.before (e ∷ a.after) (d ∷ []);
    there = a.there;
    old = a.old;
    notes = a.notes;
    none = a.none;
    new = a.new;
    step = a.step;
  }

  none-more : (h : List Entry) (d : Entry) (i : ℕ) → i < length h → NoneBegan h i → NoneBegan (h ++ d ∷ []) i
  none-more h d i within none j lane line op at low = none j lane line op (At-back h (d ∷ []) j (Began lane line op) at (omega (arith, within, low))) low

  later : (h : List Entry) (d : Entry) (i : ℕ) (e : Entry) → At h i e → Shows h i e → Shows (h ++ d ∷ []) i e
  later h d i e at (inl none) = inl (none-more h d i (At-below h i e at) none)
  later h d i e at (inr after) = inr (after-more h d i e after)

  -- the last entry
  now : (h : List Entry) (old : View) (d : Entry) (new : View) (i : ℕ) (e : Entry) → Notes machine_of setup h old → (ComesAfter d → NoneReady old)
      → StepsTo machine_of h old d new → i ≡ length h → d ≡ e → ComesAfter e → IsAfterAnswers machine_of setup (h ++ d ∷ []) i e
  now h old d new i e n none t place same comes = record {
    before = h;
    after = [];
    is = ap (λ (x : Entry). h ++ x ∷ []) same;
    there = sym place;
    old = old;
    notes = n;
    none = none (subst ComesAfter (sym same) comes);
    new = new;
    step = subst (λ (x : Entry). StepsTo machine_of h old x new) same t;
  }

  pub answers-first : (h : List Entry) (v : View) → Notes machine_of setup h v → (i : ℕ) (e : Entry) → At h i e → ComesAfter e → Shows h i e
  answers-first _ _ (notes_fresh h v may up fresh) i e at comes = inl (λ j lane line op began low. up.unbegun j lane line op began)
  answers-first _ _ (notes_step h before v b d n is none t) i e at comes =
      let earlier : At before i e → Shows before i e = λ there. answers-first before b n i e there comes in
      subst (λ (k : List Entry). Shows k i e) (sym is) (elim (At-cases before d i e (subst (λ (k : List Entry). At k i e) is at)) [
        | inl there ↦ later before d i e there (earlier there)
        | inr last ↦ inr (now before b d v i e n none t last.0 last.1 comes)
      ])
  answers-first _ _ (notes_lost h v b n shown is) i e at comes = answers-first h b n i e at comes
