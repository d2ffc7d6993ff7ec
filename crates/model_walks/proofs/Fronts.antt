-- The first entries of a history, and the client after them.
use Rattle.std.proofs.Common.{inl, inr, ◌⊎◌, ◌≡◌, ◌<◌, ℕ, suc, List, [], ◌∷◌, ◌++◌, length, refl, sym, ap, ◌∙◌, append_assoc, arith}
use Rattle.world_model.specs.declared.entry.Entry.{Entry}
use Rattle.world_model.specs.Entries.{At}
use Rattle.world_model.specs.History.{History}
use Rattle.claims.specs.Modes.{Modes}
use Rattle.world_model.specs.Mounts.{Origin}
use Rattle.world_model.proofs.Places as places
use Rattle.model_walks.specs.Machine.{View, Enters}
use Rattle.model_walks.specs.Reaches.{Reaches, begins, enters, moves}

-- the history begins with h
pub record Begins (t : History) (h : List Entry) : Type 0 where
  pub rest : List Entry
  pub is : t.entries ≡ h ++ rest

pub length_last : (h : List Entry) (e : Entry) → length (h ++ e ∷ []) ≡ suc (length h)
length_last h e = let r = places.length_last h e in omega (arith, r)

pub before_begins : (t : History) (h : List Entry) (e : Entry) → Begins t (h ++ e ∷ []) → Begins t h
before_begins t h e b = record { rest = e ∷ b.rest; is = b.is ∙ append_assoc h (e ∷ []) b.rest }

pub At-told : (t : History) (h : List Entry) (i : ℕ) (e : Entry) → Begins t h → At h i e → At t.entries i e
At-told t h i e b at = rw b.is (places.At-grow h b.rest i e at)

pub At-past : (t : History) (h : List Entry) (i : ℕ) (e : Entry) → Begins t h → i < length h → At t.entries i e → At h i e
At-past t h i e b lt at = places.At-back h b.rest i e (rw b.is at at) lt

pub last_told : (t : History) (h : List Entry) (e : Entry) → Begins t (h ++ e ∷ []) → At t.entries (length h) e
last_told t h e b = At-told t (h ++ e ∷ []) (length h) e b (places.At-last h e)

-- The client before and after the entry at a place.
pub record Entered (m : Modes) (origin : Origin) (t : History) (h : List Entry) (n : ℕ) (e : Entry) : Type 0 where
  pub first : List Entry
  pub rest : List Entry
  pub before : View
  pub after : View
  pub is : h ≡ first ++ e ∷ rest
  pub long : length first ≡ n
  pub reached : Reaches m origin t first before
  pub enters : Enters m origin t n before e after

pub entered_at : (m : Modes) (origin : Origin) (t : History) (h : List Entry) (c : View) → Reaches m origin t h c → (n : ℕ) (e : Entry) → At h n e → Entered m origin t h n e
entered_at m origin t _ _ (begins h c is new) n e at = absurd (let r = places.At-below h n e at in let l : length h ≡ 0 = rw is refl in omega (arith, r, l))
entered_at m origin t _ _ (moves h c b r move) n e at = entered_at m origin t h b r n e at
entered_at m origin t _ _ (enters h c front b d r is step) n e at = by (λ old. entered_at m origin t front b r n e old) (places.At-cases front d n e (rw is at at))
  where
    by : (At front n e → Entered m origin t front n e) → At front n e ⊎ ((n ≡ length front) × (d ≡ e)) → Entered m origin t h n e
    by more (inl old) =
        let o = more old in
        record {
          first = o.first;
          rest = o.rest ++ d ∷ [];
          before = o.before;
          after = o.after;
          is = is ∙ ap (λ z. z ++ d ∷ []) o.is ∙ append_assoc o.first (e ∷ o.rest) (d ∷ []);
          long = o.long;
          reached = o.reached;
          enters = o.enters;
        }
    by more (inr last) = record {
      first = front;
      rest = [];
      before = b;
      after = c;
      is = rw (← last.1) is;
      long = sym last.0;
      reached = r;
      enters = rw (last.0, ← last.1) step;
    }

pub entered_begins : (m : Modes) (origin : Origin) (t : History) (n : ℕ) (e : Entry) (o : Entered m origin t t.entries n e) → Begins t o.first
entered_begins m origin t n e o = record { rest = e ∷ o.rest; is = o.is }
