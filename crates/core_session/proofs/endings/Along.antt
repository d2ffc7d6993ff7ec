-- A core that went with a history passed through views from which it went on to the last one; and where a record was sent next, no answer was ready.
use Rattle.core_session.proofs.Prelude.{◌≡◌, ℕ, List, [], ◌∷◌, ◌++◌, length, refl, sym, ap, subst, ◌∙◌, append_assoc, Entry, Sent, Op, At, At-grow, At-last, At-one, Machine, Setup, View, StepsTo, Reaches, Notes, NoneReady, notes-reach}
use Rattle.core_facts.specs.Notes.{notes_fresh, notes_step, notes_lost, ComesAfter}
use Rattle.core_facts.proofs.Passing.{Passes, passes_fresh, passes_step, passes_lost}
use Rattle.core_session.proofs.asked.Onwards.{onward-then, onward-rest}
use Rattle.core_session.proofs.room.Onward.{Onward, stays, steps, drops}

module _ (machine_of : ℕ → Op → Machine) (setup : Setup) (whole : List Entry) (last : View) where
  -- what is known of a view before an entry
  pub record Here (before : List Entry) (b : View) : Type 0 where
    pub on : Onward machine_of setup before b whole last
    pub none : (bytes : List ℕ) → At whole (length before) (Sent bytes) → NoneReady b

  one-step : (h before : List Entry) (v b : View) (e : Entry) → Reaches machine_of setup before b → h ≡ before ++ e ∷ [] → StepsTo machine_of before b e v
      → Onward machine_of setup before b h v
  one-step h before v b e r is t = steps h before v b e (stays before b refl refl) r is t

  -- the entry after a history is the one that comes next
  next-is : (h before : List Entry) (v : View) (e other : Entry) → h ≡ before ++ e ∷ [] → Onward machine_of setup h v whole last → At whole (length before) other → other ≡ e
  next-is h before v e other is on at =
      let rest = onward-rest machine_of setup h v whole last on in
      let longer : (before ++ e ∷ []) ++ rest.0 ≡ whole = ap (λ (k : List Entry). k ++ rest.0) (sym is) ∙ rest.1 in
      At-one whole (length before) other e at (subst (λ (k : List Entry). At k (length before) e) longer (At-grow (before ++ e ∷ []) rest.0 (length before) e (At-last before e)))

  pub passes-on : (h : List Entry) (v : View) → Notes machine_of setup h v → Onward machine_of setup h v whole last → Passes machine_of setup Here h v
  passes-on _ _ (notes_fresh h v may up fresh) on = passes_fresh h v may up fresh
  passes-on _ _ (notes_step h before v b e n is ready t) on =
      let step = one-step h before v b e (notes-reach machine_of setup before b n) is t in
      let further = onward-then machine_of setup before b h v whole last step on in
      passes_step h before v b e (passes-on before b n further)
      (record { on = further; none = λ bytes at. ready (subst ComesAfter (next-is h before v e (Sent bytes) is on at) tt) })
      is t
  passes-on _ _ (notes_lost h v b n shown is) on = passes_lost h v b (passes-on h b n (onward-then machine_of setup h b h v whole last (drops h v b (stays h b refl refl) is) on)) shown is
