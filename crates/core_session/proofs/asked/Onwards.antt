-- From one view to a later one, and on from there.
use Rattle.core_session.proofs.Prelude.{◌≡◌, ◌≤◌, ℕ, List, [], ◌∷◌, ◌++◌, length, sym, ap, subst, ◌∙◌, append_assoc, append-nil, arith, Entry, Op, length_last, Machine, Setup, View}
use Rattle.core_session.proofs.room.Onward.{Onward, stays, steps, drops}

module _ (machine_of : ℕ → Op → Machine) (setup : Setup) where
  abbrev On : List Entry → View → List Entry → View → Type 0
  On = Onward machine_of setup

  pub onward-then : (g : List Entry) (a : View) (h : List Entry) (b : View) (k : List Entry) (c : View) → On g a h b → On h b k c → On g a k c
  onward-then g a h b _ _ first (stays k c is same) = subst (λ (l : List Entry). On g a l c) (sym is) (subst (On g a h) (sym same) first)
  onward-then g a h b _ _ first (steps k before c u e on r is t) = steps k before c u e (onward-then g a h b before u first on) r is t
  onward-then g a h b _ _ first (drops k c u on is) = drops k c u (onward-then g a h b k u first on) is

  -- what the history goes on with
  pub onward-rest : (g : List Entry) (a : View) (h : List Entry) (b : View) → On g a h b → (rest : List Entry) × (g ++ rest ≡ h)
  onward-rest g a _ _ (stays h b is same) = ([], append-nil g ∙ sym is)
  onward-rest g a _ _ (steps h before b u e on r is t) =
      let was = onward-rest g a before u on in (was.0 ++ e ∷ [], sym (append_assoc g was.0 (e ∷ [])) ∙ ap (λ (l : List Entry). l ++ e ∷ []) was.1 ∙ sym is)
  onward-rest g a _ _ (drops h b u on is) = onward-rest g a h u on

  pub onward-longer : (g : List Entry) (a : View) (h : List Entry) (b : View) → On g a h b → length g ≤ length h
  onward-longer g a _ _ (stays h b is same) = let one = ap length is in omega (arith, one)
  onward-longer g a _ _ (steps h before b u e on r is t) =
      let was = onward-longer g a before u on in
      let one = ap length is in
      let long = length_last before e in
      omega (arith, was, one, long)
  onward-longer g a _ _ (drops h b u on is) = onward-longer g a h u on
