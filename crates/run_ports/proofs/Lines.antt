-- A command line in which two options stand first is taken alike whatever their values are.
use Rattle.std.proofs.Common.{◌≡◌, false, List, [], ◌∷◌, Some, refl, sym, ap, subst, ◌∙◌}
use Rattle.std.specs.Prelude.{fold}
use Rattle.clap.specs.Faults.{check_fault, defaults_fault, level_fault, settle_fault, turn_fault, walk_fault}
use Rattle.clap.specs.Kinds.{Kinds, or_else}
use Rattle.clap.specs.Simple.{Shape}
use Rattle.clap.specs.Walk.{Held, Row, Rule, Text, Walk, idle, finished, nothing_held, reading_by, settled, settled_rows, walk, walk_from, walked}
use Rattle.run_ports.proofs.Rows.{AreFine, first_none, second_none, both_none, given_row, Rows}
use Rattle.run_ports.proofs.Walks.{at_walk, Settles, ports_alike}
use Rattle.run_ports.proofs.Options.{IsPlain, NamesOption, after_both, both_fault}

-- a command with two such options
pub record TwoOptions (s : Shape) (ra rb : Rule) (wa wb : Text) : Type 0 where
  pub over : s.args_override_self ≡ false
  pub fine : AreFine s.rules
  pub names_a : NamesOption s ra wa
  pub names_b : NamesOption s rb wb
  pub first : (v : Text) → settled_rows s.rules (Some (ra.id, v ∷ [])) [] ≡ given_row ra.id (reading_by ra) v ∷ []
  pub first_fault : (v : Text) → settle_fault s.rules s.args_override_self (record { rows = []; pending = Some (ra.id, v ∷ []); skip = 0 }) ≡ []
  pub own : (v w v' w' : Text) → Settles s over fine ra.id rb.id (reading_by ra) (reading_by rb) v w v' w'

module _ (s : Shape) (ra rb : Rule) (wa wb : Text) (c : TwoOptions s ra rb wa wb) where
  -- the faults from a walk on
  abbrev end_fault : Held → Kinds
  end_fault h = or_else [] (or_else (settle_fault s.rules s.args_override_self h) (or_else (defaults_fault (settled s.rules h).rows s.rules) (check_fault s (finished s.rules h) false)))

  abbrev tail_fault : Walk → List Text → Kinds
  tail_fault x ws = or_else (walk_fault s [] x ws) (end_fault (fold (walked s.rules []) x ws).held)

  abbrev pub words : Text → Text → List Text → List Text
  words v w ws = wa ∷ v ∷ wb ∷ w ∷ ws

  -- what is held once both stand there
  abbrev held_by : Text → Text → Held
  held_by v w = record { rows = given_row ra.id (reading_by ra) v ∷ []; pending = Some (rb.id, w ∷ []); skip = 0 }

  abbrev one_held : Text → Held
  one_held v = record { rows = []; pending = Some (ra.id, v ∷ []); skip = 0 }

  abbrev two_walked : Text → Walk
  two_walked v = walked s.rules [] (walked s.rules [] (walk_from nothing_held) wa) v

  abbrev four_walked : Text → Text → Walk
  four_walked v w = walked s.rules [] (walked s.rules [] (two_walked v) wb) w

  two_are : (v : Text) → IsPlain v → two_walked v ≡ at_walk (one_held v) idle 1 false
  two_are v p = after_both s ra wa v c.names_a p nothing_held 1

  four_are : (v w : Text) → IsPlain v → IsPlain w → four_walked v w ≡ at_walk (held_by v w) idle 1 false
  four_are v w p q =
      ap (λ (z : Walk). walked s.rules [] (walked s.rules [] z wb) w) (two_are v p) ∙ after_both s rb wb w c.names_b q (one_held v) 1
      ∙ ap (λ (z : List Row). at_walk (record { rows = z; pending = Some (rb.id, w ∷ []); skip = 0 }) idle 1 false) (c.first v)

  four_faults : (v w : Text) → IsPlain v → IsPlain w → (more : Kinds) → more ≡ []
      → or_else (turn_fault s [] (walk_from nothing_held) wa) (or_else (turn_fault s [] (walked s.rules [] (walk_from nothing_held) wa) v)
      (or_else (turn_fault s [] (two_walked v) wb) (or_else (turn_fault s [] (walked s.rules [] (two_walked v) wb) w) more))) ≡ []
  four_faults v w p q more e =
      let x = both_fault s ra wa v c.names_a p nothing_held 1 refl in
      let y = both_fault s rb wb w c.names_b q (one_held v) 1 (c.first_fault v) in
      let is = sym (two_are v p) in
      both_none _ _ x.0 (both_none _ _ x.1 (both_none _ _ (subst (λ (z : Walk). turn_fault s [] z wb ≡ []) is y.0)
      (both_none _ _ (subst (λ (z : Walk). turn_fault s [] (walked s.rules [] z wb) w ≡ []) is y.1) e)))

  -- the level from the four words on
  opened : (v w : Text) (ws : List Text) → level_fault s [] nothing_held (words v w ws) false [] ≡ [] → tail_fault (four_walked v w) ws ≡ []
  unfolding walk_fault
  opened v w ws e =
      let f = first_none _ _ e in
      let g = second_none (turn_fault s [] (walk_from nothing_held) wa) _ f in
      let i = second_none (turn_fault s [] (walked s.rules [] (walk_from nothing_held) wa) v) _ g in
      let j = second_none (turn_fault s [] (two_walked v) wb) _ i in
      let l = second_none (turn_fault s [] (walked s.rules [] (two_walked v) wb) w) _ j in
      both_none (walk_fault s [] (four_walked v w) ws) _ l (second_none (walk_fault s [] (walk_from nothing_held) (words v w ws)) _ e)

  closed : (v w : Text) (ws : List Text) → IsPlain v → IsPlain w → tail_fault (four_walked v w) ws ≡ [] → level_fault s [] nothing_held (words v w ws) false [] ≡ []
  unfolding walk_fault
  closed v w ws p q e =
      both_none (walk_fault s [] (walk_from nothing_held) (words v w ws)) _ (four_faults v w p q (walk_fault s [] (four_walked v w) ws) (first_none _ _ e)) (second_none (walk_fault s [] (four_walked v w) ws) _ e)

  abbrev pub rows_of_line : Text → Text → List Text → List Row
  rows_of_line v w ws = finished s.rules (walk s.rules [] nothing_held (words v w ws)).held

  abbrev RowsIn : (v w v' w' : Text) → List Row → List Row → Type 0
  RowsIn v w v' w' x y = Rows s.args_override_self c.over ra.id rb.id (reading_by ra) (reading_by rb) v w v' w' x y

  pub record LineAlike (v w v' w' : Text) (ws : List Text) : Type 0 where
    pub fault : level_fault s [] nothing_held (words v' w' ws) false [] ≡ []
    pub rows : Rows s.args_override_self c.over ra.id rb.id (reading_by ra) (reading_by rb) v w v' w' (rows_of_line v w ws) (rows_of_line v' w' ws)

  pub line_alike : (v w v' w' : Text) (ws : List Text) → IsPlain v → IsPlain w → IsPlain v' → IsPlain w' → level_fault s [] nothing_held (words v w ws) false [] ≡ [] → LineAlike v w v' w' ws
  line_alike v w v' w' ws p q p' q' e =
      let is = four_are v w p q in
      let too = four_are v' w' p' q' in
      let f = subst (λ (z : Walk). tail_fault z ws ≡ []) is (opened v w ws e) in
      let g = ports_alike s c.over c.fine ra.id rb.id (reading_by ra) (reading_by rb) v w v' w' (c.own v w v' w') 1 ws (held_by v w) (held_by v' w') refl refl f in
      record {
        fault = closed v' w' ws p' q' (subst (λ (z : Walk). tail_fault z ws ≡ []) (sym too) g.fault);
        rows = subst (λ (z : Walk). RowsIn v w v' w' (finished s.rules (fold (walked s.rules []) z ws).held) (rows_of_line v' w' ws)) (sym is)
            (subst (λ (z : Walk). RowsIn v w v' w' (finished s.rules (fold (walked s.rules []) (at_walk (held_by v w) idle 1 false) ws).held) (finished s.rules (fold (walked s.rules []) z ws).held)) (sym too) g.rows);
      }
