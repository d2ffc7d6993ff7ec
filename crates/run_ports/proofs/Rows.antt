-- Two walks of `clap` over command lines that differ in the ports alone: their rows.
use Rattle.std.proofs.Common.{◌≡◌, Bool, true, false, ◌||◌, List, [], ◌∷◌, length, Option, Some, None, refl, sym, ap, subst, ◌∙◌}
use Rattle.std.specs.Prelude.{cond, fold, find}
use Rattle.std.specs.Str.{bytes_eq}
use Rattle.clap.specs.Facts.{unwrap_or_range}
use Rattle.clap.specs.Faults.{repeat_fault, set_fault, action_fault, use_fault, default_fault, defaults_fault}
use Rattle.clap.specs.Kinds.{Kinds, or_else, range_kinds}
use Rattle.clap.specs.Takes.{is_given}
use Rattle.clap.specs.Walk.{Row, Rule, Text, action_of, at_row, default_rows, first_of, has_row, more_values, most_values, reading_by, takes_several, used, used_as, values_or_missing, with_default, with_values, without}
use Rattle.clap.specs.declared.builder.action.ArgAction.{ArgAction}
use Rattle.clap.specs.declared.builder.action.ArgAction.TheVariants.{Set, Append, SetTrue, SetFalse, Count, Help, HelpShort, HelpLong, Version}
use Rattle.clap.specs.declared.builder.value_parser.Reading.{Reading}
use Rattle.clap.specs.declared.parser.matches.ValueSource.{ValueSource}
use Rattle.clap.specs.declared.parser.matches.ValueSource.TheVariants.{DefaultValue, CommandLine}

-- ---- kinds of error

pub first_none : (x y : Kinds) → or_else x y ≡ [] → x ≡ []
first_none [] y e = refl
first_none (k ∷ ks) y e = absurd cc

pub second_none : (x y : Kinds) → or_else x y ≡ [] → y ≡ []
second_none [] y e = e
second_none (k ∷ ks) y e = absurd cc

pub both_none : (x y : Kinds) → x ≡ [] → y ≡ [] → or_else x y ≡ []
both_none x y p q = subst (λ (z : Kinds). or_else z y ≡ []) (sym p) q

-- ---- arguments that are used once, and have one value or none

abbrev pub IsOnce : ArgAction → Type 0
IsOnce Append = ⊥
IsOnce Count = ⊥
IsOnce action = Unit {0}

pub record IsFine (r : Rule) : Type 0 where
  pub once : IsOnce (action_of r)
  pub single : takes_several r ≡ false

abbrev pub AreFine : List Rule → Type 0
AreFine [] = Unit {0}
AreFine (r ∷ rs) = IsFine r × AreFine rs

abbrev pub FoundFine : Option Rule → Type 0
FoundFine None = Unit {0}
FoundFine (Some r) = IsFine r

fine_by : (t : Bool) (r : Rule) (o : Option Rule) → IsFine r → FoundFine o → FoundFine (cond t (Some r) o)
fine_by true r o f g = f
fine_by false r o f g = g

pub found_fine : (p : Rule → Bool) (rs : List Rule) → AreFine rs → FoundFine (find p rs)
found_fine p [] f = tt
found_fine p (r ∷ rs) f = fine_by (p r) r (find p rs) f.0 (found_fine p rs f.1)

-- ---- rows

-- what an option got from the command line
abbrev pub given_row : Text → Reading → Text → Row
given_row id how value = record { id = id; values = value ∷ []; count = None; source = Some CommandLine; reading = how }

-- rows of other arguments stay in front
pub at_past : (x y : Row) (id : Text) (change : Row → List Row) (missing t : List Row) → bytes_eq x.id id ≡ false → bytes_eq y.id id ≡ false
    → at_row id change missing (x ∷ y ∷ t) ≡ x ∷ y ∷ at_row id change missing t
at_past x y id change missing t p q = rw (p, q) refl

values_past : (x y : Row) (id : Text) (how : Reading) (s : ValueSource) (vs : List Text) (t : List Row) → bytes_eq x.id id ≡ false → bytes_eq y.id id ≡ false
    → with_values id how s vs (x ∷ y ∷ t) ≡ x ∷ y ∷ with_values id how s vs t
values_past x y id how s vs t p q = at_past x y id (more_values s vs) (record { id = id; values = vs; count = None; source = Some s; reading = how } ∷ []) t p q

set_past : (x y : Row) (id : Text) (how : Reading) (vs : List Text) (t : List Row) → bytes_eq x.id id ≡ false → bytes_eq y.id id ≡ false
    → with_values id how CommandLine vs (without id (x ∷ y ∷ t)) ≡ x ∷ y ∷ with_values id how CommandLine vs (without id t)
set_past x y id how vs t p q = ap (λ (z : List Row). with_values id how CommandLine vs z) (at_past x y id (λ _. []) [] t p q) ∙ values_past x y id how CommandLine vs (without id t) p q

or_left : (x y : Bool) → (x || y) ≡ false → x ≡ false
or_left false y e = refl
or_left true y e = absurd cc

or_right : (x y : Bool) → (x || y) ≡ false → y ≡ false
or_right false y e = e
or_right true y e = absurd cc

-- an argument that is used once isn't there yet
unused : (again : Bool) (id : Text) (rows : List Row) → again ≡ false → repeat_fault again id rows ≡ [] → has_row id rows ≡ false
unused again id rows over e = by (has_row id rows) refl (subst (λ (z : Bool). repeat_fault z id rows ≡ []) over e)
  where
    by : (t : Bool) → has_row id rows ≡ t → repeat_fault false id rows ≡ [] → has_row id rows ≡ false
    by false h f = h
    by true h f = let g = rw h at f in absurd cc

module _ (again : Bool) (over : again ≡ false) (a b : Text) (ha hb : Reading) (m n m' n' : Text) where
  abbrev pub left : List Row → List Row
  left t = given_row a ha m ∷ given_row b hb n ∷ t

  abbrev pub right : List Row → List Row
  right t = given_row a ha m' ∷ given_row b hb n' ∷ t

  -- the rows of the two walks
  pub record Rows (x y : List Row) : Type 0 where
    pub tail : List Row
    pub one : x ≡ left tail
    pub two : y ≡ right tail

  -- one more use
  pub record Uses (r : Rule) (vs : List Text) (t : List Row) : Type 0 where
    pub tail : List Row
    pub one : used r vs (left t) ≡ left tail
    pub two : used r vs (right t) ≡ right tail
    pub fault : use_fault again r vs (right t) ≡ []

  once : (x : ArgAction) → IsOnce x → (r : Rule) (raw vs : List Text) (t : List Row) → action_fault x again r vs (left t) ≡ []
      → (u : List Row) × (used_as x r.id (reading_by r) vs (left t) ≡ left u) × (used_as x r.id (reading_by r) vs (right t) ≡ right u) × (action_fault x again r vs (right t) ≡ [])
  once x is r raw vs t e = by x is e
    where
      set : set_fault again r vs (left t) ≡ []
          → (u : List Row) × (with_values r.id (reading_by r) CommandLine vs (without r.id (left t)) ≡ left u) × (with_values r.id (reading_by r) CommandLine vs (without r.id (right t)) ≡ right u)
          × (set_fault again r vs (right t) ≡ [])
      set e =
          let none = unused again r.id (left t) over (first_none _ _ e) in
          let p = or_left (bytes_eq a r.id) _ none in
          let q = or_left (bytes_eq b r.id) _ (or_right (bytes_eq a r.id) _ none) in (
            with_values r.id (reading_by r) CommandLine vs (without r.id t),
            set_past (given_row a ha m) (given_row b hb n) r.id (reading_by r) vs t p q,
            set_past (given_row a ha m') (given_row b hb n') r.id (reading_by r) vs t p q,
            e,
          )

      by : (x : ArgAction) → IsOnce x → action_fault x again r vs (left t) ≡ []
          → (u : List Row) × (used_as x r.id (reading_by r) vs (left t) ≡ left u) × (used_as x r.id (reading_by r) vs (right t) ≡ right u) × (action_fault x again r vs (right t) ≡ [])
      by Set is e = set e
      by SetTrue is e = set e
      by SetFalse is e = set e
      by Append is e = absurd is
      by Count is e = absurd is
      by Help is e = absurd cc
      by HelpShort is e = absurd cc
      by HelpLong is e = absurd cc
      by Version is e = absurd cc

  pub uses : (r : Rule) → IsFine r → (vs : List Text) (t : List Row) → use_fault again r vs (left t) ≡ [] → Uses r vs t
  uses r fine vs t e =
      let o = once (action_of r) fine.once r vs (values_or_missing r vs) t (second_none _ _ e) in
      record { tail = o.0; one = o.1; two = o.2; fault = both_none _ _ (first_none (range_kinds (unwrap_or_range r.range).start_inclusive (most_values r) (length vs)) _ e) o.3 }

  -- ---- defaults

  default_past : (r : Rule) (t : List Row) → (u : List Row) × (with_default (left t) r ≡ left u) × (with_default (right t) r ≡ right u)
  default_past r t = by (has_row r.id (left t)) refl
    where
      goes : has_row r.id (left t) ≡ false → (vs : List Text) → (u : List Row) × (default_rows r.id (reading_by r) vs (left t) ≡ left u) × (default_rows r.id (reading_by r) vs (right t) ≡ right u)
      goes none [] = (t, refl, refl)
      goes none (v ∷ vs) =
          let p = or_left (bytes_eq a r.id) _ none in
          let q = or_left (bytes_eq b r.id) _ (or_right (bytes_eq a r.id) _ none) in (
            with_values r.id (reading_by r) DefaultValue (v ∷ vs) t,
            values_past (given_row a ha m) (given_row b hb n) r.id (reading_by r) DefaultValue (v ∷ vs) t p q,
            values_past (given_row a ha m') (given_row b hb n') r.id (reading_by r) DefaultValue (v ∷ vs) t p q,
          )

      by : (z : Bool) → has_row r.id (left t) ≡ z → (u : List Row) × (with_default (left t) r ≡ left u) × (with_default (right t) r ≡ right u)
      by true e = (t, rw e refl, rw (subst (λ (w : Bool). w ≡ true) refl e) refl)
      by false e = let g = goes e r.defaults in (g.0, rw e g.1, rw e g.2)

  -- the defaults of all arguments, and their faults
  pub defaults_past : (rs : List Rule) (t : List Row)
      → (u : List Row) × (fold with_default (left t) rs ≡ left u) × (fold with_default (right t) rs ≡ right u) × (defaults_fault (right t) rs ≡ defaults_fault (left t) rs)
  unfolding defaults_fault
  defaults_past [] t = (t, refl, refl, refl)
  defaults_past (r ∷ rs) t =
      let d = default_past r t in
      let g = defaults_past rs d.0 in (
        g.0,
        ap (λ (z : List Row). fold with_default z rs) d.1 ∙ g.1,
        ap (λ (z : List Row). fold with_default z rs) d.2 ∙ g.2,
        ap (λ (z : List Row). or_else (default_fault (left t) r) (defaults_fault z rs)) d.2 ∙ ap (λ (z : Kinds). or_else (default_fault (left t) r) z) g.3
            ∙ ap (λ (z : List Row). or_else (default_fault (left t) r) (defaults_fault z rs)) (sym d.1),
      )

  -- ---- what is read of the rows

  pub given_same : (id : Text) (t : List Row) → is_given id (right t) ≡ is_given id (left t)
  given_same id t = by (bytes_eq a id) (bytes_eq b id) refl refl
    where
      by : (p q : Bool) → bytes_eq a id ≡ p → bytes_eq b id ≡ q → is_given id (right t) ≡ is_given id (left t)
      by true q e f = rw e refl
      by false true e f = rw (e, f) refl
      by false false e f = rw (e, f) refl

  pub first_a : (t : List Row) → bytes_eq a a ≡ true → (first_of a (left t) ≡ Some m) × (first_of a (right t) ≡ Some m')
  first_a t e = (rw e refl, rw e refl)

  pub first_b : (t : List Row) → bytes_eq a b ≡ false → bytes_eq b b ≡ true → (first_of b (left t) ≡ Some n) × (first_of b (right t) ≡ Some n')
  first_b t e f = (rw (e, f) refl, rw (e, f) refl)

  pub first_other : (id : Text) (t : List Row) → bytes_eq a id ≡ false → bytes_eq b id ≡ false → first_of id (right t) ≡ first_of id (left t)
  first_other id t e f = rw (e, f) refl
