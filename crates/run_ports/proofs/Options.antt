-- An option and its value, as `clap` walks over them.
use Rattle.std.proofs.Common.{◌≡◌, ◌==◌, ℕ, true, false, List, [], ◌∷◌, Some, None, refl, sym, ap, subst, ◌∙◌}
use Rattle.std.specs.Str.{bytes_eq}
use Rattle.clap.specs.Faults.{settle_fault, turn_fault}
use Rattle.clap.specs.Lexer.{long_of, short_of}
use Rattle.clap.specs.Simple.{Shape}
use Rattle.clap.specs.Walk.{Held, Rule, Text, idle, option, arg_by_id, arg_by_long, most_values, settled, takes_values, Walk, walked}
use Rattle.run_ports.proofs.Rows.{both_none}
use Rattle.run_ports.proofs.Walks.{at_walk}

-- a word that is no flag
pub record IsPlain (v : Text) : Type 0 where
  pub dashes : bytes_eq v (45 ∷ 45 ∷ []) ≡ false
  pub long : long_of v ≡ None
  pub short : short_of v ≡ None

pub plain_by : (v : Text) (d : ℕ) (ds : List ℕ) → v ≡ d ∷ ds → (d == 45) ≡ false → IsPlain v
plain_by v d ds is e = subst IsPlain (sym is) (record { dashes = rw e refl; long = rw e refl; short = rw e refl })

-- the word names an option that takes one value
pub record NamesOption (s : Shape) (r : Rule) (word : Text) : Type 0 where
  pub name : Text
  pub dashes : bytes_eq word (45 ∷ 45 ∷ []) ≡ false
  pub long : long_of word ≡ Some (name, None)
  pub found : arg_by_long s.rules name ≡ Some r
  pub takes : takes_values r ≡ true
  pub again : arg_by_id s.rules r.id ≡ Some r
  pub most : most_values r ≡ 1
  pub same : bytes_eq r.id r.id ≡ true

module _ (s : Shape) (r : Rule) (word v : Text) (o : NamesOption s r word) (p : IsPlain v) (h : Held) (position : ℕ) where
  after_name : walked s.rules [] (at_walk h idle position false) word ≡ at_walk (record (settled s.rules h) { pending = Some (r.id, []) }) (option r.id) position false
  unfolding walked
  after_name = rw (o.dashes, o.long, o.found, o.takes) refl

  name_fault : settle_fault s.rules s.args_override_self h ≡ [] → turn_fault s [] (at_walk h idle position false) word ≡ []
  name_fault e = rw (o.dashes, o.long, o.found, o.takes) (both_none _ _ e refl)

  after_value : walked s.rules [] (at_walk (record (settled s.rules h) { pending = Some (r.id, []) }) (option r.id) position false) v
      ≡ at_walk (record (settled s.rules h) { pending = Some (r.id, v ∷ []) }) idle position false
  unfolding walked
  after_value = rw (p.dashes, p.long, p.short, o.again, o.same, o.most) refl

  value_fault : turn_fault s [] (at_walk (record (settled s.rules h) { pending = Some (r.id, []) }) (option r.id) position false) v ≡ []
  value_fault = rw (p.dashes, p.long, p.short) refl

  -- both words
  pub after_both : walked s.rules [] (walked s.rules [] (at_walk h idle position false) word) v ≡ at_walk (record (settled s.rules h) { pending = Some (r.id, v ∷ []) }) idle position false
  after_both = ap (λ (z : Walk). walked s.rules [] z v) after_name ∙ after_value

  pub both_fault : settle_fault s.rules s.args_override_self h ≡ []
      → (turn_fault s [] (at_walk h idle position false) word ≡ []) × (turn_fault s [] (walked s.rules [] (at_walk h idle position false) word) v ≡ [])
  both_fault e = (name_fault e, ap (λ (z : Walk). turn_fault s [] z v) after_name ∙ value_fault)
