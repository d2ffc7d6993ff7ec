-- A command line with some ports after its first word is one with any others, and gives the same settings but for them.
use Rattle.std.proofs.Common.{◌≡◌, ◌≤◌, ◌<◌, ℕ, false, List, [], ◌∷◌, length, codes, decimal, refl, sym, subst, ◌∙◌, arith}
use Rattle.std.specs.Prelude.{get_or, drop}
use Rattle.std.proofs.lemmas.Bool.{ne_eqb}
use Rattle.std.proofs.lemmas.Fmt.{decimal_nonempty, first_decimal, decimal_is_IsNumeral}
use Rattle.clap.specs.Faults.{fault_of, level_fault, defaults_fault}
use Rattle.clap.specs.Simple.{Shape, built, filled}
use Rattle.clap.specs.Walk.{Row, Rule, Text, nothing_held, reading_by, walked}
use Rattle.clap.specs.Words.{matches_of}
use Rattle.clap.proofs.FaultLemmas.{leaf_fault}
use Rattle.port_words.specs.Portmaps.{with_ports}
use Rattle.session_words.specs.Command.{client_app, option_rule}
use Rattle.session_words.specs.Words.{GivesSettings, IsCommand, IsNumberIn}
use Rattle.session_words.specs.declared.settings.Settings.{Settings}
use Rattle.run_ports.proofs.Rows.{left, right}
use Rattle.run_ports.proofs.Options.{IsPlain, plain_by}
use Rattle.run_ports.proofs.Lines.{TwoOptions, line_alike, rows_of_line}

-- ---- a port in digits

plain_digits : (v : List ℕ) (is : List ℕ) → is ≡ v → 0 < length v → 48 < get_or v 0 0 → IsPlain is
plain_digits [] is e some first = absurd (omega (arith, some))
plain_digits (d ∷ ds) is e some first = plain_by is d ds e (ne_eqb d 45 (λ same. omega (arith, same, first)))

plain_port : (p : ℕ) → 1 ≤ p → p ≤ 65535 → IsPlain (decimal p)
plain_port p low high = plain_digits (decimal p) (decimal p) refl (decimal_nonempty p (omega (arith, high))) (first_decimal p (omega (arith, low)) (omega (arith, high)))

-- ---- the client's command

abbrev S : Shape
S = (built client_app).top

abbrev mount_rule : Rule
mount_rule = filled (option_rule (codes "mount-port"))

abbrev nfs_rule : Rule
nfs_rule = filled (option_rule (codes "nfs-port"))

two_options : TwoOptions S mount_rule nfs_rule (codes "--mount-port") (codes "--nfs-port")
unfolding client_app
two_options = record {
  over = refl;
  fine = (record { once = tt; single = refl }, (record { once = tt; single = refl }, (record { once = tt; single = refl }, (record { once = tt; single = refl }, (record { once = tt; single = refl }, (record { once = tt; single = refl }, (record { once = tt; single = refl }, (record { once = tt; single = refl }, (record { once = tt; single = refl }, (record { once = tt; single = refl }, (record { once = tt; single = refl }, (record { once = tt; single = refl }, (record { once = tt; single = refl }, (record { once = tt; single = refl }, (record { once = tt; single = refl }, (record { once = tt; single = refl }, tt))))))))))))))));
  names_a = record { name = codes "mount-port"; dashes = refl; long = refl; found = refl; takes = refl; again = refl; most = refl; same = refl };
  names_b = record { name = codes "nfs-port"; dashes = refl; long = refl; found = refl; takes = refl; again = refl; most = refl; same = refl };
  first = λ v. refl;
  first_fault = λ v. refl;
  own = λ v w v' w'. record { one = refl; two = refl; fault = λ q. refl };
}

abbrev pub IsPort : ℕ → Type 0
IsPort p = (1 ≤ p) × (p ≤ 65535)

number_of_port : (p : ℕ) → IsPort p → IsNumberIn 1 65535 (decimal p) p
number_of_port p is = record {
  spelled = (let d = decimal_is_IsNumeral p (let top = is.1 in omega (arith, top)) in record { numeral = d.0; value = sym d.1 });
  least = is.0;
  most = is.1;
}

-- the settings by other values of the two options
settings_by : (u : List Row) (m n m' n' : ℕ) (s : Settings) → IsPort m' → IsPort n'
    → GivesSettings (left S.args_override_self two_options.over (codes "mount-port") (codes "nfs-port") (reading_by mount_rule) (reading_by nfs_rule) (decimal m) (decimal n) (decimal m') (decimal n') u) s
    → GivesSettings (right S.args_override_self two_options.over (codes "mount-port") (codes "nfs-port") (reading_by mount_rule) (reading_by nfs_rule) (decimal m) (decimal n) (decimal m') (decimal n') u)
    (record s { mount_port = m'; nfs_port = n' })
settings_by u m n m' n' s p q g = record {
  export = g.export;
  mount_port = number_of_port m' p;
  nfs_port = number_of_port n' q;
  cred = record { uid = g.cred.uid; uid_is = g.cred.uid_is; gid = g.cred.gid; gid_is = g.cred.gid_is; auth = g.cred.auth };
  rsize = g.rsize;
  wsize = g.wsize;
  calls = g.calls;
  xid = g.xid;
  noac = g.noac;
  lives = g.lives;
  nocto = g.nocto;
  count = g.count;
}

-- ---- the words

level_of : (words : List Text) → fault_of client_app words ≡ [] → level_fault S [] nothing_held (drop 1 words) false [] ≡ []
unfolding client_app
level_of words e = sym (leaf_fault (built client_app) nothing_held (drop 1 words) refl) ∙ e

fault_by : (words : List Text) → level_fault S [] nothing_held (drop 1 words) false [] ≡ [] → fault_of client_app words ≡ []
unfolding client_app
fault_by words e = leaf_fault (built client_app) nothing_held (drop 1 words) refl ∙ e

rows_are : (p : Text) (v w : Text) (ws : List Text) → matches_of client_app (p ∷ codes "--mount-port" ∷ v ∷ codes "--nfs-port" ∷ w ∷ ws) ≡ rows_of_line S mount_rule nfs_rule (codes "--mount-port") (codes "--nfs-port") two_options v w ws
unfolding client_app
rows_are p v w ws = refl

-- what a command line with one pair of ports gives, one with another pair gives but for these
pub command_alike : (p : Text) (ws : List Text) (m n m' n' : ℕ) (s : Settings) → IsPort m → IsPort n → IsPort m' → IsPort n' → IsCommand (with_ports (p ∷ ws) m n) s
    → IsCommand (with_ports (p ∷ ws) m' n') (record s { mount_port = m'; nfs_port = n' })
command_alike p ws m n m' n' s one two three four is =
    let a = line_alike S mount_rule nfs_rule (codes "--mount-port") (codes "--nfs-port") two_options (decimal m) (decimal n) (decimal m') (decimal n') ws (plain_port m one.0 one.1) (plain_port n two.0 two.1) (plain_port m' three.0 three.1) (plain_port n' four.0 four.1)
    (level_of (with_ports (p ∷ ws) m n) is.taken) in
    record {
      taken = fault_by (with_ports (p ∷ ws) m' n') a.fault;
      gives = subst (λ (z : List Row). GivesSettings z (record s { mount_port = m'; nfs_port = n' })) (sym (rows_are p (decimal m') (decimal n') ws ∙ a.rows.two))
          (settings_by a.rows.tail m n m' n' s three four (subst (λ (z : List Row). GivesSettings z s) (rows_are p (decimal m) (decimal n) ws ∙ a.rows.one) is.gives));
    }

-- no words are no command line
none_is : (s : Settings) → IsCommand [] s → ⊥
unfolding client_app walked defaults_fault
none_is s is = is.gives.export

pub commands_alike : (others : List Text) (m n m' n' : ℕ) (s : Settings) → IsPort m → IsPort n → IsPort m' → IsPort n' → IsCommand (with_ports others m n) s
    → IsCommand (with_ports others m' n') (record s { mount_port = m'; nfs_port = n' })
commands_alike [] m n m' n' s one two three four is = absurd (none_is s is)
commands_alike (p ∷ ws) m n m' n' s one two three four is = command_alike p ws m n m' n' s one two three four is
