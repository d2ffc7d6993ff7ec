-- The port mapper among the words (RFC 1833, section 3), and the ports that it told.
use Rattle.std.specs.Prelude.{◌≡◌, ℕ, Bool, false, List, [], ◌∷◌, ◌++◌, ◌||◌, map, bytes_eq, codes, decimal, Option, Some, None, string_bytes}
use Rattle.std.specs.List.{list_any, before_first, after_first}
use Rattle.script_text.specs.Numbers.{number_of}
use Rattle.port_words.specs.declared.portmap.Portmap.{Portmap}
use Rattle.port_words.specs.Texts.{names}

abbrev pub is_portmap : List ℕ → Bool
is_portmap w = bytes_eq w (codes "--portmap")

-- whether a word is or begins with the option of a port
abbrev pub gives_port : List (List ℕ) → Bool
gives_port words = names (codes "--mount-port") words || names (codes "--nfs-port") words

-- The first word `--portmap` and the word after it, a port in decimal digits, were taken out, and no other word gives a port.
pub record NamesOne (words : List (List ℕ)) (port : ℕ) (others : List (List ℕ)) : Type 0 where
  pub digits : List ℕ
  pub after : List (List ℕ)
  pub is : after_first is_portmap words ≡ digits ∷ after
  pub number : number_of 1 65535 digits ≡ Some port
  pub rest : others ≡ before_first is_portmap words ++ after
  pub free : gives_port others ≡ false

-- the port mapper that the words name, or none if no word is `--portmap`
abbrev pub Names : List (List ℕ) → Option Portmap → Type 0
Names words None = list_any is_portmap words ≡ false
Names words (Some p) = NamesOne words p.port (map string_bytes p.others.items)

-- the ports of MOUNT and NFS stand after the first word
abbrev pub with_ports : List (List ℕ) → ℕ → ℕ → List (List ℕ)
with_ports [] mount nfs = []
with_ports (w ∷ ws) mount nfs = w ∷ codes "--mount-port" ∷ decimal mount ∷ codes "--nfs-port" ∷ decimal nfs ∷ ws
