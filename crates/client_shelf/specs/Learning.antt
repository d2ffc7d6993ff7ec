-- What is learnt of a reply. Of what isn't known yet there may be no memory for it: then it isn't learnt.
use Rattle.std.specs.Prelude.{◌≡◌, ◌⊎◌, ℕ, List, Option, Some, None}
use Rattle.nfs_types.specs.declared.attr.Attr.{Attr}
use Rattle.attr_cache.specs.Attrs.{Attrs, kept_of, learnt, forgotten}
use Rattle.name_cache.specs.Names as names
use Rattle.nfs_types.specs.Stamps.{stamp_of}

-- the attributes of a file that a reply gave, if any
abbrev pub Learns : List ℕ → Option Attr → ℕ → Attrs → Attrs → Type 0
Learns file None now old new = new ≡ old
Learns file (Some attr) now old new = (new ≡ learnt file attr now old) ⊎ ((kept_of file old ≡ None) × (new ≡ old))

-- those of a directory that was changed: without new ones it is forgotten
abbrev pub Renews : List ℕ → Option Attr → ℕ → Attrs → Attrs → Type 0
Renews dir None now old new = new ≡ forgotten dir old
Renews dir (Some attr) now old new = Learns dir (Some attr) now old new

-- those of a file, and then what else is learnt
pub record LearnsThen (file : List ℕ) (attr : Option Attr) (now : ℕ) (Rest : Attrs → Attrs → Type 0) (old new : Attrs) : Type 0 where
  pub mid : Attrs
  pub first : Learns file attr now old mid
  pub rest : Rest mid new

-- what a name stands for, under the stamp of its directory if that is known
abbrev pub LearnsName : List ℕ → List ℕ → Option Attr → List ℕ → names.Entries → names.Entries → Type 0
LearnsName dir name None found old new = new ≡ old
LearnsName dir name (Some attr) found old new = (new ≡ names.learnt dir name (stamp_of attr) found old) ⊎ ((names.kept_of dir name old ≡ None) × (new ≡ old))
