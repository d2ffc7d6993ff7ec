-- Calls of a link one after the other.
use Rattle.std.proofs.Common.{List, [], ◌++◌, Option, Some, None, sym, ap, ◌∙◌, append_assoc}
use Rattle.std.proofs.lemmas.List.{append-nil}
use Rattle.world_model.specs.declared.entry.Entry.{Entry}
use Rattle.world_model.specs.History.{History}
use Rattle.world_model.specs.Told.{Adds, Tells}
use Rattle.session_setup.specs.Along.{Extends, Along}

extends_same : (h : List Entry) → Extends h h
extends_same h = record { more = []; is = sym (append-nil h) }

extends_then : (h k l : List Entry) → Extends h k → Extends k l → Extends h l
extends_then h k l p q = record { more = p.more ++ q.more; is = q.is ∙ ap (λ (t : List Entry). t ++ q.more) p.is ∙ append_assoc h p.more q.more }

-- one call
pub along_call : (old new : Option History) (R : List Entry → List Entry → Type 0) (es : List Entry) → Tells old new es → ((a b : History) → Adds a b es → R a.entries b.entries) → Along old new R
along_call None new R es t step = tt
along_call (Some a) None R es t step = absurd t
along_call (Some a) (Some b) R es t step = (record { more = t.more; is = t.grown }, step a b t)

-- two in a row
pub along_then : (a b c : Option History) (R S T : List Entry → List Entry → Type 0) → ((h k l : List Entry) → Extends h k → Extends k l → R h k → S k l → T h l) → Along a b R → Along b c S → Along a c T
along_then None b c R S T join p q = tt
along_then (Some a) None c R S T join p q = absurd p
along_then (Some a) (Some b) None R S T join p q = absurd q
along_then (Some a) (Some b) (Some c) R S T join p q = (extends_then a.entries b.entries c.entries p.0 q.0, join a.entries b.entries c.entries p.0 q.0 p.1 q.1)

-- the same calls, with less said of them
pub along_less : (a b : Option History) (R S : List Entry → List Entry → Type 0) → ((h k : List Entry) → Extends h k → R h k → S h k) → Along a b R → Along a b S
along_less None b R S less p = tt
along_less (Some a) None R S less p = absurd p
along_less (Some a) (Some b) R S less p = (p.0, less a.entries b.entries p.0 p.1)

-- nothing was called
pub along_none : (a : Option History) (R : List Entry → List Entry → Type 0) → ((h : List Entry) → R h h) → Along a a R
along_none None R same = tt
along_none (Some a) R same = (extends_same a.entries, same a.entries)
