-- Which rule breaks first, of several.
use Rattle.std.specs.Prelude.{ℕ, nat_lt, Option, Some, None, if◌then◌else◌}
use Rattle.trace_lawful.specs.declared.earliest.First.{First}

abbrev pub with_rule : ℕ → Option ℕ → Option First
with_rule rule None = None
with_rule rule (Some n) = Some (record { entries = n; rule = rule })

-- the one with fewer entries, and the first one if both have as many
abbrev pub earlier : Option First → Option First → Option First
earlier None b = b
earlier (Some a) None = Some a
earlier (Some a) (Some b) = if nat_lt b.entries a.entries then Some b else Some a
