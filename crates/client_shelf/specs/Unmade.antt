-- Calls that couldn't be made. The server was asked for nothing then, so what is kept of it stays.
use Rattle.std.specs.Prelude.{◌≡◌, ℕ, Bool, true, false, if◌then◌else◌, List, Option, Result, Ok, Err}
use Rattle.nfs_types.specs.declared.attr.Attr.{Attr}
use Rattle.attr_cache.specs.Attrs.{Attrs}
use Rattle.name_cache.specs.Names as names
use Rattle.world_model.specs.declared.answer.Fault.{Fault}
use Rattle.world_model.specs.declared.answer.Fault.TheVariants.{Spent, Memory}
use Rattle.world_model.specs.declared.message.Reply.{Reply}
use Rattle.client_shelf.specs.Learning.{Renews}

-- as many calls were made as may be, or there was no memory for it
abbrev pub is_unmade : Fault → Bool
is_unmade Spent = true
is_unmade Memory = true
is_unmade fault = false

abbrev pub came_unmade : Result Reply Fault → Bool
came_unmade (Ok reply) = false
came_unmade (Err fault) = is_unmade fault

-- The names of a directory are dropped at what came of a call that changes it, unless that couldn't be made.
abbrev pub names_after : Bool → List ℕ → names.Entries → names.Entries
names_after unmade dir es = if unmade then es else names.without_dir dir es

-- And its attributes are new or forgotten.
abbrev pub RenewsUnless : Bool → List ℕ → Option Attr → ℕ → Attrs → Attrs → Type 0
RenewsUnless true dir attr now old new = new ≡ old
RenewsUnless false dir attr now old new = Renews dir attr now old new
