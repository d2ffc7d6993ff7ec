-- What the answer of a stat shows.
use Rattle.std.specs.Prelude.{ℕ, List}
use Rattle.world_model.specs.declared.answer.Answer.TheVariants.{Done}
use Rattle.world_model.specs.declared.answer.Value.{Value}
use Rattle.world_model.specs.declared.entry.Entry.{Entry}
use Rattle.world_model.specs.declared.op.Op.TheVariants.{Stat}
use Rattle.claims.specs.OkRows.{OkRow}
use Rattle.world_model.specs.Operations.{Ended}
use Rattle.claims.specs.Terms.{Terms}
use Rattle.op_machines.specs.declared.begun.Mounted.{Mounted}
use Rattle.op_machines.specs.Begun.{machine_of}
use Rattle.client_core.specs.declared.setup.Setup.{Setup}
use Rattle.client_core.specs.View.{View}
use Rattle.core_facts.specs.Naming.{KnowsRoot}
use Rattle.core_facts.specs.Reaches.{Reaches}

-- A stat succeeds only with attributes that a reply before its answer showed (RFC 1813, section 2.6). They are those of an object to which
-- its path leads.
abbrev pub StatsOk : Type 0
StatsOk = (m : Mounted) (setup : Setup) (h : List Entry) (v : View) → Reaches (machine_of m) setup h v → (terms : Terms) → KnowsRoot terms.origin h m.root
    → (lane x : ℕ) (path : List (List ℕ)) (y : ℕ) (value : Value) → Ended h lane x (Stat path) y (Done value) → OkRow terms h lane x y (Stat path) value
