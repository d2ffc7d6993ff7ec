-- A step that moves an export, and one that doesn't.
use Rattle.std.proofs.Common.{◌≡◌, true, false, refl, sym, ◌∙◌}
use Rattle.export_fs.specs.View.{View}
use Rattle.world_trace.specs.Stepped.{Moves}

pub moved : (old new wanted : View) → new ≡ wanted → Moves true old new wanted
moved old new wanted is = record { is = is; rests = λ e. absurd (cc) }

pub rested : (old new wanted : View) → new ≡ old → old ≡ wanted → Moves false old new wanted
rested old new wanted stays is = record { is = stays ∙ is; rests = λ e. stays }
