use Rattle.std.proofs.Common.{◌≡◌, ◌++◌, ◌⊎◌, [], ◌∷◌, ℕ, List, Option, None, Some, Ok, inl, refl, subst}
use Rattle.world_model.specs.History.{History}
use Rattle.world_model.specs.declared.entry.Entry.{Entry}
use Rattle.world_model.specs.declared.entry.Entry.TheVariants.{Clock}
use Rattle.world_model.specs.declared.op.Op.{Op}
use Rattle.world_model.specs.Told.{Relates}
use Rattle.lane_session.specs.Going.{NotesBeginning}
use Rattle.lane_session.proofs.Passing.{relates_same}
use Rattle.lane_session.proofs.lines.note_start.Goals as goal

untold : (t : Option History) (R : List Entry → List Entry → Type 0) → t ≡ None → Relates t t R
untold None R e = tt
untold (Some h) R e = absurd (cc)

none-noted : (t : Option History) (ms : ℕ) → Relates t t (λ (h k : List Entry). (k ≡ h) ⊎ (k ≡ h ++ Clock ms ∷ []))
none-noted t ms = relates_same t (λ (h k : List Entry). (k ≡ h) ⊎ (k ≡ h ++ Clock ms ∷ [])) (λ h. inl refl)

pub returns-then-not-tells-clause-goes : goal.returns-then-not-tells-clause-goes
returns-then-not-tells-clause-goes g c = untold (g.L.Link.told c.args.link.now) (NotesBeginning c.args.lane c.args.line c.args.op.now c.args.ms (Ok c.args.ms)) c.if-not-tells.ensures

pub returns-in-Ok-clause-goes : goal.returns-in-Ok-clause-goes
returns-in-Ok-clause-goes g c =
    subst (λ (op : Op). Relates (g.L.Link.told c.args.link.now) (g.L.Link.told c.note_at.new.link) (NotesBeginning c.args.lane c.args.line op c.args.ms c.note_at.result)) c.in-Ok.ensures c.note_at.ensures.goes

pub returns-in-Err-clause-goes : goal.returns-in-Err-clause-goes
returns-in-Err-clause-goes g c = none-noted (g.L.Link.told c.args.link.now) c.args.ms
