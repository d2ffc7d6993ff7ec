-- No line yet.
use Rattle.std.proofs.Common.{◌∷◌, [], refl}
use Rattle.trace_text.proofs.Telling.{told-nothing}
use Rattle.trace_text.proofs.draft.Draft.new.Goals as goal

pub returns : goal.returns
returns c = told-nothing (record { verf = record { 0 = 0 ∷ 0 ∷ 0 ∷ 0 ∷ 0 ∷ 0 ∷ 0 ∷ 0 ∷ [] }; objects = c.new.result }) c.new-2.result.items c.new-3.result.items refl
    c.new.ensures.items c.new-2.ensures.items c.new-3.ensures.items
