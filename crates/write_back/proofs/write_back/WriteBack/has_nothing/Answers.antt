use Rattle.std.proofs.Common.{sym, ◌∙◌, refl}
use Rattle.write_back.proofs.Counting.{of-found}
use Rattle.write_back.proofs.write_back.WriteBack.has_nothing.Goals as goal

pub returns-in-None : goal.returns-in-None
returns-in-None c = rw (← c.self.view_is) ((λ _. of-found c.args.file.now c.self.inside.files.entries _ (sym c.in-None.ensures.value)), (λ _. refl))

pub returns-in-Some : goal.returns-in-Some
returns-in-Some c =
    let is = of-found c.args.file.now c.self.inside.files.entries _ (sym c.in-Some.ensures.value) in
    rw (← c.self.view_is) ((λ t. is ∙ c.is_empty.ensures.0 t), (λ e. c.is_empty.ensures.1 (sym is ∙ e)))
