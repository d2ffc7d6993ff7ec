-- One entry more.
use Rattle.std.proofs.Common.{◌≡◌, List, [], ◌∷◌, ◌++◌, length, ap, ◌∙◌}
use Rattle.trace_data.specs.declared.trace.Update.{Update}
use Rattle.trace_data.specs.Histories.{verf_at}
use Rattle.trace_text.specs.Told.{Lines}
use Rattle.trace_text.proofs.Telling.{told-entry}
use Rattle.trace_text.proofs.draft.Draft.add.Goals as goal

pub returns : goal.returns
returns c =
    let l : Lines = record {
      begun = c.self.inside.begun;
      root = c.self.inside.root;
      lives = c.self.inside.lives;
      noac = c.self.inside.noac;
      nocto = c.self.inside.nocto;
      start = c.self.inside.start;
      entries = c.self.inside.entries.items;
      updates = c.self.inside.updates.items;
    } in
    let u : Update = record { verf = c.verf_at.result; objects = c.new.result } in
    let count : c.len.result ≡ length c.self.inside.updates.items = c.len.ensures ∙ c.self.inside.updates.ok.0 in
    rw (← c.self.view_is) (told-entry l c.push.new.self.items c.push-2.new.self.items c.args.entry u c.in_ok-push.ensures.items
    (c.in-Ok-push.ensures.items ∙ ap (λ (us : List Update). us ++ u ∷ []) c.in-Ok.ensures.items)
    (c.verf_at.ensures ∙ ap (λ (us : List Update). verf_at c.self.inside.start.verf us c.len.result) c.as_slice.ensures.value
    ∙ ap (verf_at c.self.inside.start.verf c.self.inside.updates.items) count) c.new.ensures.items)
