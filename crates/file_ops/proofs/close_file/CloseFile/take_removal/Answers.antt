use Rattle.std.proofs.Common.{true, false, refl, ap, ◌∙◌}
use Rattle.client_shelf.specs.Coming.{reply_of}
use Rattle.client_shelf.specs.Unmade.{came_unmade, names_after}
use Rattle.client_shelf.specs.declared.step.Step.TheVariants as nexts
use Rattle.file_ops.proofs.Removals.{ends-by}
use Rattle.file_ops.proofs.close_file.CloseFile.take_removal.Goals as goal

pub returns-then-again-clause-step : goal.returns-then-again-clause-step
returns-then-again-clause-step c =
    let old = c.args.shelf.now in
    let counted = c.again.ensures.after in
    record {
      took = record old { attrs = c.note_removal.new.attrs; names = c.note_removal.new.names; repeats = c.again.new.repeats };
      attrs = c.note_removal.ensures.attrs;
      others = ap (λ names. record old { attrs = c.note_removal.new.attrs; names = names; repeats = c.again.new.repeats }) c.note_removal.ensures.names
          ∙ ap (λ repeats. record old { attrs = c.note_removal.new.attrs; names = names_after (came_unmade (reply_of c.args.came.now)) c.args.removal.now.dir old.names; repeats = repeats }) (rw (← c.remove_busy.ensures) counted);
      ends = ends-by true c.again.result c.remove_busy.result c.args.sent c.args.turn (reply_of c.args.came.now) old.repeats c.args.self.now.lane c.args.removal.now _ _ _ _ c.if-again.true c.again.ensures.told c.remove_busy.ensures
          (record { next_is = ap (λ call. nexts.Send call) c.remove_of.ensures; state_is = refl; shelf_is = refl });
    }

pub returns-clause-step : goal.returns-clause-step
returns-clause-step c =
    let old = c.args.shelf.now in
    let counted = c.again.ensures.after in
    record {
      took = record old { attrs = c.note_removal.new.attrs; names = c.note_removal.new.names; repeats = c.again.new.repeats };
      attrs = c.note_removal.ensures.attrs;
      others = ap (λ names. record old { attrs = c.note_removal.new.attrs; names = names; repeats = c.again.new.repeats }) c.note_removal.ensures.names
          ∙ ap (λ repeats. record old { attrs = c.note_removal.new.attrs; names = names_after (came_unmade (reply_of c.args.came.now)) c.args.removal.now.dir old.names; repeats = repeats }) (rw (← c.remove_busy.ensures) counted);
      ends = ends-by false c.again.result c.remove_busy.result c.args.sent c.args.turn (reply_of c.args.came.now) old.repeats c.args.self.now.lane c.args.removal.now _ _ _ _ c.if-again.false c.again.ensures.told c.remove_busy.ensures c.end.ensures.step;
    }
