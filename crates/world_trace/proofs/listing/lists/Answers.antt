-- Entry after entry.
use Rattle.std.proofs.Common.{◌≡◌, ◌∷◌, [], ◌++◌, map, take, sym, ap, ◌∙◌}
use Rattle.std.proofs.lemmas.List.{take_more}
use Rattle.export_fs.specs.Seen.{entry_of}
use Rattle.trace_data.specs.declared.trace.DirEntry.{DirEntry}
use Rattle.world_trace.proofs.Rowing.{all-rows, next-entry, last-entry, none-found}
use Rattle.world_trace.proofs.listing.lists.Goals as goal

pub loop-entry-init : goal.loop-entry-init
loop-entry-init c = ap (map entry_of) (all-rows c.args.export.now c.is_kept.ensures.sound c.args.place)

pub loop-entry-preserved : goal.loop-entry-preserved
loop-entry-preserved c =
    next-entry (take c.loop-entry.entry-index c.args.entries.now) _ c.entry-item.result c.loop-entry.cookie _
    (take_more c.args.entries.now c.loop-entry.entry-index c.entry-item.result c.loop-entry-test.true ∙ ap (λ (e : DirEntry). take c.loop-entry.entry-index c.args.entries.now ++ e ∷ []) (sym c.entry-item.is))
    (c.is_next.ensures c.if-not-is_next.false) c.loop-entry.invariant

pub returns : goal.returns
returns c = λ none.
    last-entry c.args.entries.now c.loop-entry.entry-index c.loop-entry.cookie _ c.loop-entry-test.false (none-found _ c.row_made.result c.is_none.result c.row_made.ensures c.is_none.ensures none) c.loop-entry.invariant
