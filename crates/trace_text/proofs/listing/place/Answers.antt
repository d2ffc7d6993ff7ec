-- Before the first that the entry comes before, or as the last.
use Rattle.std.proofs.Common.{map, sym, ap, ◌∙◌}
use Rattle.trace_data.specs.declared.trace.DirEntry.{DirEntry}
use Rattle.trace_data.specs.Histories.{listed_of}
use Rattle.trace_text.specs.Objects.{comes_before}
use Rattle.trace_text.proofs.Placing.{insert-first, insert-last, inserted-map}
use Rattle.trace_text.proofs.listing.place.Goals as goal

pub returns-in_ok-insert-in-Some : goal.returns-in_ok-insert-in-Some
returns-in_ok-insert-in-Some c = ap (map listed_of) (c.in_ok-insert-in-Some.ensures.items
    ∙ insert-first (λ (other : DirEntry). comes_before (listed_of c.args.entry.now) (listed_of other)) c.args.entry.now c.args.list.now.items c.in-Some.at
    (sym (rw c.as_slice.ensures.value at c.in-Some.ensures)))
    ∙ inserted-map listed_of (comes_before (listed_of c.args.entry.now)) c.args.entry.now c.args.list.now.items

pub returns-in_ok-push-in-None : goal.returns-in_ok-push-in-None
returns-in_ok-push-in-None c = ap (map listed_of) (c.in_ok-push-in-None.ensures.items
    ∙ insert-last (λ (other : DirEntry). comes_before (listed_of c.args.entry.now) (listed_of other)) c.args.entry.now c.args.list.now.items
    (sym (rw c.as_slice.ensures.value at c.in-None.ensures)))
    ∙ inserted-map listed_of (comes_before (listed_of c.args.entry.now)) c.args.entry.now c.args.list.now.items
