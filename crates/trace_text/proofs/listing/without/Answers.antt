-- What is left has other names.
use Rattle.std.proofs.Common.{rules, not, map, List, ap, ◌∙◌}
use Rattle.std.specs.Str.{bytes_eq}
use Rattle.std.proofs.lemmas.Fn.{filter_same}
use Rattle.trace_data.specs.declared.trace.DirEntry.{DirEntry}
use Rattle.trace_data.specs.Histories.{listed_of}
use Rattle.trace_text.specs.Objects.{without}
use Rattle.trace_text.proofs.Leaving.{left-map}
use Rattle.trace_text.proofs.listing.without.Goals as goal

pub returns : goal.returns
returns c =
    let left = filter_same _ (λ (e : DirEntry). not (bytes_eq e.name c.args.name.now)) _ (λ x b g k. search rules) _ _ c.retain.ensures.filtered in
    ap (map listed_of) left ∙ left-map c.args.name.now c.in_ok-left.left.items
    ∙ ap (λ (es : List DirEntry). without c.args.name.now (map listed_of es)) (c.in_ok-left.ensures.items_if_clones_equal (λ x y e. search (rules, e)))
