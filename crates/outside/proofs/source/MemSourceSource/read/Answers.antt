use Rattle.std.proofs.Common.{ℕ, List, drop, subst, ap, ◌∙◌}
use Rattle.std.proofs.lemmas.List.{drop-drop}
use Rattle.outside.specs.Source.{ReadsFrom}
use Rattle.outside.specs.Views.{SourceView}
use Rattle.outside.proofs.Fronts.{reads_front}
use Rattle.outside.proofs.source.MemSourceSource.read.Goals as goal

pub returns-clause-told : goal.returns-clause-told
returns-clause-told c =
    let n = c.copy_front-count.result in
    let same = c.split_at.ensures.back ∙ ap (drop c.self.inside.at) c.as_slice-2.ensures.value in
    let read = reads_front c.split_at.result.1.now c.copy_front-count.new.to n _ c.copy_front-count.ensures.count c.copy_front-count.ensures.front c.requires in
    rw (← ap (λ (v : SourceView). v.left) c.self.view_is, ← drop-drop n c.self.inside.at c.self.inside.bytes.items)
    (subst (λ (left : List ℕ). ReadsFrom left (drop n left) c.copy_front-count.new.to n) same read)
