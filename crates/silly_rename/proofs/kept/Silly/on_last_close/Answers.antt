use Rattle.std.proofs.Common.{sym, ap, ◌∙◌}
use Rattle.std.specs.Cmp.Lexicographic.{nat_list_cmp_total}
use Rattle.std.specs.FinMap as map
use Rattle.silly_rename.proofs.Maps.{get-entries, entries-remove}
use Rattle.silly_rename.proofs.kept.Silly.on_last_close.Goals as goal

pub returns-clause-told : goal.returns-clause-told
returns-clause-told c = rw (← c.self.view_is) (c.remove.ensures.value ∙ sym (get-entries nat_list_cmp_total c.self.inside.places _))

pub returns-clause-after : goal.returns-clause-after
returns-clause-after c = rw (← c.self.view_is) (entries-remove nat_list_cmp_total (map.slice_cmp-IsAntisymmetric map.nat_cmp-IsAntisymmetric) c.self.inside.places c.remove.new.self _ c.remove.ensures.updates)
