use Rattle.std.proofs.Common.{sym, ap, ◌∙◌, nat_cmp}
use Rattle.std.specs.BTreeMap.{is_at}
use Rattle.std.specs.Map.{set_value}
use Rattle.write_back.specs.Segments.{head_of}
use Rattle.write_back.proofs.Ranges.{set-edited, edited-none}
use Rattle.write_back.proofs.segment_map.shorten_at.Goals as goal

pub returns-in_default-clause-entries : goal.returns-in_default-clause-entries
returns-in_default-clause-entries c =
    ap (λ m. m.entries) c.get_mut.follows.holds-at-none ∙ sym (edited-none (is_at (nat_cmp c.args.at)) (head_of c.args.len) c.args.entries.now.entries (sym c.in_default.ensures.value))

pub returns-clause-entries : goal.returns-clause-entries
returns-clause-entries c =
    (c.get_mut.follows.holds c.shorten.new.self).0 ∙ ap (λ w. set_value (is_at (nat_cmp c.args.at)) c.args.entries.now.entries w) c.shorten.ensures
    ∙ set-edited (is_at (nat_cmp c.args.at)) (head_of c.args.len) c.args.entries.now.entries c.in-Some.segment.now (sym c.in-Some.ensures.value)
