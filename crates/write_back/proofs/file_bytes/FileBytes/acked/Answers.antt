use Rattle.std.proofs.Common.{sym, ◌∙◌, subst, arith}
use Rattle.write_back.specs.Landing.{landed_part}
use Rattle.write_back.specs.Ages.{parts_by, Lessens}
use Rattle.write_back.proofs.Losing.{loses-landed, loses-none}
use Rattle.write_back.proofs.Replying.{flying-covers, kept-landing, kept-none, without-none, part-ok, part-err, same-none}
use Rattle.write_back.proofs.Passed.{resumed-landing}
use Rattle.write_back.proofs.file_bytes.FileBytes.acked.Goals as goal

pub invariant_of-self : goal.invariant_of-self
invariant_of-self c = record { kept = kept-none c.args.xid _ _ _ _ c.in_default.ensures.piece c.in_default.ensures.others c.self.invariant.kept; none = c.self.invariant.none }

pub returns-in_default-clause-ok : goal.returns-in_default-clause-ok
returns-in_default-clause-ok c = rw (← c.self.view_is) (same-none (landed_part c.args.change c.args.count) c.args.xid (record { segments = c.self.inside.spans; pieces = c.self.inside.sent.items }) _ c.in_default.ensures.piece c.in_default.ensures.others)

pub overflow_sub-self : goal.overflow_sub-self
overflow_sub-self c = omega (arith, c.len.ensures.len, flying-covers c.args.xid c.self.inside.flying c.self.inside.sent.items c.in-Some.piece (sym c.in-Some.ensures.piece) c.self.invariant.kept.flying)

pub invariant_of-self-2 : goal.invariant_of-self-2
invariant_of-self-2 c =
    rw (c.len.ensures.len, c.min-self-inside.ensures, c.offset.ensures, c.min-self-inside-2.ensures, c.offset-2.ensures) (record {
      kept = kept-landing c.land_part.result c.args.change c.args.count c.args.xid _ c.in-Some.piece _ _ c.self.inside.flying c.self.inside.resume c.requires (sym c.in-Some.ensures.piece) c.land_part.ensures.ok c.land_part.ensures.err c.in-Some.ensures.others c.self.invariant.kept;
      none = resumed-landing c.land_part.result c.args.change _ c.self.inside.passed c.args.count c.in-Some.piece _ _ c.land_part.ensures.ok c.land_part.ensures.err c.self.invariant.none;
    })

pub returns-clause-ok : goal.returns-clause-ok
returns-clause-ok c =
    rw (← c.self.view_is) (part-ok c.land_part.result c.args.change c.args.count c.args.xid (record { segments = c.self.inside.spans; pieces = c.self.inside.sent.items }) c.in-Some.piece _ _ (sym c.in-Some.ensures.piece) c.land_part.ensures.ok c.in-Some.ensures.others)

pub returns-clause-err : goal.returns-clause-err
returns-clause-err c =
    rw (← c.self.view_is) (part-err c.land_part.result c.args.xid (record { segments = c.self.inside.spans; pieces = c.self.inside.sent.items }) c.in-Some.piece _ _ (sym c.in-Some.ensures.piece) c.land_part.ensures.err c.in-Some.ensures.others)

pub returns-in_default-clause-loses : goal.returns-in_default-clause-loses
returns-in_default-clause-loses c = rw (← c.self.view_is) (loses-none (record { segments = c.self.inside.spans; pieces = c.self.inside.sent.items }) _ c.args.ages.now (c.in_default.ensures.others ∙ without-none c.args.xid _ (sym c.in_default.ensures.piece)))

pub returns-clause-loses : goal.returns-clause-loses
returns-clause-loses c =
    rw (← c.self.view_is) (loses-landed c.args.xid (record { segments = c.self.inside.spans; pieces = c.self.inside.sent.items }) c.in-Some.piece _ _ c.args.ages.now c.lessen_parts.new.self c.land_part.new.ages (sym c.in-Some.ensures.piece) c.in-Some.ensures.others
    (subst (λ z. Lessens (λ n. parts_by n z) c.args.ages.now c.lessen_parts.new.self) c.parts.ensures c.lessen_parts.ensures) c.land_part.ensures.fewer c.land_part.ensures.less)
