use Rattle.std.proofs.Common.{sym, ap, ◌∙◌, subst, arith}
use Rattle.write_back.specs.Changes.{changed}
use Rattle.write_back.specs.Landing.{landed}
use Rattle.write_back.specs.Ages.{parts_by, Lessens}
use Rattle.write_back.proofs.Losing.{fewer-changed, less-changed, loses-landed, loses-none}
use Rattle.write_back.proofs.Replying.{flying-covers, kept-one-at, kept-none, without-none, one-at, same-none}
use Rattle.write_back.proofs.Passed.{resumed-one}
use Rattle.write_back.proofs.file_bytes.FileBytes.ended.Goals as goal

pub overflow_sub-self : goal.overflow_sub-self
overflow_sub-self c = omega (arith, c.len.ensures.len, flying-covers c.args.xid c.self.inside.flying c.self.inside.sent.items c.in-Some.piece (sym c.in-Some.ensures.piece) c.self.invariant.kept.flying)

pub invariant_of-self : goal.invariant_of-self
invariant_of-self c =
    let is = c.change_between.ensures.after ∙ ap (λ z. changed c.args.change z c.end.result c.self.inside.spans) c.offset-start.ensures ∙ ap (λ z. changed c.args.change c.in-Some.piece.offset z c.self.inside.spans) c.end.ensures in
    rw (c.len.ensures.len, c.min-self-inside.ensures, c.min-self-inside-in-Some.ensures, c.offset-start.ensures) (record {
      kept = kept-one-at c.args.change c.args.xid _ c.in-Some.piece _ _ c.self.inside.flying c.self.inside.resume c.requires (sym c.in-Some.ensures.piece) is c.in-Some.ensures.others c.self.invariant.kept;
      none = rw is (resumed-one c.args.change _ c.self.inside.passed c.in-Some.piece _ c.self.invariant.none);
    })

pub invariant_of-self-in_default : goal.invariant_of-self-in_default
invariant_of-self-in_default c = record { kept = kept-none c.args.xid _ _ _ _ c.in_default.ensures.piece c.in_default.ensures.others c.self.invariant.kept; none = c.self.invariant.none }

pub returns-in-Some-clause-after : goal.returns-in-Some-clause-after
returns-in-Some-clause-after c =
    let is = c.change_between.ensures.after ∙ ap (λ z. changed c.args.change z c.end.result c.self.inside.spans) c.offset-start.ensures ∙ ap (λ z. changed c.args.change c.in-Some.piece.offset z c.self.inside.spans) c.end.ensures in
    rw (← c.self.view_is) (one-at c.args.change c.args.xid (record { segments = c.self.inside.spans; pieces = c.self.inside.sent.items }) c.in-Some.piece _ _ (sym c.in-Some.ensures.piece) is c.in-Some.ensures.others)

pub returns-in_default-clause-after : goal.returns-in_default-clause-after
returns-in_default-clause-after c = rw (← c.self.view_is) (same-none (landed c.args.change) c.args.xid (record { segments = c.self.inside.spans; pieces = c.self.inside.sent.items }) _ c.in_default.ensures.piece c.in_default.ensures.others)

pub returns-in-Some-clause-loses : goal.returns-in-Some-clause-loses
returns-in-Some-clause-loses c =
    rw (← c.self.view_is) (loses-landed c.args.xid (record { segments = c.self.inside.spans; pieces = c.self.inside.sent.items }) c.in-Some.piece _ _ c.args.ages.now c.lessen_parts.new.self c.change_between.new.ages (sym c.in-Some.ensures.piece) c.in-Some.ensures.others
    (subst (λ z. Lessens (λ n. parts_by n z) c.args.ages.now c.lessen_parts.new.self) c.parts.ensures c.lessen_parts.ensures)
    (fewer-changed c.args.change _ _ c.self.inside.spans c.change_between.new.spans c.change_between.ensures.after)
    (less-changed c.args.change _ _ c.self.inside.spans c.change_between.new.spans c.lessen_parts.new.self c.change_between.new.ages c.change_between.ensures.after c.change_between.ensures.less))

pub returns-in_default-clause-loses : goal.returns-in_default-clause-loses
returns-in_default-clause-loses c = rw (← c.self.view_is) (loses-none (record { segments = c.self.inside.spans; pieces = c.self.inside.sent.items }) _ c.args.ages.now (c.in_default.ensures.others ∙ without-none c.args.xid _ (sym c.in_default.ensures.piece)))
