use Rattle.std.proofs.Common.{ℕ, List, sym, ap, subst, length, arith}
use Rattle.script_batches.specs.Taking.{IsUsed}
use Rattle.script_batches.proofs.Lining.{OpenSo, open-last, open-more, open-none, used-more, used-none}
use Rattle.script_batches.proofs.held.Held.next_line.Goals as goal

pub taking-init : goal.taking-init
taking-init g c =
    let none = c.new-line.ensures.items in
    record {
      open_line = subst (λ (t : List ℕ). OpenSo (g.S.Source.left c.args.source.now) (g.S.Source.left c.args.source.now) c.args.self.now c.args.self.now t) (sym none)
          (open-none (g.S.Source.left c.args.source.now) c.args.self.now);
      used = subst (λ (t : List ℕ). IsUsed c.args.self.now c.args.self.now t) (sym none) (used-none c.args.self.now);
      kept = (let long = ap length none in omega (arith, long));
      later = omega arith;
    }

pub taking-preserved : goal.taking-preserved
taking-preserved g c =
    let i = c.taking.invariant in
    let r = c.in-Ok.ensures in
    record {
      open_line = open-more (g.S.Source.left c.args.source.now) (g.S.Source.left c.taking.source) (g.S.Source.left c.take_next.new.source) c.args.self.now c.taking.self c.take_next.new.self c.taking.line.items c.take_next.new.line.items c.in-Ok.ended c.if-ended.false i.open_line r.goes;
      used = used-more c.args.self.now c.taking.self c.take_next.new.self c.taking.line.items c.take_next.new.line.items c.in-Ok.ended i.used r.uses;
      kept = r.kept;
      later = let a = i.later in let b = r.later in omega (arith, a, b);
    }

pub taking-smaller : goal.taking-smaller
taking-smaller g c = c.in-Ok.ensures.uses.less c.if-ended.false

pub returns-then-ended-clause-gives : goal.returns-then-ended-clause-gives
returns-then-ended-clause-gives g c =
    open-last (g.S.Source.left c.args.source.now) (g.S.Source.left c.taking.source) (g.S.Source.left c.take_next.new.source) c.args.self.now c.taking.self c.take_next.new.self c.taking.line.items c.take_next.new.line.items c.in-Ok.ended c.if-ended.true c.taking.invariant.open_line c.in-Ok.ensures.goes

pub returns-then-ended-clause-used : goal.returns-then-ended-clause-used
returns-then-ended-clause-used g c =
    used-more c.args.self.now c.taking.self c.take_next.new.self c.taking.line.items c.take_next.new.line.items c.in-Ok.ended c.taking.invariant.used c.in-Ok.ensures.uses
