use Rattle.std.proofs.Common.{ℕ, List, sym, ap, subst, length, arith}
use Rattle.script_batches.specs.declared.input.Taken.{Taken}
use Rattle.script_batches.specs.declared.input.Taken.TheVariants as takes
use Rattle.script_batches.specs.Taking.{IsUsed, TakesLine}
use Rattle.script_batches.proofs.Batching.{TakenSo, counted-next, taken-none, taken-on, took-end, took-go, used-line}
use Rattle.script_batches.proofs.Lining.{used-none}
use Rattle.script_batches.proofs.input.Batches.take_lines.Goals as goal

pub reading-init : goal.reading-init
reading-init g c =
    let none = c.requires.empty in
    record {
      taken = subst (λ (t : List ℕ). TakenSo (g.S.Source.left c.args.source.now) (g.S.Source.left c.args.source.now) c.args.self.now c.args.self.now t) (sym none)
          (taken-none (g.S.Source.left c.args.source.now) c.args.self.now c.requires.counted);
      used = subst (λ (t : List ℕ). IsUsed c.args.self.now.held c.args.self.now.held t) (sym none) (used-none c.args.self.now.held);
      kept = (let long = ap length none in omega (arith, long));
      counted = c.requires.counted;
      later = omega arith;
    }

pub reading-preserved : goal.reading-preserved
reading-preserved g c =
    let i = c.reading.invariant in
    let r = c.in-Ok-Line.ensures in
    let took : TakesLine (g.S.Source.left c.reading.source) (g.S.Source.left c.take_line.new.source) c.reading.self c.take_line.new.self c.reading.text.items c.take_line.new.text.items takes.Line =
    subst (λ (t : Taken). TakesLine (g.S.Source.left c.reading.source) (g.S.Source.left c.take_line.new.source) c.reading.self c.take_line.new.self c.reading.text.items c.take_line.new.text.items t)
    c.in-Ok-Line.field-0-is r.took in
    record {
      taken = taken-on c.args.self.now c.reading.self c.take_line.new.self c.reading.text.items c.take_line.new.text.items (g.S.Source.left c.args.source.now) (g.S.Source.left c.reading.source) (g.S.Source.left c.take_line.new.source) i.taken took;
      used = used-line c.args.self.now c.reading.self c.take_line.new.self c.reading.text.items c.take_line.new.text.items (g.S.Source.left c.reading.source) (g.S.Source.left c.take_line.new.source) i.used took;
      kept = r.kept;
      counted = counted-next c.take_line.new.self took.mid took.adds.0;
      later = let a = i.later in let b = r.later in omega (arith, a, b);
    }

pub returns-in-Ok-Go-clause-took : goal.returns-in-Ok-Go-clause-took
returns-in-Ok-Go-clause-took g c =
    let i = c.reading.invariant in
    let r = c.in-Ok-Go.ensures in
    let took : TakesLine (g.S.Source.left c.reading.source) (g.S.Source.left c.take_line.new.source) c.reading.self c.take_line.new.self c.reading.text.items c.take_line.new.text.items takes.Go =
    subst (λ (t : Taken). TakesLine (g.S.Source.left c.reading.source) (g.S.Source.left c.take_line.new.source) c.reading.self c.take_line.new.self c.reading.text.items c.take_line.new.text.items t)
    c.in-Ok-Go.field-0-is r.took in
    took-go c.args.self.now c.reading.self c.take_line.new.self c.reading.text.items c.take_line.new.text.items (g.S.Source.left c.args.source.now) (g.S.Source.left c.reading.source) (g.S.Source.left c.take_line.new.source) i.taken i.used r.kept took

pub returns-in-Ok-End-clause-took : goal.returns-in-Ok-End-clause-took
returns-in-Ok-End-clause-took g c =
    let i = c.reading.invariant in
    let r = c.in-Ok-End.ensures in
    let took : TakesLine (g.S.Source.left c.reading.source) (g.S.Source.left c.take_line.new.source) c.reading.self c.take_line.new.self c.reading.text.items c.take_line.new.text.items takes.End =
    subst (λ (t : Taken). TakesLine (g.S.Source.left c.reading.source) (g.S.Source.left c.take_line.new.source) c.reading.self c.take_line.new.self c.reading.text.items c.take_line.new.text.items t)
    c.in-Ok-End.field-0-is r.took in
    took-end c.args.self.now c.reading.self c.take_line.new.self c.reading.text.items c.take_line.new.text.items (g.S.Source.left c.args.source.now) (g.S.Source.left c.reading.source) (g.S.Source.left c.take_line.new.source) i.taken i.used r.kept i.counted took
