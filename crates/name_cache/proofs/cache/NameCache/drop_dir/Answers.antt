use Rattle.std.proofs.Common.{◌≡◌, ◌<◌, length, ap, ◌∙◌, arith}
use Rattle.name_cache.specs.Names.{turned}
use Rattle.name_cache.proofs.Turning.{passed, turned-passed, passed-all}
use Rattle.name_cache.proofs.cache.NameCache.drop_dir.Goals as goal

pub loop-preserved : goal.loop-preserved
loop-preserved c =
    let within : c.loop.counter < length c.args.self.now = rw (← c.self.view_is) (omega (arith, c.len-count.ensures.len, c.loop-test.true)) in
    c.turn.ensures ∙ ap (turned c.args.dir.now) c.loop.invariant ∙ turned-passed c.args.dir.now c.args.self.now c.loop.counter within

pub returns : goal.returns
returns c =
    let whole : c.loop.counter ≡ length c.args.self.now = rw (← c.self.view_is) (omega (arith, c.len-count.ensures.len, c.loop-test.false, c.loop.auto.counter-end)) in
    c.loop.invariant ∙ ap (passed c.args.dir.now c.args.self.now) whole ∙ passed-all c.args.dir.now c.args.self.now
