use Rattle.std.proofs.Common.{◌<◌, length, refl, ◌∙◌, arith}
use Rattle.page_cache.proofs.Made.{one-made, length-more}
use Rattle.page_cache.proofs.page_room.make_up_to.Goals as goal

pub loop-made-init : goal.loop-made-init
loop-made-init c = ((λ count low few. (few, refl)), omega arith)

pub loop-made-preserved : goal.loop-made-preserved
loop-made-preserved c =
    let made = c.loop-made.made.items in
    rw (c.in-Ok.ensures.items, c.empty.ensures) (
      (λ count low few.
          let room : length made < count = omega (arith, low, c.loop-made-test.true, c.len.ensures, c.loop-made.made.ok.0) in
          let more = length-more made in
          ((omega (arith, room, more)), one-made count made room ∙ (c.loop-made.invariant.0 count low few).1)),
      omega (arith, c.in-Ok.ensures.capacity, c.loop-made.invariant.1),
    )

pub returns-clause-same : goal.returns-clause-same
returns-clause-same c = λ count low few. (c.loop-made.invariant.0 count low few).1

pub returns-clause-few : goal.returns-clause-few
returns-clause-few c = λ count low few. (c.loop-made.invariant.0 count low few).0
