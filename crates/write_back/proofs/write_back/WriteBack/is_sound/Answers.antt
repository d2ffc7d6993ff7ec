use Rattle.std.proofs.Common.{Some, arith}
use Rattle.write_back.proofs.Counting.{of-found}
use Rattle.write_back.proofs.write_back.WriteBack.is_sound.Goals as goal

pub returns : goal.returns
returns c = rw (← c.self.view_is) (record {
  files = c.self.invariant.counted.sound;
  room = omega (arith, c.self.invariant.counted.total, c.self.invariant.counted.room);
  once = λ k d lt. of-found _ c.self.inside.files.entries (Some _) (c.iter-files.ensures.found k d lt);
})
