use Rattle.std.proofs.Common.{◌≡◌, ℕ, ◌+◌, ◌-◌, length, arith}
use Rattle.std.proofs.lemmas.List.{length-take}
use Rattle.page_cache.proofs.Bytes.{laid}
use Rattle.page_cache.proofs.page.Page.lay.Goals as goal

count : (at n : ℕ) → at + n - at ≡ n
count at n = omega arith

pub returns : goal.returns
returns c =
    let whole = c.self.invariant.1 in
    let fits = c.self.invariant.0 in
    let inside = c.requires.inside in
    let room = c.requires.fits in
    let size : length c.args.self.now ≡ c.self.inside.len = rw (← c.self.view_is) (omega (arith, length-take c.self.inside.len c.self.inside.bytes, fits, whole)) in
    rw (c.max-self-inside.ensures, c.copy_from_slice.ensures.after, count c.args.at (length c.args.bytes.now), ← c.self.view_is)
    (laid c.self.inside.bytes c.args.bytes.now c.self.inside.len c.args.at (omega (arith, size, inside)) (omega (arith, fits, whole)) (omega (arith, room, whole)))
