-- At the start, or at the last entry.
use Rattle.std.proofs.Common.{◌≡◌, ◌-◌, length, refl, sym, ◌∙◌, arith}
use Rattle.trace_text.specs.Told.{Lines}
use Rattle.trace_text.proofs.Moments.{item-last, suc-last}
use Rattle.trace_text.proofs.Telling.{told-start-verf, told-last-verf}
use Rattle.trace_text.proofs.draft.Draft.set_verf.Goals as goal

pub returns-then-count-eq0 : goal.returns-then-count-eq0
returns-then-count-eq0 c =
    let l : Lines = record {
      begun = c.self.inside.begun;
      root = c.self.inside.root;
      lives = c.self.inside.lives;
      noac = c.self.inside.noac;
      nocto = c.self.inside.nocto;
      start = c.self.inside.start;
      entries = c.self.inside.entries.items;
      updates = c.self.inside.updates.items;
    } in
    let count : c.len-count.result ≡ length c.self.inside.updates.items = c.len-count.ensures ∙ c.self.inside.updates.ok.0 in
    rw (← c.self.view_is) (told-start-verf l c.args.verf (sym count ∙ grind (arith, c.if-count-eq0.true)) c.self.invariant.same)

pub returns-else-count-eq0 : goal.returns-else-count-eq0
returns-else-count-eq0 c =
    let l : Lines = record {
      begun = c.self.inside.begun;
      root = c.self.inside.root;
      lives = c.self.inside.lives;
      noac = c.self.inside.noac;
      nocto = c.self.inside.nocto;
      start = c.self.inside.start;
      entries = c.self.inside.entries.items;
      updates = c.self.inside.updates.items;
    } in
    let count : c.len-count.result ≡ length c.self.inside.updates.items = c.len-count.ensures ∙ c.self.inside.updates.ok.0 in
    let last = suc-last c.len-count.result c.self.inside.updates.items count (grind (arith, c.if-count-eq0.false)) in
    let is = item-last c.self.inside.updates.items (c.len-count.result - 1) c.index_mut.result.now last c.index_mut.ensures.value in
    rw (← c.self.view_is) (told-last-verf l (c.len-count.result - 1) c.index_mut.result.now (record { verf = c.args.verf; objects = c.index_mut.result.now.objects })
    last c.self.invariant.same is c.args.verf refl refl)
