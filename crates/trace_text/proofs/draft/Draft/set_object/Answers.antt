-- At the start, or at the last entry.
use Rattle.std.proofs.Common.{◌≡◌, ◌-◌, length, Some, sym, ap, ◌∙◌, arith}
use Rattle.trace_text.specs.Told.{Lines}
use Rattle.trace_text.proofs.Moments.{item-last, suc-last}
use Rattle.trace_text.proofs.Telling.{told-start-object, told-last-object}
use Rattle.trace_text.proofs.draft.Draft.set_object.Goals as goal

pub returns-in_ok-put : goal.returns-in_ok-put
returns-in_ok-put c =
    let l : Lines = record {
      begun = c.self.inside.begun;
      root = c.self.inside.root;
      lives = c.self.inside.lives;
      noac = c.self.inside.noac;
      nocto = c.self.inside.nocto;
      start = c.self.inside.start;
      entries = c.self.inside.entries.items;
      updates = c.self.inside.updates.items;
    } in
    let count : c.len-count.result ≡ length c.self.inside.updates.items = c.len-count.ensures ∙ c.self.inside.updates.ok.0 in
    rw (← c.self.view_is) (sym (ap Some (told-start-object l c.args.handle c.args.object c.put.new.update c.in_ok-put.ensures.verf c.in_ok-put.ensures.objects
    (sym count ∙ grind (arith, c.if-count-eq0.true)) c.self.invariant.same)))

pub returns-in_ok-put-2 : goal.returns-in_ok-put-2
returns-in_ok-put-2 c =
    let l : Lines = record {
      begun = c.self.inside.begun;
      root = c.self.inside.root;
      lives = c.self.inside.lives;
      noac = c.self.inside.noac;
      nocto = c.self.inside.nocto;
      start = c.self.inside.start;
      entries = c.self.inside.entries.items;
      updates = c.self.inside.updates.items;
    } in
    let count : c.len-count.result ≡ length c.self.inside.updates.items = c.len-count.ensures ∙ c.self.inside.updates.ok.0 in
    let last = suc-last c.len-count.result c.self.inside.updates.items count (grind (arith, c.if-count-eq0.false)) in
    let is = item-last c.self.inside.updates.items (c.len-count.result - 1) c.index_mut.result.now last c.index_mut.ensures.value in
    rw (← c.self.view_is) (sym (ap Some (told-last-object l (c.len-count.result - 1) c.index_mut.result.now c.put-else-count-eq0.new.update last c.self.invariant.same is
    c.args.handle c.args.object c.in_ok-put-2.ensures.verf c.in_ok-put-2.ensures.objects)))
