use Rattle.std.proofs.Common.{◌≡◌, ◌+◌, ◌∷◌, length, drop, arith, ap, ◌∙◌, refl}
use Rattle.std.proofs.lemmas.List.{length-drop}
use Rattle.outside.specs.MemWire.{IsPartOf}
use Rattle.outside.proofs.Pieces.{drop_here, no_part, hands_last, hands_part}
use Rattle.outside.proofs.mem_wire.MemWireWire.read.Goals as goal

pub invariant_of-self-then-whole : goal.invariant_of-self-then-whole
invariant_of-self-then-whole c =
    let at = rw c.as_slice-2.ensures.value at c.in-Some.ensures.lookup in
    (omega (arith, at.3.0), c.self.invariant.1, no_part (c.self.inside.next + 1) c.self.inside.pieces.items c.self.invariant.1)

pub returns-then-whole-clause-given : goal.returns-then-whole-clause-given
returns-then-whole-clause-given c =
    let at = rw c.as_slice-2.ensures.value at c.in-Some.ensures.lookup in
    let first = drop_here c.self.inside.next c.self.inside.pieces.items c.in-Some.piece.now at.3.0 at.1 in
    let part : IsPartOf c.self.inside.at (c.in-Some.piece.now ∷ drop (c.self.inside.next + 1) c.self.inside.pieces.items) = rw first at c.self.invariant.2 in
    let back : c.split_at.result.1.now ≡ drop c.self.inside.at c.in-Some.piece.now = c.split_at.ensures.back ∙ ap (drop c.self.inside.at) c.bytes.ensures in
    let n = length-drop c.self.inside.at c.in-Some.piece.now in
    rw (← c.self.view_is)
    (hands_last _ _ _ c.in-Some.piece.now _ _ first (omega (arith, c.copy_front-count.ensures.count, ap length back, n, c.copy_front-count.auto.to)) (rw (← back) c.copy_front-count.ensures.front) (omega (arith, c.if-whole.true, ap length back, n, part)) refl refl)

pub returns-else-whole-clause-given : goal.returns-else-whole-clause-given
returns-else-whole-clause-given c =
    let at = rw c.as_slice-2.ensures.value at c.in-Some.ensures.lookup in
    let first = drop_here c.self.inside.next c.self.inside.pieces.items c.in-Some.piece.now at.3.0 at.1 in
    let part : IsPartOf c.self.inside.at (c.in-Some.piece.now ∷ drop (c.self.inside.next + 1) c.self.inside.pieces.items) = rw first at c.self.invariant.2 in
    let back : c.split_at.result.1.now ≡ drop c.self.inside.at c.in-Some.piece.now = c.split_at.ensures.back ∙ ap (drop c.self.inside.at) c.bytes.ensures in
    let n = length-drop c.self.inside.at c.in-Some.piece.now in
    rw (← c.self.view_is)
    (hands_part _ _ _ c.in-Some.piece.now _ _ first (omega (arith, c.copy_front-count.ensures.count, ap length back, n, c.copy_front-count.auto.to)) (rw (← back) c.copy_front-count.ensures.front) (λ e. omega (arith, c.if-whole.false, ap length back, n, part, e)) refl refl)
