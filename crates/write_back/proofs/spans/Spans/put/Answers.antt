use Rattle.std.proofs.Common.{sym, ap, ◌∙◌, arith}
use Rattle.write_back.specs.Walk.{tail_past}
use Rattle.write_back.proofs.Apart.{apart-added}
use Rattle.write_back.proofs.Putting.{put-free, put-fits, put-done}
use Rattle.write_back.proofs.spans.Spans.put.Goals as goal

pub lay_both-requires : goal.lay_both-requires
lay_both-requires c =
    let tail = c.in_ok-tail.ensures ∙ ap (tail_past _) (sym c.self.view_is) in
    record {
      free = put-free _ _ c.self.inside.map c.self.invariant tail;
      room = put-fits c.args.offset _ c.args.number c.args.bytes.now _ _ c.self.inside.map c.self.invariant c.in_ok-segment.ensures tail (omega (arith, c.len.ensures.len)) (omega (arith, c.len.ensures.len, c.requires.last));
    }

pub invariant_of-self : goal.invariant_of-self
invariant_of-self c = rw (c.in_err-lay_both.ensures.err) c.self.invariant

pub invariant_of-self-2 : goal.invariant_of-self-2
invariant_of-self-2 c =
    let tail = c.in_ok-tail.ensures ∙ ap (tail_past _) (sym c.self.view_is) in
    let cut = c.passing_at-cut.ensures.told in
    let done = put-done c.args.offset _ c.args.number c.args.bytes.now _ _ _ c.self.inside.map c.self.invariant c.in_ok-segment.ensures tail (rw (← c.self.view_is) at cut) (omega (arith, c.len.ensures.len)) c.requires.some in
    rw (c.clear.ensures, c.end_at.ensures, c.in_ok-lay_both.ensures.ok, done) (apart-added c.args.offset c.args.bytes.now c.args.number c.self.inside.map c.self.invariant c.requires.some c.requires.last)

pub returns-clause-ok : goal.returns-clause-ok
returns-clause-ok c =
    let tail = c.in_ok-tail.ensures ∙ ap (tail_past _) (sym c.self.view_is) in
    let cut = c.passing_at-cut.ensures.told in
    let done = put-done c.args.offset _ c.args.number c.args.bytes.now _ _ _ c.self.inside.map c.self.invariant c.in_ok-segment.ensures tail (rw (← c.self.view_is) at cut) (omega (arith, c.len.ensures.len)) c.requires.some in
    rw (c.clear.ensures, c.end_at.ensures, c.in_ok-lay_both.ensures.ok, ← c.self.view_is) done
