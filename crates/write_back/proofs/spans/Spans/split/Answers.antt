use Rattle.std.proofs.Common.{sym, ◌∙◌, arith}
use Rattle.write_back.proofs.Apart.{apart-split-as}
use Rattle.write_back.proofs.Room.{cut-room}
use Rattle.write_back.proofs.Splitting.{split-as-none, split-as-kept, split-as-cut}
use Rattle.write_back.proofs.spans.Spans.split.Goals as goal

pub returns-in_default-clause-ok : goal.returns-in_default-clause-ok
returns-in_default-clause-ok c =
    let none = rw (← c.self.view_is) at (sym c.in_default.ensures.told) in
    rw (← c.self.view_is) (sym (split-as-none c.args.flying c.args.place c.self.inside.map c.self.invariant none))

pub returns-then-stays_whole-clause-ok : goal.returns-then-stays_whole-clause-ok
returns-then-stays_whole-clause-ok c =
    let found = rw (← c.self.view_is) at (sym c.in-Some.ensures.told) in
    rw (← c.self.view_is) (sym (split-as-kept c.args.flying c.args.place c.self.inside.map (c.in-Some.at, c.in-Some.segment.now) c.self.invariant found (sym c.stays_whole.ensures ∙ c.if-stays_whole.true)))

pub cut-requires : goal.cut-requires
cut-requires c =
    let found = rw (← c.self.view_is) at (sym c.in-Some.ensures.told) in
    let room = cut-room c.args.place c.self.inside.map (c.in-Some.at, c.in-Some.segment.now) c.self.invariant found in
    record {
      order = omega (arith, c.in-Some.ensures.inside.0);
      room = rw (c.in_ok-tail.ensures) (omega (arith, room));
    }

pub invariant_of-self : goal.invariant_of-self
invariant_of-self c = rw (c.in_err-cut.ensures.err) c.self.invariant

pub invariant_of-self-2 : goal.invariant_of-self-2
invariant_of-self-2 c =
    let found = rw (← c.self.view_is) at (sym c.in-Some.ensures.told) in
    rw (c.in_ok-cut.ensures.ok, c.in_ok-tail.ensures, split-as-cut c.args.flying c.args.place c.self.inside.map (c.in-Some.at, c.in-Some.segment.now) c.self.invariant found (sym c.stays_whole.ensures ∙ c.if-stays_whole.false))
    (apart-split-as c.args.flying c.args.place c.self.inside.map c.self.invariant)

pub returns-clause-ok : goal.returns-clause-ok
returns-clause-ok c =
    let found = rw (← c.self.view_is) at (sym c.in-Some.ensures.told) in
    rw (c.in_ok-cut.ensures.ok, c.in_ok-tail.ensures, ← c.self.view_is)
    (split-as-cut c.args.flying c.args.place c.self.inside.map (c.in-Some.at, c.in-Some.segment.now) c.self.invariant found (sym c.stays_whole.ensures ∙ c.if-stays_whole.false))
