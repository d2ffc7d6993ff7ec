use Rattle.std.proofs.Common.{◌≡◌, length, refl, arith}
use Rattle.write_back.specs.Files.{of_file}
use Rattle.write_back.proofs.ByFile.{on-same}
use Rattle.write_back.proofs.Limits.{most_is}
use Rattle.write_back.proofs.SendsOn.{none-is, puts-with}
use Rattle.write_back.proofs.Through.{not-full}
use Rattle.write_back.proofs.write_back.WriteBack.add.Goals as goal

pub overflow_add-self-inside : goal.overflow_add-self-inside
overflow_add-self-inside c = omega (arith, c.len-size.ensures.small, c.self.invariant.counted.room, most_is)

pub returns-then-self-size-gt-MOST-clause-full : goal.returns-then-self-size-gt-MOST-clause-full
returns-then-self-size-gt-MOST-clause-full c = rw (← c.self.view_is) ((λ _. omega (arith, c.if-self-size-gt-MOST.true, c.len-size.ensures.len, c.self.invariant.counted.total, most_is)), (λ _. refl))

pub returns-then-size-eq0-clause-full : goal.returns-then-size-eq0-clause-full
returns-then-size-eq0-clause-full c =
    rw (← c.self.view_is) ((λ h. absurd cc), (λ h. absurd (omega (arith, h, c.if-self-size-gt-MOST.false, c.len-size.ensures.len, c.self.invariant.counted.total, most_is))))

pub returns-then-size-eq0-clause-ok : goal.returns-then-size-eq0-clause-ok
returns-then-size-eq0-clause-ok c =
    rw (← c.self.view_is) (on-same _ c.args.file.now _ (none-is c.args.offset c.args.bytes.now c.args.seq _ (omega (arith, c.len-size.ensures.len, c.if-size-eq0.true))))

pub returns-then-size-eq0-clause-places : goal.returns-then-size-eq0-clause-places
returns-then-size-eq0-clause-places c =
    let none : length c.args.bytes.now ≡ 0 = omega (arith, c.len-size.ensures.len, c.if-size-eq0.true) in
    rw (← c.self.view_is) (puts-with c.args.offset c.args.bytes.now c.args.seq _ _ (c.self.invariant.counted.sound c.args.file.now) (none-is c.args.offset c.args.bytes.now c.args.seq _ none))

pub lay-requires-clause-room : goal.lay-requires-clause-room
lay-requires-clause-room c = rw (← c.self.view_is) (omega (arith, c.if-self-size-gt-MOST.false, c.len-size.ensures.len, c.self.invariant.counted.total, most_is))

pub returns-in_err-lay-clause-full : goal.returns-in_err-lay-clause-full
returns-in_err-lay-clause-full c =
    rw (← c.self.view_is) ((λ h. absurd (not-full c.from_residual.result c.from_residual.ensures.1 h)), (λ h. absurd (omega (arith, h, c.if-self-size-gt-MOST.false, c.len-size.ensures.len, c.self.invariant.counted.total, most_is))))

pub returns-clause-full : goal.returns-clause-full
returns-clause-full c = rw (← c.self.view_is) ((λ h. absurd cc), (λ h. absurd (omega (arith, h, c.if-self-size-gt-MOST.false, c.len-size.ensures.len, c.self.invariant.counted.total, most_is))))

pub returns-clause-places : goal.returns-clause-places
returns-clause-places c =
    let sound = rw c.self.view_is at (c.self.invariant.counted.sound c.args.file.now) in
    puts-with c.args.offset c.args.bytes.now c.args.seq (of_file c.args.file.now c.args.self.now) _ sound c.in_ok-lay.ensures.ok.here
