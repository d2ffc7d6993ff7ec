use Rattle.std.proofs.Common.{ℕ, List, subst, sym}
use Rattle.std.proofs.lemmas.Result.{on_ok_weaker}
use Rattle.page_store.specs.Slots.{IsFrom, IsBut, IsOpen}
use Rattle.page_store.proofs.Moments.{started, goes_on, then_on}
use Rattle.page_store.proofs.Torn.{fewer, itself, beside-itself, beside-fewer}
use Rattle.page_store.proofs.Gates.{open-alike, but-from, from-from, zeros-shut}
use Rattle.page_store.proofs.slots.close_gate.Goals as goal

pub returns-in-Ok-true-clause-safe : goal.returns-in-Ok-true-clause-safe
returns-in-Ok-true-clause-safe g c = λ tells n low s.
    let old = g.D.Disk.may_leave c.args.disk.now in
    let mid = g.D.Disk.may_leave c.reads_open.new.disk in
    let on = c.reads_open.ensures.goes_on tells in
    let seen = g.D.Disk.seen c.reads_open.new.disk in
    let gate = subst (λ (i : List ℕ). IsOpen i c.args.slot) (sym (c.reads_open.ensures.seen tells)) ((c.in-Ok-true.ensures.gate tells).0 c.in-Ok-true.field-0-test) in
    let s2 = fewer n old mid s (c.reads_open.ensures.crash tells) in
    c.write_gate.ensures.safe on n low (open-alike n c.args.slot low mid s2 seen (g.met.D.Disk.shows_one c.reads_open.new.disk on) gate) s2

pub returns-in-Ok-true-clause-leaves : goal.returns-in-Ok-true-clause-leaves
returns-in-Ok-true-clause-leaves g c = λ tells n low s i left.
    let old = g.D.Disk.may_leave c.args.disk.now in
    let mid = g.D.Disk.may_leave c.reads_open.new.disk in
    let on = c.reads_open.ensures.goes_on tells in
    let seen = g.D.Disk.seen c.reads_open.new.disk in
    let gate = subst (λ (i : List ℕ). IsOpen i c.args.slot) (sym (c.reads_open.ensures.seen tells)) ((c.in-Ok-true.ensures.gate tells).0 c.in-Ok-true.field-0-test) in
    let s2 = fewer n old mid s (c.reads_open.ensures.crash tells) in
    let from = but-from n c.args.slot low mid s2 seen (g.met.D.Disk.shows_one c.reads_open.new.disk on) gate in
    from-from n old mid (λ c2 left2. itself n old c2 (c.reads_open.ensures.crash tells c2 left2)) i (from i (c.write_gate.ensures.alike on n low s2 i left))

pub returns-in-Ok-true-clause-any_moment : goal.returns-in-Ok-true-clause-any_moment
returns-in-Ok-true-clause-any_moment g c = λ tells n low s.
    let old = g.D.Disk.may_leave c.args.disk.now in
    let mid = g.D.Disk.may_leave c.reads_open.new.disk in
    let on = c.reads_open.ensures.goes_on tells in
    let seen = g.D.Disk.seen c.reads_open.new.disk in
    let gate = subst (λ (i : List ℕ). IsOpen i c.args.slot) (sym (c.reads_open.ensures.seen tells)) ((c.in-Ok-true.ensures.gate tells).0 c.in-Ok-true.field-0-test) in
    let s2 = fewer n old mid s (c.reads_open.ensures.crash tells) in
    let from = but-from n c.args.slot low mid s2 seen (g.met.D.Disk.shows_one c.reads_open.new.disk on) gate in
    let before = λ (c2 : List ℕ) (left2 : mid c2). itself n old c2 (c.reads_open.ensures.crash tells c2 left2) in
    let start = started g.D.Disk.moment g.D.Disk.left_since c.args.disk.now (IsFrom n old) old (λ i left. g.met.D.Disk.only_now c.args.disk.now tells i left) (itself n old) in
    let read = goes_on g.D.Disk.moment g.D.Disk.left_since c.args.disk.now c.args.disk.now c.reads_open.new.disk (IsFrom n old) mid start (c.reads_open.ensures.time tells) before in
    then_on g.D.Disk.moment g.D.Disk.left_since c.args.disk.now c.reads_open.new.disk c.write_gate.new.disk (IsFrom n old) (IsBut n c.args.slot mid) read (c.write_gate.ensures.any_moment on n low s2)
    (λ i but. from-from n old mid before i (from i but))

pub returns-in-Ok-true-clause-shut : goal.returns-in-Ok-true-clause-shut
returns-in-Ok-true-clause-shut g c = λ tells n low s.
    let on = c.reads_open.ensures.goes_on tells in
    on_ok_weaker c.write_gate.result
    (λ h i left opens. zeros-shut (g.D.Disk.seen c.write_gate.new.disk) c.args.slot h.0 (subst (λ (j : List ℕ). IsOpen j c.args.slot) (h.1 i left) opens)) (c.write_gate.ensures.written on)

pub returns-in-Ok-true-clause-beside : goal.returns-in-Ok-true-clause-beside
returns-in-Ok-true-clause-beside g c = λ tells n low s i left.
    let old = g.D.Disk.may_leave c.args.disk.now in
    let mid = g.D.Disk.may_leave c.reads_open.new.disk in
    let sub = c.reads_open.ensures.crash tells in
    beside-fewer n c.args.slot old mid sub i (c.write_gate.ensures.beside (c.reads_open.ensures.goes_on tells) n low (fewer n old mid s sub) i left)

pub returns-in-Ok-false-clause-beside : goal.returns-in-Ok-false-clause-beside
returns-in-Ok-false-clause-beside g c = λ tells n low s i left.
    beside-itself n c.args.slot (g.D.Disk.may_leave c.args.disk.now) i (c.reads_open.ensures.crash tells i (c.sync.ensures.crash (c.reads_open.ensures.goes_on tells) i left))

pub returns-in-Err-clause-beside : goal.returns-in-Err-clause-beside
returns-in-Err-clause-beside g c = λ tells n low s i left. beside-itself n c.args.slot (g.D.Disk.may_leave c.args.disk.now) i (c.reads_open.ensures.crash tells i left)
