use Rattle.std.proofs.Common.{ℕ, List}
use Rattle.page_store.specs.Slots.{IsFrom, IsFromOr}
use Rattle.page_store.proofs.Moments.{weaker, then_on}
use Rattle.page_store.proofs.Torn.{beside-then}
use Rattle.page_store.proofs.Gates.{from-from, from-or, or-weaker}
use Rattle.page_store.proofs.slots.put_body.Goals as goal

pub returns-in-Err-clause-any_moment : goal.returns-in-Err-clause-any_moment
returns-in-Err-clause-any_moment g c = λ tells n low s.
    let old = g.D.Disk.may_leave c.args.disk.now in
    weaker g.D.Disk.moment g.D.Disk.left_since c.args.disk.now c.close_gate.new.disk (IsFrom n old) (IsFromOr n c.args.slot c.args.body.now old) (c.close_gate.ensures.any_moment tells n low s)
    (or-weaker n c.args.slot c.args.body.now old)

pub returns-in-Err-write_body-clause-leaves : goal.returns-in-Err-write_body-clause-leaves
returns-in-Err-write_body-clause-leaves g c = λ tells n low s i left.
    let old = g.D.Disk.may_leave c.args.disk.now in
    let mid = g.D.Disk.may_leave c.close_gate.new.disk in
    let on = c.close_gate.ensures.goes_on tells in
    or-weaker n c.args.slot c.args.body.now old i
    (from-from n old mid (c.close_gate.ensures.leaves tells n low s) i (c.write_body.ensures.leaves on n low (c.in-Ok.ensures.shut tells n low s) (c.close_gate.ensures.safe tells n low s) i left))

pub returns-in-Err-write_body-clause-any_moment : goal.returns-in-Err-write_body-clause-any_moment
returns-in-Err-write_body-clause-any_moment g c = λ tells n low s.
    let old = g.D.Disk.may_leave c.args.disk.now in
    let mid = g.D.Disk.may_leave c.close_gate.new.disk in
    let on = c.close_gate.ensures.goes_on tells in
    let P = IsFromOr n c.args.slot c.args.body.now old in
    let first = weaker g.D.Disk.moment g.D.Disk.left_since c.args.disk.now c.close_gate.new.disk (IsFrom n old) P (c.close_gate.ensures.any_moment tells n low s) (or-weaker n c.args.slot c.args.body.now old) in
    then_on g.D.Disk.moment g.D.Disk.left_since c.args.disk.now c.close_gate.new.disk c.write_body.new.disk P (IsFrom n mid) first
    (c.write_body.ensures.any_moment on n low (c.in-Ok.ensures.shut tells n low s) (c.close_gate.ensures.safe tells n low s))
    (λ i from. or-weaker n c.args.slot c.args.body.now old i (from-from n old mid (c.close_gate.ensures.leaves tells n low s) i from))

pub returns-clause-leaves : goal.returns-clause-leaves
returns-clause-leaves g c = λ tells n low s i left.
    let old = g.D.Disk.may_leave c.args.disk.now in
    let mid = g.D.Disk.may_leave c.close_gate.new.disk in
    let late = g.D.Disk.may_leave c.write_body.new.disk in
    let on = c.close_gate.ensures.goes_on tells in
    let shut = c.in-Ok.ensures.shut tells n low s in
    let s2 = c.close_gate.ensures.safe tells n low s in
    let on2 = c.write_body.ensures.goes_on on in
    let s3 = c.write_body.ensures.safe on n low shut s2 in
    let each = λ (j : List ℕ) (l : late j). from-from n old mid (c.close_gate.ensures.leaves tells n low s) j (c.write_body.ensures.leaves on n low shut s2 j l) in
    from-or n c.args.slot c.args.body.now old late each i (c.open_gate.ensures.leaves on2 n low c.args.body.now (c.in-Ok-write_body.ensures.body on) s3 i left)

pub returns-clause-any_moment : goal.returns-clause-any_moment
returns-clause-any_moment g c = λ tells n low s.
    let old = g.D.Disk.may_leave c.args.disk.now in
    let mid = g.D.Disk.may_leave c.close_gate.new.disk in
    let late = g.D.Disk.may_leave c.write_body.new.disk in
    let on = c.close_gate.ensures.goes_on tells in
    let shut = c.in-Ok.ensures.shut tells n low s in
    let s2 = c.close_gate.ensures.safe tells n low s in
    let on2 = c.write_body.ensures.goes_on on in
    let s3 = c.write_body.ensures.safe on n low shut s2 in
    let P = IsFromOr n c.args.slot c.args.body.now old in
    let each = λ (j : List ℕ) (l : late j). from-from n old mid (c.close_gate.ensures.leaves tells n low s) j (c.write_body.ensures.leaves on n low shut s2 j l) in
    let first = weaker g.D.Disk.moment g.D.Disk.left_since c.args.disk.now c.close_gate.new.disk (IsFrom n old) P (c.close_gate.ensures.any_moment tells n low s) (or-weaker n c.args.slot c.args.body.now old) in
    let second = then_on g.D.Disk.moment g.D.Disk.left_since c.args.disk.now c.close_gate.new.disk c.write_body.new.disk P (IsFrom n mid) first (c.write_body.ensures.any_moment on n low shut s2)
    (λ i from. or-weaker n c.args.slot c.args.body.now old i (from-from n old mid (c.close_gate.ensures.leaves tells n low s) i from)) in
    then_on g.D.Disk.moment g.D.Disk.left_since c.args.disk.now c.write_body.new.disk c.open_gate.new.disk P (IsFromOr n c.args.slot c.args.body.now late) second
    (c.open_gate.ensures.any_moment on2 n low c.args.body.now (c.in-Ok-write_body.ensures.body on) s3) (λ i from. from-or n c.args.slot c.args.body.now old late each i from)

pub returns-in-Err-write_body-clause-beside : goal.returns-in-Err-write_body-clause-beside
returns-in-Err-write_body-clause-beside g c = λ tells n low s i left.
    let s2 = c.close_gate.ensures.safe tells n low s in
    let on = c.close_gate.ensures.goes_on tells in
    beside-then n c.args.slot (g.D.Disk.may_leave c.args.disk.now) (g.D.Disk.may_leave c.close_gate.new.disk) (c.close_gate.ensures.beside tells n low s) i (c.write_body.ensures.beside on n low s2 i left)

pub returns-clause-beside : goal.returns-clause-beside
returns-clause-beside g c = λ tells n low s i left.
    let old = g.D.Disk.may_leave c.args.disk.now in
    let mid = g.D.Disk.may_leave c.close_gate.new.disk in
    let late = g.D.Disk.may_leave c.write_body.new.disk in
    let on = c.close_gate.ensures.goes_on tells in
    let s2 = c.close_gate.ensures.safe tells n low s in
    let on2 = c.write_body.ensures.goes_on on in
    let s3 = c.write_body.ensures.safe on n low (c.in-Ok.ensures.shut tells n low s) s2 in
    beside-then n c.args.slot old mid (c.close_gate.ensures.beside tells n low s) i
    (beside-then n c.args.slot mid late (c.write_body.ensures.beside on n low s2) i (c.open_gate.ensures.beside on2 n low s3 i left))

pub returns-in-Err-clause-leaves : goal.returns-in-Err-clause-leaves
returns-in-Err-clause-leaves g c = λ tells n low s i left.
    or-weaker n c.args.slot c.args.body.now (g.D.Disk.may_leave c.args.disk.now) i (c.close_gate.ensures.leaves tells n low s i left)

pub returns-in-Err-write_body-clause-safe : goal.returns-in-Err-write_body-clause-safe
returns-in-Err-write_body-clause-safe g c = λ tells n low s.
    c.write_body.ensures.safe (c.close_gate.ensures.goes_on tells) n low (c.in-Ok.ensures.shut tells n low s) (c.close_gate.ensures.safe tells n low s)

pub returns-clause-safe : goal.returns-clause-safe
returns-clause-safe g c = λ tells n low s.
    let on = c.close_gate.ensures.goes_on tells in
    let on2 = c.write_body.ensures.goes_on on in
    let s3 = c.write_body.ensures.safe on n low (c.in-Ok.ensures.shut tells n low s) (c.close_gate.ensures.safe tells n low s) in
    c.open_gate.ensures.safe on2 n low c.args.body.now (c.in-Ok-write_body.ensures.body on) s3

pub returns-clause-stored : goal.returns-clause-stored
returns-clause-stored g c = λ tells n low s.
    let on = c.close_gate.ensures.goes_on tells in
    let on2 = c.write_body.ensures.goes_on on in
    let s3 = c.write_body.ensures.safe on n low (c.in-Ok.ensures.shut tells n low s) (c.close_gate.ensures.safe tells n low s) in
    c.open_gate.ensures.stands on2 n low c.args.body.now (c.in-Ok-write_body.ensures.body on) s3
