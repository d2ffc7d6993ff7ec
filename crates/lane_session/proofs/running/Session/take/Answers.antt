use Rattle.std.proofs.Common.{inl, inr, refl, false, arith}
use Rattle.lane_session.proofs.running.Session.take.Goals as goal

pub returns-then-self-eq-STRAY_RECORDS : goal.returns-then-self-eq-STRAY_RECORDS
returns-then-self-eq-STRAY_RECORDS c =
    let last = c.if-self-eq-STRAY_RECORDS.true in
    record { result = false; core = c.take.new.self; hears = c.if-take.ensures; is = inr (omega (arith, last), c.lose.ensures) }

pub returns-else-self-eq-STRAY_RECORDS : goal.returns-else-self-eq-STRAY_RECORDS
returns-else-self-eq-STRAY_RECORDS c =
    let other = c.if-self-eq-STRAY_RECORDS.false in
    record { result = false; core = c.take.new.self; hears = c.if-take.ensures; is = inl (λ last. omega (arith, other, last), refl) }
