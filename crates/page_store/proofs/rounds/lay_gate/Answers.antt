use Rattle.std.proofs.Common.{arith, ℕ, ◌*◌, subst}
use Rattle.page_store.specs.Disk.{Follows, Torn}
use Rattle.page_store.specs.Slots.{IsBut}
use Rattle.page_store.proofs.Moments.{started, goes_on}
use Rattle.page_store.proofs.Torn.{torn-but, but-sound, but-itself, torn-beside}
use Rattle.page_store.proofs.rounds.lay_gate.Goals as goal

pub returns-clause-safe : goal.returns-clause-safe
returns-clause-safe g c = λ tells n low alike s.
    let crash = subst (λ (m : ℕ). Follows (Torn (4224 * c.args.slot) m) (g.D.Disk.may_leave c.args.disk.now) (g.D.Disk.may_leave c.write.new.self)) c.requires.gate (c.write.ensures.crash tells) in
    but-sound n c.args.slot low (g.D.Disk.may_leave c.args.disk.now) (g.D.Disk.may_leave c.write.new.self) s alike crash

pub returns-clause-alike : goal.returns-clause-alike
returns-clause-alike g c = λ tells n low s.
    let crash = subst (λ (m : ℕ). Follows (Torn (4224 * c.args.slot) m) (g.D.Disk.may_leave c.args.disk.now) (g.D.Disk.may_leave c.write.new.self)) c.requires.gate (c.write.ensures.crash tells) in
    torn-but n c.args.slot low (g.D.Disk.may_leave c.args.disk.now) (g.D.Disk.may_leave c.write.new.self) s crash

pub returns-clause-beside : goal.returns-clause-beside
returns-clause-beside g c = λ tells n low s.
    let crash = subst (λ (m : ℕ). Follows (Torn (4224 * c.args.slot) m) (g.D.Disk.may_leave c.args.disk.now) (g.D.Disk.may_leave c.write.new.self)) c.requires.gate (c.write.ensures.crash tells) in
    torn-beside n c.args.slot low (g.D.Disk.may_leave c.args.disk.now) (g.D.Disk.may_leave c.write.new.self) s (4224 * c.args.slot) 4 (omega arith) (omega arith) crash

pub returns-clause-any_moment : goal.returns-clause-any_moment
returns-clause-any_moment g c = λ tells n low s.
    let old = c.args.disk.now in
    let crash = subst (λ (m : ℕ). Follows (Torn (4224 * c.args.slot) m) (g.D.Disk.may_leave c.args.disk.now) (g.D.Disk.may_leave c.write.new.self)) c.requires.gate (c.write.ensures.crash tells) in
    let P = IsBut n c.args.slot (g.D.Disk.may_leave old) in
    let start = started g.D.Disk.moment g.D.Disk.left_since old P (g.D.Disk.may_leave old) (λ i left. g.met.D.Disk.only_now old tells i left) (but-itself n c.args.slot (g.D.Disk.may_leave old)) in
    goes_on g.D.Disk.moment g.D.Disk.left_since old old c.write.new.self P (g.D.Disk.may_leave c.write.new.self) start (c.write.ensures.time tells)
    (torn-but n c.args.slot low (g.D.Disk.may_leave old) (g.D.Disk.may_leave c.write.new.self) s crash)
