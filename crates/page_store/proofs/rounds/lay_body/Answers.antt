use Rattle.std.proofs.Common.{arith, ℕ, ◌+◌, ◌*◌, subst}
use Rattle.page_store.specs.Disk.{Follows, Torn}
use Rattle.page_store.specs.Slots.{IsFrom}
use Rattle.page_store.proofs.Moments.{started, goes_on}
use Rattle.page_store.proofs.Torn.{body-sound, body-leaves, torn-beside, shut-aside, itself}
use Rattle.page_store.proofs.rounds.lay_body.Goals as goal

pub returns-clause-safe : goal.returns-clause-safe
returns-clause-safe g c = λ tells n low shut s.
    let crash = subst (λ (m : ℕ). Follows (Torn (4224 * c.args.slot + 4) m) (g.D.Disk.may_leave c.args.disk.now) (g.D.Disk.may_leave c.write.new.self)) c.requires.body (c.write.ensures.crash tells) in
    body-sound n c.args.slot low (g.D.Disk.may_leave c.args.disk.now) (g.D.Disk.may_leave c.write.new.self) s shut crash

pub returns-clause-leaves : goal.returns-clause-leaves
returns-clause-leaves g c = λ tells n low shut s.
    let crash = subst (λ (m : ℕ). Follows (Torn (4224 * c.args.slot + 4) m) (g.D.Disk.may_leave c.args.disk.now) (g.D.Disk.may_leave c.write.new.self)) c.requires.body (c.write.ensures.crash tells) in
    body-leaves n c.args.slot low (g.D.Disk.may_leave c.args.disk.now) (g.D.Disk.may_leave c.write.new.self) s shut crash

pub returns-clause-beside : goal.returns-clause-beside
returns-clause-beside g c = λ tells n low s.
    let crash = subst (λ (m : ℕ). Follows (Torn (4224 * c.args.slot + 4) m) (g.D.Disk.may_leave c.args.disk.now) (g.D.Disk.may_leave c.write.new.self)) c.requires.body (c.write.ensures.crash tells) in
    torn-beside n c.args.slot low (g.D.Disk.may_leave c.args.disk.now) (g.D.Disk.may_leave c.write.new.self) s (4224 * c.args.slot + 4) 4220 (omega arith) (omega arith) crash

pub returns-clause-shut : goal.returns-clause-shut
returns-clause-shut g c = λ tells n low shut s.
    let crash = subst (λ (m : ℕ). Follows (Torn (4224 * c.args.slot + 4) m) (g.D.Disk.may_leave c.args.disk.now) (g.D.Disk.may_leave c.write.new.self)) c.requires.body (c.write.ensures.crash tells) in
    shut-aside n c.args.slot low (g.D.Disk.may_leave c.args.disk.now) (g.D.Disk.may_leave c.write.new.self) s shut crash

pub returns-clause-any_moment : goal.returns-clause-any_moment
returns-clause-any_moment g c = λ tells n low shut s.
    let old = c.args.disk.now in
    let crash = subst (λ (m : ℕ). Follows (Torn (4224 * c.args.slot + 4) m) (g.D.Disk.may_leave c.args.disk.now) (g.D.Disk.may_leave c.write.new.self)) c.requires.body (c.write.ensures.crash tells) in
    let P = IsFrom n (g.D.Disk.may_leave old) in
    let start = started g.D.Disk.moment g.D.Disk.left_since old P (g.D.Disk.may_leave old) (λ i left. g.met.D.Disk.only_now old tells i left) (itself n (g.D.Disk.may_leave old)) in
    goes_on g.D.Disk.moment g.D.Disk.left_since old old c.write.new.self P (g.D.Disk.may_leave c.write.new.self) start (c.write.ensures.time tells)
    (body-leaves n c.args.slot low (g.D.Disk.may_leave old) (g.D.Disk.may_leave c.write.new.self) s shut crash)
