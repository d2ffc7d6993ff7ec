use Rattle.std.proofs.Common.{arith, ℕ, ◌+◌, ◌*◌, subst}
use Rattle.page_store.specs.Disk.{Follows, Torn}
use Rattle.page_store.specs.Slots.{IsFrom}
use Rattle.page_store.proofs.Moments.{started, goes_on}
use Rattle.page_store.proofs.Torn.{body-sound, body-leaves, torn-beside, fewer, itself}
use Rattle.page_store.proofs.slots.write_body.Goals as goal

pub returns-in-Err-clause-safe : goal.returns-in-Err-clause-safe
returns-in-Err-clause-safe g c = λ tells n low shut s.
    let crash = subst (λ (n : ℕ). Follows (Torn (4224 * c.args.slot + 4) n) (g.D.Disk.may_leave c.args.disk.now) (g.D.Disk.may_leave c.write.new.self)) c.requires.body (c.write.ensures.crash tells) in
    body-sound n c.args.slot low (g.D.Disk.may_leave c.args.disk.now) (g.D.Disk.may_leave c.write.new.self) s shut crash

pub returns-in-Err-clause-leaves : goal.returns-in-Err-clause-leaves
returns-in-Err-clause-leaves g c = λ tells n low shut s.
    let crash = subst (λ (n : ℕ). Follows (Torn (4224 * c.args.slot + 4) n) (g.D.Disk.may_leave c.args.disk.now) (g.D.Disk.may_leave c.write.new.self)) c.requires.body (c.write.ensures.crash tells) in
    body-leaves n c.args.slot low (g.D.Disk.may_leave c.args.disk.now) (g.D.Disk.may_leave c.write.new.self) s shut crash

pub returns-in-Err-clause-any_moment : goal.returns-in-Err-clause-any_moment
returns-in-Err-clause-any_moment g c = λ tells n low shut s.
    let old = c.args.disk.now in
    let crash = subst (λ (n : ℕ). Follows (Torn (4224 * c.args.slot + 4) n) (g.D.Disk.may_leave old) (g.D.Disk.may_leave c.write.new.self)) c.requires.body (c.write.ensures.crash tells) in
    let P = IsFrom n (g.D.Disk.may_leave old) in
    let start = started g.D.Disk.moment g.D.Disk.left_since old P (g.D.Disk.may_leave old) (λ i left. g.met.D.Disk.only_now old tells i left) (itself n (g.D.Disk.may_leave old)) in
    goes_on g.D.Disk.moment g.D.Disk.left_since old old c.write.new.self P (g.D.Disk.may_leave c.write.new.self) start (c.write.ensures.time tells)
    (body-leaves n c.args.slot low (g.D.Disk.may_leave old) (g.D.Disk.may_leave c.write.new.self) s shut crash)

pub returns-clause-safe : goal.returns-clause-safe
returns-clause-safe g c = λ tells n low shut s.
    let crash = subst (λ (n : ℕ). Follows (Torn (4224 * c.args.slot + 4) n) (g.D.Disk.may_leave c.args.disk.now) (g.D.Disk.may_leave c.write.new.self)) c.requires.body (c.write.ensures.crash tells) in
    fewer n (g.D.Disk.may_leave c.write.new.self) (g.D.Disk.may_leave c.sync.new.self)
    (body-sound n c.args.slot low (g.D.Disk.may_leave c.args.disk.now) (g.D.Disk.may_leave c.write.new.self) s shut crash) (c.sync.ensures.crash (c.write.ensures.goes_on tells))

pub returns-clause-leaves : goal.returns-clause-leaves
returns-clause-leaves g c = λ tells n low shut s.
    let crash = subst (λ (n : ℕ). Follows (Torn (4224 * c.args.slot + 4) n) (g.D.Disk.may_leave c.args.disk.now) (g.D.Disk.may_leave c.write.new.self)) c.requires.body (c.write.ensures.crash tells) in
    λ i left. body-leaves n c.args.slot low (g.D.Disk.may_leave c.args.disk.now) (g.D.Disk.may_leave c.write.new.self) s shut crash i (c.sync.ensures.crash (c.write.ensures.goes_on tells) i left)

pub returns-clause-any_moment : goal.returns-clause-any_moment
returns-clause-any_moment g c = λ tells n low shut s.
    let old = c.args.disk.now in
    let crash = subst (λ (n : ℕ). Follows (Torn (4224 * c.args.slot + 4) n) (g.D.Disk.may_leave old) (g.D.Disk.may_leave c.write.new.self)) c.requires.body (c.write.ensures.crash tells) in
    let P = IsFrom n (g.D.Disk.may_leave old) in
    let start = started g.D.Disk.moment g.D.Disk.left_since old P (g.D.Disk.may_leave old) (λ i left. g.met.D.Disk.only_now old tells i left) (itself n (g.D.Disk.may_leave old)) in
    let leaves = body-leaves n c.args.slot low (g.D.Disk.may_leave old) (g.D.Disk.may_leave c.write.new.self) s shut crash in
    let wrote = goes_on g.D.Disk.moment g.D.Disk.left_since old old c.write.new.self P (g.D.Disk.may_leave c.write.new.self) start (c.write.ensures.time tells) leaves in
    goes_on g.D.Disk.moment g.D.Disk.left_since old c.write.new.self c.sync.new.self P (g.D.Disk.may_leave c.sync.new.self) wrote (c.sync.ensures.time (c.write.ensures.goes_on tells))
    (λ i left. leaves i (c.sync.ensures.crash (c.write.ensures.goes_on tells) i left))

pub returns-in-Err-clause-beside : goal.returns-in-Err-clause-beside
returns-in-Err-clause-beside g c = λ tells n low s.
    let crash = subst (λ (n : ℕ). Follows (Torn (4224 * c.args.slot + 4) n) (g.D.Disk.may_leave c.args.disk.now) (g.D.Disk.may_leave c.write.new.self)) c.requires.body (c.write.ensures.crash tells) in
    torn-beside n c.args.slot low (g.D.Disk.may_leave c.args.disk.now) (g.D.Disk.may_leave c.write.new.self) s (4224 * c.args.slot + 4) 4220 (omega arith) (omega arith) crash

pub returns-clause-beside : goal.returns-clause-beside
returns-clause-beside g c = λ tells n low s i left.
    let crash = subst (λ (n : ℕ). Follows (Torn (4224 * c.args.slot + 4) n) (g.D.Disk.may_leave c.args.disk.now) (g.D.Disk.may_leave c.write.new.self)) c.requires.body (c.write.ensures.crash tells) in
    torn-beside n c.args.slot low (g.D.Disk.may_leave c.args.disk.now) (g.D.Disk.may_leave c.write.new.self) s (4224 * c.args.slot + 4) 4220 (omega arith) (omega arith) crash i
    (c.sync.ensures.crash (c.write.ensures.goes_on tells) i left)
