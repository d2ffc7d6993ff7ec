use Rattle.std.proofs.Common.{subst, sym}
use Rattle.name_ops.specs.Walking.{go_next, go_after, go_shelf}
use Rattle.name_ops.proofs.Keeps.{walk-kept, kept-as}
use Rattle.op_machines.specs.PathSteps.{PathResumes, Follows}
use Rattle.op_machines.proofs.May.{may-kept}
use Rattle.op_machines.proofs.path_machine.PathMachine.resume.Goals as goal

pub follow-requires : goal.follow-requires
follow-requires c =
    let walk = c.args.self.now.walk in
    let old = c.args.shelf.now in
    record {
      may = may-kept c.args.wsize c.args.turn old c.go-step.new.shelf c.requires.may
          (kept-as old (go_shelf walk c.args.turn old) c.go-step.new.shelf c.go-step.ensures.shelf (walk-kept walk c.args.turn old));
    }

pub returns : goal.returns
returns c =
    let m = c.args.self.now in
    let old = c.args.shelf.now in
    let turn = c.args.turn in
    subst (λ b. PathResumes b c.args.wsize m turn old c.follow.result c.follow.new.self c.follow.new.shelf) (sym c.if-self.false)
    (subst (λ s. Follows s c.args.wsize (record m { walk = go_after m.walk turn old }) turn (go_shelf m.walk turn old) c.follow.result c.follow.new.self c.follow.new.shelf) c.go-step.ensures.next
    (subst (λ w. Follows c.go-step.result c.args.wsize (record m { walk = w }) turn (go_shelf m.walk turn old) c.follow.result c.follow.new.self c.follow.new.shelf) c.go-step.ensures.machine
    (subst (λ s. Follows c.go-step.result c.args.wsize (record m { walk = c.go-step.new.self }) turn s c.follow.result c.follow.new.self c.follow.new.shelf) c.go-step.ensures.shelf c.follow.ensures)))
