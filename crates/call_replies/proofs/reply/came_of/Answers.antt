use Rattle.std.proofs.Common.{ℕ, List, Err, ap, subst, ◌∙◌}
use Rattle.world_model.specs.declared.message.Call.{Call}
use Rattle.world_model.specs.Messages.{HasXid}
use Rattle.call_replies.specs.Says.{said_by, IsCallOf, Says}
use Rattle.call_replies.proofs.Readings.{refuses}
use Rattle.call_replies.proofs.Sayings.{says_in}
use Rattle.call_replies.proofs.reply.came_of.Goals as goal

pub came_in-requires : goal.came_in-requires
came_in-requires c = rw c.bytes.ensures at c.in-Ok.ensures.last

pub returns-in-Ok-clause-exact : goal.returns-in-Ok-clause-exact
returns-in-Ok-clause-exact c = c.came_in.ensures.exact ∙ ap (said_by c.args.proc) (rw c.bytes.ensures at c.in-Ok.ensures.exact)

pub returns-in-Err-clause-exact : goal.returns-in-Err-clause-exact
returns-in-Err-clause-exact c = ap (said_by c.args.proc) (rw c.bytes.ensures at c.in-Err.ensures.exact)

pub returns-in-Ok-clause-says : goal.returns-in-Ok-clause-says
returns-in-Ok-clause-says c =
    let means = rw c.bytes.ensures at c.in-Ok.ensures.means in
    λ x has call of. says_in x call _ _ _ _ of (means x has) c.came_in.ensures.tells

pub returns-in-Err-clause-says : goal.returns-in-Err-clause-says
returns-in-Err-clause-says c =
    subst (λ (rec : List ℕ). (x : ℕ) → HasXid rec x → (call : Call) → IsCallOf c.args.proc call → Says x call rec (Err c.in-Err.fault)) c.bytes.ensures
    (λ x has call of. refuses x call _ _ (c.in-Err.ensures.means x has))
