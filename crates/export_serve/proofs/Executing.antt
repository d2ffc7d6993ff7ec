-- A call is executed, and the reply to it is kept.
use Rattle.std.proofs.Common.{◌≡◌, ℕ, List, ap, ◌∙◌}
use Rattle.world_model.specs.declared.message.Call.{Call}
use Rattle.world_model.specs.declared.message.Reply.{Reply}
use Rattle.export_fs.specs.View.{View}
use Rattle.export_fs.specs.Executed.{executed}
use Rattle.export_serve.specs.declared.kept_replies.KeptReply.{KeptReply}
use Rattle.export_serve.specs.Kept.{keeps}
use Rattle.export_serve.specs.Serving.{ServiceView, after, executes}
use Rattle.export_serve.specs.Spelling.{reply_bytes}

abbrev reply_with : ℕ → List ℕ → List ℕ → KeptReply
reply_with xid call reply = record { xid = xid; call = call; reply = reply }

abbrev service_with : View → List KeptReply → ServiceView
service_with export kept = record { export = export; kept = kept }

pub executes_is : (old : ServiceView) (rec : List ℕ) (xid : ℕ) (call : Call) (export : View) (reply : Reply) (asked bytes : List ℕ) (kept : List KeptReply)
    → export ≡ (executed old.export call).0 → reply ≡ (executed old.export call).1 → asked ≡ rec → bytes ≡ reply_bytes xid reply → kept ≡ keeps (reply_with xid asked bytes) old.kept → service_with export kept ≡ executes rec xid call old
executes_is old rec xid call export reply asked bytes kept e r a b k =
    ap (λ (x : View). service_with x kept) e
    ∙ ap (service_with (after old.export call)) (k ∙ ap (λ (x : List ℕ). keeps (reply_with xid x bytes) old.kept) a ∙ ap (λ (x : List ℕ). keeps (reply_with xid rec x) old.kept) (b ∙ ap (reply_bytes xid) r))
