use Rattle.std.proofs.Common.{ap, subst, ◌∙◌}
use Rattle.world_model.specs.declared.message.Reply.{Reply}
use Rattle.world_model.specs.Service.{Serves}
use Rattle.export_fs.specs.Executed.{executed}
use Rattle.export_fs.specs.Seen.{server_of}
use Rattle.export_serve.specs.Serving.{ServiceView, executes, reply_of}
use Rattle.export_serve.specs.Spelling.{reply_bytes}
use Rattle.export_serve.proofs.Executing.{executes_is}
use Rattle.export_serve.proofs.service.Service.execute.Goals as goal

pub keep-requires : goal.keep-requires
keep-requires c = (c.args.call.now, rw (c.in_ok-record.ensures) c.requires.asks)

pub returns-clause-ok : goal.returns-clause-ok
returns-clause-ok c =
    executes_is (record { export = c.self.inside.export; kept = c.self.inside.kept }) c.args.rec.now c.args.xid c.args.call.now _ _ _ _ _ c.in_ok-reply.ensures.ok.0 c.in_ok-reply.ensures.ok.1 c.in_ok-record.ensures c.in_ok-bytes.ensures.exact c.in_ok-keep.ensures.ok
    ∙ ap (executes c.args.rec.now c.args.xid c.args.call.now) c.self.view_is

pub returns-clause-reply : goal.returns-clause-reply
returns-clause-reply c =
    c.in_ok-answer.ensures ∙ c.bytes-2.ensures ∙ c.in_ok-bytes.ensures.exact ∙ ap (reply_bytes c.args.xid) c.in_ok-reply.ensures.ok.1
    ∙ ap (λ (s : ServiceView). reply_of s.export c.args.xid c.args.call.now) c.self.view_is

pub returns-clause-serves : goal.returns-clause-serves
returns-clause-serves c =
    subst (λ (s : ServiceView). Serves (server_of s.export) c.args.call.now (executed s.export c.args.call.now).1 (server_of c.execute.new.self)) c.self.view_is
    (subst (λ (r : Reply). Serves (server_of c.self.inside.export) c.args.call.now r (server_of c.execute.new.self)) c.in_ok-reply.ensures.ok.1 (c.in_ok-reply.ensures.serves c.requires.spelled))
