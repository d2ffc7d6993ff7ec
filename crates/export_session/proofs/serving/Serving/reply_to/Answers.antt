use Rattle.export_session.proofs.serving.Serving.reply_to.Goals as goal

pub returns-in-Ok-None-clause-steps : goal.returns-in-Ok-None-clause-steps
returns-in-Ok-None-clause-steps c = rw (← c.self.view_is) c.serve.ensures.steps
