use Rattle.fetch_scripts.proofs.Nexts.{names-next}
use Rattle.fetch_scripts.proofs.download.Download.ask.Goals as goal

pub returns-in_ok-script-in_default : goal.returns-in_ok-script-in_default
returns-in_ok-script-in_default c = record {
  script = c.in_ok-script-in_default.ensures.script;
  sends = names-next c.args.self.now c.ask_names.new.self c.in_ok-script-in_default.script c.in_ok-script-in_default.ensures.rest c.in_ok-script-in_default.ensures.names;
}
