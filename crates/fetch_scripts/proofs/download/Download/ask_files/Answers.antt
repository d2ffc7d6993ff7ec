use Rattle.fetch_scripts.proofs.Nexts.{files-next}
use Rattle.fetch_scripts.proofs.download.Download.ask_files.Goals as goal

pub returns-clause-sends : goal.returns-clause-sends
returns-clause-sends c =
    files-next c.args.self.now c.go_on.new.self c.add_files.new.self c.send_files.new.self c.send_files.result c.in_ok-go_on.ensures c.in_ok-add_files.ensures c.send_files.ensures.rest
    c.send_files.ensures.is
