use Rattle.fetch_scripts.proofs.Nexts.{adds-then}
use Rattle.fetch_scripts.proofs.download.Download.add_files.Goals as goal

pub loop-preserved : goal.loop-preserved
loop-preserved c = adds-then c.args.self.now c.loop.self c.open_file.new.self c.loop.invariant (rw (← c.self.view_is) c.in_ok-open_file.ensures)
