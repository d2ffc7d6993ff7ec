-- A call on a file or on a directory, or of MOUNT.
use Rattle.trace_claims.proofs.Makings.{file-ok, dir-ok, mount-nothing}
use Rattle.trace_claims.proofs.changes.add_of_call.Goals as goal

pub returns-in-File : goal.returns-in-File
returns-in-File c = file-ok c.args.trace.now c.args.call.now c.in-File.call c.args.reply.now c.args.place c.args.after c.file_change.result c.args.all.now.items _ _ c.in-File.is c.file_change.ensures c.add_change.ensures

pub returns-in-Dir : goal.returns-in-Dir
returns-in-Dir c = dir-ok c.args.trace.now c.args.call.now c.in-Dir.call c.args.reply.now c.args.place c.args.after c.made_by.result c.args.all.now.items _ _ c.in-Dir.is c.made_by.ensures c.add_made.ensures

pub returns-in-Mount : goal.returns-in-Mount
returns-in-Mount c = mount-nothing c.args.trace.now c.args.call.now _ c.args.reply.now c.args.place c.args.after c.args.all.now.items c.in-Mount.is
