-- What stands at the entry.
use Rattle.std.proofs.Common.{Some, length, refl, ap, ◌∙◌}
use Rattle.std.proofs.lemmas.Option.{slice_get_read}
use Rattle.world_model.specs.declared.entry.Entry.TheVariants.{Executed, Foreign, Flushed, Reboot, Delivered}
use Rattle.world_model.specs.Entries.{At}
use Rattle.trace_lawful.proofs.Lawfulness.{entry-is}
use Rattle.trace_lawful.proofs.Deciding.{ok-iff, other-so}
use Rattle.trace_lawful.proofs.lawful.is_lawful_entry.Goals as goal

pub returns-in-Executed : goal.returns-in-Executed
returns-in-Executed c =
    let at : At c.args.trace.now.entries.items c.args.entry (Executed c.in-Executed.xid c.in-Executed.call c.in-Executed.reply) = slice_get_read c.args.trace.now.entries.items (length c.args.trace.now.entries.items) c.args.entry c.index.result.now refl c.requires c.index.ensures ∙ ap Some c.in-Executed.is in
    ok-iff c.is_executed.result _ _ (λ b is. entry-is c.args.trace.now c.args.entry (Executed c.in-Executed.xid c.in-Executed.call c.in-Executed.reply) b at is) c.is_executed.ensures

pub returns-in-Foreign : goal.returns-in-Foreign
returns-in-Foreign c =
    let at : At c.args.trace.now.entries.items c.args.entry (Foreign c.in-Foreign.call c.in-Foreign.reply) = slice_get_read c.args.trace.now.entries.items (length c.args.trace.now.entries.items) c.args.entry c.index.result.now refl c.requires c.index.ensures ∙ ap Some c.in-Foreign.is in
    ok-iff c.is_served.result _ _ (λ b is. entry-is c.args.trace.now c.args.entry (Foreign c.in-Foreign.call c.in-Foreign.reply) b at is) c.is_served.ensures

pub returns-in-Flushed : goal.returns-in-Flushed
returns-in-Flushed c =
    let at : At c.args.trace.now.entries.items c.args.entry (Flushed c.in-Flushed.file c.in-Flushed.from c.in-Flushed.len) = slice_get_read c.args.trace.now.entries.items (length c.args.trace.now.entries.items) c.args.entry c.index.result.now refl c.requires c.index.ensures ∙ ap Some c.in-Flushed.is in
    entry-is c.args.trace.now c.args.entry (Flushed c.in-Flushed.file c.in-Flushed.from c.in-Flushed.len) c.is_flush.result at c.is_flush.ensures

pub returns-in-Reboot : goal.returns-in-Reboot
returns-in-Reboot c =
    let at : At c.args.trace.now.entries.items c.args.entry (Reboot c.in-Reboot.verf) = slice_get_read c.args.trace.now.entries.items (length c.args.trace.now.entries.items) c.args.entry c.index.result.now refl c.requires c.index.ensures ∙ ap Some c.in-Reboot.is in
    entry-is c.args.trace.now c.args.entry (Reboot c.in-Reboot.verf) c.is_restart.result at c.is_restart.ensures

pub returns-in-Delivered : goal.returns-in-Delivered
returns-in-Delivered c =
    let at : At c.args.trace.now.entries.items c.args.entry (Delivered c.in-Delivered.bytes) = slice_get_read c.args.trace.now.entries.items (length c.args.trace.now.entries.items) c.args.entry c.index.result.now refl c.requires c.index.ensures ∙ ap Some c.in-Delivered.is in
    let is = rw c.bytes.ensures at c.is_delivered.ensures in
    ok-iff c.is_delivered.result _ _ (λ b d. entry-is c.args.trace.now c.args.entry (Delivered c.in-Delivered.bytes) b at d) is

pub returns-in_default : goal.returns-in_default
returns-in_default c =
    let at : At c.args.trace.now.entries.items c.args.entry c.index.result.now = slice_get_read c.args.trace.now.entries.items (length c.args.trace.now.entries.items) c.args.entry c.index.result.now refl c.requires c.index.ensures in
    other-so c.args.trace.now c.args.entry c.index.result.now c.changes_nothing.result at c.in_default.not-Executed c.in_default.not-Foreign c.in_default.not-Flushed
    c.in_default.not-Reboot c.in_default.not-Delivered c.changes_nothing.ensures
