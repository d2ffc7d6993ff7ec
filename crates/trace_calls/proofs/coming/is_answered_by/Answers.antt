-- What stands at the entry.
use Rattle.std.proofs.Common.{Some, length, refl, ap, ◌∙◌}
use Rattle.std.proofs.lemmas.Option.{slice_get_read}
use Rattle.world_model.specs.declared.entry.Entry.TheVariants.{Executed, Sent}
use Rattle.world_model.specs.Entries.{At}
use Rattle.trace_calls.proofs.Calls.{ok-iff}
use Rattle.trace_calls.proofs.Replies.{executes-it, refuses-it, answers-nothing, same-there}
use Rattle.trace_calls.proofs.coming.is_answered_by.Goals as goal

pub returns-in-Executed : goal.returns-in-Executed
returns-in-Executed c =
    let at : At c.args.entries.now c.args.place (Executed c.in-Executed.xid c.in-Executed.call c.in-Executed.reply) = slice_get_read c.args.entries.now (length c.args.entries.now) c.args.place c.index-entries-place.result refl c.requires c.index-entries-place.is ∙ ap Some c.in-Executed.is in
    ok-iff c.spells_reply.result _ _ (λ b is. executes-it c.args.entries.now c.args.place c.in-Executed.xid c.in-Executed.call c.in-Executed.reply c.args.rec.now b at is) c.spells_reply.ensures

pub returns-in-Sent : goal.returns-in-Sent
returns-in-Sent c =
    let at : At c.args.entries.now c.args.place (Sent c.in-Sent.bytes) = slice_get_read c.args.entries.now (length c.args.entries.now) c.args.place c.index-entries-place.result refl c.requires c.index-entries-place.is ∙ ap Some c.in-Sent.is in
    let is = rw c.bytes.ensures at c.refuses.ensures in
    refuses-it c.args.entries.now c.args.place c.in-Sent.bytes c.args.rec.now c.refuses.result at is

pub returns-in_default : goal.returns-in_default
returns-in_default c =
    let at : At c.args.entries.now c.args.place c.index-entries-place.result = slice_get_read c.args.entries.now (length c.args.entries.now) c.args.place c.index-entries-place.result refl c.requires c.index-entries-place.is in
    answers-nothing c.args.entries.now c.args.place c.args.rec.now
    (λ xid call reply other. c.in_default.not-Executed xid call reply (same-there c.args.entries.now c.args.place _ _ at other))
    (λ sent other. c.in_default.not-Sent sent (same-there c.args.entries.now c.args.place _ _ at other))
