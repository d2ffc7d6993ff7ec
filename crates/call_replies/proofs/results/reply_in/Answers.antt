use Rattle.std.proofs.Common.{ap, sym, ◌∙◌, Ok, ℕ, List, arith}
use Rattle.std.specs.Prelude.{Result}
use Rattle.nfs_file_calls.specs.declared.reply.FileReply.{FileReply}
use Rattle.nfs_file_calls.specs.declared.owned.FileKept.{FileKept}
use Rattle.nfs_file_calls.specs.declared.owned.FileKept.TheVariants as kept
use Rattle.nfs_file_calls.specs.Replies.{kept_of}
use Rattle.world_model.specs.declared.answer.Fault.{Fault}
use Rattle.world_model.specs.declared.message.Reply.{Reply}
use Rattle.world_model.specs.declared.message.Reply.TheVariants as replies
use Rattle.call_replies.specs.Data.{StandLast}
use Rattle.call_replies.proofs.Lasts.{last_fits, last_part}
use Rattle.call_replies.proofs.results.reply_in.Goals as goal

abbrev said : FileReply → Result Reply Fault
said reply = Ok (replies.File (kept_of reply))

pub data_in-requires : goal.data_in-requires
data_in-requires c =
    let stands = c.requires _ _ _ _ (ap said c.in-Read.is) in
    let fits = last_fits c.in-Read.bytes c.args.rec.now stands in
    rw (c.bytes.ensures, c.in-Read.is) fits

pub returns : goal.returns
returns c =
    let stands = c.requires _ _ _ _ (ap said c.in-Read.is) in
    let part = rw (c.bytes.ensures, c.in-Read.is) at c.data_in.ensures in
    ap (λ (bytes : List ℕ). kept.Read c.in-Read.attr c.in-Read.count c.in-Read.eof bytes) (part ∙ last_part c.in-Read.bytes c.args.rec.now stands) ∙ sym (ap kept_of c.in-Read.is)
