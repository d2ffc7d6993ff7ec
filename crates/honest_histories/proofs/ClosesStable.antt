-- A close that succeeds though no COMMIT of its file did: the server answered the WRITE as stable, and refused the COMMIT
-- (RFC 1813, sections 3.3.7 and 3.3.21). The history is lawful, once and fresh, and the byte is stable.
use Rattle.std.proofs.Common.{inl, inr, ◌≡◌, ◌≤◌, ℕ, List, [], ◌∷◌, length, Some, Result, Ok, refl, sym, ap, subst, ◌∙◌, arith}
use Rattle.std.proofs.lemmas.Bool.{cases_lt}
use Rattle.xdr_codec.specs.declared.reader.XdrFault.{XdrFault}
use Rattle.xdr_codec.specs.Spelling.{u32_bytes, flag_bytes, fixed_bytes}
use Rattle.nfs_types.specs.declared.mode.Mode.TheVariants as modes
use Rattle.nfs_types.specs.declared.wcc.Wcc.{Wcc}
use Rattle.nfs_types.specs.declared.verf.Verf.{Verf}
use Rattle.nfs_types.specs.Fields.{wcc_bytes, opt_stamp_bytes, opt_attr_bytes, verf_bytes}
use Rattle.rpc_message.specs.declared.reply.ReplyFault.{ReplyFault}
use Rattle.rpc_message.specs.Reply.{RpcReply, Accepted}
use Rattle.rpc_message.proofs.ReplyLaws.{reply_again}
use Rattle.nfs_file_calls.specs.declared.owned.FileKept.{FileKept}
use Rattle.nfs_file_calls.specs.declared.owned.FileKept.TheVariants as kept
use Rattle.nfs_file_calls.specs.Replies.{file_reply_bytes, file_reply_at}
use Rattle.nfs_file_calls.specs.Transfer.{write_done_bytes}
use Rattle.nfs_file_calls.proofs.ReplyLaws.{file_reply_codec}
use Rattle.nfs_file_calls.proofs.WrittenCalls.{write_call_written, commit_call_written}
use Rattle.nfs_file_calls.proofs.WrittenReplies.{write_reply_written, commit_fail_written}
use Rattle.world_model.specs.declared.answer.Answer.TheVariants.{Refused}
use Rattle.world_model.specs.declared.answer.Fault.TheVariants as faults
use Rattle.world_model.specs.declared.answer.Value.TheVariants as values
use Rattle.world_model.specs.declared.entry.Entry.TheVariants as entries
use Rattle.world_model.specs.declared.message.Reply.{Reply}
use Rattle.world_model.specs.declared.message.Reply.TheVariants as replies
use Rattle.world_model.specs.declared.op.Op.{Op}
use Rattle.world_model.specs.declared.op.Op.TheVariants as ops
use Rattle.world_model.specs.Commits.{Committed, commit_call}
use Rattle.world_model.specs.Entries.{At}
use Rattle.world_model.specs.Fresh.{Fresh}
use Rattle.world_model.specs.Lawful.{Lawful}
use Rattle.world_model.specs.Messages.{HasXid, SpellsCall, SpellsReply}
use Rattle.world_model.specs.Once.{Once}
use Rattle.world_model.specs.Service.{Serves, refused, done}
use Rattle.world_model.proofs.Places.{At-below}
use Rattle.claims.specs.Modes.{Modes}
use Rattle.claims.specs.Settled.{Evidence, HoldsStable, SettledBy, at_once, later}
use Rattle.claims.specs.Touched.{Wrote, write, MadeStable, close}
use Rattle.honest_histories.proofs.SmallServer.{State, empty_server, serve, file, other_places, stays, the_file, verf, no_wcc, wrote_of, commit}
use Rattle.honest_histories.proofs.Written.{Talk, talk, results_of, file_fits, no_wcc_fits, verf_fits, call_record, reply_record, call_under, talk_mount, talk_info, talk_lookup, talk_attr}
use Rattle.honest_histories.proofs.Made.{◌⍮◌, Event, Begins, Answers, Sends, Does, Comes, Looks, entries_of, made, Right, idle, did, came, newer, lawful, fresh, once, one_xid}
use Rattle.honest_histories.proofs.Seen.{SpellsAll, asked, ended, no_proc_sent, none_under}
use Rattle.honest_histories.proofs.Opened.{ok, opening, right_from, opened_by, is_of}
use Rattle.honest_histories.proofs.RestartedPut.{empty_is_plain, the_write}

-- ---- a WRITE that is answered as stable, and a COMMIT that is refused with NFS3ERR_IO, 5

abbrev pub steady_write : State
steady_write = record empty_server { now = 1 ∷ []; stable = 1 ∷ []; changed = 2 }

abbrev wrote_stable : Reply
wrote_stable = wrote_of no_wcc 1 2 1

abbrev not_committed : Reply
not_committed = replies.File (kept.CommitFail (record { 0 = 5 }) no_wcc)

may_write_stable : Serves (serve empty_server) the_write wrote_stable (serve steady_write)
may_write_stable = done (record {
  now = [];
  stable = [];
  puts = record {
    file = file empty_server;
    held = refl;
    turns = record { has = record { is = refl; there = refl }; new = file steady_write; is = refl; becomes = record { holds = refl; gone = refl; kind = refl; fileid = refl } };
    only = record { verf = refl; others = other_places empty_server steady_write refl };
  };
  shows = record { before = tt; after = tt };
  most = omega arith;
  some = λ le. le;
  firm = omega arith;
  known = omega arith;
  verifier = refl;
})

may_refuse_commit : Serves (serve steady_write) commit not_committed (serve steady_write)
may_refuse_commit = refused (record { nonzero = λ e. absurd (cc e); shows = record { before = tt; after = tt } }) (stays steady_write)

stable_long : length (results_of wrote_stable) ≤ 1000
unfolding file_reply_bytes write_done_bytes wcc_bytes opt_stamp_bytes opt_attr_bytes flag_bytes u32_bytes verf_bytes fixed_bytes
stable_long = let n : length (results_of wrote_stable) ≡ 28 = refl in omega (arith, n)

refused_long : length (results_of not_committed) ≤ 1000
unfolding file_reply_bytes wcc_bytes opt_stamp_bytes opt_attr_bytes flag_bytes u32_bytes
refused_long = let n : length (results_of not_committed) ≡ 12 = refl in omega (arith, n)

write_talk : Talk 4 the_write wrote_stable
write_talk = talk 4 the_write wrote_stable (omega arith) (omega arith) (write_call_written the_file 0 0 (1 ∷ []) file_fits (omega arith) (omega arith) (omega arith))
    (record { answers = refl; is = write_reply_written no_wcc 1 2 (verf 1) no_wcc_fits (omega arith) (omega arith) (verf_fits 1) }) stable_long

commit_talk : Talk 5 commit not_committed
commit_talk = talk 5 commit not_committed (omega arith) (omega arith) (commit_call_written the_file 0 0 file_fits (omega arith) (omega arith))
    (record { answers = refl; is = commit_fail_written (record { 0 = 5 }) no_wcc (omega arith) (omega arith) no_wcc_fits }) refused_long

-- ---- the history

abbrev pub the_op : Op
the_op = ops.Write 1 0 (1 ∷ [])

abbrev the_close : Op
the_close = ops.Close 1

-- the sync is refused as its COMMIT is; the close finds nothing that is to be made stable
abbrev stable_rest : List Event
stable_rest =
    Looks 11 ∷ Begins 1 2 the_op ∷ Answers 1 2 ok
    ∷ Looks 12 ∷ Begins 1 3 (ops.Sync 1)
    ∷ Sends 4 the_write ∷ Does 4 the_write wrote_stable steady_write ∷ Comes 4 wrote_stable
    ∷ Sends 5 commit ∷ Does 5 commit not_committed steady_write ∷ Comes 5 not_committed
    ∷ Answers 1 3 (Refused (faults.Nfs 5))
    ∷ Looks 13 ∷ Begins 1 4 the_close ∷ Answers 1 4 ok ∷ []

abbrev pub closes_stable : List Event
closes_stable = opening empty_server modes.W stable_rest

closes_stable_right : Right empty_server closes_stable
closes_stable_right = right_from empty_server (opened_by modes.W) (Answers 1 1 ok ∷ stable_rest) empty_is_plain (
    did 20 (omega arith) refl write_talk may_write_stable (newer refl (omega arith) refl refl (omega arith))
    ⍮ came 21 the_write (omega arith) refl write_talk
    ⍮ did 23 (omega arith) refl commit_talk may_refuse_commit (idle steady_write)
    ⍮ came 24 commit (omega arith) refl commit_talk
    ⍮ tt)

closes_stable_is_lawful : Lawful (made empty_server closes_stable)
closes_stable_is_lawful = lawful empty_server closes_stable closes_stable_right

closes_stable_is_fresh : Fresh (made empty_server closes_stable)
closes_stable_is_fresh = fresh empty_server closes_stable closes_stable_right

closes_stable_is_once : Once (entries_of closes_stable)
closes_stable_is_once = once closes_stable refl refl

-- the write went well, and the close that went well settled it
it_wrote : (m : Modes) → Wrote m (entries_of closes_stable) 16 17 the_file 0 1
it_wrote m = write 1 1 0 (1 ∷ []) values.Nothing (is_of m empty_server modes.W stable_rest 16 2 the_op refl (omega arith) refl refl refl) (ended closes_stable 1 2 16 17 the_op ok refl refl (omega arith) refl)
    (record { k = 0; place = refl; byte = refl })

it_settled : (m : Modes) → SettledBy m (entries_of closes_stable) 16 17 the_file 29
it_settled m = later 28 (record { lane = 1; op = the_op; y = 17; answer = ok; ended = ended closes_stable 1 2 16 17 the_op ok refl refl (omega arith) refl; before = omega arith }) closed
  where
    closed : MadeStable m (entries_of closes_stable) 28 29 the_file
    closed = close 1 1 values.Nothing (is_of m empty_server modes.W stable_rest 28 4 the_close refl (omega arith) refl refl refl) (ended closes_stable 1 4 28 29 the_close ok refl refl (omega arith) refl)

-- and its byte is stable
it_stands : HoldsStable ((made empty_server closes_stable).at 30) the_file 0 1
it_stands = record { now = 1 ∷ []; stable = 1 ∷ []; has = record { file = file steady_write; is = refl; holds = refl }; holds = refl; steady = refl }

-- The reply to the WRITE, which called the byte stable, is the evidence of it.
pub it_is_evident : Evidence (entries_of closes_stable) 16 29 the_file 0 1
it_is_evident = record {
  middle = 29;
  firm = 2;
  verf = verf 1;
  by = omega arith;
  wrote = record {
    offset = 0;
    how = 0;
    bytes = 1 ∷ [];
    wcc = no_wcc;
    count = 1;
    asked = asked closes_stable 16 29 20 22 4 the_write wrote_stable refl refl refl refl refl (omega arith) (omega arith) (omega arith) (omega arith) write_talk;
    covers = record { k = 0; place = refl; byte = refl };
    reached = omega arith;
  };
  made = at_once (omega arith);
}

-- ---- no COMMIT went well

its_calls : SpellsAll closes_stable
its_calls =
    (talk_mount 0 (omega arith)).call_is ⍮ tt ⍮ tt
    ⍮ (talk_info 1 (omega arith)).call_is ⍮ tt ⍮ tt ⍮ tt ⍮ tt
    ⍮ (talk_lookup 2 (omega arith)).call_is ⍮ tt ⍮ tt
    ⍮ (talk_attr 3 empty_server (omega arith) (omega arith) (omega arith)).call_is ⍮ tt ⍮ tt ⍮ tt
    ⍮ tt ⍮ tt ⍮ tt ⍮ tt ⍮ tt
    ⍮ write_talk.call_is ⍮ tt ⍮ tt
    ⍮ commit_talk.call_is ⍮ tt ⍮ tt
    ⍮ tt ⍮ tt ⍮ tt ⍮ tt ⍮ tt

sent_is : (a b : List ℕ) → Some (entries.Sent a) ≡ Some (entries.Sent b) → a ≡ b
sent_is a b e = cc

came_is : (a b : List ℕ) → Some (entries.Delivered a) ≡ Some (entries.Delivered b) → a ≡ b
came_is a b e = cc

abbrev read_as : RpcReply → Result RpcReply ReplyFault
read_as reply = Ok reply

results_are : (x : ℕ) (a b : List ℕ) → read_as (Accepted x a) ≡ read_as (Accepted x b) → a ≡ b
results_are x a b e = cc

abbrev kept_as : FileKept → Result FileKept XdrFault
kept_as reply = Ok reply

kept_is : (a b : FileKept) → kept_as a ≡ kept_as b → a ≡ b
kept_is a b e = cc

-- a record that spells the refusal of a COMMIT spells no other reply to it
one_reply : (x : ℕ) (f bytes : List ℕ) (wcc : Wcc) (v : Verf) → SpellsReply x commit not_committed bytes → SpellsReply x (commit_call f) (replies.File (kept.Commit wcc v)) bytes → ⊥
one_reply x f bytes wcc v a b =
    let results = results_are x a.results b.results (sym (reply_again (Accepted x a.results) bytes a.accepted) ∙ reply_again (Accepted x b.results) bytes b.accepted) in
    let one = (file_reply_codec 21).again (kept.CommitFail (record { 0 = 5 }) no_wcc) a.results a.is in
    let other = (file_reply_codec 21).again (kept.Commit wcc v) b.results b.is in
    absurd (cc (kept_is (kept.CommitFail (record { 0 = 5 }) no_wcc) (kept.Commit wcc v) (sym one ∙ ap (file_reply_at 21) results ∙ other)))

none_committed : (from to : ℕ) (f : List ℕ) → Committed (entries_of closes_stable) from to f → ⊥
none_committed from to f c =
    let heard = c.asked.heard in
    let sent_at = place c.asked.xid heard.sent_at heard.record_sent heard.sent.sent heard.spells in
    let this = sent_is (call_record 5 commit) heard.record_sent (subst (λ (z : ℕ). At (entries_of closes_stable) z (entries.Sent heard.record_sent)) sent_at heard.sent.sent) in
    let five : 5 ≡ c.asked.xid = one_xid heard.record_sent 5 c.asked.xid (subst (λ (b : List ℕ). HasXid b 5) this (call_under 5 commit (omega arith))) heard.sent.under in
    let got_at = came_at heard.got_at c.asked.bytes heard.got.got (subst (λ (z : ℕ). HasXid c.asked.bytes z) (sym five) heard.got.under) in
    let came_record = came_is (reply_record 5 not_committed) c.asked.bytes (subst (λ (z : ℕ). At (entries_of closes_stable) z (entries.Delivered c.asked.bytes)) got_at heard.got.got) in
    one_reply 5 f c.asked.bytes c.wcc c.verf (subst (λ (b : List ℕ). SpellsReply 5 commit not_committed b) came_record commit_talk.reply_is)
    (subst (λ (z : ℕ). SpellsReply z (commit_call f) (replies.File (kept.Commit c.wcc c.verf)) c.asked.bytes) (sym five) c.asked.spells)
  where
    place : (x n : ℕ) (b : List ℕ) → At (entries_of closes_stable) n (entries.Sent b) → SpellsCall x (commit_call f) b → n ≡ 23
    place x n b sent spells =
        let low = no_proc_sent closes_stable 24 30 x (commit_call f) its_calls refl n b sent spells (At-below (entries_of closes_stable) n (entries.Sent b) sent) in
        elim (cases_lt n 23) [
          | inl lt ↦ (let none = no_proc_sent closes_stable 0 23 x (commit_call f) its_calls refl n b sent spells lt in absurd (omega (arith, none)))
          | inr le ↦ omega (arith, low, le)
        ]

    came_at : (n : ℕ) (b : List ℕ) → At (entries_of closes_stable) n (entries.Delivered b) → HasXid b 5 → n ≡ 25
    came_at n b got under =
        let low = none_under closes_stable 26 30 5 refl refl n b got under (At-below (entries_of closes_stable) n (entries.Delivered b) got) in
        elim (cases_lt n 25) [
          | inl lt ↦ (let none = none_under closes_stable 0 25 5 refl refl n b got under lt in absurd (omega (arith, none)))
          | inr le ↦ omega (arith, low, le)
        ]
