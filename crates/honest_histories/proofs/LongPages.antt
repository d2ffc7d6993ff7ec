-- A history of a client that goes on reading what its own truncate cut, over an honest server: lawful, once and fresh; and the
-- law of reads refuses it.
use Rattle.std.proofs.Common.{◌≡◌, ◌≤◌, true, List, [], ◌∷◌, length, None, refl, arith}
use Rattle.xdr_codec.specs.Spelling.{u32_bytes, flag_bytes}
use Rattle.nfs_types.specs.declared.mode.Mode.TheVariants as modes
use Rattle.nfs_types.specs.declared.set_attr.SetTime.TheVariants.{Keep}
use Rattle.nfs_types.specs.Fields.{wcc_bytes, opt_stamp_bytes, opt_attr_bytes}
use Rattle.nfs_types.proofs.Written.{none_u32_written, some_u64_written, keep_written, set_attr_written}
use Rattle.nfs_file_calls.specs.declared.call.FileCall.TheVariants as files
use Rattle.nfs_file_calls.specs.declared.owned.FileKept.TheVariants as kept
use Rattle.nfs_file_calls.specs.Replies.{file_reply_bytes}
use Rattle.nfs_file_calls.proofs.Written.{no_guard_written}
use Rattle.nfs_file_calls.proofs.WrittenCalls.{set_attr_call_written}
use Rattle.nfs_file_calls.proofs.WrittenReplies.{set_attr_reply_written}
use Rattle.world_model.specs.declared.message.Call.{Call}
use Rattle.world_model.specs.declared.message.Call.TheVariants as calls
use Rattle.world_model.specs.declared.message.Reply.{Reply}
use Rattle.world_model.specs.declared.message.Reply.TheVariants as replies
use Rattle.world_model.specs.declared.op.Op.{Op}
use Rattle.world_model.specs.declared.op.Op.TheVariants as ops
use Rattle.world_model.specs.declared.answer.Value.TheVariants as values
use Rattle.world_model.specs.Fresh.{Fresh}
use Rattle.world_model.specs.Lawful.{Lawful}
use Rattle.world_model.specs.Mounts.{Origin}
use Rattle.world_model.specs.Once.{Once}
use Rattle.world_model.specs.Server.{Bytes}
use Rattle.world_model.specs.Service.{Serves, done}
use Rattle.claims.specs.Asks.{only_size}
use Rattle.claims.specs.Modes.{Modes}
use Rattle.claims.specs.ReadTrue.{ReadsBytes, ReadCut}
use Rattle.claims.specs.Touched.{Truncated}
use Rattle.honest_histories.proofs.SmallServer.{State, serve, file, other_places, the_file, no_wcc, read_of, read_reply, may_read}
use Rattle.honest_histories.proofs.Written.{Talk, talk, results_of, file_fits, no_wcc_fits}
use Rattle.honest_histories.proofs.Made.{◌⍮◌, Event, Begins, Answers, Sends, Does, Comes, Looks, entries_of, made, Right, idle, did, came, newer, lawful, fresh, once}
use Rattle.honest_histories.proofs.Seen.{ended, only_change, untouched}
use Rattle.honest_histories.proofs.Opened.{ok, opening, right_from, opened_by, slot_holds, is_of}
use Rattle.honest_histories.proofs.OldReads.{one_byte, one_is_plain, gave, the_read, read_talk}

-- ---- SETATTR of the size 0

abbrev the_cut : Call
the_cut = calls.File (files.SetAttr the_file (only_size 0) None)

abbrev was_cut : Reply
was_cut = replies.File (kept.SetAttr no_wcc)

abbrev no_bytes : State
no_bytes = record one_byte { now = []; stable = []; changed = 2 }

may_cut : Serves (serve one_byte) the_cut was_cut (serve no_bytes)
may_cut = done (
  record {
    object = file one_byte;
    later = Bytes [] [];
    sized = refl;
    turns = record { has = record { is = refl; there = refl }; new = file no_bytes; is = refl; becomes = record { holds = refl; gone = refl; kind = refl; fileid = refl } };
    only = record { verf = refl; others = other_places one_byte no_bytes refl };
  },
  record { before = tt; after = tt },
)

cut_long : length (results_of was_cut) ≤ 1000
unfolding file_reply_bytes wcc_bytes opt_stamp_bytes opt_attr_bytes flag_bytes u32_bytes
cut_long = let n : length (results_of was_cut) ≡ 12 = refl in omega (arith, n)

cut_talk : Talk 5 the_cut was_cut
cut_talk = talk 5 the_cut was_cut (omega arith) (omega arith)
    (set_attr_call_written the_file (only_size 0) None file_fits
    (set_attr_written (only_size 0) (none_u32_written None refl) (none_u32_written None refl) (none_u32_written None refl) (some_u64_written 0 (omega arith)) (keep_written Keep refl) (keep_written Keep refl))
    (no_guard_written None refl))
    (record { answers = refl; is = set_attr_reply_written no_wcc no_wcc_fits }) cut_long

-- ---- a page that is kept past a truncate

abbrev truncated : Op
truncated = ops.Truncate 1 0

-- the byte is read, the file is truncated to 0, and the byte is read again without a call
abbrev long_rest : List Event
long_rest =
    Looks 11 ∷ Begins 1 2 the_read
    ∷ Sends 4 (read_of 0) ∷ Does 4 (read_of 0) (read_reply 1 true) one_byte ∷ Comes 4 (read_reply 1 true)
    ∷ Answers 1 2 (gave 1)
    ∷ Looks 12 ∷ Begins 1 3 truncated
    ∷ Sends 5 the_cut ∷ Does 5 the_cut was_cut no_bytes ∷ Comes 5 was_cut
    ∷ Answers 1 3 ok
    ∷ Looks 13 ∷ Begins 1 4 the_read ∷ Answers 1 4 (gave 1) ∷ []

abbrev pub keeps_cut : List Event
keeps_cut = opening one_byte modes.RW long_rest

keeps_cut_right : Right one_byte keeps_cut
keeps_cut_right = right_from one_byte (opened_by modes.RW) (Answers 1 1 ok ∷ long_rest) one_is_plain (
    did 17 (omega arith) refl (read_talk 4 (omega arith)) (may_read one_byte 0 1 true refl (λ e. omega arith)) (idle one_byte)
    ⍮ came 18 (read_of 0) (omega arith) refl (read_talk 4 (omega arith))
    ⍮ did 23 (omega arith) refl cut_talk may_cut (newer refl (omega arith) refl refl (omega arith))
    ⍮ came 24 the_cut (omega arith) refl cut_talk
    ⍮ tt)

keeps_cut_is_lawful : Lawful (made one_byte keeps_cut)
keeps_cut_is_lawful = lawful one_byte keeps_cut keeps_cut_right

keeps_cut_is_fresh : Fresh (made one_byte keeps_cut)
keeps_cut_is_fresh = fresh one_byte keeps_cut keeps_cut_right

keeps_cut_is_once : Once (entries_of keeps_cut)
keeps_cut_is_once = once keeps_cut refl refl

may_not_keep_cut : (m : Modes) (origin : Origin) → ReadCut m origin (made one_byte keeps_cut) → ⊥
may_not_keep_cut m origin reads =
    let none : 1 ≡ 0 = reads 28 29 7 the_file 0 1 (1 ∷ []) the_read_is 22 26 0 0 1 the_truncate (omega arith) (omega arith) refl
    (untouched m origin one_byte keeps_cut 22 29 0 (only_change keeps_cut 22 29 0 refl refl refl refl)) in
    absurd (cc none)
  where
    the_read_is : ReadsBytes m (entries_of keeps_cut) 28 29 7 the_file 0 1 (1 ∷ [])
    the_read_is = record {
      lane = 1;
      slot = 1;
      ended = ended keeps_cut 1 4 28 29 the_read (gave 1) refl refl (omega arith) refl;
      holds = slot_holds m one_byte modes.RW long_rest 28 refl (omega arith) refl;
    }

    the_truncate : Truncated m (entries_of keeps_cut) 22 26 the_file 0
    the_truncate = record {
      lane = 1;
      slot = 1;
      value = values.Nothing;
      of = is_of m one_byte modes.RW long_rest 22 3 truncated refl (omega arith) refl refl refl;
      ended = ended keeps_cut 1 3 22 26 truncated ok refl refl (omega arith) refl;
    }
