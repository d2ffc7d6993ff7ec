-- Why the law of settled bytes asks for a history that is once: over an honest server, and of a client that does nothing wrong, a
-- copy of a WRITE that is executed after its reply was taken puts the old byte over the new one (RFC 1813, section 4.5).
use Rattle.std.proofs.Common.{List, [], ◌∷◌, refl, arith}
use Rattle.world_model.specs.declared.answer.Value.TheVariants as values
use Rattle.world_model.specs.Fresh.{Fresh}
use Rattle.world_model.specs.Lawful.{Lawful}
use Rattle.world_model.specs.Mounts.{Origin}
use Rattle.world_model.specs.Once.{Once}
use Rattle.world_model.specs.Operations.{Ended}
use Rattle.claims.specs.Modes.{Modes}
use Rattle.claims.specs.Settled.{Settled, itself}
use Rattle.claims.specs.Slots.{PutsTo, commits}
use Rattle.claims.specs.Touched.{put}
use Rattle.honest_histories.proofs.SmallServer.{empty_server, the_file, get_attr, got_attr, commit, committed, may_write, may_commit, may_get_attr}
use Rattle.honest_histories.proofs.Written.{reply_record, reply_under}
use Rattle.honest_histories.proofs.Made.{◌⍮◌, Event, Begins, Answers, Sends, Does, Comes, Fails, Looks, entries_of, made, Right, idle, did, came, newer, steadier, lawful, fresh}
use Rattle.honest_histories.proofs.Seen.{ended, last_reply, second_change, untouched, held_now}
use Rattle.honest_histories.proofs.Opened.{ok, the_path, beginning, right_from}
use Rattle.honest_histories.proofs.RestartedPut.{the_put, unstable, the_write, wrote_by, empty_is_plain, its_write}
use Rattle.honest_histories.proofs.UnsettledBytes.{second_write, later_put, first_stable, newer_byte, newer_stable, old_again, newer_talk, attr_talk, commit_talk, one_for_two}

-- The WRITE gets no reply in time, and is sent again under its xid. The first copy is executed, and its reply comes. After a
-- second put the other copy is executed: this server remembers no calls.
abbrev late_rest : List Event
late_rest =
    Sends 4 the_write ∷ Fails
    ∷ Sends 4 the_write ∷ Does 4 the_write (wrote_by 1) unstable ∷ Comes 4 (wrote_by 1)
    ∷ Sends 6 commit ∷ Does 6 commit (committed 1) first_stable ∷ Comes 6 (committed 1)
    ∷ Answers 1 1 ok
    ∷ Looks 20 ∷ Begins 1 2 later_put
    ∷ Sends 7 get_attr ∷ Does 7 get_attr (got_attr first_stable) first_stable ∷ Comes 7 (got_attr first_stable)
    ∷ Sends 8 second_write ∷ Does 8 second_write (wrote_by 1) newer_byte ∷ Comes 8 (wrote_by 1)
    ∷ Sends 9 commit ∷ Does 9 commit (committed 1) newer_stable ∷ Comes 9 (committed 1)
    ∷ Answers 1 2 ok
    ∷ Does 4 the_write (wrote_by 1) old_again ∷ []

abbrev pub copied_late : List Event
copied_late = beginning empty_server the_put late_rest

copied_late_right : Right empty_server copied_late
copied_late_right = right_from empty_server the_put late_rest empty_is_plain (
    did 14 (omega arith) refl (its_write 4 1 (omega arith)) (may_write empty_server 0 2 (1 ∷ []) (omega arith)) (newer refl (omega arith) refl refl (omega arith))
    ⍮ came 17 the_write (omega arith) refl (its_write 4 1 (omega arith))
    ⍮ did 19 (omega arith) refl (commit_talk 6 (omega arith)) (may_commit unstable) (steadier unstable first_stable refl refl refl refl refl (omega arith))
    ⍮ came 20 commit (omega arith) refl (commit_talk 6 (omega arith))
    ⍮ did 25 (omega arith) refl attr_talk (may_get_attr first_stable) (idle first_stable)
    ⍮ came 26 get_attr (omega arith) refl attr_talk
    ⍮ did 28 (omega arith) refl newer_talk (may_write first_stable 0 3 (2 ∷ []) (omega arith)) (newer refl (omega arith) refl refl (omega arith))
    ⍮ came 29 second_write (omega arith) refl newer_talk
    ⍮ did 31 (omega arith) refl (commit_talk 9 (omega arith)) (may_commit newer_byte) (steadier newer_byte newer_stable refl refl refl refl refl (omega arith))
    ⍮ came 32 commit (omega arith) refl (commit_talk 9 (omega arith))
    ⍮ did 16 (omega arith) refl (its_write 4 1 (omega arith)) (may_write newer_stable 0 4 (1 ∷ []) (omega arith)) (newer refl (omega arith) refl refl (omega arith))
    ⍮ tt)

copied_late_is_lawful : Lawful (made empty_server copied_late)
copied_late_is_lawful = lawful empty_server copied_late copied_late_right

copied_late_is_fresh : Fresh (made empty_server copied_late)
copied_late_is_fresh = fresh empty_server copied_late copied_late_right

copied_late_is_not_once : Once (entries_of copied_late) → ⊥
copied_late_is_not_once once = let before = once 18 35 4 (reply_record 4 (wrote_by 1)) the_write (wrote_by 1) refl (reply_under 4 (wrote_by 1) (omega arith)) refl in omega (arith, before)

-- and a byte that a put made stable is gone
does_not_settle : (m : Modes) (origin : Origin) → Settled m origin (made empty_server copied_late) → ⊥
does_not_settle m origin settled =
    one_for_two 1 refl (held_now old_again 0 2 (settled 24 34 the_file 0 2 34 (put 0 (2 ∷ []) puts_it (record { k = 0; place = refl; byte = refl })) (itself 0 (2 ∷ []) puts_it refl) 36 (omega arith) (omega arith)
    (untouched m origin empty_server copied_late 24 36 0 (second_change copied_late 7 24 36 0 (record { lane = 1; op = the_put; y = 22; answer = ok; ended = first_ends; before = omega arith }) refl refl refl refl refl))))
  where
    first_ends : Ended (entries_of copied_late) 1 7 the_put 22 ok
    first_ends = ended copied_late 1 1 7 22 the_put ok refl refl (omega arith) refl

    puts_it : PutsTo (entries_of copied_late) 24 34 the_file 0 (2 ∷ [])
    puts_it = record {
      lane = 1;
      path = the_path;
      value = values.Nothing;
      call = commit;
      ended = ended copied_late 1 2 24 34 later_put ok refl refl (omega arith) refl;
      names = commits 0 0 refl;
      asked = last_reply copied_late 34 33 31 9 commit (committed 1) refl refl refl (omega arith) (omega arith) (omega arith) refl refl (commit_talk 9 (omega arith)).call_is;
    }
