-- Histories of wrong clients over an honest server: lawful, once and fresh; and the law of settled bytes refuses each.
use Rattle.std.proofs.Common.{◌≡◌, ◌<◌, ℕ, List, [], ◌∷◌, Some, refl, slice_get, arith}
use Rattle.nfs_types.specs.declared.mode.Mode.TheVariants as modes
use Rattle.world_model.specs.declared.answer.Answer.TheVariants.{Refused}
use Rattle.world_model.specs.declared.answer.Fault.TheVariants as faults
use Rattle.world_model.specs.declared.answer.Value.TheVariants as values
use Rattle.world_model.specs.declared.message.Call.{Call}
use Rattle.world_model.specs.declared.op.Op.{Op}
use Rattle.world_model.specs.declared.op.Op.TheVariants as ops
use Rattle.world_model.specs.Fresh.{Fresh}
use Rattle.world_model.specs.Lawful.{Lawful}
use Rattle.world_model.specs.Mounts.{Origin}
use Rattle.world_model.specs.Once.{Once}
use Rattle.world_model.specs.Operations.{Ended}
use Rattle.claims.specs.Modes.{Modes}
use Rattle.claims.specs.Settled.{Settled, itself, later}
use Rattle.claims.specs.Slots.{PutsTo, commits}
use Rattle.claims.specs.Touched.{Wrote, put, write, MadeStable, sync}
use Rattle.honest_histories.proofs.SmallServer.{State, empty_server, the_file, get_attr, got_attr, no_space, write_of, commit, committed, after_write, after_commit, may_write, may_refuse_write, may_commit, may_get_attr}
use Rattle.honest_histories.proofs.Written.{Talk, talk_attr, talk_write, talk_commit, talk_no_space}
use Rattle.honest_histories.proofs.Made.{◌⍮◌, Event, Begins, Answers, Sends, Does, Comes, Restarts, Fails, Looks, entries_of, made, Right, idle, did, came, newer, steadier, restarted, lawful, fresh, once}
use Rattle.honest_histories.proofs.Seen.{ended, last_reply, only_change, second_change, untouched, held_now}
use Rattle.honest_histories.proofs.Opened.{ok, the_path, beginning, opening, right_from, opened_by, is_of}
use Rattle.honest_histories.proofs.RestartedPut.{the_put, unstable, lost_it, the_write, wrote_by, empty_is_plain, its_write, its_commit}

not_there : (v : ℕ) → slice_get [] 0 ≡ Some v → ⊥
not_there v e = absurd (cc e)

pub one_for_two : (b : ℕ) → b ≡ 1 → slice_get (b ∷ []) 0 ≡ Some 2 → ⊥
one_for_two b is e = let two : b ≡ 2 = cc e in omega (arith, is, two)

-- ---- a sync that compares no verifiers

-- the server restarts between WRITE and COMMIT, and the put is answered all the same
abbrev pub skips_verifier : List Event
skips_verifier =
    beginning empty_server the_put (
    Sends 4 the_write ∷ Does 4 the_write (wrote_by 1) unstable ∷ Comes 4 (wrote_by 1)
    ∷ Restarts lost_it
    ∷ Sends 5 commit ∷ Does 5 commit (committed 2) (after_commit lost_it) ∷ Comes 5 (committed 2)
    ∷ Answers 1 1 ok ∷ []
    )

skips_verifier_right : Right empty_server skips_verifier
skips_verifier_right = right_from empty_server the_put _ empty_is_plain (
    did 14 (omega arith) refl (its_write 4 1 (omega arith)) (may_write empty_server 0 2 (1 ∷ []) (omega arith)) (newer refl (omega arith) refl refl (omega arith))
    ⍮ came 15 the_write (omega arith) refl (its_write 4 1 (omega arith))
    ⍮ restarted unstable 2 3 (omega arith) (omega arith) (λ e. absurd (cc e))
    ⍮ did 18 (omega arith) refl (its_commit 5 (omega arith)) (may_commit lost_it) (steadier lost_it (after_commit lost_it) refl refl refl refl refl (omega arith))
    ⍮ came 19 commit (omega arith) refl (its_commit 5 (omega arith))
    ⍮ tt)

skips_verifier_is_lawful : Lawful (made empty_server skips_verifier)
skips_verifier_is_lawful = lawful empty_server skips_verifier skips_verifier_right

skips_verifier_is_fresh : Fresh (made empty_server skips_verifier)
skips_verifier_is_fresh = fresh empty_server skips_verifier skips_verifier_right

skips_verifier_is_once : Once (entries_of skips_verifier)
skips_verifier_is_once = once skips_verifier refl refl

may_not_skip_verifier : (m : Modes) (origin : Origin) → Settled m origin (made empty_server skips_verifier) → ⊥
may_not_skip_verifier m origin settled =
    not_there 1 (held_now (after_commit lost_it) 0 1 (settled 7 21 the_file 0 1 21 (put 0 (1 ∷ []) puts_it (record { k = 0; place = refl; byte = refl })) (itself 0 (1 ∷ []) puts_it refl) 22 (omega arith) (omega arith)
    (untouched m origin empty_server skips_verifier 7 22 0 (only_change skips_verifier 7 22 0 refl refl refl refl))))
  where
    puts_it : PutsTo (entries_of skips_verifier) 7 21 the_file 0 (1 ∷ [])
    puts_it = record {
      lane = 1;
      path = the_path;
      value = values.Nothing;
      call = commit;
      ended = ended skips_verifier 1 1 7 21 the_put ok refl refl (omega arith) refl;
      names = commits 0 0 refl;
      asked = last_reply skips_verifier 21 20 18 5 commit (committed 2) refl refl refl (omega arith) (omega arith) (omega arith) refl refl (its_commit 5 (omega arith)).call_is;
    }

-- ---- an older piece that is sent beside a newer one

abbrev write_byte : ℕ → Op
write_byte b = ops.Write 1 0 (b ∷ [])

abbrev the_sync : Op
the_sync = ops.Sync 1

-- both WRITEs are under way at once, and the older is executed last
abbrev newer_first : State
newer_first = after_write empty_server 0 (2 ∷ []) 2

abbrev older_last : State
older_last = after_write newer_first 0 (1 ∷ []) 3

abbrev pub second_write : Call
second_write = write_of 0 (2 ∷ [])

abbrev overlap_rest : List Event
overlap_rest =
    Looks 11 ∷ Begins 1 2 (write_byte 1) ∷ Answers 1 2 ok
    ∷ Looks 12 ∷ Begins 1 3 (write_byte 2) ∷ Answers 1 3 ok
    ∷ Looks 13 ∷ Begins 1 4 the_sync
    ∷ Sends 4 the_write ∷ Sends 5 second_write
    ∷ Does 5 second_write (wrote_by 1) newer_first ∷ Comes 5 (wrote_by 1)
    ∷ Does 4 the_write (wrote_by 1) older_last ∷ Comes 4 (wrote_by 1)
    ∷ Sends 6 commit ∷ Does 6 commit (committed 1) (after_commit older_last) ∷ Comes 6 (committed 1)
    ∷ Answers 1 4 ok ∷ []

abbrev pub overlaps : List Event
overlaps = opening empty_server modes.W overlap_rest

second_talk : Talk 5 second_write (wrote_by 1)
second_talk = talk_write 5 0 1 (2 ∷ []) (omega arith) (omega arith) (omega arith)

pub commit_talk : (xid : ℕ) → xid < 256 → Talk xid commit (committed 1)
commit_talk xid fits = talk_commit xid 1 (omega (arith, fits))

overlaps_right : Right empty_server overlaps
overlaps_right = right_from empty_server (opened_by modes.W) (Answers 1 1 ok ∷ overlap_rest) empty_is_plain (
    did 24 (omega arith) refl second_talk (may_write empty_server 0 2 (2 ∷ []) (omega arith)) (newer refl (omega arith) refl refl (omega arith))
    ⍮ came 25 second_write (omega arith) refl second_talk
    ⍮ did 23 (omega arith) refl (its_write 4 1 (omega arith)) (may_write newer_first 0 3 (1 ∷ []) (omega arith)) (newer refl (omega arith) refl refl (omega arith))
    ⍮ came 27 the_write (omega arith) refl (its_write 4 1 (omega arith))
    ⍮ did 29 (omega arith) refl (commit_talk 6 (omega arith)) (may_commit older_last) (steadier older_last (after_commit older_last) refl refl refl refl refl (omega arith))
    ⍮ came 30 commit (omega arith) refl (commit_talk 6 (omega arith))
    ⍮ tt)

overlaps_is_lawful : Lawful (made empty_server overlaps)
overlaps_is_lawful = lawful empty_server overlaps overlaps_right

overlaps_is_fresh : Fresh (made empty_server overlaps)
overlaps_is_fresh = fresh empty_server overlaps overlaps_right

overlaps_is_once : Once (entries_of overlaps)
overlaps_is_once = once overlaps refl refl

may_not_overlap : (m : Modes) (origin : Origin) → Settled m origin (made empty_server overlaps) → ⊥
may_not_overlap m origin settled =
    one_for_two 1 refl (held_now (after_commit older_last) 0 2 (settled 19 20 the_file 0 2 32 wrote_it (later 22 (record { lane = 1; op = write_byte 2; y = 20; answer = ok; ended = second_ends; before = omega arith }) synced) 33 (omega arith) (omega arith)
    (untouched m origin empty_server overlaps 19 33 0
    (second_change overlaps 16 19 33 0 (record { lane = 1; op = write_byte 1; y = 17; answer = ok; ended = first_ends; before = omega arith }) refl refl refl refl refl))))
  where
    first_ends : Ended (entries_of overlaps) 1 16 (write_byte 1) 17 ok
    first_ends = ended overlaps 1 2 16 17 (write_byte 1) ok refl refl (omega arith) refl

    second_ends : Ended (entries_of overlaps) 1 19 (write_byte 2) 20 ok
    second_ends = ended overlaps 1 3 19 20 (write_byte 2) ok refl refl (omega arith) refl

    wrote_it : Wrote m (entries_of overlaps) 19 20 the_file 0 2
    wrote_it = write 1 1 0 (2 ∷ []) values.Nothing (is_of m empty_server modes.W overlap_rest 19 3 (write_byte 2) refl (omega arith) refl refl refl) second_ends (record { k = 0; place = refl; byte = refl })

    synced : MadeStable m (entries_of overlaps) 22 32 the_file
    synced = sync 1 1 values.Nothing (is_of m empty_server modes.W overlap_rest 22 4 the_sync refl (omega arith) refl refl refl) (ended overlaps 1 4 22 32 the_sync ok refl refl (omega arith) refl)

-- ---- a refused WRITE, whose bytes are dropped

-- the first sync is refused as the WRITE is; the next is answered ok, though nothing was written
abbrev dropping_rest : List Event
dropping_rest =
    Looks 11 ∷ Begins 1 2 (write_byte 1) ∷ Answers 1 2 ok
    ∷ Looks 12 ∷ Begins 1 3 the_sync
    ∷ Sends 4 the_write ∷ Does 4 the_write no_space empty_server ∷ Comes 4 no_space
    ∷ Answers 1 3 (Refused (faults.Nfs 28))
    ∷ Looks 13 ∷ Begins 1 4 the_sync
    ∷ Sends 5 commit ∷ Does 5 commit (committed 1) empty_server ∷ Comes 5 (committed 1)
    ∷ Answers 1 4 ok ∷ []

abbrev pub drops_bytes : List Event
drops_bytes = opening empty_server modes.W dropping_rest

refused_talk : Talk 4 the_write no_space
refused_talk = talk_no_space 4 0 (1 ∷ []) (omega arith) (omega arith) (omega arith)

drops_bytes_right : Right empty_server drops_bytes
drops_bytes_right = right_from empty_server (opened_by modes.W) (Answers 1 1 ok ∷ dropping_rest) empty_is_plain (
    did 20 (omega arith) refl refused_talk (may_refuse_write empty_server 0 (1 ∷ [])) (idle empty_server)
    ⍮ came 21 the_write (omega arith) refl refused_talk
    ⍮ did 26 (omega arith) refl (commit_talk 5 (omega arith)) (may_commit empty_server) (idle empty_server)
    ⍮ came 27 commit (omega arith) refl (commit_talk 5 (omega arith))
    ⍮ tt)

drops_bytes_is_lawful : Lawful (made empty_server drops_bytes)
drops_bytes_is_lawful = lawful empty_server drops_bytes drops_bytes_right

drops_bytes_is_fresh : Fresh (made empty_server drops_bytes)
drops_bytes_is_fresh = fresh empty_server drops_bytes drops_bytes_right

drops_bytes_is_once : Once (entries_of drops_bytes)
drops_bytes_is_once = once drops_bytes refl refl

may_not_drop_bytes : (m : Modes) (origin : Origin) → Settled m origin (made empty_server drops_bytes) → ⊥
may_not_drop_bytes m origin settled =
    not_there 1 (held_now empty_server 0 1 (settled 16 17 the_file 0 1 29 wrote_it (later 25 (record { lane = 1; op = write_byte 1; y = 17; answer = ok; ended = write_ends; before = omega arith }) synced) 30 (omega arith) (omega arith)
    (untouched m origin empty_server drops_bytes 16 30 0 (only_change drops_bytes 16 30 0 refl refl refl refl))))
  where
    write_ends : Ended (entries_of drops_bytes) 1 16 (write_byte 1) 17 ok
    write_ends = ended drops_bytes 1 2 16 17 (write_byte 1) ok refl refl (omega arith) refl

    wrote_it : Wrote m (entries_of drops_bytes) 16 17 the_file 0 1
    wrote_it = write 1 1 0 (1 ∷ []) values.Nothing (is_of m empty_server modes.W dropping_rest 16 2 (write_byte 1) refl (omega arith) refl refl refl) write_ends (record { k = 0; place = refl; byte = refl })

    synced : MadeStable m (entries_of drops_bytes) 25 29 the_file
    synced = sync 1 1 values.Nothing (is_of m empty_server modes.W dropping_rest 25 4 the_sync refl (omega arith) refl refl refl) (ended drops_bytes 1 4 25 29 the_sync ok refl refl (omega arith) refl)

-- ---- a call that is sent again under a new xid

abbrev pub later_put : Op
later_put = ops.Put the_path 0 (2 ∷ [])

abbrev pub first_stable : State
first_stable = after_commit unstable

abbrev pub newer_byte : State
newer_byte = after_write first_stable 0 (2 ∷ []) 3

abbrev pub newer_stable : State
newer_stable = after_commit newer_byte

abbrev pub old_again : State
old_again = after_write newer_stable 0 (1 ∷ []) 4

-- The WRITE of the first put gets no reply, and its copy under another xid does what it was for. The first itself is executed
-- after the second put; no reply to it ever came.
abbrev copy_rest : List Event
copy_rest =
    Sends 4 the_write ∷ Fails
    ∷ Sends 5 the_write ∷ Does 5 the_write (wrote_by 1) unstable ∷ Comes 5 (wrote_by 1)
    ∷ Sends 6 commit ∷ Does 6 commit (committed 1) first_stable ∷ Comes 6 (committed 1)
    ∷ Answers 1 1 ok
    ∷ Looks 20 ∷ Begins 1 2 later_put
    ∷ Sends 7 get_attr ∷ Does 7 get_attr (got_attr first_stable) first_stable ∷ Comes 7 (got_attr first_stable)
    ∷ Sends 8 second_write ∷ Does 8 second_write (wrote_by 1) newer_byte ∷ Comes 8 (wrote_by 1)
    ∷ Sends 9 commit ∷ Does 9 commit (committed 1) newer_stable ∷ Comes 9 (committed 1)
    ∷ Answers 1 2 ok
    ∷ Does 4 the_write (wrote_by 1) old_again ∷ []

abbrev pub copies_calls : List Event
copies_calls = beginning empty_server the_put copy_rest

pub newer_talk : Talk 8 second_write (wrote_by 1)
newer_talk = talk_write 8 0 1 (2 ∷ []) (omega arith) (omega arith) (omega arith)

pub attr_talk : Talk 7 get_attr (got_attr first_stable)
attr_talk = talk_attr 7 first_stable (omega arith) (omega arith) (omega arith)

copies_calls_right : Right empty_server copies_calls
copies_calls_right = right_from empty_server the_put copy_rest empty_is_plain (
    did 16 (omega arith) refl (its_write 5 1 (omega arith)) (may_write empty_server 0 2 (1 ∷ []) (omega arith)) (newer refl (omega arith) refl refl (omega arith))
    ⍮ came 17 the_write (omega arith) refl (its_write 5 1 (omega arith))
    ⍮ did 19 (omega arith) refl (commit_talk 6 (omega arith)) (may_commit unstable) (steadier unstable first_stable refl refl refl refl refl (omega arith))
    ⍮ came 20 commit (omega arith) refl (commit_talk 6 (omega arith))
    ⍮ did 25 (omega arith) refl attr_talk (may_get_attr first_stable) (idle first_stable)
    ⍮ came 26 get_attr (omega arith) refl attr_talk
    ⍮ did 28 (omega arith) refl newer_talk (may_write first_stable 0 3 (2 ∷ []) (omega arith)) (newer refl (omega arith) refl refl (omega arith))
    ⍮ came 29 second_write (omega arith) refl newer_talk
    ⍮ did 31 (omega arith) refl (commit_talk 9 (omega arith)) (may_commit newer_byte) (steadier newer_byte newer_stable refl refl refl refl refl (omega arith))
    ⍮ came 32 commit (omega arith) refl (commit_talk 9 (omega arith))
    ⍮ did 14 (omega arith) refl (its_write 4 1 (omega arith)) (may_write newer_stable 0 4 (1 ∷ []) (omega arith)) (newer refl (omega arith) refl refl (omega arith))
    ⍮ tt)

copies_calls_is_lawful : Lawful (made empty_server copies_calls)
copies_calls_is_lawful = lawful empty_server copies_calls copies_calls_right

copies_calls_is_fresh : Fresh (made empty_server copies_calls)
copies_calls_is_fresh = fresh empty_server copies_calls copies_calls_right

copies_calls_is_once : Once (entries_of copies_calls)
copies_calls_is_once = once copies_calls refl refl

may_not_copy_calls : (m : Modes) (origin : Origin) → Settled m origin (made empty_server copies_calls) → ⊥
may_not_copy_calls m origin settled =
    one_for_two 1 refl (held_now old_again 0 2 (settled 24 34 the_file 0 2 34 (put 0 (2 ∷ []) puts_it (record { k = 0; place = refl; byte = refl })) (itself 0 (2 ∷ []) puts_it refl) 36 (omega arith) (omega arith)
    (untouched m origin empty_server copies_calls 24 36 0 (second_change copies_calls 7 24 36 0 (record { lane = 1; op = the_put; y = 22; answer = ok; ended = first_ends; before = omega arith }) refl refl refl refl refl))))
  where
    first_ends : Ended (entries_of copies_calls) 1 7 the_put 22 ok
    first_ends = ended copies_calls 1 1 7 22 the_put ok refl refl (omega arith) refl

    puts_it : PutsTo (entries_of copies_calls) 24 34 the_file 0 (2 ∷ [])
    puts_it = record {
      lane = 1;
      path = the_path;
      value = values.Nothing;
      call = commit;
      ended = ended copies_calls 1 2 24 34 later_put ok refl refl (omega arith) refl;
      names = commits 0 0 refl;
      asked = last_reply copies_calls 34 33 31 9 commit (committed 1) refl refl refl (omega arith) (omega arith) (omega arith) refl refl (commit_talk 9 (omega arith)).call_is;
    }
