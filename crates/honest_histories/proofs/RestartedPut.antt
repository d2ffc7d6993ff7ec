-- A put over a restart of the server: its WRITE is lost, COMMIT tells by another verifier, WRITE and COMMIT are sent again
-- (RFC 1813, section 4.8). Then another client writes another place, and the byte is read. The history is lawful, once and
-- fresh, and the laws of settled bytes and of reads say something of it.
use Rattle.std.proofs.Common.{◌≡◌, ◌<◌, ◌≤◌, ℕ, false, List, [], ◌∷◌, Some, refl, slice_get, arith}
use Rattle.nfs_types.specs.declared.mode.Mode.TheVariants as modes
use Rattle.world_model.specs.declared.answer.Answer.TheVariants.{Done}
use Rattle.world_model.specs.declared.answer.Value.TheVariants as values
use Rattle.world_model.specs.declared.message.Call.{Call}
use Rattle.world_model.specs.declared.message.Reply.{Reply}
use Rattle.world_model.specs.declared.op.Op.{Op}
use Rattle.world_model.specs.declared.op.Op.TheVariants as ops
use Rattle.world_model.specs.Fresh.{Fresh}
use Rattle.world_model.specs.History.{History}
use Rattle.world_model.specs.Lawful.{Lawful}
use Rattle.world_model.specs.Mounts.{Origin}
use Rattle.world_model.specs.Once.{Once}
use Rattle.world_model.specs.Server.{Server}
use Rattle.claims.specs.Modes.{Modes}
use Rattle.claims.specs.ReadTrue.{ReadsBytes, ReadOwn}
use Rattle.claims.specs.Settled.{Settled, SettledBy, itself, HoldsStable}
use Rattle.claims.specs.Slots.{PutsTo, commits}
use Rattle.claims.specs.Touched.{Wrote, put, Touched, ChangesPlace, writes, sizes, makes}
use Rattle.honest_histories.proofs.SmallServer.{State, file, empty_server, the_file, the_lookup, the_found, get_attr, got_attr, no_wcc, write_of, wrote_of, commit, committed, read_of, read_reply, after_write, after_commit, may_write, may_commit, may_look_up, may_get_attr, may_read}
use Rattle.honest_histories.proofs.Written.{Talk, talk_lookup, talk_attr, talk_write, talk_commit, talk_read}
use Rattle.honest_histories.proofs.Made.{◌⍮◌, Event, Begins, Answers, Sends, Does, Comes, Others, Restarts, Looks, entries_of, made, AllFit, Right, idle, did, came, newer, steadier, restarted, lawful, fresh, once}
use Rattle.honest_histories.proofs.Seen.{ended, last_reply, holds, spared_change, sooner, untouched}
use Rattle.honest_histories.proofs.Opened.{ok, the_path, beginning, IsPlain, right_from}

-- ---- the history

abbrev pub the_put : Op
the_put = ops.Put the_path 0 (1 ∷ [])

-- the byte is written, is lost, is written again, and becomes stable; another client writes the next one
abbrev pub unstable : State
unstable = after_write empty_server 0 (1 ∷ []) 2

abbrev pub lost_it : State
lost_it = record unstable { verf = 2; now = unstable.stable; changed = 3 }

abbrev pub again : State
again = after_write lost_it 0 (1 ∷ []) 4

abbrev pub stable : State
stable = after_commit again

abbrev pub longer : State
longer = after_write stable 1 (2 ∷ []) 5

abbrev pub the_write : Call
the_write = write_of 0 (1 ∷ [])

abbrev pub wrote_by : ℕ → Reply
wrote_by v = wrote_of no_wcc 1 0 v

abbrev the_bytes : List ℕ
the_bytes = 1 ∷ []

abbrev after_open : List Event
after_open =
    Looks 21 ∷ Begins 1 3 (ops.Read 1 0 1)
    ∷ Sends 10 (read_of 0) ∷ Does 10 (read_of 0) (read_reply 1 false) longer ∷ Comes 10 (read_reply 1 false)
    ∷ Answers 1 3 (Done (values.Bytes the_bytes)) ∷ []

abbrev after_put : List Event
after_put =
    Others (write_of 1 (2 ∷ [])) (wrote_by 2) longer
    ∷ Looks 20 ∷ Begins 1 2 (ops.OpenFile 1 modes.R the_path)
    ∷ Sends 8 the_lookup ∷ Does 8 the_lookup the_found longer ∷ Comes 8 the_found
    ∷ Sends 9 get_attr ∷ Does 9 get_attr (got_attr longer) longer ∷ Comes 9 (got_attr longer)
    ∷ Answers 1 2 ok ∷ after_open

abbrev put_rest : List Event
put_rest =
    Sends 4 the_write ∷ Does 4 the_write (wrote_by 1) unstable ∷ Comes 4 (wrote_by 1)
    ∷ Restarts lost_it
    ∷ Sends 5 commit ∷ Does 5 commit (committed 2) (after_commit lost_it) ∷ Comes 5 (committed 2)
    ∷ Sends 6 the_write ∷ Does 6 the_write (wrote_by 2) again ∷ Comes 6 (wrote_by 2)
    ∷ Sends 7 commit ∷ Does 7 commit (committed 2) stable ∷ Comes 7 (committed 2)
    ∷ Answers 1 1 ok ∷ after_put

abbrev pub restarted_put : List Event
restarted_put = beginning empty_server the_put put_rest

abbrev pub restarted_history : History
restarted_history = made empty_server restarted_put

-- ---- lawful, once, fresh

pub empty_is_plain : IsPlain empty_server
empty_is_plain = record { letter = refl; changed = omega arith; size = omega arith; sound = omega arith }

pub its_write : (xid v : ℕ) → xid < 256 → Talk xid the_write (wrote_by v)
its_write xid v fits = talk_write xid 0 v (1 ∷ []) (omega (arith, fits)) (omega arith) (omega arith)

pub its_commit : (xid : ℕ) → xid < 256 → Talk xid commit (committed 2)
its_commit xid fits = talk_commit xid 2 (omega (arith, fits))

its_attr : Talk 9 get_attr (got_attr longer)
its_attr = talk_attr 9 longer (omega arith) (omega arith) (omega arith)

its_read : Talk 10 (read_of 0) (read_reply 1 false)
its_read = talk_read 10 0 1 false (omega arith) (omega arith)

the_open_fits : AllFit (entries_of restarted_put) 28 stable after_put
the_open_fits =
    (record { serves = may_write stable 1 5 (2 ∷ []) (omega arith); moves = newer refl (omega arith) refl refl (omega arith) }
    ⍮ did 31 (omega arith) refl (talk_lookup 8 (omega arith)) (may_look_up longer refl) (idle longer)
    ⍮ came 32 the_lookup (omega arith) refl (talk_lookup 8 (omega arith))
    ⍮ did 34 (omega arith) refl its_attr (may_get_attr longer) (idle longer)
    ⍮ came 35 get_attr (omega arith) refl its_attr
    ⍮ did 40 (omega arith) refl its_read (may_read longer 0 1 false refl (λ e. absurd (cc e))) (idle longer)
    ⍮ came 41 (read_of 0) (omega arith) refl its_read
    ⍮ tt)

pub restarted_right : Right empty_server restarted_put
restarted_right = right_from empty_server the_put put_rest empty_is_plain (
    did 14 (omega arith) refl (its_write 4 1 (omega arith)) (may_write empty_server 0 2 (1 ∷ []) (omega arith)) (newer refl (omega arith) refl refl (omega arith))
    ⍮ came 15 the_write (omega arith) refl (its_write 4 1 (omega arith))
    ⍮ restarted unstable 2 3 (omega arith) (omega arith) (λ e. absurd (cc e))
    ⍮ did 18 (omega arith) refl (its_commit 5 (omega arith)) (may_commit lost_it) (steadier lost_it (after_commit lost_it) refl refl refl refl refl (omega arith))
    ⍮ came 19 commit (omega arith) refl (its_commit 5 (omega arith))
    ⍮ did 21 (omega arith) refl (its_write 6 2 (omega arith)) (may_write lost_it 0 4 (1 ∷ []) (omega arith)) (newer refl (omega arith) refl refl (omega arith))
    ⍮ came 22 the_write (omega arith) refl (its_write 6 2 (omega arith))
    ⍮ did 24 (omega arith) refl (its_commit 7 (omega arith)) (may_commit again) (steadier again stable refl refl refl refl refl (omega arith))
    ⍮ came 25 commit (omega arith) refl (its_commit 7 (omega arith))
    ⍮ the_open_fits)

restarted_is_lawful : Lawful restarted_history
restarted_is_lawful = lawful empty_server restarted_put restarted_right

restarted_is_fresh : Fresh restarted_history
restarted_is_fresh = fresh empty_server restarted_put restarted_right

restarted_is_once : Once (entries_of restarted_put)
restarted_is_once = once restarted_put refl refl

-- ---- what the law of settled bytes says

the_put_goes_well : PutsTo (entries_of restarted_put) 7 27 the_file 0 (1 ∷ [])
the_put_goes_well = record {
  lane = 1;
  path = the_path;
  value = values.Nothing;
  call = commit;
  ended = ended restarted_put 1 1 7 27 the_put ok refl refl (omega arith) refl;
  names = commits 0 0 refl;
  asked = last_reply restarted_put 27 26 24 7 commit (committed 2) refl refl refl (omega arith) (omega arith) (omega arith) refl refl (its_commit 7 (omega arith)).call_is;
}

it_wrote : (m : Modes) → Wrote m (entries_of restarted_put) 7 27 the_file 0 1
it_wrote m = put 0 (1 ∷ []) the_put_goes_well (record { k = 0; place = refl; byte = refl })

it_settled : (m : Modes) → SettledBy m (entries_of restarted_put) 7 27 the_file 27
it_settled m = itself 0 (1 ∷ []) the_put_goes_well refl

spares_it : (t : Server) (reply : Reply) → ChangesPlace t the_file 0 (write_of 1 (2 ∷ [])) reply → ⊥
spares_it t reply (writes offset how bytes is low high) = let at : 1 ≡ offset = cc is in omega (arith, at, low)
spares_it t reply (sizes set size guard wcc is told sized low) = absurd (cc is)
spares_it t reply (makes d name set size made_ attr wcc is told named sized low) = absurd (cc is)

-- up to each moment nothing touches the byte: the other client writes the next one
not_touched : (m : Modes) (origin : Origin) (p : ℕ) → p ≤ 44 → Touched m origin restarted_history 7 p the_file 0 → ⊥
not_touched m origin p le =
    untouched m origin empty_server restarted_put 7 p 0 (sooner restarted_put 7 44 p 0 le (spared_change restarted_put 7 44 0 28 (write_of 1 (2 ∷ [])) (wrote_by 2) refl refl refl refl refl (λ t. spares_it t (wrote_by 2)) refl))

-- so the law says that it is in the file and stable, from the put's answer to the end
law_says : (m : Modes) (origin : Origin) → Settled m origin restarted_history → (p : ℕ) → 27 < p → p ≤ 44 → HoldsStable (restarted_history.at p) the_file 0 1
law_says m origin settled p late soon = settled 7 27 the_file 0 1 27 (it_wrote m) (it_settled m) p late soon (not_touched m origin p soon)

-- and it is, at the end
it_stands : HoldsStable (restarted_history.at 44) the_file 0 1
it_stands = record { now = longer.now; stable = longer.stable; has = record { file = file longer; is = refl; holds = refl }; holds = refl; steady = refl }

-- ---- what the law of reads says

the_read : (m : Modes) → ReadsBytes m (entries_of restarted_put) 39 43 30 the_file 0 1 the_bytes
the_read m = record {
  lane = 1;
  slot = 1;
  ended = ended restarted_put 1 3 39 43 (ops.Read 1 0 1) (Done (values.Bytes the_bytes)) refl refl (omega arith) refl;
  holds = holds m restarted_put 39 1 1 30 37 modes.R the_path values.Nothing (ended restarted_put 1 2 30 37 (ops.OpenFile 1 modes.R the_path) ok refl refl (omega arith) refl)
      (last_reply restarted_put 37 36 34 9 get_attr (got_attr longer) refl refl refl (omega arith) (omega arith) (omega arith) refl refl its_attr.call_is) (omega arith) refl;
}

-- the put was answered before the read began, and nothing touched its byte: so the read's answer has to hold it
law_of_reads_says : (m : Modes) (origin : Origin) → ReadOwn m origin restarted_history → slice_get the_bytes 0 ≡ Some 1
law_of_reads_says m origin reads = reads 39 43 30 the_file 0 1 the_bytes (the_read m) 7 27 0 1 (it_wrote m) (omega arith) (omega arith) (not_touched m origin 43 (omega arith))
