-- A wrong client whose close is answered ok though it sent nothing of what was written: the history is lawful, once and fresh, and the evidence of settled bytes
-- refuses it (RFC 1813, sections 3.3.7 and 3.3.21).
use Rattle.std.proofs.Common.{◌≡◌, ◌<◌, ◌≤◌, ℕ, List, [], ◌∷◌, Some, refl, arith}
use Rattle.nfs_types.specs.declared.mode.Mode.TheVariants as modes
use Rattle.world_model.specs.declared.answer.Value.TheVariants as values
use Rattle.world_model.specs.declared.op.Op.{Op}
use Rattle.world_model.specs.declared.op.Op.TheVariants as ops
use Rattle.world_model.specs.Fresh.{Fresh}
use Rattle.world_model.specs.Lawful.{Lawful}
use Rattle.world_model.specs.Mounts.{Origin}
use Rattle.world_model.specs.Once.{Once}
use Rattle.world_model.specs.Operations.{Ended}
use Rattle.claims.specs.Modes.{Modes}
use Rattle.claims.specs.Settled.{Evidence, Evident, later}
use Rattle.claims.specs.Touched.{MadeStable, Wrote, close, write}
use Rattle.honest_histories.proofs.SmallServer.{empty_server, the_file}
use Rattle.honest_histories.proofs.Made.{Event, Begins, Answers, Looks, entries_of, made, Right, lawful, fresh, once}
use Rattle.honest_histories.proofs.Seen.{closing_change, ended, none_sent, not_overtaken}
use Rattle.honest_histories.proofs.Opened.{ok, opening, right_from, opened_by, is_of}
use Rattle.honest_histories.proofs.RestartedPut.{empty_is_plain}

abbrev the_op : Op
the_op = ops.Write 1 0 (1 ∷ [])

abbrev the_close : Op
the_close = ops.Close 1

-- a write and a close, and no call of either
abbrev unsent_rest : List Event
unsent_rest = Looks 11 ∷ Begins 1 2 the_op ∷ Answers 1 2 ok ∷ Looks 12 ∷ Begins 1 3 the_close ∷ Answers 1 3 ok ∷ []

abbrev pub closes_unsent : List Event
closes_unsent = opening empty_server modes.W unsent_rest

closes_unsent_right : Right empty_server closes_unsent
closes_unsent_right = right_from empty_server (opened_by modes.W) (Answers 1 1 ok ∷ unsent_rest) empty_is_plain tt

closes_unsent_is_lawful : Lawful (made empty_server closes_unsent)
closes_unsent_is_lawful = lawful empty_server closes_unsent closes_unsent_right

closes_unsent_is_fresh : Fresh (made empty_server closes_unsent)
closes_unsent_is_fresh = fresh empty_server closes_unsent closes_unsent_right

closes_unsent_is_once : Once (entries_of closes_unsent)
closes_unsent_is_once = once closes_unsent refl refl

may_not_close_unsent : (m : Modes) (origin : Origin) → Evident m origin (entries_of closes_unsent) → ⊥
may_not_close_unsent m origin evident =
    let e : Evidence (entries_of closes_unsent) 16 20 the_file 0 1 =
    evident 16 17 the_file 0 1 20 wrote_it (later 19 (record { lane = 1; op = the_op; y = 17; answer = ok; ended = write_ends; before = omega arith }) closed)
    (not_overtaken m origin closes_unsent 16 20 0 (closing_change closes_unsent 16 19 20 0 (omega arith) refl refl refl refl)) in
    let heard = e.wrote.asked.heard in
    let late = heard.after in
    let after = heard.later in
    let soon = heard.before in
    let by = e.by in
    let low = none_sent closes_unsent 16 21 refl heard.sent_at heard.record_sent heard.sent.sent (omega (arith, after, soon, by)) in
    omega (arith, late, low)
  where
    write_ends : Ended (entries_of closes_unsent) 1 16 the_op 17 ok
    write_ends = ended closes_unsent 1 2 16 17 the_op ok refl refl (omega arith) refl

    wrote_it : Wrote m (entries_of closes_unsent) 16 17 the_file 0 1
    wrote_it = write 1 1 0 (1 ∷ []) values.Nothing (is_of m empty_server modes.W unsent_rest 16 2 the_op refl (omega arith) refl refl refl) write_ends (record { k = 0; place = refl; byte = refl })

    closed : MadeStable m (entries_of closes_unsent) 19 20 the_file
    closed = close 1 1 values.Nothing (is_of m empty_server modes.W unsent_rest 19 3 the_close refl (omega arith) refl refl refl) (ended closes_unsent 1 3 19 20 the_close ok refl refl (omega arith) refl)
