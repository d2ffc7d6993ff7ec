-- How the made histories begin: MNT and FSINFO, and then an open or a put that looks up its file.
use Rattle.std.proofs.Common.{◌≡◌, ◌<◌, ◌≤◌, ℕ, true, List, [], ◌∷◌, length, Some, refl, arith}
use Rattle.nfs_types.specs.declared.mode.Mode.{Mode}
use Rattle.world_model.specs.declared.answer.Answer.{Answer}
use Rattle.world_model.specs.declared.answer.Answer.TheVariants.{Done}
use Rattle.world_model.specs.declared.answer.Value.TheVariants as values
use Rattle.world_model.specs.declared.entry.Entry.TheVariants as entries
use Rattle.world_model.specs.declared.op.Op.{Op}
use Rattle.world_model.specs.declared.op.Op.TheVariants as ops
use Rattle.world_model.specs.Entries.{At}
use Rattle.world_model.specs.Mounts.{mount_call, info_call}
use Rattle.claims.specs.Modes.{Modes}
use Rattle.claims.specs.Slots.{InSlot, IsOf, slot_of}
use Rattle.honest_histories.proofs.SmallServer.{State, empty_server, root, the_file, mounted_reply, info_reply, the_lookup, the_found, get_attr, got_attr, may_mount, may_inform, may_look_up, may_get_attr}
use Rattle.honest_histories.proofs.Written.{Talk, talk_mount, talk_info, talk_lookup, talk_attr}
use Rattle.honest_histories.proofs.Made.{◌⍮◌, Event, Begins, Answers, Sends, Does, Comes, Looks, entries_of, AllFit, Right, idle, did, came, all_are, xid_fits}
use Rattle.honest_histories.proofs.Seen.{quiet, begins, is_close, ended, last_reply, holds}

abbrev pub ok : Answer
ok = Done values.Nothing

abbrev pub the_path : List (List ℕ)
the_path = (97 ∷ []) ∷ []

-- MNT and FSINFO, the time, an operation, and LOOKUP and GETATTR of its file
abbrev pub beginning : State → Op → List Event → List Event
beginning s op rest =
    Sends 0 (mount_call (47 ∷ [])) ∷ Does 0 (mount_call (47 ∷ [])) mounted_reply s ∷ Comes 0 mounted_reply
    ∷ Sends 1 (info_call root) ∷ Does 1 (info_call root) info_reply s ∷ Comes 1 info_reply
    ∷ Looks 10 ∷ Begins 1 1 op
    ∷ Sends 2 the_lookup ∷ Does 2 the_lookup the_found s ∷ Comes 2 the_found
    ∷ Sends 3 get_attr ∷ Does 3 get_attr (got_attr s) s ∷ Comes 3 (got_attr s) ∷ rest

-- a server whose file is named so, and has no very late time
pub record IsPlain (s : State) : Type 0 where
  pub letter : s.letter ≡ 97
  pub changed : s.changed ≤ 1000
  pub size : length s.now ≤ 1000
  pub sound : length s.stable ≤ length s.now

pub right_from : (s : State) (op : Op) (rest : List Event) → IsPlain s → AllFit (entries_of (beginning s op rest)) 14 s rest → Right s (beginning s op rest)
right_from s op rest plain fits = record {
  sound = plain.sound;
  fits = (did 0 (omega arith) refl (talk_mount 0 (omega arith)) (may_mount s (47 ∷ [])) (idle s)
      ⍮ came 1 (mount_call (47 ∷ [])) (omega arith) refl (talk_mount 0 (omega arith))
      ⍮ did 3 (omega arith) refl (talk_info 1 (omega arith)) (may_inform s) (idle s)
      ⍮ came 4 (info_call root) (omega arith) refl (talk_info 1 (omega arith))
      ⍮ did 8 (omega arith) refl (talk_lookup 2 (omega arith)) (may_look_up s plain.letter) (idle s)
      ⍮ came 9 the_lookup (omega arith) refl (talk_lookup 2 (omega arith))
      ⍮ did 11 (omega arith) refl its_attr (may_get_attr s) (idle s)
      ⍮ came 12 get_attr (omega arith) refl its_attr
      ⍮ fits);
}
  where
    its_attr : Talk 3 get_attr (got_attr s)
    its_attr = talk_attr 3 s (omega arith) (let a = plain.changed in omega (arith, a)) (let a = plain.size in omega (arith, a))

-- ---- an open

abbrev pub opened_by : Mode → Op
opened_by mode = ops.OpenFile 1 mode the_path

abbrev pub opening : State → Mode → List Event → List Event
opening s mode rest = beginning s (opened_by mode) (Answers 1 1 ok ∷ rest)

-- where no close is, the slot goes on holding the file
pub slot_holds : (m : Modes) (s : State) (mode : Mode) (rest : List Event) (n : ℕ) → all_are xid_fits (opening s mode rest) ≡ true → 14 < n → quiet (begins is_close) 0 n (entries_of (opening s mode rest)) ≡ true
    → InSlot m (entries_of (opening s mode rest)) n 1 1 7 the_file
slot_holds m s mode rest n fits after open_still =
    holds m (opening s mode rest) n 1 1 7 14 mode the_path values.Nothing
    (ended (opening s mode rest) 1 1 7 14 (opened_by mode) ok refl refl (omega arith) refl)
    (last_reply (opening s mode rest) 14 13 11 3 get_attr (got_attr s) fits refl refl (omega arith) (omega arith) (omega arith) refl refl (talk_attr 3 empty_server (omega arith) (omega arith) (omega arith)).call_is)
    after open_still

-- an operation on the slot is of the file
pub is_of : (m : Modes) (s : State) (mode : Mode) (rest : List Event) (x line : ℕ) (op : Op) → all_are xid_fits (opening s mode rest) ≡ true → 14 < x → quiet (begins is_close) 0 x (entries_of (opening s mode rest)) ≡ true
    → At (entries_of (opening s mode rest)) x (entries.Began 1 line op) → slot_of op ≡ Some 1 → IsOf m (entries_of (opening s mode rest)) x op the_file
is_of m s mode rest x line op fits after open_still began works =
    record { lane = 1; line = line; slot = 1; open_at = 7; began = began; works_on = works; holds = slot_holds m s mode rest x fits after open_still }
