-- The file of a write that makes room stays the same.
use Rattle.core_session.proofs.Prelude.{◌≡◌, ℕ, Bool, true, false, List, Result, Ok, Err, sym, subst, inl, inr, Fault, Reply, Step, Shelf, Turn, left, is_first, Saving, WriteFile, Writing, is_full, joined, by-step, ends_as, RoomIs}
use Rattle.file_ops.specs.declared.write_file.Writing.TheVariants as writing
use Rattle.file_ops.specs.Saves as saves
use Rattle.file_ops.specs.WriteFile as writes

module _ (B : List ℕ → Type 0) where
  -- ---- writes and fills

  pub room-to : (told : _) (file : List ℕ) (saved : Saving) (state : Writing) → state ≡ writes.room_state told file saved → B file → RoomIs B state
  room-to told file saved state is b = by-step (λ t. state ≡ writes.room_state t file saved → RoomIs B state)
      (λ call is. subst (RoomIs B) (sym is) b)
      (λ is. subst (RoomIs B) (sym is) b)
      ended told is
    where
      ended : (result : Result (Unit {0}) Fault) → state ≡ writes.room_state (ends_as result) file saved → RoomIs B state
      ended (Ok done) is = subst (RoomIs B) (sym is) b
      ended (Err fault) is = subst (RoomIs B) (sym is) tt

  pub idle-to : (state : Writing) → state ≡ writing.Idle → RoomIs B state
  idle-to state is = subst (RoomIs B) (sym is) tt

  pub saves-to : (b : Bool) (wsize lane : ℕ) (file : List ℕ) (saving : Saving) (turn : Turn) (shelf : Shelf) (next : Step) (state : Writing) (after : Shelf)
      → writes.SavesIf b wsize lane file saving turn shelf next state after → B file → RoomIs B state
  saves-to false wsize lane file saving turn shelf next state after s b = subst (RoomIs B) (sym s.keeps) b
  saves-to true wsize lane file saving turn shelf next state after s b = room-to s.told file s.saved state s.leads.keeps b

  pub writes-to : (wsize lane : ℕ) (file : List ℕ) (offset : ℕ) (bytes : List ℕ) (turn : Turn) (shelf : Shelf) (next : Step) (state : Writing) (after : Shelf)
      → writes.Writes wsize lane file offset bytes turn shelf next state after → B file → RoomIs B state
  writes-to wsize lane file offset bytes turn shelf next state after w b = by (is_full bytes shelf.back) w
    where
      by : (full : Bool) → writes.WritesIf full wsize lane file offset bytes turn shelf next state after → RoomIs B state
      by true (inl s) = saves-to (is_first lane (joined lane s.of shelf).order) wsize lane file (saves.begun s.of shelf.seq) turn (joined lane s.of shelf) next state after s.saves b
      by true (inr s) = idle-to state s.1.keeps
      by false (inl s) = idle-to state s.leads.keeps
      by false (inr s) = idle-to state s.keeps

  pub resumes-to : (at : Writing) (wsize lane : ℕ) (turn : Turn) (old : Shelf) (next : Step) (state : Writing) (after : Shelf)
      → writes.ResumesIn at wsize lane turn old next state after → RoomIs B at → RoomIs B state
  resumes-to writing.Idle wsize lane turn old next state after s b = idle-to state s.keeps
  resumes-to (writing.Room file saving) wsize lane turn old next state after s b = saves-to (is_first lane old.order) wsize lane file saving turn old next state after s b

  pub follows-to : (told : _) (wsize : ℕ) (machine : WriteFile) (file : List ℕ) (saved : Saving) (turn : Turn) (shelf : Shelf) (next : Step) (state : Writing) (after : Shelf)
      → writes.Follows told wsize machine file saved turn shelf next state after → B file → RoomIs B state
  follows-to told wsize machine file saved turn shelf next state after f b = by-step (λ t. writes.Follows t wsize machine file saved turn shelf next state after → RoomIs B state)
      (λ call f. subst (RoomIs B) (sym f.keeps) b)
      (λ f. subst (RoomIs B) (sym f.keeps) b)
      ended told f
    where
      ended : (result : Result (Unit {0}) Fault) → writes.Follows (ends_as result) wsize machine file saved turn shelf next state after → RoomIs B state
      ended (Ok done) f = writes-to wsize machine.lane file machine.offset (writes.made_bytes machine.text) turn (record shelf { order = left machine.lane shelf.order }) next state after f b
      ended (Err fault) f = idle-to state f.keeps

  pub takes-to : (at : Writing) (wsize : ℕ) (machine : WriteFile) (sent turn : Turn) (came : Result Reply Fault) (old : Shelf) (next : Step) (state : Writing) (after : Shelf)
      → writes.TakesIn at wsize machine sent turn came old next state after → RoomIs B at → RoomIs B state
  takes-to writing.Idle wsize machine sent turn came old next state after t b = idle-to state t.keeps
  takes-to (writing.Room file saving) wsize machine sent turn came old next state after t b = follows-to t.told wsize machine file t.saved turn _ next state after t.follows b
