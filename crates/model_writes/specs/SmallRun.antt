-- A small run of the machine, with each kind of move.
use Rattle.std.specs.Prelude.{◌≡◌, List, [], ◌∷◌}
use Rattle.model_writes.specs.Story.{File, write_op, put_op, sync_op, close_op, cut_op, open_op, write, commit, resize, wrote, committed, told, done, refused, flushes, Entry, Began, Answered, Sent, Executed, Foreign, Reboot, Delivered, Failed}
use Rattle.model_writes.specs.Machine.{View, Move, makes_write, makes_commit, makes_call, adds, proceeds, opens, frees, cuts, gives_up, gives_up_put, loses}
use Rattle.model_writes.specs.Reaches.{Reaches, begins, enters, moves}

-- what a move does
pub data Kind : Type 0 where
  a_write : Kind
  a_commit : Kind
  a_call : Kind
  bytes_in : Kind
  a_stage : Kind
  an_open : Kind
  a_slot_freed : Kind
  a_cut : Kind
  a_close_given_up : Kind
  a_put_given_up : Kind
  a_loss : Kind

abbrev pub kind_of : (b c : View) → Move b c → Kind
kind_of b c (makes_write m) = a_write
kind_of b c (makes_commit m) = a_commit
kind_of b c (makes_call m) = a_call
kind_of b c (adds m) = bytes_in
kind_of b c (proceeds m) = a_stage
kind_of b c (opens m) = an_open
kind_of b c (frees m) = a_slot_freed
kind_of b c (cuts m) = a_cut
kind_of b c (gives_up m) = a_close_given_up
kind_of b c (gives_up_put m) = a_put_given_up
kind_of b c (loses m) = a_loss

-- the moves of a run, the last one first
abbrev pub kinds : (h : List Entry) (c : View) → Reaches h c → List Kind
kinds _ _ (begins h c e fresh) = []
kinds _ _ (enters h c before b e r is step) = kinds before b r
kinds _ _ (moves h c b r m) = kind_of b c m ∷ kinds h b r

abbrev pub the_file : File
the_file = 1 ∷ []

-- a byte is written and synced, the file cut; a put is refused, and so is the last close; then the session is lost
abbrev pub small_run : List Entry
small_run =
    Began 0 (open_op the_file 0) ∷ Answered 0 done ∷ Began 0 (write_op the_file 0 (7 ∷ [])) ∷ Answered 0 done ∷ Sent 0 (write the_file 0 (7 ∷ []) 0)
    ∷ Executed 0 (write the_file 0 (7 ∷ []) 0) (wrote 0 1 0 (5 ∷ [])) ∷ Delivered 0 (wrote 0 1 0 (5 ∷ [])) ∷ Began 0 (sync_op the_file)
    ∷ Sent 1 (commit the_file) ∷ Executed 1 (commit the_file) (committed 0 (5 ∷ [])) ∷ Delivered 1 (committed 0 (5 ∷ [])) ∷ Answered 0 done
    ∷ Began 0 (cut_op the_file 0) ∷ Sent 2 (resize the_file 0) ∷ Executed 2 (resize the_file 0) (told 0) ∷ Delivered 2 (told 0) ∷ Answered 0 done
    ∷ Began 0 (put_op the_file 0 (7 ∷ [])) ∷ Answered 0 refused ∷ Began 0 (close_op the_file 0) ∷ Answered 0 refused ∷ Foreign flushes ∷ Reboot ∷ Failed ∷ []

-- the run is reached, by these moves
pub record IsReached : Type 0 where
  pub client : View
  pub run : Reaches small_run client
  pub moved : kinds small_run client run ≡ a_loss ∷ a_close_given_up ∷ a_slot_freed ∷ a_stage ∷ a_put_given_up ∷ bytes_in ∷ a_stage ∷ a_cut ∷ a_call ∷ a_stage
      ∷ a_commit ∷ a_stage ∷ a_write ∷ bytes_in ∷ an_open ∷ []
