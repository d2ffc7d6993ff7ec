-- A small run of the machine, with each kind of move.
use Rattle.std.specs.Prelude.{◌≡◌, ◌≤◌, ℕ, true, false, List, [], ◌∷◌, Some, None, length, bytes_eq, if◌then◌else◌}
use Rattle.std.proofs.Common.{refl}
use Rattle.nfs_types.specs.declared.attr.Attr.{Attr}
use Rattle.nfs_types.specs.declared.mode.Mode.{Mode}
use Rattle.nfs_dir_calls.specs.declared.call.DirCall.TheVariants as dirs
use Rattle.nfs_dir_calls.specs.declared.keeping.DirKept.TheVariants as found
use Rattle.nfs_dir_calls.specs.declared.plus_page.PlusRow.{PlusRow}
use Rattle.nfs_file_calls.specs.declared.call.FileCall.TheVariants as files
use Rattle.nfs_file_calls.specs.declared.owned.FileKept.TheVariants as replies
use Rattle.world_model.specs.declared.answer.Answer.TheVariants.{Done}
use Rattle.world_model.specs.declared.answer.Value.TheVariants.{Nothing, Attrs, Names}
use Rattle.world_model.specs.declared.entry.Entry.{Entry}
use Rattle.world_model.specs.declared.entry.Entry.TheVariants as entries
use Rattle.world_model.specs.declared.message.Call.{Call}
use Rattle.world_model.specs.declared.message.Call.TheVariants as calls
use Rattle.world_model.specs.declared.message.Reply.{Reply}
use Rattle.world_model.specs.declared.message.Reply.TheVariants as answers
use Rattle.world_model.specs.declared.op.Op.TheVariants as ops
use Rattle.world_model.specs.Chains.{list_call, zero_verf, page_reply}
use Rattle.world_model.specs.History.{History}
use Rattle.world_model.specs.Messages.{HasXid, SpellsCall, SpellsReply}
use Rattle.claims.specs.Modes.{Modes}
use Rattle.world_model.specs.Mounts.{Origin, Given}
use Rattle.world_model.specs.Rules.{most_bytes}
use Rattle.world_model.specs.Server.{Listed, Bytes, Entries, Object, Server}
use Rattle.model_walks.specs.Machine.{Handle, Name, Path, View, KnowsAttr, believed, told, Move, makes_call, learns_attr, learns_name, forgets, looks_up, goes_by_name, finds_file, shows_object, begins_list, takes_page}
use Rattle.model_walks.specs.Reaches.{Reaches, begins, enters, moves}

-- what a move does
pub data Kind : Type 0 where
  a_call : Kind
  an_attribute : Kind
  a_name : Kind
  a_loss : Kind
  a_lookup : Kind
  a_kept_name : Kind
  a_file : Kind
  believed_attributes : Kind
  told_attributes : Kind
  a_list : Kind
  a_page : Kind

abbrev pub kind_shown : (c : View) (op : ℕ) (object : Handle) (attr : Attr) → KnowsAttr c op object attr → Kind
kind_shown c op object attr (believed known believes same) = believed_attributes
kind_shown c op object attr (told came own) = told_attributes

abbrev pub kind_of : (m : Modes) (n : ℕ) (b c : View) → Move m n b c → Kind
kind_of m n b c (makes_call k) = a_call
kind_of m n b c (learns_attr k) = an_attribute
kind_of m n b c (learns_name k) = a_name
kind_of m n b c (forgets k) = a_loss
kind_of m n b c (looks_up k) = a_lookup
kind_of m n b c (goes_by_name k) = a_kept_name
kind_of m n b c (finds_file k) = a_file
kind_of m n b c (shows_object k) = kind_shown b k.op k.object k.attr k.knows
kind_of m n b c (begins_list k) = a_list
kind_of m n b c (takes_page k) = a_page

-- the moves of a run, the last one first
abbrev pub kinds : (m : Modes) (origin : Origin) (t : History) (h : List Entry) (c : View) → Reaches m origin t h c → List Kind
kinds m origin t _ _ (begins h c e new) = []
kinds m origin t _ _ (enters h c before b e r is step) = kinds m origin t before b r
kinds m origin t _ _ (moves h c b r k) = kind_of m (length h) b c k ∷ kinds m origin t h b r

-- attributes are kept for a minute at most, and an open may go by them
abbrev pub the_modes : Modes
the_modes = record { longest = 60000; noac = false; nocto = true; apart = λ on. refl }

abbrev pub the_root : Handle
the_root = 2 ∷ []

abbrev pub the_file : Handle
the_file = 3 ∷ []

abbrev pub the_name : Name
the_name = 1 ∷ []

abbrev pub the_path : Path
the_path = the_name ∷ []

abbrev pub the_lookup : Call
the_lookup = calls.Dir (dirs.Lookup the_root the_name)

abbrev pub the_found : Attr → Reply
the_found dir = answers.Dir (found.Lookup the_file None (Some dir))

abbrev pub the_question : Call
the_question = calls.File (files.GetAttr the_file)

abbrev pub the_state : Attr → Reply
the_state attr = answers.File (replies.GetAttr attr)

abbrev pub the_row : PlusRow
the_row = record { fileid = 1; name = the_name; cookie = 1; attr = None; found = None }

abbrev pub the_page : Reply
the_page = page_reply None zero_verf (the_row ∷ []) true

-- a record is this call under this xid, and no other
pub record IsCall (x : ℕ) (call : Call) (bytes : List ℕ) : Type 0 where
  pub under : (z : ℕ) → HasXid bytes z → z ≡ x
  pub spells : SpellsCall x call bytes
  pub alone : (other : Call) → SpellsCall x other bytes → other ≡ call

-- a record is this reply to the call under this xid, and no other
pub record IsReply (x : ℕ) (call : Call) (reply : Reply) (bytes : List ℕ) : Type 0 where
  pub under : HasXid bytes x
  pub spells : SpellsReply x call reply bytes
  pub alone : (other : Reply) → SpellsReply x call other bytes → other ≡ reply
  pub short : length bytes ≤ most_bytes

-- the records of the run: what was sent, and what came
pub record Records (dir attr : Attr) : Type 0 where
  pub lookup : List ℕ
  pub looked : List ℕ
  pub question : List ℕ
  pub state : List ℕ
  pub again : List ℕ
  pub found_again : List ℕ
  pub list : List ℕ
  pub page : List ℕ
  pub lookup_is : IsCall 0 the_lookup lookup
  pub looked_is : IsReply 0 the_lookup (the_found dir) looked
  pub question_is : IsCall 1 the_question question
  pub state_is : IsReply 1 the_question (the_state attr) state
  pub again_is : IsCall 2 the_lookup again
  pub found_again_is : IsReply 2 the_lookup (the_found dir) found_again
  pub list_is : IsCall 3 (list_call the_root 0 zero_verf) list
  pub page_is : IsReply 3 (list_call the_root 0 zero_verf) the_page page

-- The attributes of a file are shown, the file is opened, its attributes are shown again, and its directory is listed.
abbrev pub the_run : Mode → (dir attr : Attr) → Records dir attr → List Entry
the_run mode dir attr r =
    entries.Clock 5 ∷ entries.Began 0 1 (ops.Stat the_path) ∷ entries.Sent r.lookup ∷ entries.Executed 0 the_lookup (the_found dir)
    ∷ entries.Delivered r.looked ∷ entries.Sent r.question ∷ entries.Executed 1 the_question (the_state attr) ∷ entries.Delivered r.state
    ∷ entries.Answered 0 1 (Done (Attrs attr)) ∷ entries.Clock 6 ∷ entries.Began 0 2 (ops.OpenFile 0 mode the_path) ∷ entries.Sent r.again
    ∷ entries.Executed 2 the_lookup (the_found dir) ∷ entries.Delivered r.found_again ∷ entries.Answered 0 2 (Done Nothing) ∷ entries.Clock 7
    ∷ entries.Began 0 3 (ops.Stat the_path) ∷ entries.Answered 0 3 (Done (Attrs attr)) ∷ entries.Clock 8 ∷ entries.Began 0 4 (ops.List [])
    ∷ entries.Sent r.list ∷ entries.Executed 3 (list_call the_root 0 zero_verf) the_page ∷ entries.Delivered r.page
    ∷ entries.Answered 0 4 (Done (Names (the_name ∷ []))) ∷ []

-- a server with a directory of one entry, and its file, which is empty
abbrev pub the_entry : Listed
the_entry = record { name = the_name; object = the_file; cookie = 1 }

abbrev pub the_directory : Attr → Object
the_directory dir = record { attr = dir; gone = false; holds = Entries (the_entry ∷ []) }

abbrev pub the_object : Attr → Object
the_object attr = record { attr = attr; gone = false; holds = Bytes [] [] }

abbrev pub the_server : (dir attr : Attr) → Server
the_server dir attr = record {
  verf = zero_verf;
  object = λ h. if bytes_eq h the_root then Some (the_directory dir) else if bytes_eq h the_file then Some (the_object attr) else None;
}

-- the run on that server, which stays as it is
abbrev pub the_history : Mode → (dir attr : Attr) → Records dir attr → History
the_history mode dir attr r = record { entries = the_run mode dir attr r; at = λ n. the_server dir attr }

-- the run is reached, by these moves
pub record IsReached (t : History) : Type 0 where
  pub client : View
  pub run : Reaches the_modes (Given the_root) t t.entries client
  pub moved : kinds the_modes (Given the_root) t t.entries client run ≡ a_loss ∷ a_page ∷ a_call ∷ a_list ∷ believed_attributes ∷ a_kept_name ∷ a_file
      ∷ a_call ∷ told_attributes ∷ an_attribute ∷ a_call ∷ a_lookup ∷ a_name ∷ an_attribute ∷ a_call ∷ []
