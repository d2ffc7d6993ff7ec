-- The steps of the core.
use Rattle.std.specs.Prelude.{◌≡◌, ◌⊎◌, ◌<◌, ◌≤◌, All, ◌+◌, ◌++◌, ◌∷◌, [], ℕ, List, Bool, true, false, Option, Some, None}
use Rattle.std.specs.Prelude.{Result, Ok, Err, map, length, position, remove, slice_get, slice_set, MatchOption, max, is_none, option_map, if◌then◌else◌}
use Rattle.nfs_types.specs.declared.program.TheConstants.{NFS_PROGRAM}
use Rattle.rpc_message.specs.Call.{xid_at, SpellsCallHead}
use Rattle.rpc_retry.specs.Held.{Held, next_xid}
use Rattle.rpc_retry.specs.Waiting.{made_call, first_due, sent, sent_call, first_given_up}
use Rattle.rpc_retry.specs.Put.{check_of, call_head, call_bytes}
use Rattle.rpc_retry.specs.Take.{awaited, after_taking}
use Rattle.rpc_retry.specs.Fail.{after_failure}
use Rattle.rpc_retry.specs.declared.waiting.Waiting.{Waiting}
use Rattle.rpc_retry.specs.declared.answers.PutRefusal.TheVariants as refusals
use Rattle.world_model.specs.declared.answer.Answer.{Answer}
use Rattle.world_model.specs.declared.answer.Answer.TheVariants as answers
use Rattle.world_model.specs.declared.answer.Fault.{Fault}
use Rattle.world_model.specs.declared.answer.Fault.TheVariants as faults
use Rattle.world_model.specs.declared.message.Call.{Call}
use Rattle.world_model.specs.declared.message.Reply.{Reply}
use Rattle.world_model.specs.Messages.{HasXid, proc_of, SpellsArguments}
use Rattle.client_shelf.specs.declared.shelf.Shelf.{Shelf}
use Rattle.client_shelf.specs.declared.turn.Turn.{Turn}
use Rattle.client_shelf.specs.Spelling.{IsSpellable}
use Rattle.client_shelf.specs.declared.step.Step.{Step}
use Rattle.client_shelf.specs.declared.step.Step.TheVariants.{Send, Wait, Done}
use Rattle.call_replies.specs.Says.{said_of, IsCallOf, Says}
use Rattle.op_machines.specs.declared.machine.Machine.{Machine}
use Rattle.op_machines.specs.Steps.{Starts, Resumes, Takes}
use Rattle.client_core.specs.declared.lane.Lane.{Lane}
use Rattle.client_core.specs.declared.lane.Purpose.{Purpose}
use Rattle.client_core.specs.declared.lane.State.{State}
use Rattle.client_core.specs.declared.lane.State.TheVariants.{Busy, Over}
use Rattle.client_core.specs.Lanes.{is_busy, is_over, lost_lane}
use Rattle.client_core.specs.View.{View, has_room, turn_at, unmade_turn}

-- the lane at a place comes to a state, and the shelf is this
abbrev pub with_state : View → ℕ → ℕ → State → Shelf → View
with_state v at number state shelf = record v { lanes = slice_set v.lanes at (record { number = number; state = state }); shelf = shelf }

-- ---- what a step of a lane's machine leads to: over the view with the machine and the shelf after its step

-- the lane at a place has an operation under way
abbrev pub IsBusyAt : View → ℕ → ℕ → Machine → Type 0
IsBusyAt v at number machine = slice_get v.lanes at ≡ Some (record { number = number; state = Busy machine })

-- the record of the call under the next xid
abbrev pub record_of : View → Call → List ℕ → List ℕ
record_of v call args = call_bytes v.calls.cred (next_xid v.calls) NFS_PROGRAM (proc_of call) args

-- a call of NFS with these arguments waits under the next xid, for that purpose
abbrev pub put_view : View → Purpose → List ℕ → View
put_view v purpose args = record v {
  calls = record v.calls {
    made = v.calls.made + 1;
    calls = v.calls.calls ++ (next_xid v.calls, made_call (call_bytes v.calls.cred (next_xid v.calls) NFS_PROGRAM purpose.proc args) purpose) ∷ [];
  };
  moments = v.moments + 1;
}

-- these bytes are the record of a call of NFS under the next xid, of this procedure and with these arguments
pub record IsRecordOf (v : View) (proc : ℕ) (args bytes : List ℕ) : Type 0 where
  pub is : bytes ≡ call_bytes v.calls.cred (next_xid v.calls) NFS_PROGRAM proc args
  pub spelled : SpellsCallHead (call_head (next_xid v.calls) NFS_PROGRAM proc) args (call_bytes v.calls.cred (next_xid v.calls) NFS_PROGRAM proc args)

-- the same with the arguments of a call
pub record SpellsCall (v : View) (proc : ℕ) (call : Call) (bytes : List ℕ) : Type 0 where
  pub args : List ℕ
  pub spells : SpellsArguments call args
  pub of : IsRecordOf v proc args bytes

-- its record is that of a call of this procedure
pub record PutsCall (old : View) (purpose : Purpose) (args : List ℕ) (new : View) : Type 0 where
  pub spelled : SpellsCallHead (call_head (next_xid old.calls) NFS_PROGRAM purpose.proc) args
      (call_bytes old.calls.cred (next_xid old.calls) NFS_PROGRAM purpose.proc args)
  pub is : new ≡ put_view old purpose args

pub record Makes (old : View) (number : ℕ) (call : Call) (new : View) : Type 0 where
  pub args : List ℕ
  pub spellable : IsSpellable call
  pub spells : SpellsArguments call args
  pub spelled : SpellsCallHead (call_head (next_xid old.calls) NFS_PROGRAM (proc_of call)) args (record_of old call args)
  pub may : check_of old.calls ≡ Ok tt
  pub is : new ≡ put_view old (record { lane = number; proc = proc_of call; sent = turn_at old }) args

-- Why a call isn't made: as many as may be were made, or there is no memory.
abbrev pub IsSpent : View → Fault → Type 0
IsSpent old fault = (fault ≡ faults.Spent) × (check_of old.calls ≡ Err refusals.Spent)

abbrev pub IsUnmade : View → Fault → Type 0
IsUnmade old faults.Spent = check_of old.calls ≡ Err refusals.Spent
IsUnmade old faults.Memory = check_of old.calls ≡ Ok tt
IsUnmade old fault = ⊥

-- the state that a refusal in place of the call leads to; no call is asked for then
abbrev pub IsRefused : Machine → Step → State → Type 0
IsRefused machine Wait state = state ≡ Busy machine
IsRefused machine (Done answer) state = state ≡ Over answer
IsRefused machine (Send call) state = ⊥

-- A call that isn't made reaches its machine as a refusal, in the same step.
pub record Refuses (old : View) (at number : ℕ) (machine : Machine) (new : View) : Type 0 where
  pub fault : Fault
  pub next : Step
  pub after : Machine
  pub left : Shelf
  pub state : State
  pub unmade : IsUnmade old fault
  pub takes : Takes old.wsize machine (turn_at old) (unmade_turn old) (Err fault) old.shelf next after left
  pub leads : IsRefused after next state
  pub is : new ≡ with_state old at number state left

-- the lane at a place has its answer
pub record EndsAs (old : View) (at : ℕ) (answer : Answer) (new : View) : Type 0 where
  pub number : ℕ
  pub state : State
  pub there : slice_get old.lanes at ≡ Some (record { number = number; state = state })
  pub is : new ≡ with_state old at number (Over answer) old.shelf

abbrev pub Asks : View → ℕ → ℕ → Machine → Call → View → Type 0
Asks old at number machine call new = Makes old number call new ⊎ Refuses old at number machine new

abbrev pub Leads : View → ℕ → ℕ → Machine → Step → View → Type 0
Leads old at number machine (Send call) new = Asks old at number machine call new
Leads old at number machine Wait new = new ≡ old
Leads old at number machine (Done answer) new = new ≡ with_state old at number (Over answer) old.shelf

-- ---- lanes go on

-- the lane at a place, whose operation is under way, goes on
pub record Stirs (old : View) (at : ℕ) (new : View) : Type 0 where
  pub number : ℕ
  pub machine : Machine
  pub there : IsBusyAt old at number machine
  pub next : Step
  pub after : Machine
  pub shelf : Shelf
  pub resumes : Resumes old.wsize machine (turn_at old) old.shelf next after shelf
  pub goes : next ≡ Wait → ⊥
  pub leads : Leads (with_state old at number (Busy after) shelf) at number after next new

-- the lane at a place waits, if its operation is under way
abbrev pub Rests : View → ℕ → Type 0
Rests v at = (number : ℕ) (machine : Machine) → IsBusyAt v at number machine → Resumes v.wsize machine (turn_at v) v.shelf Wait machine v.shelf

abbrev pub StirsIf : View → ℕ → Bool → View → Type 0
StirsIf old at true new = Stirs old at new
StirsIf old at false new = (new ≡ old) × Rests old at

abbrev pub StirsOne : View → Bool → View → Type 0
StirsOne old true new = (at : ℕ) × Stirs old at new × ((k : ℕ) → k < at → Rests old k)
StirsOne old false new = (new ≡ old) × ((at : ℕ) → Rests old at)

-- lanes go on, one after the other: each time the first that can, while a call may be made
pub data Moves : View → View → Type 0 where
  moves_none : (old new : View) → new ≡ old → Moves old new
  moves_more : (old mid new : View) (at : ℕ) → Moves old mid → has_room mid ≡ true → Stirs mid at new → ((k : ℕ) → k < at → Rests mid k) → Moves old new

-- none can go on, or no further call may wait
abbrev pub Still : View → Type 0
Still v = (has_room v ≡ false) ⊎ ((at : ℕ) → Rests v at)

-- ---- beginning

-- the operation is counted, has its moment, and the clock was read
abbrev pub counted : View → ℕ → View
counted v now = record v { clock = max v.clock now; moments = v.moments + 1; begun = v.begun + 1 }

-- the operation of a new lane, the last, makes its first step
pub record StartsLane (old : View) (number : ℕ) (machine : Machine) (new : View) : Type 0 where
  pub next : Step
  pub after : Machine
  pub shelf : Shelf
  pub starts : Starts old.wsize machine (turn_at old) old.shelf next after shelf
  pub leads : Leads (record old { lanes = old.lanes ++ record { number = number; state = Busy after } ∷ []; shelf = shelf }) (length old.lanes) number
      after next new

pub record BeginsNow (old : View) (number : ℕ) (machine : Machine) (now : ℕ) (new : View) : Type 0 where
  pub first : View
  pub own : StartsLane (counted old now) number machine first
  pub rest : Moves first new
  pub still : Still new

abbrev pub BeginsIf : Bool → View → ℕ → Machine → ℕ → View → Type 0
BeginsIf true old number machine now new =
    new ≡ record (counted old now) { lanes = old.lanes ++ record { number = number; state = Over (answers.Refused faults.Lost) } ∷ [] }
BeginsIf false old number machine now new = BeginsNow old number machine now new

-- an operation begins: it makes its first step, and then the others go on
abbrev pub Begins : View → ℕ → Machine → ℕ → View → Type 0
Begins old number machine now new = BeginsIf old.lost old number machine now new

-- ---- records

-- the call waits no more
abbrev pub taken : View → List ℕ → View
taken v rec = record v { calls = record v.calls { calls = after_taking (xid_at rec) v.calls.calls }; moments = v.moments + 1 }

-- the operation of the lane at a place takes what came of a call
pub record TakesAt (old : View) (at : ℕ) (sent : Turn) (came : Result Reply Fault) (new : View) : Type 0 where
  pub number : ℕ
  pub machine : Machine
  pub there : IsBusyAt old at number machine
  pub next : Step
  pub after : Machine
  pub shelf : Shelf
  pub takes : Takes old.wsize machine sent (turn_at old) came old.shelf next after shelf
  pub leads : Leads (with_state old at number (Busy after) shelf) at number after next new

-- The operation that made the call takes it. If it has its answer, nothing happens.
abbrev pub HearsOwn : View → List ℕ → Purpose → View → Type 0
HearsOwn old rec purpose new =
    MatchOption (position (is_busy purpose.lane) old.lanes) (new ≡ old) (λ at. TakesAt old at purpose.sent (said_of purpose.proc rec) new)

-- what is read from the record is what it says of each call of the procedure that has its xid
abbrev pub IsSaid : ℕ → List ℕ → Type 0
IsSaid proc rec = (x : ℕ) → HasXid rec x → (call : Call) → IsCallOf proc call → Says x call rec (said_of proc rec)

-- It makes the first step, and then the others go on.
pub record HearsFor (old : View) (rec : List ℕ) (purpose : Purpose) (new : View) : Type 0 where
  pub says : IsSaid purpose.proc rec
  pub first : View
  pub own : HearsOwn old rec purpose first
  pub rest : Moves first new
  pub still : Still new

-- A record that no call waits for changes nothing. Else its call waits no more, and goes to its operation.
abbrev pub Hears : View → List ℕ → Bool → View → Type 0
Hears old rec result new =
    MatchOption (awaited (xid_at rec) old.calls.calls) ((result ≡ false) × (new ≡ old))
    (λ call. (result ≡ true) × HearsFor (taken old rec) rec call.purpose new)

-- each call that waits was sent at least once
abbrev pub WereSent : List (ℕ × Waiting Purpose) → Type 0
WereSent calls = All (λ e. 1 ≤ e.1.attempts) calls

-- the call that a record replies to waits no more
pub record TakesOne (old : View) (rec : List ℕ) (purpose : Purpose) (new : View) : Type 0 where
  pub call : Waiting Purpose
  pub waits : awaited (xid_at rec) old.calls.calls ≡ Some call
  pub purpose_is : purpose ≡ call.purpose
  pub is : new ≡ taken old rec

abbrev pub TakesCall : View → List ℕ → Option Purpose → View → Type 0
TakesCall old rec None new = (awaited (xid_at rec) old.calls.calls ≡ None) × (new ≡ old)
TakesCall old rec (Some purpose) new = TakesOne old rec purpose new

-- ---- the rest

pub record Gives (old : View) (result : Option (List ℕ)) (new : View) : Type 0 where
  pub gives : result ≡ option_map (λ e. e.1.bytes) (first_due old.calls.calls)
  pub is : new ≡ record old { calls = record old.calls { calls = sent old.calls.calls } }

abbrev pub SendsIf : Bool → View → Option (List ℕ) → View → Type 0
SendsIf true old result new = (result ≡ None) × (new ≡ old)
SendsIf false old result new = Gives old result new

-- the oldest call that is due is sent; none in a lost session
abbrev pub SendsBy : View → Option (List ℕ) → View → Type 0
SendsBy old result new = SendsIf old.lost old result new

-- the call that is sent, of which one more attempt runs then; none in a lost session
abbrev pub call_sent : View → Option (Waiting Purpose)
call_sent v = if v.lost then None else option_map (λ e. sent_call e.1) (first_due v.calls.calls)

abbrev pub lost : View → View
lost v = record v { lanes = map lost_lane v.lanes; lost = true }

abbrev pub failed_view : View → View
failed_view v = record v { calls = record v.calls { calls = after_failure v.calls.calls } }

abbrev pub FailsAs : Option ℕ → View → Bool → View → Type 0
FailsAs None old result new = (result ≡ true) × (new ≡ failed_view old)
FailsAs (Some xid) old result new = (result ≡ false) × (new ≡ lost (failed_view old))

-- the attempts that run have ended; if a call is given up the session is lost
abbrev pub FailsBy : View → Bool → View → Type 0
FailsBy old result new = FailsAs (first_given_up old.calls.calls) old result new

pub record AnswersAt (old : View) (at number : ℕ) (result : Option Answer) (new : View) : Type 0 where
  pub answer : Answer
  pub there : slice_get old.lanes at ≡ Some (record { number = number; state = Over answer })
  pub gives : result ≡ Some answer
  pub is : new ≡ record old { lanes = remove old.lanes at }

abbrev pub AnswersBy : View → ℕ → Option Answer → View → Type 0
AnswersBy old number result new = MatchOption (position (is_over number) old.lanes) ((result ≡ None) × (new ≡ old)) (λ at. AnswersAt old at number result new)
