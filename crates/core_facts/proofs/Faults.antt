-- What holds of the faults that operations give: of a fault, of what gave it, of an answer, and of a step.
use Rattle.core_facts.proofs.Prelude.{◌≡◌, ℕ, Bool, true, false, Option, Some, None, Result, Ok, Err, sym, subst, if◌then◌else◌, Answer, Fault, Call, Reply, Step}
use Rattle.nfs_dir_calls.specs.declared.keeping.DirKept.TheVariants as found
use Rattle.nfs_file_calls.specs.declared.owned.FileKept.TheVariants as kept
use Rattle.world_model.specs.declared.answer.Answer.TheVariants as answers
use Rattle.world_model.specs.declared.answer.Fault.TheVariants as faults
use Rattle.world_model.specs.declared.message.Reply.TheVariants as replies
use Rattle.client_shelf.specs.declared.step.Step.TheVariants as nexts

-- that the link is lost is none of them
abbrev pub NotLost : Fault → Type 0
NotLost faults.Lost = ⊥
NotLost (faults.Nfs status) = Unit {0}
NotLost (faults.Rpc n) = Unit {0}
NotLost (faults.Bad rule) = Unit {0}
NotLost faults.Spent = Unit {0}
NotLost faults.Slot = Unit {0}
NotLost faults.Mode = Unit {0}
NotLost faults.Kind = Unit {0}
NotLost faults.Many = Unit {0}
NotLost faults.Memory = Unit {0}

-- what may come of a call: no operation's own fault
abbrev pub IsOuter : Fault → Type 0
IsOuter faults.Lost = ⊥
IsOuter (faults.Nfs status) = Unit {0}
IsOuter (faults.Rpc n) = Unit {0}
IsOuter (faults.Bad rule) = Unit {0}
IsOuter faults.Spent = Unit {0}
IsOuter faults.Slot = ⊥
IsOuter faults.Mode = ⊥
IsOuter faults.Kind = ⊥
IsOuter faults.Many = ⊥
IsOuter faults.Memory = Unit {0}

-- P holds of the faults that an operation gives by itself, other than that it finds no place in its slots, or no right.
pub record OwnFaults (P : Fault → Type 0) : Type 0 where
  pub kind : P faults.Kind
  pub many : P faults.Many
  pub memory : P faults.Memory
  pub bad : (rule : ℕ) → P (faults.Bad rule)

module _ (P : Fault → Type 0) where
  -- P holds of the fault of a reply that fails
  abbrev pub OfReply : Reply → Type 0
  OfReply (replies.Dir (found.LookupFail status dir)) = P (faults.Nfs status.0)
  OfReply (replies.Dir (found.ReadLinkFail status attr)) = P (faults.Nfs status.0)
  OfReply (replies.Dir (found.CreateFail status wcc)) = P (faults.Nfs status.0)
  OfReply (replies.Dir (found.MkDirFail status wcc)) = P (faults.Nfs status.0)
  OfReply (replies.Dir (found.SymLinkFail status wcc)) = P (faults.Nfs status.0)
  OfReply (replies.Dir (found.RemoveFail status wcc)) = P (faults.Nfs status.0)
  OfReply (replies.Dir (found.RmDirFail status wcc)) = P (faults.Nfs status.0)
  OfReply (replies.Dir (found.RenameFail status source target)) = P (faults.Nfs status.0)
  OfReply (replies.Dir (found.LinkFail status attr wcc)) = P (faults.Nfs status.0)
  OfReply (replies.Dir (found.ReadDirPlusFail status attr)) = P (faults.Nfs status.0)
  OfReply (replies.File (kept.GetAttrFail status)) = P (faults.Nfs status.0)
  OfReply (replies.File (kept.SetAttrFail status wcc)) = P (faults.Nfs status.0)
  OfReply (replies.File (kept.AccessFail status attr)) = P (faults.Nfs status.0)
  OfReply (replies.File (kept.ReadFail status attr)) = P (faults.Nfs status.0)
  OfReply (replies.File (kept.WriteFail status wcc)) = P (faults.Nfs status.0)
  OfReply (replies.File (kept.CommitFail status wcc)) = P (faults.Nfs status.0)
  OfReply reply = Unit {0}

  -- and of that in place of a reply
  abbrev pub Came : Result Reply Fault → Type 0
  Came (Ok reply) = OfReply reply
  Came (Err fault) = P fault

  abbrev pub FineResult : {T : Type 0} → Result T Fault → Type 0
  FineResult (Ok x) = Unit {0}
  FineResult (Err fault) = P fault

  abbrev pub FineOption : Option Fault → Type 0
  FineOption None = Unit {0}
  FineOption (Some fault) = P fault

  abbrev pub FineAnswer : Answer → Type 0
  FineAnswer (answers.Done value) = Unit {0}
  FineAnswer (answers.Refused fault) = P fault

  abbrev pub FineNext : Step → Type 0
  FineNext (nexts.Send call) = Unit {0}
  FineNext nexts.Wait = Unit {0}
  FineNext (nexts.Done answer) = FineAnswer answer

  pub fine-as : (to next : Step) → next ≡ to → FineNext to → FineNext next
  fine-as to next is f = subst FineNext (sym is) f

  -- the fault is this one
  pub fine-fault : (a b : Fault) → a ≡ b → P b → P a
  fine-fault a b is f = subst P (sym is) f

  pub fine-some : (fault : Fault) (o : Option Fault) → o ≡ Some fault → P fault → FineOption o
  fine-some fault o is f = subst FineOption (sym is) f

  -- the call is made again, or the answer is there
  pub again-fine : (again : Bool) (call : Call) (answer : Answer) (next : Step) → next ≡ (if again then nexts.Send call else nexts.Done answer) → FineAnswer answer → FineNext next
  again-fine true call answer next is f = fine-as (nexts.Send call) next is tt
  again-fine false call answer next is f = fine-as (nexts.Done answer) next is f

  -- a call or nothing
  pub call-or-wait : (b : Bool) (call : Call) → FineNext (if b then nexts.Send call else nexts.Wait)
  call-or-wait true call = tt
  call-or-wait false call = tt
