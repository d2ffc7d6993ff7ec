-- What holds after the step of an operation, before what it leads to.
use Rattle.std.proofs.Common.{◌≡◌, ◌≢◌, ◌+◌, ◌≤◌, ◌<◌, ℕ, List, [], ◌∷◌, ◌++◌, length, Bool, true, false, Option, Some, None, All, slice_get, slice_set, Result, refl, sym, ap, subst, ◌∙◌, arith}
use Rattle.std.proofs.lemmas.List.Elements.{All-set, All-push}
use Rattle.rpc_retry.specs.Held.{next_xid}
use Rattle.world_model.specs.declared.answer.Fault.{Fault}
use Rattle.world_model.specs.declared.message.Call.{Call}
use Rattle.world_model.specs.declared.message.Reply.{Reply}
use Rattle.client_shelf.specs.declared.step.Step.{Step}
use Rattle.client_shelf.specs.declared.step.Step.TheVariants.{Send, Wait, Done}
use Rattle.client_shelf.specs.declared.shelf.Shelf.{Shelf}
use Rattle.client_shelf.specs.declared.turn.Turn.{Turn}
use Rattle.client_shelf.specs.Spelling.{AreSpellable}
use Rattle.file_ops.specs.Ready.{IsReady}
use Rattle.op_machines.specs.declared.machine.Machine.{Machine}
use Rattle.op_machines.specs.Fits.{Fits}
use Rattle.op_machines.specs.Laws.{AsksNothing, AsksSpellable, LeavesNothing}
use Rattle.op_machines.specs.Steps.{Starts, Resumes, Takes}
use Rattle.client_core.specs.declared.lane.Lane.{Lane}
use Rattle.client_core.specs.declared.lane.State.{State}
use Rattle.client_core.specs.declared.lane.State.TheVariants.{Busy, Over}
use Rattle.client_core.specs.Lanes.{LaneFits, StateResumes, StateTakes}
use Rattle.client_core.specs.View.{View, has_room, turn_at, IsBound, IsSound}
use Rattle.client_core.specs.Between.{Awaits, AwaitsCall, AwaitsRefusal}
use Rattle.client_core.specs.StepLaws.{StepLaws}
use Rattle.client_core.specs.Steps.{IsBusyAt, with_state}
use Rattle.client_core.specs.Numbers.{AreLanes, IsIdle}
use Rattle.client_core.proofs.Numbers.{pushed-lanes, set-lanes}
use Rattle.client_core.proofs.Places.{at-last, at-set, all-at, same-machine}

step-awaits : (v : View) (lanes : List Lane) (at number : ℕ) (next : Step) (after : Machine) (shelf : Shelf)
    → IsSound v → AreLanes lanes → All LaneFits lanes → slice_get lanes at ≡ Some (record { number = number; state = Busy after })
    → shelf.seq ≤ v.moments → AreSpellable shelf.back × AsksSpellable next → IsReady (next_xid v.calls + 1) shelf.seq shelf.back
    → (AsksNothing next → IsReady (next_xid v.calls) shelf.seq shelf.back) → (has_room v ≡ false → AsksNothing next)
    → ((call : Call) → next ≡ Send call → LeavesNothing v.wsize (turn_at v) after shelf)
    → Awaits (record v { lanes = lanes; shelf = shelf }) at next
step-awaits v lanes at number next after shelf s few fits there seq spells ready unsent roomless unmade = by next refl
  where
    bound : IsBound (record v { lanes = lanes; shelf = shelf })
    bound = record { size = s.bound.size; most = s.bound.most; spells = spells.0; seq = seq; moments = s.bound.moments; begun = s.bound.begun; lanes = few; fits = fits }

    sound : AsksNothing next → IsSound (record v { lanes = lanes; shelf = shelf })
    sound none = record { bound = bound; ready = unsent none }

    room : (call : Call) → next ≡ Send call → (b : Bool) → has_room v ≡ b → has_room v ≡ true
    room call is true h = h
    room call is false h = absurd (roomless h call is)

    by : (n : Step) → next ≡ n → Awaits (record v { lanes = lanes; shelf = shelf }) at n
    by (Send call) is = record {
      room = room call is (has_room v) refl;
      spells = spells.1 call is;
      refusal = record {
        bound = bound;
        ready = ready;
        unmade = λ other machine here. subst (λ (m : Machine). LeavesNothing v.wsize (turn_at v) m shelf) (same-machine lanes at number other after machine there here) (unmade call is);
      };
    }
    by Wait is = sound (λ call sends. absurd (let no-way : Wait ≡ Send call = sym is ∙ sends in cc))
    by (Done answer) is = sound (λ call sends. absurd (let no-way : Done answer ≡ Send call = sym is ∙ sends in cc))

-- a new operation made its first step
pub started : (laws : StepLaws) (v : View) (number : ℕ) (machine after : Machine) (next : Step) (shelf : Shelf)
    → IsSound v → v.shelf.seq < v.moments → IsIdle number v.lanes → Fits machine → Starts v.wsize machine (turn_at v) v.shelf next after shelf
    → Awaits (record v { lanes = v.lanes ++ record { number = number; state = Busy after } ∷ []; shelf = shelf }) (length v.lanes) next
started laws v number machine after next shelf s seq idle fits starts =
    step-awaits v (v.lanes ++ record { number = number; state = Busy after } ∷ []) (length v.lanes) number next after shelf s
    (pushed-lanes v.lanes number (Busy after) idle s.bound.lanes)
    (All-push LaneFits v.lanes (record { number = number; state = Busy after }) s.bound.fits (laws.starts_fit v.wsize machine (turn_at v) v.shelf next after shelf starts fits))
    (at-last v.lanes (record { number = number; state = Busy after }))
    (let given = laws.starts_number v.wsize machine (turn_at v) v.shelf next after shelf starts in omega (arith, given, seq))
    (laws.starts_spellable v.wsize machine (turn_at v) v.shelf next after shelf s.bound.most fits starts s.bound.spells)
    (laws.starts_ready v.wsize machine (turn_at v) v.shelf next after shelf starts s.ready)
    (λ none. laws.starts_unsent v.wsize machine (turn_at v) v.shelf next after shelf starts (next_xid v.calls) none s.ready)
    (λ full. laws.starts_roomless v.wsize machine (turn_at v) v.shelf next after shelf full starts)
    (λ call is. laws.starts_unmade v.wsize machine (turn_at v) v.shelf call after shelf (subst (λ (n : Step). Starts v.wsize machine (turn_at v) v.shelf n after shelf) is starts) s.ready)

fitting : (v : View) (at number : ℕ) (machine : Machine) → IsSound v → IsBusyAt v at number machine → Fits machine
fitting v at number machine s there = all-at LaneFits v.lanes at (record { number = number; state = Busy machine }) s.bound.fits there

-- an operation went on
pub resumed : (laws : StepLaws) (v : View) (at number : ℕ) (machine after : Machine) (next : Step) (shelf : Shelf)
    → IsSound v → IsBusyAt v at number machine → Resumes v.wsize machine (turn_at v) v.shelf next after shelf
    → Awaits (with_state v at number (Busy after) shelf) at next
resumed laws v at number machine after next shelf s there resumes =
    step-awaits v (slice_set v.lanes at (record { number = number; state = Busy after })) at number next after shelf s
    (set-lanes v.lanes at number (Busy machine) (Busy after) there s.bound.lanes)
    (All-set LaneFits v.lanes at (record { number = number; state = Busy after }) (laws.resumes_fit v.wsize machine (turn_at v) v.shelf next after shelf resumes (fitting v at number machine s there)) s.bound.fits)
    (at-set v.lanes at (record { number = number; state = Busy machine }) (record { number = number; state = Busy after }) there)
    (let same = laws.resumes_number v.wsize machine (turn_at v) v.shelf next after shelf resumes in let few = s.bound.seq in omega (arith, same, few))
    (laws.resumes_spellable v.wsize machine (turn_at v) v.shelf next after shelf s.bound.most (fitting v at number machine s there) resumes s.bound.spells)
    (laws.resumes_ready v.wsize machine (turn_at v) v.shelf next after shelf resumes s.ready)
    (λ none. laws.resumes_unsent v.wsize machine (turn_at v) v.shelf next after shelf resumes (next_xid v.calls) none s.ready)
    (λ full. laws.resumes_roomless v.wsize machine (turn_at v) v.shelf next after shelf full resumes)
    (λ call is. laws.resumes_unmade v.wsize machine (turn_at v) v.shelf call after shelf (subst (λ (n : Step). Resumes v.wsize machine (turn_at v) v.shelf n after shelf) is resumes) s.ready)

-- an operation took what came of its call
pub took : (laws : StepLaws) (v : View) (at number : ℕ) (machine after : Machine) (sent : Turn) (came : Result Reply Fault) (next : Step) (shelf : Shelf)
    → IsSound v → v.shelf.seq < v.moments → IsBusyAt v at number machine → Takes v.wsize machine sent (turn_at v) came v.shelf next after shelf
    → Awaits (with_state v at number (Busy after) shelf) at next
took laws v at number machine after sent came next shelf s seq there takes =
    step-awaits v (slice_set v.lanes at (record { number = number; state = Busy after })) at number next after shelf s
    (set-lanes v.lanes at number (Busy machine) (Busy after) there s.bound.lanes)
    (All-set LaneFits v.lanes at (record { number = number; state = Busy after }) (laws.takes_fit v.wsize machine sent (turn_at v) came v.shelf next after shelf takes (fitting v at number machine s there)) s.bound.fits)
    (at-set v.lanes at (record { number = number; state = Busy machine }) (record { number = number; state = Busy after }) there)
    (let given = laws.takes_number v.wsize machine sent (turn_at v) came v.shelf next after shelf takes in omega (arith, given, seq))
    (laws.takes_spellable v.wsize machine sent (turn_at v) came v.shelf next after shelf s.bound.most (fitting v at number machine s there) takes s.bound.spells)
    (laws.takes_ready v.wsize machine sent (turn_at v) came v.shelf next after shelf takes s.ready)
    (λ none. laws.takes_unsent v.wsize machine sent (turn_at v) came v.shelf next after shelf takes (next_xid v.calls) none s.ready)
    (λ full. laws.takes_roomless v.wsize machine sent (turn_at v) came v.shelf next after shelf full takes)
    (λ call is. laws.takes_unmade v.wsize machine sent (turn_at v) came v.shelf call after shelf (subst (λ (n : Step). Takes v.wsize machine sent (turn_at v) came v.shelf n after shelf) is takes) s.ready)
