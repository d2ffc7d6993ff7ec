-- Without room a save asks for no call.
use Rattle.std.proofs.Common.{◌≡◌, ◌==◌, ℕ, Bool, true, false, List, Option, Some, None, Result, Ok, Err, refl, sym, subst, ◌∙◌, inl, inr}
use Rattle.std.specs.Prelude.{if◌then◌else◌}
use Rattle.nfs_types.specs.declared.verf.Verf.{Verf}
use Rattle.world_model.specs.declared.answer.Fault.{Fault}
use Rattle.world_model.specs.declared.answer.Fault.TheVariants as faults
use Rattle.world_model.specs.declared.message.Call.{Call}
use Rattle.world_model.specs.declared.message.Reply.{Reply}
use Rattle.write_back.specs.Changes.{lost}
use Rattle.write_back.specs.Files.{Pending, of_file}
use Rattle.commit_verf.specs.declared.commit.Verdict.{Verdict}
use Rattle.commit_verf.specs.declared.commit.Verdict.TheVariants.{AllStable, SendAgain}
use Rattle.commit_verf.specs.Decisions.{verdict_of}
use Rattle.client_shelf.specs.declared.repeats.Repeat.{Repeat}
use Rattle.client_shelf.specs.declared.turn.Turn.{Turn}
use Rattle.client_shelf.specs.Busy.{fails_busy, goes_again}
use Rattle.file_ops.specs.declared.judging.WriteTold.{WriteTold}
use Rattle.file_ops.specs.declared.judging.WriteTold.TheVariants.{Fails}
use Rattle.file_ops.specs.declared.saving.Saving.{Saving}
use Rattle.file_ops.specs.declared.saving.Phase.{Phase}
use Rattle.file_ops.specs.declared.saving.Phase.TheVariants.{Sending, Committing, Resending, CommittingAgain}
use Rattle.file_ops.specs.declared.saving.SavingStep.{SavingStep}
use Rattle.file_ops.specs.declared.saving.SavingStep.TheVariants.{Send, Wait, Ended}
use Rattle.file_ops.specs.Judging.{commit_told}
use Rattle.file_ops.specs.Saves as saves
use Rattle.file_ops.proofs.Unsent.{NoCall}
use Rattle.file_ops.proofs.Walks.{Left, Carries, CarriesReply, again-room}

-- a step that asks for no call, over what it leaves
pub left-quiet : (P : Pending → Type 0) (M : Saving → Pending → Type 0) (Q : Call → Type 0) (next : SavingStep) (new : Saving) (after : Pending) → NoCall next
    → P after → Left P M Q next new after
left-quiet P M Q (Send call) new after none p = absurd (none call refl)
left-quiet P M Q Wait new after none p = p
left-quiet P M Q (Ended result) new after none p = p

pub waits-quiet : (next : SavingStep) → next ≡ Wait → NoCall next
waits-quiet next is call asks = let no-way : Wait ≡ Send call = sym is ∙ asks in absurd cc

pub ended-quiet : (result : Result (Unit {0}) Fault) (next : SavingStep) → next ≡ Ended result → NoCall next
ended-quiet result next is call asks = let no-way : Ended result ≡ Send call = sym is ∙ asks in absurd cc

pub refused-quiet : (waiting : ℕ) (fault : Fault) (next : SavingStep) → next ≡ saves.refused_next waiting fault → NoCall next
refused-quiet waiting fault next is = by (waiting == 0) is
  where
    by : (b : Bool) → next ≡ (if b then Ended (Err fault) else Wait) → NoCall next
    by true is = ended-quiet (Err fault) next is
    by false is = waits-quiet next is

pub goes-quiet : (wsize xid : ℕ) (room by_reply : Bool) (s : Saving) (back : Pending) (next : SavingStep) (new : Saving) (after : Pending) → room ≡ false
    → saves.Goes wsize xid room by_reply s back next new after → NoCall next
goes-quiet wsize xid room by_reply s back next new after none goes =
    over s.refusal (subst (λ (b : Bool). saves.Goes wsize xid b by_reply s back next new after) none goes)
  where
    over : (r : Option Fault) → saves.GoesOver r wsize xid false by_reply s back next new after → NoCall next
    over (Some fault) g = refused-quiet s.waiting fault next g.0.gives_next
    over None g = waits-quiet next g.0.gives_next

write-quiet : (wsize asked xid : ℕ) (room : Bool) (told : WriteTold) (s : Saving) (back : Pending) (next : SavingStep) (new : Saving) (after : Pending)
    → room ≡ false → saves.TakesWrite wsize asked xid room told s back next new after → NoCall next
write-quiet wsize asked xid room told s back next new after none t =
    goes-quiet wsize xid room t.counts (saves.refused_by t.refusal s) t.between next new after none t.goes

decides-quiet : (verdict : Verdict) (wsize xid : ℕ) (room : Bool) (s : Saving) (back : Pending) (next : SavingStep) (new : Saving) (after : Pending)
    → room ≡ false → saves.Decides verdict wsize xid room s back next new after → NoCall next
decides-quiet AllStable wsize xid room s back next new after none d = ended-quiet (Ok tt) next d.0.gives_next
decides-quiet (SendAgain count) wsize xid room s back next new after none d =
    goes-quiet wsize xid room false (record s { phase = Resending }) back next new after none d

commit-quiet : (told : Result Verf Fault) (wsize xid : ℕ) (room : Bool) (s : Saving) (back : Pending) (next : SavingStep) (new : Saving) (after : Pending)
    → room ≡ false → saves.TakesCommit wsize xid room told s back next new after → NoCall next
commit-quiet (Err fault) wsize xid room s back next new after none t = ended-quiet (Err fault) next t.0.gives_next
commit-quiet (Ok verf) wsize xid room s back next new after none t =
    decides-quiet (verdict_of (lost verf s.upto (of_file s.file back).segments)) wsize xid room s t.between next new after none t.goes

-- a call isn't made again
pub never : (busy : Bool) (sent turn : Turn) (repeats : List Repeat) → turn.room ≡ false → goes_again busy sent turn repeats ≡ true → ⊥
never busy sent turn repeats none again = let wrong : false ≡ true = sym none ∙ again-room busy sent turn repeats again in absurd cc

told-quiet : (wsize : ℕ) (sent turn : Turn) (told : WriteTold) (repeats : List Repeat) (s : Saving) (back : Pending) (next : SavingStep) (new : Saving)
    (after : Pending) (later : List Repeat)
    → turn.room ≡ false → saves.TakesTold wsize sent turn told repeats s back next new after later → NoCall next
told-quiet wsize sent turn told repeats s back next new after later none t = by (saves.may_again (saves.told_busy told) s) t
  where
    again : (b : Bool) → goes_again true sent turn repeats ≡ b → saves.RepeatsWrite b wsize sent turn told s back next new after → NoCall next
    again true h r = absurd (never true sent turn repeats none h)
    again false h r = write-quiet wsize sent.xid turn.xid turn.room told (saves.less_waiting s) back next new after none r

    by : (b : Bool) → saves.TakesToldIf b wsize sent turn told repeats s back next new after later → NoCall next
    by true (inl g) = again (goes_again true sent turn repeats) refl g.0
    by true (inr g) = write-quiet wsize sent.xid turn.xid turn.room (Fails faults.Memory) (saves.less_waiting s) back next new after none g.0
    by false g = write-quiet wsize sent.xid turn.xid turn.room told (saves.less_waiting s) back next new after none g.0

first-quiet : (again : Bool) (told : Result Verf Fault) (wsize : ℕ) (turn : Turn) (s : Saving) (back : Pending) (next : SavingStep) (new : Saving)
    (after : Pending)
    → turn.room ≡ false → (again ≡ true → ⊥) → saves.TakesFirst again wsize turn told s back next new after → NoCall next
first-quiet true told wsize turn s back next new after none no_more t = absurd (no_more refl)
first-quiet false told wsize turn s back next new after none no_more t =
    commit-quiet told wsize turn.xid turn.room (saves.less_waiting s) back next new after none t

last-quiet : (again : Bool) (told : Result Verf Fault) (s : Saving) (next : SavingStep) → (again ≡ true → ⊥) → next ≡ saves.last_next again told s → NoCall next
last-quiet true told s next no_more is = absurd (no_more refl)
last-quiet false (Ok verf) s next no_more is = ended-quiet (Ok tt) next is
last-quiet false (Err fault) s next no_more is = ended-quiet (Err fault) next is

pub takes-quiet : (wsize : ℕ) (sent turn : Turn) (came : Result Reply Fault) (repeats : List Repeat) (s : Saving) (back : Pending) (next : SavingStep)
    (new : Saving) (after : Pending) (later : List Repeat)
    → turn.room ≡ false → saves.Takes wsize sent turn came repeats s back next new after later → NoCall next
takes-quiet wsize sent turn came repeats s back next new after later none takes = by s.phase takes
  where
    no_more : saves.commit_again (commit_told came) sent turn repeats s ≡ true → ⊥
    no_more = never (saves.may_commit (commit_told came) s) sent turn repeats none

    by : (p : Phase) → saves.TakesIn p wsize sent turn came repeats s back next new after later → NoCall next
    by Sending t = told-quiet wsize sent turn (saves.told_of sent.xid s.file back came) repeats s back next new after later none t
    by Resending t = told-quiet wsize sent turn (saves.told_of sent.xid s.file back came) repeats s back next new after later none t
    by Committing t = first-quiet (saves.commit_again (commit_told came) sent turn repeats s) (commit_told came) wsize turn s back next new after none no_more
        t.0
    by CommittingAgain t = last-quiet (saves.commit_again (commit_told came) sent turn repeats s) (commit_told came) s next no_more t.0.gives_next

-- ---- as it is carried through the steps of the machines

abbrev pub Anything : Pending → Type 0
Anything back = Unit {0}

abbrev pub AnySave : Saving → Pending → Type 0
AnySave saving back = Unit {0}

abbrev pub NoneOf : Call → Type 0
NoneOf call = ⊥

pub carries-quiet : (wsize : ℕ) (turn : Turn) → turn.room ≡ false → Carries wsize turn Anything AnySave NoneOf
carries-quiet wsize turn none = record {
  goes = λ by_reply s back next new after g p. left-quiet Anything AnySave NoneOf next new after
      (goes-quiet wsize turn.xid turn.room by_reply s back next new after none g) tt;
  pieces = λ old new same p. tt;
  plain = λ call room spells. let wrong : false ≡ true = sym none ∙ room in absurd cc;
}

pub replies-quiet : (wsize : ℕ) (sent turn : Turn) (came : Result Reply Fault) → turn.room ≡ false
    → CarriesReply wsize sent turn came Anything AnySave AnySave NoneOf
replies-quiet wsize sent turn came none = record {
  takes = λ repeats s back next new after later t p. left-quiet Anything AnySave NoneOf next new after
      (takes-quiet wsize sent turn came repeats s back next new after later none t) tt;
}
