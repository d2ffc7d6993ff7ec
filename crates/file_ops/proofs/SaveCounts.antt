-- How many calls of a save wait after each of its steps.
use Rattle.std.proofs.Common.{◌≡◌, ◌+◌, ◌-◌, ◌==◌, ◌&&◌, ℕ, zero, suc, Bool, true, false, List, [], ◌∷◌, Option, Some, None, Result, Ok, Err, inl, inr, refl, sym, ap, subst, ◌∙◌, arith}
use Rattle.std.specs.Prelude.{if◌then◌else◌, nat_lt}
use Rattle.std.proofs.lemmas.Bool.{eqb-true, ltb-false}
use Rattle.commit_verf.specs.declared.commit.Verdict.{Verdict}
use Rattle.commit_verf.specs.declared.commit.Verdict.TheVariants.{AllStable, SendAgain}
use Rattle.nfs_types.specs.declared.verf.Verf.{Verf}
use Rattle.world_model.specs.declared.answer.Fault.{Fault}
use Rattle.world_model.specs.declared.answer.Fault.TheVariants.{Memory}
use Rattle.world_model.specs.declared.message.Call.{Call}
use Rattle.world_model.specs.declared.message.Reply.{Reply}
use Rattle.client_shelf.specs.declared.repeats.Repeat.{Repeat}
use Rattle.client_shelf.specs.declared.turn.Turn.{Turn}
use Rattle.client_shelf.specs.Busy.{fails_busy, goes_again}
use Rattle.write_back.specs.Choice.{chosen, piece_of}
use Rattle.write_back.specs.Files.{Pending, of_file}
use Rattle.write_back.specs.Segments.{Segments}
use Rattle.file_ops.specs.declared.judging.WriteTold.{WriteTold}
use Rattle.file_ops.specs.declared.judging.WriteTold.TheVariants.{Fails}
use Rattle.file_ops.specs.declared.saving.Phase.{Phase}
use Rattle.file_ops.specs.declared.saving.Phase.TheVariants.{Sending, Committing, Resending, CommittingAgain}
use Rattle.file_ops.specs.declared.saving.Saving.{Saving}
use Rattle.file_ops.specs.declared.saving.SavingStep.{SavingStep}
use Rattle.file_ops.specs.declared.saving.SavingStep.TheVariants.{Send, Wait, Ended}
use Rattle.file_ops.specs.Judging.{commit_told}
use Rattle.file_ops.specs.Saves as saves

-- ---- what is counted

-- Several WRITEs of a save may wait, but one COMMIT alone.
abbrev pub saving_by : Bool → ℕ → ℕ
saving_by sending waiting = if sending then waiting else if waiting == 1 then 1 else 0

abbrev pub of_saving : Saving → ℕ
of_saving s = saving_by (saves.is_sending s.phase) s.waiting

-- What holds of each kind of step holds of each step.
pub by-step : (R : SavingStep → Type 0) → ((call : Call) → R (Send call)) → R Wait → ((result : Result (Unit {0}) Fault) → R (Ended result)) → (gives : SavingStep) → R gives
by-step R sends waits ends (Send call) = sends call
by-step R sends waits ends Wait = waits
by-step R sends waits ends (Ended result) = ends result

-- the step that ends with a result
abbrev pub ends_as : Result (Unit {0}) Fault → SavingStep
ends_as result = Ended result

-- What a step of a save, before which so many of its calls wait, leaves waiting; it ends only where none does.
abbrev pub SaveCounts : SavingStep → ℕ → ℕ → Type 0
SaveCounts (Send call) before after = after ≡ before + 1
SaveCounts Wait before after = after ≡ before
SaveCounts (Ended result) before after = (before ≡ 0) × (after ≡ 0)

-- ---- numbers

and-left : (a b : Bool) → (a && b) ≡ true → a ≡ true
and-left true b e = refl
and-left false b e = absurd cc

and-right : (a b : Bool) → (a && b) ≡ true → b ≡ true
and-right true b e = e
and-right false b e = absurd cc

none-waits : (b : Bool) (n : ℕ) → n ≡ 0 → saving_by b n ≡ 0
none-waits true n is = is
none-waits false n is = ap (λ (k : ℕ). if k == 1 then 1 else 0) is

one-waits : (b : Bool) → saving_by b 1 ≡ 1
one-waits true = refl
one-waits false = refl

while-sending : (b : Bool) (n : ℕ) → b ≡ true → saving_by b n ≡ n
while-sending true n is = refl
while-sending false n is = absurd cc

while-not : (b : Bool) (n : ℕ) → b ≡ false → saving_by b n ≡ (if n == 1 then 1 else 0)
while-not true n is = absurd cc
while-not false n is = refl

only-left : (b : Bool) (n others : ℕ) → (n == 1) ≡ b → (if b then 1 else 0) ≡ others + 1 → (others ≡ 0) × (n - 1 ≡ 0)
only-left true n others is one = let same = eqb-true n 1 is in (omega (arith, one), omega (arith, same))
only-left false n others is one = absurd (omega (arith, one))

-- ---- what a step leads to

leads-save : (to : SavingStep) (saved : Saving) (next : SavingStep) (new : Saving) (before : ℕ) → saves.Leads to saved next new
    → SaveCounts to before (of_saving saved) → SaveCounts next before (of_saving new)
leads-save to saved next new before l c =
    subst (λ (n : SavingStep). SaveCounts n before (of_saving new)) (sym l.gives_next) (subst (λ (s : Saving). SaveCounts to before (of_saving s)) (sym l.keeps) c)

refused-save : (s : Saving) (fault : Fault) (b : Bool) → (s.waiting == 0) ≡ b → SaveCounts (if b then Ended (Err fault) else Wait) (of_saving s) (of_saving s)
refused-save s fault true is = let none = none-waits (saves.is_sending s.phase) s.waiting (eqb-true s.waiting 0 is) in (none, none)
refused-save s fault false is = refl

sent-save : (by_reply : Bool) (s : Saving) (lt done : Bool) → nat_lt 0 s.waiting ≡ lt
    → SaveCounts (if lt then Wait else if done then Ended (Ok tt) else Send (saves.commit_of s.file)) (of_saving s)
    (of_saving (if lt then s else if done then s else record s { phase = saves.commit_phase s.phase; waiting = 1 }))
sent-save by_reply s true done is = refl
sent-save by_reply s false true is =
    let low = ltb-false 0 s.waiting is in
    let none = none-waits (saves.is_sending s.phase) s.waiting (omega (arith, low)) in
    (none, none)
sent-save by_reply s false false is =
    let low = ltb-false 0 s.waiting is in
    let none = none-waits (saves.is_sending s.phase) s.waiting (omega (arith, low)) in
    let one : of_saving (record s { phase = saves.commit_phase s.phase; waiting = 1 }) ≡ 1 = one-waits (saves.is_sending (saves.commit_phase s.phase)) in
    omega (arith, none, one)

-- ---- a step without a reply

module _ (wsize xid : ℕ) (room by_reply : Bool) where
  sends-save : (run : Segments) (s : Saving) (back : Pending) (next : SavingStep) (new : Saving) (after : Pending) → saves.is_sending s.phase ≡ true
      → saves.Sends xid by_reply run s back next new after → SaveCounts next (of_saving s) (of_saving new)
  sends-save run s back next new after sending (inr l) =
      leads-save (saves.refused_next s.waiting Memory) s next new (of_saving s) l.0 (refused-save s Memory (s.waiting == 0) refl)
  sends-save [] s back next new after sending (inl r) =
      leads-save (saves.next_sent by_reply s) (saves.saving_sent by_reply s) next new (of_saving s) r.0
      (sent-save by_reply s (nat_lt 0 s.waiting) (saves.is_again s.phase && by_reply) refl)
  sends-save (e ∷ es) s back next new after sending (inl r) =
      let before = while-sending (saves.is_sending s.phase) s.waiting sending in
      let later = while-sending (saves.is_sending s.phase) (s.waiting + 1) sending in
      leads-save (Send (saves.write_of s.file (piece_of xid e (e ∷ es)))) (record s { waiting = s.waiting + 1 }) next new (of_saving s) r.0 (omega (arith, before, later))

  sends-if-save : (b : Bool) (run : Segments) (s : Saving) (back : Pending) (next : SavingStep) (new : Saving) (after : Pending) → saves.may_send room s ≡ b
      → saves.SendsIf b xid by_reply run s back next new after → SaveCounts next (of_saving s) (of_saving new)
  sends-if-save false run s back next new after may l = leads-save Wait s next new (of_saving s) l.0 refl
  sends-if-save true run s back next new after may l =
      let both = and-left (room && saves.is_sending s.phase) (nat_lt s.waiting 32) may in
      sends-save run s back next new after (and-right room (saves.is_sending s.phase) both) l

  goes-over-save : (refusal : Option Fault) (s : Saving) (back : Pending) (next : SavingStep) (new : Saving) (after : Pending)
      → saves.GoesOver refusal wsize xid room by_reply s back next new after → SaveCounts next (of_saving s) (of_saving new)
  goes-over-save (Some fault) s back next new after g =
      leads-save (saves.refused_next s.waiting fault) s next new (of_saving s) g.0 (refused-save s fault (s.waiting == 0) refl)
  goes-over-save None s back next new after g =
      sends-if-save (saves.may_send room s) (chosen s.upto wsize (of_file s.file back)) s back next new after refl g

  pub save-goes : (s : Saving) (back : Pending) (next : SavingStep) (new : Saving) (after : Pending)
      → saves.Goes wsize xid room by_reply s back next new after → SaveCounts next (of_saving s) (of_saving new)
  save-goes s back next new after g = goes-over-save s.refusal s back next new after g

-- ---- a step with what came of a call

refused-same : (refusal : Option Fault) (s : Saving) → of_saving (saves.refused_by refusal s) ≡ of_saving s
refused-same None s = refl
refused-same (Some fault) s = refl

less-sending : (s : Saving) (others : ℕ) → saves.is_sending s.phase ≡ true → of_saving s ≡ others + 1 → of_saving (saves.less_waiting s) ≡ others
less-sending s others sending is =
    let before = while-sending (saves.is_sending s.phase) s.waiting sending in
    let later : of_saving (saves.less_waiting s) ≡ s.waiting - 1 = while-sending (saves.is_sending s.phase) (s.waiting - 1) sending in
    omega (arith, before, later, is)

-- so many others wait
takes-write-save : (wsize asked xid : ℕ) (room : Bool) (told : WriteTold) (s : Saving) (back : Pending) (next : SavingStep) (new : Saving) (after : Pending)
    (others : ℕ) → of_saving s ≡ others → saves.TakesWrite wsize asked xid room told s back next new after → SaveCounts next others (of_saving new)
takes-write-save wsize asked xid room told s back next new after others is t =
    subst (λ (n : ℕ). SaveCounts next n (of_saving new)) (refused-same t.refusal s ∙ is)
    (save-goes wsize xid room t.counts (saves.refused_by t.refusal s) t.between next new after t.goes)

repeats-save : (again : Bool) (wsize : ℕ) (sent turn : Turn) (told : WriteTold) (s : Saving) (back : Pending) (next : SavingStep) (new : Saving) (after : Pending)
    (others : ℕ) → saves.is_sending s.phase ≡ true → of_saving s ≡ others + 1 → saves.RepeatsWrite again wsize sent turn told s back next new after
    → SaveCounts next others (of_saving new)
repeats-save true wsize sent turn told s back next new after others sending is r =
    leads-save (Send (saves.write_of s.file (saves.answered sent.xid s.file back))) s next new others r.0 is
repeats-save false wsize sent turn told s back next new after others sending is r =
    takes-write-save wsize sent.xid turn.xid turn.room told (saves.less_waiting s) back next new after others (less-sending s others sending is) r

told-save : (busy : Bool) (wsize : ℕ) (sent turn : Turn) (told : WriteTold) (repeats : List Repeat) (s : Saving) (back : Pending) (next : SavingStep)
    (new : Saving) (after : Pending) (later : List Repeat) (others : ℕ) → saves.is_sending s.phase ≡ true → of_saving s ≡ others + 1
    → saves.TakesToldIf busy wsize sent turn told repeats s back next new after later → SaveCounts next others (of_saving new)
told-save true wsize sent turn told repeats s back next new after later others sending is (inl t) =
    repeats-save (goes_again true sent turn repeats) wsize sent turn told s back next new after others sending is t.0
told-save true wsize sent turn told repeats s back next new after later others sending is (inr t) =
    takes-write-save wsize sent.xid turn.xid turn.room (Fails Memory) (saves.less_waiting s) back next new after others (less-sending s others sending is) t.0
told-save false wsize sent turn told repeats s back next new after later others sending is t =
    takes-write-save wsize sent.xid turn.xid turn.room told (saves.less_waiting s) back next new after others (less-sending s others sending is) t.0

-- the one COMMIT is answered
less-committing : (s : Saving) (others : ℕ) → saves.is_sending s.phase ≡ false → of_saving s ≡ others + 1 → (others ≡ 0) × (s.waiting - 1 ≡ 0)
less-committing s others sending is = only-left (s.waiting == 1) s.waiting others refl (sym (while-not (saves.is_sending s.phase) s.waiting sending) ∙ is)

decides-save : (verdict : Verdict) (wsize xid : ℕ) (room : Bool) (s : Saving) (back : Pending) (next : SavingStep) (new : Saving) (after : Pending) (others : ℕ)
    → others ≡ 0 → s.waiting ≡ 0 → saves.Decides verdict wsize xid room s back next new after → SaveCounts next others (of_saving new)
decides-save AllStable wsize xid room s back next new after others none waits d =
    leads-save (Ended (Ok tt)) s next new others d.0 (none, none-waits (saves.is_sending s.phase) s.waiting waits)
decides-save (SendAgain count) wsize xid room s back next new after others none waits d =
    subst (λ (n : ℕ). SaveCounts next n (of_saving new)) (waits ∙ sym none) (save-goes wsize xid room false (record s { phase = Resending }) back next new after d)

commit-save : (told : Result Verf Fault) (wsize xid : ℕ) (room : Bool) (s : Saving) (back : Pending) (next : SavingStep) (new : Saving) (after : Pending) (others : ℕ)
    → others ≡ 0 → s.waiting ≡ 0 → saves.TakesCommit wsize xid room told s back next new after → SaveCounts next others (of_saving new)
commit-save (Ok verf) wsize xid room s back next new after others none waits t = decides-save _ wsize xid room s t.between next new after others none waits t.goes
commit-save (Err fault) wsize xid room s back next new after others none waits t =
    leads-save (Ended (Err fault)) s next new others t.0 (none, none-waits (saves.is_sending s.phase) s.waiting waits)

first-save : (again : Bool) (told : Result Verf Fault) (wsize : ℕ) (turn : Turn) (s : Saving) (back : Pending) (next : SavingStep) (new : Saving) (after : Pending)
    (others : ℕ) → saves.is_sending s.phase ≡ false → of_saving s ≡ others + 1 → saves.TakesFirst again wsize turn told s back next new after
    → SaveCounts next others (of_saving new)
first-save true told wsize turn s back next new after others sending is t = leads-save (Send (saves.commit_of s.file)) (saves.put_off_more s) next new others t.0 is
first-save false told wsize turn s back next new after others sending is t =
    let one = less-committing s others sending is in
    commit-save told wsize turn.xid turn.room (saves.less_waiting s) back next new after others one.0 one.1 t

last-save : (again : Bool) (told : Result Verf Fault) (s : Saving) (others : ℕ) → saves.is_sending s.phase ≡ false → of_saving s ≡ others + 1
    → SaveCounts (saves.last_next again told s) others (of_saving (saves.last_saving again s))
last-save true told s others sending is = is
last-save false (Ok verf) s others sending is =
    let one = less-committing s others sending is in (one.0, none-waits (saves.is_sending s.phase) (s.waiting - 1) one.1)
last-save false (Err fault) s others sending is =
    let one = less-committing s others sending is in (one.0, none-waits (saves.is_sending s.phase) (s.waiting - 1) one.1)

module _ (wsize : ℕ) (sent turn : Turn) (came : Result Reply Fault) where
  takes-in-save : (phase : Phase) (repeats : List Repeat) (s : Saving) (back : Pending) (next : SavingStep) (new : Saving) (after : Pending) (later : List Repeat)
      (others : ℕ) → s.phase ≡ phase → of_saving s ≡ others + 1 → saves.TakesIn phase wsize sent turn came repeats s back next new after later
      → SaveCounts next others (of_saving new)
  takes-in-save Sending repeats s back next new after later others in_phase is t =
      told-save _ wsize sent turn _ repeats s back next new after later others (ap saves.is_sending in_phase) is t
  takes-in-save Resending repeats s back next new after later others in_phase is t =
      told-save _ wsize sent turn _ repeats s back next new after later others (ap saves.is_sending in_phase) is t
  takes-in-save Committing repeats s back next new after later others in_phase is t =
      first-save (saves.commit_again (commit_told came) sent turn repeats s) (commit_told came) wsize turn s back next new after others
      (ap saves.is_sending in_phase) is t.0
  takes-in-save CommittingAgain repeats s back next new after later others in_phase is t =
      let again = saves.commit_again (commit_told came) sent turn repeats s in
      leads-save (saves.last_next again (commit_told came) s) (saves.last_saving again s) next new others t.0
      (last-save again (commit_told came) s others (ap saves.is_sending in_phase) is)

  pub save-takes : (repeats : List Repeat) (s : Saving) (back : Pending) (next : SavingStep) (new : Saving) (after : Pending) (later : List Repeat) (others : ℕ)
      → of_saving s ≡ others + 1 → saves.Takes wsize sent turn came repeats s back next new after later → SaveCounts next others (of_saving new)
  save-takes repeats s back next new after later others is t = takes-in-save s.phase repeats s back next new after later others refl is t
