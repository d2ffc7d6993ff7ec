-- Each WRITE that a save asks for can be spelled, as long as each piece in flight can.
use Rattle.std.proofs.Common.{◌≡◌, ◌≢◌, ◌≤◌, ◌-◌, ◌==◌, ◌&&◌, ℕ, Bool, true, false, nat_eq, length, List, [], ◌∷◌, ◌++◌, Option, Some, None, Result, Ok, Err, refl, sym, subst, ◌∙◌, ◌⊎◌, inl, inr, take, arith, length-append, length-take}
use Rattle.std.specs.Prelude.{if◌then◌else◌, nat_lt, unwrap_or}
use Rattle.nfs_types.specs.declared.verf.Verf.{Verf}
use Rattle.world_model.specs.declared.answer.Fault.{Fault}
use Rattle.world_model.specs.declared.answer.Fault.TheVariants as faults
use Rattle.world_model.specs.declared.message.Call.{Call}
use Rattle.world_model.specs.declared.message.Reply.{Reply}
use Rattle.write_back.specs.declared.change.Change.{Change}
use Rattle.write_back.specs.declared.change.Change.TheVariants as by_change
use Rattle.write_back.specs.declared.state.Ready.{Ready}
use Rattle.write_back.specs.declared.state.Ready.TheVariants.{Unsent, Again, Refused as WasRefused}
use Rattle.write_back.specs.States.{how_of, ready_of}
use Rattle.write_back.specs.Segments.{Segment, Segments, end_of, head_of}
use Rattle.write_back.specs.Changes.{lost}
use Rattle.write_back.specs.Pieces.{Sent, FilePending, piece_under, without, renumbered}
use Rattle.write_back.specs.Choice.{may_go, how_of_segment, run_from, chosen_from, chosen, bytes_in, piece_of, with_sent}
use Rattle.write_back.specs.Landing.{at_piece, at_xid, landed, landed_part, acked_by, with_xid}
use Rattle.write_back.specs.Files.{Pending, of_file, OnFile}
use Rattle.write_back.proofs.WritesByFile.{same-or}
use Rattle.commit_verf.specs.declared.commit.Verdict.{Verdict}
use Rattle.commit_verf.specs.declared.commit.Verdict.TheVariants.{AllStable, SendAgain}
use Rattle.commit_verf.specs.Decisions.{verdict_of, decided}
use Rattle.client_shelf.specs.declared.repeats.Repeat.{Repeat}
use Rattle.client_shelf.specs.declared.turn.Turn.{Turn}
use Rattle.client_shelf.specs.Busy.{goes_again}
use Rattle.client_shelf.specs.Spelling.{IsSpellable, FitWrites, AreSpellable}
use Rattle.file_ops.specs.declared.judging.WriteTold.{WriteTold}
use Rattle.file_ops.specs.declared.judging.WriteTold.TheVariants.{Done, Refused, Fails}
use Rattle.file_ops.specs.declared.saving.Saving.{Saving}
use Rattle.file_ops.specs.declared.saving.Phase.{Phase}
use Rattle.file_ops.specs.declared.saving.Phase.TheVariants.{Sending, Committing, Resending, CommittingAgain}
use Rattle.file_ops.specs.declared.saving.SavingStep.{SavingStep}
use Rattle.file_ops.specs.declared.saving.SavingStep.TheVariants.{Send, Wait, Ended}
use Rattle.file_ops.specs.Judging.{commit_told}
use Rattle.file_ops.specs.Saves as saves
use Rattle.file_ops.proofs.Walks.{Left, Carries, CarriesReply, SamePieces}

-- ---- pieces

abbrev pub FitsWrite : Sent → Type 0
FitsWrite piece = (piece.how ≤ 2) × (length piece.bytes ≤ 65536)

fits-without : (xid : ℕ) (pieces : List Sent) → FitWrites pieces → FitWrites (without xid pieces)
fits-without xid [] fit = tt
fits-without xid (p ∷ pieces) fit = by (nat_eq p.xid xid) (fits-without xid pieces fit.2)
  where
    by : (b : Bool) → FitWrites (without xid pieces) → FitWrites (if b then pieces else p ∷ without xid pieces)
    by true more = fit.2
    by false more = (fit.0, fit.1, more)

fits-renumbered : (xid to : ℕ) (pieces : List Sent) → FitWrites pieces → FitWrites (renumbered xid to pieces)
fits-renumbered xid to [] fit = tt
fits-renumbered xid to (p ∷ pieces) fit = by (nat_eq p.xid xid) (fits-renumbered xid to pieces fit.2)
  where
    by : (b : Bool) → FitWrites (renumbered xid to pieces) → FitWrites
        (if b then record { xid = to; offset = p.offset; how = p.how; bytes = p.bytes; parts = p.parts } ∷ pieces else p ∷ renumbered xid to pieces)
    by true more = fit
    by false more = (fit.0, fit.1, more)

fits-append : (pieces : List Sent) (piece : Sent) → FitWrites pieces → FitsWrite piece → FitWrites (pieces ++ piece ∷ [])
fits-append [] piece fit last = (last.0, last.1, tt)
fits-append (p ∷ pieces) piece fit last = (fit.0, fit.1, fits-append pieces piece fit.2 last)

fits-under : (xid : ℕ) (pieces : List Sent) → FitWrites pieces → FitsWrite (unwrap_or (piece_under xid pieces) saves.no_piece)
fits-under xid [] fit = (omega arith, omega arith)
fits-under xid (p ∷ pieces) fit = by (nat_eq p.xid xid) (fits-under xid pieces fit.2)
  where
    by : (b : Bool) → FitsWrite (unwrap_or (piece_under xid pieces) saves.no_piece)
        → FitsWrite (unwrap_or (if b then Some p else piece_under xid pieces) saves.no_piece)
    by true more = (fit.0, fit.1)
    by false more = more

-- what is chosen to be sent has at most `wsize` bytes
run-fits : (pieces : List Sent) (upto how place room : ℕ) (es : Segments) → length (bytes_in (run_from pieces upto how place room es)) ≤ room
run-fits pieces upto how place room [] = omega arith
run-fits pieces upto how place room (e ∷ es) =
    by (may_go pieces upto e && nat_eq (how_of_segment e) how && nat_eq e.0 place && nat_lt 0 room)
    (run-fits pieces upto how (end_of e) (room - length e.1.bytes) es)
  where
    rest : Segments
    rest = run_from pieces upto how (end_of e) (room - length e.1.bytes) es

    by : (b : Bool) → length (bytes_in rest) ≤ room - length e.1.bytes → length (bytes_in (if b then (e.0, head_of room e.1) ∷ rest else [])) ≤ room
    by false more = omega arith
    by true more = omega (arith, more, length-append (take room e.1.bytes) (bytes_in rest), length-take room e.1.bytes)

chosen-fits : (pieces : List Sent) (upto wsize : ℕ) (es : Segments) → length (bytes_in (chosen_from pieces upto wsize es)) ≤ wsize
chosen-fits pieces upto wsize [] = omega arith
chosen-fits pieces upto wsize (e ∷ es) = by (may_go pieces upto e) (chosen-fits pieces upto wsize es)
  where
    by : (b : Bool) → length (bytes_in (chosen_from pieces upto wsize es)) ≤ wsize
        → length (bytes_in (if b then run_from pieces upto (how_of_segment e) e.0 wsize (e ∷ es) else chosen_from pieces upto wsize es)) ≤ wsize
    by true more = run-fits pieces upto (how_of_segment e) e.0 wsize (e ∷ es)
    by false more = more

ways : (ready : Ready) → how_of ready ≤ 2
ways Unsent = omega arith
ways Again = omega arith
ways (WasRefused status) = omega arith

piece-fits : (xid upto wsize : ℕ) (of : FilePending) (e : ℕ × Segment) (es : Segments) → wsize ≤ 65536 → chosen upto wsize of ≡ e ∷ es
    → FitsWrite (piece_of xid e (e ∷ es))
piece-fits xid upto wsize of e es small is = (
  ways (ready_of e.1.state),
  few (bytes_in (e ∷ es)) (subst (λ (run : Segments). length (bytes_in run) ≤ wsize) is
      (chosen-fits of.pieces upto wsize of.segments)),
)
  where
    few : (bytes : List ℕ) → length bytes ≤ wsize → length bytes ≤ 65536
    few bytes fits = omega (arith, small, fits)

-- ---- files

on-spellable : (old new : Pending) (file : List ℕ) (to : FilePending) → OnFile old new file to → (FitWrites (of_file file old).pieces → FitWrites to.pieces)
    → AreSpellable old → AreSpellable new
on-spellable old new file to on keeps all other = by (same-or file other)
  where
    by : (other ≡ file) ⊎ (other ≢ file) → FitWrites (of_file other new).pieces
    by (inl same) = subst (λ (f : List ℕ). FitWrites (of_file f new).pieces) (sym same)
        (subst (λ (of : FilePending). FitWrites of.pieces) (sym on.here) (keeps (all file)))
    by (inr apart) = subst (λ (of : FilePending). FitWrites of.pieces) (sym (on.others other apart)) (all other)

same-spellable : (old new : Pending) → new ≡ old → AreSpellable old → AreSpellable new
same-spellable old new is all = subst AreSpellable (sym is) all

at-spellable : (f : Sent → FilePending → FilePending) (found : Option Sent) (of : FilePending)
    → ((piece : Sent) → FitWrites of.pieces → FitWrites (f piece of).pieces) → FitWrites of.pieces → FitWrites (at_piece f found of).pieces
at-spellable f None of keeps fit = fit
at-spellable f (Some piece) of keeps fit = keeps piece fit

pieces-spellable : (old new : Pending) → SamePieces old new → AreSpellable old → AreSpellable new
pieces-spellable old new same all file = by (same file)
  where
    by : ((of_file file new).pieces ≡ (of_file file old).pieces) ⊎ ((of_file file new).pieces ≡ []) → FitWrites (of_file file new).pieces
    by (inl is) = subst FitWrites (sym is) (all file)
    by (inr is) = subst FitWrites (sym is) tt

-- ---- steps of a save

abbrev pub Spells : SavingStep → Pending → Type 0
Spells next after = AreSpellable after × ((call : Call) → next ≡ Send call → IsSpellable call)

write-spells : (file : List ℕ) (piece : Sent) → FitsWrite piece → IsSpellable (saves.write_of file piece)
write-spells file piece fits = fits

one-call : (sent : Call) (next : SavingStep) → next ≡ Send sent → IsSpellable sent → (call : Call) → next ≡ Send call → IsSpellable call
one-call sent next is spells call asks = let same : sent ≡ call = (let k : Send sent ≡ Send call = sym is ∙ asks in cc) in subst IsSpellable same spells

waits-spells : (next : SavingStep) → next ≡ Wait → (call : Call) → next ≡ Send call → IsSpellable call
waits-spells next is call asks = let no-way : Wait ≡ Send call = sym is ∙ asks in absurd cc

ended-spells : (result : Result (Unit {0}) Fault) (next : SavingStep) → next ≡ Ended result → (call : Call) → next ≡ Send call → IsSpellable call
ended-spells result next is call asks = let no-way : Ended result ≡ Send call = sym is ∙ asks in absurd cc

refused-spells : (waiting : ℕ) (fault : Fault) (next : SavingStep) → next ≡ saves.refused_next waiting fault → (call : Call) → next ≡ Send call
    → IsSpellable call
refused-spells waiting fault next is = by (waiting == 0) is
  where
    by : (b : Bool) → next ≡ (if b then Ended (Err fault) else Wait) → (call : Call) → next ≡ Send call → IsSpellable call
    by true is = ended-spells (Err fault) next is
    by false is = waits-spells next is

sent-spells : (by_reply : Bool) (s : Saving) (next : SavingStep) → next ≡ saves.next_sent by_reply s → (call : Call) → next ≡ Send call → IsSpellable call
sent-spells by_reply s next is = by (nat_lt 0 s.waiting) (saves.is_again s.phase && by_reply) is
  where
    by : (a b : Bool) → next ≡ (if a then Wait else if b then Ended (Ok tt) else Send (saves.commit_of s.file)) → (call : Call) → next ≡ Send call
        → IsSpellable call
    by true b is = waits-spells next is
    by false true is = ended-spells (Ok tt) next is
    by false false is = one-call (saves.commit_of s.file) next is tt

sends-spells : (xid wsize : ℕ) (by_reply : Bool) (run : Segments) (s : Saving) (back : Pending) (next : SavingStep) (new : Saving) (after : Pending)
    → wsize ≤ 65536 → chosen s.upto wsize (of_file s.file back) ≡ run → saves.Sends xid by_reply run s back next new after → AreSpellable back
    → Spells next after
sends-spells xid wsize by_reply [] s back next new after small is (inl g) all = (same-spellable back after g.1 all, sent-spells by_reply s next g.0.gives_next)
sends-spells xid wsize by_reply (e ∷ es) s back next new after small is (inl g) all =
    let fits = piece-fits xid s.upto wsize (of_file s.file back) e es small is in (
      on-spellable back after s.file (with_sent (piece_of xid e (e ∷ es)) (of_file s.file back)) g.1.0
          (λ fit. fits-append (of_file s.file back).pieces (piece_of xid e (e ∷ es)) fit fits) all,
      one-call (saves.write_of s.file (piece_of xid e (e ∷ es))) next g.0.gives_next (write-spells s.file (piece_of xid e (e ∷ es)) fits),
    )
sends-spells xid wsize by_reply run s back next new after small is (inr g) all =
    (same-spellable back after g.1 all, refused-spells s.waiting faults.Memory next g.0.gives_next)

goes-spells : (wsize xid : ℕ) (room by_reply : Bool) (s : Saving) (back : Pending) (next : SavingStep) (new : Saving) (after : Pending)
    → wsize ≤ 65536 → saves.Goes wsize xid room by_reply s back next new after → AreSpellable back → Spells next after
goes-spells wsize xid room by_reply s back next new after small goes all = over s.refusal goes
  where
    may : (b : Bool) → saves.SendsIf b xid by_reply (chosen s.upto wsize (of_file s.file back)) s back next new after → Spells next after
    may true g = sends-spells xid wsize by_reply (chosen s.upto wsize (of_file s.file back)) s back next new after small refl g all
    may false g = (same-spellable back after g.1 all, waits-spells next g.0.gives_next)

    over : (r : Option Fault) → saves.GoesOver r wsize xid room by_reply s back next new after → Spells next after
    over (Some fault) g = (same-spellable back after g.1 all, refused-spells s.waiting fault next g.0.gives_next)
    over None g = may (saves.may_send room s) g

lands-spells : (asked : ℕ) (file : List ℕ) (told : WriteTold) (old new : Pending) (refusal : Option Fault) → saves.Lands asked file told old new refusal
    → AreSpellable old → AreSpellable new
lands-spells asked file told old new refusal lands all = by told refusal lands
  where
    of : FilePending
    of = of_file file old

    one : (change : Change) → OnFile old new file (at_xid (landed change) asked of) → AreSpellable new
    one change on = on-spellable old new file (at_xid (landed change) asked of) on
        (at-spellable (landed change) (piece_under asked of.pieces) of (λ piece fit. fits-without piece.xid of.pieces fit)) all

    by : (told : WriteTold) (refusal : Option Fault) → saves.Lands asked file told old new refusal → AreSpellable new
    by (Done wcc count committed verf) None on =
        on-spellable old new file (at_xid (landed_part (acked_by committed verf) count) asked of) on
        (at-spellable (landed_part (acked_by committed verf) count) (piece_under asked of.pieces) of (λ piece fit. fits-without piece.xid of.pieces fit))
        all
    by (Done wcc count committed verf) (Some fault) l = one by_change.Return l.1
    by (Refused status) refusal l = one (by_change.Refuse status) l.1
    by (Fails fault) refusal l = one by_change.Return l.1

write-takes-spells : (wsize asked xid : ℕ) (room : Bool) (told : WriteTold) (s : Saving) (back : Pending) (next : SavingStep) (new : Saving) (after : Pending)
    → wsize ≤ 65536 → saves.TakesWrite wsize asked xid room told s back next new after → AreSpellable back → Spells next after
write-takes-spells wsize asked xid room told s back next new after small t all =
    goes-spells wsize xid room t.counts (saves.refused_by t.refusal s) t.between next new after small t.goes
    (lands-spells asked s.file told back t.between t.refusal t.lands all)

decides-spells : (verdict : Verdict) (wsize xid : ℕ) (room : Bool) (s : Saving) (back : Pending) (next : SavingStep) (new : Saving) (after : Pending)
    → wsize ≤ 65536 → saves.Decides verdict wsize xid room s back next new after → AreSpellable back → Spells next after
decides-spells AllStable wsize xid room s back next new after small d all = (same-spellable back after d.1 all, ended-spells (Ok tt) next d.0.gives_next)
decides-spells (SendAgain count) wsize xid room s back next new after small d all =
    goes-spells wsize xid room false (record s { phase = Resending }) back next new after small d all

commit-spells : (told : Result Verf Fault) (wsize xid : ℕ) (room : Bool) (s : Saving) (back : Pending) (next : SavingStep) (new : Saving) (after : Pending)
    → wsize ≤ 65536 → saves.TakesCommit wsize xid room told s back next new after → AreSpellable back → Spells next after
commit-spells (Err fault) wsize xid room s back next new after small t all = (same-spellable back after t.1 all, ended-spells (Err fault) next t.0.gives_next)
commit-spells (Ok verf) wsize xid room s back next new after small t all =
    decides-spells (verdict_of (lost verf s.upto (of_file s.file back).segments)) wsize xid room s t.between next new after small t.goes
    (on-spellable back t.between s.file (decided s.upto verf (of_file s.file back)) t.decides (λ fit. fit) all)

repeats-spells : (again : Bool) (wsize : ℕ) (sent turn : Turn) (told : WriteTold) (s : Saving) (back : Pending) (next : SavingStep) (new : Saving)
    (after : Pending)
    → wsize ≤ 65536 → saves.RepeatsWrite again wsize sent turn told s back next new after → AreSpellable back → Spells next after
repeats-spells true wsize sent turn told s back next new after small r all = (
  on-spellable back after s.file (with_xid sent.xid turn.xid (of_file s.file back)) r.1
      (λ fit. fits-renumbered sent.xid turn.xid (of_file s.file back).pieces fit) all,
  one-call (saves.write_of s.file (saves.answered sent.xid s.file back)) next r.0.gives_next
      (write-spells s.file (saves.answered sent.xid s.file back) (fits-under sent.xid (of_file s.file back).pieces (all s.file))),
)
repeats-spells false wsize sent turn told s back next new after small r all =
    write-takes-spells wsize sent.xid turn.xid turn.room told (saves.less_waiting s) back next new after small r all

told-spells : (wsize : ℕ) (sent turn : Turn) (told : WriteTold) (repeats : List Repeat) (s : Saving) (back : Pending) (next : SavingStep) (new : Saving)
    (after : Pending) (later : List Repeat)
    → wsize ≤ 65536 → saves.TakesTold wsize sent turn told repeats s back next new after later → AreSpellable back → Spells next after
told-spells wsize sent turn told repeats s back next new after later small t all = by (saves.may_again (saves.told_busy told) s) t
  where
    by : (b : Bool) → saves.TakesToldIf b wsize sent turn told repeats s back next new after later → Spells next after
    by true (inl g) = repeats-spells (goes_again true sent turn repeats) wsize sent turn told s back next new after small g.0 all
    by true (inr g) = write-takes-spells wsize sent.xid turn.xid turn.room (Fails faults.Memory) (saves.less_waiting s) back next new after small g.0 all
    by false g = write-takes-spells wsize sent.xid turn.xid turn.room told (saves.less_waiting s) back next new after small g.0 all

first-spells : (again : Bool) (told : Result Verf Fault) (wsize : ℕ) (turn : Turn) (s : Saving) (back : Pending) (next : SavingStep) (new : Saving)
    (after : Pending)
    → wsize ≤ 65536 → saves.TakesFirst again wsize turn told s back next new after → AreSpellable back → Spells next after
first-spells true told wsize turn s back next new after small t all =
    (same-spellable back after t.1 all, one-call (saves.commit_of s.file) next t.0.gives_next tt)
first-spells false told wsize turn s back next new after small t all =
    commit-spells told wsize turn.xid turn.room (saves.less_waiting s) back next new after small t all

last-spells : (again : Bool) (told : Result Verf Fault) (s : Saving) (next : SavingStep) → next ≡ saves.last_next again told s → (call : Call)
    → next ≡ Send call → IsSpellable call
last-spells true told s next is = one-call (saves.commit_of s.file) next is tt
last-spells false (Ok verf) s next is = ended-spells (Ok tt) next is
last-spells false (Err fault) s next is = ended-spells (Err fault) next is

takes-spells : (wsize : ℕ) (sent turn : Turn) (came : Result Reply Fault) (repeats : List Repeat) (s : Saving) (back : Pending) (next : SavingStep)
    (new : Saving) (after : Pending) (later : List Repeat)
    → wsize ≤ 65536 → saves.Takes wsize sent turn came repeats s back next new after later → AreSpellable back → Spells next after
takes-spells wsize sent turn came repeats s back next new after later small takes all = by s.phase takes
  where
    by : (p : Phase) → saves.TakesIn p wsize sent turn came repeats s back next new after later → Spells next after
    by Sending t = told-spells wsize sent turn (saves.told_of sent.xid s.file back came) repeats s back next new after later small t all
    by Resending t = told-spells wsize sent turn (saves.told_of sent.xid s.file back came) repeats s back next new after later small t all
    by Committing t = first-spells (saves.commit_again (commit_told came) sent turn repeats s) (commit_told came) wsize turn s back next new after small t.0 all
    by CommittingAgain t = (
      same-spellable back after t.1 all,
      last-spells (saves.commit_again (commit_told came) sent turn repeats s) (commit_told came) s
          next t.0.gives_next,
    )

-- ---- as it is carried through the steps of the machines

abbrev pub SpellableSave : Saving → Pending → Type 0
SpellableSave saving back = AreSpellable back

left-spells : (next : SavingStep) (new : Saving) (after : Pending) → Spells next after → Left AreSpellable SpellableSave IsSpellable next new after
left-spells (Send call) new after s = (s.0, s.1 call refl)
left-spells Wait new after s = s.0
left-spells (Ended result) new after s = s.0

pub carries-spells : (wsize : ℕ) (turn : Turn) → wsize ≤ 65536 → Carries wsize turn AreSpellable SpellableSave IsSpellable
carries-spells wsize turn small = record {
  goes = λ by_reply s back next new after g all. left-spells next new after (goes-spells wsize turn.xid turn.room by_reply s back next new after small g all);
  pieces = λ old new same all. pieces-spellable old new same all;
  plain = λ call room spells. spells;
}

pub replies-spell : (wsize : ℕ) (sent turn : Turn) (came : Result Reply Fault) → wsize ≤ 65536
    → CarriesReply wsize sent turn came AreSpellable SpellableSave SpellableSave IsSpellable
replies-spell wsize sent turn came small = record {
  takes = λ repeats s back next new after later t all. left-spells next new after
      (takes-spells wsize sent turn came repeats s back next new after later small t all);
}
