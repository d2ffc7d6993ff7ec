-- A call that a save asked for and that isn't made leaves nothing in flight.
use Rattle.std.proofs.Common.{◌≡◌, ◌≢◌, ◌&&◌, ◌+◌, ℕ, Bool, true, false, nat_eq, List, [], ◌∷◌, ◌++◌, Option, Some, None, Result, Ok, Err, refl, sym, ap, subst, ◌∙◌, ◌⊎◌, inl, inr}
use Rattle.std.specs.Prelude.{nat_lt, if◌then◌else◌}
use Rattle.std.proofs.lemmas.Bool.{eq-eqb}
use Rattle.nfs_types.specs.declared.verf.Verf.{Verf}
use Rattle.world_model.specs.declared.answer.Fault.{Fault}
use Rattle.world_model.specs.declared.answer.Fault.TheVariants as faults
use Rattle.world_model.specs.declared.message.Call.{Call}
use Rattle.world_model.specs.declared.message.Reply.{Reply}
use Rattle.write_back.specs.declared.change.Change.{Change}
use Rattle.write_back.specs.declared.change.Change.TheVariants as by_change
use Rattle.write_back.specs.Segments.{Segments}
use Rattle.write_back.specs.Changes.{lost}
use Rattle.write_back.specs.Pieces.{Sent, FilePending, piece_under, without, renumbered}
use Rattle.write_back.specs.Choice.{chosen, piece_of, with_sent}
use Rattle.write_back.specs.Landing.{at_piece, at_xid, landed, with_xid}
use Rattle.write_back.specs.Files.{Pending, of_file, OnFile, IsFree}
use Rattle.write_back.proofs.Taking.{under-own}
use Rattle.write_back.proofs.WritesByFile.{same-or}
use Rattle.commit_verf.specs.declared.commit.Verdict.{Verdict}
use Rattle.commit_verf.specs.declared.commit.Verdict.TheVariants.{AllStable, SendAgain}
use Rattle.commit_verf.specs.Decisions.{verdict_of}
use Rattle.client_shelf.specs.declared.repeats.Repeat.{Repeat}
use Rattle.client_shelf.specs.declared.turn.Turn.{Turn}
use Rattle.client_shelf.specs.Busy.{is_busy, goes_again}
use Rattle.file_ops.specs.declared.judging.WriteTold.{WriteTold}
use Rattle.file_ops.specs.declared.judging.WriteTold.TheVariants.{Fails}
use Rattle.file_ops.specs.declared.saving.Saving.{Saving}
use Rattle.file_ops.specs.declared.saving.Phase.{Phase}
use Rattle.file_ops.specs.declared.saving.Phase.TheVariants.{Sending, Committing, Resending, CommittingAgain}
use Rattle.file_ops.specs.declared.saving.SavingStep.{SavingStep}
use Rattle.file_ops.specs.declared.saving.SavingStep.TheVariants.{Send, Wait, Ended}
use Rattle.file_ops.specs.Judging.{commit_told}
use Rattle.file_ops.specs.SlotFiles.{IsUnused}
use Rattle.file_ops.specs.Saves as saves
use Rattle.file_ops.proofs.Fewer.{fewer-unused, on-decided}
use Rattle.file_ops.proofs.SaveEnds.{lands-fewer}
use Rattle.file_ops.proofs.Unsent.{goes-same}
use Rattle.file_ops.proofs.Walks.{Left, Carries, CarriesReply, SamePieces}
use Rattle.file_ops.proofs.Roomless.{NoneOf, left-quiet, waits-quiet, ended-quiet, refused-quiet, goes-quiet, takes-quiet, never}

-- ---- what is in flight under an xid once a save has asked for a call under it

-- one piece of its file at most
pub record InFile (xid : ℕ) (file : List ℕ) (back : Pending) : Type 0 where
  pub alone : piece_under xid (without xid (of_file file back).pieces) ≡ None
  pub others : (other : List ℕ) → other ≢ file → IsFree xid other back

-- that is so where it sends, and nothing is where it asked for a COMMIT
abbrev pub MineIn : Phase → ℕ → List ℕ → Pending → Type 0
MineIn Sending xid file back = InFile xid file back
MineIn Committing xid file back = IsUnused xid back
MineIn Resending xid file back = InFile xid file back
MineIn CommittingAgain xid file back = IsUnused xid back

abbrev pub Mine : ℕ → Saving → Pending → Type 0
Mine xid s back = MineIn s.phase xid s.file back

-- ---- pieces

last-alone : (pieces : List Sent) (piece : Sent) → piece_under piece.xid pieces ≡ None → piece_under piece.xid (without piece.xid (pieces ++ piece ∷ [])) ≡ None
last-alone [] piece none = let own : nat_eq piece.xid piece.xid ≡ true = eq-eqb piece.xid piece.xid refl in rw own refl
last-alone (p ∷ pieces) piece none = by (nat_eq p.xid piece.xid) refl none (last-alone pieces piece)
  where
    by : (b : Bool) → nat_eq p.xid piece.xid ≡ b → piece_under piece.xid (p ∷ pieces) ≡ None
        → (piece_under piece.xid pieces ≡ None → piece_under piece.xid (without piece.xid (pieces ++ piece ∷ [])) ≡ None)
        → piece_under piece.xid (without piece.xid (p ∷ pieces ++ piece ∷ [])) ≡ None
    by true h none more = let no-way : Some p ≡ None = (rw h at none) in absurd cc
    by false h none more = let rest : piece_under piece.xid pieces ≡ None = (rw h at none) in rw (h, h) (more rest)

renumbered-alone : (asked xid : ℕ) (pieces : List Sent) → piece_under xid pieces ≡ None → piece_under xid (without xid (renumbered asked xid pieces)) ≡ None
renumbered-alone asked xid [] none = refl
renumbered-alone asked xid (p ∷ pieces) none = by (nat_eq p.xid asked) (nat_eq p.xid xid) refl refl none (renumbered-alone asked xid pieces)
  where
    own : nat_eq xid xid ≡ true
    own = eq-eqb xid xid refl

    by : (a b : Bool) → nat_eq p.xid asked ≡ a → nat_eq p.xid xid ≡ b → piece_under xid (p ∷ pieces) ≡ None
        → (piece_under xid pieces ≡ None → piece_under xid (without xid (renumbered asked xid pieces)) ≡ None)
        → piece_under xid (without xid (renumbered asked xid (p ∷ pieces))) ≡ None
    by a true ha hb none more = let no-way : Some p ≡ None = (rw hb at none) in absurd cc
    by true false ha hb none more = let rest : piece_under xid pieces ≡ None = (rw hb at none) in rw ha (rw own rest)
    by false false ha hb none more = let rest : piece_under xid pieces ≡ None = (rw hb at none) in rw ha (rw (hb, hb) (more rest))

-- ---- files

on-mine : (xid : ℕ) (old new : Pending) (file : List ℕ) (to : FilePending) → OnFile old new file to → piece_under xid (without xid to.pieces) ≡ None
    → IsUnused xid old → InFile xid file new
on-mine xid old new file to on alone free = record {
  alone = subst (λ (of : FilePending). piece_under xid (without xid of.pieces) ≡ None) (sym on.here) alone;
  others = λ other apart. subst (λ (of : FilePending). piece_under xid of.pieces ≡ None) (sym (on.others other apart)) (free other);
}

same-unused : (xid : ℕ) (old new : Pending) → new ≡ old → IsUnused xid old → IsUnused xid new
same-unused xid old new is free = subst (λ (p : Pending). IsUnused xid p) (sym is) free

pieces-unused : (xid : ℕ) (old new : Pending) → SamePieces old new → IsUnused xid old → IsUnused xid new
pieces-unused xid old new same free file = by (same file)
  where
    by : ((of_file file new).pieces ≡ (of_file file old).pieces) ⊎ ((of_file file new).pieces ≡ []) → IsFree xid file new
    by (inl is) = subst (λ (pieces : List Sent). piece_under xid pieces ≡ None) (sym is) (free file)
    by (inr is) = subst (λ (pieces : List Sent). piece_under xid pieces ≡ None) (sym is) refl

-- the piece is in flight no more
land-unused : (change : Change) (xid : ℕ) (file : List ℕ) (old new : Pending) → OnFile old new file (at_xid (landed change) xid (of_file file old))
    → InFile xid file old → IsUnused xid new
land-unused change xid file old new on mine other = by (same-or file other)
  where
    here : (found : Option Sent) → piece_under xid (of_file file old).pieces ≡ found
        → piece_under xid (at_piece (landed change) found (of_file file old)).pieces ≡ None
    here None h = h
    here (Some piece) h = subst (λ (x : ℕ). piece_under xid (without x (of_file file old).pieces) ≡ None)
        (sym (under-own xid (of_file file old).pieces piece h)) mine.alone

    by : (other ≡ file) ⊎ (other ≢ file) → IsFree xid other new
    by (inl same) = subst (λ (f : List ℕ). IsFree xid f new) (sym same)
        (subst (λ (of : FilePending). piece_under xid of.pieces ≡ None) (sym on.here) (here (piece_under xid (of_file file old).pieces) refl))
    by (inr apart) = subst (λ (of : FilePending). piece_under xid of.pieces ≡ None) (sym (on.others other apart)) (mine.others other apart)

-- ---- a save that asks for a call

commit-mine : (phase : Phase) (xid : ℕ) (file : List ℕ) (back : Pending) → IsUnused xid back → MineIn (saves.commit_phase phase) xid file back
commit-mine Sending xid file back free = free
commit-mine Committing xid file back free = free
commit-mine Resending xid file back free = free
commit-mine CommittingAgain xid file back free = free

sending-mine : (phase : Phase) (xid : ℕ) (file : List ℕ) (back : Pending) → saves.is_sending phase ≡ true → InFile xid file back → MineIn phase xid file back
sending-mine Sending xid file back sends mine = mine
sending-mine Resending xid file back sends mine = mine
sending-mine Committing xid file back sends mine = let wrong : false ≡ true = sends in absurd cc
sending-mine CommittingAgain xid file back sends mine = let wrong : false ≡ true = sends in absurd cc

and-middle : (a b c : Bool) → (a && b && c) ≡ true → b ≡ true
and-middle true true c h = refl
and-middle true false c h = h
and-middle false b c h = let wrong : false ≡ true = h in absurd cc

abbrev pub AnyCall : Call → Type 0
AnyCall call = Unit {0}

-- what a step leaves under its xid, where nothing was in flight under it
abbrev pub LeftMine : ℕ → SavingStep → Saving → Pending → Type 0
LeftMine xid next new after = Left (λ back. IsUnused xid back) (Mine xid) AnyCall next new after

quiet-mine : (xid : ℕ) (next : SavingStep) (new : Saving) (after : Pending) → ((call : Call) → next ≡ Send call → ⊥) → IsUnused xid after
    → LeftMine xid next new after
quiet-mine xid next new after none free = left-quiet (λ back. IsUnused xid back) (Mine xid) AnyCall next new after none free

sends-call : (xid : ℕ) (call : Call) (to : Saving) (next : SavingStep) (new : Saving) (after : Pending) → next ≡ Send call → new ≡ to → Mine xid to after
    → LeftMine xid next new after
sends-call xid call to next new after n k mine = rw n (subst (λ (s : Saving). Mine xid s after) (sym k) mine, tt)

sends-mine : (xid : ℕ) (by_reply : Bool) (run : Segments) (s : Saving) (back : Pending) (next : SavingStep) (new : Saving) (after : Pending)
    → saves.is_sending s.phase ≡ true → saves.Sends xid by_reply run s back next new after → IsUnused xid back → LeftMine xid next new after
sends-mine xid by_reply [] s back next new after sends (inl g) free = by (nat_lt 0 s.waiting) (saves.is_again s.phase && by_reply) g.0.gives_next g.0.keeps
  where
    left : IsUnused xid after
    left = same-unused xid back after g.1 free

    by : (a b : Bool) → next ≡ (if a then Wait else if b then Ended (Ok tt) else Send (saves.commit_of s.file))
        → new ≡ (if a then s else if b then s else record s { phase = saves.commit_phase s.phase; waiting = 1 }) → LeftMine xid next new after
    by true b n k = quiet-mine xid next new after (waits-quiet next n) left
    by false true n k = quiet-mine xid next new after (ended-quiet (Ok tt) next n) left
    by false false n k = sends-call xid (saves.commit_of s.file) (record s { phase = saves.commit_phase s.phase; waiting = 1 }) next new after n k
        (commit-mine s.phase xid s.file after left)
sends-mine xid by_reply (e ∷ es) s back next new after sends (inl g) free =
    sends-call xid (saves.write_of s.file (piece_of xid e (e ∷ es))) (record s { waiting = s.waiting + 1 }) next new after g.0.gives_next g.0.keeps
    (sending-mine s.phase xid s.file after sends (on-mine xid back after s.file (with_sent (piece_of xid e (e ∷ es)) (of_file s.file back)) g.1.0
    (last-alone (of_file s.file back).pieces (piece_of xid e (e ∷ es)) (free s.file)) free))
sends-mine xid by_reply run s back next new after sends (inr g) free =
    quiet-mine xid next new after (refused-quiet s.waiting faults.Memory next g.0.gives_next) (same-unused xid back after g.1 free)

goes-mine : (wsize xid : ℕ) (room by_reply : Bool) (s : Saving) (back : Pending) (next : SavingStep) (new : Saving) (after : Pending)
    → saves.Goes wsize xid room by_reply s back next new after → IsUnused xid back → LeftMine xid next new after
goes-mine wsize xid room by_reply s back next new after goes free = over s.refusal goes
  where
    may : (b : Bool) → saves.may_send room s ≡ b → saves.SendsIf b xid by_reply (chosen s.upto wsize (of_file s.file back)) s back next new after
        → LeftMine xid next new after
    may true h g = sends-mine xid by_reply (chosen s.upto wsize (of_file s.file back)) s back next new after
        (and-middle room (saves.is_sending s.phase) (nat_lt s.waiting 32) h) g free
    may false h g = quiet-mine xid next new after (waits-quiet next g.0.gives_next) (same-unused xid back after g.1 free)

    over : (r : Option Fault) → saves.GoesOver r wsize xid room by_reply s back next new after → LeftMine xid next new after
    over (Some fault) g = quiet-mine xid next new after (refused-quiet s.waiting fault next g.0.gives_next) (same-unused xid back after g.1 free)
    over None g = may (saves.may_send room s) refl g

write-mine : (wsize asked xid : ℕ) (room : Bool) (told : WriteTold) (s : Saving) (back : Pending) (next : SavingStep) (new : Saving) (after : Pending)
    → saves.TakesWrite wsize asked xid room told s back next new after → IsUnused xid back → LeftMine xid next new after
write-mine wsize asked xid room told s back next new after t free =
    goes-mine wsize xid room t.counts (saves.refused_by t.refusal s) t.between next new after t.goes
    (fewer-unused xid back t.between (lands-fewer asked s.file told back t.between t.refusal t.lands) free)

decides-mine : (verdict : Verdict) (wsize xid : ℕ) (room : Bool) (s : Saving) (back : Pending) (next : SavingStep) (new : Saving) (after : Pending)
    → saves.Decides verdict wsize xid room s back next new after → IsUnused xid back → LeftMine xid next new after
decides-mine AllStable wsize xid room s back next new after d free =
    quiet-mine xid next new after (ended-quiet (Ok tt) next d.0.gives_next) (same-unused xid back after d.1 free)
decides-mine (SendAgain count) wsize xid room s back next new after d free =
    goes-mine wsize xid room false (record s { phase = Resending }) back next new after d free

committed-mine : (told : Result Verf Fault) (wsize xid : ℕ) (room : Bool) (s : Saving) (back : Pending) (next : SavingStep) (new : Saving) (after : Pending)
    → saves.TakesCommit wsize xid room told s back next new after → IsUnused xid back → LeftMine xid next new after
committed-mine (Err fault) wsize xid room s back next new after t free =
    quiet-mine xid next new after (ended-quiet (Err fault) next t.0.gives_next) (same-unused xid back after t.1 free)
committed-mine (Ok verf) wsize xid room s back next new after t free =
    decides-mine (verdict_of (lost verf s.upto (of_file s.file back).segments)) wsize xid room s t.between next new after t.goes
    (fewer-unused xid back t.between (on-decided s.upto verf back t.between s.file t.decides) free)

repeats-mine : (again : Bool) (wsize : ℕ) (sent turn : Turn) (told : WriteTold) (s : Saving) (back : Pending) (next : SavingStep) (new : Saving)
    (after : Pending)
    → saves.is_sending s.phase ≡ true → saves.RepeatsWrite again wsize sent turn told s back next new after → IsUnused turn.xid back
    → LeftMine turn.xid next new after
repeats-mine true wsize sent turn told s back next new after sends r free =
    sends-call turn.xid (saves.write_of s.file (saves.answered sent.xid s.file back)) s next new after r.0.gives_next r.0.keeps
    (sending-mine s.phase turn.xid s.file after sends (on-mine turn.xid back after s.file (with_xid sent.xid turn.xid (of_file s.file back)) r.1
    (renumbered-alone sent.xid turn.xid (of_file s.file back).pieces (free s.file)) free))
repeats-mine false wsize sent turn told s back next new after sends r free =
    write-mine wsize sent.xid turn.xid turn.room told (saves.less_waiting s) back next new after r free

told-mine : (wsize : ℕ) (sent turn : Turn) (told : WriteTold) (repeats : List Repeat) (s : Saving) (back : Pending) (next : SavingStep) (new : Saving)
    (after : Pending) (later : List Repeat)
    → saves.is_sending s.phase ≡ true → saves.TakesTold wsize sent turn told repeats s back next new after later → IsUnused turn.xid back
    → LeftMine turn.xid next new after
told-mine wsize sent turn told repeats s back next new after later sends t free = by (saves.may_again (saves.told_busy told) s) t
  where
    by : (b : Bool) → saves.TakesToldIf b wsize sent turn told repeats s back next new after later → LeftMine turn.xid next new after
    by true (inl g) = repeats-mine (goes_again true sent turn repeats) wsize sent turn told s back next new after sends g.0 free
    by true (inr g) = write-mine wsize sent.xid turn.xid turn.room (Fails faults.Memory) (saves.less_waiting s) back next new after g.0 free
    by false g = write-mine wsize sent.xid turn.xid turn.room told (saves.less_waiting s) back next new after g.0 free

first-mine : (again : Bool) (told : Result Verf Fault) (wsize : ℕ) (turn : Turn) (s : Saving) (back : Pending) (next : SavingStep) (new : Saving)
    (after : Pending)
    → s.phase ≡ Committing → saves.TakesFirst again wsize turn told s back next new after → IsUnused turn.xid back → LeftMine turn.xid next new after
first-mine true told wsize turn s back next new after at t free =
    sends-call turn.xid (saves.commit_of s.file) (saves.put_off_more s) next new after t.0.gives_next t.0.keeps
    (subst (λ (p : Phase). MineIn p turn.xid s.file after) (sym at) (same-unused turn.xid back after t.1 free))
first-mine false told wsize turn s back next new after at t free =
    committed-mine told wsize turn.xid turn.room (saves.less_waiting s) back next new after t free

last-mine : (again : Bool) (told : Result Verf Fault) (xid : ℕ) (s : Saving) (next : SavingStep) (new : Saving) (after : Pending)
    → s.phase ≡ CommittingAgain → next ≡ saves.last_next again told s → new ≡ saves.last_saving again s → IsUnused xid after → LeftMine xid next new after
last-mine true told xid s next new after at n k free =
    sends-call xid (saves.commit_of s.file) (saves.put_off_more s) next new after n k (subst (λ (p : Phase). MineIn p xid s.file after) (sym at) free)
last-mine false (Ok verf) xid s next new after at n k free = quiet-mine xid next new after (ended-quiet (Ok tt) next n) free
last-mine false (Err fault) xid s next new after at n k free = quiet-mine xid next new after (ended-quiet (Err fault) next n) free

takes-mine : (wsize : ℕ) (sent turn : Turn) (came : Result Reply Fault) (repeats : List Repeat) (s : Saving) (back : Pending) (next : SavingStep)
    (new : Saving) (after : Pending) (later : List Repeat)
    → saves.Takes wsize sent turn came repeats s back next new after later → IsUnused turn.xid back → LeftMine turn.xid next new after
takes-mine wsize sent turn came repeats s back next new after later takes free = by s.phase refl takes
  where
    by : (p : Phase) → s.phase ≡ p → saves.TakesIn p wsize sent turn came repeats s back next new after later → LeftMine turn.xid next new after
    by Sending at t = told-mine wsize sent turn (saves.told_of sent.xid s.file back came) repeats s back next new after later (ap (λ (p : Phase). saves.is_sending p) at) t free
    by Resending at t = told-mine wsize sent turn (saves.told_of sent.xid s.file back came) repeats s back next new after later (ap (λ (p : Phase). saves.is_sending p) at) t free
    by Committing at t = first-mine (saves.commit_again (commit_told came) sent turn repeats s) (commit_told came) wsize turn s back next new after at t.0 free
    by CommittingAgain at t =
        last-mine (saves.commit_again (commit_told came) sent turn repeats s) (commit_told came) turn.xid s next new after at t.0.gives_next t.0.keeps
        (same-unused turn.xid back after t.1 free)

-- ---- and takes a refusal in its place, with no room for another call

refused-unused : (wsize : ℕ) (sent turn : Turn) (fault : Fault) (repeats : List Repeat) (s : Saving) (back : Pending) (next : SavingStep) (new : Saving)
    (after : Pending) (later : List Repeat)
    → turn.room ≡ false → saves.Takes wsize sent turn (Err fault) repeats s back next new after later → Mine sent.xid s back → IsUnused sent.xid after
refused-unused wsize sent turn fault repeats s back next new after later none takes mine = by s.phase refl takes
  where
    here : (p : Phase) → s.phase ≡ p → MineIn p sent.xid s.file back
    here p at = subst (λ (p : Phase). MineIn p sent.xid s.file back) at mine

    write : saves.TakesWrite wsize sent.xid turn.xid turn.room (Fails fault) (saves.less_waiting s) back next new after → InFile sent.xid s.file back
        → IsUnused sent.xid after
    write t in_file =
        let same = goes-same wsize turn.xid turn.room t.counts (saves.refused_by t.refusal (saves.less_waiting s)) t.between next new after t.goes
        (goes-quiet wsize turn.xid turn.room t.counts (saves.refused_by t.refusal (saves.less_waiting s)) t.between next new after none t.goes) in
        same-unused sent.xid t.between after same (land-unused by_change.Return sent.xid s.file back t.between t.lands.1 in_file)

    first : (again : Bool) → saves.commit_again (Err fault) sent turn repeats s ≡ again → saves.TakesFirst again wsize turn (Err fault) s back next new after
        → IsUnused sent.xid back → IsUnused sent.xid after
    first true h t free = absurd (never (saves.may_commit (Err fault) s) sent turn repeats none h)
    first false h t free = same-unused sent.xid back after t.1 free

    by : (p : Phase) → s.phase ≡ p → saves.TakesIn p wsize sent turn (Err fault) repeats s back next new after later → IsUnused sent.xid after
    by Sending at t = write t.0 (here Sending at)
    by Resending at t = write t.0 (here Resending at)
    by Committing at t = first (saves.commit_again (Err fault) sent turn repeats s) refl t.0 (here Committing at)
    by CommittingAgain at t = same-unused sent.xid back after t.1 (here CommittingAgain at)

-- ---- as it is carried through the steps of the machines

abbrev pub UnusedSave : ℕ → Saving → Pending → Type 0
UnusedSave xid saving back = IsUnused xid back

pub carries-mine : (wsize : ℕ) (turn : Turn) → Carries wsize turn (λ back. IsUnused turn.xid back) (Mine turn.xid) AnyCall
carries-mine wsize turn = record {
  goes = λ by_reply s back next new after g free. goes-mine wsize turn.xid turn.room by_reply s back next new after g free;
  pieces = λ old new same free. pieces-unused turn.xid old new same free;
  plain = λ call room spells. tt;
}

pub replies-mine : (wsize : ℕ) (sent turn : Turn) (came : Result Reply Fault)
    → CarriesReply wsize sent turn came (λ back. IsUnused turn.xid back) (UnusedSave turn.xid) (Mine turn.xid) AnyCall
replies-mine wsize sent turn came = record {
  takes = λ repeats s back next new after later t free. takes-mine wsize sent turn came repeats s back next new after later t free;
}

pub carries-refusal : (wsize xid : ℕ) (turn : Turn) → turn.room ≡ false → Carries wsize turn (λ back. IsUnused xid back) (UnusedSave xid) NoneOf
carries-refusal wsize xid turn none = record {
  goes = λ by_reply s back next new after g free.
      let quiet = goes-quiet wsize turn.xid turn.room by_reply s back next new after none g in
      left-quiet (λ back. IsUnused xid back) (UnusedSave xid) NoneOf next new after quiet
      (same-unused xid back after (goes-same wsize turn.xid turn.room by_reply s back next new after g quiet) free);
  pieces = λ old new same free. pieces-unused xid old new same free;
  plain = λ call room spells. let wrong : false ≡ true = sym none ∙ room in absurd cc;
}

pub replies-refusal : (wsize : ℕ) (sent turn : Turn) (fault : Fault) → turn.room ≡ false
    → CarriesReply wsize sent turn (Err fault) (λ back. IsUnused sent.xid back) (Mine sent.xid) (UnusedSave sent.xid) NoneOf
replies-refusal wsize sent turn fault none = record {
  takes = λ repeats s back next new after later t mine.
      left-quiet (λ back. IsUnused sent.xid back) (UnusedSave sent.xid) NoneOf next new after
      (takes-quiet wsize sent turn (Err fault) repeats s back next new after later none t)
      (refused-unused wsize sent turn fault repeats s back next new after later none t mine);
}
