-- Each step of a save leaves what the next step needs: numbers of writes and xids stay below the next ones.
use Rattle.std.proofs.Common.{◌≡◌, ◌≢◌, ◌&&◌, ◌+◌, ◌-◌, ◌≤◌, ℕ, Bool, true, false, List, [], ◌∷◌, ◌++◌, length, map, Option, Some, None, Result, Ok, Err, refl, sym, ap, ◌⊎◌, inl, inr, subst, arith}
use Rattle.std.specs.Prelude.{Contains, nat_eq, nat_lt, if◌then◌else◌}
use Rattle.std.proofs.lemmas.List.Elements.{Contains-append_left, Contains-append_right, Contains-append_cases}
use Rattle.std.proofs.lemmas.Bool.{eqb-true}
use Rattle.nfs_types.specs.declared.verf.Verf.{Verf}
use Rattle.world_model.specs.declared.answer.Fault.{Fault}
use Rattle.world_model.specs.declared.answer.Fault.TheVariants as faults
use Rattle.world_model.specs.declared.message.Reply.{Reply}
use Rattle.client_shelf.specs.declared.repeats.Repeat.{Repeat}
use Rattle.client_shelf.specs.declared.turn.Turn.{Turn}
use Rattle.write_back.specs.declared.change.Change.TheVariants.{Send as SendBytes}
use Rattle.write_back.specs.Segments.{Segment, Segments, end_of, head_of, split}
use Rattle.write_back.specs.Pieces.{Sent, FilePending, piece_under, renumbered}
use Rattle.write_back.specs.Changes.{changed, lost}
use Rattle.write_back.specs.Choice.{may_go, how_of_segment, run_from, chosen_from, chosen, part_of, piece_of, with_sent}
use Rattle.write_back.specs.Landing.{with_xid}
use Rattle.write_back.specs.Files.{Pending, of_file, OnFile, numbers_of}
use Rattle.write_back.proofs.WritesByFile.{same-or}
use Rattle.commit_verf.specs.declared.commit.Verdict.{Verdict}
use Rattle.commit_verf.specs.declared.commit.Verdict.TheVariants.{AllStable, SendAgain}
use Rattle.commit_verf.specs.Decisions.{verdict_of}
use Rattle.client_shelf.specs.Busy.{goes_again}
use Rattle.file_ops.specs.Judging.{commit_told}
use Rattle.file_ops.specs.Ready.{IsReady}
use Rattle.file_ops.specs.declared.judging.WriteTold.{WriteTold}
use Rattle.file_ops.specs.declared.judging.WriteTold.TheVariants.{Fails}
use Rattle.file_ops.specs.declared.saving.Saving.{Saving}
use Rattle.file_ops.specs.declared.saving.Phase.{Phase}
use Rattle.file_ops.specs.declared.saving.Phase.TheVariants.{Sending, Committing, Resending, CommittingAgain}
use Rattle.file_ops.specs.declared.saving.SavingStep.{SavingStep}
use Rattle.file_ops.specs.Saves.{Goes, GoesOver, SendsIf, Sends, may_send, TakesWrite, refused_by, Decides, TakesCommit, less_waiting, RepeatsWrite, TakesTold, TakesToldIf, TakesFirst, TakesIn, Takes, may_again, told_busy, told_of, commit_again}
use Rattle.file_ops.proofs.Fewer.{IsIn, none-in, both-in, later-in, numbers_written, numbers_flying, changed-in, split-in, IsFewer, AreFewer, on-decided}
use Rattle.file_ops.proofs.SaveEnds.{lands-fewer}

-- ---- a piece that is sent

run-in : (pieces : List Sent) (upto how place room : ℕ) (es : Segments) → IsIn (numbers_written (run_from pieces upto how place room es)) (numbers_written es)
run-in pieces upto how place room [] x c = c
run-in pieces upto how place room (e ∷ es) x c = by (may_go pieces upto e && nat_eq (how_of_segment e) how && nat_eq e.0 place && nat_lt 0 room) (run-in pieces upto how (end_of e) (room - length e.1.bytes) es) c
  where
    by : (b : Bool) → IsIn (numbers_written (run_from pieces upto how (end_of e) (room - length e.1.bytes) es)) (numbers_written es) → Contains (numbers_written (if b then (e.0, head_of room e.1) ∷ run_from pieces upto how (end_of e) (room - length e.1.bytes) es else [])) x → Contains (numbers_written (e ∷ es)) x
    by true w c = both-in e.1.number (numbers_written (run_from pieces upto how (end_of e) (room - length e.1.bytes) es)) (numbers_written es) w x c
    by false w c = absurd (none-in x c)

chosen-in : (pieces : List Sent) (upto wsize : ℕ) (es : Segments) → IsIn (numbers_written (chosen_from pieces upto wsize es)) (numbers_written es)
chosen-in pieces upto wsize [] x c = c
chosen-in pieces upto wsize (e ∷ es) x c = by (may_go pieces upto e) (chosen-in pieces upto wsize es) c
  where
    by : (b : Bool) → IsIn (numbers_written (chosen_from pieces upto wsize es)) (numbers_written es) → Contains (numbers_written (if b then run_from pieces upto (how_of_segment e) e.0 wsize (e ∷ es) else chosen_from pieces upto wsize es)) x → Contains (numbers_written (e ∷ es)) x
    by true w c = run-in pieces upto (how_of_segment e) e.0 wsize (e ∷ es) x c
    by false w c = later-in e.1.number (numbers_written es) x (w x c)

abbrev pub numbers_sent : Sent → List ℕ
numbers_sent piece = map (λ part. part.number) piece.parts

parts-numbers : (run : Segments) → map (λ part. part.number) (map part_of run) ≡ numbers_written run
parts-numbers [] = refl
parts-numbers (e ∷ run) = ap (λ ns. e.1.number ∷ ns) (parts-numbers run)

-- the numbers in flight with one more piece
last-in : (pieces : List Sent) (piece : Sent) (x : ℕ) → Contains (numbers_flying (pieces ++ piece ∷ [])) x → Contains (numbers_flying pieces) x ⊎ Contains (numbers_sent piece) x
last-in [] piece x c = by (Contains-append_cases (numbers_sent piece) [] x c)
  where
    by : Contains (numbers_sent piece) x ⊎ Contains [] x → Contains (numbers_flying []) x ⊎ Contains (numbers_sent piece) x
    by (inl d) = inr d
    by (inr d) = absurd (none-in x d)
last-in (q ∷ pieces) piece x c = by (last-in pieces piece x) (Contains-append_cases (numbers_sent q) (numbers_flying (pieces ++ piece ∷ [])) x c)
  where
    past : Contains (numbers_flying pieces) x ⊎ Contains (numbers_sent piece) x → Contains (numbers_flying (q ∷ pieces)) x ⊎ Contains (numbers_sent piece) x
    past (inl d) = inl (Contains-append_right (numbers_sent q) (numbers_flying pieces) x d)
    past (inr d) = inr d

    by : (Contains (numbers_flying (pieces ++ piece ∷ [])) x → Contains (numbers_flying pieces) x ⊎ Contains (numbers_sent piece) x) → Contains (numbers_sent q) x ⊎ Contains (numbers_flying (pieces ++ piece ∷ [])) x → Contains (numbers_flying (q ∷ pieces)) x ⊎ Contains (numbers_sent piece) x
    by w (inl d) = inl (Contains-append_left (numbers_sent q) (numbers_flying pieces) x d)
    by w (inr d) = past (w d)

under-last : (pieces : List Sent) (piece : Sent) (x : ℕ) → x ≢ piece.xid → piece_under x pieces ≡ None → piece_under x (pieces ++ piece ∷ []) ≡ None
under-last [] piece x apart h = by (nat_eq piece.xid x) refl
  where
    by : (b : Bool) → nat_eq piece.xid x ≡ b → piece_under x (piece ∷ []) ≡ None
    by true e = absurd (apart (sym (eqb-true piece.xid x e)))
    by false e = rw e refl
under-last (q ∷ pieces) piece x apart h = by (nat_eq q.xid x) refl h (under-last pieces piece x apart)
  where
    by : (b : Bool) → nat_eq q.xid x ≡ b → piece_under x (q ∷ pieces) ≡ None → (piece_under x pieces ≡ None → piece_under x (pieces ++ piece ∷ []) ≡ None) → piece_under x (q ∷ pieces ++ piece ∷ []) ≡ None
    by true e h w = let no-way : Some q ≡ None = (rw e at h) in absurd cc
    by false e h w = let rest : piece_under x pieces ≡ None = (rw e at h) in rw e (w rest)

-- ---- a file after a call under an xid was made

pub record IsKept (xid : ℕ) (old new : FilePending) : Type 0 where
  pub numbers : IsIn (numbers_of new) (numbers_of old)
  pub xids : (x : ℕ) → x ≢ xid → piece_under x old.pieces ≡ None → piece_under x new.pieces ≡ None

fewer-kept : (xid : ℕ) (old new : FilePending) → IsFewer old new → IsKept xid old new
fewer-kept xid old new f = record { numbers = f.numbers; xids = λ x apart h. f.xids x h }

sent-kept : (xid upto wsize : ℕ) (of : FilePending) (e : ℕ × Segment) (es : Segments) → chosen upto wsize of ≡ e ∷ es → IsKept xid of (with_sent (piece_of xid e (e ∷ es)) of)
sent-kept xid upto wsize of e es is = record { numbers = inside; xids = λ x apart h. under-last of.pieces piece x apart h }
  where
    piece : Sent
    piece = piece_of xid e (e ∷ es)

    left : (x : ℕ) → Contains (numbers_written of.segments) x → Contains (numbers_of of) x
    left x d = Contains-append_left (numbers_written of.segments) (numbers_flying of.pieces) x d

    in-run : (x : ℕ) → Contains (numbers_sent piece) x → Contains (numbers_of of) x
    in-run x d = left x (chosen-in of.pieces upto wsize of.segments x (subst (λ run. Contains (numbers_written run) x) (sym is) (subst (λ ns. Contains ns x) (parts-numbers (e ∷ es)) d)))

    flying : (x : ℕ) → Contains (numbers_flying of.pieces) x ⊎ Contains (numbers_sent piece) x → Contains (numbers_of of) x
    flying x (inl d) = Contains-append_right (numbers_written of.segments) (numbers_flying of.pieces) x d
    flying x (inr d) = in-run x d

    segments : Segments
    segments = changed SendBytes piece.offset (piece.offset + length piece.bytes) (split (piece.offset + length piece.bytes) of.segments)

    by : (x : ℕ) → Contains (numbers_written segments) x ⊎ Contains (numbers_flying (of.pieces ++ piece ∷ [])) x → Contains (numbers_of of) x
    by x (inl d) = left x (split-in (λ _. true) (piece.offset + length piece.bytes) of.segments x (changed-in SendBytes piece.offset (piece.offset + length piece.bytes) (split (piece.offset + length piece.bytes) of.segments) x d))
    by x (inr d) = flying x (last-in of.pieces piece x d)

    inside : IsIn (numbers_of (with_sent piece of)) (numbers_of of)
    inside x c = by x (Contains-append_cases (numbers_written segments) (numbers_flying (of.pieces ++ piece ∷ [])) x c)

renumbered-flying : (asked xid : ℕ) (pieces : List Sent) → numbers_flying (renumbered asked xid pieces) ≡ numbers_flying pieces
renumbered-flying asked xid [] = refl
renumbered-flying asked xid (p ∷ pieces) = by (nat_eq p.xid asked) refl (renumbered-flying asked xid pieces)
  where
    by : (b : Bool) → nat_eq p.xid asked ≡ b → numbers_flying (renumbered asked xid pieces) ≡ numbers_flying pieces → numbers_flying (renumbered asked xid (p ∷ pieces)) ≡ numbers_flying (p ∷ pieces)
    by true h w = rw h refl
    by false h w = rw h (ap (λ ns. numbers_sent p ++ ns) w)

renumbered-under : (asked xid x : ℕ) (pieces : List Sent) → x ≢ xid → piece_under x pieces ≡ None → piece_under x (renumbered asked xid pieces) ≡ None
renumbered-under asked xid x [] apart h = refl
renumbered-under asked xid x (p ∷ pieces) apart h = by (nat_eq p.xid asked) (nat_eq p.xid x) refl refl h (renumbered-under asked xid x pieces apart)
  where
    to : (b : Bool) → nat_eq xid x ≡ b → piece_under x pieces ≡ None → (if nat_eq xid x then Some (record { xid = xid; offset = p.offset; how = p.how; bytes = p.bytes; parts = p.parts }) else piece_under x pieces) ≡ None
    to true h rest = absurd (apart (sym (eqb-true xid x h)))
    to false h rest = rw h rest

    by : (a b : Bool) → nat_eq p.xid asked ≡ a → nat_eq p.xid x ≡ b → piece_under x (p ∷ pieces) ≡ None → (piece_under x pieces ≡ None → piece_under x (renumbered asked xid pieces) ≡ None) → piece_under x (renumbered asked xid (p ∷ pieces)) ≡ None
    by a true ha hb h w = let no-way : Some p ≡ None = (rw hb at h) in absurd cc
    by true false ha hb h w = let rest : piece_under x pieces ≡ None = (rw hb at h) in rw ha (to (nat_eq xid x) refl rest)
    by false false ha hb h w = let rest : piece_under x pieces ≡ None = (rw hb at h) in rw ha (rw hb (w rest))

xid-kept : (asked xid : ℕ) (of : FilePending) → IsKept xid of (with_xid asked xid of)
xid-kept asked xid of = record {
  numbers = λ x c. subst (λ ns. Contains (numbers_written of.segments ++ ns) x) (renumbered-flying asked xid of.pieces) c;
  xids = λ x apart h. renumbered-under asked xid x of.pieces apart h;
}

-- ---- all files

pub record AreKept (xid : ℕ) (old new : Pending) : Type 0 where
  pub of : (file : List ℕ) → IsKept xid (of_file file old) (of_file file new)

same-one : (xid : ℕ) (of : FilePending) → IsKept xid of of
same-one xid of = record { numbers = λ x c. c; xids = λ x apart h. h }

same-kept : (xid : ℕ) (old new : Pending) → new ≡ old → AreKept xid old new
same-kept xid old new is = record { of = λ file. subst (λ p. IsKept xid (of_file file old) (of_file file p)) (sym is) (same-one xid (of_file file old)) }

all-fewer-kept : (xid : ℕ) (old new : Pending) → AreFewer old new → AreKept xid old new
all-fewer-kept xid old new f = record { of = λ file. fewer-kept xid (of_file file old) (of_file file new) (f.of file) }

pub on-kept : (xid : ℕ) (old new : Pending) (file : List ℕ) (to : FilePending) → OnFile old new file to → IsKept xid (of_file file old) to → AreKept xid old new
on-kept xid old new file to on kept = record { of = λ other. by other (same-or file other) }
  where
    by : (other : List ℕ) → (other ≡ file) ⊎ (other ≢ file) → IsKept xid (of_file other old) (of_file other new)
    by other (inl same) = subst (λ f. IsKept xid (of_file f old) (of_file f new)) (sym same) (subst (λ v. IsKept xid (of_file file old) v) (sym on.here) kept)
    by other (inr apart) = subst (λ v. IsKept xid (of_file other old) v) (sym (on.others other apart)) (same-one xid (of_file other old))

then-kept : (xid : ℕ) (old mid new : Pending) → AreKept xid old mid → AreKept xid mid new → AreKept xid old new
then-kept xid old mid new a b = record { of = λ file. record { numbers = λ x c. (a.of file).numbers x ((b.of file).numbers x c); xids = λ x apart h. (b.of file).xids x apart ((a.of file).xids x apart h) } }

-- What is kept is ready for the next xid.
pub kept-ready : (xid seq : ℕ) (old new : Pending) → AreKept xid old new → IsReady xid seq old → IsReady (xid + 1) seq new
kept-ready xid seq old new kept ready = record {
  first = let first = ready.first in omega (arith, first);
  numbers = λ file other c. ready.numbers file other ((kept.of file).numbers other c);
  xids = by;
}
  where
    by : (other : ℕ) → (other ≡ 0) ⊎ (xid + 1 ≤ other) → (file : List ℕ) → piece_under other (of_file file new).pieces ≡ None
    by other (inl none) file = let first = ready.first in (kept.of file).xids other (λ same. absurd (omega (arith, first, none, same))) (ready.xids other (inl none) file)
    by other (inr above) file = (kept.of file).xids other (λ same. absurd (omega (arith, above, same))) (ready.xids other (inr (omega (arith, above))) file)

-- ---- steps of a save

sends-kept : (xid wsize : ℕ) (by_reply : Bool) (run : Segments) (s : Saving) (back : Pending) (next : SavingStep) (new : Saving) (after : Pending)
    → chosen s.upto wsize (of_file s.file back) ≡ run → Sends xid by_reply run s back next new after → AreKept xid back after
sends-kept xid wsize by_reply [] s back next new after is (inl g) = same-kept xid back after g.1
sends-kept xid wsize by_reply (e ∷ es) s back next new after is (inl g) =
    on-kept xid back after s.file (with_sent (piece_of xid e (e ∷ es)) (of_file s.file back)) g.1.0 (sent-kept xid s.upto wsize (of_file s.file back) e es is)
sends-kept xid wsize by_reply run s back next new after is (inr g) = same-kept xid back after g.1

pub goes-kept : (wsize xid : ℕ) (room by_reply : Bool) (s : Saving) (back : Pending) (next : SavingStep) (new : Saving) (after : Pending) → Goes wsize xid room by_reply s back next new after → AreKept xid back after
goes-kept wsize xid room by_reply s back next new after goes = over s.refusal goes
  where
    may : (b : Bool) → SendsIf b xid by_reply (chosen s.upto wsize (of_file s.file back)) s back next new after → AreKept xid back after
    may true g = sends-kept xid wsize by_reply (chosen s.upto wsize (of_file s.file back)) s back next new after refl g
    may false g = same-kept xid back after g.1

    over : (r : Option Fault) → GoesOver r wsize xid room by_reply s back next new after → AreKept xid back after
    over (Some fault) g = same-kept xid back after g.1
    over None g = may (may_send room s) g

write-kept : (wsize asked xid : ℕ) (room : Bool) (told : WriteTold) (s : Saving) (back : Pending) (next : SavingStep) (new : Saving) (after : Pending) → TakesWrite wsize asked xid room told s back next new after → AreKept xid back after
write-kept wsize asked xid room told s back next new after t =
    then-kept xid back t.between after (all-fewer-kept xid back t.between (lands-fewer asked s.file told back t.between t.refusal t.lands)) (goes-kept wsize xid room t.counts (refused_by t.refusal s) t.between next new after t.goes)

decides-kept : (verdict : Verdict) (wsize xid : ℕ) (room : Bool) (s : Saving) (back : Pending) (next : SavingStep) (new : Saving) (after : Pending) → Decides verdict wsize xid room s back next new after → AreKept xid back after
decides-kept AllStable wsize xid room s back next new after d = same-kept xid back after d.1
decides-kept (SendAgain count) wsize xid room s back next new after d = goes-kept wsize xid room false (record s { phase = Resending }) back next new after d

commit-kept : (told : Result Verf Fault) (wsize xid : ℕ) (room : Bool) (s : Saving) (back : Pending) (next : SavingStep) (new : Saving) (after : Pending) → TakesCommit wsize xid room told s back next new after → AreKept xid back after
commit-kept (Err fault) wsize xid room s back next new after t = same-kept xid back after t.1
commit-kept (Ok verf) wsize xid room s back next new after t =
    then-kept xid back t.between after (all-fewer-kept xid back t.between (on-decided s.upto verf back t.between s.file t.decides)) (decides-kept (verdict_of (lost verf s.upto (of_file s.file back).segments)) wsize xid room s t.between next new after t.goes)

repeats-kept : (again : Bool) (wsize : ℕ) (sent turn : Turn) (told : WriteTold) (s : Saving) (back : Pending) (next : SavingStep) (new : Saving) (after : Pending)
    → RepeatsWrite again wsize sent turn told s back next new after → AreKept turn.xid back after
repeats-kept true wsize sent turn told s back next new after r = on-kept turn.xid back after s.file (with_xid sent.xid turn.xid (of_file s.file back)) r.1 (xid-kept sent.xid turn.xid (of_file s.file back))
repeats-kept false wsize sent turn told s back next new after r = write-kept wsize sent.xid turn.xid turn.room told (less_waiting s) back next new after r

told-kept : (wsize : ℕ) (sent turn : Turn) (told : WriteTold) (repeats : List Repeat) (s : Saving) (back : Pending) (next : SavingStep) (new : Saving) (after : Pending) (later : List Repeat)
    → TakesTold wsize sent turn told repeats s back next new after later → AreKept turn.xid back after
told-kept wsize sent turn told repeats s back next new after later t = by (may_again (told_busy told) s) t
  where
    by : (b : Bool) → TakesToldIf b wsize sent turn told repeats s back next new after later → AreKept turn.xid back after
    by true (inl g) = repeats-kept (goes_again true sent turn repeats) wsize sent turn told s back next new after g.0
    by true (inr g) = write-kept wsize sent.xid turn.xid turn.room (Fails faults.Memory) (less_waiting s) back next new after g.0
    by false g = write-kept wsize sent.xid turn.xid turn.room told (less_waiting s) back next new after g.0

first-kept : (again : Bool) (told : Result Verf Fault) (wsize : ℕ) (turn : Turn) (s : Saving) (back : Pending) (next : SavingStep) (new : Saving) (after : Pending)
    → TakesFirst again wsize turn told s back next new after → AreKept turn.xid back after
first-kept true told wsize turn s back next new after t = same-kept turn.xid back after t.1
first-kept false told wsize turn s back next new after t = commit-kept told wsize turn.xid turn.room (less_waiting s) back next new after t

pub takes-kept : (wsize : ℕ) (sent turn : Turn) (came : Result Reply Fault) (repeats : List Repeat) (s : Saving) (back : Pending) (next : SavingStep) (new : Saving) (after : Pending) (later : List Repeat)
    → Takes wsize sent turn came repeats s back next new after later → AreKept turn.xid back after
takes-kept wsize sent turn came repeats s back next new after later takes = by s.phase takes
  where
    by : (p : Phase) → TakesIn p wsize sent turn came repeats s back next new after later → AreKept turn.xid back after
    by Sending t = told-kept wsize sent turn (told_of sent.xid s.file back came) repeats s back next new after later t
    by Resending t = told-kept wsize sent turn (told_of sent.xid s.file back came) repeats s back next new after later t
    by Committing t = first-kept (commit_again (commit_told came) sent turn repeats s) (commit_told came) wsize turn s back next new after t.0
    by CommittingAgain t = same-kept turn.xid back after t.1
