-- Each call of a save names its file.
use Rattle.core_answers.proofs.Prelude.{◌≡◌, ◌==◌, ◌&&◌, ℕ, Bool, true, false, List, [], ◌∷◌, Option, Some, None, Result, Ok, Err, inl, inr, refl, sym, subst, nat_lt, Verdict, AllStable, SendAgain, Verf, Fault, Memory, Reply, NamesFile, Step, Repeat, Turn, goes_again, chosen, piece_of, Pending, of_file, Sent, Segments, Sending, Committing, Resending, CommittingAgain, Saving, commit_told}
use Rattle.claims.specs.Slots.{writes, commits}
use Rattle.client_shelf.specs.declared.step.Step.TheVariants as nexts
use Rattle.file_ops.specs.declared.saving.Phase.{Phase}
use Rattle.file_ops.specs.Saves as saves
use Rattle.file_ops.specs.Syncs as syncs

-- the call of a step, as one of a sync, names the file, if it makes one
abbrev pub CallNames : List ℕ → Step → Type 0
CallNames file (nexts.Send call) = NamesFile file call
CallNames file nexts.Wait = Unit {0}
CallNames file (nexts.Done answer) = Unit {0}

a-write : (file : List ℕ) (piece : Sent) → NamesFile file (saves.write_of file piece)
a-write file piece = writes piece.offset piece.how piece.bytes refl

a-commit : (file : List ℕ) → NamesFile file (saves.commit_of file)
a-commit file = commits 0 0 refl

leads-names : (file : List ℕ) (to : _) (saved : Saving) (next : _) (new : Saving) → saves.Leads to saved next new → CallNames file (syncs.sync_next to) → CallNames file (syncs.sync_next next)
leads-names file to saved next new l n = subst (λ g. CallNames file (syncs.sync_next g)) (sym l.gives_next) n

refused-names : (file : List ℕ) (waiting : ℕ) (fault : Fault) → CallNames file (syncs.sync_next (saves.refused_next waiting fault))
refused-names file waiting fault = by (waiting == 0) refl
  where
    by : (b : Bool) → (waiting == 0) ≡ b → CallNames file (syncs.sync_next (saves.refused_next waiting fault))
    by true e = rw e tt
    by false e = rw e tt

sent-names : (by_reply : Bool) (s : Saving) → CallNames s.file (syncs.sync_next (saves.next_sent by_reply s))
sent-names by_reply s = by (nat_lt 0 s.waiting) (saves.is_again s.phase && by_reply) refl refl
  where
    by : (lt done : Bool) → nat_lt 0 s.waiting ≡ lt → (saves.is_again s.phase && by_reply) ≡ done → CallNames s.file (syncs.sync_next (saves.next_sent by_reply s))
    by true done is ends = rw is tt
    by false true is ends = rw (is, ends) tt
    by false false is ends = rw (is, ends) (a-commit s.file)

sends-names : (xid : ℕ) (by_reply : Bool) (run : Segments) (s : Saving) (back : Pending) (next : _) (new : Saving) (after : Pending)
    → saves.Sends xid by_reply run s back next new after → CallNames s.file (syncs.sync_next next)
sends-names xid by_reply run s back next new after (inr l) = leads-names s.file (saves.refused_next s.waiting Memory) _ next new l.0 (refused-names s.file s.waiting Memory)
sends-names xid by_reply [] s back next new after (inl l) = leads-names s.file (saves.next_sent by_reply s) _ next new l.0 (sent-names by_reply s)
sends-names xid by_reply (e ∷ es) s back next new after (inl l) =
    leads-names s.file _ _ next new l.0 (a-write s.file (piece_of xid e (e ∷ es)))

sends-if-names : (b : Bool) (xid : ℕ) (by_reply : Bool) (run : Segments) (s : Saving) (back : Pending) (next : _) (new : Saving) (after : Pending)
    → saves.SendsIf b xid by_reply run s back next new after → CallNames s.file (syncs.sync_next next)
sends-if-names true xid by_reply run s back next new after l = sends-names xid by_reply run s back next new after l
sends-if-names false xid by_reply run s back next new after l = leads-names s.file _ _ next new l.0 tt

goes-over-names : (refusal : Option Fault) (wsize xid : ℕ) (room by_reply : Bool) (s : Saving) (back : Pending) (next : _) (new : Saving) (after : Pending)
    → saves.GoesOver refusal wsize xid room by_reply s back next new after → CallNames s.file (syncs.sync_next next)
goes-over-names (Some fault) wsize xid room by_reply s back next new after g = leads-names s.file (saves.refused_next s.waiting fault) _ next new g.0 (refused-names s.file s.waiting fault)
goes-over-names None wsize xid room by_reply s back next new after g =
    sends-if-names (saves.may_send room s) xid by_reply (chosen s.upto wsize (of_file s.file back)) s back next new after g

pub goes-names : (wsize xid : ℕ) (room by_reply : Bool) (s : Saving) (back : Pending) (next : _) (new : Saving) (after : Pending)
    → saves.Goes wsize xid room by_reply s back next new after → CallNames s.file (syncs.sync_next next)
goes-names wsize xid room by_reply s back next new after g = goes-over-names s.refusal wsize xid room by_reply s back next new after g

-- ---- with what came of a call

refused-file : (refusal : Option Fault) (s : Saving) → (saves.refused_by refusal s).file ≡ s.file
refused-file None s = refl
refused-file (Some fault) s = refl

write-names : (wsize asked xid : ℕ) (room : Bool) (told : _) (s : Saving) (back : Pending) (next : _) (new : Saving) (after : Pending)
    → saves.TakesWrite wsize asked xid room told s back next new after → CallNames s.file (syncs.sync_next next)
write-names wsize asked xid room told s back next new after t =
    subst (λ (f : List ℕ). CallNames f (syncs.sync_next next)) (refused-file t.refusal s) (goes-names wsize xid room t.counts (saves.refused_by t.refusal s) t.between next new after t.goes)

repeats-names : (more : Bool) (wsize : ℕ) (sent turn : Turn) (told : _) (s : Saving) (back : Pending) (next : _) (new : Saving) (after : Pending)
    → saves.RepeatsWrite more wsize sent turn told s back next new after → CallNames s.file (syncs.sync_next next)
repeats-names true wsize sent turn told s back next new after r =
    leads-names s.file _ _ next new r.0 (a-write s.file (saves.answered sent.xid s.file back))
repeats-names false wsize sent turn told s back next new after r = write-names wsize sent.xid turn.xid turn.room told (saves.less_waiting s) back next new after r

told-names : (busy : Bool) (wsize : ℕ) (sent turn : Turn) (told : _) (repeats : List Repeat) (s : Saving) (back : Pending) (next : _) (new : Saving) (after : Pending)
    (later : List Repeat) → saves.TakesToldIf busy wsize sent turn told repeats s back next new after later → CallNames s.file (syncs.sync_next next)
told-names true wsize sent turn told repeats s back next new after later (inl t) = repeats-names (goes_again true sent turn repeats) wsize sent turn told s back next new after t.0
told-names true wsize sent turn told repeats s back next new after later (inr t) = write-names wsize sent.xid turn.xid turn.room _ (saves.less_waiting s) back next new after t.0
told-names false wsize sent turn told repeats s back next new after later t = write-names wsize sent.xid turn.xid turn.room told (saves.less_waiting s) back next new after t.0

decides-names : (verdict : Verdict) (wsize xid : ℕ) (room : Bool) (s : Saving) (back : Pending) (next : _) (new : Saving) (after : Pending)
    → saves.Decides verdict wsize xid room s back next new after → CallNames s.file (syncs.sync_next next)
decides-names AllStable wsize xid room s back next new after d = leads-names s.file _ _ next new d.0 tt
decides-names (SendAgain count) wsize xid room s back next new after d = goes-names wsize xid room false (record s { phase = Resending }) back next new after d

commit-names : (told : Result Verf Fault) (wsize xid : ℕ) (room : Bool) (s : Saving) (back : Pending) (next : _) (new : Saving) (after : Pending)
    → saves.TakesCommit wsize xid room told s back next new after → CallNames s.file (syncs.sync_next next)
commit-names (Ok verf) wsize xid room s back next new after t = decides-names _ wsize xid room s t.between next new after t.goes
commit-names (Err fault) wsize xid room s back next new after t = leads-names s.file _ _ next new t.0 tt

first-names : (more : Bool) (told : Result Verf Fault) (wsize : ℕ) (turn : Turn) (s : Saving) (back : Pending) (next : _) (new : Saving) (after : Pending)
    → saves.TakesFirst more wsize turn told s back next new after → CallNames s.file (syncs.sync_next next)
first-names true told wsize turn s back next new after t = leads-names s.file _ _ next new t.0 (a-commit s.file)
first-names false told wsize turn s back next new after t = commit-names told wsize turn.xid turn.room (saves.less_waiting s) back next new after t

last-names : (more : Bool) (told : Result Verf Fault) (s : Saving) → CallNames s.file (syncs.sync_next (saves.last_next more told s))
last-names true told s = a-commit s.file
last-names false (Ok verf) s = tt
last-names false (Err fault) s = tt

takes-in-names : (phase : Phase) (wsize : ℕ) (sent turn : Turn) (came : Result Reply Fault) (repeats : List Repeat) (s : Saving) (back : Pending) (next : _) (new : Saving)
    (after : Pending) (later : List Repeat) → saves.TakesIn phase wsize sent turn came repeats s back next new after later → CallNames s.file (syncs.sync_next next)
takes-in-names Sending wsize sent turn came repeats s back next new after later t = told-names _ wsize sent turn _ repeats s back next new after later t
takes-in-names Resending wsize sent turn came repeats s back next new after later t = told-names _ wsize sent turn _ repeats s back next new after later t
takes-in-names Committing wsize sent turn came repeats s back next new after later t =
    first-names (saves.commit_again (commit_told came) sent turn repeats s) (commit_told came) wsize turn s back next new after t.0
takes-in-names CommittingAgain wsize sent turn came repeats s back next new after later t =
    let more = saves.commit_again (commit_told came) sent turn repeats s in
    leads-names s.file (saves.last_next more (commit_told came) s) _ next new t.0 (last-names more (commit_told came) s)

pub takes-names : (wsize : ℕ) (sent turn : Turn) (came : Result Reply Fault) (repeats : List Repeat) (s : Saving) (back : Pending) (next : _) (new : Saving) (after : Pending)
    (later : List Repeat) → saves.Takes wsize sent turn came repeats s back next new after later → CallNames s.file (syncs.sync_next next)
takes-names wsize sent turn came repeats s back next new after later t = takes-in-names s.phase wsize sent turn came repeats s back next new after later t
