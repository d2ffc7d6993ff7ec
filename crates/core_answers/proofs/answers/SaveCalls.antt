-- For which calls a save waits: where it sends, for WRITEs of its file, else for the COMMIT of it.
use Rattle.core_answers.proofs.Prelude.{◌≡◌, ◌==◌, ◌&&◌, ◌+◌, ◌≤◌, ℕ, Bool, true, false, List, [], ◌∷◌, Option, Some, None, Result, Ok, Err, inl, inr, refl, sym, ap, subst, nat_lt, Verdict, AllStable, SendAgain, Verf, Fault, Memory, Call, Reply, Step, Repeat, Turn, goes_again, chosen, piece_of, Pending, of_file, Sent, Segments, Sending, Committing, Resending, CommittingAgain, Saving, commit_told, of_saving, goes-steps, takes-steps}
use Rattle.nfs_file_calls.specs.declared.call.FileCall.TheVariants.{Write}
use Rattle.world_model.specs.declared.message.Call.TheVariants as calls
use Rattle.client_shelf.specs.declared.step.Step.TheVariants as nexts
use Rattle.file_ops.specs.declared.saving.Phase.{Phase}
use Rattle.file_ops.specs.Saves as saves
use Rattle.file_ops.specs.Syncs as syncs

pub record IsWriteOf (file : List ℕ) (call : Call) : Type 0 where
  pub offset : ℕ
  pub how : ℕ
  pub bytes : List ℕ
  pub is : call ≡ calls.File (Write file offset how bytes)

abbrev pub CallBy : Bool → List ℕ → Call → Type 0
CallBy true file call = IsWriteOf file call
CallBy false file call = call ≡ saves.commit_of file

abbrev pub SaveCall : Saving → Call → Type 0
SaveCall s call = CallBy (saves.is_sending s.phase) s.file call

-- a step as one of a sync
abbrev pub CallSo : Step → Saving → Type 0
CallSo (nexts.Send call) new = SaveCall new call
CallSo nexts.Wait new = Unit {0}
CallSo (nexts.Done answer) new = Unit {0}

a-write : (s : Saving) (piece : Sent) → saves.is_sending s.phase ≡ true → SaveCall s (saves.write_of s.file piece)
a-write s piece sending =
    subst (λ (b : Bool). CallBy b s.file (saves.write_of s.file piece)) (sym sending) (record { offset = piece.offset; how = piece.how; bytes = piece.bytes; is = refl })

a-commit : (s : Saving) → saves.is_sending s.phase ≡ false → SaveCall s (saves.commit_of s.file)
a-commit s idle = subst (λ (b : Bool). CallBy b s.file (saves.commit_of s.file)) (sym idle) refl

leads-calls : (to : _) (saved : Saving) (next : _) (new : Saving) → saves.Leads to saved next new → CallSo (syncs.sync_next to) saved → CallSo (syncs.sync_next next) new
leads-calls to saved next new l n = subst (λ g. CallSo (syncs.sync_next g) new) (sym l.gives_next) (subst (λ (s : Saving). CallSo (syncs.sync_next to) s) (sym l.keeps) n)

refused-calls : (s : Saving) (waiting : ℕ) (fault : Fault) → CallSo (syncs.sync_next (saves.refused_next waiting fault)) s
refused-calls s waiting fault = by (waiting == 0) refl
  where
    by : (b : Bool) → (waiting == 0) ≡ b → CallSo (syncs.sync_next (saves.refused_next waiting fault)) s
    by true e = rw e tt
    by false e = rw e tt

commit-idle : (phase : Phase) → saves.is_sending (saves.commit_phase phase) ≡ false
commit-idle Sending = refl
commit-idle Committing = refl
commit-idle Resending = refl
commit-idle CommittingAgain = refl

sent-calls : (by_reply : Bool) (s : Saving) → CallSo (syncs.sync_next (saves.next_sent by_reply s)) (saves.saving_sent by_reply s)
sent-calls by_reply s = by (nat_lt 0 s.waiting) (saves.is_again s.phase && by_reply) refl refl
  where
    by : (lt done : Bool) → nat_lt 0 s.waiting ≡ lt → (saves.is_again s.phase && by_reply) ≡ done → CallSo (syncs.sync_next (saves.next_sent by_reply s)) (saves.saving_sent by_reply s)
    by true done is ends = rw is tt
    by false true is ends = rw (is, ends) tt
    by false false is ends = rw (is, ends) (a-commit (record s { phase = saves.commit_phase s.phase; waiting = 1 }) (commit-idle s.phase))

sends-calls : (xid : ℕ) (by_reply : Bool) (run : Segments) (s : Saving) (back : Pending) (next : _) (new : Saving) (after : Pending) → saves.is_sending s.phase ≡ true
    → saves.Sends xid by_reply run s back next new after → CallSo (syncs.sync_next next) new
sends-calls xid by_reply run s back next new after sending (inr l) = leads-calls (saves.refused_next s.waiting Memory) s next new l.0 (refused-calls s s.waiting Memory)
sends-calls xid by_reply [] s back next new after sending (inl l) = leads-calls (saves.next_sent by_reply s) (saves.saving_sent by_reply s) next new l.0 (sent-calls by_reply s)
sends-calls xid by_reply (e ∷ es) s back next new after sending (inl l) =
    leads-calls _ (record s { waiting = s.waiting + 1 }) next new l.0 (a-write (record s { waiting = s.waiting + 1 }) (piece_of xid e (e ∷ es)) sending)

both-left : (a b : Bool) → (a && b) ≡ true → a ≡ true
both-left true b e = refl
both-left false b e = absurd cc

both-right : (a b : Bool) → (a && b) ≡ true → b ≡ true
both-right true b e = e
both-right false b e = absurd cc

sends-if-calls : (xid : ℕ) (room by_reply b : Bool) (run : Segments) (s : Saving) (back : Pending) (next : _) (new : Saving) (after : Pending) → saves.may_send room s ≡ b
    → saves.SendsIf b xid by_reply run s back next new after → CallSo (syncs.sync_next next) new
sends-if-calls xid room by_reply true run s back next new after may l =
    sends-calls xid by_reply run s back next new after
    (both-right room (saves.is_sending s.phase) (both-left (room && saves.is_sending s.phase) (nat_lt s.waiting 32) may)) l
sends-if-calls xid room by_reply false run s back next new after may l = leads-calls _ s next new l.0 tt

goes-over-calls : (refusal : Option Fault) (wsize xid : ℕ) (room by_reply : Bool) (s : Saving) (back : Pending) (next : _) (new : Saving) (after : Pending)
    → saves.GoesOver refusal wsize xid room by_reply s back next new after → CallSo (syncs.sync_next next) new
goes-over-calls (Some fault) wsize xid room by_reply s back next new after g = leads-calls (saves.refused_next s.waiting fault) s next new g.0 (refused-calls s s.waiting fault)
goes-over-calls None wsize xid room by_reply s back next new after g =
    sends-if-calls xid room by_reply (saves.may_send room s) (chosen s.upto wsize (of_file s.file back)) s back next new after refl g

pub goes-calls : (wsize xid : ℕ) (room by_reply : Bool) (s : Saving) (back : Pending) (next : _) (new : Saving) (after : Pending)
    → saves.Goes wsize xid room by_reply s back next new after → CallSo (syncs.sync_next next) new
goes-calls wsize xid room by_reply s back next new after g = goes-over-calls s.refusal wsize xid room by_reply s back next new after g

-- ---- with what came of a call

write-calls : (wsize asked xid : ℕ) (room : Bool) (told : _) (s : Saving) (back : Pending) (next : _) (new : Saving) (after : Pending)
    → saves.TakesWrite wsize asked xid room told s back next new after → CallSo (syncs.sync_next next) new
write-calls wsize asked xid room told s back next new after t = goes-calls wsize xid room t.counts (saves.refused_by t.refusal s) t.between next new after t.goes

repeats-calls : (more : Bool) (wsize : ℕ) (sent turn : Turn) (told : _) (s : Saving) (back : Pending) (next : _) (new : Saving) (after : Pending) → saves.is_sending s.phase ≡ true
    → saves.RepeatsWrite more wsize sent turn told s back next new after → CallSo (syncs.sync_next next) new
repeats-calls true wsize sent turn told s back next new after sending r = leads-calls _ s next new r.0 (a-write s (saves.answered sent.xid s.file back) sending)
repeats-calls false wsize sent turn told s back next new after sending r = write-calls wsize sent.xid turn.xid turn.room told (saves.less_waiting s) back next new after r

told-calls : (busy : Bool) (wsize : ℕ) (sent turn : Turn) (told : _) (repeats : List Repeat) (s : Saving) (back : Pending) (next : _) (new : Saving) (after : Pending)
    (later : List Repeat) → saves.is_sending s.phase ≡ true → saves.TakesToldIf busy wsize sent turn told repeats s back next new after later → CallSo (syncs.sync_next next) new
told-calls true wsize sent turn told repeats s back next new after later sending (inl t) =
    repeats-calls (goes_again true sent turn repeats) wsize sent turn told s back next new after sending t.0
told-calls true wsize sent turn told repeats s back next new after later sending (inr t) =
    write-calls wsize sent.xid turn.xid turn.room _ (saves.less_waiting s) back next new after t.0
told-calls false wsize sent turn told repeats s back next new after later sending t =
    write-calls wsize sent.xid turn.xid turn.room told (saves.less_waiting s) back next new after t.0

decides-calls : (verdict : Verdict) (wsize xid : ℕ) (room : Bool) (s : Saving) (back : Pending) (next : _) (new : Saving) (after : Pending)
    → saves.Decides verdict wsize xid room s back next new after → CallSo (syncs.sync_next next) new
decides-calls AllStable wsize xid room s back next new after d = leads-calls _ s next new d.0 tt
decides-calls (SendAgain count) wsize xid room s back next new after d = goes-calls wsize xid room false (record s { phase = Resending }) back next new after d

commit-calls : (told : Result Verf Fault) (wsize xid : ℕ) (room : Bool) (s : Saving) (back : Pending) (next : _) (new : Saving) (after : Pending)
    → saves.TakesCommit wsize xid room told s back next new after → CallSo (syncs.sync_next next) new
commit-calls (Ok verf) wsize xid room s back next new after t = decides-calls _ wsize xid room s t.between next new after t.goes
commit-calls (Err fault) wsize xid room s back next new after t = leads-calls _ s next new t.0 tt

first-calls : (more : Bool) (told : Result Verf Fault) (wsize : ℕ) (turn : Turn) (s : Saving) (back : Pending) (next : _) (new : Saving) (after : Pending) → saves.is_sending s.phase ≡ false
    → saves.TakesFirst more wsize turn told s back next new after → CallSo (syncs.sync_next next) new
first-calls true told wsize turn s back next new after idle t = leads-calls _ (saves.put_off_more s) next new t.0 (a-commit (saves.put_off_more s) idle)
first-calls false told wsize turn s back next new after idle t = commit-calls told wsize turn.xid turn.room (saves.less_waiting s) back next new after t

last-calls : (more : Bool) (told : Result Verf Fault) (s : Saving) → saves.is_sending s.phase ≡ false → CallSo (syncs.sync_next (saves.last_next more told s)) (saves.last_saving more s)
last-calls true told s idle = a-commit (saves.put_off_more s) idle
last-calls false (Ok verf) s idle = tt
last-calls false (Err fault) s idle = tt

takes-in-calls : (phase : Phase) (wsize : ℕ) (sent turn : Turn) (came : Result Reply Fault) (repeats : List Repeat) (s : Saving) (back : Pending) (next : _) (new : Saving)
    (after : Pending) (later : List Repeat) → s.phase ≡ phase → saves.TakesIn phase wsize sent turn came repeats s back next new after later → CallSo (syncs.sync_next next) new
takes-in-calls Sending wsize sent turn came repeats s back next new after later is t =
    told-calls _ wsize sent turn _ repeats s back next new after later (ap saves.is_sending is) t
takes-in-calls Resending wsize sent turn came repeats s back next new after later is t =
    told-calls _ wsize sent turn _ repeats s back next new after later (ap saves.is_sending is) t
takes-in-calls Committing wsize sent turn came repeats s back next new after later is t =
    first-calls (saves.commit_again (commit_told came) sent turn repeats s) (commit_told came) wsize turn s back next new after (ap saves.is_sending is) t.0
takes-in-calls CommittingAgain wsize sent turn came repeats s back next new after later is t =
    let more = saves.commit_again (commit_told came) sent turn repeats s in
    leads-calls (saves.last_next more (commit_told came) s) (saves.last_saving more s) next new t.0 (last-calls more (commit_told came) s (ap saves.is_sending is))

pub takes-calls : (wsize : ℕ) (sent turn : Turn) (came : Result Reply Fault) (repeats : List Repeat) (s : Saving) (back : Pending) (next : _) (new : Saving) (after : Pending)
    (later : List Repeat) → saves.Takes wsize sent turn came repeats s back next new after later → CallSo (syncs.sync_next next) new
takes-calls wsize sent turn came repeats s back next new after later t = takes-in-calls s.phase wsize sent turn came repeats s back next new after later refl t

-- ---- while others wait it goes on waiting for the same

call-stays : (s new : Saving) (c : Call) → new.file ≡ s.file → saves.is_sending new.phase ≡ saves.is_sending s.phase → SaveCall s c → SaveCall new c
call-stays s new c file phase e = subst (λ (b : Bool). CallBy b new.file c) (sym phase) (subst (λ (f : List ℕ). CallBy (saves.is_sending s.phase) f c) (sym file) e)

pub goes-stay : (wsize xid : ℕ) (room by_reply : Bool) (s : Saving) (back : Pending) (next : _) (new : Saving) (after : Pending) → saves.Goes wsize xid room by_reply s back next new after
    → 1 ≤ of_saving s → (c : Call) → SaveCall s c → SaveCall new c
goes-stay wsize xid room by_reply s back next new after g some c e =
    let k = goes-steps (Unit {0}) wsize xid room by_reply s back next new after (λ again. tt) g in
    call-stays s new c k.file (k.stays some) e

pub takes-stay : (wsize : ℕ) (sent turn : Turn) (came : Result Reply Fault) (repeats : List Repeat) (s : Saving) (back : Pending) (next : _) (new : Saving) (after : Pending)
    (later : List Repeat) (others : ℕ) → of_saving s ≡ others + 1 → saves.Takes wsize sent turn came repeats s back next new after later
    → 1 ≤ others → (c : Call) → SaveCall s c → SaveCall new c
takes-stay wsize sent turn came repeats s back next new after later others one t some c e =
    let k = takes-steps (Unit {0}) wsize sent turn came repeats s back next new after later others one (λ again. tt) (λ idle verf told. tt) t in
    call-stays s new c k.file (k.stays some) e
