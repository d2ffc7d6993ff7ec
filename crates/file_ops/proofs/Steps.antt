-- Each step of an operation on a file leaves what the next step needs.
use Rattle.std.proofs.Common.{◌≡◌, ◌≢◌, ◌&&◌, ◌||◌, ◌+◌, ◌-◌, ◌≤◌, ◌<◌, ℕ, Bool, true, false, not, List, [], ◌∷◌, ◌++◌, length, Option, Some, None, Result, Ok, Err, refl, sym, ap, ◌⊎◌, inl, inr, subst, arith}
use Rattle.std.specs.Prelude.{Contains, nat_lt, nat_le, if◌then◌else◌}
use Rattle.std.proofs.lemmas.List.{map-append}
use Rattle.std.proofs.lemmas.List.Elements.{Contains-append_left, Contains-append_right, Contains-append_cases}
use Rattle.world_model.specs.declared.answer.Fault.{Fault}
use Rattle.world_model.specs.declared.message.Reply.{Reply}
use Rattle.client_shelf.specs.declared.shelf.Shelf.{Shelf}
use Rattle.client_shelf.specs.declared.turn.Turn.{Turn}
use Rattle.client_shelf.specs.LaneFiles.{left, is_first}
use Rattle.open_files.specs.Slots.{Opens}
use Rattle.write_back.specs.Segments.{Segments, end_of, head_of, before, after, added, written, last_end, cut_from}
use Rattle.write_back.specs.Pieces.{FilePending, nothing, piece_under}
use Rattle.write_back.specs.Files.{Pending, of_file, OnFile, with_bytes, numbers_of}
use Rattle.write_back.proofs.WritesByFile.{same-or}
use Rattle.client_shelf.specs.declared.step.Step.{Step}
use Rattle.file_ops.specs.declared.saving.Saving.{Saving}
use Rattle.file_ops.specs.declared.saving.SavingStep.{SavingStep}
use Rattle.file_ops.specs.declared.saving.SavingStep.TheVariants.{Send, Wait, Ended}
use Rattle.file_ops.specs.declared.sync_file.SyncFile.{SyncFile}
use Rattle.file_ops.specs.declared.sync_file.Syncing.{Syncing}
use Rattle.file_ops.specs.declared.sync_file.Syncing.TheVariants as syncing
use Rattle.file_ops.specs.declared.close_file.CloseFile.{CloseFile}
use Rattle.file_ops.specs.declared.close_file.Closing.{Closing}
use Rattle.file_ops.specs.declared.close_file.Closing.TheVariants as closing
use Rattle.file_ops.specs.declared.write_file.WriteFile.{WriteFile}
use Rattle.file_ops.specs.declared.write_file.Writing.{Writing}
use Rattle.file_ops.specs.declared.write_file.Writing.TheVariants as writing
use Rattle.nfs_types.specs.declared.wcc.Wcc.{Wcc}
use Rattle.write_back.specs.Landing.{with_cut}
use Rattle.file_ops.specs.declared.truncate_file.TruncateFile.{TruncateFile}
use Rattle.file_ops.specs.declared.truncate_file.Truncating.{Truncating}
use Rattle.file_ops.specs.declared.truncate_file.Truncating.TheVariants as truncating
use Rattle.file_ops.specs.TruncateFile as truncates
use Rattle.file_ops.specs.Adding.{is_full}
use Rattle.client_shelf.specs.Busy.{goes_again}
use Rattle.file_ops.specs.Ready.{IsReady}
use Rattle.file_ops.specs.SlotFiles.{IsUnused, file_at, joined}
use Rattle.file_ops.specs.Opens.{file_to_write}
use Rattle.file_ops.specs.Closings.{GivesUpBy, GivesIf, refusal_of, remove_busy}
use Rattle.file_ops.specs.Quiet.{is_quiet}
use Rattle.file_ops.specs.Saves.{begun}
use Rattle.file_ops.specs.Syncs as syncs
use Rattle.file_ops.specs.Closes as closes
use Rattle.file_ops.specs.WriteFile as writes
use Rattle.file_ops.proofs.SaveEnds.{takes-fewer}
use Rattle.file_ops.proofs.Fewer.{AreFewer, IsIn, none-in, cases-in, both-in, later-in, numbers_written, numbers_flying}
use Rattle.file_ops.proofs.Readies.{AreKept, IsKept, on-kept, kept-ready, goes-kept, takes-kept}

-- ---- nothing changes

pub next-ready : (xid seq : ℕ) (back : Pending) → IsReady xid seq back → IsReady (xid + 1) seq back
next-ready xid seq back r = record { first = let first = r.first in omega (arith, first); numbers = r.numbers; xids = by }
  where
    by : (other : ℕ) → (other ≡ 0) ⊎ (xid + 1 ≤ other) → IsUnused other back
    by other (inl none) = r.xids other (inl none)
    by other (inr above) = r.xids other (inr (omega (arith, above)))

pub shelf-ready : (xid seq : ℕ) (new : Shelf) → new.seq ≡ seq → IsReady xid seq new.back → IsReady xid new.seq new.back
shelf-ready xid seq new is r = subst (λ n. IsReady xid n new.back) (sym is) r

pub same-ready : (xid : ℕ) (old new : Shelf) → new ≡ old → IsReady xid old.seq old.back → IsReady (xid + 1) new.seq new.back
same-ready xid old new is r = subst (λ s. IsReady (xid + 1) s.seq s.back) (sym is) (next-ready xid old.seq old.back r)

-- ---- bytes that are added, or given up

before-in : (place : ℕ) (es : Segments) → IsIn (numbers_written (before place es)) (numbers_written es)
before-in place [] x c = c
before-in place (e ∷ es) x c = by (nat_lt e.0 place) (before-in place es) c
  where
    by : (b : Bool) → IsIn (numbers_written (before place es)) (numbers_written es) → Contains (numbers_written (if b then (e.0, head_of (place - e.0) e.1) ∷ before place es else [])) x → Contains (numbers_written (e ∷ es)) x
    by true w c = both-in e.1.number (numbers_written (before place es)) (numbers_written es) w x c
    by false w c = absurd (none-in x c)

after-in : (place : ℕ) (es : Segments) → IsIn (numbers_written (after place es)) (numbers_written es)
after-in place [] x c = c
after-in place (e ∷ es) x c = by (nat_le (end_of e) place) (nat_lt e.0 place) refl refl (after-in place es) c
  where
    by : (a b : Bool) → nat_le (end_of e) place ≡ a → nat_lt e.0 place ≡ b → IsIn (numbers_written (after place es)) (numbers_written es) → Contains (numbers_written (after place (e ∷ es))) x → Contains (numbers_written (e ∷ es)) x
    by true b ha hb w c = let d : Contains (numbers_written (after place es)) x = (rw ha at c) in later-in e.1.number (numbers_written es) x (w x d)
    by false true ha hb w c = let d : Contains (e.1.number ∷ numbers_written es) x = (rw (ha, hb) at c) in d
    by false false ha hb w c = let d : Contains (e.1.number ∷ numbers_written es) x = (rw (ha, hb) at c) in d

added-in : (offset : ℕ) (bytes : List ℕ) (number : ℕ) (es : Segments) (x : ℕ) → Contains (numbers_written (added offset bytes number es)) x → (number ≡ x) ⊎ Contains (numbers_written es) x
added-in offset bytes number es x c = by (Contains-append_cases (numbers_written (before offset es)) (number ∷ numbers_written (after (offset + length bytes) es)) x (subst (λ ns. Contains ns x) split c))
  where
    split : numbers_written (added offset bytes number es) ≡ numbers_written (before offset es) ++ number ∷ numbers_written (after (offset + length bytes) es)
    split = map-append (λ e. e.1.number) (before offset es) ((offset, written bytes number) ∷ after (offset + length bytes) es)

    past : (number ≡ x) ⊎ Contains (numbers_written (after (offset + length bytes) es)) x → (number ≡ x) ⊎ Contains (numbers_written es) x
    past (inl is) = inl is
    past (inr d) = inr (after-in (offset + length bytes) es x d)

    by : Contains (numbers_written (before offset es)) x ⊎ Contains (number ∷ numbers_written (after (offset + length bytes) es)) x → (number ≡ x) ⊎ Contains (numbers_written es) x
    by (inl d) = inr (before-in offset es x d)
    by (inr d) = past (cases-in number (numbers_written (after (offset + length bytes) es)) x d)

bytes-numbers : (offset : ℕ) (bytes : List ℕ) (number : ℕ) (of : FilePending) (x : ℕ) → Contains (numbers_of (with_bytes offset bytes number of)) x → (number ≡ x) ⊎ Contains (numbers_of of) x
bytes-numbers offset [] number of x c = inr c
bytes-numbers offset (b ∷ bs) number of x c = by (Contains-append_cases (numbers_written (added offset (b ∷ bs) number of.segments)) (numbers_flying of.pieces) x c)
  where
    past : (number ≡ x) ⊎ Contains (numbers_written of.segments) x → (number ≡ x) ⊎ Contains (numbers_of of) x
    past (inl is) = inl is
    past (inr d) = inr (Contains-append_left (numbers_written of.segments) (numbers_flying of.pieces) x d)

    by : Contains (numbers_written (added offset (b ∷ bs) number of.segments)) x ⊎ Contains (numbers_flying of.pieces) x → (number ≡ x) ⊎ Contains (numbers_of of) x
    by (inl d) = past (added-in offset (b ∷ bs) number of.segments x d)
    by (inr d) = inr (Contains-append_right (numbers_written of.segments) (numbers_flying of.pieces) x d)

bytes-under : (xid offset : ℕ) (bytes : List ℕ) (number : ℕ) (of : FilePending) → piece_under xid of.pieces ≡ None → piece_under xid (with_bytes offset bytes number of).pieces ≡ None
bytes-under xid offset [] number of h = h
bytes-under xid offset (b ∷ bs) number of h = h

pub add-ready : (xid seq offset : ℕ) (bytes : List ℕ) (file : List ℕ) (old new : Pending) → OnFile old new file (with_bytes offset bytes (seq + 1) (of_file file old)) → IsReady xid seq old → IsReady xid (seq + 1) new
add-ready xid seq offset bytes file old new on r = record { first = r.first; numbers = λ other n c. number other n c (same-or file other); xids = λ x above other. under x above other (same-or file other) }
  where
    told : (n : ℕ) → (seq + 1 ≡ n) ⊎ Contains (numbers_of (of_file file old)) n → n < seq + 1 + 1
    told n (inl is) = omega (arith, is)
    told n (inr d) = omega (arith, r.numbers file n d)

    number : (other : List ℕ) (n : ℕ) → Contains (numbers_of (of_file other new)) n → (other ≡ file) ⊎ (other ≢ file) → n < seq + 1 + 1
    number other n c (inl same) =
        told n (bytes-numbers offset bytes (seq + 1) (of_file file old) n (subst (λ v. Contains (numbers_of v) n) on.here (subst (λ f. Contains (numbers_of (of_file f new)) n) same c)))
    number other n c (inr apart) = omega (arith, r.numbers other n (subst (λ v. Contains (numbers_of v) n) (on.others other apart) c))

    under : (x : ℕ) → (x ≡ 0) ⊎ (xid ≤ x) → (other : List ℕ) → (other ≡ file) ⊎ (other ≢ file) → piece_under x (of_file other new).pieces ≡ None
    under x above other (inl same) = subst (λ f. piece_under x (of_file f new).pieces ≡ None) (sym same) (subst (λ v. piece_under x v.pieces ≡ None) (sym on.here) (bytes-under x offset bytes (seq + 1) (of_file file old) (r.xids x above file)))
    under x above other (inr apart) = subst (λ v. piece_under x v.pieces ≡ None) (sym (on.others other apart)) (r.xids x above other)

pub same-back : (xid seq : ℕ) (old new : Pending) → new ≡ old → IsReady xid seq old → IsReady xid seq new
same-back xid seq old new is r = subst (λ p. IsReady xid seq p) (sym is) r

less-ready : (xid seq : ℕ) (old new : Pending) (file : List ℕ) → OnFile old new file nothing → IsReady xid seq old → IsReady xid seq new
less-ready xid seq old new file on r = record { first = r.first; numbers = λ other n c. number other n c (same-or file other); xids = λ x above other. under x above other (same-or file other) }
  where
    number : (other : List ℕ) (n : ℕ) → Contains (numbers_of (of_file other new)) n → (other ≡ file) ⊎ (other ≢ file) → n < seq + 1
    number other n c (inl same) = absurd (none-in n (subst (λ v. Contains (numbers_of v) n) on.here (subst (λ f. Contains (numbers_of (of_file f new)) n) same c)))
    number other n c (inr apart) = r.numbers other n (subst (λ v. Contains (numbers_of v) n) (on.others other apart) c)

    under : (x : ℕ) → (x ≡ 0) ⊎ (xid ≤ x) → (other : List ℕ) → (other ≡ file) ⊎ (other ≢ file) → piece_under x (of_file other new).pieces ≡ None
    under x above other (inl same) = subst (λ f. piece_under x (of_file f new).pieces ≡ None) (sym same) (subst (λ v. piece_under x v.pieces ≡ None) (sym on.here) refl)
    under x above other (inr apart) = subst (λ v. piece_under x v.pieces ≡ None) (sym (on.others other apart)) (r.xids x above other)

gives-ready : (xid seq : ℕ) (b : Bool) (file : List ℕ) (old new : Pending) → GivesIf b file old new → IsReady xid seq old → IsReady xid seq new
gives-ready xid seq true file old new g r = less-ready xid seq old new file g r
gives-ready xid seq false file old new g r = same-back xid seq old new g r

pub gives-by-ready : (xid seq : ℕ) (refusal : Option Fault) (file : List ℕ) (opens : Opens) (old new : Pending) → GivesUpBy refusal file opens old new → IsReady xid seq old → IsReady xid seq new
gives-by-ready xid seq None file opens old new g r = same-back xid seq old new g r
gives-by-ready xid seq (Some fault) file opens old new g r = gives-ready xid seq (not g.is_open && is_quiet file old) file old new g.back r

-- ---- syncs

pub kept-on : (xid seq : ℕ) (old : Pending) (new : Shelf) → new.seq ≡ seq → AreKept xid old new.back → IsReady xid seq old → IsReady (xid + 1) new.seq new.back
kept-on xid seq old new is kept r = shelf-ready (xid + 1) seq new is (kept-ready xid seq old new.back kept r)

sync-queues : (b : Bool) (wsize lane : ℕ) (turn : Turn) (saving : Saving) (old : Shelf) (next : Step) (state : Syncing) (new : Shelf)
    → syncs.QueuesIf b wsize lane turn saving old next state new → IsReady turn.xid old.seq old.back → IsReady (turn.xid + 1) new.seq new.back
sync-queues true wsize lane turn saving old next state new q r =
    kept-on turn.xid old.seq old.back new (ap (λ s. s.seq) q.others) (goes-kept wsize turn.xid turn.room false saving old.back q.gives q.saved new.back q.goes) r
sync-queues false wsize lane turn saving old next state new q r = same-ready turn.xid old new q.shelf_is r

pub sync-starts-ready : (wsize : ℕ) (machine : SyncFile) (turn : Turn) (old : Shelf) (next : Step) (state : Syncing) (new : Shelf)
    → syncs.Starts wsize machine turn old next state new → IsReady turn.xid old.seq old.back → IsReady (turn.xid + 1) new.seq new.back
sync-starts-ready wsize machine turn old next state new s r = at (file_at machine.lane machine.slot old.opens) s
  where
    at : (found : Option (List ℕ)) → syncs.StartsAt found wsize machine turn old next state new → IsReady (turn.xid + 1) new.seq new.back
    at None s = same-ready turn.xid old new s.shelf_is r
    at (Some file) s = sync-queues (is_first machine.lane (joined machine.lane file old).order) wsize machine.lane turn (begun file old.seq) (joined machine.lane file old) next state new s r

pub sync-resumes-ready : (at : Syncing) (wsize : ℕ) (machine : SyncFile) (turn : Turn) (old : Shelf) (next : Step) (state : Syncing) (new : Shelf)
    → syncs.Resumes at wsize machine turn old next state new → IsReady turn.xid old.seq old.back → IsReady (turn.xid + 1) new.seq new.back
sync-resumes-ready syncing.Idle wsize machine turn old next state new s r = same-ready turn.xid old new s.shelf_is r
sync-resumes-ready (syncing.Saves saving) wsize machine turn old next state new s r = sync-queues (is_first machine.lane old.order) wsize machine.lane turn saving old next state new s r

pub sync-takes-ready : (at : Syncing) (wsize : ℕ) (machine : SyncFile) (sent turn : Turn) (came : Result Reply Fault) (old : Shelf) (next : Step) (state : Syncing) (new : Shelf)
    → syncs.Takes at wsize machine sent turn came old next state new → IsReady turn.xid old.seq old.back → IsReady (turn.xid + 1) new.seq new.back
sync-takes-ready syncing.Idle wsize machine sent turn came old next state new t r = same-ready turn.xid old new t.shelf_is r
sync-takes-ready (syncing.Saves saving) wsize machine sent turn came old next state new t r =
    kept-on turn.xid old.seq old.back new (ap (λ s. s.seq) t.others) (takes-kept wsize sent turn came old.repeats saving old.back t.gives t.saved new.back new.repeats t.takes) r

-- ---- closes

close-ends : (xid lane : ℕ) (file : List ℕ) (refusal : Option Fault) (old : Shelf) (next : Step) (state : Closing) (new : Shelf)
    → closes.Ends lane file refusal old next state new → IsReady xid old.seq old.back → IsReady xid new.seq new.back
close-ends xid lane file refusal old next state new e r = shelf-ready xid old.seq new (ap (λ s. s.seq) e.others) (gives-by-ready xid old.seq refusal file old.opens old.back new.back e.back r)

close-frees : (xid lane slot : ℕ) (room : Bool) (file : List ℕ) (refusal : Option Fault) (old : Shelf) (next : Step) (state : Closing) (new : Shelf)
    → closes.Frees lane slot room file refusal old next state new → IsReady xid old.seq old.back → IsReady xid new.seq new.back
close-frees xid lane slot room file refusal old next state new f r = at f.place f.ends
  where
    freed : IsReady xid f.freed.seq f.freed.back
    freed = subst (λ s. IsReady xid s.seq s.back) (sym f.slot_is) r

    at : (place : Option (List ℕ × List ℕ)) → closes.EndsAt place lane room file refusal f.freed next state new → IsReady xid new.seq new.back
    at None e = close-ends xid lane file refusal f.freed next state new e freed
    at (Some place) e = subst (λ s. IsReady xid s.seq s.back) (sym e.shelf_is) freed

close-follows : (xid : ℕ) (gives : SavingStep) (lane slot : ℕ) (room begun : Bool) (saving : Saving) (old : Shelf) (next : Step) (state : Closing) (new : Shelf)
    → closes.Follows gives lane slot room begun saving old next state new → IsReady xid old.seq old.back → IsReady xid new.seq new.back
close-follows xid (Send call) lane slot room begun saving old next state new f r = subst (λ s. IsReady xid s.seq s.back) (sym f.2) r
close-follows xid Wait lane slot room begun saving old next state new f r = subst (λ s. IsReady xid s.seq s.back) (sym f.2) r
close-follows xid (Ended result) lane slot room begun saving old next state new f r = close-frees xid lane slot room saving.file (refusal_of result) old next state new f r

close-on : (wsize lane slot : ℕ) (turn : Turn) (begun : Bool) (saving : Saving) (old : Shelf) (next : Step) (state : Closing) (new : Shelf)
    → closes.GoesOn wsize lane slot turn begun saving old next state new → IsReady turn.xid old.seq old.back → IsReady (turn.xid + 1) new.seq new.back
close-on wsize lane slot turn begun saving old next state new g r =
    close-follows (turn.xid + 1) g.gives lane slot turn.room begun g.saved g.gone next state new g.follows
    (kept-on turn.xid old.seq old.back g.gone (ap (λ s. s.seq) g.others) (goes-kept wsize turn.xid turn.room false saving old.back g.gives g.saved g.gone.back g.goes) r)

close-queues : (b : Bool) (wsize lane slot : ℕ) (turn : Turn) (saving : Saving) (old : Shelf) (next : Step) (state : Closing) (new : Shelf)
    → closes.QueuesIf b wsize lane slot turn saving old next state new → IsReady turn.xid old.seq old.back → IsReady (turn.xid + 1) new.seq new.back
close-queues false wsize lane slot turn saving old next state new q r = same-ready turn.xid old new q.shelf_is r
close-queues true wsize lane slot turn saving old next state new q r = at (last_end (of_file saving.file old.back).segments) q
  where
    at : (end : Option ℕ) → closes.Begins end wsize lane slot turn saving old next state new → IsReady (turn.xid + 1) new.seq new.back
    at None b = close-frees (turn.xid + 1) lane slot turn.room saving.file None old next state new b (next-ready turn.xid old.seq old.back r)
    at (Some end) b = close-on wsize lane slot turn false saving old next state new b r

pub close-starts-ready : (wsize : ℕ) (machine : CloseFile) (turn : Turn) (old : Shelf) (next : Step) (state : Closing) (new : Shelf)
    → closes.Starts wsize machine turn old next state new → IsReady turn.xid old.seq old.back → IsReady (turn.xid + 1) new.seq new.back
close-starts-ready wsize machine turn old next state new s r = at (file_at machine.lane machine.slot old.opens) s
  where
    at : (found : Option (List ℕ)) → closes.StartsAt found wsize machine turn old next state new → IsReady (turn.xid + 1) new.seq new.back
    at None s = same-ready turn.xid old new s.shelf_is r
    at (Some file) s = close-queues (is_first machine.lane (joined machine.lane file old).order) wsize machine.lane machine.slot turn (begun file old.seq) (joined machine.lane file old) next state new s r

pub close-resumes-ready : (at : Closing) (wsize : ℕ) (machine : CloseFile) (turn : Turn) (old : Shelf) (next : Step) (state : Closing) (new : Shelf)
    → closes.Resumes at wsize machine turn old next state new → IsReady turn.xid old.seq old.back → IsReady (turn.xid + 1) new.seq new.back
close-resumes-ready closing.Idle wsize machine turn old next state new s r = same-ready turn.xid old new s.shelf_is r
close-resumes-ready (closing.Queued saving) wsize machine turn old next state new s r = close-queues (is_first machine.lane old.order) wsize machine.lane machine.slot turn saving old next state new s r
close-resumes-ready (closing.Saves saving) wsize machine turn old next state new s r = by (is_first machine.lane old.order) s
  where
    by : (b : Bool) → closes.GoesOnIf b wsize machine.lane machine.slot turn saving old next state new → IsReady (turn.xid + 1) new.seq new.back
    by true g = close-on wsize machine.lane machine.slot turn true saving old next state new g r
    by false g = same-ready turn.xid old new g.shelf_is r
close-resumes-ready (closing.ToRemove removal) wsize machine turn old next state new s r = same-ready turn.xid old new s.shelf_is r
close-resumes-ready (closing.Removing removal) wsize machine turn old next state new s r = same-ready turn.xid old new s.shelf_is r

pub close-takes-ready : (at : Closing) (wsize : ℕ) (machine : CloseFile) (sent turn : Turn) (came : Result Reply Fault) (old : Shelf) (next : Step) (state : Closing) (new : Shelf)
    → closes.Takes at wsize machine sent turn came old next state new → IsReady turn.xid old.seq old.back → IsReady (turn.xid + 1) new.seq new.back
close-takes-ready closing.Idle wsize machine sent turn came old next state new t r = same-ready turn.xid old new t.shelf_is r
close-takes-ready (closing.Queued saving) wsize machine sent turn came old next state new t r = same-ready turn.xid old new t.shelf_is r
close-takes-ready (closing.ToRemove removal) wsize machine sent turn came old next state new t r = same-ready turn.xid old new t.shelf_is r
close-takes-ready (closing.Saves saving) wsize machine sent turn came old next state new t r =
    close-follows (turn.xid + 1) t.gives machine.lane machine.slot turn.room true t.saved t.took next state new t.follows
    (kept-on turn.xid old.seq old.back t.took (ap (λ s. s.seq) t.others) (takes-kept wsize sent turn came old.repeats saving old.back t.gives t.saved t.took.back t.took.repeats t.takes) r)
close-takes-ready (closing.Removing removal) wsize machine sent turn came old next state new t r = by (goes_again (remove_busy came) sent turn old.repeats) t.ends
  where
    took : IsReady (turn.xid + 1) t.took.seq t.took.back
    took = subst (λ s. IsReady (turn.xid + 1) s.seq s.back) (sym t.others) (next-ready turn.xid old.seq old.back r)

    by : (b : Bool) → closes.EndsIf b machine.lane removal t.took next state new → IsReady (turn.xid + 1) new.seq new.back
    by true e = subst (λ s. IsReady (turn.xid + 1) s.seq s.back) (sym e.shelf_is) took
    by false e = close-ends (turn.xid + 1) machine.lane removal.file removal.refusal t.took next state new e took

-- ---- writes

write-saves : (b : Bool) (wsize lane : ℕ) (file : List ℕ) (saving : Saving) (turn : Turn) (shelf : Shelf) (next : Step) (new : Writing) (after : Shelf)
    → writes.SavesIf b wsize lane file saving turn shelf next new after → IsReady turn.xid shelf.seq shelf.back → IsReady (turn.xid + 1) after.seq after.back
write-saves false wsize lane file saving turn shelf next new after s r = same-ready turn.xid shelf after s.shelf_is r
write-saves true wsize lane file saving turn shelf next new after s r = subst (λ x. IsReady (turn.xid + 1) x.seq x.back) (sym s.leads.shelf_is) (told s.told)
  where
    kept : IsReady (turn.xid + 1) shelf.seq s.back
    kept = kept-ready turn.xid shelf.seq shelf.back s.back (goes-kept wsize turn.xid turn.room false saving shelf.back s.told s.saved s.back s.goes) r

    told : (t : SavingStep) → IsReady (turn.xid + 1) (writes.room_shelf t lane (record shelf { back = s.back })).seq (writes.room_shelf t lane (record shelf { back = s.back })).back
    told (Send call) = kept
    told Wait = kept
    told (Ended (Ok done)) = kept
    told (Ended (Err fault)) = kept

write-writes : (b : Bool) (wsize lane : ℕ) (file : List ℕ) (offset : ℕ) (bytes : List ℕ) (turn : Turn) (shelf : Shelf) (next : Step) (new : Writing) (after : Shelf)
    → writes.WritesIf b wsize lane file offset bytes turn shelf next new after → IsReady turn.xid shelf.seq shelf.back → IsReady (turn.xid + 1) after.seq after.back
write-writes true wsize lane file offset bytes turn shelf next new after (inl s) r =
    write-saves (is_first lane (joined lane s.of shelf).order) wsize lane file (begun s.of shelf.seq) turn (joined lane s.of shelf) next new after s.saves r
write-writes true wsize lane file offset bytes turn shelf next new after (inr s) r = same-ready turn.xid shelf after s.1.shelf_is r
write-writes false wsize lane file offset bytes turn shelf next new after (inl a) r =
    shelf-ready (turn.xid + 1) (shelf.seq + 1) after (ap (λ s. s.seq) a.leads.shelf_is)
    (add-ready (turn.xid + 1) shelf.seq offset bytes file shelf.back after.back a.adds (next-ready turn.xid shelf.seq shelf.back r))
write-writes false wsize lane file offset bytes turn shelf next new after (inr s) r = same-ready turn.xid shelf after s.shelf_is r

pub writes-ready : (wsize lane : ℕ) (file : List ℕ) (offset : ℕ) (bytes : List ℕ) (turn : Turn) (shelf : Shelf) (next : Step) (new : Writing) (after : Shelf)
    → writes.Writes wsize lane file offset bytes turn shelf next new after → IsReady turn.xid shelf.seq shelf.back → IsReady (turn.xid + 1) after.seq after.back
writes-ready wsize lane file offset bytes turn shelf next new after w r = write-writes (is_full bytes shelf.back) wsize lane file offset bytes turn shelf next new after w r

pub write-starts-ready : (wsize : ℕ) (machine : WriteFile) (turn : Turn) (old : Shelf) (next : Step) (new : WriteFile) (after : Shelf)
    → writes.Starts wsize machine turn old next new after → IsReady turn.xid old.seq old.back → IsReady (turn.xid + 1) after.seq after.back
write-starts-ready wsize machine turn old next new after s r = at (file_to_write machine.lane machine.slot old.opens) s
  where
    at : (found : Result (List ℕ) Fault) → writes.StartsAt found wsize machine turn old next new after → IsReady (turn.xid + 1) after.seq after.back
    at (Err fault) s = same-ready turn.xid old after s.refuses.shelf_is r
    at (Ok file) (inl w) = writes-ready wsize machine.lane file machine.offset (writes.text_bytes machine.text) turn old next new.state after w.writes r
    at (Ok file) (inr u) = same-ready turn.xid old after u.refuses.shelf_is r

pub write-resumes-ready : (at : Writing) (wsize lane : ℕ) (turn : Turn) (old : Shelf) (next : Step) (new : Writing) (after : Shelf)
    → writes.ResumesIn at wsize lane turn old next new after → IsReady turn.xid old.seq old.back → IsReady (turn.xid + 1) after.seq after.back
write-resumes-ready writing.Idle wsize lane turn old next new after s r = same-ready turn.xid old after s.shelf_is r
write-resumes-ready (writing.Room file saving) wsize lane turn old next new after s r = write-saves (is_first lane old.order) wsize lane file saving turn old next new after s r

pub fewer-ready : (xid seq : ℕ) (old new : Pending) → AreFewer old new → IsReady xid seq old → IsReady xid seq new
fewer-ready xid seq old new less r = record { first = r.first; numbers = λ file other c. r.numbers file other ((less.of file).numbers other c); xids = λ other above file. (less.of file).xids other (r.xids other above file) }

-- Where the save has ended well it made no call, so that one may be made for more room.
write-follows : (told : SavingStep) (wsize : ℕ) (machine : WriteFile) (file : List ℕ) (saved : Saving) (turn : Turn) (shelf : Shelf) (next : Step) (new : Writing) (after : Shelf)
    → writes.Follows told wsize machine file saved turn shelf next new after → (told ≡ Ended (Ok tt) → IsReady turn.xid shelf.seq shelf.back) → IsReady (turn.xid + 1) shelf.seq shelf.back → IsReady (turn.xid + 1) after.seq after.back
write-follows (Ended (Ok done)) wsize machine file saved turn shelf next new after f well r =
    writes-ready wsize machine.lane file machine.offset (writes.made_bytes machine.text) turn (record shelf { order = left machine.lane shelf.order }) next new after f (well refl)
write-follows (Ended (Err fault)) wsize machine file saved turn shelf next new after f well r = subst (λ x. IsReady (turn.xid + 1) x.seq x.back) (sym f.shelf_is) r
write-follows (Send call) wsize machine file saved turn shelf next new after f well r = subst (λ x. IsReady (turn.xid + 1) x.seq x.back) (sym f.shelf_is) r
write-follows Wait wsize machine file saved turn shelf next new after f well r = subst (λ x. IsReady (turn.xid + 1) x.seq x.back) (sym f.shelf_is) r

pub write-takes-ready : (at : Writing) (wsize : ℕ) (machine : WriteFile) (sent turn : Turn) (came : Result Reply Fault) (old : Shelf) (next : Step) (new : Writing) (after : Shelf)
    → writes.TakesIn at wsize machine sent turn came old next new after → IsReady turn.xid old.seq old.back → IsReady (turn.xid + 1) after.seq after.back
write-takes-ready writing.Idle wsize machine sent turn came old next new after t r = same-ready turn.xid old after t.shelf_is r
write-takes-ready (writing.Room file saving) wsize machine sent turn came old next new after t r =
    write-follows t.told wsize machine file t.saved turn _ next new after t.follows
    (λ well. fewer-ready turn.xid old.seq old.back t.back (takes-fewer wsize sent turn came old.repeats saving old.back t.told t.saved t.back t.repeats t.takes well) r)
    (kept-ready turn.xid old.seq old.back t.back (takes-kept wsize sent turn came old.repeats saving old.back t.told t.saved t.back t.repeats t.takes) r)

-- ---- truncates

cut-in : (place upto : ℕ) (es : Segments) → IsIn (numbers_written (cut_from place upto es)) (numbers_written es)
cut-in place upto [] x c = c
cut-in place upto (e ∷ es) x c = by (nat_lt upto e.1.number || nat_le (end_of e) place) (nat_lt e.0 place) (cut-in place upto es) c
  where
    by : (a b : Bool) → IsIn (numbers_written (cut_from place upto es)) (numbers_written es)
        → Contains (numbers_written (if a then e ∷ cut_from place upto es else if b then (e.0, head_of (place - e.0) e.1) ∷ cut_from place upto es else cut_from place upto es)) x → Contains (numbers_written (e ∷ es)) x
    by true b w c = both-in e.1.number (numbers_written (cut_from place upto es)) (numbers_written es) w x c
    by false true w c = both-in e.1.number (numbers_written (cut_from place upto es)) (numbers_written es) w x c
    by false false w c = later-in e.1.number (numbers_written es) x (w x c)

cut-kept : (xid size upto : ℕ) (of : FilePending) → IsKept xid of (with_cut size upto of)
cut-kept xid size upto of = record { numbers = λ x c. by x (Contains-append_cases (numbers_written (cut_from size upto of.segments)) (numbers_flying of.pieces) x c); xids = λ x apart h. h }
  where
    by : (x : ℕ) → Contains (numbers_written (cut_from size upto of.segments)) x ⊎ Contains (numbers_flying of.pieces) x → Contains (numbers_of of) x
    by x (inl d) = Contains-append_left (numbers_written of.segments) (numbers_flying of.pieces) x (cut-in size upto of.segments x d)
    by x (inr d) = Contains-append_right (numbers_written of.segments) (numbers_flying of.pieces) x d

cuts-ready : (quiet : Bool) (xid seq : ℕ) (file : List ℕ) (size upto : ℕ) (old new : Pending) → truncates.CutsQuiet quiet file size upto old new → IsReady xid seq old → IsReady (xid + 1) seq new
cuts-ready true xid seq file size upto old new on r = kept-ready xid seq old new (on-kept xid old new file (with_cut size upto (of_file file old)) on (cut-kept xid size upto (of_file file old))) r
cuts-ready false xid seq file size upto old new is r = same-back (xid + 1) seq old new is (next-ready xid seq old r)

pub truncate-takes-ready : (at : Truncating) (machine : TruncateFile) (came : Result Reply Fault) (xid seq : ℕ) (old new : Pending) → truncates.TookBack at machine came old new → IsReady xid seq old → IsReady (xid + 1) seq new
truncate-takes-ready truncating.Idle machine came xid seq old new t r = same-back (xid + 1) seq old new t (next-ready xid seq old r)
truncate-takes-ready (truncating.Queued file upto) machine came xid seq old new t r = same-back (xid + 1) seq old new t (next-ready xid seq old r)
truncate-takes-ready (truncating.Asked file upto) machine came xid seq old new t r = told (truncates.size_told came) t
  where
    told : (result : Result Wcc Fault) → truncates.CutsBack result file machine.size upto old new → IsReady (xid + 1) seq new
    told (Ok wcc) c = cuts-ready (is_quiet file old) xid seq file machine.size upto old new c r
    told (Err fault) c = same-back (xid + 1) seq old new c (next-ready xid seq old r)
