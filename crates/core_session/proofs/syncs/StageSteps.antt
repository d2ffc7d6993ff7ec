-- What a step of a save makes of one byte that an operation added.
use Rattle.core_session.proofs.Prelude.{◌≡◌, ◌<◌, ◌≤◌, ◌+◌, ◌-◌, ℕ, zero, suc, Bool, true, false, List, [], ◌∷◌, length, Option, Some, None, Result, Ok, Err, inl, inr, ◌⊎◌, refl, sym, ap, subst, ◌∙◌, arith, nat_lt, slice_index, lt-ltb, Verf, Wcc, Fault, Memory, Reply, Repeat, Turn, goes_again, is_in_flight, Change, lost, Segments, covers, chosen, piece_of, with_sent, Pending, of_file, with_bytes, OnFile, at_xid, landed, landed_part, with_cut, with_xid, FilePending, Flown, nothing, fly_at, piece_under, PutsInFlight, fly-under, Verdict, AllStable, SendAgain, decided, verdict_of, Sending, Committing, Resending, CommittingAgain, Saving, commit_told, EachSound, flown-from, IsClearUpTo}
use Rattle.write_back.specs.Changes.{fate}
use Rattle.write_back.specs.Landing.{acked_by, at_piece}
use Rattle.write_back.specs.Pieces.{Sent}
use Rattle.write_back.specs.Places.{Lands}
use Rattle.write_back.proofs.Xids.{renumbers-so}
use Rattle.nfs_file_calls.specs.declared.owned.FileKept.TheVariants as kept
use Rattle.world_model.specs.declared.message.Reply.TheVariants as replies
use Rattle.write_back.specs.declared.state.State.{State}
use Rattle.write_back.specs.declared.state.State.TheVariants.{Waiting, InFlight, Acked}
use Rattle.write_back.specs.declared.state.Ready.TheVariants.{Refused}
use Rattle.write_back.specs.declared.change.Change.TheVariants as by_change
use Rattle.write_back.specs.Effects.{IsAnswer}
use Rattle.write_back.proofs.Adding.{cuts-so}
use Rattle.write_back.proofs.Landings.{answer-acked, answer-return, lands-one, lands-part}
use Rattle.write_back.proofs.Sending.{next-is, puts-sent}
use Rattle.write_back.proofs.SendsOn.{puts-with}
use Rattle.write_back.proofs.Taking.{under-own}
use Rattle.file_ops.specs.declared.saving.Phase.{Phase}
use Rattle.file_ops.specs.Saves as saves
use Rattle.step_pending.proofs.Leading.{if-true}
use Rattle.step_pending.proofs.Hearing.{sound-heard}
use Rattle.step_saves.specs.Accounts.{Reaches}
use Rattle.step_saves.proofs.Accounting.{on-known}
use Rattle.core_session.proofs.syncs.Stages.{Stage, known-in, known-adds, known-sent, Falls, falls-return, falls-refuse, falls-ack, falls-store, known-landed, known-renamed, known-decided, known-cut, known-given, known-clear}
use Rattle.step_saves.proofs.Places.{rests-decided}
use Rattle.step_saves.proofs.Taking.{Outcome, did, fails, refuses, came-outcome, lands-sound}

answer-refuse : (status : ℕ) → IsAnswer (by_change.Refuse status)
answer-refuse status = record { leaves = λ number state out. stays number state out; lands = λ number ready left is. waits left is }
  where
    stays : (number : ℕ) (state : State) → is_in_flight state ≡ false → fate (by_change.Refuse status) number state ≡ Some state
    stays number (Waiting ready) out = refl
    stays number (InFlight ready) out = absurd cc
    stays number (Acked held) out = refl

    waits : (left : State) → Some (Waiting (Refused status)) ≡ Some left → is_in_flight left ≡ false
    waits left is = let same : Waiting (Refused status) ≡ left = cc in sym (ap is_in_flight same)

-- the reply to a COMMIT that went well
told-commit : (came : Result Reply Fault) (verf : Verf) → commit_told came ≡ Ok verf → (wcc : Wcc) × (came ≡ Ok (replies.File (kept.Commit wcc verf)))
told-commit (Ok (replies.File (kept.Commit wcc held))) verf is =
    let same : held ≡ verf = (let k : Ok held ≡ Ok verf = is in cc) in
    (wcc, ap (λ v. Ok (replies.File (kept.Commit wcc v))) same)
told-commit (Ok (replies.File reply)) verf is = absurd cc
told-commit (Ok (replies.Dir reply)) verf is = absurd cc
told-commit (Ok (replies.Mount reply)) verf is = absurd cc
told-commit (Err fault) verf is = absurd cc

stored-by : (k : ℕ) (verf : Verf) → acked_by (suc k) verf ≡ by_change.Store
stored-by k verf = if-true (nat_lt 0 (suc k)) by_change.Store (by_change.Ack verf) (lt-ltb 0 (suc k) (omega arith))

-- What holds of the byte by the reply to the WRITE that it flies with, and by one to a COMMIT.
abbrev pub ByWrite : ℕ → ℕ → ℕ → (ℕ → ℕ → Type 0) → (ℕ → Type 0) → (ℕ → List ℕ → Type 0) → (ℕ → Type 0) → List ℕ → Pending → ℕ → List ℕ → Result Reply Fault → Type 0
ByWrite place byte number Fresh Since Wrote Made file back asked to came =
    (k : ℕ) (flown : Flown) → fly_at (of_file file back) place ≡ Some flown → flown.byte ≡ byte → flown.number ≡ number → Fresh k flown.xid → Since k
    → (wcc : Wcc) (count committed : ℕ) (verf : Verf) → came ≡ Ok (replies.File (kept.Write wcc count committed verf))
    → Reaches file place byte back asked to count → Wrote k verf.0 × (0 < committed → Made k)

abbrev pub ByCommit : (ℕ → Type 0) → (ℕ → List ℕ → Type 0) → (ℕ → Type 0) → List ℕ → List ℕ → Result Reply Fault → Type 0
ByCommit Since Wrote Made file to came =
    (k : ℕ) (wcc : Wcc) (verf : Verf) → came ≡ Ok (replies.File (kept.Commit wcc verf)) → to ≡ file → Since k → Wrote k verf.0 → Made k

module _ (file : List ℕ) (place byte number : ℕ) (Fresh : ℕ → ℕ → Type 0) (Since : ℕ → Type 0) (Wrote : ℕ → List ℕ → Type 0) (Made : ℕ → Type 0) (Over : Type 0) where
  abbrev pub Is : FilePending → Type 0
  Is of = Stage place byte number Fresh Since Wrote Made Over of

  -- ---- without a reply

  module _ (now wsize xid : ℕ) (fresh : (k : ℕ) → Fresh k xid) (since : Since now) (room by_reply : Bool) (s : Saving) (back : Pending) (sound : EachSound back) (known : Is (of_file file back)) where
    sends-known : (run : Segments) (next : _) (new : Saving) (after : Pending) → chosen s.upto wsize (of_file s.file back) ≡ run → saves.Sends xid by_reply run s back next new after → Is (of_file file after)
    sends-known run next new after is (inr l) = subst (λ (p : Pending). Is (of_file file p)) (sym l.1) known
    sends-known [] next new after is (inl r) = subst (λ (p : Pending). Is (of_file file p)) (sym r.1) known
    sends-known (e ∷ es) next new after is (inl r) =
        let turn = next-is xid s.upto wsize (of_file s.file back) e es (sound s.file).apart is in
        let puts : PutsInFlight (piece_of xid e (e ∷ es)) s.upto (of_file s.file back) (with_sent (piece_of xid e (e ∷ es)) (of_file s.file back)) = puts-sent (piece_of xid e (e ∷ es)) s.upto (of_file s.file back) (sound s.file) turn in
        on-known Is file s.file back after (with_sent (piece_of xid e (e ∷ es)) (of_file s.file back)) r.1.0
        (λ same p. known-sent place byte number Fresh Since Wrote Made Over now (piece_of xid e (e ∷ es)) s.upto (of_file s.file back) (with_sent (piece_of xid e (e ∷ es)) (of_file s.file back)) fresh since turn.whole puts p) known

    sends-if-known : (b : Bool) (next : _) (new : Saving) (after : Pending) → saves.SendsIf b xid by_reply (chosen s.upto wsize (of_file s.file back)) s back next new after → Is (of_file file after)
    sends-if-known true next new after g = sends-known (chosen s.upto wsize (of_file s.file back)) next new after refl g
    sends-if-known false next new after g = subst (λ (p : Pending). Is (of_file file p)) (sym g.1) known

    over-known : (refusal : Option Fault) (next : _) (new : Saving) (after : Pending) → saves.GoesOver refusal wsize xid room by_reply s back next new after → Is (of_file file after)
    over-known (Some fault) next new after g = subst (λ (p : Pending). Is (of_file file p)) (sym g.1) known
    over-known None next new after g = sends-if-known (saves.may_send room s) next new after g

  pub goes-known : (now wsize xid : ℕ) → ((k : ℕ) → Fresh k xid) → Since now → (room by_reply : Bool) (s : Saving) (back : Pending) (next : _) (new : Saving) (after : Pending) → EachSound back → Is (of_file file back)
      → saves.Goes wsize xid room by_reply s back next new after → Is (of_file file after)
  goes-known now wsize xid fresh since room by_reply s back next new after sound known g = over-known now wsize xid fresh since room by_reply s back sound known s.refusal next new after g

  -- ---- a WRITE's reply

  module _ (asked : ℕ) (to : List ℕ) (came : Result Reply Fault) (back between : Pending) (sound : EachSound back) (writes : ByWrite place byte number Fresh Since Wrote Made file back asked to came) where
    -- what is known of a file's bytes once its piece has landed, or where there is none
    at-known : (f : Sent → FilePending → FilePending) → ((piece : Sent) → piece_under asked (of_file to back).pieces ≡ Some piece → Is (of_file to back) → Is (f piece (of_file to back)))
        → Is (of_file to back) → Is (at_xid f asked (of_file to back))
    at-known f turn p = by (piece_under asked (of_file to back).pieces) refl
      where
        by : (o : Option Sent) → piece_under asked (of_file to back).pieces ≡ o → Is (at_piece f o (of_file to back))
        by None h = p
        by (Some piece) h = turn piece h p

    lands-of : (change others : Change) (count : ℕ) (new : FilePending) (piece : Sent) → piece_under asked (of_file to back).pieces ≡ Some piece → Lands piece count change others (of_file to back) new
        → (place < piece.offset + count → covers piece.offset (length piece.bytes) place ≡ true → slice_index piece.bytes (place - piece.offset) ≡ byte
        → (k : ℕ) (flown : Flown) → fly_at (of_file to back) place ≡ Some flown → flown.byte ≡ byte → flown.number ≡ number → Fresh k flown.xid → Since k → Falls place byte number Fresh Since Wrote Made Over k change new)
        → ((k : ℕ) → Falls place byte number Fresh Since Wrote Made Over k others new) → Is (of_file to back) → Is new
    lands-of change others count new piece found lands early late p =
        known-landed place byte number Fresh Since Wrote Made Over piece count change others (of_file to back) new lands
        (λ inside reached k flown at b n f s. early reached inside (sym (flown-from piece place flown (sym (fly-under asked (of_file to back).pieces piece place (sound to).sent found inside) ∙ at)).byte ∙ b) k flown at b n f s) late p

    own : (piece : Sent) → piece_under asked (of_file to back).pieces ≡ Some piece → piece_under piece.xid (of_file to back).pieces ≡ Some piece
    own piece found = ap (λ x. piece_under x (of_file to back).pieces) (under-own asked (of_file to back).pieces piece found) ∙ found

    -- it goes back where all of the piece does
    back-known : (change : Change) → IsAnswer change → ((k : ℕ) (new : FilePending) → Falls place byte number Fresh Since Wrote Made Over k change new) → Is (of_file to back) → Is (at_xid (landed change) asked (of_file to back))
    back-known change answer falls p = at-known (landed change)
        (λ piece found q. lands-of change change 0 (landed change piece (of_file to back)) piece found (lands-one change answer piece 0 (of_file to back) (sound to) (own piece found))
        (λ reached inside has k flown at b n f s. falls k (landed change piece (of_file to back))) (λ k. falls k (landed change piece (of_file to back))) q) p

    did-known : (firm : ℕ) (wcc : Wcc) (count : ℕ) (verf : Verf) → to ≡ file → came ≡ Ok (replies.File (kept.Write wcc count firm verf)) → Is (of_file to back)
        → Is (at_xid (landed_part (acked_by firm verf) count) asked (of_file to back))
    did-known firm wcc count verf same is p = at-known (landed_part (acked_by firm verf) count)
        (λ piece found q. lands-of (acked_by firm verf) by_change.Return count (landed_part (acked_by firm verf) count piece (of_file to back)) piece found
        (lands-part (acked_by firm verf) (answer-acked firm verf) piece count (of_file to back) (sound to) (own piece found))
        (λ reached inside has k flown at b n f s. early firm is (landed_part (acked_by firm verf) count piece (of_file to back)) k flown (subst (λ (g : List ℕ). fly_at (of_file g back) place ≡ Some flown) same at) b n f s (record {
          piece = piece;
          same = same;
          under = subst (λ (f : List ℕ). piece_under asked (of_file f back).pieces ≡ Some piece) same found;
          inside = inside;
          has = has;
          reached = reached;
        }))
        (λ k. falls-return place byte number Fresh Since Wrote Made Over k (landed_part (acked_by firm verf) count piece (of_file to back))) q) p
      where
        early : (n : ℕ) → came ≡ Ok (replies.File (kept.Write wcc count n verf)) → (new : FilePending) (k : ℕ) (flown : Flown) → fly_at (of_file file back) place ≡ Some flown → flown.byte ≡ byte
            → flown.number ≡ number → Fresh k flown.xid → Since k → Reaches file place byte back asked to count → Falls place byte number Fresh Since Wrote Made Over k (acked_by n verf) new
        early zero is new k flown at b n f s reaches = falls-ack place byte number Fresh Since Wrote Made Over verf k new (writes k flown at b n f s wcc count 0 verf is reaches).0
        early (suc c) is new k flown at b n f s reaches =
            subst (λ change. Falls place byte number Fresh Since Wrote Made Over k change new) (sym (stored-by c verf)) (falls-store place byte number Fresh Since Wrote Made Over k new ((writes k flown at b n f s wcc count (suc c) verf is reaches).1 (omega arith)))

    pub lands-known : (how : ℕ) (now : Option Fault) → Outcome asked to how came back between now → Is (of_file file back) → Is (of_file file between)
    lands-known how now (did wcc count firm verf is enough none on) p =
        on-known Is file to back between (at_xid (landed_part (acked_by firm verf) count) asked (of_file to back)) on (λ same q. did-known firm wcc count verf same is q) p
    lands-known how now (fails fault some on) p =
        on-known Is file to back between (at_xid (landed by_change.Return) asked (of_file to back)) on (λ same q. back-known by_change.Return answer-return (falls-return place byte number Fresh Since Wrote Made Over) q) p
    lands-known how now (refuses fault status some on) p =
        on-known Is file to back between (at_xid (landed (by_change.Refuse status)) asked (of_file to back)) on
        (λ same q. back-known (by_change.Refuse status) (answer-refuse status) (falls-refuse place byte number Fresh Since Wrote Made Over status) q) p

  -- ---- the step with what came

  module _ (sent : Turn) (came : Result Reply Fault) (s : Saving) (back : Pending) (sound : EachSound back) (known : Is (of_file file back))
      (writes : ByWrite place byte number Fresh Since Wrote Made file back sent.xid s.file came) where
    came-lands : (between : Pending) (now : Option Fault) → saves.Lands sent.xid s.file (saves.told_of sent.xid s.file back came) back between now → Is (of_file file between) × EachSound between
    came-lands between now l =
        let outcome : Outcome sent.xid s.file (saves.answered sent.xid s.file back).how came back between now =
        came-outcome (saves.answered sent.xid s.file back).how (length (saves.answered sent.xid s.file back).bytes) sent.xid s.file back between came now l in (
          lands-known sent.xid s.file came back between sound writes (saves.answered sent.xid s.file back).how now outcome known,
          lands-sound sent.xid s.file (saves.answered sent.xid s.file back).how came back between now sound outcome,
        )

  module _ (now wsize : ℕ) (sent turn : Turn) (fresh : (k : ℕ) → Fresh k turn.xid) (since : Since now) (came : Result Reply Fault) (s : Saving) (back : Pending) (sound : EachSound back) (known : Is (of_file file back))
      (writes : ByWrite place byte number Fresh Since Wrote Made file back sent.xid s.file came) (commits : ByCommit Since Wrote Made file s.file came) (next : _) (new : Saving) (after : Pending) where
    write-known : (told : _) → ((between : Pending) (now : Option Fault) → saves.Lands sent.xid s.file told back between now → Is (of_file file between) × EachSound between)
        → saves.TakesWrite wsize sent.xid turn.xid turn.room told (saves.less_waiting s) back next new after → Is (of_file file after)
    write-known told lands t =
        let mid = lands t.between t.refusal t.lands in
        goes-known now wsize turn.xid fresh since turn.room t.counts (saves.refused_by t.refusal (saves.less_waiting s)) t.between next new after mid.1 mid.0 t.goes

    repeats-known : (again : Bool) (told : _) → ((between : Pending) (now : Option Fault) → saves.Lands sent.xid s.file told back between now → Is (of_file file between) × EachSound between)
        → saves.RepeatsWrite again wsize sent turn told s back next new after → Is (of_file file after)
    repeats-known true told lands r =
        on-known Is file s.file back after (with_xid sent.xid turn.xid (of_file s.file back)) r.1
        (λ same p. (let n = renumbers-so sent.xid turn.xid (of_file s.file back) (sound s.file) in
        known-renamed place byte number Fresh Since Wrote Made Over sent.xid turn.xid (of_file s.file back) (with_xid sent.xid turn.xid (of_file s.file back)) fresh (n.rest place) (n.fly place) p)) known
    repeats-known false told lands r = write-known told lands r

    told-known : (busy : Bool) (told : _) (repeats later : List Repeat) → ((between : Pending) (now : Option Fault) → saves.Lands sent.xid s.file told back between now → Is (of_file file between) × EachSound between)
        → saves.TakesToldIf busy wsize sent turn told repeats s back next new after later → Is (of_file file after)
    told-known true told repeats later lands (inl t) = repeats-known (goes_again true sent turn repeats) told lands t.0
    told-known true told repeats later lands (inr t) = write-known _
        (λ between now l. (let outcome : Outcome sent.xid s.file 0 came back between now = fails Memory l.0 l.1 in
        (lands-known sent.xid s.file came back between sound writes 0 now outcome known, lands-sound sent.xid s.file 0 came back between now sound outcome))) t.0
    told-known false told repeats later lands t = write-known told lands t.0

    decides-known : (verdict : Verdict) (between : Pending) → EachSound between → Is (of_file file between)
        → saves.Decides verdict wsize turn.xid turn.room (saves.less_waiting s) between next new after → Is (of_file file after)
    decides-known AllStable between mid p d = subst (λ (q : Pending). Is (of_file file q)) (sym d.1) p
    decides-known (SendAgain count) between mid p d = goes-known now wsize turn.xid fresh since turn.room false (record (saves.less_waiting s) { phase = Resending }) between next new after mid p d

    commit-known : (told : Result Verf Fault) → commit_told came ≡ told → saves.TakesCommit wsize turn.xid turn.room told (saves.less_waiting s) back next new after → Is (of_file file after)
    commit-known (Err fault) is t = subst (λ (q : Pending). Is (of_file file q)) (sym t.1) known
    commit-known (Ok verf) is t =
        let told = told-commit came verf is in
        let mid : Is (of_file file t.between) =
        on-known Is file s.file back t.between (decided s.upto verf (of_file s.file back)) t.decides
        (λ same p. known-decided place byte number Fresh Since Wrote Made Over s.upto verf (of_file s.file back) (decided s.upto verf (of_file s.file back))
        (rests-decided s.upto verf (of_file s.file back) (sound s.file) place) refl (λ k s w. commits k told.0 verf told.1 same s w) p) known in
        decides-known (verdict_of (lost verf s.upto (of_file s.file back).segments)) t.between (sound-heard back t.between s.file s.upto verf sound t.decides) mid t.goes

    first-known : (again : Bool) → saves.TakesFirst again wsize turn (commit_told came) s back next new after → Is (of_file file after)
    first-known true t = subst (λ (q : Pending). Is (of_file file q)) (sym t.1) known
    first-known false t = commit-known (commit_told came) refl t

    in-known : (repeats later : List Repeat) (phase : Phase) → saves.TakesIn phase wsize sent turn came repeats s back next new after later → Is (of_file file after)
    in-known repeats later Sending t = told-known (saves.may_again (saves.told_busy (saves.told_of sent.xid s.file back came)) s) (saves.told_of sent.xid s.file back came) repeats later (came-lands sent came s back sound known writes) t
    in-known repeats later Resending t = told-known (saves.may_again (saves.told_busy (saves.told_of sent.xid s.file back came)) s) (saves.told_of sent.xid s.file back came) repeats later (came-lands sent came s back sound known writes) t
    in-known repeats later Committing t = first-known (saves.commit_again (commit_told came) sent turn repeats s) t.0
    in-known repeats later CommittingAgain t = subst (λ (q : Pending). Is (of_file file q)) (sym t.1) known

  pub takes-known : (now wsize : ℕ) (sent turn : Turn) → ((k : ℕ) → Fresh k turn.xid) → Since now → (came : Result Reply Fault) (repeats : List Repeat) (s : Saving) (back : Pending) (next : _) (new : Saving) (after : Pending) (later : List Repeat)
      → EachSound back → Is (of_file file back) → ByWrite place byte number Fresh Since Wrote Made file back sent.xid s.file came → ByCommit Since Wrote Made file s.file came
      → saves.Takes wsize sent turn came repeats s back next new after later → Is (of_file file after)
  takes-known now wsize sent turn fresh since came repeats s back next new after later sound known writes commits t =
      in-known now wsize sent turn fresh since came s back sound known writes commits next new after repeats later s.phase t

  -- ---- what else is done to what is pending

  pub own-known : (offset : ℕ) (bytes : List ℕ) (old new : Pending) → EachSound old → OnFile old new file (with_bytes offset bytes number (of_file file old))
      → covers offset (length bytes) place ≡ true → slice_index bytes (place - offset) ≡ byte → Since 0 → Is (of_file file new)
  own-known offset bytes old new sound on inside has first =
      known-in place byte number Fresh Since Wrote Made Over offset bytes (of_file file old) (of_file file new) (puts-with offset bytes number (of_file file old) (of_file file new) (sound file) on.here) inside has first

  pub adds-known : (to : List ℕ) (offset : ℕ) (bytes : List ℕ) (other : ℕ) (old new : Pending) → EachSound old → OnFile old new to (with_bytes offset bytes other (of_file to old))
      → (to ≡ file → covers offset (length bytes) place ≡ true → Over) → Is (of_file file old) → Is (of_file file new)
  adds-known to offset bytes other old new sound on over known =
      on-known Is file to old new (with_bytes offset bytes other (of_file to old)) on
      (λ same p. known-adds place byte number Fresh Since Wrote Made Over offset bytes other (of_file to old) (with_bytes offset bytes other (of_file to old))
      (puts-with offset bytes other (of_file to old) (with_bytes offset bytes other (of_file to old)) (sound to) refl) (over same) p) known

  pub cuts-known : (to : List ℕ) (size upto : ℕ) (old new : Pending) → EachSound old → OnFile old new to (with_cut size upto (of_file to old))
      → (to ≡ file → size ≤ place → number ≤ upto → Over) → Is (of_file file old) → Is (of_file file new)
  cuts-known to size upto old new sound on gone known =
      on-known Is file to old new (with_cut size upto (of_file to old)) on
      (λ same p. known-cut place byte number Fresh Since Wrote Made Over size upto (of_file to old) (with_cut size upto (of_file to old)) (cuts-so size upto (of_file to old) (sound to).apart) refl (gone same) p) known

  pub gives-known : (to : List ℕ) (old new : Pending) → OnFile old new to nothing → (to ≡ file → Over) → Is (of_file file old) → Is (of_file file new)
  gives-known to old new on gone known = on-known Is file to old new nothing on (λ same p. known-given place byte number Fresh Since Wrote Made Over (of_file to old) (gone same) p) known

  pub clear-known : (upto : ℕ) (back : Pending) → IsClearUpTo upto (of_file file back) → number ≤ upto → Is (of_file file back) → ((k : ℕ) × Since k × Made k) ⊎ Over
  clear-known upto back clear old known = known-clear place byte number Fresh Since Wrote Made Over upto (of_file file back) clear old known
