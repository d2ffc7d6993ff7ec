-- What a step leads to: the call is made for which the operation asks, or reaches it as a refusal; or it waits, or has its answer.
use Rattle.core_counts.proofs.Prelude.{◌≡◌, ◌≤◌, ◌≢◌, ◌⊎◌, inl, inr, ◌+◌, ℕ, Bool, true, false, length, List, [], ◌∷◌, ◌++◌, Option, Some, None, option_map, Err, refl, sym, ap, subst, ◌∙◌, arith, cases_lt, eqb-true, Waiting, Held, next_xid, made_call, waiting_at, waits_early, at_made, others_made, Entry, Call, SpellsCallBy, proc_of, Pending, of_file, OnFile, at_xid, landed, FilePending, piece_under, Step, Shelf, Turn, Saving, IsReady, IsUnused, Mounted, Machine, machine_of, Purpose, Setup, record_of, with_state, Makes, Refuses, IsRefused, Leads, View, turn_at, unmade_turn, Flies, flies_of, sender, look_at, nfs-of, Rows, made-known, made-asked, written_file, one-call, Asks, commits_of, After, Free, SameUnder, NearAs, unmade-has, Has, call_of, EachSound, Shows, Stops, MakesLong, Moves, Shown, ShownCalls}
use Rattle.write_back.specs.Pieces.{Sent}
use Rattle.client_core.specs.Steps.{put_view}
use Rattle.core_facts.proofs.Flown.{Flown}
use Rattle.core_answers.specs.writes.Alone.{IsWaiting}
use Rattle.core_answers.proofs.writes.OwnPieces.{carries-same, after-same}
use Rattle.core_answers.proofs.writes.Under.{under-last}
use Rattle.core_session.proofs.saves.WholeSteps.{HasPiece}
use Rattle.core_counts.specs.coarse.Moves.{Move}
use Rattle.std.specs.Prelude.{nat_eq}
use Rattle.nfs_file_calls.specs.declared.call.FileCall.TheVariants as files
use Rattle.world_model.specs.declared.message.Call.TheVariants as calls
use Rattle.write_back.specs.declared.change.Change.TheVariants as by_change
use Rattle.client_shelf.specs.declared.step.Step.TheVariants as nexts
use Rattle.file_ops.specs.Saves as saves
use Rattle.file_ops.specs.Syncs as syncs
use Rattle.model_writes.specs.Machine as coarse
use Rattle.model_writes.specs.Story as story
use Rattle.core_counts.specs.coarse.Moves as machine
use Rattle.core_counts.proofs.coarse.Alone.{waits-then, commits-file, no-commit, nothing-flies, grounded}
use Rattle.core_counts.proofs.coarse.Bearing.{Stays, Since, WithCall, none-stays, takes-by}
use Rattle.core_counts.proofs.coarse.Calls.{NoWrite, CommitOr, commit-or, shown-called}
use Rattle.core_counts.proofs.coarse.Led.{Led, Way, plain, took, Asked}
use Rattle.core_counts.proofs.coarse.Onward.{Ahead, on-then, made-on}
use Rattle.core_counts.proofs.coarse.OfSaves.{IsOfSave, of-machine}
use Rattle.core_counts.proofs.coarse.PutBack.{put-back}
use Rattle.core_counts.proofs.coarse.Taken.{Fates}
use Rattle.core_counts.proofs.coarse.Views.{called, called-new}

-- From a view of which H holds, moves lead to one that shows the core; and WRITEs from this xid on are long, or A holds of both.
pub record Final (setup : Setup) (H : coarse.View → Type 0) (A : coarse.View → coarse.View → Type 0) (old new : View) : Type 0 where
  pub b : coarse.View
  pub from : H b
  pub d : coarse.View
  pub moves : Moves b d
  pub shown : Shown setup new d
  pub long : A b d ⊎ MakesLong setup (next_xid old.calls) new
  pub size : new.wsize ≡ old.wsize

-- what is in flight under an xid goes on as it is
pub same-stays : (y : ℕ) (start : Pending) (W : Call → Pending → Type 0) → ((call : Call) (back : Pending) → SameUnder y start back → W call back) → (wsize : ℕ) (turn : Turn) → turn.xid ≢ y
    → Stays wsize turn (SameUnder y start) W
same-stays y start W junk wsize turn apart = record {
  junk = junk;
  goes = λ by_reply s back next new after g j. after-same y start (syncs.sync_next next) after ((carries-same y start wsize turn apart).goes by_reply s back next new after g j);
  adds = λ file offset bytes number old new on j. (carries-same y start wsize turn apart).adds file offset bytes number old new tt on j;
  cuts = λ file size upto old new on j. (carries-same y start wsize turn apart).cuts file size upto old new on j;
  gives = λ file old new quiet on j. (carries-same y start wsize turn apart).gives file old new quiet on j;
}

-- nothing is in flight under an xid under which no call waits
pub idle-unused : (v : View) (y : ℕ) → Flown v → waiting_at y v.calls.calls ≡ None → IsUnused y v.shelf.back
idle-unused v y f none = subst (λ (q : Option Purpose). Flies y (sender (look_at v.lanes) q) v.shelf.back) (ap (option_map (λ (w : Waiting Purpose). w.purpose)) none) (f.flies y)

pub plain-move : (c d : coarse.View) (y : ℕ) (k : story.Call) → CommitOr k → coarse.NewCall c d y k → ((f : List ℕ) → k ≡ story.commit f → (i : story.Spot) → i.file ≡ f → c.fly i ≡ None)
    → coarse.SamePlaces c d → Move c d
plain-move c d y k (inl commit) new quiet same = machine.makes_commit y commit.0 (subst (coarse.NewCall c d y) commit.1 new) (quiet commit.0 commit.1) same
plain-move c d y k (inr other) new quiet same = machine.makes_call y k other new same

-- the call that waits once it is made
abbrev row_of : View → ℕ → Call → List ℕ → Waiting Purpose
row_of v number call args = made_call (record_of v call args) (record { lane = number; proc = proc_of call; sent = turn_at v })

some-file : (f g : List ℕ) → Some f ≡ Some g → f ≡ g
some-file f g e = cc

-- it waits
made-waits : (setup : Setup) (h : List Entry) (v : View) (r : Rows setup h v) (number : ℕ) (call : Call) (new : View) → Makes v number call new → IsWaiting setup new (next_xid v.calls) call
made-waits setup h v r number call new m = subst (λ (w : View). IsWaiting setup w (next_xid v.calls) call) (sym m.is) (record {
  waiting = row_of v number call m.args;
  waits = at_made v.calls.cred v.calls.first_xid (next_xid v.calls) (next_xid v.calls) (next_xid v.calls) v.calls.calls (row_of v number call m.args) r.sound.calls.each refl refl;
  spells = subst (λ (c : Call). SpellsCallBy setup.cred (next_xid v.calls) c (row_of v number call m.args).bytes) (made-asked setup h v number call new m r)
      (made-known setup h v number call new m r).made.spells;
})

-- and where the session goes on from there
abbrev made-ahead : (m : Mounted) (setup : Setup) (later : List Entry) (v : View) (number : ℕ) (call : Call) (new : View) → Makes v number call new → Ahead (machine_of m) setup later new
    → Ahead (machine_of m) setup later v
made-ahead m setup later v number call new mk a = record {
  fin = a.fin;
  reach = a.reach;
  found = a.found;
  on = on-then v new a.fin (made-on v number call new mk) a.on;
}

-- where no call waits, none is a WRITE
pub none-long : (setup : Setup) (y : ℕ) (new : View) → ((x : ℕ) → y ≤ x → waiting_at x new.calls.calls ≡ None) → MakesLong setup y new
none-long setup y new none x w file offset how bytes late waits spells = absurd (let no_way : None ≡ Some w = sym (none x late) ∙ waits in cc)

some-row : (a b : Waiting Purpose) → Some a ≡ Some b → a ≡ b
some-row a b e = cc

module _ (setup : Setup) (h : List Entry) (v : View) (r : Rows setup h v) (H : coarse.View → Type 0) (A : coarse.View → coarse.View → Type 0) where
  none-waits : (x : ℕ) → next_xid v.calls ≤ x → waiting_at x v.calls.calls ≡ None
  none-waits x late = by (waiting_at x v.calls.calls) refl
    where
      by : (o : Option (Waiting Purpose)) → waiting_at x v.calls.calls ≡ o → o ≡ None
      by None is = refl
      by (Some w) is = absurd (let low = waits_early v.calls.cred v.calls.first_xid (next_xid v.calls) x v.calls.calls w r.sound.calls.each is in omega (arith, low, late))

  -- ---- the call is made

  module _ (number : ℕ) (call : Call) (new : View) (m : Makes v number call new) where
    spells : SpellsCallBy setup.cred (next_xid v.calls) call (row_of v number call m.args).bytes
    spells =
        subst (λ (c : Call). SpellsCallBy setup.cred (next_xid v.calls) c (row_of v number call m.args).bytes)
        (made-asked setup h v number call new m r) (made-known setup h v number call new m r).made.spells

    abbrev then_ : View
    then_ = put_view v (record { lane = number; proc = proc_of call; sent = turn_at v }) m.args

    -- it is the one that waits, from its xid on
    made-one : (x : ℕ) (w : Waiting Purpose) (other : Call) → next_xid v.calls ≤ x → waiting_at x then_.calls.calls ≡ Some w → SpellsCallBy setup.cred x other w.bytes → call ≡ other
    made-one x w other late waits spelled = by (nat_eq x (next_xid v.calls)) refl
      where
        row : Waiting Purpose
        row = row_of v number call m.args

        here : (z : ℕ) → z ≡ next_xid v.calls → waiting_at z then_.calls.calls ≡ Some row
        here z same = at_made v.calls.cred v.calls.first_xid (next_xid v.calls) z (next_xid v.calls) v.calls.calls row r.sound.calls.each same refl

        by : (b : Bool) → nat_eq x (next_xid v.calls) ≡ b → call ≡ other
        by true is =
            let made = (made-known setup h v number call new m r).made in
            sym (made-asked setup h v number call new m r)
            ∙ one-call (next_xid v.calls) x made.asked other w.bytes (nfs-of made.asked made.nfs)
            (subst (λ (u : Waiting Purpose). SpellsCallBy setup.cred (next_xid v.calls) made.asked u.bytes) (some-row row w (sym (here x (eqb-true x (next_xid v.calls) is)) ∙ waits)) made.spells).spells
            spelled.spells
        by false is = absurd (let no_way : None ≡ Some w = sym (none-waits x late) ∙ sym (others_made x (next_xid v.calls) v.calls.calls row is) ∙ waits in cc)

    plain-long : NoWrite call → MakesLong setup (next_xid v.calls) then_
    plain-long none x w file offset how bytes late waits spelled = absurd (none file (ap written_file (made-one x w _ late waits spelled)))

    took-long : (file : List ℕ) (piece : Sent) → call ≡ saves.write_of file piece
        → (length piece.bytes ≡ v.wsize) ⊎ Stops (of_file file v.shelf.back) piece.offset (piece.offset + length piece.bytes) piece.how → MakesLong setup (next_xid v.calls) then_
    took-long file piece is long x w f offset how bytes late waits spelled =
        let same : saves.write_of file piece ≡ calls.File (files.Write f offset how bytes) = sym is ∙ made-one x w _ late waits spelled in
        let one : (file, piece.offset, piece.how, piece.bytes) ≡ (f, offset, how, bytes) = cc in
        subst (λ (k : List ℕ × ℕ × ℕ × List ℕ). (length k.3 ≡ v.wsize) ⊎ Stops (of_file k.0 v.shelf.back) k.1 (k.1 + length k.3) k.2) one long

    -- the calls that wait then
    pub made-calls : (c : coarse.View) → ShownCalls setup v.calls c → (k : story.Call) (rest : story.Spot → Option coarse.Cell) (fly : story.Spot → Option coarse.Flight) → k ≡ call_of call
        → ShownCalls setup (put_view v (record { lane = number; proc = proc_of call; sent = turn_at v }) m.args).calls (called c (next_xid v.calls) k rest fly)
    made-calls c shown k rest fly is =
        shown-called setup v.calls r.sound.calls.each c shown (row_of v number call m.args) call k rest fly spells is

    module _ (mt : Mounted) (later : List Entry) (ahead : Ahead (machine_of mt) setup later new) (ready : IsReady (next_xid v.calls + 1) v.shelf.seq v.shelf.back) where
      abbrev before : Ahead (machine_of mt) setup later v
      before = made-ahead mt setup later v number call new m ahead

      then_waits : IsWaiting setup ahead.fin (next_xid v.calls) call
      then_waits = waits-then mt setup later new ahead (next_xid v.calls) call (made-waits setup h v r number call new m)

      unused : IsUnused (next_xid v.calls) v.shelf.back → (z : ℕ) → (z ≡ 0) ⊎ (next_xid v.calls ≤ z) → IsUnused z v.shelf.back
      unused free z (inl none) = ready.xids z (inl none)
      unused free z (inr late) = elim (cases_lt (next_xid v.calls) z) [
        | inl above ↦ ready.xids z (inr (omega (arith, above)))
        | inr low ↦ subst (λ (n : ℕ). IsUnused n v.shelf.back) (let same : next_xid v.calls ≡ z = omega (arith, late, low) in same) free
      ]

      made-final : HasPiece (next_xid v.calls) call v.shelf.back → Asked setup v.calls H (next_xid v.calls) v.wsize call v.shelf.back → Final setup H A v new
      made-final has a = subst (Final setup H A v) (sym m.is) (by a.way)
        where
          new-call : (k : story.Call) (rest : story.Spot → Option coarse.Cell) (fly : story.Spot → Option coarse.Flight)
              → coarse.NewCall a.c (called a.c (next_xid v.calls) k rest fly) (next_xid v.calls) k
          new-call k rest fly = called-new a.c (next_xid v.calls) k rest fly (sym a.calls.next)

          quiet : IsUnused (next_xid v.calls) v.shelf.back → Shows v.shelf.back a.c → (f : List ℕ) → call_of call ≡ story.commit f → (i : story.Spot) → i.file ≡ f → a.c.fly i ≡ None
          quiet free shows f is i same =
              grounded f v.shelf.back a.c (nothing-flies mt setup later v before (next_xid v.calls) call f then_waits (commits-file call f is) (unused free)) shows i same

          by : Way setup v.calls H (next_xid v.calls) v.wsize call v.shelf.back a.c → Final setup H A v (put_view v (record { lane = number; proc = proc_of call; sent = turn_at v }) m.args)
          by (plain free shows) =
              let d : coarse.View = called a.c (next_xid v.calls) (call_of call) a.c.rest a.c.fly in
              let none : NoWrite call = λ f is. (let piece = has f is in let no_way : None ≡ Some piece.piece = sym (free f) ∙ piece.there in absurd cc) in
              record {
                b = a.b;
                from = a.from;
                d = d;
                moves = machine.moves a.b a.c d a.moves (plain-move a.c d (next_xid v.calls) (call_of call) (commit-or call none) (new-call (call_of call) a.c.rest a.c.fly) (quiet free shows)
                    (record { there = λ i. (refl, refl) }));
                shown = record { places = record { rest = shows.rest; fly = shows.fly }; calls = made-calls a.c a.calls (call_of call) a.c.rest a.c.fly refl };
                long = inr (plain-long none);
                size = refl;
              }
          by (took t) =
              let k : story.Call = story.write t.file t.piece.offset t.piece.bytes t.piece.how in
              let d : coarse.View = called a.c (next_xid v.calls) k t.leads.rest t.leads.fly in
              record {
                b = a.b;
                from = a.from;
                d = d;
                moves = machine.moves a.b a.c d a.moves (machine.makes_write (next_xid v.calls) t.file t.piece.offset t.piece.bytes t.piece.how (new-call k t.leads.rest t.leads.fly)
                    (no-commit mt setup later v before (next_xid v.calls) call t.file then_waits (ap written_file t.is) a.c a.calls) (t.leads.steps d (λ i. refl) (λ i. refl)));
                shown = record { places = t.leads.shows d (λ i. refl) (λ i. refl); calls = made-calls a.c a.calls k t.leads.rest t.leads.fly (sym (ap call_of t.is)) };
                long = inr (took-long t.file t.piece t.is t.long);
                size = refl;
              }

  -- ---- it isn't made

  module _ (at number : ℕ) (machine_ : Machine) (new : View) (u : Refuses v at number machine_ new) (sound : EachSound v.shelf.back) (ready : IsReady (next_xid v.calls + 1) v.shelf.seq v.shelf.back) where
    refused-final : (J : Pending → Type 0) (W : Call → Pending → Type 0) → Stays v.wsize (unmade_turn v) J W → (N : Saving → Pending → Type 0)
        → Fates setup v.calls H v.wsize (turn_at v) (unmade_turn v) (Err u.fault) J W N → ((s : Saving) → IsOfSave (flies_of machine_) (commits_of machine_) s → N s v.shelf.back)
        → J v.shelf.back ⊎ Led setup v.calls H 0 v.shelf.back → (J u.left.back → ⊥) → Final setup H A v new
    refused-final J W st N f now start never = by u.next u.leads
        (takes-by setup v.calls H v.wsize (unmade_turn v) J W st (turn_at v) (Err u.fault) N f machine_ v.shelf u.next u.after u.left u.takes
        (unmade-has (λ file offset bytes. NearAs v.wsize (unmade_turn v) (v.shelf.seq + 1) file offset bytes (v.shelf.seq + 1)) v.wsize (turn_at v) (unmade_turn v) u.fault machine_ v.shelf u.next u.after
        u.left u.takes)
        (of-machine (λ s. N s v.shelf.back) machine_ now) start sound (ready.xids 0 (inl refl)) ready.numbers)
      where
        ending : J u.left.back ⊎ Led setup v.calls H 0 u.left.back → Final setup H A v new
        ending (inl j) = absurd (never j)
        ending (inr l) = subst (Final setup H A v) (sym u.is) (record {
          b = l.b;
          from = l.from;
          d = l.c;
          moves = l.moves;
          shown = record { places = l.shows; calls = l.calls };
          long = inr (none-long setup (next_xid v.calls) (with_state v at number u.state u.left) none-waits);
          size = refl;
        })

        by : (next : Step) → IsRefused u.after next u.state
            → After (Since setup v.calls H v.wsize (unmade_turn v) J W st) (WithCall setup v.calls H v.wsize (unmade_turn v) J W st) next u.left.back → Final setup H A v new
        by (nexts.Send again) leads a = absurd leads
        by nexts.Wait leads a = ending a.0
        by (nexts.Done answer) leads a = ending a.0

    -- of an operation that sends nothing
    idle-final : ((g : List ℕ) → flies_of machine_ ≡ Some g → ⊥) → Led setup v.calls H 0 v.shelf.back → Final setup H A v new
    idle-final none l = refused-final (λ back. ⊥) (λ call back. ⊥) (none-stays v.wsize (unmade_turn v)) (λ s back. saves.is_sending s.phase ≡ true → ⊥)
        (record {
          junk = λ call back never. never;
          returns = λ s back between now sends on. absurd (now sends);
          refuses = λ s back between status wcc now sends is on. absurd (now sends);
          acks = λ s back between wcc count committed verf now sends is on. absurd (now sends);
          renews = λ s back after now sends busy on. absurd (now sends);
          decides = λ s back between wcc verf now idle is on. absurd cc;
        }) (λ s of sends. none s.file (of.sends sends)) (inr l) (λ never. never)

    -- of one that sends a piece, which is put back
    pub file-final : (file : List ℕ) (piece : Sent) → piece_under (next_xid v.calls) (of_file file v.shelf.back).pieces ≡ Some piece → ((g : List ℕ) → flies_of machine_ ≡ Some g → g ≡ file)
        → ((between : Pending) → OnFile v.shelf.back between file (at_xid (landed by_change.Return) (next_xid v.calls) (of_file file v.shelf.back)) → Led setup v.calls H 0 between)
        → IsUnused (next_xid v.calls) u.left.back → Final setup H A v new
    file-final file piece there only put idle =
        refused-final (SameUnder (next_xid v.calls) v.shelf.back) (λ call. SameUnder (next_xid v.calls) v.shelf.back)
        (same-stays (next_xid v.calls) v.shelf.back (λ call. SameUnder (next_xid v.calls) v.shelf.back) (λ call back j. j) v.wsize (unmade_turn v) (λ same. absurd (let first = r.sound.calls.first in omega (arith, first, same))))
        (λ s back. (back ≡ v.shelf.back) × (saves.is_sending s.phase ≡ true → s.file ≡ file))
        (record {
          junk = λ call back j. j;
          returns = λ s back between now sends on. put between
              (subst (λ (g : List ℕ). OnFile v.shelf.back between g (at_xid (landed by_change.Return) (next_xid v.calls) (of_file g v.shelf.back))) (now.1 sends)
              (subst (λ (b : Pending). OnFile b between s.file (at_xid (landed by_change.Return) (next_xid v.calls) (of_file s.file b))) now.0 on));
          refuses = λ s back between status wcc now sends is on. absurd cc;
          acks = λ s back between wcc count committed verf now sends is on. absurd cc;
          renews = λ s back after now sends busy on. absurd cc;
          decides = λ s back between wcc verf now idle_ is on. absurd cc;
        }) (λ s of. (refl, λ sends. only s.file (of.sends sends))) (inl (λ f. refl))
        (λ j. let no_way : None ≡ Some piece = sym (idle file) ∙ j file ∙ there in absurd cc)

    -- where it was asked for so
    unmade-final : (call : Call) → Asks (nexts.Send call) machine_ → HasPiece (next_xid v.calls) call v.shelf.back → Asked setup v.calls H (next_xid v.calls) v.wsize call v.shelf.back
        → IsUnused (next_xid v.calls) u.left.back → Final setup H A v new
    unmade-final call fits has a idle = by a.way
      where
        by : Way setup v.calls H (next_xid v.calls) v.wsize call v.shelf.back a.c → Final setup H A v new
        by (plain free shows) =
            idle-final (λ g flies. let piece = has g (fits.sends g flies) in let no_way : None ≡ Some piece.piece = sym (free g) ∙ piece.there in absurd cc)
            (record { b = a.b; from = a.from; c = a.c; moves = a.moves; calls = a.calls; shows = shows })
        by (took t) =
            let under : piece_under (next_xid v.calls) (of_file t.file v.shelf.back).pieces ≡ Some t.piece =
            ap (λ (of : FilePending). piece_under (next_xid v.calls) of.pieces) t.on.here
            ∙ subst (λ (n : ℕ). piece_under n ((of_file t.file t.before).pieces ++ t.piece ∷ []) ≡ Some t.piece) t.own
            (under-last (of_file t.file t.before).pieces t.piece (ap (λ (n : ℕ). piece_under n (of_file t.file t.before).pieces) t.own ∙ t.free t.file)) in
            file-final t.file t.piece under
            (λ g flies. sym (some-file t.file g (ap written_file (sym t.is) ∙ fits.sends g flies)))
            (λ between on. record {
              b = a.b;
              from = a.from;
              c = a.c;
              moves = a.moves;
              calls = a.calls;
              shows = put-back t.file t.piece t.upto (next_xid v.calls) t.before v.shelf.back between t.on t.puts under sound on a.c t.shows;
            }) idle

  -- ---- what a step leads to

  -- where nothing else may be so
  module _ (at number : ℕ) (machine_ : Machine) (next : Step) (new : View) (asks : Asks next machine_) (ready : IsReady (next_xid v.calls + 1) v.shelf.seq v.shelf.back) (flown : Flown new)
      (has : After (Free (next_xid v.calls)) (Has (next_xid v.calls)) next v.shelf.back) (leads : Leads v at number machine_ next new)
      (mt : Mounted) (later : List Entry) (ahead : Ahead (machine_of mt) setup later new) where
    -- under its xid nothing is in flight, where the call isn't made
    pub left-idle : (u : Refuses v at number machine_ new) → IsUnused (next_xid v.calls) u.left.back
    left-idle u =
        let there : waiting_at (next_xid v.calls) new.calls.calls ≡ None = ap (λ (w : View). waiting_at (next_xid v.calls) w.calls.calls) u.is ∙ none-waits (next_xid v.calls) (omega arith) in
        subst (λ (w : View). IsUnused (next_xid v.calls) w.shelf.back) u.is (idle-unused new (next_xid v.calls) flown there)

    pub finish : (J : Pending → Type 0) (W : Call → Pending → Type 0) (turn : Turn) → turn.xid ≡ next_xid v.calls → (st : Stays v.wsize turn J W) → (J v.shelf.back → ⊥)
        → ((call : Call) → next ≡ nexts.Send call → W call v.shelf.back → EachSound v.shelf.back → Final setup H A v new)
        → After (Since setup v.calls H v.wsize turn J W st) (WithCall setup v.calls H v.wsize turn J W st) next v.shelf.back → Final setup H A v new
    finish J W turn own st never other a = by next refl asks has leads a
      where
        stays : J v.shelf.back ⊎ Led setup v.calls H turn.xid v.shelf.back → (w : View) → w.shelf ≡ v.shelf → w.calls ≡ v.calls → w.wsize ≡ v.wsize → Final setup H A v w
        stays (inl j) w shelf calls size = absurd (never j)
        stays (inr l) w shelf calls size = record {
          b = l.b;
          from = l.from;
          d = l.c;
          moves = l.moves;
          shown = record {
            places = subst (λ (s : Shelf). Shows s.back l.c) (sym shelf) l.shows;
            calls = subst (λ (k : Held Purpose). ShownCalls setup k l.c) (sym calls) l.calls;
          };
          long = inr (none-long setup (next_xid v.calls) w (λ x late. ap (λ (k : Held Purpose). waiting_at x k.calls) calls ∙ none-waits x late));
          size = size;
        }

        by : (n : Step) → next ≡ n → Asks n machine_ → After (Free (next_xid v.calls)) (Has (next_xid v.calls)) n v.shelf.back → Leads v at number machine_ n new
            → After (Since setup v.calls H v.wsize turn J W st) (WithCall setup v.calls H v.wsize turn J W st) n v.shelf.back → Final setup H A v new
        by nexts.Wait is asks_ has_ leads_ b = subst (Final setup H A v) (sym leads_) (stays b.0 v refl refl refl)
        by (nexts.Done answer) is asks_ has_ leads_ b = subst (Final setup H A v) (sym leads_) (stays b.0 _ refl refl refl)
        by (nexts.Send call) is asks_ has_ leads_ (inl w, sound) = other call is w sound
        by (nexts.Send call) is asks_ has_ (inl m) (inr asked, sound) =
            made-final number call new m mt later ahead ready has_ (subst (λ (n : ℕ). Asked setup v.calls H n v.wsize call v.shelf.back) own asked)
        by (nexts.Send call) is asks_ has_ (inr u) (inr asked, sound) =
            unmade-final at number machine_ new u sound ready call asks_ has_ (subst (λ (n : ℕ). Asked setup v.calls H n v.wsize call v.shelf.back) own asked) (left-idle u)
