-- What a save makes of the machine as it goes on: nothing, or bytes take off for the WRITE that it asks for.
use Rattle.core_counts.proofs.Prelude.{◌≡◌, inl, inr, ◌⊎◌, ◌+◌, length, ℕ, Bool, true, false, [], ◌∷◌, Option, Some, None, refl, sym, subst, Held, Fault, Call, chosen, piece_of, Pending, of_file, OnFile, PutsInFlight, Segment, Segments, Step, Saving, IsUnused, Purpose, Setup, After, EachSound, Shows, Stops, Moves, ShownCalls}
use Rattle.write_back.specs.Choice.{with_sent}
use Rattle.write_back.specs.Files.{PutsPiece}
use Rattle.step_pending.specs.Cells.{Leads}
use Rattle.write_back.specs.Pieces.{Sent}
use Rattle.client_shelf.specs.declared.step.Step.TheVariants as nexts
use Rattle.file_ops.specs.Saves as saves
use Rattle.file_ops.specs.Syncs as syncs
use Rattle.model_writes.specs.Machine.{View}
use Rattle.model_writes.specs.Story.{File}
use Rattle.step_pending.specs.Steps.{TakesOff}
use Rattle.step_pending.proofs.TakingOff.{sent-leads}
use Rattle.core_counts.proofs.coarse.Long.{piece-long}

-- From a view of which H holds, which shows these calls, with y as the xid of the call that the step makes.
module _ (setup : Setup) (held : Held Purpose) (H : View → Type 0) (y : ℕ) where
  -- moves lead to one that shows what is pending
  pub record Led (back : Pending) : Type 0 where
    pub b : View
    pub from : H b
    pub c : View
    pub moves : Moves b c
    pub calls : ShownCalls setup held c
    pub shows : Shows back c

  module _ (wsize : ℕ) where
    -- The call is the WRITE of a piece that has just taken off: this view shows what was pending before.
    pub record TookOff (call : Call) (back : Pending) (c : View) : Type 0 where
      pub file : File
      pub piece : Sent
      pub upto : ℕ
      pub before : Pending
      pub is : call ≡ saves.write_of file piece
      pub own : piece.xid ≡ y
      pub shows : Shows before c
      pub free : IsUnused y before
      pub on : OnFile before back file (with_sent piece (of_file file before))
      pub puts : PutsInFlight piece upto (of_file file before) (of_file file back)
      pub leads : Leads back (TakesOff y file piece.offset piece.bytes) c
      pub long : (length piece.bytes ≡ wsize) ⊎ Stops (of_file file back) piece.offset (piece.offset + length piece.bytes) piece.how

    pub data Way (call : Call) (back : Pending) (c : View) : Type 0 where
      plain : IsUnused y back → Shows back c → Way call back c
      took : TookOff call back c → Way call back c

    -- moves lead to one from which the call is asked for
    pub record Asked (call : Call) (back : Pending) : Type 0 where
      pub b : View
      pub from : H b
      pub c : View
      pub moves : Moves b c
      pub calls : ShownCalls setup held c
      pub way : Way call back c

    pub plain-asked : (call : Call) (back : Pending) → IsUnused y back → Led back → Asked call back
    plain-asked call back free l = record { b = l.b; from = l.from; c = l.c; moves = l.moves; calls = l.calls; way = plain free l.shows }

    -- where nothing is changed
    pub led-after : (next : Step) (back : Pending) → IsUnused y back → Led back → After Led Asked next back
    led-after (nexts.Send call) back free l = plain-asked call back free l
    led-after nexts.Wait back free l = l
    led-after (nexts.Done answer) back free l = l

    as-led : (to : _) (saved : Saving) (next : _) (new : Saving) (old after : Pending) → saves.Leads to saved next new → after ≡ old → After Led Asked (syncs.sync_next to) old
        → After Led Asked (syncs.sync_next next) after
    as-led to saved next new old after l is a =
        subst (λ n. After Led Asked (syncs.sync_next n) after) (sym l.gives_next) (subst (After Led Asked (syncs.sync_next to)) (sym is) a)

    same-led : (next : _) (old after : Pending) → after ≡ old → IsUnused y old → Led old → After Led Asked (syncs.sync_next next) after
    same-led next old after is free l = subst (After Led Asked (syncs.sync_next next)) (sym is) (led-after (syncs.sync_next next) old free l)

    run-led : (upto : ℕ) (file : File) (e : ℕ × Segment) (es : Segments) (back after : Pending) → EachSound back → IsUnused y back → chosen upto wsize (of_file file back) ≡ e ∷ es
        → PutsPiece y upto (e ∷ es) back after file → Led back → Asked (saves.write_of file (piece_of y e (e ∷ es))) after
    run-led upto file e es back after sound free is puts l = record {
      b = l.b;
      from = l.from;
      c = l.c;
      moves = l.moves;
      calls = l.calls;
      way = took (record {
        file = file;
        piece = piece_of y e (e ∷ es);
        upto = upto;
        before = back;
        is = refl;
        own = refl;
        shows = l.shows;
        free = free;
        on = puts.0;
        puts = puts.1;
        leads = sent-leads back after file y upto wsize e es sound is puts l.c l.shows;
        long = piece-long y upto wsize (of_file file back) (of_file file after) e es (sound file) is puts.1;
      });
    }

    sends-led : (by_reply : Bool) (run : Segments) (s : Saving) (back : Pending) (next : _) (new : Saving) (after : Pending) → chosen s.upto wsize (of_file s.file back) ≡ run
        → EachSound back → IsUnused y back → saves.Sends y by_reply run s back next new after → Led back → After Led Asked (syncs.sync_next next) after
    sends-led by_reply run s back next new after is sound free (inr l) p = same-led next back after l.1 free p
    sends-led by_reply [] s back next new after is sound free (inl l) p = same-led next back after l.1 free p
    sends-led by_reply (e ∷ es) s back next new after is sound free (inl l) p =
        as-led _ _ next new after after l.0 refl (run-led s.upto s.file e es back after sound free is l.1 p)

    if-led : (b by_reply : Bool) (s : Saving) (back : Pending) (next : _) (new : Saving) (after : Pending) → EachSound back → IsUnused y back
        → saves.SendsIf b y by_reply (chosen s.upto wsize (of_file s.file back)) s back next new after → Led back → After Led Asked (syncs.sync_next next) after
    if-led true by_reply s back next new after sound free l p =
        sends-led by_reply (chosen s.upto wsize (of_file s.file back)) s back next new after refl sound free l p
    if-led false by_reply s back next new after sound free l p = same-led next back after l.1 free p

    over-led : (refusal : Option Fault) (room by_reply : Bool) (s : Saving) (back : Pending) (next : _) (new : Saving) (after : Pending) → EachSound back → IsUnused y back
        → saves.GoesOver refusal wsize y room by_reply s back next new after → Led back → After Led Asked (syncs.sync_next next) after
    over-led (Some fault) room by_reply s back next new after sound free g p = same-led next back after g.1 free p
    over-led None room by_reply s back next new after sound free g p = if-led (saves.may_send room s) by_reply s back next new after sound free g p

    pub goes-led : (room by_reply : Bool) (s : Saving) (back : Pending) (next : _) (new : Saving) (after : Pending) → EachSound back → IsUnused y back
        → saves.Goes wsize y room by_reply s back next new after → Led back → After Led Asked (syncs.sync_next next) after
    goes-led room by_reply s back next new after sound free g p = over-led s.refusal room by_reply s back next new after sound free g p
