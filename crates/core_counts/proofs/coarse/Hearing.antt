-- What a reply makes of the machine, as an operation takes what came of its call.
use Rattle.core_counts.proofs.Prelude.{◌≡◌, ◌⊎◌, inl, inr, ℕ, true, false, List, Option, Some, Result, Ok, refl, sym, ap, subst, ◌∙◌, decided, Verf, Wcc, Held, next_xid, AreSound, without, Fault, Call, Reply, Pending, of_file, OnFile, acked_by, at_xid, landed, landed_part, with_xid, FilePending, rest_at, piece_under, Turn, Saving, Purpose, Setup, SameUnder, EachSound, Shows, Hears, ShownCalls}
use Rattle.write_back.specs.Pieces.{Sent}
use Rattle.step_pending.specs.Cells.{IsRest, Leads}
use Rattle.core_counts.specs.coarse.Runs.{heard_as}
use Rattle.std.specs.Prelude.{unwrap_or}
use Rattle.nfs_file_calls.specs.declared.owned.FileKept.TheVariants as kept
use Rattle.world_model.specs.declared.message.Reply.TheVariants as replies
use Rattle.write_back.specs.declared.change.Change.TheVariants as by_change
use Rattle.file_ops.specs.Saves as saves
use Rattle.model_writes.specs.Machine as coarse
use Rattle.model_writes.specs.Story as story
use Rattle.step_pending.specs.Steps.{Renames, IsOf}
use Rattle.step_pending.proofs.Hearing.{heard-leads}
use Rattle.step_pending.proofs.Renaming.{renamed-leads}
use Rattle.step_pending.proofs.Replied.{acked-leads, returned-leads, refused-leads}
use Rattle.core_counts.specs.coarse.Moves as machine
use Rattle.core_counts.proofs.coarse.Calls.{CommitOr, leaves-places, shown-ended}
use Rattle.core_counts.proofs.coarse.Led.{Led}
use Rattle.core_counts.proofs.coarse.Taken.{Fates}
use Rattle.core_counts.proofs.coarse.Views.{ended, ended-took}

-- The call that waits under x, and a view that shows what is pending before the reply to it is taken.
module _ (setup : Setup) (held : Held Purpose) (sound : AreSound held.cred held.first_xid (next_xid held) held.calls) (c : coarse.View) (shown : ShownCalls setup held c) (x : ℕ) (asked : story.Call)
    (waits : c.wait x ≡ Some asked) (came : Result Reply Fault) (back : Pending) (shows : Shows back c) (each : EachSound back) (wsize y : ℕ) where
  abbrev pub Heard : coarse.View → Type 0
  Heard b = Hears c x (heard_as asked came) b

  -- the calls that wait then
  abbrev pub after : Held Purpose
  after = record held { calls = without x held.calls }

  -- the reply is taken, and makes this of the places
  pub took-led : (between : Pending) → Leads between (coarse.PlacesAfter x asked (heard_as asked came)) c → Led setup after Heard y between
  took-led between k =
      let b : coarse.View = ended c x k.rest k.fly in
      record {
        b = b;
        from = inl (ended-took c x asked (heard_as asked came) k.rest k.fly waits (k.steps b (λ i. refl) (λ i. refl)));
        c = b;
        moves = machine.stays b;
        calls = shown-ended setup held sound c shown x k.rest k.fly;
        shows = k.shows b (λ i. refl) (λ i. refl);
      }

  -- it leaves them as they are
  pub same-led : CommitOr asked → Led setup after Heard y back
  same-led of = took-led back (record {
    rest = c.rest;
    fly = c.fly;
    shows = λ d rests flies. record {
      rest = λ i. subst (λ o. IsRest (rest_at (of_file i.file back) i.at) o) (sym (rests i)) (shows.rest i);
      fly = λ i. flies i ∙ shows.fly i;
    };
    steps = λ d rests flies. leaves-places x asked (heard_as asked came) c d of rests flies;
  })

  -- ---- of an operation that waits for no WRITE

  module _ (sent turn : Turn) (own : sent.xid ≡ x) (turned : turn.xid ≡ y) where
    -- its save waits for the COMMIT that is answered
    abbrev pub AtCommit : Saving → Pending → Type 0
    AtCommit s b = (b ≡ back) × (saves.is_sending s.phase ≡ true → ⊥) × (saves.is_sending s.phase ≡ false → asked ≡ story.commit s.file)

    commit-led : (s : Saving) (between : Pending) (wcc : Wcc) (verf : Verf) → asked ≡ story.commit s.file → came ≡ Ok (replies.File (kept.Commit wcc verf))
        → OnFile back between s.file (decided s.upto verf (of_file s.file back)) → Led setup after Heard y between
    commit-led s between wcc verf is said on =
        took-led between
        (subst (λ (r : Result Reply Fault). Leads between (coarse.PlacesAfter x asked (heard_as asked r)) c) (sym said)
        (subst (λ (k : story.Call). Leads between (coarse.PlacesAfter x k (heard_as k (Ok (replies.File (kept.Commit wcc verf))))) c) (sym is)
        (heard-leads back between s.file x s.upto verf each on c shows)))

    pub commit-fates : Fates setup after Heard wsize sent turn came (λ b. ⊥) (λ call b. ⊥) AtCommit
    commit-fates = record {
      junk = λ call b never. never;
      returns = λ s b between now sends on. absurd (now.1 sends);
      refuses = λ s b between status wcc now sends is on. absurd (now.1 sends);
      acks = λ s b between wcc count committed verf now sends is on. absurd (now.1 sends);
      renews = λ s b after_ now sends busy on. absurd (now.1 sends);
      decides = λ s b between wcc verf now idle is on.
          subst (λ (n : ℕ). Led setup after Heard n between) (sym turned)
          (commit-led s between wcc verf (now.2 idle) is (subst (λ (p : Pending). OnFile p between s.file (decided s.upto verf (of_file s.file p))) now.0 on));
    }

  -- ---- of one that waits for WRITEs of a file

  module _ (file : List ℕ) (piece : Sent) (there : piece_under x (of_file file back).pieces ≡ Some piece) (is : asked ≡ story.write file piece.offset piece.bytes piece.how)
      (alone : IsOf x file back) where
    -- the WRITE's reply makes this of the places
    pub wrote-led : (between : Pending) (r : story.Reply) → heard_as asked came ≡ r → Leads between (coarse.PlacesAfter x (story.write file piece.offset piece.bytes piece.how) r) c
        → Led setup after Heard y between
    wrote-led between r same k =
        took-led between
        (subst (λ (q : story.Reply). Leads between (coarse.PlacesAfter x asked q) c) (sym same)
        (subst (λ (q : story.Call). Leads between (coarse.PlacesAfter x q r) c) (sym is) k))

    pub back-led : (between : Pending) → OnFile back between file (at_xid (landed by_change.Return) x (of_file file back)) → Led setup after Heard y between
    back-led between on = wrote-led between (heard_as asked came) refl (returned-leads back between file x piece piece.how (heard_as asked came) each alone there on c shows)

    refused-led : (between : Pending) (status : ℕ) → OnFile back between file (at_xid (landed (by_change.Refuse status)) x (of_file file back)) → Led setup after Heard y between
    refused-led between status on = wrote-led between (heard_as asked came) refl (refused-leads back between file x status piece piece.how (heard_as asked came) each alone there on c shows)

    acked-led : (between : Pending) (wcc : Wcc) (count committed : ℕ) (verf : Verf) → came ≡ Ok (replies.File (kept.Write wcc count committed verf))
        → OnFile back between file (at_xid (landed_part (acked_by committed verf) count) x (of_file file back)) → Led setup after Heard y between
    acked-led between wcc count committed verf said on =
        wrote-led between (story.wrote 0 count committed verf.0)
        (ap (λ (k : story.Call). heard_as k came) is ∙ ap (heard_as (story.write file piece.offset piece.bytes piece.how)) said)
        (acked-leads back between file x count committed verf piece piece.how each alone there on c shows)

    -- the call goes out once more, with its bytes under another xid
    pub record Renewed (call : Call) (b : Pending) : Type 0 where
      pub writes : call ≡ saves.write_of file piece
      pub leads : Leads b (Renames x y) c
      pub on : OnFile back b file (with_xid x y (of_file file back))

    abbrev pub Or : Call → Pending → Type 0
    Or call b = SameUnder x back b ⊎ Renewed call b

    module _ (sent turn : Turn) (own : sent.xid ≡ x) (turned : turn.xid ≡ y) where
      -- its save sends the piece, and no other
      abbrev pub AtWrite : Saving → Pending → Type 0
      AtWrite s b = (b ≡ back) × (saves.is_sending s.phase ≡ true → s.file ≡ file) × (saves.is_sending s.phase ≡ false → ⊥)

      -- what was on the save's file is on this one
      on-here : (to : ℕ → List ℕ → Pending → FilePending) (s : Saving) (b between : Pending) → b ≡ back → s.file ≡ file → OnFile b between s.file (to sent.xid s.file b)
          → OnFile back between file (to x file back)
      on-here to s b between same at on =
          subst (λ (n : ℕ). OnFile back between file (to n file back)) own
          (subst (λ (g : List ℕ). OnFile back between g (to sent.xid g back)) at
          (subst (λ (p : Pending). OnFile p between s.file (to sent.xid s.file p)) same on))

      as-turned : (between : Pending) → Led setup after Heard y between → Led setup after Heard turn.xid between
      as-turned between l = subst (λ (n : ℕ). Led setup after Heard n between) (sym turned) l

      answered-is : (s : Saving) (b : Pending) → b ≡ back → s.file ≡ file → saves.write_of s.file (saves.answered sent.xid s.file b) ≡ saves.write_of file piece
      answered-is s b same at =
          ap (λ (p : Pending). saves.write_of s.file (saves.answered sent.xid s.file p)) same
          ∙ ap (λ (g : List ℕ). saves.write_of g (saves.answered sent.xid g back)) at
          ∙ ap (λ (n : ℕ). saves.write_of file (saves.answered n file back)) own
          ∙ ap (λ (o : Option Sent). saves.write_of file (unwrap_or o saves.no_piece)) there

      pub write-fates : Fates setup after Heard wsize sent turn came (SameUnder x back) Or AtWrite
      write-fates = record {
        junk = λ call b j. inl j;
        returns = λ s b between now sends on. as-turned between
            (back-led between (on-here (λ n g p. at_xid (landed by_change.Return) n (of_file g p)) s b between now.0 (now.1 sends) on));
        refuses = λ s b between status wcc now sends is_ on. as-turned between
            (refused-led between status.0 (on-here (λ n g p. at_xid (landed (by_change.Refuse status.0)) n (of_file g p)) s b between now.0 (now.1 sends) on));
        acks = λ s b between wcc count committed verf now sends said on. as-turned between
            (acked-led between wcc count committed verf said
            (on-here (λ n g p. at_xid (landed_part (acked_by committed verf) count) n (of_file g p)) s b between now.0 (now.1 sends) on));
        renews = λ s b after_ now sends busy on.
            let here : OnFile back after_ file (with_xid x turn.xid (of_file file back)) = on-here (λ n g p. with_xid n turn.xid (of_file g p)) s b after_ now.0 (now.1 sends) on in
            let at_y : OnFile back after_ file (with_xid x y (of_file file back)) = subst (λ (n : ℕ). OnFile back after_ file (with_xid x n (of_file file back))) turned here in
            inr (record { writes = answered-is s b now.0 (now.1 sends); leads = renamed-leads back after_ file x y each alone at_y c shows; on = at_y });
        decides = λ s b between wcc verf now idle is_ on. absurd (now.2 idle);
      }
