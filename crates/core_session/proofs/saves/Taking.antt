-- What the operation of a call knows of it, as a record that answers it is heard.
use Rattle.core_session.proofs.Prelude.{◌≡◌, ◌≤◌, ◌^◌, ◌+◌, ◌-◌, ℕ, List, [], ◌∷◌, ◌++◌, length, Bool, true, false, Some, Ok, option_map, slice_get, refl, sym, ap, subst, ◌∙◌, arith, slice_index, Verf, Wcc, xid_at, Waiting, waiting_at, Entry, Began, Delivered, Call, Op, At, SpellsCall, commit_call, length_last, said_of, Step, Shelf, Turn, Putting, Saving, Mounted, Machine, machine_of, Purpose, Busy, Setup, View, Reaches, HearsRecord, begins-unbegun, flies_of, TaleLaws, reached-good, Did, one-call, written_file, write_of, CallFits, fits-laws, MadeStable}
use Rattle.core_answers.specs.writes.Carried.{IsCarried}
use Rattle.core_facts.proofs.Expects.{ExpectLaws}
use Rattle.nfs_file_calls.specs.declared.owned.FileKept.TheVariants as kept
use Rattle.world_model.specs.declared.message.Reply.TheVariants as replies
use Rattle.client_shelf.specs.declared.step.Step.TheVariants as nexts
use Rattle.file_ops.specs.declared.put_file.Putting.TheVariants as putting
use Rattle.file_ops.specs.Saves as saves
use Rattle.file_ops.specs.WriteFile as writes
use Rattle.op_machines.specs.declared.machine.Machine.TheVariants as machines
use Rattle.core_facts.proofs.Expecting.{Expects, expects-starts, expects-resumes, expects-takes, arrived-expects}
use Rattle.core_facts.proofs.Putting.{PutExpects}
use Rattle.core_answers.proofs.writes.CommitsAlone.{tales, nfs-write}
use Rattle.core_answers.proofs.writes.PiecesCarried.{pieces-carried}
use Rattle.step_saves.specs.Accounts.{ByWrite, ByCommit}
use Rattle.step_saves.proofs.PutSteps.{SaveKnown}
use Rattle.core_session.proofs.saves.Evidenced.{spelled-as}
use Rattle.core_session.proofs.saves.Puts.{Wrote, Made, Runs, put-flies, awaited-put}
use Rattle.core_session.proofs.saves.Told.{told-write, told-commit}
use Rattle.core_session.proofs.saves.WholeSteps.{IsSent, Wholly}

expects-laws : ExpectLaws Expects
expects-laws = record {
  starts = λ m wsize turn old next new after s. (expects-starts m wsize turn old next new after s).asked;
  resumes = λ m wsize turn old next new after s. let e = expects-resumes m wsize turn old next new after s in (e.asked, e.kept);
  takes = λ m wsize sent turn came old next new after others one s. let e = expects-takes m wsize sent turn came old next new after others one s in (e.asked, e.kept);
}

any-did : (h : List Entry) (x : ℕ) (op : Op) (next : Step) (new : Machine) (after : Shelf)
    → Did (λ g y o c. Unit {0}) (λ g s. Unit {0}) (λ g y o s. Unit {0}) h x op next new after
any-did h x op (nexts.Send call) new after = record { shelf = tt; asks = tt; then_ = tt }
any-did h x op nexts.Wait new after = record { shelf = tt; asks = tt; then_ = tt }
any-did h x op (nexts.Done answer) new after = record { shelf = tt; asks = tt; then_ = tt }

own-tales : (m : Mounted) (setup : Setup) → TaleLaws (machine_of m) setup Expects (λ g y o c. Unit {0}) (λ g s. Unit {0}) (λ g y o s. Unit {0})
own-tales m setup = record {
  fresh = λ h v up fresh. tt;
  starts = λ h lane line op wsize turn old next new after i s. any-did _ _ op next new after;
  resumes = λ h x op machine wsize turn old next new after i s r. any-did h x op next new after;
  takes = λ h x op machine wsize sent turn came old next new after others i s one told t. any-did h x op next new after;
  still = λ h e shelf i. tt;
  waits = λ h e x op call w. tt;
  grows = λ h e x op state quiet s. tt;
  lost = λ h x op l. tt;
}

some-waiting : (a b : Waiting Purpose) → Some a ≡ Some b → a ≡ b
some-waiting a b e = cc

module _ (m : Mounted) (setup : Setup) (h : List Entry) (old : View) (r : Reaches (machine_of m) setup h old) (found : old.lost ≡ false) (xid : ℕ) (call : Waiting Purpose)
    (waits : waiting_at xid old.calls.calls ≡ Some call) (at number : ℕ) (machine : Machine) (there : slice_get old.lanes at ≡ Some (record { number = number; state = Busy machine }))
    (same-lane : call.purpose.lane ≡ number) (i : Wholly setup h old) where
  pub sent-is : call.purpose.sent.xid ≡ xid
  sent-is = i.flying.flown.sents xid call.purpose (ap (option_map (λ (w : Waiting Purpose). w.purpose)) waits)

  -- what its operation sends is what the call carries
  pub its-piece : (f : List ℕ) → flies_of machine ≡ Some f → IsSent xid f old.shelf.back
  its-piece f is =
      let good = reached-good (machine_of m) (begins-unbegun m) setup CallFits fits-laws (λ g y o c. Unit {0}) (λ g s. Unit {0}) (λ g y o s. Unit {0}) (tales m setup) h old r in
      let e = (good.each at (record { number = number; state = Busy machine }) there).0 xid call waits same-lane in
      let whole = i.all xid call waits in
      let write : written_file e.made.asked ≡ Some f = e.expects.sends f is in
      let same : e.made.asked ≡ whole.call = one-call xid xid e.made.asked whole.call call.bytes (nfs-write e.made.asked f write) e.made.spells.spells whole.spells.spells in
      let here = whole.has f (ap written_file (sym same) ∙ write) in
      record { piece = here.piece; there = here.there }

  pub sent-piece : (f : List ℕ) → flies_of machine ≡ Some f → IsSent call.purpose.sent.xid f old.shelf.back
  sent-piece f is = subst (λ (n : ℕ). IsSent n f old.shelf.back) (sym sent-is) (its-piece f is)

  -- that of a put that waits for its COMMIT is this call
  its-commit : (g : List Entry) (x offset : ℕ) (bytes : List ℕ) (last : offset + length bytes ≤ 2 ^ 63 - 1) (k : Runs x offset bytes last g old.calls.calls machine old.shelf.back) → k.m.arrived ≡ true
      → (s : Saving) → k.p.state ≡ putting.Saves s → saves.is_sending s.phase ≡ false → SpellsCall xid (commit_call s.file) call.bytes
  its-commit g x offset bytes last k arrived s is idle =
      let good = reached-good (machine_of m) (begins-unbegun m) setup Expects expects-laws (λ g y o c. Unit {0}) (λ g s. Unit {0}) (λ g y o s. Unit {0}) (own-tales m setup) h old r in
      let e = (good.each at (record { number = number; state = Busy machine }) there).0 xid call waits same-lane in
      let path : Expects (machines.Path k.m) e.made.asked = subst (λ (n : Machine). Expects n e.made.asked) k.is e.expects in
      let put : PutExpects (putting.Saves s) e.made.asked = subst (λ (t : Putting). PutExpects t e.made.asked) is (arrived-expects k.m arrived k.p k.opener e.made.asked path) in
      let commit : e.made.asked ≡ commit_call s.file = put idle in
      subst (λ (c : Call). SpellsCall xid c call.bytes) commit e.made.spells.spells

  module _ (rec : List ℕ) (fin : View) (hears : HearsRecord old rec fin) (named : xid_at rec ≡ Some xid) (x : ℕ) (only : (j lane line : ℕ) (op : Op) → At h j (Began lane line op) → j ≡ x) where
    abbrev now : List Entry
    now = h ++ Delivered rec ∷ []

    no-commit : (f : List ℕ) → flies_of machine ≡ Some f → (wcc : Wcc) (verf : Verf) → said_of call.purpose.proc rec ≡ Ok (replies.File (kept.Commit wcc verf)) → ⊥
    no-commit f is wcc verf said =
        let its = its-piece f is in
        let c : IsCarried setup old f xid its.piece = pieces-carried m setup h old r found f xid its.piece its.there in
        let which : c.waiting ≡ call = some-waiting c.waiting call (sym c.waits ∙ waits) in
        let spells : SpellsCall xid (write_of f its.piece) call.bytes = subst (λ (w : Waiting Purpose). SpellsCall xid (write_of f its.piece) w.bytes) which c.spells.spells in
        let s = spelled-as m setup h old r found rec fin hears xid call named waits x only (write_of f its.piece) (replies.File (kept.Commit wcc verf)) tt spells said in
        let no_way : 21 ≡ 7 = s.is.answers in
        absurd (omega (arith, no_way))

    pub put-known : (offset : ℕ) (bytes : List ℕ) (last : offset + length bytes ≤ 2 ^ 63 - 1) (wsize : ℕ) (turn : Turn) (some : 1 ≤ wsize)
        → (k : Runs x offset bytes last now old.calls.calls machine old.shelf.back) → k.m.arrived ≡ true
        → SaveKnown (Wrote x offset bytes last now old.calls.calls) (Made x offset bytes last now) wsize turn some k.p.state k.p call.purpose.sent (said_of call.purpose.proc rec) old.shelf.back
    put-known offset bytes last wsize turn some k arrived = by k.p.state refl
      where
        here : length h + 1 ≡ length now
        here = sym (length_last h (Delivered rec))

        byte-is : (place : ℕ) → slice_index bytes (place - offset) ≡ slice_index (writes.made_bytes k.p.write.text) (place - k.p.write.offset)
        byte-is place = ap (λ (bs : List ℕ). slice_index bs (place - offset)) (sym k.text.text_is) ∙ ap (λ (n : ℕ). slice_index (writes.made_bytes k.p.write.text) (place - n)) (sym k.text.offset_is)

        by-write : (s : Saving) (place : ℕ)
            → ByWrite place (slice_index (writes.made_bytes k.p.write.text) (place - k.p.write.offset)) (Wrote x offset bytes last now old.calls.calls s.file place) (Made x offset bytes last now s.file place) s.file
            old.shelf.back call.purpose.sent.xid s.file (said_of call.purpose.proc rec)
        by-write s place =
            let told = told-write m setup h old r found rec fin hears xid call named waits x only s.file place (slice_index bytes (place - offset)) s.file in
            subst (λ (b : ℕ). ByWrite place b (Wrote x offset bytes last now old.calls.calls s.file place) (Made x offset bytes last now s.file place) s.file old.shelf.back call.purpose.sent.xid s.file
            (said_of call.purpose.proc rec)) (byte-is place)
            (subst (λ (n : ℕ). ByWrite place (slice_index bytes (place - offset)) (Wrote x offset bytes last now old.calls.calls s.file place) (Made x offset bytes last now s.file place) s.file old.shelf.back n
            s.file (said_of call.purpose.proc rec)) (sym sent-is)
            (subst (λ (n : ℕ). ByWrite place (slice_index bytes (place - offset)) (Wrote x offset bytes last now old.calls.calls s.file place)
            (MadeStable now x n s.file place (slice_index bytes (place - offset))) s.file old.shelf.back xid s.file (said_of call.purpose.proc rec)) here told))

        by-said : (s : Saving) → k.p.state ≡ putting.Saves s → (place : ℕ) (b : Bool) → saves.is_sending s.phase ≡ b
            → ByCommit (Wrote x offset bytes last now old.calls.calls s.file place) (Made x offset bytes last now s.file place) s.file s.file (said_of call.purpose.proc rec)
        by-said s is place true sends = λ wcc verf said same held.
            absurd (no-commit s.file (put-flies x offset bytes last now old.calls.calls machine old.shelf.back k arrived s is sends) wcc verf said)
        by-said s is place false idle =
            subst (λ (n : ℕ). ByCommit (Wrote x offset bytes last now old.calls.calls s.file place) (MadeStable now x n s.file place (slice_index bytes (place - offset))) s.file s.file
            (said_of call.purpose.proc rec)) here
            (told-commit m setup h old r found rec fin hears xid call named waits x only s.file place (slice_index bytes (place - offset)) (its-commit now x offset bytes last k arrived s is idle) s.file)

        by : (state : Putting) → k.p.state ≡ state
            → SaveKnown (Wrote x offset bytes last now old.calls.calls) (Made x offset bytes last now) wsize turn some state k.p call.purpose.sent (said_of call.purpose.proc rec) old.shelf.back
        by putting.Idle is = tt
        by putting.Opens is = tt
        by (putting.Adds file) is = tt
        by (putting.Saves s) is = (
          awaited-put x offset bytes last now old.calls.calls machine old.shelf.back call.purpose.sent.xid k arrived sent-piece s is,
          (λ place inside. by-write s place),
          (λ place inside. by-said s is place (saves.is_sending s.phase) refl),
        )
