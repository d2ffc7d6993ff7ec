-- Which rules a reply breaks for a put: where it asks by LOOKUP, CREATE and GETATTR, or sends by WRITE and COMMIT, what came breaks the rule that it
-- is refused for.
use Rattle.core_answers.proofs.Prelude.{◌≡◌, ◌<◌, ◌||◌, ◌==◌, ◌⊎◌, inl, inr, ℕ, Bool, true, false, List, length, Option, Some, None, Result, Ok, Err, refl, sym, subst, arith, if◌then◌else◌, nat_lt, eqb-true, Attr, Verf, Wcc, DirKept, FileKept, looked, known_of, Fault, Entry, Call, Reply, look_up, Asked, Turn, Pending, Sent, Led, Opening, OpeningStep, OpeningPhase, Saving, write_told_by, written_by, commit_told, got_by, FineOption, FineResult, fine-fault, write_of}
use Rattle.std.proofs.lemmas.Bool.{ltb-true}
use Rattle.file_ops.specs.Judging.{commit_told_by}
use Rattle.file_ops.specs.Told.{found_by, made_by}
use Rattle.core_facts.proofs.Faults.{fine-some}
use Rattle.core_facts.proofs.Tales.{IsWhy}
use Rattle.nfs_dir_calls.specs.declared.keeping.DirKept.TheVariants as dir_kept
use Rattle.nfs_file_calls.specs.declared.call.FileCall.TheVariants as file_calls
use Rattle.nfs_file_calls.specs.declared.owned.FileKept.TheVariants as kept
use Rattle.world_model.specs.declared.answer.Fault.TheVariants as faults
use Rattle.world_model.specs.declared.message.Call.TheVariants as calls
use Rattle.world_model.specs.declared.message.Reply.TheVariants as replies
use Rattle.world_model.specs.Rules.{Breaks, wrong_committed, wrong_count}
use Rattle.file_ops.specs.declared.opening.Led.TheVariants as leads
use Rattle.file_ops.specs.declared.opening.OpeningStep.TheVariants as openings
use Rattle.file_ops.specs.declared.opening.OpeningPhase.TheVariants as opening_steps
use Rattle.file_ops.specs.Opening as opening
use Rattle.file_ops.specs.Saves as saves
use Rattle.core_facts.specs.Refusing.{IsRefusedSo}
use Rattle.core_answers.proofs.answers.PieceSteps.{IsPiece}
use Rattle.core_answers.proofs.answers.SaveCalls.{IsWriteOf, CallBy, SaveCall}
use Rattle.core_answers.proofs.answers.SaveFaults.{CallFaults, FitsSave}

or-either : (a b : Bool) → (a || b) ≡ true → (a ≡ true) ⊎ (b ≡ true)
or-either true b is = inl refl
or-either false b is = inr is

module _ (h : List Entry) (x : ℕ) where
  -- a rule is broken by a record that came; and it is no fault of another operation
  abbrev pub IsRule : Fault → Type 0
  IsRule (faults.Bad n) = IsRefusedSo h x (length h) (faults.Bad n)
  IsRule faults.Slot = ⊥
  IsRule faults.Mode = ⊥
  IsRule faults.Many = ⊥
  IsRule fault = Unit {0}

  -- what came of a call
  pub record RuleTold (came : Result Reply Fault) (call : Call) : Type 0 where
    pub heard : (reply : Reply) → came ≡ Ok reply → Asked h x (length h) call reply
    pub refused : (fault : Fault) → came ≡ Err fault → IsWhy h x call fault

  why-rule : (call : Call) (fault : Fault) → IsWhy h x call fault → IsRule fault
  why-rule call (faults.Bad n) w = record { call = call; refused = w }
  why-rule call faults.Lost w = tt
  why-rule call (faults.Nfs status) w = tt
  why-rule call (faults.Rpc n) w = tt
  why-rule call faults.Spent w = tt
  why-rule call faults.Slot w = w
  why-rule call faults.Mode w = w
  why-rule call faults.Kind w = tt
  why-rule call faults.Many w = w
  why-rule call faults.Memory w = tt

  pub own : CallFaults IsRule
  own = record { memory = tt }

  told-as : (came : Result Reply Fault) (a b : Call) → a ≡ b → RuleTold came a → RuleTold came b
  told-as came a b is t = subst (RuleTold came) is t

  abbrev FineErr : {T : Type 0} → Result T Fault → Type 0
  FineErr told = FineResult IsRule told

  -- ---- LOOKUP, CREATE and GETATTR

  found-dir : (d name : List ℕ) (reply : DirKept) → Asked h x (length h) (look_up d name) (replies.Dir reply) → FineErr (found_by (Ok (replies.Dir reply)))
  found-dir d name (dir_kept.Lookup found attr dir) a = tt
  found-dir d name (dir_kept.LookupFail status dir) a = tt
  found-dir d name reply a = absurd (let no_way = a.spells.is.of in omega (arith, no_way))

  pub found-rule : (d name : List ℕ) (came : Result Reply Fault) → RuleTold came (look_up d name) → FineErr (found_by came)
  found-rule d name (Ok (replies.Dir reply)) t = found-dir d name reply (t.heard (replies.Dir reply) refl)
  found-rule d name (Ok (replies.File reply)) t = absurd ((t.heard (replies.File reply) refl).spells.is)
  found-rule d name (Ok (replies.Mount reply)) t = absurd ((t.heard (replies.Mount reply) refl).spells.is)
  found-rule d name (Err fault) t = why-rule (look_up d name) fault (t.refused fault refl)

  made-dir : (o : Opening) (reply : DirKept) → Asked h x (length h) (opening.call_of o opening_steps.Make) (replies.Dir reply) → FineErr (made_by (Ok (replies.Dir reply)))
  made-dir o (dir_kept.Create found attr wcc) a = tt
  made-dir o (dir_kept.CreateFail status wcc) a = tt
  made-dir o reply a = absurd (let no_way = a.spells.is.of in omega (arith, no_way))

  made-rule : (o : Opening) (came : Result Reply Fault) → RuleTold came (opening.call_of o opening_steps.Make) → FineErr (made_by came)
  made-rule o (Ok (replies.Dir reply)) t = made-dir o reply (t.heard (replies.Dir reply) refl)
  made-rule o (Ok (replies.File reply)) t = absurd ((t.heard (replies.File reply) refl).spells.is)
  made-rule o (Ok (replies.Mount reply)) t = absurd ((t.heard (replies.Mount reply) refl).spells.is)
  made-rule o (Err fault) t = why-rule (opening.call_of o opening_steps.Make) fault (t.refused fault refl)

  got-file : (file : List ℕ) (reply : FileKept) → Asked h x (length h) (calls.File (file_calls.GetAttr file)) (replies.File reply) → FineErr (got_by (Ok (replies.File reply)))
  got-file file (kept.GetAttr attr) a = tt
  got-file file (kept.GetAttrFail status) a = tt
  got-file file reply a = absurd (let no_way = a.spells.is.answers in omega (arith, no_way))

  got-rule : (file : List ℕ) (came : Result Reply Fault) → RuleTold came (calls.File (file_calls.GetAttr file)) → FineErr (got_by came)
  got-rule file (Ok (replies.File reply)) t = got-file file reply (t.heard (replies.File reply) refl)
  got-rule file (Ok (replies.Dir reply)) t = absurd ((t.heard (replies.Dir reply) refl).spells.is)
  got-rule file (Ok (replies.Mount reply)) t = absurd ((t.heard (replies.Mount reply) refl).spells.is)
  got-rule file (Err fault) t = why-rule (calls.File (file_calls.GetAttr file)) fault (t.refused fault refl)

  -- ---- an opening

  abbrev LedRule : Led → Type 0
  LedRule (leads.Goes step) = Unit {0}
  LedRule (leads.Opens file attr) = Unit {0}
  LedRule (leads.Knows file stamp) = Unit {0}
  LedRule (leads.Ends fault) = IsRule fault

  found-led : (r : Result (List ℕ) Fault) → FineErr r → LedRule (opening.found r)
  found-led (Ok file) f = tt
  found-led (Err fault) f = f

  look-led : (b : Bool) (r : Result (List ℕ) Fault) → FineErr r → LedRule (if b then leads.Goes opening_steps.Make else opening.found r)
  look-led true r f = tt
  look-led false r f = found-led r f

  made-led : (r : Result (Option (List ℕ)) Fault) → FineErr r → LedRule (opening.made r)
  made-led (Ok (Some file)) f = tt
  made-led (Ok None) f = tt
  made-led (Err fault) f = f

  got-led : (file : List ℕ) (r : Result Attr Fault) → FineErr r → LedRule (opening.got file r)
  got-led file (Ok attr) f = by (attr.kind == 1)
    where
      by : (b : Bool) → LedRule (if b then leads.Opens file attr else leads.Ends faults.Kind)
      by true = tt
      by false = tt
  got-led file (Err fault) f = f

  led-to-rule : (o : Opening) (step : OpeningPhase) (came : Result Reply Fault) → RuleTold came (opening.call_of o step) → LedRule (opening.led_to o.mode step came)
  led-to-rule o opening_steps.Look came t = look-led (opening.makes o.mode came) (found_by came) (found-rule o.dir o.name came t)
  led-to-rule o opening_steps.Make came t = made-led (made_by came) (made-rule o came t)
  led-to-rule o opening_steps.Find came t = found-led (found_by came) (found-rule o.dir o.name came t)
  led-to-rule o (opening_steps.Ask file) came t = got-led file (got_by came) (got-rule file came t)

  known-at : (file : List ℕ) (attr : Option Attr) (known : _) → LedRule (opening.known_at file attr known)
  known-at file (Some attr) (Some stamp) = by _
    where
      by : (b : Bool) → LedRule (if b then leads.Knows file stamp else leads.Goes (opening_steps.Ask file))
      by true = tt
      by false = tt
  known-at file None known = tt
  known-at file (Some attr) None = tt

  known-rule : (led : Led) (now : ℕ) (attrs pages : _) → LedRule led → LedRule (opening.known_led led now attrs pages)
  known-rule (leads.Goes opening_steps.Look) now attrs pages f = tt
  known-rule (leads.Goes opening_steps.Make) now attrs pages f = tt
  known-rule (leads.Goes opening_steps.Find) now attrs pages f = tt
  known-rule (leads.Goes (opening_steps.Ask file)) now attrs pages f = known-at file (looked file now attrs) (known_of file pages)
  known-rule (leads.Opens file attr) now attrs pages f = tt
  known-rule (leads.Knows file stamp) now attrs pages f = tt
  known-rule (leads.Ends fault) now attrs pages f = f

  pub led-rule : (o : Opening) (now : ℕ) (came : Result Reply Fault) (attrs pages : _) → RuleTold came (opening.call_of o o.step) → LedRule (opening.led_on o now came attrs pages)
  led-rule o now came attrs pages t = by o.nocto
    where
      by : (b : Bool) → LedRule (opening.known_by b (opening.told_led o came) now attrs pages)
      by true = known-rule (opening.told_led o came) now attrs pages (led-to-rule o o.step came t)
      by false = led-to-rule o o.step came t

  -- what a step of it comes to
  abbrev pub NextRule : OpeningStep → Type 0
  NextRule (openings.Send call) = Unit {0}
  NextRule openings.Wait = Unit {0}
  NextRule (openings.Ended (Ok file)) = Unit {0}
  NextRule (openings.Ended (Err fault)) = IsRule fault

  next-as : (to step : OpeningStep) → step ≡ to → NextRule to → NextRule step
  next-as to step is n = subst NextRule (sym is) n

  opened-rule : (file : List ℕ) (to : _) (result : Result (List ℕ) Fault) (pages later : _) → opening.FileOpened file to result pages later → NextRule (openings.Ended result)
  opened-rule file to (Ok opened) pages later f = tt
  opened-rule file to (Err fault) pages later f = fine-fault IsRule fault faults.Memory f.0 tt

  go-rule : (o : Opening) (turn : Turn) → NextRule (opening.go_next o turn)
  go-rule o turn = by (opening.waits o turn)
    where
      by : (b : Bool) → NextRule (if b then openings.Wait else openings.Send (opening.call_of o o.step))
      by true = tt
      by false = tt

  pub next-rule : (again : Bool) (o : Opening) (sent turn : Turn) (led : Led) (step : OpeningStep) (pages later : _) → LedRule led
      → opening.LedIf again o sent turn led step pages later → NextRule step
  next-rule true o sent turn led step pages later f l = next-as (openings.Send (opening.call_of o o.step)) step l.0 tt
  next-rule false o sent turn (leads.Goes to) step pages later f l = next-as (opening.go_next (opening.at_step o to) turn) step l.0 (go-rule (opening.at_step o to) turn)
  next-rule false o sent turn (leads.Opens file attr) (openings.Ended result) pages later f l = opened-rule file _ result pages later l
  next-rule false o sent turn (leads.Opens file attr) (openings.Send call) pages later f l = tt
  next-rule false o sent turn (leads.Opens file attr) openings.Wait pages later f l = tt
  next-rule false o sent turn (leads.Knows file stamp) (openings.Ended result) pages later f l = opened-rule file _ result pages later l
  next-rule false o sent turn (leads.Knows file stamp) (openings.Send call) pages later f l = tt
  next-rule false o sent turn (leads.Knows file stamp) openings.Wait pages later f l = tt
  next-rule false o sent turn (leads.Ends fault) step pages later f l = next-as (openings.Ended (Err fault)) step l.0 f

  -- ---- WRITE

  module _ (call : Call) (file : List ℕ) (asked_xid : ℕ) (back between : Pending) (is_piece : call ≡ write_of file (saves.answered asked_xid file back)) where
    piece : Sent
    piece = saves.answered asked_xid file back

    broken : (n : ℕ) (reply : Reply) (a : Asked h x (length h) call reply) → Breaks a.xid call a.bytes n → IsRule (faults.Bad n)
    broken n reply a b = record { call = call; refused = record { xid = a.xid; bytes = a.bytes; heard = a.heard; refuses = b } }

    written-rule : (a b : Bool) (wcc : Wcc) (count committed : ℕ) (verf : Verf) (refusal : Option Fault)
        → (nat_lt committed (saves.answered asked_xid file back).how || nat_lt 2 committed) ≡ a → ((count == 0) || nat_lt (length (saves.answered asked_xid file back).bytes) count) ≡ b
        → Asked h x (length h) call (replies.File (kept.Write wcc count committed verf))
        → saves.Lands asked_xid file (written_by (saves.answered asked_xid file back).how (length (saves.answered asked_xid file back).bytes) wcc count committed verf) back between refusal
        → FineOption IsRule refusal
    written-rule true b wcc count committed verf refusal is other asked l =
        let k = rw is at l in
        fine-some IsRule (faults.Bad 3) refusal k.0
        (broken 3 _ asked (wrong_committed refl wcc count committed verf file (saves.answered asked_xid file back).offset (saves.answered asked_xid file back).how
        (saves.answered asked_xid file back).bytes is_piece asked.spells
        (by (or-either (nat_lt committed (saves.answered asked_xid file back).how) (nat_lt 2 committed) is))))
      where
        by : (nat_lt committed (saves.answered asked_xid file back).how ≡ true) ⊎ (nat_lt 2 committed ≡ true) → (committed < (saves.answered asked_xid file back).how) ⊎ (2 < committed)
        by (inl low) = inl (ltb-true committed (saves.answered asked_xid file back).how low)
        by (inr high) = inr (ltb-true 2 committed high)
    written-rule false true wcc count committed verf refusal is other asked l =
        let k = rw (is, other) at l in
        fine-some IsRule (faults.Bad 4) refusal k.0
        (broken 4 _ asked (wrong_count refl wcc count committed verf file (saves.answered asked_xid file back).offset (saves.answered asked_xid file back).how
        (saves.answered asked_xid file back).bytes is_piece asked.spells
        (by (or-either (count == 0) (nat_lt (length (saves.answered asked_xid file back).bytes) count) other))))
      where
        by : ((count == 0) ≡ true) ⊎ (nat_lt (length (saves.answered asked_xid file back).bytes) count ≡ true) → (count ≡ 0) ⊎ (length (saves.answered asked_xid file back).bytes < count)
        by (inl none) = inl (eqb-true count 0 none)
        by (inr more) = inr (ltb-true (length (saves.answered asked_xid file back).bytes) count more)
    written-rule false false wcc count committed verf None is other asked l = tt
    written-rule false false wcc count committed verf (Some fault) is other asked l = let k = rw (is, other) at l in fine-fault IsRule fault faults.Memory k.0 tt

    reply-rule : (reply : FileKept) (refusal : Option Fault) → Asked h x (length h) call (replies.File reply)
        → Asked h x (length h) (write_of file (saves.answered asked_xid file back)) (replies.File reply)
        → saves.Lands asked_xid file (write_told_by (saves.answered asked_xid file back).how (length (saves.answered asked_xid file back).bytes) reply) back between refusal
        → FineOption IsRule refusal
    reply-rule (kept.Write wcc count committed verf) refusal a b l = written-rule _ _ wcc count committed verf refusal refl refl a l
    reply-rule (kept.WriteFail status wcc) refusal a b l = fine-some IsRule (faults.Nfs status.0) refusal l.0 tt
    reply-rule reply refusal a b l = absurd (let no_way = b.spells.is.answers in omega (arith, no_way))

  -- a WRITE's reply, where the call is one of the file
  lands-rule : (call : Call) (s : Saving) (sent : Turn) (came : Result Reply Fault) (back between : Pending) (refusal : Option Fault) → IsWriteOf s.file call → RuleTold came call
      → ((reply : Reply) → came ≡ Ok reply → IsPiece sent.xid call back) → saves.Lands sent.xid s.file (saves.told_of sent.xid s.file back came) back between refusal
      → FineOption IsRule refusal
  lands-rule call s sent (Ok (replies.File reply)) back between refusal w t own_piece l =
      let is = own_piece (replies.File reply) refl s.file w.offset w.how w.bytes w.is in
      let a = t.heard (replies.File reply) refl in
      reply-rule call s.file sent.xid back between is reply refusal a (subst (λ (c : Call). Asked h x (length h) c (replies.File reply)) is a) l
  lands-rule call s sent (Ok (replies.Dir reply)) back between refusal w t own_piece l =
      absurd ((subst (λ (c : Call). Asked h x (length h) c (replies.Dir reply)) w.is (t.heard (replies.Dir reply) refl)).spells.is)
  lands-rule call s sent (Ok (replies.Mount reply)) back between refusal w t own_piece l =
      absurd ((subst (λ (c : Call). Asked h x (length h) c (replies.Mount reply)) w.is (t.heard (replies.Mount reply) refl)).spells.is)
  lands-rule call s sent (Err fault) back between refusal w t own_piece l = fine-some IsRule fault refusal l.0 (why-rule call fault (t.refused fault refl))

  -- ---- COMMIT

  commit-file : (file : List ℕ) (reply : FileKept) → Asked h x (length h) (saves.commit_of file) (replies.File reply) → FineErr (commit_told_by reply)
  commit-file file (kept.Commit wcc verf) a = tt
  commit-file file (kept.CommitFail status wcc) a = tt
  commit-file file reply a = absurd (let no_way = a.spells.is.answers in omega (arith, no_way))

  commit-rule : (file : List ℕ) (came : Result Reply Fault) → RuleTold came (saves.commit_of file) → FineErr (commit_told came)
  commit-rule file (Ok (replies.File reply)) t = commit-file file reply (t.heard (replies.File reply) refl)
  commit-rule file (Ok (replies.Dir reply)) t = absurd ((t.heard (replies.Dir reply) refl).spells.is)
  commit-rule file (Ok (replies.Mount reply)) t = absurd ((t.heard (replies.Mount reply) refl).spells.is)
  commit-rule file (Err fault) t = why-rule (saves.commit_of file) fault (t.refused fault refl)

  -- a save
  pub save-rule : (call : Call) (sent : Turn) (came : Result Reply Fault) (s : Saving) (back : Pending) → SaveCall s call → RuleTold came call
      → ((reply : Reply) → came ≡ Ok reply → IsPiece sent.xid call back) → FitsSave IsRule own sent came s back
  save-rule call sent came s back mine t own_piece = record {
    lands = λ sends between refusal l. lands-rule call s sent came back between refusal (subst (λ (b : Bool). CallBy b s.file call) sends mine) t own_piece l;
    commits = λ idle. commit-rule s.file came (told-as came call (saves.commit_of s.file) (subst (λ (b : Bool). CallBy b s.file call) idle mine) t);
  }
