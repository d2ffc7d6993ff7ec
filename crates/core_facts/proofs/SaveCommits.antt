-- For which calls a save waits, and what came before it goes on to send again or ends well.
use Rattle.core_facts.proofs.Prelude.{◌≡◌, ◌+◌, ◌-◌, ◌==◌, ◌&&◌, ◌≤◌, ℕ, Bool, true, false, List, [], ◌∷◌, Option, Some, None, Result, Ok, Err, inl, inr, refl, sym, ap, subst, ◌∙◌, arith, if◌then◌else◌, nat_lt, Verdict, AllStable, SendAgain, Verf, Answer, Fault, Call, Reply, Step, Repeat, Turn, goes_again, chosen, Pending, of_file, Segments, Phase, Sending, Committing, Resending, CommittingAgain, Saving, commit_told, of_saving}
use Rattle.std.proofs.lemmas.Bool.{ltb-false}
use Rattle.world_model.specs.declared.answer.Answer.TheVariants as answers
use Rattle.world_model.specs.declared.answer.Fault.TheVariants.{Memory}
use Rattle.client_shelf.specs.declared.step.Step.TheVariants as nexts
use Rattle.file_ops.specs.Saves as saves
use Rattle.file_ops.specs.Syncs as syncs

-- ---- numbers

and-left : (a b : Bool) → (a && b) ≡ true → a ≡ true
and-left true b e = refl
and-left false b e = absurd cc

and-right : (a b : Bool) → (a && b) ≡ true → b ≡ true
and-right true b e = e
and-right false b e = absurd cc

-- how many wait, by whether it sends WRITEs
abbrev pub saving_by : Bool → ℕ → ℕ
saving_by sending waiting = if sending then waiting else if waiting == 1 then 1 else 0

none-waits : (b : Bool) (n : ℕ) → n ≡ 0 → saving_by b n ≡ 0
none-waits true n is = is
none-waits false n is = ap (λ (k : ℕ). if k == 1 then 1 else 0) is

while-sending : (b : Bool) (n : ℕ) → b ≡ true → saving_by b n ≡ n
while-sending true n is = refl
while-sending false n is = absurd cc

while-not : (b : Bool) (n : ℕ) → b ≡ false → saving_by b n ≡ (if n == 1 then 1 else 0)
while-not true n is = absurd cc
while-not false n is = refl

only-left : (b : Bool) (others : ℕ) → (if b then 1 else 0) ≡ others + 1 → others ≡ 0
only-left true others one = omega (arith, one)
only-left false others one = absurd (omega (arith, one))

less-sending : (s : Saving) (others : ℕ) → saves.is_sending s.phase ≡ true → of_saving s ≡ others + 1 → of_saving (saves.less_waiting s) ≡ others
less-sending s others sending is =
    let before = while-sending (saves.is_sending s.phase) s.waiting sending in
    let later : of_saving (saves.less_waiting s) ≡ s.waiting - 1 = while-sending (saves.is_sending s.phase) (s.waiting - 1) sending in
    omega (arith, before, later, is)

less-committing : (s : Saving) (others : ℕ) → saves.is_sending s.phase ≡ false → of_saving s ≡ others + 1 → others ≡ 0
less-committing s others sending is = only-left (s.waiting == 1) others (sym (while-not (saves.is_sending s.phase) s.waiting sending) ∙ is)

refused-same : (refusal : Option Fault) (s : Saving) → of_saving (saves.refused_by refusal s) ≡ of_saving s
refused-same None s = refl
refused-same (Some fault) s = refl

-- ---- what is kept

-- where it is no time of WRITEs the call is the COMMIT of its file
abbrev pub SaveExpects : Saving → Call → Type 0
SaveExpects s call = saves.is_sending s.phase ≡ false → call ≡ saves.commit_of s.file

-- a step as one of a sync: it asks for a call that it expects
abbrev pub AsksSo : Step → Saving → Type 0
AsksSo (nexts.Send call) new = SaveExpects new call
AsksSo nexts.Wait new = Unit {0}
AsksSo (nexts.Done answer) new = Unit {0}

-- C holds where it went well
abbrev pub WellDone : Type 0 → Answer → Type 0
WellDone C (answers.Done value) = C
WellDone C (answers.Refused fault) = Unit {0}

abbrev pub EndsSo : Type 0 → Step → Type 0
EndsSo C (nexts.Send call) = Unit {0}
EndsSo C nexts.Wait = Unit {0}
EndsSo C (nexts.Done answer) = WellDone C answer

-- A step of a save, of which so many other calls wait. C holds where it sends again or ends well.
pub record SaveSteps (C : Type 0) (others : ℕ) (s : Saving) (next : Step) (new : Saving) : Type 0 where
  pub file : new.file ≡ s.file
  pub asks : AsksSo next new
  pub stays : 1 ≤ others → saves.is_sending new.phase ≡ saves.is_sending s.phase
  pub again : saves.is_again new.phase ≡ true → C
  pub ended : EndsSo C next

same-again : (phase : Phase) → saves.is_again (saves.commit_phase phase) ≡ saves.is_again phase
same-again Sending = refl
same-again Committing = refl
same-again Resending = refl
same-again CommittingAgain = refl

module _ (C : Type 0) where
  -- C holds where it was to send again
  abbrev pub IfAgain : Saving → Type 0
  IfAgain s = saves.is_again s.phase ≡ true → C

  leads-steps : (others : ℕ) (s : Saving) (to : _) (saved : Saving) (next : _) (new : Saving) → saves.Leads to saved next new
      → SaveSteps C others s (syncs.sync_next to) saved → SaveSteps C others s (syncs.sync_next next) new
  leads-steps others s to saved next new l c =
      subst (λ n. SaveSteps C others s (syncs.sync_next n) new) (sym l.gives_next) (subst (λ (t : Saving). SaveSteps C others s (syncs.sync_next to) t) (sym l.keeps) c)

  refused-steps : (others : ℕ) (s : Saving) (fault : Fault) → IfAgain s → SaveSteps C others s (syncs.sync_next (saves.refused_next s.waiting fault)) s
  refused-steps others s fault again = by (s.waiting == 0) refl
    where
      by : (b : Bool) → (s.waiting == 0) ≡ b → SaveSteps C others s (syncs.sync_next (saves.refused_next s.waiting fault)) s
      by true e = record { file = refl; asks = (rw e tt); stays = λ some. refl; again = again; ended = (rw e tt) }
      by false e = record { file = refl; asks = (rw e tt); stays = λ some. refl; again = again; ended = (rw e tt) }

  sent-steps : (by_reply : Bool) (s : Saving) → IfAgain s → SaveSteps C (of_saving s) s (syncs.sync_next (saves.next_sent by_reply s)) (saves.saving_sent by_reply s)
  sent-steps by_reply s again = by (nat_lt 0 s.waiting) (saves.is_again s.phase && by_reply) refl refl
    where
      by : (lt done : Bool) → nat_lt 0 s.waiting ≡ lt → (saves.is_again s.phase && by_reply) ≡ done
          → SaveSteps C (of_saving s) s (syncs.sync_next (saves.next_sent by_reply s)) (saves.saving_sent by_reply s)
      by true done is ends = rw is (record { file = refl; asks = tt; stays = λ some. refl; again = again; ended = tt })
      by false true is ends = rw (is, ends) (record { file = refl; asks = tt; stays = λ some. refl; again = again; ended = again (and-left (saves.is_again s.phase) by_reply ends) })
      by false false is ends = rw (is, ends) (record {
        file = refl;
        asks = λ sending. refl;
        stays = λ some.
            let low = ltb-false 0 s.waiting is in
            let none = none-waits (saves.is_sending s.phase) s.waiting (omega (arith, low)) in
            absurd (omega (arith, none, some));
        again = λ later. again (sym (same-again s.phase) ∙ later);
        ended = tt;
      })

  sends-steps : (xid : ℕ) (by_reply : Bool) (run : Segments) (s : Saving) (back : Pending) (next : _) (new : Saving) (after : Pending) → saves.is_sending s.phase ≡ true
      → IfAgain s → saves.Sends xid by_reply run s back next new after → SaveSteps C (of_saving s) s (syncs.sync_next next) new
  sends-steps xid by_reply run s back next new after sending again (inr l) =
      leads-steps (of_saving s) s (saves.refused_next s.waiting Memory) s next new l.0 (refused-steps (of_saving s) s Memory again)
  sends-steps xid by_reply [] s back next new after sending again (inl l) =
      leads-steps (of_saving s) s (saves.next_sent by_reply s) (saves.saving_sent by_reply s) next new l.0
      (sent-steps by_reply s again)
  sends-steps xid by_reply (e ∷ es) s back next new after sending again (inl l) =
      leads-steps (of_saving s) s _ (record s { waiting = s.waiting + 1 }) next new l.0
      (record { file = refl; asks = λ idle. absurd (let no-way : true ≡ false = sym sending ∙ idle in cc); stays = λ some. refl; again = again; ended = tt })

  sends-if-steps : (wsize xid : ℕ) (room by_reply b : Bool) (run : Segments) (s : Saving) (back : Pending) (next : _) (new : Saving) (after : Pending) → saves.may_send room s ≡ b
      → IfAgain s → saves.SendsIf b xid by_reply run s back next new after → SaveSteps C (of_saving s) s (syncs.sync_next next) new
  sends-if-steps wsize xid room by_reply false run s back next new after may again l =
      leads-steps (of_saving s) s _ s next new l.0 (record { file = refl; asks = tt; stays = λ some. refl; again = again; ended = tt })
  sends-if-steps wsize xid room by_reply true run s back next new after may again l =
      let both = and-left (room && saves.is_sending s.phase) (nat_lt s.waiting 32) may in
      sends-steps xid by_reply run s back next new after (and-right room (saves.is_sending s.phase) both) again l

  goes-over-steps : (refusal : Option Fault) (wsize xid : ℕ) (room by_reply : Bool) (s : Saving) (back : Pending) (next : _) (new : Saving) (after : Pending)
      → IfAgain s → saves.GoesOver refusal wsize xid room by_reply s back next new after → SaveSteps C (of_saving s) s (syncs.sync_next next) new
  goes-over-steps (Some fault) wsize xid room by_reply s back next new after again g =
      leads-steps (of_saving s) s (saves.refused_next s.waiting fault) s next new g.0 (refused-steps (of_saving s) s fault again)
  goes-over-steps None wsize xid room by_reply s back next new after again g =
      sends-if-steps wsize xid room by_reply (saves.may_send room s) (chosen s.upto wsize (of_file s.file back)) s back next new after refl again g

  pub goes-steps : (wsize xid : ℕ) (room by_reply : Bool) (s : Saving) (back : Pending) (next : _) (new : Saving) (after : Pending)
      → IfAgain s → saves.Goes wsize xid room by_reply s back next new after → SaveSteps C (of_saving s) s (syncs.sync_next next) new
  goes-steps wsize xid room by_reply s back next new after again g = goes-over-steps s.refusal wsize xid room by_reply s back next new after again g

  -- ---- what came of a call

  -- seen from a save of the same file and phase
  from-steps : (others : ℕ) (was s : Saving) (next : Step) (new : Saving) → s.file ≡ was.file → saves.is_sending s.phase ≡ saves.is_sending was.phase
      → SaveSteps C others s next new → SaveSteps C others was next new
  from-steps others was s next new file phase c = record { file = c.file ∙ file; asks = c.asks; stays = λ some. c.stays some ∙ phase; again = c.again; ended = c.ended }

  refused-file : (refusal : Option Fault) (s : Saving) → (saves.refused_by refusal s).file ≡ s.file
  refused-file None s = refl
  refused-file (Some fault) s = refl

  refused-phase : (refusal : Option Fault) (s : Saving) → (saves.refused_by refusal s).phase ≡ s.phase
  refused-phase None s = refl
  refused-phase (Some fault) s = refl

  takes-write-steps : (wsize asked xid : ℕ) (room : Bool) (told : _) (s : Saving) (back : Pending) (next : _) (new : Saving) (after : Pending) (others : ℕ)
      → of_saving s ≡ others → IfAgain s → saves.TakesWrite wsize asked xid room told s back next new after → SaveSteps C others s (syncs.sync_next next) new
  takes-write-steps wsize asked xid room told s back next new after others is again t =
      from-steps others s (saves.refused_by t.refusal s) (syncs.sync_next next) new (refused-file t.refusal s) (ap saves.is_sending (refused-phase t.refusal s))
      (subst (λ (n : ℕ). SaveSteps C n (saves.refused_by t.refusal s) (syncs.sync_next next) new) (refused-same t.refusal s ∙ is)
      (goes-steps wsize xid room t.counts (saves.refused_by t.refusal s) t.between next new after
      (λ later. again (sym (ap saves.is_again (refused-phase t.refusal s)) ∙ later)) t.goes))

  repeats-steps : (more : Bool) (wsize : ℕ) (sent turn : Turn) (told : _) (s : Saving) (back : Pending) (next : _) (new : Saving) (after : Pending)
      (others : ℕ) → saves.is_sending s.phase ≡ true → of_saving s ≡ others + 1 → IfAgain s → saves.RepeatsWrite more wsize sent turn told s back next new after
      → SaveSteps C others s (syncs.sync_next next) new
  repeats-steps true wsize sent turn told s back next new after others sending is again r =
      leads-steps others s _ s next new r.0
      (record { file = refl; asks = λ idle. absurd (let no-way : true ≡ false = sym sending ∙ idle in cc); stays = λ some. refl; again = again; ended = tt })
  repeats-steps false wsize sent turn told s back next new after others sending is again r =
      from-steps others s (saves.less_waiting s) (syncs.sync_next next) new refl refl
      (takes-write-steps wsize sent.xid turn.xid turn.room told (saves.less_waiting s) back next new after others (less-sending s others sending is) again r)

  told-steps : (busy : Bool) (wsize : ℕ) (sent turn : Turn) (told : _) (repeats : List Repeat) (s : Saving) (back : Pending) (next : _)
      (new : Saving) (after : Pending) (later : List Repeat) (others : ℕ) → saves.is_sending s.phase ≡ true → of_saving s ≡ others + 1 → IfAgain s
      → saves.TakesToldIf busy wsize sent turn told repeats s back next new after later → SaveSteps C others s (syncs.sync_next next) new
  told-steps true wsize sent turn told repeats s back next new after later others sending is again (inl t) =
      repeats-steps (goes_again true sent turn repeats) wsize sent turn told s back next new after others sending is again t.0
  told-steps true wsize sent turn told repeats s back next new after later others sending is again (inr t) =
      from-steps others s (saves.less_waiting s) (syncs.sync_next next) new refl refl
      (takes-write-steps wsize sent.xid turn.xid turn.room _ (saves.less_waiting s) back next new after others (less-sending s others sending is) again t.0)
  told-steps false wsize sent turn told repeats s back next new after later others sending is again t =
      from-steps others s (saves.less_waiting s) (syncs.sync_next next) new refl refl
      (takes-write-steps wsize sent.xid turn.xid turn.room told (saves.less_waiting s) back next new after others (less-sending s others sending is) again t.0)

  -- the reply to its COMMIT says so
  abbrev pub IfTold : Result Verf Fault → Type 0
  IfTold told = (verf : Verf) → told ≡ Ok verf → C

  decides-steps : (verdict : Verdict) (wsize xid : ℕ) (room : Bool) (was s : Saving) (back : Pending) (next : _) (new : Saving) (after : Pending) (others : ℕ)
      → others ≡ 0 → s.file ≡ was.file → C → saves.Decides verdict wsize xid room s back next new after → SaveSteps C others was (syncs.sync_next next) new
  decides-steps AllStable wsize xid room was s back next new after others none file c d =
      leads-steps others was _ s next new d.0 (record { file = file; asks = tt; stays = λ some. absurd (omega (arith, none, some)); again = λ later. c; ended = c })
  decides-steps (SendAgain count) wsize xid room was s back next new after others none file c d =
      let on = goes-steps wsize xid room false (record s { phase = Resending }) back next new after (λ later. c) d in
      record { file = on.file ∙ file; asks = on.asks; stays = λ some. absurd (omega (arith, none, some)); again = on.again; ended = on.ended }

  commit-steps : (told : Result Verf Fault) (wsize xid : ℕ) (room : Bool) (was s : Saving) (back : Pending) (next : _) (new : Saving) (after : Pending) (others : ℕ)
      → others ≡ 0 → s.file ≡ was.file → IfAgain s → IfTold told → saves.TakesCommit wsize xid room told s back next new after → SaveSteps C others was (syncs.sync_next next) new
  commit-steps (Ok verf) wsize xid room was s back next new after others none file again c t =
      decides-steps _ wsize xid room was s t.between next new after others none file (c verf refl) t.goes
  commit-steps (Err fault) wsize xid room was s back next new after others none file again c t =
      leads-steps others was _ s next new t.0 (record { file = file; asks = tt; stays = λ some. absurd (omega (arith, none, some)); again = again; ended = tt })

  first-steps : (more : Bool) (told : Result Verf Fault) (wsize : ℕ) (turn : Turn) (s : Saving) (back : Pending) (next : _) (new : Saving) (after : Pending)
      (others : ℕ) → saves.is_sending s.phase ≡ false → of_saving s ≡ others + 1 → IfAgain s → IfTold told → saves.TakesFirst more wsize turn told s back next new after
      → SaveSteps C others s (syncs.sync_next next) new
  first-steps true told wsize turn s back next new after others sending is again c t =
      leads-steps others s _ (saves.put_off_more s) next new t.0 (record { file = refl; asks = λ idle. refl; stays = λ some. refl; again = again; ended = tt })
  first-steps false told wsize turn s back next new after others sending is again c t =
      commit-steps told wsize turn.xid turn.room s (saves.less_waiting s) back next new after others (less-committing s others sending is) refl again c t

  last-steps : (more : Bool) (told : Result Verf Fault) (s : Saving) (others : ℕ) → IfAgain s → IfTold told
      → SaveSteps C others s (syncs.sync_next (saves.last_next more told s)) (saves.last_saving more s)
  last-steps true told s others again c = record { file = refl; asks = λ idle. refl; stays = λ some. refl; again = again; ended = tt }
  last-steps false (Ok verf) s others again c = record { file = refl; asks = tt; stays = λ some. refl; again = again; ended = c verf refl }
  last-steps false (Err fault) s others again c = record { file = refl; asks = tt; stays = λ some. refl; again = again; ended = tt }

  takes-in-steps : (phase : Phase) (wsize : ℕ) (sent turn : Turn) (came : Result Reply Fault) (repeats : List Repeat) (s : Saving) (back : Pending) (next : _)
      (new : Saving) (after : Pending) (later : List Repeat) (others : ℕ) → s.phase ≡ phase → of_saving s ≡ others + 1 → IfAgain s
      → (saves.is_sending s.phase ≡ false → IfTold (commit_told came)) → saves.TakesIn phase wsize sent turn came repeats s back next new after later → SaveSteps C others s (syncs.sync_next next) new
  takes-in-steps Sending wsize sent turn came repeats s back next new after later others in_phase is again c t =
      told-steps _ wsize sent turn _ repeats s back next new after later others (ap saves.is_sending in_phase) is again t
  takes-in-steps Resending wsize sent turn came repeats s back next new after later others in_phase is again c t =
      told-steps _ wsize sent turn _ repeats s back next new after later others (ap saves.is_sending in_phase) is again t
  takes-in-steps Committing wsize sent turn came repeats s back next new after later others in_phase is again c t =
      first-steps (saves.commit_again (commit_told came) sent turn repeats s) (commit_told came) wsize turn s back next new after others
      (ap saves.is_sending in_phase) is again (c (ap saves.is_sending in_phase)) t.0
  takes-in-steps CommittingAgain wsize sent turn came repeats s back next new after later others in_phase is again c t =
      let more = saves.commit_again (commit_told came) sent turn repeats s in
      leads-steps others s (saves.last_next more (commit_told came) s) (saves.last_saving more s) next new t.0
      (last-steps more (commit_told came) s others again (c (ap saves.is_sending in_phase)))

  pub takes-steps : (wsize : ℕ) (sent turn : Turn) (came : Result Reply Fault) (repeats : List Repeat) (s : Saving) (back : Pending) (next : _) (new : Saving)
      (after : Pending) (later : List Repeat) (others : ℕ) → of_saving s ≡ others + 1 → IfAgain s → (saves.is_sending s.phase ≡ false → IfTold (commit_told came))
      → saves.Takes wsize sent turn came repeats s back next new after later → SaveSteps C others s (syncs.sync_next next) new
  takes-steps wsize sent turn came repeats s back next new after later others is again c t =
      takes-in-steps s.phase wsize sent turn came repeats s back next new after later others refl is again c t
