-- A save never waits for nothing: where none of its calls waits it goes on as soon as its turn has come and there is room.
use Rattle.core_facts.proofs.Prelude.{◌≡◌, ◌+◌, ◌&&◌, ◌==◌, ℕ, Bool, true, false, List, [], ◌∷◌, Option, Some, None, Result, Ok, Err, inl, inr, refl, sym, ap, subst, ◌∙◌, arith, if◌then◌else◌, nat_lt, Verdict, AllStable, SendAgain, Verf, Fault, Reply, Step, Repeat, Turn, goes_again, chosen, Pending, of_file, Segments, Phase, Sending, Committing, Resending, CommittingAgain, Saving, commit_told, by-step, of_saving}
use Rattle.world_model.specs.declared.answer.Fault.TheVariants.{Memory}
use Rattle.file_ops.specs.Saves as saves
use Rattle.file_ops.specs.Syncs as syncs
use Rattle.file_ops.specs.WriteFile as writes
use Rattle.core_facts.proofs.NameLives.{clash, WhileGoing, going-any, GoesOn}

-- where it is no time of WRITEs it waits for the reply to its COMMIT
abbrev pub SaveLive : Saving → Type 0
SaveLive s = saves.is_sending s.phase ≡ false → s.waiting ≡ 1

pub sending-live : (s : Saving) → saves.is_sending s.phase ≡ true → SaveLive s
sending-live s sending = λ idle. clash (saves.is_sending s.phase) sending idle

pub begun-live : (file : List ℕ) (upto : ℕ) → SaveLive (saves.begun file upto)
begun-live file upto = sending-live (saves.begun file upto) refl

-- ---- a step without a reply

lead-live : (to : _) (saved : Saving) (next : _) (new : Saving) → saves.Leads to saved next new → SaveLive saved → SaveLive new
lead-live to saved next new l live = subst SaveLive (sym l.keeps) live

sent-if : (a b : Bool) (s : Saving) → SaveLive s → SaveLive (if a then s else if b then s else record s { phase = saves.commit_phase s.phase; waiting = 1 })
sent-if true b s live = live
sent-if false true s live = live
sent-if false false s live = λ idle. refl

and-left : (a b : Bool) → (a && b) ≡ true → a ≡ true
and-left true b e = refl
and-left false b e = absurd cc

and-right : (a b : Bool) → (a && b) ≡ true → b ≡ true
and-right true b e = e
and-right false b e = absurd cc

module _ (wsize xid : ℕ) (room by_reply : Bool) where
  sends-live : (run : Segments) (s : Saving) (back : Pending) (next : _) (new : Saving) (after : Pending) → saves.is_sending s.phase ≡ true
      → saves.Sends xid by_reply run s back next new after → SaveLive new
  sends-live run s back next new after sending (inr l) = lead-live (saves.refused_next s.waiting Memory) s next new l.0 (sending-live s sending)
  sends-live [] s back next new after sending (inl l) =
      lead-live (saves.next_sent by_reply s) (saves.saving_sent by_reply s) next new l.0
      (sent-if (nat_lt 0 s.waiting) (saves.is_again s.phase && by_reply) s (sending-live s sending))
  sends-live (e ∷ es) s back next new after sending (inl l) =
      lead-live _ (record s { waiting = s.waiting + 1 }) next new l.0 (sending-live (record s { waiting = s.waiting + 1 }) sending)

  if-live : (b : Bool) (run : Segments) (s : Saving) (back : Pending) (next : _) (new : Saving) (after : Pending) → saves.may_send room s ≡ b → SaveLive s
      → saves.SendsIf b xid by_reply run s back next new after → SaveLive new
  if-live false run s back next new after may live l = lead-live _ s next new l.0 live
  if-live true run s back next new after may live l =
      let both = and-left (room && saves.is_sending s.phase) (nat_lt s.waiting 32) may in
      sends-live run s back next new after (and-right room (saves.is_sending s.phase) both) l

  over-live : (refusal : Option Fault) (s : Saving) (back : Pending) (next : _) (new : Saving) (after : Pending) → SaveLive s
      → saves.GoesOver refusal wsize xid room by_reply s back next new after → SaveLive new
  over-live (Some fault) s back next new after live g = lead-live (saves.refused_next s.waiting fault) s next new g.0 live
  over-live None s back next new after live g = if-live (saves.may_send room s) (chosen s.upto wsize (of_file s.file back)) s back next new after refl live g

  pub goes-live : (s : Saving) (back : Pending) (next : _) (new : Saving) (after : Pending) → SaveLive s → saves.Goes wsize xid room by_reply s back next new after
      → SaveLive new
  goes-live s back next new after live g = over-live s.refusal s back next new after live g

-- ---- a step with what came of a call

refused-phase : (refusal : Option Fault) (s : Saving) → saves.is_sending (saves.refused_by refusal s).phase ≡ saves.is_sending s.phase
refused-phase None s = refl
refused-phase (Some fault) s = refl

write-live : (wsize asked xid : ℕ) (room : Bool) (told : _) (s : Saving) (back : Pending) (next : _) (new : Saving) (after : Pending) → saves.is_sending s.phase ≡ true
    → saves.TakesWrite wsize asked xid room told s back next new after → SaveLive new
write-live wsize asked xid room told s back next new after sending t =
    goes-live wsize xid room t.counts (saves.refused_by t.refusal s) t.between next new after
    (sending-live (saves.refused_by t.refusal s) (refused-phase t.refusal s ∙ sending)) t.goes

repeats-live : (again : Bool) (wsize : ℕ) (sent turn : Turn) (told : _) (s : Saving) (back : Pending) (next : _) (new : Saving) (after : Pending)
    → saves.is_sending s.phase ≡ true → saves.RepeatsWrite again wsize sent turn told s back next new after → SaveLive new
repeats-live true wsize sent turn told s back next new after sending r = lead-live _ s next new r.0 (sending-live s sending)
repeats-live false wsize sent turn told s back next new after sending r =
    write-live wsize sent.xid turn.xid turn.room told (saves.less_waiting s) back next new after sending r

told-live : (busy : Bool) (wsize : ℕ) (sent turn : Turn) (told : _) (repeats : List Repeat) (s : Saving) (back : Pending) (next : _) (new : Saving) (after : Pending)
    (later : List Repeat) → saves.is_sending s.phase ≡ true → saves.TakesToldIf busy wsize sent turn told repeats s back next new after later → SaveLive new
told-live true wsize sent turn told repeats s back next new after later sending (inl t) =
    repeats-live (goes_again true sent turn repeats) wsize sent turn told s back next new after sending t.0
told-live true wsize sent turn told repeats s back next new after later sending (inr t) =
    write-live wsize sent.xid turn.xid turn.room _ (saves.less_waiting s) back next new after sending t.0
told-live false wsize sent turn told repeats s back next new after later sending t =
    write-live wsize sent.xid turn.xid turn.room told (saves.less_waiting s) back next new after sending t.0

-- as long as it goes on
abbrev pub SaveGoing : Step → Saving → Type 0
SaveGoing next s = WhileGoing next (SaveLive s)

lead-going : (to : _) (next : _) (saved new : Saving) → saves.Leads to saved next new → SaveGoing (syncs.sync_next to) new → SaveGoing (syncs.sync_next next) new
lead-going to next saved new l g = subst (λ n. SaveGoing (syncs.sync_next n) new) (sym l.gives_next) g

decides-live : (verdict : Verdict) (wsize xid : ℕ) (room : Bool) (s : Saving) (back : Pending) (next : _) (new : Saving) (after : Pending)
    → saves.Decides verdict wsize xid room s back next new after → SaveGoing (syncs.sync_next next) new
decides-live AllStable wsize xid room s back next new after d = lead-going _ next s new d.0 tt
decides-live (SendAgain count) wsize xid room s back next new after d =
    going-any (syncs.sync_next next) (SaveLive new)
    (goes-live wsize xid room false (record s { phase = Resending }) back next new after (sending-live (record s { phase = Resending }) refl) d)

commit-live : (told : Result Verf Fault) (wsize xid : ℕ) (room : Bool) (s : Saving) (back : Pending) (next : _) (new : Saving) (after : Pending)
    → saves.TakesCommit wsize xid room told s back next new after → SaveGoing (syncs.sync_next next) new
commit-live (Ok verf) wsize xid room s back next new after t = decides-live _ wsize xid room s t.between next new after t.goes
commit-live (Err fault) wsize xid room s back next new after t = lead-going _ next s new t.0 tt

first-live : (again : Bool) (told : Result Verf Fault) (wsize : ℕ) (turn : Turn) (s : Saving) (back : Pending) (next : _) (new : Saving) (after : Pending)
    → SaveLive s → saves.TakesFirst again wsize turn told s back next new after → SaveGoing (syncs.sync_next next) new
first-live true told wsize turn s back next new after live t = going-any (syncs.sync_next next) (SaveLive new) (lead-live _ (saves.put_off_more s) next new t.0 live)
first-live false told wsize turn s back next new after live t = commit-live told wsize turn.xid turn.room (saves.less_waiting s) back next new after t

last-live : (again : Bool) (told : Result Verf Fault) (s : Saving) → SaveLive s → SaveGoing (syncs.sync_next (saves.last_next again told s)) (saves.last_saving again s)
last-live true told s live = live
last-live false (Ok verf) s live = tt
last-live false (Err fault) s live = tt

lead-going-to : (to : _) (saved : Saving) (next : _) (new : Saving) → saves.Leads to saved next new → SaveGoing (syncs.sync_next to) saved
    → SaveGoing (syncs.sync_next next) new
lead-going-to to saved next new l g = lead-going to next saved new l (subst (λ (s : Saving). SaveGoing (syncs.sync_next to) s) (sym l.keeps) g)

module _ (wsize : ℕ) (sent turn : Turn) (came : Result Reply Fault) where
  in-live : (phase : Phase) (repeats : List Repeat) (s : Saving) (back : Pending) (next : _) (new : Saving) (after : Pending) (later : List Repeat) → s.phase ≡ phase
      → SaveLive s → saves.TakesIn phase wsize sent turn came repeats s back next new after later → SaveGoing (syncs.sync_next next) new
  in-live Sending repeats s back next new after later at live t =
      going-any (syncs.sync_next next) (SaveLive new) (told-live _ wsize sent turn _ repeats s back next new after later (ap saves.is_sending at) t)
  in-live Resending repeats s back next new after later at live t =
      going-any (syncs.sync_next next) (SaveLive new) (told-live _ wsize sent turn _ repeats s back next new after later (ap saves.is_sending at) t)
  in-live Committing repeats s back next new after later at live t =
      first-live (saves.commit_again (commit_told came) sent turn repeats s) (commit_told came) wsize turn s back next new after live t.0
  in-live CommittingAgain repeats s back next new after later at live t =
      let again = saves.commit_again (commit_told came) sent turn repeats s in
      lead-going-to (saves.last_next again (commit_told came) s) (saves.last_saving again s) next new t.0 (last-live again (commit_told came) s live)

  pub takes-live : (repeats : List Repeat) (s : Saving) (back : Pending) (next : _) (new : Saving) (after : Pending) (later : List Repeat) → SaveLive s
      → saves.Takes wsize sent turn came repeats s back next new after later → SaveGoing (syncs.sync_next next) new
  takes-live repeats s back next new after later live t = in-live s.phase repeats s back next new after later refl live t

-- ---- it goes on where none of its calls waits

-- as a step of a save for room: one that hasn't just taken a reply never ends well
lead-on : (to : _) (saved : Saving) (next : _) (new : Saving) → saves.Leads to saved next new → GoesOn (writes.room_next to) → GoesOn (writes.room_next next)
lead-on to saved next new l g = subst (λ n. GoesOn (writes.room_next n)) (sym l.gives_next) g

refused-on : (waiting : ℕ) (fault : Fault) → waiting ≡ 0 → GoesOn (writes.room_next (saves.refused_next waiting fault))
refused-on waiting fault none = subst (λ (n : ℕ). GoesOn (writes.room_next (saves.refused_next n fault))) (sym none) tt

and-false : (b : Bool) → (b && false) ≡ false
and-false true = refl
and-false false = refl

sent-on : (s : Saving) → s.waiting ≡ 0 → GoesOn (writes.room_next (saves.next_sent false s))
sent-on s none = by (nat_lt 0 s.waiting) (saves.is_again s.phase && false) refl refl
  where
    by : (lt done : Bool) → nat_lt 0 s.waiting ≡ lt → (saves.is_again s.phase && false) ≡ done → GoesOn (writes.room_next (saves.next_sent false s))
    by true done is ends = clash (nat_lt 0 s.waiting) is (ap (λ (n : ℕ). nat_lt 0 n) none)
    by false true is ends = clash (saves.is_again s.phase && false) ends (and-false (saves.is_again s.phase))
    by false false is ends = rw (is, ends) tt

and-all : (a b c : Bool) → a ≡ true → b ≡ true → c ≡ true → (a && b && c) ≡ true
and-all true true true x y z = refl
and-all true true false x y z = z
and-all true false c x y z = y
and-all false b c x y z = x

abbrev pub saving_by : Bool → ℕ → ℕ
saving_by sending waiting = if sending then waiting else if waiting == 1 then 1 else 0

pub record IsIdle (s : Saving) : Type 0 where
  pub sending : saves.is_sending s.phase ≡ true
  pub none : s.waiting ≡ 0

idle-if : (b : Bool) (s : Saving) → saves.is_sending s.phase ≡ b → SaveLive s → of_saving s ≡ 0 → IsIdle s
idle-if true s is live none = record { sending = is; none = sym (ap (λ (b : Bool). saving_by b s.waiting) is) ∙ none }
idle-if false s is live none = absurd (
    let own : of_saving s ≡ saving_by false s.waiting = ap (λ (b : Bool). saving_by b s.waiting) is in
    let one : saving_by false s.waiting ≡ 1 = ap (λ (n : ℕ). saving_by false n) (live is) in
    omega (arith, own, one, none))

pub save-idle : (s : Saving) → SaveLive s → of_saving s ≡ 0 → IsIdle s
save-idle s live none = idle-if (saves.is_sending s.phase) s refl live none

module _ (wsize xid : ℕ) where
  sends-on : (run : Segments) (s : Saving) (back : Pending) (next : _) (new : Saving) (after : Pending) → s.waiting ≡ 0
      → saves.Sends xid false run s back next new after → GoesOn (writes.room_next next)
  sends-on run s back next new after none (inr l) = lead-on (saves.refused_next s.waiting Memory) s next new l.0 (refused-on s.waiting Memory none)
  sends-on [] s back next new after none (inl l) = lead-on (saves.next_sent false s) (saves.saving_sent false s) next new l.0 (sent-on s none)
  sends-on (e ∷ es) s back next new after none (inl l) = lead-on _ (record s { waiting = s.waiting + 1 }) next new l.0 tt

  if-on : (b : Bool) (run : Segments) (s : Saving) (back : Pending) (next : _) (new : Saving) (after : Pending) → saves.may_send true s ≡ b → IsIdle s
      → saves.SendsIf b xid false run s back next new after → GoesOn (writes.room_next next)
  if-on true run s back next new after may idle l = sends-on run s back next new after idle.none l
  if-on false run s back next new after may idle l =
      clash (saves.may_send true s) (and-all true (saves.is_sending s.phase) (nat_lt s.waiting 32) refl idle.sending (ap (λ (n : ℕ). nat_lt n 32) idle.none)) may

  over-on : (refusal : Option Fault) (s : Saving) (back : Pending) (next : _) (new : Saving) (after : Pending) → IsIdle s
      → saves.GoesOver refusal wsize xid true false s back next new after → GoesOn (writes.room_next next)
  over-on (Some fault) s back next new after idle g = lead-on (saves.refused_next s.waiting fault) s next new g.0 (refused-on s.waiting fault idle.none)
  over-on None s back next new after idle g = if-on (saves.may_send true s) (chosen s.upto wsize (of_file s.file back)) s back next new after refl idle g

  pub goes-on : (room : Bool) (s : Saving) (back : Pending) (next : _) (new : Saving) (after : Pending) → room ≡ true → SaveLive s → of_saving s ≡ 0
      → saves.Goes wsize xid room false s back next new after → GoesOn (writes.room_next next)
  goes-on true s back next new after is live none g = over-on s.refusal s back next new after (save-idle s live none) g
  goes-on false s back next new after is live none g = clash false is refl

-- and as a step of its own
pub on-sync : (gives : _) → GoesOn (writes.room_next gives) → GoesOn (syncs.sync_next gives)
on-sync gives g = by-step (λ s. GoesOn (writes.room_next s) → GoesOn (syncs.sync_next s)) (λ call on. tt) (λ on. on) (λ result on. tt) gives g
