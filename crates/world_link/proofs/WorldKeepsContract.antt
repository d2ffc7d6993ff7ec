-- What the calls of the world as a link keep: it stays honest, so what it tells is lawful, and always fresh and rising.
use Rattle.std.proofs.Common.{◌⊎◌, ⊎_elim, ◌≡◌, ◌<◌, ℕ, List, [], ◌∷◌, ◌++◌, length, drop, get_or, slice_get, Option, Some, None, Result, Ok, Err, sym, ap, subst, ◌∙◌}
use Rattle.outside.specs.declared.link.LinkFault.{LinkFault}
use Rattle.outside.specs.declared.link.LinkFault.TheVariants as faults
use Rattle.outside.specs.declared.link.Received.{Received}
use Rattle.outside.specs.declared.link.Received.TheVariants as received
use Rattle.outside.specs.Link.{entry_of}
use Rattle.world_model.specs.declared.entry.Entry.{Entry}
use Rattle.world_model.specs.declared.entry.Entry.TheVariants as entries
use Rattle.world_model.specs.declared.entry.Mark.{Mark}
use Rattle.world_model.specs.Fresh.{Fresh}
use Rattle.world_model.specs.Lawful.{Lawful}
use Rattle.world_model.specs.Rising.{Rising}
use Rattle.world_model.proofs.Places.{At-last}
use Rattle.export_fs.specs.View.{View}
use Rattle.export_serve.specs.Asking.{asked_at}
use Rattle.world_link.specs.declared.directive.RequestId.{RequestId}
use Rattle.world_link.specs.declared.manner.Manner.{Manner}
use Rattle.world_link.specs.declared.waiting.Waiting.{Waiting}
use Rattle.world_link.specs.Fates.{FateView}
use Rattle.world_link.specs.Going.{Goes}
use Rattle.world_link.specs.Honest.{Every, IsSent, IsBound, IsBounded, IsHonest, StaysHonest, IsHonestWorld}
use Rattle.world_link.specs.Plans.{PlanView}
use Rattle.world_link.specs.Replay.{part_at, told}
use Rattle.world_link.specs.Steps.{Dials, Sends, Notes, LeftByMemory, HandsAt, noted, delivered_at}
use Rattle.world_link.specs.Turning.{Hands, silent, delivered, after_send, after_dial, after_failed_dial, name_of, fate_of, manner_of}
use Rattle.world_link.specs.View.{ServerView, WorldView}
use Rattle.world_link.proofs.FreshAndRising.{told_fresh, told_rising}
use Rattle.world_link.proofs.EntriesKeepHonest.{every_map, every_append, every_rest, every_get, sent_on, honest_noted, honest_failed, honest_dialed, honest_sent, honest_delivered, honest_delivered_at}

abbrev AllSent : List Entry → List Waiting → Type 0
AllSent es waiting = Every (λ (next : Waiting). IsSent es next.bytes) waiting

all_sent_on : (es more : List Entry) (waiting : List Waiting) → AllSent es waiting → AllSent (es ++ more) waiting
all_sent_on es more waiting a = every_map (λ (next : Waiting). IsSent es next.bytes) (λ (next : Waiting). IsSent (es ++ more) next.bytes) waiting (λ next s. sent_on es more next.bytes s) a

-- ---- what it tells

pub honest_is_lawful : (w : WorldView) → IsHonestWorld w → Lawful (told w)
honest_is_lawful w h = h.server.lawful

pub honest_is_fresh : (w : WorldView) → IsHonestWorld w → Fresh (told w)
honest_is_fresh w h = told_fresh (part_at w.server.partials) w.start w.server.entries h.server.stamped

pub honest_is_rising : (w : WorldView) → IsHonestWorld w → Rising (told w)
honest_is_rising w h = told_rising (part_at w.server.partials) w.start w.server.entries h.server.stamped h.server.pages

-- ---- a turn

bound_of : (plan : PlanView) (name : Option RequestId) → IsBounded plan → IsBound (fate_of plan name).limit
bound_of plan None b = tt
bound_of plan (Some s) b = b s

manner_bound : (plan : PlanView) (name : Option RequestId) (fate : FateView) (manner : Manner) → fate ≡ fate_of plan name → manner ≡ manner_of plan fate → IsBounded plan → IsBound manner.limit
manner_bound plan name fate manner f m b =
    let limit : manner.limit ≡ (fate_of plan name).limit = ap (λ (x : Manner). x.limit) m ∙ ap (λ (x : FateView). x.limit) f in
    subst IsBound (sym limit) (bound_of plan name b)

-- the first of those that wait had its turn, or a part of it
pub turn_stays : (old new : WorldView) (mid : ServerView) (next : Waiting) (rec : List ℕ) (fate : FateView) (manner : Manner) → 0 < length old.waiting → next ≡ get_or old.waiting 0 next → rec ≡ next.bytes → fate ≡ fate_of old.plan next.name → manner ≡ manner_of old.plan fate
    → (IsBound manner.limit → IsSent old.server.entries rec → StaysHonest old.server mid) → StaysHonest mid new.server → Goes old.server new.server → new.start ≡ old.start → new.plan ≡ old.plan → (new.waiting ≡ old.waiting) ⊎ (new.waiting ≡ drop 1 old.waiting)
    → IsHonestWorld old → IsHonestWorld new
turn_stays old new mid next rec fate manner l is r f m first second g s p rest h =
    let sent : IsSent old.server.entries next.bytes = subst (λ (x : Waiting). IsSent old.server.entries x.bytes) (sym is) (every_get (λ (x : Waiting). IsSent old.server.entries x.bytes) 0 old.waiting next l h.waiting) in
    let server : IsHonest old.start new.server = second.stays old.start ((first (manner_bound old.plan next.name fate manner f m h.plan) (subst (IsSent old.server.entries) (sym r) sent)).stays old.start h.server) in
    let left : AllSent old.server.entries new.waiting = ⊎_elim (λ (same : new.waiting ≡ old.waiting). subst (AllSent old.server.entries) (sym same) h.waiting)
    (λ (less : new.waiting ≡ drop 1 old.waiting). subst (AllSent old.server.entries) (sym less) (every_rest (λ (x : Waiting). IsSent old.server.entries x.bytes) 1 old.waiting h.waiting)) rest in
    record {
      server = subst (λ (start : View). IsHonest start new.server) (sym s) server;
      waiting = subst (λ (es : List Entry). AllSent es new.waiting) (sym g.grown) (all_sent_on old.server.entries g.more new.waiting left);
      plan = subst IsBounded (sym p) h.plan;
    }

-- ---- each call

same_honest : (old new : WorldView) → new ≡ old → IsHonestWorld old → IsHonestWorld new
same_honest old new e h = subst IsHonestWorld (sym e) h

sent_honest : (w : WorldView) (rec : List ℕ) → IsHonestWorld w → IsHonestWorld (after_send w rec)
sent_honest w rec h = record {
  server = honest_sent w.start w.server (name_of w.counts (asked_at rec)) rec h.server;
  waiting = every_append (λ (next : Waiting). IsSent (w.server.entries ++ entries.Sent rec ∷ []) next.bytes) w.waiting _ (all_sent_on w.server.entries (entries.Sent rec ∷ []) w.waiting h.waiting) ((_, At-last w.server.entries (entries.Sent rec)), tt);
  plan = h.plan;
}

dialed_honest : (w : WorldView) (port : ℕ) → IsHonestWorld w → IsHonestWorld (after_dial w port)
dialed_honest w port h = record { server = honest_dialed w.start w.server port h.server; waiting = all_sent_on w.server.entries (entries.Dialed port ∷ []) w.waiting h.waiting; plan = h.plan }

failed_honest : (w : WorldView) (port : ℕ) → IsHonestWorld w → IsHonestWorld (after_failed_dial w port)
failed_honest w port h = record {
  server = honest_failed w.start (record w.server { entries = w.server.entries ++ entries.Dialed port ∷ [] }) (honest_dialed w.start w.server port h.server);
  waiting = all_sent_on (w.server.entries ++ entries.Dialed port ∷ []) (entries.Failed ∷ []) w.waiting (all_sent_on w.server.entries (entries.Dialed port ∷ []) w.waiting h.waiting);
  plan = h.plan;
}

pub silent_honest : (w : WorldView) → IsHonestWorld w → IsHonestWorld (silent w)
silent_honest w h = record { server = honest_failed w.start w.server h.server; waiting = all_sent_on w.server.entries (entries.Failed ∷ []) w.waiting h.waiting; plan = h.plan }

noted_honest : (w : WorldView) (mark : Mark) → IsHonestWorld w → IsHonestWorld (noted w mark)
noted_honest w mark h = record { server = honest_noted w.start w.server mark h.server; waiting = all_sent_on w.server.entries (entry_of mark ∷ []) w.waiting h.waiting; plan = h.plan }

delivered_honest : (w : WorldView) (rec : List ℕ) (rest : List (List ℕ)) → w.server.ready ≡ rec ∷ rest → IsHonestWorld w → IsHonestWorld (delivered w rec rest)
delivered_honest w rec rest is h = record {
  server = honest_delivered w.start w.server rec rest is h.server;
  waiting = all_sent_on w.server.entries (entries.Delivered rec ∷ []) w.waiting h.waiting;
  plan = h.plan;
}

pub dials_honest : {T : Type 0} (old new : WorldView) (port : ℕ) (result : Result T LinkFault) → Dials old new port result → IsHonestWorld old → IsHonestWorld new
dials_honest old new port (Ok x) d h = same_honest (after_dial old port) new d.1 (dialed_honest old port h)
dials_honest old new port (Err faults.Failed) d h = same_honest (after_failed_dial old port) new d.1 (failed_honest old port h)
dials_honest old new port (Err faults.Memory) d h = same_honest old new d h

pub sends_honest : {T : Type 0} (old new : WorldView) (rec : List ℕ) (result : Result T LinkFault) → Sends old new rec result → IsHonestWorld old → IsHonestWorld new
sends_honest old new rec (Ok x) d h = same_honest (after_send old rec) new d (sent_honest old rec h)
sends_honest old new rec (Err faults.Failed) d h = absurd d
sends_honest old new rec (Err faults.Memory) d h = same_honest old new d h

pub notes_honest : {T E : Type 0} (old new : WorldView) (mark : Mark) (result : Result T E) → Notes old new mark result → IsHonestWorld old → IsHonestWorld new
notes_honest old new mark (Ok x) d h = same_honest (noted old mark) new d (noted_honest old mark h)
notes_honest old new mark (Err e) d h = same_honest old new d h

-- the reply at a place of those that are ready comes
delivered_at_honest : (w : WorldView) (place : ℕ) (rec : List ℕ) → slice_get w.server.ready place ≡ Some rec → IsHonestWorld w → IsHonestWorld (delivered_at w place rec)
delivered_at_honest w place rec is h = record {
  server = honest_delivered_at w.start w.server place rec is h.server;
  waiting = all_sent_on w.server.entries (entries.Delivered rec ∷ []) w.waiting h.waiting;
  plan = h.plan;
}

pub hands_at_honest : (old new : WorldView) (place : ℕ) (rec : List ℕ) (result : Received) → HandsAt old new place rec result → IsHonestWorld old → IsHonestWorld new
hands_at_honest old new place rec received.Whole d h = same_honest (delivered_at old place rec) new d.1 (delivered_at_honest old place rec d.0 h)
hands_at_honest old new place rec received.Silent d h = absurd d
hands_at_honest old new place rec received.Failed d h = absurd d
hands_at_honest old new place rec received.Memory d h = same_honest old new d h

pub hands_honest : (old new : WorldView) (rec : List ℕ) (result : Received) → Hands old new rec result → LeftByMemory old new result → IsHonestWorld old → IsHonestWorld new
hands_honest old new rec received.Whole d m h = same_honest (delivered old rec d.0) new d.2 (delivered_honest old rec d.0 d.1 h)
hands_honest old new rec received.Silent d m h = same_honest (silent old) new d.1 (silent_honest old h)
hands_honest old new rec received.Failed d m h = absurd d
hands_honest old new rec received.Memory d m h = same_honest old new m h
