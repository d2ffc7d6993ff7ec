-- What the calls of a world of two clients keep: it stays honest, and its ends stay right.
use Rattle.std.proofs.Common.{◌≡◌, ◌<◌, ℕ, zero, suc, Bool, List, [], ◌∷◌, ◌++◌, length, take, drop, map, cond, if◌then◌else◌, Option, Some, None, Result, Ok, Err, slice_get, refl, sym, ap, subst, ◌∙◌, arith, append_assoc}
use Rattle.std.specs.List.{remove}
use Rattle.std.proofs.lemmas.Bool.{cond_both}
use Rattle.std.proofs.lemmas.List.{append-nil}
use Rattle.outside.specs.declared.link.LinkFault.{LinkFault}
use Rattle.outside.specs.declared.link.LinkFault.TheVariants as faults
use Rattle.outside.specs.declared.link.Received.{Received}
use Rattle.outside.specs.declared.link.Received.TheVariants as received
use Rattle.outside.specs.Link.{entry_of}
use Rattle.world_model.specs.declared.entry.Entry.{Entry}
use Rattle.world_model.specs.declared.entry.Entry.TheVariants as entries
use Rattle.world_model.specs.declared.entry.Mark.{Mark}
use Rattle.world_model.specs.declared.entry.Mark.TheVariants as marks
use Rattle.world_link.specs.declared.directive.RequestId.{RequestId}
use Rattle.world_link.specs.declared.routed.Routed.{Routed}
use Rattle.world_link.specs.declared.routed.Told.{Told}
use Rattle.world_link.specs.Ends.{ServerEnds, WorldEnds}
use Rattle.world_link.specs.Honest.{Every, IsHonestWorld}
use Rattle.world_link.specs.Pairs.{PairView, IsHonestPair}
use Rattle.world_link.specs.Plans.{is_same}
use Rattle.world_link.specs.Routes.{IsSentBy, Answers, AreRouted, AreAllRouted, KeepsEnds, KeepsAllEnds}
use Rattle.world_link.specs.Routing.{noted_as, tells, after, taken, after_send, handed, HandsAt, Silences, Dials, Sends, Notes}
use Rattle.world_link.specs.View.{entry_in}
use Rattle.world_link.proofs.EntriesKeepHonest.{every_map, every_append, every_front, every_rest, every_slice}
use Rattle.world_link.proofs.PairSides.{pair_lawful}
use Rattle.world_link.proofs.EndsStayRight.{Fits, routed_more, sent_by_on, delivered_fits, sent_fits, dialed_fits, failed_fits, tells_last}

-- ---- lists

pub every_left : {A : Type 0} (P : A → Type 0) (xs : List A) (i : ℕ) → Every P xs → Every P (remove xs i)
every_left P xs i e = every_append P (take i xs) (drop (suc i) xs) (every_front P i xs e) (every_rest P (suc i) xs e)

sent_all_on : (told more : List Told) (waiting : List Routed) → Every (IsSentBy told) waiting → Every (IsSentBy (told ++ more)) waiting
sent_all_on told more waiting e = every_map (IsSentBy told) (IsSentBy (told ++ more)) waiting (λ r s. sent_by_on told more r s) e

-- ---- one entry more

after_routed : (w : WorldEnds) (end : ℕ) (e : Entry) → Fits w.server.told (record { end = end; entry = e }) → AreAllRouted w → AreAllRouted (after w end e)
after_routed w end e fits r = record {
  server = routed_more w.server (record { end = end; entry = e }) fits r.server;
  waiting = sent_all_on w.server.told (record { end = end; entry = e } ∷ []) w.waiting r.waiting;
}

mark_fits : (told : List Told) (end : ℕ) (mark : Mark) → Fits told (record { end = end; entry = entry_of mark })
mark_fits told end (marks.Began lane line op) = record { executed = λ x c r e. absurd cc; delivered = λ b e. absurd cc }
mark_fits told end (marks.Answered lane line answer) = record { executed = λ x c r e. absurd cc; delivered = λ b e. absurd cc }
mark_fits told end (marks.Clock ms) = record { executed = λ x c r e. absurd cc; delivered = λ b e. absurd cc }

same_routed : (old new : WorldEnds) → new ≡ old → AreAllRouted old → AreAllRouted new
same_routed old new e r = subst AreAllRouted (sym e) r

-- ---- each call

some_routed : (a b : Routed) → Some a ≡ Some b → a ≡ b
some_routed a b e = cc

noted_routed : (told : List Told) (sent : RequestId → Option Routed) (name : Option RequestId) (r : Routed) → ((s : RequestId) (x : Routed) → sent s ≡ Some x → IsSentBy told x) → IsSentBy told r
    → (s : RequestId) (x : Routed) → noted_as sent name r s ≡ Some x → IsSentBy told x
noted_routed told sent None r h mine s x q = h s x q
noted_routed told sent (Some name) r h mine s x q =
    cond_both (is_same name s) (Some r) (sent s) (λ (o : Option Routed). o ≡ Some x → IsSentBy told x) (λ e p. subst (IsSentBy told) (some_routed r x p) mine) (λ e p. h s x p) q

sent_routed : (w : WorldEnds) (name : Option RequestId) (r : Routed) → AreAllRouted w → AreAllRouted (after_send w name r)
sent_routed w name r h =
    let k = after_routed w r.end (entries.Sent r.bytes) (sent_fits w.server.told r.end r.bytes) h in
    let mine : IsSentBy (w.server.told ++ record { end = r.end; entry = entries.Sent r.bytes } ∷ []) r = (length w.server.told, tells_last w.server.told r.end (entries.Sent r.bytes)) in
    record {
      server = record {
        executed = k.server.executed;
        delivered = k.server.delivered;
        sent = noted_routed (w.server.told ++ record { end = r.end; entry = entries.Sent r.bytes } ∷ []) w.server.sent name r k.server.sent mine;
        ready = k.server.ready;
        held = k.server.held;
      };
      waiting = every_append (IsSentBy (w.server.told ++ record { end = r.end; entry = entries.Sent r.bytes } ∷ [])) w.waiting (r ∷ []) k.waiting (mine, tt);
    }

handed_routed : (w : WorldEnds) (place : ℕ) (r : Routed) → slice_get w.server.ready place ≡ Some r → AreAllRouted w → AreAllRouted (handed w place r)
handed_routed w place r at h =
    let answers : Answers w.server.told r = every_slice (Answers w.server.told) w.server.ready place r at h.server.ready in
    let k = after_routed w r.end (entries.Delivered r.bytes) (delivered_fits w.server.told r.end r.bytes answers) h in
    record {
      server = record {
        executed = k.server.executed;
        delivered = k.server.delivered;
        sent = k.server.sent;
        ready = every_left (Answers (w.server.told ++ record { end = r.end; entry = entries.Delivered r.bytes } ∷ [])) w.server.ready place k.server.ready;
        held = k.server.held;
      };
      waiting = k.waiting;
    }

pub dials_routed : {T : Type 0} (old new : WorldEnds) (end port : ℕ) (result : Result T LinkFault) → Dials old new end port result → AreAllRouted old → AreAllRouted new
dials_routed old new end port (Ok x) d r = same_routed _ new d (after_routed old end (entries.Dialed port) (dialed_fits old.server.told end port) r)
dials_routed old new end port (Err faults.Failed) d r =
    same_routed _ new d (after_routed (after old end (entries.Dialed port)) end entries.Failed (failed_fits _ end) (after_routed old end (entries.Dialed port) (dialed_fits old.server.told end port) r))
dials_routed old new end port (Err faults.Memory) d r = same_routed old new d r

pub sends_routed : {T : Type 0} (old new : WorldEnds) (name : Option RequestId) (rec : Routed) (result : Result T LinkFault) → Sends old new name rec result → AreAllRouted old → AreAllRouted new
sends_routed old new name rec (Ok x) d r = same_routed _ new d (sent_routed old name rec r)
sends_routed old new name rec (Err faults.Failed) d r = absurd d
sends_routed old new name rec (Err faults.Memory) d r = same_routed old new d r

pub notes_routed : {T E : Type 0} (old new : WorldEnds) (end : ℕ) (mark : Mark) (result : Result T E) → Notes old new end mark result → AreAllRouted old → AreAllRouted new
notes_routed old new end mark (Ok x) d r = same_routed _ new d (after_routed old end (entry_of mark) (mark_fits old.server.told end mark) r)
notes_routed old new end mark (Err e) d r = same_routed old new d r

pub hands_routed : (old new : WorldEnds) (place : ℕ) (rec : List ℕ) (result : Received) → HandsAt old new place rec result → AreAllRouted old → AreAllRouted new
hands_routed old new place rec received.Whole d r = same_routed _ new d.after (handed_routed old place d.reply d.is r)
hands_routed old new place rec received.Silent d r = absurd d
hands_routed old new place rec received.Failed d r = absurd d
hands_routed old new place rec received.Memory d r = same_routed old new d r

pub silences_routed : (old new : WorldEnds) (end : ℕ) (result : Received) → Silences old new end result → AreAllRouted old → AreAllRouted new
silences_routed old new end received.Whole d r = absurd d
silences_routed old new end received.Silent d r = same_routed _ new d (after_routed old end entries.Failed (failed_fits old.server.told end) r)
silences_routed old new end received.Failed d r = absurd d
silences_routed old new end received.Memory d r = same_routed old new d r

-- ---- the pair

-- an honest world whose ends are right is honest to both clients
pub honest_pair : (v : PairView) → v.world.server.entries ≡ map entry_in v.ends.server.told → IsHonestWorld v.world → AreAllRouted v.ends → IsHonestPair v
honest_pair v same h r = record { world = h; routed = r; lawful = pair_lawful v same h r.server }

-- ---- turns

pub all_then : (a b c : WorldEnds) → KeepsAllEnds a b → KeepsAllEnds b c → KeepsAllEnds a c
all_then a b c p q = record {
  more = p.more ++ q.more;
  grown = q.grown ∙ ap (λ (t : List Told). t ++ q.more) p.grown ∙ append_assoc a.server.told p.more q.more;
  right = λ r. q.right (p.right r);
}

pub all_same : (old new : WorldEnds) → new ≡ old → KeepsAllEnds old new
all_same old new e = record { more = []; grown = ap (λ (w : WorldEnds). w.server.told) e ∙ sym (append-nil old.server.told); right = λ r. subst AreAllRouted (sym e) r }

-- The oldest had its turn, or a part of it: it was sent by its end.
pub turn_ends : (old new : WorldEnds) (next : Routed) (rec : List ℕ) → rec ≡ next.bytes → slice_get old.waiting 0 ≡ Some next → KeepsEnds (IsSentBy old.server.told (record { end = next.end; bytes = rec })) old.server new.server
    → (Every (IsSentBy old.server.told) old.waiting → Every (IsSentBy old.server.told) new.waiting) → KeepsAllEnds old new
turn_ends old new next rec same first k left = record {
  more = k.more;
  grown = k.grown;
  right = λ r.
      let sent : IsSentBy old.server.told next = every_slice (IsSentBy old.server.told) old.waiting 0 next first r.waiting in
      record {
        server = k.right (subst (λ (b : List ℕ). IsSentBy old.server.told (record { end = next.end; bytes = b })) (sym same) sent) r.server;
        waiting = subst (λ (t : List Told). Every (IsSentBy t) new.waiting) (sym k.grown) (sent_all_on old.server.told k.more new.waiting (left r.waiting));
      };
}
