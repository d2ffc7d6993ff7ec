-- What a link tells goes along with what is read from its wire, step by step.
use Rattle.std.proofs.Common.{◌≡◌, ℕ, List, [], ◌∷◌, ◌++◌, length, Option, Some, None, refl, sym, ap, subst, ◌∙◌}
use Rattle.world_model.specs.declared.entry.Entry.TheVariants as entries
use Rattle.world_model.specs.declared.entry.Mark.{Mark}
use Rattle.world_model.specs.History.{History}
use Rattle.world_model.specs.Lawful.{Lawful}
use Rattle.world_model.proofs.Places.{At-grow}
use Rattle.outside.specs.declared.wire.WireEntry.{WireEntry}
use Rattle.outside.specs.declared.wire.WireEntry.TheVariants.{Connected, Wrote, Read, Noted, Missed}
use Rattle.outside.specs.Link.{entry_of}
use Rattle.outside.specs.Wire.{Step, WireCall}
use Rattle.outside.specs.Records.{Split, record_at, left, nth_record, split, ◌>>=◌}
use Rattle.outside.specs.Reading.{Reading, now_at, adds, follows, shown, wrote_all, read_call}
use Rattle.outside.specs.declared.places.WireAdds.{WireAdds}
use Rattle.outside.specs.declared.places.WireAdds.TheVariants as added
use Rattle.rpc_record.specs.Stream.{Stream, begun, quietly, shows, sends, delivers, places}
use Rattle.rpc_record.specs.Honest.{Queued, Mirrors, IsOwn}
use Rattle.rpc_record.proofs.RecordJoins.{left_grow, left_next, nth_is}
use Rattle.rpc_record.proofs.LawfulAlong.{Both, both_steps, both_add, both_failed, both_sent, both_delivered, both_heard, lawful_all, lawful_front, follows_keeps}
use Rattle.rpc_record.proofs.SplitRecords.{no_record, split_none, split_one, queue_keeps, queue_more, queue_next}

pub record State (r : Reading) (s : Stream) : Type 0 where
  pub mirrors : Mirrors r s
  pub lawful : Lawful s.history

abbrev both_of : (r : Reading) (s : Stream) → State r s → Both r.history s.history
both_of r s w = record { goes = w.mirrors.goes; lawful = w.lawful }

-- ---- what the wire did

pub quiet_state : (quiet : List Step) (r : Reading) (s : Stream) → State r s → Lawful (follows quiet r.history)
    → State (record { history = follows quiet r.history; unread = r.unread; unsent = r.unsent }) (quietly quiet s)
quiet_state quiet r s w l =
    let b = both_steps quiet r.history s.history (both_of r s w) l in
    record {
      mirrors = record {
        goes = b.goes;
        pending = w.mirrors.pending;
        came = w.mirrors.came;
        queue = queue_keeps r.history.entries (follows quiet r.history).entries w.mirrors.pending r.unread (follows_keeps quiet r.history) w.mirrors.queue;
        went = w.mirrors.went;
      };
      lawful = b.lawful;
    }

pub connected_state : (port : ℕ) (r : Reading) (s : Stream) → State r s → Lawful (adds r.history (entries.Dialed port)) → State (shown (Connected port) r) (shows (Connected port) s)
connected_state port r s w l =
    let b = both_add r.history s.history (entries.Dialed port) (both_of r s w) l in
    record {
      mirrors = record { goes = b.goes; pending = []; came = refl; queue = Queued.none [] no_record; went = refl };
      lawful = b.lawful;
    }

pub noted_state : (mark : Mark) (r : Reading) (s : Stream) → State r s → Lawful (adds r.history (entry_of mark)) → State (shown (Noted mark) r) (shows (Noted mark) s)
noted_state mark r s w l =
    let b = both_add r.history s.history (entry_of mark) (both_of r s w) l in
    record {
      mirrors = record {
        goes = b.goes;
        pending = w.mirrors.pending;
        came = w.mirrors.came;
        queue = queue_keeps r.history.entries (r.history.entries ++ entry_of mark ∷ []) w.mirrors.pending r.unread (At-grow r.history.entries (entry_of mark ∷ [])) w.mirrors.queue;
        went = w.mirrors.went;
      };
      lawful = b.lawful;
    }

pub read_state : (bytes : List ℕ) (r : Reading) (s : Stream) → State r s → State (shown (Read bytes) r) (shows (Read bytes) s)
read_state bytes r s w =
    let b = both_heard (split (r.unread ++ bytes)).records r.history s.history (both_of r s w) in
    record {
      mirrors = record {
        goes = b.goes;
        pending = w.mirrors.pending ++ bytes;
        came = left_grow s.taken s.came bytes w.mirrors.pending w.mirrors.came;
        queue = queue_more r.history w.mirrors.pending r.unread bytes w.mirrors.queue;
        went = w.mirrors.went;
      };
      lawful = b.lawful;
    }

some_is : (x y : List ℕ) → Some x ≡ Some y → x ≡ y
some_is x y e = cc

-- bytes that end no record
pub part_state : (bytes begun : List ℕ) (r : Reading) (s : Stream) → State r s → left s.sent s.went ≡ Some begun → record_at (begun ++ bytes) ≡ None → State (shown (Wrote bytes) r) (shows (Wrote bytes) s)
part_state bytes begun r s w is e =
    let same : begun ≡ r.unsent = some_is begun r.unsent (sym is ∙ w.mirrors.went) in
    let none : record_at (r.unsent ++ bytes) ≡ None = rw (← same) e in
    let cut : split (r.unsent ++ bytes) ≡ record { records = []; rest = r.unsent ++ bytes } = split_none (length (r.unsent ++ bytes)) (r.unsent ++ bytes) none in
    let after : Reading = record { history = r.history; unread = r.unread; unsent = r.unsent ++ bytes } in
    let shows_it : after ≡ shown (Wrote bytes) r = sym (ap (λ (c : Split). wrote_all c r) cut) in
    subst (λ (q : Reading). State q (shows (Wrote bytes) s)) shows_it (record {
      mirrors = record {
        goes = w.mirrors.goes;
        pending = w.mirrors.pending;
        came = w.mirrors.came;
        queue = w.mirrors.queue;
        went = left_grow s.sent s.went bytes r.unsent w.mirrors.went;
      };
      lawful = w.lawful;
    })

-- the last bytes of a record, which is placed
pub whole_state : (bytes begun rec : List ℕ) (r : Reading) (s : Stream) → State r s → left s.sent s.went ≡ Some begun → record_at (begun ++ bytes) ≡ Some (rec, [])
    → Lawful (shown (Wrote bytes) r).history → State (shown (Wrote bytes) r) (places added.Whole (shows (Wrote bytes) s))
whole_state bytes begun rec r s w is e l =
    let same : begun ≡ r.unsent = some_is begun r.unsent (sym is ∙ w.mirrors.went) in
    let one : record_at (r.unsent ++ bytes) ≡ Some (rec, []) = rw (← same) e in
    let cut = split_one (r.unsent ++ bytes) rec one in
    let after : Reading = record { history = adds r.history (entries.Sent rec); unread = r.unread; unsent = [] } in
    let shows_it : after ≡ shown (Wrote bytes) r = sym (ap (λ (c : Split). wrote_all c r) cut) in
    let grown : left s.sent (s.went ++ bytes) ≡ Some (r.unsent ++ bytes) = left_grow s.sent s.went bytes r.unsent w.mirrors.went in
    let next : nth_record s.sent (s.went ++ bytes) ≡ Some rec = nth_is s.sent (s.went ++ bytes) (r.unsent ++ bytes) (rec, []) grown one in
    let b = both_add r.history s.history (entries.Sent rec) (both_of r s w) (subst (λ (q : Reading). Lawful q.history) (sym shows_it) l) in
    let placed : sends (Some rec) (shows (Wrote bytes) s) ≡ places added.Whole (shows (Wrote bytes) s) = ap (λ (o : Option (List ℕ)). sends o (shows (Wrote bytes) s)) (sym next) in
    subst (λ (q : Reading). State q (places added.Whole (shows (Wrote bytes) s))) shows_it
    (subst (λ (t : Stream). State after t) placed (record {
      mirrors = record {
        goes = b.goes;
        pending = w.mirrors.pending;
        came = w.mirrors.came;
        queue = queue_keeps r.history.entries (r.history.entries ++ entries.Sent rec ∷ []) w.mirrors.pending r.unread (At-grow r.history.entries (entries.Sent rec ∷ [])) w.mirrors.queue;
        went = left_next s.sent (s.went ++ bytes) (r.unsent ++ bytes) (rec, []) grown one;
      };
      lawful = b.lawful;
    }))

-- ---- what the link placed

with_both : (r : Reading) (s : Stream) (h : History) → State r s → Both r.history h → State r (record s { history = h })
with_both r s h w b = record {
  mirrors = record { goes = b.goes; pending = w.mirrors.pending; came = w.mirrors.came; queue = w.mirrors.queue; went = w.mirrors.went };
  lawful = b.lawful;
}

none_delivered : (r : Reading) (s : Stream) (w : State r s) → record_at w.mirrors.pending ≡ None → State r (delivers (nth_record s.taken s.came) s)
none_delivered r s w e =
    let none : nth_record s.taken s.came ≡ None = ap (λ (o : Option (List ℕ)). o >>= λ rest. record_at rest >>= λ x. Some x.0) w.mirrors.came ∙ ap (λ (o : Option (List ℕ × List ℕ)). o >>= λ x. Some x.0) e in
    subst (λ (o : Option (List ℕ)). State r (delivers o s)) (sym none) w

one_delivered : (r : Reading) (s : Stream) (w : State r s) (x : List ℕ × List ℕ) → Lawful r.history → record_at w.mirrors.pending ≡ Some x → State r (delivers (nth_record s.taken s.came) s)
one_delivered r s w x l e =
    let next = queue_next r.history.entries w.mirrors.pending r.unread x w.mirrors.queue e in
    let b = both_delivered r.history s.history x.0 next.at (both_of r s w) l next.here in
    subst (λ (o : Option (List ℕ)). State r (delivers o s)) (sym (nth_is s.taken s.came w.mirrors.pending x w.mirrors.came e)) (record {
      mirrors = record {
        goes = b.goes;
        pending = x.1;
        came = left_next s.taken s.came w.mirrors.pending x w.mirrors.came e;
        queue = next.queue;
        went = w.mirrors.went;
      };
      lawful = b.lawful;
    })

pub place_state : (a : WireAdds) (r : Reading) (s : Stream) → IsOwn a → State r s → Lawful r.history → State r (places a s)
place_state added.Nothing r s own w l = w
place_state added.Failed r s own w l = with_both r s _ w (both_failed r.history s.history (both_of r s w))
place_state added.Whole r s own w l = absurd own
place_state (added.Part rec) r s own w l =
    let b = both_sent r.history s.history rec (both_of r s w) in
    with_both r s _ w (both_failed r.history (adds s.history (entries.Sent rec)) b)
place_state added.Delivered r s own w l =
    elim (record_at w.mirrors.pending) as (λ o. record_at w.mirrors.pending ≡ o → State r (delivers (nth_record s.taken s.came) s)) [
      | None ↦ λ e. none_delivered r s w e
      | Some x ↦ λ e. one_delivered r s w x l e
    ] refl

-- ---- a call of the wire, and what the link then placed

-- What may be placed: a record that was written where its last bytes were, and else what speaks of no written bytes.
abbrev pub Permits : WireEntry → WireAdds → Stream → Type 0
Permits (Wrote bytes) added.Whole s = (begun : List ℕ) × (rec : List ℕ) × (left s.sent s.went ≡ Some begun) × (record_at (begun ++ bytes) ≡ Some (rec, []))
Permits (Wrote bytes) added.Nothing s = (begun : List ℕ) × (left s.sent s.went ≡ Some begun) × (record_at (begun ++ bytes) ≡ None)
Permits (Wrote bytes) a s = ⊥
Permits (Connected port) a s = IsOwn a
Permits (Read bytes) a s = IsOwn a
Permits (Noted mark) a s = IsOwn a
Permits Missed a s = IsOwn a

wrote_state : (bytes : List ℕ) (a : WireAdds) (r : Reading) (s : Stream) → Permits (Wrote bytes) a s → State r s → Lawful (shown (Wrote bytes) r).history → State (shown (Wrote bytes) r) (places a (shows (Wrote bytes) s))
wrote_state bytes added.Whole r s p w l = whole_state bytes p.0 p.1 r s w p.2 p.3 l
wrote_state bytes added.Nothing r s p w l = part_state bytes p.0 r s w p.1 p.2
wrote_state bytes added.Failed r s p w l = absurd p
wrote_state bytes (added.Part rec) r s p w l = absurd p
wrote_state bytes added.Delivered r s p w l = absurd p

own_state : (did : WireEntry) (a : WireAdds) (r : Reading) (s : Stream) → Permits did a s → State r s → Lawful (shown did r).history → State (shown did r) (places a (shows did s))
own_state (Connected port) a r s p w l = place_state a (shown (Connected port) r) (shows (Connected port) s) p (connected_state port r s w l) l
own_state (Wrote bytes) a r s p w l = wrote_state bytes a r s p w l
own_state (Read bytes) a r s p w l = place_state a (shown (Read bytes) r) (shows (Read bytes) s) p (read_state bytes r s w) l
own_state (Noted mark) a r s p w l = place_state a (shown (Noted mark) r) (shows (Noted mark) s) p (noted_state mark r s w l) l
own_state Missed a r s p w l = place_state a r s p w l

before_own : (did : WireEntry) (r : Reading) → Lawful (shown did r).history → Lawful r.history
before_own (Connected port) r l = lawful_front r.history (entries.Dialed port) (now_at r.history) l
before_own (Wrote bytes) r l = lawful_all (split (r.unsent ++ bytes)).records entries.Sent r.history l
before_own (Read bytes) r l = lawful_all (split (r.unread ++ bytes)).records entries.Delivered r.history l
before_own (Noted mark) r l = lawful_front r.history (entry_of mark) (now_at r.history) l
before_own Missed r l = l

permits_quiet : (did : WireEntry) (a : WireAdds) (quiet : List Step) (s : Stream) → Permits did a s → Permits did a (quietly quiet s)
permits_quiet (Connected port) a quiet s p = p
permits_quiet (Wrote bytes) added.Whole quiet s p = p
permits_quiet (Wrote bytes) added.Nothing quiet s p = p
permits_quiet (Wrote bytes) added.Failed quiet s p = p
permits_quiet (Wrote bytes) (added.Part rec) quiet s p = p
permits_quiet (Wrote bytes) added.Delivered quiet s p = p
permits_quiet (Read bytes) a quiet s p = p
permits_quiet (Noted mark) a quiet s p = p
permits_quiet Missed a quiet s p = p

pub call_state : (c : WireCall) (a : WireAdds) (r : Reading) (s : Stream) → Permits c.did a s → State r s → Lawful (read_call c r).history → State (read_call c r) (places a (shows c.did (quietly c.quiet s)))
call_state c a r s p w l =
    let q : Reading = record { history = follows c.quiet r.history; unread = r.unread; unsent = r.unsent } in
    own_state c.did a q (quietly c.quiet s) (permits_quiet c.did a c.quiet s p) (quiet_state c.quiet r s w (before_own c.did q l)) l
