-- What a link shows after a turn of a wait.
use Rattle.std.proofs.Common.{◌≡◌, ◌≤◌, ◌+◌, ℕ, suc, List, [], ◌∷◌, ◌++◌, Option, Some, None, refl, sym, ap, ◌∙◌, append_assoc, arith}
use Rattle.std.proofs.lemmas.List.{append-nil}
use Rattle.world_model.specs.declared.entry.Entry.{Entry}
use Rattle.world_model.specs.declared.entry.Entry.TheVariants.{Failed}
use Rattle.outside.specs.Causes.{HasCauseReceived}
use Rattle.outside.specs.declared.link.Received.{Received}
use Rattle.outside.specs.declared.link.Received.TheVariants as received
use Rattle.outside.specs.Link.{received_as}
use Rattle.outside.specs.declared.wire.WireEntry.TheVariants.{Read, Missed}
use Rattle.outside.specs.declared.places.WireAdds.TheVariants as added
use Rattle.rpc_record.specs.declared.gather.Phase.TheVariants as phases
use Rattle.outside.specs.Records.{nth_record}
use Rattle.rpc_record.specs.Stream.{Stream, Goes, Did, places, told_of}
use Rattle.rpc_record.specs.Shown.{Held, Shown, Waiting, Follows, Fills, HasCauseFilled, FailedWait, Because, Stays, Shut, Waits, NextIs, Hears, Heard, Turned, Turns, GoesOn}
use Rattle.rpc_record.proofs.LineSteps.{After, no_step, work_step, read_step, missed_step, tells_on, tells_same}

-- what came of waiting for bytes
abbrev pub filled_as : Option Received → List Entry
filled_as None = []
filled_as (Some received.Whole) = []
filled_as (Some received.Silent) = Failed ∷ []
filled_as (Some received.Failed) = Failed ∷ []
filled_as (Some received.Memory) = []

same_after : (old new : Option Stream) (w v : Waiting) (q : Option (List ℕ)) (es : List Entry) → v.gather ≡ w.gather → v.unread ≡ w.unread → After old new w q es → After old new v q es
same_after old new w v q es gather unread a = record { follows = work_step new w v q a.follows (λ more. rw (gather, unread) refl); tells = a.tells }

pub fill_step : (old new : Option Stream) (w v : Waiting) (q : Option (List ℕ)) (r : Option Received) → Follows old w q → w.unread ≡ [] → v.gather ≡ w.gather
    → Fills old new v.unread r → After old new v q (filled_as r)
fill_step old new w v q None f none same e = same_after old new (record { gather = w.gather; unread = v.unread }) v q [] same refl (read_step old new w v.unread q f none e)
fill_step old new w v q (Some received.Whole) f none same e = absurd e
fill_step old new w v q (Some received.Silent) f none same e = same_after old new w v q (Failed ∷ []) same (e.0 ∙ sym none) (missed_step old new w q f e.1)
fill_step old new w v q (Some received.Failed) f none same e = same_after old new w v q (Failed ∷ []) same (e.0 ∙ sym none) (missed_step old new w q f e.1)
fill_step old new w v q (Some received.Memory) f none same e = same_after old new w v q [] same (e.0 ∙ sym none) (no_step old new w q f e.1)

goes_then : (a b c : Option Stream) (R S T : Stream → Stream → Type 0) → ((s t u : Stream) → R s t → S t u → T s u) → Goes a b R → Goes b c S → Goes a c T
goes_then None None None R S T f e h = refl
goes_then None None (Some c) R S T f e h = absurd cc
goes_then None (Some b) c R S T f e h = absurd cc
goes_then (Some a) None c R S T f e h = absurd e
goes_then (Some a) (Some b) None R S T f e h = absurd h
goes_then (Some a) (Some b) (Some c) R S T f e h = f a b c e h

goes_as : (a b : Option Stream) (R S : Stream → Stream → Type 0) → ((s t : Stream) → R s t → S s t) → Goes a b R → Goes a b S
goes_as None b R S f e = e
goes_as (Some a) None R S f e = absurd e
goes_as (Some a) (Some b) R S f e = f a b e

goes_same : (a : Option Stream) (R : Stream → Stream → Type 0) → ((s : Stream) → R s s) → Goes a a R
goes_same None R f = refl
goes_same (Some a) R f = f a

-- a stream of which the bytes and their records stay
pub record Same (s t : Stream) : Type 0 where
  pub came : t.came ≡ s.came
  pub went : t.went ≡ s.went
  pub taken : t.taken ≡ s.taken

missed_same : (s t : Stream) → Did (Some Missed) added.Failed s t → Same s t
missed_same s t d = rw d.is (record { came = refl; went = refl; taken = refl })

none_same : (s t : Stream) → t ≡ s → Same s t
none_same s t e = rw e (record { came = refl; went = refl; taken = refl })

pub fault_same : (s t : Stream) → t ≡ places added.Failed s → Same s t
fault_same s t e = rw e (record { came = refl; went = refl; taken = refl })

read_heard : (bytes : List ℕ) (s t : Stream) → Did (Some (Read bytes)) added.Nothing s t → Heard s t
read_heard bytes s t d = rw d.is (record { more = bytes; came = refl; went = refl; taken = refl })

came_nothing : (s t : Stream) → t.came ≡ s.came → t.came ≡ s.came ++ []
came_nothing s t e = e ∙ sym (append-nil s.came)

same_heard : (s t : Stream) → Same s t → Heard s t
same_heard s t e = record { more = []; came = came_nothing s t e.came; went = e.went; taken = e.taken }

heard_silent : (rec : List ℕ) (s t : Stream) → Same s t → Hears rec received.Silent s t
heard_silent rec s t e = record { more = []; came = came_nothing s t e.came; went = e.went; next = e.taken }

pub heard_failed : (rec : List ℕ) (s t : Stream) → Same s t → Hears rec received.Failed s t
heard_failed rec s t e = record { more = []; came = came_nothing s t e.came; went = e.went; next = e.taken }

heard_memory : (rec : List ℕ) (s t : Stream) → Same s t → Hears rec received.Memory s t
heard_memory rec s t e = record { more = []; came = came_nothing s t e.came; went = e.went; next = e.taken }

pub nothing_heard : (rec : List ℕ) (a : Option Stream) → Goes a a (Hears rec received.Memory)
nothing_heard rec a = goes_same a (Hears rec received.Memory) (λ s. heard_memory rec s s (record { came = refl; went = refl; taken = refl }))

pub nothing_came : (a : Option Stream) → Goes a a (λ s t. t.came ≡ s.came)
nothing_came a = goes_same a (λ s t. t.came ≡ s.came) (λ s. refl)

pub fault_heard : (rec : List ℕ) (a b : Option Stream) → Goes a b (λ s t. t ≡ places added.Failed s) → Goes a b (Hears rec received.Failed)
fault_heard rec a b e = goes_as a b (λ s t. t ≡ places added.Failed s) (Hears rec received.Failed) (λ s t h. heard_failed rec s t (fault_same s t h)) e

pub fault_came : (a b : Option Stream) → Goes a b (λ s t. t ≡ places added.Failed s) → Goes a b (λ s t. t.came ≡ s.came)
fault_came a b e = goes_as a b (λ s t. t ≡ places added.Failed s) (λ s t. t.came ≡ s.came) (λ s t h. (fault_same s t h).came) e

pub fill_turn : (old new : Shown) (w v : Waiting) (q : Option (List ℕ)) (rec : List ℕ) (r : Option Received) → Follows old.now w q → w.unread ≡ [] → v.gather ≡ w.gather
    → Fills old.now new.now v.unread r → HasCauseFilled old.wire new.wire r → new.own ≡ old.own → new.sending ≡ old.sending → (old.phase ≡ phases.Long → ⊥) → Turns old new rec r
fill_turn old new w v q rec None f none same e h own sending unshut = record {
  tells = (fill_step old.now new.now w v q None f none same e).tells;
  heard = goes_as old.now new.now _ Heard (read_heard v.unread) e;
  wire = h.later;
  own = own;
  sending = sending;
  shut = λ l. absurd (unshut l);
}
fill_turn old new w v q rec (Some received.Whole) f none same e h own sending unshut = absurd e
fill_turn old new w v q rec (Some received.Silent) f none same e h own sending unshut = record {
  tells = (fill_step old.now new.now w v q (Some received.Silent) f none same e).tells;
  hears = goes_as old.now new.now (Did (Some Missed) added.Failed) (Hears rec received.Silent) (λ s t d. heard_silent rec s t (missed_same s t d)) e.1;
  waits = record { wire = h.later; own = omega (arith, own); sending = sending; because = h.failed; shut = λ l. absurd (unshut l) };
}
fill_turn old new w v q rec (Some received.Failed) f none same e h own sending unshut = record {
  tells = (fill_step old.now new.now w v q (Some received.Failed) f none same e).tells;
  hears = goes_as old.now new.now (Did (Some Missed) added.Failed) (Hears rec received.Failed) (λ s t d. heard_failed rec s t (missed_same s t d)) e.1;
  waits = record { wire = h.later; own = omega (arith, own); sending = sending; because = FailedWait.by_wire h.failed; shut = λ l. absurd (unshut l) };
}
fill_turn old new w v q rec (Some received.Memory) f none same e h own sending unshut = record {
  tells = (fill_step old.now new.now w v q (Some received.Memory) f none same e).tells;
  hears = goes_as old.now new.now (λ s t. t ≡ s) (Hears rec received.Memory) (λ s t d. heard_memory rec s t (none_same s t d)) e.1;
  waits = record { wire = h.later; own = omega (arith, own); sending = sending; because = tt; shut = λ l. absurd (unshut l) };
}

-- the causes of a wait, as those of a link
pub cause_is : (old new : Shown) (r : Received) → Waits old new r → HasCauseReceived (old.wire + old.own) (new.wire + new.own) r
cause_is old new received.Whole w = record { later = omega (arith, w.wire, w.own); failed = tt }
cause_is old new received.Silent w = record { later = omega (arith, w.wire, w.own); failed = omega (arith, w.wire, w.own, w.because) }
cause_is old new received.Failed w = record {
  later = omega (arith, w.wire, w.own);
  failed = elim w.because [
    | FailedWait.by_wire rose ↦ omega (arith, w.wire, w.own, rose)
    | FailedWait.by_long rose long held ↦ omega (arith, w.wire, w.own, rose)
  ];
}
cause_is old new received.Memory w = record { later = omega (arith, w.wire, w.own); failed = tt }

because_on : (a b c : Shown) (r : Received) → a.wire ≤ b.wire → b.own ≡ a.own → Because b c r → Because a c r
because_on a b c received.Whole le same h = tt
because_on a b c received.Silent le same h = omega (arith, le, h)
because_on a b c received.Failed le same h = elim h [
  | FailedWait.by_wire rose ↦ FailedWait.by_wire (omega (arith, le, rose))
  | FailedWait.by_long rose long held ↦ FailedWait.by_long (rw same at rose) long held
]
because_on a b c received.Memory le same h = tt

next_on : (rec : List ℕ) (r : Received) (s t u : Stream) → t.taken ≡ s.taken → NextIs rec r t u → NextIs rec r s u
next_on rec received.Whole s t u same n = (ap (λ (k : ℕ). nth_record k u.came) (sym same) ∙ n.0, n.1 ∙ ap (λ (k : ℕ). suc k) same)
next_on rec received.Silent s t u same n = n ∙ same
next_on rec received.Failed s t u same n = n ∙ same
next_on rec received.Memory s t u same n = n ∙ same

hears_on : (rec : List ℕ) (r : Received) (s t u : Stream) → Heard s t → Hears rec r t u → Hears rec r s u
hears_on rec r s t u g h = record {
  more = g.more ++ h.more;
  came = h.came ∙ ap (λ (x : List ℕ). x ++ h.more) g.came ∙ append_assoc s.came g.more h.more;
  went = h.went ∙ g.went;
  next = next_on rec r s t u g.taken h.next;
}

heard_on : (s t u : Stream) → Heard s t → Heard t u → Heard s u
heard_on s t u g h = record {
  more = g.more ++ h.more;
  came = h.came ∙ ap (λ (x : List ℕ). x ++ h.more) g.came ∙ append_assoc s.came g.more h.more;
  went = h.went ∙ g.went;
  taken = h.taken ∙ g.taken;
}

stays_on : (a b c : Shown) → Stays a b → Stays b c → Stays a c
stays_on a b c g h = record { phase = h.phase; came = goes_then a.now b.now c.now (λ s t. t.came ≡ s.came) (λ s t. t.came ≡ s.came) (λ s t. t.came ≡ s.came) (λ s t u x y. y ∙ x) g.came h.came }

shut_on : (a b c : Shown) (r : Received) → Stays a b → Shut b c r → Shut a c r
shut_on a b c received.Whole g h = h
shut_on a b c received.Silent g h = h
shut_on a b c received.Failed g h = stays_on a b c g h
shut_on a b c received.Memory g h = stays_on a b c g h

-- a turn after turns that went on
pub turned_on : (a b c : Shown) (rec : List ℕ) (r : Received) → GoesOn a b → Turned b c rec r → Turned a c rec r
turned_on a b c rec r g t = record {
  tells = tells_on (told_of a.now) (told_of b.now) (told_of c.now) (received_as rec r) g.tells t.tells;
  hears = goes_then a.now b.now c.now Heard (Hears rec r) (Hears rec r) (hears_on rec r) g.heard t.hears;
  waits = record {
    wire = omega (arith, g.wire, t.waits.wire);
    own = omega (arith, g.own, t.waits.own);
    sending = t.waits.sending ∙ g.sending;
    because = because_on a b c r g.wire g.own t.waits.because;
    shut = λ l. let s = g.shut l in shut_on a b c r s (t.waits.shut s.phase);
  };
}

pub goes_on_then : (a b c : Shown) → GoesOn a b → GoesOn b c → GoesOn a c
goes_on_then a b c g h = record {
  tells = tells_on (told_of a.now) (told_of b.now) (told_of c.now) [] g.tells h.tells;
  heard = goes_then a.now b.now c.now Heard Heard Heard heard_on g.heard h.heard;
  wire = omega (arith, g.wire, h.wire);
  own = h.own ∙ g.own;
  sending = h.sending ∙ g.sending;
  shut = λ l. let s = g.shut l in stays_on a b c s (h.shut s.phase);
}

-- only where in a record the bytes end is another
pub goes_on_in : (a b : Shown) → b.now ≡ a.now → b.wire ≡ a.wire → b.own ≡ a.own → b.sending ≡ a.sending → (a.phase ≡ phases.Long → b.phase ≡ phases.Long) → GoesOn a b
goes_on_in a b now wire own sending long = record {
  tells = rw now (tells_same (told_of a.now));
  heard = rw now (goes_same a.now Heard (λ s. same_heard s s (record { came = refl; went = refl; taken = refl })));
  wire = omega (arith, wire);
  own = own;
  sending = sending;
  shut = λ l. record { phase = long l; came = rw now (nothing_came a.now) };
}

pub goes_on_same : (a : Shown) → GoesOn a a
goes_on_same a = goes_on_in a a refl refl refl refl (λ l. l)

-- turns that went on, and no memory
pub ended_on : (a b : Shown) (rec : List ℕ) → GoesOn a b → Turned a b rec received.Memory
ended_on a b rec g = turned_on a b b rec received.Memory g (record {
  tells = tells_same (told_of b.now);
  hears = nothing_heard rec b.now;
  waits = record { wire = omega arith; own = omega arith; sending = refl; because = tt; shut = λ l. record { phase = l; came = nothing_came b.now } };
})

pub phase_of : {W : Type 0} (a b : Held W) → a ≡ b → a.phase ≡ b.phase
phase_of {W = W} a b e = ap (λ (s : Held W). s.phase) e

pub sending_of : {W : Type 0} (a b : Held W) → a ≡ b → a.sending ≡ b.sending
sending_of {W = W} a b e = ap (λ (s : Held W). s.sending) e
