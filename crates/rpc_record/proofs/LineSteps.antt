-- What a link tells, and what it goes on keeping, after a step of its line.
use Rattle.std.proofs.Common.{◌==◌, if◌then◌else◌, ◌≡◌, ℕ, List, [], ◌∷◌, ◌++◌, Option, Some, None, Result, Ok, Err, refl, sym, ap, ◌∙◌, append_assoc}
use Rattle.std.proofs.lemmas.Bool.{eq-eqb, ne_eqb}
use Rattle.std.proofs.lemmas.List.{append-nil}
use Rattle.world_model.specs.declared.entry.Entry.{Entry}
use Rattle.world_model.specs.declared.entry.Entry.TheVariants.{Dialed, Sent, Delivered, Failed}
use Rattle.world_model.specs.declared.entry.Mark.{Mark}
use Rattle.world_model.specs.Entries.{ours}
use Rattle.world_model.specs.History.{History}
use Rattle.world_model.specs.Told.{Adds, Tells}
use Rattle.world_model.proofs.Histories.{ours-append, adds_then, adds_none}
use Rattle.outside.specs.Wire.{Step, WireTold, entries_in}
use Rattle.outside.specs.Reading.{now_at, goes_on, adds, follows}
use Rattle.outside.specs.Link.{NotesOnly, entry_of, noted_as}
use Rattle.outside.specs.declared.link.Received.TheVariants as received
use Rattle.outside.specs.declared.wire.WireEntry.TheVariants.{Connected, Wrote, Read, Noted, Missed}
use Rattle.outside.specs.declared.places.WireAdds.TheVariants as added
use Rattle.rpc_record.specs.declared.gather.Phase.{Phase}
use Rattle.rpc_record.specs.declared.gather.Phase.TheVariants as phases
use Rattle.outside.specs.Records.{record_at}
use Rattle.rpc_record.specs.Limits.{Found, found_at}
use Rattle.rpc_record.specs.Limits as limits
use Rattle.rpc_record.specs.Gather.{resumes, resumes_in, unbegun}
use Rattle.rpc_record.specs.Stream.{Stream, places, Goes, Did, Marked, told_of, IsBegun}
use Rattle.rpc_record.specs.Shown.{Waiting, Keeps, Follows, IfStream, HoldsLong, Hears}
use Rattle.rpc_record.proofs.RecordJoins.{left_grow, left_next, nth_is, found_is}
use Rattle.rpc_record.proofs.LawfulAlong.{at_old}

-- nothing came yet
abbrev pub nothing : Waiting
nothing = record { gather = unbegun; unread = [] }

from_start : (unread more : List ℕ) → found_at (unread ++ more) ≡ resumes unbegun (unread ++ more)
unfolding found_at
from_start unread more = refl

-- what a link is after a step
pub record After (old new : Option Stream) (w : Waiting) (unsent : Option (List ℕ)) (es : List Entry) : Type 0 where
  pub follows : Follows new w unsent
  pub tells : Tells (told_of old) (told_of new) es

adds_here : (h : History) (e : Entry) → ours (e ∷ []) ≡ e ∷ [] → Adds h (adds h e) (e ∷ [])
adds_here h e own = record { more = e ∷ []; grown = refl; seen = own; earlier = λ n le. at_old h (now_at h) n le }

adds_quiet : (quiet : List Step) (h : History) → ours (entries_in quiet) ≡ [] → Adds h (follows quiet h) []
adds_quiet [] h unseen = adds_none h h refl (λ n le. refl)
adds_quiet (s ∷ quiet) h unseen =
    let parted : ours (s.entry ∷ []) ++ ours (entries_in quiet) ≡ [] = sym (ours-append (s.entry ∷ []) (entries_in quiet)) ∙ unseen in
    let one : Adds h (goes_on h s.entry s.after) [] = record { more = s.entry ∷ []; grown = refl; seen = first_nil _ _ parted; earlier = λ n le. at_old h s.after n le } in
    adds_then h (goes_on h s.entry s.after) (follows quiet (goes_on h s.entry s.after)) [] [] one (adds_quiet quiet (goes_on h s.entry s.after) (second_nil _ _ parted))
  where
    first_nil : (xs ys : List Entry) → xs ++ ys ≡ [] → xs ≡ []
    first_nil [] ys e = refl
    first_nil (x ∷ xs) ys e = absurd cc

    second_nil : (xs ys : List Entry) → xs ++ ys ≡ [] → ys ≡ []
    second_nil [] ys e = e
    second_nil (x ∷ xs) ys e = absurd cc

-- entries of the server and then one of the client's
adds_one : (quiet : List Step) (h : History) (e : Entry) → ours (entries_in quiet) ≡ [] → ours (e ∷ []) ≡ e ∷ [] → Adds h (adds (follows quiet h) e) (e ∷ [])
adds_one quiet h e unseen own = adds_then h (follows quiet h) (adds (follows quiet h) e) [] (e ∷ []) (adds_quiet quiet h unseen) (adds_here (follows quiet h) e own)

-- and two
adds_two : (quiet : List Step) (h : History) (d e : Entry) → ours (entries_in quiet) ≡ [] → ours (d ∷ []) ≡ d ∷ [] → ours (e ∷ []) ≡ e ∷ [] → Adds h (adds (adds (follows quiet h) d) e) (d ∷ e ∷ [])
adds_two quiet h d e unseen first second =
    adds_then h (adds (follows quiet h) d) (adds (adds (follows quiet h) d) e) (d ∷ []) (e ∷ []) (adds_one quiet h d unseen first) (adds_here (adds (follows quiet h) d) e second)

pub no_step : (old new : Option Stream) (w : Waiting) (q : Option (List ℕ)) → Follows old w q → Goes old new (λ s t. t ≡ s) → After old new w q []
no_step None None w q f e = record { follows = tt; tells = tt }
no_step None (Some t) w q f e = absurd cc
no_step (Some s) None w q f e = absurd e
no_step (Some s) (Some t) w q f e = rw e (record { follows = f; tells = adds_none s.history s.history refl (λ n le. refl) })

-- bytes that came are worked into the record
pub work_step : (now : Option Stream) (w v : Waiting) (q : Option (List ℕ)) → Follows now w q
    → ((more : List ℕ) → resumes w.gather (w.unread ++ more) ≡ resumes v.gather (v.unread ++ more)) → Follows now v q
work_step None w v q f e = tt
work_step (Some s) w v q f e = record { pending = f.pending; came = f.came; reads = λ more. f.reads more ∙ e more; went = f.went }

pub read_step : (old new : Option Stream) (w : Waiting) (bytes : List ℕ) (q : Option (List ℕ)) → Follows old w q → w.unread ≡ [] → Goes old new (Did (Some (Read bytes)) added.Nothing)
    → After old new (record { gather = w.gather; unread = bytes }) q []
read_step None None w bytes q f n e = record { follows = tt; tells = tt }
read_step None (Some t) w bytes q f n e = absurd cc
read_step (Some s) None w bytes q f n e = absurd e
read_step (Some s) (Some t) w bytes q f n e = rw e.is (record {
  follows = record {
    pending = f.pending ++ bytes;
    came = left_grow s.taken s.came bytes f.pending f.came;
    reads = λ more. ap found_at (append_assoc f.pending bytes more) ∙ f.reads (bytes ++ more) ∙ ap (λ (u : List ℕ). resumes w.gather (u ++ (bytes ++ more))) n;
    went = f.went;
  };
  tells = adds_quiet e.quiet s.history e.unseen;
})

pub missed_step : (old new : Option Stream) (w : Waiting) (q : Option (List ℕ)) → Follows old w q → Goes old new (Did (Some Missed) added.Failed) → After old new w q (Failed ∷ [])
missed_step None None w q f e = record { follows = tt; tells = tt }
missed_step None (Some t) w q f e = absurd cc
missed_step (Some s) None w q f e = absurd e
missed_step (Some s) (Some t) w q f e = rw e.is (record {
  follows = record { pending = f.pending; came = f.came; reads = f.reads; went = f.went };
  tells = adds_one e.quiet s.history (Failed) e.unseen refl;
})

-- a failure of the link's own
pub fault_step : (old new : Option Stream) (w : Waiting) (q : Option (List ℕ)) → Follows old w q → Goes old new (λ s t. t ≡ places added.Failed s) → After old new w q (Failed ∷ [])
fault_step None None w q f e = record { follows = tt; tells = tt }
fault_step None (Some t) w q f e = absurd cc
fault_step (Some s) None w q f e = absurd e
fault_step (Some s) (Some t) w q f e = rw e (record {
  follows = record { pending = f.pending; came = f.came; reads = f.reads; went = f.went };
  tells = adds_here s.history Failed refl;
})

-- the bytes after the delivered records, where the record that is put together ended
whole_is : (s : Stream) (w : Waiting) (q : Option (List ℕ)) (k : Keeps s w q) → w.gather.phase ≡ phases.Whole → record_at k.pending ≡ Some (w.gather.front, w.unread)
whole_is s w q k whole =
    let at : found_at k.pending ≡ limits.Whole w.gather.front w.unread =
    ap found_at (sym (append-nil k.pending)) ∙ k.reads []
    ∙ ap (λ (p : Phase). resumes_in p w.gather.front w.gather.header w.gather.fragments (w.unread ++ [])) whole
    ∙ ap (λ (u : List ℕ). limits.Whole w.gather.front u) (append-nil w.unread) in
    found_is k.pending w.gather.front w.unread at

-- a record that is delivered is the next one of the bytes read
pub deliver_step : (old new : Option Stream) (w : Waiting) (q : Option (List ℕ)) → Follows old w q → w.gather.phase ≡ phases.Whole
    → Goes old new (λ s t. t ≡ places added.Delivered s) → After old new (record { gather = unbegun; unread = w.unread }) q (Delivered w.gather.front ∷ [])
deliver_step None None w q f d e = record { follows = tt; tells = tt }
deliver_step None (Some t) w q f d e = absurd cc
deliver_step (Some s) None w q f d e = absurd e
deliver_step (Some s) (Some t) w q f d e =
    let r = whole_is s w q f d in
    rw (e, nth_is s.taken s.came f.pending (w.gather.front, w.unread) f.came r) (record {
      follows = record { pending = w.unread; came = left_next s.taken s.came f.pending (w.gather.front, w.unread) f.came r; reads = from_start w.unread; went = f.went };
      tells = adds_here s.history (Delivered w.gather.front) refl;
    })

pub deliver_hears : (old new : Option Stream) (w : Waiting) (q : Option (List ℕ)) → Follows old w q → w.gather.phase ≡ phases.Whole
    → Goes old new (λ s t. t ≡ places added.Delivered s) → Goes old new (Hears w.gather.front received.Whole)
deliver_hears None None w q f d e = refl
deliver_hears None (Some t) w q f d e = absurd cc
deliver_hears (Some s) None w q f d e = absurd e
deliver_hears (Some s) (Some t) w q f d e =
    let n = nth_is s.taken s.came f.pending (w.gather.front, w.unread) f.came (whole_is s w q f d) in
    rw (e, n) (record { more = []; came = sym (append-nil s.came); went = refl; next = (n, refl) })

-- a record past the limits stands in the bytes that came
pub holds_long : (now : Option Stream) (w : Waiting) (q : Option (List ℕ)) → Follows now w q → w.gather.phase ≡ phases.Long → IfStream now HoldsLong
holds_long None w q f long = tt
holds_long (Some s) w q f long = record {
  pending = f.pending;
  came = f.came;
  long = ap found_at (sym (append-nil f.pending)) ∙ f.reads [] ∙ ap (λ (p : Phase). resumes_in p w.gather.front w.gather.header w.gather.fragments (w.unread ++ [])) long;
}

-- bytes of a record, which is not yet whole
pub write_step : (old new : Option Stream) (w : Waiting) (q bytes : List ℕ) → Follows old w (Some q) → Goes old new (Did (Some (Wrote bytes)) added.Nothing) → After old new w (Some (q ++ bytes)) []
write_step None None w q bytes f e = record { follows = tt; tells = tt }
write_step None (Some t) w q bytes f e = absurd cc
write_step (Some s) None w q bytes f e = absurd e
write_step (Some s) (Some t) w q bytes f e = rw e.is (record {
  follows = record { pending = f.pending; came = f.came; reads = f.reads; went = left_grow s.sent s.went bytes q f.went };
  tells = adds_quiet e.quiet s.history e.unseen;
})

-- the last bytes of a record
pub whole_step : (old new : Option Stream) (w : Waiting) (q bytes : List ℕ) (r : List ℕ × List ℕ) → Follows old w (Some q) → record_at (q ++ bytes) ≡ Some r
    → Goes old new (Did (Some (Wrote bytes)) added.Whole) → After old new w (Some r.1) (Sent r.0 ∷ [])
whole_step None None w q bytes r f d e = record { follows = tt; tells = tt }
whole_step None (Some t) w q bytes r f d e = absurd cc
whole_step (Some s) None w q bytes r f d e = absurd e
whole_step (Some s) (Some t) w q bytes r f d e =
    let g = left_grow s.sent s.went bytes q f.went in
    rw (e.is, nth_is s.sent (s.went ++ bytes) (q ++ bytes) r g d) (record {
      follows = record { pending = f.pending; came = f.came; reads = f.reads; went = left_next s.sent (s.went ++ bytes) (q ++ bytes) r g d };
      tells = adds_one e.quiet s.history (Sent r.0) e.unseen refl;
    })

-- the wire failed, and the record wasn't written whole
pub part_step : (old new : Option Stream) (w : Waiting) (rec : List ℕ) (q : Option (List ℕ)) → Follows old w q → Goes old new (Did (Some Missed) (added.Part rec)) → After old new w q (Sent rec ∷ Failed ∷ [])
part_step None None w rec q f e = record { follows = tt; tells = tt }
part_step None (Some t) w rec q f e = absurd cc
part_step (Some s) None w rec q f e = absurd e
part_step (Some s) (Some t) w rec q f e = rw e.is (record {
  follows = record { pending = f.pending; came = f.came; reads = f.reads; went = f.went };
  tells = adds_two e.quiet s.history (Sent rec) Failed e.unseen refl refl;
})

-- nothing of the record was written, since an earlier one went out in part
pub unsent_step : (old new : Option Stream) (w : Waiting) (rec : List ℕ) (q : Option (List ℕ)) → Follows old w q → Goes old new (λ s t. t ≡ places (added.Part rec) s) → After old new w q (Sent rec ∷ Failed ∷ [])
unsent_step None None w rec q f e = record { follows = tt; tells = tt }
unsent_step None (Some t) w rec q f e = absurd cc
unsent_step (Some s) None w rec q f e = absurd e
unsent_step (Some s) (Some t) w rec q f e = rw e (record {
  follows = record { pending = f.pending; came = f.came; reads = f.reads; went = f.went };
  tells = adds_two [] s.history (Sent rec) Failed refl refl refl;
})

pub less_known : (r : Option Stream) (w : Waiting) (q : List ℕ) → Follows r w (Some q) → Follows r w None
less_known None w q f = tt
less_known (Some s) w q f = record { pending = f.pending; came = f.came; reads = f.reads; went = tt }

pub after_whole : (n len : ℕ) → n ≡ len → (if n == len then added.Whole else added.Nothing) ≡ added.Whole
after_whole n len e = rw (eq-eqb n len e) refl

pub after_part : (n len : ℕ) → (n ≡ len → ⊥) → (if n == len then added.Whole else added.Nothing) ≡ added.Nothing
after_part n len e = rw (ne_eqb n len e) refl

-- a new connection: nothing was read or written on it
pub dial_step : (old new : Option Stream) (w : Waiting) (q : Option (List ℕ)) (port : ℕ) → Follows old w q → Goes old new (Did (Some (Connected port)) added.Nothing) → After old new nothing (Some []) (Dialed port ∷ [])
dial_step None None w q port f e = record { follows = tt; tells = tt }
dial_step None (Some t) w q port f e = absurd cc
dial_step (Some s) None w q port f e = absurd e
dial_step (Some s) (Some t) w q port f e = rw e.is (record {
  follows = record { pending = []; came = refl; reads = from_start []; went = refl };
  tells = adds_one e.quiet s.history (Dialed port) e.unseen refl;
})

pub dial_failed : (old new : Option Stream) (w : Waiting) (q : Option (List ℕ)) (port : ℕ) → Follows old w q → Goes old new (Did (Some (Connected port)) added.Failed) → After old new nothing (Some []) (Dialed port ∷ Failed ∷ [])
dial_failed None None w q port f e = record { follows = tt; tells = tt }
dial_failed None (Some t) w q port f e = absurd cc
dial_failed (Some s) None w q port f e = absurd e
dial_failed (Some s) (Some t) w q port f e = rw e.is (record {
  follows = record { pending = []; came = refl; reads = from_start []; went = refl };
  tells = adds_two e.quiet s.history (Dialed port) Failed e.unseen refl refl;
})

-- what a link is after a note
pub record HasNoted (old new : Option Stream) (w : Waiting) (unsent : Option (List ℕ)) (es : List Entry) : Type 0 where
  pub follows : Follows new w unsent
  pub notes : NotesOnly (told_of old) (told_of new) es

pub note_step : {T E : Type 0} (old new : Option Stream) (w : Waiting) (q : Option (List ℕ)) (mark : Mark) (result : Result T E) → Follows old w q → Goes old new (Marked mark result) → HasNoted old new w q (noted_as mark result)
note_step None None w q mark result f e = record { follows = tt; notes = tt }
note_step None (Some t) w q mark result f e = absurd cc
note_step (Some s) None w q mark result f e = absurd e
note_step (Some s) (Some t) w q mark (Ok x) f e = rw e (record {
  follows = record { pending = f.pending; came = f.came; reads = f.reads; went = f.went };
  notes = record { grown = refl; earlier = λ n le. at_old s.history (now_at s.history) n le };
})
note_step (Some s) (Some t) w q mark (Err x) f e = rw e (record {
  follows = f;
  notes = record { grown = sym (append-nil s.history.entries); earlier = λ n le. refl };
})

pub begun_follows : (told : Option WireTold) (now : Option Stream) → IsBegun told now → Follows now nothing (Some [])
begun_follows None now b = rw b tt
begun_follows (Some t) now b = rw b (record { pending = []; came = refl; reads = from_start []; went = refl })

-- ---- one call after another

pub tells_same : (a : Option History) → Tells a a []
tells_same None = tt
tells_same (Some a) = adds_none a a refl (λ n le. refl)

pub tells_then : (a b c : Option History) (es fs : List Entry) → Tells a b es → Tells b c fs → Tells a c (es ++ fs)
tells_then None b c es fs p q = tt
tells_then (Some a) None c es fs p q = absurd p
tells_then (Some a) (Some b) None es fs p q = absurd q
tells_then (Some a) (Some b) (Some c) es fs p q = adds_then a b c es fs p q

-- a step after steps that added nothing
pub tells_on : (a b c : Option History) (es : List Entry) → Tells a b [] → Tells b c es → Tells a c es
tells_on a b c es p q = tells_then a b c [] es p q
