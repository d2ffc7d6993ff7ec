-- What a call of a world of two clients adds to what it tells.
use Rattle.std.proofs.Common.{◌≡◌, ◌≤◌, ◌<◌, ◌-◌, ◌==◌, ℕ, zero, suc, Bool, true, false, cond, List, [], ◌∷◌, ◌++◌, length, map, Option, Some, None, Result, Ok, Err, refl, sym, ap, subst, ◌∙◌, append_assoc, arith}
use Rattle.std.proofs.lemmas.Bool.{eq-eqb, ne_eqb}
use Rattle.std.proofs.lemmas.List.{append-nil, append_cancel_left, map-append, length-map}
use Rattle.world_model.specs.declared.entry.Entry.{Entry}
use Rattle.world_model.specs.declared.entry.Entry.TheVariants.{Began, Answered, Dialed, Sent, Executed, Foreign, Flushed, Reboot, Delivered, Failed, Clock}
use Rattle.world_model.specs.declared.entry.Mark.{Mark}
use Rattle.world_model.specs.declared.entry.Mark.TheVariants as marks
use Rattle.world_model.specs.Entries.{ours}
use Rattle.world_model.specs.Server.{Server}
use Rattle.world_model.proofs.Histories.{ours-append}
use Rattle.outside.specs.declared.link.LinkFault.{LinkFault}
use Rattle.outside.specs.declared.link.LinkFault.TheVariants as faults
use Rattle.outside.specs.declared.link.Received.{Received}
use Rattle.outside.specs.declared.link.Received.TheVariants as received
use Rattle.outside.specs.Link.{dialed_as, sent_as, received_as, noted_as, entry_of}
use Rattle.outside.specs.Pairs.{PairStep, PairTold, AddsAt, AppendsAt, from_afar, seen_as, with_seen, seen_by, entries_of}
use Rattle.law_sides.specs.Whole.{IsClients}
use Rattle.law_sides.proofs.Agreeing.{afar-none}
use Rattle.law_sides.proofs.Sides.{seen-append}
use Rattle.export_fs.specs.View.{View}
use Rattle.export_fs.specs.Seen.{server_of}
use Rattle.world_link.specs.declared.broken.Broken.{Broken}
use Rattle.world_link.specs.declared.directive.PartialWrite.{PartialWrite}
use Rattle.world_link.specs.declared.directive.RequestId.{RequestId}
use Rattle.world_link.specs.declared.routed.Routed.{Routed}
use Rattle.world_link.specs.declared.routed.Told.{Told}
use Rattle.world_link.specs.Ends.{WorldEnds}
use Rattle.world_link.specs.Going.{GoesOn}
use Rattle.world_link.specs.Pairs.{PairView, steps_of, told_pair}
use Rattle.world_link.specs.Replay.{stepped, part_at}
use Rattle.world_link.specs.Routes.{KeepsAllEnds}
use Rattle.world_link.specs.Routing as routing
use Rattle.world_link.specs.Steps as steps
use Rattle.world_link.specs.View.{WorldView, entry_in}

-- ---- the whole goes on

rest_parts : List Told → (ℕ → Option PartialWrite) → ℕ → Option PartialWrite
rest_parts [] parts = parts
rest_parts (t ∷ told) parts = rest_parts told (λ n. parts (suc n))

rest_view : (ℕ → Option PartialWrite) → View → List Told → View
rest_view parts view [] = view
rest_view parts view (t ∷ told) = rest_view (λ n. parts (suc n)) (stepped (parts 0) view t.entry) told

step_of : Option PartialWrite → View → Told → PairStep
step_of part view t = record { end = t.end; entry = t.entry; after = server_of (stepped part view t.entry) }

told_append : (parts : ℕ → Option PartialWrite) (view : View) (xs ys : List Told) → steps_of parts view (xs ++ ys) ≡ steps_of parts view xs ++ steps_of (rest_parts xs parts) (rest_view parts view xs) ys
unfolding rest_parts rest_view step_of
told_append parts view [] ys = refl
told_append parts view (t ∷ xs) ys = ap (λ (s : List PairStep). step_of (parts 0) view t ∷ s) (told_append (λ n. parts (suc n)) (stepped (parts 0) view t.entry) xs ys)

told_same : (p q : ℕ → Option PartialWrite) (view : View) (told : List Told) → ((n : ℕ) → n < length told → p n ≡ q n) → steps_of p view told ≡ steps_of q view told
unfolding step_of
told_same p q view [] h = refl
told_same p q view (t ∷ told) h =
    ap (λ (z : Option PartialWrite). step_of z view t ∷ steps_of (λ n. p (suc n)) (stepped z view t.entry) told) (h 0 (omega arith))
    ∙ ap (λ (s : List PairStep). step_of (q 0) view t ∷ s) (told_same (λ n. p (suc n)) (λ n. q (suc n)) (stepped (q 0) view t.entry) told (λ n l. h (suc n) (omega (arith, l))))

-- What each end sees of entries, wherever they are told.
SeesAs : ℕ → List Told → List Entry → Type 0
SeesAs end more es = (parts : ℕ → Option PartialWrite) (view : View) → ours (seen_by end (steps_of parts view more)) ≡ es

SeesOnly : ℕ → List Told → List Entry → Type 0
SeesOnly end more es = (parts : ℕ → Option PartialWrite) (view : View) → seen_by end (steps_of parts view more) ≡ es

-- More is told: what was told stays.
pub record TellsMore (old new : PairView) (more : List Told) : Type 0 where
  pub start : new.world.start ≡ old.world.start
  pub grown : new.ends.server.told ≡ old.ends.server.told ++ more
  pub beside : (n : ℕ) → n < length old.ends.server.told → part_at new.world.server.partials n ≡ part_at old.world.server.partials n

pub record Grows (old new : PairView) (more : List Told) : Type 0 where
  pub parts : ℕ → Option PartialWrite
  pub view : View
  pub grown : told_pair new ≡ record { start = (told_pair old).start; steps = (told_pair old).steps ++ steps_of parts view more }

grows : (old new : PairView) (more : List Told) → TellsMore old new more → Grows old new more
grows old new more t =
    let was : ℕ → Option PartialWrite = part_at old.world.server.partials in
    let now : ℕ → Option PartialWrite = part_at new.world.server.partials in
    let told : List Told = old.ends.server.told in
    let start : View = old.world.start in
    record {
      parts = rest_parts told now;
      view = rest_view now start told;
      grown = ap (λ (v : View). record { start = server_of v; steps = steps_of now v new.ends.server.told }) t.start
          ∙ ap (λ (x : List Told). record { start = server_of start; steps = steps_of now start x }) t.grown
          ∙ ap (λ (x : List PairStep). record { start = server_of start; steps = x })
          (told_append now start told more ∙ ap (λ (x : List PairStep). x ++ steps_of (rest_parts told now) (rest_view now start told) more) (told_same now was start told t.beside));
    }

adds_at : (end : ℕ) (old new : PairView) (more : List Told) (es : List Entry) → TellsMore old new more → SeesAs end more es → SeesAs (1 - end) more [] → AddsAt end (told_pair old) (told_pair new) es
unfolding SeesAs
adds_at end old new more es t mine others =
    let g = grows old new more t in
    record { more = steps_of g.parts g.view more; grown = g.grown; seen = mine g.parts g.view; unseen = others g.parts g.view }

appends_at : (end : ℕ) (old new : PairView) (more : List Told) (es : List Entry) → TellsMore old new more → SeesOnly end more es → SeesOnly (1 - end) more [] → AppendsAt end (told_pair old) (told_pair new) es
unfolding SeesOnly
appends_at end old new more es t mine others =
    let g = grows old new more t in
    record { more = steps_of g.parts g.view more; grown = g.grown; seen = mine g.parts g.view; unseen = others g.parts g.view }

-- ---- two calls, one after the other

adds_at_then : (end : ℕ) (a b c : PairTold) (es fs : List Entry) → AddsAt end a b es → AddsAt end b c fs → AddsAt end a c (es ++ fs)
adds_at_then end a b c es fs p q = record {
  more = p.more ++ q.more;
  grown = q.grown ∙ ap (λ (t : PairTold). record { start = t.start; steps = t.steps ++ q.more }) p.grown
      ∙ ap (λ (t : List PairStep). record { start = a.start; steps = t }) (append_assoc a.steps p.more q.more);
  seen = ap ours (seen-append end p.more q.more) ∙ ours-append (seen_by end p.more) (seen_by end q.more) ∙ ap (λ (t : List Entry). t ++ ours (seen_by end q.more)) p.seen ∙ ap (λ (t : List Entry). es ++ t) q.seen;
  unseen = ap ours (seen-append (1 - end) p.more q.more) ∙ ours-append (seen_by (1 - end) p.more) (seen_by (1 - end) q.more)
      ∙ ap (λ (t : List Entry). t ++ ours (seen_by (1 - end) q.more)) p.unseen ∙ q.unseen;
}

-- ---- entries of the server

quiet_step : (s : PairStep) (b : Bool) (e : Entry) (steps : List PairStep) → ours (e ∷ []) ≡ [] → ours (entries_of steps) ≡ []
    → ours (entries_of (with_seen (cond b (Some (record s { entry = e })) (from_afar (record s { entry = e }) e)) steps)) ≡ []
quiet_step s true (Executed xid call reply) steps q r = r
quiet_step s false (Executed xid call reply) steps q r = r
quiet_step s true (Foreign call reply) steps q r = r
quiet_step s false (Foreign call reply) steps q r = r
quiet_step s true (Flushed file from len) steps q r = r
quiet_step s false (Flushed file from len) steps q r = r
quiet_step s true (Reboot verf) steps q r = r
quiet_step s false (Reboot verf) steps q r = r
quiet_step s b (Began lane line op) steps q r = absurd cc
quiet_step s b (Answered lane line answer) steps q r = absurd cc
quiet_step s b (Dialed port) steps q r = absurd cc
quiet_step s b (Sent bytes) steps q r = absurd cc
quiet_step s b (Delivered bytes) steps q r = absurd cc
quiet_step s b Failed steps q r = absurd cc
quiet_step s b (Clock ms) steps q r = absurd cc

quiet_first : (e : Entry) (es : List Entry) → ours (e ∷ es) ≡ [] → (ours (e ∷ []) ≡ []) × (ours es ≡ [])
quiet_first (Executed xid call reply) es q = (refl, q)
quiet_first (Foreign call reply) es q = (refl, q)
quiet_first (Flushed file from len) es q = (refl, q)
quiet_first (Reboot verf) es q = (refl, q)
quiet_first (Began lane line op) es q = absurd cc
quiet_first (Answered lane line answer) es q = absurd cc
quiet_first (Dialed port) es q = absurd cc
quiet_first (Sent bytes) es q = absurd cc
quiet_first (Delivered bytes) es q = absurd cc
quiet_first Failed es q = absurd cc
quiet_first (Clock ms) es q = absurd cc

-- neither end sees more of them than entries of the server
quiet_sees : (end : ℕ) (more : List Told) (parts : ℕ → Option PartialWrite) (view : View) → ours (map entry_in more) ≡ [] → ours (seen_by end (steps_of parts view more)) ≡ []
unfolding step_of
quiet_sees end [] parts view q = refl
quiet_sees end (t ∷ more) parts view q =
    let two = quiet_first t.entry (map entry_in more) q in
    quiet_step (step_of (parts 0) view t) (t.end == end) t.entry _ two.0 (quiet_sees end more (λ n. parts (suc n)) (stepped (parts 0) view t.entry) two.1)

-- ---- entries of a client

own_step : (end : ℕ) (s : PairStep) → s.end ≡ end → entries_of (with_seen (seen_as end s) []) ≡ s.entry ∷ []
own_step end s is = ap (λ (b : Bool). entries_of (with_seen (cond b (Some s) (from_afar s s.entry)) [])) (eq-eqb s.end end is)

other_step : (end : ℕ) (s : PairStep) → (s.end ≡ end → ⊥) → IsClients s.entry → entries_of (with_seen (seen_as end s) []) ≡ []
other_step end s isnt own =
    ap (λ (b : Bool). entries_of (with_seen (cond b (Some s) (from_afar s s.entry)) [])) (ne_eqb s.end end isnt)
    ∙ ap (λ (o : Option PairStep). entries_of (with_seen o [])) (afar-none s s.entry own)

not_other : (end : ℕ) → end < 2 → end ≡ 1 - end → ⊥
not_other end low is = absurd (omega (arith, low, is))

one_mine : (end : ℕ) (e : Entry) → SeesOnly end (record { end = end; entry = e } ∷ []) (e ∷ [])
unfolding SeesOnly step_of
one_mine end e parts view = own_step end (step_of (parts 0) view (record { end = end; entry = e })) refl

one_others : (end : ℕ) (e : Entry) → end < 2 → IsClients e → SeesOnly (1 - end) (record { end = end; entry = e } ∷ []) []
unfolding SeesOnly step_of
one_others end e low own parts view = other_step (1 - end) (step_of (parts 0) view (record { end = end; entry = e })) (not_other end low) own

only_sees : (end : ℕ) (more : List Told) (es : List Entry) → ours es ≡ es → SeesOnly end more es → SeesAs end more es
unfolding SeesOnly SeesAs
only_sees end more es mine s parts view = ap ours (s parts view) ∙ mine

-- ---- each call

no_parts : (a b : List Broken) → b ≡ a → (n : ℕ) → part_at b n ≡ part_at a n
no_parts a b e n = ap (λ (t : List Broken). part_at t n) e

same_adds_at : (end : ℕ) (old new : PairView) → new.world ≡ old.world → new.ends ≡ old.ends → AddsAt end (told_pair old) (told_pair new) []
unfolding SeesAs
same_adds_at end old new w e = adds_at end old new [] [] (record {
  start = ap (λ (x : WorldView). x.start) w;
  grown = ap (λ (x : WorldEnds). x.server.told) e ∙ sym (append-nil old.ends.server.told);
  beside = λ n l. no_parts _ _ (ap (λ (x : WorldView). x.server.partials) w) n;
}) (λ parts view. refl) (λ parts view. refl)

one_adds_at : (end : ℕ) (old new : PairView) (e : Entry) → end < 2 → IsClients e → ours (e ∷ []) ≡ e ∷ [] → new.world.start ≡ old.world.start → new.world.server.partials ≡ old.world.server.partials
    → new.ends.server.told ≡ old.ends.server.told ++ record { end = end; entry = e } ∷ [] → AddsAt end (told_pair old) (told_pair new) (e ∷ [])
one_adds_at end old new e low own mine start partials grown =
    adds_at end old new (record { end = end; entry = e } ∷ []) (e ∷ []) (record { start = start; grown = grown; beside = λ n l. no_parts _ _ partials n })
    (only_sees end (record { end = end; entry = e } ∷ []) (e ∷ []) mine (one_mine end e)) (only_sees (1 - end) (record { end = end; entry = e } ∷ []) [] refl (one_others end e low own))

-- what was told after a dial that failed: it, and then Failed
pub dials_at : {T : Type 0} (end : ℕ) (old new : PairView) (port : ℕ) (result : Result T LinkFault) → end < 2 → steps.Dials old.world new.world port result → routing.Dials old.ends new.ends end port result
    → AddsAt end (told_pair old) (told_pair new) (dialed_as port result)
dials_at end old new port (Ok x) low w e =
    one_adds_at end old new (Dialed port) low tt refl (ap (λ (x : WorldView). x.start) w.1) (ap (λ (x : WorldView). x.server.partials) w.1) (ap (λ (x : WorldEnds). x.server.told) e)
dials_at end old new port (Err faults.Failed) low w e =
    let mid : PairView = record { world = old.world; ends = routing.after old.ends end (Dialed port) } in
    adds_at_then end (told_pair old) (told_pair mid) (told_pair new) (Dialed port ∷ []) (Failed ∷ [])
    (one_adds_at end old mid (Dialed port) low tt refl refl refl refl)
    (one_adds_at end mid new Failed low tt refl (ap (λ (x : WorldView). x.start) w.1) (ap (λ (x : WorldView). x.server.partials) w.1) (ap (λ (x : WorldEnds). x.server.told) e))
dials_at end old new port (Err faults.Memory) low w e = same_adds_at end old new w e

pub sends_at : {T : Type 0} (end : ℕ) (old new : PairView) (rec : List ℕ) (name : Option RequestId) (result : Result T LinkFault) → end < 2 → steps.Sends old.world new.world rec result
    → routing.Sends old.ends new.ends name (record { end = end; bytes = rec }) result → AddsAt end (told_pair old) (told_pair new) (sent_as rec result)
sends_at end old new rec name (Ok x) low w e =
    one_adds_at end old new (Sent rec) low tt refl (ap (λ (x : WorldView). x.start) w) (ap (λ (x : WorldView). x.server.partials) w) (ap (λ (x : WorldEnds). x.server.told) e)
sends_at end old new rec name (Err faults.Failed) low w e = absurd w
sends_at end old new rec name (Err faults.Memory) low w e = same_adds_at end old new w e

mark_clients : (mark : Mark) → IsClients (entry_of mark)
mark_clients (marks.Began lane line op) = tt
mark_clients (marks.Answered lane line answer) = tt
mark_clients (marks.Clock ms) = tt

pub notes_at : {T E : Type 0} (end : ℕ) (old new : PairView) (mark : Mark) (result : Result T E) → end < 2 → steps.Notes old.world new.world mark result → routing.Notes old.ends new.ends end mark result
    → AppendsAt end (told_pair old) (told_pair new) (noted_as mark result)
unfolding SeesOnly
notes_at end old new mark (Ok x) low w e =
    appends_at end old new (record { end = end; entry = entry_of mark } ∷ []) (entry_of mark ∷ []) (record {
      start = ap (λ (x : WorldView). x.start) w;
      grown = ap (λ (x : WorldEnds). x.server.told) e;
      beside = λ n l. no_parts _ _ (ap (λ (x : WorldView). x.server.partials) w) n;
    }) (one_mine end (entry_of mark)) (one_others end (entry_of mark) low (mark_clients mark))
notes_at end old new mark (Err f) low w e =
    appends_at end old new [] [] (record {
      start = ap (λ (x : WorldView). x.start) w;
      grown = ap (λ (x : WorldEnds). x.server.told) e ∙ sym (append-nil old.ends.server.told);
      beside = λ n l. no_parts _ _ (ap (λ (x : WorldView). x.server.partials) w) n;
    }) (λ parts view. refl) (λ parts view. refl)

-- a reply came to its end
pub hands_at : (end : ℕ) (old new : PairView) (reply : Routed) (place : ℕ) (rec : List ℕ) → end < 2 → reply.end ≡ end → reply.bytes ≡ rec → steps.HandsAt old.world new.world place rec received.Whole → new.ends ≡ routing.handed old.ends place reply
    → AddsAt end (told_pair old) (told_pair new) (Delivered rec ∷ [])
hands_at end old new reply place rec low mine bytes w e =
    one_adds_at end old new (Delivered rec) low tt refl (ap (λ (x : WorldView). x.start) w.1) (ap (λ (x : WorldView). x.server.partials) w.1)
    (ap (λ (x : WorldEnds). x.server.told) e ∙ ap (λ (z : ℕ). old.ends.server.told ++ record { end = z; entry = Delivered reply.bytes } ∷ []) mine
    ∙ ap (λ (z : List ℕ). old.ends.server.told ++ record { end = end; entry = Delivered z } ∷ []) bytes)

pub silent_at : (end : ℕ) (old new : PairView) → end < 2 → new.world.start ≡ old.world.start → new.world.server.partials ≡ old.world.server.partials → new.ends ≡ routing.after old.ends end Failed
    → AddsAt end (told_pair old) (told_pair new) (Failed ∷ [])
silent_at end old new low start partials e = one_adds_at end old new Failed low tt refl start partials (ap (λ (x : WorldEnds). x.server.told) e)

-- turns add entries of the server alone
pub turns_at : (end : ℕ) (old new : PairView) → old.world.server.entries ≡ map entry_in old.ends.server.told → new.world.server.entries ≡ map entry_in new.ends.server.told → GoesOn old.world new.world → KeepsAllEnds old.ends new.ends
    → AddsAt end (told_pair old) (told_pair new) []
unfolding SeesAs
turns_at end old new was now g k =
    let same : map entry_in k.more ≡ g.server.more =
    append_cancel_left (map entry_in old.ends.server.told) (map entry_in k.more) g.server.more
    (sym (map-append entry_in old.ends.server.told k.more) ∙ ap (map entry_in) (sym k.grown) ∙ sym now ∙ g.server.grown ∙ ap (λ (t : List Entry). t ++ g.server.more) was) in
    let quiet : ours (map entry_in k.more) ≡ [] = ap ours same ∙ g.server.seen in
    adds_at end old new k.more [] (record {
      start = g.start;
      grown = k.grown;
      beside = λ n l. g.server.beside n (subst (λ (z : ℕ). n < z) (sym (ap length was ∙ length-map old.ends.server.told entry_in)) l);
    }) (λ parts view. quiet_sees end k.more parts view quiet) (λ parts view. quiet_sees (1 - end) k.more parts view quiet)

pub same_at : (end : ℕ) (old new : PairView) → new.world ≡ old.world → new.ends ≡ old.ends → AddsAt end (told_pair old) (told_pair new) []
same_at end old new w e = same_adds_at end old new w e

pub at_then : (end : ℕ) (a b c : PairView) (es : List Entry) → AddsAt end (told_pair a) (told_pair b) [] → AddsAt end (told_pair b) (told_pair c) es → AddsAt end (told_pair a) (told_pair c) es
at_then end a b c es p q = adds_at_then end (told_pair a) (told_pair b) (told_pair c) [] es p q
