-- What lists of records and entries are without their ends, after a push or a removal.
use Rattle.std.proofs.Common.{◌≡◌, ◌<◌, ℕ, zero, suc, List, [], ◌∷◌, ◌++◌, length, map, take, drop, get_or, Option, Some, None, Result, Ok, Err, slice_get, refl, sym, ap, ◌∙◌, arith}
use Rattle.std.specs.Prelude.{OnErr, OnSome}
use Rattle.std.specs.List.{remove}
use Rattle.std.proofs.lemmas.List.{map_push, map-append, length-map, take-map, drop-map}
use Rattle.outside.specs.declared.link.Received.TheVariants as received
use Rattle.world_model.specs.declared.entry.Entry.{Entry}
use Rattle.world_model.specs.declared.entry.Entry.TheVariants.{Delivered}
use Rattle.world_link.specs.declared.broken.Broken.{Broken}
use Rattle.world_link.specs.declared.directive.PartialWrite.{PartialWrite}
use Rattle.world_link.specs.declared.routed.Routed.{Routed}
use Rattle.world_link.specs.declared.routed.Told.{Told}
use Rattle.world_link.specs.declared.waiting.Queued.{Queued}
use Rattle.world_link.specs.Ends.{ServerEnds, WorldEnds, reply_in}
use Rattle.world_link.specs.Handling.{kept}
use Rattle.world_link.specs.Holding.{HeldReply}
use Rattle.world_link.specs.Routes.{Answers, MayAnswerTo, KeepsEnds}
use Rattle.world_link.specs.Routing as routing
use Rattle.world_link.specs.Steps.{HandsAt, delivered_at}
use Rattle.world_link.specs.View.{WorldView, entry_in, bytes_in, waiting_in}
use Rattle.world_link.proofs.EndsStayRight.{held_ends, readied_ends, ends_if}

-- ---- one more

pub told_push : (items new : List Told) (t : Told) → new ≡ items ++ t ∷ [] → map entry_in new ≡ map entry_in items ++ t.entry ∷ []
told_push items new t is = ap (map entry_in) is ∙ map_push entry_in items t

-- what is kept beside an entry has its place
pub kept_at : (partials new : List Broken) (items : List Told) (at : ℕ) (part : PartialWrite) → new ≡ partials ++ record { at = at; part = part } ∷ [] → at ≡ length items → new ≡ kept partials (length (map entry_in items)) (Some part)
kept_at partials new items at part is long = is ∙ ap (λ (n : ℕ). partials ++ record { at = n; part = part } ∷ []) (long ∙ sym (length-map items entry_in))

-- a reply is held
pub held_by : (old new : ServerEnds) (items after : List HeldReply) (h : HeldReply) (reply : Routed) → new ≡ record old { held = map reply_in after } → old.held ≡ map reply_in items → after ≡ items ++ h ∷ [] → h.reply ≡ reply
    → KeepsEnds (Answers old.told reply) old new
held_by old new items after h reply shape seen pushed is =
    held_ends old new reply (shape ∙ ap (λ (t : List Routed). record old { held = t })
    (ap (map reply_in) pushed ∙ map_push reply_in items h ∙ ap (λ (t : List Routed). t ++ h.reply ∷ []) (sym seen) ∙ ap (λ (r : Routed). old.held ++ r ∷ []) is))

-- a reply is ready
pub readied_by : (old new : ServerEnds) (end : ℕ) (reply : Option (List ℕ)) (bytes : List ℕ) (after : List Routed) → reply ≡ Some bytes → new ≡ record old { ready = after } → after ≡ old.ready ++ record { end = end; bytes = bytes } ∷ []
    → KeepsEnds (MayAnswerTo old.told end reply) old new
readied_by old new end reply bytes after is shape pushed =
    ends_if (MayAnswerTo old.told end reply) (MayAnswerTo old.told end (Some bytes)) old new (readied_ends old new end (Some bytes) (shape ∙ ap (λ (t : List Routed). record old { ready = t }) pushed))
    (λ a. let b : MayAnswerTo old.told end (Some bytes) = rw is at a in b)

-- ---- none

pub none_then : (ready : List Routed) (waiting : List Queued) → (ready ≡ [] → waiting ≡ []) → map bytes_in ready ≡ [] → map waiting_in waiting ≡ []
none_then [] waiting h e = ap (map waiting_in) (h refl)
none_then (r ∷ ready) waiting h e = absurd cc

-- ---- one less

at_place : (items : List Routed) (place : ℕ) (r : Routed) → place < length items → r ≡ get_or items place r → slice_get items place ≡ Some r
at_place [] place r lt is = absurd (omega (arith, lt))
at_place (x ∷ items) zero r lt is = ap (λ (z : Routed). Some z) (sym is)
at_place (x ∷ items) (suc place) r lt is = at_place items place r (omega (arith, lt)) is

at_bytes : (items : List Routed) (place : ℕ) (r : Routed) → place < length items → r ≡ get_or items place r → slice_get (map bytes_in items) place ≡ Some r.bytes
at_bytes [] place r lt is = absurd (omega (arith, lt))
at_bytes (x ∷ items) zero r lt is = ap (λ (z : Routed). Some z.bytes) (sym is)
at_bytes (x ∷ items) (suc place) r lt is = at_bytes items place r (omega (arith, lt)) is

bytes_left : (items : List Routed) (place : ℕ) → map bytes_in (remove items place) ≡ remove (map bytes_in items) place
bytes_left items place =
    map-append bytes_in (take place items) (drop (suc place) items) ∙ ap (λ (t : List (List ℕ)). t ++ map bytes_in (drop (suc place) items)) (sym (take-map bytes_in place items))
    ∙ ap (λ (t : List (List ℕ)). take place (map bytes_in items) ++ t) (sym (drop-map bytes_in (suc place) items))

pub on_some : {T : Type 0} (r : Option T) (x : T) (P : Type 0) → r ≡ Some x → OnSome r P → P
on_some (Some y) x P e p = p
on_some None x P e p = absurd cc

-- what holds anyway holds where there is an error
pub on_err : {T E : Type 0} → (r : Result T E) (P : Type 0) → P → OnErr r P
on_err (Ok x) P p = tt
on_err (Err e) P p = p

-- a reply is handed out, and it is told
pub handed_at : (old new : WorldView) (told told_after : List Told) (items after : List Routed) (place end : ℕ) (reply : Routed) (bytes rec : List ℕ)
    → new ≡ record old { server = record old.server { entries = map entry_in told_after; ready = map bytes_in after } } → old.server.entries ≡ map entry_in told → old.server.ready ≡ map bytes_in items
    → told_after ≡ told ++ record { end = end; entry = Delivered bytes } ∷ [] → after ≡ remove items place → place < length items → reply ≡ get_or items place reply → bytes ≡ reply.bytes → rec ≡ reply.bytes
    → HandsAt old new place rec received.Whole
handed_at old new told told_after items after place end reply bytes rec shape was had push left lt is given got =
    let entries : map entry_in told_after ≡ old.server.entries ++ Delivered rec ∷ [] =
    told_push told told_after (record { end = end; entry = Delivered bytes }) push ∙ ap (λ (t : List Entry). t ++ Delivered bytes ∷ []) (sym was) ∙ ap (λ (b : List ℕ). old.server.entries ++ Delivered b ∷ []) (given ∙ sym got) in
    let ready : map bytes_in after ≡ remove old.server.ready place = ap (map bytes_in) left ∙ bytes_left items place ∙ ap (λ (t : List (List ℕ)). remove t place) (sym had) in (
      ap (λ (t : List (List ℕ)). slice_get t place) had ∙ at_bytes items place reply lt is ∙ ap (λ (b : List ℕ). Some b) (sym got),
      shape ∙ ap (λ (es : List Entry). record old { server = record old.server { entries = es; ready = map bytes_in after } }) entries
          ∙ ap (λ (t : List (List ℕ)). record old { server = record old.server { entries = old.server.entries ++ Delivered rec ∷ []; ready = t } }) ready,
    )

pub handed_ends : (old new : WorldEnds) (told_after : List Told) (after : List Routed) (place : ℕ) (reply : Routed) (bytes rec : List ℕ) → new ≡ record old { server = record old.server { told = told_after; ready = after } }
    → told_after ≡ old.server.told ++ record { end = reply.end; entry = Delivered bytes } ∷ [] → after ≡ remove old.server.ready place → place < length old.server.ready → reply ≡ get_or old.server.ready place reply → bytes ≡ reply.bytes → rec ≡ reply.bytes
    → routing.Hands old new place rec
handed_ends old new told_after after place reply bytes rec shape push left lt is given got = record {
  reply = reply;
  is = at_place old.server.ready place reply lt is;
  bytes = sym got;
  after = shape ∙ ap (λ (t : List Told). record old { server = record old.server { told = t; ready = after } }) (push ∙ ap (λ (b : List ℕ). old.server.told ++ record { end = reply.end; entry = Delivered b } ∷ []) given)
      ∙ ap (λ (t : List Routed). record old { server = record old.server { told = old.server.told ++ record { end = reply.end; entry = Delivered reply.bytes } ∷ []; ready = t } }) left;
}
