-- What a link shows while a record goes out, and after.
use Rattle.std.proofs.Common.{◌≡◌, ◌≤◌, ◌<◌, ◌+◌, ◌^◌, ◌==◌, ℕ, zero, suc, List, [], ◌∷◌, ◌++◌, length, take, drop, Option, Some, None, Result, Err, if◌then◌else◌, refl, sym, ap, ◌∙◌, append_assoc, arith}
use Rattle.std.proofs.lemmas.List.{append-nil, take_all, take-append-drop, length-drop}
use Rattle.world_model.specs.Told.{Tells}
use Rattle.world_model.specs.declared.entry.Entry.TheVariants.{Sent}
use Rattle.outside.specs.Causes.{Rose}
use Rattle.outside.specs.Link.{sent_as}
use Rattle.outside.specs.declared.link.LinkFault.{LinkFault}
use Rattle.outside.specs.declared.link.LinkFault.TheVariants as faults
use Rattle.outside.specs.declared.wire.WireEntry.TheVariants.{Wrote, Missed}
use Rattle.outside.specs.declared.places.WireAdds.{WireAdds}
use Rattle.outside.specs.declared.places.WireAdds.TheVariants as added
use Rattle.rpc_record.specs.declared.sending.SendState.TheVariants as sendings
use Rattle.outside.specs.Records.{nth_record}
use Rattle.rpc_record.specs.Records.{one_fragment}
use Rattle.rpc_record.specs.Stream.{Stream, Goes, Did, places, sends, delivers, told_of}
use Rattle.rpc_record.specs.Shown.{Shown, Waiting, Follows, partly, left_by, TookPart, Writes, IfSendFailed, Sends}
use Rattle.rpc_record.proofs.RecordJoins.{last_part, more_taken, fragment_some}
use Rattle.rpc_record.proofs.LineSteps.{write_step, whole_step, part_step, no_step, less_known, tells_same, tells_on, after_whole, after_part}

-- the bytes that were written, behind those before
abbrev pub WroteMore : List ℕ → Stream → Stream → Type 0
WroteMore bytes s t = t.went ≡ s.went ++ bytes

sends_went : (r : Option (List ℕ)) (s : Stream) → (sends r s).went ≡ s.went
sends_went None s = refl
sends_went (Some rec) s = refl

delivers_went : (r : Option (List ℕ)) (s : Stream) → (delivers r s).went ≡ s.went
delivers_went None s = refl
delivers_went (Some rec) s = refl

pub places_went : (a : WireAdds) (s : Stream) → (places a s).went ≡ s.went
places_went added.Nothing s = refl
places_went added.Failed s = refl
places_went added.Whole s = sends_went (nth_record s.sent s.went) s
places_went (added.Part bytes) s = refl
places_went added.Delivered s = delivers_went (nth_record s.taken s.came) s

pub goes_as : (a b : Option Stream) (R S : Stream → Stream → Type 0) → ((s t : Stream) → R s t → S s t) → Goes a b R → Goes a b S
goes_as None b R S f e = e
goes_as (Some a) None R S f e = absurd e
goes_as (Some a) (Some b) R S f e = f a b e

wrote_then : (a b c : Option Stream) (x y : List ℕ) (R : Stream → Stream → Type 0) → ((s t : Stream) → R s t → WroteMore y s t) → Goes a b (WroteMore x) → Goes b c R → Goes a c (WroteMore (x ++ y))
wrote_then None None None x y R f e h = refl
wrote_then None None (Some c) x y R f e h = absurd cc
wrote_then None (Some b) c x y R f e h = absurd cc
wrote_then (Some a) None c x y R f e h = absurd e
wrote_then (Some a) (Some b) None x y R f e h = absurd h
wrote_then (Some a) (Some b) (Some c) x y R f e h = f b c h ∙ ap (λ (u : List ℕ). u ++ y) e ∙ append_assoc a.went x y

did_write : (a : WireAdds) (bytes : List ℕ) (s t : Stream) → Did (Some (Wrote bytes)) a s t → WroteMore bytes s t
did_write a bytes s t d = ap (λ (u : Stream). u.went) d.is ∙ places_went a _

did_miss : (a : WireAdds) (s t : Stream) → Did (Some Missed) a s t → WroteMore [] s t
did_miss a s t d = ap (λ (u : Stream). u.went) d.is ∙ places_went a _ ∙ sym (append-nil s.went)

did_none : (s t : Stream) → t ≡ s → WroteMore [] s t
did_none s t d = ap (λ (u : Stream). u.went) d ∙ sym (append-nil s.went)

wrote_nothing : (a : Option Stream) → Goes a a (WroteMore [])
wrote_nothing None = refl
wrote_nothing (Some a) = sym (append-nil a.went)

-- a record goes out: so many bytes of its text were taken, and not all
pub record Writing (old : Shown) (now : Option Stream) (w : Waiting) (text : List ℕ) (at : ℕ) : Type 0 where
  pub tells : Tells (told_of old.now) (told_of now) []
  pub follows : Follows now w (Some (take at text))
  pub went : Goes old.now now (WroteMore (take at text))
  pub part : at < length text

pub begins_writing : (old : Shown) (w : Waiting) (rec text : List ℕ) → Follows old.now w (partly old.sending) → old.sending ≡ sendings.Fine → text ≡ one_fragment rec → Writing old old.now w text 0
begins_writing old w rec text f fine is = record {
  tells = tells_same (told_of old.now);
  follows = rw fine at f;
  went = wrote_nothing old.now;
  part = rw is (fragment_some rec);
}

pub goes_on_writing : (old : Shown) (now new : Option Stream) (w : Waiting) (text rest : List ℕ) (at n : ℕ) (part : List ℕ) → Writing old now w text at → rest ≡ drop at text → n ≤ length rest → (n ≡ length rest → ⊥)
    → Goes now new (Did (Some (Wrote (take n rest))) (if n == length rest then added.Whole else added.Nothing)) → Writing old new w text (at + n)
goes_on_writing old now new w text rest at n part k is fits less e =
    let goes : Goes now new (Did (Some (Wrote (take n (drop at text)))) added.Nothing) = rw (after_part _ _ less, is) at e in
    let s = write_step now new w (take at text) (take n (drop at text)) k.follows goes in
    record {
      tells = tells_on _ _ _ _ k.tells s.tells;
      follows = rw (← more_taken at n text) s.follows;
      went = rw (← more_taken at n text) (wrote_then old.now now new (take at text) (take n (drop at text)) _ (did_write added.Nothing (take n (drop at text))) k.went goes);
      part = omega (arith, fits, less, ap length is, length-drop at text, k.part);
    }

-- the record went out whole
pub record Written (old : Shown) (new : Option Stream) (w : Waiting) (rec : List ℕ) : Type 0 where
  pub tells : Tells (told_of old.now) (told_of new) (Sent rec ∷ [])
  pub follows : Follows new w (Some [])
  pub went : Goes old.now new (WroteMore (one_fragment rec))

pub ends_writing : (old : Shown) (now new : Option Stream) (w : Waiting) (rec text rest : List ℕ) (at n : ℕ) → Writing old now w text at → text ≡ one_fragment rec → length rec < 2 ^ 31 → rest ≡ drop at text → n ≡ length rest
    → Goes now new (Did (Some (Wrote (take n rest))) (if n == length rest then added.Whole else added.Nothing)) → Written old new w rec
ends_writing old now new w rec text rest at n k is fits back whole e =
    let goes : Goes now new (Did (Some (Wrote (take n (drop at text)))) added.Whole) = rw (after_whole _ _ whole, back) at e in
    let all : n ≡ length (drop at text) = whole ∙ ap length back in
    let s = whole_step now new w (take at text) (take n (drop at text)) (rec, []) k.follows (last_part text rec at n is fits all) goes in
    let joined : take at text ++ take n (drop at text) ≡ one_fragment rec = ap (λ (t : List ℕ). take at text ++ t) (take_all n (drop at text) (omega (arith, all))) ∙ take-append-drop at text ∙ is in
    record {
      tells = tells_on _ _ _ _ k.tells s.tells;
      follows = s.follows;
      went = rw (← joined) (wrote_then old.now now new (take at text) (take n (drop at text)) _ (did_write added.Whole (take n (drop at text))) k.went goes);
    }

left_follows : (now : Option Stream) (w : Waiting) (text : List ℕ) (at : ℕ) (fault : LinkFault) → Follows now w (Some (take at text)) → Follows now w (partly (left_by at fault))
left_follows now w text zero fault f = f
left_follows now w text (suc at) faults.Failed f = less_known now w (take (suc at) text) f
left_follows now w text (suc at) faults.Memory f = less_known now w (take (suc at) text) f

-- the transmission failed, perhaps after a part was taken
pub record Unwritten (old : Shown) (new : Option Stream) (w : Waiting) (rec : List ℕ) (at : ℕ) (fault : LinkFault) : Type 0 where
  pub tells : Tells (told_of old.now) (told_of new) (sent_as {T = Unit {0}} rec (Err fault))
  pub follows : Follows new w (partly (left_by at fault))
  pub took : Goes old.now new (TookPart fault (left_by at fault) (one_fragment rec))

took_part : (fault : LinkFault) (text rec : List ℕ) (at : ℕ) → text ≡ one_fragment rec → at < length text → (s t : Stream) → WroteMore (take at text ++ []) s t → TookPart fault (left_by at fault) (one_fragment rec) s t
took_part fault text rec at is part s t e = record { at = at; part = rw (← is) part; went = e ∙ ap (λ (u : List ℕ). s.went ++ u) (append-nil (take at text) ∙ ap (take at) is); leaves = refl }

pub fails_writing : (old : Shown) (now new : Option Stream) (w : Waiting) (rec text : List ℕ) (at : ℕ) → Writing old now w text at → text ≡ one_fragment rec
    → Goes now new (Did (Some Missed) (added.Part rec)) → Unwritten old new w rec at faults.Failed
fails_writing old now new w rec text at k is e = record {
  tells = tells_on _ _ _ _ k.tells (part_step now new w rec (Some (take at text)) k.follows e).tells;
  follows = left_follows new w text at faults.Failed (part_step now new w rec (Some (take at text)) k.follows e).follows;
  took = goes_as _ _ _ _ (took_part faults.Failed text rec at is k.part) (wrote_then old.now now new (take at text) [] _ (did_miss (added.Part rec)) k.went e);
}

pub starves_writing : (old : Shown) (now new : Option Stream) (w : Waiting) (rec text : List ℕ) (at : ℕ) → Writing old now w text at → text ≡ one_fragment rec
    → Goes now new (λ s t. t ≡ s) → Unwritten old new w rec at faults.Memory
starves_writing old now new w rec text at k is e = record {
  tells = tells_on _ _ _ _ k.tells (no_step now new w (Some (take at text)) k.follows e).tells;
  follows = left_follows new w text at faults.Memory (no_step now new w (Some (take at text)) k.follows e).follows;
  took = goes_as _ _ _ _ (took_part faults.Memory text rec at is k.part) (wrote_then old.now now new (take at text) [] _ did_none k.went e);
}

-- ---- what a transmission comes to

pub fine_sends : {T : Type 0} (old new : Shown) (rec : List ℕ) (result : Result T LinkFault) → old.sending ≡ sendings.Fine → old.wire ≤ new.wire → new.own ≡ old.own → new.phase ≡ old.phase
    → Goes old.now new.now (Writes rec result new.sending) → IfSendFailed result (Rose old.wire new.wire) → Sends old new rec result
fine_sends old new rec result fine wire own phase wrote because = record {
  wire = wire;
  own = omega (arith, own);
  phase = phase;
  wrote = rw fine wrote;
  because = rw fine because;
}
