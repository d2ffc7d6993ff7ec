-- Where a WRITE is sent, the newest byte that is pending at a place of it was given by an operation; and so it wasn't cut off since.
use Rattle.core_session.proofs.Prelude.{◌≡◌, ◌≢◌, ◌<◌, ◌≤◌, ◌⊎◌, inl, inr, ℕ, true, List, length, Option, Some, None, refl, sym, ap, subst, ◌∙◌, arith, of_file, Flown, fly_at, Cell, byte_of, covers, cell_at, IsSound, IsOver, fly-some, Entry, Began, Sent, NoneBegan, At, SpellsCall, AnsweredBefore, Terms, WritesByte, RefusedWrite, Truncated, writes-byte, one_file_call, Mounted, machine_of, Setup, View, KnowsRoot, GoesWith, IsMade, begins-unbegun, reached-rows, written_file, IsInFlight, writes-whole, PutsNamed}
use Rattle.claims.specs.Touched.{Covers}
use Rattle.law_own.proofs.OneByte.{no-truncate}
use Rattle.nfs_file_calls.specs.declared.call.FileCall.TheVariants as file_calls
use Rattle.world_model.specs.declared.message.Call.TheVariants as calls
use Rattle.world_model.specs.declared.op.Op.TheVariants as ops
use Rattle.core_session.specs.pending.Held.{IsUnsettled}
use Rattle.core_session.proofs.order.Basis.{reached-basis}
use Rattle.core_session.proofs.pending.Unsettled.{held-at}
use Rattle.core_session.proofs.calls.Outgoing.{Outgoing}
use Rattle.core_session.proofs.room.Onward.{SentOn, reached-on}
use Rattle.core_session.proofs.settled.Given.{covers-true}

-- beneath what is in flight stands a byte that is pending
over-some : (flown : Option Flown) (cell : Option Cell) → (flown ≡ None → ⊥) → IsOver flown cell → (c : Cell) × (cell ≡ Some c)
over-some None cell some over = absurd (some refl)
over-some (Some flown) None some over = absurd over
over-some (Some flown) (Some cell) some over = (cell, refl)

-- An operation gave a byte to the place, which isn't a refused write, and hadn't been answered as the one at the place x began.
pub record IsSince (m : Terms) (h : List Entry) (x s : ℕ) (f : List ℕ) (i : ℕ) : Type 0 where
  pub w : ℕ
  pub v : ℕ
  pub other : w ≢ x
  pub before : w < s
  pub unanswered : AnsweredBefore h w x → ⊥
  pub writes : WritesByte m.modes m.origin h w f i v
  pub unrefused : RefusedWrite h w → ⊥

module _ (mt : Mounted) (terms : Terms) (setup : Setup) (H : List Entry) (V : View) (g : GoesWith mt terms setup H V) (roots : KnowsRoot terms.origin H mt.root) (puts_named : PutsNamed H) where
  module _ (s xid : ℕ) (sent f : List ℕ) (offset how : ℕ) (bytes : List ℕ) (spells : SpellsCall xid (calls.File (file_calls.Write f offset how bytes)) sent) (i b : ℕ)
      (c : Covers offset bytes i b) (on : SentOn (machine_of mt) (begins-unbegun mt) setup H V s sent) where
    abbrev w : Outgoing (machine_of mt) (begins-unbegun mt) setup H s sent
    w = on.out

    made : IsMade setup.cred w.xid w.waiting
    made = ((reached-rows (machine_of mt) setup w.before w.old w.reached).rows w.xid w.waiting w.waits).made

    same : calls.File (file_calls.Write f offset how bytes) ≡ made.asked
    same = one_file_call xid w.xid (file_calls.Write f offset how bytes) made.asked sent spells (subst (λ (z : List ℕ). SpellsCall w.xid made.asked z) (sym w.bytes_is) made.spells.spells)

    flight : IsInFlight w.xid f made.asked w.old.shelf.back
    flight = writes-whole mt setup w.before w.old w.reached w.found w.xid made.asked f (record { waiting = w.waiting; waits = w.waits; spells = made.spells }) (ap written_file (sym same))

    offset-is : (a d k l : ℕ) (p q : List ℕ) → calls.File (file_calls.Write f a k p) ≡ calls.File (file_calls.Write f d l q) → (a ≡ d) × (p ≡ q)
    offset-is a d k l p q e = (cc, cc)

    parts : (offset ≡ flight.piece.offset) × (bytes ≡ flight.piece.bytes)
    parts = offset-is offset flight.piece.offset how flight.piece.how bytes flight.piece.bytes (same ∙ flight.is)

    inside : covers flight.piece.offset (length flight.piece.bytes) i ≡ true
    inside = subst (λ (z : ℕ). covers z (length flight.piece.bytes) i ≡ true) parts.0 (subst (λ (z : List ℕ). covers offset (length z) i ≡ true) parts.1 (covers-true offset bytes i b c))

    sound : IsSound (of_file f w.old.shelf.back)
    sound = (reached-basis mt setup w.before w.old w.reached w.found).sound f

    newest : (cell : Cell) × (cell_at (of_file f w.old.shelf.back).segments i ≡ Some cell)
    newest =
        over-some (fly_at (of_file f w.old.shelf.back) i) (cell_at (of_file f w.old.shelf.back).segments i)
        (λ none. fly-some w.xid (of_file f w.old.shelf.back).pieces flight.piece i sound.sent flight.there inside none) (sound.over i)

    unsettled : IsUnsettled terms.modes terms.origin H f i (length w.before) newest.0.byte
    unsettled = held-at mt terms setup H V g roots puts_named w.before w.after (sym w.is) w.old w.reached w.found on.on f i newest.0.byte (ap byte_of newest.1)

    -- it wasn't cut off since
    since : (x e size : ℕ) → Truncated terms.modes H x e f size → size ≤ i → e < s → IsSince terms H x s f i
    since x e size cut low past =
        let u = unsettled in
        let there = w.there in
        record {
          w = u.w;
          v = newest.0.byte;
          other = λ is.
              no-truncate H u.w i newest.0.byte cut.of.lane cut.of.line cut.slot size (writes-byte terms.modes terms.origin H u.w f i newest.0.byte u.writes)
              (subst (λ (z : ℕ). At H z (Began cut.of.lane cut.of.line (ops.Truncate cut.slot size))) (sym is) cut.of.began);
          before = let low_ = u.before in omega (arith, low_, there);
          unanswered = λ a. u.uncut x e size a cut low (omega (arith, past, there));
          writes = u.writes;
          unrefused = u.unrefused;
        }

  -- a WRITE of a place that was cut off has a byte that an operation gave it since
  pub written-since : (s xid : ℕ) (sent f : List ℕ) (offset how : ℕ) (bytes : List ℕ) → At H s (Sent sent) → SpellsCall xid (calls.File (file_calls.Write f offset how bytes)) sent → (i b : ℕ)
      → Covers offset bytes i b → (x e size : ℕ) → Truncated terms.modes H x e f size → size ≤ i → e < s → IsSince terms H x s f i
  written-since s xid sent f offset how bytes at spells i b c x e size cut low past = by (reached-on (machine_of mt) (begins-unbegun mt) setup H V g.reaches s sent at)
    where
      by : NoneBegan H s ⊎ SentOn (machine_of mt) (begins-unbegun mt) setup H V s sent → IsSince terms H x s f i
      by (inl none) =
          let began = cut.ended.began in
          let later = cut.ended.later in
          absurd (none x cut.lane cut.ended.line (ops.Truncate cut.slot size) began (omega (arith, later, past)))
      by (inr on) = since s xid sent f offset how bytes spells i b c on x e size cut low past
