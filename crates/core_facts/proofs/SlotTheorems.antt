-- The answers of operations on a slot, from what their slots held.
use Rattle.core_facts.proofs.Prelude.{◌≡◌, ℕ, true, List, refl, ap, ◌∙◌, sym, subst, Mode, Value, Entry, Op, Ended, can_write, slot_of, Terms, Mounted, machine_of, Setup, View, Reaches}
use Rattle.claims.specs.Rights.{can_read, HoldsToRead, HoldsToWrite, NoPlace, taken}
use Rattle.world_model.specs.declared.answer.Answer.TheVariants as answers
use Rattle.world_model.specs.declared.answer.Fault.TheVariants as faults
use Rattle.world_model.specs.declared.op.Op.TheVariants as ops
use Rattle.core_facts.specs.SlotAnswers.{GoesWith, SyncsOk, HoldOpens, SlotsHoldOpens, PlacesExact, PlacesCaused}
use Rattle.core_facts.proofs.HeldSlots.{HeldIn, held-ended, held-in, always-later}
use Rattle.core_facts.proofs.OpenRefusals.{taken-grow, refused-open}
use Rattle.core_facts.proofs.Slots.{WasTaken}
use Rattle.core_facts.proofs.SlotExact.{refused-slot, refused-mode}
use Rattle.core_facts.proofs.SlotRows.{shows-right, shows-place}
use Rattle.core_facts.proofs.SlotSyncs.{synced-ended}

pub syncs-ok : SyncsOk
syncs-ok m terms setup h v g lane x slot y value ended =
    let s = synced-ended terms.modes m g.nocto setup h v g.reaches lane x slot y value ended in
    record {
      f = s.held.o.file;
      of = record {
        lane = s.held.lane;
        line = s.held.line;
        slot = s.held.slot;
        open_at = s.held.held.x;
        began = s.held.began;
        works_on = s.held.works_on;
        holds = s.held.held.holds;
      };
      committed = s.committed;
    }

module _ (m : Mounted) (terms : Terms) (setup : Setup) (h : List Entry) (v : View) (g : GoesWith m terms setup h v) (lane x slot y : ℕ) (value : Value) where
  held : (op : Op) → slot_of op ≡ slot_of (ops.Sync slot) → Ended h lane x op y (answers.Done value) → HeldIn terms.modes h lane x slot op
  held op on ended = held-in terms.modes h lane ended.line x slot op ended.began on (held-ended terms.modes m g.nocto setup h v g.reaches lane x slot op y value on ended)

  to-read : (offset count : ℕ) → HeldIn terms.modes h lane x slot (ops.Read slot offset count) → HoldsToRead terms h lane x slot
  to-read offset count k = record { f = k.o.file; open_at = k.held.x; holds = k.held.holds; right = ap can_read k.held.mode_is ∙ k.right }

  to-write : (op : Op) → HeldIn terms.modes h lane x slot op → ((k : HeldIn terms.modes h lane x slot op) → can_write k.o.mode ≡ true) → HoldsToWrite terms h lane x slot
  to-write op k right = record { f = k.o.file; open_at = k.held.x; holds = k.held.holds; right = ap can_write k.held.mode_is ∙ right k }

  hold-opens : HoldOpens terms h lane x slot y value
  hold-opens = record {
    close = λ ended. let k = held (ops.Close slot) refl ended in record { f = k.o.file; open_at = k.held.x; holds = k.held.holds };
    read = λ offset count ended. to-read offset count (held (ops.Read slot offset count) refl ended);
    write = λ offset bytes ended. to-write (ops.Write slot offset bytes) (held (ops.Write slot offset bytes) refl ended) (λ k. k.right);
    fill = λ offset count byte ended. to-write (ops.Fill slot offset count byte) (held (ops.Fill slot offset count byte) refl ended) (λ k. k.right);
    truncate = λ size ended. to-write (ops.Truncate slot size) (held (ops.Truncate slot size) refl ended) (λ k. k.right);
  }

pub slots-hold-opens : SlotsHoldOpens
slots-hold-opens m terms setup h v g lane x slot y value = hold-opens m terms setup h v g lane x slot y value

pub places-exact : PlacesExact
places-exact m terms setup h v g lane x y op answer ended tried = record {
  slot = λ none. refused-slot terms m g.nocto setup h v g.reaches lane x y op answer ended tried none;
  mode = λ none. refused-mode terms m g.nocto setup h v g.reaches lane x y op answer ended tried none;
}

-- an open was refused for its slot
open-place : (terms : Terms) (m : Mounted) → m.nocto ≡ terms.modes.nocto → (setup : Setup) (h : List Entry) (v : View) → Reaches (machine_of m) setup h v
    → (lane x y slot : ℕ) (mode : Mode) (path : List (List ℕ)) → Ended h lane x (ops.OpenFile slot mode path) y (answers.Refused faults.Slot)
    → NoPlace terms h lane x (ops.OpenFile slot mode path)
open-place terms m same setup h v r lane x y slot mode path ended =
    let k = refused-open terms.modes m same setup h v r lane x y slot mode path ended in
    let t = subst (λ (g : List Entry). WasTaken terms.modes g x lane slot) (sym k.is)
    (always-later (λ g. WasTaken terms.modes g x lane slot) (λ g e t. taken-grow terms.modes g e x lane slot t) k.before k.after k.taken) in
    taken slot t.held.x mode path t.f refl t.held.holds

all-places : (terms : Terms) (m : Mounted) → m.nocto ≡ terms.modes.nocto → (setup : Setup) (h : List Entry) (v : View) → Reaches (machine_of m) setup h v → (lane x y : ℕ) (op : Op)
    → Ended h lane x op y (answers.Refused faults.Slot) → NoPlace terms h lane x op
all-places terms m same setup h v r lane x y (ops.OpenFile slot mode path) ended = open-place terms m same setup h v r lane x y slot mode path ended
all-places terms m same setup h v r lane x y (ops.Read slot offset count) ended = shows-place terms m same setup h v r lane x y (ops.Read slot offset count) refl ended
all-places terms m same setup h v r lane x y (ops.Write slot offset bytes) ended = shows-place terms m same setup h v r lane x y (ops.Write slot offset bytes) refl ended
all-places terms m same setup h v r lane x y (ops.Fill slot offset count byte) ended = shows-place terms m same setup h v r lane x y (ops.Fill slot offset count byte) refl ended
all-places terms m same setup h v r lane x y (ops.Put path offset bytes) ended = shows-place terms m same setup h v r lane x y (ops.Put path offset bytes) refl ended
all-places terms m same setup h v r lane x y (ops.Sync slot) ended = shows-place terms m same setup h v r lane x y (ops.Sync slot) refl ended
all-places terms m same setup h v r lane x y (ops.Close slot) ended = shows-place terms m same setup h v r lane x y (ops.Close slot) refl ended
all-places terms m same setup h v r lane x y (ops.Truncate slot size) ended = shows-place terms m same setup h v r lane x y (ops.Truncate slot size) refl ended
all-places terms m same setup h v r lane x y (ops.Stat path) ended = shows-place terms m same setup h v r lane x y (ops.Stat path) refl ended
all-places terms m same setup h v r lane x y (ops.Access path bits) ended = shows-place terms m same setup h v r lane x y (ops.Access path bits) refl ended
all-places terms m same setup h v r lane x y (ops.MakeDir path) ended = shows-place terms m same setup h v r lane x y (ops.MakeDir path) refl ended
all-places terms m same setup h v r lane x y (ops.RemoveDir path) ended = shows-place terms m same setup h v r lane x y (ops.RemoveDir path) refl ended
all-places terms m same setup h v r lane x y (ops.Remove path) ended = shows-place terms m same setup h v r lane x y (ops.Remove path) refl ended
all-places terms m same setup h v r lane x y (ops.Rename from to) ended = shows-place terms m same setup h v r lane x y (ops.Rename from to) refl ended
all-places terms m same setup h v r lane x y (ops.Link from to) ended = shows-place terms m same setup h v r lane x y (ops.Link from to) refl ended
all-places terms m same setup h v r lane x y (ops.SymLink path target) ended = shows-place terms m same setup h v r lane x y (ops.SymLink path target) refl ended
all-places terms m same setup h v r lane x y (ops.ReadLink path) ended = shows-place terms m same setup h v r lane x y (ops.ReadLink path) refl ended
all-places terms m same setup h v r lane x y (ops.List path) ended = shows-place terms m same setup h v r lane x y (ops.List path) refl ended

pub places-caused : PlacesCaused
places-caused m terms setup h v g lane x y op = record {
  slot = λ ended. all-places terms m g.nocto setup h v g.reaches lane x y op ended;
  mode = λ ended. shows-right terms m g.nocto setup h v g.reaches lane x y op ended;
}
