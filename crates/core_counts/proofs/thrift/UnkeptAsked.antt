-- Where all operations are of one lane, no READ is sent for a page that is kept then.
use Rattle.core_counts.proofs.Prelude.{◌≡◌, ◌≤◌, inl, inr, ℕ, List, ◌++◌, Option, Some, None, sym, subst, ◌∙◌, arith, page_of, Entry, Began, SpellsCall, Terms, read_call, MeetsPage, OneLane, At-grow, Phase, Reading, place_after, Mounted, Machine, machine_of, Setup, View, of_phase, of_reading, begins-unbegun, PhaseNames, ReadNames, IsSession, Outgoing, session, early-or}
use Rattle.nfs_file_calls.specs.declared.call.FileCall.TheVariants as calls_of
use Rattle.world_model.specs.declared.message.Call.TheVariants as calls
use Rattle.file_ops.specs.declared.reading.Phase.TheVariants as phases
use Rattle.core_session.proofs.calls.Causes.{Spelt}
use Rattle.core_counts.specs.thrift.Unkept.{IsUnkeptThen, UnkeptAsked}
use Rattle.core_counts.proofs.thrift.ReadsLong.{its-read, ranged, names, some-wait, read-parts, none-early}
use Rattle.core_counts.proofs.thrift.Unkept.{Missed, kept-none}
use Rattle.core_counts.proofs.thrift.UnkeptSteps.{UnkeptIn, PhaseUnkept}
use Rattle.core_counts.proofs.thrift.UnkeptTales.{MachineUnkept, reached-unkept}

one-early : (before after : List Entry) → OneLane (before ++ after) → OneLane before
one-early before after one a b lane other line its_line op its_op first second =
    one a b lane other line its_line op its_op (At-grow before after a (Began lane line op) first) (At-grow before after b (Began other its_line its_op) second)

module _ (m : Mounted) (terms : Terms) (setup : Setup) (h : List Entry) (v : View) (s : IsSession m terms setup h v) (i : ℕ) (bytes : List ℕ)
    (w : Outgoing (machine_of m) (begins-unbegun m) setup h i bytes) (xid offset count : ℕ) (f : List ℕ) (spells : SpellsCall xid (read_call f offset count) bytes) (one : OneLane h) where
  abbrev pub NonePages : Type 0
  NonePages = (index : ℕ) → MeetsPage offset count index → page_of f index w.old.shelf.pages ≡ None

  met-as : (place n index : ℕ) → place ≡ offset → n ≡ count → MeetsPage offset count index → MeetsPage place n index
  met-as place n index at same met = subst (λ (p : ℕ). MeetsPage p n index) (sym at) (subst (λ (k : ℕ). MeetsPage offset k index) (sym same) met)

  phase-none : (p : Phase) (r : Reading) → PhaseUnkept p r.file r.base w.old.shelf.pages → PhaseNames p r (Spelt m terms setup h v s i bytes w) → 1 ≤ of_phase p → NonePages
  phase-none (phases.Asked n) r k named some =
      let parts = read-parts f r.file offset count (place_after r.base) n (sym (its-read m terms setup h v s i bytes w xid offset count f spells) ∙ named) in
      λ index met. kept-none (Missed r.file (place_after r.base) n) f index w.old.shelf.pages k.misses
      (λ missed. missed (sym parts.0) (met-as (place_after r.base) n index parts.1 parts.2 met))
  phase-none phases.AskedAttrs r k named some =
      absurd (let no_way : read_call f offset count ≡ calls.File (calls_of.GetAttr r.file) = sym (its-read m terms setup h v s i bytes w xid offset count f spells) ∙ named in cc)
  phase-none phases.Attrs r k named some = absurd (omega (arith, some))
  phase-none phases.Pages r k named some = absurd (omega (arith, some))
  phase-none phases.Rest r k named some = absurd (omega (arith, some))
  phase-none phases.Ended r k named some = absurd (omega (arith, some))

  reading-none : (o : Option Reading) → UnkeptIn o w.old.shelf.pages → ReadNames o (Spelt m terms setup h v s i bytes w) → 1 ≤ of_reading o → NonePages
  reading-none None k named some = absurd (omega (arith, some))
  reading-none (Some r) k named some = phase-none r.phase r k.phase named some

  pub none-at : NonePages
  none-at =
      let runs = ranged m terms setup h v s i bytes w xid offset count f spells in
      let all = reached-unkept m setup w.before w.old w.reached w.found (one-early w.before w.after (subst OneLane w.is one)) in
      reading-none runs.of.reading (subst (λ (q : Machine). MachineUnkept q w.old.shelf.pages) runs.is (all w.at w.waiting.purpose.lane w.machine w.busy))
      (names m terms setup h v s i bytes w xid offset count f spells) (some-wait m terms setup h v s i bytes w xid offset count f spells)

  none-kept : IsUnkeptThen (machine_of m) setup h i f offset count
  none-kept = record { before = w.before; after = w.after; is = w.is; there = w.there; view = w.old; reached = w.reached; none = none-at }

pub unkept-asked : UnkeptAsked
unkept-asked m terms setup before h v g one i xid offset count f bytes at spells = elim (early-or m terms setup before h v g i bytes at) [
  | inl early ↦ absurd (none-early m terms setup before h v g i xid offset count f bytes early spells)
  | inr w ↦ none-kept m terms setup h v (session m terms setup before h v g) i bytes w xid offset count f spells one
]
