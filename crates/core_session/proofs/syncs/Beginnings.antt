-- As an operation begins, what it may do to a byte of a file is known of it.
use Rattle.core_session.proofs.Prelude.{◌≡◌, ◌<◌, ◌≤◌, ◌^◌, ◌+◌, ◌-◌, ℕ, List, [], ◌∷◌, ◌++◌, length, Bool, true, false, Option, Some, None, option_map, Ok, slice_get, replicate, refl, sym, ap, subst, ◌∙◌, append_assoc, arith, nat_lt, slice_index, if◌then◌else◌, le-leb, lt-ltb, ltb-false, slice_get-get_or, slice_get_within, Mode, Opened, covers, low-of, high-of, Entry, Began, Op, At, Modes, InSlot, IsOf, slot_of, Terms, WritesByte, At-one, At-grow, At-below, At-last, Mounted, file_at, machine_of, Fits, Setup, IsIdle, View, Reaches, GoesWith, may, held-begins, always-later, Given, is-given, IsHeld, held-grow, byte_from, byte_by}
use Rattle.std.proofs.lemmas.Option.{get_or_from_slice_get}
use Rattle.claims.specs.Touched.{Covers}
use Rattle.std.specs.FinMap as finite
use Rattle.std.proofs.lemmas.List.{length-replicate}
use Rattle.nfs_types.specs.declared.mode.Mode.TheVariants as modes
use Rattle.world_model.specs.declared.op.Op.TheVariants as ops
use Rattle.claims.specs.Rights.{can_write}
use Rattle.claims.specs.Touched as touched
use Rattle.file_ops.specs.Opens.{in_mode, of_open}
use Rattle.core_session.proofs.drops.OneFile.{slot-file}
use Rattle.core_session.proofs.syncs.AllJobs.{JobBegins}
use Rattle.core_session.proofs.syncs.Causes.{IsWriter, IsSaver, by_write, Adding, Saving_, Cutting}
use Rattle.core_session.proofs.syncs.Jobs.{Job}

-- ---- bytes from an offset on

covers-in : (offset size place : ℕ) → offset ≤ place → place < offset + size → covers offset size place ≡ true
covers-in offset size place low high = rw (le-leb offset place low, lt-ltb place (offset + size) high) refl

pub record IsFrom (offset : ℕ) (bytes : List ℕ) (place byte : ℕ) : Type 0 where
  pub inside : covers offset (length bytes) place ≡ true
  pub has : slice_index bytes (place - offset) ≡ byte

pub from-is : (offset : ℕ) (bytes : List ℕ) (place byte : ℕ) → byte_from offset bytes place ≡ Some byte → IsFrom offset bytes place byte
from-is offset bytes place byte is = by (nat_lt place offset) refl
  where
    by : (b : Bool) → nat_lt place offset ≡ b → IsFrom offset bytes place byte
    by true e = let no_way : None ≡ Some byte = sym (ap (λ (b : Bool). if b then None else slice_get bytes (place - offset)) e) ∙ is in absurd cc
    by false e =
        let there : slice_get bytes (place - offset) ≡ Some byte = sym (ap (λ (b : Bool). if b then None else slice_get bytes (place - offset)) e) ∙ is in
        let low : offset ≤ place = ltb-false place offset e in
        let within = slice_get_within bytes (place - offset) byte there in
        record {
          inside = covers-in offset (length bytes) place low (omega (arith, low, within));
          has = get_or_from_slice_get bytes (place - offset) byte 0 there;
        }

covers-of : (offset : ℕ) (bytes : List ℕ) (place : ℕ) → covers offset (length bytes) place ≡ true → Covers offset bytes place (slice_index bytes (place - offset))
covers-of offset bytes place c =
    let low = low-of offset (offset + length bytes) place c in
    let high = high-of offset (offset + length bytes) place c in
    record { k = place - offset; place = omega (arith, low); byte = slice_get-get_or bytes (place - offset) 0 (omega (arith, low, high)) }

-- ---- the file of a slot

of-step : (m : Modes) (x : ℕ) (op : Op) (f : List ℕ) (h : List Entry) (e : Entry) → IsOf m h x op f → IsOf m (h ++ e ∷ []) x op f
of-step m x op f h e i =
    let low = At-below h x (Began i.lane i.line op) i.began in
    let held : IsHeld m (h ++ e ∷ []) x i.lane i.slot f i.holds.opens.mode =
    held-grow m h e i.lane i.slot f i.holds.opens.mode x (omega (arith, low)) (record { x = i.open_at; holds = i.holds; mode_is = refl }) in
    record {
      lane = i.lane;
      line = i.line;
      slot = i.slot;
      open_at = held.x;
      began = At-grow h (e ∷ []) x (Began i.lane i.line op) i.began;
      works_on = i.works_on;
      holds = held.holds;
    }

-- an open for it, if it finds its file
record FindsOpen (opened : Option Opened) (op : Op) (file : List ℕ) : Type 0 where
  o : Opened
  there : opened ≡ Some o
  right : may op o.mode ≡ true
  file_is : o.file ≡ file

writable : (mode : Mode) (of file : List ℕ) → in_mode mode of ≡ Ok file → (can_write mode ≡ true) × (of ≡ file)
writable modes.R of file is = absurd (cc)
writable modes.W of file is = (refl, cc)
writable modes.RW of file is = (refl, cc)
writable modes.C of file is = (refl, cc)
writable modes.X of file is = (refl, cc)

finds-to-write : (op : Op) (opened : Option Opened) (file : List ℕ) → ((mode : Mode) → may op mode ≡ can_write mode) → of_open opened ≡ Ok file → FindsOpen opened op file
finds-to-write op None file same is = absurd (cc)
finds-to-write op (Some o) file same is =
    let k = writable o.mode o.file file is in
    record { o = o; there = refl; right = same o.mode ∙ k.0; file_is = k.1 }

finds-file : (op : Op) (opened : Option Opened) (file : List ℕ) → ((mode : Mode) → may op mode ≡ true) → option_map (λ (o : Opened). o.file) opened ≡ Some file → FindsOpen opened op file
finds-file op None file same is = absurd (let no_way : None ≡ Some file = is in cc)
finds-file op (Some o) file same is = record { o = o; there = refl; right = same o.mode; file_is = (let k : Some o.file ≡ Some file = is in cc) }

began-is : (a b c d : ℕ) (o p : Op) → Began a b o ≡ Began c d p → (a ≡ c) × (o ≡ p) × (b ≡ d)
began-is a b c d o p e = (cc, cc, cc)

some-slot : (a b : ℕ) → Some a ≡ Some b → a ≡ b
some-slot a b e = cc

module _ (m : Mounted) (terms : Terms) (setup : Setup) (H : List Entry) (V : View) (g : GoesWith m terms setup H V) (w : ℕ) (f : List ℕ) (i byte : ℕ) (laneW lineW : ℕ) (opW : Op)
    (beganW : At H w (Began laneW lineW opW)) (of : IsWriter opW → IsOf terms.modes H w opW f) (has : byte_by opW i ≡ Some byte) where
  -- two files of one operation are one
  one-file : (op : Op) (a b : List ℕ) → IsOf terms.modes H w op a → IsOf terms.modes H w op b → a ≡ b
  one-file op a b k l =
      let same = began-is l.lane l.line k.lane k.line op op (At-one H w (Began l.lane l.line op) (Began k.lane k.line op) l.began k.began) in
      let slot : l.slot ≡ k.slot = some-slot l.slot k.slot (sym l.works_on ∙ k.works_on) in
      slot-file m terms setup H V g w k.lane k.slot k.open_at l.open_at a b k.holds
      (subst (λ (n : ℕ). InSlot terms.modes H w n k.slot l.open_at b) same.0 (subst (λ (n : ℕ). InSlot terms.modes H w l.lane n l.open_at b) slot l.holds))

  module _ (h rest : List Entry) (old : View) (lane line : ℕ) (op : Op) (is : h ++ Began lane line op ∷ rest ≡ H) (r : Reaches (machine_of m) setup h old) (found : old.lost ≡ false)
      (idle : IsIdle lane old.lanes) where
    split : (h ++ Began lane line op ∷ []) ++ rest ≡ H
    split = append_assoc h (Began lane line op ∷ []) rest ∙ is

    began : At H (length h) (Began lane line op)
    began = subst (λ (k : List Entry). At k (length h) (Began lane line op)) split (At-grow (h ++ Began lane line op ∷ []) rest (length h) (Began lane line op) (At-last h (Began lane line op)))

    -- what is said of the operation that began there
    is-op : (P : Op → Type 0) → P op → (n k : ℕ) (other : Op) → At H (length h) (Began n k other) → P other
    is-op P p n k other at = subst P (sym (began-is n k lane line other op (At-one H (length h) (Began n k other) (Began lane line op) at began)).1) p

    -- and of the write
    is-write : (P : Op → Type 0) → P opW → length h ≡ w → P op
    is-write P p here =
        let at : At H w (Began lane line op) = subst (λ (n : ℕ). At H n (Began lane line op)) here began in
        subst P (sym (began-is lane line laneW lineW op opW (At-one H w (Began lane line op) (Began laneW lineW opW) at beganW)).1) p

    -- it is of the file that its slot holds
    of-slot : (slot : ℕ) (file : List ℕ) → slot_of op ≡ Some slot → FindsOpen (finite.get old.shelf.opens (lane, slot)) op file → IsOf terms.modes H (length h) op file
    of-slot slot file works_on o =
        let given : Given terms.modes h lane old.shelf = is-given terms.modes m g.nocto setup h old r found lane idle.other in
        let k = held-begins terms.modes h lane line slot op o.o old.shelf given works_on o.there o.right in
        let here : IsOf terms.modes (h ++ Began lane line op ∷ []) (length h) op file =
        subst (IsOf terms.modes (h ++ Began lane line op ∷ []) (length h) op) o.file_is
        (record { lane = lane; line = line; slot = slot; open_at = k.held.x; began = k.began; works_on = works_on; holds = k.held.holds }) in
        subst (λ (z : List Entry). IsOf terms.modes z (length h) op file) split
        (always-later (λ (z : List Entry). IsOf terms.modes z (length h) op file) (of-step terms.modes (length h) op file) (h ++ Began lane line op ∷ []) rest here)

    own-file : (file : List ℕ) → IsOf terms.modes H (length h) op file → length h ≡ w → IsWriter op → file ≡ f
    own-file file k here writer =
        one-file op file f (subst (λ (n : ℕ). IsOf terms.modes H n op file) here k) (is-write (λ (o : Op). IsWriter o → IsOf terms.modes H w o f) of here writer)

    abbrev Adds : List ℕ → ℕ → List ℕ → Type 0
    Adds file offset bytes = Adding terms.modes terms.origin H w f i byte (length h) file offset bytes

    -- a write or a fill
    write-adds : (file : List ℕ) (offset : ℕ) (bytes : List ℕ) → offset + length bytes ≤ 2 ^ 63 - 1 → IsWriter op → ((other : Op) → IsWriter other → IsSaver other → ⊥) → IsOf terms.modes H (length h) op file
        → ((place : ℕ) → byte_by op place ≡ byte_from offset bytes place) → (covers offset (length bytes) i ≡ true → (v : ℕ) × WritesByte terms.modes terms.origin H (length h) file i v)
        → Adds file offset bytes
    write-adds file offset bytes fits writer not at gives comes = record {
      fits = fits;
      no_saver = λ n k other there saver. not other (is-op IsWriter writer n k other there) saver;
      over = λ other same c.
          let k = comes c in
          by_write k.0 (subst (λ (z : List ℕ). WritesByte terms.modes terms.origin H (length h) z i k.0) same k.1) (λ n l o there. is-op IsWriter writer n l o there);
      own = λ here same.
          let from = from-is offset bytes i byte (sym (gives i) ∙ is-write (λ (o : Op). byte_by o i ≡ Some byte) has here) in
          (from.inside, from.has);
      its = λ here writes. own-file file at here writer;
    }

  not-both : (op : Op) → IsWriter op → IsSaver op → ⊥
  not-both (ops.Write slot offset bytes) a b = b
  not-both (ops.Fill slot offset count v) a b = b
  not-both (ops.Sync slot) a b = a
  not-both (ops.Close slot) a b = a
  not-both (ops.OpenFile slot mode path) a b = a
  not-both (ops.Read slot offset count) a b = a
  not-both (ops.Truncate slot size) a b = a
  not-both (ops.Put path offset bytes) a b = a
  not-both (ops.Stat path) a b = a
  not-both (ops.Access path bits) a b = a
  not-both (ops.MakeDir path) a b = a
  not-both (ops.RemoveDir path) a b = a
  not-both (ops.Remove path) a b = a
  not-both (ops.Rename from to) a b = a
  not-both (ops.Link from to) a b = a
  not-both (ops.SymLink path target) a b = a
  not-both (ops.ReadLink path) a b = a
  not-both (ops.List path) a b = a

  -- As an operation begins, its bytes come in so, it saves its file, and it cuts it.
  pub begins : (h rest : List Entry) (old : View) (lane line : ℕ) (op : Op) → h ++ Began lane line op ∷ rest ≡ H → Reaches (machine_of m) setup h old → old.lost ≡ false → IsIdle lane old.lanes
      → Fits (machine_of m lane op) → (j : Job) → ((file : List ℕ) (offset : ℕ) (bytes : List ℕ) → Adding terms.modes terms.origin H w f i byte (length h) file offset bytes → j.A file offset bytes)
      → ((file : List ℕ) → Saving_ terms.modes H (length h) file → j.B file)
      → ((file : List ℕ) (size upto : ℕ) → Cutting terms.modes H f i (length h) file size upto → j.C file size upto) → JobBegins j (machine_of m lane op) old.shelf.opens
  begins h rest old lane line (ops.Write slot offset bytes) is r found idle fits j a b c = λ file there.
      let at = of-slot h rest old lane line (ops.Write slot offset bytes) is r found idle slot file refl
      (finds-to-write (ops.Write slot offset bytes) (finite.get old.shelf.opens (lane, slot)) file (λ mode. refl) there) in
      a file offset bytes (write-adds h rest old lane line (ops.Write slot offset bytes) is r found idle file offset bytes fits tt not-both at (λ place. refl)
      (λ inside. (slice_index bytes (i - offset), touched.write slot offset bytes at (covers-of offset bytes i inside))))
  begins h rest old lane line (ops.Fill slot offset count v) is r found idle fits j a b c = λ file there.
      let at = of-slot h rest old lane line (ops.Fill slot offset count v) is r found idle slot file refl
      (finds-to-write (ops.Fill slot offset count v) (finite.get old.shelf.opens (lane, slot)) file (λ mode. refl) there) in
      a file offset (replicate count v) (write-adds h rest old lane line (ops.Fill slot offset count v) is r found idle file offset (replicate count v) fits tt not-both at (λ place. refl)
      (λ inside.
      let low = low-of offset (offset + length (replicate count v)) i inside in
      let high = high-of offset (offset + length (replicate count v)) i inside in
      let long = length-replicate count v in
      (v, touched.fill slot offset count at low (omega (arith, high, long)))))
  begins h rest old lane line (ops.Put path offset bytes) is r found idle fits j a b c = tt
  begins h rest old lane line (ops.Sync slot) is r found idle fits j a b c = λ file there.
      b file (λ n k other at saver. is-op h rest old lane line (ops.Sync slot) is r found idle (λ (o : Op). IsOf terms.modes H (length h) o file)
      (of-slot h rest old lane line (ops.Sync slot) is r found idle slot file refl (finds-file (ops.Sync slot) (finite.get old.shelf.opens (lane, slot)) file (λ mode. refl) there)) n k other at)
  begins h rest old lane line (ops.Close slot) is r found idle fits j a b c = λ file there.
      b file (λ n k other at saver. is-op h rest old lane line (ops.Close slot) is r found idle (λ (o : Op). IsOf terms.modes H (length h) o file)
      (of-slot h rest old lane line (ops.Close slot) is r found idle slot file refl (finds-file (ops.Close slot) (finite.get old.shelf.opens (lane, slot)) file (λ mode. refl) there)) n k other at)
  begins h rest old lane line (ops.Truncate slot size) is r found idle fits j a b c = λ file upto there.
      let at = of-slot h rest old lane line (ops.Truncate slot size) is r found idle slot file refl
      (finds-to-write (ops.Truncate slot size) (finite.get old.shelf.opens (lane, slot)) file (λ mode. refl) there) in
      c file size upto (λ same low. record { slot = slot; size = size; of = subst (IsOf terms.modes H (length h) (ops.Truncate slot size)) same at; low = low })
  begins h rest old lane line (ops.OpenFile slot mode path) is r found idle fits j a b c = tt
  begins h rest old lane line (ops.Read slot offset count) is r found idle fits j a b c = tt
  begins h rest old lane line (ops.Stat path) is r found idle fits j a b c = tt
  begins h rest old lane line (ops.Access path bits) is r found idle fits j a b c = tt
  begins h rest old lane line (ops.MakeDir path) is r found idle fits j a b c = tt
  begins h rest old lane line (ops.RemoveDir path) is r found idle fits j a b c = tt
  begins h rest old lane line (ops.Remove path) is r found idle fits j a b c = tt
  begins h rest old lane line (ops.Rename from to) is r found idle fits j a b c = tt
  begins h rest old lane line (ops.Link from to) is r found idle fits j a b c = tt
  begins h rest old lane line (ops.SymLink path target) is r found idle fits j a b c = tt
  begins h rest old lane line (ops.ReadLink path) is r found idle fits j a b c = tt
  begins h rest old lane line (ops.List path) is r found idle fits j a b c = tt

  -- a close is of the file that its slot holds as it begins
  pub close-of : (h rest : List Entry) (old : View) (lane line slot : ℕ) (file : List ℕ) → h ++ Began lane line (ops.Close slot) ∷ rest ≡ H → Reaches (machine_of m) setup h old → old.lost ≡ false → IsIdle lane old.lanes
      → file_at lane slot old.shelf.opens ≡ Some file → IsOf terms.modes H (length h) (ops.Close slot) file
  close-of h rest old lane line slot file is r found idle there =
      of-slot h rest old lane line (ops.Close slot) is r found idle slot file refl (finds-file (ops.Close slot) (finite.get old.shelf.opens (lane, slot)) file (λ mode. refl) there)
