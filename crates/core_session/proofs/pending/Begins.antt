-- What an operation may give to a place of a file, as it begins, or as a put's opening ends.
use Rattle.core_session.proofs.Prelude.{◌≡◌, ◌<◌, ◌≤◌, ◌^◌, ◌+◌, ◌-◌, ℕ, List, [], ◌∷◌, ◌++◌, length, true, false, Option, Some, None, option_map, Ok, replicate, refl, sym, subst, ◌∙◌, append_assoc, arith, slice_index, le-leb, lt-ltb, slice_get-get_or, slice_get_within, Mode, Opened, covers, low-of, high-of, Entry, Began, Delivered, Op, At, Modes, InSlot, IsOf, slot_of, Terms, Origin, UnderWay, WritesByte, At-one, At-grow, At-below, At-last, Mounted, machine_of, Fits, Setup, IsIdle, View, Reaches, GoesWith, may, held-begins, always-later, Given, is-given, IsHeld, held-grow, KnowsRoot, LeadsTo}
use Rattle.claims.specs.Touched.{Covers}
use Rattle.std.specs.FinMap as finite
use Rattle.std.proofs.lemmas.List.{length-replicate, get_or-replicate}
use Rattle.nfs_types.specs.declared.mode.Mode.TheVariants as modes
use Rattle.world_model.specs.declared.op.Op.TheVariants as ops
use Rattle.claims.specs.Rights.{can_write}
use Rattle.claims.specs.Touched as touched
use Rattle.file_ops.specs.Opens.{in_mode, of_open}
use Rattle.core_session.proofs.drops.OneFile.{slot-file}
use Rattle.core_session.proofs.syncs.AllJobs.{JobBegins}
use Rattle.core_session.proofs.syncs.Causes.{IsWriter, IsSaver, OfOp, Saving_}
use Rattle.core_session.proofs.syncs.Fates.{job_kind}
use Rattle.core_session.proofs.syncs.PutAdding.{began-fits}
use Rattle.core_session.proofs.syncs.PutsBring.{put-byte}
use Rattle.core_session.proofs.syncs.Jobs.{Job}

-- ---- bytes from an offset on

covers-in : (offset size place : ℕ) → offset ≤ place → place < offset + size → covers offset size place ≡ true
covers-in offset size place low high = rw (le-leb offset place low, lt-ltb place (offset + size) high) refl

covers-back : (offset : ℕ) (bytes : List ℕ) (place v : ℕ) → Covers offset bytes place v → covers offset (length bytes) place ≡ true
covers-back offset bytes place v c =
    let at = c.place in
    let within = slice_get_within bytes c.k v c.byte in
    covers-in offset (length bytes) place (omega (arith, at)) (omega (arith, at, within))

covers-of : (offset : ℕ) (bytes : List ℕ) (place : ℕ) → covers offset (length bytes) place ≡ true → Covers offset bytes place (slice_index bytes (place - offset))
covers-of offset bytes place c =
    let low = low-of offset (offset + length bytes) place c in
    let high = high-of offset (offset + length bytes) place c in
    record { k = place - offset; place = omega (arith, low); byte = slice_get-get_or bytes (place - offset) 0 (omega (arith, low, high)) }

-- ---- the file of a slot

pub of-step : (m : Modes) (x : ℕ) (op : Op) (f : List ℕ) (h : List Entry) (e : Entry) → IsOf m h x op f → IsOf m (h ++ e ∷ []) x op f
of-step m x op f h e i =
    let low = At-below h x (Began i.lane i.line op) i.began in
    let held : IsHeld m (h ++ e ∷ []) x i.lane i.slot f i.holds.opens.mode =
    held-grow m h e i.lane i.slot f i.holds.opens.mode x (omega (arith, low)) (record { x = i.open_at; holds = i.holds; mode_is = refl }) in
    record {
      lane = i.lane;
      line = i.line;
      slot = i.slot;
      open_at = held.x;
      began = At-grow h (e ∷ []) x (Began i.lane i.line op) i.began;
      works_on = i.works_on;
      holds = held.holds;
    }

-- an open for it, if it finds its file
record FindsOpen (opened : Option Opened) (op : Op) (file : List ℕ) : Type 0 where
  o : Opened
  there : opened ≡ Some o
  right : may op o.mode ≡ true
  file_is : o.file ≡ file

writable : (mode : Mode) (of file : List ℕ) → in_mode mode of ≡ Ok file → (can_write mode ≡ true) × (of ≡ file)
writable modes.R of file is = absurd (cc)
writable modes.W of file is = (refl, cc)
writable modes.RW of file is = (refl, cc)
writable modes.C of file is = (refl, cc)
writable modes.X of file is = (refl, cc)

finds-to-write : (op : Op) (opened : Option Opened) (file : List ℕ) → ((mode : Mode) → may op mode ≡ can_write mode) → of_open opened ≡ Ok file → FindsOpen opened op file
finds-to-write op None file same is = absurd (cc)
finds-to-write op (Some o) file same is =
    let k = writable o.mode o.file file is in
    record { o = o; there = refl; right = same o.mode ∙ k.0; file_is = k.1 }

finds-file : (op : Op) (opened : Option Opened) (file : List ℕ) → ((mode : Mode) → may op mode ≡ true) → option_map (λ (o : Opened). o.file) opened ≡ Some file → FindsOpen opened op file
finds-file op None file same is = absurd (let no_way : None ≡ Some file = is in cc)
finds-file op (Some o) file same is = record { o = o; there = refl; right = same o.mode; file_is = (let k : Some o.file ≡ Some file = is in cc) }

began-is : (a b c d : ℕ) (o p : Op) → Began a b o ≡ Began c d p → (a ≡ c) × (o ≡ p) × (b ≡ d)
began-is a b c d o p e = (cc, cc, cc)

some-slot : (a b : ℕ) → Some a ≡ Some b → a ≡ b
some-slot a b e = cc

-- Bytes of the operation at the place x come in so: each has its place of the file, and of a write or a fill they are all.
pub record Giving (m : Modes) (origin : Origin) (h : List Entry) (f : List ℕ) (i x : ℕ) (file : List ℕ) (offset : ℕ) (bytes : List ℕ) : Type 0 where
  pub fits : offset + length bytes ≤ 2 ^ 63 - 1
  pub no_saver : (lane line : ℕ) (op : Op) → At h x (Began lane line op) → IsSaver op → ⊥
  pub gives : file ≡ f → covers offset (length bytes) i ≡ true → WritesByte m origin h x f i (slice_index bytes (i - offset))
  pub all : OfOp h x IsWriter → (v : ℕ) → WritesByte m origin h x f i v → (file ≡ f) × (covers offset (length bytes) i ≡ true)

not-both : (op : Op) → IsWriter op → IsSaver op → ⊥
not-both (ops.Write slot offset bytes) a b = b
not-both (ops.Fill slot offset count v) a b = b
not-both (ops.Sync slot) a b = a
not-both (ops.Close slot) a b = a
not-both (ops.OpenFile slot mode path) a b = a
not-both (ops.Read slot offset count) a b = a
not-both (ops.Truncate slot size) a b = a
not-both (ops.Put path offset bytes) a b = a
not-both (ops.Stat path) a b = a
not-both (ops.Access path bits) a b = a
not-both (ops.MakeDir path) a b = a
not-both (ops.RemoveDir path) a b = a
not-both (ops.Remove path) a b = a
not-both (ops.Rename from to) a b = a
not-both (ops.Link from to) a b = a
not-both (ops.SymLink path target) a b = a
not-both (ops.ReadLink path) a b = a
not-both (ops.List path) a b = a

write-is : (a b c d : ℕ) (x y : List ℕ) → ops.Write a b x ≡ ops.Write c d y → (b ≡ d) × (x ≡ y)
write-is a b c d x y e = (cc, cc)

fill-is : (a b c d k l m n : ℕ) → ops.Fill a b c d ≡ ops.Fill k l m n → (b ≡ l) × (c ≡ m) × (d ≡ n)
fill-is a b c d k l m n e = (cc, cc, cc)

module _ (m : Mounted) (terms : Terms) (setup : Setup) (H : List Entry) (V : View) (g : GoesWith m terms setup H V) where
  -- two files of one operation are one
  pub one-file : (x : ℕ) (op : Op) (a b : List ℕ) → IsOf terms.modes H x op a → IsOf terms.modes H x op b → a ≡ b
  one-file x op a b k l =
      let same = began-is l.lane l.line k.lane k.line op op (At-one H x (Began l.lane l.line op) (Began k.lane k.line op) l.began k.began) in
      let slot : l.slot ≡ k.slot = some-slot l.slot k.slot (sym l.works_on ∙ k.works_on) in
      slot-file m terms setup H V g x k.lane k.slot k.open_at l.open_at a b k.holds
      (subst (λ (n : ℕ). InSlot terms.modes H x n k.slot l.open_at b) same.0 (subst (λ (n : ℕ). InSlot terms.modes H x l.lane n l.open_at b) slot l.holds))

  module _ (f : List ℕ) (i : ℕ) where
    module _ (h rest : List Entry) (old : View) (lane line : ℕ) (op : Op) (is : h ++ Began lane line op ∷ rest ≡ H) (r : Reaches (machine_of m) setup h old) (found : old.lost ≡ false)
        (idle : IsIdle lane old.lanes) where
      split : (h ++ Began lane line op ∷ []) ++ rest ≡ H
      split = append_assoc h (Began lane line op ∷ []) rest ∙ is

      began : At H (length h) (Began lane line op)
      began = subst (λ (k : List Entry). At k (length h) (Began lane line op)) split (At-grow (h ++ Began lane line op ∷ []) rest (length h) (Began lane line op) (At-last h (Began lane line op)))

      -- what is said of the operation that began there
      is-op : (P : Op → Type 0) → P op → (n k : ℕ) (other : Op) → At H (length h) (Began n k other) → P other
      is-op P p n k other at = subst P (sym (began-is n k lane line other op (At-one H (length h) (Began n k other) (Began lane line op) at began)).1) p

      op-is : (n k : ℕ) (other : Op) → At H (length h) (Began n k other) → other ≡ op
      op-is n k other at = (began-is n k lane line other op (At-one H (length h) (Began n k other) (Began lane line op) at began)).1

      -- it is of the file that its slot holds
      of-slot : (slot : ℕ) (file : List ℕ) → slot_of op ≡ Some slot → FindsOpen (finite.get old.shelf.opens (lane, slot)) op file → IsOf terms.modes H (length h) op file
      of-slot slot file works_on o =
          let given : Given terms.modes h lane old.shelf = is-given terms.modes m g.nocto setup h old r found lane idle.other in
          let k = held-begins terms.modes h lane line slot op o.o old.shelf given works_on o.there o.right in
          let here : IsOf terms.modes (h ++ Began lane line op ∷ []) (length h) op file =
          subst (IsOf terms.modes (h ++ Began lane line op ∷ []) (length h) op) o.file_is
          (record { lane = lane; line = line; slot = slot; open_at = k.held.x; began = k.began; works_on = works_on; holds = k.held.holds }) in
          subst (λ (z : List Entry). IsOf terms.modes z (length h) op file) split
          (always-later (λ (z : List Entry). IsOf terms.modes z (length h) op file) (of-step terms.modes (length h) op file) (h ++ Began lane line op ∷ []) rest here)

      abbrev Gives : List ℕ → ℕ → List ℕ → Type 0
      Gives file offset bytes = Giving terms.modes terms.origin H f i (length h) file offset bytes

      other-op : (other : Op) → (IsWriter op → IsWriter other → ⊥) → IsWriter op → (n k : ℕ) → At H (length h) (Began n k other) → IsWriter other → ⊥
      other-op other none writer n k at w = none writer w

      same-file : (other : Op) (file : List ℕ) → IsOf terms.modes H (length h) op file → IsOf terms.modes H (length h) other f → file ≡ f
      same-file other file at of =
          one-file (length h) op file f at (subst (λ (o : Op). IsOf terms.modes H (length h) o f) (op-is of.lane of.line other of.began) of)

    -- ---- a write

    write-gives : (h rest : List Entry) (old : View) (lane line slot offset : ℕ) (bytes : List ℕ) (is : h ++ Began lane line (ops.Write slot offset bytes) ∷ rest ≡ H) (r : Reaches (machine_of m) setup h old)
        (found : old.lost ≡ false) (idle : IsIdle lane old.lanes) (file : List ℕ) → offset + length bytes ≤ 2 ^ 63 - 1 → IsOf terms.modes H (length h) (ops.Write slot offset bytes) file
        → Giving terms.modes terms.origin H f i (length h) file offset bytes
    write-gives h rest old lane line slot offset bytes is r found idle file fits at = record {
      fits = fits;
      no_saver = λ n k other there saver. not-both other (is-op h rest old lane line (ops.Write slot offset bytes) is r found idle IsWriter tt n k other there) saver;
      gives = λ same inside. subst (λ (z : List ℕ). WritesByte terms.modes terms.origin H (length h) z i (slice_index bytes (i - offset))) same (touched.write slot offset bytes at (covers-of offset bytes i inside));
      all = λ writer v by. whole v by;
    }
      where
        its : (n k : ℕ) (other : Op) → At H (length h) (Began n k other) → other ≡ ops.Write slot offset bytes
        its = op-is h rest old lane line (ops.Write slot offset bytes) is r found idle

        whole : (v : ℕ) → WritesByte terms.modes terms.origin H (length h) f i v → (file ≡ f) × (covers offset (length bytes) i ≡ true)
        whole v (touched.write s o text of c) =
            let same = write-is s o slot offset text bytes (its of.lane of.line (ops.Write s o text) of.began) in (
              same-file h rest old lane line (ops.Write slot offset bytes) is r found idle (ops.Write s o text) file at of,
              covers-back offset bytes i v (subst (λ (n : ℕ). Covers n bytes i v) same.0 (subst (λ (b : List ℕ). Covers o b i v) same.1 c)),
            )
        whole v (touched.fill s o count of low high) = absurd (let no_way : ops.Fill s o count v ≡ ops.Write slot offset bytes = its of.lane of.line (ops.Fill s o count v) of.began in cc)
        whole v (touched.put l n o e path text put ends leads c) = absurd (let no_way : ops.Put path o text ≡ ops.Write slot offset bytes = its l n (ops.Put path o text) put in cc)

    fill-gives : (h rest : List Entry) (old : View) (lane line slot offset count byte : ℕ) (is : h ++ Began lane line (ops.Fill slot offset count byte) ∷ rest ≡ H) (r : Reaches (machine_of m) setup h old)
        (found : old.lost ≡ false) (idle : IsIdle lane old.lanes) (file : List ℕ) → offset + length (replicate count byte) ≤ 2 ^ 63 - 1 → IsOf terms.modes H (length h) (ops.Fill slot offset count byte) file
        → Giving terms.modes terms.origin H f i (length h) file offset (replicate count byte)
    fill-gives h rest old lane line slot offset count byte is r found idle file fits at = record {
      fits = fits;
      no_saver = λ n k other there saver. not-both other (is-op h rest old lane line (ops.Fill slot offset count byte) is r found idle IsWriter tt n k other there) saver;
      gives = λ same inside.
          subst (λ (z : List ℕ). WritesByte terms.modes terms.origin H (length h) z i (slice_index (replicate count byte) (i - offset))) same
          (let low = low-of offset (offset + length (replicate count byte)) i inside in
          let high = high-of offset (offset + length (replicate count byte)) i inside in
          let long = length-replicate count byte in
          subst (WritesByte terms.modes terms.origin H (length h) file i) (sym (filled count byte (i - offset) (omega (arith, low, high, long))))
          (touched.fill slot offset count at low (omega (arith, high, long))));
      all = λ writer v by. whole v by;
    }
      where
        filled : (count byte n : ℕ) → n < count → slice_index (replicate count byte) n ≡ byte
        filled count byte n lt = get_or-replicate count n byte 0 lt

        its : (n k : ℕ) (other : Op) → At H (length h) (Began n k other) → other ≡ ops.Fill slot offset count byte
        its = op-is h rest old lane line (ops.Fill slot offset count byte) is r found idle

        whole : (v : ℕ) → WritesByte terms.modes terms.origin H (length h) f i v → (file ≡ f) × (covers offset (length (replicate count byte)) i ≡ true)
        whole v (touched.write s o text of c) = absurd (let no_way : ops.Write s o text ≡ ops.Fill slot offset count byte = its of.lane of.line (ops.Write s o text) of.began in cc)
        whole v (touched.fill s o n of low high) =
            let same = fill-is s o n v slot offset count byte (its of.lane of.line (ops.Fill s o n v) of.began) in
            let from = same.0 in
            let size = same.1 in
            let long = length-replicate count byte in (
              same-file h rest old lane line (ops.Fill slot offset count byte) is r found idle (ops.Fill s o n v) file at of,
              covers-in offset (length (replicate count byte)) i (omega (arith, low, from)) (omega (arith, high, from, size, long)),
            )
        whole v (touched.put l n o e path text put ends leads c) = absurd (let no_way : ops.Put path o text ≡ ops.Fill slot offset count byte = its l n (ops.Put path o text) put in cc)

    -- ---- any operation

    -- As it begins, its bytes come in so, and it saves its file; a put does neither yet.
    pub begins-unput : (h rest : List Entry) (old : View) (lane line : ℕ) (op : Op) → h ++ Began lane line op ∷ rest ≡ H → Reaches (machine_of m) setup h old → old.lost ≡ false → IsIdle lane old.lanes
        → Fits (machine_of m lane op) → (j : Job) → ((file : List ℕ) (offset : ℕ) (bytes : List ℕ) → (job_kind (machine_of m lane op) ≡ 3 → ⊥) → Giving terms.modes terms.origin H f i (length h) file offset bytes → j.A file offset bytes)
        → ((file : List ℕ) → (job_kind (machine_of m lane op) ≡ 3 → ⊥) → Saving_ terms.modes H (length h) file → j.B file)
        → ((file : List ℕ) (size upto slot : ℕ) → IsOf terms.modes H (length h) (ops.Truncate slot size) file → j.C file size upto) → JobBegins j (machine_of m lane op) old.shelf.opens
    begins-unput h rest old lane line (ops.Write slot offset bytes) is r found idle fits j a b c = λ file there.
        a file offset bytes (λ is. omega (arith, is))
        (write-gives h rest old lane line slot offset bytes is r found idle file fits
        (of-slot h rest old lane line (ops.Write slot offset bytes) is r found idle slot file refl
        (finds-to-write (ops.Write slot offset bytes) (finite.get old.shelf.opens (lane, slot)) file (λ mode. refl) there)))
    begins-unput h rest old lane line (ops.Fill slot offset count v) is r found idle fits j a b c = λ file there.
        a file offset (replicate count v) (λ is. omega (arith, is))
        (fill-gives h rest old lane line slot offset count v is r found idle file fits
        (of-slot h rest old lane line (ops.Fill slot offset count v) is r found idle slot file refl
        (finds-to-write (ops.Fill slot offset count v) (finite.get old.shelf.opens (lane, slot)) file (λ mode. refl) there)))
    begins-unput h rest old lane line (ops.Put path offset bytes) is r found idle fits j a b c = tt
    begins-unput h rest old lane line (ops.Sync slot) is r found idle fits j a b c = λ file there.
        b file (λ is. omega (arith, is)) (λ n k other at saver. is-op h rest old lane line (ops.Sync slot) is r found idle (λ (o : Op). IsOf terms.modes H (length h) o file)
        (of-slot h rest old lane line (ops.Sync slot) is r found idle slot file refl (finds-file (ops.Sync slot) (finite.get old.shelf.opens (lane, slot)) file (λ mode. refl) there)) n k other at)
    begins-unput h rest old lane line (ops.Close slot) is r found idle fits j a b c = λ file there.
        b file (λ is. omega (arith, is)) (λ n k other at saver. is-op h rest old lane line (ops.Close slot) is r found idle (λ (o : Op). IsOf terms.modes H (length h) o file)
        (of-slot h rest old lane line (ops.Close slot) is r found idle slot file refl (finds-file (ops.Close slot) (finite.get old.shelf.opens (lane, slot)) file (λ mode. refl) there)) n k other at)
    begins-unput h rest old lane line (ops.Truncate slot size) is r found idle fits j a b c = λ file upto there.
        c file size upto slot
        (of-slot h rest old lane line (ops.Truncate slot size) is r found idle slot file refl
        (finds-to-write (ops.Truncate slot size) (finite.get old.shelf.opens (lane, slot)) file (λ mode. refl) there))
    begins-unput h rest old lane line (ops.OpenFile slot mode path) is r found idle fits j a b c = tt
    begins-unput h rest old lane line (ops.Read slot offset count) is r found idle fits j a b c = tt
    begins-unput h rest old lane line (ops.Stat path) is r found idle fits j a b c = tt
    begins-unput h rest old lane line (ops.Access path bits) is r found idle fits j a b c = tt
    begins-unput h rest old lane line (ops.MakeDir path) is r found idle fits j a b c = tt
    begins-unput h rest old lane line (ops.RemoveDir path) is r found idle fits j a b c = tt
    begins-unput h rest old lane line (ops.Remove path) is r found idle fits j a b c = tt
    begins-unput h rest old lane line (ops.Rename from to) is r found idle fits j a b c = tt
    begins-unput h rest old lane line (ops.Link from to) is r found idle fits j a b c = tt
    begins-unput h rest old lane line (ops.SymLink path target) is r found idle fits j a b c = tt
    begins-unput h rest old lane line (ops.ReadLink path) is r found idle fits j a b c = tt
    begins-unput h rest old lane line (ops.List path) is r found idle fits j a b c = tt

    pub begins : (h rest : List Entry) (old : View) (lane line : ℕ) (op : Op) → h ++ Began lane line op ∷ rest ≡ H → Reaches (machine_of m) setup h old → old.lost ≡ false → IsIdle lane old.lanes
        → Fits (machine_of m lane op) → (j : Job) → ((file : List ℕ) (offset : ℕ) (bytes : List ℕ) → Giving terms.modes terms.origin H f i (length h) file offset bytes → j.A file offset bytes)
        → ((file : List ℕ) → Saving_ terms.modes H (length h) file → j.B file)
        → ((file : List ℕ) (size upto slot : ℕ) → IsOf terms.modes H (length h) (ops.Truncate slot size) file → j.C file size upto) → JobBegins j (machine_of m lane op) old.shelf.opens
    begins h rest old lane line op is r found idle fits j a b c =
        begins-unput h rest old lane line op is r found idle fits j (λ file offset bytes nay z. a file offset bytes z) (λ file nay z. b file z) c

    -- the file of a sync or a close that begins
    pub begins-of : (h rest : List Entry) (old : View) (lane line slot : ℕ) (op : Op) → h ++ Began lane line op ∷ rest ≡ H → Reaches (machine_of m) setup h old → old.lost ≡ false → IsIdle lane old.lanes
        → slot_of op ≡ Some slot → ((mode : Mode) → may op mode ≡ true) → (file : List ℕ) → option_map (λ (o : Opened). o.file) (finite.get old.shelf.opens (lane, slot)) ≡ Some file
        → IsOf terms.modes H (length h) op file
    begins-of h rest old lane line slot op is r found idle works_on right file there =
        of-slot h rest old lane line op is r found idle slot file works_on (finds-file op (finite.get old.shelf.opens (lane, slot)) file right there)

-- ---- a put

began-op : (a b c d : ℕ) (o p : Op) → Began a b o ≡ Began c d p → o ≡ p
began-op a b c d o p e = cc

module _ (m : Mounted) (modes : Modes) (origin : Origin) (setup : Setup) (whole : List Entry) (known : KnowsRoot origin whole m.root) (f : List ℕ) (i : ℕ) where
  -- With its bytes come in so that `claims` says that it writes them to the file.
  pub put-giving : (h more rest : List Entry) (rec : List ℕ) (old : View) → whole ≡ (h ++ Delivered rec ∷ []) ++ more → whole ≡ h ++ rest → Reaches (machine_of m) setup h old
      → (lane x offset : ℕ) (path : List (List ℕ)) (text : List ℕ) → UnderWay h lane x (length h) (ops.Put path offset text) → (file : List ℕ) → LeadsTo m.root (h ++ Delivered rec ∷ []) path file
      → Giving modes origin whole f i x file offset text
  put-giving h more rest rec old is split r lane x offset path text u file leads = record {
    fits = began-fits (machine_of m) setup h old r x lane u.line (ops.Put path offset text) u.began;
    no_saver = λ n k other there saver.
        subst IsSaver (began-op n k lane u.line other (ops.Put path offset text) (At-one whole x (Began n k other) (Began lane u.line (ops.Put path offset text)) there began)) saver;
    gives = λ same inside.
        put-byte modes origin m.root h more rec whole is known lane x offset path text u f (subst (LeadsTo m.root (h ++ Delivered rec ∷ []) path) same leads) i (slice_index text (i - offset))
        (covers-of offset text i inside);
    all = λ writer v by. absurd (writer lane u.line (ops.Put path offset text) began);
  }
    where
      began : At whole x (Began lane u.line (ops.Put path offset text))
      began = subst (λ (k : List Entry). At k x (Began lane u.line (ops.Put path offset text))) (sym split) (At-grow h rest x (Began lane u.line (ops.Put path offset text)) u.began)
