-- What a step of any operation makes of how often a place may still be sent.
use Rattle.core_counts.proofs.Prelude.{◌≡◌, ◌≢◌, ◌≤◌, ◌<◌, ◌+◌, ◌⊎◌, inl, inr, ℕ, Bool, true, false, List, length, Result, Err, refl, sym, ap, subst, ◌∙◌, arith, leb-true, Fault, Call, Reply, Pending, of_file, with_bytes, IsNewest, OnFile, with_cut, FilePending, nothing, rest_at, fly_at, PutsBytes, covers, puts-with, same-or, Step, Repeat, Shelf, Turn, Saving, IsUnused, Machine, Starts, Resumes, Takes, After, TakesHas, StartsHas, NearAs, unmade-has, EachSound}
use Rattle.std.proofs.lemmas.Bool.{false_from_ne_true}
use Rattle.core_answers.proofs.writes.Backs.{CarriesReply}
use Rattle.core_session.proofs.order.Adds.{Bears, all-starts, all-resumes, all-takes}
use Rattle.core_session.proofs.order.Sounds.{Sounds, SoundsFirst, SoundCall, bears-sounds, replies-sounds}
use Rattle.std.specs.Prelude.{nat_le}
use Rattle.write_back.proofs.Adding.{cuts-so}
use Rattle.client_shelf.specs.declared.step.Step.TheVariants as nexts
use Rattle.file_ops.specs.Saves as saves
use Rattle.file_ops.specs.Syncs as syncs
use Rattle.core_answers.proofs.writes.AllBacks.{Saves}
use Rattle.core_answers.proofs.writes.Mapped.{any-saves}
use Rattle.core_counts.proofs.counts.writes.Landing.{W, Fewer, on-fewer}
use Rattle.core_counts.proofs.counts.writes.Saved.{goes-fewer, takes-err}
use Rattle.core_counts.proofs.counts.writes.Weights.{one_if, one-most, due_of, weight, low, high, Below, flown-low, below-high, newest-below, cut-due, laid-out, laid-in}

low-not : (s : ℕ) → low s (s + 1) ≡ false
low-not s = false_from_ne_true (nat_le (s + 1) s) (λ is. let less = leb-true (s + 1) s is in absurd (omega (arith, less)))

-- two facts of what a step leads to
both-after : (A C : Pending → Type 0) (B D : Call → Pending → Type 0) (next : Step) (back : Pending) → After A B next back → After C D next back
    → After (λ k. A k × C k) (λ call k. B call k × D call k) next back
both-after A C B D (nexts.Send call) back a c = (a, c)
both-after A C B D nexts.Wait back a c = (a, c)
both-after A C B D (nexts.Done answer) back a c = (a, c)

-- Of one place of a file: no more than n of what has numbers up to s, and what is above came by E.
module _ (f : List ℕ) (i y s n : ℕ) (E : Type 0) where
  pub record Held (back : Pending) : Type 0 where
    pub few : W f i y (low s) back ≤ n
    pub one : W f i y (high s) back ≤ 1
    pub why : 0 < W f i y (high s) back → E

  pub held-fewer : (old new : Pending) → Fewer f i y old new → Held old → Held new
  held-fewer old new less k =
      let a = less (low s) in let b = less (high s) in let few = k.few in let one = k.one in
      record { few = omega (arith, a, few); one = omega (arith, b, one); why = λ some. k.why (omega (arith, b, some)) }

  pub held-after : (next : Step) (back : Pending) → Held back → After Held (λ call. Held) next back
  held-after (nexts.Send call) back k = k
  held-after nexts.Wait back k = k
  held-after (nexts.Done answer) back k = k

  -- what is known of the bytes that come in
  abbrev pub Brought : List ℕ → ℕ → List ℕ → Type 0
  Brought file offset bytes = f ≡ file → covers offset (length bytes) i ≡ true → E

  module _ (wsize : ℕ) (turn : Turn) (number : ℕ) (X : List ℕ → ℕ → List ℕ → Type 0)
      (adds : (file : List ℕ) (offset : ℕ) (bytes : List ℕ) (old new : Pending) → X file offset bytes → EachSound old → IsNewest number old
      → OnFile old new file (with_bytes offset bytes number (of_file file old)) → Held old → Held new) where
    abbrev pub First : Pending → Type 0
    First back = Held back × SoundsFirst wsize turn number back

    abbrev pub Since : Pending → Type 0
    Since back = Held back × Sounds wsize turn back

    abbrev pub WithCall : Call → Pending → Type 0
    WithCall call back = Held back × EachSound back

    abbrev pub Adding : List ℕ → ℕ → List ℕ → ℕ → Type 0
    Adding file offset bytes k = NearAs wsize turn number file offset bytes k × X file offset bytes

    cuts-held : (file : List ℕ) (size upto : ℕ) (old new : Pending) → EachSound old → OnFile old new file (with_cut size upto (of_file file old)) → Held old → Held new
    cuts-held file size upto old new sound on k =
        held-fewer old new (on-fewer f i y old new file _ on (λ same c.
        let cuts = cuts-so size upto (of_file file old) (sound file).apart in
        let one = ap (due_of c) (cuts.rest i) in
        let less = cut-due c size upto i (rest_at (of_file file old) i) in
        let here = ap (λ (g : List ℕ). weight y c (of_file g old) i) same in
        omega (arith, one, less, here))) k

    gives-held : (file : List ℕ) (old new : Pending) → OnFile old new file nothing → Held old → Held new
    gives-held file old new on k = held-fewer old new (on-fewer f i y old new file nothing on (λ same c. omega arith)) k

    goes-held : (by_reply : Bool) (sv : Saving) (back : Pending) (next : _) (new : Saving) (after : Pending) → saves.Goes wsize turn.xid turn.room by_reply sv back next new after → Held back
        → After Held (λ call. Held) (syncs.sync_next next) after
    goes-held by_reply sv back next new after g k =
        held-after (syncs.sync_next next) after (held-fewer back after (goes-fewer f i y wsize turn.xid turn.room by_reply sv back next new after g) k)

    pub bears-held : Bears wsize turn Adding First Since WithCall
    bears-held = record {
      first = record {
        goes = λ by_reply sv back next new after g p.
            both-after Held (SoundsFirst wsize turn number) (λ call. Held) (SoundCall wsize turn) (syncs.sync_next next) after (goes-held by_reply sv back next new after g p.0)
            (k.first.goes by_reply sv back next new after g p.1);
        cuts = λ file size upto old new quiet on p. (cuts-held file size upto old new p.1.sounds.sound on p.0, k.first.cuts file size upto old new quiet on p.1);
        gives = λ file old new quiet on p. (gives-held file old new on p.0, k.first.gives file old new quiet on p.1);
        plain = λ call back p. (p.0, p.1.sounds.sound);
      };
      then_ = record {
        goes = λ by_reply sv back next new after g p.
            both-after Held (Sounds wsize turn) (λ call. Held) (SoundCall wsize turn) (syncs.sync_next next) after (goes-held by_reply sv back next new after g p.0)
            (k.then_.goes by_reply sv back next new after g p.1);
        cuts = λ file size upto old new quiet on p. (cuts-held file size upto old new p.1.sound on p.0, k.then_.cuts file size upto old new quiet on p.1);
        gives = λ file old new quiet on p. (gives-held file old new on p.0, k.then_.gives file old new quiet on p.1);
        plain = λ call back p. (p.0, p.1.sound);
      };
      less = λ back p. (p.0, p.1.sounds);
      adds = λ file offset bytes at old new a room on p. (
        adds file offset bytes old new a.1 p.1.sounds.sound p.1.newest (subst (λ (k : ℕ). OnFile old new file (with_bytes offset bytes k (of_file file old))) a.0.0 on) p.0,
        k.adds file offset bytes at old new a.0 room on p.1,
      );
    }
      where
        k : Bears wsize turn (NearAs wsize turn number) (SoundsFirst wsize turn number) (Sounds wsize turn) (SoundCall wsize turn)
        k = bears-sounds wsize turn number

    since-after : (next : Step) (back : Pending) → After Since WithCall next back → Held back × EachSound back
    since-after (nexts.Send call) back p = p
    since-after nexts.Wait back p = (p.0, p.1.sound)
    since-after (nexts.Done answer) back p = (p.0, p.1.sound)

    pub starts-held : (m : Machine) (old : Shelf) (next : Step) (new : Machine) (after : Shelf) → number ≡ old.seq + 1
        → StartsHas (λ f o b. NearAs wsize turn number f o b number × X f o b) m old.opens next → Held old.back → EachSound old.back → IsUnused turn.xid old.back → IsNewest number old.back
        → Starts wsize m turn old next new after → Held after.back × EachSound after.back
    starts-held m old next new after is has held sound free newest t =
        since-after next after.back (all-starts wsize turn Adding First Since WithCall bears-held m old next new after
        (subst (λ (k : ℕ). StartsHas (λ f o b. NearAs wsize turn number f o b k × X f o b) m old.opens next) is has)
        (held, record { sounds = record { sound = sound; free = free }; newest = newest }) t)

    pub resumes-held : (m : Machine) (old : Shelf) (next : Step) (new : Machine) (after : Shelf) → Held old.back → EachSound old.back → IsUnused turn.xid old.back
        → Resumes wsize m turn old next new after → Held after.back × EachSound after.back
    resumes-held m old next new after held sound free t =
        since-after next after.back (all-resumes wsize turn Since WithCall bears-held.then_ m old next new after (held, record { sound = sound; free = free }) t)

    module _ (sent : Turn) (came : Result Reply Fault) (N : Saving → Pending → Type 0)
        (carries : (repeats : List Repeat) (sv : Saving) (back : Pending) (next : _) (new : Saving) (after : Pending) (later : List Repeat)
        → saves.Takes wsize sent turn came repeats sv back next new after later → N sv back → Held back → EachSound back → Held after) where
      replies-held : CarriesReply wsize sent turn came N First WithCall
      replies-held = record {
        takes = λ repeats sv back next new after later t now p.
            both-after Held (SoundsFirst wsize turn number) (λ call. Held) (SoundCall wsize turn) (syncs.sync_next next) after
            (held-after (syncs.sync_next next) after (carries repeats sv back next new after later t now p.0 p.1.sounds.sound))
            ((replies-sounds wsize turn sent came number).takes repeats sv back next new after later t tt p.1);
      }

      pub takes-held : (m : Machine) (old : Shelf) (next : Step) (new : Machine) (after : Shelf) (t : Takes wsize m sent turn came old next new after) → number ≡ old.seq + 1
          → TakesHas (λ f o b. NearAs wsize turn number f o b number × X f o b) wsize m sent turn came old next new after t → Saves (λ sv. N sv old.back) m
          → Held old.back → EachSound old.back → IsUnused turn.xid old.back → IsNewest number old.back → Held after.back × EachSound after.back
      takes-held m old next new after t is has now held sound free newest =
          since-after next after.back (all-takes wsize turn Adding First Since WithCall bears-held sent came N replies-held m old next new after t
          (subst (λ (k : ℕ). TakesHas (λ f o b. NearAs wsize turn number f o b k × X f o b) wsize m sent turn came old next new after t) is has) now
          (held, record { sounds = record { sound = sound; free = free }; newest = newest }))

  -- ---- bytes come in with the number after s

  pub adds-held : (file : List ℕ) (offset : ℕ) (bytes : List ℕ) (old new : Pending) → Brought file offset bytes → EachSound old → IsNewest (s + 1) old
      → OnFile old new file (with_bytes offset bytes (s + 1) (of_file file old)) → Held old → Held new
  adds-held file offset bytes old new brought sound newest on k = by (same-or file f)
    where
      below : Below s (of_file f old) i
      below = newest-below s f old newest i

      none_high : W f i y (high s) old ≡ 0
      none_high = below-high y s (of_file f old) i below

      at : f ≡ file → (b : Bool) → covers offset (length bytes) i ≡ b → Held new
      at same b is = in-file b is (puts-with offset bytes (s + 1) (of_file f old) (of_file f new) (sound f)
          (ap (λ (g : List ℕ). of_file g new) same ∙ on.here ∙ ap (λ (g : List ℕ). with_bytes offset bytes (s + 1) (of_file g old)) (sym same)))
        where
          in-file : (b : Bool) → covers offset (length bytes) i ≡ b → PutsBytes offset bytes (s + 1) (of_file f old) (of_file f new) → Held new
          in-file false out p =
              let one = laid-out y (low s) offset bytes (s + 1) (of_file f old) (of_file f new) i p out in
              let two = laid-out y (high s) offset bytes (s + 1) (of_file f old) (of_file f new) i p out in
              let few = k.few in
              record { few = omega (arith, one, few); one = omega (arith, two, none_high); why = λ some. absurd (omega (arith, two, none_high, some)) }
          in-file true within p =
              let one = laid-in y (low s) offset bytes (s + 1) (of_file f old) (of_file f new) i p within in
              let two = laid-in y (high s) offset bytes (s + 1) (of_file f old) (of_file f new) i p within in
              let none = ap one_if (low-not s) in
              let few = k.few in
              let flown = flown-low y s (fly_at (of_file f old) i) below.fly in
              let most = one-most (high s (s + 1)) in
              record { few = omega (arith, one, none, few); one = omega (arith, two, flown, most); why = λ some. brought same within }

      by : (f ≡ file) ⊎ (f ≢ file) → Held new
      by (inl same) = at same (covers offset (length bytes) i) refl
      by (inr apart) =
          let same = on.others f apart in
          let one = ap (λ (of : FilePending). weight y (low s) of i) same in
          let two = ap (λ (of : FilePending). weight y (high s) of i) same in
          let few = k.few in
          record { few = omega (arith, one, few); one = omega (arith, two, none_high); why = λ some. absurd (omega (arith, two, none_high, some)) }

-- where nothing may come in
pub never-adds : (f : List ℕ) (i y s n : ℕ) (E : Type 0) (number : ℕ) (file : List ℕ) (offset : ℕ) (bytes : List ℕ) (old new : Pending) → ⊥ → EachSound old → IsNewest number old
    → OnFile old new file (with_bytes offset bytes number (of_file file old)) → Held f i y s n E old → Held f i y s n E new
never-adds f i y s n E number file offset bytes old new never sound newest on k = absurd never

-- The call for which the step asked isn't made: what took off for it comes back.
pub unmade-held : (f : List ℕ) (i y s n : ℕ) (E : Type 0) (wsize : ℕ) (sent turn : Turn) (fault : Fault) → sent.xid ≡ y → (m : Machine) (old : Shelf) (next : Step) (new : Machine)
    (after : Shelf) → Takes wsize m sent turn (Err fault) old next new after → Held f i y s n E old.back → EachSound old.back → IsUnused turn.xid old.back → IsNewest (old.seq + 1) old.back
    → Held f i y s n E after.back
unmade-held f i y s n E wsize sent turn fault own m old next new after t held sound free newest =
    (takes-held f i y s n E wsize turn (old.seq + 1) (λ file offset bytes. ⊥) (never-adds f i y s n E (old.seq + 1)) sent (Err fault) (λ sv back. Unit {0})
    (λ repeats sv back next new after later takes now k sounds. held-fewer f i y s n E back after (takes-err f i y sent turn fault own wsize repeats sv back next new after later sounds takes) k)
    m old next new after t refl (unmade-has (λ file offset bytes. NearAs wsize turn (old.seq + 1) file offset bytes (old.seq + 1) × ⊥) wsize sent turn fault m old next new after t)
    (any-saves m) held sound free newest).0
