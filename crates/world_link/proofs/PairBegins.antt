-- A schedule of two clients begins an honest world, and its order is of letters.
use Rattle.std.proofs.Common.{◌≡◌, ℕ, suc, Bool, true, false, List, [], ◌∷◌, Option, Some, None, Result, Ok, Err, refl, sym, subst, ⊎_elim, nat_lt, length}
use Rattle.std.specs.Prelude.{◌&&◌, option_and_then, unwrap_or, codes, IfOk, if◌then◌else◌}
use Rattle.std.specs.List.{list_all}
use Rattle.std.specs.Option.{option_map, option_map_or}
use Rattle.std.specs.Str.{bytes_eq}
use Rattle.std.proofs.lemmas.Bool.{cases_Bool}
use Rattle.script_text.specs.Lines.{lines, words, two}
use Rattle.world_link.specs.declared.pair_world.PairWorld.{PairWorld}
use Rattle.world_link.specs.declared.schedule.ScheduleFault.{ScheduleFault}
use Rattle.world_link.specs.declared.schedule.ScheduleFault.TheVariants as faults
use Rattle.world_link.specs.Ends.{WorldEnds}
use Rattle.world_link.specs.Honest.{IsHonestWorld}
use Rattle.world_link.specs.Orders.{AreLetters, PairReadView, is_letter, letters_of, order_in, ordered, after_order, after_pair_line, after_pair_lines, no_pair_read, pair_read_of, BeginsPair, BeginsPairBy}
use Rattle.world_link.specs.Pairs.{IsHonestPair, seen_pair}
use Rattle.world_link.specs.Readings.{ReadView, after_line}
use Rattle.world_link.specs.Routes.{AreAllRouted}
use Rattle.world_link.specs.Routing.{no_ends}
use Rattle.world_link.specs.Starting.{world_of}
use Rattle.world_link.proofs.PairHonest.{honest_pair}
use Rattle.world_link.proofs.WorldBegins.{MayBegin, line_begins, nothing_begins, may_begin}

-- ---- what is read

-- What is read so far may begin an honest world, and an order is of letters.
record MayBeginPair (p : PairReadView) : Type 0 where
  read : MayBegin p.read
  letters : AreLetters (unwrap_or p.order [])

some_pair : (a b : PairReadView) → Some a ≡ Some b → a ≡ b
some_pair a b e = cc

some_letters : (a b : List ℕ) → Some a ≡ Some b → a ≡ b
some_letters a b e = cc

both_second : (a b : Bool) → (a && b) ≡ true → b ≡ true
both_second true b e = e
both_second false b e = absurd cc

by_letters : (w : List ℕ × List ℕ) (letters : List ℕ) → letters_of w ≡ Some letters → AreLetters letters
by_letters w letters e = by (bytes_eq w.0 (codes "order") && list_all is_letter w.1) refl e
  where
    by : (b : Bool) → (bytes_eq w.0 (codes "order") && list_all is_letter w.1) ≡ b → (if b then Some w.1 else None) ≡ Some letters → AreLetters letters
    by true is e = subst AreLetters (some_letters w.1 letters e) (both_second (bytes_eq w.0 (codes "order")) (list_all is_letter w.1) is)
    by false is e = absurd cc

in_letters : (o : Option (List ℕ × List ℕ)) (letters : List ℕ) → option_and_then letters_of o ≡ Some letters → AreLetters letters
in_letters None letters e = absurd cc
in_letters (Some w) letters e = by_letters w letters e

order_begins : (p new : PairReadView) (order : Option (List ℕ)) (letters : List ℕ) → AreLetters letters → MayBeginPair p → ordered p order letters ≡ Some new → MayBeginPair new
order_begins p new None letters l h e = subst MayBeginPair (some_pair (record p { order = Some letters }) new e) (record { read = h.read; letters = l })
order_begins p new (Some old) letters l h e = absurd cc

other_begins : (p new : PairReadView) (o : Option ReadView) → ((r : ReadView) → o ≡ Some r → MayBegin r) → MayBeginPair p → option_map (λ (read : ReadView). record p { read = read }) o ≡ Some new → MayBeginPair new
other_begins p new None begins h e = absurd cc
other_begins p new (Some r) begins h e = subst MayBeginPair (some_pair (record p { read = r }) new e) (record { read = begins r refl; letters = h.letters })

pair_line_begins : (p new : PairReadView) (line : List ℕ) → MayBeginPair p → after_pair_line p line ≡ Some new → MayBeginPair new
pair_line_begins p new line h e = by (order_in (words line)) refl e
  where
    by : (o : Option (List ℕ)) → order_in (words line) ≡ o → after_order p line o ≡ Some new → MayBeginPair new
    by (Some letters) is e = order_begins p new p.order letters (in_letters (two (words line)) letters is) h e
    by None is e = other_begins p new (after_line p.read line) (λ r q. line_begins p.read r line h.read q) h e

first_line_begins : (p new : PairReadView) (rest : PairReadView → Result PairReadView ℕ) (n : ℕ) → ((q : PairReadView) → MayBeginPair q → rest q ≡ Ok new → MayBeginPair new) → (o : Option PairReadView)
    → ((q : PairReadView) → o ≡ Some q → MayBeginPair q) → option_map_or rest o (Err n) ≡ Ok new → MayBeginPair new
first_line_begins p new rest n next None begins e = absurd cc
first_line_begins p new rest n next (Some q) begins e = next q (begins q refl) e

pair_lines_begin : (text : List (List ℕ)) (count : ℕ) (p new : PairReadView) → MayBeginPair p → after_pair_lines count p text ≡ Ok new → MayBeginPair new
pair_lines_begin [] count p new h e = let s : p ≡ new = cc in subst MayBeginPair s h
pair_lines_begin (line ∷ more) count p new h e =
    first_line_begins p new (λ (q : PairReadView). after_pair_lines (suc count) q more) (suc count) (λ q m g. pair_lines_begin more (suc count) q new m g) (after_pair_line p line) (λ q g. pair_line_begins p q line h g) e

pair_read_begins : (text : List ℕ) (p : PairReadView) → pair_read_of text ≡ Ok p → MayBeginPair p
pair_read_begins text p e =
    ⊎_elim (λ (a : nat_lt 1048576 (length text) ≡ true). let g : Err 0 ≡ Ok p = simp a at e in absurd (cc))
    (λ (a : nat_lt 1048576 (length text) ≡ false). let g : after_pair_lines 0 no_pair_read (lines text) ≡ Ok p = simp a at e in
    pair_lines_begin (lines text) 0 no_pair_read p (record { read = nothing_begins; letters = refl }) g)
    (cases_Bool (nat_lt 1048576 (length text)))

-- ---- the world

none_routed : AreAllRouted no_ends
none_routed = record {
  server = record { executed = λ n end xid call reply at. absurd cc; delivered = λ n end bytes at. absurd cc; sent = λ s r is. absurd cc; ready = tt; held = tt };
  waiting = tt;
}

by_pair_read : (text : List ℕ) (world : PairWorld) (tick : ℕ) (order : List ℕ) (r : Result PairReadView ℕ) → pair_read_of text ≡ r → BeginsPairBy r world tick order → IsHonestPair (seen_pair world) × AreLetters order
by_pair_read text world tick order (Err n) q b = absurd b
by_pair_read text world tick order (Ok p) q b =
    let h = pair_read_begins text p q in
    (honest_pair (seen_pair world) refl (subst IsHonestWorld (sym b.world_is) (may_begin p.read h.read)) (subst AreAllRouted (sym b.ends_are) none_routed), subst AreLetters (sym b.order_is) h.letters)

-- a text that is read begins an honest world
pub begins_honest_pair : (text : List ℕ) (result : Result (PairWorld × ℕ × List ℕ) ScheduleFault) → BeginsPair (pair_read_of text) result → IfOk result (λ begun. IsHonestPair (seen_pair begun.0))
begins_honest_pair text (Ok begun) b = (by_pair_read text begun.0 begun.1 begun.2 (pair_read_of text) refl b).0
begins_honest_pair text (Err (faults.Line n)) b = tt
begins_honest_pair text (Err faults.Memory) b = tt

pub begins_letters : (text : List ℕ) (result : Result (PairWorld × ℕ × List ℕ) ScheduleFault) → BeginsPair (pair_read_of text) result → IfOk result (λ begun. AreLetters begun.2)
begins_letters text (Ok begun) b = (by_pair_read text begun.0 begun.1 begun.2 (pair_read_of text) refl b).1
begins_letters text (Err (faults.Line n)) b = tt
begins_letters text (Err faults.Memory) b = tt
