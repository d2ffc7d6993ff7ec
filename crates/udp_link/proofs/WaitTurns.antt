-- Turns of a wait, one after the other.
use Rattle.std.proofs.Common.{inl, inr, ◌≡◌, ◌≤◌, ◌<◌, ◌+◌, ℕ, Bool, true, false, List, [], ◌∷◌, ◌++◌, Option, Some, None, if◌then◌else◌, refl, sym, ap, subst, ◌∙◌, append_assoc, arith}
use Rattle.std.proofs.lemmas.Bool.{eqb-true}
use Rattle.std.proofs.lemmas.List.{append-nil, length-append}
use Rattle.world_model.specs.declared.entry.Entry.{Entry}
use Rattle.world_model.specs.declared.entry.Entry.TheVariants as entries
use Rattle.world_model.specs.History.{History}
use Rattle.world_model.specs.Told.{Tells}
use Rattle.world_model.proofs.Histories.{adds_then, adds_none}
use Rattle.outside.specs.declared.link.Received.{Received}
use Rattle.outside.specs.declared.link.Received.TheVariants as received
use Rattle.outside.specs.declared.datagrams.DatagramEntry.{DatagramEntry}
use Rattle.outside.specs.declared.datagrams.DatagramEntry.TheVariants.{Came, Missed}
use Rattle.outside.specs.Causes.{Rose, HasCauseReceived}
use Rattle.outside.specs.Link.{received_as}
use Rattle.outside.specs.Datagrams.{DatagramCall, DatagramsTold, DatagramsTell, is_aimed}
use Rattle.outside.specs.declared.places.DatagramAdds.{DatagramAdds}
use Rattle.udp_link.specs.declared.link.TheConstants.{MOST_PASSED}
use Rattle.udp_link.specs.Placing.{now_of, told_of, heard_by, shown_as, placed_as}
use Rattle.udp_link.specs.Shown.{Held, told_by, AreStrangers, PassesOver, PassedOver, PassedThen, Passes, GoesOn, Ends, Takes, Misses, GivesUp, Turned, Waited}

-- ---- what was passed over

strangers_then : (port : Option ℕ) (xs ys : List DatagramCall) → AreStrangers port xs → AreStrangers port ys → AreStrangers port (xs ++ ys)
strangers_then port [] ys p q = q
strangers_then port (x ∷ xs) ys p q = (p.0, strangers_then port xs ys p.1 q)

passes_both : (t u v : DatagramsTold) (port : Option ℕ) (n m : ℕ) → PassesOver t u port n → PassesOver u v port m → PassesOver t v port (n + m)
passes_both t u v port n m p q = record {
  passed = p.passed ++ q.passed;
  grown = q.grown ∙ ap (λ (cs : List DatagramCall). cs ++ q.passed) p.grown ∙ append_assoc t.calls p.passed q.passed;
  many = omega (arith, length-append p.passed q.passed, p.many, q.many);
  strangers = strangers_then port p.passed q.passed p.strangers q.strangers;
}

passed_both : (a b c : Option DatagramsTold) (port : Option ℕ) (n m : ℕ) → PassedOver a b port n → PassedOver b c port m → PassedOver a c port (n + m)
passed_both None None c port n m p q = q
passed_both None (Some u) c port n m p q = absurd cc
passed_both (Some t) None c port n m p q = absurd p
passed_both (Some t) (Some u) None port n m p q = absurd q
passed_both (Some t) (Some u) (Some v) port n m p q = passes_both t u v port n m p q

passed_then : (a b c : Option DatagramsTold) (port : Option ℕ) (n m : ℕ) (did : DatagramEntry) → PassedOver a b port n → PassedThen b c port m did → PassedThen a c port (n + m) did
passed_then None None c port n m did p q = q
passed_then None (Some u) c port n m did p q = absurd cc
passed_then (Some t) None c port n m did p q = absurd p
passed_then (Some t) (Some u) None port n m did p q = absurd q
passed_then (Some t) (Some u) (Some v) port n m did p q = record { mid = q.mid; passes = passes_both t u q.mid port n m p q.passes; then_one = q.then_one }

passed_none : (a : Option DatagramsTold) (port : Option ℕ) → PassedOver a a port 0
passed_none None port = refl
passed_none (Some t) port = record { passed = []; grown = sym (append-nil t.calls); many = refl; strangers = tt }

-- one from another port
passed_one : (a b : Option DatagramsTold) (port : Option ℕ) (from : ℕ) (bytes : List ℕ) → is_aimed port from ≡ false → DatagramsTell a b (Some (Came from bytes)) → PassedOver a b port 1
passed_one None b port from bytes other e = e
passed_one (Some t) None port from bytes other e = absurd e
passed_one (Some t) (Some u) port from bytes other e = record {
  passed = record { quiet = e.quiet; did = Came from bytes } ∷ [];
  grown = ap (λ (n : DatagramsTold). n.calls) e.grown;
  many = refl;
  strangers = (other, tt);
}

-- a call that is none of these
then_at_once : (a b : Option DatagramsTold) (port : Option ℕ) (did : DatagramEntry) → DatagramsTell a b (Some did) → PassedThen a b port 0 did
then_at_once None b port did e = e
then_at_once (Some t) None port did e = absurd e
then_at_once (Some t) (Some u) port did e = record {
  mid = t;
  passes = record { passed = []; grown = sym (append-nil t.calls); many = refl; strangers = tt };
  then_one = record { quiet = e.quiet; grown = ap (λ (n : DatagramsTold). n.calls) e.grown };
}

-- ---- what is told

tells_both : (a b c : Option History) (es fs : List Entry) → Tells a b es → Tells b c fs → Tells a c (es ++ fs)
tells_both None b c es fs p q = tt
tells_both (Some t) None c es fs p q = absurd p
tells_both (Some t) (Some u) None es fs p q = absurd q
tells_both (Some t) (Some u) (Some v) es fs p q = adds_then t u v es fs p q

tells_same : (told : Option DatagramsTold) (ks : List DatagramAdds) → Tells (told_of (now_of told ks)) (told_of (now_of told ks)) []
tells_same None ks = tt
tells_same (Some t) ks = adds_none (heard_by t ks).history (heard_by t ks).history refl (λ n le. refl)

aimed_is : (q : Option ℕ) (from : ℕ) → is_aimed q from ≡ true → q ≡ Some from
aimed_is None from e = absurd cc
aimed_is (Some port) from e = ap (λ (n : ℕ). Some n) (eqb-true port from e)

-- ---- one turn

-- nothing was called
pub stays : {D : Type 0} (told : D → Option DatagramsTold) (s : Held D) (js : List DatagramAdds) → js ≡ s.kept → GoesOn told 0 s (record s { kept = js })
stays told s js same = record {
  passes = record {
    tells = subst (λ (ks : List DatagramAdds). Tells (told_by told s) (told_of (now_of (told s.over) ks)) []) (sym same) (tells_same (told s.over) s.kept);
    passed = passed_none (told s.over) s.port;
    below = omega arith;
    port = refl;
  };
  own = refl;
}

-- the call found no memory
pub wants : {D : Type 0} (told : D → Option DatagramsTold) (old new : Held D) → Tells (told_by told old) (told_by told new) [] → told new.over ≡ told old.over → old.below ≤ new.below → new.own ≡ old.own → new.port ≡ old.port → GoesOn told 0 old new
wants told old new t same below own port = record {
  passes = record { tells = t; passed = subst (λ (u : Option DatagramsTold). PassedOver (told old.over) u old.port 0) (sym same) (passed_none (told old.over) old.port); below = below; port = port };
  own = own;
}

pub takes : {D : Type 0} (told : D → Option DatagramsTold) (old new : Held D) (from : ℕ) (rec : List ℕ) → is_aimed old.port from ≡ true → Tells (told_by told old) (told_by told new) (shown_as old.port (Came from rec) ++ [])
    → DatagramsTell (told old.over) (told new.over) (Some (Came from rec)) → old.below ≤ new.below → new.own ≡ old.own → new.port ≡ old.port → Takes told 0 rec old new
takes told old new from rec aimed t e below own port = (
  from,
  aimed_is old.port from aimed,
  record {
    tells = subst (λ (b : Bool). Tells (told_by told old) (told_by told new) ((if b then entries.Delivered rec ∷ [] else []) ++ [])) aimed t;
    passed = then_at_once (told old.over) (told new.over) old.port (Came from rec) e;
    below = below;
    port = port;
    own = own;
  },
)

pub passes_one : {D : Type 0} (told : D → Option DatagramsTold) (old new : Held D) (from : ℕ) (rec : List ℕ) (a : DatagramAdds) → is_aimed old.port from ≡ false → Tells (told_by told old) (told_by told new) (shown_as old.port (Came from rec) ++ placed_as a)
    → DatagramsTell (told old.over) (told new.over) (Some (Came from rec)) → old.below ≤ new.below → new.port ≡ old.port → Passes told 1 (placed_as a) old new
passes_one told old new from rec a other t e below port = record {
  tells = subst (λ (b : Bool). Tells (told_by told old) (told_by told new) ((if b then entries.Delivered rec ∷ [] else []) ++ placed_as a)) other t;
  passed = passed_one (told old.over) (told new.over) old.port from rec other e;
  below = below;
  port = port;
}

pub misses : {D : Type 0} (told : D → Option DatagramsTold) (old new : Held D) → Rose old.below new.below → Tells (told_by told old) (told_by told new) (entries.Failed ∷ []) → DatagramsTell (told old.over) (told new.over) (Some Missed)
    → old.below ≤ new.below → new.own ≡ old.own → new.port ≡ old.port → Misses told 0 old new
misses told old new rose t e below own port = (rose, record { tells = t; passed = then_at_once (told old.over) (told new.over) old.port Missed e; below = below; port = port; own = own })

-- ---- turns after others

passes_both_by : {D : Type 0} (told : D → Option DatagramsTold) (n m : ℕ) (es fs : List Entry) (old mid new : Held D) → Passes told n es old mid → Passes told m fs mid new → Passes told (n + m) (es ++ fs) old new
passes_both_by told n m es fs old mid new p q = record {
  tells = tells_both (told_by told old) (told_by told mid) (told_by told new) es fs p.tells q.tells;
  passed = passed_both (told old.over) (told mid.over) (told new.over) old.port n m p.passed (subst (λ (r : Option ℕ). PassedOver (told mid.over) (told new.over) r m) p.port q.passed);
  below = omega (arith, p.below, q.below);
  port = q.port ∙ p.port;
}

pub goes_on_more : {D : Type 0} (told : D → Option DatagramsTold) (n m : ℕ) (old mid new : Held D) → GoesOn told n old mid → GoesOn told m mid new → GoesOn told (n + m) old new
goes_on_more told n m old mid new p q = record { passes = passes_both_by told n m [] [] old mid new p.passes q.passes; own = q.own ∙ p.own }

ends_after : {D : Type 0} (told : D → Option DatagramsTold) (n : ℕ) (did : DatagramEntry) (es : List Entry) (old mid new : Held D) → GoesOn told n old mid → Ends told 0 did es mid new → Ends told n did es old new
ends_after told n did es old mid new p q = subst (λ (k : ℕ). Ends told k did es old new) zero_more (record {
  tells = tells_both (told_by told old) (told_by told mid) (told_by told new) [] es p.passes.tells q.tells;
  passed = passed_then (told old.over) (told mid.over) (told new.over) old.port n 0 did p.passes.passed (subst (λ (r : Option ℕ). PassedThen (told mid.over) (told new.over) r 0 did) p.passes.port q.passed);
  below = omega (arith, p.passes.below, q.below);
  port = q.port ∙ p.passes.port;
  own = q.own ∙ p.own;
})
  where
    zero_more : n + 0 ≡ n
    zero_more = omega arith

misses_after : {D : Type 0} (told : D → Option DatagramsTold) (n : ℕ) (old mid new : Held D) → GoesOn told n old mid → Misses told 0 mid new → Misses told n old new
misses_after told n old mid new p q = (omega (arith, q.0, p.passes.below), ends_after told n Missed (entries.Failed ∷ []) old mid new p q.1)

gives_up_after : {D : Type 0} (told : D → Option DatagramsTold) (n : ℕ) (old mid new : Held D) → n + 1 ≡ MOST_PASSED → GoesOn told n old mid → GivesUp told 1 mid new → GivesUp told MOST_PASSED old new
gives_up_after told n old mid new last p q =
    (omega (arith, q.0, p.own), omega (arith, q.1, p.own), subst (λ (k : ℕ). Passes told k (entries.Failed ∷ []) old new) last (passes_both_by told n 1 [] (entries.Failed ∷ []) old mid new p.passes q.2))

-- what the wait came to by its last turn
pub turned_last : {D : Type 0} (told : D → Option DatagramsTold) (n : ℕ) (rec : List ℕ) (r : Received) (old mid new : Held D) → n < MOST_PASSED → GoesOn told n old mid → Turned told n rec (Some r) mid new → Waited told rec r old new
turned_last told n rec received.Whole old mid new few p q = (n, few, (q.0, sym p.passes.port ∙ q.1, ends_after told n (Came q.0 rec) (entries.Delivered rec ∷ []) old mid new p q.2))
turned_last told n rec received.Silent old mid new few p q = elim q [
  | inl m ↦ inl (n, few, misses_after told n old mid new p m)
  | inr g ↦ inr (gives_up_after told n old mid new g.0 p g.1)
]
turned_last told n rec received.Failed old mid new few p q = (n, few, misses_after told n old mid new p q)
turned_last told n rec received.Memory old mid new few p q = (n, few, subst (λ (k : ℕ). GoesOn told k old new) zero_more (goes_on_more told n 0 old mid new p q))
  where
    zero_more : n + 0 ≡ n
    zero_more = omega arith

-- ---- what a wait shows

pub waited_tells : {D : Type 0} (told : D → Option DatagramsTold) (rec : List ℕ) (r : Received) (old new : Held D) → Waited told rec r old new → Tells (told_by told old) (told_by told new) (received_as rec r)
waited_tells told rec received.Whole old new w = w.2.2.tells
waited_tells told rec received.Silent old new w = elim w [ inl m ↦ m.2.1.tells | inr g ↦ g.2.tells ]
waited_tells told rec received.Failed old new w = w.2.1.tells
waited_tells told rec received.Memory old new w = w.2.passes.tells

later : {D : Type 0} (old new : Held D) → old.below ≤ new.below → new.own ≡ old.own → old.below + old.own ≤ new.below + new.own
later old new below own = omega (arith, below, own)

by_datagrams : {D : Type 0} (old new : Held D) → Rose old.below new.below → new.own ≡ old.own → Rose (old.below + old.own) (new.below + new.own)
by_datagrams old new rose own = omega (arith, rose, own)

by_itself : {D : Type 0} (old new : Held D) → Rose old.own new.own → old.below ≤ new.below → Rose (old.below + old.own) (new.below + new.own)
by_itself old new rose below = omega (arith, rose, below)

pub waited_cause : {D : Type 0} (told : D → Option DatagramsTold) (rec : List ℕ) (r : Received) (old new : Held D) → Waited told rec r old new → HasCauseReceived (old.below + old.own) (new.below + new.own) r
waited_cause told rec received.Whole old new w = record { later = later old new w.2.2.below w.2.2.own; failed = tt }
waited_cause told rec received.Silent old new w = elim w [
  | inl m ↦ record { later = later old new m.2.1.below m.2.1.own; failed = by_datagrams old new m.2.0 m.2.1.own }
  | inr g ↦ record { later = omega (arith, g.0, g.2.below); failed = by_itself old new g.1 g.2.below }
]
waited_cause told rec received.Failed old new w = record { later = later old new w.2.1.below w.2.1.own; failed = by_datagrams old new w.2.0 w.2.1.own }
waited_cause told rec received.Memory old new w = record { later = later old new w.2.passes.below w.2.own; failed = tt }
