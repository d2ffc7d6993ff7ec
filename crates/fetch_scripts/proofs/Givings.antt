-- What a target took, call after call.
use Rattle.std.proofs.Common.{◌≡◌, ◌≤◌, ◌+◌, ◌⊎◌, inl, inr, ◌==◌, ◌&&◌, ℕ, zero, suc, List, [], ◌∷◌, ◌++◌, length, take, drop, Bool, true, false, not, Option, Some, None, Result, Ok, Err, refl, sym, ap, subst, ◌∙◌, append_assoc, append-nil, arith}
use Rattle.std.specs.Prelude.{IfOk, IfSome, codes}
use Rattle.xdr_codec.specs.declared.blob.Memory.{Memory}
use Rattle.copy_targets.specs.declared.target.Took.{Took}
use Rattle.copy_targets.specs.declared.target.Took.TheVariants as took
use Rattle.copy_targets.specs.declared.why.Why.{Why}
use Rattle.copy_targets.specs.Taking.{Takes, if_taken, took_piece}
use Rattle.fetch_scripts.specs.declared.span.Span.{Span}
use Rattle.fetch_scripts.specs.Answering.{Says, bytes_of}
use Rattle.fetch_scripts.specs.Fetches.{AreOthers, AreRead, AreUnended, BeginsTook, EndTook, EndsTook, Gave, IsExpected, LeftTook, Read, ReadTook, ReadsTook, RestTook, SpanTook, SpansTook, TakesAnswers, DownloadView, all_came, all_read, begun, ends_here, first_read, goes_on, going, left, more_comes, not_all, not_begun, not_ended, not_read, some_left, took_pieces, was_read, whole}

pub takes-none : (a : Option (List Took)) → Takes a a []
takes-none None = tt
takes-none (Some x) = sym (append-nil x)

pub takes-then : (a b c : Option (List Took)) (m n : List Took) → Takes a b m → Takes b c n → Takes a c (m ++ n)
takes-then None b c m n p q = tt
takes-then (Some x) None c m n p q = absurd p
takes-then (Some x) (Some y) None m n p q = absurd q
takes-then (Some x) (Some y) (Some z) m n p q = q ∙ ap (λ (t : List Took). t ++ n) p ∙ append_assoc x m n

pub gave-none : (a : Option (List Took)) (P : List Took → Type 0) → P [] → Gave a a P
gave-none a P p = record { more = []; told = takes-none a; so = p }

pub gave-then : (a b c : Option (List Took)) (P Q R : List Took → Type 0) → Gave a b P → Gave b c Q → ((m n : List Took) → P m → Q n → R (m ++ n)) → Gave a c R
gave-then a b c P Q R p q f = record { more = p.more ++ q.more; told = takes-then a b c p.more q.more p.told q.told; so = f p.more q.more p.so q.so }

pub gave-less : (a b : Option (List Took)) (P Q : List Took → Type 0) → Gave a b P → ((m : List Took) → P m → Q m) → Gave a b Q
gave-less a b P Q p f = record { more = p.more; told = p.told; so = f p.more p.so }

-- ---- what is of no file

pub others-then : (m n : List Took) → AreOthers m → AreOthers n → AreOthers (m ++ n)
others-then [] n p q = q
others-then (t ∷ m) n p q = (p.0, others-then m n p.1 q)

pub others-gave : (a b c : Option (List Took)) → Gave a b AreOthers → Gave b c AreOthers → Gave a c AreOthers
others-gave a b c p q = gave-then a b c AreOthers AreOthers AreOthers p q others-then

-- ---- what ends no file

pub unended-then : (m n : List Took) → AreUnended m → AreUnended n → AreUnended (m ++ n)
unended-then [] n p q = q
unended-then (t ∷ m) n p q = (p.0, unended-then m n p.1 q)

pub pieces-unended : (pieces : List (List ℕ)) → AreUnended (took_pieces pieces)
pieces-unended [] = tt
pieces-unended (p ∷ pieces) = (tt, pieces-unended pieces)

nothing-unended : (more : List Took) → more ≡ [] → AreUnended more
nothing-unended more e = subst AreUnended (sym e) tt

-- ---- reads one after another

pub pieces-snoc : (pieces : List (List ℕ)) (bytes : List ℕ) → took_pieces (pieces ++ bytes ∷ []) ≡ took_pieces pieces ++ took.Piece bytes ∷ []
pieces-snoc [] bytes = refl
pieces-snoc (p ∷ pieces) bytes = ap (λ (t : List Took). took.Piece p ∷ t) (pieces-snoc pieces bytes)

pub read-snoc : (text : List ℕ) (span : Span) (at : ℕ) (pieces : List (List ℕ)) (bytes : List ℕ) → AreRead text span at pieces → Read text span (at + length pieces) bytes
    → AreRead text span at (pieces ++ bytes ∷ [])
read-snoc text span at [] bytes all one = (subst (λ (n : ℕ). Read text span n bytes) (let e : at + 0 ≡ at = omega arith in e) one, tt)
read-snoc text span at (p ∷ pieces) bytes all one =
    (all.0, read-snoc text span (at + 1) pieces bytes all.1 (subst (λ (n : ℕ). Read text span n bytes) (let e : at + suc (length pieces) ≡ at + 1 + length pieces = omega arith in e) one))

length-snoc : {X : Type 0} → (xs : List X) (x : X) → length (xs ++ x ∷ []) ≡ length xs + 1
length-snoc [] x = refl
length-snoc (y ∷ xs) x = omega (arith, length-snoc xs x)

-- no read so far
pub no-reads : (text : List ℕ) (span : Span) → ReadsTook text span 0 true []
no-reads text span = all_read [] refl refl refl tt

-- one read more, which was taken
pub reads-snoc : (text : List ℕ) (span : Span) (at : ℕ) (m n : List Took) (taken : Bool) → ReadsTook text span at true m → ReadTook text span at taken n → ReadsTook text span (at + 1) taken (m ++ n)
reads-snoc text span at m n taken (not_all no_way un) r = absurd cc
reads-snoc text span at m n taken (all_read pieces yes_way are count all) (not_read not none) =
    not_all not (subst AreUnended (sym (ap (λ (t : List Took). m ++ t) none ∙ append-nil m ∙ are)) (pieces-unended pieces))
reads-snoc text span at m n taken (all_read pieces yes_way are count all) (was_read bytes so_it is one) =
    all_read (pieces ++ bytes ∷ []) so_it
    (ap (λ (t : List Took). t ++ n) are ∙ ap (λ (t : List Took). took_pieces pieces ++ t) is ∙ sym (pieces-snoc pieces bytes))
    (length-snoc pieces bytes ∙ ap (λ (k : ℕ). k + 1) count)
    (read-snoc text span 0 pieces bytes all (subst (λ (k : ℕ). Read text span k bytes) (sym (let e : 0 + length pieces ≡ at = omega (arith, count) in e)) one))

-- fewer reads, and the last wasn't taken
pub reads-left : (text : List ℕ) (span : Span) (at count : ℕ) (m : List Took) → ReadsTook text span at false m → ReadsTook text span count false m
reads-left text span at count m (not_all not un) = not_all not un
reads-left text span at count m (all_read pieces so_it are n all) = absurd cc

-- ---- a file

pub begins-unended : (text : List ℕ) (span : Span) (was taken : Bool) (m : List Took) → BeginsTook text span was taken m → AreUnended m
begins-unended text span was taken m (begun opens so_it is ok) = subst AreUnended (sym is) (tt, tt)
begins-unended text span was taken m (goes_on not same is) = nothing-unended m is
begins-unended text span was taken m (not_begun not is) = nothing-unended m is

reads-unended : (text : List ℕ) (span : Span) (count : ℕ) (taken : Bool) (m : List Took) → ReadsTook text span count taken m → AreUnended m
reads-unended text span count taken m (all_read pieces so_it is n all) = subst AreUnended (sym is) (pieces-unended pieces)
reads-unended text span count taken m (not_all not un) = un

-- it wasn't begun
pub span-unbegun : (text : List ℕ) (span : Span) (was taken : Bool) (m : List Took) → taken ≡ false → BeginsTook text span was taken m → SpanTook text span was false m
span-unbegun text span was taken m not b = left refl (begins-unended text span was taken m b)

-- a read wasn't taken
pub rest-left : (text : List ℕ) (span : Span) (m : List Took) → ReadsTook text span span.reads false m → RestTook text span false m
rest-left text span m r = some_left refl (reads-unended text span span.reads false m r)

-- all were
pub rest-came : (text : List ℕ) (span : Span) (taken : Bool) (m n : List Took) → ReadsTook text span span.reads true m → EndTook span taken n → RestTook text span taken (m ++ n)
rest-came text span taken m n r e = all_came m n refl r e

-- a file that was begun, and the rest of it
pub span-rest : (text : List ℕ) (span : Span) (was taken : Bool) (m n : List Took) → BeginsTook text span was true m → RestTook text span taken n → SpanTook text span was taken (m ++ n)
span-rest text span was taken m n b (some_left not un) = left not (unended-then m n (begins-unended text span was true m b) un)
span-rest text span was taken m n b (all_came x y is (not_all no_way un) e) = absurd cc
span-rest text span was taken m n b (all_came x y is (all_read pieces yes_way are count all) (more_comes yes_now on none)) =
    going m pieces yes_now on b count all (ap (λ (t : List Took). m ++ t) (is ∙ ap (λ (t : List Took). x ++ t) none ∙ append-nil x ∙ are))
span-rest text span was taken m n b (all_came x y is (all_read pieces yes_way are count all) (ends_here not over some end)) =
    whole m pieces not over some b count all (ap (λ (t : List Took). m ++ t) (is ∙ ap (λ (t : List Took). t ++ y) are ∙ ap (λ (t : List Took). took_pieces pieces ++ t) end))
span-rest text span was taken m n b (all_came x y is (all_read pieces yes_way are count all) (not_ended not none)) =
    left not (unended-then m n (begins-unended text span was true m b)
    (subst AreUnended (sym (is ∙ ap (λ (t : List Took). x ++ t) none ∙ append-nil x ∙ are)) (pieces-unended pieces)))

-- the end of a file
pub end-file : (span : Span) (taken : Bool) (m : List Took) → span.ends ≡ true → 1 ≤ span.reads → EndsTook taken m → EndTook span taken m
end-file span taken m over some e = by e.how
  where
    by : (m ≡ took.End ∷ []) ⊎ (m ≡ []) → EndTook span taken m
    by (inl end) = ends_here e.not over some end
    by (inr none) = not_ended e.not none

-- ---- files one after another

pub spans-snoc : (text : List ℕ) (spans : List Span) (span : Span) (was now taken : Bool) (m n : List Took) → SpansTook text spans was now m → SpanTook text span now taken n
    → SpansTook text (spans ++ span ∷ []) was taken (m ++ n)
spans-snoc text [] span was now taken m n all one =
    (taken, n, [], subst (λ (b : Bool). SpanTook text span b taken n) all.0 one, (refl, refl), ap (λ (t : List Took). t ++ n) all.1 ∙ sym (append-nil n))
spans-snoc text (s ∷ spans) span was now taken m n all one =
    (all.0, all.1, all.2 ++ n, all.3, spans-snoc text spans span all.0 now taken all.2 n all.4 one, ap (λ (t : List Took). t ++ n) all.5 ∙ append_assoc all.1 all.2 n)

-- ---- what functions leave

-- a target took the bytes of a read
pub piece-gave : (text : List ℕ) (span : Span) (at : ℕ) (a b : Option (List Took)) (bytes given : List ℕ) (shown : Option (List ℕ)) (why : Option Why) (ws rest : List (List ℕ)) → why ≡ None
    → given ≡ bytes → Takes a b (took_piece given (Ok why)) → Says text (first_read span + at) ws → ws ≡ codes "ok" ∷ rest → shown ≡ Some bytes
    → IfSome shown (λ bytes. bytes_of rest ≡ Some bytes) → IsExpected span at bytes → Gave a b (ReadTook text span at true)
piece-gave text span at a b bytes given shown why ws rest none same told says ok is of expected = record {
  more = took.Piece bytes ∷ [];
  told = subst (λ (x : List ℕ). Takes a b (took.Piece x ∷ [])) same (subst (λ (w : Option Why). Takes a b (took_piece given (Ok w))) none told);
  so = was_read bytes refl refl (record {
    is = record {
      shown = rest;
      says = subst (λ (x : List (List ℕ)). Says text (first_read span + at) x) ok says;
      are = subst (λ (o : Option (List ℕ)). IfSome o (λ bytes. bytes_of rest ≡ Some bytes)) is of;
    };
    expected = expected;
  });
}

-- a read wasn't taken after others were
pub reads-stop : (text : List ℕ) (span : Span) (at count : ℕ) (taken : Bool) (a b c : Option (List Took)) → taken ≡ false → Gave a b (ReadsTook text span at true) → Gave b c (ReadTook text span at taken)
    → Gave a c (ReadsTook text span count false)
reads-stop text span at count taken a b c not p q =
    gave-then a b c (ReadsTook text span at true) (ReadTook text span at taken) (ReadsTook text span count false) p q
    (λ m n r one. reads-left text span (at + 1) count (m ++ n) (subst (λ (t : Bool). ReadsTook text span (at + 1) t (m ++ n)) not (reads-snoc text span at m n taken r one)))

-- one more was
pub reads-go : (text : List ℕ) (span : Span) (at : ℕ) (taken : Bool) (a b c : Option (List Took)) → taken ≡ true → Gave a b (ReadsTook text span at true) → Gave b c (ReadTook text span at taken)
    → Gave a c (ReadsTook text span (at + 1) true)
reads-go text span at taken a b c so_it p q =
    gave-then a b c (ReadsTook text span at true) (ReadTook text span at taken) (ReadsTook text span (at + 1) true) p q
    (λ m n r one. subst (λ (t : Bool). ReadsTook text span (at + 1) t (m ++ n)) so_it (reads-snoc text span at m n taken r one))

-- the lines of a file behind its first one
pub rest-gave : (text : List ℕ) (span : Span) (was : Bool) (result : Result Bool Memory) (a b c : Option (List Took)) → was ≡ true → Gave a b (ReadsTook text span span.reads was)
    → IfOk result (λ taken. Gave b c (EndTook span taken)) → IfOk result (λ taken. Gave a c (RestTook text span taken))
rest-gave text span was (Ok taken) a b c so_it p q =
    gave-then a b c (ReadsTook text span span.reads was) (EndTook span taken) (RestTook text span taken) p q
    (λ m n r e. rest-came text span taken m n (subst (λ (t : Bool). ReadsTook text span span.reads t m) so_it r) e)
rest-gave text span was (Err e) a b c so_it p q = tt

-- all lines of a file
pub span-gave : (text : List ℕ) (span : Span) (was begins : Bool) (result : Result Bool Memory) (a b c : Option (List Took)) → begins ≡ true → Gave a b (BeginsTook text span was begins)
    → IfOk result (λ taken. Gave b c (RestTook text span taken)) → IfOk result (λ taken. Gave a c (SpanTook text span was taken))
span-gave text span was begins (Ok taken) a b c so_it p q =
    gave-then a b c (BeginsTook text span was begins) (RestTook text span taken) (SpanTook text span was taken) p q
    (λ m n x r. span-rest text span was taken m n (subst (λ (t : Bool). BeginsTook text span was t m) so_it x) r)
span-gave text span was begins (Err e) a b c so_it p q = tt

-- a file more
pub spans-go : (text : List ℕ) (spans all : List Span) (span : Span) (was now taken : Bool) (a b c : Option (List Took)) → all ≡ spans ++ span ∷ [] → Gave a b (SpansTook text spans was now)
    → Gave b c (SpanTook text span now taken) → Gave a c (SpansTook text all was taken)
spans-go text spans all span was now taken a b c is p q =
    gave-then a b c (SpansTook text spans was now) (SpanTook text span now taken) (SpansTook text all was taken) p q
    (λ m n r one. subst (λ (s : List Span). SpansTook text s was taken (m ++ n)) (sym is) (spans-snoc text spans span was now taken m n r one))
