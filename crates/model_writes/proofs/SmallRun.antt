-- The small run, step by step.
use Rattle.std.proofs.Common.{inl, inr, ◌⊎◌, ◌≡◌, ◌≢◌, Bool, true, false, eqb, bytes_eq, ℕ, zero, suc, List, [], ◌∷◌, ◌++◌, Option, Some, None, refl, sym, ap, ◌∙◌, arith, if◌then◌else◌}
use Rattle.std.proofs.lemmas.Bool.{ne_eqb}
use Rattle.std.proofs.lemmas.Slice.Eq.{bytes_eq-Decides}
use Rattle.model_writes.specs.Story.{File, Spot, Op, write_op, put_op, sync_op, close_op, cut_op, open_op, Call, write, commit, resize, wrote, committed, told, Answer, done, refused, flushes, Entry, Began, Answered, Sent, Executed, Foreign, Reboot, Delivered, Failed, covers}
use Rattle.model_writes.specs.Machine.{View, Mark, unsent, acked, Cell, Flight, Lane, idle, busy, Work, starts, joins, ready, Added, Turns, makes_write, makes_commit, makes_call, adds, proceeds, opens, frees, cuts, gives_up, gives_up_put, loses, queues, firms, cuts_none, Came, stays, acks, Heard, settles}
use Rattle.model_writes.specs.Reaches.{Reaches, begins, enters, moves}
use Rattle.model_writes.specs.SmallRun.{the_file, IsReached}
use Rattle.model_writes.proofs.FlyingBytes.{one_or_none, covers_file}
use Rattle.model_writes.proofs.AtLemmas.{same_or_not}
use Rattle.model_writes.proofs.CoversLemmas.{covers_within}

abbrev at_each : {A : Type 0} → (ℕ → A) → Option ℕ → Option A
at_each f None = None
at_each f (Some y) = Some (f y)

-- one lane works, one slot is used
abbrev in_lane : Lane → ℕ → Lane
in_lane x zero = x
in_lane x (suc l) = idle

abbrev in_slot : Option File → ℕ → ℕ → Option File
in_slot f zero zero = f
in_slot f zero (suc s) = None
in_slot f (suc l) s = None

abbrev only_call : ℕ → Call → ℕ → Option Call
only_call x call z = if eqb z x then Some call else None

abbrev nothing_added : ℕ → Option Added
nothing_added w = None

abbrev one_added : ℕ → Option Added
one_added w = if eqb w 2 then Some (record { number = 1; put = false }) else None

abbrev two_added : ℕ → Option Added
two_added w = if eqb w 17 then Some (record { number = 2; put = true }) else one_added w

abbrev flying_under : Spot → Option Flight
flying_under i = at_each (λ y. record { byte = y; number = 1; xid = 0 }) (covers the_file 0 (7 ∷ []) i)

flying_as : (i : Spot) (o : Option ℕ) → covers the_file 0 (7 ∷ []) i ≡ o → flying_under i ≡ at_each (λ y. record { byte = y; number = 1; xid = 0 }) o
flying_as i o e = ap (λ z. at_each (λ y. record { byte = y; number = 1; xid = 0 }) z) e

abbrev pending_under : ℕ → Mark → Spot → Option Cell
pending_under n m i = at_each (λ y. record { byte = y; number = n; mark = m }) (covers the_file 0 (7 ∷ []) i)

pending_as : (n : ℕ) (m : Mark) (i : Spot) (o : Option ℕ) → covers the_file 0 (7 ∷ []) i ≡ o → pending_under n m i ≡ at_each (λ y. record { byte = y; number = n; mark = m }) o
pending_as n m i o e = ap (λ z. at_each (λ y. record { byte = y; number = n; mark = m }) z) e

-- ---- what is the same elsewhere

other_lane : (x y : Lane) (k : ℕ) → k ≢ 0 → in_lane y k ≡ in_lane x k
other_lane x y zero ne = absurd (ne refl)
other_lane x y (suc k) ne = refl

only_call_less : (x : ℕ) (call : Call) (z : ℕ) → z ≢ x → only_call x call z ≡ None
only_call_less x call z ne = rw (ne_eqb z x ne) refl

one_added_less : (w : ℕ) → w ≢ 2 → one_added w ≡ None
one_added_less w ne = rw (ne_eqb w 2 ne) refl

two_added_less : (w : ℕ) → w ≢ 17 → two_added w ≡ one_added w
two_added_less w ne = rw (ne_eqb w 17 ne) refl

other_slots : (k s : ℕ) → (k ≡ 0 → s ≢ 0) → in_slot (Some the_file) k s ≡ in_slot None k s
other_slots zero zero ne = absurd (ne refl refl)
other_slots zero (suc s) ne = refl
other_slots (suc k) s ne = refl

its_slot : (k s : ℕ) → (in_slot None k s ≡ in_slot (Some the_file) k s) ⊎ ((k ≡ 0) × (s ≡ 0) × (in_slot None k s ≡ None))
its_slot zero zero = inr (refl, refl, refl)
its_slot zero (suc s) = inl refl
its_slot (suc k) s = inl refl

no_slot : (k s : ℕ) → in_slot None k s ≡ Some the_file → ⊥
no_slot zero zero e = absurd (cc e)
no_slot zero (suc s) e = absurd (cc e)
no_slot (suc k) s e = absurd (cc e)

other_lanes : (x : Lane) (k from s : ℕ) (work : Work) → k ≢ 0 → in_lane x k ≡ busy from (close_op the_file s) work → (a : Answer) × (work ≡ ready a)
other_lanes x zero from s work ne e = absurd (ne refl)
other_lanes x (suc k) from s work ne e = absurd (cc e)

quiet_at : (x : Lane) → ((from : ℕ) (op : Op) (a : Answer) → x ≡ busy from op (ready a) → ⊥) → (l from : ℕ) (op : Op) (a : Answer) → in_lane x l ≡ busy from op (ready a) → ⊥
quiet_at x none zero from op a e = none from op a e
quiet_at x none (suc l) from op a e = absurd (cc e)

no_lane : (l from : ℕ) (op : Op) (a : Answer) → in_lane idle l ≡ busy from op (ready a) → ⊥
no_lane zero from op a e = absurd (cc e)
no_lane (suc l) from op a e = absurd (cc e)

bytes_ne : (f g : File) → f ≢ g → bytes_eq f g ≡ false
bytes_ne f g ne = by (bytes_eq f g) refl
  where
    by : (t : Bool) → bytes_eq f g ≡ t → bytes_eq f g ≡ false
    by true e = absurd (ne ((bytes_eq-Decides f g).0 e))
    by false e = e

elsewhere : (i : Spot) → i.file ≢ the_file → covers the_file 0 (7 ∷ []) i ≡ None
elsewhere i ne = elim (one_or_none (covers the_file 0 (7 ∷ []) i)) [
  | inl none ↦ none
  | inr v ↦ absurd (ne (sym (covers_file the_file 0 (7 ∷ []) i v.0 v.1)))
]

-- ---- what the replies make of the places

abbrev no_cell : Option Cell
no_cell = None

abbrev no_flight : Option Flight
no_flight = None

acknowledged : (i : Spot) → Came 0 (write the_file 0 (7 ∷ []) 0) (wrote 0 1 0 (5 ∷ [])) i no_cell (flying_under i) (pending_under 1 (acked (5 ∷ [])) i) no_flight
acknowledged i = elim (one_or_none (covers the_file 0 (7 ∷ []) i)) [
  | inl none ↦ let k = flying_as i None none in stays 0 _ _ i no_cell _ _ no_flight (λ f e. absurd (cc (k, e))) (pending_as 1 (acked (5 ∷ [])) i None none) (sym k)
  | inr v ↦ acks 0 _ _ i no_cell _ _ no_flight (record { byte = v.0; number = 1; xid = 0 }) 1 (5 ∷ []) (flying_as i (Some v.0) v.1) refl refl refl (covers_within the_file 0 (7 ∷ []) i v.0 v.1) (pending_as 1 (acked (5 ∷ [])) i (Some v.0) v.1) refl
]

made_stable : (i : Spot) → ((no_cell ≡ pending_under 1 (acked (5 ∷ [])) i) × (no_flight ≡ no_flight)) ⊎ ((i.file ≡ the_file) × Heard (committed 0 (5 ∷ [])) (pending_under 1 (acked (5 ∷ [])) i) no_cell × (no_flight ≡ no_flight))
made_stable i = elim (one_or_none (covers the_file 0 (7 ∷ []) i)) [
  | inl none ↦ inl (sym (pending_as 1 (acked (5 ∷ [])) i None none), refl)
  | inr v ↦ inr (sym (covers_file the_file 0 (7 ∷ []) i v.0 v.1), settles _ _ no_cell (record { byte = v.0; number = 1; mark = acked (5 ∷ []) }) (5 ∷ []) refl (pending_as 1 (acked (5 ∷ [])) i (Some v.0) v.1) refl refl, refl)
]

-- ---- what is pending is the put's own

abbrev some_added : Added → Option Added
some_added a = Some a

added_is : (a b : Added) → some_added a ≡ some_added b → a ≡ b
added_is a b e = cc

abbrev some_cell : Cell → Option Cell
some_cell c = Some c

cell_is : (c d : Cell) → some_cell c ≡ some_cell d → c ≡ d
cell_is c d e = cc

added_17 : (w : ℕ) (a : Added) → two_added w ≡ Some a → a.number ≡ 2 → w ≡ 17
added_17 w a e n = elim (same_or_not w 17) [
  | inl is ↦ is
  | inr ne ↦ elim (same_or_not w 2) [
    | inl is ↦ absurd (number_1 a (sym (ap one_added is) ∙ sym (two_added_less w ne) ∙ e) n)
    | inr other ↦ absurd (cc (sym (one_added_less w other) ∙ sym (two_added_less w ne) ∙ e))
  ]
]
  where
    number_1 : (a : Added) → one_added 2 ≡ Some a → a.number ≡ 2 → ⊥
    number_1 a e n = let k : 1 ≡ a.number = ap (λ (z : Added). z.number) (added_is (record { number = 1; put = false }) a e) in absurd (omega (arith, k, n))

its_own : (i : Spot) (cell : Cell) (w : ℕ) (a : Added) → i.file ≡ the_file → pending_under 2 unsent i ≡ Some cell → two_added w ≡ Some a → a.number ≡ cell.number
    → (w ≡ 17) ⊎ ((a.put ≡ true) × ((k : ℕ) (op : Op) (work : Work) → in_lane (busy 17 (put_op the_file 0 (7 ∷ [])) (joins 2)) k ≡ busy w op work → work ≡ ready refused))
its_own i cell w a f e ad n = inl (added_17 w a ad (n ∙ cell_number))
  where
    cell_number : cell.number ≡ 2
    cell_number = elim (one_or_none (covers the_file 0 (7 ∷ []) i)) [
      | inl none ↦ absurd (cc (sym (pending_as 2 unsent i None none) ∙ e))
      | inr v ↦ sym (ap (λ (d : Cell). d.number) (cell_is (record { byte = v.0; number = 2; mark = unsent }) cell (sym (pending_as 2 unsent i (Some v.0) v.1) ∙ e)))
    ]

turns_at_0 : {b c : View} → (x y : Lane) → b.lane ≡ in_lane x → c.lane ≡ in_lane y → Turns b c 0 x y
turns_at_0 {b} {c} x y p q = record { was = ap (λ (f : ℕ → Lane). f 0) p; is = ap (λ (f : ℕ → Lane). f 0) q; others = λ k ne. ap (λ (f : ℕ → Lane). f k) q ∙ other_lane x y k ne ∙ sym (ap (λ (f : ℕ → Lane). f k) p) }

abbrev start : View
start = record { next_xid = 0; seq = 0; rest = λ i. None; fly = λ i. None; wait = λ x. None; lane = in_lane idle; added = nothing_added; opens = in_slot None; gave = λ f. false; lost = false }

no_call_is : (call : Call) → ◌≡◌ {A = Option Call} None (Some call) → ⊥
no_call_is call e = cc

no_cell_is : (c : Cell) → no_cell ≡ Some c → ⊥
no_cell_is c e = cc

no_flight_is : (f : Flight) → no_flight ≡ Some f → ⊥
no_flight_is f e = cc

not_ready : (from : ℕ) (op : Op) (work : Work) → ((a : Answer) → work ≡ ready a → ⊥) → (s : ℕ) (p : Op) (a : Answer) → busy from op work ≡ busy s p (ready a) → ⊥
not_ready from op work none s p a e = none a cc

joins_not_ready : (upto : ℕ) (a : Answer) → joins upto ≡ ready a → ⊥
joins_not_ready upto a e = cc

starts_not_ready : (a : Answer) → starts ≡ ready a → ⊥
starts_not_ready a e = cc

all_idle : (l : ℕ) → in_lane idle l ≡ idle
all_idle zero = refl
all_idle (suc l) = refl

abbrev h0 : List Entry
h0 = []

abbrev r0 : Reaches h0 start
r0 = begins h0 start (record { unbegun = λ i lane op at. absurd (cc at); sent = λ i x call at. absurd (cc at) }) (record { rest = λ i. refl; fly = λ i. refl; wait = λ x. refl; lane = all_idle; added = λ w. refl })

abbrev v1 : View
v1 = record start { lane = in_lane (busy 0 (open_op the_file 0) starts) }

abbrev h1 : List Entry
h1 = h0 ++ (Began 0 (open_op the_file 0)) ∷ []

abbrev v2 : View
v2 = record v1 { lane = in_lane (busy 0 (open_op the_file 0) (ready done)); opens = in_slot (Some the_file) }

abbrev v3 : View
v3 = record v2 { lane = in_lane (idle) }

abbrev h2 : List Entry
h2 = h1 ++ (Answered 0 done) ∷ []

abbrev v4 : View
v4 = record v3 { lane = in_lane (busy 2 (write_op the_file 0 (7 ∷ [])) starts) }

abbrev h3 : List Entry
h3 = h2 ++ (Began 0 (write_op the_file 0 (7 ∷ []))) ∷ []

abbrev v5 : View
v5 = record v4 { lane = in_lane (busy 2 (write_op the_file 0 (7 ∷ [])) (ready done)); seq = 1; added = one_added; rest = pending_under 1 unsent }

abbrev v6 : View
v6 = record v5 { lane = in_lane (idle) }

abbrev h4 : List Entry
h4 = h3 ++ (Answered 0 done) ∷ []

abbrev v7 : View
v7 = record v6 { next_xid = 1; wait = only_call 0 (write the_file 0 (7 ∷ []) 0); rest = λ i. None; fly = flying_under }

abbrev v8 : View
v8 = v7

abbrev h5 : List Entry
h5 = h4 ++ (Sent 0 (write the_file 0 (7 ∷ []) 0)) ∷ []

abbrev v9 : View
v9 = v8

abbrev h6 : List Entry
h6 = h5 ++ (Executed 0 (write the_file 0 (7 ∷ []) 0) (wrote 0 1 0 (5 ∷ []))) ∷ []

abbrev v10 : View
v10 = record v9 { wait = λ z. None; rest = pending_under 1 (acked (5 ∷ [])); fly = λ i. None }

abbrev h7 : List Entry
h7 = h6 ++ (Delivered 0 (wrote 0 1 0 (5 ∷ []))) ∷ []

abbrev v11 : View
v11 = record v10 { lane = in_lane (busy 7 (sync_op the_file) starts) }

abbrev h8 : List Entry
h8 = h7 ++ (Began 0 (sync_op the_file)) ∷ []

abbrev v12 : View
v12 = record v11 { lane = in_lane (busy 7 (sync_op the_file) (joins 1)) }

abbrev v13 : View
v13 = record v12 { next_xid = 2; wait = only_call 1 (commit the_file) }

abbrev v14 : View
v14 = v13

abbrev h9 : List Entry
h9 = h8 ++ (Sent 1 (commit the_file)) ∷ []

abbrev v15 : View
v15 = v14

abbrev h10 : List Entry
h10 = h9 ++ (Executed 1 (commit the_file) (committed 0 (5 ∷ []))) ∷ []

abbrev v16 : View
v16 = record v15 { wait = λ z. None; rest = λ i. None }

abbrev h11 : List Entry
h11 = h10 ++ (Delivered 1 (committed 0 (5 ∷ []))) ∷ []

abbrev v17 : View
v17 = record v16 { lane = in_lane (busy 7 (sync_op the_file) (ready done)) }

abbrev v18 : View
v18 = record v17 { lane = in_lane (idle) }

abbrev h12 : List Entry
h12 = h11 ++ (Answered 0 done) ∷ []

abbrev v19 : View
v19 = record v18 { lane = in_lane (busy 12 (cut_op the_file 0) starts) }

abbrev h13 : List Entry
h13 = h12 ++ (Began 0 (cut_op the_file 0)) ∷ []

abbrev v20 : View
v20 = record v19 { next_xid = 3; wait = only_call 2 (resize the_file 0) }

abbrev v21 : View
v21 = v20

abbrev h14 : List Entry
h14 = h13 ++ (Sent 2 (resize the_file 0)) ∷ []

abbrev v22 : View
v22 = v21

abbrev h15 : List Entry
h15 = h14 ++ (Executed 2 (resize the_file 0) (told 0)) ∷ []

abbrev v23 : View
v23 = record v22 { wait = λ z. None }

abbrev h16 : List Entry
h16 = h15 ++ (Delivered 2 (told 0)) ∷ []

abbrev v24 : View
v24 = v23

abbrev v25 : View
v25 = record v24 { lane = in_lane (busy 12 (cut_op the_file 0) (ready done)) }

abbrev v26 : View
v26 = record v25 { lane = in_lane (idle) }

abbrev h17 : List Entry
h17 = h16 ++ (Answered 0 done) ∷ []

abbrev v27 : View
v27 = record v26 { lane = in_lane (busy 17 (put_op the_file 0 (7 ∷ [])) starts) }

abbrev h18 : List Entry
h18 = h17 ++ (Began 0 (put_op the_file 0 (7 ∷ []))) ∷ []

abbrev v28 : View
v28 = record v27 { lane = in_lane (busy 17 (put_op the_file 0 (7 ∷ [])) (joins 2)); seq = 2; added = two_added; rest = pending_under 2 unsent }

abbrev v29 : View
v29 = record v28 { lane = in_lane (busy 17 (put_op the_file 0 (7 ∷ [])) (ready refused)); rest = λ i. None }

abbrev v30 : View
v30 = record v29 { lane = in_lane (idle) }

abbrev h19 : List Entry
h19 = h18 ++ (Answered 0 refused) ∷ []

abbrev v31 : View
v31 = record v30 { lane = in_lane (busy 19 (close_op the_file 0) starts) }

abbrev h20 : List Entry
h20 = h19 ++ (Began 0 (close_op the_file 0)) ∷ []

abbrev v32 : View
v32 = record v31 { lane = in_lane (busy 19 (close_op the_file 0) (joins 2)) }

abbrev v33 : View
v33 = record v32 { opens = in_slot None }

abbrev v34 : View
v34 = record v33 { lane = in_lane (busy 19 (close_op the_file 0) (ready refused)); gave = λ f. bytes_eq f the_file }

abbrev v35 : View
v35 = record v34 { lane = in_lane (idle) }

abbrev h21 : List Entry
h21 = h20 ++ (Answered 0 refused) ∷ []

abbrev v36 : View
v36 = record v35 { lost = true }

abbrev v37 : View
v37 = v36

abbrev h22 : List Entry
h22 = h21 ++ (Foreign flushes) ∷ []

abbrev v38 : View
v38 = v37

abbrev h23 : List Entry
h23 = h22 ++ (Reboot) ∷ []

abbrev v39 : View
v39 = v38

abbrev h24 : List Entry
h24 = h23 ++ (Failed) ∷ []

abbrev r1 : Reaches h1 v1
r1 = enters h1 v1 h0 start (Began 0 (open_op the_file 0)) r0 refl (record { slotted = tt; lanes = turns_at_0 (idle) (busy 0 (open_op the_file 0) starts) refl refl; calls = record { next = refl; wait = λ x. refl }; adds = record { seq = refl; added = λ w. refl; lost = λ e. e }; slots = record { opens = λ l s. refl; gave = λ f. refl }; places = record { there = λ i. (refl, refl) } })

abbrev r2 : Reaches h1 v2
r2 = moves h1 v2 v1 r1 (opens (record { l = 0; from = 0; file = the_file; slot = 0; lanes = turns_at_0 (busy 0 (open_op the_file 0) (starts)) (busy 0 (open_op the_file 0) (ready done)) refl refl; calls = record { next = refl; wait = λ x. refl }; adds = record { seq = refl; added = λ w. refl; lost = λ e. e }; places = record { there = λ i. (refl, refl) }; warm = refl; free = refl; gave = λ f. refl; holds = refl; others = other_slots }))

abbrev r3 : Reaches h2 v3
r3 = enters h2 v3 h1 v2 (Answered 0 done) r2 refl (record { from = 0; op = open_op the_file 0; lanes = turns_at_0 (busy 0 (open_op the_file 0) (ready done)) (idle) refl refl; calls = record { next = refl; wait = λ x. refl }; adds = record { seq = refl; added = λ w. refl; lost = λ e. e }; slots = record { opens = λ l s. refl; gave = λ f. refl }; places = record { there = λ i. (refl, refl) } })

abbrev r4 : Reaches h3 v4
r4 = enters h3 v4 h2 v3 (Began 0 (write_op the_file 0 (7 ∷ []))) r3 refl (record { slotted = tt; lanes = turns_at_0 (idle) (busy 2 (write_op the_file 0 (7 ∷ [])) starts) refl refl; calls = record { next = refl; wait = λ x. refl }; adds = record { seq = refl; added = λ w. refl; lost = λ e. e }; slots = record { opens = λ l s. refl; gave = λ f. refl }; places = record { there = λ i. (refl, refl) } })

abbrev r5 : Reaches h3 v5
r5 = moves h3 v5 v4 r4 (adds (record { l = 0; from = 2; op = write_op the_file 0 (7 ∷ []); has = tt; lanes = turns_at_0 (busy 2 (write_op the_file 0 (7 ∷ [])) (starts)) (busy 2 (write_op the_file 0 (7 ∷ [])) (ready done)) refl refl; calls = record { next = refl; wait = λ x. refl }; slots = record { opens = λ l s. refl; gave = λ f. refl }; found = refl; seq = refl; added = refl; others_added = one_added_less; there = λ i y e. pending_as 1 unsent i _ e; fly = λ i. refl; others = λ i e. pending_as 1 unsent i _ e }))

abbrev r6 : Reaches h4 v6
r6 = enters h4 v6 h3 v5 (Answered 0 done) r5 refl (record { from = 2; op = write_op the_file 0 (7 ∷ []); lanes = turns_at_0 (busy 2 (write_op the_file 0 (7 ∷ [])) (ready done)) (idle) refl refl; calls = record { next = refl; wait = λ x. refl }; adds = record { seq = refl; added = λ w. refl; lost = λ e. e }; slots = record { opens = λ l s. refl; gave = λ f. refl }; places = record { there = λ i. (refl, refl) } })

abbrev r7 : Reaches h4 v7
r7 = moves h4 v7 v6 r6 (makes_write (record { x = 0; file = the_file; offset = 0; bytes = 7 ∷ []; how = 0; calls = record { numbered = refl; next = refl; is = refl; others = only_call_less 0 (write the_file 0 (7 ∷ []) 0) }; adds = record { seq = refl; added = λ w. refl; lost = λ e. e }; lanes = record { lane = λ l. refl }; slots = record { opens = λ l s. refl; gave = λ f. refl }; alone = λ z e. no_call_is (commit the_file) e; picks = λ i y e. record { cell = record { byte = y; number = 1; mark = unsent }; was = pending_as 1 unsent i _ e; byte_is = refl; free = refl; rest = refl; fly = flying_as i _ e }; others = λ i e. (sym (pending_as 1 unsent i _ e), flying_as i _ e) }))

abbrev r8 : Reaches h5 v8
r8 = enters h5 v8 h4 v7 (Sent 0 (write the_file 0 (7 ∷ []) 0)) r7 refl ((refl, refl))

abbrev r9 : Reaches h6 v9
r9 = enters h6 v9 h5 v8 (Executed 0 (write the_file 0 (7 ∷ []) 0) (wrote 0 1 0 (5 ∷ []))) r8 refl (refl)

abbrev r10 : Reaches h7 v10
r10 = enters h7 v10 h6 v9 (Delivered 0 (wrote 0 1 0 (5 ∷ []))) r9 refl (record { quiet = λ l from op a e. no_lane l from op a e; lanes = record { lane = λ l. refl }; adds = record { seq = refl; added = λ w. refl; lost = λ e. e }; opens = λ l s. refl; how = inr (inl (record { call = write the_file 0 (7 ∷ []) 0; waits = refl; gone = refl; others = λ z ne. sym (only_call_less 0 (write the_file 0 (7 ∷ []) 0) z ne); next = refl; places = acknowledged })) })

abbrev r11 : Reaches h8 v11
r11 = enters h8 v11 h7 v10 (Began 0 (sync_op the_file)) r10 refl (record { slotted = tt; lanes = turns_at_0 (idle) (busy 7 (sync_op the_file) starts) refl refl; calls = record { next = refl; wait = λ x. refl }; adds = record { seq = refl; added = λ w. refl; lost = λ e. e }; slots = record { opens = λ l s. refl; gave = λ f. refl }; places = record { there = λ i. (refl, refl) } })

abbrev r12 : Reaches h8 v12
r12 = moves h8 v12 v11 r11 (proceeds (record { l = 0; from = 7; op = sync_op the_file; before = starts; after = joins 1; goes = queues (sync_op the_file) the_file refl refl; lanes = turns_at_0 (busy 7 (sync_op the_file) (starts)) (busy 7 (sync_op the_file) (joins 1)) refl refl; calls = record { next = refl; wait = λ x. refl }; adds = record { seq = refl; added = λ w. refl; lost = λ e. e }; slots = record { opens = λ l s. refl; gave = λ f. refl }; places = record { there = λ i. (refl, refl) } }))

abbrev r13 : Reaches h8 v13
r13 = moves h8 v13 v12 r12 (makes_commit (record { x = 1; file = the_file; calls = record { numbered = refl; next = refl; is = refl; others = only_call_less 1 (commit the_file) }; adds = record { seq = refl; added = λ w. refl; lost = λ e. e }; lanes = record { lane = λ l. refl }; slots = record { opens = λ l s. refl; gave = λ f. refl }; places = record { there = λ i. (refl, refl) }; grounded = λ i e. refl }))

abbrev r14 : Reaches h9 v14
r14 = enters h9 v14 h8 v13 (Sent 1 (commit the_file)) r13 refl ((refl, refl))

abbrev r15 : Reaches h10 v15
r15 = enters h10 v15 h9 v14 (Executed 1 (commit the_file) (committed 0 (5 ∷ []))) r14 refl (refl)

abbrev r16 : Reaches h11 v16
r16 = enters h11 v16 h10 v15 (Delivered 1 (committed 0 (5 ∷ []))) r15 refl (record { quiet = quiet_at (busy 7 (sync_op the_file) (joins 1)) (not_ready 7 (sync_op the_file) (joins 1) (joins_not_ready 1)); lanes = record { lane = λ l. refl }; adds = record { seq = refl; added = λ w. refl; lost = λ e. e }; opens = λ l s. refl; how = inr (inl (record { call = commit the_file; waits = refl; gone = refl; others = λ z ne. sym (only_call_less 1 (commit the_file) z ne); next = refl; places = made_stable })) })

abbrev r17 : Reaches h11 v17
r17 = moves h11 v17 v16 r16 (proceeds (record { l = 0; from = 7; op = sync_op the_file; before = joins 1; after = ready done; goes = firms (sync_op the_file) the_file 1 refl (record { rest = λ i c f e. absurd (no_cell_is c e); fly = λ i g f e. absurd (no_flight_is g e) }) refl; lanes = turns_at_0 (busy 7 (sync_op the_file) (joins 1)) (busy 7 (sync_op the_file) (ready done)) refl refl; calls = record { next = refl; wait = λ x. refl }; adds = record { seq = refl; added = λ w. refl; lost = λ e. e }; slots = record { opens = λ l s. refl; gave = λ f. refl }; places = record { there = λ i. (refl, refl) } }))

abbrev r18 : Reaches h12 v18
r18 = enters h12 v18 h11 v17 (Answered 0 done) r17 refl (record { from = 7; op = sync_op the_file; lanes = turns_at_0 (busy 7 (sync_op the_file) (ready done)) (idle) refl refl; calls = record { next = refl; wait = λ x. refl }; adds = record { seq = refl; added = λ w. refl; lost = λ e. e }; slots = record { opens = λ l s. refl; gave = λ f. refl }; places = record { there = λ i. (refl, refl) } })

abbrev r19 : Reaches h13 v19
r19 = enters h13 v19 h12 v18 (Began 0 (cut_op the_file 0)) r18 refl (record { slotted = tt; lanes = turns_at_0 (idle) (busy 12 (cut_op the_file 0) starts) refl refl; calls = record { next = refl; wait = λ x. refl }; adds = record { seq = refl; added = λ w. refl; lost = λ e. e }; slots = record { opens = λ l s. refl; gave = λ f. refl }; places = record { there = λ i. (refl, refl) } })

abbrev r20 : Reaches h13 v20
r20 = moves h13 v20 v19 r19 (makes_call (record { x = 2; call = resize the_file 0; calls = record { numbered = refl; next = refl; is = refl; others = only_call_less 2 (resize the_file 0) }; adds = record { seq = refl; added = λ w. refl; lost = λ e. e }; lanes = record { lane = λ l. refl }; slots = record { opens = λ l s. refl; gave = λ f. refl }; places = record { there = λ i. (refl, refl) }; asked = (0, 12, refl) }))

abbrev r21 : Reaches h14 v21
r21 = enters h14 v21 h13 v20 (Sent 2 (resize the_file 0)) r20 refl ((refl, refl))

abbrev r22 : Reaches h15 v22
r22 = enters h15 v22 h14 v21 (Executed 2 (resize the_file 0) (told 0)) r21 refl (refl)

abbrev r23 : Reaches h16 v23
r23 = enters h16 v23 h15 v22 (Delivered 2 (told 0)) r22 refl (record { quiet = quiet_at (busy 12 (cut_op the_file 0) (starts)) (not_ready 12 (cut_op the_file 0) (starts) starts_not_ready); lanes = record { lane = λ l. refl }; adds = record { seq = refl; added = λ w. refl; lost = λ e. e }; opens = λ l s. refl; how = inr (inl (record { call = resize the_file 0; waits = refl; gone = refl; others = λ z ne. sym (only_call_less 2 (resize the_file 0) z ne); next = refl; places = λ i. (refl, refl) })) })

abbrev r24 : Reaches h16 v24
r24 = moves h16 v24 v23 r23 (cuts (record { l = 0; from = 12; file = the_file; size = 0; is = refl; lanes = record { lane = λ l. refl }; calls = record { next = refl; wait = λ x. refl }; adds = record { seq = refl; added = λ w. refl; lost = λ e. e }; slots = record { opens = λ l s. refl; gave = λ f. refl }; places = λ i. inl (refl, refl) }))

abbrev r25 : Reaches h16 v25
r25 = moves h16 v25 v24 r24 (proceeds (record { l = 0; from = 12; op = cut_op the_file 0; before = starts; after = ready done; goes = cuts_none the_file 0 (λ y e. absurd (no_call_is (resize the_file 0) e)); lanes = turns_at_0 (busy 12 (cut_op the_file 0) (starts)) (busy 12 (cut_op the_file 0) (ready done)) refl refl; calls = record { next = refl; wait = λ x. refl }; adds = record { seq = refl; added = λ w. refl; lost = λ e. e }; slots = record { opens = λ l s. refl; gave = λ f. refl }; places = record { there = λ i. (refl, refl) } }))

abbrev r26 : Reaches h17 v26
r26 = enters h17 v26 h16 v25 (Answered 0 done) r25 refl (record { from = 12; op = cut_op the_file 0; lanes = turns_at_0 (busy 12 (cut_op the_file 0) (ready done)) (idle) refl refl; calls = record { next = refl; wait = λ x. refl }; adds = record { seq = refl; added = λ w. refl; lost = λ e. e }; slots = record { opens = λ l s. refl; gave = λ f. refl }; places = record { there = λ i. (refl, refl) } })

abbrev r27 : Reaches h18 v27
r27 = enters h18 v27 h17 v26 (Began 0 (put_op the_file 0 (7 ∷ []))) r26 refl (record { slotted = tt; lanes = turns_at_0 (idle) (busy 17 (put_op the_file 0 (7 ∷ [])) starts) refl refl; calls = record { next = refl; wait = λ x. refl }; adds = record { seq = refl; added = λ w. refl; lost = λ e. e }; slots = record { opens = λ l s. refl; gave = λ f. refl }; places = record { there = λ i. (refl, refl) } })

abbrev r28 : Reaches h18 v28
r28 = moves h18 v28 v27 r27 (adds (record { l = 0; from = 17; op = put_op the_file 0 (7 ∷ []); has = tt; lanes = turns_at_0 (busy 17 (put_op the_file 0 (7 ∷ [])) (starts)) (busy 17 (put_op the_file 0 (7 ∷ [])) (joins 2)) refl refl; calls = record { next = refl; wait = λ x. refl }; slots = record { opens = λ l s. refl; gave = λ f. refl }; found = refl; seq = refl; added = refl; others_added = two_added_less; there = λ i y e. pending_as 2 unsent i _ e; fly = λ i. refl; others = λ i e. pending_as 2 unsent i _ e }))

abbrev r29 : Reaches h18 v29
r29 = moves h18 v29 v28 r28 (gives_up_put (record { l = 0; from = 17; file = the_file; offset = 0; bytes = 7 ∷ []; upto = 2; lanes = turns_at_0 (busy 17 (put_op the_file 0 (7 ∷ [])) (joins 2)) (busy 17 (put_op the_file 0 (7 ∷ [])) (ready refused)) refl refl; drops = record { calls = record { next = refl; wait = λ x. refl }; adds = record { seq = refl; added = λ w. refl; lost = λ e. e }; grounded = λ i e. refl; none = λ i e. (refl, refl); others = λ i ne. (sym (pending_as 2 unsent i _ (elsewhere i ne)), refl) }; slots = record { opens = λ l s. refl; gave = λ f. refl }; puts_only = its_own }))

abbrev r30 : Reaches h19 v30
r30 = enters h19 v30 h18 v29 (Answered 0 refused) r29 refl (record { from = 17; op = put_op the_file 0 (7 ∷ []); lanes = turns_at_0 (busy 17 (put_op the_file 0 (7 ∷ [])) (ready refused)) (idle) refl refl; calls = record { next = refl; wait = λ x. refl }; adds = record { seq = refl; added = λ w. refl; lost = λ e. e }; slots = record { opens = λ l s. refl; gave = λ f. refl }; places = record { there = λ i. (refl, refl) } })

abbrev r31 : Reaches h20 v31
r31 = enters h20 v31 h19 v30 (Began 0 (close_op the_file 0)) r30 refl (record { slotted = inl refl; lanes = turns_at_0 (idle) (busy 19 (close_op the_file 0) starts) refl refl; calls = record { next = refl; wait = λ x. refl }; adds = record { seq = refl; added = λ w. refl; lost = λ e. e }; slots = record { opens = λ l s. refl; gave = λ f. refl }; places = record { there = λ i. (refl, refl) } })

abbrev r32 : Reaches h20 v32
r32 = moves h20 v32 v31 r31 (proceeds (record { l = 0; from = 19; op = close_op the_file 0; before = starts; after = joins 2; goes = queues (close_op the_file 0) the_file refl refl; lanes = turns_at_0 (busy 19 (close_op the_file 0) (starts)) (busy 19 (close_op the_file 0) (joins 2)) refl refl; calls = record { next = refl; wait = λ x. refl }; adds = record { seq = refl; added = λ w. refl; lost = λ e. e }; slots = record { opens = λ l s. refl; gave = λ f. refl }; places = record { there = λ i. (refl, refl) } }))

abbrev r33 : Reaches h20 v33
r33 = moves h20 v33 v32 r32 (frees (record { l = 0; from = 19; file = the_file; slot = 0; work = joins 2; is = refl; was = refl; lanes = record { lane = λ l. refl }; calls = record { next = refl; wait = λ x. refl }; adds = record { seq = refl; added = λ w. refl; lost = λ e. e }; places = record { there = λ i. (refl, refl) }; gave = λ f. refl; others = its_slot }))

abbrev r34 : Reaches h20 v34
r34 = moves h20 v34 v33 r33 (gives_up (record { l = 0; from = 19; file = the_file; slot = 0; upto = 2; lanes = turns_at_0 (busy 19 (close_op the_file 0) (joins 2)) (busy 19 (close_op the_file 0) (ready refused)) refl refl; shut = no_slot; ended = other_lanes _; drops = record { calls = record { next = refl; wait = λ x. refl }; adds = record { seq = refl; added = λ w. refl; lost = λ e. e }; grounded = λ i e. refl; none = λ i e. (refl, refl); others = λ i ne. (refl, refl) }; opens = λ k s. refl; gave = refl; others = λ f ne. bytes_ne f the_file ne }))

abbrev r35 : Reaches h21 v35
r35 = enters h21 v35 h20 v34 (Answered 0 refused) r34 refl (record { from = 19; op = close_op the_file 0; lanes = turns_at_0 (busy 19 (close_op the_file 0) (ready refused)) (idle) refl refl; calls = record { next = refl; wait = λ x. refl }; adds = record { seq = refl; added = λ w. refl; lost = λ e. e }; slots = record { opens = λ l s. refl; gave = λ f. refl }; places = record { there = λ i. (refl, refl) } })

abbrev r36 : Reaches h21 v36
r36 = moves h21 v36 v35 r35 (loses (record { lanes = record { lane = λ l. refl }; calls = record { next = refl; wait = λ x. refl }; adds = record { seq = refl; added = λ w. refl; lost = λ e. refl }; slots = record { opens = λ l s. refl; gave = λ f. refl }; places = record { there = λ i. (refl, refl) } }))

abbrev r37 : Reaches h22 v37
r37 = enters h22 v37 h21 v36 (Foreign flushes) r36 refl (refl)

abbrev r38 : Reaches h23 v38
r38 = enters h23 v38 h22 v37 (Reboot) r37 refl (refl)

abbrev r39 : Reaches h24 v39
r39 = enters h24 v39 h23 v38 (Failed) r38 refl (refl)

pub is_reached : IsReached
is_reached = record { client = v39; run = r39; moved = refl }
