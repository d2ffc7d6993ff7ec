-- What an operation that makes a file stable says of a write that counts for it.
use Rattle.std.proofs.Common.{inl, inr, ◌≡◌, ◌≢◌, ◌<◌, ◌≤◌, ◌+◌, ℕ, suc, List, [], ◌∷◌, ◌++◌, length, Option, Some, None, true, refl, sym, ap, ◌∙◌, arith}
use Rattle.model_writes.specs.Story.{File, Spot, Op, write_op, put_op, sync_op, close_op, cut_op, open_op, plain_op, Call, done, refused, Entry, Began, Answered, At, Told, Server, is_put, Firms}
use Rattle.model_writes.specs.Settled.{Ends, Counts, itself, later, over, Wrote}
use Rattle.model_writes.specs.Machine.{View, Cell, Flight, busy, Work, starts, joins, ready, Added, SamePlaces, Clear, HasBytes, Adds, Answers, Enters, Move}
use Rattle.model_writes.specs.Reaches.{Reaches}
use Rattle.model_writes.proofs.AtLemmas.{At-cases, At-grow, At-below, At-shorten, same_or_not}
use Rattle.model_writes.proofs.OperationsOfLanes.{lanes_fact, entry_adds, add_turn, same_in, one_in, began_is, busy_same, Shift, quiet, starting, noting, shift, Came, stood, queued, added, firmed, failed, came_to}
use Rattle.model_writes.proofs.SlotsHoldFiles.{less_ends}
use Rattle.model_writes.proofs.TouchedGrows.{less_counts}
use Rattle.model_writes.proofs.Excuses.{Excused, touched, on_entry, on_move, noted}
use Rattle.model_writes.proofs.NothingPendingStays.{Nothing, entry_none, InAt, move_none}
use Rattle.model_writes.proofs.ServerHasBytes.{Holds}

abbrev pub Under : View → Spot → ℕ → Work → Type 0
Under c i n starts = Unit {0}
Under c i n (joins upto) = n ≤ upto
Under c i n (ready done) = Nothing c i
Under c i n (ready refused) = Unit {0}

pub record Says (h : List Entry) (c : View) (i : Spot) (n l s : ℕ) (op : Op) : Type 0 where
  pub at_work : (work : Work) → c.lane l ≡ busy s op work → Under c i n work
  pub at_end : (j : ℕ) → Ends h l s j done → Nothing c i

abbrev pub SyncedAt : Told → List Entry → ℕ → View → Type 0
SyncedAt t h p c = (w : ℕ) (i : Spot) (y : ℕ) (a : Added) (l s : ℕ) (op : Op) → Wrote h w i y → c.added w ≡ Some a → Counts h w s → At h s (Began l op) → Firms op i.file → (Excused t h p c w i → ⊥) → Says h c i a.number l s op

abbrev pub HoldsAt : Told → List Entry → ℕ → View → Type 0
HoldsAt t h p c = (w : ℕ) (i : Spot) (y : ℕ) (a : Added) → Wrote h w i y → c.added w ≡ Some a → (Excused t h p c w i → ⊥) → Holds t h p (t.at p) c.wait i y a.number (c.rest i) (c.fly i)

under_stays : (b c : View) (i : Spot) (n : ℕ) (work : Work) → (Nothing b i → Nothing c i) → Under b i n work → Under c i n work
under_stays b c i n starts k u = tt
under_stays b c i n (joins upto) k u = u
under_stays b c i n (ready done) k u = k u
under_stays b c i n (ready refused) k u = tt

pub less_wrote : (h : List Entry) (e : Entry) (w : ℕ) (i : Spot) (y : ℕ) → w < length h → Wrote (h ++ e ∷ []) w i y → Wrote h w i y
less_wrote h e w i y low o = record { lane = o.lane; op = o.op; began = At-shorten h (e ∷ []) w (Began o.lane o.op) low o.began; means_it = o.means_it }

-- ---- over an entry
pub synced_entry : (t : Told) (h : List Entry) (b c : View) (e : Entry) → Reaches h b → Enters (length h) b e c → SyncedAt t h (length h) b → SyncedAt t (h ++ e ∷ []) (suc (length h)) c
synced_entry t h b c e r g f w i y a l s op wr ad k at fi n =
    record {
      at_work = λ work is. work_of (shift (length h) b c e g) work is;
      at_end = λ j d. elim (At-cases h e j (Answered l done) d.answered) [
        | inl old ↦
            let jl = At-below h j (Answered l done) old in
            let sj = d.after in
            let sl : s < length h = omega (arith, sj, jl) in
            entry_none (length h) b c e i g ((before sl).at_end j (less_ends h e l s j done jl d))
        | inr m ↦
            let is = m.0 in
            let sj = d.after in
            let sl : s < length h = omega (arith, sj, is) in
            let q : Answers b c l done = rw m.1 at g in
            entry_none (length h) b c e i g ((before sl).at_work (ready done) (noted h b c l s op done r q (At-shorten h (e ∷ []) s (Began l op) sl at) (λ j2 d2 z.
            let low = At-below h j2 (Answered l d2) z.answered in
            d.first j2 d2 z.after (omega (arith, is, low)) (At-grow h (e ∷ []) j2 (Answered l d2) z.answered))))
      ];
    }
  where
    ad0 : b.added w ≡ Some a
    ad0 = sym ((entry_adds (length h) b c e g).added w) ∙ ad

    wl : w < length h
    wl = let z = (lanes_fact h b r).filled w a ad0 in At-below h w (Began z.lane z.op) z.began

    before : s < length h → Says h b i a.number l s op
    before sl = f w i y a l s op (less_wrote h e w i y wl wr) ad0 (less_counts h e w s sl k) (At-shorten h (e ∷ []) s (Began l op) sl at) fi (λ x. on_entry t h b c e w i y r g (less_wrote h e w i y wl wr) x n)

    from_old : (work : Work) → b.lane l ≡ busy s op work → Under c i a.number work
    from_old work is = under_stays b c i a.number work (entry_none (length h) b c e i g) ((before (At-below h s (Began l op) ((lanes_fact h b r).busy_is l s op work is).began)).at_work work is)

    work_of : Shift (length h) b e c → (work : Work) → c.lane l ≡ busy s op work → Under c i a.number work
    work_of (quiet lanes x z) work is = from_old work (sym (lanes l) ∙ is)
    work_of (starting l0 op0 is0 u) work is = elim (same_or_not l l0) [
      | inl here ↦ let z = busy_same (length h) s op0 op starts work (sym u.is ∙ ap (λ n. c.lane n) (sym here) ∙ is) in rw (← z.2) tt
      | inr ne ↦ from_old work (sym (u.others l ne) ∙ is)
    ]
    work_of (noting l0 from0 op0 a0 is0 u) work is = elim (same_or_not l l0) [
      | inl here ↦ absurd (cc (u.is, ap (λ n. c.lane n) here, is))
      | inr ne ↦ from_old work (sym (u.others l ne) ∙ is)
    ]

-- ---- over a move
has_firms : (op : Op) (f : File) → HasBytes op → Firms op f → is_put op ≡ true
has_firms (put_op d o y) f has fi = refl
has_firms (write_op d o y) f has fi = absurd fi
has_firms (sync_op d) f has fi = absurd has
has_firms (close_op d s) f has fi = absurd has
has_firms (cut_op d z) f has fi = absurd has
has_firms (open_op d s) f has fi = absurd has
has_firms plain_op f has fi = absurd has

-- a place of which what is there has a number, where nothing up to it is there
cleared : (t : Told) (h : List Entry) (p : ℕ) (s : Server) (st : ℕ → Option Call) (c : View) (i : Spot) (y n upto : ℕ) → Clear i.file upto c → n ≤ upto → Holds t h p s st i y n (c.rest i) (c.fly i) → Nothing c i
cleared t h p s st c i y n upto k le q = go (c.rest i) (c.fly i) refl refl q
  where
    go : (o : Option Cell) (g : Option Flight) → c.rest i ≡ o → c.fly i ≡ g → Holds t h p s st i y n o g → Nothing c i
    go None None a b q = (a, b)
    go (Some cell) g a b q = let l = k.rest i cell refl a in let e = q.1 in absurd (omega (arith, l, e, le))
    go None (Some f) a b q = let l = k.fly i f refl b in let e = q.1 in absurd (omega (arith, l, e, le))

pub some_add : (a d : Added) → Some a ≡ Some d → a.number ≡ d.number
some_add a d e = ap (λ (z : Added). z.number) (is a d e)
  where
    is : (a d : Added) → Some a ≡ Some d → a ≡ d
    is a d e = cc

-- bytes that came in over a write touch it
pub came_over : (t : Told) (h : List Entry) (b c : View) (w : ℕ) (i : Spot) → Reaches h b → (m : InAt b c i) → w ≢ m.adds_.from → (Excused t h (length h) c w i → ⊥) → ⊥
came_over t h b c w i r m ne n =
    let o = (lanes_fact h b r).busy_is m.adds_.l m.adds_.from m.adds_.op starts m.adds_.lanes.was in
    n (touched (over m.adds_.from m.adds_.l m.byte m.adds_.op (λ e. ne (sym e)) (At-below h m.adds_.from (Began m.adds_.l m.adds_.op) o.began) o.began (λ k a lo hi got. o.unanswered k a lo got) m.means_it (record { a = record { number = b.seq + 1; put = is_put m.adds_.op }; is = m.adds_.added })))

pub synced_move : (t : Told) (h : List Entry) (b c : View) → Reaches h b → Move b c → HoldsAt t h (length h) b → SyncedAt t h (length h) b → SyncedAt t h (length h) c
synced_move t h b c r m hf f w i y a l s op wr ad k at fi n = elim (add_turn b c m) [
  | same_in q ↦ old (sym (q.added w) ∙ ad)
  | one_in q ↦ elim (same_or_not w q.from) [ inl is ↦ new q is | inr ne ↦ old (sym (q.others_added w ne) ∙ ad) ]
]
  where
    before : b.added w ≡ Some a → Says h b i a.number l s op
    before ad0 = f w i y a l s op wr ad0 k at fi (λ x. n (on_move t h b c w (length h) i r m x))

    none_on : b.added w ≡ Some a → Nothing b i → Nothing c i
    none_on ad0 q = elim (move_none b c i m q) [
      | inl z ↦ z
      | inr x ↦ absurd (came_over t h b c w i r x (λ is. absurd (cc (((lanes_fact h b r).busy_is x.adds_.l x.adds_.from x.adds_.op starts x.adds_.lanes.was).adds_by, is, ad0))) n)
    ]

    same_none : SamePlaces b c → Nothing b i → Nothing c i
    same_none q z = ((q.there i).0 ∙ z.0, (q.there i).1 ∙ z.1)

    work_of : b.added w ≡ Some a → (work : Work) → Came b c l s op i.file work → Under c i a.number work
    work_of ad0 _ (stood work was) = under_stays b c i a.number work (none_on ad0) ((before ad0).at_work work was)
    work_of ad0 _ (queued work e p) = rw e (((lanes_fact h b r).filled w a ad0).low)
    work_of ad0 _ (added work number e p a2 ad2 le lo) = rw e (let low = ((lanes_fact h b r).filled w a ad0).low in omega (arith, low, lo))
    work_of ad0 _ (firmed work upto e was cl gv same) = rw e (same_none same (cleared t h (length h) (t.at (length h)) b.wait b i y a.number upto cl ((before ad0).at_work (joins upto) was) (hf w i y a wr ad0 (λ x. n (on_move t h b c w (length h) i r m x)))))
    work_of ad0 _ (failed work e) = rw e tt

    old : b.added w ≡ Some a → Says h c i a.number l s op
    old ad0 = record {
      at_work = λ work is. work_of ad0 work (came_to b c m l s op i.file work fi is);
      at_end = λ j d. none_on ad0 ((before ad0).at_end j d);
    }

    -- the bytes of w come in: only w itself counts for it
    itself_only : (q : Adds b c) → w ≡ q.from → (s ≡ q.from) × (l ≡ q.l) × (op ≡ q.op)
    itself_only q is = elim k [
      | itself e ↦
          let o = (lanes_fact h b r).busy_is q.l q.from q.op starts q.lanes.was in
          let z = began_is h s l q.l op q.op at (rw (← e, is) o.began) in
          (sym e ∙ is, z.0, z.1)
      | later l2 j op2 at2 d lt ↦
          let o = (lanes_fact h b r).busy_is q.l q.from q.op starts q.lanes.was in
          let z = began_is h w l2 q.l op2 q.op at2 (rw is o.began) in
          absurd (o.unanswered j done (rw (← is) d.after) (rw (← z.0) d.answered))
    ]

    new_work : (q : Adds b c) → w ≡ q.from → (work : Work) → Came b c l s op i.file work → Under c i a.number work
    new_work q is _ (stood work was) =
        let z = itself_only q is in
        let e = busy_same q.from s q.op op starts work (sym q.lanes.was ∙ ap (λ n. b.lane n) (sym z.1) ∙ was) in
        rw (← e.2) tt
    new_work q is _ (queued work e p) = let z = itself_only q is in absurd (cc (p, has_firms op i.file (rw z.2 q.has) fi))
    new_work q is _ (added work number e p a2 ad2 le lo) = rw e (let z = itself_only q is in let u = some_add a a2 (sym ad ∙ ap (λ n. c.added n) (is ∙ sym z.0) ∙ ad2) in omega (arith, u, le))
    new_work q is _ (firmed work upto e was cl gv same) =
        let z = itself_only q is in
        absurd (cc ((busy_same q.from s q.op op starts (joins upto) (sym q.lanes.was ∙ ap (λ n. b.lane n) (sym z.1) ∙ was)).2))
    new_work q is _ (failed work e) = rw e tt

    new : (q : Adds b c) → w ≡ q.from → Says h c i a.number l s op
    new q is = record {
      at_work = λ work e. new_work q is work (came_to b c m l s op i.file work fi e);
      at_end = λ j d.
          let o = (lanes_fact h b r).busy_is q.l q.from q.op starts q.lanes.was in
          let z = itself_only q is in
          absurd (o.unanswered j done (rw (← z.0) d.after) (rw (← z.1) d.answered));
    }
