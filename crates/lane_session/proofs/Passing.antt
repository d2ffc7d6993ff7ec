-- Calls of a clock, a link and a sink one after the other.
use Rattle.std.proofs.Common.{◌≡◌, ℕ, List, [], ◌∷◌, ◌++◌, Option, Some, None, refl, sym, ap, ◌∙◌, append_assoc}
use Rattle.std.proofs.lemmas.List.{append-nil}
use Rattle.world_model.specs.declared.entry.Entry.{Entry}
use Rattle.world_model.specs.History.{History}
use Rattle.world_model.specs.Told.{Adds, Tells, Relates}
use Rattle.outside.specs.Clock.{ReadsClock}
use Rattle.outside.specs.Link.{NotesOnly}
use Rattle.lane_session.specs.Streams.{Appends, Says, Reads, ReadsAll, Passes}

-- ---- what is written

pub appends_same : (old : Option (List ℕ)) → Appends old old []
appends_same None = tt
appends_same (Some old) = sym (append-nil old)

pub appends_then : (a b c : Option (List ℕ)) (t u : List ℕ) → Appends a b t → Appends b c u → Appends a c (t ++ u)
appends_then None b c t u p q = tt
appends_then (Some a) None c t u p q = absurd p
appends_then (Some a) (Some b) None t u p q = absurd q
appends_then (Some a) (Some b) (Some c) t u p q = q ∙ ap (λ (x : List ℕ). x ++ u) p ∙ append_assoc a t u

-- ---- readings

pub reads_same : (a : Option (List ℕ)) → ReadsAll a a []
reads_same None = refl
reads_same (Some a) = sym (append-nil a)

pub reads_one : (a b : Option (List ℕ)) (ms : ℕ) → ReadsClock a b ms → ReadsAll a b (ms ∷ [])
reads_one None b ms r = r
reads_one (Some x) None ms r = tt
reads_one (Some x) (Some y) ms r = r

pub reads_then : (a b c : Option (List ℕ)) (g i : List ℕ) → ReadsAll a b g → ReadsAll b c i → ReadsAll a c (g ++ i)
reads_then None b c g i p q = none b p q
  where
    none : (b : Option (List ℕ)) → b ≡ None → ReadsAll b c i → c ≡ None
    none None e q = q
    none (Some b) e q = absurd cc
reads_then (Some a) None c g i p q = gone c q
  where
    gone : (c : Option (List ℕ)) → c ≡ None → ReadsAll (Some a) c (g ++ i)
    gone None e = tt
    gone (Some c) e = absurd cc
reads_then (Some a) (Some b) None g i p q = tt
reads_then (Some a) (Some b) (Some c) g i p q = q ∙ ap (λ (x : List ℕ). x ++ i) p ∙ append_assoc a g i

-- ---- histories

pub relates_same : (a : Option History) (R : List Entry → List Entry → Type 0) → ((h : List Entry) → R h h) → Relates a a R
relates_same None R same = tt
relates_same (Some a) R same = same a.entries

pub relates_less : (a b : Option History) (R S : List Entry → List Entry → Type 0) → ((h k : List Entry) → R h k → S h k) → Relates a b R → Relates a b S
relates_less None b R S less p = tt
relates_less (Some a) None R S less p = absurd p
relates_less (Some a) (Some b) R S less p = less a.entries b.entries p

pub relates_then : (a b c : Option History) (R S T : List Entry → List Entry → Type 0) → ((h k l : List Entry) → R h k → S k l → T h l) → Relates a b R → Relates b c S → Relates a c T
relates_then None b c R S T join p q = tt
relates_then (Some a) None c R S T join p q = absurd p
relates_then (Some a) (Some b) None R S T join p q = absurd q
relates_then (Some a) (Some b) (Some c) R S T join p q = join a.entries b.entries c.entries p q

-- a call of the link
pub relates_call : (a b : Option History) (es : List Entry) (R : List Entry → List Entry → Type 0) → ((old new : History) → Adds old new es → R old.entries new.entries) → Tells a b es → Relates a b R
relates_call None b es R step t = tt
relates_call (Some a) None es R step t = absurd t
relates_call (Some a) (Some b) es R step t = step a b t

-- a note
pub relates_note : (a b : Option History) (es : List Entry) (R : List Entry → List Entry → Type 0) → ((h k : List Entry) → k ≡ h ++ es → R h k) → NotesOnly a b es → Relates a b R
relates_note None b es R step t = tt
relates_note (Some a) None es R step t = absurd t
relates_note (Some a) (Some b) es R step t = step a.entries b.entries t.grown

-- ---- all three

module _ (r0 r1 r2 : Option (List ℕ)) (t0 t1 t2 : Option History) (w0 w1 w2 : Option (List ℕ)) (R S T : List ℕ → List ℕ → List Entry → List Entry → Type 0) where
  pub passes_then : ((g i t u : List ℕ) (h k l : List Entry) → R g t h k → S i u k l → T (g ++ i) (t ++ u) h l)
      → Passes r0 r1 t0 t1 w0 w1 R → Passes r1 r2 t1 t2 w1 w2 S → Passes r0 r2 t0 t2 w0 w2 T
  passes_then join p q = record {
    given = p.given ++ q.given;
    read = reads_then r0 r1 r2 p.given q.given p.read q.read;
    text = p.text ++ q.text;
    added = appends_then w0 w1 w2 p.text q.text p.added q.added;
    told = relates_then t0 t1 t2 _ _ _ (λ h k l x y. join p.given q.given p.text q.text h k l x y) p.told q.told;
  }

module _ (r0 r1 : Option (List ℕ)) (t0 t1 : Option History) (w0 w1 : Option (List ℕ)) (R S : List ℕ → List ℕ → List Entry → List Entry → Type 0) where
  pub passes_less : ((g t : List ℕ) (h k : List Entry) → R g t h k → S g t h k) → Passes r0 r1 t0 t1 w0 w1 R → Passes r0 r1 t0 t1 w0 w1 S
  passes_less less p = record {
    given = p.given;
    read = p.read;
    text = p.text;
    added = p.added;
    told = relates_less t0 t1 _ _ (λ h k x. less p.given p.text h k x) p.told;
  }

module _ (r : Option (List ℕ)) (t0 t1 : Option History) (w : Option (List ℕ)) (R : List Entry → List Entry → Type 0) (S : List ℕ → List ℕ → List Entry → List Entry → Type 0) where
  -- the link alone
  pub passes_link : ((h k : List Entry) → R h k → S [] [] h k) → Relates t0 t1 R → Passes r r t0 t1 w w S
  passes_link less p = record {
    given = [];
    read = reads_same r;
    text = [];
    added = appends_same w;
    told = relates_less t0 t1 R _ less p;
  }

-- nothing was called
pub passes_same : (r : Option (List ℕ)) (t : Option History) (w : Option (List ℕ)) (S : List ℕ → List ℕ → List Entry → List Entry → Type 0) → ((h : List Entry) → S [] [] h h)
    → Passes r r t t w w S
passes_same r t w S same = record { given = []; read = reads_same r; text = []; added = appends_same w; told = relates_same t _ same }

-- the clock and the link
pub passes_reads : (r0 r1 : Option (List ℕ)) (t0 t1 : Option History) (w : Option (List ℕ)) (R : List ℕ → List Entry → List Entry → Type 0) (S : List ℕ → List ℕ → List Entry → List Entry → Type 0)
    → ((g : List ℕ) (h k : List Entry) → R g h k → S g [] h k) → Reads r0 r1 (λ g. Relates t0 t1 (R g)) → Passes r0 r1 t0 t1 w w S
passes_reads r0 r1 t0 t1 w R S less p = record {
  given = p.given;
  read = p.are;
  text = [];
  added = appends_same w;
  told = relates_less t0 t1 _ _ (λ h k x. less p.given h k x) p.is;
}

-- the link and the sink
pub passes_says : (r : Option (List ℕ)) (t0 t1 : Option History) (w0 w1 : Option (List ℕ)) (R : List ℕ → List Entry → List Entry → Type 0) (S : List ℕ → List ℕ → List Entry → List Entry → Type 0)
    → ((t : List ℕ) (h k : List Entry) → R t h k → S [] t h k) → Says w0 w1 (λ t. Relates t0 t1 (R t)) → Passes r r t0 t1 w0 w1 S
passes_says r t0 t1 w0 w1 R S less p = record {
  given = [];
  read = reads_same r;
  text = p.text;
  added = p.added;
  told = relates_less t0 t1 _ _ (λ h k x. less p.text h k x) p.is;
}
