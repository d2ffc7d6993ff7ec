-- What is told of each operation while one write is looked after: before its bytes came in, and from then on.
use Rattle.core_session.proofs.Prelude.{◌≡◌, ◌≢◌, ◌≤◌, ◌+◌, ◌⊎◌, inl, inr, ℕ, Bool, true, false, nat_eq, List, Result, Err, refl, sym, ap, subst, ◌∙◌, eqb-true, eqb-false, IsOpen, Fault, Entry, Reply, Modes, Origin, Cuts, Pending, of_file, OnFile, with_bytes, FilePending, Turn, Saving, is_full, Shelf}
use Rattle.core_session.proofs.syncs.Aims.{aimed}
use Rattle.core_session.proofs.syncs.Causes.{IsWriter, OfOp, Comes, Adding, Saving_, Cutting}
use Rattle.core_session.proofs.syncs.Contents.{Common, common, common-replies, common-adds, common-cuts, common-gives, Known, known, Shows, known-replies, known-adds, known-cuts, known-given, known-own}
use Rattle.core_session.proofs.syncs.Levels.{Content, ContentReplies}
use Rattle.core_session.proofs.syncs.Passing.{Tale}
use Rattle.core_session.proofs.syncs.Plans.{Plan}
use Rattle.core_session.proofs.syncs.StageSteps.{clear-known}
use Rattle.core_session.proofs.syncs.Stages.{Stage, unsent, flies, again, held, stable, over, known-more}

-- another operation's bytes may have come over it
abbrev pub Across : Modes → Origin → List Entry → ℕ → ℕ → List ℕ → ℕ → Type 0
Across m origin h w x f i = (x ≢ w) × Comes m origin h x f i

-- what an operation may have done to the byte; Drop: it gave it up
pub data Doing (m : Modes) (origin : Origin) (h : List Entry) (w x kind : ℕ) (f : List ℕ) (i : ℕ) (Drop : Type 0) : Type 0 where
  came : Across m origin h w x f i → Doing m origin h w x kind f i Drop
  cut : Cuts m h x f i → Doing m origin h w x kind f i Drop
  dropped : Drop → Doing m origin h w x kind f i Drop

-- the families by which the byte is known
pub record Family : Type 1 where
  pub Fresh : ℕ → ℕ → Type 0
  pub Since : ℕ → Type 0
  pub Wrote : ℕ → List ℕ → Type 0
  pub Made : ℕ → Type 0

abbrev pub KnownBy : Family → ℕ → List ℕ → ℕ → ℕ → ℕ → Type 0 → ℕ → Pending → Type 0
KnownBy a q0 f i byte n Over q b = Known q0 f i byte n a.Fresh a.Since a.Wrote a.Made Over q b

abbrev pub StageBy : Family → ℕ → ℕ → ℕ → Type 0 → FilePending → Type 0
StageBy a i byte n Over of = Stage i byte n a.Fresh a.Since a.Wrote a.Made Over of

-- it was made stable
abbrev pub Evident : Family → Type 0
Evident a = (k : ℕ) × a.Since k × a.Made k

-- with something else over it
pub over-more : (a : Family) (i byte n : ℕ) (Over Over' : Type 0) (of : FilePending) → (Over → Over') → StageBy a i byte n Over of → StageBy a i byte n Over' of
over-more a i byte n Over Over' of o s =
    known-more i byte n a.Fresh a.Fresh a.Since a.Since a.Wrote a.Wrote a.Made a.Made Over Over' of (λ k xid flown is e x. x) (λ k st x. x) (λ k v x. x) (λ k x. x) o s

-- nothing came over it, or something did
pub split : (a : Family) (i byte n : ℕ) (Over : Type 0) (of : FilePending) → StageBy a i byte n Over of → StageBy a i byte n ⊥ of ⊎ Over
split a i byte n Over of (unsent ready at z) = inl (unsent ready at z)
split a i byte n Over of (flies k flown at b m none f s) = inl (flies k flown at b m none f s)
split a i byte n Over of (again k ready at none s) = inl (again k ready at none s)
split a i byte n Over of (held k verf at none s w) = inl (held k verf at none s w)
split a i byte n Over of (stable k none quiet s m) = inl (stable k none quiet s m)
split a i byte n Over of (over o) = inr o

module _ (m : Modes) (origin : Origin) (H : List Entry) (w s : ℕ) (f : List ℕ) (i byte wsize kind x q0 : ℕ) (a : Family) (now : ℕ) (since : a.Since now) (tables : Shelf) where
  -- the number of this turn's calls is new
  abbrev pub Turned : ℕ → Type 0
  Turned y = (k : ℕ) → a.Fresh k y

  pub none-shown : (n : ℕ) (sent : Turn) (fault : Fault) (z : Saving) (b : Pending) → Shows q0 f i byte n a.Fresh a.Since a.Wrote a.Made ⊥ sent (Err fault) z b
  none-shown n sent fault z b = (λ k flown flies_ byte_is number_is fresh_ since_ wcc count committed verf no. absurd (cc), λ k wcc verf no. absurd (cc))

  -- ---- before its bytes came in

  module _ (tgt : List ℕ) where
    -- the write, or the put where it's of the file
    abbrev pub Mine : Type 0
    Mine = OfOp H x IsWriter ⊎ ((kind ≡ 3) × (f ≡ tgt))

    abbrev pub BeforeC : ℕ → Pending → Type 0
    BeforeC q b = Common q0 q b × (q ≡ q0)

    abbrev pub BeforeD : ℕ → Pending → Type 0
    BeforeD q b = Common q0 q b × (x ≡ w → Mine → KnownBy a q0 f i byte (q0 + 1) ⊥ q b)

    abbrev pub BeforeM : Turn → Result Reply Fault → Saving → Pending → Type 0
    BeforeM sent came_ z b = Shows q0 f i byte (q0 + 1) a.Fresh a.Since a.Wrote a.Made ⊥ sent came_ z b

    abbrev pub before-base : Tale
    before-base = record {
      T = λ upto. x ≡ w → Mine → q0 + 1 ≤ upto;
      X = Unit {0};
      A = Adding m origin H w f i byte x;
      B = Saving_ m H x;
      Cut = Cutting m H f i x;
    }

    abbrev pub before-tale : Tale
    before-tale = aimed kind tgt before-base

    pub before-c : (turn : Turn) → Content wsize turn BeforeC
    before-c turn = record {
      sound = λ q b c. c.0.sound;
      goes = λ z q b next new after g free c. ((common q0 wsize turn).goes z q b next new after g free c.0, c.1);
    }

    pub before-d : (turn : Turn) → Turned turn.xid → Content wsize turn BeforeD
    before-d turn fresh = record {
      sound = λ q b c. c.0.sound;
      goes = λ z q b next new after g free c. (
        (common q0 wsize turn).goes z q b next new after g free c.0,
        λ same mine. (known q0 f i byte (q0 + 1) a.Fresh a.Since a.Wrote a.Made ⊥ wsize turn now fresh since).goes z q b next new after g free (c.1 same mine),
      );
    }

    pub own-adds : (file : List ℕ) (offset : ℕ) (bytes : List ℕ) (q : ℕ) (b after : Pending) → a.Since 0 → before-tale.A file offset bytes → is_full bytes b ≡ false
        → OnFile b after file (with_bytes offset bytes (q + 1) (of_file file b)) → BeforeC q b → x ≡ w → Mine → KnownBy a q0 f i byte (q0 + 1) ⊥ (q + 1) after
    own-adds file offset bytes q b after first given full on c same mine =
        let here : file ≡ f = its mine in
        let o = given.0.own same here in
        subst (λ (n : ℕ). KnownBy a q0 f i byte n ⊥ (q + 1) after) (ap (λ (n : ℕ). n + 1) c.1)
        (known-own q0 f i byte a.Fresh a.Since a.Wrote a.Made ⊥ offset bytes q b after given.0.fits full
        (subst (λ (g : List ℕ). OnFile b after g (with_bytes offset bytes (q + 1) (of_file g b))) here on) o.0 o.1 first c.0)
      where
        its : Mine → file ≡ f
        its (inl writer) = given.0.its same writer
        its (inr put) = given.1 put.0 ∙ sym put.1

    abbrev pub before-plan : a.Since 0 → Plan f wsize kind q0 Turned
    before-plan first = record {
      C = BeforeC;
      D = BeforeD;
      E = Common q0;
      t = before-tale;
      tables = tables;
      ways = λ turn fresh. record {
        c = before-c turn;
        d = before-d turn fresh;
        e = common q0 wsize turn;
        mark = λ q b d same mine. (d.1 same mine).low;
        apart_ends = λ file apart of. tt;
        settles = λ upto q b t clear d. tt;
        enough = λ q b c. c.0;
        less = λ q b d. d.0;
      };
      moves = λ next. record {
        adds = λ file offset bytes q b after is given full on c. (
          (common-adds q0 file offset bytes q b after given.0.fits full on c.0, own-adds file offset bytes q b after first given full on c),
          ((λ lane line op at saver. absurd (given.0.no_saver lane line op at saver)), given.1),
        );
        enough = λ q b c. c.0;
        less = λ q b d. d.0;
        cuts = λ file size upto q b after short quiet on c. common-cuts q0 file size upto q b after quiet on c.0;
        gives = λ final z file fault q b after is of shut on d. common-gives q0 file q b after on d.0;
      };
      Lone = Unit {0};
      puts = λ next final z file fault q b after is shut alone on e. common-gives q0 file q b after on e;
      M = BeforeM;
      replies = λ sent turn came_ fresh. record {
        takes = λ repeats later z q b next new after t n free c. ((common-replies q0 wsize sent turn came_ (BeforeM sent came_)).takes repeats later z q b next new after t n free c.0, c.1);
      };
      more = λ sent turn came_ fresh. record {
        takes = λ repeats later z q b next new after t n free c. (
          (common-replies q0 wsize sent turn came_ (BeforeM sent came_)).takes repeats later z q b next new after t n free c.0,
          λ same mine. (known-replies q0 f i byte (q0 + 1) a.Fresh a.Since a.Wrote a.Made ⊥ wsize sent turn came_ now fresh since).takes repeats later z q b next new after t
              (record { waits = n.waits; it = n.it; more = n.more }) free (c.1 same mine),
        );
      };
      unsaid = none-shown (q0 + 1);
      low_c = λ q b c. c.0.since;
      low_d = λ q b d. d.0.since;
      low_e = λ q b e. e.since;
    }

  -- ---- from then on

  module _ (n : ℕ) (At_ : ℕ → Type 0) (tgt : List ℕ) where
    abbrev pub ByOver : Type 0 → ℕ → Pending → Type 0
    ByOver Over q b = KnownBy a q0 f i byte n Over q b

    -- what the sync, close or put that is looked after has done: it settled the byte, came over it, or saved another file
    abbrev pub Settled : Type 0
    Settled = ((k : ℕ) × a.Since k × At_ k) ⊎ (Across m origin H w x f i ⊎ ((kind ≡ 3) × (f ≢ tgt)))

    abbrev pub AfterM : Turn → Result Reply Fault → Saving → Pending → Type 0
    AfterM sent came_ z b = Shows q0 f i byte n a.Fresh a.Since a.Wrote a.Made ⊥ sent came_ z b

    abbrev pub after-base : Tale
    after-base = record {
      T = λ upto. x ≡ s → n ≤ upto;
      X = x ≡ s → Settled;
      A = λ file offset bytes. Adding m origin H w f i byte x file offset bytes × (x ≢ w);
      B = Saving_ m H x;
      Cut = Cutting m H f i x;
    }

    abbrev pub after-tale : Tale
    after-tale = aimed kind tgt after-base

    pub more-known : (Over Over' : Type 0) (q : ℕ) (b : Pending) → (Over → Over') → ByOver Over q b → ByOver Over' q b
    more-known Over Over' q b o c = record { common = c.common; low = c.low; stage = over-more a i byte n Over Over' (of_file f b) o c.stage }

    pub after-replies : (Over : Type 0) (sent turn : Turn) (came_ : Result Reply Fault) → Turned turn.xid → ContentReplies wsize sent turn came_ (AfterM sent came_) (ByOver Over)
    after-replies Over sent turn came_ fresh = record {
      takes = λ repeats later z q b next new after t k free c.
          (known-replies q0 f i byte n a.Fresh a.Since a.Wrote a.Made Over wsize sent turn came_ now fresh since).takes repeats later z q b next new after t
          (record { waits = k.waits; it = k.it; more = k.more }) free c;
    }

    pub settled : (x ≡ s → (k : ℕ) → a.Made k → At_ k) → x ≡ s → ((k : ℕ) × a.Since k × a.Made k) ⊎ Across m origin H w x f i → Settled
    settled at_ same (inl k) = inl (k.0, k.1, at_ same k.0 k.2)
    settled at_ same (inr come) = inr (inl come)

    pub drop-or : (Drop : Type 0) → Drop ⊎ Evident a → Doing m origin H w x kind f i Drop ⊎ Evident a
    drop-or Drop (inl d) = inl (dropped d)
    drop-or Drop (inr e) = inr e

    -- it saved another file: then it is a put
    pub off-file : ((kind ≡ 3 → ⊥) → (file : List ℕ) → f ≢ file → Saving_ m H x file → x ≡ s → ⊥) → (file : List ℕ) → f ≢ file → after-tale.B file → x ≡ s → Settled
    off-file other file off of same = by (nat_eq kind 3) refl
      where
        by : (b : Bool) → nat_eq kind 3 ≡ b → Settled
        by true is = inr (inr (eqb-true kind 3 is, λ e. off (e ∙ sym (of.1 (eqb-true kind 3 is)))))
        by false is = absurd (other (eqb-false kind 3 is) file off of.0 same)

    abbrev pub after-plan : (x ≡ s → (k : ℕ) → a.Made k → At_ k) → ((kind ≡ 3 → ⊥) → (file : List ℕ) → f ≢ file → Saving_ m H x file → x ≡ s → ⊥)
        → (Drop Lone : Type 0) → (kind ≡ 5 → (file : List ℕ) → Saving_ m H x file → file ≡ f → (IsOpen tables.opens f → ⊥) → Drop ⊎ Evident a)
        → (kind ≡ 3 → (IsOpen tables.opens f → ⊥) → Lone → Drop ⊎ Evident a) → Plan f wsize kind q0 Turned
    after-plan at_ other Drop Lone closes puts = record {
      C = ByOver ⊥;
      D = ByOver (Across m origin H w x f i);
      E = ByOver (Doing m origin H w x kind f i Drop);
      t = after-tale;
      tables = tables;
      ways = λ turn fresh. record {
        c = known q0 f i byte n a.Fresh a.Since a.Wrote a.Made ⊥ wsize turn now fresh since;
        d = known q0 f i byte n a.Fresh a.Since a.Wrote a.Made (Across m origin H w x f i) wsize turn now fresh since;
        e = known q0 f i byte n a.Fresh a.Since a.Wrote a.Made (Doing m origin H w x kind f i Drop) wsize turn now fresh since;
        mark = λ q b d same. d.low;
        apart_ends = off-file other;
        settles = λ upto q b t clear d same. settled at_ same (clear-known f i byte n a.Fresh a.Since a.Wrote a.Made (Across m origin H w x f i) upto b clear (t same) d.stage);
        enough = λ q b c. more-known ⊥ (Doing m origin H w x kind f i Drop) q b (λ no. absurd no) c;
        less = λ q b d. more-known (Across m origin H w x f i) (Doing m origin H w x kind f i Drop) q b (λ c. came c) d;
      };
      moves = λ next. record {
        adds = λ file offset bytes q b after is given full on c. (
          known-adds q0 f i byte n a.Fresh a.Since a.Wrote a.Made (Across m origin H w x f i) file offset bytes q b after given.0.0.fits full on (λ same inside. (given.0.1, given.0.0.over given.0.1 same inside))
              (more-known ⊥ (Across m origin H w x f i) q b (λ no. absurd no) c),
          ((λ lane line op at saver. absurd (given.0.0.no_saver lane line op at saver)), given.1),
        );
        enough = λ q b c. more-known ⊥ (Doing m origin H w x kind f i Drop) q b (λ no. absurd no) c;
        less = λ q b d. more-known (Across m origin H w x f i) (Doing m origin H w x kind f i Drop) q b (λ c. came c) d;
        cuts = λ file size upto q b after short quiet_ on c.
            known-cuts q0 f i byte n a.Fresh a.Since a.Wrote a.Made (Doing m origin H w x kind f i Drop) file size upto q b after quiet_ on (λ same low. cut (short same low))
            (more-known ⊥ (Doing m origin H w x kind f i Drop) q b (λ no. absurd no) c);
        gives = λ final z file fault q b after is of shut on d.
            known-given q0 f i byte n a.Fresh a.Since a.Wrote a.Made (Doing m origin H w x kind f i Drop) file q b after on
            (λ same. drop-or Drop (closes z.0 file of.0 same (λ open_. shut (subst (λ (k : Shelf). IsOpen k.opens file) (sym (z.1 fault is)) (subst (IsOpen tables.opens) (sym same) open_)))))
            (more-known (Across m origin H w x f i) (Doing m origin H w x kind f i Drop) q b (λ c. came c) d);
      };
      Lone = Lone;
      puts = λ next final z file fault q b after is shut alone on e.
          known-given q0 f i byte n a.Fresh a.Since a.Wrote a.Made (Doing m origin H w x kind f i Drop) file q b after on
          (λ same. drop-or Drop (puts z.0 (λ open_. shut (subst (λ (k : Shelf). IsOpen k.opens file) (sym (z.1 fault is)) (subst (IsOpen tables.opens) (sym same) open_))) (alone (sym same)))) e;
      M = AfterM;
      replies = λ sent turn came_ fresh. after-replies ⊥ sent turn came_ fresh;
      more = λ sent turn came_ fresh. after-replies (Across m origin H w x f i) sent turn came_ fresh;
      unsaid = none-shown n;
      low_c = λ q b c. c.common.since;
      low_d = λ q b d. d.common.since;
      low_e = λ q b e. e.common.since;
    }
