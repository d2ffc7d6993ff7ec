-- What no step of an operation adds to what is in flight of a file, but under the xid of its turn.
use Rattle.core_facts.proofs.Prelude.{◌≡◌, ◌≢◌, ◌&&◌, ◌⊎◌, inl, inr, ℕ, Bool, true, false, nat_eq, List, [], ◌∷◌, ◌++◌, Option, Some, None, Result, Ok, Err, refl, sym, ap, subst, ◌∙◌, if◌then◌else◌, nat_lt, eq-eqb, ne_eqb, eqb-true, eqb-false, Verdict, AllStable, SendAgain, Verf, Fault, Reply, chosen, Pending, of_file, Segments, Repeat, Turn, goes_again, Phase, Sending, Committing, Resending, CommittingAgain, Saving, commit_told, IsUnused, by-step}
use Rattle.write_back.specs.Files.{OnFile, IsFree}
use Rattle.commit_verf.specs.Decisions.{verdict_of}
use Rattle.write_back.specs.Changes.{lost}
use Rattle.write_back.specs.Pieces.{Sent, FilePending, piece_under, without, renumbered}
use Rattle.write_back.proofs.WritesByFile.{same-or}
use Rattle.file_ops.specs.Saves as saves
use Rattle.file_ops.proofs.Free.{none-without}
use Rattle.file_ops.proofs.Landed.{TakenOut, lands-out}
use Rattle.file_ops.proofs.Unmade.{InFile, MineIn, Mine, AnyCall}
use Rattle.file_ops.proofs.Walks.{Left, Carries, CarriesReply, SamePieces, again-room}

-- ---- pieces

-- one piece under the xid at most
abbrev pub IsAlone : ℕ → List Sent → Type 0
IsAlone xid pieces = piece_under xid (without xid pieces) ≡ None

abbrev pub IsNone : ℕ → List Sent → Type 0
IsNone xid pieces = piece_under xid pieces ≡ None

-- A fact of the pieces of a file stays where a piece is taken out, or one is put in or renumbered under another xid.
pub record OfPieces (xid : ℕ) (T : List Sent → Type 0) : Type 0 where
  pub nothing : T []
  pub less : (other : ℕ) (pieces : List Sent) → T pieces → T (without other pieces)
  pub more : (pieces : List Sent) (piece : Sent) → piece.xid ≢ xid → T pieces → T (pieces ++ piece ∷ [])
  pub other : (asked to : ℕ) (pieces : List Sent) → to ≢ xid → T pieces → T (renumbered asked to pieces)

some-piece : (p : Sent) → Some p ≡ None → ⊥
some-piece p e = cc

under-head : (xid : ℕ) (p : Sent) (pieces : List Sent) → p.xid ≡ xid → piece_under xid (p ∷ pieces) ≡ Some p
under-head xid p pieces same = ap (λ (b : Bool). if b then Some p else piece_under xid pieces) (eq-eqb p.xid xid same)

under-tail : (xid : ℕ) (p : Sent) (pieces : List Sent) → p.xid ≢ xid → piece_under xid (p ∷ pieces) ≡ piece_under xid pieces
under-tail xid p pieces apart = ap (λ (b : Bool). if b then Some p else piece_under xid pieces) (ne_eqb p.xid xid apart)

without-head : (xid : ℕ) (p : Sent) (pieces : List Sent) → p.xid ≡ xid → without xid (p ∷ pieces) ≡ pieces
without-head xid p pieces same = ap (λ (b : Bool). if b then pieces else p ∷ without xid pieces) (eq-eqb p.xid xid same)

without-tail : (xid : ℕ) (p : Sent) (pieces : List Sent) → p.xid ≢ xid → without xid (p ∷ pieces) ≡ p ∷ without xid pieces
without-tail xid p pieces apart = ap (λ (b : Bool). if b then pieces else p ∷ without xid pieces) (ne_eqb p.xid xid apart)

-- the first piece isn't under the xid, and none of the rest is
none-head : (xid : ℕ) (p : Sent) (pieces : List Sent) → IsNone xid (p ∷ pieces) → (p.xid ≢ xid) × IsNone xid pieces
none-head xid p pieces none = by (nat_eq p.xid xid) refl
  where
    by : (b : Bool) → nat_eq p.xid xid ≡ b → (p.xid ≢ xid) × IsNone xid pieces
    by true d = absurd (some-piece p (sym (under-head xid p pieces (eqb-true p.xid xid d)) ∙ none))
    by false d = let apart = eqb-false p.xid xid d in (apart, sym (under-tail xid p pieces apart) ∙ none)

none-more : (xid : ℕ) (pieces : List Sent) (piece : Sent) → piece.xid ≢ xid → IsNone xid pieces → IsNone xid (pieces ++ piece ∷ [])
none-more xid [] piece apart none = under-tail xid piece [] apart
none-more xid (p ∷ pieces) piece apart none =
    let h = none-head xid p pieces none in under-tail xid p (pieces ++ piece ∷ []) h.0 ∙ none-more xid pieces piece apart h.1

abbrev as_xid : ℕ → Sent → Sent
as_xid to p = record { xid = to; offset = p.offset; how = p.how; bytes = p.bytes; parts = p.parts }

none-other : (xid asked to : ℕ) (pieces : List Sent) → to ≢ xid → IsNone xid pieces → IsNone xid (renumbered asked to pieces)
none-other xid asked to [] apart none = refl
none-other xid asked to (p ∷ pieces) apart none = by (nat_eq p.xid asked) (none-head xid p pieces none) (none-other xid asked to pieces apart)
  where
    by : (b : Bool) → (p.xid ≢ xid) × IsNone xid pieces → (IsNone xid pieces → IsNone xid (renumbered asked to pieces))
        → IsNone xid (if b then as_xid to p ∷ pieces else p ∷ renumbered asked to pieces)
    by true h rest = under-tail xid (as_xid to p) pieces apart ∙ h.1
    by false h rest = under-tail xid p (renumbered asked to pieces) h.0 ∙ rest h.1

pub of-none : (xid : ℕ) → OfPieces xid (IsNone xid)
of-none xid = record {
  nothing = refl;
  less = λ other pieces none. none-without xid other pieces none;
  more = none-more xid;
  other = none-other xid;
}

-- one at most, by the first piece: where it is under the xid none of the rest is
alone-head : (xid : ℕ) (p : Sent) (pieces : List Sent) → p.xid ≡ xid → IsAlone xid (p ∷ pieces) → IsNone xid pieces
alone-head xid p pieces same alone = sym (ap (λ (ps : List Sent). piece_under xid ps) (without-head xid p pieces same)) ∙ alone

alone-tail : (xid : ℕ) (p : Sent) (pieces : List Sent) → p.xid ≢ xid → IsAlone xid (p ∷ pieces) → IsAlone xid pieces
alone-tail xid p pieces apart alone =
    sym (ap (λ (ps : List Sent). piece_under xid ps) (without-tail xid p pieces apart) ∙ under-tail xid p (without xid pieces) apart) ∙ alone

head-alone : (xid : ℕ) (p : Sent) (pieces : List Sent) → p.xid ≡ xid → IsNone xid pieces → IsAlone xid (p ∷ pieces)
head-alone xid p pieces same none = ap (λ (ps : List Sent). piece_under xid ps) (without-head xid p pieces same) ∙ none

tail-alone : (xid : ℕ) (p : Sent) (pieces : List Sent) → p.xid ≢ xid → IsAlone xid pieces → IsAlone xid (p ∷ pieces)
tail-alone xid p pieces apart alone = ap (λ (ps : List Sent). piece_under xid ps) (without-tail xid p pieces apart) ∙ under-tail xid p (without xid pieces) apart ∙ alone

pub none-alone : (xid : ℕ) (pieces : List Sent) → IsNone xid pieces → IsAlone xid pieces
none-alone xid pieces none = none-without xid xid pieces none

alone-less : (xid other : ℕ) (pieces : List Sent) → IsAlone xid pieces → IsAlone xid (without other pieces)
alone-less xid other [] alone = alone
alone-less xid other (p ∷ pieces) alone = by (nat_eq p.xid other) (nat_eq p.xid xid) refl (alone-less xid other pieces)
  where
    by : (b d : Bool) → nat_eq p.xid xid ≡ d → (IsAlone xid pieces → IsAlone xid (without other pieces))
        → IsAlone xid (if b then pieces else p ∷ without other pieces)
    by true true d rest = none-alone xid pieces (alone-head xid p pieces (eqb-true p.xid xid d) alone)
    by true false d rest = alone-tail xid p pieces (eqb-false p.xid xid d) alone
    by false true d rest =
        let same = eqb-true p.xid xid d in head-alone xid p (without other pieces) same (none-without xid other pieces (alone-head xid p pieces same alone))
    by false false d rest = let apart = eqb-false p.xid xid d in tail-alone xid p (without other pieces) apart (rest (alone-tail xid p pieces apart alone))

alone-more : (xid : ℕ) (pieces : List Sent) (piece : Sent) → piece.xid ≢ xid → IsAlone xid pieces → IsAlone xid (pieces ++ piece ∷ [])
alone-more xid [] piece apart alone = none-alone xid (piece ∷ []) (under-tail xid piece [] apart)
alone-more xid (p ∷ pieces) piece apart alone = by (nat_eq p.xid xid) refl (alone-more xid pieces piece apart)
  where
    by : (d : Bool) → nat_eq p.xid xid ≡ d → (IsAlone xid pieces → IsAlone xid (pieces ++ piece ∷ [])) → IsAlone xid (p ∷ pieces ++ piece ∷ [])
    by true d rest =
        let same = eqb-true p.xid xid d in
        head-alone xid p (pieces ++ piece ∷ []) same (none-more xid pieces piece apart (alone-head xid p pieces same alone))
    by false d rest = let other = eqb-false p.xid xid d in tail-alone xid p (pieces ++ piece ∷ []) other (rest (alone-tail xid p pieces other alone))

alone-other : (xid asked to : ℕ) (pieces : List Sent) → to ≢ xid → IsAlone xid pieces → IsAlone xid (renumbered asked to pieces)
alone-other xid asked to [] apart alone = alone
alone-other xid asked to (p ∷ pieces) apart alone = by (nat_eq p.xid asked) (nat_eq p.xid xid) refl (alone-other xid asked to pieces apart)
  where
    by : (b d : Bool) → nat_eq p.xid xid ≡ d → (IsAlone xid pieces → IsAlone xid (renumbered asked to pieces))
        → IsAlone xid (if b then as_xid to p ∷ pieces else p ∷ renumbered asked to pieces)
    by true true d rest = tail-alone xid (as_xid to p) pieces apart (none-alone xid pieces (alone-head xid p pieces (eqb-true p.xid xid d) alone))
    by true false d rest = tail-alone xid (as_xid to p) pieces apart (alone-tail xid p pieces (eqb-false p.xid xid d) alone)
    by false true d rest =
        let same = eqb-true p.xid xid d in
        head-alone xid p (renumbered asked to pieces) same (none-other xid asked to pieces apart (alone-head xid p pieces same alone))
    by false false d rest =
        let other = eqb-false p.xid xid d in tail-alone xid p (renumbered asked to pieces) other (rest (alone-tail xid p pieces other alone))

pub of-alone : (xid : ℕ) → OfPieces xid (IsAlone xid)
of-alone xid = record { nothing = refl; less = alone-less xid; more = alone-more xid; other = alone-other xid }

-- ---- files

abbrev pub AtFile : List ℕ → (List Sent → Type 0) → Pending → Type 0
AtFile file T back = T (of_file file back).pieces

-- the xid of a turn with room is another one
abbrev pub IsForeign : ℕ → ℕ → Bool → Type 0
IsForeign xid turn room = room ≡ true → turn ≢ xid

module _ (xid : ℕ) (T : List Sent → Type 0) (t : OfPieces xid T) (file : List ℕ) where
  at-same : (old new : Pending) → new ≡ old → AtFile file T old → AtFile file T new
  at-same old new is h = subst (λ (p : Pending). AtFile file T p) (sym is) h

  on-file : (old new : Pending) (of : List ℕ) (to : FilePending) → OnFile old new of to → (T (of_file of old).pieces → T to.pieces) → AtFile file T old → AtFile file T new
  on-file old new of to on step h = by (same-or of file)
    where
      by : (file ≡ of) ⊎ (file ≢ of) → AtFile file T new
      by (inl same) =
          subst (λ (f : List ℕ). AtFile f T new) (sym same)
          (subst (λ (p : FilePending). T p.pieces) (sym on.here) (step (subst (λ (f : List ℕ). AtFile f T old) same h)))
      by (inr apart) = subst (λ (p : FilePending). T p.pieces) (sym (on.others file apart)) h

  out-file : (asked : ℕ) (of : List ℕ) (old new : Pending) → TakenOut asked of old new → AtFile file T old → AtFile file T new
  out-file asked of old new out h = by (same-or of file)
    where
      by : (file ≡ of) ⊎ (file ≢ of) → AtFile file T new
      by (inl same) =
          subst (λ (f : List ℕ). AtFile f T new) (sym same)
          (subst T (sym out.here) (t.less asked (of_file of old).pieces (subst (λ (f : List ℕ). AtFile f T old) same h)))
      by (inr apart) = subst (λ (p : FilePending). T p.pieces) (sym (out.others file apart)) h

  pieces-file : (old new : Pending) → SamePieces old new → AtFile file T old → AtFile file T new
  pieces-file old new same h = by (same file)
    where
      by : ((of_file file new).pieces ≡ (of_file file old).pieces) ⊎ ((of_file file new).pieces ≡ []) → AtFile file T new
      by (inl is) = subst T (sym is) h
      by (inr is) = subst T (sym is) t.nothing

  -- ---- steps of a save

  sends-file : (turn : ℕ) (by_reply : Bool) (run : Segments) (s : Saving) (back : Pending) (next : _) (new : Saving) (after : Pending) → turn ≢ xid
      → saves.Sends turn by_reply run s back next new after → AtFile file T back → AtFile file T after
  sends-file turn by_reply run s back next new after apart (inr l) h = at-same back after l.1 h
  sends-file turn by_reply [] s back next new after apart (inl l) h = at-same back after l.1 h
  sends-file turn by_reply (e ∷ es) s back next new after apart (inl l) h = on-file back after s.file _ l.1.0 (λ p. t.more (of_file s.file back).pieces _ apart p) h

  and-left : (a b : Bool) → (a && b) ≡ true → a ≡ true
  and-left true b e = refl
  and-left false b e = absurd cc

  if-file : (b : Bool) (turn : ℕ) (room by_reply : Bool) (run : Segments) (s : Saving) (back : Pending) (next : _) (new : Saving) (after : Pending) → saves.may_send room s ≡ b
      → IsForeign xid turn room → saves.SendsIf b turn by_reply run s back next new after → AtFile file T back → AtFile file T after
  if-file false turn room by_reply run s back next new after may foreign l h = at-same back after l.1 h
  if-file true turn room by_reply run s back next new after may foreign l h =
      let both = and-left (room && saves.is_sending s.phase) (nat_lt s.waiting 32) may in
      sends-file turn by_reply run s back next new after (foreign (and-left room (saves.is_sending s.phase) both)) l h

  over-file : (refusal : Option Fault) (wsize turn : ℕ) (room by_reply : Bool) (s : Saving) (back : Pending) (next : _) (new : Saving) (after : Pending)
      → IsForeign xid turn room → saves.GoesOver refusal wsize turn room by_reply s back next new after → AtFile file T back → AtFile file T after
  over-file (Some fault) wsize turn room by_reply s back next new after foreign g h = at-same back after g.1 h
  over-file None wsize turn room by_reply s back next new after foreign g h =
      if-file (saves.may_send room s) turn room by_reply (chosen s.upto wsize (of_file s.file back)) s back next new after refl foreign g h

  goes-file : (wsize turn : ℕ) (room by_reply : Bool) (s : Saving) (back : Pending) (next : _) (new : Saving) (after : Pending) → IsForeign xid turn room
      → saves.Goes wsize turn room by_reply s back next new after → AtFile file T back → AtFile file T after
  goes-file wsize turn room by_reply s back next new after foreign g h = over-file s.refusal wsize turn room by_reply s back next new after foreign g h

  write-file : (wsize asked turn : ℕ) (room : Bool) (told : _) (s : Saving) (back : Pending) (next : _) (new : Saving) (after : Pending) → IsForeign xid turn room
      → saves.TakesWrite wsize asked turn room told s back next new after → AtFile file T back → AtFile file T after
  write-file wsize asked turn room told s back next new after foreign g h =
      goes-file wsize turn room g.counts (saves.refused_by g.refusal s) g.between next new after foreign g.goes
      (out-file asked s.file back g.between (lands-out asked s.file told back g.between g.refusal g.lands) h)

  repeats-file : (again : Bool) (wsize : ℕ) (sent turn : Turn) (told : _) (s : Saving) (back : Pending) (next : _) (new : Saving) (after : Pending)
      → (again ≡ true → turn.room ≡ true) → IsForeign xid turn.xid turn.room → saves.RepeatsWrite again wsize sent turn told s back next new after
      → AtFile file T back → AtFile file T after
  repeats-file true wsize sent turn told s back next new after room foreign r h =
      on-file back after s.file _ r.1 (λ p. t.other sent.xid turn.xid (of_file s.file back).pieces (foreign (room refl)) p) h
  repeats-file false wsize sent turn told s back next new after room foreign r h =
      write-file wsize sent.xid turn.xid turn.room told (saves.less_waiting s) back next new after foreign r h

  told-file : (busy : Bool) (wsize : ℕ) (sent turn : Turn) (told : _) (repeats : List Repeat) (s : Saving) (back : Pending) (next : _) (new : Saving) (after : Pending)
      (later : List Repeat) → IsForeign xid turn.xid turn.room → saves.TakesToldIf busy wsize sent turn told repeats s back next new after later → AtFile file T back
      → AtFile file T after
  told-file true wsize sent turn told repeats s back next new after later foreign (inl g) h =
      repeats-file (goes_again true sent turn repeats) wsize sent turn told s back next new after (again-room true sent turn repeats) foreign g.0 h
  told-file true wsize sent turn told repeats s back next new after later foreign (inr g) h =
      write-file wsize sent.xid turn.xid turn.room _ (saves.less_waiting s) back next new after foreign g.0 h
  told-file false wsize sent turn told repeats s back next new after later foreign g h =
      write-file wsize sent.xid turn.xid turn.room told (saves.less_waiting s) back next new after foreign g.0 h

  decides-file : (verdict : Verdict) (wsize turn : ℕ) (room : Bool) (s : Saving) (back : Pending) (next : _) (new : Saving) (after : Pending) → IsForeign xid turn room
      → saves.Decides verdict wsize turn room s back next new after → AtFile file T back → AtFile file T after
  decides-file AllStable wsize turn room s back next new after foreign d h = at-same back after d.1 h
  decides-file (SendAgain count) wsize turn room s back next new after foreign d h =
      goes-file wsize turn room false (record s { phase = Resending }) back next new after foreign d h

  commit-file : (told : Result Verf Fault) (wsize turn : ℕ) (room : Bool) (s : Saving) (back : Pending) (next : _) (new : Saving) (after : Pending) → IsForeign xid turn room
      → saves.TakesCommit wsize turn room told s back next new after → AtFile file T back → AtFile file T after
  commit-file (Err fault) wsize turn room s back next new after foreign g h = at-same back after g.1 h
  commit-file (Ok verf) wsize turn room s back next new after foreign g h =
      decides-file (verdict_of (lost verf s.upto (of_file s.file back).segments)) wsize turn room s g.between next new after foreign g.goes
      (on-file back g.between s.file _ g.decides (λ p. p) h)

  first-file : (again : Bool) (told : Result Verf Fault) (wsize : ℕ) (turn : Turn) (s : Saving) (back : Pending) (next : _) (new : Saving) (after : Pending)
      → IsForeign xid turn.xid turn.room → saves.TakesFirst again wsize turn told s back next new after → AtFile file T back → AtFile file T after
  first-file true told wsize turn s back next new after foreign g h = at-same back after g.1 h
  first-file false told wsize turn s back next new after foreign g h = commit-file told wsize turn.xid turn.room (saves.less_waiting s) back next new after foreign g h

  in-file : (phase : Phase) (wsize : ℕ) (sent turn : Turn) (came : Result Reply Fault) (repeats : List Repeat) (s : Saving) (back : Pending) (next : _) (new : Saving)
      (after : Pending) (later : List Repeat) → IsForeign xid turn.xid turn.room → saves.TakesIn phase wsize sent turn came repeats s back next new after later
      → AtFile file T back → AtFile file T after
  in-file Sending wsize sent turn came repeats s back next new after later foreign g h = told-file _ wsize sent turn _ repeats s back next new after later foreign g h
  in-file Resending wsize sent turn came repeats s back next new after later foreign g h = told-file _ wsize sent turn _ repeats s back next new after later foreign g h
  in-file Committing wsize sent turn came repeats s back next new after later foreign g h =
      first-file (saves.commit_again (commit_told came) sent turn repeats s) (commit_told came) wsize turn s back next new after foreign g.0 h
  in-file CommittingAgain wsize sent turn came repeats s back next new after later foreign g h = at-same back after g.1 h

  -- what holds of it in any case
  left-any : (gives : _) (saving : Saving) (back : Pending) → AtFile file T back → Left (AtFile file T) (λ s b. AtFile file T b) AnyCall gives saving back
  left-any gives saving back h = by-step (λ g. Left (AtFile file T) (λ s b. AtFile file T b) AnyCall g saving back) (λ call. (h, tt)) h (λ result. h) gives

  pub carries-file : (wsize : ℕ) (turn : Turn) → IsForeign xid turn.xid turn.room → Carries wsize turn (AtFile file T) (λ s b. AtFile file T b) AnyCall
  carries-file wsize turn foreign = record {
    goes = λ by_reply s back next new after g h. left-any next new after (goes-file wsize turn.xid turn.room by_reply s back next new after foreign g h);
    pieces = pieces-file;
    plain = λ call room spells. tt;
  }

  pub replies-file : (wsize : ℕ) (sent turn : Turn) (came : Result Reply Fault) → IsForeign xid turn.xid turn.room
      → CarriesReply wsize sent turn came (AtFile file T) (λ s b. AtFile file T b) (λ s b. AtFile file T b) AnyCall
  replies-file wsize sent turn came foreign = record {
    takes = λ repeats s back next new after later g h.
        left-any next new after (in-file s.phase wsize sent turn came repeats s back next new after later foreign g h);
  }

-- ---- the call that is answered leaves nothing in flight

renumbered-gone : (asked to : ℕ) (pieces : List Sent) → to ≢ asked → IsAlone asked pieces → IsNone asked (renumbered asked to pieces)
renumbered-gone asked to [] apart alone = refl
renumbered-gone asked to (p ∷ pieces) apart alone = by (nat_eq p.xid asked) refl (renumbered-gone asked to pieces apart)
  where
    by : (b : Bool) → nat_eq p.xid asked ≡ b → (IsAlone asked pieces → IsNone asked (renumbered asked to pieces))
        → IsNone asked (if b then as_xid to p ∷ pieces else p ∷ renumbered asked to pieces)
    by true d rest = under-tail asked (as_xid to p) pieces apart ∙ alone-head asked p pieces (eqb-true p.xid asked d) alone
    by false d rest = let other = eqb-false p.xid asked d in under-tail asked p (renumbered asked to pieces) other ∙ rest (alone-tail asked p pieces other alone)

taken-unused : (asked : ℕ) (file : List ℕ) (old new : Pending) → TakenOut asked file old new → InFile asked file old → IsUnused asked new
taken-unused asked file old new out mine other = by (same-or file other)
  where
    by : (other ≡ file) ⊎ (other ≢ file) → IsFree asked other new
    by (inl same) = subst (λ (f : List ℕ). IsFree asked f new) (sym same) (subst (λ (ps : List Sent). piece_under asked ps ≡ None) (sym out.here) mine.alone)
    by (inr apart) = subst (λ (p : FilePending). piece_under asked p.pieces ≡ None) (sym (out.others other apart)) (mine.others other apart)

moved-unused : (asked : ℕ) (file : List ℕ) (old new : Pending) (to : FilePending) → OnFile old new file to → IsNone asked to.pieces → InFile asked file old → IsUnused asked new
moved-unused asked file old new to on none mine other = by (same-or file other)
  where
    by : (other ≡ file) ⊎ (other ≢ file) → IsFree asked other new
    by (inl same) = subst (λ (f : List ℕ). IsFree asked f new) (sym same) (subst (λ (p : FilePending). piece_under asked p.pieces ≡ None) (sym on.here) none)
    by (inr apart) = subst (λ (p : FilePending). piece_under asked p.pieces ≡ None) (sym (on.others other apart)) (mine.others other apart)

module _ (wsize : ℕ) (sent turn : Turn) (foreign : IsForeign sent.xid turn.xid turn.room) where
  -- nothing new comes under it
  goes-free : (room by_reply : Bool) (s : Saving) (back : Pending) (next : _) (new : Saving) (after : Pending) → room ≡ turn.room
      → saves.Goes wsize turn.xid room by_reply s back next new after → IsUnused sent.xid back → IsUnused sent.xid after
  goes-free room by_reply s back next new after is g free file =
      goes-file sent.xid (IsNone sent.xid) (of-none sent.xid) file wsize turn.xid room by_reply s back next new after (λ yes_. foreign (sym is ∙ yes_)) g (free file)

  write-free : (told : _) (s : Saving) (back : Pending) (next : _) (new : Saving) (after : Pending) → saves.TakesWrite wsize sent.xid turn.xid turn.room told s back next new after
      → InFile sent.xid s.file back → IsUnused sent.xid after
  write-free told s back next new after g mine =
      goes-free turn.room g.counts (saves.refused_by g.refusal s) g.between next new after refl g.goes
      (taken-unused sent.xid s.file back g.between (lands-out sent.xid s.file told back g.between g.refusal g.lands) mine)

  repeats-free : (again : Bool) (told : _) (s : Saving) (back : Pending) (next : _) (new : Saving) (after : Pending) → (again ≡ true → turn.room ≡ true)
      → saves.RepeatsWrite again wsize sent turn told s back next new after → InFile sent.xid s.file back → IsUnused sent.xid after
  repeats-free true told s back next new after room r mine =
      moved-unused sent.xid s.file back after _ r.1 (renumbered-gone sent.xid turn.xid (of_file s.file back).pieces (foreign (room refl)) mine.alone) mine
  repeats-free false told s back next new after room r mine = write-free told (saves.less_waiting s) back next new after r mine

  told-free : (busy : Bool) (told : _) (repeats : List Repeat) (s : Saving) (back : Pending) (next : _) (new : Saving) (after : Pending) (later : List Repeat)
      → saves.TakesToldIf busy wsize sent turn told repeats s back next new after later → InFile sent.xid s.file back → IsUnused sent.xid after
  told-free true told repeats s back next new after later (inl g) mine =
      repeats-free (goes_again true sent turn repeats) told s back next new after (again-room true sent turn repeats) g.0 mine
  told-free true told repeats s back next new after later (inr g) mine = write-free _ (saves.less_waiting s) back next new after g.0 mine
  told-free false told repeats s back next new after later g mine = write-free told (saves.less_waiting s) back next new after g.0 mine

  other-free : (phase : Phase) (came : Result Reply Fault) (repeats : List Repeat) (s : Saving) (back : Pending) (next : _) (new : Saving) (after : Pending) (later : List Repeat)
      → saves.TakesIn phase wsize sent turn came repeats s back next new after later → IsUnused sent.xid back → IsUnused sent.xid after
  other-free phase came repeats s back next new after later g free file =
      in-file sent.xid (IsNone sent.xid) (of-none sent.xid) file phase wsize sent turn came repeats s back next new after later foreign g (free file)

  in-free : (phase : Phase) (came : Result Reply Fault) (repeats : List Repeat) (s : Saving) (back : Pending) (next : _) (new : Saving) (after : Pending) (later : List Repeat)
      → s.phase ≡ phase → saves.TakesIn phase wsize sent turn came repeats s back next new after later → Mine sent.xid s back → IsUnused sent.xid after
  in-free Sending came repeats s back next new after later at g mine =
      told-free _ _ repeats s back next new after later g (subst (λ (p : Phase). MineIn p sent.xid s.file back) at mine)
  in-free Resending came repeats s back next new after later at g mine =
      told-free _ _ repeats s back next new after later g (subst (λ (p : Phase). MineIn p sent.xid s.file back) at mine)
  in-free Committing came repeats s back next new after later at g mine =
      other-free Committing came repeats s back next new after later g (subst (λ (p : Phase). MineIn p sent.xid s.file back) at mine)
  in-free CommittingAgain came repeats s back next new after later at g mine =
      other-free CommittingAgain came repeats s back next new after later g (subst (λ (p : Phase). MineIn p sent.xid s.file back) at mine)

  left-free : (gives : _) (saving : Saving) (back : Pending) → IsUnused sent.xid back → Left (λ b. IsUnused sent.xid b) (λ s b. IsUnused sent.xid b) AnyCall gives saving back
  left-free gives saving back h =
      by-step (λ g. Left (λ b. IsUnused sent.xid b) (λ s b. IsUnused sent.xid b) AnyCall g saving back) (λ call. (h, tt)) h (λ result. h) gives

  pub carries-free : Carries wsize turn (λ b. IsUnused sent.xid b) (λ s b. IsUnused sent.xid b) AnyCall
  carries-free = record {
    goes = λ by_reply s back next new after g h. left-free next new after (goes-free turn.room by_reply s back next new after refl g h);
    pieces = λ old new same h file. pieces-file sent.xid (IsNone sent.xid) (of-none sent.xid) file old new same (h file);
    plain = λ call room spells. tt;
  }

  pub replies-free : (came : Result Reply Fault) → CarriesReply wsize sent turn came (λ b. IsUnused sent.xid b) (Mine sent.xid) (λ s b. IsUnused sent.xid b) AnyCall
  replies-free came = record {
    takes = λ repeats s back next new after later g mine. left-free next new after (in-free s.phase came repeats s back next new after later refl g mine);
  }
