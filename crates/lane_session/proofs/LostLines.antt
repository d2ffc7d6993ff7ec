-- A line of a session that was lost before, those of a lane one after the other, and lane after lane.
use Rattle.std.proofs.Common.{◌≡◌, ◌≢◌, ◌≤◌, ◌<◌, ◌+◌, inl, inr, ℕ, zero, suc, List, [], ◌∷◌, ◌++◌, length, take, drop, slice_get, Option, Some, Result, Ok, Err, refl, sym, ap, subst, ◌∙◌, arith, append-nil, append_assoc}
use Rattle.std.proofs.lemmas.Bool.{eq-eqb, ne_eqb}
use Rattle.xdr_codec.specs.declared.blob.Memory.{Memory}
use Rattle.world_model.specs.declared.answer.Answer.TheVariants.{Refused}
use Rattle.world_model.specs.declared.answer.Fault.TheVariants as faults
use Rattle.world_model.specs.declared.entry.Entry.{Entry}
use Rattle.world_model.specs.declared.entry.Entry.TheVariants.{Began, Answered, Clock}
use Rattle.world_model.specs.Clocked.{clocks}
use Rattle.world_model.specs.History.{History}
use Rattle.world_model.specs.Told.{Relates}
use Rattle.world_model.specs.Transcript.{line_text}
use Rattle.nfs_script.specs.declared.script.ScriptLine.{ScriptLine}
use Rattle.lane_session.specs.declared.halt.Halt.{Halt}
use Rattle.lane_session.specs.declared.halt.Halt.TheVariants as halts
use Rattle.lane_session.specs.Going.{NotesBeginning, TellsAnswer}
use Rattle.lane_session.specs.Labels.{told_by, all_told, last_cut}
use Rattle.lane_session.specs.Losing.{of_lane, by_lanes, lost_line, LostLines, no_line, one_line, nothing, timed, begun as part_begun, answered as part_answered, IsToldOf, LosesLine, LosesBy}
use Rattle.lane_session.specs.Statuses.{IsLeft}
use Rattle.lane_session.specs.Streams.{Says, ReadsOnce, Passes}
use Rattle.lane_session.proofs.LaneOrder.{of-own, of-other, of-take, of-parts, by-none, by-next, by-parts}
use Rattle.lane_session.proofs.Passing.{reads_one, appends_same, relates_less, relates_then}
use Rattle.lane_session.proofs.Labels.{told-append, cut-after}
use Rattle.lane_session.proofs.Pushes.{clocks-append}

none-left : (halt : Halt) → IsLeft halt []
none-left halts.Output = refl
none-left halts.Memory = omega arith

-- ---- one line

module _ (label : List ℕ) (script : List ScriptLine) (at : ℕ) (l : ScriptLine) (there : slice_get script at ≡ Some l) where
  line-noted : (e : Memory) (ms : ℕ) (h k : List Entry) → NotesBeginning l.lane l.line l.op ms (Err e) h k → LosesLine label script at (Err halts.Memory) (ms ∷ []) [] h k
  line-noted e ms h k (inl is) = (l, there, ([], is ∙ sym (append-nil h), nothing refl, record { last = ms ∷ []; clocked = refl; left = omega arith; shown = all_told refl }))
  line-noted e ms h k (inr is) = (l, there, (Clock ms ∷ [], is, timed ms refl, record { last = []; clocked = refl; left = none-left halts.Memory; shown = all_told refl }))

  line-told : (ms now : ℕ) (result : Result (Unit {0}) Halt) (text : List ℕ) (h k m : List Entry) → NotesBeginning l.lane l.line l.op ms (Ok now) h k
      → TellsAnswer label l.lane l.line (Refused faults.Lost) result text k m → LosesLine label script at result (ms ∷ []) text h m
  line-told ms now (Ok u) text h k m p q = (
    l,
    there,
    (
      ms,
      q.0 ∙ ap (λ (t : List Entry). t ++ Answered l.lane l.line (Refused faults.Lost) ∷ []) p.1 ∙ append_assoc h (Clock ms ∷ Began l.lane l.line l.op ∷ []) (Answered l.lane l.line (Refused faults.Lost) ∷ []),
      refl,
      q.1 ∙ sym (append-nil (label ++ line_text l.lane l.line (Refused faults.Lost))),
    ),
  )
  line-told ms now (Err halt) text h k m p (inl q) = (
    l,
    there,
    (
      Clock ms ∷ Began l.lane l.line l.op ∷ [],
      q.0 ∙ p.1,
      part_begun ms refl,
      record { last = []; clocked = refl; left = none-left halt; shown = all_told q.1 },
    ),
  )
  line-told ms now (Err halt) text h k m p (inr q) = (
    l,
    there,
    (
      lost_line l ms,
      q.0 ∙ ap (λ (t : List Entry). t ++ Answered l.lane l.line (Refused faults.Lost) ∷ []) p.1 ∙ append_assoc h (Clock ms ∷ Began l.lane l.line l.op ∷ []) (Answered l.lane l.line (Refused faults.Lost) ∷ []),
      part_answered ms refl,
      record { last = []; clocked = refl; left = none-left halt; shown = last_cut (Clock ms ∷ Began l.lane l.line l.op ∷ []) l.lane l.line (Refused faults.Lost) text refl refl q.1 },
    ),
  )

  module _ (r0 r1 : Option (List ℕ)) (t0 t1 : Option History) (w0 : Option (List ℕ)) where
    pub passes-cut : (e : Memory) → ReadsOnce r0 r1 (λ ms. Relates t0 t1 (NotesBeginning l.lane l.line l.op ms (Err e))) → Passes r0 r1 t0 t1 w0 w0 (LosesLine label script at (Err halts.Memory))
    passes-cut e p = record {
      given = p.ms ∷ [];
      read = reads_one r0 r1 p.ms p.reads;
      text = [];
      added = appends_same w0;
      told = relates_less t0 t1 _ _ (λ h k x. line-noted e p.ms h k x) p.is;
    }

  module _ (r0 r1 : Option (List ℕ)) (t0 t1 t2 : Option History) (w0 w1 : Option (List ℕ)) where
    pub passes-told : (now : ℕ) (result : Result (Unit {0}) Halt) → ReadsOnce r0 r1 (λ ms. Relates t0 t1 (NotesBeginning l.lane l.line l.op ms (Ok now)))
        → Says w0 w1 (λ text. Relates t1 t2 (TellsAnswer label l.lane l.line (Refused faults.Lost) result text)) → Passes r0 r1 t0 t2 w0 w1 (LosesLine label script at result)
    passes-told now result p q = record {
      given = p.ms ∷ [];
      read = reads_one r0 r1 p.ms p.reads;
      text = q.text;
      added = q.added;
      told = relates_then t0 t1 t2 _ _ _ (λ h k m x y. line-told p.ms now result q.text h k m x y) p.is q.is;
    }

-- ---- the line at a place, if it is one of the lane's

pub lost-none : (label : List ℕ) (h : List Entry) → LosesBy label [] (Ok tt) [] [] h h
lost-none label h = ([], sym (append-nil h), no_line [] [] refl refl, refl, refl)

lost-one : (label : List ℕ) (script : List ScriptLine) (at : ℕ) (lane : ℕ) (result : Result (Unit {0}) Halt) (given text : List ℕ) (h k : List Entry)
    → ((l : ScriptLine) → slice_get script at ≡ Some l → l.lane ≡ lane) → LosesLine label script at result given text h k
    → LosesBy label (of_lane lane (take 1 (drop at script))) result given text h k
lost-one label script at lane (Ok u) given text h k own (l, there, (ms, is, read, shown)) =
    subst (λ (ls : List ScriptLine). LosesBy label ls (Ok u) given text h k) (sym (of-own lane script at l there (eq-eqb l.lane lane (own l there))))
    (lost_line l ms, is, one_line (l ∷ []) [] (lost_line l ms) [] l ms refl refl (no_line [] [] refl refl), read, shown)
lost-one label script at lane (Err halt) given text h k own (l, there, (es, is, part, told)) =
    subst (λ (ls : List ScriptLine). LosesBy label ls (Err halt) given text h k) (sym (of-own lane script at l there (eq-eqb l.lane lane (own l there))))
    (0, l, refl, ([], es, is, no_line [] [] refl refl, part, told))

module _ (label : List ℕ) (script : List ScriptLine) (at : ℕ) (lane : ℕ) (l : ScriptLine) (there : slice_get script at ≡ Some l) where
  pub lost-own : (result : Result (Unit {0}) Halt) → l.lane ≡ lane → (given text : List ℕ) (h k : List Entry) → LosesLine label script at result given text h k
      → LosesBy label (of_lane lane (take 1 (drop at script))) result given text h k
  lost-own result own given text h k p =
      lost-one label script at lane result given text h k
      (λ m found. subst (λ (n : ScriptLine). n.lane ≡ lane) (let same : Some l ≡ Some m = sym there ∙ found in let is : l ≡ m = cc in is) own) p

  pub lost-other : l.lane ≢ lane → (h : List Entry) → LosesBy label (of_lane lane (take 1 (drop at script))) (Ok tt) [] [] h h
  lost-other other h = subst (λ (ls : List ScriptLine). LosesBy label ls (Ok tt) [] [] h h) (sym (of-other lane script at l there (ne_eqb l.lane lane other))) (lost-none label h)

-- ---- lines, and then further ones

both-lines : (a b : List ScriptLine) (es fs : List Entry) → LostLines a es → LostLines b fs → LostLines (a ++ b) (es ++ fs)
both-lines a _ es _ p (no_line b fs none is) =
    subst (λ (s : List ScriptLine). LostLines s (es ++ fs)) (sym (append-nil a) ∙ ap (λ (s : List ScriptLine). a ++ s) (sym none))
    (subst (LostLines a) (sym (append-nil es) ∙ ap (λ (t : List Entry). es ++ t) (sym is)) p)
both-lines a _ es _ p (one_line b before fs more l ms one is rest) =
    one_line (a ++ b) (a ++ before) (es ++ fs) (es ++ more) l ms
    (ap (λ (s : List ScriptLine). a ++ s) one ∙ sym (append_assoc a before (l ∷ [])))
    (ap (λ (t : List Entry). es ++ t) is ∙ sym (append_assoc es more (lost_line l ms)))
    (both-lines a before es more p rest)

pub lost-then : (label : List ℕ) (a b : List ScriptLine) (g i t u : List ℕ) (h k m : List Entry) → LosesBy label a (Ok tt) g t h k → LosesBy label b (Ok tt) i u k m
    → LosesBy label (a ++ b) (Ok tt) (g ++ i) (t ++ u) h m
lost-then label a b g i t u h k m (es, is, lines, given, text) (fs, more, rest, read, shown) = (
  es ++ fs,
  more ∙ ap (λ (x : List Entry). x ++ fs) is ∙ append_assoc h es fs,
  both-lines a b es fs lines rest,
  ap (λ (x : List ℕ). x ++ i) given ∙ ap (λ (x : List ℕ). clocks es ++ x) read ∙ sym (clocks-append es fs),
  ap (λ (x : List ℕ). x ++ u) text ∙ ap (λ (x : List ℕ). told_by label es ++ x) shown ∙ sym (told-append label es fs),
)

-- a line of a front, and the lines before it
in-front : (b rest : List ScriptLine) (n : ℕ) (l : ScriptLine) → slice_get b n ≡ Some l → (slice_get (b ++ rest) n ≡ Some l) × (take n (b ++ rest) ≡ take n b)
in-front [] rest n l there = absurd (cc)
in-front (x ∷ b) rest zero l there = (there, refl)
in-front (x ∷ b) rest (suc n) l there = let r = in-front b rest n l there in (r.0, ap (λ (s : List ScriptLine). x ∷ s) r.1)

-- the same behind others
in-middle : (a b rest : List ScriptLine) (n : ℕ) (l : ScriptLine) → slice_get b n ≡ Some l
    → (m : ℕ) × (slice_get (a ++ (b ++ rest)) m ≡ Some l) × (take m (a ++ (b ++ rest)) ≡ a ++ take n b)
in-middle [] b rest n l there = let r = in-front b rest n l there in (n, r.0, r.1)
in-middle (x ∷ a) b rest n l there = let r = in-middle a b rest n l there in (suc r.0, r.1, ap (λ (s : List ScriptLine). x ∷ s) r.2)

pub lost-off : (label : List ℕ) (a b rest whole : List ScriptLine) (halt : Halt) (g i t u : List ℕ) (h k m : List Entry) → whole ≡ a ++ (b ++ rest) → LosesBy label a (Ok tt) g t h k
    → LosesBy label b (Err halt) i u k m → LosesBy label whole (Err halt) (g ++ i) (t ++ u) h m
lost-off label a b rest whole halt g i t u h k m split (es, is, lines, given, text) (n, l, there, (fs, part, more, front, cut, told)) =
    let r = in-middle a b rest n l there in
    let apart : (es ++ fs) ++ part ≡ es ++ (fs ++ part) = append_assoc es fs part in
    subst (λ (s : List ScriptLine). LosesBy label s (Err halt) (g ++ i) (t ++ u) h m) (sym split) (
      r.0,
      l,
      r.1,
      (
        es ++ fs,
        part,
        more ∙ ap (λ (x : List Entry). x ++ (fs ++ part)) is ∙ append_assoc h es (fs ++ part) ∙ ap (λ (x : List Entry). h ++ x) (sym apart),
        subst (λ (s : List ScriptLine). LostLines s (es ++ fs)) (sym r.2) (both-lines a (take n b) es fs lines front),
        cut,
        subst (IsToldOf label halt (g ++ i) (t ++ u)) (sym apart) (record {
          last = told.last;
          clocked = ap (λ (x : List ℕ). x ++ i) given ∙ ap (λ (x : List ℕ). clocks es ++ x) told.clocked ∙ sym (append_assoc (clocks es) (clocks (fs ++ part)) told.last)
              ∙ ap (λ (x : List ℕ). x ++ told.last) (sym (clocks-append es (fs ++ part)));
          left = told.left;
          shown = cut-after label es (fs ++ part) t u text told.shown;
        }),
      ),
    )

-- ---- the lines of a lane

take-whole : (script : List ScriptLine) (n : ℕ) → length script ≤ n → take n script ≡ script
take-whole [] zero le = refl
take-whole [] (suc n) le = refl
take-whole (x ∷ xs) zero le = absurd (omega (arith, le))
take-whole (x ∷ xs) (suc n) le = ap (λ (t : List ScriptLine). x ∷ t) (take-whole xs n (omega (arith, le)))

-- the lines of a lane before a place
abbrev pub LaneSo : List ℕ → ℕ → List ScriptLine → ℕ → List ℕ → List ℕ → List Entry → List Entry → Type 0
LaneSo label lane script n = LosesBy label (of_lane lane (take n script)) (Ok tt)

-- the line at a place, if it is one of the lane's
abbrev pub OwnSo : List ℕ → ℕ → List ScriptLine → ℕ → Result (Unit {0}) Halt → List ℕ → List ℕ → List Entry → List Entry → Type 0
OwnSo label lane script n = LosesBy label (of_lane lane (take 1 (drop n script)))

pub lane-more : (label : List ℕ) (lane : ℕ) (script : List ScriptLine) (n : ℕ) (g i t u : List ℕ) (h k m : List Entry) → LaneSo label lane script n g t h k
    → OwnSo label lane script n (Ok tt) i u k m → LaneSo label lane script (n + 1) (g ++ i) (t ++ u) h m
lane-more label lane script n g i t u h k m p q =
    subst (λ (ls : List ScriptLine). LosesBy label ls (Ok tt) (g ++ i) (t ++ u) h m) (sym (of-take lane script n))
    (lost-then label (of_lane lane (take n script)) (of_lane lane (take 1 (drop n script))) g i t u h k m p q)

pub lane-off : (label : List ℕ) (lane : ℕ) (script : List ScriptLine) (n : ℕ) (halt : Halt) (g i t u : List ℕ) (h k m : List Entry) → LaneSo label lane script n g t h k
    → OwnSo label lane script n (Err halt) i u k m → LosesBy label (of_lane lane script) (Err halt) (g ++ i) (t ++ u) h m
lane-off label lane script n halt g i t u h k m p q =
    lost-off label (of_lane lane (take n script)) (of_lane lane (take 1 (drop n script))) (of_lane lane (drop (n + 1) script)) (of_lane lane script) halt g i t u h k m
    (of-parts lane script n) p q

pub lane-whole : (label : List ℕ) (lane : ℕ) (script : List ScriptLine) (n : ℕ) (g t : List ℕ) (h k : List Entry) → length script ≤ n → LaneSo label lane script n g t h k
    → LosesBy label (of_lane lane script) (Ok tt) g t h k
lane-whole label lane script n g t h k le p = subst (λ (s : List ScriptLine). LosesBy label (of_lane lane s) (Ok tt) g t h k) (take-whole script n le) p

-- ---- lane after lane

-- the lines of the lanes up to this one
abbrev pub LanesSo : List ℕ → List ScriptLine → ℕ → List ℕ → List ℕ → List Entry → List Entry → Type 0
LanesSo label script n = LosesBy label (by_lanes n script) (Ok tt)

pub lanes-none : (label : List ℕ) (script : List ScriptLine) (h : List Entry) → LanesSo label script 0 [] [] h h
lanes-none label script h = subst (λ (ls : List ScriptLine). LosesBy label ls (Ok tt) [] [] h h) (sym (by-none script)) (lost-none label h)

pub lanes-more : (label : List ℕ) (script : List ScriptLine) (n : ℕ) (g i t u : List ℕ) (h k m : List Entry) → LanesSo label script n g t h k
    → LosesBy label (of_lane (n + 1) script) (Ok tt) i u k m → LanesSo label script (n + 1) (g ++ i) (t ++ u) h m
lanes-more label script n g i t u h k m p q =
    subst (λ (ls : List ScriptLine). LosesBy label ls (Ok tt) (g ++ i) (t ++ u) h m) (sym (by-next n script))
    (lost-then label (by_lanes n script) (of_lane (n + 1) script) g i t u h k m p q)

pub lanes-off : (label : List ℕ) (script : List ScriptLine) (n : ℕ) (halt : Halt) (g i t u : List ℕ) (h k m : List Entry) → n < 16 → LanesSo label script n g t h k
    → LosesBy label (of_lane (n + 1) script) (Err halt) i u k m → LosesBy label (by_lanes 16 script) (Err halt) (g ++ i) (t ++ u) h m
lanes-off label script n halt g i t u h k m lt p q =
    let r = by-parts 16 n script lt in
    lost-off label (by_lanes n script) (of_lane (n + 1) script) r.0 (by_lanes 16 script) halt g i t u h k m r.1 p q

pub lanes-whole : (label : List ℕ) (script : List ScriptLine) (n : ℕ) (g t : List ℕ) (h k : List Entry) → n ≡ 16 → LanesSo label script n g t h k
    → LosesBy label (by_lanes 16 script) (Ok tt) g t h k
lanes-whole label script n g t h k is p = subst (λ (m : ℕ). LosesBy label (by_lanes m script) (Ok tt) g t h k) is p
