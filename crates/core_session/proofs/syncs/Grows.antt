-- What is known goes on being known as an entry comes that sends nothing.
use Rattle.core_session.proofs.Prelude.{◌≢◌, true, ◌-◌, ◌≡◌, ◌≤◌, ◌<◌, ◌+◌, ◌⊎◌, inl, inr, ℕ, suc, List, [], ◌∷◌, ◌++◌, length, append_assoc, refl, subst, ◌∙◌, arith, cases_lt, Waiting, Fault, Value, SpellsCall, covers, slice_index, Entry, Began, Answered, Sent, Op, At, Ended, Terms, At-one, At-below, At-cases, At-last, length_last, Pending, Mounted, Purpose, Setup, View, GoesWith, MadeStable}
use Rattle.world_model.specs.declared.answer.Answer.TheVariants as answers
use Rattle.world_model.specs.declared.message.Call.TheVariants as calls
use Rattle.nfs_file_calls.specs.declared.call.FileCall.TheVariants as files
use Rattle.core_session.proofs.syncs.Aparts.{Apart, apart-done}
use Rattle.core_session.proofs.syncs.Carrying.{fresh-grow, wrote-grow, made-grow, calls-same}
use Rattle.core_session.proofs.syncs.Fate.{Fate, later, busy, refused, well}
use Rattle.core_session.proofs.syncs.Nexts.{ended-back, at-on, Two, Settles}
use Rattle.core_session.proofs.syncs.Phases.{KnownBy, Evident}
use Rattle.core_session.proofs.syncs.Showings.{Fresh, Made}
use Rattle.core_session.proofs.syncs.Stands.{Case, SinceTwo, Early}
use Rattle.core_session.proofs.syncs.StirsOn.{two-map}
use Rattle.core_session.proofs.syncs.Turning.{fixed-once}

-- it sends nothing
abbrev pub SendsNone : Entry → Type 0
SendsNone e = (b : List ℕ) → e ≡ Sent b → ⊥

abbrev pub BeginsNone : Entry → Type 0
BeginsNone e = (lane line : ℕ) (op : Op) → e ≡ Began lane line op → ⊥

pub split-on : (H h rest : List Entry) (e : Entry) → h ++ e ∷ rest ≡ H → (h ++ e ∷ []) ++ rest ≡ H
split-on H h rest e is = append_assoc h (e ∷ []) rest ∙ is

pub fresh-none : (h : List Entry) (e : Entry) (nx : ℕ) → SendsNone e → ((z : ℕ) → Fresh h z nx) → (z : ℕ) → Fresh (h ++ e ∷ []) z nx
fresh-none h e nx none fresh z q b at has = elim (At-cases h e q (Sent b) at) [
  | inl there ↦ fresh z q b there has
  | inr here ↦ absurd (none b here.1)
]

pub longer-by : (h : List Entry) (e : Entry) → length h ≤ length (h ++ e ∷ [])
longer-by h e = let more = length_last h e in omega (arith, more)

-- what begins later doesn't begin here
pub begins-later : (H h rest : List Entry) (e : Entry) → h ++ e ∷ rest ≡ H → BeginsNone e → (x lane line : ℕ) (op : Op) → At H x (Began lane line op) → length h ≤ x → length (h ++ e ∷ []) ≤ x
begins-later H h rest e is none x lane line op at low = by (cases_lt (length h) x)
  where
    more : length (h ++ e ∷ []) ≡ length h + 1
    more = length_last h e

    here : At H (length h) e
    here = at-on H (h ++ e ∷ []) rest (split-on H h rest e is) (length h) e (At-last h e)

    by : (length h < x) ⊎ (x ≤ length h) → length (h ++ e ∷ []) ≤ x
    by (inl high) = omega (arith, more, high)
    by (inr down) =
        let same : x ≡ length h = omega (arith, low, down) in
        absurd (none lane line op (At-one H (length h) e (Began lane line op) here (subst (λ (z : ℕ). At H z (Began lane line op)) same at)))

done-refused : (v : Value) (f : Fault) → answers.Done v ≡ answers.Refused f → ⊥
done-refused v f e = absurd cc

-- an operation that was answered ok has come to a good end
pub fate-good : (h : List Entry) (v : View) (x : ℕ) (Q : Type 0) (lane : ℕ) (op : Op) (y : ℕ) (value : Value) → Ended h lane x op y (answers.Done value) → Fate h v x Q → Q
fate-good h v x Q lane op y value e (later low) = absurd (let a = e.later in let b = At-below h y (Answered lane e.line (answers.Done value)) e.answered in omega (arith, a, b, low))
fate-good h v x Q lane op y value e (busy k n machine o there u) =
    absurd (u.unanswered (record { lane = lane; op = op; y = y; answer = answers.Done value; ended = e; before = At-below h y (Answered lane e.line (answers.Done value)) e.answered }))
fate-good h v x Q lane op y value e (refused fault is) = absurd (done-refused value fault (fixed-once h v x (answers.Refused fault) is lane op y (answers.Done value) e))
fate-good h v x Q lane op y value e (well q) = q

module _ (mt : Mounted) (terms : Terms) (setup : Setup) (H : List Entry) (V : View) (g : GoesWith mt terms setup H V) (w y s j p : ℕ) (f : List ℕ) (i byte : ℕ) (c : Case terms H w y s j p f i byte) where
  -- the sync or close begins only once the write is answered
  pub low-on : (h rest : List Entry) (e : Entry) (v : View) → h ++ e ∷ rest ≡ H → Early mt terms setup H w y s j p f i byte h v → s ≢ w → length (h ++ e ∷ []) ≤ s
  low-on h rest e v is early off = by (cases_lt (length h) s)
    where
      first : y < s
      first = elim c.first [ inl low ↦ low | inr same ↦ absurd (off same) ]

      by : (length h < s) ⊎ (s ≤ length h) → length (h ++ e ∷ []) ≤ s
      by (inl high) = let more = length_last h e in omega (arith, more, high)
      by (inr down) =
          let low = early.low off in
          let before = first in
          let ended = ended-back H h (e ∷ rest) is c.laneW w y c.opW (answers.Done c.valueW) (omega (arith, before, down, low)) c.endW in
          absurd (apart-done f h v w (fate-good h v w (Apart f h v w) c.laneW c.opW y c.valueW ended early.fate) c.laneW y c.opW (answers.Done c.valueW) ended)

  pub since-on : (h rest : List Entry) (e : Entry) → h ++ e ∷ rest ≡ H → SendsNone e → (k : ℕ) → SinceTwo mt terms setup H w y s j p f i byte h k → SinceTwo mt terms setup H w y s j p f i byte (h ++ e ∷ []) k
  since-on h rest e is none k z = (
    (let low = z.0 in let more = longer-by h e in omega (arith, low, more)),
    z.1,
    λ q xid offset how bytes sent at spells low high inside. by q xid offset how bytes sent at spells low high inside (cases_lt q (length h)),
  )
    where
      here : At H (length h) e
      here = at-on H (h ++ e ∷ []) rest (split-on H h rest e is) (length h) e (At-last h e)

      by : (q xid offset how : ℕ) (bytes sent : List ℕ) → At H q (Sent sent) → SpellsCall xid (calls.File (files.Write f offset how bytes)) sent → k ≤ q → q < length (h ++ e ∷ [])
          → covers offset (length bytes) i ≡ true → (q < length h) ⊎ (length h ≤ q) → slice_index bytes (i - offset) ≡ byte
      by q xid offset how bytes sent at spells low high inside (inl early) = z.2 q xid offset how bytes sent at spells low early inside
      by q xid offset how bytes sent at spells low high inside (inr late) =
          let more = length_last h e in
          let same : q ≡ length h = omega (arith, more, high, late) in
          absurd (none sent (At-one H (length h) e (Sent sent) here (subst (λ (m : ℕ). At H m (Sent sent)) same at)))

  pub settles-on : (h rest : List Entry) (e : Entry) → h ++ e ∷ rest ≡ H → SendsNone e → Settles mt terms setup H V g w y s j p f i byte c h → Settles mt terms setup H V g w y s j p f i byte c (h ++ e ∷ [])
  settles-on h rest e is none z = (z.0, since-on h rest e is none z.0 z.1, z.2)

  pub two-on : (h rest : List Entry) (e : Entry) (waits : List (ℕ × Waiting Purpose)) (n q0 q : ℕ) (b : Pending) → h ++ e ∷ rest ≡ H → SendsNone e
      → KnownBy (Two mt terms setup H V g w y s j p f i byte c h waits) q0 f i byte n ⊥ q b → KnownBy (Two mt terms setup H V g w y s j p f i byte c (h ++ e ∷ []) waits) q0 f i byte n ⊥ q b
  two-on h rest e waits n q0 q b is none z = record {
    common = z.common;
    low = z.low;
    stage = two-map mt terms setup H V g w y s j p f i byte c h (h ++ e ∷ []) waits waits n b (λ k x low fr. fresh-grow h e k x low fr) (λ k s_. since-on h rest e is none k s_)
        (λ k v wr. wrote-grow f i byte h e waits waits k v (calls-same (h ++ e ∷ []) waits waits refl) wr) (λ k m. made-grow f i byte h e k m) z.stage;
  }

  pub evident-on : (h rest : List Entry) (e : Entry) (waits : List (ℕ × Waiting Purpose)) → h ++ e ∷ rest ≡ H → SendsNone e → Evident (Two mt terms setup H V g w y s j p f i byte c h waits)
      → Evident (Two mt terms setup H V g w y s j p f i byte c (h ++ e ∷ []) waits)
  evident-on h rest e waits is none z = (z.0, since-on h rest e is none z.0 z.1, or z.2)
    where
      or : Made f i byte h z.0 ⊎ MadeStable H z.0 (suc j) f i byte → Made f i byte (h ++ e ∷ []) z.0 ⊎ MadeStable H z.0 (suc j) f i byte
      or (inl m) = inl (made-grow f i byte h e z.0 m)
      or (inr st) = inr st
