-- What is known goes on being known as an entry comes that sends nothing.
use Rattle.core_session.proofs.Prelude.{true, ◌-◌, ◌≡◌, ◌≤◌, ◌<◌, ◌⊎◌, inl, inr, ℕ, Bool, List, [], ◌∷◌, ◌++◌, length, refl, subst, arith, cases_lt, Waiting, SpellsCall, covers, slice_index, Entry, Sent, At, Terms, At-one, At-last, length_last, Pending, Mounted, Purpose, Setup, View, GoesWith}
use Rattle.world_model.specs.declared.message.Call.TheVariants as calls
use Rattle.nfs_file_calls.specs.declared.call.FileCall.TheVariants as files
use Rattle.core_session.proofs.syncs.Carrying.{fresh-grow, wrote-grow, made-grow, calls-same}
use Rattle.core_session.proofs.syncs.Grows.{SendsNone, split-on, longer-by}
use Rattle.core_session.proofs.syncs.Nexts.{at-on}
use Rattle.core_session.proofs.kept.Nexts.{Two}
use Rattle.core_session.proofs.syncs.Phases.{KnownBy, Evident}
use Rattle.core_session.proofs.kept.Stands.{Case, SinceTwo, StableTwo}
use Rattle.core_session.proofs.kept.StirsOn.{two-map}

module _ (mt : Mounted) (terms : Terms) (setup : Setup) (H : List Entry) (V : View) (g : GoesWith mt terms setup H V) (w y : ℕ) (sure : Bool) (due p : ℕ) (f : List ℕ) (i byte : ℕ) (c : Case terms H w y p f i byte) where
  pub since-on : (h rest : List Entry) (e : Entry) → h ++ e ∷ rest ≡ H → SendsNone e → (k : ℕ) → SinceTwo mt terms setup H w y sure due p f i byte h k → SinceTwo mt terms setup H w y sure due p f i byte (h ++ e ∷ []) k
  since-on h rest e is none k z = (
    (let low = z.0 in let more = longer-by h e in omega (arith, low, more)),
    z.1,
    λ q xid offset how bytes sent at spells low high inside. by q xid offset how bytes sent at spells low high inside (cases_lt q (length h)),
  )
    where
      here : At H (length h) e
      here = at-on H (h ++ e ∷ []) rest (split-on H h rest e is) (length h) e (At-last h e)

      by : (q xid offset how : ℕ) (bytes sent : List ℕ) → At H q (Sent sent) → SpellsCall xid (calls.File (files.Write f offset how bytes)) sent → k ≤ q → q < length (h ++ e ∷ [])
          → covers offset (length bytes) i ≡ true → (q < length h) ⊎ (length h ≤ q) → slice_index bytes (i - offset) ≡ byte
      by q xid offset how bytes sent at spells low high inside (inl early) = z.2 q xid offset how bytes sent at spells low early inside
      by q xid offset how bytes sent at spells low high inside (inr late) =
          let more = length_last h e in
          let same : q ≡ length h = omega (arith, more, high, late) in
          absurd (none sent (At-one H (length h) e (Sent sent) here (subst (λ (m : ℕ). At H m (Sent sent)) same at)))

  pub settles-on : (h rest : List Entry) (e : Entry) → h ++ e ∷ rest ≡ H → SendsNone e → StableTwo mt terms setup H w y sure due p f i byte h → StableTwo mt terms setup H w y sure due p f i byte (h ++ e ∷ [])
  settles-on h rest e is none z = (z.0, since-on h rest e is none z.0 z.1, z.2)

  pub two-on : (h rest : List Entry) (e : Entry) (waits : List (ℕ × Waiting Purpose)) (n q0 q : ℕ) (b : Pending) → h ++ e ∷ rest ≡ H → SendsNone e
      → KnownBy (Two mt terms setup H V g w y sure due p f i byte c h waits) q0 f i byte n ⊥ q b → KnownBy (Two mt terms setup H V g w y sure due p f i byte c (h ++ e ∷ []) waits) q0 f i byte n ⊥ q b
  two-on h rest e waits n q0 q b is none z = record {
    common = z.common;
    low = z.low;
    stage = two-map mt terms setup H V g w y sure due p f i byte c h (h ++ e ∷ []) waits waits n b (λ k x low fr. fresh-grow h e k x low fr) (λ k s_. since-on h rest e is none k s_)
        (λ k v wr. wrote-grow f i byte h e waits waits k v (calls-same (h ++ e ∷ []) waits waits refl) wr) (λ k m. made-grow f i byte h e k m) z.stage;
  }

  pub evident-on : (h rest : List Entry) (e : Entry) (waits : List (ℕ × Waiting Purpose)) → h ++ e ∷ rest ≡ H → SendsNone e → Evident (Two mt terms setup H V g w y sure due p f i byte c h waits)
      → Evident (Two mt terms setup H V g w y sure due p f i byte c (h ++ e ∷ []) waits)
  evident-on h rest e waits is none z = (z.0, since-on h rest e is none z.0 z.1, made-grow f i byte h e z.0 z.2)
