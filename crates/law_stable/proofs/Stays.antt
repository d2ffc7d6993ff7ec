-- A byte that a WRITE put there stays in the file until a restart, and one that was made stable stays.
use Rattle.std.proofs.Common.{inl, inr, ◌≡◌, ◌<◌, ◌≤◌, ◌+◌, ◌==◌, ℕ, zero, suc, List, length, take, Some, slice_get, refl, sym, ap, subst, ◌∙◌, arith}
use Rattle.std.proofs.lemmas.Bool.{cases_lt, cases_Bool, eqb-true}
use Rattle.nfs_types.specs.declared.verf.Verf.{Verf}
use Rattle.nfs_file_calls.specs.declared.call.FileCall.TheVariants as files
use Rattle.nfs_file_calls.specs.declared.owned.FileKept.TheVariants as kept
use Rattle.world_model.specs.declared.entry.Entry.{Entry}
use Rattle.world_model.specs.declared.entry.Entry.TheVariants as entries
use Rattle.world_model.specs.declared.message.Call.TheVariants as calls
use Rattle.world_model.specs.declared.message.Reply.TheVariants as replies
use Rattle.world_model.specs.Bytes.{put_at}
use Rattle.world_model.specs.Entries.{At}
use Rattle.world_model.specs.FileService.{Puts, steady_after}
use Rattle.world_model.specs.History.{History}
use Rattle.world_model.specs.Lawful.{Lawful}
use Rattle.world_model.specs.Server.{Bytes, Object, Server, HasBytes}
use Rattle.claims.specs.Settled.{HoldsStable, WroteAt, MadeFirm, at_once, by_commit, written_at}
use Rattle.claims.specs.Touched.{Covers, foreign}
use Rattle.world_model.proofs.Doing.{write_done, commit_done}
use Rattle.world_model.proofs.Lasting.{entry_at}
use Rattle.world_model.proofs.Places.{At-below}
use Rattle.world_model.proofs.Verifiers.{never_again}
use Rattle.law_calls.specs.Calls.{Numbered}
use Rattle.law_stable.proofs.Bytes.{get_take, put_here}
use Rattle.law_stable.specs.Stable.{HoldsNow, WrittenThere, EvidenceStable, EvidenceThere, UntouchedUnforeign}
use Rattle.law_stable.proofs.Executions.{ran}
use Rattle.law_stable.proofs.Spared.{Spares, spares}
use Rattle.law_stable.proofs.Steps.{keeps_now, keeps_stable}

-- ---- over any number of entries

-- each entry between two places spares the place
abbrev pub SparesFrom : History → ℕ → ℕ → List ℕ → ℕ → ℕ → Type 0
SparesFrom t from p f i v = (n : ℕ) (e : Entry) → At t.entries n e → from ≤ n → n < p → Spares e (t.at (suc n)) f i v

-- no restart lies between two places
abbrev pub NoRestart : History → ℕ → ℕ → Type 0
NoRestart t from p = (n : ℕ) (verf : Verf) → At t.entries n (entries.Reboot verf) → from ≤ n → n < p → ⊥

pub stays_now : (t : History) → Lawful t → (m p : ℕ) (f : List ℕ) (i v : ℕ) → m ≤ p → p ≤ length t.entries → SparesFrom t m p f i v → NoRestart t m p → HoldsNow (t.at m) f i v
    → HoldsNow (t.at p) f i v
stays_now t lawful m zero f i v le within all none h = let z : m ≡ 0 = omega (arith, le) in subst (λ (n : ℕ). HoldsNow (t.at n) f i v) z h
stays_now t lawful m (suc p) f i v le within all none h = elim (cases_lt m (suc p)) [
  | inr ge ↦ let z : m ≡ suc p = omega (arith, le, ge) in subst (λ (n : ℕ). HoldsNow (t.at n) f i v) z h
  | inl lt ↦
      let x = entry_at t.entries p (omega (arith, within)) in
      let before = stays_now t lawful m p f i v (omega (arith, lt)) (omega (arith, within)) (λ n e at low high. all n e at low (omega (arith, high))) (λ n verf at low high. none n verf at low (omega (arith, high))) h in
      keeps_now t lawful p x.0 x.1 (omega (arith, within)) f i v (all p x.0 x.1 (omega (arith, lt)) (omega arith))
      (λ verf is. none p verf (subst (λ z. At t.entries p z) is x.1) (omega (arith, lt)) (omega arith)) before
]

pub stays_stable : (t : History) → Lawful t → (m p : ℕ) (f : List ℕ) (i v : ℕ) → m ≤ p → p ≤ length t.entries → SparesFrom t m p f i v → HoldsStable (t.at m) f i v → HoldsStable (t.at p) f i v
stays_stable t lawful m zero f i v le within all h = let z : m ≡ 0 = omega (arith, le) in subst (λ (n : ℕ). HoldsStable (t.at n) f i v) z h
stays_stable t lawful m (suc p) f i v le within all h = elim (cases_lt m (suc p)) [
  | inr ge ↦ let z : m ≡ suc p = omega (arith, le, ge) in subst (λ (n : ℕ). HoldsStable (t.at n) f i v) z h
  | inl lt ↦
      let x = entry_at t.entries p (omega (arith, within)) in
      let before = stays_stable t lawful m p f i v (omega (arith, lt)) (omega (arith, within)) (λ n e at low high. all n e at low (omega (arith, high))) h in
      keeps_stable t lawful p x.0 x.1 (omega (arith, within)) f i v (all p x.0 x.1 (omega (arith, lt)) (omega arith)) before
]

-- ---- the WRITE

-- the file's bytes after a call that puts bytes
put_bytes : (s t : Server) (f now stable later steady : List ℕ) → Puts s t f now stable later steady → HasBytes t f later steady
put_bytes s t f now stable later steady p = record { file = p.turns.new; is = p.turns.is; holds = p.turns.becomes.holds }

covered : (offset count i v : ℕ) (bytes old : List ℕ) (c : Covers offset bytes i v) → i < offset + count → slice_get (put_at offset (take count bytes) old) i ≡ Some v
covered offset count i v bytes old c lt =
    let at = c.place in
    ap (λ z. slice_get (put_at offset (take count bytes) old) z) c.place ∙ put_here offset (take count bytes) old c.k v (get_take count bytes c.k (omega (arith, at, lt)) ∙ c.byte)

firmly : (firm offset : ℕ) (bytes stable : List ℕ) → 0 < firm → steady_after firm offset bytes stable ≡ put_at offset bytes stable
firmly firm offset bytes stable some = elim (cases_Bool (firm == 0)) [
  | inl z ↦ let is : firm ≡ 0 = eqb-true firm 0 z in absurd (omega (arith, is, some))
  | inr z ↦ simp z refl
]

-- The WRITE was executed there: the byte is in the file after it, under the verifier of its reply, and stable where the reply says so.
pub record Put (t : History) (from to : ℕ) (f : List ℕ) (i v firm : ℕ) (verf : Verf) : Type 0 where
  pub place : ℕ
  pub late : from < place
  pub before : place < to
  pub under : (t.at place).verf ≡ verf
  pub now : HoldsNow (t.at (suc place)) f i v
  pub stable : 0 < firm → HoldsStable (t.at (suc place)) f i v

pub put_there : (t : History) → Lawful t → Numbered t.entries → (from to : ℕ) (f : List ℕ) (i v firm : ℕ) (verf : Verf) (w : WroteAt t.entries from to f i v firm verf)
    → Put t w.asked.heard.sent_at w.asked.heard.got_at f i v firm verf
put_there t lawful numbered from to f i v firm verf w =
    let r = ran t lawful numbered from to (files.Write f w.offset w.how w.bytes) (kept.Write w.wcc w.count firm verf) w.asked in
    let serves = (lawful.entries r.place (entries.Executed w.asked.xid (calls.File (files.Write f w.offset w.how w.bytes)) (replies.File (kept.Write w.wcc w.count firm verf))) r.at).1 in
    let done = write_done (t.at r.place) (t.at (suc r.place)) f w.offset w.how w.bytes w.wcc w.count firm verf serves in
    let has = put_bytes (t.at r.place) (t.at (suc r.place)) f done.now done.stable _ _ done.puts in
    let here = covered w.offset w.count i v w.bytes done.now w.covers w.reached in
    record {
      place = r.place;
      late = r.late;
      before = r.before;
      under = sym done.verifier;
      now = record { now = _; stable = _; has = has; holds = here };
      stable = λ some. record {
        now = _;
        stable = _;
        has = has;
        holds = here;
        steady = ap (λ (z : List ℕ). slice_get z i) (firmly firm w.offset (take w.count w.bytes) done.stable some) ∙ covered w.offset w.count i v w.bytes done.stable w.covers w.reached;
      };
    }

-- ---- the COMMIT

some_object : (a b : Object) → Some a ≡ Some b → a ≡ b
some_object a b e = cc

bytes_now : (a b c d : List ℕ) → Bytes a b ≡ Bytes c d → a ≡ c
bytes_now a b c d e = cc

-- a COMMIT of the whole file makes a byte stable that is there
committed : (s t : Server) (f now stable : List ℕ) (i v : ℕ) → Puts s t f now stable now (put_at 0 now stable) → HoldsNow s f i v → HoldsStable t f i v
committed s t f now stable i v p h =
    let file : h.has.file ≡ p.file = some_object h.has.file p.file (sym h.has.is ∙ p.turns.has.is) in
    let same : h.now ≡ now = bytes_now h.now h.stable now stable (sym h.has.holds ∙ ap (λ (z : Object). z.holds) file ∙ p.held) in
    let there : slice_get now i ≡ Some v = ap (λ (z : List ℕ). slice_get z i) (sym same) ∙ h.holds in
    let at : i ≡ 0 + i = omega arith in
    record {
      now = now;
      stable = put_at 0 now stable;
      has = put_bytes s t f now stable now (put_at 0 now stable) p;
      holds = there;
      steady = ap (λ (n : ℕ). slice_get (put_at 0 now stable) n) at ∙ put_here 0 now stable i v there;
    }

-- after a restart the server never has the verifier of before
unrestarted : (t : History) → Lawful t → (m n : ℕ) → n ≤ length t.entries → (t.at n).verf ≡ (t.at m).verf → NoRestart t m n
unrestarted t lawful m n within same k verf at low high = absurd (never_again t lawful m k n verf low at high within same)

same_verf : (a b : Verf) → a.0 ≡ b.0 → a ≡ b
same_verf a b e = ap (λ (z : List ℕ). record { 0 = z }) e

-- ---- the theorems

pub written_there : WrittenThere
written_there t lawful once numbered from to f i v firm verf wrote p le within same own none =
    let w = put_there t lawful numbered from to f i v firm verf wrote in
    let late = w.late in
    let before = w.before in
    let came = wrote.asked.heard.before in
    let whole = unrestarted t lawful w.place p within (same ∙ sym w.under) in
    stays_now t lawful (suc w.place) p f i v (omega (arith, before, came, le)) within
    (λ n x at low high. spares t lawful once numbered wrote.asked.heard.sent_at p f i v own none n x at (omega (arith, late, low)) high)
    (λ n verf at low high. whole n verf at (omega (arith, low)) high) w.now

pub evidence_stable : EvidenceStable
evidence_stable t lawful once numbered from to f i v e p le within own none = by e.made
  where
    w : Put t e.wrote.asked.heard.sent_at e.wrote.asked.heard.got_at f i v e.firm e.verf
    w = put_there t lawful numbered from e.middle f i v e.firm e.verf e.wrote

    spared : (m : ℕ) → w.place < m → SparesFrom t m p f i v
    spared m after n x at low high = let late = w.late in spares t lawful once numbered (written_at e) p f i v own none n x at (omega (arith, late, after, low)) high

    by : MadeFirm t.entries e.middle to f e.firm e.verf → HoldsStable (t.at p) f i v
    by (at_once some) =
        let before = w.before in
        let came = e.wrote.asked.heard.before in
        let soon = e.by in
        stays_stable t lawful (suc w.place) p f i v (omega (arith, before, came, soon, le)) within (spared (suc w.place) (omega arith)) (w.stable some)
    by (by_commit wcc its same asked) =
        let r = ran t lawful numbered e.middle to (files.Commit f 0 0) (kept.Commit wcc its) asked in
        let serves = (lawful.entries r.place (entries.Executed asked.xid (calls.File (files.Commit f 0 0)) (replies.File (kept.Commit wcc its))) r.at).1 in
        let done = commit_done (t.at r.place) (t.at (suc r.place)) f 0 0 wcc its serves in
        let before = w.before in
        let came = e.wrote.asked.heard.before in
        let sent = asked.heard.after in
        let late = r.late in
        let early = r.before in
        let answered = asked.heard.before in
        let one : (t.at r.place).verf ≡ (t.at w.place).verf = sym done.verifier ∙ same_verf its e.verf same ∙ sym w.under in
        let whole = unrestarted t lawful w.place r.place (omega (arith, early, answered, le, within)) one in
        let there = stays_now t lawful (suc w.place) r.place f i v (omega (arith, before, came, sent, late)) (omega (arith, early, answered, le, within))
        (λ n x at low high. spared (suc w.place) (omega arith) n x at low (omega (arith, high, early, answered, le))) (λ n verf at low high. whole n verf at (omega (arith, low)) high) w.now in
        let firm = committed (t.at r.place) (t.at (suc r.place)) f done.now done.stable i v done.puts there in
        stays_stable t lawful (suc r.place) p f i v (omega (arith, early, answered, le)) within (spared (suc r.place) (omega (arith, before, came, sent, late))) firm

as_now : (s : Server) (f : List ℕ) (i v : ℕ) → HoldsStable s f i v → HoldsNow s f i v
as_now s f i v h = record { now = h.now; stable = h.stable; has = h.has; holds = h.holds }

pub evidence_there : EvidenceThere
evidence_there t lawful once numbered from to f i v e p le within own none = by e.made
  where
    w : Put t e.wrote.asked.heard.sent_at e.wrote.asked.heard.got_at f i v e.firm e.verf
    w = put_there t lawful numbered from e.middle f i v e.firm e.verf e.wrote

    spared : (m : ℕ) → w.place < m → SparesFrom t m p f i v
    spared m after n x at low high = let late = w.late in spares t lawful once numbered (written_at e) p f i v own none n x at (omega (arith, late, after, low)) high

    started : suc w.place ≤ p
    started = let before = w.before in let came = e.wrote.asked.heard.before in omega (arith, before, came, le)

    by : MadeFirm t.entries e.middle to f e.firm e.verf → HoldsNow (t.at p) f i v
    by (at_once some) = as_now (t.at p) f i v (stays_stable t lawful (suc w.place) p f i v started within (spared (suc w.place) (omega arith)) (w.stable some))
    by (by_commit wcc its same asked) =
        let r = ran t lawful numbered e.middle to (files.Commit f 0 0) (kept.Commit wcc its) asked in
        let serves = (lawful.entries r.place (entries.Executed asked.xid (calls.File (files.Commit f 0 0)) (replies.File (kept.Commit wcc its))) r.at).1 in
        let done = commit_done (t.at r.place) (t.at (suc r.place)) f 0 0 wcc its serves in
        let before = w.before in
        let came = e.wrote.asked.heard.before in
        let sent = asked.heard.after in
        let late = r.late in
        let inside = At-below t.entries r.place _ r.at in
        let one : (t.at r.place).verf ≡ (t.at w.place).verf = sym done.verifier ∙ same_verf its e.verf same ∙ sym w.under in
        let whole = unrestarted t lawful w.place r.place (omega (arith, inside)) one in
        elim (cases_lt r.place p) [
          | inr early ↦ stays_now t lawful (suc w.place) p f i v started within (spared (suc w.place) (omega arith))
              (λ n verf at low high. whole n verf at (omega (arith, low)) (omega (arith, high, early))) w.now
          | inl past ↦
              let there = stays_now t lawful (suc w.place) r.place f i v (omega (arith, before, came, sent, late)) (omega (arith, inside))
              (λ n x at low high. spared (suc w.place) (omega arith) n x at low (omega (arith, high, past))) (λ n verf at low high. whole n verf at (omega (arith, low)) high) w.now in
              as_now (t.at p) f i v (stays_stable t lawful (suc r.place) p f i v past within (spared (suc r.place) (omega (arith, before, came, sent, late)))
              (committed (t.at r.place) (t.at (suc r.place)) f done.now done.stable i v done.puts there))
        ]

pub untouched_unforeign : UntouchedUnforeign
untouched_unforeign m origin t w p from f i untouched le n call reply at low high changes = untouched (foreign n call reply (omega (arith, le, low)) high at changes)
