-- Where the WRITE of a byte that was made stable was executed, it is in the file from then on: by the law of stable bytes, also before it is stable.
use Rattle.core_session.proofs.Prelude.{sym, ap, take, slice_get, ◌==◌, ◌≡◌, ◌≢◌, ◌<◌, ◌≤◌, ◌⊎◌, inl, inr, ◌+◌, ℕ, suc, List, length, Option, Some, refl, subst, ◌∙◌, arith, slice_get_within, SetAttr, Time, DirCall, FileCall, Entry, Began, Call, NoneBegan, At, History, Lawful, SpellsCall, Once, AnsweredBefore, Evidence, MadeFirm, at_once, by_commit, Terms, Cuts, FirstSent, NoForeign, info_call, one_file_call, one-call, Mounted, Setup, View, GoesWith, OnlySetsUp, IsSaved, cases_lt, eqb-true, Verf, Bytes, Object, Server, HasBytes, At-below, Numbered}
use Rattle.claims.specs.Settled.{HoldsStable, written_at}
use Rattle.claims.specs.Touched.{Covers}
use Rattle.law_stable.specs.OwnCalls.{Alters, writes, sizes, HeardBefore, OwnCalls}
use Rattle.core_session.specs.settled.Settling.{IsSetUpCall, mounts, informs, IsSetUpRecord}
use Rattle.std.proofs.lemmas.Bool.{cases_Bool}
use Rattle.nfs_dir_calls.specs.declared.call.DirCall.TheVariants as dirs
use Rattle.nfs_dir_calls.specs.declared.create.Making.TheVariants as makings
use Rattle.nfs_file_calls.specs.declared.call.FileCall.TheVariants as files
use Rattle.world_model.specs.declared.message.Call.TheVariants as calls
use Rattle.world_model.specs.declared.op.Op.TheVariants as ops
use Rattle.core_session.specs.order.Altering as order
use Rattle.core_session.specs.order.Sizes.{IsTruncate}
use Rattle.core_session.proofs.order.Earliers.{earlier-heard}
use Rattle.core_session.proofs.order.Cuts.{sizes-asked, no-sizes-made}
use Rattle.nfs_file_calls.specs.declared.owned.FileKept.TheVariants as kept
use Rattle.world_model.specs.declared.entry.Entry.TheVariants as entries
use Rattle.world_model.specs.declared.message.Reply.TheVariants as replies
use Rattle.world_model.specs.Bytes.{put_at}
use Rattle.world_model.specs.FileService.{Puts, steady_after}
use Rattle.world_model.proofs.Doing.{write_done, commit_done}
use Rattle.world_model.proofs.Verifiers.{never_again}
use Rattle.law_reads.specs.Kept.{Done}
use Rattle.law_stable.proofs.Bytes.{get_take, put_here}
use Rattle.law_stable.specs.Stable.{HoldsNow}
use Rattle.law_stable.proofs.Executions.{Ran, ran}
use Rattle.law_stable.proofs.Spared.{spares}
use Rattle.law_stable.proofs.Stays.{SparesFrom, NoRestart, stays_now, stays_stable}
use Rattle.core_session.proofs.settled.Joined.{BeganOther}

-- ---- the set-up alters nothing

file-other : (a : FileCall) (call : Call) → calls.File a ≡ call → IsSetUpCall call → (root : List ℕ) × (calls.File a ≡ info_call root)
file-other a call same (mounts path is) = let no_way = same ∙ is in absurd cc
file-other a call same (informs root is) = (root, same ∙ is)

alters-nothing : (f : List ℕ) (i xid : ℕ) (call : Call) (sent : List ℕ) → IsSetUpRecord sent → SpellsCall xid call sent → Alters f i call → ⊥
alters-nothing f i xid call sent r spells (writes offset how bytes same low high) =
    let other = file-other (files.Write f offset how bytes) r.call (one_file_call xid r.xid (files.Write f offset how bytes) r.call sent (subst (λ (c : Call). SpellsCall xid c sent) same spells) r.spells) r.is in
    absurd (cc other.1)
alters-nothing f i xid call sent r spells (sizes set size guard same sized le) =
    let other = file-other (files.SetAttr f set guard) r.call (one_file_call xid r.xid (files.SetAttr f set guard) r.call sent (subst (λ (c : Call). SpellsCall xid c sent) same spells) r.spells) r.is in
    absurd (cc other.1)

dir-other : (a : DirCall) (call : Call) → calls.Dir a ≡ call → IsSetUpCall call → ⊥
dir-other a call same (mounts path is) = let no_way = same ∙ is in absurd cc
dir-other a call same (informs root is) = let no_way = same ∙ is in absurd cc

makes-nothing : (xid : ℕ) (d name : List ℕ) (set : SetAttr) (sent : List ℕ) → IsSetUpRecord sent → SpellsCall xid (calls.Dir (dirs.Create d name (makings.Unchecked set))) sent → ⊥
makes-nothing xid d name set sent r spells =
    dir-other (dirs.Create d name (makings.Unchecked set)) r.call (one-call xid r.xid (calls.Dir (dirs.Create d name (makings.Unchecked set))) r.call sent tt spells r.spells) r.is

altering : (f : List ℕ) (i : ℕ) (call : Call) → Alters f i call → order.Alters f i call
altering f i call (writes offset how bytes same low high) = order.writes offset how bytes same low high
altering f i call (sizes set size guard same sized le) = order.sizes set size guard same sized le

-- what was answered before a place was so before a later one
answered-later : (h : List Entry) (x n k : ℕ) → n ≤ k → AnsweredBefore h x n → AnsweredBefore h x k
answered-later h x n k le a = record { lane = a.lane; op = a.op; y = a.y; answer = a.answer; ended = a.ended; before = let low = a.before in omega (arith, low, le) }

-- ---- the law

module _ (mounted : Mounted) (terms : Terms) (setup : Setup) (t : History) (view : View) (g : GoesWith mounted terms setup t.entries view) (alone : OnlySetsUp t.entries)
    (lawful : Lawful t) (once : Once t.entries) where
  module _ (w : ℕ) (f : List ℕ) (i v : ℕ) (other : BeganOther t.entries w) (p : ℕ) (within : p ≤ length t.entries)
      (uncut : (x : ℕ) → x ≢ w → x < p → (AnsweredBefore t.entries x w → ⊥) → Cuts terms.modes t.entries x f i → ⊥) (to : ℕ)
      (s : IsSaved t.entries w to p f i v) where
    abbrev at : ℕ
    at = written_at s.evidence

    since : s.from ≤ at
    since = s.evidence.wrote.asked.heard.after

    past : w < at
    past = let after = s.after in let low = since in omega (arith, after, low)

    earlier-answered : (n xid : ℕ) (sent : List ℕ) (call : Call) → FirstSent t.entries n xid sent → SpellsCall xid call sent → Alters f i call → n < at → HeardBefore t.entries xid at
    earlier-answered n xid sent call first spells alters lt = choose
        (earlier-heard mounted setup t.entries view g.reaches f i n xid sent call first spells (altering f i call alters) at s.evidence.wrote.asked.xid s.evidence.wrote.asked.heard.record_sent s.evidence.wrote.offset s.evidence.wrote.how s.evidence.wrote.bytes s.evidence.wrote.asked.heard.sent
        s.evidence.wrote.asked.heard.spells
        (omega (arith, place)) (omega (arith, place, inside)) lt)
      where
        place : i ≡ s.evidence.wrote.offset + s.evidence.wrote.covers.k
        place = s.evidence.wrote.covers.place

        inside : s.evidence.wrote.covers.k < length s.evidence.wrote.bytes
        inside = slice_get_within s.evidence.wrote.bytes s.evidence.wrote.covers.k v s.evidence.wrote.covers.byte

        choose : NoneBegan t.entries n ⊎ order.HeardBefore t.entries xid at → HeardBefore t.entries xid at
        choose (inl none) = absurd (alters-nothing f i xid call sent (alone n sent first.sent none) spells alters)
        choose (inr h) = record { at = h.at; bytes = h.bytes; got = h.got; under = h.under; before = h.before }

    cuts-nothing : (n xid : ℕ) (sent : List ℕ) (set : SetAttr) (guard : Option Time) (size : ℕ) → FirstSent t.entries n xid sent → SpellsCall xid (calls.File (files.SetAttr f set guard)) sent
        → at ≤ n → n < p → set.size ≡ Some size → size ≤ i → ⊥
    cuts-nothing n xid sent set guard size first spells low high sized le = by_ (sizes-asked mounted terms setup t.entries view g n xid sent f set guard size first.sent spells sized)
      where
        by_ : NoneBegan t.entries n ⊎ IsTruncate terms.modes t.entries n f size → ⊥
        by_ (inl none) = alters-nothing f i xid (calls.File (files.SetAttr f set guard)) sent (alone n sent first.sent none) spells (sizes set size guard refl sized le)
        by_ (inr c) =
            let early = c.before in
            let since_w = past in
            uncut c.x (λ same. other c.of.lane c.of.line c.slot size (subst (λ z. At t.entries z (Began c.of.lane c.of.line (ops.Truncate c.slot size))) same c.of.began))
            (omega (arith, early, high)) (λ a. c.unanswered (answered-later t.entries c.x w n (omega (arith, since_w, low)) a)) (record { slot = c.slot; size = size; of = c.of; low = le })

    pub own-calls : OwnCalls t.entries at p f i v
    own-calls = record {
      later = λ n xid sent offset how k b bytes first spells low high place byte.
          s.alike n xid sent offset how k b bytes first.sent spells (let from = since in omega (arith, from, low)) high place byte;
      earlier = earlier-answered;
      uncut = cuts-nothing;
      unsized = λ n xid sent d name set size here spells sized.
          let none = no-sizes-made mounted setup t.entries view g.reaches n xid sent d name set size here spells sized in
          makes-nothing xid d name set sent (alone n sent here none) spells;
    }

-- ---- the WRITE

-- the file's bytes after a call that puts bytes
put_bytes : (s t : Server) (f now stable later steady : List ℕ) → Puts s t f now stable later steady → HasBytes t f later steady
put_bytes s t f now stable later steady p = record { file = p.turns.new; is = p.turns.is; holds = p.turns.becomes.holds }

covered : (offset count i v : ℕ) (bytes old : List ℕ) (c : Covers offset bytes i v) → i < offset + count → slice_get (put_at offset (take count bytes) old) i ≡ Some v
covered offset count i v bytes old c lt =
    let at = c.place in
    ap (λ z. slice_get (put_at offset (take count bytes) old) z) c.place ∙ put_here offset (take count bytes) old c.k v (get_take count bytes c.k (omega (arith, at, lt)) ∙ c.byte)

firmly : (firm offset : ℕ) (bytes stable : List ℕ) → 0 < firm → steady_after firm offset bytes stable ≡ put_at offset bytes stable
firmly firm offset bytes stable some = elim (cases_Bool (firm == 0)) [
  | inl z ↦ let is : firm ≡ 0 = eqb-true firm 0 z in absurd (omega (arith, is, some))
  | inr z ↦ simp z refl
]

-- ---- the COMMIT

some_object : (a b : Object) → Some a ≡ Some b → a ≡ b
some_object a b e = cc

bytes_now : (a b c d : List ℕ) → Bytes a b ≡ Bytes c d → a ≡ c
bytes_now a b c d e = cc

-- a COMMIT of the whole file makes a byte stable that is there
committed : (s t : Server) (f now stable : List ℕ) (i v : ℕ) → Puts s t f now stable now (put_at 0 now stable) → HoldsNow s f i v → HoldsStable t f i v
committed s t f now stable i v p h =
    let file : h.has.file ≡ p.file = some_object h.has.file p.file (sym h.has.is ∙ p.turns.has.is) in
    let same : h.now ≡ now = bytes_now h.now h.stable now stable (sym h.has.holds ∙ ap (λ (z : Object). z.holds) file ∙ p.held) in
    let there : slice_get now i ≡ Some v = ap (λ (z : List ℕ). slice_get z i) (sym same) ∙ h.holds in
    let at : i ≡ 0 + i = omega arith in
    record {
      now = now;
      stable = put_at 0 now stable;
      has = put_bytes s t f now stable now (put_at 0 now stable) p;
      holds = there;
      steady = ap (λ (n : ℕ). slice_get (put_at 0 now stable) n) at ∙ put_here 0 now stable i v there;
    }

-- after a restart the server never has the verifier of before
unrestarted : (t : History) → Lawful t → (m n : ℕ) → n ≤ length t.entries → (t.at n).verf ≡ (t.at m).verf → NoRestart t m n
unrestarted t lawful m n within same k verf at low high = absurd (never_again t lawful m k n verf low at high within same)

same_verf : (a b : Verf) → a.0 ≡ b.0 → a ≡ b
same_verf a b e = ap (λ (z : List ℕ). record { 0 = z }) e

as_now : (s : Server) (f : List ℕ) (i v : ℕ) → HoldsStable s f i v → HoldsNow s f i v
as_now s f i v h = record { now = h.now; stable = h.stable; has = h.has; holds = h.holds }

-- ---- from its execution on

module _ (t : History) (lawful : Lawful t) (once : Once t.entries) (numbered : Numbered t.entries) (from to : ℕ) (f : List ℕ) (i v : ℕ) (e : Evidence t.entries from to f i v) where
  abbrev pub ran_ : Ran t e.wrote.asked.heard.sent_at e.wrote.asked.heard.got_at e.wrote.asked.xid (calls.File (files.Write f e.wrote.offset e.wrote.how e.wrote.bytes)) (replies.File (kept.Write e.wrote.wcc e.wrote.count e.firm e.verf))
  ran_ = ran t lawful numbered from e.middle (files.Write f e.wrote.offset e.wrote.how e.wrote.bytes) (kept.Write e.wrote.wcc e.wrote.count e.firm e.verf) e.wrote.asked

  -- the WRITE's execution
  abbrev pub own-done : Done t (files.Write f e.wrote.offset e.wrote.how e.wrote.bytes) (kept.Write e.wrote.wcc e.wrote.count e.firm e.verf)
  own-done = (ran_.place, e.wrote.asked.xid, ran_.at)

  abbrev place : ℕ
  place = ran_.place

  record Put : Type 0 where
    under : (t.at place).verf ≡ e.verf
    now : HoldsNow (t.at (suc place)) f i v
    stable : 0 < e.firm → HoldsStable (t.at (suc place)) f i v

  put_there : Put
  put_there =
      let w = e.wrote in
      let serves = (lawful.entries place (entries.Executed w.asked.xid (calls.File (files.Write f w.offset w.how w.bytes)) (replies.File (kept.Write w.wcc w.count e.firm e.verf))) ran_.at).1 in
      let done = write_done (t.at place) (t.at (suc place)) f w.offset w.how w.bytes w.wcc w.count e.firm e.verf serves in
      let has = put_bytes (t.at place) (t.at (suc place)) f done.now done.stable _ _ done.puts in
      let here = covered w.offset w.count i v w.bytes done.now w.covers w.reached in
      record {
        under = sym done.verifier;
        now = record { now = _; stable = _; has = has; holds = here };
        stable = λ some. record {
          now = _;
          stable = _;
          has = has;
          holds = here;
          steady = ap (λ (z : List ℕ). slice_get z i) (firmly e.firm w.offset (take w.count w.bytes) done.stable some) ∙ covered w.offset w.count i v w.bytes done.stable w.covers w.reached;
        };
      }

  pub own-there : (p : ℕ) → suc place ≤ p → p ≤ length t.entries → OwnCalls t.entries (written_at e) p f i v → NoForeign t (written_at e) p f i → HoldsNow (t.at p) f i v
  own-there p started within own none = by e.made
    where
      spared : (m : ℕ) → place < m → SparesFrom t m p f i v
      spared m after n x at low high = let late = ran_.late in spares t lawful once numbered (written_at e) p f i v own none n x at (omega (arith, late, after, low)) high

      by : MadeFirm t.entries e.middle to f e.firm e.verf → HoldsNow (t.at p) f i v
      by (at_once some) = as_now (t.at p) f i v (stays_stable t lawful (suc place) p f i v started within (spared (suc place) (omega arith)) (put_there.stable some))
      by (by_commit wcc its same asked) =
          let r = ran t lawful numbered e.middle to (files.Commit f 0 0) (kept.Commit wcc its) asked in
          let serves = (lawful.entries r.place (entries.Executed asked.xid (calls.File (files.Commit f 0 0)) (replies.File (kept.Commit wcc its))) r.at).1 in
          let done = commit_done (t.at r.place) (t.at (suc r.place)) f 0 0 wcc its serves in
          let before = ran_.before in
          let came = e.wrote.asked.heard.before in
          let sent = asked.heard.after in
          let late = r.late in
          let inside = At-below t.entries r.place _ r.at in
          let one : (t.at r.place).verf ≡ (t.at place).verf = sym done.verifier ∙ same_verf its e.verf same ∙ sym put_there.under in
          let whole = unrestarted t lawful place r.place (omega (arith, inside)) one in
          elim (cases_lt r.place p) [
            | inr early ↦ stays_now t lawful (suc place) p f i v started within (spared (suc place) (omega arith))
                (λ n verf at low high. whole n verf at (omega (arith, low)) (omega (arith, high, early))) put_there.now
            | inl past ↦
                let there = stays_now t lawful (suc place) r.place f i v (omega (arith, before, came, sent, late)) (omega (arith, inside))
                (λ n x at low high. spared (suc place) (omega arith) n x at low (omega (arith, high, past))) (λ n verf at low high. whole n verf at (omega (arith, low)) high) put_there.now in
                as_now (t.at p) f i v (stays_stable t lawful (suc r.place) p f i v past within (spared (suc r.place) (omega (arith, before, came, sent, late)))
                (committed (t.at r.place) (t.at (suc r.place)) f done.now done.stable i v done.puts there))
          ]
