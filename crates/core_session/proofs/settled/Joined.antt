-- Bytes that are saved stay: by the law of stable bytes, since what else is sent of their place is spared or answered.
use Rattle.core_session.proofs.Prelude.{◌≡◌, ◌≢◌, ◌<◌, ◌≤◌, ◌⊎◌, inl, inr, ◌+◌, ℕ, suc, List, length, Option, Some, refl, subst, ◌∙◌, arith, slice_get_within, SetAttr, Time, DirCall, FileCall, Entry, Began, Call, NoneBegan, At, History, Lawful, SpellsCall, Modes, Once, AnsweredBefore, Terms, Wrote, write, fill, Cuts, FirstSent, At-one, NoForeign, info_call, one_file_call, one-call, Mounted, machine_of, Setup, View, GoesWith, reached-rows, OnlySetsUp, IsSaved}
use Rattle.claims.specs.Touched.{put, cut}
use Rattle.law_stable.specs.OwnCalls.{Alters, writes, sizes, HeardBefore, OwnCalls}
use Rattle.core_session.specs.settled.Settling.{IsSetUpCall, mounts, informs, IsSetUpRecord, SavedStay}
use Rattle.nfs_dir_calls.specs.declared.call.DirCall.TheVariants as dirs
use Rattle.nfs_dir_calls.specs.declared.create.Making.TheVariants as makings
use Rattle.nfs_file_calls.specs.declared.call.FileCall.TheVariants as files
use Rattle.world_model.specs.declared.message.Call.TheVariants as calls
use Rattle.world_model.specs.declared.op.Op.TheVariants as ops
use Rattle.claims.specs.Settled.{HoldsStable, written_at}
use Rattle.law_stable.proofs.Deciding.{stable_decided}
use Rattle.law_stable.proofs.Stays.{evidence_stable, untouched_unforeign}
use Rattle.core_session.specs.order.Altering as order
use Rattle.core_session.specs.order.Sizes.{IsTruncate}
use Rattle.core_session.proofs.order.Earliers.{earlier-heard}
use Rattle.core_session.proofs.order.Cuts.{sizes-asked, no-sizes-made}
use Rattle.core_session.proofs.settled.Leaving.{are-saved}

-- ---- the set-up alters nothing

file-other : (a : FileCall) (call : Call) → calls.File a ≡ call → IsSetUpCall call → (root : List ℕ) × (calls.File a ≡ info_call root)
file-other a call same (mounts path is) = let no_way = same ∙ is in absurd cc
file-other a call same (informs root is) = (root, same ∙ is)

alters-nothing : (f : List ℕ) (i xid : ℕ) (call : Call) (sent : List ℕ) → IsSetUpRecord sent → SpellsCall xid call sent → Alters f i call → ⊥
alters-nothing f i xid call sent r spells (writes offset how bytes same low high) =
    let other = file-other (files.Write f offset how bytes) r.call (one_file_call xid r.xid (files.Write f offset how bytes) r.call sent (subst (λ (c : Call). SpellsCall xid c sent) same spells) r.spells) r.is in
    absurd (cc other.1)
alters-nothing f i xid call sent r spells (sizes set size guard same sized le) =
    let other = file-other (files.SetAttr f set guard) r.call (one_file_call xid r.xid (files.SetAttr f set guard) r.call sent (subst (λ (c : Call). SpellsCall xid c sent) same spells) r.spells) r.is in
    absurd (cc other.1)

dir-other : (a : DirCall) (call : Call) → calls.Dir a ≡ call → IsSetUpCall call → ⊥
dir-other a call same (mounts path is) = let no_way = same ∙ is in absurd cc
dir-other a call same (informs root is) = let no_way = same ∙ is in absurd cc

makes-nothing : (xid : ℕ) (d name : List ℕ) (set : SetAttr) (sent : List ℕ) → IsSetUpRecord sent → SpellsCall xid (calls.Dir (dirs.Create d name (makings.Unchecked set))) sent → ⊥
makes-nothing xid d name set sent r spells =
    dir-other (dirs.Create d name (makings.Unchecked set)) r.call (one-call xid r.xid (calls.Dir (dirs.Create d name (makings.Unchecked set))) r.call sent tt spells r.spells) r.is

-- ---- a write is no truncate

-- an operation that began at a place isn't a truncate
abbrev pub BeganOther : List Entry → ℕ → Type 0
BeganOther h w = (lane : ℕ) (line : ℕ) (slot size : ℕ) → At h w (Began lane line (ops.Truncate slot size)) → ⊥

wrote-other : (m : Modes) (h : List Entry) (w y : ℕ) (f : List ℕ) (i v : ℕ) → Wrote m h w y f i v → BeganOther h w
wrote-other m h w y f i v (write its_lane its_slot offset bytes value of ended covers) lane line slot size at =
    let same = At-one h w (Began of.lane of.line (ops.Write its_slot offset bytes)) (Began lane line (ops.Truncate slot size)) of.began at in absurd (cc same)
wrote-other m h w y f i v (fill its_lane its_slot offset count value of ended low high) lane line slot size at =
    let same = At-one h w (Began of.lane of.line (ops.Fill its_slot offset count v)) (Began lane line (ops.Truncate slot size)) of.began at in absurd (cc same)
wrote-other m h w y f i v (put offset bytes to covers) lane line slot size at =
    let same = At-one h w (Began to.lane to.ended.line (ops.Put to.path offset bytes)) (Began lane line (ops.Truncate slot size)) to.ended.began at in absurd (cc same)

altering : (f : List ℕ) (i : ℕ) (call : Call) → Alters f i call → order.Alters f i call
altering f i call (writes offset how bytes same low high) = order.writes offset how bytes same low high
altering f i call (sizes set size guard same sized le) = order.sizes set size guard same sized le

-- what was answered before a place was so before a later one
answered-later : (h : List Entry) (x n k : ℕ) → n ≤ k → AnsweredBefore h x n → AnsweredBefore h x k
answered-later h x n k le a = record { lane = a.lane; op = a.op; y = a.y; answer = a.answer; ended = a.ended; before = let low = a.before in omega (arith, low, le) }

-- ---- the law

module _ (mounted : Mounted) (terms : Terms) (setup : Setup) (t : History) (view : View) (g : GoesWith mounted terms setup t.entries view) (alone : OnlySetsUp t.entries)
    (lawful : Lawful t) (once : Once t.entries) where
  module _ (w : ℕ) (f : List ℕ) (i v : ℕ) (other : BeganOther t.entries w) (p : ℕ) (within : p ≤ length t.entries)
      (uncut : (x : ℕ) → x ≢ w → x < p → (AnsweredBefore t.entries x w → ⊥) → Cuts terms.modes t.entries x f i → ⊥) (unforeign : NoForeign t w p f i) (to : ℕ) (by : to ≤ p)
      (s : IsSaved t.entries w to p f i v) where
    abbrev at : ℕ
    at = written_at s.evidence

    since : s.from ≤ at
    since = s.evidence.wrote.asked.heard.after

    past : w < at
    past = let after = s.after in let low = since in omega (arith, after, low)

    earlier-answered : (n xid : ℕ) (sent : List ℕ) (call : Call) → FirstSent t.entries n xid sent → SpellsCall xid call sent → Alters f i call → n < at → HeardBefore t.entries xid at
    earlier-answered n xid sent call first spells alters lt = choose
        (earlier-heard mounted setup t.entries view g.reaches f i n xid sent call first spells (altering f i call alters) at s.evidence.wrote.asked.xid s.evidence.wrote.asked.heard.record_sent s.evidence.wrote.offset s.evidence.wrote.how s.evidence.wrote.bytes s.evidence.wrote.asked.heard.sent
        s.evidence.wrote.asked.heard.spells
        (omega (arith, place)) (omega (arith, place, inside)) lt)
      where
        place : i ≡ s.evidence.wrote.offset + s.evidence.wrote.covers.k
        place = s.evidence.wrote.covers.place

        inside : s.evidence.wrote.covers.k < length s.evidence.wrote.bytes
        inside = slice_get_within s.evidence.wrote.bytes s.evidence.wrote.covers.k v s.evidence.wrote.covers.byte

        choose : NoneBegan t.entries n ⊎ order.HeardBefore t.entries xid at → HeardBefore t.entries xid at
        choose (inl none) = absurd (alters-nothing f i xid call sent (alone n sent first.sent none) spells alters)
        choose (inr h) = record { at = h.at; bytes = h.bytes; got = h.got; under = h.under; before = h.before }

    cuts-nothing : (n xid : ℕ) (sent : List ℕ) (set : SetAttr) (guard : Option Time) (size : ℕ) → FirstSent t.entries n xid sent → SpellsCall xid (calls.File (files.SetAttr f set guard)) sent
        → at ≤ n → n < p → set.size ≡ Some size → size ≤ i → ⊥
    cuts-nothing n xid sent set guard size first spells low high sized le = by_ (sizes-asked mounted terms setup t.entries view g n xid sent f set guard size first.sent spells sized)
      where
        by_ : NoneBegan t.entries n ⊎ IsTruncate terms.modes t.entries n f size → ⊥
        by_ (inl none) = alters-nothing f i xid (calls.File (files.SetAttr f set guard)) sent (alone n sent first.sent none) spells (sizes set size guard refl sized le)
        by_ (inr c) =
            let early = c.before in
            let since_w = past in
            uncut c.x (λ same. other c.of.lane c.of.line c.slot size (subst (λ z. At t.entries z (Began c.of.lane c.of.line (ops.Truncate c.slot size))) same c.of.began))
            (omega (arith, early, high)) (λ a. c.unanswered (answered-later t.entries c.x w n (omega (arith, since_w, low)) a)) (record { slot = c.slot; size = size; of = c.of; low = le })

    own : OwnCalls t.entries at p f i v
    own = record {
      later = λ n xid sent offset how k b bytes first spells low high place byte.
          s.alike n xid sent offset how k b bytes first.sent spells (let from = since in omega (arith, from, low)) high place byte;
      earlier = earlier-answered;
      uncut = cuts-nothing;
      unsized = λ n xid sent d name set size here spells sized.
          let none = no-sizes-made mounted setup t.entries view g.reaches n xid sent d name set size here spells sized in
          makes-nothing xid d name set sent (alone n sent here none) spells;
    }

    pub saved-stays : HoldsStable (t.at p) f i v
    saved-stays = evidence_stable t lawful once (reached-rows (machine_of mounted) setup t.entries view g.reaches).numbered s.from to f i v s.evidence p by within own
        (λ n call reply here low high changes. unforeign n call reply here (let since_w = past in omega (arith, since_w, low)) high changes)

pub saved-stay : SavedStay
saved-stay mounted terms setup t view g alone lawful once saved w y f i v j wrote settled p low within untouched =
    stable_decided (t.at p) f i v (λ never. are-saved terms.modes terms.origin t saved w y f i v j wrote settled p low within untouched
    (λ s. never (saved-stays mounted terms setup t view g alone lawful once w f i v (wrote-other terms.modes t.entries w y f i v wrote) p within
    (λ x apart early open_ cuts. untouched (cut x apart early open_ cuts)) (untouched_unforeign terms.modes terms.origin t w p w f i untouched (omega arith)) (suc j) (omega (arith, low)) s)))
