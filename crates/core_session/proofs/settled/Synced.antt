-- Bytes that were settled stay.
use Rattle.core_session.proofs.Prelude.{◌≡◌, ◌<◌, ◌≤◌, ◌+◌, ◌-◌, ◌&&◌, ℕ, suc, Bool, true, false, nat_le, List, length, Some, slice_get, refl, sym, ap, ◌∙◌, arith, le-leb, lt-ltb, slice_get_within, Entry, Began, Sent, At, SpellsCall, Modes, At-one, covers, History, Origin, Terms, Wrote, write, fill, GivesUp, Touched, Mounted, Setup, View, KnowsRoot, GoesWith, TouchedUntil, MadeAndKept, WritesCarry, PutsNamed, IsSaved}
use Rattle.std.proofs.Common.{nat_lt, slice_index}
use Rattle.std.proofs.lemmas.Option.{get_or_from_slice_get}
use Rattle.claims.specs.Touched.{put, Left}
use Rattle.core_session.specs.syncs.Until.{cut}
use Rattle.core_session.specs.settled.Settling.{AreSaved, SettledStay}
use Rattle.nfs_file_calls.specs.declared.call.FileCall.TheVariants as files
use Rattle.world_model.specs.declared.message.Call.TheVariants as calls
use Rattle.world_model.specs.declared.op.Op.TheVariants as ops
use Rattle.claims.specs.Touched as touched
use Rattle.core_session.specs.syncs.Until as until
use Rattle.core_session.specs.settled.Synced.{SyncedStay}
use Rattle.core_session.proofs.settled.Converted.{to-evidence}
use Rattle.core_session.proofs.settled.Joined.{BeganOther, saved-stays, saved-stay}
use Rattle.core_session.proofs.settled.LostSyncs.{all-synced}

-- where a WRITE covers the place it has the byte
alike : (h : List Entry) (from p : ℕ) (f : List ℕ) (i byte : ℕ) → WritesCarry h from p f i byte → (s xid : ℕ) (sent : List ℕ) (offset how k b : ℕ) (bytes : List ℕ) → At h s (Sent sent)
    → SpellsCall xid (calls.File (files.Write f offset how bytes)) sent → from ≤ s → s < p → i ≡ offset + k → slice_get bytes k ≡ Some b → b ≡ byte
alike h from p f i byte kept s xid sent offset how k b bytes at spells low high place has =
    let inside = slice_get_within bytes k b has in
    let there : covers offset (length bytes) i ≡ true = both (nat_le offset i) (nat_lt i (offset + length bytes)) (le-leb offset i (omega (arith, place))) (lt-ltb i (offset + length bytes) (omega (arith, place, inside))) in
    let number : i - offset ≡ k = omega (arith, place) in
    sym (get_or_from_slice_get bytes k b 0 has) ∙ ap (slice_index bytes) (sym number) ∙ kept s xid offset how bytes sent at spells low high there
  where
    both : (a c : Bool) → a ≡ true → c ≡ true → (a && c) ≡ true
    both true true e g = refl
    both true false e g = absurd cc
    both false c e g = absurd cc

pub saved : (h : List Entry) (w to p : ℕ) (f : List ℕ) (i byte : ℕ) → MadeAndKept h w to p f i byte → IsSaved h w to p f i byte
saved h w to p f i byte k =
    record { from = k.from; after = k.after; evidence = to-evidence h k.from to f i byte k.made; alike = alike h k.from p f i byte k.kept }

pub wrote-other : (m : Modes) (h : List Entry) (w y : ℕ) (f : List ℕ) (i byte : ℕ) → Wrote m h w y f i byte → BeganOther h w
wrote-other m h w y f i byte (write its_lane its_slot offset bytes value of ended covers) lane line slot size at =
    let same = At-one h w (Began of.lane of.line (ops.Write its_slot offset bytes)) (Began lane line (ops.Truncate slot size)) of.began at in absurd (cc same)
wrote-other m h w y f i byte (fill its_lane its_slot offset count value of ended low high) lane line slot size at =
    let same = At-one h w (Began of.lane of.line (ops.Fill its_slot offset count byte)) (Began lane line (ops.Truncate slot size)) of.began at in absurd (cc same)
wrote-other m h w y f i byte (put offset bytes to covers) lane line slot size at =
    let same = At-one h w (Began to.lane to.ended.line (ops.Put to.path offset bytes)) (Began lane line (ops.Truncate slot size)) to.ended.began at in absurd (cc same)

pub synced-stay : SyncedStay
synced-stay m terms setup t v g roots named alone lawful once w y f i byte j p wrote settled low within untouched unforeign =
    saved-stays m terms setup t v g alone lawful once w f i byte (wrote-other terms.modes t.entries w y f i byte wrote) p within
    (λ x apart early unanswered cuts. untouched (cut x apart early unanswered cuts)) unforeign (suc j) (omega (arith, low))
    (saved t.entries w (suc j) p f i byte (all-synced m terms setup t.entries v g roots named w y f i byte j p wrote settled low within untouched))

-- ---- all of them

-- nothing touches a byte but what `claims` says
touched-so : (m : Modes) (origin : Origin) (t : History) (w j p : ℕ) (f : List ℕ) (i : ℕ) → ((k : ℕ) → w < k → k < j → Left m t.entries k f → GivesUp m t.entries k f → ⊥) → TouchedUntil m origin t.entries w j p f i
    → Touched m origin t w p f i
touched-so m origin t w j p f i none (until.written x v apart low open_ writes kept) = touched.written x v apart low open_ writes kept
touched-so m origin t w j p f i none (until.cut x apart low open_ cuts) = touched.cut x apart low open_ cuts
touched-so m origin t w j p f i none (until.given_up k late soon left gives) = absurd (none k late soon left gives)

-- each byte that was settled, and wasn't touched, was saved
pub all-saved : (m : Mounted) (terms : Terms) (setup : Setup) (t : History) (v : View) → GoesWith m terms setup t.entries v → KnowsRoot terms.origin t.entries m.root → PutsNamed t.entries → AreSaved terms.modes terms.origin t
all-saved m terms setup t v g roots named w y f i byte j wrote settled p low within untouched none never =
    never (saved t.entries w (suc j) p f i byte (all-synced m terms setup t.entries v g roots named w y f i byte j p wrote settled low within
    (λ s. untouched (touched-so terms.modes terms.origin t w j p f i none s))))

pub settled-stay : SettledStay
settled-stay m terms setup t v g roots named alone lawful once =
    saved-stay m terms setup t v g alone lawful once (all-saved m terms setup t v g roots named)
