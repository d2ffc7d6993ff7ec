-- What lasts of an object on a lawful server: it stays, keeps its kind and its number, and is gone for ever once it is.
use Rattle.std.proofs.Common.{inl, inr, ◌≡◌, ◌<◌, ◌≤◌, [], ◌∷◌, ℕ, zero, suc, true, List, length, Option, Some, refl, sym, ap, subst, ◌∙◌, arith}
use Rattle.std.proofs.lemmas.Bool.{cases_Bool, cases_lt}
use Rattle.world_model.specs.declared.entry.Entry.{Entry}
use Rattle.world_model.specs.declared.entry.Entry.TheVariants as entries
use Rattle.world_model.specs.declared.message.Call.{Call}
use Rattle.world_model.specs.declared.message.Reply.{Reply}
use Rattle.world_model.specs.Bytes.{resized}
use Rattle.world_model.specs.Entries.{At}
use Rattle.world_model.specs.History.{History}
use Rattle.world_model.specs.Server.{Listed, Holds, Bytes, Entries, Text, Object, Server}
use Rattle.world_model.specs.Steps.{Becomes, Turns}
use Rattle.world_model.specs.FileService.{Puts, HoldsSized}
use Rattle.world_model.specs.NameService.{HoldsMoved}
use Rattle.world_model.specs.Names.{Loses}
use Rattle.world_model.specs.Service.{Serves}
use Rattle.world_model.specs.Lawful.{Flushes, IsLeft, same, lost, LawfulAt, Lawful}
use Rattle.world_model.proofs.Deciding.{same_bytes}
use Rattle.world_model.proofs.Goes.{Goes, left_alone, read_only, written, committed, sized, relisted, moved, unnamed, begun, goes}

-- two contents are of one sort: bytes, a list, or the same text
abbrev pub SameSort : Holds → Holds → Type 0
SameSort (Bytes now stable) new = (later : List ℕ) × (steady : List ℕ) × (new ≡ Bytes later steady)
SameSort (Entries list) new = (after : List Listed) × (new ≡ Entries after)
SameSort (Text text) new = new ≡ Text text

pub same_sort : (a : Holds) → SameSort a a
same_sort (Bytes now stable) = (now, stable, refl)
same_sort (Entries list) = (list, refl)
same_sort (Text text) = refl

pub sort_then : (a b c : Holds) → SameSort a b → SameSort b c → SameSort a c
sort_then (Bytes now stable) b c p q = let r = subst (λ (z : Holds). SameSort z c) p.2 q in (r.0, r.1, r.2)
sort_then (Entries list) b c p q = let r = subst (λ (z : Holds). SameSort z c) p.1 q in (r.0, r.1)
sort_then (Text text) b c p q = subst (λ (z : Holds). SameSort z c) p q

-- An object is there later, and is what it was but for what it holds and for its attributes.
pub record Lasts (o : Object) (t : Server) (h : List ℕ) : Type 0 where
  pub new : Object
  pub is : t.object h ≡ Some new
  pub kind : new.attr.kind ≡ o.attr.kind
  pub fileid : new.attr.fileid ≡ o.attr.fileid
  pub gone : o.gone ≡ true → new.gone ≡ true
  pub sort : SameSort o.holds new.holds

stays_as : (o : Object) (t : Server) (h : List ℕ) → t.object h ≡ Some o → Lasts o t h
stays_as o t h e = record { new = o; is = e; kind = refl; fileid = refl; gone = λ g. g; sort = same_sort o.holds }

some_is : (a b : Object) → Some a ≡ Some b → a ≡ b
some_is a b e = cc

becomes_lasts : (o p : Object) (later : Holds) (t : Server) (h : List ℕ) → t.object h ≡ Some p → Becomes o p later → SameSort o.holds later → Lasts o t h
becomes_lasts o p later t h is b sort = record { new = p; is = is; kind = b.kind; fileid = b.fileid; gone = λ g. b.gone ∙ g; sort = subst (SameSort o.holds) (sym b.holds) sort }

turns_lasts : (s t : Server) (h : List ℕ) (o q : Object) (later : Holds) → s.object h ≡ Some o → Turns s t h q later → SameSort q.holds later → Lasts o t h
turns_lasts s t h o q later e w sort =
    let same : q ≡ o = some_is q o (sym w.has.is ∙ e) in
    subst (λ (z : Object). Lasts z t h) same (becomes_lasts q w.new later t h w.is w.becomes sort)

puts_lasts : (s t : Server) (h : List ℕ) (o : Object) (now stable later steady : List ℕ) → s.object h ≡ Some o → Puts s t h now stable later steady → Lasts o t h
puts_lasts s t h o now stable later steady e p = turns_lasts s t h o p.file (Bytes later steady) e p.turns (rw p.held (later, steady, refl))

sized_sort : (size : ℕ) (old new : Holds) → HoldsSized (Some size) old new → SameSort old new
sized_sort size (Bytes now stable) new h = (resized size now, resized size stable, h)
sized_sort size (Entries list) new h = absurd h
sized_sort size (Text text) new h = absurd h

moved_sort : (old new : Holds) → HoldsMoved old new → SameSort old new
moved_sort (Bytes now stable) new h = (now, stable, h)
moved_sort (Entries list) new h = (h.0, h.1)
moved_sort (Text text) new h = h

-- what lost a name that was gone before is gone
loses_gone : (s t : Server) (h : List ℕ) (l : Loses s t h) → l.old.gone ≡ true → l.new.gone ≡ true
loses_gone s t h l g =
    elim (cases_Bool l.new.gone) [
      | inl yes_gone ↦ yes_gone
      | inr still ↦ l.nameless (λ n. absurd (cc (sym still ∙ l.named n ∙ g)))
    ]

loses_lasts : (s t : Server) (h : List ℕ) (o : Object) → s.object h ≡ Some o → Loses s t h → Lasts o t h
loses_lasts s t h o e l =
    let same : l.old ≡ o = some_is l.old o (sym l.was ∙ e) in
    subst (λ (z : Object). Lasts z t h) same (record { new = l.new; is = l.is; kind = l.kind; fileid = l.fileid; gone = loses_gone s t h l; sort = subst (SameSort l.old.holds) (sym l.holds) (same_sort l.old.holds) })

pub goes_lasts : (s t : Server) (call : Call) (reply : Reply) (h : List ℕ) (o : Object) → s.object h ≡ Some o → Goes s call reply t h → Lasts o t h
goes_lasts s t call reply h o e (left_alone q) = stays_as o t h (q ∙ e)
goes_lasts s t call reply h o e (read_only r) = turns_lasts s t h o r.object r.object.holds e r.turns (same_sort r.object.holds)
goes_lasts s t call reply h o e (written offset how bytes count now stable steady is p k) = puts_lasts s t h o now stable _ steady e p
goes_lasts s t call reply h o e (committed offset count now stable is p) = puts_lasts s t h o now stable now _ e p
goes_lasts s t call reply h o e (sized size q later is held w) = turns_lasts s t h o q later e w (sized_sort size q.holds later held)
goes_lasts s t call reply h o e (relisted old new r) = turns_lasts s t h o r.dir (Entries new) e r.turns (rw r.held (new, refl))
goes_lasts s t call reply h o e (moved q later m w) = turns_lasts s t h o q later e w (moved_sort q.holds later m)
goes_lasts s t call reply h o e (unnamed l) = loses_lasts s t h o e l
goes_lasts s t call reply h o e (begun kind holds b) = absurd (cc (sym b.never ∙ e))

-- a call that is served
pub serves_lasts : (s t : Server) (call : Call) (reply : Reply) (h : List ℕ) (o : Object) → Serves s call reply t → s.object h ≡ Some o → Lasts o t h
serves_lasts s t call reply h o v e = goes_lasts s t call reply h o e (goes s t call reply h v)

-- ---- over any entry

flushed_lasts : (s t : Server) (f : List ℕ) (start count : ℕ) (h : List ℕ) (o : Object) → Flushes s t f start count → s.object h ≡ Some o → Lasts o t h
flushed_lasts s t f start count h o w e =
    elim (same_bytes h f) [
      | inl q ↦
          let same : w.file ≡ o = some_is w.file o (sym w.has.is ∙ ap s.object (sym q) ∙ e) in
          subst (λ (z : Object). Lasts z t h) same (record { new = _; is = ap t.object q ∙ w.is; kind = refl; fileid = refl; gone = λ g. g; sort = rw w.held (w.now, _, refl) })
      | inr d ↦ stays_as o t h (w.only.others h d ∙ e)
    ]

left_lasts : (o : Object) (old : Option Object) (t : Server) (h : List ℕ) → old ≡ Some o → IsLeft old (t.object h) → Lasts o t h
left_lasts o old t h e (same q) = stays_as o t h (q ∙ e)
left_lasts o old t h e (lost q p now stable a b held other w) =
    let is : q ≡ o = some_is q o (sym a ∙ e) in
    subst (λ (z : Object). Lasts z t h) is (becomes_lasts q p (Bytes stable stable) t h b w (rw held (stable, stable, refl)))

pub entry_lasts : (t : History) (n : ℕ) (e : Entry) (a b : Server) (h : List ℕ) (o : Object) → LawfulAt t n e a b → a.object h ≡ Some o → Lasts o b h
entry_lasts t n (entries.Executed xid call reply) a b h o l e = serves_lasts a b call reply h o l.1 e
entry_lasts t n (entries.Foreign call reply) a b h o l e = serves_lasts a b call reply h o l e
entry_lasts t n (entries.Flushed f start count) a b h o l e = flushed_lasts a b f start count h o l e
entry_lasts t n (entries.Reboot verf) a b h o l e = left_lasts o (a.object h) b h e (l.left h)
entry_lasts t n (entries.Delivered bytes) a b h o l e = stays_as o b h (l.same.object h ∙ e)
entry_lasts t n (entries.Began lane line op) a b h o l e = stays_as o b h (l.object h ∙ e)
entry_lasts t n (entries.Answered lane line answer) a b h o l e = stays_as o b h (l.object h ∙ e)
entry_lasts t n (entries.Dialed port) a b h o l e = stays_as o b h (l.object h ∙ e)
entry_lasts t n (entries.Sent bytes) a b h o l e = stays_as o b h (l.object h ∙ e)
entry_lasts t n entries.Failed a b h o l e = stays_as o b h (l.object h ∙ e)
entry_lasts t n (entries.Clock ms) a b h o l e = stays_as o b h (l.object h ∙ e)

-- ---- over any number of entries

pub lasts_then : (o : Object) (s t : Server) (h : List ℕ) (p : Lasts o s h) → Lasts p.new t h → Lasts o t h
lasts_then o s t h p q = record {
  new = q.new;
  is = q.is;
  kind = q.kind ∙ p.kind;
  fileid = q.fileid ∙ p.fileid;
  gone = λ g. q.gone (p.gone g);
  sort = sort_then o.holds p.new.holds q.new.holds p.sort q.sort;
}

-- below the end of a history an entry stands
pub entry_at : (h : List Entry) (n : ℕ) → n < length h → (e : Entry) × At h n e
entry_at [] n lt = absurd (omega (arith, lt))
entry_at (x ∷ h) zero lt = (x, refl)
entry_at (x ∷ h) (suc n) lt = entry_at h n (omega (arith, lt))

pub moment_lasts : (t : History) → Lawful t → (n : ℕ) → n < length t.entries → (h : List ℕ) (o : Object) → (t.at n).object h ≡ Some o → Lasts o (t.at (suc n)) h
moment_lasts t l n lt h o e = let x = entry_at t.entries n lt in entry_lasts t n x.0 (t.at n) (t.at (suc n)) h o (l.entries n x.0 x.1) e

-- An object that is there at a moment lasts to every later one.
pub lasts : (t : History) → Lawful t → (m n : ℕ) → m ≤ n → n ≤ length t.entries → (h : List ℕ) (o : Object) → (t.at m).object h ≡ Some o → Lasts o (t.at n) h
lasts t l m zero le within h o e = let z : m ≡ 0 = omega (arith, le) in stays_as o (t.at 0) h (subst (λ (k : ℕ). (t.at k).object h ≡ Some o) z e)
lasts t l m (suc n) le within h o e =
    elim (cases_lt m (suc n)) [
      | inl lt ↦
          let p = lasts t l m n (omega (arith, lt)) (omega (arith, within)) h o e in
          lasts_then o (t.at n) (t.at (suc n)) h p (moment_lasts t l n (omega (arith, within)) h p.new p.is)
      | inr ge ↦ let z : m ≡ suc n = omega (arith, le, ge) in stays_as o (t.at (suc n)) h (subst (λ (k : ℕ). (t.at k).object h ≡ Some o) z e)
    ]
