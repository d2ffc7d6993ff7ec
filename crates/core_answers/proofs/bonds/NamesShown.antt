-- Each name that is kept was answered by a LOOKUP, and stands while its directory keeps the stamp.
use Rattle.core_answers.proofs.Prelude.{◌≡◌, ℕ, List, [], ◌∷◌, ◌++◌, length, Some, Result, refl, sym, ap, subst, arith, All-nil, stamp_of, Lookup, Fault, Entry, Call, Reply, History, Lawful, Heard-wide, Step, Send, Wait, Done, machine_of, Machine, View, in_flight, Reaches, Awaits, awaits-laws, all-starts, all-resumes, all-takes, Told, reached-rows, AskedOf, KeptOf, IsAnswered}
use Rattle.core_facts.proofs.NamesKept.{CallTells}
use Rattle.name_cache.specs.declared.entry.KeptName.{KeptName}
use Rattle.name_cache.specs.declared.entry.Place.{Place}
use Rattle.name_cache.specs.Names as names
use Rattle.name_cache.proofs.Entries.{All-lookup, looked-kept}
use Rattle.world_model.specs.declared.message.Reply.TheVariants.{Dir}
use Rattle.name_ops.specs.Looking.{look_up}
use Rattle.law_names.specs.Kept.{IsLookedUp}
use Rattle.model_walks.proofs.NamesStand.{stands_at}
use Rattle.core_answers.specs.bonds.Named.{WasNamed, NamesShown, NamesTrue, NamesStood}
use Rattle.core_answers.proofs.bonds.AttrsShown.{answered-last, no-story}
use Rattle.core_answers.proofs.bonds.Executions.{answered-ran, attrs-true}
use Rattle.core_answers.proofs.bonds.FileCalls.{Asking}
use Rattle.core_answers.proofs.bonds.Keeping.{reached-known}
use Rattle.core_answers.proofs.engine.Told.{AskLaws, IsTold, ShelfLaws}

-- ---- for which call an operation waits

awaits-kept : (others : ℕ) (m : Machine) (next : Step) (new : Machine) → AskedOf Awaits next new × KeptOf Awaits others m next new → Asking Awaits (Awaits m) others next new
awaits-kept others m (Send call) new a = record { asked = a.0; kept = a.1 }
awaits-kept others m Wait new a = record { asked = a.0; kept = a.1 }
awaits-kept others m (Done answer) new a = record { asked = a.0; kept = a.1 }

pub awaits-asks : AskLaws Awaits
awaits-asks = record {
  starts = λ m wsize turn old next new after s. awaits-laws.starts m wsize turn old next new after s;
  resumes = λ m wsize turn old next new after right goes s. awaits-kept (in_flight m) m next new (awaits-laws.resumes m wsize turn old next new after s);
  takes = λ m wsize sent turn came old next new after others one s. awaits-kept others m next new (awaits-laws.takes m wsize sent turn came old next new after others one s);
}

-- ---- names

-- an entry of the cache, as the history shows it
abbrev pub NamedIn : List Entry → Place × KeptName → Type 0
NamedIn h e = WasNamed h e.0 e.1

from-start : (h : List Entry) (from : ℕ) (call : Call) (reply : Reply) → IsAnswered h from (length h) call reply → IsAnswered h 0 (length h) call reply
from-start h from call reply a =
    record { xid = a.xid; bytes = a.bytes; heard = Heard-wide h from (length h) 0 (length h) call a.xid a.bytes (omega arith) (omega arith) a.heard; spells = a.spells; only = a.only }

pub told-named : (h : List Entry) (call : Call) (ms : ℕ) (came : Result Reply Fault) → IsTold h call ms came → CallTells (NamedIn h) came call
told-named h call ms came told dir name is found attr dir_attr ok =
    let t = told (Dir (Lookup found attr (Some dir_attr))) ok in
    record {
      attr = attr;
      dir_attr = dir_attr;
      stamp = refl;
      answered = subst (λ (c : Call). IsAnswered h 0 (length h) c (Dir (Lookup found attr (Some dir_attr)))) is (from-start h t.since call _ t.answered);
    }

pub named-grows : (h : List Entry) (e : Entry) (place : Place) (kept : KeptName) → WasNamed h place kept → WasNamed (h ++ e ∷ []) place kept
named-grows h e place kept s = record { attr = s.attr; dir_attr = s.dir_attr; stamp = s.stamp; answered = answered-last h e 0 _ _ s.answered }

names-grow : (h : List Entry) (e : Entry) (es : names.Entries) → Told (NamedIn h) es → Told (NamedIn (h ++ e ∷ [])) es
names-grow h e es all k d lt = named-grows h e _ _ (all k d lt)

pub name-laws : ShelfLaws Awaits (λ h shelf. Told (NamedIn h) shelf.names)
name-laws = record {
  starts = λ h machine wsize turn old next new after s k. all-starts (NamedIn h) machine wsize turn old next new after s k;
  resumes = λ h machine wsize turn old next new after r k. all-resumes (NamedIn h) machine wsize turn old next new after r k;
  takes = λ h machine call wsize sent turn came old next new after on told t k.
      all-takes (NamedIn h) machine wsize sent turn came old next new after call on (told-named h call sent.now came told) t k;
  grows = λ h e shelf k. names-grow h e shelf.names k;
}

-- nothing is kept at first
pub none-kept : (h : List Entry) (es : names.Entries) → es ≡ [] → Told (NamedIn h) es
none-kept h es is = subst (Told (NamedIn h)) (sym is) (All-nil (NamedIn h))

abbrev pub NamesIn : List Entry → View → Type 0
NamesIn h v = Told (NamedIn h) v.shelf.names

names-in : (m : _) (setup : _) (h : List Entry) (v : View) → Reaches (machine_of m) setup h v → NamesIn h v
names-in m setup h v r =
    (reached-known m setup Awaits awaits-asks (λ k shelf. Told (NamedIn k) shelf.names) (λ k x op state. Unit {0})
    (no-story m Awaits (λ k shelf. Told (NamedIn k) shelf.names) name-laws) (λ k w fresh. none-kept k w.shelf.names fresh.names) h v r).kept

pub names-shown : NamesShown
names-shown m setup h v r place kept is = All-lookup (NamedIn h) place v.shelf.names kept (names-in m setup h v r) is

-- ---- where the server is honest

pub was-looked : (m : _) (setup : _) (t : History) (v : View) → Lawful t → Reaches (machine_of m) setup t.entries v → (place : Place) (kept : KeptName) → WasNamed t.entries place kept
    → IsLookedUp t place.dir kept.stamp place.name kept.found
was-looked m setup t v lawful r place kept s =
    let ran = answered-ran t lawful (reached-rows (machine_of m) setup t.entries v r).numbered 0 _ (look_up place.dir place.name) (Dir (Lookup kept.found s.attr (Some s.dir_attr))) tt s.answered in
    record { place = ran.place; xid = ran.xid; attr = s.attr; dir = s.dir_attr; done = ran.at; is = s.stamp }

pub names-true : NamesTrue
names-true m setup t v lawful fresh r place kept is n within o there stamp =
    stands_at t lawful fresh place.dir kept.stamp place.name kept.found (was-looked m setup t v lawful r place kept (names-shown m setup t.entries v r place kept is)) n within o there stamp

pub names-stood : NamesStood
names-stood m setup most t v lasts lawful fresh r dir name found kept is looked =
    let had = attrs-true m setup most t v lasts lawful r dir kept is in
    let stamp = stamp_of kept.attr in
    let named = looked-kept (NamedIn t.entries) dir name stamp found v.shelf.names (names-in m setup t.entries v r) looked in
    let was = was-looked m setup t v lawful r (record { dir = dir; name = name }) (record { stamp = stamp; found = found }) named in
    record { n = had.n; timed = had.timed; soon = had.soon; names = stands_at t lawful fresh dir stamp name found was had.n had.soon had.has.o had.has.is (ap stamp_of had.has.had) }
