-- Calls of a link, or of datagrams, one after the other.
use Rattle.std.proofs.Common.{◌≡◌, List, [], ◌∷◌, ◌++◌, Option, Some, None, refl, sym, ap, append_assoc}
use Rattle.std.proofs.lemmas.List.{append-nil}
use Rattle.world_model.specs.declared.entry.Entry.{Entry}
use Rattle.world_model.specs.History.{History}
use Rattle.world_model.specs.Told.{Tells}
use Rattle.world_model.proofs.Histories.{adds_then, adds_none}
use Rattle.outside.specs.declared.datagrams.DatagramEntry.{DatagramEntry}
use Rattle.outside.specs.Datagrams.{DatagramCall, DatagramsTold, DatagramsTell}
use Rattle.export_session.specs.Talk.{Does}
use Rattle.export_session.specs.Senders.{did_of, AddsAll, TellsAll, DoesAll}

-- ---- over a link

tells_both : (a b c : Option History) (es fs : List Entry) → Tells a b es → Tells b c fs → Tells a c (es ++ fs)
tells_both None b c es fs p q = tt
tells_both (Some t) None c es fs p q = absurd p
tells_both (Some t) (Some u) None es fs p q = absurd q
tells_both (Some t) (Some u) (Some v) es fs p q = adds_then t u v es fs p q

tells_same : (a : Option History) → Tells a a []
tells_same None = tt
tells_same (Some t) = adds_none t t refl (λ n le. refl)

-- nothing was called
pub does_none : (a : Option History) (P : List Entry → Type 0) → P [] → Does a a P
does_none a P p = record { entries = []; tells = tells_same a; is = p }

-- one call, by the entries that it added
pub does_call : (a b : Option History) (es : List Entry) (P : List Entry → Type 0) → Tells a b es → P es → Does a b P
does_call a b es P t p = record { entries = es; tells = t; is = p }

pub does_exactly : (a b : Option History) (es : List Entry) → Tells a b es → Does a b (λ fs. fs ≡ es)
does_exactly a b es t = record { entries = es; tells = t; is = refl }

-- two calls in a row
pub does_then : (a b c : Option History) (P Q R : List Entry → Type 0) → ((es fs : List Entry) → P es → Q fs → R (es ++ fs)) → Does a b P → Does b c Q → Does a c R
does_then a b c P Q R join p q = record {
  entries = p.entries ++ q.entries;
  tells = tells_both a b c p.entries q.entries p.tells q.tells;
  is = join p.entries q.entries p.is q.is;
}

-- the same calls, with something else said of them
pub does_so : (a b : Option History) (P Q : List Entry → Type 0) → ((es : List Entry) → P es → Q es) → Does a b P → Does a b Q
does_so a b P Q so p = record { entries = p.entries; tells = p.tells; is = so p.entries p.is }

-- ---- over datagrams

did_both : (cs ds : List DatagramCall) → did_of (cs ++ ds) ≡ did_of cs ++ did_of ds
did_both [] ds = refl
did_both (c ∷ cs) ds = ap (λ (t : List DatagramEntry). c.did ∷ t) (did_both cs ds)

adds_both : (a b c : DatagramsTold) (es fs : List DatagramEntry) → AddsAll a b es → AddsAll b c fs → AddsAll a c (es ++ fs)
adds_both a b c es fs p q = record {
  more = p.more ++ q.more;
  grown = rw (q.grown, p.grown) (ap (λ (t : List DatagramCall). record { start = a.start; calls = t }) (append_assoc a.calls p.more q.more));
  did = rw (did_both, p.did, q.did) refl;
}

tells_all_both : (a b c : Option DatagramsTold) (es fs : List DatagramEntry) → TellsAll a b es → TellsAll b c fs → TellsAll a c (es ++ fs)
tells_all_both None b c es fs p q = tt
tells_all_both (Some t) None c es fs p q = absurd p
tells_all_both (Some t) (Some u) None es fs p q = absurd q
tells_all_both (Some t) (Some u) (Some v) es fs p q = adds_both t u v es fs p q

tells_all_same : (a : Option DatagramsTold) → TellsAll a a []
tells_all_same None = tt
tells_all_same (Some t) = record { more = []; grown = ap (λ (cs : List DatagramCall). record { start = t.start; calls = cs }) (sym (append-nil t.calls)); did = refl }

-- what one call of datagrams adds
abbrev pub entries_of : Option DatagramEntry → List DatagramEntry
entries_of None = []
entries_of (Some did) = did ∷ []

tells_one : (a b : Option DatagramsTold) (did : Option DatagramEntry) → DatagramsTell a b did → TellsAll a b (entries_of did)
tells_one None b did t = tt
tells_one (Some x) None did t = absurd t
tells_one (Some x) (Some y) None t = rw t (tells_all_same (Some x))
tells_one (Some x) (Some y) (Some did) t = record { more = record { quiet = t.quiet; did = did } ∷ []; grown = t.grown; did = refl }

pub does_all_none : (a : Option DatagramsTold) (P : List DatagramEntry → Type 0) → P [] → DoesAll a a P
does_all_none a P p = record { entries = []; tells = tells_all_same a; is = p }

pub does_all_call : (a b : Option DatagramsTold) (did : Option DatagramEntry) (P : List DatagramEntry → Type 0) → DatagramsTell a b did → P (entries_of did) → DoesAll a b P
does_all_call a b did P t p = record { entries = entries_of did; tells = tells_one a b did t; is = p }

pub does_all_exactly : (a b : Option DatagramsTold) (did : Option DatagramEntry) → DatagramsTell a b did → DoesAll a b (λ fs. fs ≡ entries_of did)
does_all_exactly a b did t = record { entries = entries_of did; tells = tells_one a b did t; is = refl }

pub does_all_then :
    (a b c : Option DatagramsTold) (P Q R : List DatagramEntry → Type 0) → ((es fs : List DatagramEntry) → P es → Q fs → R (es ++ fs)) → DoesAll a b P → DoesAll b c Q → DoesAll a c R
does_all_then a b c P Q R join p q = record {
  entries = p.entries ++ q.entries;
  tells = tells_all_both a b c p.entries q.entries p.tells q.tells;
  is = join p.entries q.entries p.is q.is;
}

pub does_all_so : (a b : Option DatagramsTold) (P Q : List DatagramEntry → Type 0) → ((es : List DatagramEntry) → P es → Q es) → DoesAll a b P → DoesAll a b Q
does_all_so a b P Q so p = record { entries = p.entries; tells = p.tells; is = so p.entries p.is }
