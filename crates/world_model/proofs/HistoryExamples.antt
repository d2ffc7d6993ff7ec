-- Worked examples of histories: what is lawful, once, fresh and rising, where a path leads, and what isn't.
use Rattle.std.proofs.Common.{inl, inr, ◌≡◌, ◌<◌, ℕ, zero, suc, true, false, slice_get, sym, ap, ◌∙◌, List, [], ◌∷◌, length, Option, Some, refl, arith}
use Rattle.std.proofs.lemmas.List.Elements.{All-nil, All-cons, All-contains}
use Rattle.world_model.specs.declared.entry.Entry.{Entry}
use Rattle.world_model.specs.declared.entry.Entry.TheVariants as entries
use Rattle.world_model.specs.Server.{Listed, Entries, Object, Server}
use Rattle.world_model.specs.History.{History}
use Rattle.world_model.specs.Lawful.{LawfulAt, IsReplied, replied, refused}
use Rattle.world_model.specs.Once.{Once}
use Rattle.world_model.specs.Fresh.{Fresh, bytes}
use Rattle.world_model.specs.Names.{parent_name}
use Rattle.world_model.specs.Rising.{NameRow, Rises, row_of, EntersAbove}
use Rattle.world_model.specs.Mounts.{Given}
use Rattle.world_model.specs.Leads.{Leads, root, step}
use Rattle.world_model.proofs.ServiceExamples.{attr, file, verf, server, write_one, wrote}

-- ---- lawful

abbrev still : Server → List Entry → History
still s h = record { entries = h; at = λ n. s }

-- a server doesn't restart with the verifier that it has
may_not_keep_verifier : (now stable : List ℕ) (t : Server) → LawfulAt (still (server (file now stable 2)) []) 0 (entries.Reboot (verf 1)) (server (file now stable 2)) t → ⊥
may_not_keep_verifier now stable t restarts = restarts.new 0 (omega arith) refl

-- no record comes before one was sent
may_not_answer_nothing : (h : List Entry) (record_come : List ℕ) → IsReplied h 0 record_come → ⊥
may_not_answer_nothing h record_come (replied m xid call reply before executed spells) = omega (arith, before)
may_not_answer_nothing h record_come (refused m xid code record_sent before sent under spells) = omega (arith, before)

-- ---- once

abbrev executed : Entry
executed = entries.Executed 7 write_one (wrote 0)

abbrev delivered : Entry
delivered = entries.Delivered (0 ∷ 0 ∷ 0 ∷ 7 ∷ [])

-- a call that is executed before its reply comes
is_once : Once (executed ∷ delivered ∷ [])
is_once zero n xid b call reply got under done = absurd (cc got)
is_once (suc zero) zero xid b call reply got under done = omega arith
is_once (suc zero) (suc zero) xid b call reply got under done = absurd (cc done)
is_once (suc zero) (suc (suc n)) xid b call reply got under done = absurd (cc done)
is_once (suc (suc i)) n xid b call reply got under done = absurd (cc got)

-- a copy that is executed after it
is_not_once : Once (delivered ∷ executed ∷ []) → ⊥
is_not_once once = let before = once 0 1 7 (0 ∷ 0 ∷ 0 ∷ 7 ∷ []) write_one (wrote 0) refl refl refl in omega (arith, before)

-- ---- fresh

abbrev between : Object → Object → ℕ → Server
between old new zero = server old
between old new (suc n) = server new

-- other bytes under the old stamp
is_not_fresh : Fresh (record { entries = entries.Failed ∷ []; at = between (file (1 ∷ []) [] 2) (file (3 ∷ []) [] 2) }) → ⊥
is_not_fresh fresh = fresh 0 (omega arith) [] (file (1 ∷ []) [] 2) (file (3 ∷ []) [] 2) refl refl (bytes (1 ∷ []) [] (3 ∷ []) [] refl refl (λ e. absurd (cc e))) 0 (file (1 ∷ []) [] 2) (omega arith) refl refl

-- ---- rising

abbrev listed : ℕ → Listed
listed cookie = record { name = 97 ∷ []; object = []; cookie = cookie }

-- cookies that fall
is_not_rising : (list : List Listed) → Rises list 0 (row_of (listed 2) ∷ row_of (listed 1) ∷ []) false → ⊥
is_not_rising list rises = let falls = rises.rising 0 1 (row_of (listed 0)) (omega arith) (omega arith) in omega (arith, falls)

abbrev entry_of : ℕ → ℕ → Listed
entry_of letter cookie = record { name = letter ∷ []; object = []; cookie = cookie }

-- a last page that leaves out one of two entries of one cookie
leaves_one_out : Rises (entry_of 1 5 ∷ entry_of 2 5 ∷ []) 0 (row_of (entry_of 1 5) ∷ []) true → ⊥
leaves_one_out rises =
    let has = rises.last refl (entry_of 2 5) (1, refl) (omega arith) in
    let is = All-contains IsA (row_of (entry_of 1 5) ∷ []) (row_of (entry_of 2 5)) (All-cons IsA (row_of (entry_of 1 5)) [] refl (All-nil IsA)) has in
    absurd (cc is)
  where
    IsA : NameRow → Type 0
    IsA r = r.name ≡ 1 ∷ []

-- a page that leaves out an entry before its last
skips_one : Rises (entry_of 1 1 ∷ entry_of 2 2 ∷ []) 0 (row_of (entry_of 2 2) ∷ []) false → ⊥
skips_one rises =
    elim (rises.whole (entry_of 1 1) (0, refl) (omega arith)) [
      | inl has ↦ absurd (cc (All-contains IsB (row_of (entry_of 2 2) ∷ []) (row_of (entry_of 1 1)) (All-cons IsB (row_of (entry_of 2 2)) [] refl (All-nil IsB)) has))
      | inr below ↦ let low = All-contains (λ (r : NameRow). r.cookie < 1) (row_of (entry_of 2 2) ∷ []) (row_of (entry_of 2 2)) below (0, omega arith, refl) in omega (arith, low)
    ]
  where
    IsB : NameRow → Type 0
    IsB r = r.name ≡ 2 ∷ []

-- the entry `..` of a directory that moves may get a lower cookie
abbrev in_parent : ℕ → Object
in_parent cookie = record { attr = attr 0 2; gone = false; holds = Entries (record { name = parent_name; object = []; cookie = cookie } ∷ []) }

parent_may_fall : EntersAbove (record { entries = entries.Failed ∷ []; at = between (in_parent 5) (in_parent 3) }) 0
parent_may_fall [] old new before after e a b c g listed fresh named m earlier list f le d h l = absurd (named (only listed.0 (rw (← after_is) listed.1)))
  where
    after_is : after ≡ record { name = parent_name; object = []; cookie = 3 } ∷ []
    after_is = let o : in_parent 3 ≡ new = cc c in let q : Entries (record { name = parent_name; object = []; cookie = 3 } ∷ []) ≡ Entries after = ap (λ (z : Object). z.holds) o ∙ g in cc q

    only : (at : ℕ) → slice_get (record { name = parent_name; object = []; cookie = 3 } ∷ []) at ≡ Some e → e.name ≡ parent_name
    only zero at = let q : record { name = parent_name; object = []; cookie = 3 } ≡ e = cc at in ap (λ (z : Listed). z.name) (sym q)
    only (suc i) at = absurd (cc at)
parent_may_fall (x ∷ d) old new before after e a b c g listed fresh named m earlier list f le q h l = absurd (cc a)

-- ---- where a path leads

-- no names lead to the root that is given
leads_to_root : (h : List Entry) (object : List ℕ) → Leads (Given object) h (length h) [] object
leads_to_root h object = root [] object refl refl

abbrev entry : Entry → Option Entry
entry e = Some e

-- where nothing was asked, a name leads nowhere
leads_nowhere : (object name found : List ℕ) → Leads (Given object) [] 0 (name ∷ []) found → ⊥
leads_nowhere object name found (root path at is rooted) = absurd (cc is)
leads_nowhere object name found (step path earlier at last d attr dir is leads asked) = absurd (cc asked.heard.got.got)
