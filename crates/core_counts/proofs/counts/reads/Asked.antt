-- READ is a call of reads alone, and of the file of their slot.
use Rattle.core_counts.proofs.Prelude.{◌≡◌, ℕ, List, refl, sym, subst, ◌∙◌, IsReadOf, IsOf, Terms, Entry, Call, Op}
use Rattle.claims.specs.CallCounts.{read, ReadsOf}
use Rattle.nfs_file_calls.specs.declared.call.FileCall.TheVariants as files
use Rattle.claims.specs.Asks.{Asks, Acts}
use Rattle.claims.specs.Asks as asks
use Rattle.world_model.specs.declared.message.Call.TheVariants as calls

-- no READ
record IsOther (call : Call) : Type 0 where
  not : (f : List ℕ) (offset count : ℕ) → call ≡ calls.File (files.Read f offset count) → ⊥

other : (R : Type 0) (f : List ℕ) (call to : Call) → call ≡ to → IsOther to → IsReadOf f call → R
other R f call to is o (read offset count e) = absurd (o.not f offset count (sym is ∙ e))

acts-other : (terms : Terms) (h : List Entry) (x n : ℕ) (op : Op) (call : Call) → Acts terms h x n op call → IsOther call
acts-other terms h x n op call (asks.cuts slot size f is of e) = record { not = λ g offset count same. absurd (cc) }
acts-other terms h x n op call (asks.accesses path bits f is of e) = record { not = λ g offset count same. absurd (cc) }
acts-other terms h x n op call (asks.reads_link path f is of e) = record { not = λ g offset count same. absurd (cc) }
acts-other terms h x n op call (asks.makes_dir path d name is of e) = record { not = λ g offset count same. absurd (cc) }
acts-other terms h x n op call (asks.makes_link path target d name is of e) = record { not = λ g offset count same. absurd (cc) }
acts-other terms h x n op call (asks.removes_dir path d name is of e) = record { not = λ g offset count same. absurd (cc) }
acts-other terms h x n op call (asks.renames from to d name to_d to_name is of of_to e) = record { not = λ g offset count same. absurd (cc) }
acts-other terms h x n op call (asks.links from to f d name is of of_to e) = record { not = λ g offset count same. absurd (cc) }
acts-other terms h x n op call (asks.removes path d name is of e) = record { not = λ g offset count same. absurd (cc) }
acts-other terms h x n op call (asks.hides path d last name is of hidden may e) = record { not = λ g offset count same. absurd (cc) }

same-file : (f g : List ℕ) (a b c d : ℕ) → calls.File (files.Read f a b) ≡ calls.File (files.Read g c d) → f ≡ g
same-file f g a b c d e = cc

pub read-asks : (terms : Terms) (h : List Entry) (x n : ℕ) (op : Op) (call : Call) (f : List ℕ) → Asks terms h x n op call → IsReadOf f call → ReadsOf terms h f (x, op)
read-asks terms h x n op call f (asks.reads slot offset count at size g is of inside e) (read from many made) = record {
  slot = slot;
  offset = offset;
  count = count;
  is = is;
  of = subst (IsOf terms.modes h x op) (same-file g f at size from many (sym e ∙ made)) of;
}
read-asks terms h x n op call f (asks.walks path earlier later name next d has is leads e) p = other _ f call _ e (record { not = λ g offset count same. absurd (cc) }) p
read-asks terms h x n op call f (asks.finds path d name has of e) p = other _ f call _ e (record { not = λ g offset count same. absurd (cc) }) p
read-asks terms h x n op call f (asks.looks_for_hidden path d last name is of hidden e) p = other _ f call _ e (record { not = λ g offset count same. absurd (cc) }) p
read-asks terms h x n op call f (asks.creates slot path d name is of e) p = other _ f call _ e (record { not = λ g offset count same. absurd (cc) }) p
read-asks terms h x n op call f (asks.creates_after slot path d name reply is of asked none e) p = other _ f call _ e (record { not = λ g offset count same. absurd (cc) }) p
read-asks terms h x n op call f (asks.opens path g is leads e) p = other _ f call _ e (record { not = λ g offset count same. absurd (cc) }) p
read-asks terms h x n op call f (asks.opens_made slot mode path d name g making attr wcc is of makes asked e) p = other _ f call _ e (record { not = λ g offset count same. absurd (cc) }) p
read-asks terms h x n op call f (asks.shows path g is leads e) p = other _ f call _ e (record { not = λ g offset count same. absurd (cc) }) p
read-asks terms h x n op call f (asks.asks_anew slot offset count g is anew of e) p = other _ f call _ e (record { not = λ g offset count same. absurd (cc) }) p
read-asks terms h x n op call f (asks.writes g bytes at how stable e) p = other _ f call _ e (record { not = λ g offset count same. absurd (cc) }) p
read-asks terms h x n op call f (asks.commits g stable e) p = other _ f call _ e (record { not = λ g offset count same. absurd (cc) }) p
read-asks terms h x n op call f (asks.writes_for_room g bytes at how writes had needs e) p = other _ f call _ e (record { not = λ g offset count same. absurd (cc) }) p
read-asks terms h x n op call f (asks.commits_for_room g writes had needs e) p = other _ f call _ e (record { not = λ g offset count same. absurd (cc) }) p
read-asks terms h x n op call f (asks.removes_hidden r) p = other _ f call _ r.removes (record { not = λ g offset count same. absurd (cc) }) p
read-asks terms h x n op call f (asks.lists path d rows cookie verf is leads chain e) p = other _ f call _ e (record { not = λ g offset count same. absurd (cc) }) p
read-asks terms h x n op call f (asks.acts a) p = other _ f call call refl (acts-other terms h x n op call a) p
