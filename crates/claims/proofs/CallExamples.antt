-- Worked examples of calls: which an operation asks for, which a session may make, and how many.
use Rattle.std.proofs.Common.{inl, inr, ◌≡◌, ◌<◌, ◌≤◌, ◌+◌, ◌*◌, ℕ, zero, suc, List, [], ◌∷◌, ◌++◌, All, refl, subst, arith}
use Rattle.nfs_dir_calls.specs.declared.call.DirCall.TheVariants as dirs
use Rattle.nfs_dir_calls.specs.declared.plus_page.PlusRow.{PlusRow}
use Rattle.nfs_file_calls.specs.declared.call.FileCall.TheVariants as files
use Rattle.world_model.specs.declared.answer.Answer.{Answer}
use Rattle.world_model.specs.declared.answer.Answer.TheVariants.{Done}
use Rattle.world_model.specs.declared.answer.Value.TheVariants.{Nothing}
use Rattle.world_model.specs.declared.entry.Entry.{Entry}
use Rattle.world_model.specs.declared.entry.Entry.TheVariants.{Began, Answered, Sent, Delivered}
use Rattle.world_model.specs.declared.message.Call.{Call}
use Rattle.world_model.specs.declared.message.Call.TheVariants as calls
use Rattle.world_model.specs.declared.op.Op.{Op}
use Rattle.world_model.specs.declared.op.Op.TheVariants as ops
use Rattle.claims.specs.Asks.{Asks, walks, finds, looks_for_hidden, creates, creates_after, opens, opens_made, shows, reads, asks_anew, writes, commits, writes_for_room, commits_for_room, removes_hidden, lists, acts, cuts, accesses, reads_link, makes_dir, makes_link, removes_dir, renames, links, removes, hides, only_mode}
use Rattle.claims.specs.CallsAsked.{CallsAsked, IsCause, mounts, informs, asked}
use Rattle.world_model.specs.Chains.{Chain, start, next, zero_verf}
use Rattle.world_model.specs.Entries.{At}
use Rattle.claims.specs.Hidden.{IsHidden, IsHexDigit}
use Rattle.world_model.specs.Messages.{HasXid}
use Rattle.world_model.specs.Operations.{AnsweredBefore}
use Rattle.claims.specs.Pages.{pages_met, reads_a_page, page_from, InsidePages}
use Rattle.claims.specs.Paths.{names_in, PlaceOf}
use Rattle.world_model.specs.ReadSize.{whole_pages, page_bytes}
use Rattle.claims.specs.Terms.{Terms}
use Rattle.world_model.specs.Waiting.{Answers}

-- ---- pages

one_page : pages_met (ops.Read 1 0 4096) ≡ 1
one_page = refl

two_pages : pages_met (ops.Read 1 4095 2) ≡ 2
two_pages = refl

no_page : pages_met (ops.Read 1 4095 0) ≡ 0
no_page = refl

eight_reads_a_page : reads_a_page 512 ≡ 8
eight_reads_a_page = refl

one_read_a_page : reads_a_page 65536 ≡ 1
one_read_a_page = refl

rounds_down : whole_pages 5000 ≡ 4096
rounds_down = refl

keeps_small : whole_pages 600 ≡ 600
keeps_small = refl

-- ---- names

three_names : names_in (ops.Rename ((97 ∷ []) ∷ (98 ∷ []) ∷ []) ((99 ∷ []) ∷ [])) ≡ 3
three_names = refl

-- `.nfs0000000A` isn't hidden: its last digit is no lower-case one
is_not_hidden : IsHidden (46 ∷ 110 ∷ 102 ∷ 115 ∷ 48 ∷ 48 ∷ 48 ∷ 48 ∷ 48 ∷ 48 ∷ 48 ∷ 65 ∷ []) → ⊥
is_not_hidden hidden = no_digit hidden.digits (cc hidden.is) hidden.hex
  where
    no_digit : (digits : List ℕ) → digits ≡ 48 ∷ 48 ∷ 48 ∷ 48 ∷ 48 ∷ 48 ∷ 48 ∷ 65 ∷ [] → All IsHexDigit digits → ⊥
    no_digit digits is hex =
        let all : All IsHexDigit (48 ∷ 48 ∷ 48 ∷ 48 ∷ 48 ∷ 48 ∷ 48 ∷ 65 ∷ []) = subst (All IsHexDigit) is hex in
        elim (all 7 0 (omega arith)) [ inl digit ↦ omega (arith, digit.1) | inr letter ↦ omega (arith, letter.0) ]

-- ---- a listing

no_row : (before page front : List PlusRow) (row : PlusRow) → [] ≡ before ++ page → page ≡ front ++ row ∷ [] → ⊥
no_row [] page [] row is last = absurd (cc (is, last))
no_row [] page (f ∷ front) row is last = absurd (cc (is, last))
no_row (b ∷ before) page front row is last = absurd (cc is)

-- no page came, and the next is asked from cookie 5
may_not_list_from_the_middle : (h : List Entry) (x n : ℕ) (d : List ℕ) → Chain h x n d [] 5 zero_verf → ⊥
may_not_list_from_the_middle h x n d (start rows cookie verf is at from) = absurd (cc at)
may_not_list_from_the_middle h x n d (next rows before page cookie from verf with_ attr eof chain came last is) = no_row before page last.front last.row is last.is

-- ---- what an operation asks for

-- a mkdir asks for MKDIR of mode 0755 at its place
mkdir_asks : (terms : Terms) (h : List Entry) (n : ℕ) (path : List (List ℕ)) (d name : List ℕ) → PlaceOf terms.origin h n path d name → Asks terms h 0 n (ops.MakeDir path) (calls.Dir (dirs.MkDir d name (only_mode 493)))
mkdir_asks terms h n path d name place = acts (makes_dir path d name refl place refl)

-- no stat asks for a REMOVE
no_remove_for_a_stat : (terms : Terms) (h : List Entry) (x n : ℕ) (path : List (List ℕ)) (d name : List ℕ) → Asks terms h x n (ops.Stat path) (calls.Dir (dirs.Remove d name)) → ⊥
no_remove_for_a_stat terms h x n path d name (walks p earlier later first then_ in_ of is leads call) = absurd (cc call)
no_remove_for_a_stat terms h x n path d name (finds p in_ last of place call) = absurd (cc call)
no_remove_for_a_stat terms h x n path d name (looks_for_hidden p in_ last hidden_name op place hidden call) = absurd (cc op)
no_remove_for_a_stat terms h x n path d name (creates slot p in_ last op place call) = absurd (cc op)
no_remove_for_a_stat terms h x n path d name (creates_after slot p in_ last reply op place came status call) = absurd (cc op)
no_remove_for_a_stat terms h x n path d name (opens p f opening leads call) = absurd (cc call)
no_remove_for_a_stat terms h x n path d name (opens_made slot mode p in_ last f making attr wcc op place makes came call) = absurd (cc op)
no_remove_for_a_stat terms h x n path d name (shows p f op leads call) = absurd (cc call)
no_remove_for_a_stat terms h x n path d name (reads slot offset count at size f op of inside call) = absurd (cc call)
no_remove_for_a_stat terms h x n path d name (asks_anew slot offset count f op noac of call) = absurd (cc op)
no_remove_for_a_stat terms h x n path d name (writes f bytes at how stable call) = absurd (cc call)
no_remove_for_a_stat terms h x n path d name (commits f stable call) = absurd (cc call)
no_remove_for_a_stat terms h x n path d name (writes_for_room f bytes at how writer had room call) = absurd (cc call)
no_remove_for_a_stat terms h x n path d name (commits_for_room f writer had room call) = absurd (cc call)
no_remove_for_a_stat terms h x n path d name (removes_hidden r) = absurd (cc r.is)
no_remove_for_a_stat terms h x n path d name (lists p in_ rows cookie verf op leads chain call) = absurd (cc op)
no_remove_for_a_stat terms h x n path d name (acts (cuts slot size f op of call)) = absurd (cc op)
no_remove_for_a_stat terms h x n path d name (acts (accesses p bits f op leads call)) = absurd (cc op)
no_remove_for_a_stat terms h x n path d name (acts (reads_link p f op leads call)) = absurd (cc op)
no_remove_for_a_stat terms h x n path d name (acts (makes_dir p in_ last op place call)) = absurd (cc op)
no_remove_for_a_stat terms h x n path d name (acts (makes_link p target in_ last op place call)) = absurd (cc op)
no_remove_for_a_stat terms h x n path d name (acts (removes_dir p in_ last op place call)) = absurd (cc op)
no_remove_for_a_stat terms h x n path d name (acts (renames from to in_ last to_d to_name op source target call)) = absurd (cc op)
no_remove_for_a_stat terms h x n path d name (acts (links from to f in_ last op leads place call)) = absurd (cc op)
no_remove_for_a_stat terms h x n path d name (acts (removes p in_ last op place call)) = absurd (cc op)
no_remove_for_a_stat terms h x n path d name (acts (hides p in_ last hidden_name op place hidden may call)) = absurd (cc op)

-- a read of one byte asks for no byte of the second page
no_read_past_the_pages : (terms : Terms) (h : List Entry) (x n : ℕ) (f : List ℕ) → Asks terms h x n (ops.Read 1 0 1) (calls.File (files.Read f 4096 1)) → ⊥
no_read_past_the_pages terms h x n f (reads slot offset count at size file op of inside call) =
    let from : at ≡ 4096 = cc call in
    let long : size ≡ 1 = cc call in
    let at_start : offset ≡ 0 = cc op in
    let one : count ≡ 1 = cc op in
    past offset count at size from long at_start one inside
  where
    past : (offset count at size : ℕ) → at ≡ 4096 → size ≡ 1 → offset ≡ 0 → count ≡ 1 → InsidePages offset count at size → ⊥
    past offset count at size from long at_start one inside = let high = subst (λ c. at + size ≤ page_from (offset + c) * page_bytes) one inside.high in let top = subst (λ o. at + size ≤ page_from (o + 1) * page_bytes) at_start high in omega (arith, top, from, long)
no_read_past_the_pages terms h x n f (walks p earlier later first then_ in_ of is leads call) = absurd (cc call)
no_read_past_the_pages terms h x n f (finds p in_ last of place call) = absurd (cc call)
no_read_past_the_pages terms h x n f (looks_for_hidden p in_ last hidden_name op place hidden call) = absurd (cc op)
no_read_past_the_pages terms h x n f (creates slot p in_ last op place call) = absurd (cc op)
no_read_past_the_pages terms h x n f (creates_after slot p in_ last reply op place came status call) = absurd (cc op)
no_read_past_the_pages terms h x n f (opens p file opening leads call) = absurd (cc call)
no_read_past_the_pages terms h x n f (opens_made slot mode p in_ last file making attr wcc op place makes came call) = absurd (cc op)
no_read_past_the_pages terms h x n f (shows p file op leads call) = absurd (cc op)
no_read_past_the_pages terms h x n f (asks_anew slot offset count file op noac of call) = absurd (cc call)
no_read_past_the_pages terms h x n f (writes file bytes at how stable call) = absurd (cc call)
no_read_past_the_pages terms h x n f (commits file stable call) = absurd (cc call)
no_read_past_the_pages terms h x n f (writes_for_room file bytes at how writer had room call) = absurd (cc call)
no_read_past_the_pages terms h x n f (commits_for_room file writer had room call) = absurd (cc call)
no_read_past_the_pages terms h x n f (removes_hidden r) = absurd (cc r.is)
no_read_past_the_pages terms h x n f (lists p in_ rows cookie verf op leads chain call) = absurd (cc op)
no_read_past_the_pages terms h x n f (acts (cuts slot size file op of call)) = absurd (cc op)
no_read_past_the_pages terms h x n f (acts (accesses p bits file op leads call)) = absurd (cc op)
no_read_past_the_pages terms h x n f (acts (reads_link p file op leads call)) = absurd (cc op)
no_read_past_the_pages terms h x n f (acts (makes_dir p in_ last op place call)) = absurd (cc op)
no_read_past_the_pages terms h x n f (acts (makes_link p target in_ last op place call)) = absurd (cc op)
no_read_past_the_pages terms h x n f (acts (removes_dir p in_ last op place call)) = absurd (cc op)
no_read_past_the_pages terms h x n f (acts (renames from to in_ last to_d to_name op source target call)) = absurd (cc op)
no_read_past_the_pages terms h x n f (acts (links from to file in_ last op leads place call)) = absurd (cc op)
no_read_past_the_pages terms h x n f (acts (removes p in_ last op place call)) = absurd (cc op)
no_read_past_the_pages terms h x n f (acts (hides p in_ last hidden_name op place hidden may call)) = absurd (cc op)

-- ---- what a session may send

-- a record under the xid 7
abbrev seven : List ℕ
seven = 0 ∷ 0 ∷ 0 ∷ 7 ∷ []

-- a record is sent again after its reply came
abbrev sent_after_its_reply : List Entry
sent_after_its_reply = Sent seven ∷ Delivered seven ∷ Sent seven ∷ []

may_not_send_after_its_reply : (terms : Terms) → CallsAsked terms sent_after_its_reply → ⊥
may_not_send_after_its_reply terms calls = let sooner = calls.unrepeated 1 2 7 seven seven answers refl refl in omega (arith, sooner)
  where
    waited : (j : ℕ) (b : List ℕ) → At sent_after_its_reply j (Delivered b) → HasXid b 7 → 0 < j → j < 1 → ⊥
    waited j b got under after before = omega (arith, after, before)

    answers : Answers sent_after_its_reply 1 7 seven
    answers = record { got = refl; under = refl; waits = record { at = 0; bytes = seven; sent = refl; under = refl; before = omega arith; unanswered = waited } }

-- other bytes are sent under an xid that was used
may_not_change_a_call : (terms : Terms) → CallsAsked terms (Sent seven ∷ Sent (0 ∷ 0 ∷ 0 ∷ 7 ∷ 1 ∷ []) ∷ []) → ⊥
may_not_change_a_call terms calls = absurd (cc (calls.equal 0 1 7 seven (0 ∷ 0 ∷ 0 ∷ 7 ∷ 1 ∷ []) refl refl refl refl))

-- a call is made after the only operation was answered
abbrev sent_after_the_answer : List Entry
sent_after_the_answer = Began 1 1 (ops.Sync 1) ∷ Answered 1 1 (Done Nothing) ∷ Sent seven ∷ []

may_not_send_after_the_answer : (terms : Terms) (call : Call) → IsCause terms sent_after_the_answer 2 call → ⊥
may_not_send_after_the_answer terms call (mounts path origin is began) = began 0 1 1 (ops.Sync 1) refl (omega arith)
may_not_send_after_the_answer terms call (informs root rooted is began) = began 0 1 1 (ops.Sync 1) refl (omega arith)
may_not_send_after_the_answer terms call (asked lane x op busy asks keeps) = only x lane busy.line op busy.before busy.began busy.unanswered
  where
    first : (j : ℕ) (a : Answer) → At sent_after_the_answer j (Answered 1 1 a) → 0 < j → 1 ≤ j
    first j a at after = after

    done : AnsweredBefore sent_after_the_answer 0 2
    done = record { lane = 1; op = ops.Sync 1; y = 1; answer = Done Nothing; ended = record { line = 1; began = refl; answered = refl; later = omega arith; first = first }; before = omega arith }

    only : (x lane line : ℕ) (op : Op) → x < 2 → At sent_after_the_answer x (Began lane line op) → (AnsweredBefore sent_after_the_answer x 2 → ⊥) → ⊥
    only zero lane line op before is unanswered = unanswered done
    only (suc zero) lane line op before is unanswered = absurd (cc is)
    only (suc (suc x)) lane line op before is unanswered = omega (arith, before)
