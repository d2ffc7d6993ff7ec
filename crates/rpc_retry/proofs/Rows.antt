-- Rows by hand: records as RFC 5531, section 9, has them, and calls that are made, sent, answered and given up.
use Rattle.std.proofs.Common.{◌≡◌, ℕ, suc, zero, List, [], ◌∷◌, ◌++◌, Ok, Err, Option, Some, None, refl}
use Rattle.rpc_message.specs.declared.cred.Cred.TheVariants as creds
use Rattle.rpc_message.specs.Call as rpc_call
use Rattle.rpc_message.specs.Cred as rpc_cred
use Rattle.rpc_message.specs.Call.{xid_at}
use Rattle.rpc_retry.specs.declared.waiting.Waiting.{Waiting}
use Rattle.rpc_retry.specs.declared.answers.PutRefusal.TheVariants.{Spent, Crowded}
use Rattle.rpc_retry.specs.declared.answers.AfterFailure.TheVariants.{Resend, GivenUp}
use Rattle.rpc_retry.specs.Held.{Held, next_xid}
use Rattle.rpc_retry.specs.Put.{check_of, call_bytes}
use Rattle.rpc_retry.specs.Take.{awaited, after_taking}
use Rattle.rpc_retry.specs.Waiting.{made_call, first_due, sent, first_given_up}
use Rattle.rpc_retry.specs.Fail.{after_failure, answer_after}
use Rattle.xdr_codec.specs.Spelling as xdr

-- ---- records

-- the NULL call of NFS, xid 1, AUTH_NONE: xid, call, RPC 2, program 100003, version 3, procedure 0, two empty authenticators
abbrev null_one : List ℕ
null_one =
    0 ∷ 0 ∷ 0 ∷ 1 ∷ 0 ∷ 0 ∷ 0 ∷ 0 ∷ 0 ∷ 0 ∷ 0 ∷ 2 ∷ 0 ∷ 1 ∷ 134 ∷ 163 ∷ 0 ∷ 0 ∷ 0 ∷ 3 ∷ 0 ∷ 0 ∷ 0 ∷ 0
    ∷ 0 ∷ 0 ∷ 0 ∷ 0 ∷ 0 ∷ 0 ∷ 0 ∷ 0 ∷ 0 ∷ 0 ∷ 0 ∷ 0 ∷ 0 ∷ 0 ∷ 0 ∷ 0 ∷ []

null_row : call_bytes creds.None 1 100003 0 [] ≡ null_one
unfolding rpc_call.call_head_bytes rpc_call.opening_bytes rpc_call.program_bytes rpc_cred.cred_bytes rpc_cred.none_bytes xdr.u32_bytes xdr.opaque_bytes xdr.fixed_bytes
null_row = refl

-- the place `a` in the directory 0000000000000001: the arguments of a LOOKUP (RFC 1813, section 3.3.3)
abbrev place : List ℕ
place = 0 ∷ 0 ∷ 0 ∷ 8 ∷ 0 ∷ 0 ∷ 0 ∷ 0 ∷ 0 ∷ 0 ∷ 0 ∷ 1 ∷ 0 ∷ 0 ∷ 0 ∷ 1 ∷ 97 ∷ 0 ∷ 0 ∷ 0 ∷ []

-- that LOOKUP, procedure 3, xid 2
lookup_row : call_bytes creds.None 2 100003 3 place
    ≡ 0 ∷ 0 ∷ 0 ∷ 2 ∷ 0 ∷ 0 ∷ 0 ∷ 0 ∷ 0 ∷ 0 ∷ 0 ∷ 2 ∷ 0 ∷ 1 ∷ 134 ∷ 163 ∷ 0 ∷ 0 ∷ 0 ∷ 3 ∷ 0 ∷ 0 ∷ 0 ∷ 3
    ∷ 0 ∷ 0 ∷ 0 ∷ 0 ∷ 0 ∷ 0 ∷ 0 ∷ 0 ∷ 0 ∷ 0 ∷ 0 ∷ 0 ∷ 0 ∷ 0 ∷ 0 ∷ 0 ∷ place
unfolding rpc_call.call_head_bytes rpc_call.opening_bytes rpc_call.program_bytes rpc_cred.cred_bytes rpc_cred.none_bytes xdr.u32_bytes xdr.opaque_bytes xdr.fixed_bytes
lookup_row = refl

-- ---- calls that wait, each with its xid as its record

abbrev made : ℕ → ℕ × Waiting ℕ
made xid = (xid, made_call (xid ∷ []) xid)

abbrev two : List (ℕ × Waiting ℕ)
two = made 1 ∷ made 2 ∷ []

-- the xid of the call that is sent next
abbrev next_of : Option (ℕ × Waiting ℕ) → Option ℕ
next_of None = None
next_of (Some e) = Some e.0

-- a call is sent, the attempts that ran have failed, or a reply is taken
data Step : Type 0 where
  Send : Step
  Fail : Step
  Take : ℕ → Step

abbrev step : List (ℕ × Waiting ℕ) → Step → List (ℕ × Waiting ℕ)
step calls Send = sent calls
step calls Fail = after_failure calls
step calls (Take xid) = after_taking (Some xid) calls

abbrev after : List (ℕ × Waiting ℕ) → List Step → List (ℕ × Waiting ℕ)
after calls [] = calls
after calls (s ∷ more) = after (step calls s) more

-- the oldest one first, each once
oldest_first : next_of (first_due two) ≡ Some 1
oldest_first = refl

then_the_other : next_of (first_due (after two (Send ∷ []))) ≡ Some 2
then_the_other = refl

then_none : next_of (first_due (after two (Send ∷ Send ∷ []))) ≡ None
then_none = refl

-- a failure makes all due again
due_again : next_of (first_due (after two (Send ∷ Send ∷ Fail ∷ []))) ≡ Some 1
due_again = refl

resend : answer_after (first_given_up (after two (Send ∷ Send ∷ []))) ≡ Resend
resend = refl

-- ---- given up after four attempts

abbrev three_times : List Step
three_times = Send ∷ Send ∷ Fail ∷ Send ∷ Send ∷ Fail ∷ Send ∷ Send ∷ []

third_failure : answer_after (first_given_up (after two three_times)) ≡ Resend
third_failure = refl

abbrev fourth : List (ℕ × Waiting ℕ)
fourth = after two (Send ∷ Send ∷ Fail ∷ Send ∷ Send ∷ Fail ∷ Send ∷ Send ∷ Fail ∷ Send ∷ [])

fourth_failure : answer_after (first_given_up fourth) ≡ GivenUp 1
fourth_failure = refl

-- the other one waits on, and is sent once more
other_is_due : next_of (first_due (after fourth (Fail ∷ Fail ∷ []))) ≡ Some 2
other_is_due = refl

oldest_is_told : answer_after (first_given_up (after fourth (Fail ∷ Fail ∷ Send ∷ []))) ≡ GivenUp 1
oldest_is_told = refl

other_is_told : answer_after (first_given_up (after fourth (Fail ∷ Fail ∷ Send ∷ Fail ∷ Take 1 ∷ []))) ≡ GivenUp 2
other_is_told = refl

none_is_left : answer_after (first_given_up (after fourth (Fail ∷ Send ∷ Take 1 ∷ Take 2 ∷ []))) ≡ Resend
none_is_left = refl

-- ---- a reply is taken once, while its call waits

three_bytes : xid_at (0 ∷ 0 ∷ 0 ∷ []) ≡ None
three_bytes = refl

another_xid : awaited (xid_at (0 ∷ 0 ∷ 0 ∷ 3 ∷ [])) two ≡ None
another_xid = refl

its_xid : awaited (xid_at (0 ∷ 0 ∷ 0 ∷ 2 ∷ [])) two ≡ Some (made_call (2 ∷ []) 2)
its_xid = refl

only_once : awaited (xid_at (0 ∷ 0 ∷ 0 ∷ 2 ∷ [])) (after two (Take 2 ∷ [])) ≡ None
only_once = refl

-- ---- how many may be made, and may wait

abbrev many : ℕ → List (ℕ × Waiting ℕ)
many zero = []
many (suc n) = many n ++ made (suc n) ∷ []

abbrev held : ℕ → ℕ → Held ℕ
held so_many waiting = record { first_xid = 1; limit = 33; cred = creds.None; made = so_many; calls = many waiting }

may_wait : check_of (held 31 31) ≡ Ok tt
may_wait = refl

crowded : check_of (held 32 32) ≡ Err Crowded
crowded = refl

one_was_taken : check_of (held 32 31) ≡ Ok tt
one_was_taken = refl

spent : check_of (held 33 31) ≡ Err Spent
spent = refl

spent_before_crowded : check_of (held 33 32) ≡ Err Spent
spent_before_crowded = refl

next_row : next_xid (held 33 32) ≡ 34
next_row = refl
