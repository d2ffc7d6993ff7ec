-- What is written is spelled so.
use Rattle.std.proofs.Common.{◌≡◌, ◌≢◌, ◌≤◌, ◌<◌, ◌^◌, ◌+◌, ℕ, zero, suc, false, ◌==◌, List, [], ◌++◌, refl, sym, subst, ◌∙◌, append_assoc, arith}
use Rattle.std.proofs.lemmas.Bool.{ne_eqb}
use Rattle.xdr_codec.specs.Spelling.{u32_bytes}
use Rattle.xdr_codec.specs.Spells.{◌⨾◌, SpellsU32}
use Rattle.rpc_message.specs.declared.call.CallHead.{CallHead}
use Rattle.rpc_message.specs.declared.cred.Cred.{Cred}
use Rattle.rpc_message.specs.Auth.{SpellsAuth}
use Rattle.rpc_message.specs.Cred.{none_bytes, cred_bytes}
use Rattle.rpc_message.specs.Call.{opening_bytes, program_bytes, call_head_bytes, Is, SpellsCallHead}
use Rattle.rpc_message.specs.Reply.{Refused, Denied, verified_bytes, accepted_bytes, range_bytes, refused_bytes, denied_opening_bytes, second_bytes, denied_bytes, SpellsNone, SpellsRange, SpellsRefused, SpellsDenied, SpellsReply, SpellsAccepted, SpellsRefusal}
use Rattle.rpc_message.proofs.Creds.{word_written, none_written}

-- three words one after another
pub words_written : (a b c : ℕ) → a < 2 ^ 32 → b < 2 ^ 32 → c < 2 ^ 32 → (SpellsU32 a ⨾ SpellsU32 b ⨾ SpellsU32 c) (u32_bytes a ++ u32_bytes b ++ u32_bytes c)
words_written a b c fa fb fc = record {
  front = u32_bytes a;
  back = u32_bytes b ++ u32_bytes c;
  is = append_assoc (u32_bytes a) (u32_bytes b) (u32_bytes c);
  one = word_written a fa;
  two = record { front = u32_bytes b; back = u32_bytes c; is = refl; one = word_written b fb; two = word_written c fc };
}

pub opening_written : (xid : ℕ) → xid < 2 ^ 32 → (SpellsU32 xid ⨾ SpellsU32 0 ⨾ SpellsU32 2) (opening_bytes xid)
unfolding opening_bytes
opening_written xid fits = words_written xid 0 2 fits (omega arith) (omega arith)

pub program_written : (prog vers proc : ℕ) → prog < 2 ^ 32 → vers < 2 ^ 32 → proc < 2 ^ 32 → (SpellsU32 prog ⨾ SpellsU32 vers ⨾ SpellsU32 proc) (program_bytes prog vers proc)
unfolding program_bytes
program_written prog vers proc f g h = words_written prog vers proc f g h

-- a head that was written, and its arguments
pub call_written : (head : CallHead) (cred : Cred) → (SpellsU32 head.xid ⨾ SpellsU32 0 ⨾ SpellsU32 2) (opening_bytes head.xid)
    → (SpellsU32 head.prog ⨾ SpellsU32 head.vers ⨾ SpellsU32 head.proc) (program_bytes head.prog head.vers head.proc) → SpellsAuth (cred_bytes cred)
    → (args : List ℕ) → SpellsCallHead head args (call_head_bytes head cred ++ args)
unfolding call_head_bytes opening_bytes program_bytes
call_written head cred opening program spelled args =
    let body = u32_bytes head.prog ++ (u32_bytes head.vers ++ (u32_bytes head.proc ++ (cred_bytes cred ++ none_bytes))) in
    record {
      front = u32_bytes head.xid;
      back = u32_bytes 0 ++ (u32_bytes 2 ++ (body ++ args));
      is = simp append_assoc refl;
      one = word_written head.xid opening.one.fits;
      two = record {
        front = u32_bytes 0;
        back = u32_bytes 2 ++ (body ++ args);
        is = refl;
        one = word_written 0 (omega arith);
        two = record {
          front = u32_bytes 2;
          back = body ++ args;
          is = refl;
          one = word_written 2 (omega arith);
          two = record {
            front = body;
            back = args;
            is = refl;
            one = record {
              front = u32_bytes head.prog;
              back = u32_bytes head.vers ++ (u32_bytes head.proc ++ (cred_bytes cred ++ none_bytes));
              is = refl;
              one = word_written head.prog program.one.fits;
              two = record {
                front = u32_bytes head.vers;
                back = u32_bytes head.proc ++ (cred_bytes cred ++ none_bytes);
                is = refl;
                one = word_written head.vers program.two.one.fits;
                two = record {
                  front = u32_bytes head.proc;
                  back = cred_bytes cred ++ none_bytes;
                  is = refl;
                  one = word_written head.proc program.two.two.fits;
                  two = record { front = cred_bytes cred; back = none_bytes; is = refl; one = spelled; two = none_written };
                };
              };
            };
            two = refl;
          };
        };
      };
    }

-- ---- replies

-- what follows a verifier that was written
pub verified_written : (xid : ℕ) (S : List ℕ → Type 0) (text : List ℕ) → xid < 2 ^ 32 → S text → (SpellsU32 xid ⨾ SpellsU32 1 ⨾ SpellsU32 0 ⨾ SpellsAuth ⨾ S) (verified_bytes xid ++ text)
unfolding verified_bytes
verified_written xid S text fits s = record {
  front = u32_bytes xid;
  back = u32_bytes 1 ++ (u32_bytes 0 ++ (none_bytes ++ text));
  is = simp append_assoc refl;
  one = word_written xid fits;
  two = record {
    front = u32_bytes 1;
    back = u32_bytes 0 ++ (none_bytes ++ text);
    is = refl;
    one = word_written 1 (omega arith);
    two = record {
      front = u32_bytes 0;
      back = none_bytes ++ text;
      is = refl;
      one = word_written 0 (omega arith);
      two = record { front = none_bytes; back = text; is = refl; one = none_written; two = s };
    };
  };
}

pub accepted_written : (xid : ℕ) → xid < 2 ^ 32 → (results : List ℕ) → SpellsAccepted xid results (accepted_bytes xid ++ results)
unfolding accepted_bytes
accepted_written xid fits results =
    subst (λ (k : List ℕ). SpellsAccepted xid results k) (sym (append_assoc (verified_bytes xid) (u32_bytes 0) results))
    (verified_written xid (SpellsU32 0 ⨾ Is results) (u32_bytes 0 ++ results) fits (record { front = u32_bytes 0; back = results; is = refl; one = word_written 0 (omega arith); two = refl }))

none_left : (low high : ℕ) → (low ≡ 0) × (high ≡ 0) → SpellsNone low high []
none_left low high z = record { low_is = z.0; high_is = z.1; is = refl }

range_written : (stat low high : ℕ) → low < 2 ^ 32 → high < 2 ^ 32 → (stat ≢ 2 → (low ≡ 0) × (high ≡ 0)) → SpellsRange stat low high (range_bytes stat low high)
range_written zero low high f g plain = none_left low high (plain (λ e. omega (arith, e)))
range_written (suc zero) low high f g plain = none_left low high (plain (λ e. omega (arith, e)))
range_written (suc (suc zero)) low high f g plain = record { front = u32_bytes low; back = u32_bytes high; is = refl; one = word_written low f; two = word_written high g }
range_written (suc (suc (suc n))) low high f g plain =
    let other : (suc (suc (suc n)) == 2) ≡ false = ne_eqb (suc (suc (suc n))) 2 (λ e. omega (arith, e)) in
    rw other (none_left low high (plain (λ e. omega (arith, e))))

pub refused_written : (xid stat low high : ℕ) → xid < 2 ^ 32 → low < 2 ^ 32 → high < 2 ^ 32 → 1 ≤ stat → stat ≤ 5 → (stat ≢ 2 → (low ≡ 0) × (high ≡ 0))
    → SpellsReply (Refused xid stat low high) (refused_bytes xid stat low high)
unfolding refused_bytes
refused_written xid stat low high f g h some most plain =
    subst (λ (k : List ℕ). SpellsReply (Refused xid stat low high) k) (sym (append_assoc (verified_bytes xid) (u32_bytes stat) (range_bytes stat low high)))
    (verified_written xid (SpellsRefused stat low high) (u32_bytes stat ++ range_bytes stat low high) f (record {
      refused = some;
      known = most;
      is = record { front = u32_bytes stat; back = range_bytes stat low high; is = refl; one = word_written stat (omega (arith, most)); two = range_written stat low high g h plain };
    }))

denied_opened : (xid : ℕ) (S : List ℕ → Type 0) (text : List ℕ) → xid < 2 ^ 32 → S text → (SpellsU32 xid ⨾ SpellsU32 1 ⨾ SpellsU32 1 ⨾ S) (denied_opening_bytes xid ++ text)
unfolding denied_opening_bytes
denied_opened xid S text fits s = record {
  front = u32_bytes xid;
  back = u32_bytes 1 ++ (u32_bytes 1 ++ text);
  is = simp append_assoc refl;
  one = word_written xid fits;
  two = record {
    front = u32_bytes 1;
    back = u32_bytes 1 ++ text;
    is = refl;
    one = word_written 1 (omega arith);
    two = record { front = u32_bytes 1; back = text; is = refl; one = word_written 1 (omega arith); two = s };
  };
}

words_denied : (stat first second : ℕ) → first < 2 ^ 32 → second < 2 ^ 32 → stat ≤ 1 → (stat ≡ 1 → second ≡ 0) → SpellsDenied stat first second (u32_bytes stat ++ (u32_bytes first ++ second_bytes stat second))
words_denied zero first second f g most plain = record {
  front = u32_bytes 0;
  back = u32_bytes first ++ u32_bytes second;
  is = refl;
  one = word_written 0 (omega arith);
  two = record { front = u32_bytes first; back = u32_bytes second; is = refl; one = word_written first f; two = word_written second g };
}
words_denied (suc zero) first second f g most plain = record {
  front = u32_bytes 1;
  back = u32_bytes first ++ [];
  is = refl;
  one = word_written 1 (omega arith);
  two = record { front = u32_bytes first; back = []; is = refl; one = word_written first f; two = none_left second 0 (plain refl, refl) };
}
words_denied (suc (suc n)) first second f g most plain = absurd (omega (arith, most))

pub denied_written : (xid stat first second : ℕ) → xid < 2 ^ 32 → first < 2 ^ 32 → second < 2 ^ 32 → stat ≤ 1 → (stat ≡ 1 → second ≡ 0)
    → SpellsReply (Denied xid stat first second) (denied_bytes xid stat first second)
unfolding denied_bytes
denied_written xid stat first second f g h most plain =
    subst (λ (k : List ℕ). SpellsReply (Denied xid stat first second) k)
    (sym (append_assoc (denied_opening_bytes xid ++ u32_bytes stat) (u32_bytes first) (second_bytes stat second) ∙ append_assoc (denied_opening_bytes xid) (u32_bytes stat) (u32_bytes first ++ second_bytes stat second)))
    (denied_opened xid (SpellsDenied stat first second) (u32_bytes stat ++ (u32_bytes first ++ second_bytes stat second)) f (words_denied stat first second g h most plain))

-- ---- refusals by their numbers

pub refused_refusal : (xid stat low high : ℕ) (bytes : List ℕ) → SpellsReply (Refused xid stat low high) bytes → SpellsRefusal xid stat bytes
refused_refusal xid stat low high bytes s = record { reply = Refused xid stat low high; of = refl; numbered = refl; is = s }

pub mismatch_refusal : (xid low high : ℕ) (bytes : List ℕ) → SpellsReply (Denied xid 0 low high) bytes → SpellsRefusal xid 100 bytes
mismatch_refusal xid low high bytes s = record { reply = Denied xid 0 low high; of = refl; numbered = refl; is = s }

pub auth_refusal : (xid status second : ℕ) (bytes : List ℕ) → SpellsReply (Denied xid 1 status second) bytes → SpellsRefusal xid (200 + status) bytes
auth_refusal xid status second bytes s = record { reply = Denied xid 1 status second; of = refl; numbered = refl; is = s }
