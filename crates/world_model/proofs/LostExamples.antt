-- Worked examples: how a session is lost, and how not.
use Rattle.std.proofs.Common.{◌≡◌, ◌<◌, ℕ, zero, suc, List, [], ◌∷◌, refl, arith}
use Rattle.world_model.specs.declared.entry.Entry.{Entry}
use Rattle.world_model.specs.declared.entry.Entry.TheVariants.{Dialed, Sent, Delivered, Failed}
use Rattle.world_model.specs.Entries.{At}
use Rattle.world_model.specs.Lost.{NoReply, Loses, given_up, undialed, dropped, IsLost}
use Rattle.world_model.specs.Messages.{HasXid}
use Rattle.world_model.specs.Rows.{DropRun, begins, drops}

-- a record under the xid 7
abbrev seven : List ℕ
seven = 0 ∷ 0 ∷ 0 ∷ 7 ∷ []

-- ---- four attempts

abbrev four_attempts : List Entry
four_attempts = Sent seven ∷ Failed ∷ Sent seven ∷ Failed ∷ Sent seven ∷ Failed ∷ Sent seven ∷ Failed ∷ []

-- a call was sent four times, and each time nothing came
four_attempts_lose : IsLost four_attempts 8
four_attempts_lose = record {
  to = 8;
  by = omega arith;
  loses = given_up 7 0 2 4 6 (record { bytes = seven; failed = 1; sent = refl; under = refl; is = refl; after = omega arith; before = omega arith })
      (record { bytes = seven; failed = 3; sent = refl; under = refl; is = refl; after = omega arith; before = omega arith })
      (record { bytes = seven; failed = 5; sent = refl; under = refl; is = refl; after = omega arith; before = omega arith })
      (record { bytes = seven; failed = 7; sent = refl; under = refl; is = refl; after = omega arith; before = omega arith })
      never;
}
  where
    never : (j : ℕ) (bytes : List ℕ) → At four_attempts j (Delivered bytes) → HasXid bytes 7 → 0 < j → j < 8 → ⊥
    never zero bytes is = absurd (cc is)
    never (suc zero) bytes is = absurd (cc is)
    never (suc (suc zero)) bytes is = absurd (cc is)
    never (suc (suc (suc zero))) bytes is = absurd (cc is)
    never (suc (suc (suc (suc zero)))) bytes is = absurd (cc is)
    never (suc (suc (suc (suc (suc zero))))) bytes is = absurd (cc is)
    never (suc (suc (suc (suc (suc (suc zero)))))) bytes is = absurd (cc is)
    never (suc (suc (suc (suc (suc (suc (suc zero))))))) bytes is = absurd (cc is)
    never (suc (suc (suc (suc (suc (suc (suc (suc j)))))))) bytes is = absurd (cc is)

-- ---- the first silence

abbrev one_silence : List Entry
one_silence = Sent seven ∷ Failed ∷ []

-- the session isn't lost where one attempt failed
one_silence_is_not_lost : (n : ℕ) → IsLost one_silence n → ⊥
one_silence_is_not_lost n lost = no_loss lost.to lost.loses
  where
    sent_first : (at : ℕ) (bytes : List ℕ) → At one_silence at (Sent bytes) → at ≡ 0
    sent_first zero bytes is = refl
    sent_first (suc zero) bytes is = absurd (cc is)
    sent_first (suc (suc at)) bytes is = absurd (cc is)

    not_dialed : (at port : ℕ) → At one_silence at (Dialed port) → ⊥
    not_dialed zero port is = absurd (cc is)
    not_dialed (suc zero) port is = absurd (cc is)
    not_dialed (suc (suc at)) port is = absurd (cc is)

    none_came : (at : ℕ) (bytes : List ℕ) → At one_silence at (Delivered bytes) → ⊥
    none_came zero bytes is = absurd (cc is)
    none_came (suc zero) bytes is = absurd (cc is)
    none_came (suc (suc at)) bytes is = absurd (cc is)

    none_dropped : (n to : ℕ) → DropRun one_silence n to → n ≡ 0
    none_dropped n to (begins k end is) = is
    none_dropped n to (drops k end m at bytes is run drop before last) = absurd (none_came at bytes drop.got)

    no_loss : (to : ℕ) → Loses one_silence to → ⊥
    no_loss to (given_up xid a b c d first second third fourth unanswered) =
        let one = sent_first a first.bytes first.sent in
        let two = sent_first b second.bytes second.sent in
        omega (arith, one, two, first.after, first.before)
    no_loss to (undialed a b c d first second third fourth) = not_dialed a first.port first.dialed
    no_loss to (dropped run) = absurd (cc (none_dropped 65536 to run))

-- a reply came after the first attempt, and attempts that failed followed: the call isn't given up
reply_was_ignored : (more : List Entry) (n : ℕ) → 1 < n → NoReply (Sent seven ∷ Delivered seven ∷ more) 7 0 n → ⊥
reply_was_ignored more n late unanswered = unanswered 1 seven refl refl (omega arith) late
