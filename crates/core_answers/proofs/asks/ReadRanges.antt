-- A READ asks for bytes inside of the pages that meet the range of its read.
use Rattle.core_answers.proofs.Prelude.{◌≡◌, ◌<◌, ◌≤◌, ◌+◌, ◌-◌, ◌/◌, ◌%◌, ◌==◌, ◌||◌, not, ℕ, zero, suc, Bool, true, false, List, length, take, refl, arith, if◌then◌else◌, nat_lt, eqb-true, nat_tests, length-append, start_of, Pages, after_page, Bytes, nothing_of, place_after}
use Rattle.std.proofs.Common.{◌*◌, min, is_some}
use Rattle.std.specs.Prelude.{nat_le}
use Rattle.std.proofs.lemmas.List.{length-take}
use Rattle.file_ops.specs.Base.{pages_size, with_more}
use Rattle.std.specs.Int.{div_ceil}
use Rattle.std.proofs.lemmas.Grind.{div_ceil_times}
use Rattle.page_cache.specs.Pages.{page_of as page_in}
use Rattle.claims.specs.Pages.{page_of, page_from, InsidePages}
use Rattle.file_ops.specs.Gather.{Planned, stopped, planned, most_asked, next_page, next_count}

-- ---- pages

start-low : (offset : ℕ) → page_of offset * 4096 ≤ offset - offset % 4096
start-low offset = omega arith

size-some : (offset count : ℕ) → 1 ≤ pages_size (offset % 4096) count → 1 ≤ count
size-some offset zero some = absurd (omega (arith, some))
size-some offset (suc n) some = omega arith

size-is : (inner k : ℕ) → pages_size inner (suc k) ≡ div_ceil (inner + suc k) 4096 * 4096
size-is inner k = by (suc k == 0) refl
  where
    by : (b : Bool) → (suc k == 0) ≡ b → (if b then 0 else div_ceil (inner + suc k) 4096 * 4096) ≡ div_ceil (inner + suc k) 4096 * 4096
    by true is = let none : suc k ≡ 0 = eqb-true (suc k) 0 is in absurd (omega (arith, none))
    by false is = refl

end-high : (offset count n : ℕ) → n ≤ pages_size (offset % 4096) count → (offset - offset % 4096) + n ≤ page_from (offset + count) * 4096
end-high offset zero n within = omega (arith, within)
end-high offset (suc k) n within =
    let d = div_ceil_times (offset % 4096 + suc k) 4096 (omega arith) in
    let size = size-is (offset % 4096) k in
    omega (arith, within, size, d.1)

limit-whole : (offset count : ℕ) → pages_size (offset % 4096) count % 4096 ≡ 0
limit-whole offset zero = refl
limit-whole offset (suc k) = let size = size-is (offset % 4096) k in omega (arith, size)

other-zero : (n : ℕ) → not (n == 0) ≡ true → 1 ≤ n
other-zero zero is = absurd (cc)
other-zero (suc n) is = omega arith

-- ---- where a READ ends

-- the bytes of a range: they begin at its first page, and are no more than its pages have
pub record InRange (offset count : ℕ) (b : Bytes) : Type 0 where
  pub start : b.start ≡ offset - offset % 4096
  pub limit : b.limit ≡ pages_size (offset % 4096) count
  pub few : length b.bytes ≤ b.limit

pub inside : (offset count size : ℕ) (b : Bytes) → InRange offset count b → 1 ≤ size → size ≤ b.limit - length b.bytes → InsidePages offset count (place_after b) size
inside offset count size b k asked most = record {
  some = let limit = k.limit in size-some offset count (omega (arith, limit, asked, most));
  asked = asked;
  low = let low = start-low offset in let start = k.start in omega (arith, low, start);
  high =
      let start = k.start in
      let limit = k.limit in
      let few = k.few in
      let high = end-high offset count (length b.bytes + size) (omega (arith, limit, few, most, asked)) in
      omega (arith, high, start);
}

stopped-past : (file : List ℕ) (index place : ℕ) (plan : Planned) → place < start_of index → place < plan.end → place < (stopped file index plan).end
stopped-past file index place plan past before = by (nat_le plan.end (start_of index)) (is_some (page_in file index plan.pages))
  where
    of : (b : Bool) → place < (if b then start_of index else plan.end)
    of true = past
    of false = before

    by : (a b : Bool) → place < (if a then plan else record { end = if b then start_of index else plan.end; pages = after_page file index plan.pages }).end
    by true b = before
    by false b = of b

planned-past : (file : List ℕ) (index place n : ℕ) (plan : Planned) → place < start_of index → place < plan.end → place < (planned file index n plan).end
planned-past file index place zero plan past before = before
planned-past file index place (suc n) plan past before =
    stopped-past file (index + n) place (planned file index n plan) (omega (arith, past)) (planned-past file index place n plan past before)

next-start : (place : ℕ) → place < start_of (place / 4096 + 1)
next-start place = omega arith

pub count-some : (file : List ℕ) (rsize : ℕ) (b : Bytes) (pages : Pages) → 1 ≤ rsize → length b.bytes < b.limit → 1 ≤ next_count file rsize b pages
count-some file rsize b pages one more =
    let most : 1 ≤ most_asked rsize b = omega (arith, one, more) in
    let past = planned-past file (next_page b + 1) (place_after b) (b.limit / 4096) (record { end = place_after b + most_asked rsize b; pages = pages }) (next-start (place_after b))
    (omega (arith, most)) in
    omega (arith, past, most)

pub count-most : (file : List ℕ) (rsize : ℕ) (b : Bytes) (pages : Pages) → (next_count file rsize b pages ≤ b.limit - length b.bytes) × (next_count file rsize b pages ≤ rsize)
count-most file rsize b pages = (omega arith, omega arith)

-- ---- more bytes

pub more-in : (offset count : ℕ) (more : List ℕ) (b : Bytes) → InRange offset count b → InRange offset count (with_more more b)
more-in offset count more b k = record {
  start = k.start;
  limit = k.limit;
  few =
      let few = k.few in
      let both = length-append b.bytes (take (b.limit - length b.bytes) more) in
      let part = length-take (b.limit - length b.bytes) more in
      omega (arith, few, both, part);
}

-- A part that was short, or ends within a page, leaves bytes to ask for.
pub more-left : (offset count asked : ℕ) (more : List ℕ) (b : Bytes) → InRange offset count b → asked ≤ b.limit - length b.bytes
    → (nat_lt (length more) asked || not (place_after (with_more more b) % 4096 == 0)) ≡ true → length (with_more more b).bytes < b.limit
more-left offset count asked more b k most is = by (nat_lt (length more) asked) refl is
  where
    len : length (with_more more b).bytes ≡ length b.bytes + min (b.limit - length b.bytes) (length more)
    len =
        let both = length-append b.bytes (take (b.limit - length b.bytes) more) in
        let part = length-take (b.limit - length b.bytes) more in
        omega (arith, both, part)

    within : (place : ℕ) → place ≡ b.start + length (with_more more b).bytes → not (place % 4096 == 0) ≡ true → length (with_more more b).bytes < b.limit
    within place at inside_page =
        let start = k.start in
        let limit = k.limit in
        let few = k.few in
        let size = len in
        let whole = limit-whole offset count in
        let other = other-zero (place % 4096) inside_page in
        omega (arith, at, start, limit, few, size, whole, other)

    by : (short : Bool) → nat_lt (length more) asked ≡ short → (short || not (place_after (with_more more b) % 4096 == 0)) ≡ true → length (with_more more b).bytes < b.limit
    by true lt same = let size = len in let few = k.few in grind (arith, nat_tests)
    by false lt same = within (place_after (with_more more b)) refl same

pub begun-in : (offset count : ℕ) → InRange offset count (nothing_of offset count)
begun-in offset count = record { start = refl; limit = refl; few = omega arith }
