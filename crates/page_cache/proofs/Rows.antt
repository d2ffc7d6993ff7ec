-- Rows by hand from the rules of this crate and of WRITE and SETATTR (RFC 1813, sections 3.3.7 and 3.3.2): pages, stamps and marks
-- after each call.
use Rattle.std.proofs.Common.{◌≡◌, ℕ, suc, zero, ◌/◌, ◌%◌, List, [], ◌∷◌, ◌++◌, length, replicate, Some, None, refl}
use Rattle.nfs_types.specs.declared.time.Time.{Time}
use Rattle.nfs_types.specs.declared.attr.Attr.{Attr}
use Rattle.nfs_types.specs.declared.wcc.Stamp.{Stamp}
use Rattle.nfs_types.specs.declared.wcc.Wcc.{Wcc}
use Rattle.page_cache.specs.declared.place.PagePlace.{PagePlace}
use Rattle.page_cache.specs.declared.state.Keep.TheVariants.{Stale, Differs, Kept}
use Rattle.page_cache.specs.Bytes.{put_page, cut_page}
use Rattle.page_cache.specs.Pages.{Pages, nothing_kept, known_of, mark_of, page_of, opened, keep_answer, after_keep, after_page, saw, wrote, cut}

-- ---- the letters of the rows
abbrev a_to_f : List ℕ
a_to_f = 97 ∷ 98 ∷ 99 ∷ 100 ∷ 101 ∷ 102 ∷ []

abbrev ab : List ℕ
ab = 97 ∷ 98 ∷ []

abbrev xy : List ℕ
xy = 88 ∷ 89 ∷ []

abbrev digits : List ℕ
digits = 49 ∷ 50 ∷ 51 ∷ 52 ∷ 53 ∷ 54 ∷ 55 ∷ 56 ∷ 57 ∷ []

-- ---- a page after bytes were written in the file

written_inside : put_page 0 2 xy a_to_f ≡ 97 ∷ 98 ∷ 88 ∷ 89 ∷ 101 ∷ 102 ∷ []
written_inside = refl

written_over_the_end : put_page 0 5 xy a_to_f ≡ 97 ∷ 98 ∷ 99 ∷ 100 ∷ 101 ∷ 88 ∷ 89 ∷ []
written_over_the_end = refl

gap_of_zeros : put_page 0 8 (90 ∷ []) a_to_f ≡ a_to_f ++ 0 ∷ 0 ∷ 90 ∷ []
gap_of_zeros = refl

no_bytes : put_page 0 9 [] a_to_f ≡ a_to_f
no_bytes = refl

written_after_the_page : put_page 0 4096 (81 ∷ []) a_to_f ≡ a_to_f ++ replicate 4090 0
written_after_the_page = refl

written_in_page_1 : put_page 1 4098 (90 ∷ []) [] ≡ 0 ∷ 0 ∷ 90 ∷ []
written_in_page_1 = refl

written_before_the_page : put_page 1 10 ab [] ≡ []
written_before_the_page = refl

last_three_of_nine : put_page 1 4090 digits ab ≡ 55 ∷ 56 ∷ 57 ∷ []
last_three_of_nine = refl

last_three_over_four : put_page 1 4090 digits (97 ∷ 98 ∷ 99 ∷ 100 ∷ []) ≡ 55 ∷ 56 ∷ 57 ∷ 100 ∷ []
last_three_over_four = refl

-- ---- a page after the file was given a size

shorter : cut_page 0 3 a_to_f ≡ 97 ∷ 98 ∷ 99 ∷ []
shorter = refl

longer : cut_page 0 8 a_to_f ≡ a_to_f ++ 0 ∷ 0 ∷ []
longer = refl

longer_than_the_page : cut_page 0 5000 ab ≡ ab ++ replicate 4094 0
longer_than_the_page = refl

ends_before_the_page : cut_page 1 4096 ab ≡ []
ends_before_the_page = refl

one_byte_of_page_1 : cut_page 1 4097 ab ≡ 97 ∷ []
one_byte_of_page_1 = refl

grown_into_page_1 : cut_page 1 4099 [] ≡ 0 ∷ 0 ∷ 0 ∷ []
grown_into_page_1 = refl

-- ---- files, and their states by their length
abbrev one : List ℕ
one = 0 ∷ 1 ∷ []

abbrev two : List ℕ
two = 0 ∷ 2 ∷ []

abbrev at_zero : Time
at_zero = record { seconds = 0; nanos = 0 }

abbrev stamp : ℕ → Stamp
stamp size = record { size = size; mtime = at_zero; ctime = at_zero }

abbrev attr : ℕ → Attr
attr size =
    record {
      kind = 1;
      mode = 420;
      nlink = 1;
      uid = 0;
      gid = 0;
      size = size;
      used = size;
      rdev_major = 0;
      rdev_minor = 0;
      fsid = 1;
      fileid = 1;
      atime = at_zero;
      mtime = at_zero;
      ctime = at_zero;
    }

-- a change that began and ended at these lengths
abbrev from_to : ℕ → ℕ → Wcc
from_to before after = record { before = Some (stamp before); after = Some (attr after) }

abbrev hi : List ℕ
hi = 104 ∷ 105 ∷ []

-- a page that is offered to a cache
abbrev offered : List ℕ → ℕ → ℕ → List ℕ → ℕ → Pages → Pages
offered file size index bytes sent c =
    after_keep (keep_answer file (stamp size) sent c) (stamp size) (record { file = file; index = index }) bytes c

-- ---- a call at the mark is too old, one of another state differs, and else the page is kept
abbrev at_5 : Pages
at_5 = opened one (stamp 2) 5 nothing_kept

stale : keep_answer one (stamp 2) 5 at_5 ≡ Stale
stale = refl

differs : keep_answer one (stamp 1) 6 at_5 ≡ Differs
differs = refl

is_kept : keep_answer one (stamp 2) 6 at_5 ≡ Kept
is_kept = refl

neither_is_there : page_of one 0 (offered one 1 0 (104 ∷ []) 6 (offered one 2 0 hi 5 at_5)) ≡ None
neither_is_there = refl

is_there : page_of one 0 (offered one 2 0 hi 6 at_5) ≡ Some hi
is_there = refl

-- ---- of a file that was never opened nothing is known, and nothing changes
never_opened : cut one (from_to 2 1) 1 9 (wrote one (from_to 2 2) 0 hi 8 (saw one (stamp 2) 7 nothing_kept)) ≡ nothing_kept
never_opened = refl

never_kept : keep_answer one (stamp 2) 10 nothing_kept ≡ Stale
never_kept = refl

never_known : known_of one nothing_kept ≡ None
never_known = refl

-- ---- pages follow the client's own changes
abbrev with_hi : Pages
with_hi = offered one 2 0 hi 6 at_5

abbrev after_write : Pages
after_write = wrote one (from_to 2 5) 3 (121 ∷ 111 ∷ []) 7 with_hi

page_written : page_of one 0 after_write ≡ Some (104 ∷ 105 ∷ 0 ∷ 121 ∷ 111 ∷ [])
page_written = refl

stamp_written : known_of one after_write ≡ Some (stamp 5)
stamp_written = refl

mark_written : mark_of one after_write ≡ Some 7
mark_written = refl

page_cut : page_of one 0 (cut one (from_to 5 1) 1 8 after_write) ≡ Some (104 ∷ [])
page_cut = refl

stamp_cut : known_of one (cut one (from_to 5 1) 1 8 after_write) ≡ Some (stamp 1)
stamp_cut = refl

-- one that began in another state isn't followed: somebody else had changed the file
abbrev not_followed : Pages
not_followed = wrote one (from_to 2 3) 0 ab 9 after_write

page_dropped : page_of one 0 not_followed ≡ None
page_dropped = refl

stamp_unknown : known_of one not_followed ≡ None
stamp_unknown = refl

mark_raised : mark_of one not_followed ≡ Some 9
mark_raised = refl

-- a server may leave out either side
no_before : known_of one (wrote one (record { before = None; after = Some (attr 2) }) 0 hi 9 with_hi) ≡ None
no_before = refl

no_after : known_of one (wrote one (record { before = Some (stamp 2); after = None }) 0 hi 9 with_hi) ≡ None
no_after = refl

-- a short page before the bytes written is filled with zeros
filled : page_of one 0 (wrote one (from_to 2 8195) 8192 ab 7 with_hi) ≡ Some (hi ++ replicate 4094 0)
filled = refl

-- ---- a new state of a file drops its pages alone
abbrev both : Pages
both = offered two 2 0 xy 2 (offered one 2 0 hi 2 (opened two (stamp 2) 1 (opened one (stamp 2) 1 nothing_kept)))

seen_too_late : saw one (stamp 3) 1 both ≡ both
seen_too_late = refl

-- an open in the same state keeps them, and its mark doesn't fall
opened_again : opened one (stamp 2) 0 both ≡ both
opened_again = refl

seen_anew : page_of one 0 (saw one (stamp 3) 2 both) ≡ None
seen_anew = refl

other_stays : page_of two 0 (saw one (stamp 3) 2 both) ≡ Some xy
other_stays = refl

new_state : known_of one (saw one (stamp 3) 2 both) ≡ Some (stamp 3)
new_state = refl

opened_anew : page_of one 0 (opened one (stamp 3) 2 both) ≡ None
opened_anew = refl

-- ---- a page that was shown goes to the front; of 1,024 pages the one that wasn't used for the longest time goes
shown_first : (after_page one 0 both).pages ≡ (record { file = one; index = 0 }, hi) ∷ (record { file = two; index = 0 }, xy) ∷ []
shown_first = refl

-- so many pages of the first file, number 0 last
abbrev many : ℕ → List (PagePlace × List ℕ)
many zero = []
many (suc n) = (record { file = one; index = n }, n / 256 ∷ n % 256 ∷ []) ∷ many n

abbrev full : Pages
full = record (opened two (stamp 2) 0 (opened one (stamp 4194304) 0 nothing_kept)) { pages = many 1024 }

-- page 0 is used again, so page 1 goes
abbrev one_more : Pages
one_more = offered two 2 0 hi 1 (after_page one 0 full)

as_many : length one_more.pages ≡ 1024
as_many = refl

used_stays : page_of one 0 one_more ≡ Some (0 ∷ 0 ∷ [])
used_stays = refl

unused_goes : page_of one 1 one_more ≡ None
unused_goes = refl

next_stays : page_of one 2 one_more ≡ Some (0 ∷ 2 ∷ [])
next_stays = refl

new_is_there : page_of two 0 one_more ≡ Some hi
new_is_there = refl
