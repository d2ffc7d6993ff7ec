-- Rows by hand from the rules of this crate: what is answered, and the order of what is kept.
use Rattle.std.proofs.Common.{◌≡◌, ℕ, suc, zero, List, [], ◌∷◌, length, Some, None, refl}
use Rattle.nfs_types.specs.declared.wcc.Stamp.{Stamp}
use Rattle.name_cache.specs.declared.entry.Place.{Place}
use Rattle.name_cache.specs.declared.entry.KeptName.{KeptName}
use Rattle.name_cache.specs.Names.{Entries, looked, after_look, learnt, without_dir}

-- the stamp of a directory that last changed at this second
abbrev stamp : ℕ → Stamp
stamp second = record { size = 4096; mtime = record { seconds = second; nanos = 0 }; ctime = record { seconds = second; nanos = 0 } }

abbrev handle : ℕ → List ℕ
handle n = 0 ∷ n ∷ []

-- directory, name, second of its stamp, what it stands for
data Row : Type 0 where
  row : ℕ → ℕ → ℕ → ℕ → Row

abbrev entry : Row → Place × KeptName
entry (row dir letter second found) = (record { dir = handle dir; name = letter ∷ [] }, record { stamp = stamp second; found = handle found })

abbrev entries : List Row → Entries
entries [] = []
entries (r ∷ more) = entry r ∷ entries more

-- a name is learnt, or looked up under the stamp of a second, or a directory's names go
data Step : Type 0 where
  Learn : Row → Step
  Look : ℕ → ℕ → ℕ → Step
  DropDir : ℕ → Step

abbrev step : Entries → Step → Entries
step es (Learn (row dir letter second found)) = learnt (handle dir) (letter ∷ []) (stamp second) (handle found) es
step es (Look dir letter second) = after_look (handle dir) (letter ∷ []) (stamp second) es
step es (DropDir dir) = without_dir (handle dir) es

abbrev after : Entries → List Step → Entries
after es [] = es
after es (s ∷ more) = after (step es s) more

-- the letters a and b
abbrev a : ℕ
a = 97

abbrev b : ℕ
b = 98

-- ---- what stands after each call

nothing_there : looked (handle 1) (a ∷ []) (stamp 7) [] ≡ None
nothing_there = refl

-- the same name in another directory is another entry
three_names : after [] (Learn (row 1 a 7 10) ∷ Learn (row 1 b 7 11) ∷ Learn (row 2 a 8 12) ∷ []) ≡ entries (row 2 a 8 12 ∷ row 1 b 7 11 ∷ row 1 a 7 10 ∷ [])
three_names = refl

abbrev three : List Row
three = row 2 a 8 12 ∷ row 1 b 7 11 ∷ row 1 a 7 10 ∷ []

answered : looked (handle 1) (a ∷ []) (stamp 7) (entries three) ≡ Some (handle 10)
answered = refl

-- an answered entry goes to the front
answered_first : after (entries three) (Look 1 a 7 ∷ []) ≡ entries (row 1 a 7 10 ∷ row 2 a 8 12 ∷ row 1 b 7 11 ∷ [])
answered_first = refl

-- under another stamp nothing is answered, and the order stays; so it does where nothing is kept of the name
another_stamp : looked (handle 1) (b ∷ []) (stamp 9) (entries three) ≡ None
another_stamp = refl

order_stays : after (entries three) (Look 1 b 9 ∷ Look 2 b 8 ∷ []) ≡ entries three
order_stays = refl

-- learnt again, it goes to the front in place of what was kept
learnt_again : after (entries three) (Learn (row 1 b 9 13) ∷ []) ≡ entries (row 1 b 9 13 ∷ row 2 a 8 12 ∷ row 1 a 7 10 ∷ [])
learnt_again = refl

under_the_old_stamp : looked (handle 1) (b ∷ []) (stamp 7) (after (entries three) (Learn (row 1 b 9 13) ∷ [])) ≡ None
under_the_old_stamp = refl

under_the_new_stamp : looked (handle 1) (b ∷ []) (stamp 9) (after (entries three) (Learn (row 1 b 9 13) ∷ [])) ≡ Some (handle 13)
under_the_new_stamp = refl

-- a directory's names go, and the others keep their order
unknown_directory : after (entries three) (DropDir 3 ∷ []) ≡ entries three
unknown_directory = refl

one_directory : after (entries (row 2 b 0 9 ∷ row 3 a 0 9 ∷ row 1 b 0 9 ∷ row 2 a 0 9 ∷ row 1 a 0 9 ∷ [])) (DropDir 1 ∷ []) ≡ entries (row 2 b 0 9 ∷ row 3 a 0 9 ∷ row 2 a 0 9 ∷ [])
one_directory = refl

both_directories : after (entries three) (DropDir 1 ∷ DropDir 2 ∷ DropDir 2 ∷ []) ≡ []
both_directories = refl

-- ---- the length and both times belong to the stamp

length_changed : looked (handle 1) (a ∷ []) (record (stamp 7) { size = 1 }) (entries three) ≡ None
length_changed = refl

mtime_changed : looked (handle 1) (a ∷ []) (record (stamp 7) { mtime = record { seconds = 7; nanos = 1 } }) (entries three) ≡ None
mtime_changed = refl

ctime_changed : looked (handle 1) (a ∷ []) (record (stamp 7) { ctime = record { seconds = 7; nanos = 1 } }) (entries three) ≡ None
ctime_changed = refl

-- ---- of 256 names the one that wasn't used for the longest time goes

-- the name a in directories with these numbers, the lowest one last
abbrev many : ℕ → Entries
many zero = []
many (suc n) = (entry (row n a 0 9)) ∷ many n

-- the first one is used again, so the second one goes
abbrev one_more : Entries
one_more = after (many 256) (Look 0 a 0 ∷ Learn (row 1 b 0 9) ∷ [])

as_many : length one_more ≡ 256
as_many = refl

used_stays : looked (handle 0) (a ∷ []) (stamp 0) one_more ≡ Some (handle 9)
used_stays = refl

second_goes : looked (handle 1) (a ∷ []) (stamp 0) one_more ≡ None
second_goes = refl

third_stays : looked (handle 2) (a ∷ []) (stamp 0) one_more ≡ Some (handle 9)
third_stays = refl

new_is_there : looked (handle 1) (b ∷ []) (stamp 0) one_more ≡ Some (handle 9)
new_is_there = refl
