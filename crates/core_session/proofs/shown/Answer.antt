-- What a read answers, with what is known of the views in which the bytes of its own client were pending.
use Rattle.std.specs.Prelude.{◌≡◌, ◌<◌, ◌≤◌, ◌+◌, ◌⊎◌, ℕ, List, ◌++◌, length, Some, slice_get}
use Rattle.core_session.proofs.Prelude.{of_file, newest_at, Entry, Op, Modes, IsOf, View, IsFound, IsEnd, Pages}

-- The byte was pending in a view of which this is known, since the place x.
pub record OwnByte (J : List Entry → View → Type 0) (h : List Entry) (x : ℕ) (file : List ℕ) (place v : ℕ) : Type 0 where
  pub before : List Entry
  pub after : List Entry
  pub is : h ≡ before ++ after
  pub late : x ≤ length before
  pub view : View
  pub good : J before view
  pub pending : newest_at (of_file file view.shelf.back).segments place ≡ Some v

-- A byte was pending past the place, in such a view.
pub record OwnPast (J : List Entry → View → Type 0) (h : List Entry) (x : ℕ) (file : List ℕ) (place : ℕ) : Type 0 where
  pub before : List Entry
  pub after : List Entry
  pub is : h ≡ before ++ after
  pub late : x ≤ length before
  pub view : View
  pub good : J before view
  pub q : ℕ
  pub byte : ℕ
  pub past : place < q
  pub there : newest_at (of_file file view.shelf.back).segments q ≡ Some byte

-- A byte of an answer, the k-th: it was pending; or it is what the server was found to have; or it is a zero, past the end of that, where a byte was
-- pending past it.
pub data IsShown (J : List Entry → View → Type 0) (h : List Entry) (x : ℕ) (file server : List ℕ) (k place v : ℕ) : Type 0 where
  own : OwnByte J h x file place v → IsShown J h x file server k place v
  served : slice_get server k ≡ Some v → IsShown J h x file server k place v
  empty : v ≡ 0 → length server ≤ k → OwnPast J h x file place → IsShown J h x file server k place v

-- The answer of a read of so many bytes, as `specs.current.Read`.
pub record ReadShown (first : Pages) (J : List Entry → View → Type 0) (modes : Modes) (h : List Entry) (x : ℕ) (op : Op) (offset count : ℕ) (bytes : List ℕ) : Type 0 where
  pub file : List ℕ
  pub of : IsOf modes h x op file
  pub server : List ℕ
  pub found : (k v : ℕ) → slice_get server k ≡ Some v → IsFound first modes h x file (offset + k) v
  pub ends : (count ≤ length server) ⊎ IsEnd first modes h x file (offset + length server)
  pub long : (length bytes ≡ count) ⊎ (length server ≤ length bytes)
  pub most : length bytes ≤ count
  pub each : (k v : ℕ) → slice_get bytes k ≡ Some v → IsShown J h x file server k (offset + k) v
