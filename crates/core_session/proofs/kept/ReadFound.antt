-- What a read has found and what it answers, with any fact of the stamps under which it took pages, and of the views in which its own bytes were pending.
use Rattle.core_session.proofs.Prelude.{◌≡◌, ◌<◌, ◌≤◌, ◌+◌, ◌-◌, ◌⊎◌, ℕ, Bool, true, List, [], ◌∷◌, ◌++◌, length, Option, Some, None, slice_get, Result, Ok, Attr, Stamp, IsOpen, start_of, Pages, known_of, after_page, Fault, Entry, Call, Reply, Op, Modes, IsOf, Shelf, Turn, Machine, Setup, View, IsAnswered, IsPage, RecentThen, pending_in, Passes}
use Rattle.nfs_file_calls.specs.declared.call.FileCall.TheVariants as files
use Rattle.nfs_file_calls.specs.declared.owned.FileKept.TheVariants as kept
use Rattle.world_model.specs.declared.message.Call.TheVariants as calls
use Rattle.world_model.specs.declared.message.Reply.TheVariants as answers
use Rattle.core_session.proofs.current.Along.{KeepsHeard}
use Rattle.core_session.proofs.current.FedPages.{FedLaws}
use Rattle.core_session.proofs.current.Moments.{IsMoment, IsToldSince}
use Rattle.core_session.proofs.shown.Answer.{IsShown}

-- A fact of the known stamps: M is kept along the history, and tells O of each stamp under which the read at the place x looks at pages.
pub record StampLaws (mo : ℕ → Op → Machine) (setup : Setup) : Type 1 where
  pub M : List Entry → View → Type 0
  pub O : ℕ → List Entry → List ℕ → Stamp → Type 0
  pub keeps : KeepsHeard mo setup M
  pub grows : (x : ℕ) (h : List Entry) (e : Entry) (file : List ℕ) (stamp : Stamp) → O x h file stamp → O x (h ++ e ∷ []) file stamp
  pub known : (x : ℕ) (h : List Entry) (v : View) → x ≤ length h → M h v → (file : List ℕ) (stamp : Stamp) → known_of file v.shelf.pages ≡ Some stamp → O x h file stamp
  pub step : (x : ℕ) (h before after : List Entry) → h ≡ before ++ after → x ≤ length before → (v : View) → M before v → (call : Call) (came : Result Reply Fault) (sent turn : Turn)
      → v.moments ≤ turn.moment - 1
      → ((o k : ℕ) → IsMoment before v o k → (reply : Reply) → came ≡ Ok reply → IsToldSince h call sent o k reply) → (shelf : Shelf) → v.shelf ≡ shelf → (later : Pages)
      → ((T : Pages → Type 0) → ((file : List ℕ) (index : ℕ) (c : Pages) → T c → T (after_page file index c)) → FedLaws T call came sent turn → T shelf.pages → T later)
      → (file : List ℕ) (stamp : Stamp) → known_of file later ≡ Some stamp → O x h file stamp

-- the stamp is a recent one, and this is known of it
pub record RecentOwn (modes : Modes) (O : ℕ → List Entry → List ℕ → Stamp → Type 0) (h : List Entry) (x : ℕ) (file : List ℕ) (stamp : Stamp) : Type 0 where
  pub recent : RecentThen modes h x file stamp
  pub fact : O x h file stamp

-- A byte of the file at a place that the operation at the place x found, as `current.Read`.
pub data IsFound (first : Pages) (R : List Entry → ℕ → List ℕ → Stamp → Type 0) (h : List Entry) (x : ℕ) (file : List ℕ) (place v : ℕ) : Type 0 where
  in_page : (stamp : Stamp) (index at : ℕ) (page : List ℕ) → IsPage first h file stamp index page → R h x file stamp
      → slice_get page at ≡ Some v → place ≡ start_of index + at → IsFound first R h x file place v
  in_reply : (since offset count counted at : ℕ) (attr : Option Attr) (eof : Bool) (given : List ℕ) → x < since
      → IsAnswered h since (length h) (calls.File (files.Read file offset count)) (answers.File (kept.Read attr counted eof given))
      → slice_get given at ≡ Some v → place ≡ offset + at → IsFound first R h x file place v

-- And where it found the file to end.
pub data IsEnd (first : Pages) (R : List Entry → ℕ → List ℕ → Stamp → Type 0) (h : List Entry) (x : ℕ) (file : List ℕ) (place : ℕ) : Type 0 where
  by_known : (stamp : Stamp) → R h x file stamp → stamp.size ≤ place → IsEnd first R h x file place
  by_page : (stamp : Stamp) (index : ℕ) (page : List ℕ) → IsPage first h file stamp index page → R h x file stamp → length page < 4096
      → start_of index + length page ≤ place → IsEnd first R h x file place
  by_reply : (since offset count counted : ℕ) (attr : Option Attr) (given : List ℕ) → x < since
      → IsAnswered h since (length h) (calls.File (files.Read file offset count)) (answers.File (kept.Read attr counted true given))
      → offset + length given ≤ place → IsEnd first R h x file place

-- A view of which this is known, after so much of the history.
pub record GoodThen (mo : ℕ → Op → Machine) (setup : Setup) (I : List Entry → View → Type 0) (h : List Entry) (place : ℕ → Type 0) : Type 0 where
  pub before : List Entry
  pub after : List Entry
  pub is : h ≡ before ++ after
  pub at : place (length before)
  pub view : View
  pub good : I before view
  pub passed : Passes mo setup before view

-- What is pending of the range as the read ends is in its answer, and what was as it began is where none is then. Past the end of a short answer nothing is
-- pending. As it began, a slot held the file.
pub record OwnShown (mo : ℕ → Op → Machine) (setup : Setup) (I : List Entry → View → Type 0) (h : List Entry) (x : ℕ) (file : List ℕ) (offset count : ℕ) (bytes : List ℕ) : Type 0 where
  pub first : GoodThen mo setup I h (λ n. n ≡ x)
  pub held : IsOpen first.view.shelf.opens file
  pub last : GoodThen mo setup I h (λ n. x ≤ n)
  pub now : (k v : ℕ) → k < count → pending_in last.view file (offset + k) ≡ Some v → slice_get bytes k ≡ Some v
  pub then_ : (k v : ℕ) → k < count → pending_in last.view file (offset + k) ≡ None → pending_in first.view file (offset + k) ≡ Some v
      → slice_get bytes k ≡ Some v
  pub beyond_now : length bytes < count → (place : ℕ) → offset + length bytes ≤ place → pending_in last.view file place ≡ None
  pub beyond_then : length bytes < count → (place : ℕ) → offset + length bytes ≤ place → pending_in first.view file place ≡ None

-- The answer of a read of so many bytes.
pub record ReadShown (mo : ℕ → Op → Machine) (setup : Setup) (I : List Entry → View → Type 0) (R : List Entry → ℕ → List ℕ → Stamp → Type 0) (modes : Modes) (h : List Entry) (x : ℕ) (op : Op) (offset count : ℕ)
    (bytes : List ℕ) : Type 0 where
  pub file : List ℕ
  pub of : IsOf modes h x op file
  pub server : List ℕ
  pub found : (k v : ℕ) → slice_get server k ≡ Some v → IsFound setup.pages R h x file (offset + k) v
  pub ends : (count ≤ length server) ⊎ IsEnd setup.pages R h x file (offset + length server)
  pub long : (length bytes ≡ count) ⊎ (length server ≤ length bytes)
  pub most : length bytes ≤ count
  pub each : (k v : ℕ) → slice_get bytes k ≡ Some v → IsShown I h x file server k (offset + k) v
  pub own_shown : OwnShown mo setup I h x file offset count bytes
