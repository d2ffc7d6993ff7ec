-- Which stamps of a file the server showed since a moment (RFC 1813, section 2.6). Which of them the client knows so, of the files that it opened.
use Rattle.std.specs.Prelude.{◌≡◌, ◌<◌, ◌≤◌, ◌+◌, ◌⊎◌, ℕ, true, false, List, length, Some}
use Rattle.nfs_types.specs.declared.attr.Attr.{Attr}
use Rattle.nfs_types.specs.declared.wcc.Stamp.{Stamp}
use Rattle.nfs_types.specs.Stamps.{stamp_of}
use Rattle.page_cache.specs.Pages.{known_of}
use Rattle.world_model.specs.declared.entry.Entry.{Entry}
use Rattle.world_model.specs.declared.message.Call.{Call}
use Rattle.world_model.specs.declared.message.Reply.{Reply}
use Rattle.claims.specs.Modes.{Modes}
use Rattle.claims.specs.Shown.{ShowsAttr}
use Rattle.claims.specs.Slots.{Opens}
use Rattle.claims.specs.Terms.{Terms}
use Rattle.op_machines.specs.declared.begun.Mounted.{Mounted}
use Rattle.client_core.specs.declared.setup.Setup.{Setup}
use Rattle.client_core.specs.View.{View}
use Rattle.core_facts.specs.SlotAnswers.{GoesWith}
use Rattle.core_answers.specs.bonds.Ages.{began_at}
use Rattle.core_answers.specs.bonds.Kept.{HadShown, IsAnswered, LastAtMost}
use Rattle.core_answers.specs.pages.Kept.{WasWritten, WasCut}

-- A stamp of the file was shown since the place o: by the reply to a call that was first sent after it; or it is the stamp to which a WRITE or a SETATTR
-- of this client leads from such a one.
pub data IsSeen (h : List Entry) (o : ℕ) (file : List ℕ) : Stamp → Type 0 where
  shown : (stamp : Stamp) (since : ℕ) (call : Call) (reply : Reply) (attr : Attr) → o < since → IsAnswered h since (length h) call reply
      → ShowsAttr call reply file attr → stamp_of attr ≡ stamp → IsSeen h o file stamp
  written : (old stamp : Stamp) (offset count : ℕ) (bytes : List ℕ) → IsSeen h o file old → WasWritten h file offset count bytes old stamp
      → IsSeen h o file stamp
  cut : (old stamp : Stamp) (size : ℕ) → IsSeen h o file old → WasCut h file size old stamp → IsSeen h o file stamp

-- A reply showed that it is a regular file (RFC 1813, section 2.5, ftype3).
pub record WasRegular (h : List Entry) (file : List ℕ) : Type 0 where
  pub since : ℕ
  pub call : Call
  pub reply : Reply
  pub attr : Attr
  pub answered : IsAnswered h since (length h) call reply
  pub shows : ShowsAttr call reply file attr
  pub kind : attr.kind ≡ 1

-- If an open may go by attributes that are kept (nfs(5), nocto): the clock had shown a time by the place after s. This was less than the longest keeping
-- before the time at which the open began.
pub record IsAged (modes : Modes) (h : List Entry) (o s : ℕ) : Type 0 where
  pub may : modes.nocto ≡ true
  pub ms : ℕ
  pub shown_by : HadShown h (s + 1) ms
  pub less : began_at h o < ms + modes.longest
  pub within : o ≤ length h

-- The stamp was shown since the open that began at the place o, or since such a place.
pub record SeenFrom (modes : Modes) (h : List Entry) (o : ℕ) (file : List ℕ) (stamp : Stamp) : Type 0 where
  pub s : ℕ
  pub seen : IsSeen h s file stamp
  pub age : (s ≡ o) ⊎ IsAged modes h o s

-- Of each file that it opened the client knows no stamp that wasn't shown since that open began; or, if opens may go by attributes that are kept, since
-- a time for which these are kept.
abbrev pub KnownSeen : Type 0
KnownSeen = (m : Mounted) (terms : Terms) (setup : Setup) (h : List Entry) (v : View) → GoesWith m terms setup h v
    → (terms.modes.nocto ≡ true → LastAtMost setup.lives terms.modes.longest) → v.lost ≡ false
    → (lane slot o y : ℕ) (f : List ℕ) → Opens terms.modes h lane slot o y f → (stamp : Stamp) → known_of f v.shelf.pages ≡ Some stamp
    → SeenFrom terms.modes h o f stamp
