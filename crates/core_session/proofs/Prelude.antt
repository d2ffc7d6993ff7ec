-- What proofs of this crate import from below: one name for each, whatever module has it.
pub use Rattle.std.proofs.Common.{Bool, Err, List, MatchOption, None, Ok, Option, Result, Some, [], ap, append-nil, append_assoc, arith, cond, drop, false, inl, inr, length, length-append, map, nat_eq, nat_le, not, option_map, position, refl, remove, replicate, slice_get, slice_set, subst, suc, sym, take, true, zero, ℕ, ◌&&◌, ◌++◌, ◌+◌, ◌-◌, ◌/◌, ◌<◌, ◌==◌, ◌^◌, ◌||◌, ◌∙◌, ◌∷◌, ◌≡◌, ◌≢◌, ◌≤◌, ◌⊎◌}
pub use Rattle.std.proofs.lemmas.Bool.{cases_lt, eqb-false, eqb-true, le-leb, le-ltb, lt-ltb, ltb-false, ltb-true}
pub use Rattle.std.proofs.lemmas.Bool.Decides.{nat_tests}
pub use Rattle.std.proofs.lemmas.List.{length-drop, length-take}
pub use Rattle.std.proofs.lemmas.List.Elements.{All-nil}
pub use Rattle.std.proofs.lemmas.Option.{slice_get-get_or, slice_get_within}
pub use Rattle.std.specs.List.{list_any}
pub use Rattle.std.specs.Option.{option_map_or}
pub use Rattle.std.specs.Prelude.{if◌then◌else◌, nat_lt, slice_index}
pub use Rattle.attr_cache.specs.Attrs.{looked}
pub use Rattle.call_replies.specs.Says.{Says, said_of}
pub use Rattle.claims.specs.Asks.{Acts, Asks, HeldOpen, IsWriter, create_unchecked, look_up}
pub use Rattle.claims.specs.CallsAsked.{IsCaused, KeepsTo, NoneBegan}
pub use Rattle.claims.specs.GoesOn.{GoesOn}
pub use Rattle.claims.specs.Modes.{Modes}
pub use Rattle.claims.specs.PageRules.{RefusesSo}
pub use Rattle.claims.specs.Paths.{PlaceOf}
pub use Rattle.claims.specs.Pending.{LeftAlone, PutRefused}
pub use Rattle.claims.specs.ReadTrue.{HeldSize, PendingWithin, ReadsBytes}
pub use Rattle.claims.specs.RefusalRows.{IsLastRemove, RefusedBy}
pub use Rattle.claims.specs.Settled.{Evidence, MadeFirm, SettledBy, WroteAt, at_once, by_commit}
pub use Rattle.claims.specs.Shown.{of_object}
pub use Rattle.claims.specs.Slots.{Finds, InSlot, IsOf, NamesFile, slot_of}
pub use Rattle.claims.specs.Terms.{Terms, jukebox}
pub use Rattle.claims.specs.Touched.{Cuts, GivesUp, RefusedWrite, Touched, Truncated, WritesByte, Wrote, beside, fill, itself, write, written}
pub use Rattle.client_core.specs.Fresh.{IsFresh}
pub use Rattle.client_core.specs.Lanes.{is_busy, lost_lane}
pub use Rattle.client_core.specs.Numbers.{IsIdle, IsOther, numbers_of}
pub use Rattle.client_core.specs.Steps.{AnswersAt, BeginsIf, IsRefused, Leads, Makes, Moves, SendsIf, StartsLane, Stirs, TakesAt, counted, moves_more, moves_none, record_of, with_state}
pub use Rattle.client_core.specs.View.{View, turn_at, unmade_turn}
pub use Rattle.client_core.specs.declared.lane.Lane.{Lane}
pub use Rattle.client_core.specs.declared.lane.Purpose.{Purpose}
pub use Rattle.client_core.specs.declared.lane.State.{State}
pub use Rattle.client_core.specs.declared.lane.State.TheVariants.{Busy, Over}
pub use Rattle.client_core.specs.declared.setup.Setup.{Setup}
pub use Rattle.client_shelf.specs.Busy.{fails_busy, goes_again}
pub use Rattle.client_shelf.specs.LaneFiles.{added, is_first, is_lane, is_other, left}
pub use Rattle.client_shelf.specs.declared.lane_files.LaneFile.{LaneFile}
pub use Rattle.client_shelf.specs.declared.step.Step.{Step}
pub use Rattle.client_shelf.specs.declared.step.Step.TheVariants.{Done, Send, Wait}
pub use Rattle.client_shelf.specs.declared.repeats.Repeat.{Repeat}
pub use Rattle.client_shelf.specs.declared.shelf.Shelf.{Shelf}
pub use Rattle.client_shelf.specs.declared.turn.Turn.{Turn}
pub use Rattle.commit_verf.specs.Decisions.{decided, verdict_of}
pub use Rattle.commit_verf.specs.declared.commit.Verdict.{Verdict}
pub use Rattle.commit_verf.specs.declared.commit.Verdict.TheVariants.{AllStable, SendAgain}
pub use Rattle.core_answers.proofs.answers.PieceSteps.{IsPiece}
pub use Rattle.core_answers.proofs.answers.SaveFaults.{CallFaults}
pub use Rattle.core_answers.proofs.asks.CallsAwaited.{Expects, Names, PathNames, expects-laws}
pub use Rattle.core_answers.proofs.asks.FilesAwaited.{CloseNames, FileNames, StateNames, SyncNames, WriteNames}
pub use Rattle.core_answers.proofs.asks.RemoveSteps.{RemoveRuns}
pub use Rattle.core_answers.proofs.asks.SavedCalls.{Saves}
pub use Rattle.core_answers.proofs.asks.Sendings.{NoCall, NoShelf, NoStory, SentFor, no-laws}
pub use Rattle.core_answers.proofs.asks.SlotAsks.{of-slot}
pub use Rattle.core_answers.proofs.asks.SlotFiles.{SlotRuns, SlotStory, WorksAt, slot-laws}
pub use Rattle.core_answers.proofs.asks.WalkAsks.{leads-on, walk-looks}
pub use Rattle.core_answers.proofs.bonds.AttrsShown.{answered-last}
pub use Rattle.core_answers.proofs.bonds.FileCalls.{ReadOn}
pub use Rattle.core_answers.proofs.bonds.Learnt.{IsOn}
pub use Rattle.core_answers.proofs.bonds.OneCall.{IsNfs, one-call}
pub use Rattle.core_answers.proofs.engine.Laws.{HasPassed, RunsIn}
pub use Rattle.core_answers.proofs.pages.FilePages.{IsSentAs}
pub use Rattle.core_answers.proofs.pages.PageCalls.{Both, PhaseAwaits, ReadAwaits, both-asks}
pub use Rattle.core_answers.proofs.pages.PageLaws.{Good, quiet-good}
pub use Rattle.core_answers.proofs.pages.PagesShown.{from-start, page-grows}
pub use Rattle.core_answers.proofs.pages.ReadBytes.{HasOr}
pub use Rattle.core_answers.proofs.paths.Endings.{takes-not}
pub use Rattle.core_answers.proofs.refusals.Answering.{CameOf, SlotLaws, heard_of, reached-answered, unmade}
pub use Rattle.core_answers.proofs.refusals.FitNames.{FitsWalk}
pub use Rattle.core_answers.proofs.refusals.FitReads.{FineLed, FitsOpening}
pub use Rattle.core_answers.proofs.refusals.Fitting.{machine-fits}
pub use Rattle.core_answers.proofs.refusals.SentCalls.{SentCall}
pub use Rattle.core_answers.proofs.writes.AllFits.{CallFits, fits-laws}
pub use Rattle.core_answers.proofs.writes.AllTurns.{Turned}
pub use Rattle.core_answers.proofs.writes.Along.{SameCalls, failed-purposes, sent-purposes}
pub use Rattle.core_answers.proofs.writes.Backs.{After, CarriesReply, RoomIs}
pub use Rattle.core_answers.proofs.writes.Firsts.{first-added, first-left, same-first}
pub use Rattle.core_answers.proofs.writes.Mapped.{any-saves}
pub use Rattle.core_answers.proofs.writes.OwnPieces.{Free}
pub use Rattle.core_answers.proofs.writes.PiecesCarried.{resumes-under, starts-under, takes-under, unused-next, waits-late}
pub use Rattle.core_answers.proofs.writes.Turns.{CloseTurn, IsFirst}
pub use Rattle.core_answers.proofs.writes.Under.{SameUnder}
pub use Rattle.core_answers.proofs.writes.WholeWrites.{writes-whole}
pub use Rattle.core_answers.specs.asks.PutCalls.{IsForRoom}
pub use Rattle.core_answers.specs.bonds.Kept.{IsAnswered, LastAtMost}
pub use Rattle.core_answers.specs.pages.Kept.{IsPage}
pub use Rattle.core_answers.specs.pages.Passing.{Passes}
pub use Rattle.core_answers.specs.refusals.Rowed.{GoesSo}
pub use Rattle.core_answers.specs.writes.Alone.{IsWaiting, written_file}
pub use Rattle.core_answers.specs.writes.Carried.{write_of}
pub use Rattle.core_answers.specs.writes.Flights.{IsInFlight}
pub use Rattle.core_answers.specs.writes.Written.{byte_by, byte_from}
pub use Rattle.core_facts.proofs.AllAwaited.{Awaits, PathOr, awaits-laws}
pub use Rattle.core_facts.proofs.AllCounts.{begins-unbegun, counts-calls}
pub use Rattle.core_facts.proofs.AllSeats.{IsFreshFor, IsLive, seat_of}
pub use Rattle.core_facts.proofs.Awaited.{OwnOr, WalkAwaits}
pub use Rattle.core_facts.proofs.Cases.{FailedNow, Heard, SentNow, answered_now, dropped, failed_now, gives_up, goes_on, replied, sent_now, taken_one}
pub use Rattle.core_facts.proofs.Counting.{calls-some, heard-lost, hears-count, known-only, none-busy, starts-count, stirs-count}
pub use Rattle.core_facts.proofs.Faults.{FineAnswer, FineNext, FineOption, FineResult, fine-as}
pub use Rattle.core_facts.proofs.FileSeats.{seat_close, seat_put}
pub use Rattle.core_facts.proofs.FilesKept.{all-resumes, all-starts, all-takes}
pub use Rattle.core_facts.proofs.Flights.{flies_close, flies_file, flies_if, flies_of, flies_path, flies_put, flies_save, flies_sync, flies_write}
pub use Rattle.core_facts.proofs.Grown.{one-xid}
pub use Rattle.core_facts.proofs.Hearing.{says-of, was-sent}
pub use Rattle.core_facts.proofs.HeldSlots.{Given, Held, always-later, held-begins, held-later, is-given, may}
pub use Rattle.core_facts.proofs.Keeping.{Known, purpose_at, reached-all, reached-kept, taker-is, taker-one}
pub use Rattle.core_facts.proofs.LaneMarks.{LanesKnown, Runs, idle-numbers, lanes-begin, lanes-stay, lanes-under-way, number_of, quiet-facts, reached-lanes}
pub use Rattle.core_facts.proofs.Leading.{IsHeard, IsNameTold, LeadsTo, NamesTold, WalkLeads, end-leads, heard-tells, leads-from, leads-later, names-later}
pub use Rattle.core_facts.proofs.Lists.{at-position, at-push, at-set, before-push, get-push, get-remove, skip, still-there, to-map}
pub use Rattle.core_facts.proofs.Looks.{look-at, look-idle}
pub use Rattle.core_facts.proofs.NamesAwaited.{RemoveAwaits}
pub use Rattle.core_facts.proofs.Noting.{notes-reach}
pub use Rattle.core_facts.proofs.OneCallStory.{ends-later, front-last}
pub use Rattle.core_facts.proofs.OpenSlots.{IsPlain}
pub use Rattle.core_facts.proofs.Orders.{Sits, SitsWith, joins, same-sits, seat-other, seat-own, seat_with}
pub use Rattle.core_facts.proofs.Owning.{reached-owned}
pub use Rattle.core_facts.proofs.Placing.{Placed, keeps-placed, seat_in, seat_state}
pub use Rattle.core_facts.proofs.Rows.{Rows, not-sent, reached-rows, rows-grow, rows-stay, same-rows, silent-grow, taken-quiet, taken-rows}
pub use Rattle.core_facts.proofs.SaveCommits.{EndsSo}
pub use Rattle.core_facts.proofs.SlotGrowth.{Agrees, IsHeld, held-grow}
pub use Rattle.core_facts.proofs.Slots.{BeginsAs, Kind, SlotsAgree, StoryOf, kind_of, plainly}
pub use Rattle.core_facts.proofs.SlotsAlong.{Slots, reached-slots}
pub use Rattle.core_facts.proofs.Steps.{AskedOf, ThenOf}
pub use Rattle.core_facts.proofs.Stories.{Always, by-place, ended-grow, good-over, over-laws, set-other, under-back}
pub use Rattle.core_facts.proofs.Tales.{IsExpected, IsTold, TaleLaws, reached-good}
pub use Rattle.core_facts.proofs.Telling.{AsksFor, Did, IsQuiet, IsUnmadeFault}
pub use Rattle.core_facts.proofs.Walks.{Stays, starts-stay, steps-stay, stirs-stay}
pub use Rattle.core_facts.specs.Counted.{IsOfOperation, calls_for}
pub use Rattle.core_facts.specs.InFlight.{Counts, IsCounted, IsUnbegun, in_flight, of_closing, of_name, of_putting, of_syncing, of_truncating, of_walk, of_writing, path_by, removal_by}
pub use Rattle.core_facts.specs.Lanes.{AreApart}
pub use Rattle.core_facts.specs.Naming.{KnowsRoot}
pub use Rattle.core_facts.specs.Notes.{NoneReady, Notes}
pub use Rattle.core_facts.specs.Reaches.{HearsRecord, IsOpenLine, IsSetUp, MayHear, MaySetUp, Reaches, StepsTo, begins, goes, last_reading, loses}
pub use Rattle.core_facts.specs.SlotAnswers.{GoesWith}
pub use Rattle.core_facts.specs.Tries.{IsMade, IsOutstanding, IsUnsent, Tried, unsent}
pub use Rattle.core_session.specs.calls.Sessions.{IsSession}
pub use Rattle.core_session.specs.calls.Whole.{CallsAskedBut, GoesFrom}
pub use Rattle.core_session.specs.current.Read.{IsEnd, IsFound, RecentThen, by_known, by_page, by_reply, in_page, in_reply, pending_in}
pub use Rattle.core_session.specs.current.Recent.{KeepsBriefly}
pub use Rattle.core_session.specs.current.Seen.{IsAged, IsSeen, SeenFrom, WasRegular, shown}
pub use Rattle.core_session.specs.drops.Dropped.{IsDropped, IsOwed, IsPast, NonePast, WasLeft}
pub use Rattle.core_session.specs.drops.Guarded.{IsClose, IsGuarded, IsSaving, file_in, past, removal_in, save_in, slot}
pub use Rattle.core_session.specs.drops.Told.{LetsGo}
pub use Rattle.core_session.specs.order.Altering.{HeardBefore}
pub use Rattle.core_session.specs.saves.Evidence.{MadeStable, WroteByte}
pub use Rattle.core_session.specs.saves.PutsWritten.{AllMadeStable}
pub use Rattle.core_session.specs.settled.Settling.{IsSaved, OnlySetsUp}
pub use Rattle.core_session.specs.syncs.Synced.{MadeAndKept, PutsNamed, WritesCarry}
pub use Rattle.core_session.specs.syncs.Until.{TouchedUntil}
pub use Rattle.file_ops.proofs.SaveCounts.{by-step, ends_as}
pub use Rattle.file_ops.specs.Adding.{is_full}
pub use Rattle.file_ops.specs.Base.{is_whole, nothing_of, place_after}
pub use Rattle.file_ops.specs.Closings.{GivesUpBy, TellsOpen, closed_answer, refusal_of, remove_busy, remove_of}
pub use Rattle.file_ops.specs.Gather.{Gathered}
pub use Rattle.file_ops.specs.Judging.{commit_told, write_told, written_by}
unfoldable pub use Rattle.file_ops.specs.Kept.{offered}
pub use Rattle.file_ops.specs.Opens.{file_to_write}
pub use Rattle.file_ops.specs.Overlaid.{shown_over, was_pending}
pub use Rattle.file_ops.specs.PagesOpened.{PagesOpened, opened_pages}
pub use Rattle.file_ops.specs.Quiet.{is_quiet}
pub use Rattle.file_ops.specs.ReadReply.{breaks_rule, part, refusal, said_by, said_to}
pub use Rattle.file_ops.specs.SlotFiles.{IsUnused, file_at, joined}
pub use Rattle.file_ops.specs.Told.{got_by, made_by}
pub use Rattle.file_ops.specs.declared.close_file.CloseFile.{CloseFile}
pub use Rattle.file_ops.specs.declared.close_file.Closing.{Closing}
pub use Rattle.file_ops.specs.declared.closing.Removal.{Removal}
pub use Rattle.file_ops.specs.declared.gather.Found.{Found}
pub use Rattle.file_ops.specs.declared.open_file.OpenFile.{OpenFile}
pub use Rattle.file_ops.specs.declared.opening.Led.{Led}
pub use Rattle.file_ops.specs.declared.opening.Opening.{Opening}
pub use Rattle.file_ops.specs.declared.opening.OpeningStep.{OpeningStep}
pub use Rattle.file_ops.specs.declared.opening.OpeningPhase.{OpeningPhase}
pub use Rattle.file_ops.specs.declared.put_file.PutFile.{PutFile}
pub use Rattle.file_ops.specs.declared.put_file.Putting.{Putting}
pub use Rattle.file_ops.specs.declared.read_file.ReadFile.{ReadFile}
pub use Rattle.file_ops.specs.declared.reading.Phase.{Phase}
pub use Rattle.file_ops.specs.declared.reading.Reading.{Reading}
pub use Rattle.file_ops.specs.declared.saving.Phase.TheVariants.{Committing, CommittingAgain, Resending, Sending}
pub use Rattle.file_ops.specs.declared.saving.Saving.{Saving}
pub use Rattle.file_ops.specs.declared.sync_file.SyncFile.{SyncFile}
pub use Rattle.file_ops.specs.declared.sync_file.Syncing.{Syncing}
pub use Rattle.file_ops.specs.declared.truncate_file.TruncateFile.{TruncateFile}
pub use Rattle.file_ops.specs.declared.truncate_file.Truncating.{Truncating}
pub use Rattle.file_ops.specs.declared.write_file.WriteFile.{WriteFile}
pub use Rattle.file_ops.specs.declared.write_file.Writing.{Writing}
pub use Rattle.law_calls.specs.Calls.{Numbered}
pub use Rattle.law_own.proofs.OneByte.{writes-byte}
pub use Rattle.law_reads.proofs.KeptBytes.{serves}
pub use Rattle.law_reads.specs.Kept.{HasStamp}
pub use Rattle.law_stable.proofs.OneFileCall.{one_file_call}
pub use Rattle.law_stable.specs.Cut.{CutBy}
pub use Rattle.law_stable.specs.OwnCalls.{NoForeign}
pub use Rattle.name_ops.proofs.Keeps.{walk-takes-kept}
pub use Rattle.name_ops.specs.DirChange.{deed_call}
pub use Rattle.name_ops.specs.Looking.{found_by, look_again}
pub use Rattle.name_ops.specs.Moving.{moved_told}
pub use Rattle.name_ops.specs.Pairs.{walk_of}
pub use Rattle.name_ops.specs.declared.list_dir.ListDir.{ListDir}
pub use Rattle.name_ops.specs.declared.pair.Pair.{Pair}
pub use Rattle.name_ops.specs.declared.remove_file.Deed.{Deed}
pub use Rattle.name_ops.specs.declared.remove_file.Deed.TheVariants.{Look, Move, Seek}
pub use Rattle.name_ops.specs.declared.remove_file.RemoveFile.{RemoveFile}
pub use Rattle.name_ops.specs.declared.stat.Stat.{Stat}
pub use Rattle.name_ops.specs.declared.visit.Visit.{Visit}
pub use Rattle.name_ops.specs.declared.walk.Walk.{Walk}
pub use Rattle.name_ops.specs.declared.walk.WalkStep.{WalkStep}
pub use Rattle.nfs_dir_calls.specs.declared.call.DirCall.{DirCall}
pub use Rattle.nfs_dir_calls.specs.declared.keeping.DirKept.{DirKept}
pub use Rattle.nfs_file_calls.specs.declared.call.FileCall.{FileCall}
pub use Rattle.nfs_file_calls.specs.declared.owned.FileKept.{FileKept}
pub use Rattle.nfs_types.specs.Stamps.{stamp_of}
pub use Rattle.nfs_types.specs.declared.attr.Attr.{Attr}
pub use Rattle.nfs_types.specs.declared.mode.Mode.{Mode}
pub use Rattle.nfs_types.specs.declared.set_attr.SetAttr.{SetAttr}
pub use Rattle.nfs_types.specs.declared.time.Time.{Time}
pub use Rattle.nfs_types.specs.declared.verf.Verf.{Verf}
pub use Rattle.nfs_types.specs.declared.wcc.Stamp.{Stamp}
pub use Rattle.nfs_types.specs.declared.wcc.Wcc.{Wcc}
pub use Rattle.op_machines.proofs.NameLaws.{name-goes-kept, name-takes-kept}
pub use Rattle.op_machines.specs.Begun.{IsAsked, IsNamed, front_of, last_of, machine_of}
pub use Rattle.op_machines.specs.Fits.{Fits}
pub use Rattle.op_machines.specs.Openers.{begun_at, file_of, slot_taken}
pub use Rattle.op_machines.specs.Steps.{Resumes, Starts, Takes}
pub use Rattle.op_machines.specs.declared.begun.Mounted.{Mounted}
pub use Rattle.op_machines.specs.declared.file_machine.FileMachine.{FileMachine}
pub use Rattle.op_machines.specs.declared.machine.Machine.{Machine}
pub use Rattle.op_machines.specs.declared.name_machine.NameMachine.{NameMachine}
pub use Rattle.op_machines.specs.declared.opener.Opener.{Opener}
pub use Rattle.op_machines.specs.declared.path_machine.PathMachine.{PathMachine}
pub use Rattle.open_files.specs.Slots.{IsOpen, Opens, Place}
pub use Rattle.open_files.specs.declared.opened.Opened.{Opened}
pub use Rattle.page_cache.specs.Bytes.{start_of}
pub use Rattle.page_cache.specs.Pages.{Pages, after_page, cut, known_of, page_of, saw, state_of}
pub use Rattle.page_cache.specs.declared.state.FileState.{FileState}
pub use Rattle.rpc_message.specs.Call.{xid_at}
pub use Rattle.rpc_retry.proofs.Lookups.{at_made, at_sent, others_made, others_taken, waits_early}
pub use Rattle.rpc_retry.proofs.Records.{before_failed, before_sent, gone}
pub use Rattle.rpc_retry.specs.Fail.{failed_after}
pub use Rattle.rpc_retry.specs.Held.{next_xid}
pub use Rattle.rpc_retry.specs.Waiting.{made_call, waiting_at, without}
pub use Rattle.rpc_retry.specs.declared.waiting.Waiting.{Waiting}
pub use Rattle.step_pending.proofs.Cutting.{nothing-sound}
pub use Rattle.step_pending.proofs.Shown.{flown-from, some-of}
pub use Rattle.step_pending.specs.Cells.{EachSound}
pub use Rattle.step_saves.specs.Saves.{IsAwaited, IsClearUpTo, IsUnderWay}
pub use Rattle.world_model.proofs.Growth.{Answers-grow, Asked-grow, Asked-wide, FirstSent-grow, Rooted-wide}
pub use Rattle.world_model.proofs.Places.{At-back, At-below, At-cases, At-grow, At-last, At-one, length_last}
pub use Rattle.world_model.specs.Bytes.{resized}
pub use Rattle.world_model.specs.Commits.{commit_call}
pub use Rattle.world_model.specs.Entries.{At}
pub use Rattle.world_model.specs.FileService.{HoldsSized, SetsAttr}
pub use Rattle.world_model.specs.Fresh.{Fresh}
pub use Rattle.world_model.specs.Heard.{Asked, status_of}
pub use Rattle.world_model.specs.History.{History}
pub use Rattle.world_model.specs.LanesTogether.{IsBusy}
pub use Rattle.world_model.specs.Lawful.{Lawful}
pub use Rattle.world_model.specs.Messages.{HasXid, SpellsCall, SpellsCallBy, SpellsReply, proc_of}
pub use Rattle.world_model.specs.Mounts.{Origin, Rooted, info_call}
pub use Rattle.world_model.specs.Once.{Once}
pub use Rattle.world_model.specs.Operations.{AnsweredBefore, Ended, EndsWith, LastReply, UnderWay}
pub use Rattle.world_model.specs.Server.{Bytes, Entries, HasBytes, Holds, Object, Server, Text}
pub use Rattle.world_model.specs.Waiting.{FirstSent, IsDelivered}
pub use Rattle.world_model.specs.declared.answer.Answer.{Answer}
pub use Rattle.world_model.specs.declared.answer.Answer.TheVariants.{Refused}
pub use Rattle.world_model.specs.declared.answer.Fault.{Fault}
pub use Rattle.world_model.specs.declared.answer.Fault.TheVariants.{Memory}
pub use Rattle.world_model.specs.declared.answer.Value.{Value}
pub use Rattle.world_model.specs.declared.entry.Entry.{Entry}
pub use Rattle.world_model.specs.declared.entry.Entry.TheVariants.{Answered, Began, Clock, Delivered, Dialed, Executed, Failed, Flushed, Foreign, Reboot, Sent}
pub use Rattle.world_model.specs.declared.message.Call.{Call}
pub use Rattle.world_model.specs.declared.message.Reply.{Reply}
pub use Rattle.world_model.specs.declared.op.Op.{Op}
pub use Rattle.write_back.proofs.ByPlace.{covered}
pub use Rattle.write_back.proofs.EndAndBytes.{end-some}
pub use Rattle.write_back.proofs.Flying.{flown-some, fly-some}
pub use Rattle.write_back.proofs.Keys.{high-of, low-of}
pub use Rattle.write_back.proofs.WritesByFile.{same-or}
pub use Rattle.write_back.proofs.Xids.{fly-under}
pub use Rattle.write_back.specs.Changes.{lost}
pub use Rattle.write_back.specs.Choice.{chosen, piece_of, with_sent}
pub use Rattle.write_back.specs.Files.{HasNoPiece, IsFree, OnFile, Pending, all_pending, of_file, with_bytes}
pub use Rattle.write_back.specs.Landing.{at_xid, landed, landed_part, with_cut, with_xid}
pub use Rattle.write_back.specs.Numbers.{AllUpTo}
pub use Rattle.write_back.specs.Pieces.{FilePending, Flown, flown_in, fly_at, fly_in, nothing, piece_under, rest_at}
pub use Rattle.write_back.specs.Places.{PutsInFlight}
pub use Rattle.write_back.specs.Segments.{Cell, Segments, byte_of, cell_at, covers, last_end, newest_at}
pub use Rattle.write_back.specs.Sound.{IsOver, IsSound}
pub use Rattle.write_back.specs.States.{is_in_flight}
pub use Rattle.write_back.specs.declared.change.Change.{Change}
