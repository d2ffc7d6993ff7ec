-- What proofs of this crate import from below: one name for each, whatever module has it.
pub use Rattle.std.proofs.Common.{All, Bool, Contains, Err, List, MatchOption, None, Ok, Option, Result, Some, [], ap, append-nil, append_assoc, arith, cond, drop, false, get_or, inl, inr, length, length-append, map, nat_eq, nat_le, not, option_map, position, refl, slice_get, slice_set, subst, suc, sym, take, true, zero, ℕ, ◌%◌, ◌&&◌, ◌*◌, ◌++◌, ◌+◌, ◌-◌, ◌/◌, ◌<◌, ◌==◌, ◌^◌, ◌||◌, ◌∙◌, ◌∷◌, ◌≡◌, ◌≢◌, ◌≤◌, ◌⊎◌}
pub use Rattle.std.proofs.lemmas.Bool.{cases_lt, eq-eqb, eqb-false, eqb-true, le-leb, leb-true, lt-ltb, ltb-false, ltb-true}
pub use Rattle.std.proofs.lemmas.Bool.Decides.{nat_tests}
pub use Rattle.std.proofs.lemmas.List.{length-take}
pub use Rattle.std.proofs.lemmas.List.Elements.{All-cons, All-head, All-nil, All-weaker}
pub use Rattle.std.proofs.lemmas.List.Quantifiers.{position-Some}
pub use Rattle.std.proofs.lemmas.Option.{slice_get-get_or}
pub use Rattle.std.specs.Map.{remove_entry}
pub use Rattle.std.specs.Option.{option_map_or}
pub use Rattle.std.specs.Prelude.{if◌then◌else◌, nat_lt, slice_index}
pub use Rattle.attr_cache.specs.Attrs.{Attrs}
pub use Rattle.call_replies.specs.Says.{Says, said_of}
pub use Rattle.claims.specs.Asks.{AreDifferent, HasBegan, IsWriter, Placed, count_of, most_pending}
pub use Rattle.claims.specs.CallCounts.{Carries, CoversPlace, Few, IsCommitOf, IsReadOf, RepliedAt, StableOf, WriterAt, commit}
pub use Rattle.claims.specs.CallsAsked.{IsCause, IsCaused, NoneBegan, asked, informs, mounts}
pub use Rattle.claims.specs.Modes.{Modes}
pub use Rattle.claims.specs.Slots.{IsOf, PutsTo}
pub use Rattle.claims.specs.Terms.{Terms, most_tries}
pub use Rattle.claims.specs.Thrifty.{CoveredEarlier, MeetsPage, NeverFull, OneLane, read_call}
pub use Rattle.claims.specs.Touched.{WritesByte, Wrote}
pub use Rattle.client_core.specs.Fresh.{IsFresh}
pub use Rattle.client_core.specs.Lanes.{is_busy}
pub use Rattle.client_core.specs.Numbers.{IsIdle, numbers_of}
pub use Rattle.client_core.specs.Steps.{AnswersAt, BeginsIf, IsRefused, Leads, Makes, Refuses, SendsIf, StartsLane, Stirs, TakesAt, counted, moves_more, moves_none, record_of, with_state}
pub use Rattle.client_core.specs.View.{View, turn_at, unmade_turn}
pub use Rattle.client_core.specs.declared.lane.Lane.{Lane}
pub use Rattle.client_core.specs.declared.lane.Purpose.{Purpose}
pub use Rattle.client_core.specs.declared.lane.State.{State}
pub use Rattle.client_core.specs.declared.lane.State.TheVariants.{Busy, Over}
pub use Rattle.client_core.specs.declared.setup.Setup.{Setup}
pub use Rattle.client_shelf.specs.Busy.{fails_busy, goes_again, repeats_after}
pub use Rattle.client_shelf.specs.LaneFiles.{is_first}
pub use Rattle.client_shelf.specs.Repeats.{ended, repeated}
pub use Rattle.client_shelf.specs.declared.lane_files.LaneFile.{LaneFile}
pub use Rattle.client_shelf.specs.declared.step.Step.{Step}
pub use Rattle.client_shelf.specs.declared.step.Step.TheVariants.{Done, Send, Wait}
pub use Rattle.client_shelf.specs.declared.repeats.Repeat.{Repeat}
pub use Rattle.client_shelf.specs.declared.shelf.Shelf.{Shelf}
pub use Rattle.client_shelf.specs.declared.turn.Turn.{Turn}
pub use Rattle.commit_verf.specs.Decisions.{decided, verdict_of}
pub use Rattle.commit_verf.specs.declared.commit.Verdict.{Verdict}
pub use Rattle.commit_verf.specs.declared.commit.Verdict.TheVariants.{AllStable, SendAgain}
pub use Rattle.core_answers.proofs.asks.CallsAwaited.{Expects, expects-laws}
pub use Rattle.core_answers.proofs.asks.ReadSteps.{PhaseAt, ReadAt}
pub use Rattle.core_answers.proofs.asks.ReadsAwaited.{PhaseNames, ReadNames}
pub use Rattle.core_answers.proofs.asks.SavedCalls.{Saves}
pub use Rattle.core_answers.proofs.asks.Sendings.{NoCall, NoShelf, NoStory, no-laws}
pub use Rattle.core_answers.proofs.bonds.OneCall.{IsNfs, one-call}
pub use Rattle.core_answers.proofs.pages.NamePages.{kept-as}
pub use Rattle.core_answers.proofs.pages.PageCalls.{Both}
pub use Rattle.core_answers.proofs.refusals.Fitting.{machine-fits}
pub use Rattle.core_answers.proofs.refusals.SentCalls.{nfs-of}
pub use Rattle.core_answers.proofs.writes.AllFits.{Asks, CallFits, commits_of, fits-laws}
pub use Rattle.core_answers.proofs.writes.Along.{SameCalls, sent-purposes}
pub use Rattle.core_answers.proofs.writes.Backs.{After}
pub use Rattle.core_answers.proofs.writes.CommitsAlone.{tales}
pub use Rattle.core_answers.proofs.writes.OwnPieces.{Free}
pub use Rattle.core_answers.proofs.writes.PiecesCarried.{unused-next, waits-late}
pub use Rattle.core_answers.proofs.writes.Under.{SameUnder}
pub use Rattle.core_answers.specs.pages.Passing.{Passes}
pub use Rattle.core_answers.specs.writes.Alone.{written_file}
pub use Rattle.core_counts.specs.coarse.Fed.{until}
pub use Rattle.core_counts.specs.coarse.FedAttrs.{WasRun}
pub use Rattle.core_counts.specs.coarse.Long.{MakesLong, Stops}
pub use Rattle.core_counts.specs.coarse.Moves.{Hears, Moves}
pub use Rattle.core_counts.specs.coarse.Runs.{Shown, ShownCall, ShownCalls}
pub use Rattle.core_counts.specs.thrift.Writes.{BeganOtherwise, NotAsStable, WaitsPlain}
pub use Rattle.core_facts.proofs.AllCounts.{begins-unbegun, counts-calls}
pub use Rattle.core_facts.proofs.Cases.{FailedNow, SentNow, answered_now, dropped, failed_now, gives_up, goes_on, replied, sent_now, taken_one}
pub use Rattle.core_facts.proofs.Counting.{heard-lost, none-busy}
pub use Rattle.core_facts.proofs.Flights.{Flies, flies_file, flies_if, flies_of, flies_path, flies_put}
pub use Rattle.core_facts.proofs.Flown.{look_at, sender}
pub use Rattle.core_facts.proofs.Hearing.{says-of, was-sent}
pub use Rattle.core_facts.proofs.HeldSlots.{Given, is-given}
pub use Rattle.core_facts.proofs.Keeping.{Known, purpose_at, reached-all, taker-is, taker-one}
pub use Rattle.core_facts.proofs.LaneMarks.{LanesKnown, Runs, idle-numbers, lanes-begin, lanes-stay, lanes-under-way, number_of, quiet-facts}
pub use Rattle.core_facts.proofs.Lists.{at-position, at-push, at-set, get-push, get-remove, skip, to-map}
pub use Rattle.core_facts.proofs.Looks.{look-at}
pub use Rattle.core_facts.proofs.Marks.{answered-grow}
pub use Rattle.core_facts.proofs.Noting.{notes-reach}
pub use Rattle.core_facts.proofs.Orders.{SitsWith}
pub use Rattle.core_facts.proofs.Placing.{LaneLive, keeps-placed}
pub use Rattle.core_facts.proofs.Rows.{Rows, made-asked, made-known, not-sent, reached-rows, rows-grow, rows-stay, same-rows, silent-grow, taken-quiet, taken-rows}
pub use Rattle.core_facts.proofs.Steps.{AskedOf, ThenOf}
pub use Rattle.core_facts.proofs.Stories.{Going, set-other, under-back}
pub use Rattle.core_facts.proofs.Tales.{reached-good}
pub use Rattle.core_facts.proofs.Walks.{starts-stay, steps-stay, stirs-stay}
pub use Rattle.core_facts.specs.InFlight.{Counts, in_flight, of_name, of_phase, of_reading, of_walk, visit_by}
pub use Rattle.core_facts.specs.Lanes.{AreApart}
pub use Rattle.core_facts.specs.Naming.{KnowsRoot}
pub use Rattle.core_facts.specs.Notes.{Notes}
pub use Rattle.core_facts.specs.Reaches.{HearsRecord, IsSetUp, MaySetUp, Reaches, StepsTo, begins, goes, last_reading, loses}
pub use Rattle.core_facts.specs.SlotAnswers.{GoesWith}
pub use Rattle.core_facts.specs.Tries.{IsMade, IsOutstanding, Tried}
pub use Rattle.core_session.proofs.asked.Empty.{IsEmpty}
pub use Rattle.core_session.proofs.asked.Whole.{all-asked}
pub use Rattle.core_session.proofs.calls.GivenBytes.{keeps-bytes}
pub use Rattle.core_session.proofs.calls.Outgoing.{Outgoing}
pub use Rattle.core_session.proofs.calls.Whole.{early-or, session}
pub use Rattle.core_session.proofs.delays.Delays.{Calls, calls-laws}
pub use Rattle.core_session.proofs.delays.Tables.{Each, IsWaiting, count, ended-is}
pub use Rattle.core_session.proofs.delays.TookFiles.{Calm, took-any}
pub use Rattle.core_session.proofs.drops.KnowingAlong.{IsPlain}
pub use Rattle.core_session.proofs.drops.LaneIs.{state-is}
pub use Rattle.core_session.proofs.order.Adds.{FileHas, PathHas, PutHas, StartsHas, TakesHas}
pub use Rattle.core_session.proofs.order.Basis.{Basis, basis-ready, keeps-basis, starts-basis, stirs-basis, takes-basis}
pub use Rattle.core_session.proofs.order.Sounds.{NearAs}
pub use Rattle.core_session.proofs.order.Unmade.{unmade-has}
pub use Rattle.core_session.proofs.room.Entered.{Entered}
pub use Rattle.core_session.proofs.room.Rooms.{Room, reached-room}
pub use Rattle.core_session.proofs.room.Stages.{Stage, stage_of}
pub use Rattle.core_session.proofs.room.Writers.{Elsewhere, all-each, counts-cons, different-apart, each-map}
pub use Rattle.core_session.proofs.saves.HearingAlong.{KeepsHearing, reached-hearing}
pub use Rattle.core_session.proofs.saves.Taking.{sent-piece}
pub use Rattle.core_session.proofs.saves.WholeSteps.{Has, IsSent, Wholly, keeps-wholly, resumes-has, starts-has, starts-wholly, stirs-wholly, takes-has, takes-wholly}
pub use Rattle.core_session.proofs.syncs.AllJobs.{JobBegins, JobHas, JobOpens, job_save}
pub use Rattle.core_session.proofs.syncs.Contents.{Common}
pub use Rattle.core_session.proofs.syncs.Fate.{Story, story-turns}
pub use Rattle.core_session.proofs.syncs.Fates.{job_kind, save-is, take-kind}
pub use Rattle.core_session.proofs.syncs.Jobs.{Job}
pub use Rattle.core_session.proofs.syncs.Levels.{Content, ContentReplies, Owner, SaveSo}
pub use Rattle.core_session.proofs.syncs.Passing.{Tale, told}
pub use Rattle.core_session.proofs.syncs.PutGoes.{own_save}
pub use Rattle.core_session.proofs.syncs.Seen.{ButFor, Owned, bases}
pub use Rattle.core_session.proofs.syncs.Turning.{Turns}
pub use Rattle.core_session.specs.calls.Sessions.{AreAsked, IsSession}
pub use Rattle.core_session.specs.calls.Whole.{GoesFrom}
pub use Rattle.file_ops.proofs.SaveCounts.{by-step, ends_as}
pub use Rattle.file_ops.specs.Adding.{is_full}
pub use Rattle.file_ops.specs.Base.{Bytes, place_after, with_more}
pub use Rattle.file_ops.specs.Closings.{refusal_of, remove_busy}
pub use Rattle.file_ops.specs.Gather.{next_page}
pub use Rattle.file_ops.specs.Judging.{commit_told, write_told}
unfoldable pub use Rattle.file_ops.specs.Kept.{kept_page}
pub use Rattle.file_ops.specs.Opens.{file_to_write}
pub use Rattle.file_ops.specs.ReadReply.{breaks_rule, part, refusal, said_by, said_to}
pub use Rattle.file_ops.specs.Ready.{IsReady}
pub use Rattle.file_ops.specs.SlotFiles.{IsUnused, file_at, joined}
pub use Rattle.file_ops.specs.Told.{got_by}
pub use Rattle.file_ops.specs.declared.close_file.CloseFile.{CloseFile}
pub use Rattle.file_ops.specs.declared.close_file.Closing.{Closing}
pub use Rattle.file_ops.specs.declared.closing.Removal.{Removal}
pub use Rattle.file_ops.specs.declared.gather.Found.{Found}
pub use Rattle.file_ops.specs.declared.opening.Led.{Led}
pub use Rattle.file_ops.specs.declared.opening.Opening.{Opening}
pub use Rattle.file_ops.specs.declared.opening.OpeningStep.{OpeningStep}
pub use Rattle.file_ops.specs.declared.opening.OpeningPhase.{OpeningPhase}
pub use Rattle.file_ops.specs.declared.put_file.PutFile.{PutFile}
pub use Rattle.file_ops.specs.declared.put_file.Putting.{Putting}
pub use Rattle.file_ops.specs.declared.read_file.ReadFile.{ReadFile}
pub use Rattle.file_ops.specs.declared.reading.Phase.{Phase}
pub use Rattle.file_ops.specs.declared.reading.Reading.{Reading}
pub use Rattle.file_ops.specs.declared.saving.Phase.TheVariants.{Committing, CommittingAgain, Resending, Sending}
pub use Rattle.file_ops.specs.declared.saving.Saving.{Saving}
pub use Rattle.file_ops.specs.declared.sync_file.SyncFile.{SyncFile}
pub use Rattle.file_ops.specs.declared.sync_file.Syncing.{Syncing}
pub use Rattle.file_ops.specs.declared.truncate_file.Truncating.{Truncating}
pub use Rattle.file_ops.specs.declared.write_file.Text.{Text}
pub use Rattle.file_ops.specs.declared.write_file.WriteFile.{WriteFile}
pub use Rattle.file_ops.specs.declared.write_file.Writing.{Writing}
pub use Rattle.law_calls.specs.Calls.{Numbered}
pub use Rattle.model_writes.specs.Mirrors.{call_of}
pub use Rattle.name_ops.specs.Access.{access_call}
pub use Rattle.name_ops.specs.DirChange.{deed_call}
pub use Rattle.name_ops.specs.Link.{TakesLink}
pub use Rattle.name_ops.specs.Looking.{found_by, look_again, look_up}
pub use Rattle.name_ops.specs.Moving.{moved_told}
pub use Rattle.name_ops.specs.ReadLink.{TakesText, text_call}
pub use Rattle.name_ops.specs.Rename.{TakesRename}
pub use Rattle.name_ops.specs.Showing.{TakesShow}
pub use Rattle.name_ops.specs.SymLink.{TakesSymLink, sym_link_call}
pub use Rattle.name_ops.specs.declared.link.Link.{Link}
pub use Rattle.name_ops.specs.declared.list_dir.ListDir.{ListDir}
pub use Rattle.name_ops.specs.declared.pair.Pair.{Pair}
pub use Rattle.name_ops.specs.declared.pair.PairStep.{PairStep}
pub use Rattle.name_ops.specs.declared.remove_file.Deed.{Deed}
pub use Rattle.name_ops.specs.declared.remove_file.Deed.TheVariants.{Look, Move, Remove, Seek}
pub use Rattle.name_ops.specs.declared.remove_file.RemoveFile.{RemoveFile}
pub use Rattle.name_ops.specs.declared.rename.Rename.{Rename}
pub use Rattle.name_ops.specs.declared.stat.Stat.{Stat}
pub use Rattle.name_ops.specs.declared.sym_link.SymLink.{SymLink}
pub use Rattle.name_ops.specs.declared.visit.Visit.{Visit}
pub use Rattle.name_ops.specs.declared.walk.Walk.{Walk}
pub use Rattle.name_ops.specs.declared.walk.WalkStep.{WalkStep}
pub use Rattle.nfs_dir_calls.specs.declared.keeping.DirKept.{DirKept}
pub use Rattle.nfs_file_calls.specs.declared.call.FileCall.{FileCall}
pub use Rattle.nfs_file_calls.specs.declared.owned.FileKept.{FileKept}
pub use Rattle.nfs_types.specs.Stamps.{stamp_of}
pub use Rattle.nfs_types.specs.declared.attr.Attr.{Attr}
pub use Rattle.nfs_types.specs.declared.mode.Mode.{Mode}
pub use Rattle.nfs_types.specs.declared.time.Time.{Time}
pub use Rattle.nfs_types.specs.declared.verf.Verf.{Verf}
pub use Rattle.nfs_types.specs.declared.wcc.Stamp.{Stamp}
pub use Rattle.nfs_types.specs.declared.wcc.Wcc.{Wcc}
pub use Rattle.op_machines.specs.Begun.{IsAsked, front_of, last_of, machine_of, put_of}
pub use Rattle.op_machines.specs.Fits.{Fits}
pub use Rattle.op_machines.specs.Openers.{begun_at, file_of, slot_taken}
pub use Rattle.op_machines.specs.Steps.{Resumes, Starts, Takes}
pub use Rattle.op_machines.specs.declared.begun.Mounted.{Mounted}
pub use Rattle.op_machines.specs.declared.file_machine.FileMachine.{FileMachine}
pub use Rattle.op_machines.specs.declared.machine.Machine.{Machine}
pub use Rattle.op_machines.specs.declared.name_machine.NameMachine.{NameMachine}
pub use Rattle.op_machines.specs.declared.opener.Opener.{Opener}
pub use Rattle.op_machines.specs.declared.path_machine.PathMachine.{PathMachine}
pub use Rattle.open_files.specs.Slots.{Opens}
pub use Rattle.open_files.specs.declared.opened.Opened.{Opened}
pub use Rattle.page_cache.proofs.Inserts.{same-self}
pub use Rattle.page_cache.specs.Bytes.{start_of}
pub use Rattle.page_cache.specs.Pages.{Pages, after_keep, after_page, fronted, is_place, keep_answer, known_of, page_of, saw, state_of}
pub use Rattle.page_cache.specs.declared.place.PagePlace.{PagePlace}
pub use Rattle.page_cache.specs.declared.state.FileState.{FileState}
pub use Rattle.page_cache.specs.declared.state.Keep.{Keep}
pub use Rattle.page_cache.specs.declared.state.Keep.TheVariants.{Differs, Kept, Stale}
pub use Rattle.rpc_message.specs.Call.{xid_at}
pub use Rattle.rpc_message.specs.Reply.{Accepted}
pub use Rattle.rpc_retry.proofs.Lookups.{at_made, at_sent, others_made, others_taken, waits_early}
pub use Rattle.rpc_retry.proofs.Records.{before_sent, gone}
pub use Rattle.rpc_retry.specs.Fail.{failed_after}
pub use Rattle.rpc_retry.specs.Held.{Held, next_xid}
pub use Rattle.rpc_retry.specs.Sound.{AreSound}
pub use Rattle.rpc_retry.specs.Take.{awaited}
pub use Rattle.rpc_retry.specs.Waiting.{made_call, waiting_at, without}
pub use Rattle.rpc_retry.specs.declared.waiting.Waiting.{Waiting}
pub use Rattle.step_pending.proofs.Leading.{if-false, if-true}
pub use Rattle.step_pending.specs.Cells.{EachSound, Shows}
pub use Rattle.step_saves.specs.Saves.{IsAwaited, IsUnderWay}
pub use Rattle.world_model.proofs.Growth.{FirstSent-grow, Rooted-wide}
pub use Rattle.world_model.proofs.Places.{At-back, At-below, At-cases, At-grow, At-last, At-one, length_last}
pub use Rattle.world_model.specs.Chains.{list_call}
pub use Rattle.world_model.specs.Entries.{At}
pub use Rattle.world_model.specs.Heard.{Heard}
pub use Rattle.world_model.specs.History.{History}
pub use Rattle.world_model.specs.LanesTogether.{IsBusy}
pub use Rattle.world_model.specs.Lawful.{Lawful}
pub use Rattle.world_model.specs.Messages.{HasXid, SpellsCall, SpellsCallBy, SpellsReply, head_of, proc_of}
pub use Rattle.world_model.specs.Mounts.{Rooted, info_call, mount_call}
pub use Rattle.world_model.specs.Operations.{AnsweredBefore, EndsAt, UnderWay}
pub use Rattle.world_model.specs.Waiting.{FirstSent}
pub use Rattle.world_model.specs.declared.answer.Answer.{Answer}
pub use Rattle.world_model.specs.declared.answer.Fault.{Fault}
pub use Rattle.world_model.specs.declared.answer.Fault.TheVariants.{Memory}
pub use Rattle.world_model.specs.declared.answer.Value.{Value}
pub use Rattle.world_model.specs.declared.entry.Entry.{Entry}
pub use Rattle.world_model.specs.declared.entry.Entry.TheVariants.{Answered, Began, Clock, Delivered, Dialed, Executed, Failed, Flushed, Foreign, Reboot, Sent}
pub use Rattle.world_model.specs.declared.message.Call.{Call}
pub use Rattle.world_model.specs.declared.message.Reply.{Reply}
pub use Rattle.world_model.specs.declared.op.Op.{Op}
pub use Rattle.write_back.proofs.Keys.{high-of, low-of}
pub use Rattle.write_back.proofs.Landings.{answer-acked, answer-return}
pub use Rattle.write_back.proofs.Replying.{lands-one-at}
pub use Rattle.write_back.proofs.SendsOn.{puts-with}
pub use Rattle.write_back.proofs.Taking.{under-own}
pub use Rattle.write_back.proofs.WritesByFile.{same-or}
pub use Rattle.write_back.proofs.Xids.{renumbers-so}
pub use Rattle.write_back.specs.Changes.{fate, lost}
pub use Rattle.write_back.specs.Choice.{chosen, piece_of}
pub use Rattle.write_back.specs.Effects.{IsAnswer}
pub use Rattle.write_back.specs.Files.{HasNoPiece, IsNewest, OnFile, Pending, all_pending, of_file, with_bytes}
pub use Rattle.write_back.specs.Landing.{acked_by, at_piece, at_xid, landed, landed_part, with_cut, with_xid}
pub use Rattle.write_back.specs.Pieces.{FilePending, Flown, flown_in, fly_at, fly_in, nothing, piece_under, rest_at, rest_of}
pub use Rattle.write_back.specs.Places.{Lands, PutsBytes, PutsInFlight, cell_landed, newer_or}
pub use Rattle.write_back.specs.Segments.{Cell, Segment, Segments, cell_at, cell_in, covers, last_end}
pub use Rattle.write_back.specs.Sound.{IsSound}
pub use Rattle.write_back.specs.States.{how_of, is_in_flight, is_ready, ready_of}
pub use Rattle.write_back.specs.Waits.{flown_as_of}
pub use Rattle.write_back.specs.declared.change.Change.{Change}
pub use Rattle.write_back.specs.declared.state.Ready.{Ready}
pub use Rattle.write_back.specs.declared.state.Ready.TheVariants.{Unsent}
pub use Rattle.write_back.specs.declared.state.State.TheVariants.{Acked, InFlight}
