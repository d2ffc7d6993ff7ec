-- What proofs of this crate import from below: one name for each, whatever module has it.
pub use Rattle.std.proofs.Common.{Bool, Contains, Err, List, MatchOption, None, Ok, Option, Result, Some, [], ap, append_assoc, arith, cond, drop, false, filter, inl, inr, length, map, max, nat_eq, nat_le, not, option_map, position, refl, slice_get, slice_set, subst, suc, sym, take, true, zero, ℕ, ◌%◌, ◌&&◌, ◌++◌, ◌+◌, ◌-◌, ◌/◌, ◌<◌, ◌==◌, ◌||◌, ◌∙◌, ◌∷◌, ◌≡◌, ◌≢◌, ◌≤◌, ◌⊎◌}
pub use Rattle.std.proofs.lemmas.Bool.{cases_lt, eq-eqb, eqb-false, eqb-true}
pub use Rattle.std.proofs.lemmas.Bool.Decides.{nat_tests}
pub use Rattle.std.proofs.lemmas.List.{length-append, map-append}
pub use Rattle.std.proofs.lemmas.List.Elements.{All-nil, filter-append}
pub use Rattle.std.specs.Prelude.{if◌then◌else◌, nat_lt, unwrap_or}
pub use Rattle.attr_cache.specs.Attrs.{Attrs, looked}
pub use Rattle.attr_cache.specs.declared.kept.KeptAttr.{KeptAttr}
pub use Rattle.call_replies.specs.Says.{said_of}
pub use Rattle.claims.specs.Asks.{Asks, Stabilizes, look_up}
pub use Rattle.claims.specs.Modes.{Modes}
pub use Rattle.claims.specs.Paths.{PlaceOf}
pub use Rattle.claims.specs.RefusalRows.{RefusalRow}
pub use Rattle.claims.specs.Shown.{of_object}
pub use Rattle.claims.specs.Slots.{IsOf, NamesFile}
pub use Rattle.claims.specs.Terms.{Terms}
pub use Rattle.client_core.specs.Fresh.{IsFresh}
pub use Rattle.client_core.specs.Lanes.{is_busy}
pub use Rattle.client_core.specs.Numbers.{IsIdle, numbers_of}
pub use Rattle.client_core.specs.Steps.{BeginsIf, IsRefused, Leads, Makes, Moves, StartsLane, Stirs, TakesAt, counted, moves_more, moves_none, record_of, with_state}
pub use Rattle.client_core.specs.View.{View, turn_at, unmade_turn}
pub use Rattle.client_core.specs.declared.lane.Lane.{Lane}
pub use Rattle.client_core.specs.declared.lane.Purpose.{Purpose}
pub use Rattle.client_core.specs.declared.lane.State.{State}
pub use Rattle.client_core.specs.declared.lane.State.TheVariants.{Busy, Over}
pub use Rattle.client_core.specs.declared.setup.Setup.{Setup}
pub use Rattle.client_shelf.specs.Busy.{fails_busy, goes_again}
pub use Rattle.client_shelf.specs.LaneFiles.{is_first, left}
pub use Rattle.client_shelf.specs.declared.lane_files.LaneFile.{LaneFile}
pub use Rattle.client_shelf.specs.declared.step.Step.{Step}
pub use Rattle.client_shelf.specs.declared.step.Step.TheVariants.{Done, Send, Wait}
pub use Rattle.client_shelf.specs.declared.repeats.Repeat.{Repeat}
pub use Rattle.client_shelf.specs.declared.shelf.Shelf.{Shelf}
pub use Rattle.client_shelf.specs.declared.turn.Turn.{Turn}
pub use Rattle.commit_verf.specs.Decisions.{verdict_of}
pub use Rattle.commit_verf.specs.declared.commit.Verdict.{Verdict}
pub use Rattle.commit_verf.specs.declared.commit.Verdict.TheVariants.{AllStable, SendAgain}
pub use Rattle.core_answers.specs.bonds.Ages.{IsRecent, ShownRecently, own, time_next}
pub use Rattle.core_answers.specs.bonds.Kept.{HadShown, IsAnswered}
pub use Rattle.core_answers.specs.pages.Kept.{IsPage, WasCut, WasRead, WasWritten}
pub use Rattle.core_answers.specs.pages.Passing.{Passes}
pub use Rattle.core_answers.specs.pages.Read.{IsShown}
pub use Rattle.core_answers.specs.writes.Carried.{write_of}
pub use Rattle.core_facts.proofs.AllAwaited.{Awaits, PathOr, PutAwaits, awaits-laws}
pub use Rattle.core_facts.proofs.AllCounts.{begins-unbegun, counts-calls, of_path, path-file, path-walk}
pub use Rattle.core_facts.proofs.Answered.{HadStory}
pub use Rattle.core_facts.proofs.Awaited.{OwnOr, WalkAwaits, WalkMoves, go-step, took-step}
pub use Rattle.core_facts.proofs.Cases.{FailedNow, Heard, answered_now, dropped, failed_now, gives_up, goes_on, replied, sent_now, taken_one}
pub use Rattle.core_facts.proofs.Counting.{calls-some, hears-count, reached-count, starts-count, stirs-count}
pub use Rattle.core_facts.proofs.Expects.{ExpectLaws}
pub use Rattle.core_facts.proofs.Faults.{FineAnswer, FineNext, FineOption, FineResult, fine-as, fine-fault}
pub use Rattle.core_facts.proofs.FilesKept.{all-resumes, all-starts, all-takes}
pub use Rattle.core_facts.proofs.Flights.{Flies, flies_close, flies_file, flies_if, flies_of, flies_path, flies_put, flies_save, flies_sync, flies_write}
pub use Rattle.core_facts.proofs.Flown.{Flown, keeps-flown, look_at, sender}
pub use Rattle.core_facts.proofs.HeldSlots.{Given, Held, always-later, held-begins, held-later, is-given}
pub use Rattle.core_facts.proofs.Keeping.{Known, purpose_at, reached-all}
pub use Rattle.core_facts.proofs.LaneMarks.{LanesKnown, lanes-begin, lanes-stay, lanes-under-way, quiet-facts}
pub use Rattle.core_facts.proofs.Leading.{IsHeard, IsNameTold, LeadsTo, NamesTold, WalkLeads, end-leads, go-leads, heard-tells, leads-from, leads-later, names-later, took-leads, walk-later}
pub use Rattle.core_facts.proofs.Lists.{at-push, at-set, get-push, get-remove, skip}
pub use Rattle.core_facts.proofs.NameCounts.{Plain, walk-takes}
pub use Rattle.core_facts.proofs.NamesAwaited.{RemoveAwaits}
pub use Rattle.core_facts.proofs.NamesKept.{Told}
pub use Rattle.core_facts.proofs.OneCallStory.{ends-later, ends-until, front-last}
pub use Rattle.core_facts.proofs.OneCalls.{VisitStory, then-as}
pub use Rattle.core_facts.proofs.OpenStory.{IsFileOf, OpeningStory, StepStory, has_to}
pub use Rattle.core_facts.proofs.Passing.{Anything, forget, passes-any}
pub use Rattle.core_facts.proofs.Rows.{Rows, made-asked, made-known, not-sent, reached-rows, rows-grow, rows-stay, same-rows, silent-grow, taken-quiet, taken-rows}
pub use Rattle.core_facts.proofs.SaveCommits.{goes-steps, takes-steps}
pub use Rattle.core_facts.proofs.Steps.{AskedOf, KeptOf, ThenOf}
pub use Rattle.core_facts.proofs.Stories.{by-place, good-over, set-other}
pub use Rattle.core_facts.proofs.Tales.{IsTold, TaleLaws, reached-good}
pub use Rattle.core_facts.proofs.Telling.{AsksFor, Did, IsQuiet}
pub use Rattle.core_facts.proofs.Walks.{Stays, begins-stay, hears-for-stay, starts-stay, steps-stay, stirs-stay}
pub use Rattle.core_facts.specs.Counted.{calls_for}
pub use Rattle.core_facts.specs.InFlight.{Counts, IsCounted, IsUnbegun, in_flight, of_closing, of_name, of_opening, of_phase, of_putting, of_reading, of_saving, of_syncing, of_truncating, of_walk, of_writing, own_or, removal_by, visit_by}
pub use Rattle.core_facts.specs.Naming.{KnowsRoot}
pub use Rattle.core_facts.specs.Reaches.{Reaches, StepsTo, begins, goes, last_reading, loses}
pub use Rattle.core_facts.specs.Tries.{IsMade, IsOutstanding}
pub use Rattle.dir_list.specs.Listings.{last_cookie}
unfoldable pub use Rattle.dir_list.specs.Listings.{listing_limit, page_step}
pub use Rattle.dir_list.specs.declared.progress.ListFault.{ListFault}
pub use Rattle.dir_list.specs.declared.progress.ListStep.{ListStep}
pub use Rattle.dir_list.specs.declared.progress.ListStep.TheVariants.{End, More}
pub use Rattle.file_ops.proofs.SaveCounts.{by-step, ends_as}
pub use Rattle.file_ops.specs.Adding.{is_full}
pub use Rattle.file_ops.specs.Base.{Bytes, nothing_of, place_after}
pub use Rattle.file_ops.specs.Closings.{closed_answer, refusal_of, remove_busy, remove_of}
pub use Rattle.file_ops.specs.Judging.{commit_told, write_told, write_told_by, written_by}
pub use Rattle.file_ops.specs.Opens.{file_to_write, in_mode, of_open}
pub use Rattle.file_ops.specs.ReadReply.{Said, breaks_rule, part, refusal, said_to}
pub use Rattle.file_ops.specs.SlotFiles.{IsUnused, file_at, joined}
pub use Rattle.file_ops.specs.Told.{got_by}
pub use Rattle.file_ops.specs.WriteFile.{made_bytes}
pub use Rattle.file_ops.specs.declared.close_file.CloseFile.{CloseFile}
pub use Rattle.file_ops.specs.declared.close_file.Closing.{Closing}
pub use Rattle.file_ops.specs.declared.closing.Removal.{Removal}
pub use Rattle.file_ops.specs.declared.open_file.OpenFile.{OpenFile}
pub use Rattle.file_ops.specs.declared.opening.Led.{Led}
pub use Rattle.file_ops.specs.declared.opening.Opening.{Opening}
pub use Rattle.file_ops.specs.declared.opening.OpeningStep.{OpeningStep}
pub use Rattle.file_ops.specs.declared.opening.OpeningPhase.{OpeningPhase}
pub use Rattle.file_ops.specs.declared.put_file.PutFile.{PutFile}
pub use Rattle.file_ops.specs.declared.put_file.Putting.{Putting}
pub use Rattle.file_ops.specs.declared.read_file.ReadFile.{ReadFile}
pub use Rattle.file_ops.specs.declared.reading.Phase.{Phase}
pub use Rattle.file_ops.specs.declared.reading.Reading.{Reading}
pub use Rattle.file_ops.specs.declared.saving.Phase.TheVariants.{Committing, CommittingAgain, Resending, Sending}
pub use Rattle.file_ops.specs.declared.saving.Saving.{Saving}
pub use Rattle.file_ops.specs.declared.sync_file.SyncFile.{SyncFile}
pub use Rattle.file_ops.specs.declared.sync_file.Syncing.{Syncing}
pub use Rattle.file_ops.specs.declared.truncate_file.TruncateFile.{TruncateFile}
pub use Rattle.file_ops.specs.declared.truncate_file.Truncating.{Truncating}
pub use Rattle.file_ops.specs.declared.write_file.WriteFile.{WriteFile}
pub use Rattle.file_ops.specs.declared.write_file.Writing.{Writing}
pub use Rattle.law_calls.specs.Calls.{Numbered}
pub use Rattle.name_ops.specs.Access.{access_attr, access_call, access_told}
pub use Rattle.name_ops.specs.DirChange.{deed_call, deed_told}
pub use Rattle.name_ops.specs.Link.{TakesLink, link_call, linked_told}
pub use Rattle.name_ops.specs.Looking.{found_by, look_again}
pub use Rattle.name_ops.specs.Moving.{moved_told}
pub use Rattle.name_ops.specs.Pairs.{walk_of}
pub use Rattle.name_ops.specs.ReadLink.{TakesText, text_call}
pub use Rattle.name_ops.specs.Rename.{TakesRename, rename_call}
pub use Rattle.name_ops.specs.Showing.{TakesShow, shown_answer}
pub use Rattle.name_ops.specs.SymLink.{ChangesByCopy, TakesSymLink, lacking, sym_link_call, sym_linked_told}
pub use Rattle.name_ops.specs.declared.dir_change.DirDeed.{DirDeed}
pub use Rattle.name_ops.specs.declared.link.Link.{Link}
pub use Rattle.name_ops.specs.declared.list_dir.ListDir.{ListDir}
pub use Rattle.name_ops.specs.declared.pair.Pair.{Pair}
pub use Rattle.name_ops.specs.declared.pair.PairStep.{PairStep}
pub use Rattle.name_ops.specs.declared.remove_file.Deed.{Deed}
pub use Rattle.name_ops.specs.declared.remove_file.Deed.TheVariants.{Look, Move, Remove, Seek}
pub use Rattle.name_ops.specs.declared.remove_file.RemoveFile.{RemoveFile}
pub use Rattle.name_ops.specs.declared.rename.Rename.{Rename}
pub use Rattle.name_ops.specs.declared.stat.Stat.{Stat}
pub use Rattle.name_ops.specs.declared.sym_link.SymLink.{SymLink}
pub use Rattle.name_ops.specs.declared.visit.Visit.{Visit}
pub use Rattle.name_ops.specs.declared.visit.VisitStep.{VisitStep}
pub use Rattle.name_ops.specs.declared.walk.Walk.{Walk}
pub use Rattle.name_ops.specs.declared.walk.WalkStep.{WalkStep}
pub use Rattle.nfs_dir_calls.specs.declared.keeping.DirKept.{DirKept}
pub use Rattle.nfs_dir_calls.specs.declared.keeping.DirKept.TheVariants.{Lookup}
pub use Rattle.nfs_dir_calls.specs.declared.plus_page.PlusRow.{PlusRow}
pub use Rattle.nfs_file_calls.specs.declared.call.FileCall.{FileCall}
pub use Rattle.nfs_file_calls.specs.declared.owned.FileKept.{FileKept}
pub use Rattle.nfs_types.specs.Stamps.{stamp_of}
pub use Rattle.nfs_types.specs.declared.attr.Attr.{Attr}
pub use Rattle.nfs_types.specs.declared.mode.Mode.{Mode}
pub use Rattle.nfs_types.specs.declared.verf.Verf.{Verf}
pub use Rattle.nfs_types.specs.declared.wcc.Stamp.{Stamp}
pub use Rattle.nfs_types.specs.declared.wcc.Wcc.{Wcc}
pub use Rattle.op_machines.specs.Begun.{IsNamed, front_of, last_of, machine_of}
pub use Rattle.op_machines.specs.Openers.{begun_at, file_of, placed, slot_taken}
pub use Rattle.op_machines.specs.Steps.{Resumes, Starts, Takes}
pub use Rattle.op_machines.specs.declared.begun.Mounted.{Mounted}
pub use Rattle.op_machines.specs.declared.file_machine.FileMachine.{FileMachine}
pub use Rattle.op_machines.specs.declared.machine.Machine.{Machine}
pub use Rattle.op_machines.specs.declared.name_machine.NameMachine.{NameMachine}
pub use Rattle.op_machines.specs.declared.opener.Opener.{Opener}
pub use Rattle.op_machines.specs.declared.path_machine.PathMachine.{PathMachine}
pub use Rattle.open_files.specs.Slots.{Opens}
pub use Rattle.open_files.specs.declared.opened.Opened.{Opened}
pub use Rattle.page_cache.specs.Bytes.{start_of}
pub use Rattle.page_cache.specs.Pages.{Pages, after_page, known_of, page_of}
pub use Rattle.rpc_message.specs.Call.{xid_at}
pub use Rattle.rpc_retry.proofs.Lookups.{at_made, others_made, others_taken, waits_early}
pub use Rattle.rpc_retry.proofs.Records.{before_failed, before_sent, gone}
pub use Rattle.rpc_retry.specs.Fail.{failed_after}
pub use Rattle.rpc_retry.specs.Held.{next_xid}
pub use Rattle.rpc_retry.specs.Records.{WaitedAs}
pub use Rattle.rpc_retry.specs.Waiting.{made_call, waiting_at, without}
pub use Rattle.rpc_retry.specs.declared.waiting.Waiting.{Waiting}
pub use Rattle.world_model.proofs.Growth.{Asked-grow, Asked-wide, Heard-wide, Rooted-wide}
pub use Rattle.world_model.proofs.Places.{At-back, At-below, At-cases, At-grow, At-last, At-one, length_last}
pub use Rattle.world_model.specs.Chains.{LastCookie, list_call, names_of, page_reply}
pub use Rattle.world_model.specs.Entries.{At}
pub use Rattle.world_model.specs.Fresh.{Fresh}
pub use Rattle.world_model.specs.Heard.{Asked}
pub use Rattle.world_model.specs.History.{History}
pub use Rattle.world_model.specs.Lawful.{Lawful}
pub use Rattle.world_model.specs.Lost.{IsLost}
pub use Rattle.world_model.specs.Messages.{HasXid, SpellsCall, SpellsCallBy, SpellsReply, proc_of, program_of}
pub use Rattle.world_model.specs.Mounts.{Rooted}
pub use Rattle.world_model.specs.Operations.{Ended, EndsWith, UnderWay}
pub use Rattle.world_model.specs.Waiting.{IsDelivered}
pub use Rattle.world_model.specs.declared.answer.Answer.{Answer}
pub use Rattle.world_model.specs.declared.answer.Answer.TheVariants.{Refused}
pub use Rattle.world_model.specs.declared.answer.Fault.{Fault}
pub use Rattle.world_model.specs.declared.answer.Fault.TheVariants.{Memory}
pub use Rattle.world_model.specs.declared.answer.Value.{Value}
pub use Rattle.world_model.specs.declared.entry.Entry.{Entry}
pub use Rattle.world_model.specs.declared.entry.Entry.TheVariants.{Answered, Began, Clock, Delivered, Dialed, Executed, Failed, Flushed, Foreign, Reboot}
pub use Rattle.world_model.specs.declared.message.Call.{Call}
pub use Rattle.world_model.specs.declared.message.Reply.{Reply}
pub use Rattle.world_model.specs.declared.op.Op.{Op}
pub use Rattle.write_back.proofs.WritesByFile.{same-or}
pub use Rattle.write_back.specs.Changes.{lost}
pub use Rattle.write_back.specs.Choice.{chosen, piece_of, with_sent}
pub use Rattle.write_back.specs.Files.{OnFile, Pending, of_file}
pub use Rattle.write_back.specs.Landing.{with_xid}
pub use Rattle.write_back.specs.Pieces.{FilePending, Sent, nothing, piece_under, renumbered}
pub use Rattle.write_back.specs.Segments.{Segments, last_end}
