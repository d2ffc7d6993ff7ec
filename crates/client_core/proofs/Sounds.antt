-- What every step needs stays where a record is given.
use Rattle.std.proofs.Common.{◌≡◌, ◌≤◌, ◌<◌, ◌+◌, ◌*◌, ◌^◌, ◌∷◌, [], ℕ, List, length, Bool, true, false, Option, Some, None, MatchOption, All, position, get_or, refl, sym, ap, subst, ◌∙◌, ◌⊎◌, inl, inr, arith}
use Rattle.std.specs.Prelude.{if◌then◌else◌, Contains, remove}
use Rattle.std.proofs.lemmas.List.{length-map}
use Rattle.std.proofs.lemmas.List.Elements.{All-map, All-weaker}
use Rattle.rpc_retry.specs.Held.{Held, next_xid}
use Rattle.rpc_retry.specs.declared.waiting.Waiting.{Waiting}
use Rattle.rpc_retry.specs.Waiting.{sent, sent_call, failed_call, first_given_up}
use Rattle.rpc_retry.specs.Fail.{after_failure, failed_after}
use Rattle.world_model.specs.declared.answer.Answer.{Answer}
use Rattle.write_back.specs.Files.{Pending}
use Rattle.client_shelf.specs.Spelling.{AreSpellable}
use Rattle.file_ops.specs.Ready.{IsReady}
use Rattle.file_ops.proofs.Fewer.{none-in}
use Rattle.client_core.specs.declared.lane.Lane.{Lane}
use Rattle.client_core.specs.declared.lane.Purpose.{Purpose}
use Rattle.client_core.specs.declared.lane.State.{State}
use Rattle.client_core.specs.declared.lane.State.TheVariants.{Busy, Over}
use Rattle.client_core.specs.declared.setup.Setup.{Setup}
use Rattle.client_core.specs.Fresh.{AreSizes, IsFresh}
use Rattle.client_core.specs.Lanes.{StateFits, LaneFits, is_over, lost_lane, lost_state}
use Rattle.client_core.specs.View.{View, IsBound, IsSound}
use Rattle.client_core.specs.Steps.{Gives, SendsIf, SendsBy, AnswersAt, AnswersBy, FailsAs, FailsBy, failed_view, lost}
use Rattle.client_core.specs.Numbers.{AreLanes}
use Rattle.client_core.proofs.Numbers.{removed-lanes, lost-lanes}
use Rattle.client_core.proofs.Places.{lane_of, found-over, all-remove}

-- as many calls wait as before
pub sent-length : (calls : List (ℕ × Waiting Purpose)) → length (sent calls) ≡ length calls
sent-length [] = refl
sent-length (e ∷ es) = by e.1.due (sent-length es)
  where
    by : (b : Bool) → length (sent es) ≡ length es → length (if b then (e.0, sent_call e.1) ∷ es else e ∷ sent es) ≡ length (e ∷ es)
    by true rest = refl
    by false rest = omega (arith, rest)

gives-sound : (old new : View) (result : Option (List ℕ)) → Gives old result new → IsSound old → IsSound new
gives-sound old new result g s =
    let b = s.bound in
    subst IsSound (sym g.is) (record {
      bound = record {
        size = b.size;
        most = b.most;
        spells = b.spells;
        seq = b.seq;
        moments = let same = sent-length old.calls.calls in let all = b.moments in omega (arith, same, all);
        begun = b.begun;
        lanes = b.lanes;
        fits = b.fits;
      };
      ready = s.ready;
    })

pub sends-sound : (old new : View) (result : Option (List ℕ)) → SendsBy old result new → IsSound old → IsSound new
sends-sound old new result g s = by old.lost g
  where
    by : (b : Bool) → SendsIf b old result new → IsSound new
    by true g = subst IsSound (sym g.1) s
    by false g = gives-sound old new result g s

-- ---- an answer that is fetched, a loss, a failure

same-sound : (old new : View) → new ≡ old → IsSound old → IsSound new
same-sound old new is s = subst IsSound (sym is) s

pub answers-sound : (old new : View) (number : ℕ) (result : Option Answer) → AnswersBy old number result new → IsSound old → IsSound new
answers-sound old new number result answers s = by (position (is_over number) old.lanes) answers
  where
    by : (o : Option ℕ) → MatchOption o ((result ≡ None) × (new ≡ old)) (λ at. AnswersAt old at number result new) → IsSound new
    by None a = same-sound old new a.1 s
    by (Some at) a =
        let b = s.bound in
        subst IsSound (sym a.is) (record {
          bound = record {
            size = b.size;
            most = b.most;
            spells = b.spells;
            seq = b.seq;
            moments = b.moments;
            begun = b.begun;
            lanes = removed-lanes old.lanes at b.lanes;
            fits = all-remove LaneFits old.lanes at b.fits;
          };
          ready = s.ready;
        })

lost-state-fits : (state : State) → StateFits (lost_state state)
lost-state-fits (Busy machine) = tt
lost-state-fits (Over answer) = tt

pub lost-sound : (v : View) → IsSound v → IsSound (lost v)
lost-sound v s =
    let b = s.bound in
    record {
      bound = record {
        size = b.size;
        most = b.most;
        spells = b.spells;
        seq = b.seq;
        moments = b.moments;
        begun = b.begun;
        lanes = lost-lanes v.lanes b.lanes;
        fits = All-map LaneFits lost_lane v.lanes (All-weaker LaneFits (λ lane. LaneFits (lost_lane lane)) (λ lane fits. lost-state-fits lane.state) v.lanes b.fits);
      };
      ready = s.ready;
    }

pub failure-length : (calls : List (ℕ × Waiting Purpose)) → length (after_failure calls) ≡ length calls
failure-length calls = by (first_given_up calls)
  where
    by : (o : Option ℕ) → length (failed_after o calls) ≡ length calls
    by None = length-map calls (λ e. (e.0, failed_call true e.1))
    by (Some xid) = length-map calls (λ e. (e.0, failed_call false e.1))

failed-sound : (v : View) → IsSound v → IsSound (failed_view v)
failed-sound v s =
    let b = s.bound in
    let same = failure-length v.calls.calls in
    record {
      bound = record {
        size = b.size;
        most = b.most;
        spells = b.spells;
        seq = b.seq;
        moments = let all = b.moments in omega (arith, all, same);
        begun = b.begun;
        lanes = b.lanes;
        fits = b.fits;
      };
      ready = s.ready;
    }

pub fails-sound : (old new : View) (result : Bool) → FailsBy old result new → IsSound old → IsSound new
fails-sound old new result fails s = by (first_given_up old.calls.calls) fails
  where
    by : (o : Option ℕ) → FailsAs o old result new → IsSound new
    by None f = same-sound (failed_view old) new f.1 (failed-sound old s)
    by (Some xid) f = same-sound (lost (failed_view old)) new f.1 (lost-sound (failed_view old) (failed-sound old s))

-- ---- a core that begins

no-numbers : (n x : ℕ) → Contains [] x → x < n
no-numbers n x c = absurd (none-in x c)

pub fresh-sound : (setup : Setup) (v : View) → 1 ≤ setup.first_xid → AreSizes setup → IsFresh setup v → IsSound v
fresh-sound setup v first sizes f =
    let calls = f.calls in
    let made : v.calls.made ≡ 0 = ap (λ h. h.made) calls in
    let waiting : length v.calls.calls ≡ 0 = ap (λ h. length h.calls) calls in
    let xid : next_xid v.calls ≡ setup.first_xid + 0 = ap (λ (h : Held Purpose). next_xid h) calls in
    let seq = f.seq in
    let begun = f.begun in
    let moments = f.moments in
    let size = f.wsize in
    let least = sizes.write in
    let most = sizes.most_write in
    record {
      bound = record {
        size = omega (arith, size, least);
        most = omega (arith, size, most);
        spells = subst AreSpellable (sym f.back) (λ file. tt);
        seq = omega (arith, seq, moments);
        moments = omega (arith, moments, waiting, begun);
        begun = omega (arith, begun);
        lanes = subst AreLanes (sym f.lanes) (record { once = tt; each = tt });
        fits = subst (λ (ls : List Lane). All LaneFits ls) (sym f.lanes) (λ k d lt. absurd (omega (arith, lt)));
      };
      ready = subst (λ (back : Pending). IsReady (next_xid v.calls) v.shelf.seq back) (sym f.back) (record {
        first = omega (arith, xid, first);
        numbers = λ file n c. no-numbers (v.shelf.seq + 1) n c;
        xids = λ other free file. refl;
      });
    }

-- ---- the answer of a lane

pub answers-at : (v new : View) (number at : ℕ) (lane : Lane) (answer : Answer) → position (is_over number) v.lanes ≡ Some at → lane ≡ get_or v.lanes at lane → lane.state ≡ Over answer → new ≡ record v { lanes = remove v.lanes at } → AnswersBy v number (Some answer) new
answers-at v new number at lane answer found read over is =
    let has = found-over v.lanes number at lane found read in
    rw found (record { answer = answer; there = has.there ∙ ap (λ (s : State). Some (lane_of number s)) (sym has.is ∙ over); gives = refl; is = is })

pub not-over : (v : View) (number at : ℕ) (lane : Lane) → position (is_over number) v.lanes ≡ Some at → lane ≡ get_or v.lanes at lane → ((answer : Answer) → lane.state ≡ Over answer → ⊥) → ⊥
not-over v number at lane found read none = let has = found-over v.lanes number at lane found read in none has.answer has.is
