-- A session from its beginning on.
use Rattle.std.proofs.Common.{◌≡◌, ℕ, List, ◌++◌, length, ap, sym, ◌∙◌, subst, refl}
use Rattle.ovs_wire.specs.Frames.{AreFrames}
use Rattle.ovs_wire.specs.Framing.{fed}
use Rattle.ovs_wire.proofs.Through.{calls_from_new}
use Rattle.ovs_session.specs.Counting.{IsAfter}
use Rattle.ovs_session.specs.Serving.{SessionValue, Served, IsDone, messages, holding, fresh_within}
use Rattle.ovs_session.specs.Whole.{Answers, AnswersAll}
use Rattle.ovs_session.proofs.Served.{append_nil}

module _ {C : Type 0} (answers : C → List ℕ → List ℕ → C → Type 0) (tells : C → List ℕ → C → Type 0) where
  pub answers_from_new : {most : ℕ} (state : C) (bytes_read bytes_written : List ℕ) (now : SessionValue C) → Served answers tells (fresh_within most state) bytes_read bytes_written now
      → Answers answers tells most state bytes_read bytes_written now
  answers_from_new {most} state bytes_read bytes_written now s =
      let follows = (calls_from_new s.calls (fresh_within most state).framing now.framing (refl, refl, refl) s.frames).0 in
      record {
        framed = fed s.calls;
        stream = s.read;
        said = s.said;
        frames = subst (λ (found : List (List ℕ)). AreFrames most (fed s.calls) (found ++ now.framing.waiting) now.framing.ending) s.answered follows;
        runs = s.runs;
        written = s.written;
        messages_counted = subst (λ (found : List (List ℕ)). IsAfter now.counts.messages 0 (length found)) s.answered s.messages_counted;
        bytes_counted = s.bytes_counted;
      }

  all_of : (found : List (List ℕ)) (s : SessionValue C) → IsDone s → (found ++ holding s.held) ++ s.framing.waiting ≡ found
  all_of found s done =
      ap (λ (w : List (List ℕ)). (found ++ holding s.held) ++ w) done.waiting ∙ append_nil (found ++ holding s.held)
      ∙ ap (λ h. found ++ holding h) done.held ∙ append_nil found

  pub answers_all : {most : ℕ} (state : C) (bytes_read bytes_written : List ℕ) (now : SessionValue C) → Served answers tells (fresh_within most state) bytes_read bytes_written now
      → IsDone now → AnswersAll answers tells most state bytes_read bytes_written now
  answers_all {most} state bytes_read bytes_written now s done =
      let a = answers_from_new state bytes_read bytes_written now s in
      let whole : bytes_read ≡ a.framed = a.stream ∙ ap (λ (l : List ℕ). a.framed ++ l) done.unfed ∙ append_nil a.framed in
      record {
        said = a.said;
        frames = subst (λ (stream : List ℕ). AreFrames most stream (messages a.said) now.framing.ending) (sym whole)
            (subst (λ (found : List (List ℕ)). AreFrames most a.framed found now.framing.ending) (all_of (messages a.said) now done) a.frames);
        runs = a.runs;
        written = sym (a.written ∙ ap (λ (l : List ℕ). bytes_written ++ l) done.unsent ∙ append_nil bytes_written);
      }
