-- What users are promised follows from what a session does.
use Rattle.std.proofs.Common.{inl, inr, ◌≡◌, ℕ, Bool, List, [], ◌∷◌, ◌++◌, Option, map, length, ap, sym, ◌∙◌, subst, refl}
use Rattle.ovs_types.specs.Schema.{SchemaValue}
use Rattle.ovs_links.specs.declared.step.Step.{Step}
use Rattle.ovs_authority.specs.declared.ask.Ask.{Ask}
use Rattle.ovs_wire.specs.Limits.{most_bytes}
use Rattle.ovs_wire.specs.Frames.{AreFrames, Ending}
use Rattle.ovs_wire.specs.declared.message.Message.{Message}
use Rattle.ovs_session.specs.Counting.{IsAfter}
use Rattle.ovs_session.specs.Moving.{Moved, IsBad}
use Rattle.ovs_session.specs.Serving.{SessionValue, Served, IsDone, holding, text, fresh}
use Rattle.ovs_session.specs.Whole.{Answers, AnswersAll}
use Rattle.ovs_session.specs.declared.ended.Ended.{Ended}
use Rattle.ovs_session.specs.declared.ended.Ended.TheVariants.{Closed, BadInput}
use Rattle.ovs_session.proofs.Whole.{answers_from_new, answers_all}
use Rattle.ovs_service.specs.declared.session_token.AuthorityCall.{AuthorityCall}
use Rattle.ovs_service.specs.Texts.{AreTextsOf}
use Rattle.ovs_service.specs.Deeds.{Task, ToSay, task_of, tasks, Settles}
use Rattle.ovs_views.specs.Published.{ViewSessionValue}
use Rattle.ovs_service.specs.Calls.{Call, Give, heard}
use Rattle.ovs_service.specs.Client.{ClientValue, AnswersTo, TellsNew, new_client, new_view}
use Rattle.ovs_session.specs.Messages.{SaysNothing}
use Rattle.ovs_service.specs.Kept.{IsBadInput, WritesBeginning, WritesAll, Kept}
use Rattle.ovs_service.proofs.Settled.{append_nil}
use Rattle.ovs_service.proofs.Runs.{run_of}

bad_of : (now : SessionValue ClientValue) → IsBad {C = ClientValue} (λ client text. SaysNothing text) now
    → IsBadInput now.framing.ending now.framing.waiting now.held
bad_of now (inl (fault, none, no_held, written)) = inl (fault, none, no_held)
bad_of now (inr (m, held, refused, written)) = inr (m, held, refused)

no_message : (ms : List Message) (left : List Task) → [] ≡ map ToSay ms ++ left → ms ≡ []
no_message [] left e = refl
no_message (m ∷ ms) left e = cc

no_task : (ms : List Message) (left : List Task) → [] ≡ map ToSay ms ++ left → left ≡ []
no_task [] left e = sym e
no_task (m ∷ ms) left e = cc

module _ (schema : SchemaValue) (replies : Ask → Option Message → Type 0) (owes : Bool → List Step → Message → Type 0) where
  -- where nothing is to be done then, all is done
  all_done : (calls : List Call) (start : ViewSessionValue) (ending : Ending) (bytes_read bytes_written : List ℕ) (now : ClientValue) (todo : List Task)
      → AreFrames most_bytes bytes_read (heard calls) ending → Give schema owes calls start todo now.session
      → Settles replies todo now.calls bytes_written (tasks now.due) → now.due ≡ [] → WritesAll schema replies owes start bytes_read bytes_written now
  all_done calls start ending bytes_read bytes_written now todo frames gives p settled =
      let none : [] ≡ map ToSay p.unsaid ++ p.left = sym (ap tasks settled) ∙ p.then in
      record {
        calls = calls;
        ending = ending;
        frames = frames;
        deeds = p.deeds;
        gives = subst (λ (l : List Task). Give schema owes calls start l now.session)
            (p.does ∙ ap (λ (l : List Task). map task_of p.deeds ++ l) (no_task p.unsaid p.left none) ∙ append_nil (map task_of p.deeds)) gives;
        made = p.calls;
        replied = p.replied;
        texts = subst (λ (l : List Message). AreTextsOf l bytes_written)
            (sym (p.gives ∙ ap (λ (l : List Message). p.given ++ l) (no_message p.unsaid p.left none) ∙ append_nil p.given)) p.texts;
      }

module _ (schema : SchemaValue) (replies : ℕ → Ask → Option Message → Type 0) (owes : Bool → ℕ → List Step → Message → Type 0) where
  beginning_of : (session_id : ℕ) (last : List Step) (bytes_read bytes_written : List ℕ) (now : SessionValue ClientValue) (ended : Ended)
      → (ended ≡ BadInput → IsBad {C = ClientValue} (λ client text. SaysNothing text) now) → Answers (AnswersTo schema replies owes) (TellsNew schema replies owes) most_bytes (new_client session_id last) bytes_read bytes_written now
      → WritesBeginning schema (replies session_id) (λ held. owes held session_id) (new_view last) now.counts ended bytes_read bytes_written now.state
  beginning_of session_id last bytes_read bytes_written now ended bad a =
      let run = run_of schema replies owes a.said (new_client session_id last) now.state a.runs in
      let serves = run.serves in
      record {
        framed = a.framed;
        unframed = now.unfed;
        stream = a.stream;
        calls = run.calls;
        held = now.held;
        waiting = now.framing.waiting;
        ending = now.framing.ending;
        frames = subst (λ (found : List (List ℕ)). AreFrames most_bytes a.framed ((found ++ holding now.held) ++ now.framing.waiting) now.framing.ending) (sym run.heard_all) a.frames;
        todo = serves.todo;
        gives = serves.gives;
        text = text a.said;
        settles = subst (λ (l : List AuthorityCall). Settles (replies session_id) serves.todo l (text a.said) (tasks now.state.due)) (sym serves.all) serves.settles;
        begins = (now.unsent, sym a.written);
        bad = λ (e : ended ≡ BadInput). bad_of now (bad e);
        messages_counted = subst (λ (found : List (List ℕ)). IsAfter now.counts.messages 0 (length (found ++ holding now.held))) (sym run.heard_all) a.messages_counted;
        bytes_counted = a.bytes_counted;
      }

  all_of : (session_id : ℕ) (last : List Step) (bytes_read bytes_written : List ℕ) (now : SessionValue ClientValue)
      → AnswersAll (AnswersTo schema replies owes) (TellsNew schema replies owes) most_bytes (new_client session_id last) bytes_read bytes_written now
      → now.state.due ≡ [] → WritesAll schema (replies session_id) (λ held. owes held session_id) (new_view last) bytes_read bytes_written now.state
  all_of session_id last bytes_read bytes_written now a settled =
      let run = run_of schema replies owes a.said (new_client session_id last) now.state a.runs in
      let serves = run.serves in
      let settles = subst (λ (l : List AuthorityCall). Settles (replies session_id) serves.todo l (text a.said) (tasks now.state.due)) (sym serves.all) serves.settles in
      all_done schema (replies session_id) (λ held. owes held session_id) run.calls (new_view last) now.framing.ending bytes_read bytes_written now.state serves.todo
      (subst (λ (found : List (List ℕ)). AreFrames most_bytes bytes_read found now.framing.ending) (sym run.heard_all) a.frames) serves.gives
      (subst (λ (t : List ℕ). Settles (replies session_id) serves.todo now.state.calls t (tasks now.state.due)) (sym a.written) settles) settled

  pub kept_by : (limit session_id : ℕ) (last : List Step) (input unread output written : Option (List ℕ)) (old now : SessionValue ClientValue) (ended : Ended)
      → Moved (AnswersTo schema replies owes) (TellsNew schema replies owes) limit input unread output written old now
      → old ≡ fresh (new_client session_id last) → (ended ≡ Closed → IsDone now × (now.state.due ≡ []))
      → (ended ≡ BadInput → IsBad {C = ClientValue} (λ client text. SaysNothing text) now)
      → Kept schema (replies session_id) (λ held. owes held session_id) (new_view last) input unread output written now.counts ended now.state
  kept_by limit session_id last input unread output written old now ended moved began closed bad =
      let served = subst (λ (s : SessionValue ClientValue).
      Served (AnswersTo schema replies owes) (TellsNew schema replies owes) s moved.bytes_read moved.bytes_written now) began moved.served in
      record {
        bytes_read = moved.bytes_read;
        bytes_written = moved.bytes_written;
        reads = moved.reads;
        writes = moved.writes;
        beginning = beginning_of session_id last moved.bytes_read moved.bytes_written now ended bad
            (answers_from_new (AnswersTo schema replies owes) (TellsNew schema replies owes) (new_client session_id last) moved.bytes_read moved.bytes_written now served);
        all = λ (e : ended ≡ Closed). all_of session_id last moved.bytes_read moved.bytes_written now
            (answers_all (AnswersTo schema replies owes) (TellsNew schema replies owes) (new_client session_id last) moved.bytes_read moved.bytes_written now served (closed e).0)
            (closed e).1;
      }
