-- A client is served, a piece after another.
use Rattle.std.proofs.Common.{◌≡◌, ℕ, Bool, true, false, List, [], ◌∷◌, ◌++◌, Option, map, ap, sym, ◌∙◌, append_assoc, subst, refl}
use Rattle.ovs_types.specs.Schema.{SchemaValue}
use Rattle.ovs_links.specs.Absorbing.{folded_by}
use Rattle.ovs_links.specs.declared.step.Step.{Step}
use Rattle.ovs_authority.specs.declared.ask.Ask.{Ask}
use Rattle.ovs_wire.specs.Message.{Says}
use Rattle.ovs_wire.specs.declared.message.Message.{Message}
use Rattle.ovs_reader.specs.Telling.{told_some}
use Rattle.ovs_session.specs.Serving.{Said, Answered, Told, messages, text, Runs}
use Rattle.ovs_views.specs.Published.{ViewSessionValue}
use Rattle.ovs_service.specs.declared.session_token.AuthorityCall.{AuthorityCall}
use Rattle.ovs_service.specs.declared.pending.Pending.{Pending}
use Rattle.ovs_service.specs.Asking.{SessionTokenValue, HasNothingMore}
use Rattle.ovs_service.specs.Deeds.{Task, ToSay, ToGive, tasks, Settles, Does, Collects, given_by}
use Rattle.ovs_service.specs.Calls.{Call, Answer, Pump, Collect, CallGives, Give, IsAllTold, IsCollecting, IsTelling, heard, most_told}
use Rattle.ovs_service.specs.Client.{ClientValue, token_of, Hears, IsTold, Serves, AnswersFrom, AnswersTo, TellsOf, TellsNew, HasAll}
use Rattle.ovs_service.proofs.Settled.{append_nil, tasks_both, settles_none, settles_more, settles_before, settles_collected, said_behind, no_call_made}

module _ (schema : SchemaValue) (owes : Bool → List Step → Message → Type 0) where
  give_one : (call : Call) (old new : ViewSessionValue) (todo : List Task) → CallGives schema owes call old todo new
      → Give schema owes (call ∷ []) old todo new
  give_one call old new todo h = (new, todo, [], h, (refl, refl), sym (append_nil todo))

  give_both : (calls more : List Call) (a b c : ViewSessionValue) (first rest : List Task)
      → Give schema owes calls a first b → Give schema owes more b rest c → Give schema owes (calls ++ more) a (first ++ rest) c
  give_both [] more a b c first rest (e, f) k =
      subst (λ (l : List Task). Give schema owes more a (l ++ rest) c) (sym e)
      (subst (λ (s : ViewSessionValue). Give schema owes more s rest c) f k)
  give_both (call ∷ calls) more a b c first rest (mid, one, others, h, g, e) k = (
    mid,
    one,
    others ++ rest,
    h,
    give_both calls more mid b c others rest g k,
    ap (λ (l : List Task). l ++ rest) e ∙ append_assoc one others rest,
  )

heard_both : (calls more : List Call) → heard (calls ++ more) ≡ heard calls ++ heard more
heard_both [] more = refl
heard_both (Answer text shown ∷ calls) more = ap (λ (l : List (List ℕ)). text ∷ l) (heard_both calls more)
heard_both (Pump shown ∷ calls) more = heard_both calls more
heard_both (Collect held taken ∷ calls) more = heard_both calls more

-- where messages are told and collected, none is heard
nothing_heard_collecting : (calls : List Call) → IsCollecting calls → heard calls ≡ []
nothing_heard_collecting [] is = refl
nothing_heard_collecting (Answer text shown ∷ calls) is = absurd is
nothing_heard_collecting (Pump shown ∷ calls) is = absurd is
nothing_heard_collecting (Collect held taken ∷ []) is = refl
nothing_heard_collecting (Collect held taken ∷ call ∷ calls) is = absurd is

nothing_heard : (shown : List Step) (calls : List Call) → IsTelling shown calls → heard calls ≡ []
nothing_heard shown [] is = refl
nothing_heard shown (Answer text from ∷ calls) is = absurd is
nothing_heard shown (Pump from ∷ calls) is = nothing_heard_collecting calls is.1
nothing_heard shown (Collect held taken ∷ calls) is = absurd is

module _ (schema : SchemaValue) (replies : ℕ → Ask → Option Message → Type 0) (owes : Bool → ℕ → List Step → Message → Type 0) where
  -- what is added is due
  still_due : (a b : ClientValue) (added : List Pending) → b.due ≡ a.due ++ added → Settles (replies a.session_id) (tasks a.due ++ tasks added) [] [] (tasks b.due)
  still_due a b added e =
      subst (λ (l : List Task). Settles (replies a.session_id) (tasks a.due ++ tasks added) [] [] l) (sym (ap tasks e ∙ tasks_both a.due added))
      (settles_none (replies a.session_id) (tasks a.due ++ tasks added))

  serves_nothing : (a b : ClientValue) → b ≡ a → Serves schema replies owes [] a [] b
  serves_nothing a b e = record {
    todo = [];
    gives = (refl, ap (λ (c : ClientValue). c.session) e);
    made = [];
    settles = subst (λ (l : List Task). Settles (replies a.session_id) l [] [] (tasks b.due)) (sym (append_nil (tasks a.due)))
        (subst (λ (l : List Task). Settles (replies a.session_id) (tasks a.due) [] [] l) (sym (ap (λ (c : ClientValue). tasks c.due) e))
        (settles_none (replies a.session_id) (tasks a.due)));
    session_id = ap (λ (c : ClientValue). c.session_id) e;
    all = ap (λ (c : ClientValue). c.calls) e ∙ sym (append_nil a.calls);
  }

  -- what is due is done
  serves_due : (a b : ClientValue) (o p : List ℕ) (f : Does replies (tasks a.due) (token_of a) o (tasks b.due) (token_of b) p) → b.session ≡ a.session
      → Serves schema replies owes [] a f.said b
  serves_due a b o p f e = record {
    todo = [];
    gives = (refl, e);
    made = f.made;
    settles = subst (λ (l : List Task). Settles (replies a.session_id) l f.made f.said (tasks b.due)) (sym (append_nil (tasks a.due))) f.settles;
    session_id = ap (λ (k : SessionTokenValue). k.session_id) f.calls;
    all = ap (λ (k : SessionTokenValue). k.calls) f.calls;
  }

  serves_heard : (a b : ClientValue) (text : List ℕ) (message : Message) (shown : List Step) → Says text message → Hears schema shown message a b
      → Serves schema replies owes (Answer text shown ∷ []) a [] b
  serves_heard a b text message shown says p = record {
    todo = tasks p.added;
    gives = give_one schema (λ held. owes held a.session_id) (Answer text shown) a.session b.session (tasks p.added) (record {
      message = message;
      says = says;
      goes_on = p.goes_on;
      lasts = p.lasts;
      gives = p.gives;
      after = ap (λ (c : ClientValue). c.session) p.after;
    });
    made = [];
    settles = still_due a b p.added (ap (λ (c : ClientValue). c.due) p.after);
    session_id = ap (λ (c : ClientValue). c.session_id) p.after;
    all = ap (λ (c : ClientValue). c.calls) p.after ∙ sym (append_nil a.calls);
  }

  serves_told : (a b : ClientValue) (shown : List Step) (p : IsTold schema shown a b) → Serves schema replies owes (Pump shown ∷ []) a [] b
  serves_told a b shown p = record {
    todo = tasks p.added;
    gives = give_one schema (λ held. owes held a.session_id) (Pump shown) a.session b.session (tasks p.added) (record {
      goes_on = p.goes_on;
      lasts = p.lasts;
      gives = p.gives;
      after = ap (λ (c : ClientValue). c.session) p.after;
    });
    made = [];
    settles = still_due a b p.added (ap (λ (c : ClientValue). c.due) p.after);
    session_id = ap (λ (c : ClientValue). c.session_id) p.after;
    all = ap (λ (c : ClientValue). c.calls) p.after ∙ sym (append_nil a.calls);
  }

  -- messages are collected where nothing but messages is due
  serves_collected : (held : Bool) (a b : ClientValue) (ms : List Message) → IsAllTold a.session → tasks a.due ≡ map ToSay ms
      → (f : Collects (λ session_id. owes held session_id a.session.last) held a.due (token_of a) b.due (token_of b)) → b.session ≡ a.session
      → Serves schema replies owes (Collect held f.taken ∷ []) a [] b
  serves_collected held a b ms all says f e = record {
    todo = map (ToGive held) f.taken;
    gives = give_one schema (λ held. owes held a.session_id) (Collect held f.taken) a.session b.session (map (ToGive held) f.taken)
        (all, f.owed, refl, e);
    made = _;
    settles = settles_collected (replies a.session_id) held a.due b.due ms f.taken says f.due;
    session_id = ap (λ (k : SessionTokenValue). k.session_id) f.calls;
    all = ap (λ (k : SessionTokenValue). k.calls) f.calls;
  }

  -- one piece after another
  serves_more : (calls more : List Call) (a b c : ClientValue) (s t : List ℕ) → Serves schema replies owes calls a s b
      → Serves schema replies owes more b t c → Serves schema replies owes (calls ++ more) a (s ++ t) c
  serves_more calls more a b c s t p q =
      let R = replies a.session_id in
      let rest_gives = subst (λ (w : ℕ). Give schema (λ held. owes held w) more b.session q.todo c.session) p.session_id q.gives in
      let rest_settles = subst (λ (w : ℕ). Settles (replies w) (tasks b.due ++ q.todo) q.made t (tasks c.due)) p.session_id q.settles in
      record {
        todo = p.todo ++ q.todo;
        gives = give_both schema (λ held. owes held a.session_id) calls more a.session b.session c.session p.todo q.todo p.gives rest_gives;
        made = p.made ++ q.made;
        settles = subst (λ (l : List Task). Settles R l (p.made ++ q.made) (s ++ t) (tasks c.due)) (append_assoc (tasks a.due) p.todo q.todo)
            (settles_more R ((tasks a.due ++ p.todo) ++ q.todo) (tasks b.due ++ q.todo) (tasks c.due) p.made q.made s t
            (settles_before R (tasks a.due ++ p.todo) (tasks b.due) q.todo p.made s p.settles) rest_settles);
        session_id = q.session_id ∙ p.session_id;
        all = q.all ∙ ap (λ (l : List AuthorityCall). l ++ q.made) p.all ∙ append_assoc a.calls p.made q.made;
      }

  -- a message is heard, and what is due is done
  pub heard_then : (a b c : ClientValue) (o q text : List ℕ) (message : Message) (shown : List Step) → Says text message → Hears schema shown message a b
      → Does replies (tasks b.due) (token_of b) o (tasks c.due) (token_of c) q → c.session ≡ b.session
      → (t : List ℕ) × AnswersFrom schema replies owes shown a text t c × (q ≡ o ++ t)
  heard_then a b c o q text message shown says heard does same =
      (does.said, serves_more (Answer text shown ∷ []) [] a b c [] does.said (serves_heard a b text message shown says heard) (serves_due b c o q does same), does.text)

  -- what monitors told is to be said, where nothing else was due
  told_alone : (a b : ClientValue) (shown : List Step) → a.due ≡ [] → (told : IsTold schema shown a b)
      → tasks b.due ≡ map ToSay (told_some most_told a.session.session.monitors (folded_by schema shown).steps)
  told_alone a b shown settled told =
      ap (λ (x : ClientValue). tasks x.due) told.after ∙ ap (λ (l : List Pending). tasks (l ++ told.added)) settled ∙ told.gives

  -- what is new is told: what monitors tell, what is collected where that is all, and what is due then
  pub told_new : (is_all : Bool) (a b c d : ClientValue) (o q : List ℕ) (shown known : List Step) → known ≡ shown → a.due ≡ [] → IsTold schema shown a b → (is_all ≡ true → IsAllTold b.session)
      → (held : Bool) × Collects (λ session_id. owes held session_id b.session.last) held b.due (token_of b) c.due (token_of c) × (c.session ≡ b.session) → (is_all ≡ false → c ≡ b)
      → Does replies (tasks c.due) (token_of c) o (tasks d.due) (token_of d) q → d.session ≡ c.session
      → (t : List ℕ) × TellsOf schema replies owes known a t d × (q ≡ o ++ t)
  told_new true a b c d o q shown known same_view settled told all (held, taken, stays) none does same = (
    does.said,
    record {
      calls = Pump shown ∷ Collect held taken.taken ∷ [];
      telling = (sym same_view, tt);
      some = λ (nothing : a.due ≡ []) (e : Pump shown ∷ Collect held taken.taken ∷ [] ≡ []). cc;
      serves = serves_more (Pump shown ∷ []) (Collect held taken.taken ∷ []) a b d [] does.said (serves_told a b shown told)
          (serves_more (Collect held taken.taken ∷ []) [] b c d [] does.said
          (serves_collected held b c (told_some most_told a.session.session.monitors (folded_by schema shown).steps) (all refl) (told_alone a b shown settled told) taken stays)
          (serves_due c d o q does same));
    },
    does.text,
  )
  told_new false a b c d o q shown known same_view settled told all collected none does same = (
    does.said,
    record {
      calls = Pump shown ∷ [];
      telling = (sym same_view, tt);
      some = λ (nothing : a.due ≡ []) (e : Pump shown ∷ [] ≡ []). cc;
      serves = serves_more (Pump shown ∷ []) [] a b d [] does.said (serves_told a b shown told)
          (subst (λ (n : ClientValue). Serves schema replies owes [] n does.said d) (none refl) (serves_due c d o q does same));
    },
    does.text,
  )

  -- all is told, where monitors told all that is new, the desk had nothing more, and nothing is due then
  pub has_all : (is_all is_told : Bool) (a b c d : ClientValue) (o q : List ℕ) (shown known : List Step) → known ≡ shown → a.due ≡ [] → IsTold schema shown a b → (is_told ≡ true → IsAllTold b.session)
      → (held : Bool) × Collects (λ session_id. owes held session_id b.session.last) held b.due (token_of b) c.due (token_of c) × (c.session ≡ b.session)
      → (is_all ≡ true → (is_told ≡ true) × HasNothingMore c.calls)
      → Does replies (tasks c.due) (token_of c) o (tasks d.due) (token_of d) q → d.session ≡ c.session
      → (is_all ≡ true) × (d.due ≡ []) → HasAll known d
  has_all is_all is_told a b c d o q shown known same_view settled told all (held, taken, stays) nothing does same (is, none) =
      let found = nothing is in
      let says = said_behind b.due c.due (told_some most_told a.session.session.monitors (folded_by schema shown).steps) (given_by taken.taken)
      (told_alone a b shown settled told) taken.due in
      let made = no_call_made (replies c.session_id) (told_some most_told a.session.session.monitors (folded_by schema shown).steps ++ given_by taken.taken)
      (tasks c.due) (tasks d.due) does.made does.said says does.settles in
      let calls : d.calls ≡ c.calls = ap (λ (k : SessionTokenValue). k.calls) does.calls ∙ ap (λ (l : List AuthorityCall). c.calls ++ l) made ∙ append_nil c.calls in
      record {
        due = none;
        shown = ap (λ (s : ViewSessionValue). s.last) (same ∙ stays) ∙ ap (λ (x : ClientValue). x.session.last) told.after ∙ sym same_view;
        told = subst IsAllTold (sym (same ∙ stays)) (all found.0);
        collected = subst HasNothingMore (sym calls) found.1;
      }

  -- what is told of these steps is told of some
  pub of_some : (shown : List Step) (a b : ClientValue) (o q : List ℕ) → (t : List ℕ) × TellsOf schema replies owes shown a t b × (q ≡ o ++ t)
      → (t : List ℕ) × TellsNew schema replies owes a t b × (q ≡ o ++ t)
  of_some shown a b o q (t, tells, e) = (t, (shown, tells), e)

  pub from_some : (shown : List Step) (a b : ClientValue) (o q text : List ℕ) → (t : List ℕ) × AnswersFrom schema replies owes shown a text t b × (q ≡ o ++ t)
      → (t : List ℕ) × AnswersTo schema replies owes a text t b × (q ≡ o ++ t)
  from_some shown a b o q text (t, answers, e) = (t, (shown, answers), e)

  -- all that is due is done, and then what is new is told
  pub told_then : (a b c : ClientValue) (o p q : List ℕ) (shown : List Step) → Does replies (tasks a.due) (token_of a) o (tasks b.due) (token_of b) p
      → b.session ≡ a.session → b.due ≡ [] → (t : List ℕ) × TellsOf schema replies owes shown b t c × (q ≡ p ++ t)
      → (t : List ℕ) × TellsOf schema replies owes shown a t c × (q ≡ o ++ t)
  told_then a b c o p q shown does same all (t, tells, f) = (
    does.said ++ t,
    record {
      calls = tells.calls;
      telling = tells.telling;
      some = λ (due : a.due ≡ []). tells.some all;
      serves = serves_more [] tells.calls a b c does.said t (serves_due a b o p does same) tells.serves;
    },
    f ∙ ap (λ (l : List ℕ). l ++ t) does.text ∙ append_assoc o does.said t,
  )

  -- something was due, and of it is done what can be, and nothing more
  pub told_due : (a b c : ClientValue) (o p q : List ℕ) (shown : List Step) → Does replies (tasks a.due) (token_of a) o (tasks b.due) (token_of b) p
      → b.session ≡ a.session → c ≡ b → q ≡ p → (a.due ≡ [] → ⊥) → (t : List ℕ) × TellsOf schema replies owes shown a t c × (q ≡ o ++ t)
  told_due a b c o p q shown does same still f some = (
    does.said,
    record {
      calls = [];
      telling = tt;
      some = λ (none : a.due ≡ []). absurd (some none);
      serves = subst (λ (n : ClientValue). Serves schema replies owes [] a does.said n) (sym still) (serves_due a b o p does same);
    },
    f ∙ does.text,
  )

  -- what was heard and said in a run, with the calls that were made for it
  pub record RunOf (said : List Said) (a b : ClientValue) : Type 0 where
    pub calls : List Call
    pub heard_all : heard calls ≡ messages said
    pub serves : Serves schema replies owes calls a (text said) b

  pub run_of : (said : List Said) (a b : ClientValue)
      → Runs (AnswersTo schema replies owes) (TellsNew schema replies owes) said a b → RunOf said a b
  run_of [] a b e = record { calls = []; heard_all = refl; serves = serves_nothing a b e }
  run_of (Answered m t ∷ more) a b (mid, (shown, p), runs) =
      let q = run_of more mid b runs in
      record {
        calls = Answer m shown ∷ q.calls;
        heard_all = ap (λ (l : List (List ℕ)). m ∷ l) q.heard_all;
        serves = serves_more (Answer m shown ∷ []) q.calls a mid b t (text more) p q.serves;
      }
  run_of (Told t ∷ more) a b (mid, (shown, p), runs) =
      let q = run_of more mid b runs in
      record {
        calls = p.calls ++ q.calls;
        heard_all = heard_both p.calls q.calls ∙ ap (λ (l : List (List ℕ)). l ++ heard q.calls) (nothing_heard shown p.calls p.telling) ∙ q.heard_all;
        serves = serves_more p.calls q.calls a mid b t (text more) p.serves q.serves;
      }
