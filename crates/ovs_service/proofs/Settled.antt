-- What is due is done, a piece after another.
use Rattle.std.proofs.Common.{Result, IfOk, IfSome, ◌≡◌, ℕ, Bool, List, [], ◌∷◌, ◌++◌, Option, Some, None, map, ap, sym, ◌∙◌, append_assoc, subst, refl}
use Rattle.std.specs.Option.{option_to_list}
use Rattle.std.proofs.lemmas.Result.{IfOk-weaker}
use Rattle.std.specs.List.{AllByRecursion}
use Rattle.ovs_authority.specs.declared.ask.Ask.{Ask}
use Rattle.ovs_wire.specs.declared.message.Message.{Message}
use Rattle.ovs_service.specs.declared.pending.Pending.{Pending}
use Rattle.ovs_service.specs.declared.pending.Pending.TheVariants.{Say, Tell, Put}
use Rattle.ovs_service.specs.declared.session_token.AuthorityCall.{AuthorityCall}
use Rattle.ovs_service.specs.declared.session_token.AuthorityCall.TheVariants.{Asked, Collected}
use Rattle.ovs_service.specs.Texts.{IsTextOf, AreTextsOf}
use Rattle.ovs_service.specs.Replies.{IsOwed}
use Rattle.ovs_service.specs.Asking.{SessionTokenValue, with_calls}
use Rattle.ovs_service.specs.Deeds.{Task, ToSay, ToAsk, ToGive, Deed, Gave, Called, task_of, messages_of, calls_of, tasks, Replies, IsReplied, Settles, Does, SaysFirst, PutsTo, given_by, Collects}

pub append_nil : {A : Type 0} (xs : List A) → xs ++ [] ≡ xs
append_nil [] = refl
append_nil (x ∷ xs) = ap (λ l. x ∷ l) (append_nil xs)

pub texts_both : (ms ns : List Message) (s t : List ℕ) → AreTextsOf ms s → AreTextsOf ns t → AreTextsOf (ms ++ ns) (s ++ t)
texts_both [] ns s t e h = subst (λ (x : List ℕ). AreTextsOf ns (x ++ t)) (sym e) h
texts_both (m ∷ ms) ns s t (first, rest, e, one, more) h =
    (first, rest ++ t, ap (λ (x : List ℕ). x ++ t) e ∙ append_assoc first rest t, one, texts_both ms ns rest t more h)

pub all_both : {A : Type 0} (P : A → Type 0) (xs ys : List A) → AllByRecursion P xs → AllByRecursion P ys → AllByRecursion P (xs ++ ys)
all_both P [] ys h k = k
all_both P (x ∷ xs) ys h k = (h.0, all_both P xs ys h.1 k)

pub map_both : {A B : Type 0} (f : A → B) (xs ys : List A) → map f (xs ++ ys) ≡ map f xs ++ map f ys
map_both f [] ys = refl
map_both f (x ∷ xs) ys = ap (λ l. f x ∷ l) (map_both f xs ys)

pub tasks_both : (a b : List Pending) → tasks (a ++ b) ≡ tasks a ++ tasks b
tasks_both [] b = refl
tasks_both (Say m ∷ a) b = ap (λ (l : List Task). ToSay m ∷ l) (tasks_both a b)
tasks_both (Tell ms ∷ a) b = ap (λ (l : List Task). map ToSay ms ++ l) (tasks_both a b) ∙ sym (append_assoc (map ToSay ms) (tasks a) (tasks b))
tasks_both (Put ask ∷ a) b = ap (λ (l : List Task). ToAsk ask ∷ l) (tasks_both a b)

pub calls_both : (a b : List Deed) → calls_of (a ++ b) ≡ calls_of a ++ calls_of b
calls_both [] b = refl
calls_both (Gave m ∷ a) b = calls_both a b
calls_both (Called call ∷ a) b = ap (λ (l : List AuthorityCall). call ∷ l) (calls_both a b)

pub messages_both : (a b : List Deed) → messages_of (a ++ b) ≡ messages_of a ++ messages_of b
messages_both [] b = refl
messages_both (Gave m ∷ a) b = ap (λ (l : List Message). m ∷ l) (messages_both a b)
messages_both (Called (Asked ask reply) ∷ a) b =
    ap (λ (l : List Message). option_to_list reply ++ l) (messages_both a b) ∙ sym (append_assoc (option_to_list reply) (messages_of a) (messages_of b))
messages_both (Called (Collected held message) ∷ a) b =
    ap (λ (l : List Message). option_to_list message ++ l) (messages_both a b) ∙ sym (append_assoc (option_to_list message) (messages_of a) (messages_of b))

-- messages that weren't said, and tasks that weren't done, were then done as far as these deeds, and these are left: `more` is done of
-- the tasks, and `still` is unsaid
record GoneOn (unsaid : List Message) (left : List Task) (deeds : List Deed) (rest : List Task) : Type 0 where
  more : List Deed
  still : List Message
  undone : List Task
  does : left ≡ map task_of more ++ undone
  gives : unsaid ++ messages_of more ≡ messages_of deeds ++ still
  calls : calls_of deeds ≡ calls_of more
  then : rest ≡ map ToSay still ++ undone

abbrev is_said : Task → Message → Message
is_said (ToSay m) n = m
is_said (ToAsk ask) n = n
is_said (ToGive held message) n = n

abbrev IsSaying : Task → Type 0
IsSaying (ToSay m) = Unit {0}
IsSaying (ToAsk ask) = ⊥
IsSaying (ToGive held message) = ⊥

abbrev first_of_tasks : List Task → Task → Task
first_of_tasks [] x = x
first_of_tasks (y ∷ ys) x = y

abbrev rest_of_tasks : List Task → List Task
rest_of_tasks [] = []
rest_of_tasks (y ∷ ys) = ys

gone_on : (unsaid : List Message) (left : List Task) (deeds : List Deed) (rest : List Task)
    → map ToSay unsaid ++ left ≡ map task_of deeds ++ rest → GoneOn unsaid left deeds rest
gone_on [] left deeds rest e = record {
  more = deeds;
  still = [];
  undone = rest;
  does = e;
  gives = sym (append_nil (messages_of deeds));
  calls = refl;
  then = refl;
}
gone_on (m ∷ unsaid) left [] rest e = record {
  more = [];
  still = m ∷ unsaid;
  undone = left;
  does = refl;
  gives = append_nil (m ∷ unsaid);
  calls = refl;
  then = sym e;
}
gone_on (m ∷ unsaid) left (Gave n ∷ deeds) rest e =
    let same : m ≡ n = ap (λ (l : List Task). is_said (first_of_tasks l (ToSay m)) m) e in
    let p = gone_on unsaid left deeds rest (ap rest_of_tasks e) in
    record {
      more = p.more;
      still = p.still;
      undone = p.undone;
      does = p.does;
      gives = ap (λ (l : List Message). m ∷ l) p.gives ∙ ap (λ (x : Message). x ∷ messages_of deeds ++ p.still) same;
      calls = p.calls;
      then = p.then;
    }
gone_on (m ∷ unsaid) left (Called (Asked ask reply) ∷ deeds) rest e =
    absurd (subst (λ (l : List Task). IsSaying (first_of_tasks l (ToSay m))) e tt)
gone_on (m ∷ unsaid) left (Called (Collected held message) ∷ deeds) rest e =
    absurd (subst (λ (l : List Task). IsSaying (first_of_tasks l (ToSay m))) e tt)

all_gave : (ms : List Message) → map task_of (map Gave ms) ≡ map ToSay ms
all_gave [] = refl
all_gave (m ∷ ms) = ap (λ (l : List Task). ToSay m ∷ l) (all_gave ms)

gave_messages : (ms : List Message) → messages_of (map Gave ms) ≡ ms
gave_messages [] = refl
gave_messages (m ∷ ms) = ap (λ (l : List Message). m ∷ l) (gave_messages ms)

gave_no_call : (ms : List Message) → calls_of (map Gave ms) ≡ []
gave_no_call [] = refl
gave_no_call (m ∷ ms) = gave_no_call ms

module _ (replies : Ask → Option Message → Type 0) where
  pub settles_none : (todo : List Task) → Settles replies todo [] [] todo
  settles_none todo = record {
    deeds = [];
    left = todo;
    does = refl;
    calls = refl;
    replied = tt;
    given = [];
    unsaid = [];
    gives = refl;
    texts = refl;
    then = refl;
  }

  pub settles_more : (a b c : List Task) (m n : List AuthorityCall) (s t : List ℕ) → Settles replies a m s b → Settles replies b n t c
      → Settles replies a (m ++ n) (s ++ t) c
  settles_more a b c m n s t p q =
      let g = gone_on p.unsaid p.left q.deeds q.left (sym p.then ∙ q.does) in
      record {
        deeds = p.deeds ++ g.more;
        left = g.undone;
        does = p.does ∙ ap (λ (l : List Task). map task_of p.deeds ++ l) g.does ∙ sym (append_assoc (map task_of p.deeds) (map task_of g.more) g.undone)
            ∙ ap (λ (l : List Task). l ++ g.undone) (sym (map_both task_of p.deeds g.more));
        calls = ap (λ (l : List AuthorityCall). l ++ n) p.calls ∙ ap (λ (l : List AuthorityCall). calls_of p.deeds ++ l) (q.calls ∙ g.calls)
            ∙ sym (calls_both p.deeds g.more);
        replied = all_both (IsReplied replies) m n p.replied q.replied;
        given = p.given ++ q.given;
        unsaid = q.unsaid ++ g.still;
        gives = messages_both p.deeds g.more ∙ ap (λ (l : List Message). l ++ messages_of g.more) p.gives
            ∙ append_assoc p.given p.unsaid (messages_of g.more) ∙ ap (λ (l : List Message). p.given ++ l) (g.gives
            ∙ ap (λ (l : List Message). l ++ g.still) q.gives ∙ append_assoc q.given q.unsaid g.still)
            ∙ sym (append_assoc p.given q.given (q.unsaid ++ g.still));
        texts = texts_both p.given q.given s t p.texts q.texts;
        then = q.then ∙ ap (λ (l : List Task). map ToSay q.unsaid ++ l) g.then ∙ sym (append_assoc (map ToSay q.unsaid) (map ToSay g.still) g.undone)
            ∙ ap (λ (l : List Task). l ++ g.undone) (sym (map_both ToSay q.unsaid g.still));
      }

  -- what stands behind stays behind
  pub settles_before : (a b x : List Task) (m : List AuthorityCall) (s : List ℕ) → Settles replies a m s b → Settles replies (a ++ x) m s (b ++ x)
  settles_before a b x m s p = record {
    deeds = p.deeds;
    left = p.left ++ x;
    does = ap (λ (l : List Task). l ++ x) p.does ∙ append_assoc (map task_of p.deeds) p.left x;
    calls = p.calls;
    replied = p.replied;
    given = p.given;
    unsaid = p.unsaid;
    gives = p.gives;
    texts = p.texts;
    then = ap (λ (l : List Task). l ++ x) p.then ∙ append_assoc (map ToSay p.unsaid) p.left x;
  }

  -- the first of messages that are to be said are said
  pub settles_told : (ms first rest : List Message) (said : List ℕ) → ms ≡ first ++ rest → AreTextsOf first said
      → Settles replies (map ToSay ms) [] said (map ToSay rest)
  settles_told ms first rest said whole texts = record {
    deeds = map Gave first;
    left = map ToSay rest;
    does = ap (map ToSay) whole ∙ map_both ToSay first rest ∙ ap (λ (l : List Task). l ++ map ToSay rest) (sym (all_gave first));
    calls = sym (gave_no_call first);
    replied = tt;
    given = first;
    unsaid = [];
    gives = gave_messages first ∙ sym (append_nil first);
    texts = texts;
    then = refl;
  }

  pub settles_said : (m : Message) (said : List ℕ) → IsTextOf m said → Settles replies (ToSay m ∷ []) [] said []
  settles_said m said text = settles_told (m ∷ []) (m ∷ []) [] said refl (said, [], sym (append_nil said), text, refl)

  -- an ask is put, and what is replied is to be said
  pub settles_asked : (ask : Ask) (reply : Option Message) → Replies replies ask reply
      → Settles replies (ToAsk ask ∷ []) (Asked ask reply ∷ []) [] (map ToSay (option_to_list reply))
  settles_asked ask reply r = record {
    deeds = Called (Asked ask reply) ∷ [];
    left = [];
    does = refl;
    calls = refl;
    replied = (r, tt);
    given = [];
    unsaid = option_to_list reply;
    gives = append_nil (option_to_list reply);
    texts = refl;
    then = sym (append_nil (map ToSay (option_to_list reply)));
  }

pub says_one : (m : Message) (o p : List ℕ) → (t : List ℕ) × IsTextOf m t × (p ≡ o ++ t) → SaysFirst (m ∷ []) o [] p
says_one m o p (t, text, e) = record {
  first = m ∷ [];
  rest = [];
  whole = refl;
  said = t;
  texts = (t, [], sym (append_nil t), text, refl);
  then = refl;
  text = e;
}

module _ (replies : ℕ → Ask → Option Message → Type 0) where
  pub does_more : (a b c : List Task) (x y z : SessionTokenValue) (o p q : List ℕ) → Does replies a x o b y p → Does replies b y p c z q
      → Does replies a x o c z q
  does_more a b c x y z o p q f g =
      let session_id : y.session_id ≡ x.session_id = ap (λ (k : SessionTokenValue). k.session_id) f.calls in
      record {
        made = f.made ++ g.made;
        said = f.said ++ g.said;
        settles = settles_more (replies x.session_id) a b c f.made g.made f.said g.said f.settles
            (subst (λ (w : ℕ). Settles (replies w) b g.made g.said c) session_id g.settles);
        calls = g.calls ∙ ap (λ (k : SessionTokenValue). with_calls k g.made) f.calls
            ∙ ap (λ (l : List AuthorityCall). record { session_id = x.session_id; calls = l }) (append_assoc x.calls f.made g.made);
        text = g.text ∙ ap (λ (l : List ℕ). l ++ g.said) f.text ∙ append_assoc o f.said g.said;
      }

  -- the first that is due is done, and this is due in its place
  pub does_first : (due : Pending) (next pending old new : List Pending) (x y : SessionTokenValue) (o p : List ℕ)
      → Does replies (tasks (due ∷ [])) x o (tasks next) y p → old ≡ due ∷ pending → new ≡ next ++ pending → Does replies (tasks old) x o (tasks new) y p
  does_first due next pending old new x y o p f before after = record {
    made = f.made;
    said = f.said;
    settles = subst (λ (l : List Task). Settles (replies x.session_id) l f.made f.said (tasks new)) (sym (ap tasks before ∙ tasks_both (due ∷ []) pending))
        (subst (λ (l : List Task). Settles (replies x.session_id) (tasks (due ∷ []) ++ tasks pending) f.made f.said l) (sym (ap tasks after ∙ tasks_both next pending))
        (settles_before (replies x.session_id) (tasks (due ∷ [])) (tasks next) (tasks pending) f.made f.said f.settles));
    calls = f.calls;
    text = f.text;
  }

  with_none : (x : SessionTokenValue) → x ≡ with_calls x []
  with_none x = ap (λ (l : List AuthorityCall). record { session_id = x.session_id; calls = l }) (sym (append_nil x.calls))

  pub does_said : (messages : List Message) (old new : List Task) (x y : SessionTokenValue) (o p : List ℕ) → old ≡ map ToSay messages
      → SaysFirst messages o new p → y ≡ x → Does replies old x o new y p
  does_said messages old new x y o p e f same = record {
    made = [];
    said = f.said;
    settles = subst (λ (l : List Task). Settles (replies x.session_id) l [] f.said new) (sym e)
        (subst (λ (l : List Task). Settles (replies x.session_id) (map ToSay messages) [] f.said l) (sym f.then)
        (settles_told (replies x.session_id) messages f.first f.rest f.said f.whole f.texts));
    calls = same ∙ with_none x;
    text = f.text;
  }

  pub does_ask : (ask : Ask) (new : List Task) (x y : SessionTokenValue) (o p : List ℕ) → PutsTo replies ask x new y → p ≡ o
      → Does replies (ToAsk ask ∷ []) x o new y p
  does_ask ask new x y o p f same = record {
    made = Asked ask f.reply ∷ [];
    said = [];
    settles = subst (λ (l : List Task). Settles (replies x.session_id) (ToAsk ask ∷ []) (Asked ask f.reply ∷ []) [] l) (sym f.then)
        (settles_asked (replies x.session_id) ask f.reply f.replied);
    calls = f.call;
    text = same ∙ sym (append_nil o);
  }

  pub does_nothing : (old new : List Task) (x y : SessionTokenValue) (o p : List ℕ) → new ≡ old → y ≡ x → p ≡ o → Does replies old x o new y p
  does_nothing old new x y o p e f g = record {
    made = [];
    said = [];
    settles = subst (λ (l : List Task). Settles (replies x.session_id) old [] [] l) (sym e) (settles_none (replies x.session_id) old);
    calls = f ∙ with_none x;
    text = g ∙ sym (append_nil o);
  }

  -- it is done, and nothing is due in its place
  pub does_gone : (due : Pending) (next : Option Pending) (pending old new : List Pending) (x y : SessionTokenValue) (o p : List ℕ)
      → Does replies (tasks (due ∷ [])) x o (tasks (option_to_list next)) y p → next ≡ None → old ≡ due ∷ pending → new ≡ pending
      → Does replies (tasks old) x o (tasks new) y p
  does_gone due next pending old new x y o p f none before after =
      does_first due (option_to_list next) pending old new x y o p f before (after ∙ ap (λ (n : Option Pending). option_to_list n ++ pending) (sym none))

  -- it is done, and this is due in its place
  pub does_left : (due left : Pending) (next : Option Pending) (pending old new : List Pending) (x y : SessionTokenValue) (o p : List ℕ)
      → Does replies (tasks (due ∷ [])) x o (tasks (option_to_list next)) y p → next ≡ Some left → old ≡ due ∷ pending → new ≡ left ∷ pending
      → Does replies (tasks old) x o (tasks new) y p
  does_left due left next pending old new x y o p f some before after =
      does_first due (option_to_list next) pending old new x y o p f before (after ∙ ap (λ (n : Option Pending). option_to_list n ++ pending) (sym some))

  pub done_saying : (due : Pending) (m : Message) (done : Result (Option Pending) Pending) (x : SessionTokenValue) (o p : List ℕ) → due ≡ Say m
      → IfOk done (λ next. SaysFirst (m ∷ []) o (tasks (option_to_list next)) p)
      → IfOk done (λ next. Does replies (tasks (due ∷ [])) x o (tasks (option_to_list next)) x p)
  done_saying due m done x o p is says = IfOk-weaker done
      (λ next. SaysFirst (m ∷ []) o (tasks (option_to_list next)) p)
      (λ next. Does replies (tasks (due ∷ [])) x o (tasks (option_to_list next)) x p)
      (λ (next : Option Pending) (f : SaysFirst (m ∷ []) o (tasks (option_to_list next)) p).
      does_said (m ∷ []) (tasks (due ∷ [])) (tasks (option_to_list next)) x x o p (ap (λ (d : Pending). tasks (d ∷ [])) is) f refl) says

  pub done_telling : (due : Pending) (ms : List Message) (done : Result (Option Pending) Pending) (x : SessionTokenValue) (o p : List ℕ) → due ≡ Tell ms
      → IfOk done (λ next. SaysFirst ms o (tasks (option_to_list next)) p)
      → IfOk done (λ next. Does replies (tasks (due ∷ [])) x o (tasks (option_to_list next)) x p)
  done_telling due ms done x o p is says = IfOk-weaker done
      (λ next. SaysFirst ms o (tasks (option_to_list next)) p)
      (λ next. Does replies (tasks (due ∷ [])) x o (tasks (option_to_list next)) x p)
      (λ (next : Option Pending) (f : SaysFirst ms o (tasks (option_to_list next)) p).
      does_said ms (tasks (due ∷ [])) (tasks (option_to_list next)) x x o p
      (ap (λ (d : Pending). tasks (d ∷ [])) is ∙ append_nil (map ToSay ms)) f refl) says

  pub forward_ask : (due : Pending) (ask : Ask) (done : Result (Option Pending) Pending) (x y : SessionTokenValue) (o : List ℕ) → due ≡ Put ask
      → IfOk done (λ next. PutsTo replies ask x (tasks (option_to_list next)) y)
      → IfOk done (λ next. Does replies (tasks (due ∷ [])) x o (tasks (option_to_list next)) y o)
  forward_ask due ask done x y o is puts = IfOk-weaker done
      (λ next. PutsTo replies ask x (tasks (option_to_list next)) y)
      (λ next. Does replies (tasks (due ∷ [])) x o (tasks (option_to_list next)) y o)
      (λ (next : Option Pending) (f : PutsTo replies ask x (tasks (option_to_list next)) y).
      subst (λ (d : Pending). Does replies (tasks (d ∷ [])) x o (tasks (option_to_list next)) y o) (sym is)
      (does_ask ask (tasks (option_to_list next)) x y o o f refl)) puts

given_both : (a b : List (Option Message)) → given_by (a ++ b) ≡ given_by a ++ given_by b
given_both [] b = refl
given_both (m ∷ a) b = ap (λ (l : List Message). option_to_list m ++ l) (given_both a b) ∙ sym (append_assoc (option_to_list m) (given_by a) (given_by b))

module _ (owes : ℕ → Message → Type 0) (held : Bool) where
  pub collects_nothing : (a b : List Pending) (x y : SessionTokenValue) → b ≡ a → y ≡ x → Collects owes held a x b y
  collects_nothing a b x y e f = record {
    taken = [];
    owed = tt;
    calls = f ∙ ap (λ (l : List AuthorityCall). record { session_id = x.session_id; calls = l }) (sym (append_nil x.calls));
    due = e ∙ sym (append_nil a);
  }

  pub collects_one : (a b c : List Pending) (x y : SessionTokenValue) (m : Option Message) → b ≡ a → c ≡ b ++ map Say (option_to_list m)
      → y ≡ with_calls x (Collected held m ∷ []) → IfSome m (IsOwed (owes x.session_id)) → Collects owes held a x c y
  collects_one a b c x y m e f g owed = record {
    taken = m ∷ [];
    owed = (owed, tt);
    calls = g;
    due = f ∙ ap (λ (l : List Pending). l ++ map Say (option_to_list m)) e
        ∙ ap (λ (l : List Message). a ++ map Say l) (sym (append_nil (option_to_list m)));
  }

  pub collects_more : (a b c : List Pending) (x y z : SessionTokenValue) → Collects owes held a x b y → Collects owes held b y c z → Collects owes held a x c z
  collects_more a b c x y z f g =
      let session_id : y.session_id ≡ x.session_id = ap (λ (k : SessionTokenValue). k.session_id) f.calls in
      record {
        taken = f.taken ++ g.taken;
        owed = all_both (λ m. IfSome m (IsOwed (owes x.session_id))) f.taken g.taken f.owed
            (subst (λ (w : ℕ). AllByRecursion (λ m. IfSome m (IsOwed (owes w))) g.taken) session_id g.owed);
        calls = g.calls ∙ ap (λ (k : SessionTokenValue). with_calls k (map (Collected held) g.taken)) f.calls
            ∙ ap (λ (l : List AuthorityCall). record { session_id = x.session_id; calls = l })
            (append_assoc x.calls (map (Collected held) f.taken) (map (Collected held) g.taken)
            ∙ ap (λ (l : List AuthorityCall). x.calls ++ l) (sym (map_both (Collected held) f.taken g.taken)));
        due = g.due ∙ ap (λ (l : List Pending). l ++ map Say (given_by g.taken)) f.due ∙ append_assoc a (map Say (given_by f.taken)) (map Say (given_by g.taken))
            ∙ ap (λ (l : List Pending). a ++ l) (sym (map_both Say (given_by f.taken) (given_by g.taken))
            ∙ ap (map Say) (sym (given_both f.taken g.taken)));
      }

-- where messages alone are to be said, the desk isn't called
no_calls : (ms : List Message) (deeds : List Deed) (left : List Task) → map ToSay ms ≡ map task_of deeds ++ left → calls_of deeds ≡ []
no_calls ms [] left e = refl
no_calls [] (d ∷ deeds) left e = cc
no_calls (m ∷ ms) (Gave n ∷ deeds) left e = no_calls ms deeds left (ap rest_of_tasks e)
no_calls (m ∷ ms) (Called (Asked ask reply) ∷ deeds) left e =
    absurd (subst (λ (l : List Task). IsSaying (first_of_tasks l (ToSay m))) e tt)
no_calls (m ∷ ms) (Called (Collected held message) ∷ deeds) left e =
    absurd (subst (λ (l : List Task). IsSaying (first_of_tasks l (ToSay m))) e tt)

pub no_call_made : (replies : Ask → Option Message → Type 0) (ms : List Message) (old new : List Task) (made : List AuthorityCall) (said : List ℕ)
    → old ≡ map ToSay ms → Settles replies old made said new → made ≡ []
no_call_made replies ms old new made said e p = p.calls ∙ no_calls ms p.deeds p.left (sym e ∙ p.does)

said_tasks : (ms : List Message) → tasks (map Say ms) ≡ map ToSay ms
said_tasks [] = refl
said_tasks (m ∷ ms) = ap (λ (l : List Task). ToSay m ∷ l) (said_tasks ms)

-- messages behind messages that are to be said
pub said_behind : (old new : List Pending) (ms more : List Message) → tasks old ≡ map ToSay ms → new ≡ old ++ map Say more
    → tasks new ≡ map ToSay (ms ++ more)
said_behind old new ms more says e =
    ap tasks e ∙ tasks_both old (map Say more) ∙ ap (λ (l : List Task). l ++ tasks (map Say more)) says
    ∙ ap (λ (l : List Task). map ToSay ms ++ l) (said_tasks more) ∙ sym (map_both ToSay ms more)

module _ (replies : Ask → Option Message → Type 0) (held : Bool) where
  abbrev taking : Option Message → Deed
  taking m = Called (Collected held m)

  taking_tasks : (taken : List (Option Message)) → map task_of (map taking taken) ≡ map (ToGive held) taken
  taking_tasks [] = refl
  taking_tasks (m ∷ taken) = ap (λ (l : List Task). ToGive held m ∷ l) (taking_tasks taken)

  taking_calls : (taken : List (Option Message)) → calls_of (map taking taken) ≡ map (Collected held) taken
  taking_calls [] = refl
  taking_calls (m ∷ taken) = ap (λ (l : List AuthorityCall). Collected held m ∷ l) (taking_calls taken)

  taking_messages : (taken : List (Option Message)) → messages_of (map taking taken) ≡ given_by taken
  taking_messages [] = refl
  taking_messages (m ∷ taken) = ap (λ (l : List Message). option_to_list m ++ l) (taking_messages taken)

  all_replied : (taken : List (Option Message)) → AllByRecursion (IsReplied replies) (map (Collected held) taken)
  all_replied [] = tt
  all_replied (m ∷ taken) = (tt, all_replied taken)

  pub settles_collected : (old new : List Pending) (ms : List Message) (taken : List (Option Message)) → tasks old ≡ map ToSay ms
      → new ≡ old ++ map Say (given_by taken)
      → Settles replies (tasks old ++ map (ToGive held) taken) (map (Collected held) taken) [] (tasks new)
  settles_collected old new ms taken says e = record {
    deeds = map Gave ms ++ map taking taken;
    left = [];
    does = ap (λ (l : List Task). l ++ map (ToGive held) taken) (says ∙ sym (all_gave ms))
        ∙ ap (λ (l : List Task). map task_of (map Gave ms) ++ l) (sym (taking_tasks taken))
        ∙ sym (map_both task_of (map Gave ms) (map taking taken)) ∙ sym (append_nil (map task_of (map Gave ms ++ map taking taken)));
    calls = sym (calls_both (map Gave ms) (map taking taken) ∙ ap (λ (l : List AuthorityCall). l ++ calls_of (map taking taken)) (gave_no_call ms)
        ∙ taking_calls taken);
    replied = all_replied taken;
    given = [];
    unsaid = ms ++ given_by taken;
    gives = messages_both (map Gave ms) (map taking taken) ∙ ap (λ (l : List Message). l ++ messages_of (map taking taken)) (gave_messages ms)
        ∙ ap (λ (l : List Message). ms ++ l) (taking_messages taken);
    texts = refl;
    then = said_behind old new ms (given_by taken) says e ∙ sym (append_nil (map ToSay (ms ++ given_by taken)));
  }
