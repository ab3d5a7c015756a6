-- Requests that are taken up and said, one after another.
use Rattle.std.proofs.Common.{◌≡◌, ℕ, List, [], ◌∷◌, ◌++◌, Bool, true, false, inl, inr, Option, Some, None, Result, Ok, Err, map, is_some, refl, sym, ◌∙◌, ap, subst, append_assoc, append-nil}
use Rattle.std.specs.Prelude.{OnOk, OnErr}
use Rattle.std.specs.Option.{option_to_list}
use Rattle.ovs_wire.specs.declared.message.Message.{Message}
use Rattle.ovs_session.specs.Serving.{Said, Answered, Told, Runs}
use Rattle.ovs_upstream.specs.declared.up_event.UpEvent.{UpEvent}
use Rattle.ovs_upstream.specs.declared.up_event.UpEvent.TheVariants.{Links, Send, ReplyFor, Locked, Stolen, Nothing}
use Rattle.ovs_upstream.specs.declared.up_session.SyncState.{SyncState}
use Rattle.ovs_upstream.specs.declared.up_session.SyncState.TheVariants.{Opening, Asking, At, Ended}
use Rattle.ovs_follow.specs.UpstreamState.{UpstreamStateValue, AreWritten, PassesOn, Passes, Hears, Asks, AsksBy, begins_at, found, handed, taken}
use Rattle.ovs_follow.specs.Telling.{AreSaid, Passed}
use Rattle.ovs_follow.specs.declared.handler_call.HandlerCall.{HandlerCall}
use Rattle.ovs_follow.specs.declared.handler_call.HandlerCall.TheVariants as calls

written_append : (ms ns : List Message) (a b : List ℕ) → AreWritten ms a → AreWritten ns b → AreWritten (ms ++ ns) (a ++ b)
written_append [] ns a b first more = subst (λ (l : List ℕ). AreWritten ns (l ++ b)) (sym first) more
written_append (m ∷ ms) ns a b first more =
    (first.0, first.1 ++ b, first.2, written_append ms ns first.1 b first.3 more, ap (λ l. l ++ b) first.4 ∙ append_assoc first.0 first.1 b)

abbrev ups_of : List (Option Message) → List HandlerCall
ups_of ups = map calls.TookUp ups

ups_append : (us vs : List (Option Message)) → ups_of (us ++ vs) ≡ ups_of us ++ ups_of vs
ups_append [] vs = refl
ups_append (u ∷ us) vs = ap (λ l. calls.TookUp u ∷ l) (ups_append us vs)

taken_more : (xs ys : List HandlerCall) → taken (xs ++ ys) ≡ taken xs ++ taken ys
taken_more [] ys = refl
taken_more (calls.TookUp m ∷ more) ys = ap (λ l. option_to_list m ++ l) (taken_more more ys) ∙ sym (append_assoc (option_to_list m) (taken more) (taken ys))
taken_more (calls.Heard m ∷ more) ys = taken_more more ys
taken_more (calls.Found from ∷ more) ys = taken_more more ys

-- the request that waits, where one does, is said
pub passes_said : (waiting now : Option Message) (made made_now : List HandlerCall) (said : List ℕ) → AreWritten (option_to_list waiting) said
    → now ≡ None → made_now ≡ made → PassesOn waiting made said now made_now
passes_said waiting now made made_now said written is same = record {
  ups = [];
  called = same ∙ sym (append-nil made);
  requests = option_to_list waiting;
  texts = written;
  each = ap (λ w. option_to_list waiting ++ option_to_list w) (sym is);
}

-- the next request is taken up, where there is one, and waits
pub passes_up : (waiting up : Option Message) (made made_now : List HandlerCall) → waiting ≡ None → made_now ≡ made ++ calls.TookUp up ∷ []
    → PassesOn waiting made [] up made_now
passes_up waiting up made made_now none called = record {
  ups = up ∷ [];
  called = called;
  requests = [];
  texts = refl;
  each = ap (λ w. option_to_list w ++ (option_to_list up ++ [])) none ∙ append-nil (option_to_list up);
}

pub none_of : (waiting : Option Message) → is_some waiting ≡ false → waiting ≡ None
none_of None is = refl
none_of (Some m) is = cc

pub passes_more : (w0 w1 w2 : Option Message) (m0 m1 m2 : List HandlerCall) (a b : List ℕ) → PassesOn w0 m0 a w1 m1 → PassesOn w1 m1 b w2 m2 → PassesOn w0 m0 (a ++ b) w2 m2
passes_more w0 w1 w2 m0 m1 m2 a b first more = record {
  ups = first.ups ++ more.ups;
  called = more.called ∙ ap (λ l. l ++ ups_of more.ups) first.called ∙ append_assoc m0 (ups_of first.ups) (ups_of more.ups)
      ∙ ap (λ l. m0 ++ l) (sym (ups_append first.ups more.ups));
  requests = first.requests ++ more.requests;
  texts = written_append first.requests more.requests a b first.texts more.texts;
  each = ap (λ l. option_to_list w0 ++ taken l) (ups_append first.ups more.ups)
      ∙ ap (λ l. option_to_list w0 ++ l) (taken_more (ups_of first.ups) (ups_of more.ups))
      ∙ sym (append_assoc (option_to_list w0) (taken (ups_of first.ups)) (taken (ups_of more.ups)))
      ∙ ap (λ l. l ++ taken (ups_of more.ups)) first.each
      ∙ append_assoc first.requests (option_to_list w1) (taken (ups_of more.ups))
      ∙ ap (λ l. first.requests ++ l) more.each
      ∙ sym (append_assoc first.requests more.requests (option_to_list w2));
}

-- requests were said behind what is to be written
abbrev pub Puts : UpstreamStateValue → UpstreamStateValue → List ℕ → List ℕ → Type 0
Puts old new out out_now = (said : List ℕ) × PassesOn old.waiting old.made said new.waiting new.made × (out_now ≡ out ++ said)

pub puts_none : (f : UpstreamStateValue) (out : List ℕ) → Puts f f out out
puts_none f out = (
  [],
  record { ups = []; called = sym (append-nil f.made); requests = []; texts = refl; each = append-nil (option_to_list f.waiting) },
  sym (append-nil out),
)

pub puts_said : (old new : UpstreamStateValue) (out out_now said : List ℕ) → AreWritten (option_to_list old.waiting) said → out_now ≡ out ++ said
    → new ≡ record old { waiting = None } → Puts old new out out_now
puts_said old new out out_now said written is after =
    (said, passes_said old.waiting new.waiting old.made new.made said written (ap (λ f. f.waiting) after) (ap (λ f. f.made) after), is)

pub puts_up : (old new : UpstreamStateValue) (out : List ℕ) → is_some old.waiting ≡ false
    → new ≡ record old { waiting = new.waiting; made = old.made ++ calls.TookUp new.waiting ∷ [] } → Puts old new out out
puts_up old new out none after =
    ([], passes_up old.waiting new.waiting old.made new.made (none_of old.waiting none) (ap (λ f. f.made) after), sym (append-nil out))

pub puts_more : (a b c : UpstreamStateValue) (x y z : List ℕ) → Puts a b x y → Puts b c y z → Puts a c x z
puts_more a b c x y z first more = (
  first.0 ++ more.0,
  passes_more a.waiting b.waiting c.waiting a.made b.made c.made first.0 more.0 first.1 more.1,
  more.2 ∙ ap (λ l. l ++ more.0) first.2 ∙ append_assoc x first.0 more.0,
)

-- what was taken up is said, or waits where it can't be
pub puts_tried : {X E : Type 0} (r : Result X E) (old new : UpstreamStateValue) (out out_now : List ℕ)
    → OnOk r ((said : List ℕ) × AreWritten (option_to_list old.waiting) said × (out_now ≡ out ++ said) × (new ≡ record old { waiting = None }))
    → OnErr r ((new ≡ old) × (out_now ≡ out)) → Puts old new out out_now
puts_tried (Ok x) old new out out_now ok err = puts_said old new out out_now ok.0 ok.1 ok.2 ok.3
puts_tried (Err e) old new out out_now ok err =
    subst (λ (f : UpstreamStateValue). Puts old f out out_now) (sym err.0) (subst (λ (l : List ℕ). Puts old old out l) (sym err.1) (puts_none old out))

-- ---- over a session's whole life

handed_takes_none : (stage : SyncState) (event : UpEvent) → taken (handed stage event) ≡ []
handed_takes_none stage (ReplyFor number a) = refl
handed_takes_none stage (Locked name) = refl
handed_takes_none stage (Stolen name) = refl
handed_takes_none stage (Send m) = refl
handed_takes_none stage (Links ls) = refl
handed_takes_none stage Nothing = refl

found_takes_none : (before after : SyncState) (from : ℕ) → taken (found before after from) ≡ []
found_takes_none Asking (At id) from = refl
found_takes_none Asking Opening from = refl
found_takes_none Asking Asking from = refl
found_takes_none Asking Ended from = refl
found_takes_none Opening after from = refl
found_takes_none (At id) after from = refl
found_takes_none Ended after from = refl

passed_hears : (old new : UpstreamStateValue) (text said : List ℕ) → Hears old text said new → Passed old (Answered text said ∷ []) new
passed_hears old new text said h =
    let hands = handed old.up.stage h.heard.event in
    let finds = found old.up.stage h.heard.stage (begins_at h.heard) in
    let none : taken (hands ++ finds) ≡ [] = taken_more hands finds
    ∙ ap (λ l. l ++ taken finds) (handed_takes_none old.up.stage h.heard.event)
    ∙ found_takes_none old.up.stage h.heard.stage (begins_at h.heard) in
    record {
      added = hands ++ finds;
      made = ap (λ f. f.made) h.after;
      requests = [];
      are_said = refl;
      each = ap (λ l. option_to_list old.waiting ++ l) none ∙ append-nil (option_to_list old.waiting) ∙ ap (λ f. option_to_list f.waiting) (sym h.after);
    }

-- nothing was done with the handler, and no request was said
passed_still : (old new : UpstreamStateValue) (said : List ℕ) → new.waiting ≡ old.waiting → new.made ≡ old.made → Passed old (Told said ∷ []) new
passed_still old new said waiting made = record {
  added = [];
  made = made ∙ sym (append-nil old.made);
  requests = [];
  are_said = ([], [], refl, inl refl, refl);
  each = append-nil (option_to_list old.waiting) ∙ ap option_to_list (sym waiting);
}

passed_by : (stage : SyncState) (old new : UpstreamStateValue) (said : List ℕ) → Passes stage old said new → Passed old (Told said ∷ []) new
passed_by (At id) old new said p = record {
  added = ups_of p.0.ups;
  made = p.0.called;
  requests = p.0.requests;
  are_said = (p.0.requests, [], sym (append-nil p.0.requests), inr p.0.texts, refl);
  each = p.0.each;
}
passed_by Opening old new said p = passed_still old new said (ap (λ f. f.waiting) p.1) (ap (λ f. f.made) p.1)
passed_by Asking old new said p = passed_still old new said (ap (λ f. f.waiting) p.1) (ap (λ f. f.made) p.1)
passed_by Ended old new said p = passed_still old new said (ap (λ f. f.waiting) p.1) (ap (λ f. f.made) p.1)

passed_asks : (begun : Bool) (old new : UpstreamStateValue) (said : List ℕ) → AsksBy begun old said new → Passed old (Told said ∷ []) new
passed_asks false old new said asks = passed_still old new said (ap (λ f. f.waiting) asks.1) (ap (λ f. f.made) asks.1)
passed_asks true old new said asks = passed_by old.up.stage old new said asks

said_append : (first more : List Said) (xs ys : List Message) → AreSaid first xs → AreSaid more ys → AreSaid (first ++ more) (xs ++ ys)
said_append [] more xs ys one other = subst (λ (l : List Message). AreSaid more (l ++ ys)) (sym one) other
said_append (Answered m t ∷ first) more xs ys one other = said_append first more xs ys one other
said_append (Told t ∷ first) more xs ys one other =
    (one.0, one.1 ++ ys, ap (λ l. l ++ ys) one.2 ∙ append_assoc one.0 one.1 ys, one.3, said_append first more one.1 ys one.4 other)

passed_then : (a b c : UpstreamStateValue) (first more : List Said) → Passed a first b → Passed b more c → Passed a (first ++ more) c
passed_then a b c first more p q = record {
  added = p.added ++ q.added;
  made = q.made ∙ ap (λ l. l ++ q.added) p.made ∙ append_assoc a.made p.added q.added;
  requests = p.requests ++ q.requests;
  are_said = said_append first more p.requests q.requests p.are_said q.are_said;
  each = ap (λ l. option_to_list a.waiting ++ l) (taken_more p.added q.added)
      ∙ sym (append_assoc (option_to_list a.waiting) (taken p.added) (taken q.added))
      ∙ ap (λ l. l ++ taken q.added) p.each
      ∙ append_assoc p.requests (option_to_list b.waiting) (taken q.added)
      ∙ ap (λ l. p.requests ++ l) q.each
      ∙ sym (append_assoc p.requests q.requests (option_to_list c.waiting));
}

-- whatever was said, the requests that were taken up were said, each once and in order
pub runs_passed : (said : List Said) (old new : UpstreamStateValue) → Runs Hears Asks said old new → Passed old said new
runs_passed [] old new is = record {
  added = [];
  made = ap (λ f. f.made) is ∙ sym (append-nil old.made);
  requests = [];
  are_said = refl;
  each = append-nil (option_to_list old.waiting) ∙ ap (λ f. option_to_list f.waiting) (sym is);
}
runs_passed (Answered text t ∷ more) old new runs =
    passed_then old runs.0 new (Answered text t ∷ []) more (passed_hears old runs.0 text t runs.1) (runs_passed more runs.0 new runs.2)
runs_passed (Told t ∷ more) old new runs =
    passed_then old runs.0 new (Told t ∷ []) more (passed_asks old.has_begun old runs.0 t runs.1) (runs_passed more runs.0 new runs.2)
