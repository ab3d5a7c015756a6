-- Lists of steps.
use Rattle.std.proofs.Common.{◌≡◌, ℕ, List, [], ◌∷◌, ◌++◌, Option, refl, sym, ap, subst}
use mathlib.Core.List.{IsPrefix}
use Rattle.ovs_source.specs.SourceDesk.{SourceDeskValue}
use Rattle.ovs_recorded_source.specs.Steps.{SourceState, Does, DoesAll, RecordedValue, IsAsked, IsStep, EndsRun, EndsWith, begun, immediate_reply_of}
use Rattle.ovs_authority.specs.Answers.{reply_of}
use Rattle.ovs_authority.specs.declared.response.Response.{Response}
use Rattle.ovs_authority.specs.declared.ask.Ask.{Ask}
use Rattle.ovs_links.specs.declared.link.Link.{Link}
use Rattle.ovs_wire.specs.declared.message.Message.{Message}
use Rattle.ovs_recorded_source.specs.declared.step.SourceStep.{SourceStep}
use Rattle.ovs_recorded_source.specs.declared.step.SourceStep.TheVariants as steps

-- one step more
pub does_last : (d e f : SourceState) (made : List SourceStep) (s : SourceStep) → DoesAll d made e → Does s e f → DoesAll d (made ++ s ∷ []) f
does_last d e f [] s all does = (f, subst (λ x. Does s x f) all does, refl)
does_last d e f (t ∷ made) s all does = (all.0, all.1, does_last all.0 e f made s all.2 does)

-- a step behind all others stands behind a beginning of these
pub ends : (s : SourceStep) (known front : List SourceStep) → IsPrefix known front → EndsWith s known (front ++ s ∷ [])
ends s known front p = record { others = p.0; all = ap (λ x. x ++ s ∷ []) (sym p.1) }

-- a step is the last of the run that it is made in
pub ends_run : (start : SourceDeskValue) (s : SourceStep) (before after : RecordedValue) → IsStep start s before after → EndsRun start s
ends_run start s before after is = record {
  earlier = before.steps;
  run = (after.state, does_last (begun start) before.state after.state before.steps s is.made is.does);
}

-- the step of a request, of what was asked and of the state before
pub asked_step : (start : SourceDeskValue) (session : ℕ) (ask said : Ask) (a : Response) (link : Option Link) (given : Option Message) (before was after : RecordedValue) → said ≡ ask → was ≡ before
    → given ≡ immediate_reply_of ask.verb (reply_of a ask.id) → IsStep start (steps.Asked session said (reply_of a said.id) link) was after
    → IsAsked (λ s. IsStep start s before after) session ask given
asked_step start session ask said a link given before was after asks same immediate_reply is = record {
  reply = reply_of a ask.id;
  link = link;
  immediate_reply = immediate_reply;
  is = subst (λ (b : RecordedValue). IsStep start (steps.Asked session ask (reply_of a ask.id) link) b after) same
      (subst (λ (x : Ask). IsStep start (steps.Asked session x (reply_of a x.id) link) was after) asks is);
}
