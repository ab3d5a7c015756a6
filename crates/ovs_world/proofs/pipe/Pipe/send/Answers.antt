use Rattle.std.proofs.Common.{◌≡◌, ◌++◌, ◌∷◌, [], ℕ, List, drop, sym, ◌∙◌, ap, subst}
use Rattle.std.proofs.lemmas.List.{drop-append-le}
use Rattle.ovs_world.specs.Carrying.{Line, Carries}
use Rattle.ovs_world.proofs.Carried.{carries_sent}
use Rattle.ovs_world.proofs.pipe.Pipe.send.Goals as goal

pub returns-clause-carried : goal.returns-clause-carried
returns-clause-carried c messages carries =
    let text = c.in_ok-text.text.items in
    let line : Line = record { framing = c.self.inside.framer; flight = drop c.self.inside.fed c.self.inside.sent.items } in
    let before : Carries line messages = subst (λ (l : Line). Carries l messages) (sym c.self.view_is) carries in
    let behind : drop c.self.inside.fed (c.self.inside.sent.items ++ text) ≡ drop c.self.inside.fed c.self.inside.sent.items ++ text =
    drop-append-le c.self.inside.fed c.self.inside.sent.items text c.self.invariant.0 in
    let all : c.extend_from_slice.new.self.items ≡ c.self.inside.sent.items ++ text = cc (c.in_ok-extend_from_slice.ensures.items, c.deref.ensures.value) in
    subst (λ (l : List ℕ). Carries (record { framing = c.self.inside.framer; flight = l }) (messages ++ c.args.message.now ∷ []))
    (sym (ap (λ l. drop c.self.inside.fed l) all ∙ behind))
    (carries_sent line messages c.args.message.now text before (record { written = c.in_ok-text.ensures.written; compact = c.in_ok-text.ensures.text }))
