use Rattle.std.proofs.lemmas.Grind.{common_steps}
use Rattle.std.proofs.Common.{◌≡◌, ◌+◌, ◌-◌, ℕ, List, [], take, drop, drop-drop, drop_of_length-le, length-drop, sym, ◌∙◌, ap, subst, arith}
use Rattle.std.proofs.lemmas.List.{take-append-drop}
use Rattle.ovs_wire.specs.Framing.{Feeds}
use Rattle.ovs_world.specs.Carrying.{Line, Carries}
use Rattle.ovs_world.proofs.Carried.{carries_fed, carries_refused}
use Rattle.ovs_world.proofs.pipe.Pipe.feed.Goals as goal

-- the slice from one place on that is n long
piece_is : (items now : List ℕ) (from n : ℕ) → now ≡ items → take ((from + n) - from) (drop from now) ≡ take n (drop from items)
piece_is items now from n is =
    let long : (from + n) - from ≡ n = omega arith in
    ap (λ k. take k (drop from now)) long ∙ ap (λ l. take n (drop from l)) is

pub returns-in_err-feed-clause-carried : goal.returns-in_err-feed-clause-carried
returns-in_err-feed-clause-carried c messages carries =
    let items = c.self.inside.sent.items in
    let from = c.self.inside.fed in
    let n = c.min.result in
    carries_refused c.self.inside.framer c.feed.new.self (drop from items) (take n (drop from items)) (drop n (drop from items)) messages c.in_err-feed.field-0.0
    (subst (λ (l : Line). Carries l messages) (sym c.self.view_is) carries) (sym (take-append-drop n (drop from items)))
    (λ other. subst (λ (l : List ℕ). Feeds c.self.inside.framer l c.feed.new.self) (piece_is items c.deref.result.now from n c.deref.ensures.value) (c.in_err-feed.ensures.fed other))
    c.in_err-feed.ensures.answer c.in_err-feed.ensures.memory

pub returns-then-end-len-clause-carried : goal.returns-then-end-len-clause-carried
returns-then-end-len-clause-carried c messages carries =
    let items = c.self.inside.sent.items in
    let from = c.self.inside.fed in
    let n = c.min.result in
    let fed = carries_fed c.self.inside.framer c.feed.new.self (drop from items) (take n (drop from items)) (drop n (drop from items)) messages
    (subst (λ (l : Line). Carries l messages) (sym c.self.view_is) carries) (sym (take-append-drop n (drop from items)))
    (subst (λ (l : List ℕ). Feeds c.self.inside.framer l c.feed.new.self) (piece_is items c.deref.result.now from n c.deref.ensures.value) (c.in_ok-feed.ensures.fed (λ e. cc))) in
    let none : drop n (drop from items) ≡ [] =
    drop_of_length-le (drop from items) (omega (arith, length-drop from items, c.if-end-len.true, c.len.ensures, c.self.inside.sent.ok)) in
    subst (λ (l : List ℕ). Carries (record { framing = c.feed.new.self; flight = l }) messages) (none ∙ sym c.clear.ensures.items) fed

pub returns-else-end-len-clause-carried : goal.returns-else-end-len-clause-carried
returns-else-end-len-clause-carried c messages carries =
    let items = c.self.inside.sent.items in
    let from = c.self.inside.fed in
    let n = c.min.result in
    let fed = carries_fed c.self.inside.framer c.feed.new.self (drop from items) (take n (drop from items)) (drop n (drop from items)) messages
    (subst (λ (l : Line). Carries l messages) (sym c.self.view_is) carries) (sym (take-append-drop n (drop from items)))
    (subst (λ (l : List ℕ). Feeds c.self.inside.framer l c.feed.new.self) (piece_is items c.deref.result.now from n c.deref.ensures.value) (c.in_ok-feed.ensures.fed (λ e. cc))) in
    subst (λ (l : List ℕ). Carries (record { framing = c.feed.new.self; flight = l }) messages) (drop-drop n from items) fed

pub returns-then-end-len-clause-moved : goal.returns-then-end-len-clause-moved
returns-then-end-len-clause-moved c = grind (arith, common_steps)

pub returns-else-end-len-clause-moved : goal.returns-else-end-len-clause-moved
returns-else-end-len-clause-moved c = grind (arith, common_steps)
