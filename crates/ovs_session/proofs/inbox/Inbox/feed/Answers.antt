use Rattle.std.proofs.Common.{◌≡◌, ◌∙◌, ◌+◌, [], ap, arith, min, length}
use Rattle.ovs_session.proofs.Framed.{told_fault}
use Rattle.ovs_session.proofs.Room.{feeds_room}
use Rattle.ovs_session.proofs.inbox.Inbox.feed.Goals as goal

pub invariant_of-self-2 : goal.invariant_of-self-2
invariant_of-self-2 c =
    let told = c.in_ok-self-inside.ensures.ok in
    let i = c.self.inside in
    let most = c.min-self-inside.result in
    let none : i.framer.waiting ≡ [] = ap (λ f. f.waiting) c.self.view_is ∙ c.requires.none in
    let sum = c.saturating_add.ensures in
    let at_most = c.min-self-inside.ensures in
    let limit = c.limit-most_bytes.ensures.value in
    let is : most ≡ min (i.rest + length c.args.piece.now) i.framer.limit = omega (arith, sum, at_most, limit) in (
      told.1 ∙ told_fault _ _ (c.feed.ensures.answer told.0),
      feeds_room i.framer c.feed.new.self c.args.piece.now i.most i.rest i.piece most
          c.self.invariant.1 (c.feed.ensures.fed told.0) none is,
    )
