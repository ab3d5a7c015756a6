use Rattle.std.proofs.Common.{ap, sym, ◌∙◌, length, arith}
use Rattle.ovs_sync.proofs.Moves.{merges}
use Rattle.ovs_sync.proofs.feed.feed.Feed.join.Goals as goal

pub absorb-requires-clause-rule : goal.absorb-requires-clause-rule
absorb-requires-clause-rule g c =
    let f = c.self.invariant.0.2 in
    let e = c.end.invariant.2 in
    let seen = c.self.view_is in
    let ended = c.end.view_is in
    let known = ap (λ v. length v.returned) seen in
    merges _ _ _ _ (ap (λ v. v.takes) f) (ap (λ v. v.sends) e)
    (ap (λ v. v.number) e ∙ ap (λ v. v.0) ended ∙ c.requires.next ∙ sym known)
    (omega (arith, known, ap (λ v. v.ends) seen, ap (λ v. v.ends) f, c.requires.made))
