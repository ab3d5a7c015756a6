use Rattle.std.proofs.Common.{◌≡◌, ◌++◌, ◌∙◌, take, drop, get_or, set, map, ap, arith, add-one}
use Rattle.ovs_world.specs.Worlds.{cut_of}
use Rattle.ovs_world.proofs.Restarted.{one_cut}
use Rattle.ovs_world.proofs.world.cut_sessions_of.Goals as goal

pub loop-session-preserved : goal.loop-session-preserved
loop-session-preserved c =
    let i = c.loop-session.session-index in
    let os = c.args.sessions.now in
    let r = c.args.relay in
    let so_far : c.loop-session.sessions ≡ map (cut_of r) (take i os) ++ drop i os = c.loop-session.invariant in
    rw add-one (
    ap (set c.loop-session.sessions i) c.cut_if_end.ensures.cut
    ∙ ap (λ ys. set ys i (cut_of r (get_or ys i c.session-item.result))) so_far
    ∙ one_cut r os i c.session-item.result (omega arith))
