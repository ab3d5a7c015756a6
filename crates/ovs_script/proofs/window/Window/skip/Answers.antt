use Rattle.std.proofs.Common.{ℕ, ◌≤◌, List, length, sym, subst}
use Rattle.ovs_script.proofs.Breaks.{slice_range-skip}
use Rattle.ovs_script.proofs.window.Window.skip.Goals as goal

pub returns : goal.returns
returns c =
    let within = subst (λ (l : List ℕ). c.args.count ≤ length l) (sym c.self.view_is) c.requires.within in
    record { rest = rw (← c.self.view_is) (slice_range-skip c.self.inside.room.items c.self.inside.from c.self.inside.to c.args.count within) }
