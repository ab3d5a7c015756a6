use Rattle.std.proofs.Common.{rules, ◌≡◌, ◌∙◌, ap, option_map}
use Rattle.slab.specs.Slab.{slab_len}
use Rattle.ovs_worker.proofs.Empty.{empty_slab}
use Rattle.ovs_worker.proofs.event_loop.EventLoop.round.Goals as goal

pub returns-then-wakeup-clause-back : goal.returns-then-wakeup-clause-back
returns-then-wakeup-clause-back g c is key =
    let none : slab_len c.go_on.new.self.sessions.slots ≡ 0 = search rules in
    c.go_on.new.self.agree key ∙ ap (λ s. option_map (λ slot. (slot.read_from.value, slot.write_to.value)) s) (empty_slab c.go_on.new.self.sessions.slots key none)
